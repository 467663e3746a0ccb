-- A bare body as a program of one method: ECMA-335 I.12.3.2, II.15.4. What a body alone does (the crate cil_state) is
-- what a program does whose entry has this body.
use Rattle.std.specs.Prelude.{◌≡◌, ◌≤◌, map, Some, None}
use Rattle.ty_terms.specs.declared.names.MethodName.{MethodName}
use Rattle.ty_terms.specs.declared.ty.Primitive.{Primitive}
use Rattle.ty_terms.specs.declared.ty.Ty.TheVariants.{Prim}
use Rattle.il_code.specs.declared.body.Body.{Body}
use Rattle.ty_names.specs.Modules.{World}
use Rattle.ty_load.specs.Entry.{entry_of}
use Rattle.il_verify.specs.Scope.{Callee, callee_of}
use Rattle.cil_state.specs.State.{CilState as BareState, Frame as BareFrame, Slot, Int32}
use Rattle.cil_world.specs.CallSteps.{method_frame}
use Rattle.cil_world.specs.Entering.{Entry, entry, initializer_of}
use Rattle.cil_world.specs.State.{CilState, Frame, Setting}
use Rattle.cil_world.specs.Step.{entry_args, no_frames}
use Rattle.cil_world.specs.Values.{Value}

-- A world begins with a body, under a setting: its entry may be entered and has this body, gives an int32, has room on
-- the stack, and belongs to a type without an initializer. Which opcodes the body has isn't asked.
pub record BeginsWith (world : World) (setting : Setting) (body : Body) : Type 0 where
  pub name : MethodName
  pub callee : Callee
  pub found : Entry
  pub begins : entry_of world ≡ Some name
  pub called : callee_of world name ≡ Some callee
  pub entered : entry world callee.name ≡ Some found
  pub has_body : found.body ≡ body
  pub gives : found.scope.result ≡ Prim Primitive.I4
  pub room : found.bytes ≤ setting.bounds.stack
  pub quiet : initializer_of world callee.name.owner ≡ None

-- ---- a bare state as one of the program

abbrev pub as_value : Slot → Value
as_value (Int32 n) = Value.Int32 n

-- a frame of the entry, with this offset and this stack
abbrev pub as_frame : World → Callee → Entry → BareFrame → Frame
as_frame world callee found frame =
    record (method_frame world callee.name found (entry_args callee.params)) {
      stack = map as_value frame.stack;
      offset = frame.offset;
    }

-- with nothing made, written or charged
abbrev pub as_state : World → Callee → Entry → BareState → CilState
as_state world callee found state =
    record no_frames { frames = map (as_frame world callee found) state.frames }

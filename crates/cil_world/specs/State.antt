-- The state of a CIL program: ECMA-335 I.12.3.1, I.12.3.2, I.12.4.2.
use Rattle.std.specs.Prelude.{ℕ, zero, suc, ◌==◌, ◌&&◌, Bool, if◌then◌else◌, List, [], ◌∷◌, ◌++◌, length, find}
use Rattle.std.specs.Prelude.{Option, Some, None}
use Rattle.std.specs.Option.{option_map}
use Rattle.num_core.specs.declared.bounds.Bounds.{Bounds}
use Rattle.ty_terms.specs.declared.names.FieldName.{FieldName}
use Rattle.ty_terms.specs.declared.names.MethodName.{MethodName}
use Rattle.ty_terms.specs.declared.nodes.Node.{Node}
use Rattle.ty_terms.specs.declared.ty.Ty.{Ty}
use Rattle.ty_load.specs.Members.{same_type}
use Rattle.cil_world.specs.Values.{Value, Reference}

-- ---- what a run goes by beside its world

-- The bounds of heap and stack; and the nodes to which look-ups by name are kept, where a program is run trimmed.
pub record Setting : Type 0 where
  pub bounds : Bounds
  pub nodes : Option (List Node)

-- ---- objects

-- the values of the fields of a class's object, the topmost class first; the elements of a vector; the units of a
-- string; a boxed value
pub data Holding : Type 0 where
  Fields Elements : List Value → Holding
  Units : List ℕ → Holding
  Boxed : Value → Holding

-- an object knows how many bytes of the heap were used before it was made
pub record Made : Type 0 where
  pub ty : Ty
  pub holds : Holding
  pub before : ℕ

-- ---- frames

-- What a frame runs: a method; or a stub of the runtime, which runs the initializer of a type, and then what triggered
-- it unless that is the begin of the program, or makes an object for a Type, or calls a method for a MethodInfo.
pub data Running : Type 0 where
  Code : MethodName → Running
  Initializes : Ty → (resumes : Bool) → Running
  Makes : Ty → Running
  Invokes : MethodName → Running

-- the object, or the value type's value, for which a constructor runs above
pub data Making : Type 0 where
  NewObject : Reference → Making
  NewValue : Value → Making

-- where control goes once no handler is left to run: on to an offset, or into the catch clause of a frame
pub data Goal : Type 0 where
  GoTo : (offset : ℕ) → Goal
  CatchIn : Reference → (frame clause : ℕ) → Goal

-- a finally or fault handler that runs, the clauses whose handlers are to run behind it, and what they run for
pub record Pending : Type 0 where
  pub handler : ℕ
  pub left : List ℕ
  pub goal : Goal

-- what a catch handler, by the number of its clause, has caught
pub record Caught : Type 0 where
  pub clause : ℕ
  pub object : Reference

-- A call that isn't over: its arguments and locals, its evaluation stack, the top first, and the offset of its next
-- instruction, or of the call for which it waits; of a stub its next sentence, by a number. What a frame waits for,
-- what its catch handlers have caught, and what is pending in it, the innermost first.
pub record Frame : Type 0 where
  pub runs : Running
  pub args : List Value
  pub locals : List Value
  pub stack : List Value
  pub offset : ℕ
  pub making : Option Making
  pub caught : List Caught
  pub pending : List Pending

-- ---- initializers

-- one that isn't listed is new
pub data Initializing : Type 0 where
  Begun Done : Initializing
  Failed : Reference → Initializing

-- ---- searches

-- The top frame does its next instruction; or a handler is looked for, and the clause that is tested next is the n-th
-- that holds the offset of a frame, the inner ones first; or the frames above a catch are unwound, and in the top
-- frame these handlers are still to run. Frames are counted from the bottom.
pub data Phase : Type 0 where
  Going : Phase
  Searching : Reference → (frame place : ℕ) → Phase
  Unwinding : Reference → (frame clause : ℕ) → (left : List ℕ) → Phase

-- ---- the state

-- The frames, the innermost first; the objects in the order in which they were made; the static fields that were
-- written; the initializers that were begun; and how many bytes of the heap are used.
pub record CilState : Type 0 where
  pub frames : List Frame
  pub objects : List Made
  pub statics : List (FieldName × Value)
  pub initializers : List (Ty × Initializing)
  pub heap : ℕ
  pub phase : Phase

-- why a run can't go on: this never comes where the methods are verified
pub data CilCause : Type 0 where
  NoStep : CilCause

-- ---- parts by name

abbrev pub with_frames : List Frame → CilState → CilState
with_frames frames state = record state { frames = frames }

abbrev pub with_phase : Phase → CilState → CilState
with_phase phase state = record state { phase = phase }

-- the item of a place changed
abbrev pub changed_at : {A : Type 0} → ℕ → (A → A) → List A → List A
changed_at n change [] = []
changed_at zero change (item ∷ rest) = change item ∷ rest
changed_at (suc n) change (item ∷ rest) = item ∷ changed_at n change rest

-- the frame of a number, counted from the bottom
abbrev pub frame_at : List Frame → ℕ → Option Frame
frame_at [] number = None
frame_at (frame ∷ below) number = if length below == number then Some frame else frame_at below number

-- the frames from that of a number downward
abbrev pub frames_from : List Frame → ℕ → List Frame
frames_from [] number = []
frames_from (frame ∷ below) number = if length below == number then frame ∷ below else frames_from below number

abbrev pub frame_changed : ℕ → (Frame → Frame) → List Frame → List Frame
frame_changed number change [] = []
frame_changed number change (frame ∷ below) =
    if length below == number then change frame ∷ below else frame ∷ frame_changed number change below

abbrev pub change_frame : ℕ → (Frame → Frame) → CilState → CilState
change_frame number change state = with_frames (frame_changed number change state.frames) state

abbrev pub top_changed : (Frame → Frame) → List Frame → List Frame
top_changed change [] = []
top_changed change (frame ∷ below) = change frame ∷ below

abbrev pub change_top : (Frame → Frame) → CilState → CilState
change_top change state = with_frames (top_changed change state.frames) state

abbrev pub with_stack : List Value → Frame → Frame
with_stack stack frame = record frame { stack = stack }

abbrev pub pushes : List Value → Frame → Frame
pushes stack frame = record frame { stack = stack ++ frame.stack }

abbrev pub at_offset : ℕ → Frame → Frame
at_offset offset frame = record frame { offset = offset }

abbrev pub waits_for : Option Making → Frame → Frame
waits_for making frame = record frame { making = making }

-- a frame at the begin of its code, with nothing on its stack
abbrev pub new_frame : Running → List Value → List Value → Frame
new_frame runs args locals =
    record {
      runs = runs;
      args = args;
      locals = locals;
      stack = [];
      offset = 0;
      making = None;
      caught = [];
      pending = [];
    }

-- ---- the sentences of stubs, by their numbers

-- the first one; and that of a stub for a call by name which counts the arguments, and the one which tests them
abbrev pub begins_at : ℕ
begins_at = 0

abbrev pub counts_at : ℕ
counts_at = 6

abbrev pub tests_at : ℕ
tests_at = 7

-- the one that calls; while an initializer runs that the call triggers; while what is called runs; behind its return
abbrev pub calls_at : ℕ
calls_at = 1

abbrev pub triggers_at : ℕ
triggers_at = 5

abbrev pub waits_at : ℕ
waits_at = 2

abbrev pub returned_at : ℕ
returned_at = 3

-- the one of a stub that has caught
abbrev pub catches_at : ℕ
catches_at = 4

-- ---- statics and initializers

abbrev pub same_field : FieldName → FieldName → Bool
same_field a b = same_type a.owner b.owner && a.row == b.row

abbrev pub static_in : List (FieldName × Value) → FieldName → Option Value
static_in statics name = option_map (λ entry. entry.1) (find (λ entry. same_field entry.0 name) statics)

abbrev pub initializing : CilState → Ty → Option Initializing
initializing state ty = option_map (λ entry. entry.1) (find (λ entry. same_type entry.0 ty) state.initializers)

-- what was written last stands first
abbrev pub with_static : FieldName → Value → CilState → CilState
with_static name value state = record state { statics = (name, value) ∷ state.statics }

abbrev pub with_initializing : Ty → Initializing → CilState → CilState
with_initializing ty is state = record state { initializers = (ty, is) ∷ state.initializers }

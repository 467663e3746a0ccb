-- What an operation can do to a state, as the groups of operations answer it.
use Rattle.std.specs.Prelude.{ℕ, ℤ, Bool, true, false, List, Option, Some, None, Result, Ok, Err, [], ◌∷◌}
use Rattle.ty_terms.specs.declared.ty.Ty.{Ty}
use Rattle.ty_names.specs.Modules.{World}
use Rattle.il_verify.specs.Raises.{Raised}
use Rattle.cil_world.specs.Entering.{Ending, StackBound, bytes_of_running, has_stack}
use Rattle.cil_world.specs.State.{CilState, Frame, Setting, with_frames}
use Rattle.cil_world.specs.Values.{Value, Reference, Pointer}

pub data Did : Type 0 where
  -- the results are pushed, and the frame moves on to the next instruction
  Gives : CilState → List Value → Did
  -- the frame goes on at an offset
  GoesTo : CilState → (offset : ℕ) → Did
  -- an exception of the runtime's own is made and thrown
  Raises : CilState → Raised → Did
  -- the same, of a namespace of the core, by its name; and one behind which another object stands
  RaisesNamed : CilState → (namespace name : List ℕ) → Did
  RaisesOf : CilState → (namespace name : List ℕ) → Reference → Did
  -- an object that is there is thrown
  Throws : CilState → Reference → Did
  -- all is said: frames were pushed or popped, or a search goes on
  Moves : CilState → Did
  -- the initializer of a type runs first
  Triggers : Ty → Did
  -- the program ends with a status of its own, or with 134
  Finishes : (status : ℕ) → Did
  Ends : Ending → Did
  -- a byte is written, or read into the place of the result
  Writes : CilState → (byte : ℕ) → Did
  Reads : CilState → Did
  -- no step: the operands aren't what the operation takes
  Cannot : Did

abbrev pub given : CilState → Value → Did
given state value = Gives state (value ∷ [])

abbrev pub given_if : CilState → Option Value → Did
given_if state (Some value) = given state value
given_if state None = Cannot

-- a state in which something was written, and no result
abbrev pub written_if : Option CilState → Did
written_if (Some state) = Gives state []
written_if None = Cannot

abbrev pub given_or_raised : CilState → Option (Result Value Raised) → Did
given_or_raised state (Some (Ok value)) = given state value
given_or_raised state (Some (Err raised)) = Raises state raised
given_or_raised state None = Cannot

-- ---- operands

-- An operation by so many operands; on another number of them there is no step.
abbrev pub on_none : List Value → Did → Did
on_none [] did = did
on_none (value ∷ rest) did = Cannot

abbrev pub on_one : List Value → (Value → Did) → Did
on_one (value ∷ []) next = next value
on_one _ next = Cannot

abbrev pub on_two : List Value → (Value → Value → Did) → Did
on_two (first ∷ (second ∷ [])) next = next first second
on_two _ next = Cannot

abbrev pub on_three : List Value → (Value → Value → Value → Did) → Did
on_three (first ∷ (second ∷ (third ∷ []))) next = next first second third
on_three _ next = Cannot

-- a reference, a pointer, an int32, and what is there
abbrev pub on_reference : Value → (Reference → Did) → Did
on_reference (Value.Object reference) next = next reference
on_reference _ next = Cannot

abbrev pub on_pointer : Value → (Pointer → Did) → Did
on_pointer (Value.Address pointer) next = next pointer
on_pointer _ next = Cannot

abbrev pub on_int32 : Value → (ℤ → Did) → Did
on_int32 (Value.Int32 n) next = next n
on_int32 _ next = Cannot

abbrev pub on_some : {A : Type 0} → Option A → (A → Did) → Did
on_some (Some item) next = next item
on_some None next = Cannot

-- ---- frames

abbrev pub pushed : Frame → CilState → CilState
pushed frame state = with_frames (frame ∷ state.frames) state

abbrev pub pushed_if : Bool → Frame → CilState → Did
pushed_if false frame state = Ends StackBound
pushed_if true frame state = Moves (pushed frame state)

-- a frame above the others, if the stack has room for it
abbrev pub pushes_frame : World → Setting → CilState → Frame → Did
pushes_frame world setting state frame =
    pushed_if (has_stack world setting state.frames (bytes_of_running world frame.runs)) frame state

-- The laws of the simulation, an operation each, in groups.
use Rattle.std.specs.Prelude.{◌≡◌, ℕ, List, [], ◌∷◌, ℤ, slice_get, Option, Some}
use Rattle.num_core.specs.Run.{Streams}
use Rattle.num_core.specs.declared.fix.FixKind.{FixKind}
use Rattle.num_core.specs.declared.kind.Kind.{Kind}
use Rattle.num_core.specs.declared.kind.Narrow.{Narrow}
use Rattle.num_core.specs.declared.kind.ShiftOp.{ShiftOp}
use Rattle.rv_step.specs.Machine.{MachineState}
use Rattle.lir_core.specs.Slots.{Here}
use Rattle.lir_core.specs.State.{ASearch, WordState}
use Rattle.lir_core.specs.Step.{performs, word_step}
use Rattle.lir_core.specs.declared.op.Argument.{Argument}
use Rattle.lir_core.specs.declared.op.BinaryOperation.{BinaryOperation}
use Rattle.lir_core.specs.declared.op.Block.{Block}
use Rattle.lir_core.specs.declared.op.Callee.{Callee}
use Rattle.lir_core.specs.declared.op.CheckedOperation.{CheckedOperation}
use Rattle.lir_core.specs.declared.op.DivisionPart.{DivisionPart}
use Rattle.lir_core.specs.declared.op.LirOp.{LirOp}
use Rattle.lir_core.specs.declared.op.LirOp.TheVariants as op
use Rattle.lir_core.specs.declared.op.Place.{Place}
use Rattle.lir_core.specs.declared.op.Test.{Test}
use Rattle.lir_core.specs.declared.op.UnaryOperation.{UnaryOperation}
use Rattle.rv_words.specs.Placing.{Placing, around_at}
use Rattle.rv_words.specs.Stands.{AreBytes, Follows, FollowsInBody, IsUnhandled, Stands}
use Rattle.rv_words.specs.Steps.{in_last_line, most_steps}

-- The innermost frame stands at an operation, and a machine where that does. The code of its body begins at an address.
pub record IsAt (placing : Placing) (here : Here) (operation : LirOp) (begin : ℕ) (m : MachineState) : Type 0 where
  pub program : here.program ≡ placing.program
  pub frames : here.state.frames ≡ here.frame ∷ here.below
  pub body : placing.program.body_of here.frame.item ≡ Some here.body
  pub operation_there : slice_get here.body.ops here.frame.place ≡ Some operation
  pub around : around_at placing m.pc
      ≡ Some (record { begin = begin; item = here.frame.item; body = here.body })
  pub stands : Stands placing here.state m

-- what an operation does is followed by the machine, and by instructions of its own body's code alone
abbrev pub IsFollowed : Placing → LirOp → Type 0
IsFollowed placing operation =
    (here : Here) (begin : ℕ) (m : MachineState) (streams : Streams) → IsAt placing here operation begin m
    → AreBytes streams → Follows placing (most_steps operation) m streams (performs operation here streams)

abbrev pub IsFollowedInBody : Placing → LirOp → Type 0
IsFollowedInBody placing operation =
    (here : Here) (begin : ℕ) (m : MachineState) (streams : Streams) → IsAt placing here operation begin m
    → AreBytes streams → FollowsInBody placing begin here.body (most_steps operation) m streams
    (performs operation here streams)

-- constants and addresses
pub record Naming (placing : Placing) : Type 0 where
  pub constant : (to : ℕ) (value : ℤ) → IsFollowedInBody placing (op.Constant to value)
  pub address : (to : ℕ) (kind : FixKind) (item : ℕ) → IsFollowedInBody placing (op.Address to kind item)
  pub slot_address : (to slot : ℕ) → IsFollowedInBody placing (op.SlotAddress to slot)
  pub dictionary : (to : ℕ) → IsFollowedInBody placing (op.Dictionary to)

-- words that are moved
pub record Moving (placing : Placing) : Type 0 where
  pub move : (to from : ℕ) → IsFollowedInBody placing (op.Move to from)

-- what is computed of values
pub record Computing (placing : Placing) : Type 0 where
  pub binary : (operation : BinaryOperation) (kind : Kind) (to left right : ℕ)
      → IsFollowedInBody placing (op.Binary operation kind to left right)
  pub unary : (operation : UnaryOperation) (kind : Kind) (to value : ℕ)
      → IsFollowedInBody placing (op.Unary operation kind to value)
  pub shift : (operation : ShiftOp) (kind : Kind) (to value amount : ℕ)
      → IsFollowedInBody placing (op.Shift operation kind to value amount)
  pub convert : (narrow : Narrow) (from : Kind) (to value : ℕ)
      → IsFollowedInBody placing (op.Convert narrow from to value)
  pub compare : (test : Test) (kind : Kind) (to left right : ℕ)
      → IsFollowedInBody placing (op.Compare test kind to left right)

-- and what may be refused
pub record Refusing (placing : Placing) : Type 0 where
  pub checked : (operation : CheckedOperation) (kind : Kind) (to left right overflow : ℕ)
      → IsFollowedInBody placing (op.Checked operation kind to left right overflow)
  pub divide : (part : DivisionPart) (kind : Kind) (to left right if_zero overflow : ℕ)
      → IsFollowedInBody placing (op.Divide part kind to left right if_zero overflow)
  pub convert_checked : (narrow : Narrow) (from : Kind) (to value overflow : ℕ)
      → IsFollowedInBody placing (op.ConvertChecked narrow from to value overflow)

-- jumps
pub record Jumping (placing : Placing) : Type 0 where
  pub jump : (label : ℕ) → IsFollowedInBody placing (op.Jump label)
  pub leave : (label : ℕ) → IsFollowedInBody placing (op.Leave label)

-- branches
pub record Branching (placing : Placing) : Type 0 where
  pub branch : (test : Test) (kind : Kind) (left right label : ℕ)
      → IsFollowedInBody placing (op.Branch test kind left right label)
  pub if_zero : (value label : ℕ) → IsFollowedInBody placing (op.BranchIfZero value label)
  pub unless_zero : (value label : ℕ) → IsFollowedInBody placing (op.BranchUnlessZero value label)

-- numbers that are loaded from memory
pub record Loading (placing : Placing) : Type 0 where
  pub load : (to : ℕ) (from : Place) (narrow : Narrow) → IsFollowedInBody placing (op.Load to from narrow)

-- numbers that are stored to it
pub record Storing (placing : Placing) : Type 0 where
  pub store : (to : Place) (from : ℕ) (narrow : Narrow) → IsFollowedInBody placing (op.Store to from narrow)

-- bytes that are copied and cleared
pub record Copying (placing : Placing) : Type 0 where
  pub copy : (to from : Place) (bytes : ℕ) → IsFollowedInBody placing (op.Copy to from bytes)
  pub clear : (to : Place) (bytes : ℕ) → IsFollowedInBody placing (op.Clear to bytes)

-- calls and returns, the stack's bound and the end of the program among them
pub record Calling (placing : Placing) : Type 0 where
  pub call : (callee : Callee) (dictionary : Option ℕ) (arguments : List Argument) (cleared result : Block)
      → IsFollowed placing (op.Call callee dictionary arguments cleared result)
  pub return : (result : Block) → IsFollowed placing (op.Return result)

-- routines of the runtime
pub record Asking (placing : Placing) : Type 0 where
  pub routine : (number : ℕ) (arguments : List ℕ) (result : Option ℕ)
      → IsFollowed placing (op.Routine number arguments result)

-- objects that are raised, where no body has clauses
pub record Raising (placing : Placing) : Type 0 where
  pub raise : (object : ℕ) → IsFollowedInBody placing (op.Raise object)
  pub rethrow : IsFollowedInBody placing op.Rethrow
  pub end_handler : IsFollowedInBody placing op.EndHandler

-- a search that finds nothing, which ends the program with its line of error text
pub record Searching (placing : Placing) : Type 0 where
  pub nothing : (state : WordState) (m : MachineState) (streams : Streams) (object : ℕ)
      → state.under_way ≡ ASearch object [] → IsUnhandled placing state m
      → Follows placing in_last_line m streams (word_step placing.program state streams)

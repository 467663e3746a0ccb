-- A machine in which a program stands that has not begun.
use Rattle.std.specs.Prelude.{◌≡◌, ℕ, ◌<◌, ◌⊎◌, List, [], ◌∷◌, replicate, Some}
use Rattle.num_core.specs.declared.fix.FixKind.TheVariants.{Routine}
use Rattle.rv_step.specs.Machine.{MachineState}
use Rattle.rv_step.specs.Memory.{Bytes, byte_in}
use Rattle.lir_core.specs.Calls.{Given}
use Rattle.lir_core.specs.Memory.{cells_of}
use Rattle.lir_core.specs.Slots.{addresses}
use Rattle.lir_core.specs.Tells.{CellTellsNoMore}
use Rattle.lir_core.specs.Frame.{scratch_slots}
use Rattle.lir_core.specs.declared.body.LirBody.{LirBody}
use Rattle.rt_code.specs.Code.{code_of}
use Rattle.rt_code.specs.Effects.{Begins, Front, Root, heap_begin, number_of}
use Rattle.rt_code.specs.declared.routines.Routine.TheVariants.{Start}
use Rattle.rv_words.specs.Placing.{HasProgram, Placing}
use Rattle.rv_words.specs.Words.{cell_of}

-- the first body is given no argument, or the word that the root has for it
abbrev pub GivesArgument : ℕ → List Given → Type 0
GivesArgument argument given =
    (given ≡ [])
    ⊎ (given ≡ (record { to = scratch_slots; words = 1; cells = cells_of 8 argument }) ∷ [])

-- The machine stands at the code of `start`. It finds the body of an item by the root, and the bounds in front of its
-- code. The image stands in memory, and what will be the heap is 0.
pub record IsLoaded (placing : Placing) (front : Front) (root : Root) (item : ℕ) (body : LirBody) (given : List Given)
    (m : MachineState) : Type 0 where
  pub memory : HasProgram placing m
  pub start : placing.program.address_of Routine (number_of Start) ≡ Some m.pc
  pub begins : Begins m.pc (code_of Start) front root body.frame m
  pub first : placing.program.item_at root.body ≡ Some item
  pub body_there : placing.program.body_of item ≡ Some body
  pub argument : GivesArgument root.argument given
  pub heap : heap_begin front root ≡ placing.program.heap_begin
  pub heap_bound : front.heap ≡ placing.program.heap_bound
  pub stack_bound : front.stack ≡ placing.program.stack_bound
  pub image : (place : ℕ) → place < addresses
      → CellTellsNoMore (placing.program.image place) (cell_of (byte_in m.segments place))
  pub zeros : Bytes m placing.program.heap_begin (replicate placing.program.heap_bound 0)

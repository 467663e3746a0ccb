-- What a program at the word level is made of, and how it is laid out.
use Rattle.std.specs.Prelude.{ℕ, List, ◌++◌, Bool, Option, Some, None}
use Rattle.num_core.specs.Run.{Run, Ended, Stopped, Streams}
use Rattle.num_core.specs.declared.fix.FixKind.{FixKind}
use Rattle.lir_core.specs.declared.body.LirBody.{LirBody}
use Rattle.lir_core.specs.Memory.{FlatMemory}
use Rattle.lir_core.specs.State.{Clause, NoStep, WordCause, WordState}

-- What a routine of the runtime can change, and what it gives.
pub record Effect : Type 0 where
  pub memory : FlatMemory
  pub heap_used : ℕ
  pub streams : Streams
  pub result : Option ℕ

-- a routine ends the program with a status, or goes on
pub data Outcome : Type 0 where
  GoesOn : Effect → Outcome
  EndsProgram : ℕ → Streams → Outcome

-- what a routine does with its arguments; nothing where they or the memory are none that it is made for
abbrev pub RoutineEffect : Type 0
RoutineEffect = List ℕ → FlatMemory → ℕ → Streams → Option Outcome

-- The bodies of items, with their clauses, inner ones first; the addresses of what has a name, and the item whose body
-- begins at an address; whether a clause of a class catches an object, by the dictionary of its frame; the routines by
-- their numbers; where the heap begins, and how many bytes of it may be used; where the stack ends, and how many bytes
-- all frames may take; the memory of the image.
pub record WordProgram : Type 0 where
  pub body_of : ℕ → Option LirBody
  pub clauses_of : ℕ → List Clause
  pub address_of : FixKind → ℕ → Option ℕ
  pub item_at : ℕ → Option ℕ
  pub catches : ℕ → Option ℕ → FlatMemory → ℕ → Option Bool
  pub routine : ℕ → Option RoutineEffect
  pub heap_begin : ℕ
  pub heap_bound : ℕ
  pub stack_end : ℕ
  pub stack_bound : ℕ
  pub image : FlatMemory

abbrev pub no_step : Streams → Run WordState WordCause
no_step streams = Stopped NoStep streams

-- goes on with what there is, or can't
abbrev pub with : {A : Type 0} → Option A → Streams → (A → Run WordState WordCause) → Run WordState WordCause
with None streams next = no_step streams
with (Some x) streams next = next x

-- the end with a line of error text, which is that of the bounds and of objects that nothing catches
abbrev pub ends_with : List ℕ → Streams → Run WordState WordCause
ends_with text streams = Ended 134 (record streams { error = streams.error ++ text })

-- What a program at the word level has in memory: the image, what is used of the heap, and the slots of its frames.
use Rattle.std.specs.Prelude.{◌≡◌, ◌⊎◌, ℕ, ◌+◌, ◌<◌, ◌≤◌, Bool, true, false, List, Option, Some, None}
use Rattle.std.specs.List.{list_any}
use Rattle.num_core.specs.Run.{Streams}
use Rattle.lir_core.specs.Memory.{FlatMemory, is_own}
use Rattle.lir_core.specs.Program.{Effect, GoesOn, RoutineEffect, WordProgram}
use Rattle.lir_core.specs.Slots.{is_of_frame}
use Rattle.lir_core.specs.State.{Frame}
use Rattle.lir_core.specs.declared.body.LirBody.{LirBody}

-- the place is that of a slot of a frame
abbrev pub is_of_body : Option LirBody → ℕ → ℕ → Bool
is_of_body None address place = false
is_of_body (Some body) address place = is_of_frame body address place

abbrev pub is_of : WordProgram → ℕ → Frame → Bool
is_of program place frame = is_of_body (program.body_of frame.item) frame.address place

-- the place is one of the heap's bytes that lie between two of its sizes
abbrev pub IsOfHeap : WordProgram → ℕ → ℕ → ℕ → Type 0
IsOfHeap program from upto place = (program.heap_begin + from ≤ place) × (place < program.heap_begin + upto)

-- the place is one of the image, of the part of the heap that is used, or of a frame
abbrev pub MayOwn : WordProgram → List Frame → ℕ → ℕ → Type 0
MayOwn program frames used place =
    (is_own (program.image place) ≡ true)
    ⊎ (IsOfHeap program 0 used place ⊎ (list_any (is_of program place) frames ≡ true))

-- a program that has these frames and uses so much of the heap has no other place in memory
abbrev pub OwnsNoMore : WordProgram → List Frame → FlatMemory → ℕ → Type 0
OwnsNoMore program frames memory used =
    (place : ℕ) → is_own (memory place) ≡ true → MayOwn program frames used place

-- a routine that goes on uses no less of the heap, and gives the program no place but of what it has come to use
abbrev pub GivesHeap : WordProgram → RoutineEffect → Type 0
GivesHeap program routine =
    (words : List ℕ) (memory : FlatMemory) (used : ℕ) (streams : Streams) (effect : Effect)
    → routine words memory used streams ≡ Some (GoesOn effect)
    → (used ≤ effect.heap_used)
    × ((place : ℕ) → is_own (effect.memory place) ≡ true
    → (is_own (memory place) ≡ true) ⊎ IsOfHeap program used effect.heap_used place)

-- so do all routines of a program
abbrev pub RoutinesGiveHeap : WordProgram → Type 0
RoutinesGiveHeap program =
    (number : ℕ) (routine : RoutineEffect) → program.routine number ≡ Some routine → GivesHeap program routine

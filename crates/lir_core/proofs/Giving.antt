-- The routines of the runtime give a program no place in memory but bytes of the heap.
use Rattle.std.proofs.Common.{◌≡◌, ◌⊎◌, inl, inr, ℕ, ◌+◌, ◌<◌, ◌≤◌, Bool, true, false, ◌&&◌, cond, nat_le, nat_lt}
use Rattle.std.proofs.Common.{[], ◌∷◌, ◌++◌, Some, None, refl, subst, arith}
use Rattle.std.proofs.lemmas.Bool.{and_parts, leb-true, ltb-true}
use Rattle.num_core.specs.Run.{Streams}
use Rattle.lir_core.specs.Memory.{Byte, FlatMemory, is_own}
use Rattle.lir_core.specs.Owning.{GivesHeap, IsOfHeap}
use Rattle.lir_core.specs.Program.{Effect, EndsProgram, GoesOn, Outcome, WordProgram}
use Rattle.lir_core.specs.Routines.{allocates, cleared, ends_program, heap_text, reads_byte, writes_byte}

-- what is said of one effect
abbrev Gives : WordProgram → FlatMemory → ℕ → Effect → Type 0
Gives program memory used effect =
    (used ≤ effect.heap_used)
    × ((place : ℕ) → is_own (effect.memory place) ≡ true
    → (is_own (memory place) ≡ true) ⊎ IsOfHeap program used effect.heap_used place)

none_given : (outcome : Outcome) → None ≡ Some outcome → ⊥
none_given outcome e = cc

ends_given : (status : ℕ) (streams : Streams) (effect : Effect)
    → Some (EndsProgram status streams) ≡ Some (GoesOn effect) → ⊥
ends_given status streams effect e = cc

one_effect : (first second : Effect) → Some (GoesOn first) ≡ Some (GoesOn second) → first ≡ second
one_effect first second e = cc

-- nothing of memory changes
pub writes_given : (program : WordProgram) → GivesHeap program writes_byte
writes_given program [] memory used streams effect e = absurd (none_given (GoesOn effect) e)
writes_given program (byte ∷ []) memory used streams effect e =
    subst (Gives program memory used) (one_effect _ effect e) (omega arith, λ place own. inl own)
writes_given program (byte ∷ (other ∷ words)) memory used streams effect e = absurd (none_given (GoesOn effect) e)

pub reads_given : (program : WordProgram) → GivesHeap program reads_byte
reads_given program [] memory used streams effect e =
    subst (Gives program memory used) (one_effect _ effect e) (omega arith, λ place own. inl own)
reads_given program (word ∷ words) memory used streams effect e = absurd (none_given (GoesOn effect) e)

pub ends_gives : (program : WordProgram) → GivesHeap program ends_program
ends_gives program [] memory used streams effect e = absurd (none_given (GoesOn effect) e)
ends_gives program (status ∷ []) memory used streams effect e = absurd (ends_given _ streams effect e)
ends_gives program (status ∷ (other ∷ words)) memory used streams effect e = absurd (none_given (GoesOn effect) e)

-- a place that was cleared is one of the bytes that are used now
cleared_place : (program : WordProgram) (memory : FlatMemory) (used bytes place : ℕ) (t : Bool)
    → (nat_le (program.heap_begin + used) place && nat_lt place (program.heap_begin + used + bytes)) ≡ t
    → is_own (cond t (Byte 0) (memory place)) ≡ true
    → (is_own (memory place) ≡ true) ⊎ IsOfHeap program used (used + bytes) place
cleared_place program memory used bytes place true e own =
    let both = and_parts (nat_le (program.heap_begin + used) place)
    (nat_lt place (program.heap_begin + used + bytes)) e in
    let low : program.heap_begin + used ≤ place = leb-true (program.heap_begin + used) place both.0 in
    let high : place < program.heap_begin + used + bytes =
    ltb-true place (program.heap_begin + used + bytes) both.1 in
    inr (low, omega (arith, high))
cleared_place program memory used bytes place false e own = inl own

allocated : (program : WordProgram) (memory : FlatMemory) (used bytes : ℕ) (streams : Streams) (effect : Effect)
    (t : Bool)
    → Some (cond t (EndsProgram 134 (record streams { error = streams.error ++ heap_text }))
    (GoesOn (record {
      memory = cleared (program.heap_begin + used) bytes memory;
      heap_used = used + bytes;
      streams = streams;
      result = Some (program.heap_begin + used);
    }))) ≡ Some (GoesOn effect) → Gives program memory used effect
allocated program memory used bytes streams effect true e = absurd (ends_given 134 _ effect e)
allocated program memory used bytes streams effect false e =
    subst (Gives program memory used) (one_effect _ effect e) (
      omega arith,
      λ place own. cleared_place program memory used bytes place
          (nat_le (program.heap_begin + used) place && nat_lt place (program.heap_begin + used + bytes)) refl own,
    )

pub allocates_given : (program : WordProgram) (bound : ℕ) → GivesHeap program (allocates program.heap_begin bound)
allocates_given program bound [] memory used streams effect e = absurd (none_given (GoesOn effect) e)
allocates_given program bound (bytes ∷ []) memory used streams effect e =
    allocated program memory used bytes streams effect (nat_lt bound (used + bytes)) e
allocates_given program bound (bytes ∷ (other ∷ words)) memory used streams effect e =
    absurd (none_given (GoesOn effect) e)

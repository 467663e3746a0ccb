-- The instructions of code follow one another to its end.
use Rattle.std.proofs.Common.{◌≡◌, ℕ, zero, suc, ◌+◌, ◌<◌, ◌≤◌, List, [], ◌∷◌, length, slice_index_or, Ok, arith}
use Rattle.il_code.specs.declared.body.Instr.{Instr}
use Rattle.il_code.specs.Listing.{AreRising, listed}
use Rattle.il_code.proofs.Standing.{StandsIn, stands_in}
use Rattle.il_code.proofs.Tiles.{TilesFrom, tiles}

-- Instructions that stand one behind another from an offset on, the last of them before the end.
abbrev pub Follow : ℕ → ℕ → List Instr → Type 0
Follow at end [] = at ≡ end
Follow at end (i ∷ instrs) = (i.at ≡ at) × (at < i.next) × Follow i.next end instrs

follow_of : (code : List ℕ) (at end : ℕ) (instrs : List Instr) → TilesFrom code at end instrs → Follow at end instrs
follow_of code at end [] t = t
follow_of code at end (i ∷ instrs) t =
    let s : StandsIn (length code) at i = stands_in code at i t.0 in
    (s.here, s.later, follow_of code i.next end instrs t.1)

pub follow : (code : List ℕ) (instrs : List Instr) → listed code ≡ Ok instrs → Follow 0 (length code) instrs
follow code instrs read = follow_of code 0 (length code) instrs (tiles code instrs read)

-- each has one byte at least
pub follow-few : (at end : ℕ) (instrs : List Instr) → Follow at end instrs → at + length instrs ≤ end
follow-few at end [] f = let e : at ≡ end = f in omega (arith, e)
follow-few at end (i ∷ instrs) f = omega (arith, f.1, follow-few i.next end instrs f.2)

-- and stands before those behind it
follow-later : (at end : ℕ) (instrs : List Instr) (n : ℕ) (d : Instr) → Follow at end instrs → n < length instrs
    → at ≤ (slice_index_or instrs n d).at
follow-later at end [] n d f inside = absurd (omega (arith, inside))
follow-later at end (i ∷ instrs) zero d f inside = omega (arith, f.0)
follow-later at end (i ∷ instrs) (suc n) d f inside =
    omega (arith, f.1, follow-later i.next end instrs n d f.2 (omega (arith, inside)))

follow-rising : (at end : ℕ) (instrs : List Instr) → Follow at end instrs → AreRising instrs
follow-rising at end [] f i j d less inside = absurd (omega (arith, inside))
follow-rising at end (x ∷ instrs) f zero zero d less inside = absurd (omega (arith, less))
follow-rising at end (x ∷ instrs) f zero (suc j) d less inside =
    omega (arith, f.0, f.1, follow-later x.next end instrs j d f.2 (omega (arith, inside)))
follow-rising at end (x ∷ instrs) f (suc i) zero d less inside = absurd (omega (arith, less))
follow-rising at end (x ∷ instrs) f (suc i) (suc j) d less inside =
    follow-rising x.next end instrs f.2 i j d (omega (arith, less)) (omega (arith, inside))

pub listed-rising : (code : List ℕ) (instrs : List Instr) → listed code ≡ Ok instrs → AreRising instrs
listed-rising code instrs read = follow-rising 0 (length code) instrs (follow code instrs read)

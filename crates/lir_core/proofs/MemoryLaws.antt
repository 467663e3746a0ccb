-- Memory that was written: what stands where it was written, and everywhere else.
use Rattle.std.proofs.Common.{◌≡◌, ◌∙◌, ℕ, zero, suc, ◌+◌, ◌^◌, ◌<◌, ◌≤◌, ◌⊎◌, inl, inr, List, [], ◌∷◌}
use Rattle.std.proofs.Common.{length, map, refl, subst, ap, arith, Some}
use Rattle.std.specs.Option.{option_map}
use Rattle.std.proofs.lemmas.Bool.{eq-eqb, ne_eqb}
use Rattle.byteorder.specs.Endian.{little_bytes, little_number}
use Rattle.std.proofs.lemmas.List.{append-nil, length-map}
use Rattle.byteorder.specs.Numbers.{length-bytes_low_first, little_number-reads_back}
use Rattle.lir_core.specs.Memory.{Byte, Cell, FlatMemory, bytes_in, cells_from, cells_of, number_in, overwritten}

-- two memories that hold the same from a place on
pub cells_from-same : (m m' : FlatMemory) (place count : ℕ)
    → ((k : ℕ) → place ≤ k → k < place + count → m k ≡ m' k)
    → cells_from m place count ≡ cells_from m' place count
cells_from-same m m' place zero same = refl
cells_from-same m m' place (suc count) same =
    let first : m place ≡ m' place = same place (omega arith) (omega arith) in
    let others : cells_from m (suc place) count ≡ cells_from m' (suc place) count =
    cells_from-same m m' (suc place) count (λ k low high. same k (omega arith) (omega arith)) in
    rw (first, others) refl

-- what isn't written over stays
pub overwritten-elsewhere : (m : FlatMemory) (place : ℕ) (cells : List Cell) (k : ℕ)
    → (k < place) ⊎ (place + length cells ≤ k) → overwritten m place cells k ≡ m k
overwritten-elsewhere m place [] k apart = refl
overwritten-elsewhere m place (cell ∷ cells) k (inl low) =
    let other : k ≡ place → ⊥ = λ e. omega arith in
    rw (ne_eqb k place other) (overwritten-elsewhere m (suc place) cells k (inl (omega arith)))
overwritten-elsewhere m place (cell ∷ cells) k (inr high) =
    let above : place + suc (length cells) ≤ k = high in
    let other : k ≡ place → ⊥ = λ e. omega arith in
    rw (ne_eqb k place other) (overwritten-elsewhere m (suc place) cells k (inr (omega arith)))

-- what is written stands there
pub cells_from-overwritten : (m : FlatMemory) (place : ℕ) (cells : List Cell)
    → cells_from (overwritten m place cells) place (length cells) ≡ cells
cells_from-overwritten m place [] = refl
cells_from-overwritten m place (cell ∷ cells) =
    let here : overwritten m place (cell ∷ cells) place ≡ cell = rw (eq-eqb place place refl) refl in
    let others : cells_from (overwritten m place (cell ∷ cells)) (suc place) (length cells)
    ≡ cells_from (overwritten m (suc place) cells) (suc place) (length cells) =
    cells_from-same (overwritten m place (cell ∷ cells)) (overwritten m (suc place) cells) (suc place)
    (length cells)
    (λ k low high. let other : k ≡ place → ⊥ = λ e. omega arith in rw (ne_eqb k place other) refl) in
    rw (here, others ∙ cells_from-overwritten m (suc place) cells) refl

-- a place of a range that lies apart from another
apart_at : (place long other count k : ℕ) → other ≤ k → k < other + count
    → (other + count ≤ place) ⊎ (place + long ≤ other) → (k < place) ⊎ (place + long ≤ k)
apart_at place long other count k low high (inl before) = inl (omega arith)
apart_at place long other count k low high (inr behind) = inr (omega arith)

-- and elsewhere nothing has changed
pub cells_from-elsewhere : (m : FlatMemory) (place : ℕ) (cells : List Cell) (other count : ℕ)
    → (other + count ≤ place) ⊎ (place + length cells ≤ other)
    → cells_from (overwritten m place cells) other count ≡ cells_from m other count
cells_from-elsewhere m place cells other count apart =
    cells_from-same (overwritten m place cells) m other count
    (λ k low high. overwritten-elsewhere m place cells k (apart_at place (length cells) other count k low high apart))

-- cells of bytes hold them
pub bytes_in-bytes : (bytes : List ℕ) → bytes_in (map Byte bytes) ≡ Some bytes
bytes_in-bytes [] = refl
bytes_in-bytes (b ∷ bytes) = ap (option_map (λ others. b ∷ others)) (bytes_in-bytes bytes)

-- a number that is written is read back
pub number_in-overwritten : (m : FlatMemory) (place count n : ℕ) → n < 256 ^ count
    → number_in (overwritten m place (cells_of count n)) place count ≡ Some n
number_in-overwritten m place count n fits =
    let bytes = little_bytes count n in
    let cells = cells_of count n in
    let long : length cells ≡ count = length-map bytes Byte ∙ length-bytes_low_first 0 count n in
    let written : cells_from (overwritten m place cells) place count ≡ cells =
    subst (λ k. cells_from (overwritten m place cells) place k ≡ cells) long
    (cells_from-overwritten m place cells) in
    let back : little_number count bytes ≡ n =
    subst (λ others. little_number count others ≡ n) (append-nil bytes)
    (little_number-reads_back count n [] fits) in
    ap (λ others. option_map (little_number count) (bytes_in others)) written
    ∙ ap (option_map (little_number count)) (bytes_in-bytes bytes) ∙ ap Some back

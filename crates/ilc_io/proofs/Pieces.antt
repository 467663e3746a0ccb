-- Pieces of a list, one after another.
use Rattle.std.proofs.Common.{◌≡◌, ℕ, zero, suc, ◌+◌, ◌-◌, ◌<◌, ◌≤◌, min, List, [], ◌∷◌, ◌++◌, length, take, drop}
use Rattle.std.proofs.Common.{refl, sym, ap, ◌∙◌, Option, Some, None, unwrap_or, arith, length-take, length-drop}
use Rattle.std.proofs.lemmas.Grind.{common_steps}
use Rattle.std.proofs.Math.Seq.{take-length}
use Rattle.std.specs.Option.{option_map}

-- the next bytes after the first ones
pub take_next : (at count : ℕ) (xs : List ℕ) → take at xs ++ take count (drop at xs) ≡ take (at + count) xs
take_next zero count xs = grind (arith, common_steps)
take_next (suc at) count [] = grind (arith, common_steps)
take_next (suc at) count (x ∷ xs) =
    let more : suc (at + count) ≡ suc at + count = omega arith in
    ap (λ ys. x ∷ ys) (take_next at count xs) ∙ ap (λ n. take n (x ∷ xs)) more

-- no more bytes after the first ones
pub take_all : (at most : ℕ) (xs : List ℕ) → at ≤ most → drop at xs ≡ [] → take at xs ≡ take most xs
take_all zero zero xs h e = refl
take_all zero (suc most) [] h e = grind (arith, common_steps)
take_all zero (suc most) (x ∷ xs) h e = cc
take_all (suc at) zero xs h e = absurd (omega arith)
take_all (suc at) (suc most) [] h e = grind (arith, common_steps)
take_all (suc at) (suc most) (x ∷ xs) h e = ap (λ ys. x ∷ ys) (take_all at most xs (omega arith) e)

-- the first bytes of a piece
pub take-take : (count len : ℕ) (xs : List ℕ) → count ≤ length (take len xs) → take count (take len xs) ≡ take count xs
take-take zero len xs h = refl
take-take (suc count) zero xs h = absurd (omega arith)
take-take (suc count) (suc len) [] h = refl
take-take (suc count) (suc len) (x ∷ xs) h = ap (λ ys. x ∷ ys) (take-take count len xs (omega arith))

-- the first bytes of the next piece, after the ones before
pub take_next_piece :
    (at len count : ℕ) (xs : List ℕ) → count ≤ length (take len (drop at xs)) →
    take at xs ++ take count (take len (drop at xs)) ≡ take (at + count) xs
take_next_piece at len count xs h =
    ap (λ ys. take at xs ++ ys) (take-take count len (drop at xs) h) ∙ take_next at count xs

-- what was read stays the front of the file
pub next_content :
    (xs old new : List ℕ) (count : ℕ) → old ≡ take (length old) xs → new ≡ old ++ take count (drop (length old) xs) →
    length new ≡ length old + count → new ≡ take (length new) xs
next_content xs old new count e f l =
    f ∙ ap (λ ys. ys ++ take count (drop (length old) xs)) e ∙ take_next (length old) count xs
    ∙ ap (λ n. take n xs) (sym l)

-- a file that is read up to its size is read whole
pub whole_content :
    (file : Option (List ℕ)) (size : ℕ) (bytes : List ℕ) → Some size ≡ option_map length file →
    bytes ≡ take size (unwrap_or file []) → file ≡ Some bytes
whole_content None size bytes e f = cc
whole_content (Some xs) size bytes e f =
    let same : size ≡ length xs = cc in ap Some (sym (f ∙ ap (λ n. take n xs) same ∙ take-length xs))

-- the next piece ends within the whole
pub next_within :
    (at len count : ℕ) (xs : List ℕ) → at ≤ length xs → count ≤ length (take len (drop at xs)) →
    at + count ≤ length xs
next_within at len count xs h k = omega (arith, k, length-take len (drop at xs), length-drop at xs)

-- a piece that is no longer than what is left ends within it
pub piece_within :
    (at size most len count next : ℕ) → at ≤ size → len ≡ min most (size - at) → count ≤ len → next ≡ at + count →
    next ≤ size
piece_within at size most len count next h e k n = omega arith

-- a piece of what is left has some
pub some_of_piece : (at size most len : ℕ) → len ≡ min most (size - at) → at < size → 0 < most → 0 < len
some_of_piece at size most len e h k = omega arith

-- how long the next piece is
pub length_of_piece :
    (at end most : ℕ) (xs : List ℕ) → end ≡ at + min most (length xs - at) → at ≤ length xs →
    length (take (end - at) (drop at xs)) ≡ min most (length xs - at)
length_of_piece at end most xs e h = omega (arith, length-take (end - at) (drop at xs), length-drop at xs)

-- The targets that are read, one after another.
use Rattle.std.proofs.Common.{◌≡◌, ◌∙◌, ℕ, suc, ◌+◌, ◌-◌, ◌*◌, ◌<◌, List, [], ◌∷◌, ◌++◌, drop, ap, sym, arith}
use Rattle.std.proofs.Common.{append_assoc}
use Rattle.std.proofs.lemmas.List.{drop-drop, append-nil}
use Rattle.byteorder.specs.Endian.{little_number, twos_complement}
use Rattle.il_code.specs.Instructions.{target_of, targets_of}

-- the next target is the first of those that are left
pub next_target : (next count index : ℕ) (bytes done all : List ℕ) → index < count
    → all ≡ done ++ targets_of next (count - index) (drop (4 * index) bytes)
    → all ≡ (done ++ target_of next (twos_complement 4 (little_number 4 (drop (4 * index) bytes))) ∷ []) ++ targets_of
    next (count - (index + 1)) (drop (4 * (index + 1)) bytes)
next_target next count index bytes done all more so_far =
    let left : count - index ≡ suc (count - (index + 1)) = omega arith in
    let behind : drop 4 (drop (4 * index) bytes) ≡ drop (4 * (index + 1)) bytes = drop-drop 4 (4 * index) bytes
    ∙ ap (λ n. drop n bytes) (omega arith) in
    let first : ℕ = target_of next (twos_complement 4 (little_number 4 (drop (4 * index) bytes))) in
    so_far ∙ ap (λ n. done ++ targets_of next n (drop (4 * index) bytes)) left
    ∙ ap (λ bs. done ++ first ∷ targets_of next (count - (index + 1)) bs) behind
    ∙ sym (append_assoc done (first ∷ []) (targets_of next (count - (index + 1)) (drop (4 * (index + 1)) bytes)))

-- none is left
pub no_target : (next count : ℕ) (bytes done all : List ℕ)
    → all ≡ done ++ targets_of next (count - count) (drop (4 * count) bytes) → done ≡ all
no_target next count bytes done all so_far =
    let left : count - count ≡ 0 = omega arith in
    sym (so_far ∙ ap (λ n. done ++ targets_of next n (drop (4 * count) bytes)) left ∙ append-nil done)

-- The targets that are written, one after another.
use Rattle.std.proofs.Common.{◌≡◌, ◌∙◌, ℕ, suc, ◌+◌, ◌-◌, ◌*◌, ◌<◌, List, [], ◌∷◌, ◌++◌, drop, ap, sym, arith}
use Rattle.std.proofs.Common.{append_assoc}
use Rattle.std.specs.List.{flat_map}
use Rattle.std.proofs.lemmas.List.{drop-drop, append-nil}
use Rattle.il_text.specs.Words.{spaced}
use Rattle.il_text.specs.Instructions.{target_word, target_words, long_number}

-- what is written of targets
abbrev pub targets_text : ℕ → ℕ → List ℕ → List ℕ
targets_text next count bytes = flat_map spaced (target_words next count bytes)

-- the next target is the first of those that are left
pub next_target : (next count index : ℕ) (bytes done more all : List ℕ) → index < count
    → all ≡ done ++ targets_text next (count - index) (drop (4 * index) bytes)
    → more ≡ done ++ flat_map spaced (target_word next (long_number (drop (4 * index) bytes)) ∷ [])
    → all ≡ more ++ targets_text next (count - (index + 1)) (drop (4 * (index + 1)) bytes)
next_target next count index bytes done more all inside so_far grown =
    let left : count - index ≡ suc (count - (index + 1)) = omega arith in
    let behind : drop 4 (drop (4 * index) bytes) ≡ drop (4 * (index + 1)) bytes = drop-drop 4 (4 * index) bytes
    ∙ ap (λ n. drop n bytes) (omega arith) in
    let word : List ℕ = spaced (target_word next (long_number (drop (4 * index) bytes))) in
    let rest : List ℕ = targets_text next (count - (index + 1)) (drop (4 * (index + 1)) bytes) in
    let one : more ≡ done ++ word = grown ∙ ap (λ w. done ++ w) (append-nil word) in
    so_far ∙ ap (λ n. done ++ targets_text next n (drop (4 * index) bytes)) left
    ∙ ap (λ bs. done ++ (word ++ targets_text next (count - (index + 1)) bs)) behind
    ∙ sym (append_assoc done word rest) ∙ ap (λ front. front ++ rest) (sym one)

-- none is left
pub no_target : (next count : ℕ) (bytes done all : List ℕ)
    → all ≡ done ++ targets_text next (count - count) (drop (4 * count) bytes) → done ≡ all
no_target next count bytes done all so_far =
    let left : count - count ≡ 0 = omega arith in
    sym (so_far ∙ ap (λ n. done ++ targets_text next n (drop (4 * count) bytes)) left ∙ append-nil done)

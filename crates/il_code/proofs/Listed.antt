-- How the instructions of code are read, one behind another.
use Rattle.std.proofs.Common.{◌≡◌, ◌≢◌, ◌∙◌, ℕ, zero, suc, ◌+◌, ◌-◌, ◌<◌, ◌≤◌, cond, eq-eqb, ne_eqb, List, [], ◌∷◌}
use Rattle.std.proofs.Common.{◌++◌, length, Option, Some, None, Result, Ok, Err, refl, ap, sym, arith, append_assoc}
use Rattle.std.proofs.lemmas.List.{length_push, append-nil}
use Rattle.il_code.specs.Instructions.{instruction_at}
use Rattle.il_code.specs.Listing.{in_front, listed_at, listed_from}
use Rattle.il_code.specs.declared.body.Instr.{Instr}

-- those that were read, in front of what comes behind them
abbrev pub all_in_front : List Instr → Result (List Instr) ℕ → Result (List Instr) ℕ
all_in_front done (Ok instrs) = Ok (done ++ instrs)
all_in_front done (Err offset) = Err offset

pub one_more_in_front : (done : List Instr) (i : Instr) (rest : Result (List Instr) ℕ)
    → all_in_front done (in_front i rest) ≡ all_in_front (done ++ i ∷ []) rest
one_more_in_front done i (Ok instrs) = ap Ok (sym (append_assoc done (i ∷ []) instrs))
one_more_in_front done i (Err offset) = refl

-- what the next instruction makes of those that were read and of what is left
next_listed : (code : List ℕ) (done : List Instr) (at : ℕ) (o : Option Instr) (all : Result (List Instr) ℕ)
    → length done < length code → at ≢ length code → o ≡ instruction_at code at
    → all ≡ all_in_front done (listed_from (length code - length done) code at)
    → all ≡ all_in_front done (listed_at (listed_from (length code - (length done + 1)) code) at o)
next_listed code done at o all more inside there so_far =
    let left : length code - length done ≡ suc (length code - (length done + 1)) = omega arith in
    let rest : Result (List Instr) ℕ =
    listed_at (listed_from (length code - (length done + 1)) code) at (instruction_at code at) in
    so_far ∙ ap (λ n. all_in_front done (listed_from n code at)) left
    ∙ ap (λ b. all_in_front done (cond b (Ok []) rest)) (ne_eqb at (length code) inside)
    ∙ ap (λ o. all_in_front done (listed_at (listed_from (length code - (length done + 1)) code) at o)) (sym there)

-- on behind an instruction
pub lists_on : (code : List ℕ) (done : List Instr) (at : ℕ) (o : Option Instr) (i : Instr) (all : Result (List Instr) ℕ)
    → length done < length code → at ≢ length code → o ≡ instruction_at code at → o ≡ Some i
    → all ≡ all_in_front done (listed_from (length code - length done) code at)
    → all ≡ all_in_front (done ++ i ∷ []) (listed_from (length code - length (done ++ i ∷ [])) code i.next)
lists_on code done at o i all more inside there some so_far =
    let size : length code - (length done + 1) ≡ length code - length (done ++ i ∷ []) =
    ap (λ n. length code - n) (sym (length_push done i)) in
    next_listed code done at o all more inside there so_far
    ∙ ap (λ o. all_in_front done (listed_at (listed_from (length code - (length done + 1)) code) at o)) some
    ∙ one_more_in_front done i (listed_from (length code - (length done + 1)) code i.next)
    ∙ ap (λ n. all_in_front (done ++ i ∷ []) (listed_from n code i.next)) size

-- none stands whole
pub none_stands : (code : List ℕ) (done : List Instr) (at : ℕ) (o : Option Instr) (all : Result (List Instr) ℕ)
    → length done < length code → at ≢ length code → o ≡ instruction_at code at → o ≡ None
    → all ≡ all_in_front done (listed_from (length code - length done) code at) → all ≡ Err at
none_stands code done at o all more inside there none so_far =
    next_listed code done at o all more inside there so_far
    ∙ ap (λ o. all_in_front done (listed_at (listed_from (length code - (length done + 1)) code) at o)) none

pub at_end : (code : List ℕ) (most at : ℕ) → at ≡ length code → listed_from most code at ≡ Ok []
at_end code zero at end = ap (λ b. cond b (Ok []) (Err at)) (eq-eqb at (length code) end)
at_end code (suc most) at end =
    ap (λ b. cond b (Ok []) (listed_at (listed_from most code) at (instruction_at code at)))
    (eq-eqb at (length code) end)

-- all were read
pub all_listed : (code : List ℕ) (done : List Instr) (at : ℕ) (all : Result (List Instr) ℕ) → at ≡ length code
    → all ≡ all_in_front done (listed_from (length code - length done) code at) → all ≡ Ok done
all_listed code done at all end so_far =
    so_far ∙ ap (all_in_front done) (at_end code (length code - length done) at end) ∙ ap Ok (append-nil done)

-- none is left, before the end
pub none_left : (code : List ℕ) (done : List Instr) (at : ℕ) (all : Result (List Instr) ℕ) → length code ≤ length done
    → at ≢ length code → all ≡ all_in_front done (listed_from (length code - length done) code at) → all ≡ Err at
none_left code done at all over inside so_far =
    let left : length code - length done ≡ 0 = omega arith in
    so_far ∙ ap (λ n. all_in_front done (listed_from n code at)) left
    ∙ ap (λ b. all_in_front done (cond {A = Result (List Instr) ℕ} b (Ok []) (Err at))) (ne_eqb at (length code) inside)

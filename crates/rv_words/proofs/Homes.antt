-- Which variables have which homes.
use Rattle.std.proofs.Common.{◌≡◌, ◌∙◌, ℕ, zero, suc, ◌+◌, ◌-◌, ◌<◌, ◌≤◌, Bool, true, false, cond, List, [], ◌∷◌}
use Rattle.std.proofs.Common.{length, take, drop, Some, arith, refl, ap, sym, ◌==◌, slice_index}
use Rattle.std.proofs.Common.{length-take, ◌||◌}
use Rattle.std.specs.List.{list_any}
use Rattle.std.proofs.lemmas.Bool.Decides.{nat_tests}
use Rattle.rv_step.specs.Machine.{MachineState, register}
use Rattle.rv_code.specs.Registers.{listed}
use Rattle.rv_lines.specs.Frame.{first_home, home, home_among, home_count}
use Rattle.rv_words.proofs.Standing.{homes_in}

equal : (a b : ℕ) → (a == b) ≡ true → a ≡ b
equal a b t = grind (arith, nat_tests)

some_same : (a b : ℕ) → Some a ≡ Some b → a ≡ b
some_same a b e = cc

-- a home is one of as many registers as there are variables
among_bound : (first : ℕ) (vars : List ℕ) (slot r : ℕ) → home_among first vars slot ≡ Some r
    → (first ≤ r) × (r < first + length vars)
among_bound first [] slot r e = cc
among_bound first (var ∷ vars) slot r e =
    by (λ e'. among_bound (first + 1) vars slot r e') (var == slot) e
  where
    by : (home_among (first + 1) vars slot ≡ Some r → (first + 1 ≤ r) × (r < (first + 1) + length vars)) → (b : Bool)
        → cond b (Some first) (home_among (first + 1) vars slot) ≡ Some r
        → (first ≤ r) × (r < first + length (var ∷ vars))
    by more true e = let same : first ≡ r = some_same first r e in (omega (arith, same), omega (arith, same))
    by more false e =
        let rest : (first + 1 ≤ r) × (r < (first + 1) + length vars) = more e in
        let low : first + 1 ≤ r = rest.0 in
        let high : r < (first + 1) + length vars = rest.1 in
        (omega (arith, low), omega (arith, high))

-- and that of one alone
among_one : (first : ℕ) (vars : List ℕ) (slot slot' r : ℕ) → home_among first vars slot ≡ Some r
    → home_among first vars slot' ≡ Some r → slot ≡ slot'
among_one first [] slot slot' r e e' = cc
among_one first (var ∷ vars) slot slot' r e e' =
    by (λ p q. among_one (first + 1) vars slot slot' r p q) (var == slot) refl (var == slot') refl e e'
  where
    other : (s : ℕ) → first ≡ r → home_among (first + 1) vars s ≡ Some r → slot ≡ slot'
    other s same there =
        let bound : (first + 1 ≤ r) × (r < (first + 1) + length vars) =
        among_bound (first + 1) vars s r there in
        let low : first + 1 ≤ r = bound.0 in
        absurd (omega (arith, same, low))

    by : (home_among (first + 1) vars slot ≡ Some r → home_among (first + 1) vars slot' ≡ Some r → slot ≡ slot')
        → (b : Bool) → (var == slot) ≡ b → (b' : Bool) → (var == slot') ≡ b'
        → cond b (Some first) (home_among (first + 1) vars slot) ≡ Some r
        → cond b' (Some first) (home_among (first + 1) vars slot') ≡ Some r → slot ≡ slot'
    by more true t true t' e e' = sym (equal var slot t) ∙ equal var slot' t'
    by more true t false t' e e' = other slot' (some_same first r e) e'
    by more false t true t' e e' = other slot (some_same first r e') e
    by more false t false t' e e' = more e e'

pub home_one : (vars : List ℕ) (slot slot' r : ℕ) → home vars slot ≡ Some r → home vars slot' ≡ Some r → slot ≡ slot'
home_one vars slot slot' r e e' = among_one first_home (take home_count vars) slot slot' r e e'

pub home_bound : (vars : List ℕ) (slot r : ℕ) → home vars slot ≡ Some r
    → (18 ≤ r) × (r < 18 + length (take 8 vars)) × (r < 26)
home_bound vars slot r e =
    let bound : (18 ≤ r) × (r < 18 + length (take 8 vars)) = among_bound 18 (take 8 vars) slot r e in
    let high : r < 18 + length (take 8 vars) = bound.1 in
    let few : length (take 8 vars) ≤ 8 = omega (arith, length-take 8 vars) in
    (bound.0, high, omega (arith, high, few))

-- ---- the words of homes

listed_at : (word : ℕ → ℕ) (first count j : ℕ) → j < count → slice_index (listed word first count) j ≡ word (first + j)
listed_at word first zero j h = absurd (omega (arith, h))
listed_at word first (suc count) zero h = let e : first ≡ first + 0 = omega arith in ap word e
listed_at word first (suc count) (suc j) h =
    let e : suc first + j ≡ first + suc j = omega arith in
    listed_at word (suc first) count j (omega (arith, h)) ∙ ap word e

-- the word of a home, where homes are registers
pub home_word : (m : MachineState) (r : ℕ) → 18 ≤ r → r < 26 → slice_index (homes_in m) (r - first_home) ≡ register m r
home_word m r low high =
    let e : 18 + (r - 18) ≡ r = omega (arith, low) in
    listed_at (register m) 18 8 (r - 18) (omega (arith, low, high)) ∙ ap (register m) e

drop_listed : (word word' : ℕ → ℕ) (first count n : ℕ)
    → ((j : ℕ) → n ≤ j → j < count → word' (first + j) ≡ word (first + j))
    → drop n (listed word' first count) ≡ drop n (listed word first count)
drop_listed word word' first zero zero same = refl
drop_listed word word' first zero (suc n) same = refl
drop_listed word word' first (suc count) zero same =
    let e : first + 0 ≡ first = omega arith in
    let head : word' first ≡ word first = ap word' (sym e) ∙ same 0 (omega arith) (omega arith) ∙ ap word e in
    let tail : drop 0 (listed word' (suc first) count) ≡ drop 0 (listed word (suc first) count) =
    drop_listed word word' (suc first) count 0
    (λ j low h. let e : first + suc j ≡ suc first + j = omega arith in
    ap word' (sym e) ∙ same (suc j) (omega arith) (omega (arith, h)) ∙ ap word e) in
    ap (λ x. x ∷ listed word' (suc first) count) head ∙ ap (λ xs. word first ∷ xs) tail
drop_listed word word' first (suc count) (suc n) same =
    drop_listed word word' (suc first) count n
    (λ j low h. let e : first + suc j ≡ suc first + j = omega arith in
    ap word' (sym e) ∙ same (suc j) (omega (arith, low)) (omega (arith, h)) ∙ ap word e)

-- what a body has no homes for is as before where one of its homes has got a word
pub homes_dropped : (m new : MachineState) (n k : ℕ) → k < n
    → ((j : ℕ) → j < 8 → (j ≡ k → ⊥) → register new (18 + j) ≡ register m (18 + j))
    → drop n (homes_in new) ≡ drop n (homes_in m)
homes_dropped m new n k less others =
    drop_listed (register m) (register new) 18 8 n
    (λ j low h. others j h (λ e. omega (arith, less, low, e)))

-- what has a home is a variable
among_variable : (first count : ℕ) (vars : List ℕ) (slot r : ℕ) → home_among first (take count vars) slot ≡ Some r
    → list_any (λ var. var == slot) vars ≡ true
among_variable first zero vars slot r e = cc
among_variable first (suc count) [] slot r e = cc
among_variable first (suc count) (var ∷ vars) slot r e =
    by (λ e'. among_variable (first + 1) count vars slot r e') (var == slot) e
  where
    by : (home_among (first + 1) (take count vars) slot ≡ Some r → list_any (λ v. v == slot) vars ≡ true) → (b : Bool)
        → cond b (Some first) (home_among (first + 1) (take count vars) slot) ≡ Some r
        → (b || list_any (λ v. v == slot) vars) ≡ true
    by more true e = refl
    by more false e = more e

pub home_variable : (vars : List ℕ) (slot r : ℕ) → home vars slot ≡ Some r → list_any (λ var. var == slot) vars ≡ true
home_variable vars slot r e = among_variable first_home home_count vars slot r e

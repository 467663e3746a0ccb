-- Lists, their parts and tests.
use Rattle.std.proofs.Common.{◌≡◌, ◌∙◌, ℕ, zero, suc, ◌<◌, Bool, true}
use Rattle.std.proofs.Common.{List, [], ◌∷◌, ◌++◌, length, map, take, drop, Some, slice_get}
use Rattle.std.proofs.Common.{ap, arith, refl, sym}
use Rattle.std.specs.List.{list_all}
use Rattle.std.proofs.lemmas.Bool.{and_from}
use Rattle.image_plan.proofs.Lengths.{behind_both, front_both}

-- ---- tests

pub all_append : {A : Type 0} (test : A → Bool) (xs ys : List A) → list_all test xs ≡ true → list_all test ys ≡ true
    → list_all test (xs ++ ys) ≡ true
all_append test [] ys h h' = h'
all_append test (x ∷ xs) ys h h' =
    and_from (test x) (list_all test (xs ++ ys)) (front_both (test x) (list_all test xs) h)
    (all_append test xs ys (behind_both (test x) (list_all test xs) h) h')

-- what all pass, one passes
pub all_at : {A : Type 0} (test : A → Bool) (xs : List A) (k : ℕ) (x : A) → list_all test xs ≡ true
    → slice_get xs k ≡ Some x → test x ≡ true
all_at test [] k x h e = cc
all_at test (y ∷ ys) zero x h e =
    let same : y ≡ x = cc in
    sym (ap test same) ∙ front_both (test y) (list_all test ys) h
all_at test (y ∷ ys) (suc k) x h e = all_at test ys k x (behind_both (test y) (list_all test ys) h) e

-- ---- items by their places

pub there : {A : Type 0} (xs : List A) (k : ℕ) (x : A) → slice_get xs k ≡ Some x → k < length xs
there [] k x e = cc
there (y ∷ ys) zero x e = omega arith
there (y ∷ ys) (suc k) x e = let less : k < length ys = there ys k x e in omega (arith, less)

pub mapped_at : {A B : Type 0} (f : A → B) (xs : List A) (k : ℕ) (x : A) → slice_get xs k ≡ Some x
    → slice_get (map f xs) k ≡ Some (f x)
mapped_at f [] k x e = cc
mapped_at f (y ∷ ys) zero x e = let same : y ≡ x = cc in ap (λ z. Some (f z)) same
mapped_at f (y ∷ ys) (suc k) x e = mapped_at f ys k x e

pub length_mapped : {A B : Type 0} (f : A → B) (xs : List A) → length (map f xs) ≡ length xs
length_mapped f [] = refl
length_mapped f (x ∷ xs) = ap suc (length_mapped f xs)

-- ---- parts

pub front_of : {A : Type 0} (mid behind : List A) → take (length mid) (mid ++ behind) ≡ mid
front_of [] behind = refl
front_of (x ∷ mid) behind = ap (λ xs. x ∷ xs) (front_of mid behind)

-- what stands between two parts
pub between : {A : Type 0} (front mid behind : List A)
    → take (length mid) (drop (length front) (front ++ (mid ++ behind))) ≡ mid
between [] mid behind = front_of mid behind
between (x ∷ front) mid behind = between front mid behind

-- Rows of tables, and how high a table stands.
use Rattle.std.proofs.Common.{◌≡◌, ◌⊎◌, ◌≢◌, ◌∙◌, ℕ, zero, suc, ◌+◌, ◌*◌, ◌<◌, ◌≤◌, List, [], ◌∷◌, length, replicate}
use Rattle.std.proofs.Common.{slice_index_or, Option, Some, None, refl, ap, arith}
use Rattle.std.proofs.Math.ListN.{set}
use Rattle.least_flow.specs.Solution.{row, IsRowBelow, AllBelow, Tells}
use Rattle.least_flow.specs.Telling.{height, heights, known_here, known_places, IfKnown}

pub rows-refl : {Fact : Type 0} (IsBelow : Fact → Fact → Type 0) → ((a : Fact) → IsBelow a a) → (r : Option Fact)
    → IsRowBelow IsBelow r r
rows-refl IsBelow reflexive None = tt
rows-refl IsBelow reflexive (Some a) = reflexive a

pub rows-trans : {Fact : Type 0} (IsBelow : Fact → Fact → Type 0)
    → ((a b c : Fact) → IsBelow a b → IsBelow b c → IsBelow a c) → (r s t : Option Fact) → IsRowBelow IsBelow r s
    → IsRowBelow IsBelow s t → IsRowBelow IsBelow r t
rows-trans IsBelow transitive None s t h h' = tt
rows-trans IsBelow transitive (Some a) None t h h' = absurd h
rows-trans IsBelow transitive (Some a) (Some b) None h h' = absurd h'
rows-trans IsBelow transitive (Some a) (Some b) (Some c) h h' = transitive a b c h h'

-- what a table tells, one that tells more tells too
pub tells-grows : {Fact : Type 0} (IsBelow : Fact → Fact → Type 0)
    → ((a b c : Fact) → IsBelow a b → IsBelow b c → IsBelow a c) → (old new : List (Option Fact))
    → length new ≡ length old → AllBelow IsBelow old new → (place : ℕ) (fact : Fact) → Tells IsBelow old place fact
    → Tells IsBelow new place fact
tells-grows IsBelow transitive old new size grows place fact tells = λ inside.
    let inside' : place < length old = omega (arith, inside, size) in
    rows-trans IsBelow transitive (Some fact) (row old place) (row new place) (tells inside') (grows place)

-- and what a fact tells that tells less
pub tells-less : {Fact : Type 0} (IsBelow : Fact → Fact → Type 0)
    → ((a b c : Fact) → IsBelow a b → IsBelow b c → IsBelow a c)
    → (table : List (Option Fact)) (place : ℕ) (less fact : Fact) → IsBelow less fact → Tells IsBelow table place fact
    → Tells IsBelow table place less
tells-less IsBelow transitive table place less fact below tells = λ inside. rows-trans IsBelow transitive (Some less)
    (Some fact) (row table place) below (tells inside)

pub same_or_other : (n m : ℕ) → (n ≡ m) ⊎ (n ≢ m)
same_or_other n m = grind arith

pub heights-set : {Fact : Type 0} (rank : Fact → ℕ) (table : List (Option Fact)) (n : ℕ) (r : Option Fact)
    → n < length table → heights rank (set table n r) + height rank (row table n) ≡ heights rank table + height rank r
heights-set rank [] n r h = absurd (omega (arith, h))
heights-set rank (x ∷ table) zero r h = omega arith
heights-set rank (x ∷ table) (suc n) r h =
    let below : n < length table = omega (arith, h) in
    omega (arith, heights-set rank table n r below)

pub known-set : {Fact : Type 0} (table : List (Option Fact)) (n : ℕ) (r : Option Fact) → n < length table
    → known_places (set table n r) + known_here (row table n) ≡ known_places table + known_here r
known-set [] n r h = absurd (omega (arith, h))
known-set (x ∷ table) zero r h = omega arith
known-set (x ∷ table) (suc n) r h =
    let below : n < length table = omega (arith, h) in
    omega (arith, known-set table n r below)

pub known-bound : {Fact : Type 0} (table : List (Option Fact)) → known_places table ≤ length table
known-bound [] = omega arith
known-bound (None ∷ table) = omega (arith, known-bound table)
known-bound (Some x ∷ table) = omega (arith, known-bound table)

same-known : {Fact : Type 0} (r : Option Fact) → known_here r ≡ 0 → (n : ℕ) → known_places (replicate n r) ≡ 0
same-known r e zero = refl
same-known r e (suc n) = omega (arith, e, same-known r e n)

same-row : {Fact : Type 0} (r : Option Fact) → r ≡ None → (n place : ℕ) → row (replicate n r) place ≡ None
same-row r e zero place = refl
same-row r e (suc n) zero = e
same-row r e (suc n) (suc place) = same-row r e n place

-- a table of which nothing is known
pub known-none : {Fact : Type 0} (n : ℕ) (table : List (Option Fact)) → table ≡ replicate n None
    → known_places table ≡ 0
known-none n table e = ap known_places e ∙ same-known None refl n

pub row-none : {Fact : Type 0} (n : ℕ) (table : List (Option Fact)) → table ≡ replicate n None → (place : ℕ)
    → row table place ≡ None
row-none n table e place = ap (λ t. row t place) e ∙ same-row None refl n place

pub if_known : {Fact : Type 0} (P Q : Fact → Type 0) → ((a : Fact) → P a → Q a) → (r : Option Fact) → IfKnown P r
    → IfKnown Q r
if_known P Q f None h = tt
if_known P Q f (Some a) h = f a h

-- a table whose facts have a rank of at most `most` stands no higher than this
pub heights-bound : {Fact : Type 0} (rank : Fact → ℕ) (most : ℕ) (table : List (Option Fact))
    → ((place : ℕ) → IfKnown (λ a. rank a ≤ most) (row table place)) → heights rank table ≤ length table * (most + 1)
heights-bound rank most [] bound = omega arith
heights-bound rank most (None ∷ table) bound = omega (arith, heights-bound rank most table (λ place. bound (suc place)))
heights-bound rank most (Some a ∷ table) bound =
    let here : rank a ≤ most = bound 0 in
    omega (arith, here, heights-bound rank most table (λ place. bound (suc place)))

-- within the table it makes no difference what stands for a row that isn't there
pub row-is : {Fact : Type 0} (table : List (Option Fact)) (place : ℕ) (d : Option Fact) → place < length table
    → slice_index_or table place d ≡ row table place
row-is [] place d h = absurd (omega (arith, h))
row-is (x ∷ table) zero d h = refl
row-is (x ∷ table) (suc place) d h = row-is table place d (omega (arith, h))

-- and behind its end there is none
pub row-past : {Fact : Type 0} (table : List (Option Fact)) (place : ℕ) → length table ≤ place → row table place ≡ None
row-past [] place h = refl
row-past (x ∷ table) zero h = absurd (omega (arith, h))
row-past (x ∷ table) (suc place) h = row-past table place (omega (arith, h))

-- The row of the instruction at an offset.
use Rattle.std.proofs.Common.{◌≡◌, ◌≢◌, ◌∙◌, ℕ, zero, suc, ◌<◌, Bool, true, false, cond, nat_eq, eq-eqb, ne_eqb, List}
use Rattle.std.proofs.Common.{[], ◌∷◌, length, slice_index_or, slice_get, replicate, Some, refl, ap, sym, subst, arith}
use Rattle.il_code.specs.declared.body.Instr.{Instr}
use Rattle.ilc_build.specs.Depths.{row, known_at, AllBelow, IsBelow}
use Rattle.ilc_build.specs.declared.depths.Known.{Known}
use Rattle.ilc_build.specs.declared.depths.Known.TheVariants.{Nothing, Clash}
use Rattle.ilc_build.proofs.Knowing.{below-refl}

-- the first n instructions stand elsewhere
abbrev pub StandElsewhere : List Instr → ℕ → ℕ → Type 0
StandElsewhere instrs offset n = (k : ℕ) (i : Instr) → k < n → k < length instrs
    → (slice_index_or instrs k i).at ≢ offset

pub known_at-found : (instrs : List Instr) (table : List Known) (offset n : ℕ) (i : Instr)
    → length table ≡ length instrs → n < length instrs → StandElsewhere instrs offset n
    → (slice_index_or instrs n i).at ≡ offset → known_at instrs table offset ≡ row table n
known_at-found [] table offset n i size inside before here = absurd (omega (arith, inside))
known_at-found (x ∷ instrs) [] offset n i size inside before here =
    absurd (let e : 0 ≡ suc (length instrs) = size in omega (arith, e))
known_at-found (x ∷ instrs) (k ∷ table) offset zero i size inside before here =
    ap (λ b. cond b k (known_at instrs table offset)) (eq-eqb x.at offset here)
known_at-found (x ∷ instrs) (k ∷ table) offset (suc n) i size inside before here =
    let other : x.at ≢ offset = before 0 i (omega arith) (omega arith) in
    let sizes : suc (length table) ≡ suc (length instrs) = size in
    ap (λ b. cond b k (known_at instrs table offset)) (ne_eqb x.at offset other)
    ∙ known_at-found instrs table offset n i (omega (arith, sizes)) (omega (arith, inside))
    (λ m j h h'. before (suc m) j (omega (arith, h)) (omega (arith, h'))) here

pub known_at-missing : (instrs : List Instr) (table : List Known) (offset : ℕ)
    → StandElsewhere instrs offset (length instrs) → known_at instrs table offset ≡ Clash
known_at-missing [] table offset before = refl
known_at-missing (x ∷ instrs) [] offset before = refl
known_at-missing (x ∷ instrs) (k ∷ table) offset before =
    let other : x.at ≢ offset = before 0 x (omega arith) (omega arith) in
    ap (λ b. cond b k (known_at instrs table offset)) (ne_eqb x.at offset other)
    ∙ known_at-missing instrs table offset (λ m j h h'. before (suc m) j (omega (arith, h)) (omega (arith, h')))

-- the element of a number within the list
pub element : {X : Type 0} (xs : List X) (n : ℕ) (d : X) → n < length xs → slice_get xs n ≡ Some (slice_index_or xs n d)
element [] n d h = absurd (omega (arith, h))
element (x ∷ xs) zero d h = refl
element (x ∷ xs) (suc n) d h = element xs n d (omega (arith, h))

grows-by : (b : Bool) (k k' x x' : Known) → IsBelow k k' → IsBelow x x' → IsBelow (cond b k x) (cond b k' x')
grows-by true k k' x x' h h' = h
grows-by false k k' x x' h h' = h'

-- a table that tells more tells more at each offset
pub known_at-grows : (instrs : List Instr) (old new : List Known) (offset : ℕ) → length new ≡ length old
    → AllBelow old new → IsBelow (known_at instrs old offset) (known_at instrs new offset)
known_at-grows [] old new offset size grows = below-refl Clash
known_at-grows (i ∷ instrs) [] [] offset size grows = below-refl Clash
known_at-grows (i ∷ instrs) [] (k ∷ new) offset size grows =
    absurd (let e : suc (length new) ≡ 0 = size in omega (arith, e))
known_at-grows (i ∷ instrs) (k ∷ old) [] offset size grows =
    absurd (let e : 0 ≡ suc (length old) = size in omega (arith, e))
known_at-grows (i ∷ instrs) (k ∷ old) (k' ∷ new) offset size grows =
    let sizes : suc (length new) ≡ suc (length old) = size in
    grows-by (nat_eq i.at offset) k k' _ _ (grows 0)
    (known_at-grows instrs old new offset (omega (arith, sizes)) (λ n. grows (suc n)))

-- a table of nothing is below each other one
nothing-row : (n k : ℕ) → row (replicate n Nothing) k ≡ Nothing
nothing-row zero k = refl
nothing-row (suc n) zero = refl
nothing-row (suc n) (suc k) = nothing-row n k

pub nothing-below : (n : ℕ) (table other : List Known) → table ≡ replicate n Nothing → AllBelow table other
nothing-below n table other e = λ k. subst (λ x. IsBelow x (row other k)) (sym (ap (λ t. row t k) e ∙ nothing-row n k))
    refl

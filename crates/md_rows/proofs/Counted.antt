-- The header of the stream of tables: which tables there are, and how many rows they have.
use Rattle.std.proofs.Common.{◌≡◌, ◌∙◌, ℕ, zero, suc, ◌+◌, ◌-◌, ◌*◌, ◌<◌, ◌≤◌, Bool, true, false, cond, ◌&&◌, List, []}
use Rattle.std.proofs.Common.{◌∷◌, ◌++◌, length, map, Option, Some, None, nat_le, ap, refl, subst, sym, arith}
use Rattle.std.specs.List.{range_with_len}
use Rattle.std.proofs.lemmas.List.FromFn.{map-range_with_len_more}
use Rattle.md_rows.specs.Widths.{has_table, is_refused, refused_from, tables_below, row_count, valid, number_at, fits}
use Rattle.md_rows.specs.Widths.{rows_place}

-- one table further
pub refused_on : (mask n m table : ℕ) → n ≡ suc m
    → refused_from mask n table ≡ cond (has_table mask table && is_refused table) (Some table)
    (refused_from mask m (suc table))
unfolding refused_from
refused_on mask n m table e = ap (λ k. refused_from mask k table) e

pub refused_none : (mask n table : ℕ) → n ≡ 0 → refused_from mask n table ≡ None
unfolding refused_from
refused_none mask n table e = ap (λ k. refused_from mask k table) e

below_step : (mask table : ℕ)
    → tables_below mask (suc table) ≡ tables_below mask table + cond (has_table mask table) 1 0
unfolding tables_below
below_step mask table = refl

-- of more numbers as many tables at least
pub below_le : (mask a d n : ℕ) → n ≡ a + d → tables_below mask a ≤ tables_below mask n
below_le mask a zero n e =
    let same : a ≡ n = omega arith in
    let here : tables_below mask a ≤ tables_below mask a = omega arith in
    subst (λ k. tables_below mask a ≤ tables_below mask k) same here
below_le mask a (suc d) n e =
    let next : suc (a + d) ≡ n = omega arith in
    let rest : tables_below mask a ≤ tables_below mask (a + d) = below_le mask a d (a + d) refl in
    let more : tables_below mask (suc (a + d)) ≡ tables_below mask (a + d) + cond (has_table mask (a + d)) 1 0 =
    below_step mask (a + d) in
    let here : tables_below mask a ≤ tables_below mask (suc (a + d)) = omega (arith, rest, more) in
    subst (λ k. tables_below mask a ≤ tables_below mask k) next here

-- a number and the place behind it
abbrev pub pair_of : ℕ → ℕ → Option (ℕ × ℕ)
pair_of n at = Some (n, at)

-- numbers and the place behind them
abbrev pub list_and_place : List ℕ → ℕ → Option (List ℕ × ℕ)
list_and_place ns at = Some (ns, at)

-- what stands at the place of a number of rows
abbrev pub counted : List ℕ → ℕ → Bool → Option (ℕ × ℕ)
counted stream at there =
    cond there (cond (fits stream at 4) (pair_of (number_at stream 4 at) (at + 4)) None) (pair_of 0 at)

-- what stands in a pair
one_pair : (p q : ℕ × ℕ) → Some p ≡ Some q → p ≡ q
one_pair p q h = cc

first_of : (there fit : Bool) (n at count next : ℕ)
    → pair_of count next ≡ cond there (cond fit (pair_of n (at + 4)) None) (pair_of 0 at) → count ≡ cond there n 0
first_of true true n at count next h = ap (λ (p : ℕ × ℕ). p.0) (one_pair (count, next) (n, at + 4) h)
first_of true false n at count next h = cc
first_of false fit n at count next h = ap (λ (p : ℕ × ℕ). p.0) (one_pair (count, next) (0, at) h)

second_of : (there fit : Bool) (n at count next : ℕ)
    → pair_of count next ≡ cond there (cond fit (pair_of n (at + 4)) None) (pair_of 0 at)
    → next ≡ at + 4 * cond there 1 0
second_of true true n at count next h =
    let is : next ≡ at + 4 = ap (λ (p : ℕ × ℕ). p.1) (one_pair (count, next) (n, at + 4) h) in omega (arith, is)
second_of true false n at count next h = cc
second_of false fit n at count next h =
    let is : next ≡ at = ap (λ (p : ℕ × ℕ). p.1) (one_pair (count, next) (0, at) h) in omega (arith, is)

-- the place behind the number of a table's rows
pub place_on : (stream : List ℕ) (table at count next : ℕ) → at ≡ 24 + 4 * tables_below (valid stream) table
    → pair_of count next ≡ counted stream at (has_table (valid stream) table)
    → next ≡ 24 + 4 * tables_below (valid stream) (table + 1)
place_on stream table at count next place found =
    let mask : ℕ = valid stream in
    let behind : next ≡ at + 4 * cond (has_table mask table) 1 0 =
    second_of (has_table mask table) (fits stream at 4) (number_at stream 4 at) at count next found in
    let step : tables_below mask (suc table) ≡ tables_below mask table + cond (has_table mask table) 1 0 =
    below_step mask table in
    let sum : next ≡ 24 + 4 * tables_below mask (suc table) = omega (arith, place, behind, step) in
    let more : suc table ≡ table + 1 = omega arith in
    sum ∙ ap (λ k. 24 + 4 * tables_below mask k) more

-- one number of rows more
pub counts_on : (stream : List ℕ) (table at count next : ℕ) (done : List ℕ)
    → at ≡ 24 + 4 * tables_below (valid stream) table
    → pair_of count next ≡ counted stream at (has_table (valid stream) table)
    → done ≡ map (row_count stream) (range_with_len 0 table)
    → done ++ count ∷ [] ≡ map (row_count stream) (range_with_len 0 (table + 1))
counts_on stream table at count next done place found so_far =
    let mask : ℕ = valid stream in
    let value : count ≡ cond (has_table mask table) (number_at stream 4 at) 0 =
    first_of (has_table mask table) (fits stream at 4) (number_at stream 4 at) at count next found in
    let here : count ≡ row_count stream table =
    value ∙ ap (λ a. cond (has_table mask table) (number_at stream 4 a) 0) place in
    ap (λ xs. xs ++ count ∷ []) so_far
    ∙ ap (λ n. map (row_count stream) (range_with_len 0 table) ++ n ∷ []) here
    ∙ sym (map-range_with_len_more (row_count stream) 0 table table (omega arith))

nothing : (p : Option (ℕ × ℕ)) (q : ℕ × ℕ) (A : Type 0) → None ≡ p → p ≡ Some q → A
nothing p q A h e = absurd (cc)

none_of : (there fit : Bool) (n at : ℕ)
    → None ≡ cond there (cond fit (pair_of n (at + 4)) None) (pair_of 0 at) → (there ≡ true) × (fit ≡ false)
none_of true true n at h = nothing (pair_of n (at + 4)) (n, at + 4) ((true ≡ true) × (true ≡ false)) h refl
none_of true false n at h = (refl, refl)
none_of false fit n at h = nothing (pair_of 0 at) (0, at) ((false ≡ true) × (fit ≡ false)) h refl

over : (a b : ℕ) → nat_le a b ≡ false → b < a
over a b h = grind arith

not_over : (a b : ℕ) → b < a → nat_le a b ≡ false
not_over a b h = grind arith

-- a number of rows that is cut
pub cut : (stream : List ℕ) (table at : ℕ) → table < 64 → at ≡ 24 + 4 * tables_below (valid stream) table
    → None ≡ counted stream at (has_table (valid stream) table) → fits stream 0 (rows_place stream) ≡ false
cut stream table at few place none =
    let mask : ℕ = valid stream in
    let both : (has_table mask table ≡ true) × (fits stream at 4 ≡ false) =
    none_of (has_table mask table) (fits stream at 4) (number_at stream 4 at) at none in
    let past : length stream < at + 4 = over (at + 4) (length stream) both.1 in
    let step : tables_below mask (suc table) ≡ tables_below mask table + 1 =
    below_step mask table ∙ ap (λ b. tables_below mask table + cond b 1 0) both.0 in
    let all : tables_below mask (suc table) ≤ tables_below mask 64 =
    below_le mask (suc table) (64 - suc table) 64 (omega arith) in
    not_over (0 + rows_place stream) (length stream) (omega (arith, past, step, all, place))

-- numbers of rows that are whole
pub whole : (stream : List ℕ) (at : ℕ) → at ≡ rows_place stream → at ≤ length stream
    → fits stream 0 (rows_place stream) ≡ true
whole stream at place inside =
    let in_stream : 0 + rows_place stream ≤ length stream = omega (arith, place, inside) in
    grind (arith, in_stream)

-- a table that is refused, among those that are left
pub refused_here : (mask table : ℕ) (all : Option ℕ) → table < 64
    → (has_table mask table && is_refused table) ≡ true → all ≡ refused_from mask (64 - table) table
    → all ≡ Some table
refused_here mask table all less bad so_far =
    let left : 64 - table ≡ suc (64 - (table + 1)) = omega arith in
    so_far
    ∙ refused_on mask (64 - table) (64 - (table + 1)) table left
    ∙ ap (λ b. cond b (Some table) (refused_from mask (64 - (table + 1)) (suc table))) bad

-- one that isn't
pub refused_later : (mask table : ℕ) (all : Option ℕ) → table < 64
    → (has_table mask table && is_refused table) ≡ false → all ≡ refused_from mask (64 - table) table
    → all ≡ refused_from mask (64 - (table + 1)) (table + 1)
refused_later mask table all less fine so_far =
    let left : 64 - table ≡ suc (64 - (table + 1)) = omega arith in
    let next : suc table ≡ table + 1 = omega arith in
    so_far
    ∙ refused_on mask (64 - table) (64 - (table + 1)) table left
    ∙ ap (λ b. cond b (Some table) (refused_from mask (64 - (table + 1)) (suc table))) fine
    ∙ ap (refused_from mask (64 - (table + 1))) next

-- none among all
pub refused_nowhere : (mask table : ℕ) (all : Option ℕ) → 64 ≤ table → all ≡ refused_from mask (64 - table) table
    → all ≡ None
refused_nowhere mask table all over so_far = so_far ∙ refused_none mask (64 - table) table (omega arith)

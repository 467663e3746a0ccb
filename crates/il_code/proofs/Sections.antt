-- Sections of a body, one behind another.
use Rattle.std.proofs.Common.{◌≡◌, ◌∙◌, ℕ, suc, ◌+◌, ◌*◌, ◌/◌, ◌%◌, ◌<◌, ◌≤◌, Bool, true, false, cond}
use Rattle.std.proofs.Common.{nat_le, nat_eq, List, [], ◌∷◌, ◌++◌, length, map, Option, Some, None, ap, refl, sym}
use Rattle.std.proofs.Common.{slice_index, arith, append_assoc, length-append, ◌&&◌, Result, Ok, Err, OnOk}
use Rattle.std.specs.Option.{option_map}
use Rattle.std.specs.List.{range_with_len}
use Rattle.std.proofs.lemmas.Bool.{and_parts, eqb-true, leb-true, le-ltb, lt-leb, lt-ltb}
use Rattle.std.proofs.lemmas.List.FromFn.{map-range_with_len_more, length-map-range_with_len}
use Rattle.il_code.specs.Headers.{aligned, has_more, is_fat_section, number_at, section_end, section_size, sections_end}
use Rattle.il_code.specs.Clauses.{fat_row, has_table, is_table, rows_at, rows_from, small_row}
use Rattle.il_code.specs.declared.clause.Row.{Row}

-- ---- where they end

pub no_end : (n m : ℕ) (bytes : List ℕ) (at : ℕ) → n ≡ suc m → length bytes < section_end bytes at
    → sections_end n bytes at ≡ None
no_end n m bytes at left past =
    ap (λ k. sections_end k bytes at) left
    ∙ ap (λ b. cond b None (cond (has_more bytes at) (sections_end m bytes (aligned (section_end bytes at)))
    (Some (section_end bytes at)))) (lt-ltb _ _ past)

end_by : (n m : ℕ) (bytes : List ℕ) (at : ℕ) (more : Bool) → n ≡ suc m → section_end bytes at ≤ length bytes
    → has_more bytes at ≡ more
    → sections_end n bytes at ≡ cond more (sections_end m bytes (aligned (section_end bytes at)))
    (Some (section_end bytes at))
end_by n m bytes at more left fits is =
    ap (λ k. sections_end k bytes at) left
    ∙ (ap (λ b. cond b None (cond (has_more bytes at) (sections_end m bytes (aligned (section_end bytes at)))
    (Some (section_end bytes at)))) (le-ltb _ _ fits)
    ∙ ap (λ b. cond b (sections_end m bytes (aligned (section_end bytes at))) (Some (section_end bytes at))) is)

pub last_end_is : (n m : ℕ) (bytes : List ℕ) (at : ℕ) → n ≡ suc m → section_end bytes at ≤ length bytes
    → has_more bytes at ≡ false → sections_end n bytes at ≡ Some (section_end bytes at)
last_end_is n m bytes at left fits is = end_by n m bytes at false left fits is

pub ends_on : (n m : ℕ) (bytes : List ℕ) (at : ℕ) → n ≡ suc m → section_end bytes at ≤ length bytes
    → has_more bytes at ≡ true → sections_end n bytes at ≡ sections_end m bytes (aligned (section_end bytes at))
ends_on n m bytes at left fits is = end_by n m bytes at true left fits is

-- ---- their clauses

-- clauses that were read, in front of those behind them
abbrev pub behind_rows : List Row → Option (List Row) → Option (List Row)
behind_rows done rest = option_map (λ rows. done ++ rows) rest

pub no_rows : (n m : ℕ) (bytes : List ℕ) (end : ℕ) → n ≡ suc m → has_table bytes end ≡ false
    → rows_from n bytes end ≡ None
no_rows n m bytes end left is =
    ap (λ k. rows_from k bytes end) left
    ∙ ap (λ b. cond b (cond (has_more bytes (aligned end))
    (behind_rows (rows_at bytes (aligned end)) (rows_from m bytes (section_end bytes (aligned end))))
    (Some (rows_at bytes (aligned end)))) None) is

rows_by : (n m : ℕ) (bytes : List ℕ) (end : ℕ) (more : Bool) → n ≡ suc m → has_table bytes end ≡ true
    → has_more bytes (aligned end) ≡ more
    → rows_from n bytes end ≡ cond more
    (behind_rows (rows_at bytes (aligned end)) (rows_from m bytes (section_end bytes (aligned end))))
    (Some (rows_at bytes (aligned end)))
rows_by n m bytes end more left is is-more =
    ap (λ k. rows_from k bytes end) left
    ∙ (ap (λ b. cond b (cond (has_more bytes (aligned end))
    (behind_rows (rows_at bytes (aligned end)) (rows_from m bytes (section_end bytes (aligned end))))
    (Some (rows_at bytes (aligned end)))) None) is
    ∙ ap (λ b. cond b
    (behind_rows (rows_at bytes (aligned end)) (rows_from m bytes (section_end bytes (aligned end))))
    (Some (rows_at bytes (aligned end)))) is-more)

twice_behind : (done rows : List Row) (rest : Option (List Row))
    → behind_rows done (behind_rows rows rest) ≡ behind_rows (done ++ rows) rest
twice_behind done rows None = refl
twice_behind done rows (Some rest) = ap Some (sym (append_assoc done rows rest))

-- the clauses of one more table
pub rows_on : (all : Option (List Row)) (done done' : List Row) (n m : ℕ) (bytes : List ℕ) (end next : ℕ) → n ≡ suc m
    → has_table bytes end ≡ true → has_more bytes (aligned end) ≡ true → done' ≡ done ++ rows_at bytes (aligned end)
    → next ≡ section_end bytes (aligned end) → all ≡ behind_rows done (rows_from n bytes end)
    → all ≡ behind_rows done' (rows_from m bytes next)
rows_on all done done' n m bytes end next left is more grown next-is so_far =
    so_far
    ∙ (ap (behind_rows done) (rows_by n m bytes end true left is more)
    ∙ (twice_behind done (rows_at bytes (aligned end)) (rows_from m bytes (section_end bytes (aligned end)))
    ∙ (ap (λ d. behind_rows d (rows_from m bytes (section_end bytes (aligned end)))) (sym grown)
    ∙ ap (λ e. behind_rows done' (rows_from m bytes e)) (sym next-is))))

-- those of the last
pub last_rows : (all : Option (List Row)) (done done' : List Row) (n m : ℕ) (bytes : List ℕ) (end : ℕ) → n ≡ suc m
    → has_table bytes end ≡ true → has_more bytes (aligned end) ≡ false
    → done' ≡ done ++ rows_at bytes (aligned end) → all ≡ behind_rows done (rows_from n bytes end)
    → Some done' ≡ all
last_rows all done done' n m bytes end left is more grown so_far =
    ap Some grown ∙ sym (so_far ∙ ap (behind_rows done) (rows_by n m bytes end false left is more))

-- no table stands here
pub bad_rows : (all : Option (List Row)) (done : List Row) (n m : ℕ) (bytes : List ℕ) (end : ℕ) → n ≡ suc m
    → has_table bytes end ≡ false → all ≡ behind_rows done (rows_from n bytes end) → None ≡ all
bad_rows all done n m bytes end left is so_far =
    sym (so_far ∙ ap (behind_rows done) (no_rows n m bytes end left is))

and-false : (x y : Bool) → y ≡ false → (x && y) ≡ false
and-false true y e = e
and-false false y e = refl

-- what doesn't fit is no table
pub past_is_none : (bytes : List ℕ) (end : ℕ) → length bytes < section_end bytes (aligned end)
    → has_table bytes end ≡ false
past_is_none bytes end past = and-false _ _ (by _ _ (lt-leb _ _ past))
  where
    by : (b x : Bool) → b ≡ false → (b && x) ≡ false
    by b x e = ap (λ t. t && x) e

-- ---- what a table is

-- a table fits into the bytes, and its rows fit into it
pub record IsTable (bytes : List ℕ) (at : ℕ) : Type 0 where
  pub fits : section_end bytes at ≤ length bytes
  pub fat : is_fat_section bytes at ≡ true → section_size bytes at % 24 ≡ 4
  pub small : is_fat_section bytes at ≡ false → section_size bytes at % 12 ≡ 4

table_by : (a k f x y z : Bool) → (a && (k && cond f x (y && z))) ≡ true
    → (a ≡ true) × (f ≡ true → x ≡ true) × (f ≡ false → y ≡ true)
table_by true true true x y z h = (refl, (λ e. h), (λ (e : true ≡ false). cc))
table_by true true false x y z h = (refl, (λ (e : false ≡ true). cc), (λ e. (and_parts y z h).0))
table_by true false f x y z h = cc
table_by false k f x y z h = cc

pub table : (bytes : List ℕ) (at : ℕ) → is_table bytes at ≡ true → IsTable bytes at
table bytes at is =
    let parts = table_by (nat_le (section_end bytes at) (length bytes)) (nat_eq (slice_index bytes at % 0x40) 1)
    (is_fat_section bytes at) (nat_eq (section_size bytes at % 24) 4) (nat_eq (section_size bytes at % 12) 4)
    (nat_eq (number_at bytes 2 (at + 2)) 0) is in
    record {
      fits = leb-true (section_end bytes at) (length bytes) parts.0;
      fat = λ (f : is_fat_section bytes at ≡ true). eqb-true (section_size bytes at % 24) 4 (parts.1 f);
      small = λ (f : is_fat_section bytes at ≡ false). eqb-true (section_size bytes at % 12) 4 (parts.2 f);
    }

-- the rows of a table are those of its form
pub rows_fat : (bytes : List ℕ) (at : ℕ) → is_fat_section bytes at ≡ true
    → rows_at bytes at ≡ map (λ k. fat_row bytes (at + 4 + 24 * k)) (range_with_len 0 (section_size bytes at / 24))
rows_fat bytes at is =
    ap (λ b. cond b (map (λ k. fat_row bytes (at + 4 + 24 * k)) (range_with_len 0 (section_size bytes at / 24)))
    (map (λ k. small_row bytes (at + 4 + 12 * k)) (range_with_len 0 (section_size bytes at / 12)))) is

pub rows_small : (bytes : List ℕ) (at : ℕ) → is_fat_section bytes at ≡ false
    → rows_at bytes at ≡ map (λ k. small_row bytes (at + 4 + 12 * k)) (range_with_len 0 (section_size bytes at / 12))
rows_small bytes at is =
    ap (λ b. cond b (map (λ k. fat_row bytes (at + 4 + 24 * k)) (range_with_len 0 (section_size bytes at / 24)))
    (map (λ k. small_row bytes (at + 4 + 12 * k)) (range_with_len 0 (section_size bytes at / 12)))) is

pub table_header : (bytes : List ℕ) (at : ℕ) → is_table bytes at ≡ true → at + 4 ≤ length bytes
table_header bytes at is =
    let fits : section_end bytes at ≤ length bytes = (table bytes at is).fits in
    omega (arith, fits)

-- the clauses of a table lie in the bytes
pub fat_fits : (bytes : List ℕ) (at : ℕ) → is_table bytes at ≡ true → is_fat_section bytes at ≡ true
    → at + 4 + 24 * (section_size bytes at / 24) ≤ length bytes
fat_fits bytes at is fat =
    let fits : section_end bytes at ≤ length bytes = (table bytes at is).fits in
    let size : section_size bytes at % 24 ≡ 4 = (table bytes at is).fat fat in
    omega (arith, fits, size)

pub small_fits : (bytes : List ℕ) (at : ℕ) → is_table bytes at ≡ true → is_fat_section bytes at ≡ false
    → at + 4 + 12 * (section_size bytes at / 12) ≤ length bytes
small_fits bytes at is small =
    let fits : section_end bytes at ≤ length bytes = (table bytes at is).fits in
    let size : section_size bytes at % 12 ≡ 4 = (table bytes at is).small small in
    omega (arith, fits, size)

-- there are fewer of them than bytes
pub few_rows : (f : ℕ → Row) (old new : List Row) (bytes : List ℕ) (at n : ℕ) → n ≤ section_size bytes at
    → new ≡ old ++ map f (range_with_len 0 n) → length new + at ≤ length old + section_end bytes at
few_rows f old new bytes at n few grown =
    let size : length new ≡ length old + n =
    ap length grown
    ∙ (length-append old (map f (range_with_len 0 n))
    ∙ ap (λ k. length old + k) (length-map-range_with_len f 0 n)) in
    omega (arith, few, size)

-- one more clause
pub one_more_row : (f : ℕ → Row) (old done new : List Row) (row : Row) (n : ℕ) → new ≡ done ++ row ∷ [] → row ≡ f n
    → done ≡ old ++ map f (range_with_len 0 n) → new ≡ old ++ map f (range_with_len 0 (n + 1))
one_more_row f old done new row n grown is so_far =
    grown
    ∙ (ap (λ r. done ++ r ∷ []) is
    ∙ (ap (λ rows. rows ++ f n ∷ []) so_far
    ∙ (append_assoc old (map f (range_with_len 0 n)) (f n ∷ [])
    ∙ ap (λ rows. old ++ rows) (sym (map-range_with_len_more f 0 n n (omega arith))))))

pub on-ok : {T E : Type 0} (r : Result T E) (P Q : Type 0) → (P → Q) → OnOk r P → OnOk r Q
on-ok (Ok x) P Q f h = f h
on-ok (Err e) P Q f h = tt

-- Tables that don't have too many rows.
use Rattle.std.proofs.Common.{◌≡◌, ◌∙◌, ℕ, ◌<◌, ◌^◌, ◌==◌, Bool, true, false, cond, List, [], ◌∷◌, length, find}
use Rattle.std.proofs.Common.{Some, None, ap, refl, sym, arith, lit<}
use Rattle.std.specs.Option.{option_map}
use Rattle.std.proofs.lemmas.Bool.{leb-false}
use Rattle.md_tables.specs.declared.module.Table.{Table}
use Rattle.md_write.specs.Heaps.{rows_or_none, table_rows}
use Rattle.md_write.specs.Written.{has_too_many, first_too_many}

some≢none : (n : ℕ) → Some n ≡ None → ⊥
some≢none n e = cc

pub few_rows : (tables : List Table) (number : ℕ) → first_too_many tables ≡ None
    → length (table_rows tables number) < 2 ^ 24
few_rows [] number none = lit< tt
few_rows (table ∷ rest) number none = by (few_rows rest number) (has_too_many table) refl (table.number == number) refl
  where
    by : (first_too_many rest ≡ None → length (table_rows rest number) < 2 ^ 24) → (many : Bool)
        → has_too_many table ≡ many → (here : Bool) → (table.number == number) ≡ here
        → length (table_rows (table ∷ rest) number) < 2 ^ 24
    by less true e here f =
        absurd (some≢none table.number
        (sym (ap (λ b. option_map (λ (t : Table). t.number) (cond b (Some table) (find has_too_many rest))) e) ∙ none))
    by less false e true f =
        let few : length table.rows < 2 ^ 24 = leb-false (2 ^ 24) (length table.rows) e in
        let same : table_rows (table ∷ rest) number ≡ table.rows =
        ap (λ b. rows_or_none (cond b (Some table) (find (λ t. t.number == number) rest))) f in
        omega (arith, few, ap length same)
    by less false e false f =
        let behind : first_too_many rest ≡ None =
        sym (ap (λ b. option_map (λ (t : Table). t.number) (cond b (Some table) (find has_too_many rest))) e) ∙ none in
        let few : length (table_rows rest number) < 2 ^ 24 = less behind in
        let same : table_rows (table ∷ rest) number ≡ table_rows rest number =
        ap (λ b. rows_or_none (cond b (Some table) (find (λ t. t.number == number) rest))) f in
        omega (arith, few, ap length same)

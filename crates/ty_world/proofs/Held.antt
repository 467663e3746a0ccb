-- What a module's tables hold: a type is nested in a type that is there.
use Rattle.std.proofs.Common.{◌≡◌, ℕ, ◌≤◌, ◌==◌, Bool, true, false, cond}
use Rattle.std.proofs.Common.{List, [], ◌∷◌, length, slice_get, Option, Some, None, find, refl, sym, ap, subst, arith}
use Rattle.std.proofs.Common.{eqb-true, leb-true}
use Rattle.std.proofs.lemmas.Bool.{and_parts, false≢true}
use Rattle.std.specs.List.{list_all}
use Rattle.std.specs.Option.{option_map}
use Rattle.md_rows.specs.declared.cell.Cell.{Cell}
use Rattle.md_rows.specs.declared.cell.Cell.TheVariants.{Number, Name, Blob, Index, Coded}
use Rattle.md_rows.specs.declared.schema.Column.TheVariants.{RowIndex}
use Rattle.md_rows.specs.Fits.{are_cells, held_tables, is_cell}
use Rattle.md_rows.specs.Tables.{TableSchema, tables}
use Rattle.md_rows.specs.Widths.{or_zero}
use Rattle.md_tables.specs.declared.module.Table.{Table}
use Rattle.md_tables.specs.declared.module.TableRow.{TableRow}
use Rattle.md_tables.specs.Modules.{are_tables, columns_of, is_module, is_row, is_table, rows_in}
use Rattle.ty_names.specs.Modules.{cell_of, index_of, rows, rows_of}
use Rattle.ty_names.specs.Definitions.{enclosing, enclosing_in, is_nested_row, type_count}

count_is : (held : List Table) (number : ℕ) → rows_in held number ≡ length (rows held number)
count_is held number = by (find (λ table. table.number == number) held)
  where
    by : (found : Option Table)
        → or_zero (option_map (λ (table : Table). length table.rows) found) ≡ length (rows_of found)
    by None = refl
    by (Some table) = refl

-- the rows of a table, as a table of its schema has them
module _ (count : ℕ → ℕ) (number : ℕ) where
  abbrev OfSchema : Option TableSchema → List TableRow → Type 0
  OfSchema None all = all ≡ []
  OfSchema (Some schema) all = list_all (is_row count schema) all ≡ true

  rows_by : (schemas : List TableSchema) (held : List Table) → are_tables count schemas held ≡ true
      → OfSchema (find (λ schema. schema.number == number) schemas)
      (rows_of (find (λ table. table.number == number) held))
  rows_by [] [] h = refl
  rows_by [] (table ∷ held) h = absurd (false≢true h)
  rows_by (schema ∷ schemas) [] h = absurd (false≢true h)
  rows_by (schema ∷ schemas) (table ∷ held) h =
      let both = and_parts (is_table count schema table) (are_tables count schemas held) h in
      let parts = and_parts (table.number == schema.number) _ both.0 in
      let cells = and_parts (list_all (is_row count schema) table.rows) _ parts.1 in
      by (schema.number == number) (table.number == number)
      (ap (λ n. n == number) (sym (eqb-true table.number schema.number parts.0))) cells.0
      (rows_by schemas held both.1)
    where
      by : (b c : Bool) → b ≡ c → list_all (is_row count schema) table.rows ≡ true
          → OfSchema (find (λ s. s.number == number) schemas) (rows_of (find (λ t. t.number == number) held))
          → OfSchema (cond b (Some schema) (find (λ s. s.number == number) schemas))
          (rows_of (cond c (Some table) (find (λ t. t.number == number) held)))
      by true true e here behind = here
      by false false e here behind = behind
      by true false e here behind = absurd (cc)
      by false true e here behind = absurd (cc)

-- ---- rows of NestedClass

index_within : (count : ℕ → ℕ) (cell : Cell) → is_cell count (RowIndex 0x02) cell ≡ true
    → index_of (Some cell) ≤ count 0x02
index_within count (Index row) h = leb-true row (count 0x02) h
index_within count (Number n) h = absurd (false≢true h)
index_within count (Name n) h = absurd (false≢true h)
index_within count (Blob n) h = absurd (false≢true h)
index_within count (Coded t n) h = absurd (false≢true h)

pair_within : (count : ℕ → ℕ) (cells : List Cell)
    → are_cells count (RowIndex 0x02 ∷ (RowIndex 0x02 ∷ [])) cells ≡ true
    → index_of (slice_get cells 1) ≤ count 0x02
pair_within count [] h = absurd (false≢true h)
pair_within count (first ∷ []) h =
    let both = and_parts (is_cell count (RowIndex 0x02) first) false h in
    absurd (false≢true both.1)
pair_within count (first ∷ (second ∷ rest)) h =
    let both = and_parts (is_cell count (RowIndex 0x02) first) _ h in
    let inner = and_parts (is_cell count (RowIndex 0x02) second) _ both.1 in
    index_within count second inner.0

abbrev nested_schema : TableSchema
nested_schema = record {
  number = 0x29;
  is_held = true;
  has_address = false;
  columns = RowIndex 0x02 ∷ (RowIndex 0x02 ∷ []);
}

nested_is : find (λ schema. schema.number == 0x29) held_tables ≡ Some nested_schema
unfolding held_tables tables
nested_is = refl

row_within : (count : ℕ → ℕ) (row : TableRow) → is_row count nested_schema row ≡ true
    → index_of (slice_get row.cells 1) ≤ count 0x02
row_within count row h =
    let both = and_parts (are_cells count (columns_of nested_schema) row.cells) _ h in
    pair_within count row.cells both.0

found_within : (count : ℕ → ℕ) (row : ℕ) (nested : List TableRow)
    → list_all (is_row count nested_schema) nested ≡ true → enclosing_in nested row ≤ count 0x02
found_within count row [] h = omega arith
found_within count row (first ∷ rest) h =
    let both = and_parts (is_row count nested_schema first) (list_all (is_row count nested_schema) rest) h in
    by (is_nested_row row first) (row_within count first both.0) (found_within count row rest both.1)
  where
    by : (b : Bool) → index_of (slice_get first.cells 1) ≤ count 0x02 → enclosing_in rest row ≤ count 0x02
        → index_of (cell_of (cond b (Some first) (find (is_nested_row row) rest)) 1) ≤ count 0x02
    by true here behind = here
    by false here behind = behind

pub nests_within : (held : List Table) → is_module held ≡ true → (row : ℕ) → enclosing held row ≤ type_count held
unfolding is_module
nests_within held h row =
    let all : list_all (is_row (rows_in held) nested_schema) (rows held 0x29) ≡ true =
    subst (λ (schema : Option TableSchema). OfSchema (rows_in held) 0x29 schema (rows held 0x29)) nested_is
    (rows_by (rows_in held) 0x29 held_tables held h) in
    let e : rows_in held 0x02 ≡ type_count held = count_is held 0x02 in
    omega (arith, found_within (rows_in held) row (rows held 0x29) all, e)

-- What a reading says of each row.
use Rattle.std.proofs.Common.{◌≡◌, ◌∙◌, ℕ, zero, suc, ◌+◌, ◌<◌, Bool, true, false, List, [], ◌∷◌, ◌++◌}
use Rattle.std.proofs.Common.{length, take, Option, Some, None, Result, Ok, Err, ap, refl, subst, sym, arith}
use Rattle.std.specs.Prelude.{slice_get}
use Rattle.md_rows.specs.declared.row.Row.{Row}
use Rattle.md_rows.specs.declared.fault.RowFault.{RowFault}
use Rattle.md_rows.specs.declared.layout.Layout.{Layout}
use Rattle.md_rows.specs.declared.table.Table.{Table}
use Rattle.md_rows.specs.Tables.{TableSchema, tables}
use Rattle.md_rows.specs.Widths.{rows_of, first_refused, valid}
use Rattle.md_rows.specs.Cells.{StreamBytes}
use Rattle.md_rows.specs.Reading.{row_at, kept, with_row, rows_from, rows_in, rows_end, with_table, table_of}
use Rattle.md_rows.specs.Reading.{tables_from, reading, unless_refused, with_layout, table_size, tables_size}
use Rattle.md_rows.specs.Reading.{place_in, HasRows}
use Rattle.md_rows.specs.Reading.{HasTable, RowsStandAtTheirPlaces}

-- a row that was read, and those behind it
pub record RowRead (o : Option Row) (r : Result (List Row) RowFault) (rows : List Row)
    : Type 0 where
  pub cells : Row
  pub more : List Row
  pub row : o ≡ Some cells
  pub rest : r ≡ Ok more
  pub all : rows ≡ cells ∷ more

pub row_read : (schema : TableSchema) (row : ℕ) (o : Option Row) (r : Result (List Row) RowFault)
    (rows : List Row) → schema.is_held ≡ true → with_row schema row o r ≡ Ok rows → RowRead o r rows
row_read schema row None r rows held h = cc
row_read schema row (Some cells) (Ok more) rows held h =
    let is : kept schema.is_held cells ++ more ≡ rows = cc in
    record {
      cells = cells;
      more = more;
      row = refl;
      rest = refl;
      all = sym is ∙ ap (λ b. kept b cells ++ more) held;
    }
row_read schema row (Some cells) (Err fault) rows held h = cc

-- the rows of a table that is held
pub rows_length : (bytes : StreamBytes) (layout : Layout) (schema : TableSchema) (start left row : ℕ)
    (rows : List Row) → schema.is_held ≡ true → rows_from bytes layout schema start left row ≡ Ok rows
    → length rows ≡ left
rows_length bytes layout schema start zero row rows held h = let none : [] ≡ rows = cc in sym (ap length none)
rows_length bytes layout schema start (suc left) row rows held h =
    let read = row_read schema row (row_at bytes layout schema start row)
    (rows_from bytes layout schema start left (suc row)) rows held h in
    ap length read.all
    ∙ ap suc (rows_length bytes layout schema start left (suc row) read.more held read.rest)

rows_are : (bytes : StreamBytes) (layout : Layout) (schema : TableSchema) (start left row : ℕ)
    (rows : List Row) → schema.is_held ≡ true → rows_from bytes layout schema start left row ≡ Ok rows
    → (k n : ℕ) → k < left → row + k ≡ n → slice_get rows k ≡ row_at bytes layout schema start n
rows_are bytes layout schema start zero row rows held h k n less sum = absurd (omega (arith, less))
rows_are bytes layout schema start (suc left) row rows held h zero n less sum =
    let read = row_read schema row (row_at bytes layout schema start row)
    (rows_from bytes layout schema start left (suc row)) rows held h in
    let here : row ≡ n = omega (arith, sum) in
    ap (λ rs. slice_get rs 0) read.all ∙ (sym read.row ∙ ap (row_at bytes layout schema start) here)
rows_are bytes layout schema start (suc left) row rows held h (suc k) n less sum =
    let read = row_read schema row (row_at bytes layout schema start row)
    (rows_from bytes layout schema start left (suc row)) rows held h in
    ap (λ rs. slice_get rs (suc k)) read.all
    ∙ rows_are bytes layout schema start left (suc row) read.more held read.rest k n (omega (arith, less))
    (omega (arith, sum))

-- a table that was read, and those behind it
pub record TableRead (schema : TableSchema) (o : Result (List Row) RowFault) (r : Result (List Table) RowFault)
    (held : List Table) : Type 0 where
  pub rows : List Row
  pub more : List Table
  pub table : o ≡ Ok rows
  pub rest : r ≡ Ok more
  pub all : held ≡ kept schema.is_held (table_of schema.number rows) ++ more

pub table_read : (schema : TableSchema) (o : Result (List Row) RowFault) (r : Result (List Table) RowFault)
    (held : List Table) → with_table schema o r ≡ Ok held → TableRead schema o r held
table_read schema (Err fault) r held h = cc
table_read schema (Ok rows) (Ok more) held h =
    let is : kept schema.is_held (table_of schema.number rows) ++ more ≡ held = cc in
    record { rows = rows; more = more; table = refl; rest = refl; all = sym is }
table_read schema (Ok rows) (Err fault) held h = cc

-- what is among the tables behind one is among all
behind_kept : (b : Bool) (first : Table) (more : List Table) (index : ℕ) (table : Table)
    → slice_get more index ≡ Some table
    → (place : ℕ) × (slice_get (kept b first ++ more) place ≡ Some table)
behind_kept true first more index table h = (suc index, h)
behind_kept false first more index table h = (index, h)

places : (bytes : StreamBytes) (layout : Layout) (schemas : List TableSchema) (start : ℕ) (held : List Table)
    (index : ℕ) (schema : TableSchema) → tables_from bytes layout start schemas ≡ Ok held
    → slice_get schemas index ≡ Some schema → schema.is_held ≡ true
    → HasTable bytes layout schema (place_in layout start schemas index) held
places bytes layout [] start held index schema h is kept_is = cc
places bytes layout (first ∷ rest) start held zero schema h is kept_is =
    let read = table_read first (rows_in bytes layout first start)
    (tables_from bytes layout (rows_end layout first start) rest) held h in
    let same : first ≡ schema = cc in
    let first_held : first.is_held ≡ true = ap (λ (s : TableSchema). s.is_held) same ∙ kept_is in
    let table : Table = table_of first.number read.rows in
    let there : slice_get held 0 ≡ Some table =
    ap (λ ts. slice_get ts 0) (read.all ∙ ap (λ b. kept b table ++ read.more) first_held) in
    let here : start ≡ start + 0 = omega arith in
    let has : HasRows bytes layout first start table =
    record {
      number = refl;
      count = rows_length bytes layout first start (rows_of layout first.number) 0 read.rows first_held read.table;
      rows = λ row less.
          rows_are bytes layout first start (rows_of layout first.number) 0 read.rows first_held read.table row row less
          (omega arith);
    } in (
      0,
      table,
      there,
      subst (λ s. HasRows bytes layout s (start + 0) table) same
          (subst (λ p. HasRows bytes layout first p table) here has),
    )
places bytes layout (first ∷ rest) start held (suc index) schema h is kept_is =
    let read = table_read first (rows_in bytes layout first start)
    (tables_from bytes layout (rows_end layout first start) rest) held h in
    let found : HasTable bytes layout schema (place_in layout (rows_end layout first start) rest index) read.more =
    places bytes layout rest (rows_end layout first start) read.more index schema read.rest is kept_is in
    let among = behind_kept first.is_held (table_of first.number read.rows) read.more found.0 found.1 found.2 in
    let place : rows_end layout first start + tables_size layout (take index rest)
    ≡ start + (table_size layout first + tables_size layout (take index rest)) = omega arith in (
      among.0,
      found.1,
      ap (λ ts. slice_get ts among.0) read.all ∙ among.1,
      subst (λ p. HasRows bytes layout schema p found.1) place found.3,
    )

pub refused_is : (o : Option ℕ) (r : Result (List Table) RowFault) (held : List Table) → unless_refused o r ≡ Ok held
    → r ≡ Ok held
refused_is None r held h = h
refused_is (Some table) r held h = cc

pub stand_at_their_places : RowsStandAtTheirPlaces
unfolding reading
stand_at_their_places bytes layout held index schema header read is kept_is =
    places bytes layout tables layout.place held index schema
    (refused_is (first_refused (valid bytes.tables)) (tables_from bytes layout layout.place tables) held
    (sym (ap (with_layout bytes) header) ∙ read)) is kept_is

-- Rows of numbers, read from their bytes.
use Rattle.std.proofs.Common.{◌≡◌, ◌∙◌, ℕ, suc, ◌+◌, ◌-◌, ◌*◌, ◌^◌, ◌<◌, Bool, true, false, cond}
use Rattle.std.proofs.Common.{List, [], ◌∷◌, ◌++◌, length, ap, refl, sym, arith, le-leb, ne_eqb, Option, Some, None}
use Rattle.std.specs.Option.{option_map}
use Rattle.byteorder.specs.Endian.{little_bytes}
use Rattle.byteorder.specs.Numbers.{length-bytes_low_first}
use Rattle.md_rows.specs.declared.cell.Cell.{Cell}
use Rattle.md_rows.specs.declared.layout.Layout.{Layout}
use Rattle.md_rows.specs.declared.schema.Column.{Column}
use Rattle.md_rows.specs.Tables.{TableSchema}
use Rattle.md_rows.specs.Widths.{number_at, fits, rows_of, column_size, address_size, row_size}
use Rattle.md_rows.specs.Cells.{StreamBytes, cell_of, cell_at, with_cell, cells_at}
use Rattle.md_rows.specs.Reading.{address_at, row_of, row_from, back_of, row_at, with_row, rows_from, rows_in, rows_end}
use Rattle.md_rows.specs.Reading.{with_table, tables_from}
use Rattle.md_tables.specs.declared.module.Table.{Table}
use Rattle.md_write.proofs.Numbers.{RowNumbers, table_numbers, numbered_cells, numbered_row, rows_behind}
use Rattle.md_write.proofs.Numbers.{numbered_rows, numbered_tables}
use Rattle.md_write.proofs.Standing.{Stands, stands-is, stands-first, stands-second, stands-fits, stands-number}
use Rattle.md_write.proofs.Fitted.{NumbersFit}
use Rattle.md_write.proofs.Encoded.{columns_bytes, start_bytes, numbered_bytes, all_bytes, numbered_stream, RowFits}
use Rattle.md_write.proofs.Encoded.{RowsFit, start_long, row_long, rows_long}

-- what stands behind a number
behind_number : (bytes : List ℕ) (size number at : ℕ) (more : List ℕ)
    → Stands bytes (little_bytes size number ++ more) at → Stands bytes more (at + size)
behind_number bytes size number at more h =
    stands-is bytes more more (at + length (little_bytes size number)) (at + size) refl
    (ap (λ n. at + n) (length-bytes_low_first 0 size number))
    (stands-second bytes (little_bytes size number) more at h)

-- the address that a row begins with
address_by : (bytes : List ℕ) (b : Bool) (address at : ℕ) (more : List ℕ) → address < 2 ^ 32
    → Stands bytes (cond b (little_bytes 4 address) [] ++ more) at
    → cond b (number_at bytes 4 at) 0 ≡ cond b address 0
address_by bytes true address at more low h =
    stands-number bytes 4 address at low (stands-first bytes (little_bytes 4 address) more at h)
address_by bytes false address at more low h = refl

-- The tables of schemas, each with rows that fit and as many as the layout tells.
abbrev pub AreLaid : Layout → List Table → List TableSchema → Type 0
AreLaid layout tables [] = Unit {0}
AreLaid layout tables (schema ∷ list) =
    RowsFit layout schema (table_numbers tables schema)
    × (rows_of layout schema.number ≡ length (table_numbers tables schema)) × AreLaid layout tables list

module _ (bytes : StreamBytes) (layout : Layout) where
  -- the cells of a row, behind another row that begins `back` bytes before
  cells_read : (columns : List Column) (front numbers : List ℕ) (at before back : ℕ)
      → NumbersFit layout columns front → NumbersFit layout columns numbers → before + back ≡ at
      → Stands bytes.tables (columns_bytes layout columns front) before
      → Stands bytes.tables (columns_bytes layout columns numbers) at
      → cells_at bytes layout columns at back ≡ numbered_cells bytes layout columns front numbers
  cells_read [] front numbers at before back first_fit fit place there here = refl
  cells_read (column ∷ columns) [] numbers at before back first_fit fit place there here = absurd first_fit
  cells_read (column ∷ columns) (first ∷ front) [] at before back first_fit fit place there here = absurd fit
  cells_read (column ∷ columns) (first ∷ front) (number ∷ numbers) at before back first_fit fit place there here =
      let stream : List ℕ = bytes.tables in
      let size : ℕ = column_size layout column in
      let behind : at - back ≡ before = omega (arith, place) in
      let least : number_at stream size (at - back) ≡ first =
      ap (number_at stream size) behind
      ∙ stands-number stream size first before first_fit.0
      (stands-first stream (little_bytes size first) (columns_bytes layout columns front) before there) in
      let value : number_at stream size at ≡ number =
      stands-number stream size number at fit.0
      (stands-first stream (little_bytes size number) (columns_bytes layout columns numbers) at here) in
      let cell : cell_at bytes layout column at back ≡ cell_of bytes layout column first number =
      ap (λ n. cell_of bytes layout column n (number_at stream size at)) least
      ∙ ap (λ n. cell_of bytes layout column first n) value in
      let rest : cells_at bytes layout columns (at + size) back ≡ numbered_cells bytes layout columns front numbers =
      cells_read columns front numbers (at + size) (before + size) back first_fit.1 fit.1 (omega (arith, place))
      (behind_number stream size first before (columns_bytes layout columns front) there)
      (behind_number stream size number at (columns_bytes layout columns numbers) here) in
      ap (λ c. with_cell c (cells_at bytes layout columns (at + size) back)) cell
      ∙ ap (λ r. with_cell (cell_of bytes layout column first number) r) rest

  -- the columns of a row
  columns_there : (schema : TableSchema) (row : RowNumbers) (at : ℕ)
      → Stands bytes.tables (numbered_bytes layout schema row) at
      → Stands bytes.tables (columns_bytes layout schema.columns row.numbers) (at + address_size schema)
  columns_there schema row at h =
      let part : List ℕ = columns_bytes layout schema.columns row.numbers in
      stands-is bytes.tables part part (at + length (start_bytes schema row.address)) (at + address_size schema) refl
      (ap (λ n. at + n) (start_long schema row.address))
      (stands-second bytes.tables (start_bytes schema row.address) part at h)

  row_read : (schema : TableSchema) (front row : RowNumbers) (at before back : ℕ) → RowFits layout schema front
      → RowFits layout schema row → before + back ≡ at
      → Stands bytes.tables (numbered_bytes layout schema front) before
      → Stands bytes.tables (numbered_bytes layout schema row) at
      → row_from bytes layout schema at back ≡ numbered_row bytes layout schema front.numbers row
  row_read schema front row at before back first_fit fit place there here =
      let stream : List ℕ = bytes.tables in
      let cells : Option (List Cell) = cells_at bytes layout schema.columns (at + address_size schema) back in
      let whole : fits stream at (row_size layout schema) ≡ true =
      le-leb (at + row_size layout schema) (length stream)
      (omega (
        arith,
        stands-fits stream (numbered_bytes layout schema row) at here,
        row_long layout schema row fit,
      )) in
      let address : address_at bytes schema at ≡ row.address =
      address_by stream schema.has_address row.address at (columns_bytes layout schema.columns row.numbers) fit.address
      here ∙ fit.own in
      let read : cells ≡ numbered_cells bytes layout schema.columns front.numbers row.numbers =
      cells_read schema.columns front.numbers row.numbers (at + address_size schema) (before + address_size schema)
      back first_fit.numbers fit.numbers (omega (arith, place)) (columns_there schema front before there)
      (columns_there schema row at here) in
      ap (λ b. cond b (cond schema.is_held (option_map (row_of (address_at bytes schema at)) cells)
      (Some (row_of 0 []))) None) whole
      ∙ (ap (λ a. cond schema.is_held (option_map (row_of a) cells) (Some (row_of 0 []))) address
      ∙ ap (λ c. cond schema.is_held (option_map (row_of row.address) c) (Some (row_of 0 []))) read)

  -- rows from a number on, behind a row
  rows_read : (schema : TableSchema) (start : ℕ) (front : RowNumbers) (rows : List RowNumbers) (number before : ℕ)
      → RowFits layout schema front → RowsFit layout schema rows
      → before + back_of (row_size layout schema) number ≡ start + number * row_size layout schema
      → Stands bytes.tables (numbered_bytes layout schema front) before
      → Stands bytes.tables (all_bytes layout schema rows) (start + number * row_size layout schema)
      → rows_from bytes layout schema start (length rows) number
      ≡ rows_behind bytes layout schema front.numbers number rows
  rows_read schema start front [] number before first_fit fit place there here = refl
  rows_read schema start front (row ∷ rest) number before first_fit fit place there here =
      let stream : List ℕ = bytes.tables in
      let size : ℕ = row_size layout schema in
      let at : ℕ = start + number * size in
      let own : Stands stream (numbered_bytes layout schema row) at =
      stands-first stream (numbered_bytes layout schema row) (all_bytes layout schema rest) at here in
      let one : row_at bytes layout schema start number ≡ numbered_row bytes layout schema front.numbers row =
      row_read schema front row at before (back_of size number) first_fit fit.0 place there own in
      let long : length (numbered_bytes layout schema row) ≡ size = row_long layout schema row fit.0 in
      let back : back_of size (suc number) ≡ size = ap (λ b. cond b 0 size) (ne_eqb (suc number) 0 (λ e. some e)) in
      let next : at + size ≡ start + suc number * size = omega arith in
      let behind : Stands stream (all_bytes layout schema rest) (start + suc number * size) =
      stands-is stream (all_bytes layout schema rest) (all_bytes layout schema rest)
      (at + length (numbered_bytes layout schema row)) (start + suc number * size) refl
      (ap (λ n. at + n) long ∙ next)
      (stands-second stream (numbered_bytes layout schema row) (all_bytes layout schema rest) at here) in
      let others : rows_from bytes layout schema start (length rest) (suc number)
      ≡ rows_behind bytes layout schema row.numbers (suc number) rest =
      rows_read schema start row rest (suc number) at fit.0 fit.1 (ap (λ n. at + n) back ∙ next) own behind in
      ap (λ o. with_row schema number o (rows_from bytes layout schema start (length rest) (suc number))) one
      ∙ ap (λ r. with_row schema number (numbered_row bytes layout schema front.numbers row) r) others
    where
      some : suc number ≡ 0 → ⊥
      some e = omega (arith, e)

  table_read : (schema : TableSchema) (start : ℕ) (rows : List RowNumbers) → RowsFit layout schema rows
      → rows_of layout schema.number ≡ length rows → Stands bytes.tables (all_bytes layout schema rows) start
      → rows_in bytes layout schema start ≡ numbered_rows bytes layout schema rows
  table_read schema start [] fit count here = ap (λ n. rows_from bytes layout schema start n 0) count
  table_read schema start (row ∷ rest) fit count here =
      let size : ℕ = row_size layout schema in
      let part : List ℕ = all_bytes layout schema (row ∷ rest) in
      let place : start ≡ start + 0 * size = omega arith in
      let none : start + back_of size 0 ≡ start + 0 * size = omega arith in
      ap (λ n. rows_from bytes layout schema start n 0) count
      ∙ rows_read schema start row (row ∷ rest) 0 start fit.0 fit none
      (stands-first bytes.tables (numbered_bytes layout schema row) (all_bytes layout schema rest) start here)
      (stands-is bytes.tables part part start (start + 0 * size) refl place here)

  -- the tables of schemas, one behind another
  pub tables_read : (tables : List Table) (list : List TableSchema) (start : ℕ) → AreLaid layout tables list
      → Stands bytes.tables (numbered_stream layout tables list) start
      → tables_from bytes layout start list ≡ numbered_tables bytes layout tables list
  tables_read tables [] start laid here = refl
  tables_read tables (schema ∷ list) start laid here =
      let stream : List ℕ = bytes.tables in
      let rows : List RowNumbers = table_numbers tables schema in
      let part : List ℕ = all_bytes layout schema rows in
      let more : List ℕ = numbered_stream layout tables list in
      let size : ℕ = row_size layout schema in
      let first : rows_in bytes layout schema start ≡ numbered_rows bytes layout schema rows =
      table_read schema start rows laid.0 laid.1 (stands-first stream part more start here) in
      let place : start + length part ≡ rows_end layout schema start =
      ap (λ n. start + n) (rows_long layout schema rows laid.0)
      ∙ ap (λ n. start + n * size) (sym laid.1) in
      let behind : Stands stream more (rows_end layout schema start) =
      stands-is stream more more (start + length part) (rows_end layout schema start) refl place
      (stands-second stream part more start here) in
      ap (λ r. with_table schema r (tables_from bytes layout (rows_end layout schema start) list)) first
      ∙ ap (λ r. with_table schema (numbered_rows bytes layout schema rows) r)
      (tables_read tables list (rows_end layout schema start) laid.2 behind)

-- The numbers of a stream are read as the rows that were written.
use Rattle.std.proofs.Common.{◌≡◌, ◌∙◌, ℕ, suc, ◌+◌, ◌==◌, ◌&&◌, true, cond, if◌then◌else◌, List, [], ◌∷◌}
use Rattle.std.proofs.Common.{length, map, ap, refl, sym, subst, Option, Some, Result, Ok, option_map}
use Rattle.std.specs.List.{list_all}
use Rattle.std.proofs.lemmas.Bool.{and_parts, eqb-true, false≢true}
use Rattle.md_rows.specs.declared.cell.Cell.{Cell}
use Rattle.md_rows.specs.declared.fault.RowFault.{RowFault}
use Rattle.md_rows.specs.declared.layout.Layout.{Layout}
use Rattle.md_rows.specs.declared.row.Row.{Row}
use Rattle.md_rows.specs.declared.schema.Column.{Column}
use Rattle.md_rows.specs.declared.table.Table.{Table as RowTable}
use Rattle.md_rows.specs.Tables.{TableSchema}
use Rattle.md_rows.specs.Widths.{rows_of}
use Rattle.md_rows.specs.Cells.{StreamBytes, with_cell}
use Rattle.md_rows.specs.Fits.{is_cell, are_cells, is_behind, are_behind, rise, first_row}
use Rattle.md_rows.specs.Reading.{row_of, kept, in_front, with_row, with_table}
use Rattle.md_tables.specs.declared.module.Table.{Table}
use Rattle.md_tables.specs.declared.module.TableRow.{TableRow}
use Rattle.md_tables.specs.Modules.{columns_of, is_row, is_table, rows_in}
use Rattle.md_write.specs.declared.heaps.Heaps.{Heaps}
use Rattle.md_write.specs.Heaps.{own_cells, table_rows, heaps_of, is_short, has_short_cells, has_short_rows}
use Rattle.md_write.specs.Contents.{led_to, part_of, address_of}
use Rattle.md_write.specs.Rows.{start_of}
use Rattle.md_write.specs.Stream.{code_at, data_at, layout_of}
use Rattle.md_write.proofs.Numbers.{cells_numbers, row_numbers, rows_numbers, numbered_cells}
use Rattle.md_write.proofs.Numbers.{numbered_row, rows_behind, numbered_rows, numbered_tables}
use Rattle.md_write.proofs.RowTables.{read_row, read_rows, read_tables}
use Rattle.md_write.proofs.Present.{Matches, none, held, skipped}
use Rattle.md_write.proofs.Owned.{own_fit, own_behind}
use Rattle.md_write.proofs.Held.{CellsHeld, RowsHeld, TablesHeld}
use Rattle.md_write.proofs.Celled.{AreRead, cell_read}

-- ---- cells

module _ (bytes : StreamBytes) (layout : Layout) (heaps : Heaps) (are : AreRead bytes heaps) where
  cells_read : (columns : List Column) (front cells : List Cell) → are_cells (rows_of layout) columns front ≡ true
      → are_cells (rows_of layout) columns cells ≡ true → are_behind columns front cells ≡ true
      → list_all is_short cells ≡ true → CellsHeld heaps columns cells
      → numbered_cells bytes layout columns (cells_numbers heaps columns front) (cells_numbers heaps columns cells)
      ≡ Some cells
  cells_read [] front [] f c b short had = refl
  cells_read [] front (cell ∷ cells) f c b short had = absurd (false≢true c)
  cells_read (column ∷ columns) [] cells f c b short had = absurd (false≢true f)
  cells_read (column ∷ columns) (first ∷ front) [] f c b short had = absurd (false≢true c)
  cells_read (column ∷ columns) (first ∷ front) (cell ∷ cells) f c b short had =
      let fs = and_parts (is_cell (rows_of layout) column first) (are_cells (rows_of layout) columns front) f in
      let cs = and_parts (is_cell (rows_of layout) column cell) (are_cells (rows_of layout) columns cells) c in
      let bs = and_parts (is_behind column first cell) (are_behind columns front cells) b in
      let ss = and_parts (is_short cell) (list_all is_short cells) short in
      let rest : Option (List Cell) =
      numbered_cells bytes layout columns (cells_numbers heaps columns front) (cells_numbers heaps columns cells) in
      ap (λ c. with_cell c rest) (cell_read bytes layout heaps are column first cell fs.0 cs.0 bs.0 ss.0 had.0)
      ∙ ap (with_cell (Some cell)) (cells_read columns front cells fs.1 cs.1 bs.1 ss.1 had.1)

  one_read : (schema : TableSchema) (at : ℕ) (front row : TableRow) → schema.is_held ≡ true
      → is_row (rows_of layout) schema front ≡ true → is_row (rows_of layout) schema row ≡ true
      → are_behind (columns_of schema) front.cells row.cells ≡ true → has_short_cells schema.number row ≡ true
      → CellsHeld heaps schema.columns (own_cells schema.number row)
      → numbered_row bytes layout schema (cells_numbers heaps schema.columns (own_cells schema.number front))
      (row_numbers heaps schema at row)
      ≡ Some (read_row schema at row)
  one_read schema at front row is f r b short had =
      let numbers : Option (List Cell) =
      numbered_cells bytes layout schema.columns
      (cells_numbers heaps schema.columns (own_cells schema.number front))
      (cells_numbers heaps schema.columns (own_cells schema.number row)) in
      let address : ℕ = if schema.has_address then address_of at (led_to schema.number row) else 0 in
      ap (λ h. cond h (option_map (row_of address) numbers) (Some (row_of 0 []))) is
      ∙ ap (option_map (row_of address))
      (cells_read schema.columns (own_cells schema.number front) (own_cells schema.number row)
      (own_fit (rows_of layout) schema front f) (own_fit (rows_of layout) schema row r)
      (own_behind (rows_of layout) schema front row f r b) short had)

  -- rows behind another
  rows_on : (schema : TableSchema) (list : List TableRow) (at number : ℕ) (front : TableRow) → schema.is_held ≡ true
      → is_row (rows_of layout) schema front ≡ true → list_all (is_row (rows_of layout) schema) list ≡ true
      → rise (columns_of schema) front.cells (map (λ (row : TableRow). row.cells) list) ≡ true
      → list_all (has_short_cells schema.number) list ≡ true → RowsHeld heaps schema list
      → rows_behind bytes layout schema (cells_numbers heaps schema.columns (own_cells schema.number front)) number
      (rows_numbers heaps schema at list)
      ≡ Ok (read_rows schema at list)
  rows_on schema [] at number front is f l up short had = refl
  rows_on schema (row ∷ list) at number front is f l up short had =
      let ls = and_parts (is_row (rows_of layout) schema row) (list_all (is_row (rows_of layout) schema) list) l in
      let us = and_parts (are_behind (columns_of schema) front.cells row.cells)
      (rise (columns_of schema) row.cells (map (λ (row : TableRow). row.cells) list)) up in
      let ss = and_parts (has_short_cells schema.number row) (list_all (has_short_cells schema.number) list) short in
      let next : ℕ = at + length (part_of schema.number row) in
      let own : List ℕ = cells_numbers heaps schema.columns (own_cells schema.number row) in
      let rest : Result (List Row) RowFault =
      rows_behind bytes layout schema own (suc number) (rows_numbers heaps schema next list) in
      let behind : rest ≡ Ok (read_rows schema next list) =
      rows_on schema list next (suc number) row is ls.0 ls.1 us.1 ss.1 had.1 in
      ap (λ r. with_row schema number r rest) (one_read schema at front row is f ls.0 us.0 ss.0 had.0)
      ∙ (ap (with_row schema number (Some (read_row schema at row))) behind
      ∙ ap (λ h. in_front (kept h (read_row schema at row)) (Ok (read_rows schema next list))) is)

  -- the rows of a table
  rows_first : (schema : TableSchema) (list : List TableRow) (at : ℕ) → schema.is_held ≡ true
      → list_all (is_row (rows_of layout) schema) list ≡ true
      → rise (columns_of schema) (first_row (map (λ (row : TableRow). row.cells) list))
      (map (λ (row : TableRow). row.cells) list)
      ≡ true
      → list_all (has_short_cells schema.number) list ≡ true → RowsHeld heaps schema list
      → numbered_rows bytes layout schema (rows_numbers heaps schema at list) ≡ Ok (read_rows schema at list)
  rows_first schema [] at is l up short had = refl
  rows_first schema (row ∷ list) at is l up short had =
      rows_on schema (row ∷ list) at 0 row is
      (and_parts (is_row (rows_of layout) schema row) (list_all (is_row (rows_of layout) schema) list) l).0 l up short
      had

-- ---- tables

-- what is known of the rows of a table
record IsWhole (rows : ℕ → ℕ) (schema : TableSchema) (list : List TableRow) : Type 0 where
  pub fits : list_all (is_row rows schema) list ≡ true
  pub rising : rise (columns_of schema) (first_row (map (λ (row : TableRow). row.cells) list))
      (map (λ (row : TableRow). row.cells) list)
      ≡ true
  pub short : list_all (has_short_cells schema.number) list ≡ true

is_whole : (rows : ℕ → ℕ) (schema : TableSchema) (table : Table) → is_table rows schema table ≡ true
    → has_short_rows table ≡ true → IsWhole rows schema table.rows
is_whole rows schema table is short =
    let cells : List (List Cell) = map (λ (row : TableRow). row.cells) table.rows in
    let parts = and_parts (table.number == schema.number)
    (list_all (is_row rows schema) table.rows && rise (columns_of schema) (first_row cells) cells) is in
    let more = and_parts (list_all (is_row rows schema) table.rows)
    (rise (columns_of schema) (first_row cells) cells) parts.1 in
    record {
      fits = more.0;
      rising = more.1;
      short = subst (λ n. list_all (has_short_cells n) table.rows ≡ true)
          (eqb-true table.number schema.number parts.0) short;
    }

module _ (bytes : StreamBytes) (tables : List Table) (are : AreRead bytes (heaps_of tables))
    (counts : (number : ℕ) → rows_of (layout_of tables) number ≡ rows_in tables number) where
  held_read : (schema : TableSchema) (list : List TableRow) (at : ℕ) → schema.is_held ≡ true
      → IsWhole (rows_in tables) schema list → RowsHeld (heaps_of tables) schema list
      → numbered_rows bytes (layout_of tables) schema (rows_numbers (heaps_of tables) schema at list)
      ≡ Ok (read_rows schema at list)
  held_read schema list at is whole had =
      let same : rows_in tables ≡ rows_of (layout_of tables) = λ j n. sym (counts n) j in
      let here : IsWhole (rows_of (layout_of tables)) schema list =
      subst (λ r. IsWhole r schema list) same whole in
      rows_first bytes (layout_of tables) (heaps_of tables) are schema list at is here.fits here.rising here.short had

  -- The numbers are read as all rows, and nothing is refused.
  pub numbers_read : (list : List TableSchema) (more : List Table) → Matches (rows_in tables) tables list more
      → list_all has_short_rows more ≡ true → TablesHeld (heaps_of tables) tables list
      → numbered_tables bytes (layout_of tables) tables list ≡ Ok (read_tables tables list)
  numbers_read _ _ none short there = refl
  numbers_read _ _ (held schema table list more is fits found behind) short there =
      let ss = and_parts (has_short_rows table) (list_all has_short_rows more) short in
      let whole : IsWhole (rows_in tables) schema (table_rows tables schema.number) =
      subst (IsWhole (rows_in tables) schema) (sym found) (is_whole (rows_in tables) schema table fits ss.0) in
      let at : ℕ = start_of code_at (data_at tables) schema.number in
      let rest : Result (List RowTable) RowFault = numbered_tables bytes (layout_of tables) tables list in
      ap (λ r. with_table schema r rest)
      (held_read schema (table_rows tables schema.number) at is whole there.0)
      ∙ ap (with_table schema (Ok (read_rows schema at (table_rows tables schema.number))))
      (numbers_read list more behind ss.1 there.1)
  numbers_read _ _ (skipped schema list more is found behind) short there =
      let at : ℕ = start_of code_at (data_at tables) schema.number in
      let rest : Result (List RowTable) RowFault = numbered_tables bytes (layout_of tables) tables list in
      let Reads : List TableRow → Type 0 = λ rows.
      numbered_rows bytes (layout_of tables) schema (rows_numbers (heaps_of tables) schema at rows)
      ≡ Ok (read_rows schema at rows) in
      let none_read : Reads (table_rows tables schema.number) = subst Reads (sym found) refl in
      ap (λ r. with_table schema r rest) none_read
      ∙ ap (with_table schema (Ok (read_rows schema at (table_rows tables schema.number))))
      (numbers_read list more behind short there.1)

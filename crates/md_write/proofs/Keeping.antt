-- What a cell keeps, the heaps of a module keep.
use Rattle.std.proofs.Common.{List, [], ◌∷◌}
use Rattle.std.specs.Prelude.{fold}
use Rattle.md_rows.specs.declared.cell.Cell.{Cell}
use Rattle.md_rows.specs.declared.schema.Column.{Column}
use Rattle.md_rows.specs.Tables.{TableSchema, tables as schemas}
use Rattle.md_tables.specs.declared.module.Table.{Table}
use Rattle.md_tables.specs.declared.module.TableRow.{TableRow}
use Rattle.md_write.specs.declared.heaps.Heaps.{Heaps}
use Rattle.md_write.specs.Heaps.{first_heaps, with_cell, with_cells, own_cells, with_row, with_rows, table_rows}
use Rattle.md_write.specs.Heaps.{with_table, heaps_of}

module _ (P : Heaps → Type 0)
    (step : (heaps : Heaps) (column : Column) (cell : Cell) → P heaps → P (with_cell heaps column cell)) where
  pub cells_keep : (columns : List Column) (cells : List Cell) (heaps : Heaps) → P heaps
      → P (with_cells heaps columns cells)
  cells_keep [] cells heaps h = h
  cells_keep (column ∷ columns) [] heaps h = h
  cells_keep (column ∷ columns) (cell ∷ cells) heaps h =
      cells_keep columns cells (with_cell heaps column cell) (step heaps column cell h)

  pub rows_keep : (schema : TableSchema) (rows : List TableRow) (heaps : Heaps) → P heaps
      → P (with_rows schema heaps rows)
  rows_keep schema [] heaps h = h
  rows_keep schema (row ∷ rows) heaps h =
      rows_keep schema rows (with_row schema heaps row)
      (cells_keep schema.columns (own_cells schema.number row) heaps h)

  pub tables_keep : (tables : List Table) (list : List TableSchema) (heaps : Heaps) → P heaps
      → P (fold (with_table tables) heaps list)
  tables_keep tables [] heaps h = h
  tables_keep tables (schema ∷ list) heaps h =
      tables_keep tables list (with_table tables heaps schema)
      (rows_keep schema (table_rows tables schema.number) heaps h)

  pub heaps_keep : (tables : List Table) → P first_heaps → P (heaps_of tables)
  unfolding heaps_of
  heaps_keep tables h = tables_keep tables schemas first_heaps h

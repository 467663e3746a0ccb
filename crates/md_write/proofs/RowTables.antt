-- The tables of rows that the stream of a module is read as: cells as they were written, and addresses.
use Rattle.std.proofs.Common.{ℕ, ◌+◌, if◌then◌else◌, List, [], ◌∷◌, ◌++◌, length}
use Rattle.md_rows.specs.declared.row.Row.{Row}
use Rattle.md_rows.specs.declared.table.Table.{Table as RowTable}
use Rattle.md_rows.specs.Tables.{TableSchema}
use Rattle.md_rows.specs.Reading.{row_of, kept, table_of}
use Rattle.md_tables.specs.declared.module.Table.{Table}
use Rattle.md_tables.specs.declared.module.TableRow.{TableRow}
use Rattle.md_write.specs.Heaps.{own_cells, table_rows}
use Rattle.md_write.specs.Contents.{led_to, part_of, address_of}
use Rattle.md_write.specs.Rows.{start_of}
use Rattle.md_write.specs.Stream.{code_at, data_at}

-- a row; what it leads to stands at an address
abbrev pub read_row : TableSchema → ℕ → TableRow → Row
read_row schema at row =
    row_of (if schema.has_address then address_of at (led_to schema.number row) else 0)
    (own_cells schema.number row)

-- rows; what they lead to stands from an address on
abbrev pub read_rows : TableSchema → ℕ → List TableRow → List Row
read_rows schema at [] = []
read_rows schema at (row ∷ rest) =
    read_row schema at row ∷ read_rows schema (at + length (part_of schema.number row)) rest

-- the table of a schema
abbrev pub read_table : List Table → TableSchema → RowTable
read_table tables schema =
    table_of schema.number
    (read_rows schema (start_of code_at (data_at tables) schema.number) (table_rows tables schema.number))

-- the tables of schemas that are held
abbrev pub read_tables : List Table → List TableSchema → List RowTable
read_tables tables [] = []
read_tables tables (schema ∷ list) = kept schema.is_held (read_table tables schema) ++ read_tables tables list

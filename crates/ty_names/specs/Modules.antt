-- The modules of a world, the rows of their tables, and what stands in their columns: ECMA-335 II.22.
use Rattle.std.specs.Prelude.{ℕ, zero, suc, ◌-◌, ◌==◌, List, [], length, find, slice_get, Option, Some, None}
use Rattle.std.specs.Option.{option_and_then}
use Rattle.md_rows.specs.declared.cell.Cell.{Cell}
use Rattle.md_rows.specs.declared.cell.Cell.TheVariants.{Number, Name, Blob, Index, Coded}
use Rattle.md_tables.specs.Modules.{ModuleParts}
use Rattle.md_tables.specs.declared.module.Table.{Table}
use Rattle.md_tables.specs.declared.module.TableRow.{TableRow}
use Rattle.ty_names.specs.declared.cells.RowOf.{RowOf}

-- a module: its entry token, its heap of user strings and its tables
abbrev pub ModuleOf : Type 0
ModuleOf = ModuleParts

-- The modules of a program: the first has the entry, and the last is the core.
abbrev pub World : Type 0
World = List ModuleOf

-- the number of the core
abbrev pub core_of : World → ℕ
core_of world = length world - 1

abbrev pub tables_of : Option ModuleOf → List Table
tables_of None = []
tables_of (Some found) = found.tables

-- the tables of the module of a number, counted from 0
abbrev pub tables_at : World → ℕ → List Table
tables_at world number = tables_of (slice_get world number)

abbrev pub rows_of : Option Table → List TableRow
rows_of None = []
rows_of (Some table) = table.rows

-- the rows of the table of a number; a table that isn't there has none
abbrev pub rows : List Table → ℕ → List TableRow
rows tables number = rows_of (find (λ table. table.number == number) tables)

abbrev pub row_count : List Table → ℕ → ℕ
row_count tables number = length (rows tables number)

-- the row of a number, counted from 1
abbrev pub row_at : List Table → ℕ → ℕ → Option TableRow
row_at tables number zero = None
row_at tables number (suc before) = slice_get (rows tables number) before

-- ---- what stands in a column, and 0 or nothing where there is no such row or column

abbrev pub number_of : Option Cell → ℕ
number_of (Some (Number number)) = number
number_of _ = 0

abbrev pub name_of : Option Cell → List ℕ
name_of (Some (Name name)) = name
name_of _ = []

abbrev pub blob_of : Option Cell → List ℕ
blob_of (Some (Blob blob)) = blob
blob_of _ = []

abbrev pub index_of : Option Cell → ℕ
index_of (Some (Index row)) = row
index_of _ = 0

abbrev pub coded_of : Option Cell → RowOf
coded_of (Some (Coded table row)) = record { table = table; row = row }
coded_of _ = record { table = 0; row = 0 }

abbrev pub cell_of : Option TableRow → ℕ → Option Cell
cell_of row column = option_and_then (λ found. slice_get found.cells column) row

-- the cell of a column of the row of a number
abbrev pub cell_at : List Table → ℕ → ℕ → ℕ → Option Cell
cell_at tables table row column = cell_of (row_at tables table row) column

-- What the types of a module's values say of them.
use Rattle.std.specs.Prelude.{ℕ, ◌^◌, ◌<◌, List, All, Option, Some, None}
use Rattle.hex.specs.Hex.{IsBytes}
use Rattle.md_rows.specs.declared.cell.Cell.{Cell}
use Rattle.md_rows.specs.declared.cell.Cell.TheVariants.{Number, Name, Blob, Index, Coded}
use Rattle.md_tables.specs.declared.module.TableRow.{TableRow}
use Rattle.md_tables.specs.declared.module.Table.{Table}
use Rattle.md_tables.specs.Modules.{ModuleParts}

-- a cell of numbers below 2 ^ 32, of bytes, or of a table's number, which is a byte
abbrev pub CellInRange : Cell → Type 0
CellInRange (Number number) = number < 2 ^ 32
CellInRange (Name text) = IsBytes text
CellInRange (Blob bytes) = IsBytes bytes
CellInRange (Index row) = row < 2 ^ 32
CellInRange (Coded table row) = (table < 256) × (row < 2 ^ 32)

abbrev pub BodyInRange : Option (List ℕ) → Type 0
BodyInRange None = Unit {0}
BodyInRange (Some body) = IsBytes body

abbrev pub RowInRange : TableRow → Type 0
RowInRange row = All CellInRange row.cells × BodyInRange row.body

abbrev pub TableInRange : Table → Type 0
TableInRange table = (table.number < 256) × All RowInRange table.rows

pub record ModuleInRange (m : ModuleParts) : Type 0 where
  pub entry : m.entry < 2 ^ 32
  pub user : IsBytes m.user
  pub tables : All TableInRange m.tables

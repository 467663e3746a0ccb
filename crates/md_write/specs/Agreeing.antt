-- When a module that was read agrees with one that was written (ECMA-335 II.22), and what holds of an image from which
-- it was read.
use Rattle.std.specs.Prelude.{◌≡◌, ℕ, ◌==◌, if◌then◌else◌, List, [], ◌∷◌, ◌++◌, None, Ok}
use Rattle.pe_image.specs.Conditions.{first_fault}
use Rattle.pe_image.specs.Pe.{conditions, parts_of}
use Rattle.md_rows.specs.declared.cell.Cell.{Cell}
use Rattle.md_rows.specs.declared.cell.Cell.TheVariants.{Number, Name, Blob, Index, Coded}
use Rattle.md_tables.specs.declared.module.Table.{Table}
use Rattle.md_tables.specs.declared.module.TableRow.{TableRow}
use Rattle.md_tables.specs.Modules.{ModuleParts}
use Rattle.md_tables.specs.Finished.{module_of}

-- a cell with more bytes behind its own
abbrev pub cell_and : Cell → List ℕ → Cell
cell_and (Number number) more = Number number
cell_and (Name text) more = Name text
cell_and (Blob bytes) more = Blob (bytes ++ more)
cell_and (Index row) more = Index row
cell_and (Coded table row) more = Coded table row

-- cells of which the first has more bytes
abbrev pub cells_and : List Cell → List ℕ → List Cell
cells_and [] more = []
cells_and (cell ∷ cells) more = cell_and cell more ∷ cells

-- A row of the bytes of a field (II.22.18) with more bytes behind its own; any other row is as it was.
abbrev pub row_and : ℕ → TableRow → List ℕ → TableRow
row_and number row more = if number == 0x1D then record row { cells = cells_and row.cells more } else row

-- The row that was read is the one that was written, but that the bytes of a field may go on: nothing in an image tells
-- where they end.
abbrev pub RowAgrees : ℕ → TableRow → TableRow → Type 0
RowAgrees number written read = (more : List ℕ) × (read ≡ row_and number written more)

abbrev pub RowsAgree : ℕ → List TableRow → List TableRow → Type 0
RowsAgree number [] [] = Unit {0}
RowsAgree number (row ∷ written) (other ∷ read) = RowAgrees number row other × RowsAgree number written read
RowsAgree number written read = ⊥

pub record TableAgrees (written read : Table) : Type 0 where
  pub number : read.number ≡ written.number
  pub rows : RowsAgree written.number written.rows read.rows

abbrev pub TablesAgree : List Table → List Table → Type 0
TablesAgree [] [] = Unit {0}
TablesAgree (table ∷ written) (other ∷ read) = TableAgrees table other × TablesAgree written read
TablesAgree written read = ⊥

-- two modules are equal, but that the bytes of fields may go on in the one that was read
pub record Agrees (written read : ModuleParts) : Type 0 where
  pub entry : read.entry ≡ written.entry
  pub user : read.user ≡ written.user
  pub tables : TablesAgree written.tables read.tables

-- The image opens, its tables are those of a module, and this module agrees with the one that was written.
pub record ReadsBack (image : List ℕ) (written : ModuleParts) : Type 0 where
  pub opens : first_fault (conditions image) ≡ None
  pub read : ModuleParts
  pub is_read : module_of (parts_of image) ≡ Ok read
  pub agrees : Agrees written read

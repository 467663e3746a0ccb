-- The cells of a row that stand in columns of its own.
use Rattle.std.proofs.Common.{◌≡◌, ℕ, ◌==◌, Bool, true, false, cond, List, [], ◌∷◌, drop}
use Rattle.std.proofs.lemmas.Bool.{and_parts, false≢true}
use Rattle.md_rows.specs.declared.cell.Cell.{Cell}
use Rattle.md_rows.specs.declared.schema.Column.{Column}
use Rattle.md_rows.specs.declared.schema.Column.TheVariants.{BlobIndex}
use Rattle.md_rows.specs.Tables.{TableSchema}
use Rattle.md_rows.specs.Fits.{is_cell, are_cells, is_behind, are_behind}
use Rattle.md_tables.specs.declared.module.TableRow.{TableRow}
use Rattle.md_tables.specs.Modules.{columns_of, is_body, is_row}
use Rattle.md_write.specs.Heaps.{own_cells}

own_by : (rows : ℕ → ℕ) (b : Bool) (columns : List Column) (cells : List Cell)
    → are_cells rows (cond b (BlobIndex ∷ columns) columns) cells ≡ true
    → are_cells rows columns (cond b (drop 1 cells) cells) ≡ true
own_by rows true columns [] h = absurd (false≢true h)
own_by rows true columns (cell ∷ cells) h =
    (and_parts (is_cell rows BlobIndex cell) (are_cells rows columns cells) h).1
own_by rows false columns cells h = h

-- they are those that the columns may hold
pub own_fit : (rows : ℕ → ℕ) (schema : TableSchema) (row : TableRow) → is_row rows schema row ≡ true
    → are_cells rows schema.columns (own_cells schema.number row) ≡ true
own_fit rows schema row h =
    own_by rows (schema.number == 0x1D) schema.columns row.cells
    (and_parts (are_cells rows (columns_of schema) row.cells) (is_body schema.number row.body) h).0

behind_by : (rows : ℕ → ℕ) (b : Bool) (columns : List Column) (front cells : List Cell)
    → are_cells rows (cond b (BlobIndex ∷ columns) columns) front ≡ true
    → are_cells rows (cond b (BlobIndex ∷ columns) columns) cells ≡ true
    → are_behind (cond b (BlobIndex ∷ columns) columns) front cells ≡ true
    → are_behind columns (cond b (drop 1 front) front) (cond b (drop 1 cells) cells) ≡ true
behind_by rows false columns front cells f c h = h
behind_by rows true columns [] cells f c h = absurd (false≢true f)
behind_by rows true columns (first ∷ front) [] f c h = absurd (false≢true c)
behind_by rows true columns (first ∷ front) (cell ∷ cells) f c h =
    (and_parts (is_behind BlobIndex first cell) (are_behind columns front cells) h).1

-- and their runs begin no earlier than those of the row in front
pub own_behind : (rows : ℕ → ℕ) (schema : TableSchema) (front row : TableRow) → is_row rows schema front ≡ true
    → is_row rows schema row ≡ true → are_behind (columns_of schema) front.cells row.cells ≡ true
    → are_behind schema.columns (own_cells schema.number front) (own_cells schema.number row) ≡ true
own_behind rows schema front row f r h =
    behind_by rows (schema.number == 0x1D) schema.columns front.cells row.cells
    (and_parts (are_cells rows (columns_of schema) front.cells) (is_body schema.number front.body) f).0
    (and_parts (are_cells rows (columns_of schema) row.cells) (is_body schema.number row.body) r).0 h

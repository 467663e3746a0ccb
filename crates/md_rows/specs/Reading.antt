-- The rows of all tables, or the first that is bad: ECMA-335 II.22 and II.24.2.6.
use Rattle.std.specs.Prelude.{◌≡◌, ℕ, zero, suc, ◌+◌, ◌*◌, ◌<◌, ◌==◌, ◌⊎◌, Bool, true, if◌then◌else◌, List, [], ◌∷◌}
use Rattle.std.specs.Prelude.{◌++◌, length, take, slice_get, Option, Some, None, Result, Ok, Err}
use Rattle.std.specs.Option.{option_map}
use Rattle.md_rows.specs.declared.cell.Cell.{Cell}
use Rattle.md_rows.specs.declared.fault.RowFault.{RowFault}
use Rattle.md_rows.specs.declared.fault.RowFault.TheVariants.{BadTable, RefusedTable, Memory}
use Rattle.md_rows.specs.declared.layout.Layout.{Layout}
use Rattle.md_rows.specs.declared.row.Row.{Row}
use Rattle.md_rows.specs.declared.table.Table.{Table}
use Rattle.md_rows.specs.Tables.{TableSchema, tables}
use Rattle.md_rows.specs.Widths.{valid, number_at, fits, layout_of, rows_of, address_size, row_size}
use Rattle.md_rows.specs.Widths.{first_refused}
use Rattle.md_rows.specs.Cells.{StreamBytes, cells_at}

-- the address that a row at a place begins with, or 0 where its table has none
abbrev pub address_at : StreamBytes → TableSchema → ℕ → ℕ
address_at bytes schema at = if schema.has_address then number_at bytes.tables 4 at else 0

abbrev pub row_of : ℕ → List Cell → Row
row_of address cells = record { address = address; cells = cells }

-- the row at a place, behind another that stands `back` bytes before; one of a table that is only skipped has no cells
abbrev pub row_from : StreamBytes → Layout → TableSchema → ℕ → ℕ → Option Row
row_from bytes layout schema at back =
    if fits bytes.tables at (row_size layout schema) then
    (if schema.is_held then
    option_map (row_of (address_at bytes schema at))
    (cells_at bytes layout schema.columns (at + address_size schema) back)
    else Some (row_of 0 []))
    else None

-- how far in front of a row another stands: rows are counted from 0 here
abbrev pub back_of : ℕ → ℕ → ℕ
back_of size row = if row == 0 then 0 else size

-- the row of a number, of a table whose rows begin at a place
abbrev pub row_at : StreamBytes → Layout → TableSchema → ℕ → ℕ → Option Row
row_at bytes layout schema start row =
    row_from bytes layout schema (start + row * row_size layout schema)
    (back_of (row_size layout schema) row)

-- items in front of others, if there are others
abbrev pub in_front : {A : Type 0} → List A → Result (List A) RowFault → Result (List A) RowFault
in_front done (Ok items) = Ok (done ++ items)
in_front done (Err fault) = Err fault

-- what is kept of a table or a row
abbrev pub kept : {A : Type 0} → Bool → A → List A
kept held item = if held then item ∷ [] else []

-- a row in front of those behind it; the first row is told as 1
abbrev pub with_row : TableSchema → ℕ → Option Row → Result (List Row) RowFault
    → Result (List Row) RowFault
with_row schema row None rest = Err (BadTable schema.number (row + 1))
with_row schema row (Some found) rest = in_front (kept schema.is_held found) rest

-- so many rows of a table from a number on
abbrev pub rows_from : StreamBytes → Layout → TableSchema → ℕ → ℕ → ℕ → Result (List Row) RowFault
rows_from bytes layout schema start zero row = Ok []
rows_from bytes layout schema start (suc left) row =
    with_row schema row (row_at bytes layout schema start row)
    (rows_from bytes layout schema start left (suc row))

-- the rows of a table that begins at a place
abbrev pub rows_in : StreamBytes → Layout → TableSchema → ℕ → Result (List Row) RowFault
rows_in bytes layout schema start = rows_from bytes layout schema start (rows_of layout schema.number) 0

-- the place behind the rows of a table
abbrev pub rows_end : Layout → TableSchema → ℕ → ℕ
rows_end layout schema start = start + rows_of layout schema.number * row_size layout schema

abbrev pub table_of : ℕ → List Row → Table
table_of number rows = record { number = number; rows = rows }

-- a table in front of those behind it
abbrev pub with_table : TableSchema → Result (List Row) RowFault → Result (List Table) RowFault
    → Result (List Table) RowFault
with_table schema (Err fault) rest = Err fault
with_table schema (Ok rows) rest = in_front (kept schema.is_held (table_of schema.number rows)) rest

-- tables, one behind another from a place on
abbrev pub tables_from : StreamBytes → Layout → ℕ → List TableSchema → Result (List Table) RowFault
tables_from bytes layout start [] = Ok []
tables_from bytes layout start (schema ∷ rest) =
    with_table schema (rows_in bytes layout schema start)
    (tables_from bytes layout (rows_end layout schema start) rest)

-- a refused table comes before any row
abbrev pub unless_refused : Option ℕ → Result (List Table) RowFault → Result (List Table) RowFault
unless_refused None rest = rest
unless_refused (Some table) rest = Err (RefusedTable table)

-- a cut header comes before all else, and is told as row 0 of table 0
abbrev pub with_layout : StreamBytes → Option Layout → Result (List Table) RowFault
with_layout bytes None = Err (BadTable 0 0)
with_layout bytes (Some layout) =
    unless_refused (first_refused (valid bytes.tables)) (tables_from bytes layout layout.place tables)

-- The tables of streams of metadata: each that is held, with its rows, or why they are refused.
unfoldable pub reading : StreamBytes → Result (List Table) RowFault
reading bytes = with_layout bytes (layout_of bytes.tables)

-- a refusal is the one that is meant, or want of memory
abbrev pub Refuses : {A : Type 0} → Result A RowFault → RowFault → Type 0
Refuses meant fault = (fault ≡ Memory) ⊎ (meant ≡ Err fault)

-- ---- what a reading says of each row

-- how many bytes the rows of a table take
abbrev pub table_size : Layout → TableSchema → ℕ
table_size layout schema = rows_of layout schema.number * row_size layout schema

abbrev pub tables_size : Layout → List TableSchema → ℕ
tables_size layout [] = 0
tables_size layout (schema ∷ rest) = table_size layout schema + tables_size layout rest

-- the place of the table of an index: behind all those in front of it
abbrev pub place_in : Layout → ℕ → List TableSchema → ℕ → ℕ
place_in layout start schemas index = start + tables_size layout (take index schemas)

-- A table of this number, each row of which has the cells of the columns that stand at that row's place.
pub record HasRows (bytes : StreamBytes) (layout : Layout) (schema : TableSchema) (start : ℕ) (table : Table)
    : Type 0 where
  pub number : table.number ≡ schema.number
  pub count : length table.rows ≡ rows_of layout schema.number
  pub rows : (row : ℕ) → row < rows_of layout schema.number
      → slice_get table.rows row ≡ row_at bytes layout schema start row

-- one of the tables has the rows that stand from a place on
abbrev pub HasTable : StreamBytes → Layout → TableSchema → ℕ → List Table → Type 0
HasTable bytes layout schema start held =
    (index : ℕ) × (table : Table) × (slice_get held index ≡ Some table) × HasRows bytes layout schema start table

-- Where tables were read, each one that is held has its rows at the place that follows from the numbers of rows and the
-- widths of columns alone.
abbrev pub RowsStandAtTheirPlaces : Type 0
RowsStandAtTheirPlaces =
    (bytes : StreamBytes) (layout : Layout) (held : List Table) (index : ℕ) (schema : TableSchema)
    → layout_of bytes.tables ≡ Some layout → reading bytes ≡ Ok held → slice_get tables index ≡ Some schema
    → schema.is_held ≡ true → HasTable bytes layout schema (place_in layout layout.place tables index) held

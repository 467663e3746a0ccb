-- Rows of numbers as bytes.
use Rattle.std.proofs.Common.{◌≡◌, ◌∙◌, ℕ, ◌+◌, ◌*◌, ◌^◌, ◌<◌, ◌==◌, Bool, true, false, cond, if◌then◌else◌}
use Rattle.std.proofs.Common.{List, [], ◌∷◌, ◌++◌, length, ap, refl, arith, lit<, length-append}
use Rattle.std.specs.List.{list_all}
use Rattle.std.proofs.lemmas.Bool.{and_parts}
use Rattle.byteorder.specs.Endian.{little_bytes}
use Rattle.byteorder.specs.Numbers.{length-bytes_low_first}
use Rattle.md_rows.specs.declared.cell.Cell.{Cell}
use Rattle.md_rows.specs.declared.layout.Layout.{Layout}
use Rattle.md_rows.specs.declared.schema.Column.{Column}
use Rattle.md_rows.specs.Tables.{TableSchema}
use Rattle.md_rows.specs.Widths.{column_size, columns_size, address_size, row_size}
use Rattle.md_tables.specs.declared.module.Table.{Table}
use Rattle.md_tables.specs.declared.module.TableRow.{TableRow}
use Rattle.md_tables.specs.Modules.{is_row}
use Rattle.md_write.specs.declared.heaps.Heaps.{Heaps}
use Rattle.md_write.specs.Heaps.{heaps_of, own_cells, table_rows}
use Rattle.md_write.specs.Contents.{led_to, part_of, parts_of, address_of}
use Rattle.md_write.specs.Rows.{cell_number, cells_bytes, row_bytes, rows_bytes, start_of, tables_bytes}
use Rattle.md_write.specs.Stream.{code_at, data_at}
use Rattle.md_write.proofs.Numbers.{RowNumbers, cells_numbers, row_numbers, rows_numbers, table_numbers}
use Rattle.md_write.proofs.Fitted.{IsRoomy, NumbersFit, row_fit}

abbrev pub columns_bytes : Layout → List Column → List ℕ → List ℕ
columns_bytes layout [] numbers = []
columns_bytes layout (column ∷ columns) [] = []
columns_bytes layout (column ∷ columns) (number ∷ numbers) =
    little_bytes (column_size layout column) number ++ columns_bytes layout columns numbers

abbrev pub start_bytes : TableSchema → ℕ → List ℕ
start_bytes schema address = if schema.has_address then little_bytes 4 address else []

abbrev pub numbered_bytes : Layout → TableSchema → RowNumbers → List ℕ
numbered_bytes layout schema row =
    start_bytes schema row.address ++ columns_bytes layout schema.columns row.numbers

abbrev pub all_bytes : Layout → TableSchema → List RowNumbers → List ℕ
all_bytes layout schema [] = []
all_bytes layout schema (row ∷ rest) = numbered_bytes layout schema row ++ all_bytes layout schema rest

-- the rows of the tables of schemas
abbrev pub numbered_stream : Layout → List Table → List TableSchema → List ℕ
numbered_stream layout tables [] = []
numbered_stream layout tables (schema ∷ list) =
    all_bytes layout schema (table_numbers tables schema) ++ numbered_stream layout tables list

-- ---- what is written are the bytes of these numbers

cells_are : (heaps : Heaps) (layout : Layout) (columns : List Column) (cells : List Cell)
    → cells_bytes heaps layout columns cells ≡ columns_bytes layout columns (cells_numbers heaps columns cells)
cells_are heaps layout [] cells = refl
cells_are heaps layout (column ∷ columns) [] = refl
cells_are heaps layout (column ∷ columns) (cell ∷ cells) =
    ap (λ b. little_bytes (column_size layout column) (cell_number heaps column cell) ++ b)
    (cells_are heaps layout columns cells)

start_is : (b : Bool) (address : ℕ)
    → cond b (little_bytes 4 address) [] ≡ cond b (little_bytes 4 (cond b address 0)) []
start_is true address = refl
start_is false address = refl

row_is : (heaps : Heaps) (layout : Layout) (schema : TableSchema) (at : ℕ) (row : TableRow)
    → row_bytes heaps layout schema at row ≡ numbered_bytes layout schema (row_numbers heaps schema at row)
row_is heaps layout schema at row =
    let cells : List ℕ = cells_bytes heaps layout schema.columns (own_cells schema.number row) in
    let address : ℕ = address_of at (led_to schema.number row) in
    ap (λ b. b ++ cells) (start_is schema.has_address address)
    ∙ ap (λ b. cond schema.has_address (little_bytes 4 (cond schema.has_address address 0)) [] ++ b)
    (cells_are heaps layout schema.columns (own_cells schema.number row))

rows_are : (heaps : Heaps) (layout : Layout) (schema : TableSchema) (at : ℕ) (rows : List TableRow)
    → rows_bytes heaps layout schema at rows ≡ all_bytes layout schema (rows_numbers heaps schema at rows)
rows_are heaps layout schema at [] = refl
rows_are heaps layout schema at (row ∷ rest) =
    let next : ℕ = at + length (part_of schema.number row) in
    ap (λ b. b ++ rows_bytes heaps layout schema next rest) (row_is heaps layout schema at row)
    ∙ ap (λ b. numbered_bytes layout schema (row_numbers heaps schema at row) ++ b)
    (rows_are heaps layout schema next rest)

pub tables_are : (layout : Layout) (tables : List Table) (list : List TableSchema)
    → tables_bytes (heaps_of tables) layout code_at (data_at tables) tables list
    ≡ numbered_stream layout tables list
tables_are layout tables [] = refl
tables_are layout tables (schema ∷ list) =
    let start : ℕ = start_of code_at (data_at tables) schema.number in
    ap (λ b. b ++ tables_bytes (heaps_of tables) layout code_at (data_at tables) tables list)
    (rows_are (heaps_of tables) layout schema start (table_rows tables schema.number))
    ∙ ap (λ b. all_bytes layout schema (table_numbers tables schema) ++ b) (tables_are layout tables list)

-- ---- rows that fit

pub record RowFits (layout : Layout) (schema : TableSchema) (row : RowNumbers) : Type 0 where
  pub address : row.address < 2 ^ 32
  pub own : cond schema.has_address row.address 0 ≡ row.address
  pub numbers : NumbersFit layout schema.columns row.numbers

abbrev pub RowsFit : Layout → TableSchema → List RowNumbers → Type 0
RowsFit layout schema [] = Unit {0}
RowsFit layout schema (row ∷ rest) = RowFits layout schema row × RowsFit layout schema rest

address_low : (b none : Bool) (at : ℕ) → at < 2 ^ 32 → cond b (cond none 0 at) 0 < 2 ^ 32
address_low true true at low = lit< tt
address_low true false at low = low
address_low false none at low = lit< tt

twice : (b : Bool) (address : ℕ) → cond b (cond b address 0) 0 ≡ cond b address 0
twice true address = refl
twice false address = refl

pub written_fit : (heaps : Heaps) (layout : Layout) (counts : ℕ → ℕ) (schema : TableSchema) (at : ℕ)
    (rows : List TableRow) → IsRoomy heaps layout counts → list_all (is_row counts schema) rows ≡ true
    → at + length (parts_of schema.number rows) < 2 ^ 32 → RowsFit layout schema (rows_numbers heaps schema at rows)
written_fit heaps layout counts schema at [] room fit low = tt
written_fit heaps layout counts schema at (row ∷ rest) room fit low =
    let number : ℕ = schema.number in
    let parts = and_parts (is_row counts schema row) (list_all (is_row counts schema) rest) fit in
    let whole : length (parts_of number (row ∷ rest)) ≡ length (part_of number row) + length (parts_of number rest) =
    length-append (part_of number row) (parts_of number rest) in
    let here : at < 2 ^ 32 = omega (arith, low) in
    let first : RowFits layout schema (row_numbers heaps schema at row) =
    record {
      address = address_low schema.has_address (length (led_to number row) == 0) at here;
      own = twice schema.has_address (address_of at (led_to number row));
      numbers = row_fit heaps layout counts room schema row parts.0;
    } in (
      first,
      written_fit heaps layout counts schema (at + length (part_of number row)) rest room parts.1
          (omega (arith, low, whole)),
    )

-- ---- how long rows are

columns_long : (layout : Layout) (columns : List Column) (numbers : List ℕ) → NumbersFit layout columns numbers
    → length (columns_bytes layout columns numbers) ≡ columns_size layout columns
columns_long layout [] numbers fit = refl
columns_long layout (column ∷ columns) [] fit = absurd fit
columns_long layout (column ∷ columns) (number ∷ numbers) fit =
    let size : ℕ = column_size layout column in
    let whole : length (columns_bytes layout (column ∷ columns) (number ∷ numbers))
    ≡ length (little_bytes size number) + length (columns_bytes layout columns numbers) =
    length-append (little_bytes size number) (columns_bytes layout columns numbers) in
    omega (arith, whole, length-bytes_low_first 0 size number, columns_long layout columns numbers fit.1)

pub start_long : (schema : TableSchema) (address : ℕ) → length (start_bytes schema address) ≡ address_size schema
start_long schema address = by schema.has_address
  where
    by : (b : Bool) → length (cond b (little_bytes 4 address) []) ≡ cond b 4 0
    by true = refl
    by false = refl

pub row_long : (layout : Layout) (schema : TableSchema) (row : RowNumbers) → RowFits layout schema row
    → length (numbered_bytes layout schema row) ≡ row_size layout schema
row_long layout schema row fit =
    omega (
      arith,
      length-append (start_bytes schema row.address) (columns_bytes layout schema.columns row.numbers),
      start_long schema row.address,
      columns_long layout schema.columns row.numbers fit.numbers,
    )

pub rows_long : (layout : Layout) (schema : TableSchema) (rows : List RowNumbers) → RowsFit layout schema rows
    → length (all_bytes layout schema rows) ≡ length rows * row_size layout schema
rows_long layout schema [] fit = omega arith
rows_long layout schema (row ∷ rest) fit =
    let size : ℕ = row_size layout schema in
    let whole : length (all_bytes layout schema (row ∷ rest))
    ≡ length (numbered_bytes layout schema row) + length (all_bytes layout schema rest) =
    length-append (numbered_bytes layout schema row) (all_bytes layout schema rest) in
    let first : length (numbered_bytes layout schema row) ≡ size = row_long layout schema row fit.0 in
    let others : length (all_bytes layout schema rest) ≡ length rest * size =
    rows_long layout schema rest fit.1 in
    omega (arith, whole, first, others)

-- Cells, rows and tables, one behind another.
use Rattle.std.proofs.Common.{◌≡◌, ◌∙◌, ℕ, suc, ◌+◌, ◌-◌, ◌*◌, ◌<◌, ◌≤◌, List, [], ◌∷◌}
use Rattle.std.proofs.Common.{◌++◌, map, Option, Some, None, Result, Ok, Err, ap, refl, sym, arith}
use Rattle.std.proofs.Common.{append_assoc}
use Rattle.std.proofs.lemmas.List.{append-nil}
use Rattle.md_rows.specs.declared.cell.Cell.{Cell}
use Rattle.md_rows.specs.declared.fault.RowFault.{RowFault}
use Rattle.md_rows.specs.declared.fault.RowFault.TheVariants.{BadTable}
use Rattle.md_rows.specs.declared.layout.Layout.{Layout}
use Rattle.md_rows.specs.declared.row.Row.{Row}
use Rattle.md_rows.specs.declared.schema.Column.{Column}
use Rattle.md_rows.specs.declared.schema.Schema.{Schema}
use Rattle.md_rows.specs.declared.table.Table.{Table}
use Rattle.md_rows.specs.Tables.{TableSchema, schema_of}
use Rattle.md_rows.specs.Widths.{column_size, row_size}
use Rattle.md_rows.specs.Cells.{StreamBytes, cell_at, cells_at, before, with_cell}
use Rattle.md_rows.specs.Reading.{row_from, row_at, back_of, in_front, kept, with_row, rows_from, rows_in, rows_end}
use Rattle.md_rows.specs.Reading.{with_table, table_of, tables_from}

-- ---- cells

pub before-nil : {A : Type 0} (o : Option (List A)) → o ≡ before [] o
before-nil None = refl
before-nil (Some xs) = refl

before-before : {A : Type 0} (a b : List A) (o : Option (List A)) → before a (before b o) ≡ before (a ++ b) o
before-before a b None = refl
before-before a b (Some xs) = ap Some (sym (append_assoc a b xs))

pub before-end : {A : Type 0} (done : List A) → before done (Some []) ≡ Some done
before-end done = ap Some (append-nil done)

-- one cell more
pub cells_on : (bytes : StreamBytes) (layout : Layout) (columns rest : List Column) (column : Column) (place back : ℕ)
    (cell : Cell) (done : List Cell) (all : Option (List Cell)) → columns ≡ column ∷ rest
    → Some cell ≡ cell_at bytes layout column place back
    → all ≡ before done (cells_at bytes layout columns place back)
    → all ≡ before (done ++ cell ∷ []) (cells_at bytes layout rest (place + column_size layout column) back)
cells_on bytes layout columns rest column place back cell done all first here so_far =
    let behind : Option (List Cell) = cells_at bytes layout rest (place + column_size layout column) back in
    so_far
    ∙ ap (λ cs. before done (cells_at bytes layout cs place back)) first
    ∙ ap (λ o. before done (with_cell o behind)) (sym here)
    ∙ before-before done (cell ∷ []) behind

-- a bad cell
pub cells_bad : (bytes : StreamBytes) (layout : Layout) (columns rest : List Column) (column : Column) (place back : ℕ)
    (done : List Cell) (all : Option (List Cell)) → columns ≡ column ∷ rest
    → None ≡ cell_at bytes layout column place back
    → all ≡ before done (cells_at bytes layout columns place back) → all ≡ None
cells_bad bytes layout columns rest column place back done all first here so_far =
    let behind : Option (List Cell) = cells_at bytes layout rest (place + column_size layout column) back in
    so_far
    ∙ ap (λ cs. before done (cells_at bytes layout cs place back)) first
    ∙ ap (λ o. before done (with_cell o behind)) (sym here)

-- ---- rows

pub in_front-nil : {A : Type 0} (r : Result (List A) RowFault) → r ≡ in_front [] r
in_front-nil (Ok xs) = refl
in_front-nil (Err fault) = refl

in_front-in_front : {A : Type 0} (a b : List A) (r : Result (List A) RowFault)
    → in_front a (in_front b r) ≡ in_front (a ++ b) r
in_front-in_front a b (Ok xs) = ap Ok (sym (append_assoc a b xs))
in_front-in_front a b (Err fault) = refl

pub in_front-end : {A : Type 0} (done : List A) → in_front done (Ok []) ≡ Ok done
in_front-end done = ap Ok (append-nil done)

-- the place of the next row
pub next_place : (start row size at : ℕ) → at ≡ start + row * size → at + size ≡ start + (row + 1) * size
next_place start row size at h =
    let more : (row + 1) * size ≡ row * size + size = grind arith in omega (arith, h, more)

-- what the next row makes of those that were read
rows_next : (bytes : StreamBytes) (layout : Layout) (schema : TableSchema) (start count row at back : ℕ)
    (found : Option Row) (done : List Row) (all : Result (List Row) RowFault) → row < count
    → at ≡ start + row * row_size layout schema → back ≡ back_of (row_size layout schema) row
    → found ≡ row_from bytes layout schema at back
    → all ≡ in_front done (rows_from bytes layout schema start (count - row) row)
    → all ≡ in_front done
    (with_row schema row found (rows_from bytes layout schema start (count - (row + 1)) (row + 1)))
rows_next bytes layout schema start count row at back found done all more place near here so_far =
    let left : count - row ≡ suc (count - (row + 1)) = omega arith in
    let next : suc row ≡ row + 1 = omega arith in
    let behind : Result (List Row) RowFault =
    rows_from bytes layout schema start (count - (row + 1)) (row + 1) in
    so_far
    ∙ ap (λ n. in_front done (rows_from bytes layout schema start n row)) left
    ∙ ap (λ k. in_front done (with_row schema row (row_at bytes layout schema start row)
    (rows_from bytes layout schema start (count - (row + 1)) k))) next
    ∙ ap (λ a. in_front done (with_row schema row
    (row_from bytes layout schema a (back_of (row_size layout schema) row)) behind)) (sym place)
    ∙ ap (λ b. in_front done (with_row schema row (row_from bytes layout schema at b) behind)) (sym near)
    ∙ ap (λ o. in_front done (with_row schema row o behind)) (sym here)

-- one row more
pub rows_on : (bytes : StreamBytes) (layout : Layout) (schema : TableSchema) (start count row at back : ℕ)
    (found : Option Row) (cells : Row) (done : List Row)
    (all : Result (List Row) RowFault) → row < count
    → at ≡ start + row * row_size layout schema → back ≡ back_of (row_size layout schema) row
    → found ≡ row_from bytes layout schema at back → found ≡ Some cells
    → all ≡ in_front done (rows_from bytes layout schema start (count - row) row)
    → all ≡ in_front (done ++ kept schema.is_held cells)
    (rows_from bytes layout schema start (count - (row + 1)) (row + 1))
rows_on bytes layout schema start count row at back found cells done all more place near here some so_far =
    let behind : Result (List Row) RowFault =
    rows_from bytes layout schema start (count - (row + 1)) (row + 1) in
    rows_next bytes layout schema start count row at back found done all more place near here so_far
    ∙ ap (λ o. in_front done (with_row schema row o behind)) some
    ∙ in_front-in_front done (kept schema.is_held cells) behind

-- a bad row
pub rows_bad : (bytes : StreamBytes) (layout : Layout) (schema : TableSchema) (start count row at back : ℕ)
    (found : Option Row) (done : List Row) (all : Result (List Row) RowFault) → row < count
    → at ≡ start + row * row_size layout schema → back ≡ back_of (row_size layout schema) row
    → found ≡ row_from bytes layout schema at back → found ≡ None
    → all ≡ in_front done (rows_from bytes layout schema start (count - row) row)
    → all ≡ Err (BadTable schema.number (row + 1))
rows_bad bytes layout schema start count row at back found done all more place near here none so_far =
    let behind : Result (List Row) RowFault =
    rows_from bytes layout schema start (count - (row + 1)) (row + 1) in
    rows_next bytes layout schema start count row at back found done all more place near here so_far
    ∙ ap (λ o. in_front done (with_row schema row o behind)) none

-- all rows
pub rows_all : (bytes : StreamBytes) (layout : Layout) (schema : TableSchema) (start count row : ℕ)
    (done : List Row) (all : Result (List Row) RowFault) → count ≤ row
    → all ≡ in_front done (rows_from bytes layout schema start (count - row) row) → all ≡ Ok done
rows_all bytes layout schema start count row done all over so_far =
    let none : count - row ≡ 0 = omega arith in
    so_far
    ∙ ap (λ n. in_front done (rows_from bytes layout schema start n row)) none
    ∙ in_front-end done

-- ---- tables

-- one table more
pub tables_on : (bytes : StreamBytes) (layout : Layout) (schemas rest : List Schema) (schema : Schema) (start end : ℕ)
    (rows : List Row) (done : List Table) (all : Result (List Table) RowFault) → schemas ≡ schema ∷ rest
    → rows_in bytes layout (schema_of schema) start ≡ Ok rows → end ≡ rows_end layout (schema_of schema) start
    → all ≡ in_front done (tables_from bytes layout start (map schema_of schemas))
    → all ≡ in_front (done ++ kept schema.is_held (table_of schema.number rows))
    (tables_from bytes layout end (map schema_of rest))
tables_on bytes layout schemas rest schema start end rows done all first read place so_far =
    let behind : Result (List Table) RowFault =
    tables_from bytes layout (rows_end layout (schema_of schema) start) (map schema_of rest) in
    so_far
    ∙ ap (λ s. in_front done (tables_from bytes layout start (map schema_of s))) first
    ∙ ap (λ r. in_front done (with_table (schema_of schema) r behind)) read
    ∙ in_front-in_front done (kept schema.is_held (table_of schema.number rows)) behind
    ∙ ap (λ e. in_front (done ++ kept schema.is_held (table_of schema.number rows))
    (tables_from bytes layout e (map schema_of rest))) (sym place)

-- a table that is refused
pub tables_bad : (bytes : StreamBytes) (layout : Layout) (schemas rest : List Schema) (schema : Schema) (start : ℕ)
    (fault : RowFault) (done : List Table) (all : Result (List Table) RowFault) → schemas ≡ schema ∷ rest
    → rows_in bytes layout (schema_of schema) start ≡ Err fault
    → all ≡ in_front done (tables_from bytes layout start (map schema_of schemas)) → all ≡ Err fault
tables_bad bytes layout schemas rest schema start fault done all first read so_far =
    let behind : Result (List Table) RowFault =
    tables_from bytes layout (rows_end layout (schema_of schema) start) (map schema_of rest) in
    so_far
    ∙ ap (λ s. in_front done (tables_from bytes layout start (map schema_of s))) first
    ∙ ap (λ r. in_front done (with_table (schema_of schema) r behind)) read

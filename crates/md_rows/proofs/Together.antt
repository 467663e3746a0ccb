-- Tables that were read fit together.
use Rattle.std.proofs.Common.{◌≡◌, ◌≢◌, ◌∙◌, ℕ, zero, suc, ◌+◌, ◌-◌, ◌*◌, ◌<◌, ◌≤◌, Bool, true, false, cond, ◌&&◌, ◌||◌}
use Rattle.std.proofs.Common.{◌==◌, nat_le, List, [], ◌∷◌, ◌++◌, length, map, find, Option, Some, None, Result, Ok, Err}
use Rattle.std.proofs.Common.{ap, refl, sym, subst, arith}
use Rattle.std.specs.Prelude.{All, IfOk}
use Rattle.std.specs.Option.{option_map}
use Rattle.std.specs.List.{list_any, list_all, filter}
use Rattle.std.proofs.lemmas.Bool.{and_from, and_parts, eqb-true, eq-eqb, ne_eqb}
use Rattle.md_rows.specs.declared.cell.Cell.{Cell}
use Rattle.md_rows.specs.declared.cell.Cell.TheVariants.{Number, Name, Blob, Index, Coded}
use Rattle.md_rows.specs.declared.coding.Coding.{Coding}
use Rattle.md_rows.specs.declared.coding.Coding.TheVariants.{TypeDefOrRef, HasConstant, HasCustomAttribute}
use Rattle.md_rows.specs.declared.coding.Coding.TheVariants.{HasFieldMarshal, HasDeclSecurity, MemberRefParent}
use Rattle.md_rows.specs.declared.coding.Coding.TheVariants.{HasSemantics, MethodDefOrRef, MemberForwarded}
use Rattle.md_rows.specs.declared.coding.Coding.TheVariants.{Implementation, CustomAttributeType, ResolutionScope}
use Rattle.md_rows.specs.declared.coding.Coding.TheVariants.{TypeOrMethodDef}
use Rattle.md_rows.specs.declared.fault.RowFault.{RowFault}
use Rattle.md_rows.specs.declared.layout.Layout.{Layout}
use Rattle.md_rows.specs.declared.row.Row.{Row}
use Rattle.md_rows.specs.declared.schema.Column.{Column}
use Rattle.md_rows.specs.declared.schema.Column.TheVariants.{U8, U16, U32, StringIndex, GuidIndex, BlobIndex}
use Rattle.md_rows.specs.declared.schema.Column.TheVariants.{RowIndex, RunIndex, CodedIndex}
use Rattle.md_rows.specs.declared.table.Table.{Table}
use Rattle.md_rows.specs.Tables.{TableSchema, tables, tag_tables, is_skipped}
use Rattle.md_rows.specs.Widths.{rows_of, number_at, column_size, address_size, row_size, or_zero, first_refused, valid}
use Rattle.md_rows.specs.Widths.{layout_of, fits}
use Rattle.md_rows.specs.Cells.{StreamBytes, cell_at, cells_at, with_cell, index_cell}
use Rattle.md_rows.specs.Reading.{address_at, row_of, row_from, back_of, row_at, rows_from, rows_in, rows_end, table_of}
use Rattle.md_rows.specs.Reading.{tables_from, with_layout, reading}
use Rattle.md_rows.specs.Fits.{names, is_row, is_run, is_coded, is_cell, are_cells, is_behind, are_behind, rise}
use Rattle.md_rows.specs.Fits.{first_row, are_rows, held_tables, rows_among, is_table, are_tables, fit_together}
use Rattle.md_rows.proofs.Fitting.{fit_their_columns}
use Rattle.md_rows.proofs.Places.{row_read, rows_length, table_read, refused_is}

-- ---- the numbers of rows that a cell asks for are those of tables that are held

abbrev is_held : ℕ → Bool
is_held table = list_any (λ schema. schema.number == table && schema.is_held) tables

-- a table that a tag names is held, or only skipped
abbrev knows_tag : Option ℕ → Bool
knows_tag None = true
knows_tag (Some table) = is_skipped table || is_held table

abbrev knows : Column → Bool
knows (RowIndex table) = is_held table
knows (RunIndex table) = is_held table
knows column = true

coding_known : (coding : Coding) → list_all knows_tag (tag_tables coding) ≡ true
unfolding is_skipped tables
coding_known TypeDefOrRef = refl
coding_known HasConstant = refl
coding_known HasCustomAttribute = refl
coding_known HasFieldMarshal = refl
coding_known HasDeclSecurity = refl
coding_known MemberRefParent = refl
coding_known HasSemantics = refl
coding_known MethodDefOrRef = refl
coding_known MemberForwarded = refl
coding_known Implementation = refl
coding_known CustomAttributeType = refl
coding_known ResolutionScope = refl
coding_known TypeOrMethodDef = refl

abbrev knows_all : TableSchema → Bool
knows_all schema = list_all knows schema.columns

tables_known : list_all knows_all (filter (λ schema. schema.is_held) tables) ≡ true
unfolding tables
tables_known = refl

-- the numbers of rows are those that the header tells, of tables that are held
abbrev Agrees : (ℕ → ℕ) → Layout → Type 0
Agrees rows layout = (table : ℕ) → is_held table ≡ true → rows_of layout table ≡ rows table

named_by : (b : Bool) (other table : ℕ) (more : Bool) → (other == table) ≡ b → (b || more) ≡ true
    → (is_skipped other || is_held other) ≡ true → (more ≡ true → (is_skipped table || is_held table) ≡ true)
    → (is_skipped table || is_held table) ≡ true
named_by true other table more e h here rest =
    subst (λ t. (is_skipped t || is_held t) ≡ true) (eqb-true _ _ e) here
named_by false other table more e h here rest = rest h

named_known : (xs : List (Option ℕ)) (table : ℕ) → list_any (names table) xs ≡ true
    → list_all knows_tag xs ≡ true → (is_skipped table || is_held table) ≡ true
named_known [] table h k = cc
named_known (None ∷ xs) table h k = named_known xs table h k
named_known (Some other ∷ xs) table h k =
    let parts = and_parts (is_skipped other || is_held other) (list_all knows_tag xs) k in
    named_by (other == table) other table (list_any (names table) xs) refl h parts.0
    (λ more. named_known xs table more parts.1)

there_same : (skipped : Bool) (row most count : ℕ) → (skipped ≡ false → most ≡ count)
    → cond skipped (row == 0) (nat_le row most) ≡ cond skipped (row == 0) (nat_le row count)
there_same true row most count h = refl
there_same false row most count h = ap (nat_le row) (h refl)

or_left : (a b : Bool) → (a || b) ≡ true → a ≡ false → b ≡ true
or_left true b h e = cc
or_left false b h e = h

coded_same : (rows : ℕ → ℕ) (layout : Layout) (coding : Coding) (cell : Cell) → Agrees rows layout
    → is_coded (rows_of layout) coding cell ≡ true → is_coded rows coding cell ≡ true
coded_same rows layout coding (Number n) same h = h
coded_same rows layout coding (Name n) same h = h
coded_same rows layout coding (Blob n) same h = h
coded_same rows layout coding (Index n) same h = h
coded_same rows layout coding (Coded table row) same h =
    let named : Bool = list_any (names table) (tag_tables coding) in
    let parts = and_parts named (cond (is_skipped table) (row == 0) (nat_le row (rows_of layout table))) h in
    let known = named_known (tag_tables coding) table parts.0 (coding_known coding) in
    and_from named (cond (is_skipped table) (row == 0) (nat_le row (rows table))) parts.0
    (sym (there_same (is_skipped table) row (rows_of layout table) (rows table)
    (λ e. same table (or_left (is_skipped table) (is_held table) known e))) ∙ parts.1)

cell_same : (rows : ℕ → ℕ) (layout : Layout) (column : Column) (cell : Cell) → Agrees rows layout
    → knows column ≡ true → is_cell (rows_of layout) column cell ≡ true → is_cell rows column cell ≡ true
cell_same rows layout U8 cell same known h = h
cell_same rows layout U16 cell same known h = h
cell_same rows layout U32 cell same known h = h
cell_same rows layout StringIndex cell same known h = h
cell_same rows layout GuidIndex cell same known h = h
cell_same rows layout BlobIndex cell same known h = h
cell_same rows layout (RowIndex table) cell same known h =
    subst (λ count. is_row count cell ≡ true) (same table known) h
cell_same rows layout (RunIndex table) cell same known h =
    subst (λ count. is_run count cell ≡ true) (same table known) h
cell_same rows layout (CodedIndex coding) cell same known h = coded_same rows layout coding cell same h

-- ---- the cells of a row

-- a cell that was read, and those behind it
record CellRead (o : Option Cell) (r : Option (List Cell)) (cells : List Cell) : Type 0 where
  cell : Cell
  more : List Cell
  first : o ≡ Some cell
  rest : r ≡ Some more
  all : cell ∷ more ≡ cells

cell_read : (o : Option Cell) (r : Option (List Cell)) (cells : List Cell) → with_cell o r ≡ Some cells
    → CellRead o r cells
cell_read None r cells h = cc
cell_read (Some cell) None cells h = cc
cell_read (Some cell) (Some more) cells h =
    let is : cell ∷ more ≡ cells = cc in
    record { cell = cell; more = more; first = refl; rest = refl; all = is }

-- what is known where cells are read
record Under (rows : ℕ → ℕ) (bytes : StreamBytes) (layout : Layout) : Type 0 where
  same : Agrees rows layout
  below : All (λ byte. byte < 256) bytes.tables

cells_are : (rows : ℕ → ℕ) (bytes : StreamBytes) (layout : Layout) (columns : List Column) (at back : ℕ)
    (cells : List Cell) → Under rows bytes layout → list_all knows columns ≡ true
    → cells_at bytes layout columns at back ≡ Some cells → are_cells rows columns cells ≡ true
cells_are rows bytes layout [] at back cells u known h =
    let none : [] ≡ cells = cc in subst (λ cs. are_cells rows [] cs ≡ true) none refl
cells_are rows bytes layout (column ∷ columns) at back cells u known h =
    let behind : Option (List Cell) = cells_at bytes layout columns (at + column_size layout column) back in
    let read = cell_read (cell_at bytes layout column at back) behind cells h in
    let parts = and_parts (knows column) (list_all knows columns) known in
    subst (λ cs. are_cells rows (column ∷ columns) cs ≡ true) read.all
    (and_from (is_cell rows column read.cell) (are_cells rows columns read.more)
    (cell_same rows layout column read.cell u.same parts.0
    (fit_their_columns bytes layout column at back read.cell u.below read.first))
    (cells_are rows bytes layout columns (at + column_size layout column) back read.more u parts.1 read.rest))

-- ---- a row behind another

-- what a run's index was chosen by
run_chosen : (b : Bool) (index : ℕ) (cell : Cell) → cond b (Some (Index index)) None ≡ Some cell
    → (b ≡ true) × (Index index ≡ cell)
run_chosen true index cell h = let same : Index index ≡ cell = cc in (refl, same)
run_chosen false index cell h = cc

run_behind : (table least value most other : ℕ) (front cell : Cell) → index_cell least most value ≡ Some cell
    → index_cell other most least ≡ Some front → is_behind (RunIndex table) front cell ≡ true
run_behind table least value most other front cell h f =
    let is = run_chosen (nat_le least value && nat_le value most) value cell h in
    let was = run_chosen (nat_le other least && nat_le least most) least front f in
    subst (λ c. is_behind (RunIndex table) front c ≡ true) is.1
    (subst (λ c. is_behind (RunIndex table) c (Index value) ≡ true) was.1
    (and_parts (nat_le least value) (nat_le value most) is.0).0)

behind_is : (bytes : StreamBytes) (layout : Layout) (column : Column) (at back other : ℕ) (front cell : Cell)
    → cell_at bytes layout column at back ≡ Some cell → cell_at bytes layout column (at - back) other ≡ Some front
    → is_behind column front cell ≡ true
behind_is bytes layout U8 at back other front cell h f = refl
behind_is bytes layout U16 at back other front cell h f = refl
behind_is bytes layout U32 at back other front cell h f = refl
behind_is bytes layout StringIndex at back other front cell h f = refl
behind_is bytes layout GuidIndex at back other front cell h f = refl
behind_is bytes layout BlobIndex at back other front cell h f = refl
behind_is bytes layout (RowIndex table) at back other front cell h f = refl
behind_is bytes layout (CodedIndex coding) at back other front cell h f = refl
behind_is bytes layout (RunIndex table) at back other front cell h f =
    let size : ℕ = column_size layout (RunIndex table) in
    run_behind table (number_at bytes.tables size (at - back)) (number_at bytes.tables size at)
    (rows_of layout table + 1) (number_at bytes.tables size (at - back - other)) front cell h f

are_behind_is : (bytes : StreamBytes) (layout : Layout) (columns : List Column) (at back other : ℕ)
    (front cells : List Cell) → back ≤ at → cells_at bytes layout columns at back ≡ Some cells
    → cells_at bytes layout columns (at - back) other ≡ Some front → are_behind columns front cells ≡ true
are_behind_is bytes layout [] at back other front cells less h f = refl
are_behind_is bytes layout (column ∷ columns) at back other front cells less h f =
    let size : ℕ = column_size layout column in
    let read = cell_read (cell_at bytes layout column at back) (cells_at bytes layout columns (at + size) back) cells h
    in
    let was = cell_read (cell_at bytes layout column (at - back) other)
    (cells_at bytes layout columns (at - back + size) other) front f in
    let place : at - back + size ≡ at + size - back = omega (arith, less) in
    subst (λ cs. are_behind (column ∷ columns) front cs ≡ true) read.all
    (subst (λ cs. are_behind (column ∷ columns) cs (read.cell ∷ read.more) ≡ true) was.all
    (and_from (is_behind column was.cell read.cell) (are_behind columns was.more read.more)
    (behind_is bytes layout column at back other was.cell read.cell read.first was.first)
    (are_behind_is bytes layout columns (at + size) back other was.more read.more (omega (arith, less)) read.rest
    (subst (λ a. cells_at bytes layout columns a other ≡ Some was.more) place was.rest))))

-- ---- the rows of a table

-- the cells of a row of a table that is held
record RowCells (bytes : StreamBytes) (layout : Layout) (schema : TableSchema) (at back : ℕ) (row : Row) : Type 0 where
  cells : cells_at bytes layout schema.columns (at + address_size schema) back ≡ Some row.cells

mapped_row : (address : ℕ) (o : Option (List Cell)) (row : Row) → option_map (row_of address) o ≡ Some row
    → o ≡ Some row.cells
mapped_row address None row h = cc
mapped_row address (Some cells) row h =
    let same : row_of address cells ≡ row = cc in ap (λ (r : Row). Some r.cells) same

row_cells_by : (b held : Bool) (address : ℕ) (o : Option (List Cell)) (row : Row) → held ≡ true
    → cond b (cond held (option_map (row_of address) o) (Some (row_of 0 []))) None ≡ Some row → o ≡ Some row.cells
row_cells_by true true address o row held h = mapped_row address o row h
row_cells_by true false address o row held h = cc
row_cells_by false kept address o row held h = cc

row_cells : (bytes : StreamBytes) (layout : Layout) (schema : TableSchema) (at back : ℕ) (row : Row)
    → schema.is_held ≡ true → row_from bytes layout schema at back ≡ Some row
    → cells_at bytes layout schema.columns (at + address_size schema) back ≡ Some row.cells
row_cells bytes layout schema at back row held h =
    row_cells_by (fits bytes.tables at (row_size layout schema)) schema.is_held (address_at bytes schema at)
    (cells_at bytes layout schema.columns (at + address_size schema) back) row held h

abbrev cells_of : List Row → List (List Cell)
cells_of rows = map (λ row. row.cells) rows

rows_fit : (rows : ℕ → ℕ) (bytes : StreamBytes) (layout : Layout) (schema : TableSchema) (start left row : ℕ)
    (read : List Row) → Under rows bytes layout → knows_all schema ≡ true → schema.is_held ≡ true
    → rows_from bytes layout schema start left row ≡ Ok read
    → list_all (are_cells rows schema.columns) (cells_of read) ≡ true
rows_fit rows bytes layout schema start zero row read u known held h =
    let none : [] ≡ read = cc in
    subst (λ rs. list_all (are_cells rows schema.columns) (cells_of rs) ≡ true) none refl
rows_fit rows bytes layout schema start (suc left) row read u known held h =
    let size : ℕ = row_size layout schema in
    let first = row_read schema row (row_at bytes layout schema start row)
    (rows_from bytes layout schema start left (suc row)) read held h in
    subst (λ rs. list_all (are_cells rows schema.columns) (cells_of rs) ≡ true) (sym first.all)
    (and_from (are_cells rows schema.columns first.cells.cells)
    (list_all (are_cells rows schema.columns) (cells_of first.more))
    (cells_are rows bytes layout schema.columns (start + row * size + address_size schema) (back_of size row)
    first.cells.cells u known
    (row_cells bytes layout schema (start + row * size) (back_of size row) first.cells held first.row))
    (rows_fit rows bytes layout schema start left (suc row) first.more u known held first.rest))

-- from the second row on: the row in front was read
rise_on : (bytes : StreamBytes) (layout : Layout) (schema : TableSchema) (start left row other : ℕ) (front : Row)
    (read : List Row) → schema.is_held ≡ true
    → row_from bytes layout schema (start + row * row_size layout schema) other ≡ Some front
    → rows_from bytes layout schema start left (suc row) ≡ Ok read
    → rise schema.columns front.cells (cells_of read) ≡ true
rise_on bytes layout schema start zero row other front read held f h =
    let none : [] ≡ read = cc in
    subst (λ rs. rise schema.columns front.cells (cells_of rs) ≡ true) none refl
rise_on bytes layout schema start (suc left) row other front read held f h =
    let size : ℕ = row_size layout schema in
    let place : ℕ = start + suc row * size in
    let first = row_read schema (suc row) (row_at bytes layout schema start (suc row))
    (rows_from bytes layout schema start left (suc (suc row))) read held h in
    let more : suc row * size ≡ row * size + size = grind arith in
    let some : suc row ≢ 0 = λ e. absurd (omega (arith, e)) in
    let back : back_of size (suc row) ≡ size = ap (λ b. cond b 0 size) (ne_eqb (suc row) 0 some) in
    let here : row_from bytes layout schema place size ≡ Some first.cells =
    subst (λ b. row_from bytes layout schema place b ≡ Some first.cells) back first.row in
    let near : start + row * size + address_size schema ≡ place + address_size schema - size =
    omega (arith, more) in
    subst (λ rs. rise schema.columns front.cells (cells_of rs) ≡ true) (sym first.all)
    (and_from (are_behind schema.columns front.cells first.cells.cells)
    (rise schema.columns first.cells.cells (cells_of first.more))
    (are_behind_is bytes layout schema.columns (place + address_size schema) size other front.cells first.cells.cells
    (omega (arith, more))
    (row_cells bytes layout schema place size first.cells held here)
    (subst (λ a. cells_at bytes layout schema.columns a other ≡ Some front.cells) near
    (row_cells bytes layout schema (start + row * size) other front held f)))
    (rise_on bytes layout schema start left (suc row) size first.cells first.more held here first.rest))

rises : (bytes : StreamBytes) (layout : Layout) (schema : TableSchema) (start left : ℕ) (read : List Row)
    → schema.is_held ≡ true → rows_from bytes layout schema start left 0 ≡ Ok read
    → rise schema.columns (first_row (cells_of read)) (cells_of read) ≡ true
rises bytes layout schema start zero read held h =
    let none : [] ≡ read = cc in
    subst (λ rs. rise schema.columns (first_row (cells_of rs)) (cells_of rs) ≡ true) none refl
rises bytes layout schema start (suc left) read held h =
    let size : ℕ = row_size layout schema in
    let place : ℕ = start + 0 * size in
    let first = row_read schema 0 (row_at bytes layout schema start 0)
    (rows_from bytes layout schema start left 1) read held h in
    let cells = row_cells bytes layout schema place 0 first.cells held first.row in
    let here : place + address_size schema ≡ place + address_size schema - 0 = omega arith in
    subst (λ rs. rise schema.columns (first_row (cells_of rs)) (cells_of rs) ≡ true) (sym first.all)
    (and_from (are_behind schema.columns first.cells.cells first.cells.cells)
    (rise schema.columns first.cells.cells (cells_of first.more))
    (are_behind_is bytes layout schema.columns (place + address_size schema) 0 0 first.cells.cells first.cells.cells
    (omega arith) cells (subst (λ a. cells_at bytes layout schema.columns a 0 ≡ Some first.cells.cells) here cells))
    (rise_on bytes layout schema start left 0 0 first.cells first.more held first.row first.rest))

rows_are : (rows : ℕ → ℕ) (bytes : StreamBytes) (layout : Layout) (schema : TableSchema) (start : ℕ)
    (read : List Row) → Under rows bytes layout → knows_all schema ≡ true → schema.is_held ≡ true
    → rows_in bytes layout schema start ≡ Ok read → are_rows rows schema.columns (cells_of read) ≡ true
rows_are rows bytes layout schema start read u known held h =
    and_from (list_all (are_cells rows schema.columns) (cells_of read))
    (rise schema.columns (first_row (cells_of read)) (cells_of read))
    (rows_fit rows bytes layout schema start (rows_of layout schema.number) 0 read u known held h)
    (rises bytes layout schema start (rows_of layout schema.number) read held h)

-- ---- the tables

abbrev holds : TableSchema → Bool
holds schema = schema.is_held

are_on : (rows : ℕ → ℕ) (b : Bool) (schema : TableSchema) (schemas : List TableSchema) (table : Table)
    (more : List Table) → (b ≡ true → is_table rows schema table ≡ true) → are_tables rows schemas more ≡ true
    → are_tables rows (cond b (schema ∷ schemas) schemas) (cond b (table ∷ []) [] ++ more) ≡ true
are_on rows true schema schemas table more h rest =
    and_from (is_table rows schema table) (are_tables rows schemas more) (h refl) rest
are_on rows false schema schemas table more h rest = rest

known_first : (b : Bool) (schema : TableSchema) (rest : List TableSchema)
    → list_all knows_all (cond b (schema ∷ rest) rest) ≡ true → b ≡ true → knows_all schema ≡ true
known_first true schema rest h e = (and_parts (knows_all schema) (list_all knows_all rest) h).0
known_first false schema rest h e = cc

known_rest : (b : Bool) (schema : TableSchema) (rest : List TableSchema)
    → list_all knows_all (cond b (schema ∷ rest) rest) ≡ true → list_all knows_all rest ≡ true
known_rest true schema rest h = (and_parts (knows_all schema) (list_all knows_all rest) h).1
known_rest false schema rest h = h

tables_are : (rows : ℕ → ℕ) (bytes : StreamBytes) (layout : Layout) (schemas : List TableSchema) (start : ℕ)
    (held : List Table) → Under rows bytes layout → list_all knows_all (filter holds schemas) ≡ true
    → tables_from bytes layout start schemas ≡ Ok held → are_tables rows (filter holds schemas) held ≡ true
tables_are rows bytes layout [] start held u known h =
    let none : [] ≡ held = cc in subst (λ ts. are_tables rows [] ts ≡ true) none refl
tables_are rows bytes layout (schema ∷ rest) start held u known h =
    let read = table_read schema (rows_in bytes layout schema start)
    (tables_from bytes layout (rows_end layout schema start) rest) held h in
    let table : Table = table_of schema.number read.rows in
    subst (λ ts. are_tables rows (filter holds (schema ∷ rest)) ts ≡ true) (sym read.all)
    (are_on rows schema.is_held schema (filter holds rest) table read.more
    (λ e.
    and_from (schema.number == schema.number) (are_rows rows schema.columns (cells_of read.rows))
    (eq-eqb schema.number schema.number refl)
    (rows_are rows bytes layout schema start read.rows u
    (known_first schema.is_held schema (filter holds rest) known e) e read.table))
    (tables_are rows bytes layout rest (rows_end layout schema start) read.more u
    (known_rest schema.is_held schema (filter holds rest) known) read.rest))

-- how many rows the first of two has
found_by : (same : Bool) (table : Table) (o : Option Table) (count : ℕ) → (same ≡ true → length table.rows ≡ count)
    → (same ≡ false → or_zero (option_map (λ (t : Table). length t.rows) o) ≡ count)
    → or_zero (option_map (λ (t : Table). length t.rows) (cond same (Some table) o)) ≡ count
found_by true table o count here rest = here refl
found_by false table o count here rest = rest refl

any_rest : (same held any : Bool) → (same && held || any) ≡ true → same ≡ false → any ≡ true
any_rest true held any h e = cc
any_rest false held any h e = h

not_held : (same any : Bool) → (same && false || any) ≡ true → any ≡ true
not_held true any h = h
not_held false any h = h

count_by : (held any : Bool) (table : Table) (more : List Table) (number count : ℕ)
    → ((table.number == number && held) || any) ≡ true
    → (held ≡ true → (table.number == number) ≡ true → length table.rows ≡ count)
    → (any ≡ true → rows_among more number ≡ count)
    → rows_among (cond held (table ∷ []) [] ++ more) number ≡ count
count_by true any table more number count h here rest =
    found_by (table.number == number) table (find (λ t. t.number == number) more) count (here refl)
    (λ e. rest (any_rest (table.number == number) true any h e))
count_by false any table more number count h here rest = rest (not_held (table.number == number) any h)

counts : (bytes : StreamBytes) (layout : Layout) (schemas : List TableSchema) (start : ℕ) (held : List Table)
    (number : ℕ) → tables_from bytes layout start schemas ≡ Ok held
    → list_any (λ schema. schema.number == number && schema.is_held) schemas ≡ true
    → rows_among held number ≡ rows_of layout number
counts bytes layout [] start held number h is = cc
counts bytes layout (schema ∷ rest) start held number h is =
    let read = table_read schema (rows_in bytes layout schema start)
    (tables_from bytes layout (rows_end layout schema start) rest) held h in
    let table : Table = table_of schema.number read.rows in
    subst (λ ts. rows_among ts number ≡ rows_of layout number) (sym read.all)
    (count_by schema.is_held (list_any (λ schema. schema.number == number && schema.is_held) rest) table read.more
    number (rows_of layout number) is
    (λ kept same.
    rows_length bytes layout schema start (rows_of layout schema.number) 0 read.rows kept read.table
    ∙ ap (rows_of layout) (eqb-true _ _ same))
    (counts bytes layout rest (rows_end layout schema start) read.more number read.rest))

by_layout : (bytes : StreamBytes) (held : List Table) (o : Option Layout) → All (λ byte. byte < 256) bytes.tables
    → with_layout bytes o ≡ Ok held → fit_together held ≡ true
unfolding held_tables
by_layout bytes held None below h = cc
by_layout bytes held (Some layout) below h =
    let read = refused_is (first_refused (valid bytes.tables)) (tables_from bytes layout layout.place tables) held h in
    let under : Under (rows_among held) bytes layout =
    record {
      same = λ table is. sym (counts bytes layout tables layout.place held table read is);
      below = below;
    } in
    tables_are (rows_among held) bytes layout tables layout.place held under tables_known read

-- the tables that streams are read as
pub read_together : (bytes : StreamBytes) (held : List Table) → All (λ byte. byte < 256) bytes.tables
    → reading bytes ≡ Ok held → fit_together held ≡ true
unfolding reading
read_together bytes held below h = by_layout bytes held (layout_of bytes.tables) below h

pub ok_together : (bytes : StreamBytes) (r : Result (List Table) RowFault) → All (λ byte. byte < 256) bytes.tables
    → IfOk r (λ held. reading bytes ≡ Ok held) → IfOk r (λ held. fit_together held ≡ true)
ok_together bytes (Ok held) below h = read_together bytes held below h
ok_together bytes (Err fault) below h = tt

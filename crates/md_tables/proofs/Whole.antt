-- The tables of an image that was read are those of a module.
use Rattle.std.proofs.Common.{◌≡◌, ◌∙◌, ℕ, suc, Bool, true, false, cond, ◌&&◌, ◌==◌, List, [], ◌∷◌, length, map, find}
use Rattle.std.proofs.Common.{take}
use Rattle.std.proofs.Common.{Option, Some, None, Result, Ok, Err, ap, refl, sym, subst}
use Rattle.std.specs.List.{list_all}
use Rattle.std.specs.Option.{option_map, option_and_then}
use Rattle.std.proofs.lemmas.Bool.{true≢false, false≢true, and_from, and_parts, eqb-true, eq-eqb}
use Rattle.std.proofs.lemmas.List.{length-take-le}
use Rattle.il_code.specs.Headers.{body_length}
use Rattle.pe_image.specs.Pe.{Parts}
use Rattle.pe_image.specs.Sections.{bytes_from}
use Rattle.md_rows.specs.declared.cell.Cell.{Cell}
use Rattle.md_rows.specs.declared.cell.Cell.TheVariants.{Blob}
use Rattle.md_rows.specs.declared.row.Row.{Row}
use Rattle.md_rows.specs.declared.schema.Column.{Column}
use Rattle.md_rows.specs.declared.schema.Column.TheVariants.{BlobIndex}
use Rattle.md_rows.specs.declared.table.Table.{Table as RowTable}
use Rattle.md_rows.specs.Tables.{TableSchema}
use Rattle.md_rows.specs.Widths.{or_zero}
use Rattle.md_rows.specs.Fits.{are_cells, are_behind, rise, first_row, held_tables, rows_among, fit_together}
use Rattle.md_rows.specs.Fits.{is_table as is_row_table, are_tables as are_row_tables}
use Rattle.md_tables.specs.declared.data.Held.{Held}
use Rattle.md_tables.specs.declared.fault.TableFault.{TableFault}
use Rattle.md_tables.specs.declared.module.TableRow.{TableRow}
use Rattle.md_tables.specs.declared.module.Table.{Table}
use Rattle.md_tables.specs.Modules.{rows_in, columns_of, is_length, is_body, is_row, is_table, are_tables, is_module}
use Rattle.md_tables.specs.Finished.{whole_body, body_at, plain, with_body, method_row, field_row, data_at}
use Rattle.md_tables.specs.Finished.{finished_row}
use Rattle.md_tables.specs.Finished.{in_front, finished_rows, table_of, tabled, finished_table, finished_tables}
use Rattle.md_tables.proofs.Bodies.{alone}

-- ---- cells

-- the cells of a row with what it leads to: in front of those of a field stand its bytes
record HasCells (field : Bool) (read done : List Cell) : Type 0 where
  same : field ≡ false → done ≡ read
  bytes : field ≡ true → (bytes : List ℕ) × (done ≡ Blob bytes ∷ read)

abbrev columns_by : Bool → List Column → List Column
columns_by field columns = cond field (BlobIndex ∷ columns) columns

cells_fit : (field : Bool) (rows : ℕ → ℕ) (columns : List Column) (read done : List Cell) → HasCells field read done
    → are_cells rows columns read ≡ true → are_cells rows (columns_by field columns) done ≡ true
cells_fit true rows columns read done has h =
    let is = has.bytes refl in subst (λ cs. are_cells rows (BlobIndex ∷ columns) cs ≡ true) (sym is.1) h
cells_fit false rows columns read done has h =
    subst (λ cs. are_cells rows columns cs ≡ true) (sym (has.same refl)) h

behind_fit : (field : Bool) (columns : List Column) (front first read done : List Cell) → HasCells field front first
    → HasCells field read done → are_behind columns front read ≡ true
    → are_behind (columns_by field columns) first done ≡ true
behind_fit true columns front first read done before has h =
    let was = before.bytes refl in
    let is = has.bytes refl in
    subst (λ cs. are_behind (BlobIndex ∷ columns) first cs ≡ true) (sym is.1)
    (subst (λ cs. are_behind (BlobIndex ∷ columns) cs (Blob is.0 ∷ read) ≡ true) (sym was.1) h)
behind_fit false columns front first read done before has h =
    subst (λ cs. are_behind columns first cs ≡ true) (sym (has.same refl))
    (subst (λ cs. are_behind columns cs read ≡ true) (sym (before.same refl)) h)

-- ---- rows

-- a row with what it leads to
record IsDone (number : ℕ) (row : Row) (done : TableRow) : Type 0 where
  cells : HasCells (number == 0x1D) row.cells done.cells
  body : is_body number done.body ≡ true

length_is : (o : Option ℕ) (count : ℕ) → o ≡ Some count → is_length count o ≡ true
length_is None count h = cc
length_is (Some n) count h = let same : n ≡ count = cc in eq-eqb n count same

whole_by : (o : Option ℕ) (bytes body : List ℕ) → body_length bytes ≡ o
    → option_map (λ n. take n bytes) o ≡ Some body → is_length (length body) (body_length body) ≡ true
whole_by None bytes body e h = cc
whole_by (Some n) bytes body e h =
    let same : take n bytes ≡ body = cc in
    let is = alone bytes n e in
    subst (λ b. is_length (length b) (body_length b) ≡ true) same
    (length_is (body_length (take n bytes)) (length (take n bytes))
    (is.1 ∙ ap Some (sym (length-take-le n bytes is.0))))

body_whole : (o : Option (List ℕ)) (body : List ℕ) → option_and_then whole_body o ≡ Some body
    → is_length (length body) (body_length body) ≡ true
body_whole None body h = cc
body_whole (Some bytes) body h = whole_by (body_length bytes) bytes body refl h

not_data : (number : ℕ) → (number == 0x06) ≡ true → (number == 0x1D) ≡ false
not_data number h = ap (λ n. n == 0x1D) (eqb-true _ _ h)

unchanged : (field : Bool) (cells : List Cell) → field ≡ false → HasCells field cells cells
unchanged true cells h = absurd (true≢false h)
unchanged false cells h = record { same = λ e. refl; bytes = λ e. absurd (false≢true e) }

plain_done : (number : ℕ) (row : Row) (done : TableRow) → (number == 0x1D) ≡ false → plain row.cells ≡ done
    → IsDone number row done
plain_done number row done e same =
    subst (IsDone number row) same
    (record { cells = unchanged (number == 0x1D) row.cells e; body = refl })

method_by : (zero : Bool) (o : Option (List ℕ)) (number : ℕ) (row : Row) (done : TableRow)
    → ((body : List ℕ) → o ≡ Some body → is_length (length body) (body_length body) ≡ true)
    → (number == 0x06) ≡ true → cond zero (Ok (plain row.cells)) (with_body row o) ≡ Ok done
    → IsDone number row done
method_by true o number row done whole e h =
    let same : plain row.cells ≡ done = cc in plain_done number row done (not_data number e) same
method_by false None number row done whole e h = cc
method_by false (Some body) number row done whole e h =
    let with : TableRow = record { cells = row.cells; body = Some body } in
    let same : with ≡ done = cc in
    subst (IsDone number row) same
    (record {
      cells = unchanged (number == 0x1D) row.cells (not_data number e);
      body = and_from (number == 0x06) (is_length (length body) (body_length body)) e (whole body refl);
    })

data_done : (number : ℕ) (bytes : List ℕ) (row : Row) (done : TableRow) → (number == 0x1D) ≡ true
    → plain (Blob bytes ∷ row.cells) ≡ done → IsDone number row done
data_done number bytes row done e same =
    subst (IsDone number row) same
    (record {
      cells = record { same = λ f. absurd (true≢false (sym e ∙ f)); bytes = λ f. (bytes, refl) };
      body = refl;
    })

done_by : (method field : Bool) (image : Parts) (addresses : List Held) (number : ℕ) (row : Row) (done : TableRow)
    → (number == 0x06) ≡ method → (number == 0x1D) ≡ field
    → cond method (method_row image row) (cond field (Ok (field_row image addresses row)) (Ok (plain row.cells)))
    ≡ Ok done → IsDone number row done
done_by true field image addresses number row done m d h =
    method_by (row.address == 0) (body_at image row.address) number row done
    (body_whole (bytes_from image.file image.sections row.address)) m h
done_by false true image addresses number row done m d h =
    let same : field_row image addresses row ≡ done = cc in
    data_done number (data_at image addresses row.address) row done d same
done_by false false image addresses number row done m d h =
    let same : plain row.cells ≡ done = cc in plain_done number row done d same

row_done : (image : Parts) (addresses : List Held) (number : ℕ) (row : Row) (done : TableRow)
    → finished_row image addresses number row ≡ Ok done → IsDone number row done
row_done image addresses number row done h =
    done_by (number == 0x06) (number == 0x1D) image addresses number row done refl refl h

-- an item that was finished, and those behind it
record Finished {A : Type 0} (first : Result A TableFault) (behind : Result (List A) TableFault) (all : List A)
    : Type 0 where
  item : A
  more : List A
  here : first ≡ Ok item
  rest : behind ≡ Ok more
  is : item ∷ more ≡ all

finished_is : {A : Type 0} (first : Result A TableFault) (behind : Result (List A) TableFault) (all : List A)
    → in_front first behind ≡ Ok all → Finished first behind all
finished_is (Err fault) behind all h = cc
finished_is (Ok item) (Err fault) all h = cc
finished_is (Ok item) (Ok more) all h =
    let is : item ∷ more ≡ all = cc in
    record { item = item; more = more; here = refl; rest = refl; is = is }

-- each row is one with what it leads to
abbrev AreDone : ℕ → List Row → List TableRow → Type 0
AreDone number [] [] = Unit {0}
AreDone number (row ∷ rows) (first ∷ done) = IsDone number row first × AreDone number rows done
AreDone number [] (first ∷ done) = ⊥
AreDone number (row ∷ rows) [] = ⊥

rows_done : (image : Parts) (addresses : List Held) (number : ℕ) (rows : List Row) (done : List TableRow)
    → finished_rows image addresses number rows ≡ Ok done → AreDone number rows done
rows_done image addresses number [] done h =
    let none : [] ≡ done = cc in subst (AreDone number []) none tt
rows_done image addresses number (row ∷ rest) done h =
    let is = finished_is (finished_row image addresses number row) (finished_rows image addresses number rest) done h in
    subst (AreDone number (row ∷ rest)) is.is
    (row_done image addresses number row is.item is.here, rows_done image addresses number rest is.more is.rest)

as_many : (number : ℕ) (rows : List Row) (done : List TableRow) → AreDone number rows done
    → length done ≡ length rows
as_many number [] [] h = refl
as_many number (row ∷ rows) (first ∷ done) h = ap suc (as_many number rows done h.1)
as_many number [] (first ∷ done) h = absurd h
as_many number (row ∷ rows) [] h = absurd h

abbrev cells_read : List Row → List (List Cell)
cells_read rows = map (λ row. row.cells) rows

abbrev cells_done : List TableRow → List (List Cell)
cells_done rows = map (λ row. row.cells) rows

rows_fit : (counts : ℕ → ℕ) (schema : TableSchema) (rows : List Row) (done : List TableRow)
    → AreDone schema.number rows done → list_all (are_cells counts schema.columns) (cells_read rows) ≡ true
    → list_all (is_row counts schema) done ≡ true
rows_fit counts schema [] [] is h = refl
rows_fit counts schema [] (first ∷ done) is h = absurd is
rows_fit counts schema (row ∷ rows) [] is h = absurd is
rows_fit counts schema (row ∷ rows) (first ∷ done) is h =
    let parts = and_parts (are_cells counts schema.columns row.cells)
    (list_all (are_cells counts schema.columns) (cells_read rows)) h in
    and_from (is_row counts schema first) (list_all (is_row counts schema) done)
    (and_from (are_cells counts (columns_of schema) first.cells) (is_body schema.number first.body)
    (cells_fit (schema.number == 0x1D) counts schema.columns row.cells first.cells is.0.cells parts.0) is.0.body)
    (rows_fit counts schema rows done is.1 parts.1)

rise_on : (schema : TableSchema) (rows : List Row) (done : List TableRow) (front first : List Cell)
    → AreDone schema.number rows done → HasCells (schema.number == 0x1D) front first
    → rise schema.columns front (cells_read rows) ≡ true → rise (columns_of schema) first (cells_done done) ≡ true
rise_on schema [] [] front first is before h = refl
rise_on schema [] (other ∷ done) front first is before h = absurd is
rise_on schema (row ∷ rows) [] front first is before h = absurd is
rise_on schema (row ∷ rows) (other ∷ done) front first is before h =
    let parts = and_parts (are_behind schema.columns front row.cells)
    (rise schema.columns row.cells (cells_read rows)) h in
    and_from (are_behind (columns_of schema) first other.cells)
    (rise (columns_of schema) other.cells (cells_done done))
    (behind_fit (schema.number == 0x1D) schema.columns front first row.cells other.cells before is.0.cells parts.0)
    (rise_on schema rows done row.cells other.cells is.1 is.0.cells parts.1)

rises : (schema : TableSchema) (rows : List Row) (done : List TableRow) → AreDone schema.number rows done
    → rise schema.columns (first_row (cells_read rows)) (cells_read rows) ≡ true
    → rise (columns_of schema) (first_row (cells_done done)) (cells_done done) ≡ true
rises schema [] [] is h = refl
rises schema [] (other ∷ done) is h = absurd is
rises schema (row ∷ rows) [] is h = absurd is
rises schema (row ∷ rows) (other ∷ done) is h =
    rise_on schema (row ∷ rows) (other ∷ done) row.cells other.cells is is.0.cells h

-- ---- tables

-- the rows of a table that was finished
record TableDone (number : ℕ) (rows : Result (List TableRow) TableFault) (done : Table) : Type 0 where
  all : List TableRow
  here : rows ≡ Ok all
  is : table_of number all ≡ done

table_done : (number : ℕ) (rows : Result (List TableRow) TableFault) (done : Table) → tabled number rows ≡ Ok done
    → TableDone number rows done
table_done number (Err fault) done h = cc
table_done number (Ok all) done h =
    let is : table_of number all ≡ done = cc in record { all = all; here = refl; is = is }

table_fits : (counts : ℕ → ℕ) (schema : TableSchema) (table : RowTable) (done : List TableRow)
    → AreDone table.number table.rows done → is_row_table counts schema table ≡ true
    → is_table counts schema (table_of table.number done) ≡ true
table_fits counts schema table done is h =
    let all : List (List Cell) = cells_read table.rows in
    let parts = and_parts (table.number == schema.number) (list_all (are_cells counts schema.columns) all
    && rise schema.columns (first_row all) all) h in
    let both = and_parts (list_all (are_cells counts schema.columns) all) (rise schema.columns (first_row all) all)
    parts.1 in
    let same : AreDone schema.number table.rows done =
    subst (λ n. AreDone n table.rows done) (eqb-true _ _ parts.0) is in
    and_from (table.number == schema.number) (list_all (is_row counts schema) done
    && rise (columns_of schema) (first_row (cells_done done)) (cells_done done)) parts.0
    (and_from (list_all (is_row counts schema) done)
    (rise (columns_of schema) (first_row (cells_done done)) (cells_done done))
    (rows_fit counts schema table.rows done same both.0) (rises schema table.rows done same both.1))

tables_fit : (image : Parts) (addresses : List Held) (counts : ℕ → ℕ) (schemas : List TableSchema)
    (tables : List RowTable) (done : List Table) → finished_tables image addresses tables ≡ Ok done
    → are_row_tables counts schemas tables ≡ true → are_tables counts schemas done ≡ true
tables_fit image addresses counts [] [] done f h =
    let none : [] ≡ done = cc in subst (λ ts. are_tables counts [] ts ≡ true) none refl
tables_fit image addresses counts [] (table ∷ tables) done f h = cc
tables_fit image addresses counts (schema ∷ schemas) [] done f h = cc
tables_fit image addresses counts (schema ∷ schemas) (table ∷ tables) done f h =
    let read = finished_is (finished_table image addresses table) (finished_tables image addresses tables) done f in
    let rows = table_done table.number (finished_rows image addresses table.number table.rows) read.item read.here in
    let parts = and_parts (is_row_table counts schema table) (are_row_tables counts schemas tables) h in
    subst (λ ts. are_tables counts (schema ∷ schemas) ts ≡ true) read.is
    (and_from (is_table counts schema read.item) (are_tables counts schemas read.more)
    (subst (λ t. is_table counts schema t ≡ true) rows.is
    (table_fits counts schema table rows.all
    (rows_done image addresses table.number table.rows rows.all rows.here) parts.0))
    (tables_fit image addresses counts schemas tables read.more read.rest parts.1))

-- ---- how many rows tables have

count_by : (here : Bool) (others : Option Table) (more : Option RowTable) (done : Table) (table : RowTable)
    → length done.rows ≡ length table.rows
    → or_zero (option_map (λ (t : Table). length t.rows) others)
    ≡ or_zero (option_map (λ (t : RowTable). length t.rows) more)
    → or_zero (option_map (λ (t : Table). length t.rows) (cond here (Some done) others))
    ≡ or_zero (option_map (λ (t : RowTable). length t.rows) (cond here (Some table) more))
count_by true others more done table same rest = same
count_by false others more done table same rest = rest

counts_same : (image : Parts) (addresses : List Held) (tables : List RowTable) (done : List Table) (number : ℕ)
    → finished_tables image addresses tables ≡ Ok done → rows_among tables number ≡ rows_in done number
counts_same image addresses [] done number f =
    let none : [] ≡ done = cc in subst (λ ts. 0 ≡ rows_in ts number) none refl
counts_same image addresses (table ∷ tables) done number f =
    let read = finished_is (finished_table image addresses table) (finished_tables image addresses tables) done f in
    let rows = table_done table.number (finished_rows image addresses table.number table.rows) read.item read.here in
    let many = as_many table.number table.rows rows.all
    (rows_done image addresses table.number table.rows rows.all rows.here) in
    let made : Table = table_of table.number rows.all in
    subst (λ ts. rows_among (table ∷ tables) number ≡ rows_in ts number) read.is
    (subst (λ t. rows_among (table ∷ tables) number ≡ rows_in (t ∷ read.more) number) rows.is
    (sym (count_by (table.number == number) (find (λ t. t.number == number) read.more)
    (find (λ t. t.number == number) tables) made table many
    (sym (counts_same image addresses tables read.more number read.rest)))))

same_function : (f g : ℕ → ℕ) → ((n : ℕ) → f n ≡ g n) → f ≡ g
same_function f g h = λ i n. h n i

-- the tables of a module, of rows that fit together
pub whole : (image : Parts) (addresses : List Held) (tables : List RowTable) (done : List Table)
    → finished_tables image addresses tables ≡ Ok done → fit_together tables ≡ true → is_module done ≡ true
unfolding is_module
whole image addresses tables done f h =
    subst (λ counts. are_tables counts held_tables done ≡ true)
    (same_function (rows_among tables) (rows_in done) (λ n. counts_same image addresses tables done n f))
    (tables_fit image addresses (rows_among tables) held_tables tables done f h)

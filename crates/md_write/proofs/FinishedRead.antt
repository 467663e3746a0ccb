-- The tables of rows that were read, finished: they agree with those that were written.
use Rattle.std.proofs.Common.{◌≡◌, ◌∙◌, ℕ, ◌+◌, ◌≤◌, ◌==◌, ◌||◌, Bool, true, false, cond, not, List, [], ◌∷◌, ◌++◌}
use Rattle.std.proofs.Common.{length, drop, replicate, find, ap, refl, sym, subst, arith, inl, inr, Option, Some, None}
use Rattle.std.proofs.Common.{Ok}
use Rattle.std.proofs.Common.{append_assoc}
use Rattle.std.specs.List.{list_all}
use Rattle.std.proofs.lemmas.Bool.{and_parts, eqb-true}
use Rattle.pe_image.specs.Pe.{Parts}
use Rattle.md_rows.specs.declared.cell.Cell.{Cell}
use Rattle.md_rows.specs.declared.row.Row.{Row}
use Rattle.md_rows.specs.declared.schema.Column.TheVariants.{BlobIndex, RowIndex}
use Rattle.md_rows.specs.declared.table.Table.{Table as RowTable}
use Rattle.md_rows.specs.Tables.{TableSchema, tables as schemas}
use Rattle.md_rows.specs.Fits.{are_cells}
use Rattle.md_rows.specs.Reading.{row_of, kept}
use Rattle.md_tables.specs.declared.module.Table.{Table}
use Rattle.md_tables.specs.declared.module.TableRow.{TableRow}
use Rattle.md_tables.specs.Modules.{ModuleParts, columns_of, is_body, is_row, rows_in, is_module}
use Rattle.md_tables.specs.Finished.{addresses_of, plain, method_row, field_row}
use Rattle.md_tables.specs.Finished.{in_front, finished_rows, table_of, tabled, finished_tables}
use Rattle.md_tables.specs.Finished.{module_with, finished}
use Rattle.md_write.specs.Agreeing.{cells_and, RowsAgree, TablesAgree, Agrees}
use Rattle.md_write.specs.Heaps.{own_cells, table_rows}
use Rattle.md_write.specs.Contents.{padding, or_empty, first_bytes, led_to, alignment, part_of, parts_of, address_of}
use Rattle.md_write.specs.Contents.{code_of}
use Rattle.md_write.specs.Rows.{start_of}
use Rattle.md_write.specs.Stream.{code_at, data_at}
use Rattle.md_write.specs.Written.{section_of, image_of}
use Rattle.md_write.specs.Opening.{parts_with}
use Rattle.md_write.proofs.Joined.{length-padded}
use Rattle.md_write.proofs.Standing.{Stands, stands-first, stands-second}
use Rattle.md_write.proofs.Present.{Matches, none, held, skipped, matches_of, rows_of_table}
use Rattle.md_write.proofs.Placed.{IsImage, code_stands, data_stands}
use Rattle.md_write.proofs.Fields.{IsApart, RowsApart, fields_of}
use Rattle.md_write.proofs.RowTables.{read_row, read_rows, read_table, read_tables}
use Rattle.md_write.proofs.Finishing.{Finishes, bare, no_body, method_finishes, HasBytes, has_bytes, field_finishes}

-- ---- rows of one table

-- rows that were finished agree with those that were written
record RowsFinish (image : Parts) (among : Option RowTable) (number : ℕ) (rows : List TableRow) (read : List Row)
    : Type 0 where
  done : List TableRow
  is : finished_rows image (addresses_of image among) number read ≡ Ok done
  agree : RowsAgree number rows done

no_rows : (image : Parts) (among : Option RowTable) (number : ℕ) → RowsFinish image among number [] []
no_rows image among number = record { done = []; is = refl; agree = tt }

one_more : (image : Parts) (among : Option RowTable) (number address : ℕ) (row : TableRow) (rows : List TableRow)
    (others : List Row) → Finishes image among number address row → RowsFinish image among number rows others
    → RowsFinish image among number (row ∷ rows) (row_of address (own_cells number row) ∷ others)
one_more image among number address row rows others one rest =
    record {
      done = one.result ∷ rest.done;
      is = ap (λ r. in_front r (finished_rows image (addresses_of image among) number others)) one.is
          ∙ ap (in_front (Ok one.result)) rest.is;
      agree = (one.agrees, rest.agree);
    }

-- ---- rows that lead to nothing

plain_finishes : (image : Parts) (among : Option RowTable) (number address : ℕ) (row : TableRow)
    → (number == 0x06) ≡ false → (number == 0x1D) ≡ false → is_body number row.body ≡ true
    → Finishes image among number address row
plain_finishes image among number address row p q is =
    let read : Row = row_of address (own_cells number row) in
    let field : TableRow = field_row image (addresses_of image among) read in
    record {
      result = row;
      is = ap (λ b. cond b (method_row image read) (cond (number == 0x1D) (Ok field) (Ok (plain read.cells)))) p
          ∙ (ap (λ b. cond b (Ok field) (Ok (plain read.cells))) q
          ∙ (ap (λ b. Ok (bare (cond b (drop 1 row.cells) row.cells) None)) q
          ∙ ap (λ body. Ok (bare row.cells body)) (sym (no_body number row.body p is))));
      agrees = ([], sym (ap (λ b. cond b (bare (cells_and row.cells []) row.body) row) q));
    }

plain_rows : (image : Parts) (among : Option RowTable) (counts : ℕ → ℕ) (schema : TableSchema) (at : ℕ)
    (rows : List TableRow) → (schema.number == 0x06) ≡ false → (schema.number == 0x1D) ≡ false
    → list_all (is_row counts schema) rows ≡ true
    → RowsFinish image among schema.number rows (read_rows schema at rows)
plain_rows image among counts schema at [] p q fit = no_rows image among schema.number
plain_rows image among counts schema at (row ∷ rest) p q fit =
    let number : ℕ = schema.number in
    let parts = and_parts (is_row counts schema row) (list_all (is_row counts schema) rest) fit in
    let own = and_parts (are_cells counts (columns_of schema) row.cells) (is_body number row.body) parts.0 in
    let next : ℕ = at + length (part_of number row) in
    one_more image among number (read_row schema at row).address row rest (read_rows schema next rest)
    (plain_finishes image among number (read_row schema at row).address row p q own.1)
    (plain_rows image among counts schema next rest p q parts.1)

-- ---- rows that lead to something

-- rows of a table that begin with addresses
abbrev pub reads : ℕ → ℕ → List TableRow → List Row
reads number at [] = []
reads number at (row ∷ rest) =
    row_of (address_of at (led_to number row)) (own_cells number row)
    ∷ reads number (at + length (part_of number row)) rest

reads_are : (schema : TableSchema) (at : ℕ) (rows : List TableRow) → schema.has_address ≡ true
    → read_rows schema at rows ≡ reads schema.number at rows
reads_are schema at [] has = refl
reads_are schema at (row ∷ rest) has =
    let number : ℕ = schema.number in
    let next : ℕ = at + length (part_of number row) in
    let cells : List Cell = own_cells number row in
    ap (λ b. row_of (cond b (address_of at (led_to number row)) 0) cells ∷ read_rows schema next rest) has
    ∙ ap (λ l. row_of (address_of at (led_to number row)) cells ∷ l) (reads_are schema next rest has)

-- what a row leads to stands where its part does
led_stands : (file : List ℕ) (number place : ℕ) (row : TableRow) → Stands file (part_of number row) place
    → Stands file (led_to number row) place
led_stands file number place row h =
    stands-first file (led_to number row) (replicate (padding (alignment number) (length (led_to number row))) 0)
    place h

abbrev AreBodies : List TableRow → Type 0
AreBodies [] = Unit {0}
AreBodies (row ∷ rest) = (is_body 0x06 row.body ≡ true) × AreBodies rest

method_rows : (image : Parts) (among : Option RowTable) (at place : ℕ) (rows : List TableRow)
    → IsImage image.file image.sections → AreBodies rows → at ≡ place + 0x1E00 → 0x200 ≤ place
    → Stands image.file (parts_of 0x06 rows) place → RowsFinish image among 0x06 rows (reads 0x06 at rows)
method_rows image among at place [] one fit here above stands = no_rows image among 0x06
method_rows image among at place (row ∷ rest) one fit here above stands =
    let part : List ℕ = part_of 0x06 row in
    let size : ℕ = length part in
    one_more image among 0x06 (address_of at (or_empty row.body)) row rest (reads 0x06 (at + size) rest)
    (method_finishes image among place at row one here above fit.0
    (led_stands image.file 0x06 place row (stands-first image.file part (parts_of 0x06 rest) place stands)))
    (method_rows image among (at + size) (place + size) rest one fit.1 (omega (arith, here)) (omega (arith, above))
    (stands-second image.file part (parts_of 0x06 rest) place stands))

-- ---- the addresses of the bytes of fields

abbrev AreBelow : ℕ → List Row → Type 0
AreBelow low [] = Unit {0}
AreBelow low (row ∷ rest) = (row.address ≤ low) × AreBelow low rest

below_more : (low high : ℕ) (rows : List Row) → low ≤ high → AreBelow low rows → AreBelow high rows
below_more low high [] le below = tt
below_more low high (row ∷ rest) le below =
    (omega (arith, le, below.0), below_more low high rest le below.1)

below_last : (low : ℕ) (rows : List Row) (row : Row) → row.address ≤ low → AreBelow low rows
    → AreBelow low (rows ++ row ∷ [])
below_last low [] row le below = (le, tt)
below_last low (first ∷ rest) row le below = (below.0, below_last low rest row le below.1)

apart_front : (low high : ℕ) (front behind : List Row) → AreBelow low front → RowsApart low high behind
    → RowsApart low high (front ++ behind)
apart_front low high [] behind below apart = apart
apart_front low high (row ∷ front) behind below apart =
    (inl below.0, apart_front low high front behind below.1 apart)

-- an address is 0 or the place itself
address_low : (at : ℕ) (bytes : List ℕ) → address_of at bytes ≤ at
address_low at bytes = by (length bytes == 0)
  where
    by : (b : Bool) → cond b 0 at ≤ at
    by true = omega arith
    by false = omega arith

address_apart : (low high at : ℕ) (bytes : List ℕ) → high ≤ at → IsApart low high (address_of at bytes)
address_apart low high at bytes le = by (length bytes == 0)
  where
    by : (b : Bool) → IsApart low high (cond b 0 at)
    by true = inl (omega arith)
    by false = inr le

apart_behind : (low high number at : ℕ) (rows : List TableRow) → high ≤ at
    → RowsApart low high (reads number at rows)
apart_behind low high number at [] le = tt
apart_behind low high number at (row ∷ rest) le = (
  address_apart low high at (led_to number row) le,
  apart_behind low high number (at + length (part_of number row)) rest (omega (arith, le)),
)

abbrev HaveBytes : List TableRow → Type 0
HaveBytes [] = Unit {0}
HaveBytes (row ∷ rest) = HasBytes row × HaveBytes rest

-- rows of the bytes of fields, behind others
field_rows : (image : Parts) (all front : List Row) (at place : ℕ) (rows : List TableRow)
    → IsImage image.file image.sections → HaveBytes rows → at ≡ place + 0x1E00 → 0x200 ≤ place
    → Stands image.file (parts_of 0x1D rows) place → AreBelow at front
    → all ≡ front ++ reads 0x1D at rows
    → RowsFinish image (fields_of all) 0x1D rows (reads 0x1D at rows)
field_rows image all front at place [] one has here above stands below same = no_rows image (fields_of all) 0x1D
field_rows image all front at place (row ∷ rest) one has here above stands below same =
    let part : List ℕ = part_of 0x1D row in
    let bytes : List ℕ = first_bytes row.cells in
    let next : ℕ = at + length part in
    let read : Row = row_of (address_of at bytes) (own_cells 0x1D row) in
    let others : List Row = reads 0x1D next rest in
    let long : length part ≡ length bytes + padding 8 (length bytes) = length-padded 8 bytes in
    let low : read.address ≤ at = address_low at bytes in
    let apart : RowsApart at (at + length bytes) (front ++ (read ∷ others)) =
    apart_front at (at + length bytes) front (read ∷ others) below
    (inl low, apart_behind at (at + length bytes) 0x1D next rest (omega (arith, long))) in
    let far : RowsApart at (at + length bytes) all =
    subst (RowsApart at (at + length bytes)) (sym same) apart in
    let on : at ≤ next = omega arith in
    let more : AreBelow next (front ++ read ∷ []) =
    below_more at next (front ++ read ∷ []) on (below_last at front read low below) in
    one_more image (fields_of all) 0x1D (address_of at bytes) row rest others
    (field_finishes image all place at row one here above has.0
    (led_stands image.file 0x1D place row (stands-first image.file part (parts_of 0x1D rest) place stands)) far)
    (field_rows image all (front ++ read ∷ []) next (place + length part) rest one has.1 (omega (arith, here))
    (omega (arith, above)) (stands-second image.file part (parts_of 0x1D rest) place stands) more
    (same ∙ sym (append_assoc front (read ∷ []) others)))

-- ---- what the rows of a module have

bodies_of : (counts : ℕ → ℕ) (schema : TableSchema) (rows : List TableRow) → schema.number ≡ 0x06
    → list_all (is_row counts schema) rows ≡ true → AreBodies rows
bodies_of counts schema [] is fit = tt
bodies_of counts schema (row ∷ rest) is fit =
    let parts = and_parts (is_row counts schema row) (list_all (is_row counts schema) rest) fit in
    let own = and_parts (are_cells counts (columns_of schema) row.cells) (is_body schema.number row.body) parts.0 in
    (ap (λ n. is_body n row.body) (sym is) ∙ own.1, bodies_of counts schema rest is parts.1)

bytes_of : (counts : ℕ → ℕ) (schema : TableSchema) (rows : List TableRow) → schema.number ≡ 0x1D
    → list_all (is_row counts schema) rows ≡ true → HaveBytes rows
bytes_of counts schema [] is fit = tt
bytes_of counts schema (row ∷ rest) is fit =
    let parts = and_parts (is_row counts schema row) (list_all (is_row counts schema) rest) fit in
    let own = and_parts (are_cells counts (columns_of schema) row.cells) (is_body schema.number row.body) parts.0 in
    let columns : are_cells counts (BlobIndex ∷ schema.columns) row.cells ≡ true =
    ap (λ n. are_cells counts (cond (n == 0x1D) (BlobIndex ∷ schema.columns) schema.columns) row.cells) (sym is)
    ∙ own.0 in
    let body : is_body 0x1D row.body ≡ true = ap (λ n. is_body n row.body) (sym is) ∙ own.1 in
    (has_bytes counts schema.columns row columns body, bytes_of counts schema rest is parts.1)

-- ---- tables

-- the tables that lead to something begin their rows with addresses
abbrev tells : TableSchema → Bool
tells schema = schema.has_address || not (schema.number == 0x06 || schema.number == 0x1D)

all_tell : list_all tells schemas ≡ true
unfolding schemas
all_tell = refl

has_by : (b c : Bool) → (b || not c) ≡ true → c ≡ true → b ≡ true
has_by true c told some = refl
has_by false true told some = told
has_by false false told some = some

-- where bodies and the bytes of fields stand
record IsLed (image : Parts) (tables : List Table) : Type 0 where
  one : IsImage image.file image.sections
  bodies : Stands image.file (parts_of 0x06 (table_rows tables 0x06)) 584
  fields : Stands image.file (parts_of 0x1D (table_rows tables 0x1D)) (584 + length (code_of tables))

-- the table of the bytes of fields, as it is read
abbrev fields_in : List Table → Option RowTable
fields_in tables = fields_of (reads 0x1D (data_at tables) (table_rows tables 0x1D))

-- the rows of the table of a schema
table_finishes : (image : Parts) (tables : List Table) (counts : ℕ → ℕ) (schema : TableSchema)
    → IsLed image tables → tells schema ≡ true
    → list_all (is_row counts schema) (table_rows tables schema.number) ≡ true
    → RowsFinish image (fields_in tables) schema.number (table_rows tables schema.number)
    (read_rows schema (start_of code_at (data_at tables) schema.number) (table_rows tables schema.number))
table_finishes image tables counts schema led told fit =
    by (schema.number == 0x06) refl (schema.number == 0x1D) refl
  where
    by : (a : Bool) → (schema.number == 0x06) ≡ a → (b : Bool) → (schema.number == 0x1D) ≡ b
        → RowsFinish image (fields_in tables) schema.number (table_rows tables schema.number)
        (read_rows schema (start_of code_at (data_at tables) schema.number) (table_rows tables schema.number))
    by true p b q =
        let is : schema.number ≡ 0x06 = eqb-true schema.number 0x06 p in
        let has : schema.has_address ≡ true =
        has_by schema.has_address (schema.number == 0x06 || schema.number == 0x1D) told
        (ap (λ c. c || schema.number == 0x1D) p) in
        let rows : RowsFinish image (fields_in tables) 0x06 (table_rows tables 0x06)
        (reads 0x06 (start_of code_at (data_at tables) 0x06) (table_rows tables 0x06)) =
        method_rows image (fields_in tables) code_at 584 (table_rows tables 0x06) led.one
        (subst (λ n. AreBodies (table_rows tables n)) is
        (bodies_of counts schema (table_rows tables schema.number) is fit)) refl (omega arith) led.bodies in
        subst (RowsFinish image (fields_in tables) schema.number (table_rows tables schema.number))
        (sym (reads_are schema (start_of code_at (data_at tables) schema.number) (table_rows tables schema.number) has))
        (subst (λ n. RowsFinish image (fields_in tables) n (table_rows tables n)
        (reads n (start_of code_at (data_at tables) n) (table_rows tables n))) (sym is) rows)
    by false p true q =
        let is : schema.number ≡ 0x1D = eqb-true schema.number 0x1D q in
        let has : schema.has_address ≡ true =
        has_by schema.has_address (schema.number == 0x06 || schema.number == 0x1D) told
        (ap (λ c. c || schema.number == 0x1D) p ∙ q) in
        let place : data_at tables ≡ 584 + length (code_of tables) + 0x1E00 = omega arith in
        let rows : RowsFinish image (fields_in tables) 0x1D (table_rows tables 0x1D)
        (reads 0x1D (start_of code_at (data_at tables) 0x1D) (table_rows tables 0x1D)) =
        field_rows image (reads 0x1D (data_at tables) (table_rows tables 0x1D)) [] (data_at tables)
        (584 + length (code_of tables)) (table_rows tables 0x1D) led.one
        (subst (λ n. HaveBytes (table_rows tables n)) is
        (bytes_of counts schema (table_rows tables schema.number) is fit)) place (omega arith) led.fields tt refl in
        subst (RowsFinish image (fields_in tables) schema.number (table_rows tables schema.number))
        (sym (reads_are schema (start_of code_at (data_at tables) schema.number) (table_rows tables schema.number) has))
        (subst (λ n. RowsFinish image (fields_in tables) n (table_rows tables n)
        (reads n (start_of code_at (data_at tables) n) (table_rows tables n))) (sym is) rows)
    by false p false q =
        plain_rows image (fields_in tables) counts schema (start_of code_at (data_at tables) schema.number)
        (table_rows tables schema.number) p q fit

-- tables that were finished agree with those that were written
record TablesFinish (image : Parts) (among : Option RowTable) (tables : List Table) (read : List RowTable)
    : Type 0 where
  done : List Table
  is : finished_tables image (addresses_of image among) read ≡ Ok done
  agree : TablesAgree tables done

no_tables : (image : Parts) (among : Option RowTable) → TablesFinish image among [] []
no_tables image among = record { done = []; is = refl; agree = tt }

one_table : (image : Parts) (among : Option RowTable) (number : ℕ) (table : Table) (tables : List Table)
    (read : List Row) (others : List RowTable) → number ≡ table.number → RowsFinish image among number table.rows read
    → TablesFinish image among tables others
    → TablesFinish image among (table ∷ tables) (record { number = number; rows = read } ∷ others)
one_table image among number table tables read others same rows rest =
    record {
      done = table_of number rows.done ∷ rest.done;
      is = ap (λ r. in_front (tabled number r) (finished_tables image (addresses_of image among) others)) rows.is
          ∙ ap (in_front (Ok (table_of number rows.done))) rest.is;
      agree = (
        record { number = same; rows = subst (λ n. RowsAgree n table.rows rows.done) same rows.agree },
        rest.agree,
      );
    }

tables_finish : (image : Parts) (tables : List Table) (counts : ℕ → ℕ) (list : List TableSchema)
    (more : List Table) → IsLed image tables → list_all tells list ≡ true → Matches counts tables list more
    → TablesFinish image (fields_in tables) more (read_tables tables list)
tables_finish image tables counts _ _ led told none = no_tables image (fields_in tables)
tables_finish image tables counts _ _ led told (held schema table list more is fits found behind) =
    let parts = and_parts (tells schema) (list_all tells list) told in
    let number : ℕ = schema.number in
    let read : List Row = read_rows schema (start_of code_at (data_at tables) number) (table_rows tables number) in
    let others : List RowTable = read_tables tables list in
    let same : number ≡ table.number =
    sym (eqb-true table.number number (and_parts (table.number == number) _ fits).0) in
    let fit : list_all (is_row counts schema) (table_rows tables number) ≡ true =
    ap (list_all (is_row counts schema)) found ∙ rows_of_table counts schema table fits in
    let rows : RowsFinish image (fields_in tables) number table.rows read =
    subst (λ r. RowsFinish image (fields_in tables) number r read) found
    (table_finishes image tables counts schema led parts.0 fit) in
    let whole : TablesFinish image (fields_in tables) (table ∷ more) (read_table tables schema ∷ others) =
    one_table image (fields_in tables) number table more read others same rows
    (tables_finish image tables counts list more led parts.1 behind) in
    subst (λ b. TablesFinish image (fields_in tables) (table ∷ more) (kept b (read_table tables schema) ++ others))
    (sym is) whole
tables_finish image tables counts _ _ led told (skipped schema list more is found behind) =
    let parts = and_parts (tells schema) (list_all tells list) told in
    let others : List RowTable = read_tables tables list in
    subst (λ b. TablesFinish image (fields_in tables) more (kept b (read_table tables schema) ++ others)) (sym is)
    (tables_finish image tables counts list more led parts.1 behind)

-- ---- the module

-- the schema of the bytes of fields
abbrev field_schema : TableSchema
field_schema = record { number = 0x1D; is_held = true; has_address = true; columns = RowIndex 0x04 ∷ [] }

found_first : (tables : List Table)
    → find (λ (table : RowTable). table.number == 0x1D) (read_tables tables schemas)
    ≡ Some (read_table tables field_schema)
unfolding schemas
found_first tables = refl

found_fields : (tables : List Table)
    → find (λ (table : RowTable). table.number == 0x1D) (read_tables tables schemas) ≡ fields_in tables
found_fields tables =
    found_first tables ∙ ap fields_of (reads_are field_schema (data_at tables) (table_rows tables 0x1D) refl)

-- a module that was read agrees with the one that was written
pub record Finished (entry : ℕ) (user : List ℕ) (tables : List Table) : Type 0 where
  pub read : ModuleParts
  pub is : finished (parts_with entry user tables) (Ok (read_tables tables schemas)) ≡ Ok read
  pub agrees : Agrees (record { entry = entry; user = user; tables = tables }) read

led_by : (entry : ℕ) (user : List ℕ) (tables : List Table)
    → IsImage (parts_with entry user tables).file (parts_with entry user tables).sections
    → IsLed (parts_with entry user tables) tables
unfolding image_of
led_by entry user tables one =
    record {
      one = one;
      bodies = stands-first (image_of entry user tables) (parts_of 0x06 (table_rows tables 0x06))
          (replicate (padding 8 (length (parts_of 0x06 (table_rows tables 0x06)))) 0) 584
          (code_stands (section_of entry user tables));
      fields = data_stands (section_of entry user tables);
    }

pub finished_read : (entry : ℕ) (user : List ℕ) (tables : List Table) → is_module tables ≡ true
    → IsImage (parts_with entry user tables).file (parts_with entry user tables).sections → Finished entry user tables
finished_read entry user tables fit one =
    let image : Parts = parts_with entry user tables in
    let read : List RowTable = read_tables tables schemas in
    let done : TablesFinish image (fields_in tables) tables read =
    tables_finish image tables (rows_in tables) schemas tables (led_by entry user tables one) all_tell
    (matches_of tables fit) in
    record {
      read = record { entry = entry; user = user; tables = done.done };
      is = ap (λ t. module_with image (finished_tables image (addresses_of image t) read)) (found_fields tables)
          ∙ ap (module_with image) done.is;
      agrees = record { entry = refl; user = refl; tables = done.agree };
    }

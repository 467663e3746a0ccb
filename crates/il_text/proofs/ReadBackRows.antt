-- The rows of tables are read back from their lines.
use Rattle.std.proofs.Common.{◌≡◌, ◌∙◌, ℕ, suc, ◌+◌, ◌^◌, ◌<◌, ◌≤◌, Bool, true, false, cond, nat_eq, nat_lt, nat_le}
use Rattle.std.proofs.Common.{◌&&◌, List, [], ◌∷◌, ◌++◌, length, map, slice_get, codes, find, Option, Some, None}
use Rattle.std.proofs.Common.{option_map, option_and_then, option_to_list, Ok, refl, ap, sym, subst, arith}
use Rattle.std.proofs.Common.{append_assoc, decimal}
use Rattle.std.proofs.lemmas.Bool.{and_parts, and_right, eqb-true, false≢true, leb-true, le-leb, ltb-true}
use Rattle.std.proofs.lemmas.List.{append-nil, length-map, map-append}
use Rattle.std.specs.List.{list_all, flat_map, AllByRecursion}
use Rattle.std.proofs.lemmas.List.Elements.{recursion_from_All}
use Rattle.il_code.specs.Headers.{body_length}
use Rattle.md_rows.specs.declared.cell.Cell.{Cell}
use Rattle.md_rows.specs.declared.cell.Cell.TheVariants.{Number as NumberCell, Name as NameCell, Blob as BlobCell}
use Rattle.md_rows.specs.declared.cell.Cell.TheVariants.{Index as IndexCell, Coded as CodedCell}
use Rattle.md_rows.specs.declared.schema.Column.{Column}
use Rattle.md_rows.specs.declared.schema.Column.TheVariants.{U8, U16, U32, StringIndex, GuidIndex, BlobIndex}
use Rattle.md_rows.specs.declared.schema.Column.TheVariants.{RowIndex, RunIndex, CodedIndex}
use Rattle.md_rows.specs.Fits.{is_cell, are_cells, rise, first_row, held_tables}
use Rattle.md_rows.specs.Tables.{TableSchema, tables}
use Rattle.md_tables.specs.declared.module.TableRow.{TableRow}
use Rattle.md_tables.specs.declared.module.Table.{Table}
use Rattle.md_tables.specs.Modules.{columns_of, is_length, is_body as may_have, is_row, is_table, are_tables}
use Rattle.il_text.specs.declared.draft.Draft.{Draft}
use Rattle.il_text.specs.declared.draft.DraftCell.{DraftCell}
use Rattle.il_text.specs.declared.draft.DraftRow.{DraftRow}
use Rattle.il_text.specs.declared.draft.Value.{Value}
use Rattle.il_text.specs.declared.draft.Value.TheVariants.{Number, Name, Blob, Index, Coded}
use Rattle.il_text.specs.Words.{table_word}
use Rattle.il_text.specs.Ranges.{CellInRange, BodyInRange, RowInRange, TableInRange}
use Rattle.il_text.specs.Listing.{cell_word, body_lines, row_line, row_lines, table_lines}
use Rattle.il_text.specs.Lines.{LineParts, column_of, word_at}
use Rattle.il_text.specs.Values.{byte_in, number_below}
use Rattle.il_text.specs.Reading.{◌>>=◌, or_bad, read, ends, keyword, coded, value_in, cell_in, cells_from}
use Rattle.il_text.specs.Reading.{held_from}
use Rattle.il_text.specs.Reading.{row_of_table, table_of_last, with_row, awaits_body, with_header, with_line, line_of}
use Rattle.il_text.specs.Assembling.{cell_of, table_row}
use Rattle.il_text.proofs.ReadBackBodies.{draft_of, body_leads}
use Rattle.il_text.proofs.ReadBackLines.{IsWord, AreWords, Says, says, Leads, one_line, no_line, both_lines, line_bytes}
use Rattle.il_text.proofs.ReadBackLines.{worded, first_is, keyed, read_at, ended_at, bound, inner_word}
use Rattle.il_text.proofs.ReadBackValues.{number_back, bytes_back, name_back, row_back, byte_back}
use Rattle.il_text.proofs.ReadBackWords.{decimal_word, bytes_are_word, name_is_word, row_is_word, table_is_word}

abbrev CellsInRange : List Cell → Type 0
CellsInRange cells = AllByRecursion CellInRange cells

-- ---- cells

-- a value that was read of the word of a cell, and is that cell
record ValueRead (column : Column) (cell : Cell) : Type 0 where
  value : Value
  reads : value_in column (cell_word cell) ≡ Some value
  same : cell_of value ≡ cell

number_value : (bound n : ℕ) → nat_lt n bound ≡ true → n < 2 ^ 32
    → option_map Number (number_below bound (decimal n)) ≡ Some (Number n)
number_value bound n less small =
    ap (option_map Number) (number_back bound n (ltb-true n bound less) (omega (arith, small)))

index_value : (n : ℕ) → n < 2 ^ 32 → option_map Index (number_below (2 ^ 32) (decimal n)) ≡ Some (Index n)
index_value n small = ap (option_map Index) (number_back (2 ^ 32) n small (omega (arith, small)))

value_back : (rows : ℕ → ℕ) (column : Column) (cell : Cell) → is_cell rows column cell ≡ true → CellInRange cell
    → ValueRead column cell
value_back rows U8 (NumberCell n) is fit =
    record { value = Number n; reads = number_value 0x100 n is fit; same = refl }
value_back rows U8 cell is fit = absurd (false≢true is)
value_back rows U16 (NumberCell n) is fit =
    record { value = Number n; reads = number_value 0x1_0000 n is fit; same = refl }
value_back rows U16 cell is fit = absurd (false≢true is)
value_back rows U32 (NumberCell n) is fit =
    record { value = Number n; reads = number_value 0x1_0000_0000 n is fit; same = refl }
value_back rows U32 cell is fit = absurd (false≢true is)
value_back rows StringIndex (NameCell text) is fit =
    record { value = Name text; reads = ap (option_map Name) (name_back text fit); same = refl }
value_back rows StringIndex cell is fit = absurd (false≢true is)
value_back rows GuidIndex (BlobCell bytes) is fit =
    record { value = Blob bytes; reads = ap (option_map Blob) (bytes_back bytes fit); same = refl }
value_back rows GuidIndex cell is fit = absurd (false≢true is)
value_back rows BlobIndex (BlobCell bytes) is fit =
    record { value = Blob bytes; reads = ap (option_map Blob) (bytes_back bytes fit); same = refl }
value_back rows BlobIndex cell is fit = absurd (false≢true is)
value_back rows (RowIndex table) (IndexCell n) is fit =
    record { value = Index n; reads = index_value n fit; same = refl }
value_back rows (RowIndex table) cell is fit = absurd (false≢true is)
value_back rows (RunIndex table) (IndexCell n) is fit =
    record { value = Index n; reads = index_value n fit; same = refl }
value_back rows (RunIndex table) cell is fit = absurd (false≢true is)
value_back rows (CodedIndex coding) (CodedCell table n) is fit =
    record { value = Coded table n; reads = ap (option_map coded) (row_back table n fit.0 fit.1); same = refl }
value_back rows (CodedIndex coding) cell is fit = absurd (false≢true is)

cell_is_word : (cell : Cell) → CellInRange cell → IsWord (cell_word cell)
cell_is_word (NumberCell number) fit = decimal_word number (omega (arith, fit))
cell_is_word (NameCell text) fit = name_is_word text fit
cell_is_word (BlobCell bytes) fit = bytes_are_word bytes fit
cell_is_word (IndexCell row) fit = decimal_word row (omega (arith, fit))
cell_is_word (CodedCell table row) fit = row_is_word table row fit.0 (omega (arith, fit.1))

cells_are_words : (cells : List Cell) → CellsInRange cells → AreWords (map cell_word cells)
cells_are_words [] fit = tt
cells_are_words (cell ∷ cells) fit = (cell_is_word cell fit.0, cells_are_words cells fit.1)

-- the cells of columns, and that they are those which are meant
record CellsRead (line : LineParts) (index : ℕ) (columns : List Column) (cells : List Cell) : Type 0 where
  found : List DraftCell
  reads : cells_from line index columns ≡ Ok found
  same : map (λ (cell : DraftCell). cell_of cell.value) found ≡ cells

cells_back : (rows : ℕ → ℕ) (columns : List Column) (cells : List Cell) (line : LineParts) (index : ℕ)
    → are_cells rows columns cells ≡ true → CellsInRange cells
    → ((j : ℕ) → word_at line (index + j) ≡ slice_get (map cell_word cells) j) → CellsRead line index columns cells
cells_back rows [] [] line index are fit there = record { found = []; reads = refl; same = refl }
cells_back rows [] (cell ∷ cells) line index are fit there = absurd (false≢true are)
cells_back rows (column ∷ columns) [] line index are fit there = absurd (false≢true are)
cells_back rows (column ∷ columns) (cell ∷ cells) line index are fit there =
    let parts = and_parts (is_cell rows column cell) (are_cells rows columns cells) are in
    let first : ValueRead column cell = value_back rows column cell parts.0 fit.0 in
    let here : index ≡ index + 0 = omega arith in
    let rest : CellsRead line (index + 1) columns cells =
    cells_back rows columns cells line (index + 1) parts.1 fit.1
    (λ j. let on : index + 1 + j ≡ index + suc j = omega arith in ap (word_at line) on ∙ there (suc j)) in
    let made : Value → DraftCell = λ (value : Value). record { column = column_of line index; value = value } in
    record {
      found = made first.value ∷ rest.found;
      reads =
          bound (cell_in line index column) (made first.value)
          (λ cell. cells_from line (index + 1) columns >>= (λ cells. Ok (cell ∷ cells)))
          (Ok (made first.value ∷ rest.found))
          (bound (read (value_in column) line index) first.value (λ value. Ok (made value)) (Ok (made first.value))
          (ap (λ o. or_bad line index (option_and_then (value_in column) o)) (ap (word_at line) here ∙ there 0)
          ∙ ap (or_bad line index) first.reads) refl)
          (ap (λ r. r >>= (λ cells. Ok (made first.value ∷ cells))) rest.reads);
      same =
          ap (λ c. c ∷ map (λ (cell : DraftCell). cell_of cell.value) rest.found) first.same
          ∙ ap (λ cs. cell ∷ cs) rest.same;
    }

length-cells : (rows : ℕ → ℕ) (columns : List Column) (cells : List Cell) → are_cells rows columns cells ≡ true
    → length cells ≡ length columns
length-cells rows [] [] are = refl
length-cells rows [] (cell ∷ cells) are = absurd (false≢true are)
length-cells rows (column ∷ columns) [] are = absurd (false≢true are)
length-cells rows (column ∷ columns) (cell ∷ cells) are =
    ap suc (length-cells rows columns cells (and_parts (is_cell rows column cell) (are_cells rows columns cells) are).1)

-- ---- the line of a row

-- the table of a number is found, and held
abbrev pub IsFound : TableSchema → Type 0
IsFound schema =
    find (λ (other : TableSchema). nat_eq other.number schema.number && other.is_held) tables ≡ Some schema

record RowRead (entry : ℕ) (user : List ℕ) (rows : List DraftRow) (last : Option DraftRow) (schema : TableSchema)
    (row : TableRow) (number : ℕ) : Type 0 where
  cells : List DraftCell
  reads : with_line (draft_of entry user rows last None)
      (line_of number (line_bytes (row_line schema.number row)))
      ≡ Ok (draft_of entry user (rows ++ option_to_list last)
      (Some (record { table = schema.number; line = number; cells = cells; body = None })) None)
  same : map (λ (cell : DraftCell). cell_of cell.value) cells ≡ row.cells

row_words : (schema : TableSchema) (row : TableRow) → schema.number < 256 → CellsInRange row.cells
    → AreWords (row_line schema.number row)
row_words schema row small fit = (
  inner_word (codes ".row") (omega arith) refl,
  (table_is_word schema.number small, cells_are_words row.cells fit),
)

row_step : (entry : ℕ) (user : List ℕ) (rows : List DraftRow) (last : Option DraftRow) (schema : TableSchema)
    (row : TableRow) (number : ℕ) (counts : ℕ → ℕ) → IsFound schema → table_of_last last ≤ schema.number
    → schema.number < 256 → are_cells counts (columns_of schema) row.cells ≡ true → CellsInRange row.cells
    → RowRead entry user rows last schema row number
row_step entry user rows last schema row number counts found low small are fit =
    let draft : Draft = draft_of entry user rows last None in
    let words : List (List ℕ) = row_line schema.number row in
    let rest : List (List ℕ) = table_word schema.number ∷ map cell_word row.cells in
    let line : LineParts = line_of number (line_bytes words) in
    let s : Says line words = says number words (row_words schema row small fit) in
    let cells : CellsRead line 2 (columns_of schema) row.cells =
    cells_back counts (columns_of schema) row.cells line 2 are fit
    (λ j. let on : 2 + j ≡ suc (suc j) = omega arith in ap (word_at line) on ∙ s.word (suc (suc j))) in
    let made : DraftRow =
    record { table = schema.number; line = number; cells = cells.found; body = None } in
    let next : Draft = draft_of entry user (rows ++ option_to_list last) (Some made) None in
    let table : option_and_then (held_from (table_of_last last)) (byte_in (table_word schema.number)) ≡ Some schema =
    ap (option_and_then (held_from (table_of_last last))) (byte_back schema.number small)
    ∙ ap (λ b. cond b (find (λ (other : TableSchema). nat_eq other.number schema.number && other.is_held) tables) None)
    (le-leb (table_of_last last) schema.number low) ∙ found in
    let size : length words ≡ 2 + length (columns_of schema) =
    omega (arith, length-map row.cells cell_word, length-cells counts (columns_of schema) row.cells are) in
    record {
      cells = cells.found;
      reads =
          worded draft line words s (omega arith)
          ∙ ap (λ b. cond (awaits_body last && b) (with_header draft line) (with_row draft line))
          (first_is (codes ".body") (codes ".row") rest line s)
          ∙ ap (λ b. cond b (with_header draft line) (with_row draft line)) (and_right (awaits_body last) false refl)
          ∙ bound (keyword (codes ".row") line) tt
          (λ named. read (λ word. option_and_then (held_from (table_of_last last)) (byte_in word)) line 1
          >>= (λ schema. row_of_table line schema >>= (λ row. Ok (draft_of entry user (rows ++ option_to_list last)
          (Some row) None)))) (Ok next)
          (keyed (codes ".row") (codes ".row") rest line s refl)
          (bound (read (λ word. option_and_then (held_from (table_of_last last)) (byte_in word)) line 1) schema
          (λ schema. row_of_table line schema >>= (λ row. Ok (draft_of entry user (rows ++ option_to_list last)
          (Some row) None))) (Ok next)
          (read_at (λ word. option_and_then (held_from (table_of_last last)) (byte_in word)) line words 1
          (table_word schema.number) schema s refl table)
          (bound (row_of_table line schema) made
          (λ row. Ok (draft_of entry user (rows ++ option_to_list last) (Some row) None)) (Ok next)
          (bound (cells_from line 2 (columns_of schema)) cells.found
          (λ cells. ends line (2 + length (columns_of schema))
          >>= (λ done. Ok (record { table = schema.number; line = number; cells = cells; body = None }))) (Ok made)
          cells.reads
          (ap (λ r. r >>= (λ done. Ok made)) (ended_at line words (2 + length (columns_of schema)) s size))) refl));
      same = cells.same;
    }

-- ---- a row with its body

record RowLead (entry : ℕ) (user : List ℕ) (rows : List DraftRow) (last : Option DraftRow) (schema : TableSchema)
    (row : TableRow) (number : ℕ) : Type 0 where
  made : DraftRow
  leads : Leads (draft_of entry user rows last None) number (row_lines schema.number row)
      (draft_of entry user (rows ++ option_to_list last) (Some made) None)
  table : made.table ≡ schema.number
  same : table_row made ≡ row

row_lead_by : (entry : ℕ) (user : List ℕ) (rows : List DraftRow) (last : Option DraftRow) (schema : TableSchema)
    (cells : List Cell) (body : Option (List ℕ)) (number : ℕ) → may_have schema.number body ≡ true
    → schema.number < 256 → CellsInRange cells → BodyInRange body
    → RowRead entry user rows last schema (record { cells = cells; body = body }) number
    → RowLead entry user rows last schema (record { cells = cells; body = body }) number
row_lead_by entry user rows last schema cells None number may small fit body_fit r =
    let row : TableRow = record { cells = cells; body = None } in
    let made : DraftRow = record { table = schema.number; line = number; cells = r.cells; body = None } in
    let next : Draft = draft_of entry user (rows ++ option_to_list last) (Some made) None in
    record {
      made = made;
      leads =
          one_line (draft_of entry user rows last None) next number (row_line schema.number row)
          (row_words schema row small fit) r.reads;
      table = refl;
      same = ap (λ cells. record { cells = cells; body = None }) r.same;
    }
row_lead_by entry user rows last schema cells (Some body) number may small fit body_fit r =
    let row : TableRow = record { cells = cells; body = Some body } in
    let bare : DraftRow = record { table = schema.number; line = number; cells = r.cells; body = None } in
    let made : DraftRow = record { table = schema.number; line = number; cells = r.cells; body = Some body } in
    let mid : Draft = draft_of entry user (rows ++ option_to_list last) (Some bare) None in
    let next : Draft = draft_of entry user (rows ++ option_to_list last) (Some made) None in
    let parts = and_parts (nat_eq schema.number 0x06) (is_length (length body) (body_length body)) may in
    record {
      made = made;
      leads =
          both_lines (draft_of entry user rows last None) mid next number (row_line schema.number row ∷ [])
          (body_lines (Some body))
          (one_line (draft_of entry user rows last None) mid number (row_line schema.number row)
          (row_words schema row small fit) r.reads)
          (body_leads entry user (rows ++ option_to_list last) bare body (number + 1)
          (eqb-true schema.number 0x06 parts.0) refl body_fit parts.1);
      table = refl;
      same = ap (λ cells. record { cells = cells; body = Some body }) r.same;
    }

row_lead : (entry : ℕ) (user : List ℕ) (rows : List DraftRow) (last : Option DraftRow) (schema : TableSchema)
    (row : TableRow) (number : ℕ) (counts : ℕ → ℕ) → IsFound schema → table_of_last last ≤ schema.number
    → schema.number < 256 → is_row counts schema row ≡ true → RowInRange row
    → RowLead entry user rows last schema row number
row_lead entry user rows last schema row number counts found low small is fit =
    let cells : CellsInRange row.cells = recursion_from_All CellInRange row.cells fit.0 in
    let parts = and_parts (are_cells counts (columns_of schema) row.cells) (may_have schema.number row.body) is in
    row_lead_by entry user rows last schema row.cells row.body number parts.1 small cells fit.1
    (row_step entry user rows last schema row number counts found low small parts.0 cells)

-- ---- the rows of a table

-- a row of a draft without its places
abbrev pub tagged : ℕ → TableRow → ℕ × TableRow
tagged table row = (table, row)

abbrev pub bare_row : DraftRow → ℕ × TableRow
bare_row row = (row.table, table_row row)

pub record RowsLead (entry : ℕ) (user : List ℕ) (rows : List DraftRow) (last : Option DraftRow) (number most : ℕ)
    (lines : List (List (List ℕ))) (listed : List (ℕ × TableRow)) : Type 0 where
  pub read : List DraftRow
  pub final : Option DraftRow
  pub leads : Leads (draft_of entry user rows last None) number lines (draft_of entry user read final None)
  pub low : table_of_last final ≤ most
  pub same : map bare_row (read ++ option_to_list final) ≡ map bare_row (rows ++ option_to_list last) ++ listed

bare_same : (made : DraftRow) (table : ℕ) (row : TableRow) → made.table ≡ table → table_row made ≡ row
    → bare_row made ≡ tagged table row
bare_same made table row e f = ap (λ n. tagged n (table_row made)) e ∙ ap (tagged table) f

rows_lead : (entry : ℕ) (user : List ℕ) (schema : TableSchema) (counts : ℕ → ℕ) → IsFound schema
    → schema.number < 256 → (list : List TableRow) (rows : List DraftRow) (last : Option DraftRow) (number : ℕ)
    → table_of_last last ≤ schema.number → list_all (is_row counts schema) list ≡ true → AllByRecursion RowInRange list
    → RowsLead entry user rows last number schema.number (flat_map (row_lines schema.number) list)
    (map (tagged schema.number) list)
rows_lead entry user schema counts found small [] rows last number low all fit = record {
  read = rows;
  final = last;
  leads = no_line (draft_of entry user rows last None) number;
  low = low;
  same = sym (append-nil (map bare_row (rows ++ option_to_list last)));
}
rows_lead entry user schema counts found small (row ∷ list) rows last number low all fit =
    let parts = and_parts (is_row counts schema row) (list_all (is_row counts schema) list) all in
    let first : RowLead entry user rows last schema row number =
    row_lead entry user rows last schema row number counts found low small parts.0 fit.0 in
    let before : List DraftRow = rows ++ option_to_list last in
    let made : DraftRow = first.made in
    let lines : List (List (List ℕ)) = row_lines schema.number row in
    let rest : RowsLead entry user before (Some made) (number + length lines) schema.number
    (flat_map (row_lines schema.number) list) (map (tagged schema.number) list) =
    rows_lead entry user schema counts found small list before (Some made) (number + length lines)
    (omega (arith, first.table)) parts.1 fit.1 in
    record {
      read = rest.read;
      final = rest.final;
      leads =
          both_lines (draft_of entry user rows last None) (draft_of entry user before (Some made) None)
          (draft_of entry user rest.read rest.final None) number lines (flat_map (row_lines schema.number) list)
          first.leads rest.leads;
      low = rest.low;
      same =
          rest.same
          ∙ ap (λ front. front ++ map (tagged schema.number) list)
          (map-append bare_row before (made ∷ [])
          ∙ ap (λ one. map bare_row before ++ one ∷ []) (bare_same made schema.number row first.table first.same))
          ∙ append_assoc (map bare_row before) (tagged schema.number row ∷ []) (map (tagged schema.number) list);
    }

-- ---- tables

-- the rows of tables, each with the number of its table
abbrev pub table_rows : Table → List (ℕ × TableRow)
table_rows table = map (tagged table.number) table.rows

abbrev pub AreFound : List TableSchema → Type 0
AreFound [] = Unit {0}
AreFound (schema ∷ schemas) = IsFound schema × AreFound schemas

-- tables in the order of their numbers, from a number on
abbrev pub rise_from : ℕ → List TableSchema → Bool
rise_from least [] = true
rise_from least (schema ∷ schemas) = nat_le least schema.number && rise_from (suc schema.number) schemas

pub held_found : AreFound held_tables
unfolding held_tables tables
held_found = (
  refl,
  (
    refl,
    (
      refl,
      (
        refl,
        (
          refl,
          (
            refl,
            (
              refl,
              (
                refl,
                (
                  refl,
                  (
                    refl,
                    (
                      refl,
                      (
                        refl,
                        (
                          refl,
                          (
                            refl,
                            (
                              refl,
                              (
                                refl,
                                (refl, (refl, (refl, (refl, (refl, tt))))),
                              ),
                            ),
                          ),
                        ),
                      ),
                    ),
                  ),
                ),
              ),
            ),
          ),
        ),
      ),
    ),
  ),
)

pub held_rise : rise_from 0 held_tables ≡ true
unfolding held_tables tables
held_rise = refl

-- what is known of the first of tables
pub record Heads (counts : ℕ → ℕ) (least : ℕ) (schema : TableSchema) (schemas : List TableSchema) (table : Table)
    (list : List Table) : Type 0 where
  pub number : table.number ≡ schema.number
  pub low : least ≤ schema.number
  pub rises : rise_from (suc schema.number) schemas ≡ true
  pub rest : are_tables counts schemas list ≡ true
  pub all : list_all (is_row counts schema) table.rows ≡ true
  pub up : rise (columns_of schema) (first_row (map (λ row. row.cells) table.rows)) (map (λ row. row.cells) table.rows)
      ≡ true

pub heads : (counts : ℕ → ℕ) (least : ℕ) (schema : TableSchema) (schemas : List TableSchema) (table : Table)
    (list : List Table) → are_tables counts (schema ∷ schemas) (table ∷ list) ≡ true
    → rise_from least (schema ∷ schemas) ≡ true → Heads counts least schema schemas table list
heads counts least schema schemas table list are rises =
    let behind : Bool =
    rise (columns_of schema) (first_row (map (λ row. row.cells) table.rows)) (map (λ row. row.cells) table.rows) in
    let both = and_parts (is_table counts schema table) (are_tables counts schemas list) are in
    let parts = and_parts (nat_eq table.number schema.number)
    (list_all (is_row counts schema) table.rows && behind) both.0 in
    let rows = and_parts (list_all (is_row counts schema) table.rows) behind parts.1 in
    let climb = and_parts (nat_le least schema.number) (rise_from (suc schema.number) schemas) rises in
    record {
      number = eqb-true table.number schema.number parts.0;
      low = leb-true least schema.number climb.0;
      rises = climb.1;
      rest = both.1;
      all = rows.0;
      up = rows.1;
    }

tables_lead : (entry : ℕ) (user : List ℕ) (counts : ℕ → ℕ) (schemas : List TableSchema) (list : List Table)
    (rows : List DraftRow) (last : Option DraftRow) (number least : ℕ) → AreFound schemas
    → rise_from least schemas ≡ true → table_of_last last ≤ least → are_tables counts schemas list ≡ true
    → AllByRecursion TableInRange list
    → (most : ℕ) × RowsLead entry user rows last number most (flat_map table_lines list) (flat_map table_rows list)
tables_lead entry user counts [] [] rows last number least found rise low are fit = (
  least,
  record {
    read = rows;
    final = last;
    leads = no_line (draft_of entry user rows last None) number;
    low = low;
    same = sym (append-nil (map bare_row (rows ++ option_to_list last)));
  },
)
tables_lead entry user counts [] (table ∷ list) rows last number least found rise low are fit = absurd (false≢true are)
tables_lead entry user counts (schema ∷ schemas) [] rows last number least found rise low are fit =
    absurd (false≢true are)
tables_lead entry user counts (schema ∷ schemas) (table ∷ list) rows last number least found rise low are fit =
    let h : Heads counts least schema schemas table list = heads counts least schema schemas table list are rise in
    let same : table.number ≡ schema.number = h.number in
    let own : RowsLead entry user rows last number schema.number (flat_map (row_lines schema.number) table.rows)
    (map (tagged schema.number) table.rows) =
    rows_lead entry user schema counts found.0 (omega (arith, same, fit.0.0)) table.rows rows last number
    (omega (arith, low, h.low)) h.all (recursion_from_All RowInRange table.rows fit.0.1) in
    let first : RowsLead entry user rows last number schema.number (table_lines table) (table_rows table) =
    subst (λ n. RowsLead entry user rows last number schema.number (flat_map (row_lines n) table.rows)
    (map (tagged n) table.rows)) (sym same) own in
    let lines : List (List (List ℕ)) = table_lines table in
    let rest : (most : ℕ) × RowsLead entry user first.read first.final (number + length lines) most
    (flat_map table_lines list) (flat_map table_rows list) =
    tables_lead entry user counts schemas list first.read first.final (number + length lines) (suc schema.number)
    found.1 h.rises (omega (arith, first.low)) h.rest fit.1 in (
      rest.0,
      record {
        read = rest.1.read;
        final = rest.1.final;
        leads =
            both_lines (draft_of entry user rows last None) (draft_of entry user first.read first.final None)
            (draft_of entry user rest.1.read rest.1.final None) number lines (flat_map table_lines list)
            first.leads rest.1.leads;
        low = rest.1.low;
        same =
            rest.1.same ∙ ap (λ front. front ++ flat_map table_rows list) first.same
            ∙ append_assoc (map bare_row (rows ++ option_to_list last)) (table_rows table) (flat_map table_rows list);
      },
    )

pub rows_read : (entry : ℕ) (user : List ℕ) (counts : ℕ → ℕ) (list : List Table) (number : ℕ)
    → are_tables counts held_tables list ≡ true → AllByRecursion TableInRange list
    → (most : ℕ) × RowsLead entry user [] None number most (flat_map table_lines list) (flat_map table_rows list)
rows_read entry user counts list number are fit =
    tables_lead entry user counts held_tables list [] None number 0 held_found held_rise (omega arith) are fit

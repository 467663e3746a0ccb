-- What a text means is a module.
use Rattle.std.proofs.Common.{◌≡◌, ◌∙◌, ℕ, suc, Bool, true, false, cond, nat_eq, nat_le, ◌&&◌, List, [], ◌∷◌}
use Rattle.std.proofs.Common.{◌++◌, length}
use Rattle.std.proofs.Common.{map, drop, codes, find, Option, Some, None, option_map, option_to_list, Result, Ok, Err}
use Rattle.std.proofs.Common.{is_none, refl, ap, sym, subst, arith, eqb-true, eq-eqb}
use Rattle.std.proofs.lemmas.Bool.{and_parts, and_from, le-leb, false≢true}
use Rattle.std.specs.List.{list_all, filter, AllByRecursion}
use Rattle.std.specs.Option.{option_or}
use Rattle.il_code.specs.Headers.{header_of, body_length}
use Rattle.md_rows.specs.declared.cell.Cell.{Cell}
use Rattle.md_rows.specs.declared.cell.Cell.TheVariants.{Index as IndexCell}
use Rattle.md_rows.specs.declared.schema.Column.{Column}
use Rattle.md_rows.specs.declared.schema.Column.TheVariants.{RunIndex}
use Rattle.md_rows.specs.Fits.{is_cell, is_behind, are_cells, are_behind, rise, first_row, held_tables}
use Rattle.md_rows.specs.Tables.{TableSchema, tables}
use Rattle.md_tables.specs.Modules.{columns_of, is_length, is_body as may_have, is_row, is_table, are_tables, is_module}
use Rattle.md_tables.specs.Modules.{rows_in}
use Rattle.md_tables.specs.declared.module.TableRow.{TableRow}
use Rattle.il_text.specs.declared.draft.Draft.{Draft}
use Rattle.il_text.specs.declared.draft.DraftCell.{DraftCell}
use Rattle.il_text.specs.declared.draft.DraftRow.{DraftRow}
use Rattle.il_text.specs.declared.draft.OpenBody.{OpenBody}
use Rattle.il_text.specs.declared.fault.IlTextFault.{IlTextFault}
use Rattle.il_text.specs.Assembling.{cell_of, table_row, rows_of_table, table_of, tables_of, is_behind_first, is_right}
use Rattle.il_text.specs.Assembling.{wrong_cell, at_line, wrong_row, wrong_in_table, wrong_in_tables, first_wrong}
use Rattle.il_text.proofs.ReadBackRows.{AreFound, held_found}

-- ---- rows of a table

-- a row with a cell for each column of its table, and a body only if it may have it
pub record IsSound (row : DraftRow) : Type 0 where
  pub schema : TableSchema
  pub found : find (λ (other : TableSchema). nat_eq other.number row.table && other.is_held) tables ≡ Some schema
  pub size : length row.cells ≡ length (columns_of schema)
  pub body : may_have row.table row.body ≡ true

record IsSoundIn (schema : TableSchema) (row : DraftRow) : Type 0 where
  size : length row.cells ≡ length (columns_of schema)
  body : may_have schema.number row.body ≡ true

sound_in : (schema : TableSchema) (row : DraftRow) → row.table ≡ schema.number
    → find (λ (other : TableSchema). nat_eq other.number schema.number && other.is_held) tables ≡ Some schema
    → IsSound row → IsSoundIn schema row
sound_in schema row own found sound =
    let same : Some sound.schema ≡ Some schema =
    sym sound.found
    ∙ ap (λ n. find (λ (other : TableSchema). nat_eq other.number n && other.is_held) tables) own ∙ found in
    let one : sound.schema ≡ schema = cc in
    record {
      size = sound.size ∙ ap (λ (s : TableSchema). length (columns_of s)) one;
      body = ap (λ n. may_have n row.body) (sym own) ∙ sound.body;
    }

sound_rows : (schema : TableSchema) (rows : List DraftRow)
    → find (λ (other : TableSchema). nat_eq other.number schema.number && other.is_held) tables ≡ Some schema
    → AllByRecursion IsSound rows → AllByRecursion (IsSoundIn schema) (rows_of_table rows schema.number)
sound_rows schema [] found sound = tt
sound_rows schema (row ∷ rows) found sound =
    by (nat_eq row.table schema.number) refl (sound_rows schema rows found sound.1)
  where
    by : (b : Bool) → nat_eq row.table schema.number ≡ b
        → AllByRecursion (IsSoundIn schema) (rows_of_table rows schema.number)
        → AllByRecursion (IsSoundIn schema)
        (cond b (row ∷ rows_of_table rows schema.number) (rows_of_table rows schema.number))
    by true t rest = (sound_in schema row (eqb-true row.table schema.number t) found sound.0, rest)
    by false t rest = rest

-- ---- no wrong cell

abbrev cells_in : List DraftCell → List Cell
cells_in cells = map (λ (cell : DraftCell). cell_of cell.value) cells

none_behind : (columns : List Column) (cells : List Cell) → are_behind columns [] cells ≡ true
none_behind [] cells = refl
none_behind (column ∷ columns) cells = refl

front_behind : (column : Column) (columns : List Column) (front : List DraftCell) (cell : Cell) (cells : List Cell)
    → is_behind_first column front cell ≡ true → are_behind columns (cells_in (drop 1 front)) cells ≡ true
    → are_behind (column ∷ columns) (cells_in front) (cell ∷ cells) ≡ true
front_behind column columns [] cell cells first rest = refl
front_behind column columns (x ∷ front) cell cells first rest =
    and_from (is_behind column (cell_of x.value) cell) (are_behind columns (cells_in front) cells) first rest

cells_right : (counts : ℕ → ℕ) (columns : List Column) (front cells : List DraftCell) → length cells ≡ length columns
    → wrong_cell counts columns front cells ≡ None
    → (are_cells counts columns (cells_in cells) ≡ true) × (are_behind columns (cells_in front) (cells_in cells) ≡ true)
cells_right counts [] front [] size e = (refl, refl)
cells_right counts [] front (cell ∷ cells) size e = absurd (omega (arith, size))
cells_right counts (column ∷ columns) front [] size e = absurd (omega (arith, size))
cells_right counts (column ∷ columns) front (cell ∷ cells) size e =
    by (is_right counts column front (cell_of cell.value)) refl
    (λ none. cells_right counts columns (drop 1 front) cells (omega (arith, size)) none) e
  where
    by : (b : Bool) → is_right counts column front (cell_of cell.value) ≡ b
        → (wrong_cell counts columns (drop 1 front) cells ≡ None
        → (are_cells counts columns (cells_in cells) ≡ true)
        × (are_behind columns (cells_in (drop 1 front)) (cells_in cells) ≡ true))
        → cond b (wrong_cell counts columns (drop 1 front) cells) (Some cell.column) ≡ None
        → (are_cells counts (column ∷ columns) (cells_in (cell ∷ cells)) ≡ true)
        × (are_behind (column ∷ columns) (cells_in front) (cells_in (cell ∷ cells)) ≡ true)
    by true t more e =
        let parts = and_parts (is_cell counts column (cell_of cell.value))
        (is_behind_first column front (cell_of cell.value)) t in
        let rest = more e in (
          and_from (is_cell counts column (cell_of cell.value)) (are_cells counts columns (cells_in cells))
              parts.0 rest.0,
          front_behind column columns front (cell_of cell.value) (cells_in cells) parts.1 rest.1,
        )
    by false t more e = cc

abbrev rows_cells : List DraftRow → List (List Cell)
rows_cells rows = map (λ row. row.cells) (map table_row rows)

none_of_both : {A : Type 0} (x y : Option A) → option_or x y ≡ None → (x ≡ None) × (y ≡ None)
none_of_both None y e = (refl, e)
none_of_both (Some x) y e = cc

none_mapped : {A B : Type 0} (f : A → B) (x : Option A) → option_map f x ≡ None → x ≡ None
none_mapped f None e = refl
none_mapped f (Some x) e = cc

rows_right : (counts : ℕ → ℕ) (schema : TableSchema) (front : List DraftCell) (rows : List DraftRow)
    → AllByRecursion (IsSoundIn schema) rows → wrong_row counts (columns_of schema) front rows ≡ None
    → (list_all (is_row counts schema) (map table_row rows) ≡ true)
    × (rise (columns_of schema) (cells_in front) (rows_cells rows) ≡ true)
rows_right counts schema front [] sound e = (refl, refl)
rows_right counts schema front (row ∷ rows) sound e =
    let columns : List Column = columns_of schema in
    let wrong : Option ℕ = wrong_cell counts (columns_of schema) front row.cells in
    let none = none_of_both (option_map (at_line row.line) wrong)
    (wrong_row counts (columns_of schema) row.cells rows) e in
    let cells = cells_right counts (columns_of schema) front row.cells sound.0.size
    (none_mapped (at_line row.line) wrong none.0) in
    let rest = rows_right counts schema row.cells rows sound.1 none.1 in (
      and_from (is_row counts schema (table_row row)) (list_all (is_row counts schema) (map table_row rows))
          (and_from (are_cells counts (columns_of schema) (cells_in row.cells)) (may_have schema.number row.body)
          cells.0
          sound.0.body) rest.0,
      and_from (are_behind (columns_of schema) (cells_in front) (cells_in row.cells))
          (rise (columns_of schema) (cells_in row.cells) (rows_cells rows)) cells.1 rest.1,
    )

-- a row is behind itself
self_behind : (column : Column) (cell : Cell) → is_behind column cell cell ≡ true
self_behind (RunIndex table) (IndexCell row) = le-leb row row (omega arith)
self_behind (RunIndex table) cell = refl
self_behind column cell = refl

selves_behind : (columns : List Column) (cells : List Cell) → are_behind columns cells cells ≡ true
selves_behind [] cells = refl
selves_behind (column ∷ columns) [] = refl
selves_behind (column ∷ columns) (cell ∷ cells) =
    and_from (is_behind column cell cell) (are_behind columns cells cells) (self_behind column cell)
    (selves_behind columns cells)

first_too : (columns : List Column) (rows : List (List Cell)) → rise columns [] rows ≡ true
    → rise columns (first_row rows) rows ≡ true
first_too columns [] rises = refl
first_too columns (row ∷ rows) rises =
    and_from (are_behind columns row row) (rise columns row rows) (selves_behind columns row)
    (and_parts (are_behind columns [] row) (rise columns row rows) rises).1

tables_right : (counts : ℕ → ℕ) (rows : List DraftRow) (schemas : List TableSchema)
    → rows_in (tables_of rows) ≡ counts → AreFound schemas → AllByRecursion IsSound rows
    → wrong_in_tables rows schemas ≡ None → are_tables counts schemas (map (table_of rows) schemas) ≡ true
tables_right counts rows [] same found sound e = refl
tables_right counts rows (schema ∷ schemas) same found sound e =
    let none = none_of_both (wrong_in_table rows schema) (wrong_in_tables rows schemas) e in
    let own : List DraftRow = rows_of_table rows schema.number in
    let right = rows_right counts schema [] own (sound_rows schema rows found.0 sound)
    (ap (λ counts. wrong_row counts (columns_of schema) [] own) (sym same) ∙ none.0) in
    and_from (is_table counts schema (table_of rows schema)) (are_tables counts schemas (map (table_of rows) schemas))
    (and_from (nat_eq schema.number schema.number)
    (list_all (is_row counts schema) (map table_row own)
    && rise (columns_of schema) (first_row (rows_cells own)) (rows_cells own))
    (eq-eqb schema.number schema.number refl)
    (and_from (list_all (is_row counts schema) (map table_row own))
    (rise (columns_of schema) (first_row (rows_cells own)) (rows_cells own)) right.0
    (first_too (columns_of schema) (rows_cells own) right.1)))
    (tables_right counts rows schemas same found.1 sound none.1)

-- rows that are sound, of which no column is wrong, are the tables of a module
pub whole_rows : (rows : List DraftRow) → AllByRecursion IsSound rows → first_wrong rows ≡ None
    → is_module (tables_of rows) ≡ true
unfolding is_module
whole_rows rows sound e = tables_right (rows_in (tables_of rows)) rows held_tables refl held_found sound e

-- The rows that were read of a module's text make up its tables, and no column of theirs is wrong.
use Rattle.std.proofs.Common.{◌≡◌, ◌∙◌, ℕ, suc, ◌<◌, ◌≤◌, Bool, true, false, cond, nat_eq, List, []}
use Rattle.std.proofs.Common.{◌∷◌, ◌++◌, map, drop, Some, None, option_map, refl, ap, sym}
use Rattle.std.proofs.Common.{arith, append_assoc, eq-eqb, ne_eqb}
use Rattle.std.proofs.lemmas.Bool.{and_parts, and_from, false≢true}
use Rattle.std.proofs.lemmas.List.{append-nil}
use Rattle.std.specs.List.{list_all, flat_map}
use Rattle.std.specs.Option.{option_or}
use Rattle.md_rows.specs.declared.cell.Cell.{Cell}
use Rattle.md_rows.specs.declared.schema.Column.{Column}
use Rattle.md_rows.specs.Fits.{is_cell, is_behind, are_cells, are_behind, rise, first_row, held_tables}
use Rattle.md_rows.specs.Tables.{TableSchema}
use Rattle.md_tables.specs.declared.module.TableRow.{TableRow}
use Rattle.md_tables.specs.declared.module.Table.{Table}
use Rattle.md_tables.specs.Modules.{columns_of, is_body, is_row, are_tables, rows_in}
use Rattle.il_text.specs.declared.draft.DraftCell.{DraftCell}
use Rattle.il_text.specs.declared.draft.DraftRow.{DraftRow}
use Rattle.il_text.specs.Assembling.{cell_of, table_row, rows_of_table, table_of, tables_of, is_right}
use Rattle.il_text.specs.Assembling.{wrong_cell, at_line, wrong_row, wrong_in_table, wrong_in_tables, first_wrong}
use Rattle.il_text.proofs.ReadBackRows.{tagged, bare_row, table_rows, rise_from, held_rise, Heads, heads}

-- ---- the rows of one table

abbrev of_table : ℕ → List (ℕ × TableRow) → List TableRow
of_table number [] = []
of_table number (row ∷ rows) = cond (nat_eq row.0 number) (row.1 ∷ of_table number rows) (of_table number rows)

map_cond : (b : Bool) (row : DraftRow) (rows : List DraftRow)
    → map table_row (cond b (row ∷ rows) rows) ≡ cond b (table_row row ∷ map table_row rows) (map table_row rows)
map_cond true row rows = refl
map_cond false row rows = refl

of_table_is : (rows : List DraftRow) (number : ℕ)
    → map table_row (rows_of_table rows number) ≡ of_table number (map bare_row rows)
of_table_is [] number = refl
of_table_is (row ∷ rows) number =
    map_cond (nat_eq row.table number) row (rows_of_table rows number)
    ∙ ap (λ rest. cond (nat_eq row.table number) (table_row row ∷ rest) rest) (of_table_is rows number)

cond_append : (b : Bool) (row : TableRow) (xs ys : List TableRow)
    → cond b (row ∷ (xs ++ ys)) (xs ++ ys) ≡ cond b (row ∷ xs) xs ++ ys
cond_append true row xs ys = refl
cond_append false row xs ys = refl

of_table-append : (number : ℕ) (xs ys : List (ℕ × TableRow))
    → of_table number (xs ++ ys) ≡ of_table number xs ++ of_table number ys
of_table-append number [] ys = refl
of_table-append number (row ∷ xs) ys =
    ap (λ rest. cond (nat_eq row.0 number) (row.1 ∷ rest) rest) (of_table-append number xs ys)
    ∙ cond_append (nat_eq row.0 number) row.1 (of_table number xs) (of_table number ys)

own_rows : (number table : ℕ) (list : List TableRow) → table ≡ number → of_table number (map (tagged table) list) ≡ list
own_rows number table [] same = refl
own_rows number table (row ∷ list) same =
    ap (λ b. cond b (row ∷ of_table number (map (tagged table) list)) (of_table number (map (tagged table) list)))
    (eq-eqb table number same)
    ∙ ap (λ rest. row ∷ rest) (own_rows number table list same)

other_rows : (number table : ℕ) (list : List TableRow) → (table ≡ number → ⊥)
    → of_table number (map (tagged table) list) ≡ []
other_rows number table [] other = refl
other_rows number table (row ∷ list) other =
    ap (λ b. cond b (row ∷ of_table number (map (tagged table) list)) (of_table number (map (tagged table) list)))
    (ne_eqb table number other)
    ∙ other_rows number table list other

-- ---- all tables

-- tables of higher numbers have no rows of a table
higher_rows : (counts : ℕ → ℕ) (number least : ℕ) (schemas : List TableSchema) (list : List Table)
    → are_tables counts schemas list ≡ true → rise_from least schemas ≡ true → number < least
    → of_table number (flat_map table_rows list) ≡ []
higher_rows counts number least [] [] are rises less = refl
higher_rows counts number least [] (table ∷ list) are rises less = absurd (false≢true are)
higher_rows counts number least (schema ∷ schemas) [] are rises less = absurd (false≢true are)
higher_rows counts number least (schema ∷ schemas) (table ∷ list) are rises less =
    let h : Heads counts least schema schemas table list = heads counts least schema schemas table list are rises in
    of_table-append number (table_rows table) (flat_map table_rows list)
    ∙ ap (λ front. front ++ of_table number (flat_map table_rows list))
    (other_rows number table.number table.rows (λ same. omega (arith, same, h.number, h.low, less)))
    ∙ higher_rows counts number (suc schema.number) schemas list h.rest h.rises (omega (arith, h.low, less))

-- the table of a schema, of all rows
abbrev made : List (ℕ × TableRow) → TableSchema → Table
made rows schema = record { number = schema.number; rows = of_table schema.number rows }

remade : (counts : ℕ → ℕ) (schemas : List TableSchema) (list : List Table) (least : ℕ) (front : List (ℕ × TableRow))
    → are_tables counts schemas list ≡ true → rise_from least schemas ≡ true
    → ((number : ℕ) → least ≤ number → of_table number front ≡ [])
    → map (made (front ++ flat_map table_rows list)) schemas ≡ list
remade counts [] [] least front are rises none = refl
remade counts [] (table ∷ list) least front are rises none = absurd (false≢true are)
remade counts (schema ∷ schemas) [] least front are rises none = absurd (false≢true are)
remade counts (schema ∷ schemas) (table ∷ list) least front are rises none =
    let h : Heads counts least schema schemas table list = heads counts least schema schemas table list are rises in
    let number : ℕ = schema.number in
    let rest : List (ℕ × TableRow) = flat_map table_rows list in
    let own : of_table number (front ++ (table_rows table ++ rest)) ≡ table.rows =
    of_table-append number front (table_rows table ++ rest)
    ∙ ap (λ before. before ++ of_table number (table_rows table ++ rest)) (none number h.low)
    ∙ of_table-append number (table_rows table) rest
    ∙ ap (λ rows. rows ++ of_table number rest) (own_rows number table.number table.rows h.number)
    ∙ ap (λ behind. table.rows ++ behind)
    (higher_rows counts number (suc number) schemas list h.rest h.rises (omega arith))
    ∙ append-nil table.rows in
    let first : made (front ++ (table_rows table ++ rest)) schema ≡ table =
    ap (λ rows. record { number = schema.number; rows = rows }) own
    ∙ ap (λ n. record { number = n; rows = table.rows }) (sym h.number) in
    let later : (n : ℕ) → suc schema.number ≤ n → of_table n (front ++ table_rows table) ≡ [] =
    λ n more.
    of_table-append n front (table_rows table)
    ∙ ap (λ before. before ++ of_table n (table_rows table)) (none n (omega (arith, more, h.low)))
    ∙ other_rows n table.number table.rows (λ same. omega (arith, same, h.number, more)) in
    ap (λ one. one ∷ map (made (front ++ (table_rows table ++ rest))) schemas) first
    ∙ ap (λ rows. table ∷ map (made rows) schemas) (sym (append_assoc front (table_rows table) rest))
    ∙ ap (λ tables. table ∷ tables)
    (remade counts schemas list (suc schema.number) (front ++ table_rows table) h.rest h.rises later)

tables_are : (rows : List DraftRow) (schemas : List TableSchema)
    → map (table_of rows) schemas ≡ map (made (map bare_row rows)) schemas
tables_are rows [] = refl
tables_are rows (schema ∷ schemas) =
    ap (λ list. record { number = schema.number; rows = list } ∷ map (table_of rows) schemas)
    (of_table_is rows schema.number)
    ∙ ap (λ tables. made (map bare_row rows) schema ∷ tables) (tables_are rows schemas)

-- the tables of rows that are those of a module
pub tables_back : (counts : ℕ → ℕ) (rows : List DraftRow) (list : List Table)
    → are_tables counts held_tables list ≡ true → map bare_row rows ≡ flat_map table_rows list
    → tables_of rows ≡ list
tables_back counts rows list are same =
    tables_are rows held_tables ∙ ap (λ rows. map (made rows) held_tables) same
    ∙ remade counts held_tables list 0 [] are held_rise (λ number low. refl)

-- ---- no column is wrong

abbrev cells_in : List DraftCell → List Cell
cells_in cells = map (λ (cell : DraftCell). cell_of cell.value) cells

right_cell : (counts : ℕ → ℕ) (column : Column) (columns : List Column) (front : List DraftCell) (cell : DraftCell)
    (cells : List DraftCell) → is_cell counts column (cell_of cell.value) ≡ true
    → are_behind (column ∷ columns) (cells_in front) (cells_in (cell ∷ cells)) ≡ true
    → (is_right counts column front (cell_of cell.value) ≡ true)
    × (are_behind columns (cells_in (drop 1 front)) (cells_in cells) ≡ true)
right_cell counts column columns [] cell cells is behind = (
  and_from (is_cell counts column (cell_of cell.value)) true is refl,
  none_behind columns (cells_in cells),
)
  where
    none_behind : (columns : List Column) (cells : List Cell) → are_behind columns [] cells ≡ true
    none_behind [] cells = refl
    none_behind (column ∷ columns) cells = refl
right_cell counts column columns (first ∷ front) cell cells is behind =
    let parts = and_parts (is_behind column (cell_of first.value) (cell_of cell.value))
    (are_behind columns (cells_in front) (cells_in cells)) behind in (
      and_from (is_cell counts column (cell_of cell.value))
          (is_behind column (cell_of first.value) (cell_of cell.value))
          is parts.0,
      parts.1,
    )

no_wrong_cell : (counts : ℕ → ℕ) (columns : List Column) (front cells : List DraftCell)
    → are_cells counts columns (cells_in cells) ≡ true → are_behind columns (cells_in front) (cells_in cells) ≡ true
    → wrong_cell counts columns front cells ≡ None
no_wrong_cell counts [] front cells are behind = refl
no_wrong_cell counts (column ∷ columns) front [] are behind = refl
no_wrong_cell counts (column ∷ columns) front (cell ∷ cells) are behind =
    let parts = and_parts (is_cell counts column (cell_of cell.value))
    (are_cells counts columns (cells_in cells)) are in
    let right = right_cell counts column columns front cell cells parts.0 behind in
    ap (λ b. cond b (wrong_cell counts columns (drop 1 front) cells) (Some cell.column)) right.0
    ∙ no_wrong_cell counts columns (drop 1 front) cells parts.1 right.1

abbrev rows_cells : List DraftRow → List (List Cell)
rows_cells rows = map (λ row. row.cells) (map table_row rows)

no_wrong_row : (counts : ℕ → ℕ) (schema : TableSchema) (front : List DraftCell) (rows : List DraftRow)
    → list_all (is_row counts schema) (map table_row rows) ≡ true
    → rise (columns_of schema) (cells_in front) (rows_cells rows) ≡ true
    → wrong_row counts (columns_of schema) front rows ≡ None
no_wrong_row counts schema front [] all rises = refl
no_wrong_row counts schema front (row ∷ rows) all rises =
    let parts = and_parts (is_row counts schema (table_row row)) (list_all (is_row counts schema) (map table_row rows))
    all in
    let cells = and_parts (are_cells counts (columns_of schema) (cells_in row.cells)) (is_body schema.number row.body)
    parts.0 in
    let up = and_parts (are_behind (columns_of schema) (cells_in front) (cells_in row.cells))
    (rise (columns_of schema) (cells_in row.cells) (rows_cells rows)) rises in
    ap (λ o. option_or (option_map (at_line row.line) o) (wrong_row counts (columns_of schema) row.cells rows))
    (no_wrong_cell counts (columns_of schema) front row.cells cells.0 up.0)
    ∙ no_wrong_row counts schema row.cells rows parts.1 up.1

-- the first row has none in front
first_alone : (columns : List Column) (rows : List (List Cell)) → rise columns (first_row rows) rows ≡ true
    → rise columns [] rows ≡ true
first_alone columns [] rises = refl
first_alone columns (row ∷ rows) rises =
    and_from (are_behind columns [] row) (rise columns row rows) (none_behind columns row)
    (and_parts (are_behind columns row row) (rise columns row rows) rises).1
  where
    none_behind : (columns : List Column) (cells : List Cell) → are_behind columns [] cells ≡ true
    none_behind [] cells = refl
    none_behind (column ∷ columns) cells = refl

no_wrong_in : (counts : ℕ → ℕ) (rows : List DraftRow) (schemas : List TableSchema) (list : List Table) (least : ℕ)
    → rows_in (tables_of rows) ≡ counts → map (table_of rows) schemas ≡ list → are_tables counts schemas list ≡ true
    → rise_from least schemas ≡ true → wrong_in_tables rows schemas ≡ None
no_wrong_in counts rows [] list least same tables are rises = refl
no_wrong_in counts rows (schema ∷ schemas) [] least same tables are rises = absurd (false≢true are)
no_wrong_in counts rows (schema ∷ schemas) (table ∷ list) least same tables are rises =
    let h : Heads counts least schema schemas table list = heads counts least schema schemas table list are rises in
    let own : table_of rows schema ≡ table = cc in
    let rest : map (table_of rows) schemas ≡ list = cc in
    let found : map table_row (rows_of_table rows schema.number) ≡ table.rows = ap (λ (t : Table). t.rows) own in
    let all : list_all (is_row counts schema) (map table_row (rows_of_table rows schema.number)) ≡ true =
    ap (list_all (is_row counts schema)) found ∙ h.all in
    let up : rise (columns_of schema) [] (rows_cells (rows_of_table rows schema.number)) ≡ true =
    ap (λ list. rise (columns_of schema) [] (map (λ (row : TableRow). row.cells) list)) found
    ∙ first_alone (columns_of schema) (map (λ row. row.cells) table.rows) h.up in
    let right : wrong_in_table rows schema ≡ None =
    ap (λ counts. wrong_row counts (columns_of schema) [] (rows_of_table rows schema.number)) same
    ∙ no_wrong_row counts schema [] (rows_of_table rows schema.number) all up in
    ap (λ o. option_or o (wrong_in_tables rows schemas)) right
    ∙ no_wrong_in counts rows schemas list (suc schema.number) same rest h.rest h.rises

pub none_wrong : (rows : List DraftRow) (list : List Table) → tables_of rows ≡ list
    → are_tables (rows_in list) held_tables list ≡ true → first_wrong rows ≡ None
none_wrong rows list same are =
    no_wrong_in (rows_in list) rows held_tables list 0 (ap rows_in same) same are held_rise

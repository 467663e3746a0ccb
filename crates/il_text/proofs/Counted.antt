-- Rows of tables, counted once, and those that are wrong.
use Rattle.std.proofs.Common.{◌≡◌, ◌∙◌, ℕ, Bool, true, false, cond, nat_eq, List, [], ◌∷◌, ◌++◌, length, map, find}
use Rattle.std.proofs.Common.{Option, Some, None, refl, ap, sym, append_assoc}
use Rattle.std.specs.List.{filter}
use Rattle.std.specs.Option.{option_map, option_or}
use Rattle.std.proofs.lemmas.List.{length-map}
use mathlib.Core.Path.{fun_ext}
use Rattle.md_rows.specs.declared.schema.Column.{Column}
use Rattle.md_rows.specs.Tables.{TableSchema, tables}
use Rattle.md_rows.specs.Widths.{or_zero}
use Rattle.md_rows.specs.Fits.{held_tables}
use Rattle.md_tables.specs.declared.module.TableRow.{TableRow}
use Rattle.md_tables.specs.declared.module.Table.{Table}
use Rattle.md_tables.specs.Modules.{columns_of, rows_in}
use Rattle.il_text.specs.declared.counting.TableCount.{TableCount}
use Rattle.il_text.specs.declared.draft.DraftCell.{DraftCell}
use Rattle.il_text.specs.declared.draft.DraftRow.{DraftRow}
use Rattle.il_text.specs.Assembling.{rows_of_table, table_of, table_row, tables_of, at_line, wrong_cell, wrong_row}
use Rattle.il_text.specs.Assembling.{wrong_in_tables, first_wrong}
use Rattle.il_text.specs.Counting.{count_of, counted, wrong_of, wrong_among}

-- ---- how many rows tables have

by_test : (t : Bool) (rows : List DraftRow) (schema : TableSchema) (a : Option TableCount) (b : Option Table)
    → or_zero (option_map (λ (count : TableCount). count.rows) a)
    ≡ or_zero (option_map (λ (table : Table). length table.rows) b)
    → or_zero (option_map (λ (count : TableCount). count.rows) (cond t (Some (count_of rows schema)) a))
    ≡ or_zero (option_map (λ (table : Table). length table.rows) (cond t (Some (table_of rows schema)) b))
by_test true rows schema a b h = sym (length-map (rows_of_table rows schema.number) table_row)
by_test false rows schema a b h = h

counted_is : (rows : List DraftRow) (schemas : List TableSchema) (number : ℕ)
    → counted (map (count_of rows) schemas) number ≡ rows_in (map (table_of rows) schemas) number
counted_is rows [] number = refl
counted_is rows (schema ∷ schemas) number =
    by_test (nat_eq schema.number number) rows schema
    (find (λ (count : TableCount). nat_eq count.table number) (map (count_of rows) schemas))
    (find (λ (table : Table). nat_eq table.number number) (map (table_of rows) schemas))
    (counted_is rows schemas number)

among_is : (rows : List DraftRow) (schemas : List TableSchema)
    → wrong_among (rows_in (tables_of rows)) rows schemas ≡ wrong_in_tables rows schemas
among_is rows [] = refl
among_is rows (schema ∷ schemas) =
    ap (option_or (wrong_row (rows_in (tables_of rows)) (columns_of schema) [] (rows_of_table rows schema.number)))
    (among_is rows schemas)

held_are : (schemas : List TableSchema) → schemas ≡ tables
    → filter (λ (schema : TableSchema). schema.is_held) schemas ≡ held_tables
unfolding held_tables
held_are schemas same = ap (filter (λ (schema : TableSchema). schema.is_held)) same

-- the first wrong cell, by the counts of the tables
pub first_is : (rows : List DraftRow) (schemas : List TableSchema) (counts : List TableCount) (place : Option (ℕ × ℕ))
    → schemas ≡ tables → counts ≡ map (count_of rows) (filter (λ (schema : TableSchema). schema.is_held) schemas)
    → place ≡ wrong_among (counted counts) rows (filter (λ (schema : TableSchema). schema.is_held) schemas)
    → place ≡ first_wrong rows
first_is rows schemas counts place same are is =
    let held : filter (λ (schema : TableSchema). schema.is_held) schemas ≡ held_tables = held_are schemas same in
    let all : counted counts ≡ rows_in (tables_of rows) =
    ap counted (are ∙ ap (map (count_of rows)) held) ∙ fun_ext (λ number. counted_is rows held_tables number) in
    is
    ∙ ap (λ c. wrong_among c rows (filter (λ (schema : TableSchema). schema.is_held) schemas)) all
    ∙ ap (wrong_among (rows_in (tables_of rows)) rows) held
    ∙ among_is rows held_tables

-- ---- wrong cells

on_by : (t : Bool) (counts : ℕ → ℕ) (columns : List Column) (front : List DraftCell) (row : DraftRow)
    (rest : List DraftRow) (all : Option (ℕ × ℕ)) → all ≡ wrong_row counts columns front (cond t (row ∷ rest) rest)
    → cond t (option_map (at_line row.line) (wrong_cell counts columns front row.cells)) None ≡ None
    → all ≡ wrong_row counts columns (cond t row.cells front) rest
on_by true counts columns front row rest all so_far right =
    so_far ∙ ap (λ o. option_or o (wrong_row counts columns row.cells rest)) right
on_by false counts columns front row rest all so_far right = so_far

-- a row that is right
pub row_on : (counts : ℕ → ℕ) (schema : TableSchema) (front next : List DraftCell) (row : DraftRow)
    (left rest : List DraftRow) (all found : Option (ℕ × ℕ)) → left ≡ row ∷ rest
    → all ≡ wrong_row counts (columns_of schema) front (rows_of_table left schema.number)
    → found ≡ wrong_of counts schema front row → found ≡ None
    → next ≡ cond (nat_eq row.table schema.number) row.cells front
    → all ≡ wrong_row counts (columns_of schema) next (rows_of_table rest schema.number)
row_on counts schema front next row left rest all found first so_far is none on =
    on_by (nat_eq row.table schema.number) counts (columns_of schema) front row (rows_of_table rest schema.number) all
    (so_far ∙ ap (λ l. wrong_row counts (columns_of schema) front (rows_of_table l schema.number)) first)
    (sym is ∙ none)
    ∙ ap (λ f. wrong_row counts (columns_of schema) f (rows_of_table rest schema.number)) (sym on)

at_by : (t : Bool) (counts : ℕ → ℕ) (columns : List Column) (front : List DraftCell) (row : DraftRow)
    (rest : List DraftRow) (all : Option (ℕ × ℕ)) (place : ℕ × ℕ)
    → all ≡ wrong_row counts columns front (cond t (row ∷ rest) rest)
    → cond t (option_map (at_line row.line) (wrong_cell counts columns front row.cells)) None ≡ Some place
    → all ≡ Some place
at_by true counts columns front row rest all place so_far wrong =
    so_far ∙ ap (λ o. option_or o (wrong_row counts columns row.cells rest)) wrong
at_by false counts columns front row rest all place so_far wrong = cc

-- a row that is wrong
pub row_wrong : (counts : ℕ → ℕ) (schema : TableSchema) (front : List DraftCell) (row : DraftRow)
    (left rest : List DraftRow) (all found : Option (ℕ × ℕ)) (place : ℕ × ℕ) → left ≡ row ∷ rest
    → all ≡ wrong_row counts (columns_of schema) front (rows_of_table left schema.number)
    → found ≡ wrong_of counts schema front row → found ≡ Some place → all ≡ Some place
row_wrong counts schema front row left rest all found place first so_far is some =
    at_by (nat_eq row.table schema.number) counts (columns_of schema) front row (rows_of_table rest schema.number) all
    place
    (so_far ∙ ap (λ l. wrong_row counts (columns_of schema) front (rows_of_table l schema.number)) first)
    (sym is ∙ some)

-- ---- rows of tables

two_by : (t : Bool) (row : DraftRow) (rest : List DraftRow)
    → map table_row (cond t (row ∷ rest) rest) ≡ map table_row (cond t (row ∷ []) []) ++ map table_row rest
two_by true row rest = refl
two_by false row rest = refl

-- one row more, if it is one of the table
pub rows_on : (row : DraftRow) (left rest : List DraftRow) (number : ℕ) (done more all : List TableRow)
    → left ≡ row ∷ rest → all ≡ done ++ map table_row (rows_of_table left number)
    → more ≡ done ++ map table_row (rows_of_table (row ∷ []) number)
    → all ≡ more ++ map table_row (rows_of_table rest number)
rows_on row left rest number done more all first so_far grown =
    so_far
    ∙ ap (λ l. done ++ map table_row (rows_of_table l number)) first
    ∙ ap (λ l. done ++ l) (two_by (nat_eq row.table number) row (rows_of_table rest number))
    ∙ sym (append_assoc done (map table_row (rows_of_table (row ∷ []) number))
    (map table_row (rows_of_table rest number)))
    ∙ ap (λ m. m ++ map table_row (rows_of_table rest number)) (sym grown)

-- the tables that were made
pub tables_are : (rows : List DraftRow) (schemas : List TableSchema) (start made : List Table) → schemas ≡ tables
    → start ≡ [] → made ≡ start ++ map (table_of rows) (filter (λ (schema : TableSchema). schema.is_held) schemas)
    → made ≡ tables_of rows
tables_are rows schemas start made same none is =
    is
    ∙ ap (λ s. s ++ map (table_of rows) (filter (λ (schema : TableSchema). schema.is_held) schemas)) none
    ∙ ap (map (table_of rows)) (held_are schemas same)

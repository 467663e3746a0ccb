-- How many rows the tables of a text have, counted once, and what is wrong by these counts.
use Rattle.std.specs.Prelude.{ℕ, ◌==◌, if◌then◌else◌, List, [], ◌∷◌, length, find, Option, None}
use Rattle.std.specs.Option.{option_map, option_or}
use Rattle.md_rows.specs.Tables.{TableSchema}
use Rattle.md_rows.specs.Widths.{or_zero}
use Rattle.md_tables.specs.Modules.{columns_of}
use Rattle.il_text.specs.declared.counting.TableCount.{TableCount}
use Rattle.il_text.specs.declared.draft.DraftCell.{DraftCell}
use Rattle.il_text.specs.declared.draft.DraftRow.{DraftRow}
use Rattle.il_text.specs.Assembling.{rows_of_table, at_line, wrong_cell, wrong_row}

-- how many rows a table has
abbrev pub count_of : List DraftRow → TableSchema → TableCount
count_of rows schema = record { table = schema.number; rows = length (rows_of_table rows schema.number) }

-- how many rows the table of a number has; one that isn't there has none
abbrev pub counted : List TableCount → ℕ → ℕ
counted counts number =
    or_zero (option_map (λ (count : TableCount). count.rows) (find (λ count. count.table == number) counts))

-- the place of the first wrong cell of a row, if it is one of the table
abbrev pub wrong_of : (ℕ → ℕ) → TableSchema → List DraftCell → DraftRow → Option (ℕ × ℕ)
wrong_of rows schema front row =
    if row.table == schema.number
    then option_map (at_line row.line) (wrong_cell rows (columns_of schema) front row.cells) else None

-- the place of the first wrong cell of tables
abbrev pub wrong_among : (ℕ → ℕ) → List DraftRow → List TableSchema → Option (ℕ × ℕ)
wrong_among counts rows [] = None
wrong_among counts rows (schema ∷ schemas) =
    option_or (wrong_row counts (columns_of schema) [] (rows_of_table rows schema.number))
    (wrong_among counts rows schemas)

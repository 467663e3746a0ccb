use Rattle.std.proofs.Common.{◌≡◌, [], drop}
use Rattle.md_rows.specs.Tables.{schema_of}
use Rattle.md_tables.specs.Modules.{columns_of}
use Rattle.il_text.specs.Assembling.{rows_of_table, wrong_row}
use Rattle.il_text.specs.Counting.{counted}
use Rattle.il_text.proofs.wrong.wrong_in_table.Given as goal

-- the first wrong cell is one of the rows that are left
abbrev pub invariant-loop-row : goal.invariant-loop-row
invariant-loop-row l =
    wrong_row (counted l.counts) (columns_of (schema_of l.schema)) [] (rows_of_table l.rows l.schema.number)
    ≡ wrong_row (counted l.counts) (columns_of (schema_of l.schema)) l.front
    (rows_of_table (drop l.row-index l.rows) l.schema.number)

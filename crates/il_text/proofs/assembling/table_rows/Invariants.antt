use Rattle.std.proofs.Common.{◌≡◌, ◌++◌, map, drop}
use Rattle.il_text.specs.Assembling.{rows_of_table, table_row}
use Rattle.il_text.proofs.assembling.table_rows.Given as goal

-- the rows that were made, and those that are left, make up all
abbrev pub invariant-loop-row : goal.invariant-loop-row
invariant-loop-row l =
    map table_row (rows_of_table l.rows l.table)
    ≡ l.done ++ map table_row (rows_of_table (drop l.row-index l.rows) l.table)

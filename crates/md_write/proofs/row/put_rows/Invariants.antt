use Rattle.std.proofs.Common.{◌≡◌, ◌++◌, drop}
use Rattle.md_rows.specs.Tables.{schema_of}
use Rattle.md_write.specs.Rows.{rows_bytes}
use Rattle.md_write.proofs.row.put_rows.Given as goal

-- the rows so far, and those that are left
abbrev pub invariant-loop-row : goal.invariant-loop-row
invariant-loop-row l =
    l.initial.bytes ++ rows_bytes l.heaps l.layout (schema_of l.schema) l.start l.rows
    ≡ l.bytes ++ rows_bytes l.heaps l.layout (schema_of l.schema) l.at (drop l.row-index l.rows)

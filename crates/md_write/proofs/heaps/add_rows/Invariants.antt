use Rattle.std.proofs.Common.{◌≡◌, drop}
use Rattle.md_rows.specs.Tables.{schema_of}
use Rattle.md_write.specs.Heaps.{with_rows}
use Rattle.md_write.proofs.heaps.add_rows.Given as goal

-- the heaps with the rows so far, and the rows that are left
abbrev pub invariant-loop-row : goal.invariant-loop-row
invariant-loop-row l =
    with_rows (schema_of l.schema) l.initial.heaps l.rows
    ≡ with_rows (schema_of l.schema) l.heaps (drop l.row-index l.rows)

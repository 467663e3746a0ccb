use Rattle.std.proofs.Common.{◌≡◌, ◌+◌, ◌-◌, ◌*◌, ◌≤◌, length}
use Rattle.md_rows.specs.Tables.{schema_of}
use Rattle.md_rows.specs.Cells.{bytes_of}
use Rattle.md_rows.specs.Reading.{rows_in, rows_from, in_front}
use Rattle.md_rows.proofs.row.rows.Given as goal

-- the rows that were read, and those that are left
abbrev pub invariant-loop-index : goal.invariant-loop-index
invariant-loop-index l = record {
  inside : l.at ≤ length l.streams.tables.now;
  place : l.at ≡ l.start + l.index * l.size;
  read : rows_in (bytes_of l.streams) l.layout (schema_of l.schema) l.start
      ≡ in_front l.rows
      (rows_from (bytes_of l.streams) l.layout (schema_of l.schema) l.start (l.count - l.index) l.index);
}

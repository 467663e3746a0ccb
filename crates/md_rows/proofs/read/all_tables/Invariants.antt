use Rattle.std.proofs.Common.{◌≡◌, ◌≤◌, length, map, drop}
use Rattle.md_rows.specs.Tables.{schema_of}
use Rattle.md_rows.specs.Cells.{bytes_of}
use Rattle.md_rows.specs.Reading.{tables_from, in_front}
use Rattle.md_rows.proofs.read.all_tables.Given as goal

-- the tables that were read, and those that are left
abbrev pub invariant-loop-schema : goal.invariant-loop-schema
invariant-loop-schema l = record {
  inside : l.at ≤ length l.streams.tables.now;
  read : tables_from (bytes_of l.streams) l.layout l.layout.place (map schema_of l.schemas)
      ≡ in_front l.tables
      (tables_from (bytes_of l.streams) l.layout l.at (map schema_of (drop l.schema-index l.schemas)));
}

use Rattle.std.proofs.Common.{◌≡◌, ◌++◌, drop, map}
use Rattle.md_rows.specs.Tables.{schema_of}
use Rattle.md_write.specs.Rows.{tables_bytes}
use Rattle.md_write.proofs.row.put_tables.Given as goal

-- the tables so far, and those that are left
abbrev pub invariant-loop-schema : goal.invariant-loop-schema
invariant-loop-schema l =
    l.initial.bytes ++ tables_bytes l.heaps l.layout l.places.0 l.places.1 l.tables (map schema_of l.schemas)
    ≡ l.bytes ++ tables_bytes l.heaps l.layout l.places.0 l.places.1 l.tables
    (map schema_of (drop l.schema-index l.schemas))

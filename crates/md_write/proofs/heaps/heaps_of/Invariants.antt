use Rattle.std.proofs.Common.{◌≡◌, drop, fold, map}
use Rattle.md_rows.specs.Tables.{schema_of}
use Rattle.md_write.specs.Heaps.{with_table, heaps_of}
use Rattle.md_write.proofs.heaps.heaps_of.Given as goal

-- the heaps with the tables so far, and the tables that are left
abbrev pub invariant-loop-schema : goal.invariant-loop-schema
invariant-loop-schema l =
    heaps_of l.tables
    ≡ fold (with_table l.tables) l.heaps (map schema_of (drop l.schema-index l.schema-items))

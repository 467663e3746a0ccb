use Rattle.std.proofs.Common.{◌≡◌, length}
use Rattle.md_tables.specs.Finished.{finished_tables}
use Rattle.md_tables.proofs.Finishing.{all_in_front}
use Rattle.md_tables.proofs.finish.finish_tables.Given as goal

-- the tables that were finished, and those that are left
abbrev pub invariant-loop-table : goal.invariant-loop-table
invariant-loop-table l =
    finished_tables l.image l.held l.fn.tables
    ≡ all_in_front l.done (finished_tables l.image l.held l.left.items)

abbrev pub decreases-loop-table : goal.decreases-loop-table
decreases-loop-table l = length l.left.items

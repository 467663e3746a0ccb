use Rattle.std.proofs.Common.{◌≡◌, length}
use Rattle.md_tables.specs.Finished.{finished_rows}
use Rattle.md_tables.proofs.Finishing.{all_in_front}
use Rattle.md_tables.proofs.finish.finish_rows.Given as goal

-- the rows that were finished, and those that are left
abbrev pub invariant-loop-row : goal.invariant-loop-row
invariant-loop-row l =
    finished_rows l.image l.held l.number l.fn.rows
    ≡ all_in_front l.done (finished_rows l.image l.held l.number l.left.items)

abbrev pub decreases-loop-row : goal.decreases-loop-row
decreases-loop-row l = length l.left.items

use Rattle.std.proofs.Common.{◌≡◌, ◌++◌, drop}
use Rattle.md_write.specs.Contents.{parts_of}
use Rattle.md_write.proofs.content.put_parts.Given as goal

-- the parts so far, and those that are left
abbrev pub invariant-loop-row : goal.invariant-loop-row
invariant-loop-row l =
    l.initial.bytes ++ parts_of l.number l.rows ≡ l.bytes ++ parts_of l.number (drop l.row-index l.rows)

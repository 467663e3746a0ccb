use Rattle.std.proofs.Common.{◌≡◌, ◌-◌, ◌≤◌, length}
use Rattle.il_code.specs.Headers.{sections_end}
use Rattle.il_code.proofs.section.sections_end.Given as goal

-- the sections end where those that are left end
abbrev pub invariant-loop-section : goal.invariant-loop-section
invariant-loop-section l = record {
  same : sections_end (length l.bytes) l.bytes l.first ≡ sections_end (length l.bytes - l._section) l.bytes l.at;
  later : l.first ≤ l.at;
}

use Rattle.std.proofs.Common.{◌≡◌, ◌≤◌, length}
use Rattle.pe_image.specs.Conditions.{first_fault}
use Rattle.pe_image.specs.Streams.{header_conditions, streams_at}
use Rattle.pe_image.proofs.stream.check_headers.Given as goal

-- the headers that were looked at are whole
abbrev pub invariant-loop-left : goal.invariant-loop-left
invariant-loop-left l = record {
  inside : l.place ≤ length l.root;
  same : first_fault (header_conditions l.at (streams_at l.root l.count l.initial.place)) ≡ first_fault
      (header_conditions l.at (streams_at l.root l.left l.place));
}

abbrev pub decreases-loop-left : goal.decreases-loop-left
decreases-loop-left l = l.left

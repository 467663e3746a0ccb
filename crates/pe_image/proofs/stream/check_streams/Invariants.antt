use Rattle.std.proofs.Common.{◌≡◌, ◌≤◌, length}
use Rattle.pe_image.specs.Conditions.{first_fault}
use Rattle.pe_image.specs.Streams.{stream_conditions, streams_at, whole_streams, AreWhole}
use Rattle.pe_image.proofs.stream.check_streams.Given as goal

-- the bytes of the streams that were looked at are there
abbrev pub invariant-loop-left : goal.invariant-loop-left
invariant-loop-left l = record {
  inside : l.place ≤ length l.root;
  whole : AreWhole l.root l.left l.place;
  same : first_fault
      (stream_conditions l.at l.root (whole_streams (streams_at l.root l.count l.initial.place))) ≡ first_fault
      (stream_conditions l.at l.root (whole_streams (streams_at l.root l.left l.place)));
}

abbrev pub decreases-loop-left : goal.decreases-loop-left
decreases-loop-left l = l.left

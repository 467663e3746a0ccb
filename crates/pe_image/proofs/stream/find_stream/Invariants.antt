use Rattle.std.proofs.Common.{◌≡◌, ◌≤◌, length}
use Rattle.pe_image.specs.Streams.{stream_named, streams_at, whole_streams, AreWhole, AreWithin}
use Rattle.pe_image.proofs.stream.find_stream.Given as goal

-- the streams that were looked at have other names
abbrev pub invariant-loop-left : goal.invariant-loop-left
invariant-loop-left l = record {
  inside : l.place ≤ length l.root;
  whole : AreWhole l.root l.left l.place;
  within : AreWithin l.root (whole_streams (streams_at l.root l.left l.place));
  same : stream_named l.name (whole_streams (streams_at l.root l.count l.initial.place)) ≡ stream_named l.name
      (whole_streams (streams_at l.root l.left l.place));
}

abbrev pub decreases-loop-left : goal.decreases-loop-left
decreases-loop-left l = l.left

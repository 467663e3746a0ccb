use Rattle.std.proofs.Common.{ℕ, ◌<◌, get_or}
use Rattle.linked_image.proofs.ranges.are_bytes.Given as goal

-- those that were looked at are below 256
abbrev pub invariant-loop-byte : goal.invariant-loop-byte
invariant-loop-byte l = (k : ℕ) → k < l.byte-index → get_or l.bytes k 0 < 256

use Rattle.std.proofs.Common.{◌≡◌, deque_len}
use Rattle.md_sigs.specs.Reading.{places_of}
use Rattle.md_sigs.proofs.waiting.next_place.Given as goal

abbrev pub invariant-loop-run : goal.invariant-loop-run
invariant-loop-run l = places_of l.waiting.items ≡ places_of l.initial.waiting.items

abbrev pub decreases-loop-run : goal.decreases-loop-run
decreases-loop-run l = deque_len l.waiting

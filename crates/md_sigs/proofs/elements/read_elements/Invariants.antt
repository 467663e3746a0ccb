use Rattle.std.proofs.Common.{length}
use Rattle.md_sigs.specs.Reading.{places_of}
use Rattle.md_sigs.proofs.Exact.{IsReadBy}
use Rattle.md_sigs.proofs.Standing.{IsReadSoFar}
use Rattle.md_sigs.proofs.elements.read_elements.Given as goal

abbrev pub invariant-loop-elements : goal.invariant-loop-elements
invariant-loop-elements l = record {
  so_far :
      IsReadSoFar l.module (places_of l.initial.waiting.items) l.bytes l.elements.items (places_of l.waiting.items)
      l.rest;
  exact :
      IsReadBy l.module (places_of l.initial.waiting.items) l.bytes l.elements.items (places_of l.waiting.items) l.rest;
}

abbrev pub decreases-loop-elements : goal.decreases-loop-elements
decreases-loop-elements l = length l.rest

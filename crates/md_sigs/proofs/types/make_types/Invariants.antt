use Rattle.std.proofs.Common.{◌≡◌, vec_len}
use Rattle.md_sigs.specs.Grammar.{all_in_front, types_of}
use Rattle.md_sigs.proofs.types.make_types.Given as goal

abbrev pub invariant-loop-element : goal.invariant-loop-element
invariant-loop-element l = all_in_front l.elements.items l.types.items ≡ types_of l.fn.elements.items

abbrev pub decreases-loop-element : goal.decreases-loop-element
decreases-loop-element l = vec_len l.elements

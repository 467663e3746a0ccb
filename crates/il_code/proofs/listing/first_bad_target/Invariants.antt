use Rattle.std.proofs.Common.{◌≡◌, drop, find, not}
use Rattle.std.specs.Option.{option_map}
use Rattle.il_code.specs.Listing.{first_bad_target as first_bad_target_of, targets_are_boundaries}
use Rattle.il_code.proofs.listing.first_bad_target.Given as goal

-- those that were asked lead right
abbrev pub invariant-loop-instr : goal.invariant-loop-instr
invariant-loop-instr l =
    first_bad_target_of l.instrs
    ≡ option_map (λ i. i.at) (find (λ i. not (targets_are_boundaries l.instrs i)) (drop l.instr-index l.instrs))

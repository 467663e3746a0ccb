use Rattle.std.proofs.Common.{◌≡◌, drop, find}
use Rattle.std.specs.Option.{option_map}
use Rattle.il_code.specs.Marks.{is_past}
use Rattle.il_code.proofs.reach.past_end.Given as goal

-- from those that were asked control doesn't go on past the end
abbrev pub invariant-loop-instr : goal.invariant-loop-instr
invariant-loop-instr l = option_map (λ i. i.at) (find (is_past l.table l.end) l.instrs)
    ≡ option_map (λ i. i.at) (find (is_past l.table l.end) (drop l.instr-index l.instrs))

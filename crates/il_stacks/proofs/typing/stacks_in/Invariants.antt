use Rattle.std.proofs.Common.{◌≡◌, ◌++◌, drop}
use Rattle.il_stacks.specs.Typings.{stacks_in}
use Rattle.il_stacks.proofs.typing.stacks_in.Given as goal

abbrev pub invariant-loop-step : goal.invariant-loop-step
invariant-loop-step l = stacks_in l.table l.steps ≡ l.stacks ++ stacks_in l.table (drop l.step-index l.steps)

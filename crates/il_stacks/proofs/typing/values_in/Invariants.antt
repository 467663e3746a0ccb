use Rattle.std.proofs.Common.{◌≡◌, drop, fold}
use Rattle.std.specs.List.{flat_map}
use Rattle.il_stacks.specs.Typings.{added, values_in, values_of_stack}
use Rattle.il_stacks.proofs.typing.values_in.Given as goal

abbrev pub invariant-loop-entry : goal.invariant-loop-entry
invariant-loop-entry l =
    values_in l.stacks
    ≡ fold added l.values (flat_map (λ entry. values_of_stack entry.stack) (drop l.entry-index l.stacks))

use Rattle.std.proofs.Common.{◌≡◌, Err, IfOk, Ok, Result, length}
use Rattle.least_flow.specs.Solution.{IsLeast}
use Rattle.ty_terms.specs.Canon.{is_reference_type}
use Rattle.il_stacks.specs.Flow.{AreLeastStacks, Passes, Starts}
use Rattle.il_stacks.specs.Told.{IsRisingBelow}
use Rattle.il_stacks.proofs.Least.{least_found}
use Rattle.il_stacks.proofs.Search.{are_rising}
use Rattle.il_stacks.proofs.flow.least_stacks.Goals as goal

if_both : {A E : Type 0} (r : Result A E) (P Q R : A → Type 0) → ((a : A) → P a → Q a → R a) → IfOk r P → IfOk r Q
    → IfOk r R
if_both (Ok a) P Q R f p q = f a p q
if_both (Err e) P Q R f p q = tt

pub returns : goal.returns
returns c =
    let objects = is_reference_type c.args.values.now in
    let steps = c.args.steps.now in
    let handlers = c.args.handlers.now in
    if_both c.least_solution.result (λ table. length table.items ≡ c.args.size)
    (λ table. IsLeast IsRisingBelow Starts (Passes objects steps handlers) table.items)
    (λ table. AreLeastStacks objects steps handlers c.args.size table.items)
    (λ table long least. least_found objects steps handlers c.args.size table.items c.requires.sound long least)
    c.least_solution.ensures.size c.least_solution.ensures.least

pub invariant_of-typing-clause-rising : goal.invariant_of-typing-clause-rising
invariant_of-typing-clause-rising c = are_rising c.args.steps.now c.requires.rising

use Rattle.std.proofs.Common.{rules}
use Rattle.std.proofs.lemmas.List.Sorted.{IsNonDecreasingBy-from_sort_by_key}
use Rattle.md_tables.specs.Finished.{rank_of}
use Rattle.md_tables.proofs.data.in_order.Goals as goal

pub returns-clause-rising : goal.returns-clause-rising
returns-clause-rising c =
    IsNonDecreasingBy-from_sort_by_key rank_of _ c.sort_unstable_by_key.ensures.sorted (λ a r q k. search rules)

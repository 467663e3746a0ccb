use Rattle.std.proofs.Common.{◌∙◌, ℕ, List, leb, leb-true, leb-false, ap, arith, rules}
use Rattle.std.proofs.lemmas.List.Sorted.{IsPartitionPoint-from_clause, IsPartitionedBy-leb}
use Rattle.md_tables.specs.declared.data.Held.{Held}
use Rattle.md_tables.specs.Finished.{rank_of}
use Rattle.md_tables.proofs.Least.{least_rising}
use Rattle.md_tables.proofs.data.next_in.Goals as goal

pub returns : goal.returns
returns c =
    let ys : List Held = c.args.held.now in
    let n : ℕ = rank_of c.args.own in
    let parted = IsPartitionedBy-leb rank_of ys n c.requires.rising in
    let point = IsPartitionPoint-from_clause (λ x. leb (rank_of x) n) ys c.partition_point-place.result
    c.partition_point-place.ensures.partitioned parted (λ a r q k. search rules) in
    c.address_at.ensures
    ∙ least_rising c.args.own.section c.args.own.address c.partition_point-place.result ys c.requires.rising
    c.requires.few
    (λ i d less. leb-true _ _ (point.0 i d (omega arith) less))
    (λ i d more less. leb-false _ _ (point.1 i d more less))

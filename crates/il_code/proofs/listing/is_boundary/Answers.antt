use Rattle.std.proofs.Common.{rules, ◌∙◌}
use Rattle.std.proofs.lemmas.List.Sorted.{answers_always}
use Rattle.il_code.proofs.Search.{searched}
use Rattle.il_code.proofs.listing.is_boundary.Goals as goal

pub returns : goal.returns
returns c =
    let facts = c.binary_search_by_key.ensures in
    let by_offset = facts.position (λ i. i.at) (answers_always _ _ _ (λ f a r g called. search rules)) in
    c.is_ok.ensures.value ∙ searched c.args.instrs.now c.args.offset c.binary_search_by_key.result c.requires
    facts.bound by_offset

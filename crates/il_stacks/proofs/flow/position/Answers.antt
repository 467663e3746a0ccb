use Rattle.std.proofs.Common.{rules}
use Rattle.std.proofs.lemmas.List.Sorted.{answers_always}
use Rattle.il_stacks.proofs.Search.{none_stands_at, stands_at}
use Rattle.il_stacks.proofs.flow.position.Goals as goal

pub returns-in-Ok-clause-found : goal.returns-in-Ok-clause-found
returns-in-Ok-clause-found c =
    let facts = c.in-Ok.ensures in
    let by_offset = facts.position (λ s. s.at) (answers_always _ _ _ (λ f a r g called. search rules)) in
    stands_at c.args.steps.now c.args.offset c.in-Ok.index by_offset

pub returns-in-Err-clause-none : goal.returns-in-Err-clause-none
returns-in-Err-clause-none c =
    let facts = c.in-Err.ensures in
    let by_offset = facts.position (λ s. s.at) (answers_always _ _ _ (λ f a r g called. search rules)) in
    none_stands_at c.args.steps.now c.args.offset c.in-Err.field-0 c.requires by_offset

use Rattle.std.proofs.Common.{rules}
use Rattle.il_stacks.proofs.Passing.{told_start}
use Rattle.il_stacks.proofs.flow.TypingFlow.starts.Goals as goal

pub returns-clause-told : goal.returns-clause-told
returns-clause-told c = told_start c.in_ok-vec.field-0.items (search rules)

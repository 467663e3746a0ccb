use Rattle.std.proofs.Common.{ℕ, List, subst}
use Rattle.std.specs.Result.{IfOk}
use Rattle.il_code.specs.Reach.{RunsPastEnd}
use Rattle.il_code.specs.declared.body.Clause.{Clause}
use Rattle.il_code.specs.declared.body.Instr.{Instr}
use Rattle.il_code.proofs.reach.reached.Goals as goal

pub returns-clause-inside : goal.returns-clause-inside
returns-clause-inside c =
    subst (λ (instrs : List Instr). IfOk c.reached_in.result
    (λ offsets. (offset : ℕ) → RunsPastEnd instrs c.args.body.now.clauses offset → ⊥)) c.as_slice.ensures
    (subst (λ (clauses : List Clause). IfOk c.reached_in.result
    (λ offsets. (offset : ℕ) → RunsPastEnd c.as_slice.result.now clauses offset → ⊥)) c.as_slice-2.ensures
    c.reached_in.ensures.inside)

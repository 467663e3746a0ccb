use Rattle.std.proofs.Common.{◌≡◌, ◌∙◌, ℕ, List, map, slice_index_or, ap, subst, sym}
use Rattle.least_flow.specs.Solution.{AreTold}
use Rattle.il_code.specs.Marks.{fact_of}
use Rattle.il_code.specs.Reach.{Leads, leads_of}
use Rattle.il_code.specs.declared.body.Clause.{Clause}
use Rattle.il_code.specs.declared.body.Instr.{Instr}
use Rattle.il_code.proofs.Coming.{if-ok, told_here}
use Rattle.il_code.proofs.reach.ControlFlow.pass.Goals as goal

pub returns-in-Some-clause-told : goal.returns-in-Some-clause-told
returns-in-Some-clause-told c =
    let instrs : List Instr = c.args.self.now.instrs.now in
    let clauses : List Clause = c.args.self.now.clauses.now in
    let place : ℕ = c.args.place in
    let n : ℕ = c.in-Some.index in
    let i : Instr = c.index-self-index.result in
    let is : slice_index_or instrs n i ≡ i = sym c.index-self-index.is in
    let at : i.at ≡ place = subst (λ (j : Instr). j.at ≡ place) is (c.in-Some.ensures.found i) in
    if-ok c.passed_on.result (λ facts. facts.items ≡ map fact_of (leads_of clauses (slice_index_or instrs n i)))
    (λ facts. AreTold (λ a b. Unit {0}) (λ to fact. Leads instrs clauses place to) facts.items)
    (λ facts e. told_here instrs clauses place n facts.items i c.args.self.now.rising c.in-Some.ensures.within is at
    (e ∙ ap (λ (j : Instr). map fact_of (leads_of clauses j)) is))
    c.passed_on.ensures

use Rattle.std.proofs.Common.{◌≡◌, ◌∷◌, length, map, sym, ap, ◌∙◌, subst, arith}
use Rattle.link_lists.specs.declared.link.Link.{Link}
use Rattle.link_lists.specs.Chains.{followed, IsFollowed}
use Rattle.link_lists.proofs.Steps.{goes_on}
use Rattle.link_lists.proofs.walk.WalkIterator.next.Goals as goal

pub invariant_of-self : goal.invariant_of-self
invariant_of-self g c =
    let links = map g.T.Linked.link_of c.self.inside.pool.now in
    let on = goes_on links c.in_ok-at.at (subst (IsFollowed links) c.in_ok-at.was c.self.invariant) in
    subst (λ (l : Link). IsFollowed links l.after) (sym c.link_at.ensures) on.1

pub returns-clause-steps : goal.returns-clause-steps
returns-clause-steps g c =
    let links = map g.T.Linked.link_of c.self.inside.pool.now in
    let on = goes_on links c.in_ok-at.at (subst (IsFollowed links) c.in_ok-at.was c.self.invariant) in
    sym c.self.view_is ∙ ap (followed links (length links)) c.in_ok-at.was ∙ on.0
    ∙ ap (λ (l : Link). c.in_ok-at.at ∷ followed links (length links) l.after) (sym c.link_at.ensures)

pub returns-clause-goes : goal.returns-clause-goes
returns-clause-goes g c =
    let links = map g.T.Linked.link_of c.self.inside.pool.now in
    let on = goes_on links c.in_ok-at.at (subst (IsFollowed links) c.in_ok-at.was c.self.invariant) in
    let rest = followed links (length links) c.link_at.result.after in
    let steps : c.args.self.now ≡ c.in_ok-at.at ∷ rest =
    sym c.self.view_is ∙ ap (followed links (length links)) c.in_ok-at.was ∙ on.0
    ∙ ap (λ (l : Link). c.in_ok-at.at ∷ followed links (length links) l.after) (sym c.link_at.ensures) in
    record { on = λ finite. (tt, finite, omega (arith, ap length steps)); keeps = tt; rests = λ _. tt }

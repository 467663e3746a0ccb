use Rattle.std.proofs.Common.{Some, arith, rules, subst, sym}
use Rattle.dep_core.specs.declared.mark.Mark.{Mark}
use Rattle.dep_core.specs.declared.rules.Need.{Need}
use Rattle.dep_core.specs.UnderWay.{mark_of}
use Rattle.dep_core.proofs.ToldMarks.{IsTelling, telling_none, telling_more, telling_all}
use Rattle.dep_core.proofs.telling.tell_needs.Goals as goal

pub loop-need-init : goal.loop-need-init
loop-need-init g c =
    let mark : Need g.row.N.Denot → Mark g.row.N.Denot = λ need. mark_of need.node need.rule (Some c.args.from)
    c.args.also in
    subst (λ l. IsTelling mark c.args.needs l c.args.told.now.items c.args.told.now.items) (sym c.into_vec-left.ensures)
    (telling_none mark c.args.needs c.args.told.now.items)

pub loop-need-preserved : goal.loop-need-preserved
loop-need-preserved g c =
    telling_more (λ (need : Need g.row.N.Denot). mark_of need.node need.rule (Some c.args.from) c.args.also)
    c.args.needs
    c.loop-need.left.items c.pop.new.self.items c.in-Some.need c.args.told.now.items c.loop-need.told.items
    c.push.new.self.items c.in-Some.ensures.items (search rules) c.loop-need.invariant

pub returns : goal.returns
returns g c =
    telling_all (λ (need : Need g.row.N.Denot). mark_of need.node need.rule (Some c.args.from) c.args.also) c.args.needs
    c.loop-need.left.items c.args.told.now.items c.loop-need.told.items
    (omega (arith, c.loop-need.left.ok, c.in_default.ensures.cases.0)) c.loop-need.invariant

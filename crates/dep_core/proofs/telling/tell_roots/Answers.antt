use Rattle.std.proofs.Common.{None, arith, rules, subst, sym}
use Rattle.dep_core.specs.declared.mark.Mark.{Mark}
use Rattle.dep_core.specs.UnderWay.{mark_of}
use Rattle.dep_core.proofs.ToldMarks.{IsTelling, telling_none, telling_more, telling_all}
use Rattle.dep_core.proofs.telling.tell_roots.Goals as goal

pub loop-node-init : goal.loop-node-init
loop-node-init g c =
    let mark : g.row.N.Denot → Mark g.row.N.Denot = λ node. mark_of node 0 None None in
    subst (λ l. IsTelling mark c.args.roots l c.args.told.now.items c.args.told.now.items) (sym c.into_vec-left.ensures)
    (telling_none mark c.args.roots c.args.told.now.items)

pub loop-node-preserved : goal.loop-node-preserved
loop-node-preserved g c =
    telling_more (λ (node : g.row.N.Denot). mark_of node 0 None None) c.args.roots
    c.loop-node.left.items c.pop.new.self.items c.in-Some.node c.args.told.now.items c.loop-node.told.items
    c.push.new.self.items c.in-Some.ensures.items (search rules) c.loop-node.invariant

pub returns : goal.returns
returns g c =
    telling_all (λ (node : g.row.N.Denot). mark_of node 0 None None) c.args.roots
    c.loop-node.left.items c.args.told.now.items c.loop-node.told.items
    (omega (arith, c.loop-node.left.ok, c.in_default.ensures.cases.0)) c.loop-node.invariant

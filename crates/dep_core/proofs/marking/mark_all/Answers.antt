use Rattle.std.proofs.Common.{arith}
use Rattle.dep_core.specs.Kept.{row_by}
use Rattle.dep_core.proofs.Adding.{marking_none, marking_named, marking_more, marking_all}
use Rattle.dep_core.proofs.marking.mark_all.Goals as goal

pub loop-mark-init : goal.loop-mark-init
loop-mark-init g c =
    let rules = c.args.rules.now in
    marking_none (g.R.Rules.is_root rules)
    (row_by (g.R.Rules.gives rules) (g.R.Rules.awaits rules) (g.R.Rules.meets_in rules)) (g.R.Rules.is_own rules)
    (g.R.Rules.depth_of rules) g.R.Node.Ord.cmp c.args.limits.nodes c.args.limits.depth c.args.told.items
    c.args.marking.now.nodes.marks c.args.marking.now.places c.args.marking.now.nodes.work c.requires.sound
    c.requires.named

pub mark_one-requires-clause-named : goal.mark_one-requires-clause-named
mark_one-requires-clause-named g c =
    let rules = c.args.rules.now in
    marking_named (g.R.Rules.is_root rules)
    (row_by (g.R.Rules.gives rules) (g.R.Rules.awaits rules) (g.R.Rules.meets_in rules)) (g.R.Rules.is_own rules)
    (g.R.Rules.depth_of rules) g.R.Node.Ord.cmp c.args.limits.nodes c.args.limits.depth c.args.told.items
    c.loop-mark.told.items c.pop.new.self.items c.in-Some.mark c.args.marking.now.nodes.marks
    c.loop-mark.marking.nodes.marks
    c.loop-mark.marking.places c.args.marking.now.nodes.work c.loop-mark.marking.nodes.work c.in-Some.ensures.items
    c.loop-mark.invariant

pub loop-mark-preserved : goal.loop-mark-preserved
loop-mark-preserved g c =
    let rules = c.args.rules.now in
    marking_more (g.R.Rules.is_root rules)
    (row_by (g.R.Rules.gives rules) (g.R.Rules.awaits rules) (g.R.Rules.meets_in rules)) (g.R.Rules.is_own rules)
    (g.R.Rules.depth_of rules) g.R.Node.Ord.cmp c.args.limits.nodes c.args.limits.depth c.args.told.items
    c.loop-mark.told.items c.pop.new.self.items c.in-Some.mark c.args.marking.now.nodes.marks
    c.loop-mark.marking.nodes.marks
    c.mark_one.new.marking.nodes.marks c.loop-mark.marking.places c.mark_one.new.marking.places
    c.args.marking.now.nodes.work
    c.loop-mark.marking.nodes.work c.mark_one.new.marking.nodes.work c.in-Some.ensures.items c.loop-mark.invariant
    c.in_ok-mark_one.ensures.marked

pub returns-clause-marked : goal.returns-clause-marked
returns-clause-marked g c =
    let rules = c.args.rules.now in
    marking_all (g.R.Rules.is_root rules)
    (row_by (g.R.Rules.gives rules) (g.R.Rules.awaits rules) (g.R.Rules.meets_in rules)) (g.R.Rules.is_own rules)
    (g.R.Rules.depth_of rules) g.R.Node.Ord.cmp c.args.limits.nodes c.args.limits.depth c.args.told.items
    c.loop-mark.told.items c.args.marking.now.nodes.marks c.loop-mark.marking.nodes.marks c.loop-mark.marking.places
    c.args.marking.now.nodes.work c.loop-mark.marking.nodes.work
    (omega (arith, c.loop-mark.told.ok, c.in_default.ensures.cases.0)) c.loop-mark.invariant

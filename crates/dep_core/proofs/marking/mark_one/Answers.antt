use Rattle.std.proofs.Common.{sym, ◌∙◌}
use Rattle.std.specs.BTreeMap.{get}
use Rattle.dep_core.specs.Kept.{row_by}
use Rattle.dep_core.specs.Marks.{nodes_of}
use Rattle.dep_core.proofs.Lists.{get_contains}
use Rattle.dep_core.proofs.Adding.{has_place, marked_already}
use Rattle.dep_core.proofs.marking.mark_one.Goals as goal

pub returns-then-contains_key-clause-marked : goal.returns-then-contains_key-clause-marked
returns-then-contains_key-clause-marked g c =
    let rules = c.args.rules.now in
    let there = has_place (get g.R.Node.Ord.cmp c.args.marking.now.places c.args.mark.node)
    (sym c.contains_key.ensures ∙ c.if-contains_key.true) in
    marked_already (g.R.Rules.is_root rules)
    (row_by (g.R.Rules.gives rules) (g.R.Rules.awaits rules) (g.R.Rules.meets_in rules)) (g.R.Rules.is_own rules)
    (g.R.Rules.depth_of rules) g.R.Node.Ord.cmp c.args.limits.nodes c.args.limits.depth c.args.marking.now.nodes.marks
    c.args.marking.now.places c.args.mark c.args.marking.now.nodes.work c.requires.sound
    (get_contains (nodes_of c.args.marking.now.nodes.marks) there.0 c.args.mark.node
    (c.requires.sound.found c.args.mark.node there.0 there.1))

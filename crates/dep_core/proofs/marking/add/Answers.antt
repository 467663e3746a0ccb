use Rattle.std.proofs.Common.{arith, refl}
use Rattle.dep_core.specs.Kept.{row_by}
use Rattle.dep_core.specs.Marks.{nodes_of}
use Rattle.dep_core.proofs.Adding.{depth_passes, marked_push, named_own, nodes_pass}
use Rattle.dep_core.proofs.marking.add.Goals as goal

pub depth-requires : goal.depth-requires
depth-requires g c =
    let rules = c.args.rules.now in
    named_own (g.R.Rules.is_root rules) (g.R.Rules.is_own rules) (g.R.Rules.gives rules) (g.R.Rules.awaits rules)
    (g.R.Rules.meets_in rules) (g.met.R.Rules.own_roots rules) (g.met.R.Rules.own_gives rules)
    (g.met.R.Rules.own_awaits rules) (g.met.R.Rules.own_meets rules) (nodes_of c.args.marking.now.nodes.marks)
    c.requires.sound.own c.args.mark.node c.args.mark.rule c.args.mark.from c.args.mark.also c.requires.named

pub append-requires-clause-own : goal.append-requires-clause-own
append-requires-clause-own g c =
    let rules = c.args.rules.now in
    named_own (g.R.Rules.is_root rules) (g.R.Rules.is_own rules) (g.R.Rules.gives rules) (g.R.Rules.awaits rules)
    (g.R.Rules.meets_in rules) (g.met.R.Rules.own_roots rules) (g.met.R.Rules.own_gives rules)
    (g.met.R.Rules.own_awaits rules) (g.met.R.Rules.own_meets rules) (nodes_of c.args.marking.now.nodes.marks)
    c.requires.sound.own c.args.mark.node c.args.mark.rule c.args.mark.from c.args.mark.also c.requires.named

pub returns-then-limits-depth-clause-fault : goal.returns-then-limits-depth-clause-fault
returns-then-limits-depth-clause-fault g c =
    let rules = c.args.rules.now in
    depth_passes (g.R.Rules.is_root rules)
    (row_by (g.R.Rules.gives rules) (g.R.Rules.awaits rules) (g.R.Rules.meets_in rules)) (g.R.Rules.is_own rules)
    (g.R.Rules.depth_of rules) g.R.Node.Ord.cmp c.args.limits.nodes c.args.limits.depth c.args.marking.now.nodes.marks
    c.args.marking.now.places c.args.mark c.requires.sound c.requires.named c.requires.unmarked
    (omega (arith, c.depth.ensures))

pub returns-then-limits-len-clause-fault : goal.returns-then-limits-len-clause-fault
returns-then-limits-len-clause-fault g c =
    let rules = c.args.rules.now in (
      refl,
      nodes_pass (g.R.Rules.is_root rules)
          (row_by (g.R.Rules.gives rules) (g.R.Rules.awaits rules) (g.R.Rules.meets_in rules)) (g.R.Rules.is_own rules)
          (g.R.Rules.depth_of rules) g.R.Node.Ord.cmp c.args.limits.nodes c.args.limits.depth
          c.args.marking.now.nodes.marks
          c.args.marking.now.places c.args.mark c.requires.sound c.requires.named c.requires.unmarked
          (omega (arith, c.depth.ensures)) (omega (arith, c.len.ensures)),
    )

pub returns-in-Ok-clause-marked : goal.returns-in-Ok-clause-marked
returns-in-Ok-clause-marked g c =
    let rules = c.args.rules.now in
    marked_push (g.R.Rules.is_root rules)
    (row_by (g.R.Rules.gives rules) (g.R.Rules.awaits rules) (g.R.Rules.meets_in rules)) (g.R.Rules.is_own rules)
    (g.R.Rules.depth_of rules) g.R.Node.Ord.cmp c.args.limits.nodes c.args.limits.depth c.args.marking.now.nodes.marks
    c.args.marking.now.places c.append.new.marking.places c.args.mark c.args.marking.now.nodes.work
    g.met.R.Node.Ord.total g.met.R.Rules.one_node c.requires.sound c.requires.named c.requires.unmarked
    (named_own (g.R.Rules.is_root rules) (g.R.Rules.is_own rules) (g.R.Rules.gives rules) (g.R.Rules.awaits rules)
    (g.R.Rules.meets_in rules) (g.met.R.Rules.own_roots rules) (g.met.R.Rules.own_gives rules)
    (g.met.R.Rules.own_awaits rules) (g.met.R.Rules.own_meets rules) (nodes_of c.args.marking.now.nodes.marks)
    c.requires.sound.own c.args.mark.node c.args.mark.rule c.args.mark.from c.args.mark.also c.requires.named)
    (omega (arith, c.depth.ensures)) (omega (arith, c.len.ensures)) c.in-Ok.ensures.places
    c.append.new.marking.nodes.marks
    c.in-Ok.ensures.marks c.append.new.marking.nodes.work c.in-Ok.ensures.work

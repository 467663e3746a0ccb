use Rattle.std.proofs.Common.{◌<◌, length}
use Rattle.std.proofs.lemmas.Result.{on_ok_weaker}
use Rattle.std.proofs.lemmas.List.Elements.{All-head}
use Rattle.dep_core.specs.Kept.{row_by}
use Rattle.dep_core.specs.Marks.{nodes_of}
use Rattle.dep_core.specs.UnderWay.{IsNamed}
use Rattle.dep_core.proofs.Advancing.{advanced}
use Rattle.dep_core.proofs.analysis.handle.Goals as goal

pub give-requires-clause-place : goal.give-requires-clause-place
give-requires-clause-place g c =
    All-head (λ p. p < length (nodes_of c.args.marking.now.nodes.marks)) c.args.place c.args.marking.now.nodes.work
    c.requires.under_way.works

pub returns-in-Ok-clause-under_way : goal.returns-in-Ok-clause-under_way
returns-in-Ok-clause-under_way g c =
    let rules = c.args.rules.now in
    on_ok_weaker c.mark_all.result
    (λ m.
    advanced (g.R.Rules.is_root rules) (g.R.Rules.gives rules) (g.R.Rules.awaits rules) (g.R.Rules.meets_in rules)
    (g.R.Rules.can_seek rules) (g.R.Rules.can_be_sought rules) g.R.Node.Ord.cmp
    (IsNamed (g.R.Rules.is_root rules)
    (row_by (g.R.Rules.gives rules) (g.R.Rules.awaits rules) (g.R.Rules.meets_in rules))
    (nodes_of c.args.marking.now.nodes.marks))
    (nodes_of c.args.marking.now.nodes.marks) (nodes_of c.mark_all.new.marking.nodes.marks) c.args.place
    c.args.marking.now.nodes.work c.mark_all.new.marking.nodes.work c.in-Ok.told.items c.args.pending.now.waiting
    c.give.new.pending.waiting c.args.pending.now.seeking.items c.give.new.pending.seeking.items
    c.args.pending.now.sought.items c.give.new.pending.sought.items c.requires.under_way c.in-Ok.ensures m.grows m.told)
    c.mark_all.ensures.marked

pub returns-in-Ok-clause-sound : goal.returns-in-Ok-clause-sound
returns-in-Ok-clause-sound g c = on_ok_weaker c.mark_all.result (λ m. m.sound) c.mark_all.ensures.marked

pub returns-in-Ok-clause-balance : goal.returns-in-Ok-clause-balance
returns-in-Ok-clause-balance g c = on_ok_weaker c.mark_all.result (λ m. m.grows.balance) c.mark_all.ensures.marked

use Rattle.std.proofs.Common.{[], All, List, ℕ, ap, sym, subst}
use Rattle.dep_core.specs.Kept.{row_by}
use Rattle.dep_core.specs.Marks.{nodes_of}
use Rattle.dep_core.specs.UnderWay.{Grows, IsNamed, IsUnderWay}
use Rattle.dep_core.proofs.Adding.{sound_none}
use Rattle.dep_core.proofs.Advancing.{begun}
use Rattle.dep_core.proofs.analysis.run.Goals as goal

pub mark_all-requires-clause-sound : goal.mark_all-requires-clause-sound
mark_all-requires-clause-sound g c =
    let rules = c.args.rules.now in
    sound_none (g.R.Rules.is_root rules)
    (row_by (g.R.Rules.gives rules) (g.R.Rules.awaits rules) (g.R.Rules.meets_in rules)) (g.R.Rules.is_own rules)
    (g.R.Rules.depth_of rules) g.R.Node.Ord.cmp c.args.limits.nodes c.args.limits.depth c.args.marking.now.nodes.marks
    c.args.marking.now.places c.requires.marks c.requires.places

pub mark_all-requires-clause-named : goal.mark_all-requires-clause-named
mark_all-requires-clause-named g c =
    let rules = c.args.rules.now in
    subst (λ l. All (IsNamed (g.R.Rules.is_root rules)
    (row_by (g.R.Rules.gives rules) (g.R.Rules.awaits rules) (g.R.Rules.meets_in rules)) (nodes_of l))
    c.in-Ok.told.items)
    (sym c.requires.marks) c.in-Ok.ensures.named

pub settle-requires-clause-under_way : goal.settle-requires-clause-under_way
settle-requires-clause-under_way g c =
    let rules = c.args.rules.now in
    let marked = c.in_ok-mark_all.ensures.marked in
    let ms : List g.row.R-Node.Denot = nodes_of c.mark_all.new.marking.nodes.marks in
    let work : List ℕ = c.mark_all.new.marking.nodes.work in
    let grows : Grows (nodes_of c.args.marking.now.nodes.marks) ms [] work =
    subst (λ w. Grows (nodes_of c.args.marking.now.nodes.marks) ms w work) c.requires.work marked.grows in
    let both : IsUnderWay (g.R.Rules.is_root rules) (g.R.Rules.gives rules) (g.R.Rules.awaits rules)
    (g.R.Rules.meets_in rules) (g.R.Rules.can_seek rules) (g.R.Rules.can_be_sought rules) g.R.Node.Ord.cmp ms work
    c.new.result [] [] =
    begun (g.R.Rules.is_root rules) (g.R.Rules.gives rules) (g.R.Rules.awaits rules) (g.R.Rules.meets_in rules)
    (g.R.Rules.can_seek rules) (g.R.Rules.can_be_sought rules) g.R.Node.Ord.cmp
    (nodes_of c.args.marking.now.nodes.marks) ms work c.in-Ok.told.items c.new.result (ap nodes_of c.requires.marks)
    c.new.ensures c.in-Ok.ensures.roots grows marked.told in
    subst (λ l. IsUnderWay (g.R.Rules.is_root rules) (g.R.Rules.gives rules) (g.R.Rules.awaits rules)
    (g.R.Rules.meets_in rules) (g.R.Rules.can_seek rules) (g.R.Rules.can_be_sought rules) g.R.Node.Ord.cmp ms work
    c.new.result c.new-2.result.items l) (sym c.new-3.ensures.items)
    (subst (λ l. IsUnderWay (g.R.Rules.is_root rules) (g.R.Rules.gives rules) (g.R.Rules.awaits rules)
    (g.R.Rules.meets_in rules) (g.R.Rules.can_seek rules) (g.R.Rules.can_be_sought rules) g.R.Node.Ord.cmp ms work
    c.new.result l []) (sym c.new-2.ensures.items) both)

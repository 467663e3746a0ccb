use Rattle.std.proofs.Common.{◌∷◌, ℕ, List, length, ap, sym, arith, subst}
use Rattle.std.proofs.lemmas.List.Sorted.{length_permutation}
use Rattle.dep_core.specs.Kept.{IsClosed, row_by}
use Rattle.dep_core.specs.Marks.{nodes_of}
use Rattle.dep_core.specs.UnderWay.{IsSound, IsUnderWay}
use Rattle.dep_core.proofs.Advancing.{ended, reordered}
use Rattle.dep_core.proofs.analysis.settle.Goals as goal

pub handle-requires-clause-sound : goal.handle-requires-clause-sound
handle-requires-clause-sound g c =
    let rules = c.args.rules.now in
    subst (λ ms. IsSound (g.R.Rules.is_root rules)
    (row_by (g.R.Rules.gives rules) (g.R.Rules.awaits rules) (g.R.Rules.meets_in rules)) (g.R.Rules.is_own rules)
    (g.R.Rules.depth_of rules) g.R.Node.Ord.cmp c.args.limits.nodes c.args.limits.depth ms c.loop-place.marking.places)
    (sym c.in-Some.ensures.marks) c.loop-place.invariant.sound

pub handle-requires-clause-under_way : goal.handle-requires-clause-under_way
handle-requires-clause-under_way g c =
    let rules = c.args.rules.now in
    let work : List ℕ = c.in-Some.place ∷ c.next.new.nodes.work in
    subst (λ ms. IsUnderWay (g.R.Rules.is_root rules) (g.R.Rules.gives rules) (g.R.Rules.awaits rules)
    (g.R.Rules.meets_in rules) (g.R.Rules.can_seek rules) (g.R.Rules.can_be_sought rules) g.R.Node.Ord.cmp
    (nodes_of ms) work c.loop-place.pending.waiting c.loop-place.pending.seeking.items
    c.loop-place.pending.sought.items) (sym c.in-Some.ensures.marks)
    (reordered (g.R.Rules.is_root rules) (g.R.Rules.gives rules) (g.R.Rules.awaits rules) (g.R.Rules.meets_in rules)
    (g.R.Rules.can_seek rules) (g.R.Rules.can_be_sought rules) g.R.Node.Ord.cmp
    (nodes_of c.loop-place.marking.nodes.marks) c.loop-place.marking.nodes.work work c.loop-place.pending.waiting
    c.loop-place.pending.seeking.items c.loop-place.pending.sought.items c.in-Some.ensures.work
    c.loop-place.invariant.under_way)

pub loop-place-smaller : goal.loop-place-smaller
loop-place-smaller g c =
    let work : List ℕ = c.in-Some.place ∷ c.next.new.nodes.work in
    omega (
      arith,
      c.in_ok-handle.ensures.balance,
      c.in_ok-handle.ensures.sound.few,
      c.loop-place.invariant.sound.few,
      ap (λ ms. length (nodes_of ms)) c.in-Some.ensures.marks,
      length_permutation c.loop-place.marking.nodes.work work c.in-Some.ensures.work,
    )

pub returns-clause-sound : goal.returns-clause-sound
returns-clause-sound g c =
    let rules = c.args.rules.now in
    subst (λ ms. IsSound (g.R.Rules.is_root rules)
    (row_by (g.R.Rules.gives rules) (g.R.Rules.awaits rules) (g.R.Rules.meets_in rules)) (g.R.Rules.is_own rules)
    (g.R.Rules.depth_of rules) g.R.Node.Ord.cmp c.args.limits.nodes c.args.limits.depth ms c.loop-place.marking.places)
    (sym c.in_default.ensures.marks) c.loop-place.invariant.sound

pub returns-clause-closed : goal.returns-clause-closed
returns-clause-closed g c =
    let rules = c.args.rules.now in
    subst (λ ms. IsClosed (g.R.Rules.is_root rules)
    (row_by (g.R.Rules.gives rules) (g.R.Rules.awaits rules) (g.R.Rules.meets_in rules)) (nodes_of ms))
    (sym c.in_default.ensures.marks)
    (ended (g.R.Rules.is_root rules) (g.R.Rules.gives rules) (g.R.Rules.awaits rules) (g.R.Rules.meets_in rules)
    (g.R.Rules.can_seek rules) (g.R.Rules.can_be_sought rules) g.R.Node.Ord.cmp (g.met.R.Rules.sought_meets rules)
    (nodes_of c.loop-place.marking.nodes.marks) c.loop-place.pending.waiting c.loop-place.pending.seeking.items
    c.loop-place.pending.sought.items
    (subst (λ w. IsUnderWay (g.R.Rules.is_root rules) (g.R.Rules.gives rules) (g.R.Rules.awaits rules)
    (g.R.Rules.meets_in rules) (g.R.Rules.can_seek rules) (g.R.Rules.can_be_sought rules) g.R.Node.Ord.cmp
    (nodes_of c.loop-place.marking.nodes.marks) w c.loop-place.pending.waiting c.loop-place.pending.seeking.items
    c.loop-place.pending.sought.items) c.in_default.ensures.work c.loop-place.invariant.under_way))

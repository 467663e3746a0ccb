use Rattle.std.proofs.Common.{◌≡◌, ◌∷◌, [], ◌++◌, sym, ap, ◌∙◌, subst, arith, length, slice_get, Some}
use Rattle.std.proofs.lemmas.List.{length-map}
use Rattle.std.proofs.lemmas.List.Elements.{All-contains}
use Rattle.std.proofs.lemmas.Option.{slice_get_within}
use Rattle.std.specs.List.{range_with_len}
use Rattle.dep_core.specs.declared.mark.Mark.{Mark}
use Rattle.dep_core.specs.Marks.{nodes_of}
use Rattle.dep_core.proofs.Lists.{get_contains}
use Rattle.dep_core.proofs.Chained.{get_map}
use Rattle.dep_core.proofs.InOrder.{AreReadUpTo, reads_next, reads_none, reads_this, reads_all}
use Rattle.dep_core.proofs.nodes.marks_in_order.Goals as goal

pub loop-place-init : goal.loop-place-init
loop-place-init g c =
    let records = c.nodes.inside.records in
    let long : length records ≡ length c.args.nodes.now.marks =
    sym (length-map records (λ r. r.mark)) ∙ ap (λ v. length v.marks) c.nodes.view_is in
    reads_none c.args.nodes.now.marks c.new-marks.result c.into_iter-place-iterator.result c.new-marks.ensures
    (c.into_iter-place-iterator.ensures.into_iter_gives ∙ c.walk-place-items.ensures ∙ c.nodes.invariant.in_order
    ∙ ap (range_with_len 0) long)

pub get-requires : goal.get-requires
get-requires g c =
    let records = c.nodes.inside.records in
    let next = reads_next c.args.nodes.now.marks c.loop-place.marks c.loop-place.place-iterator c.in-Some.place
    c.next.new.self c.loop-place.invariant c.in-Some.ensures.steps in
    omega (
      arith,
      slice_get_within c.args.nodes.now.marks c.in-Some.place next.here next.is,
      length-map records (λ r. r.mark),
      ap (λ v. length v.marks) c.nodes.view_is,
    )

pub copy-requires : goal.copy-requires
copy-requires g c =
    let mark : Mark g.row.R-Node.Denot = c.get.result.now.mark in
    let at : slice_get c.args.nodes.now.marks c.in-Some.place ≡ Some mark =
    ap (λ v. slice_get v.marks c.in-Some.place) (sym c.nodes.view_is)
    ∙ get_map (λ r. r.mark) c.nodes.inside.records c.in-Some.place c.get.result.now c.get.ensures in
    All-contains (g.R.Rules.is_own c.args.rules.now) (nodes_of c.args.nodes.now.marks) mark.node c.requires
    (get_contains (nodes_of c.args.nodes.now.marks) c.in-Some.place mark.node
    (get_map (λ (m : Mark g.row.R-Node.Denot). m.node) c.args.nodes.now.marks c.in-Some.place mark at))

pub loop-place-preserved : goal.loop-place-preserved
loop-place-preserved g c =
    let mark : Mark g.row.R-Node.Denot = c.get.result.now.mark in
    let at : slice_get c.args.nodes.now.marks c.in-Some.place ≡ Some mark =
    ap (λ v. slice_get v.marks c.in-Some.place) (sym c.nodes.view_is)
    ∙ get_map (λ r. r.mark) c.nodes.inside.records c.in-Some.place c.get.result.now c.get.ensures in
    let is : c.push.new.self ≡ c.loop-place.marks ++ mark ∷ [] =
    c.in-Ok.ensures.ok ∙ ap (λ n. c.loop-place.marks ++ record mark { node = n } ∷ []) c.in_ok-node.ensures in
    subst (λ l. AreReadUpTo c.args.nodes.now.marks l c.next.new.self) (sym is)
    (reads_this c.args.nodes.now.marks c.loop-place.marks c.loop-place.place-iterator c.in-Some.place
    c.next.new.self mark c.loop-place.invariant c.in-Some.ensures.steps at)

pub returns : goal.returns
returns g c =
    reads_all c.args.nodes.now.marks c.loop-place.marks c.loop-place.place-iterator c.loop-place.invariant
    c.in-None.ensures.steps.0

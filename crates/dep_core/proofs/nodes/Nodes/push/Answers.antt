use Rattle.std.proofs.Common.{◌∷◌, [], ◌++◌, length, sym, subst, ap, ◌∙◌, arith, lit<}
use Rattle.std.proofs.lemmas.List.{length-map}
use Rattle.dep_core.specs.declared.nodes.NodeRecord.{NodeRecord}
use Rattle.link_lists.specs.Links.{free}
use Rattle.link_lists.specs.Chains.{places}
use Rattle.dep_core.specs.Records.{marked_links, work_links, AreLinked}
use Rattle.dep_core.proofs.Chained.{places_few, readied}
use Rattle.dep_core.proofs.Records.{Grown, comes, kept_by_marked}
use Rattle.dep_core.proofs.nodes.Nodes.push.Goals as goal

pub push_back-requires : goal.push_back-requires
push_back-requires g c =
    let records = c.self.inside.records in
    let x : NodeRecord g.row.N.Denot = record {
      mark = c.args.mark;
      marked = c.free.result;
      work = c.free-2.result;
    } in
    let ready = readied (λ (r : NodeRecord g.row.N.Denot). r.marked) records c.push.new.self x c.free.ensures
    (ap marked_links c.in-Ok.ensures.added) c.self.inside.marked c.in-Ok.place c.in-Ok.ensures.place
    (c.chains_in_a_growing_pool.ensures.sound 0 c.self.inside.marked (marked_links records) free
    c.self.invariant.marked_sound) in
    (lit< tt, (ready.0, (ready.1, ready.2)))

pub push_back-requires-2 : goal.push_back-requires-2
push_back-requires-2 g c =
    let records = c.self.inside.records in
    let x : NodeRecord g.row.N.Denot = record {
      mark = c.args.mark;
      marked = c.free.result;
      work = c.free-2.result;
    } in
    let ready = readied (λ (r : NodeRecord g.row.N.Denot). r.work) records c.push_back.new.pool x c.free-2.ensures
    ((kept_by_marked c.push.new.self c.push_back.new.pool c.push_back.ensures.rests).work
    ∙ ap work_links c.in-Ok.ensures.added) c.self.inside.work c.in-Ok.place c.in-Ok.ensures.place
    (c.chains_in_a_growing_pool.ensures.sound 1 c.self.inside.work (work_links records) free
    c.self.invariant.work_sound) in
    (lit< tt, (ready.0, (ready.1, ready.2)))

pub overflow_add-self : goal.overflow_add-self
overflow_add-self g c =
    let records = c.self.inside.records in
    record {
      fits = omega (
        arith,
        c.self.invariant.count,
        places_few c.self.inside.work (work_links records),
        length-map records (λ r. r.work),
        length-map records (λ r. r.mark),
        ap (λ v. length v.marks) c.self.view_is,
        c.requires.few,
      );
    }

pub invariant_of-self : goal.invariant_of-self
invariant_of-self g c =
    subst (λ rs. AreLinked rs c.self.inside.marked c.self.inside.work c.self.inside.waiting)
    (sym c.in_default.ensures.err) c.self.invariant

pub invariant_of-self-2 : goal.invariant_of-self-2
invariant_of-self-2 g c =
    let records = c.self.inside.records in
    let x : NodeRecord g.row.N.Denot = record {
      mark = c.args.mark;
      marked = c.free.result;
      work = c.free-2.result;
    } in
    let law = c.chains_in_a_growing_pool.ensures in
    let grown : Grown records c.self.inside.marked c.self.inside.work = record {
      marked_sound = law.sound 0 c.self.inside.marked (marked_links records) free c.self.invariant.marked_sound;
      marked_places = law.places 0 c.self.inside.marked (marked_links records) free c.self.invariant.marked_sound;
      work_sound = law.sound 1 c.self.inside.work (work_links records) free c.self.invariant.work_sound;
      work_places = law.places 1 c.self.inside.work (work_links records) free c.self.invariant.work_sound;
    } in
    let after = comes records c.push.new.self c.push_back.new.pool c.push_back-2.new.pool x c.self.inside.marked
    c.self.inside.work c.free.ensures c.free-2.ensures c.in-Ok.ensures.added grown c.push_back.ensures.rests
    c.push_back-2.ensures.rests c.push_back.new.self c.push_back-2.new.self c.self.inside.waiting c.in-Ok.place
    c.self.invariant c.in-Ok.ensures.place c.push_back.ensures.places c.push_back.ensures.sound
    c.push_back-2.ensures.places c.push_back-2.ensures.sound in
    after.linked

pub returns-clause-marks : goal.returns-clause-marks
returns-clause-marks g c =
    let records = c.self.inside.records in
    let x : NodeRecord g.row.N.Denot = record {
      mark = c.args.mark;
      marked = c.free.result;
      work = c.free-2.result;
    } in
    let law = c.chains_in_a_growing_pool.ensures in
    let grown : Grown records c.self.inside.marked c.self.inside.work = record {
      marked_sound = law.sound 0 c.self.inside.marked (marked_links records) free c.self.invariant.marked_sound;
      marked_places = law.places 0 c.self.inside.marked (marked_links records) free c.self.invariant.marked_sound;
      work_sound = law.sound 1 c.self.inside.work (work_links records) free c.self.invariant.work_sound;
      work_places = law.places 1 c.self.inside.work (work_links records) free c.self.invariant.work_sound;
    } in
    let after = comes records c.push.new.self c.push_back.new.pool c.push_back-2.new.pool x c.self.inside.marked
    c.self.inside.work c.free.ensures c.free-2.ensures c.in-Ok.ensures.added grown c.push_back.ensures.rests
    c.push_back-2.ensures.rests c.push_back.new.self c.push_back-2.new.self c.self.inside.waiting c.in-Ok.place
    c.self.invariant c.in-Ok.ensures.place c.push_back.ensures.places c.push_back.ensures.sound
    c.push_back-2.ensures.places c.push_back-2.ensures.sound in
    after.marks ∙ ap (λ v. v.marks ++ c.args.mark ∷ []) c.self.view_is

pub returns-clause-work : goal.returns-clause-work
returns-clause-work g c =
    let records = c.self.inside.records in
    let x : NodeRecord g.row.N.Denot = record {
      mark = c.args.mark;
      marked = c.free.result;
      work = c.free-2.result;
    } in
    let law = c.chains_in_a_growing_pool.ensures in
    let grown : Grown records c.self.inside.marked c.self.inside.work = record {
      marked_sound = law.sound 0 c.self.inside.marked (marked_links records) free c.self.invariant.marked_sound;
      marked_places = law.places 0 c.self.inside.marked (marked_links records) free c.self.invariant.marked_sound;
      work_sound = law.sound 1 c.self.inside.work (work_links records) free c.self.invariant.work_sound;
      work_places = law.places 1 c.self.inside.work (work_links records) free c.self.invariant.work_sound;
    } in
    let after = comes records c.push.new.self c.push_back.new.pool c.push_back-2.new.pool x c.self.inside.marked
    c.self.inside.work c.free.ensures c.free-2.ensures c.in-Ok.ensures.added grown c.push_back.ensures.rests
    c.push_back-2.ensures.rests c.push_back.new.self c.push_back-2.new.self c.self.inside.waiting c.in-Ok.place
    c.self.invariant c.in-Ok.ensures.place c.push_back.ensures.places c.push_back.ensures.sound
    c.push_back-2.ensures.places c.push_back-2.ensures.sound in
    after.work_places ∙ ap (λ k. places c.self.inside.work (work_links records) ++ k ∷ [])
    (sym (length-map records (λ r. r.mark))) ∙ ap (λ v. v.work ++ length v.marks ∷ []) c.self.view_is

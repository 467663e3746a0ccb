use Rattle.std.proofs.Common.{◌∷◌, ℕ, List, length, sym, ap, ◌∙◌, subst, arith, lit<}
use Rattle.std.proofs.lemmas.List.Sorted.{length_permutation}
use Rattle.std.specs.List.{range_with_len}
use Rattle.std.specs.List.Sorted.{IsPermutation}
use Rattle.link_lists.specs.Chains.{places, without, IsSound}
use Rattle.dep_core.specs.Records.{work_links}
use Rattle.dep_core.proofs.Records.{kept_by_work}
use Rattle.dep_core.proofs.Chained.{among_get, without_permutes}
use Rattle.dep_core.proofs.nodes.Nodes.take_work.Goals as goal

pub unlink-requires : goal.unlink-requires
unlink-requires g c =
    let records = c.self.inside.records in (
      lit< tt,
      (
        c.self.invariant.work_sound,
        among_get (places c.self.inside.work (work_links records)) c.args.behind c.in_ok-place.place
            (sym c.in_ok-place.ensures),
      ),
    )

pub invariant_of-self : goal.invariant_of-self
invariant_of-self g c =
    let records = c.self.inside.records in let pool = c.unlink.new.pool in
    let before : List ℕ = places c.self.inside.work (work_links records) in
    let same = kept_by_work records pool c.unlink.ensures.rests in
    let taken : IsPermutation before (c.in_ok-place.place ∷ without c.in_ok-place.place before) =
    without_permutes c.in_ok-place.place before c.self.invariant.work_sound.1
    (among_get before c.args.behind c.in_ok-place.place (sym c.in_ok-place.ensures)) in
    record {
      marked_sound = subst (IsSound c.self.inside.marked) (sym same.marked) c.self.invariant.marked_sound;
      work_sound = c.unlink.ensures.sound;
      in_order = ap (places c.self.inside.marked) same.marked ∙ c.self.invariant.in_order
          ∙ ap (range_with_len 0) (sym same.long);
      count = omega (
        arith,
        c.self.invariant.count,
        length_permutation before (c.in_ok-place.place ∷ without c.in_ok-place.place before) taken,
        ap length c.unlink.ensures.places,
      );
    }

pub returns-clause-marks : goal.returns-clause-marks
returns-clause-marks g c =
    (kept_by_work c.self.inside.records c.unlink.new.pool c.unlink.ensures.rests).marks
    ∙ ap (λ v. v.marks) c.self.view_is

pub returns-clause-work : goal.returns-clause-work
returns-clause-work g c =
    let before : List ℕ = places c.self.inside.work (work_links c.self.inside.records) in
    let taken : IsPermutation before (c.in_ok-place.place ∷ without c.in_ok-place.place before) =
    without_permutes c.in_ok-place.place before c.self.invariant.work_sound.1
    (among_get before c.args.behind c.in_ok-place.place (sym c.in_ok-place.ensures)) in
    subst (λ l. IsPermutation l (c.in_ok-place.place ∷ places c.unlink.new.self (work_links c.unlink.new.pool)))
    (ap (λ v. v.work) c.self.view_is)
    (subst (λ l. IsPermutation before (c.in_ok-place.place ∷ l)) (sym c.unlink.ensures.places) taken)

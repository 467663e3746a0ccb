-- What is read of the records of nodes while links change, and what a record behind the others adds.
use Rattle.std.proofs.Common.{◌≡◌, ℕ, suc, ◌+◌, List, [], ◌∷◌, ◌++◌, length, map, refl, sym, ap, ◌∙◌, subst, arith}
use Rattle.std.proofs.lemmas.List.{map-append, length_push}
use Rattle.std.specs.List.{range_with_len}
use Rattle.link_lists.specs.declared.chain.Chain.{Chain}
use Rattle.link_lists.specs.Links.{free}
use Rattle.link_lists.specs.Chains.{places, IsSound}
use Rattle.dep_core.specs.declared.mark.Mark.{Mark}
use Rattle.dep_core.specs.declared.nodes.NodeRecord.{NodeRecord}
use Rattle.dep_core.specs.Records.{marks_of, marked_links, work_links, AreLinked}
use Rattle.dep_core.proofs.Chained.{told_by_rests, long_by_rests, grown_links}
use Rattle.dep_core.proofs.InOrder.{range_push}

module _ {N : Type 0} where
  -- all but the link in the chain of the marked nodes, and all but that in the chain of those that wait
  abbrev pub unmarked : NodeRecord N → NodeRecord N
  unmarked r = record r { marked = free }

  abbrev pub unworked : NodeRecord N → NodeRecord N
  unworked r = record r { work = free }

  -- what stays where the links of the work change
  pub record KeptByWork (rs qs : List (NodeRecord N)) : Type 0 where
    pub marks : marks_of qs ≡ marks_of rs
    pub marked : marked_links qs ≡ marked_links rs
    pub long : length qs ≡ length rs

  pub kept_by_work : (rs qs : List (NodeRecord N)) → map unworked qs ≡ map unworked rs → KeptByWork rs qs
  kept_by_work rs qs e = record {
    marks = told_by_rests (λ r. r.mark) unworked (λ r. refl) rs qs e;
    marked = told_by_rests (λ r. r.marked) unworked (λ r. refl) rs qs e;
    long = long_by_rests unworked rs qs e;
  }

  -- what stays where the links of the marked nodes change
  pub record KeptByMarked (rs qs : List (NodeRecord N)) : Type 0 where
    pub marks : marks_of qs ≡ marks_of rs
    pub work : work_links qs ≡ work_links rs
    pub long : length qs ≡ length rs

  pub kept_by_marked : (rs qs : List (NodeRecord N)) → map unmarked qs ≡ map unmarked rs → KeptByMarked rs qs
  kept_by_marked rs qs e = record {
    marks = told_by_rests (λ r. r.mark) unmarked (λ r. refl) rs qs e;
    work = told_by_rests (λ r. r.work) unmarked (λ r. refl) rs qs e;
    long = long_by_rests unmarked rs qs e;
  }

  -- a record comes behind the others, and its place behind those of both chains
  pub record Comes (records new : List (NodeRecord N)) (marked : Chain 0) (work : Chain 1) (marked' : Chain 0)
      (work' : Chain 1) (waiting : ℕ) (m : Mark N) : Type 0 where
    pub linked : AreLinked new marked' work' (waiting + 1)
    pub marks : marks_of new ≡ marks_of records ++ m ∷ []
    pub work_places : places work' (work_links new) ≡ places work (work_links records) ++ length records ∷ []

  -- the chains of the pool before, in the pool with the record
  pub record Grown (records : List (NodeRecord N)) (marked : Chain 0) (work : Chain 1) : Type 0 where
    pub marked_sound : IsSound marked (marked_links records ++ free ∷ [])
    pub marked_places : places marked (marked_links records ++ free ∷ []) ≡ places marked (marked_links records)
    pub work_sound : IsSound work (work_links records ++ free ∷ [])
    pub work_places : places work (work_links records ++ free ∷ []) ≡ places work (work_links records)

  module _ (records pushed linked new : List (NodeRecord N)) (x : NodeRecord N) (marked : Chain 0) (work : Chain 1)
      (no_marked : x.marked ≡ free) (no_work : x.work ≡ free) (is : pushed ≡ records ++ x ∷ [])
      (grown : Grown records marked work) (first : map unmarked linked ≡ map unmarked pushed)
      (second : map unworked new ≡ map unworked linked) where
    pub pushed_marked : marked_links pushed ≡ marked_links records ++ free ∷ []
    pushed_marked = grown_links (λ r. r.marked) records pushed x no_marked (ap marked_links is)

    pub linked_work : work_links linked ≡ work_links records ++ free ∷ []
    linked_work = grown_links (λ r. r.work) records linked x no_work
        ((kept_by_marked pushed linked first).work ∙ ap work_links is)

    pub comes : (marked' : Chain 0) (work' : Chain 1) (waiting at : ℕ) → AreLinked records marked work waiting
        → at ≡ length records
        → places marked' (marked_links linked) ≡ places marked (marked_links pushed) ++ at ∷ []
        → IsSound marked' (marked_links linked)
        → places work' (work_links new) ≡ places work (work_links linked) ++ at ∷ []
        → IsSound work' (work_links new)
        → Comes records new marked work marked' work' waiting x.mark
    comes marked' work' waiting at are e marked-places marked-sound work-places work-sound =
        let kept = kept_by_marked pushed linked first in
        let kept' = kept_by_work linked new second in
        let long : length new ≡ suc (length records) = omega (
          arith,
          kept'.long,
          kept.long,
          ap length is,
          length_push records x,
        ) in
        let at-is : at ≡ 0 + length records = omega (arith, e) in
        let works : places work' (work_links new) ≡ places work (work_links records) ++ length records ∷ [] =
        work-places ∙ ap (λ ls. places work ls ++ at ∷ []) linked_work ∙ ap (λ l. l ++ at ∷ []) grown.work_places
        ∙ ap (λ k. places work (work_links records) ++ k ∷ []) e in
        let all : places marked' (marked_links new) ≡ range_with_len 0 (length new) =
        ap (places marked') kept'.marked ∙ marked-places
        ∙ ap (λ ls. places marked ls ++ at ∷ []) pushed_marked
        ∙ ap (λ l. l ++ at ∷ []) (grown.marked_places ∙ are.in_order)
        ∙ ap (λ k. range_with_len 0 (length records) ++ k ∷ []) at-is ∙ range_push 0 (length records) ∙ ap
        (range_with_len 0) (sym long) in
        record {
          linked = record {
            marked_sound = subst (IsSound marked') (sym kept'.marked) marked-sound;
            work_sound = work-sound;
            in_order = all;
            count = omega (
              arith,
              are.count,
              ap length works,
              length_push (places work (work_links records)) (length records),
            );
          };
          marks = kept'.marks ∙ kept.marks ∙ ap marks_of is ∙ map-append (λ r. r.mark) records (x ∷ []);
          work_places = works;
        }

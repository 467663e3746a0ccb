-- The records of the marked nodes, and the chains through them.
use Rattle.std.specs.Prelude.{◌≡◌, ℕ, List, length, map}
use Rattle.std.specs.List.{range_with_len}
use Rattle.link_lists.specs.declared.link.Link.{Link}
use Rattle.link_lists.specs.declared.chain.Chain.{Chain}
use Rattle.link_lists.specs.Chains.{places, IsSound}
use Rattle.dep_core.specs.declared.mark.Mark.{Mark}
use Rattle.dep_core.specs.declared.nodes.NodeRecord.{NodeRecord}

module _ {N : Type 0} where
  abbrev pub marks_of : List (NodeRecord N) → List (Mark N)
  marks_of records = map (λ r. r.mark) records

  -- the links in the chain of the marked nodes
  abbrev pub marked_links : List (NodeRecord N) → List Link
  marked_links records = map (λ r. r.marked) records

  -- the links in the chain of those that wait for work
  abbrev pub work_links : List (NodeRecord N) → List Link
  work_links records = map (λ r. r.work) records

-- The first chain has all records in the order of their places, and the second those that wait for work, so many.
pub record AreLinked {N : Type 0} (records : List (NodeRecord N)) (marked : Chain 0) (work : Chain 1) (waiting : ℕ) :
    Type 0
  where
    pub marked_sound : IsSound marked (marked_links records)
    pub work_sound : IsSound work (work_links records)
    pub in_order : places marked (marked_links records) ≡ range_with_len 0 (length records)
    pub count : waiting ≡ length (places work (work_links records))

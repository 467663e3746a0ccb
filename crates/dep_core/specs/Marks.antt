-- Marks: the kept nodes in the order of their derivation, each with the row that gave it; and what the limits allow.
use Rattle.std.specs.Prelude.{◌≡◌, ℕ, ◌+◌, ◌≤◌, ◌<◌, List, [], ◌∷◌, ◌++◌, All, Contains, map, length, slice_get}
use Rattle.std.specs.Prelude.{Option, Some, None}
use Rattle.dep_core.specs.declared.mark.Mark.{Mark}
use Rattle.dep_core.specs.declared.mark.DepFault.{DepFault}
use Rattle.dep_core.specs.declared.mark.DepFault.TheVariants.{NodeLimit, DepthLimit, Memory}
use Rattle.dep_core.specs.Kept.{IsDerivation, IsDerivable}

module _ {N : Type 0} where
  -- the marked nodes, in order
  abbrev pub nodes_of : List (Mark N) → List N
  nodes_of marks = map (λ mark. mark.node) marks

  module _ (root : N → Type 0) (row : List N → N → ℕ → Type 0) where
    -- a row that gives the node by the rule from those that stand at these places before it; or a root, by the rule 0
    abbrev pub NamesRow : List N → N → ℕ → Option ℕ → Option ℕ → Type 0
    NamesRow before n rule None None = root n × (rule ≡ 0)
    NamesRow before n rule None (Some also) = ⊥
    NamesRow before n rule (Some from) None = (a : N) × (slice_get before from ≡ Some a) × row (a ∷ []) n rule
    NamesRow before n rule (Some from) (Some also) =
        (a : N) × (b : N) × (slice_get before from ≡ Some a) × (slice_get before also ≡ Some b) × row (a ∷ b ∷ []) n
        rule

    -- each mark names its row among the nodes before it, and no node is marked twice
    abbrev pub AreMarksFrom : List N → List (Mark N) → Type 0
    AreMarksFrom before [] = Unit {0}
    AreMarksFrom before (m ∷ ms) =
        NamesRow before m.node m.rule m.from m.also × (¬ Contains before m.node)
        × AreMarksFrom (before ++ m.node ∷ []) ms

    abbrev pub AreMarks : List (Mark N) → Type 0
    AreMarks marks = AreMarksFrom [] marks

    module _ (depth : N → ℕ) (most_nodes most_depth : ℕ) where
      -- more nodes than the limit follow one after another, each within the depth
      abbrev pub NodesPass : Type 0
      NodesPass =
          (ns : List N) × IsDerivation root row ns × All (λ n. depth n ≤ most_depth) ns × (most_nodes < length ns)

      -- the node is too deep, and follows from nodes within the depth
      abbrev pub DepthPasses : N → Type 0
      DepthPasses n =
          (most_depth < depth n)
          × ((ns : List N) × IsDerivation root row (ns ++ n ∷ []) × All (λ n. depth n ≤ most_depth) ns)

      -- what a fault of the analysis shows
      abbrev pub IsPassed : DepFault N → Type 0
      IsPassed (NodeLimit count) = (count ≡ most_nodes + 1) × NodesPass
      IsPassed (DepthLimit n) = DepthPasses n
      IsPassed Memory = Unit {0}

      -- no limit is passed, in whatever order the nodes are found
      abbrev pub NonePassed : Type 0
      NonePassed =
          ((n : N) → IsDerivable root row n → depth n ≤ most_depth)
          × ((ns : List N) → IsDerivation root row ns → length ns ≤ most_nodes)

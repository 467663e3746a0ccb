-- Dependency nodes: what follows from what by the rows of some rules, and which nodes are kept.
use Rattle.std.specs.Prelude.{ℕ, ◌⊎◌, List, [], ◌∷◌, ◌++◌, Contains}

module _ {N : Type 0} where
  abbrev pub AreAmong : List N → List N → Type 0
  AreAmong [] ns = Unit {0}
  AreAmong (m ∷ ms) ns = Contains ns m × AreAmong ms ns

  -- a row gives a node by a rule from one node, or from two: because the first awaits the second, or because they meet
  abbrev pub row_by : (N → N → ℕ → Type 0) → (N → N → N → ℕ → Type 0) → (N → N → N → ℕ → Type 0) → List N → N → ℕ
      → Type 0
  row_by gives awaits meets [] n rule = ⊥
  row_by gives awaits meets (a ∷ []) n rule = gives a n rule
  row_by gives awaits meets (a ∷ b ∷ []) n rule = awaits a b n rule ⊎ meets a b n rule
  row_by gives awaits meets (a ∷ b ∷ c ∷ given) n rule = ⊥

  module _ (root : N → Type 0) (row : List N → N → ℕ → Type 0) where
    -- a root, or given by a row from these nodes
    abbrev pub Follows : List N → N → Type 0
    Follows before n = root n ⊎ ((given : List N) × (rule : ℕ) × AreAmong given before × row given n rule)

    -- each node follows from those before it, and none stands twice
    abbrev pub IsDerivationFrom : List N → List N → Type 0
    IsDerivationFrom before [] = Unit {0}
    IsDerivationFrom before (n ∷ ns) = Follows before n × (¬ Contains before n) × IsDerivationFrom (before ++ n ∷ []) ns

    abbrev pub IsDerivation : List N → Type 0
    IsDerivation ns = IsDerivationFrom [] ns

    -- some derivation holds it
    abbrev pub IsDerivable : N → Type 0
    IsDerivable n = (ns : List N) × IsDerivation ns × Contains ns n

    -- it holds the roots, and no row leads out of it
    abbrev pub IsClosed : List N → Type 0
    IsClosed ns =
        ((n : N) → root n → Contains ns n)
        × ((given : List N) (n : N) (rule : ℕ) → AreAmong given ns → row given n rule → Contains ns n)

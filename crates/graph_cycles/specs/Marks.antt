-- Marks of places, and what a walk over a graph knows of marked ones.
use Rattle.std.specs.Prelude.{◌≡◌, ◌⊎◌, ℕ, ◌+◌, ◌<◌, ◌≤◌, Bool, true, false, List, length, count_by, slice_index_or}
use Rattle.std.specs.List.{list_all, Contains}
use Rattle.graph_cycles.specs.Ways.{targets, leads_within, is_on_cycle}

-- a place that is marked or isn't there
abbrev pub is_done : List Bool → ℕ → Bool
is_done marks place = slice_index_or marks place true

-- a place that is there and marked
abbrev pub is_marked : List Bool → ℕ → Bool
is_marked marks place = slice_index_or marks place false

abbrev pub mark_count : List Bool → ℕ
mark_count marks = count_by (λ mark. mark) marks

-- Marked places lead to marked ones alone, and lie on no cycle.
pub record AreOff (graph : List (List ℕ)) (marks : List Bool) : Type 0 where
  pub size : length marks ≡ length graph
  pub closed : (place : ℕ) → is_done marks place ≡ true → list_all (is_done marks) (targets graph place) ≡ true
  pub off : (place : ℕ) → is_marked marks place ≡ true → is_on_cycle graph place ≡ false

-- Marked are the places to which some way leads from a place.
pub record AreReached (graph : List (List ℕ)) (from : ℕ) (marks : List Bool) : Type 0 where
  pub size : length marks ≡ length graph
  pub led : (to : ℕ) → is_marked marks to ≡ true → leads_within (length graph) graph from to ≡ true
  pub all : (to : ℕ) → leads_within (length graph) graph from to ≡ true → is_done marks to ≡ true

-- Places were marked, and each that wasn't before waits now.
pub record Spread (places : List ℕ) (old new : List Bool) (before after : List ℕ) : Type 0 where
  pub size : length new ≡ length old
  pub grown : (place : ℕ) → is_marked old place ≡ true → is_marked new place ≡ true
  pub told : list_all (is_done new) places ≡ true
  pub fresh : (place : ℕ) → is_marked new place ≡ true
      → (is_marked old place ≡ true)
      ⊎ (Contains places place × Contains after place × (mark_count old < mark_count new))
  pub waits : (place : ℕ) → Contains after place → Contains before place ⊎ (is_marked new place ≡ true)
  pub kept : (place : ℕ) → Contains before place → Contains after place
  pub count : mark_count new + length before ≡ mark_count old + length after
  pub more : mark_count old ≤ mark_count new

-- Marked are places to which a way leads over no more edges than there are marks; and where one that waits no longer
-- leads, everything is marked.
pub record AreSpreading (graph : List (List ℕ)) (from : ℕ) (marks : List Bool) (waiting : List ℕ) : Type 0 where
  pub size : length marks ≡ length graph
  pub led : (to : ℕ) → is_marked marks to ≡ true → leads_within (mark_count marks) graph from to ≡ true
  pub waits : (place : ℕ) → Contains waiting place → (place ≡ from) ⊎ (is_marked marks place ≡ true)
  pub closed : (place : ℕ) → (place ≡ from) ⊎ (is_marked marks place ≡ true)
      → Contains waiting place ⊎ (list_all (is_done marks) (targets graph place) ≡ true)

-- Ways between numbered places. A graph has for each place the places that it leads to.
use Rattle.std.specs.Prelude.{ℕ, zero, suc, ◌==◌, ◌||◌, Bool, false, List, [], find, length, slice_index_or, Option}
use Rattle.std.specs.List.{list_any, range_with_len}

-- the places that one leads to; a place that isn't there leads nowhere
abbrev pub targets : List (List ℕ) → ℕ → List ℕ
targets graph place = slice_index_or graph place []

-- a way leads from a place to another, over at least one and at most so many edges
abbrev pub leads_within : ℕ → List (List ℕ) → ℕ → ℕ → Bool
leads_within zero graph from to = false
leads_within (suc left) graph from to =
    list_any (λ next. next == to || leads_within left graph next to) (targets graph from)

-- A place that leads to itself. A way that meets no place twice has no more edges than there are places.
abbrev pub is_on_cycle : List (List ℕ) → ℕ → Bool
is_on_cycle graph place = leads_within (length graph) graph place place

-- The first place that lies on a cycle.
unfoldable pub first_cyclic : List (List ℕ) → Option ℕ
first_cyclic graph = find (is_on_cycle graph) (range_with_len 0 (length graph))

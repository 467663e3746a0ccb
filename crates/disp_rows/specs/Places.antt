-- The places of the array while rows are laid.
use Rattle.std.specs.Prelude.{◌≡◌, ℕ, ◌+◌, ◌^◌, ◌<◌, List, map, length, get_or, Option, None}
use Rattle.disp_rows.specs.declared.place.Place.{Place}
use Rattle.disp_rows.specs.declared.placed.Cell.{Cell}
use Rattle.link_lists.specs.declared.link.Link.{Link}
use Rattle.link_lists.specs.declared.chain.Chain.{Chain}
use Rattle.link_lists.specs.Chains.{places as places_in, IsAmong, IsSound}

abbrev pub cells_of : List Place → List (Option Cell)
cells_of places = map (λ p. p.cell) places

abbrev pub links_of : List Place → List Link
links_of places = map (λ p. p.link) places

-- the cell at a place, if the array has that place and it isn't free
abbrev pub cell_at : List Place → ℕ → Option Cell
cell_at places at = get_or (cells_of places) at None

-- the chain is sound and has each free place
abbrev pub HasFree : Chain 0 → List Place → Type 0
HasFree free places = IsSound free (links_of places)
    × ((at : ℕ) → at < length places → cell_at places at ≡ None → IsAmong at (places_in free (links_of places)))

-- each place has the cell that it had, and new places are free
abbrev pub SameCells : List Place → List Place → Type 0
SameCells places places' = (at : ℕ) → cell_at places' at ≡ cell_at places at

-- the k-th column of a row
abbrev pub column_of : List (ℕ × ℕ) → ℕ → ℕ
column_of cells k = (get_or cells k (0, 0)).0

-- each cell of a row that is laid from a start on comes to a free place, or one behind the end
abbrev pub Fits : List Place → List (ℕ × ℕ) → ℕ → Type 0
Fits places cells start = (k : ℕ) → k < length cells → (start + column_of cells k < 2 ^ 32)
    × (cell_at places (start + column_of cells k) ≡ None)

-- the array has a place for each of them
abbrev pub Reaches : List Place → List (ℕ × ℕ) → ℕ → Type 0
Reaches places cells start = (k : ℕ) → k < length cells → start + column_of cells k < length places

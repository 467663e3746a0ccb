-- Dispatch rows, and what stands in a row at a column.
use Rattle.std.specs.Prelude.{◌≡◌, ℕ, List, [], ◌∷◌, slice_get, Option, Some, None, eqb}
use Rattle.std.specs.Map.{lookup}

-- what stands in a row at a column, if it has such a column
abbrev pub cell_in : List (ℕ × ℕ) → ℕ → Option ℕ
cell_in cells column = lookup (eqb column) cells

-- the same of a row that may be there
abbrev pub cell_if : Option (List (ℕ × ℕ)) → ℕ → Option ℕ
cell_if None column = None
cell_if (Some cells) column = cell_in cells column

-- what stands in the row with a number, if there is one, at a column
abbrev pub cell_of : List (List (ℕ × ℕ)) → ℕ → ℕ → Option ℕ
cell_of rows row column = cell_if (slice_get rows row) column

-- no column stands twice
abbrev pub AreDistinctColumns : List (ℕ × ℕ) → Type 0
AreDistinctColumns [] = Unit {0}
AreDistinctColumns (cell ∷ cells) = (cell_in cells cell.0 ≡ None) × AreDistinctColumns cells

-- What is found in rows that were laid into one array.
use Rattle.std.specs.Prelude.{ℕ, ◌+◌, List, get_or, slice_get, Option, Some, None, eqb, if◌then◌else◌}
use Rattle.disp_rows.specs.declared.placed.Cell.{Cell}
use Rattle.disp_rows.specs.declared.placed.Placed.{Placed}

-- the number that a cell holds, if it belongs to this row
abbrev pub held : Option Cell → ℕ → Option ℕ
held None row = None
held (Some cell) row = (if eqb row cell.row then Some cell.value else None)

-- the number so many places behind the start of a row, if it belongs to the row
abbrev pub held_behind : List (Option Cell) → ℕ → ℕ → Option ℕ → Option ℕ
held_behind cells row column None = None
held_behind cells row column (Some start) = held (get_or cells (start + column) None) row

-- what stands in a row at a column
abbrev pub found : Placed → ℕ → ℕ → Option ℕ
found placed row column = held_behind placed.cells row column (slice_get placed.starts row)

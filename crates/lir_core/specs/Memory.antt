-- Memory as a program at the word level sees it.
use Rattle.std.specs.Prelude.{ℕ, zero, suc, Bool, true, false, ◌==◌, if◌then◌else◌, List, [], ◌∷◌}
use Rattle.std.specs.Prelude.{length, map, replicate, Option, Some, None}
use Rattle.std.specs.List.{list_all}
use Rattle.std.specs.Option.{option_map}
use Rattle.byteorder.specs.Endian.{little_bytes, little_number}

-- What there is at a place of memory: nothing of the program's, a byte that it hasn't written yet, or a byte. What
-- hasn't been written can be copied and not be read.
pub data Cell : Type 0 where
  Missing : Cell
  Unwritten : Cell
  Byte : ℕ → Cell

-- what there is at each place; those below 2 ^ 64 are addresses
abbrev pub FlatMemory : Type 0
FlatMemory = ℕ → Cell

-- nothing at any place
abbrev pub no_memory : FlatMemory
no_memory = λ place. Missing

abbrev pub is_own : Cell → Bool
is_own Missing = false
is_own Unwritten = true
is_own (Byte b) = true

-- what there is at so many places from one on
abbrev pub cells_from : FlatMemory → ℕ → ℕ → List Cell
cells_from memory place zero = []
cells_from memory place (suc count) = memory place ∷ cells_from memory (suc place) count

-- the same, if all of it is the program's
abbrev pub copied : FlatMemory → ℕ → ℕ → Option (List Cell)
copied memory place count =
    if list_all is_own (cells_from memory place count) then Some (cells_from memory place count) else None

-- the bytes in cells, if each holds one
abbrev pub bytes_in : List Cell → Option (List ℕ)
bytes_in [] = Some []
bytes_in (Missing ∷ cells) = None
bytes_in (Unwritten ∷ cells) = None
bytes_in (Byte b ∷ cells) = option_map (λ bytes. b ∷ bytes) (bytes_in cells)

-- the number in so many bytes, the lowest first
abbrev pub number_in : FlatMemory → ℕ → ℕ → Option ℕ
number_in memory place count = option_map (little_number count) (bytes_in (cells_from memory place count))

-- these cells in place of those from a place on
abbrev pub overwritten : FlatMemory → ℕ → List Cell → FlatMemory
overwritten memory place [] = memory
overwritten memory place (cell ∷ cells) =
    λ other. if other == place then cell else overwritten memory (suc place) cells other

-- the same, if what stands there is the program's
abbrev pub with_cells : FlatMemory → ℕ → List Cell → Option FlatMemory
with_cells memory place cells =
    if list_all is_own (cells_from memory place (length cells)) then Some (overwritten memory place cells) else None

-- the lowest bytes of a number, the lowest first
abbrev pub cells_of : ℕ → ℕ → List Cell
cells_of count number = map Byte (little_bytes count number)

-- so many bytes of 0
abbrev pub zeros : ℕ → List Cell
zeros count = replicate count (Byte 0)

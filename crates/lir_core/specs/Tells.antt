-- When one state tells no more than another: what it knows of memory and of dictionaries is so there too, and all else
-- is equal. A program stands in a machine where it tells no more than what the machine holds.
use Rattle.std.specs.Prelude.{◌≡◌, ℕ, IsTrue, Option, Some, None}
use Rattle.std.specs.List.{AllZip}
use Rattle.lir_core.specs.Memory.{Byte, Cell, FlatMemory, Missing, Unwritten, is_own}
use Rattle.lir_core.specs.State.{Frame, WordState}

-- a byte is that byte, and a place of the program's is one
abbrev pub CellTellsNoMore : Cell → Cell → Type 0
CellTellsNoMore Missing cell = Unit {0}
CellTellsNoMore Unwritten cell = IsTrue (is_own cell)
CellTellsNoMore (Byte b) cell = cell ≡ Byte b

abbrev pub MemoryTellsNoMore : FlatMemory → FlatMemory → Type 0
MemoryTellsNoMore memory other = (place : ℕ) → CellTellsNoMore (memory place) (other place)

-- a word that is told is that word
abbrev pub WordTellsNoMore : Option ℕ → Option ℕ → Type 0
WordTellsNoMore None other = Unit {0}
WordTellsNoMore (Some word) other = other ≡ Some word

pub record FrameTellsNoMore (frame other : Frame) : Type 0 where
  pub item : frame.item ≡ other.item
  pub place : frame.place ≡ other.place
  pub address : frame.address ≡ other.address
  pub dictionary : WordTellsNoMore frame.dictionary other.dictionary
  pub entered : frame.entered ≡ other.entered

pub record TellsNoMore (state other : WordState) : Type 0 where
  pub frames : AllZip FrameTellsNoMore state.frames other.frames
  pub memory : MemoryTellsNoMore state.memory other.memory
  pub heap_used : state.heap_used ≡ other.heap_used
  pub under_way : state.under_way ≡ other.under_way

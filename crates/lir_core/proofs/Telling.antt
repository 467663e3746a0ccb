-- What follows where one memory tells no more than another.
use Rattle.std.proofs.Common.{◌≡◌, ◌∙◌, ℕ, zero, suc, List, [], ◌∷◌, Option, Some, None, refl}
use Rattle.std.specs.List.{AllZip}
use Rattle.std.specs.Option.{option_map}
use Rattle.byteorder.specs.Endian.{little_number}
use Rattle.lir_core.specs.Memory.{Byte, Cell, FlatMemory, Missing, Unwritten, bytes_in, cells_from, number_in}
use Rattle.lir_core.specs.State.{Frame, WordState}
use Rattle.lir_core.specs.Tells.{CellTellsNoMore, FrameTellsNoMore, MemoryTellsNoMore, TellsNoMore, WordTellsNoMore}

itself : (cell : Cell) → CellTellsNoMore cell cell
itself Missing = tt
itself Unwritten = refl
itself (Byte b) = refl

through : (a b c : Cell) → CellTellsNoMore a b → CellTellsNoMore b c → CellTellsNoMore a c
through Missing b c first second = tt
through Unwritten Missing c first second = cc
through Unwritten Unwritten c first second = second
through Unwritten (Byte n) c first second = rw second refl
through (Byte n) Missing c first second = cc
through (Byte n) Unwritten c first second = cc
through (Byte n) (Byte m) c first second = second ∙ first

-- of dictionaries and frames
same_word : (word : Option ℕ) → WordTellsNoMore word word
same_word None = tt
same_word (Some word) = refl

through_words : (a b c : Option ℕ) → WordTellsNoMore a b → WordTellsNoMore b c → WordTellsNoMore a c
through_words None b c first second = tt
through_words (Some n) None c first second = cc
through_words (Some n) (Some m) c first second = second ∙ first

same_frame : (frame : Frame) → FrameTellsNoMore frame frame
same_frame frame = record
    { item = refl; place = refl; address = refl; dictionary = same_word frame.dictionary; entered = refl }

through_frame : (a b c : Frame) → FrameTellsNoMore a b → FrameTellsNoMore b c → FrameTellsNoMore a c
through_frame a b c first second = record {
  item = first.item ∙ second.item;
  place = first.place ∙ second.place;
  address = first.address ∙ second.address;
  dictionary = through_words a.dictionary b.dictionary c.dictionary first.dictionary second.dictionary;
  entered = first.entered ∙ second.entered;
}

same_frames : (xs : List Frame) → AllZip FrameTellsNoMore xs xs
same_frames [] = tt
same_frames (x ∷ xs) = (same_frame x, same_frames xs)

through_frames : (xs ys zs : List Frame) → AllZip FrameTellsNoMore xs ys → AllZip FrameTellsNoMore ys zs
    → AllZip FrameTellsNoMore xs zs
through_frames [] [] [] first second = tt
through_frames [] [] (z ∷ zs) first second = absurd second
through_frames [] (y ∷ ys) zs first second = absurd first
through_frames (x ∷ xs) [] zs first second = absurd first
through_frames (x ∷ xs) (y ∷ ys) [] first second = absurd second
through_frames (x ∷ xs) (y ∷ ys) (z ∷ zs) first second =
    (through_frame x y z first.0 second.0, through_frames xs ys zs first.1 second.1)

pub reflexive : (state : WordState) → TellsNoMore state state
reflexive state = record {
  frames = same_frames state.frames;
  memory = λ place. itself (state.memory place);
  heap_used = refl;
  under_way = refl;
}

pub transitive : (a b c : WordState) → TellsNoMore a b → TellsNoMore b c → TellsNoMore a c
transitive a b c first second = record {
  frames = through_frames a.frames b.frames c.frames first.frames second.frames;
  memory = λ place. through (a.memory place) (b.memory place) (c.memory place) (first.memory place)
      (second.memory place);
  heap_used = first.heap_used ∙ second.heap_used;
  under_way = first.under_way ∙ second.under_way;
}

-- the same of lists of cells
pub all_from : (m m' : FlatMemory) → MemoryTellsNoMore m m' → (place count : ℕ)
    → AllZip CellTellsNoMore (cells_from m place count) (cells_from m' place count)
all_from m m' more place zero = tt
all_from m m' more place (suc count) = (more place, all_from m m' more (suc place) count)

in_front : (b : ℕ) (bytes : List ℕ) (o o' : Option (List ℕ)) → ((others : List ℕ) → o ≡ Some others → o' ≡ Some others)
    → option_map (λ others. b ∷ others) o ≡ Some bytes → option_map (λ others. b ∷ others) o' ≡ Some bytes
in_front b bytes None o' same told = cc
in_front b bytes (Some others) o' same told = rw (same others refl) told

same_bytes : (xs ys : List Cell) (bytes : List ℕ) → AllZip CellTellsNoMore xs ys
    → bytes_in xs ≡ Some bytes → bytes_in ys ≡ Some bytes
same_bytes [] [] bytes more told = told
same_bytes [] (y ∷ ys) bytes more told = absurd more
same_bytes (x ∷ xs) [] bytes more told = absurd more
same_bytes (Missing ∷ xs) (y ∷ ys) bytes more told = cc
same_bytes (Unwritten ∷ xs) (y ∷ ys) bytes more told = cc
same_bytes (Byte b ∷ xs) (y ∷ ys) bytes more told =
    rw more.0 (in_front b bytes (bytes_in xs) (bytes_in ys) (λ others e. same_bytes xs ys others more.1 e) told)

numbered : (count n : ℕ) (o o' : Option (List ℕ)) → ((bytes : List ℕ) → o ≡ Some bytes → o' ≡ Some bytes)
    → option_map (little_number count) o ≡ Some n → option_map (little_number count) o' ≡ Some n
numbered count n None o' same told = cc
numbered count n (Some bytes) o' same told = rw (same bytes refl) told

pub same_number : (m m' : FlatMemory) (place count n : ℕ) → MemoryTellsNoMore m m'
    → number_in m place count ≡ Some n → number_in m' place count ≡ Some n
same_number m m' place count n more told =
    numbered count n (bytes_in (cells_from m place count)) (bytes_in (cells_from m' place count))
    (λ bytes e. same_bytes (cells_from m place count) (cells_from m' place count) bytes
    (all_from m m' more place count) e)
    told

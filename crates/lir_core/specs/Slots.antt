-- Where the slots of frames lie in memory, and how operations read and write them.
use Rattle.std.specs.Prelude.{ℕ, ◌+◌, ◌-◌, ◌/◌, ◌%◌, ◌^◌, Bool, not, ◌&&◌, ◌==◌, nat_le, nat_lt, if◌then◌else◌, ℤ}
use Rattle.std.specs.Prelude.{List, [], ◌∷◌, Option, Some, None}
use Rattle.std.specs.List.{list_any}
use Rattle.std.specs.Option.{option_and_then, option_map}
use Rattle.num_core.specs.Run.{Run, Running, Streams}
use Rattle.num_core.specs.declared.kind.Kind.{Kind}
use Rattle.lir_core.specs.Check.{lies_in_frame}
use Rattle.lir_core.specs.Frame.{fixed_bytes}
use Rattle.lir_core.specs.Memory.{FlatMemory, Missing, Unwritten, cells_of, number_in, with_cells}
use Rattle.lir_core.specs.Pieces.{at_place, word}
use Rattle.lir_core.specs.Program.{WordProgram, with}
use Rattle.lir_core.specs.State.{Frame, WordCause, WordState}
use Rattle.lir_core.specs.Values.{value_of}
use Rattle.lir_core.specs.declared.body.LirBody.{LirBody}
use Rattle.lir_core.specs.declared.soundness.Piece.{Piece}
use Rattle.lir_core.specs.declared.op.Place.{Place}
use Rattle.lir_core.specs.declared.op.Place.TheVariants.{Slot, Flat}

abbrev pub is_variable : LirBody → ℕ → Bool
is_variable body slot = list_any (λ var. var == slot) body.vars

-- how many addresses there are
abbrev pub addresses : ℕ
addresses = 2 ^ 64

-- The place in memory of a part of the slots of a frame at an address. The word of a variable lies at its address
-- beyond all addresses, so no address leads to it, and a machine may keep it in a register.
abbrev pub place_in_frame : LirBody → ℕ → Piece → Option ℕ
place_in_frame body address piece =
    if lies_in_frame body.frame piece
    then Some (if is_variable body (piece.from / 8) then addresses + (address + fixed_bytes + piece.from)
    else address + fixed_bytes + piece.from)
    else None

-- whether an address is that of a slot of the frame, and the slot
abbrev pub is_of_slots : LirBody → ℕ → ℕ → Bool
is_of_slots body address place = nat_le (address + fixed_bytes) place && nat_lt place (address + body.frame)

abbrev pub slot_at : ℕ → ℕ → ℕ
slot_at address place = (place - (address + fixed_bytes)) / 8

-- whether a place is the frame's: that of a slot, which is at its address unless it is a variable
abbrev pub is_of_frame : LirBody → ℕ → ℕ → Bool
is_of_frame body address place =
    if nat_lt place addresses
    then is_of_slots body address place && not (is_variable body (slot_at address place))
    else is_of_slots body address (place - addresses) && is_variable body (slot_at address (place - addresses))

-- memory with a new frame, in which nothing is written yet
abbrev pub with_frame : LirBody → ℕ → FlatMemory → FlatMemory
with_frame body address memory = λ place. if is_of_frame body address place then Unwritten else memory place

-- memory without what was the frame's
abbrev pub without_frame : LirBody → ℕ → FlatMemory → FlatMemory
without_frame body address memory = λ place. if is_of_frame body address place then Missing else memory place

-- The innermost frame with its body, and what is around it.
pub record Here : Type 0 where
  pub program : WordProgram
  pub state : WordState
  pub body : LirBody
  pub frame : Frame
  pub below : List Frame

-- the place of a part of the slots of this frame
abbrev pub place_here : Here → Piece → Option ℕ
place_here here piece = place_in_frame here.body here.frame.address piece

-- the word that a slot holds, and the value of a kind
abbrev pub word_in : Here → ℕ → Option ℕ
word_in here slot = option_and_then (λ place. number_in here.state.memory place 8) (place_here here (word slot))

abbrev pub value_in : Here → Kind → ℕ → Option ℤ
value_in here kind slot = option_and_then (value_of kind) (word_in here slot)

-- the words that slots hold
abbrev pub words_in : Here → List ℕ → Option (List ℕ)
words_in here [] = Some []
words_in here (slot ∷ slots) =
    option_and_then (λ first. option_map (λ others. first ∷ others) (words_in here slots)) (word_in here slot)

-- so many bytes behind an address, which wraps, though the bytes don't
abbrev pub place_behind : ℕ → ℕ → ℕ → Option ℕ
place_behind offset bytes base =
    let address = (base + offset) % addresses in if nat_le (address + bytes) addresses then Some address else None

-- where so many bytes lie that an operation names
abbrev pub place_of : Here → Place → ℕ → Option ℕ
place_of here (Slot slot offset) bytes = place_here here (at_place (Slot slot offset) bytes)
place_of here (Flat base offset) bytes = option_and_then (place_behind offset bytes) (word_in here base)

-- the memory with a word in a slot
abbrev pub memory_with : Here → ℕ → ℕ → Option FlatMemory
memory_with here slot value =
    option_and_then (λ place. with_cells here.state.memory place (cells_of 8 value)) (place_here here (word slot))

-- on to a place of the body
abbrev pub goes_to : Here → ℕ → Streams → Run WordState WordCause
goes_to here place streams =
    Running (record here.state { frames = record here.frame { place = place } ∷ here.below }) streams

-- on to the next operation with this memory
abbrev pub goes_on_with : Here → Streams → FlatMemory → Run WordState WordCause
goes_on_with here streams memory =
    Running (record here.state
    { frames = record here.frame { place = here.frame.place + 1 } ∷ here.below; memory = memory }) streams

-- on to the next operation with a word in a slot
abbrev pub gives : Here → ℕ → ℕ → Streams → Run WordState WordCause
gives here slot value streams = with (memory_with here slot value) streams (goes_on_with here streams)

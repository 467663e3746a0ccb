-- The metadata root and its streams: ECMA-335 II.24.2.1 and II.24.2.2.
use Rattle.std.specs.Prelude.{◌≡◌, ◌≤◌, All, ℕ, zero, suc, ◌+◌, ◌*◌, ◌/◌, ◌==◌, false, is_some, if◌then◌else◌, List, []}
use Rattle.std.specs.Prelude.{◌∷◌, ◌++◌, length, map, find, take, drop, position, codes, Option, Some, None, Result, Ok}
use Rattle.std.specs.Prelude.{Err}
use Rattle.std.specs.Option.{option_and_then, option_map}
use Rattle.std.specs.Str.{bytes_eq}
use Rattle.pe_image.specs.Conditions.{Condition, number_at, fits}
use Rattle.pe_image.specs.declared.fault.PeFault.TheVariants.{Cut, NoCliHeader}

-- what the header of a stream says: where its bytes begin, counted from the root, how many they are, and its name
pub record Stream : Type 0 where
  pub at : ℕ
  pub size : ℕ
  pub name : List ℕ

-- the length of the name at a place, which ends with a zero byte
abbrev pub name_length : List ℕ → ℕ → Option ℕ
name_length root at = position (λ byte. byte == 0) (drop at root)

-- the size of the header whose name has this length: offset and size, and the name with its zero byte in multiples of 4
abbrev pub header_size : ℕ → ℕ
header_size length = 8 + (length + 4) / 4 * 4

abbrev pub stream_at : List ℕ → ℕ → ℕ → Stream
stream_at root at length =
    record { at = number_at root 4 at; size = number_at root 4 (at + 4); name = take length (drop (at + 8) root) }

-- a stream in front of those whose headers stand behind its own
abbrev pub in_front : Stream → Result (List Stream) ℕ → Result (List Stream) ℕ
in_front stream (Ok streams) = Ok (stream ∷ streams)
in_front stream (Err at) = Err at

-- the size of the header at a place and the length of the name in it, if it is whole
abbrev pub sized_header : List ℕ → ℕ → ℕ → Option (ℕ × ℕ)
sized_header root at length = if fits root at (header_size length) then Some (header_size length, length) else None

abbrev pub header : List ℕ → ℕ → Option (ℕ × ℕ)
header root at = option_and_then (sized_header root at) (name_length root (at + 8))

abbrev pub with_header : (ℕ → Result (List Stream) ℕ) → List ℕ → ℕ → Option (ℕ × ℕ) → Result (List Stream) ℕ
with_header rest root at None = Err at
with_header rest root at (Some found) = in_front (stream_at root at found.1) (rest (at + found.0))

-- The headers of so many streams, one behind another from a place on, or the place of the first that isn't whole.
abbrev pub streams_at : List ℕ → ℕ → ℕ → Result (List Stream) ℕ
streams_at root zero at = Ok []
streams_at root (suc count) at = with_header (streams_at root count) root at (header root at)

-- the version text stands behind 16 bytes, and behind it flags and the number of streams
abbrev pub streams_place : List ℕ → ℕ
streams_place root = 16 + number_at root 4 12 + 4

abbrev pub stream_count : List ℕ → ℕ
stream_count root = number_at root 2 (16 + number_at root 4 12 + 2)

-- the streams whose headers are whole
abbrev pub whole_streams : Result (List Stream) ℕ → List Stream
whole_streams (Ok streams) = streams
whole_streams (Err at) = []

abbrev pub streams_of : List ℕ → List Stream
streams_of root = whole_streams (streams_at root (stream_count root) (streams_place root))

-- so many headers from a place on are whole
abbrev pub AreWhole : List ℕ → ℕ → ℕ → Type 0
AreWhole root count at = (streams : List Stream) × (streams_at root count at ≡ Ok streams)

-- the bytes of each stream are there
abbrev pub AreWithin : List ℕ → List Stream → Type 0
AreWithin root streams = All (λ stream. stream.at + stream.size ≤ length root) streams

-- the first stream of a name
abbrev pub stream_named : List ℕ → List Stream → Option Stream
stream_named name streams = find (λ stream. bytes_eq stream.name name) streams

-- its bytes
abbrev pub bytes_of : List ℕ → Stream → List ℕ
bytes_of root stream = take stream.size (drop stream.at root)

-- a stream that isn't there is empty
abbrev pub or_empty : Option (List ℕ) → List ℕ
or_empty None = []
or_empty (Some bytes) = bytes

abbrev pub stream : List ℕ → List ℕ → List ℕ
stream name root = or_empty (option_map (bytes_of root) (stream_named name (streams_of root)))

-- ---- the conditions, in their order; a place is told by where it is in the file, in which the root begins at `at`

-- the bytes 42 53 4A 42 begin a root
abbrev pub signature : ℕ
signature = 0x424A5342

abbrev pub root_conditions : ℕ → List ℕ → List Condition
root_conditions at root =
    (fits root 0 4, Cut at) ∷ (number_at root 4 0 == signature, NoCliHeader)
    ∷ (fits root 0 16, Cut at) ∷ (fits root 0 (streams_place root), Cut at) ∷ []

abbrev pub header_conditions : ℕ → Result (List Stream) ℕ → List Condition
header_conditions at (Ok streams) = []
header_conditions at (Err place) = (false, Cut (at + place)) ∷ []

abbrev pub stream_conditions : ℕ → List ℕ → List Stream → List Condition
stream_conditions at root streams = map (λ stream. (fits root stream.at stream.size, Cut (at + stream.at))) streams

-- the stream of the tables is there
abbrev pub has_tables : List Stream → List Condition
has_tables streams = (is_some (stream_named (codes "#~") streams), NoCliHeader) ∷ []

abbrev pub metadata_conditions : ℕ → List ℕ → List Condition
metadata_conditions at root =
    root_conditions at root
    ++ (header_conditions at (streams_at root (stream_count root) (streams_place root))
    ++ (stream_conditions at root (streams_of root) ++ has_tables (streams_of root)))

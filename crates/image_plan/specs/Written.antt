-- What stands in the pieces of an image: words of code and bytes of tables, with the addresses that they name in them.
-- RISC-V unprivileged manual, 2.2 and 2.4 (`auipc`).
use Rattle.std.specs.Prelude.{ℕ, ◌+◌, ◌-◌, ◌*◌, ◌%◌, ◌^◌, pos, ◌-ℤ◌, List, [], ◌∷◌, ◌++◌, drop, length, map, replicate}
use Rattle.std.specs.Prelude.{Option, take, unwrap_or}
use Rattle.byteorder.specs.Endian.{little_bytes}
use Rattle.num_core.specs.Bits.{low_bits}
use Rattle.num_core.specs.declared.bounds.Bounds.{Bounds}
use Rattle.num_core.specs.declared.fix.Fix.{Fix}
use Rattle.num_core.specs.declared.fix.FixKind.{FixKind}
use Rattle.rv_isa.specs.Instructions.{word_of}
use Rattle.rt_code.specs.Code.{code_of, upper}
use Rattle.rt_code.specs.declared.routines.Routine.{Routine}
use Rattle.image_plan.specs.Places.{code_at, code_size, root_at, routines, up_to_word}
use Rattle.image_plan.specs.declared.pieces.CodePiece.{CodePiece}
use Rattle.image_plan.specs.declared.pieces.Pieces.{Pieces}
use Rattle.image_plan.specs.declared.pieces.TablePiece.{TablePiece}

-- which address an item has as one of a kind
abbrev pub Finds : Type 0
Finds = FixKind → ℕ → Option ℕ

-- the address that a fix names
abbrev pub target : Finds → Fix → ℕ
target find fix = unwrap_or (find fix.kind fix.item) 0

-- ---- code

-- how far an address lies from that of an `auipc`, in 32 bits
abbrev pub bits_between : ℕ → ℕ → ℕ
bits_between from to = low_bits 32 (pos to -ℤ pos from)

-- A word of the U format with the upper 20 bits of a distance, and one of the I format with the lower 12, which the
-- machine takes with their sign; so the upper ones are rounded.
abbrev pub with_upper : ℕ → ℕ → ℕ
with_upper bits word = word % 2 ^ 12 + 2 ^ 12 * upper bits

abbrev pub with_lower : ℕ → ℕ → ℕ
with_lower bits word = word % 2 ^ 20 + 2 ^ 20 * (bits % 2 ^ 12)

abbrev pub with_both : ℕ → List ℕ → List ℕ
with_both bits (first ∷ second ∷ words) = with_upper bits first ∷ with_lower bits second ∷ words
with_both bits words = words

-- the words of code that begins at an address, with the address that a fix names in two of them
abbrev pub with_address : Finds → ℕ → Fix → List ℕ → List ℕ
with_address find begin fix words =
    take fix.at words ++ with_both (bits_between (begin + 4 * fix.at) (target find fix)) (drop fix.at words)

abbrev pub with_addresses : Finds → ℕ → List Fix → List ℕ → List ℕ
with_addresses find begin [] words = words
with_addresses find begin (fix ∷ fixes) words =
    with_addresses find begin fixes (with_address find begin fix words)

-- words as bytes, the lowest first
abbrev pub bytes_of : List ℕ → List ℕ
bytes_of [] = []
bytes_of (word ∷ words) = little_bytes 4 word ++ bytes_of words

abbrev pub code_bytes : Finds → ℕ → List CodePiece → List ℕ
code_bytes find at [] = []
code_bytes find at (piece ∷ pieces) =
    bytes_of (with_addresses find at piece.code.fixes piece.code.words)
    ++ code_bytes find (at + code_size piece) pieces

abbrev pub routine_bytes : List Routine → List ℕ
routine_bytes [] = []
routine_bytes (which ∷ rest) = bytes_of (map word_of (code_of which)) ++ routine_bytes rest

-- what `start` finds in front of its code
abbrev pub front : Pieces → Bounds → List ℕ
front pieces bounds = little_bytes 8 (root_at pieces) ++ little_bytes 8 bounds.heap ++ little_bytes 8 bounds.stack

-- what stands behind the headers in the first segment
abbrev pub text_with : Finds → Pieces → Bounds → List ℕ
text_with find pieces bounds = front pieces bounds ++ (routine_bytes routines ++ code_bytes find code_at pieces.code)

-- ---- tables

-- the bytes of a table with the address that a fix names in eight of them
abbrev pub with_number : Finds → Fix → List ℕ → List ℕ
with_number find fix bytes =
    take fix.at bytes ++ little_bytes 8 (target find fix) ++ drop (fix.at + 8) bytes

abbrev pub with_numbers : Finds → List Fix → List ℕ → List ℕ
with_numbers find [] bytes = bytes
with_numbers find (fix ∷ fixes) bytes = with_numbers find fixes (with_number find fix bytes)

-- zeros up to the next multiple of 8
abbrev pub padding : List ℕ → List ℕ
padding bytes = replicate (up_to_word (length bytes) - length bytes) 0

abbrev pub table_bytes : Finds → List TablePiece → List ℕ
table_bytes find [] = []
table_bytes find (table ∷ tables) =
    (with_numbers find table.fixes table.bytes ++ padding table.bytes) ++ table_bytes find tables

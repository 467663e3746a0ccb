-- Where the pieces of an image lie in memory, and which address each name has: System V gABI, chapter "Program Loading".
use Rattle.std.specs.Prelude.{ℕ, ◌+◌, ◌-◌, ◌*◌, ◌/◌, ◌==◌, ◌&&◌, Bool, if◌then◌else◌, List, [], ◌∷◌, ◌++◌}
use Rattle.std.specs.Prelude.{length, map, slice_get, Option, Some, None, unwrap_or}
use Rattle.num_core.specs.declared.bounds.Bounds.{Bounds}
use Rattle.num_core.specs.declared.fix.FixKind.{FixKind}
use Rattle.num_core.specs.declared.fix.FixKind.TheVariants.{Routine as ARoutine, Code as ABody, Dict, Item}
use Rattle.lir_core.specs.Frame.{fixed_bytes}
use Rattle.rt_code.specs.Code.{code_of}
use Rattle.rt_code.specs.declared.routines.Routine.{Routine}
use Rattle.rt_code.specs.declared.routines.Routine.TheVariants.{Start, End, WriteByte, ReadByte, StackBound, HeapBound}
use Rattle.rt_code.specs.declared.routines.Routine.TheVariants.{Unhandled}
use Rattle.elf_file.specs.Elf.{base, headers_size, up_to_page}
use Rattle.image_plan.specs.declared.names.Name.{Name}
use Rattle.image_plan.specs.declared.pieces.CodePiece.{CodePiece}
use Rattle.image_plan.specs.declared.pieces.Pieces.{Pieces}
use Rattle.image_plan.specs.declared.pieces.TablePiece.{TablePiece}

-- ---- one behind another

-- where pieces of so many bytes begin, the first at an address
abbrev pub begins : ℕ → List ℕ → List ℕ
begins at [] = []
begins at (size ∷ sizes) = at ∷ begins (at + size) sizes

-- where the last of them ends
abbrev pub end_of : ℕ → List ℕ → ℕ
end_of at [] = at
end_of at (size ∷ sizes) = end_of (at + size) sizes

-- ---- the first segment: headers, what `start` finds in front of its code, the routines, the code of bodies

-- behind the headers stand the address of the root and the two bounds, in words of 8 bytes
abbrev pub front_at : ℕ
front_at = base + headers_size

abbrev pub front_size : ℕ
front_size = 24

-- the routines by their numbers
abbrev pub routines : List Routine
routines = Start ∷ End ∷ WriteByte ∷ ReadByte ∷ StackBound ∷ HeapBound ∷ Unhandled ∷ []

abbrev pub routine_size : Routine → ℕ
routine_size which = 4 * length (code_of which)

abbrev pub routines_at : ℕ
routines_at = front_at + front_size

abbrev pub routine_begins : List ℕ
routine_begins = begins routines_at (map routine_size routines)

abbrev pub code_at : ℕ
code_at = end_of routines_at (map routine_size routines)

abbrev pub code_size : CodePiece → ℕ
code_size piece = 4 * length piece.code.words

abbrev pub text_end : Pieces → ℕ
text_end pieces = end_of code_at (map code_size pieces.code)

-- ---- the second segment, from the next page on: tables at multiples of 8, and behind them zeros

abbrev pub up_to_word : ℕ → ℕ
up_to_word n = (n + 7) / 8 * 8

abbrev pub table_size : TablePiece → ℕ
table_size table = up_to_word (length table.bytes)

-- the second segment stands in the file as far behind the first as in memory
abbrev pub tables_at : Pieces → ℕ
tables_at pieces = base + up_to_page (text_end pieces - base)

abbrev pub tables_end : Pieces → ℕ
tables_end pieces = end_of (tables_at pieces) (map table_size pieces.tables)

abbrev pub root_at : Pieces → ℕ
root_at pieces = unwrap_or (slice_get (begins (tables_at pieces) (map table_size pieces.tables)) pieces.root) 0

-- The heap begins where the tables end, and the stack lies behind it. Behind the stack's end there are as many bytes as
-- each frame has for the machine, into which routines may write where no frame is left.
abbrev pub zeros : Bounds → ℕ
zeros bounds = bounds.heap + bounds.stack + fixed_bytes

-- ---- names

abbrev pub named : FixKind → ℕ → ℕ → Name
named kind address item = record { kind = kind; item = item; address = address }

-- each kind has a number of its own
abbrev pub kind_number : FixKind → ℕ
kind_number ARoutine = 0
kind_number ABody = 1
kind_number Dict = 2
kind_number Item = 3

abbrev pub routine_names : ℕ → List ℕ → List Name
routine_names number [] = []
routine_names number (begin ∷ begins) = named ARoutine begin number ∷ routine_names (number + 1) begins

-- the begin of a body is the address of the code of each of its nodes
abbrev pub code_names : ℕ → List CodePiece → List Name
code_names at [] = []
code_names at (piece ∷ pieces) = map (named ABody at) piece.nodes ++ code_names (at + code_size piece) pieces

-- the begin of a table is the address of all that it gives
abbrev pub given_names : ℕ → List (FixKind × ℕ) → List Name
given_names at [] = []
given_names at (gift ∷ gifts) = named gift.0 at gift.1 ∷ given_names at gifts

abbrev pub table_names : ℕ → List TablePiece → List Name
table_names at [] = []
table_names at (table ∷ tables) = given_names at table.gives ++ table_names (at + table_size table) tables

abbrev pub names : Pieces → List Name
names pieces =
    routine_names 0 routine_begins
    ++ (code_names code_at pieces.code ++ table_names (tables_at pieces) pieces.tables)

abbrev pub is_name : FixKind → ℕ → Name → Bool
is_name kind item name = kind_number name.kind == kind_number kind && name.item == item

-- the address that a name has among these
abbrev pub address_among : List Name → FixKind → ℕ → Option ℕ
address_among [] kind item = None
address_among (name ∷ names) kind item =
    if is_name kind item name then Some name.address else address_among names kind item

abbrev pub address_of : Pieces → FixKind → ℕ → Option ℕ
address_of pieces kind item = address_among (names pieces) kind item

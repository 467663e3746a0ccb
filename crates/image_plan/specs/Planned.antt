-- What is planned of an image: its two segments, its parts, and the map from addresses to offsets in CIL.
use Rattle.std.specs.Prelude.{◌≡◌, ℕ, ◌+◌, ◌-◌, ◌*◌, ◌≤◌, ◌==◌, ◌&&◌, Bool, nat_le, nat_lt, not}
use Rattle.std.specs.Prelude.{if◌then◌else◌, List, [], ◌∷◌, ◌++◌, length, map, Option}
use Rattle.std.specs.Prelude.{Some, None}
use Rattle.std.specs.List.{list_all}
use Rattle.num_core.specs.declared.bounds.Bounds.{Bounds}
use Rattle.ty_terms.specs.declared.names.MethodName.{MethodName}
use Rattle.ty_terms.specs.declared.nodes.Part.{Part}
use Rattle.ty_terms.specs.declared.nodes.PartKind.{PartKind}
use Rattle.ty_terms.specs.declared.nodes.PartKind.TheVariants.{Header, Runtime, Code}
use Rattle.ty_terms.specs.declared.nodes.PartKind.TheVariants.{Pad}
use Rattle.elf_file.specs.Elf.{base, headers_size, text_size as text_size_of, up_to_page}
use Rattle.elf_file.specs.declared.layout.ElfLayout.{ElfLayout}
use Rattle.image_plan.specs.Places.{address_of, code_at, code_size, front_at, routines_at, table_size}
use Rattle.image_plan.specs.Places.{tables_at, tables_end, text_end, zeros}
use Rattle.image_plan.specs.Written.{Finds, table_bytes, text_with}
use Rattle.image_plan.specs.declared.pieces.CodePiece.{CodePiece}
use Rattle.image_plan.specs.declared.pieces.Pieces.{Pieces}
use Rattle.image_plan.specs.declared.pieces.TablePiece.{TablePiece}
use Rattle.image_plan.specs.declared.fault.PlaceFault.{PlaceFault}
use Rattle.image_plan.specs.declared.fault.PlaceFault.TheVariants.{ImageLimit, Memory}
use Rattle.image_plan.specs.declared.plan.MapRow.{MapRow}

-- ---- what pieces have to be

-- what a fix changes lies in its piece: two words of code, or eight bytes of a table
abbrev pub code_fixes_fit : CodePiece → Bool
code_fixes_fit piece = list_all (λ fix. nat_lt (fix.at + 1) (length piece.code.words)) piece.code.fixes

abbrev pub table_fixes_fit : TablePiece → Bool
table_fixes_fit table = list_all (λ fix. nat_le (fix.at + 8) (length table.bytes)) table.fixes

-- there is a root, and all fixes lie in their pieces
abbrev pub is_placeable : Pieces → Bool
is_placeable pieces =
    nat_lt pieces.root (length pieces.tables) && list_all code_fixes_fit pieces.code
    && list_all table_fixes_fit pieces.tables

-- ---- the segments

abbrev pub layout_with : Finds → Pieces → Bounds → ElfLayout
layout_with find pieces bounds =
    record {
      text = text_with find pieces bounds;
      rest = table_bytes find pieces.tables;
      zeros = zeros bounds;
      entry = routines_at;
    }

unfoldable pub layout_of : Pieces → Bounds → ElfLayout
layout_of pieces bounds = layout_with (address_of pieces) pieces bounds

-- the greatest size of a segment in memory: 512 MiB
abbrev pub most_bytes : ℕ
most_bytes = 536870912

abbrev pub text_size : Pieces → ℕ
text_size pieces = text_end pieces - base

abbrev pub rest_size : Pieces → Bounds → ℕ
rest_size pieces bounds = tables_end pieces - tables_at pieces + zeros bounds

-- the size of the first segment that is too large
abbrev pub too_large : Pieces → Bounds → Option ℕ
too_large pieces bounds =
    if not (nat_le (text_size pieces) most_bytes) then Some (text_size pieces)
    else if not (nat_le (rest_size pieces bounds) most_bytes) then Some (rest_size pieces bounds)
    else None

-- what a file may be written of
pub record SegmentsFit (layout : ElfLayout) : Type 0 where
  pub text : text_size_of layout ≤ most_bytes
  pub rest : length layout.rest + layout.zeros ≤ most_bytes

-- ---- parts of the file, in which each byte stands as far from the first as in memory

abbrev pub part : PartKind → List ℕ → ℕ → ℕ → Part
part kind nodes at size = record { at = at; size = size; kind = kind; nodes = nodes }

abbrev pub pad : ℕ → ℕ → List Part
pad at size = if size == 0 then [] else part Pad [] at size ∷ []

abbrev pub code_parts : ℕ → List CodePiece → List Part
code_parts at [] = []
code_parts at (piece ∷ pieces) =
    part Code piece.nodes at (code_size piece) ∷ code_parts (at + code_size piece) pieces

abbrev pub table_parts : ℕ → List TablePiece → List Part
table_parts at [] = []
table_parts at (table ∷ tables) =
    part table.kind table.nodes at (length table.bytes)
    ∷ (pad (at + length table.bytes) (table_size table - length table.bytes)
    ++ table_parts (at + table_size table) tables)

unfoldable pub parts_of : Pieces → List Part
parts_of pieces =
    part Header [] 0 headers_size
    ∷ part Runtime [] headers_size (code_at - front_at)
    ∷ (code_parts (code_at - base) pieces.code
    ++ (pad (text_size pieces) (up_to_page (text_size pieces) - text_size pieces)
    ++ table_parts (up_to_page (text_size pieces)) pieces.tables))

-- ---- the map

abbrev pub map_row : ℕ → MethodName → ℕ × ℕ → MapRow
map_row begin method row = record { address = begin + 4 * row.0; method = method; offset = row.1 }

abbrev pub map_rows : ℕ → List CodePiece → List MapRow
map_rows at [] = []
map_rows at (piece ∷ pieces) =
    map (map_row at piece.method) piece.code.map ++ map_rows (at + code_size piece) pieces

unfoldable pub map_of : Pieces → List MapRow
map_of pieces = map_rows code_at pieces.code

-- ---- answers

-- the limit is told of the first segment that is too large; want of memory says nothing
abbrev pub TellsLimit : Pieces → Bounds → PlaceFault → Type 0
TellsLimit pieces bounds (ImageLimit bytes) = too_large pieces bounds ≡ Some bytes
TellsLimit pieces bounds Memory = Unit {0}

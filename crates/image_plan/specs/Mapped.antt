-- How the map of an image leads from addresses to offsets in CIL.
use Rattle.std.specs.Prelude.{◌≡◌, ℕ, ◌+◌, ◌<◌, ◌≤◌, Bool, true, false, List, [], ◌∷◌, ◌++◌, length, slice_get, Some}
use Rattle.ty_terms.specs.declared.nodes.Part.{Part}
use Rattle.ty_terms.specs.declared.nodes.PartKind.{PartKind}
use Rattle.ty_terms.specs.declared.nodes.PartKind.TheVariants.{Header, Runtime, Code, Table, Constant, Statics}
use Rattle.ty_terms.specs.declared.nodes.PartKind.TheVariants.{Record, Pad}
use Rattle.elf_file.specs.Elf.{base}
use Rattle.image_plan.specs.declared.pieces.CodePiece.{CodePiece}
use Rattle.image_plan.specs.declared.plan.MapRow.{MapRow}

abbrev pub is_code : PartKind → Bool
is_code Header = false
is_code Runtime = false
is_code Code = true
is_code Table = false
is_code Constant = false
is_code Statics = false
is_code Record = false
is_code Pad = false

-- An address is that of a byte of a part: each byte of the file has an address as far behind that of the first.
abbrev pub LiesIn : Part → ℕ → Type 0
LiesIn part address = (base + part.at ≤ address) × (address < base + part.at + part.size)

-- the row of an item of a body's map: its offset, the body's method, and an address in the body's part
pub record IsRowOf (part : Part) (piece : CodePiece) (item : ℕ × ℕ) (row : MapRow) : Type 0 where
  pub offset : row.offset ≡ item.1
  pub method : row.method ≡ piece.method
  pub inside : LiesIn part row.address

-- The rows of one body's map, an item each. Only items of one place have one address.
pub record HasRows (part : Part) (piece : CodePiece) (rows : List MapRow) : Type 0 where
  pub nodes : part.nodes ≡ piece.nodes
  pub size : length rows ≡ length piece.code.map
  pub each : (i : ℕ) (item : ℕ × ℕ) (row : MapRow) → slice_get piece.code.map i ≡ Some item
      → slice_get rows i ≡ Some row → IsRowOf part piece item row
  pub apart : (i j : ℕ) (item item' : ℕ × ℕ) (row row' : MapRow) → slice_get piece.code.map i ≡ Some item
      → slice_get piece.code.map j ≡ Some item' → slice_get rows i ≡ Some row → slice_get rows j ≡ Some row'
      → row.address ≡ row'.address → item.0 ≡ item'.0

-- The parts of code are those of the bodies, in order, and the map has the rows of one body behind those of another.
pub data IsMapped : List Part → List CodePiece → List MapRow → Type 0 where
  NoMore : IsMapped [] [] []
  Other : (part : Part) (parts : List Part) (pieces : List CodePiece) (all : List MapRow)
      → is_code part.kind ≡ false → IsMapped parts pieces all → IsMapped (part ∷ parts) pieces all
  Body : (part : Part) (parts : List Part) (piece : CodePiece) (pieces : List CodePiece)
      (rows others all : List MapRow) → is_code part.kind ≡ true → HasRows part piece rows
      → all ≡ rows ++ others → IsMapped parts pieces others → IsMapped (part ∷ parts) (piece ∷ pieces) all

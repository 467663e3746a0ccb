-- The program at the word level that an image holds, where no body has clauses.
use Rattle.std.specs.Prelude.{◌≡◌, ℕ, ◌+◌, ◌-◌, ◌^◌, ◌<◌, ◌==◌, ◌&&◌, Bool, true, not, nat_le, if◌then◌else◌}
use Rattle.std.specs.Prelude.{List, [], ◌∷◌, ◌++◌, map, slice_get, take, All, Option, Some, None}
use Rattle.std.specs.List.{list_all, list_any}
use Rattle.byteorder.specs.Endian.{little_bytes}
use Rattle.num_core.specs.declared.bounds.Bounds.{Bounds}
use Rattle.num_core.specs.declared.fix.FixKind.{FixKind}
use Rattle.num_core.specs.declared.fix.FixKind.TheVariants.{Code as ABody}
use Rattle.rv_step.specs.Bytes.{AreBytes}
use Rattle.lir_core.specs.Memory.{FlatMemory, Missing}
use Rattle.lir_core.specs.Program.{WordProgram}
use Rattle.lir_core.specs.declared.body.LirBody.{LirBody}
use Rattle.rt_code.specs.Effects.{Front, Root, effects}
use Rattle.image_plan.specs.Conditions.{has_nodes}
use Rattle.image_plan.specs.Places.{address_of, begins, code_at, code_size, kind_number, root_at, tables_at, tables_end}
use Rattle.image_plan.specs.Planned.{is_placeable}
use Rattle.image_plan.specs.Written.{table_bytes, with_numbers}
use Rattle.image_plan.specs.declared.pieces.CodePiece.{CodePiece}
use Rattle.image_plan.specs.declared.pieces.Pieces.{Pieces}
use Rattle.image_plan.specs.declared.pieces.TablePiece.{TablePiece}
use Rattle.rv_words.specs.Placing.{Placing}
use Rattle.rv_words.specs.Words.{cell_of}
use Rattle.linked_image.specs.Selected.{AreSelected}

-- ---- items and bodies

-- a piece is there for an item
abbrev pub is_for : ℕ → List ℕ → Bool
is_for item nodes = list_any (λ node. node == item) nodes

-- the body of the first piece that is there for an item
abbrev pub body_among : List LirBody → List CodePiece → ℕ → Option LirBody
body_among [] pieces item = None
body_among (body ∷ bodies) [] item = None
body_among (body ∷ bodies) (piece ∷ pieces) item =
    if is_for item piece.nodes then Some body else body_among bodies pieces item

abbrev pub first_node : List ℕ → Option ℕ
first_node [] = None
first_node (node ∷ nodes) = Some node

-- the first item of the piece that begins at an address, where the first of them begins at another
abbrev pub item_among : ℕ → List CodePiece → ℕ → Option ℕ
item_among at [] address = None
item_among at (piece ∷ pieces) address =
    if at == address then first_node piece.nodes else item_among (at + code_size piece) pieces address

-- ---- the image's data

-- the bytes of the tables, with the addresses that they name
abbrev pub image_of : Pieces → FlatMemory
image_of pieces =
    λ place. if nat_le (tables_at pieces) place
    then cell_of (slice_get (table_bytes (address_of pieces) pieces.tables) (place - tables_at pieces)) else Missing

-- ---- all of it

-- Items are the numbers by which pieces name their nodes. The heap begins where the tables end, and the frames lie
-- right behind it.
abbrev pub program_of : List LirBody → Pieces → Bounds → WordProgram
program_of bodies pieces bounds = record {
  body_of = body_among bodies pieces.code;
  clauses_of = λ item. [];
  address_of = address_of pieces;
  item_at = item_among code_at pieces.code;
  catches = λ class dictionary memory object. None;
  routine = effects;
  heap_begin = tables_end pieces;
  heap_bound = bounds.heap;
  stack_end = tables_end pieces + bounds.heap + bounds.stack;
  stack_bound = bounds.stack;
  image = image_of pieces;
}

abbrev pub placing_of : List LirBody → Pieces → Bounds → Placing
placing_of bodies pieces bounds = record {
  program = program_of bodies pieces bounds;
  begins = begins code_at (map code_size pieces.code);
  lowest_data = tables_at pieces;
}

-- ---- what is asked

-- no two pieces of code are there for one item
abbrev pub are_for_others : List ℕ → CodePiece → Bool
are_for_others nodes piece = not (list_any (λ node. is_for node nodes) piece.nodes)

abbrev pub nodes_apart : List CodePiece → Bool
nodes_apart [] = true
nodes_apart (piece ∷ pieces) = list_all (are_for_others piece.nodes) pieces && nodes_apart pieces

-- no table gives the address of code
abbrev pub gives_no_code : TablePiece → Bool
gives_no_code table = list_all (λ (gift : FixKind × ℕ). not (kind_number gift.0 == kind_number ABody)) table.gives

-- Pieces of selected bodies, each for items of its own, and tables of bytes.
pub record IsProgram (bodies : List LirBody) (pieces : Pieces) : Type 0 where
  pub placeable : is_placeable pieces ≡ true
  pub selected : AreSelected bodies pieces.code
  pub nodes : list_all (λ (piece : CodePiece). has_nodes piece.nodes) pieces.code ≡ true
  pub apart : nodes_apart pieces.code ≡ true
  pub gives : list_all gives_no_code pieces.tables ≡ true
  pub bytes : All (λ (table : TablePiece). AreBytes table.bytes) pieces.tables

-- what `start` finds in front of its code
abbrev pub front_of : Pieces → Bounds → Front
front_of pieces bounds = record { root = root_at pieces; heap = bounds.heap; stack = bounds.stack }

-- The root begins with the address of an item's body, the word that it takes, and how far the heap begins behind the
-- root's begin. Of the items that share the body it is the first.
pub record HasRoot (pieces : Pieces) (item : ℕ) (root : Root) : Type 0 where
  pub body : address_of pieces ABody item ≡ Some root.body
  pub first : item_among code_at pieces.code root.body ≡ Some item
  pub argument : root.argument < 2 ^ 64
  pub distance : root_at pieces + root.distance ≡ tables_end pieces
  pub words : (table : TablePiece) → slice_get pieces.tables pieces.root ≡ Some table
      → take 24 (with_numbers (address_of pieces) table.fixes table.bytes)
      ≡ little_bytes 8 root.body ++ (little_bytes 8 root.argument ++ little_bytes 8 root.distance)

-- What is asked of the pieces of an image, beside that their fixes lie in them.
use Rattle.std.specs.Prelude.{◌≡◌, ℕ, ◌+◌, ◌%◌, ◌==◌, ◌&&◌, ◌||◌, Bool, true, false, nat_le, nat_lt, List, [], ◌∷◌}
use Rattle.std.specs.Prelude.{length, slice_index, is_some}
use Rattle.std.specs.List.{list_all}
use Rattle.num_core.specs.declared.fix.Fix.{Fix}
use Rattle.ty_terms.specs.declared.nodes.PartKind.{PartKind}
use Rattle.ty_terms.specs.declared.nodes.PartKind.TheVariants.{Header, Runtime, Code, Table, Constant, Statics}
use Rattle.ty_terms.specs.declared.nodes.PartKind.TheVariants.{Record, Pad}
use Rattle.image_plan.specs.Places.{address_of}
use Rattle.image_plan.specs.Written.{Finds}
use Rattle.image_plan.specs.declared.pieces.CodePiece.{CodePiece}
use Rattle.image_plan.specs.declared.pieces.Pieces.{Pieces}
use Rattle.image_plan.specs.declared.pieces.TablePiece.{TablePiece}

-- ---- nodes and kinds

abbrev pub has_nodes : List ℕ → Bool
has_nodes [] = false
has_nodes (node ∷ nodes) = true

-- what a table may be
abbrev pub is_table_kind : PartKind → Bool
is_table_kind Header = false
is_table_kind Runtime = false
is_table_kind Code = false
is_table_kind Table = true
is_table_kind Constant = true
is_table_kind Statics = true
is_table_kind Record = true
is_table_kind Pad = false

-- each piece is there for a node, and a table is none of the parts that only placing makes, nor code
pub record NamesNodes (pieces : Pieces) : Type 0 where
  pub code : list_all (λ (piece : CodePiece). has_nodes piece.nodes) pieces.code ≡ true
  pub tables : list_all (λ (table : TablePiece). has_nodes table.nodes) pieces.tables ≡ true
  pub kinds : list_all (λ (table : TablePiece). is_table_kind table.kind) pieces.tables ≡ true

-- ---- fixes

-- what each of the fixes names has an address
abbrev pub are_found : Finds → List Fix → Bool
are_found find fixes = list_all (λ (fix : Fix). is_some (find fix.kind fix.item)) fixes

-- two fixes, each of which changes so many words or bytes, change different ones
abbrev pub is_apart : ℕ → Fix → Fix → Bool
is_apart size fix other = nat_le (fix.at + size) other.at || nat_le (other.at + size) fix.at

-- and so do any two of these
abbrev pub are_apart : ℕ → List Fix → Bool
are_apart size [] = true
are_apart size (fix ∷ fixes) = list_all (is_apart size fix) fixes && are_apart size fixes

-- the word is an `auipc`, by its opcode: RISC-V unprivileged manual, "RV32/64G Instruction Set Listings"
abbrev pub is_auipc : ℕ → Bool
is_auipc word = word % 128 == 23

-- the first word that a fix of code changes
abbrev pub begins_with_auipc : CodePiece → Bool
begins_with_auipc piece = list_all (λ (fix : Fix). is_auipc (slice_index piece.code.words fix.at)) piece.code.fixes

-- All that a fix names has an address, what it changes in code begins with an `auipc`, and no two fixes of a piece
-- change the same.
pub record TakesAddresses (pieces : Pieces) : Type 0 where
  pub code_names :
      list_all (λ (piece : CodePiece). are_found (address_of pieces) piece.code.fixes) pieces.code ≡ true
  pub code_begins : list_all begins_with_auipc pieces.code ≡ true
  pub code_apart : list_all (λ (piece : CodePiece). are_apart 2 piece.code.fixes) pieces.code ≡ true
  pub table_names :
      list_all (λ (table : TablePiece). are_found (address_of pieces) table.fixes) pieces.tables ≡ true
  pub table_apart : list_all (λ (table : TablePiece). are_apart 8 table.fixes) pieces.tables ≡ true

-- ---- the map

-- each place in the map of code is one of its words
abbrev pub map_fits : CodePiece → Bool
map_fits piece = list_all (λ (row : ℕ × ℕ). nat_lt row.0 (length piece.code.words)) piece.code.map

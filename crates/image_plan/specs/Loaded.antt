-- What stands in a machine that the file of an image loads: the pieces, with the addresses that their fixes name.
-- RISC-V unprivileged manual, 2.2 and 2.4 (`auipc`).
use Rattle.std.specs.Prelude.{◌≡◌, ℕ, ◌+◌, ◌*◌, ◌%◌, ◌^◌, ◌<◌, ◌&&◌, Bool, false, nat_le, nat_lt, pos, ◌+ℤ◌}
use Rattle.std.specs.Prelude.{List, length, map, replicate, slice_get, slice_index, Some}
use Rattle.std.specs.List.{list_any}
use Rattle.std.specs.Int.{cast_signed, w32}
use Rattle.num_core.specs.declared.bounds.Bounds.{Bounds}
use Rattle.num_core.specs.declared.fix.Fix.{Fix}
use Rattle.rv_isa.specs.declared.ins.Ins.{Ins}
use Rattle.rv_isa.specs.Parts.{i_imm_of, parts_of}
use Rattle.rv_isa.specs.Rows.{instruction}
use Rattle.rv_step.specs.Machine.{MachineState}
use Rattle.rv_step.specs.Memory.{Bytes, MayExecute, MayRead, MayWrite, Number, byte_in}
use Rattle.rv_step.specs.Segments.{AreSegments}
use Rattle.elf_file.specs.Elf.{base}
use Rattle.image_plan.specs.Places.{address_of, begins, code_at, code_size, front_at, routines, routines_at}
use Rattle.image_plan.specs.Places.{table_size, tables_at, tables_end, zeros}
use Rattle.image_plan.specs.Planned.{rest_size, text_size}
use Rattle.image_plan.specs.Written.{code_bytes, front, padding, routine_bytes, table_bytes}
use Rattle.image_plan.specs.declared.pieces.CodePiece.{CodePiece}
use Rattle.image_plan.specs.declared.pieces.Pieces.{Pieces}
use Rattle.image_plan.specs.declared.pieces.TablePiece.{TablePiece}

-- ---- the image as a whole

-- The first segment holds what `start` finds in front of its code, the routines and the code of bodies, and may be read
-- and executed; the second holds the tables, and zeros behind them, and may be read and written.
pub record HoldsImage (pieces : Pieces) (bounds : Bounds) (m : MachineState) : Type 0 where
  pub segments : AreSegments m.segments
  pub front : Bytes m front_at (front pieces bounds)
  pub routines : Bytes m routines_at (routine_bytes routines)
  pub code : Bytes m code_at (code_bytes (address_of pieces) code_at pieces.code)
  pub tables : Bytes m (tables_at pieces) (table_bytes (address_of pieces) pieces.tables)
  pub zeros : Bytes m (tables_end pieces) (replicate (zeros bounds) 0)
  pub read_text : MayRead m base (text_size pieces)
  pub execute : MayExecute m base (text_size pieces)
  pub read_data : MayRead m (tables_at pieces) (rest_size pieces bounds)
  pub write_data : MayWrite m (tables_at pieces) (rest_size pieces bounds)

-- ---- piece by piece

-- where each piece of code and each table begins, in order
abbrev pub code_begins : Pieces → List ℕ
code_begins pieces = begins code_at (map code_size pieces.code)

abbrev pub table_begins : Pieces → List ℕ
table_begins pieces = begins (tables_at pieces) (map table_size pieces.tables)

-- a fix that changes so many words or bytes changes the one at a place
abbrev pub changes : ℕ → ℕ → Fix → Bool
changes size place fix = nat_le fix.at place && nat_lt place (fix.at + size)

-- An `auipc` stands at an address, and right behind it a word of the I format whose immediate leads on to another
-- address. All else in the two words is as given.
pub record LeadsTo (m : MachineState) (at to given given_next : ℕ) : Type 0 where
  pub first : ℕ
  pub second : ℕ
  pub first_there : Number m at 4 first
  pub second_there : Number m (at + 4) 4 second
  pub register : ℕ
  pub upper : ℕ
  pub is_auipc : instruction (parts_of first) ≡ Some (Ins.Auipc register upper)
  pub sum : (pos at +ℤ cast_signed w32 (upper * 2 ^ 12)) +ℤ i_imm_of (parts_of second) ≡ pos to
  pub first_kept : first % 2 ^ 12 ≡ given % 2 ^ 12
  pub second_kept : second % 2 ^ 20 ≡ given_next % 2 ^ 20

-- code that begins at an address: a word that no fix changes is as given, and each fix leads to what it names
pub record HasCode (pieces : Pieces) (begin : ℕ) (piece : CodePiece) (m : MachineState) : Type 0 where
  pub kept : (k : ℕ) → k < length piece.code.words → list_any (changes 2 k) piece.code.fixes ≡ false
      → Number m (begin + 4 * k) 4 (slice_index piece.code.words k)
  pub fixed : (i : ℕ) (fix : Fix) → slice_get piece.code.fixes i ≡ Some fix
      → (address : ℕ) × (address_of pieces fix.kind fix.item ≡ Some address)
      × LeadsTo m (begin + 4 * fix.at) address (slice_index piece.code.words fix.at)
      (slice_index piece.code.words (fix.at + 1))

-- a table that begins at an address, and the zeros behind it
pub record HasTable (pieces : Pieces) (begin : ℕ) (table : TablePiece) (m : MachineState) : Type 0 where
  pub kept : (k : ℕ) → k < length table.bytes → list_any (changes 8 k) table.fixes ≡ false
      → byte_in m.segments (begin + k) ≡ Some (slice_index table.bytes k)
  pub fixed : (i : ℕ) (fix : Fix) → slice_get table.fixes i ≡ Some fix
      → (address : ℕ) × (address_of pieces fix.kind fix.item ≡ Some address)
      × Number m (begin + fix.at) 8 address
  pub behind : Bytes m (begin + length table.bytes) (padding table.bytes)

-- all pieces where they begin
pub record HasPieces (pieces : Pieces) (m : MachineState) : Type 0 where
  pub code : (k begin : ℕ) (piece : CodePiece) → slice_get pieces.code k ≡ Some piece
      → slice_get (code_begins pieces) k ≡ Some begin → HasCode pieces begin piece m
  pub tables : (k begin : ℕ) (table : TablePiece) → slice_get pieces.tables k ≡ Some table
      → slice_get (table_begins pieces) k ≡ Some begin → HasTable pieces begin table m

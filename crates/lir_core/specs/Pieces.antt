-- Which parts of its frame an operation reads and writes, where control can go from it, and what it passes.
use Rattle.std.specs.Prelude.{ℕ, ◌+◌, ◌*◌, List, [], ◌∷◌, ◌++◌, map, Option, Some, None}
use Rattle.num_core.specs.declared.kind.Narrow.{Narrow}
use Rattle.num_core.specs.declared.kind.Narrow.TheVariants.{I1, U1, I2, U2, I4, U4, I8, U8}
use Rattle.lir_core.specs.declared.soundness.Piece.{Piece}
use Rattle.lir_core.specs.declared.op.Argument.{Argument}
use Rattle.lir_core.specs.declared.op.Block.{Block}
use Rattle.lir_core.specs.declared.op.Callee.{Callee}
use Rattle.lir_core.specs.declared.op.Callee.TheVariants.{Body, Through}
use Rattle.lir_core.specs.declared.op.LirOp.{LirOp}
use Rattle.lir_core.specs.declared.op.LirOp.TheVariants.{Constant, Address, SlotAddress, Dictionary, Move, Load}
use Rattle.lir_core.specs.declared.op.LirOp.TheVariants.{Store, Copy, Clear, Binary, Unary, Checked, Divide, Shift}
use Rattle.lir_core.specs.declared.op.LirOp.TheVariants.{Convert, ConvertChecked, Compare, Branch, BranchIfZero}
use Rattle.lir_core.specs.declared.op.LirOp.TheVariants.{BranchUnlessZero, Jump, Call, Routine, Raise, Rethrow}
use Rattle.lir_core.specs.declared.op.LirOp.TheVariants.{Leave, EndHandler, Return}
use Rattle.lir_core.specs.declared.op.Place.{Place}
use Rattle.lir_core.specs.declared.op.Place.TheVariants.{Slot, Flat}

-- how many bytes a number of the type has in memory
abbrev pub bytes_of_type : Narrow → ℕ
bytes_of_type I1 = 1
bytes_of_type U1 = 1
bytes_of_type I2 = 2
bytes_of_type U2 = 2
bytes_of_type I4 = 4
bytes_of_type U4 = 4
bytes_of_type I8 = 8
bytes_of_type U8 = 8

-- so many words from a slot on, in bytes from slot 0 on
abbrev pub words_from : ℕ → ℕ → Piece
words_from slot words = record { from = 8 * slot; bytes = 8 * words }

-- the word of a slot
abbrev pub word : ℕ → Piece
word slot = words_from slot 1

-- what is read or written of the frame for so many bytes at a place: the bytes themselves, or the word of the address
abbrev pub at_place : Place → ℕ → Piece
at_place (Slot slot offset) bytes = record { from = 8 * slot + offset; bytes = bytes }
at_place (Flat base offset) bytes = word base

abbrev pub word_if : Option ℕ → List Piece
word_if None = []
word_if (Some slot) = word slot ∷ []

abbrev pub of_callee : Callee → List Piece
of_callee (Body item) = []
of_callee (Through slot) = word slot ∷ []

abbrev pub of_block : Block → Piece
of_block block = words_from block.slot block.words

-- what the caller's frame gives to an argument
abbrev pub of_argument : Argument → Piece
of_argument argument = words_from argument.from argument.words

-- the parts of its own frame that an operation reads or writes
abbrev pub touched : LirOp → List Piece
touched (Constant to value) = word to ∷ []
touched (Address to kind item) = word to ∷ []
touched (SlotAddress to slot) = word to ∷ []
touched (Dictionary to) = word to ∷ []
touched (Move to from) = word to ∷ word from ∷ []
touched (Load to from narrow) = word to ∷ at_place from (bytes_of_type narrow) ∷ []
touched (Store to from narrow) = at_place to (bytes_of_type narrow) ∷ word from ∷ []
touched (Copy to from bytes) = at_place to bytes ∷ at_place from bytes ∷ []
touched (Clear to bytes) = at_place to bytes ∷ []
touched (Binary operation kind to left right) = word to ∷ word left ∷ word right ∷ []
touched (Unary operation kind to value) = word to ∷ word value ∷ []
touched (Checked operation kind to left right overflow) = word to ∷ word left ∷ word right ∷ []
touched (Divide part kind to left right if_zero overflow) = word to ∷ word left ∷ word right ∷ []
touched (Shift operation kind to value amount) = word to ∷ word value ∷ word amount ∷ []
touched (Convert narrow from to value) = word to ∷ word value ∷ []
touched (ConvertChecked narrow from to value overflow) = word to ∷ word value ∷ []
touched (Compare test kind to left right) = word to ∷ word left ∷ word right ∷ []
touched (Branch test kind left right label) = word left ∷ word right ∷ []
touched (BranchIfZero value label) = word value ∷ []
touched (BranchUnlessZero value label) = word value ∷ []
touched (Jump label) = []
touched (Call callee dictionary arguments cleared result) =
    of_block result ∷ of_block cleared ∷ (of_callee callee ++ (word_if dictionary ++ map of_argument arguments))
touched (Routine number arguments result) = word_if result ++ map word arguments
touched (Raise object) = word object ∷ []
touched Rethrow = []
touched (Leave label) = []
touched EndHandler = []
touched (Return result) = of_block result ∷ []

-- the slots of which an operation takes the address
abbrev pub addressed : LirOp → List ℕ
addressed (Constant to value) = []
addressed (Address to kind item) = []
addressed (SlotAddress to slot) = slot ∷ []
addressed (Dictionary to) = []
addressed (Move to from) = []
addressed (Load to from narrow) = []
addressed (Store to from narrow) = []
addressed (Copy to from bytes) = []
addressed (Clear to bytes) = []
addressed (Binary operation kind to left right) = []
addressed (Unary operation kind to value) = []
addressed (Checked operation kind to left right overflow) = []
addressed (Divide part kind to left right if_zero overflow) = []
addressed (Shift operation kind to value amount) = []
addressed (Convert narrow from to value) = []
addressed (ConvertChecked narrow from to value overflow) = []
addressed (Compare test kind to left right) = []
addressed (Branch test kind left right label) = []
addressed (BranchIfZero value label) = []
addressed (BranchUnlessZero value label) = []
addressed (Jump label) = []
addressed (Call callee dictionary arguments cleared result) = []
addressed (Routine number arguments result) = []
addressed (Raise object) = []
addressed Rethrow = []
addressed (Leave label) = []
addressed EndHandler = []
addressed (Return result) = []

-- the places to which control can go from an operation, other than the next one
abbrev pub labels : LirOp → List ℕ
labels (Constant to value) = []
labels (Address to kind item) = []
labels (SlotAddress to slot) = []
labels (Dictionary to) = []
labels (Move to from) = []
labels (Load to from narrow) = []
labels (Store to from narrow) = []
labels (Copy to from bytes) = []
labels (Clear to bytes) = []
labels (Binary operation kind to left right) = []
labels (Unary operation kind to value) = []
labels (Checked operation kind to left right overflow) = overflow ∷ []
labels (Divide part kind to left right if_zero overflow) = if_zero ∷ overflow ∷ []
labels (Shift operation kind to value amount) = []
labels (Convert narrow from to value) = []
labels (ConvertChecked narrow from to value overflow) = overflow ∷ []
labels (Compare test kind to left right) = []
labels (Branch test kind left right label) = label ∷ []
labels (BranchIfZero value label) = label ∷ []
labels (BranchUnlessZero value label) = label ∷ []
labels (Jump label) = label ∷ []
labels (Call callee dictionary arguments cleared result) = []
labels (Routine number arguments result) = []
labels (Raise object) = []
labels Rethrow = []
labels (Leave label) = label ∷ []
labels EndHandler = []
labels (Return result) = []

-- the slots whose words an operation passes to a routine
abbrev pub passed : LirOp → List ℕ
passed (Routine number arguments result) = arguments
passed _ = []

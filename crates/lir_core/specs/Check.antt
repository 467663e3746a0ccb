-- What a body at the word level has to keep so that it can be run.
use Rattle.std.specs.Prelude.{ℕ, ◌+◌, ◌*◌, ◌^◌, Bool, true, not, ◌&&◌, ◌||◌, ◌==◌, nat_le, nat_lt, List, [], ◌∷◌}
use Rattle.std.specs.Prelude.{length}
use Rattle.std.specs.List.{list_all, list_any}
use Rattle.lir_core.specs.Frame.{fixed_bytes, most_passed}
use Rattle.lir_core.specs.Pieces.{addressed, labels, passed, touched, word}
use Rattle.lir_core.specs.State.{Clause}
use Rattle.lir_core.specs.declared.body.LirBody.{LirBody}
use Rattle.lir_core.specs.declared.soundness.Piece.{Piece}
use Rattle.lir_core.specs.declared.op.LirOp.{LirOp}
use Rattle.lir_core.specs.declared.op.LirOp.TheVariants.{Constant, Address, SlotAddress, Dictionary, Move, Load}
use Rattle.lir_core.specs.declared.op.LirOp.TheVariants.{Store, Copy, Clear, Binary, Unary, Checked, Divide, Shift}
use Rattle.lir_core.specs.declared.op.LirOp.TheVariants.{Convert, ConvertChecked, Compare, Branch, BranchIfZero}
use Rattle.lir_core.specs.declared.op.LirOp.TheVariants.{BranchUnlessZero, Jump, Call, Routine, Raise, Rethrow}
use Rattle.lir_core.specs.declared.op.LirOp.TheVariants.{Leave, EndHandler, Return}
use Rattle.lir_core.specs.declared.op.Place.{Place}
use Rattle.lir_core.specs.declared.op.Place.TheVariants.{Slot, Flat}

-- the piece lies among the slots of a frame of so many bytes
abbrev pub lies_in_frame : ℕ → Piece → Bool
lies_in_frame frame piece = nat_le (fixed_bytes + piece.from + piece.bytes) frame

-- the piece is the whole word of the slot, or no byte of it
abbrev pub is_whole_or_apart : Piece → ℕ → Bool
is_whole_or_apart piece slot =
    (piece.from == 8 * slot && piece.bytes == 8)
    || nat_le (piece.from + piece.bytes) (8 * slot) || nat_le (8 * slot + 8) piece.from

-- the piece lies in the frame, and each variable is in it as a whole word or not at all
abbrev pub fits : LirBody → Piece → Bool
fits body piece = lies_in_frame body.frame piece && list_all (is_whole_or_apart piece) body.vars

-- no two of the numbers are equal
abbrev pub are_distinct : List ℕ → Bool
are_distinct [] = true
are_distinct (n ∷ ns) = not (list_any (λ m. m == n) ns) && are_distinct ns

-- the slot lies in the frame, and is no variable
abbrev pub can_be_addressed : LirBody → ℕ → Bool
can_be_addressed body slot = lies_in_frame body.frame (word slot) && not (list_any (λ var. var == slot) body.vars)

-- a number that stands in an operation beside its slots has 32 bits
abbrev pub is_short : ℕ → Bool
is_short number = nat_lt number (2 ^ 32)

-- so has the distance from an address that a slot holds
abbrev pub has_short_offset : Place → Bool
has_short_offset (Slot slot offset) = true
has_short_offset (Flat base offset) = is_short offset

-- and so have all such numbers of an operation
abbrev pub has_short_numbers : LirOp → Bool
has_short_numbers (Constant to value) = true
has_short_numbers (Address to kind item) = true
has_short_numbers (SlotAddress to slot) = true
has_short_numbers (Dictionary to) = true
has_short_numbers (Move to from) = true
has_short_numbers (Load to from narrow) = has_short_offset from
has_short_numbers (Store to from narrow) = has_short_offset to
has_short_numbers (Copy to from bytes) = has_short_offset to && has_short_offset from && is_short bytes
has_short_numbers (Clear to bytes) = has_short_offset to && is_short bytes
has_short_numbers (Binary operation kind to left right) = true
has_short_numbers (Unary operation kind to value) = true
has_short_numbers (Checked operation kind to left right overflow) = true
has_short_numbers (Divide part kind to left right if_zero overflow) = true
has_short_numbers (Shift operation kind to value amount) = true
has_short_numbers (Convert narrow from to value) = true
has_short_numbers (ConvertChecked narrow from to value overflow) = true
has_short_numbers (Compare test kind to left right) = true
has_short_numbers (Branch test kind left right label) = true
has_short_numbers (BranchIfZero value label) = true
has_short_numbers (BranchUnlessZero value label) = true
has_short_numbers (Jump label) = true
has_short_numbers (Call callee dictionary arguments cleared result) = true
has_short_numbers (Routine number arguments result) = true
has_short_numbers (Raise object) = true
has_short_numbers Rethrow = true
has_short_numbers (Leave label) = true
has_short_numbers EndHandler = true
has_short_numbers (Return result) = true

-- what an operation of the body keeps: all that it touches fits, no variable has an address, control stays within, a
-- routine gets no more words than it may take, and its numbers are short
abbrev pub is_sound_op : LirBody → LirOp → Bool
is_sound_op body op =
    list_all (fits body) (touched op)
    && list_all (can_be_addressed body) (addressed op)
    && list_all (λ label. nat_lt label (length body.ops)) (labels op)
    && nat_le (length (passed op)) most_passed
    && has_short_numbers op

abbrev pub ops_are_sound : LirBody → Bool
ops_are_sound body = list_all (is_sound_op body) body.ops

-- each mark stands at an operation
abbrev pub marks_are_places : LirBody → Bool
marks_are_places body = list_all (λ mark. nat_lt mark.0 (length body.ops)) body.marks

-- each variable lies in the frame, and stands in `vars` once
abbrev pub vars_are_slots : LirBody → Bool
vars_are_slots body = list_all (λ slot. lies_in_frame body.frame (word slot)) body.vars && are_distinct body.vars

-- Slots, labels and the places of marks are in range, and each variable stands in `vars` once and is read and written
-- as one whole word.
abbrev pub is_sound : LirBody → Bool
is_sound body = ops_are_sound body && marks_are_places body && vars_are_slots body

-- ---- clauses

-- one or more operations of the body, from a place up to another
abbrev pub is_range : LirBody → ℕ → ℕ → Bool
is_range body begin end = nat_lt begin end && nat_le end (length body.ops)

-- what a clause of the body keeps: both ranges are of its operations, and the slot for the object lies in its frame
abbrev pub is_sound_clause : LirBody → Clause → Bool
is_sound_clause body clause =
    is_range body clause.try_begin clause.try_end
    && is_range body clause.handler_begin clause.handler_end
    && lies_in_frame body.frame (word clause.object_slot)

-- all clauses keep it, and where there are any no variable may stand in a register
abbrev pub clauses_are_sound : LirBody → List Clause → Bool
clauses_are_sound body clauses =
    list_all (is_sound_clause body) clauses && (length clauses == 0 || length body.vars == 0)

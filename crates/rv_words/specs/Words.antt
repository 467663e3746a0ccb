-- The state at the word level that a machine holds.
--
-- It is a function of the machine. The innermost frame lies where x2 says, and stands where the pc does. Below each
-- frame lies the one that called it, at the frame's end, and stands where the return address at the frame's begin
-- does. What a variable holds stands in its home, a register, unless a frame above has saved that register: then it
-- stands in the fixed words of the nearest one that has. All else stands in memory.
use Rattle.std.specs.Prelude.{ℕ, pos, zero, suc, ◌+◌, ◌-◌, ◌*◌, ◌/◌, ◌%◌, ◌==◌, ◌&&◌, Bool, false, nat_lt}
use Rattle.std.specs.Prelude.{if◌then◌else◌}
use Rattle.std.specs.Prelude.{List, [], ◌∷◌, ◌++◌, length, map, drop, take, slice_index, unwrap_or, Option, Some, None}
use Rattle.std.specs.List.{flat_map, position}
use Rattle.std.specs.Option.{option_and_then, option_map}
use Rattle.byteorder.specs.Endian.{little_bytes, little_number}
use Rattle.rv_isa.specs.declared.ins.Ins.{Ins}
use Rattle.rv_step.specs.Machine.{MachineState, register}
use Rattle.rv_step.specs.Memory.{byte_in}
use Rattle.rv_code.specs.Registers.{listed}
use Rattle.lir_core.specs.Frame.{fixed_bytes}
use Rattle.lir_core.specs.Memory.{Byte, Cell, FlatMemory, Missing}
use Rattle.lir_core.specs.Slots.{addresses, is_of_slots, is_variable, slot_at}
use Rattle.lir_core.specs.State.{AnOperation, Frame, WordState}
use Rattle.lir_core.specs.declared.body.LirBody.{LirBody}
use Rattle.lir_core.specs.declared.op.Argument.{Argument}
use Rattle.lir_core.specs.declared.op.Block.{Block}
use Rattle.lir_core.specs.declared.op.Callee.{Callee}
use Rattle.lir_core.specs.declared.op.LirOp.{LirOp}
use Rattle.lir_core.specs.declared.op.LirOp.TheVariants.{Constant, Address, SlotAddress, Dictionary, Move, Load}
use Rattle.lir_core.specs.declared.op.LirOp.TheVariants.{Store, Copy, Clear, Binary, Unary, Checked, Divide, Shift}
use Rattle.lir_core.specs.declared.op.LirOp.TheVariants.{Convert, ConvertChecked, Compare, Branch, BranchIfZero}
use Rattle.lir_core.specs.declared.op.LirOp.TheVariants.{BranchUnlessZero, Jump, Call, Routine, Raise, Rethrow}
use Rattle.lir_core.specs.declared.op.LirOp.TheVariants.{Leave, EndHandler, Return}
use Rattle.rt_code.specs.Conventions.{frame_address, heap_end}
use Rattle.rv_lines.specs.Frame.{dictionary_at, first_home, home, home_count, homes_at, return_at, slot_place}
use Rattle.rv_lines.specs.declared.line.Line.{Line}
use Rattle.rv_lines.specs.declared.line.Line.TheVariants.{Single}
use Rattle.rv_gen.specs.Calling.{clears_block, finds_frame, gets_callee, gives_argument}
use Rattle.rv_gen.specs.Calling.{gives_dictionary}
use Rattle.rv_gen.specs.Lines.{lines_of}
use Rattle.rv_gen.specs.Placing.{code_of, longest, places_in}
use Rattle.rv_words.specs.Placing.{Placing, around_at}

-- ---- numbers in memory, where there is nothing 0

abbrev pub bytes_from : MachineState → ℕ → ℕ → List ℕ
bytes_from m address zero = []
bytes_from m address (suc count) =
    unwrap_or (byte_in m.segments address) 0 ∷ bytes_from m (address + 1) count

abbrev pub word_at : MachineState → ℕ → ℕ
word_at m address = little_number 8 (bytes_from m address 8)

-- ---- places of bodies

-- where the operations of a body begin, in order, and where the last of them ends, in instructions
abbrev pub stops_of : LirBody → List ℕ
stops_of body = places_in (lines_of body) ++ length (code_of body) ∷ []

-- the operation that begins so many instructions behind the begin of the code
abbrev pub operation_at : LirBody → ℕ → Option ℕ
operation_at body k = position (λ stop. stop == k) (stops_of body)

-- The lines of a call up to the jump, none of which leads to a label, and how many instructions they are.
abbrev pub lines_to_jump : List ℕ → Callee → Option ℕ → List Argument → Block → List Line
lines_to_jump vars callee dictionary arguments cleared =
    gets_callee vars callee ++ (finds_frame ++ (flat_map (gives_argument vars) arguments
    ++ (gives_dictionary vars dictionary ++ (clears_block vars cleared ++ Single (Ins.Jalr 1 30 (pos 0)) ∷ []))))

abbrev pub width : List Line → ℕ
width [] = 0
width (line ∷ lines) = longest line + width lines

-- how many instructions an operation has up to behind its jump, if it is a call
abbrev pub to_jump : List ℕ → LirOp → Option ℕ
to_jump vars (Constant to value) = None
to_jump vars (Address to kind item) = None
to_jump vars (SlotAddress to slot) = None
to_jump vars (Dictionary to) = None
to_jump vars (Move to from) = None
to_jump vars (Load to from narrow) = None
to_jump vars (Store to from narrow) = None
to_jump vars (Copy to from bytes) = None
to_jump vars (Clear to bytes) = None
to_jump vars (Binary operation kind to left right) = None
to_jump vars (Unary operation kind to value) = None
to_jump vars (Checked operation kind to left right overflow) = None
to_jump vars (Divide part kind to left right if_zero overflow) = None
to_jump vars (Shift operation kind to value amount) = None
to_jump vars (Convert narrow from to value) = None
to_jump vars (ConvertChecked narrow from to value overflow) = None
to_jump vars (Compare test kind to left right) = None
to_jump vars (Branch test kind left right label) = None
to_jump vars (BranchIfZero value label) = None
to_jump vars (BranchUnlessZero value label) = None
to_jump vars (Jump label) = None
to_jump vars (Call callee dictionary arguments cleared result) =
    Some (width (lines_to_jump vars callee dictionary arguments cleared))
to_jump vars (Routine number arguments result) = None
to_jump vars (Raise object) = None
to_jump vars Rethrow = None
to_jump vars (Leave label) = None
to_jump vars EndHandler = None
to_jump vars (Return result) = None

-- whether an instruction is the one behind the jump of a call that begins at a place
abbrev pub is_so_far_behind : Option ℕ → ℕ → ℕ → Bool
is_so_far_behind None place k = false
is_so_far_behind (Some count) place k = place + count == k

abbrev pub is_behind_jump : List ℕ → LirOp → ℕ → ℕ → Bool
is_behind_jump vars op place k = is_so_far_behind (to_jump vars op) place k

-- the number of the call behind whose jump an instruction is, of operations from one on and the places where they begin
abbrev pub call_before : List ℕ → ℕ → ℕ → List ℕ → List LirOp → Option ℕ
call_before vars k n [] ops = None
call_before vars k n (place ∷ places) [] = None
call_before vars k n (place ∷ places) (op ∷ ops) =
    if is_behind_jump vars op place k then Some n else call_before vars k (n + 1) places ops

abbrev pub call_at : LirBody → ℕ → Option ℕ
call_at body k = call_before body.vars k 0 (stops_of body) body.ops

-- ---- the map

-- a place of an item's body
pub record Spot : Type 0 where
  pub item : ℕ
  pub body : LirBody
  pub place : ℕ

-- what stands at the instruction at an address, by what its body tells of its instructions
abbrev pub spot_by : (LirBody → ℕ → Option ℕ) → Placing → ℕ → Option Spot
spot_by place placing address =
    option_and_then
    (λ around. if (address - around.begin) % 4 == 0
    then option_map (λ p. record { item = around.item; body = around.body; place = p })
    (place around.body ((address - around.begin) / 4))
    else None)
    (around_at placing address)

-- the operation that begins at an address, and the call that goes on there
abbrev pub stands_at : Placing → ℕ → Option Spot
stands_at placing address = spot_by operation_at placing address

abbrev pub waits_at : Placing → ℕ → Option Spot
waits_at placing address = spot_by call_at placing address

-- ---- frames

-- A frame that the machine holds, with the words that x18 to x25 had when it last ran.
pub record Held : Type 0 where
  pub spot : Spot
  pub address : ℕ
  pub homes : List ℕ

-- how many homes a body has
abbrev pub homes_of : LirBody → ℕ
homes_of body = length (take home_count body.vars)

-- the words of the homes that a frame saved, of which there are so many
abbrev pub saved : MachineState → ℕ → ℕ → List ℕ
saved m address count = listed (λ k. word_at m (address + homes_at + 8 * k)) 0 count

-- x18 to x25 as the caller of a frame had them
abbrev pub homes_below : MachineState → Held → List ℕ
homes_below m held =
    saved m held.address (homes_of held.spot.body) ++ drop (homes_of held.spot.body) held.homes

-- where the caller of a frame stands, which lies at the frame's end, if that isn't the stack's
abbrev pub caller_of : Placing → MachineState → Held → Option Spot
caller_of placing m held =
    if nat_lt (held.address + held.spot.body.frame) placing.program.stack_end
    then waits_at placing (word_at m (held.address + return_at)) else None

-- so many frames at most, from one on
abbrev pub held_from : ℕ → Placing → MachineState → Option Spot → ℕ → List ℕ → List Held
held_from zero placing m spot address homes = []
held_from (suc n) placing m None address homes = []
held_from (suc n) placing m (Some spot) address homes =
    let held : Held = record { spot = spot; address = address; homes = homes } in
    held ∷ held_from n placing m (caller_of placing m held) (address + spot.body.frame) (homes_below m held)

-- all of them: no more fit below the stack's end than there are bytes
abbrev pub held_in : Placing → MachineState → List Held
held_in placing m =
    held_from (placing.program.stack_end - register m frame_address) placing m (stands_at placing m.pc)
    (register m frame_address) (listed (register m) first_home home_count)

abbrev pub frame_of : MachineState → Held → Frame
frame_of m held = record {
  item = held.spot.item;
  place = held.spot.place;
  address = held.address;
  dictionary = Some (word_at m (held.address + dictionary_at));
  entered = [];
}

-- ---- memory

-- the word of a variable of a frame
abbrev pub word_by_home : Option ℕ → MachineState → Held → ℕ → ℕ
word_by_home (Some register) m held slot = slice_index held.homes (register - first_home)
word_by_home None m held slot = word_at m (held.address + slot_place slot)

abbrev pub variable_word : MachineState → Held → ℕ → ℕ
variable_word m held slot = word_by_home (home held.spot.body.vars slot) m held slot

-- whether a variable of the frame would lie at an address
abbrev pub has_variable : Held → ℕ → Bool
has_variable held address =
    is_of_slots held.spot.body held.address address
    && is_variable held.spot.body (slot_at held.address address)

-- a byte of the variable that would lie at an address
abbrev pub variable_byte : MachineState → Held → ℕ → ℕ
variable_byte m held address =
    slice_index (little_bytes 8 (variable_word m held (slot_at held.address address)))
    ((address - (held.address + fixed_bytes)) % 8)

-- what lies beyond all addresses, so far behind them
abbrev pub beyond : MachineState → List Held → ℕ → Cell
beyond m [] address = Missing
beyond m (held ∷ others) address =
    if has_variable held address then Byte (variable_byte m held address) else beyond m others address

abbrev pub cell_of : Option ℕ → Cell
cell_of None = Missing
cell_of (Some byte) = Byte byte

abbrev pub memory_in : Placing → MachineState → FlatMemory
memory_in placing m =
    λ place. if nat_lt place addresses then cell_of (byte_in m.segments place)
    else beyond m (held_in placing m) (place - addresses)

-- ---- all of it

-- the state that a machine holds where its pc stands at an operation
unfoldable pub words : Placing → MachineState → WordState
words placing m = record {
  frames = map (frame_of m) (held_in placing m);
  memory = memory_in placing m;
  heap_used = register m heap_end - placing.program.heap_begin;
  under_way = AnOperation;
}

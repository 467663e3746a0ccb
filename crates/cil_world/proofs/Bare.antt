-- A bare body as a program of one method: the two runs go step by step.
use Rattle.std.proofs.Common.{◌≡◌, ◌∙◌, ◌≤◌, ℕ, zero, suc, ◌+◌, ◌-◌, ◌==◌, ◌&&◌, ℤ, pos, negsuc, Bool, true, false}
use Rattle.std.proofs.Common.{List, [], ◌∷◌, ap, arith, drop, length, Option, Some, None, nat_le, nat_lt, not, refl}
use Rattle.std.proofs.Common.{if◌then◌else◌, le-leb, subst, sym}
use Rattle.std.specs.Option.{option_map, option_map_or}
use Rattle.num_core.specs.Bits.{low_bits}
use Rattle.num_core.specs.declared.kind.Narrow.TheVariants.{I4}
use Rattle.num_core.specs.Run.{Ended, Run, Running, Stopped, Streams, after, one_more}
use Rattle.ty_terms.specs.declared.ty.Primitive.{Primitive}
use Rattle.ty_terms.specs.declared.ty.Ty.{Ty}
use Rattle.ty_terms.specs.declared.ty.Ty.TheVariants.{Prim}
use Rattle.ty_terms.specs.Induction.{out-Prim}
use Rattle.il_code.specs.declared.body.Body.{Body}
use Rattle.il_code.specs.declared.body.Instr.{Instr}
use Rattle.il_code.specs.declared.body.Operand.{Operand}
use Rattle.il_code.specs.declared.body.Operand.TheVariants.{Nothing, Number, Token, Target, Targets}
use Rattle.il_code.specs.declared.opcode.Op.{Op}
use Rattle.il_code.specs.declared.operation.BinaryOperation.{BinaryOperation}
use Rattle.il_code.specs.declared.operation.BinaryOperation.TheVariants.{Add, Subtract, Multiply}
use Rattle.il_code.specs.declared.operation.Operation.{Operation}
use Rattle.il_code.specs.declared.operation.Operation.TheVariants.{NoOperation, Constant, Duplicate, Discard, Binary}
use Rattle.il_code.specs.declared.operation.Operation.TheVariants.{Branch, BranchIfTrue, Return}
use Rattle.il_code.specs.Operations.{int32, operation_of}
use Rattle.ty_names.specs.Modules.{World}
use Rattle.ty_load.specs.Types.{is_void, is_void_layer}
use Rattle.il_stacks.specs.declared.effect.Results.TheVariants.{Nothing as NoResult}
use Rattle.il_verify.specs.Actions.{Action, AtPlaces, OnBranches, ByCalls, Quiet, Twice, Drop, Go, GoUnlessZero}
use Rattle.il_verify.specs.Actions.{Return as ReturnAction, Sized, Wraps, action_of, combining, constant}
use Rattle.il_verify.specs.Actions.{Add as Adding, Subtract as Subtracting, Multiply as Multiplying}
use Rattle.il_verify.specs.CallRows.{Prefix, param_test}
use Rattle.il_verify.specs.Flow.{action_at, prefix_at, reached_offsets}
use Rattle.il_verify.specs.Kinds.{Number as NumberContent, content_of, content_of_layer}
use Rattle.il_verify.specs.Row.{Row, taking}
use Rattle.il_verify.specs.Rows.{row_of}
use Rattle.il_verify.specs.Scope.{Callee, Scope}
use Rattle.cil_state.specs.State.{CilCause as BareCause, CilState as BareState, Frame as BareFrame, Int32, Slot}
use Rattle.cil_state.specs.Step.{cil_run as bare_run, cil_start as bare_start, cil_step as bare_step}
use Rattle.cil_state.specs.Step.{instruction_in, on_frames, on_instruction, performs as bare_performs}
use Rattle.cil_state.specs.Calls.{returns}
use Rattle.cil_world.specs.Bare.{BeginsWith, as_frame, as_state}
use Rattle.cil_world.specs.CallSteps.{status_of}
use Rattle.cil_world.specs.Contents.{stored, stored_content}
use Rattle.cil_world.specs.Did.{Did, Cannot}
use Rattle.cil_world.specs.Entering.{Entry, entry, has_stack, is_before_field, is_done, is_triggering, stub_bytes}
use Rattle.cil_world.specs.PlaceSteps.{goes_if}
use Rattle.cil_world.specs.State.{CilState, Frame, Setting, change_top, initializing, with_stack}
use Rattle.cil_world.specs.Step.{CilRun, cil_start, cil_step, does, performs, performs_in, run_under}
use Rattle.cil_world.specs.Step.{begins_callee, begins_entry, begins_in, begins_name, begins_with, pushes_stub, settles}
use Rattle.cil_world.specs.Step.{taken, with_row}
use Rattle.cil_world.specs.Values.{Value}

-- ---- what operations are

-- one row for each operation
abbrev action_for : Operation → Action
action_for NoOperation = AtPlaces Quiet
action_for (Constant n) = constant n
action_for Duplicate = AtPlaces Twice
action_for Discard = AtPlaces Drop
action_for (Binary Add) = combining (Adding Wraps)
action_for (Binary Subtract) = combining (Subtracting Wraps)
action_for (Binary Multiply) = combining (Multiplying Wraps)
action_for (Branch target) = OnBranches (Go target)
action_for (BranchIfTrue target) = OnBranches (GoUnlessZero target)
action_for Return = ByCalls ReturnAction

abbrev action_or : Option Operation → Action → Action
action_or None other = other
action_or (Some operation) other = action_for operation

constant_if : (n : ℤ) (b : Bool) (other : Action)
    → other ≡ constant n → other ≡ action_or (option_map Constant (if b then Some n else None)) other
constant_if n true other is = is
constant_if n false other is = refl

constant_is : (n : ℤ) → constant n ≡ action_or (option_map Constant (int32 n)) (constant n)
constant_is (pos n) = constant_if (pos n) (nat_lt n 2147483648) (constant (pos n)) refl
constant_is (negsuc n) = constant_if (negsuc n) (nat_lt n 2147483648) (constant (negsuc n)) refl

-- what one table reads, the other reads so
is_the : (op : Op) (operand : Operand) → action_of op operand ≡ action_or (operation_of op operand) (action_of op
    operand)
unfolding action_of
is_the Op.Ret Nothing = refl
is_the _ Nothing = refl
is_the Op.LdcI4S (Number n) = constant_is n
is_the Op.LdcI4 (Number n) = constant_is n
is_the _ (Number (pos n)) = refl
is_the _ (Number (negsuc n)) = refl
is_the Op.Ret (Token token) = refl
is_the _ (Token token) = refl
is_the Op.Ret (Target target) = refl
is_the _ (Target target) = refl
is_the Op.Ret (Targets targets) = refl
is_the _ (Targets targets) = refl

-- ---- two runs that go together

-- where the one goes on, the other goes on in the same state, and where it ends, the other ends so
abbrev Follows : World → Callee → Entry → Run BareState BareCause → CilRun → Type 0
Follows world callee found (Running state streams) run = run ≡ Running (as_state world callee found state) streams
Follows world callee found (Ended status streams) run = run ≡ Ended status streams
Follows world callee found (Stopped cause streams) run = Unit {0}

-- ---- an int32 that is returned is stored as it is

void_int32 : is_void (Prim Primitive.I4) ≡ false
void_int32 = ap is_void_layer (out-Prim Primitive.I4)

content_int32 : (world : World) → content_of world (Prim Primitive.I4) ≡ NumberContent (Sized I4)
content_int32 world = ap (content_of_layer world (Prim Primitive.I4)) (out-Prim Primitive.I4)

stored_int32 : (world : World) (ty : Ty) (n : ℤ) → ty ≡ Prim Primitive.I4
    → stored world ty (Value.Int32 n) ≡ Value.Int32 n
stored_int32 world ty n is =
    ap (λ t. stored world t (Value.Int32 n)) is ∙ ap (λ c. stored_content c (Value.Int32 n)) (content_int32 world)

abbrev returning : Scope → Bool → Option Row
returning scope void =
    if void then Some (taking [] NoResult)
    else Some (taking (param_test scope.world scope.result ∷ []) NoResult)

-- ---- an instruction, by what it does and its row

abbrev did_by : Setting → Entry → CilState → Frame → Prefix → ℕ → Action → Option Row → Did
did_by setting found state frame prefix next action None = Cannot
did_by setting found state frame prefix next action (Some row) =
    does setting found.scope (change_top (with_stack (drop row.takes frame.stack)) state)
    (length state.frames - 1) frame false prefix next action (taken row.takes frame.stack)

with_row_is : (setting : Setting) (found : Entry) (state : CilState) (frame : Frame) (prefix : Prefix) (i : Instr)
    (row : Option Row)
    → with_row setting found state frame false prefix i row
    ≡ did_by setting found state frame prefix i.next (action_at i) row
with_row_is setting found state frame prefix i None = refl
with_row_is setting found state frame prefix i (Some row) = refl

module _ (world : World) (setting : Setting) (callee : Callee) (found : Entry) where
  abbrev frame_of : BareFrame → Frame
  frame_of = as_frame world callee found

  abbrev state_of : BareFrame → List BareFrame → CilState
  state_of frame below = as_state world callee found (record { frames = frame ∷ below })

  -- where an operation leads
  abbrev led : BareFrame → List BareFrame → Prefix → ℕ → Action → Streams → CilRun
  led frame below prefix next action streams =
      settles world setting (state_of frame below) next streams
      (did_by setting found (state_of frame below) (frame_of frame) prefix next action
      (row_of found.scope prefix action))

  module _ (i : Instr) (prefix : Prefix) (streams : Streams) where
    -- an operation that does the same as the bare one
    abbrev Agrees : Operation → BareFrame → List BareFrame → Type 0
    Agrees operation frame below =
        Follows world callee found (bare_performs (Some operation) i frame below streams)
        (led frame below prefix i.next (action_for operation) streams)

    by_quiet : (frame : BareFrame) (below : List BareFrame) → Agrees NoOperation frame below
    unfolding row_of
    by_quiet frame below = refl

    by_constant : (n : ℤ) (frame : BareFrame) (below : List BareFrame) → Agrees (Constant n) frame below
    unfolding row_of
    by_constant n frame below = refl

    by_duplicate : (offset : ℕ) (stack : List Slot) (below : List BareFrame)
        → Agrees Duplicate (record { offset = offset; stack = stack }) below
    unfolding row_of
    by_duplicate offset [] below = tt
    by_duplicate offset (Int32 a ∷ stack) below = refl

    by_discard : (offset : ℕ) (stack : List Slot) (below : List BareFrame)
        → Agrees Discard (record { offset = offset; stack = stack }) below
    unfolding row_of
    by_discard offset [] below = tt
    by_discard offset (Int32 a ∷ stack) below = refl

    by_binary : (does : BinaryOperation) (offset : ℕ) (stack : List Slot) (below : List BareFrame)
        → Agrees (Binary does) (record { offset = offset; stack = stack }) below
    unfolding row_of
    by_binary does offset [] below = tt
    by_binary does offset (Int32 b ∷ []) below = tt
    by_binary Add offset (Int32 b ∷ Int32 a ∷ stack) below = refl
    by_binary Subtract offset (Int32 b ∷ Int32 a ∷ stack) below = refl
    by_binary Multiply offset (Int32 b ∷ Int32 a ∷ stack) below = refl

    by_branch : (target : ℕ) (frame : BareFrame) (below : List BareFrame) → Agrees (Branch target) frame below
    unfolding row_of
    by_branch target frame below = refl

    -- by whether the number is 0
    abbrev on_zero : CilState → Bool → ℕ → ℕ → List Slot → List BareFrame → Type 0
    on_zero before is target offset stack below =
        settles world setting before i.next streams
        (goes_if (state_of (record { offset = offset; stack = stack }) below) i.next target (Some is))
        ≡ Running (state_of (record { offset = if is then i.next else target; stack = stack }) below) streams

    by_zero : (before : CilState) (is : Bool) (target offset : ℕ) (stack : List Slot) (below : List BareFrame)
        → on_zero before is target offset stack below
    by_zero before true target offset stack below = refl
    by_zero before false target offset stack below = refl

    by_branch_if : (target offset : ℕ) (stack : List Slot) (below : List BareFrame)
        → Agrees (BranchIfTrue target) (record { offset = offset; stack = stack }) below
    unfolding row_of
    by_branch_if target offset [] below = tt
    by_branch_if target offset (Int32 (pos n) ∷ stack) below =
        by_zero (state_of (record { offset = offset; stack = Int32 (pos n) ∷ stack }) below) (n == 0) target offset
        stack below
    by_branch_if target offset (Int32 (negsuc n) ∷ stack) below =
        by_zero (state_of (record { offset = offset; stack = Int32 (negsuc n) ∷ stack }) below) false target offset
        stack below

    -- ---- a return takes the int32 that the method gives, and stores it as it is

    return_row : found.scope.result ≡ Prim Primitive.I4
        → row_of found.scope prefix (ByCalls ReturnAction)
        ≡ Some (taking (param_test found.scope.world found.scope.result ∷ []) NoResult)
    unfolding row_of
    return_row gives = ap (λ ty. returning found.scope (is_void ty)) gives ∙ ap (returning found.scope) void_int32

    ends_with : (n : ℤ) (offset : ℕ) → found.scope.result ≡ Prim Primitive.I4
        → led (record { offset = offset; stack = Int32 n ∷ [] }) [] prefix i.next (ByCalls ReturnAction) streams
        ≡ Ended (low_bits 8 n) streams
    ends_with n offset gives =
        ap (λ row. settles world setting (state_of (record { offset = offset; stack = Int32 n ∷ [] }) []) i.next streams
        (did_by setting found (state_of (record { offset = offset; stack = Int32 n ∷ [] }) [])
        (frame_of (record { offset = offset; stack = Int32 n ∷ [] })) prefix i.next (ByCalls ReturnAction) row))
        (return_row gives)
        ∙ ap (λ value. Ended (status_of (value ∷ [])) streams) (stored_int32 found.scope.world found.scope.result n
        gives)

    by_return : (offset : ℕ) (stack : List Slot) (below : List BareFrame) → found.scope.result ≡ Prim Primitive.I4
        → Follows world callee found (returns stack below streams)
        (led (record { offset = offset; stack = stack }) below prefix i.next (ByCalls ReturnAction) streams)
    by_return offset [] below gives = tt
    by_return offset (Int32 n ∷ []) [] gives = ends_with n offset gives
    by_return offset (Int32 n ∷ []) (frame ∷ below) gives = tt
    by_return offset (Int32 n ∷ slot ∷ stack) below gives = tt

    by_operation : (operation : Operation) (offset : ℕ) (stack : List Slot) (below : List BareFrame)
        → found.scope.result ≡ Prim Primitive.I4
        → Agrees operation (record { offset = offset; stack = stack }) below
    by_operation NoOperation offset stack below gives = by_quiet (record { offset = offset; stack = stack }) below
    by_operation (Constant n) offset stack below gives = by_constant n (record { offset = offset; stack = stack }) below
    by_operation Duplicate offset stack below gives = by_duplicate offset stack below
    by_operation Discard offset stack below gives = by_discard offset stack below
    by_operation (Binary does) offset stack below gives = by_binary does offset stack below
    by_operation (Branch target) offset stack below gives =
        by_branch target (record { offset = offset; stack = stack }) below
    by_operation (BranchIfTrue target) offset stack below gives = by_branch_if target offset stack below
    by_operation Return offset stack below gives = by_return offset stack below gives

    -- ---- the instruction at which the frame stands

    by_read : (operation : Option Operation) (frame : BareFrame) (below : List BareFrame)
        → found.scope.result ≡ Prim Primitive.I4
        → action_at i ≡ action_or operation (action_at i)
        → Follows world callee found (bare_performs operation i frame below streams)
        (led frame below prefix i.next (action_at i) streams)
    by_read None frame below gives is = tt
    by_read (Some operation) frame below gives is =
        subst (λ action. Follows world callee found (bare_performs (Some operation) i frame below streams)
        (led frame below prefix i.next action streams)) (sym is)
        (by_operation operation frame.offset frame.stack below gives)

  by_instruction : (o : Option Instr) (frame : BareFrame) (below : List BareFrame) (streams : Streams)
      → found.scope.result ≡ Prim Primitive.I4
      → Follows world callee found (on_instruction o frame below streams)
      (performs world setting (state_of frame below) (frame_of frame) false streams found o)
  by_instruction None frame below streams gives = tt
  by_instruction (Some i) frame below streams gives =
      let prefix : Prefix = prefix_at found.scope found.body (reached_offsets found.body) i.at in
      subst (λ did. Follows world callee found (on_instruction (Some i) frame below streams)
      (settles world setting (state_of frame below) i.next streams did))
      (sym (with_row_is setting found (state_of frame below) (frame_of frame) prefix i
      (row_of found.scope prefix (action_at i))))
      (by_read i prefix streams (operation_of i.op i.operand) frame below gives (is_the i.op i.operand))

  -- ---- steps and runs

  module _ (entered : entry world callee.name ≡ Some found) (gives : found.scope.result ≡ Prim Primitive.I4) where
    by_frames : (frames : List BareFrame) (streams : Streams)
        → Follows world callee found (on_frames found.body frames streams)
        (cil_step world setting (as_state world callee found (record { frames = frames })) streams)
    unfolding cil_step
    by_frames [] streams = tt
    by_frames (frame ∷ below) streams =
        subst (λ o. Follows world callee found (on_instruction (instruction_in found.body frame.offset) frame below
        streams)
        (performs_in world setting (state_of frame below) (frame_of frame) false streams o)) (sym entered)
        (by_instruction (instruction_in found.body frame.offset) frame below streams gives)

    one_follows : (bare : Run BareState BareCause) (run : CilRun) → Follows world callee found bare run
        → Follows world callee found (one_more (bare_step found.body) bare) (one_more (cil_step world setting) run)
    one_follows (Running state streams) run is =
        subst (λ r. Follows world callee found (bare_step found.body state streams) (one_more (cil_step world setting)
        r))
        (sym is) (by_frames state.frames streams)
    one_follows (Ended status streams) run is = ap (one_more (cil_step world setting)) is
    one_follows (Stopped cause streams) run is = tt

    all_follow : (n : ℕ) (bare : Run BareState BareCause) (run : CilRun) → Follows world callee found bare run
        → Follows world callee found (after (bare_step found.body) n bare) (after (cil_step world setting) n run)
    all_follow zero bare run is = is
    all_follow (suc n) bare run is =
        one_follows (after (bare_step found.body) n bare) (after (cil_step world setting) n run)
        (all_follow n bare run is)

-- ---- the begin

abbrev begun : List ℕ → Streams
begun input = record { input = input; output = []; error = [] }

has_room : (bytes most : ℕ) → bytes ≤ most → nat_le (0 + bytes) most ≡ true
has_room bytes most room = le-leb (0 + bytes) most (omega (arith, room))

module _ (world : World) (setting : Setting) (body : Body) (b : BeginsWith world setting body) where
  abbrev first : CilState
  first = as_state world b.callee b.found bare_start

  is_quiet : (streams : Streams) → begins_with world setting b.callee first streams ≡ Running first streams
  is_quiet streams =
      ap (λ name. if option_map_or (λ n. true) name false && not (is_done (initializing first b.callee.name.owner))
      && not (is_before_field world b.callee.name.owner) && is_triggering world b.callee
      then pushes_stub (has_stack world setting first.frames stub_bytes) b.callee.name.owner false first streams
      else Running first streams) b.quiet

  starts : (input : List ℕ) → cil_start world setting input ≡ Running first (begun input)
  unfolding cil_start
  starts input =
      ap (begins_name world setting (begun input)) b.begins
      ∙ ap (begins_callee world setting (begun input)) b.called
      ∙ ap (begins_entry world setting b.callee (begun input)) b.entered
      ∙ ap (λ is. begins_in is world setting b.callee b.found (begun input))
      (has_room b.found.bytes setting.bounds.stack b.room)
      ∙ is_quiet (begun input)

  follows : (input : List ℕ) (n : ℕ)
      → Follows world b.callee b.found (bare_run body input n) (run_under world setting input n)
  follows input n =
      subst (λ other. Follows world b.callee b.found (bare_run other input n) (run_under world setting input n))
      b.has_body
      (all_follow world setting b.callee b.found b.entered b.gives n (Running bare_start (begun input))
      (cil_start world setting input) (starts input))

pub goes_on : (world : World) (setting : Setting) (body : Body) (begins : BeginsWith world setting body)
    (input : List ℕ) (n : ℕ) (state : BareState) (streams : Streams)
    → bare_run body input n ≡ Running state streams
    → run_under world setting input n ≡ Running (as_state world begins.callee begins.found state) streams
goes_on world setting body begins input n state streams is =
    subst (λ run. Follows world begins.callee begins.found run (run_under world setting input n)) is
    (follows world setting body begins input n)

pub ends : (world : World) (setting : Setting) (body : Body) (begins : BeginsWith world setting body)
    (input : List ℕ) (n status : ℕ) (streams : Streams)
    → bare_run body input n ≡ Ended status streams
    → run_under world setting input n ≡ Ended status streams
ends world setting body begins input n status streams is =
    subst (λ run. Follows world begins.callee begins.found run (run_under world setting input n)) is
    (follows world setting body begins input n)

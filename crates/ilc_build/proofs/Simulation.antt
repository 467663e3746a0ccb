-- The code of a bare body does what the body does.
use Rattle.std.proofs.Common.{◌≡◌, ◌∙◌, ◌⊎◌, inl, inr, if◌then◌else◌, ℕ, suc, ◌+◌, ◌-◌, ◌*◌, ◌<◌, ◌≤◌, ℤ, pos, negsuc}
use Rattle.std.proofs.Common.{List, [], ◌∷◌, ◌++◌, length, slice_index_or, arith, refl, ap, sym, subst, All, Option}
use Rattle.std.proofs.Common.{Some, None, cond, nat_eq, nat_le, eq-eqb, ne_eqb, find, Bool, true, false, ◌&&◌}
use Rattle.std.proofs.Common.{length-append}
use Rattle.std.specs.List.{AllPass}
use Rattle.std.proofs.lemmas.Bool.Decides.{nat_tests}
use Rattle.std.proofs.lemmas.Int.{ints}
use Rattle.num_core.specs.Integers.{number, held}
use Rattle.num_core.specs.declared.kind.Kind.TheVariants.{I4}
use Rattle.num_core.specs.Run.{Run, Running, Ended, Streams, Same, after, one_more}
use Rattle.num_core.proofs.Runs.{Simulates}
use Rattle.il_code.specs.declared.body.Body.{Body}
use Rattle.il_code.specs.declared.body.Instr.{Instr}
use Rattle.il_code.specs.declared.operation.Operation.{Operation}
use Rattle.il_code.specs.declared.operation.Operation.TheVariants.{NoOperation, Constant, Duplicate, Discard, Binary}
use Rattle.il_code.specs.declared.operation.Operation.TheVariants.{Branch, BranchIfTrue, Return}
use Rattle.il_code.specs.Listing.{is_boundary}
use Rattle.il_code.specs.declared.operation.BinaryOperation.{BinaryOperation}
use Rattle.rv_isa.specs.Operands.{IsBranchOffset, IsJumpOffset}
use Rattle.num_core.specs.Bits.{low_bits}
use Rattle.rv_step.specs.Machine.{MachineState, machine_step}
use Rattle.rv_step.specs.declared.segment.Segment.{Segment}
use Rattle.rv_step.specs.declared.trap.Trap.{Trap}
use Rattle.ilc_build.specs.Bare.{IsBareCode}
use Rattle.cil_state.specs.State.{CilState, CilCause, Frame, Slot, Int32}
use Rattle.cil_state.specs.Arithmetic.{result_of}
use Rattle.cil_state.specs.Branches.{is_zero}
use Rattle.cil_state.specs.Step.{cil_step, on_instruction, performs}
use Rattle.ilc_build.specs.Code.{IsInt32Instr, LoadsInt32, code_of, code_from, distance, operation_code, operation_size}
use Rattle.ilc_build.specs.Code.{place_of, row_code, row_size}
use Rattle.ilc_build.specs.Depths.{can_be_done, first_against, is_reached, is_verified_at, leads_by, operation_at}
use Rattle.ilc_build.specs.Depths.{operation_leads, row}
use Rattle.ilc_build.specs.Implements.{most_steps}
use Rattle.ilc_build.specs.Typing.{depth_behind, takes, tiny_max_stack}
use Rattle.ilc_build.specs.declared.depths.Known.{Known}
use Rattle.ilc_build.specs.declared.depths.Known.TheVariants.{Depth}
use Rattle.ilc_build.proofs.Blocks.{OnStack, Walks, Went, went_nowhere, went_constant, went_duplicate, went_binary}
use Rattle.ilc_build.proofs.Blocks.{went_elsewhere, went_either_way, went_home}
use Rattle.il_code.proofs.Following.{follow}
use Rattle.ilc_build.proofs.Moves.{Found, Lands, inside, lands, next_place}
use Rattle.ilc_build.proofs.Place.{BlockAt, block_at}
use Rattle.ilc_build.proofs.Splits.{AreBefore, Parts, parts, holds-here, few_of_code, place_within}

-- the slots of an evaluation stack of numbers
abbrev pub slots_of : List ℤ → List Slot
slots_of [] = []
slots_of (n ∷ stack) = Int32 n ∷ slots_of stack

-- the body at an offset, with a stack of numbers
abbrev pub frame_at : ℕ → List ℤ → Frame
frame_at at stack = record { offset = at; stack = slots_of stack }

abbrev pub state_at : ℕ → List ℤ → CilState
state_at at stack = record { frames = frame_at at stack ∷ [] }

-- The body stands at an offset, where the table tells the depth of its stack, and the machine at the code of the
-- instruction there, with the stack in memory.
pub record IsAt (body : Body) (table : List Known) (front : List ℕ) (text : Segment) (at : ℕ) (stack : List ℤ)
    (m : MachineState) : Type 0 where
  pub there : Found body.code at
  pub known : row table (length there.done) ≡ Depth (length stack)
  pub slots : Segment
  pub on : OnStack front (code_of body.code table) text slots (place_of body.code table at) stack m

-- The states that belong together: at an instruction, and at the end.
pub data Related (body : Body) (table : List Known) (front : List ℕ) (text : Segment) : Run CilState CilCause
    → Run MachineState Trap → Type 0 where
  AtInstruction : (at : ℕ) (stack : List ℤ) (m : MachineState) (streams : Streams)
      → IsAt body table front text at stack m
      → Related body table front text (Running (state_at at stack) streams) (Running m streams)
  AtEnd : (n : ℤ) (streams : Streams)
      → Related body table front text (Ended (low_bits 8 n) streams) (Ended (low_bits 8 n) streams)

pub alike : (body : Body) (table : List Known) (front : List ℕ) (text : Segment) (a : Run CilState CilCause)
    (b : Run MachineState Trap) → Related body table front text a b → Same a b
alike body table front text _ _ (AtInstruction at stack m streams is) = refl
alike body table front text _ _ (AtEnd n streams) = (refl, refl)

-- ---- the body's step

found_behind : (done rest : List Instr) (i : Instr) → AreBefore i.at done
    → find (λ j. nat_eq j.at i.at) (done ++ i ∷ rest) ≡ Some i
found_behind [] rest i earlier = ap (λ b. cond b (Some i) (find (λ j. nat_eq j.at i.at) rest)) (eq-eqb i.at i.at refl)
found_behind (j ∷ done) rest i earlier =
    let other : nat_eq j.at i.at ≡ false = ne_eqb j.at i.at (omega (arith, earlier.0)) in
    ap (λ b. cond b (Some j) (find (λ j. nat_eq j.at i.at) (done ++ i ∷ rest))) other
    ∙ found_behind done rest i earlier.1

pub performed : (body : Body) (at : ℕ) (there : Found body.code at) (operation : Operation) (stack : List ℤ)
    (streams : Streams) → operation_at there.i ≡ Some operation
    → cil_step body (state_at at stack) streams ≡ performs (Some operation) there.i (frame_at at stack) [] streams
performed body at there operation stack streams does =
    let i : Instr = there.i in
    ap (λ instrs. on_instruction (find (λ j. nat_eq j.at at) instrs) (frame_at at stack) [] streams) there.split
    ∙ ap (λ n. on_instruction (find (λ j. nat_eq j.at n) (there.done ++ i ∷ there.rest)) (frame_at at stack) [] streams)
    (sym there.here)
    ∙ ap (λ o. on_instruction o (frame_at at stack) [] streams) (found_behind there.done there.rest i there.earlier)
    ∙ ap (λ o. performs o i (frame_at at stack) [] streams) does

-- ---- the machine's code there

pub block_of : (code : List ℕ) (body : Body) (table : List Known) (at d : ℕ) (operation : Operation)
    → IsBareCode code body table → (there : Found body.code at) → row table (length there.done) ≡ Depth d
    → operation_at there.i ≡ Some operation
    → BlockAt (code_of body.code table) (place_of body.code table at)
    (operation_code (place_of body.code table) (place_of body.code table at) d operation)
block_of code body table at d operation bare there known does =
    let places : ℕ → ℕ = place_of body.code table in
    let size : length table ≡ length (there.done ++ there.i ∷ there.rest) = bare.least.solution.size
    ∙ ap length there.split in
    let p : Parts places 0 there.done there.rest there.i table =
    parts places 0 there.done there.rest there.i table size in
    let place : places at ≡ length p.before = ap (λ l. place_of l table at) there.split
    ∙ ap (place_of (there.done ++ there.i ∷ there.rest) table) (sym there.here) ∙ p.here there.earlier in
    let split : code_of body.code table ≡ p.before ++ (operation_code places (places at) d operation ++ p.behind) =
    ap (λ l. code_from places 0 l table) there.split ∙ p.code
    ∙ ap (λ n. p.before ++ (row_code places n (row table (length there.done)) (operation_at there.i) ++ p.behind))
    (let e : 0 + length p.before ≡ places at = omega (arith, place) in e)
    ∙ ap (λ k. p.before ++ (row_code places (places at) k (operation_at there.i) ++ p.behind)) known
    ∙ ap (λ o. p.before ++ (row_code places (places at) (Depth d) o ++ p.behind)) does in
    block_at p.before (operation_code places (places at) d operation) p.behind (code_of body.code table) (places at)
    split place

-- ---- on to the instruction behind

-- In 1 to 24 steps of the machine, all of them at instructions of the code, the two come to states that belong
-- together.
pub record Follows (body : Body) (table : List Known) (front : List ℕ) (text : Segment) (run : Run CilState CilCause)
    (m : MachineState) (streams : Streams) : Type 0 where
  pub count : ℕ
  pub few : count < 24
  pub to : Run MachineState Trap
  pub walks : Walks front (code_of body.code table) text (suc count) (Running m streams) to
  pub related : Related body table front text run to

-- where the body and the machine come to the same instruction
comes_to : (body : Body) (table : List Known) (front : List ℕ) (text : Segment) (at offset place : ℕ)
    (stack stack' : List ℤ) (operation : Operation) (m : MachineState) (streams : Streams)
    → (there : Found body.code at) → operation_at there.i ≡ Some operation
    → performs (Some operation) there.i (frame_at at stack) [] streams ≡ Running (state_at offset stack') streams
    → Lands body table offset (length stack') → Went front (code_of body.code table) text place stack' m streams
    → place ≡ place_of body.code table offset
    → Follows body table front text (cil_step body (state_at at stack) streams) m streams
comes_to body table front text at offset place stack stack' operation m streams there does performs_is l went here =
    let step : cil_step body (state_at at stack) streams ≡ Running (state_at offset stack') streams =
    performed body at there operation stack streams does ∙ performs_is in
    let is : IsAt body table front text offset stack' went.machine =
    record {
      there = l.there;
      known = l.known;
      slots = went.slots;
      on =
          subst (λ k. OnStack front (code_of body.code table) text went.slots k stack' went.machine) here went.on;
    } in
    record {
      count = went.count;
      few = went.few;
      to = Running went.machine streams;
      walks = went.walks;
      related = subst (λ run. Related body table front text run (Running went.machine streams)) (sym step)
          (AtInstruction offset stack' went.machine streams is);
    }

-- the place of the instruction behind
place_next : (code : List ℕ) (body : Body) (table : List Known) (at d : ℕ) (operation : Operation)
    → IsBareCode code body table → (there : Found body.code at) → row table (length there.done) ≡ Depth d
    → operation_at there.i ≡ Some operation → is_boundary body.code there.i.next ≡ true
    → place_of body.code table there.i.next ≡ place_of body.code table at + operation_size operation
place_next code body table at d operation bare there known does begin =
    next_place (length code) body.code there.done there.rest there.i table there.split
    (follow code body.code bare.instructions) bare.least.solution.size there.earlier begin
    ∙ ap (λ n. place_of body.code table n + row_size (row table (length there.done)) (operation_at there.i)) there.here
    ∙ ap (λ k. place_of body.code table at + row_size k (operation_at there.i)) known
    ∙ ap (λ o. place_of body.code table at + row_size (Depth d) o) does

-- an operation that leads to the instruction behind alone
follows_on : (code : List ℕ) (body : Body) (table : List Known) (front : List ℕ) (text : Segment) (at place : ℕ)
    (stack stack' : List ℤ) (operation : Operation) (m : MachineState) (streams : Streams) → IsBareCode code body table
    → (there : Found body.code at) → row table (length there.done) ≡ Depth (length stack)
    → operation_at there.i ≡ Some operation
    → operation_leads operation there.i.next ≡ there.i.next ∷ [] → takes operation ≤ length stack
    → length stack' ≡ depth_behind (length stack) operation
    → performs (Some operation) there.i (frame_at at stack) [] streams ≡ Running (state_at there.i.next stack')
    streams
    → Went front (code_of body.code table) text place stack' m streams
    → place ≡ place_of body.code table at + operation_size operation
    → Follows body table front text (cil_step body (state_at at stack) streams) m streams
follows_on code body table front text at place stack stack' operation m streams bare there known does leads enough size
    performs_is went here =
    let next : ℕ = there.i.next in
    let all : All (λ offset. Lands body table offset (depth_behind (length stack) operation)) (next ∷ []) =
    subst (All (λ offset. Lands body table offset (depth_behind (length stack) operation))) leads
    (lands code body table at (length stack) operation bare there known does enough) in
    let begins : AllPass (is_boundary body.code) (next ∷ []) =
    subst (AllPass (is_boundary body.code)) (ap (λ o. leads_by o there.i) does ∙ leads)
    (inside code body table at (length stack) bare there known) in
    let begin : is_boundary body.code next ≡ true = begins 0 0 (omega arith) in
    let to : Lands body table next (length stack') = subst (Lands body table next) (sym size) (all 0 0 (omega arith)) in
    comes_to body table front text at next place stack stack' operation m streams there does performs_is to went
    (here ∙ sym (place_next code body table at (length stack) operation bare there known does begin))

-- ---- each operation

follows_return : (code : List ℕ) (body : Body) (table : List Known) (front : List ℕ) (text : Segment) (at : ℕ) (n : ℤ)
    (m : MachineState) (streams : Streams) → IsBareCode code body table
    → (is : IsAt body table front text at (n ∷ []) m) → operation_at is.there.i ≡ Some Return
    → Follows body table front text (cil_step body (state_at at (n ∷ [])) streams) m streams
follows_return code body table front text at n m streams bare is does =
    record {
      count = 3;
      few = omega arith;
      to = Ended (low_bits 8 n) streams;
      walks = went_home (place_of body.code table) (place_of body.code table at) n streams is.on
          (block_of code body table at 1 Return bare is.there is.known does);
      related = subst (λ run. Related body table front text run (Ended (low_bits 8 n) streams))
          (sym (performed body at is.there Return (n ∷ []) streams does)) (AtEnd n streams);
    }

follows_nothing : (code : List ℕ) (body : Body) (table : List Known) (front : List ℕ) (text : Segment) (at : ℕ)
    (stack : List ℤ) (m : MachineState) (streams : Streams) → IsBareCode code body table
    → (is : IsAt body table front text at stack m) → operation_at is.there.i ≡ Some NoOperation
    → Follows body table front text (cil_step body (state_at at stack) streams) m streams
follows_nothing code body table front text at stack m streams bare is does =
    follows_on code body table front text at (suc (place_of body.code table at)) stack stack NoOperation m streams bare
    is.there is.known does refl (omega arith) (omega arith) refl
    (went_nowhere stack stack streams is.on
    (block_of code body table at (length stack) NoOperation bare is.there is.known does) is.on.holds is.on.fits)
    (omega arith)

follows_constant : (code : List ℕ) (body : Body) (table : List Known) (front : List ℕ) (text : Segment) (at : ℕ) (n : ℤ)
    (stack : List ℤ) (m : MachineState) (streams : Streams) → IsBareCode code body table
    → (is : IsAt body table front text at stack m) → operation_at is.there.i ≡ Some (Constant n)
    → LoadsInt32 (Constant n) → length stack ≤ 8
    → Follows body table front text (cil_step body (state_at at stack) streams) m streams
follows_constant code body table front text at n stack m streams bare is does loads few =
    follows_on code body table front text at (suc (suc (suc (suc (place_of body.code table at))))) stack (n ∷ stack)
    (Constant n) m streams bare is.there is.known does refl (omega arith) (omega arith) refl
    (went_constant (place_of body.code table) (place_of body.code table at) stack n streams loads few is.on
    (block_of code body table at (length stack) (Constant n) bare is.there is.known does)) (omega arith)

follows_duplicate : (code : List ℕ) (body : Body) (table : List Known) (front : List ℕ) (text : Segment) (at : ℕ)
    (n : ℤ) (stack : List ℤ) (m : MachineState) (streams : Streams) → IsBareCode code body table
    → (is : IsAt body table front text at (n ∷ stack) m) → operation_at is.there.i ≡ Some Duplicate
    → length (n ∷ stack) ≤ 8
    → Follows body table front text (cil_step body (state_at at (n ∷ stack)) streams) m streams
follows_duplicate code body table front text at n stack m streams bare is does few =
    follows_on code body table front text at (suc (suc (suc (place_of body.code table at)))) (n ∷ stack) (n ∷ n ∷ stack)
    Duplicate m streams bare is.there is.known does refl (omega arith) (omega arith) refl
    (went_duplicate (place_of body.code table) (place_of body.code table at) stack n streams few is.on
    (block_of code body table at (length (n ∷ stack)) Duplicate bare is.there is.known does)) (omega arith)

follows_discard : (code : List ℕ) (body : Body) (table : List Known) (front : List ℕ) (text : Segment) (at : ℕ) (n : ℤ)
    (stack : List ℤ) (m : MachineState) (streams : Streams) → IsBareCode code body table
    → (is : IsAt body table front text at (n ∷ stack) m) → operation_at is.there.i ≡ Some Discard
    → Follows body table front text (cil_step body (state_at at (n ∷ stack)) streams) m streams
follows_discard code body table front text at n stack m streams bare is does =
    follows_on code body table front text at (suc (place_of body.code table at)) (n ∷ stack) stack Discard m streams
    bare is.there is.known does refl (omega arith) (omega arith) refl
    (went_nowhere (n ∷ stack) stack streams is.on
    (block_of code body table at (length (n ∷ stack)) Discard bare is.there is.known does) is.on.holds.1
    is.on.fits.1) (omega arith)

follows_binary : (code : List ℕ) (body : Body) (table : List Known) (front : List ℕ) (text : Segment) (at : ℕ)
    (operation : BinaryOperation) (a b : ℤ) (stack : List ℤ) (m : MachineState) (streams : Streams)
    → IsBareCode code body table → (is : IsAt body table front text at (b ∷ a ∷ stack) m)
    → operation_at is.there.i ≡ Some (Binary operation) → length (b ∷ a ∷ stack) ≤ 8
    → Follows body table front text (cil_step body (state_at at (b ∷ a ∷ stack)) streams) m streams
follows_binary code body table front text at operation a b stack m streams bare is does few =
    follows_on code body table front text at (suc (suc (suc (suc (suc (place_of body.code table at)))))) (b ∷ a ∷ stack)
    (held I4 (result_of operation (number I4 a) (number I4 b)) ∷ stack) (Binary operation) m streams bare is.there
    is.known does refl (omega arith) (omega arith) refl
    (went_binary (place_of body.code table) (place_of body.code table at) stack operation a b streams few is.on
    (block_of code body table at (length (b ∷ a ∷ stack)) (Binary operation) bare is.there is.known does))
    (omega arith)

-- ---- branches

either_side : (a b : ℕ) → (a ≤ b) ⊎ (b < a)
either_side a b = grind arith

distance_on : (a b : ℕ) → a ≤ b → distance a b ≡ pos (4 * (b - a))
distance_on a b h = omega (arith, ints, h)

distance_back : (a b : ℕ) → b < a → distance a b ≡ negsuc (4 * (a - b) - 1)
distance_back a b h = omega (arith, ints, h)

-- code of a bare body is so short that each branch reaches
reaches : (a b : ℕ) → a ≤ 340 → b ≤ 340 → IsBranchOffset (distance a b)
reaches a b h h' = elim (either_side a b) [
  | inl on ↦ subst IsBranchOffset (sym (distance_on a b on))
      (omega (arith, ints, on, h, h'), omega (arith, ints, on, h, h'), omega (arith, ints, on, h, h'))
  | inr back ↦ subst IsBranchOffset (sym (distance_back a b back))
      (omega (arith, ints, back, h, h'), omega (arith, ints, back, h, h'), omega (arith, ints, back, h, h'))
]

jumps : (a b : ℕ) → a ≤ 340 → b ≤ 340 → IsJumpOffset (distance a b)
jumps a b h h' = let r : IsBranchOffset (distance a b) = reaches a b h h' in
    (omega (arith, ints, r.0), omega (arith, ints, r.1), r.2)

follows_branch : (code : List ℕ) (body : Body) (table : List Known) (front : List ℕ) (text : Segment) (at target : ℕ)
    (stack : List ℤ) (m : MachineState) (streams : Streams) → IsBareCode code body table → length body.code < 64
    → (is : IsAt body table front text at stack m) → operation_at is.there.i ≡ Some (Branch target)
    → Follows body table front text (cil_step body (state_at at stack) streams) m streams
follows_branch code body table front text at target stack m streams bare short is does =
    let places : ℕ → ℕ = place_of body.code table in
    let long : length (code_of body.code table) ≤ 5 * length body.code = few_of_code places 0 body.code table in
    let here : places at ≤ length (code_of body.code table) = place_within places 0 body.code table at in
    let there : places target ≤ length (code_of body.code table) = place_within places 0 body.code table target in
    let all : All (λ offset. Lands body table offset (length stack - 0 + 0)) (target ∷ []) =
    lands code body table at (length stack) (Branch target) bare is.there is.known does (omega arith) in
    let same : length stack - 0 + 0 ≡ length stack = omega arith in
    let to : Lands body table target (length stack) = subst (Lands body table target) same (all 0 0 (omega arith)) in
    comes_to body table front text at target (places target) stack stack (Branch target) m streams is.there does refl to
    (went_elsewhere (places target) stack streams is.on
    (block_of code body table at (length stack) (Branch target) bare is.there is.known does) there
    (jumps (places at) (places target) (omega (arith, short, long, here)) (omega (arith, short, long, there)))) refl

follows_branch_if_true : (code : List ℕ) (body : Body) (table : List Known) (front : List ℕ) (text : Segment)
    (at target : ℕ) (n : ℤ) (stack : List ℤ) (m : MachineState) (streams : Streams) → IsBareCode code body table
    → length body.code < 64 → (is : IsAt body table front text at (n ∷ stack) m)
    → operation_at is.there.i ≡ Some (BranchIfTrue target) → length (n ∷ stack) ≤ 8
    → Follows body table front text (cil_step body (state_at at (n ∷ stack)) streams) m streams
follows_branch_if_true code body table front text at target n stack m streams bare short is does few =
    let places : ℕ → ℕ = place_of body.code table in
    let next : ℕ = is.there.i.next in
    let place : ℕ = places at in
    let long : length (code_of body.code table) ≤ 5 * length body.code = few_of_code places 0 body.code table in
    let here : place ≤ length (code_of body.code table) = place_within places 0 body.code table at in
    let there : places target ≤ length (code_of body.code table) = place_within places 0 body.code table target in
    let all : All (λ offset. Lands body table offset (length (n ∷ stack) - 1 + 0)) (next ∷ target ∷ []) =
    lands code body table at (length (n ∷ stack)) (BranchIfTrue target) bare is.there is.known does (omega arith) in
    let same : length (n ∷ stack) - 1 + 0 ≡ length stack = omega arith in
    let to_next : Lands body table next (length stack) = subst (Lands body table next) same (all 0 0 (omega arith)) in
    let to_target : Lands body table target (length stack) =
    subst (Lands body table target) same (all 1 0 (omega arith)) in
    let begins : AllPass (is_boundary body.code) (next ∷ target ∷ []) =
    subst (AllPass (is_boundary body.code)) (ap (λ o. leads_by o is.there.i) does)
    (inside code body table at (length (n ∷ stack)) bare is.there is.known) in
    let behind : places next ≡ place + 3 =
    place_next code body table at (length (n ∷ stack)) (BranchIfTrue target) bare is.there is.known does
    (begins 0 0 (omega arith)) in
    let went : Went front (code_of body.code table) text (if is_zero n then suc (suc (suc place)) else places target)
    stack m streams =
    went_either_way place (places target) stack n streams refl few is.on
    (block_of code body table at (length (n ∷ stack)) (BranchIfTrue target) bare is.there is.known does) there
    (reaches (place + 2) (places target) (omega (arith, short, long, here)) (omega (arith, short, long, there))) in
    by (is_zero n) refl to_next to_target behind went
  where
    by : (b : Bool) → is_zero n ≡ b → Lands body table is.there.i.next (length stack)
        → Lands body table target (length stack)
        → place_of body.code table is.there.i.next ≡ place_of body.code table at + 3
        → Went front (code_of body.code table) text
        (if b then suc (suc (suc (place_of body.code table at))) else place_of body.code table target) stack m
        streams → Follows body table front text (cil_step body (state_at at (n ∷ stack)) streams) m streams
    by true is_0 to_next to_target behind went =
        comes_to body table front text at is.there.i.next (suc (suc (suc (place_of body.code table at)))) (n ∷ stack)
        stack (BranchIfTrue target) m streams is.there does
        (ap (λ b. Running (state_at (if b then is.there.i.next else target) stack) streams) is_0) to_next went
        (omega (arith, behind))
    by false other to_next to_target behind went =
        comes_to body table front text at target (place_of body.code table target) (n ∷ stack) stack
        (BranchIfTrue target) m streams is.there does
        (ap (λ b. Running (state_at (if b then is.there.i.next else target) stack) streams) other) to_target went refl

-- ---- one step

index_behind : (done rest : List Instr) (i d : Instr) → slice_index_or (done ++ i ∷ rest) (length done) d ≡ i
index_behind [] rest i d = refl
index_behind (x ∷ done) rest i d = index_behind done rest i d

pub both_hold : (a b : Bool) → (a && b) ≡ true → (a ≡ true) × (b ≡ true)
both_hold true true e = (refl, refl)
both_hold true false e = cc
both_hold false b e = cc

pub at_most : (a b : ℕ) → nat_le a b ≡ true → a ≤ b
at_most a b t = grind (arith, nat_tests)

is_number : (a b : ℕ) → nat_eq a b ≡ true → a ≡ b
is_number a b t = grind (arith, nat_tests)

verified_here : (code : List ℕ) (body : Body) (table : List Known) (at d : ℕ) → IsBareCode code body table
    → (there : Found body.code at) → row table (length there.done) ≡ Depth d
    → can_be_done tiny_max_stack (Depth d) (operation_at there.i) ≡ true
verified_here code body table at d bare there known =
    let all : List Instr = there.done ++ there.i ∷ there.rest in
    let size : length table ≡ length all = bare.least.solution.size ∙ ap length there.split in
    let none : first_against (is_verified_at tiny_max_stack) all table ≡ None =
    ap (λ l. first_against (is_verified_at tiny_max_stack) l table) (sym there.split) ∙ bare.verified in
    ap (λ k. can_be_done tiny_max_stack k (operation_at there.i)) (sym known)
    ∙ holds-here (is_verified_at tiny_max_stack) there.done there.rest there.i table size none (ap is_reached known)

loads_here : (body : Body) (at : ℕ) (operation : Operation) → All IsInt32Instr body.code → (there : Found body.code at)
    → operation_at there.i ≡ Some operation → LoadsInt32 operation
loads_here body at operation loads there does =
    let n : ℕ = length there.done in
    let inside : n < length (there.done ++ there.i ∷ there.rest) =
    omega (arith, length-append there.done (there.i ∷ there.rest)) in
    let here : IsInt32Instr (slice_index_or (there.done ++ there.i ∷ there.rest) n there.i) =
    (subst (All IsInt32Instr) there.split loads) n there.i inside in
    let one : IsInt32Instr there.i = subst IsInt32Instr (index_behind there.done there.rest there.i there.i) here in
    one operation does

follows_operation : (code : List ℕ) (body : Body) (table : List Known) (front : List ℕ) (text : Segment) (at : ℕ)
    (operation : Operation) (stack : List ℤ) (m : MachineState) (streams : Streams) → IsBareCode code body table
    → length body.code < 64 → LoadsInt32 operation → (is : IsAt body table front text at stack m)
    → operation_at is.there.i ≡ Some operation
    → can_be_done tiny_max_stack (Depth (length stack)) (Some operation) ≡ true
    → Follows body table front text (cil_step body (state_at at stack) streams) m streams
follows_operation code body table front text at NoOperation stack m streams bare short loads is does can =
    follows_nothing code body table front text at stack m streams bare is does
follows_operation code body table front text at (Constant n) stack m streams bare short loads is does can =
    let b : (nat_le (length stack) 8 ≡ true)
    × (nat_le 0 (length stack) ≡ true) = both_hold (nat_le (length stack) 8) (nat_le 0 (length stack)) can in
    follows_constant code body table front text at n stack m streams bare is does loads (at_most (length stack) 8 b.0)
follows_operation code body table front text at Duplicate [] m streams bare short loads is does can =
    absurd (let h : false ≡ true = can in cc)
follows_operation code body table front text at Duplicate (n ∷ stack) m streams bare short loads is does can =
    let b : (nat_le (length (n ∷ stack)) 8 ≡ true)
    × (nat_le 1 (length (n ∷ stack)) ≡ true) =
    both_hold (nat_le (length (n ∷ stack)) 8) (nat_le 1 (length (n ∷ stack))) can in
    follows_duplicate code body table front text at n stack m streams bare is does (at_most (length (n ∷ stack)) 8 b.0)
follows_operation code body table front text at Discard [] m streams bare short loads is does can =
    absurd (let h : false ≡ true = can in cc)
follows_operation code body table front text at Discard (n ∷ stack) m streams bare short loads is does can =
    follows_discard code body table front text at n stack m streams bare is does
follows_operation code body table front text at (Binary operation) [] m streams bare short loads is does can =
    absurd (let h : false ≡ true = can in cc)
follows_operation code body table front text at (Binary operation) (n ∷ []) m streams bare short loads is does can =
    absurd (let h : false ≡ true = can in cc)
follows_operation code body table front text at (Binary operation) (b ∷ a ∷ stack) m streams bare short loads is does
    can =
    let t : (nat_le (length (b ∷ a ∷ stack)) 8 ≡ true)
    × (nat_le 2 (length (b ∷ a ∷ stack)) ≡ true) =
    both_hold (nat_le (length (b ∷ a ∷ stack)) 8) (nat_le 2 (length (b ∷ a ∷ stack))) can in
    follows_binary code body table front text at operation a b stack m streams bare is does
    (at_most (length (b ∷ a ∷ stack)) 8 t.0)
follows_operation code body table front text at (Branch target) stack m streams bare short loads is does can =
    follows_branch code body table front text at target stack m streams bare short is does
follows_operation code body table front text at (BranchIfTrue target) [] m streams bare short loads is does can =
    absurd (let h : false ≡ true = can in cc)
follows_operation code body table front text at (BranchIfTrue target) (n ∷ stack) m streams bare short loads is does can
    =
    let b : (nat_le (length (n ∷ stack)) 8 ≡ true)
    × (nat_le 1 (length (n ∷ stack)) ≡ true) =
    both_hold (nat_le (length (n ∷ stack)) 8) (nat_le 1 (length (n ∷ stack))) can in
    follows_branch_if_true code body table front text at target n stack m streams bare short is does
    (at_most (length (n ∷ stack)) 8 b.0)
follows_operation code body table front text at Return [] m streams bare short loads is does can =
    absurd (let h : false ≡ true = can in cc)
follows_operation code body table front text at Return (n ∷ []) m streams bare short loads is does can =
    follows_return code body table front text at n m streams bare is does
follows_operation code body table front text at Return (n ∷ n' ∷ stack) m streams bare short loads is does can =
    let b : (nat_le (length (n ∷ n' ∷ stack)) 8 ≡ true)
    × (nat_eq (length (n ∷ n' ∷ stack)) 1 ≡ true) =
    both_hold (nat_le (length (n ∷ n' ∷ stack)) 8) (nat_eq (length (n ∷ n' ∷ stack)) 1) can in
    absurd (let e : suc (suc (length stack)) ≡ 1 = is_number (length (n ∷ n' ∷ stack)) 1 b.1 in omega (arith, e))

-- From where the body and the machine stand together, one step of the body is 1 to 24 steps of the machine.
pub follows : (code : List ℕ) (body : Body) (table : List Known) (front : List ℕ) (text : Segment) (at : ℕ)
    (stack : List ℤ) (m : MachineState) (streams : Streams) → IsBareCode code body table → length body.code < 64
    → All IsInt32Instr body.code → IsAt body table front text at stack m
    → Follows body table front text (cil_step body (state_at at stack) streams) m streams
follows code body table front text at stack m streams bare short loads is =
    by (operation_at is.there.i) refl (verified_here code body table at (length stack) bare is.there is.known)
  where
    by : (o : Option Operation) → operation_at is.there.i ≡ o
        → can_be_done tiny_max_stack (Depth (length stack)) o ≡ true
        → Follows body table front text (cil_step body (state_at at stack) streams) m streams
    by None e can = cc
    by (Some operation) e can = follows_operation code body table front text at operation stack m streams bare short
        (loads_here body at operation loads is.there e) is e can

-- From related states, one step of the body is 1 to 24 steps of the machine to related states.
pub goes : (code : List ℕ) (body : Body) (table : List Known) (front : List ℕ) (text : Segment)
    → IsBareCode code body table → length body.code < 64 → All IsInt32Instr body.code
    → (a : Run CilState CilCause) (b : Run MachineState Trap) → Related body table front text a b
    → (count : ℕ) × (suc count ≤ most_steps)
    × Related body table front text (one_more (cil_step body) a) (after machine_step (suc count) b)
goes code body table front text bare short loads _ _ (AtInstruction at stack m streams is) =
    let f : Follows body table front text (cil_step body (state_at at stack) streams) m streams =
    follows code body table front text at stack m streams bare short loads is in
    let few : f.count < 24 = f.few in (
      f.count,
      omega arith,
      subst (Related body table front text (cil_step body (state_at at stack) streams))
          (sym f.walks.runs) f.related,
    )
goes code body table front text bare short loads _ _ (AtEnd n streams) = (0, omega arith, AtEnd n streams)

pub simulates : (code : List ℕ) (body : Body) (table : List Known) (front : List ℕ) (text : Segment)
    → IsBareCode code body table → length body.code < 64 → All IsInt32Instr body.code
    → Simulates (cil_step body) machine_step (Related body table front text) most_steps
simulates code body table front text bare short loads =
    record { goes = goes code body table front text bare short loads }

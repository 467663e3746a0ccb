-- What the code of each operation does to the evaluation stack in memory.
use Rattle.std.proofs.Common.{◌≡◌, ◌∙◌, ◌≢◌, ◌⊎◌, inl, inr, Bool, true, false, not, if◌then◌else◌, nat_eq, ne_eqb, ℕ}
use Rattle.std.proofs.Common.{suc, ◌+◌, ◌-◌, ◌*◌, ◌%◌, ◌^◌, ◌<◌, ◌≤◌, ℤ, pos, ◌+ℤ◌, ◌-ℤ◌, ◌*ℤ◌, List, [], ◌∷◌, length}
use Rattle.std.proofs.Common.{take, drop, arith, refl, ap, sym, subst, Some, slice_get, slice_set, FitsSigned, negsuc}
use Rattle.std.proofs.lemmas.Int.{ints, SFits-int_wrap}
use Rattle.std.specs.Int.{w32}
use Rattle.byteorder.specs.Endian.{little_bytes}
use Rattle.num_core.specs.Integers.{number, held}
use Rattle.num_core.specs.declared.kind.Kind.TheVariants.{I4}
use Rattle.num_core.specs.Run.{Run, Running, Ended, Streams, after, one_more}
use Rattle.il_code.specs.declared.operation.Operation.TheVariants.{Constant, Duplicate, Binary, Return}
use Rattle.il_code.specs.declared.operation.BinaryOperation.{BinaryOperation}
use Rattle.il_code.specs.declared.operation.BinaryOperation.TheVariants.{Add, Subtract, Multiply}
use Rattle.rv_isa.specs.declared.ins.Ins.{Ins}
use Rattle.rv_isa.specs.declared.ins.Ins.TheVariants.{Lui, Jal, Bne, Addi, Addiw, Ecall}
use Rattle.rv_isa.specs.Operands.{IsJumpOffset, IsBranchOffset}
use Rattle.rv_isa.specs.Instructions.{IsLegal}
use Rattle.num_core.specs.Bits.{low_bits}
use Rattle.rv_step.specs.Machine.{MachineState, machine_step, effect, gives, register, low_word, next_pc, request}
use Rattle.rv_step.specs.Machine.{answers}
use Rattle.rv_step.specs.declared.segment.Segment.{Segment}
use Rattle.rv_step.specs.declared.trap.Trap.{Trap}
use Rattle.cil_state.specs.Arithmetic.{result_of}
use Rattle.cil_state.specs.Branches.{is_zero}
use Rattle.ilc_build.specs.Code.{upper, lower, stack_address, load_slot, store_slot, binary_instruction, no_operation}
use Rattle.ilc_build.specs.Code.{distance, operation_code}
use Rattle.ilc_build.proofs.Constants.{constant_value, lower_is_immediate}
use Rattle.ilc_build.proofs.Place.{StandsAt, BlockAt, steps_at, stands_next, within}
use Rattle.ilc_build.proofs.Registers.{HasRegisters, Gets, has_registers, register_same, register_other, low_byte}
use Rattle.ilc_build.proofs.Slots.{Holds, HasSlots, stack_at, loads_slot, stores_slot, with_slot, still_slots, pushed}
use Rattle.ilc_build.proofs.Values.{low_bits-small, sum_value, difference_value, product_value}

-- each number of a stack is an int32
abbrev pub AllFit : List ℤ → Type 0
AllFit [] = Unit {0}
AllFit (n ∷ stack) = FitsSigned w32 n × AllFit stack

-- The machine stands at the k-th instruction of the code, with a stack in memory.
pub record OnStack (front : List ℕ) (code : List Ins) (text slots : Segment) (k : ℕ) (stack : List ℤ) (m : MachineState)
    : Type 0 where
  pub at : StandsAt front code text slots k m
  pub has : HasRegisters m
  pub memory : HasSlots text slots
  pub holds : Holds stack slots.bytes
  pub fits : AllFit stack

-- the machine stands at an instruction of the code
abbrev pub IsInCode : List ℕ → List Ins → Segment → Run MachineState Trap → Type 0
IsInCode front code text (Running m streams) = (k : ℕ) × (k < length code) × (m.pc ≡ text.at + length front + 4 * k)
IsInCode front code text _ = ⊥

-- So many steps lead from one moment of a run to another, each of them at an instruction of the code.
pub record Walks (front : List ℕ) (code : List Ins) (text : Segment) (count : ℕ) (from to : Run MachineState Trap)
    : Type 0 where
  pub runs : after machine_step count from ≡ to
  pub inside : (j : ℕ) → j < count → IsInCode front code text (after machine_step j from)

-- In 1 to 24 steps the machine comes to another place and stack.
pub record Went (front : List ℕ) (code : List Ins) (text : Segment) (place : ℕ) (stack : List ℤ) (m : MachineState)
    (streams : Streams) : Type 0 where
  pub count : ℕ
  pub few : count < 24
  pub machine : MachineState
  pub slots : Segment
  pub walks : Walks front code text (suc count) (Running m streams) (Running machine streams)
  pub on : OnStack front code text slots place stack machine

stays : (front : List ℕ) (code : List Ins) (text : Segment) (from : Run MachineState Trap)
    → Walks front code text 0 from from
stays front code text from = record
    { runs = refl; inside = λ j h. absurd (let less : j < 0 = h in omega (arith, less)) }

up_to : (j count : ℕ) → j < suc count → (j < count) ⊎ (j ≡ count)
up_to j count h = grind arith

-- one more step
walks_on : {front : List ℕ} {code : List Ins} {text slots : Segment} {k count : ℕ} {m : MachineState}
    {from run : Run MachineState Trap} (streams : Streams) (ins : Ins)
    → Walks front code text count from (Running m streams) → StandsAt front code text slots k m
    → slice_get code k ≡ Some ins → machine_step m streams ≡ run → Walks front code text (suc count) from run
walks_on {front} {code} {text} {slots} {k} {count} {m} {from} {run} streams ins so_far at there step =
    let here : IsInCode front code text (Running m streams) = (k, within code k ins there, at.pc) in
    record {
      runs = ap (one_more machine_step) so_far.runs ∙ step;
      inside = λ j h. elim (up_to j count h) [
        | inl less ↦ so_far.inside j less
        | inr e ↦ subst (λ n. IsInCode front code text (after machine_step n from)) (sym e)
            (subst (IsInCode front code text) (sym so_far.runs) here)
      ];
    }

-- ---- single instructions

-- a register got a value
record Given (front : List ℕ) (code : List Ins) (text slots : Segment) (k r value : ℕ) (m : MachineState)
    (streams : Streams) : Type 0 where
  machine : MachineState
  steps : machine_step m streams ≡ Running machine streams
  at : StandsAt front code text slots (suc k) machine
  has : HasRegisters machine
  gets : Gets r value m machine

given : {front : List ℕ} {code : List Ins} {text slots : Segment} {k : ℕ} {m : MachineState} (r value : ℕ)
    (streams : Streams) (ins : Ins) → StandsAt front code text slots k m → HasRegisters m → slice_get code k ≡ Some ins
    → IsLegal ins → effect ins m streams ≡ gives m (suc r) value streams
    → Given front code text slots k (suc r) value m streams
given {front} {code} {text} {slots} {k} {m} r value streams ins at has there legal is =
    let m' : MachineState = record {
      pc = next_pc m;
      registers = slice_set m.registers (suc r) value;
      segments =
          m.segments;
    } in
    let gets : Gets (suc r) value m m' = record { registers = refl } in
    record {
      machine = m';
      steps = steps_at front code text slots k m streams ins at there legal ∙ is;
      at = stands_next front code text slots slots k m m' at (within code k ins there) refl at.memory;
      has = has_registers (suc r) value m m' (omega arith) has gets;
      gets = gets;
    }

-- t0 has the address of the stack
record Addressed (front : List ℕ) (code : List Ins) (text slots : Segment) (k : ℕ) (m : MachineState)
    (streams : Streams) : Type 0 where
  value : ℕ
  given : Given front code text slots k 5 value m streams
  base : register given.machine 5 ≡ stack_at

addressed : {front : List ℕ} {code : List Ins} {text slots : Segment} {k : ℕ} {m : MachineState} (streams : Streams)
    → StandsAt front code text slots k m → HasRegisters m → slice_get code k ≡ Some stack_address
    → Addressed front code text slots k m streams
addressed {front} {code} {text} {slots} {k} {m} streams at has there =
    let v : ℕ = low_word (pos (17 * 2 ^ 12)) in
    let value : v ≡ stack_at = omega arith in
    let g : Given front code text slots k 5 v m streams =
    given 4 v streams stack_address at has there (omega arith, omega arith) refl in
    record { value = v; given = g; base = register_same 5 v m g.machine (omega arith) has g.gets ∙ value }

slot_legal : (rd k : ℕ) → rd < 32 → k < 9 → IsLegal (load_slot rd k)
slot_legal rd k h h' = (h, omega arith, (omega (arith, ints), omega (arith, ints)))

-- a register got the number in a slot
loaded : {front : List ℕ} {code : List Ins} {text slots : Segment} {k : ℕ} {m : MachineState} (r j : ℕ) (n : ℤ)
    (streams : Streams) → StandsAt front code text slots k m → HasRegisters m → HasSlots text slots
    → slice_get code k ≡ Some (load_slot (suc r) j) → suc r < 32 → j < 9 → register m 5 ≡ stack_at
    → take 8 (drop (8 * j) slots.bytes) ≡ little_bytes 8 (low_bits 64 n)
    → Given front code text slots k (suc r) (low_bits 64 n) m streams
loaded {front} {code} {text} {slots} {k} {m} r j n streams at has memory there h h' base holds =
    given r (low_bits 64 n) streams (load_slot (suc r) j) at has there (slot_legal (suc r) j h h')
    (loads_slot text slots j (suc r) (low_bits 64 n) m streams h' (low_bits-small n) memory at.memory base holds)

-- a slot got the number in t1
record Stored (front : List ℕ) (code : List Ins) (text slots : Segment) (k j v : ℕ) (m : MachineState)
    (streams : Streams) : Type 0 where
  machine : MachineState
  steps : machine_step m streams ≡ Running machine streams
  at : StandsAt front code text (with_slot j v slots) (suc k) machine
  has : HasRegisters machine
  memory : HasSlots text (with_slot j v slots)

stored : {front : List ℕ} {code : List Ins} {text slots : Segment} {k : ℕ} {m : MachineState} (j v : ℕ)
    (streams : Streams) → StandsAt front code text slots k m → HasRegisters m → HasSlots text slots
    → slice_get code k ≡ Some (store_slot j) → j < 9 → register m 5 ≡ stack_at → register m 6 ≡ v
    → Stored front code text slots k j v m streams
stored {front} {code} {text} {slots} {k} {m} j v streams at has memory there h base value =
    let m' : MachineState = record {
      pc = next_pc m;
      registers = m.registers;
      segments = text ∷ with_slot j v slots
          ∷ [];
    } in
    let legal : IsLegal (store_slot j) = (omega arith, omega arith, (omega (arith, ints), omega (arith, ints))) in
    record {
      machine = m';
      steps = steps_at front code text slots k m streams (store_slot j) at there legal
          ∙ stores_slot text slots j v m streams h memory at.memory base value;
      at = stands_next front code text slots (with_slot j v slots) k m m' at (within code k (store_slot j) there) refl
          refl;
      has = record { count = has.count; x0 = has.x0 };
      memory = still_slots text slots j v h memory;
    }

-- ---- the code of each operation

-- the instruction that does nothing, where another stack stands in the same slots
pub went_nowhere : {front : List ℕ} {code : List Ins} {text slots : Segment} {k : ℕ} {m : MachineState}
    (stack stack' : List ℤ) (streams : Streams) → OnStack front code text slots k stack m
    → BlockAt code k (no_operation ∷ []) → Holds stack' slots.bytes → AllFit stack'
    → Went front code text (suc k) stack' m streams
went_nowhere {front} {code} {text} {slots} {k} {m} stack stack' streams on block holds fits =
    let m' : MachineState = record { pc = next_pc m; registers = m.registers; segments = m.segments } in
    let legal : IsLegal no_operation = (omega arith, omega arith, (omega (arith, ints), omega (arith, ints))) in
    let step : machine_step m streams ≡ Running m' streams =
    steps_at front code text slots k m streams no_operation on.at block.0 legal in
    record {
      count = 0;
      few = omega arith;
      machine = m';
      slots = slots;
      walks = walks_on streams no_operation (stays front code text (Running m streams)) on.at block.0 step;
      on = record {
        at = stands_next front code text slots slots k m m' on.at (within code k no_operation block.0) refl
            on.at.memory;
        has = record { count = on.has.count; x0 = on.has.x0 };
        memory = on.memory;
        holds = holds;
        fits = fits;
      };
    }

pub went_constant : (places : ℕ → ℕ) (place : ℕ)
    → {front : List ℕ} {code : List Ins} {text slots : Segment} {k : ℕ} {m : MachineState} (stack : List ℤ) (n : ℤ)
    (streams : Streams) → FitsSigned w32 n → length stack ≤ 8 → OnStack front code text slots k stack m
    → BlockAt code k (operation_code places place (length stack) (Constant n))
    → Went front code text (suc (suc (suc (suc k)))) (n ∷ stack) m streams
went_constant places place {front} {code} {text} {slots} {k} {m} stack n streams fits h on block =
    let v : ℕ = low_word (pos (upper n * 2 ^ 12)) in
    let g1 : Given front code text slots k 6 v m streams =
    given 5 v streams (Lui 6 (upper n)) on.at on.has block.0 (omega arith, omega arith) refl in
    let w : ℕ = low_word (pos (register g1.machine 6) +ℤ lower n) in
    let g2 : Given front code text slots (suc k) 6 w g1.machine streams =
    given 5 w streams (Addiw 6 6 (lower n)) g1.at g1.has block.1.0 (omega arith, omega arith, lower_is_immediate n)
    refl in
    let number : register g2.machine 6 ≡ low_bits 64 n =
    register_same 6 w g1.machine g2.machine (omega arith) g1.has g2.gets
    ∙ ap (λ x. low_word (pos x +ℤ lower n)) (register_same 6 v m g1.machine (omega arith) on.has g1.gets)
    ∙ constant_value n fits in
    let a : Addressed front code text slots (suc (suc k)) g2.machine streams =
    addressed streams g2.at g2.has block.1.1.0 in
    let ne : 6 ≢ 5 = omega arith in
    let value : register a.given.machine 6 ≡ low_bits 64 n =
    register_other 5 6 a.value g2.machine a.given.machine ne a.given.gets ∙ number in
    let s : Stored front code text slots (suc (suc (suc k))) (length stack) (low_bits 64 n) a.given.machine streams =
    stored (length stack) (low_bits 64 n) streams a.given.at a.given.has on.memory block.1.1.1.0 (omega arith) a.base
    value in
    record {
      count = 3;
      few = omega arith;
      machine = s.machine;
      slots = with_slot (length stack) (low_bits 64 n) slots;
      walks =
          walks_on streams (store_slot (length stack))
          (walks_on streams stack_address (walks_on streams (Addiw 6 6 (lower n))
          (walks_on streams (Lui 6 (upper n)) (stays front code text (Running m streams)) on.at block.0 g1.steps)
          g1.at block.1.0 g2.steps) g2.at block.1.1.0 a.given.steps)
          a.given.at block.1.1.1.0 s.steps;
      on = record {
        at = s.at;
        has = s.has;
        memory = s.memory;
        holds =
            pushed stack n slots.bytes (omega (arith, on.memory.room)) on.holds;
        fits = (fits, on.fits);
      };
    }

pub went_duplicate : (places : ℕ → ℕ) (place : ℕ)
    → {front : List ℕ} {code : List Ins} {text slots : Segment} {k : ℕ} {m : MachineState} (stack : List ℤ) (n : ℤ)
    (streams : Streams) → length (n ∷ stack) ≤ 8 → OnStack front code text slots k (n ∷ stack) m
    → BlockAt code k (operation_code places place (length (n ∷ stack)) Duplicate)
    → Went front code text (suc (suc (suc k))) (n ∷ n ∷ stack) m streams
went_duplicate places place {front} {code} {text} {slots} {k} {m} stack n streams h on block =
    let d : ℕ = length (n ∷ stack) in
    let top : d - 1 ≡ length stack = omega arith in
    let a : Addressed front code text slots k m streams = addressed streams on.at on.has block.0 in
    let g : Given front code text slots (suc k) 6 (low_bits 64 n) a.given.machine streams =
    loaded 5 (d - 1) n streams a.given.at a.given.has on.memory block.1.0 (omega arith) (omega arith) a.base
    (ap (λ j. take 8 (drop (8 * j) slots.bytes)) top ∙ on.holds.0) in
    let ne : 5 ≢ 6 = omega arith in
    let base : register g.machine 5 ≡ stack_at = register_other 6 5 (low_bits 64 n) a.given.machine g.machine ne g.gets
    ∙ a.base in
    let value : register g.machine 6 ≡ low_bits 64 n =
    register_same 6 (low_bits 64 n) a.given.machine g.machine (omega arith) a.given.has g.gets in
    let s : Stored front code text slots (suc (suc k)) d (low_bits 64 n) g.machine streams =
    stored d (low_bits 64 n) streams g.at g.has on.memory block.1.1.0 (omega arith) base value in
    record {
      count = 2;
      few = omega arith;
      machine = s.machine;
      slots = with_slot d (low_bits 64 n) slots;
      walks =
          walks_on streams (store_slot d) (walks_on streams (load_slot 6 (d - 1))
          (walks_on streams stack_address (stays front code text (Running m streams)) on.at block.0 a.given.steps)
          a.given.at block.1.0 g.steps)
          g.at block.1.1.0 s.steps;
      on = record {
        at = s.at;
        has = s.has;
        memory = s.memory;
        holds =
            pushed (n ∷ stack) n slots.bytes (omega (arith, on.memory.room)) on.holds;
        fits = (on.fits.0, on.fits);
      };
    }

-- what t1 and t2 give
binary_legal : (operation : BinaryOperation) → IsLegal (binary_instruction operation)
binary_legal Add = (omega arith, omega arith, omega arith)
binary_legal Subtract = (omega arith, omega arith, omega arith)
binary_legal Multiply = (omega arith, omega arith, omega arith)

binary_effect : (operation : BinaryOperation) (a b : ℤ) (m : MachineState) (streams : Streams)
    → register m 6 ≡ low_bits 64 a → register m 7 ≡ low_bits 64 b
    → effect (binary_instruction operation) m streams ≡ gives m 6
    (low_bits 64 (held I4 (result_of operation (number I4 a) (number I4 b)))) streams
binary_effect Add a b m streams p q =
    ap (λ x. gives m 6 (low_word (pos x +ℤ pos (register m 7))) streams) p
    ∙ ap (λ y. gives m 6 (low_word (pos (low_bits 64 a) +ℤ pos y)) streams) q
    ∙ ap (λ v. gives m 6 v streams) (sum_value a b)
binary_effect Subtract a b m streams p q =
    ap (λ x. gives m 6 (low_word (pos x -ℤ pos (register m 7))) streams) p
    ∙ ap (λ y. gives m 6 (low_word (pos (low_bits 64 a) -ℤ pos y)) streams) q
    ∙ ap (λ v. gives m 6 v streams) (difference_value a b)
binary_effect Multiply a b m streams p q =
    ap (λ x. gives m 6 (low_word (pos x *ℤ pos (register m 7))) streams) p
    ∙ ap (λ y. gives m 6 (low_word (pos (low_bits 64 a) *ℤ pos y)) streams) q
    ∙ ap (λ v. gives m 6 v streams) (product_value a b)

pub went_binary : (places : ℕ → ℕ) (place : ℕ)
    → {front : List ℕ} {code : List Ins} {text slots : Segment} {k : ℕ} {m : MachineState} (stack : List ℤ)
    (operation : BinaryOperation) (a b : ℤ) (streams : Streams) → length (b ∷ a ∷ stack) ≤ 8
    → OnStack front code text slots k (b ∷ a ∷ stack) m
    → BlockAt code k (operation_code places place (length (b ∷ a ∷ stack)) (Binary operation))
    → Went front code text (suc (suc (suc (suc (suc k)))))
    (held I4 (result_of operation (number I4 a) (number I4 b)) ∷ stack) m streams
went_binary places place {front} {code} {text} {slots} {k} {m} stack operation a b streams h on block =
    let d : ℕ = length (b ∷ a ∷ stack) in
    let below : d - 2 ≡ length stack = omega arith in
    let top : d - 1 ≡ length (a ∷ stack) = omega arith in
    let c : ℤ = held I4 (result_of operation (number I4 a) (number I4 b)) in
    let t0 : Addressed front code text slots k m streams = addressed streams on.at on.has block.0 in
    let t1 : Given front code text slots (suc k) 6 (low_bits 64 a) t0.given.machine streams =
    loaded 5 (d - 2) a streams t0.given.at t0.given.has on.memory block.1.0 (omega arith) (omega arith) t0.base
    (ap (λ j. take 8 (drop (8 * j) slots.bytes)) below ∙ on.holds.1.0) in
    let ne56 : 5 ≢ 6 = omega arith in
    let base1 : register t1.machine 5 ≡ stack_at =
    register_other 6 5 (low_bits 64 a) t0.given.machine t1.machine ne56 t1.gets ∙ t0.base in
    let t2 : Given front code text slots (suc (suc k)) 7 (low_bits 64 b) t1.machine streams =
    loaded 6 (d - 1) b streams t1.at t1.has on.memory block.1.1.0 (omega arith) (omega arith) base1
    (ap (λ j. take 8 (drop (8 * j) slots.bytes)) top ∙ on.holds.0) in
    let ne57 : 5 ≢ 7 = omega arith in
    let ne67 : 6 ≢ 7 = omega arith in
    let base2 : register t2.machine 5 ≡ stack_at = register_other 7 5 (low_bits 64 b) t1.machine t2.machine ne57 t2.gets
    ∙ base1 in
    let first : register t2.machine 6 ≡ low_bits 64 a =
    register_other 7 6 (low_bits 64 b) t1.machine t2.machine ne67 t2.gets
    ∙ register_same 6 (low_bits 64 a) t0.given.machine t1.machine (omega arith) t0.given.has t1.gets in
    let second : register t2.machine 7 ≡ low_bits 64 b =
    register_same 7 (low_bits 64 b) t1.machine t2.machine (omega arith) t1.has t2.gets in
    let r : Given front code text slots (suc (suc (suc k))) 6 (low_bits 64 c) t2.machine streams =
    given 5 (low_bits 64 c) streams (binary_instruction operation) t2.at t2.has block.1.1.1.0 (binary_legal operation)
    (binary_effect operation a b t2.machine streams first second) in
    let base3 : register r.machine 5 ≡ stack_at = register_other 6 5 (low_bits 64 c) t2.machine r.machine ne56 r.gets
    ∙ base2 in
    let value : register r.machine 6 ≡ low_bits 64 c =
    register_same 6 (low_bits 64 c) t2.machine r.machine (omega arith) t2.has r.gets in
    let s : Stored front code text slots (suc (suc (suc (suc k)))) (d - 2) (low_bits 64 c) r.machine streams =
    stored (d - 2) (low_bits 64 c) streams r.at r.has on.memory block.1.1.1.1.0 (omega arith) base3 value in
    let holds : Holds (c ∷ stack) (with_slot (d - 2) (low_bits 64 c) slots).bytes =
    subst (λ j. Holds (c ∷ stack) (with_slot j (low_bits 64 c) slots).bytes) (sym below)
    (pushed stack c slots.bytes (omega (arith, on.memory.room)) on.holds.1.1) in
    record {
      count = 4;
      few = omega arith;
      machine = s.machine;
      slots = with_slot (d - 2) (low_bits 64 c) slots;
      walks =
          walks_on streams (store_slot (d - 2))
          (walks_on streams (binary_instruction operation)
          (walks_on streams (load_slot 7 (d - 1))
          (walks_on streams (load_slot 6 (d - 2))
          (walks_on streams stack_address (stays front code text (Running m streams)) on.at block.0 t0.given.steps)
          t0.given.at block.1.0 t1.steps) t1.at block.1.1.0 t2.steps) t2.at block.1.1.1.0 r.steps)
          r.at block.1.1.1.1.0 s.steps;
      on = record {
        at = s.at;
        has = s.has;
        memory = s.memory;
        holds = holds;
        fits =
            (SFits-int_wrap w32 (result_of operation (number I4 a) (number I4 b)), on.fits.1.1);
      };
    }

-- on to another place, with nothing changed but the pc
stands-there : {front : List ℕ} {code : List Ins} {text slots : Segment} {k : ℕ} {m : MachineState} (there : ℕ)
    (m' : MachineState) → StandsAt front code text slots k m → m'.pc ≡ text.at + length front + 4 * there
    → m'.segments ≡ m.segments → StandsAt front code text slots there m'
stands-there there m' at pc segments =
    record {
      memory = segments ∙ at.memory;
      executable = at.executable;
      whole_words = at.whole_words;
      bytes = at.bytes;
      pc = pc;
      room = at.room;
    }

-- where a branch at a place goes
branch_target : (base pc from to : ℕ) → pc ≡ base + 4 * from → base + 4 * to < 2 ^ 64
    → low_bits 64 (pos pc +ℤ distance from to) ≡ base + 4 * to
branch_target base pc from to at room =
    let same : pos pc +ℤ distance from to ≡ pos (base + 4 * to) = omega (arith, ints, at) in
    ap (low_bits 64) same ∙ omega (arith, room)

pub went_elsewhere : {front : List ℕ} {code : List Ins} {text slots : Segment} {k : ℕ} {m : MachineState} (there : ℕ)
    (stack : List ℤ) (streams : Streams) → OnStack front code text slots k stack m
    → BlockAt code k (Jal 0 (distance k there) ∷ []) → there ≤ length code → IsJumpOffset (distance k there)
    → Went front code text there stack m streams
went_elsewhere {front} {code} {text} {slots} {k} {m} there stack streams on block inside near =
    let target : ℕ = low_bits 64 (pos m.pc +ℤ distance k there) in
    let m' : MachineState = record { pc = target; registers = m.registers; segments = m.segments } in
    let legal : IsLegal (Jal 0 (distance k there)) = (omega arith, near) in
    let step : machine_step m streams ≡ Running m' streams =
    steps_at front code text slots k m streams (Jal 0 (distance k there)) on.at block.0 legal in
    let room : text.at + length front + 4 * there < 2 ^ 64 = omega (arith, on.at.room, inside) in
    record {
      count = 0;
      few = omega arith;
      machine = m';
      slots = slots;
      walks = walks_on streams (Jal 0 (distance k there)) (stays front code text (Running m streams)) on.at block.0
          step;
      on = record {
        at = stands-there there m' on.at (branch_target (text.at + length front) m.pc k there on.at.pc room) refl;
        has = record { count = on.has.count; x0 = on.has.x0 };
        memory = on.memory;
        holds = on.holds;
        fits = on.fits;
      };
    }

-- a number that is an int32 is 0 exactly where its register is
zero_test : (n : ℤ) → FitsSigned w32 n → nat_eq (low_bits 64 n) 0 ≡ is_zero n
zero_test (pos a) fits = let small : a < 2 ^ 31 = fits.sfits in let same : a % 2 ^ 64 ≡ a = omega (arith, small) in
    ap (λ x. nat_eq x 0) same
zero_test (negsuc a) fits = let small : a < 2 ^ 31 = fits.sfits in
    ne_eqb (low_bits 64 (negsuc a)) 0 (omega (arith, small))

abbrev pub chosen : ℤ → ℕ → ℕ → ℕ
chosen n behind there = if is_zero n then behind else there

chosen_pc : (b : Bool) (m : MachineState) (base here there : ℕ) → m.pc ≡ base + 4 * here → base + 4 * there < 2 ^ 64
    → base + 4 * (here + 1) < 2 ^ 64 → (if not b then low_bits 64 (pos m.pc +ℤ distance here there) else next_pc m)
    ≡ base + 4 * (if b then suc here else there)
chosen_pc true m base here there at room room' = omega (arith, at, room')
chosen_pc false m base here there at room room' = branch_target base m.pc here there at room

pub went_either_way : (place : ℕ) {front : List ℕ} {code : List Ins} {text slots : Segment} {k : ℕ} {m : MachineState}
    (there : ℕ) (stack : List ℤ) (n : ℤ) (streams : Streams) → place ≡ k → length (n ∷ stack) ≤ 8
    → OnStack front code text slots k (n ∷ stack) m
    → BlockAt code k (stack_address ∷ load_slot 6 (length (n ∷ stack) - 1) ∷ Bne 6 0 (distance (place + 2) there) ∷ [])
    → there ≤ length code → IsBranchOffset (distance (place + 2) there)
    → Went front code text (chosen n (suc (suc (suc k))) there) stack m streams
went_either_way place {front} {code} {text} {slots} {k} {m} there stack n streams here h on block inside near =
    let d : ℕ = length (n ∷ stack) in
    let top : d - 1 ≡ length stack = omega arith in
    let a : Addressed front code text slots k m streams = addressed streams on.at on.has block.0 in
    let g : Given front code text slots (suc k) 6 (low_bits 64 n) a.given.machine streams =
    loaded 5 (d - 1) n streams a.given.at a.given.has on.memory block.1.0 (omega arith) (omega arith) a.base
    (ap (λ j. take 8 (drop (8 * j) slots.bytes)) top ∙ on.holds.0) in
    let imm : ℤ = distance (place + 2) there in
    let value : register g.machine 6 ≡ low_bits 64 n =
    register_same 6 (low_bits 64 n) a.given.machine g.machine (omega arith) a.given.has g.gets in
    let test : nat_eq (register g.machine 6) (register g.machine 0) ≡ is_zero n =
    ap (λ x. nat_eq x (register g.machine 0)) value ∙ ap (nat_eq (low_bits 64 n)) g.has.x0 ∙ zero_test n on.fits.0 in
    let pc : ℕ = if not (is_zero n) then low_bits 64 (pos g.machine.pc +ℤ imm) else next_pc g.machine in
    let m' : MachineState = record { pc = pc; registers = g.machine.registers; segments = g.machine.segments } in
    let legal : IsLegal (Bne 6 0 imm) = (omega arith, omega arith, near) in
    let step : machine_step g.machine streams ≡ Running m' streams =
    steps_at front code text slots (suc (suc k)) g.machine streams (Bne 6 0 imm) g.at block.1.1.0 legal
    ∙ ap (λ b. Running (record g.machine
    { pc = if not b then low_bits 64 (pos g.machine.pc +ℤ imm) else next_pc g.machine }) streams) test in
    let from : place + 2 ≡ suc (suc k) = omega (arith, here) in
    let less : suc (suc k) < length code = within code (suc (suc k)) (Bne 6 0 imm) block.1.1.0 in
    let pc_is : pc ≡ text.at + length front + 4 * chosen n (suc (suc (suc k))) there =
    ap (λ f. if not (is_zero n) then low_bits 64 (pos g.machine.pc +ℤ distance f there) else next_pc g.machine) from
    ∙ chosen_pc (is_zero n) g.machine (text.at + length front) (suc (suc k)) there g.at.pc
    (omega (arith, on.at.room, inside)) (omega (arith, on.at.room, less)) in
    record {
      count = 2;
      few = omega arith;
      machine = m';
      slots = slots;
      walks =
          walks_on streams (Bne 6 0 imm) (walks_on streams (load_slot 6 (d - 1))
          (walks_on streams stack_address (stays front code text (Running m streams)) on.at block.0 a.given.steps)
          a.given.at block.1.0 g.steps)
          g.at block.1.1.0 step;
      on = record {
        at = stands-there (chosen n (suc (suc (suc k))) there) m' g.at pc_is refl;
        has = record { count = g.has.count; x0 = g.has.x0 };
        memory = on.memory;
        holds = on.holds.1;
        fits = on.fits.1;
      };
    }

-- The end of the program, by four steps.
pub went_home : (places : ℕ → ℕ) (place : ℕ)
    → {front : List ℕ} {code : List Ins} {text slots : Segment} {k : ℕ} {m : MachineState} (n : ℤ) (streams : Streams)
    → OnStack front code text slots k (n ∷ []) m → BlockAt code k (operation_code places place 1 Return)
    → Walks front code text 4 (Running m streams) (Ended (low_bits 8 n) streams)
went_home places place {front} {code} {text} {slots} {k} {m} n streams on block =
    let t0 : Addressed front code text slots k m streams = addressed streams on.at on.has block.0 in
    let a0 : Given front code text slots (suc k) 10 (low_bits 64 n) t0.given.machine streams =
    loaded 9 0 n streams t0.given.at t0.given.has on.memory block.1.0 (omega arith) (omega arith) t0.base on.holds.0 in
    let v : ℕ = low_bits 64 (pos (register a0.machine 0) +ℤ pos 93) in
    let a7 : Given front code text slots (suc (suc k)) 17 v a0.machine streams =
    given 16 v streams (Addi 17 0 (pos 93)) a0.at a0.has block.1.1.0
    (omega arith, omega arith, (omega (arith, ints), omega (arith, ints))) refl in
    let number : register a7.machine 17 ≡ 93 = register_same 17 v a0.machine a7.machine (omega arith) a0.has a7.gets
    ∙ ap (λ x. low_bits 64 (pos x +ℤ pos 93)) a0.has.x0 in
    let ne : 10 ≢ 17 = omega arith in
    let status : register a7.machine 10 ≡ low_bits 64 n =
    register_other 17 10 v a0.machine a7.machine ne a7.gets
    ∙ register_same 10 (low_bits 64 n) t0.given.machine a0.machine (omega arith) t0.given.has a0.gets in
    let ends : machine_step a7.machine streams ≡ Ended (low_bits 8 n) streams =
    steps_at front code text slots (suc (suc (suc k))) a7.machine streams Ecall a7.at block.1.1.1.0 tt
    ∙ ap (λ x. answers (request x (register a7.machine 10)) a7.machine streams) number
    ∙ ap (λ x. Ended (x % 256) streams) status
    ∙ ap (λ x. Ended x streams) (low_byte n) in
    walks_on streams Ecall (walks_on streams (Addi 17 0 (pos 93))
    (walks_on streams (load_slot 10 0) (walks_on streams stack_address (stays front code text (Running m streams))
    on.at block.0 t0.given.steps) t0.given.at block.1.0 a0.steps) a0.at block.1.1.0 a7.steps)
    a7.at block.1.1.1.0 ends

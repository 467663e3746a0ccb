-- How a machine goes through the instructions of a body one after the other, all of them in the body's code.
use Rattle.std.proofs.Common.{◌≡◌, ◌∙◌, ◌⊎◌, inl, inr, ℕ, ◌+◌, ◌-◌, ◌*◌, ◌<◌, ◌≤◌, List}
use Rattle.std.proofs.Common.{length, arith, refl, ap, sym, subst, true, Some, slice_get}
use Rattle.num_core.specs.Run.{Running, Streams, after}
use Rattle.rv_isa.specs.declared.ins.Ins.{Ins}
use Rattle.rv_isa.specs.Instructions.{IsLegal}
use Rattle.rv_step.specs.Machine.{MachineState, effect, goes_on_with, machine_step, next_pc, stores}
use Rattle.rv_step.specs.Memory.{AreApart, MayWrite, Writes, is_allowed}
use Rattle.rv_step.specs.Segments.{AreSegments}
use Rattle.rv_step.proofs.Addresses.{writable, writes_by}
use Rattle.byteorder.specs.Endian.{little_bytes}
use Rattle.byteorder.specs.Numbers.{length-bytes_low_first}
use Rattle.rv_code.specs.Code.{CodeAt, given}
use Rattle.rv_code.proofs.Going.{code_in_same_memory, code_kept, next_place, steps_at, within}
use Rattle.rt_code.proofs.Machines.{then_steps}
use Rattle.rv_words.specs.Stands.{FetchesAt, FetchesFrom}

-- The machine comes in so many steps to the instruction at another place of the code, and nothing is read or written
-- outside.
pub record Goes (address : ℕ) (code : List Ins) (place count : ℕ) (m new : MachineState) : Type 0 where
  pub runs : (streams : Streams) → after machine_step count (Running m streams) ≡ Running new streams
  pub fetches : (streams : Streams) → FetchesFrom address (4 * length code) count m streams
  pub code_at : CodeAt address code new
  pub pc : new.pc ≡ address + 4 * place

pub goes_nowhere : (address : ℕ) (code : List Ins) (k : ℕ) (m : MachineState) → CodeAt address code m
    → m.pc ≡ address + 4 * k → Goes address code k 0 m m
goes_nowhere address code k m at pc = record {
  runs = λ streams. refl;
  fetches = λ streams j h. absurd (let none : j < 0 = h in omega (arith, none));
  code_at = at;
  pc = pc;
}

either_part : (j n k : ℕ) → j < n + k → (j < n) ⊎ ((n ≤ j) × (j - n < k))
either_part j n k h = grind arith

-- one way behind another
pub goes_on : (address : ℕ) (code : List Ins) (k k' n n' : ℕ) (m between new : MachineState)
    → Goes address code k n m between → Goes address code k' n' between new
    → Goes address code k' (n + n') m new
goes_on address code k k' n n' m between new first second = record {
  runs = λ streams. then_steps n n' (Running m streams) between streams (Running new streams) (first.runs streams)
      (second.runs streams);
  fetches = λ streams j h. elim (either_part j n n' h) [
    | inl before ↦ first.fetches streams j before
    | inr behind ↦
        let sum : n + (j - n) ≡ j = omega (arith, behind.0) in
        let there : after machine_step (n + (j - n)) (Running m streams)
        ≡ after machine_step (j - n) (Running between streams) =
        then_steps n (j - n) (Running m streams) between streams
        (after machine_step (j - n) (Running between streams)) (first.runs streams) refl in
        let same : after machine_step j (Running m streams)
        ≡ after machine_step (j - n) (Running between streams) =
        ap (λ i. after machine_step i (Running m streams)) (sym sum) ∙ there in
        subst (FetchesAt address (4 * length code)) (sym same) (second.fetches streams (j - n) behind.1)
  ];
  code_at = second.code_at;
  pc = second.pc;
}

only_one : (j : ℕ) → j < 1 → j ≡ 0
only_one j h = omega (arith, h)

-- one instruction
pub goes_once : (address : ℕ) (code : List Ins) (k place : ℕ) (ins : Ins) (m new : MachineState)
    → CodeAt address code m → m.pc ≡ address + 4 * k → slice_get code k ≡ Some ins → IsLegal ins
    → ((streams : Streams) → effect ins m streams ≡ Running new streams) → CodeAt address code new
    → new.pc ≡ address + 4 * place → Goes address code place 1 m new
goes_once address code k place ins m new at pc there legal does at' pc' =
    let inside : k < length code = within code k ins there in
    record {
      runs = λ streams. steps_at address code k ins m streams at pc there legal ∙ does streams;
      fetches = λ streams j h.
          subst (λ i. FetchesAt address (4 * length code) (after machine_step i (Running m streams)))
          (sym (only_one j h))
          (record {
            m = m;
            streams = streams;
            runs = refl;
            above = omega (arith, pc);
            below = omega (arith, pc, inside);
          });
      code_at = at';
      pc = pc';
    }

-- that gives a register a value
pub goes_given : (address : ℕ) (code : List Ins) (k : ℕ) (ins : Ins) (rd value : ℕ) (m : MachineState)
    → CodeAt address code m → m.pc ≡ address + 4 * k → slice_get code k ≡ Some ins → IsLegal ins
    → ((streams : Streams) → effect ins m streams ≡ Running (given rd value m) streams)
    → Goes address code (k + 1) 1 m (given rd value m)
goes_given address code k ins rd value m at pc there legal does =
    goes_once address code k (k + 1) ins m (given rd value m) at pc there legal does
    (code_in_same_memory address code m (given rd value m) at refl)
    (next_place address code k ins m at pc there)

-- a store, whatever the streams are
stored_always : (m : MachineState) (count place value : ℕ) → AreSegments m.segments → MayWrite m place count
    → (new : MachineState) × ((streams : Streams) → stores m count place value streams ≡ Running new streams)
    × (new.pc ≡ next_pc m) × (new.registers ≡ m.registers) × Writes place (little_bytes count value) m new
stored_always m count place value segments may =
    let bytes : List ℕ = little_bytes count value in
    let size : length bytes ≡ count = length-bytes_low_first 0 count value in
    let there = writable (λ s. s.write) place bytes m.segments
    (subst (λ n. is_allowed (λ s. s.write) m.segments place n ≡ true) (sym size) may) in
    let new : MachineState = record { pc = next_pc m; registers = m.registers; segments = there.0 } in (
      new,
      λ streams. ap (λ o. goes_on_with m o streams) there.1,
      refl,
      refl,
      writes_by (λ s. s.write) place bytes m new segments there.1,
    )

-- that writes a number to memory
pub record Put (address : ℕ) (code : List Ins) (k place : ℕ) (bytes : List ℕ) (m : MachineState) : Type 0 where
  pub new : MachineState
  pub goes : Goes address code (k + 1) 1 m new
  pub registers : new.registers ≡ m.registers
  pub writes : Writes place bytes m new

pub goes_put : (address : ℕ) (code : List Ins) (k : ℕ) (ins : Ins) (count place value : ℕ) (m : MachineState)
    → CodeAt address code m → m.pc ≡ address + 4 * k → slice_get code k ≡ Some ins → IsLegal ins
    → ((streams : Streams) → effect ins m streams ≡ stores m count place value streams)
    → MayWrite m place count → AreApart place count address (4 * length code)
    → length (little_bytes count value) ≡ count
    → Put address code k place (little_bytes count value) m
goes_put address code k ins count place value m at pc there legal does may apart size =
    let s = stored_always m count place value at.segments may in
    let new : MachineState = s.0 in
    let step : (streams : Streams) → stores m count place value streams ≡ Running new streams = s.1 in
    let at' : CodeAt address code new =
    code_kept address code place (little_bytes count value) m new at s.4
    (subst (λ n. AreApart place n address (4 * length code)) (sym size) apart) in
    record {
      new = new;
      goes = goes_once address code k (k + 1) ins m new at pc there legal (λ streams. does streams ∙ step streams) at'
          (s.2 ∙ next_place address code k ins m at pc there);
      registers = s.3;
      writes = s.4;
    }

-- A register that has got a word, while memory is as before.
use Rattle.std.proofs.Common.{◌≡◌, ◌∙◌, ◌⊎◌, inl, inr, ℕ, ◌+◌, ◌*◌, ◌^◌, ◌<◌, ◌≤◌, List, Some, slice_get}
use Rattle.std.proofs.Common.{arith, refl, ap, sym, subst}
use Rattle.num_core.specs.Run.{Running, Streams}
use Rattle.rv_isa.specs.declared.ins.Ins.{Ins}
use Rattle.rv_isa.specs.Instructions.{IsLegal}
use Rattle.rv_step.specs.Machine.{MachineState, effect, register}
use Rattle.rv_code.specs.Code.{CodeAt, given}
use Rattle.rv_code.specs.Registers.{HasRegisters}
use Rattle.rv_words.proofs.Going.{Goes, goes_given, goes_on}
use Rattle.rv_words.proofs.Homed.{Homed}
use Rattle.rv_words.proofs.Moved.{KeepsOwn}
use Rattle.rv_words.proofs.Registers.{given_has, given_other, given_same}

-- A register has a word. No other one has changed but x28, which takes what is needed on the way.
pub record Got (address : ℕ) (code : List Ins) (place most r n : ℕ) (m : MachineState) : Type 0 where
  pub new : MachineState
  pub count : ℕ
  pub some : 0 < count
  pub few : count ≤ most
  pub goes : Goes address code place count m new
  pub has : register new r ≡ n
  pub others : (q : ℕ) → (q ≡ r → ⊥) → (q ≡ 28 → ⊥) → register new q ≡ register m q
  pub registers : HasRegisters new
  pub memory : new.segments ≡ m.segments

-- one instruction that gives it
pub got_once : (address : ℕ) (code : List Ins) (k : ℕ) (ins : Ins) (r value : ℕ) (m : MachineState)
    → CodeAt address code m → m.pc ≡ address + 4 * k → slice_get code k ≡ Some ins → IsLegal ins
    → ((streams : Streams) → effect ins m streams ≡ Running (given r value m) streams)
    → 0 < r → r < 32 → value < 2 ^ 64 → HasRegisters m → Got address code (k + 1) 1 r value m
got_once address code k ins r value m at pc there legal does h h' fits has = record {
  new = given r value m;
  count = 1;
  some = omega arith;
  few = omega arith;
  goes = goes_given address code k ins r value m at pc there legal does;
  has = given_same r value m h h' has;
  others = λ q ne ne'. given_other r q value m ne;
  registers = given_has r value m fits has;
  memory = refl;
}

-- one behind another, of which the first gives the same register, or x28
pub got_through : (address : ℕ) (code : List Ins) (k k' most most' q v r n : ℕ) (m : MachineState)
    → (first : Got address code k most q v m) → Got address code k' most' r n first.new → (q ≡ 28) ⊎ (q ≡ r)
    → Got address code k' (most + most') r n m
got_through address code k k' most most' q v r n m first second which =
    let few : first.count ≤ most = first.few in
    let few' : second.count ≤ most' = second.few in
    record {
      new = second.new;
      count = first.count + second.count;
      some = let some : 0 < first.count = first.some in omega (arith, some);
      few = omega (arith, few, few');
      goes = goes_on address code k k' first.count second.count m first.new second.new first.goes second.goes;
      has = second.has;
      others = λ p ne ne'. second.others p ne ne' ∙ first.others p (other p ne ne' which) ne';
      registers = second.registers;
      memory = second.memory ∙ first.memory;
    }
  where
    other : (p : ℕ) → (p ≡ r → ⊥) → (p ≡ 28 → ⊥) → (q ≡ 28) ⊎ (q ≡ r) → p ≡ q → ⊥
    other p ne ne' (inl is) e = ne' (e ∙ is)
    other p ne ne' (inr is) e = ne (e ∙ is)

-- the same at an equal place, and within more steps
pub got_at : (address : ℕ) (code : List Ins) (k k' most most' r n : ℕ) (m : MachineState) → k ≡ k' → most ≤ most'
    → Got address code k most r n m → Got address code k' most' r n m
got_at address code k k' most most' r n m e more g =
    let few : g.count ≤ most = g.few in
    record {
      new = g.new;
      count = g.count;
      some = g.some;
      few = omega (arith, few, more);
      goes = subst (λ p. Goes address code p g.count m g.new) e g.goes;
      has = g.has;
      others = g.others;
      registers = g.registers;
      memory = g.memory;
    }

pub got_is : (address : ℕ) (code : List Ins) (k most r n n' : ℕ) (m : MachineState) → n ≡ n'
    → Got address code k most r n m → Got address code k most r n' m
got_is address code k most r n n' m e g = subst (λ v. Got address code k most r v m) e g

-- ---- what the program keeps its state in

-- a register in which the program keeps nothing
abbrev pub IsFree : ℕ → Type 0
IsFree r = (r ≡ 2 → ⊥) × ((k : ℕ) → k < 10 → r ≡ 18 + k → ⊥)

pub free_kept : (r value : ℕ) (m : MachineState) → IsFree r → KeepsOwn m (given r value m)
free_kept r value m free = record {
  frame = given_other r 2 value m (λ e. free.0 (sym e));
  homes = λ k h. given_other r (18 + k) value m (λ e. free.1 k (omega (arith, h)) (sym e));
  lowest = given_other r 26 value m (λ e. free.1 8 (omega arith) (sym e));
  heap = given_other r 27 value m (λ e. free.1 9 (omega arith) (sym e));
}

pub got_keeps : (address : ℕ) (code : List Ins) (k most r n : ℕ) (m : MachineState) → IsFree r
    → (g : Got address code k most r n m) → KeepsOwn m g.new
got_keeps address code k most r n m free g = record {
  frame = g.others 2 (λ e. free.0 (sym e)) (λ e. omega (arith, e));
  homes = λ j h. g.others (18 + j) (λ e. free.1 j (omega (arith, h)) (sym e)) (λ e. omega (arith, e, h));
  lowest = g.others 26 (λ e. free.1 8 (omega arith) (sym e)) (λ e. omega (arith, e));
  heap = g.others 27 (λ e. free.1 9 (omega arith) (sym e)) (λ e. omega (arith, e));
}

-- the home of a variable has got it
pub got_home : (address : ℕ) (code : List Ins) (place most r k n : ℕ) (m : MachineState) → r ≡ 18 + k → k < 8
    → (g : Got address code place most r n m) → Homed m g.new k n
got_home address code place most r k n m is few g = record {
  memory = g.memory;
  registers = g.registers;
  word = ap (register g.new) (sym is) ∙ g.has;
  frame = g.others 2 (λ e. omega (arith, e, is)) (λ e. omega (arith, e));
  lowest = g.others 26 (λ e. omega (arith, e, is, few)) (λ e. omega (arith, e));
  heap = g.others 27 (λ e. omega (arith, e, is, few)) (λ e. omega (arith, e));
  others = λ j h ne. g.others (18 + j) (λ e. ne (omega (arith, e, is))) (λ e. omega (arith, e, h));
}

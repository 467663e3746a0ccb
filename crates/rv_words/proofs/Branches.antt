-- The instructions that branches and jumps become, and where the machine comes by them.
use Rattle.std.proofs.Common.{◌≡◌, ◌∙◌, ◌⊎◌, inl, inr, ℕ, suc, ◌+◌, ◌-◌, ◌*◌, ◌/◌, ◌%◌, ◌^◌, ◌<◌, ◌≤◌, ℤ, pos, negsuc}
use Rattle.std.proofs.Common.{◌+ℤ◌, ◌-ℤ◌, Bool, true, false, not, cond, List, length, Some, slice_get}
use Rattle.std.proofs.Common.{arith, refl, ap, sym, subst}
use Rattle.std.specs.Int.{cast_signed, int_wrap, w32, w64}
use Rattle.std.proofs.lemmas.Bool.Decides.{nat_tests}
use Rattle.num_core.proofs.WrapLaws.{int_wrap-sum}
use Rattle.rv_lines.proofs.Values.{in_register_64, left_64, low_of_wrapped}
use Rattle.std.proofs.lemmas.Int.{ints}
use Rattle.num_core.specs.Bits.{low_bits, signed}
use Rattle.num_core.specs.Run.{Running}
use Rattle.rv_isa.specs.declared.ins.Ins.{Ins}
use Rattle.rv_isa.specs.Instructions.{IsLegal}
use Rattle.rv_step.specs.Machine.{MachineState, next_pc, register, without_bit_0}
use Rattle.rv_code.specs.Code.{AllLegal, BlockAt, CodeAt, given}
use Rattle.rv_code.specs.Registers.{HasRegisters}
use Rattle.rv_code.proofs.Going.{code_in_same_memory, next_place, within}
use Rattle.rt_code.specs.Code.{lower, upper}
use Rattle.rt_code.proofs.Machines.{sum_of}
use Rattle.rv_lines.specs.declared.line.Condition.{Condition}
use Rattle.rv_lines.specs.Holds.{holds}
use Rattle.rv_gen.specs.Placing.{branch, branch_code, distance, jump_code, jumps_far, opposite}
use Rattle.rv_gen.proofs.Tests.{not_taken, taken}
use Rattle.rv_words.specs.Placing.{reach}
use Rattle.rv_words.proofs.Going.{Goes, goes_given, goes_on, goes_once}
use Rattle.rv_words.proofs.Got.{IsFree, free_kept}
use Rattle.rv_words.proofs.Registers.{given_has, given_same, low_small}
use Rattle.rv_words.proofs.Moved.{KeepsOwn, keeps_through}

-- The machine lands at a place of the code with memory, and what it keeps the program's state in, as before.
pub record Lands (address : ℕ) (code : List Ins) (place most : ℕ) (m : MachineState) : Type 0 where
  pub new : MachineState
  pub count : ℕ
  pub some : 0 < count
  pub few : count ≤ most
  pub goes : Goes address code place count m new
  pub keeps : KeepsOwn m new
  pub registers : HasRegisters new
  pub memory : new.segments ≡ m.segments

-- ---- distances

either_side : (a b : ℕ) → (a ≤ b) ⊎ (b < a)
either_side a b = grind arith

distance_on : (a b : ℕ) → a ≤ b → distance a b ≡ pos (4 * (b - a))
distance_on a b h = omega (arith, ints, h)

distance_back : (a b : ℕ) → b < a → distance a b ≡ negsuc (4 * (a - b) - 1)
distance_back a b h = omega (arith, ints, h)

back_by : (a c : ℕ) → suc c ≤ a → a < 2 ^ 64 → low_bits 64 (pos a +ℤ negsuc c) ≡ a - suc c
back_by a c h h' =
    let e : pos a +ℤ negsuc c ≡ pos (a - suc c) = omega (arith, ints, h) in
    ap (low_bits 64) e ∙ omega (arith, h')

pub target_is : (address from to : ℕ) → address + 4 * from < 2 ^ 64 → address + 4 * to < 2 ^ 64
    → low_bits 64 (pos (address + 4 * from) +ℤ distance from to) ≡ address + 4 * to
target_is address from to h h' = elim (either_side from to) [
  | inl on ↦
      let sum : (address + 4 * from) + 4 * (to - from) ≡ address + 4 * to = omega (arith, on) in
      ap (λ d. low_bits 64 (pos (address + 4 * from) +ℤ d)) (distance_on from to on)
      ∙ sum_of (address + 4 * from) (4 * (to - from)) (omega (arith, sum, h')) ∙ sum
  | inr back ↦
      ap (λ d. low_bits 64 (pos (address + 4 * from) +ℤ d)) (distance_back from to back)
      ∙ back_by (address + 4 * from) (4 * (from - to) - 1) (omega (arith, back)) h
      ∙ omega (arith, back)
]

-- By an `auipc` and the signed lower 12 bits.

-- a sum that is cut twice
low_twice : (z w : ℤ) → low_bits 64 (pos (low_bits 64 z) +ℤ w) ≡ low_bits 64 (z +ℤ w)
low_twice z w =
    left_64 (pos (low_bits 64 z) +ℤ w) (z +ℤ w)
    (sym (int_wrap-sum w64 (pos (low_bits 64 z)) w)
    ∙ ap (λ u. int_wrap w64 (u +ℤ int_wrap w64 w)) (in_register_64 z) ∙ int_wrap-sum w64 z w)
    ∙ low_of_wrapped (z +ℤ w)

signed_32 : (x : ℕ) → x < 2 ^ 32 → ((x < 2 ^ 31) × (cast_signed w32 x ≡ pos x))
    ⊎ ((2 ^ 31 ≤ x) × (cast_signed w32 x ≡ negsuc (2 ^ 32 - suc x)))
signed_32 x h = grind (arith, nat_tests)

signed_12 : (r : ℕ) → r < 4096 → ((r < 2048) × (signed 12 r ≡ pos r))
    ⊎ ((2048 ≤ r) × (signed 12 r ≡ negsuc (4095 - r)))
signed_12 r h = grind (arith, nat_tests)

both_are : (v l x r d : ℤ) → v ≡ x → l ≡ r → x +ℤ r ≡ d → v +ℤ l ≡ d
both_are v l x r d e f g = ap (λ z. z +ℤ l) e ∙ ap (λ z. x +ℤ z) f ∙ g

-- the two parts are the distance
parts_of : (bits u : ℕ) (d : ℤ) → u ≡ (bits + 2048) / 4096 % 2 ^ 20
    → ((bits < 2 ^ 31 - 4096) × (d ≡ pos bits))
    ⊎ ((2 ^ 31 + 4096 < bits) × (bits < 2 ^ 32) × (d ≡ negsuc (2 ^ 32 - suc bits)))
    → cast_signed w32 (u * 2 ^ 12) +ℤ signed 12 (bits % 4096) ≡ d
parts_of bits u d is (inl on) =
    elim (signed_32 (u * 2 ^ 12) (omega (arith, is))) [
      | inl low ↦ elim (signed_12 (bits % 4096) (omega arith)) [
        | inl r ↦ both_are _ _ _ _ d low.1 r.1
            (let s : pos (u * 2 ^ 12) +ℤ pos (bits % 4096) ≡ pos bits = omega (arith, ints, is, on.0, r.0) in s
            ∙ sym on.1)
        | inr r ↦ both_are _ _ _ _ d low.1 r.1
            (let s : pos (u * 2 ^ 12) +ℤ negsuc (4095 - bits % 4096) ≡ pos bits = omega (arith, ints, is, on.0, r.0) in
            s ∙ sym on.1)
      ]
      | inr high ↦ absurd (omega (arith, is, on.0, high.0))
    ]
parts_of bits u d is (inr back) =
    elim (signed_32 (u * 2 ^ 12) (omega (arith, is))) [
      | inl low ↦ elim (signed_12 (bits % 4096) (omega arith)) [
        | inl r ↦ absurd (omega (arith, is, back.0, back.1, r.0, low.0))
        | inr r ↦ both_are _ _ _ _ d low.1 r.1
            (let s : pos (u * 2 ^ 12) +ℤ negsuc (4095 - bits % 4096) ≡ negsuc (2 ^ 32 - suc bits) =
            omega (arith, ints, is, back.0, back.1, r.0, low.0) in s ∙ sym back.2)
      ]
      | inr high ↦ elim (signed_12 (bits % 4096) (omega arith)) [
        | inl r ↦ both_are _ _ _ _ d high.1 r.1
            (let s : negsuc (2 ^ 32 - suc (u * 2 ^ 12)) +ℤ pos (bits % 4096) ≡ negsuc (2 ^ 32 - suc bits) =
            omega (arith, ints, is, back.0, back.1, r.0, high.0) in s ∙ sym back.2)
        | inr r ↦ both_are _ _ _ _ d high.1 r.1
            (let s : negsuc (2 ^ 32 - suc (u * 2 ^ 12)) +ℤ negsuc (4095 - bits % 4096) ≡ negsuc (2 ^ 32 - suc bits) =
            omega (arith, ints, is, back.0, back.1, r.0, high.0) in s ∙ sym back.2)
      ]
    ]

-- which side a distance lies on
side_of : (from to : ℕ) → from < reach → to < reach
    → ((low_bits 32 (pos to -ℤ pos from) < 2 ^ 31 - 4096) × (pos to -ℤ pos from ≡ pos (low_bits 32
    (pos to -ℤ pos from))))
    ⊎ ((2 ^ 31 + 4096 < low_bits 32 (pos to -ℤ pos from)) × (low_bits 32 (pos to -ℤ pos from) < 2 ^ 32)
    × (pos to -ℤ pos from ≡ negsuc (2 ^ 32 - suc (low_bits 32 (pos to -ℤ pos from)))))
side_of from to h h' = elim (either_side from to) [
  | inl on ↦
      let e : pos to -ℤ pos from ≡ pos (to - from) = omega (arith, ints, on) in
      let b : low_bits 32 (pos to -ℤ pos from) ≡ to - from = ap (low_bits 32) e ∙ omega (arith, h') in
      inl (omega (arith, b, h'), e ∙ ap pos (sym b))
  | inr back ↦
      let e : pos to -ℤ pos from ≡ negsuc ((from - to) - 1) = omega (arith, ints, back) in
      let b : low_bits 32 (pos to -ℤ pos from) ≡ 2 ^ 32 - (from - to) = ap (low_bits 32) e ∙ omega (arith, back, h) in
      let same : (from - to) - 1 ≡ 2 ^ 32 - suc (low_bits 32 (pos to -ℤ pos from)) = omega (arith, b, back, h) in
      inr (omega (arith, b, back, h), omega (arith, b, back, h), e ∙ ap negsuc same)
]

grouped : (a b c : ℤ) → (a +ℤ b) +ℤ c ≡ a +ℤ (b +ℤ c)
grouped a b c = omega (arith, ints)

pub far_is : (from to : ℕ) → from < reach → to < reach
    → low_bits 64 (pos (low_bits 64 (pos from +ℤ cast_signed w32 (upper (low_bits 32 (pos to -ℤ pos from)) * 2 ^ 12)))
    +ℤ lower (low_bits 32 (pos to -ℤ pos from))) ≡ to
far_is from to h h' =
    let d : ℤ = pos to -ℤ pos from in
    let bits : ℕ = low_bits 32 d in
    let v : ℤ = cast_signed w32 (upper bits * 2 ^ 12) in
    let sum : v +ℤ lower bits ≡ d = parts_of bits (upper bits) d refl (side_of from to h h') in
    let there : pos from +ℤ d ≡ pos to = omega (arith, ints) in
    low_twice (pos from +ℤ v) (lower bits) ∙ ap (low_bits 64) (grouped (pos from) v (lower bits))
    ∙ ap (λ z. low_bits 64 (pos from +ℤ z)) sum ∙ ap (low_bits 64) there ∙ omega (arith, h')

-- ---- the short forms

-- nothing but the pc has changed
keeps_all : (m : MachineState) (pc : ℕ) → KeepsOwn m (record m { pc = pc })
keeps_all m pc = record { frame = refl; homes = λ k h. refl; lowest = refl; heap = refl }

pub has_all : (m : MachineState) (pc : ℕ) → HasRegisters m → HasRegisters (record m { pc = pc })
has_all m pc has = record { count = has.count; x0 = has.x0; words = has.words }

-- One step to another place, in which no register has changed, and no byte of memory.
pub record Turns (address : ℕ) (code : List Ins) (place : ℕ) (m : MachineState) : Type 0 where
  pub pc : ℕ
  pub goes : Goes address code place 1 m (record m { pc = pc })

-- where a branch goes
pub branch_near : (address : ℕ) (code : List Ins) (from to : ℕ) (condition : Condition) (x y : ℕ) (t : Bool)
    (m : MachineState) → CodeAt address code m → m.pc ≡ address + 4 * from
    → slice_get code from ≡ Some (branch condition x y (distance from to))
    → IsLegal (branch condition x y (distance from to)) → address + 4 * to < 2 ^ 64
    → holds condition (register m x) (register m y) ≡ t
    → Turns address code (cond t to (from + 1)) m
branch_near address code from to condition x y true m at pc there legal fits is =
    let new : MachineState = record m { pc = address + 4 * to } in
    let here : address + 4 * from < 2 ^ 64 = let k = within code from (branch condition x y (distance from to)) there in
    let room : address + 4 * length code < 2 ^ 64 = at.fits in omega (arith, k, room) in
    let target : low_bits 64 (pos m.pc +ℤ distance from to) ≡ address + 4 * to =
    ap (λ p. low_bits 64 (pos p +ℤ distance from to)) pc ∙ target_is address from to here fits in
    record {
      pc = address + 4 * to;
      goes = goes_once address code from to (branch condition x y (distance from to)) m new at pc there legal
          (λ streams. taken condition x y (distance from to) m streams
          ∙ ap (λ b. Running (record m {
            pc = cond b (low_bits 64 (pos m.pc +ℤ distance from to))
                (next_pc m);
          }) streams)
          is
          ∙ ap (λ p. Running (record m { pc = p }) streams) target)
          (code_in_same_memory address code m new at refl) refl;
    }
branch_near address code from to condition x y false m at pc there legal fits is =
    let new : MachineState = record m { pc = next_pc m } in
    record {
      pc = next_pc m;
      goes = goes_once address code from (from + 1) (branch condition x y (distance from to)) m new at pc there legal
          (λ streams. taken condition x y (distance from to) m streams
          ∙ ap (λ b. Running (record m {
            pc = cond b (low_bits 64 (pos m.pc +ℤ distance from to))
                (next_pc m);
          }) streams)
          is)
          (code_in_same_memory address code m new at refl)
          (next_place address code from (branch condition x y (distance from to)) m at pc there);
    }

lands_by_turn : (address : ℕ) (code : List Ins) (place most : ℕ) (m : MachineState) → 1 ≤ most → HasRegisters m
    → Turns address code place m → Lands address code place most m
lands_by_turn address code place most m enough has turn = record {
  new = record m { pc = turn.pc };
  count = 1;
  some = omega arith;
  few = enough;
  goes = turn.goes;
  keeps = keeps_all m turn.pc;
  registers = has_all m turn.pc has;
  memory = refl;
}

pub jump_near : (address : ℕ) (code : List Ins) (from to : ℕ) (m : MachineState) → CodeAt address code m
    → m.pc ≡ address + 4 * from → slice_get code from ≡ Some (Ins.Jal 0 (distance from to))
    → IsLegal (Ins.Jal 0 (distance from to)) → address + 4 * to < 2 ^ 64 → HasRegisters m
    → Lands address code to 1 m
jump_near address code from to m at pc there legal fits has =
    let new : MachineState = record m { pc = address + 4 * to } in
    let here : address + 4 * from < 2 ^ 64 = let k = within code from (Ins.Jal 0 (distance from to)) there in
    let room : address + 4 * length code < 2 ^ 64 = at.fits in omega (arith, k, room) in
    let target : low_bits 64 (pos m.pc +ℤ distance from to) ≡ address + 4 * to =
    ap (λ p. low_bits 64 (pos p +ℤ distance from to)) pc ∙ target_is address from to here fits in
    record {
      new = new;
      count = 1;
      some = omega arith;
      few = omega arith;
      goes = goes_once address code from to (Ins.Jal 0 (distance from to)) m new at pc there legal
          (λ streams. ap (λ p. Running (record m { pc = p }) streams) target)
          (code_in_same_memory address code m new at refl) refl;
      keeps = keeps_all m (address + 4 * to);
      registers = has_all m (address + 4 * to) has;
      memory = refl;
    }

-- ---- the longer ones

-- x5 gets the target's upper part, and the jump adds the lower: two steps.
pub free_5 : IsFree 5
free_5 = (λ e. omega (arith, e), λ k h e. omega (arith, e))

pub even_kept : (n : ℕ) → n % 4 ≡ 0 → without_bit_0 n ≡ n
even_kept n h = omega (arith, h)

pub jump_far : (address : ℕ) (code : List Ins) (from to : ℕ) (m : MachineState) → CodeAt address code m
    → m.pc ≡ address + 4 * from → BlockAt code from (jumps_far from to) → AllLegal (jumps_far from to)
    → address % 4 ≡ 0 → address + 4 * from < reach → address + 4 * to < reach → HasRegisters m
    → Lands address code to 2 m
jump_far address code from to m at pc there legal even near near' has =
    let bits : ℕ = low_bits 32 (distance from to) in
    let between : ℤ = pos (address + 4 * to) -ℤ pos (address + 4 * from) in
    let same : between ≡ distance from to = omega (arith, ints) in
    let v : ℕ = low_bits 64 (pos m.pc +ℤ cast_signed w32 (upper bits * 2 ^ 12)) in
    let m1 : MachineState = given 5 v m in
    let first : Goes address code (from + 1) 1 m m1 =
    goes_given address code from (Ins.Auipc 5 (upper bits)) 5 v m at pc there.0 legal.0 (λ streams. refl) in
    let new : MachineState = record m1 { pc = address + 4 * to } in
    let x5 : register m1 5 ≡ v = given_same 5 v m (omega arith) (omega arith) has in
    let whole : low_bits 64 (pos v +ℤ lower bits) ≡ address + 4 * to =
    ap (λ p. low_bits 64 (pos (low_bits 64 (pos p +ℤ cast_signed w32 (upper bits * 2 ^ 12))) +ℤ lower bits)) pc
    ∙ subst (λ d. low_bits 64 (pos (low_bits 64 (pos (address + 4 * from)
    +ℤ cast_signed w32 (upper (low_bits 32 d) * 2 ^ 12))) +ℤ lower (low_bits 32 d)) ≡ address + 4 * to) same
    (far_is (address + 4 * from) (address + 4 * to) near near') in
    let target : without_bit_0 (low_bits 64 (pos (register m1 5) +ℤ lower bits)) ≡ address + 4 * to =
    ap (λ x. without_bit_0 (low_bits 64 (pos x +ℤ lower bits))) x5 ∙ ap without_bit_0 whole
    ∙ even_kept (address + 4 * to) (omega (arith, even)) in
    let second : Goes address code to 1 m1 new =
    goes_once address code (from + 1) to (Ins.Jalr 0 5 (lower bits)) m1 new first.code_at first.pc there.1.0 legal.1.0
    (λ streams. ap (λ p. Running (record m1 { pc = p }) streams) target)
    (code_in_same_memory address code m1 new first.code_at refl) refl in
    let keeps : KeepsOwn m m1 = free_kept 5 v m free_5 in
    let registers : HasRegisters m1 =
    given_has 5 v m (low_small (pos m.pc +ℤ cast_signed w32 (upper bits * 2 ^ 12))) has in
    record {
      new = new;
      count = 1 + 1;
      some = omega arith;
      few = omega arith;
      goes = goes_on address code (from + 1) to 1 1 m m1 new first second;
      keeps = keeps_through m m1 new keeps (keeps_all m1 (address + 4 * to));
      registers = has_all m1 (address + 4 * to) registers;
      memory = refl;
    }

-- behind what keeps all that the program sees
pub lands_behind : (address : ℕ) (code : List Ins) (place to count most most' : ℕ) (m between : MachineState)
    → Goes address code place count m between → count ≤ most → KeepsOwn m between → between.segments ≡ m.segments
    → Lands address code to most' between → Lands address code to (most + most') m
lands_behind address code place to count most most' m between goes few keeps memory l =
    let few' : l.count ≤ most' = l.few in
    let some : 0 < l.count = l.some in
    record {
      new = l.new;
      count = count + l.count;
      some = omega (arith, some);
      few = omega (arith, few, few');
      goes = goes_on address code place to count l.count m between l.new goes l.goes;
      keeps = keeps_through m between l.new keeps l.keeps;
      registers = l.registers;
      memory = l.memory ∙ memory;
    }

-- The opposite branch leads over the jump.
over_jump : (address : ℕ) (code : List Ins) (from to : ℕ) (condition : Condition) (x y : ℕ) (t : Bool)
    (m : MachineState) → CodeAt address code m → m.pc ≡ address + 4 * from
    → BlockAt code from (branch_code false condition x y from to) → AllLegal (branch_code false condition x y from to)
    → address + 4 * length code < reach → holds condition (register m x) (register m y) ≡ t
    → Turns address code (cond (not t) (from + 3) (from + 1)) m
over_jump address code from to condition x y t m at pc there legal near is =
    let over : distance from (from + 3) ≡ pos 12 = omega (arith, ints) in
    let ins : slice_get code from ≡ Some (branch (opposite condition) x y (distance from (from + 3))) =
    there.0 ∙ ap (λ d. Some (branch (opposite condition) x y d)) (sym over) in
    let lawful : IsLegal (branch (opposite condition) x y (distance from (from + 3))) =
    subst (λ d. IsLegal (branch (opposite condition) x y d)) (sym over) legal.0 in
    let last : from + 1 + 1 < length code = within code (from + 1 + 1)
    (Ins.Jalr 0 5 (lower (low_bits 32 (distance (from + 1) to)))) there.1.1.0 in
    branch_near address code from (from + 3) (opposite condition) x y (not t) m at pc ins lawful
    (omega (arith, near, last)) (not_taken condition (register m x) (register m y) ∙ ap not is)

-- Not taken, the jump is done, and taken, the machine stands behind it.
pub branch_far : (address : ℕ) (code : List Ins) (from to : ℕ) (condition : Condition) (x y : ℕ) (t : Bool)
    (m : MachineState) → CodeAt address code m → m.pc ≡ address + 4 * from
    → BlockAt code from (branch_code false condition x y from to) → AllLegal (branch_code false condition x y from to)
    → address % 4 ≡ 0 → address + 4 * length code < reach → address + 4 * to < reach → HasRegisters m
    → holds condition (register m x) (register m y) ≡ t
    → Lands address code (cond t to (from + 3)) 3 m
branch_far address code from to condition x y true m at pc there legal even near near' has is =
    let inside : from + 1 < length code = within code (from + 1) (Ins.Auipc 5 (upper (low_bits 32 (distance
    (from + 1) to))))
    there.1.0 in
    let first : Lands address code (from + 1) 1 m =
    lands_by_turn address code (from + 1) 1 m (omega arith) has
    (over_jump address code from to condition x y true m at pc there legal near is) in
    let second : Lands address code to 2 first.new =
    jump_far address code (from + 1) to first.new first.goes.code_at first.goes.pc there.1 legal.1 even
    (omega (arith, near, inside)) near' first.registers in
    lands_behind address code (from + 1) to first.count 1 2 m first.new first.goes first.few first.keeps first.memory
    second
branch_far address code from to condition x y false m at pc there legal even near near' has is =
    lands_by_turn address code (from + 3) 3 m (omega arith) has
    (over_jump address code from to condition x y false m at pc there legal near is)

-- ---- both forms

pub lands_by_jump : (address : ℕ) (code : List Ins) (from to : ℕ) (close : Bool) (m : MachineState)
    → CodeAt address code m → m.pc ≡ address + 4 * from → BlockAt code from (jump_code close from to)
    → AllLegal (jump_code close from to) → address % 4 ≡ 0 → address + 4 * from < reach → address + 4 * to < reach
    → HasRegisters m → Lands address code to 2 m
lands_by_jump address code from to true m at pc there legal even near near' has =
    let l : Lands address code to 1 m =
    jump_near address code from to m at pc there.0 legal.0 (omega (arith, near')) has in
    record {
      new = l.new;
      count = l.count;
      some = l.some;
      few = let few : l.count ≤ 1 = l.few in omega (arith, few);
      goes = l.goes;
      keeps = l.keeps;
      registers = l.registers;
      memory = l.memory;
    }
lands_by_jump address code from to false m at pc there legal even near near' has =
    jump_far address code from to m at pc there legal even near near' has

-- a branch that isn't taken
pub passes_branch : (address : ℕ) (code : List Ins) (from to : ℕ) (condition : Condition) (x y : ℕ) (close : Bool)
    (m : MachineState) → CodeAt address code m → m.pc ≡ address + 4 * from
    → BlockAt code from (branch_code close condition x y from to) → AllLegal (branch_code close condition x y from to)
    → address + 4 * length code < reach → address + 4 * to < reach
    → holds condition (register m x) (register m y) ≡ false
    → Turns address code (from + cond close 1 3) m
passes_branch address code from to condition x y true m at pc there legal near near' is =
    branch_near address code from to condition x y false m at pc there.0 legal.0 (omega (arith, near')) is
passes_branch address code from to condition x y false m at pc there legal near near' is =
    over_jump address code from to condition x y false m at pc there legal near is

pub lands_by_branch : (address : ℕ) (code : List Ins) (from to : ℕ) (condition : Condition) (x y : ℕ) (t close : Bool)
    (m : MachineState) → CodeAt address code m → m.pc ≡ address + 4 * from
    → BlockAt code from (branch_code close condition x y from to) → AllLegal (branch_code close condition x y from to)
    → address % 4 ≡ 0 → address + 4 * length code < reach → address + 4 * to < reach → HasRegisters m
    → holds condition (register m x) (register m y) ≡ t
    → Lands address code (cond t to (from + cond close 1 3)) 3 m
lands_by_branch address code from to condition x y t true m at pc there legal even near near' has is =
    lands_by_turn address code (cond t to (from + 1)) 3 m (omega arith) has
    (branch_near address code from to condition x y t m at pc there.0 legal.0 (omega (arith, near')) is)
lands_by_branch address code from to condition x y t false m at pc there legal even near near' has is =
    branch_far address code from to condition x y t m at pc there legal even near near' has is

-- The registers of a machine behind an instruction that gives one of them a value.
use Rattle.std.proofs.Common.{◌≡◌, ◌∙◌, ◌≢◌, ℕ, zero, suc, ◌^◌, ◌<◌, length, arith, refl}
use Rattle.std.proofs.Common.{ℤ, pos, negsuc}
use Rattle.num_core.specs.Bits.{low_bits}
use Rattle.std.proofs.Common.{get_or-set_other, get_or-set_same}
use Rattle.std.proofs.Math.ListN.{length-set}
use Rattle.rv_step.specs.Machine.{MachineState, register}
use Rattle.rv_code.specs.Code.{given}
use Rattle.rv_code.specs.Registers.{HasRegisters}
use Rattle.rt_code.proofs.Passing.{all_set}

abbrev pub IsWord : ℕ → Type 0
IsWord n = n < 2 ^ 64

-- the register has the value
pub given_same : (r value : ℕ) (m : MachineState) → 0 < r → r < 32 → HasRegisters m
    → register (given r value m) r ≡ value
given_same zero value m h h' has = absurd (omega arith)
given_same (suc r) value m h h' has =
    let count : length m.registers ≡ 32 = has.count in
    get_or-set_same m.registers (suc r) value 0 (omega (arith, count, h'))

-- and the others are as before
pub given_other : (r q value : ℕ) (m : MachineState) → q ≢ r → register (given r value m) q ≡ register m q
given_other zero q value m ne = refl
given_other (suc r) q value m ne = get_or-set_other m.registers (suc r) q value 0 ne

-- they are registers still
pub given_has : (r value : ℕ) (m : MachineState) → IsWord value → HasRegisters m → HasRegisters (given r value m)
given_has zero value m fits has = record { count = has.count; x0 = has.x0; words = has.words }
given_has (suc r) value m fits has =
    let ne : 0 ≢ suc r = omega arith in
    record {
      count = length-set m.registers (suc r) value ∙ has.count;
      x0 = get_or-set_other m.registers (suc r) 0 value 0 ne ∙ has.x0;
      words = all_set IsWord m.registers (suc r) value has.words fits;
    }

-- a register has a word
pub register_fits : (r : ℕ) (m : MachineState) → r < 32 → HasRegisters m → IsWord (register m r)
register_fits r m h has =
    let count : length m.registers ≡ 32 = has.count in
    has.words r 0 (omega (arith, count, h))

-- the lowest bits of a number are a word
pub low_small : (z : ℤ) → low_bits 64 z < 2 ^ 64
low_small (pos n) = omega arith
low_small (negsuc n) = omega arith

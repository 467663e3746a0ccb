-- The registers of a machine after an instruction that gives one of them its value.
use Rattle.std.proofs.Common.{◌≡◌, ◌∙◌, ◌≢◌, ℕ, ◌%◌, ◌<◌, ℤ, pos, negsuc, length, arith, ap, slice_index, slice_set}
use Rattle.std.proofs.Common.{get_or-set_other, get_or-set_same}
use Rattle.std.proofs.Math.ListN.{length-set}
use Rattle.num_core.specs.Bits.{low_bits}
use Rattle.rv_step.specs.Machine.{MachineState, register}

-- the machine has 32 registers, and x0 is 0
pub record HasRegisters (m : MachineState) : Type 0 where
  pub count : length m.registers ≡ 32
  pub x0 : register m 0 ≡ 0

-- the machine has the registers of another, but for one that got a value
pub record Gets (r value : ℕ) (m m' : MachineState) : Type 0 where
  pub registers : m'.registers ≡ slice_set m.registers r value

pub has_registers : (r value : ℕ) (m m' : MachineState) → 0 < r → HasRegisters m → Gets r value m m' → HasRegisters m'
has_registers r value m m' h has gets =
    let ne : 0 ≢ r = omega arith in
    record {
      count = ap length gets.registers ∙ length-set m.registers r value ∙ has.count;
      x0 = ap (λ rs. slice_index rs 0) gets.registers ∙ get_or-set_other m.registers r 0 value 0 ne ∙ has.x0;
    }

pub register_same : (r value : ℕ) (m m' : MachineState) → r < 32 → HasRegisters m → Gets r value m m'
    → register m' r ≡ value
register_same r value m m' h has gets = ap (λ rs. slice_index rs r) gets.registers
    ∙ get_or-set_same m.registers r value 0 (omega arith)

pub register_other : (r q value : ℕ) (m m' : MachineState) → q ≢ r → Gets r value m m' → register m' q ≡ register m q
register_other r q value m m' ne gets = ap (λ rs. slice_index rs q) gets.registers
    ∙ get_or-set_other m.registers r q value 0 ne

-- the low byte of a register that holds a number
pub low_byte : (n : ℤ) → low_bits 64 n % 256 ≡ low_bits 8 n
low_byte (pos a) = omega arith
low_byte (negsuc a) = omega arith

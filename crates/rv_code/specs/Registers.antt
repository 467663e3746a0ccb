-- The registers of a machine.
use Rattle.std.specs.Prelude.{◌≡◌, ℕ, zero, suc, ◌^◌, ◌<◌, List, [], ◌∷◌, length, All}
use Rattle.rv_step.specs.Machine.{MachineState, register}

-- the machine has 32 registers of 64 bits, of which x0 is 0
pub record HasRegisters (m : MachineState) : Type 0 where
  pub count : length m.registers ≡ 32
  pub x0 : register m 0 ≡ 0
  pub words : All (λ word. word < 2 ^ 64) m.registers

-- so many words from that of a number on
abbrev pub listed : (ℕ → ℕ) → ℕ → ℕ → List ℕ
listed word first zero = []
listed word first (suc count) = word first ∷ listed word (suc first) count

-- the registers x0 to x31 by the words of x1 to x31
abbrev pub registers_of : (ℕ → ℕ) → List ℕ
registers_of word = 0 ∷ listed word 1 31

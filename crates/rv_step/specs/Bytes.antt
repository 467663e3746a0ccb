-- Numbers that are bytes.
use Rattle.std.specs.Prelude.{◌≡◌, ℕ, ◌<◌, List, All, Some}
use Rattle.rv_step.specs.Machine.{MachineState}
use Rattle.rv_step.specs.Memory.{byte_in}

abbrev pub AreBytes : List ℕ → Type 0
AreBytes bytes = All (λ byte. byte < 256) bytes

-- what stands at each address of a machine is a byte
abbrev pub HoldsBytes : MachineState → Type 0
HoldsBytes m = (address byte : ℕ) → byte_in m.segments address ≡ Some byte → byte < 256

-- Code in the memory of a machine.
use Rattle.std.specs.Prelude.{◌≡◌, ℕ, ◌+◌, ◌*◌, ◌%◌, ◌^◌, ◌<◌, List, [], ◌∷◌, length, slice_get, Some}
use Rattle.std.specs.List.{flat_map}
use Rattle.byteorder.specs.Endian.{little_bytes}
use Rattle.num_core.specs.Run.{Running, Streams, after}
use Rattle.rv_isa.specs.declared.ins.Ins.{Ins}
use Rattle.rv_isa.specs.Instructions.{IsLegal, word_of}
use Rattle.rv_step.specs.Machine.{MachineState, effect, machine_step, next_pc, with_register}
use Rattle.rv_step.specs.Memory.{Bytes, MayExecute}
use Rattle.rv_step.specs.Segments.{AreSegments}

-- the words of instructions as bytes
abbrev pub text_of : List Ins → List ℕ
text_of code = flat_map (λ ins. little_bytes 4 (word_of ins)) code

-- Code stands at an address, and may be executed there.
pub record CodeAt (address : ℕ) (code : List Ins) (m : MachineState) : Type 0 where
  pub segments : AreSegments m.segments
  pub aligned : address % 4 ≡ 0
  pub fits : address + 4 * length code < 2 ^ 64
  pub bytes : Bytes m address (text_of code)
  pub executable : MayExecute m address (4 * length code)

-- these instructions stand in code from a place on
abbrev pub BlockAt : List Ins → ℕ → List Ins → Type 0
BlockAt code k [] = Unit {0}
BlockAt code k (ins ∷ block) = (slice_get code k ≡ Some ins) × BlockAt code (k + 1) block

-- each of them can be encoded
abbrev pub AllLegal : List Ins → Type 0
AllLegal [] = Unit {0}
AllLegal (ins ∷ block) = IsLegal ins × AllLegal block

-- the machine behind an instruction that gives a register a value
abbrev pub given : ℕ → ℕ → MachineState → MachineState
given rd value m = record { pc = next_pc m; registers = with_register m.registers rd value; segments = m.segments }

-- the machine behind instructions each of which gives a register a value
pub data Calculates : List Ins → MachineState → MachineState → Type 0 where
  Done : (m : MachineState) → Calculates [] m m
  Gives : (ins : Ins) (block : List Ins) (m new : MachineState) (rd value : ℕ)
      → ((streams : Streams) → effect ins m streams ≡ Running (given rd value m) streams)
      → Calculates block (given rd value m) new → Calculates (ins ∷ block) m new

-- A machine that stood at the first of some instructions of code stands behind the last, so many of them further. Its
-- memory is as before.
pub record Calculated (address : ℕ) (code : List Ins) (k count : ℕ) (m new : MachineState) : Type 0 where
  pub runs : (streams : Streams) → after machine_step count (Running m streams) ≡ Running new streams
  pub code_at : CodeAt address code new
  pub pc : new.pc ≡ address + 4 * (k + count)
  pub memory : new.segments ≡ m.segments

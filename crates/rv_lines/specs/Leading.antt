-- What the lines of an operation that computes do to registers, wherever the lines are placed: each instruction gives a
-- register a value, and a branch goes on behind it or to its label.
use Rattle.std.specs.Prelude.{◌≡◌, ◌≢◌, ℕ, ◌^◌, ◌<◌, List, [], ◌∷◌, length, All, slice_index, true, false}
use Rattle.std.specs.Prelude.{Option, Some, None}
use Rattle.num_core.specs.Run.{Running, Streams}
use Rattle.rv_isa.specs.declared.ins.Ins.{Ins}
use Rattle.rv_step.specs.Machine.{MachineState, effect, with_register}
use Rattle.rv_code.specs.Code.{given}
use Rattle.rv_lines.specs.Holds.{holds}
use Rattle.rv_lines.specs.declared.line.Condition.{Condition}
use Rattle.rv_lines.specs.declared.line.Line.{Line}
use Rattle.rv_lines.specs.declared.line.Line.TheVariants.{Single, Branch}

-- 32 registers of 64 bits, of which x0 is 0
pub record AreRegisters (registers : List ℕ) : Type 0 where
  pub count : length registers ≡ 32
  pub x0 : slice_index registers 0 ≡ 0
  pub words : All (λ word. word < 2 ^ 64) registers

-- where lines lead, with what registers then are: behind the last, or to the label of a branch that is taken
pub data End : Type 0 where
  Behind : List ℕ → End
  ToLabel : (label : ℕ) → List ℕ → End

-- an instruction gives a register a word, at whatever place it stands and whatever memory is
abbrev pub GivesWord : Ins → List ℕ → ℕ → ℕ → Type 0
GivesWord ins registers rd value =
    (m : MachineState) (streams : Streams) → m.registers ≡ registers
    → effect ins m streams ≡ Running (given rd value m) streams

-- lines lead from registers to an end; in no other way do they change the machine
pub data Leads : List Line → List ℕ → End → Type 0 where
  Over : (registers : List ℕ) → Leads [] registers (Behind registers)
  Gives : (ins : Ins) (lines : List Line) (registers : List ℕ) (rd value : ℕ) (end : End)
      → GivesWord ins registers rd value → value < 2 ^ 64
      → Leads lines (with_register registers rd value) end → Leads (Single ins ∷ lines) registers end
  Passes : (condition : Condition) (x y label : ℕ) (lines : List Line) (registers : List ℕ) (end : End)
      → holds condition (slice_index registers x) (slice_index registers y) ≡ false
      → Leads lines registers end → Leads (Branch condition x y label ∷ lines) registers end
  Takes : (condition : Condition) (x y label : ℕ) (lines : List Line) (registers : List ℕ)
      → holds condition (slice_index registers x) (slice_index registers y) ≡ true
      → Leads (Branch condition x y label ∷ lines) registers (ToLabel label registers)

-- ---- what operations promise of their lines

-- all registers but one are as before
abbrev pub KeepsOthers : List ℕ → List ℕ → ℕ → Type 0
KeepsOthers registers new rd = (r : ℕ) → r ≢ rd → slice_index new r ≡ slice_index registers r

-- the lines give a register a word, and change no other
pub record LeadsTo (lines : List Line) (registers : List ℕ) (rd value : ℕ) : Type 0 where
  pub new : List ℕ
  pub leads : Leads lines registers (Behind new)
  pub registers_then : AreRegisters new
  pub result : slice_index new rd ≡ value
  pub others : KeepsOthers registers new rd

-- the register is none of those that operations which may be refused use on the way, x7, x28 and x29
pub record IsKept (r : ℕ) : Type 0 where
  pub not_result : r ≢ 7
  pub not_first : r ≢ 28
  pub not_second : r ≢ 29

-- all registers but those are as before
abbrev pub KeepsAll : List ℕ → List ℕ → Type 0
KeepsAll registers new = (r : ℕ) → IsKept r → slice_index new r ≡ slice_index registers r

-- the lines lead on behind the last with a word in a register
pub record Answers (lines : List Line) (registers : List ℕ) (rd value : ℕ) : Type 0 where
  pub new : List ℕ
  pub leads : Leads lines registers (Behind new)
  pub registers_then : AreRegisters new
  pub result : slice_index new rd ≡ value
  pub others : (r : ℕ) → r ≢ rd → IsKept r → slice_index new r ≡ slice_index registers r

-- or to a label
pub record Refuses (lines : List Line) (registers : List ℕ) (label : ℕ) : Type 0 where
  pub new : List ℕ
  pub leads : Leads lines registers (ToLabel label new)
  pub registers_then : AreRegisters new
  pub others : KeepsAll registers new

-- by whether there is a word
abbrev pub AnswersOr : List Line → List ℕ → ℕ → ℕ → Option ℕ → Type 0
AnswersOr lines registers rd label None = Refuses lines registers label
AnswersOr lines registers rd label (Some value) = Answers lines registers rd value

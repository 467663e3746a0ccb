-- What it means that an executable file does what a body does.
use Rattle.std.specs.Prelude.{◌≡◌, ℕ, List, Ok}
use Rattle.num_core.specs.Run.{KeepsStep, Same}
use Rattle.il_code.specs.declared.body.Body.{Body}
use Rattle.cil_state.specs.Step.{cil_run}
use Rattle.rv_step.specs.Machine.{MachineState, machine_run}
use Rattle.elf_file.specs.Elf.{loaded}
use Rattle.ilc_build.specs.Bare.{ReadsBare}
use Rattle.ilc_build.specs.Code.{code_of}
use Rattle.ilc_build.specs.File.{IsFileOf}
use Rattle.ilc_build.specs.declared.depths.Known.{Known}

-- how many steps of the machine one step of a body takes at most
abbrev pub most_steps : ℕ
most_steps = 24

-- The file loads as a machine that keeps step with the body on every input: it has moments m(0) < m(1) < .., each 1 to
-- 24 steps behind the one before, at which it looks as the body does after 0, 1, .. steps.
pub record Implements (body : Body) (elf : List ℕ) : Type 0 where
  pub machine : MachineState
  pub loads : loaded elf ≡ Ok machine
  pub keeps_step : (input : List ℕ) →
      KeepsStep (λ _. Same) (λ _. most_steps) (cil_run body input) (machine_run machine input)

-- The bytes are those of a bare body; the executable file `elf` is that of the body's code, and does what the body
-- does.
pub record Builds (bytes elf : List ℕ) : Type 0 where
  pub body : Body
  pub table : List Known
  pub reads : ReadsBare bytes body table
  pub file : IsFileOf (code_of body.code table) elf
  pub implements : Implements body elf

-- The state of a CIL program (ECMA-335 I.12.3.2), and what each row of the step does with it.
use Rattle.std.specs.Prelude.{ℕ, ℤ, List, ◌∷◌}
use Rattle.num_core.specs.Run.{Run, Running, Stopped, Streams}
use Rattle.il_code.specs.declared.body.Instr.{Instr}

-- what a slot of the evaluation stack holds (I.12.3.2.1)
pub data Slot : Type 0 where
  Int32 : ℤ → Slot

-- what a call of a method works on: the offset of its next instruction, and its evaluation stack, the top first
pub record Frame : Type 0 where
  pub offset : ℕ
  pub stack : List Slot

-- the frames, the innermost first
pub record CilState : Type 0 where
  pub frames : List Frame

-- why a run of CIL can't go on: there is no instruction that can be done on this stack
pub data CilCause : Type 0 where
  NoStep : CilCause

abbrev pub no_step : Streams → Run CilState CilCause
no_step streams = Stopped NoStep streams

-- on to an offset, with this stack
abbrev pub goes_to : ℕ → List Slot → List Frame → Streams → Run CilState CilCause
goes_to offset stack below streams =
    Running (record { frames = record { offset = offset; stack = stack } ∷ below }) streams

-- on to the instruction behind, with this stack
abbrev pub goes_on : Instr → List Slot → List Frame → Streams → Run CilState CilCause
goes_on i stack below streams = goes_to i.next stack below streams

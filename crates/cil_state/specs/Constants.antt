-- Constants and places: ECMA-335 III.3.
use Rattle.std.specs.Prelude.{List, [], ◌∷◌}
use Rattle.num_core.specs.Run.{Run, Streams}
use Rattle.il_code.specs.declared.body.Instr.{Instr}
use Rattle.cil_state.specs.State.{CilCause, CilState, Frame, Slot, goes_on, no_step}

-- `dup` (III.3.33): the top once more
abbrev pub duplicates : Instr → List Slot → List Frame → Streams → Run CilState CilCause
duplicates i (top ∷ stack) below streams = goes_on i (top ∷ top ∷ stack) below streams
duplicates i [] below streams = no_step streams

-- `pop` (III.3.54): the stack without its top
abbrev pub discards : Instr → List Slot → List Frame → Streams → Run CilState CilCause
discards i (top ∷ stack) below streams = goes_on i stack below streams
discards i [] below streams = no_step streams

-- Calls and returns: ECMA-335 III.3.
use Rattle.std.specs.Prelude.{List, [], ◌∷◌}
use Rattle.num_core.specs.Bits.{low_bits}
use Rattle.num_core.specs.Run.{Run, Ended, Streams}
use Rattle.cil_state.specs.State.{CilCause, CilState, Frame, Int32, Slot, no_step}

-- `ret` (III.3.57): the method that the program begins with ends it, with the low byte of its result
abbrev pub returns : List Slot → List Frame → Streams → Run CilState CilCause
returns (Int32 n ∷ []) [] streams = Ended (low_bits 8 n) streams
returns _ _ streams = no_step streams

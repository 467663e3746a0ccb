-- Compare and branch: ECMA-335 III.3.
use Rattle.std.specs.Prelude.{ℕ, ℤ, pos, negsuc, Bool, false, ◌==◌, if◌then◌else◌, List, [], ◌∷◌}
use Rattle.num_core.specs.Run.{Run, Streams}
use Rattle.il_code.specs.declared.body.Instr.{Instr}
use Rattle.cil_state.specs.State.{CilCause, CilState, Frame, Int32, Slot, goes_to, no_step}

abbrev pub is_zero : ℤ → Bool
is_zero (pos n) = n == 0
is_zero (negsuc n) = false

-- `brtrue` (III.3.18): to the target unless the top is 0
abbrev pub branches : ℕ → Instr → List Slot → List Frame → Streams → Run CilState CilCause
branches target i (Int32 n ∷ stack) below streams = goes_to (if is_zero n then i.next else target) stack below streams
branches target i [] below streams = no_step streams

-- The step of a CIL program and its runs: ECMA-335 III, and I.12.3.2 for the state.
use Rattle.std.specs.Prelude.{ℕ, ◌==◌, List, [], ◌∷◌, find, Option, Some, None}
use Rattle.num_core.specs.Run.{Run, Running, Streams, after}
use Rattle.il_code.specs.declared.body.Body.{Body}
use Rattle.il_code.specs.declared.body.Instr.{Instr}
use Rattle.il_code.specs.declared.operation.Operation.{Operation}
use Rattle.il_code.specs.declared.operation.Operation.TheVariants.{NoOperation, Constant, Duplicate, Discard, Binary}
use Rattle.il_code.specs.declared.operation.Operation.TheVariants.{Branch, BranchIfTrue, Return}
use Rattle.il_code.specs.Operations.{operation_of}
use Rattle.cil_state.specs.State.{CilCause, CilState, Frame, Int32, goes_on, goes_to, no_step}
use Rattle.cil_state.specs.Constants.{discards, duplicates}
use Rattle.cil_state.specs.Arithmetic.{combines}
use Rattle.cil_state.specs.Branches.{branches}
use Rattle.cil_state.specs.Calls.{returns}

-- the instruction that stands at an offset
abbrev pub instruction_in : Body → ℕ → Option Instr
instruction_in body offset = find (λ i. i.at == offset) body.code

-- What an instruction does to the innermost frame and those below it: `nop` (III.3.51) goes on, `ldc.i4` (III.3.40)
-- puts its number on the stack, `br` (III.3.15) goes to its target.
abbrev pub performs : Option Operation → Instr → Frame → List Frame → Streams → Run CilState CilCause
performs None i frame below streams = no_step streams
performs (Some NoOperation) i frame below streams = goes_on i frame.stack below streams
performs (Some (Constant n)) i frame below streams = goes_on i (Int32 n ∷ frame.stack) below streams
performs (Some Duplicate) i frame below streams = duplicates i frame.stack below streams
performs (Some Discard) i frame below streams = discards i frame.stack below streams
performs (Some (Binary operation)) i frame below streams = combines operation i frame.stack below streams
performs (Some (Branch target)) i frame below streams = goes_to target frame.stack below streams
performs (Some (BranchIfTrue target)) i frame below streams = branches target i frame.stack below streams
performs (Some Return) i frame below streams = returns frame.stack below streams

abbrev pub on_instruction : Option Instr → Frame → List Frame → Streams → Run CilState CilCause
on_instruction None frame below streams = no_step streams
on_instruction (Some i) frame below streams = performs (operation_of i.op i.operand) i frame below streams

abbrev pub on_frames : Body → List Frame → Streams → Run CilState CilCause
on_frames body [] streams = no_step streams
on_frames body (frame ∷ below) streams = on_instruction (instruction_in body frame.offset) frame below streams

-- one step of a body that is the whole program
abbrev pub cil_step : Body → CilState → Streams → Run CilState CilCause
cil_step body state streams = on_frames body state.frames streams

-- at the first instruction, with nothing on the stack
abbrev pub cil_start : CilState
cil_start = record { frames = record { offset = 0; stack = [] } ∷ [] }

-- where the program stands after n steps, with nothing written at the start
abbrev pub cil_run : Body → List ℕ → ℕ → Run CilState CilCause
cil_run body input n = after (cil_step body) n (Running cil_start (record { input = input; output = []; error = [] }))

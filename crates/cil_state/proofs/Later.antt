-- What is written stays written, and what was read isn't there to be read again.
use Rattle.std.proofs.Common.{◌≡◌, ◌∙◌, ℕ, zero, suc, ◌-◌, ◌≤◌, List, [], ◌∷◌, ◌++◌, Option, Some, None, ap, append-nil}
use Rattle.std.proofs.Common.{append_assoc, refl, subst, sym}
use Rattle.num_core.specs.Run.{Ended, Run, Running, Stopped, Streams, after, one_more}
use Rattle.il_code.specs.declared.body.Body.{Body}
use Rattle.il_code.specs.declared.body.Instr.{Instr}
use Rattle.il_code.specs.declared.operation.Operation.{Operation}
use Rattle.il_code.specs.declared.operation.Operation.TheVariants.{NoOperation, Constant, Duplicate, Discard, Binary}
use Rattle.il_code.specs.declared.operation.Operation.TheVariants.{Branch, BranchIfTrue, Return}
use Rattle.il_code.specs.declared.operation.BinaryOperation.{BinaryOperation}
use Rattle.il_code.specs.Operations.{operation_of}
use Rattle.cil_state.specs.State.{CilCause, CilState, Frame, Int32, Slot}
use Rattle.cil_state.specs.Constants.{discards, duplicates}
use Rattle.cil_state.specs.Arithmetic.{combines}
use Rattle.cil_state.specs.Branches.{branches}
use Rattle.cil_state.specs.Calls.{returns}
use Rattle.cil_state.specs.Step.{cil_run, cil_step, instruction_in, on_frames, on_instruction, performs}
use Rattle.cil_state.specs.Later.{IsLater, streams_of}
use Rattle.cil_state.proofs.Runs.{split}

no_later : (streams : Streams) → IsLater streams streams
no_later streams =
    record {
      taken = ([], refl);
      written = ([], sym (append-nil streams.output));
      told = ([], sym (append-nil streams.error));
    }

then_later : (a b c : Streams) → IsLater a b → IsLater b c → IsLater a c
then_later a b c p q =
    let x : List ℕ = p.taken.0 in
    let y : List ℕ = q.taken.0 in
    record {
      taken = (x ++ y, p.taken.1 ∙ ap (λ l. x ++ l) q.taken.1 ∙ sym (append_assoc x y c.input));
      written = (
        p.written.0 ++ q.written.0,
        q.written.1 ∙ ap (λ l. l ++ q.written.0) p.written.1 ∙ append_assoc a.output p.written.0 q.written.0,
      );
      told = (
        p.told.0 ++ q.told.0,
        q.told.1 ∙ ap (λ l. l ++ q.told.0) p.told.1 ∙ append_assoc a.error p.told.0 q.told.0,
      );
    }

-- ---- no row reads or writes

by_duplicate : (i : Instr) (stack : List Slot) (below : List Frame) (streams : Streams) →
    streams_of (duplicates i stack below streams) ≡ streams
by_duplicate i [] below streams = refl
by_duplicate i (top ∷ stack) below streams = refl

by_discard : (i : Instr) (stack : List Slot) (below : List Frame) (streams : Streams) →
    streams_of (discards i stack below streams) ≡ streams
by_discard i [] below streams = refl
by_discard i (top ∷ stack) below streams = refl

by_binary : (does : BinaryOperation) (i : Instr) (stack : List Slot) (below : List Frame) (streams : Streams) →
    streams_of (combines does i stack below streams) ≡ streams
by_binary does i [] below streams = refl
by_binary does i (Int32 b ∷ []) below streams = refl
by_binary does i (Int32 b ∷ Int32 a ∷ stack) below streams = refl

by_branch : (target : ℕ) (i : Instr) (stack : List Slot) (below : List Frame) (streams : Streams) →
    streams_of (branches target i stack below streams) ≡ streams
by_branch target i [] below streams = refl
by_branch target i (Int32 n ∷ stack) below streams = refl

by_return : (stack : List Slot) (below : List Frame) (streams : Streams) →
    streams_of (returns stack below streams) ≡ streams
by_return [] below streams = refl
by_return (Int32 n ∷ []) [] streams = refl
by_return (Int32 n ∷ []) (frame ∷ below) streams = refl
by_return (Int32 n ∷ slot ∷ stack) below streams = refl

by_operation : (o : Option Operation) (i : Instr) (frame : Frame) (below : List Frame) (streams : Streams) →
    streams_of (performs o i frame below streams) ≡ streams
by_operation None i frame below streams = refl
by_operation (Some NoOperation) i frame below streams = refl
by_operation (Some (Constant n)) i frame below streams = refl
by_operation (Some Duplicate) i frame below streams = by_duplicate i frame.stack below streams
by_operation (Some Discard) i frame below streams = by_discard i frame.stack below streams
by_operation (Some (Binary does)) i frame below streams = by_binary does i frame.stack below streams
by_operation (Some (Branch target)) i frame below streams = refl
by_operation (Some (BranchIfTrue target)) i frame below streams = by_branch target i frame.stack below streams
by_operation (Some Return) i frame below streams = by_return frame.stack below streams

by_instruction : (o : Option Instr) (frame : Frame) (below : List Frame) (streams : Streams) →
    streams_of (on_instruction o frame below streams) ≡ streams
by_instruction None frame below streams = refl
by_instruction (Some i) frame below streams = by_operation (operation_of i.op i.operand) i frame below streams

by_frames : (body : Body) (frames : List Frame) (streams : Streams) →
    streams_of (on_frames body frames streams) ≡ streams
by_frames body [] streams = refl
by_frames body (frame ∷ below) streams = by_instruction (instruction_in body frame.offset) frame below streams

-- ---- steps and runs

pub later_step : (body : Body) (state : CilState) (streams : Streams) →
    IsLater streams (streams_of (cil_step body state streams))
later_step body state streams =
    subst (IsLater streams) (sym (by_frames body state.frames streams)) (no_later streams)

one_later : (body : Body) (run : Run CilState CilCause) →
    IsLater (streams_of run) (streams_of (one_more (cil_step body) run))
one_later body (Running state streams) = later_step body state streams
one_later body (Ended status streams) = no_later streams
one_later body (Stopped cause streams) = no_later streams

later_after : (body : Body) (n : ℕ) (run : Run CilState CilCause) →
    IsLater (streams_of run) (streams_of (after (cil_step body) n run))
later_after body zero run = no_later (streams_of run)
later_after body (suc n) run =
    let before : Run CilState CilCause = after (cil_step body) n run in
    then_later (streams_of run) (streams_of before) (streams_of (one_more (cil_step body) before))
    (later_after body n run) (one_later body before)

pub later_run : (body : Body) (input : List ℕ) (n m : ℕ) → n ≤ m →
    IsLater (streams_of (cil_run body input n)) (streams_of (cil_run body input m))
later_run body input n m h =
    let before : Run CilState CilCause = cil_run body input n in
    subst (λ run. IsLater (streams_of before) (streams_of run)) (sym (split body input n m h))
    (later_after body (m - n) before)

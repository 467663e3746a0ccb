-- A run that is over stays as it is.
use Rattle.std.proofs.Common.{◌≡◌, ◌∙◌, ℕ, ◌+◌, ◌-◌, ◌≤◌, List, [], ap, arith}
use Rattle.num_core.specs.Run.{Ended, Run, Running, Stopped, Streams, after}
use Rattle.num_core.proofs.Runs.{after-add, after-ended, after-stopped}
use Rattle.il_code.specs.declared.body.Body.{Body}
use Rattle.cil_state.specs.State.{CilCause, CilState}
use Rattle.cil_state.specs.Step.{cil_run, cil_start, cil_step}

-- a later moment is so many steps behind an earlier one
pub split : (body : Body) (input : List ℕ) (n m : ℕ) → n ≤ m →
    cil_run body input m ≡ after (cil_step body) (m - n) (cil_run body input n)
split body input n m h =
    let e : m ≡ m - n + n = omega (arith, h) in
    let start : Run CilState CilCause = Running cil_start (record { input = input; output = []; error = [] }) in
    ap (cil_run body input) e ∙ after-add (cil_step body) (m - n) n start

pub ended_stays : (body : Body) (input : List ℕ) (n m status : ℕ) (streams : Streams) → n ≤ m →
    cil_run body input n ≡ Ended status streams → cil_run body input m ≡ Ended status streams
ended_stays body input n m status streams h ended =
    split body input n m h ∙ ap (after (cil_step body) (m - n)) ended
    ∙ after-ended (cil_step body) (m - n) status streams

pub stopped_stays : (body : Body) (input : List ℕ) (n m : ℕ) (cause : CilCause) (streams : Streams) → n ≤ m →
    cil_run body input n ≡ Stopped cause streams → cil_run body input m ≡ Stopped cause streams
stopped_stays body input n m cause streams h stopped =
    split body input n m h ∙ ap (after (cil_step body) (m - n)) stopped
    ∙ after-stopped (cil_step body) (m - n) cause streams

-- A run that is over stays as it is.
use Rattle.std.proofs.Common.{◌≡◌, ◌∙◌, ℕ, ◌+◌, ◌-◌, ◌≤◌, List, ap, arith}
use Rattle.num_core.specs.Run.{Ended, Stopped, Streams, after}
use Rattle.num_core.proofs.Runs.{after-add, after-ended, after-stopped}
use Rattle.ty_names.specs.Modules.{World}
use Rattle.cil_world.specs.State.{CilCause, Setting}
use Rattle.cil_world.specs.Step.{run_under, cil_start, cil_step}

-- a later moment is so many steps behind an earlier one
pub split : (world : World) (setting : Setting) (input : List ℕ) (n m : ℕ) → n ≤ m →
    run_under world setting input m ≡ after (cil_step world setting) (m - n) (run_under world setting input n)
split world setting input n m h =
    let e : m ≡ m - n + n = omega (arith, h) in
    ap (run_under world setting input) e ∙ after-add (cil_step world setting) (m - n) n (cil_start world setting input)

pub ended_stays : (world : World) (setting : Setting) (input : List ℕ) (n m status : ℕ) (streams : Streams) → n ≤ m →
    run_under world setting input n ≡ Ended status streams → run_under world setting input m ≡ Ended status streams
ended_stays world setting input n m status streams h ended =
    split world setting input n m h ∙ ap (after (cil_step world setting) (m - n)) ended
    ∙ after-ended (cil_step world setting) (m - n) status streams

pub stopped_stays : (world : World) (setting : Setting) (input : List ℕ) (n m : ℕ) (cause : CilCause)
    (streams : Streams)
    → n ≤ m → run_under world setting input n ≡ Stopped cause streams
    → run_under world setting input m ≡ Stopped cause streams
stopped_stays world setting input n m cause streams h stopped =
    split world setting input n m h ∙ ap (after (cil_step world setting) (m - n)) stopped
    ∙ after-stopped (cil_step world setting) (m - n) cause streams

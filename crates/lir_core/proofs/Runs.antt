-- A run that is over stays as it is.
use Rattle.std.proofs.Common.{◌≡◌, ◌∙◌, ℕ, ◌+◌, ◌-◌, ◌≤◌, List, [], None, ap, arith}
use Rattle.num_core.specs.Run.{Ended, Stopped, Streams, after}
use Rattle.num_core.proofs.Runs.{after-add, after-ended, after-stopped}
use Rattle.lir_core.specs.Calls.{Given, enters}
use Rattle.lir_core.specs.Program.{WordProgram}
use Rattle.lir_core.specs.State.{WordCause}
use Rattle.lir_core.specs.Step.{word_run, word_start, word_step}

module _ (program : WordProgram) (item : ℕ) (given : List Given) (input : List ℕ) where
  begun : Streams
  begun = record { input = input; output = []; error = [] }

  -- a later moment is so many steps behind an earlier one
  split : (n m : ℕ) → n ≤ m →
      word_run program item given input m ≡ after (word_step program) (m - n) (word_run program item given input n)
  unfolding begun
  split n m h =
      let e : m ≡ m - n + n = omega (arith, h) in
      ap (word_run program item given input) e
      ∙ after-add (word_step program) (m - n) n (enters program (word_start program) item None given [] begun)

  pub ended_stays : (n m status : ℕ) (streams : Streams) → n ≤ m →
      word_run program item given input n ≡ Ended status streams →
      word_run program item given input m ≡ Ended status streams
  ended_stays n m status streams h ended =
      split n m h ∙ ap (after (word_step program) (m - n)) ended
      ∙ after-ended (word_step program) (m - n) status streams

  pub stopped_stays : (n m : ℕ) (cause : WordCause) (streams : Streams) → n ≤ m →
      word_run program item given input n ≡ Stopped cause streams →
      word_run program item given input m ≡ Stopped cause streams
  stopped_stays n m cause streams h stopped =
      split n m h ∙ ap (after (word_step program) (m - n)) stopped
      ∙ after-stopped (word_step program) (m - n) cause streams

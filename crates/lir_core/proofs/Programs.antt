-- What small programs do, by computing.
use Rattle.std.proofs.Common.{◌≡◌, ℕ, zero, suc, List, [], ◌∷◌, true, refl, lit≤, ap, sym, subst, Some, slice_get}
use Rattle.std.proofs.Common.{◌==◌, if◌then◌else◌}
use Rattle.std.specs.Int.{int_wrap}
use Rattle.num_core.specs.Run.{Ended, Stopped}
use Rattle.lir_core.specs.Calls.{stack_text}
use Rattle.lir_core.specs.Check.{clauses_are_sound, is_sound}
use Rattle.lir_core.specs.Handlers.{unhandled_text}
use Rattle.lir_core.specs.Layout.{IsLaidOut}
use Rattle.lir_core.specs.Small.{adds_down, calls_a_double, calls_itself, catch_and_catch, clears_what_it_gave}
use Rattle.lir_core.specs.Small.{finally_and_catch, leaves_a_try, moves_two_words, one_finally, passes_the_greatest}
use Rattle.lir_core.specs.Small.{program_with, raises_again, raises_in_a_callee, reads_the_unwritten}
use Rattle.lir_core.specs.State.{NoStep}
use Rattle.lir_core.specs.Step.{word_run}
use Rattle.lir_core.specs.declared.body.LirBody.{LirBody}

module _ (input : List ℕ) where
  pub sum : word_run (program_with adds_down []) 0 [] input 15
      ≡ Ended 6 (record { input = input; output = []; error = [] })
  unfolding int_wrap
  sum = refl

  pub call : word_run (program_with calls_a_double []) 0 [] input 5
      ≡ Ended 42 (record { input = input; output = []; error = [] })
  unfolding int_wrap
  call = refl

  pub bound : word_run (program_with calls_itself []) 0 [] input 4
      ≡ Ended 134 (record { input = input; output = []; error = stack_text })
  bound = refl

  pub overflow : word_run (program_with passes_the_greatest []) 0 [] input 4
      ≡ Ended 1 (record { input = input; output = []; error = [] })
  unfolding int_wrap
  overflow = refl

  pub unwritten : word_run (program_with reads_the_unwritten []) 0 [] input 1
      ≡ Stopped NoStep (record { input = input; output = []; error = [] })
  unwritten = refl

  pub caught : word_run (program_with raises_in_a_callee (finally_and_catch 40)) 0 [] input 12
      ≡ Ended 42 (record { input = input; output = []; error = [] })
  unfolding int_wrap
  caught = refl

  pub uncaught : word_run (program_with raises_in_a_callee (finally_and_catch 41)) 0 [] input 6
      ≡ Ended 134 (record { input = input; output = []; error = unhandled_text })
  uncaught = refl

  pub left : word_run (program_with leaves_a_try one_finally) 0 [] input 4
      ≡ Ended 7 (record { input = input; output = []; error = [] })
  unfolding int_wrap
  left = refl

  pub cleared : word_run (program_with clears_what_it_gave []) 0 [] input 8
      ≡ Ended 2 (record { input = input; output = []; error = [] })
  unfolding int_wrap
  cleared = refl

  pub moved : word_run (program_with (moves_two_words 8 9) []) 0 [] input 5
      ≡ Ended 2 (record { input = input; output = []; error = [] })
  unfolding int_wrap
  moved = refl

  pub not_moved : word_run (program_with (moves_two_words 9 8) []) 0 [] input 3
      ≡ Stopped NoStep (record { input = input; output = []; error = [] })
  unfolding int_wrap
  not_moved = refl

  pub raised_again : word_run (program_with raises_again catch_and_catch) 0 [] input 11
      ≡ Ended 40 (record { input = input; output = []; error = [] })
  unfolding int_wrap
  raised_again = refl

-- what holds of each of two bodies by its item
by_item : (P : ℕ → LirBody → Type 0) (a b : LirBody) (item : ℕ) (body : LirBody)
    → slice_get (a ∷ b ∷ []) item ≡ Some body → P 0 a → P 1 b → P item body
by_item P a b zero body is first second = let same : a ≡ body = cc in subst (P 0) same first
by_item P a b (suc zero) body is first second = let same : b ≡ body = cc in subst (P 1) same second
by_item P a b (suc (suc item)) body is first second = cc

pub laid_out : (class : ℕ) → IsLaidOut (program_with raises_in_a_callee (finally_and_catch class))
laid_out class = record {
  frames_behind_heap = refl;
  below = lit≤ tt;
  image_apart = λ place low high. refl;
  image_below = λ place high. refl;
  sound = λ item body is. by_item (λ i b. is_sound b ≡ true) _ _ item body is refl refl;
  sound_clauses = λ item body is. by_item
      (λ i b. clauses_are_sound b (if i == 0 then finally_and_catch class else []) ≡ true) _ _ item body is refl refl;
  found = λ item address is.
      let same : item ≡ address = cc in (address, refl, ap (slice_get raises_in_a_callee) (sym same));
}

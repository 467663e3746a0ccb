-- Runs of a program, step by step, and when two runs look the same from outside.
use Rattle.std.specs.Prelude.{◌≡◌, ℕ, zero, suc, ◌+◌, ◌<◌, ◌≤◌, List, ◌++◌, length, slice_index, Option, IfSome}
use Rattle.std.specs.Option.{option_map}

-- What the world sees of a run: what is left of the input, and what was written to the output and as error text.
pub record Streams : Type 0 where
  pub input : List ℕ
  pub output : List ℕ
  pub error : List ℕ

-- Where a run stands. State is what the program works on, and Cause says why it can't go on.
pub data Run (State Cause : Type 0) : Type 0 where
  Running : State → Streams → Run State Cause
  Ended : (status : ℕ) → Streams → Run State Cause
  Stopped : Cause → Streams → Run State Cause

-- one more step; a run that is over stays
abbrev pub one_more : {State Cause : Type 0} → (State → Streams → Run State Cause) → Run State Cause → Run State Cause
one_more step (Running state streams) = step state streams
one_more step (Ended status streams) = Ended status streams
one_more step (Stopped cause streams) = Stopped cause streams

-- where the run stands after n more steps
abbrev pub after : {State Cause : Type 0} → (State → Streams → Run State Cause) → ℕ → Run State Cause → Run State Cause
after step zero run = run
after step (suc n) run = one_more step (after step n run)

-- Two runs that look the same from outside: what they have left to read and what they have written
-- are equal, and both have ended with one status or both go on.
abbrev pub Same : {State Cause State' Cause' : Type 0} → Run State Cause → Run State' Cause' → Type 0
Same (Running _ streams) (Running _ streams') = streams ≡ streams'
Same (Ended status streams) (Ended status' streams') = (status ≡ status') × (streams ≡ streams')
Same _ _ = ⊥

-- For each i the second run has a moment at which R holds of i, the first run after i steps and the second run then.
-- Each moment lies behind the one before, by at most so many steps of the second run.
pub record KeepsStep {State Cause State' Cause' : Type 0} (R : ℕ → Run State Cause → Run State' Cause' → Type 0)
    (most : ℕ → ℕ) (first : ℕ → Run State Cause) (second : ℕ → Run State' Cause') : Type 0 where
  pub moment : ℕ → ℕ
  pub rising : (i : ℕ) → moment i < moment (i + 1)
  pub within : (i : ℕ) → moment (i + 1) ≤ moment i + most i
  pub related : (i : ℕ) → R i (first i) (second (moment i))

-- what two relations say of the first run and the third, by a moment of the run between them
abbrev pub Through : {State Cause State' Cause' State'' Cause'' : Type 0} → (ℕ → Run State' Cause')
    → (ℕ → Run State Cause → Run State' Cause' → Type 0) → (ℕ → Run State' Cause' → Run State'' Cause'' → Type 0) → ℕ
    → Run State Cause → Run State'' Cause'' → Type 0
Through between R R' i a c = (j : ℕ) × R i a (between j) × R' j (between j) c

-- For this n there are moments m(0) < m(1) < .. < m(n) of the second run at which it looks the same as the first run
-- after 0, 1, .. n steps.
pub record LooksTheSame {State Cause State' Cause' : Type 0} (first : ℕ → Run State Cause)
    (second : ℕ → Run State' Cause') (n : ℕ) : Type 0 where
  pub moments : List ℕ
  pub count : length moments ≡ n + 1
  pub rising : (i : ℕ) → i < n → slice_index moments i < slice_index moments (i + 1)
  pub same : (i : ℕ) → i ≤ n → Same (first i) (second (slice_index moments i))

-- What a source has left, where it tells it, and what the sinks for output and error text hold, where they tell it.
pub record Outside : Type 0 where
  pub rest : Option (List ℕ)
  pub output : Option (List ℕ)
  pub error : Option (List ℕ)

-- A run on the input `given` passes to the outside: the input is what the source had, what is left is what it
-- has now, and to what the sinks held is added what the run has written.
pub record Passes (given : List ℕ) (streams : Streams) (old new : Outside) : Type 0 where
  pub taken : IfSome old.rest (λ rest. rest ≡ given)
  pub left : IfSome new.rest (λ rest. rest ≡ streams.input)
  pub output : new.output ≡ option_map (λ bytes. bytes ++ streams.output) old.output
  pub error : new.error ≡ option_map (λ bytes. bytes ++ streams.error) old.error

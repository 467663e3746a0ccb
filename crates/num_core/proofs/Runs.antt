-- What holds of runs, how a simulation of single steps gives one of whole runs, and how two of these compose.
use Rattle.std.proofs.Common.{◌≡◌, ◌∙◌, ℕ, zero, suc, ◌+◌, ◌-◌, ◌*◌, ◌<◌, ◌≤◌, List, [], ◌∷◌, ◌++◌, length, slice_index}
use Rattle.std.proofs.Common.{refl, sym, ap, arith, subst, ◌⊎◌, inl, inr}
use Rattle.std.proofs.Math.ListN.{get_or-append}
use Rattle.std.proofs.Math.Nat.{add-mul, suc-mul}
use Rattle.std.proofs.Math.Seq.{get_or-append_seam}
use Rattle.std.proofs.lemmas.List.{length_push}
use Rattle.num_core.specs.Run.{Run, Running, Ended, Stopped, Streams, one_more, after, Same, KeepsStep, Through}
use Rattle.num_core.specs.Run.{LooksTheSame}

-- n steps and then m more are m + n steps
pub after-add : {State Cause : Type 0} (step : State → Streams → Run State Cause) (m n : ℕ) (run : Run State Cause)
    → after step (m + n) run ≡ after step m (after step n run)
after-add step zero n run =
    let e : 0 + n ≡ n = omega arith in
    ap (λ k. after step k run) e
after-add step (suc m) n run =
    let e : suc m + n ≡ suc (m + n) = omega arith in
    ap (λ k. after step k run) e ∙ ap (one_more step) (after-add step m n run)

-- a run that has ended stays so
pub after-ended : {State Cause : Type 0} (step : State → Streams → Run State Cause) (n status : ℕ) (streams : Streams)
    → after step n (Ended status streams) ≡ Ended status streams
after-ended step zero status streams = refl
after-ended step (suc n) status streams = ap (one_more step) (after-ended step n status streams)

-- a run that can't go on stays so
pub after-stopped : {State Cause : Type 0} (step : State → Streams → Run State Cause) (n : ℕ) (cause : Cause)
    (streams : Streams) → after step n (Stopped cause streams) ≡ Stopped cause streams
after-stopped step zero cause streams = refl
after-stopped step (suc n) cause streams = ap (one_more step) (after-stopped step n cause streams)

-- The relation R leads from each step of the first program to one or more steps of the second, and to no more than
-- `most`.
pub record Simulates {State Cause State' Cause' : Type 0} (step : State → Streams → Run State Cause)
    (step' : State' → Streams → Run State' Cause') (R : Run State Cause → Run State' Cause' → Type 0) (most : ℕ)
    : Type 0 where
  pub goes : (a : Run State Cause) (b : Run State' Cause') → R a b → (k : ℕ) × (suc k ≤ most)
      × R (one_more step a) (after step' (suc k) b)

-- the moment of the second run that belongs to the first after n steps, where the relation holds
tracked : {State Cause State' Cause' : Type 0} (step : State → Streams → Run State Cause)
    (step' : State' → Streams → Run State' Cause') (R : Run State Cause → Run State' Cause' → Type 0) (most : ℕ)
    → Simulates step step' R most → (a : Run State Cause) (b : Run State' Cause') → R a b → (n : ℕ) → (moment : ℕ)
    × R (after step n a) (after step' moment b)
tracked step step' R most simulates a b related zero = (0, related)
tracked step step' R most simulates a b related (suc n) =
    let before : (moment : ℕ) × R (after step n a) (after step' moment b) =
    tracked step step' R most simulates a b related n in
    let next : (k : ℕ) × (suc k ≤ most)
    × R (one_more step (after step n a)) (after step' (suc k) (after step' before.0 b)) =
    simulates.goes _ _ before.1 in
    (suc next.0 + before.0, subst (R (after step (suc n) a)) (sym (after-add step' (suc next.0) before.0 b)) next.2)

-- the next moment lies one to `most` steps behind
tracked-suc : {State Cause State' Cause' : Type 0} (step : State → Streams → Run State Cause)
    (step' : State' → Streams → Run State' Cause') (R : Run State Cause → Run State' Cause' → Type 0) (most : ℕ)
    (simulates : Simulates step step' R most) (a : Run State Cause) (b : Run State' Cause') (related : R a b) (n : ℕ)
    → (k : ℕ) × (suc k ≤ most) × ((tracked step step' R most simulates a b related (suc n)).0 ≡ suc k
    + (tracked step step' R most simulates a b related n).0)
unfolding tracked
tracked-suc {State} {Cause} {State'} {Cause'} step step' R most simulates a b related n =
    let before : (moment : ℕ) × R (after step n a) (after step' moment b) =
    tracked step step' R most simulates a b related n in
    let next : (k : ℕ) × (suc k ≤ most)
    × R (one_more step (after step n a)) (after step' (suc k) (after step' before.0 b)) =
    simulates.goes _ _ before.1 in
    (next.0, next.1, refl)

-- Where single steps are simulated, whole runs are.
pub keeps_step : {State Cause State' Cause' : Type 0} (step : State → Streams → Run State Cause)
    (step' : State' → Streams → Run State' Cause') (R : Run State Cause → Run State' Cause' → Type 0) (most : ℕ)
    (simulates : Simulates step step' R most) (a : Run State Cause) (b : Run State' Cause') (related : R a b)
    → KeepsStep (λ _. R) (λ _. most) (λ i. after step i a) (λ m. after step' m b)
keeps_step step step' R most simulates a b related =
    let moment : ℕ → ℕ = λ n. (tracked step step' R most simulates a b related n).0 in
    let behind : (n : ℕ) → (k : ℕ) × (suc k ≤ most)
    × (moment (suc n) ≡ suc k + moment n) = tracked-suc step step' R most simulates a b related in
    let same : (n : ℕ) → moment (n + 1) ≡ moment (suc n) = λ n. let e : n + 1 ≡ suc n = omega arith in ap moment e in
    record {
      moment = moment;
      rising = λ n. omega (arith, same n, (behind n).2);
      within = λ n. omega (arith, same n, (behind n).1, (behind n).2);
      related = λ n. (tracked step step' R most simulates a b related n).1;
    }

-- ---- from the relation to what follows from it

-- what R gives holds at the same moments
pub keeps_step_by : {State Cause State' Cause' : Type 0} (R R' : ℕ → Run State Cause → Run State' Cause' → Type 0)
    → ((i : ℕ) (a : Run State Cause) (b : Run State' Cause') → R i a b → R' i a b)
    → (most : ℕ → ℕ) (first : ℕ → Run State Cause) (second : ℕ → Run State' Cause') → KeepsStep R most first second
    → KeepsStep R' most first second
keeps_step_by R R' gives most first second kept =
    record {
      moment = kept.moment;
      rising = kept.rising;
      within = kept.within;
      related =
          λ i. gives i _ _ (kept.related i);
    }

-- what rises from each number to the next rises from each to any later one
rises-by : (f : ℕ → ℕ) → ((i : ℕ) → f i < f (i + 1)) → (m d : ℕ) → f m < f (m + suc d)
rises-by f rising m zero = let e : m + 1 ≡ m + suc zero = omega arith in subst (λ k. f m < f k) e (rising m)
rises-by f rising m (suc d) =
    let e : (m + suc d) + 1 ≡ m + suc (suc d) = omega arith in
    let before : f m < f (m + suc d) = rises-by f rising m d in
    let last : f (m + suc d) < f ((m + suc d) + 1) = rising (m + suc d) in
    let both : f m < f ((m + suc d) + 1) = omega (arith, before, last) in
    subst (λ k. f m < f k) e both

pub rises : (f : ℕ → ℕ) → ((i : ℕ) → f i < f (i + 1)) → (m n : ℕ) → m < n → f m < f n
rises f rising m n less =
    let e : m + suc (n - suc m) ≡ n = omega arith in
    subst (λ k. f m < f k) e (rises-by f rising m (n - suc m))

-- what grows by at most k from each number to the next grows by at most d * k in d of them
grows-by : (f : ℕ → ℕ) (k : ℕ) → ((i : ℕ) → f (i + 1) ≤ f i + k) → (m d : ℕ) → f (m + d) ≤ f m + d * k
grows-by f k within m zero =
    let e : m + zero ≡ m = omega arith in
    let same : f (m + zero) ≡ f m = ap f e in
    omega (arith, same)
grows-by f k within m (suc d) =
    let e : (m + d) + 1 ≡ m + suc d = omega arith in
    let same : f ((m + d) + 1) ≡ f (m + suc d) = ap f e in
    let before : f (m + d) ≤ f m + d * k = grows-by f k within m d in
    let last : f ((m + d) + 1) ≤ f (m + d) + k = within (m + d) in
    let product : suc d * k ≡ d * k + k = suc-mul d k in
    omega (arith, same, before, last, product)

-- more numbers, more growth
product-grows : (d e k : ℕ) → d ≤ e → d * k ≤ e * k
product-grows d e k less =
    let sum : d + (e - d) ≡ e = omega arith in
    let parts : (d + (e - d)) * k ≡ d * k + (e - d) * k = add-mul d (e - d) k in
    let whole : (d + (e - d)) * k ≡ e * k = ap (λ n. n * k) sum in
    omega (arith, parts, whole)

grows : (f : ℕ → ℕ) (k : ℕ) → ((i : ℕ) → f (i + 1) ≤ f i + k) → (m n most : ℕ) → m < n → n ≤ m + most
    → f n ≤ f m + most * k
grows f k within m n most less near =
    let sum : m + (n - m) ≡ n = omega arith in
    let same : f (m + (n - m)) ≡ f n = ap f sum in
    let by : f (m + (n - m)) ≤ f m + (n - m) * k = grows-by f k within m (n - m) in
    let more : (n - m) * k ≤ most * k = product-grows (n - m) most k (omega arith) in
    omega (arith, same, by, more)

-- Two runs one after the other: where the second keeps step with the first and the third with the second, the third
-- keeps step with the first.
pub keeps_step_through : {State Cause State' Cause' State'' Cause'' : Type 0}
    (R : ℕ → Run State Cause → Run State' Cause' → Type 0) (R' : ℕ → Run State' Cause' → Run State'' Cause'' → Type 0)
    (most : ℕ → ℕ) (k : ℕ) (first : ℕ → Run State Cause) (second : ℕ → Run State' Cause')
    (third : ℕ → Run State'' Cause'') → KeepsStep R most first second → KeepsStep R' (λ _. k) second third
    → KeepsStep (Through second R R') (λ i. most i * k) first third
keeps_step_through R R' most k first second third one two =
    record {
      moment = λ i. two.moment (one.moment i);
      rising = λ i. rises two.moment two.rising (one.moment i) (one.moment (i + 1)) (one.rising i);
      within = λ i. grows two.moment k two.within (one.moment i) (one.moment (i + 1)) (most i) (one.rising i)
          (one.within i);
      related = λ i. (one.moment i, one.related i, two.related (one.moment i));
    }

-- runs that look the same as one between them look the same
pub same_through : {State Cause State' Cause' State'' Cause'' : Type 0} (a : Run State Cause) (b : Run State' Cause')
    (c : Run State'' Cause'') → Same a b → Same b c → Same a c
same_through (Running _ _) (Running _ _) (Running _ _) one two = one ∙ two
same_through (Ended _ _) (Ended _ _) (Ended _ _) one two = (one.0 ∙ two.0, one.1 ∙ two.1)
same_through (Running _ _) (Running _ _) (Ended _ _) one two = two
same_through (Running _ _) (Running _ _) (Stopped _ _) one two = two
same_through (Ended _ _) (Ended _ _) (Running _ _) one two = two
same_through (Ended _ _) (Ended _ _) (Stopped _ _) one two = two
same_through (Running _ _) (Ended _ _) c one two = absurd one
same_through (Running _ _) (Stopped _ _) c one two = absurd one
same_through (Ended _ _) (Running _ _) c one two = absurd one
same_through (Ended _ _) (Stopped _ _) c one two = absurd one
same_through (Stopped _ _) b c one two = absurd one

-- ---- the list of moments

-- the first n + 1 moments, as a list
moments_of : (ℕ → ℕ) → ℕ → List ℕ
moments_of moment zero = moment 0 ∷ []
moments_of moment (suc n) = moments_of moment n ++ moment (suc n) ∷ []

length-moments : (moment : ℕ → ℕ) (n : ℕ) → length (moments_of moment n) ≡ suc n
unfolding moments_of
length-moments moment zero = refl
length-moments moment (suc n) = length_push (moments_of moment n) (moment (suc n))
    ∙ omega (arith, length-moments moment n)

-- the cases of a number up to suc n
up_to_last : (i n : ℕ) → i ≤ suc n → (i ≤ n) ⊎ (i ≡ suc n)
up_to_last i n h = grind arith

moment_at : (moment : ℕ → ℕ) (n i : ℕ) → i ≤ n → slice_index (moments_of moment n) i ≡ moment i
unfolding moments_of
moment_at moment zero i h = let e : i ≡ 0 = omega arith in
    subst (λ j. slice_index (moment 0 ∷ []) j ≡ moment j) (sym e) refl
moment_at moment (suc n) i h =
    let ms : List ℕ = moments_of moment n in
    let m : ℕ = moment (suc n) in
    let count : length ms ≡ suc n = length-moments moment n in
    let last : slice_index (ms ++ m ∷ []) (suc n) ≡ m = ap (λ k. slice_index (ms ++ m ∷ []) k) (sym count)
    ∙ get_or-append_seam ms m [] 0 in
    elim (up_to_last i n h) [
      | inl le ↦ get_or-append ms (m ∷ []) 0 i (omega (arith, count)) ∙ moment_at moment n i le
      | inr e ↦ subst (λ j. slice_index (ms ++ m ∷ []) j ≡ moment j) (sym e) last
    ]

-- Where what is related looks the same, there is the list of moments for each n.
pub looks_the_same : {State Cause State' Cause' : Type 0} (most : ℕ → ℕ) (first : ℕ → Run State Cause)
    (second : ℕ → Run State' Cause') → KeepsStep (λ _. Same) most first second → (n : ℕ) → LooksTheSame first second n
looks_the_same most first second kept n =
    let at : (i : ℕ) → i ≤ n → slice_index (moments_of kept.moment n) i ≡ kept.moment i = moment_at kept.moment n in
    record {
      moments = moments_of kept.moment n;
      count = length-moments kept.moment n ∙ omega arith;
      rising = λ i h. omega (arith, at i (omega arith), at (i + 1) (omega arith), kept.rising i);
      same = λ i h. subst (λ m. Same (first i) (second m)) (sym (at i h)) (kept.related i);
    }

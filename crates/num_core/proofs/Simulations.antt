-- From a simulation of single steps to whole runs, where each step has a bound of its own; and two such passes one
-- after the other.
use Rattle.std.proofs.Common.{◌≡◌, ◌∙◌, ◌⊎◌, inl, inr, ℕ, zero, suc, ◌+◌, ◌-◌, ◌<◌, ◌≤◌, refl, sym, ap, arith, subst}
use Rattle.num_core.specs.Run.{KeepsStep, Run, Streams, Through, after}
use Rattle.num_core.specs.Simulation.{IsBetween, KeepsStepBy, SimulatesBy, StepsBy, sum_from}
use Rattle.num_core.proofs.Runs.{after-add, rises}

-- the moment of the second run that belongs to the first after n steps, where the relation holds
tracked : {State Cause State' Cause' : Type 0} (step : State → Streams → Run State Cause)
    (step' : State' → Streams → Run State' Cause') (R : Run State Cause → Run State' Cause' → Type 0)
    (most : Run State Cause → ℕ) (Q : Run State Cause → Run State' Cause' → Type 0) → SimulatesBy step step' R most Q
    → (a : Run State Cause) (b : Run State' Cause') → R a b → (n : ℕ)
    → (moment : ℕ) × R (after step n a) (after step' moment b)
tracked step step' R most Q simulates a b related zero = (0, related)
tracked step step' R most Q simulates a b related (suc n) =
    let before : (moment : ℕ) × R (after step n a) (after step' moment b) =
    tracked step step' R most Q simulates a b related n in
    let next : StepsBy step step' R most Q (after step n a) (after step' before.0 b) = simulates _ _ before.1 in (
      next.count + before.0,
      subst (R (after step (suc n) a)) (sym (after-add step' next.count before.0 b)) next.related,
    )

-- the next moment lies one to so many steps behind, and Q holds up to it
tracked-suc : {State Cause State' Cause' : Type 0} (step : State → Streams → Run State Cause)
    (step' : State' → Streams → Run State' Cause') (R : Run State Cause → Run State' Cause' → Type 0)
    (most : Run State Cause → ℕ) (Q : Run State Cause → Run State' Cause' → Type 0)
    (simulates : SimulatesBy step step' R most Q) (a : Run State Cause) (b : Run State' Cause') (related : R a b)
    (n : ℕ)
    → (k : ℕ) × (0 < k) × (k ≤ most (after step n a))
    × ((tracked step step' R most Q simulates a b related (suc n)).0
    ≡ k + (tracked step step' R most Q simulates a b related n).0)
    × ((j : ℕ) → j < k
    → Q (after step n a) (after step' j (after step' (tracked step step' R most Q simulates a b related n).0 b)))
unfolding tracked
tracked-suc {State} {Cause} {State'} {Cause'} step step' R most Q simulates a b related n =
    let before : (moment : ℕ) × R (after step n a) (after step' moment b) =
    tracked step step' R most Q simulates a b related n in
    let next : StepsBy step step' R most Q (after step n a) (after step' before.0 b) = simulates _ _ before.1 in
    (next.count, next.some, next.few, refl, next.between)

-- Where single steps are simulated, whole runs are, from where the first run's state is first met.
pub keeps_step_by_run : {State Cause State' Cause' : Type 0} (step : State → Streams → Run State Cause)
    (step' : State' → Streams → Run State' Cause') (R : Run State Cause → Run State' Cause' → Type 0)
    (most : Run State Cause → ℕ) (Q : Run State Cause → Run State' Cause' → Type 0)
    (simulates : SimulatesBy step step' R most Q) (a : Run State Cause) (b : Run State' Cause') (count : ℕ)
    → R a (after step' count b) → KeepsStepBy step step' R most Q a b
keeps_step_by_run {State} {Cause} {State'} {Cause'} step step' R most Q simulates a b count related =
    let c : Run State' Cause' = after step' count b in
    let at : ℕ → ℕ = λ n. (tracked step step' R most Q simulates a c related n).0 in
    let behind : (n : ℕ) → (k : ℕ) × (0 < k) × (k ≤ most (after step n a)) × (at (suc n) ≡ k + at n)
    × ((j : ℕ) → j < k → Q (after step n a) (after step' j (after step' (at n) c))) =
    tracked-suc step step' R most Q simulates a c related in
    let same : (n : ℕ) → at (n + 1) ≡ at (suc n) = λ n. let e : n + 1 ≡ suc n = omega arith in ap at e in
    record {
      keeps = record {
        moment = λ n. at n + count;
        rising = λ n. omega (arith, same n, (behind n).1, (behind n).3);
        within = λ n. omega (arith, same n, (behind n).2, (behind n).3);
        related = λ n. subst (R (after step n a)) (sym (after-add step' (at n) count b))
            (tracked step step' R most Q simulates a c related n).1;
      };
      between = λ i j low high.
          let d : ℕ = j - (at i + count) in
          let less : d < (behind i).0 = omega (arith, same i, (behind i).3, low, high) in
          let sum : d + (at i + count) ≡ j = omega (arith, low) in
          let there : after step' d (after step' (at i) c) ≡ after step' j b =
          ap (after step' d) (sym (after-add step' (at i) count b)) ∙ sym (after-add step' d (at i + count) b)
          ∙ ap (λ n. after step' n b) sum in
          subst (Q (after step i a)) there ((behind i).4 d less);
    }

-- ---- two passes, one after the other

-- what grows by at most a bound of each number grows by at most their sum
grows_by_sum : (f most : ℕ → ℕ) → ((i : ℕ) → f (i + 1) ≤ f i + most i) → (m d : ℕ)
    → f (m + d) ≤ f m + sum_from most m d
grows_by_sum f most within m zero =
    let e : m + zero ≡ m = omega arith in
    let same : f (m + zero) ≡ f m = ap f e in
    omega (arith, same)
grows_by_sum f most within m (suc d) =
    let e : suc m + d ≡ m + suc d = omega arith in
    let e' : m + 1 ≡ suc m = omega arith in
    let same : f (suc m + d) ≡ f (m + suc d) = ap f e in
    let same' : f (m + 1) ≡ f (suc m) = ap f e' in
    let first : f (m + 1) ≤ f m + most m = within m in
    let rest : f (suc m + d) ≤ f (suc m) + sum_from most (suc m) d = grows_by_sum f most within (suc m) d in
    omega (arith, same, same', first, rest)

grows_between : (f most : ℕ → ℕ) → ((i : ℕ) → f (i + 1) ≤ f i + most i) → (m n total : ℕ) → m < n
    → sum_from most m (n - m) ≤ total → f n ≤ f m + total
grows_between f most within m n total less few =
    let sum : m + (n - m) ≡ n = omega arith in
    let same : f (m + (n - m)) ≡ f n = ap f sum in
    let by : f (m + (n - m)) ≤ f m + sum_from most m (n - m) = grows_by_sum f most within m (n - m) in
    omega (arith, same, by, few)

-- The third run keeps step with the first. A step's bound is any that covers the bounds of the second run's steps from
-- its moment on to the next.
pub keeps_step_through_by : {State Cause State' Cause' State'' Cause'' : Type 0}
    (R : ℕ → Run State Cause → Run State' Cause' → Type 0) (R' : ℕ → Run State' Cause' → Run State'' Cause'' → Type 0)
    (most most' total : ℕ → ℕ) (first : ℕ → Run State Cause) (second : ℕ → Run State' Cause')
    (third : ℕ → Run State'' Cause'') (one : KeepsStep R most first second) (two : KeepsStep R' most' second third)
    → ((i : ℕ) → sum_from most' (one.moment i) (one.moment (i + 1) - one.moment i) ≤ total i)
    → KeepsStep (Through second R R') total first third
keeps_step_through_by R R' most most' total first second third one two few =
    record {
      moment = λ i. two.moment (one.moment i);
      rising = λ i. rises two.moment two.rising (one.moment i) (one.moment (i + 1)) (one.rising i);
      within = λ i. grows_between two.moment most' two.within (one.moment i) (one.moment (i + 1)) (total i)
          (one.rising i) (few i);
      related = λ i. (one.moment i, one.related i, two.related (one.moment i));
    }

either_side : (x y : ℕ) → (x ≤ y) ⊎ (y < x)
either_side x y = grind arith

-- one step more, before which it lies between two
one_further : (moment : ℕ → ℕ) (low d j : ℕ) → (j < moment (low + d) → IsBetween moment low (low + d) j)
    → j < moment (low + suc d) → (moment (low + d) ≤ j) ⊎ (j < moment (low + d)) → IsBetween moment low (low + suc d) j
one_further moment low d j before upto (inl above) =
    let e : low + suc d ≡ low + d + 1 = omega arith in
    record {
      k = low + d;
      above = omega arith;
      below = omega arith;
      from = above;
      upto = subst (λ n. j < moment n) e upto;
    }
one_further moment low d j before upto (inr below) =
    let there : IsBetween moment low (low + d) j = before below in
    let less : there.k < low + d = there.below in
    record {
      k = there.k;
      above = there.above;
      below = omega (arith, less);
      from = there.from;
      upto = there.upto;
    }

-- a step from one moment on, up to a later one, lies between two that follow each other
between_by : (moment : ℕ → ℕ) (low d j : ℕ) → moment low ≤ j → j < moment (low + d)
    → IsBetween moment low (low + d) j
between_by moment low zero j from upto =
    let e : low + zero ≡ low = omega arith in
    let same : moment (low + zero) ≡ moment low = ap moment e in
    absurd (omega (arith, same, from, upto))
between_by moment low (suc d) j from upto =
    one_further moment low d j (λ below. between_by moment low d j from below) upto
    (either_side (moment (low + d)) j)

pub is_between : (moment : ℕ → ℕ) (low high j : ℕ) → low ≤ high → moment low ≤ j → j < moment high
    → IsBetween moment low high j
is_between moment low high j less from upto =
    let e : high ≡ low + (high - low) = omega arith in
    subst (λ n. IsBetween moment low n j) (sym e)
    (between_by moment low (high - low) j from (subst (λ n. j < moment n) e upto))

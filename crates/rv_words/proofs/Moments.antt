-- Where single steps are simulated, whole runs are, from a moment on that is known.
use Rattle.std.proofs.Common.{◌≡◌, ◌∙◌, ℕ, zero, suc, ◌+◌, ◌-◌, ◌<◌, ◌≤◌, refl, sym, ap, arith, subst}
use Rattle.num_core.specs.Run.{Run, Streams, after}
use Rattle.num_core.specs.Simulation.{KeepsStepBy, SimulatesBy, StepsBy}
use Rattle.num_core.proofs.Runs.{after-add}

-- the moment of the second run that belongs to the first after n steps, counted from one at which the relation holds
moment_of : {State Cause State' Cause' : Type 0} (step : State → Streams → Run State Cause)
    (step' : State' → Streams → Run State' Cause') (R : Run State Cause → Run State' Cause' → Type 0)
    (most : Run State Cause → ℕ) (Q : Run State Cause → Run State' Cause' → Type 0) → SimulatesBy step step' R most Q
    → (a : Run State Cause) (b : Run State' Cause') → R a b → (n : ℕ)
    → (moment : ℕ) × R (after step n a) (after step' moment b)
moment_of step step' R most Q simulates a b related zero = (0, related)
moment_of step step' R most Q simulates a b related (suc n) =
    let before : (moment : ℕ) × R (after step n a) (after step' moment b) =
    moment_of step step' R most Q simulates a b related n in
    let next : StepsBy step step' R most Q (after step n a) (after step' before.0 b) = simulates _ _ before.1 in (
      next.count + before.0,
      subst (R (after step (suc n) a)) (sym (after-add step' next.count before.0 b)) next.related,
    )

-- it is the first for no step
moment_zero : {State Cause State' Cause' : Type 0} (step : State → Streams → Run State Cause)
    (step' : State' → Streams → Run State' Cause') (R : Run State Cause → Run State' Cause' → Type 0)
    (most : Run State Cause → ℕ) (Q : Run State Cause → Run State' Cause' → Type 0)
    (simulates : SimulatesBy step step' R most Q) (a : Run State Cause) (b : Run State' Cause') (related : R a b)
    → (moment_of step step' R most Q simulates a b related zero).0 ≡ 0
unfolding moment_of
moment_zero step step' R most Q simulates a b related = refl

-- and the next lies one to so many steps behind
moment_next : {State Cause State' Cause' : Type 0} (step : State → Streams → Run State Cause)
    (step' : State' → Streams → Run State' Cause') (R : Run State Cause → Run State' Cause' → Type 0)
    (most : Run State Cause → ℕ) (Q : Run State Cause → Run State' Cause' → Type 0)
    (simulates : SimulatesBy step step' R most Q) (a : Run State Cause) (b : Run State' Cause') (related : R a b)
    (n : ℕ)
    → (k : ℕ) × (0 < k) × (k ≤ most (after step n a))
    × ((moment_of step step' R most Q simulates a b related (suc n)).0
    ≡ k + (moment_of step step' R most Q simulates a b related n).0)
    × ((j : ℕ) → j < k
    → Q (after step n a) (after step' j (after step' (moment_of step step' R most Q simulates a b related n).0 b)))
unfolding moment_of
moment_next {State} {Cause} {State'} {Cause'} step step' R most Q simulates a b related n =
    let before : (moment : ℕ) × R (after step n a) (after step' moment b) =
    moment_of step step' R most Q simulates a b related n in
    let next : StepsBy step step' R most Q (after step n a) (after step' before.0 b) = simulates _ _ before.1 in
    (next.count, next.some, next.few, refl, next.between)

-- The first moment is the one at which the first run's state is met.
pub keeps_step_at : {State Cause State' Cause' : Type 0} (step : State → Streams → Run State Cause)
    (step' : State' → Streams → Run State' Cause') (R : Run State Cause → Run State' Cause' → Type 0)
    (most : Run State Cause → ℕ) (Q : Run State Cause → Run State' Cause' → Type 0)
    (simulates : SimulatesBy step step' R most Q) (a : Run State Cause) (b : Run State' Cause') (count : ℕ)
    → R a (after step' count b) → (k : KeepsStepBy step step' R most Q a b) × (k.keeps.moment 0 ≡ count)
keeps_step_at {State} {Cause} {State'} {Cause'} step step' R most Q simulates a b count related =
    let c : Run State' Cause' = after step' count b in
    let at : ℕ → ℕ = λ n. (moment_of step step' R most Q simulates a c related n).0 in
    let behind : (n : ℕ) → (k : ℕ) × (0 < k) × (k ≤ most (after step n a)) × (at (suc n) ≡ k + at n)
    × ((j : ℕ) → j < k → Q (after step n a) (after step' j (after step' (at n) c))) =
    moment_next step step' R most Q simulates a c related in
    let same : (n : ℕ) → at (n + 1) ≡ at (suc n) = λ n. let e : n + 1 ≡ suc n = omega arith in ap at e in
    let first : at 0 ≡ 0 = moment_zero step step' R most Q simulates a c related in (
      record {
        keeps = record {
          moment = λ n. at n + count;
          rising = λ n. omega (arith, same n, (behind n).1, (behind n).3);
          within = λ n. omega (arith, same n, (behind n).2, (behind n).3);
          related = λ n. subst (R (after step n a)) (sym (after-add step' (at n) count b))
              (moment_of step step' R most Q simulates a c related n).1;
        };
        between = λ i j low high.
            let d : ℕ = j - (at i + count) in
            let less : d < (behind i).0 = omega (arith, same i, (behind i).3, low, high) in
            let sum : d + (at i + count) ≡ j = omega (arith, low) in
            let there : after step' d (after step' (at i) c) ≡ after step' j b =
            ap (after step' d) (sym (after-add step' (at i) count b)) ∙ sym (after-add step' d (at i + count) b)
            ∙ ap (λ n. after step' n b) sum in
            subst (Q (after step i a)) there ((behind i).4 d less);
      },
      ap (λ n. n + count) first ∙ omega arith,
    )

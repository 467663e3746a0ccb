use Rattle.std.proofs.Common.{◌≡◌, ◌∙◌, ℕ, List, All, ◌+◌, Ok, Err, Result, IfOk, slice_index_or, ap, subst, sym}
use Rattle.least_flow.specs.Solution.{AreTold}
use Rattle.ty_terms.specs.Canon.{is_reference_type}
use Rattle.il_stacks.specs.declared.effect.Handler.{Handler}
use Rattle.il_stacks.specs.declared.effect.Step.{Step}
use Rattle.il_stacks.specs.declared.stack.Stack.{Stack}
use Rattle.il_stacks.specs.Bounds.{IsWithin, types_met}
use Rattle.il_stacks.specs.Flow.{Passes, passed}
use Rattle.il_stacks.specs.Told.{IsRisingBelow}
use Rattle.il_stacks.proofs.Passing.{passed_within, told_here, told_nowhere}
use Rattle.il_stacks.proofs.flow.TypingFlow.pass.Goals as goal

if_ok : {A E : Type 0} (r : Result A E) (P Q : A → Type 0) → ((a : A) → P a → Q a) → IfOk r P → IfOk r Q
if_ok (Ok a) P Q f h = f a h
if_ok (Err e) P Q f h = tt

pub returns-in-Some-clause-told : goal.returns-in-Some-clause-told
returns-in-Some-clause-told c =
    let steps : List Step = c.args.self.now.steps.now in
    let handlers : List Handler = c.args.self.now.handlers.now in
    let objects = is_reference_type c.args.self.now.values.now in
    let place : ℕ = c.args.place in
    let known : Stack = c.args.known.now in
    let n : ℕ = c.in-Some.index in
    let step : Step = c.index-self-index.result in
    let is : slice_index_or steps n step ≡ step = sym c.index-self-index.is in
    let at : step.at ≡ place = subst (λ (s : Step). s.at ≡ place) is (c.in-Some.ensures.found step) in
    if_ok c.passed_on.result (λ facts. facts.items ≡ passed objects handlers (slice_index_or steps n step) known)
    (λ facts. AreTold IsRisingBelow (Passes objects steps handlers place known) facts.items)
    (λ facts e. told_here objects steps handlers place n known facts.items step c.args.self.now.rising
    c.in-Some.ensures.within is at (e ∙ ap (λ (s : Step). passed objects handlers s known) is))
    c.passed_on.ensures

pub returns-in-Some-clause-within : goal.returns-in-Some-clause-within
returns-in-Some-clause-within c =
    let steps : List Step = c.args.self.now.steps.now in
    let handlers : List Handler = c.args.self.now.handlers.now in
    let objects = is_reference_type c.args.self.now.values.now in
    let known : Stack = c.args.known.now in
    let n : ℕ = c.in-Some.index in
    let step : Step = c.index-self-index.result in
    let is : slice_index_or steps n step ≡ step = sym c.index-self-index.is in
    if_ok c.passed_on.result (λ facts. facts.items ≡ passed objects handlers (slice_index_or steps n step) known)
    (λ facts. (depth : ℕ) → IsWithin (types_met steps handlers) depth known
    → All (λ (f : ℕ × Stack). IsWithin (types_met steps handlers) (depth + 1) f.1) facts.items)
    (λ facts e depth h.
    subst (All (λ (f : ℕ × Stack). IsWithin (types_met steps handlers) (depth + 1) f.1))
    (sym (e ∙ ap (λ (s : Step). passed objects handlers s known) is))
    (passed_within objects steps handlers step depth known c.args.self.now.sound
    (n, c.in-Some.ensures.within, is) h))
    c.passed_on.ensures

pub returns-in-None-clause-told : goal.returns-in-None-clause-told
returns-in-None-clause-told c =
    let steps : List Step = c.args.self.now.steps.now in
    let handlers : List Handler = c.args.self.now.handlers.now in
    let objects = is_reference_type c.args.self.now.values.now in
    subst (AreTold IsRisingBelow (Passes objects steps handlers c.args.place c.args.known.now))
    (sym c.new.ensures.items)
    (told_nowhere objects steps handlers c.args.place c.args.known.now c.in-None.ensures.none)

use Rattle.std.proofs.Common.{◌≡◌, inl, inr, refl, ◌+◌, ◌<◌, ◌∙◌, ℕ, List, false, sym, subst}
use Rattle.ty_terms.specs.declared.ty.Ty.{Ty}
use Rattle.il_stacks.specs.declared.stack.Stack.{Stack}
use Rattle.il_stacks.specs.Bounds.{IsWithin, stack_rank, types_met}
use Rattle.il_stacks.specs.BoundLaws.{joined_within}
use Rattle.il_stacks.specs.Slots.{is_below}
use Rattle.il_stacks.specs.SlotLaws.{joined_grows, joined_least, joined_told, rising_joined}
use Rattle.il_stacks.specs.Told.{IsRisingBelow}
use Rattle.il_stacks.specs.ToldLaws.{below_from}
use Rattle.il_stacks.proofs.Joining.{joined_higher}
use Rattle.il_stacks.proofs.Passing.{rising_within}
use Rattle.il_stacks.proofs.flow.TypingFlow.join.Goals as goal

pub returns-then-tells-clause-grows : goal.returns-then-tells-clause-grows
returns-then-tells-clause-grows c = inl refl

pub returns-then-tells-clause-told : goal.returns-then-tells-clause-told
returns-then-tells-clause-told c =
    let met : List Ty = types_met c.args.self.now.steps.now c.args.self.now.handlers.now in
    inr (
      rising_within met (c.args.self.now.size + 1) c.args.more c.requires.more_within,
      sym c.tells.ensures ∙ c.if-tells.true,
    )

pub returns-clause-grows : goal.returns-clause-grows
returns-clause-grows c =
    let met : List Ty = types_met c.args.self.now.steps.now c.args.self.now.handlers.now in
    subst (IsRisingBelow c.args.known.now) (sym c.in_ok-known.ensures)
    (inr (
      rising_within met c.args.self.now.size c.args.known.now c.requires.within,
      joined_grows c.args.known.now c.args.more,
    ))

pub returns-clause-told : goal.returns-clause-told
returns-clause-told c =
    let met : List Ty = types_met c.args.self.now.steps.now c.args.self.now.handlers.now in
    subst (IsRisingBelow c.args.more) (sym c.in_ok-known.ensures)
    (inr (
      rising_within met (c.args.self.now.size + 1) c.args.more c.requires.more_within,
      joined_told c.args.known.now c.args.more,
    ))

pub returns-clause-least : goal.returns-clause-least
returns-clause-least c other h h' =
    let met : List Ty = types_met c.args.self.now.steps.now c.args.self.now.handlers.now in
    let known : Stack = c.args.known.now in
    let more : Stack = c.args.more in
    subst (λ s. IsRisingBelow s other) (sym c.in_ok-known.ensures)
    (inr (
      rising_joined known more (rising_within met (c.args.self.now.size + 1) more c.requires.more_within),
      joined_least known more other (below_from known other h) (below_from more other h'),
    ))

pub returns-clause-joined : goal.returns-clause-joined
returns-clause-joined c m n h h' =
    let met : List Ty = types_met c.args.self.now.steps.now c.args.self.now.handlers.now in
    subst (IsWithin met m) (sym c.in_ok-known.ensures) (joined_within met m n c.args.known.now c.args.more h h')

pub returns-clause-higher : goal.returns-clause-higher
returns-clause-higher c rose =
    let met : List Ty = types_met c.args.self.now.steps.now c.args.self.now.handlers.now in
    let size : ℕ = c.args.self.now.size in
    let known : Stack = c.args.known.now in
    let more : Stack = c.args.more in
    let lacks : is_below more known ≡ false = sym c.tells.ensures ∙ c.if-tells.false in
    subst (λ s. stack_rank met size known < stack_rank met size s) (sym c.in_ok-known.ensures)
    (joined_higher met size size (size + 1) known more c.requires.within c.requires.within c.requires.more_within lacks)

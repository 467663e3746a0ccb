use Rattle.std.proofs.Common.{◌≡◌, ◌≢◌, ◌∙◌, ◌&&◌, Bool, true, false, refl, ap, List, [], ◌∷◌, length, arith}
use Rattle.il_stacks.specs.declared.slot.StackSlot.{StackSlot}
use Rattle.il_stacks.specs.Slots.{are_slots_below, is_slot_below}
use Rattle.il_stacks.proofs.order.tell_slots.Goals as goal

and_false : (t : Bool) → false ≡ (t && false)
and_false true = refl
and_false false = refl

other_depth : (slots others : List StackSlot) → length slots ≢ length others → false ≡ are_slots_below slots others
other_depth [] [] h = absurd (h refl)
other_depth [] (b ∷ others) h = refl
other_depth (a ∷ slots) [] h = refl
other_depth (a ∷ slots) (b ∷ others) h =
    let rest : false ≡ are_slots_below slots others = other_depth slots others (λ e. h (omega (arith, e))) in
    and_false (is_slot_below a b) ∙ ap (λ t. is_slot_below a b && t) rest

pub returns-then-slots-others : goal.returns-then-slots-others
returns-then-slots-others c = other_depth c.args.slots.now c.args.others.now c.if-slots-others.true

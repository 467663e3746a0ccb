-- A stack that is joined with one of which it doesn't tell all has a higher rank.
use Rattle.std.proofs.Common.{◌≡◌, ◌<◌, ℕ, Bool, true, false, refl, List}
use Rattle.ty_terms.specs.declared.ty.Ty.{Ty}
use Rattle.il_stacks.specs.declared.stack.Stack.{Stack}
use Rattle.il_stacks.specs.Bounds.{IsWithin, stack_rank}
use Rattle.il_stacks.specs.BoundLaws.{joined_within, rank_more}
use Rattle.il_stacks.specs.Slots.{is_below, joined}
use Rattle.il_stacks.specs.SlotLaws.{joined_grows, joined_told, transitive}

not_back : (known more : Stack) (t : Bool) → is_below (joined known more) known ≡ t → is_below more known ≡ false
    → t ≡ false
not_back known more true e lacks =
    let through : is_below more known ≡ true = transitive more (joined known more) known (joined_told known more) e in
    cc
not_back known more false e lacks = refl

pub joined_higher : (met : List Ty) (depth k n : ℕ) (known more : Stack) → IsWithin met depth known
    → IsWithin met k known → IsWithin met n more → is_below more known ≡ false
    → stack_rank met depth known < stack_rank met depth (joined known more)
joined_higher met depth k n known more deep within within' lacks =
    rank_more met depth k known (joined known more) deep (joined_within met k n known more within within')
    (joined_grows known more) (lacks_back (is_below (joined known more) known) refl)
  where
    lacks_back : (t : Bool) → is_below (joined known more) known ≡ t → is_below (joined known more) known ≡ false
    lacks_back true e = let never : true ≡ false = not_back known more true e lacks in cc
    lacks_back false e = e

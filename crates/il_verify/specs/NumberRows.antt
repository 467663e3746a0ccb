-- Arithmetic and conversion: ECMA-335 III.1.5, III.3.1 to III.3.3, III.3.27 to III.3.32, III.3.48 to III.3.67.
use Rattle.std.specs.Prelude.{Bool, ◌&&◌, [], ◌∷◌}
use Rattle.il_stacks.specs.Effects.{agreed}
use Rattle.il_stacks.specs.declared.effect.Results.TheVariants.{Always, SameNumber, AgreedNumber, FirstNumber}
use Rattle.il_stacks.specs.declared.slot.StackSlot.{StackSlot}
use Rattle.il_verify.specs.Actions.{NumberAction, Combine, Shift, Negate, Complement, Convert, ConvertChecked}
use Rattle.il_verify.specs.Kinds.{slot_of_integer}
use Rattle.il_verify.specs.Row.{Row, is_number, is_index, is_usable, taking, taking_both}

abbrev pub agree : StackSlot → StackSlot → Bool
agree a b = is_usable (agreed a b)

abbrev pub number_row : NumberAction → Row
number_row (Combine operation) = taking_both agree AgreedNumber
number_row (Shift operation) = taking_both (λ number amount. is_number number && is_index amount) FirstNumber
number_row Negate = taking (is_number ∷ []) SameNumber
number_row Complement = taking (is_number ∷ []) SameNumber
number_row (Convert to) = taking (is_number ∷ []) (Always (slot_of_integer to))
number_row (ConvertChecked sign to) = taking (is_number ∷ []) (Always (slot_of_integer to))

-- Compare and branch: ECMA-335 III.1.5, III.3.5 to III.3.26, III.3.66.
use Rattle.std.specs.Prelude.{Bool, true, false, ◌&&◌, ◌||◌, [], ◌∷◌}
use Rattle.il_verify.specs.Actions.{Signed, Unsigned, Comparison, Equal, Unequal, Less, Greater, LessOrEqual}
use Rattle.il_verify.specs.Actions.{GreaterOrEqual, BranchAction, Compare, Go, GoUnlessZero, GoIfZero, GoComparing}
use Rattle.il_verify.specs.Actions.{GoAmong}
use Rattle.il_verify.specs.NumberRows.{agree}
use Rattle.il_verify.specs.Row.{Row, is_number, is_int32, is_object, taking, taking_both}
use Rattle.il_stacks.specs.declared.effect.Results.TheVariants.{Nothing, Always}
use Rattle.il_stacks.specs.declared.slot.StackSlot.{StackSlot}
use Rattle.il_stacks.specs.declared.slot.StackSlot.TheVariants.{Int32}

-- `ceq` and `cgt.un` compare references, too, and so do `beq` and `bne.un`
abbrev pub compares_objects : Comparison → Bool
compares_objects Equal = true
compares_objects Unequal = true
compares_objects (Less sign) = false
compares_objects (Greater Signed) = false
compares_objects (Greater Unsigned) = true
compares_objects (LessOrEqual sign) = false
compares_objects (GreaterOrEqual sign) = false

abbrev pub branches_on_objects : Comparison → Bool
branches_on_objects Equal = true
branches_on_objects Unequal = true
branches_on_objects (Less sign) = false
branches_on_objects (Greater sign) = false
branches_on_objects (LessOrEqual sign) = false
branches_on_objects (GreaterOrEqual sign) = false

-- two numbers that agree, or two references where these are compared, too
abbrev pub comparable : Bool → StackSlot → StackSlot → Bool
comparable objects a b = agree a b || (objects && is_object a && is_object b)

abbrev pub branch_row : BranchAction → Row
branch_row (Compare comparison) = taking_both (comparable (compares_objects comparison)) (Always Int32)
branch_row (Go target) = taking [] Nothing
branch_row (GoUnlessZero target) = taking ((λ slot. is_number slot || is_object slot) ∷ []) Nothing
branch_row (GoIfZero target) = taking ((λ slot. is_number slot || is_object slot) ∷ []) Nothing
branch_row (GoComparing comparison target) = taking_both (comparable (branches_on_objects comparison)) Nothing
branch_row (GoAmong targets) = taking (is_int32 ∷ []) Nothing

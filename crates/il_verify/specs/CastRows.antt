-- Boxing and casts: ECMA-335 III.4.1, III.4.3, III.4.6, III.4.32, III.4.33.
use Rattle.std.specs.Prelude.{if◌then◌else◌, [], ◌∷◌}
use Rattle.il_verify.specs.Actions.{CastAction, Box, Unbox, UnboxAny, CastClass, IsInstance}
use Rattle.il_verify.specs.Kinds.{is_value, slot_of, may_store}
use Rattle.il_verify.specs.PlaceRows.{by_type}
use Rattle.il_verify.specs.Row.{Row, is_object, taking, never, misnamed}
use Rattle.il_verify.specs.Scope.{Scope}
use Rattle.il_stacks.specs.declared.effect.Results.TheVariants.{Always}
use Rattle.il_stacks.specs.declared.slot.StackSlot.TheVariants.{Refs, Pointer, Conflict}

-- a boxed value is an object of its value type; only a value type is unboxed to a pointer
abbrev pub cast_row : Scope → CastAction → Row
cast_row scope (Box token) =
    by_type scope token (misnamed 1 (Always Conflict)) (λ ty.
    taking ((λ slot. may_store scope.world slot ty) ∷ []) (Always (Refs (ty ∷ []))))
cast_row scope (Unbox token) =
    by_type scope token (misnamed 1 (Always Conflict)) (λ ty.
    if is_value scope.world ty then taking (is_object ∷ []) (Always (Pointer ty)) else never 1 (Always (Pointer ty)))
cast_row scope (UnboxAny token) =
    by_type scope token (misnamed 1 (Always Conflict)) (λ ty. taking (is_object ∷ []) (Always (slot_of scope.world ty)))
cast_row scope (CastClass token) =
    by_type scope token (misnamed 1 (Always Conflict)) (λ ty. taking (is_object ∷ []) (Always (Refs (ty ∷ []))))
cast_row scope (IsInstance token) =
    by_type scope token (misnamed 1 (Always Conflict)) (λ ty. taking (is_object ∷ []) (Always (Refs (ty ∷ []))))

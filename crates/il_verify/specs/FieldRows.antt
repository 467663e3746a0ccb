-- Fields and statics: ECMA-335 III.4.10, III.4.11, III.4.14, III.4.15, III.4.28, III.4.30.
use Rattle.std.specs.Prelude.{ℕ, Bool, false, ◌||◌, if◌then◌else◌, [], ◌∷◌}
use Rattle.std.specs.Option.{option_map_or}
use Rattle.ty_terms.specs.declared.ty.Ty.{Ty}
use Rattle.ty_names.specs.Modules.{World}
use Rattle.il_stacks.specs.Types.{same_type}
use Rattle.il_verify.specs.Actions.{FieldAction, ReadField, AddressOfField, WriteField, ReadStatic, AddressOfStatic}
use Rattle.il_verify.specs.Actions.{WriteStatic}
use Rattle.il_verify.specs.Kinds.{is_value, all_fit, slot_of, may_store}
use Rattle.il_verify.specs.Row.{Row, taking, giving, misnamed}
use Rattle.il_verify.specs.Scope.{Scope, Member, instance_field, static_field}
use Rattle.il_stacks.specs.declared.effect.Results.TheVariants.{Nothing, Always}
use Rattle.il_stacks.specs.declared.slot.StackSlot.{StackSlot}
use Rattle.il_stacks.specs.declared.slot.StackSlot.TheVariants.{Refs, Pointer, Value, Conflict}

abbrev pub is_pointer_to : Ty → StackSlot → Bool
is_pointer_to ty (Pointer other) = same_type other ty
is_pointer_to ty _ = false

abbrev pub is_value_of : Ty → StackSlot → Bool
is_value_of ty (Value other) = same_type other ty
is_value_of ty _ = false

abbrev pub are_objects_of : World → Ty → StackSlot → Bool
are_objects_of world ty (Refs types) = all_fit world types ty
are_objects_of world ty _ = false

-- where the members of a type's object are found: by a reference, or of a value type by a pointer to exactly it
abbrev pub leads_to : World → Ty → StackSlot → Bool
leads_to world owner slot = if is_value world owner then is_pointer_to owner slot else are_objects_of world owner slot

-- a field is read from a value, too
abbrev pub has_fields : World → Ty → StackSlot → Bool
has_fields world owner slot = leads_to world owner slot || is_value_of owner slot

abbrev pub by_field : Scope → ℕ → Row → (Member → Row) → Row
by_field scope token otherwise row = option_map_or row (instance_field scope token) otherwise

abbrev pub by_static : Scope → ℕ → Row → (Member → Row) → Row
by_static scope token otherwise row = option_map_or row (static_field scope token) otherwise

abbrev pub field_row : Scope → FieldAction → Row
field_row scope (ReadField token) =
    by_field scope token (misnamed 1 (Always Conflict)) (λ member.
    taking (has_fields scope.world member.name.owner ∷ []) (Always (slot_of scope.world member.ty)))
field_row scope (AddressOfField token) =
    by_field scope token (misnamed 1 (Always Conflict)) (λ member.
    taking (leads_to scope.world member.name.owner ∷ []) (Always (Pointer member.ty)))
field_row scope (WriteField token) =
    by_field scope token (misnamed 2 Nothing) (λ member.
    taking (leads_to scope.world member.name.owner ∷ (λ slot. may_store scope.world slot member.ty) ∷ []) Nothing)
field_row scope (ReadStatic token) =
    by_static scope token (misnamed 0 (Always Conflict)) (λ member. giving (slot_of scope.world member.ty))
field_row scope (AddressOfStatic token) =
    by_static scope token (misnamed 0 (Always Conflict)) (λ member. giving (Pointer member.ty))
field_row scope (WriteStatic token) =
    by_static scope token (misnamed 1 Nothing) (λ member.
    taking ((λ slot. may_store scope.world slot member.ty) ∷ []) Nothing)

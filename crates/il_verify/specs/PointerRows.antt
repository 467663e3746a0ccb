-- What stands behind pointers: ECMA-335 III.3.42, III.3.62, III.4.4, III.4.5, III.4.13, III.4.29.
use Rattle.std.specs.Prelude.{Bool, false, ◌&&◌, if◌then◌else◌, [], ◌∷◌}
use Rattle.ty_terms.specs.declared.ty.Ty.{Ty}
use Rattle.ty_names.specs.Modules.{World}
use Rattle.il_verify.specs.Actions.{Access, Whole, Reference, PointerAction, ReadAs, WriteAs, ReadObject, WriteObject}
use Rattle.il_verify.specs.Actions.{CopyObject, ClearObject}
use Rattle.il_verify.specs.Kinds.{Content, content_of, content_of_access, is_alike, slot_of, slot_of_integer}
use Rattle.il_verify.specs.Kinds.{is_reference, may_store}
use Rattle.il_verify.specs.PlaceRows.{by_type}
use Rattle.il_verify.specs.Row.{Row, taking, taking_both, misnamed}
use Rattle.il_verify.specs.Scope.{Scope}
use Rattle.il_stacks.specs.declared.effect.Results.{Results}
use Rattle.il_stacks.specs.declared.effect.Results.TheVariants.{Nothing, Always, ReferenceBehind}
use Rattle.il_stacks.specs.declared.slot.StackSlot.{StackSlot}
use Rattle.il_stacks.specs.declared.slot.StackSlot.TheVariants.{Pointer, View, Conflict}

-- a pointer to a place of this width and kind
abbrev pub points_to : World → Content → StackSlot → Bool
points_to world wanted (Pointer ty) = is_alike (content_of world ty) wanted
points_to world wanted _ = false

-- the same, or a view of one
abbrev pub reads_from : World → Content → StackSlot → Bool
reads_from world wanted (Pointer ty) = is_alike (content_of world ty) wanted
reads_from world wanted (View ty) = is_alike (content_of world ty) wanted
reads_from world wanted _ = false

-- what is read from a place is as the pointer's type says
abbrev pub read_from : World → StackSlot → StackSlot
read_from world (Pointer ty) = slot_of world ty
read_from world (View ty) = slot_of world ty
read_from world _ = Conflict

-- a place of this width and kind, and a slot that may be stored in it
abbrev pub writes_to : World → Content → StackSlot → StackSlot → Bool
writes_to world wanted (Pointer ty) value = is_alike (content_of world ty) wanted && may_store world value ty
writes_to world wanted _ value = false

-- two places of this width and kind, of which the first may take what stands in the second
abbrev pub copies : World → Content → StackSlot → StackSlot → Bool
copies world wanted to from =
    points_to world wanted from && writes_to world wanted to (read_from world from)

-- what is read of places like those of a type: of references as the pointer's type says, and else always the same
abbrev pub what_is_read : World → Ty → Results
what_is_read world ty = if is_reference world ty then ReferenceBehind else Always (slot_of world ty)

abbrev pub read_row : World → Access → Row
read_row world (Whole integer) =
    taking (reads_from world (content_of_access (Whole integer)) ∷ []) (Always (slot_of_integer integer))
read_row world Reference = taking (reads_from world (content_of_access Reference) ∷ []) ReferenceBehind

abbrev pub pointer_row : Scope → PointerAction → Row
pointer_row scope (ReadAs access) = read_row scope.world access
pointer_row scope (WriteAs access) = taking_both (writes_to scope.world (content_of_access access)) Nothing
pointer_row scope (ReadObject token) =
    by_type scope token (misnamed 1 (Always Conflict)) (λ ty.
    taking (reads_from scope.world (content_of scope.world ty) ∷ []) (what_is_read scope.world ty))
pointer_row scope (WriteObject token) =
    by_type scope token (misnamed 2 Nothing) (λ ty.
    taking_both (writes_to scope.world (content_of scope.world ty)) Nothing)
pointer_row scope (CopyObject token) =
    by_type scope token (misnamed 2 Nothing) (λ ty.
    taking_both (copies scope.world (content_of scope.world ty)) Nothing)
pointer_row scope (ClearObject token) =
    by_type scope token (misnamed 1 Nothing) (λ ty.
    taking (points_to scope.world (content_of scope.world ty) ∷ []) Nothing)

-- Vectors: ECMA-335 III.4.7 to III.4.9, III.4.12, III.4.20, III.4.26, III.4.27.
use Rattle.std.specs.Prelude.{Bool, true, false, ◌&&◌, if◌then◌else◌, [], ◌∷◌}
use Rattle.std.specs.List.{list_all}
use Rattle.std.specs.Option.{option_map_or}
use Rattle.ty_terms.specs.declared.ty.Ty.{Ty}
use Rattle.ty_terms.specs.declared.ty.Ty.TheVariants.{Vector}
use Rattle.ty_names.specs.Modules.{World}
use Rattle.il_verify.specs.Actions.{Access, Whole, Reference, VectorAction, NewVector, Length, ReadElementAs}
use Rattle.il_verify.specs.Actions.{WriteElementAs, ReadElement, WriteElement, AddressOfElement}
use Rattle.il_verify.specs.Kinds.{Content, content_of, content_of_access, is_alike, is_reference, slot_of}
use Rattle.il_verify.specs.Kinds.{slot_of_integer, may_stand_for, may_store}
use Rattle.il_verify.specs.FieldRows.{are_objects_of}
use Rattle.il_verify.specs.PlaceRows.{by_type}
use Rattle.il_verify.specs.Row.{Row, is_index, is_object, taking, misnamed}
use Rattle.il_verify.specs.Scope.{Scope}
use Rattle.il_stacks.specs.declared.effect.Results.TheVariants.{Nothing, Always, Element}
use Rattle.il_stacks.specs.declared.slot.StackSlot.{StackSlot}
use Rattle.il_stacks.specs.declared.slot.StackSlot.TheVariants.{NativeInt, Refs, Pointer, View, Conflict}
pub use Rattle.il_stacks.specs.Types.{element_of}

abbrev pub is_vector_type : Ty → Bool
is_vector_type ty = option_map_or (λ element. true) (element_of ty) false

-- a reference to vectors
abbrev pub is_vector : StackSlot → Bool
is_vector (Refs types) = list_all is_vector_type types
is_vector _ = false

abbrev pub has_content : World → Content → Ty → Bool
has_content world wanted ty =
    option_map_or (λ element. is_alike (content_of world element) wanted) (element_of ty) false

-- a reference to vectors whose elements are of this width and kind
abbrev pub has_elements : World → Content → StackSlot → Bool
has_elements world wanted (Refs types) = list_all (has_content world wanted) types
has_elements world wanted _ = false

-- What is read depends on the vector alone, where it is one of references.
abbrev pub read_element_row : World → Access → Row
read_element_row world (Whole integer) =
    taking (has_elements world (content_of_access (Whole integer)) ∷ is_index ∷ []) (Always (slot_of_integer integer))
read_element_row world Reference =
    taking (has_elements world (content_of_access Reference) ∷ is_index ∷ []) Element

-- what may be stored in an element; of references that is only known when the program runs
abbrev pub is_stored_as : World → Access → StackSlot → Bool
is_stored_as world (Whole integer) slot = may_stand_for world slot (slot_of_integer integer)
is_stored_as world Reference slot = is_object slot

-- The address of an element; behind `readonly.` it is only read where the elements are references (III.2.3).
abbrev pub element_address : World → Bool → Ty → StackSlot
element_address world readonly ty = if readonly && is_reference world ty then View ty else Pointer ty

abbrev pub vector_row : Scope → Bool → VectorAction → Row
vector_row scope readonly (NewVector token) =
    by_type scope token (misnamed 1 (Always Conflict)) (λ ty. taking (is_index ∷ []) (Always (Refs (Vector ty ∷ []))))
vector_row scope readonly Length = taking (is_vector ∷ []) (Always NativeInt)
vector_row scope readonly (ReadElementAs access) = read_element_row scope.world access
vector_row scope readonly (WriteElementAs access) =
    taking (has_elements scope.world (content_of_access access) ∷ is_index ∷ is_stored_as scope.world access ∷ [])
    Nothing
vector_row scope readonly (ReadElement token) =
    by_type scope token (misnamed 2 (Always Conflict)) (λ ty.
    taking (are_objects_of scope.world (Vector ty) ∷ is_index ∷ []) (Always (slot_of scope.world ty)))
vector_row scope readonly (WriteElement token) =
    by_type scope token (misnamed 3 Nothing) (λ ty.
    taking (are_objects_of scope.world (Vector ty) ∷ is_index ∷ (λ slot. may_store scope.world slot ty) ∷ []) Nothing)
vector_row scope readonly (AddressOfElement token) =
    by_type scope token (misnamed 2 (Always Conflict)) (λ ty.
    taking (are_objects_of scope.world (Vector ty) ∷ is_index ∷ []) (Always (element_address scope.world readonly ty)))

-- What an operation raises where its token and its prefix are known is among what its opcode raises.
use Rattle.std.proofs.Common.{◌≡◌, refl, Bool, true, false, not, ◌&&◌, cond, List, [], ◌∷◌}
use Rattle.std.specs.List.{list_any}
use Rattle.il_verify.specs.Actions.{VectorAction, NewVector, Length, ReadElementAs, WriteElementAs, ReadElement}
use Rattle.il_verify.specs.Actions.{WriteElement, AddressOfElement, CastAction, Box, Unbox, UnboxAny, CastClass}
use Rattle.il_verify.specs.Actions.{IsInstance, Action, AtPlaces, OnNumbers, OnBranches, ByPointers, OnFields}
use Rattle.il_verify.specs.Actions.{OnVectors}
use Rattle.il_verify.specs.Actions.{ByCasts, ByCalls, OnExceptions, Outside}
use Rattle.il_verify.specs.CallRows.{Prefix, is_readonly}
use Rattle.il_verify.specs.Raises.{Raised, NullReference, IndexOutOfRange, ArrayTypeMismatch, InvalidCast, Overflow}
use Rattle.il_verify.specs.Raises.{DivideByZero, cast_raises, is_reference_token, is_whole, raised_at, raised_by_cast}
use Rattle.il_verify.specs.Raises.{raised_by_element, raised_by_vector, raises, same_raised, vector_raises}
use Rattle.il_verify.specs.Scope.{Scope}

abbrev Has : List Raised → Raised → Type 0
Has list raised = list_any (same_raised raised) list ≡ true

-- what is tested of elements, or not, is among what is tested
element_within : (tested : Bool) (raised : Raised) → Has (raised_by_element tested) raised
    → Has (NullReference ∷ IndexOutOfRange ∷ ArrayTypeMismatch ∷ []) raised
element_within true raised h = h
element_within false NullReference h = refl
element_within false IndexOutOfRange h = refl
element_within false ArrayTypeMismatch h = refl
element_within false InvalidCast h = cc
element_within false Overflow h = cc
element_within false DivideByZero h = cc

cast_within : (reference : Bool) (raised : Raised)
    → Has (cond reference (InvalidCast ∷ []) (NullReference ∷ InvalidCast ∷ [])) raised
    → Has (NullReference ∷ InvalidCast ∷ []) raised
cast_within false raised h = h
cast_within true NullReference h = refl
cast_within true IndexOutOfRange h = cc
cast_within true ArrayTypeMismatch h = cc
cast_within true InvalidCast h = refl
cast_within true Overflow h = cc
cast_within true DivideByZero h = cc

vectors_within : (scope : Scope) (readonly : Bool) (action : VectorAction) (raised : Raised)
    → Has (vector_raises scope readonly action) raised → Has (raised_by_vector action) raised
vectors_within scope readonly (NewVector token) raised h = h
vectors_within scope readonly Length raised h = h
vectors_within scope readonly (ReadElementAs access) raised h = h
vectors_within scope readonly (WriteElementAs access) raised h = element_within (not (is_whole access)) raised h
vectors_within scope readonly (ReadElement token) raised h = h
vectors_within scope readonly (WriteElement token) raised h =
    element_within (is_reference_token scope token) raised h
vectors_within scope readonly (AddressOfElement token) raised h =
    element_within (is_reference_token scope token && not readonly) raised h

casts_within : (scope : Scope) (action : CastAction) (raised : Raised) → Has (cast_raises scope action) raised
    → Has (raised_by_cast action) raised
casts_within scope (Box token) raised h = h
casts_within scope (Unbox token) raised h = h
casts_within scope (UnboxAny token) raised h = cast_within (is_reference_token scope token) raised h
casts_within scope (CastClass token) raised h = h
casts_within scope (IsInstance token) raised h = h

pub raised_within : (scope : Scope) (prefix : Prefix) (action : Action) (raised : Raised)
    → Has (raised_at scope prefix action) raised → raises raised action ≡ true
raised_within scope prefix (AtPlaces action) raised h = h
raised_within scope prefix (OnNumbers action) raised h = h
raised_within scope prefix (OnBranches action) raised h = h
raised_within scope prefix (ByPointers action) raised h = h
raised_within scope prefix (OnFields action) raised h = h
raised_within scope prefix (OnVectors action) raised h = vectors_within scope (is_readonly prefix) action raised h
raised_within scope prefix (ByCasts action) raised h = casts_within scope action raised h
raised_within scope prefix (ByCalls action) raised h = h
raised_within scope prefix (OnExceptions action) raised h = h
raised_within scope prefix Outside raised h = h

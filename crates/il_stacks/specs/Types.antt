-- Finite sets of types, each once and in rising order, and the types of elements of vectors (ECMA-335 I.8.9.1).
use Rattle.std.specs.Prelude.{ℕ, zero, suc, Bool, true, ◌&&◌, List, [], ◌∷◌, Option, Some, None}
use Rattle.std.specs.List.{list_all, list_any, filter_map}
use Rattle.std.specs.Option.{option_map_or}
use Rattle.std.specs.Ordering.{is_eq, is_lt}
use Rattle.std.specs.declared.cmp.Ordering.{Ordering}
use Rattle.std.specs.declared.cmp.Ordering.TheVariants.{Less, Equal, Greater}
use Rattle.ty_terms.specs.declared.ty.Ty.{Ty}
use Rattle.ty_terms.specs.declared.ty.Ty.TheOpen.{Ty-F}
use Rattle.ty_terms.specs.declared.ty.Ty.TheViews.{out-Ty}
use Rattle.ty_terms.specs.Depth.{depth_of}
use Rattle.ty_terms.specs.Order.{order}

-- ---- sets

abbrev pub same_type : Ty → Ty → Bool
same_type a b = is_eq (order a b)

abbrev pub placed_by : Ordering → Ty → Ty → List Ty → List Ty → List Ty
placed_by Less ty first rest further = ty ∷ first ∷ rest
placed_by Equal ty first rest further = first ∷ rest
placed_by Greater ty first rest further = first ∷ further

-- the set with a type
abbrev pub with_type : Ty → List Ty → List Ty
with_type ty [] = ty ∷ []
with_type ty (first ∷ rest) = placed_by (order ty first) ty first rest (with_type ty rest)

-- the set with each of these types
abbrev pub union : List Ty → List Ty → List Ty
union [] set = set
union (ty ∷ types) set = union types (with_type ty set)

abbrev pub has_type : List Ty → Ty → Bool
has_type types ty = list_any (same_type ty) types

abbrev pub is_subset : List Ty → List Ty → Bool
is_subset types others = list_all (has_type others) types

abbrev pub comes_before : Ty → List Ty → Bool
comes_before ty [] = true
comes_before ty (next ∷ rest) = is_lt (order ty next)

-- each type comes before the one behind it, so a set is listed in one way alone
abbrev pub are_rising : List Ty → Bool
are_rising [] = true
are_rising (ty ∷ rest) = comes_before ty rest && are_rising rest

-- ---- elements

-- the type of the elements of a vector type
abbrev pub element_of_layer : {A : Type 0} → Ty-F A → Option A
element_of_layer (Ty-F.Vector element) = Some element
element_of_layer _ = None

abbrev pub element_of : Ty → Option Ty
element_of ty = element_of_layer (out-Ty ty)

-- the types of the elements of these vector types
abbrev pub elements_of : List Ty → List Ty
elements_of types = union (filter_map element_of types) []

-- a type with the types of its elements, of their elements, and so on
abbrev pub nested_within : ℕ → Ty → List Ty
nested_within zero ty = ty ∷ []
nested_within (suc steps) ty = ty ∷ option_map_or (nested_within steps) (element_of ty) []

abbrev pub nested : Ty → List Ty
nested ty = nested_within (depth_of ty) ty

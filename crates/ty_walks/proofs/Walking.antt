-- One step of each walk, over plain values.
use Rattle.std.proofs.Common.{◌≡◌, ◌∙◌, ◌+◌, ◌∷◌, ◌&&◌, ◌||◌, [], ℕ, suc, Bool, true, false, cond, List, map}
use Rattle.std.proofs.Common.{Option, Some, None, Result, Ok, Err, refl, ap, sym, subst, nat_eq, add-one}
use Rattle.ty_terms.specs.declared.names.TypeId.{TypeId}
use Rattle.ty_terms.specs.declared.ty.Primitive.{Primitive}
use Rattle.ty_terms.specs.declared.ty.Ty.{Ty}
use Rattle.ty_terms.specs.declared.ty.Ty.TheOpen.{Ty-F}
use Rattle.ty_terms.specs.declared.ty.Ty.TheViews.{out-Ty}
use Rattle.ty_names.specs.Modules.{World, core_of}
use Rattle.ty_load.specs.declared.fault.ResolveFault.{ResolveFault}
use Rattle.ty_load.specs.declared.fault.TypeFault.{TypeFault}
use Rattle.ty_load.specs.Bases.{closed_if, interface_indexes, is_closed_root, is_closed_within, is_interface_id}
use Rattle.ty_load.specs.Bases.{named_base_definition}
use Rattle.ty_load.specs.Primitives.{definition_of_layer}
use Rattle.ty_load.specs.Told.{IsToldIn}
use Rattle.ty_load.specs.Tokens.{and_then}
use Rattle.ty_load.specs.Walks.{any_of, base_type, fits_within, if_some, interfaces_by}
use Rattle.ty_load.specs.Walks.{interfaces_of_layer, named_if, or_then, with_arguments}
use Rattle.ty_walks.specs.Above.{fits_at_once, fits_beside}
use Rattle.ty_walks.specs.Above.{implementer, implementer_layer, interfaces_fit, one_fits, vectors_fit}

-- ---- faults go through what follows them

told_through : {A B : Type 0} (world : World) (fault : TypeFault) (found : Result A ResolveFault)
    (next : A → Result B ResolveFault) → IsToldIn {A = A} world (Err fault) found
    → IsToldIn {A = B} world (Err fault) (and_then found next)
told_through world (TypeFault.BadSig offset) found next h = ap (λ r. and_then r next) h
told_through world (TypeFault.SigOutside element) found next h = ap (λ r. and_then r next) h
told_through world (TypeFault.Unresolved number index) found next h = ap (λ r. and_then r next) h
told_through world TypeFault.Memory found next h = tt

told_or_then : (world : World) (fault : TypeFault) (found next : Result Bool ResolveFault)
    → IsToldIn {A = Bool} world (Err fault) found → IsToldIn {A = Bool} world (Err fault) (or_then found next)
told_or_then world (TypeFault.BadSig offset) found next h = ap (λ r. or_then r next) h
told_or_then world (TypeFault.SigOutside element) found next h = ap (λ r. or_then r next) h
told_or_then world (TypeFault.Unresolved number index) found next h = ap (λ r. or_then r next) h
told_or_then world TypeFault.Memory found next h = tt

-- ---- closed types

module _ (world : World) (id : TypeId) (left less : ℕ) (more : left ≡ suc less) where
  opened : is_closed_within left world id
      ≡ nat_eq id.module (core_of world)
      && (is_closed_root world id || closed_if (is_closed_within less world) (named_base_definition world id))
  opened = ap (λ n. is_closed_within n world id) more

  pub not_of_core : nat_eq id.module (core_of world) ≡ false → is_closed_within left world id ≡ false
  not_of_core h =
      opened ∙ ap (λ b. b && (is_closed_root world id
      || closed_if (is_closed_within less world) (named_base_definition world id))) h

  pub at_root : nat_eq id.module (core_of world) ≡ true → is_closed_root world id ≡ true
      → is_closed_within left world id ≡ true
  at_root h root =
      opened ∙ (λ i. h i && (root i || closed_if (is_closed_within less world) (named_base_definition world id)))

  pub goes_up : (base : Option TypeId) → nat_eq id.module (core_of world) ≡ true → is_closed_root world id ≡ false
      → named_base_definition world id ≡ base
      → is_closed_within left world id ≡ closed_if (is_closed_within less world) base
  goes_up base h root is =
      opened ∙ (λ i. h i && (root i || closed_if (is_closed_within less world) (is i)))

-- ---- interfaces

abbrev pub layer_interfaces : World → Ty → Option TypeId → List (Result Ty ResolveFault)
layer_interfaces world ty None = []
layer_interfaces world ty (Some id) = map (with_arguments ty) (interfaces_by world id)

interfaces_of_primitive : (world : World) (ty : Ty) (primitive : Primitive) (id : Option TypeId)
    → interfaces_of_layer world ty (Ty-F.Prim primitive) id ≡ layer_interfaces world ty id
interfaces_of_primitive world ty primitive None = refl
interfaces_of_primitive world ty primitive (Some id) = refl

interfaces_of_vector : (world : World) (ty element : Ty) (id : Option TypeId)
    → interfaces_of_layer world ty (Ty-F.Vector element) id ≡ []
interfaces_of_vector world ty element None = refl
interfaces_of_vector world ty element (Some id) = refl

by_implementer : (world : World) (ty : Ty) (layer : Ty-F Ty)
    → interfaces_of_layer world ty layer (definition_of_layer world layer)
    ≡ layer_interfaces world ty (implementer_layer world layer)
by_implementer world ty (Ty-F.Prim primitive) =
    interfaces_of_primitive world ty primitive (definition_of_layer {A = Ty} world (Ty-F.Prim primitive))
by_implementer world ty (Ty-F.Named id args) = refl
by_implementer world ty (Ty-F.Vector element) =
    interfaces_of_vector world ty element (definition_of_layer world (Ty-F.Vector element))
by_implementer world ty (Ty-F.ByRef target) = refl
by_implementer world ty (Ty-F.Var n) = refl
by_implementer world ty (Ty-F.MVar n) = refl
by_implementer world ty Ty-F.Canon = refl

map_after_map : {A B C : Type 0} (f : B → C) (g : A → B) (xs : List A) → map f (map g xs) ≡ map (λ x. f (g x)) xs
map_after_map f g [] = refl
map_after_map f g (x ∷ xs) = ap (λ l. f (g x) ∷ l) (map_after_map f g xs)

abbrev pub fits_if : ℕ → World → Ty → Ty → Option TypeId → Result Bool ResolveFault
fits_if left world from to None = Ok false
fits_if left world from to (Some id) = one_fits left world from to id (interface_indexes world id)

pub interfaces_are : (left : ℕ) (world : World) (from to : Ty)
    → interfaces_fit left world from to ≡ fits_if left world from to (implementer world from)
interfaces_are left world from to =
    ap (any_of (λ interface. fits_within left world interface to)) (by_implementer world from (out-Ty from))
    ∙ by (implementer world from)
  where
    by : (id : Option TypeId)
        → any_of (λ interface. fits_within left world interface to) (layer_interfaces world from id)
        ≡ fits_if left world from to id
    by None = refl
    by (Some id) =
        ap (any_of (λ interface. fits_within left world interface to))
        (map_after_map (with_arguments from) (named_if (is_interface_id world) world id) (interface_indexes world id))

-- ---- walks

or_then_assoc : (a b c : Result Bool ResolveFault) → or_then a (or_then b c) ≡ or_then (or_then a b) c
or_then_assoc (Err fault) b c = refl
or_then_assoc (Ok true) b c = refl
or_then_assoc (Ok false) b c = refl

module _ (left : ℕ) (world : World) (from to : Ty) where
  abbrev pub AboveFits : Result Bool ResolveFault
  AboveFits = and_then (base_type world from) (if_some (λ base. fits_within left world base to))

  one_step : fits_within (left + 1) world from to ≡ or_then (fits_beside left world from to) AboveFits
  one_step = ap (λ n. fits_within n world from to) (add-one left) ∙ by (fits_at_once from to)
    where
      by : (b : Bool)
          → cond b (Ok true) (or_then (vectors_fit left world from to)
          (or_then (interfaces_fit left world from to) AboveFits))
          ≡ or_then (cond b (Ok true) (or_then (vectors_fit left world from to) (interfaces_fit left world from to)))
          AboveFits
      by true = refl
      by false = or_then_assoc (vectors_fit left world from to) (interfaces_fit left world from to) AboveFits

  pub fits_now : fits_beside left world from to ≡ Ok true → fits_within (left + 1) world from to ≡ Ok true
  fits_now h = one_step ∙ ap (λ r. or_then r AboveFits) h

  pub goes_above : (base : Option Ty) → fits_beside left world from to ≡ Ok false → base_type world from ≡ Ok base
      → fits_within (left + 1) world from to ≡ if_some (λ found. fits_within left world found to) base
  goes_above base h is =
      one_step ∙ ap (λ r. or_then r AboveFits) h
      ∙ ap (λ r. and_then r (if_some (λ found. fits_within left world found to))) is

  pub fault_beside : (fault : TypeFault) → IsToldIn {A = Bool} world (Err fault) (fits_beside left world from to)
      → IsToldIn {A = Bool} world (Err fault) (fits_within (left + 1) world from to)
  fault_beside fault h =
      subst (IsToldIn {A = Bool} world (Err fault)) (sym one_step)
      (told_or_then world fault (fits_beside left world from to) AboveFits h)

  pub fault_above : (fault : TypeFault) → fits_beside left world from to ≡ Ok false
      → IsToldIn {A = Option Ty} world (Err fault) (base_type world from)
      → IsToldIn {A = Bool} world (Err fault) (fits_within (left + 1) world from to)
  fault_above fault h told =
      subst (IsToldIn {A = Bool} world (Err fault)) (sym (one_step ∙ ap (λ r. or_then r AboveFits) h))
      (told_through world fault (base_type world from) (if_some (λ found. fits_within left world found to)) told)

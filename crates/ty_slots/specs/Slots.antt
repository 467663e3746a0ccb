-- Slots: the one that a virtual method has, and those of a type. ECMA-335 I.8.10.4, II.10.3.2, II.12.2.
use Rattle.std.specs.Prelude.{◌≡◌, ℕ, zero, suc, ◌+◌, ◌==◌, ◌&&◌, Bool, false, if◌then◌else◌, List, [], ◌∷◌, ◌++◌}
use Rattle.std.specs.Prelude.{filter, length}
use Rattle.std.specs.Prelude.{not, Option, Some, None, Result, Ok}
use Rattle.ty_terms.specs.declared.names.Slot.{Slot}
use Rattle.ty_terms.specs.declared.names.TypeId.{TypeId}
use Rattle.ty_terms.specs.declared.ty.Ty.{Ty}
use Rattle.ty_names.specs.Modules.{World, tables_at}
use Rattle.ty_names.specs.Definitions.{has_new_slot}
use Rattle.ty_load.specs.declared.fault.ResolveFault.{ResolveFault}
use Rattle.ty_load.specs.Primitives.{definition_of}
use Rattle.ty_load.specs.Cycles.{all_ids}
use Rattle.ty_load.specs.Members.{same_type}
use Rattle.ty_load.specs.Tokens.{and_then}
use Rattle.ty_load.specs.Walks.{arguments, base_type, interface_types}
use Rattle.ty_load.specs.Finding.{method_variables}
use Rattle.ty_slots.specs.Declared.{Declared, declared_by, name_of, on_arguments, own_definition, own_type}
use Rattle.ty_slots.specs.Declared.{virtual_like, virtual_rows, walk_above}

-- ---- the slot of a method

abbrev pub has_own_slot : World → Declared → Bool
has_own_slot world method = has_new_slot (tables_at world method.id.module) method.id.row

-- the nearest virtual method of its name and signature in a proper base
abbrev pub overridden : World → Declared → Result (Option Declared) ResolveFault
overridden world method = walk_above world (virtual_like world (name_of world method) method.sig) method.owner

abbrev pub or_itself : (Declared → Result Declared ResolveFault) → Declared → Option Declared
    → Result Declared ResolveFault
or_itself slot method None = Ok method
or_itself slot method (Some above) = slot above

-- a method in its definition's own variables: its own slot, or that of the method that it overrides
abbrev pub slot_from : (Declared → Result Declared ResolveFault) → World → Declared → Result Declared ResolveFault
slot_from slot world method =
    if has_own_slot world method then Ok method else and_then (overridden world method) (or_itself slot method)

-- What overrides what is a fact of definitions, the same for all their instances (II.9.9): so a method is looked at in
-- its definition's own variables, and what is found gets the arguments afterwards.
abbrev pub slot_if : (Declared → Result Declared ResolveFault) → World → Declared → Option TypeId
    → Result Declared ResolveFault
slot_if slot world method None = Ok method
slot_if slot world method (Some id) =
    and_then (declared_by world (own_type world id) id method.id.row) (λ own.
    and_then (slot_from slot world own) (λ found. Ok (on_arguments (arguments method.owner) found)))

abbrev pub slot_within : ℕ → World → Declared → Result Declared ResolveFault
slot_within zero world method = Ok method
slot_within (suc left) world method = slot_if (slot_within left world) world method (definition_of world method.owner)

-- The method that began the slot of a virtual method: a virtual method without newslot overrides the nearest virtual
-- method of its name and signature in a proper base, and has that one's slot; any other begins a slot.
abbrev pub slot_of : World → Declared → Result Declared ResolveFault
slot_of world method = slot_within (length (all_ids world) + 1) world method

-- ---- the slots of a type

abbrev pub both : {A : Type 0} → Result (List A) ResolveFault → Result (List A) ResolveFault
    → Result (List A) ResolveFault
both first second = and_then first (λ items. and_then second (λ more. Ok (items ++ more)))

abbrev pub all_from : {A B : Type 0} → (A → Result (List B) ResolveFault) → List A → Result (List B) ResolveFault
all_from give [] = Ok []
all_from give (item ∷ rest) = both (give item) (all_from give rest)

-- the slot of a method on a type; that of a generic method has the method's own variables as arguments
abbrev pub slot_named : Ty → Declared → Slot
slot_named ty method =
    record { owner = ty; method = method.id; args = method_variables method.sig.generic }

abbrev pub begun_if : Ty → Declared → Option Declared → List Slot
begun_if ty method None = slot_named ty method ∷ []
begun_if ty method (Some above) = []

abbrev pub begun_from : World → Ty → Declared → Result (List Slot) ResolveFault
begun_from world ty method =
    if has_own_slot world method then Ok (slot_named ty method ∷ [])
    else and_then (overridden world method) (λ above. Ok (begun_if ty method above))

-- the slot that a row of a type's definition begins, if it begins one
abbrev pub begun_by : World → Ty → TypeId → ℕ → Result (List Slot) ResolveFault
begun_by world ty id row = and_then (declared_by world (own_type world id) id row) (begun_from world ty)

abbrev pub begun_of : World → Ty → Option TypeId → Result (List Slot) ResolveFault
begun_of world ty None = Ok []
begun_of world ty (Some id) = all_from (begun_by world ty id) (virtual_rows world id)

abbrev pub of_base : (Ty → Result (List Slot) ResolveFault) → Option Ty → Result (List Slot) ResolveFault
of_base slots None = Ok []
of_base slots (Some base) = slots base

abbrev pub of_interfaces : (Ty → Result (List Slot) ResolveFault) → Result Ty ResolveFault
    → Result (List Slot) ResolveFault
of_interfaces slots interface = and_then interface slots

-- of each class those that it begins, in order of rows, then those of its interfaces with theirs, then its base
abbrev pub slots_within : ℕ → World → Ty → Result (List Slot) ResolveFault
slots_within zero world ty = Ok []
slots_within (suc left) world ty =
    both (begun_of world ty (own_definition world ty))
    (both (all_from (of_interfaces (slots_within left world)) (interface_types world ty))
    (and_then (base_type world ty) (of_base (slots_within left world))))

abbrev pub same_slot : Slot → Slot → Bool
same_slot a b = same_type a.owner b.owner && a.method.module == b.method.module && a.method.row == b.method.row

-- no slot twice: the first of each
abbrev pub each_once : List Slot → List Slot
each_once [] = []
each_once (slot ∷ rest) = slot ∷ filter (λ other. not (same_slot slot other)) (each_once rest)

-- The slots of a type from the type upward, or the first fault of the walk. On a walk stands no definition twice.
unfoldable pub slots_by : World → Ty → Result (List Slot) ResolveFault
slots_by world ty = and_then (slots_within (length (all_ids world) + 1) world ty) (λ slots. Ok (each_once slots))

-- ---- what that says: of any two slots the first isn't the second

abbrev pub IsOther : Slot → List Slot → Type 0
IsOther slot [] = Unit {0}
IsOther slot (other ∷ rest) = (same_slot slot other ≡ false) × IsOther slot rest

abbrev pub AreOthers : List Slot → Type 0
AreOthers [] = Unit {0}
AreOthers (slot ∷ rest) = IsOther slot rest × AreOthers rest

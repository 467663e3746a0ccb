-- Which method a call through a slot runs: ECMA-335 I.8.10.4, I.12.2, II.12.2, II.22.27. Of an interface's slot
-- inherited methods come last, so an explicit implementation of a base stays in force.
use Rattle.std.specs.Prelude.{ℕ, zero, suc, ◌==◌, ◌&&◌, Bool, false, if◌then◌else◌, List, [], ◌∷◌, filter}
use Rattle.std.specs.Prelude.{filter_map, find, length, slice_get, Option, Some, None, Result, Ok, Err}
use Rattle.std.specs.List.{list_any}
use Rattle.std.specs.Option.{option_map, option_map_or, option_and_then}
use Rattle.md_sigs.specs.Signatures.{signature}
use Rattle.md_sigs.specs.declared.fault.SigFault.{SigFault}
use Rattle.md_sigs.specs.declared.sig.Sig.{Sig}
use Rattle.md_tables.specs.declared.module.TableRow.{TableRow}
use Rattle.ty_terms.specs.declared.names.MethodName.{MethodName}
use Rattle.ty_terms.specs.declared.names.TypeId.{TypeId}
use Rattle.ty_terms.specs.declared.ty.Ty.{Ty}
use Rattle.ty_terms.specs.Subst.{substituted}
use Rattle.ty_names.specs.declared.cells.RowOf.{RowOf}
use Rattle.ty_names.specs.Modules.{World, tables_at, rows, cell_at, blob_of, index_of, coded_of}
use Rattle.ty_names.specs.Definitions.{is_virtual, generic_count, owner_of_method}
use Rattle.ty_load.specs.declared.fault.ResolveFault.{ResolveFault}
use Rattle.ty_load.specs.declared.item.Item.{Item}
use Rattle.ty_load.specs.declared.item.Item.TheVariants.{OfMethod}
use Rattle.ty_load.specs.Primitives.{definition_of}
use Rattle.ty_load.specs.Bases.{is_interface_id, closed_if}
use Rattle.ty_load.specs.Classes.{upward}
use Rattle.ty_load.specs.Cycles.{all_ids}
use Rattle.ty_load.specs.Finding.{method_variables}
use Rattle.ty_load.specs.Members.{same_sig, same_type}
use Rattle.ty_load.specs.Tokens.{and_then, member_by, method_by, method_named}
use Rattle.ty_load.specs.Walks.{arguments, interface_types, index_name}
use Rattle.ty_slots.specs.Declared.{Declared, declared_by, declared_named, first_among, found_or, name_of, on_arguments}
use Rattle.ty_slots.specs.Declared.{own_definition, own_type, public_like, rows_named, same_declared, walk}
use Rattle.ty_slots.specs.Slots.{slot_of}

abbrev pub if_found : {A : Type 0} → Result A ResolveFault → Option A
if_found (Ok found) = Some found
if_found (Err fault) = None

abbrev pub if_there : {A : Type 0} → Result (Option A) ResolveFault → Option A
if_there (Ok found) = found
if_there (Err fault) = None

-- ---- rows of MethodImpl

abbrev pub if_method : Result Item ResolveFault → Option MethodName
if_method (Ok (OfMethod name)) = Some name
if_method _ = None

abbrev pub is_own_row : Option ℕ → ℕ → Bool
is_own_row None row = false
is_own_row (Some owner) row = owner == row

-- the own variables of a method of this signature
abbrev pub variables_of : Result Sig SigFault → List Ty
variables_of (Ok (Sig.Method sig)) = method_variables sig.generic
variables_of _ = []

-- The method that a row of MethodImpl of a class names; a row of the class's own is of the class with its arguments. A
-- generic method gets its own variables.
abbrev pub named_in : World → Ty → TypeId → RowOf → Option MethodName
named_in world ty id index =
    let name = index_name world id.module index in
    let tables = tables_at world id.module in
    if index.table == 0x06
    then (if is_own_row (owner_of_method tables index.row) id.row
    then Some (method_named ty id.module index.row [])
    else if_found
    (method_by world id.module name index.row (method_variables (generic_count tables 0x06 index.row))))
    else if_method
    (member_by world id.module name (arguments ty) [] index.row
    (variables_of (signature id.module (blob_of (cell_at tables 0x0A index.row 2)))))

abbrev pub part_of_row : World → Ty → TypeId → RowOf → Option Declared
part_of_row world ty id index =
    option_and_then (λ name. if_there (declared_named world name)) (named_in world ty id index)

-- a body and the declaration for which it stands
abbrev pub parts_of_row : World → Ty → TypeId → TableRow → Option (Declared × Declared)
parts_of_row world ty id row =
    option_and_then (λ body. option_map (λ declaration. (body, declaration))
    (part_of_row world ty id (coded_of (slice_get row.cells 2))))
    (part_of_row world ty id (coded_of (slice_get row.cells 1)))

abbrev pub is_body_of : World → Ty → Declared × Declared → Bool
is_body_of world ty parts =
    is_virtual (tables_at world parts.0.id.module) parts.0.id.row && same_sig parts.0.sig parts.1.sig
    && list_any (same_type parts.0.owner) (upward world ty)

-- The rows of a class that count: the body is a virtual method of the class or of a base, with the declaration's
-- signature. A row whose parts lead to nothing doesn't count.
abbrev pub overrides_with : World → Ty → TypeId → List (Declared × Declared)
overrides_with world ty id =
    filter (is_body_of world ty) (filter_map (parts_of_row world ty id)
    (filter (λ row. index_of (slice_get row.cells 0) == id.row) (rows (tables_at world id.module) 0x19)))

abbrev pub overrides_of : World → Ty → List (Declared × Declared)
overrides_of world ty = option_map_or (overrides_with world ty) (own_definition world ty) []

abbrev pub body_among : (Declared → Bool) → List (Declared × Declared) → Option Declared
body_among test overrides = option_map (λ parts. parts.0) (find (λ parts. test parts.1) overrides)

-- ---- the implementation of a class's slot

abbrev pub is_slot : Declared → Result Declared ResolveFault → Bool
is_slot slot (Ok found) = same_declared found slot
is_slot slot (Err fault) = false

abbrev pub method_in_slot : World → Declared → Ty → Result (Option Declared) ResolveFault
method_in_slot world slot ty =
    first_among world (λ method. and_then (slot_of world method) (λ found. Ok (same_declared found slot)))
    (rows_named world (name_of world slot)) ty (own_definition world ty)

-- what a class itself gives for a slot: a row of MethodImpl, else a method with that slot
abbrev pub given_by_class : World → Declared → Ty → Result (Option Declared) ResolveFault
given_by_class world slot ty =
    found_or (method_in_slot world slot ty)
    (body_among (λ declaration. is_slot slot (slot_of world declaration)) (overrides_of world ty))

-- that of the most derived class from the type upward that gives one
abbrev pub class_implementation : World → Ty → Declared → Result (Option Declared) ResolveFault
class_implementation world ty slot = walk world (given_by_class world slot) ty

-- ---- the implementation of an interface's slot

abbrev pub this_type_or : Bool → Ty → Result (Option Ty) ResolveFault → Result (Option Ty) ResolveFault
this_type_or passes ty rest = if passes then Ok (Some ty) else rest

abbrev pub first_type : (Ty → Result (Option Ty) ResolveFault) → List (Result Ty ResolveFault)
    → Result (Option Ty) ResolveFault
first_type next [] = Ok None
first_type next (ty ∷ rest) = and_then ty (λ found. and_then (next found) (found_or (first_type next rest)))

-- the first interface that a type names, directly or through its interfaces, that passes a test
abbrev pub named_within : ℕ → World → (Ty → Bool) → Ty → Result (Option Ty) ResolveFault
named_within zero world test ty = Ok None
named_within (suc left) world test ty =
    first_type (λ other. this_type_or (test other) other (named_within left world test other))
    (interface_types world ty)

-- An interface as the definition of a class names it, in the class's own variables: what stands for what is a fact of
-- definitions here, too.
abbrev pub named_interface : World → Ty → Ty → TypeId → Result (Option Ty) ResolveFault
named_interface world interface class id =
    named_within (length (all_ids world)) world
    (λ other. same_type (substituted (arguments class) [] other) interface) (own_type world id)

abbrev pub if_some : {A B : Type 0} → (A → Result (Option B) ResolveFault) → Option A → Result (Option B) ResolveFault
if_some next None = Ok None
if_some next (Some found) = next found

-- a slot of an interface as a class's definition names the interface
abbrev pub slot_on : World → Declared → Ty → Result (Option Declared) ResolveFault
slot_on world slot named = if_some (λ id. and_then (declared_by world named id slot.id.row) (λ found. Ok (Some found)))
    (own_definition world named)

-- how a definition looks for a public method of this name and signature, from its own type
abbrev pub Search : Type 0
Search = List ℕ → Declared → Ty → Result (Option Declared) ResolveFault

-- what a class has for a slot of an interface that it names, by such a look
abbrev pub public_for : World → Search → Declared → Ty → TypeId → Result (Option Declared) ResolveFault
public_for world search slot class id =
    and_then (named_interface world slot.owner class id) (if_some (λ interface.
    and_then (slot_on world slot interface) (if_some (λ wanted.
    and_then (search (name_of world slot) wanted (own_type world id)) (λ found.
    Ok (option_map (on_arguments (arguments class)) found))))))

abbrev pub publicly_given : World → Search → Declared → Ty → Result (Option Declared) ResolveFault
publicly_given world search slot class =
    if_some (public_for world search slot class) (own_definition world class)

-- a public virtual method that the class declares itself
abbrev pub declares : World → Search
declares world name wanted ty = public_like world name wanted.sig ty

-- the nearest one from the class upward
abbrev pub inherits : World → Search
inherits world name wanted ty = walk world (public_like world name wanted.sig) ty

-- a public method as a type implements its slot
abbrev pub as_implemented : World → Ty → Option Declared → Result (Option Declared) ResolveFault
as_implemented world ty = if_some (λ method. and_then (slot_of world method) (class_implementation world ty))

-- what a class gives itself: a row of MethodImpl for the declaration; else, where it names the interface, a public
-- method that it declares
abbrev pub given_for_interface : World → Ty → Declared → Ty → Result (Option Declared) ResolveFault
given_for_interface world ty slot class =
    found_or (and_then (publicly_given world (declares world) slot class) (as_implemented world ty))
    (body_among (λ declaration. same_declared declaration slot) (overrides_of world class))

-- Where no class on the way gives one, the nearest inherited public method comes, from the most derived class that
-- names the interface.
abbrev pub interface_implementation : World → Ty → Declared → Result (Option Declared) ResolveFault
interface_implementation world ty slot =
    and_then (walk world (given_for_interface world ty slot) ty)
    (found_or
    (and_then (walk world (publicly_given world (inherits world) slot) ty) (as_implemented world ty)))

-- ---- the implementation

abbrev pub is_interface : World → Ty → Bool
is_interface world ty = closed_if (is_interface_id world) (definition_of world ty)

abbrev pub implemented : World → Ty → Declared → Result (Option Declared) ResolveFault
implemented world ty method =
    if is_interface world method.owner then interface_implementation world ty method
    else and_then (slot_of world method) (class_implementation world ty)

abbrev pub named : List Ty → Declared → MethodName
named args method = record { owner = method.owner; method = method.id; args = args }

-- The method that runs where a virtual method, with these arguments of its own, is called on an object of a type; or
-- the first fault of the walk.
unfoldable pub implementation_by : World → Ty → MethodName → Result (Option MethodName) ResolveFault
implementation_by world ty name =
    and_then (declared_named world name) (if_some (λ method.
    and_then (implemented world ty method) (λ found. Ok (option_map (named name.args) found))))

-- nothing where the walk meets what leads to nothing
abbrev pub implementation : World → Ty → MethodName → Option MethodName
implementation world ty name = if_there (implementation_by world ty name)

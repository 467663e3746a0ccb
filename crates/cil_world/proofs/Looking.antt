-- What look-ups give where what they look at is known: signatures, tokens, bases, slots and the methods in them, of
-- types without arguments and of methods without parameters.
use Rattle.std.proofs.Common.{◌≡◌, ◌∙◌, ℕ, suc, ◌+◌, ap, refl, true, false, Bool, List, [], ◌∷◌, Option, Some, None}
use Rattle.std.proofs.Common.{Ok, Err}
use Rattle.std.proofs.Common.{map, length}
use Rattle.std.specs.Prelude.{◌/◌, ◌%◌, ◌^◌, ◌==◌, ◌&&◌, not, if◌then◌else◌, Result}
use Rattle.std.specs.Option.{option_map, option_and_then}
use Rattle.std.specs.Str.{chars}
use Rattle.cli_layout.specs.declared.extent.Extent.TheVariants.{Known}
use Rattle.cli_layout.specs.Extents.{extent_of, extent_step, most_within, primitive_field, value_within}
use Rattle.md_sigs.specs.declared.fault.SigFault.{SigFault}
use Rattle.md_sigs.specs.declared.sig.MethodSig.{MethodSig}
use Rattle.md_sigs.specs.declared.sig.Sig.{Sig}
use Rattle.md_sigs.specs.Elements.{class_byte, element_behind, head_behind, instance_at, is_outside, outside}
use Rattle.md_sigs.specs.Elements.{primitive_of, special, type_behind}
use Rattle.md_sigs.specs.Signatures.{signature}
use Rattle.ty_terms.specs.declared.names.FieldName.{FieldName}
use Rattle.ty_terms.specs.declared.names.MethodName.{MethodName}
use Rattle.ty_terms.specs.declared.names.TypeId.{TypeId}
use Rattle.ty_terms.specs.declared.ty.Primitive.{Primitive}
use Rattle.ty_terms.specs.declared.ty.Ty as Types
use Rattle.ty_terms.specs.declared.ty.Ty.{Ty}
use Rattle.ty_terms.specs.declared.ty.Ty.TheVariants.{Named, Prim}
use Rattle.ty_terms.specs.declared.ty.Ty.TheOpen.{Ty-F}
use Rattle.ty_terms.specs.Induction.{fold-Named, fold-Prim, out-Named}
use Rattle.ty_terms.specs.Subst.{substituted}
use Rattle.il_code.specs.declared.body.Body.{Body}
use Rattle.il_code.specs.Instructions.{opcode_row}
use Rattle.il_code.specs.Opcodes.{opcodes}
use Rattle.ty_names.specs.declared.cells.RowOf.{RowOf}
use Rattle.ty_names.specs.Definitions.{field_blob, is_static_field, method_blob, owner_of_field, owner_of_method}
use Rattle.ty_names.specs.Modules.{World, tables_at}
use Rattle.ty_load.specs.declared.fault.ResolveFault.{ResolveFault}
use Rattle.ty_load.specs.declared.fault.ResolveFault.TheVariants.{Unresolved}
use Rattle.ty_load.specs.declared.item.Item.{Item}
use Rattle.ty_load.specs.declared.item.Item.TheVariants.{OfField, OfMethod}
use Rattle.ty_load.specs.Bases.{parameters}
use Rattle.ty_load.specs.Classes.{base_if, upward_within}
use Rattle.ty_load.specs.Cycles.{all_ids}
use Rattle.ty_load.specs.Finding.{method_variables, or_above, sig_name}
use Rattle.ty_load.specs.Members.{field_sig, field_sig_if, is_usable_field}
use Rattle.ty_load.specs.Members.{method_sig, method_sig_if, same_bool, same_sig, same_type, same_types, sig_if_suits}
use Rattle.ty_load.specs.Members.{sig_with, signature_types, suits_row}
use Rattle.ty_load.specs.Primitives.{definition_of, type_of}
use Rattle.ty_load.specs.Refusals.{refused_name}
use Rattle.ty_load.specs.Types.{no_void}
use Rattle.ty_load.specs.Tokens.{field_named, own_field}
use Rattle.ty_load.specs.Tokens.{and_then, has_row, method_named, only_if, or_unresolved, own_method, plain_owner}
use Rattle.ty_load.specs.Tokens.{read_then, resolution, row_by, text_by}
use Rattle.ty_load.specs.Walks.{arguments, arguments_layer, base_by, base_type, base_with}
use Rattle.ty_slots.specs.Declared.{Declared, declared_by, declared_named, declared_with, first_among, first_declared}
use Rattle.ty_slots.specs.Declared.{found_or, name_of, on_arguments, own_definition, own_type, rows_named}
use Rattle.ty_slots.specs.Declared.{same_declared}
use Rattle.ty_slots.specs.Declared.{this_or, virtual_like, walk_above, walk_within}
use Rattle.ty_slots.specs.Implementations.{body_among, class_implementation, given_by_class, if_some, if_there}
use Rattle.ty_slots.specs.Implementations.{implemented}
use Rattle.ty_slots.specs.Implementations.{implementation, implementation_by, interface_implementation, is_interface}
use Rattle.ty_slots.specs.Implementations.{is_slot, method_in_slot, named, overrides_of}
use Rattle.ty_slots.specs.Slots.{has_own_slot, or_itself, overridden, slot_from, slot_of, slot_within}
use Rattle.il_verify.specs.Scope.{Callee, Scope, callee_of, callee_with, if_found, if_method, locals_of, method_token}
use Rattle.il_verify.specs.Scope.{Member, if_field, instance_field, instance_only, member_in, member_of, member_with}
use Rattle.il_verify.specs.Scope.{receiver_of, scope_of, scope_with}
use Rattle.cil_world.proofs.Computing.{named_stays, prim_resolved, prim_stays, same_type_itself}

-- what opens it opens types, a layer at a time
unfoldable pub layers : ℕ
unfolding Types.out-Ty Types.roll-Ty denote.Hole.Carrier.out denote.Hole.Carrier.roll
layers = 0

-- ---- signatures without parameters, of a primitive result

abbrev pub plain_sig : Bool → Primitive → MethodSig
plain_sig instance p = record { instance = instance; generic = 0; params = []; result = Prim p }

pub plain_read : (world : World) (id : TypeId) (row : ℕ) (instance : Bool) (p : Primitive)
    → signature id.module (method_blob (tables_at world id.module) row) ≡ Ok (Sig.Method (plain_sig instance p))
    → suits_row (tables_at world id.module) row (plain_sig instance p) ≡ true
    → method_sig world id row ≡ Some (plain_sig instance p)
plain_read world id row instance p reads suits =
    ap (λ s. option_and_then (sig_if_suits (tables_at world id.module) row) (method_sig_if world id s)) reads
    ∙ ap (λ r. option_and_then (sig_if_suits (tables_at world id.module) row)
    (option_and_then (λ result. option_map (sig_with (plain_sig instance p) result)
    (signature_types world id.module (parameters world id) 0 [])) r))
    (prim_resolved world id.module (parameters world id) 0 p)
    ∙ ap (λ t. if t then Some (plain_sig instance p) else None) suits

abbrev pub plain_callee : MethodName → Bool → Ty → Primitive → Callee
plain_callee name instance receiver p =
    record { name = name; is_static = not instance; receiver = receiver; params = []; result = Prim p }

pub callee_by : (world : World) (name : MethodName) (id : TypeId) (instance : Bool) (receiver : Ty) (p : Primitive)
    → definition_of world name.owner ≡ Some id
    → method_sig world id name.method.row ≡ Some (plain_sig instance p)
    → receiver_of world name.owner ≡ receiver
    → callee_of world name ≡ Some (plain_callee name instance receiver p)
callee_by world name id instance receiver p defined reads receives =
    let given : Ty → Ty → Callee =
    λ r t. record { name = name; is_static = not instance; receiver = r; params = []; result = t } in
    ap (option_and_then (λ i. option_map (callee_with world name) (method_sig world i name.method.row))) defined
    ∙ ap (option_map (callee_with world name)) reads
    ∙ ap (λ r. Some (given r (substituted (arguments name.owner) name.args (Prim p)))) receives
    ∙ ap (λ t. Some (given receiver t)) (prim_stays (arguments name.owner) name.args p)

pub scope_by : (world : World) (name : MethodName) (body : Body) (callee : Callee) (locals : List Ty)
    → callee_of world name ≡ Some callee
    → locals_of world name body.locals ≡ Some locals
    → scope_of world name body ≡ Some (scope_with world callee locals)
scope_by world name body callee locals called has =
    ap (option_and_then (λ c. option_map (scope_with world c) (locals_of world name body.locals))) called
    ∙ ap (option_map (scope_with world callee)) has

-- ---- tokens of the module's own methods

pub token_by : (world : World) (number token row : ℕ) (owner method : List Ty) (id : TypeId) (read : Sig)
    (sig : MethodSig) (ty : Ty)
    → token / 2 ^ 24 ≡ 0x06
    → token % 2 ^ 24 ≡ row
    → has_row world number (record { table = 0x06; row = row }) ≡ true
    → signature number (method_blob (tables_at world number) row) ≡ Ok read
    → plain_owner world number (owner_of_method (tables_at world number) row) ≡ Some id
    → method_sig world id row ≡ Some sig
    → (sig.generic == 0) ≡ true
    → type_of world id [] ≡ ty
    → resolution world number token owner method ≡ Ok (OfMethod (method_named ty number row []))
unfolding resolution
token_by world number token row owner method id read sig ty in_table at_row has reads owned has_sig plain is =
    let name : List ℕ = refused_name world number token in
    let at : ℕ → ℕ → RowOf = λ t r. record { table = t; row = r } in
    let leads : ℕ → ℕ → Result Item ResolveFault = λ t r.
    if t == 0x70 then text_by world number name r
    else if has_row world number (at t r) then row_by world number name owner method (at t r)
    else Err (Unresolved name) in
    let found : Result MethodName ResolveFault → Result Item ResolveFault = λ m. and_then m (λ f. Ok (OfMethod f)) in
    ap (λ t. leads t (token % 2 ^ 24)) in_table
    ∙ ap (leads 0x06) at_row
    ∙ ap (λ t. if t then row_by world number name owner method (at 0x06 row) else Err (Unresolved name)) has
    ∙ ap (λ s. found (read_then s (λ sig. or_unresolved name (option_and_then (own_method world number row [])
    (plain_owner world number (owner_of_method (tables_at world number) row)))))) reads
    ∙ ap (λ o. found (or_unresolved name (option_and_then (own_method world number row []) o))) owned
    ∙ ap (λ s. found (or_unresolved name (option_and_then (λ sig.
    only_if (sig.generic == 0) (method_named (type_of world id []) number row [])) s))) has_sig
    ∙ ap (λ t. found (or_unresolved name (only_if t (method_named (type_of world id []) number row [])))) plain
    ∙ ap (λ t. found (or_unresolved name (Some (method_named t number row [])))) is

-- ---- fields of primitive types, and the tokens that name them

pub field_read : (world : World) (id : TypeId) (row : ℕ) (p : Primitive)
    → signature id.module (field_blob (tables_at world id.module) row) ≡ Ok (Sig.Field (Prim p))
    → no_void (Some (Prim p)) ≡ Some (Prim p)
    → field_sig world id row ≡ Some (Prim p)
field_read world id row p reads filled =
    ap (field_sig_if world id) reads
    ∙ ap no_void (prim_resolved world id.module (parameters world id) 0 p)
    ∙ filled

pub member_by_field : (world : World) (name : FieldName) (id : TypeId) (static : Bool) (p : Primitive)
    → definition_of world name.owner ≡ Some id
    → field_sig world id name.row ≡ Some (Prim p)
    → is_static_field (tables_at world id.module) name.row ≡ static
    → member_of world name ≡ Some (record { name = name; is_static = static; ty = Prim p })
member_by_field world name id static p defined reads flags =
    let given : Bool → Ty → Member = λ s t. record { name = name; is_static = s; ty = t } in
    ap (option_and_then (member_in world name)) defined
    ∙ ap (option_map (member_with name (is_static_field (tables_at world id.module) name.row))) reads
    ∙ ap (λ s. Some (given s (substituted (arguments name.owner) [] (Prim p)))) flags
    ∙ ap (λ t. Some (given static t)) (prim_stays (arguments name.owner) [] p)

pub field_token_by : (world : World) (number token row : ℕ) (owner method : List Ty) (id : TypeId) (read : Sig) (ty :
    Ty)
    (name : FieldName)
    → token / 2 ^ 24 ≡ 0x04
    → token % 2 ^ 24 ≡ row
    → has_row world number (record { table = 0x04; row = row }) ≡ true
    → signature number (field_blob (tables_at world number) row) ≡ Ok read
    → plain_owner world number (owner_of_field (tables_at world number) row) ≡ Some id
    → field_sig world id row ≡ Some ty
    → only_if (is_usable_field (tables_at world number) id.row row) (field_named world id row) ≡ Some name
    → resolution world number token owner method ≡ Ok (OfField name)
unfolding resolution
field_token_by world number token row owner method id read ty name in_table at_row has reads owned has_sig usable =
    let told : List ℕ = refused_name world number token in
    let at : ℕ → ℕ → RowOf = λ t r. record { table = t; row = r } in
    let leads : ℕ → ℕ → Result Item ResolveFault = λ t r.
    if t == 0x70 then text_by world number told r
    else if has_row world number (at t r) then row_by world number told owner method (at t r)
    else Err (Unresolved told) in
    let found : Option FieldName → Result Item ResolveFault = λ f. or_unresolved told (option_map OfField f) in
    ap (λ t. leads t (token % 2 ^ 24)) in_table
    ∙ ap (leads 0x04) at_row
    ∙ ap (λ t. if t then row_by world number told owner method (at 0x04 row) else Err (Unresolved told)) has
    ∙ ap (λ s. read_then s (λ sig. found (option_and_then (own_field world number row)
    (plain_owner world number (owner_of_field (tables_at world number) row))))) reads
    ∙ ap (λ o. found (option_and_then (own_field world number row) o)) owned
    ∙ ap (λ s. found (option_and_then (λ ty. only_if (is_usable_field (tables_at world number) id.row row)
    (field_named world id row)) s)) has_sig
    ∙ ap found usable

pub field_found : (scope : Scope) (token : ℕ) (name : FieldName) (member : Member)
    → arguments scope.name.owner ≡ []
    → resolution scope.world scope.name.method.module token [] scope.name.args ≡ Ok (OfField name)
    → member_of scope.world name ≡ Some member
    → member.is_static ≡ false
    → instance_field scope token ≡ Some member
field_found scope token name member none leads is own =
    ap (λ a. option_and_then instance_only (option_and_then (member_of scope.world) (option_and_then if_field (if_found
    (resolution scope.world scope.name.method.module token a scope.name.args))))) none
    ∙ ap (λ r. option_and_then instance_only (option_and_then (member_of scope.world) (option_and_then if_field
    (if_found r)))) leads
    ∙ ap (option_and_then instance_only) is
    ∙ ap (λ s. if s then None else Some member) own

-- ---- bases

pub no_arguments : (id : TypeId) → arguments (Named id []) ≡ []
no_arguments id = ap arguments_layer (out-Named id [])

pub base_named : (world : World) (id base : TypeId) → base_by world id ≡ Ok (Some (Named base []))
    → base_type world (Named id []) ≡ Ok (Some (Named base []))
unfolding layers
base_named world id base extends =
    ap (base_with (Named id [])) extends ∙ ap (λ t. Ok (Some t)) (named_stays (arguments (Named id [])) [] base)

pub base_prim : (world : World) (id : TypeId) (p : Primitive) → base_by world id ≡ Ok (Some (Prim p))
    → base_type world (Named id []) ≡ Ok (Some (Prim p))
unfolding layers
base_prim world id p extends =
    ap (base_with (Named id [])) extends ∙ ap (λ t. Ok (Some t)) (prim_stays (arguments (Named id [])) [] p)

-- ---- methods as types declare them

abbrev pub plain_declared : TypeId → ℕ → Bool → Primitive → Declared
plain_declared id row instance p =
    record { owner = Named id []; id = record { «module» = id.module; row = row }; sig = plain_sig instance p }

pub declared_plain : (world : World) (id : TypeId) (row : ℕ) (instance : Bool) (p : Primitive)
    → signature id.module (method_blob (tables_at world id.module) row) ≡ Ok (Sig.Method (plain_sig instance p))
    → method_sig world id row ≡ Some (plain_sig instance p)
    → declared_by world (Named id []) id row ≡ Ok (plain_declared id row instance p)
declared_plain world id row instance p reads has =
    let given : Ty → Declared = λ t. record {
      owner = Named id [];
      id = record { «module» = id.module; row = row };
      sig = record { instance = instance; generic = 0; params = []; result = t };
    } in
    let declares : Result MethodSig ResolveFault → Result Declared ResolveFault =
    λ s. and_then s (λ sig. Ok (declared_with (Named id []) id row sig)) in
    ap (λ s. declares (read_then s (λ sig.
    or_unresolved (sig_name world id.module row sig) (method_sig world id row)))) reads
    ∙ ap (λ m. declares (or_unresolved (sig_name world id.module row (Sig.Method (plain_sig instance p))) m)) has
    ∙ ap (λ t. Ok (given t)) (prim_stays (arguments (Named id [])) (method_variables 0) p)

arguments_stay : (args : List Ty) (id : TypeId) (row : ℕ) (instance : Bool) (p : Primitive)
    → on_arguments args (plain_declared id row instance p) ≡ plain_declared id row instance p
arguments_stay args id row instance p =
    let given : Ty → Ty → Declared = λ o t. record {
      owner = o;
      id = record { «module» = id.module; row = row };
      sig = record { instance = instance; generic = 0; params = []; result = t };
    } in
    ap (λ o. given o (substituted args (method_variables 0) (Prim p))) (named_stays args [] id)
    ∙ ap (given (Named id [])) (prim_stays args (method_variables 0) p)

pub same_plain : (p : Primitive) → same_sig (plain_sig true p) (plain_sig true p) ≡ true
same_plain p =
    ap (λ t. same_bool true true && (0 == 0) && same_types [] [] && t) (same_type_itself (Prim p))

pub same_method : (id : TypeId) (row : ℕ) (instance : Bool) (p : Primitive)
    → ((id.module == id.module) && (row == row)) ≡ true
    → same_declared (plain_declared id row instance p) (plain_declared id row instance p) ≡ true
same_method id row instance p same =
    ap (λ t. t && id.module == id.module && row == row) (same_type_itself (Named id [])) ∙ same

-- ---- walks

pub found_here : {A : Type 0} (left : ℕ) (world : World) (here : Ty → Result (Option A) ResolveFault) (ty : Ty)
    (found : A) → here ty ≡ Ok (Some found) → walk_within (suc left) world here ty ≡ Ok (Some found)
found_here left world here ty found is =
    ap (λ r. and_then r (found_or (and_then (base_type world ty) (or_above (walk_within left world here))))) is

pub found_in_base : {A : Type 0} (left : ℕ) (world : World) (here : Ty → Result (Option A) ResolveFault) (ty base : Ty)
    (found : A)
    → length (all_ids world) + 1 ≡ suc left
    → base_type world ty ≡ Ok (Some base)
    → here base ≡ Ok (Some found)
    → walk_above world here ty ≡ Ok (Some found)
found_in_base left world here ty base found many extends is =
    ap (λ b. and_then b (or_above (walk_within (length (all_ids world) + 1) world here))) extends
    ∙ ap (λ n. walk_within n world here base) many
    ∙ found_here left world here base found is

-- ---- slots

-- the one virtual method of its name that a type declares
pub only_like : (world : World) (name : List ℕ) (sig : MethodSig) (ty : Ty) (id : TypeId) (row : ℕ) (found : Declared)
    → own_definition world ty ≡ Some id
    → rows_named world name id ≡ row ∷ []
    → declared_by world ty id row ≡ Ok found
    → same_sig sig found.sig ≡ true
    → virtual_like world name sig ty ≡ Ok (Some found)
only_like world name sig ty id row found defined rows declares same =
    let test : Declared → Result Bool ResolveFault = λ method. Ok (same_sig sig method.sig) in
    ap (first_among world test (rows_named world name) ty) defined
    ∙ ap (first_declared world test ty id) rows
    ∙ ap (λ d. and_then d (λ method. and_then (test method) (λ passes. this_or passes method (Ok None)))) declares
    ∙ ap (λ t. this_or t found (Ok None)) same

pub only_in_slot : (world : World) (slot : Declared) (ty : Ty) (id : TypeId) (row : ℕ) (found : Declared)
    → own_definition world ty ≡ Some id
    → rows_named world (name_of world slot) id ≡ row ∷ []
    → declared_by world ty id row ≡ Ok found
    → slot_of world found ≡ Ok slot
    → same_declared slot slot ≡ true
    → method_in_slot world slot ty ≡ Ok (Some found)
only_in_slot world slot ty id row found defined rows declares begins same =
    let is : Declared → Result Bool ResolveFault = λ f. Ok (same_declared f slot) in
    let test : Declared → Result Bool ResolveFault = λ method. and_then (slot_of world method) is in
    ap (first_among world test (rows_named world (name_of world slot)) ty) defined
    ∙ ap (first_declared world test ty id) rows
    ∙ ap (λ d. and_then d (λ method. and_then (test method) (λ passes. this_or passes method (Ok None)))) declares
    ∙ ap (λ s. and_then (and_then s is) (λ passes. this_or passes found (Ok None))) begins
    ∙ ap (λ t. this_or t found (Ok None)) same

-- a method with newslot begins its slot
pub slot_begins : (left : ℕ) (world : World) (id : TypeId) (row : ℕ) (instance : Bool) (p : Primitive)
    → own_type world id ≡ Named id []
    → declared_by world (Named id []) id row ≡ Ok (plain_declared id row instance p)
    → has_own_slot world (plain_declared id row instance p) ≡ true
    → slot_within (suc left) world (plain_declared id row instance p) ≡ Ok (plain_declared id row instance p)
unfolding layers
slot_begins left world id row instance p owned declares own =
    let method : Declared = plain_declared id row instance p in
    let on : Declared → Result Declared ResolveFault = λ found. Ok (on_arguments (arguments (Named id [])) found) in
    let looked : Declared → Result Declared ResolveFault = λ d. and_then (slot_from (slot_within left world) world d) on
    in
    ap (λ t. and_then (declared_by world t id row) looked) owned
    ∙ ap (λ d. and_then d looked) declares
    ∙ ap (λ t. and_then (if t then Ok method
    else and_then (overridden world method) (or_itself (slot_within left world) method)) on) own
    ∙ ap (λ d. Ok d) (arguments_stay (arguments (Named id [])) id row instance p)

-- one without it has the slot of the method that it overrides
pub slot_above : (left : ℕ) (world : World) (id above : TypeId) (row row' : ℕ) (instance : Bool) (p : Primitive)
    → own_type world id ≡ Named id []
    → declared_by world (Named id []) id row ≡ Ok (plain_declared id row instance p)
    → has_own_slot world (plain_declared id row instance p) ≡ false
    → overridden world (plain_declared id row instance p) ≡ Ok (Some (plain_declared above row' instance p))
    → slot_within left world (plain_declared above row' instance p) ≡ Ok (plain_declared above row' instance p)
    → slot_within (suc left) world (plain_declared id row instance p) ≡ Ok (plain_declared above row' instance p)
unfolding layers
slot_above left world id above row row' instance p owned declares own overrides begins =
    let method : Declared = plain_declared id row instance p in
    let on : Declared → Result Declared ResolveFault = λ found. Ok (on_arguments (arguments (Named id [])) found) in
    let looked : Declared → Result Declared ResolveFault = λ d. and_then (slot_from (slot_within left world) world d) on
    in
    ap (λ t. and_then (declared_by world t id row) looked) owned
    ∙ ap (λ d. and_then d looked) declares
    ∙ ap (λ t. and_then (if t then Ok method
    else and_then (overridden world method) (or_itself (slot_within left world) method)) on) own
    ∙ ap (λ o. and_then (and_then o (or_itself (slot_within left world) method)) on) overrides
    ∙ ap (λ s. and_then s on) begins
    ∙ ap (λ d. Ok d) (arguments_stay (arguments (Named id [])) above row' instance p)

-- what a class gives that has no rows of MethodImpl
pub gives_itself : (world : World) (slot : Declared) (ty : Ty) (found : Result (Option Declared) ResolveFault)
    → overrides_of world ty ≡ []
    → method_in_slot world slot ty ≡ found
    → given_by_class world slot ty ≡ found
gives_itself world slot ty found none is =
    ap (λ o. found_or (method_in_slot world slot ty)
    (body_among (λ declaration. is_slot slot (slot_of world declaration)) o)) none ∙ is

pub implemented_by : (world : World) (ty : Ty) (name : MethodName) (method slot found : Declared)
    → declared_named world name ≡ Ok (Some method)
    → is_interface world method.owner ≡ false
    → slot_of world method ≡ Ok slot
    → class_implementation world ty slot ≡ Ok (Some found)
    → implementation world ty name ≡ Some (named name.args found)
unfolding implementation_by
implemented_by world ty name method slot found declares class begins is =
    let gives : Result (Option Declared) ResolveFault → Option MethodName =
    λ r. if_there (and_then r (λ f. Ok (option_map (named name.args) f))) in
    ap (λ d. if_there (and_then d (if_some (λ m.
    and_then (implemented world ty m) (λ f. Ok (option_map (named name.args) f)))))) declares
    ∙ ap (λ t. gives (if t then interface_implementation world ty method
    else and_then (slot_of world method) (class_implementation world ty))) class
    ∙ ap (λ s. gives (and_then s (class_implementation world ty))) begins
    ∙ ap gives is

-- ---- places of references, and extents

pub extent_named : (world : World) (id : TypeId)
    → extent_of world (Named id [])
    ≡ extent_step (value_within (most_within world) world) world [] (Ty-F.Named id [])
unfolding extent_of
extent_named world id = fold-Named (extent_step (value_within (most_within world) world) world []) id []

pub extent_prim : (world : World) (p : Primitive) → extent_of world (Prim p) ≡ Known (primitive_field p)
unfolding extent_of
extent_prim world p = fold-Prim (extent_step (value_within (most_within world) world) world []) p

-- ---- the classes above a type

pub upward_more : (left : ℕ) (world : World) (ty : Ty) (base : Option Ty) (rest : List Ty)
    → base_type world ty ≡ Ok base
    → upward_within left world base ≡ rest
    → upward_within (suc left) world (Some ty) ≡ ty ∷ rest
upward_more left world ty base rest extends more =
    ap (λ b. ty ∷ upward_within left world (base_if b)) extends ∙ ap (λ types. ty ∷ types) more

-- ---- methods of tokens

pub method_found : (scope : Scope) (token : ℕ) (name : MethodName) (callee : Callee)
    → arguments scope.name.owner ≡ []
    → resolution scope.world scope.name.method.module token [] scope.name.args ≡ Ok (OfMethod name)
    → callee_of scope.world name ≡ Some callee
    → method_token scope token ≡ Some callee
method_found scope token name callee none leads called =
    ap (λ a. option_and_then (callee_of scope.world) (option_and_then if_method (if_found
    (resolution scope.world scope.name.method.module token a scope.name.args)))) none
    ∙ ap (λ r. option_and_then (callee_of scope.world) (option_and_then if_method (if_found r))) leads ∙ called

-- ---- names in the first module

abbrev pub own_id : ℕ → TypeId
own_id row = record { «module» = 0; row = row }

abbrev pub own_class : ℕ → Ty
own_class row = Named (own_id row) []

abbrev pub method_on : ℕ → ℕ → MethodName
method_on class row =
    record { owner = own_class class; method = record { «module» = 0; row = row }; args = [] }

-- what opens it opens bodies, signatures and texts
unfoldable pub looking : ℕ
unfolding layers chars signature head_behind primitive_of outside is_outside class_byte instance_at type_behind special
    element_behind opcodes opcode_row
looking = 0

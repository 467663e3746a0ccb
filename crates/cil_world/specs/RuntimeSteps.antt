-- The methods of the core that have no CIL, each one step without a frame; two of them push the stub that does the
-- rest. What they look up they look up in the whole world, or where a program is run trimmed among the nodes of its
-- setting.
use Rattle.std.specs.Prelude.{ℕ, ◌/◌, ◌==◌, ◌&&◌, ◌||◌, ◌++◌, nat_le, ℤ, pos, Bool, true, false, not}
use Rattle.std.specs.Prelude.{if◌then◌else◌, List, [], ◌∷◌, find, filter, length, map, replicate, slice_get, slice_set}
use Rattle.std.specs.Prelude.{drop, codes, Option, Some, None, unwrap_or, zero, suc, ◌*◌}
use Rattle.std.specs.List.{list_all, list_any}
use Rattle.std.specs.Option.{option_map, option_map_or, option_and_then}
use Rattle.std.specs.Str.{bytes_eq}
use Rattle.num_core.specs.Bits.{low_bits}
use Rattle.core_lib.specs.declared.runtime.RuntimeCall.{RuntimeCall}
use Rattle.core_lib.specs.declared.runtime.RuntimeCall.TheVariants.{ObjectGetType, ObjectGetHashCode, StringGetLength}
use Rattle.core_lib.specs.declared.runtime.RuntimeCall.TheVariants.{StringGetChars, StringNew, StringSet}
use Rattle.core_lib.specs.declared.runtime.RuntimeCall.TheVariants.{InitializeArray, ConsoleWrite, ConsoleRead}
use Rattle.core_lib.specs.declared.runtime.RuntimeCall.TheVariants.{TypeGetType, TypeGetFullName, CreateInstance}
use Rattle.core_lib.specs.declared.runtime.RuntimeCall.TheVariants.{TypeGetMethod, MethodInvoke}
use Rattle.core_lib.specs.Rows.{runtime_calls}
use Rattle.md_sigs.specs.declared.sig.MethodSig.{MethodSig}
use Rattle.ty_layout.specs.Objects.{string_bytes}
use Rattle.ty_terms.specs.declared.names.FieldName.{FieldName}
use Rattle.ty_terms.specs.declared.names.MethodName.{MethodName}
use Rattle.ty_terms.specs.declared.names.TypeId.{TypeId}
use Rattle.ty_terms.specs.declared.nodes.Node.{Node}
use Rattle.ty_terms.specs.declared.ty.Primitive.{Primitive}
use Rattle.ty_terms.specs.declared.ty.Ty.{Ty}
use Rattle.ty_terms.specs.declared.ty.Ty.TheVariants.{Prim}
use Rattle.ty_terms.specs.declared.ty.Ty.TheOpen.{Ty-F}
use Rattle.ty_terms.specs.declared.ty.Ty.TheFolds.{fold-Ty}
use Rattle.ty_terms.specs.declared.ty.Ty.TheViews.{out-Ty}
use Rattle.ty_names.specs.Definitions.{methods_of, method_name, is_public_method}
use Rattle.ty_names.specs.Escapes.{units}
use Rattle.ty_names.specs.Modules.{World, core_of, tables_at}
use Rattle.ty_load.specs.Bases.{parameters}
use Rattle.ty_load.specs.Cycles.{all_ids}
use Rattle.ty_load.specs.Members.{method_sig, same_type}
use Rattle.ty_load.specs.Primitives.{name_of_primitive, type_of}
use Rattle.ty_load.specs.Search.{before_comma, full_name}
use Rattle.ty_load.specs.Texts.{listed_texts}
use Rattle.ty_load.specs.Tokens.{method_named}
use Rattle.il_verify.specs.Kinds.{content_of}
use Rattle.il_verify.specs.Raises.{NullReference, IndexOutOfRange}
use Rattle.il_verify.specs.Scope.{callee_of}
use Rattle.cil_world.specs.Comparisons.{same_method, same_units}
use Rattle.cil_world.specs.Contents.{deepest, size_of}
use Rattle.cil_world.specs.Did.{Did, Gives, Raises, RaisesNamed, Ends, Writes, Reads, Cannot, given}
use Rattle.cil_world.specs.Did.{on_none, on_one, on_two, on_three, on_int32, on_reference, on_some, pushes_frame}
use Rattle.ty_load.specs.Classes.{upward}
use Rattle.ty_slots.specs.Declared.{own_definition}
use Rattle.cil_world.specs.Entering.{HeapBound, Unchecked, has_room, next_object, with_object, may_lay_out_value}
use Rattle.cil_world.specs.ObjectSteps.{count_of, element_type, index_of_number, type_of_object}
use Rattle.cil_world.specs.Places.{change_object}
use Rattle.cil_world.specs.State.{CilState, Holding, Setting, Elements, Units, Makes, Invokes, new_frame}
use Rattle.cil_world.specs.Statics.{field_bytes, is_plain, value_within}
use Rattle.cil_world.specs.Values.{Value, Values, and, Reference, Null, Made as MadeAs, Lying}
use Rattle.cil_world.specs.Values.{TextOf, TypeOf, MethodOf}

-- what a method of the core does that has no CIL
abbrev pub call_of_row : List (ℕ × RuntimeCall) → ℕ → Option RuntimeCall
call_of_row calls row = option_map (λ call. call.1) (find (λ call. call.0 == row) calls)

unfoldable pub runtime_call : World → MethodName → Option RuntimeCall
runtime_call world name =
    if name.method.module == core_of world then call_of_row runtime_calls name.method.row else None

abbrev pub argument_null : CilState → Did
argument_null state = RaisesNamed state (codes "System") (codes "ArgumentNullException")

abbrev pub argument_wrong : CilState → Did
argument_wrong state = RaisesNamed state (codes "System") (codes "ArgumentException")

-- ---- hash numbers: the bytes of the heap before the object was made, by 8

abbrev pub hash_number : CilState → Reference → ℕ
hash_number state Null = 0
hash_number state (MadeAs n) = option_map_or (λ made. made.before / 8) (slice_get state.objects n) 0
hash_number state (Lying object) = 0

-- ---- strings

abbrev pub units_held : Holding → Option (List ℕ)
units_held (Units units) = Some units
units_held _ = None

abbrev pub units_of : CilState → Reference → Option (List ℕ)
units_of state Null = None
units_of state (MadeAs n) = option_and_then (λ made. units_held made.holds) (slice_get state.objects n)
units_of state (Lying (TextOf units)) = Some units
units_of state (Lying object) = None

abbrev pub with_units : CilState → Reference → (List ℕ → Did) → Did
with_units state Null next = Raises state NullReference
with_units state (MadeAs n) next = on_some (units_of state (MadeAs n)) next
with_units state (Lying object) next = on_some (units_of state (Lying object)) next

abbrev pub unit_given : CilState → Option ℕ → Did
unit_given state None = Raises state IndexOutOfRange
unit_given state (Some unit) = given state (Value.Int32 (pos unit))

abbrev pub unit_at : CilState → ℤ → List ℕ → Did
unit_at state n units = unit_given state (option_and_then (λ k. slice_get units k) (index_of_number n))

abbrev pub string_if_room : Bool → CilState → ℕ → Did
string_if_room false state count = Ends HeapBound
string_if_room true state count =
    Gives (with_object (Prim Primitive.String) (Units (replicate count 0)) (string_bytes count) state)
    (Value.Object (next_object state) ∷ [])

-- a new string of so many units that are 0; the core asks for no fewer than none
abbrev pub new_string : Setting → CilState → ℕ → Did
new_string setting state count = string_if_room (has_room setting state (string_bytes count)) state count

abbrev pub set_unit : ℕ → ℕ → Holding → Holding
set_unit k unit (Units units) = Units (slice_set units k unit)
set_unit k unit holds = holds

abbrev pub unit_set : CilState → Reference → ℕ → ℤ → Did
unit_set state (MadeAs n) k unit = Gives (change_object n (set_unit k (low_bits 16 unit)) state) []
unit_set state Null k unit = Cannot
unit_set state (Lying object) k unit = Cannot

-- ---- InitializeArray: the first of the field's bytes into the whole vector; a field may have none

-- values of a type from bytes, one behind another
abbrev pub values_from : World → Ty → ℕ → ℕ → List ℕ → List Value
values_from world ty size zero bytes = []
values_from world ty size (suc count) bytes =
    value_within (deepest world ty) world (content_of world ty) bytes
    ∷ values_from world ty size count (drop size bytes)

abbrev pub elements_set : List Value → Holding → Holding
elements_set new (Elements old) = Elements new
elements_set new holds = holds

abbrev pub filled : World → CilState → ℕ → Ty → ℕ → List ℕ → Did
filled world state object ty count bytes =
    if is_plain world ty && nat_le (count * size_of world ty) (length bytes)
    then Gives (change_object object (elements_set (values_from world ty (size_of world ty) count bytes)) state) []
    else argument_wrong state

abbrev pub handle_field : Values → Option FieldName
handle_field (and (Value.BytesOf name) rest) = Some name
handle_field _ = None

abbrev pub fill_with : World → CilState → ℕ → Option Ty → Option ℕ → Option (List ℕ) → Did
fill_with world state object (Some ty) (Some count) (Some bytes) = filled world state object ty count bytes
fill_with world state object _ _ _ = argument_wrong state

abbrev pub initialize : World → CilState → Reference → Values → Did
initialize world state Null handle = Raises state NullReference
initialize world state (MadeAs n) handle =
    fill_with world state n (element_type world state (MadeAs n)) (count_of state (MadeAs n))
    (option_map (λ name. unwrap_or (field_bytes world name) []) (handle_field handle))
initialize world state (Lying object) handle = argument_wrong state

abbrev pub on_handle : Value → (Values → Did) → Did
on_handle (Value.Compound handle) next = next handle
on_handle _ next = Cannot

-- ---- look-ups by name, among the nodes of a setting if it has some

abbrev pub keeps_in : Option (List Node) → (Node → Bool) → Bool
keeps_in None test = true
keeps_in (Some nodes) test = list_any test nodes

abbrev pub keeps : Setting → (Node → Bool) → Bool
keeps setting test = keeps_in setting.nodes test

abbrev pub is_name_of : Ty → Node → Bool
is_name_of ty (Node.Name other) = same_type ty other
is_name_of ty _ = false

abbrev pub is_maker_of : Ty → Node → Bool
is_maker_of ty (Node.Maker other) = same_type ty other
is_maker_of ty _ = false

abbrev pub is_invoke_of : MethodName → Node → Bool
is_invoke_of name (Node.Invoke other) = same_method name other
is_invoke_of name _ = false

-- ---- Types: GetType, FullName

-- the object of a reference that isn't null
abbrev pub unless_null : CilState → Reference → (Reference → Did) → Did
unless_null state Null next = Raises state NullReference
unless_null state (MadeAs n) next = next (MadeAs n)
unless_null state (Lying object) next = next (Lying object)

abbrev pub unless_null_argument : CilState → Reference → (Reference → Did) → Did
unless_null_argument state Null next = argument_null state
unless_null_argument state (MadeAs n) next = next (MadeAs n)
unless_null_argument state (Lying object) next = next (Lying object)

abbrev pub type_given : CilState → Option Ty → Did
type_given state (Some ty) = given state (Value.Object (Lying (TypeOf ty)))
type_given state None = given state (Value.Object Null)

-- the type, or the method, of which an object of the image is the Type, or the MethodInfo
abbrev pub type_behind : Reference → Option Ty
type_behind (Lying (TypeOf ty)) = Some ty
type_behind _ = None

abbrev pub method_behind : Reference → Option MethodName
method_behind (Lying (MethodOf name)) = Some name
method_behind _ = None

-- the type of a full name before the first comma: the first by modules and rows that has no parameters
abbrev pub has_full_name : Setting → World → List ℕ → TypeId → Bool
has_full_name setting world name id =
    parameters world id == 0 && same_units (units (full_name (tables_at world id.module) id.row)) (before_comma name)
    && keeps setting (is_name_of (type_of world id []))

abbrev pub type_named : Setting → World → List ℕ → Option Ty
type_named setting world name =
    option_map (λ id. type_of world id []) (find (has_full_name setting world name) (all_ids world))

-- the full name of a type of which there is a Type: its definition's, with its arguments in brackets
abbrev pub in_brackets : List (List ℕ) → List ℕ
in_brackets [] = []
in_brackets (text ∷ rest) = codes "[" ++ listed_texts (text ∷ rest) ++ codes "]"

abbrev pub full_name_step : World → Ty-F (List ℕ) → List ℕ
full_name_step world (Ty-F.Prim primitive) = codes "System." ++ name_of_primitive primitive
full_name_step world (Ty-F.Named id args) = full_name (tables_at world id.module) id.row ++ in_brackets args
full_name_step world (Ty-F.Vector element) = element ++ codes "[]"
full_name_step world (Ty-F.ByRef target) = []
full_name_step world (Ty-F.Var number) = []
full_name_step world (Ty-F.MVar number) = []
full_name_step world Ty-F.Canon = []

abbrev pub full_name_of : World → Ty → List ℕ
full_name_of world = fold-Ty (List ℕ) (full_name_step world)

abbrev pub full_name_given : World → CilState → Ty → Did
full_name_given world state ty = given state (Value.Object (Lying (TextOf (units (full_name_of world ty)))))

-- ---- GetMethod: of the nearest class with a candidate, that one

abbrev pub is_by_ref_layer : {A : Type 0} → Ty-F A → Bool
is_by_ref_layer (Ty-F.ByRef target) = true
is_by_ref_layer _ = false

abbrev pub has_candidate_sig : MethodSig → Bool
has_candidate_sig sig = sig.generic == 0 && not (list_any (λ param. is_by_ref_layer (out-Ty param)) sig.params)

-- a method with the name of a constructor or of an initializer
abbrev pub is_special : List ℕ → Bool
is_special name = bytes_eq name (codes ".ctor") || bytes_eq name (codes ".cctor")

-- a public method of this name, neither a constructor nor generic, whose signature resolves and has no byref
abbrev pub is_candidate : World → TypeId → List ℕ → ℕ → Bool
is_candidate world id name row =
    let tables = tables_at world id.module in
    is_public_method tables row && same_units (units (method_name tables row)) name
    && not (is_special (method_name tables row)) && option_map_or has_candidate_sig (method_sig world id row) false

abbrev pub candidates_in : Setting → World → List ℕ → Ty → TypeId → List MethodName
candidates_in setting world name ty id =
    filter (λ method. keeps setting (is_invoke_of method))
    (map (λ row. method_named ty id.module row [])
    (filter (is_candidate world id name) (methods_of (tables_at world id.module) id.row)))

abbrev pub candidates_of : Setting → World → List ℕ → Ty → List MethodName
candidates_of setting world name ty =
    option_map_or (candidates_in setting world name ty) (own_definition world ty) []

abbrev pub first_filled : {A : Type 0} → List (List A) → List A
first_filled [] = []
first_filled ([] ∷ rest) = first_filled rest
first_filled ((item ∷ items) ∷ rest) = item ∷ items

abbrev pub nearest_candidates : Setting → World → List ℕ → Ty → List MethodName
nearest_candidates setting world name ty = first_filled (map (candidates_of setting world name) (upward world ty))

abbrev pub method_given : CilState → List MethodName → Did
method_given state [] = given state (Value.Object Null)
method_given state (name ∷ []) = given state (Value.Object (Lying (MethodOf name)))
method_given state (name ∷ (other ∷ rest)) =
    RaisesNamed state (codes "System.Reflection") (codes "AmbiguousMatchException")

-- ---- CreateInstance and Invoke push stubs

abbrev pub makes_of : World → Setting → CilState → Ty → Did
makes_of world setting state ty = pushes_frame world setting state (new_frame (Makes ty) [] [])

-- the types of what a method takes may be laid out
abbrev pub may_take : World → MethodName → Bool
may_take world name =
    option_map_or (λ callee. list_all (may_lay_out_value world) callee.params) (callee_of world name) false

-- with the object and the vector of the arguments
abbrev pub invokes_of : World → Setting → CilState → Value → Value → MethodName → Did
invokes_of world setting state object arguments name =
    if may_take world name
    then pushes_frame world setting state (new_frame (Invokes name) (object ∷ arguments ∷ []) [])
    else Ends Unchecked

-- ---- the steps

abbrev pub runtime_step : Setting → World → CilState → RuntimeCall → List Value → Did
runtime_step setting world state ObjectGetType operands =
    on_one operands (λ object. on_reference object (λ reference. unless_null state reference (λ there.
    on_some (type_of_object world state there) (λ ty. type_given state (Some ty)))))
runtime_step setting world state ObjectGetHashCode operands =
    on_one operands (λ object. on_reference object (λ reference.
    given state (Value.Int32 (pos (hash_number state reference)))))
runtime_step setting world state StringGetLength operands =
    on_one operands (λ string. on_reference string (λ reference. with_units state reference (λ units.
    given state (Value.Int32 (pos (length units))))))
runtime_step setting world state StringGetChars operands =
    on_two operands (λ string index. on_reference string (λ reference. on_int32 index (λ n.
    with_units state reference (unit_at state n))))
runtime_step setting world state StringNew operands =
    on_one operands (λ count. on_int32 count (λ n. on_some (index_of_number n) (new_string setting state)))
runtime_step setting world state StringSet operands =
    on_three operands (λ string index unit. on_reference string (λ reference. on_int32 index (λ n. on_int32 unit (λ u.
    on_some (index_of_number n) (λ k. unit_set state reference k u)))))
runtime_step setting world state InitializeArray operands =
    on_two operands (λ vector handle. on_reference vector (λ reference. on_handle handle (λ fields.
    initialize world state reference fields)))
runtime_step setting world state ConsoleWrite operands =
    on_one operands (λ byte. on_int32 byte (λ n. Writes state (low_bits 8 n)))
runtime_step setting world state ConsoleRead operands = on_none operands (Reads state)
runtime_step setting world state TypeGetType operands =
    on_one operands (λ name. on_reference name (λ reference. unless_null_argument state reference (λ there.
    on_some (units_of state there) (λ units. type_given state (type_named setting world units)))))
runtime_step setting world state TypeGetFullName operands =
    on_one operands (λ type. on_reference type (λ reference. unless_null state reference (λ there.
    on_some (type_behind there) (full_name_given world state))))
runtime_step setting world state CreateInstance operands =
    on_one operands (λ type. on_reference type (λ reference. unless_null_argument state reference (λ there.
    on_some (type_behind there) (makes_of world setting state))))
runtime_step setting world state TypeGetMethod operands =
    on_two operands (λ type name. on_reference type (λ reference. unless_null state reference (λ there.
    on_reference name (λ named. unless_null_argument state named (λ text.
    on_some (type_behind there) (λ ty. on_some (units_of state text) (λ units.
    method_given state (nearest_candidates setting world units ty))))))))
runtime_step setting world state MethodInvoke operands =
    on_three operands (λ method object arguments. on_reference method (λ reference.
    unless_null state reference (λ there. on_some (method_behind there)
    (invokes_of world setting state object arguments))))

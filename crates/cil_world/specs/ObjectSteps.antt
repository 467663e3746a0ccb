-- Fields and statics, vectors, boxing and casts: ECMA-335 III.4.
use Rattle.std.specs.Prelude.{ℕ, ◌+◌, ◌==◌, ◌&&◌, ◌||◌, nat_lt, ℤ, pos, negsuc, Bool, true, false, not}
use Rattle.std.specs.Prelude.{if◌then◌else◌, List, [], ◌∷◌, ◌++◌, codes, length, position, replicate, slice_get}
use Rattle.std.specs.Prelude.{Option, Some, None}
use Rattle.std.specs.Option.{option_map, option_map_or, option_and_then}
use Rattle.ty_terms.specs.declared.ty.Primitive.{Primitive}
use Rattle.ty_terms.specs.declared.ty.Ty.{Ty}
use Rattle.ty_terms.specs.declared.ty.Ty.TheVariants.{Prim, Vector}
use Rattle.ty_names.specs.Modules.{World}
use Rattle.ty_load.specs.Primitives.{definition_of}
use Rattle.cli_layout.specs.Fields.{placed_rows}
use Rattle.ty_load.specs.Members.{same_type}
use Rattle.il_verify.specs.Actions.{Access, FieldAction, ReadField}
use Rattle.il_verify.specs.Actions.{AddressOfField, WriteField, ReadStatic, AddressOfStatic, WriteStatic, VectorAction}
use Rattle.il_verify.specs.Actions.{NewVector, Length, ReadElementAs, WriteElementAs, ReadElement, WriteElement}
use Rattle.il_verify.specs.Actions.{AddressOfElement, CastAction, Box, Unbox, UnboxAny, CastClass, IsInstance}
use Rattle.ty_load.specs.Classes.{base_if}
use Rattle.ty_load.specs.Walks.{base_type}
use Rattle.il_verify.specs.Kinds.{Content, Compound, content_of, fits, is_reference, is_value}
use Rattle.il_verify.specs.Raises.{NullReference, IndexOutOfRange, ArrayTypeMismatch, InvalidCast, Overflow}
use Rattle.il_verify.specs.Scope.{Scope, Member, instance_field, static_field, type_token, system}
use Rattle.il_verify.specs.VectorRows.{element_of}
use Rattle.ty_load.specs.Primitives.{core_type, type_of}
use Rattle.cil_world.specs.Comparisons.{is_null}
use Rattle.cil_world.specs.Contents.{box_bytes, elements_bytes, object_fields, stored}
use Rattle.cil_world.specs.Contents.{zero_of}
use Rattle.cil_world.specs.Did.{Did, Gives, Raises, Triggers, Ends, Cannot, given, given_if, written_if}
use Rattle.cil_world.specs.Did.{on_none, on_one, on_two, on_three, on_reference, on_some}
use Rattle.cil_world.specs.Entering.{HeapBound, Unchecked, has_room, next_object, with_object, may_lay_out}
use Rattle.cil_world.specs.Entering.{may_lay_out_statics, may_lay_out_value, is_to_initialize}
use Rattle.cil_world.specs.Places.{read_place, write_place}
use Rattle.cil_world.specs.PlaceSteps.{as_read}
use Rattle.cil_world.specs.State.{CilState, Holding, Setting, Elements, Boxed}
use Rattle.cil_world.specs.Values.{Value, Reference, Null, Made as MadeAs, Lying, ImageObject, TextOf, TypeOf, MethodOf}
use Rattle.cil_world.specs.Values.{NoWords, Pointer, Nowhere, At, FieldOf, ElementOf, BoxedIn, StaticOf, Values}
use Rattle.cil_world.specs.Values.{field_in}

-- ---- objects

-- the type of an object of the image
abbrev pub type_of_image : World → ImageObject → Option Ty
type_of_image world (TextOf units) = Some (Prim Primitive.String)
type_of_image world (TypeOf ty) = system world (codes "RuntimeType")
type_of_image world (MethodOf name) =
    option_map (λ id. type_of world id []) (core_type world (codes "System.Reflection") (codes "RuntimeMethodInfo"))
type_of_image world NoWords = Some (Vector (Prim Primitive.String))

-- the type of an object; null has none
abbrev pub type_of_object : World → CilState → Reference → Option Ty
type_of_object world state Null = None
type_of_object world state (MadeAs n) = option_map (λ made. made.ty) (slice_get state.objects n)
type_of_object world state (Lying object) = type_of_image world object

abbrev pub fits_type : World → Ty → Option Ty → Bool
fits_type world to None = false
fits_type world to (Some from) = fits world from to

-- null, or an object of a type that fits
abbrev pub may_refer : World → CilState → Ty → Reference → Bool
may_refer world state to reference =
    is_null reference || fits_type world to (type_of_object world state reference)

-- an object that is an Exception
abbrev pub is_exception : World → CilState → Reference → Bool
is_exception world state object =
    option_map_or (λ ty. fits_type world ty (type_of_object world state object))
    (system world (codes "Exception")) false

-- ---- fields

abbrev pub is_compound_content : Content → Bool
is_compound_content (Compound ty) = true
is_compound_content _ = false

-- a value type that isn't an enum or a number
abbrev pub is_compound : World → Ty → Bool
is_compound world ty = is_compound_content (content_of world ty)

-- how many fields the classes above an owner have, and the place of a field among its own
abbrev pub above : World → Ty → ℕ
above world owner =
    option_map_or (λ base. length (object_fields world base))
    (base_if (base_type world owner)) 0

abbrev pub own_number : World → Member → Option ℕ
own_number world member =
    option_and_then (λ id. position (λ row. row == member.name.row) (placed_rows world id))
    (definition_of world member.name.owner)

-- the number of a field in an object of its class or of one below
abbrev pub object_number : World → Member → Option ℕ
object_number world member = option_map (λ n. above world member.name.owner + n) (own_number world member)

-- the path to a field of a value type; that of an enum names the whole place
abbrev pub field_path : World → Member → List ℕ → Option (List ℕ)
field_path world member path =
    if is_compound world member.name.owner then option_map (λ n. path ++ (n ∷ [])) (own_number world member)
    else Some path

abbrev pub address_in_object : World → Member → ℕ → Option Pointer
address_in_object world member object =
    option_map (λ n. At (FieldOf object n) [] member.ty) (object_number world member)

abbrev pub address_in_place : World → Member → Pointer → Option Pointer
address_in_place world member Nowhere = None
address_in_place world member (At root path ty) =
    option_map (λ inner. At root inner member.ty) (field_path world member path)

abbrev pub read_at : World → CilState → Option Pointer → Option Value
read_at world state (Some (At root path ty)) = read_place world state root path
read_at world state _ = None

abbrev pub write_at : World → CilState → Option Pointer → Value → Option CilState
write_at world state (Some (At root path ty)) value = write_place world root path ty value state
write_at world state _ value = None

abbrev pub address_given : CilState → Option Pointer → Did
address_given state (Some pointer) = given state (Value.Address pointer)
address_given state None = Cannot

abbrev pub field_of_value : World → Member → Values → Option Value
field_of_value world member fields =
    option_and_then (λ n. field_in n (Value.Compound fields)) (own_number world member)

-- a field of an object, of a place, or of a value
abbrev pub read_field : World → CilState → Member → Value → Did
read_field world state member (Value.Object Null) = Raises state NullReference
read_field world state member (Value.Object (MadeAs n)) =
    given_if state (read_at world state (address_in_object world member n))
read_field world state member (Value.Address Nowhere) = Raises state NullReference
read_field world state member (Value.Address (At root path ty)) =
    given_if state (read_at world state (address_in_place world member (At root path ty)))
read_field world state member (Value.Compound fields) = given_if state (field_of_value world member fields)
read_field world state member _ = Cannot

abbrev pub address_of_field : World → CilState → Member → Value → Did
address_of_field world state member (Value.Object Null) = Raises state NullReference
address_of_field world state member (Value.Object (MadeAs n)) = address_given state (address_in_object world member n)
address_of_field world state member (Value.Address Nowhere) = Raises state NullReference
address_of_field world state member (Value.Address (At root path ty)) =
    address_given state (address_in_place world member (At root path ty))
address_of_field world state member _ = Cannot

abbrev pub write_field : World → CilState → Member → Value → Value → Did
write_field world state member (Value.Object Null) value = Raises state NullReference
write_field world state member (Value.Object (MadeAs n)) value =
    written_if (write_at world state (address_in_object world member n) value)
write_field world state member (Value.Address Nowhere) value = Raises state NullReference
write_field world state member (Value.Address (At root path ty)) value =
    written_if (write_at world state (address_in_place world member (At root path ty)) value)
write_field world state member _ value = Cannot

-- ---- statics: the initializer first, and then the statics are laid out

abbrev pub static_if : Bool → Bool → Ty → Did → Did
static_if true laid owner done = Triggers owner
static_if false false owner done = Ends Unchecked
static_if false true owner done = done

-- `again` where the initializer has just run for this access
abbrev pub at_static : World → CilState → Bool → Ty → Did → Did
at_static world state again owner done =
    static_if (not again && is_to_initialize world state owner) (may_lay_out_statics world owner) owner done

abbrev pub static_place : Member → Pointer
static_place member = At (StaticOf member.name) [] member.ty

abbrev pub field_step : Scope → CilState → Bool → FieldAction → List Value → Did
field_step scope state again (ReadField token) operands =
    on_one operands (λ object. on_some (instance_field scope token) (λ member.
    read_field scope.world state member object))
field_step scope state again (AddressOfField token) operands =
    on_one operands (λ object. on_some (instance_field scope token) (λ member.
    address_of_field scope.world state member object))
field_step scope state again (WriteField token) operands =
    on_two operands (λ object value. on_some (instance_field scope token) (λ member.
    write_field scope.world state member object value))
field_step scope state again (ReadStatic token) operands =
    on_none operands (on_some (static_field scope token) (λ member.
    at_static scope.world state again member.name.owner
    (given_if state (read_at scope.world state (Some (static_place member))))))
field_step scope state again (AddressOfStatic token) operands =
    on_none operands (on_some (static_field scope token) (λ member.
    at_static scope.world state again member.name.owner (given state (Value.Address (static_place member)))))
field_step scope state again (WriteStatic token) operands =
    on_one operands (λ value. on_some (static_field scope token) (λ member.
    at_static scope.world state again member.name.owner
    (written_if (write_at scope.world state (Some (static_place member)) value))))

-- ---- vectors

-- a number as an index, if it isn't below zero
abbrev pub index_of_number : ℤ → Option ℕ
index_of_number (pos n) = Some n
index_of_number (negsuc n) = None

abbrev pub index_of : Value → Option (Option ℕ)
index_of (Value.Int32 n) = Some (index_of_number n)
index_of (Value.NativeInt n) = Some (index_of_number n)
index_of _ = None

abbrev pub vector_if_room : Bool → World → CilState → Ty → ℕ → Did
vector_if_room false world state element count = Ends HeapBound
vector_if_room true world state element count =
    Gives (with_object (Vector element) (Elements (replicate count (zero_of world element)))
    (elements_bytes world element count) state)
    (Value.Object (next_object state) ∷ [])

abbrev pub new_vector : Setting → World → CilState → Ty → Option (Option ℕ) → Did
new_vector setting world state element None = Cannot
new_vector setting world state element (Some None) = Raises state Overflow
new_vector setting world state element (Some (Some count)) =
    vector_if_room (has_room setting state (elements_bytes world element count)) world state element count

-- elements that are values are laid out
abbrev pub vector_of : Setting → World → CilState → Value → Ty → Did
vector_of setting world state count element =
    if may_lay_out_value world element then new_vector setting world state element (index_of count) else Ends Unchecked

abbrev pub count_held : Holding → Option ℕ
count_held (Elements values) = Some (length values)
count_held _ = None

-- how many elements a vector has
abbrev pub count_of : CilState → Reference → Option ℕ
count_of state Null = None
count_of state (MadeAs n) = option_and_then (λ made. count_held made.holds) (slice_get state.objects n)
count_of state (Lying NoWords) = Some 0
count_of state (Lying object) = None

abbrev pub length_given : CilState → Option ℕ → Did
length_given state (Some n) = given state (Value.NativeInt (pos n))
length_given state None = Cannot

-- what is done with the element at an index, if it is there: null, then the index
abbrev pub at_index : CilState → ℕ → Option ℕ → (ℕ → Did) → Did
at_index state count None next = Raises state IndexOutOfRange
at_index state count (Some n) next = if nat_lt n count then next n else Raises state IndexOutOfRange

abbrev pub with_count : CilState → Option ℕ → Option (Option ℕ) → (ℕ → Did) → Did
with_count state (Some count) (Some index) next = at_index state count index next
with_count state _ _ next = Cannot

abbrev pub at_element : CilState → Reference → Value → (ℕ → Did) → Did
at_element state Null index next = Raises state NullReference
at_element state (MadeAs n) index next = with_count state (count_of state (MadeAs n)) (index_of index) next
at_element state (Lying object) index next = with_count state (count_of state (Lying object)) (index_of index) next

-- the type of a vector's elements
abbrev pub element_type : World → CilState → Reference → Option Ty
element_type world state reference = option_and_then element_of (type_of_object world state reference)

abbrev pub element_place : Reference → ℕ → Ty → Option Pointer
element_place (MadeAs object) n ty = Some (At (ElementOf object n) [] ty)
element_place _ n ty = None

abbrev pub place_of_element : World → CilState → Reference → ℕ → Option Pointer
place_of_element world state vector n = option_and_then (element_place vector n) (element_type world state vector)

abbrev pub element_read : World → CilState → Reference → Access → ℕ → Did
element_read world state vector access n =
    given_if state (option_map (as_read access) (read_at world state (place_of_element world state vector n)))

abbrev pub element_loaded : World → CilState → Reference → ℕ → Did
element_loaded world state vector n = given_if state (read_at world state (place_of_element world state vector n))

-- a reference is stored only where its object fits the elements' type
abbrev pub may_be_element : World → CilState → Option Ty → Value → Bool
may_be_element world state (Some ty) (Value.Object reference) = may_refer world state ty reference
may_be_element world state _ value = true

abbrev pub element_written : World → CilState → Reference → Value → ℕ → Did
element_written world state vector value n =
    if may_be_element world state (element_type world state vector) value
    then written_if (write_at world state (place_of_element world state vector n) value)
    else Raises state ArrayTypeMismatch

-- a vector of references whose elements' type isn't exactly the token's
abbrev pub is_mismatch : World → Bool → Ty → Option Ty → Bool
is_mismatch world readonly ty None = false
is_mismatch world readonly ty (Some element) =
    is_reference world element && not readonly && not (same_type element ty)

abbrev pub element_address : World → CilState → Bool → Ty → Reference → ℕ → Did
element_address world state readonly ty vector n =
    if is_mismatch world readonly ty (element_type world state vector) then Raises state ArrayTypeMismatch
    else address_given state (element_place vector n ty)

abbrev pub length_step : CilState → Reference → Did
length_step state Null = Raises state NullReference
length_step state (MadeAs n) = length_given state (count_of state (MadeAs n))
length_step state (Lying object) = length_given state (count_of state (Lying object))

abbrev pub vector_step : Setting → Scope → CilState → Bool → VectorAction → List Value → Did
vector_step setting scope state readonly (NewVector token) operands =
    on_one operands (λ count. on_some (type_token scope token) (vector_of setting scope.world state count))
vector_step setting scope state readonly Length operands =
    on_one operands (λ vector. on_reference vector (length_step state))
vector_step setting scope state readonly (ReadElementAs access) operands =
    on_two operands (λ vector index. on_reference vector (λ reference.
    at_element state reference index (element_read scope.world state reference access)))
vector_step setting scope state readonly (WriteElementAs access) operands =
    on_three operands (λ vector index value. on_reference vector (λ reference.
    at_element state reference index (element_written scope.world state reference value)))
vector_step setting scope state readonly (ReadElement token) operands =
    on_two operands (λ vector index. on_reference vector (λ reference.
    at_element state reference index (element_loaded scope.world state reference)))
vector_step setting scope state readonly (WriteElement token) operands =
    on_three operands (λ vector index value. on_reference vector (λ reference.
    at_element state reference index (element_written scope.world state reference value)))
vector_step setting scope state readonly (AddressOfElement token) operands =
    on_two operands (λ vector index. on_reference vector (λ reference. on_some (type_token scope token) (λ ty.
    at_element state reference index (element_address scope.world state readonly ty reference))))

-- ---- boxing and casts

abbrev pub boxed_if : Bool → World → CilState → Ty → Value → Did
boxed_if false world state ty value = Ends HeapBound
boxed_if true world state ty value =
    Gives (with_object ty (Boxed (stored world ty value)) (box_bytes world ty) state)
    (Value.Object (next_object state) ∷ [])

-- a value type's value is copied into an object; a reference stays
abbrev pub box_value : Setting → World → CilState → Value → Ty → Did
box_value setting world state value ty =
    if not (is_value world ty) then given state value
    else if may_lay_out world ty then boxed_if (has_room setting state (box_bytes world ty)) world state ty value
    else Ends Unchecked

-- a boxed value of exactly the type
abbrev pub is_boxed : World → CilState → Ty → Reference → Bool
is_boxed world state ty reference =
    option_map_or (λ found. same_type found ty) (type_of_object world state reference) false

abbrev pub boxed_place : Ty → Reference → Option Pointer
boxed_place ty (MadeAs object) = Some (At (BoxedIn object) [] ty)
boxed_place ty _ = None

abbrev pub unboxed : World → CilState → Ty → Reference → (Option Pointer → Did) → Did
unboxed world state ty Null next = Raises state NullReference
unboxed world state ty reference next =
    if is_boxed world state ty reference then next (boxed_place ty reference) else Raises state InvalidCast

abbrev pub cast_class : World → CilState → Reference → Ty → Did
cast_class world state reference ty =
    if may_refer world state ty reference then given state (Value.Object reference) else Raises state InvalidCast

abbrev pub unbox_any : World → CilState → Reference → Ty → Did
unbox_any world state reference ty =
    if is_value world ty
    then unboxed world state ty reference (λ pointer. given_if state (read_at world state pointer))
    else cast_class world state reference ty

abbrev pub instance_of : World → CilState → Reference → Ty → Did
instance_of world state reference ty =
    given state (Value.Object (if may_refer world state ty reference then reference else Null))

abbrev pub cast_step : Setting → Scope → CilState → CastAction → List Value → Did
cast_step setting scope state (Box token) operands =
    on_one operands (λ value. on_some (type_token scope token) (box_value setting scope.world state value))
cast_step setting scope state (Unbox token) operands =
    on_one operands (λ object. on_reference object (λ reference. on_some (type_token scope token) (λ ty.
    unboxed scope.world state ty reference (address_given state))))
cast_step setting scope state (UnboxAny token) operands =
    on_one operands (λ object. on_reference object (λ reference. on_some (type_token scope token) (λ ty.
    unbox_any scope.world state reference ty)))
cast_step setting scope state (CastClass token) operands =
    on_one operands (λ object. on_reference object (λ reference. on_some (type_token scope token) (λ ty.
    cast_class scope.world state reference ty)))
cast_step setting scope state (IsInstance token) operands =
    on_one operands (λ object. on_reference object (λ reference. on_some (type_token scope token) (λ ty.
    instance_of scope.world state reference ty)))

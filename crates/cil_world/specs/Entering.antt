-- What a step may do at all: which methods it may enter, which types it may lay out, and what it is charged.
-- ECMA-335 I.12.3.2, I.12.4.
use Rattle.std.specs.Prelude.{ℕ, zero, suc, ◌+◌, ◌==◌, ◌&&◌, ◌||◌, max, nat_le, Bool, true, false, not, List, []}
use Rattle.std.specs.Prelude.{◌∷◌, ◌++◌, codes, find, fold, length, map, sum_by, Option, Some, None, Result, Ok, Err}
use Rattle.std.specs.Prelude.{if◌then◌else◌}
use Rattle.std.specs.Int.{next_multiple_of}
use Rattle.std.specs.List.{list_all}
use Rattle.std.specs.Option.{option_map, option_map_or, option_and_then}
use Rattle.std.specs.Str.{bytes_eq}
use Rattle.il_code.specs.declared.body.Body.{Body}
use Rattle.md_sigs.specs.declared.sig.MethodSig.{MethodSig}
use Rattle.ty_terms.specs.declared.names.FieldName.{FieldName}
use Rattle.ty_terms.specs.declared.names.MethodName.{MethodName}
use Rattle.ty_terms.specs.declared.names.TypeId.{TypeId}
use Rattle.ty_terms.specs.declared.ty.Ty.{Ty}
use Rattle.ty_terms.specs.declared.ty.Ty.TheVariants.{Prim}
use Rattle.ty_layout.specs.Frames.{frame_bytes}
use Rattle.ty_names.specs.Modules.{World, tables_at}
use Rattle.ty_names.specs.Definitions.{type_flags, has_flag, methods_of, method_name}
use Rattle.ty_load.specs.declared.fault.ResolveFault.{ResolveFault}
use Rattle.ty_load.specs.Primitives.{definition_of}
use Rattle.ty_load.specs.Classes.{classes_of}
use Rattle.ty_load.specs.Members.{method_sig}
use Rattle.ty_load.specs.Types.{is_void}
use Rattle.ty_load.specs.Walks.{base_type, interface_types}
use Rattle.cli_layout.specs.Extents.{most_bytes}
use Rattle.cli_layout.specs.Fields.{placed_rows, static_rows}
use Rattle.cli_layout.specs.Types.{laid_of, statics_of}
use Rattle.cli_layout.specs.declared.extent.Unlaid.{Unlaid}
use Rattle.cli_layout.specs.declared.rows.TypeLayout.{TypeLayout}
use Rattle.il_verify.specs.Inside.{is_inside, method_body}
use Rattle.il_verify.specs.Kinds.{Content, Number, Object, Compound, Pointing, NoContent, content_of, is_enum}
use Rattle.il_verify.specs.Kinds.{is_value}
use Rattle.il_verify.specs.Scope.{Callee, Scope, all_params, callee_of, scope_of, is_constructor, member_of}
use Rattle.il_verify.specs.Verified.{Typing, verification}
use Rattle.cil_world.specs.Contents.{deepest, own_fields, size_of}
use Rattle.cil_world.specs.State.{CilState, Frame, Holding, Running, Setting, Code, Initializes, Makes, Invokes}
use Rattle.cil_world.specs.State.{Initializing, Done, initializing}
use Rattle.cil_world.specs.Values.{Reference, Made as MadeAs}

-- ---- why a program ends with 134, and what it writes then

pub data Ending : Type 0 where
  HeapBound StackBound Unchecked Unhandled : Ending

abbrev pub line : List ℕ → List ℕ
line text = text ++ (0x0A ∷ [])

abbrev pub text_of : Ending → List ℕ
text_of HeapBound = line (codes "heap bound reached")
text_of StackBound = line (codes "stack bound reached")
text_of Unchecked = line (codes "unchecked method reached")
text_of Unhandled = line (codes "Unhandled exception")

-- ---- the heap

abbrev pub has_room : Setting → CilState → ℕ → Bool
has_room setting state bytes = nat_le (state.heap + bytes) setting.bounds.heap

-- the object that is made next, and the state with it
abbrev pub next_object : CilState → Reference
next_object state = MadeAs (length state.objects)

abbrev pub with_object : Ty → Holding → ℕ → CilState → CilState
with_object ty holds bytes state =
    record state {
      objects = state.objects ++ (record { ty = ty; holds = holds; before = state.heap } ∷ []);
      heap = state.heap + bytes;
    }

-- ---- types that may be laid out: within the limit, with bases, interfaces and fields that resolve

abbrev pub is_found : {A : Type 0} → Result A ResolveFault → Bool
is_found (Ok found) = true
is_found (Err fault) = false

abbrev pub fields_resolve : World → Ty → Bool
fields_resolve world ty =
    length (own_fields world ty)
    == option_map_or (λ id. length (placed_rows world id)) (definition_of world ty) 0

-- what a type extends, and its interfaces
abbrev pub above_resolves : World → Ty → Bool
above_resolves world ty = is_found (base_type world ty) && list_all is_found (interface_types world ty)

abbrev pub class_resolves : World → Ty → Bool
class_resolves world ty = above_resolves world ty && fields_resolve world ty

-- an enum has bases and interfaces, too, though its place holds a number
abbrev pub enum_resolves : World → Ty → Bool
enum_resolves world ty =
    not (option_map_or (is_enum world) (definition_of world ty) false) || class_resolves world ty

-- a type with its bases, and the value types in its fields
abbrev pub content_resolves : ℕ → World → Content → Bool
content_resolves left world (Number integer) = true
content_resolves left world Object = true
content_resolves left world (Pointing target) = true
content_resolves left world NoContent = true
content_resolves zero world (Compound ty) = false
content_resolves (suc left) world (Compound ty) =
    class_resolves world ty
    && list_all (λ field. enum_resolves world field && content_resolves left world (content_of world field))
    (own_fields world ty)

-- the type of a place
abbrev pub is_known_place : World → Ty → Bool
is_known_place world ty =
    enum_resolves world ty && content_resolves (deepest world ty) world (content_of world ty)

abbrev pub fields_are_known : World → Ty → Bool
fields_are_known world ty = list_all (is_known_place world) (own_fields world ty)

abbrev pub is_known_class : World → Ty → Bool
is_known_class world ty =
    list_all (λ class. class_resolves world class && fields_are_known world class) (classes_of world ty)

abbrev pub is_laid : Result TypeLayout Unlaid → Bool
is_laid (Ok layout) = true
is_laid (Err unlaid) = false

-- a type whose objects may be made, a value type boxed
abbrev pub may_lay_out : World → Ty → Bool
may_lay_out world ty = is_known_class world ty && is_laid (laid_of world ty)

-- a value type wherever it stands; other types aren't laid out there
abbrev pub may_lay_out_value : World → Ty → Bool
may_lay_out_value world ty = not (is_value world ty) || may_lay_out world ty

-- ---- statics: those of a type lie as the fields of one object do

abbrev pub static_type : World → FieldName → Option Ty
static_type world name = option_map (λ member. member.ty) (member_of world name)

abbrev pub static_types : World → Ty → List (Option Ty)
static_types world ty =
    option_map_or (λ id. map (λ row. static_type world (record { owner = ty; row = row }))
    (static_rows world id)) (definition_of world ty) []

abbrev pub is_known_static : World → Option Ty → Bool
is_known_static world None = false
is_known_static world (Some ty) = is_known_place world ty

-- A type whose statics may be laid out: its bases and interfaces are known, and so are the types of its statics. Its
-- instance fields aren't asked for.
abbrev pub may_lay_out_statics : World → Ty → Bool
may_lay_out_statics world ty =
    list_all (above_resolves world) (classes_of world ty) && list_all (is_known_static world) (static_types world ty)
    && is_laid (statics_of world ty)

-- ---- frames

abbrev pub place_bytes : World → Ty → ℕ
place_bytes world ty = next_multiple_of (size_of world ty) 8

abbrev pub places_bytes : World → List Ty → ℕ
places_bytes world types = sum_by (place_bytes world) types

abbrev pub widest : World → List Ty → ℕ
widest world types = fold (λ bytes ty. max bytes (place_bytes world ty)) 8 types

-- A method that may be entered: its body, what its code stands in, and the bytes of its frame.
pub record Entry : Type 0 where
  pub body : Body
  pub scope : Scope
  pub bytes : ℕ

abbrev pub entry_bytes : World → Scope → Body → Typing → ℕ
entry_bytes world scope body typing =
    frame_bytes (places_bytes world scope.args) (places_bytes world scope.locals) body.max_stack
    (widest world typing.values)

abbrev pub lays_out_frame : World → Scope → Typing → Bool
lays_out_frame world scope typing =
    list_all (may_lay_out_value world) scope.args && list_all (may_lay_out_value world) scope.locals
    && list_all (may_lay_out_value world) typing.values

abbrev pub entry_with : World → Body → Scope → Result Typing ℕ → Option Entry
entry_with world body scope (Err offset) = None
entry_with world body scope (Ok typing) =
    if lays_out_frame world scope typing && nat_le (entry_bytes world scope body typing) most_bytes
    then Some (record { body = body; scope = scope; bytes = entry_bytes world scope body typing })
    else None

abbrev pub entry_in : World → MethodName → Body → Option Scope → Option Entry
entry_in world name body None = None
entry_in world name body (Some scope) =
    if is_inside world name body then entry_with world body scope (verification world name body) else None

-- a method with CIL that is inside and verified, and whose frame is within the limit
unfoldable pub entry : World → MethodName → Option Entry
entry world name =
    option_and_then (λ body. entry_in world name body (scope_of world name body)) (method_body world name.method)

-- what a frame runs that is no stub
abbrev pub entry_of_running : World → Running → Option Entry
entry_of_running world (Code name) = entry world name
entry_of_running world (Initializes ty resumes) = None
entry_of_running world (Makes ty) = None
entry_of_running world (Invokes name) = None

abbrev pub stub_bytes : ℕ
stub_bytes = 256

-- all that a method takes, the object counted, each rounded up to 8
abbrev pub argument_bytes : World → MethodName → ℕ
argument_bytes world name =
    option_map_or (λ callee. places_bytes world (all_params callee)) (callee_of world name) 0

-- a stub that calls a method by its name has room for what the method takes
abbrev pub bytes_of_running : World → Running → ℕ
bytes_of_running world (Code name) = option_map_or (λ found. found.bytes) (entry world name) 0
bytes_of_running world (Initializes ty resumes) = stub_bytes
bytes_of_running world (Makes ty) = stub_bytes
bytes_of_running world (Invokes name) = stub_bytes + argument_bytes world name

abbrev pub bytes_of_frames : World → List Frame → ℕ
bytes_of_frames world [] = 0
bytes_of_frames world (frame ∷ below) = bytes_of_running world frame.runs + bytes_of_frames world below

abbrev pub has_stack : World → Setting → List Frame → ℕ → Bool
has_stack world setting frames bytes = nat_le (bytes_of_frames world frames + bytes) setting.bounds.stack

-- ---- initializers (II.10.5.3)

abbrev pub is_empty : List Ty → Bool
is_empty [] = true
is_empty (ty ∷ rest) = false

abbrev pub is_initializer_sig : MethodSig → Bool
is_initializer_sig sig =
    not sig.instance && sig.generic == 0 && is_empty sig.params && is_void sig.result

-- a static `.cctor` that takes and gives nothing
abbrev pub is_initializer : World → TypeId → ℕ → Bool
is_initializer world id row =
    bytes_eq (method_name (tables_at world id.module) row) (codes ".cctor")
    && option_map_or is_initializer_sig (method_sig world id row) false

abbrev pub initializer_with : World → Ty → TypeId → Option MethodName
initializer_with world ty id =
    option_map (λ row. record { owner = ty; method = record { «module» = id.module; row = row }; args = [] })
    (find (is_initializer world id) (methods_of (tables_at world id.module) id.row))

abbrev pub initializer_of : World → Ty → Option MethodName
initializer_of world ty = option_and_then (initializer_with world ty) (definition_of world ty)

abbrev pub is_done : Option Initializing → Bool
is_done (Some Done) = true
is_done _ = false

-- a type has an initializer that hasn't run to its end
abbrev pub is_to_initialize : World → CilState → Ty → Bool
is_to_initialize world state ty =
    option_map_or (λ name. true) (initializer_of world ty) false && not (is_done (initializing state ty))

-- with BeforeFieldInit only a static field triggers (II.10.5.3.1)
abbrev pub is_before_field : World → Ty → Bool
is_before_field world ty =
    option_map_or (λ id. has_flag (type_flags (tables_at world id.module) id.row) 0x0010_0000)
    (definition_of world ty) false

-- a static method, a constructor, or a method of a value type
abbrev pub is_triggering : World → Callee → Bool
is_triggering world callee =
    callee.is_static || is_constructor world callee.name || is_value world callee.name.owner

-- a call of a method runs its type's initializer first
abbrev pub triggers : World → CilState → Callee → Bool
triggers world state callee =
    is_to_initialize world state callee.name.owner && not (is_before_field world callee.name.owner)
    && is_triggering world callee

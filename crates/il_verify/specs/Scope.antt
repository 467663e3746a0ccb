-- What the code of a method stands in: the types of its arguments, locals and result, with the arguments of its type
-- and its own in place of variables, and what its tokens lead to. ECMA-335 II.15.4, III.1.9.
use Rattle.std.specs.Prelude.{ℕ, ◌/◌, ◌%◌, ◌^◌, ◌==◌, ◌&&◌, nat_le, Bool, not, if◌then◌else◌, List, [], ◌∷◌}
use Rattle.std.specs.Prelude.{map, codes, length, Option, Some, None, Result, Ok, Err}
use Rattle.std.specs.Option.{option_map, option_and_then}
use Rattle.std.specs.Str.{bytes_eq}
use Rattle.md_sigs.specs.declared.fault.SigFault.{SigFault}
use Rattle.md_sigs.specs.declared.sig.Sig.{Sig}
use Rattle.md_sigs.specs.declared.sig.MethodSig.{MethodSig}
use Rattle.ty_terms.specs.declared.names.FieldName.{FieldName}
use Rattle.ty_terms.specs.declared.names.MethodName.{MethodName}
use Rattle.ty_terms.specs.declared.names.TypeId.{TypeId}
use Rattle.ty_terms.specs.declared.ty.Ty.{Ty}
use Rattle.ty_terms.specs.declared.ty.Ty.TheVariants.{ByRef}
use Rattle.ty_terms.specs.Subst.{substituted}
use Rattle.il_code.specs.declared.body.Body.{Body}
use Rattle.ty_names.specs.Modules.{World, tables_at, row_count, cell_at, blob_of}
use Rattle.ty_names.specs.Definitions.{is_static_field, method_name}
use Rattle.ty_load.specs.declared.fault.ResolveFault.{ResolveFault}
use Rattle.ty_load.specs.declared.item.Item.{Item}
use Rattle.ty_load.specs.declared.item.Item.TheVariants.{OfType, OfMethod, OfField, OfText}
use Rattle.ty_load.specs.Primitives.{definition_of, system_type, type_of}
use Rattle.md_sigs.specs.Signatures.{signature}
use Rattle.ty_load.specs.Members.{field_sig, method_sig, signature_types}
use Rattle.ty_load.specs.Tokens.{resolution}
use Rattle.ty_load.specs.Walks.{arguments}
use Rattle.il_verify.specs.Kinds.{is_value}

-- ---- what methods take and give

-- A method with the types of what it takes, the object first where it has one, and of what it gives.
pub record Callee : Type 0 where
  pub name : MethodName
  pub is_static : Bool
  pub receiver : Ty
  pub params : List Ty
  pub result : Ty

-- the object of a value type's method is given by a pointer to it (I.8.6.1.5)
abbrev pub receiver_of : World → Ty → Ty
receiver_of world owner = if is_value world owner then ByRef owner else owner

abbrev pub callee_with : World → MethodName → MethodSig → Callee
callee_with world name sig =
    record {
      name = name;
      is_static = not sig.instance;
      receiver = receiver_of world name.owner;
      params = map (substituted (arguments name.owner) name.args) sig.params;
      result = substituted (arguments name.owner) name.args sig.result;
    }

-- the method of a name, if its signature resolves
abbrev pub callee_of : World → MethodName → Option Callee
callee_of world name =
    option_and_then (λ id. option_map (callee_with world name) (method_sig world id name.method.row))
    (definition_of world name.owner)

-- all that a method takes
abbrev pub all_params : Callee → List Ty
all_params callee = if callee.is_static then callee.params else callee.receiver ∷ callee.params

abbrev pub is_constructor : World → MethodName → Bool
is_constructor world name =
    bytes_eq (method_name (tables_at world name.method.module) name.method.row) (codes ".ctor")

-- ---- locals (II.22.36, II.23.2.6)

abbrev pub locals_if : World → MethodName → Result Sig SigFault → Option (List Ty)
locals_if world name (Ok (Sig.Locals types)) =
    option_map (map (substituted (arguments name.owner) name.args))
    (signature_types world name.method.module (length (arguments name.owner)) (length name.args) types)
locals_if world name _ = None

abbrev pub is_signature_token : World → ℕ → ℕ → Bool
is_signature_token world number token =
    token / 2 ^ 24 == 0x11 && nat_le 1 (token % 2 ^ 24)
    && nat_le (token % 2 ^ 24) (row_count (tables_at world number) 0x11)

-- the types of the locals that a token of a module tells, or none for 0
abbrev pub locals_of : World → MethodName → ℕ → Option (List Ty)
locals_of world name token =
    let number = name.method.module in
    if token == 0 then Some []
    else if is_signature_token world number token
    then locals_if world name
    (signature number (blob_of (cell_at (tables_at world number) 0x11 (token % 2 ^ 24) 0)))
    else None

-- ---- scopes

pub record Scope : Type 0 where
  pub world : World
  pub name : MethodName
  pub args : List Ty
  pub locals : List Ty
  pub result : Ty

abbrev pub scope_with : World → Callee → List Ty → Scope
scope_with world callee locals =
    record { world = world; name = callee.name; args = all_params callee; locals = locals; result = callee.result }

-- what the code of a body of a method stands in, if the method's signature and locals resolve
abbrev pub scope_of : World → MethodName → Body → Option Scope
scope_of world name body =
    option_and_then (λ callee. option_map (scope_with world callee) (locals_of world name body.locals))
    (callee_of world name)

-- ---- tokens

abbrev pub if_found : Result Item ResolveFault → Option Item
if_found (Ok item) = Some item
if_found (Err fault) = None

-- the item that a token in the code leads to
abbrev pub item : Scope → ℕ → Option Item
item scope token =
    if_found (resolution scope.world scope.name.method.module token (arguments scope.name.owner) scope.name.args)

abbrev pub if_type : Item → Option Ty
if_type (OfType ty) = Some ty
if_type _ = None

abbrev pub if_method : Item → Option MethodName
if_method (OfMethod name) = Some name
if_method _ = None

abbrev pub if_field : Item → Option FieldName
if_field (OfField name) = Some name
if_field _ = None

abbrev pub if_text : Item → Option (List ℕ)
if_text (OfText units) = Some units
if_text _ = None

abbrev pub type_token : Scope → ℕ → Option Ty
type_token scope token = option_and_then if_type (item scope token)

abbrev pub text_token : Scope → ℕ → Option (List ℕ)
text_token scope token = option_and_then if_text (item scope token)

abbrev pub method_token : Scope → ℕ → Option Callee
method_token scope token =
    option_and_then (callee_of scope.world) (option_and_then if_method (item scope token))

-- A field with its type, in which the arguments of its owner stand.
pub record Member : Type 0 where
  pub name : FieldName
  pub is_static : Bool
  pub ty : Ty

abbrev pub member_with : FieldName → Bool → Ty → Member
member_with name static ty =
    record { name = name; is_static = static; ty = substituted (arguments name.owner) [] ty }

abbrev pub member_in : World → FieldName → TypeId → Option Member
member_in world name id =
    option_map (member_with name (is_static_field (tables_at world id.module) name.row)) (field_sig world id name.row)

abbrev pub member_of : World → FieldName → Option Member
member_of world name = option_and_then (member_in world name) (definition_of world name.owner)

abbrev pub field_token : Scope → ℕ → Option Member
field_token scope token = option_and_then (member_of scope.world) (option_and_then if_field (item scope token))

abbrev pub instance_only : Member → Option Member
instance_only member = if member.is_static then None else Some member

abbrev pub static_only : Member → Option Member
static_only member = if member.is_static then Some member else None

-- an instance field, and a static one, that a token leads to
abbrev pub instance_field : Scope → ℕ → Option Member
instance_field scope token = option_and_then instance_only (field_token scope token)

abbrev pub static_field : Scope → ℕ → Option Member
static_field scope token = option_and_then static_only (field_token scope token)

-- a type of the namespace System of the core, by its name
abbrev pub system : World → List ℕ → Option Ty
system world name = option_map (λ id. type_of world id []) (system_type world name)

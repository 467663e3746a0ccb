-- Canonical types: `Canon` stands for each argument that is a reference type.
use Rattle.std.specs.Prelude.{Bool, true, false, not, ◌&&◌, ◌==◌, if◌then◌else◌, List, map}
use Rattle.std.specs.List.{list_any}
use Rattle.ty_terms.specs.declared.names.MethodName.{MethodName}
use Rattle.ty_terms.specs.declared.names.TypeId.{TypeId}
use Rattle.ty_terms.specs.declared.ty.Primitive.TheVariants.{String, Object}
use Rattle.ty_terms.specs.declared.ty.Ty.{Ty}
use Rattle.ty_terms.specs.declared.ty.Ty.TheVariants.{Named, Canon}
use Rattle.ty_terms.specs.declared.ty.Ty.TheOpen.{Ty-F}
use Rattle.ty_terms.specs.declared.ty.Ty.TheViews.{roll-Ty, out-Ty}
use Rattle.ty_terms.specs.declared.ty.Ty.TheFolds.{fold-Ty}

-- whether a list of ids has this one
abbrev pub is_value_id : List TypeId → TypeId → Bool
is_value_id values id = list_any (λ value. (value.module == id.module) && (value.row == id.row)) values

-- strings, objects, vectors and the named types that are no value types (ECMA-335 I.8.2.1)
abbrev pub is_reference_layer : {A : Type 0} → List TypeId → Ty-F A → Bool
is_reference_layer values (Ty-F.Prim String) = true
is_reference_layer values (Ty-F.Prim Object) = true
is_reference_layer values (Ty-F.Named id args) = not (is_value_id values id)
is_reference_layer values (Ty-F.Vector element) = true
is_reference_layer values Ty-F.Canon = true
is_reference_layer values _ = false

abbrev pub is_reference_type : List TypeId → Ty → Bool
is_reference_type values ty = is_reference_layer values (out-Ty ty)

-- what an argument becomes, given its own canonical type
abbrev pub shared : List TypeId → Ty → Ty
shared values ty = if is_reference_type values ty then Canon else ty

-- one layer of a type, with the canonical type of each inner type in its place
abbrev pub canon_step : List TypeId → Ty-F Ty → Ty
canon_step values (Ty-F.Named id args) = Named id (map (shared values) args)
canon_step values layer = roll-Ty layer

abbrev pub canonical : List TypeId → Ty → Ty
canonical values = fold-Ty Ty (canon_step values)

-- an argument that is a reference type becomes `Canon`, and any other its canonical type
abbrev pub canonical_argument : List TypeId → Ty → Ty
canonical_argument values ty = if is_reference_type values ty then Canon else canonical values ty

-- the method whose code a method runs by: the canonical type of its owner, and each argument as shared code has it
abbrev pub canonical_form : List TypeId → MethodName → MethodName
canonical_form values name = record {
  owner = canonical values name.owner;
  method = name.method;
  args = map (canonical_argument values) name.args;
}

-- The types of the core that have an element type of their own: II.23.1.16.
use Rattle.std.specs.Prelude.{ℕ, ◌==◌, ◌&&◌, if◌then◌else◌, List, [], ◌∷◌, codes, find, Option, Some, None}
use Rattle.std.specs.Str.{bytes_eq}
use Rattle.md_tables.specs.declared.module.Table.{Table}
use Rattle.ty_terms.specs.declared.names.TypeId.{TypeId}
use Rattle.ty_terms.specs.declared.ty.Primitive.{Primitive}
use Rattle.ty_terms.specs.declared.ty.Primitive.TheVariants.{Void, Boolean, Char, I1, U1, I2, U2, I4, U4, I8, U8}
use Rattle.ty_terms.specs.declared.ty.Primitive.TheVariants.{String, I, U, Object}
use Rattle.ty_terms.specs.declared.ty.Ty.{Ty}
use Rattle.ty_terms.specs.declared.ty.Ty.TheVariants.{Prim, Named}
use Rattle.ty_terms.specs.declared.ty.Ty.TheOpen.{Ty-F}
use Rattle.ty_terms.specs.declared.ty.Ty.TheViews.{out-Ty}
use Rattle.ty_names.specs.Modules.{World, core_of, tables_at}
use Rattle.ty_names.specs.Definitions.{type_name, type_namespace, enclosing}
use Rattle.ty_names.specs.References.{type_in}

-- the name in the namespace System of each primitive type
abbrev pub name_of_primitive : Primitive → List ℕ
name_of_primitive Void = codes "Void"
name_of_primitive Boolean = codes "Boolean"
name_of_primitive Char = codes "Char"
name_of_primitive I1 = codes "SByte"
name_of_primitive U1 = codes "Byte"
name_of_primitive I2 = codes "Int16"
name_of_primitive U2 = codes "UInt16"
name_of_primitive I4 = codes "Int32"
name_of_primitive U4 = codes "UInt32"
name_of_primitive I8 = codes "Int64"
name_of_primitive U8 = codes "UInt64"
name_of_primitive String = codes "String"
name_of_primitive I = codes "IntPtr"
name_of_primitive U = codes "UIntPtr"
name_of_primitive Object = codes "Object"

abbrev pub primitives : List Primitive
primitives =
    Void ∷ Boolean ∷ Char ∷ I1 ∷ U1 ∷ I2 ∷ U2 ∷ I4 ∷ U4 ∷ I8 ∷ U8 ∷ String ∷ I ∷ U ∷ Object ∷ []

abbrev pub primitive_named : List ℕ → Option Primitive
primitive_named name = find (λ primitive. bytes_eq name (name_of_primitive primitive)) primitives

-- the primitive type that a definition is: one of the core, in the namespace System and not nested
abbrev pub primitive_in : List Table → ℕ → Option Primitive
primitive_in tables row =
    if enclosing tables row == 0 && bytes_eq (type_namespace tables row) (codes "System")
    then primitive_named (type_name tables row) else None

abbrev pub primitive_of : World → TypeId → Option Primitive
primitive_of world id =
    if id.module == core_of world then primitive_in (tables_at world id.module) id.row else None

abbrev pub primitive_or : Option Primitive → Ty → Ty
primitive_or None other = other
primitive_or (Some primitive) other = Prim primitive

-- A type by its definition and its arguments. One that has an element type of its own is that, however it is spelled.
abbrev pub type_of : World → TypeId → List Ty → Ty
type_of world id args = primitive_or (primitive_of world id) (Named id args)

-- the type of the core of a namespace and a name
abbrev pub core_type : World → List ℕ → List ℕ → Option TypeId
core_type world namespace name = type_in world (core_of world) 0 namespace name

abbrev pub system_type : World → List ℕ → Option TypeId
system_type world name = core_type world (codes "System") name

-- the definition of a type; that of a vector is System.Array
abbrev pub definition_of_layer : {A : Type 0} → World → Ty-F A → Option TypeId
definition_of_layer world (Ty-F.Prim primitive) = system_type world (name_of_primitive primitive)
definition_of_layer world (Ty-F.Named id args) = Some id
definition_of_layer world (Ty-F.Vector element) = system_type world (codes "Array")
definition_of_layer world _ = None

abbrev pub definition_of : World → Ty → Option TypeId
definition_of world ty = definition_of_layer world (out-Ty ty)

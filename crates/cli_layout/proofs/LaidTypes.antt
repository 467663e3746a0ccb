-- The fields of what is laid out are laid.
use Rattle.std.proofs.Common.{◌≡◌, ℕ, Bool, true, false, List, [], ◌∷◌, Option, Some, None, Result, Ok, Err, refl}
use Rattle.std.proofs.Common.{subst}
use Rattle.std.specs.Prelude.{if◌then◌else◌, nat_le}
use Rattle.std.specs.List.{flat_map}
use Rattle.std.specs.Option.{option_map_or}
use Rattle.ty_terms.specs.declared.names.TypeId.{TypeId}
use Rattle.ty_terms.specs.declared.ty.Primitive.{Primitive}
use Rattle.ty_terms.specs.declared.ty.Primitive.TheVariants.{Void, Boolean, Char, I1, U1, I2, U2, I4, U4, I8, U8}
use Rattle.ty_terms.specs.declared.ty.Primitive.TheVariants.{String, I, U, Object}
use Rattle.ty_terms.specs.declared.ty.Ty.{Ty}
use Rattle.ty_terms.specs.declared.ty.Ty.TheOpen.{Ty-F}
use Rattle.ty_terms.specs.declared.ty.Ty.TheViews.{out-Ty}
use Rattle.ty_layout.specs.declared.field.Field.{Field}
use Rattle.ty_layout.specs.Fields.{AreLaid}
use Rattle.ty_layout.specs.Objects.{boxed_bytes, object, string_bytes, value_type, vector_bytes}
use Rattle.ty_names.specs.Modules.{World}
use Rattle.ty_load.specs.Bases.{is_value_type}
use Rattle.ty_load.specs.Primitives.{definition_of}
use Rattle.cli_layout.specs.declared.extent.Unlaid.{Unlaid}
use Rattle.cli_layout.specs.declared.extent.Unlaid.TheVariants.{TooLarge}
use Rattle.cli_layout.specs.declared.rows.TypeLayout.{TypeLayout}
use Rattle.cli_layout.specs.Extents.{most_bytes, primitive_field}
use Rattle.cli_layout.specs.Fields.{asked_size, placed_fields, static_fields}
use Rattle.cli_layout.specs.Types.{arguments_of, bare, class_laid, class_parts, fields_in, itself, laid_if, laid_layer}
use Rattle.cli_layout.specs.Types.{laid_of, object_with, one_part, primitive_laid, statics_in, statics_of, value_laid}
use Rattle.cli_layout.specs.Types.{value_with}

abbrev pub IsLaid : TypeLayout → Type 0
IsLaid layout = AreLaid layout.fields layout.laid

-- whatever is laid out has its fields laid
abbrev pub IfLaid : Result TypeLayout Unlaid → Type 0
IfLaid told = (layout : TypeLayout) → told ≡ Ok layout → IsLaid layout

if_bare : (size : ℕ) → IsLaid (bare size)
if_bare size =
    record {
      count = refl;
      in_order = λ i j f g p q a b c d e. absurd (let h : None ≡ Some f = a in cc);
      aligned = λ i f p a b. absurd (let h : None ≡ Some f = a in cc);
      within = λ i f p a b. absurd (let h : None ≡ Some f = a in cc);
    }

told : (layout : TypeLayout) → IsLaid layout → IfLaid (Ok layout)
told layout laid other e = subst IsLaid (let h : Ok layout ≡ Ok other = e in cc) laid

never : (unlaid : Unlaid) → IfLaid (Err unlaid)
never unlaid layout e = absurd (let h : Err unlaid ≡ Ok layout = e in cc)

choice : (b : Bool) (first second : Result TypeLayout Unlaid) → IfLaid first → IfLaid second
    → IfLaid (if b then first else second)
choice true first second f s = f
choice false first second f s = s

laid_if_laid : {A : Type 0} (in_object : ℕ → ℕ) (lay : A → TypeLayout) (parts : Result A Unlaid)
    → ((a : A) → IsLaid (lay a)) → IfLaid (laid_if in_object lay parts)
laid_if_laid in_object lay (Err unlaid) laid = never unlaid
laid_if_laid in_object lay (Ok parts) laid =
    choice (nat_le (in_object (lay parts).laid.size) most_bytes) (Ok (lay parts)) (Err TooLarge)
    (told (lay parts) (laid parts)) (never TooLarge)

module _ (object_laid : (parts : List (List Field)) → AreLaid (flat_map (λ part. part) parts) (object parts))
    (fields_laid : (least : ℕ) (fields : List Field) → AreLaid fields (value_type least fields)) where
  of_class : (world : World) (ty : Ty) (id : TypeId) → IfLaid (class_laid world ty id)
  of_class world ty id = laid_if_laid itself object_with (class_parts world ty id) object_laid

  of_value : (world : World) (ty : Ty) (id : TypeId) → IfLaid (value_laid world ty id)
  of_value world ty id =
      laid_if_laid boxed_bytes (value_with (asked_size world id))
      (fields_in world (arguments_of world ty) id (placed_fields world id)) (fields_laid (asked_size world id))

  of_object : (world : World) (ty : Ty) (id : Option TypeId)
      → IfLaid (option_map_or (class_laid world ty) id (Ok (bare 8)))
  of_object world ty None = told (bare 8) (if_bare 8)
  of_object world ty (Some id) = of_class world ty id

  of_primitive : (world : World) (ty : Ty) (primitive : Primitive) → IfLaid (primitive_laid world ty primitive)
  of_primitive world ty Object = of_object world ty (definition_of world ty)
  of_primitive world ty String = told (bare (string_bytes 0)) (if_bare (string_bytes 0))
  of_primitive world ty Void = told (bare (primitive_field Void).size) (if_bare (primitive_field Void).size)
  of_primitive world ty Boolean = told (bare (primitive_field Boolean).size) (if_bare (primitive_field Boolean).size)
  of_primitive world ty Char = told (bare (primitive_field Char).size) (if_bare (primitive_field Char).size)
  of_primitive world ty I1 = told (bare (primitive_field I1).size) (if_bare (primitive_field I1).size)
  of_primitive world ty U1 = told (bare (primitive_field U1).size) (if_bare (primitive_field U1).size)
  of_primitive world ty I2 = told (bare (primitive_field I2).size) (if_bare (primitive_field I2).size)
  of_primitive world ty U2 = told (bare (primitive_field U2).size) (if_bare (primitive_field U2).size)
  of_primitive world ty I4 = told (bare (primitive_field I4).size) (if_bare (primitive_field I4).size)
  of_primitive world ty U4 = told (bare (primitive_field U4).size) (if_bare (primitive_field U4).size)
  of_primitive world ty I8 = told (bare (primitive_field I8).size) (if_bare (primitive_field I8).size)
  of_primitive world ty U8 = told (bare (primitive_field U8).size) (if_bare (primitive_field U8).size)
  of_primitive world ty I = told (bare (primitive_field I).size) (if_bare (primitive_field I).size)
  of_primitive world ty U = told (bare (primitive_field U).size) (if_bare (primitive_field U).size)

  of_layer : (world : World) (ty : Ty) (layer : Ty-F Ty) → IfLaid (laid_layer world ty layer)
  of_layer world ty (Ty-F.Prim primitive) = of_primitive world ty primitive
  of_layer world ty (Ty-F.Named id args) =
      choice (is_value_type world id) (value_laid world ty id) (class_laid world ty id) (of_value world ty id)
      (of_class world ty id)
  of_layer world ty (Ty-F.Vector element) = told (bare (vector_bytes 0 0)) (if_bare (vector_bytes 0 0))
  of_layer world ty (Ty-F.ByRef target) = told (bare 8) (if_bare 8)
  of_layer world ty (Ty-F.Var n) = told (bare 8) (if_bare 8)
  of_layer world ty (Ty-F.MVar n) = told (bare 8) (if_bare 8)
  of_layer world ty Ty-F.Canon = told (bare 8) (if_bare 8)

  pub of_type : (world : World) (ty : Ty) → IfLaid (laid_of world ty)
  unfolding laid_of
  of_type world ty = of_layer world ty (out-Ty ty)

  of_statics_in : (world : World) (ty : Ty) (id : Option TypeId) → IfLaid (statics_in world ty id)
  of_statics_in world ty None = told (bare 8) (if_bare 8)
  of_statics_in world ty (Some id) =
      laid_if_laid itself one_part (fields_in world (arguments_of world ty) id (static_fields world id))
      (λ fields. object_laid (fields ∷ []))

  pub of_statics : (world : World) (ty : Ty) → IfLaid (statics_of world ty)
  unfolding statics_of
  of_statics world ty = of_statics_in world ty (definition_of world ty)

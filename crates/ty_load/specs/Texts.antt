-- The texts of types, methods, fields and nodes.
use Rattle.std.specs.Prelude.{ℕ, ◌==◌, ◌&&◌, ◌++◌, nat_lt, nat_le, Bool, not, if◌then◌else◌, List, [], ◌∷◌, map}
use Rattle.std.specs.Prelude.{codes, Option, Some, None}
use Rattle.std.specs.Fmt.{decimal}
use Rattle.std.specs.List.{list_any, flat_map}
use Rattle.std.specs.Str.{bytes_eq}
use Rattle.ty_terms.specs.declared.names.FieldName.{FieldName}
use Rattle.ty_terms.specs.declared.names.MethodId.{MethodId}
use Rattle.ty_terms.specs.declared.names.TypeId.{TypeId}
use Rattle.ty_terms.specs.declared.nodes.Node.{Node}
use Rattle.ty_terms.specs.declared.ty.Ty.{Ty}
use Rattle.ty_terms.specs.declared.ty.Ty.TheOpen.{Ty-F}
use Rattle.ty_terms.specs.declared.ty.Ty.TheFolds.{fold-Ty}
use Rattle.ty_terms.specs.Subst.{substituted}
use Rattle.md_sigs.specs.declared.sig.MethodSig.{MethodSig}
use Rattle.ty_names.specs.Modules.{World, tables_at}
use Rattle.ty_names.specs.Definitions.{fields_of, methods_of, field_name, method_name, method_blob}
use Rattle.ty_names.specs.Escapes.{name_text, escaped}
use Rattle.ty_names.specs.TypeTexts.{definition_text}
use Rattle.ty_load.specs.Primitives.{name_of_primitive, definition_of}
use Rattle.md_sigs.specs.Signatures.{signature}
use Rattle.ty_load.specs.Members.{method_sig_if}
use Rattle.ty_load.specs.Walks.{arguments}

-- ---- types

-- texts with a comma between each two
abbrev pub listed_texts : List (List ℕ) → List ℕ
listed_texts [] = []
listed_texts (text ∷ []) = text
listed_texts (text ∷ (next ∷ rest)) = text ++ codes "," ++ listed_texts (next ∷ rest)

abbrev pub in_angles : List (List ℕ) → List ℕ
in_angles [] = []
in_angles (text ∷ rest) = codes "<" ++ listed_texts (text ∷ rest) ++ codes ">"

abbrev pub text_step : World → Ty-F (List ℕ) → List ℕ
text_step world (Ty-F.Prim primitive) = codes "System." ++ name_of_primitive primitive
text_step world (Ty-F.Named id args) = definition_text world id ++ in_angles args
text_step world (Ty-F.Vector element) = element ++ codes "[]"
text_step world (Ty-F.ByRef target) = target ++ codes "&"
text_step world (Ty-F.Var n) = codes "!" ++ decimal n
text_step world (Ty-F.MVar n) = codes "!!" ++ decimal n
text_step world Ty-F.Canon = codes "?"

abbrev pub type_text : World → Ty → List ℕ
type_text world = fold-Ty (List ℕ) (text_step world)

abbrev pub type_texts : World → List Ty → List (List ℕ)
type_texts world types = map (type_text world) types

-- ---- methods

abbrev pub signature_text : World → List Ty → List Ty → Option MethodSig → List ℕ
signature_text world owner method None = codes "(?)"
signature_text world owner method (Some sig) =
    codes "(" ++ listed_texts (type_texts world (map (substituted owner method) sig.params)) ++ codes ")->"
    ++ type_text world (substituted owner method sig.result)

-- `Type::name<A,B>(P,Q)->R`; a signature that has no reading, or a type of which leads to nothing, is `(?)`
abbrev pub plain_method_text : World → Ty → Option TypeId → ℕ → ℕ → List Ty → List ℕ
plain_method_text world owner None number row args = []
plain_method_text world owner (Some id) number row args =
    type_text world owner ++ codes "::" ++ name_text (method_name (tables_at world number) row)
    ++ in_angles (type_texts world args)
    ++ signature_text world (arguments owner) args
    (method_sig_if world id (signature number (method_blob (tables_at world number) row)))

abbrev pub rows_of_methods : World → Option TypeId → List ℕ
rows_of_methods world None = []
rows_of_methods world (Some id) = methods_of (tables_at world id.module) id.row

abbrev pub with_row_if : Bool → ℕ → List ℕ → List ℕ
with_row_if again row text = if again then text ++ codes "#" ++ decimal row else text

-- whether another row has the same text
abbrev pub has_same : (ℕ → List ℕ) → List ℕ → ℕ → Bool
has_same text_of rows row = list_any (λ other. not (other == row) && bytes_eq (text_of other) (text_of row)) rows

abbrev pub told_apart : (ℕ → List ℕ) → List ℕ → ℕ → List ℕ
told_apart text_of rows row = with_row_if (has_same text_of rows row) row (text_of row)

-- The text of a method; where another method of its type has the same one, `#` and the row follow.
abbrev pub method_text : World → Ty → MethodId → List Ty → List ℕ
method_text world owner method args =
    told_apart (λ row. plain_method_text world owner (definition_of world owner) method.module row args)
    (rows_of_methods world (definition_of world owner)) method.row

-- ---- fields

abbrev pub plain_field_text : World → Ty → Option TypeId → ℕ → List ℕ
plain_field_text world owner None row = []
plain_field_text world owner (Some id) row =
    type_text world owner ++ codes "::" ++ name_text (field_name (tables_at world id.module) row)

abbrev pub rows_of_fields : World → Option TypeId → List ℕ
rows_of_fields world None = []
rows_of_fields world (Some id) = fields_of (tables_at world id.module) id.row

abbrev pub field_text : World → FieldName → List ℕ
field_text world name =
    told_apart (plain_field_text world name.owner (definition_of world name.owner))
    (rows_of_fields world (definition_of world name.owner)) name.row

-- ---- nodes

-- in a string what isn't printed, quotes and backslashes are escaped
abbrev pub is_plain_in_string : ℕ → Bool
is_plain_in_string unit = nat_le 0x20 unit && nat_lt unit 0x7F && not (unit == 0x22) && not (unit == 0x5C)

abbrev pub quoted : List ℕ → List ℕ
quoted units =
    0x22 ∷ flat_map (λ unit. if is_plain_in_string unit then unit ∷ [] else escaped unit) units ++ 0x22 ∷ []

abbrev pub node_text : World → Node → List ℕ
node_text world (Node.Method m) = codes "Method " ++ method_text world m.owner m.method m.args
node_text world (Node.TypeOf ty) = codes "Type " ++ type_text world ty
node_text world (Node.Made ty) = codes "Made " ++ type_text world ty
node_text world (Node.Slot s) = codes "Slot " ++ method_text world s.owner s.method s.args
node_text world (Node.Statics ty) = codes "Statics " ++ type_text world ty
node_text world (Node.Init ty) = codes "Init " ++ type_text world ty
node_text world (Node.Str units) = codes "Str " ++ quoted units
node_text world (Node.Blob field) = codes "Blob " ++ field_text world field
node_text world (Node.TypeObj ty) = codes "TypeObj " ++ type_text world ty
node_text world (Node.Name ty) = codes "Name " ++ type_text world ty
node_text world (Node.Maker ty) = codes "Maker " ++ type_text world ty
node_text world (Node.Invoke m) = codes "Invoke " ++ method_text world m.owner m.method m.args
node_text world (Node.Table ty) = codes "Table " ++ type_text world ty

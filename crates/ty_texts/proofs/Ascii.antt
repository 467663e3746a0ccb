-- Each byte of a text is printed in ASCII, so a text is UTF-8.
use Rattle.std.proofs.Common.{◌≡◌, ◌+◌, ◌/◌, ◌%◌, ◌<◌, ◌++◌, ◌∷◌, ◌&&◌, [], ℕ, zero, suc, Bool, true, false, not}
use Rattle.std.proofs.Common.{cond, List}
use Rattle.std.proofs.Common.{Option, Some, None, refl, sym, subst, arith, codes, map, nat_eq, nat_le, nat_lt, IsUtf8}
use Rattle.std.proofs.lemmas.Str.{IsUtf8-from_ascii}
use Rattle.std.proofs.lemmas.Bool.{and_parts, ltb-true}
use Rattle.std.specs.Fmt.{decimal, digits, digits_onto, digit_glyph}
use Rattle.std.specs.List.{flat_map, list_all}
use Rattle.std.specs.Str.{IsAscii}
use Rattle.md_tables.specs.declared.module.Table.{Table}
use Rattle.md_sigs.specs.declared.sig.MethodSig.{MethodSig}
use Rattle.md_sigs.specs.Signatures.{signature}
use Rattle.ty_terms.specs.declared.names.FieldName.{FieldName}
use Rattle.ty_terms.specs.declared.names.MethodId.{MethodId}
use Rattle.ty_terms.specs.declared.names.TypeId.{TypeId}
use Rattle.ty_terms.specs.declared.nodes.Node.{Node}
use Rattle.ty_terms.specs.Subst.{substituted}
use Rattle.ty_terms.specs.declared.ty.Primitive.{Primitive}
use Rattle.ty_terms.specs.declared.ty.Primitive.TheVariants.{Void, Boolean, Char, I1, U1, I2, U2, I4, U4, I8, U8}
use Rattle.ty_terms.specs.declared.ty.Primitive.TheVariants.{String, I, U, Object}
use Rattle.ty_terms.specs.declared.ty.Ty.{Ty}
use Rattle.ty_terms.specs.Induction.{All, Cases, induction, fold-Named, fold-Vector, fold-ByRef, fold-Prim, fold-Var}
use Rattle.ty_terms.specs.Induction.{fold-MVar, fold-Canon}
use Rattle.ty_names.specs.Modules.{World, core_of, tables_at}
use Rattle.ty_names.specs.Definitions.{assembly_name, field_name, method_blob, method_name}
use Rattle.ty_names.specs.Escapes.{escaped, has_meaning, is_plain, name_text}
use Rattle.ty_names.specs.TypeTexts.{assembly_text, definition_text, in_encloser, module_text, nested_text, or_empty}
use Rattle.ty_names.specs.TypeTexts.{own_text, text_in_module, types_around}
use Rattle.ty_load.specs.Members.{method_sig_if}
use Rattle.ty_load.specs.Primitives.{definition_of, name_of_primitive}
use Rattle.ty_load.specs.Texts.{field_text, has_same, in_angles, is_plain_in_string, listed_texts, method_text}
use Rattle.ty_load.specs.Texts.{node_text}
use Rattle.ty_load.specs.Texts.{plain_field_text, plain_method_text, quoted, rows_of_fields, rows_of_methods}
use Rattle.ty_load.specs.Texts.{signature_text, text_step, type_text, type_texts, with_row_if}
use Rattle.ty_load.specs.Walks.{arguments}
use Rattle.ty_texts.proofs.Plusless.{Every, IsOfNames, every-append, every-cond, every_escaped, every_name, every_own}

abbrev pub Ascii : ℕ → Type 0
Ascii byte = byte < 128

abbrev pub AsciiText : List ℕ → Type 0
AsciiText = Every Ascii

pub is_ascii : (text : List ℕ) → AsciiText text → IsAscii text
is_ascii [] h i = omega arith
is_ascii (byte ∷ rest) h zero = h.0
is_ascii (byte ∷ rest) h (suc i) = is_ascii rest h.1 i

pub is_utf8 : (text : List ℕ) → AsciiText text → IsUtf8 text
is_utf8 text h = IsUtf8-from_ascii text (is_ascii text h)

-- ---- names

plain_is_ascii : (unit : ℕ) → is_plain unit ≡ true → unit < 128
plain_is_ascii unit h =
    let front : (nat_lt 0x20 unit && nat_lt unit 0x7F ≡ true) × (not (has_meaning unit) ≡ true) =
    and_parts (nat_lt 0x20 unit && nat_lt unit 0x7F) (not (has_meaning unit)) h in
    let low : unit < 0x7F = ltb-true unit 0x7F (and_parts (nat_lt 0x20 unit) (nat_lt unit 0x7F) front.0).1 in
    omega (arith, low)

digit_is_ascii : (n : ℕ) (b : Bool) → n < 16 → cond b (0x30 + n) (0x37 + n) < 128
digit_is_ascii n true h = omega (arith, h)
digit_is_ascii n false h = omega (arith, h)

ascii_names : IsOfNames Ascii
ascii_names =
    record {
      plain = plain_is_ascii;
      slash = omega arith;
      letter = omega arith;
      digit = λ n within. digit_is_ascii n (nat_lt n 10) within;
      opens = omega arith;
      closes = omega arith;
    }

by_test : (text : List ℕ) → list_all (λ byte. nat_lt byte 128) text ≡ true → AsciiText text
by_test [] h = tt
by_test (byte ∷ rest) h =
    let parts : (nat_lt byte 128 ≡ true) × (list_all (λ other. nat_lt other 128) rest ≡ true) =
    and_parts (nat_lt byte 128) (list_all (λ other. nat_lt other 128) rest) h in
    (ltb-true byte 128 parts.0, by_test rest parts.1)

joined : (xs ys : List ℕ) → AsciiText xs → AsciiText ys → AsciiText (xs ++ ys)
joined = every-append Ascii

glyph_is_ascii : (d : ℕ) (b : Bool) → d < 10 → cond b (48 + d) (87 + d) < 128
glyph_is_ascii d true h = omega (arith, h)
glyph_is_ascii d false h = omega (arith, h)

ascii_onto : (k n : ℕ) (acc : List ℕ) → AsciiText acc → AsciiText (digits_onto k 10 false n acc)
ascii_onto zero n acc h = h
ascii_onto (suc k) n acc h =
    let glyph : digit_glyph false (n % 10) < 128 = glyph_is_ascii (n % 10) (nat_lt (n % 10) 10) (omega arith) in
    every-cond Ascii (nat_eq (n / 10) 0) (digit_glyph false (n % 10) ∷ acc)
    (digits_onto k 10 false (n / 10) (digit_glyph false (n % 10) ∷ acc)) (glyph, h)
    (ascii_onto k (n / 10) (digit_glyph false (n % 10) ∷ acc) (glyph, h))

pub ascii_decimal : (n : ℕ) → AsciiText (decimal n)
unfolding digits
ascii_decimal n = ascii_onto 64 n [] tt

-- ---- definitions

ascii_assembly : (name : Option (List ℕ)) → AsciiText (or_empty name)
ascii_assembly None = tt
ascii_assembly (Some name) = every_name Ascii ascii_names name

ascii_module : (world : World) (number : ℕ) → AsciiText (module_text world number)
ascii_module world number =
    every-cond Ascii (nat_eq number (core_of world)) [] (assembly_text (tables_at world number)) tt
    (joined (codes "[" ++ or_empty (assembly_name (tables_at world number))) (codes "]")
    (joined (codes "[") (or_empty (assembly_name (tables_at world number))) (by_test (codes "[") refl)
    (ascii_assembly (assembly_name (tables_at world number))))
    (by_test (codes "]") refl))

ascii_inside : (outer own : List ℕ) → AsciiText outer → AsciiText own → AsciiText (in_encloser outer own)
ascii_inside [] own h k = k
ascii_inside (byte ∷ rest) own h k =
    joined ((byte ∷ rest) ++ codes "+") own (joined (byte ∷ rest) (codes "+") h (by_test (codes "+") refl)) k

ascii_nested : (tables : List Table) (rows : List ℕ) → AsciiText (nested_text tables rows)
ascii_nested tables [] = tt
ascii_nested tables (row ∷ outer) =
    ascii_inside (nested_text tables outer) (own_text tables row) (ascii_nested tables outer)
    (every_own Ascii ascii_names tables row)

pub ascii_definition : (world : World) (id : TypeId) → AsciiText (definition_text world id)
ascii_definition world id =
    joined (module_text world id.module) (text_in_module (tables_at world id.module) id.row)
    (ascii_module world id.module)
    (ascii_nested (tables_at world id.module) (types_around (tables_at world id.module) id.row))

-- ---- types

ascii_primitive : (primitive : Primitive) → AsciiText (name_of_primitive primitive)
ascii_primitive Void = by_test (codes "Void") refl
ascii_primitive Boolean = by_test (codes "Boolean") refl
ascii_primitive Char = by_test (codes "Char") refl
ascii_primitive I1 = by_test (codes "SByte") refl
ascii_primitive U1 = by_test (codes "Byte") refl
ascii_primitive I2 = by_test (codes "Int16") refl
ascii_primitive U2 = by_test (codes "UInt16") refl
ascii_primitive I4 = by_test (codes "Int32") refl
ascii_primitive U4 = by_test (codes "UInt32") refl
ascii_primitive I8 = by_test (codes "Int64") refl
ascii_primitive U8 = by_test (codes "UInt64") refl
ascii_primitive String = by_test (codes "String") refl
ascii_primitive I = by_test (codes "IntPtr") refl
ascii_primitive U = by_test (codes "UIntPtr") refl
ascii_primitive Object = by_test (codes "Object") refl

abbrev pub AllAscii : List (List ℕ) → Type 0
AllAscii [] = Unit {0}
AllAscii (text ∷ rest) = AsciiText text × AllAscii rest

pub ascii_listed : (texts : List (List ℕ)) → AllAscii texts → AsciiText (listed_texts texts)
ascii_listed [] h = tt
ascii_listed (text ∷ []) h = h.0
ascii_listed (text ∷ (next ∷ rest)) h =
    joined (text ++ codes ",") (listed_texts (next ∷ rest)) (joined text (codes ",") h.0 (by_test (codes ",") refl))
    (ascii_listed (next ∷ rest) h.1)

pub ascii_angles : (texts : List (List ℕ)) → AllAscii texts → AsciiText (in_angles texts)
ascii_angles [] h = tt
ascii_angles (text ∷ rest) h =
    joined (codes "<" ++ listed_texts (text ∷ rest)) (codes ">")
    (joined (codes "<") (listed_texts (text ∷ rest)) (by_test (codes "<") refl) (ascii_listed (text ∷ rest) h))
    (by_test (codes ">") refl)

module _ (world : World) where
  abbrev IsTold : Ty → Type 0
  IsTold ty = AsciiText (type_text world ty)

  all_told : (args : List Ty) → All IsTold args → AllAscii (type_texts world args)
  all_told [] h = tt
  all_told (arg ∷ args) h = (h.0, all_told args h.1)

  cases : Cases IsTold
  cases =
      record {
        primitive =
            λ p. subst AsciiText (sym (fold-Prim (text_step world) p))
            (joined (codes "System.") (name_of_primitive p) (by_test (codes "System.") refl) (ascii_primitive p));
        named =
            λ id args h. subst AsciiText (sym (fold-Named (text_step world) id args))
            (joined (definition_text world id) (in_angles (type_texts world args)) (ascii_definition world id)
            (ascii_angles (type_texts world args) (all_told args h)));
        vector =
            λ element h. subst AsciiText (sym (fold-Vector (text_step world) element))
            (joined (type_text world element) (codes "[]") h (by_test (codes "[]") refl));
        by_ref =
            λ target h. subst AsciiText (sym (fold-ByRef (text_step world) target))
            (joined (type_text world target) (codes "&") h (by_test (codes "&") refl));
        var =
            λ n. subst AsciiText (sym (fold-Var (text_step world) n))
            (joined (codes "!") (decimal n) (by_test (codes "!") refl) (ascii_decimal n));
        mvar =
            λ n. subst AsciiText (sym (fold-MVar (text_step world) n))
            (joined (codes "!!") (decimal n) (by_test (codes "!!") refl) (ascii_decimal n));
        canon = subst AsciiText (sym (fold-Canon (text_step world))) (by_test (codes "?") refl);
      }

  pub ascii_type : (ty : Ty) → AsciiText (type_text world ty)
  ascii_type = induction IsTold cases

  pub ascii_types : (types : List Ty) → AllAscii (type_texts world types)
  ascii_types [] = tt
  ascii_types (ty ∷ types) = (ascii_type ty, ascii_types types)

  -- ---- methods, fields and nodes

  ascii_signature : (owner method : List Ty) (sig : Option MethodSig)
      → AsciiText (signature_text world owner method sig)
  ascii_signature owner method None = by_test (codes "(?)") refl
  ascii_signature owner method (Some sig) =
      let params : List (List ℕ) = type_texts world (map (substituted owner method) sig.params) in
      joined (codes "(" ++ listed_texts params ++ codes ")->") (type_text world (substituted owner method sig.result))
      (joined (codes "(" ++ listed_texts params) (codes ")->")
      (joined (codes "(") (listed_texts params) (by_test (codes "(") refl)
      (ascii_listed params (ascii_types (map (substituted owner method) sig.params))))
      (by_test (codes ")->") refl))
      (ascii_type (substituted owner method sig.result))

  ascii_plain_method : (owner : Ty) (id : Option TypeId) (number row : ℕ) (args : List Ty)
      → AsciiText (plain_method_text world owner id number row args)
  ascii_plain_method owner None number row args = tt
  ascii_plain_method owner (Some id) number row args =
      let name : List ℕ = name_text (method_name (tables_at world number) row) in
      let sig : Option MethodSig =
      method_sig_if world id (signature number (method_blob (tables_at world number) row)) in
      joined (type_text world owner ++ codes "::" ++ name ++ in_angles (type_texts world args))
      (signature_text world (arguments owner) args sig)
      (joined (type_text world owner ++ codes "::" ++ name) (in_angles (type_texts world args))
      (joined (type_text world owner ++ codes "::") name
      (joined (type_text world owner) (codes "::") (ascii_type owner) (by_test (codes "::") refl))
      (every_name Ascii ascii_names (method_name (tables_at world number) row)))
      (ascii_angles (type_texts world args) (ascii_types args)))
      (ascii_signature (arguments owner) args sig)

  ascii_with_row : (again : Bool) (row : ℕ) (text : List ℕ) → AsciiText text → AsciiText (with_row_if again row text)
  ascii_with_row again row text h =
      every-cond Ascii again (text ++ codes "#" ++ decimal row) text
      (joined (text ++ codes "#") (decimal row) (joined text (codes "#") h (by_test (codes "#") refl))
      (ascii_decimal row))
      h

  ascii_method : (owner : Ty) (method : MethodId) (args : List Ty) → AsciiText (method_text world owner method args)
  ascii_method owner method args =
      ascii_with_row
      (has_same (λ row. plain_method_text world owner (definition_of world owner) method.module row args)
      (rows_of_methods world (definition_of world owner)) method.row)
      method.row (plain_method_text world owner (definition_of world owner) method.module method.row args)
      (ascii_plain_method owner (definition_of world owner) method.module method.row args)

  ascii_plain_field : (owner : Ty) (id : Option TypeId) (row : ℕ) → AsciiText (plain_field_text world owner id row)
  ascii_plain_field owner None row = tt
  ascii_plain_field owner (Some id) row =
      joined (type_text world owner ++ codes "::") (name_text (field_name (tables_at world id.module) row))
      (joined (type_text world owner) (codes "::") (ascii_type owner) (by_test (codes "::") refl))
      (every_name Ascii ascii_names (field_name (tables_at world id.module) row))

  ascii_field : (field : FieldName) → AsciiText (field_text world field)
  ascii_field field =
      ascii_with_row
      (has_same (plain_field_text world field.owner (definition_of world field.owner))
      (rows_of_fields world (definition_of world field.owner)) field.row)
      field.row (plain_field_text world field.owner (definition_of world field.owner) field.row)
      (ascii_plain_field field.owner (definition_of world field.owner) field.row)

  ascii_unit : (unit : ℕ) → AsciiText (cond (is_plain_in_string unit) (unit ∷ []) (escaped unit))
  ascii_unit unit = by (is_plain_in_string unit) refl
    where
      by : (b : Bool) → is_plain_in_string unit ≡ b → AsciiText (cond b (unit ∷ []) (escaped unit))
      by true h =
          let quote : (nat_le 0x20 unit && nat_lt unit 0x7F && not (nat_eq unit 0x22) ≡ true)
          × (not (nat_eq unit 0x5C) ≡ true) =
          and_parts (nat_le 0x20 unit && nat_lt unit 0x7F && not (nat_eq unit 0x22)) (not (nat_eq unit 0x5C)) h in
          let range : (nat_le 0x20 unit && nat_lt unit 0x7F ≡ true) × (not (nat_eq unit 0x22) ≡ true) =
          and_parts (nat_le 0x20 unit && nat_lt unit 0x7F) (not (nat_eq unit 0x22)) quote.0 in
          let low : unit < 0x7F = ltb-true unit 0x7F (and_parts (nat_le 0x20 unit) (nat_lt unit 0x7F) range.0).1 in
          (omega (arith, low), tt)
      by false h = every_escaped Ascii ascii_names unit

  ascii_units : (units : List ℕ)
      → AsciiText (flat_map (λ unit. cond (is_plain_in_string unit) (unit ∷ []) (escaped unit)) units)
  ascii_units [] = tt
  ascii_units (unit ∷ units) =
      joined (cond (is_plain_in_string unit) (unit ∷ []) (escaped unit))
      (flat_map (λ other. cond (is_plain_in_string other) (other ∷ []) (escaped other)) units)
      (ascii_unit unit) (ascii_units units)

  ascii_quoted : (units : List ℕ) → AsciiText (quoted units)
  ascii_quoted units =
      joined (0x22 ∷ flat_map (λ unit. cond (is_plain_in_string unit) (unit ∷ []) (escaped unit)) units) (0x22 ∷ [])
      (omega arith, ascii_units units) (omega arith, tt)

  pub ascii_node : (node : Node) → AsciiText (node_text world node)
  ascii_node (Node.Method m) =
      joined (codes "Method ") (method_text world m.owner m.method m.args) (by_test (codes "Method ") refl)
      (ascii_method m.owner m.method m.args)
  ascii_node (Node.TypeOf ty) =
      joined (codes "Type ") (type_text world ty) (by_test (codes "Type ") refl) (ascii_type ty)
  ascii_node (Node.Made ty) = joined (codes "Made ") (type_text world ty) (by_test (codes "Made ") refl) (ascii_type ty)
  ascii_node (Node.Slot s) =
      joined (codes "Slot ") (method_text world s.owner s.method s.args) (by_test (codes "Slot ") refl)
      (ascii_method s.owner s.method s.args)
  ascii_node (Node.Statics ty) =
      joined (codes "Statics ") (type_text world ty) (by_test (codes "Statics ") refl) (ascii_type ty)
  ascii_node (Node.Init ty) = joined (codes "Init ") (type_text world ty) (by_test (codes "Init ") refl) (ascii_type ty)
  ascii_node (Node.Str units) = joined (codes "Str ") (quoted units) (by_test (codes "Str ") refl) (ascii_quoted units)
  ascii_node (Node.Blob field) =
      joined (codes "Blob ") (field_text world field) (by_test (codes "Blob ") refl) (ascii_field field)
  ascii_node (Node.TypeObj ty) =
      joined (codes "TypeObj ") (type_text world ty) (by_test (codes "TypeObj ") refl) (ascii_type ty)
  ascii_node (Node.Name ty) = joined (codes "Name ") (type_text world ty) (by_test (codes "Name ") refl) (ascii_type ty)
  ascii_node (Node.Maker ty) =
      joined (codes "Maker ") (type_text world ty) (by_test (codes "Maker ") refl) (ascii_type ty)
  ascii_node (Node.Invoke m) =
      joined (codes "Invoke ") (method_text world m.owner m.method m.args) (by_test (codes "Invoke ") refl)
      (ascii_method m.owner m.method m.args)
  ascii_node (Node.Table ty) =
      joined (codes "Table ") (type_text world ty) (by_test (codes "Table ") refl) (ascii_type ty)

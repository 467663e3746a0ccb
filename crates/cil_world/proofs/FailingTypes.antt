-- A program whose initializer fails, twice: what its types and its tokens are.
use Rattle.std.proofs.Common.{◌≡◌, ◌∙◌, ℕ, ◌+◌, true, false, List, [], ◌∷◌, ◌++◌, Option, Some, None, Ok, ap}
use Rattle.std.proofs.Common.{refl, map, length}
use Rattle.std.specs.Prelude.{◌==◌, ◌&&◌, if◌then◌else◌, reverse, Result}
use Rattle.std.specs.List.{cons_option, flat_map, list_all}
use Rattle.std.specs.Option.{option_map, option_map_or}
use Rattle.md_sigs.specs.declared.sig.Sig.{Sig}
use Rattle.md_sigs.specs.Signatures.{signature}
use Rattle.ty_terms.specs.declared.names.MethodName.{MethodName}
use Rattle.ty_terms.specs.declared.names.TypeId.{TypeId}
use Rattle.ty_terms.specs.declared.ty.Primitive.{Primitive}
use Rattle.ty_terms.specs.declared.ty.Ty.{Ty}
use Rattle.ty_terms.specs.declared.ty.Ty.TheVariants.{Named, Prim}
use Rattle.ty_terms.specs.declared.ty.Ty.TheViews.{out-Ty}
use Rattle.ty_terms.specs.Induction.{fold-Named, fold-Prim}
use Rattle.ty_terms.specs.Subst.{substituted}
use Rattle.ty_layout.specs.declared.field.Field.{Field}
use Rattle.ty_names.specs.Definitions.{field_blob, method_blob}
use Rattle.ty_names.specs.Modules.{tables_at}
use Rattle.ty_load.specs.declared.item.Item.TheVariants.{OfMethod}
use Rattle.ty_load.specs.Bases.{parameters}
use Rattle.ty_load.specs.Classes.{upward}
use Rattle.ty_load.specs.Entry.{entry_of, is_status_layer, passes as passes_status}
use Rattle.ty_load.specs.Members.{field_sig, field_sig_if, is_equal, method_sig, same_type}
use Rattle.ty_load.specs.Primitives.{definition_of}
use Rattle.ty_load.specs.Tokens.{resolution}
use Rattle.ty_load.specs.Types.{no_void}
use Rattle.ty_load.specs.Walks.{arguments, base_type, fitting}
use Rattle.cli_layout.specs.declared.extent.Extent.{Extent}
use Rattle.cli_layout.specs.declared.extent.Extent.TheVariants.{Known}
use Rattle.cli_layout.specs.declared.extent.Unlaid.{Unlaid}
use Rattle.cli_layout.specs.Extents.{all_known, both, extent_if, extent_step, extent_with, most_within, reference}
use Rattle.cli_layout.specs.Extents.{value_within}
use Rattle.cli_layout.specs.Fields.{placed_rows}
use Rattle.cli_layout.specs.Types.{arguments_of, itself, laid_if, laid_of, object_with, parts_within}
use Rattle.cli_layout.specs.Types.{under}
use Rattle.il_verify.specs.Scope.{callee_of}
use Rattle.cil_world.specs.Contents.{bytes_if, class_bytes, object_fields, own_fields, zero_of}
use Rattle.cil_world.specs.Entering.{above_resolves, class_resolves, fields_are_known}
use Rattle.cil_world.specs.Entering.{initializer_of, is_initializer_sig, is_known_class, is_known_place, is_laid}
use Rattle.cil_world.specs.Entering.{may_lay_out}
use Rattle.cil_world.specs.ObjectPrograms.{failing_initializer}
use Rattle.cil_world.specs.Values.{Value, Null}
use Rattle.cil_world.proofs.Computing.{all_pass, depth_named, depth_prim}
use Rattle.cil_world.proofs.Computing.{fits_by_base}
use Rattle.cil_world.proofs.Computing.{fits_itself, fits_object, fitting_by}
use Rattle.cil_world.proofs.Computing.{named_resolved, named_stays, order_named}
use Rattle.cil_world.proofs.Computing.{prim_resolved, prim_stays}
use Rattle.cil_world.proofs.Looking.{base_named, base_prim, callee_by, field_read, looking}
use Rattle.cil_world.proofs.Looking.{method_on, own_class, own_id, plain_callee, plain_read}
use Rattle.cil_world.proofs.Looking.{plain_sig, token_by, upward_more}

-- ---- types of the core

abbrev pub exception_id : TypeId
exception_id = record { «module» = 1; row = 3 }

abbrev pub exception : Ty
exception = Named exception_id []

abbrev pub wrapper_id : TypeId
wrapper_id = record { «module» = 1; row = 4 }

abbrev pub wrapper : Ty
wrapper = Named wrapper_id []

abbrev pub object : Ty
object = Prim Primitive.Object

-- ---- signatures and tokens

main_sig : signature 0 (method_blob (tables_at failing_initializer 0) 1)
    ≡ Ok (Sig.Method (plain_sig false Primitive.I4))
unfolding failing_initializer looking
main_sig = refl

initializer_sig : signature 0 (method_blob (tables_at failing_initializer 0) 2)
    ≡ Ok (Sig.Method (plain_sig false Primitive.Void))
unfolding failing_initializer looking
initializer_sig = refl

called_sig : signature 0 (method_blob (tables_at failing_initializer 0) 3)
    ≡ Ok (Sig.Method (plain_sig false Primitive.Void))
unfolding failing_initializer looking
called_sig = refl

constructor_sig : signature 0 (method_blob (tables_at failing_initializer 0) 4)
    ≡ Ok (Sig.Method (plain_sig true Primitive.Void))
unfolding failing_initializer looking
constructor_sig = refl

main_read : method_sig failing_initializer (own_id 2) 1 ≡ Some (plain_sig false Primitive.I4)
unfolding failing_initializer looking
main_read = plain_read failing_initializer (own_id 2) 1 false Primitive.I4 main_sig refl

initializer_read : method_sig failing_initializer (own_id 3) 2 ≡ Some (plain_sig false Primitive.Void)
unfolding failing_initializer looking
initializer_read = plain_read failing_initializer (own_id 3) 2 false Primitive.Void initializer_sig refl

called_read : method_sig failing_initializer (own_id 3) 3 ≡ Some (plain_sig false Primitive.Void)
unfolding failing_initializer looking
called_read = plain_read failing_initializer (own_id 3) 3 false Primitive.Void called_sig refl

constructor_read : method_sig failing_initializer (own_id 4) 4 ≡ Some (plain_sig true Primitive.Void)
unfolding failing_initializer looking
constructor_read = plain_read failing_initializer (own_id 4) 4 true Primitive.Void constructor_sig refl

pub main_called : callee_of failing_initializer (method_on 2 1)
    ≡ Some (plain_callee (method_on 2 1) false (own_class 2) Primitive.I4)
unfolding failing_initializer looking
main_called =
    callee_by failing_initializer (method_on 2 1) (own_id 2) false (own_class 2) Primitive.I4 refl main_read refl

pub initializer_called : callee_of failing_initializer (method_on 3 2)
    ≡ Some (plain_callee (method_on 3 2) false (own_class 3) Primitive.Void)
unfolding failing_initializer looking
initializer_called =
    callee_by failing_initializer (method_on 3 2) (own_id 3) false (own_class 3) Primitive.Void refl initializer_read
    refl

pub called_called : callee_of failing_initializer (method_on 3 3)
    ≡ Some (plain_callee (method_on 3 3) false (own_class 3) Primitive.Void)
unfolding failing_initializer looking
called_called =
    callee_by failing_initializer (method_on 3 3) (own_id 3) false (own_class 3) Primitive.Void refl called_read refl

pub constructor_called : callee_of failing_initializer (method_on 4 4)
    ≡ Some (plain_callee (method_on 4 4) true (own_class 4) Primitive.Void)
unfolding failing_initializer looking
constructor_called =
    callee_by failing_initializer (method_on 4 4) (own_id 4) true (own_class 4) Primitive.Void refl constructor_read
    refl

pub main_begins : entry_of failing_initializer ≡ Some (method_on 2 1)
unfolding failing_initializer looking
main_begins =
    ap (λ r. if passes_status (λ ty. is_status_layer (out-Ty ty)) r then Some (method_on 2 1) else None)
    (prim_resolved failing_initializer 0 0 0 Primitive.I4)

pub called_token : resolution failing_initializer 0 0x0600_0003 [] [] ≡ Ok (OfMethod (method_on 3 3))
unfolding failing_initializer looking
called_token =
    token_by failing_initializer 0 0x0600_0003 3 [] [] (own_id 3) (Sig.Method (plain_sig false Primitive.Void))
    (plain_sig false Primitive.Void) (own_class 3) refl refl refl called_sig refl called_read refl refl

pub constructor_token : resolution failing_initializer 0 0x0600_0004 [] [] ≡ Ok (OfMethod (method_on 4 4))
unfolding failing_initializer looking
constructor_token =
    token_by failing_initializer 0 0x0600_0004 4 [] [] (own_id 4) (Sig.Method (plain_sig true Primitive.Void))
    (plain_sig true Primitive.Void) (own_class 4) refl refl refl constructor_sig refl constructor_read refl refl

pub initializer_is : initializer_of failing_initializer (own_class 3) ≡ Some (method_on 3 2)
unfolding failing_initializer looking
initializer_is =
    let named : ℕ → MethodName = λ row. method_on 3 row in
    ap (λ sig. option_map named (if option_map_or is_initializer_sig sig false then Some 2 else None)) initializer_read

-- ---- what fits

are_others : same_type (own_class 4) exception ≡ false
unfolding looking
are_others = ap is_equal (order_named (own_id 4) exception_id)

thrown_base : base_type failing_initializer (own_class 4) ≡ Ok (Some exception)
unfolding failing_initializer looking
thrown_base = base_named failing_initializer (own_id 4) exception_id refl

wrapper_base : base_type failing_initializer wrapper ≡ Ok (Some exception)
unfolding failing_initializer looking
wrapper_base = base_named failing_initializer wrapper_id exception_id refl

exception_base : base_type failing_initializer exception ≡ Ok (Some object)
unfolding failing_initializer looking
exception_base = base_prim failing_initializer exception_id Primitive.Object refl

pub is_thrown : fitting failing_initializer (own_class 4) exception ≡ Ok true
unfolding failing_initializer looking
is_thrown =
    fitting_by failing_initializer (own_class 4) exception 1 (Ok true) (depth_named (own_id 4))
    (fits_by_base 9 failing_initializer (own_class 4) exception exception (Ok true) are_others refl refl refl
    thrown_base
    (fits_itself 8 failing_initializer exception))

pub is_object_too : fitting failing_initializer wrapper object ≡ Ok true
unfolding failing_initializer looking
is_object_too =
    fitting_by failing_initializer wrapper object 1 (Ok true) (depth_named wrapper_id)
    (fits_object 9 failing_initializer wrapper object refl)

pub object_itself : fitting failing_initializer object object ≡ Ok true
unfolding failing_initializer looking
object_itself =
    fitting_by failing_initializer object object 1 (Ok true) (depth_prim Primitive.Object)
    (fits_object 9 failing_initializer object object refl)

-- ---- fields, bytes and zeros of exceptions

message_sig : signature 1 (field_blob (tables_at failing_initializer 1) 1) ≡ Ok (Sig.Field (Prim Primitive.String))
unfolding failing_initializer looking
message_sig = refl

message_read : field_sig failing_initializer exception_id 1 ≡ Some (Prim Primitive.String)
unfolding looking
message_read = field_read failing_initializer exception_id 1 Primitive.String message_sig refl

abbrev written : TypeId
written = record { «module» = 1; row = 12 }

inner_sig : signature 1 (field_blob (tables_at failing_initializer 1) 2) ≡ Ok (Sig.Field (Named written []))
unfolding failing_initializer looking
inner_sig = refl

inner_read : field_sig failing_initializer exception_id 2 ≡ Some exception
unfolding failing_initializer looking
inner_read =
    ap (field_sig_if failing_initializer exception_id) inner_sig
    ∙ ap no_void (named_resolved failing_initializer 1 (parameters failing_initializer exception_id) 0 written
    exception_id refl)

own_fields_are : own_fields failing_initializer exception ≡ Prim Primitive.String ∷ exception ∷ []
unfolding failing_initializer looking
own_fields_are =
    let on : Ty → Ty = substituted (arguments exception) [] in
    ap (λ f. map on (cons_option f (cons_option (field_sig failing_initializer exception_id 2) []))) message_read
    ∙ ap (λ f. map on (Prim Primitive.String ∷ cons_option f [])) inner_read
    ∙ ap (λ t. t ∷ on exception ∷ []) (prim_stays (arguments exception) [] Primitive.String)
    ∙ ap (λ t. Prim Primitive.String ∷ t ∷ []) (named_stays (arguments exception) [] exception_id)

classes_of_thrown : upward failing_initializer (own_class 4) ≡ own_class 4 ∷ exception ∷ object ∷ []
unfolding failing_initializer looking
classes_of_thrown =
    upward_more 8 failing_initializer (own_class 4) (Some exception) (exception ∷ object ∷ []) thrown_base
    (upward_more 7 failing_initializer exception (Some object) (object ∷ []) exception_base refl)

classes_of_wrapper : upward failing_initializer wrapper ≡ wrapper ∷ exception ∷ object ∷ []
unfolding failing_initializer looking
classes_of_wrapper =
    upward_more 8 failing_initializer wrapper (Some exception) (exception ∷ object ∷ []) wrapper_base
    (upward_more 7 failing_initializer exception (Some object) (object ∷ []) exception_base refl)

abbrev null : Value
null = Value.Object Null

pub e_zeros : map (zero_of failing_initializer) (object_fields failing_initializer (own_class 4)) ≡ null ∷ null ∷ []
unfolding failing_initializer looking
e_zeros =
    ap (λ types. map (zero_of failing_initializer)
    (flat_map (own_fields failing_initializer) (reverse types))) classes_of_thrown
    ∙ ap (λ fields. map (zero_of failing_initializer) (fields ++ [])) own_fields_are

pub t_zeros : map (zero_of failing_initializer) (object_fields failing_initializer wrapper) ≡ null ∷ null ∷ []
unfolding failing_initializer looking
t_zeros =
    ap (λ types. map (zero_of failing_initializer)
    (flat_map (own_fields failing_initializer) (reverse types))) classes_of_wrapper
    ∙ ap (λ fields. map (zero_of failing_initializer) (fields ++ [])) own_fields_are

-- the parts of an exception's object: nothing of Object, and two references
exception_parts : (env : List Extent)
    → parts_within 7 failing_initializer exception_id env ≡ Ok ([] ∷ (reference ∷ reference ∷ []) ∷ [])
unfolding failing_initializer looking
exception_parts env =
    let of_field : ℕ → Option Ty → Extent = extent_if (extent_with failing_initializer env) exception_id in
    let parts : List Extent → Result (List (List Field)) Unlaid = λ es. both under (all_known es) (Ok ([] ∷ [])) in
    ap (λ f. parts (of_field 1 f ∷ of_field 2 (field_sig failing_initializer exception_id 2) ∷ [])) message_read
    ∙ ap (λ f. parts (of_field 1 (Some (Prim Primitive.String)) ∷ of_field 2 f ∷ [])) inner_read
    ∙ ap (λ e. parts (e ∷ of_field 2 (Some exception) ∷ []))
    (fold-Prim (extent_step (value_within (most_within failing_initializer) failing_initializer) failing_initializer
    env)
    Primitive.String)
    ∙ ap (λ e. parts (Known reference ∷ e ∷ []))
    (fold-Named (extent_step (value_within (most_within failing_initializer) failing_initializer) failing_initializer
    env)
    exception_id [])

thrown_laid : laid_of failing_initializer (own_class 4)
    ≡ laid_if itself object_with (Ok ([] ∷ (reference ∷ reference ∷ []) ∷ [] ∷ []))
unfolding failing_initializer looking laid_of
thrown_laid =
    ap (λ p. laid_if itself object_with (both under (Ok []) p))
    (exception_parts (map (extent_with failing_initializer (arguments_of failing_initializer (own_class 4)))
    (arguments exception)))

wrapper_laid : laid_of failing_initializer wrapper
    ≡ laid_if itself object_with (Ok ([] ∷ (reference ∷ reference ∷ []) ∷ [] ∷ []))
unfolding failing_initializer looking laid_of
wrapper_laid =
    ap (λ p. laid_if itself object_with (both under (Ok []) p))
    (exception_parts (map (extent_with failing_initializer (arguments_of failing_initializer wrapper))
    (arguments exception)))

pub e_bytes : class_bytes failing_initializer (own_class 4) ≡ 24
e_bytes = ap bytes_if thrown_laid

pub t_bytes : class_bytes failing_initializer wrapper ≡ 24
t_bytes = ap bytes_if wrapper_laid

exception_known : (class_resolves failing_initializer exception && fields_are_known failing_initializer exception) ≡
    true
unfolding failing_initializer looking
exception_known =
    ap (λ fields. (above_resolves failing_initializer exception && length fields
    == option_map_or (λ id. length (placed_rows failing_initializer id)) (definition_of failing_initializer exception)
    0)
    && list_all (is_known_place failing_initializer) fields) own_fields_are

thrown_known : is_known_class failing_initializer (own_class 4) ≡ true
unfolding failing_initializer looking
thrown_known =
    ap (λ types. list_all (λ class. class_resolves failing_initializer class
    && fields_are_known failing_initializer class) (reverse types)) classes_of_thrown
    ∙ all_pass (λ class. class_resolves failing_initializer class && fields_are_known failing_initializer class)
    (object ∷ exception ∷ own_class 4 ∷ []) (refl, (exception_known, (refl, tt)))

pub lays_out : may_lay_out failing_initializer (own_class 4) ≡ true
lays_out =
    ap (λ t. t && is_laid (laid_of failing_initializer (own_class 4))) thrown_known ∙ ap is_laid thrown_laid

-- A program that boxes a value: what its type, its tokens and its method are. The steps are in BoxedValue.
use Rattle.std.proofs.Common.{◌≡◌, ◌∙◌, ℕ, ◌+◌, ◌*◌, ◌^◌, true, false, Bool, List, [], ◌∷◌, ◌++◌, Option, Some}
use Rattle.std.proofs.Common.{None, Ok}
use Rattle.std.proofs.Common.{ap, refl, pos, map, length}
use Rattle.std.specs.Prelude.{◌==◌, ◌&&◌, ◌||◌, if◌then◌else◌, max, reverse, slice_set, sum_by}
use Rattle.std.specs.Int.{next_multiple_of}
use Rattle.std.specs.List.{cons_option, list_all}
use Rattle.std.specs.Option.{option_map, option_map_or}
use Rattle.md_sigs.specs.declared.sig.Sig.{Sig}
use Rattle.md_sigs.specs.Signatures.{signature}
use Rattle.il_code.specs.declared.body.Body.{Body}
use Rattle.il_code.specs.declared.body.Instr.{Instr}
use Rattle.il_code.specs.declared.body.Operand.TheVariants.{Nothing, Number as NumberOf, Token as TokenOf}
use Rattle.il_code.specs.declared.opcode.Op.{Op}
use Rattle.ty_terms.specs.declared.names.FieldName.{FieldName}
use Rattle.ty_terms.specs.declared.names.TypeId.{TypeId}
use Rattle.ty_terms.specs.declared.ty.Primitive.{Primitive}
use Rattle.ty_terms.specs.declared.ty.Ty.{Ty}
use Rattle.ty_terms.specs.declared.ty.Ty.TheVariants.{Named, Prim}
use Rattle.ty_terms.specs.Depth.{depth_of}
use Rattle.ty_terms.specs.Induction.{fold-Prim}
use Rattle.ty_terms.specs.Subst.{substituted}
use Rattle.ty_layout.specs.declared.field.Field.{Field}
use Rattle.ty_layout.specs.declared.field.Alignment.TheVariants.{Four}
use Rattle.ty_layout.specs.Frames.{frame_bytes}
use Rattle.ty_layout.specs.Objects.{boxed_bytes}
use Rattle.ty_names.specs.Definitions.{field_blob, method_blob}
use Rattle.ty_names.specs.Modules.{tables_at}
use Rattle.ty_load.specs.declared.item.Item.TheVariants.{OfField, OfType}
use Rattle.ty_load.specs.Classes.{upward}
use Rattle.ty_load.specs.Members.{field_sig, method_sig}
use Rattle.ty_load.specs.Primitives.{definition_of}
use Rattle.ty_load.specs.Tokens.{resolution}
use Rattle.ty_load.specs.Types.{and_all, no_void}
use Rattle.ty_load.specs.Walks.{arguments}
use Rattle.cli_layout.specs.declared.extent.Extent.{Extent}
use Rattle.cli_layout.specs.declared.extent.Extent.TheVariants.{Known}
use Rattle.cli_layout.specs.Extents.{all_known, bytes, extent_by, extent_if, extent_of, extent_step, extent_with}
use Rattle.cli_layout.specs.Extents.{most_within, value_extent, value_within}
use Rattle.cli_layout.specs.Fields.{placed_rows}
use Rattle.cli_layout.specs.Types.{arguments_of, laid_if, laid_of, value_with}
use Rattle.il_stacks.specs.declared.effect.Results.TheVariants.{Nothing as NoResult, Always}
use Rattle.il_stacks.specs.declared.effect.Step.{Step}
use Rattle.il_stacks.specs.declared.slot.StackSlot.{StackSlot}
use Rattle.il_stacks.specs.declared.slot.StackSlot.TheVariants.{Conflict, Int32, Pointer, Refs, Value as ValueOf}
use Rattle.il_stacks.specs.declared.stack.Stack.{Stack}
use Rattle.il_stacks.specs.declared.stack.Stack.TheVariants.{Slots}
use Rattle.il_stacks.specs.declared.typing.OffsetStack.{OffsetStack}
use Rattle.il_stacks.specs.declared.typing.Typing.{Typing}
use Rattle.il_stacks.specs.Rounds.{one_further, one_round, stacks_by_rounds}
use Rattle.il_stacks.specs.Slots.{joined_slot}
use Rattle.il_stacks.specs.SetLaws.{same_itself}
use Rattle.il_stacks.specs.Typings.{typing_of, values_in}
use Rattle.il_verify.specs.Actions.{action_of}
use Rattle.il_verify.specs.CallRows.{Unprefixed, param_test}
use Rattle.il_verify.specs.FieldRows.{has_fields, leads_to}
use Rattle.il_verify.specs.Flow.{action_at, effect_of, prefix_at, reached_offsets, row_at, step_of, step_with, steps_of}
use Rattle.il_verify.specs.Inside.{is_inside, is_inside_instruction}
use Rattle.il_verify.specs.Kinds.{content_of, is_reference, may_store, slot_of}
use Rattle.il_verify.specs.Row.{Row, giving, is_object, misnamed, taking}
use Rattle.il_verify.specs.Rows.{row_of}
use Rattle.il_verify.specs.Rules.{fails, rules, suits_row}
use Rattle.il_verify.specs.Scope.{Member, Scope, callee_of, instance_field, locals_of, member_of, scope_of, type_token}
use Rattle.il_verify.specs.Verified.{first_failing, least_stacks, verification}
use Rattle.cil_world.specs.Contents.{box_bytes, deepest, field_depths, own_fields, size_if, zero_of, zero_within}
use Rattle.cil_world.specs.Entering.{Entry, above_resolves, class_resolves, entry, entry_bytes, fields_are_known}
use Rattle.cil_world.specs.Entering.{is_known_class, is_known_place, is_laid, lays_out_frame, may_lay_out}
use Rattle.cil_world.specs.ObjectPrograms.{boxed_value}
use Rattle.cil_world.specs.Step.{does}
use Rattle.cil_world.specs.Values.{Value, and, none, values}
use Rattle.cil_world.proofs.Computing.{all_pass, all_stay, by_a_round, depth_named, depth_prim, entered_by}
use Rattle.cil_world.proofs.Computing.{inside_by}
use Rattle.cil_world.proofs.Computing.{inside_token, keeps_by, least_by, named_resolved, named_stays, none_fails}
use Rattle.cil_world.proofs.Computing.{passes}
use Rattle.cil_world.proofs.Computing.{pointers_meet, prim_stays, refs_meet, row_by}
use Rattle.cil_world.proofs.Computing.{step_by, steps_by, typed_by, values_meet, verified_by}
use Rattle.cil_world.proofs.Looking.{base_named, base_prim, callee_by, extent_named, field_found, field_read}
use Rattle.cil_world.proofs.Looking.{field_token_by, looking, member_by_field, method_on, no_arguments, own_class}
use Rattle.cil_world.proofs.Looking.{own_id, plain_callee, plain_read, plain_sig, scope_by, upward_more}
use Rattle.cil_world.proofs.Programs.{before, instr, int, known, last_step, onward}

-- ---- the entry's signature, and the value type's field

main_sig : signature 0 (method_blob (tables_at boxed_value 0) 1) ≡ Ok (Sig.Method (plain_sig false Primitive.I4))
unfolding boxed_value looking
main_sig = refl

main_read : method_sig boxed_value (own_id 2) 1 ≡ Some (plain_sig false Primitive.I4)
unfolding boxed_value looking
main_read = plain_read boxed_value (own_id 2) 1 false Primitive.I4 main_sig refl

pub main_called : callee_of boxed_value (method_on 2 1)
    ≡ Some (plain_callee (method_on 2 1) false (own_class 2) Primitive.I4)
unfolding boxed_value looking
main_called = callee_by boxed_value (method_on 2 1) (own_id 2) false (own_class 2) Primitive.I4 refl main_read refl

x_sig : signature 0 (field_blob (tables_at boxed_value 0) 1) ≡ Ok (Sig.Field int)
unfolding boxed_value looking
x_sig = refl

x_read : field_sig boxed_value (own_id 3) 1 ≡ Some int
unfolding looking
x_read = field_read boxed_value (own_id 3) 1 Primitive.I4 x_sig refl

abbrev x_name : FieldName
x_name = record { owner = own_class 3; row = 1 }

abbrev x_member : Member
x_member = record { name = x_name; is_static = false; ty = int }

x_is : member_of boxed_value x_name ≡ Some x_member
unfolding boxed_value looking
x_is = member_by_field boxed_value x_name (own_id 3) false Primitive.I4 refl x_read refl

x_token : resolution boxed_value 0 0x0400_0001 [] [] ≡ Ok (OfField x_name)
unfolding boxed_value looking
x_token =
    field_token_by boxed_value 0 0x0400_0001 1 [] [] (own_id 3) (Sig.Field int) int x_name refl refl refl x_sig refl
    x_read refl

s_token : resolution boxed_value 0 0x0200_0003 [] [] ≡ Ok (OfType (own_class 3))
unfolding boxed_value looking resolution
s_token = refl

-- ---- the value type's fields, bytes and zero

own_fields_are : own_fields boxed_value (own_class 3) ≡ int ∷ []
unfolding boxed_value looking
own_fields_are =
    ap (λ f. map (substituted (arguments (own_class 3)) []) (cons_option f [])) x_read
    ∙ ap (λ t. t ∷ []) (prim_stays (arguments (own_class 3)) [] Primitive.I4)

abbrev word : Field
word = bytes 4 Four

extent_is : extent_of boxed_value (own_class 3) ≡ Known word
unfolding boxed_value looking
extent_is =
    let of_int : Ty → Extent = extent_by (value_within 5 boxed_value) boxed_value [] in
    extent_named boxed_value (own_id 3)
    ∙ ap (λ f. value_extent 0 (all_known (extent_if of_int (own_id 3) 1 f ∷ []))) x_read
    ∙ ap (λ e. value_extent 0 (all_known (e ∷ [])))
    (fold-Prim (extent_step (value_within 5 boxed_value) boxed_value []) Primitive.I4)

pub sixteen_bytes : box_bytes boxed_value (own_class 3) ≡ 16
unfolding looking
sixteen_bytes = ap (λ e. boxed_bytes (size_if e)) extent_is

is_laid_out : is_laid (laid_of boxed_value (own_class 3)) ≡ true
unfolding boxed_value looking laid_of
is_laid_out =
    let env : List Extent = arguments_of boxed_value (own_class 3) in
    ap (λ f. is_laid (laid_if boxed_bytes (value_with 0)
    (all_known (extent_if (extent_with boxed_value env) (own_id 3) 1 f ∷ [])))) x_read
    ∙ ap (λ e. is_laid (laid_if boxed_bytes (value_with 0) (all_known (e ∷ []))))
    (fold-Prim (extent_step (value_within (most_within boxed_value) boxed_value) boxed_value env) Primitive.I4)

deepest_is : deepest boxed_value (own_class 3) ≡ 128
unfolding boxed_value looking
deepest_is =
    let ways : ℕ → ℕ → ℕ = λ d f. (1 + d) * (1 + sum_by (λ n. n) (0 ∷ 0 ∷ f ∷ 0 ∷ 0 ∷ 0 ∷ [])) ^ 6 in
    ap (λ d. ways d (field_depths boxed_value (own_id 3))) (depth_named (own_id 3))
    ∙ ap (λ f. ways 1 (sum_by depth_of (cons_option f []))) x_read
    ∙ ap (λ d. ways 1 (0 + d)) (depth_prim Primitive.I4)

abbrev pub value : ℕ → Value
value n = Value.Compound (and (Value.Int32 (pos n)) none)

pub zero_is : zero_of boxed_value (own_class 3) ≡ value 0
unfolding boxed_value looking
zero_is =
    ap (λ n. zero_within n boxed_value (content_of boxed_value (own_class 3))) deepest_is
    ∙ ap (λ fields. Value.Compound (values
    (map (λ field. zero_within 127 boxed_value (content_of boxed_value field)) fields))) own_fields_are

-- ---- it may be laid out

abbrev value_type : TypeId
value_type = record { «module» = 1; row = 3 }

classes_above : upward boxed_value (own_class 3) ≡ own_class 3 ∷ Named value_type [] ∷ Prim Primitive.Object ∷ []
unfolding boxed_value looking
classes_above =
    upward_more 6 boxed_value (own_class 3) (Some (Named value_type []))
    (Named value_type [] ∷ Prim Primitive.Object ∷ []) (base_named boxed_value (own_id 3) value_type refl)
    (upward_more 5 boxed_value (Named value_type []) (Some (Prim Primitive.Object)) (Prim Primitive.Object ∷ [])
    (base_prim boxed_value value_type Primitive.Object refl) refl)

itself_known : (class_resolves boxed_value (own_class 3) && fields_are_known boxed_value (own_class 3)) ≡ true
unfolding boxed_value looking
itself_known =
    ap (λ fields. (above_resolves boxed_value (own_class 3) && length fields
    == option_map_or (λ id. length (placed_rows boxed_value id)) (definition_of boxed_value (own_class 3)) 0)
    && list_all (is_known_place boxed_value) fields) own_fields_are

is_known : is_known_class boxed_value (own_class 3) ≡ true
unfolding boxed_value looking
is_known =
    ap (λ types. list_all (λ class. class_resolves boxed_value class && fields_are_known boxed_value class)
    (reverse types)) classes_above
    ∙ all_pass (λ class. class_resolves boxed_value class && fields_are_known boxed_value class)
    (Prim Primitive.Object ∷ Named value_type [] ∷ own_class 3 ∷ []) (refl, (refl, (itself_known, tt)))

pub lays_out : may_lay_out boxed_value (own_class 3) ≡ true
lays_out = ap (λ t. t && is_laid (laid_of boxed_value (own_class 3))) is_known ∙ is_laid_out

-- ---- the body and what its tokens name

abbrev pub address_first : Instr
address_first = instr 0 2 Op.LdlocaS (NumberOf (pos 0))

abbrev pub nine : Instr
nine = instr 2 4 Op.LdcI4S (NumberOf (pos 9))

abbrev pub writes_nine : Instr
writes_nine = instr 4 9 Op.Stfld (TokenOf 0x0400_0001)

abbrev pub loads : Instr
loads = instr 9 10 Op.Ldloc0 Nothing

abbrev pub boxes : Instr
boxes = instr 10 15 Op.Box (TokenOf 0x0200_0003)

abbrev pub address_again : Instr
address_again = instr 15 17 Op.LdlocaS (NumberOf (pos 0))

abbrev pub one : Instr
one = instr 17 18 Op.LdcI4_1 Nothing

abbrev pub writes_one : Instr
writes_one = instr 18 23 Op.Stfld (TokenOf 0x0400_0001)

abbrev pub unboxes : Instr
unboxes = instr 23 28 Op.UnboxAny (TokenOf 0x0200_0003)

abbrev pub reads : Instr
reads = instr 28 33 Op.Ldfld (TokenOf 0x0400_0001)

abbrev pub returns : Instr
returns = instr 33 34 Op.Ret Nothing

abbrev main_code : List Instr
main_code =
    address_first ∷ nine ∷ writes_nine ∷ loads ∷ boxes ∷ address_again ∷ one ∷ writes_one ∷ unboxes ∷ reads ∷ returns
    ∷ []

abbrev main_body : Body
main_body = record { max_stack = 8; locals = 0x1100_0001; code = main_code; clauses = [] }

abbrev pub main_scope : Scope
main_scope =
    record { world = boxed_value; name = method_on 2 1; args = []; locals = own_class 3 ∷ []; result = int }

locals_are : locals_of boxed_value (method_on 2 1) 0x1100_0001 ≡ Some (own_class 3 ∷ [])
unfolding boxed_value looking
locals_are =
    let owner : List Ty = arguments (own_class 2) in
    ap (λ f. option_map (map (substituted owner [])) (and_all (no_void f) (Some [])))
    (named_resolved boxed_value 0 (length owner) 0 (own_id 12) (own_id 3) refl)
    ∙ ap (λ t. Some (t ∷ [])) (named_stays owner [] (own_id 3))

main_stands : scope_of boxed_value (method_on 2 1) main_body ≡ Some main_scope
main_stands =
    scope_by boxed_value (method_on 2 1) main_body (plain_callee (method_on 2 1) false (own_class 2) Primitive.I4)
    (own_class 3 ∷ []) main_called locals_are

pub x_named : instance_field main_scope 0x0400_0001 ≡ Some x_member
x_named = field_found main_scope 0x0400_0001 x_name x_member (no_arguments (own_id 2)) x_token x_is refl

pub s_named : type_token main_scope 0x0200_0003 ≡ Some (own_class 3)
unfolding boxed_value looking resolution
s_named = refl

-- ---- rows

abbrev pub a_place : StackSlot
a_place = Pointer (own_class 3)

abbrev pub a_value : StackSlot
a_value = ValueOf (own_class 3)

abbrev an_object : StackSlot
an_object = Refs (own_class 3 ∷ [])

abbrev pub writes_row : Row
writes_row = taking (leads_to boxed_value (own_class 3) ∷ (λ slot. may_store boxed_value slot int) ∷ []) NoResult

abbrev pub boxes_row : Row
boxes_row = taking ((λ slot. may_store boxed_value slot (own_class 3)) ∷ []) (Always an_object)

abbrev pub unboxes_row : Row
unboxes_row = taking (is_object ∷ []) (Always a_value)

abbrev pub reads_row : Row
reads_row = taking (has_fields boxed_value (own_class 3) ∷ []) (Always Int32)

abbrev pub returns_row : Row
returns_row = taking (param_test boxed_value int ∷ []) NoResult

pub address_is : row_of main_scope Unprefixed (action_at address_first) ≡ Some (giving a_place)
unfolding row_of action_of
address_is = refl

pub number_is : row_of main_scope Unprefixed (action_at nine) ≡ Some (giving Int32)
unfolding row_of action_of
number_is = refl

pub one_is : row_of main_scope Unprefixed (action_at one) ≡ Some (giving Int32)
unfolding row_of action_of
one_is = refl

pub writes_is : row_of main_scope Unprefixed (action_at writes_nine) ≡ Some writes_row
unfolding boxed_value looking row_of action_of
writes_is =
    ap (λ m. Some (option_map_or (λ member. taking (leads_to boxed_value member.name.owner
    ∷ (λ slot. may_store boxed_value slot member.ty) ∷ []) NoResult) m (misnamed 2 NoResult))) x_named

pub loads_is : row_of main_scope Unprefixed (action_at loads) ≡ Some (giving a_value)
unfolding boxed_value looking row_of action_of
loads_is = refl

pub boxes_is : row_of main_scope Unprefixed (action_at boxes) ≡ Some boxes_row
unfolding boxed_value looking row_of action_of
boxes_is =
    ap (λ t. Some (option_map_or (λ ty. taking ((λ slot. may_store boxed_value slot ty) ∷ []) (Always (Refs (ty ∷ []))))
    t (misnamed 1 (Always Conflict)))) s_named

pub unboxes_is : row_of main_scope Unprefixed (action_at unboxes) ≡ Some unboxes_row
unfolding boxed_value looking row_of action_of
unboxes_is =
    ap (λ t. Some (option_map_or (λ ty. taking (is_object ∷ []) (Always (slot_of boxed_value ty))) t
    (misnamed 1 (Always Conflict)))) s_named

pub reads_is : row_of main_scope Unprefixed (action_at reads) ≡ Some reads_row
unfolding boxed_value looking row_of action_of
reads_is =
    ap (λ m. Some (option_map_or (λ member. taking (has_fields boxed_value member.name.owner ∷ [])
    (Always (slot_of boxed_value member.ty))) m (misnamed 1 (Always Conflict)))) x_named

pub returns_is : row_of main_scope Unprefixed (action_at returns) ≡ Some returns_row
unfolding looking row_of action_of
returns_is = refl

-- ---- the table of stacks

abbrev main_offsets : List ℕ
main_offsets = 0 ∷ 2 ∷ 4 ∷ 9 ∷ 10 ∷ 15 ∷ 17 ∷ 18 ∷ 23 ∷ 28 ∷ 33 ∷ []

main_reached : reached_offsets main_body ≡ main_offsets
unfolding stacks_by_rounds
main_reached = refl

abbrev main_steps : List Step
main_steps =
    onward 0 2 0 (Always a_place) ∷ onward 2 4 0 (Always Int32) ∷ onward 4 9 2 NoResult ∷ onward 9 10 0 (Always a_value)
    ∷ onward 10 15 1 (Always an_object) ∷ onward 15 17 0 (Always a_place) ∷ onward 17 18 0 (Always Int32)
    ∷ onward 18 23 2 NoResult ∷ onward 23 28 1 (Always a_value) ∷ onward 28 33 1 (Always Int32) ∷ last_step 33 1 ∷ []

-- what an instruction with this row does to the stack
of_row : (i : Instr) (is : Row) → prefix_at main_scope main_body main_offsets i.at ≡ Unprefixed
    → row_of main_scope Unprefixed (action_at i) ≡ Some is
    → row_at main_scope main_body main_offsets i ≡ Some is
of_row i is plain has = row_by main_scope main_body main_offsets i Unprefixed (Some is) plain has

abbrev HasRow : Instr → Row → Type 0
HasRow i is = row_at main_scope main_body main_offsets i ≡ Some is

at_0 : HasRow address_first (giving a_place)
unfolding action_of
at_0 = of_row address_first (giving a_place) refl address_is

pub at_2 : HasRow nine (giving Int32)
unfolding action_of
at_2 = of_row nine (giving Int32) refl number_is

pub at_4 : HasRow writes_nine writes_row
unfolding action_of
at_4 = of_row writes_nine writes_row refl writes_is

pub at_9 : HasRow loads (giving a_value)
unfolding action_of
at_9 = of_row loads (giving a_value) refl loads_is

pub at_10 : HasRow boxes boxes_row
unfolding action_of
at_10 = of_row boxes boxes_row refl boxes_is

at_15 : HasRow address_again (giving a_place)
unfolding action_of
at_15 = of_row address_again (giving a_place) refl address_is

at_17 : HasRow one (giving Int32)
unfolding action_of
at_17 = of_row one (giving Int32) refl one_is

at_18 : HasRow writes_one writes_row
unfolding action_of
at_18 = of_row writes_one writes_row refl writes_is

at_23 : HasRow unboxes unboxes_row
unfolding action_of
at_23 = of_row unboxes unboxes_row refl unboxes_is

at_28 : HasRow reads reads_row
unfolding action_of
at_28 = of_row reads reads_row refl reads_is

at_33 : HasRow returns returns_row
unfolding action_of
at_33 = of_row returns returns_row refl returns_is

of_step : (i : Instr) (is : Row) → HasRow i is
    → step_of main_scope main_body main_offsets i ≡ step_with i (effect_of (action_at i) (Some is))
of_step i is known = step_by main_scope main_body main_offsets i (Some is) known

main_steps_are : steps_of main_scope main_body ≡ main_steps
unfolding action_of
main_steps_are =
    steps_by main_scope main_body main_offsets main_steps main_reached
    (λ j. of_step address_first (giving a_place) at_0 j ∷ of_step nine (giving Int32) at_2 j
    ∷ of_step writes_nine writes_row at_4 j ∷ of_step loads (giving a_value) at_9 j ∷ of_step boxes boxes_row at_10 j
    ∷ of_step address_again (giving a_place) at_15 j ∷ of_step one (giving Int32) at_17 j
    ∷ of_step writes_one writes_row at_18 j ∷ of_step unboxes unboxes_row at_23 j ∷ of_step reads reads_row at_28 j
    ∷ of_step returns returns_row at_33 j ∷ [])

abbrev main_table : List (Option Stack)
main_table =
    known [] ∷ None ∷ known (a_place ∷ []) ∷ None ∷ known (a_place ∷ Int32 ∷ []) ∷ None ∷ None ∷ None ∷ None
    ∷ known [] ∷ known (a_value ∷ []) ∷ None ∷ None ∷ None ∷ None ∷ known (an_object ∷ []) ∷ None
    ∷ known (an_object ∷ a_place ∷ []) ∷ known (an_object ∷ a_place ∷ Int32 ∷ []) ∷ None ∷ None ∷ None ∷ None
    ∷ known (an_object ∷ []) ∷ None ∷ None ∷ None ∷ None ∷ known (a_value ∷ []) ∷ None ∷ None ∷ None ∷ None
    ∷ known (Int32 ∷ []) ∷ []

abbrev main_objects : Ty → Bool
main_objects = is_reference boxed_value

abbrev Stays : Step → Type 0
Stays step = one_further main_objects [] main_table step ≡ main_table

stays_0 : Stays (onward 0 2 0 (Always a_place))
stays_0 = ap (λ slot. slice_set main_table 2 (known (slot ∷ []))) (pointers_meet (own_class 3))

stays_2 : Stays (onward 2 4 0 (Always Int32))
stays_2 = ap (λ slot. slice_set main_table 4 (known (slot ∷ Int32 ∷ []))) (pointers_meet (own_class 3))

stays_9 : Stays (onward 9 10 0 (Always a_value))
stays_9 = ap (λ slot. slice_set main_table 10 (known (slot ∷ []))) (values_meet (own_class 3))

stays_10 : Stays (onward 10 15 1 (Always an_object))
stays_10 = ap (λ slot. slice_set main_table 15 (known (slot ∷ []))) (refs_meet (own_class 3))

stays_15 : Stays (onward 15 17 0 (Always a_place))
stays_15 =
    ap (λ slot. slice_set main_table 17 (known (slot ∷ joined_slot a_place a_place ∷ []))) (refs_meet (own_class 3))
    ∙ ap (λ slot. slice_set main_table 17 (known (an_object ∷ slot ∷ []))) (pointers_meet (own_class 3))

stays_17 : Stays (onward 17 18 0 (Always Int32))
stays_17 =
    ap (λ slot. slice_set main_table 18 (known (slot ∷ joined_slot a_place a_place ∷ Int32 ∷ [])))
    (refs_meet (own_class 3))
    ∙ ap (λ slot. slice_set main_table 18 (known (an_object ∷ slot ∷ Int32 ∷ []))) (pointers_meet (own_class 3))

stays_18 : Stays (onward 18 23 2 NoResult)
stays_18 = ap (λ slot. slice_set main_table 23 (known (slot ∷ []))) (refs_meet (own_class 3))

stays_23 : Stays (onward 23 28 1 (Always a_value))
stays_23 = ap (λ slot. slice_set main_table 28 (known (slot ∷ []))) (values_meet (own_class 3))

main_again : one_round main_objects main_steps [] main_table ≡ main_table
main_again =
    all_stay main_objects main_steps [] main_table (
      stays_0,
      (
        stays_2,
        (
          refl,
          (
            stays_9,
            (
              stays_10,
              (
                stays_15,
                (
                  stays_17,
                  (
                    stays_18,
                    (
                      stays_23,
                      (
                        refl,
                        (
                          refl,
                          tt,
                        ),
                      ),
                    ),
                  ),
                ),
              ),
            ),
          ),
        ),
      ),
    )

main_least : least_stacks main_scope main_body ≡ main_table
main_least =
    least_by main_scope main_body main_steps [] main_table main_steps_are refl
    (by_a_round main_objects main_steps [] 34 main_table refl main_again)

-- ---- what verifying tells

abbrev main_stacks : List OffsetStack
main_stacks =
    before 0 [] ∷ before 2 (a_place ∷ []) ∷ before 4 (a_place ∷ Int32 ∷ []) ∷ before 9 [] ∷ before 10 (a_value ∷ [])
    ∷ before 15 (an_object ∷ []) ∷ before 17 (an_object ∷ a_place ∷ [])
    ∷ before 18 (an_object ∷ a_place ∷ Int32 ∷ []) ∷ before 23 (an_object ∷ []) ∷ before 28 (a_value ∷ [])
    ∷ before 33 (Int32 ∷ []) ∷ []

abbrev main_typing : Typing
main_typing = record { stacks = main_stacks; values = own_class 3 ∷ [] }

main_values : values_in main_stacks ≡ own_class 3 ∷ []
main_values =
    ap (λ t. if t || false then own_class 3 ∷ [] else (own_class 3 ∷ []) ++ (own_class 3 ∷ []))
    (same_itself (own_class 3))

main_typed : typing_of main_table main_steps ≡ main_typing
main_typed = typed_by main_table main_steps main_stacks (own_class 3 ∷ []) refl main_values

writes_suits : suits_row (a_place ∷ Int32 ∷ []) writes_row ≡ true
unfolding boxed_value looking
writes_suits = ap (λ t. t && true) (same_itself (own_class 3))

writes_again_suits : suits_row (an_object ∷ a_place ∷ Int32 ∷ []) writes_row ≡ true
unfolding boxed_value looking
writes_again_suits = ap (λ t. t && true) (same_itself (own_class 3))

boxes_suits : suits_row (a_value ∷ []) boxes_row ≡ true
unfolding boxed_value looking
boxes_suits = ap (λ t. t && true) (same_itself (own_class 3))

reads_suits : suits_row (a_value ∷ []) reads_row ≡ true
unfolding boxed_value looking
reads_suits = ap (λ t. t && true) (same_itself (own_class 3))

main_none : first_failing main_scope main_body (reached_offsets main_body) main_table ≡ None
unfolding looking action_of
main_none =
    let passing : (i : Instr) (slots : List StackSlot) (is : Row) → HasRow i is → is.names ≡ true
    → suits_row slots is ≡ true → list_all (keeps_by true true is.takes main_body i (Slots slots)) rules ≡ true
    → fails main_scope main_body main_offsets i (Slots slots) ≡ false = passes main_scope main_body main_offsets in
    none_fails main_scope main_body main_offsets main_table main_reached (
      passing address_first [] (giving a_place) at_0 refl refl refl,
      (
        passing nine (a_place ∷ []) (giving Int32) at_2 refl refl refl,
        (
          passing writes_nine (a_place ∷ Int32 ∷ []) writes_row at_4 refl writes_suits refl,
          (
            passing loads [] (giving a_value) at_9 refl refl refl,
            (
              passing boxes (a_value ∷ []) boxes_row at_10 refl boxes_suits refl,
              (
                passing address_again (an_object ∷ []) (giving a_place) at_15 refl refl refl,
                (
                  passing one (an_object ∷ a_place ∷ []) (giving Int32) at_17 refl refl refl,
                  (
                    passing writes_one (an_object ∷ a_place ∷ Int32 ∷ []) writes_row at_18 refl writes_again_suits refl,
                    (
                      passing unboxes (an_object ∷ []) unboxes_row at_23 refl refl refl,
                      (
                        passing reads (a_value ∷ []) reads_row at_28 refl reads_suits refl,
                        (passing returns (Int32 ∷ []) returns_row at_33 refl refl refl, tt),
                      ),
                    ),
                  ),
                ),
              ),
            ),
          ),
        ),
      ),
    )

main_verified : verification boxed_value (method_on 2 1) main_body ≡ Ok main_typing
main_verified =
    verified_by boxed_value (method_on 2 1) main_body main_scope main_table main_steps main_typing main_stands
    main_least
    main_steps_are main_typed main_none

-- ---- what may be entered

abbrev Inside : Instr → Type 0
Inside i = is_inside_instruction main_scope main_body i ≡ true

writes_nine_inside : Inside writes_nine
unfolding action_of
writes_nine_inside =
    inside_token main_scope main_body writes_nine 0x0400_0001 (OfField x_name) refl refl (no_arguments (own_id 2))
    x_token
    refl

writes_one_inside : Inside writes_one
unfolding action_of
writes_one_inside =
    inside_token main_scope main_body writes_one 0x0400_0001 (OfField x_name) refl refl (no_arguments (own_id 2))
    x_token
    refl

reads_inside : Inside reads
unfolding action_of
reads_inside =
    inside_token main_scope main_body reads 0x0400_0001 (OfField x_name) refl refl (no_arguments (own_id 2)) x_token
    refl

boxes_inside : Inside boxes
unfolding action_of
boxes_inside =
    inside_token main_scope main_body boxes 0x0200_0003 (OfType (own_class 3)) refl refl (no_arguments (own_id 2))
    s_token
    refl

unboxes_inside : Inside unboxes
unfolding action_of
unboxes_inside =
    inside_token main_scope main_body unboxes 0x0200_0003 (OfType (own_class 3)) refl refl (no_arguments (own_id 2))
    s_token refl

main_inside : is_inside boxed_value (method_on 2 1) main_body ≡ true
unfolding action_of
main_inside =
    inside_by boxed_value (method_on 2 1) main_body main_scope main_offsets main_stands main_reached refl (
      refl,
      (
        refl,
        (
          writes_nine_inside,
          (
            refl,
            (
              boxes_inside,
              (
                refl,
                (
                  refl,
                  (
                    writes_one_inside,
                    (
                      unboxes_inside,
                      (reads_inside, (refl, tt)),
                    ),
                  ),
                ),
              ),
            ),
          ),
        ),
      ),
    ) tt

frame_lies : lays_out_frame boxed_value main_scope main_typing ≡ true
unfolding boxed_value looking
frame_lies = ap (λ t. t && true && (t && true)) lays_out

frame_takes : entry_bytes boxed_value main_scope main_body main_typing ≡ 272
frame_takes =
    ap (λ e. frame_bytes 0 (sum_by (λ n. next_multiple_of n 8) (size_if e ∷ [])) 8
    (max 8 (next_multiple_of (size_if e) 8))) extent_is

abbrev pub main_found : Entry
main_found = record { body = main_body; scope = main_scope; bytes = 272 }

pub main_entry : entry boxed_value (method_on 2 1) ≡ Some main_found
unfolding boxed_value looking
main_entry =
    entered_by boxed_value (method_on 2 1) main_body main_scope main_typing 272 refl main_stands main_inside
    main_verified frame_lies frame_takes refl

-- A program that calls a method through its slot: one lemma for each look-up, each instruction and each step.
use Rattle.std.proofs.Common.{◌≡◌, ◌∙◌, ℕ, suc, true, false, List, [], ◌∷◌, Option, Some, None, Ok, ap, refl, pos, map}
use Rattle.std.specs.Prelude.{◌&&◌, not, if◌then◌else◌, reverse, slice_set, sum_by}
use Rattle.std.specs.Int.{next_multiple_of}
use Rattle.std.specs.List.{flat_map, list_all}
use Rattle.std.specs.Option.{option_and_then}
use Rattle.num_core.specs.Run.{Ended, Running as Goes, Streams}
use Rattle.md_sigs.specs.declared.sig.Sig.{Sig}
use Rattle.md_sigs.specs.Signatures.{signature}
use Rattle.il_code.specs.declared.body.Body.{Body}
use Rattle.il_code.specs.declared.body.Instr.{Instr}
use Rattle.il_code.specs.declared.body.Operand.TheVariants.{Nothing, Token as TokenOf}
use Rattle.il_code.specs.declared.opcode.Op.{Op}
use Rattle.ty_terms.specs.declared.names.MethodName.{MethodName}
use Rattle.ty_terms.specs.declared.ty.Primitive.{Primitive}
use Rattle.ty_terms.specs.declared.ty.Ty.TheVariants.{Prim}
use Rattle.ty_terms.specs.declared.ty.Ty.TheViews.{out-Ty}
use Rattle.ty_layout.specs.Frames.{frame_bytes}
use Rattle.ty_names.specs.Definitions.{method_blob}
use Rattle.ty_names.specs.Modules.{tables_at}
use Rattle.ty_load.specs.declared.item.Item.TheVariants.{OfMethod}
use Rattle.ty_load.specs.Classes.{upward}
use Rattle.ty_load.specs.Entry.{entry_of, is_status_layer, passes as passes_status}
use Rattle.ty_load.specs.Members.{is_equal, method_sig, same_type}
use Rattle.ty_load.specs.Tokens.{and_then, resolution}
use Rattle.ty_load.specs.Walks.{base_type, fitting}
use Rattle.ty_slots.specs.Declared.{declared_by, declared_named, virtual_like}
use Rattle.ty_slots.specs.Implementations.{class_implementation, given_by_class, implementation}
use Rattle.ty_slots.specs.Slots.{overridden, slot_of, slot_within}
use Rattle.cli_layout.specs.Types.{laid_of}
use Rattle.il_stacks.specs.declared.effect.Results.TheVariants.{Nothing as NoResult, Always}
use Rattle.il_stacks.specs.declared.effect.Step.{Step}
use Rattle.il_stacks.specs.declared.slot.StackSlot.{StackSlot}
use Rattle.il_stacks.specs.declared.slot.StackSlot.TheVariants.{Int32, Refs}
use Rattle.il_stacks.specs.declared.stack.Stack.{Stack}
use Rattle.il_stacks.specs.declared.typing.Typing.{Typing}
use Rattle.il_stacks.specs.Rounds.{one_round, stacks_by_rounds}
use Rattle.il_verify.specs.Actions.{action_of}
use Rattle.il_verify.specs.CallRows.{Unprefixed, new_row, param_test, virtual_receiver, virtual_row}
use Rattle.il_verify.specs.Flow.{action_at, reached_offsets, row_at, step_of, steps_of}
use Rattle.il_verify.specs.Inside.{is_inside, is_inside_instruction}
use Rattle.il_verify.specs.Kinds.{is_reference, is_yes}
use Rattle.il_verify.specs.Row.{Row, giving, taking}
use Rattle.il_verify.specs.Rows.{row_of}
use Rattle.il_verify.specs.Rules.{suits_row}
use Rattle.il_verify.specs.Scope.{Scope, callee_of, method_token, scope_of}
use Rattle.il_verify.specs.Verified.{first_failing, least_stacks, verification}
use Rattle.cil_world.specs.CallSteps.{calls_name, dispatched, makes_unless, virtual_call as calls_virtually}
use Rattle.cil_world.specs.Contents.{class_bytes, object_fields, own_fields, size_if, zero_of}
use Rattle.cil_world.specs.Did.{Finishes, Gives, Moves, on_some}
use Rattle.cil_world.specs.Entering.{Entry, bytes_of_frames, bytes_of_running, class_resolves, entry, fields_are_known}
use Rattle.cil_world.specs.Entering.{has_stack, is_laid, may_lay_out, places_bytes, triggers}
use Rattle.cil_world.specs.ObjectPrograms.{virtual_call}
use Rattle.cil_world.specs.Programs.{small_bounds, told}
use Rattle.cil_world.specs.RuntimeSteps.{runtime_call}
use Rattle.cil_world.specs.State.{CilState, Code, Fields, Frame, Going, Made, Making, NewObject, Setting}
use Rattle.cil_world.specs.Step.{CilRun, cil_run, cil_start, cil_step, does}
use Rattle.cil_world.specs.Values.{Value, Made as MadeAs}
use Rattle.cil_world.proofs.Computing.{by_a_round, depth_named, entered_by, fits_by_base, fits_itself, fitting_by}
use Rattle.cil_world.proofs.Computing.{goes_on}
use Rattle.cil_world.proofs.Computing.{inside_by, inside_token, least_by, none_fails, order_named, passes, passes_on}
use Rattle.cil_world.proofs.Computing.{prim_resolved, refs_meet, row_by, step_by, steps_by, then_step, verified_by}
use Rattle.cil_world.proofs.Looking.{base_named, base_prim, callee_by, declared_plain, extent_named, found_here}
use Rattle.cil_world.proofs.Looking.{found_in_base, gives_itself, implemented_by, looking, method_found, method_on}
use Rattle.cil_world.proofs.Looking.{no_arguments}
use Rattle.cil_world.proofs.Looking.{only_in_slot, only_like, own_class, own_id, plain_callee, plain_declared}
use Rattle.cil_world.proofs.Looking.{plain_read}
use Rattle.cil_world.proofs.Looking.{plain_sig, same_method, same_plain, scope_by, slot_above, slot_begins, token_by}
use Rattle.cil_world.proofs.Looking.{upward_more}
use Rattle.cil_world.proofs.Moving.{enters_by, makes_by, resumes_by, runs_by, stack_has, starts_by, uses_by}
use Rattle.cil_world.proofs.Programs.{before, body, instr, int, known, last_step, onward}

-- ---- signatures, methods and tokens

main_sig : signature 0 (method_blob (tables_at virtual_call 0) 1) ≡ Ok (Sig.Method (plain_sig false Primitive.I4))
unfolding virtual_call looking
main_sig = refl

begun_sig : signature 0 (method_blob (tables_at virtual_call 0) 2) ≡ Ok (Sig.Method (plain_sig true Primitive.I4))
unfolding virtual_call looking
begun_sig = refl

constructor_sig : signature 0 (method_blob (tables_at virtual_call 0) 3)
    ≡ Ok (Sig.Method (plain_sig true Primitive.Void))
unfolding virtual_call looking
constructor_sig = refl

override_sig : signature 0 (method_blob (tables_at virtual_call 0) 4) ≡ Ok (Sig.Method (plain_sig true Primitive.I4))
unfolding virtual_call looking
override_sig = refl

main_read : method_sig virtual_call (own_id 2) 1 ≡ Some (plain_sig false Primitive.I4)
unfolding virtual_call looking
main_read = plain_read virtual_call (own_id 2) 1 false Primitive.I4 main_sig refl

begun_read : method_sig virtual_call (own_id 3) 2 ≡ Some (plain_sig true Primitive.I4)
unfolding virtual_call looking
begun_read = plain_read virtual_call (own_id 3) 2 true Primitive.I4 begun_sig refl

constructor_read : method_sig virtual_call (own_id 4) 3 ≡ Some (plain_sig true Primitive.Void)
unfolding virtual_call looking
constructor_read = plain_read virtual_call (own_id 4) 3 true Primitive.Void constructor_sig refl

override_read : method_sig virtual_call (own_id 4) 4 ≡ Some (plain_sig true Primitive.I4)
unfolding virtual_call looking
override_read = plain_read virtual_call (own_id 4) 4 true Primitive.I4 override_sig refl

main_called : callee_of virtual_call (method_on 2 1)
    ≡ Some (plain_callee (method_on 2 1) false (own_class 2) Primitive.I4)
unfolding virtual_call looking
main_called = callee_by virtual_call (method_on 2 1) (own_id 2) false (own_class 2) Primitive.I4 refl main_read refl

begun_called : callee_of virtual_call (method_on 3 2)
    ≡ Some (plain_callee (method_on 3 2) true (own_class 3) Primitive.I4)
unfolding virtual_call looking
begun_called = callee_by virtual_call (method_on 3 2) (own_id 3) true (own_class 3) Primitive.I4 refl begun_read refl

constructor_called : callee_of virtual_call (method_on 4 3)
    ≡ Some (plain_callee (method_on 4 3) true (own_class 4) Primitive.Void)
unfolding virtual_call looking
constructor_called =
    callee_by virtual_call (method_on 4 3) (own_id 4) true (own_class 4) Primitive.Void refl constructor_read refl

override_called : callee_of virtual_call (method_on 4 4)
    ≡ Some (plain_callee (method_on 4 4) true (own_class 4) Primitive.I4)
unfolding virtual_call looking
override_called =
    callee_by virtual_call (method_on 4 4) (own_id 4) true (own_class 4) Primitive.I4 refl override_read refl

constructor_token : resolution virtual_call 0 0x0600_0003 [] [] ≡ Ok (OfMethod (method_on 4 3))
unfolding virtual_call looking
constructor_token =
    token_by virtual_call 0 0x0600_0003 3 [] [] (own_id 4) (Sig.Method (plain_sig true Primitive.Void))
    (plain_sig true Primitive.Void) (own_class 4) refl refl refl constructor_sig refl constructor_read refl refl

begun_token : resolution virtual_call 0 0x0600_0002 [] [] ≡ Ok (OfMethod (method_on 3 2))
unfolding virtual_call looking
begun_token =
    token_by virtual_call 0 0x0600_0002 2 [] [] (own_id 3) (Sig.Method (plain_sig true Primitive.I4))
    (plain_sig true Primitive.I4) (own_class 3) refl refl refl begun_sig refl begun_read refl refl

-- ---- C fits B

base_is : base_type virtual_call (own_class 4) ≡ Ok (Some (own_class 3))
unfolding virtual_call looking
base_is = base_named virtual_call (own_id 4) (own_id 3) refl

are_others : same_type (own_class 4) (own_class 3) ≡ false
unfolding looking
are_others = ap is_equal (order_named (own_id 4) (own_id 3))

fits_base : fitting virtual_call (own_class 4) (own_class 3) ≡ Ok true
unfolding virtual_call looking
fits_base =
    fitting_by virtual_call (own_class 4) (own_class 3) 1 (Ok true) (depth_named (own_id 4))
    (fits_by_base 7 virtual_call (own_class 4) (own_class 3) (own_class 3) (Ok true) are_others refl refl refl base_is
    (fits_itself 6 virtual_call (own_class 3)))

-- ---- what C gives for the slot that B begins

begun_declared : declared_by virtual_call (own_class 3) (own_id 3) 2
    ≡ Ok (plain_declared (own_id 3) 2 true Primitive.I4)
begun_declared = declared_plain virtual_call (own_id 3) 2 true Primitive.I4 begun_sig begun_read

override_declared : declared_by virtual_call (own_class 4) (own_id 4) 4
    ≡ Ok (plain_declared (own_id 4) 4 true Primitive.I4)
override_declared = declared_plain virtual_call (own_id 4) 4 true Primitive.I4 override_sig override_read

begins_slot : (left : ℕ) → slot_within (suc left) virtual_call (plain_declared (own_id 3) 2 true Primitive.I4)
    ≡ Ok (plain_declared (own_id 3) 2 true Primitive.I4)
unfolding virtual_call looking
begins_slot left = slot_begins left virtual_call (own_id 3) 2 true Primitive.I4 refl begun_declared refl

overrides : overridden virtual_call (plain_declared (own_id 4) 4 true Primitive.I4)
    ≡ Ok (Some (plain_declared (own_id 3) 2 true Primitive.I4))
unfolding virtual_call looking
overrides =
    found_in_base 6 virtual_call (virtual_like virtual_call (0x56 ∷ []) (plain_sig true Primitive.I4)) (own_class 4)
    (own_class 3) (plain_declared (own_id 3) 2 true Primitive.I4) refl base_is
    (only_like virtual_call (0x56 ∷ []) (plain_sig true Primitive.I4) (own_class 3) (own_id 3) 2
    (plain_declared (own_id 3) 2 true Primitive.I4) refl refl begun_declared (same_plain Primitive.I4))

override_slot : slot_of virtual_call (plain_declared (own_id 4) 4 true Primitive.I4)
    ≡ Ok (plain_declared (own_id 3) 2 true Primitive.I4)
unfolding virtual_call looking
override_slot =
    slot_above 6 virtual_call (own_id 4) (own_id 3) 4 2 true Primitive.I4 refl override_declared refl overrides
    (begins_slot 5)

class_gives : class_implementation virtual_call (own_class 4) (plain_declared (own_id 3) 2 true Primitive.I4)
    ≡ Ok (Some (plain_declared (own_id 4) 4 true Primitive.I4))
unfolding virtual_call looking
class_gives =
    found_here 6 virtual_call (given_by_class virtual_call (plain_declared (own_id 3) 2 true Primitive.I4))
    (own_class 4) (plain_declared (own_id 4) 4 true Primitive.I4)
    (gives_itself virtual_call (plain_declared (own_id 3) 2 true Primitive.I4) (own_class 4)
    (Ok (Some (plain_declared (own_id 4) 4 true Primitive.I4))) refl
    (only_in_slot virtual_call (plain_declared (own_id 3) 2 true Primitive.I4) (own_class 4) (own_id 4) 4
    (plain_declared (own_id 4) 4 true Primitive.I4) refl refl override_declared override_slot
    (same_method (own_id 3) 2 true Primitive.I4 refl)))

named_declared : declared_named virtual_call (method_on 3 2)
    ≡ Ok (Some (plain_declared (own_id 3) 2 true Primitive.I4))
unfolding looking
named_declared = ap (λ d. and_then d (λ method. Ok (Some method))) begun_declared

implemented_so : implementation virtual_call (own_class 4) (method_on 3 2) ≡ Some (method_on 4 4)
unfolding virtual_call looking
implemented_so =
    implemented_by virtual_call (own_class 4) (method_on 3 2) (plain_declared (own_id 3) 2 true Primitive.I4)
    (plain_declared (own_id 3) 2 true Primitive.I4) (plain_declared (own_id 4) 4 true Primitive.I4) named_declared refl
    (begins_slot 6) class_gives

-- ---- C is a class without fields

classes_above : upward virtual_call (own_class 4) ≡ own_class 4 ∷ own_class 3 ∷ Prim Primitive.Object ∷ []
unfolding virtual_call looking
classes_above =
    upward_more 6 virtual_call (own_class 4) (Some (own_class 3)) (own_class 3 ∷ Prim Primitive.Object ∷ []) base_is
    (upward_more 5 virtual_call (own_class 3) (Some (Prim Primitive.Object)) (Prim Primitive.Object ∷ [])
    (base_prim virtual_call (own_id 3) Primitive.Object refl) refl)

lays_out : may_lay_out virtual_call (own_class 4) ≡ true
unfolding virtual_call looking laid_of
lays_out =
    ap (λ types. list_all (λ class. class_resolves virtual_call class && fields_are_known virtual_call class)
    (reverse types) && is_laid (laid_of virtual_call (own_class 4))) classes_above

no_fields : map (zero_of virtual_call) (object_fields virtual_call (own_class 4)) ≡ []
unfolding virtual_call looking
no_fields =
    ap (λ types. map (zero_of virtual_call) (flat_map (own_fields virtual_call) (reverse types))) classes_above

eight_bytes : class_bytes virtual_call (own_class 4) ≡ 8
unfolding virtual_call looking laid_of
eight_bytes = refl

-- an object takes 8 bytes among the arguments
frame_takes : frame_bytes (places_bytes virtual_call (own_class 4 ∷ [])) 0 8 8 ≡ 272
unfolding virtual_call looking
frame_takes =
    ap (λ e. frame_bytes (sum_by (λ n. next_multiple_of n 8) (size_if e ∷ [])) 0 8 8)
    (extent_named virtual_call (own_id 4))

-- ---- the constructor, which returns

abbrev constructor_body : Body
constructor_body = body (instr 0 1 Op.Ret Nothing ∷ [])

abbrev constructor_scope : Scope
constructor_scope =
    record {
      world = virtual_call;
      name = method_on 4 3;
      args = own_class 4 ∷ [];
      locals = [];
      result = Prim Primitive.Void;
    }

abbrev constructor_found : Entry
constructor_found = record { body = constructor_body; scope = constructor_scope; bytes = 272 }

constructor_stands : scope_of virtual_call (method_on 4 3) constructor_body ≡ Some constructor_scope
constructor_stands =
    scope_by virtual_call (method_on 4 3) constructor_body
    (plain_callee (method_on 4 3) true (own_class 4) Primitive.Void) [] constructor_called refl

constructor_verified : verification virtual_call (method_on 4 3) constructor_body
    ≡ Ok (record { stacks = before 0 [] ∷ []; values = [] })
unfolding virtual_call looking least_stacks stacks_by_rounds row_of action_of
constructor_verified =
    verified_by virtual_call (method_on 4 3) constructor_body constructor_scope (known [] ∷ []) (last_step 0 0 ∷ [])
    (record { stacks = before 0 [] ∷ []; values = [] }) constructor_stands refl refl refl refl

constructor_inside : is_inside virtual_call (method_on 4 3) constructor_body ≡ true
unfolding virtual_call looking stacks_by_rounds action_of
constructor_inside =
    inside_by virtual_call (method_on 4 3) constructor_body constructor_scope (0 ∷ []) constructor_stands refl refl
    (refl, tt) tt

constructor_entry : entry virtual_call (method_on 4 3) ≡ Some constructor_found
unfolding virtual_call looking
constructor_entry =
    entered_by virtual_call (method_on 4 3) constructor_body constructor_scope
    (record { stacks = before 0 [] ∷ []; values = [] }) 272 refl constructor_stands constructor_inside
    constructor_verified refl frame_takes refl

-- ---- the method that overrides, which returns 7

abbrev override_body : Body
override_body = body (instr 0 1 Op.LdcI4_7 Nothing ∷ instr 1 2 Op.Ret Nothing ∷ [])

abbrev override_scope : Scope
override_scope =
    record { world = virtual_call; name = method_on 4 4; args = own_class 4 ∷ []; locals = []; result = int }

abbrev override_found : Entry
override_found = record { body = override_body; scope = override_scope; bytes = 272 }

abbrev override_typing : Typing
override_typing = record { stacks = before 0 [] ∷ before 1 (Int32 ∷ []) ∷ []; values = [] }

override_stands : scope_of virtual_call (method_on 4 4) override_body ≡ Some override_scope
override_stands =
    scope_by virtual_call (method_on 4 4) override_body
    (plain_callee (method_on 4 4) true (own_class 4) Primitive.I4) [] override_called refl

override_verified : verification virtual_call (method_on 4 4) override_body ≡ Ok override_typing
unfolding virtual_call looking least_stacks stacks_by_rounds row_of action_of
override_verified =
    verified_by virtual_call (method_on 4 4) override_body override_scope (known [] ∷ known (Int32 ∷ []) ∷ [])
    (onward 0 1 0 (Always Int32) ∷ last_step 1 1 ∷ []) override_typing override_stands refl refl refl refl

override_inside : is_inside virtual_call (method_on 4 4) override_body ≡ true
unfolding virtual_call looking stacks_by_rounds action_of
override_inside =
    inside_by virtual_call (method_on 4 4) override_body override_scope (0 ∷ 1 ∷ []) override_stands refl refl
    (refl, (refl, tt)) tt

override_entry : entry virtual_call (method_on 4 4) ≡ Some override_found
unfolding virtual_call looking
override_entry =
    entered_by virtual_call (method_on 4 4) override_body override_scope override_typing 272 refl override_stands
    override_inside override_verified refl frame_takes refl

-- ---- the entry, which makes an object and calls

abbrev makes_it : Instr
makes_it = instr 0 5 Op.Newobj (TokenOf 0x0600_0003)

abbrev calls_it : Instr
calls_it = instr 5 10 Op.Callvirt (TokenOf 0x0600_0002)

abbrev returns_it : Instr
returns_it = instr 10 11 Op.Ret Nothing

abbrev main_body : Body
main_body = body (makes_it ∷ calls_it ∷ returns_it ∷ [])

abbrev main_scope : Scope
main_scope = record { world = virtual_call; name = method_on 2 1; args = []; locals = []; result = int }

abbrev main_found : Entry
main_found = record { body = main_body; scope = main_scope; bytes = 256 }

abbrev an_object : StackSlot
an_object = Refs (own_class 4 ∷ [])

abbrev main_table : List (Option Stack)
main_table =
    known [] ∷ None ∷ None ∷ None ∷ None ∷ known (an_object ∷ []) ∷ None ∷ None ∷ None ∷ None ∷ known (Int32 ∷ []) ∷ []

abbrev makes_step : Step
makes_step = onward 0 5 0 (Always an_object)

abbrev calls_step : Step
calls_step = onward 5 10 1 (Always Int32)

abbrev main_steps : List Step
main_steps = makes_step ∷ calls_step ∷ last_step 10 1 ∷ []

abbrev main_typing : Typing
main_typing =
    record { stacks = before 0 [] ∷ before 5 (an_object ∷ []) ∷ before 10 (Int32 ∷ []) ∷ []; values = [] }

main_stands : scope_of virtual_call (method_on 2 1) main_body ≡ Some main_scope
main_stands =
    scope_by virtual_call (method_on 2 1) main_body (plain_callee (method_on 2 1) false (own_class 2) Primitive.I4) []
    main_called refl

constructor_named : method_token main_scope 0x0600_0003
    ≡ Some (plain_callee (method_on 4 3) true (own_class 4) Primitive.Void)
unfolding looking
constructor_named =
    method_found main_scope 0x0600_0003 (method_on 4 3) (plain_callee (method_on 4 3) true (own_class 4) Primitive.Void)
    (no_arguments (own_id 2)) constructor_token constructor_called

begun_named : method_token main_scope 0x0600_0002
    ≡ Some (plain_callee (method_on 3 2) true (own_class 3) Primitive.I4)
unfolding looking
begun_named =
    method_found main_scope 0x0600_0002 (method_on 3 2) (plain_callee (method_on 3 2) true (own_class 3) Primitive.I4)
    (no_arguments (own_id 2)) begun_token begun_called

abbrev makes_row : Row
makes_row = taking [] (Always an_object)

abbrev calls_row : Row
calls_row = taking (virtual_receiver virtual_call Unprefixed (own_class 3) ∷ []) (Always Int32)

abbrev returns_row : Row
returns_row = taking (param_test virtual_call int ∷ []) NoResult

makes_by_row : row_of main_scope Unprefixed (action_at makes_it) ≡ Some makes_row
unfolding virtual_call looking row_of action_of
makes_by_row = ap (option_and_then (new_row virtual_call)) constructor_named

calls_by_row : row_of main_scope Unprefixed (action_at calls_it) ≡ Some calls_row
unfolding virtual_call looking row_of action_of
calls_by_row = ap (option_and_then (virtual_row virtual_call Unprefixed)) begun_named

returns_by_row : row_of main_scope Unprefixed (action_at returns_it) ≡ Some returns_row
unfolding looking row_of action_of
returns_by_row = refl

abbrev main_offsets : List ℕ
main_offsets = 0 ∷ 5 ∷ 10 ∷ []

main_reached : reached_offsets main_body ≡ main_offsets
unfolding stacks_by_rounds
main_reached = refl

makes_at : row_at main_scope main_body main_offsets makes_it ≡ Some makes_row
unfolding action_of
makes_at = row_by main_scope main_body main_offsets makes_it Unprefixed (Some makes_row) refl makes_by_row

calls_at : row_at main_scope main_body main_offsets calls_it ≡ Some calls_row
unfolding action_of
calls_at = row_by main_scope main_body main_offsets calls_it Unprefixed (Some calls_row) refl calls_by_row

returns_at : row_at main_scope main_body main_offsets returns_it ≡ Some returns_row
unfolding action_of
returns_at = row_by main_scope main_body main_offsets returns_it Unprefixed (Some returns_row) refl returns_by_row

makes_is : step_of main_scope main_body main_offsets makes_it ≡ makes_step
unfolding action_of
makes_is = step_by main_scope main_body main_offsets makes_it (Some makes_row) makes_at

calls_is : step_of main_scope main_body main_offsets calls_it ≡ calls_step
unfolding action_of
calls_is = step_by main_scope main_body main_offsets calls_it (Some calls_row) calls_at

returns_is : step_of main_scope main_body main_offsets returns_it ≡ last_step 10 1
unfolding action_of
returns_is = step_by main_scope main_body main_offsets returns_it (Some returns_row) returns_at

main_steps_are : steps_of main_scope main_body ≡ main_steps
main_steps_are =
    steps_by main_scope main_body main_offsets main_steps main_reached
    (λ j. makes_is j ∷ calls_is j ∷ returns_is j ∷ [])

main_again : one_round (is_reference virtual_call) main_steps [] main_table ≡ main_table
main_again =
    passes_on (is_reference virtual_call) makes_step (calls_step ∷ last_step 10 1 ∷ []) [] main_table main_table
    main_table
    (ap (λ slot. slice_set main_table 5 (known (slot ∷ []))) (refs_meet (own_class 4))) refl

main_least : least_stacks main_scope main_body ≡ main_table
main_least =
    least_by main_scope main_body main_steps [] main_table main_steps_are refl
    (by_a_round (is_reference virtual_call) main_steps [] 11 main_table refl main_again)

calls_suits : suits_row (an_object ∷ []) calls_row ≡ true
calls_suits = ap (λ f. is_yes f && true && true) fits_base

main_none : first_failing main_scope main_body (reached_offsets main_body) main_table ≡ None
unfolding looking action_of
main_none =
    none_fails main_scope main_body main_offsets main_table main_reached (
      passes main_scope main_body main_offsets makes_it [] makes_row makes_at refl refl refl,
      (
        passes main_scope main_body main_offsets calls_it (an_object ∷ []) calls_row calls_at refl calls_suits refl,
        (passes main_scope main_body main_offsets returns_it (Int32 ∷ []) returns_row returns_at refl refl refl, tt),
      ),
    )

main_verified : verification virtual_call (method_on 2 1) main_body ≡ Ok main_typing
main_verified =
    verified_by virtual_call (method_on 2 1) main_body main_scope main_table main_steps main_typing main_stands
    main_least
    main_steps_are refl main_none

makes_inside : is_inside_instruction main_scope main_body makes_it ≡ true
unfolding looking action_of
makes_inside =
    inside_token main_scope main_body makes_it 0x0600_0003 (OfMethod (method_on 4 3)) refl refl (no_arguments (own_id
    2))
    constructor_token refl

calls_inside : is_inside_instruction main_scope main_body calls_it ≡ true
unfolding looking action_of
calls_inside =
    inside_token main_scope main_body calls_it 0x0600_0002 (OfMethod (method_on 3 2)) refl refl (no_arguments (own_id
    2))
    begun_token refl

main_inside : is_inside virtual_call (method_on 2 1) main_body ≡ true
unfolding action_of
main_inside =
    inside_by virtual_call (method_on 2 1) main_body main_scope main_offsets main_stands main_reached refl
    (makes_inside, (calls_inside, (refl, tt))) tt

main_entry : entry virtual_call (method_on 2 1) ≡ Some main_found
unfolding virtual_call looking
main_entry =
    entered_by virtual_call (method_on 2 1) main_body main_scope main_typing 256 refl main_stands main_inside
    main_verified refl refl refl

-- ---- where the run stands

abbrev the_object : Value
the_object = Value.Object (MadeAs 0)

abbrev setting : Setting
setting = record { bounds = small_bounds; nodes = None }

-- Main, at an offset
abbrev main_at : ℕ → List Value → Option Making → Frame
main_at offset stack making =
    record {
      runs = Code (method_on 2 1);
      args = [];
      locals = [];
      stack = stack;
      offset = offset;
      making = making;
      caught = [];
      pending = [];
    }

-- a method of the object, at an offset
abbrev above_at : ℕ → ℕ → List Value → Frame
above_at row offset stack =
    record {
      runs = Code (method_on 4 row);
      args = the_object ∷ [];
      locals = [];
      stack = stack;
      offset = offset;
      making = None;
      caught = [];
      pending = [];
    }

-- these frames, over the object if it was made
abbrev stands : List Frame → List Made → ℕ → CilState
stands frames objects heap =
    record {
      frames = frames;
      objects = objects;
      statics = [];
      initializers = [];
      heap = heap;
      phase = Going;
    }

abbrev made : List Made
made = record { ty = own_class 4; holds = Fields []; before = 0 } ∷ []

-- ---- the start

main_begins : entry_of virtual_call ≡ Some (method_on 2 1)
unfolding virtual_call looking
main_begins =
    ap (λ r. if passes_status (λ ty. is_status_layer (out-Ty ty)) r then Some (method_on 2 1) else None)
    (prim_resolved virtual_call 0 0 0 Primitive.I4)

started : cil_start virtual_call setting [] ≡ Goes (stands (main_at 0 [] None ∷ []) [] 0) (told [])
unfolding virtual_call looking small_bounds
started =
    starts_by virtual_call setting [] (method_on 2 1) (plain_callee (method_on 2 1) false (own_class 2) Primitive.I4)
    main_found main_begins main_called main_entry refl refl

-- ---- 1: the object is made, and its constructor is called

main_waits : bytes_of_frames virtual_call (main_at 0 [] (Some (NewObject (MadeAs 0))) ∷ []) ≡ 256
main_waits =
    uses_by virtual_call (main_at 0 [] (Some (NewObject (MadeAs 0)))) [] 256 0
    (runs_by virtual_call (method_on 2 1) main_found main_entry) refl

constructor_fits : has_stack virtual_call setting (main_at 0 [] (Some (NewObject (MadeAs 0))) ∷ [])
    (bytes_of_running virtual_call (Code (method_on 4 3))) ≡ true
unfolding small_bounds
constructor_fits =
    stack_has virtual_call setting (main_at 0 [] (Some (NewObject (MadeAs 0))) ∷ []) (method_on 4 3) 256 272 main_waits
    (runs_by virtual_call (method_on 4 3) constructor_found constructor_entry) refl

makes_does : does setting main_scope (stands (main_at 0 [] None ∷ []) [] 0) 0 (main_at 0 [] None) false Unprefixed 5
    (action_at makes_it) []
    ≡ Moves (stands (above_at 3 0 [] ∷ main_at 0 [] (Some (NewObject (MadeAs 0))) ∷ []) made 8)
unfolding virtual_call looking action_of small_bounds runtime_call
makes_does =
    ap (λ m. on_some m (λ callee. makes_unless
    (not false && triggers virtual_call (stands (main_at 0 [] None ∷ []) [] 0) callee) virtual_call setting
    (stands (main_at 0 [] None ∷ []) [] 0) callee [])) constructor_named
    ∙ makes_by virtual_call setting (stands (main_at 0 [] None ∷ []) [] 0)
    (plain_callee (method_on 4 3) true (own_class 4) Primitive.Void) [] constructor_found 8 [] lays_out refl
    constructor_entry refl eight_bytes refl no_fields constructor_fits

step_1 : cil_step virtual_call setting (stands (main_at 0 [] None ∷ []) [] 0) (told [])
    ≡ Goes (stands (above_at 3 0 [] ∷ main_at 0 [] (Some (NewObject (MadeAs 0))) ∷ []) made 8) (told [])
unfolding cil_step action_of stacks_by_rounds
step_1 =
    then_step virtual_call setting (told []) (stands (main_at 0 [] None ∷ []) [] 0) (main_at 0 [] None) (method_on 2 1)
    main_found makes_it Unprefixed makes_row
    (Moves (stands (above_at 3 0 [] ∷ main_at 0 [] (Some (NewObject (MadeAs 0))) ∷ []) made 8))
    (Goes (stands (above_at 3 0 [] ∷ main_at 0 [] (Some (NewObject (MadeAs 0))) ∷ []) made 8) (told []))
    main_entry refl refl makes_by_row makes_does refl

-- ---- 2: the constructor returns, and the object is pushed

constructor_row : row_of constructor_scope Unprefixed (action_at (instr 0 1 Op.Ret Nothing)) ≡ Some (taking [] NoResult)
unfolding looking row_of action_of
constructor_row = refl

step_2 : cil_step virtual_call setting
    (stands (above_at 3 0 [] ∷ main_at 0 [] (Some (NewObject (MadeAs 0))) ∷ []) made 8) (told [])
    ≡ Goes (stands (main_at 5 (the_object ∷ []) None ∷ []) made 8) (told [])
unfolding cil_step looking action_of stacks_by_rounds
step_2 =
    then_step virtual_call setting (told [])
    (stands (above_at 3 0 [] ∷ main_at 0 [] (Some (NewObject (MadeAs 0))) ∷ []) made 8) (above_at 3 0 []) (method_on 4
    3)
    constructor_found (instr 0 1 Op.Ret Nothing) Unprefixed (taking [] NoResult)
    (Moves (stands (main_at 5 (the_object ∷ []) None ∷ []) made 8))
    (Goes (stands (main_at 5 (the_object ∷ []) None ∷ []) made 8) (told []))
    constructor_entry refl refl constructor_row
    (ap (λ frame. Moves (stands (frame ∷ []) made 8))
    (resumes_by virtual_call [] (main_at 0 [] (Some (NewObject (MadeAs 0)))) main_found 5 main_entry refl)) refl

-- ---- 3: the method that overrides is called

main_calls : bytes_of_frames virtual_call (main_at 5 [] None ∷ []) ≡ 256
main_calls =
    uses_by virtual_call (main_at 5 [] None) [] 256 0 (runs_by virtual_call (method_on 2 1) main_found main_entry) refl

override_fits : has_stack virtual_call setting (main_at 5 [] None ∷ [])
    (bytes_of_running virtual_call (Code (method_on 4 4))) ≡ true
unfolding small_bounds
override_fits =
    stack_has virtual_call setting (main_at 5 [] None ∷ []) (method_on 4 4) 256 272 main_calls
    (runs_by virtual_call (method_on 4 4) override_found override_entry) refl

calls_does : does setting main_scope (stands (main_at 5 [] None ∷ []) made 8) 0 (main_at 5 (the_object ∷ []) None) false
    Unprefixed 10 (action_at calls_it) (the_object ∷ [])
    ≡ Moves (stands (above_at 4 0 [] ∷ main_at 5 [] None ∷ []) made 8)
unfolding virtual_call looking action_of runtime_call
calls_does =
    ap (λ m. on_some m (λ callee. calls_virtually virtual_call setting (stands (main_at 5 [] None ∷ []) made 8) false
    Unprefixed callee (the_object ∷ []))) begun_named
    ∙ ap (dispatched virtual_call setting (stands (main_at 5 [] None ∷ []) made 8) false (MadeAs 0) []) implemented_so
    ∙ ap (calls_name virtual_call setting (stands (main_at 5 [] None ∷ []) made 8) false (the_object ∷ []))
    override_called
    ∙ enters_by virtual_call setting (stands (main_at 5 [] None ∷ []) made 8) (method_on 4 4) (the_object ∷ [])
    override_found refl override_entry override_fits

step_3 : cil_step virtual_call setting (stands (main_at 5 (the_object ∷ []) None ∷ []) made 8) (told [])
    ≡ Goes (stands (above_at 4 0 [] ∷ main_at 5 [] None ∷ []) made 8) (told [])
unfolding cil_step action_of stacks_by_rounds
step_3 =
    then_step virtual_call setting (told []) (stands (main_at 5 (the_object ∷ []) None ∷ []) made 8)
    (main_at 5 (the_object ∷ []) None) (method_on 2 1) main_found calls_it Unprefixed calls_row
    (Moves (stands (above_at 4 0 [] ∷ main_at 5 [] None ∷ []) made 8))
    (Goes (stands (above_at 4 0 [] ∷ main_at 5 [] None ∷ []) made 8) (told []))
    main_entry refl refl calls_by_row calls_does refl

-- ---- 4: it pushes 7

seven_row : row_of override_scope Unprefixed (action_at (instr 0 1 Op.LdcI4_7 Nothing)) ≡ Some (giving Int32)
unfolding looking row_of action_of
seven_row = refl

step_4 : cil_step virtual_call setting (stands (above_at 4 0 [] ∷ main_at 5 [] None ∷ []) made 8) (told [])
    ≡ Goes (stands (above_at 4 1 (Value.Int32 (pos 7) ∷ []) ∷ main_at 5 [] None ∷ []) made 8) (told [])
unfolding cil_step action_of stacks_by_rounds
step_4 =
    then_step virtual_call setting (told []) (stands (above_at 4 0 [] ∷ main_at 5 [] None ∷ []) made 8) (above_at 4 0
    [])
    (method_on 4 4) override_found (instr 0 1 Op.LdcI4_7 Nothing) Unprefixed (giving Int32)
    (Gives (stands (above_at 4 0 [] ∷ main_at 5 [] None ∷ []) made 8) (Value.Int32 (pos 7) ∷ []))
    (Goes (stands (above_at 4 1 (Value.Int32 (pos 7) ∷ []) ∷ main_at 5 [] None ∷ []) made 8) (told []))
    override_entry refl refl seven_row refl refl

-- ---- 5: it returns to Main

back_row : row_of override_scope Unprefixed (action_at (instr 1 2 Op.Ret Nothing)) ≡ Some returns_row
unfolding looking row_of action_of
back_row = refl

step_5 : cil_step virtual_call setting
    (stands (above_at 4 1 (Value.Int32 (pos 7) ∷ []) ∷ main_at 5 [] None ∷ []) made 8) (told [])
    ≡ Goes (stands (main_at 10 (Value.Int32 (pos 7) ∷ []) None ∷ []) made 8) (told [])
unfolding cil_step looking action_of stacks_by_rounds
step_5 =
    then_step virtual_call setting (told [])
    (stands (above_at 4 1 (Value.Int32 (pos 7) ∷ []) ∷ main_at 5 [] None ∷ []) made 8)
    (above_at 4 1 (Value.Int32 (pos 7) ∷ [])) (method_on 4 4) override_found (instr 1 2 Op.Ret Nothing) Unprefixed
    returns_row
    (Moves (stands (main_at 10 (Value.Int32 (pos 7) ∷ []) None ∷ []) made 8))
    (Goes (stands (main_at 10 (Value.Int32 (pos 7) ∷ []) None ∷ []) made 8) (told []))
    override_entry refl refl back_row
    (ap (λ frame. Moves (stands (frame ∷ []) made 8))
    (resumes_by virtual_call (Value.Int32 (pos 7) ∷ []) (main_at 5 [] None) main_found 10 main_entry refl)) refl

-- ---- 6: Main returns

step_6 : cil_step virtual_call setting (stands (main_at 10 (Value.Int32 (pos 7) ∷ []) None ∷ []) made 8) (told [])
    ≡ Ended 7 (told [])
unfolding cil_step looking action_of stacks_by_rounds
step_6 =
    then_step virtual_call setting (told []) (stands (main_at 10 (Value.Int32 (pos 7) ∷ []) None ∷ []) made 8)
    (main_at 10 (Value.Int32 (pos 7) ∷ []) None) (method_on 2 1) main_found returns_it Unprefixed returns_row
    (Finishes 7) (Ended 7 (told [])) main_entry refl refl returns_by_row refl refl

-- ---- the run

pub virtual_call_run : cil_run virtual_call small_bounds [] 6 ≡ Ended 7 (told [])
virtual_call_run =
    let step : CilState → Streams → CilRun = cil_step virtual_call setting in
    let begin : CilRun = cil_start virtual_call setting [] in
    goes_on step 5 begin (Ended 7 (told [])) (stands (main_at 10 (Value.Int32 (pos 7) ∷ []) None ∷ []) made 8) (told [])
    (goes_on step 4 begin (Goes (stands (main_at 10 (Value.Int32 (pos 7) ∷ []) None ∷ []) made 8) (told []))
    (stands (above_at 4 1 (Value.Int32 (pos 7) ∷ []) ∷ main_at 5 [] None ∷ []) made 8) (told [])
    (goes_on step 3 begin
    (Goes (stands (above_at 4 1 (Value.Int32 (pos 7) ∷ []) ∷ main_at 5 [] None ∷ []) made 8) (told []))
    (stands (above_at 4 0 [] ∷ main_at 5 [] None ∷ []) made 8) (told [])
    (goes_on step 2 begin (Goes (stands (above_at 4 0 [] ∷ main_at 5 [] None ∷ []) made 8) (told []))
    (stands (main_at 5 (the_object ∷ []) None ∷ []) made 8) (told [])
    (goes_on step 1 begin (Goes (stands (main_at 5 (the_object ∷ []) None ∷ []) made 8) (told []))
    (stands (above_at 3 0 [] ∷ main_at 0 [] (Some (NewObject (MadeAs 0))) ∷ []) made 8) (told [])
    (goes_on step 0 begin
    (Goes (stands (above_at 3 0 [] ∷ main_at 0 [] (Some (NewObject (MadeAs 0))) ∷ []) made 8) (told []))
    (stands (main_at 0 [] None ∷ []) [] 0) (told []) started step_1) step_2) step_3) step_4) step_5) step_6

-- An exception that is caught behind a finally: one lemma for each look-up, each instruction and each step.
use Rattle.std.proofs.Common.{◌≡◌, ◌∙◌, ℕ, suc, true, false, List, [], ◌∷◌, Option, Some, None, Ok, ap, refl, pos, map}
use Rattle.std.specs.Prelude.{◌&&◌, filter, if◌then◌else◌, not, slice_get, sum_by}
use Rattle.std.specs.Int.{next_multiple_of}
use Rattle.std.specs.Option.{option_and_then, option_map_or}
use Rattle.num_core.specs.Run.{Ended, Running as Goes, Streams}
use Rattle.md_sigs.specs.declared.sig.Sig.{Sig}
use Rattle.md_sigs.specs.Signatures.{signature}
use Rattle.il_code.specs.declared.body.Body.{Body}
use Rattle.il_code.specs.declared.body.Clause.{Clause}
use Rattle.il_code.specs.declared.body.ClauseKind.TheVariants.{Catch, Finally}
use Rattle.il_code.specs.declared.body.Instr.{Instr}
use Rattle.il_code.specs.declared.body.Operand.TheVariants.{Nothing, Token as TokenOf, Target as TargetOf}
use Rattle.il_code.specs.declared.opcode.Op.{Op}
use Rattle.ty_terms.specs.declared.ty.Primitive.{Primitive}
use Rattle.ty_terms.specs.declared.ty.Ty.{Ty}
use Rattle.ty_terms.specs.declared.ty.Ty.TheVariants.{Prim, rolls-Prim, rolls-Named}
use Rattle.ty_terms.specs.Induction.{fold-Named, fold-Prim}
use Rattle.ty_layout.specs.Frames.{frame_bytes}
use Rattle.ty_names.specs.Definitions.{method_blob}
use Rattle.ty_names.specs.Modules.{tables_at}
use Rattle.ty_load.specs.declared.item.Item.{Item}
use Rattle.ty_load.specs.declared.item.Item.TheVariants.{OfMethod, OfType}
use Rattle.ty_load.specs.Members.{method_sig}
use Rattle.ty_load.specs.Tokens.{resolution}
use Rattle.ty_load.specs.Walks.{arguments, fitting}
use Rattle.cli_layout.specs.Types.{laid_of}
use Rattle.il_stacks.specs.declared.effect.Effect.TheVariants.{Empties, Takes}
use Rattle.il_stacks.specs.declared.effect.Handler.{Handler}
use Rattle.il_stacks.specs.declared.effect.Results.TheVariants.{Nothing as NoResult, Always}
use Rattle.il_stacks.specs.declared.effect.Step.{Step}
use Rattle.il_stacks.specs.declared.slot.StackSlot.{StackSlot}
use Rattle.il_stacks.specs.declared.slot.StackSlot.TheVariants.{Int32, Refs}
use Rattle.il_stacks.specs.declared.stack.Stack.{Stack}
use Rattle.il_stacks.specs.declared.typing.Typing.{Typing}
use Rattle.il_stacks.specs.Rounds.{first_table, one_round, stacks_by_rounds}
use Rattle.il_verify.specs.Actions.{action_of}
use Rattle.il_verify.specs.CallRows.{Unprefixed, new_row, param_test}
use Rattle.il_verify.specs.Flow.{action_at, caught_slot, handlers_of_body, reached_offsets, row_at, step_of, steps_of}
use Rattle.il_verify.specs.Inside.{is_inside, is_inside_clause, is_inside_instruction, is_there}
use Rattle.il_verify.specs.Kinds.{is_reference, is_yes}
use Rattle.il_verify.specs.Row.{Row, is_any, is_object, taking}
use Rattle.il_verify.specs.Rows.{row_of}
use Rattle.il_verify.specs.Scope.{Scope, callee_of, if_found, if_type, item, method_token, scope_of, type_token}
use Rattle.il_verify.specs.Verified.{first_failing, least_stacks, verification}
use Rattle.cil_world.specs.CallSteps.{makes_unless}
use Rattle.cil_world.specs.Contents.{class_bytes, object_fields, size_if, zero_of}
use Rattle.cil_world.specs.Did.{Moves, on_some}
use Rattle.cil_world.specs.Entering.{Entry, bytes_of_frames, bytes_of_running, entry, has_stack, may_lay_out}
use Rattle.cil_world.specs.Entering.{places_bytes}
use Rattle.cil_world.specs.Entering.{triggers}
use Rattle.cil_world.specs.ObjectPrograms.{caught_behind}
use Rattle.cil_world.specs.Programs.{small_bounds, told}
use Rattle.cil_world.specs.RuntimeSteps.{runtime_call}
use Rattle.cil_world.specs.State.{CilState, Frame, Setting, Made, Fields, Code, NewObject, Caught, Pending, CatchIn}
use Rattle.cil_world.specs.State.{Phase, Going, Searching, Unwinding}
use Rattle.cil_world.specs.Step.{CilRun, cil_run, cil_start, cil_step, does, searched_or}
use Rattle.cil_world.specs.Unwinding.{before_clause, catches, catches_kind, clauses_with, ends_exceptionally}
use Rattle.cil_world.specs.Unwinding.{found_or_next, numbers_of}
use Rattle.cil_world.specs.Values.{Value, Reference, Made as MadeAs}
use Rattle.cil_world.proofs.Computing.{by_a_round, entered_by, goes_on, inside_by, inside_token, least_by, none_fails}
use Rattle.cil_world.proofs.Computing.{order_itself, passes, row_by, step_by, steps_by, then_step, verified_by}
use Rattle.cil_world.proofs.Looking.{callee_by, extent_named, looking, method_found, method_on, no_arguments, own_class}
use Rattle.cil_world.proofs.Looking.{own_id, plain_callee, plain_read, plain_sig, scope_by, token_by}
use Rattle.cil_world.proofs.Moving.{makes_by, runs_by, stack_has, uses_by}
use Rattle.cil_world.proofs.Programs.{before, body, instr, int, known, last_step, onward}

-- types are compared by folds that don't compute
ruleset folds = (fold-Prim, fold-Named, rolls-Prim, rolls-Named, order_itself)

abbrev e : Ty
e = own_class 3

-- ---- signatures, methods and tokens

main_sig : signature 0 (method_blob (tables_at caught_behind 0) 1) ≡ Ok (Sig.Method (plain_sig false Primitive.I4))
unfolding caught_behind looking
main_sig = refl

constructor_sig : signature 0 (method_blob (tables_at caught_behind 0) 2)
    ≡ Ok (Sig.Method (plain_sig true Primitive.Void))
unfolding caught_behind looking
constructor_sig = refl

main_read : method_sig caught_behind (own_id 2) 1 ≡ Some (plain_sig false Primitive.I4)
unfolding caught_behind looking
main_read = plain_read caught_behind (own_id 2) 1 false Primitive.I4 main_sig refl

constructor_read : method_sig caught_behind (own_id 3) 2 ≡ Some (plain_sig true Primitive.Void)
unfolding caught_behind looking
constructor_read = plain_read caught_behind (own_id 3) 2 true Primitive.Void constructor_sig refl

main_called : callee_of caught_behind (method_on 2 1)
    ≡ Some (plain_callee (method_on 2 1) false (own_class 2) Primitive.I4)
unfolding caught_behind looking
main_called = callee_by caught_behind (method_on 2 1) (own_id 2) false (own_class 2) Primitive.I4 refl main_read refl

constructor_called : callee_of caught_behind (method_on 3 2)
    ≡ Some (plain_callee (method_on 3 2) true e Primitive.Void)
unfolding caught_behind looking
constructor_called =
    callee_by caught_behind (method_on 3 2) (own_id 3) true e Primitive.Void refl constructor_read refl

constructor_token : resolution caught_behind 0 0x0600_0002 [] [] ≡ Ok (OfMethod (method_on 3 2))
unfolding caught_behind looking
constructor_token =
    token_by caught_behind 0 0x0600_0002 2 [] [] (own_id 3) (Sig.Method (plain_sig true Primitive.Void))
    (plain_sig true Primitive.Void) e refl refl refl constructor_sig refl constructor_read refl refl

class_token : resolution caught_behind 0 0x0200_0003 [] [] ≡ Ok (OfType e)
unfolding caught_behind looking resolution
class_token = simp folds

fits : fitting caught_behind e e ≡ Ok true
unfolding caught_behind looking fitting
fits = simp folds

-- ---- E is a class without fields

lays_out : may_lay_out caught_behind e ≡ true
unfolding caught_behind looking laid_of
lays_out = simp folds

no_fields : map (zero_of caught_behind) (object_fields caught_behind e) ≡ []
unfolding caught_behind looking
no_fields = simp folds

eight_bytes : class_bytes caught_behind e ≡ 8
unfolding caught_behind looking laid_of
eight_bytes = refl

-- an object takes 8 bytes among the arguments
frame_takes : frame_bytes (places_bytes caught_behind (e ∷ [])) 0 8 8 ≡ 272
unfolding caught_behind looking
frame_takes =
    ap (λ x. frame_bytes (sum_by (λ n. next_multiple_of n 8) (size_if x ∷ [])) 0 8 8)
    (extent_named caught_behind (own_id 3))

-- ---- the constructor, which returns

abbrev constructor_body : Body
constructor_body = body (instr 0 1 Op.Ret Nothing ∷ [])

abbrev constructor_scope : Scope
constructor_scope =
    record {
      world = caught_behind;
      name = method_on 3 2;
      args = e ∷ [];
      locals = [];
      result = Prim Primitive.Void;
    }

abbrev constructor_found : Entry
constructor_found = record { body = constructor_body; scope = constructor_scope; bytes = 272 }

constructor_stands : scope_of caught_behind (method_on 3 2) constructor_body ≡ Some constructor_scope
constructor_stands =
    scope_by caught_behind (method_on 3 2) constructor_body (plain_callee (method_on 3 2) true e Primitive.Void) []
    constructor_called refl

constructor_verified : verification caught_behind (method_on 3 2) constructor_body
    ≡ Ok (record { stacks = before 0 [] ∷ []; values = [] })
unfolding caught_behind looking least_stacks stacks_by_rounds row_of action_of
constructor_verified =
    verified_by caught_behind (method_on 3 2) constructor_body constructor_scope (known [] ∷ []) (last_step 0 0 ∷ [])
    (record { stacks = before 0 [] ∷ []; values = [] }) constructor_stands refl refl refl refl

constructor_inside : is_inside caught_behind (method_on 3 2) constructor_body ≡ true
unfolding caught_behind looking stacks_by_rounds action_of
constructor_inside =
    inside_by caught_behind (method_on 3 2) constructor_body constructor_scope (0 ∷ []) constructor_stands refl refl
    (refl, tt) tt

constructor_entry : entry caught_behind (method_on 3 2) ≡ Some constructor_found
unfolding caught_behind looking
constructor_entry =
    entered_by caught_behind (method_on 3 2) constructor_body constructor_scope
    (record { stacks = before 0 [] ∷ []; values = [] }) 272 refl constructor_stands constructor_inside
    constructor_verified refl frame_takes refl

-- ---- Main

abbrev makes_it : Instr
makes_it = instr 0 5 Op.Newobj (TokenOf 0x0600_0002)

abbrev throws_it : Instr
throws_it = instr 5 6 Op.Throw Nothing

abbrev ends_it : Instr
ends_it = instr 6 7 Op.Endfinally Nothing

abbrev drops_it : Instr
drops_it = instr 7 8 Op.Pop Nothing

abbrev leaves_it : Instr
leaves_it = instr 8 10 Op.LeaveS (TargetOf 10)

abbrev loads_it : Instr
loads_it = instr 10 11 Op.LdcI4_3 Nothing

abbrev returns_it : Instr
returns_it = instr 11 12 Op.Ret Nothing

abbrev the_finally : Clause
the_finally = record { kind = Finally; try_at = 0; try_end = 6; handler_at = 6; handler_end = 7; class = 0 }

abbrev the_catch : Clause
the_catch = record { kind = Catch; try_at = 0; try_end = 7; handler_at = 7; handler_end = 10; class = 0x0200_0003 }

abbrev main_body : Body
main_body =
    record {
      max_stack = 8;
      locals = 0;
      code = makes_it ∷ throws_it ∷ ends_it ∷ drops_it ∷ leaves_it ∷ loads_it ∷ returns_it ∷ [];
      clauses = the_finally ∷ the_catch ∷ [];
    }

abbrev main_scope : Scope
main_scope = record { world = caught_behind; name = method_on 2 1; args = []; locals = []; result = int }

abbrev main_found : Entry
main_found = record { body = main_body; scope = main_scope; bytes = 256 }

main_stands : scope_of caught_behind (method_on 2 1) main_body ≡ Some main_scope
main_stands =
    scope_by caught_behind (method_on 2 1) main_body (plain_callee (method_on 2 1) false (own_class 2) Primitive.I4) []
    main_called refl

-- what the tokens of its code name
constructor_named : method_token main_scope 0x0600_0002 ≡ Some (plain_callee (method_on 3 2) true e Primitive.Void)
unfolding looking
constructor_named =
    method_found main_scope 0x0600_0002 (method_on 3 2) (plain_callee (method_on 3 2) true e Primitive.Void)
    (no_arguments (own_id 2)) constructor_token constructor_called

class_item : item main_scope 0x0200_0003 ≡ Some (OfType e)
class_item =
    ap (λ a. if_found (resolution caught_behind 0 0x0200_0003 a [])) (no_arguments (own_id 2)) ∙ ap if_found class_token

class_named : type_token main_scope 0x0200_0003 ≡ Some e
class_named = ap (option_and_then if_type) class_item

-- ---- its rows

abbrev an_object : StackSlot
an_object = Refs (e ∷ [])

abbrev makes_row : Row
makes_row = taking [] (Always an_object)

abbrev throws_row : Row
throws_row = taking (is_object ∷ []) NoResult

abbrev empty_row : Row
empty_row = taking [] NoResult

abbrev drops_row : Row
drops_row = taking (is_any ∷ []) NoResult

abbrev loads_row : Row
loads_row = taking [] (Always Int32)

abbrev returns_row : Row
returns_row = taking (param_test caught_behind int ∷ []) NoResult

makes_by_row : row_of main_scope Unprefixed (action_at makes_it) ≡ Some makes_row
unfolding caught_behind looking row_of action_of
makes_by_row = ap (option_and_then (new_row caught_behind)) constructor_named

abbrev main_offsets : List ℕ
main_offsets = 0 ∷ 5 ∷ 6 ∷ 7 ∷ 8 ∷ 10 ∷ 11 ∷ []

main_reached : reached_offsets main_body ≡ main_offsets
unfolding stacks_by_rounds
main_reached = refl

makes_at : row_at main_scope main_body main_offsets makes_it ≡ Some makes_row
unfolding action_of
makes_at = row_by main_scope main_body main_offsets makes_it Unprefixed (Some makes_row) refl makes_by_row

throws_at : row_at main_scope main_body main_offsets throws_it ≡ Some throws_row
unfolding row_of action_of
throws_at = refl

ends_at : row_at main_scope main_body main_offsets ends_it ≡ Some empty_row
unfolding row_of action_of
ends_at = refl

drops_at : row_at main_scope main_body main_offsets drops_it ≡ Some drops_row
unfolding row_of action_of
drops_at = refl

leaves_at : row_at main_scope main_body main_offsets leaves_it ≡ Some empty_row
unfolding row_of action_of
leaves_at = refl

loads_at : row_at main_scope main_body main_offsets loads_it ≡ Some loads_row
unfolding row_of action_of
loads_at = refl

returns_at : row_at main_scope main_body main_offsets returns_it ≡ Some returns_row
unfolding looking row_of action_of
returns_at = refl

-- ---- its table of stacks

abbrev main_steps : List Step
main_steps =
    onward 0 5 0 (Always an_object) ∷ last_step 5 1 ∷ last_step 6 0 ∷ onward 7 8 1 NoResult
    ∷ record { at = 8; ways = 10 ∷ []; effect = Empties } ∷ onward 10 11 0 (Always Int32) ∷ last_step 11 1 ∷ []

makes_is : step_of main_scope main_body main_offsets makes_it ≡ onward 0 5 0 (Always an_object)
unfolding action_of
makes_is = step_by main_scope main_body main_offsets makes_it (Some makes_row) makes_at

rest_is : map (step_of main_scope main_body main_offsets)
    (throws_it ∷ ends_it ∷ drops_it ∷ leaves_it ∷ loads_it ∷ returns_it ∷ [])
    ≡ last_step 5 1 ∷ last_step 6 0 ∷ onward 7 8 1 NoResult
    ∷ record { at = 8; ways = 10 ∷ []; effect = Empties } ∷ onward 10 11 0 (Always Int32) ∷ last_step 11 1 ∷ []
unfolding looking row_of action_of
rest_is = refl

main_steps_are : steps_of main_scope main_body ≡ main_steps
main_steps_are =
    steps_by main_scope main_body main_offsets main_steps main_reached (λ j. makes_is j ∷ rest_is j)

abbrev main_handlers : List Handler
main_handlers =
    record { try_at = 0; try_end = 6; at = 6; caught = None }
    ∷ record { try_at = 0; try_end = 7; at = 7; caught = Some an_object }
    ∷ []

main_handlers_are : handlers_of_body main_scope main_body ≡ main_handlers
main_handlers_are =
    let given : Option StackSlot → Handler = λ slot. record { try_at = 0; try_end = 7; at = 7; caught = slot } in
    ap (λ ty. record { try_at = 0; try_end = 6; at = 6; caught = None } ∷ given (Some (caught_slot ty)) ∷ [])
    class_named

abbrev main_table : List (Option Stack)
main_table =
    known [] ∷ None ∷ None ∷ None ∷ None ∷ known (an_object ∷ []) ∷ known [] ∷ known (an_object ∷ [])
    ∷ known [] ∷ None ∷ known [] ∷ known (Int32 ∷ []) ∷ []

first_round : one_round (is_reference caught_behind) main_steps main_handlers (first_table 12) ≡ main_table
unfolding caught_behind looking
first_round = simp folds

second_round : one_round (is_reference caught_behind) main_steps main_handlers main_table ≡ main_table
unfolding caught_behind looking
second_round = simp folds

main_least : least_stacks main_scope main_body ≡ main_table
main_least =
    least_by main_scope main_body main_steps main_handlers main_table main_steps_are main_handlers_are
    (by_a_round (is_reference caught_behind) main_steps main_handlers 12 main_table first_round second_round)

-- ---- it is verified, inside, and may be entered

abbrev main_typing : Typing
main_typing =
    record {
      stacks =
          before 0 [] ∷ before 5 (an_object ∷ []) ∷ before 6 [] ∷ before 7 (an_object ∷ []) ∷ before 8 []
          ∷ before 10 [] ∷ before 11 (Int32 ∷ []) ∷ [];
      values = [];
    }

main_none : first_failing main_scope main_body (reached_offsets main_body) main_table ≡ None
unfolding looking action_of
main_none =
    none_fails main_scope main_body main_offsets main_table main_reached (
      passes main_scope main_body main_offsets makes_it [] makes_row makes_at refl refl refl,
      (
        passes main_scope main_body main_offsets throws_it (an_object ∷ []) throws_row throws_at refl refl refl,
        (
          passes main_scope main_body main_offsets ends_it [] empty_row ends_at refl refl refl,
          (
            passes main_scope main_body main_offsets drops_it (an_object ∷ []) drops_row drops_at refl refl refl,
            (
              passes main_scope main_body main_offsets leaves_it [] empty_row leaves_at refl refl refl,
              (
                passes main_scope main_body main_offsets loads_it [] loads_row loads_at refl refl refl,
                (
                  passes main_scope main_body main_offsets returns_it (Int32 ∷ []) returns_row returns_at refl refl
                      refl,
                  tt,
                ),
              ),
            ),
          ),
        ),
      ),
    )

main_verified : verification caught_behind (method_on 2 1) main_body ≡ Ok main_typing
main_verified =
    verified_by caught_behind (method_on 2 1) main_body main_scope main_table main_steps main_typing main_stands
    main_least main_steps_are refl main_none

makes_inside : is_inside_instruction main_scope main_body makes_it ≡ true
unfolding looking action_of
makes_inside =
    inside_token main_scope main_body makes_it 0x0600_0002 (OfMethod (method_on 3 2)) refl refl (no_arguments (own_id
    2))
    constructor_token refl

catch_inside : is_inside_clause main_scope main_offsets the_catch ≡ true
catch_inside = ap is_there class_item

main_inside : is_inside caught_behind (method_on 2 1) main_body ≡ true
unfolding action_of
main_inside =
    inside_by caught_behind (method_on 2 1) main_body main_scope main_offsets main_stands main_reached refl
    (makes_inside, (refl, (refl, (refl, (refl, (refl, (refl, tt))))))) (refl, (catch_inside, tt))

main_entry : entry caught_behind (method_on 2 1) ≡ Some main_found
unfolding caught_behind looking
main_entry =
    entered_by caught_behind (method_on 2 1) main_body main_scope main_typing 256 refl main_stands main_inside
    main_verified refl refl refl

-- ---- states

abbrev setting : Setting
setting = record { bounds = small_bounds; nodes = None }

-- Main's frame, where it waits for no constructor
abbrev main_at : ℕ → List Value → List Caught → List Pending → Frame
main_at offset stack caught pending =
    record {
      runs = Code (method_on 2 1);
      args = [];
      locals = [];
      stack = stack;
      offset = offset;
      making = None;
      caught = caught;
      pending = pending;
    }

-- a state behind the charge for the object of E
abbrev thrown : List Frame → Phase → CilState
thrown frames phase =
    record {
      frames = frames;
      objects = record { ty = e; holds = Fields []; before = 0 } ∷ [];
      statics = [];
      initializers = [];
      heap = 8;
      phase = phase;
    }

abbrev begun : CilState
begun =
    record {
      frames = main_at 0 [] [] [] ∷ [];
      objects = [];
      statics = [];
      initializers = [];
      heap = 0;
      phase = Going;
    }

-- the constructor runs, and Main waits for it
abbrev constructs : CilState
constructs =
    thrown
    (record {
      runs = Code (method_on 3 2);
      args = Value.Object (MadeAs 0) ∷ [];
      locals = [];
      stack = [];
      offset = 0;
      making = None;
      caught = [];
      pending = [];
    }
    ∷ record (main_at 0 [] [] []) { making = Some (NewObject (MadeAs 0)) } ∷ []) Going

abbrev made : CilState
made = thrown (main_at 5 (Value.Object (MadeAs 0) ∷ []) [] [] ∷ []) Going

abbrev searches : ℕ → CilState
searches place = thrown (main_at 5 [] [] [] ∷ []) (Searching (MadeAs 0) 0 place)

abbrev unwinds : CilState
unwinds = thrown (main_at 5 [] [] [] ∷ []) (Unwinding (MadeAs 0) 0 1 (0 ∷ []))

abbrev in_finally : CilState
in_finally =
    thrown (main_at 6 [] [] (record { handler = 0; left = []; goal = CatchIn (MadeAs 0) 0 1 } ∷ []) ∷ []) Going

abbrev unwound : CilState
unwound = thrown (main_at 6 [] [] [] ∷ []) (Unwinding (MadeAs 0) 0 1 [])

abbrev has_caught : List Caught
has_caught = record { clause = 1; object = MadeAs 0 } ∷ []

abbrev in_catch : ℕ → List Value → CilState
in_catch offset stack = thrown (main_at offset stack has_caught [] ∷ []) Going

abbrev behind : ℕ → List Value → CilState
behind offset stack = thrown (main_at offset stack [] [] ∷ []) Going

-- ---- steps

abbrev steps_to : CilState → CilState → Type 0
steps_to before next = cil_step caught_behind setting before (told []) ≡ Goes next (told [])

starts : cil_start caught_behind setting [] ≡ Goes begun (told [])
unfolding caught_behind looking cil_start runtime_call small_bounds
starts = simp (main_entry, folds)

main_waits : bytes_of_frames caught_behind (record (main_at 0 [] [] []) { making = Some (NewObject (MadeAs 0)) } ∷ [])
    ≡ 256
main_waits =
    uses_by caught_behind (record (main_at 0 [] [] []) { making = Some (NewObject (MadeAs 0)) }) [] 256 0
    (runs_by caught_behind (method_on 2 1) main_found main_entry) refl

constructor_fits : has_stack caught_behind setting
    (record (main_at 0 [] [] []) { making = Some (NewObject (MadeAs 0)) } ∷ [])
    (bytes_of_running caught_behind (Code (method_on 3 2))) ≡ true
unfolding small_bounds
constructor_fits =
    stack_has caught_behind setting (record (main_at 0 [] [] []) { making = Some (NewObject (MadeAs 0)) } ∷ [])
    (method_on 3 2) 256 272 main_waits (runs_by caught_behind (method_on 3 2) constructor_found constructor_entry) refl

makes_does : does setting main_scope begun 0 (main_at 0 [] [] []) false Unprefixed 5 (action_at makes_it) []
    ≡ Moves constructs
unfolding caught_behind looking action_of small_bounds runtime_call
makes_does =
    ap (λ m. on_some m (λ callee. makes_unless (not false && triggers caught_behind begun callee) caught_behind setting
    begun callee [])) constructor_named
    ∙ makes_by caught_behind setting begun (plain_callee (method_on 3 2) true e Primitive.Void) [] constructor_found 8
    []
    lays_out refl constructor_entry refl eight_bytes refl no_fields constructor_fits

step_1 : steps_to begun constructs
unfolding cil_step action_of stacks_by_rounds
step_1 =
    then_step caught_behind setting (told []) begun (main_at 0 [] [] []) (method_on 2 1) main_found makes_it Unprefixed
    makes_row (Moves constructs) (Goes constructs (told [])) main_entry refl refl makes_by_row makes_does refl

step_2 : steps_to constructs made
unfolding caught_behind looking cil_step row_of action_of runtime_call laid_of stacks_by_rounds small_bounds
step_2 = simp (main_entry, constructor_entry, folds)

step_3 : steps_to made (searches 0)
unfolding caught_behind looking cil_step row_of action_of runtime_call laid_of stacks_by_rounds small_bounds
step_3 = simp (main_entry, folds)

step_4 : steps_to (searches 0) (searches 1)
unfolding caught_behind looking cil_step row_of action_of runtime_call laid_of stacks_by_rounds small_bounds
step_4 = simp (main_entry, folds)

-- the catch's test passes
abbrev test_of : Option Entry → Option ℕ
test_of found =
    option_and_then (λ entered. option_and_then (λ clause.
    if catches caught_behind (searches 1) (MadeAs 0) entered clause then Some clause.0 else None)
    (slice_get (clauses_with 5 entered) 1)) found

test_passes : test_of (entry caught_behind (method_on 2 1)) ≡ Some 1
test_passes =
    ap test_of main_entry
    ∙ ap (λ ty. if catches_kind caught_behind (searches 1) (MadeAs 0) ty Catch then Some 1 else None) class_named
    ∙ ap (λ f. if is_yes f then Some 1 else None) fits

-- the finally is to run before it
abbrev to_run : Option Entry → CilState
to_run found =
    thrown (main_at 5 [] [] [] ∷ []) (Unwinding (MadeAs 0) 0 1
    (numbers_of (filter ends_exceptionally (before_clause 1 (option_map_or (clauses_with 5) found [])))))

step_5 : steps_to (searches 1) unwinds
unfolding cil_step
step_5 =
    ap (λ n. searched_or (told []) (found_or_next caught_behind (searches 1) (MadeAs 0) 0 1 n)) test_passes
    ∙ ap (λ found. Goes (to_run found) (told [])) main_entry

step_6 : steps_to unwinds in_finally
unfolding caught_behind looking cil_step row_of action_of runtime_call laid_of stacks_by_rounds small_bounds
step_6 = simp (main_entry, folds)

step_7 : steps_to in_finally unwound
unfolding caught_behind looking cil_step row_of action_of runtime_call laid_of stacks_by_rounds small_bounds
step_7 = simp (main_entry, folds)

step_8 : steps_to unwound (in_catch 7 (Value.Object (MadeAs 0) ∷ []))
unfolding caught_behind looking cil_step row_of action_of runtime_call laid_of stacks_by_rounds small_bounds
step_8 = simp (main_entry, folds)

step_9 : steps_to (in_catch 7 (Value.Object (MadeAs 0) ∷ [])) (in_catch 8 [])
unfolding caught_behind looking cil_step row_of action_of runtime_call laid_of stacks_by_rounds small_bounds
step_9 = simp (main_entry, folds)

step_10 : steps_to (in_catch 8 []) (behind 10 [])
unfolding caught_behind looking cil_step row_of action_of runtime_call laid_of stacks_by_rounds small_bounds
step_10 = simp (main_entry, folds)

step_11 : steps_to (behind 10 []) (behind 11 (Value.Int32 (pos 3) ∷ []))
unfolding caught_behind looking cil_step row_of action_of runtime_call laid_of stacks_by_rounds small_bounds
step_11 = simp (main_entry, folds)

step_12 : cil_step caught_behind setting (behind 11 (Value.Int32 (pos 3) ∷ [])) (told []) ≡ Ended 3 (told [])
unfolding caught_behind looking cil_step row_of action_of runtime_call laid_of stacks_by_rounds small_bounds
step_12 = simp (main_entry, folds)

-- ---- the run

-- where the program stands after so many steps
abbrev stands : ℕ → CilRun → Type 0
stands n run = cil_run caught_behind small_bounds [] n ≡ run

abbrev at_state : CilState → CilRun
at_state state = Goes state (told [])

then_stands : (n : ℕ) (state : CilState) (next : CilRun) → stands n (at_state state)
    → cil_step caught_behind setting state (told []) ≡ next → stands (suc n) next
then_stands n state next before step =
    goes_on (cil_step caught_behind setting) n (cil_start caught_behind setting []) next state (told []) before step

pub caught_run : cil_run caught_behind small_bounds [] 12 ≡ Ended 3 (told [])
caught_run =
    let at_1 : stands 1 (at_state constructs) =
    then_stands 0 begun (at_state constructs) starts step_1 in
    let at_2 : stands 2 (at_state made) =
    then_stands 1 constructs (at_state made) at_1 step_2 in
    let at_3 : stands 3 (at_state (searches 0)) =
    then_stands 2 made (at_state (searches 0)) at_2 step_3 in
    let at_4 : stands 4 (at_state (searches 1)) =
    then_stands 3 (searches 0) (at_state (searches 1)) at_3 step_4 in
    let at_5 : stands 5 (at_state unwinds) =
    then_stands 4 (searches 1) (at_state unwinds) at_4 step_5 in
    let at_6 : stands 6 (at_state in_finally) =
    then_stands 5 unwinds (at_state in_finally) at_5 step_6 in
    let at_7 : stands 7 (at_state unwound) =
    then_stands 6 in_finally (at_state unwound) at_6 step_7 in
    let at_8 : stands 8 (at_state (in_catch 7 (Value.Object (MadeAs 0) ∷ []))) =
    then_stands 7 unwound (at_state (in_catch 7 (Value.Object (MadeAs 0) ∷ []))) at_7 step_8 in
    let at_9 : stands 9 (at_state (in_catch 8 [])) =
    then_stands 8 (in_catch 7 (Value.Object (MadeAs 0) ∷ [])) (at_state (in_catch 8 [])) at_8 step_9 in
    let at_10 : stands 10 (at_state (behind 10 [])) =
    then_stands 9 (in_catch 8 []) (at_state (behind 10 [])) at_9 step_10 in
    let at_11 : stands 11 (at_state (behind 11 (Value.Int32 (pos 3) ∷ []))) =
    then_stands 10 (behind 10 []) (at_state (behind 11 (Value.Int32 (pos 3) ∷ []))) at_10 step_11 in
    then_stands 11 (behind 11 (Value.Int32 (pos 3) ∷ [])) (Ended 3 (told [])) at_11 step_12

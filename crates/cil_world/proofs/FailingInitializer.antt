-- A program whose initializer fails, twice: its bodies, and what may be entered. The steps are in FailingSteps.
use Rattle.std.proofs.Common.{◌≡◌, ◌∙◌, ℕ, ◌+◌, true, false, Bool, List, [], ◌∷◌, Option, Some, None, Ok, ap}
use Rattle.std.proofs.Common.{refl, map, length}
use Rattle.std.specs.Prelude.{◌&&◌, fold, slice_set, sum_by}
use Rattle.std.specs.Int.{next_multiple_of}
use Rattle.std.specs.List.{list_all}
use Rattle.std.specs.Option.{option_and_then, option_map}
use Rattle.il_code.specs.declared.body.Body.{Body}
use Rattle.il_code.specs.declared.body.Clause.{Clause}
use Rattle.il_code.specs.declared.body.ClauseKind.TheVariants.{Catch}
use Rattle.il_code.specs.declared.body.Instr.{Instr}
use Rattle.il_code.specs.declared.body.Operand.TheVariants.{Nothing, Target, Token as TokenOf}
use Rattle.il_code.specs.declared.opcode.Op.{Op}
use Rattle.ty_terms.specs.declared.ty.Primitive.{Primitive}
use Rattle.ty_terms.specs.declared.ty.Ty.{Ty}
use Rattle.ty_terms.specs.declared.ty.Ty.TheVariants.{Prim}
use Rattle.ty_terms.specs.Subst.{substituted}
use Rattle.ty_layout.specs.Frames.{frame_bytes}
use Rattle.ty_load.specs.declared.item.Item.TheVariants.{OfMethod}
use Rattle.ty_load.specs.Tokens.{resolution}
use Rattle.ty_load.specs.Types.{and_all, no_void}
use Rattle.ty_load.specs.Walks.{arguments}
use Rattle.il_stacks.specs.declared.effect.Effect.TheVariants.{Empties}
use Rattle.il_stacks.specs.declared.effect.Handler.{Handler}
use Rattle.il_stacks.specs.declared.effect.Results.TheVariants.{Nothing as NoResult, Always}
use Rattle.il_stacks.specs.declared.effect.Step.{Step}
use Rattle.il_stacks.specs.declared.slot.StackSlot.{StackSlot}
use Rattle.il_stacks.specs.declared.slot.StackSlot.TheVariants.{Int32, Refs}
use Rattle.il_stacks.specs.declared.stack.Stack.{Stack}
use Rattle.il_stacks.specs.declared.stack.Stack.TheVariants.{Slots}
use Rattle.il_stacks.specs.declared.typing.Typing.{Typing}
use Rattle.il_stacks.specs.Rounds.{first_table, one_further, one_round, stacks_by_rounds}
use Rattle.il_stacks.specs.Slots.{joined_slot}
use Rattle.il_verify.specs.Actions.{Leave, OnExceptions, action_of}
use Rattle.il_verify.specs.BranchRows.{comparable}
use Rattle.il_verify.specs.CallRows.{Unprefixed, call_row, new_row, param_test}
use Rattle.il_verify.specs.Flow.{action_at, caught_slot, effect_of, handlers_of_body, prefix_at, reached_offsets}
use Rattle.il_verify.specs.Flow.{row_at}
use Rattle.il_verify.specs.Flow.{step_of, step_with, steps_of}
use Rattle.il_verify.specs.Inside.{is_inside, is_inside_instruction}
use Rattle.il_verify.specs.Kinds.{is_reference, is_yes, may_store}
use Rattle.il_verify.specs.Row.{Row, giving, is_object, taking, taking_both}
use Rattle.il_verify.specs.Rows.{row_of}
use Rattle.il_verify.specs.Rules.{fails, rules, suits_row}
use Rattle.il_verify.specs.Scope.{Scope, locals_of, method_token, scope_of, type_token}
use Rattle.il_verify.specs.Verified.{first_failing, least_stacks, verification}
use Rattle.cil_world.specs.Contents.{size_if}
use Rattle.cil_world.specs.Entering.{Entry, entry, entry_bytes}
use Rattle.cil_world.specs.Entering.{places_bytes}
use Rattle.cil_world.specs.ObjectPrograms.{failing_initializer}
use Rattle.cil_world.proofs.Computing.{all_stay, by_a_round, entered_by}
use Rattle.cil_world.proofs.Computing.{inside_by, inside_token, keeps_by}
use Rattle.cil_world.proofs.Computing.{least_by}
use Rattle.cil_world.proofs.Computing.{none_fails, passes, passes_on}
use Rattle.cil_world.proofs.Computing.{prim_resolved, prim_stays, refs_meet, row_by, step_by, steps_by, verified_by}
use Rattle.cil_world.proofs.Looking.{extent_named, extent_prim, looking}
use Rattle.cil_world.proofs.Looking.{method_found, method_on, no_arguments, own_class, own_id, plain_callee}
use Rattle.cil_world.proofs.Looking.{scope_by}
use Rattle.cil_world.proofs.Programs.{before, body, instr, int, known, last_step, onward}
use Rattle.cil_world.proofs.FailingTypes.{called_called, called_token, constructor_called, constructor_token}
use Rattle.cil_world.proofs.FailingTypes.{initializer_called, object}
use Rattle.cil_world.proofs.FailingTypes.{main_called, object_itself}

-- ---- the constructor, which returns

abbrev pub constructor_body : Body
constructor_body = body (instr 0 1 Op.Ret Nothing ∷ [])

abbrev pub constructor_scope : Scope
constructor_scope =
    record {
      world = failing_initializer;
      name = method_on 4 4;
      args = own_class 4 ∷ [];
      locals = [];
      result = Prim Primitive.Void;
    }

abbrev pub constructor_found : Entry
constructor_found = record { body = constructor_body; scope = constructor_scope; bytes = 272 }

constructor_stands : scope_of failing_initializer (method_on 4 4) constructor_body ≡ Some constructor_scope
constructor_stands =
    scope_by failing_initializer (method_on 4 4) constructor_body
    (plain_callee (method_on 4 4) true (own_class 4) Primitive.Void) [] constructor_called refl

constructor_verified : verification failing_initializer (method_on 4 4) constructor_body
    ≡ Ok (record { stacks = before 0 [] ∷ []; values = [] })
unfolding failing_initializer looking least_stacks stacks_by_rounds row_of action_of
constructor_verified =
    verified_by failing_initializer (method_on 4 4) constructor_body constructor_scope (known [] ∷ [])
    (last_step 0 0 ∷ []) (record { stacks = before 0 [] ∷ []; values = [] }) constructor_stands refl refl refl refl

constructor_inside : is_inside failing_initializer (method_on 4 4) constructor_body ≡ true
unfolding failing_initializer looking stacks_by_rounds action_of
constructor_inside =
    inside_by failing_initializer (method_on 4 4) constructor_body constructor_scope (0 ∷ []) constructor_stands refl
    refl
    (refl, tt) tt

constructor_takes : frame_bytes (places_bytes failing_initializer (own_class 4 ∷ [])) 0 8 8 ≡ 272
unfolding failing_initializer looking
constructor_takes =
    ap (λ e. frame_bytes (sum_by (λ n. next_multiple_of n 8) (size_if e ∷ [])) 0 8 8)
    (extent_named failing_initializer (own_id 4))

pub constructor_entry : entry failing_initializer (method_on 4 4) ≡ Some constructor_found
unfolding failing_initializer looking
constructor_entry =
    entered_by failing_initializer (method_on 4 4) constructor_body constructor_scope
    (record { stacks = before 0 [] ∷ []; values = [] }) 272 refl constructor_stands constructor_inside
    constructor_verified refl constructor_takes refl

-- ---- the initializer, which throws what it makes

abbrev pub makes_it : Instr
makes_it = instr 0 5 Op.Newobj (TokenOf 0x0600_0004)

abbrev pub throws_it : Instr
throws_it = instr 5 6 Op.Throw Nothing

abbrev pub initializer_body : Body
initializer_body = body (makes_it ∷ throws_it ∷ [])

abbrev pub initializer_scope : Scope
initializer_scope =
    record {
      world = failing_initializer;
      name = method_on 3 2;
      args = [];
      locals = [];
      result = Prim Primitive.Void;
    }

abbrev pub initializer_found : Entry
initializer_found = record { body = initializer_body; scope = initializer_scope; bytes = 256 }

abbrev thrown : StackSlot
thrown = Refs (own_class 4 ∷ [])

abbrev initializer_table : List (Option Stack)
initializer_table = known [] ∷ None ∷ None ∷ None ∷ None ∷ known (thrown ∷ []) ∷ []

abbrev initializer_steps : List Step
initializer_steps = onward 0 5 0 (Always thrown) ∷ last_step 5 1 ∷ []

abbrev initializer_typing : Typing
initializer_typing = record { stacks = before 0 [] ∷ before 5 (thrown ∷ []) ∷ []; values = [] }

abbrev pub makes_row : Row
makes_row = taking [] (Always thrown)

abbrev pub throws_row : Row
throws_row = taking (is_object ∷ []) NoResult

initializer_stands : scope_of failing_initializer (method_on 3 2) initializer_body ≡ Some initializer_scope
initializer_stands =
    scope_by failing_initializer (method_on 3 2) initializer_body
    (plain_callee (method_on 3 2) false (own_class 3) Primitive.Void) [] initializer_called refl

pub constructor_named : method_token initializer_scope 0x0600_0004
    ≡ Some (plain_callee (method_on 4 4) true (own_class 4) Primitive.Void)
constructor_named =
    method_found initializer_scope 0x0600_0004 (method_on 4 4)
    (plain_callee (method_on 4 4) true (own_class 4) Primitive.Void) (no_arguments (own_id 3)) constructor_token
    constructor_called

pub makes_is : row_of initializer_scope Unprefixed (action_at makes_it) ≡ Some makes_row
unfolding failing_initializer looking row_of action_of
makes_is = ap (option_and_then (new_row failing_initializer)) constructor_named

pub throws_is : row_of initializer_scope Unprefixed (action_at throws_it) ≡ Some throws_row
unfolding row_of action_of
throws_is = refl

abbrev initializer_offsets : List ℕ
initializer_offsets = 0 ∷ 5 ∷ []

initializer_reached : reached_offsets initializer_body ≡ initializer_offsets
unfolding stacks_by_rounds
initializer_reached = refl

makes_at : row_at initializer_scope initializer_body initializer_offsets makes_it ≡ Some makes_row
unfolding action_of
makes_at = row_by initializer_scope initializer_body initializer_offsets makes_it Unprefixed (Some makes_row) refl
    makes_is

throws_at : row_at initializer_scope initializer_body initializer_offsets throws_it ≡ Some throws_row
unfolding action_of
throws_at =
    row_by initializer_scope initializer_body initializer_offsets throws_it Unprefixed (Some throws_row) refl throws_is

makes_step : step_of initializer_scope initializer_body initializer_offsets makes_it ≡ onward 0 5 0 (Always thrown)
unfolding action_of
makes_step = step_by initializer_scope initializer_body initializer_offsets makes_it (Some makes_row) makes_at

throws_step : step_of initializer_scope initializer_body initializer_offsets throws_it ≡ last_step 5 1
unfolding action_of
throws_step = step_by initializer_scope initializer_body initializer_offsets throws_it (Some throws_row) throws_at

initializer_steps_are : steps_of initializer_scope initializer_body ≡ initializer_steps
initializer_steps_are =
    steps_by initializer_scope initializer_body initializer_offsets initializer_steps initializer_reached
    (λ j. makes_step j ∷ throws_step j ∷ [])

initializer_again : one_round (is_reference failing_initializer) initializer_steps [] initializer_table
    ≡ initializer_table
initializer_again =
    all_stay (is_reference failing_initializer) initializer_steps [] initializer_table
    (ap (λ slot. slice_set initializer_table 5 (known (slot ∷ []))) (refs_meet (own_class 4)), (refl, tt))

initializer_least : least_stacks initializer_scope initializer_body ≡ initializer_table
initializer_least =
    least_by initializer_scope initializer_body initializer_steps [] initializer_table initializer_steps_are refl
    (by_a_round (is_reference failing_initializer) initializer_steps [] 6 initializer_table refl initializer_again)

initializer_none : first_failing initializer_scope initializer_body (reached_offsets initializer_body) initializer_table
    ≡ None
unfolding action_of
initializer_none =
    none_fails initializer_scope initializer_body initializer_offsets initializer_table initializer_reached (
      passes initializer_scope initializer_body initializer_offsets makes_it [] makes_row makes_at refl refl refl,
      (
        passes initializer_scope initializer_body initializer_offsets throws_it (thrown ∷ []) throws_row throws_at refl
            refl
            refl,
        tt,
      ),
    )

initializer_verified : verification failing_initializer (method_on 3 2) initializer_body ≡ Ok initializer_typing
initializer_verified =
    verified_by failing_initializer (method_on 3 2) initializer_body initializer_scope initializer_table
    initializer_steps
    initializer_typing initializer_stands initializer_least initializer_steps_are refl initializer_none

makes_inside : is_inside_instruction initializer_scope initializer_body makes_it ≡ true
unfolding action_of
makes_inside =
    inside_token initializer_scope initializer_body makes_it 0x0600_0004 (OfMethod (method_on 4 4)) refl refl
    (no_arguments (own_id 3)) constructor_token refl

initializer_inside : is_inside failing_initializer (method_on 3 2) initializer_body ≡ true
unfolding action_of
initializer_inside =
    inside_by failing_initializer (method_on 3 2) initializer_body initializer_scope initializer_offsets
    initializer_stands initializer_reached refl (makes_inside, (refl, tt)) tt

pub initializer_entry : entry failing_initializer (method_on 3 2) ≡ Some initializer_found
unfolding failing_initializer looking
initializer_entry =
    entered_by failing_initializer (method_on 3 2) initializer_body initializer_scope initializer_typing 256 refl
    initializer_stands initializer_inside initializer_verified refl refl refl

-- ---- Main, which calls twice and compares what it caught

abbrev pub calls_first : Instr
calls_first = instr 0 5 Op.Call (TokenOf 0x0600_0003)

abbrev pub leaves_first : Instr
leaves_first = instr 5 7 Op.LeaveS (Target 10)

abbrev pub keeps_first : Instr
keeps_first = instr 7 8 Op.Stloc0 Nothing

abbrev pub leaves_catch : Instr
leaves_catch = instr 8 10 Op.LeaveS (Target 10)

abbrev pub calls_second : Instr
calls_second = instr 10 15 Op.Call (TokenOf 0x0600_0003)

abbrev pub leaves_second : Instr
leaves_second = instr 15 17 Op.LeaveS (Target 20)

abbrev pub keeps_second : Instr
keeps_second = instr 17 18 Op.Stloc1 Nothing

abbrev pub leaves_again : Instr
leaves_again = instr 18 20 Op.LeaveS (Target 20)

abbrev pub loads_first : Instr
loads_first = instr 20 21 Op.Ldloc0 Nothing

abbrev pub loads_second : Instr
loads_second = instr 21 22 Op.Ldloc1 Nothing

abbrev pub compares : Instr
compares = instr 22 24 Op.Ceq Nothing

abbrev pub returns : Instr
returns = instr 24 25 Op.Ret Nothing

abbrev pub main_code : List Instr
main_code =
    calls_first ∷ leaves_first ∷ keeps_first ∷ leaves_catch ∷ calls_second ∷ leaves_second ∷ keeps_second ∷ leaves_again
    ∷ loads_first ∷ loads_second ∷ compares ∷ returns ∷ []

abbrev pub catches_from : ℕ → Clause
catches_from at =
    record {
      kind = Catch;
      try_at = at;
      try_end = at + 7;
      handler_at = at + 7;
      handler_end = at + 10;
      class = 0x0100_0001;
    }

abbrev pub main_body : Body
main_body =
    record {
      max_stack = 8;
      locals = 0x1100_0001;
      code = main_code;
      clauses = catches_from 0 ∷ catches_from 10 ∷ [];
    }

abbrev pub main_scope : Scope
main_scope =
    record {
      world = failing_initializer;
      name = method_on 2 1;
      args = [];
      locals = object ∷ object ∷ [];
      result = int;
    }

abbrev pub main_found : Entry
main_found = record { body = main_body; scope = main_scope; bytes = 272 }

locals_are : locals_of failing_initializer (method_on 2 1) 0x1100_0001 ≡ Some (object ∷ object ∷ [])
unfolding failing_initializer looking
locals_are =
    let owner : List Ty = arguments (own_class 2) in
    ap (λ f. option_map (map (substituted owner [])) (and_all (no_void f) (and_all (no_void f) (Some []))))
    (prim_resolved failing_initializer 0 (length owner) 0 Primitive.Object)
    ∙ ap (λ t. Some (t ∷ t ∷ [])) (prim_stays owner [] Primitive.Object)

main_stands : scope_of failing_initializer (method_on 2 1) main_body ≡ Some main_scope
main_stands =
    scope_by failing_initializer (method_on 2 1) main_body
    (plain_callee (method_on 2 1) false (own_class 2) Primitive.I4) (object ∷ object ∷ []) main_called locals_are

pub called_named : method_token main_scope 0x0600_0003
    ≡ Some (plain_callee (method_on 3 3) false (own_class 3) Primitive.Void)
called_named =
    method_found main_scope 0x0600_0003 (method_on 3 3) (plain_callee (method_on 3 3) false (own_class 3)
    Primitive.Void)
    (no_arguments (own_id 2)) called_token called_called

pub object_named : type_token main_scope 0x0100_0001 ≡ Some object
unfolding failing_initializer looking resolution
object_named = refl

-- ---- its rows

abbrev an_object : StackSlot
an_object = Refs (object ∷ [])

abbrev pub calls_row : Row
calls_row = taking [] NoResult

abbrev pub keeps_row : Row
keeps_row = taking ((λ slot. may_store failing_initializer slot object) ∷ []) NoResult

abbrev pub compares_row : Row
compares_row = taking_both (comparable true) (Always Int32)

abbrev pub returns_row : Row
returns_row = taking (param_test failing_initializer int ∷ []) NoResult

pub calls_is : row_of main_scope Unprefixed (action_at calls_first) ≡ Some calls_row
unfolding failing_initializer looking row_of action_of
calls_is = ap (option_and_then (λ callee. Some (call_row failing_initializer callee))) called_named

pub leaves_is : (target : ℕ) (i : Instr) → action_at i ≡ OnExceptions (Leave target)
    → row_of main_scope Unprefixed (action_at i) ≡ Some calls_row
unfolding row_of
leaves_is target i is = ap (row_of main_scope Unprefixed) is

pub keeps_is : row_of main_scope Unprefixed (action_at keeps_first) ≡ Some keeps_row
unfolding row_of action_of
keeps_is = refl

pub keeps_again_is : row_of main_scope Unprefixed (action_at keeps_second) ≡ Some keeps_row
unfolding row_of action_of
keeps_again_is = refl

pub loads_is : row_of main_scope Unprefixed (action_at loads_first) ≡ Some (giving an_object)
unfolding failing_initializer looking row_of action_of
loads_is = refl

pub loads_again_is : row_of main_scope Unprefixed (action_at loads_second) ≡ Some (giving an_object)
unfolding failing_initializer looking row_of action_of
loads_again_is = refl

pub compares_is : row_of main_scope Unprefixed (action_at compares) ≡ Some compares_row
unfolding row_of action_of
compares_is = refl

pub returns_is : row_of main_scope Unprefixed (action_at returns) ≡ Some returns_row
unfolding looking row_of action_of
returns_is = refl

-- ---- its table of stacks

abbrev main_offsets : List ℕ
main_offsets = 0 ∷ 5 ∷ 7 ∷ 8 ∷ 10 ∷ 15 ∷ 17 ∷ 18 ∷ 20 ∷ 21 ∷ 22 ∷ 24 ∷ []

main_reached : reached_offsets main_body ≡ main_offsets
unfolding stacks_by_rounds
main_reached = refl

abbrev leaves_from : ℕ → ℕ → Step
leaves_from at target = record { at = at; ways = target ∷ []; effect = Empties }

abbrev main_steps : List Step
main_steps =
    onward 0 5 0 NoResult ∷ leaves_from 5 10 ∷ onward 7 8 1 NoResult ∷ leaves_from 8 10 ∷ onward 10 15 0 NoResult
    ∷ leaves_from 15 20 ∷ onward 17 18 1 NoResult ∷ leaves_from 18 20 ∷ onward 20 21 0 (Always an_object)
    ∷ onward 21 22 0 (Always an_object) ∷ onward 22 24 2 (Always Int32) ∷ last_step 24 1 ∷ []

abbrev HasRow : Instr → Row → Type 0
HasRow i is = row_at main_scope main_body main_offsets i ≡ Some is

of_row : (i : Instr) (is : Row) → prefix_at main_scope main_body main_offsets i.at ≡ Unprefixed
    → row_of main_scope Unprefixed (action_at i) ≡ Some is → HasRow i is
of_row i is plain has = row_by main_scope main_body main_offsets i Unprefixed (Some is) plain has

at_0 : HasRow calls_first calls_row
unfolding action_of
at_0 = of_row calls_first calls_row refl calls_is

at_5 : HasRow leaves_first calls_row
unfolding action_of
at_5 = of_row leaves_first calls_row refl (leaves_is 10 leaves_first refl)

at_7 : HasRow keeps_first keeps_row
unfolding action_of
at_7 = of_row keeps_first keeps_row refl keeps_is

at_8 : HasRow leaves_catch calls_row
unfolding action_of
at_8 = of_row leaves_catch calls_row refl (leaves_is 10 leaves_catch refl)

at_10 : HasRow calls_second calls_row
unfolding action_of
at_10 = of_row calls_second calls_row refl calls_is

at_15 : HasRow leaves_second calls_row
unfolding action_of
at_15 = of_row leaves_second calls_row refl (leaves_is 20 leaves_second refl)

at_17 : HasRow keeps_second keeps_row
unfolding action_of
at_17 = of_row keeps_second keeps_row refl keeps_again_is

at_18 : HasRow leaves_again calls_row
unfolding action_of
at_18 = of_row leaves_again calls_row refl (leaves_is 20 leaves_again refl)

at_20 : HasRow loads_first (giving an_object)
unfolding action_of
at_20 = of_row loads_first (giving an_object) refl loads_is

at_21 : HasRow loads_second (giving an_object)
unfolding action_of
at_21 = of_row loads_second (giving an_object) refl loads_again_is

at_22 : HasRow compares compares_row
unfolding action_of
at_22 = of_row compares compares_row refl compares_is

at_24 : HasRow returns returns_row
unfolding action_of
at_24 = of_row returns returns_row refl returns_is

of_step : (i : Instr) (is : Row) → HasRow i is
    → step_of main_scope main_body main_offsets i ≡ step_with i (effect_of (action_at i) (Some is))
of_step i is has = step_by main_scope main_body main_offsets i (Some is) has

main_steps_are : steps_of main_scope main_body ≡ main_steps
unfolding action_of
main_steps_are =
    steps_by main_scope main_body main_offsets main_steps main_reached
    (λ j. of_step calls_first calls_row at_0 j ∷ of_step leaves_first calls_row at_5 j
    ∷ of_step keeps_first keeps_row at_7 j ∷ of_step leaves_catch calls_row at_8 j ∷ of_step calls_second calls_row
    at_10 j
    ∷ of_step leaves_second calls_row at_15 j ∷ of_step keeps_second keeps_row at_17 j
    ∷ of_step leaves_again calls_row at_18 j ∷ of_step loads_first (giving an_object) at_20 j
    ∷ of_step loads_second (giving an_object) at_21 j ∷ of_step compares compares_row at_22 j
    ∷ of_step returns returns_row at_24 j ∷ [])

abbrev handler_from : ℕ → Handler
handler_from at = record { try_at = at; try_end = at + 7; at = at + 7; caught = Some an_object }

abbrev main_handlers : List Handler
main_handlers = handler_from 0 ∷ handler_from 10 ∷ []

main_handlers_are : handlers_of_body main_scope main_body ≡ main_handlers
main_handlers_are =
    let of_class : Option Ty → ℕ → Handler =
    λ t at. record { try_at = at; try_end = at + 7; at = at + 7; caught = Some (caught_slot t) } in
    ap (λ t. of_class t 0 ∷ of_class t 10 ∷ []) object_named

abbrev main_table : List (Option Stack)
main_table =
    known [] ∷ None ∷ None ∷ None ∷ None ∷ known [] ∷ None ∷ known (an_object ∷ []) ∷ known [] ∷ None ∷ known []
    ∷ None ∷ None ∷ None ∷ None ∷ known [] ∷ None ∷ known (an_object ∷ []) ∷ known [] ∷ None ∷ known []
    ∷ known (an_object ∷ []) ∷ known (an_object ∷ an_object ∷ []) ∷ None ∷ known (Int32 ∷ []) ∷ []

abbrev main_objects : Ty → Bool
main_objects = is_reference failing_initializer

-- what is known when control has come to some of these offsets
abbrev known_at : List ℕ → List ℕ → List (Option Stack)
known_at empty caught =
    fold (λ table at. slice_set table at (known (an_object ∷ [])))
    (fold (λ table at. slice_set table at (known [])) (first_table 25) empty) caught

main_first : one_round main_objects main_steps main_handlers (first_table 25) ≡ main_table
main_first =
    let later : List Step =
    onward 17 18 1 NoResult ∷ leaves_from 18 20 ∷ onward 20 21 0 (Always an_object) ∷ onward 21 22 0 (Always an_object)
    ∷ onward 22 24 2 (Always Int32) ∷ last_step 24 1 ∷ [] in
    passes_on main_objects (leaves_from 5 10)
    (onward 7 8 1 NoResult ∷ leaves_from 8 10 ∷ onward 10 15 0 NoResult ∷ leaves_from 15 20 ∷ later) main_handlers
    (known_at (5 ∷ []) (7 ∷ [])) (known_at (5 ∷ 10 ∷ []) (7 ∷ [])) main_table
    (ap (λ slot. slice_set (known_at (5 ∷ 10 ∷ []) (7 ∷ [])) 7 (known (slot ∷ []))) (refs_meet object))
    (passes_on main_objects (leaves_from 15 20) later main_handlers (known_at (5 ∷ 10 ∷ 8 ∷ 15 ∷ []) (7 ∷ 17 ∷ []))
    (known_at (5 ∷ 10 ∷ 8 ∷ 15 ∷ 20 ∷ []) (7 ∷ 17 ∷ [])) main_table
    (ap (λ slot. slice_set (known_at (5 ∷ 10 ∷ 8 ∷ 15 ∷ 20 ∷ []) (7 ∷ 17 ∷ [])) 17 (known (slot ∷ []))) (refs_meet
    object))
    refl)

abbrev Stays : Step → Type 0
Stays step = one_further main_objects main_handlers main_table step ≡ main_table

caught_at : (at : ℕ) → slice_set main_table at (known (an_object ∷ [])) ≡ main_table
    → slice_set main_table at (known (joined_slot an_object an_object ∷ [])) ≡ main_table
caught_at at is = ap (λ slot. slice_set main_table at (known (slot ∷ []))) (refs_meet object) ∙ is

stays_21 : Stays (onward 21 22 0 (Always an_object))
stays_21 =
    ap (λ slot. slice_set main_table 22 (known (slot ∷ slot ∷ []))) (refs_meet object)

main_again : one_round main_objects main_steps main_handlers main_table ≡ main_table
main_again =
    all_stay main_objects main_steps main_handlers main_table (
      caught_at 7 refl,
      (
        caught_at 7 refl,
        (
          refl,
          (
            refl,
            (
              caught_at 17 refl,
              (
                caught_at 17 refl,
                (
                  refl,
                  (
                    refl,
                    (caught_at 21 refl, (stays_21, (refl, (refl, tt)))),
                  ),
                ),
              ),
            ),
          ),
        ),
      ),
    )

main_least : least_stacks main_scope main_body ≡ main_table
main_least =
    least_by main_scope main_body main_steps main_handlers main_table main_steps_are main_handlers_are
    (by_a_round main_objects main_steps main_handlers 25 main_table main_first main_again)

-- ---- what verifying tells

abbrev main_typing : Typing
main_typing =
    record {
      stacks =
          before 0 [] ∷ before 5 [] ∷ before 7 (an_object ∷ []) ∷ before 8 [] ∷ before 10 [] ∷ before 15 []
          ∷ before 17 (an_object ∷ []) ∷ before 18 [] ∷ before 20 [] ∷ before 21 (an_object ∷ [])
          ∷ before 22 (an_object ∷ an_object ∷ []) ∷ before 24 (Int32 ∷ []) ∷ [];
      values = [];
    }

keeps_suits : suits_row (an_object ∷ []) keeps_row ≡ true
unfolding failing_initializer looking
keeps_suits = ap (λ f. ((is_yes f && true) && true) && true) object_itself

main_none : first_failing main_scope main_body (reached_offsets main_body) main_table ≡ None
unfolding looking action_of
main_none =
    let passing : (i : Instr) (slots : List StackSlot) (is : Row) → HasRow i is → is.names ≡ true
    → suits_row slots is ≡ true → list_all (keeps_by true true is.takes main_body i (Slots slots)) rules ≡ true
    → fails main_scope main_body main_offsets i (Slots slots) ≡ false = passes main_scope main_body main_offsets in
    none_fails main_scope main_body main_offsets main_table main_reached (
      passing calls_first [] calls_row at_0 refl refl refl,
      (
        passing leaves_first [] calls_row at_5 refl refl refl,
        (
          passing keeps_first (an_object ∷ []) keeps_row at_7 refl keeps_suits refl,
          (
            passing leaves_catch [] calls_row at_8 refl refl refl,
            (
              passing calls_second [] calls_row at_10 refl refl refl,
              (
                passing leaves_second [] calls_row at_15 refl refl refl,
                (
                  passing keeps_second (an_object ∷ []) keeps_row at_17 refl keeps_suits refl,
                  (
                    passing leaves_again [] calls_row at_18 refl refl refl,
                    (
                      passing loads_first [] (giving an_object) at_20 refl refl refl,
                      (
                        passing loads_second (an_object ∷ []) (giving an_object) at_21 refl refl refl,
                        (
                          passing compares (an_object ∷ an_object ∷ []) compares_row at_22 refl refl refl,
                          (passing returns (Int32 ∷ []) returns_row at_24 refl refl refl, tt),
                        ),
                      ),
                    ),
                  ),
                ),
              ),
            ),
          ),
        ),
      ),
    )

main_verified : verification failing_initializer (method_on 2 1) main_body ≡ Ok main_typing
main_verified =
    verified_by failing_initializer (method_on 2 1) main_body main_scope main_table main_steps main_typing main_stands
    main_least main_steps_are refl main_none

-- ---- what may be entered

calls_first_inside : is_inside_instruction main_scope main_body calls_first ≡ true
unfolding action_of
calls_first_inside =
    inside_token main_scope main_body calls_first 0x0600_0003 (OfMethod (method_on 3 3)) refl refl
    (no_arguments (own_id 2)) called_token refl

calls_second_inside : is_inside_instruction main_scope main_body calls_second ≡ true
unfolding action_of
calls_second_inside =
    inside_token main_scope main_body calls_second 0x0600_0003 (OfMethod (method_on 3 3)) refl refl
    (no_arguments (own_id 2)) called_token refl

main_inside : is_inside failing_initializer (method_on 2 1) main_body ≡ true
unfolding failing_initializer looking resolution action_of
main_inside =
    inside_by failing_initializer (method_on 2 1) main_body main_scope main_offsets main_stands main_reached refl (
      calls_first_inside,
      (
        refl,
        (
          refl,
          (
            refl,
            (
              calls_second_inside,
              (
                refl,
                (
                  refl,
                  (
                    refl,
                    (
                      refl,
                      (
                        refl,
                        (
                          refl,
                          (
                            refl,
                            tt,
                          ),
                        ),
                      ),
                    ),
                  ),
                ),
              ),
            ),
          ),
        ),
      ),
    ) (refl, (refl, tt))

frame_takes : entry_bytes failing_initializer main_scope main_body main_typing ≡ 272
frame_takes =
    ap (λ e. frame_bytes 0 (sum_by (λ n. next_multiple_of n 8) (size_if e ∷ size_if e ∷ [])) 8 8)
    (extent_prim failing_initializer Primitive.Object)

pub main_entry : entry failing_initializer (method_on 2 1) ≡ Some main_found
unfolding failing_initializer looking
main_entry =
    entered_by failing_initializer (method_on 2 1) main_body main_scope main_typing 272 refl main_stands main_inside
    main_verified refl frame_takes refl

-- The steps of a program whose initializer fails and is asked for twice.
use Rattle.std.proofs.Common.{◌≡◌, ◌∙◌, ℕ, suc, true, false, List, [], ◌∷◌, Option, Some, None, ap, refl, pos}
use Rattle.std.specs.Prelude.{◌+◌, ◌==◌, ◌&&◌, filter, find, if◌then◌else◌, length, nat_le, not, slice_get, slice_set}
use Rattle.std.specs.Option.{option_and_then, option_map, option_map_or}
use Rattle.num_core.specs.Run.{Ended, Running as Goes}
use Rattle.il_code.specs.declared.body.ClauseKind.TheVariants.{Catch}
use Rattle.ty_terms.specs.declared.ty.Primitive.{Primitive}
use Rattle.ty_terms.specs.declared.ty.Ty.{Ty}
use Rattle.ty_terms.specs.declared.ty.Ty.TheVariants.{rolls-Prim, rolls-Named}
use Rattle.ty_terms.specs.Induction.{fold-Named, fold-Prim}
use Rattle.ty_load.specs.Members.{same_type}
use Rattle.il_stacks.specs.Rounds.{stacks_by_rounds}
use Rattle.il_verify.specs.Actions.{action_of}
use Rattle.il_verify.specs.CallRows.{Unprefixed}
use Rattle.il_verify.specs.Flow.{action_at}
use Rattle.il_verify.specs.Kinds.{is_yes}
use Rattle.il_verify.specs.Rows.{row_of}
use Rattle.il_verify.specs.Scope.{Callee, type_token}
use Rattle.cil_world.specs.CallSteps.{calls, enters_entry, enters_unless, makes_unless}
use Rattle.cil_world.specs.Did.{Moves, Triggers, on_some, pushed_if}
use Rattle.cil_world.specs.Entering.{Entry, bytes_of_frames, bytes_of_running, has_room, has_stack}
use Rattle.cil_world.specs.Entering.{is_before_field, is_done, is_triggering, stub_bytes}
use Rattle.cil_world.specs.Entering.{triggers, with_object}
use Rattle.cil_world.specs.ObjectPrograms.{failing_initializer, wide_bounds}
use Rattle.cil_world.specs.Programs.{told}
use Rattle.cil_world.specs.RuntimeSteps.{runtime_call}
use Rattle.cil_world.specs.State.{CilState, Frame, Setting, Made, Fields, Code, Initializes, NewObject, Making, Caught}
use Rattle.cil_world.specs.State.{Begun, Failed, Initializing, Phase, Going, Searching, Unwinding, initializing}
use Rattle.cil_world.specs.Step.{CilRun, calls_initializer, cil_run, cil_start, cil_step, does, inner_field}
use Rattle.cil_world.specs.Step.{pushes_stub}
use Rattle.cil_world.specs.Step.{raised_if, searched_or, settles, tests_initializer, throws, with_inner, zeros}
use Rattle.cil_world.specs.Unwinding.{before_clause, catches, catches_kind, caught_in, clauses_with, ends_exceptionally}
use Rattle.cil_world.specs.Unwinding.{found_or_next, numbers_of, searches_at}
use Rattle.cil_world.specs.Values.{Value, Null, Made as MadeAs}
use Rattle.cil_world.proofs.Computing.{goes_on, order_itself, same_type_itself, then_step}
use Rattle.cil_world.proofs.Looking.{looking, method_on, own_class, plain_callee}
use Rattle.cil_world.proofs.Moving.{makes_by, runs_by, stack_has, uses_by}
use Rattle.cil_world.proofs.Programs.{body}
use Rattle.cil_world.proofs.FailingTypes.{e_bytes, e_zeros, initializer_is, is_object_too, is_thrown, lays_out}
use Rattle.cil_world.proofs.FailingTypes.{t_bytes, t_zeros, wrapper}
use Rattle.cil_world.proofs.FailingInitializer.{called_named, calls_first, calls_is, calls_row, calls_second}
use Rattle.cil_world.proofs.FailingInitializer.{constructor_entry, constructor_found, constructor_named}
use Rattle.cil_world.proofs.FailingInitializer.{initializer_entry, initializer_found, initializer_scope, main_entry}
use Rattle.cil_world.proofs.FailingInitializer.{main_found, main_scope, makes_is, makes_it, makes_row, object_named}

-- types are compared by folds that don't compute
ruleset folds = (fold-Prim, fold-Named, rolls-Prim, rolls-Named, order_itself)

-- ---- types and methods

-- the type whose initializer fails, and that of what it throws
abbrev a : Ty
a = own_class 3

abbrev e : Ty
e = own_class 4

abbrev called : Callee
called = plain_callee (method_on 3 3) false a Primitive.Void

abbrev constructor : Callee
constructor = plain_callee (method_on 4 4) true e Primitive.Void

-- ---- frames and objects

abbrev setting : Setting
setting = record { bounds = wide_bounds; nodes = None }

abbrev null : Value
null = Value.Object Null

-- what the initializer threw, and what is thrown for it
abbrev thrown : Value
thrown = Value.Object (MadeAs 0)

abbrev kept : Value
kept = Value.Object (MadeAs 1)

abbrev main_at : ℕ → List Value → List Value → List Caught → Frame
main_at offset locals stack caught =
    record {
      runs = Code (method_on 2 1);
      args = [];
      locals = locals;
      stack = stack;
      offset = offset;
      making = None;
      caught = caught;
      pending = [];
    }

abbrev stub_at : ℕ → List Value → Frame
stub_at offset stack =
    record {
      runs = Initializes a true;
      args = [];
      locals = [];
      stack = stack;
      offset = offset;
      making = None;
      caught = [];
      pending = [];
    }

abbrev initializer_at : ℕ → List Value → Option Making → Frame
initializer_at offset stack making =
    record {
      runs = Code (method_on 3 2);
      args = [];
      locals = [];
      stack = stack;
      offset = offset;
      making = making;
      caught = [];
      pending = [];
    }

abbrev constructs : Frame
constructs =
    record {
      runs = Code (method_on 4 4);
      args = thrown ∷ [];
      locals = [];
      stack = [];
      offset = 0;
      making = None;
      caught = [];
      pending = [];
    }

abbrev empty : List Value
empty = null ∷ null ∷ []

abbrev one : List Made
one = record { ty = e; holds = Fields (null ∷ null ∷ []); before = 0 } ∷ []

abbrev two : List Made
two =
    record { ty = e; holds = Fields (null ∷ null ∷ []); before = 0 }
    ∷ record { ty = wrapper; holds = Fields (null ∷ thrown ∷ []); before = 24 } ∷ []

abbrev Initializers : Type 0
Initializers = List (Ty × Initializing)

abbrev has_begun : Initializers
has_begun = (a, Begun) ∷ []

abbrev has_failed : Initializers
has_failed = (a, Failed (MadeAs 1)) ∷ (a, Begun) ∷ []

abbrev stands : List Frame → List Made → Initializers → ℕ → Phase → CilState
stands frames objects initializers heap phase =
    record {
      frames = frames;
      objects = objects;
      statics = [];
      initializers = initializers;
      heap = heap;
      phase = phase;
    }

abbrev caught_at : ℕ → List Caught
caught_at clause = record { clause = clause; object = MadeAs 1 } ∷ []

-- ---- states

abbrev state_0 : CilState
state_0 =
    stands (main_at 0 empty [] [] ∷ []) [] [] 0 Going

abbrev state_1 : CilState
state_1 =
    stands (stub_at 0 [] ∷ main_at 0 empty [] [] ∷ []) [] [] 0 Going

abbrev state_2 : CilState
state_2 =
    stands (stub_at 1 [] ∷ main_at 0 empty [] [] ∷ []) [] has_begun 0 Going

abbrev state_3 : CilState
state_3 =
    stands (initializer_at 0 [] None ∷ stub_at 2 [] ∷ main_at 0 empty [] [] ∷ []) [] has_begun 0 Going

abbrev state_4 : CilState
state_4 =
    stands (constructs ∷ initializer_at 0 [] (Some (NewObject (MadeAs 0))) ∷ stub_at 2 [] ∷ main_at 0 empty [] [] ∷
    []) one has_begun 24
    Going

abbrev state_5 : CilState
state_5 =
    stands (initializer_at 5 (thrown ∷ []) None ∷ stub_at 2 [] ∷ main_at 0 empty [] [] ∷ []) one has_begun 24 Going

abbrev state_6 : CilState
state_6 =
    stands (initializer_at 5 [] None ∷ stub_at 2 [] ∷ main_at 0 empty [] [] ∷ []) one has_begun 24
    (Searching (MadeAs 0) 1 0)

abbrev state_7 : CilState
state_7 =
    stands (initializer_at 5 [] None ∷ stub_at 2 [] ∷ main_at 0 empty [] [] ∷ []) one has_begun 24
    (Unwinding (MadeAs 0) 1 0 [])

abbrev state_8 : CilState
state_8 =
    stands (stub_at 2 [] ∷ main_at 0 empty [] [] ∷ []) one has_begun 24 (Unwinding (MadeAs 0) 1 0 [])

abbrev state_9 : CilState
state_9 =
    stands (stub_at 4 (thrown ∷ []) ∷ main_at 0 empty [] [] ∷ []) one has_begun 24 Going

abbrev state_10 : CilState
state_10 =
    stands (stub_at 4 (thrown ∷ []) ∷ main_at 0 empty [] [] ∷ []) two has_failed 48 (Searching (MadeAs 1) 0 0)

abbrev state_11 : CilState
state_11 =
    stands (stub_at 4 (thrown ∷ []) ∷ main_at 0 empty [] [] ∷ []) two has_failed 48 (Unwinding (MadeAs 1) 0 0 [])

abbrev state_12 : CilState
state_12 =
    stands (main_at 0 empty [] [] ∷ []) two has_failed 48 (Unwinding (MadeAs 1) 0 0 [])

abbrev state_13 : CilState
state_13 =
    stands (main_at 7 empty (kept ∷ []) (caught_at 0) ∷ []) two has_failed 48 Going

abbrev state_14 : CilState
state_14 =
    stands (main_at 8 (kept ∷ null ∷ []) [] (caught_at 0) ∷ []) two has_failed 48 Going

abbrev state_15 : CilState
state_15 =
    stands (main_at 10 (kept ∷ null ∷ []) [] [] ∷ []) two has_failed 48 Going

abbrev state_16 : CilState
state_16 =
    stands (stub_at 0 [] ∷ main_at 10 (kept ∷ null ∷ []) [] [] ∷ []) two has_failed 48 Going

abbrev state_17 : CilState
state_17 =
    stands (stub_at 0 [] ∷ main_at 10 (kept ∷ null ∷ []) [] [] ∷ []) two has_failed 48 (Searching (MadeAs 1) 0 0)

abbrev state_18 : CilState
state_18 =
    stands (stub_at 0 [] ∷ main_at 10 (kept ∷ null ∷ []) [] [] ∷ []) two has_failed 48 (Unwinding (MadeAs 1) 0 1 [])

abbrev state_19 : CilState
state_19 =
    stands (main_at 10 (kept ∷ null ∷ []) [] [] ∷ []) two has_failed 48 (Unwinding (MadeAs 1) 0 1 [])

abbrev state_20 : CilState
state_20 =
    stands (main_at 17 (kept ∷ null ∷ []) (kept ∷ []) (caught_at 1) ∷ []) two has_failed 48 Going

abbrev state_21 : CilState
state_21 =
    stands (main_at 18 (kept ∷ kept ∷ []) [] (caught_at 1) ∷ []) two has_failed 48 Going

abbrev state_22 : CilState
state_22 =
    stands (main_at 20 (kept ∷ kept ∷ []) [] [] ∷ []) two has_failed 48 Going

abbrev state_23 : CilState
state_23 =
    stands (main_at 21 (kept ∷ kept ∷ []) (kept ∷ []) [] ∷ []) two has_failed 48 Going

abbrev state_24 : CilState
state_24 =
    stands (main_at 22 (kept ∷ kept ∷ []) (kept ∷ kept ∷ []) [] ∷ []) two has_failed 48 Going

abbrev state_25 : CilState
state_25 =
    stands (main_at 24 (kept ∷ kept ∷ []) (Value.Int32 (pos 1) ∷ []) [] ∷ []) two has_failed 48 Going

abbrev leads_to : CilState → CilRun → Type 0
leads_to state next = cil_step failing_initializer setting state (told []) ≡ next

abbrev at_state : CilState → CilRun
at_state state = Goes state (told [])

-- ---- steps

-- the initializer of A has failed
failed_is : option_map (λ found. found.1) (find (λ found. same_type found.0 a) has_failed) ≡ Some (Failed (MadeAs 1))
failed_is =
    ap (λ t. option_map (λ found. found.1) (if t then Some (a, Failed (MadeAs 1))
    else find (λ found. same_type found.0 a) has_begun)) (same_type_itself a)

step_2 : leads_to state_1 (at_state state_2)
unfolding cil_step
step_2 = refl

step_8 : leads_to state_7 (at_state state_8)
unfolding cil_step
step_8 = refl

step_9 : leads_to state_8 (at_state state_9)
unfolding cil_step
step_9 = refl

-- ---- a call of A's method triggers its initializer

triggers_it : (state : CilState) (found : Option Initializing) → initializing state a ≡ found → is_done found ≡ false
    → triggers failing_initializer state called ≡ true
unfolding failing_initializer looking
triggers_it state found is other =
    ap (λ name. option_map_or (λ n. true) name false && not (is_done (initializing state a))
    && not (is_before_field failing_initializer a) && is_triggering failing_initializer called) initializer_is
    ∙ ap (λ begun. true && not (is_done begun) && true && true) is
    ∙ ap (λ done. true && not done && true && true) other

call_does : (state : CilState) (frame : Frame) (next : ℕ) → triggers failing_initializer state called ≡ true
    → does setting main_scope state 0 frame false Unprefixed next (action_at calls_first) [] ≡ Triggers a
unfolding action_of
call_does state frame next is =
    ap (λ m. on_some m (λ callee. calls failing_initializer setting state false callee [])) called_named
    ∙ ap (λ t. enters_unless (not false && t) failing_initializer setting state called []) is

main_takes : (offset : ℕ) (locals : List Value)
    → bytes_of_frames failing_initializer (main_at offset locals [] [] ∷ []) ≡ 272
main_takes offset locals =
    uses_by failing_initializer (main_at offset locals [] []) [] 272 0
    (runs_by failing_initializer (method_on 2 1) main_found main_entry) refl

stub_fits : (offset : ℕ) (locals : List Value)
    → has_stack failing_initializer setting (main_at offset locals [] [] ∷ []) stub_bytes ≡ true
unfolding wide_bounds
stub_fits offset locals = ap (λ n. nat_le (n + stub_bytes) 2048) (main_takes offset locals)

step_1 : leads_to state_0 (at_state state_1)
unfolding cil_step action_of stacks_by_rounds
step_1 =
    then_step failing_initializer setting (told []) state_0 (main_at 0 empty [] []) (method_on 2 1) main_found
    calls_first
    Unprefixed calls_row (Triggers a) (at_state state_1) main_entry refl refl calls_is
    (call_does state_0 (main_at 0 empty [] []) 5 (triggers_it state_0 None refl refl))
    (ap (λ t. pushes_stub t a true state_0 (told [])) (stub_fits 0 empty))

step_16 : leads_to state_15 (at_state state_16)
unfolding cil_step action_of stacks_by_rounds
step_16 =
    then_step failing_initializer setting (told []) state_15 (main_at 10 (kept ∷ null ∷ []) [] []) (method_on 2 1)
    main_found calls_second Unprefixed calls_row (Triggers a) (at_state state_16) main_entry refl refl
    calls_is
    (call_does state_15 (main_at 10 (kept ∷ null ∷ []) [] []) 15
    (triggers_it state_15 (Some (Failed (MadeAs 1))) failed_is refl))
    (ap (λ t. pushes_stub t a true state_15 (told [])) (stub_fits 10 (kept ∷ null ∷ [])))

-- ---- the initializer is entered, and makes an object

abbrev waits : CilState
waits = stands (stub_at 2 [] ∷ main_at 0 empty [] [] ∷ []) [] has_begun 0 Going

stub_takes : bytes_of_frames failing_initializer (stub_at 2 [] ∷ main_at 0 empty [] [] ∷ []) ≡ 528
stub_takes =
    uses_by failing_initializer (stub_at 2 []) (main_at 0 empty [] [] ∷ []) 256 272 refl (main_takes 0 empty)

initializer_fits : has_stack failing_initializer setting (stub_at 2 [] ∷ main_at 0 empty [] [] ∷ [])
    (bytes_of_running failing_initializer (Code (method_on 3 2))) ≡ true
unfolding wide_bounds
initializer_fits =
    stack_has failing_initializer setting (stub_at 2 [] ∷ main_at 0 empty [] [] ∷ []) (method_on 3 2) 528 256
    stub_takes
    (runs_by failing_initializer (method_on 3 2) initializer_found initializer_entry) refl

step_3 : leads_to state_2 (at_state state_3)
unfolding cil_step
step_3 =
    ap (calls_initializer failing_initializer setting state_2 (told [])) initializer_is
    ∙ ap (λ found. settles failing_initializer setting state_2 0 (told [])
    (enters_entry failing_initializer setting waits (method_on 3 2) [] found)) initializer_entry
    ∙ ap (λ t. settles failing_initializer setting state_2 0 (told [])
    (pushed_if t (initializer_at 0 [] None) waits)) initializer_fits

abbrev makes_frames : List Frame
makes_frames =
    initializer_at 0 [] (Some (NewObject (MadeAs 0))) ∷ stub_at 2 [] ∷ main_at 0 empty [] [] ∷ []

makes_takes : bytes_of_frames failing_initializer makes_frames ≡ 784
makes_takes =
    uses_by failing_initializer (initializer_at 0 [] (Some (NewObject (MadeAs 0))))
    (stub_at 2 [] ∷ main_at 0 empty [] [] ∷ []) 256 528
    (runs_by failing_initializer (method_on 3 2) initializer_found initializer_entry) stub_takes

constructor_fits : has_stack failing_initializer setting makes_frames
    (bytes_of_running failing_initializer (Code (method_on 4 4))) ≡ true
unfolding wide_bounds
constructor_fits =
    stack_has failing_initializer setting makes_frames (method_on 4 4) 784 272 makes_takes
    (runs_by failing_initializer (method_on 4 4) constructor_found constructor_entry) refl

makes_does : does setting initializer_scope state_3 2 (initializer_at 0 [] None) false Unprefixed 5 (action_at
    makes_it)
    [] ≡ Moves state_4
unfolding failing_initializer looking action_of wide_bounds runtime_call
makes_does =
    ap (λ m. on_some m (λ callee. makes_unless (not false && triggers failing_initializer state_3 callee)
    failing_initializer setting state_3 callee [])) constructor_named
    ∙ makes_by failing_initializer setting state_3 constructor [] constructor_found 24 (null ∷ null ∷ []) lays_out
    refl
    constructor_entry refl e_bytes refl e_zeros constructor_fits

step_4 : leads_to state_3 (at_state state_4)
unfolding cil_step action_of stacks_by_rounds
step_4 =
    then_step failing_initializer setting (told []) state_3 (initializer_at 0 [] None) (method_on 3 2)
    initializer_found
    makes_it Unprefixed makes_row (Moves state_4) (at_state state_4) initializer_entry refl
    refl makes_is makes_does refl

step_5 : leads_to state_4 (at_state state_5)
unfolding failing_initializer looking cil_step row_of action_of runtime_call stacks_by_rounds wide_bounds
step_5 = simp (initializer_entry, constructor_entry, folds)

step_6 : leads_to state_5 (at_state state_6)
unfolding failing_initializer looking cil_step row_of action_of runtime_call stacks_by_rounds wide_bounds
step_6 = simp (initializer_entry, folds)

-- ---- the stub catches what was thrown, and throws another for it

step_7 : leads_to state_6 (at_state state_7)
unfolding failing_initializer looking cil_step
step_7 =
    ap (λ f. searched_or (told []) (found_or_next failing_initializer state_6 (MadeAs 0) 1 0
    (caught_in (Initializes a true) None (is_yes f)))) is_thrown
    ∙ ap (λ found. Goes (stands (initializer_at 5 [] None ∷ stub_at 2 [] ∷ main_at 0 empty [] [] ∷ []) one has_begun
    24
    (Unwinding (MadeAs 0) 1 0 (numbers_of (filter ends_exceptionally (option_map_or (clauses_with 5) found [])))))
    (told [])) initializer_entry

abbrev fails_at : CilState
fails_at = stands (stub_at 4 (thrown ∷ []) ∷ main_at 0 empty [] [] ∷ []) one has_failed 24 Going

abbrev made_at : Phase → CilState
made_at = stands (stub_at 4 (thrown ∷ []) ∷ main_at 0 empty [] [] ∷ []) two has_failed 48

inner_is : with_inner failing_initializer fails_at (MadeAs 0) wrapper ≡ null ∷ thrown ∷ []
unfolding failing_initializer looking
inner_is =
    ap (λ f. if is_yes f then slice_set (zeros failing_initializer wrapper) inner_field thrown
    else zeros failing_initializer wrapper) is_thrown
    ∙ ap (λ fields. slice_set fields inner_field thrown) t_zeros

-- the first test of Main at an offset
abbrev main_tests : ℕ → Option Entry → Option (ℕ × ℕ)
main_tests offset found = if length (option_map_or (clauses_with offset) found []) == 0 then None else Some (0, 0)

step_10 : leads_to state_9 (at_state state_10)
unfolding failing_initializer looking cil_step wide_bounds
step_10 =
    ap (λ bytes. raised_if (has_room setting fails_at bytes) failing_initializer fails_at (told []) wrapper
    (with_inner failing_initializer fails_at (MadeAs 0) wrapper)) t_bytes
    ∙ ap (λ bytes. throws failing_initializer (with_object wrapper
    (Fields (with_inner failing_initializer fails_at (MadeAs 0) wrapper)) bytes fails_at) (told []) (MadeAs 1))
    t_bytes
    ∙ ap (λ fields. throws failing_initializer (with_object wrapper (Fields fields) 24 fails_at) (told []) (MadeAs 1))
    inner_is
    ∙ ap (λ found. searched_or (told []) (searches_at (MadeAs 1) (made_at Going) (main_tests 0 found))) main_entry

-- ---- a catch of Main

-- the test of a clause of Main passes, where it is the only one at an offset
abbrev test_of : CilState → ℕ → Option Entry → Option ℕ
test_of state offset found =
    option_and_then (λ entered. option_and_then (λ clause.
    if catches failing_initializer state (MadeAs 1) entered clause then Some clause.0 else None)
    (slice_get (clauses_with offset entered) 0)) found

abbrev passed_by : CilState → ℕ → Option Ty → Option ℕ
passed_by state clause ty =
    if catches_kind failing_initializer state (MadeAs 1) ty Catch then Some clause else None

test_passes : (frames : List Frame) (phase : Phase)
    → passed_by (stands frames two has_failed 48 phase) 0 (type_token main_scope 0x0100_0001) ≡ Some 0
test_passes frames phase =
    ap (passed_by (stands frames two has_failed 48 phase) 0) object_named
    ∙ ap (λ f. if is_yes f then Some 0 else None) is_object_too

test_passes' : (frames : List Frame) (phase : Phase)
    → passed_by (stands frames two has_failed 48 phase) 1 (type_token main_scope 0x0100_0001) ≡ Some 1
test_passes' frames phase =
    ap (passed_by (stands frames two has_failed 48 phase) 1) object_named
    ∙ ap (λ f. if is_yes f then Some 1 else None) is_object_too

step_11 : leads_to state_10 (at_state state_11)
unfolding cil_step
step_11 =
    ap (λ found. searched_or (told []) (found_or_next failing_initializer state_10 (MadeAs 1) 0 0
    (test_of state_10 0 found))) main_entry
    ∙ ap (λ n. searched_or (told []) (found_or_next failing_initializer state_10 (MadeAs 1) 0 0 n))
    (test_passes (stub_at 4 (thrown ∷ []) ∷ main_at 0 empty [] [] ∷ []) (Searching (MadeAs 1) 0 0))

-- the handlers that are to run before a clause of Main
abbrev main_runs : ℕ → ℕ → Option Entry → List ℕ
main_runs offset clause found =
    numbers_of (filter ends_exceptionally (before_clause clause (option_map_or (clauses_with offset) found [])))

step_12 : leads_to state_11 (at_state state_12)
unfolding cil_step
step_12 =
    ap (λ found. Goes (stands (main_at 0 empty [] [] ∷ []) two has_failed 48
    (Unwinding (MadeAs 1) 0 0 (main_runs 0 0 found))) (told [])) main_entry

step_17 : leads_to state_16 (at_state state_17)
unfolding cil_step
step_17 =
    ap (tests_initializer failing_initializer setting a true state_16 (told []) (main_at 10 (kept ∷ null ∷ []) [] []
    ∷ []))
    failed_is
    ∙ ap (λ found. searched_or (told []) (searches_at (MadeAs 1) state_16 (main_tests 10 found))) main_entry

step_18 : leads_to state_17 (at_state state_18)
unfolding cil_step
step_18 =
    ap (λ found. searched_or (told []) (found_or_next failing_initializer state_17 (MadeAs 1) 0 0
    (test_of state_17 10 found))) main_entry
    ∙ ap (λ n. searched_or (told []) (found_or_next failing_initializer state_17 (MadeAs 1) 0 0 n))
    (test_passes' (stub_at 0 [] ∷ main_at 10 (kept ∷ null ∷ []) [] [] ∷ []) (Searching (MadeAs 1) 0 0))

step_19 : leads_to state_18 (at_state state_19)
unfolding cil_step
step_19 =
    ap (λ found. Goes (stands (main_at 10 (kept ∷ null ∷ []) [] [] ∷ []) two has_failed 48
    (Unwinding (MadeAs 1) 0 1 (main_runs 10 1 found))) (told [])) main_entry

-- ---- the steps of Main that ask nothing of the world but its body

step_13 : leads_to state_12 (at_state state_13)
unfolding failing_initializer looking cil_step row_of action_of runtime_call stacks_by_rounds wide_bounds
step_13 = simp (main_entry, folds)

step_14 : leads_to state_13 (at_state state_14)
unfolding failing_initializer looking cil_step row_of action_of runtime_call stacks_by_rounds wide_bounds
step_14 = simp (main_entry, folds)

step_15 : leads_to state_14 (at_state state_15)
unfolding failing_initializer looking cil_step row_of action_of runtime_call stacks_by_rounds wide_bounds
step_15 = simp (main_entry, folds)

step_20 : leads_to state_19 (at_state state_20)
unfolding failing_initializer looking cil_step row_of action_of runtime_call stacks_by_rounds wide_bounds
step_20 = simp (main_entry, folds)

step_21 : leads_to state_20 (at_state state_21)
unfolding failing_initializer looking cil_step row_of action_of runtime_call stacks_by_rounds wide_bounds
step_21 = simp (main_entry, folds)

step_22 : leads_to state_21 (at_state state_22)
unfolding failing_initializer looking cil_step row_of action_of runtime_call stacks_by_rounds wide_bounds
step_22 = simp (main_entry, folds)

step_23 : leads_to state_22 (at_state state_23)
unfolding failing_initializer looking cil_step row_of action_of runtime_call stacks_by_rounds wide_bounds
step_23 = simp (main_entry, folds)

step_24 : leads_to state_23 (at_state state_24)
unfolding failing_initializer looking cil_step row_of action_of runtime_call stacks_by_rounds wide_bounds
step_24 = simp (main_entry, folds)

step_25 : leads_to state_24 (at_state state_25)
unfolding failing_initializer looking cil_step row_of action_of runtime_call stacks_by_rounds wide_bounds
step_25 = simp (main_entry, folds)

step_26 : leads_to state_25 (Ended 1 (told []))
unfolding failing_initializer looking cil_step row_of action_of runtime_call stacks_by_rounds wide_bounds
step_26 = simp (main_entry, folds)

starts : cil_start failing_initializer setting [] ≡ at_state state_0
unfolding failing_initializer looking cil_start runtime_call wide_bounds
starts = simp (main_entry, folds)

-- ---- the run

abbrev runs_to : ℕ → CilRun → Type 0
runs_to n run = cil_run failing_initializer wide_bounds [] n ≡ run

then_runs : (n : ℕ) (state : CilState) (next : CilRun) → runs_to n (at_state state)
    → leads_to state next → runs_to (suc n) next
then_runs n state next before step =
    goes_on (cil_step failing_initializer setting) n (cil_start failing_initializer setting []) next state (told [])
    before step

pub failing_run : cil_run failing_initializer wide_bounds [] 26 ≡ Ended 1 (told [])
failing_run =
    let at_1 : runs_to 1 (at_state state_1) = then_runs 0 state_0 (at_state state_1) starts step_1 in
    let at_2 : runs_to 2 (at_state state_2) = then_runs 1 state_1 (at_state state_2) at_1 step_2 in
    let at_3 : runs_to 3 (at_state state_3) = then_runs 2 state_2 (at_state state_3) at_2 step_3 in
    let at_4 : runs_to 4 (at_state state_4) = then_runs 3 state_3 (at_state state_4) at_3 step_4 in
    let at_5 : runs_to 5 (at_state state_5) = then_runs 4 state_4 (at_state state_5) at_4 step_5 in
    let at_6 : runs_to 6 (at_state state_6) = then_runs 5 state_5 (at_state state_6) at_5 step_6 in
    let at_7 : runs_to 7 (at_state state_7) = then_runs 6 state_6 (at_state state_7) at_6 step_7 in
    let at_8 : runs_to 8 (at_state state_8) = then_runs 7 state_7 (at_state state_8) at_7 step_8 in
    let at_9 : runs_to 9 (at_state state_9) = then_runs 8 state_8 (at_state state_9) at_8 step_9 in
    let at_10 : runs_to 10 (at_state state_10) = then_runs 9 state_9 (at_state state_10) at_9 step_10 in
    let at_11 : runs_to 11 (at_state state_11) = then_runs 10 state_10 (at_state state_11) at_10 step_11 in
    let at_12 : runs_to 12 (at_state state_12) = then_runs 11 state_11 (at_state state_12) at_11 step_12 in
    let at_13 : runs_to 13 (at_state state_13) = then_runs 12 state_12 (at_state state_13) at_12 step_13 in
    let at_14 : runs_to 14 (at_state state_14) = then_runs 13 state_13 (at_state state_14) at_13 step_14 in
    let at_15 : runs_to 15 (at_state state_15) = then_runs 14 state_14 (at_state state_15) at_14 step_15 in
    let at_16 : runs_to 16 (at_state state_16) = then_runs 15 state_15 (at_state state_16) at_15 step_16 in
    let at_17 : runs_to 17 (at_state state_17) = then_runs 16 state_16 (at_state state_17) at_16 step_17 in
    let at_18 : runs_to 18 (at_state state_18) = then_runs 17 state_17 (at_state state_18) at_17 step_18 in
    let at_19 : runs_to 19 (at_state state_19) = then_runs 18 state_18 (at_state state_19) at_18 step_19 in
    let at_20 : runs_to 20 (at_state state_20) = then_runs 19 state_19 (at_state state_20) at_19 step_20 in
    let at_21 : runs_to 21 (at_state state_21) = then_runs 20 state_20 (at_state state_21) at_20 step_21 in
    let at_22 : runs_to 22 (at_state state_22) = then_runs 21 state_21 (at_state state_22) at_21 step_22 in
    let at_23 : runs_to 23 (at_state state_23) = then_runs 22 state_22 (at_state state_23) at_22 step_23 in
    let at_24 : runs_to 24 (at_state state_24) = then_runs 23 state_23 (at_state state_24) at_23 step_24 in
    let at_25 : runs_to 25 (at_state state_25) = then_runs 24 state_24 (at_state state_25) at_24 step_25 in
    then_runs 25 state_25 (Ended 1 (told [])) at_25 step_26

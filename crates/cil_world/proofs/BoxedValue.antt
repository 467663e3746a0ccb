-- A program that boxes a value: its steps, each with both states.
use Rattle.std.proofs.Common.{◌≡◌, ◌∙◌, ℕ, suc, ◌+◌, false, List, [], ◌∷◌, Some}
use Rattle.std.proofs.Common.{None}
use Rattle.std.proofs.Common.{ap, refl, pos}
use Rattle.std.specs.Prelude.{if◌then◌else◌}
use Rattle.num_core.specs.Run.{Ended, Running as Goes, Streams, after}
use Rattle.ty_terms.specs.declared.ty.Primitive.{Primitive}
use Rattle.ty_terms.specs.declared.ty.Ty.TheViews.{out-Ty}
use Rattle.ty_load.specs.Entry.{entry_of, is_status_layer, passes as passes_status}
use Rattle.cli_layout.specs.Extents.{bytes}
use Rattle.il_stacks.specs.declared.slot.StackSlot.TheVariants.{Int32}
use Rattle.il_stacks.specs.Rounds.{stacks_by_rounds}
use Rattle.il_verify.specs.Actions.{action_of}
use Rattle.il_verify.specs.CallRows.{Unprefixed}
use Rattle.il_verify.specs.Flow.{action_at}
use Rattle.il_verify.specs.Row.{giving}
use Rattle.il_verify.specs.Raises.{InvalidCast}
use Rattle.cil_world.specs.Contents.{box_bytes}
use Rattle.cil_world.specs.Did.{Ends, Finishes, Gives, Raises, given_if, on_some}
use Rattle.cil_world.specs.Entering.{has_room}
use Rattle.cil_world.specs.Entering.{Unchecked}
use Rattle.cil_world.specs.ObjectPrograms.{boxed_value}
use Rattle.cil_world.specs.ObjectSteps.{box_value, boxed_if, read_field, unbox_any, write_field}
use Rattle.cil_world.specs.Programs.{small_bounds, told}
use Rattle.cil_world.specs.State.{Boxed, CilState, Code, Frame, Going, Made, Setting}
use Rattle.cil_world.specs.Step.{CilRun, cil_run, cil_start, cil_step, does}
use Rattle.cil_world.specs.Values.{Value, At, LocalOf, Made as MadeAs, and, values}
use Rattle.cil_world.proofs.Computing.{goes_on}
use Rattle.cil_world.proofs.Computing.{prim_resolved, same_type_itself}
use Rattle.cil_world.proofs.Computing.{then_step}
use Rattle.cil_world.proofs.Looking.{looking, method_on, own_class}
use Rattle.cil_world.proofs.Looking.{plain_callee}
use Rattle.cil_world.proofs.Moving.{starts_by}
use Rattle.cil_world.proofs.Programs.{before}
use Rattle.cil_world.proofs.BoxedMethod.{main_called, sixteen_bytes, value, zero_is, lays_out, address_first, nine}
use Rattle.cil_world.proofs.BoxedMethod.{writes_nine, loads, boxes, address_again, one, writes_one, unboxes, reads}
use Rattle.cil_world.proofs.BoxedMethod.{returns, main_scope, x_named, s_named, a_place, a_value, writes_row}
use Rattle.cil_world.proofs.BoxedMethod.{boxes_row, unboxes_row, reads_row, returns_row, address_is, number_is}
use Rattle.cil_world.proofs.BoxedMethod.{one_is, writes_is, loads_is, boxes_is, unboxes_is, reads_is, returns_is}
use Rattle.cil_world.proofs.BoxedMethod.{at_2, at_4, at_9, at_10, main_found, main_entry}

-- ---- where the run stands

abbrev setting : Setting
setting = record { bounds = small_bounds; nodes = None }

-- Main, at an offset; the local's field holds a number
abbrev main_at : ℕ → List Value → ℕ → Frame
main_at offset stack number =
    record {
      runs = Code (method_on 2 1);
      args = [];
      locals = value number ∷ [];
      stack = stack;
      offset = offset;
      making = None;
      caught = [];
      pending = [];
    }

abbrev stands : Frame → List Made → ℕ → CilState
stands frame objects heap =
    record {
      frames = frame ∷ [];
      objects = objects;
      statics = [];
      initializers = [];
      heap = heap;
      phase = Going;
    }

-- the box, in which 9 stays
abbrev made : List Made
made = record { ty = own_class 3; holds = Boxed (value 9); before = 0 } ∷ []

abbrev number : ℕ → Value
number n = Value.Int32 (pos n)

abbrev the_place : Value
the_place = Value.Address (At (LocalOf 0 0) [] (own_class 3))

abbrev the_box : Value
the_box = Value.Object (MadeAs 0)

-- ---- the start

main_begins : entry_of boxed_value ≡ Some (method_on 2 1)
unfolding boxed_value looking
main_begins =
    ap (λ r. if passes_status (λ ty. is_status_layer (out-Ty ty)) r then Some (method_on 2 1) else None)
    (prim_resolved boxed_value 0 0 0 Primitive.I4)

started : cil_start boxed_value setting [] ≡ Goes (stands (main_at 0 [] 0) [] 0) (told [])
unfolding boxed_value looking small_bounds
started =
    let with_local : Value → Frame = λ local. record {
      runs = Code (method_on 2 1);
      args = [];
      locals = local ∷ [];
      stack = [];
      offset = 0;
      making = None;
      caught = [];
      pending = [];
    } in
    starts_by boxed_value setting [] (method_on 2 1) (plain_callee (method_on 2 1) false (own_class 2) Primitive.I4)
    main_found main_begins main_called main_entry refl refl
    ∙ ap (λ local. Goes (stands (with_local local) [] 0) (told [])) zero_is

-- ---- the steps

-- one that gives values and goes on
abbrev Steps : CilState → CilState → Type 0
Steps state next = cil_step boxed_value setting state (told []) ≡ Goes next (told [])

step_1 : Steps (stands (main_at 0 [] 0) [] 0) (stands (main_at 2 (the_place ∷ []) 0) [] 0)
unfolding cil_step action_of stacks_by_rounds
step_1 =
    then_step boxed_value setting (told []) (stands (main_at 0 [] 0) [] 0) (main_at 0 [] 0) (method_on 2 1) main_found
    address_first Unprefixed (giving a_place) (Gives (stands (main_at 0 [] 0) [] 0) (the_place ∷ []))
    (Goes (stands (main_at 2 (the_place ∷ []) 0) [] 0) (told [])) main_entry refl refl address_is refl refl

step_2 : Steps (stands (main_at 2 (the_place ∷ []) 0) [] 0) (stands (main_at 4 (number 9 ∷ the_place ∷ []) 0) [] 0)
unfolding cil_step action_of stacks_by_rounds
step_2 =
    then_step boxed_value setting (told []) (stands (main_at 2 (the_place ∷ []) 0) [] 0) (main_at 2 (the_place ∷ []) 0)
    (method_on 2 1) main_found nine Unprefixed (giving Int32)
    (Gives (stands (main_at 2 (the_place ∷ []) 0) [] 0) (number 9 ∷ []))
    (Goes (stands (main_at 4 (number 9 ∷ the_place ∷ []) 0) [] 0) (told [])) main_entry refl refl number_is refl refl

step_3 : Steps (stands (main_at 4 (number 9 ∷ the_place ∷ []) 0) [] 0) (stands (main_at 9 [] 9) [] 0)
unfolding boxed_value looking cil_step action_of stacks_by_rounds
step_3 =
    then_step boxed_value setting (told []) (stands (main_at 4 (number 9 ∷ the_place ∷ []) 0) [] 0)
    (main_at 4 (number 9 ∷ the_place ∷ []) 0) (method_on 2 1) main_found writes_nine Unprefixed writes_row
    (Gives (stands (main_at 4 [] 9) [] 0) []) (Goes (stands (main_at 9 [] 9) [] 0) (told [])) main_entry refl refl
    writes_is
    (ap (λ m. on_some m (λ member. write_field boxed_value (stands (main_at 4 [] 0) [] 0) member the_place (number 9)))
    x_named) refl

step_4 : Steps (stands (main_at 9 [] 9) [] 0) (stands (main_at 10 (value 9 ∷ []) 9) [] 0)
unfolding cil_step action_of stacks_by_rounds
step_4 =
    then_step boxed_value setting (told []) (stands (main_at 9 [] 9) [] 0) (main_at 9 [] 9) (method_on 2 1) main_found
    loads Unprefixed (giving a_value) (Gives (stands (main_at 9 [] 9) [] 0) (value 9 ∷ []))
    (Goes (stands (main_at 10 (value 9 ∷ []) 9) [] 0) (told [])) main_entry refl refl loads_is refl refl

boxes_does : does setting main_scope (stands (main_at 10 [] 9) [] 0) 0 (main_at 10 (value 9 ∷ []) 9) false Unprefixed 15
    (action_at boxes) (value 9 ∷ []) ≡ Gives (stands (main_at 10 [] 9) made 16) (the_box ∷ [])
unfolding boxed_value looking action_of small_bounds
boxes_does =
    let state : CilState = stands (main_at 10 [] 9) [] 0 in
    let made_by : ℕ → CilState = λ bytes. record state { objects = made; heap = 0 + bytes } in
    ap (λ t. on_some t (box_value setting boxed_value state (value 9))) s_named
    ∙ ap (λ t. if t then boxed_if (has_room setting state (box_bytes boxed_value (own_class 3))) boxed_value state
    (own_class 3) (value 9) else Ends Unchecked) lays_out
    ∙ ap (λ n. boxed_if (has_room setting state n) boxed_value state (own_class 3) (value 9)) sixteen_bytes
    ∙ ap (λ n. Gives (made_by n) (the_box ∷ [])) sixteen_bytes

step_5 : Steps (stands (main_at 10 (value 9 ∷ []) 9) [] 0) (stands (main_at 15 (the_box ∷ []) 9) made 16)
unfolding cil_step action_of stacks_by_rounds
step_5 =
    then_step boxed_value setting (told []) (stands (main_at 10 (value 9 ∷ []) 9) [] 0) (main_at 10 (value 9 ∷ []) 9)
    (method_on 2 1) main_found boxes Unprefixed boxes_row (Gives (stands (main_at 10 [] 9) made 16) (the_box ∷ []))
    (Goes (stands (main_at 15 (the_box ∷ []) 9) made 16) (told [])) main_entry refl refl boxes_is boxes_does refl

step_6 : Steps (stands (main_at 15 (the_box ∷ []) 9) made 16) (stands (main_at 17 (the_place ∷ the_box ∷ []) 9) made 16)
unfolding cil_step action_of stacks_by_rounds
step_6 =
    then_step boxed_value setting (told []) (stands (main_at 15 (the_box ∷ []) 9) made 16) (main_at 15 (the_box ∷ []) 9)
    (method_on 2 1) main_found address_again Unprefixed (giving a_place)
    (Gives (stands (main_at 15 (the_box ∷ []) 9) made 16) (the_place ∷ []))
    (Goes (stands (main_at 17 (the_place ∷ the_box ∷ []) 9) made 16) (told [])) main_entry refl refl address_is refl
    refl

step_7 : Steps (stands (main_at 17 (the_place ∷ the_box ∷ []) 9) made 16)
    (stands (main_at 18 (number 1 ∷ the_place ∷ the_box ∷ []) 9) made 16)
unfolding cil_step action_of stacks_by_rounds
step_7 =
    then_step boxed_value setting (told []) (stands (main_at 17 (the_place ∷ the_box ∷ []) 9) made 16)
    (main_at 17 (the_place ∷ the_box ∷ []) 9) (method_on 2 1) main_found one Unprefixed (giving Int32)
    (Gives (stands (main_at 17 (the_place ∷ the_box ∷ []) 9) made 16) (number 1 ∷ []))
    (Goes (stands (main_at 18 (number 1 ∷ the_place ∷ the_box ∷ []) 9) made 16) (told [])) main_entry refl refl one_is
    refl refl

step_8 : Steps (stands (main_at 18 (number 1 ∷ the_place ∷ the_box ∷ []) 9) made 16)
    (stands (main_at 23 (the_box ∷ []) 1) made 16)
unfolding boxed_value looking cil_step action_of stacks_by_rounds
step_8 =
    then_step boxed_value setting (told []) (stands (main_at 18 (number 1 ∷ the_place ∷ the_box ∷ []) 9) made 16)
    (main_at 18 (number 1 ∷ the_place ∷ the_box ∷ []) 9) (method_on 2 1) main_found writes_one Unprefixed writes_row
    (Gives (stands (main_at 18 (the_box ∷ []) 1) made 16) [])
    (Goes (stands (main_at 23 (the_box ∷ []) 1) made 16) (told [])) main_entry refl refl writes_is
    (ap (λ m. on_some m (λ member. write_field boxed_value (stands (main_at 18 (the_box ∷ []) 9) made 16) member
    the_place
    (number 1))) x_named) refl

unboxes_does : does setting main_scope (stands (main_at 23 [] 1) made 16) 0 (main_at 23 (the_box ∷ []) 1) false
    Unprefixed 28 (action_at unboxes) (the_box ∷ []) ≡ Gives (stands (main_at 23 [] 1) made 16) (value 9 ∷ [])
unfolding boxed_value looking action_of
unboxes_does =
    let state : CilState = stands (main_at 23 [] 1) made 16 in
    ap (λ t. on_some t (unbox_any boxed_value state (MadeAs 0))) s_named
    ∙ ap (λ t. if t then given_if state (Some (value 9)) else Raises state InvalidCast)
    (same_type_itself (own_class 3))

step_9 : Steps (stands (main_at 23 (the_box ∷ []) 1) made 16) (stands (main_at 28 (value 9 ∷ []) 1) made 16)
unfolding cil_step action_of stacks_by_rounds
step_9 =
    then_step boxed_value setting (told []) (stands (main_at 23 (the_box ∷ []) 1) made 16) (main_at 23 (the_box ∷ []) 1)
    (method_on 2 1) main_found unboxes Unprefixed unboxes_row (Gives (stands (main_at 23 [] 1) made 16) (value 9 ∷ []))
    (Goes (stands (main_at 28 (value 9 ∷ []) 1) made 16) (told [])) main_entry refl refl unboxes_is unboxes_does refl

step_10 : Steps (stands (main_at 28 (value 9 ∷ []) 1) made 16) (stands (main_at 33 (number 9 ∷ []) 1) made 16)
unfolding boxed_value looking cil_step action_of stacks_by_rounds
step_10 =
    then_step boxed_value setting (told []) (stands (main_at 28 (value 9 ∷ []) 1) made 16) (main_at 28 (value 9 ∷ []) 1)
    (method_on 2 1) main_found reads Unprefixed reads_row (Gives (stands (main_at 28 [] 1) made 16) (number 9 ∷ []))
    (Goes (stands (main_at 33 (number 9 ∷ []) 1) made 16) (told [])) main_entry refl refl reads_is
    (ap (λ m. on_some m (λ member. read_field boxed_value (stands (main_at 28 [] 1) made 16) member (value 9))) x_named)
    refl

step_11 : cil_step boxed_value setting (stands (main_at 33 (number 9 ∷ []) 1) made 16) (told []) ≡ Ended 9 (told [])
unfolding looking cil_step action_of stacks_by_rounds
step_11 =
    then_step boxed_value setting (told []) (stands (main_at 33 (number 9 ∷ []) 1) made 16) (main_at 33 (number 9 ∷ [])
    1)
    (method_on 2 1) main_found returns Unprefixed returns_row (Finishes 9) (Ended 9 (told [])) main_entry refl refl
    returns_is refl refl

-- ---- the run

pub boxed_value_run : cil_run boxed_value small_bounds [] 11 ≡ Ended 9 (told [])
boxed_value_run =
    let step : CilState → Streams → CilRun = cil_step boxed_value setting in
    let begin : CilRun = cil_start boxed_value setting [] in
    let goes : (n : ℕ) (state next : CilState) → after step n begin ≡ Goes state (told [])
    → step state (told []) ≡ Goes next (told []) → after step (suc n) begin ≡ Goes next (told []) =
    λ n state next before does_so. goes_on step n begin (Goes next (told [])) state (told []) before does_so in
    let at_1 = goes 0 (stands (main_at 0 [] 0) [] 0) (stands (main_at 2 (the_place ∷ []) 0) [] 0) started step_1 in
    let at_2 =
    goes 1 (stands (main_at 2 (the_place ∷ []) 0) [] 0) (stands (main_at 4 (number 9 ∷ the_place ∷ []) 0) [] 0) at_1
    step_2 in
    let at_3 =
    goes 2 (stands (main_at 4 (number 9 ∷ the_place ∷ []) 0) [] 0) (stands (main_at 9 [] 9) [] 0) at_2 step_3 in
    let at_4 = goes 3 (stands (main_at 9 [] 9) [] 0) (stands (main_at 10 (value 9 ∷ []) 9) [] 0) at_3 step_4 in
    let at_5 =
    goes 4 (stands (main_at 10 (value 9 ∷ []) 9) [] 0) (stands (main_at 15 (the_box ∷ []) 9) made 16) at_4 step_5 in
    let at_6 =
    goes 5 (stands (main_at 15 (the_box ∷ []) 9) made 16) (stands (main_at 17 (the_place ∷ the_box ∷ []) 9) made 16)
    at_5
    step_6 in
    let at_7 =
    goes 6 (stands (main_at 17 (the_place ∷ the_box ∷ []) 9) made 16)
    (stands (main_at 18 (number 1 ∷ the_place ∷ the_box ∷ []) 9) made 16) at_6 step_7 in
    let at_8 =
    goes 7 (stands (main_at 18 (number 1 ∷ the_place ∷ the_box ∷ []) 9) made 16)
    (stands (main_at 23 (the_box ∷ []) 1) made 16) at_7 step_8 in
    let at_9 =
    goes 8 (stands (main_at 23 (the_box ∷ []) 1) made 16) (stands (main_at 28 (value 9 ∷ []) 1) made 16) at_8 step_9 in
    let at_10 =
    goes 9 (stands (main_at 28 (value 9 ∷ []) 1) made 16) (stands (main_at 33 (number 9 ∷ []) 1) made 16) at_9 step_10
    in
    goes_on step 10 begin (Ended 9 (told [])) (stands (main_at 33 (number 9 ∷ []) 1) made 16) (told []) at_10 step_11

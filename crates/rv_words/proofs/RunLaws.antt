-- All operations together, and whole runs.
use Rattle.std.proofs.Common.{◌≡◌, ◌∙◌, ℕ, ◌+◌, ◌-◌, ◌*◌, ◌/◌, ◌%◌, ◌<◌, ◌≤◌, Bool, true, false, cond, ◌==◌, All}
use Rattle.std.proofs.Common.{List, [], ◌∷◌, length, Option, Some, None, arith, refl, ap, sym, subst, slice_get}
use Rattle.std.specs.Option.{option_and_then, option_map}
use Rattle.num_core.specs.Run.{Ended, Run, Running, Stopped, Streams, after, one_more}
use Rattle.num_core.specs.Simulation.{KeepsStepBy, SimulatesBy, StepsBy}
use Rattle.rv_step.specs.Machine.{MachineState, machine_run, machine_step}
use Rattle.rv_step.specs.declared.trap.Trap.{Trap}
use Rattle.lir_core.specs.Calls.{Given, enters}
use Rattle.lir_core.specs.Program.{WordProgram, with}
use Rattle.lir_core.specs.Slots.{Here}
use Rattle.lir_core.specs.State.{ASearch, AnOperation, Frame, NoStep, UnderWay, WordCause, WordState}
use Rattle.lir_core.specs.Step.{goes_on_from, operates, performs, word_run, word_start, word_step}
use Rattle.lir_core.specs.declared.body.LirBody.{LirBody}
use Rattle.lir_core.specs.declared.op.LirOp.{LirOp}
use Rattle.lir_core.specs.declared.op.LirOp.TheVariants as op
use Rattle.rv_gen.specs.Placing.{code_of}
use Rattle.rv_words.specs.Groups.{Calling, IsAt, IsFollowed, IsFollowedInBody}
use Rattle.rv_words.specs.Placing.{Around, IsPlacing, Placing, around_at}
use Rattle.rv_words.specs.Runs.{Arrives, IsBegun, OneStep, WholeRuns}
use Rattle.rv_words.specs.Stands.{AreBytes, FetchesAt, FetchesFor, FetchesFrom, FetchesIn, Follows, FollowsInBody}
use Rattle.rv_words.specs.Stands.{FollowsStep, KeepsStepWith, Related, Stands}
use Rattle.rv_words.specs.Stands.Related.{AtEnd, AtNoStep, AtOperation, InSearch}
use Rattle.rv_words.specs.Steps.{in_begin, in_last_line, most_for, most_of_run, most_steps, most_under_way}
use Rattle.rv_words.specs.Steps.{operation_of}
use Rattle.rv_words.specs.Steps.{stays_in_body}
use Rattle.rv_words.specs.Words.{Spot, operation_at, stands_at, words}
use Rattle.rv_words.proofs.Around.{IsFound, found_at}
use Rattle.rv_words.proofs.AskLaws.{routine_followed}
use Rattle.rv_words.proofs.BranchLaws.{branch_followed, if_zero_followed, unless_zero_followed}
use Rattle.rv_words.proofs.ClearLaws.{clear_followed}
use Rattle.rv_words.proofs.ComputingLaws.{binary_followed, compare_followed, convert_followed, shift_followed}
use Rattle.rv_words.proofs.ComputingLaws.{unary_followed}
use Rattle.rv_words.proofs.ConstantLaws.{address_followed, constant_followed, dictionary_followed}
use Rattle.rv_words.proofs.ConstantLaws.{slot_address_followed}
use Rattle.rv_words.proofs.CopyLaws.{copy_followed}
use Rattle.rv_words.proofs.Holding.{standing_body}
use Rattle.rv_words.proofs.JumpLaws.{jump_followed, leave_followed}
use Rattle.rv_words.proofs.LoadLaws.{load_followed}
use Rattle.rv_words.proofs.Moments.{keeps_step_at}
use Rattle.rv_words.proofs.MoveLaws.{move_followed}
use Rattle.rv_words.proofs.RaiseLaws.{end_handler_followed, raise_followed, rethrow_followed}
use Rattle.rv_words.proofs.RefusingLaws.{checked_followed, convert_checked_followed, divide_followed}
use Rattle.rv_words.proofs.SearchLaws.{unhandled_followed}
use Rattle.rv_words.proofs.Standing.{InnerIn, inner}
use Rattle.rv_words.proofs.StoreLaws.{store_followed}

-- ---- one operation

-- What the operation does is followed, and in the body's code where it stays there.
record Performed (placing : Placing) (operation : LirOp) (here : Here) (begin : ℕ) (m : MachineState)
    (streams : Streams) : Type 0 where
  follows : Follows placing (most_steps operation) m streams (performs operation here streams)
  fetches : stays_in_body operation ≡ true
      → FetchesFrom begin (4 * length (code_of here.body)) follows.count m streams

in_body : (placing : Placing) (operation : LirOp) → IsFollowedInBody placing operation → (here : Here) (begin : ℕ)
    (m : MachineState) (streams : Streams) → IsAt placing here operation begin m → AreBytes streams
    → Performed placing operation here begin m streams
in_body placing operation law here begin m streams at input =
    let f : FollowsInBody placing begin here.body (most_steps operation) m streams (performs operation here streams) =
    law here begin m streams at input in
    record { follows = f.follows; fetches = λ stays. f.fetches }

elsewhere : (placing : Placing) (operation : LirOp) → IsFollowed placing operation → stays_in_body operation ≡ false
    → (here : Here) (begin : ℕ) (m : MachineState) (streams : Streams) → IsAt placing here operation begin m
    → AreBytes streams → Performed placing operation here begin m streams
elsewhere placing operation law leaves here begin m streams at input = record {
  follows = law here begin m streams at input;
  fetches = λ stays. absurd (let no : true ≡ false = sym stays ∙ leaves in cc);
}

performed : (placing : Placing) → IsPlacing placing → Calling placing → (operation : LirOp) (here : Here) (begin : ℕ)
    (m : MachineState) (streams : Streams) → IsAt placing here operation begin m → AreBytes streams
    → Performed placing operation here begin m streams
performed placing is calling (op.Constant to value) =
    in_body placing (op.Constant to value) (constant_followed placing is to value)
performed placing is calling (op.Address to kind item) =
    in_body placing (op.Address to kind item) (address_followed placing is to kind item)
performed placing is calling (op.SlotAddress to slot) =
    in_body placing (op.SlotAddress to slot) (slot_address_followed placing is to slot)
performed placing is calling (op.Dictionary to) = in_body placing (op.Dictionary to) (dictionary_followed placing is to)
performed placing is calling (op.Move to from) = in_body placing (op.Move to from) (move_followed placing is to from)
performed placing is calling (op.Load to from narrow) =
    in_body placing (op.Load to from narrow) (load_followed placing is to from narrow)
performed placing is calling (op.Store to from narrow) =
    in_body placing (op.Store to from narrow) (store_followed placing is to from narrow)
performed placing is calling (op.Copy to from bytes) =
    in_body placing (op.Copy to from bytes) (copy_followed placing is to from bytes)
performed placing is calling (op.Clear to bytes) = in_body placing (op.Clear to bytes) (clear_followed placing is to
    bytes)
performed placing is calling (op.Binary operation kind to left right) =
    in_body placing (op.Binary operation kind to left right) (binary_followed placing is operation kind to left right)
performed placing is calling (op.Unary operation kind to value) =
    in_body placing (op.Unary operation kind to value) (unary_followed placing is operation kind to value)
performed placing is calling (op.Checked operation kind to left right overflow) =
    in_body placing (op.Checked operation kind to left right overflow)
    (checked_followed placing is operation kind to left right overflow)
performed placing is calling (op.Divide part kind to left right if_zero overflow) =
    in_body placing (op.Divide part kind to left right if_zero overflow)
    (divide_followed placing is part kind to left right if_zero overflow)
performed placing is calling (op.Shift operation kind to value amount) =
    in_body placing (op.Shift operation kind to value amount)
    (shift_followed placing is operation kind to value amount)
performed placing is calling (op.Convert narrow from to value) =
    in_body placing (op.Convert narrow from to value) (convert_followed placing is narrow from to value)
performed placing is calling (op.ConvertChecked narrow from to value overflow) =
    in_body placing (op.ConvertChecked narrow from to value overflow)
    (convert_checked_followed placing is narrow from to value overflow)
performed placing is calling (op.Compare test kind to left right) =
    in_body placing (op.Compare test kind to left right) (compare_followed placing is test kind to left right)
performed placing is calling (op.Branch test kind left right label) =
    in_body placing (op.Branch test kind left right label) (branch_followed placing is test kind left right label)
performed placing is calling (op.BranchIfZero value label) =
    in_body placing (op.BranchIfZero value label) (if_zero_followed placing is value label)
performed placing is calling (op.BranchUnlessZero value label) =
    in_body placing (op.BranchUnlessZero value label) (unless_zero_followed placing is value label)
performed placing is calling (op.Jump label) = in_body placing (op.Jump label) (jump_followed placing is label)
performed placing is calling (op.Call callee dictionary arguments cleared result) =
    elsewhere placing (op.Call callee dictionary arguments cleared result)
    (calling.call callee dictionary arguments cleared result) refl
performed placing is calling (op.Routine number arguments result) =
    elsewhere placing (op.Routine number arguments result) (routine_followed placing is number arguments result) refl
performed placing is calling (op.Raise object) = in_body placing (op.Raise object) (raise_followed placing is object)
performed placing is calling op.Rethrow = in_body placing op.Rethrow (rethrow_followed placing is)
performed placing is calling (op.Leave label) = in_body placing (op.Leave label) (leave_followed placing is label)
performed placing is calling op.EndHandler = in_body placing op.EndHandler (end_handler_followed placing is)
performed placing is calling (op.Return result) =
    elsewhere placing (op.Return result) (calling.return result) refl

-- ---- the machine at an operation

-- the body around the address at which an operation stands
record IsAround (placing : Placing) (address : ℕ) (spot : Spot) : Type 0 where
  around : Around
  is : around_at placing address ≡ Some around
  item : around.item ≡ spot.item
  body : around.body ≡ spot.body

around_of : (placing : Placing) (address : ℕ) (spot : Spot) → stands_at placing address ≡ Some spot
    → IsAround placing address spot
around_of placing address spot told = by (around_at placing address) refl told
  where
    make : Around → ℕ → Spot
    make around p = record { item = around.item; body = around.body; place = p }

    inside : (around : Around) → around_at placing address ≡ Some around → (b : Bool) (o : Option ℕ)
        → cond b (option_map (make around) o) None ≡ Some spot → IsAround placing address spot
    inside around is false o e = cc
    inside around is true None e = cc
    inside around is true (Some p) e =
        let same : make around p ≡ spot = cc in
        record { around = around; is = is; item = ap (λ s. s.item) same; body = ap (λ s. s.body) same }

    by : (o : Option Around) → around_at placing address ≡ o
        → option_and_then (λ around. cond ((address - around.begin) % 4 == 0)
        (option_map (λ p. record { item = around.item; body = around.body; place = p })
        (operation_at around.body ((address - around.begin) / 4))) None) o ≡ Some spot → IsAround placing address spot
    by None is e = cc
    by (Some around) is e =
        inside around is ((address - around.begin) % 4 == 0)
        (operation_at around.body ((address - around.begin) / 4)) e

same_body : (a b : LirBody) → Some a ≡ Some b → a ≡ b
same_body a b e = cc

-- ---- one step

-- where there is no operation nothing is owed but a step
no_operation : (placing : Placing) (state : WordState) (m : MachineState) (streams : Streams)
    → state.under_way ≡ AnOperation → operation_of placing.program state.frames ≡ None
    → operates placing.program state state.frames streams ≡ Stopped NoStep streams
    → FollowsStep placing state m streams
no_operation placing state m streams under_way none stuck = record {
  follows = record {
    count = 1;
    some = omega arith;
    few = subst (λ w. 1 ≤ most_under_way w (operation_of placing.program state.frames)) (sym under_way)
        (subst (λ o. 1 ≤ most_for o) (sym none) (omega arith));
    related = subst (λ a. Related placing a (after machine_step 1 (Running m streams)))
        (sym (ap (λ w. goes_on_from placing.program state w streams) under_way ∙ stuck))
        (AtNoStep NoStep streams (after machine_step 1 (Running m streams)));
  };
  fetches = λ j h frame below operation e w there stays.
      absurd (let no : None ≡ Some operation = sym none ∙ there in cc);
}

under_way_is : (placing : Placing) (state : WordState) (m : MachineState) → Stands placing state m
    → state.under_way ≡ AnOperation
unfolding words
under_way_is placing state m stands = stands.tells.under_way

fetches_in : (placing : Placing) (begin item : ℕ) (body : LirBody) (count : ℕ) (m : MachineState) (streams : Streams)
    → placing.program.item_at begin ≡ Some item → placing.program.body_of item ≡ Some body
    → FetchesFrom begin (4 * length (code_of body)) count m streams → (j : ℕ) → j < count
    → FetchesIn placing item (after machine_step j (Running m streams))
fetches_in placing begin item body count m streams found told fetches j h = (begin, body, found, told, fetches j h)

at_one : (placing : Placing) → IsPlacing placing → Calling placing → (state : WordState) (m : MachineState) (streams :
    Streams)
    (frame : Frame) (below : List Frame) (body : LirBody) (operation : LirOp) → Stands placing state m
    → AreBytes streams → state.frames ≡ frame ∷ below → placing.program.body_of frame.item ≡ Some body
    → slice_get body.ops frame.place ≡ Some operation → FollowsStep placing state m streams
at_one placing is calling state m streams frame below body operation stands input frames body_is there =
    let program : WordProgram = placing.program in
    let here : Here = record { program = program; state = state; body = body; frame = frame; below = below } in
    let i : InnerIn placing m frame below = inner placing state m frame below stands frames in
    let a : IsAround placing m.pc i.here = around_of placing m.pc i.here i.is in
    let begin : ℕ = a.around.begin in
    let own : program.body_of i.here.item ≡ Some i.here.body = standing_body placing m.pc i.here i.is in
    let bodies : i.here.body ≡ body =
    same_body i.here.body body (sym own ∙ ap program.body_of (sym i.first.item) ∙ body_is) in
    let around : around_at placing m.pc ≡ Some (record { begin = begin; item = frame.item; body = body }) =
    a.is ∙ ap (λ n. Some (record { begin = begin; item = n; body = a.around.body })) (a.item ∙ sym i.first.item)
    ∙ ap (λ b. Some (record { begin = begin; item = frame.item; body = b })) (a.body ∙ bodies) in
    let at : IsAt placing here operation begin m = record {
      program = refl;
      frames = frames;
      body = body_is;
      operation_there = there;
      around = around;
      stands = stands;
    } in
    let found : IsFound program m.pc (record { begin = begin; item = frame.item; body = body }) =
    found_at placing m.pc (record { begin = begin; item = frame.item; body = body }) around in
    let p : Performed placing operation here begin m streams = performed placing is calling operation here begin m
    streams at input
    in
    let under_way : state.under_way ≡ AnOperation = under_way_is placing state m stands in
    let named : operation_of program state.frames ≡ Some operation =
    ap (operation_of program) frames ∙ ap (option_and_then (λ b. slice_get b.ops frame.place)) body_is ∙ there in
    let does : word_step program state streams ≡ performs operation here streams =
    ap (λ w. goes_on_from program state w streams) under_way
    ∙ ap (λ fs. operates program state fs streams) frames
    ∙ ap (λ o. with o streams (λ b. with (slice_get b.ops frame.place) streams (λ x.
    performs x (record { program = program; state = state; body = b; frame = frame; below = below }) streams))) body_is
    ∙ ap (λ o. with o streams (λ x. performs x here streams)) there in
    let most : most_of_run program (Running state streams) ≡ most_steps operation =
    ap (λ w. most_under_way w (operation_of program state.frames)) under_way ∙ ap most_for named in
    record {
      follows = record {
        count = p.follows.count;
        some = p.follows.some;
        few = subst (λ n. p.follows.count ≤ n) (sym most) p.follows.few;
        related = subst (λ r. Related placing r (after machine_step p.follows.count (Running m streams))) (sym does)
            p.follows.related;
      };
      fetches = λ j h frame' below' operation' e w there' stays.
          let same_operation : operation ≡ operation' =
          let both : Some operation ≡ Some operation' = sym named ∙ there' in cc in
          let same_item : frame.item ≡ frame'.item =
          let both : frame ∷ below ≡ frame' ∷ below' = sym frames ∙ e in cc in
          subst (λ n. FetchesIn placing n (after machine_step j (Running m streams))) same_item
          (fetches_in placing begin frame.item body p.follows.count m streams found.item found.body
          (p.fetches (ap stays_in_body same_operation ∙ stays)) j h);
    }

pub one_step : (placing : Placing) → IsPlacing placing → Calling placing → OneStep placing
one_step placing is calling state m streams stands input = by_frames state.frames refl
  where
    program : WordProgram
    program = placing.program

    under_way : state.under_way ≡ AnOperation
    under_way = under_way_is placing state m stands

    by_operation : (frame : Frame) (below : List Frame) (body : LirBody) → state.frames ≡ frame ∷ below
        → program.body_of frame.item ≡ Some body → (o : Option LirOp) → slice_get body.ops frame.place ≡ o
        → FollowsStep placing state m streams
    by_operation frame below body e body_is None there =
        no_operation placing state m streams under_way
        (ap (operation_of program) e ∙ ap (option_and_then (λ b. slice_get b.ops frame.place)) body_is ∙ there)
        (ap (λ fs. operates program state fs streams) e
        ∙ ap (λ o. with o streams (λ b. with (slice_get b.ops frame.place) streams (λ x.
        performs x (record { program = program; state = state; body = b; frame = frame; below = below }) streams)))
        body_is
        ∙ ap (λ o. with o streams (λ x.
        performs x (record { program = program; state = state; body = body; frame = frame; below = below }) streams))
        there)
    by_operation frame below body e body_is (Some operation) there =
        at_one placing is calling state m streams frame below body operation stands input e body_is there

    by_body : (frame : Frame) (below : List Frame) → state.frames ≡ frame ∷ below → (o : Option LirBody)
        → program.body_of frame.item ≡ o → FollowsStep placing state m streams
    by_body frame below e None body_is =
        no_operation placing state m streams under_way
        (ap (operation_of program) e ∙ ap (option_and_then (λ b. slice_get b.ops frame.place)) body_is)
        (ap (λ fs. operates program state fs streams) e
        ∙ ap (λ o. with o streams (λ b. with (slice_get b.ops frame.place) streams (λ x.
        performs x (record { program = program; state = state; body = b; frame = frame; below = below }) streams)))
        body_is)
    by_body frame below e (Some body) body_is =
        by_operation frame below body e body_is (slice_get body.ops frame.place) refl

    by_frames : (fs : List Frame) → state.frames ≡ fs → FollowsStep placing state m streams
    by_frames [] e =
        no_operation placing state m streams under_way (ap (operation_of program) e)
        (ap (λ fs. operates program state fs streams) e)
    by_frames (frame ∷ below) e = by_body frame below e (program.body_of frame.item) refl

-- ---- whole runs

-- related runs stay so
simulated : (placing : Placing) → IsPlacing placing → Calling placing
    → SimulatesBy (word_step placing.program) machine_step (Related placing) (most_of_run placing.program)
    (FetchesFor placing)
simulated placing is calling _ _ (AtOperation state m streams stands bytes) =
    let f : FollowsStep placing state m streams = one_step placing is calling state m streams stands bytes in
    record {
      count = f.follows.count;
      some = f.follows.some;
      few = f.follows.few;
      related = f.follows.related;
      between = f.fetches;
    }
simulated placing is calling _ _ (InSearch state m streams object searching u) =
    let f : Follows placing in_last_line m streams (word_step placing.program state streams) =
    unhandled_followed placing is state m streams object searching u in
    record {
      count = f.count;
      some = f.some;
      few = subst (λ w. f.count ≤ most_under_way w (operation_of placing.program state.frames)) (sym searching) f.few;
      related = f.related;
      between = λ j h frame below operation e w there stays.
          absurd (let no : ASearch object [] ≡ AnOperation = sym searching ∙ w in cc);
    }
simulated placing is calling _ _ (AtEnd status streams) = record {
  count = 1;
  some = omega arith;
  few = omega arith;
  related = AtEnd status streams;
  between = λ j h. tt;
}
simulated placing is calling _ _ (AtNoStep cause streams run) = record {
  count = 1;
  some = omega arith;
  few = omega arith;
  related = AtNoStep cause streams (after machine_step 1 run);
  between = λ j h. tt;
}

pub whole_runs : (placing : Placing) → IsPlacing placing → Calling placing → IsBegun placing → WholeRuns placing
whole_runs placing is calling begun front root item body given m input loaded bytes =
    let a : Arrives placing item given input m = begun front root item body given m input loaded bytes in
    let streams : Streams = record { input = input; output = []; error = [] } in
    let first : Run WordState WordCause =
    enters placing.program (word_start placing.program) item None given [] streams in
    let k : (k : KeepsStepBy (word_step placing.program) machine_step (Related placing) (most_of_run placing.program)
    (FetchesFor placing) first (Running m streams)) × (k.keeps.moment 0 ≡ a.count) =
    keeps_step_at (word_step placing.program) machine_step (Related placing) (most_of_run placing.program)
    (FetchesFor placing) (simulated placing is calling) first (Running m streams) a.count a.related in
    let few : a.count ≤ in_begin = a.few in
    record { keeps = k.0.keeps; begins = omega (arith, few, k.1); fetches = k.0.between }

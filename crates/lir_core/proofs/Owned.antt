-- A program has no place in memory but those of the image, of what it uses of the heap, and of its frames' slots.
use Rattle.std.proofs.Common.{◌≡◌, ◌∙◌, ◌⊎◌, inl, inr, ap, ◌||◌, length, ℕ, ℤ, pos, zero, suc, ◌+◌, ◌-◌, ◌*◌, ◌%◌, ◌<◌}
use Rattle.std.proofs.Common.{◌≤◌, Bool, true, false, not, ◌&&◌, ◌==◌}
use Rattle.std.proofs.Common.{nat_lt, cond, if◌then◌else◌, List, [], ◌∷◌, filter, slice_get, Option, Some, None, refl}
use Rattle.std.proofs.Common.{sym, subst, arith}
use Rattle.std.specs.Option.{option_and_then}
use Rattle.std.specs.Ordering.{int_eq}
use Rattle.std.specs.List.{list_all, list_any}
use Rattle.std.proofs.lemmas.Bool.{false≢true}
use Rattle.std.proofs.lemmas.Bool.Decides.{Decides-eqb}
use Rattle.num_core.specs.Run.{Run, Running, Ended, Stopped, Streams, one_more}
use Rattle.num_core.specs.declared.kind.Kind.{Kind}
use Rattle.lir_core.specs.Calls.{Given, cells_here, cleared_here, dictionary_of, ends_program, enters, enters_body}
use Rattle.lir_core.specs.Calls.{given_by, item_of, lowest, result_of, returns_to, stack_text, stack_with, takes_result}
use Rattle.lir_core.specs.Calls.{with_arguments, with_new_frame}
use Rattle.lir_core.specs.Check.{can_be_addressed}
use Rattle.lir_core.specs.Frame.{fixed_bytes}
use Rattle.lir_core.specs.Handlers.{caught_at, drops_frame, enters_catch, finishes_first, goes_on_for}
use Rattle.lir_core.specs.Handlers.{goes_on_searching, goes_on_to, goes_through, in_catch, is_finally}
use Rattle.lir_core.specs.Handlers.{is_tried, one_less_above, raises, searches, tests, tried_in, unwinds_from}
use Rattle.lir_core.specs.Handlers.{unwinds_to}
use Rattle.lir_core.specs.Owning.{GivesHeap, IsOfHeap, MayOwn, OwnsNoMore, RoutinesGiveHeap, is_of, is_of_body}
use Rattle.lir_core.specs.Memory.{Cell, FlatMemory, Missing, Unwritten, cells_from, is_own, overwritten, cells_of}
use Rattle.lir_core.specs.Memory.{copied, number_in, with_cells, zeros}
use Rattle.lir_core.specs.Pieces.{bytes_of_type, of_block, word, words_from}
use Rattle.lir_core.specs.Program.{EndsProgram, GoesOn, Outcome, RoutineEffect, WordProgram, ends_with, no_step, with}
use Rattle.lir_core.specs.Slots.{is_of_frame, Here, gives, goes_on_with, goes_to, memory_with, place_here}
use Rattle.lir_core.specs.Slots.{place_in_frame, place_of}
use Rattle.lir_core.specs.Slots.{value_in, with_frame, without_frame, word_in, words_in}
use Rattle.lir_core.specs.State.{ASearch, AnOperation, AnUnwind, Candidate, Catch, Caught, Clause, Entered, Fault}
use Rattle.lir_core.specs.State.{Finally, ForObject, Frame, Goal, HandlerKind, OnTheWay, Purpose, ToCatch, ToPlace}
use Rattle.lir_core.specs.State.{UnderWay, WordCause, WordState}
use Rattle.lir_core.specs.Step.{branches, by_values, gives_or, gives_value, goes_on_by, goes_on_from, may_be_copied_to}
use Rattle.lir_core.specs.Step.{one_if, operates, performs, with_result, word_run, word_start, word_step}
use Rattle.lir_core.specs.Values.{changed, combined, combined_in_range, divided, holds_of, is_least_by_minus_one}
use Rattle.lir_core.specs.Values.{value_converted, value_in_range, value_shifted, widened, word_of}
use Rattle.lir_core.specs.declared.body.LirBody.{LirBody}
use Rattle.lir_core.specs.declared.op.Block.{Block}
use Rattle.lir_core.specs.declared.op.LirOp.{LirOp}
use Rattle.lir_core.specs.declared.op.LirOp.TheVariants.{Constant, Address, SlotAddress, Dictionary, Move, Load}
use Rattle.lir_core.specs.declared.op.LirOp.TheVariants.{Store, Copy, Clear, Binary, Unary, Checked, Divide, Shift}
use Rattle.lir_core.specs.declared.op.LirOp.TheVariants.{Convert, ConvertChecked, Compare, Branch, BranchIfZero}
use Rattle.lir_core.specs.declared.op.LirOp.TheVariants.{BranchUnlessZero, Jump, Call, Routine, Raise, Rethrow}
use Rattle.lir_core.specs.declared.op.LirOp.TheVariants.{Leave, EndHandler, Return}
use Rattle.lir_core.proofs.Sound.{first_of, second_of}

-- ---- memory that has no other places than another

abbrev pub NoMore : FlatMemory → FlatMemory → Type 0
NoMore new old = (place : ℕ) → is_own (new place) ≡ true → is_own (old place) ≡ true

one_cell : (memory others : FlatMemory) (place p : ℕ) (cell : Cell) (t : Bool) → (p == place) ≡ t
    → is_own (memory place) ≡ true → (is_own (others p) ≡ true → is_own (memory p) ≡ true)
    → is_own (cond t cell (others p)) ≡ true → is_own (memory p) ≡ true
one_cell memory others place p cell true e here rest own =
    let same : p ≡ place = (Decides-eqb p place).0 e in
    ap (λ q. is_own (memory q)) same ∙ here
one_cell memory others place p cell false e here rest own = rest own

overwritten_less : (memory : FlatMemory) (place : ℕ) (cells : List Cell)
    → list_all is_own (cells_from memory place (length cells)) ≡ true → NoMore (overwritten memory place cells) memory
overwritten_less memory place [] all p own = own
overwritten_less memory place (cell ∷ cells) all p own =
    let others : Bool = list_all is_own (cells_from memory (suc place) (length cells)) in
    one_cell memory (overwritten memory (suc place) cells) place p cell (p == place) refl
    (first_of (is_own (memory place)) others all)
    (overwritten_less memory (suc place) cells (second_of (is_own (memory place)) others all) p) own

some_none : {A : Type 0} (x : A) → None ≡ Some x → ⊥
some_none x e = cc

some_one : {A : Type 0} (x y : A) → Some x ≡ Some y → x ≡ y
some_one x y e = cc

if_less : (t : Bool) (written new old : FlatMemory) → cond t (Some written) None ≡ Some new
    → (t ≡ true → NoMore written old) → NoMore new old
if_less true written new old e less = subst (λ m. NoMore m old) (some_one written new e) (less refl)
if_less false written new old e less = absurd (some_none new e)

cells_less : (old : FlatMemory) (place : ℕ) (cells : List Cell) (new : FlatMemory)
    → with_cells old place cells ≡ Some new → NoMore new old
cells_less old place cells new e =
    if_less (list_all is_own (cells_from old place (length cells))) (overwritten old place cells) new old e
    (overwritten_less old place cells)

placed_less : (old : FlatMemory) (o : Option ℕ) (cells : List Cell) (new : FlatMemory)
    → option_and_then (λ place. with_cells old place cells) o ≡ Some new → NoMore new old
placed_less old None cells new e = absurd (some_none new e)
placed_less old (Some place) cells new e = cells_less old place cells new e

copied_less : (old : FlatMemory) (target : ℕ) (o : Option (List Cell)) (new : FlatMemory)
    → option_and_then (with_cells old target) o ≡ Some new → NoMore new old
copied_less old target None new e = absurd (some_none new e)
copied_less old target (Some cells) new e = cells_less old target cells new e

then_less : (o : Option FlatMemory) (next : FlatMemory → Option FlatMemory) (new old : FlatMemory)
    → option_and_then next o ≡ Some new → ((mid : FlatMemory) → o ≡ Some mid → NoMore mid old)
    → ((mid : FlatMemory) → next mid ≡ Some new → NoMore new mid) → NoMore new old
then_less None next new old e first second = absurd (some_none new e)
then_less (Some mid) next new old e first second = λ p own. first mid refl p (second mid e p own)

arguments_less : (body : LirBody) (address : ℕ) (given : List Given) (old new : FlatMemory)
    → with_arguments body address given old ≡ Some new → NoMore new old
arguments_less body address [] old new e = subst (λ m. NoMore m old) (some_one old new e) (λ p own. own)
arguments_less body address (given ∷ others) old new e =
    then_less
    (option_and_then (λ place. with_cells old place given.cells)
    (place_in_frame body address (words_from given.to given.words)))
    (with_arguments body address others) new old e
    (placed_less old (place_in_frame body address (words_from given.to given.words)) given.cells)
    (λ mid. arguments_less body address others mid new)

-- ---- what may be the program's

more_heap : (program : WordProgram) (frames : List Frame) (used more place : ℕ) → used ≤ more
    → MayOwn program frames used place → MayOwn program frames more place
more_heap program frames used more place h (inl image) = inl image
more_heap program frames used more place h (inr (inl heap)) = inr (inl (heap.0, omega (arith, heap.1, h)))
more_heap program frames used more place h (inr (inr frame)) = inr (inr frame)

or_true : (s t : Bool) → t ≡ true → (s || t) ≡ true
or_true true t e = refl
or_true false t e = e

or_other : (s t : Bool) → (s || t) ≡ true → s ≡ false → t ≡ true
or_other true t e no_first = absurd (false≢true (sym no_first))
or_other false t e no_first = e

one_frame_more : (program : WordProgram) (frame : Frame) (frames : List Frame) (used place : ℕ)
    → MayOwn program frames used place → MayOwn program (frame ∷ frames) used place
one_frame_more program frame frames used place (inl image) = inl image
one_frame_more program frame frames used place (inr (inl heap)) = inr (inl heap)
one_frame_more program frame frames used place (inr (inr other)) =
    inr (inr (or_true (is_of program place frame) (list_any (is_of program place) frames) other))

-- a new frame
new_frame : (program : WordProgram) (frame : Frame) (frames : List Frame) (body : LirBody) (old : FlatMemory)
    (used place : ℕ) (t : Bool) → is_of_frame body frame.address place ≡ t → program.body_of frame.item ≡ Some body
    → OwnsNoMore program frames old used → is_own (cond t Unwritten (old place)) ≡ true
    → MayOwn program (frame ∷ frames) used place
new_frame program frame frames body old used place true e is owns own =
    inr (inr (ap (λ o. is_of_body o frame.address place || list_any (is_of program place) frames) is
    ∙ ap (λ s. s || list_any (is_of program place) frames) e))
new_frame program frame frames body old used place false e is owns own =
    one_frame_more program frame frames used place (owns place own)

-- a frame that is left
old_frame : (program : WordProgram) (frame : Frame) (frames : List Frame) (body : LirBody) (old : FlatMemory)
    (used place : ℕ) (t : Bool) → is_of_frame body frame.address place ≡ t → program.body_of frame.item ≡ Some body
    → OwnsNoMore program (frame ∷ frames) old used → is_own (cond t Missing (old place)) ≡ true
    → MayOwn program frames used place
old_frame program frame frames body old used place true e is owns own = absurd (false≢true own)
old_frame program frame frames body old used place false e is owns own =
    without (owns place own)
    (ap (λ o. is_of_body o frame.address place) is ∙ e)
  where
    without : MayOwn program (frame ∷ frames) used place → is_of program place frame ≡ false
        → MayOwn program frames used place
    without (inl image) apart = inl image
    without (inr (inl heap)) apart = inr (inl heap)
    without (inr (inr other)) apart =
        inr (inr (or_other (is_of program place frame) (list_any (is_of program place) frames) other apart))

left_owns : (program : WordProgram) (frame : Frame) (frames : List Frame) (body : LirBody) (old : FlatMemory)
    (used : ℕ) → program.body_of frame.item ≡ Some body → OwnsNoMore program (frame ∷ frames) old used
    → OwnsNoMore program frames (without_frame body frame.address old) used
left_owns program frame frames body old used is owns place own =
    old_frame program frame frames body old used place (is_of_frame body frame.address place) refl is owns own

less_owns : (program : WordProgram) (frames : List Frame) (old new : FlatMemory) (used : ℕ) → NoMore new old
    → OwnsNoMore program frames old used → OwnsNoMore program frames new used
less_owns program frames old new used less owns place own = owns place (less place own)

-- ---- runs

-- so it is with the state of a run, as long as it goes on
abbrev Kept : WordProgram → Run WordState WordCause → Type 0
Kept program (Running state streams) = OwnsNoMore program state.frames state.memory state.heap_used
Kept program (Ended status streams) = Unit {0}
Kept program (Stopped cause streams) = Unit {0}

kept_with : {A : Type 0} (program : WordProgram) (o : Option A) (streams : Streams)
    (next : A → Run WordState WordCause) → ((x : A) → o ≡ Some x → Kept program (next x))
    → Kept program (with o streams next)
kept_with program None streams next each = tt
kept_with program (Some x) streams next each = each x refl

kept_if : (program : WordProgram) (b : Bool) (x y : Run WordState WordCause) → Kept program x → Kept program y
    → Kept program (cond b x y)
kept_if program true x y first second = first
kept_if program false x y first second = second

-- ---- calls and returns

entered_by : (program : WordProgram) (state : WordState) (item : ℕ) (body : LirBody) (dictionary : Option ℕ)
    (given : List Given) (frames : List Frame) (streams : Streams) (b : Bool)
    → program.body_of item ≡ Some body → OwnsNoMore program frames state.memory state.heap_used
    → Kept program (cond b (ends_with stack_text streams)
    (with (with_arguments body (lowest program frames - body.frame) given
    (with_frame body (lowest program frames - body.frame) state.memory)) streams
    (λ memory. Running
    (with_new_frame state item (lowest program frames - body.frame) dictionary frames memory) streams)))
entered_by program state item body dictionary given frames streams true is owns = tt
entered_by program state item body dictionary given frames streams false is owns =
    let address : ℕ = lowest program frames - body.frame in
    let frame : Frame =
    record { item = item; place = 0; address = address; dictionary = dictionary; entered = [] } in
    kept_with program (with_arguments body address given (with_frame body address state.memory)) streams
    (λ memory. Running (with_new_frame state item address dictionary frames memory) streams)
    (λ memory e place own. new_frame program frame frames body state.memory state.heap_used place
    (is_of_frame body address place) refl is owns
    (arguments_less body address given (with_frame body address state.memory) memory e place own))

enters_kept : (program : WordProgram) (state : WordState) (item : ℕ) (dictionary : Option ℕ) (given : List Given)
    (frames : List Frame) (streams : Streams) → OwnsNoMore program frames state.memory state.heap_used
    → Kept program (enters program state item dictionary given frames streams)
enters_kept program state item dictionary given frames streams owns =
    kept_with program (program.body_of item) streams
    (λ body. enters_body program state item body dictionary given frames streams)
    (λ body is. entered_by program state item body dictionary given frames streams
    (nat_lt program.stack_bound (stack_with program frames body)) is owns)

-- what is known where an operation is done
record Fits (here : Here) : Type 0 where
  all : OwnsNoMore here.program here.state.frames here.state.memory here.state.heap_used
  here_on : OwnsNoMore here.program (here.frame ∷ here.below) here.state.memory here.state.heap_used
  body : here.program.body_of here.frame.item ≡ Some here.body
  routines : RoutinesGiveHeap here.program

takes_kept : (program : WordProgram) (state : WordState) (block : Block) (cells : List Cell) (frame : Frame)
    (below : List Frame) (memory : FlatMemory) (streams : Streams)
    → OwnsNoMore program (frame ∷ below) memory state.heap_used
    → Kept program (takes_result program state block cells frame below memory streams)
takes_kept program state block cells frame below memory streams fits =
    let placed : LirBody → Block → Option FlatMemory =
    λ body result. option_and_then (λ place. with_cells memory place cells)
    (place_in_frame body frame.address (of_block result)) in
    let taken : FlatMemory → Run WordState WordCause =
    λ memory'. Running
    (record state { frames = record frame { place = frame.place + 1 } ∷ below; memory = memory' }) streams in
    let sized : LirBody → Block → Run WordState WordCause =
    λ body result. if result.words == block.words then with (placed body result) streams taken else no_step streams in
    kept_with program (program.body_of frame.item) streams
    (λ body. with (result_of (slice_get body.ops frame.place)) streams (sized body))
    (λ body is. kept_with program (result_of (slice_get body.ops frame.place)) streams (sized body)
    (λ result is'. kept_if program (result.words == block.words) (with (placed body result) streams taken)
    (no_step streams)
    (kept_with program (placed body result) streams taken
    (λ memory' is''. less_owns program (frame ∷ below) memory memory' state.heap_used
    (placed_less memory (place_in_frame body frame.address (of_block result)) cells memory' is'') fits))
    tt))

ends_kept : (here : Here) (block : Block) (streams : Streams) → Kept here.program (ends_program here block streams)
ends_kept here block streams =
    let last : ℕ → Run WordState WordCause = λ word. Ended (word % 256) streams in
    kept_if here.program (block.words == 0) (Ended 0 streams)
    (if block.words == 1 then with (word_in here block.slot) streams last else no_step streams) tt
    (kept_if here.program (block.words == 1) (with (word_in here block.slot) streams last) (no_step streams)
    (kept_with here.program (word_in here block.slot) streams last (λ word is. tt)) tt)

returns_kept : (here : Here) (block : Block) (frames : List Frame) (streams : Streams)
    → here.program.body_of here.frame.item ≡ Some here.body
    → OwnsNoMore here.program (here.frame ∷ frames) here.state.memory here.state.heap_used
    → Kept here.program (returns_to here block frames streams)
returns_kept here block [] streams is_body fits = ends_kept here block streams
returns_kept here block (frame ∷ below) streams is_body fits =
    let left : FlatMemory = without_frame here.body here.frame.address here.state.memory in
    kept_with here.program (cells_here here (of_block block)) streams
    (λ cells. takes_result here.program here.state block cells frame below left streams)
    (λ cells is. takes_kept here.program here.state block cells frame below left streams
    (left_owns here.program here.frame (frame ∷ below) here.body here.state.memory here.state.heap_used is_body fits))

-- ---- operations

to_kept : (here : Here) (place : ℕ) (streams : Streams) → Fits here → Kept here.program (goes_to here place streams)
to_kept here place streams f = f.here_on

on_kept : (here : Here) (streams : Streams) (memory : FlatMemory) → NoMore memory here.state.memory → Fits here
    → Kept here.program (goes_on_with here streams memory)
on_kept here streams memory less f =
    less_owns here.program (here.frame ∷ here.below) here.state.memory memory here.state.heap_used less f.here_on

with_memory : (here : Here) (o : Option FlatMemory) (streams : Streams)
    → ((memory : FlatMemory) → o ≡ Some memory → NoMore memory here.state.memory) → Fits here
    → Kept here.program (with o streams (goes_on_with here streams))
with_memory here o streams less f =
    kept_with here.program o streams (goes_on_with here streams)
    (λ memory is. on_kept here streams memory (less memory is) f)

gives_kept : (here : Here) (slot value : ℕ) (streams : Streams) → Fits here
    → Kept here.program (gives here slot value streams)
gives_kept here slot value streams f =
    with_memory here (memory_with here slot value) streams
    (placed_less here.state.memory (place_here here (word slot)) (cells_of 8 value)) f

by_values_kept : (here : Here) (kind : Kind) (left right : ℕ) (streams : Streams)
    (next : ℤ → ℤ → Run WordState WordCause)
    → ((a b : ℤ) → Kept here.program (next a b)) → Kept here.program (by_values here kind left right streams next)
by_values_kept here kind left right streams next each =
    kept_with here.program (value_in here kind left) streams (λ a. with (value_in here kind right) streams (next a))
    (λ a is. kept_with here.program (value_in here kind right) streams (next a) (λ b is'. each a b))

branches_kept : (here : Here) (label : ℕ) (streams : Streams) (holds : Bool) → Fits here
    → Kept here.program (branches here label streams holds)
branches_kept here label streams holds f = to_kept here (if holds then label else here.frame.place + 1) streams f

gives_or_kept : (here : Here) (to otherwise : ℕ) (streams : Streams) (o : Option ℤ) → Fits here
    → Kept here.program (gives_or here to otherwise streams o)
gives_or_kept here to otherwise streams None f = to_kept here otherwise streams f
gives_or_kept here to otherwise streams (Some value) f = gives_kept here to (word_of value) streams f

result_kept : (here : Here) (to result : Option ℕ) (streams : Streams) → Fits here
    → Kept here.program (with_result here to result streams)
result_kept here None result streams f = on_kept here streams here.state.memory (λ p own. own) f
result_kept here (Some to) result streams f =
    kept_with here.program result streams (λ value. gives here to value streams)
    (λ value is. gives_kept here to value streams f)

-- what a routine has come to use of the heap
routine_owns : (program : WordProgram) (frames : List Frame) (old new : FlatMemory) (used more : ℕ) → used ≤ more
    → ((place : ℕ) → is_own (new place) ≡ true → (is_own (old place) ≡ true) ⊎ IsOfHeap program used more place)
    → OwnsNoMore program frames old used → OwnsNoMore program frames new more
routine_owns program frames old new used more h given owns place own = by (given place own)
  where
    by : (is_own (old place) ≡ true) ⊎ IsOfHeap program used more place → MayOwn program frames more place
    by (inl before) = more_heap program frames used more place h (owns place before)
    by (inr heap) =
        let low : program.heap_begin + used ≤ place = heap.0 in
        let high : place < program.heap_begin + more = heap.1 in
        inr (inl (omega (arith, low), high))

outcome_kept : (here : Here) (to : Option ℕ) (routine : RoutineEffect) (words : List ℕ) (streams : Streams)
    (outcome : Outcome) → routine words here.state.memory here.state.heap_used streams ≡ Some outcome
    → GivesHeap here.program routine → Fits here → Kept here.program (goes_on_by here to outcome)
outcome_kept here to routine words streams (EndsProgram status streams') e heap f = tt
outcome_kept here to routine words streams (GoesOn effect) e heap f =
    let given = heap words here.state.memory here.state.heap_used streams effect e in
    let new : (frames : List Frame) → OwnsNoMore here.program frames here.state.memory here.state.heap_used
    → OwnsNoMore here.program frames effect.memory effect.heap_used =
    λ frames owns. routine_owns here.program frames here.state.memory effect.memory here.state.heap_used
    effect.heap_used given.0 given.1 owns in
    result_kept (record here { state = record here.state { memory = effect.memory; heap_used = effect.heap_used } })
    to effect.result effect.streams (record {
      all = new here.state.frames f.all;
      here_on = new (here.frame ∷ here.below) f.here_on;
      body = f.body;
      routines = f.routines;
    })

-- ---- handlers

through_kept : (program : WordProgram) (state : WordState) (clauses : List Clause) (place : ℕ) (frame : Frame)
    (below : List Frame) (streams : Streams) → OwnsNoMore program (frame ∷ below) state.memory state.heap_used
    → Kept program (goes_through state clauses place frame below streams)
through_kept program state [] place frame below streams fits =
    fits
through_kept program state (clause ∷ rest) place frame below streams fits =
    fits

goal_kept : (program : WordProgram) (goal : Goal) (rest : List Clause) (state : WordState) (frame : Frame)
    (below : List Frame) (streams : Streams) → OwnsNoMore program (frame ∷ below) state.memory state.heap_used
    → Kept program (goes_on_to goal rest state frame below streams)
goal_kept program (ToPlace place) rest state frame below streams fits =
    through_kept program state rest place frame below streams fits
goal_kept program (ToCatch caught) rest state frame below streams fits = fits

purpose_kept : (program : WordProgram) (purpose : Purpose) (state : WordState) (frame : Frame) (below : List Frame)
    (streams : Streams) → OwnsNoMore program (frame ∷ below) state.memory state.heap_used
    → Kept program (goes_on_for purpose state frame below streams)
purpose_kept program (ForObject object) state frame below streams fits = tt
purpose_kept program (OnTheWay rest goal) state frame below streams fits =
    goal_kept program goal rest state frame below streams fits

finishes_kept : (entered : List Entered) (here : Here) (streams : Streams) → Fits here
    → Kept here.program (finishes_first entered here streams)
finishes_kept [] here streams f = tt
finishes_kept (done ∷ others) here streams f =
    purpose_kept here.program done.purpose here.state (record here.frame { entered = others }) here.below streams
    f.here_on

catch_kept : (program : WordProgram) (state : WordState) (caught : Caught) (frame : Frame) (below : List Frame)
    (streams : Streams) → OwnsNoMore program (frame ∷ below) state.memory state.heap_used
    → Kept program (enters_catch program state caught frame below streams)
catch_kept program state caught frame below streams fits =
    let clause : Clause = caught.by.clause in
    let new : Frame = in_catch clause caught.object frame in
    let written : LirBody → Option FlatMemory =
    λ body. option_and_then (λ place. with_cells state.memory place (cells_of 8 caught.object))
    (place_in_frame body frame.address (word clause.object_slot)) in
    let entered : FlatMemory → Run WordState WordCause =
    λ memory. Running (record state { frames = new ∷ below; memory = memory; under_way = AnOperation }) streams in
    kept_with program (program.body_of frame.item) streams (λ body. with (written body) streams entered)
    (λ body is. kept_with program (written body) streams entered
    (λ memory is'. less_owns program (frame ∷ below) state.memory memory state.heap_used
    (placed_less state.memory (place_in_frame body frame.address (word clause.object_slot))
    (cells_of 8 caught.object) memory is') fits))

drop_kept : (program : WordProgram) (state : WordState) (caught : Caught) (frame : Frame) (below : List Frame)
    (streams : Streams) → OwnsNoMore program (frame ∷ below) state.memory state.heap_used
    → Kept program (drops_frame program state caught frame below streams)
drop_kept program state caught frame below streams fits =
    kept_with program (program.body_of frame.item) streams
    (λ body. unwinds_to program
    (record state { frames = below; memory = without_frame body frame.address state.memory })
    (one_less_above caught) streams)
    (λ body is. left_owns program frame below body state.memory state.heap_used is fits)

unwinds_kept : (program : WordProgram) (state : WordState) (caught : Caught) (rest : List Clause) (frames : List Frame)
    (streams : Streams) → OwnsNoMore program frames state.memory state.heap_used
    → Kept program (unwinds_from program state caught rest frames streams)
unwinds_kept program state caught rest [] streams fits = tt
unwinds_kept program state caught (clause ∷ rest) (frame ∷ below) streams fits =
    fits
unwinds_kept program state caught [] (frame ∷ below) streams fits =
    kept_if program (caught.by.above == 0) (enters_catch program state caught frame below streams)
    (drops_frame program state caught frame below streams) (catch_kept program state caught frame below streams fits)
    (drop_kept program state caught frame below streams fits)

tests_kept : (kind : HandlerKind) (program : WordProgram) (state : WordState) (object : ℕ) (by : Candidate)
    (others : List Candidate) (streams : Streams) → OwnsNoMore program state.frames state.memory state.heap_used
    → Kept program (tests kind program state object by others streams)
tests_kept (Catch class) program state object by others streams fits =
    let found : Run WordState WordCause = unwinds_to program state (record { object = object; by = by }) streams in
    let not_found : Run WordState WordCause = goes_on_searching state object others streams in
    let tested : Bool → Run WordState WordCause = λ catches. if catches then found else not_found in
    kept_with program (slice_get state.frames by.above) streams
    (λ frame. with (program.catches class frame.dictionary state.memory object) streams tested)
    (λ frame is. kept_with program (program.catches class frame.dictionary state.memory object) streams tested
    (λ catches is'. kept_if program catches found not_found fits fits))
tests_kept Finally program state object by others streams fits = fits
tests_kept Fault program state object by others streams fits = fits

searches_kept : (program : WordProgram) (state : WordState) (object : ℕ) (candidates : List Candidate)
    (streams : Streams) → OwnsNoMore program state.frames state.memory state.heap_used
    → Kept program (searches program state object candidates streams)
searches_kept program state object [] streams fits = tt
searches_kept program state object (by ∷ others) streams fits =
    tests_kept by.clause.kind program state object by others streams fits

-- ---- steps and runs

performs_kept : (op : LirOp) (here : Here) (streams : Streams) → Fits here
    → Kept here.program (performs op here streams)
performs_kept (Constant to value) here streams f = gives_kept here to (word_of value) streams f
performs_kept (Address to kind item) here streams f =
    kept_with here.program (here.program.address_of kind item) streams (λ address. gives here to address streams)
    (λ address is. gives_kept here to address streams f)
performs_kept (SlotAddress to slot) here streams f =
    let address : ℕ = here.frame.address + (fixed_bytes + 8 * slot) in
    kept_if here.program (can_be_addressed here.body slot) (gives here to address streams) (no_step streams)
    (gives_kept here to address streams f) tt
performs_kept (Dictionary to) here streams f =
    kept_with here.program here.frame.dictionary streams (λ value. gives here to value streams)
    (λ value is. gives_kept here to value streams f)
performs_kept (Move to from) here streams f =
    let moved_to : List Cell → Option FlatMemory =
    λ cells. option_and_then (λ place. with_cells here.state.memory place cells) (place_here here (word to)) in
    kept_with here.program
    (option_and_then (λ place. copied here.state.memory place 8) (place_here here (word from))) streams
    (λ cells. with (moved_to cells) streams (goes_on_with here streams))
    (λ cells is. with_memory here (moved_to cells) streams
    (placed_less here.state.memory (place_here here (word to)) cells) f)
performs_kept (Load to from narrow) here streams f =
    kept_with here.program
    (option_and_then (λ place. number_in here.state.memory place (bytes_of_type narrow))
    (place_of here from (bytes_of_type narrow))) streams
    (λ n. gives_value here to streams (widened narrow n))
    (λ n is. gives_kept here to (word_of (widened narrow n)) streams f)
performs_kept (Store to from narrow) here streams f =
    let stored : ℕ → Option FlatMemory =
    λ value. option_and_then
    (λ place. with_cells here.state.memory place (cells_of (bytes_of_type narrow) value))
    (place_of here to (bytes_of_type narrow)) in
    kept_with here.program (word_in here from) streams
    (λ value. with (stored value) streams (goes_on_with here streams))
    (λ value is. with_memory here (stored value) streams
    (placed_less here.state.memory (place_of here to (bytes_of_type narrow)) (cells_of (bytes_of_type narrow) value)) f)
performs_kept (Copy to from bytes) here streams f =
    let copy : ℕ → ℕ → Option FlatMemory =
    λ source target. option_and_then (with_cells here.state.memory target) (copied here.state.memory source bytes) in
    let next : ℕ → ℕ → Run WordState WordCause =
    λ source target. if may_be_copied_to target source bytes
    then with (copy source target) streams (goes_on_with here streams) else no_step streams in
    kept_with here.program (place_of here from bytes) streams
    (λ source. with (place_of here to bytes) streams (next source))
    (λ source is. kept_with here.program (place_of here to bytes) streams (next source)
    (λ target is'. kept_if here.program (may_be_copied_to target source bytes)
    (with (copy source target) streams (goes_on_with here streams)) (no_step streams)
    (with_memory here (copy source target) streams
    (copied_less here.state.memory target (copied here.state.memory source bytes)) f) tt))
performs_kept (Clear to bytes) here streams f =
    with_memory here
    (option_and_then (λ place. with_cells here.state.memory place (zeros bytes)) (place_of here to bytes)) streams
    (placed_less here.state.memory (place_of here to bytes) (zeros bytes)) f
performs_kept (Binary operation kind to left right) here streams f =
    by_values_kept here kind left right streams
    (λ a b. gives_value here to streams (combined operation kind a b))
    (λ a b. gives_kept here to (word_of (combined operation kind a b)) streams f)
performs_kept (Unary operation kind to value) here streams f =
    kept_with here.program (value_in here kind value) streams
    (λ a. gives_value here to streams (changed operation kind a))
    (λ a is. gives_kept here to (word_of (changed operation kind a)) streams f)
performs_kept (Checked operation kind to left right overflow) here streams f =
    by_values_kept here kind left right streams
    (λ a b. gives_or here to overflow streams (combined_in_range operation kind a b))
    (λ a b. gives_or_kept here to overflow streams (combined_in_range operation kind a b) f)
performs_kept (Divide part kind to left right if_zero overflow) here streams f =
    let quotient : ℤ → ℤ → Run WordState WordCause =
    λ a b. gives_value here to streams (divided part kind a b) in
    let tested : ℤ → ℤ → Run WordState WordCause =
    λ a b. if is_least_by_minus_one kind a b then goes_to here overflow streams else quotient a b in
    by_values_kept here kind left right streams
    (λ a b. if int_eq b (pos 0) then goes_to here if_zero streams else tested a b)
    (λ a b. kept_if here.program (int_eq b (pos 0)) (goes_to here if_zero streams) (tested a b)
    (to_kept here if_zero streams f)
    (kept_if here.program (is_least_by_minus_one kind a b) (goes_to here overflow streams) (quotient a b)
    (to_kept here overflow streams f) (gives_kept here to (word_of (divided part kind a b)) streams f)))
performs_kept (Shift operation kind to value amount) here streams f =
    kept_with here.program (value_in here kind value) streams
    (λ a. with (value_in here Kind.I8 amount) streams
    (λ by. gives_value here to streams (value_shifted operation kind a by)))
    (λ a is. kept_with here.program (value_in here Kind.I8 amount) streams
    (λ by. gives_value here to streams (value_shifted operation kind a by))
    (λ by is'. gives_kept here to (word_of (value_shifted operation kind a by)) streams f))
performs_kept (Convert narrow from to value) here streams f =
    kept_with here.program (value_in here from value) streams
    (λ a. gives_value here to streams (value_converted narrow from a))
    (λ a is. gives_kept here to (word_of (value_converted narrow from a)) streams f)
performs_kept (ConvertChecked narrow from to value overflow) here streams f =
    kept_with here.program (value_in here from value) streams
    (λ a. gives_or here to overflow streams (value_in_range narrow from a))
    (λ a is. gives_or_kept here to overflow streams (value_in_range narrow from a) f)
performs_kept (Compare test kind to left right) here streams f =
    by_values_kept here kind left right streams
    (λ a b. gives here to (one_if (holds_of test kind a b)) streams)
    (λ a b. gives_kept here to (one_if (holds_of test kind a b)) streams f)
performs_kept (Branch test kind left right label) here streams f =
    by_values_kept here kind left right streams
    (λ a b. branches here label streams (holds_of test kind a b))
    (λ a b. branches_kept here label streams (holds_of test kind a b) f)
performs_kept (BranchIfZero value label) here streams f =
    kept_with here.program (word_in here value) streams (λ n. branches here label streams (n == 0))
    (λ n is. branches_kept here label streams (n == 0) f)
performs_kept (BranchUnlessZero value label) here streams f =
    kept_with here.program (word_in here value) streams (λ n. branches here label streams (not (n == 0)))
    (λ n is. branches_kept here label streams (not (n == 0)) f)
performs_kept (Jump label) here streams f = to_kept here label streams f
performs_kept (Call callee dictionary arguments cleared result) here streams f =
    let new : ℕ → Option ℕ → List Given → FlatMemory → Run WordState WordCause =
    λ item word given memory. enters here.program (record here.state { memory = memory }) item word given
    (here.frame ∷ here.below) streams in
    let clear : ℕ → Option ℕ → List Given → Run WordState WordCause =
    λ item word given. with (cleared_here here cleared) streams (new item word given) in
    let give : ℕ → Option ℕ → Run WordState WordCause =
    λ item word. with (given_by here arguments) streams (clear item word) in
    kept_with here.program (item_of here callee) streams
    (λ item. with (dictionary_of here dictionary) streams (give item))
    (λ item is. kept_with here.program (dictionary_of here dictionary) streams (give item)
    (λ word is'. kept_with here.program (given_by here arguments) streams (clear item word)
    (λ given is''. kept_with here.program (cleared_here here cleared) streams (new item word given)
    (λ memory is'''. enters_kept here.program (record here.state { memory = memory }) item word given
    (here.frame ∷ here.below) streams
    (less_owns here.program (here.frame ∷ here.below) here.state.memory memory here.state.heap_used
    (placed_less here.state.memory (place_here here (of_block cleared)) (zeros (8 * cleared.words)) memory is''')
    f.here_on)))))
performs_kept (Routine number arguments result) here streams f =
    let done : RoutineEffect → List ℕ → Run WordState WordCause =
    λ routine words. with (routine words here.state.memory here.state.heap_used streams) streams
    (goes_on_by here result) in
    kept_with here.program (here.program.routine number) streams
    (λ routine. with (words_in here arguments) streams (done routine))
    (λ routine is. kept_with here.program (words_in here arguments) streams (done routine)
    (λ words is'. kept_with here.program (routine words here.state.memory here.state.heap_used streams) streams
    (goes_on_by here result) (λ outcome is''. outcome_kept here result routine words streams outcome is''
    (f.routines number routine is) f)))
performs_kept (Raise object) here streams f =
    kept_with here.program (word_in here object) streams (λ address. raises here address streams)
    (λ address is. f.all)
performs_kept Rethrow here streams f =
    kept_with here.program (caught_at here.frame.place here.frame.entered) streams
    (λ object. raises here object streams) (λ object is. f.all)
performs_kept (Leave label) here streams f =
    through_kept here.program here.state
    (filter (λ clause. is_finally clause.kind && not (is_tried label clause)) (tried_in here.program here.frame))
    label here.frame here.below streams f.here_on
performs_kept EndHandler here streams f = finishes_kept here.frame.entered here streams f
performs_kept (Return result) here streams f = returns_kept here result here.below streams f.body f.here_on

operates_kept : (program : WordProgram) (state : WordState) (frames : List Frame) (streams : Streams)
    → RoutinesGiveHeap program → OwnsNoMore program state.frames state.memory state.heap_used
    → OwnsNoMore program frames state.memory state.heap_used → Kept program (operates program state frames streams)
operates_kept program state [] streams routines all fits = tt
operates_kept program state (frame ∷ below) streams routines all fits =
    let here : LirBody → Here =
    λ body. record { program = program; state = state; body = body; frame = frame; below = below } in
    kept_with program (program.body_of frame.item) streams
    (λ body. with (slice_get body.ops frame.place) streams (λ op. performs op (here body) streams))
    (λ body is. kept_with program (slice_get body.ops frame.place) streams (λ op. performs op (here body) streams)
    (λ op is'. performs_kept op (here body) streams
    (record { all = all; here_on = fits; body = is; routines = routines })))

under_way_kept : (program : WordProgram) (state : WordState) (under_way : UnderWay) (streams : Streams)
    → RoutinesGiveHeap program → OwnsNoMore program state.frames state.memory state.heap_used
    → Kept program (goes_on_from program state under_way streams)
under_way_kept program state AnOperation streams routines fits =
    operates_kept program state state.frames streams routines fits fits
under_way_kept program state (ASearch object candidates) streams routines fits =
    searches_kept program state object candidates streams fits
under_way_kept program state (AnUnwind caught rest) streams routines fits =
    unwinds_kept program state caught rest state.frames streams fits

step_kept : (program : WordProgram) (run : Run WordState WordCause) → RoutinesGiveHeap program
    → Kept program run → Kept program (one_more (word_step program) run)
step_kept program (Running state streams) routines fits =
    under_way_kept program state state.under_way streams routines fits
step_kept program (Ended status streams) routines fits = tt
step_kept program (Stopped cause streams) routines fits = tt

run_kept : (program : WordProgram) (item : ℕ) (given : List Given) (input : List ℕ) (n : ℕ)
    → RoutinesGiveHeap program → Kept program (word_run program item given input n)
run_kept program item given input zero routines =
    enters_kept program (word_start program) item None given []
    (record { input = input; output = []; error = [] }) (λ place own. inl own)
run_kept program item given input (suc n) routines =
    step_kept program (word_run program item given input n) routines (run_kept program item given input n routines)

pub owns_no_more : (program : WordProgram) (item : ℕ) (given : List Given) (input : List ℕ) (n : ℕ) (state : WordState)
    (streams : Streams) → RoutinesGiveHeap program → word_run program item given input n ≡ Running state streams
    → OwnsNoMore program state.frames state.memory state.heap_used
owns_no_more program item given input n state streams routines is =
    subst (Kept program) is (run_kept program item given input n routines)

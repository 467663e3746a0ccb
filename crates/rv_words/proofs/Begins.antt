-- The begin: by the code of `start` to the first operation of the first body, or to the line of the stack's bound.
use Rattle.std.proofs.Common.{◌≡◌, ◌∙◌, ◌⊎◌, inl, inr, ℕ, zero, suc, ◌+◌, ◌-◌, ◌*◌, ◌/◌, ◌^◌, ◌<◌, ◌≤◌, Bool, true}
use Rattle.std.proofs.Common.{false}
use Rattle.std.proofs.Common.{cond, ◌||◌, ◌&&◌, List, [], ◌∷◌, length, map, replicate, Option, Some, None, All, arith}
use Rattle.std.proofs.Common.{refl}
use Rattle.std.proofs.Common.{ap, sym, subst, nat_lt, nat_le, slice_index}
use Rattle.std.specs.List.{AllZip, list_any}
use Rattle.std.specs.Option.{option_and_then}
use Rattle.std.specs.Int.{bytes_low_first}
use Rattle.std.specs.Prelude.{unwrap_or}
use Rattle.std.proofs.lemmas.Bool.{leb-true}
use Rattle.std.proofs.lemmas.Bool.Decides.{nat_tests}
use Rattle.std.proofs.lemmas.List.{length-replicate}
use Rattle.byteorder.specs.Endian.{little_bytes, little_from}
use Rattle.byteorder.specs.Numbers.{length-bytes_low_first}
use Rattle.num_core.specs.Run.{Run, Running, Ended, Streams, after}
use Rattle.num_core.specs.declared.fix.FixKind.TheVariants.{Routine}
use Rattle.rv_step.specs.Machine.{MachineState, machine_run, machine_step, register}
use Rattle.rv_step.specs.Memory.{AreApart, Bytes, MayRead, MayWrite, Number, Writes, byte_in}
use Rattle.rv_step.proofs.Addresses.{allowed_within, at_each, read_bytes, readable}
use Rattle.rv_code.specs.Registers.{HasRegisters}
use Rattle.lir_core.specs.Calls.{Given, enters_body, lowest, stack_text, stack_with, with_arguments, with_new_frame}
use Rattle.lir_core.specs.Check.{lies_in_frame}
use Rattle.lir_core.specs.Frame.{scratch_slots}
use Rattle.lir_core.specs.Layout.{FramesFit}
use Rattle.lir_core.specs.Memory.{Byte, Cell, FlatMemory, Missing, Unwritten, cells_of, is_own, with_cells}
use Rattle.lir_core.specs.Pieces.{words_from}
use Rattle.lir_core.specs.Program.{WordProgram, ends_with, no_step, with}
use Rattle.lir_core.specs.Slots.{addresses, is_variable, place_in_frame, with_frame}
use Rattle.lir_core.specs.State.{Frame, WordCause, WordState}
use Rattle.lir_core.specs.Step.{word_run, word_start}
use Rattle.lir_core.specs.Tells.{CellTellsNoMore, MemoryTellsNoMore}
use Rattle.lir_core.specs.declared.body.LirBody.{LirBody}
use Rattle.rt_code.specs.Code.{code_of as routine_code}
use Rattle.rt_code.specs.Conventions.{HasClearHeap, HasScratch}
use Rattle.rt_code.specs.Effects.{EndsWithin, Enters, Front, HasRoom as StartRoom, LeadsWithin, Root, Starts}
use Rattle.rt_code.specs.Effects.{argument_place, frames_end, heap_begin, number_of, with_error}
use Rattle.rt_code.specs.declared.routines.Routine.TheVariants.{Start}
use Rattle.rt_code.proofs.Machines.{then_steps}
use Rattle.rt_code.proofs.Whole.{has_effect}
use Rattle.rv_lines.specs.Frame.{return_at}
use Rattle.rv_words.specs.Loaded.{GivesArgument, IsLoaded}
use Rattle.rv_words.specs.Placing.{HasProgram, IsPlacing, Placing, Serves, data_bytes}
use Rattle.rv_words.specs.Runs.{Arrives, IsBegun}
use Rattle.rv_words.specs.Stands.{IsInBounds, Related, ReturnsToStart, Stands, is_of, may_be_own, outermost}
use Rattle.rv_words.specs.Stands.Related.{AtEnd, AtNoStep, AtOperation}
use Rattle.rv_words.specs.Steps.{in_begin}
use Rattle.rv_words.specs.Words.{Held, Spot, beyond, caller_of, cell_of, held_from, held_in, homes_below, memory_in}
use Rattle.rv_words.specs.Words.{stands_at, waits_at, word_at}
use Rattle.rv_words.proofs.Bytes.{number_back}
use Rattle.rv_words.proofs.Called.{bounds_more}
use Rattle.rv_words.proofs.Entering.{Entered, Keeps, entered, first_there}
use Rattle.rv_words.proofs.Filled.{InSpan, IsFilled, filled_first, filled_more, raw, raw_flat}
use Rattle.rv_words.proofs.Giving.{all_itself, size_of_cells}
use Rattle.rv_words.proofs.Kept.{cell_kept, word_read}
use Rattle.rv_words.proofs.Pushed.{cell_keeps, first_spot, memory_pushed, pushed, stands_pushed}
use Rattle.rv_words.proofs.Reading.{small_byte}
use Rattle.rv_words.proofs.Room.{HasRoom, in_data, may_read}
use Rattle.rv_words.proofs.Slotted.{bytes_small}
use Rattle.rv_words.proofs.Standing.{held_at, homes_in}
use Rattle.rv_words.proofs.Written.{program_written}

-- ---- what stands in memory

-- a word that may be read is there as its bytes
pub number_there : (placing : Placing) (m : MachineState) (q : ℕ) → HasProgram placing m → MayRead m q 8
    → placing.lowest_data ≤ q → q + 8 ≤ placing.lowest_data + data_bytes placing → Number m q 8 (word_at m q)
number_there placing m q has may low high =
    let found = readable (λ s. s.read) q 8 m.segments may in
    let there : Bytes m q found.0 = read_bytes (λ s. s.read) m q 8 found.0 has.segments found.1 found.2 in
    let small : (k : ℕ) → k < length found.0 → slice_index found.0 k < 256 =
    λ k h. let back : q + k - q ≡ k = omega arith in
    let byte : byte_in m.segments (q + k) ≡ Some (slice_index found.0 k) =
    at_each m q found.0 there (q + k) (omega arith) (omega (arith, h)) ∙ ap (λ i. Some (slice_index found.0 i)) back in
    subst (λ o. unwrap_or o 0 < 256) byte
    (small_byte placing m (q + k) has (omega (arith, low)) (omega (arith, high, h, found.2))) in
    let bytes_are : little_bytes 8 (word_at m q) ≡ found.0 =
    ap (little_bytes 8) (word_read m q found.0 found.2 there)
    ∙ subst (λ n. bytes_low_first 0 n (little_from 0 n found.0) ≡ found.0) found.2 (number_back found.0 small) in
    subst (Bytes m q) (sym bytes_are) there

-- ---- the program before its first body

lt_true : (x y : ℕ) → x < y → nat_lt x y ≡ true
lt_true x y h = grind (arith, nat_tests)

lt_false : (x y : ℕ) → y ≤ x → nat_lt x y ≡ false
lt_false x y h = grind (arith, nat_tests)

is_below : (x y : ℕ) → nat_lt x y ≡ true → x < y
is_below x y t = grind (arith, nat_tests)

is_above : (x y : ℕ) → nat_lt x y ≡ false → y ≤ x
is_above x y t = grind (arith, nat_tests)

or_first : (s t : Bool) → s ≡ true → (s || t) ≡ true
or_first true t e = refl
or_first false t e = absurd (let no : false ≡ true = e in cc)

start_bounds : (placing : Placing) → IsPlacing placing → IsInBounds placing.program (word_start placing.program)
start_bounds placing is = record {
  frames = record { stacked = refl; within = omega arith };
  heap = omega arith;
  memory = λ x own. or_first
      (is_own (program.image x) || (nat_le program.heap_begin x && nat_lt x (program.heap_begin + 0)))
      (list_any (is_of program x) [])
      (or_first (is_own (program.image x)) (nat_le program.heap_begin x && nat_lt x (program.heap_begin + 0)) own);
}
  where
    program : WordProgram
    program = placing.program

-- nothing of the image lies where the frame is to be
no_image : (placing : Placing) (a n x : ℕ) → IsPlacing placing → placing.program.heap_begin ≤ a
    → a + n ≤ placing.program.stack_end → InSpan a n x → is_own (placing.program.image x) ≡ false
no_image placing a n x is above within span = by (nat_lt x addresses) refl
  where
    by : (t : Bool) → nat_lt x addresses ≡ t → is_own (placing.program.image x) ≡ false
    by true t =
        let e : raw x ≡ x = raw_flat x (is_below x addresses t) in
        let low : a ≤ raw x = span.low in
        let high : raw x < a + n = span.high in
        ap is_own (is.laid_out.image_apart x (omega (arith, above, low, e)) (omega (arith, within, high, e)))
    by false t = ap is_own (is.laid_out.image_below x (is_above x addresses t))

none_held : (n : ℕ) (placing : Placing) (m : MachineState) (address : ℕ) (homes : List ℕ)
    → held_from n placing m None address homes ≡ []
none_held zero placing m address homes = refl
none_held (suc n) placing m address homes = refl

-- ---- the first body

-- What is known of the begin of a program, whose first body's frame fits.
record Starting (placing : Placing) (front : Front) (root : Root) (item : ℕ) (body : LirBody) (m new : MachineState)
    : Type 0 where
  is : IsPlacing placing
  memory : HasProgram placing m
  start : placing.program.address_of Routine (number_of Start) ≡ Some m.pc
  first : placing.program.item_at root.body ≡ Some item
  body_there : placing.program.body_of item ≡ Some body
  image : (place : ℕ) → place < addresses
      → CellTellsNoMore (placing.program.image place) (cell_of (byte_in m.segments place))
  end : frames_end front root ≡ placing.program.stack_end
  begin : heap_begin front root ≡ placing.program.heap_begin
  bound : front.heap ≡ placing.program.heap_bound
  zeros : Bytes m placing.program.heap_begin (replicate placing.program.heap_bound 0)
  fits : body.frame ≤ placing.program.stack_bound
  enters : Enters m.pc front root body.frame m new
  registers : HasRegisters new

-- the address of its frame
abbrev frame_at : Placing → LirBody → ℕ
frame_at placing body = placing.program.stack_end - body.frame

room_there : (placing : Placing) (body : LirBody) → IsPlacing placing → body.frame ≤ placing.program.stack_bound
    → HasRoom placing (frame_at placing body) body
room_there placing body is fits =
    let order : placing.program.heap_begin + placing.program.heap_bound + placing.program.stack_bound
    ≡ placing.program.stack_end = is.laid_out.frames_behind_heap in
    record { above = omega (arith, order, fits); within = omega (arith, order, fits) }

argument_written : (lies variable : Bool) (q : ℕ) (outer memory : FlatMemory) (cells : List Cell)
    → option_and_then (λ mem. Some mem)
    (option_and_then (λ place. with_cells outer place cells) (cond lies (Some (cond variable (addresses + q) q)) None))
    ≡ Some memory
    → (lies ≡ true) × (with_cells outer (cond variable (addresses + q) q) cells ≡ Some memory)
argument_written true variable q outer memory cells e = (
  refl,
  by (with_cells outer (cond variable (addresses + q) q) cells) e,
)
  where
    by : (o : Option FlatMemory) → option_and_then (λ mem. Some mem) o ≡ Some memory → o ≡ Some memory
    by None e = cc
    by (Some mem) e = e
argument_written false variable q outer memory cells e = cc

-- the machine at the first body still has the program
new_program : (placing : Placing) (front : Front) (root : Root) (item : ℕ) (body : LirBody) (m new : MachineState)
    → Starting placing front root item body m new → HasProgram placing new
new_program placing front root item body m new s =
    let program : WordProgram = placing.program in
    let order : program.heap_begin + program.heap_bound + program.stack_bound ≡ program.stack_end =
    s.is.laid_out.frames_behind_heap in
    let behind : placing.lowest_data ≤ program.heap_begin = s.is.heap_behind_data in
    let end : frames_end front root ≡ program.stack_end = s.end in
    let fits : body.frame ≤ program.stack_bound = s.fits in
    program_written placing m new (argument_place front root body.frame) (little_bytes 8 root.argument) s.is s.memory
    s.enters.argument (omega (arith, order, behind, end, fits)) (bytes_small 0 8 root.argument)

-- the arguments of the first body are in its frame
filled : (placing : Placing) (front : Front) (root : Root) (item : ℕ) (body : LirBody) (given : List Given)
    (memory : FlatMemory) (m new : MachineState) → Starting placing front root item body m new
    → GivesArgument root.argument given
    → with_arguments body (frame_at placing body) given (with_frame body (frame_at placing body) placing.program.image)
    ≡ Some memory
    → IsFilled body (frame_at placing body) placing.program.image memory new
filled placing front root item body given memory m new s (inl none) e =
    let program : WordProgram = placing.program in
    let a : ℕ = frame_at placing body in
    let room : HasRoom placing a body = room_there placing body s.is s.fits in
    let above : program.heap_begin + program.heap_bound ≤ a = room.above in
    let within : a + body.frame ≤ program.stack_end = room.within in
    let top : program.stack_end ≤ addresses = s.is.laid_out.below in
    let program_new : HasProgram placing new = new_program placing front root item body m new s in
    let same : with_frame body a program.image ≡ memory =
    let q : Some (with_frame body a program.image) ≡ Some memory =
    ap (λ g. with_arguments body a g (with_frame body a program.image)) (sym none) ∙ e in cc in
    subst (λ mem. IsFilled body a program.image mem new) same
    (filled_first body a program.image new program_new.segments
    (may_read placing new a body a body.frame s.is program_new room (omega arith) (omega arith))
    (omega (arith, within, top))
    (λ x span. no_image placing a body.frame x s.is (omega (arith, above)) within span))
filled placing front root item body given memory m new s (inr one) e =
    let program : WordProgram = placing.program in
    let a : ℕ = frame_at placing body in
    let room : HasRoom placing a body = room_there placing body s.is s.fits in
    let above : program.heap_begin + program.heap_bound ≤ a = room.above in
    let within : a + body.frame ≤ program.stack_end = room.within in
    let top : program.stack_end ≤ addresses = s.is.laid_out.below in
    let bytes : List ℕ = little_bytes 8 root.argument in
    let size : length bytes ≡ 8 = length-bytes_low_first 0 8 root.argument in
    let cells : List Cell = cells_of 8 root.argument in
    let outer : FlatMemory = with_frame body a program.image in
    let q : ℕ = a + 128 + 8 * 8 in
    let written : option_and_then (λ mem. Some mem)
    (option_and_then (λ place. with_cells outer place cells) (place_in_frame body a (words_from 8 1))) ≡ Some memory =
    ap (λ g. with_arguments body a g outer) (sym one) ∙ e in
    let parts = argument_written (lies_in_frame body.frame (words_from 8 1)) (is_variable body (8 * 8 / 8)) q outer
    memory cells written in
    let ends : 128 + 8 * 8 + 8 ≤ body.frame = leb-true (128 + 8 * 8 + 8) body.frame parts.0 in
    let end : frames_end front root ≡ program.stack_end = s.end in
    let place_is : argument_place front root body.frame ≡ q = omega (arith, end) in
    filled_more body a program.image outer memory m new (is_variable body (8 * 8 / 8)) q bytes cells
    (filled_first body a program.image m s.memory.segments
    (may_read placing m a body a body.frame s.is s.memory room (omega arith) (omega arith)) (omega (arith, within, top))
    (λ x span. no_image placing a body.frame x s.is (omega (arith, above)) within span))
    (omega (arith, within, top)) (omega arith) (omega (arith, size, ends))
    (size_of_cells root.argument ∙ sym size) (all_itself bytes) parts.1
    (subst (λ x. Writes x bytes m new) place_is s.enters.argument)

-- ---- the first operation

-- The machine has entered the first body, and stands at its first operation.
stands_first : (placing : Placing) (front : Front) (root : Root) (item : ℕ) (body : LirBody) (given : List Given)
    (memory : FlatMemory) (m new : MachineState) → Starting placing front root item body m new
    → GivesArgument root.argument given
    → with_arguments body (frame_at placing body) given (with_frame body (frame_at placing body) placing.program.image)
    ≡ Some memory
    → (e : Entered placing root.body body (frame_at placing body) new)
    → Stands placing (pushed (word_start placing.program) item (frame_at placing body) None [] memory) e.new
stands_first placing front root item body given memory m new s argument written e =
    stands_pushed placing (word_start program) item body a None [] memory n [] held tt tt
    (memory_pushed placing item body a program.image memory new n [] s.is room e.program held is_filled e.keeps e.homes
    outside)
    used refl serves
    (bounds_more placing (word_start program) item body a None [] program.image memory new refl s.body_there top within
    is_filled bounds)
    (λ address named. subst (λ w. Number n a 8 w) (back address named) number)
  where
    program : WordProgram
    program = placing.program

    a : ℕ
    a = frame_at placing body

    n : MachineState
    n = e.new

    room : HasRoom placing a body
    room = room_there placing body s.is s.fits

    above : program.heap_begin + program.heap_bound ≤ a
    above = room.above

    order : program.heap_begin + program.heap_bound + program.stack_bound ≡ program.stack_end
    order = s.is.laid_out.frames_behind_heap

    fits : body.frame ≤ program.stack_bound
    fits = s.fits

    least : 192 ≤ body.frame
    least = body.frame_size.least

    begin : heap_begin front root ≡ program.heap_begin
    begin = s.begin

    heap_bound : front.heap ≡ program.heap_bound
    heap_bound = s.bound

    end : frames_end front root ≡ program.stack_end
    end = s.end

    top : program.stack_end ≡ a + body.frame
    top = omega (arith, order, fits)

    within : program.stack_end ≤ a + program.stack_bound
    within = omega (arith, order, fits)

    x26 : register n 26 ≡ program.heap_begin + program.heap_bound
    x26 =
        let there : register new 26 ≡ heap_begin front root + front.heap = s.enters.lowest in
        e.lowest ∙ there ∙ omega (arith, begin, heap_bound)

    x27 : register n 27 ≡ program.heap_begin
    x27 = e.heap ∙ s.enters.heap ∙ begin

    used : 0 ≡ register n 27 - program.heap_begin
    used = omega (arith, x27)

    is_filled : IsFilled body a program.image memory new
    is_filled = filled placing front root item body given memory m new s argument written

    bounds : IsInBounds program (record (word_start program) { memory = program.image })
    bounds = start_bounds placing s.is

    -- the one frame that there is
    callee : Held
    callee = held_at (first_spot item body) a (homes_in n)

    held : held_in placing n ≡ callee ∷ []
    held = by (program.stack_end - a) refl
      where
        by : (fuel : ℕ) → program.stack_end - a ≡ fuel → held_in placing n ≡ callee ∷ []
        by zero f = absurd (omega (arith, f, order, fits, least))
        by (suc count) f =
            ap (λ x. held_from (program.stack_end - x) placing n (stands_at placing n.pc) x (homes_in n)) e.frame
            ∙ ap (λ k. held_from k placing n (stands_at placing n.pc) a (homes_in n)) f
            ∙ ap (λ o. held_from (suc count) placing n o a (homes_in n))
            (first_there placing item root.body n.pc body s.is s.first s.body_there e.goes.pc)
            ∙ ap (λ t. callee ∷ held_from count placing n
            (cond t (waits_at placing (word_at n (a + return_at))) None) (a + body.frame) (homes_below n callee))
            (lt_false (a + body.frame) program.stack_end (omega (arith, top)))
            ∙ ap (λ hs. callee ∷ hs) (none_held count placing n (a + body.frame) (homes_below n callee))

    -- outside of the frame the image stands
    outside : (x : ℕ) → (InSpan a body.frame x → ⊥) → CellTellsNoMore (program.image x) (memory_in placing n x)
    outside x apart = by (program.image x) refl
      where
        some : (c : Cell) → program.image x ≡ c → (c ≡ Missing → ⊥)
            → CellTellsNoMore (program.image x) (memory_in placing n x)
        some c same other =
            let there = s.is.image_in_data x (λ none. other (sym same ∙ none)) in
            let high : x < program.heap_begin = there.1 in
            let below : program.stack_end ≤ addresses = s.is.laid_out.below in
            let low : x < addresses = omega (arith, high, order, below) in
            let place : argument_place front root body.frame ≡ a + 192 = omega (arith, end) in
            let at_new : CellTellsNoMore (program.image x) (cell_of (byte_in new.segments x)) =
            cell_kept m new (argument_place front root body.frame) (little_bytes 8 root.argument) s.enters.argument x
            (inl (omega (arith, high, above, place))) (program.image x) (s.image x low) in
            subst (λ t. CellTellsNoMore (program.image x)
            (cond t (cell_of (byte_in n.segments x)) (beyond n (held_in placing n) (x - addresses))))
            (sym (lt_true x addresses low))
            (cell_keeps a (a + 72) new n x e.keeps (inl (omega (arith, high, above))) (program.image x) at_new)

        by : (c : Cell) → program.image x ≡ c → CellTellsNoMore (program.image x) (memory_in placing n x)
        by Missing same = subst (λ c. CellTellsNoMore c (memory_in placing n x)) (sym same) tt
        by Unwritten same = some Unwritten same (λ q. let no : Unwritten ≡ Missing = q in cc)
        by (Byte b) same = some (Byte b) same (λ q. let no : Byte b ≡ Missing = q in cc)

    -- the heap is clear
    clear : HasClearHeap n
    clear =
        let at_new : HasClearHeap new =
        s.enters.clear (subst (λ x. Bytes m x (replicate front.heap 0)) (sym begin)
        (subst (λ k. Bytes m program.heap_begin (replicate k 0)) (sym heap_bound) s.zeros)) in
        let n26 : register n 26 ≡ register new 26 = e.lowest in
        let n27 : register n 27 ≡ register new 27 = e.heap in
        let size : register n 26 - register n 27 ≡ register new 26 - register new 27 =
        ap (λ k. k - register n 27) n26 ∙ ap (λ k. register new 26 - k) n27 in
        let count : ℕ = register new 26 - register new 27 in
        let length_is : length {A = ℕ} (replicate count 0) ≡ count = length-replicate count 0 in
        let new_order : register new 27 ≤ register new 26 = at_new.order in
        record {
          order = omega (arith, n26, n27, new_order);
          zeros = subst (λ x. Bytes n x (replicate (register n 26 - register n 27) 0)) (sym n27)
              (subst (λ k. Bytes n (register new 27) (replicate k 0)) (sym size)
              (e.keeps.kept (register new 27) (replicate count 0)
              (inl (omega (arith, length_is, new_order, n26, x26, above))) at_new.zeros));
        }

    serves : Serves placing n
    serves = record {
      registers = e.registers;
      memory = e.program;
      lowest = x26;
      heap = omega (arith, x27);
      clear = clear;
    }

    -- the body returns to the code of `start`
    number : Number n a 8 (word_at n a)
    number =
        let inside = in_data placing a body a 8 s.is room (omega arith) (omega (arith, least)) in
        number_there placing n a e.program
        (may_read placing n a body a 8 s.is e.program room (omega arith) (omega (arith, least))) inside.0 inside.1

    same_address : (x y : ℕ) → Some x ≡ Some y → x ≡ y
    same_address x y q = cc

    back : (address : ℕ) → program.address_of Routine (number_of Start) ≡ Some address → word_at n a ≡ address + 64
    back address named =
        let z : a ≡ a + return_at = omega arith in
        ap (word_at n) z ∙ e.back ∙ s.enters.back
        ∙ ap (λ x. x + 64) (same_address m.pc address (sym s.start ∙ named))

-- ---- the begin

-- in so many steps the machine comes to where a run is
abbrev ArrivesAt : Placing → MachineState → Streams → Run WordState WordCause → Type 0
ArrivesAt placing m streams run =
    (count : ℕ) × (count ≤ in_begin) × Related placing run (after machine_step count (Running m streams))

pub begun : (placing : Placing) → IsPlacing placing → IsBegun placing
begun placing is front root item body given m input loaded bytes =
    let found : ArrivesAt placing m streams (with (program.body_of item) streams
    (λ b. enters_body program (word_start program) item b None given [] streams)) =
    subst (λ o. ArrivesAt placing m streams (with o streams
    (λ b. enters_body program (word_start program) item b None given [] streams))) (sym loaded.body_there)
    (by (nat_lt program.stack_bound (stack_with program [] body)) refl) in
    record { count = found.0; few = found.1; related = found.2 }
  where
    program : WordProgram
    program = placing.program

    streams : Streams
    streams = record { input = input; output = []; error = [] }

    code : ℕ
    code = length (routine_code Start)

    same_address : (x y : ℕ) → Some x ≡ Some y → x ≡ y
    same_address x y q = cc

    below_data : m.pc + 4 * code ≤ placing.lowest_data
    below_data =
        let placed = is.routines Start in
        let same : placed.0 ≡ m.pc = same_address placed.0 m.pc (sym placed.1 ∙ loaded.start) in
        let end : placed.0 + 4 * code ≤ placing.lowest_data = placed.2 in
        omega (arith, same, end)

    order : program.heap_begin + program.heap_bound + program.stack_bound ≡ program.stack_end
    order = is.laid_out.frames_behind_heap

    behind : placing.lowest_data ≤ program.heap_begin
    behind = is.heap_behind_data

    room_behind : program.stack_end + 128 ≤ 2 ^ 64
    room_behind = is.room_behind

    end : frames_end front root ≡ program.stack_end
    end =
        let heap : heap_begin front root ≡ program.heap_begin = loaded.heap in
        let heap_bound : front.heap ≡ program.heap_bound = loaded.heap_bound in
        let stack_bound : front.stack ≡ program.stack_bound = loaded.stack_bound in
        omega (arith, order, heap, heap_bound, stack_bound)

    starts : Starts (routine_code Start)
    starts = has_effect Start

    -- the frame doesn't fit
    refuses : program.stack_bound < body.frame → ArrivesAt placing m streams (ends_with stack_text streams)
    refuses few =
        let stack_bound : front.stack ≡ program.stack_bound = loaded.stack_bound in
        let first : placing.lowest_data ≤ frames_end front root + 96 = omega (arith, end, order, behind) in
        let last : frames_end front root + 96 + 32 ≤ placing.lowest_data + data_bytes placing =
        omega (arith, end, order, behind) in
        let scratch : HasScratch (frames_end front root) m.pc code m = record {
          fits = omega (arith, end, room_behind);
          read = allowed_within (λ s. s.read) placing.lowest_data (data_bytes placing) (frames_end front root + 96) 32
              m.segments first last loaded.memory.read;
          write = allowed_within (λ s. s.write) placing.lowest_data (data_bytes placing) (frames_end front root + 96) 32
              m.segments first last loaded.memory.write;
          apart = inr (omega (arith, below_data, first));
        } in
        let e : EndsWithin 35 m streams 134 (with_error stack_text streams) =
        starts.refuses m.pc m streams front root body.frame loaded.begins (omega (arith, stack_bound, few)) scratch in
        let most : e.count ≤ 35 = e.few in (
          e.count,
          omega (arith, most),
          subst (Related placing (ends_with stack_text streams)) (sym e.ends)
              (AtEnd 134 (with_error stack_text streams)),
        )

    -- it does
    a : ℕ
    a = frame_at placing body

    enters : body.frame ≤ program.stack_bound → (o : Option FlatMemory)
        → with_arguments body a given (with_frame body a program.image) ≡ o
        → ArrivesAt placing m streams (with o streams (λ memory. Running
        (with_new_frame (word_start program) item a None [] memory)
        streams))
    enters fits None written = (0, omega arith, AtNoStep WordCause.NoStep streams (Running m streams))
    enters fits (Some memory) written =
        let stack_bound : front.stack ≡ program.stack_bound = loaded.stack_bound in
        let least : 192 ≤ body.frame = body.frame_size.least in
        let from : placing.lowest_data ≤ argument_place front root body.frame =
        omega (arith, end, order, behind, fits) in
        let upto : argument_place front root body.frame + 8 ≤ placing.lowest_data + data_bytes placing =
        omega (arith, end, order, behind, fits, least) in
        let room : StartRoom m.pc code front root body.frame m = record {
          fits = omega (arith, stack_bound, fits);
          write = allowed_within (λ s. s.write) placing.lowest_data (data_bytes placing)
              (argument_place front root body.frame) 8 m.segments from upto loaded.memory.write;
          apart = inr (omega (arith, below_data, from));
        } in
        let found = starts.enters m.pc m streams front root body.frame loaded.begins room in
        let new : MachineState = found.0 in
        let leads : LeadsWithin 16 m streams new streams = found.1 in
        let s : Starting placing front root item body m new = record {
          is = is;
          memory = loaded.memory;
          start = loaded.start;
          first = loaded.first;
          body_there = loaded.body_there;
          image = loaded.image;
          end = end;
          begin = loaded.heap;
          bound = loaded.heap_bound;
          zeros = loaded.zeros;
          fits = fits;
          enters = found.2;
          registers = leads.registers;
        } in
        let own : HasRoom placing a body = room_there placing body is fits in
        let top : register new 2 ≡ a + body.frame = found.2.stack ∙ omega (arith, end, order, fits) in
        let e : Entered placing root.body body a new =
        entered placing item root.body body a new is loaded.first loaded.body_there
        (new_program placing front root item body m new s) leads.registers found.2.pc own top in
        let state : WordState = pushed (word_start program) item a None [] memory in
        let few_1 : leads.count ≤ 16 = leads.few in
        let few_2 : e.count ≤ 45 = e.few in (
          leads.count + e.count,
          omega (arith, few_1, few_2),
          subst (Related placing (Running state streams))
              (sym (then_steps leads.count e.count (Running m streams) new streams (Running e.new streams) leads.leads
              (e.goes.runs streams)))
              (AtOperation state e.new streams
              (stands_first placing front root item body given memory m new s loaded.argument written e) bytes),
        )

    by : (t : Bool) → nat_lt program.stack_bound (stack_with program [] body) ≡ t
        → ArrivesAt placing m streams (cond t (ends_with stack_text streams)
        (with (with_arguments body a given (with_frame body a program.image)) streams
        (λ memory. Running (with_new_frame (word_start program) item a None [] memory) streams)))
    by true t =
        let few : program.stack_bound < (program.stack_end - program.stack_end) + body.frame =
        is_below program.stack_bound (stack_with program [] body) t in
        refuses (omega (arith, few))
    by false t =
        let enough : (program.stack_end - program.stack_end) + body.frame ≤ program.stack_bound =
        is_above program.stack_bound (stack_with program [] body) t in
        enters (omega (arith, enough)) (with_arguments body a given (with_frame body a program.image)) refl

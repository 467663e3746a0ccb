-- How a machine jumps into the body that it calls, and stands there where the program does.
use Rattle.std.proofs.Common.{◌++◌, ◌≡◌, ◌∙◌, ◌⊎◌, inl, inr, ℕ, zero, suc, ◌+◌, ◌-◌, ◌*◌, ◌^◌, ◌<◌, ◌≤◌, Bool, true}
use Rattle.std.proofs.Common.{false, ◌&&◌, ◌||◌, pos, ◌+ℤ◌, List, [], ◌∷◌, length, map, Option, Some, None, All}
use Rattle.std.proofs.Common.{arith, refl, ap, sym, subst, nat_lt}
use Rattle.std.specs.Prelude.{nat_le}
use Rattle.std.specs.List.{AllZip, list_any, flat_map, list_all, sum_by}
use Rattle.std.specs.Option.{option_and_then}
use Rattle.byteorder.specs.Endian.{little_bytes}
use Rattle.num_core.specs.Bits.{low_bits}
use Rattle.num_core.specs.Run.{Running, Streams, after}
use Rattle.num_core.specs.declared.fix.FixKind.TheVariants as kinds
use Rattle.rv_isa.specs.declared.ins.Ins.{Ins}
use Rattle.rv_step.specs.Machine.{MachineState, machine_step, next_pc, register, without_bit_0}
use Rattle.rv_step.specs.Memory.{AreApart, Bytes, MayRead, Number, Writes}
use Rattle.rv_step.proofs.Addresses.{read_bytes, readable}
use Rattle.rv_code.specs.Code.{CodeAt, given}
use Rattle.rv_code.specs.Registers.{HasRegisters}
use Rattle.rv_code.proofs.Going.{next_place, same_bytes, steps_at}
use Rattle.lir_core.specs.Calls.{cleared_here, lowest, Given, dictionary_of, given_by, with_arguments}
use Rattle.lir_core.specs.Check.{fits}
use Rattle.lir_core.specs.Layout.{AreStacked, FramesFit}
use Rattle.lir_core.specs.Memory.{FlatMemory, is_own, with_cells, zeros}
use Rattle.lir_core.specs.Pieces.{of_block, of_argument}
use Rattle.lir_core.specs.Program.{WordProgram, with}
use Rattle.lir_core.specs.Slots.{Here, addresses, place_here, with_frame}
use Rattle.lir_core.specs.State.{AnOperation, Frame, WordState}
use Rattle.lir_core.specs.Tells.{CellTellsNoMore, FrameTellsNoMore, WordTellsNoMore}
use Rattle.lir_core.specs.declared.body.LirBody.{LirBody}
use Rattle.lir_core.specs.declared.op.Block.{Block}
use Rattle.lir_core.proofs.MemoryLaws.{overwritten-elsewhere}
use Rattle.rt_code.proofs.Machines.{sum_of, then_steps, writes_between}
use Rattle.rv_lines.specs.Frame.{dictionary_at}
use Rattle.rv_lines.specs.declared.line.Line.{Line}
use Rattle.rv_lines.specs.declared.line.Line.TheVariants.{Single}
use Rattle.rv_words.specs.Linked.{linked}
use Rattle.rv_words.specs.Placing.{HasProgram, IsPlacing, Placing, Serves, data_bytes}
use Rattle.rv_words.specs.Stands.{IsInBounds, Stands, is_of, is_of_body, may_be_own, outermost}
use Rattle.rv_words.specs.Words.{frame_of, held_in, waits_at, word_at, words, width}
use Rattle.rv_words.proofs.Arguments.{CallOf, back_at, GivenTo, OnCall, WayOf, given_all, program_in}
use Rattle.rv_words.proofs.Aside.{none_between, none_beyond, stands_aside}
use Rattle.rv_words.proofs.Branches.{even_kept, has_all}
use Rattle.rv_words.proofs.Entering.{Entered, Keeps, entered, first_there}
use Rattle.rv_words.proofs.Filled.{InSpan, IsFilled, raw, raw_flat, raw_high, filled_first}
use Rattle.rv_words.proofs.Lines.{AtLines, first_part}
use Rattle.rv_words.proofs.Moved.{clear_same, program_same}
use Rattle.rv_words.proofs.Preparing.{Prepared, WithDictionary, given_dictionary, prepared}
use Rattle.rv_words.proofs.Pushed.{IsEntered, first_spot, frames_pushed, held_pushed, memory_pushed, outside_pushed}
use Rattle.rv_words.proofs.Pushed.{pushed, span_or_not, stands_pushed}
use Rattle.rv_words.proofs.Reading.{memory_told}
use Rattle.rv_words.proofs.Registers.{given_has, given_other, given_same}
use Rattle.rv_words.proofs.Results.{all_owned, written_where}
use Rattle.rv_words.proofs.Room.{HasRoom, in_data, may_read, below_all}
use Rattle.rv_words.proofs.Sites.{site}
use Rattle.rv_words.proofs.Slotted.{word_back}
use Rattle.rv_words.proofs.Standing.{InnerIn, held_at, homes_in, inner}
use Rattle.lir_core.specs.declared.op.Argument.{Argument}
use Rattle.rv_gen.specs.Calling.{clears_block, gives_argument, gives_dictionary}
use Rattle.rv_words.specs.Steps.{gives_words}
use Rattle.rv_words.proofs.LinkedCode.{size_of}
use Rattle.rv_words.proofs.Places.{far_of}

-- ---- memory behind the prologue

-- what is kept outside of a range is as if the range were written at once
pub writes_of : (low n : ℕ) (m new : MachineState) → Keeps low (low + n) m new → MayRead new low n
    → (bytes : List ℕ) × (length bytes ≡ n) × Writes low bytes m new
writes_of low n m new keeps may =
    let found = readable (λ s. s.read) low n new.segments may in
    let there : Bytes new low found.0 = read_bytes (λ s. s.read) new low n found.0 keeps.segments found.1 found.2 in (
      found.0,
      found.2,
      record {
        written = there;
        kept = λ other others apart bytes. keeps.kept other others (away found.0 found.2 (length others) other apart)
            bytes;
        allows = keeps.allows;
        segments = keeps.segments;
      },
    )
  where
    away : (bytes : List ℕ) → length bytes ≡ n → (k other : ℕ) → AreApart low (length bytes) other k
        → (other + k ≤ low) ⊎ (low + n ≤ other)
    away bytes size k other (inl before) = inr (omega (arith, before, size))
    away bytes size k other (inr behind) = inl behind

pub small_bytes : (placing : Placing) (m : MachineState) (low : ℕ) (bytes : List ℕ) → HasProgram placing m
    → placing.lowest_data ≤ low → low + length bytes ≤ placing.lowest_data + data_bytes placing → Bytes m low bytes
    → All (λ b. b < 256) bytes
small_bytes placing m low [] has from upto there k d h = absurd (omega (arith, h))
small_bytes placing m low (b ∷ bytes) has from upto there zero d h = has.small low b from (omega (arith, upto)) there.0
small_bytes placing m low (b ∷ bytes) has from upto there (suc k) d h =
    small_bytes placing m (low + 1) bytes has (omega (arith, from)) (omega (arith, upto)) there.1 k d (omega (arith, h))

-- ---- what a state tells, by parts

used_in : (placing : Placing) (state : WordState) (m : MachineState) → Stands placing state m
    → (state.heap_used ≡ register m 27 - placing.program.heap_begin) × (state.under_way ≡ AnOperation)
unfolding words
used_in placing state m stands = (stands.tells.heap_used, stands.tells.under_way)

frames_in : (placing : Placing) (state : WordState) (m : MachineState) → Stands placing state m
    → AllZip FrameTellsNoMore state.frames (map (frame_of m) (held_in placing m))
unfolding words
frames_in placing state m stands = stands.tells.frames

-- ---- bounds

-- one frame more fits
fits_more : (program : WordProgram) (item : ℕ) (body : LirBody) (a : ℕ) (dictionary : Option ℕ) (frames : List Frame)
    → program.body_of item ≡ Some body → lowest program frames ≡ a + body.frame
    → program.stack_end ≤ a + program.stack_bound → FramesFit program frames
    → FramesFit program (record { item = item; place = 0; address = a; dictionary = dictionary; entered = [] } ∷ frames)
fits_more program item body a dictionary frames there top within fits = record {
  stacked = (body, there, refl, subst (λ y. AreStacked program y frames) top fits.stacked);
  within = within;
}

or_true : (s t : Bool) → t ≡ true → (s || t) ≡ true
or_true true t e = refl
or_true false t e = e

or_first : (s t : Bool) → s ≡ true → (s || t) ≡ true
or_first true t e = refl
or_first false t e = absurd (let no : false ≡ true = e in cc)

one_more : (p q r : Bool) → (p || q) ≡ true → (p || (r || q)) ≡ true
one_more true q r e = refl
one_more false q r e = or_true r q e

-- what the program has is its own with the new frame
pub bounds_more : (placing : Placing) (state : WordState) (item : ℕ) (body : LirBody) (a : ℕ) (dictionary : Option ℕ)
    (frames : List Frame) (outer memory : FlatMemory) (w : MachineState) → state.frames ≡ frames
    → placing.program.body_of item ≡ Some body → lowest placing.program frames ≡ a + body.frame
    → placing.program.stack_end ≤ a + placing.program.stack_bound → IsFilled body a outer memory w
    → IsInBounds placing.program (record state { memory = outer })
    → IsInBounds placing.program (pushed state item a dictionary frames memory)
bounds_more placing state item body a dictionary frames outer memory w same there top within filled bounds = record {
  frames = fits_more program item body a dictionary frames there top within
      (subst (FramesFit program) same bounds.frames);
  heap = bounds.heap;
  memory = λ x own. elim (span_or_not a body.frame x)
      as (λ _. may_be_own program (pushed state item a dictionary frames memory) x ≡ true) [
        | inl span ↦ or_true (first x) (list_any (is_of program x) (new ∷ frames))
            (or_first (is_of program x new) (list_any (is_of program x) frames)
            (ap (λ o. is_of_body o a x) there ∙ filled.own x span own))
        | inr apart ↦ one_more (first x) (list_any (is_of program x) frames) (is_of program x new)
            (subst (λ fs. (first x || list_any (is_of program x) fs) ≡ true) same
            (bounds.memory x (ap is_own (sym (filled.outside x apart)) ∙ own)))
      ];
}
  where
    program : WordProgram
    program = placing.program

    new : Frame
    new = record { item = item; place = 0; address = a; dictionary = dictionary; entered = [] }

    first : ℕ → Bool
    first x =
        is_own (program.image x)
        || (nat_le program.heap_begin x && nat_lt x (program.heap_begin + state.heap_used))

-- ---- where the machine jumps from

-- what is cleared was own
cleared_own : (here : Here) (block : Block) (own : FlatMemory) (x : ℕ) → cleared_here here block ≡ Some own
    → is_own (own x) ≡ true → is_own (here.state.memory x) ≡ true
cleared_own here block own x e is = by (place_here here (of_block block)) e
  where
    three_places : (p n : ℕ) → (x < p) ⊎ (((p ≤ x) × (x < p + n)) ⊎ (p + n ≤ x))
    three_places p n = grind arith

    by : (o : Option ℕ)
        → option_and_then (λ p. with_cells here.state.memory p (zeros (8 * block.words))) o ≡ Some own
        → is_own (here.state.memory x) ≡ true
    by None e' = cc
    by (Some p) e' =
        let cells = zeros (8 * block.words) in
        let parts = written_where here.state.memory own p cells e' in
        let other : (x < p) ⊎ (p + length cells ≤ x) → is_own (here.state.memory x) ≡ true =
        λ apart. ap is_own (sym (overwritten-elsewhere here.state.memory p cells x apart))
        ∙ ap (λ mem. is_own (mem x)) parts.1 ∙ is in
        elim (three_places p (length cells)) as (λ _. is_own (here.state.memory x) ≡ true) [
          | inl before ↦ other (inl before)
          | inr (inl inside) ↦ all_owned here.state.memory p (length cells) parts.0 x inside.0 inside.1
          | inr (inr behind) ↦ other (inr behind)
        ]

-- The program has nothing where the frame is to be.
pub nothing_there : (x : CallOf) (block : Block) (own : FlatMemory) → cleared_here x.here block ≡ Some own
    → IsInBounds x.placing.program x.here.state
    → lowest x.placing.program x.here.state.frames ≡ x.here.frame.address
    → (y : ℕ) → InSpan x.a x.callee.frame y → is_own (own y) ≡ false
nothing_there x block own e bounds low y span = by (is_own (own y)) refl
  where
    above : x.placing.program.heap_begin + x.placing.program.heap_bound ≤ x.a
    above = x.room.above

    within : x.a + x.callee.frame ≤ x.placing.program.stack_end
    within = x.room.within

    top : x.here.frame.address ≡ x.a + x.callee.frame
    top = x.top

    from : x.a ≤ raw y
    from = span.low

    upto : raw y < x.a + x.callee.frame
    upto = span.high

    either_kind : (y < addresses) ⊎ (addresses ≤ y)
    either_kind = grind arith

    nothing : is_own (x.here.state.memory y) ≡ false
    nothing = elim either_kind as (λ _. is_own (x.here.state.memory y) ≡ false) [
      | inl flat ↦
          let e' : raw y ≡ y = raw_flat y flat in
          none_between x.placing x.here.state y x.is bounds (omega (arith, above, from, e'))
          (omega (arith, upto, e', low, top)) (omega (arith, upto, e', within))
      | inr beyond ↦
          let e' : raw y ≡ y - addresses = raw_high y beyond in
          none_beyond x.placing x.here.state y x.is bounds beyond (omega (arith, upto, e', low, top))
    ]

    by : (b : Bool) → is_own (own y) ≡ b → b ≡ false
    by false e' = refl
    by true e' = absurd (let no : true ≡ false = sym (cleared_own x.here block own y e e') ∙ nothing in cc)

-- ---- into the body

-- The machine has jumped to the body, and stands at its first operation.
pub record Called (x : CallOf) (item : ℕ) (word : Option ℕ) (own memory : FlatMemory) (most : ℕ) (streams : Streams)
    : Type 0 where
  pub n : MachineState
  pub count : ℕ
  pub some : 0 < count
  pub few : count ≤ most
  pub runs : after machine_step count (Running x.m streams) ≡ Running n streams
  pub stands : Stands x.placing
      (pushed (record x.here.state { memory = own }) item x.a word (x.here.frame ∷ x.here.below) memory) n

pub called : (x : CallOf) (item ret most : ℕ) (word : Option ℕ) (own memory : FlatMemory) (lines rest : List Line)
    (streams : Streams) → x.placing.program.item_at x.c ≡ Some item
    → x.placing.program.body_of item ≡ Some x.callee → x.here.state.frames ≡ x.here.frame ∷ x.here.below
    → waits_at x.placing ret ≡ Some x.site.i.here
    → x.placing.program.stack_end ≤ x.a + x.placing.program.stack_bound
    → (p : Prepared x own memory own word most lines (Single (Ins.Jalr 1 30 (pos 0)) ∷ rest))
    → ret ≡ x.begin + 4 * (p.way.place + 1)
    → Called x item word own memory (most + 46) streams
called x item ret most word own memory lines rest streams item_there body_there frames waits bound p ret_is = record {
  n = n;
  count = p.way.count + (1 + e.count);
  some = omega arith;
  few = omega (arith, few, few_more);
  runs = then_steps p.way.count (1 + e.count) (Running x.m streams) p.w streams (Running n streams)
      (p.way.goes.runs streams)
      (then_steps 1 e.count (Running p.w streams) j streams (Running n streams) jumped (e.goes.runs streams));
  stands = stands_pushed x.placing state item x.callee x.a word all memory n (held_in x.placing v) held
      (frames_pushed x.placing v n all refl (subst (λ fs. AllZip FrameTellsNoMore fs (map (frame_of v)
      (held_in x.placing v))) frames (frames_in x.placing state v stands_v)))
      (dictionary_told word refl)
      (memory_pushed x.placing item x.callee x.a own memory p.w n (held_in x.placing v) x.is x.room e.program held
      p.filled
      keeps_w e.homes
      (λ y apart. subst (CellTellsNoMore (own y)) (sym (outside_pushed x.placing v n item x.callee x.a refl held y
      apart))
      (memory_told x.placing state v stands_v y)))
      ((used_in x.placing state v stands_v).0 ∙ ap (λ h. h - x.placing.program.heap_begin) (sym x27))
      (used_in x.placing state v stands_v).1 serves
      (bounds_more x.placing state item x.callee x.a word all own memory p.w frames body_there low bound p.filled
      stands_v.bounds)
      (λ address is_start. same_bytes v n (outermost x.here.frame.address x.here.below) (little_bytes 8 (address +
      64)) refl
      (subst (λ fs. Number v (outermost (lowest x.placing.program fs) fs) 8 (address + 64)) frames
      (stands_v.start address is_start)));
}
  where
    program : WordProgram
    program = x.placing.program

    code : List Ins
    code = linked program x.begin x.here.body

    all : List Frame
    all = x.here.frame ∷ x.here.below

    state : WordState
    state = record x.here.state { memory = own }

    few : p.way.count ≤ most
    few = p.way.few

    -- the jump
    at : AtLines program x.begin x.here.body p.way.far p.way.place (Single (Ins.Jalr 1 30 (pos 0)) ∷ rest) p.w
    at = p.way.at

    first : AtLines program x.begin x.here.body p.way.far p.way.place (Single (Ins.Jalr 1 30 (pos 0)) ∷ []) p.w
    first =
        first_part program x.begin x.here.body p.way.far p.way.place (Single (Ins.Jalr 1 30 (pos 0)) ∷ []) rest p.w at

    own_code : CodeAt x.c (linked program x.c x.callee) p.w
    own_code =
        (program_same x.placing (back_at x p.w) p.w refl p.stands.serves.memory).code item x.c x.callee item_there
        body_there

    target : without_bit_0 (low_bits 64 (pos (register p.w 30) +ℤ pos 0)) ≡ x.c
    target =
        let fits_there : x.c + 4 * length (linked program x.c x.callee) < 2 ^ 64 = own_code.fits in
        let z : x.c + 0 ≡ x.c = omega arith in
        ap (λ y. without_bit_0 (low_bits 64 (pos y +ℤ pos 0))) p.callee
        ∙ ap without_bit_0 (sum_of x.c 0 (omega (arith, fits_there)) ∙ z) ∙ even_kept x.c own_code.aligned

    g : MachineState
    g = given 1 (next_pc p.w) p.w

    j : MachineState
    j = record g { pc = x.c }

    jumped : after machine_step 1 (Running p.w streams) ≡ Running j streams
    jumped =
        steps_at x.begin code p.way.place (Ins.Jalr 1 30 (pos 0)) p.w streams at.code_at at.pc first.block.0
        first.legal.0
        ∙ ap (λ y. Running (record g { pc = y }) streams) target

    next_is : next_pc p.w ≡ ret
    next_is =
        next_place x.begin code p.way.place (Ins.Jalr 1 30 (pos 0)) p.w at.code_at at.pc first.block.0 ∙ sym ret_is

    has_w : HasRegisters p.w
    has_w = at.registers

    next_fits : next_pc p.w < 2 ^ 64
    next_fits = omega arith

    has_j : HasRegisters j
    has_j = has_all g x.c (given_has 1 (next_pc p.w) p.w next_fits has_w)

    x1 : register j 1 ≡ ret
    x1 = given_same 1 (next_pc p.w) p.w (omega arith) (omega arith) has_w ∙ next_is

    other : (q : ℕ) → (q ≡ 1 → ⊥) → register j q ≡ register p.w q
    other q ne = given_other 1 q (next_pc p.w) p.w ne

    -- the program before it
    frame_is : register p.w 2 ≡ x.here.frame.address
    frame_is =
        let i : InnerIn x.placing (back_at x p.w) x.here.frame x.here.below =
        inner x.placing state (back_at x p.w) x.here.frame x.here.below p.stands frames in
        sym i.first.address

    top : x.here.frame.address ≡ x.a + x.callee.frame
    top = x.top

    program_j : HasProgram x.placing j
    program_j = program_same x.placing (back_at x p.w) j refl p.stands.serves.memory

    e : Entered x.placing x.c x.callee x.a j
    e =
        entered x.placing item x.c x.callee x.a j x.is item_there body_there program_j has_j refl x.room
        (other 2 (λ q. omega (arith, q)) ∙ frame_is ∙ top)

    few_more : e.count ≤ 45
    few_more = e.few

    n : MachineState
    n = e.new

    -- the machine that waits, with the memory behind the prologue
    v : MachineState
    v = record p.w { pc = x.m.pc; segments = n.segments }

    least : 192 ≤ x.callee.frame
    least = x.callee.frame_size.least

    in_it : (x.placing.lowest_data ≤ x.a) × (x.a + 72 ≤ x.placing.lowest_data + data_bytes x.placing)
    in_it = in_data x.placing x.a x.callee x.a 72 x.is x.room (omega arith) (omega (arith, least))

    keeps_w : Keeps x.a (x.a + 72) p.w n
    keeps_w = record {
      kept = e.keeps.kept;
      allows = λ from count. record {
        read = (e.keeps.allows from count).read;
        write = (e.keeps.allows from count).write;
        execute = (e.keeps.allows from count).execute;
      };
      segments = e.keeps.segments;
    }

    w : (bytes : List ℕ) × (length bytes ≡ 72) × Writes x.a bytes p.w n
    w =
        writes_of x.a 72 p.w n keeps_w
        (may_read x.placing n x.a x.callee x.a 72 x.is e.program x.room (omega arith) (omega (arith, least)))

    stands_v : Stands x.placing state v
    stands_v =
        let size : length w.0 ≡ 72 = w.1 in
        let lowest_is : register p.w 26 ≡ program.heap_begin + program.heap_bound = p.stands.serves.lowest in
        let above : program.heap_begin + program.heap_bound ≤ x.a = x.room.above in
        stands_aside x.placing state (back_at x p.w) v x.here.frame x.here.below x.a w.0 x.is p.stands frames refl
        (writes_between x.a w.0 p.w (back_at x p.w) n v refl refl w.2)
        (record { frame = refl; homes = λ k h. refl; lowest = refl; heap = refl })
        (record { count = has_w.count; x0 = has_w.x0; words = has_w.words })
        (small_bytes x.placing n x.a w.0 e.program in_it.0 (omega (arith, size, in_it.1)) w.2.written)
        (omega (arith, lowest_is, above)) (omega (arith, size, frame_is, top, least))

    is_entered : IsEntered x.placing v n item x.callee x.a x.site.i.here
    is_entered = record {
      memory = refl;
      waits = x.site.i.is;
      spot = first_there x.placing item x.c n.pc x.callee x.is item_there body_there e.goes.pc;
      frame = e.frame;
      top = frame_is ∙ top;
      within = let room : x.here.frame.address + x.here.body.frame ≤ program.stack_end = x.own_room.within in
          let some_frame : 192 ≤ x.here.body.frame = x.here.body.frame_size.least in
          omega (arith, frame_is, room, some_frame);
      back = ap (waits_at x.placing) (e.back ∙ x1) ∙ waits;
      saves = λ k less. e.saves k less ∙ other (18 + k) (λ q. omega (arith, q));
      others = λ k from less. e.others k from less ∙ other (18 + k) (λ q. omega (arith, q));
    }

    held : held_in x.placing n ≡ held_at (first_spot item x.callee) x.a (homes_in n) ∷ held_in x.placing v
    held = held_pushed x.placing v n item x.callee x.a x.site.i.here is_entered

    x26 : register n 26 ≡ register v 26
    x26 = e.lowest ∙ other 26 (λ q. omega (arith, q))

    x27 : register n 27 ≡ register v 27
    x27 = e.heap ∙ other 27 (λ q. omega (arith, q))

    serves : Serves x.placing n
    serves = record {
      registers = e.registers;
      memory = e.program;
      lowest = x26 ∙ stands_v.serves.lowest;
      heap = subst (λ h. program.heap_begin ≤ h) (sym x27) stands_v.serves.heap;
      clear = clear_same v n refl x26 x27 stands_v.serves.clear;
    }

    low : lowest program all ≡ x.a + x.callee.frame
    low = top

    dictionary_told : (o : Option ℕ) → word ≡ o → WordTellsNoMore o (Some (word_at n (x.a + dictionary_at)))
    dictionary_told None given_it = tt
    dictionary_told (Some value) given_it =
        let there = p.dictionary value given_it in
        let now : Number n (x.a + 72) 8 value =
        e.keeps.kept (x.a + 72) (little_bytes 8 value) (inr (omega arith)) there.0 in
        ap Some (word_back n (x.a + 72) value there.1 now)

-- ---- all behind the frame to be

behind_place : (k n w place last : ℕ) → n ≡ w → k + n ≡ place + last → last ≡ 1 → k + w ≡ place + 1
behind_place k n w place last e e' e'' = omega (arith, e, e', e'')

all_steps : (n sum words : ℕ) → n ≤ 0 + 4 + 5 + sum + 5 + (6 + 3 * words) + 46 → n ≤ 66 + sum + 3 * words
all_steps n sum words h = omega (arith, h)

no_less : (n : ℕ) → n ≤ n
no_less n = omega arith

below_top : (placing : Placing) (a : ℕ) (body : LirBody) → IsPlacing placing → HasRoom placing a body
    → a + body.frame ≤ addresses
below_top placing a body is room =
    let end : a + body.frame + 128 ≤ addresses = below_all placing a body is room in omega (arith, end)

-- The machine gives arguments and dictionary, clears slots, and enters the body.
pub called_from : (x : CallOf) (item : ℕ) (arguments : List Argument) (all_given : List Given)
    (dictionary word : Option ℕ) (cleared : Block) (own memory : FlatMemory) (lines : List Line) (w : MachineState)
    (streams : Streams) → x.placing.program.item_at x.c ≡ Some item
    → x.placing.program.body_of item ≡ Some x.callee → x.here.state.frames ≡ x.here.frame ∷ x.here.below
    → IsInBounds x.placing.program x.here.state
    → waits_at x.placing (x.begin + 4 * (x.site.k + width lines)) ≡ Some x.site.i.here
    → x.placing.program.stack_end ≤ x.a + x.placing.program.stack_bound → OnCall x w
    → WayOf x (0 + 4 + 5) lines (flat_map (gives_argument x.here.body.vars) arguments
    ++ (gives_dictionary x.here.body.vars dictionary ++ (clears_block x.here.body.vars cleared
    ++ Single (Ins.Jalr 1 30 (pos 0)) ∷ []))) w
    → size_of (far_of x.here.body) x.site.far_at lines ≡ width lines
    → list_all (fits x.here.body) (map of_argument arguments) ≡ true → fits x.here.body (of_block cleared) ≡ true
    → given_by x.here arguments ≡ Some all_given → dictionary_of x.here dictionary ≡ Some word
    → cleared_here x.here cleared ≡ Some own
    → with_arguments x.callee x.a all_given (with_frame x.callee x.a own) ≡ Some memory
    → Called x item word own memory (66 + sum_by gives_words arguments + 3 * cleared.words) streams
called_from x item arguments all_given dictionary word cleared own memory lines w streams item_there body_there frames
    bounds waits bound on way widths arguments_fit cleared_fits given_is word_is own_is memory_is =
    let vars : List ℕ = x.here.body.vars in
    let sum : ℕ = sum_by gives_words arguments in
    let jump : List Line = Single (Ins.Jalr 1 30 (pos 0)) ∷ [] in
    let to_clear : List Line = clears_block vars cleared ++ jump in
    let to_dictionary : List Line = gives_dictionary vars dictionary ++ to_clear in
    let has : HasProgram x.placing w = program_in x w on in
    let filled : IsFilled x.callee x.a own (with_frame x.callee x.a own) w =
    filled_first x.callee x.a own w has.segments
    (may_read x.placing w x.a x.callee x.a x.callee.frame x.is has x.room (no_less x.a)
    (no_less (x.a + x.callee.frame)))
    (below_top x.placing x.a x.callee x.is x.room)
    (nothing_there x cleared own own_is bounds (ap (lowest x.placing.program) frames)) in
    let gave : GivenTo x own memory (0 + 4 + 5 + sum) lines to_dictionary =
    given_all x arguments all_given (0 + 4 + 5) own (with_frame x.callee x.a own) memory lines to_dictionary w on
    filled way
    arguments_fit given_is memory_is in
    let d : WithDictionary x own memory word (0 + 4 + 5 + sum + 5) lines to_clear =
    given_dictionary x dictionary word (0 + 4 + 5 + sum) own memory lines to_clear gave.w gave.on gave.filled gave.way
    word_is in
    let p : Prepared x own memory own word (0 + 4 + 5 + sum + 5 + (6 + 3 * cleared.words)) lines jump =
    prepared x own memory own word cleared (0 + 4 + 5 + sum + 5) lines jump d.w d.on d.filled d.dictionary d.way
    cleared_fits own_is in
    let last : size_of (far_of x.here.body) p.way.far jump ≡ 1 = refl in
    let place : x.site.k + width lines ≡ p.way.place + 1 =
    behind_place x.site.k (size_of (far_of x.here.body) x.site.far_at lines) (width lines) p.way.place
    (size_of (far_of x.here.body) p.way.far jump) widths p.way.size last in
    let c : Called x item word own memory (0 + 4 + 5 + sum + 5 + (6 + 3 * cleared.words) + 46) streams =
    called x item (x.begin + 4 * (x.site.k + width lines)) (0 + 4 + 5 + sum + 5 + (6 + 3 * cleared.words)) word own
    memory
    lines [] streams item_there body_there frames waits bound p (ap (λ k. x.begin + 4 * k) place) in
    record {
      n = c.n;
      count = c.count;
      some = c.some;
      few = all_steps c.count sum cleared.words c.few;
      runs = c.runs;
      stands = c.stands;
    }

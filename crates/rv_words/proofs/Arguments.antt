-- The arguments that a call gives: words of its own frame that go to slots of the frame to be.
use Rattle.std.proofs.Common.{◌≡◌, ◌∙◌, inl, inr, ℕ, zero, suc, ◌+◌, ◌-◌, ◌*◌, ◌/◌, ◌^◌, ◌<◌, ◌≤◌, Bool, true, false}
use Rattle.std.proofs.Common.{cond, ◌==◌, pos, ◌+ℤ◌, List, [], ◌∷◌, ◌++◌, length, map, Option, Some, None, All, arith}
use Rattle.std.proofs.Common.{refl, ap, sym, subst, nat_lt, slice_index, append_assoc}
use Rattle.std.specs.Prelude.{unwrap_or}
use Rattle.std.specs.List.{AllZip, flat_map, list_all, sum_by}
use Rattle.std.specs.Option.{option_and_then, option_map}
use Rattle.std.proofs.lemmas.Bool.{leb-true}
use Rattle.std.proofs.lemmas.Bool.Decides.{nat_tests}
use Rattle.std.proofs.lemmas.List.Sums.{sum_by-cons}
use Rattle.byteorder.specs.Endian.{little_bytes}
use Rattle.byteorder.specs.Numbers.{length-bytes_low_first}
use Rattle.num_core.specs.Bits.{low_bits}
use Rattle.num_core.specs.declared.kind.Narrow.TheVariants.{I8}
use Rattle.rv_isa.specs.declared.ins.Ins.{Ins}
use Rattle.rv_step.specs.Machine.{MachineState, bytes_at, register}
use Rattle.rv_step.specs.Memory.{AreApart, Bytes, MayRead, MayWrite, Writes, byte_in}
use Rattle.rv_step.proofs.Addresses.{at_each, read_bytes, readable}
use Rattle.rv_code.specs.Registers.{HasRegisters}
use Rattle.rv_code.proofs.Going.{same_bytes}
use Rattle.rt_code.proofs.Machines.{sum_of, writes_between}
use Rattle.lir_core.specs.Calls.{Given, cells_here, given_by, with_arguments}
use Rattle.lir_core.specs.Check.{fits, is_whole_or_apart, lies_in_frame}
use Rattle.lir_core.specs.Memory.{Byte, Cell, FlatMemory, cells_from, copied, with_cells}
use Rattle.lir_core.specs.Pieces.{of_argument, words_from}
use Rattle.lir_core.specs.Program.{WordProgram}
use Rattle.lir_core.specs.Slots.{Here, addresses, is_variable, place_in_frame}
use Rattle.lir_core.specs.Tells.{CellTellsNoMore}
use Rattle.lir_core.specs.declared.body.LirBody.{LirBody}
use Rattle.lir_core.specs.declared.op.Argument.{Argument}
use Rattle.lir_core.specs.declared.op.LirOp.{LirOp}
use Rattle.lir_core.proofs.Sound.{first_of, second_of}
use Rattle.lir_core.proofs.Telling.{all_from}
use Rattle.rv_lines.specs.Frame.{home, slot_place}
use Rattle.rv_lines.specs.Moving.{passes_words}
use Rattle.rv_lines.specs.Operands.{gets_address, reads_slot, register_or, stores_behind}
use Rattle.rv_lines.specs.declared.line.Line.{Line}
use Rattle.rv_gen.specs.Calling.{gives_argument}
use Rattle.rv_gen.specs.Placing.{code_of}
use Rattle.rv_words.specs.Groups.{IsAt}
use Rattle.rv_words.specs.Linked.{linked}
use Rattle.rv_words.specs.Placing.{HasProgram, IsPlacing, Placing, data_bytes}
use Rattle.rv_words.specs.Stands.{Stands}
use Rattle.rv_words.specs.Steps.{gives_words}
use Rattle.rv_words.specs.Words.{beyond, cell_of, held_in, memory_in}
use Rattle.rv_words.proofs.Aside.{stands_aside, stands_still}
use Rattle.rv_words.proofs.Branches.{has_all}
use Rattle.rv_words.proofs.Bytes.{cells_are, length_cells}
use Rattle.rv_words.proofs.ConstantCode.{address_code, address_short, address_singles, got_address}
use Rattle.rv_words.proofs.Filled.{IsFilled, filled_more, raw}
use Rattle.rv_words.proofs.Got.{Got, got_is, got_keeps}
use Rattle.rv_words.proofs.Homes.{home_bound}
use Rattle.rv_words.proofs.LoadLaws.{holds_of_one, whole_of}
use Rattle.rv_words.proofs.MoveLaws.{SlotCells, copied_are, slot_cells}
use Rattle.rv_words.proofs.Moved.{KeepsOwn, program_same}
use Rattle.rv_words.proofs.Operands.{PastOne, free_5, free_6, past_operand, slot_still}
use Rattle.rv_words.proofs.Passing.{AreSmall, CanPass, IsAside, PastBytes, are_small, aside_keeps, few_words_within}
use Rattle.rv_words.proofs.Passing.{past_words}
use Rattle.rv_words.proofs.PlaceStores.{PutNumber, put_code, put_number, put_short, put_singles}
use Rattle.rv_words.proofs.Reading.{SlotStands, memory_told, small_byte}
use Rattle.rv_words.proofs.Results.{writing}
use Rattle.rv_words.proofs.Room.{HasRoom, below_all, in_data, may_read, may_write}
use Rattle.rv_words.proofs.Sites.{Site, linked_length, site}
use Rattle.rv_words.proofs.Slotted.{bytes_small}
use Rattle.rv_words.proofs.Ways.{Way, way_by, way_code, way_more, way_past, way_same}

-- ---- a call on its way

-- A call: the machine that came to it, the address of the code that it calls, and where the frame to be lies.
pub record CallOf : Type 0 where
  pub placing : Placing
  pub here : Here
  pub operation : LirOp
  pub begin : ℕ
  pub m : MachineState
  pub is : IsPlacing placing
  pub site : Site placing here operation begin m
  pub c : ℕ
  pub a : ℕ
  pub callee : LirBody
  pub room : HasRoom placing a callee
  pub own_room : HasRoom placing here.frame.address here.body
  pub top : here.frame.address ≡ a + callee.frame

-- the machine with the pc where the call begins
abbrev pub back_at : CallOf → MachineState → MachineState
back_at x w = record w { pc = x.m.pc }

-- It stands where the program does, but for its pc, and has the two addresses in x30 and x31.
pub record OnCall (x : CallOf) (w : MachineState) : Type 0 where
  pub at : IsAt x.placing x.here x.operation x.begin (back_at x w)
  pub callee : register w 30 ≡ x.c
  pub frame : register w 31 ≡ x.a

abbrev pub WayOf : CallOf → ℕ → List Line → List Line → MachineState → Type 0
WayOf x most lines rest w =
    Way x.placing.program x.begin x.here.body x.site.far_at x.site.k most lines rest x.m w

pub keeps_back : (x : CallOf) (w w' : MachineState) → KeepsOwn w w' → KeepsOwn (back_at x w) (back_at x w')
keeps_back x w w' keeps =
    record { frame = keeps.frame; homes = keeps.homes; lowest = keeps.lowest; heap = keeps.heap }

at_back : (x : CallOf) (w w' : MachineState) → IsAt x.placing x.here x.operation x.begin (back_at x w)
    → Stands x.placing x.here.state (back_at x w') → IsAt x.placing x.here x.operation x.begin (back_at x w')
at_back x w w' at stands = record {
  program = at.program;
  frames = at.frames;
  body = at.body;
  operation_there = at.operation_there;
  around = at.around;
  stands = stands;
}

-- so it is where registers have got words that the program doesn't see
pub on_kept : (x : CallOf) (w w' : MachineState) → OnCall x w → w'.segments ≡ w.segments → KeepsOwn w w'
    → register w' 30 ≡ register w 30 → register w' 31 ≡ register w 31 → HasRegisters w' → OnCall x w'
on_kept x w w' on memory keeps x30 x31 has = record {
  at = at_back x w w' on.at
      (stands_still x.placing x.here.state (back_at x w) (back_at x w') x.here.frame x.here.below on.at.stands
      on.at.frames
      refl memory (keeps_back x w w' keeps) (has_all w' x.m.pc has));
  callee = x30 ∙ on.callee;
  frame = x31 ∙ on.frame;
}

-- the address of the frame that calls
pub own_frame : (x : CallOf) (w : MachineState) → OnCall x w → register w 2 ≡ x.here.frame.address
own_frame x w on =
    let s : Site x.placing x.here x.operation x.begin (back_at x w) =
    site x.placing x.here x.operation x.begin (back_at x w) x.is on.at in
    sym s.i.first.address

-- and where bytes were written in the frame to be
pub on_written : (x : CallOf) (w w' : MachineState) (p : ℕ) (bytes : List ℕ) → OnCall x w → Writes p bytes w w'
    → KeepsOwn w w' → register w' 30 ≡ register w 30 → register w' 31 ≡ register w 31 → HasRegisters w'
    → All (λ b. b < 256) bytes → x.a ≤ p → p + length bytes ≤ x.a + x.callee.frame → OnCall x w'
on_written x w w' p bytes on writes keeps x30 x31 has small low high =
    let lowest : register w 26 ≡ x.placing.program.heap_begin + x.placing.program.heap_bound =
    on.at.stands.serves.lowest
    in
    let above : x.placing.program.heap_begin + x.placing.program.heap_bound ≤ x.a = x.room.above in
    let top : x.here.frame.address ≡ x.a + x.callee.frame = x.top in
    record {
      at = at_back x w w' on.at
          (stands_aside x.placing x.here.state (back_at x w) (back_at x w') x.here.frame x.here.below p bytes x.is
          on.at.stands on.at.frames refl (writes_between p bytes w (back_at x w) w' (back_at x w') refl refl writes)
          (keeps_back x w w' keeps) (has_all w' x.m.pc has) small (omega (arith, lowest, above, low))
          (omega (arith, own_frame x w on, top, high)));
      callee = x30 ∙ on.callee;
      frame = x31 ∙ on.frame;
    }

-- what stands in its memory
pub program_in : (x : CallOf) (w : MachineState) → OnCall x w → HasProgram x.placing w
program_in x w on = program_same x.placing (back_at x w) w refl on.at.stands.serves.memory

pub filled_same : (body : LirBody) (a : ℕ) (outer memory : FlatMemory) (w w' : MachineState)
    → w'.segments ≡ w.segments → IsFilled body a outer memory w → IsFilled body a outer memory w'
filled_same body a outer memory w w' e filled = record {
  told = λ y of_frame. subst (λ ss. CellTellsNoMore (memory y) (cell_of (byte_in ss (raw y)))) (sym e)
      (filled.told y of_frame);
  own = filled.own;
  outside = filled.outside;
}

-- The machine has given arguments, and is at the lines behind.
pub record GivenTo (x : CallOf) (outer memory : FlatMemory) (most : ℕ) (lines rest : List Line) : Type 0 where
  pub w : MachineState
  pub on : OnCall x w
  pub filled : IsFilled x.callee x.a outer memory w
  pub way : WayOf x most lines rest w

-- the code lies in front of all that is written
pub code_apart : (x : CallOf) (p n : ℕ) → x.placing.lowest_data ≤ p
    → AreApart p n x.begin (4 * length (linked x.placing.program x.begin x.here.body))
code_apart x p n low =
    let below : x.begin + 4 * length (code_of x.here.body) ≤ x.placing.lowest_data = x.site.placed.below_data in
    inr (omega (arith, below, low, linked_length x.placing.program x.begin x.here.body))

-- ---- one word

pub not_28 : (vars : List ℕ) (slot : ℕ) (o : Option ℕ) → home vars slot ≡ o → register_or o 5 ≡ 28 → ⊥
not_28 vars slot (Some r) e same =
    let bound = home_bound vars slot r e in
    let less : r < 26 = bound.2 in
    omega (arith, same, less)
not_28 vars slot None e same = omega (arith, same)

given_word : (x : CallOf) (from to most : ℕ) (cells : List Cell) (outer memory new : FlatMemory)
    (lines rest : List Line) (w : MachineState) → OnCall x w → IsFilled x.callee x.a outer memory w
    → WayOf x most lines ((reads_slot (home x.here.body.vars from) 5 from
    ++ stores_behind I8 (register_or (home x.here.body.vars from) 5) 31 (slot_place to)) ++ rest) w
    → cells_here x.here (words_from from 1) ≡ Some cells
    → option_and_then (λ p. with_cells memory p cells) (place_in_frame x.callee x.a (words_from to 1)) ≡ Some new
    → GivenTo x outer new (most + 8) lines rest
given_word x from to most cells outer memory new lines rest w on filled way told written =
    let program = x.placing.program in
    let body : LirBody = x.here.body in
    let code : List Ins = linked program x.begin body in
    let r : ℕ = register_or (home body.vars from) 5 in
    let reads : List Line = reads_slot (home body.vars from) 5 from in
    let stores : List Line = stores_behind I8 r 31 (slot_place to) in
    let s : Site x.placing x.here x.operation x.begin (back_at x w) =
    site x.placing x.here x.operation x.begin (back_at x w) x.is on.at in
    let sc : SlotCells x.placing x.here (back_at x w) from cells =
    slot_cells x.placing x.here x.operation x.begin (back_at x w) from cells x.is on.at s told in
    let value : ℕ = sc.own.word in
    let has_w : HasRegisters w = way.at.registers in
    let stands : SlotStands w body.vars from value =
    slot_still (back_at x w) w body.vars from value (record {
      frame = refl;
      homes = λ k h. refl;
      lowest = refl;
      heap = refl;
    }) refl sc.own.stands in
    let first : WayOf x most lines (reads ++ (stores ++ rest)) w =
    way_same program x.begin body x.site.far_at x.site.k most lines ((reads ++ stores) ++ rest)
    (reads ++ (stores ++ rest)) x.m w (append_assoc reads stores rest) way in
    let p : PastOne program x.begin body first.far first.place 5 r value (reads ++ (stores ++ rest)) (stores ++ rest)
    w =
    past_operand program x.begin body first.far first.place 5 from value (stores ++ rest) w first.at stands free_5
    (omega arith) (omega arith) in
    let w1 : MachineState = p.past.new in
    let second : WayOf x (most + 4) lines (stores ++ rest) w1 =
    way_past program x.begin body x.site.far_at x.site.k most 4 lines (reads ++ (stores ++ rest)) (stores ++ rest) x.m w
    first p.past in
    let on1 : OnCall x w1 =
    on_kept x w w1 on p.memory p.keeps (p.others 30 (λ e. omega (arith, e)) (λ e. omega (arith, e)))
    (p.others 31 (λ e. omega (arith, e)) (λ e. omega (arith, e))) second.at.registers in
    let found = writing (lies_in_frame x.callee.frame (words_from to 1)) (is_variable x.callee (8 * to / 8))
    (x.a + 128 + 8 * to) memory new cells written in
    let ends : 128 + 8 * to + 8 * 1 ≤ x.callee.frame = leb-true (128 + 8 * to + 8 * 1) x.callee.frame found.0 in
    let q : ℕ = x.a + slot_place to in
    let most_frame : x.callee.frame ≤ 65536 = x.callee.frame_size.greatest in
    let high : x.a + x.callee.frame + 128 ≤ addresses = below_all x.placing x.a x.callee x.is x.room in
    let has1 : HasProgram x.placing w1 = program_in x w1 on1 in
    let may : MayWrite w1 q 8 =
    may_write x.placing w1 x.a x.callee q 8 x.is has1 x.room (omega arith) (omega (arith, ends)) in
    let inside = in_data x.placing x.a x.callee q 8 x.is x.room (omega arith) (omega (arith, ends)) in
    let ins : List Ins = put_code I8 r 31 (slot_place to) in
    let blocks = way_code program x.begin body x.site.far_at x.site.k (most + 4) lines stores rest ins x.m w1 second
    (put_singles I8 r 31 (slot_place to)) in
    let put : PutNumber x.begin code (second.place + length ins) (length ins) q 8 value w1 =
    put_number x.begin code second.place I8 r 31 (slot_place to) x.a q value w1 second.at.code_at second.at.pc blocks.0
    blocks.1 (not_28 body.vars from (home body.vars from) refl) (λ e. omega (arith, e)) p.has on1.frame
    (sum_of x.a (slot_place to) (omega (arith, high, ends))) (omega (arith, high, ends)) (omega (
      arith,
      ends,
      most_frame,
    ))
    may (code_apart x q 8 inside.0) second.at.registers in
    let few : put.steps ≤ length ins = put.few in
    let short : length ins ≤ 4 = put_short I8 r 31 (slot_place to) (omega (arith, ends, most_frame)) in
    let size : length (little_bytes 8 value) ≡ 8 = length-bytes_low_first 0 8 value in
    let where_it_is : x.a + 128 + 8 * to ≡ q = omega arith in
    let enough : most + 4 + 4 ≤ most + 8 = omega arith in
    record {
      w = put.new;
      on = on_written x w1 put.new q (little_bytes 8 value) on1 put.writes put.keeps (put.others 30 (λ e. omega
          (arith, e)))
          (put.others 31 (λ e. omega (arith, e))) put.registers (bytes_small 0 8 value) (omega arith)
          (omega (arith, size, ends));
      filled = filled_more x.callee x.a outer memory new w1 put.new (is_variable x.callee (8 * to / 8)) q
          (little_bytes 8 value) cells (filled_same x.callee x.a outer memory w w1 p.memory filled)
          (omega (arith, high)) (omega arith) (omega (arith, size, ends)) (sc.size ∙ sym size) sc.told
          (subst (λ y. with_cells memory (cond (is_variable x.callee (8 * to / 8)) (addresses + y) y) cells ≡ Some new)
          where_it_is found.1) put.writes;
      way = way_more program x.begin body x.site.far_at x.site.k (most + 4 + 4) (most + 8) lines rest x.m put.new enough
          (way_by program x.begin body x.site.far_at x.site.k (most + 4) 4 put.steps lines stores rest ins x.m w1
          put.new
          second (put_singles I8 r 31 (slot_place to)) put.goes put.registers (omega (arith, few, short)));
    }

-- ---- some words, or none

-- Bytes of the frame that calls, where no variable is: they stand at their addresses.
pub record WordsThere (x : CallOf) (w : MachineState) (from words : ℕ) (cells : List Cell) : Type 0 where
  pub bytes : List ℕ
  pub size : length bytes ≡ 8 * words
  pub there : Bytes w (x.here.frame.address + slot_place from) bytes
  pub small : AreSmall bytes
  pub same : length cells ≡ length bytes
  pub told : AllZip CellTellsNoMore cells (map Byte bytes)

copying_of : (lies beyond_all : Bool) (a n : ℕ) (memory : FlatMemory) (cells : List Cell)
    → option_and_then (λ p. copied memory p n) (cond lies (Some (cond beyond_all (addresses + a) a)) None) ≡ Some cells
    → (lies ≡ true) × (copied memory (cond beyond_all (addresses + a) a) n ≡ Some cells)
copying_of true beyond_all a n memory cells e = (refl, e)
copying_of false beyond_all a n memory cells e = cc

lt_true : (y z : ℕ) → y < z → nat_lt y z ≡ true
lt_true y z h = grind (arith, nat_tests)

words_there : (x : CallOf) (w : MachineState) (from words : ℕ) (cells : List Cell) → OnCall x w
    → (words ≡ 1 → ⊥) → fits x.here.body (words_from from words) ≡ true
    → cells_here x.here (words_from from words) ≡ Some cells → WordsThere x w from words cells
words_there x w from words cells on other fit told = record {
  bytes = found.0;
  size = found.2;
  there = there;
  small = are_small found.0 small;
  same = sym (ap length are) ∙ length_cells x.here.state.memory p (8 * words) ∙ sym found.2;
  told = cells_told words refl;
}
  where
    body : LirBody
    body = x.here.body

    q : ℕ
    q = x.here.frame.address + slot_place from

    parts : (lies_in_frame body.frame (words_from from words) ≡ true)
        × (copied x.here.state.memory (cond (is_variable body (8 * from / 8))
        (addresses + (x.here.frame.address + 128 + 8 * from)) (x.here.frame.address + 128 + 8 * from)) (8 * words)
        ≡ Some cells)
    parts =
        copying_of (lies_in_frame body.frame (words_from from words)) (is_variable body (8 * from / 8))
        (x.here.frame.address + 128 + 8 * from) (8 * words) x.here.state.memory cells told

    p : ℕ
    p = cond (is_variable body (8 * from / 8)) (addresses + (x.here.frame.address + 128 + 8 * from))
        (x.here.frame.address + 128 + 8 * from)

    ends : 128 + 8 * from + 8 * words ≤ body.frame
    ends = leb-true (128 + 8 * from + 8 * words) body.frame parts.0

    has : HasProgram x.placing w
    has = program_in x w on

    may : MayRead w q (8 * words)
    may =
        may_read x.placing w x.here.frame.address body q (8 * words) x.is has x.own_room (omega arith)
        (omega (arith, ends))

    inside : (x.placing.lowest_data ≤ q) × (q + 8 * words ≤ x.placing.lowest_data + data_bytes x.placing)
    inside =
        in_data x.placing x.here.frame.address body q (8 * words) x.is x.own_room (omega arith) (omega (arith, ends))

    found : (bytes : List ℕ) × (bytes_at (λ t. t.read) q (8 * words) w.segments ≡ Some bytes)
        × (length bytes ≡ 8 * words)
    found = readable (λ t. t.read) q (8 * words) w.segments may

    there : Bytes w q found.0
    there = read_bytes (λ t. t.read) w q (8 * words) found.0 has.segments found.1 found.2

    byte : (k : ℕ) → k < length found.0 → byte_in w.segments (q + k) ≡ Some (slice_index found.0 k)
    byte k h =
        let back : q + k - q ≡ k = omega arith in
        at_each w q found.0 there (q + k) (omega arith) (omega (arith, h)) ∙ ap (λ i. Some (slice_index found.0 i)) back

    small : (k : ℕ) → k < length found.0 → slice_index found.0 k < 256
    small k h =
        subst (λ o. unwrap_or o 0 < 256) (byte k h)
        (small_byte x.placing w (q + k) has (omega (arith, inside.0)) (omega (arith, inside.1, h, found.2)))

    are : cells_from x.here.state.memory p (8 * words) ≡ cells
    are = copied_are x.here.state.memory p (8 * words) cells parts.1

    -- a variable would be the one word
    never : 0 < 8 * words → is_variable body (8 * from / 8) ≡ true → ⊥
    never some variable =
        let index : 8 * from / 8 ≡ from = omega arith in
        let whole = whole_of (8 * from) (8 * words) (8 * from / 8) refl some
        (holds_of_one (is_whole_or_apart (words_from from words)) body.vars (8 * from / 8)
        (second_of (lies_in_frame body.frame (words_from from words)) (list_all (is_whole_or_apart (words_from from
        words)) body.vars) fit) variable) in
        other (omega (arith, whole.1))

    top : x.here.frame.address + body.frame + 128 ≤ addresses
    top = below_all x.placing x.here.frame.address body x.is x.own_room

    flat : is_variable body (8 * from / 8) ≡ false → AllZip CellTellsNoMore cells (map Byte found.0)
    flat none =
        let p_is : p ≡ q =
        let sum : x.here.frame.address + 128 + 8 * from ≡ q = omega arith in
        ap (λ b. cond b (addresses + (x.here.frame.address + 128 + 8 * from)) (x.here.frame.address + 128 + 8 * from))
        none
        ∙ sum in
        let cell : (j : ℕ) → j < length found.0
        → memory_in x.placing (back_at x w) (q + j) ≡ Byte (slice_index found.0 j) =
        λ j less. ap (λ t. cond t (cell_of (byte_in w.segments (q + j)))
        (beyond (back_at x w) (held_in x.placing (back_at x w)) (q + j - addresses)))
        (lt_true (q + j) addresses (omega (arith, less, found.2, ends, top))) ∙ ap cell_of (byte j less) in
        let mine : cells_from (memory_in x.placing (back_at x w)) q (8 * words) ≡ map Byte found.0 =
        subst (λ n. cells_from (memory_in x.placing (back_at x w)) q n ≡ map Byte found.0) found.2
        (cells_are (memory_in x.placing (back_at x w)) q found.0 cell) in
        subst (λ cs. AllZip CellTellsNoMore cs (map Byte found.0)) are
        (subst (AllZip CellTellsNoMore (cells_from x.here.state.memory p (8 * words)))
        (ap (λ y. cells_from (memory_in x.placing (back_at x w)) y (8 * words)) p_is ∙ mine)
        (all_from x.here.state.memory (memory_in x.placing (back_at x w))
        (memory_told x.placing x.here.state (back_at x w) on.at.stands) p (8 * words)))

    by_variable : 0 < 8 * words → (b : Bool) → is_variable body (8 * from / 8) ≡ b
        → AllZip CellTellsNoMore cells (map Byte found.0)
    by_variable some true e = absurd (never some e)
    by_variable some false e = flat e

    nothing : (cs : List Cell) (bs : List ℕ) → length cs ≡ 0 → length bs ≡ 0 → AllZip CellTellsNoMore cs (map Byte bs)
    nothing [] [] e e' = tt
    nothing [] (b ∷ bs) e e' = absurd (omega (arith, e'))
    nothing (c ∷ cs) bs e e' = absurd (omega (arith, e))

    cells_told : (n : ℕ) → words ≡ n → AllZip CellTellsNoMore cells (map Byte found.0)
    cells_told zero e =
        let count : length cells ≡ 8 * words = sym (ap length are) ∙ length_cells x.here.state.memory p (8 * words) in
        nothing cells found.0 (omega (arith, count, e)) (omega (arith, found.2, e))
    cells_told (suc n) e = by_variable (omega (arith, e)) (is_variable body (8 * from / 8)) refl

-- numbers of registers and of steps, over plain variables
differ_30_5 : ◌≡◌ {A = ℕ} 30 5 → ⊥
differ_30_5 e = omega (arith, e)

differ_30_28 : ◌≡◌ {A = ℕ} 30 28 → ⊥
differ_30_28 e = omega (arith, e)

differ_31_5 : ◌≡◌ {A = ℕ} 31 5 → ⊥
differ_31_5 e = omega (arith, e)

differ_31_28 : ◌≡◌ {A = ℕ} 31 28 → ⊥
differ_31_28 e = omega (arith, e)

differ_30_6 : ◌≡◌ {A = ℕ} 30 6 → ⊥
differ_30_6 e = omega (arith, e)

differ_31_6 : ◌≡◌ {A = ℕ} 31 6 → ⊥
differ_31_6 e = omega (arith, e)

differ_5_6 : ◌≡◌ {A = ℕ} 5 6 → ⊥
differ_5_6 e = omega (arith, e)

differ_5_28 : ◌≡◌ {A = ℕ} 5 28 → ⊥
differ_5_28 e = omega (arith, e)

differ_2_28 : ◌≡◌ {A = ℕ} 2 28 → ⊥
differ_2_28 e = omega (arith, e)

some_5 : ◌<◌ 0 5
some_5 = omega arith

few_5 : ◌<◌ 5 32
few_5 = omega arith

some_6 : ◌<◌ 0 6
some_6 = omega arith

few_6 : ◌<◌ 6 32
few_6 = omega arith

few_steps : (n k : ℕ) → n ≤ k → k ≤ 3 → n ≤ 3
few_steps n k h h' = omega (arith, h, h')

steps_in_all : (most words : ℕ) → most + 3 + 3 + (3 + 5 * words) ≤ most + (9 + 5 * words)
steps_in_all most words = omega arith

slot_is : (a to : ℕ) → a + 128 + 8 * to ≡ a + slot_place to
slot_is a to = omega arith

slot_behind : (a to : ℕ) → a ≤ a + slot_place to
slot_behind a to = omega arith

slot_within : (a to n words frame : ℕ) → n ≡ 8 * words → 128 + 8 * to + 8 * words ≤ frame
    → a + slot_place to + n ≤ a + frame
slot_within a to n words frame e h = omega (arith, e, h)

slot_below : (a to words frame b from : ℕ) → b ≡ a + frame → 128 + 8 * to + 8 * words ≤ frame
    → a + slot_place to ≤ b + slot_place from
slot_below a to words frame b from e h = omega (arith, e, h)

given_words : (x : CallOf) (from to words most : ℕ) (cells : List Cell) (outer memory new : FlatMemory)
    (lines rest : List Line) (w : MachineState) → OnCall x w → IsFilled x.callee x.a outer memory w
    → WayOf x most lines ((gets_address 5 2 (slot_place from)
    ++ (gets_address 6 31 (slot_place to) ++ passes_words words)) ++ rest) w
    → (words ≡ 1 → ⊥) → fits x.here.body (words_from from words) ≡ true
    → cells_here x.here (words_from from words) ≡ Some cells
    → option_and_then (λ p. with_cells memory p cells) (place_in_frame x.callee x.a (words_from to words)) ≡ Some new
    → GivenTo x outer new (most + (9 + 5 * words)) lines rest
given_words x from to words most cells outer memory new lines rest w on filled way other fit told written =
    let program = x.placing.program in
    let body : LirBody = x.here.body in
    let code : List Ins = linked program x.begin body in
    let first_lines : List Line = gets_address 5 2 (slot_place from) in
    let second_lines : List Line = gets_address 6 31 (slot_place to) in
    let third_lines : List Line = passes_words words in
    let there : WordsThere x w from words cells = words_there x w from words cells on other fit told in
    let found = writing (lies_in_frame x.callee.frame (words_from to words)) (is_variable x.callee (8 * to / 8))
    (x.a + 128 + 8 * to) memory new cells written in
    let ends : 128 + 8 * to + 8 * words ≤ x.callee.frame = leb-true (128 + 8 * to + 8 * words) x.callee.frame found.0 in
    let lies : lies_in_frame body.frame (words_from from words) ≡ true =
    first_of (lies_in_frame body.frame (words_from from words))
    (list_all (is_whole_or_apart (words_from from words)) body.vars) fit in
    let own_ends : 128 + 8 * from + 8 * words ≤ body.frame = leb-true (128 + 8 * from + 8 * words) body.frame lies in
    let most_frame : x.callee.frame ≤ 65536 = x.callee.frame_size.greatest in
    let own_most : body.frame ≤ 65536 = body.frame_size.greatest in
    let high : x.a + x.callee.frame + 128 ≤ addresses = below_all x.placing x.a x.callee x.is x.room in
    let own_high : x.here.frame.address + body.frame + 128 ≤ addresses =
    below_all x.placing x.here.frame.address body x.is x.own_room in
    let top : x.here.frame.address ≡ x.a + x.callee.frame = x.top in
    let src : ℕ = x.here.frame.address + slot_place from in
    let dst : ℕ = x.a + slot_place to in
    let size : length there.bytes ≡ 8 * words = there.size in
    let below_top : x.a + x.callee.frame ≤ addresses = omega (arith, high) in
    let dst_low : x.a ≤ dst = slot_behind x.a to in
    let dst_high : dst + length there.bytes ≤ x.a + x.callee.frame =
    slot_within x.a to (length there.bytes) words x.callee.frame size ends in
    let src_low : x.here.frame.address ≤ src = slot_behind x.here.frame.address from in
    let src_high : src + length there.bytes ≤ x.here.frame.address + body.frame =
    slot_within x.here.frame.address from (length there.bytes) words body.frame size own_ends in
    let dst_below : dst ≤ src = slot_below x.a to words x.callee.frame x.here.frame.address from top ends in
    let src_fits : src + length there.bytes < 2 ^ 64 = omega (arith, own_high, src_high) in
    let dst_fits : dst + length there.bytes < 2 ^ 64 = omega (arith, high, dst_high) in
    let few_words : 8 * words < 2 ^ 31 = omega (arith, ends, most_frame) in
    let to_near : slot_place to < 2 ^ 31 = omega (arith, ends, most_frame) in
    let from_near : slot_place from < 2 ^ 31 = omega (arith, own_ends, own_most) in
    let to_small : slot_place to < 2 ^ 64 = omega (arith, ends, most_frame) in
    let from_small : slot_place from < 2 ^ 64 = omega (arith, own_ends, own_most) in
    let src_sum : low_bits 64 (pos x.here.frame.address +ℤ pos (slot_place from)) ≡ src =
    sum_of x.here.frame.address (slot_place from) (omega (arith, own_high, own_ends)) in
    let dst_sum : low_bits 64 (pos x.a +ℤ pos (slot_place to)) ≡ dst =
    sum_of x.a (slot_place to) (omega (arith, high, ends)) in
    -- the address of the words
    let way0 : WayOf x most lines (first_lines ++ (second_lines ++ (third_lines ++ rest))) w =
    way_same program x.begin body x.site.far_at x.site.k most lines
    ((first_lines ++ (second_lines ++ third_lines)) ++ rest) (first_lines ++ (second_lines ++ (third_lines ++ rest)))
    x.m w
    (append_assoc first_lines (second_lines ++ third_lines) rest
    ∙ ap (λ xs. first_lines ++ xs) (append_assoc second_lines third_lines rest)) way in
    let ins1 : List Ins = address_code 5 2 (slot_place from) in
    let blocks1 = way_code program x.begin body x.site.far_at x.site.k most lines first_lines
    (second_lines ++ (third_lines ++ rest)) ins1 x.m w way0 (address_singles 5 2 (slot_place from)) in
    let g1 : Got x.begin code (way0.place + length ins1) (length ins1) 5 src w =
    got_is x.begin code (way0.place + length ins1) (length ins1) 5
    (low_bits 64 (pos x.here.frame.address +ℤ pos (slot_place from))) src w
    src_sum
    (got_address x.begin code way0.place 5 2 (slot_place from) x.here.frame.address w way0.at.code_at way0.at.pc
    blocks1.0
    blocks1.1 some_5 few_5 differ_2_28 (own_frame x w on) from_small way0.at.registers) in
    let short1 : length ins1 ≤ 3 = address_short 5 2 (slot_place from) from_near in
    let few1 : g1.count ≤ length ins1 = g1.few in
    let way1 : WayOf x (most + 3) lines (second_lines ++ (third_lines ++ rest)) g1.new =
    way_by program x.begin body x.site.far_at x.site.k most 3 g1.count lines first_lines
    (second_lines ++ (third_lines ++ rest)) ins1 x.m w g1.new way0 (address_singles 5 2 (slot_place from)) g1.goes
    g1.registers (few_steps g1.count (length ins1) few1 short1) in
    let on1 : OnCall x g1.new =
    on_kept x w g1.new on g1.memory (got_keeps x.begin code (way0.place + length ins1) (length ins1) 5 src w free_5 g1)
    (g1.others 30 differ_30_5 differ_30_28)
    (g1.others 31 differ_31_5 differ_31_28) g1.registers in
    -- where they go
    let ins2 : List Ins = address_code 6 31 (slot_place to) in
    let blocks2 = way_code program x.begin body x.site.far_at x.site.k (most + 3) lines second_lines (third_lines ++
    rest)
    ins2 x.m g1.new way1 (address_singles 6 31 (slot_place to)) in
    let g2 : Got x.begin code (way1.place + length ins2) (length ins2) 6 dst g1.new =
    got_is x.begin code (way1.place + length ins2) (length ins2) 6 (low_bits 64 (pos x.a +ℤ pos (slot_place to))) dst
    g1.new dst_sum
    (got_address x.begin code way1.place 6 31 (slot_place to) x.a g1.new way1.at.code_at way1.at.pc blocks2.0 blocks2.1
    some_6 few_6 differ_31_28 on1.frame to_small way1.at.registers) in
    let short2 : length ins2 ≤ 3 = address_short 6 31 (slot_place to) to_near in
    let few2 : g2.count ≤ length ins2 = g2.few in
    let way2 : WayOf x (most + 3 + 3) lines (third_lines ++ rest) g2.new =
    way_by program x.begin body x.site.far_at x.site.k (most + 3) 3 g2.count lines second_lines (third_lines ++ rest)
    ins2
    x.m g1.new g2.new way1 (address_singles 6 31 (slot_place to)) g2.goes g2.registers
    (few_steps g2.count (length ins2) few2 short2) in
    let on2 : OnCall x g2.new =
    on_kept x g1.new g2.new on1 g2.memory
    (got_keeps x.begin code (way1.place + length ins2) (length ins2) 6 dst g1.new free_6 g2)
    (g2.others 30 differ_30_6 differ_30_28)
    (g2.others 31 differ_31_6 differ_31_28) g2.registers in
    -- the words
    let memory_2 : g2.new.segments ≡ w.segments = g2.memory ∙ g1.memory in
    let has2 : HasProgram x.placing g2.new = program_in x g2.new on2 in
    let read_there : MayRead g2.new src (length there.bytes) =
    may_read x.placing g2.new x.here.frame.address body src (length there.bytes) x.is has2 x.own_room src_low
    src_high in
    let write_there : MayWrite g2.new dst (length there.bytes) =
    may_write x.placing g2.new x.a x.callee dst (length there.bytes) x.is has2 x.room dst_low
    dst_high in
    let dst_in = in_data x.placing x.a x.callee dst (length there.bytes) x.is x.room dst_low dst_high
    in
    let can : CanPass x.begin code src dst there.bytes g2.new = record {
      read = read_there;
      write = write_there;
      there = same_bytes w g2.new src there.bytes memory_2 there.there;
      small = there.small;
      order = inl dst_below;
      from_fits = src_fits;
      to_fits = dst_fits;
      apart = code_apart x dst (length there.bytes) dst_in.0;
    } in
    let x5 : register g2.new 5 ≡ src = g2.others 5 differ_5_6 differ_5_28 ∙ g1.has in
    let p : PastBytes program x.begin body way2.far way2.place (3 + 5 * words) src dst there.bytes (third_lines ++ rest)
    rest g2.new =
    past_words program x.begin body way2.far way2.place words src dst (3 + 5 * words) there.bytes rest g2.new way2.at x5
    g2.has can size (few_words_within words few_words) in
    let w3 : MachineState = p.past.new in
    let way3 : WayOf x (most + 3 + 3 + (3 + 5 * words)) lines rest w3 =
    way_past program x.begin body x.site.far_at x.site.k (most + 3 + 3) (3 + 5 * words) lines (third_lines ++ rest) rest
    x.m g2.new way2 p.past in
    let enough : most + 3 + 3 + (3 + 5 * words) ≤ most + (9 + 5 * words) = steps_in_all most words in
    let where_it_is : x.a + 128 + 8 * to ≡ dst = slot_is x.a to in
    record {
      w = w3;
      on = on_written x g2.new w3 dst there.bytes on2 p.writes (aside_keeps g2.new w3 p.others)
          (p.others 30 aside_30 differ_30_28) (p.others 31 aside_31 differ_31_28)
          way3.at.registers (all_small there.bytes there.small) dst_low dst_high;
      filled = filled_more x.callee x.a outer memory new g2.new w3 (is_variable x.callee (8 * to / 8)) dst there.bytes
          cells (filled_same x.callee x.a outer memory w g2.new memory_2 filled) below_top dst_low dst_high there.same
          there.told
          (subst (λ y. with_cells memory (cond (is_variable x.callee (8 * to / 8)) (addresses + y) y) cells ≡ Some new)
          where_it_is found.1) p.writes;
      way = way_more program x.begin body x.site.far_at x.site.k (most + 3 + 3 + (3 + 5 * words))
          (most + (9 + 5 * words)) lines rest x.m w3 enough way3;
    }
  where
    aside_30 : IsAside 30
    aside_30 = record {
      not_5 = λ e. omega (arith, e);
      not_6 = λ e. omega (arith, e);
      not_7 = λ e. omega (arith, e);
    }

    aside_31 : IsAside 31
    aside_31 = record {
      not_5 = λ e. omega (arith, e);
      not_6 = λ e. omega (arith, e);
      not_7 = λ e. omega (arith, e);
    }

    all_small : (bytes : List ℕ) → AreSmall bytes → All (λ b. b < 256) bytes
    all_small [] small k d h = absurd (omega (arith, h))
    all_small (b ∷ bytes) small zero d h = small.0
    all_small (b ∷ bytes) small (suc k) d h = all_small bytes small.1 k d (omega (arith, h))

-- ---- one argument, and all

is_one : (n : ℕ) → (n == 1) ≡ true → n ≡ 1
is_one n e = grind (arith, nat_tests)

not_one : (n : ℕ) → (n == 1) ≡ false → n ≡ 1 → ⊥
not_one n e h = grind (arith, nat_tests)

given_one : (x : CallOf) (argument : Argument) (most : ℕ) (cells : List Cell) (outer memory new : FlatMemory)
    (lines rest : List Line) (w : MachineState) → OnCall x w → IsFilled x.callee x.a outer memory w
    → WayOf x most lines (gives_argument x.here.body.vars argument ++ rest) w
    → fits x.here.body (of_argument argument) ≡ true → cells_here x.here (of_argument argument) ≡ Some cells
    → option_and_then (λ p. with_cells memory p cells)
    (place_in_frame x.callee x.a (words_from argument.to argument.words)) ≡ Some new
    → GivenTo x outer new (most + gives_words argument) lines rest
given_one x argument most cells outer memory new lines rest w on filled way fit told written =
    by (argument.words == 1) refl way
  where
    vars : List ℕ
    vars = x.here.body.vars

    one : List Line
    one =
        reads_slot (home vars argument.from) 5 argument.from
        ++ stores_behind I8 (register_or (home vars argument.from) 5) 31 (slot_place argument.to)

    some : List Line
    some =
        gets_address 5 2 (slot_place argument.from)
        ++ (gets_address 6 31 (slot_place argument.to) ++ passes_words argument.words)

    by : (b : Bool) → (argument.words == 1) ≡ b → WayOf x most lines (cond b one some ++ rest) w
        → GivenTo x outer new (most + cond b 8 (9 + 5 * argument.words)) lines rest
    by true e way =
        let words : argument.words ≡ 1 = is_one argument.words e in
        given_word x argument.from argument.to most cells outer memory new lines rest w on filled way
        (subst (λ n. cells_here x.here (words_from argument.from n) ≡ Some cells) words told)
        (subst (λ n. option_and_then (λ p. with_cells memory p cells)
        (place_in_frame x.callee x.a (words_from argument.to n)) ≡ Some new) words written)
    by false e way =
        given_words x argument.from argument.to argument.words most cells outer memory new lines rest w on filled way
        (not_one argument.words e) fit told written

pub given_all : (x : CallOf) (arguments : List Argument) (given : List Given) (most : ℕ)
    (outer memory new : FlatMemory) (lines rest : List Line) (w : MachineState) → OnCall x w
    → IsFilled x.callee x.a outer memory w
    → WayOf x most lines (flat_map (gives_argument x.here.body.vars) arguments ++ rest) w
    → list_all (fits x.here.body) (map of_argument arguments) ≡ true → given_by x.here arguments ≡ Some given
    → with_arguments x.callee x.a given memory ≡ Some new
    → GivenTo x outer new (most + sum_by gives_words arguments) lines rest
given_all x [] given most outer memory new lines rest w on filled way fit told written =
    let none : given ≡ [] = cc in
    let same : memory ≡ new =
    let e : Some memory ≡ Some new = sym (ap (λ gs. with_arguments x.callee x.a gs memory) none) ∙ written in cc in
    let enough : most ≤ most + 0 = omega arith in
    record {
      w = w;
      on = on;
      filled = subst (λ mem. IsFilled x.callee x.a outer mem w) same filled;
      way = way_more x.placing.program x.begin x.here.body x.site.far_at x.site.k most (most + 0) lines rest x.m w
          enough
          way;
    }
given_all x (argument ∷ arguments) given most outer memory new lines rest w on filled way fit told written =
    subst (λ n. GivenTo x outer new (most + n) lines rest) (sym (sum_by-cons gives_words argument arguments))
    (by_cells
    (λ behind most' between w' on' filled' way' told' written'. given_all x arguments behind most' outer between new
    lines
    rest w' on' filled' way'
    (second_of (fits x.here.body (of_argument argument)) (list_all (fits x.here.body) (map of_argument arguments)) fit)
    told' written')
    (cells_here x.here (of_argument argument)) refl told)
  where
    program : WordProgram
    program = x.placing.program

    own : List Line
    own = gives_argument x.here.body.vars argument

    others : List Line
    others = flat_map (gives_argument x.here.body.vars) arguments

    -- the other arguments
    Others : Type 0
    Others =
        (behind : List Given) (most' : ℕ) (between : FlatMemory) (w' : MachineState) → OnCall x w'
        → IsFilled x.callee x.a outer between w' → WayOf x most' lines (others ++ rest) w'
        → given_by x.here arguments ≡ Some behind → with_arguments x.callee x.a behind between ≡ Some new
        → GivenTo x outer new (most' + sum_by gives_words arguments) lines rest

    Wanted : Type 0
    Wanted = GivenTo x outer new (most + (gives_words argument + sum_by gives_words arguments)) lines rest

    placed : List Cell → Option FlatMemory
    placed cells =
        option_and_then (λ p. with_cells memory p cells)
        (place_in_frame x.callee x.a (words_from argument.to argument.words))

    finish : Others → (cells : List Cell) → cells_here x.here (of_argument argument) ≡ Some cells
        → (behind : List Given) → given_by x.here arguments ≡ Some behind → (between : FlatMemory)
        → placed cells ≡ Some between → with_arguments x.callee x.a behind between ≡ Some new → Wanted
    finish next cells told_here behind told_there between written_here written_there =
        let first : GivenTo x outer between (most + gives_words argument) lines (others ++ rest) =
        given_one x argument most cells outer memory between lines (others ++ rest) w on filled
        (way_same program x.begin x.here.body x.site.far_at x.site.k most lines ((own ++ others) ++ rest)
        (own ++ (others ++ rest)) x.m w (append_assoc own others rest) way)
        (first_of (fits x.here.body (of_argument argument)) (list_all (fits x.here.body) (map of_argument arguments))
        fit)
        told_here written_here in
        let last : GivenTo x outer new (most + gives_words argument + sum_by gives_words arguments) lines rest =
        next behind (most + gives_words argument) between first.w first.on first.filled first.way told_there
        written_there
        in
        let sum : most + gives_words argument + sum_by gives_words arguments
        ≡ most + (gives_words argument + sum_by gives_words arguments) = omega arith in
        subst (λ n. GivenTo x outer new n lines rest) sum last

    by_memory : Others → (cells : List Cell) → cells_here x.here (of_argument argument) ≡ Some cells
        → (behind : List Given) → given_by x.here arguments ≡ Some behind → (o : Option FlatMemory)
        → placed cells ≡ o → option_and_then (with_arguments x.callee x.a behind) o ≡ Some new → Wanted
    by_memory next cells told_here behind told_there None e written' = cc
    by_memory next cells told_here behind told_there (Some between) e written' =
        finish next cells told_here behind told_there between e written'

    by_given : Others → (cells : List Cell) → cells_here x.here (of_argument argument) ≡ Some cells
        → (o : Option (List Given)) → given_by x.here arguments ≡ o
        → option_map (λ gs. record { to = argument.to; words = argument.words; cells = cells } ∷ gs) o ≡ Some given
        → Wanted
    by_given next cells told_here None e told' = cc
    by_given next cells told_here (Some behind) e told' =
        let own_given : Given = record { to = argument.to; words = argument.words; cells = cells } in
        let same : own_given ∷ behind ≡ given = cc in
        by_memory next cells told_here behind e (placed cells) refl
        (ap (λ gs. with_arguments x.callee x.a gs memory) same ∙ written)

    by_cells : Others → (o : Option (List Cell)) → cells_here x.here (of_argument argument) ≡ o
        → option_and_then (λ cells. option_map
        (λ gs. record { to = argument.to; words = argument.words; cells = cells } ∷ gs) (given_by x.here arguments)) o
        ≡ Some given → Wanted
    by_cells next None e told' = cc
    by_cells next (Some cells) e told' = by_given next cells e (given_by x.here arguments) refl told'

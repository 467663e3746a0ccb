-- Calls.
use Rattle.std.proofs.Common.{◌≡◌, ◌∙◌, ℕ, ◌+◌, ◌-◌, ◌*◌, ◌<◌, ◌≤◌, Bool, true, false, cond, pos, List, [], ◌∷◌, ◌++◌}
use Rattle.std.proofs.Common.{length, map, Option, Some, None, arith, refl, ap, sym, subst, nat_lt}
use Rattle.std.specs.Prelude.{unwrap_or}
use Rattle.std.specs.List.{flat_map, list_all, sum_by}
use Rattle.std.specs.Option.{option_and_then}
use Rattle.std.proofs.lemmas.Bool.Decides.{nat_tests}
use Rattle.num_core.specs.Run.{Ended, Running, Streams, after}
use Rattle.num_core.specs.declared.fix.FixKind.TheVariants as kinds
use Rattle.rv_isa.specs.declared.ins.Ins.{Ins}
use Rattle.rv_step.specs.Machine.{MachineState, machine_step, register}
use Rattle.rv_code.specs.Code.{AllLegal, BlockAt}
use Rattle.lir_core.specs.Calls.{Given, cleared_here, dictionary_of, enters, enters_body, given_by, item_of, lowest}
use Rattle.lir_core.specs.Calls.{stack_text, stack_with, with_arguments}
use Rattle.lir_core.specs.Check.{fits}
use Rattle.lir_core.specs.Memory.{FlatMemory}
use Rattle.lir_core.specs.Pieces.{of_argument, of_block, of_callee, touched, word_if}
use Rattle.lir_core.specs.Program.{WordProgram, no_step, with}
use Rattle.lir_core.specs.Slots.{Here, addresses, with_frame}
use Rattle.lir_core.specs.State.{WordCause}
use Rattle.lir_core.specs.declared.body.LirBody.{LirBody}
use Rattle.lir_core.specs.declared.op.Argument.{Argument}
use Rattle.lir_core.specs.declared.op.Block.{Block}
use Rattle.lir_core.specs.declared.op.Callee.{Callee}
use Rattle.lir_core.specs.declared.op.LirOp.{LirOp}
use Rattle.lir_core.specs.declared.op.LirOp.TheVariants.{Call}
use Rattle.lir_core.proofs.Sound.{first_of, second_of}
use Rattle.rt_code.specs.Effects.{EndsWithin, number_of, with_error}
use Rattle.rt_code.specs.declared.routines.Routine.TheVariants.{StackBound}
use Rattle.rt_code.proofs.Machines.{then_steps}
use Rattle.rv_lines.specs.declared.line.Line.{Line}
use Rattle.rv_lines.specs.declared.line.Line.TheVariants.{Single}
use Rattle.rv_gen.specs.Calling.{clears_block, finds_frame, gets_callee, gives_argument, gives_dictionary}
use Rattle.rv_gen.specs.Calling.{takes_result}
use Rattle.rv_gen.specs.Lines.{op_lines}
use Rattle.rv_gen.specs.Placing.{code_of}
use Rattle.rv_words.specs.Groups.{IsAt, IsFollowed}
use Rattle.rv_words.specs.Linked.{bits_between, linked}
use Rattle.rv_words.specs.Placing.{HasProgram, IsPlacing, Placing, reach}
use Rattle.rv_words.specs.Stands.{AreBytes, Follows, Related}
use Rattle.rv_words.specs.Stands.Related.{AtEnd, AtNoStep, AtOperation}
use Rattle.rv_words.specs.Steps.{gives_words}
use Rattle.rv_words.specs.Words.{lines_to_jump, width, words}
use Rattle.rv_words.proofs.Arguments.{CallOf, OnCall, WayOf}
use Rattle.rv_words.proofs.Aside.{stands_still}
use Rattle.rv_words.proofs.Branches.{has_all}
use Rattle.rv_words.proofs.Called.{Called, called_from}
use Rattle.rv_words.proofs.CallSites.{waits_behind}
use Rattle.rv_words.proofs.Framing.{Framed, Measured, callee_address, framed, got_callee, item_by_address, measured}
use Rattle.rv_words.proofs.Framing.{framed_callee, framed_keeps, places_frame, refused}
use Rattle.rv_words.proofs.Got.{Got, IsFree, got_keeps}
use Rattle.rv_words.proofs.LinkedCode.{longest_of, size_append, size_of}
use Rattle.rv_words.proofs.LoadLaws.{parts_fit}
use Rattle.rv_words.proofs.Lines.{AtLines, at_equal, at_site, first_part}
use Rattle.rv_words.proofs.Moved.{KeepsOwn, program_same}
use Rattle.rv_words.proofs.Places.{far_of}
use Rattle.rv_words.proofs.Pushed.{pushed}
use Rattle.rv_words.proofs.Reading.{room_here}
use Rattle.rv_words.proofs.Room.{HasRoom, below_all}
use Rattle.rv_words.proofs.Sites.{Site, site}
use Rattle.rv_words.proofs.Ways.{Way, way_first, way_on}
use Rattle.rv_words.proofs.Widths.{calls_split, width_is, widths_to_jump}

-- ---- a call

-- of parts that all fit, those behind
all_behind : {A : Type 0} (p : A → Bool) (xs ys : List A) → list_all p (xs ++ ys) ≡ true → list_all p ys ≡ true
all_behind p [] ys e = e
all_behind p (x ∷ xs) ys e = all_behind p xs ys (second_of (p x) (list_all p (xs ++ ys)) e)

stuck : (placing : Placing) (most : ℕ) (m : MachineState) (streams : Streams) → 0 < most
    → Follows placing most m streams (no_step streams)
stuck placing most m streams some = record {
  count = 1;
  some = omega arith;
  few = omega (arith, some);
  related = AtNoStep WordCause.NoStep streams (after machine_step 1 (Running m streams));
}

-- the body's code by its address
pub record ItemThere (here : Here) (callee : Callee) (item : ℕ) : Type 0 where
  pub c : ℕ
  pub told : callee_address here callee ≡ Some c
  pub item_there : here.program.item_at c ≡ Some item

item_there_of : (here : Here) (callee : Callee) (item : ℕ) → item_of here callee ≡ Some item
    → ItemThere here callee item
item_there_of here callee item e = by (callee_address here callee) refl (sym (item_by_address here callee) ∙ e)
  where
    by : (o : Option ℕ) → callee_address here callee ≡ o → option_and_then here.program.item_at o ≡ Some item
        → ItemThere here callee item
    by None told e' = cc
    by (Some c) told e' = record { c = c; told = told; item_there = e' }

above_bound : (x y : ℕ) → nat_lt x y ≡ true → x < y
above_bound x y t = grind (arith, nat_tests)

within_bound : (x y : ℕ) → nat_lt x y ≡ false → y ≤ x
within_bound x y t = grind (arith, nat_tests)

-- The frame to be fits below an address, within the bound of the stack.
record FitsBelow (placing : Placing) (address : ℕ) (target : LirBody) : Type 0 where
  fit : target.frame ≤ address
  top : address ≡ (address - target.frame) + target.frame
  room : HasRoom placing (address - target.frame) target
  bound : placing.program.stack_end ≤ (address - target.frame) + placing.program.stack_bound

fits_below : (placing : Placing) (address : ℕ) (target : LirBody) → IsPlacing placing
    → placing.program.heap_begin + placing.program.heap_bound ≤ address → address ≤ placing.program.stack_end
    → (placing.program.stack_end - address) + target.frame ≤ placing.program.stack_bound
    → FitsBelow placing address target
fits_below placing address target is low high few =
    let order : placing.program.heap_begin + placing.program.heap_bound + placing.program.stack_bound
    ≡ placing.program.stack_end = is.laid_out.frames_behind_heap in
    let fit : target.frame ≤ address = omega (arith, order, low, high, few) in
    record {
      fit = fit;
      top = omega (arith, fit);
      room = record {
        above = omega (arith, order, low, high, few, fit);
        within = omega (arith, fit, high);
      };
      bound = omega (arith, order, low, high, few, fit);
    }

within_by : (a n b : ℕ) → a + n ≤ b → a ≤ b
within_by a n b h = omega (arith, h)

free_30 : IsFree 30
free_30 = (λ e. omega (arith, e), λ k h e. omega (arith, h, e))

module _ (placing : Placing) (is : IsPlacing placing) (callee : Callee) (dictionary : Option ℕ)
    (arguments : List Argument) (cleared result : Block) (here : Here) (begin : ℕ) (m : MachineState)
    (streams : Streams) (at : IsAt placing here (Call callee dictionary arguments cleared result) begin m)
    (bytes : AreBytes streams) (item : ℕ) (there : ItemThere here callee item) (target : LirBody)
    (body_there : placing.program.body_of item ≡ Some target) where
  abbrev operation : LirOp
  operation = Call callee dictionary arguments cleared result

  abbrev program : WordProgram
  program = placing.program

  abbrev body : LirBody
  body = here.body

  abbrev vars : List ℕ
  vars = body.vars

  abbrev most : ℕ
  most = 66 + sum_by gives_words arguments + 3 * cleared.words

  s : Site placing here operation begin m
  s = site placing here operation begin m is at

  abbrev code : List Ins
  code = linked program begin body

  abbrev lines : List Line
  lines = lines_to_jump vars callee dictionary arguments cleared

  -- the lines behind each stage
  abbrev jump : List Line
  jump = Single (Ins.Jalr 1 30 (pos 0)) ∷ []

  abbrev to_clear : List Line
  to_clear = clears_block vars cleared ++ jump

  abbrev to_dictionary : List Line
  to_dictionary = gives_dictionary vars dictionary ++ to_clear

  abbrev to_arguments : List Line
  to_arguments = flat_map (gives_argument vars) arguments ++ to_dictionary

  abbrev to_frame : List Line
  to_frame = finds_frame ++ to_arguments

  frame_at : here.frame.address ≡ register m 2
  frame_at = s.i.first.address

  own_room : HasRoom placing here.frame.address body
  own_room = room_here placing here operation begin m is at

  lowest_is : register m 26 ≡ program.heap_begin + program.heap_bound
  lowest_is = at.stands.serves.lowest

  order : program.heap_begin + program.heap_bound + program.stack_bound ≡ program.stack_end
  order = is.laid_out.frames_behind_heap

  parts : list_all (fits body) (touched operation) ≡ true
  parts = (parts_fit placing is here operation begin m at).0

  behind_result : list_all (fits body) (of_block cleared ∷ (of_callee callee ++ (word_if dictionary
      ++ map of_argument arguments))) ≡ true
  behind_result =
      second_of (fits body (of_block result)) (list_all (fits body) (of_block cleared ∷ (of_callee callee
      ++ (word_if dictionary ++ map of_argument arguments)))) parts

  cleared_fits : fits body (of_block cleared) ≡ true
  cleared_fits =
      first_of (fits body (of_block cleared)) (list_all (fits body) (of_callee callee ++ (word_if dictionary
      ++ map of_argument arguments))) behind_result

  arguments_fit : list_all (fits body) (map of_argument arguments) ≡ true
  arguments_fit =
      all_behind (fits body) (word_if dictionary) (map of_argument arguments)
      (all_behind (fits body) (of_callee callee) (word_if dictionary ++ map of_argument arguments)
      (second_of (fits body (of_block cleared)) (list_all (fits body) (of_callee callee ++ (word_if dictionary
      ++ map of_argument arguments))) behind_result))

  start : AtLines program begin body s.far_at s.k (lines ++ takes_result vars result) m
  start =
      at_equal program begin body s.far_at s.k (op_lines body operation) (lines ++ takes_result vars result) m
      (calls_split vars callee dictionary arguments cleared result)
      (at_site placing here operation begin m s at.stands.serves.registers)

  own_lines : AtLines program begin body s.far_at s.k lines m
  own_lines = first_part program begin body s.far_at s.k lines (takes_result vars result) m start

  lines_within : s.k + size_of (far_of body) s.far_at lines ≤ length (code_of body)
  lines_within =
      let end : s.k + size_of (far_of body) s.far_at (op_lines body operation) ≤ length (code_of body) = s.end in
      let split : size_of (far_of body) s.far_at (op_lines body operation)
      ≡ size_of (far_of body) s.far_at (lines ++ takes_result vars result) =
      ap (size_of (far_of body) s.far_at) (calls_split vars callee dictionary arguments cleared result) in
      let sizes : size_of (far_of body) s.far_at (lines ++ takes_result vars result)
      ≡ size_of (far_of body) s.far_at lines
      + size_of (far_of body) (s.far_at + longest_of lines) (takes_result vars result) =
      size_append (far_of body) s.far_at lines (takes_result vars result) in
      omega (arith, end, split, sizes)

  item_there : program.item_at there.c ≡ Some item
  item_there = ap (λ p. p.item_at there.c) (sym at.program) ∙ there.item_there

  -- the address of the body is in x30
  got : Got begin code (s.k + size_of (far_of body) s.far_at (gets_callee vars callee)) 4 30 there.c m
  got =
      got_callee placing here operation begin callee there.c m is at s
      (first_part program begin body s.far_at s.k (gets_callee vars callee) to_frame m own_lines) there.told

  abbrev w1 : MachineState
  w1 = got.new

  way1 : Way program begin body s.far_at s.k (0 + 4) lines to_frame m w1
  way1 =
      way_on program begin body s.far_at s.k 0 4 got.count lines (gets_callee vars callee) to_frame m m w1
      (way_first program begin body s.far_at s.k lines m own_lines) got.goes got.registers got.few

  program_1 : HasProgram placing w1
  program_1 = program_same placing m w1 got.memory at.stands.serves.memory

  keeps_1 : KeepsOwn m w1
  keeps_1 =
      got_keeps begin code (s.k + size_of (far_of body) s.far_at (gets_callee vars callee)) 4 30 there.c m free_30 got

  frame_lines : AtLines program begin body way1.far way1.place finds_frame w1
  frame_lines = first_part program begin body way1.far way1.place finds_frame to_arguments w1 way1.at

  abbrev bits : ℕ
  bits =
      bits_between (begin + 4 * (way1.place + 1 + 1 + 1 + 1))
      (unwrap_or (program.address_of kinds.Routine (number_of StackBound)) 0)

  frame_block : BlockAt code way1.place (places_frame bits bits)
  frame_block = frame_lines.block

  frame_legal : AllLegal (places_frame bits bits)
  frame_legal = frame_lines.legal

  near_frame : begin + 4 * (way1.place + 7) < reach
  near_frame =
      let near : begin + 4 * length (code_of body) < reach = s.placed.near in
      let sizes : size_of (far_of body) way1.far (finds_frame ++ to_arguments)
      ≡ size_of (far_of body) way1.far finds_frame
      + size_of (far_of body) (way1.far + longest_of finds_frame) to_arguments =
      size_append (far_of body) way1.far finds_frame to_arguments in
      let seven : size_of (far_of body) way1.far finds_frame ≡ 7 = refl in
      omega (arith, near, lines_within, way1.size, sizes, seven)

  above : register w1 26 ≤ register w1 2
  above =
      let low : program.heap_begin + program.heap_bound ≤ here.frame.address = own_room.above in
      omega (arith, keeps_1.lowest, keeps_1.frame, lowest_is, frame_at, low)

  g : Measured begin code way1.place target.frame (register w1 2 - register w1 26) w1
  g =
      measured placing begin way1.place there.c item code target w1 is program_1 item_there body_there way1.at.code_at
      way1.at.pc (frame_block.0, (frame_block.1.0, (frame_block.1.1.0, tt)))
      (frame_legal.0, (frame_legal.1.0, (frame_legal.1.1.0, tt))) got.has above got.registers

  -- the frame doesn't fit
  ends : nat_lt program.stack_bound (stack_with program (here.frame ∷ here.below) target) ≡ true
      → Follows placing most m streams (Ended 134 (with_error stack_text streams))
  ends test =
      let more : program.stack_bound < (program.stack_end - here.frame.address) + target.frame =
      above_bound program.stack_bound ((program.stack_end - here.frame.address) + target.frame) test in
      let low : program.heap_begin + program.heap_bound ≤ here.frame.address = own_room.above in
      let within : here.frame.address + body.frame ≤ program.stack_end = own_room.within in
      let behind : placing.lowest_data ≤ program.heap_begin = is.heap_behind_data in
      let few : register w1 2 - register w1 26 < target.frame =
      omega (arith, more, low, within, order, keeps_1.lowest, keeps_1.frame, lowest_is, frame_at) in
      let e : EndsWithin 29 w1 streams 134 (with_error stack_text streams) =
      refused placing begin way1.place target.frame (register w1 2 - register w1 26) bits code w1 streams is program_1 g
      frame_block frame_legal refl near_frame few (omega (arith, behind, low, keeps_1.frame, frame_at))
      (omega (arith, within, keeps_1.frame, frame_at)) in
      let some : 0 < e.count = e.some in
      let few_e : e.count ≤ 29 = e.few in
      let few_w : way1.count ≤ 0 + 4 = way1.few in
      record {
        count = way1.count + e.count;
        some = omega (arith, some);
        few = omega (arith, few_e, few_w);
        related = subst (Related placing (Ended 134 (with_error stack_text streams)))
            (sym (then_steps way1.count e.count (Running m streams) w1 streams
            (Ended 134 (with_error stack_text streams)) (way1.goes.runs streams) e.ends))
            (AtEnd 134 (with_error stack_text streams));
      }

  -- or it does
  framed_there : FitsBelow placing here.frame.address target
      → Framed begin code (way1.place + 7) (register w1 2 - target.frame) w1
  framed_there b =
      let low : program.heap_begin + program.heap_bound ≤ here.frame.address - target.frame = b.room.above in
      let fit : target.frame ≤ here.frame.address = b.fit in
      let top_fits : here.frame.address + body.frame + 128 ≤ addresses =
      below_all placing here.frame.address body is own_room in
      framed begin way1.place target.frame (register w1 2 - register w1 26) bits bits code w1 g frame_block frame_legal
      (omega (arith, near_frame))
      (omega (arith, low, fit, keeps_1.lowest, keeps_1.frame, lowest_is, frame_at))
      (omega (arith, keeps_1.frame, frame_at, fit)) (omega (arith, keeps_1.frame, frame_at, top_fits))

  abbrev call_of : FitsBelow placing here.frame.address target → CallOf
  call_of b = record {
    placing = placing;
    here = here;
    operation = operation;
    begin = begin;
    m = m;
    is = is;
    site = s;
    c = there.c;
    a = here.frame.address - target.frame;
    callee = target;
    room = b.room;
    own_room = own_room;
    top = b.top;
  }

  on_there : (b : FitsBelow placing here.frame.address target) → OnCall (call_of b) (framed_there b).new
  on_there b =
      let f : Framed begin code (way1.place + 7) (register w1 2 - target.frame) w1 = framed_there b in
      let keeps_2 : KeepsOwn w1 f.new = framed_keeps begin code (way1.place + 7) (register w1 2 - target.frame) w1 f in
      let back : MachineState = record f.new { pc = m.pc } in
      record {
        at = record {
          program = at.program;
          frames = at.frames;
          body = at.body;
          operation_there = at.operation_there;
          around = at.around;
          stands = stands_still placing here.state m back here.frame here.below at.stands at.frames refl
              (f.memory ∙ got.memory)
              (record {
                frame = keeps_2.frame ∙ keeps_1.frame;
                homes = λ k h. keeps_2.homes k h ∙ keeps_1.homes k h;
                lowest = keeps_2.lowest ∙ keeps_1.lowest;
                heap = keeps_2.heap ∙ keeps_1.heap;
              })
              (has_all f.new m.pc f.registers);
        };
        callee = framed_callee begin code (way1.place + 7) (register w1 2 - target.frame) w1 f ∙ got.has;
        frame = f.has ∙ ap (λ y. y - target.frame) (keeps_1.frame ∙ sym frame_at);
      }

  way_there : (b : FitsBelow placing here.frame.address target)
      → WayOf (call_of b) (0 + 4 + 5) lines to_arguments (framed_there b).new
  way_there b =
      let f : Framed begin code (way1.place + 7) (register w1 2 - target.frame) w1 = framed_there b in
      way_on program begin body s.far_at s.k (0 + 4) 5 f.count lines finds_frame to_arguments m w1 f.new way1 f.goes
      f.registers f.few

  widths : size_of (far_of body) s.far_at lines ≡ width lines
  widths = width_is (far_of body) s.far_at lines (widths_to_jump vars callee dictionary arguments cleared)

  enters_it : (word : Option ℕ) (given : List Given) (own memory : FlatMemory)
      → dictionary_of here dictionary ≡ Some word → given_by here arguments ≡ Some given
      → cleared_here here cleared ≡ Some own
      → nat_lt program.stack_bound (stack_with program (here.frame ∷ here.below) target) ≡ false
      → with_arguments target (here.frame.address - target.frame) given
      (with_frame target (here.frame.address - target.frame) own) ≡ Some memory
      → Follows placing most m streams
      (Running (pushed (record here.state { memory = own }) item (here.frame.address - target.frame) word
      (here.frame ∷ here.below) memory) streams)
  enters_it word given own memory word_is given_is own_is test memory_is =
      let within : here.frame.address + body.frame ≤ program.stack_end = own_room.within in
      let b : FitsBelow placing here.frame.address target =
      fits_below placing here.frame.address target is own_room.above (within_by here.frame.address body.frame
      program.stack_end within)
      (within_bound program.stack_bound ((program.stack_end - here.frame.address) + target.frame) test) in
      let c : Called (call_of b) item word own memory most streams =
      called_from (call_of b) item arguments given dictionary word cleared own memory lines (framed_there b).new streams
      item_there body_there at.frames at.stands.bounds
      (waits_behind placing here callee dictionary arguments cleared result begin m at s) b.bound (on_there b)
      (way_there b)
      widths arguments_fit cleared_fits given_is word_is own_is memory_is in
      record {
        count = c.count;
        some = c.some;
        few = c.few;
        related = subst (Related placing (Running (pushed (record here.state { memory = own }) item
            (here.frame.address - target.frame) word (here.frame ∷ here.below) memory) streams)) (sym c.runs)
            (AtOperation (pushed (record here.state { memory = own }) item (here.frame.address - target.frame) word
            (here.frame ∷ here.below) memory) c.n streams c.stands bytes);
      }

pub call_followed : (placing : Placing) → IsPlacing placing → (callee : Callee) (dictionary : Option ℕ)
    (arguments : List Argument) (cleared result : Block)
    → IsFollowed placing (Call callee dictionary arguments cleared result)
call_followed placing is callee dictionary arguments cleared result here begin m streams at bytes =
    by_item (item_of here callee) refl
  where
    most : ℕ
    most = 66 + sum_by gives_words arguments + 3 * cleared.words

    some_most : 0 < most
    some_most = omega arith

    by_memory : (item : ℕ) → item_of here callee ≡ Some item → (word : Option ℕ)
        → dictionary_of here dictionary ≡ Some word → (given : List Given) → given_by here arguments ≡ Some given
        → (own : FlatMemory) → cleared_here here cleared ≡ Some own → (target : LirBody)
        → here.program.body_of item ≡ Some target
        → nat_lt here.program.stack_bound (stack_with here.program (here.frame ∷ here.below) target) ≡ false
        → (o : Option FlatMemory)
        → with_arguments target (here.frame.address - target.frame) given
        (with_frame target (here.frame.address - target.frame) own) ≡ o
        → Follows placing most m streams
        (with o streams (λ memory. Running
        (pushed (record here.state { memory = own }) item (here.frame.address - target.frame) word
        (here.frame ∷ here.below) memory) streams))
    by_memory item e word e1 given e2 own e3 target e4 test None e5 = stuck placing most m streams some_most
    by_memory item e word e1 given e2 own e3 target e4 test (Some memory) e5 =
        enters_it placing is callee dictionary arguments cleared result here begin m streams at bytes item
        (item_there_of here callee item e) target (ap (λ p. p.body_of item) (sym at.program) ∙ e4) word given own
        memory e1
        e2 e3
        (ap (λ p. nat_lt p.stack_bound (stack_with p (here.frame ∷ here.below) target)) (sym at.program) ∙ test) e5

    by_room : (item : ℕ) → item_of here callee ≡ Some item → (word : Option ℕ)
        → dictionary_of here dictionary ≡ Some word → (given : List Given) → given_by here arguments ≡ Some given
        → (own : FlatMemory) → cleared_here here cleared ≡ Some own → (target : LirBody)
        → here.program.body_of item ≡ Some target → (b : Bool)
        → nat_lt here.program.stack_bound (stack_with here.program (here.frame ∷ here.below) target) ≡ b
        → Follows placing most m streams
        (cond b (Ended 134 (with_error stack_text streams))
        (with (with_arguments target (here.frame.address - target.frame) given
        (with_frame target (here.frame.address - target.frame) own)) streams (λ memory. Running
        (pushed (record here.state { memory = own }) item (here.frame.address - target.frame) word
        (here.frame ∷ here.below) memory) streams)))
    by_room item e word e1 given e2 own e3 target e4 true test =
        ends placing is callee dictionary arguments cleared result here begin m streams at bytes item
        (item_there_of here callee item e) target (ap (λ p. p.body_of item) (sym at.program) ∙ e4)
        (ap (λ p. nat_lt p.stack_bound (stack_with p (here.frame ∷ here.below) target)) (sym at.program) ∙ test)
    by_room item e word e1 given e2 own e3 target e4 false test =
        by_memory item e word e1 given e2 own e3 target e4 test
        (with_arguments target (here.frame.address - target.frame) given
        (with_frame target (here.frame.address - target.frame) own)) refl

    by_body : (item : ℕ) → item_of here callee ≡ Some item → (word : Option ℕ)
        → dictionary_of here dictionary ≡ Some word → (given : List Given) → given_by here arguments ≡ Some given
        → (own : FlatMemory) → cleared_here here cleared ≡ Some own → (o : Option LirBody)
        → here.program.body_of item ≡ o
        → Follows placing most m streams
        (with o streams (λ target. enters_body here.program (record here.state { memory = own }) item target word given
        (here.frame ∷ here.below) streams))
    by_body item e word e1 given e2 own e3 None e4 = stuck placing most m streams some_most
    by_body item e word e1 given e2 own e3 (Some target) e4 =
        by_room item e word e1 given e2 own e3 target e4
        (nat_lt here.program.stack_bound (stack_with here.program (here.frame ∷ here.below) target)) refl

    by_cleared : (item : ℕ) → item_of here callee ≡ Some item → (word : Option ℕ)
        → dictionary_of here dictionary ≡ Some word → (given : List Given) → given_by here arguments ≡ Some given
        → (o : Option FlatMemory) → cleared_here here cleared ≡ o
        → Follows placing most m streams
        (with o streams (λ own. enters here.program (record here.state { memory = own }) item word given
        (here.frame ∷ here.below) streams))
    by_cleared item e word e1 given e2 None e3 = stuck placing most m streams some_most
    by_cleared item e word e1 given e2 (Some own) e3 =
        by_body item e word e1 given e2 own e3 (here.program.body_of item) refl

    by_given : (item : ℕ) → item_of here callee ≡ Some item → (word : Option ℕ)
        → dictionary_of here dictionary ≡ Some word → (o : Option (List Given)) → given_by here arguments ≡ o
        → Follows placing most m streams
        (with o streams (λ given. with (cleared_here here cleared) streams (λ own.
        enters here.program (record here.state { memory = own }) item word given (here.frame ∷ here.below) streams)))
    by_given item e word e1 None e2 = stuck placing most m streams some_most
    by_given item e word e1 (Some given) e2 =
        by_cleared item e word e1 given e2 (cleared_here here cleared) refl

    by_word : (item : ℕ) → item_of here callee ≡ Some item → (o : Option (Option ℕ))
        → dictionary_of here dictionary ≡ o
        → Follows placing most m streams
        (with o streams (λ word. with (given_by here arguments) streams (λ given.
        with (cleared_here here cleared) streams (λ own.
        enters here.program (record here.state { memory = own }) item word given (here.frame ∷ here.below) streams))))
    by_word item e None e1 = stuck placing most m streams some_most
    by_word item e (Some word) e1 = by_given item e word e1 (given_by here arguments) refl

    by_item : (o : Option ℕ) → item_of here callee ≡ o
        → Follows placing most m streams
        (with o streams (λ item. with (dictionary_of here dictionary) streams (λ word.
        with (given_by here arguments) streams (λ given. with (cleared_here here cleared) streams (λ own.
        enters here.program (record here.state { memory = own }) item word given (here.frame ∷ here.below) streams)))))
    by_item None e = stuck placing most m streams some_most
    by_item (Some item) e = by_word item e (dictionary_of here dictionary) refl

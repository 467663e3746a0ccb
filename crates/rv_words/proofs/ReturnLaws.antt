-- Returns: to the frame below, which goes on behind its call, and from the outermost frame to the end.
use Rattle.std.proofs.Common.{◌≡◌, ◌∙◌, ℕ, ◌+◌, ◌*◌, ◌/◌, ◌%◌, ◌^◌, ◌<◌, ◌≤◌, ◌==◌, Bool, true, false, cond, List, []}
use Rattle.std.proofs.Common.{◌∷◌, ◌++◌, length, map, Option, Some, None, pos, ◌+ℤ◌, arith, refl, ap, sym, subst}
use Rattle.std.specs.Prelude.{slice_get, ◌&&◌}
use Rattle.std.specs.List.{AllZip, list_all}
use Rattle.std.specs.Option.{option_and_then}
use Rattle.std.proofs.lemmas.Bool.{leb-true}
use Rattle.std.proofs.lemmas.Bool.Decides.{nat_tests}
use Rattle.byteorder.specs.Endian.{little_bytes}
use Rattle.num_core.specs.Bits.{low_bits}
use Rattle.num_core.specs.Run.{Run, Running, Ended, Stopped, Streams}
use Rattle.num_core.specs.declared.fix.FixKind.TheVariants.{Routine}
use Rattle.rv_isa.specs.declared.ins.Ins.{Ins}
use Rattle.rv_step.specs.Machine.{MachineState, register, without_bit_0}
use Rattle.rv_step.specs.Memory.{Bytes, MayRead, Number, is_allowed}
use Rattle.rv_code.proofs.Going.{code_in_same_memory, same_bytes}
use Rattle.rv_code.specs.Code.{AllLegal, BlockAt, given}
use Rattle.lir_core.specs.Calls.{cells_here, ends_program, lowest, result_of, returns_to, takes_result as takes_cells}
use Rattle.lir_core.specs.Check.{fits, is_whole_or_apart, lies_in_frame}
use Rattle.lir_core.specs.Memory.{Cell, FlatMemory, cells_from, copied, overwritten, with_cells}
use Rattle.lir_core.specs.Pieces.{of_argument, of_block, of_callee, word, word_if, words_from}
use Rattle.lir_core.specs.Program.{WordProgram, with}
use Rattle.lir_core.specs.Slots.{Here, addresses, is_variable, place_here, place_in_frame, without_frame, word_in}
use Rattle.lir_core.specs.State.{Frame, WordCause, WordState}
use Rattle.lir_core.specs.Tells.{FrameTellsNoMore}
use Rattle.lir_core.specs.declared.body.LirBody.{LirBody}
use Rattle.lir_core.specs.declared.op.Block.{Block}
use Rattle.lir_core.specs.declared.op.LirOp.{LirOp}
use Rattle.lir_core.specs.declared.op.LirOp.TheVariants.{Return}
use Rattle.lir_core.proofs.Sound.{first_of, second_of}
use Rattle.rt_code.proofs.Machines.{sum_of, then_steps}
use Rattle.rt_code.proofs.Whole.{has_effect}
use Rattle.rt_code.specs.Code.{code_of as routine_code}
use Rattle.rt_code.specs.Effects.{EndsWithin, Starts, number_of}
use Rattle.rt_code.specs.declared.routines.Routine.TheVariants.{Start}
use Rattle.rv_lines.specs.Frame.{home, return_at, slot_place}
use Rattle.rv_lines.specs.Operands.{gets_address, gets_slot, puts_slot}
use Rattle.rv_lines.specs.declared.line.Line.{Line}
use Rattle.rv_lines.specs.declared.line.Line.TheVariants.{Single}
use Rattle.rv_gen.specs.Calling.{gives_result, returns, takes_result}
use Rattle.rv_gen.specs.Lines.{op_lines}
use Rattle.rv_words.specs.Groups.{IsAt, IsFollowed}
use Rattle.rv_words.specs.Linked.{linked}
use Rattle.rv_words.specs.Placing.{IsPlacing, Placing, reach}
use Rattle.rv_words.specs.Stands.{AreBytes, Follows, Related, outermost}
use Rattle.rv_words.specs.Stands.Related.{AtEnd, AtOperation}
use Rattle.rv_words.specs.Words.{Held, frame_of, word_at}
use Rattle.rv_words.proofs.Backs.{Below, IsBack, back, below_of, call_of, even_return, here_below}
use Rattle.rv_words.proofs.Branches.{even_kept}
use Rattle.rv_words.proofs.CallSites.{IsBehindCall, IsWaiting}
use Rattle.rv_words.proofs.ConstantCode.{address_code, address_short, address_singles, got_address, singles}
use Rattle.rv_words.proofs.Copied.{FlatCells, flat_cells}
use Rattle.rv_words.proofs.Going.{Goes}
use Rattle.rv_words.proofs.Got.{Got, got_at, got_is, got_once}
use Rattle.rv_words.proofs.Leaving.{Left, leave_lines, left}
use Rattle.rv_words.proofs.Lines.{AtLines, at_equal, at_site, first_code, first_part, size_singles}
use Rattle.rv_words.proofs.LinkedCode.{size_of}
use Rattle.rv_words.proofs.LoadLaws.{holds_of_one, parts_fit, whole_of}
use Rattle.rv_words.proofs.MoveLaws.{SlotCells, copied_are, gets_code, gets_singles, got_slot, slot_cells}
use Rattle.rv_words.proofs.Places.{far_of}
use Rattle.rv_words.proofs.Reading.{SlotStands, room_here, slot_stands}
use Rattle.rv_words.proofs.Results.{written_where}
use Rattle.rv_words.proofs.Room.{HasRoom, below_all}
use Rattle.rv_words.proofs.Sites.{Site, followed_stuck, site}
use Rattle.rv_words.proofs.Slotted.{word_back}
use Rattle.rv_words.proofs.Standing.{goes_on_at, held_at, homes_in, rest_of}
use Rattle.rv_words.proofs.Taking.{Landed, at_pc, block_lines, landed_block, landed_none, landed_word}

-- ---- what x10 gets

-- lines that are an instruction each give it a word
gave : (program : WordProgram) (begin : ℕ) (body : LirBody) (block : Block) (far_at k value : ℕ) (code : List Ins)
    (m : MachineState) → AtLines program begin body far_at k (returns body block) m
    → gives_result body.vars block ≡ singles code
    → (BlockAt (linked program begin body) k code → AllLegal code
    → Got begin (linked program begin body) (k + length code) 4 10 value m)
    → Got begin (linked program begin body) (k + size_of (far_of body) far_at (gives_result body.vars block)) 4 10 value
    m
gave program begin body block far_at k value code m at same got =
    let xs : List Line = gives_result body.vars block in
    let first = first_code program begin body far_at k code m
    (at_equal program begin body far_at k xs (singles code) m same
    (first_part program begin body far_at k xs (leave_lines body) m at)) in
    let size : size_of (far_of body) far_at xs ≡ length code =
    ap (size_of (far_of body) far_at) same ∙ size_singles (far_of body) far_at code in
    subst (λ n. Got begin (linked program begin body) (k + n) 4 10 value m) (sym size) (got first.0 first.1)

-- the lines for no word, one and more
given_none : (vars : List ℕ) (block : Block) → (block.words == 0) ≡ true
    → gives_result vars block ≡ singles (Ins.Addi 10 0 (pos 0) ∷ [])
given_none vars block e =
    ap (λ b. cond b (Single (Ins.Addi 10 0 (pos 0)) ∷ []) (cond (block.words == 1)
    (gets_slot (home vars block.slot) 10 block.slot) (gets_address 10 2 (slot_place block.slot)))) e

given_one : (vars : List ℕ) (block : Block) → (block.words == 0) ≡ false → (block.words == 1) ≡ true
    → gives_result vars block ≡ singles (gets_code (home vars block.slot) 10 block.slot)
given_one vars block e e' =
    ap (λ b. cond b (Single (Ins.Addi 10 0 (pos 0)) ∷ []) (cond (block.words == 1)
    (gets_slot (home vars block.slot) 10 block.slot) (gets_address 10 2 (slot_place block.slot)))) e
    ∙ ap (λ b. cond b (gets_slot (home vars block.slot) 10 block.slot) (gets_address 10 2 (slot_place block.slot))) e'
    ∙ gets_singles (home vars block.slot) 10 block.slot

given_more : (vars : List ℕ) (block : Block) → (block.words == 0) ≡ false → (block.words == 1) ≡ false
    → gives_result vars block ≡ singles (address_code 10 2 (slot_place block.slot))
given_more vars block e e' =
    ap (λ b. cond b (Single (Ins.Addi 10 0 (pos 0)) ∷ []) (cond (block.words == 1)
    (gets_slot (home vars block.slot) 10 block.slot) (gets_address 10 2 (slot_place block.slot)))) e
    ∙ ap (λ b. cond b (gets_slot (home vars block.slot) 10 block.slot) (gets_address 10 2 (slot_place block.slot))) e'
    ∙ address_singles 10 2 (slot_place block.slot)

equal_of : (a b : ℕ) → (a == b) ≡ true → a ≡ b
equal_of a b e = grind (arith, nat_tests)

-- ---- the way out of a body

-- what is needed of a return to leave the body
record Leaves (placing : Placing) (here : Here) (block : Block) (begin ret : ℕ) (m : MachineState) : Type 0 where
  is : IsPlacing placing
  at : IsAt placing here (Return block) begin m
  site_is : Site placing here (Return block) begin m
  word : word_at m (register m 2 + return_at) ≡ ret
  even : without_bit_0 ret ≡ ret

room_now : (placing : Placing) (here : Here) (block : Block) (begin ret : ℕ) (m : MachineState)
    → Leaves placing here block begin ret m → HasRoom placing (register m 2) here.body
room_now placing here block begin ret m v =
    subst (λ a. HasRoom placing a here.body) v.site_is.i.first.address
    (room_here placing here (Return block) begin m v.is v.at)

left_by : (placing : Placing) (here : Here) (block : Block) (begin ret value : ℕ) (code : List Ins) (m : MachineState)
    → (v : Leaves placing here block begin ret m) → gives_result here.body.vars block ≡ singles code
    → (BlockAt (linked placing.program begin here.body) v.site_is.k code → AllLegal code
    → Got begin (linked placing.program begin here.body) (v.site_is.k + length code) 4 10 value m)
    → Left here.body value ret m
left_by placing here block begin ret value code m v same got =
    let s : Site placing here (Return block) begin m = v.site_is in
    let lines : AtLines placing.program begin here.body s.far_at s.k (returns here.body block) m =
    at_site placing here (Return block) begin m s v.at.stands.serves.registers in
    left placing begin here.body block s.far_at s.k value ret m v.is v.at.stands.serves.memory
    (room_now placing here block begin ret m v) lines
    (gave placing.program begin here.body block s.far_at s.k value code m lines same got) v.word v.even

-- with 0
left_none : (placing : Placing) (here : Here) (block : Block) (begin ret : ℕ) (m : MachineState)
    → Leaves placing here block begin ret m → (block.words == 0) ≡ true → Left here.body 0 ret m
left_none placing here block begin ret m v e =
    left_by placing here block begin ret 0 (Ins.Addi 10 0 (pos 0) ∷ []) m v (given_none here.body.vars block e)
    (λ there legal. got_at begin (linked placing.program begin here.body) (v.site_is.k + 1) (v.site_is.k + 1) 1 4 10 0 m
    refl (omega arith)
    (got_once begin (linked placing.program begin here.body) v.site_is.k (Ins.Addi 10 0 (pos 0)) 10 0 m
    v.site_is.code_at v.site_is.pc there.0 legal.0
    (λ ss. ap (λ x. Running (given 10 (low_bits 64 (pos x +ℤ pos 0)) m) ss) v.at.stands.serves.registers.x0)
    (omega arith) (omega arith) (omega arith) v.at.stands.serves.registers))

-- with the word of a slot
left_one : (placing : Placing) (here : Here) (block : Block) (begin ret value : ℕ) (m : MachineState)
    → Leaves placing here block begin ret m → (block.words == 0) ≡ false → (block.words == 1) ≡ true
    → SlotStands m here.body.vars block.slot value → Left here.body value ret m
left_one placing here block begin ret value m v e e' stands =
    left_by placing here block begin ret value (gets_code (home here.body.vars block.slot) 10 block.slot) m v
    (given_one here.body.vars block e e')
    (λ there legal. got_slot begin (linked placing.program begin here.body) v.site_is.k 10 block.slot value m
    (home here.body.vars block.slot) v.site_is.code_at v.site_is.pc there legal stands.stands stands.small stands.fits
    stands.near (omega arith) (omega arith) v.at.stands.serves.registers)

-- with the address of the first slot
left_more : (placing : Placing) (here : Here) (block : Block) (begin ret : ℕ) (m : MachineState)
    → (v : Leaves placing here block begin ret m) → (block.words == 0) ≡ false → (block.words == 1) ≡ false
    → 128 + 8 * block.slot ≤ here.body.frame
    → Left here.body (register m 2 + (128 + 8 * block.slot)) ret m
left_more placing here block begin ret m v e e' ends =
    let room : HasRoom placing (register m 2) here.body = room_now placing here block begin ret m v in
    let top : register m 2 + here.body.frame + 128 ≤ addresses =
    below_all placing (register m 2) here.body v.is room in
    let greatest : here.body.frame ≤ 65536 = here.body.frame_size.greatest in
    let place : ℕ = slot_place block.slot in
    let code : List Ins = address_code 10 2 place in
    let sum : low_bits 64 (pos (register m 2) +ℤ pos place) ≡ register m 2 + (128 + 8 * block.slot) =
    sum_of (register m 2) place (omega (arith, top, ends)) in
    let short : length code ≤ 3 = address_short 10 2 place (omega (arith, ends, greatest)) in
    left_by placing here block begin ret (register m 2 + (128 + 8 * block.slot)) code m v
    (given_more here.body.vars block e e')
    (λ there legal. got_at begin (linked placing.program begin here.body) (v.site_is.k + length code)
    (v.site_is.k + length code) (length code) 4 10 (register m 2 + (128 + 8 * block.slot)) m refl
    (omega (arith, short))
    (got_is begin (linked placing.program begin here.body) (v.site_is.k + length code) (length code) 10
    (low_bits 64 (pos (register m 2) +ℤ pos place)) (register m 2 + (128 + 8 * block.slot)) m sum
    (got_address begin (linked placing.program begin here.body) v.site_is.k 10 2 place (register m 2) m
    v.site_is.code_at v.site_is.pc there legal (omega arith) (omega arith) (λ q. omega (arith, q)) refl
    (omega (arith, ends, greatest)) v.at.stands.serves.registers)))

-- ---- from the outermost frame

-- it returns to the code of `start`, which ends the program
ended : (placing : Placing) (here : Here) (block : Block) (begin address value status : ℕ) (m : MachineState)
    (streams : Streams) → Leaves placing here block begin (address + 64) m
    → placing.program.address_of Routine (number_of Start) ≡ Some address
    → (l : Left here.body value (address + 64) m) → value % 256 ≡ status
    → Follows placing (24 + 5 * block.words) m streams (Ended status streams)
ended placing here block begin address value status m streams v named l is_status =
    let starts : Starts (routine_code Start) = has_effect Start in
    let e : EndsWithin 2 l.new streams (register l.new 10 % 256) streams =
    starts.ends address l.new streams
    (code_in_same_memory address (routine_code Start) m l.new
    (v.at.stands.serves.memory.routines Start address named) l.memory) l.registers l.pc in
    let few : l.count ≤ 17 = l.few in
    let few' : e.count ≤ 2 = e.few in
    let some : 0 < l.count = l.some in
    let same : register l.new 10 % 256 ≡ status = ap (λ n. n % 256) l.result ∙ is_status in
    record {
      count = l.count + e.count;
      some = omega (arith, some);
      few = omega (arith, few, few');
      related = subst (Related placing (Ended status streams))
          (sym (then_steps l.count e.count (Running m streams) l.new streams (Ended status streams) (l.runs streams)
          (e.ends ∙ ap (λ n. Ended n streams) same)))
          (AtEnd status streams);
    }

stuck : (placing : Placing) (here : Here) (block : Block) (begin : ℕ) (m : MachineState) (streams : Streams)
    → Site placing here (Return block) begin m
    → Follows placing (24 + 5 * block.words) m streams (Stopped WordCause.NoStep streams)
stuck placing here block begin m streams s =
    (followed_stuck placing here (Return block) begin (24 + 5 * block.words) m WordCause.NoStep streams streams s
    (omega arith)).follows

outermost_returned : (placing : Placing) → IsPlacing placing → (block : Block) (here : Here) (begin : ℕ)
    (m : MachineState) (streams : Streams) → IsAt placing here (Return block) begin m
    → Site placing here (Return block) begin m → here.below ≡ []
    → Follows placing (24 + 5 * block.words) m streams (ends_program here block streams)
outermost_returned placing is block here begin m streams at s alone =
    by (block.words == 0) refl (block.words == 1) refl
  where
    address : ℕ
    address = (is.routines Start).0

    named : placing.program.address_of Routine (number_of Start) ≡ Some address
    named = (is.routines Start).1

    near : address < reach
    near = is.near Routine (number_of Start) address named

    frames : here.state.frames ≡ here.frame ∷ []
    frames = at.frames ∙ ap (λ fs. here.frame ∷ fs) alone

    there : Number m (register m 2 + return_at) 8 (address + 64)
    there =
        let number : Number m here.frame.address 8 (address + 64) =
        subst (λ fs. Number m (outermost (lowest placing.program fs) fs) 8 (address + 64)) frames
        (at.stands.start address named) in
        let same : here.frame.address ≡ register m 2 + return_at =
        s.i.first.address ∙ (let e : register m 2 ≡ register m 2 + 0 = omega arith in e) in
        subst (λ a. Number m a 8 (address + 64)) same number

    aligned : address % 4 ≡ 0
    aligned = (at.stands.serves.memory.routines Start address named).aligned

    v : Leaves placing here block begin (address + 64) m
    v = record {
      is = is;
      at = at;
      site_is = s;
      word = word_back m (register m 2 + return_at) (address + 64) (omega (arith, near)) there;
      even = even_kept (address + 64) (omega (arith, aligned));
    }

    by_word : (block.words == 0) ≡ false → (block.words == 1) ≡ true → (o : Option ℕ) → word_in here block.slot ≡ o
        → Follows placing (24 + 5 * block.words) m streams (with o streams (λ word. Ended (word % 256) streams))
    by_word e e' None told = stuck placing here block begin m streams s
    by_word e e' (Some n) told =
        ended placing here block begin address n (n % 256) m streams v named
        (left_one placing here block begin (address + 64) n m v e e'
        (slot_stands placing here (Return block) begin m block.slot n is at s told)) refl

    by : (a : Bool) → (block.words == 0) ≡ a → (b : Bool) → (block.words == 1) ≡ b
        → Follows placing (24 + 5 * block.words) m streams
        (cond a (Ended 0 streams)
        (cond b (with (word_in here block.slot) streams (λ word. Ended (word % 256) streams))
        (Stopped WordCause.NoStep streams)))
    by true e b e' =
        ended placing here block begin address 0 0 m streams v named
        (left_none placing here block begin (address + 64) m v e) refl
    by false e true e' = by_word e e' (word_in here block.slot) refl
    by false e false e' = stuck placing here block begin m streams s

-- ---- to the frame below

-- the cells of a block
not_zero : (a : ℕ) → (a == 0) ≡ false → 0 < a
not_zero a e = grind (arith, nat_tests)

block_cells : (lies variable : Bool) (a n : ℕ) (memory : FlatMemory) (cells : List Cell)
    → option_and_then (λ p. copied memory p n) (cond lies (Some (cond variable (addresses + a) a)) None) ≡ Some cells
    → (lies ≡ true) × (copied memory (cond variable (addresses + a) a) n ≡ Some cells)
block_cells true variable a n memory cells e = (refl, e)
block_cells false variable a n memory cells e = cc

block_written : (lies variable : Bool) (a : ℕ) (memory new : FlatMemory) (cells : List Cell)
    → option_and_then (λ p. with_cells memory p cells) (cond lies (Some (cond variable (addresses + a) a)) None)
    ≡ Some new
    → (lies ≡ true) × (with_cells memory (cond variable (addresses + a) a) cells ≡ Some new)
block_written true variable a memory new cells e = (refl, e)
block_written false variable a memory new cells e = cc

-- a block of more than one word has no variable
plain_block : (body : LirBody) (block : Block) → fits body (of_block block) ≡ true → (block.words == 0) ≡ false
    → (block.words == 1) ≡ false → is_variable body (8 * block.slot / 8) ≡ false
plain_block body block fit e e' = by (is_variable body (8 * block.slot / 8)) refl
  where
    more : 1 < block.words
    more = grind (arith, nat_tests, e, e')

    by : (b : Bool) → is_variable body (8 * block.slot / 8) ≡ b → b ≡ false
    by true variable =
        let whole : (8 * block.slot ≡ 8 * (8 * block.slot / 8)) × (8 * block.words ≡ 8) =
        whole_of (8 * block.slot) (8 * block.words) (8 * block.slot / 8) refl (omega (arith, more))
        (holds_of_one (is_whole_or_apart (of_block block)) body.vars (8 * block.slot / 8)
        (second_of (lies_in_frame body.frame (of_block block))
        (list_all (is_whole_or_apart (of_block block)) body.vars) fit) variable) in
        absurd (let one : 8 * block.words ≡ 8 = whole.1 in omega (arith, one, more))
    by false variable = refl

-- The frame below has come to its next operation.
gone_on : (placing : Placing) (here there : Here) (begin ret most whole value : ℕ) (memory : FlatMemory)
    (m : MachineState)
    (streams : Streams) → (l : Left here.body value ret m) → Landed placing there begin most memory l.new
    → 17 + most ≤ whole → AreBytes streams
    → Follows placing whole m streams
    (Running (goes_on_at there.state there.frame there.below (there.frame.place + 1) memory) streams)
gone_on placing here there begin ret most whole value memory m streams l d enough bytes =
    let few : l.count ≤ 17 = l.few in
    let few' : d.count ≤ most = d.few in
    let some : 0 < l.count = l.some in
    let next : WordState = goes_on_at there.state there.frame there.below (there.frame.place + 1) memory in
    record {
      count = l.count + d.count;
      some = omega (arith, some);
      few = omega (arith, few, few', enough);
      related = subst (Related placing (Running next streams))
          (sym (then_steps l.count d.count (Running m streams) l.new streams (Running d.new streams) (l.runs streams)
          (d.goes.runs streams)))
          (AtOperation next d.new streams d.stands bytes);
    }

returned_below : (placing : Placing) → IsPlacing placing → (block : Block) (here : Here) (begin : ℕ) (m : MachineState)
    (streams : Streams) → IsAt placing here (Return block) begin m → Site placing here (Return block) begin m
    → (next : Frame) (others : List Frame) → here.below ≡ next ∷ others → AreBytes streams
    → Follows placing (24 + 5 * block.words) m streams (returns_to here block (next ∷ others) streams)
returned_below placing is block here begin m streams at s next others some bytes =
    by_cells (cells_here here (of_block block)) refl
  where
    held : Held
    held = held_at s.i.here (register m 2) (homes_in m)

    b : Below placing m held next
    b =
        below_of placing m held s.i.count next others
        (subst (λ fs. AllZip FrameTellsNoMore fs (map (frame_of m) (rest_of s.i.count placing m held))) some s.i.others)

    ret : ℕ
    ret = word_at m (register m 2 + return_at)

    w : IsWaiting placing ret b.caller
    w = b.is_waiting

    c : IsBehindCall b.caller.body b.caller.place w.k
    c = w.call

    op : LirOp
    op = call_of b.caller.body b.caller.place w.k c

    pc : ℕ
    pc = w.begin + 4 * c.stop

    there : Here
    there = here_below here b.caller.body next others s.i.here.body (register m 2)

    v : Leaves placing here block begin ret m
    v = record {
      is = is;
      at = at;
      site_is = s;
      word = refl;
      even = even_return placing here (Return block) begin m ret b.caller at w;
    }

    backs : (value : ℕ) → (l : Left here.body value ret m) → IsBack placing there op c.result w.begin pc l.new
    backs value l = back placing here (Return block) begin value m next others is at s some b l

    -- what the program does
    written : List Cell → Option FlatMemory
    written cells =
        option_and_then (λ place. with_cells there.state.memory place cells) (place_here there (of_block c.result))

    goes : FlatMemory → Run WordState WordCause
    goes memory = Running (goes_on_at there.state next others (next.place + 1) memory) streams

    memory_is : without_frame here.body here.frame.address here.state.memory ≡ there.state.memory
    memory_is =
        ap (λ a. without_frame here.body a here.state.memory) s.i.first.address
        ∙ ap (λ o. without_frame o (register m 2) here.state.memory) (sym s.body_is)

    body_there : here.program.body_of next.item ≡ Some b.caller.body
    body_there =
        ap (λ p. p.body_of next.item) at.program ∙ ap placing.program.body_of b.item ∙ w.body_there

    result_there : result_of (slice_get b.caller.body.ops next.place) ≡ Some c.result
    result_there =
        ap (λ n. result_of (slice_get b.caller.body.ops n)) b.place ∙ ap result_of c.there

    next_is : (cells : List Cell)
        → takes_cells here.program here.state block cells next others
        (without_frame here.body here.frame.address here.state.memory) streams
        ≡ cond (c.result.words == block.words) (with (written cells) streams goes) (Stopped WordCause.NoStep streams)
    next_is cells =
        ap (λ mem. takes_cells here.program here.state block cells next others mem streams) memory_is
        ∙ ap (λ o. with o streams (λ body. with (result_of (slice_get body.ops next.place)) streams
        (λ result. cond (result.words == block.words)
        (with (option_and_then (λ place. with_cells there.state.memory place cells)
        (place_in_frame body next.address (of_block result))) streams goes) (Stopped WordCause.NoStep streams))))
        body_there
        ∙ ap (λ o. with o streams (λ result. cond (result.words == block.words)
        (with (option_and_then (λ place. with_cells there.state.memory place cells)
        (place_in_frame b.caller.body next.address (of_block result))) streams goes)
        (Stopped WordCause.NoStep streams))) result_there

    -- where the block lies
    a : ℕ
    a = here.frame.address + 128 + 8 * block.slot

    t : ℕ
    t = next.address + 128 + 8 * c.result.slot

    read_of : (cells : List Cell) → cells_here here (of_block block) ≡ Some cells
        → (lies_in_frame here.body.frame (of_block block) ≡ true)
        × (copied here.state.memory (cond (is_variable here.body (8 * block.slot / 8)) (addresses + a) a)
        (8 * block.words) ≡ Some cells)
    read_of cells e =
        block_cells (lies_in_frame here.body.frame (of_block block)) (is_variable here.body (8 * block.slot / 8)) a
        (8 * block.words) here.state.memory cells e

    written_of : (cells : List Cell) (memory : FlatMemory) → written cells ≡ Some memory
        → (lies_in_frame b.caller.body.frame (of_block c.result) ≡ true)
        × (with_cells there.state.memory (cond (is_variable b.caller.body (8 * c.result.slot / 8)) (addresses + t) t)
        cells ≡ Some memory)
    written_of cells memory e =
        block_written (lies_in_frame b.caller.body.frame (of_block c.result))
        (is_variable b.caller.body (8 * c.result.slot / 8)) t there.state.memory memory cells e

    -- no word
    none : (cells : List Cell) (memory : FlatMemory) → cells_here here (of_block block) ≡ Some cells
        → written cells ≡ Some memory → c.result.words ≡ block.words → (block.words == 0) ≡ true
        → Follows placing (24 + 5 * block.words) m streams (goes memory)
    none cells memory e e' same zero_words =
        let p : ℕ = cond (is_variable here.body (8 * block.slot / 8)) (addresses + a) a in
        let q : ℕ = cond (is_variable b.caller.body (8 * c.result.slot / 8)) (addresses + t) t in
        let no_words : block.words ≡ 0 = equal_of block.words 0 zero_words in
        let none_are : [] ≡ cells =
        ap (λ n. cells_from here.state.memory p (8 * n)) (sym no_words)
        ∙ copied_are here.state.memory p (8 * block.words) cells (read_of cells e).1 in
        let memory_same : there.state.memory ≡ memory =
        ap (overwritten there.state.memory q) none_are
        ∙ (written_where there.state.memory memory q cells (written_of cells memory e').1).1 in
        let l : Left here.body 0 ret m = left_none placing here block begin ret m v zero_words in
        let k : IsBack placing there op c.result w.begin pc l.new = backs 0 l in
        let lines : takes_result there.body.vars c.result ≡ [] =
        ap (λ x. cond x [] (cond (c.result.words == 1)
        (puts_slot (home there.body.vars c.result.slot) 10 c.result.slot) (block_lines c.result)))
        (ap (λ n. n == 0) same ∙ zero_words) in
        let d : Landed placing there w.begin 0 there.state.memory l.new =
        landed_none placing there op w.begin k.far k.k pc l.new k.at k.its_site
        (at_equal placing.program w.begin there.body k.far k.k (takes_result there.body.vars c.result) [] l.new lines
        k.there)
        (k.last ∙ ap (λ ls. k.k + size_of (far_of there.body) k.far ls) lines
        ∙ (let sum : k.k + 0 ≡ k.k = omega arith in sum)) in
        subst (λ mem. Follows placing (24 + 5 * block.words) m streams (goes mem)) memory_same
        (gone_on placing here there w.begin ret 0 (24 + 5 * block.words) 0 there.state.memory m streams l d
        (omega arith)
        bytes)

    -- one
    one : (cells : List Cell) (memory : FlatMemory) → cells_here here (of_block block) ≡ Some cells
        → written cells ≡ Some memory → c.result.words ≡ block.words → (block.words == 0) ≡ false
        → (block.words == 1) ≡ true → Follows placing (24 + 5 * block.words) m streams (goes memory)
    one cells memory e e' same some_words one_word =
        let is_one : block.words ≡ 1 = equal_of block.words 1 one_word in
        let read : option_and_then (λ place. copied here.state.memory place 8) (place_here here (word block.slot))
        ≡ Some cells =
        ap (λ n. option_and_then (λ place. copied here.state.memory place (8 * n))
        (place_here here (words_from block.slot n))) (sym is_one) ∙ e in
        let gives : option_and_then (λ place. with_cells there.state.memory place cells)
        (place_here there (word c.result.slot)) ≡ Some memory =
        ap (λ n. option_and_then (λ place. with_cells there.state.memory place cells)
        (place_here there (words_from c.result.slot n))) (sym (same ∙ is_one)) ∙ e' in
        let sc : SlotCells placing here m block.slot cells =
        slot_cells placing here (Return block) begin m block.slot cells is at s read in
        let value : ℕ = sc.own.word in
        let l : Left here.body value ret m =
        left_one placing here block begin ret value m v some_words one_word sc.own.stands in
        let k : IsBack placing there op c.result w.begin pc l.new = backs value l in
        let puts : List Line = puts_slot (home there.body.vars c.result.slot) 10 c.result.slot in
        let lines : takes_result there.body.vars c.result ≡ puts =
        ap (λ x. cond x [] (cond (c.result.words == 1) puts (block_lines c.result)))
        (ap (λ n. n == 0) same ∙ some_words)
        ∙ ap (λ x. cond x puts (block_lines c.result)) (ap (λ n. n == 1) same ∙ one_word) in
        let d : Landed placing there w.begin 4 memory l.new =
        landed_word placing there op w.begin k.far k.k pc c.result.slot value cells memory l.new is k.at k.its_site
        (at_equal placing.program w.begin there.body k.far k.k (takes_result there.body.vars c.result) puts l.new lines
        k.there)
        (k.last ∙ ap (λ ls. k.k + size_of (far_of there.body) k.far ls) lines) l.result sc.own.stands.small sc.size
        sc.told gives in
        gone_on placing here there w.begin ret 4 (24 + 5 * block.words) value memory m streams l d
        (omega (arith, is_one))
        bytes

    -- more
    more : (cells : List Cell) (memory : FlatMemory) → cells_here here (of_block block) ≡ Some cells
        → written cells ≡ Some memory → c.result.words ≡ block.words → (block.words == 0) ≡ false
        → (block.words == 1) ≡ false → Follows placing (24 + 5 * block.words) m streams (goes memory)
    more cells memory e e' same not_0 not_1 =
        let n : ℕ = 8 * block.words in
        let found = read_of cells e in
        let ends : 128 + 8 * block.slot + n ≤ here.body.frame =
        leb-true (128 + 8 * block.slot + n) here.body.frame found.0 in
        let fit : fits here.body (of_block block) ≡ true =
        first_of (fits here.body (of_block block)) true (parts_fit placing is here (Return block) begin m at).0 in
        let plain : is_variable here.body (8 * block.slot / 8) ≡ false = plain_block here.body block fit not_0 not_1 in
        let read : copied here.state.memory a n ≡ Some cells =
        subst (λ x. copied here.state.memory (cond x (addresses + a) a) n ≡ Some cells) plain found.1 in
        let some_words : 0 < block.words = not_zero block.words not_0 in
        let room : HasRoom placing here.frame.address here.body = room_here placing here (Return block) begin m is at in
        let top : here.frame.address + here.body.frame + 128 ≤ addresses =
        below_all placing here.frame.address here.body is room in
        let fc : FlatCells placing m a n cells =
        flat_cells placing here.state m a n cells is at.stands (omega (arith, some_words)) (omega (arith, ends, top))
        read in
        let from : ℕ = register m 2 + (128 + 8 * block.slot) in
        let from_is : a ≡ from = let q : here.frame.address ≡ register m 2 = s.i.first.address in omega (arith, q) in
        let l : Left here.body from ret m =
        left_more placing here block begin ret m v not_0 not_1 (omega (arith, ends)) in
        let k : IsBack placing there op c.result w.begin pc l.new = backs from l in
        let fit' : fits there.body (of_block c.result) ≡ true =
        first_of (fits there.body (of_block c.result))
        (list_all (fits there.body) (of_block c.cleared ∷ (of_callee c.callee
        ++ (word_if c.dictionary ++ map of_argument c.arguments))))
        (parts_fit placing is there op w.begin (at_pc pc l.new) k.at).0 in
        let plain' : is_variable there.body (8 * c.result.slot / 8) ≡ false =
        plain_block there.body c.result fit' (ap (λ x. x == 0) same ∙ not_0) (ap (λ x. x == 1) same ∙ not_1) in
        let found' = written_of cells memory e' in
        let ends' : 128 + 8 * c.result.slot + 8 * c.result.words ≤ there.body.frame =
        leb-true (128 + 8 * c.result.slot + 8 * c.result.words) there.body.frame found'.0 in
        let gives : with_cells there.state.memory t cells ≡ Some memory =
        subst (λ x. with_cells there.state.memory (cond x (addresses + t) t) cells ≡ Some memory) plain' found'.1 in
        let lines : takes_result there.body.vars c.result ≡ block_lines c.result =
        ap (λ x. cond x [] (cond (c.result.words == 1)
        (puts_slot (home there.body.vars c.result.slot) 10 c.result.slot) (block_lines c.result)))
        (ap (λ x. x == 0) same ∙ not_0)
        ∙ ap (λ x. cond x (puts_slot (home there.body.vars c.result.slot) 10 c.result.slot) (block_lines c.result))
        (ap (λ x. x == 1) same ∙ not_1) in
        let size : length fc.bytes ≡ 8 * c.result.words = omega (arith, fc.size, same) in
        let frame : register l.new 2 ≡ register m 2 + here.body.frame = l.frame in
        let d : Landed placing there w.begin (7 + 5 * c.result.words) memory l.new =
        landed_block placing there op w.begin k.far k.k pc from c.result fc.bytes cells memory l.new is k.at k.its_site
        (at_equal placing.program w.begin there.body k.far k.k (takes_result there.body.vars c.result)
        (block_lines c.result) l.new lines k.there)
        (k.last ∙ ap (λ ls. k.k + size_of (far_of there.body) k.far ls) lines) l.result
        (omega (arith, some_words, same)) ends' size
        (subst (λ x. Bytes l.new x fc.bytes) from_is (same_bytes m l.new a fc.bytes l.memory fc.there)) fc.small
        (subst (λ x. MayRead l.new x (length fc.bytes)) from_is
        (subst (λ x. MayRead l.new a x) (sym fc.size)
        (ap (λ ss. is_allowed (λ g. g.read) ss a n) l.memory ∙ fc.may)))
        (omega (arith, frame, ends, fc.size)) (fc.cells_size ∙ sym fc.size) fc.told gives in
        gone_on placing here there w.begin ret (7 + 5 * c.result.words) (24 + 5 * block.words) from memory m streams l d
        (omega (arith, same)) bytes

    by_words : (cells : List Cell) (memory : FlatMemory) → cells_here here (of_block block) ≡ Some cells
        → written cells ≡ Some memory → c.result.words ≡ block.words → (x : Bool) → (block.words == 0) ≡ x → (y : Bool)
        → (block.words == 1) ≡ y → Follows placing (24 + 5 * block.words) m streams (goes memory)
    by_words cells memory e e' same true q y q' = none cells memory e e' same q
    by_words cells memory e e' same false q true q' = one cells memory e e' same q q'
    by_words cells memory e e' same false q false q' = more cells memory e e' same q q'

    by_written : (cells : List Cell) → cells_here here (of_block block) ≡ Some cells → c.result.words ≡ block.words
        → (o : Option FlatMemory) → written cells ≡ o
        → Follows placing (24 + 5 * block.words) m streams (with o streams goes)
    by_written cells e same None e' = stuck placing here block begin m streams s
    by_written cells e same (Some memory) e' =
        by_words cells memory e e' same (block.words == 0) refl (block.words == 1) refl

    by_same : (cells : List Cell) → cells_here here (of_block block) ≡ Some cells → (x : Bool)
        → (c.result.words == block.words) ≡ x
        → Follows placing (24 + 5 * block.words) m streams
        (cond x (with (written cells) streams goes) (Stopped WordCause.NoStep streams))
    by_same cells e true q = by_written cells e (equal_of c.result.words block.words q) (written cells) refl
    by_same cells e false q = stuck placing here block begin m streams s

    by_cells : (o : Option (List Cell)) → cells_here here (of_block block) ≡ o
        → Follows placing (24 + 5 * block.words) m streams
        (with o streams (λ cells. takes_cells here.program here.state block cells next others
        (without_frame here.body here.frame.address here.state.memory) streams))
    by_cells None e = stuck placing here block begin m streams s
    by_cells (Some cells) e =
        subst (Follows placing (24 + 5 * block.words) m streams) (sym (next_is cells))
        (by_same cells e (c.result.words == block.words) refl)

-- ---- all of it

pub return_followed : (placing : Placing) → IsPlacing placing → (block : Block) → IsFollowed placing (Return block)
return_followed placing is block here begin m streams at bytes = by here.below refl
  where
    s : Site placing here (Return block) begin m
    s = site placing here (Return block) begin m is at

    by : (below : List Frame) → here.below ≡ below
        → Follows placing (24 + 5 * block.words) m streams (returns_to here block below streams)
    by [] e = outermost_returned placing is block here begin m streams at s e
    by (next ∷ others) e = returned_below placing is block here begin m streams at s next others e bytes

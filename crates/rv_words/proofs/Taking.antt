-- How the result of a call, or of a routine, comes to its slots.
use Rattle.std.proofs.Common.{◌≡◌, ◌∙◌, ◌⊎◌, inl, inr, ℕ, ◌+◌, ◌-◌, ◌*◌, ◌/◌, ◌%◌, ◌^◌, ◌<◌, ◌≤◌, Bool, true, false}
use Rattle.std.proofs.Common.{cond, List, [], ◌∷◌, ◌++◌, length, map, Option, Some, None, All, pos, ◌+ℤ◌, arith, refl}
use Rattle.std.proofs.Common.{ap}
use Rattle.std.proofs.Common.{sym, subst, slice_index}
use Rattle.std.proofs.lemmas.List.{append-nil}
use Rattle.std.specs.List.{AllZip, list_all}
use Rattle.std.specs.Option.{option_and_then}
use Rattle.std.proofs.lemmas.Bool.{leb-true}
use Rattle.byteorder.specs.Endian.{little_bytes}
use Rattle.num_core.specs.Bits.{low_bits}
use Rattle.num_core.specs.Run.{Running, Streams}
use Rattle.rv_isa.specs.declared.ins.Ins.{Ins}
use Rattle.rv_step.specs.Machine.{MachineState, register}
use Rattle.rv_step.specs.Memory.{AreApart, Bytes, MayRead, MayWrite, Writes, is_allowed}
use Rattle.rv_code.specs.Code.{given}
use Rattle.rv_code.proofs.Going.{same_bytes}
use Rattle.lir_core.specs.Check.{lies_in_frame}
use Rattle.lir_core.specs.Memory.{Byte, Cell, FlatMemory, cells_from, is_own, overwritten, with_cells}
use Rattle.lir_core.specs.Pieces.{of_block, word}
use Rattle.lir_core.specs.Slots.{Here, addresses, is_variable, place_here}
use Rattle.lir_core.specs.Tells.{CellTellsNoMore}
use Rattle.lir_core.specs.declared.body.LirBody.{LirBody}
use Rattle.lir_core.specs.declared.op.Block.{Block}
use Rattle.lir_core.specs.declared.op.LirOp.{LirOp}
use Rattle.rt_code.proofs.Machines.{sum_of, writes_between}
use Rattle.rv_lines.specs.Frame.{home, slot_place}
use Rattle.rv_lines.specs.Moving.{passes_words}
use Rattle.rv_lines.specs.Operands.{gets_address, puts_slot}
use Rattle.rv_lines.specs.declared.line.Line.{Line}
use Rattle.rv_lines.specs.declared.line.Line.TheVariants.{Single}
use Rattle.rv_gen.specs.Lines.{op_lines}
use Rattle.rv_gen.specs.Placing.{code_of}
use Rattle.rv_words.specs.Groups.{IsAt}
use Rattle.rv_words.specs.Linked.{linked}
use Rattle.rv_words.specs.Placing.{IsPlacing, Placing, data_bytes}
use Rattle.rv_words.specs.Stands.{Stands}
use Rattle.rv_words.specs.Words.{stands_at}
use Rattle.rv_words.proofs.ConstantCode.{address_short, singles}
use Rattle.rv_words.proofs.Copied.{PastGot, kept_but, past_address, past_singles}
use Rattle.rv_words.proofs.Going.{Goes, goes_given, goes_nowhere, goes_on}
use Rattle.rv_words.proofs.Got.{got_at, got_once}
use Rattle.rv_words.proofs.Homed.{Homed, stands_homed}
use Rattle.rv_words.proofs.Homes.{home_bound, home_variable}
use Rattle.rv_words.proofs.JumpLaws.{spot_there}
use Rattle.rv_words.proofs.Lines.{AtLines, at_equal, first_code, size_singles}
use Rattle.rv_words.proofs.LinkedCode.{size_of}
use Rattle.rv_words.proofs.Moved.{KeepsOwn, keeps_through, stands_moved}
use Rattle.rv_words.proofs.Operands.{free_5, free_6}
use Rattle.rv_words.proofs.Passing.{AreSmall, CanPass, PastBytes, all_small, aside_keeps, few_words_within, past_words}
use Rattle.rv_words.proofs.Places.{far_of}
use Rattle.rv_words.proofs.Reading.{room_here}
use Rattle.rv_words.proofs.Registers.{given_has, given_other, given_same}
use Rattle.rv_words.proofs.Results.{PutWord, all_owned, put_word, store_code, store_singles, writing, written_where}
use Rattle.rv_words.proofs.Room.{HasRoom, below_all, in_data, may_write}
use Rattle.rv_words.proofs.Sites.{Site, linked_length}
use Rattle.rv_words.proofs.Slotted.{IsPut, stands_put}
use Rattle.rv_words.proofs.Standing.{goes_on_at}
use Rattle.rv_words.proofs.Stored.{stands_flat}

-- a machine at another place
abbrev pub at_pc : ℕ → MachineState → MachineState
at_pc pc m = record m { pc = pc }

pub keeps_at : (pc : ℕ) (m : MachineState) → KeepsOwn (at_pc pc m) m
keeps_at pc m = record { frame = refl; homes = λ k h. refl; lowest = refl; heap = refl }

-- The machine has come to the next operation, and stands there with what the program has in memory then.
pub record Landed (placing : Placing) (here : Here) (begin most : ℕ) (memory : FlatMemory) (w : MachineState)
    : Type 0 where
  pub new : MachineState
  pub place : ℕ
  pub count : ℕ
  pub few : count ≤ most
  pub goes : Goes begin (linked placing.program begin here.body) place count w new
  pub stands : Stands placing (goes_on_at here.state here.frame here.below (here.frame.place + 1) memory) new

-- where the next operation begins
pub next_spot : (placing : Placing) (here : Here) (operation : LirOp) (begin to : ℕ) (m new : MachineState)
    → (s : Site placing here operation begin m)
    → s.k + size_of (far_of here.body) s.far_at (op_lines here.body operation) ≡ to → new.pc ≡ begin + 4 * to
    → stands_at placing new.pc
    ≡ Some (record { item = s.i.here.item; body = s.i.here.body; place = here.frame.place + 1 })
next_spot placing here operation begin to m new s e pc =
    let end : s.k + size_of (far_of here.body) s.far_at (op_lines here.body operation) ≤ length (code_of here.body) =
    s.end in
    let room : 0 < size_of (far_of here.body) s.far_at (op_lines here.body operation) = s.some_room in
    spot_there placing here operation begin to (here.frame.place + 1) m new s (s.next ∙ ap Some e)
    (omega (arith, e, room)) (omega (arith, e, end)) pc

-- ---- no word

-- Nothing is to be done.
pub landed_none : (placing : Placing) (here : Here) (operation : LirOp) (begin far k pc : ℕ) (w : MachineState)
    → IsAt placing here operation begin (at_pc pc w) → (s : Site placing here operation begin (at_pc pc w))
    → AtLines placing.program begin here.body far k [] w
    → s.k + size_of (far_of here.body) s.far_at (op_lines here.body operation) ≡ k
    → Landed placing here begin 0 here.state.memory w
landed_none placing here operation begin far k pc w at s there last = record {
  new = w;
  place = k;
  count = 0;
  few = omega arith;
  goes = goes_nowhere begin (linked placing.program begin here.body) k w there.code_at there.pc;
  stands = stands_moved placing here.state (at_pc pc w) w here.frame here.below (here.frame.place + 1) at.stands
      at.frames s.i (next_spot placing here operation begin k (at_pc pc w) w s last there.pc) refl (keeps_at pc w)
      there.registers;
}

-- ---- one word, from x10

pub landed_word : (placing : Placing) (here : Here) (operation : LirOp) (begin far k pc to value : ℕ)
    (cells : List Cell) (memory : FlatMemory) (w : MachineState) → IsPlacing placing
    → IsAt placing here operation begin (at_pc pc w) → (s : Site placing here operation begin (at_pc pc w))
    → AtLines placing.program begin here.body far k (puts_slot (home here.body.vars to) 10 to) w
    → s.k + size_of (far_of here.body) s.far_at (op_lines here.body operation)
    ≡ k + size_of (far_of here.body) far (puts_slot (home here.body.vars to) 10 to)
    → register w 10 ≡ value → value < 2 ^ 64 → length cells ≡ 8
    → AllZip CellTellsNoMore cells (map Byte (little_bytes 8 value))
    → option_and_then (λ place. with_cells here.state.memory place cells) (place_here here (word to)) ≡ Some memory
    → Landed placing here begin 4 memory w
landed_word placing here operation begin far k pc to value cells memory w is at s there last has small size told gives =
    by_home (home here.body.vars to) refl there last
  where
    m : MachineState
    m = at_pc pc w

    body : LirBody
    body = here.body

    code : List Ins
    code = linked placing.program begin body

    a : ℕ
    a = here.frame.address + 128 + 8 * to

    found : (lies_in_frame body.frame (word to) ≡ true)
        × (with_cells here.state.memory (cond (is_variable body (8 * to / 8)) (addresses + a) a) cells ≡ Some memory)
    found =
        writing (lies_in_frame body.frame (word to)) (is_variable body (8 * to / 8)) a here.state.memory memory cells
        gives

    variable_is : is_variable body (8 * to / 8) ≡ is_variable body to
    variable_is = let e : 8 * to / 8 ≡ to = omega arith in ap (is_variable body) e

    ends : 128 + 8 * to + 8 ≤ body.frame
    ends = leb-true (128 + 8 * to + 8) body.frame found.0

    same : here.frame.address ≡ register m 2
    same = s.i.first.address

    a_is : a ≡ register m 2 + slot_place to
    a_is = omega (arith, same)

    a' : ℕ
    a' = register m 2 + slot_place to

    place : Bool → ℕ
    place b = cond b (addresses + a') a'

    done : with_cells here.state.memory (place (is_variable body to)) cells ≡ Some memory
    done =
        subst (λ x. with_cells here.state.memory (cond (is_variable body to) (addresses + x) x) cells ≡ Some memory)
        a_is
        (subst (λ b. with_cells here.state.memory (cond b (addresses + a) a) cells ≡ Some memory) variable_is found.1)

    parts : (list_all is_own (cells_from here.state.memory (place (is_variable body to)) (length cells)) ≡ true)
        × (overwritten here.state.memory (place (is_variable body to)) cells ≡ memory)
    parts = written_where here.state.memory memory (place (is_variable body to)) cells done

    owned : (x : ℕ) → place (is_variable body to) ≤ x → x < place (is_variable body to) + 8
        → is_own (here.state.memory x) ≡ true
    owned =
        all_owned here.state.memory (place (is_variable body to)) 8
        (subst (λ n. list_all is_own (cells_from here.state.memory (place (is_variable body to)) n) ≡ true) size
        parts.0)

    fits_here : slot_place to + 8 ≤ s.i.here.body.frame
    fits_here = subst (λ c. slot_place to + 8 ≤ c.frame) (sym s.body_is) (omega (arith, ends))

    room : HasRoom placing here.frame.address body
    room = room_here placing here operation begin m is at

    finish : (count to' : ℕ) (new : MachineState) → count ≤ 4 → Goes begin code to' count w new
        → Stands placing (goes_on_at here.state here.frame here.below (here.frame.place + 1)
        (overwritten here.state.memory (place (is_variable body to)) cells)) new
        → Landed placing here begin 4 memory w
    finish count to' new few goes stands = record {
      new = new;
      place = to';
      count = count;
      few = few;
      goes = goes;
      stands = subst (λ mem. Stands placing (goes_on_at here.state here.frame here.below
          (here.frame.place + 1) mem) new) parts.1 stands;
    }

    by_home : (o : Option ℕ) → home body.vars to ≡ o
        → AtLines placing.program begin body far k (puts_slot o 10 to) w
        → s.k + size_of (far_of body) s.far_at (op_lines body operation) ≡ k + size_of (far_of body) far
        (puts_slot o 10 to)
        → Landed placing here begin 4 memory w
    by_home (Some r) e there sizes =
        let bound = home_bound body.vars to r e in
        let low : 18 ≤ r = bound.0 in
        let high : r < 26 = bound.2 in
        let r_is : r ≡ 18 + (r - 18) = omega (arith, low) in
        let home_is : home s.i.here.body.vars to ≡ Some (18 + (r - 18)) =
        ap (λ c. home c.vars to) s.body_is ∙ e ∙ ap Some r_is in
        let variable : is_variable body to ≡ true = home_variable body.vars to r e in
        let variable' : is_variable s.i.here.body to ≡ true = ap (λ c. is_variable c to) s.body_is ∙ variable in
        let new : MachineState = given r value w in
        let moved : low_bits 64 (pos (register w 10) +ℤ pos 0) ≡ value =
        ap (λ x. low_bits 64 (pos x +ℤ pos 0)) has ∙ omega (arith, small) in
        let step : Goes begin code (k + 1) 1 w new =
        goes_given begin code k (Ins.Addi r 10 (pos 0)) r value w there.code_at there.pc there.block.0 there.legal.0
        (λ ss. ap (λ x. Running (given r x w) ss) moved) in
        let homed : Homed m new (r - 18) value = record {
          memory = refl;
          registers = given_has r value w small there.registers;
          word = ap (register new) (sym r_is) ∙ given_same r value w (omega (arith, low)) (omega (arith, high))
              there.registers;
          frame = given_other r 2 value w (λ q. omega (arith, q, low));
          lowest = given_other r 26 value w (λ q. omega (arith, q, high));
          heap = given_other r 27 value w (λ q. omega (arith, q, high));
          others = λ j h ne. given_other r (18 + j) value w (λ q. ne (omega (arith, q)));
        } in
        let last' : s.k + size_of (far_of body) s.far_at (op_lines body operation) ≡ k + 1 = omega (arith, sizes) in
        let stands : Stands placing (goes_on_at here.state here.frame here.below (here.frame.place + 1)
        (overwritten here.state.memory (addresses + a') cells)) new =
        stands_homed placing here.state m new here.frame here.below (here.frame.place + 1) (r - 18) value to cells
        at.stands at.frames s.i (next_spot placing here operation begin (k + 1) m new s last' step.pc) homed home_is
        (omega (arith, low, high)) variable' fits_here size told
        (λ x l h. owned x (subst (λ b. place b ≤ x) (sym variable) l) (subst (λ b. x < place b + 8)
        (sym variable) h)) in
        finish 1 (k + 1) new (omega arith) step
        (subst (λ b. Stands placing (goes_on_at here.state here.frame here.below (here.frame.place + 1)
        (overwritten here.state.memory (place b) cells)) new) (sym variable) stands)
    by_home None e there sizes =
        let lines : List Ins = store_code 10 2 (slot_place to) in
        let first = first_code placing.program begin body far k lines w
        (at_equal placing.program begin body far k (puts_slot None 10 to) (singles lines) w
        (store_singles 10 2 (slot_place to)) there) in
        let most_frame : body.frame ≤ 65536 = body.frame_size.greatest in
        let top : here.frame.address + body.frame + 128 ≤ addresses =
        below_all placing here.frame.address body is room in
        let may : MayWrite w a' 8 =
        may_write placing m here.frame.address body a' 8 is at.stands.serves.memory room (omega (arith, same))
        (omega (arith, same, ends)) in
        let inside = in_data placing here.frame.address body a' 8 is room (omega (arith, same)) (omega
        (arith, same, ends)) in
        let code_below : begin + 4 * length (code_of body) ≤ placing.lowest_data = s.placed.below_data in
        let code_apart : AreApart a' 8 begin (4 * length code) =
        inr (omega (arith, code_below, inside.0, linked_length placing.program begin body)) in
        let q : PutWord begin code (k + length lines) 4 a' value w =
        put_word begin code k 10 (slot_place to) a' value w there.code_at there.pc first.0 first.1
        (λ e'. omega (arith, e')) has refl (omega (arith, top, same, ends)) (omega (arith, ends, most_frame)) may
        code_apart there.registers in
        let own_size : size_of (far_of body) far (puts_slot None 10 to) ≡ length lines =
        ap (size_of (far_of body) far) (store_singles 10 2 (slot_place to)) ∙ size_singles (far_of body) far lines in
        let last' : s.k + size_of (far_of body) s.far_at (op_lines body operation) ≡ k + length lines =
        omega (arith, sizes, own_size) in
        let put : IsPut placing here.state m q.new here.frame here.below body to value = record {
          body_there = at.body;
          at = same;
          fits = omega (arith, ends);
          small = small;
          writes = writes_between a' (little_bytes 8 value) w m q.new q.new refl refl q.writes;
          keeps = keeps_through m w q.new (keeps_at pc w) q.keeps;
          registers = q.registers;
        } in
        finish q.count (k + length lines) q.new q.few q.goes
        (stands_put placing here.state m q.new here.frame here.below body (here.frame.place + 1) to value cells
        (is_variable body to) is at.stands at.frames s.i s.body_is
        (next_spot placing here operation begin (k + length lines) m q.new s last' q.goes.pc) put e refl size told
        owned)

-- ---- more words, from where x10 says

-- the lines of more than one word
abbrev pub block_lines : Block → List Line
block_lines block =
    Single (Ins.Addi 5 10 (pos 0)) ∷ (gets_address 6 2 (slot_place block.slot) ++ passes_words block.words)

pub landed_block : (placing : Placing) (here : Here) (operation : LirOp) (begin far k pc from : ℕ) (block : Block)
    (bytes : List ℕ) (cells : List Cell) (memory : FlatMemory) (w : MachineState) → IsPlacing placing
    → IsAt placing here operation begin (at_pc pc w) → (s : Site placing here operation begin (at_pc pc w))
    → AtLines placing.program begin here.body far k (block_lines block) w
    → s.k + size_of (far_of here.body) s.far_at (op_lines here.body operation)
    ≡ k + size_of (far_of here.body) far (block_lines block)
    → register w 10 ≡ from → 0 < block.words → 128 + 8 * block.slot + 8 * block.words ≤ here.body.frame
    → length bytes ≡ 8 * block.words → Bytes w from bytes → AreSmall bytes → MayRead w from (length bytes)
    → from + length bytes ≤ register w 2
    → length cells ≡ length bytes → AllZip CellTellsNoMore cells (map Byte bytes)
    → with_cells here.state.memory (here.frame.address + 128 + 8 * block.slot) cells ≡ Some memory
    → Landed placing here begin (7 + 5 * block.words) memory w
landed_block placing here operation begin far k pc from block bytes cells memory w is at s there last has some ends size
    bytes_there small may_read below cells_size told gives =
    record {
      new = three.past.new;
      place = three.past.place;
      count = one.past.count + (two.past.count + three.past.count);
      few = omega (arith, few_1, few_2, few_3);
      goes = goes_on begin code one.past.place three.past.place one.past.count (two.past.count + three.past.count) w m1
          three.past.new one.past.goes
          (goes_on begin code two.past.place three.past.place two.past.count three.past.count m1 m2 three.past.new
          two.past.goes three.past.goes);
      stands = subst (λ mem. Stands placing (goes_on_at here.state here.frame here.below
          (here.frame.place + 1) mem) three.past.new) parts.1
          (stands_flat placing here.state m three.past.new here.frame here.below (here.frame.place + 1) t bytes cells is
          at.stands at.frames s.i
          (next_spot placing here operation begin three.past.place m three.past.new s at_end three.past.at.pc) writes
          keeps
          three.past.at.registers (omega (arith, size, some)) (omega (arith, to_fits)) cells_size told
          (all_small bytes small)
          (λ x low high. all_owned here.state.memory t (length cells) parts.0 x low (omega (arith, high, cells_size))));
    }
  where
    m : MachineState
    m = at_pc pc w

    body : LirBody
    body = here.body

    code : List Ins
    code = linked placing.program begin body

    n : ℕ
    n = block.words

    t : ℕ
    t = here.frame.address + 128 + 8 * block.slot

    same : here.frame.address ≡ register w 2
    same = s.i.first.address

    room : HasRoom placing here.frame.address body
    room = room_here placing here operation begin m is at

    top : here.frame.address + body.frame + 128 ≤ addresses
    top = below_all placing here.frame.address body is room

    greatest : body.frame ≤ 65536
    greatest = body.frame_size.greatest

    to_fits : t + length bytes + 128 ≤ addresses
    to_fits = omega (arith, top, ends, size)

    parts : (list_all is_own (cells_from here.state.memory t (length cells)) ≡ true)
        × (overwritten here.state.memory t cells ≡ memory)
    parts = written_where here.state.memory memory t cells gives

    rest_1 : List Line
    rest_1 = gets_address 6 2 (slot_place block.slot) ++ passes_words n

    from_small : from < 2 ^ 64
    from_small = omega (arith, below, same, top)

    one : PastGot placing.program begin body far k 1 5 from (block_lines block) rest_1 w
    one =
        past_singles placing.program begin body far k 1 5 from (Single (Ins.Addi 5 10 (pos 0)) ∷ []) rest_1
        (Ins.Addi 5 10 (pos 0) ∷ []) w there refl
        (λ block' legal. got_once begin code k (Ins.Addi 5 10 (pos 0)) 5 from w there.code_at there.pc block'.0 legal.0
        (λ ss. ap (λ x. Running (given 5 x w) ss)
        (ap (λ x. low_bits 64 (pos x +ℤ pos 0)) has ∙ (let e : low_bits 64 (pos from +ℤ pos 0) ≡ from = omega
        (arith, from_small) in e))) (omega arith) (omega arith) from_small there.registers)

    m1 : MachineState
    m1 = one.past.new

    frame_1 : register m1 2 ≡ register w 2
    frame_1 = one.others 2 (λ e. omega (arith, e)) (λ e. omega (arith, e))

    v : ℕ
    v = low_bits 64 (pos (register w 2) +ℤ pos (slot_place block.slot))

    v_is : v ≡ t
    v_is = sum_of (register w 2) (slot_place block.slot) (omega (arith, same, to_fits)) ∙ omega (arith, same)

    two : PastGot placing.program begin body one.past.far one.past.place 3 6 v rest_1 (passes_words n) m1
    two =
        past_address placing.program begin body one.past.far one.past.place 3 6 2 (slot_place block.slot) (register w 2)
        (passes_words n) m1 one.past.at (omega arith) (omega arith) (λ e. omega (arith, e)) frame_1
        (omega (arith, ends, greatest)) (address_short 6 2 (slot_place block.slot) (omega (arith, ends, greatest)))

    m2 : MachineState
    m2 = two.past.new

    memory_2 : m2.segments ≡ w.segments
    memory_2 = two.memory ∙ one.memory

    x5 : register m2 5 ≡ from
    x5 = two.others 5 (λ e. omega (arith, e)) (λ e. omega (arith, e)) ∙ one.has

    inside : (placing.lowest_data ≤ t) × (t + length bytes ≤ placing.lowest_data + data_bytes placing)
    inside = in_data placing here.frame.address body t (length bytes) is room (omega arith) (omega (arith, ends, size))

    can : CanPass begin code from t bytes m2
    can =
        let code_below : begin + 4 * length (code_of body) ≤ placing.lowest_data = s.placed.below_data in
        record {
          read = ap (λ ss. is_allowed (λ g. g.read) ss from (length bytes)) memory_2 ∙ may_read;
          write = ap (λ ss. is_allowed (λ g. g.write) ss t (length bytes)) memory_2
              ∙ may_write placing m here.frame.address body t (length bytes) is at.stands.serves.memory room
              (omega arith) (omega (arith, ends, size));
          there = same_bytes w m2 from bytes memory_2 bytes_there;
          small = small;
          order = inr (omega (arith, below, same));
          from_fits = omega (arith, below, same, top);
          to_fits = omega (arith, to_fits);
          apart = inr (omega (arith, code_below, inside.0, linked_length placing.program begin body));
        }

    three : PastBytes placing.program begin body two.past.far two.past.place (3 + 5 * n) from t bytes
        (passes_words n ++ []) [] m2
    three =
        past_words placing.program begin body two.past.far two.past.place n from t (3 + 5 * n) bytes [] m2
        (at_equal placing.program begin body two.past.far two.past.place (passes_words n) (passes_words n ++ []) m2
        (sym (append-nil (passes_words n))) two.past.at) x5 (two.has ∙ v_is) can size
        (few_words_within n (omega (arith, ends, greatest)))

    few_1 : one.past.count ≤ 1
    few_1 = one.past.few

    few_2 : two.past.count ≤ 3
    few_2 = two.past.few

    few_3 : three.past.count ≤ 3 + 5 * n
    few_3 = three.past.few

    at_end : s.k + size_of (far_of body) s.far_at (op_lines body operation) ≡ three.past.place
    at_end =
        last ∙ one.past.size ∙ two.past.size
        ∙ ap (λ ls. two.past.place + size_of (far_of body) two.past.far ls) (sym (append-nil (passes_words n)))
        ∙ three.past.size ∙ (let e : three.past.place + 0 ≡ three.past.place = omega arith in e)

    writes : Writes t bytes m three.past.new
    writes = writes_between t bytes m2 m three.past.new three.past.new (sym memory_2) refl three.writes

    keeps : KeepsOwn m three.past.new
    keeps =
        keeps_through m w three.past.new (keeps_at pc w)
        (keeps_through w m2 three.past.new
        (keeps_through w m1 m2 (kept_but 5 w m1 free_5 one.others) (kept_but 6 m1 m2 free_6 two.others))
        (aside_keeps m2 three.past.new three.others))

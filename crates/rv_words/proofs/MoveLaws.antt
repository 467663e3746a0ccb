-- Words that are moved from a slot to another.
use Rattle.std.proofs.Common.{◌≡◌, ◌∙◌, ℕ, ◌+◌, ◌-◌, ◌*◌, ◌/◌, ◌^◌, ◌<◌, ◌≤◌, Bool, true, false, cond, pos, ◌+ℤ◌}
use Rattle.std.proofs.Common.{List, [], ◌∷◌, length, map, Option, Some, None, arith, refl, ap, sym, subst}
use Rattle.std.specs.List.{AllZip, list_all}
use Rattle.std.specs.Option.{option_and_then}
use Rattle.byteorder.specs.Endian.{little_bytes}
use Rattle.byteorder.specs.Numbers.{length-bytes_low_first}
use Rattle.num_core.specs.Bits.{low_bits}
use Rattle.num_core.specs.Run.{Running, Streams}
use Rattle.num_core.specs.declared.kind.Narrow.TheVariants.{I8}
use Rattle.rv_isa.specs.declared.ins.Ins.{Ins}
use Rattle.rv_step.specs.Machine.{MachineState, register}
use Rattle.rv_code.specs.Code.{AllLegal, BlockAt, CodeAt, given}
use Rattle.rv_code.specs.Registers.{HasRegisters}
use Rattle.lir_core.specs.Check.{lies_in_frame}
use Rattle.lir_core.specs.Memory.{Byte, Cell, FlatMemory, cells_from, copied, is_own, with_cells}
use Rattle.lir_core.specs.Pieces.{word}
use Rattle.lir_core.specs.Program.{with}
use Rattle.lir_core.specs.Slots.{Here, addresses, goes_on_with, is_variable, place_here}
use Rattle.lir_core.specs.State.{WordCause}
use Rattle.lir_core.specs.Tells.{CellTellsNoMore}
use Rattle.lir_core.specs.declared.op.LirOp.{LirOp}
use Rattle.lir_core.specs.declared.op.LirOp.TheVariants.{Move}
use Rattle.lir_core.proofs.Telling.{all_from}
use Rattle.rv_lines.specs.Frame.{home, slot_place}
use Rattle.rv_lines.specs.Moving.{moves}
use Rattle.rv_lines.specs.Operands.{gets_slot, register_or, stores_behind}
use Rattle.rv_lines.specs.declared.line.Line.{Line}
use Rattle.rv_gen.specs.Lines.{op_lines}
use Rattle.rv_words.specs.Groups.{IsAt, IsFollowedInBody}
use Rattle.rv_words.specs.Linked.{linked}
use Rattle.rv_words.specs.Placing.{IsPlacing, Placing}
use Rattle.rv_words.specs.Stands.{AreBytes, FollowsInBody}
use Rattle.rv_words.specs.Words.{memory_in}
use Rattle.rv_words.proofs.Bytes.{cells_are, length_cells}
use Rattle.rv_words.proofs.ConstantCode.{got_word, load_code, load_short, load_singles, singles}
use Rattle.rv_words.proofs.Got.{Got, got_at, got_home, got_once}
use Rattle.rv_words.proofs.Homes.{home_bound}
use Rattle.rv_words.proofs.Lines.{at_equal, at_site, first_code, size_singles}
use Rattle.rv_words.proofs.LinkedCode.{size_of}
use Rattle.rv_words.proofs.Operands.{free_5, past_operand}
use Rattle.rv_words.proofs.Places.{far_of}
use Rattle.rv_words.proofs.Reading.{SlotStands, SlotWord, StandsIn, memory_told, slot_word}
use Rattle.rv_words.proofs.Results.{slot_given}
use Rattle.rv_words.proofs.Sites.{Site, followed_stuck, site}

-- ---- what is copied

pub copying : (lies beyond_all : Bool) (a : ℕ) (memory : FlatMemory) (cells : List Cell)
    → option_and_then (λ p. copied memory p 8) (cond lies (Some (cond beyond_all (addresses + a) a)) None) ≡ Some cells
    → (lies ≡ true) × (copied memory (cond beyond_all (addresses + a) a) 8 ≡ Some cells)
copying true beyond_all a memory cells e = (refl, e)
copying false beyond_all a memory cells e = cc

pub copied_are : (memory : FlatMemory) (p n : ℕ) (cells : List Cell) → copied memory p n ≡ Some cells
    → cells_from memory p n ≡ cells
copied_are memory p n cells e = by (list_all is_own (cells_from memory p n)) e
  where
    by : (b : Bool) → cond b (Some (cells_from memory p n)) None ≡ Some cells → cells_from memory p n ≡ cells
    by true e = cc
    by false e = cc

-- the cells of a slot tell no more than the word that stands there
pub record SlotCells (placing : Placing) (here : Here) (m : MachineState) (slot : ℕ) (cells : List Cell) : Type 0 where
  pub own : SlotWord placing here m slot
  pub size : length cells ≡ 8
  pub told : AllZip CellTellsNoMore cells (map Byte (little_bytes 8 own.word))

pub slot_cells : (placing : Placing) (here : Here) (operation : LirOp) (begin : ℕ) (m : MachineState) (slot : ℕ)
    (cells : List Cell) → IsPlacing placing → IsAt placing here operation begin m
    → Site placing here operation begin m
    → option_and_then (λ place. copied here.state.memory place 8) (place_here here (word slot)) ≡ Some cells
    → SlotCells placing here m slot cells
slot_cells placing here operation begin m slot cells is at s e =
    let a : ℕ = here.frame.address + 128 + 8 * slot in
    let found = copying (lies_in_frame here.body.frame (word slot)) (is_variable here.body (8 * slot / 8)) a
    here.state.memory cells e in
    let index : 8 * slot / 8 ≡ slot = omega arith in
    let p : ℕ = cond (is_variable here.body slot) (addresses + a) a in
    let there : copied here.state.memory p 8 ≡ Some cells =
    subst (λ k. copied here.state.memory (cond (is_variable here.body k) (addresses + a) a) 8 ≡ Some cells) index
    found.1 in
    let are : cells_from here.state.memory p 8 ≡ cells = copied_are here.state.memory p 8 cells there in
    let w : SlotWord placing here m slot = slot_word placing here operation begin m slot is at s found.0 in
    let bytes : List ℕ = little_bytes 8 w.word in
    let count : length bytes ≡ 8 = length-bytes_low_first 0 8 w.word in
    let mine : cells_from (memory_in placing m) p 8 ≡ map Byte bytes =
    subst (λ n. cells_from (memory_in placing m) p n ≡ map Byte bytes) count
    (cells_are (memory_in placing m) p bytes (λ j less. w.cells j (subst (λ n. j < n) count less))) in
    record {
      own = w;
      size = sym (ap length are) ∙ length_cells here.state.memory p 8;
      told = subst (λ cs. AllZip CellTellsNoMore cs (map Byte bytes)) are
          (subst (AllZip CellTellsNoMore (cells_from here.state.memory p 8)) mine
          (all_from here.state.memory (memory_in placing m) (memory_told placing here.state m at.stands) p 8));
    }

-- ---- the move

-- the word of a slot comes to a home
abbrev pub gets_code : Option ℕ → ℕ → ℕ → List Ins
gets_code (Some q) r slot = Ins.Addi r q (pos 0) ∷ []
gets_code None r slot = load_code r 2 (slot_place slot)

pub gets_singles : (o : Option ℕ) (r slot : ℕ) → gets_slot o r slot ≡ singles (gets_code o r slot)
gets_singles (Some q) r slot = refl
gets_singles None r slot = load_singles r 2 (slot_place slot)

pub got_slot : (address : ℕ) (code : List Ins) (k r slot n : ℕ) (m : MachineState) (o : Option ℕ)
    → CodeAt address code m → m.pc ≡ address + 4 * k → BlockAt code k (gets_code o r slot)
    → AllLegal (gets_code o r slot) → StandsIn o m slot n → n < 2 ^ 64
    → register m 2 + slot_place slot + 8 ≤ 2 ^ 64 → slot_place slot < 65536 → 0 < r → r < 32 → HasRegisters m
    → Got address code (k + length (gets_code o r slot)) 4 r n m
got_slot address code k r slot n m (Some q) at pc there legal stands small fits near h h' has =
    let value : low_bits 64 (pos (register m q) +ℤ pos 0) ≡ n =
    ap (λ x. low_bits 64 (pos x +ℤ pos 0)) stands ∙ omega (arith, small) in
    got_at address code (k + 1) (k + 1) 1 4 r n m refl (omega arith)
    (got_once address code k (Ins.Addi r q (pos 0)) r n m at pc there.0 legal.0
    (λ ss. ap (λ x. Running (given r x m) ss) value) h h' small has)
got_slot address code k r slot n m None at pc there legal stands small fits near h h' has =
    let size : ℕ = length (load_code r 2 (slot_place slot)) in
    got_at address code (k + size) (k + size) size 4 r n m refl
    (load_short r 2 (slot_place slot) (omega (arith, near)))
    (got_word address code k r 2 (slot_place slot) (register m 2) n m at pc there legal h h' (λ e. omega
    (arith, e)) refl
    fits stands.0 stands.1 small has)

pub other_apart : (vars : List ℕ) (slot : ℕ) (o : Option ℕ) → home vars slot ≡ o → register_or o 5 ≡ 28 → ⊥
other_apart vars slot (Some r) e same =
    let bound = home_bound vars slot r e in
    let high : r < 26 = bound.2 in
    omega (arith, same, high)
other_apart vars slot None e same = omega (arith, same)

moved_by : (placing : Placing) → IsPlacing placing → (to from : ℕ) (here : Here) (begin : ℕ) (m : MachineState)
    (streams : Streams) (cells : List Cell) (memory : FlatMemory) (o : Option ℕ)
    → (at : IsAt placing here (Move to from) begin m) → (s : Site placing here (Move to from) begin m)
    → AreBytes streams → SlotCells placing here m from cells
    → option_and_then (λ place. with_cells here.state.memory place cells) (place_here here (word to)) ≡ Some memory
    → home here.body.vars to ≡ o
    → FollowsInBody placing begin here.body 8 m streams (goes_on_with here streams memory)
moved_by placing is to from here begin m streams cells memory (Some r) at s bytes c gives e =
    let operation : LirOp = Move to from in
    let body = here.body in
    let code : List Ins = linked placing.program begin body in
    let w : SlotStands m body.vars from c.own.word = c.own.stands in
    let bound = home_bound body.vars to r e in
    let low : 18 ≤ r = bound.0 in
    let high : r < 26 = bound.2 in
    let ins : List Ins = gets_code (home body.vars from) r from in
    let lines : op_lines body operation ≡ singles ins =
    ap (λ h. moves h (home body.vars from) to from) e ∙ gets_singles (home body.vars from) r from in
    let first = first_code placing.program begin body s.far_at s.k ins m
    (at_equal placing.program begin body s.far_at s.k (op_lines body operation) (singles ins) m lines
    (at_site placing here operation begin m s at.stands.serves.registers)) in
    let g : Got begin code (s.k + length ins) 4 r c.own.word m =
    got_slot begin code s.k r from c.own.word m (home body.vars from) s.code_at s.pc first.0 first.1 w.stands w.small
    w.fits
    w.near (omega (arith, low)) (omega (arith, high)) at.stands.serves.registers in
    let size : size_of (far_of body) s.far_at (op_lines body operation) ≡ length ins =
    ap (size_of (far_of body) s.far_at) lines ∙ size_singles (far_of body) s.far_at ins in
    slot_given placing here operation begin to 7 8 4 c.own.word cells memory m streams (Some r) is at s
    (λ same. omega (arith, same)) e
    (record {
      far = s.far_at;
      place = s.k + length ins;
      new = g.new;
      count = g.count;
      few = g.few;
      goes = g.goes;
      at = record { code_at = g.goes.code_at; pc = g.goes.pc; block = tt; legal = tt; registers = g.registers };
      size = omega (arith, size);
    })
    (got_home begin code (s.k + length ins) 4 r (r - 18) c.own.word m (omega (arith, low)) (omega (arith, low, high)) g)
    (λ r' e'. g.some) w.small c.size c.told gives (omega arith) bytes
moved_by placing is to from here begin m streams cells memory None at s bytes c gives e =
    let operation : LirOp = Move to from in
    let body = here.body in
    let other : ℕ = register_or (home body.vars from) 5 in
    let rest : List Line = stores_behind I8 other 2 (slot_place to) in
    let lines : op_lines body operation ≡ moves None (home body.vars from) to from =
    ap (λ h. moves h (home body.vars from) to from) e in
    let one = past_operand placing.program begin body s.far_at s.k 5 from c.own.word rest m
    (at_equal placing.program begin body s.far_at s.k (op_lines body operation)
    (moves None (home body.vars from) to from) m lines
    (at_site placing here operation begin m s at.stands.serves.registers))
    c.own.stands free_5 (omega arith) (omega arith) in
    let q = one.past in
    slot_given placing here operation begin to other 8 4 c.own.word cells memory m streams None is at s
    (other_apart body.vars from (home body.vars from) refl) e
    (record {
      far = q.far;
      place = q.place;
      new = q.new;
      count = q.count;
      few = q.few;
      goes = q.goes;
      at = q.at;
      size = ap (λ ls. s.k + size_of (far_of body) s.far_at ls) lines ∙ q.size;
    })
    (one.keeps, one.memory, one.has) (λ r e'. cc) c.own.stands.small c.size c.told gives (omega arith) bytes

pub move_followed : (placing : Placing) → IsPlacing placing → (to from : ℕ) → IsFollowedInBody placing (Move to from)
move_followed placing is to from here begin m streams at bytes =
    first (option_and_then (λ place. copied here.state.memory place 8) (place_here here (word from))) refl
  where
    s : Site placing here (Move to from) begin m
    s = site placing here (Move to from) begin m is at

    second : (cells : List Cell)
        → option_and_then (λ place. copied here.state.memory place 8) (place_here here (word from)) ≡ Some cells
        → (w : Option FlatMemory)
        → option_and_then (λ place. with_cells here.state.memory place cells) (place_here here (word to)) ≡ w
        → FollowsInBody placing begin here.body 8 m streams (with w streams (goes_on_with here streams))
    second cells from_is None e =
        followed_stuck placing here (Move to from) begin 8 m WordCause.NoStep streams streams s (omega arith)
    second cells from_is (Some memory) e =
        moved_by placing is to from here begin m streams cells memory (home here.body.vars to) at s bytes
        (slot_cells placing here (Move to from) begin m from cells is at s from_is) e refl

    first : (o : Option (List Cell))
        → option_and_then (λ place. copied here.state.memory place 8) (place_here here (word from)) ≡ o
        → FollowsInBody placing begin here.body 8 m streams
        (with o streams (λ cells.
        with (option_and_then (λ place. with_cells here.state.memory place cells) (place_here here (word to))) streams
        (goes_on_with here streams)))
    first None e =
        followed_stuck placing here (Move to from) begin 8 m WordCause.NoStep streams streams s (omega arith)
    first (Some cells) e =
        second cells e (option_and_then (λ place. with_cells here.state.memory place cells) (place_here here
        (word to))) refl

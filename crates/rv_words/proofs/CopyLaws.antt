-- Bytes that are copied from a place to another.
use Rattle.std.proofs.Common.{◌≡◌, ◌∙◌, ◌⊎◌, inl, inr, ℕ, ◌+◌, ◌-◌, ◌*◌, ◌/◌, ◌%◌, ◌^◌, ◌<◌, ◌≤◌, Bool, true, false}
use Rattle.std.proofs.Common.{cond, ◌&&◌, ◌||◌, ◌==◌, List, [], ◌∷◌, ◌++◌, length, map, Option, Some, None, pos, ◌+ℤ◌}
use Rattle.std.proofs.Common.{arith, refl, ap, sym, subst, nat_lt, nat_le, append_assoc}
use Rattle.std.specs.List.{AllZip, list_all}
use Rattle.std.specs.Option.{option_and_then}
use Rattle.std.proofs.lemmas.Bool.{leb-true}
use Rattle.std.proofs.lemmas.Bool.Decides.{nat_tests}
use Rattle.std.proofs.lemmas.Int.{ints}
use Rattle.byteorder.specs.Endian.{little_bytes, little_number}
use Rattle.num_core.specs.Bits.{low_bits}
use Rattle.num_core.specs.Run.{Run, Streams}
use Rattle.num_core.specs.declared.kind.Narrow.TheVariants.{I8}
use Rattle.rv_isa.specs.declared.ins.Ins.{Ins}
use Rattle.rv_step.specs.Machine.{MachineState, register}
use Rattle.rv_step.specs.Memory.{AreApart, Bytes, MayRead, is_allowed}
use Rattle.rv_step.proofs.Addresses.{allowed_within}
use Rattle.rv_code.specs.Code.{AllLegal, BlockAt, CodeAt}
use Rattle.rv_code.specs.Registers.{HasRegisters}
use Rattle.rv_code.proofs.Going.{same_bytes}
use Rattle.rt_code.proofs.Machines.{writes_between}
use Rattle.lir_core.specs.Check.{fits, has_short_offset, is_short, is_whole_or_apart, lies_in_frame}
use Rattle.lir_core.specs.Memory.{Byte, Cell, FlatMemory, cells_from, copied, is_own, with_cells}
use Rattle.lir_core.specs.Pieces.{at_place, word}
use Rattle.lir_core.specs.Program.{WordProgram, no_step, with}
use Rattle.lir_core.specs.Slots.{Here, addresses, goes_on_with, is_variable, place_behind, place_here, place_of}
use Rattle.lir_core.specs.Slots.{word_in}
use Rattle.lir_core.specs.State.{WordCause, WordState}
use Rattle.lir_core.specs.Step.{copies, may_be_copied_to}
use Rattle.lir_core.specs.Tells.{CellTellsNoMore}
use Rattle.lir_core.specs.Values.{widened, word_of}
use Rattle.lir_core.specs.declared.body.LirBody.{LirBody}
use Rattle.lir_core.specs.declared.op.LirOp.{LirOp}
use Rattle.lir_core.specs.declared.op.LirOp.TheVariants.{Copy}
use Rattle.lir_core.specs.declared.op.Place.{Place}
use Rattle.lir_core.specs.declared.op.Place.TheVariants.{Slot, Flat}
use Rattle.lir_core.proofs.Sound.{first_of, second_of}
use Rattle.rv_lines.specs.Frame.{home, slot_place}
use Rattle.rv_lines.specs.Moving.{bytes_place, gets_place, home_of_bytes, loads_frame, loads_place, passes_bytes}
use Rattle.rv_lines.specs.Moving.{stores_place}
use Rattle.rv_lines.specs.Operands.{gets_slot, loads_behind, reads_slot, register_or}
use Rattle.rv_lines.specs.declared.line.Line.{Line}
use Rattle.rv_gen.specs.Lines.{op_lines}
use Rattle.rv_gen.specs.Placing.{code_of}
use Rattle.rv_words.specs.Groups.{IsAt, IsFollowedInBody}
use Rattle.rv_words.specs.Linked.{linked}
use Rattle.rv_words.specs.Placing.{IsPlacing, Placing, data_bytes}
use Rattle.rv_words.specs.Stands.{AreBytes, FollowsInBody}
use Rattle.rv_words.specs.Steps.{at_place as most_at_place, behind_address}
use Rattle.rv_words.proofs.ConstantCode.{singles}
use Rattle.rv_words.proofs.Bytes.{length_cells}
use Rattle.rv_words.proofs.Copied.{FlatCells, PastGot, PlaceStands, Placed, are_plain, flat_cells, kept_but, own_range}
use Rattle.rv_words.proofs.Copied.{past_place, past_singles, place_still, placed}
use Rattle.rv_words.proofs.CopiedBytes.{equal_of, flat_written, nothing_written, past_bytes}
use Rattle.rv_words.proofs.Giving.{free_7}
use Rattle.rv_words.proofs.Going.{Goes, goes_on}
use Rattle.rv_words.proofs.Got.{Got, got_at, got_is}
use Rattle.rv_words.proofs.Lines.{AtLines, at_equal, at_site}
use Rattle.rv_words.proofs.LinkedCode.{size_of}
use Rattle.rv_words.proofs.LoadLaws.{flat_same, got_number, holds_of_one, home_none, le_true, number_code}
use Rattle.rv_words.proofs.LoadLaws.{number_length}
use Rattle.rv_words.proofs.LoadLaws.{number_short, number_singles, parts_fit, place_told, whole_of, widened_word}
use Rattle.rv_words.proofs.Flat.{FlatNumber}
use Rattle.rv_words.proofs.MoveLaws.{SlotCells, copied_are, copying, gets_code, gets_singles, got_slot, other_apart}
use Rattle.rv_words.proofs.MoveLaws.{slot_cells}
use Rattle.rv_words.proofs.Moved.{KeepsOwn, keeps_through}
use Rattle.rv_words.proofs.Operands.{Past, free_5, free_6, past_operand}
use Rattle.rv_words.proofs.Passing.{CanPass, number_of_bytes}
use Rattle.rv_words.proofs.PlaceStores.{place_stored}
use Rattle.rv_words.proofs.Places.{far_of}
use Rattle.rv_words.proofs.Reading.{SlotStands, room_here, slot_stands}
use Rattle.rv_words.proofs.Results.{written_where}
use Rattle.rv_words.proofs.Room.{below_all}
use Rattle.rv_words.proofs.Sites.{Site, followed_stuck, linked_length, site}

-- ---- what a copy does

-- what holds where the program can't go on, and where it has copied, holds of a copy
copies_by : (here : Here) (to from : Place) (count : ℕ) (streams : Streams) (P : Run WordState WordCause → Type 0)
    → P (no_step streams)
    → ((source target : ℕ) (cells : List Cell) (memory : FlatMemory) → place_of here from count ≡ Some source
    → place_of here to count ≡ Some target → may_be_copied_to target source count ≡ true
    → copied here.state.memory source count ≡ Some cells → with_cells here.state.memory target cells ≡ Some memory
    → P (goes_on_with here streams memory))
    → P (copies here to from count streams)
copies_by here to from count streams P stuck done = by_source (place_of here from count) refl
  where
    memory : FlatMemory
    memory = here.state.memory

    by_written : (source target : ℕ) → place_of here from count ≡ Some source → place_of here to count ≡ Some target
        → may_be_copied_to target source count ≡ true → (cells : List Cell) → copied memory source count ≡ Some cells
        → (o : Option FlatMemory) → with_cells memory target cells ≡ o
        → P (with o streams (goes_on_with here streams))
    by_written source target e e' may cells e'' None w = stuck
    by_written source target e e' may cells e'' (Some new) w = done source target cells new e e' may e'' w

    by_cells : (source target : ℕ) → place_of here from count ≡ Some source → place_of here to count ≡ Some target
        → may_be_copied_to target source count ≡ true → (o : Option (List Cell)) → copied memory source count ≡ o
        → P (with (option_and_then (with_cells memory target) o) streams (goes_on_with here streams))
    by_cells source target e e' may None e'' = stuck
    by_cells source target e e' may (Some cells) e'' =
        by_written source target e e' may cells e'' (with_cells memory target cells) refl

    by_order : (source target : ℕ) → place_of here from count ≡ Some source → place_of here to count ≡ Some target
        → (b : Bool) → may_be_copied_to target source count ≡ b
        → P (cond b (with (option_and_then (with_cells memory target) (copied memory source count)) streams
        (goes_on_with here streams)) (no_step streams))
    by_order source target e e' true may = by_cells source target e e' may (copied memory source count) refl
    by_order source target e e' false may = stuck

    by_target : (source : ℕ) → place_of here from count ≡ Some source → (o : Option ℕ) → place_of here to count ≡ o
        → P (with o streams (λ target. cond (may_be_copied_to target source count)
        (with (option_and_then (with_cells memory target) (copied memory source count)) streams
        (goes_on_with here streams)) (no_step streams)))
    by_target source e None e' = stuck
    by_target source e (Some target) e' = by_order source target e e' (may_be_copied_to target source count) refl

    by_source : (o : Option ℕ) → place_of here from count ≡ o
        → P (with o streams (λ source. with (place_of here to count) streams (λ target.
        cond (may_be_copied_to target source count)
        (with (option_and_then (with_cells memory target) (copied memory source count)) streams
        (goes_on_with here streams)) (no_step streams))))
    by_source None e = stuck
    by_source (Some source) e = by_target source e (place_of here to count) refl

-- ---- a word

-- Eight bytes of a place have come to x7, and tell no less than the cells that the program copies.
record PlaceLoaded (program : WordProgram) (begin : ℕ) (body : LirBody) (far_at k most : ℕ) (cells : List Cell)
    (lines rest : List Line) (m : MachineState) : Type 0 where
  past : Past program begin body far_at k most lines rest m
  value : ℕ
  has : register past.new 7 ≡ value
  small : value < 2 ^ 64
  size : length cells ≡ 8
  told : AllZip CellTellsNoMore cells (map Byte (little_bytes 8 value))
  keeps : KeepsOwn m past.new
  memory : past.new.segments ≡ m.segments

loaded_by : (program : WordProgram) (begin : ℕ) (body : LirBody) (far_at k most value : ℕ) (cells : List Cell)
    (lines rest : List Line) (m : MachineState) → PastGot program begin body far_at k most 7 value lines rest m
    → value < 2 ^ 64 → length cells ≡ 8 → AllZip CellTellsNoMore cells (map Byte (little_bytes 8 value))
    → PlaceLoaded program begin body far_at k most cells lines rest m
loaded_by program begin body far_at k most value cells lines rest m g small size told = record {
  past = g.past;
  value = value;
  has = g.has;
  small = small;
  size = size;
  told = told;
  keeps = kept_but 7 m g.past.new free_7 g.others;
  memory = g.memory;
}

-- the number that bytes at an address are
cells_number : (placing : Placing) (m : MachineState) (a : ℕ) (cells : List Cell) → (c : FlatCells placing m a 8 cells)
    → (FlatNumber m a 8 (little_number 8 c.bytes)) × (little_number 8 c.bytes < 2 ^ 64)
    × AllZip CellTellsNoMore cells (map Byte (little_bytes 8 (little_number 8 c.bytes)))
cells_number placing m a cells c =
    let n = number_of_bytes 8 c.bytes c.size c.small in (
      record {
        may = c.may;
        there = subst (λ bs. Bytes m a bs) (sym n.0) c.there;
        small = n.1;
      },
      omega (arith, n.1),
      subst (λ bs. AllZip CellTellsNoMore cells (map Byte bs)) (sym n.0) c.told,
    )

got_cells : (address : ℕ) (code : List Ins) (k base offset b a : ℕ) (m : MachineState) (n : ℕ) → CodeAt address code m
    → m.pc ≡ address + 4 * k → BlockAt code k (number_code I8 7 base offset) → AllLegal (number_code I8 7 base offset)
    → (base ≡ 28 → ⊥) → register m base ≡ b → low_bits 64 (pos b +ℤ pos offset) ≡ a → offset < 2 ^ 64
    → FlatNumber m a 8 n → n < 2 ^ 64 → HasRegisters m
    → Got address code (k + length (number_code I8 7 base offset)) (length (number_code I8 7 base offset)) 7 n m
got_cells address code k base offset b a m n at pc there legal apart is sum small f fits has =
    let size : ℕ = length (number_code I8 7 base offset) in
    got_is address code (k + size) size 7 (word_of (widened I8 n)) n m (widened_word I8 n refl fits)
    (got_number address code k I8 7 base offset b a n m at pc there legal (omega arith) (omega arith) apart is sum small
    f has)

frame_gets : (o : Option ℕ) (slot : ℕ) → loads_frame o I8 7 (slot_place slot) ≡ gets_slot o 7 slot
frame_gets (Some r) slot = refl
frame_gets None slot = refl

slot_loaded : (placing : Placing) (here : Here) (operation : LirOp) (begin slot offset : ℕ) (cells : List Cell)
    (rest : List Line) (m : MachineState) → IsPlacing placing → (at : IsAt placing here operation begin m)
    → (s : Site placing here operation begin m) → fits here.body (at_place (Slot slot offset) 8) ≡ true
    → option_and_then (λ p. copied here.state.memory p 8) (place_of here (Slot slot offset) 8) ≡ Some cells
    → AtLines placing.program begin here.body s.far_at s.k (loads_place here.body.vars I8 7 (Slot slot offset) ++
    rest) m
    → PlaceLoaded placing.program begin here.body s.far_at s.k 4 cells
    (loads_place here.body.vars I8 7 (Slot slot offset) ++ rest) rest m
slot_loaded placing here operation begin slot offset cells rest m is at s fit e there =
    by (is_variable body (from / 8)) refl found.1
  where
    body : LirBody
    body = here.body

    code : List Ins
    code = linked placing.program begin body

    from : ℕ
    from = 8 * slot + offset

    place : ℕ
    place = bytes_place slot offset

    a : ℕ
    a = here.frame.address + 128 + from

    lines : List Line
    lines = loads_place body.vars I8 7 (Slot slot offset)

    found : (lies_in_frame body.frame (at_place (Slot slot offset) 8) ≡ true)
        × (copied here.state.memory (cond (is_variable body (from / 8)) (addresses + a) a) 8 ≡ Some cells)
    found =
        copying (lies_in_frame body.frame (at_place (Slot slot offset) 8)) (is_variable body (from / 8)) a
        here.state.memory cells e

    ends : 128 + from + 8 ≤ body.frame
    ends = leb-true (128 + from + 8) body.frame found.0

    most : body.frame ≤ 65536
    most = body.frame_size.greatest

    same : here.frame.address ≡ register m 2
    same = s.i.first.address

    top : here.frame.address + body.frame + 128 ≤ addresses
    top = below_all placing here.frame.address body is (room_here placing here operation begin m is at)

    flat : is_variable body (from / 8) ≡ false → copied here.state.memory a 8 ≡ Some cells
        → PlaceLoaded placing.program begin body s.far_at s.k 4 cells (lines ++ rest) rest m
    flat other e' =
        let none : home_of_bytes body.vars from 8 ≡ None = home_none body from 8 other in
        let c : FlatCells placing m a 8 cells =
        flat_cells placing here.state m a 8 cells is at.stands (omega arith) (omega (arith, top, ends)) e' in
        let n = cells_number placing m a cells c in
        let value : ℕ = little_number 8 c.bytes in
        let own : List Ins = number_code I8 7 2 place in
        let are : lines ≡ singles own = ap (λ h. loads_frame h I8 7 place) none ∙ number_singles I8 7 2 place in
        let sum : pos (register m 2) +ℤ pos place ≡ pos (register m 2 + place) = omega (arith, ints) in
        let address_is : low_bits 64 (pos (register m 2) +ℤ pos place) ≡ a =
        ap (low_bits 64) sum ∙ omega (arith, same, top, ends) in
        loaded_by placing.program begin body s.far_at s.k 4 value cells (lines ++ rest) rest m
        (past_singles placing.program begin body s.far_at s.k 4 7 value lines rest own m there are
        (λ block legal. got_at begin code (s.k + length own) (s.k + length own) (length own) 4 7 value m refl
        (number_short I8 7 2 place (omega (arith, ends, most)))
        (got_cells begin code s.k 2 place (register m 2) a m value s.code_at s.pc block legal (λ g. omega (arith, g))
        refl
        address_is (omega (arith, ends, most)) n.0 n.1 at.stands.serves.registers)))
        n.1 c.cells_size n.2

    by_variable : is_variable body (from / 8) ≡ true → copied here.state.memory (addresses + a) 8 ≡ Some cells
        → PlaceLoaded placing.program begin body s.far_at s.k 4 cells (lines ++ rest) rest m
    by_variable variable e' =
        let v : ℕ = from / 8 in
        let whole : (from ≡ 8 * v) × (8 ≡ 8) =
        whole_of from 8 v refl (omega arith)
        (holds_of_one (is_whole_or_apart (at_place (Slot slot offset) 8)) body.vars v
        (second_of (lies_in_frame body.frame (at_place (Slot slot offset) 8))
        (list_all (is_whole_or_apart (at_place (Slot slot offset) 8)) body.vars) fit) variable) in
        let ends_word : 128 + 8 * v + 8 ≤ body.frame = omega (arith, ends, whole.0) in
        let b : ℕ = here.frame.address + 128 + 8 * v in
        let index : 8 * v / 8 ≡ v = omega arith in
        let reads : copied here.state.memory (addresses + b) 8 ≡ Some cells =
        subst (λ f. copied here.state.memory (addresses + (here.frame.address + 128 + f)) 8 ≡ Some cells) whole.0 e' in
        let gives : option_and_then (λ q. copied here.state.memory q 8) (place_here here (word v)) ≡ Some cells =
        ap (λ t. option_and_then (λ q. copied here.state.memory q 8)
        (cond t (Some (cond (is_variable body (8 * v / 8)) (addresses + b) b)) None))
        (le_true (128 + 8 * v + 8) body.frame ends_word)
        ∙ ap (λ i. copied here.state.memory (cond (is_variable body i) (addresses + b) b) 8) index
        ∙ ap (λ t. copied here.state.memory (cond t (addresses + b) b) 8) variable ∙ reads in
        let c : SlotCells placing here m v cells = slot_cells placing here operation begin m v cells is at s gives in
        let even : from % 8 ≡ 0 = omega (arith, whole.0) in
        let home_is : home_of_bytes body.vars from 8 ≡ home body.vars v =
        ap (λ i. cond (i == 0) (home body.vars v) None) even in
        let place_is : place ≡ slot_place v = omega (arith, whole.0) in
        let own : List Ins = gets_code (home body.vars v) 7 v in
        let are : lines ≡ singles own =
        ap (λ h. loads_frame h I8 7 place) home_is ∙ ap (loads_frame (home body.vars v) I8 7) place_is
        ∙ frame_gets (home body.vars v) v ∙ gets_singles (home body.vars v) 7 v in
        loaded_by placing.program begin body s.far_at s.k 4 c.own.word cells (lines ++ rest) rest m
        (past_singles placing.program begin body s.far_at s.k 4 7 c.own.word lines rest own m there are
        (λ block legal. got_slot begin code s.k 7 v c.own.word m (home body.vars v) s.code_at s.pc block legal
        c.own.stands.stands c.own.stands.small c.own.stands.fits c.own.stands.near (omega arith) (omega arith)
        at.stands.serves.registers))
        c.own.stands.small c.size c.told

    by : (t : Bool) → is_variable body (from / 8) ≡ t → copied here.state.memory (cond t (addresses + a) a) 8 ≡ Some
        cells
        → PlaceLoaded placing.program begin body s.far_at s.k 4 cells (lines ++ rest) rest m
    by true variable e' = by_variable variable e'
    by false variable e' = flat variable e'

flat_loaded : (placing : Placing) (here : Here) (operation : LirOp) (begin base offset b a : ℕ) (cells : List Cell)
    (rest : List Line) (m : MachineState) → IsPlacing placing → (at : IsAt placing here operation begin m)
    → (s : Site placing here operation begin m) → offset < 2 ^ 32 → word_in here base ≡ Some b
    → place_behind offset 8 b ≡ Some a → copied here.state.memory a 8 ≡ Some cells
    → AtLines placing.program begin here.body s.far_at s.k (loads_place here.body.vars I8 7 (Flat base offset) ++
    rest) m
    → PlaceLoaded placing.program begin here.body s.far_at s.k (4 + behind_address offset) cells
    (loads_place here.body.vars I8 7 (Flat base offset) ++ rest) rest m
flat_loaded placing here operation begin base offset b a cells rest m is at s short base_is place_is e there =
    let body : LirBody = here.body in
    let code : List Ins = linked placing.program begin body in
    let x : ℕ = register_or (home body.vars base) 5 in
    let l : SlotStands m body.vars base b = slot_stands placing here operation begin m base b is at s base_is in
    let behind = place_told offset 8 b a place_is in
    let c : FlatCells placing m a 8 cells =
    flat_cells placing here.state m a 8 cells is at.stands (omega arith) behind.1 e in
    let n = cells_number placing m a cells c in
    let value : ℕ = little_number 8 c.bytes in
    let reads : List Line = reads_slot (home body.vars base) 5 base in
    let loads_it : List Line = loads_behind I8 7 x offset in
    let lines : (reads ++ loads_it) ++ rest ≡ reads ++ (loads_it ++ rest) = append_assoc reads loads_it rest in
    let one = past_operand placing.program begin body s.far_at s.k 5 base b (loads_it ++ rest) m
    (at_equal placing.program begin body s.far_at s.k ((reads ++ loads_it) ++ rest) (reads ++ (loads_it ++ rest)) m
    lines
    there) l free_5 (omega arith) (omega arith) in
    let p = one.past in
    let own : List Ins = number_code I8 7 x offset in
    let sum : pos b +ℤ pos offset ≡ pos (b + offset) = omega (arith, ints) in
    let two = past_singles placing.program begin body p.far p.place (behind_address offset) 7 value loads_it rest own
    p.new p.at (number_singles I8 7 x offset)
    (λ block legal. got_at begin code (p.place + length own) (p.place + length own) (length own) (behind_address
    offset) 7
    value p.new refl (number_length I8 7 x offset)
    (got_cells begin code p.place x offset b a p.new value p.at.code_at p.at.pc block legal
    (other_apart body.vars base (home body.vars base) refl) one.has (ap (low_bits 64) sum ∙ behind.0)
    (omega (arith, short)) (flat_same m p.new a 8 value one.memory n.0) n.1 p.at.registers)) in
    let q = two.past in
    let few_1 : p.count ≤ 4 = p.few in
    let few_2 : q.count ≤ behind_address offset = q.few in
    record {
      past = record {
        far = q.far;
        place = q.place;
        new = q.new;
        count = p.count + q.count;
        few = omega (arith, few_1, few_2);
        goes = goes_on begin code p.place q.place p.count q.count m p.new q.new p.goes q.goes;
        at = q.at;
        size = ap (λ ls. s.k + size_of (far_of body) s.far_at ls) lines ∙ p.size ∙ q.size;
      };
      value = value;
      has = two.has;
      small = n.1;
      size = c.cells_size;
      told = n.2;
      keeps = keeps_through m p.new q.new one.keeps (kept_but 7 p.new q.new free_7 two.others);
      memory = two.memory ∙ one.memory;
    }

below_of : (p q : ℕ) → nat_lt p q ≡ true → p < q
below_of p q t = grind (arith, nat_tests)

place_loaded : (placing : Placing) (here : Here) (operation : LirOp) (begin : ℕ) (from : Place) (cells : List Cell)
    (rest : List Line) (m : MachineState) → IsPlacing placing → (at : IsAt placing here operation begin m)
    → (s : Site placing here operation begin m) → fits here.body (at_place from 8) ≡ true
    → has_short_offset from ≡ true
    → option_and_then (λ p. copied here.state.memory p 8) (place_of here from 8) ≡ Some cells
    → AtLines placing.program begin here.body s.far_at s.k (loads_place here.body.vars I8 7 from ++ rest) m
    → PlaceLoaded placing.program begin here.body s.far_at s.k (most_at_place from) cells
    (loads_place here.body.vars I8 7 from ++ rest) rest m
place_loaded placing here operation begin (Slot slot offset) cells rest m is at s fit short e there =
    slot_loaded placing here operation begin slot offset cells rest m is at s fit e there
place_loaded placing here operation begin (Flat base offset) cells rest m is at s fit short e there =
    by (word_in here base) refl e
  where
    Loaded : Type 0
    Loaded = PlaceLoaded placing.program begin here.body s.far_at s.k (4 + behind_address offset) cells
        (loads_place here.body.vars I8 7 (Flat base offset) ++ rest) rest m

    by_place : (b : ℕ) → word_in here base ≡ Some b → (o : Option ℕ) → place_behind offset 8 b ≡ o
        → option_and_then (λ p. copied here.state.memory p 8) o ≡ Some cells → Loaded
    by_place b base_is None e' told = cc
    by_place b base_is (Some a) e' told =
        flat_loaded placing here operation begin base offset b a cells rest m is at s (below_of offset (2 ^ 32) short)
        base_is e' told there

    by : (o : Option ℕ) → word_in here base ≡ o
        → option_and_then (λ p. copied here.state.memory p 8) (option_and_then (place_behind offset 8) o) ≡ Some cells
        → Loaded
    by None e' told = cc
    by (Some b) e' told = by_place b e' (place_behind offset 8 b) refl told

-- what a sound copy keeps
record CopyFits (body : LirBody) (to from : Place) (count : ℕ) : Type 0 where
  to_fits : fits body (at_place to count) ≡ true
  from_fits : fits body (at_place from count) ≡ true
  to_short : has_short_offset to ≡ true
  from_short : has_short_offset from ≡ true

copy_fits : (placing : Placing) → IsPlacing placing → (to from : Place) (count : ℕ) (here : Here) (begin : ℕ)
    (m : MachineState) → IsAt placing here (Copy to from count) begin m → CopyFits here.body to from count
copy_fits placing is to from count here begin m at =
    let both = parts_fit placing is here (Copy to from count) begin m at in
    let a : Bool = fits here.body (at_place to count) in
    let b : Bool = fits here.body (at_place from count) in
    let p : Bool = has_short_offset to in
    let q : Bool = has_short_offset from in
    record {
      to_fits = first_of a (b && true) both.0;
      from_fits = first_of b true (second_of a (b && true) both.0);
      to_short = first_of p q (first_of (p && q) (is_short count) both.1);
      from_short = second_of p q (first_of (p && q) (is_short count) both.1);
    }

word_copied : (placing : Placing) → IsPlacing placing → (to from : Place) → IsFollowedInBody placing (Copy to from 8)
word_copied placing is to from here begin m streams at input =
    copies_by here to from 8 streams (FollowsInBody placing begin here.body most m streams)
    (followed_stuck placing here operation begin most m WordCause.NoStep streams streams s enough)
    (λ source target cells memory e e' may reads writes. done cells memory
    (ap (option_and_then (λ p. copied here.state.memory p 8)) e ∙ reads)
    (ap (option_and_then (λ p. with_cells here.state.memory p cells)) e' ∙ writes))
  where
    operation : LirOp
    operation = Copy to from 8

    most : ℕ
    most = most_at_place from + most_at_place to

    s : Site placing here operation begin m
    s = site placing here operation begin m is at

    some_at : (place : Place) → 0 < most_at_place place
    some_at (Slot slot offset) = omega arith
    some_at (Flat base offset) = omega arith

    enough : 0 < most
    enough = let some : 0 < most_at_place from = some_at from in omega (arith, some)

    vars : List ℕ
    vars = here.body.vars

    done : (cells : List Cell) (memory : FlatMemory)
        → option_and_then (λ p. copied here.state.memory p 8) (place_of here from 8) ≡ Some cells
        → option_and_then (λ p. with_cells here.state.memory p cells) (place_of here to 8) ≡ Some memory
        → FollowsInBody placing begin here.body most m streams (goes_on_with here streams memory)
    done cells memory reads writes =
        let f : CopyFits here.body to from 8 = copy_fits placing is to from 8 here begin m at in
        let l = place_loaded placing here operation begin from cells (stores_place vars I8 7 to) m is at s f.from_fits
        f.from_short reads (at_site placing here operation begin m s at.stands.serves.registers) in
        place_stored placing here operation begin most (most_at_place from) to I8 7 l.value cells memory m streams is
        at s
        l.past l.keeps l.memory (λ g. omega (arith, g)) (λ g. omega (arith, g)) l.has l.small l.size l.told f.to_fits
        f.to_short writes (omega arith) input

-- ---- any other number of bytes

either_zero : (n : ℕ) → (n ≡ 0) ⊎ (0 < n)
either_zero n = grind arith

order_of : (source target count : ℕ) → may_be_copied_to target source count ≡ true
    → (target ≤ source) ⊎ (source + count ≤ target)
order_of source target count e = by (nat_le target source) (nat_le (source + count) target) refl refl e
  where
    at_most : (p q : ℕ) → nat_le p q ≡ true → p ≤ q
    at_most p q t = grind (arith, nat_tests)

    by : (a b : Bool) → nat_le target source ≡ a → nat_le (source + count) target ≡ b → (a || b) ≡ true
        → (target ≤ source) ⊎ (source + count ≤ target)
    by true b ta tb e' = inl (at_most target source ta)
    by false true ta tb e' = inr (at_most (source + count) target tb)
    by false false ta tb e' = cc

no_cells : (cells : List Cell) → length cells ≡ 0 → cells ≡ []
no_cells [] e = refl
no_cells (c ∷ cells) e = absurd (omega (arith, e))

-- the machine has the addresses of both places in x5 and x6
record AtBytes (placing : Placing) (here : Here) (operation : LirOp) (begin : ℕ) (s_far s_k count x y : ℕ)
    (lines : List Line) (m : MachineState) : Type 0 where
  past : Past placing.program begin here.body s_far s_k 26 lines (passes_bytes count) m
  some : 0 < past.count
  from : register past.new 5 ≡ x
  to : register past.new 6 ≡ y
  keeps : KeepsOwn m past.new
  memory : past.new.segments ≡ m.segments

at_bytes : (placing : Placing) (here : Here) (operation : LirOp) (begin far k count x y : ℕ) (to from : Place)
    (m : MachineState)
    → AtLines placing.program begin here.body far k
    (gets_place here.body.vars 5 from ++ (gets_place here.body.vars 6 to ++ passes_bytes count)) m
    → PlaceStands m here.body.vars from x → PlaceStands m here.body.vars to y
    → AtBytes placing here operation begin far k count x y
    (gets_place here.body.vars 5 from ++ (gets_place here.body.vars 6 to ++ passes_bytes count)) m
at_bytes placing here operation begin far k count x y to from m at from_is to_is =
    let body : LirBody = here.body in
    let code : List Ins = linked placing.program begin body in
    let rest : List Line = gets_place body.vars 6 to ++ passes_bytes count in
    let one = past_place placing.program begin body far k 5 x from rest m at from_is free_5 (omega arith) (omega
    arith) in
    let p = one.past in
    let two = past_place placing.program begin body p.far p.place 6 y to (passes_bytes count) p.new p.at
    (place_still m p.new body.vars to y one.keeps one.memory to_is) free_6 (omega arith) (omega arith) in
    let q = two.past in
    let few_1 : p.count ≤ 13 = p.few in
    let few_2 : q.count ≤ 13 = q.few in
    let some : 0 < p.count = one.some in
    record {
      past = record {
        far = q.far;
        place = q.place;
        new = q.new;
        count = p.count + q.count;
        few = omega (arith, few_1, few_2);
        goes = goes_on begin code p.place q.place p.count q.count m p.new q.new p.goes q.goes;
        at = q.at;
        size = p.size ∙ q.size;
      };
      some = omega (arith, some);
      from = two.others 5 (λ e. omega (arith, e)) (λ e. omega (arith, e)) ∙ one.has;
      to = two.has;
      keeps = keeps_through m p.new q.new one.keeps two.keeps;
      memory = two.memory ∙ one.memory;
    }

bytes_copied : (placing : Placing) → IsPlacing placing → (to from : Place) (count : ℕ) → (count == 8) ≡ false
    → (here : Here) (begin : ℕ) (m : MachineState) (streams : Streams) → IsAt placing here (Copy to from count) begin m
    → AreBytes streams
    → FollowsInBody placing begin here.body (41 + 5 * (count / 8)) m streams (copies here to from count streams)
bytes_copied placing is to from count not_8 here begin m streams at input =
    copies_by here to from count streams (FollowsInBody placing begin here.body most m streams)
    (followed_stuck placing here operation begin most m WordCause.NoStep streams streams s (omega arith)) done
  where
    operation : LirOp
    operation = Copy to from count

    most : ℕ
    most = 41 + 5 * (count / 8)

    body : LirBody
    body = here.body

    code : List Ins
    code = linked placing.program begin body

    s : Site placing here operation begin m
    s = site placing here operation begin m is at

    lines : List Line
    lines = gets_place body.vars 5 from ++ (gets_place body.vars 6 to ++ passes_bytes count)

    lines_are : op_lines body operation ≡ lines
    lines_are = ap (λ b. cond b (loads_place body.vars I8 7 from ++ stores_place body.vars I8 7 to) lines) not_8

    f : CopyFits body to from count
    f = copy_fits placing is to from count here begin m at

    at_lines : AtLines placing.program begin body s.far_at s.k lines m
    at_lines =
        at_equal placing.program begin body s.far_at s.k (op_lines body operation) lines m lines_are
        (at_site placing here operation begin m s at.stands.serves.registers)

    some_copied : (source target : ℕ) (cells : List Cell) (memory : FlatMemory) → 0 < count
        → Placed here m from count source → Placed here m to count target
        → may_be_copied_to target source count ≡ true → copied here.state.memory source count ≡ Some cells
        → with_cells here.state.memory target cells ≡ Some memory
        → FollowsInBody placing begin body most m streams (goes_on_with here streams memory)
    some_copied source target cells memory some pf pt may reads writes =
        let plain_from = are_plain body from count f.from_fits not_8 some in
        let plain_to = are_plain body to count f.to_fits not_8 some in
        let b = at_bytes placing here operation begin s.far_at s.k count pf.at pt.at to from m at_lines pf.stands
        pt.stands
        in
        let m2 : MachineState = b.past.new in
        let x5 : register m2 5 ≡ source = b.from ∙ pf.same plain_from in
        let x6 : register m2 6 ≡ target = b.to ∙ pt.same plain_to in
        let c : FlatCells placing m source count cells =
        flat_cells placing here.state m source count cells is at.stands some (pf.within plain_from) reads in
        let parts = written_where here.state.memory memory target cells writes in
        let range = own_range placing here.state target count is at.stands.bounds some (pt.within plain_to)
        (subst (λ n. list_all is_own (cells_from here.state.memory target n) ≡ true) c.cells_size parts.0) in
        let room : placing.program.stack_end + 128 ≤ 2 ^ 64 = is.room_behind in
        let below : begin + 4 * length (code_of body) ≤ placing.lowest_data = s.placed.below_data in
        let top : source + count ≤ placing.program.stack_end = c.top in
        let can : CanPass begin code source target c.bytes m2 = record {
          read = ap (λ ss. is_allowed (λ g. g.read) ss source (length c.bytes)) b.memory
              ∙ subst (λ n. MayRead m source n) (sym c.size) c.may;
          write = ap (λ ss. is_allowed (λ g. g.write) ss target (length c.bytes)) b.memory
              ∙ allowed_within (λ g. g.write) placing.lowest_data (data_bytes placing) target (length c.bytes)
              m.segments
              range.0 (omega (arith, range.0, range.1, c.size)) at.stands.serves.memory.write;
          there = same_bytes m m2 source c.bytes b.memory c.there;
          small = c.small;
          order = subst (λ n. (target ≤ source) ⊎ (source + n ≤ target)) (sym c.size) (order_of source target count
              may);
          from_fits = omega (arith, top, room, c.size);
          to_fits = omega (arith, range.1, room, c.size);
          apart = inr (omega (arith, below, range.0, linked_length placing.program begin body));
        } in
        let r = past_bytes placing.program begin body b.past.far b.past.place count source target c.bytes m2 b.past.at
        x5
        x6 can c.size in
        let q = r.0 in
        let goes : Goes begin code q.place (b.past.count + q.count) m q.new =
        goes_on begin code b.past.place q.place b.past.count q.count m m2 q.new b.past.goes q.goes in
        let whole : s.k + size_of (far_of body) s.far_at (op_lines body operation) ≡ q.place + 0 =
        ap (λ ls. s.k + size_of (far_of body) s.far_at ls) lines_are ∙ b.past.size ∙ q.size in
        let some_steps : 0 < b.past.count = b.some in
        let few_1 : b.past.count ≤ 26 = b.past.few in
        let few_2 : q.count ≤ 15 + 5 * (count / 8) = q.few in
        flat_written placing here operation begin most q.place (b.past.count + q.count) target c.bytes cells memory m
        q.new
        streams is at s (omega (arith, whole)) goes (omega (arith, some_steps)) (omega (arith, few_1, few_2))
        (writes_between target c.bytes m2 m q.new q.new (sym b.memory) refl r.1)
        (keeps_through m m2 q.new b.keeps r.2) q.at.registers (omega (arith, some, c.size))
        (omega (arith, pt.within plain_to, c.size)) (c.cells_size ∙ sym c.size) c.told c.small writes input

    none_copied : (source target : ℕ) (cells : List Cell) (memory : FlatMemory) → count ≡ 0
        → Placed here m from count source → Placed here m to count target
        → copied here.state.memory source count ≡ Some cells → with_cells here.state.memory target cells ≡ Some memory
        → FollowsInBody placing begin body most m streams (goes_on_with here streams memory)
    none_copied source target cells memory none pf pt reads writes =
        let b = at_bytes placing here operation begin s.far_at s.k count pf.at pt.at to from m at_lines pf.stands
        pt.stands
        in
        let size : length cells ≡ count =
        sym (ap length (copied_are here.state.memory source count cells reads))
        ∙ length_cells here.state.memory source count in
        let nothing : cells ≡ [] = no_cells cells (size ∙ none) in
        let no_lines : passes_bytes count ≡ [] = ap passes_bytes none in
        let whole : s.k + size_of (far_of body) s.far_at (op_lines body operation) ≡ b.past.place + 0 =
        ap (λ ls. s.k + size_of (far_of body) s.far_at ls) lines_are ∙ b.past.size
        ∙ ap (λ ls. b.past.place + size_of (far_of body) b.past.far ls) no_lines in
        let few : b.past.count ≤ 26 = b.past.few in
        nothing_written placing here operation begin most b.past.place b.past.count target memory m b.past.new streams
        is at
        s (omega (arith, whole)) b.past.goes b.some (omega (arith, few)) b.keeps b.past.at.registers b.memory
        (subst (λ cs. with_cells here.state.memory target cs ≡ Some memory) nothing writes) input

    done : (source target : ℕ) (cells : List Cell) (memory : FlatMemory) → place_of here from count ≡ Some source
        → place_of here to count ≡ Some target → may_be_copied_to target source count ≡ true
        → copied here.state.memory source count ≡ Some cells → with_cells here.state.memory target cells ≡ Some memory
        → FollowsInBody placing begin body most m streams (goes_on_with here streams memory)
    done source target cells memory e e' may reads writes =
        let pf = placed placing here operation begin m from count source is at s f.from_short e in
        let pt = placed placing here operation begin m to count target is at s f.to_short e' in
        elim (either_zero count)
        as (λ _. FollowsInBody placing begin body most m streams (goes_on_with here streams memory)) [
          | inl none ↦ none_copied source target cells memory none pf pt reads writes
          | inr some ↦ some_copied source target cells memory some pf pt may reads writes
        ]

-- ---- a copy

pub copy_followed : (placing : Placing) → IsPlacing placing → (to from : Place) (count : ℕ)
    → IsFollowedInBody placing (Copy to from count)
copy_followed placing is to from count = by (count == 8) refl
  where
    by : (b : Bool) → (count == 8) ≡ b → IsFollowedInBody placing (Copy to from count)
    by true e =
        subst (λ n. IsFollowedInBody placing (Copy to from n)) (sym (equal_of count 8 e)) (word_copied placing is to
        from)
    by false e = λ here begin m streams at input.
        subst (λ b. FollowsInBody placing begin here.body
        (cond b (most_at_place from + most_at_place to) (41 + 5 * (count / 8))) m streams
        (copies here to from count streams)) (sym e)
        (bytes_copied placing is to from count e here begin m streams at input)

-- Bytes that the program copies, and where the machine finds the places that operations name.
use Rattle.std.proofs.Common.{◌≡◌, ◌∙◌, ℕ, ◌+◌, ◌-◌, ◌*◌, ◌/◌, ◌%◌, ◌^◌, ◌<◌, ◌≤◌, Bool, true, false, cond, ◌&&◌, ◌==◌}
use Rattle.std.proofs.Common.{List, [], ◌∷◌, ◌++◌, length, map, Option, Some, None, pos, ◌+ℤ◌, arith, refl, ap, sym}
use Rattle.std.proofs.Common.{subst, nat_lt, nat_le, slice_index}
use Rattle.std.specs.Prelude.{unwrap_or}
use Rattle.std.specs.List.{AllZip, list_all}
use Rattle.std.specs.Option.{option_and_then}
use Rattle.std.proofs.lemmas.Bool.{leb-true}
use Rattle.std.proofs.lemmas.Bool.Decides.{nat_tests}
use Rattle.std.proofs.lemmas.Int.{ints}
use Rattle.std.proofs.Common.{append_assoc}
use Rattle.num_core.specs.Bits.{low_bits}
use Rattle.rv_isa.specs.declared.ins.Ins.{Ins}
use Rattle.rv_step.specs.Machine.{MachineState, register}
use Rattle.rv_step.specs.Memory.{Bytes, MayRead, byte_in}
use Rattle.rv_step.proofs.Addresses.{allowed_within, at_each, read_bytes, readable}
use Rattle.lir_core.specs.Check.{fits, has_short_offset, is_whole_or_apart, lies_in_frame}
use Rattle.lir_core.specs.Memory.{Byte, Cell, FlatMemory, cells_from, copied, is_own}
use Rattle.lir_core.specs.Pieces.{at_place}
use Rattle.lir_core.specs.Program.{WordProgram}
use Rattle.lir_core.specs.Slots.{Here, addresses, is_variable, place_behind, place_of, word_in}
use Rattle.lir_core.specs.State.{WordState}
use Rattle.lir_core.specs.Tells.{CellTellsNoMore}
use Rattle.lir_core.specs.declared.body.LirBody.{LirBody}
use Rattle.lir_core.specs.declared.op.LirOp.{LirOp}
use Rattle.lir_core.specs.declared.op.Place.{Place}
use Rattle.lir_core.specs.declared.op.Place.TheVariants.{Slot, Flat}
use Rattle.lir_core.proofs.Sound.{second_of}
use Rattle.lir_core.proofs.Telling.{all_from}
use Rattle.rt_code.proofs.Machines.{sum_of}
use Rattle.rv_lines.specs.Frame.{home}
use Rattle.rv_lines.specs.Moving.{bytes_place, gets_place}
use Rattle.rv_lines.specs.Operands.{gets_address, is_near, reads_slot, register_or}
use Rattle.rv_lines.specs.declared.line.Line.{Line}
use Rattle.rv_words.specs.Groups.{IsAt}
use Rattle.rv_words.specs.Linked.{linked}
use Rattle.rv_words.specs.Placing.{IsPlacing, Placing, data_bytes}
use Rattle.rv_words.specs.Stands.{IsInBounds, Stands}
use Rattle.rv_words.specs.Words.{beyond, cell_of, held_in, memory_in}
use Rattle.rv_words.proofs.Bytes.{cells_are, length_cells}
use Rattle.rv_words.proofs.ConstantCode.{address_by, address_code, address_singles, constant_code, constant_length}
use Rattle.rv_words.proofs.ConstantCode.{far_length, got_address, singles}
use Rattle.rv_words.proofs.Flat.{own_in_data}
use Rattle.rv_words.proofs.Going.{Goes, goes_on}
use Rattle.rv_code.specs.Code.{AllLegal, BlockAt}
use Rattle.rv_words.proofs.Got.{Got, IsFree, got_at}
use Rattle.rv_words.proofs.Homes.{home_bound}
use Rattle.rv_words.proofs.Lines.{AtLines, at_behind, at_equal, first_code, first_part, size_singles}
use Rattle.rv_words.proofs.LinkedCode.{longest_of, size_append, size_of}
use Rattle.rv_words.proofs.LoadLaws.{holds_of_one, place_told, whole_of}
use Rattle.rv_words.proofs.MoveLaws.{copied_are}
use Rattle.rv_words.proofs.Moved.{KeepsOwn, keeps_through}
use Rattle.rv_words.proofs.Operands.{Past, past_operand, slot_still}
use Rattle.rv_words.proofs.Passing.{AreSmall, are_small}
use Rattle.rv_words.proofs.Places.{far_of}
use Rattle.rv_words.proofs.Reading.{SlotStands, memory_told, room_here, slot_stands, small_byte}
use Rattle.rv_words.proofs.Results.{all_owned}
use Rattle.rv_words.proofs.Room.{below_all}
use Rattle.rv_words.proofs.Sites.{Site}

-- ---- what is own, at addresses

pub own_range : (placing : Placing) (state : WordState) (a count : ℕ) → IsPlacing placing
    → IsInBounds placing.program state → 0 < count → a + count ≤ addresses
    → list_all is_own (cells_from state.memory a count) ≡ true
    → (placing.lowest_data ≤ a) × (a + count ≤ placing.program.stack_end)
own_range placing state a count is bounds some within own =
    let each : (x : ℕ) → a ≤ x → x < a + count → is_own (state.memory x) ≡ true =
    all_owned state.memory a count own in
    let first = own_in_data placing state a is bounds (omega (arith, some, within))
    (each a (omega arith) (omega (arith, some))) in
    let z : ℕ = a + count - 1 in
    let last = own_in_data placing state z is bounds (omega (arith, some, within))
    (each z (omega (arith, some)) (omega (arith, some))) in
    (first.0, omega (arith, last.1, some))

pub copied_own : (memory : FlatMemory) (p n : ℕ) (cells : List Cell) → copied memory p n ≡ Some cells
    → list_all is_own (cells_from memory p n) ≡ true
copied_own memory p n cells e = by (list_all is_own (cells_from memory p n)) refl e
  where
    by : (b : Bool) → list_all is_own (cells_from memory p n) ≡ b → cond b (Some (cells_from memory p n)) None
        ≡ Some cells → list_all is_own (cells_from memory p n) ≡ true
    by true is e' = is
    by false is e' = cc

-- Bytes of memory that the program copies tell no less than the cells that it gets.
pub record FlatCells (placing : Placing) (m : MachineState) (a count : ℕ) (cells : List Cell) : Type 0 where
  pub bytes : List ℕ
  pub size : length bytes ≡ count
  pub there : Bytes m a bytes
  pub small : AreSmall bytes
  pub may : MayRead m a count
  pub cells_size : length cells ≡ count
  pub told : AllZip CellTellsNoMore cells (map Byte bytes)
  pub low : placing.lowest_data ≤ a
  pub top : a + count ≤ placing.program.stack_end

lt_true : (x y : ℕ) → x < y → nat_lt x y ≡ true
lt_true x y h = grind (arith, nat_tests)

pub flat_cells : (placing : Placing) (state : WordState) (m : MachineState) (a count : ℕ) (cells : List Cell)
    → IsPlacing placing → Stands placing state m → 0 < count → a + count ≤ addresses
    → copied state.memory a count ≡ Some cells → FlatCells placing m a count cells
flat_cells placing state m a count cells is stands some within e =
    let are : cells_from state.memory a count ≡ cells = copied_are state.memory a count cells e in
    let range = own_range placing state a count is stands.bounds some within
    (copied_own state.memory a count cells e) in
    let may : MayRead m a count =
    allowed_within (λ s. s.read) placing.lowest_data (data_bytes placing) a count m.segments range.0
    (omega (arith, range.0, range.1)) stands.serves.memory.read in
    let found = readable (λ t. t.read) a count m.segments may in
    let bytes : List ℕ = found.0 in
    let size : length bytes ≡ count = found.2 in
    let there : Bytes m a bytes =
    read_bytes (λ t. t.read) m a count bytes stands.serves.memory.segments found.1 size in
    let byte_there : (k : ℕ) → k < length bytes → byte_in m.segments (a + k) ≡ Some (slice_index bytes k) =
    λ k h.
    let back : a + k - a ≡ k = omega arith in
    at_each m a bytes there (a + k) (omega arith) (omega (arith, h)) ∙ ap (λ i. Some (slice_index bytes i)) back in
    let small : AreSmall bytes =
    are_small bytes
    (λ k h. subst (λ o. unwrap_or o 0 < 256) (byte_there k h)
    (small_byte placing m (a + k) stands.serves.memory (omega (arith, range.0))
    (omega (arith, range.0, range.1, h, size)))) in
    let mine : cells_from (memory_in placing m) a (length bytes) ≡ map Byte bytes =
    cells_are (memory_in placing m) a bytes
    (λ j h. ap (λ b. cond b (cell_of (byte_in m.segments (a + j))) (beyond m (held_in placing m) ((a + j) - addresses)))
    (lt_true (a + j) addresses (omega (arith, within, h, size)))
    ∙ ap cell_of (byte_there j h)) in
    record {
      bytes = bytes;
      size = size;
      there = there;
      small = small;
      may = may;
      cells_size = sym (ap length are) ∙ length_cells state.memory a count;
      told = subst (λ cs. AllZip CellTellsNoMore cs (map Byte bytes)) are
          (subst (AllZip CellTellsNoMore (cells_from state.memory a count))
          (subst (λ n. cells_from (memory_in placing m) a n ≡ map Byte bytes) size mine)
          (all_from state.memory (memory_in placing m) (memory_told placing state m stands) a count));
      low = range.0;
      top = range.1;
    }

-- ---- places

-- Where a place lies, by the address of the frame, or by what a slot holds.
abbrev pub PlaceStands : MachineState → List ℕ → Place → ℕ → Type 0
PlaceStands m vars (Slot slot offset) a =
    (register m 2 + bytes_place slot offset ≡ a) × (bytes_place slot offset ≤ 65536) × (a < 2 ^ 64)
PlaceStands m vars (Flat base offset) a =
    (b : ℕ) × SlotStands m vars base b × ((b + offset) % addresses ≡ a) × (offset < 2 ^ 32)

pub place_still : (m new : MachineState) (vars : List ℕ) (place : Place) (a : ℕ) → KeepsOwn m new
    → new.segments ≡ m.segments → PlaceStands m vars place a → PlaceStands new vars place a
place_still m new vars (Slot slot offset) a keeps memory there =
    (ap (λ x. x + bytes_place slot offset) keeps.frame ∙ there.0, there.1, there.2)
place_still m new vars (Flat base offset) a keeps memory there =
    (there.0, slot_still m new vars base there.0 keeps memory there.1, there.2, there.3)

-- whether no variable lies at a place
abbrev pub is_plain : LirBody → Place → Bool
is_plain body (Slot slot offset) = cond (is_variable body ((8 * slot + offset) / 8)) false true
is_plain body (Flat base offset) = true

-- some bytes of a sound operation are the whole word of a variable, or have an address
pub are_plain : (body : LirBody) (place : Place) (count : ℕ) → fits body (at_place place count) ≡ true
    → (count == 8) ≡ false → 0 < count → is_plain body place ≡ true
are_plain body (Slot slot offset) count fit not_8 some =
    by (is_variable body ((8 * slot + offset) / 8)) refl
  where
    from : ℕ
    from = 8 * slot + offset

    eight : count ≡ 8 → (count == 8) ≡ true
    eight e = grind (arith, nat_tests)

    never : true ≡ false → ⊥
    never e = cc

    by : (b : Bool) → is_variable body (from / 8) ≡ b → cond b false true ≡ true
    by true variable =
        let whole : (from ≡ 8 * (from / 8)) × (count ≡ 8) =
        whole_of from count (from / 8) refl some
        (holds_of_one (is_whole_or_apart (at_place (Slot slot offset) count)) body.vars (from / 8)
        (second_of (lies_in_frame body.frame (at_place (Slot slot offset) count))
        (list_all (is_whole_or_apart (at_place (Slot slot offset) count)) body.vars) fit) variable) in
        absurd (never (sym (eight whole.1) ∙ not_8))
    by false variable = refl
are_plain body (Flat base offset) count fit not_8 some = refl

-- A place as the machine finds it. Bytes that have an address lie there.
pub record Placed (here : Here) (m : MachineState) (place : Place) (count a : ℕ) : Type 0 where
  pub at : ℕ
  pub stands : PlaceStands m here.body.vars place at
  pub same : is_plain here.body place ≡ true → at ≡ a
  pub within : is_plain here.body place ≡ true → a + count ≤ addresses

lies_in : (lies variable : Bool) (f a : ℕ) → cond lies (Some (cond variable (addresses + f) f)) None ≡ Some a
    → (lies ≡ true) × (cond variable false true ≡ true → f ≡ a)
lies_in true true f a e = (refl, λ plain. cc)
lies_in true false f a e = (refl, λ plain. cc)
lies_in false variable f a e = cc

pub placed : (placing : Placing) (here : Here) (operation : LirOp) (begin : ℕ) (m : MachineState) (place : Place)
    (count a : ℕ) → IsPlacing placing → IsAt placing here operation begin m → Site placing here operation begin m
    → has_short_offset place ≡ true → place_of here place count ≡ Some a → Placed here m place count a
placed placing here operation begin m (Slot slot offset) count a is at s short e =
    let body : LirBody = here.body in
    let from : ℕ = 8 * slot + offset in
    let f : ℕ = here.frame.address + 128 + from in
    let found = lies_in (lies_in_frame body.frame (at_place (Slot slot offset) count)) (is_variable body (from / 8)) f
    a e
    in
    let ends : 128 + from + count ≤ body.frame = leb-true (128 + from + count) body.frame found.0 in
    let most : body.frame ≤ 65536 = body.frame_size.greatest in
    let same : here.frame.address ≡ register m 2 = s.i.first.address in
    let top : here.frame.address + body.frame + 128 ≤ addresses =
    below_all placing here.frame.address body is (room_here placing here operation begin m is at) in
    record {
      at = f;
      stands = (omega (arith, same), omega (arith, ends, most), omega (arith, ends, top));
      same = found.1;
      within = λ plain. let is_f : f ≡ a = found.1 plain in omega (arith, is_f, ends, top);
    }
placed placing here operation begin m (Flat base offset) count a is at s short e = by (word_in here base) refl e
  where
    below_of : (p q : ℕ) → nat_lt p q ≡ true → p < q
    below_of p q t = grind (arith, nat_tests)

    by : (o : Option ℕ) → word_in here base ≡ o → option_and_then (place_behind offset count) o ≡ Some a
        → Placed here m (Flat base offset) count a
    by None is_word e' = cc
    by (Some b) is_word e' =
        let told = place_told offset count b a e' in
        record {
          at = a;
          stands = (
            b,
            slot_stands placing here operation begin m base b is at s is_word,
            told.0,
            below_of offset (2 ^ 32) short,
          );
          same = λ plain. refl;
          within = λ plain. told.1;
        }

-- ---- an address comes to a register

pub address_length : (rd base offset : ℕ) → length (address_code rd base offset) ≤ 9
address_length rd base offset = by (is_near offset)
  where
    by : (b : Bool) → length (address_by b rd base offset) ≤ 9
    by true = omega arith
    by false =
        let few : length (constant_code 28 offset) ≤ 8 = constant_length 28 offset in
        omega (arith, few, far_length rd base offset)

-- The machine has gone through the first of some lines, by which a register has got a word, and is at the rest.
pub record PastGot (program : WordProgram) (begin : ℕ) (body : LirBody) (far_at k most rd a : ℕ)
    (lines rest : List Line) (m : MachineState) : Type 0 where
  pub past : Past program begin body far_at k most lines rest m
  pub some : 0 < past.count
  pub has : register past.new rd ≡ a
  pub others : (q : ℕ) → (q ≡ rd → ⊥) → (q ≡ 28 → ⊥) → register past.new q ≡ register m q
  pub memory : past.new.segments ≡ m.segments

pub past_singles : (program : WordProgram) (begin : ℕ) (body : LirBody) (far_at k most rd a : ℕ) (xs rest : List Line)
    (code : List Ins) (m : MachineState) → AtLines program begin body far_at k (xs ++ rest) m → xs ≡ singles code
    → (BlockAt (linked program begin body) k code → AllLegal code
    → Got begin (linked program begin body) (k + length code) most rd a m)
    → PastGot program begin body far_at k most rd a (xs ++ rest) rest m
past_singles program begin body far_at k most rd a xs rest code m at same got =
    let first = first_code program begin body far_at k code m
    (at_equal program begin body far_at k xs (singles code) m same
    (first_part program begin body far_at k xs rest m at)) in
    let g : Got begin (linked program begin body) (k + length code) most rd a m = got first.0 first.1 in
    let far' : ℕ = far_at + longest_of xs in
    let place : ℕ = k + size_of (far_of body) far_at xs in
    let sizes : size_of (far_of body) far_at (xs ++ rest)
    ≡ size_of (far_of body) far_at xs + size_of (far_of body) far' rest =
    size_append (far_of body) far_at xs rest in
    let own : size_of (far_of body) far_at xs ≡ length code =
    ap (size_of (far_of body) far_at) same ∙ size_singles (far_of body) far_at code in
    let goes : Goes begin (linked program begin body) place g.count m g.new =
    subst (λ n. Goes begin (linked program begin body) (k + n) g.count m g.new) (sym own) g.goes in
    record {
      past = record {
        far = far';
        place = place;
        new = g.new;
        count = g.count;
        few = g.few;
        goes = goes;
        at = at_behind program begin body far_at k g.count xs rest m g.new at goes g.registers;
        size = omega (arith, sizes);
      };
      some = g.some;
      has = g.has;
      others = g.others;
      memory = g.memory;
    }

pub past_address : (program : WordProgram) (begin : ℕ) (body : LirBody) (far_at k most rd base offset b : ℕ)
    (rest : List Line) (m : MachineState)
    → AtLines program begin body far_at k (gets_address rd base offset ++ rest) m → 0 < rd → rd < 32
    → (base ≡ 28 → ⊥) → register m base ≡ b → offset < 2 ^ 64 → length (address_code rd base offset) ≤ most
    → PastGot program begin body far_at k most rd (low_bits 64 (pos b +ℤ pos offset))
    (gets_address rd base offset ++ rest) rest m
past_address program begin body far_at k most rd base offset b rest m at h h' apart is small enough =
    let code : List Ins = address_code rd base offset in
    past_singles program begin body far_at k most rd (low_bits 64 (pos b +ℤ pos offset)) (gets_address rd base offset)
    rest code m at (address_singles rd base offset)
    (λ block legal. got_at begin (linked program begin body) (k + length code) (k + length code) (length code) most rd
    (low_bits 64 (pos b +ℤ pos offset)) m refl enough
    (got_address begin (linked program begin body) k rd base offset b m at.code_at at.pc block legal h h' apart is small
    at.registers))

-- The address of a place has come to a register, in thirteen steps at most.
pub record PastPlace (program : WordProgram) (begin : ℕ) (body : LirBody) (far_at k rd a : ℕ) (lines rest : List Line)
    (m : MachineState) : Type 0 where
  pub past : Past program begin body far_at k 13 lines rest m
  pub some : 0 < past.count
  pub has : register past.new rd ≡ a
  pub keeps : KeepsOwn m past.new
  pub others : (q : ℕ) → (q ≡ rd → ⊥) → (q ≡ 28 → ⊥) → register past.new q ≡ register m q
  pub memory : past.new.segments ≡ m.segments

pub kept_but : (rd : ℕ) (m new : MachineState) → IsFree rd
    → ((q : ℕ) → (q ≡ rd → ⊥) → (q ≡ 28 → ⊥) → register new q ≡ register m q) → KeepsOwn m new
kept_but rd m new free others = record {
  frame = others 2 (λ e. free.0 (sym e)) (λ e. omega (arith, e));
  homes = λ j h. others (18 + j) (λ e. free.1 j (omega (arith, h)) (sym e)) (λ e. omega (arith, e, h));
  lowest = others 26 (λ e. free.1 8 (omega arith) (sym e)) (λ e. omega (arith, e));
  heap = others 27 (λ e. free.1 9 (omega arith) (sym e)) (λ e. omega (arith, e));
}

base_apart : (vars : List ℕ) (slot rd : ℕ) (o : Option ℕ) → home vars slot ≡ o → (rd ≡ 28 → ⊥)
    → register_or o rd ≡ 28 → ⊥
base_apart vars slot rd (Some r) e ne same =
    let bound = home_bound vars slot r e in
    let less : r < 26 = bound.2 in
    omega (arith, same, less)
base_apart vars slot rd None e ne same = ne same

pub past_place : (program : WordProgram) (begin : ℕ) (body : LirBody) (far_at k rd a : ℕ) (place : Place)
    (rest : List Line) (m : MachineState)
    → AtLines program begin body far_at k (gets_place body.vars rd place ++ rest) m
    → PlaceStands m body.vars place a → IsFree rd → 0 < rd → rd < 28
    → PastPlace program begin body far_at k rd a (gets_place body.vars rd place ++ rest) rest m
past_place program begin body far_at k rd a (Slot slot offset) rest m at there free some few =
    let place : ℕ = bytes_place slot offset in
    let near : place ≤ 65536 = there.1 in
    let g = past_address program begin body far_at k 13 rd 2 place (register m 2) rest m at some (omega (arith, few))
    (λ e. omega (arith, e)) refl (omega (arith, near))
    (let short : length (address_code rd 2 place) ≤ 9 = address_length rd 2 place in omega (arith, short)) in
    record {
      past = g.past;
      some = g.some;
      has = g.has ∙ sum_of (register m 2) place (omega (arith, there.0, there.2)) ∙ there.0;
      keeps = kept_but rd m g.past.new free g.others;
      others = g.others;
      memory = g.memory;
    }
past_place program begin body far_at k rd a (Flat base offset) rest m at there free some few =
    let b : ℕ = there.0 in
    let x : ℕ = register_or (home body.vars base) rd in
    let reads : List Line = reads_slot (home body.vars base) rd base in
    let gets : List Line = gets_address rd x offset in
    let lines : (reads ++ gets) ++ rest ≡ reads ++ (gets ++ rest) = append_assoc reads gets rest in
    let one = past_operand program begin body far_at k rd base b (gets ++ rest) m
    (at_equal program begin body far_at k ((reads ++ gets) ++ rest) (reads ++ (gets ++ rest)) m lines at) there.1 free
    some (omega (arith, few)) in
    let p = one.past in
    let short : offset < 2 ^ 32 = there.3 in
    let two = past_address program begin body p.far p.place 9 rd x offset b rest p.new p.at some (omega (arith, few))
    (base_apart body.vars base rd (home body.vars base) refl (λ e. omega (arith, e, few))) one.has
    (omega (arith, short))
    (address_length rd x offset) in
    let q = two.past in
    let few_1 : p.count ≤ 4 = p.few in
    let few_2 : q.count ≤ 9 = q.few in
    let some_2 : 0 < q.count = two.some in
    let sum : pos b +ℤ pos offset ≡ pos (b + offset) = omega (arith, ints) in
    record {
      past = record {
        far = q.far;
        place = q.place;
        new = q.new;
        count = p.count + q.count;
        few = omega (arith, few_1, few_2);
        goes = goes_on begin (linked program begin body) p.place q.place p.count q.count m p.new q.new p.goes q.goes;
        at = q.at;
        size = ap (λ ls. k + size_of (far_of body) far_at ls) lines ∙ p.size ∙ q.size;
      };
      some = omega (arith, some_2);
      has = two.has ∙ ap (low_bits 64) sum ∙ there.2;
      keeps = keeps_through m p.new q.new one.keeps (kept_but rd p.new q.new free two.others);
      others = λ r ne ne'. two.others r ne ne' ∙ one.others r ne ne';
      memory = two.memory ∙ one.memory;
    }

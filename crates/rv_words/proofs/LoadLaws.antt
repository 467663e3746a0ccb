-- Numbers that are loaded from memory to slots.
use Rattle.std.proofs.Common.{◌≡◌, ◌∙◌, ◌⊎◌, inl, inr, ℕ, ◌+◌, ◌-◌, ◌*◌, ◌/◌, ◌%◌, ◌^◌, ◌<◌, ◌≤◌, Bool, true}
use Rattle.std.proofs.Common.{false, cond, ◌&&◌, ◌||◌, ◌==◌, List, [], ◌∷◌, ◌++◌, length, Option, Some, None, pos}
use Rattle.std.proofs.Common.{◌+ℤ◌, arith, refl, ap, sym, subst, nat_lt, nat_le, slice_index, length-append}
use Rattle.std.proofs.Common.{append_assoc}
use Rattle.std.specs.Option.{option_and_then}
use Rattle.std.specs.List.{list_all, list_any}
use Rattle.std.specs.Int.{bytes_low_first, int_rem_euclid, int_wrap, w64}
use Rattle.std.proofs.lemmas.Bool.{leb-true}
use Rattle.std.proofs.lemmas.Bool.Decides.{nat_tests}
use Rattle.std.proofs.lemmas.Int.{ints}
use Rattle.byteorder.specs.Endian.{little_bytes, little_from}
use Rattle.num_core.specs.Bits.{low_bits}
use Rattle.num_core.specs.Run.{Running, Streams}
use Rattle.num_core.specs.declared.kind.Narrow.{Narrow}
use Rattle.rv_isa.specs.declared.ins.Ins.{Ins}
use Rattle.rv_step.specs.Machine.{MachineState, address as address_of, register}
use Rattle.rv_step.specs.Memory.{Bytes, MayRead, byte_in, is_allowed}
use Rattle.rv_step.proofs.Addresses.{at_each, read_bytes, readable}
use Rattle.rv_code.specs.Code.{AllLegal, BlockAt, CodeAt, given}
use Rattle.rv_code.specs.Registers.{HasRegisters}
use Rattle.rv_code.proofs.Going.{block_parts, legal_parts, same_bytes}
use Rattle.lir_core.specs.Check.{can_be_addressed, fits, has_short_numbers, is_sound_op, is_whole_or_apart}
use Rattle.lir_core.specs.Check.{lies_in_frame}
use Rattle.lir_core.specs.Frame.{most_passed}
use Rattle.lir_core.specs.Memory.{FlatMemory, number_in}
use Rattle.lir_core.specs.Pieces.{addressed, at_place, bytes_of_type, labels, passed, touched, word}
use Rattle.lir_core.specs.Program.{with}
use Rattle.lir_core.specs.Slots.{Here, addresses, is_variable, place_behind, place_of, word_in}
use Rattle.lir_core.specs.State.{WordCause}
use Rattle.lir_core.specs.Step.{gives_value}
use Rattle.lir_core.specs.Values.{widened, word_of}
use Rattle.lir_core.specs.declared.body.LirBody.{LirBody}
use Rattle.lir_core.specs.declared.op.LirOp.{LirOp}
use Rattle.lir_core.specs.declared.op.LirOp.TheVariants.{Load}
use Rattle.lir_core.specs.declared.op.Place.{Place}
use Rattle.lir_core.specs.declared.op.Place.TheVariants.{Slot, Flat}
use Rattle.lir_core.proofs.Sound.{first_of, operation_at, second_of}
use Rattle.lir_core.proofs.Telling.{same_number}
use Rattle.rv_lines.specs.Frame.{home, slot_place}
use Rattle.rv_lines.specs.Moving.{bytes_place, home_of_bytes, loads_frame}
use Rattle.rv_lines.specs.Operands.{adds_far, is_near, loads, loads_behind, reads_slot, register_or, writes_slot}
use Rattle.rv_lines.specs.declared.line.Line.{Line}
use Rattle.rv_lines.specs.declared.line.Line.TheVariants.{Single}
use Rattle.rv_lines.proofs.Loading.{loaded_number}
use Rattle.rv_gen.specs.Lines.{op_lines, to_slot}
use Rattle.rv_words.specs.Groups.{IsAt, IsFollowedInBody}
use Rattle.rv_words.specs.Linked.{linked}
use Rattle.rv_words.specs.Placing.{HasProgram, IsPlacing, Placing, data_bytes}
use Rattle.rv_words.specs.Stands.{AreBytes, FollowsInBody}
use Rattle.rv_words.specs.Steps.{behind_address}
use Rattle.rv_words.specs.Words.{memory_in, word_at}
use Rattle.rv_words.proofs.Kept.{word_read}
use Rattle.rv_lines.proofs.Values.{low_of_wrapped}
use Rattle.std.specs.Prelude.{unwrap_or}
use Rattle.rv_words.proofs.Bytes.{number_back}
use Rattle.rv_words.proofs.ConstantCode.{constant_code, constant_length, constant_short, far_code, far_length}
use Rattle.rv_words.proofs.ConstantCode.{far_singles}
use Rattle.rv_words.proofs.ConstantCode.{got_far, singles, singles_append}
use Rattle.rv_words.proofs.Flat.{FlatNumber, flat_number}
use Rattle.rv_words.proofs.Giving.{IsTarget, is_target, past_none, word_by_singles}
use Rattle.rv_words.proofs.Got.{Got, got_at, got_is, got_once, got_through}
use Rattle.rv_words.proofs.Homes.{home_variable}
use Rattle.rv_words.proofs.Lines.{at_equal, at_site}
use Rattle.rv_words.proofs.LinkedCode.{size_of}
use Rattle.rv_words.proofs.MoveLaws.{other_apart}
use Rattle.rv_words.proofs.Operands.{Past, free_5, keeps_itself, past_operand}
use Rattle.rv_words.proofs.Places.{far_of}
use Rattle.rv_words.proofs.Reading.{SlotStands, SlotWord, StandsIn, memory_told, room_here, slot_stands, slot_word}
use Rattle.rv_words.proofs.Reading.{small_byte}
use Rattle.rv_words.proofs.Reading.{word_told}
use Rattle.rv_words.proofs.Registers.{low_small}
use Rattle.rv_words.proofs.Room.{HasRoom, below_all, in_data}
use Rattle.rv_words.proofs.Sites.{Site, followed_stuck, site}

-- ---- a number of a type to a register

abbrev pub number_by : Bool → Narrow → ℕ → ℕ → ℕ → List Ins
number_by near narrow rd base offset =
    cond near (loads narrow rd base (pos offset) ∷ []) (far_code 28 base offset ++ loads narrow rd 28 (pos 0) ∷ [])

abbrev pub number_code : Narrow → ℕ → ℕ → ℕ → List Ins
number_code narrow rd base offset = number_by (is_near offset) narrow rd base offset

pub number_singles : (narrow : Narrow) (rd base offset : ℕ)
    → loads_behind narrow rd base offset ≡ singles (number_code narrow rd base offset)
number_singles narrow rd base offset = by (is_near offset)
  where
    by : (b : Bool) → cond b (Single (loads narrow rd base (pos offset)) ∷ [])
        (adds_far 28 base offset ++ Single (loads narrow rd 28 (pos 0)) ∷ [])
        ≡ singles (number_by b narrow rd base offset)
    by true = refl
    by false =
        ap (λ xs. xs ++ Single (loads narrow rd 28 (pos 0)) ∷ []) (far_singles 28 base offset)
        ∙ sym (singles_append (far_code 28 base offset) (loads narrow rd 28 (pos 0) ∷ []))

far_number_length : (narrow : Narrow) (rd base offset : ℕ)
    → length (far_code 28 base offset ++ loads narrow rd 28 (pos 0) ∷ []) ≡ length (constant_code 28 offset) + 1 + 1
far_number_length narrow rd base offset =
    length-append (far_code 28 base offset) (loads narrow rd 28 (pos 0) ∷ [])
    ∙ ap (λ n. n + 1) (far_length 28 base offset)

pub number_length : (narrow : Narrow) (rd base offset : ℕ)
    → length (number_code narrow rd base offset) ≤ behind_address offset
number_length narrow rd base offset = by (is_near offset)
  where
    by : (b : Bool) → length (number_by b narrow rd base offset) ≤ cond b 1 10
    by true = omega arith
    by false =
        let few : length (constant_code 28 offset) ≤ 8 = constant_length 28 offset in
        omega (arith, few, far_number_length narrow rd base offset)

pub number_short : (narrow : Narrow) (rd base offset : ℕ) → offset < 2 ^ 31
    → length (number_code narrow rd base offset) ≤ 4
number_short narrow rd base offset h = by (is_near offset)
  where
    by : (b : Bool) → length (number_by b narrow rd base offset) ≤ 4
    by true = omega arith
    by false =
        let few : length (constant_code 28 offset) ≤ 2 = constant_short 28 offset h in
        omega (arith, few, far_number_length narrow rd base offset)

pub flat_same : (m new : MachineState) (a count n : ℕ) → new.segments ≡ m.segments → FlatNumber m a count n
    → FlatNumber new a count n
flat_same m new a count n e f = record {
  may = ap (λ ss. is_allowed (λ s. s.read) ss a count) e ∙ f.may;
  there = same_bytes m new a (little_bytes count n) e f.there;
  small = f.small;
}

got_loaded : (address : ℕ) (code : List Ins) (k : ℕ) (narrow : Narrow) (rd base offset a n : ℕ) (m : MachineState)
    → CodeAt address code m → m.pc ≡ address + 4 * k
    → BlockAt code k (loads narrow rd base (pos offset) ∷ []) → AllLegal (loads narrow rd base (pos offset) ∷ [])
    → 0 < rd → rd < 32 → address_of m base (pos offset) ≡ a → FlatNumber m a (bytes_of_type narrow) n
    → HasRegisters m → Got address code (k + 1) 1 rd (word_of (widened narrow n)) m
got_loaded address code k narrow rd base offset a n m at pc there legal h h' is f has =
    let g : FlatNumber m (address_of m base (pos offset)) (bytes_of_type narrow) n =
    subst (λ x. FlatNumber m x (bytes_of_type narrow) n) (sym is) f in
    got_once address code k (loads narrow rd base (pos offset)) rd (word_of (widened narrow n)) m at pc there.0 legal.0
    (λ ss. loaded_number narrow m ss rd base (pos offset) n at.segments g.small g.may g.there) h h'
    (low_small (widened narrow n)) has

pub got_number : (address : ℕ) (code : List Ins) (k : ℕ) (narrow : Narrow) (rd base offset b a n : ℕ) (m : MachineState)
    → CodeAt address code m → m.pc ≡ address + 4 * k → BlockAt code k (number_code narrow rd base offset)
    → AllLegal (number_code narrow rd base offset) → 0 < rd → rd < 32 → (base ≡ 28 → ⊥) → register m base ≡ b
    → low_bits 64 (pos b +ℤ pos offset) ≡ a → offset < 2 ^ 64 → FlatNumber m a (bytes_of_type narrow) n
    → HasRegisters m
    → Got address code (k + length (number_code narrow rd base offset)) (length (number_code narrow rd base offset)) rd
    (word_of (widened narrow n)) m
got_number address code k narrow rd base offset b a n m at pc there legal h h' apart is sum small f has =
    by (is_near offset) there legal
  where
    by : (t : Bool) → BlockAt code k (number_by t narrow rd base offset)
        → AllLegal (number_by t narrow rd base offset)
        → Got address code (k + length (number_by t narrow rd base offset))
        (length (number_by t narrow rd base offset)) rd (word_of (widened narrow n)) m
    by true there legal =
        got_loaded address code k narrow rd base offset a n m at pc there legal h h'
        (ap (λ x. low_bits 64 (pos x +ℤ pos offset)) is ∙ sum) f has
    by false there legal =
        let far : List Ins = far_code 28 base offset in
        let c : ℕ = length (constant_code 28 offset) in
        let last : List Ins = loads narrow rd 28 (pos 0) ∷ [] in
        let parts = block_parts code k far last there in
        let lawful = legal_parts far last legal in
        let first : Got address code (k + c + 1) (c + 1) 28 a m =
        got_is address code (k + c + 1) (c + 1) 28 (low_bits 64 (pos b +ℤ pos offset)) a m sum
        (got_far address code k 28 base offset b m at pc parts.0 lawful.0 (omega arith)
        (omega arith) apart is small has) in
        let size : length far ≡ c + 1 = far_length 28 base offset in
        let place : k + length far ≡ k + c + 1 = omega (arith, size) in
        let fits_a : a < 2 ^ 64 = subst (λ x. x < 2 ^ 64) sum (low_small (pos b +ℤ pos offset)) in
        let there' : address_of first.new 28 (pos 0) ≡ a =
        ap (λ x. low_bits 64 (pos x +ℤ pos 0)) first.has ∙ omega (arith, fits_a) in
        let second : Got address code (k + c + 1 + 1) 1 rd (word_of (widened narrow n)) first.new =
        got_loaded address code (k + c + 1) narrow rd 28 0 a n first.new first.goes.code_at first.goes.pc
        (subst (λ p. BlockAt code p last) place parts.1) lawful.1 h h' there'
        (flat_same m first.new a (bytes_of_type narrow) n first.memory f) first.registers in
        let whole : length (far ++ last) ≡ c + 1 + 1 = far_number_length narrow rd base offset in
        got_at address code (k + c + 1 + 1) (k + length (far ++ last)) (c + 1 + 1) (length (far ++ last)) rd
        (word_of (widened narrow n)) m (omega (arith, whole)) (omega (arith, whole))
        (got_through address code (k + c + 1) (k + c + 1 + 1) (c + 1) 1 28 a rd
        (word_of (widened narrow n)) m first second
        (inl refl))

-- ---- behind an address that a slot holds

pub place_told : (offset count b a : ℕ) → place_behind offset count b ≡ Some a
    → ((b + offset) % addresses ≡ a) × (a + count ≤ addresses)
place_told offset count b a e = by (nat_le ((b + offset) % addresses + count) addresses) refl e
  where
    at_most : (p q : ℕ) → nat_le p q ≡ true → p ≤ q
    at_most p q t = grind (arith, nat_tests)

    by : (t : Bool) → nat_le ((b + offset) % addresses + count) addresses ≡ t
        → cond t (Some ((b + offset) % addresses)) None ≡ Some a
        → ((b + offset) % addresses ≡ a) × (a + count ≤ addresses)
    by true t e' =
        let same : (b + offset) % addresses ≡ a = cc in
        (same, subst (λ x. x + count ≤ addresses) same (at_most ((b + offset) % addresses + count) addresses t))
    by false t e' = cc

-- what a sound operation says of the parts of its frame, and of its numbers
pub parts_fit : (placing : Placing) → IsPlacing placing → (here : Here) (operation : LirOp) (begin : ℕ)
    (m : MachineState) → IsAt placing here operation begin m
    → (list_all (fits here.body) (touched operation) ≡ true) × (has_short_numbers operation ≡ true)
parts_fit placing is here operation begin m at =
    let body : LirBody = here.body in
    let all : is_sound_op body operation ≡ true =
    operation_at body here.frame.place operation (is.laid_out.sound here.frame.item body at.body) at.operation_there in
    let a : Bool = list_all (fits body) (touched operation) in
    let b : Bool = list_all (can_be_addressed body) (addressed operation) in
    let c : Bool = list_all (λ label. nat_lt label (length body.ops)) (labels operation) in
    let d : Bool = nat_le (length (passed operation)) most_passed in (
      first_of a b (first_of (a && b) c (first_of ((a && b) && c) d
          (first_of (((a && b) && c) && d) (has_short_numbers operation) all))),
      second_of (((a && b) && c) && d) (has_short_numbers operation) all,
    )

pub numbers_short : (placing : Placing) → IsPlacing placing → (here : Here) (operation : LirOp) (begin : ℕ)
    (m : MachineState) → IsAt placing here operation begin m → has_short_numbers operation ≡ true
numbers_short placing is here operation begin m at = (parts_fit placing is here operation begin m at).1

pub some_bytes : (narrow : Narrow) → 0 < bytes_of_type narrow
some_bytes Narrow.I1 = omega arith
some_bytes Narrow.U1 = omega arith
some_bytes Narrow.I2 = omega arith
some_bytes Narrow.U2 = omega arith
some_bytes Narrow.I4 = omega arith
some_bytes Narrow.U4 = omega arith
some_bytes Narrow.I8 = omega arith
some_bytes Narrow.U8 = omega arith

below_of : (p q : ℕ) → nat_lt p q ≡ true → p < q
below_of p q t = grind (arith, nat_tests)

load_flat : (placing : Placing) → IsPlacing placing → (to base offset b a n : ℕ) (narrow : Narrow) (here : Here)
    (begin : ℕ) (m : MachineState) (streams : Streams) → IsAt placing here (Load to (Flat base offset) narrow) begin m
    → AreBytes streams → word_in here base ≡ Some b → place_behind offset (bytes_of_type narrow) b ≡ Some a
    → number_in here.state.memory a (bytes_of_type narrow) ≡ Some n
    → FollowsInBody placing begin here.body (4 + behind_address offset + 4) m streams
    (gives_value here to streams (widened narrow n))
load_flat placing is to base offset b a n narrow here begin m streams at bytes base_is place_is read =
    let operation : LirOp = Load to (Flat base offset) narrow in
    let body : LirBody = here.body in
    let s : Site placing here operation begin m = site placing here operation begin m is at in
    let count : ℕ = bytes_of_type narrow in
    let x : ℕ = register_or (home body.vars base) 5 in
    let r : ℕ = register_or (home body.vars to) 7 in
    let target : IsTarget r = is_target body.vars to (home body.vars to) refl in
    let l : SlotStands m body.vars base b = slot_stands placing here operation begin m base b is at s base_is in
    let told = place_told offset count b a place_is in
    let short : offset < 2 ^ 32 = below_of offset (2 ^ 32) (numbers_short placing is here operation begin m at) in
    let sum : pos b +ℤ pos offset ≡ pos (b + offset) = omega (arith, ints) in
    let address_is : low_bits 64 (pos b +ℤ pos offset) ≡ a = ap (low_bits 64) sum ∙ told.0 in
    let f : FlatNumber m a count n =
    flat_number placing here.state m a count n is at.stands (some_bytes narrow) told.1 read in
    let own : ℕ → List Line = λ q. loads_behind narrow q x offset in
    let rest : List Line = to_slot body.vars to own in
    let lines : op_lines body operation ≡ reads_slot (home body.vars base) 5 base ++ rest =
    append_assoc (reads_slot (home body.vars base) 5 base) (own r) (writes_slot (home body.vars to) 7 to) in
    let one = past_operand placing.program begin body s.far_at s.k 5 base b rest m
    (at_equal placing.program begin body s.far_at s.k (op_lines body operation)
    (reads_slot (home body.vars base) 5 base ++ rest) m lines
    (at_site placing here operation begin m s at.stands.serves.registers)) l free_5 (omega arith) (omega arith) in
    let p : Past placing.program begin body s.far_at s.k 4 (op_lines body operation) rest m = record {
      far = one.past.far;
      place = one.past.place;
      new = one.past.new;
      count = one.past.count;
      few = one.past.few;
      goes = one.past.goes;
      at = one.past.at;
      size = ap (λ ls. s.k + size_of (far_of body) s.far_at ls) lines ∙ one.past.size;
    } in
    let code : List Ins = number_code narrow r x offset in
    let value : ℕ = word_of (widened narrow n) in
    word_by_singles placing here operation begin to (4 + behind_address offset + 4) 4
    (behind_address offset) value own code
    m streams is at s p one.keeps one.memory (number_singles narrow r x offset)
    (λ block legal. got_at begin (linked placing.program begin body) (one.past.place + length code)
    (one.past.place + length code) (length code) (behind_address offset) r value one.past.new refl
    (number_length narrow r x offset)
    (got_number begin (linked placing.program begin body) one.past.place narrow r x offset b a n one.past.new
    one.past.at.code_at one.past.at.pc block legal target.some target.few
    (other_apart body.vars base (home body.vars base) refl) one.has address_is (omega (arith, short))
    (flat_same m one.past.new a count n one.memory f) one.past.at.registers))
    (low_small (widened narrow n)) (omega arith) bytes

-- ---- from the frame

pub home_none : (body : LirBody) (from count : ℕ) → is_variable body (from / 8) ≡ false
    → home_of_bytes body.vars from count ≡ None
home_none body from count other = by (count == 8) (from % 8 == 0) (home body.vars (from / 8)) refl
  where
    by : (a b : Bool) (o : Option ℕ) → home body.vars (from / 8) ≡ o → cond a (cond b o None) None ≡ None
    by true true (Some r) e =
        absurd (let never : true ≡ false = sym (home_variable body.vars (from / 8) r e) ∙ other in cc)
    by true true None e = refl
    by true false o e = refl
    by false b o e = refl

pub reading_of : (lies beyond_all : Bool) (a n count : ℕ) (memory : FlatMemory)
    → option_and_then (λ p. number_in memory p count) (cond lies (Some (cond beyond_all (addresses + a) a)) None)
    ≡ Some n
    → (lies ≡ true) × (number_in memory (cond beyond_all (addresses + a) a) count ≡ Some n)
reading_of true beyond_all a n count memory e = (refl, e)
reading_of false beyond_all a n count memory e = cc

-- of a test that holds of all, that it holds of one of them
pub holds_of_one : (p : ℕ → Bool) (xs : List ℕ) (x : ℕ) → list_all p xs ≡ true → list_any (λ y. y == x) xs ≡ true
    → p x ≡ true
holds_of_one p [] x all some = cc
holds_of_one p (y ∷ ys) x all some =
    by (holds_of_one p ys x (second_of (p y) (list_all p ys) all)) (y == x) refl some
  where
    equal : y == x ≡ true → y ≡ x
    equal t = grind (arith, nat_tests)

    by : (list_any (λ z. z == x) ys ≡ true → p x ≡ true) → (b : Bool) → y == x ≡ b
        → (b || list_any (λ z. z == x) ys) ≡ true → p x ≡ true
    by rest true t e = subst (λ z. p z ≡ true) (equal t) (first_of (p y) (list_all p ys) all)
    by rest false t e = rest e

pub le_true : (p q : ℕ) → p ≤ q → nat_le p q ≡ true
le_true p q h = grind (arith, nat_tests)

-- bytes that meet a variable are its word
either_of : (a b : Bool) → (a || b) ≡ true → (a ≡ true) ⊎ (b ≡ true)
either_of true b e = inl refl
either_of false b e = inr e

same_of : (p q : ℕ) → (p == q) ≡ true → p ≡ q
same_of p q t = grind (arith, nat_tests)

at_most_of : (p q : ℕ) → nat_le p q ≡ true → p ≤ q
at_most_of p q t = grind (arith, nat_tests)

pub whole_of : (from count s : ℕ) → s ≡ from / 8 → 0 < count
    → ((((from == 8 * s) && (count == 8)) || nat_le (from + count) (8 * s)) || nat_le (8 * s + 8) from) ≡ true
    → (from ≡ 8 * s) × (count ≡ 8)
whole_of from count s is some e =
    elim (either_of (((from == 8 * s) && (count == 8)) || nat_le (from + count) (8 * s)) (nat_le (8 * s + 8) from) e)
    as (λ _. (from ≡ 8 * s) × (count ≡ 8)) [
      | inl two ↦ elim (either_of ((from == 8 * s) && (count == 8)) (nat_le (from + count) (8 * s)) two)
          as (λ _. (from ≡ 8 * s) × (count ≡ 8)) [
            | inl both ↦ (
              same_of from (8 * s) (first_of (from == 8 * s) (count == 8) both),
              same_of count 8 (second_of (from == 8 * s) (count == 8) both),
            )
            | inr before ↦
                let h : from + count ≤ 8 * s = at_most_of (from + count) (8 * s) before in
                absurd (omega (arith, h, is, some))
          ]
      | inr behind ↦
          let h : 8 * s + 8 ≤ from = at_most_of (8 * s + 8) from behind in
          absurd (omega (arith, h, is))
    ]

-- a word that the machine may read, as a number
pub word_number : (placing : Placing) (m : MachineState) (q n : ℕ) → HasProgram placing m → placing.lowest_data ≤ q
    → q + 8 ≤ placing.lowest_data + data_bytes placing → MayRead m q 8 → word_at m q ≡ n → n < 2 ^ 64
    → FlatNumber m q 8 n
word_number placing m q n has low high may is small =
    let found = readable (λ t. t.read) q 8 m.segments may in
    let there : Bytes m q found.0 = read_bytes (λ t. t.read) m q 8 found.0 has.segments found.1 found.2 in
    let bytes_small : (k : ℕ) → k < length found.0 → slice_index found.0 k < 256 = λ k h.
    let back : q + k - q ≡ k = omega arith in
    let byte : byte_in m.segments (q + k) ≡ Some (slice_index found.0 k) =
    at_each m q found.0 there (q + k) (omega arith) (omega (arith, h))
    ∙ ap (λ i. Some (slice_index found.0 i)) back in
    subst (λ o. unwrap_or o 0 < 256) byte
    (small_byte placing m (q + k) has (omega (arith, low)) (omega (arith, high, h, found.2))) in
    let back : little_bytes 8 n ≡ found.0 =
    ap (little_bytes 8) (sym is ∙ word_read m q found.0 found.2 there)
    ∙ subst (λ k. bytes_low_first 0 k (little_from 0 k found.0) ≡ found.0) found.2 (number_back found.0 bytes_small) in
    record { may = may; there = subst (Bytes m q) (sym back) there; small = small }

-- a word of eight bytes is held as it is
pub widened_word : (narrow : Narrow) (n : ℕ) → bytes_of_type narrow ≡ 8 → n < 2 ^ 64 → word_of (widened narrow n) ≡ n
widened_word Narrow.I1 n e h = absurd (omega (arith, e))
widened_word Narrow.U1 n e h = absurd (omega (arith, e))
widened_word Narrow.I2 n e h = absurd (omega (arith, e))
widened_word Narrow.U2 n e h = absurd (omega (arith, e))
widened_word Narrow.I4 n e h = absurd (omega (arith, e))
widened_word Narrow.U4 n e h = absurd (omega (arith, e))
widened_word Narrow.I8 n e h =
    low_of_wrapped (int_wrap w64 (pos n)) ∙ low_of_wrapped (pos n) ∙ omega (arith, h)
widened_word Narrow.U8 n e h =
    low_of_wrapped (int_rem_euclid (pos n) (pos (2 ^ 64))) ∙ omega (arith, ints, h)

load_slot : (placing : Placing) → IsPlacing placing → (to slot offset n : ℕ) (narrow : Narrow) (here : Here)
    (begin : ℕ) (m : MachineState) (streams : Streams) → IsAt placing here (Load to (Slot slot offset) narrow) begin m
    → AreBytes streams
    → option_and_then (λ p. number_in here.state.memory p (bytes_of_type narrow))
    (place_of here (Slot slot offset) (bytes_of_type narrow)) ≡ Some n
    → FollowsInBody placing begin here.body 8 m streams (gives_value here to streams (widened narrow n))
load_slot placing is to slot offset n narrow here begin m streams at bytes read =
    by (is_variable here.body (from / 8)) refl found.1
  where
    operation : LirOp
    operation = Load to (Slot slot offset) narrow

    body : LirBody
    body = here.body

    count : ℕ
    count = bytes_of_type narrow

    from : ℕ
    from = 8 * slot + offset

    place : ℕ
    place = bytes_place slot offset

    a : ℕ
    a = here.frame.address + 128 + from

    value : ℕ
    value = word_of (widened narrow n)

    s : Site placing here operation begin m
    s = site placing here operation begin m is at

    r : ℕ
    r = register_or (home body.vars to) 7

    target : IsTarget r
    target = is_target body.vars to (home body.vars to) refl

    found : (lies_in_frame body.frame (at_place (Slot slot offset) count) ≡ true)
        × (number_in here.state.memory (cond (is_variable body (from / 8)) (addresses + a) a) count ≡ Some n)
    found =
        reading_of (lies_in_frame body.frame (at_place (Slot slot offset) count))
        (is_variable body (from / 8)) a n count here.state.memory read

    ends : 128 + from + count ≤ body.frame
    ends = leb-true (128 + from + count) body.frame found.0

    most : body.frame ≤ 65536
    most = body.frame_size.greatest

    same : here.frame.address ≡ register m 2
    same = s.i.first.address

    room : HasRoom placing here.frame.address body
    room = room_here placing here operation begin m is at

    top : here.frame.address + body.frame + 128 ≤ addresses
    top = below_all placing here.frame.address body is room

    own : ℕ → List Line
    own q = loads_frame (home_of_bytes body.vars from count) narrow q place

    -- by a load behind the begin of the frame
    behind_frame : home_of_bytes body.vars from count ≡ None → FlatNumber m a count n
        → FollowsInBody placing begin body 8 m streams (gives_value here to streams (widened narrow n))
    behind_frame none f =
        let code : List Ins = number_code narrow r 2 place in
        let sum : pos (register m 2) +ℤ pos place ≡ pos (register m 2 + place) = omega (arith, ints) in
        let address_is : low_bits 64 (pos (register m 2) +ℤ pos place) ≡ a =
        ap (low_bits 64) sum ∙ omega (arith, same, top, ends) in
        word_by_singles placing here operation begin to 8 0 4 value own code m streams is at s
        (past_none placing here operation begin m at s) (keeps_itself m) refl
        (ap (λ h. loads_frame h narrow r place) none ∙ number_singles narrow r 2 place)
        (λ block legal. got_at begin (linked placing.program begin body) (s.k + length code) (s.k + length code)
        (length code) 4 r value m refl (number_short narrow r 2 place (omega (arith, ends, most)))
        (got_number begin (linked placing.program begin body) s.k narrow r 2 place (register m 2) a n m s.code_at s.pc
        block legal target.some target.few (λ e. omega (arith, e)) refl address_is (omega (arith, ends, most)) f
        at.stands.serves.registers))
        (low_small (widened narrow n)) (omega arith) bytes

    -- from the home of a variable
    from_home : (q : ℕ) → home_of_bytes body.vars from count ≡ Some q → register m q ≡ value
        → FollowsInBody placing begin body 8 m streams (gives_value here to streams (widened narrow n))
    from_home q home_is is_value =
        let sum : low_bits 64 (pos (register m q) +ℤ pos 0) ≡ value =
        ap (λ x. low_bits 64 (pos x +ℤ pos 0)) is_value ∙ omega (arith, low_small (widened narrow n)) in
        word_by_singles placing here operation begin to 8 0 1 value own (Ins.Addi r q (pos 0) ∷ []) m streams is at s
        (past_none placing here operation begin m at s) (keeps_itself m) refl
        (ap (λ h. loads_frame h narrow r place) home_is)
        (λ block legal. got_once begin (linked placing.program begin body) s.k
        (Ins.Addi r q (pos 0)) r value m s.code_at
        s.pc block.0 legal.0 (λ ss. ap (λ x. Running (given r x m) ss) sum) target.some target.few
        (low_small (widened narrow n)) at.stands.serves.registers)
        (low_small (widened narrow n)) (omega arith) bytes

    fits_piece : fits body (at_place (Slot slot offset) count) ≡ true
    fits_piece =
        first_of (fits body (at_place (Slot slot offset) count)) true
        (second_of (fits body (word to)) (fits body (at_place (Slot slot offset) count) && true)
        (parts_fit placing is here operation begin m at).0)

    by_variable : is_variable body (from / 8) ≡ true → number_in here.state.memory (addresses + a) count ≡ Some n
        → FollowsInBody placing begin body 8 m streams (gives_value here to streams (widened narrow n))
    by_variable variable read' =
        let v : ℕ = from / 8 in
        let whole : (from ≡ 8 * v) × (count ≡ 8) =
        whole_of from count v refl (some_bytes narrow)
        (holds_of_one (is_whole_or_apart (at_place (Slot slot offset) count)) body.vars v
        (second_of (lies_in_frame body.frame (at_place (Slot slot offset) count))
        (list_all (is_whole_or_apart (at_place (Slot slot offset) count)) body.vars) fits_piece)
        variable) in
        let ends_word : 128 + 8 * v + 8 ≤ body.frame = omega (arith, ends, whole.0, whole.1) in
        let w : SlotWord placing here m v =
        slot_word placing here operation begin m v is at s (le_true (128 + 8 * v + 8) body.frame ends_word) in
        let p : ℕ = cond (is_variable body v) (addresses + (here.frame.address + 128 + 8 * v))
        (here.frame.address + 128 + 8 * v) in
        let p_is : addresses + a ≡ p =
        ap (λ f. addresses + (here.frame.address + 128 + f)) whole.0
        ∙ ap (λ b. cond b (addresses + (here.frame.address + 128 + 8 * v)) (here.frame.address + 128 + 8 * v))
        (sym variable) in
        let there : number_in (memory_in placing m) p 8 ≡ Some n =
        same_number here.state.memory (memory_in placing m) p 8 n (memory_told placing here.state m at.stands)
        (subst (λ c. number_in here.state.memory p c ≡ Some n) whole.1
        (subst (λ q. number_in here.state.memory q count ≡ Some n) p_is read')) in
        let word_is : w.word ≡ n = word_told (memory_in placing m) p w.word n w.stands.small w.cells there in
        let l : SlotStands m body.vars v n = subst (SlotStands m body.vars v) word_is w.stands in
        let even : from % 8 ≡ 0 = omega (arith, whole.0) in
        let home_is : home_of_bytes body.vars from count ≡ home body.vars v =
        ap (λ c. cond (c == 8) (cond (from % 8 == 0) (home body.vars v) None) None) whole.1
        ∙ ap (λ k. cond (k == 0) (home body.vars v) None) even in
        by_home v whole l home_is (home body.vars v) refl l.stands
      where
        by_home : (v : ℕ) → (from ≡ 8 * v) × (count ≡ 8) → SlotStands m body.vars v n
            → home_of_bytes body.vars from count ≡ home body.vars v → (o : Option ℕ) → home body.vars v ≡ o
            → StandsIn o m v n
            → FollowsInBody placing begin body 8 m streams (gives_value here to streams (widened narrow n))
        by_home v whole l home_is (Some q) e stands =
            from_home q (home_is ∙ e) (stands ∙ sym (widened_word narrow n whole.1 l.small))
        by_home v whole l home_is None e stands =
            let q : ℕ = register m 2 + slot_place v in
            let q_is : q ≡ a = omega (arith, same, whole.0) in
            let inside = in_data placing here.frame.address body q 8 is room (omega (arith, same))
            (omega (arith, same, ends, whole.0, whole.1)) in
            let f : FlatNumber m q 8 n =
            word_number placing m q n at.stands.serves.memory inside.0 inside.1 stands.0 stands.1 l.small in
            behind_frame (home_is ∙ e)
            (subst (λ c. FlatNumber m a c n) (sym whole.1) (subst (λ x. FlatNumber m x 8 n) q_is f))

    by : (b : Bool) → is_variable body (from / 8) ≡ b
        → number_in here.state.memory (cond b (addresses + a) a) count ≡ Some n
        → FollowsInBody placing begin body 8 m streams (gives_value here to streams (widened narrow n))
    by true e read' = by_variable e read'
    by false e read' =
        behind_frame (home_none body from count e)
        (flat_number placing here.state m a count n is at.stands (some_bytes narrow) (omega (arith, top, ends)) read')

-- ---- a load

pub load_followed : (placing : Placing) → IsPlacing placing → (to : ℕ) (from : Place) (narrow : Narrow)
    → IsFollowedInBody placing (Load to from narrow)
load_followed placing is to (Slot slot offset) narrow here begin m streams at bytes =
    by (option_and_then (λ p. number_in here.state.memory p (bytes_of_type narrow))
    (place_of here (Slot slot offset) (bytes_of_type narrow))) refl
  where
    by : (o : Option ℕ) → option_and_then (λ p. number_in here.state.memory p (bytes_of_type narrow))
        (place_of here (Slot slot offset) (bytes_of_type narrow)) ≡ o
        → FollowsInBody placing begin here.body 8 m streams
        (with o streams (λ n. gives_value here to streams (widened narrow n)))
    by None e =
        followed_stuck placing here (Load to (Slot slot offset) narrow) begin 8 m WordCause.NoStep streams streams
        (site placing here (Load to (Slot slot offset) narrow) begin m is at) (omega arith)
    by (Some n) e = load_slot placing is to slot offset n narrow here begin m streams at bytes e
load_followed placing is to (Flat base offset) narrow here begin m streams at bytes =
    by (word_in here base) refl
  where
    most : ℕ
    most = 4 + behind_address offset + 4

    stuck : FollowsInBody placing begin here.body most m streams (with None streams
        (λ n. gives_value here to streams (widened narrow n)))
    stuck =
        followed_stuck placing here (Load to (Flat base offset) narrow) begin most m WordCause.NoStep streams streams
        (site placing here (Load to (Flat base offset) narrow) begin m is at) (omega arith)

    by_number : (b a : ℕ) → word_in here base ≡ Some b → place_behind offset (bytes_of_type narrow) b ≡ Some a
        → (o : Option ℕ) → number_in here.state.memory a (bytes_of_type narrow) ≡ o
        → FollowsInBody placing begin here.body most m streams
        (with o streams (λ n. gives_value here to streams (widened narrow n)))
    by_number b a base_is place_is None e = stuck
    by_number b a base_is place_is (Some n) e =
        load_flat placing is to base offset b a n narrow here begin m streams at bytes base_is place_is e

    by_place : (b : ℕ) → word_in here base ≡ Some b → (o : Option ℕ)
        → place_behind offset (bytes_of_type narrow) b ≡ o
        → FollowsInBody placing begin here.body most m streams
        (with (option_and_then (λ p. number_in here.state.memory p (bytes_of_type narrow)) o) streams
        (λ n. gives_value here to streams (widened narrow n)))
    by_place b base_is None e = stuck
    by_place b base_is (Some a) e =
        by_number b a base_is e (number_in here.state.memory a (bytes_of_type narrow)) refl

    by : (o : Option ℕ) → word_in here base ≡ o
        → FollowsInBody placing begin here.body most m streams
        (with (option_and_then (λ p. number_in here.state.memory p (bytes_of_type narrow))
        (option_and_then (place_behind offset (bytes_of_type narrow)) o)) streams
        (λ n. gives_value here to streams (widened narrow n)))
    by None e = stuck
    by (Some b) e = by_place b e (place_behind offset (bytes_of_type narrow) b) refl

-- A machine that has entered a body stands where the program does, with one frame more.
use Rattle.std.proofs.Common.{◌≡◌, ◌∙◌, ◌⊎◌, inl, inr, ℕ, zero, suc, ◌+◌, ◌-◌, ◌*◌, ◌%◌, ◌<◌, ◌≤◌, Bool, true, false}
use Rattle.std.proofs.Common.{cond, ◌&&◌, List, [], ◌∷◌, ◌++◌, length, map, drop, Option, Some, None, arith, refl, ap}
use Rattle.std.proofs.Common.{sym, subst, nat_lt, nat_le, slice_index, length-take}
use Rattle.std.specs.List.{AllZip}
use Rattle.std.specs.Prelude.{unwrap_or}
use Rattle.std.specs.Int.{bytes_low_first}
use Rattle.std.proofs.lemmas.Bool.Decides.{nat_tests}
use Rattle.byteorder.specs.Endian.{little_bytes, little_from}
use Rattle.rv_step.specs.Machine.{MachineState, register}
use Rattle.rv_step.specs.Memory.{Bytes, MayRead, byte_in}
use Rattle.rv_step.proofs.Addresses.{at_each, read_bytes, readable}
use Rattle.rv_code.specs.Registers.{listed}
use Rattle.lir_core.specs.Memory.{Byte, Cell, FlatMemory, Missing, Unwritten, is_own}
use Rattle.lir_core.specs.Slots.{addresses, is_of_frame, is_of_slots, is_variable, slot_at}
use Rattle.lir_core.specs.State.{AnOperation, Frame, WordState}
use Rattle.lir_core.specs.Tells.{CellTellsNoMore, FrameTellsNoMore, MemoryTellsNoMore, WordTellsNoMore}
use Rattle.lir_core.specs.declared.body.LirBody.{LirBody}
use Rattle.lir_core.proofs.Sound.{first_of, second_of}
use Rattle.rv_lines.specs.Frame.{dictionary_at, home, homes_at, return_at, slot_place}
use Rattle.rv_words.specs.Placing.{HasProgram, IsPlacing, Placing, Serves, data_bytes}
use Rattle.rv_words.specs.Stands.{IsInBounds, ReturnsToStart, Stands}
use Rattle.rv_words.specs.Words.{Held, Spot, beyond, caller_of, cell_of, frame_of, has_variable, held_from, held_in}
use Rattle.rv_words.specs.Words.{homes_below, homes_of, memory_in, saved, stands_at, variable_byte, waits_at, word_at}
use Rattle.rv_words.specs.Words.{word_by_home, words}
use Rattle.rv_words.proofs.Bytes.{number_back}
use Rattle.rv_words.proofs.Entering.{Keeps}
use Rattle.rv_words.proofs.Filled.{InSpan, IsFilled, beyond_of, flat_of, raw, raw_beyond, raw_flat}
use Rattle.rv_words.proofs.Homes.{home_bound, home_word}
use Rattle.rv_words.proofs.Kept.{all_have_same, all_same, beyond_same, frames_same, held_same, listed_same}
use Rattle.rv_words.proofs.Kept.{variable_fits, word_read}
use Rattle.rv_words.proofs.Popped.{held_fuel}
use Rattle.rv_words.proofs.Reading.{small_byte}
use Rattle.rv_words.proofs.Room.{HasRoom, in_data, may_read}
use Rattle.rv_words.proofs.Slotted.{not_own}
use Rattle.rv_words.proofs.Standing.{held_at, homes_in}

-- ---- the bytes of a word

-- a byte of a word that may be read
pub byte_of_word : (placing : Placing) (m : MachineState) (q d : ℕ) → HasProgram placing m → MayRead m q 8
    → placing.lowest_data ≤ q → q + 8 ≤ placing.lowest_data + data_bytes placing → d < 8
    → byte_in m.segments (q + d) ≡ Some (slice_index (little_bytes 8 (word_at m q)) d)
byte_of_word placing m q d has may low high less =
    let found = readable (λ s. s.read) q 8 m.segments may in
    let there : Bytes m q found.0 = read_bytes (λ s. s.read) m q 8 found.0 has.segments found.1 found.2 in
    let small : (k : ℕ) → k < length found.0 → slice_index found.0 k < 256 =
    λ k h. let back : q + k - q ≡ k = omega arith in
    let byte : byte_in m.segments (q + k) ≡ Some (slice_index found.0 k) =
    at_each m q found.0 there (q + k) (omega arith) (omega (arith, h)) ∙ ap (λ i. Some (slice_index found.0 i)) back in
    subst (λ o. unwrap_or o 0 < 256) byte
    (small_byte placing m (q + k) has (omega (arith, low)) (omega (arith, high, h, found.2))) in
    let bytes_are : little_bytes 8 (word_at m q) ≡ found.0 =
    ap (little_bytes 8) (word_read m q found.0 found.2 there)
    ∙ subst (λ n. bytes_low_first 0 n (little_from 0 n found.0) ≡ found.0) found.2 (number_back found.0 small) in
    let back : q + d - q ≡ d = omega arith in
    at_each m q found.0 there (q + d) (omega arith) (omega (arith, less, found.2))
    ∙ ap (λ i. Some (slice_index found.0 i)) back ∙ ap (λ bs. Some (slice_index bs d)) (sym bytes_are)

-- what is told of a place that is kept
pub cell_keeps : (low high : ℕ) (m new : MachineState) (x : ℕ) → Keeps low high m new → (x < low) ⊎ (high ≤ x)
    → (c : Cell) → CellTellsNoMore c (cell_of (byte_in m.segments x))
    → CellTellsNoMore c (cell_of (byte_in new.segments x))
cell_keeps low high m new x keeps apart c told = by (byte_in m.segments x) refl c told
  where
    aside : (x < low) ⊎ (high ≤ x) → (x + 1 ≤ low) ⊎ (high ≤ x)
    aside (inl before) = inl (omega (arith, before))
    aside (inr behind) = inr behind

    by : (o : Option ℕ) → byte_in m.segments x ≡ o → (c : Cell) → CellTellsNoMore c (cell_of o)
        → CellTellsNoMore c (cell_of (byte_in new.segments x))
    by None e Missing told = tt
    by None e Unwritten told = absurd (let no : false ≡ true = told in cc)
    by None e (Byte b) told = absurd (let no : Missing ≡ Byte b = told in cc)
    by (Some b) e c told =
        let there : Bytes new x (b ∷ []) = keeps.kept x (b ∷ []) (aside apart) (e, tt) in
        subst (λ o. CellTellsNoMore c (cell_of o)) (sym there.0) told

-- ---- memory

abbrev pub first_spot : ℕ → LirBody → Spot
first_spot item body = record { item = item; body = body; place = 0 }

at_least : (a b : ℕ) → nat_le a b ≡ true → a ≤ b
at_least a b t = grind (arith, nat_tests)

is_below : (a b : ℕ) → nat_lt a b ≡ true → a < b
is_below a b t = grind (arith, nat_tests)

lt_true : (x y : ℕ) → x < y → nat_lt x y ≡ true
lt_true x y h = grind (arith, nat_tests)

lt_false : (x y : ℕ) → y ≤ x → nat_lt x y ≡ false
lt_false x y h = grind (arith, nat_tests)

either_kind : (x : ℕ) → (x < addresses) ⊎ (addresses ≤ x)
either_kind x = grind arith

three_ways : (x a n : ℕ) → (x < a) ⊎ (((a ≤ x) × (x < a + n)) ⊎ (a + n ≤ x))
three_ways x a n = grind arith

pub span_or_not : (a n x : ℕ) → InSpan a n x ⊎ (InSpan a n x → ⊥)
span_or_not a n x = elim (three_ways (raw x) a n) as (λ _. InSpan a n x ⊎ (InSpan a n x → ⊥)) [
  | inl before ↦ inr (λ s. let low : a ≤ raw x = s.low in omega (arith, before, low))
  | inr (inl inside) ↦ inl (record { low = inside.0; high = inside.1 })
  | inr (inr behind) ↦ inr (λ s. let high : raw x < a + n = s.high in omega (arith, behind, high))
]

-- What memory tells where a frame that was filled is entered: the slots of variables are homes, or stand in the frame.
pub memory_pushed : (placing : Placing) (item : ℕ) (body : LirBody) (a : ℕ) (outer memory : FlatMemory)
    (w n : MachineState) (rest : List Held) → IsPlacing placing → HasRoom placing a body → HasProgram placing n
    → held_in placing n ≡ held_at (first_spot item body) a (homes_in n) ∷ rest
    → IsFilled body a outer memory w → Keeps a (a + 72) w n
    → ((slot r : ℕ) → home body.vars slot ≡ Some r → register n r ≡ word_at n (a + slot_place slot))
    → ((x : ℕ) → (InSpan a body.frame x → ⊥) → CellTellsNoMore (outer x) (memory_in placing n x))
    → MemoryTellsNoMore memory (memory_in placing n)
memory_pushed placing item body a outer memory w n rest is room has held filled keeps homes outside x =
    elim (span_or_not a body.frame x) as (λ _. CellTellsNoMore (memory x) (memory_in placing n x)) [
      | inl span ↦ inside span (is_own (memory x)) refl
      | inr apart ↦ subst (λ c. CellTellsNoMore c (memory_in placing n x)) (sym (filled.outside x apart))
          (outside x apart)
    ]
  where
    callee : Held
    callee = held_at (first_spot item body) a (homes_in n)

    y : ℕ
    y = x - addresses

    flat : x < addresses → is_of_frame body a x ≡ true → CellTellsNoMore (memory x) (memory_in placing n x)
    flat low e =
        let slots : is_of_slots body a x ≡ true = (flat_of body a x low e).0 in
        let from : a + 128 ≤ x =
        at_least (a + 128) x (first_of (nat_le (a + 128) x) (nat_lt x (a + body.frame)) slots) in
        let told : CellTellsNoMore (memory x) (cell_of (byte_in w.segments x)) =
        subst (λ z. CellTellsNoMore (memory x) (cell_of (byte_in w.segments z))) (raw_flat x low) (filled.told x e) in
        subst (λ t. CellTellsNoMore (memory x) (cond t (cell_of (byte_in n.segments x)) (beyond n (held_in placing n)
        y)))
        (sym (lt_true x addresses low))
        (cell_keeps a (a + 72) w n x keeps (inr (omega (arith, from))) (memory x) told)

    variable : addresses ≤ x → is_of_frame body a x ≡ true → CellTellsNoMore (memory x) (memory_in placing n x)
    variable high e =
        let both = beyond_of body a x high e in
        let s : ℕ = slot_at a y in
        let from : a + 128 ≤ y =
        at_least (a + 128) y (first_of (nat_le (a + 128) y) (nat_lt y (a + body.frame)) both.0) in
        let fits : slot_place s + 8 ≤ body.frame = variable_fits callee y both.0 in
        let q : ℕ = a + slot_place s in
        let d : ℕ = (y - (a + 128)) % 8 in
        let sum : q + d ≡ y = omega (arith, from) in
        let in_it = in_data placing a body q 8 is room (omega arith) (omega (arith, fits)) in
        let byte : byte_in n.segments (q + d) ≡ Some (slice_index (little_bytes 8 (word_at n q)) d) =
        byte_of_word placing n q d has
        (may_read placing n a body q 8 is has room (omega arith) (omega (arith, fits))) in_it.0 in_it.1 (omega arith) in
        let there : cell_of (byte_in n.segments y) ≡ Byte (variable_byte n callee y) =
        ap (λ z. cell_of (byte_in n.segments z)) (sym sum) ∙ ap cell_of byte
        ∙ ap (λ v. Byte (slice_index (little_bytes 8 v) d)) (sym (word_is s (home body.vars s) refl)) in
        let raw_is : raw x ≡ y =
        let back : addresses + y ≡ x = omega (arith, high) in ap raw (sym back) ∙ raw_beyond y in
        let told : CellTellsNoMore (memory x) (cell_of (byte_in w.segments y)) =
        subst (λ z. CellTellsNoMore (memory x) (cell_of (byte_in w.segments z))) raw_is (filled.told x e) in
        let now : CellTellsNoMore (memory x) (Byte (variable_byte n callee y)) =
        subst (CellTellsNoMore (memory x)) there
        (cell_keeps a (a + 72) w n y keeps (inr (omega (arith, from))) (memory x) told) in
        let has_it : has_variable callee y ≡ true =
        ap (λ t. t && is_variable body s) both.0 ∙ both.1 in
        subst (CellTellsNoMore (memory x))
        (sym (ap (λ t. cond t (cell_of (byte_in n.segments x)) (beyond n (held_in placing n) y))
        (lt_false x addresses high)
        ∙ ap (λ hs. beyond n hs y) held
        ∙ ap (λ t. cond t (Byte (variable_byte n callee y)) (beyond n rest y)) has_it)) now
      where
        word_is : (s : ℕ) (o : Option ℕ) → home body.vars s ≡ o
            → word_by_home o n callee s ≡ word_at n (a + slot_place s)
        word_is s None e = refl
        word_is s (Some r) e =
            let bound = home_bound body.vars s r e in
            home_word n r bound.0 bound.2 ∙ homes s r e

    inside : InSpan a body.frame x → (b : Bool) → is_own (memory x) ≡ b
        → CellTellsNoMore (memory x) (memory_in placing n x)
    inside span false e = not_own (memory x) (memory_in placing n x) e
    inside span true e = elim (either_kind x) as (λ _. CellTellsNoMore (memory x) (memory_in placing n x)) [
      | inl low ↦ flat low (filled.own x span e)
      | inr high ↦ variable high (filled.own x span e)
    ]

-- ---- the state

-- the program with one frame more
abbrev pub pushed : WordState → ℕ → ℕ → Option ℕ → List Frame → FlatMemory → WordState
pushed state item address dictionary frames memory =
    record state {
      frames = record { item = item; place = 0; address = address; dictionary = dictionary; entered = [] } ∷ frames;
      memory = memory;
    }

pub stands_pushed : (placing : Placing) (state : WordState) (item : ℕ) (body : LirBody) (a : ℕ) (dictionary : Option ℕ)
    (frames : List Frame) (memory : FlatMemory) (n : MachineState) (rest : List Held)
    → held_in placing n ≡ held_at (first_spot item body) a (homes_in n) ∷ rest
    → AllZip FrameTellsNoMore frames (map (frame_of n) rest)
    → WordTellsNoMore dictionary (Some (word_at n (a + dictionary_at))) → MemoryTellsNoMore memory (memory_in placing n)
    → state.heap_used ≡ register n 27 - placing.program.heap_begin → state.under_way ≡ AnOperation → Serves placing n
    → IsInBounds placing.program (pushed state item a dictionary frames memory)
    → ReturnsToStart placing (pushed state item a dictionary frames memory) n
    → Stands placing (pushed state item a dictionary frames memory) n
unfolding words
stands_pushed placing state item body a dictionary frames memory n rest held told word memory_told heap way serves
    bounds start = record {
      tells = record {
        frames = subst (λ hs. AllZip FrameTellsNoMore (record {
          item = item;
          place = 0;
          address = a;
          dictionary = dictionary;
          entered = [];
        } ∷ frames) (map (frame_of n) hs)) (sym held)
            (record { item = refl; place = refl; address = refl; dictionary = word; entered = refl }, told);
        memory = memory_told;
        heap_used = heap;
        under_way = way;
      };
      serves = serves;
      bounds = bounds;
      start = start;
    }

-- ---- above the frame that calls

-- words in order, of which the first are saved and the others are there
listed_joined : (f g h : ℕ → ℕ) (i first n count : ℕ) → n ≤ count → ((j : ℕ) → j < n → f (i + j) ≡ h (first + j))
    → ((j : ℕ) → n ≤ j → j < count → g (first + j) ≡ h (first + j))
    → listed f i n ++ drop n (listed g first count) ≡ listed h first count
listed_joined f g h i first zero count few one two =
    listed_same h g first count (λ k less. two k (omega arith) less)
listed_joined f g h i first (suc n) zero few one two = absurd (omega (arith, few))
listed_joined f g h i first (suc n) (suc count) few one two =
    let e : i + 0 ≡ i = omega arith in
    let e' : first + 0 ≡ first = omega arith in
    let head : f i ≡ h first = ap f (sym e) ∙ one 0 (omega arith) ∙ ap h e' in
    let tail : listed f (suc i) n ++ drop n (listed g (suc first) count) ≡ listed h (suc first) count =
    listed_joined f g h (suc i) (suc first) n count (omega (arith, few))
    (λ j less. let p : suc i + j ≡ i + suc j = omega arith in
    let q : first + suc j ≡ suc first + j = omega arith in
    ap f p ∙ one (suc j) (omega (arith, less)) ∙ ap h q)
    (λ j low less. let q : first + suc j ≡ suc first + j = omega arith in
    ap g (sym q) ∙ two (suc j) (omega (arith, low)) (omega (arith, less)) ∙ ap h q) in
    ap (λ x. x ∷ (listed f (suc i) n ++ drop n (listed g (suc first) count))) head ∙ ap (λ xs. h first ∷ xs) tail

-- The machine has entered a body from where another waited: its memory is the same, and it has that machine's homes in
-- the new frame, or still.
pub record IsEntered (placing : Placing) (v n : MachineState) (item : ℕ) (body : LirBody) (a : ℕ) (caller : Spot)
    : Type 0 where
  pub memory : n.segments ≡ v.segments
  pub waits : stands_at placing v.pc ≡ Some caller
  pub spot : stands_at placing n.pc ≡ Some (first_spot item body)
  pub frame : register n 2 ≡ a
  pub top : register v 2 ≡ a + body.frame
  pub within : register v 2 < placing.program.stack_end
  pub back : waits_at placing (word_at n (a + return_at)) ≡ Some caller
  pub saves : (j : ℕ) → j < homes_of body → word_at n (a + homes_at + 8 * j) ≡ register v (18 + j)
  pub others : (j : ℕ) → homes_of body ≤ j → j < 8 → register n (18 + j) ≡ register v (18 + j)

pub held_pushed : (placing : Placing) (v n : MachineState) (item : ℕ) (body : LirBody) (a : ℕ) (caller : Spot)
    → IsEntered placing v n item body a caller
    → held_in placing n ≡ held_at (first_spot item body) a (homes_in n) ∷ held_in placing v
held_pushed placing v n item body a caller e = by (end - a) refl
  where
    end : ℕ
    end = placing.program.stack_end

    spot : Spot
    spot = first_spot item body

    callee : Held
    callee = held_at spot a (homes_in n)

    top : register v 2 ≡ a + body.frame
    top = e.top

    within : register v 2 < end
    within = e.within

    least : 192 ≤ body.frame
    least = body.frame_size.least

    few : homes_of body ≤ 8
    few = omega (arith, length-take 8 body.vars)

    -- the caller, and its homes
    caller_there : caller_of placing n callee ≡ stands_at placing v.pc
    caller_there =
        ap (λ t. cond t (waits_at placing (word_at n (a + return_at))) None)
        (lt_true (a + body.frame) end (omega (arith, top, within))) ∙ e.back ∙ sym e.waits

    homes_there : homes_below n callee ≡ homes_in v
    homes_there =
        listed_joined (λ k. word_at n (a + homes_at + 8 * k)) (register n) (register v) 0 18 (homes_of body) 8 few
        (λ j less. let z : 0 + j ≡ j = omega arith in
        ap (λ k. word_at n (a + homes_at + 8 * k)) z ∙ e.saves j less)
        e.others

    rest : (count : ℕ) → end ≤ a + body.frame + count
        → held_from count placing n (caller_of placing n callee) (a + body.frame) (homes_below n callee)
        ≡ held_in placing v
    rest count fuel =
        ap (λ c. held_from count placing n c (a + body.frame) (homes_below n callee)) caller_there
        ∙ ap (held_from count placing n (stands_at placing v.pc) (a + body.frame)) homes_there
        ∙ ap (λ x. held_from count placing n (stands_at placing v.pc) x (homes_in v)) (sym top)
        ∙ held_same count placing v n (stands_at placing v.pc) (register v 2) (homes_in v)
        (all_same v n (held_from count placing v (stands_at placing v.pc) (register v 2) (homes_in v)) e.memory)
        ∙ ap (λ s. held_from count placing v s (register v 2) (homes_in v)) e.waits
        ∙ held_fuel count (end - register v 2) placing v (Some caller) (register v 2) (homes_in v) within
        (omega (arith, fuel, top)) (omega arith)
        ∙ ap (λ s. held_from (end - register v 2) placing v s (register v 2) (homes_in v)) (sym e.waits)

    by : (fuel : ℕ) → end - a ≡ fuel → held_in placing n ≡ callee ∷ held_in placing v
    by zero f = absurd (omega (arith, f, top, within))
    by (suc count) f =
        ap (λ x. held_from (end - x) placing n (stands_at placing n.pc) x (homes_in n)) e.frame
        ∙ ap (λ k. held_from k placing n (stands_at placing n.pc) a (homes_in n)) f
        ∙ ap (λ s. held_from (suc count) placing n s a (homes_in n)) e.spot
        ∙ ap (λ hs. callee ∷ hs) (rest count (omega (arith, f, least)))

-- frames that were told are told
pub frames_pushed : (placing : Placing) (v n : MachineState) (frames : List Frame) → n.segments ≡ v.segments
    → AllZip FrameTellsNoMore frames (map (frame_of v) (held_in placing v))
    → AllZip FrameTellsNoMore frames (map (frame_of n) (held_in placing v))
frames_pushed placing v n frames same told =
    subst (AllZip FrameTellsNoMore frames) (sym (frames_same v n (held_in placing v) (all_same v n (held_in placing v)
    same))) told

-- and outside of the new frame memory tells what it told
pub outside_pushed : (placing : Placing) (v n : MachineState) (item : ℕ) (body : LirBody) (a : ℕ)
    → n.segments ≡ v.segments
    → held_in placing n ≡ held_at (first_spot item body) a (homes_in n) ∷ held_in placing v
    → (x : ℕ) → (InSpan a body.frame x → ⊥) → memory_in placing n x ≡ memory_in placing v x
outside_pushed placing v n item body a same held x apart =
    elim (either_kind x) as (λ _. memory_in placing n x ≡ memory_in placing v x) [
      | inl low ↦
          ap (λ t. cond t (cell_of (byte_in n.segments x)) (beyond n (held_in placing n) y)) (lt_true x addresses low)
          ∙ ap (λ ss. cell_of (byte_in ss x)) same
          ∙ sym (ap (λ t. cond t (cell_of (byte_in v.segments x)) (beyond v (held_in placing v) y))
          (lt_true x addresses low))
      | inr high ↦
          ap (λ t. cond t (cell_of (byte_in n.segments x)) (beyond n (held_in placing n) y))
          (lt_false x addresses high)
          ∙ ap (λ hs. beyond n hs y) held
          ∙ ap (λ t. cond t (Byte (variable_byte n callee y)) (beyond n (held_in placing v) y)) (none high)
          ∙ beyond_same v n (held_in placing v) (all_have_same v n (held_in placing v) same) y
          ∙ sym (ap (λ t. cond t (cell_of (byte_in v.segments x)) (beyond v (held_in placing v) y))
          (lt_false x addresses high))
    ]
  where
    y : ℕ
    y = x - addresses

    callee : Held
    callee = held_at (first_spot item body) a (homes_in n)

    none : addresses ≤ x → has_variable callee y ≡ false
    none high = by (has_variable callee y) refl
      where
        by : (t : Bool) → has_variable callee y ≡ t → t ≡ false
        by false e = refl
        by true e =
            let slots : is_of_slots body a y ≡ true = first_of (is_of_slots body a y) (is_variable body (slot_at a y))
            e in
            let from : a + 128 ≤ y =
            at_least (a + 128) y (first_of (nat_le (a + 128) y) (nat_lt y (a + body.frame)) slots) in
            let upto : y < a + body.frame =
            is_below y (a + body.frame) (second_of (nat_le (a + 128) y) (nat_lt y (a + body.frame)) slots) in
            let raw_is : raw x ≡ y =
            let back : addresses + y ≡ x = omega (arith, high) in ap raw (sym back) ∙ raw_beyond y in
            absurd (apart (record { low = omega (arith, raw_is, from); high = omega (arith, raw_is, upto) }))

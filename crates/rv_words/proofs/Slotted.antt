-- A machine that has written the word of a slot to memory stands where the program does that has written the slot.
use Rattle.std.proofs.Common.{◌≡◌, ◌∙◌, ◌⊎◌, inl, inr, ℕ, zero, suc, ◌+◌, ◌-◌, ◌*◌, ◌%◌, ◌^◌, ◌<◌, ◌≤◌, Bool, true}
use Rattle.std.proofs.Common.{false, cond, List, [], ◌∷◌, length, map, Option, Some, None, All, arith, refl, ap, sym}
use Rattle.std.proofs.Common.{subst, nat_lt, nat_le, slice_index}
use Rattle.std.specs.List.{AllZip}
use Rattle.std.specs.Int.{byte_at, bytes_low_first}
use Rattle.std.proofs.lemmas.Bool.{cases_order}
use Rattle.std.proofs.lemmas.Bool.Decides.{nat_tests}
use Rattle.std.proofs.lemmas.List.{append-nil}
use Rattle.byteorder.specs.Endian.{little_bytes, little_number}
use Rattle.byteorder.specs.Numbers.{length-bytes_low_first, little_number-reads_back}
use Rattle.rv_step.specs.Machine.{MachineState, register}
use Rattle.rv_step.specs.Memory.{AreApart, Bytes, Writes, byte_in}
use Rattle.rv_step.proofs.Addresses.{at_each}
use Rattle.rv_code.specs.Registers.{HasRegisters}
use Rattle.lir_core.specs.Calls.{lowest}
use Rattle.lir_core.specs.Frame.{fixed_bytes}
use Rattle.lir_core.specs.Layout.{AreStacked, FramesFit}
use Rattle.lir_core.specs.Memory.{Byte, Cell, Missing, Unwritten, is_own, overwritten}
use Rattle.lir_core.specs.Slots.{addresses, is_of_slots, is_variable, slot_at}
use Rattle.lir_core.specs.State.{Frame, WordState}
use Rattle.lir_core.specs.Tells.{CellTellsNoMore, MemoryTellsNoMore}
use Rattle.lir_core.specs.declared.body.LirBody.{LirBody}
use Rattle.lir_core.proofs.MemoryLaws.{overwritten-elsewhere}
use Rattle.lir_core.proofs.Sound.{first_of, second_of}
use Rattle.rv_lines.specs.Frame.{home, slot_place}
use Rattle.rv_words.specs.Placing.{HasProgram, IsPlacing, Placing}
use Rattle.rv_words.specs.Stands.{Stands, outermost}
use Rattle.rv_words.specs.Words.{Held, Spot, beyond, cell_of, has_variable, held_in, memory_in, stands_at}
use Rattle.rv_words.specs.Words.{variable_byte}
use Rattle.rv_words.specs.Words.{variable_word, word_at, word_by_home}
use Rattle.rv_words.proofs.Homed.{in_range, three_ways, written_at}
use Rattle.rv_words.proofs.Kept.{HaveSame, beyond_same, cell_kept, own_byte, variable_fits, word_kept, word_read}
use Rattle.rv_words.proofs.Moved.{KeepsOwn, homes_same}
use Rattle.rv_words.proofs.Owning.{IsFirst, IsOneOf, at_least, variable_other}
use Rattle.rv_words.proofs.Reading.{memory_told}
use Rattle.rv_words.proofs.Room.{HasRoom, below_all, in_data, may_read, nothing_at, outer_one, room_of}
use Rattle.rv_words.proofs.Standing.{InnerIn, IsOn, bounds_on, goes_on_at, held_at, held_is, held_now, held_on}
use Rattle.rv_words.proofs.Standing.{homes_in}
use Rattle.rv_words.proofs.Standing.{rest_of, stands_on, start_on}
use Rattle.rv_words.proofs.Holding.{AreOnes}
use Rattle.rv_words.proofs.Written.{AreClear, on_written, ones_below}

-- ---- where the slot lies

-- The word of a slot in the innermost frame, which the machine has written.
pub record IsPut (placing : Placing) (state : WordState) (m new : MachineState) (frame : Frame) (below : List Frame)
    (body : LirBody) (slot value : ℕ) : Type 0 where
  pub body_there : placing.program.body_of frame.item ≡ Some body
  pub at : frame.address ≡ register m 2
  pub fits : slot_place slot + 8 ≤ body.frame
  pub small : value < 2 ^ 64
  pub writes : Writes (register m 2 + slot_place slot) (little_bytes 8 value) m new
  pub keeps : KeepsOwn m new
  pub registers : HasRegisters new

size_of_word : (value : ℕ) → length (little_bytes 8 value) ≡ 8
size_of_word value = length-bytes_low_first 0 8 value

-- ---- what is written is bytes

byte_small : (n k : ℕ) → byte_at k n < 256
byte_small n zero = omega arith
byte_small n (suc k) = omega arith

pub bytes_small : (j n value : ℕ) → All (λ b. b < 256) (bytes_low_first j n value)
bytes_small j zero value k d h = absurd (omega (arith, h))
bytes_small j (suc n) value zero d h = byte_small value j
bytes_small j (suc n) value (suc k) d h = bytes_small (suc j) n value k d (omega (arith, h))

-- ---- the frames below

-- each of them lies behind the innermost one, so nothing of it is written
pub clear_above : (placing : Placing) (p count address : ℕ) (frames : List Frame) (helds : List Held)
    → AreOnes placing.program address frames helds → p + count ≤ address → AreClear p count helds
clear_above placing p count address frames [] ones h = tt
clear_above placing p count address frames (held ∷ helds) ones h =
    let least : address ≤ held.address = at_least placing.program held.address held.spot.body address frames ones.0 in (
      record { fixed = inl (omega (arith, h, least)); variables = λ slot variable fits. inl (omega (arith, h, least)) },
      clear_above placing p count address frames helds ones.1 h,
    )

-- the return address of the outermost frame is no part of a slot
outer_apart : (placing : Placing) (frame : Frame) (below : List Frame) (place : ℕ)
    → (stacked : AreStacked placing.program frame.address (frame ∷ below)) → 128 ≤ place
    → place + 8 ≤ stacked.0.frame → AreApart (frame.address + place) 8 (outermost frame.address below) 8
outer_apart placing frame [] place stacked low high = inr (omega (arith, low))
outer_apart placing frame (next ∷ below) place stacked low high =
    let one = outer_one placing.program (frame.address + stacked.0.frame) next below stacked.3 in
    let least : frame.address + stacked.0.frame ≤ outermost next.address below =
    at_least placing.program (outermost next.address below) one.0 (frame.address + stacked.0.frame)
    (next ∷ below) one.1 in
    inl (omega (arith, least, high))

-- ---- memory

pub not_own : (c other : Cell) → is_own c ≡ false → CellTellsNoMore c other
not_own Missing other e = tt
not_own Unwritten other e = absurd (let no : true ≡ false = e in cc)
not_own (Byte b) other e = absurd (let no : true ≡ false = e in cc)

pub word_back : (m : MachineState) (a value : ℕ) → value < 2 ^ 64 → Bytes m a (little_bytes 8 value)
    → word_at m a ≡ value
word_back m a value small there =
    let back : little_number 8 (little_bytes 8 value) ≡ value =
    subst (λ others. little_number 8 others ≡ value) (append-nil (little_bytes 8 value))
    (little_number-reads_back 8 value [] small) in
    word_read m a (little_bytes 8 value) (size_of_word value) there ∙ back

lt_true : (x y : ℕ) → x < y → nat_lt x y ≡ true
lt_true x y h = grind (arith, nat_tests)

lt_false : (x y : ℕ) → y ≤ x → nat_lt x y ≡ false
lt_false x y h = grind (arith, nat_tests)

is_below : (a b : ℕ) → nat_lt a b ≡ true → a < b
is_below a b t = grind (arith, nat_tests)

is_above : (a b : ℕ) → nat_lt a b ≡ false → b ≤ a
is_above a b t = grind (arith, nat_tests)

-- another variable of the frame has the word that it had
slots_apart : (at s slot : ℕ) → (s ≡ slot → ⊥) → AreApart (at + (128 + 8 * slot)) 8 (at + (128 + 8 * s)) 8
slots_apart at s slot differ = by (cases_order s slot)
  where
    by : (s ≡ slot) ⊎ ((s < slot) ⊎ (slot < s)) → AreApart (at + (128 + 8 * slot)) 8 (at + (128 + 8 * s)) 8
    by (inl same) = absurd (differ same)
    by (inr (inl low)) = inr (omega (arith, low))
    by (inr (inr high)) = inl (omega (arith, high))

other_word : (placing : Placing) (m new : MachineState) (here : Spot) (place slot value s : ℕ) → IsPlacing placing
    → HasProgram placing m → HasRoom placing (register m 2) here.body
    → Writes (register m 2 + slot_place slot) (little_bytes 8 value) m new → KeepsOwn m new
    → (s ≡ slot → ⊥) → slot_place s + 8 ≤ here.body.frame
    → variable_word new (held_now m new here place) s
    ≡ variable_word m (held_at here (register m 2) (homes_in m)) s
other_word placing m new here place slot value s is has room writes keeps differ fits = by (home here.body.vars s)
  where
    apart : AreApart (register m 2 + slot_place slot) (length (little_bytes 8 value)) (register m 2 + slot_place s) 8
    apart =
        subst (λ n. AreApart (register m 2 + slot_place slot) n (register m 2 + slot_place s) 8) (sym
        (size_of_word value))
        (slots_apart (register m 2) s slot differ)

    by : (o : Option ℕ) → word_by_home o new (held_now m new here place) s
        ≡ word_by_home o m (held_at here (register m 2) (homes_in m)) s
    by (Some r) = ap (λ hs. slice_index hs (r - 18)) (homes_same m new keeps)
    by None =
        word_kept m new (register m 2 + slot_place slot) (little_bytes 8 value) (register m 2 + slot_place s)
        has.segments
        (may_read placing m (register m 2) here.body (register m 2 + slot_place s) 8 is has room (omega arith)
        (omega (arith, fits)))
        writes apart

-- beyond all addresses all is as before, but for the word of the slot
beyond_put : (placing : Placing) (m new : MachineState) (here : Spot) (rest : List Held) (place slot value y : ℕ)
    → IsPlacing placing → HasProgram placing m → HasRoom placing (register m 2) here.body
    → Writes (register m 2 + slot_place slot) (little_bytes 8 value) m new → KeepsOwn m new → HaveSame m new rest
    → (is_variable here.body slot ≡ true
    → (y < register m 2 + slot_place slot) ⊎ (register m 2 + slot_place slot + 8 ≤ y))
    → beyond new (held_now m new here place ∷ rest) y ≡ beyond m (held_at here (register m 2) (homes_in m) ∷ rest) y
beyond_put placing m new here rest place slot value y is has room writes keeps have apart =
    by (has_variable (held_at here (register m 2) (homes_in m)) y) refl
  where
    old : Held
    old = held_at here (register m 2) (homes_in m)

    s : ℕ
    s = slot_at (register m 2) y

    at_least_of : (p q : ℕ) → nat_le p q ≡ true → p ≤ q
    at_least_of p q t = grind (arith, nat_tests)

    away : register m 2 + 128 ≤ y
        → (y < register m 2 + slot_place slot) ⊎ (register m 2 + slot_place slot + 8 ≤ y) → s ≡ slot → ⊥
    away above (inl low) same = omega (arith, above, low, same)
    away above (inr high) same = omega (arith, above, high, same)

    by : (b : Bool) → has_variable old y ≡ b
        → cond b (Byte (variable_byte new (held_now m new here place) y)) (beyond new rest y)
        ≡ cond b (Byte (variable_byte m old y)) (beyond m rest y)
    by true e =
        let slots : is_of_slots here.body (register m 2) y ≡ true =
        first_of (is_of_slots here.body (register m 2) y) (is_variable here.body s) e in
        let variable : is_variable here.body s ≡ true =
        second_of (is_of_slots here.body (register m 2) y) (is_variable here.body s) e in
        let above : register m 2 + 128 ≤ y =
        at_least_of (register m 2 + fixed_bytes) y
        (first_of (nat_le (register m 2 + fixed_bytes) y) (nat_lt y (register m 2 + here.body.frame)) slots) in
        let differ : s ≡ slot → ⊥ =
        λ same. away above (apart (ap (is_variable here.body) (sym same) ∙ variable)) same in
        ap (λ w. Byte (slice_index (little_bytes 8 w) ((y - (register m 2 + fixed_bytes)) % 8)))
        (other_word placing m new here place slot value s is has room writes keeps differ (variable_fits old y slots))
    by false e = beyond_same m new rest have y

-- ---- all of it

pub stands_put : (placing : Placing) (state : WordState) (m new : MachineState) (frame : Frame) (below : List Frame)
    (body : LirBody) (place slot value : ℕ) (cells : List Cell) (b : Bool) → IsPlacing placing
    → (stands : Stands placing state m) → (frames : state.frames ≡ frame ∷ below) → (i : InnerIn placing m frame below)
    → i.here.body ≡ body
    → stands_at placing new.pc ≡ Some (record { item = i.here.item; body = i.here.body; place = place })
    → IsPut placing state m new frame below body slot value → home body.vars slot ≡ None → is_variable body slot ≡ b
    → length cells ≡ 8 → AllZip CellTellsNoMore cells (map Byte (little_bytes 8 value))
    → ((x : ℕ) → cond b (addresses + (register m 2 + slot_place slot)) (register m 2 + slot_place slot) ≤ x
    → x < cond b (addresses + (register m 2 + slot_place slot)) (register m 2 + slot_place slot) + 8
    → is_own (state.memory x) ≡ true)
    → Stands placing (goes_on_at state frame below place
    (overwritten state.memory (cond b (addresses + (register m 2 + slot_place slot)) (register m 2 + slot_place slot))
    cells)) new
stands_put placing state m new frame below body place slot value cells b is stands frames i body_is spot put homeless
    which
    size cells_told own =
    stands_on placing state m new frame below place (overwritten state.memory p cells) stands frames i both.0 told
    (bounds_on placing.program state frame below place (overwritten state.memory p cells) frames
    (λ x is_there. in_range state.memory p x cells size own (three_ways x p) is_there) stands.bounds)
    (start_on placing state m new frame below place (overwritten state.memory p cells) frames
    (λ address there. put.writes.kept (outermost frame.address below) (little_bytes 8 (address + 64))
    (subst (λ n. AreApart a (length bytes) (outermost frame.address below) n) (sym (size_of_word (address + 64)))
    outer) there)
    stands.start)
  where
    a : ℕ
    a = register m 2 + slot_place slot

    p : ℕ
    p = cond b (addresses + a) a

    bytes : List ℕ
    bytes = little_bytes 8 value

    rest : List Held
    rest = rest_of i.count placing m (held_at i.here (register m 2) (homes_in m))

    fits : FramesFit placing.program (frame ∷ below)
    fits = subst (FramesFit placing.program) frames stands.bounds.frames

    bodies_are : fits.stacked.0 ≡ body
    bodies_are = let e : Some fits.stacked.0 ≡ Some body = sym fits.stacked.1 ∙ put.body_there in cc

    ends : slot_place slot + 8 ≤ fits.stacked.0.frame
    ends = subst (λ c. slot_place slot + 8 ≤ c.frame) (sym bodies_are) put.fits

    fits_here : slot_place slot + 8 ≤ i.here.body.frame
    fits_here = subst (λ c. slot_place slot + 8 ≤ c.frame) (sym body_is) put.fits

    there : placing.program.body_of frame.item ≡ Some i.here.body
    there = put.body_there ∙ ap Some (sym body_is)

    room : HasRoom placing (register m 2) i.here.body
    room =
        subst (λ x. HasRoom placing x i.here.body) put.at
        (room_of placing (frame ∷ below) frame.address i.here.body is fits (IsFirst frame below there))

    one : IsOneOf placing.program (register m 2) i.here.body (lowest placing.program state.frames) state.frames
    one =
        subst (λ fs. IsOneOf placing.program (register m 2) i.here.body (lowest placing.program fs) fs) (sym frames)
        (subst (λ x. IsOneOf placing.program x i.here.body frame.address (frame ∷ below)) put.at
        (IsFirst frame below there))

    below_top : a + 8 + 128 ≤ addresses
    below_top =
        let end : register m 2 + i.here.body.frame + 128 ≤ addresses =
        below_all placing (register m 2) i.here.body is room in
        omega (arith, end, fits_here)

    length_is : length bytes ≡ 8
    length_is = size_of_word value

    outer : AreApart a (length bytes) (outermost frame.address below) 8
    outer =
        subst (λ n. AreApart a n (outermost frame.address below) 8) (sym length_is)
        (subst (λ x. AreApart (x + slot_place slot) 8 (outermost frame.address below) 8) put.at
        (outer_apart placing frame below (slot_place slot) fits.stacked (omega arith) ends))

    heap : AreApart a (length bytes) (register m 27) (register m 26 - register m 27)
    heap =
        let lowest_is : register m 26 ≡ placing.program.heap_begin + placing.program.heap_bound = stands.serves.lowest
        in
        let above : placing.program.heap_begin + placing.program.heap_bound ≤ register m 2 = room.above in
        let order : register m 27 ≤ register m 26 = stands.serves.clear.order in
        inr (omega (arith, lowest_is, above, order))

    clear : AreClear a (length bytes) rest
    clear =
        subst (λ n. AreClear a n rest) (sym length_is)
        (clear_above placing a 8 (frame.address + fits.stacked.0.frame) below rest
        (ones_below placing m frame below i fits.stacked) (omega (arith, ends, put.at)))

    both : IsOn placing m new i.here rest place × HaveSame m new rest
    both =
        on_written placing state m new frame below place a bytes is stands frames i spot put.writes put.keeps
        put.registers
        (in_data placing (register m 2) i.here.body a 8 is room (omega arith) (omega (arith, fits_here))).0
        (bytes_small 0 8 value) (λ room_left. heap) (inr (omega arith)) room clear

    beyond_is : (y : ℕ) → (is_variable i.here.body slot ≡ true → (y < a) ⊎ (a + 8 ≤ y))
        → beyond new (held_in placing new) y ≡ beyond m (held_in placing m) y
    beyond_is y apart =
        ap (λ hs. beyond new hs y) (held_on placing m new frame below place i both.0)
        ∙ beyond_put placing m new i.here rest place slot value y is stands.serves.memory room put.writes put.keeps
        both.1
        apart
        ∙ ap (λ hs. beyond m hs y) (sym (held_is placing m frame below i))

    state_told : (x : ℕ) → CellTellsNoMore (state.memory x) (memory_in placing m x)
    state_told x = memory_told placing state m stands x

    -- an address that isn't written
    low_told : (x : ℕ) → x < addresses → (x < a) ⊎ (a + 8 ≤ x)
        → CellTellsNoMore (state.memory x) (memory_in placing new x)
    low_told x low apart =
        let here : CellTellsNoMore (state.memory x) (cell_of (byte_in m.segments x)) =
        subst (λ t. CellTellsNoMore (state.memory x)
        (cond t (cell_of (byte_in m.segments x)) (beyond m (held_in placing m) (x - addresses))))
        (lt_true x addresses low)
        (state_told x) in
        subst (λ t. CellTellsNoMore (state.memory x)
        (cond t (cell_of (byte_in new.segments x)) (beyond new (held_in placing new) (x - addresses))))
        (sym (lt_true x addresses low))
        (cell_kept m new a bytes put.writes x
        (subst (λ n. (x < a) ⊎ (a + n ≤ x)) (sym length_is) apart) (state.memory x) here)

    -- what lies beyond all addresses and isn't written
    high_told : (x : ℕ) → addresses ≤ x
        → (is_variable i.here.body slot ≡ true → (x - addresses < a) ⊎ (a + 8 ≤ x - addresses))
        → CellTellsNoMore (state.memory x) (memory_in placing new x)
    high_told x high apart =
        let t = lt_false x addresses high in
        subst (λ t. CellTellsNoMore (state.memory x)
        (cond t (cell_of (byte_in new.segments x)) (beyond new (held_in placing new) (x - addresses)))) (sym t)
        (subst (CellTellsNoMore (state.memory x)) (sym (beyond_is (x - addresses) apart))
        (subst (λ t. CellTellsNoMore (state.memory x)
        (cond t (cell_of (byte_in m.segments x)) (beyond m (held_in placing m) (x - addresses)))) t (state_told x)))

    elsewhere : (x q : ℕ) → (x < q) ⊎ (q + 8 ≤ x) → (other : Cell) → CellTellsNoMore (state.memory x) other
        → CellTellsNoMore (overwritten state.memory q cells x) other
    elsewhere x q apart other told =
        subst (λ c. CellTellsNoMore c other)
        (sym (overwritten-elsewhere state.memory q cells x
        (subst (λ n. (x < q) ⊎ (q + n ≤ x)) (sym size) apart))) told

    cell_there : (x q : ℕ) → q ≤ x → x < q + 8
        → CellTellsNoMore (overwritten state.memory q cells x) (Byte (slice_index bytes (x - q)))
    cell_there x q low high =
        let sum : q + (x - q) ≡ x = omega (arith, low) in
        subst (λ y. CellTellsNoMore (overwritten state.memory q cells y) (Byte (slice_index bytes (x - q)))) sum
        (written_at state.memory q (x - q) cells bytes cells_told (omega (arith, low, high, size)))

    -- the slot stands at its address
    flat : b ≡ false → (x : ℕ) → CellTellsNoMore (overwritten state.memory a cells x) (memory_in placing new x)
    flat e x = by (nat_lt x addresses) refl (three_ways x a)
      where
        none : is_variable i.here.body slot ≡ true → (x - addresses < a) ⊎ (a + 8 ≤ x - addresses)
        none variable =
            absurd (let no : true ≡ false = sym variable ∙ ap (λ c. is_variable c slot) body_is ∙ which ∙ e in cc)

        by : (t : Bool) → nat_lt x addresses ≡ t → (x < a) ⊎ (((a ≤ x) × (x < a + 8)) ⊎ (a + 8 ≤ x))
            → CellTellsNoMore (overwritten state.memory a cells x) (memory_in placing new x)
        by true t (inl low) =
            elsewhere x a (inl low) (memory_in placing new x) (low_told x (is_below x addresses t) (inl low))
        by true t (inr (inr high)) =
            elsewhere x a (inr high) (memory_in placing new x) (low_told x (is_below x addresses t) (inr high))
        by true t (inr (inl inside)) =
            let now : byte_in new.segments x ≡ Some (slice_index bytes (x - a)) =
            at_each new a bytes put.writes.written x inside.0 (omega (arith, inside.1, length_is)) in
            subst (λ u. CellTellsNoMore (overwritten state.memory a cells x)
            (cond u (cell_of (byte_in new.segments x)) (beyond new (held_in placing new) (x - addresses)))) (sym t)
            (subst (λ o. CellTellsNoMore (overwritten state.memory a cells x) (cell_of o)) (sym now)
            (cell_there x a inside.0 inside.1))
        by false t where_it_is =
            let high : addresses ≤ x = is_above x addresses t in
            elsewhere x a (inr (omega (arith, high, below_top))) (memory_in placing new x) (high_told x high none)

    -- the slot is a variable, whose word lies beyond
    varied : b ≡ true → (x : ℕ)
        → CellTellsNoMore (overwritten state.memory (addresses + a) cells x) (memory_in placing new x)
    varied e x = by (nat_lt x addresses) refl
      where
        variable : is_variable i.here.body slot ≡ true
        variable = ap (λ c. is_variable c slot) body_is ∙ which ∙ e

        low_by : x < addresses → (x < a) ⊎ (((a ≤ x) × (x < a + 8)) ⊎ (a + 8 ≤ x))
            → CellTellsNoMore (state.memory x) (memory_in placing new x)
        low_by low (inl before) = low_told x low (inl before)
        low_by low (inr (inr behind)) = low_told x low (inr behind)
        low_by low (inr (inl inside)) =
            not_own (state.memory x) (memory_in placing new x)
            (nothing_at placing state (register m 2) i.here.body x is stands.bounds one (omega (arith, inside.0))
            (omega (arith, inside.1, fits_here))
            (variable_other i.here.body (register m 2) slot x variable inside.0 inside.1 low))

        own_there : (d : ℕ) → d < 8 → beyond new (held_in placing new) (a + d) ≡ Byte (slice_index bytes d)
        own_there d less =
            let homeless' : home i.here.body.vars slot ≡ None = ap (λ c. home c.vars slot) body_is ∙ homeless in
            let word : variable_word new (held_now m new i.here place) slot ≡ value =
            ap (λ o. word_by_home o new (held_now m new i.here place) slot) homeless'
            ∙ word_back new a value put.small put.writes.written in
            ap (λ hs. beyond new hs (a + d)) (held_on placing m new frame below place i both.0)
            ∙ own_byte new (record { item = i.here.item; body = i.here.body; place = place }) (register m 2)
            (homes_in new)
            rest slot d less variable fits_here
            ∙ ap (λ w. Byte (slice_index (little_bytes 8 w) d)) word

        high_by : addresses ≤ x
            → (x < addresses + a) ⊎ (((addresses + a ≤ x) × (x < addresses + a + 8)) ⊎ (addresses + a + 8 ≤ x))
            → CellTellsNoMore (overwritten state.memory (addresses + a) cells x) (memory_in placing new x)
        high_by high (inl before) =
            elsewhere x (addresses + a) (inl before) (memory_in placing new x)
            (high_told x high (λ v. inl (omega (arith, high, before))))
        high_by high (inr (inr behind)) =
            elsewhere x (addresses + a) (inr behind) (memory_in placing new x)
            (high_told x high (λ v. inr (omega (arith, high, behind))))
        high_by high (inr (inl inside)) =
            let low : addresses + a ≤ x = inside.0 in
            let up : x < addresses + a + 8 = inside.1 in
            let d : ℕ = x - (addresses + a) in
            let place_is : a + d ≡ x - addresses = omega (arith, low) in
            let there : beyond new (held_in placing new) (x - addresses) ≡ Byte (slice_index bytes d) =
            ap (beyond new (held_in placing new)) (sym place_is) ∙ own_there d (omega (arith, low, up)) in
            subst (λ u. CellTellsNoMore (overwritten state.memory (addresses + a) cells x)
            (cond u (cell_of (byte_in new.segments x)) (beyond new (held_in placing new) (x - addresses))))
            (sym (lt_false x addresses high))
            (subst (CellTellsNoMore (overwritten state.memory (addresses + a) cells x)) (sym there)
            (cell_there x (addresses + a) low up))

        by : (t : Bool) → nat_lt x addresses ≡ t
            → CellTellsNoMore (overwritten state.memory (addresses + a) cells x) (memory_in placing new x)
        by true t =
            let low : x < addresses = is_below x addresses t in
            elsewhere x (addresses + a) (inl (omega (arith, low))) (memory_in placing new x) (low_by low
            (three_ways x a))
        by false t = high_by (is_above x addresses t) (three_ways x (addresses + a))

    told : MemoryTellsNoMore (overwritten state.memory p cells) (memory_in placing new)
    told = by b refl
      where
        by : (c : Bool) → b ≡ c → MemoryTellsNoMore (overwritten state.memory p cells) (memory_in placing new)
        by true e =
            subst (λ c. MemoryTellsNoMore (overwritten state.memory (cond c (addresses + a) a) cells)
            (memory_in placing new)) (sym e) (varied e)
        by false e =
            subst (λ c. MemoryTellsNoMore (overwritten state.memory (cond c (addresses + a) a) cells)
            (memory_in placing new)) (sym e) (flat e)

-- Numbers at addresses: where the program has something of its own, and that the machine reads it there.
use Rattle.std.proofs.Common.{◌≡◌, ◌∙◌, ◌⊎◌, inl, inr, ℕ, zero, suc, ◌+◌, ◌-◌, ◌^◌, ◌<◌, ◌≤◌, Bool, true, false, cond}
use Rattle.std.proofs.Common.{not, ◌&&◌, ◌||◌, List, [], ◌∷◌, length, Option, Some, None, arith, refl, ap, sym, subst}
use Rattle.std.proofs.Common.{nat_lt, nat_le, slice_index}
use Rattle.std.specs.Prelude.{unwrap_or}
use Rattle.std.specs.Int.{bytes_low_first}
use Rattle.std.specs.List.{list_any}
use Rattle.std.specs.Option.{option_map}
use Rattle.std.proofs.lemmas.Bool.Decides.{nat_tests}
use Rattle.byteorder.specs.Endian.{little_bytes, little_from, little_number}
use Rattle.byteorder.specs.Numbers.{little_from-lt}
use Rattle.rv_step.specs.Machine.{MachineState}
use Rattle.rv_step.specs.Memory.{Bytes, MayRead, Number, byte_in}
use Rattle.rv_step.proofs.Addresses.{allowed_within, at_each}
use Rattle.lir_core.specs.Calls.{lowest}
use Rattle.lir_core.specs.Layout.{AreStacked}
use Rattle.lir_core.specs.Memory.{Byte, Cell, FlatMemory, Missing, Unwritten, bytes_in, cells_from, is_own, number_in}
use Rattle.lir_core.specs.Program.{WordProgram}
use Rattle.lir_core.specs.Slots.{addresses, is_of_frame, is_of_slots, is_variable, slot_at}
use Rattle.lir_core.specs.State.{Frame, WordState}
use Rattle.lir_core.specs.declared.body.LirBody.{LirBody}
use Rattle.lir_core.proofs.Sound.{first_of, second_of}
use Rattle.lir_core.proofs.Telling.{same_number}
use Rattle.rv_words.specs.Placing.{IsPlacing, Placing, data_bytes}
use Rattle.rv_words.specs.Stands.{IsInBounds, Stands, is_of, is_of_body}
use Rattle.rv_words.specs.Words.{beyond, cell_of, held_in, memory_in}
use Rattle.rv_words.proofs.Bytes.{number_back}
use Rattle.rv_words.proofs.Reading.{memory_told, small_byte}
use Rattle.rv_words.proofs.Room.{stacked_end}

-- ---- where what is own lies

one_of : (a b : Bool) → (a || b) ≡ true → (a ≡ true) ⊎ (b ≡ true)
one_of true b e = inl refl
one_of false b e = inr e

at_least : (a b : ℕ) → nat_le a b ≡ true → a ≤ b
at_least a b t = grind (arith, nat_tests)

is_below : (a b : ℕ) → nat_lt a b ≡ true → a < b
is_below a b t = grind (arith, nat_tests)

lt_true : (x y : ℕ) → x < y → nat_lt x y ≡ true
lt_true x y h = grind (arith, nat_tests)

-- the place of a slot of a frame lies in the frame
of_frame : (body : LirBody) (address x : ℕ) → x < addresses → is_of_frame body address x ≡ true
    → (address ≤ x) × (x < address + body.frame)
of_frame body address x low e =
    let here : (is_of_slots body address x && not (is_variable body (slot_at address x))) ≡ true =
    ap (λ b. cond b (is_of_slots body address x && not (is_variable body (slot_at address x)))
    (is_of_slots body address (x - addresses) && is_variable body (slot_at address (x - addresses))))
    (sym (lt_true x addresses low)) ∙ e in
    let slots : is_of_slots body address x ≡ true =
    first_of (is_of_slots body address x) (not (is_variable body (slot_at address x))) here in
    let from : address + 128 ≤ x =
    at_least (address + 128) x (first_of (nat_le (address + 128) x) (nat_lt x (address + body.frame)) slots) in
    let upto : x < address + body.frame =
    is_below x (address + body.frame) (second_of (nat_le (address + 128) x) (nat_lt x (address + body.frame)) slots) in
    (omega (arith, from), upto)

pub in_frames : (program : WordProgram) (address : ℕ) (frames : List Frame) (x : ℕ) → AreStacked program address frames
    → x < addresses → list_any (is_of program x) frames ≡ true → (address ≤ x) × (x < program.stack_end)
in_frames program address [] x stacked low e = cc
in_frames program address (frame ∷ frames) x stacked low e =
    let body : LirBody = stacked.0 in
    let top : address + body.frame ≤ program.stack_end =
    stacked_end program (address + body.frame) frames stacked.3 in
    elim (one_of (is_of program x frame) (list_any (is_of program x) frames) e)
    as (λ _. (address ≤ x) × (x < program.stack_end)) [
      | inl mine ↦
          let own : is_of_frame body address x ≡ true =
          ap (λ a. is_of_frame body a x) (sym stacked.2)
          ∙ ap (λ o. is_of_body o frame.address x) (sym stacked.1) ∙ mine in
          let inside = of_frame body address x low own in
          (inside.0, omega (arith, inside.1, top))
      | inr others ↦
          let rest = in_frames program (address + body.frame) frames x stacked.3 low others in
          (omega (arith, rest.0), rest.1)
    ]

pub own_in_data : (placing : Placing) (state : WordState) (x : ℕ) → IsPlacing placing
    → IsInBounds placing.program state → x < addresses → is_own (state.memory x) ≡ true
    → (placing.lowest_data ≤ x) × (x < placing.program.stack_end)
own_in_data placing state x is bounds low own =
    elim (one_of (a || b) c (bounds.memory x own)) as (λ _. (placing.lowest_data ≤ x) × (x < program.stack_end)) [
      | inl two ↦ elim (one_of a b two) as (λ _. (placing.lowest_data ≤ x) × (x < program.stack_end)) [
        | inl image ↦
            let there = is.image_in_data x (λ e. let no : true ≡ false = sym image ∙ ap is_own e in cc) in
            (there.0, omega (arith, there.1, order))
        | inr heap ↦
            let from : program.heap_begin ≤ x =
            at_least program.heap_begin x
            (first_of (nat_le program.heap_begin x) (nat_lt x (program.heap_begin + state.heap_used)) heap) in
            let upto : x < program.heap_begin + state.heap_used =
            is_below x (program.heap_begin + state.heap_used)
            (second_of (nat_le program.heap_begin x) (nat_lt x (program.heap_begin + state.heap_used)) heap) in
            let used : state.heap_used ≤ program.heap_bound = bounds.heap in
            (omega (arith, from, behind), omega (arith, upto, used, order))
      ]
      | inr frames ↦
          let there = in_frames program (lowest program state.frames) state.frames x bounds.frames.stacked low frames in
          let within : program.stack_end ≤ lowest program state.frames + program.stack_bound = bounds.frames.within in
          (omega (arith, there.0, within, order, behind), there.1)
    ]
  where
    program : WordProgram
    program = placing.program

    a : Bool
    a = is_own (program.image x)

    b : Bool
    b = nat_le program.heap_begin x && nat_lt x (program.heap_begin + state.heap_used)

    c : Bool
    c = list_any (is_of program x) state.frames

    order : program.heap_begin + program.heap_bound + program.stack_bound ≡ program.stack_end
    order = is.laid_out.frames_behind_heap

    behind : placing.lowest_data ≤ program.heap_begin
    behind = is.heap_behind_data

-- ---- numbers

-- what is read is own
bytes_own : (memory : FlatMemory) (p count : ℕ) (bytes : List ℕ) → bytes_in (cells_from memory p count) ≡ Some bytes
    → (x : ℕ) → p ≤ x → x < p + count → is_own (memory x) ≡ true
bytes_own memory p zero bytes e x low high = absurd (omega (arith, low, high))
bytes_own memory p (suc count) bytes e x low high =
    by (λ bs e' low'. bytes_own memory (suc p) count bs e' x low' (omega (arith, high))) (memory p) refl e (x - p) refl
  where
    Rest : Type 0
    Rest = (bs : List ℕ) → bytes_in (cells_from memory (suc p) count) ≡ Some bs → suc p ≤ x → is_own (memory x) ≡ true

    here : Cell → x - p ≡ 0 → (c : Cell) → memory p ≡ c → is_own c ≡ true → is_own (memory x) ≡ true
    here _ first c is own =
        let same : p ≡ x = omega (arith, first, low) in
        ap (λ y. is_own (memory y)) (sym same) ∙ ap is_own is ∙ own

    tail : Rest → (b : ℕ) (o : Option (List ℕ)) → bytes_in (cells_from memory (suc p) count) ≡ o
        → option_map (λ others. b ∷ others) o ≡ Some bytes → suc p ≤ x → is_own (memory x) ≡ true
    tail rest b None is e' later = cc
    tail rest b (Some others) is e' later = rest others is later

    by : Rest → (c : Cell) → memory p ≡ c → bytes_in (c ∷ cells_from memory (suc p) count) ≡ Some bytes
        → (d : ℕ) → x - p ≡ d → is_own (memory x) ≡ true
    by rest Missing is e' d first = cc
    by rest Unwritten is e' d first = cc
    by rest (Byte b) is e' zero first = here (Byte b) first (Byte b) is refl
    by rest (Byte b) is e' (suc d) first =
        tail rest b (bytes_in (cells_from memory (suc p) count)) refl e' (omega (arith, first, low))

later : (memory : FlatMemory) (m : MachineState) (p count : ℕ)
    → ((j : ℕ) → j < suc count → memory (p + j) ≡ cell_of (byte_in m.segments (p + j)))
    → (j : ℕ) → j < count → memory (suc p + j) ≡ cell_of (byte_in m.segments (suc p + j))
later memory m p count same j less =
    let e : suc p + j ≡ p + suc j = omega arith in
    ap memory e ∙ same (suc j) (omega (arith, less)) ∙ ap (λ q. cell_of (byte_in m.segments q)) (sym e)

-- bytes of the machine's that the program reads stand there
pub flat_bytes : (memory : FlatMemory) (m : MachineState) (p count : ℕ) (bytes : List ℕ)
    → ((j : ℕ) → j < count → memory (p + j) ≡ cell_of (byte_in m.segments (p + j)))
    → bytes_in (cells_from memory p count) ≡ Some bytes → (length bytes ≡ count) × Bytes m p bytes
flat_bytes memory m p zero bytes same told =
    let none : [] ≡ bytes = cc in
    (ap length (sym none), subst (Bytes m p) none tt)
flat_bytes memory m p (suc count) bytes same told =
    by (λ others e. flat_bytes memory m (suc p) count others (later memory m p count same) e)
    (byte_in m.segments p) refl
    whole
  where
    here : p + 0 ≡ p
    here = omega arith

    first : memory p ≡ cell_of (byte_in m.segments p)
    first = ap memory (sym here) ∙ same 0 (omega arith) ∙ ap (λ q. cell_of (byte_in m.segments q)) here

    whole : bytes_in (cell_of (byte_in m.segments p) ∷ cells_from memory (suc p) count) ≡ Some bytes
    whole = ap (λ c. bytes_in (c ∷ cells_from memory (suc p) count)) (sym first) ∙ told

    next : suc p ≡ p + 1
    next = omega arith

    Rest : Type 0
    Rest = (others : List ℕ) → bytes_in (cells_from memory (suc p) count) ≡ Some others
        → (length others ≡ count) × Bytes m (suc p) others

    more : Rest → (b : ℕ) → byte_in m.segments p ≡ Some b → (o : Option (List ℕ))
        → bytes_in (cells_from memory (suc p) count) ≡ o → option_map (λ others. b ∷ others) o ≡ Some bytes
        → (length bytes ≡ suc count) × Bytes m p bytes
    more tail b is None e told' = cc
    more tail b is (Some others) e told' =
        let rest = tail others e in
        let all : b ∷ others ≡ bytes = cc in (
          ap length (sym all) ∙ ap suc rest.0,
          subst (Bytes m p) all (is, subst (λ q. Bytes m q others) next rest.1),
        )

    by : Rest → (o : Option ℕ) → byte_in m.segments p ≡ o
        → bytes_in (cell_of o ∷ cells_from memory (suc p) count) ≡ Some bytes
        → (length bytes ≡ suc count) × Bytes m p bytes
    by tail None is told' = cc
    by tail (Some b) is told' = more tail b is (bytes_in (cells_from memory (suc p) count)) refl told'

-- behind a list there is 0
later_small : (bytes : List ℕ) → ((k : ℕ) → k < length bytes → slice_index bytes k < 256) → (k : ℕ)
    → slice_index bytes k < 256
later_small [] small k = omega arith
later_small (b ∷ bytes) small zero = small 0 (omega arith)
later_small (b ∷ bytes) small (suc k) = later_small bytes (λ i h. small (suc i) (omega (arith, h))) k

-- A number that the machine may read at an address.
pub record FlatNumber (m : MachineState) (a count n : ℕ) : Type 0 where
  pub may : MayRead m a count
  pub there : Number m a count n
  pub small : n < 256 ^ count

-- what the program reads at an address
pub flat_number : (placing : Placing) (state : WordState) (m : MachineState) (a count n : ℕ) → IsPlacing placing
    → Stands placing state m → 0 < count → a + count ≤ addresses → number_in state.memory a count ≡ Some n
    → FlatNumber m a count n
flat_number placing state m a count n is stands some fits read =
    by (bytes_in (cells_from state.memory a count)) refl read
  where
    own : (bytes : List ℕ) → bytes_in (cells_from state.memory a count) ≡ Some bytes
        → (placing.lowest_data ≤ a) × (a + count ≤ placing.lowest_data + data_bytes placing)
    own bytes e =
        let first = own_in_data placing state a is stands.bounds (omega (arith, some, fits))
        (bytes_own state.memory a count bytes e a (omega arith) (omega (arith, some))) in
        let z : ℕ = a + count - 1 in
        let last = own_in_data placing state z is stands.bounds (omega (arith, some, fits))
        (bytes_own state.memory a count bytes e z (omega (arith, some)) (omega (arith, some))) in
        (first.0, omega (arith, first.0, last.1, some))

    same : (j : ℕ) → j < count → memory_in placing m (a + j) ≡ cell_of (byte_in m.segments (a + j))
    same j less =
        ap (λ b. cond b (cell_of (byte_in m.segments (a + j))) (beyond m (held_in placing m) ((a + j) - addresses)))
        (lt_true (a + j) addresses (omega (arith, fits, less)))

    small_at : placing.lowest_data ≤ a → a + count ≤ placing.lowest_data + data_bytes placing → (bytes : List ℕ)
        → length bytes ≡ count → Bytes m a bytes → (k : ℕ) → k < length bytes → slice_index bytes k < 256
    small_at low high bytes size there k h =
        let back : a + k - a ≡ k = omega arith in
        let byte : byte_in m.segments (a + k) ≡ Some (slice_index bytes k) =
        at_each m a bytes there (a + k) (omega arith) (omega (arith, h))
        ∙ ap (λ i. Some (slice_index bytes i)) back in
        subst (λ o. unwrap_or o 0 < 256) byte
        (small_byte placing m (a + k) stands.serves.memory (omega (arith, low)) (omega (arith, high, h, size)))

    told : (bytes : List ℕ) → bytes_in (cells_from (memory_in placing m) a count) ≡ Some bytes
        → little_number count bytes ≡ n
        → (placing.lowest_data ≤ a) × (a + count ≤ placing.lowest_data + data_bytes placing) → FlatNumber m a count n
    told bytes e is_n range =
        let there = flat_bytes (memory_in placing m) m a count bytes same e in
        let small : (k : ℕ) → k < length bytes → slice_index bytes k < 256 =
        small_at range.0 range.1 bytes there.0 there.1 in
        let back : little_bytes count n ≡ bytes =
        ap (little_bytes count) (sym is_n)
        ∙ subst (λ k. bytes_low_first 0 k (little_from 0 k bytes) ≡ bytes) there.0 (number_back bytes small) in
        record {
          may = allowed_within (λ s. s.read) placing.lowest_data (data_bytes placing) a count m.segments range.0 range.1
              stands.serves.memory.read;
          there = subst (Bytes m a) (sym back) there.1;
          small = subst (λ v. v < 256 ^ count) is_n (little_from-lt 0 count bytes (later_small bytes small));
        }

    told_by : (o : Option (List ℕ)) → bytes_in (cells_from (memory_in placing m) a count) ≡ o
        → option_map (little_number count) o ≡ Some n
        → (placing.lowest_data ≤ a) × (a + count ≤ placing.lowest_data + data_bytes placing) → FlatNumber m a count n
    told_by None e is_n range = cc
    told_by (Some bytes) e is_n range = told bytes e (let same_n : little_number count bytes ≡ n = cc in same_n) range

    by : (o : Option (List ℕ)) → bytes_in (cells_from state.memory a count) ≡ o
        → option_map (little_number count) o ≡ Some n → FlatNumber m a count n
    by None e is_n = cc
    by (Some bytes) e is_n =
        told_by (bytes_in (cells_from (memory_in placing m) a count)) refl
        (same_number state.memory (memory_in placing m) a count n (memory_told placing state m stands) read)
        (own bytes e)

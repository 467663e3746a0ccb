-- What of the state that a machine holds stays as it was, where the machine goes on.
use Rattle.std.proofs.Common.{◌≡◌, ◌∙◌, ◌⊎◌, inl, inr, ℕ, zero, suc, ◌+◌, ◌-◌, ◌*◌, ◌<◌, ◌≤◌, Bool, true, false}
use Rattle.std.proofs.Common.{List, [], ◌∷◌, ◌++◌, length, map, drop, Option, Some, None, arith, refl, ap, sym, subst}
use Rattle.std.proofs.Common.{cond, nat_lt, take, length-take, slice_index, ◌%◌, ◌/◌, ◌&&◌}
use Rattle.std.specs.Prelude.{unwrap_or, nat_le}
use Rattle.std.proofs.lemmas.Bool.Decides.{nat_tests}
use Rattle.byteorder.specs.Endian.{little_bytes, little_number}
use Rattle.rv_step.specs.Machine.{MachineState}
use Rattle.rv_step.specs.Memory.{AreApart, Bytes, MayRead, Writes, byte_in}
use Rattle.rv_step.specs.Segments.{AreSegments}
use Rattle.rv_step.proofs.Addresses.{read_bytes, readable}
use Rattle.rv_code.specs.Registers.{listed}
use Rattle.lir_core.specs.Frame.{fixed_bytes}
use Rattle.lir_core.specs.Memory.{Byte, Cell, Missing, Unwritten}
use Rattle.lir_core.specs.Slots.{is_of_slots, is_variable, slot_at}
use Rattle.lir_core.proofs.Sound.{first_of, second_of}
use Rattle.lir_core.specs.Tells.{CellTellsNoMore}
use Rattle.rt_code.specs.Conventions.{scratch_at}
use Rattle.rv_lines.specs.Frame.{dictionary_at, home, homes_at, return_at, slot_place}
use Rattle.rv_words.specs.Placing.{Placing}
use Rattle.rv_words.specs.Words.{Held, Spot, beyond, bytes_from, caller_of, cell_of, frame_of, has_variable, held_from}
use Rattle.rv_words.specs.Words.{homes_below, homes_of, saved, variable_byte, variable_word, waits_at, word_at}
use Rattle.rv_words.specs.Words.{word_by_home}

-- ---- memory

-- what is told of a place that isn't written
pub cell_kept : (m new : MachineState) (place : ℕ) (bytes : List ℕ) → Writes place bytes m new → (x : ℕ)
    → (x < place) ⊎ (place + length bytes ≤ x) → (c : Cell) → CellTellsNoMore c (cell_of (byte_in m.segments x))
    → CellTellsNoMore c (cell_of (byte_in new.segments x))
cell_kept m new place bytes writes x apart c told = by (byte_in m.segments x) refl c told
  where
    aside : (x < place) ⊎ (place + length bytes ≤ x) → AreApart place (length bytes) x 1
    aside (inl low) = inr (omega (arith, low))
    aside (inr high) = inl (omega (arith, high))

    by : (o : Option ℕ) → byte_in m.segments x ≡ o → (c : Cell) → CellTellsNoMore c (cell_of o)
        → CellTellsNoMore c (cell_of (byte_in new.segments x))
    by None e Missing told = tt
    by None e Unwritten told = absurd (let no : false ≡ true = told in cc)
    by None e (Byte b) told = absurd (let no : Missing ≡ Byte b = told in cc)
    by (Some b) e c told =
        let here : Bytes m x (b ∷ []) = (e, tt) in
        let there : Bytes new x (b ∷ []) = writes.kept x (b ∷ []) (aside apart) here in
        subst (λ o. CellTellsNoMore c (cell_of o)) (sym there.0) told

-- numbers that are read
pub bytes_read : (m : MachineState) (address : ℕ) (bytes : List ℕ) → Bytes m address bytes
    → bytes_from m address (length bytes) ≡ bytes
bytes_read m address [] there = refl
bytes_read m address (b ∷ bytes) there =
    ap (λ o. unwrap_or o 0 ∷ bytes_from m (address + 1) (length bytes)) there.0
    ∙ ap (λ xs. b ∷ xs) (bytes_read m (address + 1) bytes there.1)

pub word_read : (m : MachineState) (address : ℕ) (bytes : List ℕ) → length bytes ≡ 8 → Bytes m address bytes
    → word_at m address ≡ little_number 8 bytes
word_read m address bytes size there =
    ap (λ n. little_number 8 (bytes_from m address n)) (sym size) ∙ ap (little_number 8)
    (bytes_read m address bytes there)

-- a word that isn't written over is as before
pub word_kept : (m new : MachineState) (place : ℕ) (bytes : List ℕ) (address : ℕ) → AreSegments m.segments
    → MayRead m address 8 → Writes place bytes m new → AreApart place (length bytes) address 8
    → word_at new address ≡ word_at m address
word_kept m new place bytes address segments may writes apart =
    let found = readable (λ s. s.read) address 8 m.segments may in
    let there : Bytes m address found.0 = read_bytes (λ s. s.read) m address 8 found.0 segments found.1 found.2 in
    let there' : Bytes new address found.0 =
    writes.kept address found.0 (subst (λ n. AreApart place (length bytes) address n) (sym found.2) apart) there in
    word_read new address found.0 found.2 there' ∙ sym (word_read m address found.0 found.2 there)

-- nor is one in the same memory
pub bytes_same : (m new : MachineState) (address count : ℕ) → new.segments ≡ m.segments
    → bytes_from new address count ≡ bytes_from m address count
bytes_same m new address zero e = refl
bytes_same m new address (suc count) e =
    ap (λ ss. unwrap_or (byte_in ss address) 0 ∷ bytes_from new (address + 1) count) e
    ∙ ap (λ xs. unwrap_or (byte_in m.segments address) 0 ∷ xs) (bytes_same m new (address + 1) count e)

pub word_same : (m new : MachineState) (address : ℕ) → new.segments ≡ m.segments
    → word_at new address ≡ word_at m address
word_same m new address e = ap (little_number 8) (bytes_same m new address 8 e)

-- ---- frames

-- The words that say what a frame is, all in front of the bytes for routines, are in both memories the same.
pub record IsSame (m new : MachineState) (held : Held) : Type 0 where
  pub fixed : (k : ℕ) → 8 * k + 8 ≤ scratch_at
      → word_at new (held.address + 8 * k) ≡ word_at m (held.address + 8 * k)

-- and so are those of its variables
pub record HasSame (m new : MachineState) (held : Held) : Type 0 where
  pub variables : (slot : ℕ) → is_variable held.spot.body slot ≡ true
      → slot_place slot + 8 ≤ held.spot.body.frame
      → word_at new (held.address + slot_place slot) ≡ word_at m (held.address + slot_place slot)

abbrev pub AreSame : MachineState → MachineState → List Held → Type 0
AreSame m new [] = Unit {0}
AreSame m new (held ∷ others) = IsSame m new held × AreSame m new others

abbrev pub HaveSame : MachineState → MachineState → List Held → Type 0
HaveSame m new [] = Unit {0}
HaveSame m new (held ∷ others) = HasSame m new held × HaveSame m new others

-- in the same memory all are
pub all_same : (m new : MachineState) (frames : List Held) → new.segments ≡ m.segments → AreSame m new frames
all_same m new [] e = tt
all_same m new (held ∷ others) e =
    (record { fixed = λ k h. word_same m new (held.address + 8 * k) e }, all_same m new others e)

pub all_have_same : (m new : MachineState) (frames : List Held) → new.segments ≡ m.segments → HaveSame m new frames
all_have_same m new [] e = tt
all_have_same m new (held ∷ others) e = (
  record { variables = λ slot h h'. word_same m new (held.address + slot_place slot) e },
  all_have_same m new others e,
)

-- words in order
pub listed_same : (word word' : ℕ → ℕ) (first count : ℕ) → ((k : ℕ) → k < count → word' (first + k) ≡ word (first + k))
    → listed word' first count ≡ listed word first count
listed_same word word' first zero same = refl
listed_same word word' first (suc count) same =
    let here : first + 0 ≡ first = omega arith in
    let head : word' first ≡ word first = ap word' (sym here) ∙ same 0 (omega arith) ∙ ap word here in
    let tail : listed word' (suc first) count ≡ listed word (suc first) count =
    listed_same word word' (suc first) count
    (λ k h. let e : first + suc k ≡ suc first + k = omega arith in
    ap word' (sym e) ∙ same (suc k) (omega (arith, h)) ∙ ap word e) in
    ap (λ x. x ∷ listed word' (suc first) count) head ∙ ap (λ xs. word first ∷ xs) tail

few_homes : (vars : List ℕ) → length (take 8 vars) ≤ 8
few_homes vars = omega (arith, length-take 8 vars)

-- the return address, and what a frame saved
return_same : (m new : MachineState) (held : Held) → IsSame m new held
    → word_at new (held.address + return_at) ≡ word_at m (held.address + return_at)
return_same m new held same =
    let e : held.address + 8 * 0 ≡ held.address + return_at = omega arith in
    ap (word_at new) (sym e) ∙ same.fixed 0 (omega arith) ∙ ap (word_at m) e

saved_same : (m new : MachineState) (held : Held) → IsSame m new held
    → saved new held.address (homes_of held.spot.body) ≡ saved m held.address (homes_of held.spot.body)
saved_same m new held same =
    let few : homes_of held.spot.body ≤ 8 = few_homes held.spot.body.vars in
    listed_same (λ k. word_at m (held.address + homes_at + 8 * k)) (λ k. word_at new (held.address + homes_at + 8 * k))
    0 (homes_of held.spot.body)
    (λ k h. let e : held.address + 8 * (k + 1) ≡ held.address + homes_at + 8 * (0 + k) = omega arith in
    ap (word_at new) (sym e) ∙ same.fixed (k + 1) (omega (arith, h, few)) ∙ ap (word_at m) e)

pub caller_same : (placing : Placing) (m new : MachineState) (held : Held) → IsSame m new held
    → caller_of placing new held ≡ caller_of placing m held
caller_same placing m new held same =
    ap (λ w. cond (nat_lt (held.address + held.spot.body.frame) placing.program.stack_end) (waits_at placing w) None)
    (return_same m new held same)

pub below_same : (m new : MachineState) (held : Held) → IsSame m new held → homes_below new held ≡ homes_below m held
below_same m new held same =
    ap (λ xs. xs ++ drop (homes_of held.spot.body) held.homes) (saved_same m new held same)

-- the frames that a machine holds, from one on
pub held_same : (n : ℕ) (placing : Placing) (m new : MachineState) (spot : Option Spot) (address : ℕ) (homes : List ℕ)
    → AreSame m new (held_from n placing m spot address homes)
    → held_from n placing new spot address homes ≡ held_from n placing m spot address homes
held_same zero placing m new spot address homes same = refl
held_same (suc n) placing m new None address homes same = refl
held_same (suc n) placing m new (Some spot) address homes same =
    let held : Held = record { spot = spot; address = address; homes = homes } in
    let below : ℕ = address + spot.body.frame in
    ap (λ c. held ∷ held_from n placing new c below (homes_below new held)) (caller_same placing m new held same.0)
    ∙ ap (λ hs. held ∷ held_from n placing new (caller_of placing m held) below hs) (below_same m new held same.0)
    ∙ ap (λ xs. held ∷ xs)
    (held_same n placing m new (caller_of placing m held) below (homes_below m held) same.1)

-- what they tell of frames and of variables
pub frame_same : (m new : MachineState) (held : Held) → IsSame m new held → frame_of new held ≡ frame_of m held
frame_same m new held same =
    let e : held.address + 8 * 9 ≡ held.address + dictionary_at = omega arith in
    ap (λ w. record {
      item = held.spot.item;
      place = held.spot.place;
      address = held.address;
      dictionary = Some w;
      entered = [];
    }) (ap (word_at new) (sym e) ∙ same.fixed 9 (omega arith) ∙ ap (word_at m) e)

pub frames_same : (m new : MachineState) (frames : List Held) → AreSame m new frames
    → map (frame_of new) frames ≡ map (frame_of m) frames
frames_same m new [] same = refl
frames_same m new (held ∷ others) same =
    ap (λ f. f ∷ map (frame_of new) others) (frame_same m new held same.0)
    ∙ ap (λ fs. frame_of m held ∷ fs) (frames_same m new others same.1)

pub variable_same : (m new : MachineState) (held : Held) → HasSame m new held → (slot : ℕ)
    → is_variable held.spot.body slot ≡ true → slot_place slot + 8 ≤ held.spot.body.frame
    → variable_word new held slot ≡ variable_word m held slot
variable_same m new held same slot is fits = by (home held.spot.body.vars slot)
  where
    by : (h : Option ℕ) → word_by_home h new held slot ≡ word_by_home h m held slot
    by (Some r) = refl
    by None = same.variables slot is fits

-- the slot at an address among the slots fits where all slots are whole
slot_fits : (frame at address : ℕ) → frame % 8 ≡ 0 → at + 128 ≤ address → address < at + frame
    → 128 + 8 * ((address - (at + 128)) / 8) + 8 ≤ frame
slot_fits frame at address whole low high = omega (arith, whole, low, high)

is_at_least : (a b : ℕ) → nat_le a b ≡ true → a ≤ b
is_at_least a b t = grind (arith, nat_tests)

is_below : (a b : ℕ) → nat_lt a b ≡ true → a < b
is_below a b t = grind (arith, nat_tests)

pub variable_fits : (held : Held) (address : ℕ) → is_of_slots held.spot.body held.address address ≡ true
    → slot_place (slot_at held.address address) + 8 ≤ held.spot.body.frame
variable_fits held address slots =
    let aligned : held.spot.body.frame % 16 ≡ 0 = held.spot.body.frame_size.aligned in
    slot_fits held.spot.body.frame held.address address (omega (arith, aligned))
    (is_at_least (held.address + fixed_bytes) address
    (first_of (nat_le (held.address + fixed_bytes) address) (nat_lt address (held.address + held.spot.body.frame))
    slots))
    (is_below address (held.address + held.spot.body.frame)
    (second_of (nat_le (held.address + fixed_bytes) address) (nat_lt address
    (held.address + held.spot.body.frame)) slots))

-- what lies beyond all addresses; an address is not a variable's, or its word is the same
pub beyond_same : (m new : MachineState) (frames : List Held) → HaveSame m new frames → (address : ℕ)
    → beyond new frames address ≡ beyond m frames address
beyond_same m new [] same address = refl
beyond_same m new (held ∷ others) same address =
    by (has_variable held address) refl (beyond_same m new others same.1 address)
  where
    by : (b : Bool) → has_variable held address ≡ b → beyond new others address ≡ beyond m others address
        → cond b (Byte (variable_byte new held address)) (beyond new others address)
        ≡ cond b (Byte (variable_byte m held address)) (beyond m others address)
    by true e rest =
        ap (λ w. Byte (slice_index (little_bytes 8 w) ((address - (held.address + fixed_bytes)) % 8)))
        (variable_same m new held same.0 (slot_at held.address address)
        (second_of (is_of_slots held.spot.body held.address address)
        (is_variable held.spot.body (slot_at held.address address)) e)
        (variable_fits held address
        (first_of (is_of_slots held.spot.body held.address address)
        (is_variable held.spot.body (slot_at held.address address)) e)))
    by false e rest = rest

-- the place at which a frame stands makes no difference
pub beyond_spot : (m : MachineState) (spot : Spot) (place at : ℕ) (homes : List ℕ) (rest : List Held) (y : ℕ)
    → beyond m (record {
      spot = record { item = spot.item; body = spot.body; place = place };
      address = at;
      homes = homes;
    } ∷ rest) y
    ≡ beyond m (record { spot = spot; address = at; homes = homes } ∷ rest) y
beyond_spot m spot place at homes rest y =
    ap (λ w. cond (has_variable old y) (Byte (slice_index (little_bytes 8 w) ((y - (at + fixed_bytes)) % 8)))
    (beyond m rest y)) (by (home spot.body.vars (slot_at at y)))
  where
    old : Held
    old = record { spot = spot; address = at; homes = homes }

    moved : Held
    moved = record {
      spot = record { item = spot.item; body = spot.body; place = place };
      address = at;
      homes = homes;
    }

    by : (o : Option ℕ) → word_by_home o m moved (slot_at at y) ≡ word_by_home o m old (slot_at at y)
    by (Some r) = refl
    by None = refl

-- a byte of a variable of the first frame
pub own_byte : (m : MachineState) (spot : Spot) (at : ℕ) (homes : List ℕ) (rest : List Held) (slot d : ℕ) → d < 8
    → is_variable spot.body slot ≡ true → slot_place slot + 8 ≤ spot.body.frame
    → beyond m (record { spot = spot; address = at; homes = homes } ∷ rest) (at + slot_place slot + d)
    ≡ Byte (slice_index (little_bytes 8
    (variable_word m (record { spot = spot; address = at; homes = homes }) slot)) d)
own_byte m spot at homes rest slot d less variable fits =
    ap (λ t. cond t (Byte (variable_byte m held y)) (beyond m rest y)) has
    ∙ ap (λ s. Byte (slice_index (little_bytes 8 (variable_word m held s)) ((y - (at + fixed_bytes)) % 8))) slot_is
    ∙ ap (λ j. Byte (slice_index (little_bytes 8 (variable_word m held slot)) j)) rest_is
  where
    held : Held
    held = record { spot = spot; address = at; homes = homes }

    y : ℕ
    y = at + slot_place slot + d

    slot_is : slot_at at y ≡ slot
    slot_is = omega (arith, less)

    rest_is : (y - (at + fixed_bytes)) % 8 ≡ d
    rest_is = omega (arith, less)

    le_true : (p q : ℕ) → p ≤ q → nat_le p q ≡ true
    le_true p q h = grind (arith, nat_tests)

    lt_true : (p q : ℕ) → p < q → nat_lt p q ≡ true
    lt_true p q h = grind (arith, nat_tests)

    has : has_variable held y ≡ true
    has =
        ap (λ t. (t && nat_lt y (at + spot.body.frame)) && is_variable spot.body (slot_at at y))
        (le_true (at + fixed_bytes) y (omega arith))
        ∙ ap (λ t. t && is_variable spot.body (slot_at at y)) (lt_true y (at + spot.body.frame) (omega
        (arith, less, fits)))
        ∙ ap (is_variable spot.body) slot_is ∙ variable

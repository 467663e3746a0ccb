-- The evaluation stack in memory.
use Rattle.std.proofs.Common.{◌≡◌, ◌∙◌, ℕ, ◌+◌, ◌-◌, ◌*◌, ◌^◌, ◌<◌, ◌≤◌, ℤ, pos, ◌+ℤ◌, Bool, true, false, cond, ◌&&◌}
use Rattle.std.proofs.Common.{nat_le, List, [], ◌∷◌, ◌++◌, length, take, drop, Some, None, refl, ap, sym, arith}
use Rattle.std.proofs.Common.{length-append, append_assoc}
use Rattle.std.proofs.Math.Seq.{drop-append_seam, take-append_seam}
use Rattle.std.proofs.lemmas.Bool.{le-leb, lt-leb}
use Rattle.std.proofs.lemmas.List.{take-append-drop, take-append-le, drop-append-le, length-take-le, length-drop}
use Rattle.std.specs.Option.{option_map}
use Rattle.byteorder.specs.Endian.{little_bytes, little_number}
use Rattle.byteorder.specs.Numbers.{little_number-reads_back, length-bytes_low_first}
use Rattle.num_core.specs.Run.{Running, Streams}
use Rattle.rv_step.specs.declared.segment.Segment.{Segment}
use Rattle.num_core.specs.Bits.{low_bits}
use Rattle.rv_step.specs.Machine.{MachineState, register, address, bytes_at, with_bytes_at, covers, overwritten, gives}
use Rattle.rv_step.specs.Machine.{gives_loaded, goes_on_with, next_pc, effect}
use Rattle.ilc_build.specs.Code.{slot, load_slot, store_slot}

-- the address of the evaluation stack
abbrev pub stack_at : ℕ
stack_at = 69632

-- The numbers of a stack, the top first, stand in the slots: each slot has the 64 bits of its number.
abbrev pub Holds : List ℤ → List ℕ → Type 0
Holds [] bytes = Unit {0}
Holds (n ∷ stack) bytes = (take 8 (drop (8 * length stack) bytes) ≡ little_bytes 8 (low_bits 64 n)) × Holds stack bytes

-- The second segment may be read and written and has nine slots, and the first one, which may not be written,
-- lies before it.
pub record HasSlots (text slots : Segment) : Type 0 where
  pub fixed : text.write ≡ false
  pub before : text.at + length text.bytes ≤ stack_at
  pub at : slots.at ≡ stack_at
  pub read : slots.read ≡ true
  pub write : slots.write ≡ true
  pub room : 72 ≤ length slots.bytes

-- ---- a number that is written

kept_front : (front behind : List ℕ) (j : ℕ) → j + 8 ≤ length front
    → take 8 (drop j (front ++ behind)) ≡ take 8 (drop j front)
kept_front front behind j h =
    let left : 8 ≤ length (drop j front) = omega (arith, length-drop j front) in
    ap (take 8) (drop-append-le j front behind (omega arith)) ∙ take-append-le 8 (drop j front) behind left

parts_of : (place : ℕ) (new bytes : List ℕ)
    → overwritten place new bytes ≡ take place bytes ++ (new ++ drop (place + length new) bytes)
parts_of place new bytes = append_assoc (take place bytes) new (drop (place + length new) bytes)

-- the slots before it stay
kept_slot : (place j : ℕ) (new bytes : List ℕ) → j + 8 ≤ place → place ≤ length bytes
    → take 8 (drop j (overwritten place new bytes)) ≡ take 8 (drop j bytes)
kept_slot place j new bytes h inside =
    let size : length (take place bytes) ≡ place = length-take-le place bytes inside in
    let whole : take place bytes ++ drop place bytes ≡ bytes = take-append-drop place bytes in
    ap (λ bs. take 8 (drop j bs)) (parts_of place new bytes)
    ∙ kept_front (take place bytes) (new ++ drop (place + length new) bytes) j (omega (arith, size))
    ∙ sym (kept_front (take place bytes) (drop place bytes) j (omega (arith, size)))
    ∙ ap (λ bs. take 8 (drop j bs)) whole

-- and it stands in its own
new_slot : (place : ℕ) (new bytes : List ℕ) → length new ≡ 8 → place ≤ length bytes
    → take 8 (drop place (overwritten place new bytes)) ≡ new
new_slot place new bytes eight inside =
    let size : length (take place bytes) ≡ place = length-take-le place bytes inside in
    let behind : List ℕ = drop (place + length new) bytes in
    ap (λ bs. take 8 (drop place bs)) (parts_of place new bytes)
    ∙ ap (λ n. take 8 (drop n (take place bytes ++ (new ++ behind)))) (sym size)
    ∙ ap (take 8) (drop-append_seam (take place bytes) (new ++ behind))
    ∙ ap (λ n. take n (new ++ behind)) (sym eight)
    ∙ take-append_seam new behind

same_size_of : (place : ℕ) (new bytes : List ℕ) → place + length new ≤ length bytes
    → length (overwritten place new bytes) ≡ length bytes
same_size_of place new bytes inside =
    let behind : List ℕ = drop (place + length new) bytes in
    ap length (parts_of place new bytes)
    ∙ length-append (take place bytes) (new ++ behind)
    ∙ omega (
      arith,
      length-take-le place bytes (omega arith),
      length-append new behind,
      length-drop (place + length new) bytes,
    )

eight_bytes : (v : ℕ) → length (little_bytes 8 v) ≡ 8
eight_bytes v = length-bytes_low_first 0 8 v

same_size : (place v : ℕ) (bytes : List ℕ) → place + 8 ≤ length bytes
    → length (overwritten place (little_bytes 8 v) bytes) ≡ length bytes
same_size place v bytes inside = same_size_of place (little_bytes 8 v) bytes (omega (arith, inside, eight_bytes v))

kept : (d : ℕ) (new : List ℕ) (stack : List ℤ) (bytes : List ℕ) → length stack ≤ d → 8 * d ≤ length bytes
    → Holds stack bytes → Holds stack (overwritten (8 * d) new bytes)
kept d new [] bytes h inside holds = tt
kept d new (n ∷ stack) bytes h inside holds = (
  kept_slot (8 * d) (8 * length stack) new bytes (omega arith) inside
      ∙ holds.0,
  kept d new stack bytes (omega arith) inside holds.1,
)

-- The stack with one number more.
pub pushed : (stack : List ℤ) (n : ℤ) (bytes : List ℕ) → 8 * length stack ≤ length bytes → Holds stack bytes
    → Holds (n ∷ stack) (overwritten (8 * length stack) (little_bytes 8 (low_bits 64 n)) bytes)
pushed stack n bytes inside holds = (
  new_slot (8 * length stack) (little_bytes 8 (low_bits 64 n)) bytes (eight_bytes (low_bits 64 n)) inside,
  kept (length stack) (little_bytes 8 (low_bits 64 n)) stack bytes (omega arith) inside holds,
)

-- ---- loads and stores

slot_address : (m : MachineState) (k : ℕ) → k < 9 → register m 5 ≡ stack_at → address m 5 (slot k) ≡ stack_at + 8 * k
slot_address m k h base = ap (λ x. low_bits 64 (pos x +ℤ slot k)) base ∙ omega arith

and_false : (a b : Bool) → b ≡ false → a && b ≡ false
and_false true b e = e
and_false false b e = refl

-- the first segment has none of the slots
not_text : (text slots : Segment) (k : ℕ) → HasSlots text slots → covers (stack_at + 8 * k) 8 text ≡ false
not_text text slots k has =
    let past : nat_le (stack_at + 8 * k + 8) (text.at + length text.bytes) ≡ false =
    lt-leb _ _ (omega (arith, has.before)) in
    and_false (nat_le text.at (stack_at + 8 * k)) _ past

-- and the second has each of them
in_slots : (text slots : Segment) (k : ℕ) → k < 9 → HasSlots text slots → covers (stack_at + 8 * k) 8 slots ≡ true
in_slots text slots k h has =
    let begins : nat_le slots.at (stack_at + 8 * k) ≡ true = le-leb _ _ (omega (arith, has.at)) in
    let ends : nat_le (stack_at + 8 * k + 8) (slots.at + length slots.bytes) ≡ true =
    le-leb _ _ (omega (arith, has.at, has.room)) in
    ap (λ b. b && nat_le (stack_at + 8 * k + 8) (slots.at + length slots.bytes)) begins ∙ ends

in_place : (text slots : Segment) (k : ℕ) → HasSlots text slots → stack_at + 8 * k - slots.at ≡ 8 * k
in_place text slots k has = omega (arith, has.at)

slot_bytes : (text slots : Segment) (k : ℕ) → k < 9 → HasSlots text slots
    → bytes_at (λ s. s.read) (stack_at + 8 * k) 8 (text ∷ slots ∷ []) ≡ Some (take 8 (drop (8 * k) slots.bytes))
slot_bytes text slots k h has =
    let at : ℕ = stack_at + 8 * k in
    let here : slots.read && covers at 8 slots ≡ true = ap (λ b. b && covers at 8 slots) has.read
    ∙ in_slots text slots k h has in
    ap (λ b. cond b (Some (take 8 (drop (at - text.at) text.bytes))) (bytes_at (λ s. s.read) at 8 (slots ∷ [])))
    (and_false text.read (covers at 8 text) (not_text text slots k has))
    ∙ ap (λ b. cond b (Some (take 8 (drop (at - slots.at) slots.bytes))) None) here
    ∙ ap (λ n. Some (take 8 (drop n slots.bytes))) (in_place text slots k has)

-- A register gets the number in a slot.
pub loads_slot : (text slots : Segment) (k rd v : ℕ) (m : MachineState) (streams : Streams) → k < 9 → v < 2 ^ 64
    → HasSlots text slots → m.segments ≡ text ∷ slots ∷ [] → register m 5 ≡ stack_at
    → take 8 (drop (8 * k) slots.bytes) ≡ little_bytes 8 v → effect (load_slot rd k) m streams ≡ gives m rd v streams
loads_slot text slots k rd v m streams h fits has memory base holds =
    ap (λ a. gives_loaded m rd (option_map (λ bytes. little_number 8 bytes) (bytes_at (λ s. s.read) a 8 m.segments))
    streams) (slot_address m k h base)
    ∙ ap (λ ss. gives_loaded m rd (option_map (λ bytes. little_number 8 bytes)
    (bytes_at (λ s. s.read) (stack_at + 8 * k) 8 ss)) streams) memory
    ∙ ap (λ o. gives_loaded m rd (option_map (λ bytes. little_number 8 bytes) o) streams)
    (slot_bytes text slots k h has)
    ∙ ap (λ bs. gives m rd (little_number 8 bs) streams) holds
    ∙ ap (λ x. gives m rd x streams) (little_number-reads_back 8 v [] fits)

-- the second segment with a number in a slot
abbrev pub with_slot : ℕ → ℕ → Segment → Segment
with_slot k v slots = record slots { bytes = overwritten (8 * k) (little_bytes 8 v) slots.bytes }

-- A slot gets the number in t1.
pub stores_slot : (text slots : Segment) (k v : ℕ) (m : MachineState) (streams : Streams) → k < 9 → HasSlots text slots
    → m.segments ≡ text ∷ slots ∷ [] → register m 5 ≡ stack_at → register m 6 ≡ v
    → effect (store_slot k) m streams ≡ Running
    (record { pc = next_pc m; registers = m.registers; segments = text ∷ with_slot k v slots ∷ [] }) streams
stores_slot text slots k v m streams h has memory base value =
    let at : ℕ = stack_at + 8 * k in
    let bytes : List ℕ = little_bytes 8 v in
    let not_here : text.write && covers at 8 text ≡ false = and_false text.write _ (not_text text slots k has) in
    let here : slots.write && covers at 8 slots ≡ true = ap (λ b. b && covers at 8 slots) has.write
    ∙ in_slots text slots k h has in
    ap (λ a. goes_on_with m (with_bytes_at (λ s. s.write) a (little_bytes 8 (register m 6)) m.segments) streams)
    (slot_address m k h base)
    ∙ ap (λ x. goes_on_with m (with_bytes_at (λ s. s.write) at (little_bytes 8 x) m.segments) streams) value
    ∙ ap (λ ss. goes_on_with m (with_bytes_at (λ s. s.write) at bytes ss) streams) memory
    ∙ ap (λ b. goes_on_with m (cond b (Some
    ((record text { bytes = overwritten (at - text.at) bytes text.bytes }) ∷ slots ∷ []))
    (option_map (λ others. text ∷ others) (with_bytes_at (λ s. s.write) at bytes (slots ∷ [])))) streams) not_here
    ∙ ap (λ b. goes_on_with m (option_map (λ others. text ∷ others)
    (cond b (Some ((record slots { bytes = overwritten (at - slots.at) bytes slots.bytes }) ∷ [])) None)) streams)
    here
    ∙ ap (λ n. goes_on_with m (Some (text ∷ (record slots { bytes = overwritten n bytes slots.bytes }) ∷ [])) streams)
    (in_place text slots k has)

pub still_slots : (text slots : Segment) (k v : ℕ) → k < 9 → HasSlots text slots → HasSlots text (with_slot k v slots)
still_slots text slots k v h has =
    record {
      fixed = has.fixed;
      before = has.before;
      at = has.at;
      read = has.read;
      write = has.write;
      room = omega (arith, same_size (8 * k) v slots.bytes (omega (arith, has.room)), has.room);
    }

-- A machine that has got the word of a variable into its home stands where the program does that has written it.
use Rattle.std.proofs.Common.{◌≡◌, ◌∙◌, ◌⊎◌, inl, inr, ℕ, zero, suc, ◌+◌, ◌-◌, ◌%◌, ◌<◌, ◌≤◌, Bool, true}
use Rattle.std.proofs.Common.{false, cond, List, [], ◌∷◌, length, map, Option, Some, None, arith, refl, ap, sym, subst}
use Rattle.std.proofs.Common.{nat_lt, nat_le, ◌==◌, slice_index}
use Rattle.std.specs.List.{AllZip}
use Rattle.std.proofs.lemmas.Bool.{eq-eqb, ne_eqb}
use Rattle.std.proofs.lemmas.Bool.Decides.{nat_tests}
use Rattle.byteorder.specs.Endian.{little_bytes}
use Rattle.rv_step.specs.Machine.{MachineState, register}
use Rattle.rv_step.specs.Memory.{byte_in}
use Rattle.rv_code.specs.Registers.{HasRegisters}
use Rattle.rv_code.proofs.Going.{same_bytes}
use Rattle.lir_core.specs.Frame.{fixed_bytes}
use Rattle.lir_core.specs.Memory.{Byte, Cell, FlatMemory, is_own, overwritten}
use Rattle.lir_core.specs.Slots.{addresses, is_of_slots, is_variable, slot_at}
use Rattle.lir_core.specs.State.{Frame, WordState}
use Rattle.lir_core.specs.Tells.{CellTellsNoMore, MemoryTellsNoMore}
use Rattle.lir_core.proofs.MemoryLaws.{overwritten-elsewhere}
use Rattle.lir_core.proofs.Sound.{first_of}
use Rattle.rv_lines.specs.Frame.{home, slot_place}
use Rattle.rv_words.specs.Placing.{Placing}
use Rattle.rv_words.specs.Stands.{Stands, outermost}
use Rattle.rv_words.specs.Words.{Held, Spot, beyond, cell_of, has_variable, held_in, homes_of, memory_in, stands_at}
use Rattle.rv_words.specs.Words.{variable_byte, variable_word, word_by_home, words}
use Rattle.rv_words.proofs.Homes.{home_bound, home_one, home_word, homes_dropped}
use Rattle.rv_words.proofs.Kept.{all_have_same, all_same, beyond_same, own_byte, word_same}
use Rattle.rv_words.proofs.Moved.{clear_same, program_same}
use Rattle.rv_words.proofs.Standing.{InnerIn, IsOn, goes_on_at, held_at, held_is, held_now, held_on, homes_in, rest_of}
use Rattle.rv_words.proofs.Standing.{bounds_on, stands_on, start_on}

-- what a machine is that differs from another in the home of a variable alone
pub record Homed (m new : MachineState) (k value : ℕ) : Type 0 where
  pub memory : new.segments ≡ m.segments
  pub registers : HasRegisters new
  pub word : register new (18 + k) ≡ value
  pub frame : register new 2 ≡ register m 2
  pub lowest : register new 26 ≡ register m 26
  pub heap : register new 27 ≡ register m 27
  pub others : (j : ℕ) → j < 8 → (j ≡ k → ⊥) → register new (18 + j) ≡ register m (18 + j)

-- ---- cells that are written

pub written_at : (memory : FlatMemory) (p d : ℕ) (cells : List Cell) (bytes : List ℕ)
    → AllZip CellTellsNoMore cells (map Byte bytes) → d < length cells
    → CellTellsNoMore (overwritten memory p cells (p + d)) (Byte (slice_index bytes d))
written_at memory p d [] bytes told h = absurd (omega (arith, h))
written_at memory p d (c ∷ cells) [] told h = absurd told
written_at memory p zero (c ∷ cells) (b ∷ bytes) told h =
    let here : (p + zero == p) ≡ true = eq-eqb (p + zero) p (omega arith) in
    subst (λ t. CellTellsNoMore (cond t c (overwritten memory (suc p) cells (p + zero))) (Byte b)) (sym here) told.0
written_at memory p (suc d) (c ∷ cells) (b ∷ bytes) told h =
    let other : p + suc d ≡ p → ⊥ = λ e. omega (arith, e) in
    let next : suc p + d ≡ p + suc d = omega arith in
    let rest : CellTellsNoMore (overwritten memory (suc p) cells (suc p + d)) (Byte (slice_index bytes d)) =
    written_at memory (suc p) d cells bytes told.1 (omega (arith, h)) in
    subst (λ t. CellTellsNoMore (cond t c (overwritten memory (suc p) cells (p + suc d))) (Byte (slice_index bytes d)))
    (sym (ne_eqb (p + suc d) p other))
    (subst (λ q. CellTellsNoMore (overwritten memory (suc p) cells q) (Byte (slice_index bytes d))) next rest)

-- ---- beyond all addresses

is_at_least : (a b : ℕ) → nat_le a b ≡ true → a ≤ b
is_at_least a b t = grind (arith, nat_tests)

-- a variable of the frame at another place has the word that it had
other_word : (m new : MachineState) (here : Spot) (place k value slot s : ℕ) → Homed m new k value
    → home here.body.vars slot ≡ Some (18 + k) → (s ≡ slot → ⊥)
    → variable_word new (held_now m new here place) s
    ≡ variable_word m (held_at here (register m 2) (homes_in m)) s
other_word m new here place k value slot s homed is differ = by (home here.body.vars s) refl
  where
    by : (o : Option ℕ) → home here.body.vars s ≡ o
        → word_by_home o new (held_now m new here place) s
        ≡ word_by_home o m (held_at here (register m 2) (homes_in m)) s
    by None e = word_same m new (register m 2 + slot_place s) homed.memory
    by (Some r) e =
        let bound = home_bound here.body.vars s r e in
        let low : 18 ≤ r = bound.0 in
        let high : r < 26 = bound.2 in
        let there : 18 + (r - 18) ≡ r = omega (arith, low) in
        let apart : r - 18 ≡ k → ⊥ = λ same.
        let r_is : r ≡ 18 + k = omega (arith, same, low) in
        differ (home_one here.body.vars s slot (18 + k) (e ∙ ap Some r_is) is) in
        let kept : register new (18 + (r - 18)) ≡ register m (18 + (r - 18)) =
        homed.others (r - 18) (omega (arith, low, high)) apart in
        home_word new r low high ∙ ap (register new) (sym there) ∙ kept ∙ ap (register m) there
        ∙ sym (home_word m r low high)

-- so beyond its own place all is as before
beyond_others : (m new : MachineState) (here : Spot) (rest : List Held) (place k value slot a : ℕ) → Homed m new k value
    → home here.body.vars slot ≡ Some (18 + k)
    → (a < register m 2 + slot_place slot) ⊎ (register m 2 + slot_place slot + 8 ≤ a)
    → beyond new (held_now m new here place ∷ rest) a
    ≡ beyond m (held_at here (register m 2) (homes_in m) ∷ rest) a
beyond_others m new here rest place k value slot a homed is apart =
    by (has_variable (held_at here (register m 2) (homes_in m)) a) refl
  where
    old : Held
    old = held_at here (register m 2) (homes_in m)

    differ : register m 2 + fixed_bytes ≤ a
        → (a < register m 2 + slot_place slot) ⊎ (register m 2 + slot_place slot + 8 ≤ a)
        → slot_at (register m 2) a ≡ slot → ⊥
    differ above (inl low) same = omega (arith, above, low, same)
    differ above (inr high) same = omega (arith, above, high, same)

    by : (b : Bool) → has_variable old a ≡ b
        → cond b (Byte (variable_byte new (held_now m new here place) a)) (beyond new rest a)
        ≡ cond b (Byte (variable_byte m old a)) (beyond m rest a)
    by true e =
        let slots : is_of_slots here.body (register m 2) a ≡ true =
        first_of (is_of_slots here.body (register m 2) a) (is_variable here.body (slot_at (register m 2) a)) e in
        let above : register m 2 + fixed_bytes ≤ a =
        is_at_least (register m 2 + fixed_bytes) a
        (first_of (nat_le (register m 2 + fixed_bytes) a) (nat_lt a (register m 2 + here.body.frame)) slots) in
        ap (λ w. Byte (slice_index (little_bytes 8 w) ((a - (register m 2 + fixed_bytes)) % 8)))
        (other_word m new here place k value slot (slot_at (register m 2) a) homed is (differ above apart))
    by false e = beyond_same m new rest (all_have_same m new rest homed.memory) a

-- and there the word's bytes are
beyond_own : (m new : MachineState) (here : Spot) (rest : List Held) (place k value slot d : ℕ) → Homed m new k value
    → home here.body.vars slot ≡ Some (18 + k) → k < 8 → d < 8
    → is_variable here.body slot ≡ true → slot_place slot + 8 ≤ here.body.frame
    → beyond new (held_now m new here place ∷ rest) (register m 2 + slot_place slot + d)
    ≡ Byte (slice_index (little_bytes 8 value) d)
beyond_own m new here rest place k value slot d homed is few less variable fits =
    let word : variable_word new (held_now m new here place) slot ≡ value =
    ap (λ o. word_by_home o new (held_now m new here place) slot) is
    ∙ home_word new (18 + k) (omega arith) (omega (arith, few)) ∙ homed.word in
    own_byte new (record { item = here.item; body = here.body; place = place }) (register m 2)
    (homes_in new) rest slot d
    less variable fits
    ∙ ap (λ w. Byte (slice_index (little_bytes 8 w) d)) word

-- ---- all of memory

pub three_ways : (x p : ℕ) → (x < p) ⊎ (((p ≤ x) × (x < p + 8)) ⊎ (p + 8 ≤ x))
three_ways x p = grind arith

-- What memory tells where the word was written at its place beyond all addresses.
pub memory_homed : (placing : Placing) (m new : MachineState) (frame : Frame) (below : List Frame)
    (place k value slot : ℕ) (cells : List Cell) (memory : FlatMemory) → (i : InnerIn placing m frame below)
    → IsOn placing m new i.here (rest_of i.count placing m (held_at i.here (register m 2) (homes_in m))) place
    → Homed m new k value → home i.here.body.vars slot ≡ Some (18 + k) → k < 8
    → is_variable i.here.body slot ≡ true → slot_place slot + 8 ≤ i.here.body.frame
    → length cells ≡ 8 → AllZip CellTellsNoMore cells (map Byte (little_bytes 8 value))
    → MemoryTellsNoMore memory (memory_in placing m)
    → MemoryTellsNoMore (overwritten memory (addresses + (register m 2 + slot_place slot)) cells)
    (memory_in placing new)
memory_homed placing m new frame below place k value slot cells memory i on homed is few variable fits size cells_told
    told x =
    elim (three_ways x p) as (λ _. CellTellsNoMore (overwritten memory p cells x) (memory_in placing new x)) [
      | inl low ↦ outside (inl low)
      | inr (inl inside) ↦ within inside.0 inside.1
      | inr (inr high) ↦ outside (inr high)
    ]
  where
    p : ℕ
    p = addresses + (register m 2 + slot_place slot)

    rest : List Held
    rest = rest_of i.count placing m (held_at i.here (register m 2) (homes_in m))

    not_below : (y : ℕ) → addresses ≤ y → nat_lt y addresses ≡ false
    not_below y h = grind (arith, nat_tests)

    at_least : (y : ℕ) → nat_lt y addresses ≡ false → addresses ≤ y
    at_least y t = grind (arith, nat_tests)

    nearer : (x < p) ⊎ (p + 8 ≤ x) → addresses ≤ x
        → (x - addresses < register m 2 + slot_place slot) ⊎ (register m 2 + slot_place slot + 8 ≤ x - addresses)
    nearer (inl low) h = inl (omega (arith, low, h))
    nearer (inr high) h = inr (omega (arith, high, h))

    elsewhere : (x < p) ⊎ (p + 8 ≤ x) → (x < p) ⊎ (p + length cells ≤ x)
    elsewhere (inl low) = inl low
    elsewhere (inr high) = inr (omega (arith, high, size))

    beyond_kept : (x < p) ⊎ (p + 8 ≤ x) → addresses ≤ x
        → beyond new (held_in placing new) (x - addresses) ≡ beyond m (held_in placing m) (x - addresses)
    beyond_kept apart h =
        ap (λ hs. beyond new hs (x - addresses)) (held_on placing m new frame below place i on)
        ∙ beyond_others m new i.here rest place k value slot (x - addresses) homed is (nearer apart h)
        ∙ ap (λ hs. beyond m hs (x - addresses)) (sym (held_is placing m frame below i))

    kept : (x < p) ⊎ (p + 8 ≤ x) → (b : Bool) → nat_lt x addresses ≡ b
        → memory_in placing new x ≡ memory_in placing m x
    kept apart true t =
        ap (λ b. cond b (cell_of (byte_in new.segments x)) (beyond new (held_in placing new) (x - addresses))) t
        ∙ ap (λ ss. cell_of (byte_in ss x)) homed.memory
        ∙ sym (ap (λ b. cond b (cell_of (byte_in m.segments x)) (beyond m (held_in placing m) (x - addresses))) t)
    kept apart false t =
        ap (λ b. cond b (cell_of (byte_in new.segments x)) (beyond new (held_in placing new) (x - addresses))) t
        ∙ beyond_kept apart (at_least x t)
        ∙ sym (ap (λ b. cond b (cell_of (byte_in m.segments x)) (beyond m (held_in placing m) (x - addresses))) t)

    outside : (x < p) ⊎ (p + 8 ≤ x) → CellTellsNoMore (overwritten memory p cells x) (memory_in placing new x)
    outside apart =
        subst (λ c. CellTellsNoMore c (memory_in placing new x))
        (sym (overwritten-elsewhere memory p cells x (elsewhere apart)))
        (subst (CellTellsNoMore (memory x)) (sym (kept apart (nat_lt x addresses) refl)) (told x))

    within : p ≤ x → x < p + 8 → CellTellsNoMore (overwritten memory p cells x) (memory_in placing new x)
    within low high =
        let d : ℕ = x - p in
        let sum : p + d ≡ x = omega (arith, low) in
        let less : d < 8 = omega (arith, low, high) in
        let cell : CellTellsNoMore (overwritten memory p cells (p + d)) (Byte (slice_index (little_bytes 8 value) d)) =
        written_at memory p d cells (little_bytes 8 value) cells_told (omega (arith, less, size)) in
        let a_is : x - addresses ≡ register m 2 + slot_place slot + d = omega (arith, low) in
        let there : memory_in placing new x ≡ Byte (slice_index (little_bytes 8 value) d) =
        ap (λ b. cond b (cell_of (byte_in new.segments x)) (beyond new (held_in placing new) (x - addresses)))
        (not_below x (omega (arith, low)))
        ∙ ap (beyond new (held_in placing new)) a_is
        ∙ ap (λ hs. beyond new hs (register m 2 + slot_place slot + d)) (held_on placing m new frame below place i on)
        ∙ beyond_own m new i.here rest place k value slot d homed is few less variable fits in
        subst (λ y. CellTellsNoMore (overwritten memory p cells y) (memory_in placing new x)) sum
        (subst (CellTellsNoMore (overwritten memory p cells (p + d))) (sym there) cell)

-- ---- the state

pub in_range : (memory : FlatMemory) (p x : ℕ) (cells : List Cell) → length cells ≡ 8
    → ((y : ℕ) → p ≤ y → y < p + 8 → is_own (memory y) ≡ true)
    → (x < p) ⊎ (((p ≤ x) × (x < p + 8)) ⊎ (p + 8 ≤ x)) → is_own (overwritten memory p cells x) ≡ true
    → is_own (memory x) ≡ true
in_range memory p x cells size own (inl low) is =
    ap is_own (sym (overwritten-elsewhere memory p cells x (inl low))) ∙ is
in_range memory p x cells size own (inr (inl inside)) is = own x inside.0 inside.1
in_range memory p x cells size own (inr (inr high)) is =
    ap is_own (sym (overwritten-elsewhere memory p cells x (inr (omega (arith, high, size))))) ∙ is

pub stands_homed : (placing : Placing) (state : WordState) (m new : MachineState) (frame : Frame) (below : List Frame)
    (place k value slot : ℕ) (cells : List Cell) → (stands : Stands placing state m)
    → (frames : state.frames ≡ frame ∷ below) → (i : InnerIn placing m frame below)
    → stands_at placing new.pc ≡ Some (record { item = i.here.item; body = i.here.body; place = place })
    → Homed m new k value → home i.here.body.vars slot ≡ Some (18 + k) → k < 8
    → is_variable i.here.body slot ≡ true → slot_place slot + 8 ≤ i.here.body.frame
    → length cells ≡ 8 → AllZip CellTellsNoMore cells (map Byte (little_bytes 8 value))
    → ((x : ℕ) → addresses + (register m 2 + slot_place slot) ≤ x → x < addresses + (register m 2 + slot_place slot) + 8
    → is_own (state.memory x) ≡ true)
    → Stands placing (goes_on_at state frame below place
    (overwritten state.memory (addresses + (register m 2 + slot_place slot)) cells)) new
unfolding words
stands_homed placing state m new frame below place k value slot cells stands frames i spot homed is few variable fits
    size
    cells_told own =
    let p : ℕ = addresses + (register m 2 + slot_place slot) in
    let rest : List Held = rest_of i.count placing m (held_at i.here (register m 2) (homes_in m)) in
    let bound = home_bound i.here.body.vars slot (18 + k) is in
    let less : k < homes_of i.here.body = let high : 18 + k < 18 + homes_of i.here.body = bound.1 in omega
    (arith, high) in
    let on : IsOn placing m new i.here rest place = record {
      spot = spot;
      address = homed.frame;
      lowest = homed.lowest;
      heap = homed.heap;
      homes = homes_dropped m new (homes_of i.here.body) k less homed.others;
      same = (all_same m new (held_at i.here (register m 2) (homes_in m) ∷ []) homed.memory).0;
      others = all_same m new rest homed.memory;
      registers = homed.registers;
      memory = program_same placing m new homed.memory stands.serves.memory;
      clear = clear_same m new homed.memory homed.lowest homed.heap stands.serves.clear;
    } in
    stands_on placing state m new frame below place (overwritten state.memory p cells) stands frames i on
    (memory_homed placing m new frame below place k value slot cells state.memory i on homed is few variable fits size
    cells_told stands.tells.memory)
    (bounds_on placing.program state frame below place (overwritten state.memory p cells) frames
    (λ x is_there. in_range state.memory p x cells size own (three_ways x p) is_there) stands.bounds)
    (start_on placing state m new frame below place (overwritten state.memory p cells) frames
    (λ address there. same_bytes m new (outermost frame.address below) (little_bytes 8
    (address + 64)) homed.memory there)
    stands.start)

-- The slots of a frame to be, which a machine has in memory before the frame is entered: those of variables too.
use Rattle.std.proofs.Common.{◌≡◌, ◌∙◌, ◌⊎◌, inl, inr, ℕ, ◌+◌, ◌-◌, ◌<◌, ◌≤◌, Bool, true, false, not, cond, ◌&&◌}
use Rattle.std.proofs.Common.{List, length, map, Some, arith, refl, ap, sym, subst, nat_lt, nat_le, slice_index}
use Rattle.std.specs.List.{AllZip, list_all}
use Rattle.std.proofs.lemmas.Bool.Decides.{nat_tests}
use Rattle.rv_step.specs.Machine.{MachineState, bytes_at}
use Rattle.rv_step.specs.Memory.{Bytes, MayRead, Writes, byte_in}
use Rattle.rv_step.specs.Segments.{AreSegments}
use Rattle.rv_step.proofs.Addresses.{at_each, read_bytes, readable}
use Rattle.lir_core.specs.Memory.{Byte, Cell, FlatMemory, Unwritten, cells_from, is_own, overwritten, with_cells}
use Rattle.lir_core.specs.Slots.{addresses, is_of_frame, is_of_slots, is_variable, slot_at, with_frame}
use Rattle.lir_core.specs.Tells.{CellTellsNoMore}
use Rattle.lir_core.specs.declared.body.LirBody.{LirBody}
use Rattle.lir_core.proofs.MemoryLaws.{overwritten-elsewhere}
use Rattle.lir_core.proofs.Sound.{first_of, second_of}
use Rattle.rv_words.specs.Words.{cell_of}
use Rattle.rv_words.proofs.Homed.{written_at}
use Rattle.rv_words.proofs.Kept.{cell_kept}
use Rattle.rv_words.proofs.Results.{all_owned, written_where}

-- the address at which a place of a frame to be stands in memory
abbrev pub raw : ℕ → ℕ
raw x = cond (nat_lt x addresses) x (x - addresses)

-- it is one of so many from an address on
pub record InSpan (a n x : ℕ) : Type 0 where
  pub low : a ≤ raw x
  pub high : raw x < a + n

-- The frame's slots tell no more than what stands there. The program has nothing else in its span, and outside of it
-- memory is another one.
pub record IsFilled (body : LirBody) (a : ℕ) (outer memory : FlatMemory) (w : MachineState) : Type 0 where
  pub told : (x : ℕ) → is_of_frame body a x ≡ true
      → CellTellsNoMore (memory x) (cell_of (byte_in w.segments (raw x)))
  pub own : (x : ℕ) → InSpan a body.frame x → is_own (memory x) ≡ true → is_of_frame body a x ≡ true
  pub outside : (x : ℕ) → (InSpan a body.frame x → ⊥) → memory x ≡ outer x

lt_true : (x y : ℕ) → x < y → nat_lt x y ≡ true
lt_true x y h = grind (arith, nat_tests)

lt_false : (x y : ℕ) → y ≤ x → nat_lt x y ≡ false
lt_false x y h = grind (arith, nat_tests)

is_below : (a b : ℕ) → nat_lt a b ≡ true → a < b
is_below a b t = grind (arith, nat_tests)

is_above : (a b : ℕ) → nat_lt a b ≡ false → b ≤ a
is_above a b t = grind (arith, nat_tests)

pub raw_flat : (x : ℕ) → x < addresses → raw x ≡ x
raw_flat x h = ap (λ t. cond t x (x - addresses)) (lt_true x addresses h)

pub raw_beyond : (y : ℕ) → raw (addresses + y) ≡ y
raw_beyond y =
    let back : addresses + y - addresses ≡ y = omega arith in
    ap (λ t. cond t (addresses + y) (addresses + y - addresses)) (lt_false (addresses + y) addresses (omega arith))
    ∙ back

pub raw_high : (z : ℕ) → addresses ≤ z → raw z ≡ z - addresses
raw_high z h = ap (λ t. cond t z (z - addresses)) (lt_false z addresses h)

-- ---- places of the frame

-- a flat one, and one beyond all addresses
pub flat_of : (body : LirBody) (a x : ℕ) → x < addresses → is_of_frame body a x ≡ true
    → (is_of_slots body a x ≡ true) × (is_variable body (slot_at a x) ≡ false)
flat_of body a x h e =
    let both : (is_of_slots body a x && not (is_variable body (slot_at a x))) ≡ true =
    ap (λ t. cond t (is_of_slots body a x && not (is_variable body (slot_at a x)))
    (is_of_slots body a (x - addresses) && is_variable body (slot_at a (x - addresses)))) (sym (lt_true x addresses h))
    ∙ e in (
      first_of (is_of_slots body a x) (not (is_variable body (slot_at a x))) both,
      none (is_variable body (slot_at a x)) (second_of (is_of_slots body a x) (not (is_variable body (slot_at a x)))
          both),
    )
  where
    none : (b : Bool) → not b ≡ true → b ≡ false
    none true e = cc
    none false e = refl

pub beyond_of : (body : LirBody) (a x : ℕ) → addresses ≤ x → is_of_frame body a x ≡ true
    → (is_of_slots body a (x - addresses) ≡ true) × (is_variable body (slot_at a (x - addresses)) ≡ true)
beyond_of body a x h e =
    let both : (is_of_slots body a (x - addresses) && is_variable body (slot_at a (x - addresses))) ≡ true =
    ap (λ t. cond t (is_of_slots body a x && not (is_variable body (slot_at a x)))
    (is_of_slots body a (x - addresses) && is_variable body (slot_at a (x - addresses))))
    (sym (lt_false x addresses h)) ∙ e in (
      first_of (is_of_slots body a (x - addresses)) (is_variable body (slot_at a (x - addresses))) both,
      second_of (is_of_slots body a (x - addresses)) (is_variable body (slot_at a (x - addresses))) both,
    )

at_least : (a b : ℕ) → nat_le a b ≡ true → a ≤ b
at_least a b t = grind (arith, nat_tests)

either_kind : (x : ℕ) → (x < addresses) ⊎ (addresses ≤ x)
either_kind x = grind arith

-- each lies behind the fixed bytes
pub slots_above : (body : LirBody) (a x : ℕ) → is_of_frame body a x ≡ true
    → (a + 128 ≤ raw x) × (raw x < a + body.frame)
slots_above body a x e = elim (either_kind x) as (λ _. (a + 128 ≤ raw x) × (raw x < a + body.frame)) [
  | inl low ↦ subst (λ y. (a + 128 ≤ y) × (y < a + body.frame)) (sym (raw_flat x low))
      (both x (flat_of body a x low e).0)
  | inr high ↦ subst (λ y. (a + 128 ≤ y) × (y < a + body.frame)) (sym (raw_high x high))
      (both (x - addresses) (beyond_of body a x high e).0)
]
  where
    both : (y : ℕ) → is_of_slots body a y ≡ true → (a + 128 ≤ y) × (y < a + body.frame)
    both y slots = (
      at_least (a + 128) y (first_of (nat_le (a + 128) y) (nat_lt y (a + body.frame)) slots),
      is_below y (a + body.frame) (second_of (nat_le (a + 128) y) (nat_lt y (a + body.frame)) slots),
    )

-- two of them that stand at one address are one
one_place : (body : LirBody) (a x y : ℕ) → is_of_frame body a x ≡ true → is_of_frame body a y ≡ true
    → raw x ≡ raw y → x ≡ y
one_place body a x y e e' same = by (either_kind x) (either_kind y)
  where
    never : (s : ℕ) → is_variable body s ≡ false → is_variable body s ≡ true → ⊥
    never s f t = let no : false ≡ true = sym f ∙ t in cc

    by : (x < addresses) ⊎ (addresses ≤ x) → (y < addresses) ⊎ (addresses ≤ y) → x ≡ y
    by (inl h) (inl h') = sym (raw_flat x h) ∙ same ∙ raw_flat y h'
    by (inr h) (inr h') =
        let there : x - addresses ≡ y - addresses = sym (raw_high x h) ∙ same ∙ raw_high y h' in
        omega (arith, h, h', there)
    by (inl h) (inr h') =
        let there : x ≡ y - addresses = sym (raw_flat x h) ∙ same ∙ raw_high y h' in
        absurd (never (slot_at a x) (flat_of body a x h e).1
        (ap (λ z. is_variable body (slot_at a z)) there ∙ (beyond_of body a y h' e').1))
    by (inr h) (inl h') =
        let there : y ≡ x - addresses = sym (raw_flat y h') ∙ sym same ∙ raw_high x h in
        absurd (never (slot_at a y) (flat_of body a y h' e').1
        (ap (λ z. is_variable body (slot_at a z)) there ∙ (beyond_of body a x h e).1))

-- ---- nothing is written yet

if_unwritten : (b : Bool) (c : Cell) → is_own (cond b Unwritten c) ≡ true → is_own c ≡ false → b ≡ true
if_unwritten true c e none = refl
if_unwritten false c e none = absurd (let no : false ≡ true = sym none ∙ e in cc)

pub filled_first : (body : LirBody) (a : ℕ) (outer : FlatMemory) (w : MachineState) → AreSegments w.segments
    → MayRead w a body.frame → a + body.frame ≤ addresses
    → ((x : ℕ) → InSpan a body.frame x → is_own (outer x) ≡ false) → IsFilled body a outer (with_frame body a outer) w
filled_first body a outer w segments may fits none = record {
  told = λ x e.
      let inside : InSpan a body.frame x = lies x e in
      let byte : byte_in w.segments (raw x) ≡ Some (slice_index found.0 (raw x - a)) =
      at_each w a found.0 there (raw x) inside.low
      (subst (λ n. raw x < a + n) (sym found.2) inside.high) in
      subst (λ o. CellTellsNoMore (with_frame body a outer x) (cell_of o)) (sym byte)
      (subst (λ t. CellTellsNoMore (cond t Unwritten (outer x)) (Byte (slice_index found.0 (raw x - a)))) (sym e) refl);
  own = λ x inside own. if_unwritten (is_of_frame body a x) (outer x) own (none x inside);
  outside = λ x apart. elsewhere x apart (is_of_frame body a x) refl;
}
  where
    found : (bytes : List ℕ) × (bytes_at (λ s. s.read) a body.frame w.segments ≡ Some bytes) × (length bytes ≡
        body.frame)
    found = readable (λ s. s.read) a body.frame w.segments may

    there : Bytes w a found.0
    there = read_bytes (λ s. s.read) w a body.frame found.0 segments found.1 found.2

    lies : (x : ℕ) → is_of_frame body a x ≡ true → InSpan a body.frame x
    lies x e =
        let both = slots_above body a x e in
        let low : a + 128 ≤ raw x = both.0 in
        record { low = omega (arith, low); high = both.1 }

    elsewhere : (x : ℕ) → (InSpan a body.frame x → ⊥) → (t : Bool) → is_of_frame body a x ≡ t
        → cond t Unwritten (outer x) ≡ outer x
    elsewhere x apart true e = absurd (apart (lies x e))
    elsewhere x apart false e = refl

-- ---- what is written elsewhere

pub filled_aside : (body : LirBody) (a : ℕ) (outer memory : FlatMemory) (w w' : MachineState) (p : ℕ) (bytes : List ℕ)
    → IsFilled body a outer memory w → Writes p bytes w w'
    → (p + length bytes ≤ a + 128) ⊎ (a + body.frame ≤ p) → IsFilled body a outer memory w'
filled_aside body a outer memory w w' p bytes filled writes apart = record {
  told = λ x e. cell_kept w w' p bytes writes (raw x) (away (raw x) (slots_above body a x e) apart) (memory x)
      (filled.told x e);
  own = filled.own;
  outside = filled.outside;
}
  where
    away : (y : ℕ) → (a + 128 ≤ y) × (y < a + body.frame) → (p + length bytes ≤ a + 128) ⊎ (a + body.frame ≤ p)
        → (y < p) ⊎ (p + length bytes ≤ y)
    away y both (inl below) = let low : a + 128 ≤ y = both.0 in inr (omega (arith, low, below))
    away y both (inr above) = let high : y < a + body.frame = both.1 in inl (omega (arith, high, above))

-- ---- an argument more

three_places : (x p n : ℕ) → (x < p) ⊎ (((p ≤ x) × (x < p + n)) ⊎ (p + n ≤ x))
three_places x p n = grind arith

pub filled_more : (body : LirBody) (a : ℕ) (outer memory new : FlatMemory) (w w' : MachineState) (v : Bool)
    (q : ℕ) (bytes : List ℕ) (cells : List Cell) → IsFilled body a outer memory w → a + body.frame ≤ addresses
    → a ≤ q → q + length bytes ≤ a + body.frame → length cells ≡ length bytes
    → AllZip CellTellsNoMore cells (map Byte bytes) → with_cells memory (cond v (addresses + q) q) cells ≡ Some new
    → Writes q bytes w w' → IsFilled body a outer new w'
filled_more body a outer memory new w w' v q bytes cells filled fits low high size told written writes =
    subst (λ mem. IsFilled body a outer mem w') parts.1 (record {
      told = λ x e. elim (three_places x p n)
          as (λ _. CellTellsNoMore (overwritten memory p cells x) (cell_of (byte_in w'.segments (raw x)))) [
            | inl before ↦ kept x e (inl before)
            | inr (inl inside) ↦ here x inside.0 inside.1
            | inr (inr behind) ↦ kept x e (inr behind)
          ];
      own = λ x span own. elim (three_places x p n) as (λ _. is_of_frame body a x ≡ true) [
        | inl before ↦ filled.own x span (ap is_own (sym (elsewhere x (inl before))) ∙ own)
        | inr (inl inside) ↦ filled.own x span (owned x inside.0 inside.1)
        | inr (inr behind) ↦ filled.own x span (ap is_own (sym (elsewhere x (inr behind))) ∙ own)
      ];
      outside = λ x apart. elim (three_places x p n) as (λ _. overwritten memory p cells x ≡ outer x) [
        | inl before ↦ elsewhere x (inl before) ∙ filled.outside x apart
        | inr (inl inside) ↦ absurd (apart (spanned x inside.0 inside.1))
        | inr (inr behind) ↦ elsewhere x (inr behind) ∙ filled.outside x apart
      ];
    })
  where
    n : ℕ
    n = length bytes

    p : ℕ
    p = cond v (addresses + q) q

    parts : (list_all is_own (cells_from memory p (length cells)) ≡ true) × (overwritten memory p cells ≡ new)
    parts = written_where memory new p cells written

    owned : (x : ℕ) → p ≤ x → x < p + n → is_own (memory x) ≡ true
    owned =
        all_owned memory p n
        (subst (λ k. list_all is_own (cells_from memory p k) ≡ true) size parts.0)

    elsewhere : (x : ℕ) → (x < p) ⊎ (p + n ≤ x) → overwritten memory p cells x ≡ memory x
    elsewhere x apart =
        overwritten-elsewhere memory p cells x (subst (λ k. (x < p) ⊎ (p + k ≤ x)) (sym size) apart)

    -- the address of a place that is written
    raw_by : (b : Bool) (d : ℕ) → d < n → raw (cond b (addresses + q) q + d) ≡ q + d
    raw_by true d less =
        let e : (addresses + q) + d ≡ addresses + (q + d) = omega arith in
        ap raw e ∙ raw_beyond (q + d)
    raw_by false d less = raw_flat (q + d) (omega (arith, less, high, fits))

    raw_is : (x : ℕ) → p ≤ x → x < p + n → raw x ≡ q + (x - p)
    raw_is x from upto =
        let e : p + (x - p) ≡ x = omega (arith, from) in
        ap raw (sym e) ∙ raw_by v (x - p) (omega (arith, from, upto))

    spanned : (x : ℕ) → p ≤ x → x < p + n → InSpan a body.frame x
    spanned x from upto =
        let e : raw x ≡ q + (x - p) = raw_is x from upto in
        record { low = omega (arith, e, low); high = omega (arith, e, high, from, upto) }

    here : (x : ℕ) → p ≤ x → x < p + n
        → CellTellsNoMore (overwritten memory p cells x) (cell_of (byte_in w'.segments (raw x)))
    here x from upto =
        let d : ℕ = x - p in
        let sum : p + d ≡ x = omega (arith, from) in
        let e : raw x ≡ q + d = raw_is x from upto in
        let back : q + d - q ≡ d = omega arith in
        let byte : byte_in w'.segments (q + d) ≡ Some (slice_index bytes d) =
        at_each w' q bytes writes.written (q + d) (omega arith) (omega (arith, from, upto))
        ∙ ap (λ k. Some (slice_index bytes k)) back in
        let byte' : byte_in w'.segments (raw x) ≡ Some (slice_index bytes d) = ap (byte_in w'.segments) e ∙ byte in
        subst (λ o. CellTellsNoMore (overwritten memory p cells x) (cell_of o)) (sym byte')
        (subst (λ y. CellTellsNoMore (overwritten memory p cells y) (Byte (slice_index bytes d))) sum
        (written_at memory p d cells bytes told (omega (arith, from, upto, size))))

    -- another place of the frame stands at another address
    not_there : (x : ℕ) → is_of_frame body a x ≡ true → (x < p) ⊎ (p + n ≤ x) → q ≤ raw x → raw x < q + n → ⊥
    not_there x e apart from upto =
        let d : ℕ = raw x - q in
        let y : ℕ = p + d in
        let raw_y : raw y ≡ q + d = raw_by v d (omega (arith, from, upto)) in
        let same_raw : raw x ≡ raw y = omega (arith, raw_y, from) in
        let span : InSpan a body.frame y = spanned y (omega arith) (omega (arith, from, upto)) in
        let of_frame : is_of_frame body a y ≡ true =
        filled.own y span (owned y (omega arith) (omega (arith, from, upto))) in
        let same : x ≡ y = one_place body a x y e of_frame same_raw in
        no_way apart same (omega (arith, from, upto))
      where
        no_way : (x < p) ⊎ (p + n ≤ x) → x ≡ p + (raw x - q) → raw x - q < n → ⊥
        no_way (inl before) same less = omega (arith, before, same)
        no_way (inr behind) same less = omega (arith, behind, same, less)

    aside : (x : ℕ) → is_of_frame body a x ≡ true → (x < p) ⊎ (p + n ≤ x) → (raw x < q) ⊎ (q + n ≤ raw x)
    aside x e apart = elim (three_places (raw x) q n) as (λ _. (raw x < q) ⊎ (q + n ≤ raw x)) [
      | inl before ↦ inl before
      | inr (inl inside) ↦ absurd (not_there x e apart inside.0 inside.1)
      | inr (inr behind) ↦ inr behind
    ]

    kept : (x : ℕ) → is_of_frame body a x ≡ true → (x < p) ⊎ (p + n ≤ x)
        → CellTellsNoMore (overwritten memory p cells x) (cell_of (byte_in w'.segments (raw x)))
    kept x e apart =
        subst (λ c. CellTellsNoMore c (cell_of (byte_in w'.segments (raw x)))) (sym (elsewhere x apart))
        (cell_kept w w' q bytes writes (raw x) (aside x e apart) (memory x) (filled.told x e))

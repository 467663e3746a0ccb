-- A machine that has written bytes at addresses where the program has something of its own stands where the program
-- does
-- that has written them.
use Rattle.std.proofs.Common.{◌≡◌, ◌∙◌, ◌⊎◌, inl, inr, ℕ, ◌+◌, ◌-◌, ◌<◌, ◌≤◌, Bool, true, false}
use Rattle.std.proofs.Common.{cond}
use Rattle.std.proofs.Common.{◌&&◌, ◌||◌, List, [], ◌∷◌, length, map, Some, All, arith, refl, ap, sym}
use Rattle.std.proofs.Common.{subst}
use Rattle.std.proofs.Common.{nat_lt, nat_le, slice_index}
use Rattle.std.specs.List.{AllZip, list_any}
use Rattle.std.proofs.lemmas.Bool.Decides.{nat_tests}
use Rattle.byteorder.specs.Endian.{little_bytes}
use Rattle.byteorder.specs.Numbers.{length-bytes_low_first}
use Rattle.rv_step.specs.Machine.{MachineState, register}
use Rattle.rv_step.specs.Memory.{AreApart, Writes, byte_in}
use Rattle.rv_step.proofs.Addresses.{at_each}
use Rattle.rv_code.specs.Registers.{HasRegisters}
use Rattle.lir_core.specs.Calls.{lowest}
use Rattle.lir_core.specs.Layout.{FramesFit}
use Rattle.lir_core.specs.Memory.{Byte, Cell, is_own, overwritten}
use Rattle.lir_core.specs.Slots.{addresses}
use Rattle.lir_core.specs.State.{Frame, WordState}
use Rattle.lir_core.specs.Tells.{CellTellsNoMore, MemoryTellsNoMore}
use Rattle.lir_core.proofs.MemoryLaws.{overwritten-elsewhere}
use Rattle.rv_lines.specs.Frame.{slot_place}
use Rattle.rv_words.specs.Placing.{IsPlacing, Placing}
use Rattle.rv_words.specs.Stands.{IsInBounds, Stands, is_of, may_be_own, outermost}
use Rattle.rv_words.specs.Words.{Held, beyond, cell_of, held_in, memory_in, stands_at, words}
use Rattle.rv_words.proofs.Flat.{in_frames, own_in_data}
use Rattle.rv_words.proofs.Holding.{AreOnes, standing_body}
use Rattle.rv_words.proofs.Homed.{written_at}
use Rattle.rv_words.proofs.Kept.{HaveSame, beyond_same, beyond_spot, cell_kept}
use Rattle.rv_words.proofs.Moved.{KeepsOwn, homes_same}
use Rattle.rv_words.proofs.Owning.{IsFirst, IsOneOf}
use Rattle.rv_words.proofs.Reading.{memory_told}
use Rattle.rv_words.proofs.Room.{HasRoom, outer_one, own_not_fixed, own_not_variable, room_of}
use Rattle.rv_words.proofs.Standing.{InnerIn, IsOn, bounds_on, goes_on_at, held_at, held_is, held_on}
use Rattle.rv_words.proofs.Standing.{homes_in}
use Rattle.rv_words.proofs.Standing.{rest_of, stands_on, start_on}
use Rattle.rv_words.proofs.Written.{AreClear, IsClear, apart_front, on_written, ones_of_all, variables_same}

-- ---- ranges that don't meet

either_side : (a b : ℕ) → (a ≤ b) ⊎ (b < a)
either_side a b = grind arith

-- where no address of a range is in another, the ranges don't meet
points_apart : (p n a k : ℕ) → 0 < n → 0 < k → ((x : ℕ) → p ≤ x → x < p + n → (x < a) ⊎ (a + k ≤ x))
    → AreApart p n a k
points_apart p n a k some some' apart = elim (either_side (p + n) a) as (λ _. AreApart p n a k) [
  | inl before ↦ inl before
  | inr above ↦ elim (either_side a p) as (λ _. AreApart p n a k) [
    | inl low ↦ elim (apart p (omega arith) (omega (arith, some))) as (λ _. AreApart p n a k) [
      | inl no_way ↦ absurd (omega (arith, no_way, low))
      | inr behind ↦ inr behind
    ]
    | inr high ↦ elim (apart a (omega (arith, high)) above) as (λ _. AreApart p n a k) [
      | inl no_way ↦ absurd (omega (arith, no_way))
      | inr no_way ↦ absurd (omega (arith, no_way, some'))
    ]
  ]
]

part_apart : (p n a : ℕ) → AreApart p n a 128 → AreApart p n a 8
part_apart p n a (inl low) = inl low
part_apart p n a (inr high) = inr (omega (arith, high))

-- ---- frames

frame_clear : (placing : Placing) (state : WordState) (p n : ℕ) (held : Held) → IsPlacing placing
    → IsInBounds placing.program state → 0 < n
    → IsOneOf placing.program held.address held.spot.body (lowest placing.program state.frames) state.frames
    → ((x : ℕ) → p ≤ x → x < p + n → is_own (state.memory x) ≡ true) → IsClear p n held
frame_clear placing state p n held is bounds some one own = record {
  fixed = points_apart p n held.address 128 some (omega arith)
      (λ x low high. own_not_fixed placing state held.address held.spot.body x is bounds one (own x low high));
  variables = λ slot variable fits. points_apart p n (held.address + slot_place slot) 8 some (omega arith)
      (λ x low high. own_not_variable placing state held.address held.spot.body slot x is bounds one variable fits
      (own x low high));
}

frames_clear : (placing : Placing) (state : WordState) (p n : ℕ) (helds : List Held) → IsPlacing placing
    → IsInBounds placing.program state → 0 < n
    → AreOnes placing.program (lowest placing.program state.frames) state.frames helds
    → ((x : ℕ) → p ≤ x → x < p + n → is_own (state.memory x) ≡ true) → AreClear p n helds
frames_clear placing state p n [] is bounds some ones own = tt
frames_clear placing state p n (held ∷ helds) is bounds some ones own = (
  frame_clear placing state p n held is bounds some ones.0 own,
  frames_clear placing state p n helds is bounds some ones.1 own,
)

-- ---- the part of the heap that isn't used

used_is : (placing : Placing) (state : WordState) (m : MachineState) → Stands placing state m
    → state.heap_used ≡ register m 27 - placing.program.heap_begin
unfolding words
used_is placing state m stands = stands.tells.heap_used

none_of_three : (a b c : Bool) → a ≡ false → b ≡ false → c ≡ false → ((a || b) || c) ≡ false
none_of_three a b c e f g = ap (λ t. (t || b) || c) e ∙ ap (λ t. t || c) f ∙ g

false_where : (b : Bool) → (b ≡ true → ⊥) → b ≡ false
false_where true never = absurd (never refl)
false_where false never = refl

lt_false : (x y : ℕ) → y ≤ x → nat_lt x y ≡ false
lt_false x y h = grind (arith, nat_tests)

and_false : (b : Bool) → (b && false) ≡ false
and_false true = refl
and_false false = refl

true_not_false : true ≡ false → ⊥
true_not_false e = cc

pub own_not_unused : (placing : Placing) (state : WordState) (m : MachineState) (x : ℕ) → IsPlacing placing
    → Stands placing state m → is_own (state.memory x) ≡ true → register m 27 ≤ x → x < register m 26 → ⊥
own_not_unused placing state m x is stands own low high =
    let program = placing.program in
    let lowest_is : register m 26 ≡ program.heap_begin + program.heap_bound = stands.serves.lowest in
    let used : state.heap_used ≡ register m 27 - program.heap_begin = used_is placing state m stands in
    let heap : program.heap_begin ≤ register m 27 = stands.serves.heap in
    let order : program.heap_begin + program.heap_bound + program.stack_bound ≡ program.stack_end =
    is.laid_out.frames_behind_heap in
    let top : program.stack_end ≤ addresses = is.laid_out.below in
    let within : program.stack_end ≤ lowest program state.frames + program.stack_bound = stands.bounds.frames.within in
    let below : x < addresses = omega (arith, high, lowest_is, order, top) in
    let image : is_own (program.image x) ≡ false =
    ap is_own (is.laid_out.image_apart x (omega (arith, heap, low)) (omega (arith, high, lowest_is, order))) in
    let unused : (nat_le program.heap_begin x && nat_lt x (program.heap_begin + state.heap_used)) ≡ false =
    ap (λ t. nat_le program.heap_begin x && t)
    (lt_false x (program.heap_begin + state.heap_used) (omega (arith, used, heap, low)))
    ∙ and_false (nat_le program.heap_begin x) in
    let frames : list_any (is_of program x) state.frames ≡ false =
    false_where (list_any (is_of program x) state.frames)
    (λ e. let there = in_frames program (lowest program state.frames) state.frames x stands.bounds.frames.stacked below
    e in
    omega (arith, there.0, within, order, high, lowest_is)) in
    let nothing : may_be_own program state x ≡ false =
    none_of_three (is_own (program.image x))
    (nat_le program.heap_begin x && nat_lt x (program.heap_begin + state.heap_used))
    (list_any (is_of program x) state.frames) image unused frames in
    let never : true ≡ false = sym (stands.bounds.memory x own) ∙ nothing in
    true_not_false never

unused_apart : (p n a b : ℕ) → 0 < n → ((x : ℕ) → p ≤ x → x < p + n → a ≤ x → x < b → ⊥) → 0 < b - a
    → AreApart p n a (b - a)
unused_apart p n a b some apart room =
    points_apart p n a (b - a) some room
    (λ x low high. elim (either_side a x) as (λ _. (x < a) ⊎ (a + (b - a) ≤ x)) [
      | inl above ↦ elim (either_side b x) as (λ _. (x < a) ⊎ (a + (b - a) ≤ x)) [
        | inl behind ↦ inr (omega (arith, behind, room))
        | inr inside ↦ absurd (apart x low high above inside)
      ]
      | inr before ↦ inl before
    ])

-- ---- all of it

lt_true : (x y : ℕ) → x < y → nat_lt x y ≡ true
lt_true x y h = grind (arith, nat_tests)

is_below : (a b : ℕ) → nat_lt a b ≡ true → a < b
is_below a b t = grind (arith, nat_tests)

is_above : (a b : ℕ) → nat_lt a b ≡ false → b ≤ a
is_above a b t = grind (arith, nat_tests)

three_places : (x p n : ℕ) → (x < p) ⊎ (((p ≤ x) × (x < p + n)) ⊎ (p + n ≤ x))
three_places x p n = grind arith

pub stands_flat : (placing : Placing) (state : WordState) (m new : MachineState) (frame : Frame) (below : List Frame)
    (place p : ℕ) (bytes : List ℕ) (cells : List Cell) → IsPlacing placing → (stands : Stands placing state m)
    → (frames : state.frames ≡ frame ∷ below) → (i : InnerIn placing m frame below)
    → stands_at placing new.pc ≡ Some (record { item = i.here.item; body = i.here.body; place = place })
    → Writes p bytes m new → KeepsOwn m new → HasRegisters new → 0 < length bytes → p + length bytes ≤ addresses
    → length cells ≡ length bytes → AllZip CellTellsNoMore cells (map Byte bytes) → All (λ b. b < 256) bytes
    → ((x : ℕ) → p ≤ x → x < p + length bytes → is_own (state.memory x) ≡ true)
    → Stands placing (goes_on_at state frame below place (overwritten state.memory p cells)) new
stands_flat placing state m new frame below place p bytes cells is stands frames i spot writes keeps registers some
    within size
    cells_told small own =
    stands_on placing state m new frame below place (overwritten state.memory p cells) stands frames i both.0 told
    (bounds_on placing.program state frame below place (overwritten state.memory p cells) frames owned stands.bounds)
    (start_on placing state m new frame below place (overwritten state.memory p cells) frames
    (λ address there. writes.kept (outermost frame.address below) (little_bytes 8 (address + 64))
    (subst (AreApart p (length bytes) (outermost frame.address below))
    (sym (length-bytes_low_first 0 8 (address + 64))) outer) there)
    stands.start)
  where
    held : Held
    held = held_at i.here (register m 2) (homes_in m)

    rest : List Held
    rest = rest_of i.count placing m held

    fits : FramesFit placing.program (frame ∷ below)
    fits = subst (FramesFit placing.program) frames stands.bounds.frames

    there : placing.program.body_of frame.item ≡ Some i.here.body
    there = ap placing.program.body_of i.first.item ∙ standing_body placing m.pc i.here i.is

    one : IsOneOf placing.program (register m 2) i.here.body (lowest placing.program state.frames) state.frames
    one =
        subst (λ fs. IsOneOf placing.program (register m 2) i.here.body (lowest placing.program fs) fs) (sym frames)
        (subst (λ x. IsOneOf placing.program x i.here.body frame.address (frame ∷ below)) i.first.address
        (IsFirst frame below there))

    room : HasRoom placing (register m 2) i.here.body
    room = room_of placing state.frames (register m 2) i.here.body is stands.bounds.frames one

    ones : AreOnes placing.program (lowest placing.program state.frames) state.frames rest
    ones =
        subst (λ fs. AreOnes placing.program (lowest placing.program fs) fs rest) (sym frames)
        (ones_of_all placing m frame below i fits.stacked)

    clear : AreClear p (length bytes) rest
    clear = frames_clear placing state p (length bytes) rest is stands.bounds some ones own

    mine : IsClear p (length bytes) held
    mine = frame_clear placing state p (length bytes) held is stands.bounds some one own

    heap : 0 < register m 26 - register m 27
        → AreApart p (length bytes) (register m 27) (register m 26 - register m 27)
    heap room_left =
        unused_apart p (length bytes) (register m 27) (register m 26) some
        (λ x low high from upto. own_not_unused placing state m x is stands (own x low high) from upto) room_left

    above : placing.lowest_data ≤ p
    above =
        (own_in_data placing state p is stands.bounds (omega (arith, within, some))
        (own p (omega arith) (omega (arith, some)))).0

    outer : AreApart p (length bytes) (outermost frame.address below) 8
    outer =
        let found = outer_one placing.program frame.address frame below fits.stacked in
        let at = outermost frame.address below in
        let whole : IsOneOf placing.program at found.0 (lowest placing.program state.frames) state.frames =
        subst (λ fs. IsOneOf placing.program at found.0 (lowest placing.program fs) fs) (sym frames) found.1 in
        part_apart p (length bytes) at
        (points_apart p (length bytes) at 128 some (omega arith)
        (λ x low high. own_not_fixed placing state at found.0 x is stands.bounds whole (own x low high)))

    both : IsOn placing m new i.here rest place × HaveSame m new rest
    both =
        on_written placing state m new frame below place p bytes is stands frames i spot writes keeps registers above
        small
        heap (apart_front p (length bytes) (register m 2) mine.fixed) room clear

    have : HaveSame m new (held ∷ rest)
    have = (variables_same placing m new p bytes held is stands.serves.memory room writes mine, both.1)

    beyond_is : (y : ℕ) → beyond new (held_in placing new) y ≡ beyond m (held_in placing m) y
    beyond_is y =
        ap (λ hs. beyond new hs y) (held_on placing m new frame below place i both.0)
        ∙ ap (λ hs. beyond new (held_at (record { item = i.here.item; body = i.here.body; place = place })
        (register m 2) hs ∷ rest) y) (homes_same m new keeps)
        ∙ beyond_spot new i.here place (register m 2) (homes_in m) rest y
        ∙ beyond_same m new (held ∷ rest) have y
        ∙ ap (λ hs. beyond m hs y) (sym (held_is placing m frame below i))

    elsewhere : (x : ℕ) → (x < p) ⊎ (p + length bytes ≤ x) → (x < p) ⊎ (p + length cells ≤ x)
    elsewhere x apart = subst (λ n. (x < p) ⊎ (p + n ≤ x)) (sym size) apart

    outside : (x : ℕ) → (x < p) ⊎ (p + length bytes ≤ x)
        → CellTellsNoMore (overwritten state.memory p cells x) (memory_in placing new x)
    outside x apart =
        subst (λ c. CellTellsNoMore c (memory_in placing new x))
        (sym (overwritten-elsewhere state.memory p cells x (elsewhere x apart)))
        (by (nat_lt x addresses) refl (memory_told placing state m stands x))
      where
        by : (t : Bool) → nat_lt x addresses ≡ t
            → CellTellsNoMore (state.memory x) (memory_in placing m x)
            → CellTellsNoMore (state.memory x) (memory_in placing new x)
        by true t told_there =
            subst (λ u. CellTellsNoMore (state.memory x)
            (cond u (cell_of (byte_in new.segments x)) (beyond new (held_in placing new) (x - addresses)))) (sym t)
            (cell_kept m new p bytes writes x apart (state.memory x)
            (subst (λ u. CellTellsNoMore (state.memory x)
            (cond u (cell_of (byte_in m.segments x)) (beyond m (held_in placing m) (x - addresses)))) t told_there))
        by false t told_there =
            subst (λ u. CellTellsNoMore (state.memory x)
            (cond u (cell_of (byte_in new.segments x)) (beyond new (held_in placing new) (x - addresses)))) (sym t)
            (subst (CellTellsNoMore (state.memory x)) (sym (beyond_is (x - addresses)))
            (subst (λ u. CellTellsNoMore (state.memory x)
            (cond u (cell_of (byte_in m.segments x)) (beyond m (held_in placing m) (x - addresses)))) t told_there))

    inside : (x : ℕ) → p ≤ x → x < p + length bytes
        → CellTellsNoMore (overwritten state.memory p cells x) (memory_in placing new x)
    inside x low high =
        let sum : p + (x - p) ≡ x = omega (arith, low) in
        let cell : CellTellsNoMore (overwritten state.memory p cells x) (Byte (slice_index bytes (x - p))) =
        subst (λ y. CellTellsNoMore (overwritten state.memory p cells y) (Byte (slice_index bytes (x - p)))) sum
        (written_at state.memory p (x - p) cells bytes cells_told (omega (arith, low, high, size))) in
        let now : byte_in new.segments x ≡ Some (slice_index bytes (x - p)) =
        at_each new p bytes writes.written x low high in
        let t : nat_lt x addresses ≡ true = lt_true x addresses (omega (arith, high, within)) in
        subst (λ u. CellTellsNoMore (overwritten state.memory p cells x)
        (cond u (cell_of (byte_in new.segments x)) (beyond new (held_in placing new) (x - addresses)))) (sym t)
        (subst (λ o. CellTellsNoMore (overwritten state.memory p cells x) (cell_of o)) (sym now) cell)

    told : MemoryTellsNoMore (overwritten state.memory p cells) (memory_in placing new)
    told x =
        elim (three_places x p (length bytes))
        as (λ _. CellTellsNoMore (overwritten state.memory p cells x) (memory_in placing new x)) [
          | inl low ↦ outside x (inl low)
          | inr (inl within_it) ↦ inside x within_it.0 within_it.1
          | inr (inr high) ↦ outside x (inr high)
        ]

    owned : (x : ℕ) → is_own (overwritten state.memory p cells x) ≡ true → is_own (state.memory x) ≡ true
    owned x is_there =
        elim (three_places x p (length bytes)) as (λ _. is_own (state.memory x) ≡ true) [
          | inl low ↦ ap is_own (sym (overwritten-elsewhere state.memory p cells x (elsewhere x (inl low)))) ∙ is_there
          | inr (inl within_it) ↦ own x within_it.0 within_it.1
          | inr (inr high) ↦
              ap is_own (sym (overwritten-elsewhere state.memory p cells x (elsewhere x (inr high)))) ∙ is_there
        ]

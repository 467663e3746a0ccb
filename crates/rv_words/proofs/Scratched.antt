-- A machine in which a routine has written some of the bytes that are there for it: the program sees none of them.
use Rattle.std.proofs.Common.{◌≡◌, ◌∙◌, ◌⊎◌, inl, inr, ℕ, ◌+◌, ◌-◌, ◌<◌, ◌≤◌, Bool, true, false, cond, All}
use Rattle.std.proofs.Common.{List, [], ◌∷◌, length, Some, arith, refl, ap, sym, subst, nat_lt}
use Rattle.byteorder.specs.Endian.{little_bytes}
use Rattle.byteorder.specs.Numbers.{length-bytes_low_first}
use Rattle.rv_step.specs.Machine.{MachineState, register}
use Rattle.rv_step.specs.Memory.{AreApart, Writes, byte_in}
use Rattle.rv_code.specs.Registers.{HasRegisters}
use Rattle.lir_core.specs.Calls.{lowest}
use Rattle.lir_core.specs.Layout.{AreStacked, FramesFit}
use Rattle.lir_core.specs.Memory.{is_own}
use Rattle.lir_core.specs.Slots.{addresses}
use Rattle.lir_core.specs.State.{Frame, WordState}
use Rattle.lir_core.specs.Tells.{CellTellsNoMore, MemoryTellsNoMore}
use Rattle.rt_code.specs.Conventions.{scratch_at, scratch_bytes}
use Rattle.rv_lines.specs.Frame.{slot_place}
use Rattle.rv_words.specs.Placing.{IsPlacing, Placing}
use Rattle.rv_words.specs.Stands.{Stands, outermost}
use Rattle.rv_words.specs.Words.{Held, beyond, cell_of, held_in, memory_in, stands_at}
use Rattle.rv_words.proofs.Holding.{standing_body}
use Rattle.rv_words.proofs.Kept.{HaveSame, beyond_same, beyond_spot, cell_kept, word_kept}
use Rattle.rv_words.proofs.Moved.{KeepsOwn, homes_same}
use Rattle.rv_words.proofs.Owning.{IsFirst, IsOneOf, at_least}
use Rattle.rv_words.proofs.Reading.{memory_told}
use Rattle.rv_words.proofs.Room.{HasRoom, in_data, may_read, outer_one, own_not_fixed, room_of}
use Rattle.rv_words.proofs.Slotted.{clear_above, not_own}
use Rattle.rv_words.proofs.Standing.{InnerIn, IsOn, bounds_on, goes_on_at, held_at, held_is, held_on, homes_in, rest_of}
use Rattle.rv_words.proofs.Standing.{stands_on, start_on}
use Rattle.rv_words.proofs.Written.{AreClear, on_written, ones_below}

-- the return address of the outermost frame is none of them
outer_apart : (placing : Placing) (frame : Frame) (below : List Frame) (count : ℕ)
    → (stacked : AreStacked placing.program frame.address (frame ∷ below)) → count ≤ scratch_bytes
    → AreApart (frame.address + scratch_at) count (outermost frame.address below) 8
outer_apart placing frame [] count stacked few = inr (omega arith)
outer_apart placing frame (next ∷ below) count stacked few =
    let one = outer_one placing.program (frame.address + stacked.0.frame) next below stacked.3 in
    let least : frame.address + stacked.0.frame ≤ outermost next.address below =
    at_least placing.program (outermost next.address below) one.0 (frame.address + stacked.0.frame)
    (next ∷ below) one.1 in
    let size : 192 ≤ stacked.0.frame = stacked.0.frame_size.least in
    inl (omega (arith, least, size, few))

is_false : (b : Bool) → (b ≡ true → ⊥) → b ≡ false
is_false true never = absurd (never refl)
is_false false never = refl

three_places : (x p n : ℕ) → (x < p) ⊎ (((p ≤ x) × (x < p + n)) ⊎ (p + n ≤ x))
three_places x p n = grind arith

pub stands_scratched : (placing : Placing) (state : WordState) (m new : MachineState) (frame : Frame)
    (below : List Frame) (place : ℕ) (bytes : List ℕ) → IsPlacing placing → (stands : Stands placing state m)
    → (frames : state.frames ≡ frame ∷ below) → (i : InnerIn placing m frame below)
    → stands_at placing new.pc ≡ Some (record { item = i.here.item; body = i.here.body; place = place })
    → Writes (register m 2 + scratch_at) bytes m new → length bytes ≤ scratch_bytes → All (λ b. b < 256) bytes
    → KeepsOwn m new → HasRegisters new → Stands placing (goes_on_at state frame below place state.memory) new
stands_scratched placing state m new frame below place bytes is stands frames i spot writes few small keeps registers =
    stands_on placing state m new frame below place state.memory stands frames i both.0 told
    (bounds_on placing.program state frame below place state.memory frames (λ x own. own) stands.bounds)
    (start_on placing state m new frame below place state.memory frames
    (λ address there. writes.kept (outermost frame.address below) (little_bytes 8 (address + 64))
    (subst (AreApart p (length bytes) (outermost frame.address below))
    (sym (length-bytes_low_first 0 8 (address + 64))) outer) there)
    stands.start)
  where
    p : ℕ
    p = register m 2 + scratch_at

    held : Held
    held = held_at i.here (register m 2) (homes_in m)

    rest : List Held
    rest = rest_of i.count placing m held

    fits : FramesFit placing.program (frame ∷ below)
    fits = subst (FramesFit placing.program) frames stands.bounds.frames

    same : frame.address ≡ register m 2
    same = i.first.address

    there : placing.program.body_of frame.item ≡ Some i.here.body
    there = ap placing.program.body_of i.first.item ∙ standing_body placing m.pc i.here i.is

    one : IsOneOf placing.program (register m 2) i.here.body (lowest placing.program state.frames) state.frames
    one =
        subst (λ fs. IsOneOf placing.program (register m 2) i.here.body (lowest placing.program fs) fs) (sym frames)
        (subst (λ x. IsOneOf placing.program x i.here.body frame.address (frame ∷ below)) same
        (IsFirst frame below there))

    room : HasRoom placing (register m 2) i.here.body
    room = room_of placing state.frames (register m 2) i.here.body is stands.bounds.frames one

    size : 192 ≤ i.here.body.frame
    size = i.here.body.frame_size.least

    size' : 192 ≤ fits.stacked.0.frame
    size' = fits.stacked.0.frame_size.least

    outer : AreApart p (length bytes) (outermost frame.address below) 8
    outer =
        subst (λ x. AreApart (x + scratch_at) (length bytes) (outermost frame.address below) 8) same
        (outer_apart placing frame below (length bytes) fits.stacked few)

    heap : 0 < register m 26 - register m 27
        → AreApart p (length bytes) (register m 27) (register m 26 - register m 27)
    heap room_left =
        let lowest_is : register m 26 ≡ placing.program.heap_begin + placing.program.heap_bound = stands.serves.lowest
        in
        let above : placing.program.heap_begin + placing.program.heap_bound ≤ register m 2 = room.above in
        let order : register m 27 ≤ register m 26 = stands.serves.clear.order in
        inr (omega (arith, lowest_is, above, order))

    clear : AreClear p (length bytes) rest
    clear =
        clear_above placing p (length bytes) (frame.address + fits.stacked.0.frame) below rest
        (ones_below placing m frame below i fits.stacked) (omega (arith, few, same, size'))

    both : IsOn placing m new i.here rest place × HaveSame m new rest
    both =
        on_written placing state m new frame below place p bytes is stands frames i spot writes keeps registers
        (in_data placing (register m 2) i.here.body p 32 is room (omega arith) (omega (arith, size))).0 small heap
        (inr (omega arith)) room clear

    have : HaveSame m new (held ∷ rest)
    have = (
      record {
        variables = λ slot variable ends. word_kept m new p bytes (register m 2 + slot_place slot)
            stands.serves.memory.segments
            (may_read placing m (register m 2) i.here.body (register m 2 + slot_place slot) 8 is stands.serves.memory
            room
            (omega arith) (omega (arith, ends)))
            writes (inl (omega (arith, few)));
      },
      both.1,
    )

    beyond_is : (y : ℕ) → beyond new (held_in placing new) y ≡ beyond m (held_in placing m) y
    beyond_is y =
        ap (λ hs. beyond new hs y) (held_on placing m new frame below place i both.0)
        ∙ ap (λ hs. beyond new (held_at (record { item = i.here.item; body = i.here.body; place = place })
        (register m 2) hs ∷ rest) y) (homes_same m new keeps)
        ∙ beyond_spot new i.here place (register m 2) (homes_in m) rest y
        ∙ beyond_same m new (held ∷ rest) have y
        ∙ ap (λ hs. beyond m hs y) (sym (held_is placing m frame below i))

    outside : (x : ℕ) → (x < p) ⊎ (p + length bytes ≤ x)
        → CellTellsNoMore (state.memory x) (memory_in placing new x)
    outside x apart = by (nat_lt x addresses) refl (memory_told placing state m stands x)
      where
        by : (t : Bool) → nat_lt x addresses ≡ t → CellTellsNoMore (state.memory x) (memory_in placing m x)
            → CellTellsNoMore (state.memory x) (memory_in placing new x)
        by true t told_there =
            subst (λ u. CellTellsNoMore (state.memory x)
            (cond u (cell_of (byte_in new.segments x)) (beyond new (held_in placing new) (x - addresses)))) (sym t)
            (cell_kept m new p bytes writes x apart (state.memory x)
            (subst (λ u. CellTellsNoMore (state.memory x)
            (cond u (cell_of (byte_in m.segments x)) (beyond m (held_in placing m) (x - addresses)))) t told_there))
        by false t told_there =
            subst (λ u. CellTellsNoMore (state.memory x)
            (cond u (cell_of (byte_in new.segments x)) (beyond new (held_in placing new) (x - addresses)))) (sym t)
            (subst (CellTellsNoMore (state.memory x)) (sym (beyond_is (x - addresses)))
            (subst (λ u. CellTellsNoMore (state.memory x)
            (cond u (cell_of (byte_in m.segments x)) (beyond m (held_in placing m) (x - addresses)))) t told_there))

    inside : (x : ℕ) → p ≤ x → x < p + length bytes → CellTellsNoMore (state.memory x) (memory_in placing new x)
    inside x low high =
        not_own (state.memory x) (memory_in placing new x)
        (is_false (is_own (state.memory x))
        (λ own. elim (own_not_fixed placing state (register m 2) i.here.body x is stands.bounds one own) as (λ _. ⊥) [
          | inl before ↦ omega (arith, before, low)
          | inr behind ↦ omega (arith, behind, high, few)
        ]))

    told : MemoryTellsNoMore state.memory (memory_in placing new)
    told x =
        elim (three_places x p (length bytes))
        as (λ _. CellTellsNoMore (state.memory x) (memory_in placing new x)) [
          | inl low ↦ outside x (inl low)
          | inr (inl within) ↦ inside x within.0 within.1
          | inr (inr high) ↦ outside x (inr high)
        ]

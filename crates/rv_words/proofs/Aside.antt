-- A machine that has written below its frames, where the program has nothing, stands where it did.
use Rattle.std.proofs.Common.{◌≡◌, ◌∙◌, ◌⊎◌, inl, inr, ℕ, ◌+◌, ◌-◌, ◌<◌, ◌≤◌, Bool, true, false, cond, ◌&&◌, ◌||◌}
use Rattle.std.proofs.Common.{not, List, [], ◌∷◌, length, Option, Some, None, All, arith, refl, ap, sym, subst}
use Rattle.std.proofs.Common.{nat_lt, nat_le}
use Rattle.std.specs.List.{list_any}
use Rattle.std.proofs.lemmas.Bool.Decides.{nat_tests}
use Rattle.byteorder.specs.Endian.{little_bytes}
use Rattle.byteorder.specs.Numbers.{length-bytes_low_first}
use Rattle.rv_step.specs.Machine.{MachineState, register}
use Rattle.rv_step.specs.Memory.{AreApart, Writes, byte_in}
use Rattle.rv_code.specs.Registers.{HasRegisters}
use Rattle.lir_core.specs.Calls.{lowest}
use Rattle.lir_core.specs.Frame.{fixed_bytes}
use Rattle.lir_core.specs.Layout.{AreStacked, FramesFit}
use Rattle.lir_core.specs.Memory.{FlatMemory, is_own}
use Rattle.lir_core.specs.Program.{WordProgram}
use Rattle.lir_core.specs.Slots.{addresses, is_of_slots, is_variable, slot_at}
use Rattle.lir_core.specs.State.{Frame, WordState}
use Rattle.lir_core.specs.Tells.{CellTellsNoMore, MemoryTellsNoMore}
use Rattle.lir_core.specs.declared.body.LirBody.{LirBody}
use Rattle.rv_words.specs.Placing.{IsPlacing, Placing}
use Rattle.rv_words.specs.Stands.{IsInBounds, Stands, is_of, is_of_body, may_be_own, outermost}
use Rattle.rv_words.specs.Words.{Held, beyond, cell_of, held_in, memory_in, stands_at}
use Rattle.rv_words.proofs.Holding.{AreOnes, standing_body}
use Rattle.rv_words.proofs.Kept.{HaveSame, beyond_same, beyond_spot, cell_kept}
use Rattle.rv_words.proofs.Moved.{KeepsOwn, homes_same, stands_moved}
use Rattle.rv_words.proofs.Owning.{IsFirst, IsOneOf, at_least, none_below}
use Rattle.rv_words.proofs.Reading.{memory_told}
use Rattle.rv_words.proofs.Room.{HasRoom, outer_one, room_of}
use Rattle.rv_words.proofs.Slotted.{clear_above, not_own}
use Rattle.rv_words.proofs.Standing.{InnerIn, IsOn, bounds_on, goes_on_at, held_at, held_is, held_on, homes_in, inner}
use Rattle.rv_words.proofs.Standing.{rest_of, stands_on, start_on}
use Rattle.rv_words.proofs.Written.{AreClear, IsClear, on_written, ones_below, variables_same}

-- ---- what the program doesn't have

lt_false : (x y : ℕ) → y ≤ x → nat_lt x y ≡ false
lt_false x y h = grind (arith, nat_tests)

lt_true : (x y : ℕ) → x < y → nat_lt x y ≡ true
lt_true x y h = grind (arith, nat_tests)

le_false : (x y : ℕ) → y < x → nat_le x y ≡ false
le_false x y h = grind (arith, nat_tests)

and_false : (b : Bool) → (b && false) ≡ false
and_false true = refl
and_false false = refl

none_of_three : (a b c : Bool) → a ≡ false → b ≡ false → c ≡ false → ((a || b) || c) ≡ false
none_of_three a b c e f g = ap (λ t. (t || b) || c) e ∙ ap (λ t. t || c) f ∙ g

none_where : (b : Bool) → (b ≡ true → ⊥) → b ≡ false
none_where true never = absurd (never refl)
none_where false never = refl

-- it has nothing between the heap and its innermost frame
pub none_between : (placing : Placing) (state : WordState) (x : ℕ) → IsPlacing placing
    → IsInBounds placing.program state → placing.program.heap_begin + placing.program.heap_bound ≤ x
    → x < lowest placing.program state.frames → x < placing.program.stack_end → is_own (state.memory x) ≡ false
none_between placing state x is bounds low high top =
    let program : WordProgram = placing.program in
    let end : program.stack_end ≤ addresses = is.laid_out.below in
    let used : state.heap_used ≤ program.heap_bound = bounds.heap in
    let image : is_own (program.image x) ≡ false =
    ap is_own (is.laid_out.image_apart x (omega (arith, low)) top) in
    let heap : (nat_le program.heap_begin x && nat_lt x (program.heap_begin + state.heap_used)) ≡ false =
    ap (λ t. nat_le program.heap_begin x && t)
    (lt_false x (program.heap_begin + state.heap_used) (omega (arith, low, used)))
    ∙ and_false (nat_le program.heap_begin x) in
    let frames : list_any (is_of program x) state.frames ≡ false =
    none_below program (lowest program state.frames) state.frames x bounds.frames.stacked high
    (omega (arith, top, end)) in
    let nothing : may_be_own program state x ≡ false =
    none_of_three (is_own (program.image x))
    (nat_le program.heap_begin x && nat_lt x (program.heap_begin + state.heap_used))
    (list_any (is_of program x) state.frames) image heap frames in
    none_where (is_own (state.memory x))
    (λ own. let no : true ≡ false = sym (bounds.memory x own) ∙ nothing in cc)

-- nor at the place of a variable below that frame
of_none : (o : Option LirBody) (at x : ℕ) → addresses ≤ x → x - addresses < at → is_of_body o at x ≡ false
of_none None at x high low = refl
of_none (Some body) at x high low =
    let y : ℕ = x - addresses in
    ap (λ t. cond t (is_of_slots body at x && not (is_variable body (slot_at at x)))
    (is_of_slots body at y && is_variable body (slot_at at y))) (lt_false x addresses high)
    ∙ ap (λ t. (t && nat_lt y (at + body.frame)) && is_variable body (slot_at at y))
    (le_false (at + fixed_bytes) y (omega (arith, low)))

none_of_them : (program : WordProgram) (address : ℕ) (frames : List Frame) (x : ℕ)
    → AreStacked program address frames → addresses ≤ x → x - addresses < address
    → list_any (is_of program x) frames ≡ false
none_of_them program address [] x stacked high low = refl
none_of_them program address (frame ∷ frames) x stacked high low =
    let at : frame.address ≡ address = stacked.2 in
    ap (λ t. t || list_any (is_of program x) frames)
    (of_none (program.body_of frame.item) frame.address x high (omega (arith, low, at)))
    ∙ none_of_them program (address + stacked.0.frame) frames x stacked.3 high (omega (arith, low))

pub none_beyond : (placing : Placing) (state : WordState) (x : ℕ) → IsPlacing placing
    → IsInBounds placing.program state → addresses ≤ x → x - addresses < lowest placing.program state.frames
    → is_own (state.memory x) ≡ false
none_beyond placing state x is bounds high low =
    let program : WordProgram = placing.program in
    let end : program.stack_end ≤ addresses = is.laid_out.below in
    let order : program.heap_begin + program.heap_bound + program.stack_bound ≡ program.stack_end =
    is.laid_out.frames_behind_heap in
    let used : state.heap_used ≤ program.heap_bound = bounds.heap in
    let image : is_own (program.image x) ≡ false = ap is_own (is.laid_out.image_below x high) in
    let heap : (nat_le program.heap_begin x && nat_lt x (program.heap_begin + state.heap_used)) ≡ false =
    ap (λ t. nat_le program.heap_begin x && t)
    (lt_false x (program.heap_begin + state.heap_used) (omega (arith, high, used, order, end)))
    ∙ and_false (nat_le program.heap_begin x) in
    let frames : list_any (is_of program x) state.frames ≡ false =
    none_of_them program (lowest program state.frames) state.frames x bounds.frames.stacked high low in
    let nothing : may_be_own program state x ≡ false =
    none_of_three (is_own (program.image x))
    (nat_le program.heap_begin x && nat_lt x (program.heap_begin + state.heap_used))
    (list_any (is_of program x) state.frames) image heap frames in
    none_where (is_own (state.memory x))
    (λ own. let no : true ≡ false = sym (bounds.memory x own) ∙ nothing in cc)

-- ---- all of it

three_places : (x p n : ℕ) → (x < p) ⊎ (((p ≤ x) × (x < p + n)) ⊎ (p + n ≤ x))
three_places x p n = grind arith

-- a state that goes on at the place where it is
pub as_it_was : (placing : Placing) (state : WordState) (memory : FlatMemory) (new : MachineState) (frame : Frame)
    (below : List Frame) (place : ℕ) → state.frames ≡ frame ∷ below → place ≡ frame.place
    → Stands placing (goes_on_at state frame below place memory) new
    → Stands placing (record state { memory = memory }) new
as_it_was placing state memory new frame below place frames place_is stands =
    subst (λ fs. Stands placing (record state { frames = fs; memory = memory }) new) (sym frames)
    (subst (λ p. Stands placing (goes_on_at state frame below p memory) new) place_is stands)

-- It does so too where its pc is the same, and nothing has changed that the program sees.
pub stands_still : (placing : Placing) (state : WordState) (m new : MachineState) (frame : Frame) (below : List Frame)
    → Stands placing state m → state.frames ≡ frame ∷ below → new.pc ≡ m.pc → new.segments ≡ m.segments
    → KeepsOwn m new → HasRegisters new → Stands placing state new
stands_still placing state m new frame below stands frames pc memory keeps registers =
    let i : InnerIn placing m frame below = inner placing state m frame below stands frames in
    as_it_was placing state state.memory new frame below i.here.place frames (sym i.first.place)
    (stands_moved placing state m new frame below i.here.place stands frames i (ap (stands_at placing) pc ∙ i.is) memory
    keeps registers)

pub stands_aside : (placing : Placing) (state : WordState) (m new : MachineState) (frame : Frame) (below : List Frame)
    (p : ℕ) (bytes : List ℕ) → IsPlacing placing → Stands placing state m → state.frames ≡ frame ∷ below
    → new.pc ≡ m.pc → Writes p bytes m new → KeepsOwn m new → HasRegisters new → All (λ b. b < 256) bytes
    → register m 26 ≤ p → p + length bytes ≤ register m 2 → Stands placing state new
stands_aside placing state m new frame below p bytes is stands frames pc writes keeps registers small low high =
    as_it_was placing state state.memory new frame below place frames place_is
    (stands_on placing state m new frame below place state.memory stands frames i both.0 told
    (bounds_on placing.program state frame below place state.memory frames (λ x own. own) stands.bounds)
    (start_on placing state m new frame below place state.memory frames
    (λ address there. writes.kept (outermost frame.address below) (little_bytes 8 (address + 64))
    (subst (AreApart p (length bytes) (outermost frame.address below))
    (sym (length-bytes_low_first 0 8 (address + 64))) outer) there)
    stands.start))
  where
    i : InnerIn placing m frame below
    i = inner placing state m frame below stands frames

    place : ℕ
    place = i.here.place

    place_is : place ≡ frame.place
    place_is = sym i.first.place

    held : Held
    held = held_at i.here (register m 2) (homes_in m)

    rest : List Held
    rest = rest_of i.count placing m held

    fits : FramesFit placing.program (frame ∷ below)
    fits = subst (FramesFit placing.program) frames stands.bounds.frames

    there : placing.program.body_of frame.item ≡ Some i.here.body
    there = ap placing.program.body_of i.first.item ∙ standing_body placing m.pc i.here i.is

    at : frame.address ≡ register m 2
    at = i.first.address

    one : IsOneOf placing.program (register m 2) i.here.body (lowest placing.program state.frames) state.frames
    one =
        subst (λ fs. IsOneOf placing.program (register m 2) i.here.body (lowest placing.program fs) fs) (sym frames)
        (subst (λ x. IsOneOf placing.program x i.here.body frame.address (frame ∷ below)) at
        (IsFirst frame below there))

    room : HasRoom placing (register m 2) i.here.body
    room = room_of placing state.frames (register m 2) i.here.body is stands.bounds.frames one

    ones : AreOnes placing.program (frame.address + fits.stacked.0.frame) below rest
    ones = ones_below placing m frame below i fits.stacked

    clear : AreClear p (length bytes) rest
    clear =
        clear_above placing p (length bytes) (frame.address + fits.stacked.0.frame) below rest ones
        (omega (arith, at, high))

    mine : IsClear p (length bytes) held
    mine = record { fixed = inl high; variables = λ slot variable fits. inl (omega (arith, high)) }

    lowest_is : register m 26 ≡ placing.program.heap_begin + placing.program.heap_bound
    lowest_is = stands.serves.lowest

    above : placing.lowest_data ≤ p
    above = let behind : placing.lowest_data ≤ placing.program.heap_begin = is.heap_behind_data in
        omega (arith, low, lowest_is, behind)

    heap : 0 < register m 26 - register m 27
        → AreApart p (length bytes) (register m 27) (register m 26 - register m 27)
    heap left = let order : register m 27 ≤ register m 26 = stands.serves.clear.order in
        inr (omega (arith, order, low))

    outer : AreApart p (length bytes) (outermost frame.address below) 8
    outer =
        let found = outer_one placing.program frame.address frame below fits.stacked in
        let least : frame.address ≤ outermost frame.address below =
        at_least placing.program (outermost frame.address below) found.0 frame.address (frame ∷ below) found.1 in
        inl (omega (arith, at, high, least))

    spot : stands_at placing new.pc
        ≡ Some (record { item = i.here.item; body = i.here.body; place = place })
    spot = ap (stands_at placing) pc ∙ i.is

    both : IsOn placing m new i.here rest place × HaveSame m new rest
    both =
        on_written placing state m new frame below place p bytes is stands frames i spot writes keeps registers above
        small
        heap (inl high) room clear

    have : HaveSame m new (held ∷ rest)
    have = (variables_same placing m new p bytes held is stands.serves.memory room writes mine, both.1)

    beyond_is : (y : ℕ) → beyond new (held_in placing new) y ≡ beyond m (held_in placing m) y
    beyond_is y =
        ap (λ hs. beyond new hs y) (held_on placing m new frame below place i both.0)
        ∙ ap (λ hs. beyond new (held_at (record { item = i.here.item; body = i.here.body; place = place })
        (register m 2) hs ∷ rest) y) (homes_same m new keeps)
        ∙ beyond_spot new i.here place (register m 2) (homes_in m) rest y
        ∙ beyond_same m new (held ∷ rest) have y
        ∙ ap (λ hs. beyond m hs y) (sym (held_is placing m frame below i))

    outside : (x : ℕ) → (x < p) ⊎ (p + length bytes ≤ x)
        → CellTellsNoMore (state.memory x) (memory_in placing new x)
    outside x apart = by (nat_lt x addresses) refl (memory_told placing state m stands x)
      where
        by : (t : Bool) → nat_lt x addresses ≡ t
            → CellTellsNoMore (state.memory x) (memory_in placing m x)
            → CellTellsNoMore (state.memory x) (memory_in placing new x)
        by true t told_there =
            subst (λ u. CellTellsNoMore (state.memory x)
            (cond u (cell_of (byte_in new.segments x)) (beyond new (held_in placing new) (x - addresses)))) (sym t)
            (cell_kept m new p bytes writes x apart (state.memory x)
            (subst (λ u. CellTellsNoMore (state.memory x)
            (cond u (cell_of (byte_in m.segments x)) (beyond m (held_in placing m) (x - addresses)))) t told_there))
        by false t told_there =
            subst (λ u. CellTellsNoMore (state.memory x)
            (cond u (cell_of (byte_in new.segments x)) (beyond new (held_in placing new) (x - addresses)))) (sym t)
            (subst (CellTellsNoMore (state.memory x)) (sym (beyond_is (x - addresses)))
            (subst (λ u. CellTellsNoMore (state.memory x)
            (cond u (cell_of (byte_in m.segments x)) (beyond m (held_in placing m) (x - addresses)))) t told_there))

    lowest_frame : lowest placing.program state.frames ≡ register m 2
    lowest_frame = ap (lowest placing.program) frames ∙ at

    inside : (x : ℕ) → p ≤ x → x < p + length bytes → CellTellsNoMore (state.memory x) (memory_in placing new x)
    inside x from upto =
        let within : register m 2 + i.here.body.frame ≤ placing.program.stack_end = room.within in
        not_own (state.memory x) (memory_in placing new x)
        (none_between placing state x is stands.bounds (omega (arith, from, low, lowest_is))
        (omega (arith, upto, high, lowest_frame)) (omega (arith, upto, high, within)))

    told : MemoryTellsNoMore state.memory (memory_in placing new)
    told x =
        elim (three_places x p (length bytes))
        as (λ _. CellTellsNoMore (state.memory x) (memory_in placing new x)) [
          | inl before ↦ outside x (inl before)
          | inr (inl within_it) ↦ inside x within_it.0 within_it.1
          | inr (inr behind) ↦ outside x (inr behind)
        ]

-- A machine whose innermost frame is gone, and which stands where the frame below waits.
use Rattle.std.proofs.Common.{◌≡◌, ◌∙◌, ℕ, zero, suc, ◌+◌, ◌-◌, ◌<◌, ◌≤◌, Bool, true, false, not, cond, ◌&&◌, ◌||◌}
use Rattle.std.proofs.Common.{List, [], ◌∷◌, map, Option, Some, None, arith, refl, ap, sym, subst, nat_lt, nat_le}
use Rattle.std.specs.List.{AllZip, list_any}
use Rattle.std.proofs.lemmas.Bool.Decides.{nat_tests}
use Rattle.byteorder.specs.Endian.{little_bytes}
use Rattle.num_core.specs.declared.fix.FixKind.TheVariants.{Routine}
use Rattle.rv_step.specs.Machine.{MachineState, register}
use Rattle.rv_step.specs.Memory.{Number, byte_in}
use Rattle.rv_code.specs.Registers.{HasRegisters}
use Rattle.rv_code.proofs.Going.{same_bytes}
use Rattle.lir_core.specs.Calls.{lowest}
use Rattle.lir_core.specs.Layout.{AreStacked, FramesFit}
use Rattle.lir_core.specs.Memory.{Byte, FlatMemory, Missing, is_own}
use Rattle.lir_core.specs.Program.{WordProgram}
use Rattle.lir_core.specs.Slots.{addresses, is_of_frame, is_of_slots, is_variable, slot_at, without_frame}
use Rattle.lir_core.specs.State.{Frame, WordState}
use Rattle.lir_core.specs.Tells.{CellTellsNoMore, FrameTellsNoMore, MemoryTellsNoMore}
use Rattle.lir_core.specs.declared.body.LirBody.{LirBody}
use Rattle.rt_code.specs.Effects.{number_of}
use Rattle.rt_code.specs.declared.routines.Routine.TheVariants.{Start}
use Rattle.rv_lines.specs.Frame.{return_at}
use Rattle.rv_words.specs.Placing.{Placing}
use Rattle.rv_words.specs.Stands.{IsInBounds, Stands, is_of, is_of_body, may_be_own, outermost}
use Rattle.rv_words.specs.Words.{Held, Spot, beyond, caller_of, cell_of, frame_of, has_variable, held_from, held_in}
use Rattle.rv_words.specs.Words.{homes_below, memory_in, stands_at, variable_byte, waits_at, word_at, words}
use Rattle.rv_words.proofs.Kept.{all_have_same, all_same, beyond_same, frames_same, held_same}
use Rattle.rv_words.proofs.Moved.{clear_same, program_same}
use Rattle.rv_words.proofs.Owning.{some_body}
use Rattle.rv_words.proofs.Standing.{InnerIn, held_at, held_is, homes_in, rest_of}

-- ---- how many frames may be looked for

-- a frame that there is begins in front of the stack's end
abbrev pub IsInStack : Placing → Option Spot → ℕ → Type 0
IsInStack placing None address = Unit {0}
IsInStack placing (Some spot) address = address < placing.program.stack_end

is_below : (a b : ℕ) → nat_lt a b ≡ true → a < b
is_below a b t = grind (arith, nat_tests)

pub caller_in : (placing : Placing) (m : MachineState) (held : Held)
    → IsInStack placing (caller_of placing m held) (held.address + held.spot.body.frame)
caller_in placing m held = by (nat_lt (held.address + held.spot.body.frame) placing.program.stack_end) refl
  where
    inside : (o : Option Spot) → held.address + held.spot.body.frame < placing.program.stack_end
        → IsInStack placing o (held.address + held.spot.body.frame)
    inside None h = tt
    inside (Some spot) h = h

    by : (b : Bool) → nat_lt (held.address + held.spot.body.frame) placing.program.stack_end ≡ b
        → IsInStack placing (cond b (waits_at placing (word_at m (held.address + return_at))) None)
        (held.address + held.spot.body.frame)
    by true t =
        inside (waits_at placing (word_at m (held.address + return_at)))
        (is_below (held.address + held.spot.body.frame) placing.program.stack_end t)
    by false t = tt

-- So it makes no difference where as many may be as bytes are left.
pub held_fuel : (n n' : ℕ) (placing : Placing) (m : MachineState) (spot : Option Spot) (address : ℕ) (homes : List ℕ)
    → IsInStack placing spot address → placing.program.stack_end ≤ address + n
    → placing.program.stack_end ≤ address + n'
    → held_from n placing m spot address homes ≡ held_from n' placing m spot address homes
held_fuel zero zero placing m spot address homes inside h h' = refl
held_fuel zero (suc n') placing m None address homes inside h h' = refl
held_fuel zero (suc n') placing m (Some spot) address homes inside h h' =
    let low : address < placing.program.stack_end = inside in
    absurd (omega (arith, low, h))
held_fuel (suc n) zero placing m None address homes inside h h' = refl
held_fuel (suc n) zero placing m (Some spot) address homes inside h h' =
    let low : address < placing.program.stack_end = inside in
    absurd (omega (arith, low, h'))
held_fuel (suc n) (suc n') placing m None address homes inside h h' = refl
held_fuel (suc n) (suc n') placing m (Some spot) address homes inside h h' =
    let held : Held = record { spot = spot; address = address; homes = homes } in
    let least : 192 ≤ spot.body.frame = spot.body.frame_size.least in
    ap (λ hs. held ∷ hs)
    (held_fuel n n' placing m (caller_of placing m held) (address + spot.body.frame) (homes_below m held)
    (caller_in placing m held) (omega (arith, h, least)) (omega (arith, h', least)))

-- ---- the frames

-- The innermost frame is gone, and the machine stands at the operation at which the one below it waits. Memory is as
-- before, and the homes are as they were saved.
pub record IsPopped (placing : Placing) (m new : MachineState) (held : Held) (caller : Spot) : Type 0 where
  pub waits : caller_of placing m held ≡ Some caller
  pub spot : stands_at placing new.pc ≡ Some caller
  pub address : register new 2 ≡ held.address + held.spot.body.frame
  pub homes : homes_in new ≡ homes_below m held
  pub lowest : register new 26 ≡ register m 26
  pub heap : register new 27 ≡ register m 27
  pub registers : HasRegisters new
  pub memory : new.segments ≡ m.segments

-- The frames that it holds are those that were below.
pub held_popped : (placing : Placing) (m new : MachineState) (held : Held) (caller : Spot) (count : ℕ)
    → IsPopped placing m new held caller → placing.program.stack_end ≤ held.address + suc count
    → held_in placing new ≡ rest_of count placing m held
held_popped placing m new held caller count p fuel =
    let end : ℕ = placing.program.stack_end in
    let a : ℕ = held.address + held.spot.body.frame in
    let hs : List ℕ = homes_below m held in
    let least : 192 ≤ held.spot.body.frame = held.spot.body.frame_size.least in
    ap (λ x. held_from (end - x) placing new (stands_at placing new.pc) x (homes_in new)) p.address
    ∙ ap (λ h. held_from (end - a) placing new (stands_at placing new.pc) a h) p.homes
    ∙ ap (λ s. held_from (end - a) placing new s a hs) (p.spot ∙ sym p.waits)
    ∙ held_same (end - a) placing m new (caller_of placing m held) a hs
    (all_same m new (held_from (end - a) placing m (caller_of placing m held) a hs) p.memory)
    ∙ held_fuel (end - a) count placing m (caller_of placing m held) a hs (caller_in placing m held)
    (omega arith) (omega (arith, fuel, least))

-- ---- the state

-- the program without its innermost frame
abbrev pub popped : WordState → List Frame → LirBody → ℕ → WordState
popped state below body address =
    record state { frames = below; memory = without_frame body address state.memory }

fuel_is : (end address count : ℕ) → end - address ≡ suc count → end ≤ address + suc count
fuel_is end address count e = omega (arith, e)

memory_popped : (placing : Placing) (m new : MachineState) (frame : Frame) (below : List Frame) (caller : Spot)
    (memory : FlatMemory) → (i : InnerIn placing m frame below)
    → IsPopped placing m new (held_at i.here (register m 2) (homes_in m)) caller
    → MemoryTellsNoMore memory (memory_in placing m)
    → MemoryTellsNoMore (without_frame i.here.body (register m 2) memory) (memory_in placing new)
memory_popped placing m new frame below caller memory i p told x =
    by (nat_lt x addresses) refl (is_of_frame i.here.body (register m 2) x) refl
  where
    held : Held
    held = held_at i.here (register m 2) (homes_in m)

    rest : List Held
    rest = rest_of i.count placing m held

    y : ℕ
    y = x - addresses

    none : nat_lt x addresses ≡ false → is_of_frame i.here.body (register m 2) x ≡ false → has_variable held y ≡ false
    none e e' =
        sym (ap (λ b. cond b (is_of_slots i.here.body (register m 2) x
        && not (is_variable i.here.body (slot_at (register m 2) x))) (has_variable held y)) e) ∙ e'

    beyond_is : has_variable held y ≡ false
        → beyond new (held_in placing new) y ≡ beyond m (held_in placing m) y
    beyond_is e =
        ap (λ hs. beyond new hs y)
        (held_popped placing m new held caller i.count p
        (fuel_is placing.program.stack_end (register m 2) i.count i.fuel))
        ∙ beyond_same m new rest (all_have_same m new rest p.memory) y
        ∙ sym (ap (λ hs. beyond m hs y) (held_is placing m frame below i)
        ∙ ap (λ b. cond b (Byte (variable_byte m held y)) (beyond m rest y)) e)

    by : (t : Bool) → nat_lt x addresses ≡ t → (o : Bool) → is_of_frame i.here.body (register m 2) x ≡ o
        → CellTellsNoMore (cond o Missing (memory x)) (memory_in placing new x)
    by t e true e' = tt
    by true e false e' =
        subst (CellTellsNoMore (memory x))
        (ap (λ b. cond b (cell_of (byte_in m.segments x)) (beyond m (held_in placing m) y)) e
        ∙ ap (λ ss. cell_of (byte_in ss x)) (sym p.memory)
        ∙ sym (ap (λ b. cond b (cell_of (byte_in new.segments x)) (beyond new (held_in placing new) y)) e)) (told x)
    by false e false e' =
        subst (CellTellsNoMore (memory x))
        (ap (λ b. cond b (cell_of (byte_in m.segments x)) (beyond m (held_in placing m) y)) e
        ∙ sym (beyond_is (none e e'))
        ∙ sym (ap (λ b. cond b (cell_of (byte_in new.segments x)) (beyond new (held_in placing new) y)) e)) (told x)

-- the frames below lie one behind the other, and nothing is the program's but what was and isn't the frame's
bounds_popped : (program : WordProgram) (state : WordState) (frame next : Frame) (others : List Frame) (body : LirBody)
    → state.frames ≡ frame ∷ next ∷ others → program.body_of frame.item ≡ Some body → IsInBounds program state
    → IsInBounds program (popped state (next ∷ others) body frame.address)
bounds_popped program state frame next others body frames there bounds = record {
  frames = record {
    stacked = subst (λ a. AreStacked program a (next ∷ others)) (sym at) fits.stacked.3;
    within = omega (arith, at, within);
  };
  heap = bounds.heap;
  memory = λ x own. by x (is_of_frame body frame.address x) refl own;
}
  where
    fits : FramesFit program (frame ∷ next ∷ others)
    fits = subst (FramesFit program) frames bounds.frames

    within : program.stack_end ≤ frame.address + program.stack_bound
    within = fits.within

    at : next.address ≡ frame.address + fits.stacked.0.frame
    at = fits.stacked.3.2

    by : (x : ℕ) (o : Bool) → is_of_frame body frame.address x ≡ o → is_own (cond o Missing (state.memory x)) ≡ true
        → may_be_own program (popped state (next ∷ others) body frame.address) x ≡ true
    by x true e own = absurd (let no : false ≡ true = own in cc)
    by x false e own =
        let is : Bool = is_own (program.image x)
        || (nat_le program.heap_begin x && nat_lt x (program.heap_begin + state.heap_used)) in
        let mine : is_of program x frame ≡ false = ap (λ o. is_of_body o frame.address x) there ∙ e in
        sym (ap (λ fs. is || list_any (is_of program x) fs) frames
        ∙ ap (λ b. is || (b || list_any (is_of program x) (next ∷ others))) mine)
        ∙ bounds.memory x own

-- It stands where the program does that has lost its innermost frame.
pub stands_popped : (placing : Placing) (state : WordState) (m new : MachineState) (frame : Frame) (below : List Frame)
    (next : Frame) (others : List Frame) (caller : Spot) → below ≡ next ∷ others → (stands : Stands placing state m)
    → (frames : state.frames ≡ frame ∷ below) → (i : InnerIn placing m frame below)
    → placing.program.body_of frame.item ≡ Some i.here.body
    → IsPopped placing m new (held_at i.here (register m 2) (homes_in m)) caller
    → Stands placing (popped state below i.here.body (register m 2)) new
unfolding words
stands_popped placing state m new frame below next others caller some stands frames i there p = record {
  tells = record {
    frames = subst (λ hs. AllZip FrameTellsNoMore below (map (frame_of new) hs)) (sym held_new)
        (subst (AllZip FrameTellsNoMore below) (sym (frames_same m new rest (all_same m new rest p.memory))) i.others);
    memory = memory_popped placing m new frame below caller state.memory i p stands.tells.memory;
    heap_used = stands.tells.heap_used ∙ ap (λ n. n - placing.program.heap_begin) (sym p.heap);
    under_way = stands.tells.under_way;
  };
  serves = record {
    registers = p.registers;
    memory = program_same placing m new p.memory stands.serves.memory;
    lowest = p.lowest ∙ stands.serves.lowest;
    heap = subst (λ n. placing.program.heap_begin ≤ n) (sym p.heap) stands.serves.heap;
    clear = clear_same m new p.memory p.lowest p.heap stands.serves.clear;
  };
  bounds = subst (λ fs. IsInBounds placing.program (popped state fs i.here.body (register m 2))) (sym some)
      (subst (λ a. IsInBounds placing.program (popped state (next ∷ others) i.here.body a)) i.first.address
      (bounds_popped placing.program state frame next others i.here.body all there stands.bounds));
  start = λ address is. subst (λ fs. Number new (outermost (lowest placing.program fs) fs) 8 (address + 64)) (sym some)
      (same_bytes m new (outermost next.address others) (little_bytes 8 (address + 64)) p.memory (start address is));
}
  where
    rest : List Held
    rest = rest_of i.count placing m (held_at i.here (register m 2) (homes_in m))

    all : state.frames ≡ frame ∷ next ∷ others
    all = frames ∙ ap (λ fs. frame ∷ fs) some

    held_new : held_in placing new ≡ rest
    held_new =
        held_popped placing m new (held_at i.here (register m 2) (homes_in m)) caller i.count p
        (fuel_is placing.program.stack_end (register m 2) i.count i.fuel)

    start : (address : ℕ) → placing.program.address_of Routine (number_of Start) ≡ Some address
        → Number m (outermost next.address others) 8 (address + 64)
    start address is =
        subst (λ fs. Number m (outermost (lowest placing.program fs) fs) 8 (address + 64)) all
        (stands.start address is)

-- What stays of the frames where a machine has written to memory.
use Rattle.std.proofs.Common.{◌≡◌, ◌∙◌, ◌⊎◌, inl, inr, ℕ, ◌+◌, ◌-◌, ◌*◌, ◌<◌, ◌≤◌, true, All}
use Rattle.std.proofs.Common.{List, [], ◌∷◌, length, drop, replicate, Option, Some, arith, ap, sym, subst}
use Rattle.std.proofs.Common.{zero, suc}
use Rattle.std.proofs.Common.{slice_index}
use Rattle.std.proofs.lemmas.List.{length-replicate}
use Rattle.rv_step.specs.Machine.{MachineState, bytes_at, register}
use Rattle.rv_step.specs.Memory.{AreApart, Bytes, MayRead, Writes, byte_in}
use Rattle.rv_step.proofs.Addresses.{allowed_within, at_each, read_bytes, readable}
use Rattle.rv_code.specs.Registers.{HasRegisters}
use Rattle.rv_code.proofs.Going.{code_kept}
use Rattle.lir_core.specs.Calls.{lowest}
use Rattle.lir_core.specs.Frame.{fixed_bytes}
use Rattle.lir_core.specs.Layout.{AreStacked, FramesFit}
use Rattle.lir_core.specs.Slots.{is_variable}
use Rattle.lir_core.specs.State.{Frame, WordState}
use Rattle.rt_code.specs.Code.{code_of as routine_code}
use Rattle.rt_code.specs.Conventions.{HasClearHeap, scratch_at}
use Rattle.rv_gen.specs.Placing.{code_of}
use Rattle.rv_lines.specs.Frame.{slot_place}
use Rattle.rv_words.specs.Linked.{linked}
use Rattle.rv_words.specs.Placing.{HasProgram, IsPlacing, Placing, data_bytes}
use Rattle.rv_words.specs.Stands.{Stands}
use Rattle.rv_words.specs.Words.{Held, caller_of, homes_below, homes_of, stands_at}
use Rattle.rv_words.proofs.Holding.{AreOnes, all_held, all_ones, caller_body, later_ones}
use Rattle.rv_words.proofs.Kept.{AreSame, HasSame, HaveSame, IsSame, word_kept}
use Rattle.rv_words.proofs.Moved.{KeepsOwn, homes_same}
use Rattle.rv_words.proofs.Room.{HasRoom, may_read, room_of}
use Rattle.rv_words.proofs.Sites.{linked_length}
use Rattle.rv_words.proofs.Standing.{InnerIn, IsOn, held_at, homes_in, rest_of}

-- What is written meets no fixed word of a frame, and no address of a variable.
pub record IsClear (p count : ℕ) (held : Held) : Type 0 where
  pub fixed : AreApart p count held.address fixed_bytes
  pub variables : (slot : ℕ) → is_variable held.spot.body slot ≡ true → slot_place slot + 8 ≤ held.spot.body.frame
      → AreApart p count (held.address + slot_place slot) 8

abbrev pub AreClear : ℕ → ℕ → List Held → Type 0
AreClear p count [] = Unit {0}
AreClear p count (held ∷ others) = IsClear p count held × AreClear p count others

apart_part : (p n a k : ℕ) → 8 * k + 8 ≤ 96 → AreApart p n a 96 → AreApart p n (a + 8 * k) 8
apart_part p n a k h (inl low) = inl (omega (arith, low))
apart_part p n a k h (inr high) = inr (omega (arith, high, h))

-- and so not those in front of the bytes for routines
pub apart_front : (p n a : ℕ) → AreApart p n a 128 → AreApart p n a 96
apart_front p n a (inl low) = inl low
apart_front p n a (inr high) = inr (omega (arith, high))

pub fixed_same : (placing : Placing) (m new : MachineState) (p : ℕ) (bytes : List ℕ) (held : Held) → IsPlacing placing
    → HasProgram placing m → HasRoom placing held.address held.spot.body → Writes p bytes m new
    → AreApart p (length bytes) held.address scratch_at → IsSame m new held
fixed_same placing m new p bytes held is has room writes apart =
    let size : 192 ≤ held.spot.body.frame = held.spot.body.frame_size.least in
    record {
      fixed = λ k h. word_kept m new p bytes (held.address + 8 * k) has.segments
          (may_read placing m held.address held.spot.body (held.address + 8 * k) 8 is has room (omega arith)
          (omega (arith, h, size)))
          writes (apart_part p (length bytes) held.address k h apart);
    }

pub variables_same : (placing : Placing) (m new : MachineState) (p : ℕ) (bytes : List ℕ) (held : Held)
    → IsPlacing placing → HasProgram placing m → HasRoom placing held.address held.spot.body → Writes p bytes m new
    → IsClear p (length bytes) held → HasSame m new held
variables_same placing m new p bytes held is has room writes clear = record {
  variables = λ slot variable fits. word_kept m new p bytes (held.address + slot_place slot) has.segments
      (may_read placing m held.address held.spot.body (held.address + slot_place slot) 8 is has room (omega arith)
      (omega (arith, fits)))
      writes (clear.variables slot variable fits);
}

pub all_kept : (placing : Placing) (m new : MachineState) (p : ℕ) (bytes : List ℕ) (frames : List Frame)
    (helds : List Held) → IsPlacing placing → HasProgram placing m → FramesFit placing.program frames
    → AreOnes placing.program (lowest placing.program frames) frames helds → Writes p bytes m new
    → AreClear p (length bytes) helds → AreSame m new helds × HaveSame m new helds
all_kept placing m new p bytes frames [] is has fits ones writes clear = (tt, tt)
all_kept placing m new p bytes frames (held ∷ helds) is has fits ones writes clear =
    let room : HasRoom placing held.address held.spot.body =
    room_of placing frames held.address held.spot.body is fits ones.0 in
    let rest = all_kept placing m new p bytes frames helds is has fits ones.1 writes clear.1 in (
      (
        fixed_same placing m new p bytes held is has room writes
            (apart_front p (length bytes) held.address clear.0.fixed),
        rest.0,
      ),
      (variables_same placing m new p bytes held is has room writes clear.0, rest.1),
    )

-- ---- the frames below the innermost one

pub ones_below : (placing : Placing) (m : MachineState) (frame : Frame) (below : List Frame)
    → (i : InnerIn placing m frame below) → (stacked : AreStacked placing.program frame.address (frame ∷ below))
    → AreOnes placing.program (frame.address + stacked.0.frame) below
    (rest_of i.count placing m (held_at i.here (register m 2) (homes_in m)))
ones_below placing m frame below i stacked =
    let held : Held = held_at i.here (register m 2) (homes_in m) in
    all_ones placing.program (frame.address + stacked.0.frame) below (rest_of i.count placing m held) stacked.3
    (all_held i.count placing m (caller_of placing m held) (register m 2 + i.here.body.frame) (homes_below m held) below
    (caller_body placing m held) i.others)

pub ones_of_all : (placing : Placing) (m : MachineState) (frame : Frame) (below : List Frame)
    → (i : InnerIn placing m frame below) → AreStacked placing.program frame.address (frame ∷ below)
    → AreOnes placing.program frame.address (frame ∷ below)
    (rest_of i.count placing m (held_at i.here (register m 2) (homes_in m)))
ones_of_all placing m frame below i stacked =
    later_ones placing.program frame.address frame below stacked.0 stacked.1
    (rest_of i.count placing m (held_at i.here (register m 2) (homes_in m))) (ones_below placing m frame below i
    stacked)

-- ---- what stands in memory all the time

same_address : (a b : ℕ) → Some a ≡ Some b → a ≡ b
same_address a b e = cc

same_byte : (a b : ℕ) (o : Option ℕ) → o ≡ Some a → o ≡ Some b → a ≡ b
same_byte a b o e e' = same_address a b (sym e ∙ e')

three_ways : (x p n : ℕ) → (x < p) ⊎ ((p + n ≤ x) ⊎ ((p ≤ x) × (x < p + n)))
three_ways x p n = grind arith

-- a byte elsewhere is the one that was there
byte_kept : (placing : Placing) (m new : MachineState) (p x byte : ℕ) (bytes : List ℕ) → HasProgram placing m
    → Writes p bytes m new → placing.lowest_data ≤ x → x < placing.lowest_data + data_bytes placing
    → AreApart p (length bytes) x 1 → byte_in new.segments x ≡ Some byte → byte < 256
byte_kept placing m new p x byte bytes has writes low high apart there = one found.0 found.2 old
  where
    may : MayRead m x 1
    may =
        allowed_within (λ s. s.read) placing.lowest_data (data_bytes placing) x 1 m.segments low (omega (arith, high))
        has.read

    found : (xs : List ℕ) × (bytes_at (λ s. s.read) x 1 m.segments ≡ Some xs) × (length xs ≡ 1)
    found = readable (λ s. s.read) x 1 m.segments may

    old : Bytes m x found.0
    old = read_bytes (λ s. s.read) m x 1 found.0 has.segments found.1 found.2

    one : (xs : List ℕ) → length xs ≡ 1 → Bytes m x xs → byte < 256
    one [] size here = absurd (omega (arith, size))
    one (b ∷ []) size here =
        let now : Bytes new x (b ∷ []) = writes.kept x (b ∷ []) apart here in
        let same : b ≡ byte = same_byte b byte (byte_in new.segments x) now.0 there in
        subst (λ n. n < 256) same (has.small x b low high here.0)
    one (b ∷ c ∷ xs) size here = absurd (omega (arith, size))

pub program_written : (placing : Placing) (m new : MachineState) (p : ℕ) (bytes : List ℕ) → IsPlacing placing
    → HasProgram placing m → Writes p bytes m new → placing.lowest_data ≤ p → All (λ b. b < 256) bytes
    → HasProgram placing new
program_written placing m new p bytes is has writes above small = record {
  segments = writes.segments;
  code = λ item begin body there there'.
      let below : begin + 4 * length (code_of body) ≤ placing.lowest_data =
      (is.bodies item begin body there there').below_data in
      code_kept begin (linked placing.program begin body) p bytes m new (has.code item begin body there there') writes
      (inr (omega (arith, below, above, linked_length placing.program begin body)));
  routines = λ which address there.
      let placed = is.routines which in
      let same : placed.0 ≡ address = same_address placed.0 address (sym placed.1 ∙ there) in
      let below : placed.0 + 4 * length (routine_code which) ≤ placing.lowest_data = placed.2 in
      code_kept address (routine_code which) p bytes m new (has.routines which address there) writes
      (inr (omega (arith, below, above, same)));
  first_words = λ item begin body there there'.
      (writes.allows begin 4).read ∙ has.first_words item begin body there there';
  read = (writes.allows placing.lowest_data (data_bytes placing)).read ∙ has.read;
  write = (writes.allows placing.lowest_data (data_bytes placing)).write ∙ has.write;
  small = λ x byte low high there. elim (three_ways x p (length bytes)) as (λ _. byte < 256) [
    | inl before ↦ byte_kept placing m new p x byte bytes has writes low high (inr (omega (arith, before))) there
    | inr (inl behind) ↦ byte_kept placing m new p x byte bytes has writes low high (inl behind) there
    | inr (inr inside) ↦
        let d : ℕ = x - p in
        let less : d < length bytes = omega (arith, inside.0, inside.1) in
        let now : byte_in new.segments x ≡ Some (slice_index bytes d) =
        at_each new p bytes writes.written x inside.0 inside.1 in
        subst (λ n. n < 256) (same_byte (slice_index bytes d) byte (byte_in new.segments x) now there) (small d 0 less)
  ];
}

zeros_written : (m new : MachineState) (p a k : ℕ) (bytes : List ℕ) → Writes p bytes m new
    → (0 < k → AreApart p (length bytes) a k) → Bytes m a (replicate k 0) → Bytes new a (replicate k 0)
zeros_written m new p a zero bytes writes apart zeros = tt
zeros_written m new p a (suc k) bytes writes apart zeros =
    let count : length (replicate (suc k) 0) ≡ suc k = length-replicate (suc k) 0 in
    writes.kept a (replicate (suc k) 0)
    (subst (λ n. AreApart p (length bytes) a n) (sym count) (apart (omega arith))) zeros

pub clear_written : (m new : MachineState) (p : ℕ) (bytes : List ℕ) → Writes p bytes m new
    → register new 26 ≡ register m 26 → register new 27 ≡ register m 27
    → (0 < register m 26 - register m 27 → AreApart p (length bytes) (register m 27) (register m 26 - register m 27))
    → HasClearHeap m → HasClearHeap new
clear_written m new p bytes writes lowest_same heap apart clear =
    let size : register new 26 - register new 27 ≡ register m 26 - register m 27 =
    ap (λ n. n - register new 27) lowest_same ∙ ap (λ n. register m 26 - n) heap in
    record {
      order = subst (λ n. n ≤ register new 26) (sym heap)
          (subst (λ n. register m 27 ≤ n) (sym lowest_same) clear.order);
      zeros = subst (λ a. Bytes new a (replicate (register new 26 - register new 27) 0)) (sym heap)
          (subst (λ n. Bytes new (register m 27) (replicate n 0)) (sym size)
          (zeros_written m new p (register m 27) (register m 26 - register m 27) bytes writes apart clear.zeros));
    }

-- ---- the machine is on

pub on_written : (placing : Placing) (state : WordState) (m new : MachineState) (frame : Frame) (below : List Frame)
    (place p : ℕ) (bytes : List ℕ) → IsPlacing placing → Stands placing state m → state.frames ≡ frame ∷ below
    → (i : InnerIn placing m frame below)
    → stands_at placing new.pc ≡ Some (record { item = i.here.item; body = i.here.body; place = place })
    → Writes p bytes m new → KeepsOwn m new → HasRegisters new → placing.lowest_data ≤ p → All (λ b. b < 256) bytes
    → (0 < register m 26 - register m 27 → AreApart p (length bytes) (register m 27) (register m 26 - register m 27))
    → AreApart p (length bytes) (register m 2) scratch_at
    → HasRoom placing (register m 2) i.here.body
    → AreClear p (length bytes) (rest_of i.count placing m (held_at i.here (register m 2) (homes_in m)))
    → IsOn placing m new i.here (rest_of i.count placing m (held_at i.here (register m 2) (homes_in m))) place
    × HaveSame m new (rest_of i.count placing m (held_at i.here (register m 2) (homes_in m)))
on_written placing state m new frame below place p bytes is stands frames i spot writes keeps registers above small
    heap fixed
    room clear =
    let rest : List Held = rest_of i.count placing m (held_at i.here (register m 2) (homes_in m)) in
    let fits : FramesFit placing.program (frame ∷ below) = subst (FramesFit placing.program) frames
    stands.bounds.frames in
    let both : AreSame m new rest × HaveSame m new rest =
    all_kept placing m new p bytes (frame ∷ below) rest is stands.serves.memory fits
    (ones_of_all placing m frame below i fits.stacked) writes clear in (
      record {
        spot = spot;
        address = keeps.frame;
        lowest = keeps.lowest;
        heap = keeps.heap;
        homes = ap (drop (homes_of i.here.body)) (homes_same m new keeps);
        same = fixed_same placing m new p bytes (held_at i.here (register m 2) (homes_in m)) is stands.serves.memory
            room
            writes fixed;
        others = both.0;
        registers = registers;
        memory = program_written placing m new p bytes is stands.serves.memory writes above small;
        clear = clear_written m new p bytes writes keeps.lowest keeps.heap heap stands.serves.clear;
      },
      both.1,
    )

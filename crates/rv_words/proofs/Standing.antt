-- When a machine that goes on within a body stands where the program does next.
use Rattle.std.proofs.Common.{◌≡◌, ◌∙◌, ℕ, zero, suc, ◌+◌, ◌-◌, ◌≤◌, true, List, ◌∷◌}
use Rattle.std.proofs.Common.{map, drop, Option, Some, None, refl, ap, sym, subst, nat_lt}
use Rattle.std.specs.List.{AllZip}
use Rattle.rv_step.specs.Machine.{MachineState, register}
use Rattle.rv_step.specs.Memory.{Number}
use Rattle.rv_code.specs.Registers.{HasRegisters, listed}
use Rattle.lir_core.specs.Calls.{lowest}
use Rattle.std.specs.Prelude.{◌++◌, ◌||◌, ◌&&◌, nat_le}
use Rattle.std.specs.List.{list_any}
use Rattle.lir_core.specs.Layout.{AreStacked, FramesFit}
use Rattle.lir_core.specs.Program.{WordProgram}
use Rattle.lir_core.specs.Memory.{FlatMemory, is_own}
use Rattle.lir_core.specs.State.{Frame, WordState}
use Rattle.lir_core.specs.Tells.{FrameTellsNoMore, MemoryTellsNoMore, WordTellsNoMore}
use Rattle.rt_code.specs.Conventions.{HasClearHeap}
use Rattle.rv_lines.specs.Frame.{first_home, home_count}
use Rattle.rv_words.specs.Placing.{HasProgram, Placing, Serves}
use Rattle.rv_words.specs.Stands.{IsInBounds, ReturnsToStart, Stands, is_of, may_be_own, outermost}
use Rattle.rv_words.specs.Words.{Held, Spot, caller_of, frame_of, held_from, held_in}
use Rattle.rv_words.specs.Words.{homes_below, homes_of, memory_in, saved, stands_at, words}
use Rattle.rv_words.proofs.Kept.{AreSame, IsSame, below_same, caller_same, frame_same, frames_same}
use Rattle.rv_words.proofs.Kept.{held_same}

-- ---- the innermost frame in the machine

abbrev pub held_at : Spot → ℕ → List ℕ → Held
held_at spot address homes = record { spot = spot; address = address; homes = homes }

-- the frames below one
abbrev pub rest_of : ℕ → Placing → MachineState → Held → List Held
rest_of count placing m held =
    held_from count placing m (caller_of placing m held) (held.address + held.spot.body.frame) (homes_below m held)

-- Frames of which there is one: it is held, and so are those below it.
pub record Inner (placing : Placing) (m : MachineState) (n : ℕ) (spot : Option Spot) (address : ℕ) (homes : List ℕ)
    (frame : Frame) (below : List Frame) : Type 0 where
  pub count : ℕ
  pub fuel : n ≡ suc count
  pub here : Spot
  pub is : spot ≡ Some here
  pub first : FrameTellsNoMore frame (frame_of m (held_at here address homes))
  pub others : AllZip FrameTellsNoMore below (map (frame_of m) (rest_of count placing m (held_at here address homes)))

pub inner_of : (placing : Placing) (m : MachineState) (n : ℕ) (spot : Option Spot) (address : ℕ) (homes : List ℕ)
    (frame : Frame) (below : List Frame)
    → AllZip FrameTellsNoMore (frame ∷ below) (map (frame_of m) (held_from n placing m spot address homes))
    → Inner placing m n spot address homes frame below
inner_of placing m zero spot address homes frame below told = absurd told
inner_of placing m (suc n) None address homes frame below told = absurd told
inner_of placing m (suc n) (Some spot) address homes frame below told = record {
  count = n;
  fuel = refl;
  here = spot;
  is = refl;
  first = told.0;
  others = told.1;
}

-- the registers x18 to x25
abbrev pub homes_in : MachineState → List ℕ
homes_in m = listed (register m) first_home home_count

abbrev pub InnerIn : Placing → MachineState → Frame → List Frame → Type 0
InnerIn placing m frame below =
    Inner placing m (placing.program.stack_end - register m 2) (stands_at placing m.pc) (register m 2) (homes_in m)
    frame below

pub inner : (placing : Placing) (state : WordState) (m : MachineState) (frame : Frame) (below : List Frame)
    → Stands placing state m → state.frames ≡ frame ∷ below → InnerIn placing m frame below
unfolding words
inner placing state m frame below stands e =
    inner_of placing m (placing.program.stack_end - register m 2) (stands_at placing m.pc) (register m 2) (homes_in m)
    frame below
    (subst (λ frames. AllZip FrameTellsNoMore frames (map (frame_of m) (held_in placing m))) e stands.tells.frames)

-- what a machine holds where its innermost frame does
pub held_is : (placing : Placing) (m : MachineState) (frame : Frame) (below : List Frame)
    → (i : InnerIn placing m frame below)
    → held_in placing m
    ≡ held_at i.here (register m 2) (homes_in m) ∷ rest_of i.count placing m (held_at i.here (register m 2)
    (homes_in m))
held_is placing m frame below i =
    ap (λ n. held_from n placing m (stands_at placing m.pc) (register m 2) (homes_in m)) i.fuel
    ∙ ap (λ s. held_from (suc i.count) placing m s (register m 2) (homes_in m)) i.is

-- ---- a machine that has gone on to another place of the same body

-- It stands at an operation of the body, in the same frame. What frames and variables go by is as before, but for the
-- homes of the body itself.
pub record IsOn (placing : Placing) (m new : MachineState) (here : Spot) (rest : List Held) (place : ℕ) : Type 0 where
  pub spot : stands_at placing new.pc ≡ Some (record { item = here.item; body = here.body; place = place })
  pub address : register new 2 ≡ register m 2
  pub lowest : register new 26 ≡ register m 26
  pub heap : register new 27 ≡ register m 27
  pub homes : drop (homes_of here.body) (homes_in new) ≡ drop (homes_of here.body) (homes_in m)
  pub same : IsSame m new (held_at here (register m 2) (homes_in m))
  pub others : AreSame m new rest
  pub registers : HasRegisters new
  pub memory : HasProgram placing new
  pub clear : HasClearHeap new

-- the innermost frame as it is held then
abbrev pub held_now : MachineState → MachineState → Spot → ℕ → Held
held_now m new here place =
    held_at (record { item = here.item; body = here.body; place = place }) (register m 2) (homes_in new)

abbrev pub moved : ℕ → Frame → Frame
moved place frame = record frame { place = place }

-- the frames below it are held as before
rest_kept : (placing : Placing) (m new : MachineState) (here : Spot) (count place : ℕ)
    → IsOn placing m new here (rest_of count placing m (held_at here (register m 2) (homes_in m))) place
    → rest_of count placing new (held_now m new here place)
    ≡ rest_of count placing m (held_at here (register m 2) (homes_in m))
rest_kept placing m new here count place on =
    let held : Held = held_at here (register m 2) (homes_in m) in
    let below : ℕ = register m 2 + here.body.frame in
    let saved_there : homes_below new (held_now m new here place) ≡ homes_below m held =
    ap (λ hs. saved new (register m 2) (homes_of here.body) ++ hs) on.homes ∙ below_same m new held on.same in
    ap (λ c. held_from count placing new c below (homes_below new (held_now m new here place)))
    (caller_same placing m new held on.same)
    ∙ ap (held_from count placing new (caller_of placing m held) below) saved_there
    ∙ held_same count placing m new (caller_of placing m held) below (homes_below m held) on.others

-- all frames that the machine holds
pub held_on : (placing : Placing) (m new : MachineState) (frame : Frame) (below : List Frame) (place : ℕ)
    → (i : InnerIn placing m frame below)
    → IsOn placing m new i.here (rest_of i.count placing m (held_at i.here (register m 2) (homes_in m))) place
    → held_in placing new
    ≡ held_now m new i.here place ∷ rest_of i.count placing m (held_at i.here (register m 2) (homes_in m))
held_on placing m new frame below place i on =
    let spot : Spot = record { item = i.here.item; body = i.here.body; place = place } in
    ap (λ a. held_from (placing.program.stack_end - a) placing new (stands_at placing new.pc) a (homes_in new))
    on.address
    ∙ ap (λ n. held_from n placing new (stands_at placing new.pc) (register m 2) (homes_in new)) i.fuel
    ∙ ap (λ s. held_from (suc i.count) placing new s (register m 2) (homes_in new)) on.spot
    ∙ ap (λ hs. held_now m new i.here place ∷ hs) (rest_kept placing m new i.here i.count place on)

-- the frame is told as it was, but for its place
first_kept : (m new : MachineState) (frame : Frame) (here : Spot) (place : ℕ)
    → IsSame m new (held_at here (register m 2) (homes_in m))
    → FrameTellsNoMore frame (frame_of m (held_at here (register m 2) (homes_in m)))
    → FrameTellsNoMore (moved place frame) (frame_of new (held_now m new here place))
first_kept m new frame here place same told =
    let held : Held = held_at here (register m 2) (homes_in m) in
    let e : frame_of new held ≡ frame_of m held = frame_same m new held same in
    let word : (frame_of new held).dictionary ≡ (frame_of m held).dictionary = ap (λ f. f.dictionary) e in
    record {
      item = told.item;
      place = refl;
      address = told.address;
      dictionary = subst (WordTellsNoMore frame.dictionary) (sym word) told.dictionary;
      entered = told.entered;
    }

pub frames_on : (placing : Placing) (m new : MachineState) (frame : Frame) (below : List Frame) (place : ℕ)
    → (i : InnerIn placing m frame below)
    → IsOn placing m new i.here (rest_of i.count placing m (held_at i.here (register m 2) (homes_in m))) place
    → AllZip FrameTellsNoMore (moved place frame ∷ below) (map (frame_of new) (held_in placing new))
frames_on placing m new frame below place i on =
    let rest : List Held = rest_of i.count placing m (held_at i.here (register m 2) (homes_in m)) in
    let all : AllZip FrameTellsNoMore (moved place frame ∷ below)
    (map (frame_of new) (held_now m new i.here place ∷ rest)) = (
      first_kept m new frame i.here place on.same i.first,
      subst (AllZip FrameTellsNoMore below) (sym (frames_same m new rest on.others)) i.others,
    ) in
    subst (λ hs. AllZip FrameTellsNoMore (moved place frame ∷ below) (map (frame_of new) hs))
    (sym (held_on placing m new frame below place i on)) all

-- ---- the state

-- The program goes on at another place of its innermost frame's body, with this memory.
abbrev pub goes_on_at : WordState → Frame → List Frame → ℕ → FlatMemory → WordState
goes_on_at state frame below place memory =
    record state { frames = moved place frame ∷ below; memory = memory }

pub stands_on : (placing : Placing) (state : WordState) (m new : MachineState) (frame : Frame) (below : List Frame)
    (place : ℕ) (memory : FlatMemory) → (stands : Stands placing state m) → state.frames ≡ frame ∷ below
    → (i : InnerIn placing m frame below)
    → IsOn placing m new i.here (rest_of i.count placing m (held_at i.here (register m 2) (homes_in m))) place
    → MemoryTellsNoMore memory (memory_in placing new)
    → IsInBounds placing.program (goes_on_at state frame below place memory)
    → ReturnsToStart placing (goes_on_at state frame below place memory) new
    → Stands placing (goes_on_at state frame below place memory) new
unfolding words
stands_on placing state m new frame below place memory stands e i on told bounds start =
    let serves : Serves placing m = stands.serves in
    record {
      tells = record {
        frames = frames_on placing m new frame below place i on;
        memory = told;
        heap_used = stands.tells.heap_used ∙ ap (λ n. n - placing.program.heap_begin) (sym on.heap);
        under_way = stands.tells.under_way;
      };
      serves = record {
        registers = on.registers;
        memory = on.memory;
        lowest = on.lowest ∙ serves.lowest;
        heap = subst (λ n. placing.program.heap_begin ≤ n) (sym on.heap) serves.heap;
        clear = on.clear;
      };
      bounds = bounds;
      start = start;
    }

-- ---- bounds of states whose frames, heap and own places are the same

-- the frames fit wherever they stand
stacked_kept : (program : WordProgram) (address : ℕ) (frame : Frame) (below : List Frame) (place : ℕ)
    → AreStacked program address (frame ∷ below) → AreStacked program address (moved place frame ∷ below)
stacked_kept program address frame below place stacked = stacked

pub frames_fit_on : (program : WordProgram) (frame : Frame) (below : List Frame) (place : ℕ)
    → FramesFit program (frame ∷ below) → FramesFit program (moved place frame ∷ below)
frames_fit_on program frame below place fits = record { stacked = fits.stacked; within = fits.within }

-- and what is own is own of the same
own_kept : (program : WordProgram) (state : WordState) (frame : Frame) (below : List Frame) (place : ℕ)
    (memory : FlatMemory) → state.frames ≡ frame ∷ below → (p : ℕ)
    → may_be_own program (goes_on_at state frame below place memory) p ≡ may_be_own program state p
own_kept program state frame below place memory e p =
    ap (λ frames. is_own (program.image p)
    || (nat_le program.heap_begin p && nat_lt p (program.heap_begin + state.heap_used))
    || list_any (is_of program p) frames) (sym e)

pub bounds_on : (program : WordProgram) (state : WordState) (frame : Frame) (below : List Frame) (place : ℕ)
    (memory : FlatMemory) → state.frames ≡ frame ∷ below
    → ((p : ℕ) → is_own (memory p) ≡ true → is_own (state.memory p) ≡ true)
    → IsInBounds program state → IsInBounds program (goes_on_at state frame below place memory)
bounds_on program state frame below place memory e own bounds = record {
  frames = frames_fit_on program frame below place (subst (FramesFit program) e bounds.frames);
  heap = bounds.heap;
  memory = λ p is. own_kept program state frame below place memory e p ∙ bounds.memory p (own p is);
}

-- the outermost frame is where it was
pub start_on : (placing : Placing) (state : WordState) (m new : MachineState) (frame : Frame) (below : List Frame)
    (place : ℕ) (memory : FlatMemory) → state.frames ≡ frame ∷ below
    → ((address : ℕ) → Number m (outermost frame.address below) 8 (address + 64)
    → Number new (outermost frame.address below) 8 (address + 64))
    → ReturnsToStart placing state m → ReturnsToStart placing (goes_on_at state frame below place memory) new
start_on placing state m new frame below place memory e kept start address is =
    kept address
    (subst (λ frames. Number m (outermost (lowest placing.program frames) frames) 8 (address + 64)) e
    (start address is))

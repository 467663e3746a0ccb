-- A machine that has gone on to another operation of the same body, and has changed nothing that the program sees.
use Rattle.std.proofs.Common.{◌≡◌, ◌∙◌, ℕ, ◌+◌, ◌-◌, ◌<◌, ◌≤◌, List, [], ◌∷◌}
use Rattle.std.proofs.Common.{drop, replicate, Some, ap, sym, subst, cond, nat_lt}
use Rattle.byteorder.specs.Endian.{little_bytes}
use Rattle.rv_step.specs.Machine.{MachineState, register}
use Rattle.rv_step.specs.Memory.{Bytes, byte_in, is_allowed}
use Rattle.rv_step.specs.Segments.{AreSegments}
use Rattle.rv_code.specs.Registers.{HasRegisters}
use Rattle.rv_code.proofs.Going.{code_in_same_memory, same_bytes}
use Rattle.lir_core.specs.Slots.{addresses}
use Rattle.lir_core.specs.State.{Frame, WordState}
use Rattle.lir_core.specs.Tells.{CellTellsNoMore, MemoryTellsNoMore}
use Rattle.rt_code.specs.Code.{code_of as routine_code}
use Rattle.rt_code.specs.Conventions.{HasClearHeap}
use Rattle.rv_words.specs.Linked.{linked}
use Rattle.rv_words.specs.Placing.{HasProgram, Placing, data_bytes}
use Rattle.rv_words.specs.Stands.{Stands, outermost}
use Rattle.rv_words.specs.Words.{Held, Spot, beyond, cell_of, held_in, homes_of, memory_in, stands_at, words}
use Rattle.rv_words.proofs.Kept.{all_have_same, all_same, beyond_same, beyond_spot, listed_same}
use Rattle.rv_words.proofs.Standing.{InnerIn, IsOn, bounds_on, goes_on_at, held_at, held_is, held_on, homes_in}
use Rattle.rv_words.proofs.Standing.{rest_of, stands_on, start_on}

-- the registers that a program keeps its state in are as before
pub record KeepsOwn (m new : MachineState) : Type 0 where
  pub frame : register new 2 ≡ register m 2
  pub homes : (k : ℕ) → k < 8 → register new (18 + k) ≡ register m (18 + k)
  pub lowest : register new 26 ≡ register m 26
  pub heap : register new 27 ≡ register m 27

pub keeps_through : (m between new : MachineState) → KeepsOwn m between → KeepsOwn between new → KeepsOwn m new
keeps_through m between new a b = record {
  frame = b.frame ∙ a.frame;
  homes = λ k h. b.homes k h ∙ a.homes k h;
  lowest = b.lowest ∙ a.lowest;
  heap = b.heap ∙ a.heap;
}

pub homes_same : (m new : MachineState) → KeepsOwn m new → homes_in new ≡ homes_in m
homes_same m new keeps = listed_same (register m) (register new) 18 8 keeps.homes

-- what stands in a machine's memory stands in the same memory of another
pub program_same : (placing : Placing) (m new : MachineState) → new.segments ≡ m.segments → HasProgram placing m
    → HasProgram placing new
program_same placing m new e has = record {
  segments = subst AreSegments (sym e) has.segments;
  code = λ item begin body is is'.
      code_in_same_memory begin (linked placing.program begin body) m new (has.code item begin body is is') e;
  routines = λ which address is.
      code_in_same_memory address (routine_code which) m new (has.routines which address is) e;
  first_words = λ item begin body is is'.
      ap (λ ss. is_allowed (λ s. s.read) ss begin 4) e ∙ has.first_words item begin body is is';
  read = ap (λ ss. is_allowed (λ s. s.read) ss placing.lowest_data (data_bytes placing)) e ∙ has.read;
  write = ap (λ ss. is_allowed (λ s. s.write) ss placing.lowest_data (data_bytes placing)) e ∙ has.write;
  small = λ address byte low high is. has.small address byte low high (ap (λ ss. byte_in ss address) (sym e) ∙ is);
}

pub clear_same : (m new : MachineState) → new.segments ≡ m.segments → register new 26 ≡ register m 26
    → register new 27 ≡ register m 27 → HasClearHeap m → HasClearHeap new
clear_same m new e lowest heap clear =
    let size : register new 26 - register new 27 ≡ register m 26 - register m 27 =
    ap (λ n. n - register new 27) lowest ∙ ap (λ n. register m 26 - n) heap in
    record {
      order = subst (λ n. n ≤ register new 26) (sym heap)
          (subst (λ n. register m 27 ≤ n) (sym lowest) clear.order);
      zeros = subst (λ a. Bytes new a (replicate (register new 26 - register new 27) 0)) (sym heap)
          (subst (λ n. Bytes new (register m 27) (replicate n 0)) (sym size)
          (same_bytes m new (register m 27) (replicate (register m 26 - register m 27) 0) e clear.zeros));
    }

-- it is on
pub on_by : (placing : Placing) (m new : MachineState) (here : Spot) (rest : List Held) (place : ℕ)
    → stands_at placing new.pc ≡ Some (record { item = here.item; body = here.body; place = place })
    → new.segments ≡ m.segments → KeepsOwn m new → HasRegisters new → HasProgram placing m → HasClearHeap m
    → IsOn placing m new here rest place
on_by placing m new here rest place spot e keeps registers program clear = record {
  spot = spot;
  address = keeps.frame;
  lowest = keeps.lowest;
  heap = keeps.heap;
  homes = ap (drop (homes_of here.body)) (homes_same m new keeps);
  same = (all_same m new (held_at here (register m 2) (homes_in m) ∷ []) e).0;
  others = all_same m new rest e;
  registers = registers;
  memory = program_same placing m new e program;
  clear = clear_same m new e keeps.lowest keeps.heap clear;
}

-- and holds the same memory
beyond_kept : (placing : Placing) (m new : MachineState) (frame : Frame) (below : List Frame) (place : ℕ)
    → (i : InnerIn placing m frame below)
    → IsOn placing m new i.here (rest_of i.count placing m (held_at i.here (register m 2) (homes_in m))) place
    → new.segments ≡ m.segments → KeepsOwn m new → (address : ℕ)
    → beyond new (held_in placing new) address ≡ beyond m (held_in placing m) address
beyond_kept placing m new frame below place i on e keeps address =
    let rest : List Held = rest_of i.count placing m (held_at i.here (register m 2) (homes_in m)) in
    let spot : Spot = record { item = i.here.item; body = i.here.body; place = place } in
    ap (λ hs. beyond new hs address) (held_on placing m new frame below place i on)
    ∙ ap (λ hs. beyond new (held_at spot (register m 2) hs ∷ rest) address) (homes_same m new keeps)
    ∙ beyond_spot new i.here place (register m 2) (homes_in m) rest address
    ∙ beyond_same m new (held_at i.here (register m 2) (homes_in m) ∷ rest)
    (all_have_same m new (held_at i.here (register m 2) (homes_in m) ∷ rest) e) address
    ∙ ap (λ hs. beyond m hs address) (sym (held_is placing m frame below i))

pub memory_kept : (placing : Placing) (m new : MachineState) (frame : Frame) (below : List Frame) (place : ℕ)
    → (i : InnerIn placing m frame below)
    → IsOn placing m new i.here (rest_of i.count placing m (held_at i.here (register m 2) (homes_in m))) place
    → new.segments ≡ m.segments → KeepsOwn m new → (p : ℕ) → memory_in placing new p ≡ memory_in placing m p
memory_kept placing m new frame below place i on e keeps p =
    ap (λ ss. cond (nat_lt p addresses) (cell_of (byte_in ss p)) (beyond new (held_in placing new) (p - addresses))) e
    ∙ ap (λ c. cond (nat_lt p addresses) (cell_of (byte_in m.segments p)) c)
    (beyond_kept placing m new frame below place i on e keeps (p - addresses))

-- So it stands where the program does that has gone to that place.
pub stands_moved : (placing : Placing) (state : WordState) (m new : MachineState) (frame : Frame) (below : List Frame)
    (place : ℕ) → Stands placing state m → state.frames ≡ frame ∷ below → (i : InnerIn placing m frame below)
    → stands_at placing new.pc ≡ Some (record { item = i.here.item; body = i.here.body; place = place })
    → new.segments ≡ m.segments → KeepsOwn m new → HasRegisters new
    → Stands placing (goes_on_at state frame below place state.memory) new
unfolding words
stands_moved placing state m new frame below place stands frames i spot e keeps registers =
    let rest : List Held = rest_of i.count placing m (held_at i.here (register m 2) (homes_in m)) in
    let on : IsOn placing m new i.here rest place =
    on_by placing m new i.here rest place spot e keeps registers stands.serves.memory stands.serves.clear in
    let told : MemoryTellsNoMore state.memory (memory_in placing new) =
    λ p. subst (CellTellsNoMore (state.memory p)) (sym (memory_kept placing m new frame below place i on e keeps p))
    (stands.tells.memory p) in
    stands_on placing state m new frame below place state.memory stands frames i on told
    (bounds_on placing.program state frame below place state.memory frames (λ p own. own) stands.bounds)
    (start_on placing state m new frame below place state.memory frames
    (λ address there. same_bytes m new (outermost frame.address below) (little_bytes 8 (address + 64)) e there)
    stands.start)

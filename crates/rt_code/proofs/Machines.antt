-- Machines whose registers are spelled out, and steps one after the other.
use Rattle.std.proofs.Common.{◌≡◌, ◌∙◌, ℕ, suc, ◌+◌, ◌^◌, ◌<◌, pos, ◌+ℤ◌, List, ◌∷◌}
use Rattle.std.proofs.Common.{arith, ap, sym, subst}
use Rattle.num_core.specs.Bits.{low_bits}
use Rattle.num_core.specs.Run.{Run, Running, Streams, after, one_more}
use Rattle.num_core.proofs.Runs.{after-add}
use Rattle.rv_step.specs.Machine.{MachineState, machine_step, register}
use Rattle.rv_step.specs.Memory.{Writes, is_allowed}
use Rattle.rv_step.specs.Segments.{AreSegments}
use Rattle.rv_step.specs.declared.segment.Segment.{Segment}
use Rattle.rv_step.specs.declared.trap.Trap.{Trap}
use Rattle.rv_code.specs.Registers.{HasRegisters, listed, registers_of}
use Rattle.rv_code.proofs.Going.{same_bytes}
use Rattle.rv_code.proofs.Spelled.{by_parts, spelled}

-- a machine by its pc, the words of x1 to x31, and its memory
abbrev pub machine : ℕ → (ℕ → ℕ) → List Segment → MachineState
machine pc word segments = record { pc = pc; registers = registers_of word; segments = segments }

-- the same with another word in x5
abbrev pub holding : ℕ → (ℕ → ℕ) → ℕ → List Segment → MachineState
holding pc word x5 segments = record {
  pc = pc;
  registers = 0 ∷ word 1 ∷ word 2 ∷ word 3 ∷ word 4 ∷ x5 ∷ listed word 6 26;
  segments = segments;
}

pub as_machine : (m : MachineState) (pc : ℕ) → HasRegisters m → m.pc ≡ pc → m ≡ machine pc (register m) m.segments
as_machine m pc has at = by_parts m pc (registers_of (register m)) at (spelled m has)

pub sum_of : (a b : ℕ) → a + b < 2 ^ 64 → low_bits 64 (pos a +ℤ pos b) ≡ a + b
sum_of a b h = omega (arith, h)

-- one more step
pub then_step : (n : ℕ) (run : Run MachineState Trap) (m : MachineState) (streams : Streams)
    (next : Run MachineState Trap)
    → after machine_step n run ≡ Running m streams → machine_step m streams ≡ next
    → after machine_step (n + 1) run ≡ next
then_step n run m streams next before step =
    let e : n + 1 ≡ suc n = omega arith in
    ap (λ k. after machine_step k run) e ∙ ap (one_more machine_step) before ∙ step

-- so many more
pub then_steps : (n k : ℕ) (run : Run MachineState Trap) (m : MachineState) (streams : Streams)
    (next : Run MachineState Trap) → after machine_step n run ≡ Running m streams
    → after machine_step k (Running m streams) ≡ next → after machine_step (n + k) run ≡ next
then_steps n k run m streams next before behind =
    let e : n + k ≡ k + n = omega arith in
    ap (λ j. after machine_step j run) e ∙ after-add machine_step k n run ∙ ap (after machine_step k) before ∙ behind

-- what is written in the same memory of other machines
pub writes_between : (place : ℕ) (bytes : List ℕ) (m m' new new' : MachineState) → m'.segments ≡ m.segments
    → new'.segments ≡ new.segments → Writes place bytes m new → Writes place bytes m' new'
writes_between place bytes m m' new new' e e' writes =
    record {
      written = same_bytes new new' place bytes e' writes.written;
      kept = λ other others apart there.
          same_bytes new new' other others e'
          (writes.kept other others apart (same_bytes m' m other others (sym e) there));
      allows = λ other count. record {
        read = ap (λ ss. is_allowed (λ s. s.read) ss other count) e' ∙ (writes.allows other count).read
            ∙ ap (λ ss. is_allowed (λ s. s.read) ss other count) (sym e);
        write = ap (λ ss. is_allowed (λ s. s.write) ss other count) e' ∙ (writes.allows other count).write
            ∙ ap (λ ss. is_allowed (λ s. s.write) ss other count) (sym e);
        execute = ap (λ ss. is_allowed (λ s. s.execute) ss other count) e' ∙ (writes.allows other count).execute
            ∙ ap (λ ss. is_allowed (λ s. s.execute) ss other count) (sym e);
      };
      segments = subst AreSegments (sym e') writes.segments;
    }

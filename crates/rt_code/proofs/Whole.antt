-- Each routine has its effect.
use Rattle.std.proofs.Common.{◌≡◌, ◌∙◌, ℕ, ◌+◌, ◌*◌, ◌%◌, ◌^◌, ◌<◌, List, [], ◌∷◌, ◌++◌, length, All, arith, refl}
use Rattle.std.proofs.Common.{sym, subst, append-nil, pos, ◌-◌}
use Rattle.num_core.specs.Run.{Streams}
use Rattle.rv_isa.specs.declared.ins.Ins.{Ins}
use Rattle.rv_isa.specs.declared.ins.Ins.TheVariants.{Addi, Ecall}
use Rattle.rv_step.specs.Machine.{MachineState, register}
use Rattle.rv_code.specs.Code.{AllLegal, BlockAt, CodeAt}
use Rattle.rv_code.specs.Registers.{HasRegisters}
use Rattle.rv_code.proofs.Going.{block_at}
use Rattle.lir_core.specs.Calls.{stack_text}
use Rattle.lir_core.specs.Handlers.{unhandled_text}
use Rattle.lir_core.specs.Routines.{behind_first, first_of, heap_text}
use Rattle.rt_code.specs.Code.{code_of, line}
use Rattle.rt_code.specs.Conventions.{HasScratch}
use Rattle.rt_code.specs.Effects.{Begins, ComesTo, EndsWithLine, EndsWithin, Enters, HasEffect, HasRoom}
use Rattle.rt_code.specs.Effects.{LeadsWithin, Returns, Starts, frames_end, with_error}
use Rattle.rt_code.specs.declared.routines.Routine.{Routine}
use Rattle.rt_code.specs.declared.routines.Routine.TheVariants.{Start, End, WriteByte, ReadByte, StackBound, HeapBound}
use Rattle.rt_code.specs.declared.routines.Routine.TheVariants.{Unhandled}
use Rattle.rt_code.proofs.Lines.{IsLine, ends_line}
use Rattle.rt_code.proofs.Machines.{as_machine, machine}
use Rattle.rt_code.proofs.Passing.{ends_with_word, reads_a_byte, reads_no_byte, set_legal, writes_a_byte}
use Rattle.rt_code.proofs.Starting.{enters_the_body, refuses_the_body, stack_is_line}

exit_legal : AllLegal (Addi 17 0 (pos 93) ∷ Ecall ∷ [])
exit_legal = (set_legal 17 0 93 (omega arith) (omega arith) (omega arith), (tt, tt))

ends : (address : ℕ) (code : List Ins) (k : ℕ) (m : MachineState) (streams : Streams) → CodeAt address code m
    → HasRegisters m → m.pc ≡ address + 4 * k → BlockAt code k (Addi 17 0 (pos 93) ∷ Ecall ∷ [])
    → EndsWithin 2 m streams (register m 10 % 256) streams
ends address code k m streams there has pc block =
    let e = as_machine m (address + 4 * k) has pc in
    subst (λ n. EndsWithin 2 n streams (register n 10 % 256) streams) (sym e)
    (ends_with_word address code k (address + 4 * k) (register m) m.segments streams
    (subst (CodeAt address code) e there)
    refl block exit_legal)

lines : (text shown : List ℕ) (count : ℕ) → IsLine text shown count → EndsWithLine shown (line text count)
lines text shown count is address m streams comes scratch =
    let code : List Ins = line text count in
    let zeroth : address ≡ address + 4 * 0 = omega arith in
    let e = as_machine m (address + 4 * 0) comes.registers (comes.pc ∙ zeroth) in
    let m' : MachineState = machine (address + 4 * 0) (register m) m.segments in
    subst (λ n. EndsWithin 23 n streams 134 (with_error shown streams)) (sym e)
    (ends_line address code 0 text shown count (register m) (register m 5) m.segments streams is
    (subst (CodeAt address code) e comes.code_at)
    (subst (HasScratch (register m 2) address (length code)) e scratch)
    (block_at [] code [] code 0 (sym (append-nil code)) refl))

heap_is_line : IsLine (heap_text ++ 0 ∷ []) heap_text 19
heap_is_line = record {
  made = (refl, (refl, (refl, (refl, (refl, tt)))));
  rest = 0 ∷ [];
  spelled = refl;
  size = refl;
  some = omega arith;
  few = omega arith;
}

unhandled_is_line : IsLine unhandled_text unhandled_text 20
unhandled_is_line = record {
  made = (refl, (refl, (refl, (refl, (refl, tt)))));
  rest = [];
  spelled = refl;
  size = refl;
  some = omega arith;
  few = omega arith;
}

starts : Starts (code_of Start)
starts = record {
  enters = λ address m streams front root frame b r.
      let e = as_machine m address b.comes.registers b.comes.pc in
      subst (λ n. (new : MachineState) × LeadsWithin 16 n streams new streams × Enters address front root frame n new)
      (sym e)
      (enters_the_body address address (register m) m.segments streams front root frame
      (subst (Begins address (code_of Start) front root frame) e b)
      (subst (HasRoom address 41 front root frame) e r));
  refuses = λ address m streams front root frame b h scratch.
      let e = as_machine m address b.comes.registers b.comes.pc in
      subst (λ n. EndsWithin 35 n streams 134 (with_error stack_text streams)) (sym e)
      (refuses_the_body address address (register m) m.segments streams front root frame
      (subst (Begins address (code_of Start) front root frame) e b) h
      (subst (HasScratch (frames_end front root) address 41) e scratch));
  ends = λ address m streams there has pc.
      let e : address + 64 ≡ address + 4 * 16 = omega arith in
      ends address (code_of Start) 16 m streams there has (pc ∙ e) (refl, (refl, tt));
}

writes : HasEffect WriteByte (code_of WriteByte)
writes address m streams comes scratch even =
    let e = as_machine m address comes.registers comes.pc in
    subst (λ n. (new : MachineState) × Returns 7 n streams new
    (record streams { output = streams.output ++ (register n 10 % 256) ∷ [] })) (sym e)
    (writes_a_byte address address (register m) m.segments streams
    (subst (CodeAt address (code_of WriteByte)) e comes.code_at)
    (subst HasRegisters e comes.registers) refl (subst (HasScratch (register m 2) address 7) e scratch) even)

-- by what there is to read
reads_of : (address : ℕ) (m : MachineState) (input output error : List ℕ) → ComesTo address (code_of ReadByte) m
    → HasScratch (register m 2) address 10 m → register m 1 % 2 ≡ 0 → All (λ byte. byte < 256) input
    → (new : MachineState) × Returns 8 m (record { input = input; output = output; error = error }) new
    (record { input = behind_first input; output = output; error = error }) × (register new 10 ≡ first_of input)
reads_of address m [] output error comes scratch even small =
    let e = as_machine m address comes.registers comes.pc in
    subst (λ n. (new : MachineState) × Returns 8 n (record { input = []; output = output; error = error }) new
    (record { input = []; output = output; error = error }) × (register new 10 ≡ 2 ^ 64 - 1)) (sym e)
    (reads_no_byte address address (register m) m.segments output error
    (subst (CodeAt address (code_of ReadByte)) e comes.code_at) (subst HasRegisters e comes.registers) refl
    (subst (HasScratch (register m 2) address 10) e scratch) even)
reads_of address m (byte ∷ rest) output error comes scratch even small =
    let e = as_machine m address comes.registers comes.pc in
    subst (λ n. (new : MachineState) × Returns 8 n (record { input = byte ∷ rest; output = output; error = error }) new
    (record { input = rest; output = output; error = error }) × (register new 10 ≡ byte)) (sym e)
    (reads_a_byte address address (register m) m.segments byte rest output error
    (subst (CodeAt address (code_of ReadByte)) e comes.code_at) (subst HasRegisters e comes.registers) refl
    (subst (HasScratch (register m 2) address 10) e scratch) even (small 0 0 (omega arith)))

pub has_effect : (which : Routine) → HasEffect which (code_of which)
has_effect Start = starts
has_effect End = λ address m streams comes.
    let zeroth : address ≡ address + 4 * 0 = omega arith in
    ends address (code_of End) 0 m streams comes.code_at comes.registers (comes.pc ∙ zeroth) (refl, (refl, tt))
has_effect WriteByte = writes
has_effect ReadByte = λ address m streams. reads_of address m streams.input streams.output streams.error
has_effect StackBound = lines stack_text stack_text 20 stack_is_line
has_effect HeapBound = lines (heap_text ++ 0 ∷ []) heap_text 19 heap_is_line
has_effect Unhandled = lines unhandled_text unhandled_text 20 unhandled_is_line

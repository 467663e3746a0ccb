-- A search that finds nothing: the line of such objects, and the end.
use Rattle.std.proofs.Common.{◌≡◌, ◌∙◌, inr, ℕ, ◌+◌, ◌*◌, ◌^◌, ◌≤◌, [], Some, length, arith, refl, ap, sym, subst}
use Rattle.num_core.specs.Run.{Running, Streams, after}
use Rattle.rv_step.specs.Machine.{MachineState, machine_step, register}
use Rattle.rv_step.proofs.Addresses.{allowed_within}
use Rattle.lir_core.specs.Calls.{lowest}
use Rattle.lir_core.specs.Handlers.{unhandled_text}
use Rattle.lir_core.specs.State.{ASearch, WordState}
use Rattle.lir_core.specs.Step.{goes_on_from, word_step}
use Rattle.rt_code.specs.Code.{code_of as routine_code}
use Rattle.rt_code.specs.Conventions.{HasScratch}
use Rattle.rt_code.specs.Effects.{ComesTo, EndsWithin, with_error}
use Rattle.rt_code.specs.declared.routines.Routine.TheVariants.{Unhandled}
use Rattle.rt_code.proofs.Whole.{has_effect}
use Rattle.rv_words.specs.Placing.{IsPlacing, Placing, data_bytes}
use Rattle.rv_words.specs.Stands.{Follows, IsUnhandled, Related}
use Rattle.rv_words.specs.Stands.Related.{AtEnd}
use Rattle.rv_words.specs.Steps.{in_last_line}
use Rattle.rv_words.proofs.Room.{stacked_end}

same_address : (a b : ℕ) → Some a ≡ Some b → a ≡ b
same_address a b e = cc

-- Its scratch bytes lie in the frame, or right behind the end of the stack, where code doesn't.
has_scratch : (placing : Placing) → IsPlacing placing → (state : WordState) (m : MachineState)
    → (u : IsUnhandled placing state m)
    → HasScratch (register m 2) m.pc (length (routine_code Unhandled)) m
has_scratch placing is state m u =
    let program = placing.program in
    let low : ℕ = lowest program state.frames in
    let frame : register m 2 ≡ low = u.frame in
    let bound : program.stack_end ≤ low + program.stack_bound = u.bounds.frames.within in
    let order : program.heap_begin + program.heap_bound + program.stack_bound ≡ program.stack_end =
    is.laid_out.frames_behind_heap in
    let end : low ≤ program.stack_end = stacked_end program low state.frames u.bounds.frames.stacked in
    let behind : placing.lowest_data ≤ program.heap_begin = is.heap_behind_data in
    let room : program.stack_end + 128 ≤ 2 ^ 64 = is.room_behind in
    let routine = is.routines Unhandled in
    let below : routine.0 + 4 * length (routine_code Unhandled) ≤ placing.lowest_data = routine.2 in
    let same : routine.0 ≡ m.pc = same_address routine.0 m.pc (sym routine.1 ∙ u.pc) in
    let first : placing.lowest_data ≤ register m 2 + 96 = omega (arith, frame, bound, order, behind) in
    let last : register m 2 + 96 + 32 ≤ placing.lowest_data + data_bytes placing =
    omega (arith, frame, bound, order, behind, end) in
    record {
      fits = omega (arith, frame, end, room);
      read = allowed_within (λ s. s.read) placing.lowest_data (data_bytes placing)
          (register m 2 + 96) 32 m.segments first
          last u.serves.memory.read;
      write = allowed_within (λ s. s.write) placing.lowest_data (data_bytes placing)
          (register m 2 + 96) 32 m.segments first
          last u.serves.memory.write;
      apart = inr (omega (arith, below, same, first));
    }

pub unhandled_followed : (placing : Placing) → IsPlacing placing → (state : WordState) (m : MachineState)
    (streams : Streams) (object : ℕ) → state.under_way ≡ ASearch object [] → IsUnhandled placing state m
    → Follows placing in_last_line m streams (word_step placing.program state streams)
unhandled_followed placing is state m streams object searching u =
    let comes : ComesTo m.pc (routine_code Unhandled) m = record {
      code_at = u.serves.memory.routines Unhandled m.pc u.pc;
      registers = u.serves.registers;
      pc = refl;
    } in
    let e : EndsWithin 23 m streams 134 (with_error unhandled_text streams) =
    has_effect Unhandled m.pc m streams comes (has_scratch placing is state m u) in
    let next : word_step placing.program state streams
    ≡ goes_on_from placing.program state (ASearch object []) streams =
    ap (λ w. goes_on_from placing.program state w streams) searching in
    record {
      count = e.count;
      some = e.some;
      few = e.few;
      related = subst (λ a. Related placing a (after machine_step e.count (Running m streams))) (sym next)
          (subst (Related placing (goes_on_from placing.program state (ASearch object []) streams)) (sym e.ends)
          (AtEnd 134 (with_error unhandled_text streams)));
    }

-- The calls of the environment that read and write.
use Rattle.std.proofs.Common.{◌≡◌, ◌∙◌, ℕ, zero, suc, ◌<◌, ◌≤◌, Bool, true, false, cond, ◌==◌, ◌⊎◌, inl, inr, min, List}
use Rattle.std.proofs.Common.{[], ◌++◌, length, drop, Option, Some, refl, sym, ap, subst, append-nil, arith}
use Rattle.std.proofs.Math.Seq.{drop-append_seam}
use Rattle.num_core.specs.Run.{Running, Streams, Outside}
use Rattle.rv_step.specs.Machine.{MachineState, register, with_register, next_pc, gives, bytes_at, with_bytes_at}
use Rattle.rv_step.specs.Machine.{filled, reads, reads_into, goes_on_read, writes, writes_from, to_output, to_error}
use Rattle.rv_step.specs.Machine.{request, answers, environment_call}
use Rattle.rv_step.specs.Outcomes.{outside}
use Rattle.rv_step.specs.Steps.{Exchange, EndIsTrue, StepsOn, ReadBreaksOff, WriteBreaksOff, Wrote, WroteSome}
use Rattle.rv_step.specs.Steps.{FilledSegments, streams_before}
use Rattle.rv_step.specs.declared.segment.Segment.{Segment}
use Rattle.rv_step.specs.declared.calls.Request.{Request}
use Rattle.rv_step.proofs.Steps.{steps_quietly, nothing_taken, nothing_written}
use Rattle.rv_step.proofs.Exchanges.{filled_is, min_is}

-- the machine behind a call that answers a number
abbrev pub answered : MachineState → ℕ → MachineState
answered m n = record { pc = next_pc m; registers = with_register m.registers 10 n; segments = m.segments }

pub not_zero : (n : ℕ) → (n ≡ 0 → ⊥) → (n == 0) ≡ false
not_zero zero h = absurd (h refl)
not_zero (suc n) h = grind arith

pub call_is : (m : MachineState) (number a0 : ℕ) (r : Request) → number ≡ register m 17 → a0 ≡ register m 10
    → r ≡ request number a0 → (s : Streams) → environment_call m s ≡ answers r m s
call_is m number a0 r e f is s =
    ap (λ a. answers (request a (register m 10)) m s) (sym e) ∙ ap (λ b. answers (request number b) m s) (sym f)
    ∙ ap (λ q. answers q m s) (sym is)

pub request_is : (m : MachineState) (number a0 : ℕ) (r : Request) → number ≡ register m 17 → a0 ≡ register m 10
    → r ≡ request number a0 → request (register m 17) (register m 10) ≡ r
request_is m number a0 r e f is = ap (λ a. request a (register m 10)) (sym e) ∙ ap (λ b. request number b) (sym f)
    ∙ sym is

-- what the code read of the registers
pub zero_by : (m : MachineState) (count r : ℕ) → count ≡ register m r → r ≡ 12 → count ≡ 0 → register m 12 ≡ 0
zero_by m count r read is none = ap (λ n. register m n) (sym is) ∙ sym read ∙ none

pub some_by : (m : MachineState) (count r : ℕ) → count ≡ register m r → r ≡ 12 → (count ≡ 0 → ⊥) → register m 12 ≡ 0 → ⊥
some_by m count r read is some none = some (read ∙ ap (λ n. register m n) is ∙ none)

pub read_by : (m : MachineState) (n r k : ℕ) → n ≡ register m r → r ≡ k → n ≡ register m k
read_by m n r k read is = read ∙ ap (λ i. register m i) is

pub there_by : (m : MachineState) (bytes : List ℕ) (count r address q : ℕ) → count ≡ register m r → r ≡ 12
    → address ≡ register m q → q ≡ 11 → Some bytes ≡ bytes_at (λ s. s.read) address count m.segments
    → Some bytes ≡ bytes_at (λ s. s.read) (register m 11) (register m 12) m.segments
there_by m bytes count r address q read is read' is' there =
    there ∙ ap (λ a. bytes_at (λ s. s.read) a count m.segments) (read_by m address q 11 read' is')
    ∙ ap (λ n. bytes_at (λ s. s.read) (register m 11) n m.segments) (read_by m count r 12 read is)

pub answered_by : (m new : MachineState) (count r : ℕ) → count ≡ register m r → r ≡ 12 → new ≡ answered m count
    → new ≡ answered m (register m 12)
answered_by m new count r read is new-is = new-is ∙ ap (λ n. answered m n) (read_by m count r 12 read is)

-- ---- writing

pub writes_nothing : (m new : MachineState) (to : List ℕ → Streams → Streams) (ended : Bool) (o : Outside)
    → register m 12 ≡ 0 → new ≡ answered m 0 → EndIsTrue ended o → StepsOn (writes m to) ended ended new o o
writes_nothing m new to ended o none is end =
    steps_quietly (writes m to) ended new o
    (λ s. ap (λ n. cond (n == 0) (gives m 10 0 s)
    (writes_from m to (bytes_at (λ s. s.read) (register m 11) n m.segments) s)) none
    ∙ ap (λ machine. Running machine s) (sym is))
    end

pub writes_some : (m : MachineState) (to : List ℕ → Streams → Streams) (bytes : List ℕ) → (register m 12 ≡ 0 → ⊥)
    → Some bytes ≡ bytes_at (λ s. s.read) (register m 11) (register m 12) m.segments → (s : Streams)
    → writes m to s ≡ gives m 10 (register m 12) (to bytes s)
writes_some m to bytes some there s =
    ap (λ b. cond b (gives m 10 0 s)
    (writes_from m to (bytes_at (λ s. s.read) (register m 11) (register m 12) m.segments) s))
    (not_zero (register m 12) some)
    ∙ ap (λ o. writes_from m to o s) (sym there)

pub wrote_output : (m new : MachineState) (bytes : List ℕ) (ended : Bool) (rest error before now : Option (List ℕ))
    → (register m 12 ≡ 0 → ⊥) → Some bytes ≡ bytes_at (λ s. s.read) (register m 11) (register m 12) m.segments
    → new ≡ answered m (register m 12) → Wrote bytes before now → EndIsTrue ended
    (outside rest before error) → StepsOn (writes m to_output) ended ended new (outside rest before error)
    (outside rest now error)
wrote_output m new bytes ended rest error before now some there is wrote end =
    let x : Exchange = record { taken = []; output = bytes; error = [] } in
    record {
      x = x;
      leads = λ more output err h.
          writes_some m to_output bytes some there (streams_before x more output err)
          ∙ ap (λ machine. Running machine (to_output bytes (streams_before x more output err))) (sym is)
          ∙ ap (λ e. Running new (record { input = more; output = output ++ bytes; error = e })) (sym (append-nil err));
      exchanged = record { taken = nothing_taken rest; output = wrote; error = nothing_written error };
      stays_ended = λ h. h;
      takes_nothing = λ h. refl;
      end_is_true = end;
    }

pub wrote_error : (m new : MachineState) (bytes : List ℕ) (ended : Bool) (rest output before now : Option (List ℕ))
    → (register m 12 ≡ 0 → ⊥) → Some bytes ≡ bytes_at (λ s. s.read) (register m 11) (register m 12) m.segments
    → new ≡ answered m (register m 12) → Wrote bytes before now → EndIsTrue ended
    (outside rest output before) → StepsOn (writes m to_error) ended ended new (outside rest output before)
    (outside rest output now)
wrote_error m new bytes ended rest output before now some there is wrote end =
    let x : Exchange = record { taken = []; output = []; error = bytes } in
    record {
      x = x;
      leads = λ more out error h.
          writes_some m to_error bytes some there (streams_before x more out error)
          ∙ ap (λ machine. Running machine (to_error bytes (streams_before x more out error))) (sym is)
          ∙ ap (λ o. Running new (record { input = more; output = o; error = error ++ bytes })) (sym (append-nil out));
      exchanged = record { taken = nothing_taken rest; output = nothing_written output; error = wrote };
      stays_ended = λ h. h;
      takes_nothing = λ h. refl;
      end_is_true = end;
    }

pub broke_output : (m : MachineState) (bytes : List ℕ) (rest error before now : Option (List ℕ))
    → (register m 12 ≡ 0 → ⊥) → Some bytes ≡ bytes_at (λ s. s.read) (register m 11) (register m 12) m.segments
    → WroteSome bytes before now → WriteBreaksOff (writes m to_output) m m (outside rest before error)
    (outside rest now error)
broke_output m bytes rest error before now some there wrote =
    record {
      same_machine = refl;
      next = answered m (register m 12);
      output = bytes;
      error = [];
      leads = λ s.
          writes_some m to_output bytes some there s
          ∙ ap (λ e. Running (answered m (register m 12))
          (record { input = s.input; output = s.output ++ bytes; error = e })) (sym (append-nil s.error));
      got_output = wrote.got;
      got_error = [];
      output_begun = wrote.begun;
      error_begun = ([], refl);
      missing = omega (arith, wrote.missing);
      exchanged = record { taken = nothing_taken rest; output = wrote.wrote; error = nothing_written error };
    }

pub broke_error : (m : MachineState) (bytes : List ℕ) (rest output before now : Option (List ℕ))
    → (register m 12 ≡ 0 → ⊥) → Some bytes ≡ bytes_at (λ s. s.read) (register m 11) (register m 12) m.segments
    → WroteSome bytes before now → WriteBreaksOff (writes m to_error) m m (outside rest output before)
    (outside rest output now)
broke_error m bytes rest output before now some there wrote =
    record {
      same_machine = refl;
      next = answered m (register m 12);
      output = [];
      error = bytes;
      leads = λ s.
          writes_some m to_error bytes some there s
          ∙ ap (λ o. Running (answered m (register m 12))
          (record { input = s.input; output = o; error = s.error ++ bytes })) (sym (append-nil s.output));
      got_output = [];
      got_error = wrote.got;
      output_begun = ([], refl);
      error_begun = wrote.begun;
      missing = omega (arith, wrote.missing);
      exchanged = record { taken = nothing_taken rest; output = nothing_written output; error = wrote.wrote };
    }

-- ---- reading

pub reads_nothing : (m new : MachineState) (ended : Bool) (o : Outside) → register m 12 ≡ 0 → new ≡ answered m 0
    → EndIsTrue ended o → StepsOn (reads m) ended ended new o o
reads_nothing m new ended o none is end =
    steps_quietly (reads m) ended new o
    (λ s. ap (λ n. cond (n == 0) (gives m 10 0 s)
    (reads_into m (bytes_at (λ s. s.write) (register m 11) n m.segments) s)) none
    ∙ ap (λ machine. Running machine s) (sym is))
    end

-- the bytes read, where no more come or the buffer is full
reads_front : (m : MachineState) (segments : List Segment) (got : ℕ) (ended at_end : Bool) (r0 r1 : Option (List ℕ))
    (more output error : List ℕ) → (register m 12 ≡ 0 → ⊥) → got ≤ register m 12
    → (f : FilledSegments got (register m 11) (register m 12) m.segments segments ended at_end r0 r1)
    → (got ≡ register m 12) ⊎ (more ≡ [])
    → reads m (record { input = f.taken ++ more; output = output; error = error })
    ≡ Running (record { pc = next_pc m; registers = with_register m.registers 10 got; segments = segments })
    (record { input = more; output = output; error = error })
reads_front m segments got ended at_end r0 r1 more output error some few f whole =
    let s : Streams = record { input = f.taken ++ more; output = output; error = error } in
    let fits : length f.taken ≤ length f.buffer = omega (arith, f.so_many, f.size, few) in
    let ends : (length f.taken ≡ length f.buffer) ⊎ (more ≡ []) =
    elim whole as (λ w. (length f.taken ≡ length f.buffer)
    ⊎ (more ≡ [])) [ inl all ↦ inl (f.so_many ∙ all ∙ sym f.size) | inr end ↦ inr end ] in
    let bytes : filled (f.taken ++ more) f.buffer ≡ f.taken ++ drop got f.buffer =
    filled_is f.taken more f.buffer fits ends ∙ ap (λ n. f.taken ++ drop n f.buffer) f.so_many in
    let count : min (length f.buffer) (length (f.taken ++ more)) ≡ got = min_is f.taken more (length f.buffer) fits ends
    ∙ f.so_many in
    let rest : drop got (f.taken ++ more) ≡ more = ap (λ n. drop n (f.taken ++ more)) (sym f.so_many)
    ∙ drop-append_seam f.taken more in
    let behind : MachineState = record {
      pc = next_pc m;
      registers = with_register m.registers 10 got;
      segments = segments;
    } in
    ap (λ b. cond b (gives m 10 0 s)
    (reads_into m (bytes_at (λ s. s.write) (register m 11) (register m 12) m.segments) s))
    (not_zero (register m 12) some)
    ∙ ap (λ o. reads_into m o s) f.there
    ∙ ap (λ xs. goes_on_read m (with_bytes_at (λ s. s.write) (register m 11) xs m.segments)
    (min (length f.buffer) (length (f.taken ++ more))) s) bytes
    ∙ ap (λ n. goes_on_read m (with_bytes_at (λ s. s.write) (register m 11)
    (f.taken ++ drop got f.buffer) m.segments) n s) count
    ∙ ap (λ o. goes_on_read m o got s) f.written
    ∙ ap (λ i. Running behind (record { input = i; output = output; error = error })) rest

read_some : (m mid new : MachineState) (got : ℕ) (ended at_end : Bool) (r0 r1 output error : Option (List ℕ))
    → (register m 12 ≡ 0 → ⊥) → got ≤ register m 12
    → FilledSegments got (register m 11) (register m 12) m.segments mid.segments ended at_end r0 r1
    → (got ≡ register m 12) ⊎ (at_end ≡ true) → mid.pc ≡ m.pc → mid.registers ≡ m.registers → new ≡ answered mid got
    → StepsOn (reads m) ended at_end new (outside r0 output error) (outside r1 output error)
read_some m mid new got ended at_end r0 r1 output error some few f whole pc registers is =
    let x : Exchange = record { taken = f.taken; output = []; error = [] } in
    let behind : record { pc = next_pc m; registers = with_register m.registers 10 got; segments = mid.segments }
    ≡ new = cc in
    record {
      x = x;
      leads = λ more out err h.
          let ends : (got ≡ register m 12) ⊎ (more ≡ []) =
          elim whole as (λ w. (got ≡ register m 12) ⊎ (more ≡ [])) [ inl all ↦ inl all | inr end ↦ inr (h end) ] in
          reads_front m mid.segments got ended at_end r0 r1 more out err some few f ends
          ∙ ap (λ machine. Running machine (record { input = more; output = out; error = err })) behind
          ∙ ap (λ o. Running new (record { input = more; output = o; error = err })) (sym (append-nil out))
          ∙ ap (λ e. Running new (record { input = more; output = out ++ []; error = e })) (sym (append-nil err));
      exchanged = record { taken = f.takes.exchanged; output = nothing_written output; error = nothing_written error };
      stays_ended = f.takes.stays_ended;
      takes_nothing = f.takes.takes_nothing;
      end_is_true = f.takes.end_is_true;
    }

read_broke : (m new : MachineState) (got : ℕ) (ended at_end : Bool) (r0 r1 output error : Option (List ℕ))
    → (register m 12 ≡ 0 → ⊥) → got < register m 12
    → FilledSegments got (register m 11) (register m 12) m.segments new.segments ended at_end r0 r1 → (ended ≡ true → ⊥)
    → new.pc ≡ m.pc → new.registers ≡ m.registers → ReadBreaksOff (reads m) ended m new (outside r0 output error)
    (outside r1 output error)
read_broke m new got ended at_end r0 r1 output error some few f going pc registers =
    let next : MachineState = record {
      pc = next_pc m;
      registers = with_register m.registers 10 got;
      segments = new.segments;
    } in
    let with_pc : ℕ → MachineState = λ p. record { pc = p; registers = new.registers; segments = new.segments } in
    let with_registers : List ℕ → MachineState = λ r. record { pc = m.pc; registers = r; segments = new.segments } in
    record {
      taken = f.taken;
      next = next;
      leads = λ s.
          ap (λ xs. reads m (record s { input = xs })) (sym (append-nil f.taken))
          ∙ reads_front m new.segments got ended at_end r0 r1 [] s.output s.error some (omega (arith, few)) f
          (inr refl);
      same = ap with_pc pc ∙ ap with_registers registers;
      missing = omega (arith, few, f.so_many);
      not_ended = going;
      exchanged = record { taken = f.takes.exchanged; output = nothing_written output; error = nothing_written error };
    }

-- the same by what the code read of the registers
pub read_there : (m mid new : MachineState) (got address count q r : ℕ) (ended at_end : Bool)
    (r0 r1 output error : Option (List ℕ)) → count ≡ register m r → r ≡ 12 → address ≡ register m q → q ≡ 11
    → (count ≡ 0 → ⊥) → (got ≤ count) × FilledSegments got address count m.segments mid.segments ended at_end r0 r1
    → (got ≡ count) ⊎ (at_end ≡ true) → mid.pc ≡ m.pc → mid.registers ≡ m.registers → new ≡ answered mid got
    → StepsOn (reads m) ended at_end new (outside r0 output error) (outside r1 output error)
read_there m mid new got address count q r ended at_end r0 r1 output error read is read' is' some filled whole pc
    registers new-is =
    let a : address ≡ register m 11 = read_by m address q 11 read' is' in
    let n : count ≡ register m 12 = read_by m count r 12 read is in
    let f : FilledSegments got (register m 11) count m.segments mid.segments ended at_end r0 r1 =
    subst (λ k. FilledSegments got k count m.segments mid.segments ended at_end r0 r1) a filled.1 in
    read_some m mid new got ended at_end r0 r1 output error (some_by m count r read is some)
    (omega (arith, filled.0, n))
    (subst (λ k. FilledSegments got (register m 11) k m.segments mid.segments ended at_end r0 r1) n f)
    (subst (λ k. (got ≡ k) ⊎ (at_end ≡ true)) n whole) pc registers new-is

pub broke_there : (m new : MachineState) (address count q r : ℕ) (ended at_end : Bool)
    (r0 r1 output error : Option (List ℕ)) → count ≡ register m r → r ≡ 12 → address ≡ register m q → q ≡ 11
    → (count ≡ 0 → ⊥) → (got : ℕ) × (got < count)
    × FilledSegments got address count m.segments new.segments ended at_end r0 r1 → (ended ≡ true → ⊥) → new.pc ≡ m.pc
    → new.registers ≡ m.registers → ReadBreaksOff (reads m) ended m new (outside r0 output error)
    (outside r1 output error)
broke_there m new address count q r ended at_end r0 r1 output error read is read' is' some broken going pc registers =
    let a : address ≡ register m 11 = read_by m address q 11 read' is' in
    let n : count ≡ register m 12 = read_by m count r 12 read is in
    let f : FilledSegments broken.0 (register m 11) count m.segments new.segments ended at_end r0 r1 =
    subst (λ k. FilledSegments broken.0 k count m.segments new.segments ended at_end r0 r1) a broken.2 in
    read_broke m new broken.0 ended at_end r0 r1 output error (some_by m count r read is some)
    (omega (arith, broken.1, n))
    (subst (λ k. FilledSegments broken.0
    (register m 11) k m.segments new.segments ended at_end r0 r1) n f) going pc registers

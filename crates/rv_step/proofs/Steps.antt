-- From what a step does in the midst of a run to what a run has done.
use Rattle.std.proofs.Common.{◌≡◌, ◌∙◌, ℕ, ◌+◌, ◌-◌, ◌<◌, Bool, true, false, List, [], ◌++◌, length, take, drop, Option}
use Rattle.std.proofs.Common.{Some, None, Result, Ok, Err, IfSome, ◌⊎◌, inl, inr, unwrap_or, refl, sym, ap, subst}
use Rattle.std.proofs.Common.{append_assoc, append-nil, length-append, add-one, arith}
use Rattle.std.proofs.Math.Seq.{take-append_seam, drop-append_seam}
use Rattle.std.specs.Option.{option_map}
use Rattle.num_core.specs.Run.{Run, Running, Ended, Stopped, Streams, Outside, Passes, after, one_more}
use Rattle.rv_isa.specs.declared.ins.Ins.{Ins}
use Rattle.rv_isa.specs.declared.ins.Ins.TheVariants.{Ecall}
use Rattle.rv_isa.specs.Parts.{parts_of}
use Rattle.rv_isa.specs.Rows.{instruction}
use Rattle.rv_step.specs.Machine.{MachineState, machine_step, machine_run, fetched, effect, on_word, on_instruction}
use Rattle.rv_step.specs.Machine.{environment_call, traps}
use Rattle.rv_step.specs.Outcomes.{Requests, SinkCounts, Asks, GoesOn, EndsAfter, TrapsWithin, ReadFailsWithin}
use Rattle.rv_step.specs.Outcomes.{WriteFailsWithin, Continues}
use Rattle.rv_step.specs.Steps.{Exchange, Exchanges, nothing, EndIsTrue, streams_before, streams_after, StepsOn}
use Rattle.rv_step.specs.Steps.{StepEnds, StepTraps, ReadBreaksOff, WriteBreaksOff, StepAnswers, run_fault}
use Rattle.rv_step.specs.declared.calls.Request.{Request}
use Rattle.rv_step.specs.declared.calls.Request.TheVariants.{ReadInput, WriteOutput, WriteError}
use Rattle.rv_step.specs.declared.trap.Trap.{Trap}
use Rattle.rv_step.specs.declared.trap.Cause.TheVariants.{Fetch, Illegal}
use Rattle.rv_step.specs.declared.fault.StepFault.{StepFault}
use Rattle.rv_step.specs.declared.fault.StepFault.TheVariants.{Trap as Trapped, ReadFault, WriteFault}
use Rattle.rv_step.specs.declared.fault.RunFault.{RunFault}
use Rattle.rv_step.specs.declared.fault.RunFault.TheVariants.{Trap as RunTrapped, ReadFault as RunReadFault}
use Rattle.rv_step.specs.declared.fault.RunFault.TheVariants.{WriteFault as RunWriteFault}

-- ---- one step

pub step_of_instruction : (m : MachineState) (word : ℕ) (ins : Ins) → fetched m ≡ Some word
    → instruction (parts_of word) ≡ Some ins → (s : Streams) → machine_step m s ≡ effect ins m s
step_of_instruction m word ins fetch decode s = ap (λ w. on_word w m s) fetch ∙ ap (λ i. on_instruction i m s) decode

pub step_of_call : (m : MachineState) (word : ℕ) (ins : Ins) → fetched m ≡ Some word
    → instruction (parts_of word) ≡ Some ins → ins ≡ Ecall → (s : Streams) → machine_step m s ≡ environment_call m s
step_of_call m word ins fetch decode call s = step_of_instruction m word Ecall fetch (decode ∙ ap Some call) s

pub step_of_no_word : (m : MachineState) → fetched m ≡ None → (s : Streams) → machine_step m s ≡ traps m Fetch s
step_of_no_word m fetch s = ap (λ w. on_word w m s) fetch

pub step_of_illegal : (m : MachineState) (word : ℕ) → fetched m ≡ Some word → instruction (parts_of word) ≡ None
    → (s : Streams) → machine_step m s ≡ traps m Illegal s
step_of_illegal m word fetch decode s = ap (λ w. on_word w m s) fetch ∙ ap (λ i. on_instruction i m s) decode

-- the instruction at the pc is a call of the environment
pub asks_by : (m : MachineState) (asked : Request) (word : ℕ) (ins : Ins) → fetched m ≡ Some word
    → instruction (parts_of word) ≡ Some ins → ins ≡ Ecall → Requests m asked → Asks m asked
asks_by m asked word ins fetch decode call requests =
    record { word = word; fetches = fetch; calls = decode ∙ ap Some call; requests = requests }

-- who is asked under another name
pub counts_by : (P Q : Request → Type 0) (output output' error error' : ℕ) → ((r : Request) → P r → Q r)
    → SinkCounts P output output' error error' → SinkCounts Q output output' error error'
counts_by P Q output output' error error' f (inl h) = inl (f WriteOutput h.0, h.1, h.2)
counts_by P Q output output' error error' f (inr h) = inr (f WriteError h.0, h.1, h.2)

pub called_one : (m : MachineState) (word : ℕ) (ins : Ins) (output output' error error' : ℕ) → fetched m ≡ Some word
    → instruction (parts_of word) ≡ Some ins → ins ≡ Ecall → SinkCounts (Requests m) output output' error error'
    → SinkCounts (Asks m) output output' error error'
called_one m word ins output output' error error' fetch decode call =
    counts_by (Requests m) (Asks m) output output' error error' (λ r h. asks_by m r word ins fetch decode call h)

-- ---- exchanges

pub nothing_taken : (o : Option (List ℕ)) → o ≡ option_map (λ rest. [] ++ rest) o
nothing_taken None = refl
nothing_taken (Some rest) = refl

pub nothing_written : (o : Option (List ℕ)) → o ≡ option_map (λ bytes. bytes ++ []) o
nothing_written None = refl
nothing_written (Some bytes) = ap Some (sym (append-nil bytes))

pub exchanges_nothing : (o : Outside) → Exchanges nothing o o
exchanges_nothing o = record {
  taken = nothing_taken o.rest;
  output = nothing_written o.output;
  error = nothing_written o.error;
}

-- first one exchange, then another
abbrev pub then : Exchange → Exchange → Exchange
then x y = record { taken = x.taken ++ y.taken; output = x.output ++ y.output; error = x.error ++ y.error }

pub taken_then : (x y : List ℕ) (before mid now : Option (List ℕ)) → before ≡ option_map (λ rest. x ++ rest) mid
    → mid ≡ option_map (λ rest. y ++ rest) now → before ≡ option_map (λ rest. (x ++ y) ++ rest) now
taken_then x y before mid None first second = first ∙ ap (option_map (λ rest. x ++ rest)) second
taken_then x y before mid (Some rest) first second = first ∙ ap (option_map (λ rest. x ++ rest)) second
    ∙ ap Some (sym (append_assoc x y rest))

pub written_then : (x y : List ℕ) (before mid now : Option (List ℕ)) → mid ≡ option_map (λ bytes. bytes ++ x) before
    → now ≡ option_map (λ bytes. bytes ++ y) mid → now ≡ option_map (λ bytes. bytes ++ (x ++ y)) before
written_then x y None mid now first second = second ∙ ap (option_map (λ bytes. bytes ++ y)) first
written_then x y (Some bytes) mid now first second = second ∙ ap (option_map (λ bytes. bytes ++ y)) first
    ∙ ap Some (append_assoc bytes x y)

pub exchanges_then : (x y : Exchange) (before mid now : Outside) → Exchanges x before mid → Exchanges y mid now
    → Exchanges (then x y) before now
exchanges_then x y before mid now first second =
    record {
      taken = taken_then x.taken y.taken before.rest mid.rest now.rest first.taken second.taken;
      output = written_then x.output y.output before.output mid.output now.output first.output second.output;
      error = written_then x.error y.error before.error mid.error now.error first.error second.error;
    }

-- what is left, as far as the source tells
abbrev pub left : Outside → List ℕ
left now = unwrap_or now.rest []

taken_is : (x : List ℕ) (before now : Option (List ℕ)) → before ≡ option_map (λ rest. x ++ rest) now
    → IfSome before (λ rest. rest ≡ x ++ unwrap_or now [])
taken_is x before None is = let P : Option (List ℕ) → Type 0 = λ o. IfSome o (λ rest. rest ≡ x ++ []) in
    subst P (sym is) tt
taken_is x before (Some rest) is = let P : Option (List ℕ) → Type 0 = λ o. IfSome o (λ r. r ≡ x ++ rest) in
    subst P (sym is) refl

left_is : (now : Option (List ℕ)) → IfSome now (λ rest. rest ≡ unwrap_or now [])
left_is None = tt
left_is (Some rest) = refl

pub passes_by : (x : Exchange) (before now : Outside) → Exchanges x before now
    → Passes (x.taken ++ left now) (record { input = left now; output = x.output; error = x.error }) before now
passes_by x before now exchanged =
    record {
      taken = taken_is x.taken before.rest now.rest exchanged.taken;
      left = left_is now.rest;
      output = exchanged.output;
      error = exchanged.error;
    }

nothing_left : (now : Option (List ℕ)) → IfSome now (λ rest. rest ≡ []) → unwrap_or now [] ≡ []
nothing_left None h = refl
nothing_left (Some rest) h = h

pub left_at_end : (at_end : Bool) (now : Outside) → EndIsTrue at_end now → at_end ≡ true → left now ≡ []
left_at_end at_end now end h = nothing_left now.rest (end h)

-- ---- steps

quiet_streams : (more output error : List ℕ)
    → streams_before nothing more output error ≡ streams_after nothing more output error
quiet_streams more output error = cc (append-nil output, append-nil error)

-- a step that calls nothing outside
pub steps_quietly : (step : Streams → Run MachineState Trap) (at_end : Bool) (new : MachineState) (before : Outside)
    → ((s : Streams) → step s ≡ Running new s) → EndIsTrue at_end before → StepsOn step at_end at_end new before before
steps_quietly step at_end new before moves end =
    record {
      x = nothing;
      leads = λ more output error h. moves (streams_before nothing more output error)
          ∙ ap (Running new) (quiet_streams more output error);
      exchanged = exchanges_nothing before;
      stays_ended = λ h. h;
      takes_nothing = λ h. refl;
      end_is_true = end;
    }

-- two ways to say one step
pub answers_same : (step step' : Streams → Run MachineState Trap) (result : Result (Option ℕ) StepFault)
    (ended at_end : Bool) (old new : MachineState) (before now : Outside) → ((s : Streams) → step' s ≡ step s)
    → StepAnswers step result ended at_end old new before now → StepAnswers step' result ended at_end old new before now
answers_same step step' (Ok None) ended at_end old new before now same a =
    record {
      x = a.x;
      leads = λ more output error h. same (streams_before a.x more output error) ∙ a.leads more output error h;
      exchanged = a.exchanged;
      stays_ended = a.stays_ended;
      takes_nothing = a.takes_nothing;
      end_is_true = a.end_is_true;
    }
answers_same step step' (Ok (Some status)) ended at_end old new before now same a =
    record { ends = λ s. same s ∙ a.ends s; same_machine = a.same_machine; same = a.same }
answers_same step step' (Err (Trapped trap)) ended at_end old new before now same a =
    record { stops = λ s. same s ∙ a.stops s; same_machine = a.same_machine; same = a.same }
answers_same step step' (Err ReadFault) ended at_end old new before now same a =
    record {
      taken = a.taken;
      next = a.next;
      leads = λ s. same (record s { input = a.taken }) ∙ a.leads s;
      same = a.same;
      missing = a.missing;
      not_ended = a.not_ended;
      exchanged = a.exchanged;
    }
answers_same step step' (Err WriteFault) ended at_end old new before now same a =
    record {
      same_machine = a.same_machine;
      next = a.next;
      output = a.output;
      error = a.error;
      leads = λ s. same s ∙ a.leads s;
      got_output = a.got_output;
      got_error = a.got_error;
      output_begun = a.output_begun;
      error_begun = a.error_begun;
      missing = a.missing;
      exchanged = a.exchanged;
    }

-- ---- runs

-- after so many steps the run has come to the machine `new` by an exchange, whatever input comes behind it
pub record Progress (old : MachineState) (steps : ℕ) (new : MachineState) (at_end : Bool)
    (before now : Outside) : Type 0 where
  pub x : Exchange
  pub running : (more : List ℕ) → (at_end ≡ true → more ≡ [])
      → machine_run old (x.taken ++ more) steps
      ≡ Running new (record { input = more; output = x.output; error = x.error })
  pub exchanged : Exchanges x before now
  pub end_is_true : EndIsTrue at_end now

pub progress_start : (old : MachineState) (before : Outside) → Progress old 0 old false before before
progress_start old before =
    record { x = nothing; running = λ more h. refl; exchanged = exchanges_nothing before; end_is_true = λ h. cc }

-- one more step of a run that goes on
more_run : (old new : MachineState) (given : List ℕ) (steps : ℕ) (s : Streams) (next : Run MachineState Trap)
    → machine_run old given steps ≡ Running new s → machine_step new s ≡ next → machine_run old given (steps + 1) ≡ next
more_run old new given steps s next running goes =
    ap (λ n. machine_run old given n) (add-one steps) ∙ ap (one_more machine_step) running ∙ goes

pub progress_more : (old mid new : MachineState) (steps : ℕ) (ended at_end : Bool) (before between now : Outside)
    → Progress old steps mid ended before between → StepsOn (machine_step mid) ended at_end new between now
    → Progress old (steps + 1) new at_end before now
progress_more old mid new steps ended at_end before between now p step =
    let x : Exchange = p.x in
    let y : Exchange = step.x in
    record {
      x = then x y;
      running = λ more h.
          let first : machine_run old (x.taken ++ (y.taken ++ more)) steps
          ≡ Running mid (streams_before y more x.output x.error) =
          p.running (y.taken ++ more) (λ e. ap (λ t. t ++ more) (step.takes_nothing e) ∙ h (step.stays_ended e)) in
          ap (λ given. machine_run old given (steps + 1)) (append_assoc x.taken y.taken more)
          ∙ more_run old mid (x.taken ++ (y.taken ++ more)) steps (streams_before y more x.output x.error) _ first
          (step.leads more x.output x.error h);
      exchanged = exchanges_then x y before between now p.exchanged step.exchanged;
      end_is_true = step.end_is_true;
    }

-- the streams after the steps so far
abbrev reached : Exchange → Outside → Streams
reached x now = record { input = left now; output = x.output; error = x.error }

so_far : (old new : MachineState) (steps : ℕ) (at_end : Bool) (before now : Outside)
    (p : Progress old steps new at_end before now)
    → machine_run old (p.x.taken ++ left now) steps ≡ Running new (reached p.x now)
so_far old new steps at_end before now p = p.running (left now) (left_at_end at_end now p.end_is_true)

pub goes_on : (old new : MachineState) (steps : ℕ) (at_end : Bool) (before now : Outside)
    → Progress old steps new at_end before now → GoesOn old steps new before now
goes_on old new steps at_end before now p =
    record {
      given = p.x.taken ++ left now;
      streams = reached p.x now;
      running = so_far old new steps at_end before now p;
      passes = passes_by p.x before now p.exchanged;
    }

pub ends_after : (old mid : MachineState) (steps status : ℕ) (ended : Bool) (before now : Outside)
    → Progress old steps mid ended before now → ((s : Streams) → machine_step mid s ≡ Ended status s)
    → EndsAfter old (steps + 1) status mid before now
ends_after old mid steps status ended before now p ends =
    record {
      given = p.x.taken ++ left now;
      streams = reached p.x now;
      done = steps;
      last = refl;
      running = so_far old mid steps ended before now p;
      ended = more_run old mid _ steps _ _ (so_far old mid steps ended before now p) (ends (reached p.x now));
      passes = passes_by p.x before now p.exchanged;
    }

pub traps_within : (old mid : MachineState) (done steps : ℕ) (trap : Trap) (ended : Bool) (before now : Outside)
    → done < steps → Progress old done mid ended before now → ((s : Streams) → machine_step mid s ≡ Stopped trap s)
    → TrapsWithin old steps trap mid before now
traps_within old mid done steps trap ended before now lt p stops =
    record {
      given = p.x.taken ++ left now;
      streams = reached p.x now;
      done = done;
      within = lt;
      running = so_far old mid done ended before now p;
      stopped = more_run old mid _ done _ _ (so_far old mid done ended before now p) (stops (reached p.x now));
      passes = passes_by p.x before now p.exchanged;
    }

pub read_fails : (old mid new : MachineState) (done steps : ℕ) (ended : Bool) (before between now : Outside)
    → done < steps → Asks mid ReadInput → Progress old done mid ended before between
    → ReadBreaksOff (machine_step mid) ended mid new between now → ReadFailsWithin old steps new before now
read_fails old mid new done steps ended before between now lt asks p broken =
    let x : Exchange = p.x in
    let y : Exchange = record nothing { taken = broken.taken } in
    let input : List ℕ = broken.taken ++ left now in
    let whole : Passes ((x.taken ++ broken.taken) ++ left now)
    (record { input = left now; output = x.output ++ []; error = x.error ++ [] }) before now =
    passes_by (then x y) before now (exchanges_then x y before between now p.exchanged broken.exchanged) in
    let same_given : (x.taken ++ broken.taken) ++ left now ≡ x.taken ++ input =
    append_assoc x.taken broken.taken (left now) in
    let streams : Streams = record { input = input; output = x.output; error = x.error } in
    let front : take (length broken.taken) input ≡ broken.taken = take-append_seam broken.taken (left now) in
    let rest : drop (length broken.taken) input ≡ left now = drop-append_seam broken.taken (left now) in
    let end : Streams = record { input = drop (length broken.taken) input; output = x.output; error = x.error } in
    let end_before : Streams = record { input = left now; output = x.output ++ []; error = x.error ++ [] } in
    let same_streams : end_before ≡ end = cc (rest, append-nil x.output, append-nil x.error) in
    let given_whole : Passes (x.taken ++ input) end_before before now =
    subst (λ given. Passes given end_before before now) same_given whole in
    record {
      given = x.taken ++ input;
      streams = streams;
      done = done;
      within = lt;
      machine = mid;
      running = p.running input (λ e. absurd (broken.not_ended e));
      asks = asks;
      took = length broken.taken;
      there = omega (arith, length-append broken.taken (left now));
      missing = broken.missing;
      next = broken.next;
      goes_on = ap (λ xs. machine_step mid (record streams { input = xs })) front ∙ broken.leads streams;
      same = broken.same;
      passes = subst (λ s. Passes (x.taken ++ input) s before now) same_streams given_whole;
    }

same_left : (between now : Option (List ℕ)) → between ≡ option_map (λ rest. [] ++ rest) now
    → IfSome between (λ rest. rest ≡ []) → IfSome now (λ rest. rest ≡ [])
same_left between None same h = tt
same_left between (Some rest) same h = let P : Option (List ℕ) → Type 0 = λ o. IfSome o (λ r. r ≡ []) in subst P same h

continues_after : (front bytes longer : List ℕ) → Continues bytes longer → Continues (front ++ bytes) (front ++ longer)
continues_after front bytes longer c = (c.0, ap (λ more. front ++ more) c.1 ∙ sym (append_assoc front bytes c.0))

pub write_fails : (old mid new : MachineState) (done steps : ℕ) (ended : Bool) (before between now : Outside)
    → done < steps → Asks mid WriteOutput ⊎ Asks mid WriteError → Progress old done mid ended before between
    → WriteBreaksOff (machine_step mid) mid new between now → WriteFailsWithin old steps new before now
write_fails old mid new done steps ended before between now lt asks p broken =
    let x : Exchange = p.x in
    let y : Exchange = record { taken = []; output = broken.got_output; error = broken.got_error } in
    let got : Streams = record {
      input = left now;
      output = x.output ++ broken.got_output;
      error = x.error ++ broken.got_error;
    } in
    let whole : Passes ((x.taken ++ []) ++ left now) got before now =
    passes_by (then x y) before now (exchanges_then x y before between now p.exchanged broken.exchanged) in
    let same_given : (x.taken ++ []) ++ left now ≡ x.taken ++ left now = ap (λ t. t ++ left now) (append-nil x.taken) in
    let end : EndIsTrue ended now = λ e. same_left between.rest now.rest broken.exchanged.taken (p.end_is_true e) in
    let there : machine_run old (x.taken ++ left now) done ≡ Running mid (reached x now) =
    p.running (left now) (left_at_end ended now end) in
    record {
      given = x.taken ++ left now;
      streams = reached x now;
      done = done;
      within = lt;
      running = there ∙ ap (λ m. Running m (reached x now)) (sym broken.same_machine);
      asks = (let P : MachineState → Type 0 = λ m. Asks m WriteOutput ⊎ Asks m WriteError in
          subst P (sym broken.same_machine) asks);
      next = broken.next;
      whole = record { input = left now; output = x.output ++ broken.output; error = x.error ++ broken.error };
      goes_on = more_run old mid _ done _ _ there (broken.leads (reached x now));
      got = got;
      output = ((broken.got_output, refl), continues_after x.output _ _ broken.output_begun);
      error = ((broken.got_error, refl), continues_after x.error _ _ broken.error_begun);
      missing = omega (
        arith,
        broken.missing,
        length-append x.output broken.got_output,
        length-append x.error broken.got_error,
        length-append x.output broken.output,
        length-append x.error broken.error,
      );
      passes = subst (λ given. Passes given got before now) same_given whole;
    }

-- ---- the answers of a step behind the steps of a run

pub step_ends : (old mid new : MachineState) (steps status : ℕ) (ended : Bool) (before between now : Outside)
    → Progress old steps mid ended before between → StepEnds (machine_step mid) status mid new between now
    → EndsAfter old (steps + 1) status new before now
step_ends old mid new steps status ended before between now p a =
    subst (λ m. EndsAfter old (steps + 1) status m before now) (sym a.same_machine)
    (subst (λ o. EndsAfter old (steps + 1) status mid before o) (sym a.same)
    (ends_after old mid steps status ended before between p a.ends))

pub step_traps : (old mid new : MachineState) (done steps : ℕ) (trap : Trap) (ended : Bool)
    (before between now : Outside) → done < steps → Progress old done mid ended before between
    → StepTraps (machine_step mid) trap mid new between now → TrapsWithin old steps trap new before now
step_traps old mid new done steps trap ended before between now lt p a =
    subst (λ m. TrapsWithin old steps trap m before now) (sym a.same_machine)
    (subst (λ o. TrapsWithin old steps trap mid before o) (sym a.same)
    (traps_within old mid done steps trap ended before between lt p a.stops))

pub answers_at : (step : Streams → Run MachineState Trap) (result result' : Result (Option ℕ) StepFault)
    (ended at_end : Bool) (old new : MachineState) (before now : Outside)
    → StepAnswers step result ended at_end old new before now → result ≡ result'
    → StepAnswers step result' ended at_end old new before now
answers_at step result result' ended at_end old new before now a e =
    subst (λ r. StepAnswers step r ended at_end old new before now) e a

pub fault_traps : (fault : StepFault) (old mid new : MachineState) (done steps : ℕ) (trap : Trap) (ended at_end : Bool)
    (before between now : Outside) → run_fault fault ≡ RunTrapped trap → done < steps
    → Progress old done mid ended before between
    → StepAnswers (machine_step mid) (Err fault) ended at_end mid new between now
    → TrapsWithin old steps trap new before now
fault_traps (Trapped trap') old mid new done steps trap ended at_end before between now e lt p a =
    let same : trap' ≡ trap = cc in
    subst (λ t. TrapsWithin old steps t new before now) same
    (step_traps old mid new done steps trap' ended before between now lt p a)
fault_traps ReadFault old mid new done steps trap ended at_end before between now e lt p a = cc
fault_traps WriteFault old mid new done steps trap ended at_end before between now e lt p a = cc

pub fault_reads : (fault : StepFault) (old mid new : MachineState) (done steps : ℕ) (ended at_end : Bool)
    (before between now : Outside) → run_fault fault ≡ RunReadFault → done < steps
    → (fault ≡ ReadFault → Asks mid ReadInput) → Progress old done mid ended before between
    → StepAnswers (machine_step mid) (Err fault) ended at_end mid new between now
    → ReadFailsWithin old steps new before now
fault_reads (Trapped trap') old mid new done steps ended at_end before between now e lt asks p a = cc
fault_reads ReadFault old mid new done steps ended at_end before between now e lt asks p a =
    read_fails old mid new done steps ended before between now lt (asks refl) p a
fault_reads WriteFault old mid new done steps ended at_end before between now e lt asks p a = cc

pub fault_writes : (fault : StepFault) (old mid new : MachineState) (done steps : ℕ) (ended at_end : Bool)
    (before between now : Outside) → run_fault fault ≡ RunWriteFault → done < steps
    → (fault ≡ WriteFault → Asks mid WriteOutput ⊎ Asks mid WriteError) → Progress old done mid ended before between
    → StepAnswers (machine_step mid) (Err fault) ended at_end mid new between now
    → WriteFailsWithin old steps new before now
fault_writes (Trapped trap') old mid new done steps ended at_end before between now e lt asks p a = cc
fault_writes ReadFault old mid new done steps ended at_end before between now e lt asks p a = cc
fault_writes WriteFault old mid new done steps ended at_end before between now e lt asks p a =
    write_fails old mid new done steps ended before between now lt (asks refl) p a

-- a write that a sink refused leaves the machine
pub write_keeps : (fault : StepFault) (step : Streams → Run MachineState Trap) (ended at_end : Bool)
    (old new : MachineState) (before now : Outside) → fault ≡ WriteFault
    → StepAnswers step (Err fault) ended at_end old new before now → new ≡ old
write_keeps (Trapped trap) step ended at_end old new before now e a = cc
write_keeps ReadFault step ended at_end old new before now e a = cc
write_keeps WriteFault step ended at_end old new before now e a = a.same_machine

pub run_write_fault : (fault : StepFault) → run_fault fault ≡ RunWriteFault → fault ≡ WriteFault
run_write_fault (Trapped trap) e = cc
run_write_fault ReadFault e = cc
run_write_fault WriteFault e = refl

-- the same machine, and counts that were the same before
pub asked_first : (mid new : MachineState) (output output' output'' error error' error'' : ℕ) → new ≡ mid
    → output' ≡ output → error' ≡ error → SinkCounts (Asks mid) output' output'' error' error''
    → SinkCounts (Asks new) output output'' error error''
asked_first mid new output output' output'' error error' error'' same o e counts =
    subst (λ n. SinkCounts (Asks new) n output'' error error'') o
    (subst (λ n. SinkCounts (Asks new) output' output'' n error'') e
    (subst (λ m. SinkCounts (Asks m) output' output'' error' error'') (sym same) counts))

-- which of the sinks
pub asked_which : (m : MachineState) (output output' error error' : ℕ) → SinkCounts (Asks m) output output' error error'
    → Asks m WriteOutput ⊎ Asks m WriteError
asked_which m output output' error error' (inl h) = inl h.0
asked_which m output output' error error' (inr h) = inr h.0

pub run_read_fault : (fault : StepFault) → run_fault fault ≡ RunReadFault → fault ≡ ReadFault
run_read_fault (Trapped trap) e = cc
run_read_fault ReadFault e = refl
run_read_fault WriteFault e = cc

-- a run tells the fault of its last step
pub told : {A B : Type 0} (fault other : StepFault) → ◌≡◌ {A = Result A StepFault} (Err fault) (Err other)
    → ◌≡◌ {A = Result B RunFault} (Err (run_fault fault)) (Err (run_fault other))
told fault other same = let e : fault ≡ other = cc in ap (λ f. Err (run_fault f)) e

pub progress_spent : (old new : MachineState) (done steps : ℕ) (at_end : Bool) (before now : Outside) → done ≡ steps
    → Progress old done new at_end before now → GoesOn old steps new before now
progress_spent old new done steps at_end before now all p =
    subst (λ n. GoesOn old n new before now) all (goes_on old new done at_end before now p)

-- What an outcome is, where the store and the source tell all and no fault is counted.
use Rattle.std.proofs.Common.{◌≡◌, ◌∙◌, ◌⊎◌, inl, inr, ℕ, ◌+◌, ◌-◌, ◌<◌, ◌≤◌, Bool, List, [], ◌∷◌, length}
use Rattle.std.proofs.Common.{Option, Some, None, IfSome, Result, Ok, refl, ap, sym, subst, arith}
use Rattle.std.specs.FinMap.{get}
use Rattle.std.specs.Option.{option_map}
use Rattle.num_core.specs.Run.{Run, Running, Ended as EndedRun, Stopped, Streams, after}
use Rattle.num_core.proofs.Runs.{after-add, after-ended, after-stopped}
use Rattle.ilc_io.specs.Count.{HasRisen}
use Rattle.ilc_io.specs.Store.{Store}
use Rattle.il_code.specs.declared.body.Body.{Body}
use Rattle.il_code.specs.declared.body.Instr.{Instr}
use Rattle.il_code.specs.Listing.{listed, first_bad_target}
use Rattle.il_code.specs.Tiny.{tiny_body}
use Rattle.il_text.specs.Assembling.{assembled}
use Rattle.rv_step.specs.Machine.{MachineState, machine_step, machine_run}
use Rattle.rv_step.specs.declared.trap.Trap.{Trap}
use Rattle.elf_file.specs.Elf.{loaded}
use Rattle.ilc_build.specs.Bare.{ReadsBare, first_past}
use Rattle.ilc_build.specs.Depths.{IsLeast, first_against, has_operation, is_verified_at}
use Rattle.ilc_build.specs.Typing.{tiny_max_stack}
use Rattle.ilc_build.specs.declared.depths.Known.{Known}
use Rattle.ilc_build.proofs.Refused.{one_table}
use Rattle.ilc.specs.Answer.{NoneCounted, NoneOfStreams}
use Rattle.md_tables.specs.Modules.{ModuleParts}
use Rattle.ilc.specs.Cause.{NotTaken, MachineOutcome, WriteOutcome, SinkFails, spent, trapped, Assembles}
use Rattle.ilc.specs.Cause.{TextOutcome}
use Rattle.ilc.specs.Seen.{StoreSeen, StreamsSeen}
use Rattle.ilc.specs.Stages.{Stage, Header, Opcodes, Targets, Flow, Operations, Verification, Load, Image, Tables}
use Rattle.ilc.specs.Stages.{Lines, body_stages, elf_stages, assembly_stages, text_stages, Finding, found_at}
use Rattle.ilc.specs.Stages.{refused_at, image_finding, refused_tables, refused_text, OfCode, OfInstructions, OfTable}
use Rattle.ilc.specs.Stages.{Finds, IsFirst, IsRefused, refusal_of}
use Rattle.ilc.specs.declared.refusal.Fault.TheVariants.{BadHeader, BadOpcode, BadTarget, OpcodeOutside, Unverified}
use Rattle.ilc.specs.declared.refusal.Fault.TheVariants.{BadElf}
use Rattle.ilc.specs.declared.outcome.Outcome.{Outcome}
use Rattle.ilc.specs.declared.outcome.Outcome.TheVariants.{Usage, NoFile, TooLong, Refused, ReadFault, WriteFault}
use Rattle.ilc.specs.declared.outcome.Outcome.TheVariants.{Ended, Written, Memory}
use Rattle.ilc.specs.declared.refusal.Refusal.{Refusal}

-- ---- each stage finds one thing

one_ok : {X : Type 0} (r : Result X ℕ) (x y : X) → r ≡ Ok x → r ≡ Ok y → x ≡ y
one_ok r x y e f = let both : Ok x ≡ Ok y = sym e ∙ f in cc

pub same_some : {X : Type 0} (x y : X) → Some x ≡ Some y → x ≡ y
same_some x y e = cc

no_some : {X : Type 0} (x : X) → Some x ≡ None → ⊥
no_some x e = cc

one_of_code : {X : Type 0} (f : List ℕ → Option X) (bytes : List ℕ) (a b : Option X) → OfCode bytes (λ code. f code ≡ a)
    → OfCode bytes (λ code. f code ≡ b) → a ≡ b
one_of_code f bytes a b h h' =
    let same : h.0 ≡ h'.0 = one_ok (tiny_body bytes) h.0 h'.0 h.1 h'.1 in
    sym h.2 ∙ (ap f same ∙ h'.2)

one_of_instructions : {X : Type 0} (f : List Instr → Option X) (bytes : List ℕ) (a b : Option X)
    → OfInstructions bytes (λ instrs. f instrs ≡ a) → OfInstructions bytes (λ instrs. f instrs ≡ b) → a ≡ b
one_of_instructions f bytes a b h h' =
    let same : h.0 ≡ h'.0 = one_ok (tiny_body bytes) h.0 h'.0 h.1 h'.1 in
    let instrs : h.2.0 ≡ h'.2.0 = one_ok (listed h.0) h.2.0 h'.2.0 h.2.1 (ap listed same ∙ h'.2.1) in
    sym h.2.2 ∙ (ap f instrs ∙ h'.2.2)

one_of_table : {X : Type 0} (f : List Instr → List Known → Option X) (bytes : List ℕ) (a b : Option X)
    → OfTable bytes (λ instrs table. f instrs table ≡ a) → OfTable bytes (λ instrs table. f instrs table ≡ b) → a ≡ b
one_of_table f bytes a b h h' =
    let same : h.0 ≡ h'.0 = one_ok (tiny_body bytes) h.0 h'.0 h.1 h'.1 in
    let instrs : h.2.0 ≡ h'.2.0 = one_ok (listed h.0) h.2.0 h'.2.0 h.2.1 (ap listed same ∙ h'.2.1) in
    let least : IsLeast h.2.0 h'.2.2.0 = subst (λ l. IsLeast l h'.2.2.0) (sym instrs) h'.2.2.1 in
    let table : h.2.2.0 ≡ h'.2.2.0 = one_table h.2.0 h.2.2.0 h'.2.2.0 h.2.2.1 least in
    sym h.2.2.2 ∙ (ap (f h.2.0) table ∙ (ap (λ l. f l h'.2.2.0) instrs ∙ h'.2.2.2))

finds_one : (stage : Stage) (bytes : List ℕ) (a b : Option Finding) → Finds stage bytes a → Finds stage bytes b → a ≡ b
finds_one Header bytes a b h h' = sym h ∙ h'
finds_one Opcodes bytes a b h h' = one_of_code (λ code. refused_at BadOpcode (listed code)) bytes a b h h'
finds_one Targets bytes a b h h' =
    one_of_instructions (λ instrs. found_at BadTarget (first_bad_target instrs)) bytes a b h h'
finds_one Flow bytes a b h h' =
    one_of_table (λ instrs table. found_at BadTarget (first_past instrs table)) bytes a b h h'
finds_one Operations bytes a b h h' =
    one_of_table (λ instrs table. found_at OpcodeOutside (first_against has_operation instrs table)) bytes a b h h'
finds_one Verification bytes a b h h' =
    one_of_table (λ instrs table. found_at Unverified (first_against (is_verified_at tiny_max_stack) instrs table))
    bytes a b h h'
finds_one Load bytes a b h h' = sym h ∙ h'
finds_one Image bytes a b h h' = sym h ∙ h'
finds_one Tables bytes a b h h' = sym h ∙ h'
finds_one Lines bytes a b h h' = sym h ∙ h'

first_one : (stages : List Stage) (bytes : List ℕ) (f f' : Finding) → IsFirst stages bytes f → IsFirst stages bytes f'
    → f ≡ f'
first_one [] bytes f f' h h' = absurd h
first_one (next ∷ stages) bytes f f' (inl h) (inl h') = same_some f f' (finds_one next bytes (Some f) (Some f') h h')
first_one (next ∷ stages) bytes f f' (inl h) (inr h') = absurd (no_some f (finds_one next bytes (Some f) None h h'.0))
first_one (next ∷ stages) bytes f f' (inr h) (inl h') = absurd (no_some f' (finds_one next bytes (Some f') None h' h.0))
first_one (next ∷ stages) bytes f f' (inr h) (inr h') = first_one stages bytes f f' h.1 h'.1

one_refusal : (stages : List Stage) (file bytes : List ℕ) (r r' : Refusal) → IsRefused stages file bytes r
    → IsRefused stages file bytes r' → r ≡ r'
one_refusal stages file bytes r r' h h' =
    h.told ∙ (ap (refusal_of file) (first_one stages bytes h.found h'.found h.first h'.first) ∙ sym h'.told)

-- ---- bytes that pass

-- no stage finds a fault
abbrev pub AllPass : List Stage → List ℕ → Type 0
AllPass [] bytes = Unit {0}
AllPass (next ∷ stages) bytes = Finds next bytes None × AllPass stages bytes

pub not_refused : (stages : List Stage) (bytes : List ℕ) (f : Finding) → AllPass stages bytes → IsFirst stages bytes f
    → ⊥
not_refused [] bytes f pass h = h
not_refused (next ∷ stages) bytes f pass (inl h) = no_some f (finds_one next bytes (Some f) None h pass.0)
not_refused (next ∷ stages) bytes f pass (inr h) = not_refused stages bytes f pass.1 h.1

pub bare_passes : (bytes : List ℕ) (body : Body) (table : List Known) → ReadsBare bytes body table
    → AllPass body_stages bytes
bare_passes bytes body table reads =
    let bare = reads.bare in
    let targets = ap (found_at BadTarget) bare.targets in
    let past = ap (found_at BadTarget) bare.past in
    let operations = ap (found_at OpcodeOutside) bare.operations in
    let verified = ap (found_at Unverified) bare.verified in (
      ap (refused_at BadHeader) reads.header,
      (
        (reads.code, reads.header, ap (refused_at BadOpcode) bare.instructions),
        (
          (reads.code, reads.header, (body.code, bare.instructions, targets)),
          (
            (reads.code, reads.header, (body.code, bare.instructions, (table, bare.least, past))),
            (
              (reads.code, reads.header, (body.code, bare.instructions, (table, bare.least, operations))),
              ((reads.code, reads.header, (body.code, bare.instructions, (table, bare.least, verified))), tt),
            ),
          ),
        ),
      ),
    )

pub elf_passes : (bytes : List ℕ) (machine : MachineState) → loaded bytes ≡ Ok machine → AllPass elf_stages bytes
elf_passes bytes machine e = (ap (refused_at BadElf) e, tt)

pub assembly_passes : (bytes : List ℕ) (m : ModuleParts) → Assembles bytes m → AllPass assembly_stages bytes
assembly_passes bytes m h = (ap (option_map image_finding) h.image, (ap refused_tables h.tables, tt))

pub text_passes : (bytes : List ℕ) (m : ModuleParts) → assembled bytes ≡ Ok m → AllPass text_stages bytes
text_passes bytes m e = (ap refused_text e, tt)

-- ---- a file that isn't taken

-- what comes of a file with these bytes, or of one that isn't there
abbrev pub Shape : List Stage → List ℕ → ℕ → Option (List ℕ) → Outcome → Type 0
Shape stages name limit None o = o ≡ NoFile name
Shape stages name limit (Some bytes) o =
    ((limit < length bytes) × (o ≡ TooLong (length bytes)))
    ⊎ ((length bytes ≤ limit) × ((refusal : Refusal) × (o ≡ Refused refusal) × IsRefused stages name bytes refusal))

one_shape : (stages : List Stage) (name : List ℕ) (limit : ℕ) (found : Option (List ℕ)) (o o' : Outcome)
    → Shape stages name limit found o → Shape stages name limit found o' → o ≡ o'
one_shape stages name limit None o o' h h' = h ∙ sym h'
one_shape stages name limit (Some bytes) o o' (inl h) (inl h') = h.1 ∙ sym h'.1
one_shape stages name limit (Some bytes) o o' (inl h) (inr h') = absurd (let a = h.0 in let b = h'.0 in omega arith)
one_shape stages name limit (Some bytes) o o' (inr h) (inl h') = absurd (let a = h.0 in let b = h'.0 in omega arith)
one_shape stages name limit (Some bytes) o o' (inr h) (inr h') =
    h.1.1 ∙ (ap Refused (one_refusal stages name bytes h.1.0 h'.1.0 h.1.2 h'.1.2) ∙ sym h'.1.1)

long_shape : (stages : List Stage) (name : List ℕ) (limit size : ℕ) (found : Option (List ℕ))
    → option_map length found ≡ Some size → limit < size → Shape stages name limit found (TooLong size)
long_shape stages name limit size None e above = absurd (let h : None ≡ Some size = e in cc)
long_shape stages name limit size (Some bytes) e above =
    let same : length bytes ≡ size = same_some (length bytes) size e in
    inl (omega arith, ap TooLong (sym same))

pub shape_of : (stages : List Stage) (name : List ℕ) (limit : ℕ) (before now : StoreSeen) (store : Store) (o : Outcome)
    → before.told ≡ Some store → NoneCounted before now → NotTaken stages name limit before now o
    → (o ≡ Memory) ⊎ Shape stages name limit (get store name) o
shape_of stages name limit before now store (NoFile file) told none h =
    inr (subst (λ f. Shape stages name limit f (NoFile file)) (sym (h.1.not_there store told)) (ap NoFile h.0))
shape_of stages name limit before now store (TooLong size) told none h =
    inr (long_shape stages name limit size (get store name) (h.its_size store told) h.above)
shape_of stages name limit before now store (Refused refusal) told none h =
    let size : length h.0 ≤ limit = (let a = h.1.whole in let b = h.1.within in omega arith) in
    inr (subst (λ f. Shape stages name limit f (Refused refusal)) (sym (h.1.content store told))
    (inr (size, (refusal, refl, h.2))))
shape_of stages name limit before now store ReadFault told none h = absurd (none.0 h.0)
shape_of stages name limit before now store Memory told none h = inl refl
shape_of stages name limit before now store (Usage index) told none h = absurd h
shape_of stages name limit before now store WriteFault told none h = absurd h
shape_of stages name limit before now store (Ended status) told none h = absurd h
shape_of stages name limit before now store Written told none h = absurd h

-- a file whose bytes pass, and are not too many, has no such outcome
pub no_shape : (stages : List Stage) (name : List ℕ) (limit : ℕ) (store : Store) (bytes : List ℕ) (o : Outcome)
    → get store name ≡ Some bytes → length bytes ≤ limit → AllPass stages bytes
    → Shape stages name limit (get store name) o → ⊥
no_shape stages name limit store bytes o content small pass h = by (subst (λ f. Shape stages name limit f o) content h)
  where
    by : Shape stages name limit (Some bytes) o → ⊥
    by (inl h) = let a = h.0 in omega arith
    by (inr h) = not_refused stages bytes h.1.2.found pass h.1.2.first

pub not_taken_one : (stages : List Stage) (name : List ℕ) (limit : ℕ) (store : Store) (o o' : Outcome)
    → (o ≡ Memory) ⊎ Shape stages name limit (get store name) o
    → (o' ≡ Memory) ⊎ Shape stages name limit (get store name) o' → (o ≡ Memory) ⊎ ((o' ≡ Memory) ⊎ (o ≡ o'))
not_taken_one stages name limit store o o' (inl e) h' = inl e
not_taken_one stages name limit store o o' (inr h) (inl e) = inr (inl e)
not_taken_one stages name limit store o o' (inr h) (inr h') = inr
    (inr (one_shape stages name limit (get store name) o o' h h'))

pub is_memory : {P : Type 0} (o : Outcome) → (P → ⊥) → (o ≡ Memory) ⊎ P → o ≡ Memory
is_memory o never (inl e) = e
is_memory o never (inr p) = absurd (never p)

-- ---- a file that is written

pub written_or_memory : (out elf : List ℕ) (before now : StoreSeen) (o : Outcome)
    → (HasRisen before.write_faults now.write_faults → ⊥) → WriteOutcome out elf before now o
    → (o ≡ Written) ⊎ (o ≡ Memory)
written_or_memory out elf before now Written none h = inl refl
written_or_memory out elf before now Memory none h = inr refl
written_or_memory out elf before now WriteFault none h = absurd (none h.0)
written_or_memory out elf before now (Usage index) none h = absurd h
written_or_memory out elf before now (NoFile file) none h = absurd h
written_or_memory out elf before now (TooLong size) none h = absurd h
written_or_memory out elf before now (Refused refusal) none h = absurd h
written_or_memory out elf before now ReadFault none h = absurd h
written_or_memory out elf before now (Ended status) none h = absurd h

-- ---- a machine that runs

-- what comes of a run that stands so when all steps that it may do are done
abbrev pub OutcomeOf : ℕ → Run MachineState Trap → Outcome → Type 0
OutcomeOf limit (Running machine streams) o = o ≡ Refused (spent limit)
OutcomeOf limit (EndedRun status streams) o = o ≡ Ended status
OutcomeOf limit (Stopped trap streams) o = o ≡ Refused (trapped trap)

pub one_of_run : (limit : ℕ) (run : Run MachineState Trap) (o o' : Outcome) → OutcomeOf limit run o
    → OutcomeOf limit run o' → o ≡ o'
one_of_run limit (Running machine streams) o o' h h' = h ∙ sym h'
one_of_run limit (EndedRun status streams) o o' h h' = h ∙ sym h'
one_of_run limit (Stopped trap streams) o o' h h' = h ∙ sym h'

pub still_ended : (machine : MachineState) (input : List ℕ) (steps limit status : ℕ) (streams : Streams) → steps ≤ limit
    → machine_run machine input steps ≡ EndedRun status streams
    → machine_run machine input limit ≡ EndedRun status streams
still_ended machine input steps limit status streams within e =
    let start : Run MachineState Trap = Running machine (record { input = input; output = []; error = [] }) in
    let sum : limit ≡ (limit - steps) + steps = omega arith in
    ap (λ n. after machine_step n start) sum
    ∙ (after-add machine_step (limit - steps) steps start
    ∙ (ap (after machine_step (limit - steps)) e ∙ after-ended machine_step (limit - steps) status streams))

still_stopped : (machine : MachineState) (input : List ℕ) (steps limit : ℕ) (trap : Trap) (streams : Streams)
    → steps ≤ limit → machine_run machine input steps ≡ Stopped trap streams
    → machine_run machine input limit ≡ Stopped trap streams
still_stopped machine input steps limit trap streams within e =
    let start : Run MachineState Trap = Running machine (record { input = input; output = []; error = [] }) in
    let sum : limit ≡ (limit - steps) + steps = omega arith in
    ap (λ n. after machine_step n start) sum
    ∙ (after-add machine_step (limit - steps) steps start
    ∙ (ap (after machine_step (limit - steps)) e ∙ after-stopped machine_step (limit - steps) trap streams))

-- the input of a run is what the source had left
its_input : (rest : Option (List ℕ)) (input given : List ℕ) → rest ≡ Some input → IfSome rest (λ left. left ≡ given)
    → given ≡ input
its_input rest input given e h = sym (subst (λ r. IfSome r (λ left. left ≡ given)) e h)

pub run_outcome : (machine : MachineState) (limit : ℕ) (count : Bool) (before now : StreamsSeen) (input : List ℕ)
    (o : Outcome)
    → before.outside.rest ≡ Some input → NoneOfStreams before now → MachineOutcome machine limit count before now o
    → OutcomeOf limit (machine_run machine input limit) o
run_outcome machine limit count before now input (Ended status) told none h =
    let ends = h.2.ends in
    let same : ends.given ≡ input = its_input before.outside.rest input ends.given told ends.passes.taken in
    let at : machine_run machine input h.0 ≡ EndedRun status ends.streams = subst
    (λ i. machine_run machine i h.0 ≡ EndedRun status ends.streams) same ends.ended in
    subst (λ r. OutcomeOf limit r (Ended status))
    (sym (still_ended machine input h.0 limit status ends.streams h.2.within at)) refl
run_outcome machine limit count before now input (Refused refusal) told none (inl h) =
    let same : h.2.given ≡ input = its_input before.outside.rest input h.2.given told h.2.passes.taken in
    let at : machine_run machine input limit ≡ Running h.1 h.2.streams = subst
    (λ i. machine_run machine i limit ≡ Running h.1 h.2.streams) same h.2.running in
    subst (λ r. OutcomeOf limit r (Refused refusal)) (sym at) (ap Refused h.0)
run_outcome machine limit count before now input (Refused refusal) told none (inr h) =
    let traps = h.3 in
    let same : traps.given ≡ input = its_input before.outside.rest input traps.given told traps.passes.taken in
    let at : machine_run machine input (traps.done + 1) ≡ Stopped h.0 traps.streams = subst
    (λ i. machine_run machine i (traps.done + 1) ≡ Stopped h.0 traps.streams) same traps.stopped in
    let within : traps.done + 1 ≤ limit = (let a = traps.within in omega arith) in
    subst (λ r. OutcomeOf limit r (Refused refusal))
    (sym (still_stopped machine input (traps.done + 1) limit h.0 traps.streams within at)) (ap Refused h.1)
run_outcome machine limit count before now input ReadFault told none h = absurd (none.0 h.0)
run_outcome machine limit count before now input WriteFault told none (inl h) = absurd (by h.1)
  where
    by : SinkFails h.0 before now → ⊥
    by (inl s) = none.1 s.1
    by (inr s) = none.2 s.1
run_outcome machine limit count before now input WriteFault told none (inr h) =
    absurd (none.2 (subst (λ n. HasRisen n now.error_faults) h.1.3.error_faults h.1.4.2))
run_outcome machine limit count before now input (Usage index) told none h = absurd h
run_outcome machine limit count before now input (NoFile file) told none h = absurd h
run_outcome machine limit count before now input (TooLong size) told none h = absurd h
run_outcome machine limit count before now input Written told none h = absurd h
run_outcome machine limit count before now input Memory told none h = absurd h

-- ---- a text that is written as output

pub text_written : (text : List ℕ) (before now : StreamsSeen) (o : Outcome) → NoneOfStreams before now
    → TextOutcome text before now o → o ≡ Written
text_written text before now Written none h = refl
text_written text before now WriteFault none h = absurd (none.1 h.2)
text_written text before now (Usage index) none h = absurd h
text_written text before now (NoFile file) none h = absurd h
text_written text before now (TooLong size) none h = absurd h
text_written text before now (Refused refusal) none h = absurd h
text_written text before now ReadFault none h = absurd h
text_written text before now (Ended status) none h = absurd h
text_written text before now Memory none h = absurd h

-- Where the store and the source tell all, words come to one outcome; and what outcome that is.
use Rattle.std.proofs.Common.{◌≡◌, ◌∙◌, ◌⊎◌, inl, inr, ℕ, ◌≤◌, Bool, List, length, Some, Result, Ok, Err}
use Rattle.std.proofs.Common.{ap, sym, subst, arith}
use Rattle.std.specs.FinMap.{get}
use Rattle.num_core.specs.Run.{Ended as EndedRun}
use Rattle.ilc_io.specs.Count.{HasRisen}
use Rattle.ilc_io.specs.Store.{Store}
use Rattle.rv_step.specs.Machine.{MachineState, machine_run}
use Rattle.elf_file.specs.Elf.{loaded}
use Rattle.ilc_build.proofs.Refused.{small}
use Rattle.ilc_build.specs.Implements.{Builds}
use Rattle.ilc.specs.Answer.{HasBare, HasProgram, HasAssembly, HasText, NoneCounted, NoneOfStreams}
use Rattle.ilc.specs.Answer.{TellsAll, ComesTo, AreOne}
use Rattle.ilc.specs.Cause.{IsLoaded, IsTaken, IsRead, IsImageOf, MakingOutcome, BodyOutcome, AsmOutcome}
use Rattle.ilc.specs.Cause.{RunOutcome, CommandOutcome}
use Rattle.md_tables.specs.Modules.{ModuleParts}
use Rattle.il_text.specs.Listing.{listing_of}
use Rattle.ilc.specs.Cause.{IsAssembly, DisOutcome, file_limit, elf_limit}
use Rattle.ilc.specs.Seen.{StoreSeen, StreamsSeen}
use Rattle.ilc.specs.Stages.{Stage, body_stages, elf_stages, assembly_stages, text_stages}
use Rattle.ilc.specs.Words.{command_of}
use Rattle.ilc.specs.declared.command.Command.{Command}
use Rattle.ilc.specs.declared.command.Command.TheVariants.{Body, Run as RunCommand, Dis, Asm}
use Rattle.ilc.specs.declared.outcome.Outcome.{Outcome}
use Rattle.ilc.specs.declared.outcome.Outcome.TheVariants.{Usage}
use Rattle.ilc.specs.declared.outcome.Outcome.TheVariants.{Ended, Written, Memory}
use Rattle.ilc.proofs.Shapes.{assembly_passes, text_passes, text_written, same_some}
use Rattle.ilc.proofs.Shapes.{Shape, AllPass, bare_passes, elf_passes, shape_of, no_shape, not_taken_one, is_memory}
use Rattle.ilc.proofs.Shapes.{written_or_memory, OutcomeOf, one_of_run, still_ended, run_outcome}

two : (o o' : Outcome) → (o ≡ Written) ⊎ (o ≡ Memory) → (o' ≡ Written) ⊎ (o' ≡ Memory) → AreOne o o'
two o o' (inr e) h' = inl e
two o o' (inl e) (inr e') = inr (inl e')
two o o' (inl e) (inl e') = inr (inr (e ∙ sym e'))

-- ---- files that are made of others

read_small : (name : List ℕ) (limit : ℕ) (bytes : List ℕ) (before now : StoreSeen) → IsRead name limit bytes before now
    → length bytes ≤ limit
read_small name limit bytes before now read = let a = read.whole in let b = read.within in omega arith

-- bytes pass of which others may be made
abbrev pub Passes : (List ℕ → List ℕ → Type 0) → List Stage → Type 0
Passes Makes stages = (bytes made : List ℕ) → Makes bytes made → AllPass stages bytes

built_passes : Passes Builds body_stages
built_passes bytes elf builds = bare_passes bytes builds.body builds.table builds.reads

imaged_passes : Passes IsImageOf text_stages
imaged_passes bytes image is = text_passes bytes is.m is.means

taken_by : (Makes : List ℕ → List ℕ → Type 0) (file out : List ℕ) (before now : StoreSeen) (o : Outcome)
    → NoneCounted before now → IsTaken Makes file out before now o → (o ≡ Written) ⊎ (o ≡ Memory)
taken_by Makes file out before now o none h =
    written_or_memory out h.made h.between now o
    (λ risen. none.1 (subst (λ n. HasRisen n now.write_faults) h.is_made.write_faults risen)) h.writes

-- where another file was made of one, no outcome of a file that isn't taken comes
made_not_shape : (Makes : List ℕ → List ℕ → Type 0) (stages : List Stage) (file out : List ℕ) (before now : StoreSeen)
    (store : Store) (o o' : Outcome)
    → Passes Makes stages → before.told ≡ Some store → IsTaken Makes file out before now o
    → Shape stages file file_limit (get store file) o' → ⊥
made_not_shape Makes stages file out before now store o o' passes told h shape =
    let made = h.is_made in
    no_shape stages file file_limit store made.bytes o' (made.read.content store told)
    (read_small file file_limit made.bytes before h.between made.read) (passes made.bytes h.made made.makes) shape

one_made : (Makes : List ℕ → List ℕ → Type 0) (stages : List Stage) (file out : List ℕ) (before now now' : StoreSeen)
    (store : Store) (o o' : Outcome)
    → Passes Makes stages → before.told ≡ Some store → NoneCounted before now → NoneCounted before now'
    → MakingOutcome Makes stages file out before now o → MakingOutcome Makes stages file out before now' o'
    → AreOne o o'
one_made Makes stages file out before now now' store o o' passes told none none' (inl h) (inl h') =
    not_taken_one stages file file_limit store o o' (shape_of stages file file_limit before now store o told none h.0)
    (shape_of stages file file_limit before now' store o' told none' h'.0)
one_made Makes stages file out before now now' store o o' passes told none none' (inl h) (inr h') =
    inl (is_memory o (made_not_shape Makes stages file out before now' store o' o passes told h')
    (shape_of stages file file_limit before now store o told none h.0))
one_made Makes stages file out before now now' store o o' passes told none none' (inr h) (inl h') =
    inr (inl (is_memory o' (made_not_shape Makes stages file out before now store o o' passes told h)
    (shape_of stages file file_limit before now' store o' told none' h'.0)))
one_made Makes stages file out before now now' store o o' passes told none none' (inr h) (inr h') =
    two o o' (taken_by Makes file out before now o none h) (taken_by Makes file out before now' o' none' h')

pub body_done : (file out : List ℕ) (before now : StoreSeen) (o : Outcome) → HasBare file before.told
    → NoneCounted before now → BodyOutcome file out before now o → (o ≡ Written) ⊎ (o ≡ Memory)
body_done file out before now o bare none (inr h) = taken_by Builds file out before now o none h
body_done file out before now o bare none (inl h) =
    let few : length bare.bytes ≤ 64 = small bare.bytes bare.reads.code bare.reads.header bare.reads.size in
    inr (is_memory o (no_shape body_stages file file_limit bare.store bare.bytes o bare.content (omega arith)
    (bare_passes bare.bytes bare.body bare.table bare.reads))
    (shape_of body_stages file file_limit before now bare.store o bare.tells none h.0))

pub asm_done : (file out : List ℕ) (before now : StoreSeen) (o : Outcome) → HasText file before.told
    → NoneCounted before now → AsmOutcome file out before now o → (o ≡ Written) ⊎ (o ≡ Memory)
asm_done file out before now o has none (inr h) = taken_by IsImageOf file out before now o none h
asm_done file out before now o has none (inl h) =
    inr (is_memory o (no_shape text_stages file file_limit has.store has.bytes o has.content has.size
    (text_passes has.bytes has.m has.means))
    (shape_of text_stages file file_limit before now has.store o has.tells none h.0))

-- ---- runs

loaded_not_shape : (elf : List ℕ) (machine : MachineState) (before now : StoreSeen) (store : Store) (o : Outcome)
    → before.told ≡ Some store → IsLoaded elf machine before now → Shape elf_stages elf elf_limit (get store elf) o → ⊥
loaded_not_shape elf machine before now store o told h shape =
    no_shape elf_stages elf elf_limit store h.bytes o (h.read.content store told)
    (read_small elf elf_limit h.bytes before now h.read) (elf_passes h.bytes machine h.loads) shape

same_machine : (elf : List ℕ) (before now : StoreSeen) (store : Store) (bytes : List ℕ)
    (machine machine' : MachineState)
    → before.told ≡ Some store → get store elf ≡ Some bytes → loaded bytes ≡ Ok machine
    → IsLoaded elf machine' before now → machine' ≡ machine
same_machine elf before now store bytes machine machine' told content loads h =
    let same : h.bytes ≡ bytes = same_some h.bytes bytes (sym (h.read.content store told) ∙ content) in
    let both : Ok machine' ≡ Ok machine = sym h.loads ∙ (ap loaded same ∙ loads) in
    cc

one_run : (elf : List ℕ) (limit : ℕ) (count : Bool) (before now now' : StoreSeen) (streams s s' : StreamsSeen)
    (store : Store) (input : List ℕ) (o o' : Outcome)
    → before.told ≡ Some store → streams.outside.rest ≡ Some input → NoneCounted before now → NoneCounted before now'
    → NoneOfStreams streams s → NoneOfStreams streams s' → RunOutcome elf limit count before now streams s o
    → RunOutcome elf limit count before now' streams s' o' → AreOne o o'
one_run elf limit count before now now' streams s s' store input o o' told left none none' calm calm' (inl h) (inl h') =
    not_taken_one elf_stages elf elf_limit store o o'
    (shape_of elf_stages elf elf_limit before now store o told none h.0)
    (shape_of elf_stages elf elf_limit before now' store o' told none' h'.0)
one_run elf limit count before now now' streams s s' store input o o' told left none none' calm calm' (inl h) (inr h') =
    inl (is_memory o (loaded_not_shape elf h'.0 before now' store o told h'.1)
    (shape_of elf_stages elf elf_limit before now store o told none h.0))
one_run elf limit count before now now' streams s s' store input o o' told left none none' calm calm' (inr h) (inl h') =
    inr (inl (is_memory o' (loaded_not_shape elf h.0 before now store o' told h.1)
    (shape_of elf_stages elf elf_limit before now' store o' told none' h'.0)))
one_run elf limit count before now now' streams s s' store input o o' told left none none' calm calm' (inr h) (inr h') =
    let same : h'.0 ≡ h.0 = same_machine elf before now' store h.1.bytes h.0 h'.0 told (h.1.read.content store told)
    h.1.loads h'.1 in
    let run : OutcomeOf limit (machine_run h.0 input limit) o = run_outcome h.0 limit count streams s input o left calm
    h.2 in
    let run' : OutcomeOf limit (machine_run h'.0 input limit) o' = run_outcome h'.0 limit count streams s' input o'
    left calm' h'.2 in
    inr (inr (one_of_run limit (machine_run h.0 input limit) o o' run
    (subst (λ m. OutcomeOf limit (machine_run m input limit) o') same run')))

pub run_done : (elf : List ℕ) (limit : ℕ) (count : Bool) (steps status : ℕ) (before now : StoreSeen)
    (streams s : StreamsSeen) (o : Outcome)
    → steps ≤ limit → HasProgram elf steps status before.told streams.outside.rest → NoneCounted before now
    → NoneOfStreams streams s → RunOutcome elf limit count before now streams s o → (o ≡ Ended status) ⊎ (o ≡ Memory)
run_done elf limit count steps status before now streams s o within has none calm (inl h) =
    inr (is_memory o (no_shape elf_stages elf elf_limit has.store has.bytes o has.content has.size
    (elf_passes has.bytes has.machine has.loads))
    (shape_of elf_stages elf elf_limit before now has.store o has.tells none h.0))
run_done elf limit count steps status before now streams s o within has none calm (inr h) =
    let same : h.0 ≡ has.machine = same_machine elf before now has.store has.bytes has.machine h.0 has.tells
    has.content has.loads h.1 in
    let run : OutcomeOf limit (machine_run h.0 has.input limit) o = run_outcome h.0 limit count streams s has.input o
    has.left calm h.2 in
    let at : machine_run has.machine has.input limit ≡ EndedRun status has.streams = still_ended has.machine has.input
    steps limit status has.streams within has.ends in
    inl (subst (λ r. OutcomeOf limit r o) at (subst (λ m. OutcomeOf limit (machine_run m has.input limit) o) same run))

-- ---- assemblies

assembly_not_shape : (file : List ℕ) (m : ModuleParts) (before now : StoreSeen) (store : Store) (o : Outcome)
    → before.told ≡ Some store → IsAssembly file m before now
    → Shape assembly_stages file file_limit (get store file) o → ⊥
assembly_not_shape file m before now store o told h shape =
    no_shape assembly_stages file file_limit store h.bytes o (h.read.content store told)
    (read_small file file_limit h.bytes before now h.read) (assembly_passes h.bytes m h.assembles) shape

one_dis : (file : List ℕ) (before now now' : StoreSeen) (streams s s' : StreamsSeen) (store : Store) (o o' : Outcome)
    → before.told ≡ Some store → NoneCounted before now → NoneCounted before now' → NoneOfStreams streams s
    → NoneOfStreams streams s' → DisOutcome file before now streams s o → DisOutcome file before now' streams s' o'
    → AreOne o o'
one_dis file before now now' streams s s' store o o' told none none' calm calm' (inl h) (inl h') =
    not_taken_one assembly_stages file file_limit store o o'
    (shape_of assembly_stages file file_limit before now store o told none h.0)
    (shape_of assembly_stages file file_limit before now' store o' told none' h'.0)
one_dis file before now now' streams s s' store o o' told none none' calm calm' (inl h) (inr h') =
    inl (is_memory o (assembly_not_shape file h'.0 before now' store o told h'.1)
    (shape_of assembly_stages file file_limit before now store o told none h.0))
one_dis file before now now' streams s s' store o o' told none none' calm calm' (inr h) (inl h') =
    inr (inl (is_memory o' (assembly_not_shape file h.0 before now store o' told h.1)
    (shape_of assembly_stages file file_limit before now' store o' told none' h'.0)))
one_dis file before now now' streams s s' store o o' told none none' calm calm' (inr h) (inr h') =
    inr (inr (text_written (listing_of h.0) streams s o calm h.2
    ∙ sym (text_written (listing_of h'.0) streams s' o' calm' h'.2)))

pub dis_done : (file : List ℕ) (before now : StoreSeen) (streams s : StreamsSeen) (o : Outcome)
    → HasAssembly file before.told → NoneCounted before now → NoneOfStreams streams s
    → DisOutcome file before now streams s o → (o ≡ Written) ⊎ (o ≡ Memory)
dis_done file before now streams s o has none calm (inl h) =
    inr (is_memory o (no_shape assembly_stages file file_limit has.store has.bytes o has.content has.size
    (assembly_passes has.bytes has.m has.assembles))
    (shape_of assembly_stages file file_limit before now has.store o has.tells none h.0))
dis_done file before now streams s o has none calm (inr h) = inl (text_written (listing_of h.0) streams s o calm h.2)

-- ---- any words

usage_one : (index : ℕ) (o o' : Outcome) → (o ≡ Usage index) ⊎ (o ≡ Memory) → (o' ≡ Usage index) ⊎ (o' ≡ Memory)
    → AreOne o o'
usage_one index o o' (inr e) h' = inl e
usage_one index o o' (inl e) (inr e') = inr (inl e')
usage_one index o o' (inl e) (inl e') = inr (inr (e ∙ sym e'))

one_command : (asked : Result Command ℕ) (before now now' : StoreSeen) (streams s s' : StreamsSeen) (store : Store)
    (input : List ℕ) (o o' : Outcome)
    → before.told ≡ Some store → streams.outside.rest ≡ Some input → NoneCounted before now → NoneCounted before now'
    → NoneOfStreams streams s → NoneOfStreams streams s' → CommandOutcome asked before now streams s o
    → CommandOutcome asked before now' streams s' o' → AreOne o o'
one_command (Err index) before now now' streams s s' store input o o' told left none none' calm calm' h h' = usage_one
    index o o' h.0 h'.0
one_command (Ok (Body file out)) before now now' streams s s' store input o o' told left none none' calm calm' h h' =
    one_made Builds body_stages file out before now now' store o o' built_passes told none none' h.0 h'.0
one_command (Ok (RunCommand elf limit count)) before now now' streams s s' store input o o' told left none none' calm
    calm' h h' =
    one_run elf limit count before now now' streams s s' store input o o' told left none none' calm calm' h.0 h'.0
one_command (Ok (Dis file)) before now now' streams s s' store input o o' told left none none' calm calm' h h' =
    one_dis file before now now' streams s s' store o o' told none none' calm calm' h.0 h'.0
one_command (Ok (Asm file out)) before now now' streams s s' store input o o' told left none none' calm calm' h h' =
    one_made IsImageOf text_stages file out before now now' store o o' imaged_passes told none none' h.0 h'.0

pub one_outcome : (words : List (List ℕ)) (before : StoreSeen) (streams : StreamsSeen) (a b : Outcome)
    → TellsAll before.told streams.outside.rest → ComesTo words before streams a → ComesTo words before streams b
    → AreOne a b
one_outcome words before streams a b all h h' =
    one_command (command_of words) before h.now h'.now streams h.streams' h'.streams' all.store all.input a b all.files
    all.left h.store h'.store h.others h'.others h.cause h'.cause

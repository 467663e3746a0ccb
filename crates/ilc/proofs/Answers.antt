-- What the statuses of a body and of a run mean, and what the fields of refusals are.
use Rattle.std.proofs.Common.{◌≡◌, ◌∙◌, ◌⊎◌, inl, inr, ℕ, ◌≤◌, Bool, List, [], ◌∷◌, Option, Some, None, Result, Ok, Err}
use Rattle.std.proofs.Common.{refl, ap, sym}
use Rattle.std.proofs.Common.{subst, arith}
use Rattle.std.specs.Option.{option_map}
use Rattle.ilc_io.specs.Store.{stored}
use Rattle.il_code.specs.Listing.{listed, first_bad_target}
use Rattle.il_code.specs.Tiny.{tiny_body}
use Rattle.pe_image.specs.Conditions.{first_fault}
use Rattle.pe_image.specs.Pe.{conditions, parts_of}
use Rattle.pe_image.specs.declared.fault.PeFault.{PeFault}
use Rattle.pe_image.specs.declared.fault.PeFault.TheVariants.{NotPe as NoPe, NoCliHeader as NoHeader, Cut as IsCut}
use Rattle.md_tables.specs.Finished.{module_of}
use Rattle.md_tables.specs.declared.fault.TableFault.{TableFault}
use Rattle.md_tables.specs.declared.fault.TableFault.TheVariants.{BadTable as BadRow, RefusedTable as RefusedRows}
use Rattle.md_tables.specs.declared.fault.TableFault.TheVariants.{BadHeader as BadBody, Memory as NoMemory}
use Rattle.il_text.specs.Assembling.{assembled}
use Rattle.il_text.specs.Listing.{listing_of}
use Rattle.il_text.specs.declared.fault.IlTextFault.{IlTextFault}
use Rattle.il_text.specs.declared.fault.IlTextFault.TheVariants.{BadText as BadWord, Memory as WantsMemory}
use Rattle.rv_step.specs.Machine.{MachineState}
use Rattle.elf_file.specs.Elf.{loaded}
use Rattle.ilc_build.specs.Bare.{first_past}
use Rattle.ilc_build.specs.Depths.{first_against, has_operation, is_verified_at}
use Rattle.ilc_build.specs.Implements.{Builds}
use Rattle.ilc_build.specs.Typing.{tiny_max_stack}
use Rattle.ilc.specs.Answer.{HasWritten, HasBare, HasProgram, HasListed, HasAssembly, HasImage, HasText, NoneCounted}
use Rattle.ilc.specs.Answer.{NoneOfStreams}
use Rattle.ilc.specs.Cause.{NotTaken, IsImageOf, WriteOutcome, MachineOutcome, MakingOutcome, BodyOutcome}
use Rattle.ilc.specs.Cause.{AsmOutcome, RunOutcome, DisOutcome, TextOutcome, CommandOutcome, Cause, file_limit}
use Rattle.ilc.specs.Cause.{elf_limit}
use Rattle.ilc.specs.Line.{status_of}
use Rattle.ilc.specs.Printed.{Adds}
use Rattle.ilc.specs.Refusals.{IsFormed, refusal_row}
use Rattle.ilc.specs.Seen.{StoreSeen, StreamsSeen}
use Rattle.ilc.specs.Stages.{Stage, Header, Opcodes, Targets, Flow, Operations, Verification, Load, Image, Tables}
use Rattle.ilc.specs.Stages.{Lines, body_stages, elf_stages, assembly_stages, text_stages, Finding, finding, found_at}
use Rattle.ilc.specs.Stages.{refused_at, image_finding, table_finding, refused_tables, refused_text, Finds}
use Rattle.ilc.specs.Stages.{IsFirst, refusal_of}
use Rattle.ilc.specs.Words.{command_of}
use Rattle.ilc.specs.declared.command.Command.{Command}
use Rattle.ilc.specs.declared.command.Command.TheVariants.{Body, Run, Dis, Asm}
use Rattle.ilc.specs.declared.outcome.Outcome.{Outcome}
use Rattle.ilc.specs.declared.outcome.Outcome.TheVariants.{Usage, NoFile, TooLong, Refused, ReadFault, WriteFault}
use Rattle.ilc.specs.declared.outcome.Outcome.TheVariants.{Ended, Written, Memory}
use Rattle.ilc.specs.declared.refusal.Fault.{Fault}
use Rattle.ilc.specs.declared.refusal.Fault.TheVariants.{NotPe, NoCliHeader, Cut, BadTable, RefusedTable, BadHeader}
use Rattle.ilc.specs.declared.refusal.Fault.TheVariants.{BadOpcode, BadTarget, Unverified, Spent, OpcodeOutside, Trap}
use Rattle.ilc.specs.declared.refusal.Fault.TheVariants.{BadElf, BadText}
use Rattle.ilc.specs.declared.refusal.Refusal.{Refusal}
use Rattle.ilc.proofs.OneOutcome.{body_done, asm_done, run_done, dis_done}
use Rattle.ilc.proofs.Shapes.{same_some}

-- ---- a body that comes out with status 0 was written

fault_fails : (fault : Fault) → (refusal_row fault).status ≡ 0 → ⊥
fault_fails NotPe e = omega arith
fault_fails NoCliHeader e = omega arith
fault_fails Cut e = omega arith
fault_fails BadTable e = omega arith
fault_fails RefusedTable e = omega arith
fault_fails BadHeader e = omega arith
fault_fails BadOpcode e = omega arith
fault_fails BadTarget e = omega arith
fault_fails Unverified e = omega arith
fault_fails Spent e = omega arith
fault_fails OpcodeOutside e = omega arith
fault_fails Trap e = omega arith
fault_fails BadElf e = omega arith
fault_fails BadText e = omega arith

not_taken_fails : (stages : List Stage) (name : List ℕ) (limit : ℕ) (before now : StoreSeen) (o : Outcome)
    → NotTaken stages name limit before now o → status_of o ≡ 0 → ⊥
not_taken_fails stages name limit before now (NoFile file) h e = omega arith
not_taken_fails stages name limit before now (TooLong size) h e = omega arith
not_taken_fails stages name limit before now ReadFault h e = omega arith
not_taken_fails stages name limit before now (Refused refusal) h e =
    fault_fails refusal.fault e
not_taken_fails stages name limit before now Memory h e = omega arith
not_taken_fails stages name limit before now (Usage index) h e = h
not_taken_fails stages name limit before now WriteFault h e = h
not_taken_fails stages name limit before now (Ended status) h e = h
not_taken_fails stages name limit before now Written h e = h

written_at_0 : (out made : List ℕ) (before now : StoreSeen) (o : Outcome) → WriteOutcome out made before now o
    → status_of o ≡ 0 → now.told ≡ option_map (stored out made) before.told
written_at_0 out made before now Written h e = h.0
written_at_0 out made before now WriteFault h e = absurd (omega arith)
written_at_0 out made before now Memory h e = absurd (omega arith)
written_at_0 out made before now (Usage index) h e = absurd h
written_at_0 out made before now (NoFile file) h e = absurd h
written_at_0 out made before now (TooLong size) h e = absurd h
written_at_0 out made before now (Refused refusal) h e = absurd h
written_at_0 out made before now ReadFault h e = absurd h
written_at_0 out made before now (Ended status) h e = absurd h

body_written : (file out : List ℕ) (before now : StoreSeen) (o : Outcome) → BodyOutcome file out before now o
    → status_of o ≡ 0 → HasWritten file out before.told now.told
body_written file out before now o (inl h) e = absurd (not_taken_fails body_stages file file_limit before now o h.0 e)
body_written file out before now o (inr h) e =
    record {
      bytes = h.is_made.bytes;
      read = h.is_made.read.content;
      elf = h.made;
      builds = h.is_made.makes;
      written = written_at_0 out h.made h.between now o h.writes e ∙ ap (option_map (stored out h.made))
          h.is_made.same_files;
    }

pub cause_written : (words : List (List ℕ)) (before now : StoreSeen) (streams streams' : StreamsSeen) (o : Outcome)
    (file out : List ℕ)
    → Cause words before now streams streams' o → command_of words ≡ Ok (Body file out) → status_of o ≡ 0
    → HasWritten file out before.told now.told
cause_written words before now streams streams' o file out cause command zero =
    let its_cause : CommandOutcome (Ok (Body file out)) before now streams streams' o = subst
    (λ c. CommandOutcome c before now streams streams' o) command cause in
    body_written file out before now o its_cause.0 zero

-- ---- an image that was written

asm_imaged : (file out : List ℕ) (before now : StoreSeen) (o : Outcome) → AsmOutcome file out before now o
    → status_of o ≡ 0 → HasImage file out before.told now.told
asm_imaged file out before now o (inl h) e = absurd (not_taken_fails text_stages file file_limit before now o h.0 e)
asm_imaged file out before now o (inr h) e =
    let image : IsImageOf h.is_made.bytes h.made = h.is_made.makes in
    record {
      bytes = h.is_made.bytes;
      read = h.is_made.read.content;
      m = image.m;
      means = image.means;
      written = written_at_0 out h.made h.between now o h.writes e
          ∙ (ap (option_map (stored out h.made)) h.is_made.same_files
          ∙ ap (λ made. option_map (stored out made) before.told) image.written);
    }

pub cause_imaged : (words : List (List ℕ)) (before now : StoreSeen) (streams streams' : StreamsSeen) (o : Outcome)
    (file out : List ℕ)
    → Cause words before now streams streams' o → command_of words ≡ Ok (Asm file out) → status_of o ≡ 0
    → HasImage file out before.told now.told
cause_imaged words before now streams streams' o file out cause command zero =
    let its_cause : CommandOutcome (Ok (Asm file out)) before now streams streams' o = subst
    (λ c. CommandOutcome c before now streams streams' o) command cause in
    asm_imaged file out before now o its_cause.0 zero

-- ---- an assembly whose text was written

text_at_0 : (text : List ℕ) (before now : StreamsSeen) (o : Outcome) → TextOutcome text before now o → status_of o ≡ 0
    → Adds text before.outside.output now.outside.output
text_at_0 text before now Written h e = h.1
text_at_0 text before now WriteFault h e = absurd (omega arith)
text_at_0 text before now (Usage index) h e = absurd h
text_at_0 text before now (NoFile file) h e = absurd h
text_at_0 text before now (TooLong size) h e = absurd h
text_at_0 text before now (Refused refusal) h e = absurd h
text_at_0 text before now ReadFault h e = absurd h
text_at_0 text before now (Ended status) h e = absurd h
text_at_0 text before now Memory h e = absurd h

dis_listed : (file : List ℕ) (before now : StoreSeen) (streams streams' : StreamsSeen) (o : Outcome)
    → DisOutcome file before now streams streams' o → status_of o ≡ 0
    → HasListed file before.told streams.outside.output streams'.outside.output
dis_listed file before now streams streams' o (inl h) e =
    absurd (not_taken_fails assembly_stages file file_limit before now o h.0 e)
dis_listed file before now streams streams' o (inr h) e =
    record {
      bytes = h.1.bytes;
      read = h.1.read.content;
      m = h.0;
      assembles = h.1.assembles;
      written = text_at_0 (listing_of h.0) streams streams' o h.2 e;
    }

pub cause_listed : (words : List (List ℕ)) (before now : StoreSeen) (streams streams' : StreamsSeen) (o : Outcome)
    (file : List ℕ)
    → Cause words before now streams streams' o → command_of words ≡ Ok (Dis file) → status_of o ≡ 0
    → HasListed file before.told streams.outside.output streams'.outside.output
cause_listed words before now streams streams' o file cause command zero =
    let its_cause : CommandOutcome (Ok (Dis file)) before now streams streams' o = subst
    (λ c. CommandOutcome c before now streams streams' o) command cause in
    dis_listed file before now streams streams' o its_cause.0 zero

-- ---- completeness

done_or_memory : (o done : Outcome) → (o ≡ done) ⊎ (o ≡ Memory) → (status_of o ≡ status_of done) ⊎ (status_of o ≡ 75)
done_or_memory o done (inl e) = inl (ap status_of e)
done_or_memory o done (inr e) = inr (ap status_of e)

pub body_complete : (words : List (List ℕ)) (before now : StoreSeen) (streams streams' : StreamsSeen) (o : Outcome)
    (file out : List ℕ)
    → Cause words before now streams streams' o → command_of words ≡ Ok (Body file out) → HasBare file before.told
    → NoneCounted before now → (status_of o ≡ 0) ⊎ (status_of o ≡ 75)
body_complete words before now streams streams' o file out cause command bare none =
    let its_cause : CommandOutcome (Ok (Body file out)) before now streams streams' o = subst
    (λ c. CommandOutcome c before now streams streams' o) command cause in
    done_or_memory o Written (body_done file out before now o bare none its_cause.0)

pub run_complete : (words : List (List ℕ)) (before now : StoreSeen) (streams streams' : StreamsSeen) (o : Outcome)
    (elf : List ℕ) (limit : ℕ) (count : Bool) (steps status : ℕ)
    → Cause words before now streams streams' o → command_of words ≡ Ok (Run elf limit count) → steps ≤ limit
    → HasProgram elf steps status before.told streams.outside.rest → NoneCounted before now
    → NoneOfStreams streams streams' → (status_of o ≡ status) ⊎ (status_of o ≡ 75)
run_complete words before now streams streams' o elf limit count steps status cause command within has none calm =
    let its_cause : CommandOutcome (Ok (Run elf limit count)) before now streams streams' o = subst
    (λ c. CommandOutcome c before now streams streams' o) command cause in
    done_or_memory o (Ended status)
    (run_done elf limit count steps status before now streams streams' o within has none calm its_cause.0)

pub dis_complete : (words : List (List ℕ)) (before now : StoreSeen) (streams streams' : StreamsSeen) (o : Outcome)
    (file : List ℕ)
    → Cause words before now streams streams' o → command_of words ≡ Ok (Dis file) → HasAssembly file before.told
    → NoneCounted before now → NoneOfStreams streams streams' → (status_of o ≡ 0) ⊎ (status_of o ≡ 75)
dis_complete words before now streams streams' o file cause command has none calm =
    let its_cause : CommandOutcome (Ok (Dis file)) before now streams streams' o = subst
    (λ c. CommandOutcome c before now streams streams' o) command cause in
    done_or_memory o Written (dis_done file before now streams streams' o has none calm its_cause.0)

pub asm_complete : (words : List (List ℕ)) (before now : StoreSeen) (streams streams' : StreamsSeen) (o : Outcome)
    (file out : List ℕ)
    → Cause words before now streams streams' o → command_of words ≡ Ok (Asm file out) → HasText file before.told
    → NoneCounted before now → (status_of o ≡ 0) ⊎ (status_of o ≡ 75)
asm_complete words before now streams streams' o file out cause command has none =
    let its_cause : CommandOutcome (Ok (Asm file out)) before now streams streams' o = subst
    (λ c. CommandOutcome c before now streams streams' o) command cause in
    done_or_memory o Written (asm_done file out before now o has none its_cause.0)

-- ---- the fields of refusals

-- what is found has as many numbers as are told of its fault
abbrev pub IsToldOf : List ℕ → Finding → Type 0
IsToldOf file found = IsFormed (refusal_of file found)

found_formed : (file : List ℕ) (fault : Fault) (place : Option ℕ) (found : Finding)
    → ((n : ℕ) → IsToldOf file (finding fault (n ∷ []))) → found_at fault place ≡ Some found → IsToldOf file found
found_formed file fault None found formed e = absurd (cc)
found_formed file fault (Some n) found formed e =
    subst (IsToldOf file) (same_some (finding fault (n ∷ [])) found e) (formed n)

refused_formed : {X : Type 0} (file : List ℕ) (fault : Fault) (r : Result X ℕ) (found : Finding)
    → ((n : ℕ) → IsToldOf file (finding fault (n ∷ []))) → refused_at fault r ≡ Some found → IsToldOf file found
refused_formed file fault (Ok x) found formed e = absurd (cc)
refused_formed file fault (Err n) found formed e =
    subst (IsToldOf file) (same_some (finding fault (n ∷ [])) found e) (formed n)

image_formed : (file : List ℕ) (fault : Option PeFault) (found : Finding) → option_map image_finding fault ≡ Some found
    → IsToldOf file found
image_formed file None found e = absurd (cc)
image_formed file (Some NoPe) found e =
    subst (IsToldOf file) (same_some (image_finding NoPe) found e) refl
image_formed file (Some NoHeader) found e =
    subst (IsToldOf file) (same_some (image_finding NoHeader) found e) refl
image_formed file (Some (IsCut place)) found e =
    subst (IsToldOf file) (same_some (image_finding (IsCut place)) found e) refl

table_formed : (file : List ℕ) (fault : TableFault) (found : Finding) → table_finding fault ≡ Some found
    → IsToldOf file found
table_formed file (BadRow table row) found e =
    subst (IsToldOf file) (same_some (finding BadTable (table ∷ row ∷ [])) found e) refl
table_formed file (RefusedRows table) found e =
    subst (IsToldOf file) (same_some (finding RefusedTable (table ∷ [])) found e) refl
table_formed file (BadBody address) found e =
    subst (IsToldOf file) (same_some (finding BadHeader (address ∷ [])) found e) refl
table_formed file NoMemory found e = absurd (cc)

tables_formed : {X : Type 0} (file : List ℕ) (r : Result X TableFault) (found : Finding)
    → refused_tables r ≡ Some found → IsToldOf file found
tables_formed file (Ok x) found e = absurd (cc)
tables_formed file (Err fault) found e = table_formed file fault found e

text_formed : {X : Type 0} (file : List ℕ) (r : Result X IlTextFault) (found : Finding) → refused_text r ≡ Some found
    → IsToldOf file found
text_formed file (Ok x) found e = absurd (cc)
text_formed file (Err (BadWord line column)) found e =
    subst (IsToldOf file) (same_some (finding BadText (line ∷ column ∷ [])) found e) refl
text_formed file (Err WantsMemory) found e = absurd (cc)

stage_formed : (stage : Stage) (file bytes : List ℕ) (found : Finding) → Finds stage bytes (Some found)
    → IsToldOf file found
stage_formed Header file bytes found h = refused_formed file BadHeader (tiny_body bytes) found (λ n. refl) h
stage_formed Opcodes file bytes found h = refused_formed file BadOpcode (listed h.0) found (λ n. refl) h.2
stage_formed Targets file bytes found h =
    found_formed file BadTarget (first_bad_target h.2.0) found (λ n. refl) h.2.2
stage_formed Flow file bytes found h =
    found_formed file BadTarget (first_past h.2.0 h.2.2.0) found (λ n. refl) h.2.2.2
stage_formed Operations file bytes found h =
    found_formed file OpcodeOutside (first_against has_operation h.2.0 h.2.2.0) found (λ n. refl) h.2.2.2
stage_formed Verification file bytes found h =
    found_formed file Unverified (first_against (is_verified_at tiny_max_stack) h.2.0 h.2.2.0) found (λ n. refl)
    h.2.2.2
stage_formed Load file bytes found h = refused_formed file BadElf (loaded bytes) found (λ n. refl) h
stage_formed Image file bytes found h = image_formed file (first_fault (conditions bytes)) found h
stage_formed Tables file bytes found h = tables_formed file (module_of (parts_of bytes)) found h
stage_formed Lines file bytes found h = text_formed file (assembled bytes) found h

first_formed : (stages : List Stage) (file bytes : List ℕ) (found : Finding) → IsFirst stages bytes found
    → IsToldOf file found
first_formed [] file bytes found h = absurd h
first_formed (next ∷ stages) file bytes found (inl h) = stage_formed next file bytes found h
first_formed (next ∷ stages) file bytes found (inr h) = first_formed stages file bytes found h.1

not_taken_formed : (stages : List Stage) (name : List ℕ) (limit : ℕ) (before now : StoreSeen) (refusal : Refusal)
    → NotTaken stages name limit before now (Refused refusal) → IsFormed refusal
not_taken_formed stages name limit before now refusal h =
    subst IsFormed (sym h.2.told) (first_formed stages name h.0 h.2.found h.2.first)

usage_formed : (index : ℕ) (refusal : Refusal) → (Refused refusal ≡ Usage index) ⊎ (Refused refusal ≡ Memory)
    → IsFormed refusal
usage_formed index refusal (inl e) = absurd (cc)
usage_formed index refusal (inr e) = absurd (cc)

made_formed : (Makes : List ℕ → List ℕ → Type 0) (stages : List Stage) (file out : List ℕ) (before now : StoreSeen)
    (refusal : Refusal) → MakingOutcome Makes stages file out before now (Refused refusal) → IsFormed refusal
made_formed Makes stages file out before now refusal (inl n) =
    not_taken_formed stages file file_limit before now refusal n.0
made_formed Makes stages file out before now refusal (inr n) = absurd n.writes

machine_formed : (machine : MachineState) (limit : ℕ) (count : Bool) (streams streams' : StreamsSeen)
    (refusal : Refusal) → MachineOutcome machine limit count streams streams' (Refused refusal) → IsFormed refusal
machine_formed machine limit count streams streams' refusal (inl n) = subst IsFormed (sym n.0) refl
machine_formed machine limit count streams streams' refusal (inr n) = subst IsFormed (sym n.1) refl

run_formed : (elf : List ℕ) (limit : ℕ) (count : Bool) (before now : StoreSeen) (streams streams' : StreamsSeen)
    (refusal : Refusal) → RunOutcome elf limit count before now streams streams' (Refused refusal) → IsFormed refusal
run_formed elf limit count before now streams streams' refusal (inl n) =
    not_taken_formed elf_stages elf elf_limit before now refusal n.0
run_formed elf limit count before now streams streams' refusal (inr n) =
    machine_formed n.0 limit count streams streams' refusal n.2

dis_formed : (file : List ℕ) (before now : StoreSeen) (streams streams' : StreamsSeen) (refusal : Refusal)
    → DisOutcome file before now streams streams' (Refused refusal) → IsFormed refusal
dis_formed file before now streams streams' refusal (inl n) =
    not_taken_formed assembly_stages file file_limit before now refusal n.0
dis_formed file before now streams streams' refusal (inr n) = absurd n.2

command_formed : (asked : Result Command ℕ) (before now : StoreSeen) (streams streams' : StreamsSeen)
    (refusal : Refusal)
    → CommandOutcome asked before now streams streams' (Refused refusal) → IsFormed refusal
command_formed (Err index) before now streams streams' refusal h = usage_formed index refusal h.0
command_formed (Ok (Body file out)) before now streams streams' refusal h =
    made_formed Builds body_stages file out before now refusal h.0
command_formed (Ok (Run elf limit count)) before now streams streams' refusal h =
    run_formed elf limit count before now streams streams' refusal h.0
command_formed (Ok (Dis file)) before now streams streams' refusal h =
    dis_formed file before now streams streams' refusal h.0
command_formed (Ok (Asm file out)) before now streams streams' refusal h =
    made_formed IsImageOf text_stages file out before now refusal h.0

pub formed_refusals : (words : List (List ℕ)) (before now : StoreSeen) (streams between : StreamsSeen)
    (refusal : Refusal)
    → Cause words before now streams between (Refused refusal) → IsFormed refusal
formed_refusals words before now streams between refusal h = command_formed (command_of words) before now streams
    between refusal h

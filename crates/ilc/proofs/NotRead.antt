-- What comes of a file that wasn't read, or is refused.
use Rattle.std.proofs.Common.{◌≡◌, ◌∙◌, ◌↔◌, ◌⊎◌, inl, inr, ℕ, ◌<◌, ◌≤◌, Bool, true, false, nat_le, List, [], ◌++◌}
use Rattle.std.proofs.Common.{◌∷◌, Option, Some, None, Ok, Err, refl, ap, sym, subst, arith}
use Rattle.std.specs.FinMap.{get}
use Rattle.std.specs.Option.{option_map}
use Rattle.std.proofs.lemmas.Bool.{leb-true, leb-false}
use Rattle.std.proofs.lemmas.List.{append-nil}
use Rattle.il_code.specs.Tiny.{tiny_body}
use Rattle.pe_image.specs.Conditions.{first_fault}
use Rattle.pe_image.specs.Pe.{conditions, parts_of}
use Rattle.pe_image.specs.declared.fault.PeFault.{PeFault}
use Rattle.md_tables.specs.Finished.{module_of, Refuses}
use Rattle.md_tables.specs.declared.fault.TableFault.{TableFault}
use Rattle.il_text.specs.Assembling.{assembled}
use Rattle.il_text.specs.Reading.{Refuses as RefusesText}
use Rattle.il_text.specs.declared.fault.IlTextFault.{IlTextFault}
use Rattle.elf_file.specs.Elf.{loaded}
use Rattle.ilc_build.specs.Refusals.{NotBare, NotBareCode, InstructionsGive}
use Rattle.ilc_build.specs.declared.build.BuildFault.{BuildFault}
use Rattle.ilc_io.specs.Calls.{noted, MayNote, ReadsInPieces}
use Rattle.ilc_io.specs.Count.{next_count}
use Rattle.ilc_io.specs.Store.{Store, size_of}
use Rattle.ilc_io.specs.declared.call.Call.{Call}
use Rattle.ilc_io.specs.declared.call.Call.TheVariants.{Size}
use Rattle.ilc_io.specs.declared.fault.FileFault.{FileFault}
use Rattle.ilc_io.specs.declared.fault.FileFault.TheVariants.{Missing, Failed, TooLong as FileTooLong}
use Rattle.ilc_io.specs.declared.fault.FileFault.TheVariants.{Memory as FileMemory}
use Rattle.ilc.specs.Cause.{IsAsked, IsRead, IsTried, NotTaken}
use Rattle.ilc.specs.Reading.{IsOrMemory, ReadGives, IsRefusedBy, IsUnreadable, Tells, TellsTables, TellsText}
use Rattle.ilc.specs.Refusals.{refusal_row}
use Rattle.ilc.specs.Seen.{StoreSeen}
use Rattle.ilc.specs.Stages.{Stage, body_stages, elf_stages, assembly_stages, text_stages, Finding, finding, found_at}
use Rattle.ilc.specs.Stages.{refused_at, image_finding, table_finding, refused_tables, text_finding, refused_text}
use Rattle.ilc.specs.Stages.{IsFirst, IsRefused, refusal_of, fault_of, subject, body_method}
use Rattle.ilc.specs.declared.outcome.Outcome.{Outcome}
use Rattle.ilc.specs.declared.outcome.Outcome.TheVariants.{Refused, Memory}
use Rattle.ilc.specs.declared.perform.AssemblyFault.TheVariants.{Image as ImageFault, Tables as TablesFault}
use Rattle.ilc.specs.declared.refusal.Fault.{Fault}
use Rattle.ilc.specs.declared.refusal.Fault.TheVariants.{BadHeader, BadOpcode, BadTarget, OpcodeOutside, Unverified}
use Rattle.ilc.specs.declared.refusal.Fault.TheVariants.{BadElf}
use Rattle.ilc.specs.declared.refusal.Refusal.{Refusal}
use Rattle.ilc.proofs.Faults.{risen}

-- what is known of a reading that gave a fault
pub record Fails (name : List ℕ) (limit : ℕ) (before now : StoreSeen) (fault : FileFault) : Type 0 where
  pub no_file : (store : Store) → before.told ≡ Some store → fault ≡ Missing → get store name ≡ None
  pub long_file : (store : Store) (size : ℕ) → before.told ≡ Some store → fault ≡ FileTooLong size
      → size_of store name ≡ Some size
  pub missing : (fault ≡ Missing) ↔ IsAsked name None before now
  pub too_long : (size : ℕ) → (fault ≡ FileTooLong size) ↔ ((limit < size) × IsAsked name (Some size) before now)
  pub asked_once : (now.asked ≡ before.asked) ⊎ ((answer : Option ℕ) × IsAsked name answer before now)
  pub pieces : (size : ℕ) → IsAsked name (Some size) before now → size ≤ limit
      → ReadsInPieces size before.calls now.calls
  pub missing_calls : fault ≡ Missing → now.calls ≡ noted Size before.calls
  pub long_calls : (size : ℕ) → fault ≡ FileTooLong size → now.calls ≡ noted Size before.calls
  pub size_refused : now.asked ≡ before.asked → MayNote Size before.calls now.calls
  pub counted : fault ≡ Failed → now.read_faults ≡ next_count before.read_faults

tried : (name : List ℕ) (limit : ℕ) (before now : StoreSeen) (fault : FileFault) → Fails name limit before now fault
    → (fault ≡ Missing → ⊥) → ((size : ℕ) → fault ≡ FileTooLong size → ⊥) → IsTried name limit before now
tried name limit before now fault f there short = by f.asked_once
  where
    sized : (size : ℕ) → IsAsked name (Some size) before now → (b : Bool) → nat_le size limit ≡ b
        → IsTried name limit before now
    sized size a true e = inr (Some size, a, leb-true size limit e, f.pieces size a (leb-true size limit e))
    sized size a false e = absurd (short size ((f.too_long size).1 (leb-false size limit e, a)))

    answered : (answer : Option ℕ) → IsAsked name answer before now → IsTried name limit before now
    answered None a = absurd (there (f.missing.1 a))
    answered (Some size) a = sized size a (nat_le size limit) refl

    by : (now.asked ≡ before.asked) ⊎ ((answer : Option ℕ) × IsAsked name answer before now)
        → IsTried name limit before now
    by (inl same) = inl (same, f.size_refused same)
    by (inr h) = answered h.0 h.1

no_more : (calls : Option (List Call)) → calls ≡ option_map (λ before. before ++ []) calls
no_more None = refl
no_more (Some calls) = ap Some (sym (append-nil calls))

pub not_read : (stages : List Stage) (name : List ℕ) (limit : ℕ) (before now : StoreSeen) (fault : FileFault)
    (outcome : Outcome)
    → Fails name limit before now fault → ReadGives fault name outcome → NotTaken stages name limit before now outcome
not_read stages name limit before now Missing outcome f (inl e) =
    subst (NotTaken stages name limit before now) (sym e) (
      refl,
      record {
        asked = f.missing.0 refl;
        not_there = λ store told. f.no_file store told refl;
        calls = f.missing_calls
            refl;
      },
    )
not_read stages name limit before now Missing outcome f (inr e) =
    subst (NotTaken stages name limit before now) (sym e)
    (inr (None, f.missing.0 refl, omega arith, ([], f.missing_calls refl ∙ no_more (noted Size before.calls), tt)))
not_read stages name limit before now (FileTooLong size) outcome f e =
    let h = (f.too_long size).0 refl in
    subst (NotTaken stages name limit before now) (sym e)
    (record {
      asked = h.1;
      above = h.0;
      its_size = λ store told. f.long_file store size told refl;
      calls = f.long_calls
          size refl;
    })
not_read stages name limit before now Failed outcome f e =
    subst (NotTaken stages name limit before now) (sym e) (
      risen before.read_faults now.read_faults (f.counted refl),
      tried name limit before now Failed f (λ h. cc)
          (λ size h. cc),
    )
not_read stages name limit before now FileMemory outcome f e =
    subst (NotTaken stages name limit before now) (sym e)
    (tried name limit before now FileMemory f (λ h. cc) (λ size h. cc))

-- want of memory behind a file that was read
pub tried_by : (name : List ℕ) (limit : ℕ) (bytes : List ℕ) (before now : StoreSeen)
    → IsRead name limit bytes before now → IsTried name limit before now
tried_by name limit bytes before now read = inr (Some read.size, read.asked, read.within, read.pieces)

pub refused_or_memory : (stages : List Stage) (name : List ℕ) (limit : ℕ) (bytes : List ℕ) (before now : StoreSeen)
    (outcome : Outcome)
    → IsRead name limit bytes before now
    → (outcome ≡ Memory) ⊎ ((refusal : Refusal) × (outcome ≡ Refused refusal) × IsRefused stages name bytes refusal)
    → NotTaken stages name limit before now outcome
refused_or_memory stages name limit bytes before now outcome read (inl e) =
    subst (NotTaken stages name limit before now) (sym e) (tried_by name limit bytes before now read)
refused_or_memory stages name limit bytes before now outcome read (inr h) =
    subst (NotTaken stages name limit before now) (sym h.1) (bytes, read, h.2)

-- ---- the first stage that has a fault

pub told_at : (stages : List Stage) (file bytes : List ℕ) (found : Finding) (outcome : Outcome)
    → IsFirst stages bytes found → IsOrMemory (Refused (refusal_of file found)) outcome
    → (outcome ≡ Memory) ⊎ ((refusal : Refusal) × (outcome ≡ Refused refusal) × IsRefused stages file bytes refusal)
told_at stages file bytes found outcome first (inl e) =
    inr (refusal_of file found, e, record { found = found; first = first; told = refl })
told_at stages file bytes found outcome first (inr e) = inl e

pub first_header : (bytes : List ℕ) (place : ℕ) → tiny_body bytes ≡ Err place
    → IsFirst body_stages bytes (finding BadHeader (place ∷ []))
first_header bytes place e = inl (ap (refused_at BadHeader) e)

pub first_opcode : (bytes : List ℕ) (place : ℕ) → NotBare bytes (BuildFault.BadOpcode place)
    → IsFirst body_stages bytes (finding BadOpcode (place ∷ []))
first_opcode bytes place h =
    inr (ap (refused_at BadHeader) h.1, inl (h.0, h.1, ap (refused_at BadOpcode) h.2))

pub first_target : (bytes : List ℕ) (place : ℕ) → NotBare bytes (BuildFault.BadTarget place)
    → IsFirst body_stages bytes (finding BadTarget (place ∷ []))
first_target bytes place h = by h.0 h.1 h.2
  where
    by : (code : List ℕ) → tiny_body bytes ≡ Ok code → NotBareCode code (BuildFault.BadTarget place)
        → IsFirst body_stages bytes (finding BadTarget (place ∷ []))
    by code e (inl t) =
        inr (
          ap (refused_at BadHeader) e,
          inr (
            (code, e, ap (refused_at BadOpcode) t.1),
            inl (code, e, (t.0, t.1, ap (found_at BadTarget) t.2)),
          ),
        )
    by code e (inr g) =
        inr (
          ap (refused_at BadHeader) e,
          inr (
            (code, e, ap (refused_at BadOpcode) g.1),
            inr (
              (code, e, (g.0, g.1, ap (found_at BadTarget) g.2)),
              inl (code, e, (g.0, g.1, (g.3, g.4, ap (found_at BadTarget) g.5))),
            ),
          ),
        )

pub first_operation : (bytes : List ℕ) (place : ℕ) → NotBare bytes (BuildFault.OpcodeOutside place)
    → IsFirst body_stages bytes (finding OpcodeOutside (place ∷ []))
first_operation bytes place h =
    let g : InstructionsGive h.0 (BuildFault.OpcodeOutside place) = h.2 in
    inr (
      ap (refused_at BadHeader) h.1,
      inr (
        (h.0, h.1, ap (refused_at BadOpcode) g.1),
        inr (
          (h.0, h.1, (g.0, g.1, ap (found_at BadTarget) g.2)),
          inr (
            (h.0, h.1, (g.0, g.1, (g.3, g.4, ap (found_at BadTarget) g.5.0))),
            inl (h.0, h.1, (g.0, g.1, (g.3, g.4, ap (found_at OpcodeOutside) g.5.1))),
          ),
        ),
      ),
    )

pub first_unverified : (bytes : List ℕ) (place : ℕ) → NotBare bytes (BuildFault.Unverified place)
    → IsFirst body_stages bytes (finding Unverified (place ∷ []))
first_unverified bytes place h =
    let g : InstructionsGive h.0 (BuildFault.Unverified place) = h.2 in
    inr (
      ap (refused_at BadHeader) h.1,
      inr (
        (h.0, h.1, ap (refused_at BadOpcode) g.1),
        inr (
          (h.0, h.1, (g.0, g.1, ap (found_at BadTarget) g.2)),
          inr (
            (h.0, h.1, (g.0, g.1, (g.3, g.4, ap (found_at BadTarget) g.5.0))),
            inr (
              (h.0, h.1, (g.0, g.1, (g.3, g.4, ap (found_at OpcodeOutside) g.5.1))),
              inl (h.0, h.1, (g.0, g.1, (g.3, g.4, ap (found_at Unverified) g.5.2))),
            ),
          ),
        ),
      ),
    )

pub first_load : (bytes : List ℕ) (place : ℕ) → loaded bytes ≡ Err place
    → IsFirst elf_stages bytes (finding BadElf (place ∷ []))
first_load bytes place e = inl (ap (refused_at BadElf) e)

-- ---- how the faults of a body are told

-- a fault at a place of what has this text, which comes first
told_first : (file bytes text : List ℕ) (fault : Fault) (place : ℕ) (outcome : Outcome)
    → text ≡ subject (refusal_row fault).forms file → IsFirst body_stages bytes (finding fault (place ∷ []))
    → IsOrMemory (Refused (fault_of fault text (place ∷ []))) outcome
    → (outcome ≡ Memory) ⊎ ((refusal : Refusal) × (outcome ≡ Refused refusal) × IsRefused body_stages file bytes
    refusal)
told_first file bytes text fault place outcome e first gives =
    told_at body_stages file bytes (finding fault (place ∷ [])) outcome first
    (subst (λ t. IsOrMemory (Refused (fault_of fault t (place ∷ []))) outcome) e gives)

pub refused_header : (file bytes text : List ℕ) (place : ℕ) (outcome : Outcome) → text ≡ file
    → IsOrMemory (Refused (fault_of BadHeader text (place ∷ []))) outcome
    → IsRefusedBy bytes file (BuildFault.BadHeader place) outcome
refused_header file bytes text place outcome e gives h =
    told_first file bytes text BadHeader place outcome e (first_header bytes place h) gives

pub refused_opcode : (file bytes text : List ℕ) (place : ℕ) (outcome : Outcome) → text ≡ body_method
    → IsOrMemory (Refused (fault_of BadOpcode text (place ∷ []))) outcome
    → IsRefusedBy bytes file (BuildFault.BadOpcode place) outcome
refused_opcode file bytes text place outcome e gives h =
    told_first file bytes text BadOpcode place outcome e (first_opcode bytes place h) gives

pub refused_target : (file bytes text : List ℕ) (place : ℕ) (outcome : Outcome) → text ≡ body_method
    → IsOrMemory (Refused (fault_of BadTarget text (place ∷ []))) outcome
    → IsRefusedBy bytes file (BuildFault.BadTarget place) outcome
refused_target file bytes text place outcome e gives h =
    told_first file bytes text BadTarget place outcome e (first_target bytes place h) gives

pub refused_operation : (file bytes text : List ℕ) (place : ℕ) (outcome : Outcome) → text ≡ body_method
    → IsOrMemory (Refused (fault_of OpcodeOutside text (place ∷ []))) outcome
    → IsRefusedBy bytes file (BuildFault.OpcodeOutside place) outcome
refused_operation file bytes text place outcome e gives h =
    told_first file bytes text OpcodeOutside place outcome e (first_operation bytes place h) gives

pub refused_unverified : (file bytes text : List ℕ) (place : ℕ) (outcome : Outcome) → text ≡ body_method
    → IsOrMemory (Refused (fault_of Unverified text (place ∷ []))) outcome
    → IsRefusedBy bytes file (BuildFault.Unverified place) outcome
refused_unverified file bytes text place outcome e gives h =
    told_first file bytes text Unverified place outcome e (first_unverified bytes place h) gives

-- ---- how the faults of an assembly are told

told_tables : (bytes file : List ℕ) (fault : TableFault) (found : Option Finding) (outcome : Outcome)
    → table_finding fault ≡ found → first_fault (conditions bytes) ≡ None
    → refused_tables (module_of (parts_of bytes)) ≡ found → Tells file found outcome
    → (outcome ≡ Memory) ⊎ ((refusal : Refusal) × (outcome ≡ Refused refusal) × IsRefused assembly_stages file bytes
    refusal)
told_tables bytes file fault None outcome is image tables tells = inl tells
told_tables bytes file fault (Some found) outcome is image tables tells =
    told_at assembly_stages file bytes found outcome (inr (ap (option_map image_finding) image, inl tables)) tells

pub unreadable_image : (bytes file : List ℕ) (fault : PeFault) (outcome : Outcome)
    → IsOrMemory (Refused (refusal_of file (image_finding fault))) outcome
    → IsUnreadable bytes file (ImageFault fault) outcome
unreadable_image bytes file fault outcome tells first =
    told_at assembly_stages file bytes (image_finding fault) outcome (inl (ap (option_map image_finding) first)) tells

pub unreadable_tables : (bytes file : List ℕ) (fault : TableFault) (outcome : Outcome) → TellsTables file fault outcome
    → IsUnreadable bytes file (TablesFault fault) outcome
unreadable_tables bytes file fault outcome tells h = by h.1
  where
    by : Refuses (module_of (parts_of bytes)) fault
        → (outcome ≡ Memory) ⊎ ((refusal : Refusal) × (outcome ≡ Refused refusal) × IsRefused assembly_stages file
        bytes refusal)
    by (inl e) = inl (subst (λ f. Tells file (table_finding f) outcome) e tells)
    by (inr e) = told_tables bytes file fault (table_finding fault) outcome refl h.0 (ap refused_tables e) tells

-- ---- how the faults of a text are told

told_text : (text file : List ℕ) (found : Option Finding) (outcome : Outcome) → refused_text (assembled text) ≡ found
    → Tells file found outcome
    → (outcome ≡ Memory) ⊎ ((refusal : Refusal) × (outcome ≡ Refused refusal) × IsRefused text_stages file text refusal)
told_text text file None outcome is tells = inl tells
told_text text file (Some found) outcome is tells = told_at text_stages file text found outcome (inl is) tells

pub refused_text_is_told : (text file : List ℕ) (fault : IlTextFault) (outcome : Outcome) → TellsText file fault outcome
    → RefusesText (assembled text) fault
    → (outcome ≡ Memory) ⊎ ((refusal : Refusal) × (outcome ≡ Refused refusal) × IsRefused text_stages file text refusal)
refused_text_is_told text file fault outcome tells (inl e) =
    inl (subst (λ f. Tells file (text_finding f) outcome) e tells)
refused_text_is_told text file fault outcome tells (inr e) =
    told_text text file (text_finding fault) outcome (ap refused_text e) tells

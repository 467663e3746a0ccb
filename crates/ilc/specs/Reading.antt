-- What the faults of reading and building come out as.
use Rattle.std.specs.Prelude.{◌≡◌, ◌⊎◌, ℕ, List, Option, Some, None}
use Rattle.ilc_io.specs.declared.fault.FileFault.{FileFault}
use Rattle.ilc_io.specs.declared.fault.FileFault.TheVariants.{Missing, Failed, TooLong as FileTooLong}
use Rattle.ilc_io.specs.declared.fault.FileFault.TheVariants.{Memory as FileMemory}
use Rattle.pe_image.specs.Conditions.{first_fault}
use Rattle.pe_image.specs.Pe.{conditions, parts_of}
use Rattle.md_tables.specs.Finished.{module_of, Refuses}
use Rattle.md_tables.specs.declared.fault.TableFault.{TableFault}
use Rattle.il_text.specs.declared.fault.IlTextFault.{IlTextFault}
use Rattle.ilc_build.specs.Refusals.{NotBare}
use Rattle.ilc_build.specs.declared.build.BuildFault.{BuildFault}
use Rattle.ilc.specs.Stages.{Finding, body_stages, assembly_stages, table_finding, text_finding, refusal_of, IsRefused}
use Rattle.ilc.specs.declared.perform.AssemblyFault.{AssemblyFault}
use Rattle.ilc.specs.declared.perform.AssemblyFault.TheVariants.{Image as ImageFault, Tables as TablesFault}
use Rattle.ilc.specs.declared.outcome.Outcome.{Outcome}
use Rattle.ilc.specs.declared.outcome.Outcome.TheVariants.{NoFile, TooLong, Refused, ReadFault, Memory}
use Rattle.ilc.specs.declared.refusal.Refusal.{Refusal}

-- this outcome, or want of memory
abbrev pub IsOrMemory : Outcome → Outcome → Type 0
IsOrMemory expected outcome = (outcome ≡ expected) ⊎ (outcome ≡ Memory)

-- what a fault in reading the file of a name comes out as; that the name is told takes memory
abbrev pub ReadGives : FileFault → List ℕ → Outcome → Type 0
ReadGives Missing name outcome = IsOrMemory (NoFile name) outcome
ReadGives (FileTooLong size) name outcome = outcome ≡ TooLong size
ReadGives Failed name outcome = outcome ≡ ReadFault
ReadGives FileMemory name outcome = outcome ≡ Memory

-- where the bytes of a file are no bare body for this fault, the outcome is how it is told
abbrev pub IsRefusedBy : List ℕ → List ℕ → BuildFault → Outcome → Type 0
IsRefusedBy bytes file fault outcome =
    NotBare bytes fault
    → (outcome ≡ Memory) ⊎ ((refusal : Refusal) × (outcome ≡ Refused refusal) × IsRefused body_stages file bytes
    refusal)

-- why the bytes of a file are no assembly, but for want of memory
abbrev pub IsNoAssembly : List ℕ → AssemblyFault → Type 0
IsNoAssembly bytes (ImageFault fault) = first_fault (conditions bytes) ≡ Some fault
IsNoAssembly bytes (TablesFault fault) =
    (first_fault (conditions bytes) ≡ None) × Refuses (module_of (parts_of bytes)) fault

-- what is found in the file of a name is told, or memory was wanting
abbrev pub Tells : List ℕ → Option Finding → Outcome → Type 0
Tells file None outcome = outcome ≡ Memory
Tells file (Some found) outcome = IsOrMemory (Refused (refusal_of file found)) outcome

abbrev pub TellsTables : List ℕ → TableFault → Outcome → Type 0
TellsTables file fault = Tells file (table_finding fault)

-- where the bytes of a file are no assembly for this fault, the outcome is how it is told
abbrev pub IsUnreadable : List ℕ → List ℕ → AssemblyFault → Outcome → Type 0
IsUnreadable bytes file fault outcome =
    IsNoAssembly bytes fault
    → (outcome ≡ Memory) ⊎ ((refusal : Refusal) × (outcome ≡ Refused refusal) × IsRefused assembly_stages file bytes
    refusal)

-- why a text means no module is told, or memory was wanting
abbrev pub TellsText : List ℕ → IlTextFault → Outcome → Type 0
TellsText file fault = Tells file (text_finding fault)

-- Which refusal of a file is answered: what is asked of it are stages, and the first that has a fault tells it.
use Rattle.std.specs.Prelude.{◌≡◌, ◌⊎◌, ℕ, List, [], ◌∷◌, codes, Option, Some, None as NoFault, Result, Ok, Err}
use Rattle.std.specs.Option.{option_map}
use Rattle.il_code.specs.declared.body.Instr.{Instr}
use Rattle.il_code.specs.Listing.{listed, first_bad_target}
use Rattle.il_code.specs.Tiny.{tiny_body}
use Rattle.pe_image.specs.Conditions.{first_fault}
use Rattle.pe_image.specs.Pe.{conditions, parts_of}
use Rattle.pe_image.specs.declared.fault.PeFault.{PeFault}
use Rattle.pe_image.specs.declared.fault.PeFault.TheVariants.{NotPe as NoPe, NoCliHeader as NoHeader, Cut as IsCut}
use Rattle.md_tables.specs.Finished.{module_of}
use Rattle.md_tables.specs.declared.fault.TableFault.{TableFault}
use Rattle.md_tables.specs.declared.fault.TableFault.TheVariants.{BadTable as BadRow, RefusedTable as RefusedRows}
use Rattle.md_tables.specs.declared.fault.TableFault.TheVariants.{BadHeader as BadBody, Memory as NoMemory}
use Rattle.il_text.specs.Assembling.{assembled}
use Rattle.il_text.specs.declared.fault.IlTextFault.{IlTextFault}
use Rattle.il_text.specs.declared.fault.IlTextFault.TheVariants.{BadText as BadWord, Memory as WantsMemory}
use Rattle.elf_file.specs.Elf.{loaded}
use Rattle.ilc_build.specs.Bare.{first_past}
use Rattle.ilc_build.specs.Depths.{IsLeast, first_against, has_operation, is_verified_at}
use Rattle.ilc_build.specs.Typing.{tiny_max_stack}
use Rattle.ilc_build.specs.declared.depths.Known.{Known}
use Rattle.ilc.specs.Refusals.{Form, OfItem, refusal_row}
use Rattle.ilc.specs.declared.refusal.Fault.{Fault}
use Rattle.ilc.specs.declared.refusal.Fault.TheVariants.{NotPe, NoCliHeader, Cut, BadTable, RefusedTable, BadHeader}
use Rattle.ilc.specs.declared.refusal.Fault.TheVariants.{BadOpcode, BadTarget, Unverified, OpcodeOutside, BadElf}
use Rattle.ilc.specs.declared.refusal.Fault.TheVariants.{BadText}
use Rattle.ilc.specs.declared.refusal.Field.TheVariants.{Text, Number}
use Rattle.ilc.specs.declared.refusal.Fields.{Fields}
use Rattle.ilc.specs.declared.refusal.Fields.TheVariants.{One, Two, Three}
use Rattle.ilc.specs.declared.refusal.Refusal.{Refusal}

-- Of a body: the tiny header and its code, instructions that stand whole, targets, control that stays in the code,
-- opcodes that are compiled, and the stack. Of an executable file: that it loads. Of an assembly: its headers, sections
-- and streams, and then its tables with the bodies of methods. Of a text: that it is that of an assembly.
pub data Stage : Type 0 where
  Header : Stage
  Opcodes : Stage
  Targets : Stage
  Flow : Stage
  Operations : Stage
  Verification : Stage
  Load : Stage
  Image : Stage
  Tables : Stage
  Lines : Stage

abbrev pub body_stages : List Stage
body_stages = Header ∷ Opcodes ∷ Targets ∷ Flow ∷ Operations ∷ Verification ∷ []

abbrev pub elf_stages : List Stage
elf_stages = Load ∷ []

abbrev pub assembly_stages : List Stage
assembly_stages = Image ∷ Tables ∷ []

abbrev pub text_stages : List Stage
text_stages = Lines ∷ []

-- ---- what a stage finds

-- a fault, and the numbers that are told of it
pub record Finding : Type 0 where
  pub fault : Fault
  pub numbers : List ℕ

abbrev pub finding : Fault → List ℕ → Finding
finding fault numbers = record { fault = fault; numbers = numbers }

-- a fault at a place, if there is one
abbrev pub found_at : Fault → Option ℕ → Option Finding
found_at fault NoFault = NoFault
found_at fault (Some place) = Some (finding fault (place ∷ []))

-- the fault at the place that a result refuses, if it does
abbrev pub refused_at : {X : Type 0} → Fault → Result X ℕ → Option Finding
refused_at fault (Ok x) = NoFault
refused_at fault (Err place) = Some (finding fault (place ∷ []))

-- what is found of an image
abbrev pub image_finding : PeFault → Finding
image_finding NoPe = finding NotPe []
image_finding NoHeader = finding NoCliHeader []
image_finding (IsCut place) = finding Cut (place ∷ [])

-- what is found of its tables; that memory was wanting is no finding
abbrev pub table_finding : TableFault → Option Finding
table_finding (BadRow table row) = Some (finding BadTable (table ∷ row ∷ []))
table_finding (RefusedRows table) = Some (finding RefusedTable (table ∷ []))
table_finding (BadBody address) = Some (finding BadHeader (address ∷ []))
table_finding NoMemory = NoFault

abbrev pub refused_tables : {X : Type 0} → Result X TableFault → Option Finding
refused_tables (Ok x) = NoFault
refused_tables (Err fault) = table_finding fault

-- what is found of a text; that memory was wanting is no finding
abbrev pub text_finding : IlTextFault → Option Finding
text_finding (BadWord line column) = Some (finding BadText (line ∷ column ∷ []))
text_finding WantsMemory = NoFault

abbrev pub refused_text : {X : Type 0} → Result X IlTextFault → Option Finding
refused_text (Ok x) = NoFault
refused_text (Err fault) = text_finding fault

-- this holds of the code behind the tiny header
abbrev pub OfCode : List ℕ → (List ℕ → Type 0) → Type 0
OfCode bytes P = (code : List ℕ) × (tiny_body bytes ≡ Ok code) × P code

-- this holds of the instructions of the code
abbrev pub OfInstructions : List ℕ → (List Instr → Type 0) → Type 0
OfInstructions bytes P = OfCode bytes (λ code. (instrs : List Instr) × (listed code ≡ Ok instrs) × P instrs)

-- this holds of the instructions and of what is known of the stack before each
abbrev pub OfTable : List ℕ → (List Instr → List Known → Type 0) → Type 0
OfTable bytes P = OfInstructions bytes (λ instrs. (table : List Known) × IsLeast instrs table × P instrs table)

-- the fault that a stage finds in the bytes of a file, or that it finds none
abbrev pub Finds : Stage → List ℕ → Option Finding → Type 0
Finds Header bytes found = refused_at BadHeader (tiny_body bytes) ≡ found
Finds Opcodes bytes found = OfCode bytes (λ code. refused_at BadOpcode (listed code) ≡ found)
Finds Targets bytes found = OfInstructions bytes (λ instrs. found_at BadTarget (first_bad_target instrs) ≡ found)
Finds Flow bytes found = OfTable bytes (λ instrs table. found_at BadTarget (first_past instrs table) ≡ found)
Finds Operations bytes found =
    OfTable bytes (λ instrs table. found_at OpcodeOutside (first_against has_operation instrs table) ≡ found)
Finds Verification bytes found =
    OfTable bytes
    (λ instrs table. found_at Unverified (first_against (is_verified_at tiny_max_stack) instrs table) ≡ found)
Finds Load bytes found = refused_at BadElf (loaded bytes) ≡ found
Finds Image bytes found = option_map image_finding (first_fault (conditions bytes)) ≡ found
Finds Tables bytes found = refused_tables (module_of (parts_of bytes)) ≡ found
Finds Lines bytes found = refused_text (assembled bytes) ≡ found

-- the first of the stages that finds a fault finds this one
abbrev pub IsFirst : List Stage → List ℕ → Finding → Type 0
IsFirst [] bytes found = ⊥
IsFirst (next ∷ stages) bytes found =
    Finds next bytes (Some found) ⊎ (Finds next bytes NoFault × IsFirst stages bytes found)

-- ---- how it is told

-- the one method of a bare body
abbrev pub body_method : List ℕ
body_method = codes "[body]Body::Main()->System.Int32"

-- what has a fault: the method of a bare body, or the file of this name
abbrev pub subject : List Form → List ℕ → List ℕ
subject (OfItem ∷ forms) file = body_method
subject forms file = file

-- a fault of what has this text, with numbers; no fault has more than two
abbrev pub fields_of : List ℕ → List ℕ → Fields
fields_of text [] = One (Text text)
fields_of text (first ∷ []) = Two (Text text) (Number first)
fields_of text (first ∷ second ∷ rest) = Three (Text text) (Number first) (Number second)

abbrev pub fault_of : Fault → List ℕ → List ℕ → Refusal
fault_of fault text numbers = record { fault = fault; fields = fields_of text numbers }

-- how a fault is told that was found in the file of this name
abbrev pub refusal_of : List ℕ → Finding → Refusal
refusal_of file found = fault_of found.fault (subject (refusal_row found.fault).forms file) found.numbers

-- the file of this name, which has these bytes, is refused so
pub record IsRefused (stages : List Stage) (file bytes : List ℕ) (refusal : Refusal) : Type 0 where
  pub found : Finding
  pub first : IsFirst stages bytes found
  pub told : refusal ≡ refusal_of file found

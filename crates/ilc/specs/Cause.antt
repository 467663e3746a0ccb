-- When each outcome of a command comes.
use Rattle.std.specs.Prelude.{◌≡◌, ◌⊎◌, ℕ, ◌<◌, ◌≤◌, Bool, true, false, List, [], ◌∷◌, ◌++◌, length, Option, Some, None}
use Rattle.std.specs.Prelude.{unwrap_or, Result, Ok, Err}
use Rattle.std.specs.Option.{option_map}
use Rattle.std.specs.FinMap.{get}
use Rattle.ilc_io.specs.Calls.{noted, MayNote, ReadsInPieces, WritesInPieces}
use Rattle.ilc_io.specs.Count.{HasRisen}
use Rattle.ilc_io.specs.Store.{Store, size_of, stored, IsPartlyStored}
use Rattle.ilc_io.specs.declared.call.Call.TheVariants.{Size}
use Rattle.rv_step.specs.Machine.{MachineState, request}
use Rattle.rv_step.specs.Outcomes.{Asks, GoesOn, EndsAfter, TrapsWithin, ReadFailsWithin, WriteFailsWithin}
use Rattle.rv_step.specs.declared.trap.Trap.{Trap}
use Rattle.pe_image.specs.Conditions.{first_fault}
use Rattle.pe_image.specs.Pe.{conditions, parts_of}
use Rattle.md_tables.specs.Finished.{module_of}
use Rattle.md_tables.specs.Modules.{ModuleParts}
use Rattle.md_write.specs.Written.{image_of}
use Rattle.il_text.specs.Assembling.{assembled}
use Rattle.il_text.specs.Listing.{listing_of}
use Rattle.elf_file.specs.Elf.{loaded}
use Rattle.ilc_build.specs.Implements.{Builds}
use Rattle.ilc.specs.Line.{count_line}
use Rattle.ilc.specs.Printed.{Prints, BreaksOff, Writes, WritesFront}
use Rattle.ilc.specs.Seen.{StoreSeen, StreamsSeen}
use Rattle.ilc.specs.Stages.{Stage, body_stages, elf_stages, assembly_stages, text_stages, IsRefused}
use Rattle.ilc.specs.Words.{command_of}
use Rattle.ilc.specs.declared.command.Command.{Command}
use Rattle.ilc.specs.declared.command.Command.TheVariants.{Body, Run, Dis, Asm}
use Rattle.ilc.specs.declared.outcome.Outcome.{Outcome}
use Rattle.ilc.specs.declared.outcome.Outcome.TheVariants.{Usage, NoFile, TooLong, Refused, ReadFault, WriteFault}
use Rattle.ilc.specs.declared.outcome.Outcome.TheVariants.{Ended, Written, Memory}
use Rattle.ilc.specs.declared.refusal.Fault.TheVariants.{Spent as SpentFault, Trap as TrapFault}
use Rattle.ilc.specs.declared.refusal.Field.TheVariants.{Number, Address, Cause as CauseField}
use Rattle.ilc.specs.declared.refusal.Fields.TheVariants.{One, Two}
use Rattle.ilc.specs.declared.refusal.Refusal.{Refusal}

-- ---- reading a file

abbrev pub SameFiles : StoreSeen → StoreSeen → Type 0
SameFiles before now = now.told ≡ before.told

-- what `size` gave for a name, once
abbrev pub IsAsked : List ℕ → Option ℕ → StoreSeen → StoreSeen → Type 0
IsAsked name answer before now = now.asked ≡ before.asked ++ (name, answer) ∷ []

-- A file of at most `limit` bytes was read whole, once. Where the store tells its files, these are its bytes.
pub record IsRead (name : List ℕ) (limit : ℕ) (bytes : List ℕ) (before now : StoreSeen) : Type 0 where
  pub content : (store : Store) → before.told ≡ Some store → get store name ≡ Some bytes
  pub size : ℕ
  pub asked : IsAsked name (Some size) before now
  pub whole : length bytes ≤ size
  pub within : size ≤ limit
  pub pieces : ReadsInPieces size before.calls now.calls

-- `size` gave no number for the file; where the store tells its files, the name isn't there
pub record IsMissing (name : List ℕ) (before now : StoreSeen) : Type 0 where
  pub asked : IsAsked name None before now
  pub not_there : (store : Store) → before.told ≡ Some store → get store name ≡ None
  pub calls : now.calls ≡ noted Size before.calls

-- `size` gave a number above the limit; where the store tells its files, it is the size of the file
pub record IsTooLong (name : List ℕ) (limit size : ℕ) (before now : StoreSeen) : Type 0 where
  pub asked : IsAsked name (Some size) before now
  pub above : limit < size
  pub its_size : (store : Store) → before.told ≡ Some store → size_of store name ≡ Some size
  pub calls : now.calls ≡ noted Size before.calls

-- Of a reading that broke off, or was in vain: either `size` was refused, or it has answered once, and the file was
-- read at most once.
abbrev pub IsTried : List ℕ → ℕ → StoreSeen → StoreSeen → Type 0
IsTried name limit before now =
    ((now.asked ≡ before.asked) × MayNote Size before.calls now.calls)
    ⊎ ((answer : Option ℕ) × IsAsked name answer before now × (unwrap_or answer 0 ≤ limit)
    × ReadsInPieces (unwrap_or answer 0) before.calls now.calls)

-- When each outcome comes of a file that wasn't read, or is refused by one of these stages. Want of memory may come at
-- any time.
abbrev pub NotTaken : List Stage → List ℕ → ℕ → StoreSeen → StoreSeen → Outcome → Type 0
NotTaken stages name limit before now (NoFile file) = (file ≡ name) × IsMissing name before now
NotTaken stages name limit before now (TooLong size) = IsTooLong name limit size before now
NotTaken stages name limit before now ReadFault =
    HasRisen before.read_faults now.read_faults × IsTried name limit before now
NotTaken stages name limit before now (Refused refusal) =
    (bytes : List ℕ) × IsRead name limit bytes before now × IsRefused stages name bytes refusal
NotTaken stages name limit before now Memory = IsTried name limit before now
NotTaken stages name limit before now (Usage index) = ⊥
NotTaken stages name limit before now WriteFault = ⊥
NotTaken stages name limit before now (Ended status) = ⊥
NotTaken stages name limit before now Written = ⊥

-- ---- a file that is made of another

-- the most bytes that a file other than an executable may have
abbrev pub file_limit : ℕ
file_limit = 16777216

-- A file was read, and these bytes were made of its bytes; `Makes` says what may be made of them.
pub record IsMade (Makes : List ℕ → List ℕ → Type 0) (file made : List ℕ) (before now : StoreSeen) : Type 0 where
  pub bytes : List ℕ
  pub read : IsRead file file_limit bytes before now
  pub makes : Makes bytes made
  pub same_files : SameFiles before now
  pub write_faults : now.write_faults ≡ before.write_faults

-- of a writing that broke off, at `create` or at one of the appends
abbrev pub HasBegun : ℕ → StoreSeen → StoreSeen → Type 0
HasBegun size before now = (now.calls ≡ before.calls) ⊎ WritesInPieces size before.calls now.calls

-- When each outcome comes of the bytes that are to be written to a file.
abbrev pub WriteOutcome : List ℕ → List ℕ → StoreSeen → StoreSeen → Outcome → Type 0
WriteOutcome out made before now Written =
    (now.told ≡ option_map (stored out made) before.told) × WritesInPieces (length made) before.calls now.calls
WriteOutcome out made before now WriteFault =
    HasRisen before.write_faults now.write_faults × IsPartlyStored out made before.told now.told
    × HasBegun (length made) before now
WriteOutcome out made before now Memory =
    IsPartlyStored out made before.told now.told × HasBegun (length made) before now
WriteOutcome out made before now (Usage index) = ⊥
WriteOutcome out made before now (NoFile file) = ⊥
WriteOutcome out made before now (TooLong size) = ⊥
WriteOutcome out made before now (Refused refusal) = ⊥
WriteOutcome out made before now ReadFault = ⊥
WriteOutcome out made before now (Ended status) = ⊥

-- a file was made of another, and was written or not; `size` wasn't asked again
pub record IsTaken (Makes : List ℕ → List ℕ → Type 0) (file out : List ℕ) (before now : StoreSeen) (outcome : Outcome) :
    Type 0 where
  pub made : List ℕ
  pub between : StoreSeen
  pub is_made : IsMade Makes file made before between
  pub writes : WriteOutcome out made between now outcome
  pub same_asked : now.asked ≡ between.asked

-- Either nothing was made of the file, and no file has changed, or another was made of it, and was written or not.
abbrev pub MakingOutcome : (List ℕ → List ℕ → Type 0) → List Stage → List ℕ → List ℕ → StoreSeen → StoreSeen → Outcome
    → Type 0
MakingOutcome Makes stages file out before now outcome =
    (NotTaken stages file file_limit before now outcome × SameFiles before now)
    ⊎ IsTaken Makes file out before now outcome

-- `body FILE -o OUT`: the executable file does what the bare body does
abbrev pub BodyOutcome : List ℕ → List ℕ → StoreSeen → StoreSeen → Outcome → Type 0
BodyOutcome = MakingOutcome Builds body_stages

-- the image of the module that a text means
pub record IsImageOf (text image : List ℕ) : Type 0 where
  pub m : ModuleParts
  pub means : assembled text ≡ Ok m
  pub written : image ≡ image_of m.entry m.user m.tables

-- `asm FILE -o OUT`: the image is that of the module
abbrev pub AsmOutcome : List ℕ → List ℕ → StoreSeen → StoreSeen → Outcome → Type 0
AsmOutcome = MakingOutcome IsImageOf text_stages

-- ---- `run ELF --steps N --count`

-- the most bytes that an executable file may have
abbrev pub elf_limit : ℕ
elf_limit = 1073741824

-- an executable file was read, and loads as a machine
pub record IsLoaded (elf : List ℕ) (machine : MachineState) (before now : StoreSeen) : Type 0 where
  pub bytes : List ℕ
  pub read : IsRead elf elf_limit bytes before now
  pub loads : loaded bytes ≡ Ok machine

-- after so many steps within a limit the program has ended, and not before; no fault was counted
pub record EndsWithin (machine : MachineState) (limit steps status : ℕ) (before now : StreamsSeen) : Type 0 where
  pub within : steps ≤ limit
  pub new : MachineState
  pub ends : EndsAfter machine steps status new before.outside now.outside
  pub input_faults : now.input_faults ≡ before.input_faults
  pub output_faults : now.output_faults ≡ before.output_faults
  pub error_faults : now.error_faults ≡ before.error_faults

-- the line of the number of steps was printed, where it is to be
abbrev pub IsCounted : Bool → ℕ → StreamsSeen → StreamsSeen → Type 0
IsCounted true steps before now = Prints (count_line steps) before now
IsCounted false steps before now = now ≡ before

-- the program has ended within a limit, and the line of the number of its steps broke off
abbrev pub CountBreaksOff : MachineState → ℕ → StreamsSeen → StreamsSeen → Type 0
CountBreaksOff machine limit before now =
    (steps : ℕ) × (status : ℕ) × (between : StreamsSeen)
    × EndsWithin machine limit steps status before between × BreaksOff (count_line steps) between now

-- the sink that the machine asks to write to has counted a fault: by call 64 with 1 the output, with 2 the error text
abbrev pub SinkFails : MachineState → StreamsSeen → StreamsSeen → Type 0
SinkFails machine before now =
    (Asks machine (request 64 1) × HasRisen before.output_faults now.output_faults)
    ⊎ (Asks machine (request 64 2) × HasRisen before.error_faults now.error_faults)

-- how it is told that a program goes on after so many steps, and that the machine can't do one
abbrev pub spent : ℕ → Refusal
spent steps = record { fault = SpentFault; fields = One (Number steps) }

abbrev pub trapped : Trap → Refusal
trapped trap = record { fault = TrapFault; fields = Two (Address trap.pc) (CauseField trap.cause) }

-- When each outcome comes of a machine that does at most `limit` steps, and whose steps are counted or not.
abbrev pub MachineOutcome : MachineState → ℕ → Bool → StreamsSeen → StreamsSeen → Outcome → Type 0
MachineOutcome machine limit count before now (Ended status) =
    (steps : ℕ) × (between : StreamsSeen)
    × EndsWithin machine limit steps status before between × IsCounted count steps between now
MachineOutcome machine limit count before now (Refused refusal) =
    ((refusal ≡ spent limit) × (new : MachineState) × GoesOn machine limit new before.outside now.outside)
    ⊎ ((trap : Trap) × (refusal ≡ trapped trap) × (new : MachineState)
    × TrapsWithin machine limit trap new before.outside now.outside)
MachineOutcome machine limit count before now ReadFault =
    HasRisen before.input_faults now.input_faults
    × (new : MachineState) × ReadFailsWithin machine limit new before.outside now.outside
MachineOutcome machine limit count before now WriteFault =
    ((new : MachineState) × SinkFails new before now × WriteFailsWithin machine limit new before.outside now.outside)
    ⊎ ((count ≡ true) × CountBreaksOff machine limit before now)
MachineOutcome machine limit count before now (Usage index) = ⊥
MachineOutcome machine limit count before now (NoFile file) = ⊥
MachineOutcome machine limit count before now (TooLong size) = ⊥
MachineOutcome machine limit count before now Written = ⊥
MachineOutcome machine limit count before now Memory = ⊥

-- Either the file wasn't loaded, and the streams are as before, or its machine ran.
abbrev pub RunOutcome : List ℕ → ℕ → Bool → StoreSeen → StoreSeen → StreamsSeen → StreamsSeen → Outcome → Type 0
RunOutcome elf limit count before now streams streams' outcome =
    (NotTaken elf_stages elf elf_limit before now outcome × (streams' ≡ streams))
    ⊎ ((machine : MachineState) × IsLoaded elf machine before now
    × MachineOutcome machine limit count streams streams' outcome)

-- ---- `dis FILE`

-- the module of an assembly in the bytes of a file
pub record Assembles (bytes : List ℕ) (m : ModuleParts) : Type 0 where
  pub image : first_fault (conditions bytes) ≡ None
  pub tables : module_of (parts_of bytes) ≡ Ok m

-- an assembly was read from a file
pub record IsAssembly (file : List ℕ) (m : ModuleParts) (before now : StoreSeen) : Type 0 where
  pub bytes : List ℕ
  pub read : IsRead file file_limit bytes before now
  pub assembles : Assembles bytes m

-- When each outcome comes of a text that is to be written as output.
abbrev pub TextOutcome : List ℕ → StreamsSeen → StreamsSeen → Outcome → Type 0
TextOutcome text before now Written = Writes text before now
TextOutcome text before now WriteFault = WritesFront text before now
TextOutcome text before now (Usage index) = ⊥
TextOutcome text before now (NoFile file) = ⊥
TextOutcome text before now (TooLong size) = ⊥
TextOutcome text before now (Refused refusal) = ⊥
TextOutcome text before now ReadFault = ⊥
TextOutcome text before now (Ended status) = ⊥
TextOutcome text before now Memory = ⊥

-- Either the file holds no assembly, or memory was wanting, and the streams are as before, or its text was written.
abbrev pub DisOutcome : List ℕ → StoreSeen → StoreSeen → StreamsSeen → StreamsSeen → Outcome → Type 0
DisOutcome file before now streams streams' outcome =
    (NotTaken assembly_stages file file_limit before now outcome × (streams' ≡ streams))
    ⊎ ((m : ModuleParts) × IsAssembly file m before now × TextOutcome (listing_of m) streams streams' outcome)

-- ---- any command

-- With a bad word nothing is done; else the command's own outcomes.
abbrev pub CommandOutcome : Result Command ℕ → StoreSeen → StoreSeen → StreamsSeen → StreamsSeen → Outcome → Type 0
CommandOutcome (Err index) before now streams streams' outcome =
    ((outcome ≡ Usage index) ⊎ (outcome ≡ Memory)) × (now ≡ before) × (streams' ≡ streams)
CommandOutcome (Ok (Body file out)) before now streams streams' outcome =
    BodyOutcome file out before now outcome × (streams' ≡ streams)
CommandOutcome (Ok (Run elf steps count)) before now streams streams' outcome =
    RunOutcome elf steps count before now streams streams' outcome × SameFiles before now
CommandOutcome (Ok (Dis file)) before now streams streams' outcome =
    DisOutcome file before now streams streams' outcome × SameFiles before now
CommandOutcome (Ok (Asm file out)) before now streams streams' outcome =
    AsmOutcome file out before now outcome × (streams' ≡ streams)

-- the cause of an outcome
abbrev pub Cause : List (List ℕ) → StoreSeen → StoreSeen → StreamsSeen → StreamsSeen → Outcome → Type 0
Cause words = CommandOutcome (command_of words)

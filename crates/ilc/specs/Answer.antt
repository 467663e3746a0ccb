-- What the whole call answers.
use Rattle.std.specs.Prelude.{◌≡◌, ◌⊎◌, ℕ, ◌≤◌, List, length, Option, Some, Ok}
use Rattle.std.specs.Option.{option_map}
use Rattle.std.specs.FinMap.{get}
use Rattle.num_core.specs.Run.{Streams, Ended as EndedRun}
use Rattle.ilc_io.specs.Count.{HasRisen}
use Rattle.ilc_io.specs.Store.{Store, stored}
use Rattle.il_code.specs.declared.body.Body.{Body}
use Rattle.rv_step.specs.Machine.{MachineState, machine_run}
use Rattle.md_tables.specs.Modules.{ModuleParts}
use Rattle.md_write.specs.Written.{image_of}
use Rattle.elf_file.specs.Elf.{loaded}
use Rattle.ilc_build.specs.Bare.{ReadsBare}
use Rattle.ilc_build.specs.Implements.{Builds}
use Rattle.ilc_build.specs.declared.depths.Known.{Known}
use Rattle.il_text.specs.Assembling.{assembled}
use Rattle.il_text.specs.Listing.{listing_of}
use Rattle.ilc.specs.Cause.{Cause, Assembles, file_limit, elf_limit}
use Rattle.ilc.specs.Line.{status_of, line_of}
use Rattle.ilc.specs.Printed.{Prints, BreaksOff, Adds}
use Rattle.ilc.specs.Seen.{StoreSeen, StreamsSeen}
use Rattle.ilc.specs.declared.outcome.Outcome.{Outcome}
use Rattle.ilc.specs.declared.outcome.Outcome.TheVariants.{Memory}

-- A line was printed as error text: whole, or its front where a write failed and the sink counted it. Nothing else
-- was read or written.
abbrev pub Reports : List ℕ → StreamsSeen → StreamsSeen → Type 0
Reports line before now = Prints line before now ⊎ BreaksOff line before now

-- There is an outcome that has come for its cause, whose status is the answer and whose line was printed.
pub record Answers (words : List (List ℕ)) (before now : StoreSeen) (streams streams' : StreamsSeen) (status : ℕ) :
    Type 0 where
  pub outcome : Outcome
  pub between : StreamsSeen
  pub its_status : status ≡ status_of outcome
  pub cause : Cause words before now streams between outcome
  pub reports : Reports (line_of outcome) between streams'

-- A bare body was read from the file FILE, and OUT now has an executable file that keeps step with it.
pub record HasWritten (file out : List ℕ) (before now : Option Store) : Type 0 where
  pub bytes : List ℕ
  pub read : (store : Store) → before ≡ Some store → get store file ≡ Some bytes
  pub elf : List ℕ
  pub builds : Builds bytes elf
  pub written : now ≡ option_map (stored out elf) before

-- the store tells that a file has the bytes of a bare body
pub record HasBare (file : List ℕ) (told : Option Store) : Type 0 where
  pub store : Store
  pub tells : told ≡ Some store
  pub bytes : List ℕ
  pub content : get store file ≡ Some bytes
  pub body : Body
  pub table : List Known
  pub reads : ReadsBare bytes body table

-- The store tells that a file has the bytes of an executable that loads, and what the source has left is told. On that
-- input the program has ended after so many steps.
pub record HasProgram (elf : List ℕ) (steps status : ℕ) (told : Option Store) (rest : Option (List ℕ)) : Type 0 where
  pub store : Store
  pub tells : told ≡ Some store
  pub bytes : List ℕ
  pub content : get store elf ≡ Some bytes
  pub size : length bytes ≤ elf_limit
  pub machine : MachineState
  pub loads : loaded bytes ≡ Ok machine
  pub input : List ℕ
  pub left : rest ≡ Some input
  pub streams : Streams
  pub ends : machine_run machine input steps ≡ EndedRun status streams

-- An assembly was read from the file FILE, and the output has its text behind what it had.
pub record HasListed (file : List ℕ) (told : Option Store) (before now : Option (List ℕ)) : Type 0 where
  pub bytes : List ℕ
  pub read : (store : Store) → told ≡ Some store → get store file ≡ Some bytes
  pub m : ModuleParts
  pub assembles : Assembles bytes m
  pub written : Adds (listing_of m) before now

-- the store tells that a file has the bytes of an assembly
pub record HasAssembly (file : List ℕ) (told : Option Store) : Type 0 where
  pub store : Store
  pub tells : told ≡ Some store
  pub bytes : List ℕ
  pub content : get store file ≡ Some bytes
  pub size : length bytes ≤ file_limit
  pub m : ModuleParts
  pub assembles : Assembles bytes m

-- The text of an assembly was read from the file FILE, and OUT now has the image of the module that it means.
pub record HasImage (file out : List ℕ) (before now : Option Store) : Type 0 where
  pub bytes : List ℕ
  pub read : (store : Store) → before ≡ Some store → get store file ≡ Some bytes
  pub m : ModuleParts
  pub means : assembled bytes ≡ Ok m
  pub written : now ≡ option_map (stored out (image_of m.entry m.user m.tables)) before

-- the store tells that a file has the text of an assembly
pub record HasText (file : List ℕ) (told : Option Store) : Type 0 where
  pub store : Store
  pub tells : told ≡ Some store
  pub bytes : List ℕ
  pub content : get store file ≡ Some bytes
  pub size : length bytes ≤ file_limit
  pub m : ModuleParts
  pub means : assembled bytes ≡ Ok m

-- no fault of the store was counted
abbrev pub NoneCounted : StoreSeen → StoreSeen → Type 0
NoneCounted before now =
    (HasRisen before.read_faults now.read_faults → ⊥) × (HasRisen before.write_faults now.write_faults → ⊥)

-- no fault of the streams was counted
abbrev pub NoneOfStreams : StreamsSeen → StreamsSeen → Type 0
NoneOfStreams before now =
    (HasRisen before.input_faults now.input_faults → ⊥) × (HasRisen before.output_faults now.output_faults → ⊥)
    × (HasRisen before.error_faults now.error_faults → ⊥)

-- the store tells its files, and the source what it has left
pub record TellsAll (told : Option Store) (rest : Option (List ℕ)) : Type 0 where
  pub store : Store
  pub files : told ≡ Some store
  pub input : List ℕ
  pub left : rest ≡ Some input

-- An outcome of these words that has its cause from here on, where no fault was counted.
pub record ComesTo (words : List (List ℕ)) (before : StoreSeen) (streams : StreamsSeen) (outcome : Outcome) : Type 0
  where
    pub now : StoreSeen
    pub streams' : StreamsSeen
    pub cause : Cause words before now streams streams' outcome
    pub store : NoneCounted before now
    pub others : NoneOfStreams streams streams'

-- one of the two is want of memory, or they are one
abbrev pub AreOne : Outcome → Outcome → Type 0
AreOne a b = (a ≡ Memory) ⊎ ((b ≡ Memory) ⊎ (a ≡ b))

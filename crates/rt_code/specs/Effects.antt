-- What each routine does, of every machine that comes to its code wherever that stands.
use Rattle.std.specs.Prelude.{◌≡◌, ℕ, ◌+◌, ◌-◌, ◌*◌, ◌%◌, ◌^◌, ◌<◌, ◌≤◌, ◌==◌, if◌then◌else◌, List, [], ◌∷◌, ◌++◌}
use Rattle.std.specs.Prelude.{length, replicate, All, Option, Some, None}
use Rattle.byteorder.specs.Endian.{little_bytes}
use Rattle.num_core.specs.Run.{Running, Ended, Streams, after}
use Rattle.rv_isa.specs.declared.ins.Ins.{Ins}
use Rattle.rv_isa.specs.Instructions.{word_of}
use Rattle.rv_step.specs.Machine.{MachineState, machine_step, register}
use Rattle.rv_step.specs.Memory.{AreApart, Bytes, MayRead, MayWrite, Number, Writes}
use Rattle.rv_code.specs.Code.{CodeAt}
use Rattle.rv_code.specs.Registers.{HasRegisters}
use Rattle.lir_core.specs.Calls.{stack_text}
use Rattle.lir_core.specs.Handlers.{unhandled_text}
use Rattle.lir_core.specs.Program.{RoutineEffect}
use Rattle.lir_core.specs.Routines.{behind_first, ends_program, first_of, heap_text, reads_byte, writes_byte}
use Rattle.rt_code.specs.Conventions.{HasClearHeap, HasScratch, KeepsMemory, KeepsRegisters, first_argument}
use Rattle.rt_code.specs.Conventions.{frame_address, heap_end, lowest_address, passed_word, return_address}
use Rattle.rt_code.specs.Conventions.{root_address}
use Rattle.rt_code.specs.declared.routines.Routine.{Routine}
use Rattle.rt_code.specs.declared.routines.Routine.TheVariants.{Start, End, WriteByte, ReadByte, StackBound, HeapBound}
use Rattle.rt_code.specs.declared.routines.Routine.TheVariants.{Unhandled}

-- a machine that has come to the first instruction of code
pub record ComesTo (address : ℕ) (code : List Ins) (m : MachineState) : Type 0 where
  pub code_at : CodeAt address code m
  pub registers : HasRegisters m
  pub pc : m.pc ≡ address

-- in one or more steps, and at most so many, the run ends
pub record EndsWithin (most : ℕ) (m : MachineState) (streams : Streams) (status : ℕ) (streams' : Streams) : Type 0 where
  pub count : ℕ
  pub some : 0 < count
  pub few : count ≤ most
  pub ends : after machine_step count (Running m streams) ≡ Ended status streams'

-- in one or more steps, and at most so many, the machine comes to another place
pub record LeadsWithin (most : ℕ) (m : MachineState) (streams : Streams) (new : MachineState) (streams' : Streams)
    : Type 0 where
  pub count : ℕ
  pub some : 0 < count
  pub few : count ≤ most
  pub leads : after machine_step count (Running m streams) ≡ Running new streams'
  pub registers : HasRegisters new

-- It comes back behind the call, with all as before but for what a routine may change.
pub record Returns (most : ℕ) (m : MachineState) (streams : Streams) (new : MachineState) (streams' : Streams)
    : Type 0 where
  pub within : LeadsWithin most m streams new streams'
  pub pc : new.pc ≡ register m return_address
  pub kept : KeepsRegisters m new
  pub memory : KeepsMemory m new

-- the streams with a line of error text
abbrev pub with_error : List ℕ → Streams → Streams
with_error text streams = record streams { error = streams.error ++ text }

-- the line of a bound or of an object that nothing catches, and the end with 134
abbrev pub EndsWithLine : List ℕ → List Ins → Type 0
EndsWithLine text code = (address : ℕ) (m : MachineState) (streams : Streams) → ComesTo address code m
    → HasScratch (register m frame_address) address (length code) m
    → EndsWithin 23 m streams 134 (with_error text streams)

-- ---- the start

-- What stands in front of the code of `start`, in words of 8 bytes, where a program is placed: the address of the root,
-- and how many bytes of heap and of stack the program may use.
pub record Front : Type 0 where
  pub root : ℕ
  pub heap : ℕ
  pub stack : ℕ

-- What `start` finds at the root, in words of 8 bytes: the address of the first body, the word that it takes as its
-- argument, and how many bytes behind the begin of the root the heap begins.
pub record Root : Type 0 where
  pub body : ℕ
  pub argument : ℕ
  pub distance : ℕ

-- The frames lie right behind the heap.
abbrev pub heap_begin : Front → Root → ℕ
heap_begin front root = front.root + root.distance

abbrev pub frames_begin : Front → Root → ℕ
frames_begin front root = heap_begin front root + front.heap

abbrev pub frames_end : Front → Root → ℕ
frames_end front root = frames_begin front root + front.stack

-- where the first argument of the first body lies, whose frame takes so many bytes
abbrev pub argument_place : Front → Root → ℕ → ℕ
argument_place front root frame = frames_end front root - frame + first_argument

pub record FrontAt (address : ℕ) (front : Front) (m : MachineState) : Type 0 where
  pub behind : 24 ≤ address
  pub read : MayRead m (address - 24) 24
  pub root : Number m (address - 24) 8 front.root
  pub heap : Number m (address - 16) 8 front.heap
  pub stack : Number m (address - 8) 8 front.stack

pub record RootAt (place : ℕ) (root : Root) (m : MachineState) : Type 0 where
  pub fits : place + 24 ≤ 2 ^ 64
  pub read : MayRead m place 24
  pub body : Number m place 8 root.body
  pub argument : Number m (place + 8) 8 root.argument
  pub distance : Number m (place + 16) 8 root.distance

-- The first body's code begins with the instruction that says how many bytes its frame takes.
pub record Begins (address : ℕ) (code : List Ins) (front : Front) (root : Root) (frame : ℕ) (m : MachineState)
    : Type 0 where
  pub comes : ComesTo address code m
  pub front_at : FrontAt address front m
  pub root_at : RootAt front.root root m
  pub aligned : root.body % 4 ≡ 0
  pub may_read_body : MayRead m root.body 4
  pub says_frame : Number m root.body 4 (word_of (Ins.Lui 0 frame))
  pub least : first_argument ≤ frame
  pub frame_fits : frame < 2 ^ 20
  pub frames_fit : frames_end front root < 2 ^ 64
  pub words : (root.body < 2 ^ 64) × (root.argument < 2 ^ 64)

-- Its frame fits between the heap and the end of the frames, and its argument may be written, where the code isn't.
pub record HasRoom (address count : ℕ) (front : Front) (root : Root) (frame : ℕ) (m : MachineState) : Type 0 where
  pub fits : frame ≤ front.stack
  pub write : MayWrite m (argument_place front root frame) 8
  pub apart : AreApart (argument_place front root frame) 8 address (4 * count)

-- the machine at the first body, which has its argument in the frame to be, and all else in memory as before
pub record Enters (address : ℕ) (front : Front) (root : Root) (frame : ℕ) (m new : MachineState) : Type 0 where
  pub pc : new.pc ≡ root.body
  pub back : register new return_address ≡ address + 64
  pub stack : register new frame_address ≡ frames_end front root
  pub root_place : register new root_address ≡ front.root
  pub lowest : register new lowest_address ≡ frames_begin front root
  pub heap : register new heap_end ≡ heap_begin front root
  pub argument : Writes (argument_place front root frame) (little_bytes 8 root.argument) m new
  pub clear : Bytes m (heap_begin front root) (replicate front.heap 0) → HasClearHeap new

-- It enters the first body, if its frame fits, or ends with the line of the stack's bound. Where the body returns, the
-- program ends with the low byte of the word that it gives, which is 0 where it gives none.
pub record Starts (code : List Ins) : Type 0 where
  pub enters : (address : ℕ) (m : MachineState) (streams : Streams) (front : Front) (root : Root) (frame : ℕ)
      → Begins address code front root frame m → HasRoom address (length code) front root frame m
      → (new : MachineState) × LeadsWithin 16 m streams new streams × Enters address front root frame m new
  pub refuses : (address : ℕ) (m : MachineState) (streams : Streams) (front : Front) (root : Root) (frame : ℕ)
      → Begins address code front root frame m → front.stack < frame
      → HasScratch (frames_end front root) address (length code) m
      → EndsWithin 35 m streams 134 (with_error stack_text streams)
  pub ends : (address : ℕ) (m : MachineState) (streams : Streams) → CodeAt address code m → HasRegisters m
      → m.pc ≡ address + 64 → EndsWithin 2 m streams (register m passed_word % 256) streams

-- ---- all routines

-- the places of the variants
abbrev pub number_of : Routine → ℕ
number_of Start = 0
number_of End = 1
number_of WriteByte = 2
number_of ReadByte = 3
number_of StackBound = 4
number_of HeapBound = 5
number_of Unhandled = 6

abbrev pub HasEffect : Routine → List Ins → Type 0
HasEffect Start code = Starts code
-- ends with the low byte of the word
HasEffect End code = (address : ℕ) (m : MachineState) (streams : Streams) → ComesTo address code m
    → EndsWithin 2 m streams (register m passed_word % 256) streams
-- writes the low byte of the word
HasEffect WriteByte code = (address : ℕ) (m : MachineState) (streams : Streams) → ComesTo address code m
    → HasScratch (register m frame_address) address (length code) m → register m return_address % 2 ≡ 0
    → (new : MachineState) × Returns 7 m streams new
    (record streams { output = streams.output ++ (register m passed_word % 256) ∷ [] })
-- takes a byte of the input, and gives it, or the word of -1 where there is none
HasEffect ReadByte code = (address : ℕ) (m : MachineState) (streams : Streams) → ComesTo address code m
    → HasScratch (register m frame_address) address (length code) m → register m return_address % 2 ≡ 0
    → All (λ byte. byte < 256) streams.input
    → (new : MachineState) × Returns 8 m streams new (record streams { input = behind_first streams.input })
    × (register new passed_word ≡ first_of streams.input)
HasEffect StackBound code = EndsWithLine stack_text code
HasEffect HeapBound code = EndsWithLine heap_text code
HasEffect Unhandled code = EndsWithLine unhandled_text code

-- what the routines that programs call by their number do at the word level
abbrev pub effects : ℕ → Option RoutineEffect
effects number =
    if number == number_of End then Some ends_program
    else if number == number_of WriteByte then Some writes_byte
    else if number == number_of ReadByte then Some reads_byte else None

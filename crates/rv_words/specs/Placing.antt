-- Where a program at the word level stands in the memory of a machine.
use Rattle.std.specs.Prelude.{◌≡◌, ◌≢◌, ℕ, ◌+◌, ◌-◌, ◌*◌, ◌^◌, ◌<◌, ◌≤◌, Bool, false, ◌&&◌, nat_le, nat_lt}
use Rattle.std.specs.Prelude.{if◌then◌else◌, List, [], ◌∷◌, length, All, Option, Some, None}
use Rattle.std.specs.Option.{option_and_then, option_map}
use Rattle.num_core.specs.declared.fix.FixKind.{FixKind}
use Rattle.num_core.specs.declared.fix.FixKind.TheVariants.{Routine}
use Rattle.rv_isa.specs.Instructions.{IsLegal}
use Rattle.rv_step.specs.Machine.{MachineState, register}
use Rattle.rv_step.specs.Memory.{MayRead, MayWrite, byte_in}
use Rattle.rv_step.specs.Segments.{AreSegments}
use Rattle.rv_code.specs.Code.{CodeAt}
use Rattle.rv_code.specs.Registers.{HasRegisters}
use Rattle.lir_core.specs.Frame.{fixed_bytes}
use Rattle.lir_core.specs.Layout.{IsLaidOut}
use Rattle.lir_core.specs.Memory.{Missing}
use Rattle.lir_core.specs.Program.{WordProgram}
use Rattle.lir_core.specs.declared.body.LirBody.{LirBody}
use Rattle.rt_code.specs.Code.{code_of as routine_code}
use Rattle.rt_code.specs.Conventions.{HasClearHeap, heap_end, lowest_address}
use Rattle.rt_code.specs.Effects.{effects, number_of}
use Rattle.rt_code.specs.declared.routines.Routine.{Routine as RoutineOf}
use Rattle.rv_gen.specs.Placing.{code_of}
use Rattle.rv_words.specs.Linked.{linked}

-- A program, which has the addresses that it speaks of by name, those at which the heap begins and the stack ends, and
-- how many bytes they may use; the addresses at which the code of bodies begins; and the lowest address of what may be
-- written: the image's data, the heap and the stack, which lie one behind the other in this order, with the bytes
-- behind the stack's end that routines may use.
pub record Placing : Type 0 where
  pub program : WordProgram
  pub begins : List ℕ
  pub lowest_data : ℕ

-- how many bytes of memory may be written
abbrev pub data_bytes : Placing → ℕ
data_bytes placing = (placing.program.stack_end + fixed_bytes) - placing.lowest_data

-- ---- the map: what stands around an address

-- the item whose code begins at an address, and its body
pub record Around : Type 0 where
  pub begin : ℕ
  pub item : ℕ
  pub body : LirBody

abbrev pub body_at : WordProgram → ℕ → Option Around
body_at program begin =
    option_and_then
    (λ item. option_map (λ body. record { begin = begin; item = item; body = body }) (program.body_of item))
    (program.item_at begin)

-- An address lies behind the begin of the code, and at most right behind its end. So it does where an operation begins,
-- where a call goes on, and where the last operation ends.
abbrev pub is_around : Around → ℕ → Bool
is_around around address =
    nat_lt around.begin address && nat_le address (around.begin + 4 * length (code_of around.body))

abbrev pub has_around : Option Around → ℕ → Bool
has_around None address = false
has_around (Some around) address = is_around around address

abbrev pub around_among : WordProgram → List ℕ → ℕ → Option Around
around_among program [] address = None
around_among program (begin ∷ begins) address =
    if has_around (body_at program begin) address then body_at program begin
    else around_among program begins address

abbrev pub around_at : Placing → ℕ → Option Around
around_at placing address = around_among placing.program placing.begins address

-- ---- what is asked of a placing

-- the highest address that code and what it names may have, so that an `auipc` reaches each from each
abbrev pub reach : ℕ
reach = 2 ^ 31 - 4096

-- A body whose code begins at an address: its instructions are legal, all of them are within reach and below the data,
-- and the map tells the body around each address of its code.
pub record IsBodyPlaced (placing : Placing) (begin item : ℕ) (body : LirBody) : Type 0 where
  pub legal : All IsLegal (code_of body)
  pub near : begin + 4 * length (code_of body) < reach
  pub below_data : begin + 4 * length (code_of body) ≤ placing.lowest_data
  pub mapped : (address : ℕ) → begin < address → address ≤ begin + 4 * length (code_of body)
      → around_at placing address ≡ Some (record { begin = begin; item = item; body = body })

-- Code, data, heap and stack lie in this order. Each routine that code goes to has an address, and does what the
-- program says that its number does. No body has clauses, and no address that a name has is out of reach.
pub record IsPlacing (placing : Placing) : Type 0 where
  pub laid_out : IsLaidOut placing.program
  pub no_clauses : (item : ℕ) → placing.program.clauses_of item ≡ []
  pub does : (number : ℕ) → placing.program.routine number ≡ effects number
  pub routines : (which : RoutineOf) → (address : ℕ)
      × (placing.program.address_of Routine (number_of which) ≡ Some address)
      × (address + 4 * length (routine_code which) ≤ placing.lowest_data)
  pub near : (kind : FixKind) (item address : ℕ) → placing.program.address_of kind item ≡ Some address
      → address < reach
  pub bodies : (item begin : ℕ) (body : LirBody) → placing.program.item_at begin ≡ Some item
      → placing.program.body_of item ≡ Some body → IsBodyPlaced placing begin item body
  pub heap_behind_data : placing.lowest_data ≤ placing.program.heap_begin
  pub image_in_data : (place : ℕ) → placing.program.image place ≢ Missing
      → (placing.lowest_data ≤ place) × (place < placing.program.heap_begin)
  pub room_behind : placing.program.stack_end + fixed_bytes ≤ 2 ^ 64

-- What stands in a machine's memory all the time that the program runs in it: the code of bodies and routines, of
-- which the first word of a body may be read too. What may be written lies in one piece, and
-- holds bytes.
pub record HasProgram (placing : Placing) (m : MachineState) : Type 0 where
  pub segments : AreSegments m.segments
  pub code : (item begin : ℕ) (body : LirBody) → placing.program.item_at begin ≡ Some item
      → placing.program.body_of item ≡ Some body → CodeAt begin (linked placing.program begin body) m
  pub routines : (which : RoutineOf) (address : ℕ)
      → placing.program.address_of Routine (number_of which) ≡ Some address
      → CodeAt address (routine_code which) m
  pub first_words : (item begin : ℕ) (body : LirBody) → placing.program.item_at begin ≡ Some item
      → placing.program.body_of item ≡ Some body → MayRead m begin 4
  pub read : MayRead m placing.lowest_data (data_bytes placing)
  pub write : MayWrite m placing.lowest_data (data_bytes placing)
  pub small : (address byte : ℕ) → placing.lowest_data ≤ address
      → address < placing.lowest_data + data_bytes placing → byte_in m.segments address ≡ Some byte → byte < 256

-- A machine in which the program runs: registers of 64 bits, the lowest address of frames, and the heap, of which the
-- unused part is 0.
pub record Serves (placing : Placing) (m : MachineState) : Type 0 where
  pub registers : HasRegisters m
  pub memory : HasProgram placing m
  pub lowest : register m lowest_address ≡ placing.program.heap_begin + placing.program.heap_bound
  pub heap : placing.program.heap_begin ≤ register m heap_end
  pub clear : HasClearHeap m

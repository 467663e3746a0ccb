-- The instructions that enter and leave bodies.
--
-- A body's code begins with `lui x0, frame`, which does nothing: who enters the body reads there how many bytes its
-- frame takes, and goes to the line of the stack's bound before anything is written where they don't fit. Then it puts
-- the arguments and the dictionary into the frame to be, clears what is to be cleared of its own, and goes, with the
-- return address in x1. The body takes its frame, saves the return address and the homes that it has, and loads its
-- homes from their slots. A result of one word comes in x10, and of more words their address in x10, in the frame that
-- is gone; they are copied at once.
use Rattle.std.specs.Prelude.{ℕ, ◌+◌, ◌*◌, ◌==◌, if◌then◌else◌, pos, ◌-ℤ◌, List, [], ◌∷◌, ◌++◌, take}
use Rattle.std.specs.Prelude.{Option, Some, None}
use Rattle.std.specs.List.{flat_map}
use Rattle.num_core.specs.declared.fix.FixKind.TheVariants.{Code, Routine}
use Rattle.num_core.specs.declared.fix.FixKind.{FixKind}
use Rattle.num_core.specs.declared.kind.Narrow.TheVariants.{I8}
use Rattle.rv_isa.specs.declared.ins.Ins.TheVariants.{Addi, Auipc, Bgeu, Jalr, Ld, Lui, Lwu, Sd, Srli, Sub}
use Rattle.lir_core.specs.Frame.{most_passed}
use Rattle.lir_core.specs.declared.op.Argument.{Argument}
use Rattle.lir_core.specs.declared.op.Block.{Block}
use Rattle.lir_core.specs.declared.op.Callee.{Callee}
use Rattle.lir_core.specs.declared.op.Callee.TheVariants.{Body, Through}
use Rattle.lir_core.specs.declared.body.LirBody.{LirBody}
use Rattle.rt_code.specs.Effects.{number_of}
use Rattle.rt_code.specs.declared.routines.Routine.TheVariants.{StackBound}
use Rattle.rv_lines.specs.Frame.{dictionary_at, first_home, home, home_count, homes_at, return_at, slot_place}
use Rattle.rv_lines.specs.Moving.{clears_words, passes_words}
use Rattle.rv_lines.specs.Operands.{gets_address, gets_slot, is_near, loads_behind, loads_constant, puts_slot}
use Rattle.rv_lines.specs.Operands.{reads_slot, register_or, stores_behind}
use Rattle.rv_lines.specs.declared.line.Line.{Line}
use Rattle.rv_lines.specs.declared.line.Line.TheVariants.{Single, Addressed}

-- ---- addresses that a fix names

-- a register gets the address of an item
abbrev pub gets_item : ℕ → FixKind → ℕ → List Line
gets_item rd kind item = Addressed (Auipc rd 0) (Addi rd rd (pos 0)) kind item ∷ []

-- on to a routine, which comes back, and on to one which doesn't
abbrev pub calls_routine : ℕ → List Line
calls_routine number = Addressed (Auipc 1 0) (Jalr 1 1 (pos 0)) Routine number ∷ []

abbrev pub goes_to_routine : ℕ → List Line
goes_to_routine number = Addressed (Auipc 5 0) (Jalr 0 5 (pos 0)) Routine number ∷ []

-- ---- the begin and the end of a body

-- x2 gets the address of a frame of so many bytes below it
abbrev pub takes_frame : ℕ → List Line
takes_frame bytes =
    if is_near bytes then Single (Addi 2 2 (pos 0 -ℤ pos bytes)) ∷ []
    else (loads_constant 28 bytes ++ Single (Sub 2 2 28) ∷ [])

-- the homes from a number on of variables are saved, loaded from their slots, and restored
abbrev pub saves_homes : ℕ → List ℕ → List Line
saves_homes k [] = []
saves_homes k (var ∷ vars) = Single (Sd 2 (first_home + k) (pos (homes_at + 8 * k))) ∷ saves_homes (k + 1) vars

abbrev pub loads_homes : ℕ → List ℕ → List Line
loads_homes k [] = []
loads_homes k (var ∷ vars) = loads_behind I8 (first_home + k) 2 (slot_place var) ++ loads_homes (k + 1) vars

abbrev pub restores_homes : ℕ → List ℕ → List Line
restores_homes k [] = []
restores_homes k (var ∷ vars) = Single (Ld (first_home + k) 2 (pos (homes_at + 8 * k))) ∷ restores_homes (k + 1) vars

abbrev pub enters : LirBody → List Line
enters body =
    Single (Lui 0 body.frame) ∷ (takes_frame body.frame ++ Single (Sd 2 1 (pos return_at))
    ∷ (saves_homes 0 (take home_count body.vars) ++ loads_homes 0 (take home_count body.vars)))

-- x10 gets what a body returns: 0 for nothing
abbrev pub gives_result : List ℕ → Block → List Line
gives_result vars block =
    if block.words == 0 then Single (Addi 10 0 (pos 0)) ∷ []
    else if block.words == 1 then gets_slot (home vars block.slot) 10 block.slot
    else gets_address 10 2 (slot_place block.slot)

abbrev pub returns : LirBody → Block → List Line
returns body block =
    gives_result body.vars block ++ (restores_homes 0 (take home_count body.vars) ++ Single (Ld 1 2 (pos return_at))
    ∷ (gets_address 2 2 body.frame ++ Single (Jalr 0 1 (pos 0)) ∷ []))

-- ---- calls

-- x30 gets the address of the body
abbrev pub gets_callee : List ℕ → Callee → List Line
gets_callee vars (Body item) = gets_item 30 Code item
gets_callee vars (Through slot) = gets_slot (home vars slot) 30 slot

-- x31 gets the address of the frame to be, if it fits above the lowest address in x26
abbrev pub finds_frame : List Line
finds_frame =
    Single (Lwu 7 30 (pos 0)) ∷ Single (Srli 7 7 12) ∷ Single (Sub 5 2 26) ∷ Single (Bgeu 5 7 (pos 12))
    ∷ (goes_to_routine (number_of StackBound) ++ Single (Sub 31 2 7) ∷ [])

-- words of this frame go to slots of the frame to be
abbrev pub gives_argument : List ℕ → Argument → List Line
gives_argument vars argument =
    if argument.words == 1
    then (reads_slot (home vars argument.from) 5 argument.from
    ++ stores_behind I8 (register_or (home vars argument.from) 5) 31 (slot_place argument.to))
    else (gets_address 5 2 (slot_place argument.from)
    ++ (gets_address 6 31 (slot_place argument.to) ++ passes_words argument.words))

abbrev pub gives_dictionary : List ℕ → Option ℕ → List Line
gives_dictionary vars None = []
gives_dictionary vars (Some slot) =
    reads_slot (home vars slot) 5 slot ++ Single (Sd 31 (register_or (home vars slot) 5) (pos dictionary_at)) ∷ []

-- slots get 0
abbrev pub clears_block : List ℕ → Block → List Line
clears_block vars block =
    if block.words == 0 then []
    else if block.words == 1 then puts_slot (home vars block.slot) 0 block.slot
    else (gets_address 6 2 (slot_place block.slot) ++ clears_words block.words)

-- the result goes from x10, or from where x10 says, to its slots
abbrev pub takes_result : List ℕ → Block → List Line
takes_result vars block =
    if block.words == 0 then []
    else if block.words == 1 then puts_slot (home vars block.slot) 10 block.slot
    else Single (Addi 5 10 (pos 0)) ∷ (gets_address 6 2 (slot_place block.slot) ++ passes_words block.words)

abbrev pub calls : List ℕ → Callee → Option ℕ → List Argument → Block → Block → List Line
calls vars callee dictionary arguments cleared result =
    gets_callee vars callee ++ (finds_frame ++ (flat_map (gives_argument vars) arguments
    ++ (gives_dictionary vars dictionary ++ (clears_block vars cleared ++ Single (Jalr 1 30 (pos 0))
    ∷ takes_result vars result))))

-- ---- routines

-- a routine takes its words in x10 to x17
abbrev pub passes_to_routine : List ℕ → ℕ → List ℕ → List Line
passes_to_routine vars register [] = []
passes_to_routine vars register (slot ∷ slots) =
    gets_slot (home vars slot) register slot ++ passes_to_routine vars (register + 1) slots

abbrev pub takes_word : List ℕ → Option ℕ → List Line
takes_word vars None = []
takes_word vars (Some slot) = puts_slot (home vars slot) 10 slot

abbrev pub does_routine : List ℕ → ℕ → List ℕ → Option ℕ → List Line
does_routine vars number arguments result =
    passes_to_routine vars 10 (take most_passed arguments) ++ (calls_routine number ++ takes_word vars result)

-- The instructions of a machine that do what CIL instructions do.
use Rattle.std.specs.Prelude.{ℕ, ◌+◌, ◌-◌, ◌*◌, ◌/◌, ◌%◌, ◌^◌, ℤ, pos, ◌-ℤ◌, ◌==◌, if◌then◌else◌, FitsSigned, List, []}
use Rattle.std.specs.Prelude.{◌∷◌, ◌++◌, Option, Some}
use Rattle.std.specs.Int.{w32}
use Rattle.std.specs.List.{flat_map}
use Rattle.std.specs.Option.{ForSome}
use Rattle.byteorder.specs.Endian.{little_bytes}
use Rattle.il_code.specs.declared.body.Instr.{Instr}
use Rattle.il_code.specs.declared.operation.Operation.{Operation}
use Rattle.il_code.specs.declared.operation.Operation.TheVariants.{NoOperation, Constant, Duplicate, Discard, Binary}
use Rattle.il_code.specs.declared.operation.Operation.TheVariants.{Branch, BranchIfTrue, Return}
use Rattle.il_code.specs.declared.operation.BinaryOperation.{BinaryOperation}
use Rattle.il_code.specs.declared.operation.BinaryOperation.TheVariants.{Add, Subtract, Multiply}
use Rattle.il_code.specs.Operations.{operation_of}
use Rattle.rv_isa.specs.declared.ins.Ins.{Ins}
use Rattle.rv_isa.specs.declared.ins.Ins.TheVariants.{Lui, Jal, Bne, Ld, Sd, Addi, Addiw, Addw, Subw, Mulw, Ecall}
use Rattle.num_core.specs.Bits.{signed}
use Rattle.rv_isa.specs.Instructions.{word_of}
use Rattle.num_core.specs.Bits.{low_bits}
use Rattle.ilc_build.specs.Depths.{operation_at}
use Rattle.ilc_build.specs.declared.depths.Known.{Known}
use Rattle.ilc_build.specs.declared.depths.Known.TheVariants.{Depth}

-- the upper 20 bits and the signed lower 12 whose sum has the lowest 32 bits of n
abbrev pub upper : ℤ → ℕ
upper n = (low_bits 32 n + 2048) / 4096 % 2 ^ 20

abbrev pub lower : ℤ → ℤ
lower n = signed 12 (low_bits 32 n % 4096)

-- a register gets a constant
abbrev pub constant_code : ℕ → ℤ → List Ins
constant_code rd n = Lui rd (upper n) ∷ Addiw rd rd (lower n) ∷ []

-- what is loaded is an int32
abbrev pub LoadsInt32 : Operation → Type 0
LoadsInt32 (Constant n) = FitsSigned w32 n
LoadsInt32 _ = Unit {0}

abbrev pub IsInt32Instr : Instr → Type 0
IsInt32Instr i = ForSome (operation_of i.op i.operand) LoadsInt32

-- ---- the evaluation stack in memory: 8 bytes a slot, the deepest first, each a number with its sign extended

-- the page of 4,096 bytes at which it begins: that behind the headers and the text, which fill one page at most
abbrev pub stack_page : ℕ
stack_page = 17

-- t0 (x5) gets its address
abbrev pub stack_address : Ins
stack_address = Lui 5 stack_page

-- how far from there the slot of a number lies
abbrev pub slot : ℕ → ℤ
slot k = pos (8 * k)

-- the value in a slot to a register, and that in t1 (x6) to a slot
abbrev pub load_slot : ℕ → ℕ → Ins
load_slot rd k = Ld rd 5 (slot k)

abbrev pub store_slot : ℕ → Ins
store_slot k = Sd 5 6 (slot k)

-- ---- what each operation becomes, on a stack of a depth

-- t1 (x6) gets what it and t2 (x7) give, wrapped
abbrev pub binary_instruction : BinaryOperation → Ins
binary_instruction Add = Addw 6 6 7
binary_instruction Subtract = Subw 6 6 7
binary_instruction Multiply = Mulw 6 6 7

-- `addi x0, x0, 0`, which does nothing
abbrev pub no_operation : Ins
no_operation = Addi 0 0 (pos 0)

-- the program ends with what is in a0 (x10): the call of the environment with number 93 in a7 (x17)
abbrev pub exit_code : List Ins
exit_code = Addi 17 0 (pos 93) ∷ Ecall ∷ []

-- how far one place lies from another, where the machine's instructions are counted
abbrev pub distance : ℕ → ℕ → ℤ
distance from to = pos (4 * to) -ℤ pos (4 * from)

-- What an operation becomes at a place, on a stack of a depth, where `places` tells the place of each offset.
abbrev pub operation_code : (ℕ → ℕ) → ℕ → ℕ → Operation → List Ins
operation_code places place depth NoOperation = no_operation ∷ []
operation_code places place depth (Constant n) = constant_code 6 n ++ stack_address ∷ store_slot depth ∷ []
operation_code places place depth Duplicate = stack_address ∷ load_slot 6 (depth - 1) ∷ store_slot depth ∷ []
operation_code places place depth Discard = no_operation ∷ []
operation_code places place depth (Binary operation) =
    stack_address ∷ load_slot 6 (depth - 2) ∷ load_slot 7 (depth - 1) ∷ binary_instruction operation
    ∷ store_slot (depth - 2) ∷ []
operation_code places place depth (Branch target) = Jal 0 (distance place (places target)) ∷ []
operation_code places place depth (BranchIfTrue target) =
    stack_address ∷ load_slot 6 (depth - 1) ∷ Bne 6 0 (distance (place + 2) (places target)) ∷ []
operation_code places place depth Return = stack_address ∷ load_slot 10 (depth - 1) ∷ exit_code

-- and how many instructions it becomes
abbrev pub operation_size : Operation → ℕ
operation_size NoOperation = 1
operation_size (Constant n) = 4
operation_size Duplicate = 3
operation_size Discard = 1
operation_size (Binary operation) = 5
operation_size (Branch target) = 1
operation_size (BranchIfTrue target) = 3
operation_size Return = 4

-- how many instructions come of a row, and which: of what isn't reached nothing
abbrev pub row_size : Known → Option Operation → ℕ
row_size (Depth d) (Some operation) = operation_size operation
row_size k o = 0

abbrev pub row_code : (ℕ → ℕ) → ℕ → Known → Option Operation → List Ins
row_code places place (Depth d) (Some operation) = operation_code places place d operation
row_code places place k o = []

-- where the code of the instruction at an offset begins
abbrev pub place_of : List Instr → List Known → ℕ → ℕ
place_of [] table offset = 0
place_of (i ∷ instrs) [] offset = 0
place_of (i ∷ instrs) (k ∷ table) offset =
    if i.at == offset then 0 else row_size k (operation_at i) + place_of instrs table offset

-- the code of instructions that begins at a place
abbrev pub code_from : (ℕ → ℕ) → ℕ → List Instr → List Known → List Ins
code_from places place [] table = []
code_from places place (i ∷ instrs) [] = []
code_from places place (i ∷ instrs) (k ∷ table) =
    row_code places place k (operation_at i) ++ code_from places (place + row_size k (operation_at i)) instrs table

-- the code of instructions, before each of which a table tells what is known
abbrev pub code_of : List Instr → List Known → List Ins
code_of instrs table = code_from (place_of instrs table) 0 instrs table

-- the bytes of the instructions, one word after another, the lowest byte first
abbrev pub text_of : List Ins → List ℕ
text_of code = flat_map (λ ins. little_bytes 4 (word_of ins)) code

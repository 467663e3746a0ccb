-- The instructions of each routine.
use Rattle.std.specs.Prelude.{ℕ, ◌+◌, ◌/◌, ◌%◌, ◌^◌, ℤ, pos, negsuc, List, [], ◌∷◌, ◌++◌, take, drop}
use Rattle.byteorder.specs.Endian.{little_number}
use Rattle.num_core.specs.Bits.{signed}
use Rattle.rv_isa.specs.declared.ins.Ins.{Ins}
use Rattle.rv_isa.specs.declared.ins.Ins.TheVariants.{Add, Addi, Addiw, Auipc, Beq, Bltu, Ecall, Jalr, Lbu, Ld, Lui}
use Rattle.rv_isa.specs.declared.ins.Ins.TheVariants.{Lwu, Sb, Sd, Srli, Sub, Sw}
use Rattle.lir_core.specs.Calls.{stack_text}
use Rattle.lir_core.specs.Handlers.{unhandled_text}
use Rattle.lir_core.specs.Routines.{heap_text}
use Rattle.rt_code.specs.Conventions.{first_argument, scratch_at}
use Rattle.rt_code.specs.declared.routines.Routine.{Routine}
use Rattle.rt_code.specs.declared.routines.Routine.TheVariants.{Start, End, WriteByte, ReadByte, StackBound, HeapBound}
use Rattle.rt_code.specs.declared.routines.Routine.TheVariants.{Unhandled}

-- the upper 20 bits and the signed lower 12 whose sum has the 32 bits of a word
abbrev pub upper : ℕ → ℕ
upper word = (word + 2048) / 4096 % 2 ^ 20

abbrev pub lower : ℕ → ℤ
lower word = signed 12 (word % 4096)

-- a word to four of the scratch bytes, and words to one four after another
abbrev pub puts : ℕ → ℕ → List Ins
puts from word = Lui 5 (upper word) ∷ Addiw 5 5 (lower word) ∷ Sw 2 5 (pos (scratch_at + from)) ∷ []

abbrev pub puts_all : ℕ → List ℕ → List Ins
puts_all from [] = []
puts_all from (word ∷ words) = puts from word ++ puts_all (from + 4) words

-- so many of the scratch bytes as error text, and the end with 134
abbrev pub tells : ℤ → List Ins
tells count = Addi 11 2 (pos scratch_at) ∷ Addi 10 0 (pos 2) ∷ Addi 12 0 count ∷ Addi 17 0 (pos 64) ∷ Ecall
    ∷ Addi 10 0 (pos 134) ∷ Addi 17 0 (pos 93) ∷ Ecall ∷ []

-- the four bytes of a text from one on, as a word
abbrev pub word_in : List ℕ → ℕ → ℕ
word_in text from = little_number 4 (take 4 (drop from text))

-- the words of a text of 20 bytes
abbrev pub words_of : List ℕ → List ℕ
words_of text = word_in text 0 ∷ word_in text 4 ∷ word_in text 8 ∷ word_in text 12 ∷ word_in text 16 ∷ []

-- the first of 20 bytes as error text, and the end with 134
abbrev pub line : List ℕ → ℕ → List Ins
line text count = puts_all 0 (words_of text) ++ tells (pos count)

abbrev pub stack_line : List Ins
stack_line = line stack_text 20

abbrev pub heap_line : List Ins
heap_line = line (heap_text ++ 0 ∷ []) 19

abbrev pub unhandled_line : List Ins
unhandled_line = line unhandled_text 20

abbrev pub code_of : Routine → List Ins
code_of Start = Auipc 5 0 ∷ Ld 3 5 (negsuc 23) ∷ Ld 6 3 (pos 16) ∷ Add 27 3 6 ∷ Ld 6 5 (negsuc 15) ∷ Add 26 27 6
    ∷ Ld 6 5 (negsuc 7) ∷ Add 2 26 6 ∷ Ld 28 3 (pos 0) ∷ Lwu 7 28 (pos 0) ∷ Srli 7 7 12 ∷ Bltu 6 7 (pos 28)
    ∷ Sub 5 2 7 ∷ Ld 29 3 (pos 8) ∷ Sd 5 29 (pos first_argument) ∷ Jalr 1 28 (pos 0) ∷ Addi 17 0 (pos 93) ∷ Ecall
    ∷ stack_line
code_of End = Addi 17 0 (pos 93) ∷ Ecall ∷ []
code_of WriteByte = Sb 2 10 (pos scratch_at) ∷ Addi 11 2 (pos scratch_at) ∷ Addi 10 0 (pos 1) ∷ Addi 12 0 (pos 1)
    ∷ Addi 17 0 (pos 64) ∷ Ecall ∷ Jalr 0 1 (pos 0) ∷ []
code_of ReadByte = Addi 11 2 (pos scratch_at) ∷ Addi 10 0 (pos 0) ∷ Addi 12 0 (pos 1) ∷ Addi 17 0 (pos 63) ∷ Ecall
    ∷ Beq 10 0 (pos 12) ∷ Lbu 10 2 (pos scratch_at) ∷ Jalr 0 1 (pos 0) ∷ Addi 10 0 (negsuc 0) ∷ Jalr 0 1 (pos 0) ∷ []
code_of StackBound = stack_line
code_of HeapBound = heap_line
code_of Unhandled = unhandled_line

-- Instructions as words: the mnemonic (ECMA-335 III) and the operand.
use Rattle.std.specs.Prelude.{ℕ, zero, suc, ◌+◌, ◌*◌, ◌==◌, ◌&&◌, nat_le, Bool, if◌then◌else◌, ℤ, pos, ◌+ℤ◌}
use Rattle.std.specs.Prelude.{List, [], ◌∷◌, length, drop, slice_index, codes}
use Rattle.std.specs.Prelude.{decimal, Option, Some, None}
use Rattle.std.specs.Fmt.{signed_decimal}
use Rattle.std.specs.Int.{cast_signed, w8}
use Rattle.byteorder.specs.Endian.{little_number, twos_complement}
use Rattle.il_code.specs.Instructions.{opcode_number, fixed_size}
use Rattle.il_code.specs.declared.opcode.OperandForm.{OperandForm}
use Rattle.il_code.specs.declared.opcode.OperandForm.TheVariants.{Absent, Unsigned8, Unsigned16, Signed8, Signed32}
use Rattle.il_code.specs.declared.opcode.OperandForm.TheVariants.{Signed64, Token, Target8, Target32, Targets}
use Rattle.il_text.specs.Mnemonics.{row_numbered}
use Rattle.il_text.specs.Words.{bytes_word, token_word}

-- the signed numbers in the front of bytes
abbrev pub short_number : List ℕ → ℤ
short_number bytes = cast_signed w8 (slice_index bytes 0)

abbrev pub long_number : List ℕ → ℤ
long_number bytes = twos_complement 4 (little_number 4 bytes)

-- The offset that lies at a distance from the next instruction, as a whole number: a branch may lead out of the code,
-- and before it too.
abbrev pub target_word : ℕ → ℤ → List ℕ
target_word next distance = signed_decimal (pos next +ℤ distance)

-- so many targets, whose distances have four bytes each
abbrev pub target_words : ℕ → ℕ → List ℕ → List (List ℕ)
target_words next zero bytes = []
target_words next (suc count) bytes =
    target_word next (long_number bytes) ∷ target_words next count (drop 4 bytes)

-- the words of the operand that these bytes are, of an instruction that ends at an offset
abbrev pub operand_words : OperandForm → ℕ → List ℕ → List (List ℕ)
operand_words Absent next bytes = []
operand_words Unsigned8 next bytes = decimal (slice_index bytes 0) ∷ []
operand_words Unsigned16 next bytes = decimal (little_number 2 bytes) ∷ []
operand_words Signed8 next bytes = signed_decimal (short_number bytes) ∷ []
operand_words Signed32 next bytes = signed_decimal (long_number bytes) ∷ []
operand_words Signed64 next bytes = signed_decimal (twos_complement 8 (little_number 8 bytes)) ∷ []
operand_words Token next bytes = token_word (little_number 4 bytes) ∷ []
operand_words Target8 next bytes = target_word next (short_number bytes) ∷ []
operand_words Target32 next bytes = target_word next (long_number bytes) ∷ []
operand_words Targets next bytes =
    decimal (little_number 4 bytes) ∷ target_words next (little_number 4 bytes) (drop 4 bytes)

-- an instruction without a name: its bytes
abbrev pub unnamed_words : List ℕ → List (List ℕ)
unnamed_words bytes = codes ".op" ∷ bytes_word bytes ∷ []

-- whether an operand of a form has exactly so many bytes
abbrev pub has_size : OperandForm → List ℕ → Bool
has_size Targets bytes = nat_le 4 (length bytes) && length bytes == 4 + 4 * little_number 4 bytes
has_size form bytes = length bytes == fixed_size form

abbrev pub named_words : ℕ → List ℕ → ℕ → ℕ × List ℕ × OperandForm → List (List ℕ)
named_words at bytes size row = row.1 ∷ operand_words row.2 (at + length bytes) (drop size bytes)

abbrev pub words_of_row : ℕ → List ℕ → ℕ → Option (ℕ × List ℕ × OperandForm) → List (List ℕ)
words_of_row at bytes size None = unnamed_words bytes
words_of_row at bytes size (Some row) =
    if has_size row.2 (drop size bytes) then named_words at bytes size row else unnamed_words bytes

abbrev pub words_of_number : ℕ → List ℕ → Option (ℕ × ℕ) → List (List ℕ)
words_of_number at bytes None = unnamed_words bytes
words_of_number at bytes (Some number) = words_of_row at bytes number.1 (row_numbered number.0)

-- the words of the instruction that stands at an offset and has these bytes
unfoldable pub instruction_words : ℕ → List ℕ → List (List ℕ)
instruction_words at bytes = words_of_number at bytes (opcode_number bytes)

-- Which lines instructions and code have.
use Rattle.std.proofs.Common.{◌≡◌, ◌∙◌, ℕ, List, Some, None, Result, Ok, Err, ap, sym, codes}
use Rattle.std.proofs.lemmas.List.{append-nil}
use Rattle.il_code.specs.Instructions.{opcode_number}
use Rattle.il_code.specs.Listing.{listed}
use Rattle.il_code.specs.declared.body.Instr.{Instr}
use Rattle.il_code.specs.declared.opcode.OperandForm.{OperandForm}
use Rattle.il_text.specs.Mnemonics.{row_numbered}
use Rattle.il_text.specs.Words.{line_text, text_of}
use Rattle.il_text.specs.Instructions.{instruction_words, unnamed_words, words_of_number, words_of_row}
use Rattle.il_text.specs.Listing.{bytes_line, code_lines, code_lines_of, instructions_text}

-- ---- an instruction

-- its opcode has a row
pub named : (at : ℕ) (bytes : List ℕ) (number size : ℕ) (row : ℕ × List ℕ × OperandForm)
    → opcode_number bytes ≡ Some (number, size) → row_numbered number ≡ Some row
    → words_of_row at bytes size (Some row) ≡ instruction_words at bytes
unfolding instruction_words
named at bytes number size row e f =
    sym (ap (words_of_number at bytes) e ∙ ap (words_of_row at bytes size) f)

-- its opcode has none
pub without_row : (at : ℕ) (bytes : List ℕ) (number size : ℕ) → opcode_number bytes ≡ Some (number, size)
    → row_numbered number ≡ None → unnamed_words bytes ≡ instruction_words at bytes
unfolding instruction_words
without_row at bytes number size e f =
    sym (ap (words_of_number at bytes) e ∙ ap (words_of_row at bytes size) f)

-- there is no opcode
pub without_number : (at : ℕ) (bytes : List ℕ) → opcode_number bytes ≡ None
    → unnamed_words bytes ≡ instruction_words at bytes
unfolding instruction_words
without_number at bytes e = sym (ap (words_of_number at bytes) e)

-- ---- code

-- code that is instructions
as_lines : (code text : List ℕ) (read : Result (List Instr) ℕ) → instructions_text code read ≡ Some text
    → text ≡ text_of (code_lines_of code read)
as_lines code text (Ok instrs) e = cc
as_lines code text (Err offset) e = cc

pub as_instructions : (code text : List ℕ) → instructions_text code (listed code) ≡ Some text
    → text ≡ text_of (code_lines code)
unfolding code_lines
as_instructions code text e = as_lines code text (listed code) e

-- code that isn't
as_line : (code : List ℕ) (read : Result (List Instr) ℕ) → instructions_text code read ≡ None
    → line_text (bytes_line (codes ".code") code) ≡ text_of (code_lines_of code read)
as_line code (Ok instrs) e = cc
as_line code (Err offset) e = sym (append-nil (line_text (bytes_line (codes ".code") code)))

pub as_bytes : (code : List ℕ) → instructions_text code (listed code) ≡ None
    → line_text (bytes_line (codes ".code") code) ≡ text_of (code_lines code)
unfolding code_lines
as_bytes code e = as_line code (listed code) e

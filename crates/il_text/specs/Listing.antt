-- What `list` gives of a module: lines of words, in the order of tables and rows.
use Rattle.std.specs.Prelude.{ℕ, ◌-◌, List, [], ◌∷◌, ◌++◌, map, take, drop, codes, decimal, Option, Some, None}
use Rattle.std.specs.Prelude.{Result, Ok, Err}
use Rattle.std.specs.List.{flat_map}
use Rattle.il_code.specs.Headers.{header_of, code_of, code_end}
use Rattle.il_code.specs.Listing.{listed}
use Rattle.il_code.specs.declared.body.Instr.{Instr}
use Rattle.il_code.specs.declared.header.Header.{Header}
use Rattle.md_rows.specs.declared.cell.Cell.{Cell}
use Rattle.md_rows.specs.declared.cell.Cell.TheVariants.{Number, Name, Blob, Index, Coded}
use Rattle.md_tables.specs.declared.module.TableRow.{TableRow}
use Rattle.md_tables.specs.declared.module.Table.{Table}
use Rattle.md_tables.specs.Modules.{ModuleParts}
use Rattle.il_text.specs.Instructions.{instruction_words}
use Rattle.il_text.specs.Words.{bytes_word, name_word, table_word, row_word, text_of}

-- a cell as a word
abbrev pub cell_word : Cell → List ℕ
cell_word (Number number) = decimal number
cell_word (Name text) = name_word text
cell_word (Blob bytes) = bytes_word bytes
cell_word (Index row) = decimal row
cell_word (Coded table row) = row_word table row

-- a line that is one word and bytes
abbrev pub bytes_line : List ℕ → List ℕ → List (List ℕ)
bytes_line word bytes = word ∷ bytes_word bytes ∷ []

-- ---- code

-- the words of an instruction of code
abbrev pub instruction_line : List ℕ → Instr → List (List ℕ)
instruction_line code i = instruction_words i.at (take (i.next - i.at) (drop i.at code))

-- code that is instructions, a line for each of them; any other is one line
abbrev pub code_lines_of : List ℕ → Result (List Instr) ℕ → List (List (List ℕ))
code_lines_of code (Ok instrs) = map (instruction_line code) instrs
code_lines_of code (Err offset) = bytes_line (codes ".code") code ∷ []

unfoldable pub code_lines : List ℕ → List (List (List ℕ))
code_lines code = code_lines_of code (listed code)

-- the text of the instructions that code is, if it is instructions
abbrev pub instructions_text : List ℕ → Result (List Instr) ℕ → Option (List ℕ)
instructions_text code (Ok instrs) = Some (text_of (map (instruction_line code) instrs))
instructions_text code (Err offset) = None

-- ---- bodies (ECMA-335 II.25.4)

-- a header, code, and what stands behind it: the sections, with the bytes in front of them
abbrev pub parts_lines : List ℕ → List ℕ → List ℕ → List (List (List ℕ))
parts_lines header code rest =
    bytes_line (codes ".body") header ∷ (code_lines code ++ bytes_line (codes ".end") rest ∷ [])

abbrev pub body_lines_of : List ℕ → Option Header → List (List (List ℕ))
body_lines_of body None = parts_lines body [] []
body_lines_of body (Some header) =
    parts_lines (take header.code_at body) (code_of body header) (drop (code_end header) body)

abbrev pub body_lines : Option (List ℕ) → List (List (List ℕ))
body_lines None = []
body_lines (Some body) = body_lines_of body (header_of body)

-- ---- rows

abbrev pub row_line : ℕ → TableRow → List (List ℕ)
row_line table row = codes ".row" ∷ table_word table ∷ map cell_word row.cells

abbrev pub row_lines : ℕ → TableRow → List (List (List ℕ))
row_lines table row = row_line table row ∷ body_lines row.body

abbrev pub table_lines : Table → List (List (List ℕ))
table_lines table = flat_map (row_lines table.number) table.rows

-- ---- the module

abbrev pub entry_line : ℕ → List (List ℕ)
entry_line entry = codes ".entry" ∷ decimal entry ∷ []

abbrev pub module_lines : ModuleParts → List (List (List ℕ))
module_lines m = entry_line m.entry ∷ bytes_line (codes ".user") m.user ∷ flat_map table_lines m.tables

-- the text of a module
abbrev pub listing_of : ModuleParts → List ℕ
listing_of m = text_of (module_lines m)

-- How a text is read, line by line: each line goes on with what stands before it, or is the fault.
use Rattle.std.specs.Prelude.{ℕ, zero, suc, ◌+◌, ◌-◌, ◌*◌, ◌%◌, ◌^◌, ℤ, pos, ◌-ℤ◌, int_le, ◌==◌, ◌&&◌, Bool, true}
use Rattle.std.specs.Prelude.{false, not, nat_le, nat_lt, if◌then◌else◌, List, [], ◌∷◌, ◌++◌, length, codes, find}
use Rattle.std.specs.Prelude.{Option, Some, None, is_none, Result, Ok, Err, ◌≡◌, ◌⊎◌}
use Rattle.std.specs.Option.{option_map, option_and_then, option_to_list}
use Rattle.std.specs.Str.{bytes_eq}
use Rattle.byteorder.specs.Endian.{little_bytes}
use Rattle.num_core.specs.Bits.{low_bits}
use Rattle.il_code.specs.Headers.{header_of, body_length}
use Rattle.il_code.specs.Instructions.{opcode_number, instruction_at}
use Rattle.il_code.specs.declared.body.Instr.{Instr}
use Rattle.il_code.specs.declared.header.Header.{Header}
use Rattle.il_code.specs.declared.opcode.OperandForm.{OperandForm}
use Rattle.il_code.specs.declared.opcode.OperandForm.TheVariants.{Absent, Unsigned8, Unsigned16, Signed8, Signed32}
use Rattle.il_code.specs.declared.opcode.OperandForm.TheVariants.{Signed64, Token, Target8, Target32, Targets}
use Rattle.md_rows.specs.declared.schema.Column.{Column}
use Rattle.md_rows.specs.declared.schema.Column.TheVariants.{U8, U16, U32, StringIndex, GuidIndex, BlobIndex}
use Rattle.md_rows.specs.declared.schema.Column.TheVariants.{RowIndex, RunIndex, CodedIndex}
use Rattle.md_rows.specs.Tables.{TableSchema, tables}
use Rattle.md_tables.specs.Modules.{columns_of, is_length}
use Rattle.il_text.specs.declared.fault.IlTextFault.{IlTextFault}
use Rattle.il_text.specs.declared.fault.IlTextFault.TheVariants.{BadText, Memory}
use Rattle.il_text.specs.declared.draft.Value.{Value}
use Rattle.il_text.specs.declared.draft.Value.TheVariants.{Number, Name, Blob, Index, Coded}
use Rattle.il_text.specs.declared.draft.DraftCell.{DraftCell}
use Rattle.il_text.specs.declared.draft.DraftRow.{DraftRow}
use Rattle.il_text.specs.declared.draft.OpenBody.{OpenBody}
use Rattle.il_text.specs.declared.draft.Draft.{Draft}
use Rattle.il_text.specs.Lines.{LineParts, column_of, word_at, words_of}
use Rattle.il_text.specs.Mnemonics.{mnemonics, row_numbered}
use Rattle.il_text.specs.Values.{number_below, whole_in, bytes_in, token_in, byte_in, row_in, name_in}

-- ---- words of a line

-- the word of a number can't stand there, or is missing
abbrev pub bad : {A : Type 0} → LineParts → ℕ → Result A IlTextFault
bad line index = Err (BadText line.number (column_of line index))

abbrev pub or_bad : {A : Type 0} → LineParts → ℕ → Option A → Result A IlTextFault
or_bad line index None = bad line index
or_bad line index (Some value) = Ok value

-- the value of the word of a number
abbrev pub read : {A : Type 0} → (List ℕ → Option A) → LineParts → ℕ → Result A IlTextFault
read value line index = or_bad line index (option_and_then value (word_at line index))

-- there is no word of the number, nor one behind it
abbrev pub ends : LineParts → ℕ → Result (Unit {0}) IlTextFault
ends line index = if nat_lt index (length line.words) then bad line index else Ok tt

infixl 10 ◌>>=◌
abbrev pub ◌>>=◌ : {A B : Type 0} → Result A IlTextFault → (A → Result B IlTextFault) → Result B IlTextFault
(Ok value) >>= next = next value
(Err fault) >>= next = Err fault

-- whether a word is these bytes
abbrev pub are_these : List ℕ → Option (List ℕ) → Bool
are_these bytes None = false
are_these bytes (Some word) = bytes_eq word bytes

abbrev pub is_word : List ℕ → LineParts → ℕ → Bool
is_word bytes line index = are_these bytes (word_at line index)

abbrev pub keyword : List ℕ → LineParts → Result (Unit {0}) IlTextFault
keyword bytes line = if is_word bytes line 0 then Ok tt else bad line 0

-- ---- the first two lines

abbrev pub with_entry : Draft → LineParts → Result Draft IlTextFault
with_entry draft line = do
  named ← keyword (codes ".entry") line
  entry ← read (number_below (2 ^ 32)) line 1
  done ← ends line 2
  Ok (record draft { entry = Some entry })

-- the bytes of a line that is a word and bytes
abbrev pub bytes_behind : List ℕ → LineParts → Result (List ℕ) IlTextFault
bytes_behind word line = do
  named ← keyword word line
  bytes ← read bytes_in line 1
  done ← ends line 2
  Ok bytes

abbrev pub with_user : Draft → LineParts → Result Draft IlTextFault
with_user draft line = do
  user ← bytes_behind (codes ".user") line
  Ok (record draft { user = Some user })

-- ---- rows

abbrev pub coded : ℕ × ℕ → Value
coded row = Coded row.0 row.1

-- what a word is in a column
abbrev pub value_in : Column → List ℕ → Option Value
value_in U8 word = option_map Number (number_below 0x100 word)
value_in U16 word = option_map Number (number_below 0x1_0000 word)
value_in U32 word = option_map Number (number_below 0x1_0000_0000 word)
value_in StringIndex word = option_map Name (name_in word)
value_in GuidIndex word = option_map Blob (bytes_in word)
value_in BlobIndex word = option_map Blob (bytes_in word)
value_in (RowIndex table) word = option_map Index (number_below 0x1_0000_0000 word)
value_in (RunIndex table) word = option_map Index (number_below 0x1_0000_0000 word)
value_in (CodedIndex coding) word = option_map coded (row_in word)

-- the cell of a column, at the word of a number
abbrev pub cell_in : LineParts → ℕ → Column → Result DraftCell IlTextFault
cell_in line index column = do
  value ← read (value_in column) line index
  Ok (record { column = column_of line index; value = value })

-- the cells of columns, from the word of a number on
abbrev pub cells_from : LineParts → ℕ → List Column → Result (List DraftCell) IlTextFault
cells_from line index [] = Ok []
cells_from line index (column ∷ columns) = do
  cell ← cell_in line index column
  cells ← cells_from line (index + 1) columns
  Ok (cell ∷ cells)

-- the table of a number that is held and isn't in front of another
abbrev pub held_from : ℕ → ℕ → Option TableSchema
held_from least table =
    if nat_le least table then find (λ schema. schema.number == table && schema.is_held) tables else None

abbrev pub row_of_table : LineParts → TableSchema → Result DraftRow IlTextFault
row_of_table line schema = do
  cells ← cells_from line 2 (columns_of schema)
  done ← ends line (2 + length (columns_of schema))
  Ok (record { table = schema.number; line = line.number; cells = cells; body = None })

abbrev pub table_of_last : Option DraftRow → ℕ
table_of_last None = 0
table_of_last (Some row) = row.table

-- a row, behind the one that was read last
abbrev pub with_row : Draft → LineParts → Result Draft IlTextFault
with_row draft line = do
  named ← keyword (codes ".row") line
  schema ← read (λ word. option_and_then (held_from (table_of_last draft.row)) (byte_in word)) line 1
  row ← row_of_table line schema
  Ok (record draft { rows = draft.rows ++ option_to_list draft.row; row = Some row })

-- ---- bodies

abbrev pub awaits_body : Option DraftRow → Bool
awaits_body None = false
awaits_body (Some row) = row.table == 0x06 && is_none row.body

abbrev pub with_header : Draft → LineParts → Result Draft IlTextFault
with_header draft line = do
  header ← bytes_behind (codes ".body") line
  Ok (record draft {
    body = Some (record { line = line.number; header = header; code = []; begun = false; closed = false });
  })

-- ---- instructions

abbrev pub signed_bytes : ℕ → ℤ → List ℕ
signed_bytes size number = little_bytes size (low_bits (8 * size) number)

-- the distance of an offset from the next instruction, if it has a place in so many bytes
abbrev pub near : ℕ → ℤ → Option (List ℕ)
near size distance =
    if int_le (pos 0 -ℤ pos (2 ^ (8 * size - 1))) distance && int_le distance (pos (2 ^ (8 * size - 1) - 1))
    then Some (signed_bytes size distance) else None

abbrev pub distance_to : ℕ → ℕ → List ℕ → Option (List ℕ)
distance_to size next word = option_and_then (λ offset. near size (offset -ℤ pos next)) (whole_in 64 word)

-- the bytes of an operand that is one word, behind an offset
abbrev pub operand_bytes : OperandForm → ℕ → List ℕ → Option (List ℕ)
operand_bytes Unsigned8 at word = option_map (little_bytes 1) (number_below 0x100 word)
operand_bytes Unsigned16 at word = option_map (little_bytes 2) (number_below 0x1_0000 word)
operand_bytes Signed8 at word = option_map (signed_bytes 1) (whole_in 8 word)
operand_bytes Signed32 at word = option_map (signed_bytes 4) (whole_in 32 word)
operand_bytes Signed64 at word = option_map (signed_bytes 8) (whole_in 64 word)
operand_bytes Token at word = option_map (little_bytes 4) (token_in word)
operand_bytes Target8 at word = distance_to 1 (at + 1) word
operand_bytes Target32 at word = distance_to 4 (at + 4) word
operand_bytes Absent at word = None
operand_bytes Targets at word = None

-- so many targets, from the word of a number on, of an instruction that ends at an offset
abbrev pub distances_from : LineParts → ℕ → ℕ → ℕ → Result (List ℕ) IlTextFault
distances_from line next zero index = Ok []
distances_from line next (suc count) index = do
  bytes ← read (distance_to 4 next) line index
  rest ← distances_from line next count (index + 1)
  Ok (bytes ++ rest)

-- the operand of an instruction, whose bytes begin at an offset
abbrev pub operand_of : OperandForm → LineParts → ℕ → Result (List ℕ) IlTextFault
operand_of Absent line at = do
  done ← ends line 1
  Ok []
operand_of Targets line at = do
  count ← read (number_below (2 ^ 32)) line 1
  bytes ← distances_from line (at + (4 + 4 * count)) count 2
  done ← ends line (2 + count)
  Ok (little_bytes 4 count ++ bytes)
operand_of form line at = do
  bytes ← read (operand_bytes form at) line 1
  done ← ends line 2
  Ok bytes

-- ---- code

-- an instruction without a name, whole
abbrev pub ends_at : ℕ → Option Instr → Bool
ends_at size None = false
ends_at size (Some i) = i.next == size

abbrev pub has_name : Option (ℕ × ℕ) → Bool
has_name None = false
has_name (Some number) = not (is_none (row_numbered number.0))

abbrev pub unnamed : List ℕ → Option (List ℕ)
unnamed bytes =
    if ends_at (length bytes) (instruction_at bytes 0) && not (has_name (opcode_number bytes)) then Some bytes else None

-- the row of a name in a table
abbrev pub row_named_in : List (ℕ × List ℕ × OperandForm) → List ℕ → Option (ℕ × List ℕ × OperandForm)
row_named_in rows word = find (λ row. bytes_eq row.1 word) rows

abbrev pub row_named : List ℕ → Option (ℕ × List ℕ × OperandForm)
row_named word = row_named_in mnemonics word

-- the bytes of an opcode
abbrev pub opcode_bytes : ℕ → List ℕ
opcode_bytes number = if nat_lt number 0x100 then number ∷ [] else 0xFE ∷ number % 0x100 ∷ []

-- the bytes of an instruction that has a name and stands at an offset
abbrev pub named_bytes : LineParts → ℕ → ℕ × List ℕ × OperandForm → Result (List ℕ) IlTextFault
named_bytes line at row = do
  operand ← operand_of row.2 line (at + length (opcode_bytes row.0))
  Ok (opcode_bytes row.0 ++ operand)

-- the bytes of the instruction of a line
abbrev pub instruction_bytes : LineParts → ℕ → Result (List ℕ) IlTextFault
instruction_bytes line at =
    if is_word (codes ".op") line 0
    then (do
      bytes ← read (λ word. option_and_then unnamed (bytes_in word)) line 1
      done ← ends line 2
      Ok bytes)
    else (do
      row ← read row_named line 0
      named_bytes line at row)

abbrev pub with_instruction : Draft → OpenBody → LineParts → Result Draft IlTextFault
with_instruction draft body line = do
  bytes ← instruction_bytes line (length body.code)
  Ok (record draft { body = Some (record body { code = body.code ++ bytes; begun = true }) })

-- code in one line stands alone
abbrev pub with_code : Draft → OpenBody → LineParts → Result Draft IlTextFault
with_code draft body line = do
  code ← bytes_behind (codes ".code") line
  Ok (record draft { body = Some (record body { code = code; begun = true; closed = true }) })

-- a header, code, and what stands behind it make up a body
abbrev pub fits : ℕ → ℕ → Option Header → Bool
fits at size None = false
fits at size (Some header) = header.code_at == at && header.code_size == size

abbrev pub is_body : List ℕ → List ℕ → List ℕ → Bool
is_body header code bytes =
    fits (length header) (length code) (header_of bytes) && is_length (length bytes) (body_length bytes)

abbrev pub body_of_row : List ℕ → Option DraftRow → Option DraftRow
body_of_row body row = option_map (λ (row : DraftRow). record row { body = Some body }) row

abbrev pub closed_body : Draft → OpenBody → List ℕ → Result Draft IlTextFault
closed_body draft body bytes =
    if is_body body.header body.code bytes then Ok (record draft { row = body_of_row bytes draft.row; body = None })
    else Err (BadText body.line 1)

abbrev pub with_end : Draft → OpenBody → LineParts → Result Draft IlTextFault
with_end draft body line = do
  rest ← bytes_behind (codes ".end") line
  closed_body draft body (body.header ++ (body.code ++ rest))

abbrev pub in_body : Draft → OpenBody → LineParts → Result Draft IlTextFault
in_body draft body line =
    if is_word (codes ".end") line 0 then with_end draft body line
    else if body.closed then bad line 0
    else if is_word (codes ".code") line 0
    then (if body.begun then bad line 0 else with_code draft body line)
    else with_instruction draft body line

-- ---- lines

abbrev pub behind_rows : Draft → LineParts → Result Draft IlTextFault
behind_rows draft line =
    if awaits_body draft.row && is_word (codes ".body") line 0 then with_header draft line else with_row draft line

-- a row or the begin of a body, or a line of the body that is open
abbrev pub in_tables : Draft → Option OpenBody → LineParts → Result Draft IlTextFault
in_tables draft None line = behind_rows draft line
in_tables draft (Some body) line = in_body draft body line

abbrev pub with_words : Draft → LineParts → Result Draft IlTextFault
with_words draft line =
    if is_none draft.entry then with_entry draft line
    else if is_none draft.user then with_user draft line
    else in_tables draft draft.body line

-- a line without words is dropped
abbrev pub with_line : Draft → LineParts → Result Draft IlTextFault
with_line draft line = if length line.words == 0 then Ok draft else with_words draft line

abbrev pub line_of : ℕ → List ℕ → LineParts
line_of number bytes = record { number = number; bytes = bytes; words = words_of bytes }

-- what was read of a text, and the number of the line behind its last
pub record LinesRead : Type 0 where
  pub draft : Draft
  pub next : ℕ

abbrev pub lines_read : Draft → ℕ → LinesRead
lines_read draft next = record { draft = draft; next = next }

-- behind the last byte 10: a line that has none is refused, one past its last byte
abbrev pub read_last : Draft → ℕ → List ℕ → Result LinesRead IlTextFault
read_last draft number [] = Ok (lines_read draft number)
read_last draft number (byte ∷ front) = do
  read ← with_line draft (line_of number (byte ∷ front))
  Err (BadText number (length front + 2))

-- the lines from one of a number on, of which the front was read
abbrev pub read_from : Draft → ℕ → List ℕ → List ℕ → Result LinesRead IlTextFault
read_from draft number front [] = read_last draft number front
read_from draft number front (byte ∷ rest) =
    if byte == 10 then with_line draft (line_of number front) >>= (λ next. read_from next (number + 1) [] rest)
    else read_from draft number (front ++ byte ∷ []) rest

abbrev pub nothing_read : Draft
nothing_read = record { entry = None; user = None; rows = []; row = None; body = None }

-- the first two lines are there, and no body is open
abbrev pub is_whole : Draft → Bool
is_whole draft = not (is_none draft.entry) && (not (is_none draft.user) && is_none draft.body)

abbrev pub if_whole : LinesRead → Result Draft IlTextFault
if_whole read = if is_whole read.draft then Ok read.draft else Err (BadText read.next 1)

-- the rest behind the last byte 10, and with it the whole
abbrev pub at_end : Draft → ℕ → List ℕ → Result Draft IlTextFault
at_end draft number rest = read_last draft number rest >>= if_whole

-- the lines of a whole text
unfoldable pub read_text : List ℕ → Result Draft IlTextFault
read_text text = read_from nothing_read 1 [] text >>= if_whole

-- a refusal is the one that is meant, or want of memory
abbrev pub Refuses : {A : Type 0} → Result A IlTextFault → IlTextFault → Type 0
Refuses meant fault = (fault ≡ Memory) ⊎ (meant ≡ Err fault)

-- what a function gives is what is meant, or want of memory
abbrev pub Reads : {A : Type 0} → Result A IlTextFault → Result A IlTextFault → Type 0
Reads (Ok value) meant = meant ≡ Ok value
Reads (Err fault) meant = Refuses meant fault

-- items in front of those that are meant, if they are
abbrev pub in_front : {A : Type 0} → List A → Result (List A) IlTextFault → Result (List A) IlTextFault
in_front done (Ok items) = Ok (done ++ items)
in_front done (Err fault) = Err fault

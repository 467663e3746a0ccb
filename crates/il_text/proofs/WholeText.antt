-- The rows that are read of a text are sound.
use Rattle.std.proofs.Common.{◌≡◌, ◌∙◌, ℕ, suc, ◌+◌, Bool, true, false, cond, nat_eq, nat_le, ◌&&◌, List, [], ◌∷◌, ◌++◌}
use Rattle.std.proofs.Common.{length, codes, find, Option, Some, None, option_to_list, Result, Ok, Err, is_none}
use Rattle.std.proofs.Common.{refl, ap}
use Rattle.std.proofs.Common.{sym, subst, eqb-true, eq-eqb, option_and_then}
use Rattle.std.proofs.lemmas.Bool.{and_parts, and_from}
use Rattle.std.specs.List.{AllByRecursion}
use Rattle.il_code.specs.Headers.{header_of, body_length}
use Rattle.md_rows.specs.declared.schema.Column.{Column}
use Rattle.md_rows.specs.Tables.{TableSchema, tables}
use Rattle.md_tables.specs.Modules.{ModuleParts, columns_of, is_length, is_body as may_have, is_module}
use Rattle.il_text.specs.declared.draft.Draft.{Draft}
use Rattle.il_text.specs.declared.draft.DraftCell.{DraftCell}
use Rattle.il_text.specs.declared.draft.DraftRow.{DraftRow}
use Rattle.il_text.specs.declared.draft.OpenBody.{OpenBody}
use Rattle.il_text.specs.declared.fault.IlTextFault.{IlTextFault}
use Rattle.il_text.specs.declared.fault.IlTextFault.TheVariants.{BadText}
use Rattle.il_text.specs.Lines.{LineParts, word_at}
use Rattle.il_text.specs.Values.{number_below, byte_in}
use Rattle.il_text.specs.Assembling.{all_rows, tables_of, first_wrong, assembled, module_of, parts_of_draft}
use Rattle.il_text.specs.Assembling.{unless_wrong}
use Rattle.il_text.specs.Reading
use Rattle.il_text.specs.Reading.{◌>>=◌, with_entry, with_user, with_row, with_header, with_instruction, with_code}
use Rattle.il_text.specs.Reading.{with_end}
use Rattle.il_text.specs.Reading.{in_body, behind_rows, in_tables, with_words, with_line, line_of, read_from, read_last}
use Rattle.il_text.specs.Reading.{read_text, LinesRead, if_whole, is_whole, nothing_read, awaits_body, is_word, keyword}
use Rattle.il_text.specs.Reading.{row_of_table, cells_from, cell_in, held_from, table_of_last, closed_body, is_body}
use Rattle.il_text.specs.Reading.{fits}
use Rattle.il_text.specs.Reading.{bytes_behind, instruction_bytes, ends, read, bad}
use Rattle.il_text.proofs.Whole.{IsSound, whole_rows}

bind_ok : {A B : Type 0} (r : Result A IlTextFault) (next : A → Result B IlTextFault) (value : B)
    → (r >>= next) ≡ Ok value → (x : A) × (r ≡ Ok x) × (next x ≡ Ok value)
bind_ok (Ok x) next value e = (x, refl, e)
bind_ok (Err fault) next value e = cc

-- ---- what is known of what was read

abbrev LastIsSound : Option DraftRow → Type 0
LastIsSound None = Unit {0}
LastIsSound (Some row) = IsSound row

-- an open body is that of a method
abbrev IsMethod : Option DraftRow → Option OpenBody → Type 0
IsMethod None body = Unit {0}
IsMethod (Some row) None = Unit {0}
IsMethod (Some row) (Some body) = row.table ≡ 0x06

record Sound (draft : Draft) : Type 0 where
  rows : AllByRecursion IsSound draft.rows
  last : LastIsSound draft.row
  open_body : IsMethod draft.row draft.body

abbrev done : Draft → Result Draft IlTextFault
done draft = Ok draft

made_sound : (made next : Draft) → Sound made → done made ≡ done next → Sound next
made_sound made next sound e = let same : made ≡ next = cc in subst Sound same sound

sound_append : (rows : List DraftRow) (last : Option DraftRow) → AllByRecursion IsSound rows → LastIsSound last
    → AllByRecursion IsSound (rows ++ option_to_list last)
sound_append [] None rows last = tt
sound_append [] (Some row) rows last = (last, tt)
sound_append (row ∷ rest) last rows is = (rows.0, sound_append rest last rows.1 is)

-- ---- the first two lines

entry_sound : (draft next : Draft) (line : LineParts) → Sound draft → with_entry draft line ≡ Ok next → Sound next
entry_sound draft next line sound e =
    let named = bind_ok (keyword (codes ".entry") line) _ next e in
    let entry = bind_ok (read (number_below 0x1_0000_0000) line 1) _ next named.2 in
    let done = bind_ok (ends line 2) _ next entry.2 in
    made_sound (record draft { entry = Some entry.0 }) next
    (record { rows = sound.rows; last = sound.last; open_body = sound.open_body }) done.2

user_sound : (draft next : Draft) (line : LineParts) → Sound draft → with_user draft line ≡ Ok next → Sound next
user_sound draft next line sound e =
    let user = bind_ok (bytes_behind (codes ".user") line) _ next e in
    made_sound (record draft { user = Some user.0 }) next
    (record { rows = sound.rows; last = sound.last; open_body = sound.open_body }) user.2

-- ---- rows

length-cells : (columns : List Column) (line : LineParts) (index : ℕ) (cells : List DraftCell)
    → cells_from line index columns ≡ Ok cells → length cells ≡ length columns
length-cells [] line index cells e = let same : [] ≡ cells = cc in ap length (sym same)
length-cells (column ∷ columns) line index cells e =
    let first = bind_ok (cell_in line index column) _ cells e in
    let rest = bind_ok (cells_from line (index + 1) columns) _ cells first.2 in
    let same : first.0 ∷ rest.0 ≡ cells = cc in
    ap length (sym same) ∙ ap suc (length-cells columns line (index + 1) rest.0 rest.1)

held_found : (least table : ℕ) (schema : TableSchema) → held_from least table ≡ Some schema
    → find (λ (other : TableSchema). nat_eq other.number table && other.is_held) tables ≡ Some schema
held_found least table schema e = by (nat_le least table) e
  where
    by : (b : Bool)
        → cond b (find (λ (other : TableSchema). nat_eq other.number table && other.is_held) tables) None ≡ Some schema
        → find (λ (other : TableSchema). nat_eq other.number table && other.is_held) tables ≡ Some schema
    by true e = e
    by false e = cc

found_one : {X : Type 0} (test : X → Bool) (xs : List X) (x : X) → find test xs ≡ Some x → test x ≡ true
found_one test [] x e = cc
found_one test (y ∷ xs) x e = by (test y) refl (λ more. found_one test xs x more) e
  where
    by : (b : Bool) → test y ≡ b → (find test xs ≡ Some x → test x ≡ true)
        → cond b (Some y) (find test xs) ≡ Some x → test x ≡ true
    by true t more e = let same : y ≡ x = cc in ap test (sym same) ∙ t
    by false t more e = more e

or_bad_ok : {A : Type 0} (line : LineParts) (index : ℕ) (o : Option A) (value : A)
    → Reading.or_bad line index o ≡ Ok value → o ≡ Some value
or_bad_ok line index None value e = cc
or_bad_ok line index (Some x) value e = let same : x ≡ value = cc in ap Some same

then_some : {A B : Type 0} (f : A → Option B) (o : Option A) (value : B) → option_and_then f o ≡ Some value
    → (x : A) × (o ≡ Some x) × (f x ≡ Some value)
then_some f None value e = cc
then_some f (Some x) value e = (x, refl, e)

new_row_sound : (least : ℕ) (line : LineParts) (schema : TableSchema) (row : DraftRow)
    → read (λ word. option_and_then (held_from least) (byte_in word)) line 1 ≡ Ok schema
    → row_of_table line schema ≡ Ok row → IsSound row
new_row_sound least line schema row e is =
    let value = or_bad_ok line 1
    (option_and_then (λ word. option_and_then (held_from least) (byte_in word)) (word_at line 1)) schema e in
    let word = then_some (λ word. option_and_then (held_from least) (byte_in word)) (word_at line 1) schema value in
    let table = then_some (held_from least) (byte_in word.0) schema word.2 in
    let found = held_found least table.0 schema table.2 in
    let test = found_one (λ (other : TableSchema). nat_eq other.number table.0 && other.is_held) tables schema found in
    let own : schema.number ≡ table.0 =
    eqb-true schema.number table.0 (and_parts (nat_eq schema.number table.0) schema.is_held test).0 in
    let cells = bind_ok (cells_from line 2 (columns_of schema)) _ row is in
    let done = bind_ok (ends line (2 + length (columns_of schema))) _ row cells.2 in
    let made : DraftRow = record { table = schema.number; line = line.number; cells = cells.0; body = None } in
    let same : made ≡ row = cc in
    subst IsSound same (record {
      schema = schema;
      found = ap (λ n. find (λ (other : TableSchema). nat_eq other.number n && other.is_held) tables) own ∙ found;
      size = length-cells (columns_of schema) line 2 cells.0 cells.1;
      body = refl;
    })

row_sound : (draft next : Draft) (line : LineParts) → Sound draft → draft.body ≡ None → with_row draft line ≡ Ok next
    → Sound next
row_sound draft next line sound closed e =
    let named = bind_ok (keyword (codes ".row") line) _ next e in
    let schema = bind_ok
    (read (λ word. option_and_then (held_from (table_of_last draft.row)) (byte_in word)) line 1) _ next named.2 in
    let row = bind_ok (row_of_table line schema.0) _ next schema.2 in
    made_sound (record draft { rows = draft.rows ++ option_to_list draft.row; row = Some row.0 }) next
    (record {
      rows = sound_append draft.rows draft.row sound.rows sound.last;
      last = new_row_sound (table_of_last draft.row) line schema.0 row.0 schema.1 row.1;
      open_body = subst (IsMethod (Some row.0)) (sym closed) tt;
    }) row.2

-- ---- bodies

method_open : (row : Option DraftRow) (body : OpenBody) → awaits_body row ≡ true → IsMethod row (Some body)
method_open None body e = tt
method_open (Some row) body e = eqb-true row.table 0x06 (and_parts (nat_eq row.table 0x06) (is_none row.body) e).0

header_sound : (draft next : Draft) (line : LineParts) → Sound draft → awaits_body draft.row ≡ true
    → with_header draft line ≡ Ok next → Sound next
header_sound draft next line sound awaits e =
    let header = bind_ok (bytes_behind (codes ".body") line) _ next e in
    let body : OpenBody =
    record { line = line.number; header = header.0; code = []; begun = false; closed = false } in
    made_sound (record draft { body = Some body }) next
    (record { rows = sound.rows; last = sound.last; open_body = method_open draft.row body awaits }) header.2

still_open : (row : Option DraftRow) (body other : OpenBody) → IsMethod row (Some body) → IsMethod row (Some other)
still_open None body other is = tt
still_open (Some row) body other is = is

instruction_sound : (draft next : Draft) (body : OpenBody) (line : LineParts) → Sound draft
    → IsMethod draft.row (Some body) → with_instruction draft body line ≡ Ok next → Sound next
instruction_sound draft next body line sound is e =
    let bytes = bind_ok (instruction_bytes line (length body.code)) _ next e in
    let other : OpenBody = record body { code = body.code ++ bytes.0; begun = true } in
    made_sound (record draft { body = Some other }) next
    (record { rows = sound.rows; last = sound.last; open_body = still_open draft.row body other is }) bytes.2

code_sound : (draft next : Draft) (body : OpenBody) (line : LineParts) → Sound draft
    → IsMethod draft.row (Some body) → with_code draft body line ≡ Ok next → Sound next
code_sound draft next body line sound is e =
    let code = bind_ok (bytes_behind (codes ".code") line) _ next e in
    let other : OpenBody = record body { code = code.0; begun = true; closed = true } in
    made_sound (record draft { body = Some other }) next
    (record { rows = sound.rows; last = sound.last; open_body = still_open draft.row body other is }) code.2

body_sound : (row : Option DraftRow) (body : OpenBody) (bytes : List ℕ) → LastIsSound row → IsMethod row (Some body)
    → is_length (length bytes) (body_length bytes) ≡ true → LastIsSound (Reading.body_of_row bytes row)
body_sound None body bytes last is long = tt
body_sound (Some row) body bytes last is long = record {
  schema = last.schema;
  found = last.found;
  size = last.size;
  body =
      and_from (nat_eq row.table 0x06) (is_length (length bytes) (body_length bytes))
      (eq-eqb row.table 0x06 is) long;
}

closed_method : (bytes : List ℕ) (row : Option DraftRow) → IsMethod (Reading.body_of_row bytes row) None
closed_method bytes None = tt
closed_method bytes (Some row) = tt

closed_sound : (draft next : Draft) (body : OpenBody) (bytes : List ℕ) → Sound draft → IsMethod draft.row (Some body)
    → closed_body draft body bytes ≡ Ok next → Sound next
closed_sound draft next body bytes sound is e = by (is_body body.header body.code bytes) refl e
  where
    by : (b : Bool) → is_body body.header body.code bytes ≡ b
        → cond b (Ok (record draft { row = Reading.body_of_row bytes draft.row; body = None }))
        (Err (BadText body.line 1)) ≡ Ok next → Sound next
    by true t e =
        let long = (and_parts (fits (length body.header) (length body.code) (header_of bytes))
        (is_length (length bytes) (body_length bytes)) t).1 in
        made_sound (record draft { row = Reading.body_of_row bytes draft.row; body = None }) next
        (record {
          rows = sound.rows;
          last = body_sound draft.row body bytes sound.last is long;
          open_body = closed_method bytes draft.row;
        }) e
    by false t e = cc

end_sound : (draft next : Draft) (body : OpenBody) (line : LineParts) → Sound draft → IsMethod draft.row (Some body)
    → with_end draft body line ≡ Ok next → Sound next
end_sound draft next body line sound is e =
    let rest = bind_ok (bytes_behind (codes ".end") line) _ next e in
    closed_sound draft next body (body.header ++ (body.code ++ rest.0)) sound is rest.2

in_body_sound : (draft next : Draft) (body : OpenBody) (line : LineParts) → Sound draft → IsMethod draft.row (Some body)
    → in_body draft body line ≡ Ok next → Sound next
in_body_sound draft next body line sound is e =
    by (is_word (codes ".end") line 0) body.closed (is_word (codes ".code") line 0) body.begun e
  where
    by : (end closed code begun : Bool)
        → cond end (with_end draft body line) (cond closed (bad line 0)
        (cond code (cond begun (bad line 0) (with_code draft body line)) (with_instruction draft body line)))
        ≡ Ok next → Sound next
    by true closed code begun e = end_sound draft next body line sound is e
    by false true code begun e = cc
    by false false true true e = cc
    by false false true false e = code_sound draft next body line sound is e
    by false false false begun e = instruction_sound draft next body line sound is e

-- ---- lines

rows_sound : (draft next : Draft) (line : LineParts) → Sound draft → draft.body ≡ None
    → behind_rows draft line ≡ Ok next → Sound next
rows_sound draft next line sound closed e = by (awaits_body draft.row) (is_word (codes ".body") line 0) refl e
  where
    by : (awaits word : Bool) → awaits_body draft.row ≡ awaits
        → cond (awaits && word) (with_header draft line) (with_row draft line) ≡ Ok next → Sound next
    by true true t e = header_sound draft next line sound t e
    by true false t e = row_sound draft next line sound closed e
    by false word t e = row_sound draft next line sound closed e

tables_sound : (draft next : Draft) (line : LineParts) (body : Option OpenBody) → draft.body ≡ body → Sound draft
    → in_tables draft body line ≡ Ok next → Sound next
tables_sound draft next line None is sound e = rows_sound draft next line sound is e
tables_sound draft next line (Some body) is sound e =
    in_body_sound draft next body line sound (subst (IsMethod draft.row) is sound.open_body) e

words_sound : (draft next : Draft) (line : LineParts) → Sound draft → with_words draft line ≡ Ok next → Sound next
words_sound draft next line sound e = by (is_none draft.entry) (is_none draft.user) e
  where
    by : (entry user : Bool)
        → cond entry (with_entry draft line) (cond user (with_user draft line) (in_tables draft draft.body line))
        ≡ Ok next
        → Sound next
    by true user e = entry_sound draft next line sound e
    by false true e = user_sound draft next line sound e
    by false false e = tables_sound draft next line draft.body refl sound e

line_sound : (draft next : Draft) (line : LineParts) → Sound draft → with_line draft line ≡ Ok next → Sound next
line_sound draft next line sound e = by (nat_eq (length line.words) 0) e
  where
    by : (b : Bool) → cond b (Ok draft) (with_words draft line) ≡ Ok next → Sound next
    by true e = made_sound draft next sound e
    by false e = words_sound draft next line sound e

last_sound : (draft : Draft) (number : ℕ) (front : List ℕ) (found : LinesRead) → Sound draft
    → read_last draft number front ≡ Ok found → Sound found.draft
last_sound draft number [] found sound e =
    let same : record { draft = draft; next = number } ≡ found = cc in
    subst Sound (ap (λ (r : LinesRead). r.draft) same) sound
last_sound draft number (byte ∷ front) found sound e =
    let read = bind_ok (with_line draft (line_of number (byte ∷ front))) _ found e in cc (read.2)

from_sound : (text : List ℕ) (draft : Draft) (number : ℕ) (front : List ℕ) (found : LinesRead) → Sound draft
    → read_from draft number front text ≡ Ok found → Sound found.draft
from_sound [] draft number front found sound e = last_sound draft number front found sound e
from_sound (byte ∷ text) draft number front found sound e =
    by (nat_eq byte 10)
    (λ next is more. from_sound text next (number + 1) [] found is more)
    (λ more. from_sound text draft number (front ++ byte ∷ []) found sound more) e
  where
    by : (b : Bool)
        → ((next : Draft) → Sound next → read_from next (number + 1) [] text ≡ Ok found → Sound found.draft)
        → (read_from draft number (front ++ byte ∷ []) text ≡ Ok found → Sound found.draft)
        → cond b (with_line draft (line_of number front) >>= (λ next. read_from next (number + 1) [] text))
        (read_from draft number (front ++ byte ∷ []) text) ≡ Ok found → Sound found.draft
    by true ended goes e =
        let line = bind_ok (with_line draft (line_of number front)) _ found e in
        ended line.0 (line_sound draft line.0 (line_of number front) sound line.1) line.2
    by false ended goes e = goes e

text_sound : (text : List ℕ) (draft : Draft) → read_text text ≡ Ok draft → Sound draft
unfolding read_text
text_sound text draft e =
    let lines = bind_ok (read_from nothing_read 1 [] text) _ draft e in
    by (is_whole lines.0.draft) lines.0
    (from_sound text nothing_read 1 [] lines.0 (record { rows = tt; last = tt; open_body = tt }) lines.1) lines.2
  where
    by : (b : Bool) (found : LinesRead) → Sound found.draft
        → cond b (Ok found.draft) (Err (BadText found.next 1)) ≡ Ok draft → Sound draft
    by true found sound e = made_sound found.draft draft sound e
    by false found sound e = cc

-- the rows of a text, of which no column is wrong, are the tables of a module
pub whole : (text : List ℕ) (draft : Draft) → read_text text ≡ Ok draft → first_wrong (all_rows draft) ≡ None
    → is_module (tables_of (all_rows draft)) ≡ true
whole text draft e none =
    let sound : Sound draft = text_sound text draft e in
    whole_rows (all_rows draft) (sound_append draft.rows draft.row sound.rows sound.last) none

-- what a text means is a module
pub meant : (text : List ℕ) (m : ModuleParts) → assembled text ≡ Ok m → is_module m.tables ≡ true
unfolding assembled
meant text m e =
    let draft = bind_ok (read_text text) module_of m e in
    by draft.0 (first_wrong (all_rows draft.0)) refl (whole text draft.0 draft.1) draft.2
  where
    by : (draft : Draft) (o : Option (ℕ × ℕ)) → first_wrong (all_rows draft) ≡ o
        → (first_wrong (all_rows draft) ≡ None → is_module (tables_of (all_rows draft)) ≡ true)
        → unless_wrong (parts_of_draft draft) o ≡ Ok m → is_module m.tables ≡ true
    by draft None is known e =
        let same : parts_of_draft draft ≡ m = cc in
        subst (λ (m : ModuleParts). is_module m.tables ≡ true) same (known is)
    by draft (Some place) is known e = cc

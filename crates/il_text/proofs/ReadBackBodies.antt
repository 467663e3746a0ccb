-- The body of a method is read back from its lines.
use Rattle.std.proofs.Common.{◌≡◌, ◌∙◌, ℕ, ◌+◌, ◌-◌, ◌/◌, ◌^◌, ◌<◌, ◌≤◌, Bool, true, false, cond}
use Rattle.std.proofs.Common.{nat_eq, nat_lt, ◌&&◌, List, [], ◌∷◌, ◌++◌, length, map, take, drop, codes}
use Rattle.std.proofs.Common.{slice_index, Option, Some, None, option_and_then, Result, Ok, Err, refl, ap}
use Rattle.std.proofs.Common.{sym, subst, arith, eq-eqb, take-append-drop, length-drop, take-add, is_none}
use Rattle.std.proofs.lemmas.Bool.{and_from, ltb-false, false≢true}
use Rattle.std.proofs.lemmas.List.{take_all, drop-drop, length-take-le}
use Rattle.byteorder.specs.Endian.{little_number}
use Rattle.byteorder.specs.Numbers.{little_from-lt}
use Rattle.hex.specs.Hex.{IsBytes}
use Rattle.il_code.specs.declared.body.Instr.{Instr}
use Rattle.il_code.specs.declared.header.Header.{Header}
use Rattle.il_code.specs.Headers.{header_of, is_tiny, is_fat, tiny_header, fat_header, number_at, code_end, code_of}
use Rattle.il_code.specs.Headers.{body_end, body_length, sections_end, aligned}
use Rattle.il_code.specs.Listing.{listed}
use Rattle.il_code.proofs.Tiles.{TilesFrom, tiles}
use Rattle.md_tables.specs.Modules.{is_length}
use Rattle.il_text.specs.declared.draft.Draft.{Draft}
use Rattle.il_text.specs.declared.draft.DraftRow.{DraftRow}
use Rattle.il_text.specs.declared.draft.OpenBody.{OpenBody}
use Rattle.il_text.specs.declared.fault.IlTextFault.TheVariants.{BadText}
use Rattle.il_text.specs.Instructions.{instruction_words}
use Rattle.il_text.specs.Lines.{LineParts}
use Rattle.il_text.specs.Listing.{bytes_line, instruction_line, code_lines, code_lines_of, parts_lines, body_lines_of}
use Rattle.il_text.specs.Listing.{body_lines}
use Rattle.il_text.specs.Reading.{◌>>=◌, bad, is_word, awaits_body, with_header, with_row, instruction_bytes}
use Rattle.il_text.specs.Reading.{with_instruction, with_code, fits, is_body, body_of_row, closed_body, with_end}
use Rattle.il_text.specs.Reading.{with_line, line_of}
use Rattle.il_text.proofs.ReadBackInstructions.{StandsFirst, stands_first, ReadsAs, instruction_reads}
use Rattle.il_text.proofs.ReadBackLines.{AreWords, Says, says, Leads, one_line, no_line, both_lines, line_bytes, worded}
use Rattle.il_text.proofs.ReadBackLines.{first_is, bytes_line_read, inner_word}
use Rattle.il_text.proofs.ReadBackOperands.{take_bytes, drop_bytes}
use Rattle.il_text.proofs.ReadBackWords.{bytes_are_word}

-- what was read behind the first two lines
abbrev pub draft_of : ℕ → List ℕ → List DraftRow → Option DraftRow → Option OpenBody → Draft
draft_of entry user rows row body =
    record { entry = Some entry; user = Some user; rows = rows; row = row; body = body }

module _ (entry : ℕ) (user : List ℕ) (rows : List DraftRow) (row : Option DraftRow) where
  -- a body of which so much was read
  abbrev pub opened : ℕ → List ℕ → List ℕ → Bool → Bool → Draft
  opened line header code begun closed =
      draft_of entry user rows row
      (Some (record { line = line; header = header; code = code; begun = begun; closed = closed }))

  -- ---- the code

  instruction_step : (line : ℕ) (header code bytes : List ℕ) (begun : Bool) (at : ℕ) (words : List (List ℕ))
      (number : ℕ) → length code ≡ at → ReadsAs at bytes words
      → with_line (opened line header code begun false) (line_of number (line_bytes words))
      ≡ Ok (opened line header (code ++ bytes) true false)
  instruction_step line header code bytes begun at words number size r =
      let draft : Draft = opened line header code begun false in
      let body : OpenBody =
      record { line = line; header = header; code = code; begun = begun; closed = false } in
      let here : LineParts = line_of number (line_bytes words) in
      let s : Says here words = says number words r.are in
      worded draft here words s r.some
      ∙ ap (λ b. cond b (with_end draft body here) (cond (is_word (codes ".code") here 0)
      (cond begun (bad here 0) (with_code draft body here)) (with_instruction draft body here))) (r.no_end here s)
      ∙ ap (λ b. cond b (cond begun (bad here 0) (with_code draft body here)) (with_instruction draft body here))
      (r.no_code here s)
      ∙ ap (λ found. found >>= (λ bytes. Ok (opened line header (code ++ bytes) true false)))
      (ap (instruction_bytes here) size ∙ r.reads here s)

  -- code was begun
  abbrev begun_by : List Instr → Bool → Bool
  begun_by [] begun = begun
  begun_by (i ∷ instrs) begun = true

  instructions_lead : (line : ℕ) (header code : List ℕ) (instrs : List Instr) (begun : Bool) (at number : ℕ)
      → IsBytes code → length code < 2 ^ 61 → at ≤ length code → TilesFrom code at (length code) instrs
      → Leads (opened line header (take at code) begun false) number (map (instruction_line code) instrs)
      (opened line header code (begun_by instrs begun) false)
  instructions_lead line header code [] begun at number fit few within tile =
      let end : at ≡ length code = tile in
      subst (λ done. Leads (opened line header (take at code) begun false) number []
      (opened line header done begun false)) (take_all at code (omega (arith, end)))
      (no_line (opened line header (take at code) begun false) number)
  instructions_lead line header code (i ∷ instrs) begun at number fit few within tile =
      let stands : StandsFirst at (drop at code) i = stands_first code at i fit tile.0 in
      let bytes : List ℕ = take stands.size (drop at code) in
      let left : length (drop at code) ≡ length code - at = length-drop at code in
      let long : length (take stands.size (drop at code)) ≡ stands.size =
      length-take-le stands.size (drop at code) stands.inside in
      let before : length (take at code) ≡ at = length-take-le at code within in
      let reads : ReadsAs at bytes (instruction_words at bytes) =
      instruction_reads at bytes stands.is (take_bytes stands.size (drop at code) (drop_bytes at code fit))
      (omega (arith, long, stands.inside, left, few)) in
      let size : i.next - i.at ≡ stands.size = omega (arith, stands.here, stands.next) in
      let words : instruction_words at bytes ≡ instruction_line code i =
      sym (ap (λ at. instruction_words at (take (i.next - at) (drop at code))) stands.here
      ∙ ap (λ n. instruction_words at (take n (drop at code))) (ap (λ n. i.next - n) (sym stands.here) ∙ size)) in
      let here : ReadsAs at bytes (instruction_line code i) = subst (ReadsAs at bytes) words reads in
      let grown : take at code ++ bytes ≡ take i.next code =
      sym (take-add at stands.size code) ∙ ap (λ n. take n code) (sym stands.next) in
      let first : Leads (opened line header (take at code) begun false) number (instruction_line code i ∷ [])
      (opened line header (take i.next code) true false) =
      subst (λ done. Leads (opened line header (take at code) begun false) number (instruction_line code i ∷ [])
      (opened line header done true false)) grown
      (one_line (opened line header (take at code) begun false) (opened line header (take at code ++ bytes) true false)
      number (instruction_line code i) here.are
      (instruction_step line header (take at code) bytes begun at (instruction_line code i) number before here)) in
      let rest : Leads (opened line header (take i.next code) true false) (number + 1)
      (map (instruction_line code) instrs) (opened line header code (begun_by instrs true) false) =
      instructions_lead line header code instrs true i.next (number + 1) fit few
      (omega (arith, stands.next, stands.inside, left, within)) tile.1 in
      subst (λ begun'. Leads (opened line header (take at code) begun false) number
      (map (instruction_line code) (i ∷ instrs)) (opened line header code begun' false)) (always instrs)
      (both_lines (opened line header (take at code) begun false) (opened line header (take i.next code) true false)
      (opened line header code (begun_by instrs true) false) number (instruction_line code i ∷ [])
      (map (instruction_line code) instrs) first rest)
    where
      always : (instrs : List Instr) → begun_by instrs true ≡ true
      always [] = refl
      always (i ∷ instrs) = refl

  -- ---- code in one line

  code_step : (line : ℕ) (header code : List ℕ) (number : ℕ) → IsBytes code
      → with_line (opened line header [] false false) (line_of number (line_bytes (bytes_line (codes ".code") code)))
      ≡ Ok (opened line header code true true)
  code_step line header code number fit =
      let draft : Draft = opened line header [] false false in
      let body : OpenBody = record { line = line; header = header; code = []; begun = false; closed = false } in
      let words : List (List ℕ) = bytes_line (codes ".code") code in
      let here : LineParts = line_of number (line_bytes words) in
      let are : AreWords words = (inner_word (codes ".code") (omega arith) refl, (bytes_are_word code fit, tt)) in
      let s : Says here words = says number words are in
      let rest : List (List ℕ) = drop 1 words in
      worded draft here words s (omega arith)
      ∙ ap (λ b. cond b (with_end draft body here) (cond (is_word (codes ".code") here 0) (with_code draft body here)
      (with_instruction draft body here))) (first_is (codes ".end") (codes ".code") rest here s)
      ∙ ap (λ b. cond b (with_code draft body here) (with_instruction draft body here))
      (first_is (codes ".code") (codes ".code") rest here s)
      ∙ ap (λ found. found >>= (λ code. Ok (opened line header code true true)))
      (bytes_line_read (codes ".code") code here fit s refl)

  -- what was read of the code, however it stands there
  pub record CodeRead (line : ℕ) (header code : List ℕ) (number : ℕ) : Type 0 where
    pub begun : Bool
    pub closed : Bool
    pub leads : Leads (opened line header [] false false) number (code_lines code)
        (opened line header code begun closed)

  code_by : (line : ℕ) (header code : List ℕ) (number : ℕ) (read : Result (List Instr) ℕ) → listed code ≡ read
      → IsBytes code → length code < 2 ^ 61 → CodeRead line header code number
  unfolding code_lines
  code_by line header code number (Ok instrs) e fit few = record {
    begun = begun_by instrs false;
    closed = false;
    leads =
        subst (λ read. Leads (opened line header [] false false) number (code_lines_of code read)
        (opened line header code (begun_by instrs false) false)) (sym e)
        (instructions_lead line header code instrs false 0 number fit few (omega arith) (tiles code instrs e));
  }
  code_by line header code number (Err offset) e fit few = record {
    begun = true;
    closed = true;
    leads =
        subst (λ read. Leads (opened line header [] false false) number (code_lines_of code read)
        (opened line header code true true)) (sym e)
        (one_line (opened line header [] false false) (opened line header code true true) number
        (bytes_line (codes ".code") code)
        (inner_word (codes ".code") (omega arith) refl, (bytes_are_word code fit, tt))
        (code_step line header code number fit));
  }

  code_read : (line : ℕ) (header code : List ℕ) (number : ℕ) → IsBytes code → length code < 2 ^ 61
      → CodeRead line header code number
  code_read line header code number fit few = code_by line header code number (listed code) refl fit few

  -- ---- the end of a body

  end_step : (line : ℕ) (header code rest : List ℕ) (begun closed : Bool) (number : ℕ) → IsBytes rest
      → is_body header code (header ++ (code ++ rest)) ≡ true
      → with_line (opened line header code begun closed)
      (line_of number (line_bytes (bytes_line (codes ".end") rest)))
      ≡ Ok (draft_of entry user rows (body_of_row (header ++ (code ++ rest)) row) None)
  end_step line header code rest begun closed number fit whole =
      let draft : Draft = opened line header code begun closed in
      let body : OpenBody =
      record { line = line; header = header; code = code; begun = begun; closed = closed } in
      let words : List (List ℕ) = bytes_line (codes ".end") rest in
      let here : LineParts = line_of number (line_bytes words) in
      let are : AreWords words = (inner_word (codes ".end") (omega arith) refl, (bytes_are_word rest fit, tt)) in
      let s : Says here words = says number words are in
      worded draft here words s (omega arith)
      ∙ ap (λ b. cond b (with_end draft body here) (cond closed (bad here 0)
      (cond (is_word (codes ".code") here 0) (cond begun (bad here 0) (with_code draft body here))
      (with_instruction draft body here)))) (first_is (codes ".end") (codes ".end") (drop 1 words) here s)
      ∙ ap (λ found. found >>= (λ rest. closed_body draft body (header ++ (code ++ rest))))
      (bytes_line_read (codes ".end") rest here fit s refl)
      ∙ ap (λ b. cond b (Ok (draft_of entry user rows (body_of_row (header ++ (code ++ rest)) row) None))
      (Err (BadText line 1))) whole

-- ---- the header of a body

header_step : (entry : ℕ) (user : List ℕ) (rows : List DraftRow) (row : DraftRow) (header : List ℕ) (number : ℕ)
    → row.table ≡ 0x06 → row.body ≡ None → IsBytes header
    → with_line (draft_of entry user rows (Some row) None)
    (line_of number (line_bytes (bytes_line (codes ".body") header)))
    ≡ Ok (opened entry user rows (Some row) number header [] false false)
header_step entry user rows row header number method none fit =
    let draft : Draft = draft_of entry user rows (Some row) None in
    let words : List (List ℕ) = bytes_line (codes ".body") header in
    let here : LineParts = line_of number (line_bytes words) in
    let are : AreWords words = (inner_word (codes ".body") (omega arith) refl, (bytes_are_word header fit, tt)) in
    let s : Says here words = says number words are in
    let awaits : awaits_body (Some row) ≡ true =
    and_from (nat_eq row.table 0x06) (is_none row.body) (eq-eqb row.table 0x06 method) (ap is_none none) in
    worded draft here words s (omega arith)
    ∙ ap (λ b. cond (b && is_word (codes ".body") here 0) (with_header draft here) (with_row draft here)) awaits
    ∙ ap (λ b. cond b (with_header draft here) (with_row draft here))
    (first_is (codes ".body") (codes ".body") (drop 1 words) here s)
    ∙ ap (λ found. found >>= (λ header. Ok (opened entry user rows (Some row) number header [] false false)))
    (bytes_line_read (codes ".body") header here fit s refl)

-- ---- whole bodies

-- what the length of a body says of its header
pub record Bounded (body : List ℕ) (header : Header) : Type 0 where
  pub within : code_end header ≤ length body
  pub few : header.code_size < 2 ^ 32

small_code : (body : List ℕ) (header : Header) → IsBytes body → header_of body ≡ Some header
    → header.code_size < 2 ^ 32
small_code body header fit e = by (is_tiny body) (is_fat body) e
  where
    by : (tiny fat : Bool)
        → cond tiny (Some (tiny_header body)) (cond fat (Some (fat_header body)) None) ≡ Some header
        → header.code_size < 2 ^ 32
    by true fat e =
        let same : tiny_header body ≡ header = cc in
        let size : slice_index body 0 / 4 ≡ header.code_size = ap (λ (h : Header). h.code_size) same in
        omega (arith, size, fit 0)
    by false true e =
        let same : fat_header body ≡ header = cc in
        let size : number_at body 4 4 ≡ header.code_size = ap (λ (h : Header). h.code_size) same in
        let less : little_number 4 (drop 4 body) < 2 ^ 32 = little_from-lt 0 4 (drop 4 body) (drop_bytes 4 body fit) in
        omega (arith, size, less)
    by false false e = cc

bounded_end : (body : List ℕ) (header : Header) → is_length (length body) (body_end body header) ≡ true
    → code_end header ≤ length body
bounded_end body header e = by (nat_lt (length body) (code_end header)) refl e
  where
    by : (b : Bool) → nat_lt (length body) (code_end header) ≡ b
        → is_length (length body) (cond b None (cond header.has_sections
        (sections_end (length body) body (aligned (code_end header))) (Some (code_end header)))) ≡ true
        → code_end header ≤ length body
    by true t e = absurd (false≢true e)
    by false t e = ltb-false (length body) (code_end header) t

whole_parts : (body : List ℕ) (at size : ℕ) → at + size ≤ length body
    → take at body ++ (take size (drop at body) ++ drop (at + size) body) ≡ body
whole_parts body at size within =
    ap (λ rest. take at body ++ (take size (drop at body) ++ rest)) (sym (drop-drop size at body))
    ∙ ap (λ rest. take at body ++ rest) (take-append-drop size (drop at body)) ∙ take-append-drop at body

parts_lead : (entry : ℕ) (user : List ℕ) (rows : List DraftRow) (row : DraftRow) (body : List ℕ) (header : Header)
    (number : ℕ) → row.table ≡ 0x06 → row.body ≡ None → IsBytes body → header_of body ≡ Some header
    → Bounded body header → is_length (length body) (body_length body) ≡ true
    → Leads (draft_of entry user rows (Some row) None) number
    (parts_lines (take header.code_at body) (code_of body header) (drop (code_end header) body))
    (draft_of entry user rows (Some (record row { body = Some body })) None)
parts_lead entry user rows row body header number method none fit is bounded length_is =
    let front : List ℕ = take header.code_at body in
    let code : List ℕ = code_of body header in
    let rest : List ℕ = drop (code_end header) body in
    let within : header.code_at + header.code_size ≤ length body = bounded.within in
    let left : length (drop header.code_at body) ≡ length body - header.code_at = length-drop header.code_at body in
    let front_size : length (take header.code_at body) ≡ header.code_at =
    length-take-le header.code_at body (omega (arith, within)) in
    let code_size : length (take header.code_size (drop header.code_at body)) ≡ header.code_size =
    length-take-le header.code_size (drop header.code_at body) (omega (arith, within, left)) in
    let whole : front ++ (code ++ rest) ≡ body = whole_parts body header.code_at header.code_size within in
    let front_fit : IsBytes front = take_bytes header.code_at body fit in
    let code_fit : IsBytes code = take_bytes header.code_size (drop header.code_at body)
    (drop_bytes header.code_at body fit) in
    let rest_fit : IsBytes rest = drop_bytes (code_end header) body fit in
    let read : CodeRead entry user rows (Some row) number front code (number + 1) =
    code_read entry user rows (Some row) number front code (number + 1) code_fit
    (omega (arith, code_size, bounded.few)) in
    let is_one : is_body front code body ≡ true =
    and_from (fits (length front) (length code) (header_of body)) (is_length (length body) (body_length body))
    (ap (fits (length front) (length code)) is
    ∙ and_from (nat_eq header.code_at (length front)) (nat_eq header.code_size (length code))
    (eq-eqb header.code_at (length front) (sym front_size)) (eq-eqb header.code_size (length code) (sym code_size)))
    length_is in
    let opening : Draft = opened entry user rows (Some row) number front [] false false in
    let mid : Draft = opened entry user rows (Some row) number front code read.begun read.closed in
    let last : ℕ = number + 1 + length (code_lines code) in
    let first : Leads (draft_of entry user rows (Some row) None) number
    (bytes_line (codes ".body") front ∷ []) opening =
    one_line (draft_of entry user rows (Some row) None) opening number (bytes_line (codes ".body") front)
    (inner_word (codes ".body") (omega arith) refl, (bytes_are_word front front_fit, tt))
    (header_step entry user rows row front number method none front_fit) in
    let end : Leads mid last (bytes_line (codes ".end") rest ∷ [])
    (draft_of entry user rows (Some (record row { body = Some (front ++ (code ++ rest)) })) None) =
    one_line mid (draft_of entry user rows (Some (record row { body = Some (front ++ (code ++ rest)) })) None) last
    (bytes_line (codes ".end") rest)
    (inner_word (codes ".end") (omega arith) refl, (bytes_are_word rest rest_fit, tt))
    (end_step entry user rows (Some row) number front code rest read.begun read.closed last rest_fit
    (ap (is_body front code) whole ∙ is_one)) in
    let behind : Leads opening (number + 1) (code_lines code ++ bytes_line (codes ".end") rest ∷ [])
    (draft_of entry user rows (Some (record row { body = Some (front ++ (code ++ rest)) })) None) =
    both_lines opening mid (draft_of entry user rows (Some (record row { body = Some (front ++ (code ++ rest)) })) None)
    (number + 1) (code_lines code) (bytes_line (codes ".end") rest ∷ []) read.leads end in
    subst (λ bytes. Leads (draft_of entry user rows (Some row) None) number (parts_lines front code rest)
    (draft_of entry user rows (Some (record row { body = Some bytes })) None)) whole
    (both_lines (draft_of entry user rows (Some row) None) opening
    (draft_of entry user rows (Some (record row { body = Some (front ++ (code ++ rest)) })) None) number
    (bytes_line (codes ".body") front ∷ []) (code_lines code ++ bytes_line (codes ".end") rest ∷ []) first behind)

-- the lines of a body lead to its row with it
pub body_leads : (entry : ℕ) (user : List ℕ) (rows : List DraftRow) (row : DraftRow) (body : List ℕ) (number : ℕ)
    → row.table ≡ 0x06 → row.body ≡ None → IsBytes body → is_length (length body) (body_length body) ≡ true
    → Leads (draft_of entry user rows (Some row) None) number (body_lines (Some body))
    (draft_of entry user rows (Some (record row { body = Some body })) None)
body_leads entry user rows row body number method none fit length_is = by (header_of body) refl
  where
    by : (o : Option Header) → header_of body ≡ o
        → Leads (draft_of entry user rows (Some row) None) number (body_lines_of body (header_of body))
        (draft_of entry user rows (Some (record row { body = Some body })) None)
    by None e =
        let bad : is_length (length body) (option_and_then (body_end body) None) ≡ true =
        subst (λ o. is_length (length body) (option_and_then (body_end body) o) ≡ true) e length_is in
        absurd (false≢true bad)
    by (Some header) e =
        let known : is_length (length body) (body_end body header) ≡ true =
        subst (λ o. is_length (length body) (option_and_then (body_end body) o) ≡ true) e length_is in
        subst (λ o. Leads (draft_of entry user rows (Some row) None) number (body_lines_of body o)
        (draft_of entry user rows (Some (record row { body = Some body })) None)) (sym e)
        (parts_lead entry user rows row body header number method none fit e
        (record { within = bounded_end body header known; few = small_code body header fit e }) length_is)

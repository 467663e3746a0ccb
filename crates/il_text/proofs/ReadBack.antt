-- The text of a module is read as that module.
use Rattle.std.proofs.Common.{◌≡◌, ◌∙◌, ℕ, ◌^◌, ◌<◌, true, List, [], ◌∷◌, ◌++◌, map, codes}
use Rattle.std.proofs.Common.{Option, Some, None, option_to_list, Ok, refl, ap, sym, arith, decimal}
use Rattle.std.proofs.lemmas.List.{append-nil}
use Rattle.std.proofs.lemmas.List.Elements.{recursion_from_All}
use Rattle.std.specs.List.{flat_map}
use Rattle.hex.specs.Hex.{IsBytes}
use Rattle.md_rows.specs.Fits.{held_tables}
use Rattle.md_tables.specs.Modules.{ModuleParts, are_tables, is_module, rows_in}
use Rattle.il_text.specs.declared.draft.Draft.{Draft}
use Rattle.il_text.specs.declared.draft.DraftRow.{DraftRow}
use Rattle.il_text.specs.Words.{text_of}
use Rattle.il_text.specs.Lines.{LineParts}
use Rattle.il_text.specs.Ranges.{ModuleInRange, TableInRange}
use Rattle.il_text.specs.Listing.{bytes_line, entry_line, listing_of, module_lines, table_lines}
use Rattle.il_text.specs.Values.{number_below}
use Rattle.il_text.specs.Reading.{◌>>=◌, read, ends, keyword, nothing_read, read_text, read_from, if_whole}
use Rattle.il_text.specs.Reading.{line_of}
use Rattle.il_text.specs.Assembling.{assembled, module_of, parts_of_draft, unless_wrong, first_wrong, tables_of}
use Rattle.il_text.proofs.ReadBackBodies.{draft_of}
use Rattle.il_text.proofs.ReadBackLines.{AreWords, Says, says, Leads, one_line, both_lines, line_bytes, worded, keyed}
use Rattle.il_text.proofs.ReadBackLines.{read_at}
use Rattle.il_text.proofs.ReadBackLines.{ended_at, bound, bytes_line_read, inner_word}
use Rattle.il_text.proofs.ReadBackModules.{tables_back, none_wrong}
use Rattle.il_text.proofs.ReadBackRows.{RowsLead, bare_row, table_rows, rows_read}
use Rattle.il_text.proofs.ReadBackValues.{number_back}
use Rattle.il_text.proofs.ReadBackWords.{decimal_word, bytes_are_word}

-- ---- the first two lines

abbrev with_entry_only : ℕ → Draft
with_entry_only entry = record { entry = Some entry; user = None; rows = []; row = None; body = None }

entry_words : (entry : ℕ) → entry < 2 ^ 32 → AreWords (entry_line entry)
entry_words entry small =
    (inner_word (codes ".entry") (omega arith) refl, (decimal_word entry (omega (arith, small)), tt))

entry_leads : (entry : ℕ) → entry < 2 ^ 32 → Leads nothing_read 1 (entry_line entry ∷ []) (with_entry_only entry)
entry_leads entry small =
    let words : List (List ℕ) = entry_line entry in
    let line : LineParts = line_of 1 (line_bytes words) in
    let s : Says line words = says 1 words (entry_words entry small) in
    one_line nothing_read (with_entry_only entry) 1 words (entry_words entry small)
    (worded nothing_read line words s (omega arith)
    ∙ bound (keyword (codes ".entry") line) tt
    (λ named. read (number_below (2 ^ 32)) line 1
    >>= (λ entry. ends line 2 >>= (λ done. Ok (with_entry_only entry)))) (Ok (with_entry_only entry))
    (keyed (codes ".entry") (codes ".entry") (decimal entry ∷ []) line s refl)
    (bound (read (number_below (2 ^ 32)) line 1) entry
    (λ entry. ends line 2 >>= (λ done. Ok (with_entry_only entry))) (Ok (with_entry_only entry))
    (read_at (number_below (2 ^ 32)) line words 1 (decimal entry) entry s refl
    (number_back (2 ^ 32) entry small (omega (arith, small))))
    (ap (λ r. r >>= (λ done. Ok (with_entry_only entry))) (ended_at line words 2 s refl))))

user_leads : (entry : ℕ) (user : List ℕ) (number : ℕ) → IsBytes user
    → Leads (with_entry_only entry) number (bytes_line (codes ".user") user ∷ []) (draft_of entry user [] None None)
user_leads entry user number fit =
    let words : List (List ℕ) = bytes_line (codes ".user") user in
    let are : AreWords words = (inner_word (codes ".user") (omega arith) refl, (bytes_are_word user fit, tt)) in
    let line : LineParts = line_of number (line_bytes words) in
    let s : Says line words = says number words are in
    one_line (with_entry_only entry) (draft_of entry user [] None None) number words are
    (worded (with_entry_only entry) line words s (omega arith)
    ∙ ap (λ r. r >>= (λ user. Ok (draft_of entry user [] None None)))
    (bytes_line_read (codes ".user") user line fit s refl))

-- ---- the whole text

-- what was read of the text of a module
record ModuleRead (m : ModuleParts) : Type 0 where
  rows : List DraftRow
  last : Option DraftRow
  leads : Leads nothing_read 1 (module_lines m) (draft_of m.entry m.user rows last None)
  same : map bare_row (rows ++ option_to_list last) ≡ flat_map table_rows m.tables

module_read : (m : ModuleParts) → are_tables (rows_in m.tables) held_tables m.tables ≡ true → ModuleInRange m
    → ModuleRead m
module_read m are fit =
    let entry : List (List (List ℕ)) = entry_line m.entry ∷ [] in
    let user : List (List (List ℕ)) = bytes_line (codes ".user") m.user ∷ [] in
    let lines : List (List (List ℕ)) = flat_map table_lines m.tables in
    let begin : Draft = draft_of m.entry m.user [] None None in
    let found : (most : ℕ) × RowsLead m.entry m.user [] None 3 most lines (flat_map table_rows m.tables) =
    rows_read m.entry m.user (rows_in m.tables) m.tables 3 are (recursion_from_All TableInRange m.tables fit.tables) in
    let end : Draft = draft_of m.entry m.user found.1.read found.1.final None in
    record {
      rows = found.1.read;
      last = found.1.final;
      leads =
          both_lines nothing_read (with_entry_only m.entry) end 1 entry (user ++ lines) (entry_leads m.entry fit.entry)
          (both_lines (with_entry_only m.entry) begin end 2 user lines (user_leads m.entry m.user 2 fit.user)
          found.1.leads);
      same = found.1.same;
    }

text_read : (m : ModuleParts) (r : ModuleRead m)
    → read_text (listing_of m) ≡ Ok (draft_of m.entry m.user r.rows r.last None)
unfolding read_text
text_read m r =
    ap (λ text. read_from nothing_read 1 [] text >>= if_whole) (sym (append-nil (text_of (module_lines m))))
    ∙ ap (λ found. found >>= if_whole) (r.leads.reads [])

pub read_back : (m : ModuleParts) → is_module m.tables ≡ true → ModuleInRange m → assembled (listing_of m) ≡ Ok m
unfolding assembled is_module
read_back m is fit =
    let r : ModuleRead m = module_read m is fit in
    let rows : List DraftRow = r.rows ++ option_to_list r.last in
    let tables : tables_of rows ≡ m.tables = tables_back (rows_in m.tables) rows m.tables is r.same in
    let right : first_wrong rows ≡ None = none_wrong rows m.tables tables is in
    ap (λ found. found >>= module_of) (text_read m r)
    ∙ ap (unless_wrong (parts_of_draft (draft_of m.entry m.user r.rows r.last None))) right
    ∙ ap (λ tables. Ok (record { entry = m.entry; user = m.user; tables = tables })) tables

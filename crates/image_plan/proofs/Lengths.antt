-- How many bytes what is written takes.
use Rattle.std.proofs.Common.{◌≡◌, ◌∙◌, ◌+◌, ◌-◌, ◌*◌, ◌/◌, ◌<◌, ◌≤◌, ◌++◌, ◌∷◌, ◌&&◌, [], ℕ, suc, List, length, map}
use Rattle.std.proofs.Common.{take}
use Rattle.std.proofs.Common.{drop, Bool, true, false, ap, sym, subst, arith, refl, length-append, get_or, true≢false}
use Rattle.std.proofs.Common.{nat_le}
use Rattle.std.proofs.lemmas.List.{take-append-drop, length-take-le, length-drop, length-replicate, drop_more}
use borrow.Author.Tests.{leb-true}
use Rattle.std.specs.List.{list_all}
use Rattle.byteorder.specs.Endian.{little_bytes}
use Rattle.num_core.specs.declared.fix.Fix.{Fix}
use Rattle.rv_isa.specs.Instructions.{word_of}
use Rattle.rt_code.specs.Code.{code_of}
use Rattle.rt_code.specs.declared.routines.Routine.{Routine}
use Rattle.image_plan.specs.Places.{code_size, end_of, routine_size, table_size}
use Rattle.image_plan.specs.Planned.{table_fixes_fit}
use Rattle.image_plan.specs.Written.{Finds, bits_between, bytes_of, code_bytes, padding, routine_bytes, table_bytes}
use Rattle.image_plan.specs.Written.{target, with_address, with_addresses, with_both, with_number, with_numbers}
use Rattle.image_plan.specs.declared.pieces.CodePiece.{CodePiece}
use Rattle.image_plan.specs.declared.pieces.TablePiece.{TablePiece}

pub words_length : (words : List ℕ) → length (bytes_of words) ≡ 4 * length words
words_length [] = refl
words_length (word ∷ words) = let behind : length (bytes_of words) ≡ 4 * length words = words_length words in
    omega (arith, behind)

both_length : (bits : ℕ) (words : List ℕ) → length (with_both bits words) ≡ length words
both_length bits [] = refl
both_length bits (first ∷ []) = refl
both_length bits (first ∷ second ∷ words) = refl

pub address_length : (find : Finds) (begin : ℕ) (fix : Fix) (words : List ℕ)
    → length (with_address find begin fix words) ≡ length words
address_length find begin fix words =
    let bits : ℕ = bits_between (begin + 4 * fix.at) (target find fix) in
    length-append (take fix.at words) (with_both bits (drop fix.at words))
    ∙ ap (λ n. length (take fix.at words) + n) (both_length bits (drop fix.at words))
    ∙ sym (length-append (take fix.at words) (drop fix.at words))
    ∙ ap length (take-append-drop fix.at words)

pub addresses_length : (find : Finds) (begin : ℕ) (fixes : List Fix) (words : List ℕ)
    → length (with_addresses find begin fixes words) ≡ length words
addresses_length find begin [] words = refl
addresses_length find begin (fix ∷ fixes) words =
    addresses_length find begin fixes (with_address find begin fix words) ∙ address_length find begin fix words

pub code_length : (find : Finds) (at : ℕ) (pieces : List CodePiece)
    → at + length (code_bytes find at pieces) ≡ end_of at (map code_size pieces)
code_length find at [] = omega arith
code_length find at (piece ∷ pieces) =
    let words : List ℕ = with_addresses find at piece.code.fixes piece.code.words in
    let here : length (bytes_of words) ≡ code_size piece =
    words_length words ∙ ap (λ n. 4 * n) (addresses_length find at piece.code.fixes piece.code.words) in
    let both : length (bytes_of words ++ code_bytes find (at + code_size piece) pieces)
    ≡ length (bytes_of words) + length (code_bytes find (at + code_size piece) pieces) =
    length-append (bytes_of words) (code_bytes find (at + code_size piece) pieces) in
    let behind : at + code_size piece + length (code_bytes find (at + code_size piece) pieces)
    ≡ end_of (at + code_size piece) (map code_size pieces) =
    code_length find (at + code_size piece) pieces in
    omega (arith, here, both, behind)

-- ---- all of what is left of fixes

pub behind_both : (a b : Bool) → a && b ≡ true → b ≡ true
behind_both true b h = h
behind_both false b h = absurd (true≢false (sym h))

pub all_behind : {A : Type 0} (test : A → Bool) (items : List A) (i : ℕ) (item : A) → i < length items
    → list_all test (drop i items) ≡ true → list_all test (drop (i + 1) items) ≡ true
all_behind test items i item h all =
    behind_both (test (get_or items i item)) (list_all test (drop (i + 1) items))
    (sym (ap (list_all test) (drop_more items i item h)) ∙ all)

-- one fix more
pub addresses_on : (find : Finds) (begin i : ℕ) (d : Fix) (fixes : List Fix) (words new : List ℕ) → i < length fixes
    → new ≡ with_address find begin (get_or fixes i d) words
    → with_addresses find begin (drop i fixes) words ≡ with_addresses find begin (drop (i + 1) fixes) new
addresses_on find begin i d fixes words new h put =
    ap (λ left. with_addresses find begin left words) (drop_more fixes i d h)
    ∙ ap (with_addresses find begin (drop (i + 1) fixes)) (sym put)

-- ---- routines

mapped : {A : Type 0} (f : A → ℕ) (items : List A) → length (map f items) ≡ length items
mapped f [] = refl
mapped f (item ∷ items) = ap suc (mapped f items)

pub routines_length : (at : ℕ) (routines : List Routine)
    → at + length (routine_bytes routines) ≡ end_of at (map routine_size routines)
routines_length at [] = omega arith
routines_length at (which ∷ rest) =
    let words : List ℕ = map word_of (code_of which) in
    let here : length (bytes_of words) ≡ routine_size which =
    words_length words ∙ ap (λ n. 4 * n) (mapped word_of (code_of which)) in
    let both : length (bytes_of words ++ routine_bytes rest) ≡ length (bytes_of words) + length (routine_bytes rest) =
    length-append (bytes_of words) (routine_bytes rest) in
    let behind : at + routine_size which + length (routine_bytes rest)
    ≡ end_of (at + routine_size which) (map routine_size rest) =
    routines_length (at + routine_size which) rest in
    omega (arith, here, both, behind)

-- ---- tables

pub number_length : (find : Finds) (fix : Fix) (bytes : List ℕ) → fix.at + 8 ≤ length bytes
    → length (with_number find fix bytes) ≡ length bytes
number_length find fix bytes h =
    let new : List ℕ = little_bytes 8 (target find fix) in
    let front : length (take fix.at bytes) ≡ fix.at = length-take-le fix.at bytes (omega (arith, h)) in
    let back : length (drop (fix.at + 8) bytes) ≡ length bytes - (fix.at + 8) = length-drop (fix.at + 8) bytes in
    let both : length ((take fix.at bytes ++ new) ++ drop (fix.at + 8) bytes)
    ≡ length (take fix.at bytes ++ new) + length (drop (fix.at + 8) bytes) =
    length-append (take fix.at bytes ++ new) (drop (fix.at + 8) bytes) in
    let first : length (take fix.at bytes ++ new) ≡ length (take fix.at bytes) + 8 =
    length-append (take fix.at bytes) new in
    omega (arith, front, back, both, first, h)

pub front_both : (a b : Bool) → a && b ≡ true → a ≡ true
front_both true b h = refl
front_both false b h = h

pub numbers_length : (find : Finds) (fixes : List Fix) (bytes : List ℕ)
    → list_all (λ (fix : Fix). nat_le (fix.at + 8) (length bytes)) fixes ≡ true
    → length (with_numbers find fixes bytes) ≡ length bytes
numbers_length find [] bytes h = refl
numbers_length find (fix ∷ fixes) bytes h =
    let inside : fix.at + 8 ≤ length bytes =
    leb-true (fix.at + 8) (length bytes)
    (front_both (nat_le (fix.at + 8) (length bytes))
    (list_all (λ (other : Fix). nat_le (other.at + 8) (length bytes)) fixes) h) in
    let same : length (with_number find fix bytes) ≡ length bytes = number_length find fix bytes inside in
    let left : list_all (λ (other : Fix). nat_le (other.at + 8) (length bytes)) fixes ≡ true =
    behind_both (nat_le (fix.at + 8) (length bytes))
    (list_all (λ (other : Fix). nat_le (other.at + 8) (length bytes)) fixes) h in
    numbers_length find fixes (with_number find fix bytes)
    (subst (λ n. list_all (λ (other : Fix). nat_le (other.at + 8) n) fixes ≡ true) (sym same) left)
    ∙ same

pub tables_length : (find : Finds) (at : ℕ) (tables : List TablePiece) → list_all table_fixes_fit tables ≡ true
    → at + length (table_bytes find tables) ≡ end_of at (map table_size tables)
tables_length find at [] h = omega arith
tables_length find at (table ∷ tables) h =
    let size : ℕ = length table.bytes in
    let bytes : List ℕ = with_numbers find table.fixes table.bytes in
    let zeros : List ℕ = padding table.bytes in
    let here : length bytes ≡ size =
    numbers_length find table.fixes table.bytes
    (front_both (table_fixes_fit table) (list_all table_fixes_fit tables) h) in
    let fill : length zeros ≡ table_size table - size = length-replicate (table_size table - size) 0 in
    let fits : size ≤ table_size table = within_word size in
    let first : length (bytes ++ zeros) ≡ length bytes + length zeros = length-append bytes zeros in
    let both : length ((bytes ++ zeros) ++ table_bytes find tables)
    ≡ length (bytes ++ zeros) + length (table_bytes find tables) =
    length-append (bytes ++ zeros) (table_bytes find tables) in
    let behind : at + table_size table + length (table_bytes find tables)
    ≡ end_of (at + table_size table) (map table_size tables) =
    tables_length find (at + table_size table) tables
    (behind_both (table_fixes_fit table) (list_all table_fixes_fit tables) h) in
    omega (arith, here, fill, fits, first, both, behind)
  where
    within_word : (n : ℕ) → n ≤ (n + 7) / 8 * 8
    within_word n = omega arith

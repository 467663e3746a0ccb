-- Segments that aren't too large are those of the file.
use Rattle.std.proofs.Common.{◌≡◌, ◌+◌, ◌≤◌, ◌++◌, ◌&&◌, ℕ, List, Bool, true, false, cond, not, nat_le}
use Rattle.std.proofs.Common.{length, nat_lt}
use Rattle.std.proofs.Common.{None, Some, arith, refl, length-append}
use borrow.Author.Tests.{leb-true}
use Rattle.std.specs.List.{list_all}
use Rattle.num_core.specs.declared.bounds.Bounds.{Bounds}
use Rattle.elf_file.specs.Elf.{headers_size}
use Rattle.image_plan.specs.Places.{address_of, code_at, routines, routines_at}
use Rattle.image_plan.specs.Places.{tables_at}
use Rattle.image_plan.specs.Places.{tables_end, text_end}
use Rattle.image_plan.specs.Planned.{SegmentsFit, code_fixes_fit, is_placeable, layout_of, most_bytes, rest_size}
use Rattle.image_plan.specs.Planned.{table_fixes_fit, text_size, too_large}
use Rattle.image_plan.specs.Written.{code_bytes, front, routine_bytes, table_bytes, text_with}
use Rattle.image_plan.specs.declared.pieces.Pieces.{Pieces}
use Rattle.image_plan.proofs.Lengths.{behind_both, code_length, routines_length, tables_length}

pub text_is : (pieces : Pieces) (bounds : Bounds)
    → headers_size + length (text_with (address_of pieces) pieces bounds) ≡ text_size pieces
text_is pieces bounds =
    let head : List ℕ = front pieces bounds in
    let code : List ℕ = code_bytes (address_of pieces) code_at pieces.code in
    let first : length head ≡ 24 = refl in
    let second : routines_at + length (routine_bytes routines) ≡ code_at = routines_length routines_at routines in
    let third : code_at + length code ≡ text_end pieces = code_length (address_of pieces) code_at pieces.code in
    let all : length (head ++ (routine_bytes routines ++ code)) ≡ length head + length (routine_bytes routines ++ code) =
    length-append head (routine_bytes routines ++ code) in
    let behind : length (routine_bytes routines ++ code) ≡ length (routine_bytes routines) + length code =
    length-append (routine_bytes routines) code in
    omega (arith, first, second, third, all, behind)

-- a list of tests, of which none finds what is too large
pub first_fits : (a b : Bool) (x y : ℕ) → cond (not a) (Some x) (cond (not b) (Some y) None) ≡ None
    → (a ≡ true) × (b ≡ true)
first_fits true true x y h = (refl, refl)
first_fits true false x y h = absurd (cc)
first_fits false b x y h = absurd (cc)

pub segments_fit : (pieces : Pieces) (bounds : Bounds) → is_placeable pieces ≡ true → too_large pieces bounds ≡ None
    → SegmentsFit (layout_of pieces bounds)
unfolding layout_of
segments_fit pieces bounds fits small =
    let both : (nat_le (text_size pieces) most_bytes ≡ true) × (nat_le (rest_size pieces bounds) most_bytes ≡ true) =
    first_fits (nat_le (text_size pieces) most_bytes) (nat_le (rest_size pieces bounds) most_bytes) (text_size pieces)
    (rest_size pieces bounds) small in
    let tables : list_all table_fixes_fit pieces.tables ≡ true =
    behind_both (nat_lt pieces.root (length pieces.tables) && list_all code_fixes_fit pieces.code)
    (list_all table_fixes_fit pieces.tables) fits in
    let bytes : List ℕ = table_bytes (address_of pieces) pieces.tables in
    let rest : tables_at pieces + length bytes ≡ tables_end pieces =
    tables_length (address_of pieces) (tables_at pieces) pieces.tables tables in
    let text : text_size pieces ≤ most_bytes = leb-true (text_size pieces) most_bytes both.0 in
    let zero : rest_size pieces bounds ≤ most_bytes = leb-true (rest_size pieces bounds) most_bytes both.1 in
    record { text = omega (arith, text, text_is pieces bounds); rest = omega (arith, zero, rest) }

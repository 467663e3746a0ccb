-- The code of a body is a piece as placing wants it.
use Rattle.std.proofs.Common.{◌≡◌, ◌∙◌, ℕ, zero, suc, Some, slice_get, ◌+◌, ◌<◌, Bool, true, ◌&&◌, List, [], ◌∷◌}
use Rattle.std.proofs.Common.{length, slice_index}
use Rattle.std.proofs.Common.{arith, refl, ap, sym, subst, nat_lt}
use Rattle.std.specs.List.{list_all}
use Rattle.std.proofs.lemmas.Bool.{and_from, lt-ltb, ltb-true}
use Rattle.num_core.specs.declared.fix.Fix.{Fix}
use Rattle.rv_isa.specs.Instructions.{word_of}
use Rattle.lir_core.specs.Check.{marks_are_places, ops_are_sound, vars_are_slots}
use Rattle.lir_core.specs.declared.body.LirBody.{LirBody}
use Rattle.lir_core.specs.declared.op.LirOp.{LirOp}
use Rattle.rv_gen.specs.Lines.{lines_of}
use Rattle.rv_gen.specs.Placing.{code_of, far_places, fixes_of, place_in, places_in, rows_by, words_of}
use Rattle.image_plan.specs.Conditions.{are_apart, begins_with_auipc, is_auipc, map_fits}
use Rattle.image_plan.specs.Planned.{code_fixes_fit}
use Rattle.image_plan.specs.declared.pieces.CodePiece.{CodePiece}
use Rattle.image_plan.proofs.Lengths.{behind_both, front_both}
use Rattle.image_plan.proofs.Listed.{length_mapped}
use Rattle.rv_words.proofs.LinkedCode.{Parts, parts}
use Rattle.rv_words.proofs.Places.{begin_inside, stop_at}
use Rattle.rv_words.proofs.Plain.{of_enters, of_operation}
use Rattle.linked_image.specs.Selected.{AreSelected, IsSelected, SuitsPlacing}
use Rattle.linked_image.proofs.Linkable.{of_lines}
use Rattle.linked_image.proofs.Pairs.{IsPair, PairsAt, lines_apart, pairs_begin, pairs_of_lines, pairs_within}

-- the fixes of a body stand at the pairs of instructions that take addresses
pub pairs_of : (body : LirBody) → PairsAt IsPair (code_of body) (fixes_of body)
pairs_of body =
    pairs_of_lines (far_places 0 (lines_of body)) (places_in (lines_of body)) 0 0 (lines_of body) [] refl
    (of_lines body)

-- as many words as instructions
pub words_length : (body : LirBody) (piece : CodePiece) → IsSelected body piece.code
    → length piece.code.words ≡ length (code_of body)
words_length body piece is = ap length is.words ∙ length_mapped word_of (code_of body)

fits : (body : LirBody) (piece : CodePiece) → IsSelected body piece.code → code_fixes_fit piece ≡ true
fits body piece is =
    subst (λ n. list_all (λ (fix : Fix). nat_lt (fix.at + 1) n) piece.code.fixes ≡ true)
    (sym (words_length body piece is))
    (subst (λ (fixes : List Fix). list_all (λ (fix : Fix). nat_lt (fix.at + 1) (length (code_of body))) fixes ≡ true)
    (sym is.fixes) (pairs_within (code_of body) (fixes_of body) (pairs_of body)))

begins : (body : LirBody) (piece : CodePiece) → IsSelected body piece.code → begins_with_auipc piece ≡ true
begins body piece is =
    subst (λ (words : List ℕ). list_all (λ (fix : Fix). is_auipc (slice_index words fix.at)) piece.code.fixes ≡ true)
    (sym is.words)
    (subst (λ (fixes : List Fix). list_all (λ (fix : Fix). is_auipc (slice_index (words_of body) fix.at)) fixes ≡ true)
    (sym is.fixes) (pairs_begin (code_of body) (fixes_of body) (pairs_of body)))

lies_apart : (body : LirBody) (piece : CodePiece) → IsSelected body piece.code
    → are_apart 2 piece.code.fixes ≡ true
lies_apart body piece is =
    subst (λ (fixes : List Fix). are_apart 2 fixes ≡ true) (sym is.fixes)
    (lines_apart (far_places 0 (lines_of body)) 0 0 (lines_of body))

-- ---- the map

op_at : (ops : List LirOp) (n : ℕ) → n < length ops → (op : LirOp) × (slice_get ops n ≡ Some op)
op_at [] n h = absurd (omega (arith, h))
op_at (op ∷ ops) zero h = (op, refl)
op_at (op ∷ ops) (suc n) h = op_at ops n (omega (arith, h))

-- an operation begins at an instruction of the code
place_within : (body : LirBody) (place : ℕ) → place < length body.ops
    → place_in (places_in (lines_of body)) place < length (code_of body)
place_within body place h =
    let found = op_at body.ops place h in
    let op : LirOp = found.0 in
    let p : Parts body place (lines_of body) op =
    parts body (λ o. (of_operation body o).none) (of_enters body).none place op found.1 in
    let stop = stop_at body place op (of_operation body op) p in
    subst (λ n. n < length (code_of body)) (sym stop.1) (begin_inside body place op (of_operation body op) p)

rows_within : (body : LirBody) (n : ℕ) (marks : List (ℕ × ℕ)) → n ≡ length (code_of body)
    → list_all (λ (mark : ℕ × ℕ). nat_lt mark.0 (length body.ops)) marks ≡ true
    → list_all (λ (row : ℕ × ℕ). nat_lt row.0 n) (rows_by (places_in (lines_of body)) marks) ≡ true
unfolding rows_by
rows_within body n [] is all = refl
rows_within body n (mark ∷ marks) is all =
    let left : Bool = list_all (λ (other : ℕ × ℕ). nat_lt other.0 (length body.ops)) marks in
    let place : ℕ = place_in (places_in (lines_of body)) mark.0 in
    let here : mark.0 < length body.ops =
    ltb-true mark.0 (length body.ops) (front_both (nat_lt mark.0 (length body.ops)) left all) in
    let inside : place < length (code_of body) = place_within body mark.0 here in
    and_from (nat_lt place n)
    (list_all (λ (row : ℕ × ℕ). nat_lt row.0 n) (rows_by (places_in (lines_of body)) marks))
    (lt-ltb place n (omega (arith, inside, is)))
    (rows_within body n marks is (behind_both (nat_lt mark.0 (length body.ops)) left all))

map_within : (body : LirBody) (piece : CodePiece) → IsSelected body piece.code → map_fits piece ≡ true
map_within body piece is =
    let marks : marks_are_places body ≡ true =
    behind_both (ops_are_sound body) (marks_are_places body)
    (front_both (ops_are_sound body && marks_are_places body) (vars_are_slots body) is.sound) in
    subst (λ (rows : List (ℕ × ℕ)). list_all (λ (row : ℕ × ℕ). nat_lt row.0 (length piece.code.words)) rows ≡ true)
    (sym is.map) (rows_within body (length piece.code.words) body.marks (words_length body piece is) marks)

-- ---- of all pieces

all_selected : (test : CodePiece → Bool)
    → ((body : LirBody) (piece : CodePiece) → IsSelected body piece.code → test piece ≡ true)
    → (bodies : List LirBody) (pieces : List CodePiece) → AreSelected bodies pieces → list_all test pieces ≡ true
all_selected test each [] [] all = refl
all_selected test each [] (piece ∷ pieces) all = absurd all
all_selected test each (body ∷ bodies) [] all = absurd all
all_selected test each (body ∷ bodies) (piece ∷ pieces) all =
    and_from (test piece) (list_all test pieces) (each body piece all.0)
    (all_selected test each bodies pieces all.1)

pub suits : (bodies : List LirBody) (pieces : List CodePiece) → AreSelected bodies pieces → SuitsPlacing pieces
suits bodies pieces all = record {
  fits = all_selected code_fixes_fit fits bodies pieces all;
  begins = all_selected begins_with_auipc begins bodies pieces all;
  apart = all_selected (λ (piece : CodePiece). are_apart 2 piece.code.fixes) lies_apart bodies pieces all;
  maps = all_selected map_fits map_within bodies pieces all;
}

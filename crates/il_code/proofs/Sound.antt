-- What is known of a clause that isn't bad, and of a body under a tiny header.
use Rattle.std.proofs.Common.{◌≡◌, ◌∙◌, ℕ, ◌+◌, ◌/◌, ◌%◌, ◌≤◌, Bool, true, false, cond, ◌||◌}
use Rattle.std.proofs.Common.{nat_eq, List, [], ◌∷◌, length, take, min, Some, None, Ok}
use Rattle.std.proofs.Common.{Err, ap, refl, arith}
use Rattle.std.proofs.lemmas.Grind.{common_steps}
use Rattle.std.specs.Prelude.{option_and_then}
use Rattle.std.proofs.lemmas.Bool.{and_parts, eq-eqb, eqb-true, le-ltb, leb-true, not-false}
use Rattle.il_code.specs.Bodies.{body_by_code, body_by_header, body_of, if_end, whole_header}
use Rattle.il_code.specs.Clauses.{is_bad, is_sound, is_whole}
use Rattle.il_code.specs.Headers.{body_end, code_of, fat_header, header_of, is_fat, tiny_header}
use Rattle.il_code.specs.Listing.{listed}
use Rattle.il_code.specs.Tiny.{tiny_body}
use Rattle.il_code.specs.declared.body.Instr.{Instr}
use Rattle.il_code.specs.declared.clause.Row.{Row}
use Rattle.il_code.specs.declared.clause.Span.{Span}
use Rattle.il_code.specs.declared.header.Header.{Header}

or-false : (x y : Bool) → (x || y) ≡ false → x ≡ false
or-false true y h = h
or-false false y h = refl

whole_fits : (instrs : List Instr) (end : ℕ) (span : Span) → is_whole instrs end span ≡ true → span.to ≤ end
whole_fits instrs end span is = leb-true _ _ (and_parts _ _ (and_parts _ _ is).0).1

-- the ranges of a clause that isn't bad end inside the code
pub record Fits (end : ℕ) (row : Row) : Type 0 where
  pub tries : row.try_at + row.try_size ≤ end
  pub handler : row.handler_at + row.handler_size ≤ end

pub fits : (instrs : List Instr) (end : ℕ) (rows : List Row) (number : ℕ) (row : Row)
    → is_bad instrs end rows number row ≡ false → Fits end row
fits instrs end rows number row is =
    let sound : is_sound instrs end row ≡ true = not-false _ (or-false _ _ is) in
    let parts = and_parts _ _ sound in
    record {
      tries = whole_fits instrs end (record { from = row.try_at; to = row.try_at + row.try_size })
          (and_parts _ _ parts.0).1;
      handler = whole_fits instrs end (record { from = row.handler_at; to = row.handler_at + row.handler_size })
          (and_parts _ _ parts.1).0;
    }

-- ---- tiny bodies

record Parts (header : ℕ) (rest code : List ℕ) : Type 0 where
  tiny : nat_eq (header % 4) 2 ≡ true
  size : length rest ≡ header / 4
  same : rest ≡ code

parts : (header : ℕ) (rest code : List ℕ) (tiny whole : Bool) → nat_eq (header % 4) 2 ≡ tiny
    → nat_eq (length rest) (header / 4) ≡ whole
    → cond tiny (cond whole (Ok rest) (Err (min (length rest) (header / 4) + 1))) (Err 0) ≡ Ok code
    → Parts header rest code
parts header rest code false whole t w e = cc
parts header rest code true false t w e = cc
parts header rest code true true t w e =
    let same : rest ≡ code = cc in
    record { tiny = t; size = eqb-true _ _ w; same = same }

take-whole : (xs : List ℕ) (n : ℕ) → length xs ≡ n → take n xs ≡ xs
take-whole xs n e = grind (arith, common_steps)

pub tiny_is_body : (bytes code : List ℕ) → tiny_body bytes ≡ Ok code
    → body_of bytes ≡ body_by_code (tiny_header bytes) [] (listed code)
tiny_is_body [] code e = cc
tiny_is_body (header ∷ rest) code e =
    let p = parts header rest code (nat_eq (header % 4) 2) (nat_eq (length rest) (header / 4)) refl refl e in
    let bytes : List ℕ = header ∷ rest in
    let tiny : Header = tiny_header bytes in
    let is : header_of bytes ≡ Some tiny =
    ap (λ b. cond b (Some tiny) (cond (is_fat bytes) (Some (fat_header bytes)) None)) p.tiny in
    let fits : length bytes ≡ 1 + header / 4 = let size : length rest ≡ header / 4 = p.size in omega (arith, size) in
    let end : body_end bytes tiny ≡ Some (1 + header / 4) =
    ap (λ b. cond b None (Some (1 + header / 4))) (le-ltb (length bytes) (1 + header / 4) (omega (arith, fits))) in
    let whole : whole_header bytes ≡ Some tiny =
    ap (option_and_then (λ h. if_end (length bytes) h (body_end bytes h))) is
    ∙ (ap (if_end (length bytes) tiny) end
    ∙ ap (λ b. cond b (Some tiny) None) (eq-eqb (1 + header / 4) (length bytes) (omega (arith, fits)))) in
    let read : code_of bytes tiny ≡ code = take-whole rest (header / 4) p.size ∙ p.same in
    ap (body_by_header bytes) whole ∙ ap (λ c. body_by_code tiny [] (listed c)) read

-- From a type to the types around it, one by one.
use Rattle.std.proofs.Common.{◌≡◌, ◌∙◌, ◌++◌, ◌∷◌, ◌≤◌, ◌||◌, [], ℕ, zero, suc, Bool, true, false, cond, List, refl, ap}
use Rattle.std.proofs.Common.{sym, arith, append_assoc, nat_eq}
use Rattle.std.proofs.lemmas.List.{append-nil}
use Rattle.std.proofs.lemmas.List.Folds.{list_any-append}
use Rattle.std.specs.List.{list_any}
use Rattle.md_tables.specs.declared.module.Table.{Table}
use Rattle.ty_names.specs.Definitions.{enclosing, type_count}
use Rattle.ty_names.specs.TypeTexts.{around, types_around}

-- The types so far, and those around a row that are still to come.
pub record IsWalked (tables : List Table) (first left : ℕ) (rows : List ℕ) (row : ℕ) : Type 0 where
  pub seen : List ℕ
  pub same : (x : ℕ) → list_any (nat_eq x) seen ≡ list_any (nat_eq x) rows
  pub whole : types_around tables first ≡ rows ++ around left tables seen row

pub sets_out : (tables : List Table) (first left : ℕ) (rows : List ℕ) → left ≡ type_count tables → rows ≡ []
    → IsWalked tables first left rows first
sets_out tables first left rows all none =
    record {
      seen = [];
      same = λ x. ap (list_any (nat_eq x)) (sym none);
      whole =
          ap (λ n. around n tables [] first) (sym all)
          ∙ ap (λ (l : List ℕ). l ++ around left tables [] first) (sym none);
    }

swapped : (a b : Bool) → a || b ≡ b || (a || false)
swapped true true = refl
swapped true false = refl
swapped false true = refl
swapped false false = refl

one_more : (tables : List Table) (seen : List ℕ) (row less : ℕ) (a b : Bool) → a ≡ false → b ≡ false
    → cond (a || b) [] (row ∷ around less tables (row ∷ seen) (enclosing tables row))
    ≡ row ∷ around less tables (row ∷ seen) (enclosing tables row)
one_more tables seen row less a b h k =
    ap (λ c. cond (c || b) [] (row ∷ around less tables (row ∷ seen) (enclosing tables row))) h
    ∙ ap (λ c. cond c [] (row ∷ around less tables (row ∷ seen) (enclosing tables row))) k

pub steps_on : (tables : List Table) (first left less row next : ℕ) (rows more : List ℕ) → left ≡ suc less
    → nat_eq row 0 ≡ false → list_any (nat_eq row) rows ≡ false → more ≡ rows ++ row ∷ []
    → next ≡ enclosing tables row → IsWalked tables first left rows row → IsWalked tables first less more next
steps_on tables first left less row next rows more is there new pushed out walked =
    record {
      seen = row ∷ walked.seen;
      same =
          λ x. ap (λ b. nat_eq x row || b) (walked.same x)
          ∙ swapped (nat_eq x row) (list_any (nat_eq x) rows)
          ∙ sym (list_any-append (nat_eq x) rows (row ∷ []))
          ∙ ap (list_any (nat_eq x)) (sym pushed);
      whole =
          walked.whole
          ∙ ap (λ n. rows ++ around n tables walked.seen row) is
          ∙ ap (λ (l : List ℕ). rows ++ l)
          (one_more tables walked.seen row less (nat_eq row 0) (list_any (nat_eq row) walked.seen) there
          (walked.same row ∙ new))
          ∙ sym (append_assoc rows (row ∷ []) (around less tables (row ∷ walked.seen) (enclosing tables row)))
          ∙ (λ i. sym pushed i ++ around less tables (row ∷ walked.seen) (sym out i));
    }

-- ---- ends

ended : (tables : List Table) (first left row : ℕ) (rows : List ℕ) (walked : IsWalked tables first left rows row)
    → around left tables walked.seen row ≡ [] → rows ≡ types_around tables first
ended tables first left row rows walked none =
    sym (walked.whole ∙ ap (λ (l : List ℕ). rows ++ l) none ∙ append-nil rows)

pub none_left : (tables : List Table) (first left row : ℕ) (rows : List ℕ) → left ≤ 0
    → IsWalked tables first left rows row → rows ≡ types_around tables first
none_left tables first left row rows none walked =
    let zero_left : left ≡ 0 = omega arith in
    ended tables first left row rows walked (ap (λ n. around n tables walked.seen row) zero_left)

stopped : (tables : List Table) (seen : List ℕ) (row : ℕ) (left : ℕ)
    → nat_eq row 0 || list_any (nat_eq row) seen ≡ true → around left tables seen row ≡ []
stopped tables seen row zero h = refl
stopped tables seen row (suc less) h =
    ap (λ c. cond c [] (row ∷ around less tables (row ∷ seen) (enclosing tables row))) h

pub outermost : (tables : List Table) (first left row : ℕ) (rows : List ℕ) → nat_eq row 0 ≡ true
    → IsWalked tables first left rows row → rows ≡ types_around tables first
outermost tables first left row rows none walked =
    ended tables first left row rows walked
    (stopped tables walked.seen row left (ap (λ b. b || list_any (nat_eq row) walked.seen) none))

or_true : (a b : Bool) → b ≡ true → a || b ≡ true
or_true true b h = refl
or_true false b h = h

pub back_again : (tables : List Table) (first left row : ℕ) (rows : List ℕ) → list_any (nat_eq row) rows ≡ true
    → IsWalked tables first left rows row → rows ≡ types_around tables first
back_again tables first left row rows there walked =
    ended tables first left row rows walked
    (stopped tables walked.seen row left
    (or_true (nat_eq row 0) (list_any (nat_eq row) walked.seen) (walked.same row ∙ there)))

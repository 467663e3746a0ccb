-- References and those around them, noted from the inside.
use Rattle.std.proofs.Common.{◌≡◌, ◌∙◌, ◌++◌, ◌∷◌, ◌||◌, [], ℕ, suc, Bool, true, false, cond, List, refl, ap, sym}
use Rattle.std.proofs.Common.{append_assoc, nat_eq}
use Rattle.std.proofs.lemmas.List.Folds.{list_any-append}
use Rattle.std.specs.List.{list_any}
use Rattle.indexmap.specs.IndexSet.{insert_key}
use Rattle.md_tables.specs.declared.module.Table.{Table}
use Rattle.ty_load.specs.Refusals.{around, is_nested_reference}
use Rattle.ty_names.specs.References.{reference_scope}

-- ---- keys in the order in which they came

pub added_key : (keys : List ℕ) (key : ℕ) → list_any (nat_eq key) keys ≡ false
    → insert_key nat_eq keys key ≡ keys ++ key ∷ []
added_key keys key h = ap (λ b. cond b keys (keys ++ key ∷ [])) h

-- ---- what was noted, and what is around the next, make the whole

pub record Makes (tables : List Table) (whole rows : List ℕ) (left next : ℕ) : Type 0 where
  pub seen : List ℕ
  pub known : (row : ℕ) → list_any (nat_eq row) seen ≡ list_any (nat_eq row) rows
  pub told : rows ++ around left tables seen next ≡ whole

module _ (tables : List Table) (whole rows : List ℕ) (left next : ℕ) (so_far : Makes tables whole rows left next) where
  module _ (less : ℕ) (more : left ≡ suc less) where
    opened : (a b : Bool) → list_any (nat_eq next) so_far.seen ≡ a → is_nested_reference tables next ≡ b
        → rows ++ cond a [] (next ∷ cond b
        (around less tables (next ∷ so_far.seen) (reference_scope tables next).row) []) ≡ whole
    opened a b h k =
        (λ i. rows ++ cond (sym h i) [] (next ∷ cond (sym k i)
        (around less tables (next ∷ so_far.seen) (reference_scope tables next).row) []))
        ∙ ap (λ n. rows ++ around n tables so_far.seen next) (sym more) ∙ so_far.told

    module _ (wider : List ℕ) (fresh : list_any (nat_eq next) rows ≡ false) (added : wider ≡ rows ++ next ∷ []) where
      or_swapped : (a b : Bool) → (a || b) ≡ (b || (a || false))
      or_swapped true true = refl
      or_swapped true false = refl
      or_swapped false true = refl
      or_swapped false false = refl

      pub goes_out : is_nested_reference tables next ≡ true
          → Makes tables whole wider less (reference_scope tables next).row
      goes_out h = record {
        seen = next ∷ so_far.seen;
        known =
            λ row. ap (λ b. nat_eq row next || b) (so_far.known row)
            ∙ or_swapped (nat_eq row next) (list_any (nat_eq row) rows)
            ∙ sym (list_any-append (nat_eq row) rows (next ∷ []))
            ∙ ap (list_any (nat_eq row)) (sym added);
        told =
            ap (λ (l : List ℕ). l ++ around less tables (next ∷ so_far.seen) (reference_scope tables next).row) added
            ∙ append_assoc rows (next ∷ [])
            (around less tables (next ∷ so_far.seen) (reference_scope tables next).row)
            ∙ opened false true (so_far.known next ∙ fresh) h;
      }

-- The fields that have a place, one row after another, and as the definitions of layouts list them.
use Rattle.std.proofs.Common.{◌≡◌, ◌∙◌, ◌+◌, ◌++◌, ℕ, zero, suc, Bool, true, false, not, List, [], ◌∷◌, Result}
use Rattle.std.proofs.Common.{refl, sym, ap, subst, arith, map, filter, cond}
use Rattle.std.proofs.lemmas.List.Elements.{filter-append}
use Rattle.std.proofs.lemmas.List.{map-append}
use Rattle.std.specs.Prelude.{IfOk, ◌&&◌}
use Rattle.std.specs.List.{range_with_len}
use Rattle.num_core.specs.declared.memory.Memory.{Memory}
use Rattle.ty_terms.specs.declared.names.TypeId.{TypeId}
use Rattle.ty_names.specs.Modules.{World, tables_at}
use Rattle.ty_names.specs.Definitions.{fields_of, is_literal, is_static_field}
use Rattle.cli_layout.specs.declared.rows.FieldRow.{FieldRow}
use Rattle.cli_layout.specs.Fields.{field_row, placed_fields, static_fields}
use Rattle.world_layouts.specs.Rows.{has_place, placed_among, placed_if}

range_more : (from count at : ℕ) → from + count ≡ at
    → range_with_len from (count + 1) ≡ range_with_len from count ++ at ∷ []
range_more from zero at is = let same : from ≡ at = omega (arith, is) in ap (λ n. n ∷ []) same
range_more from (suc count) at is =
    let more : suc count + 1 ≡ suc (count + 1) = omega arith in
    ap (range_with_len from) more ∙ ap (λ l. from ∷ l) (range_more (from + 1) count at (omega (arith, is)))

one_if : (world : World) (id : TypeId) (row : ℕ) (b : Bool)
    → map (field_row world id) (cond b (row ∷ []) []) ≡ cond b (field_row world id row ∷ []) []
one_if world id row true = refl
one_if world id row false = refl

pub among_more : (world : World) (id : TypeId) (static : Bool) (from count row : ℕ) → from + count ≡ row
    → placed_among world id static (range_with_len from (count + 1))
    ≡ placed_among world id static (range_with_len from count) ++ placed_if world id static row
among_more world id static from count row is =
    ap (placed_among world id static) (range_more from count row is)
    ∙ ap (map (field_row world id)) (filter-append (has_place world id static) (range_with_len from count) (row ∷ []))
    ∙ map-append (field_row world id) (filter (has_place world id static) (range_with_len from count))
    (filter (has_place world id static) (row ∷ []))
    ∙ ap (λ l. placed_among world id static (range_with_len from count) ++ l)
    (one_if world id row (has_place world id static row))

-- ---- as the definitions list them

same_filter : (p q : ℕ → Bool) (rows : List ℕ) → ((row : ℕ) → p row ≡ q row) → filter p rows ≡ filter q rows
same_filter p q [] same = refl
same_filter p q (row ∷ rows) same =
    ap (λ l. cond (p row) (row ∷ l) l) (same_filter p q rows same)
    ∙ ap (λ b. cond b (row ∷ filter q rows) (filter q rows)) (same row)

one : (literal : ℕ → Bool) (row : ℕ) (l s : Bool) (a b : List ℕ) → literal row ≡ l
    → a ≡ filter (λ r. not (literal r)) b
    → cond (cond l false (not s)) (row ∷ a) a ≡ filter (λ r. not (literal r)) (cond (not s) (row ∷ b) b)
one literal row true true a b is e = e
one literal row true false a b is e =
    e ∙ sym (ap (λ k. cond (not k) (row ∷ filter (λ r. not (literal r)) b) (filter (λ r. not (literal r)) b)) is)
one literal row false true a b is e = e
one literal row false false a b is e =
    ap (λ l. row ∷ l) e
    ∙ sym (ap (λ k. cond (not k) (row ∷ filter (λ r. not (literal r)) b) (filter (λ r. not (literal r)) b)) is)

two_filters : (literal static : ℕ → Bool) (rows : List ℕ)
    → filter (λ row. cond (literal row) false (not (static row))) rows
    ≡ filter (λ row. not (literal row)) (filter (λ row. not (static row)) rows)
two_filters literal static [] = refl
two_filters literal static (row ∷ rows) =
    one literal row (literal row) (static row) (filter (λ r. cond (literal r) false (not (static r))) rows)
    (filter (λ r. not (static r)) rows) refl (two_filters literal static rows)

kinds : (l s : Bool) → cond l false s ≡ s && not l
kinds true true = refl
kinds true false = refl
kinds false true = refl
kinds false false = refl

module _ (world : World) (id : TypeId) where
  abbrev rows : List ℕ
  rows = fields_of (tables_at world id.module) id.row

  abbrev literal : ℕ → Bool
  literal row = is_literal (tables_at world id.module) row

  abbrev static : ℕ → Bool
  static row = is_static_field (tables_at world id.module) row

  instances : placed_among world id false rows ≡ placed_fields world id
  instances = ap (map (field_row world id)) (two_filters literal static rows)

  statics : placed_among world id true rows ≡ static_fields world id
  statics =
      ap (map (field_row world id))
      (same_filter (λ row. cond (literal row) false (static row)) (λ row. static row && not (literal row)) rows
      (λ row. kinds (literal row) (static row)))

  pub fields_told : (result : Result (List FieldRow) Memory)
      → IfOk result (λ found. found ≡ placed_among world id false rows)
      → IfOk result (λ found. found ≡ placed_fields world id)
  fields_told result told = subst (λ l. IfOk result (λ found. found ≡ l)) instances told

  pub statics_told : (result : Result (List FieldRow) Memory)
      → IfOk result (λ found. found ≡ placed_among world id true rows)
      → IfOk result (λ found. found ≡ static_fields world id)
  statics_told result told = subst (λ l. IfOk result (λ found. found ≡ l)) statics told

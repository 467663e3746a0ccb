-- A token by its table and its row.
use Rattle.std.proofs.Common.{◌≡◌, ◌∙◌, ◌+◌, ◌*◌, ◌/◌, ◌%◌, ◌^◌, ◌==◌, ℕ, Bool, true, false, cond, List, Result, Err, ap, sym}
use Rattle.std.proofs.Common.{subst, arith}
use Rattle.ty_terms.specs.declared.ty.Ty.{Ty}
use Rattle.ty_load.specs.declared.fault.ResolveFault.{ResolveFault}
use Rattle.ty_load.specs.declared.fault.ResolveFault.TheVariants.{Unresolved}
use Rattle.ty_load.specs.declared.fault.TypeFault.{TypeFault}
use Rattle.ty_load.specs.declared.item.Item.{Item}
use Rattle.ty_load.specs.Refusals.{refused_name}
use Rattle.ty_load.specs.Told.{IsToldIn, row_name}
use Rattle.ty_load.specs.Tokens.{has_row, resolution, row_by, text_by}
use Rattle.ty_names.specs.declared.cells.RowOf.{RowOf}
use Rattle.ty_names.specs.Modules.{World}

abbrev pub index_of : ℕ → RowOf
index_of token = record { table = token / 2 ^ 24; row = token % 2 ^ 24 }

whole : (token : ℕ) → (token / 2 ^ 24) * 2 ^ 24 + token % 2 ^ 24 ≡ token
whole token = omega arith

module _ (world : World) (number token : ℕ) (owner method : List Ty) (result : Result Item TypeFault) where
  named : row_name world number (index_of token) ≡ refused_name world number token
  named = ap (refused_name world number) (whole token)

  pub told_text : (token / 2 ^ 24 == 0x70) ≡ true
      → IsToldIn world result (text_by world number (row_name world number (index_of token)) (token % 2 ^ 24))
      → IsToldIn world result (resolution world number token owner method)
  unfolding resolution
  told_text is h =
      let name : List ℕ = refused_name world number token in
      subst (IsToldIn world result)
      (ap (λ n. text_by world number n (token % 2 ^ 24)) named
      ∙ sym (ap (λ b. cond b (text_by world number name (token % 2 ^ 24))
      (cond (has_row world number (index_of token)) (row_by world number name owner method (index_of token))
      (Err (Unresolved name)))) is)) h

  pub told_row : (token / 2 ^ 24 == 0x70) ≡ false → has_row world number (index_of token) ≡ true
      → IsToldIn world result (row_by world number (row_name world number (index_of token)) owner method (index_of token))
      → IsToldIn world result (resolution world number token owner method)
  unfolding resolution
  told_row other there h =
      let name : List ℕ = refused_name world number token in
      let row : Result Item ResolveFault = row_by world number name owner method (index_of token) in
      subst (IsToldIn world result)
      (ap (λ n. row_by world number n owner method (index_of token)) named
      ∙ (sym (ap (λ b. cond b row (Err (Unresolved name))) there)
      ∙ sym (ap (λ b. cond b (text_by world number name (token % 2 ^ 24))
      (cond (has_row world number (index_of token)) row (Err (Unresolved name)))) other))) h

module _ (world : World) (number token : ℕ) (owner method : List Ty) where
  pub told_nothing : (token / 2 ^ 24 == 0x70) ≡ false → has_row world number (index_of token) ≡ false
      → Err (Unresolved (row_name world number (index_of token))) ≡ resolution world number token owner method
  unfolding resolution
  told_nothing other missing =
      let name : List ℕ = refused_name world number token in
      let row : Result Item ResolveFault = row_by world number name owner method (index_of token) in
      ap (λ (n : List ℕ). Err (Unresolved n)) (ap (refused_name world number) (whole token))
      ∙ (sym (ap (λ b. cond b row (Err (Unresolved name))) missing)
      ∙ sym (ap (λ b. cond b (text_by world number name (token % 2 ^ 24))
      (cond (has_row world number (index_of token)) row (Err (Unresolved name)))) other))

-- The fields of a type that is loaded lie apart, aligned and within it.
use Rattle.std.proofs.Common.{◌≡◌, ◌≢◌, ◌⊎◌, ℕ, ◌+◌, ◌%◌, ◌<◌, ◌≤◌, List, length, Some, inl, inr, sym, ap, subst}
use Rattle.std.proofs.lemmas.Bool.{cases_order}
use Rattle.std.proofs.lemmas.Option.{slice_get-get_or}
use Rattle.std.specs.Prelude.{slice_get, slice_index_or, unwrap_or}
use Rattle.ty_terms.specs.declared.ty.Ty.{Ty}
use Rattle.ty_layout.specs.declared.field.Field.{Field}
use Rattle.ty_layout.specs.Fields.{AreApart, AreLaid, bytes_of}
use Rattle.cli_layout.specs.declared.rows.Loaded.{Loaded}
use Rattle.cli_layout.specs.declared.rows.TypeLayout.{TypeLayout}
use Rattle.cli_layout.specs.Extents.{reference}
use Rattle.cli_layout.specs.Loading.{IsLoaded, field_or, layout_or, place_or}
use Rattle.cli_layout.specs.Types.{bare}

abbrev pub field_at : TypeLayout → ℕ → Field
field_at layout n = slice_index_or layout.fields n reference

abbrev pub place_at : TypeLayout → ℕ → ℕ
place_at layout n = slice_index_or layout.laid.places n 0

module _ (layout : TypeLayout) (laid : AreLaid layout.fields layout.laid) where
  has_field : (n : ℕ) → n < length layout.fields → slice_get layout.fields n ≡ Some (field_at layout n)
  has_field n h = slice_get-get_or layout.fields n reference h

  has_place : (n : ℕ) → n < length layout.fields → slice_get layout.laid.places n ≡ Some (place_at layout n)
  has_place n h = slice_get-get_or layout.laid.places n 0 (subst (λ k. n < k) (sym laid.count) h)

  in_order : (i j : ℕ) → i < length layout.fields → j < length layout.fields → i < j
      → place_at layout i + (field_at layout i).size ≤ place_at layout j
  in_order i j hi hj less =
      laid.in_order i j (field_at layout i) (field_at layout j) (place_at layout i) (place_at layout j) (has_field i hi)
      (has_place i hi) (has_field j hj) (has_place j hj) less

  apart_if : (i j : ℕ) → i < length layout.fields → j < length layout.fields → i ≢ j
      → (i ≡ j) ⊎ ((i < j) ⊎ (j < i))
      → AreApart (place_at layout i) (field_at layout i).size (place_at layout j) (field_at layout j).size
  apart_if i j hi hj other (inl same) = absurd (other same)
  apart_if i j hi hj other (inr (inl less)) = inl (in_order i j hi hj less)
  apart_if i j hi hj other (inr (inr more)) = inr (in_order j i hj hi more)

  pub apart : (i j : ℕ) → i < length layout.fields → j < length layout.fields → i ≢ j
      → AreApart (place_at layout i) (field_at layout i).size (place_at layout j) (field_at layout j).size
  apart i j hi hj other = apart_if i j hi hj other (cases_order i j)

  pub aligned_at : (i : ℕ) → i < length layout.fields → place_at layout i % bytes_of (field_at layout i).alignment ≡ 0
  aligned_at i h = laid.aligned i (field_at layout i) (place_at layout i) (has_field i h) (has_place i h)

  pub within_at : (i : ℕ) → i < length layout.fields
      → place_at layout i + (field_at layout i).size ≤ layout.laid.size
  within_at i h = laid.within i (field_at layout i) (place_at layout i) (has_field i h) (has_place i h)

module _ (types : List Loaded) (ty : Ty) where
  is_it : (known : IsLoaded types ty) → known.layout ≡ layout_or types ty
  is_it known = sym (ap (λ found. unwrap_or found (bare 0)) known.found)

  are_laid : IsLoaded types ty → AreLaid (layout_or types ty).fields (layout_or types ty).laid
  are_laid known = subst (λ layout. AreLaid layout.fields layout.laid) (is_it known) known.laid

pub are_disjoint : (types : List Loaded) (ty : Ty) (i j : ℕ) → IsLoaded types ty
    → i < length (layout_or types ty).fields → j < length (layout_or types ty).fields → i ≢ j
    → AreApart (place_or types ty i) (field_or types ty i).size (place_or types ty j) (field_or types ty j).size
are_disjoint types ty i j known = apart (layout_or types ty) (are_laid types ty known) i j

pub are_aligned : (types : List Loaded) (ty : Ty) (i : ℕ) → IsLoaded types ty
    → i < length (layout_or types ty).fields → place_or types ty i % bytes_of (field_or types ty i).alignment ≡ 0
are_aligned types ty i known = aligned_at (layout_or types ty) (are_laid types ty known) i

pub are_within : (types : List Loaded) (ty : Ty) (i : ℕ) → IsLoaded types ty
    → i < length (layout_or types ty).fields
    → place_or types ty i + (field_or types ty i).size ≤ (layout_or types ty).laid.size
are_within types ty i known = within_at (layout_or types ty) (are_laid types ty known) i

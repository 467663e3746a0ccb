-- Fields that lie one behind another.
use Rattle.std.specs.Prelude.{◌≡◌, ◌⊎◌, ℕ, ◌+◌, ◌%◌, ◌<◌, ◌≤◌, max, List, [], ◌∷◌, length, slice_get, Some}
use Rattle.std.specs.Int.{next_multiple_of}
use Rattle.ty_layout.specs.declared.field.Alignment.{Alignment}
use Rattle.ty_layout.specs.declared.field.Alignment.TheVariants.{One, Two, Four, Eight}
use Rattle.ty_layout.specs.declared.field.Field.{Field}
use Rattle.ty_layout.specs.declared.laid.Laid.{Laid}

abbrev pub bytes_of : Alignment → ℕ
bytes_of One = 1
bytes_of Two = 2
bytes_of Four = 4
bytes_of Eight = 8

-- the place of a field behind others that end at a place: the next multiple of its alignment
abbrev pub place_of : ℕ → Field → ℕ
place_of at field = next_multiple_of at (bytes_of field.alignment)

-- the places of fields that begin behind a place, in declared order
abbrev pub places : ℕ → List Field → List ℕ
places at [] = []
places at (field ∷ rest) = place_of at field ∷ places (place_of at field + field.size) rest

-- the place behind them
abbrev pub end_of : ℕ → List Field → ℕ
end_of at [] = at
end_of at (field ∷ rest) = end_of (place_of at field + field.size) rest

-- the greatest alignment of fields, or 1 without fields
abbrev pub alignment_of : List Field → ℕ
alignment_of [] = 1
alignment_of (field ∷ rest) = max (bytes_of field.alignment) (alignment_of rest)

-- bytes from a place on, and others from another place on, have none in common
abbrev pub AreApart : ℕ → ℕ → ℕ → ℕ → Type 0
AreApart at size at' size' = (at + size ≤ at') ⊎ (at' + size' ≤ at)

-- Fields lie in declared order, so that no two have a byte in common, each at a multiple of its alignment and within
-- the whole.
pub record AreLaid (fields : List Field) (laid : Laid) : Type 0 where
  pub count : length laid.places ≡ length fields
  pub in_order : (i j : ℕ) (f g : Field) (p q : ℕ)
      → slice_get fields i ≡ Some f → slice_get laid.places i ≡ Some p
      → slice_get fields j ≡ Some g → slice_get laid.places j ≡ Some q
      → i < j → p + f.size ≤ q
  pub aligned : (i : ℕ) (f : Field) (p : ℕ)
      → slice_get fields i ≡ Some f → slice_get laid.places i ≡ Some p → p % bytes_of f.alignment ≡ 0
  pub within : (i : ℕ) (f : Field) (p : ℕ)
      → slice_get fields i ≡ Some f → slice_get laid.places i ≡ Some p → p + f.size ≤ laid.size

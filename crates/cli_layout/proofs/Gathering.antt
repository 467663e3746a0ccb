-- Fields that are known so far, in front of those behind.
use Rattle.std.proofs.Common.{◌≡◌, ℕ, Bool, true, false, List, [], ◌∷◌, ◌++◌, Result, Ok, Err, refl, ap, sym}
use Rattle.std.proofs.Common.{append_assoc}
use Rattle.ty_terms.specs.declared.names.TypeId.{TypeId}
use Rattle.ty_layout.specs.declared.field.Field.{Field}
use Rattle.cli_layout.specs.declared.extent.Unlaid.{Unlaid}
use Rattle.cli_layout.specs.declared.extent.Unlaid.TheVariants.{TooLarge, NoBase, NoField}
use Rattle.cli_layout.specs.Extents.{both}

-- what is known of those in front
abbrev pub front : List Field → Bool → Result (List Field) Unlaid
front fields true = Err TooLarge
front fields false = Ok fields

abbrev pub gathered : List Field → Bool → Result (List Field) Unlaid → Result (List Field) Unlaid
gathered fields large rest = both (λ done more. done ++ more) (front fields large) rest

pub one_more : (fields : List Field) (large : Bool) (field : Field) (rest : Result (List Field) Unlaid)
    → gathered fields large (both (λ f fs. f ∷ fs) (Ok field) rest) ≡ gathered (fields ++ (field ∷ [])) large rest
one_more fields false field (Ok rest) = ap (λ l. Ok l) (sym (append_assoc fields (field ∷ []) rest))
one_more fields false field (Err unlaid) = refl
one_more fields true field (Ok rest) = refl
one_more fields true field (Err unlaid) = refl

pub too_large : (fields : List Field) (large : Bool) (rest : Result (List Field) Unlaid)
    → gathered fields large (both (λ f fs. f ∷ fs) (Err TooLarge) rest) ≡ gathered fields true rest
too_large fields false (Ok rest) = refl
too_large fields false (Err unlaid) = refl
too_large fields true (Ok rest) = refl
too_large fields true (Err unlaid) = refl

pub no_base : (fields : List Field) (large : Bool) (id : TypeId) (rest : Result (List Field) Unlaid)
    → gathered fields large (both (λ f fs. f ∷ fs) (Err (NoBase id)) rest) ≡ Err (NoBase id)
no_base fields false id rest = refl
no_base fields true id rest = refl

pub no_field : (fields : List Field) (large : Bool) (id : TypeId) (row : ℕ) (rest : Result (List Field) Unlaid)
    → gathered fields large (both (λ f fs. f ∷ fs) (Err (NoField id row)) rest) ≡ Err (NoField id row)
no_field fields false id row rest = refl
no_field fields true id row rest = refl

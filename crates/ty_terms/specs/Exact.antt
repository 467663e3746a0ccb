-- Orders and tests that tell any two values apart.
use Rattle.std.specs.Prelude.{◌≡◌, ◌↔◌, Bool, IsTrue}
use Rattle.std.specs.declared.cmp.Ordering.{Ordering}
use Rattle.std.specs.declared.cmp.Ordering.TheVariants.{Equal}
use Rattle.std.specs.Cmp.{IsTotalOrder}

-- a total order that answers `Equal` exactly at one and the same value
pub record IsExactOrder {A : Type 0} (cmp : A → A → Ordering) : Type 0 where
  pub total : IsTotalOrder cmp
  pub exact : (a b : A) → (cmp a b ≡ Equal) ↔ (a ≡ b)

-- a test that holds exactly at one and the same value
abbrev pub IsEquality : {A : Type 0} → (A → A → Bool) → Type 0
IsEquality {A} eq = (a b : A) → IsTrue (eq a b) ↔ (a ≡ b)

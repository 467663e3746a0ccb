-- Laws of what is known of a stack.
use Rattle.std.proofs.Common.{◌≡◌, ℕ, Bool, true, false, cond, nat_eq, eq-eqb, refl, ap, subst, Option}
use Rattle.il_code.specs.declared.operation.Operation.{Operation}
use Rattle.ilc_build.specs.Depths.{join, IsBelow, passed_on}
use Rattle.ilc_build.specs.declared.depths.Known.{Known}
use Rattle.ilc_build.specs.declared.depths.Known.TheVariants.{Nothing, Depth, Clash}

pub below-refl : (k : Known) → IsBelow k k
below-refl Nothing = refl
below-refl (Depth d) = ap (λ b. cond b (Depth d) Clash) (eq-eqb d d refl)
below-refl Clash = refl

pub nothing-is_below : (k : Known) → IsBelow Nothing k
nothing-is_below k = refl

pub below-clash : (k : Known) → IsBelow k Clash
below-clash Nothing = refl
below-clash (Depth d) = refl
below-clash Clash = refl

-- the one tells nothing, or the other all, or they tell the same
pub data Ways : Known → Known → Type 0 where
  IsNothing : (k : Known) → Ways Nothing k
  IsAll : (k : Known) → Ways k Clash
  IsSame : (k : Known) → Ways k k

equal_depths : (b : Bool) (d e : ℕ) → cond b (Depth d) Clash ≡ Depth e → d ≡ e
equal_depths true d e h = cc
equal_depths false d e h = cc

pub ways : (k k' : Known) → IsBelow k k' → Ways k k'
ways Nothing k' h = IsNothing k'
ways (Depth d) Nothing h = cc
ways (Depth d) (Depth e) h = subst (λ n. Ways (Depth d) (Depth n)) (equal_depths (nat_eq d e) d e h) (IsSame (Depth d))
ways k Clash h = IsAll k
ways Clash Nothing h = cc
ways Clash (Depth e) h = cc

pub below-trans : (a b c : Known) → IsBelow a b → IsBelow b c → IsBelow a c
below-trans a b c h h' = by a b c (ways a b h) h'
  where
    by : (a b c : Known) → Ways a b → IsBelow b c → IsBelow a c
    by _ b c (IsNothing _) h = nothing-is_below c
    by a _ c (IsAll _) h = clash a c (ways Clash c h)
      where
        clash : (a c : Known) → Ways Clash c → IsBelow a c
        clash a _ (IsAll _) = below-clash a
        clash a _ (IsSame _) = below-clash a
    by a _ c (IsSame _) h = h

pub below-join_left : (a b : Known) → IsBelow a (join a b)
below-join_left Nothing b = refl
below-join_left (Depth d) Nothing = below-refl (Depth d)
below-join_left (Depth d) (Depth e) = by (nat_eq d e)
  where
    by : (b : Bool) → IsBelow (Depth d) (cond b (Depth d) Clash)
    by true = below-refl (Depth d)
    by false = refl
below-join_left (Depth d) Clash = refl
below-join_left Clash b = refl

pub below-passed : (a b : Known) (o : Option Operation) → IsBelow a b → IsBelow (passed_on a o) (passed_on b o)
below-passed a b o h = by a b (ways a b h)
  where
    by : (a b : Known) → Ways a b → IsBelow (passed_on a o) (passed_on b o)
    by _ b (IsNothing _) = nothing-is_below (passed_on b o)
    by a _ (IsAll _) = below-clash (passed_on a o)
    by a _ (IsSame _) = below-refl (passed_on a o)

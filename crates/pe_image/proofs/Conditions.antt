-- Conditions one behind another.
use Rattle.std.proofs.Common.{◌≡◌, Bool, true, false, cond, List, [], ◌∷◌, ◌++◌, Option, Some, None, refl}
use Rattle.pe_image.specs.Conditions.{Condition, first_fault}
use Rattle.pe_image.specs.declared.fault.PeFault.{PeFault}

-- a condition that holds in front of others that hold
pub first_held : (b : Bool) (fault : PeFault) (x : Option PeFault) → cond b x (Some fault) ≡ None
    → (b ≡ true) × (x ≡ None)
first_held true fault x h = (refl, h)
first_held false fault x h = cc

-- where the first conditions hold, those behind them decide
pub passes : (a b : List Condition) → first_fault a ≡ None → first_fault (a ++ b) ≡ first_fault b
passes [] b h = refl
passes (c ∷ a) b h =
    let both : (c.0 ≡ true) × (first_fault a ≡ None) = first_held c.0 c.1 (first_fault a) h in
    rw both.0 (passes a b both.1)

-- the first that doesn't hold decides
stops-by : (t : Bool) (fault f : PeFault) (x y : Option PeFault) → (x ≡ Some f → y ≡ Some f)
    → cond t x (Some fault) ≡ Some f → cond t y (Some fault) ≡ Some f
stops-by true fault f x y step h = step h
stops-by false fault f x y step h = h

pub stops : (a b : List Condition) (fault : PeFault) → first_fault a ≡ Some fault → first_fault (a ++ b) ≡ Some fault
stops [] b fault h = cc
stops (c ∷ a) b fault h = stops-by c.0 c.1 fault (first_fault a) (first_fault (a ++ b)) (stops a b fault) h

-- How far a table of what is known has come, and that a row that is raised brings it on.
use Rattle.std.proofs.Common.{◌≡◌, ◌≢◌, ◌∙◌, ◌⊎◌, inl, inr, ℕ, zero, suc, ◌+◌, ◌*◌, ◌<◌, ◌≤◌, nat_le, Option, Some}
use Rattle.std.proofs.Common.{None, Bool, true, false, cond, nat_eq, List, [], ◌∷◌, length, slice_set, get_or-set_same}
use Rattle.std.proofs.Common.{get_or-set_other, refl, ap, sym, subst, arith}
use Rattle.std.proofs.Math.ListN.{set, length-set}
use Rattle.std.proofs.lemmas.Bool.{leb-true}
use Rattle.il_code.specs.declared.operation.Operation.{Operation}
use Rattle.il_code.specs.declared.operation.Operation.TheVariants.{NoOperation, Constant, Duplicate, Discard, Binary}
use Rattle.il_code.specs.declared.operation.Operation.TheVariants.{Branch, BranchIfTrue, Return}
use Rattle.ilc_build.specs.Typing.{takes, depth_behind}
use Rattle.ilc_build.specs.Depths.{join, passed_on, row, IsBelow}
use Rattle.ilc_build.specs.Raising.{rank, ranks, IsShallow, AreShallow, Raised}
use Rattle.ilc_build.specs.declared.depths.Known.{Known}
use Rattle.ilc_build.proofs.Knowing.{below-join_left, below-refl}
use Rattle.ilc_build.specs.declared.depths.Known.TheVariants.{Nothing, Depth, Clash}

ranks-set : (table : List Known) (n : ℕ) (k : Known) → n < length table
    → ranks (set table n k) + rank (row table n) ≡ ranks table + rank k
ranks-set [] n k h = absurd (omega (arith, h))
ranks-set (x ∷ table) zero k h = omega arith
ranks-set (x ∷ table) (suc n) k h =
    let below : n < length table = omega (arith, h) in
    omega (arith, ranks-set table n k below)

-- what tells more has a higher rank
rises_by : (b : Bool) (d : ℕ) → cond b (Depth d) Clash ≢ Depth d → 1 < rank (cond b (Depth d) Clash)
rises_by true d ne = absurd (ne refl)
rises_by false d ne = omega arith

rises : (a b : Known) → join a b ≢ a → rank a < rank (join a b)
rises Nothing Nothing ne = absurd (ne refl)
rises Nothing (Depth d) ne = omega arith
rises Nothing Clash ne = omega arith
rises (Depth d) Nothing ne = absurd (ne refl)
rises (Depth d) (Depth e) ne = rises_by (nat_eq d e) d ne
rises (Depth d) Clash ne = omega arith
rises Clash b ne = absurd (ne refl)

pub shallow-more : (m n : ℕ) (k : Known) → m ≤ n → IsShallow m k → IsShallow n k
shallow-more m n Nothing h s = tt
shallow-more m n (Depth d) h s = let less : d ≤ m = s in omega (arith, less, h)
shallow-more m n Clash h s = tt

shallow-by : (b : Bool) (n d : ℕ) → d ≤ n → IsShallow n (cond b (Depth d) Clash)
shallow-by true n d h = h
shallow-by false n d h = tt

shallow-join : (n : ℕ) (a b : Known) → IsShallow n a → IsShallow n b → IsShallow n (join a b)
shallow-join n Nothing b s s' = s'
shallow-join n (Depth d) Nothing s s' = s
shallow-join n (Depth d) (Depth e) s s' = shallow-by (nat_eq d e) n d s
shallow-join n (Depth d) Clash s s' = tt
shallow-join n Clash b s s' = tt

same_or_other : (n m : ℕ) → (n ≡ m) ⊎ (n ≢ m)
same_or_other n m = grind arith

-- A row tells more than before.
pub raised-row : (table : List Known) (index : ℕ) (known : Known) → index < length table → AreShallow table
    → IsShallow (ranks table + 1) known → join (row table index) known ≢ row table index
    → Raised table (slice_set table index (join (row table index) known)) true
raised-row table index known inside shallow fits ne =
    let joined : Known = join (row table index) known in
    let new : List Known = slice_set table index joined in
    let more : ranks table < ranks new =
    omega (arith, ranks-set table index joined inside, rises (row table index) known ne) in
    record {
      size = length-set table index joined;
      same = λ e. cc;
      more = λ e. more;
      grows = λ n. elim (same_or_other n index) [
        | inl e ↦ subst (λ m. IsBelow (row table m) (row new m)) (sym e)
            (subst (IsBelow (row table index)) (sym (get_or-set_same table index joined Nothing inside))
            (below-join_left (row table index) known))
        | inr ne' ↦ subst (IsBelow (row table n)) (sym (get_or-set_other table index n joined Nothing ne'))
            (below-refl (row table n))
      ];
      shallow = λ n. elim (same_or_other n index) [
        | inl e ↦ subst (λ k. IsShallow (ranks new) k)
            (sym (ap (row new) e ∙ get_or-set_same table index joined Nothing inside))
            (shallow-join (ranks new) (row table index) known
            (shallow-more (ranks table) (ranks new) (row table index) (omega (arith, more)) (shallow index))
            (shallow-more (ranks table + 1) (ranks new) known (omega (arith, more)) fits))
        | inr ne' ↦ subst (λ k. IsShallow (ranks new) k) (sym (get_or-set_other table index n joined Nothing ne'))
            (shallow-more (ranks table) (ranks new) (row table n) (omega (arith, more)) (shallow n))
      ];
    }

pub not-raised : (table : List Known) → AreShallow table → Raised table table false
not-raised table shallow = record {
  size = refl;
  same = λ e. refl;
  more = λ e. cc;
  grows =
      λ n. below-refl (row table n);
  shallow = shallow;
}

-- a row has a rank of two at most
pub ranks-bound : (table : List Known) → ranks table ≤ 2 * length table
ranks-bound [] = omega arith
ranks-bound (Nothing ∷ table) = omega (arith, ranks-bound table)
ranks-bound (Depth d ∷ table) = omega (arith, ranks-bound table)
ranks-bound (Clash ∷ table) = omega (arith, ranks-bound table)

shallow-by_test : (b : Bool) (n d d' : ℕ) → (b ≡ true → d' ≤ n) → IsShallow n (cond b (Depth d') Clash)
shallow-by_test true n d d' h = h refl
shallow-by_test false n d d' h = tt

one_deeper : (d : ℕ) (operation : Operation) → takes operation ≤ d → depth_behind d operation ≤ d + 1
one_deeper d NoOperation h = omega arith
one_deeper d (Constant n) h = omega arith
one_deeper d Duplicate h = let less : 1 ≤ d = h in omega (arith, less)
one_deeper d Discard h = omega arith
one_deeper d (Binary does) h = omega arith
one_deeper d (Branch target) h = omega arith
one_deeper d (BranchIfTrue target) h = omega arith
one_deeper d Return h = omega arith

-- an operation makes the stack deeper by one at most
pub shallow-passed : (n : ℕ) (k : Known) (o : Option Operation) → IsShallow n k → IsShallow (n + 1) (passed_on k o)
shallow-passed n Nothing o s = tt
shallow-passed n (Depth d) None s = tt
shallow-passed n (Depth d) (Some operation) s =
    let less : d ≤ n = s in
    shallow-by_test (nat_le (takes operation) d) (n + 1) d (depth_behind d operation)
    (λ e. omega (arith, less, one_deeper d operation (leb-true _ _ e)))
shallow-passed n Clash o s = tt

-- Tables that are raised so that they tell something at some offsets.
use Rattle.std.proofs.Common.{◌≡◌, ◌∙◌, ℕ, ◌<◌, ◌≤◌, Bool, true, false, ◌||◌, List, [], ◌∷◌, ◌++◌, length, Some}
use Rattle.std.proofs.Common.{slice_get, refl, ap, sym, subst, arith}
use Rattle.std.proofs.Math.Seq.{take-append_seam, drop-append_seam}
use Rattle.std.proofs.lemmas.List.Elements.{All-append, All-take, All-drop, All-nil, All-push}
use Rattle.il_code.specs.declared.body.Instr.{Instr}
use Rattle.ilc_build.specs.Depths.{AllBelow, IsClosedAt, IsSolution, IsBelow, known_at, leads_to, passed_on, row}
use Rattle.ilc_build.specs.Raising.{AreShallow, IsTold, Raised, Tells, ranks}
use Rattle.ilc_build.specs.declared.depths.Known.{Known}
use Rattle.il_code.specs.Operations.{operation_of}
use Rattle.ilc_build.proofs.Knowing.{below-trans, below-passed}
use Rattle.ilc_build.proofs.Rising.{not-raised}
use Rattle.ilc_build.proofs.Rows.{known_at-grows}

-- no rank falls
pub ranks-kept : (old new : List Known) (any : Bool) → Raised old new any → ranks old ≤ ranks new
ranks-kept old new true raised = omega (arith, raised.more refl)
ranks-kept old new false raised = omega (arith, ap ranks (raised.same refl))

pub either_false : (a b : Bool) → (a || b) ≡ false → (a ≡ false) × (b ≡ false)
either_false false b e = (refl, e)
either_false true b e = cc

raised_more : (old mid new : List Known) (a b : Bool) → Raised old mid a → Raised mid new b → (a || b) ≡ true
    → ranks old < ranks new
raised_more old mid new true b r r' e = omega (arith, r.more refl, ranks-kept mid new b r')
raised_more old mid new false b r r' e = omega (arith, ap ranks (r.same refl), r'.more e)

pub raised-both : (old mid new : List Known) (a b : Bool) → Raised old mid a → Raised mid new b
    → Raised old new (a || b)
raised-both old mid new a b r r' =
    record {
      size = r'.size ∙ r.size;
      same = λ e. let both = either_false a b e in r'.same both.1 ∙ r.same both.0;
      more = raised_more old mid new a b r r';
      grows = λ n. below-trans (row old n) (row mid n) (row new n) (r.grows n) (r'.grows n);
      shallow = r'.shallow;
    }

pub told-both : (instrs : List Instr) (known : Known) (first second : List ℕ) (old mid new : List Known) (a b : Bool)
    → IsTold instrs known first old mid a → IsTold instrs known second mid new b
    → IsTold instrs known (first ++ second) old new (a || b)
told-both instrs known first second old mid new a b t t' =
    record {
      raised = raised-both old mid new a b t.raised t'.raised;
      told = All-append (λ o. IsBelow known (known_at instrs new o)) first second
          (λ k d h. below-trans known _ _ (t.told k d h)
          (known_at-grows instrs mid new _ t'.raised.size t'.raised.grows)) t'.told;
      below = λ other size below tells.
          t'.below other size
          (t.below other size below (subst (λ offsets. Tells instrs other known offsets) (take-append_seam first second)
          (All-take (λ o. IsBelow known (known_at instrs other o)) (length first) (first ++ second) tells)))
          (subst (λ offsets. Tells instrs other known offsets) (drop-append_seam first second)
          (All-drop (λ o. IsBelow known (known_at instrs other o)) (length first) (first ++ second) tells));
    }

pub told-nothing : (instrs : List Instr) (known : Known) (table : List Known) → AreShallow table
    → IsTold instrs known [] table table false
told-nothing instrs known table shallow =
    record {
      raised = not-raised table shallow;
      told = All-nil _;
      below = λ other size below tells. below;
    }

pub told-one : (instrs : List Instr) (known : Known) (offset : ℕ) (old new : List Known) (any : Bool)
    → Raised old new any → IsBelow known (known_at instrs new offset)
    → ((other : List Known) → length other ≡ length instrs → AllBelow old other
    → IsBelow known (known_at instrs other offset) → AllBelow new other) → IsTold instrs known (offset ∷ []) old new any
told-one instrs known offset old new any raised tells below =
    record {
      raised = raised;
      told = All-push (λ o. IsBelow known (known_at instrs new o)) [] offset (All-nil _) tells;
      below = λ other size within all. below other size within (all 0 offset (omega arith));
    }

-- what the table tells more than before is no more than a solution tells
pub told-below : (instrs : List Instr) (i : Instr) (n : ℕ) (known : Known) (old new other : List Known) (any : Bool)
    → n < length instrs → slice_get instrs n ≡ Some i → known ≡ passed_on (row old n) (operation_of i.op i.operand)
    → IsTold instrs known (leads_to i) old new any → IsSolution instrs other → AllBelow old other → AllBelow new other
told-below instrs i n known old new other any inside there is told solution within =
    told.below other solution.size within
    (λ k d h. below-trans known (passed_on (row other n) (operation_of i.op i.operand)) _
    (subst (λ x. IsBelow x (passed_on (row other n) (operation_of i.op i.operand))) (sym is)
    (below-passed (row old n) (row other n) (operation_of i.op i.operand) (within n)))
    (solution.closed n inside i there k d h))

-- where no row was raised, the table tells it at each offset
pub told-closed : (instrs : List Instr) (i : Instr) (n : ℕ) (known : Known) (old new : List Known) (any : Bool)
    → slice_get instrs n ≡ Some i → known ≡ passed_on (row old n) (operation_of i.op i.operand)
    → IsTold instrs known (leads_to i) old new any → any ≡ false → IsClosedAt instrs new n
told-closed instrs i n known old new any there is told none = λ j e.
    let same : Some i ≡ Some j = sym there ∙ e in
    let i-is : i ≡ j = cc in
    let known' : known ≡ passed_on (row new n) (operation_of i.op i.operand) = is
    ∙ ap (λ table. passed_on (row table n) (operation_of i.op i.operand)) (sym (told.raised.same none)) in
    subst (λ j. Tells instrs new (passed_on (row new n) (operation_of j.op j.operand)) (leads_to j)) i-is
    (subst (λ x. Tells instrs new x (leads_to i)) known' told.told)

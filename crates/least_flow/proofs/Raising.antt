-- Tables whose rows are raised so that they tell some facts.
use Rattle.std.proofs.Common.{◌≡◌, ◌⊎◌, inl, inr, ◌≢◌, ◌∙◌, ℕ, ◌+◌, ◌<◌, ◌≤◌, Bool, true, false, List, [], ◌∷◌, ◌++◌}
use Rattle.std.proofs.Common.{length, Option, Some, None, All, Contains, get_or-set_same, get_or-set_other, refl, ap}
use Rattle.std.proofs.Common.{sym, subst, arith}
use Rattle.std.proofs.Math.ListN.{set, length-set}
use Rattle.std.proofs.lemmas.List.{length_push}
use Rattle.std.proofs.lemmas.List.Elements.{All-nil, All-cons, All-head, All-tail, All-weaker, Contains-append_left}
use Rattle.std.proofs.lemmas.List.Elements.{Contains-push}
use Rattle.least_flow.specs.Solution.{row, IsRowBelow, Tells}
use Rattle.least_flow.specs.Telling.{height, heights, known_here, known_places, IfKnown, RowRaised, Told}
use Rattle.least_flow.proofs.Rows.{rows-refl, rows-trans, tells-grows, same_or_other, heights-set, known-set, if_known}

-- what is known in the row that was raised came over a way of no more places than there are with facts
within-row : {Fact : Type 0} (IsBelow : Fact → Fact → Type 0) (IsWithin : ℕ → Fact → Type 0) (rank : Fact → ℕ)
    → ((m n : ℕ) (a : Fact) → m ≤ n → IsWithin m a → IsWithin n a)
    → (fact : Fact) (old new : Option Fact) (raised : Bool) (k k' : ℕ)
    → RowRaised IsBelow IsWithin rank fact old new raised → k' + known_here old ≡ k + known_here new
    → IfKnown (IsWithin k) old → IsWithin (k + 1) fact → IfKnown (IsWithin k') new
within-row IsBelow IsWithin rank widens fact None None raised k k' r e h w = absurd r.told
within-row IsBelow IsWithin rank widens fact None (Some b) raised k k' r e h w = r.begun k' refl
    (widens (k + 1) k' fact (omega (arith, e)) w)
within-row IsBelow IsWithin rank widens fact (Some a) None raised k k' r e h w = absurd r.told
within-row IsBelow IsWithin rank widens fact (Some a) (Some b) raised k k' r e h w = widens k k' b (omega (arith, e))
    (r.joined k (k + 1) a refl h w)

-- the place waits, if its row was raised
abbrev pub IsNoted : Bool → ℕ → List ℕ → List ℕ → Type 0
IsNoted true place waiting waiting' = waiting' ≡ waiting ++ place ∷ []
IsNoted false place waiting waiting' = waiting' ≡ waiting

noted-waits : (raised : Bool) (place : ℕ) (waiting waiting' : List ℕ) → IsNoted raised place waiting waiting' → (p : ℕ)
    → Contains waiting p → Contains waiting' p
noted-waits true place waiting waiting' e p h = subst (λ w. Contains w p) (sym e)
    (Contains-append_left waiting (place ∷ []) p h)
noted-waits false place waiting waiting' e p h = subst (λ w. Contains w p) (sym e) h

noted-longer : (raised : Bool) (place : ℕ) (waiting waiting' : List ℕ) → IsNoted raised place waiting waiting'
    → length waiting ≤ length waiting'
noted-longer true place waiting waiting' e = omega (arith, ap length e, length_push waiting place)
noted-longer false place waiting waiting' e = omega (arith, ap length e)

noted-higher : {Fact : Type 0} (IsBelow : Fact → Fact → Type 0) (IsWithin : ℕ → Fact → Type 0) (rank : Fact → ℕ)
    (fact : Fact) (old new : Option Fact) (raised : Bool) (place h h' : ℕ) (waiting waiting' : List ℕ)
    → RowRaised IsBelow IsWithin rank fact old new raised → IsNoted raised place waiting waiting'
    → h' + height rank old ≡ h + height rank new → h + length waiting' ≤ h' + length waiting
noted-higher IsBelow IsWithin rank fact old new true place h h' waiting waiting' r e s = omega
    (arith, s, r.higher refl, ap length e, length_push waiting place)
noted-higher IsBelow IsWithin rank fact old new false place h h' waiting waiting' r e s = omega
    (arith, s, ap (height rank) (r.same refl), ap length e)

noted-changed : {Fact : Type 0} (IsBelow : Fact → Fact → Type 0) (IsWithin : ℕ → Fact → Type 0) (rank : Fact → ℕ)
    (fact : Fact) (old new : Option Fact) (raised : Bool) (place : ℕ) (waiting waiting' : List ℕ)
    → RowRaised IsBelow IsWithin rank fact old new raised → IsNoted raised place waiting waiting'
    → (new ≡ old) ⊎ Contains waiting' place
noted-changed IsBelow IsWithin rank fact old new true place waiting waiting' r e = inr
    (subst (λ w. Contains w place) (sym e) (Contains-push waiting place))
noted-changed IsBelow IsWithin rank fact old new false place waiting waiting' r e = inl (r.same refl)

-- one row is raised
pub told-one : {Fact : Type 0} (IsBelow : Fact → Fact → Type 0) (IsWithin : ℕ → Fact → Type 0) (rank : Fact → ℕ)
    → ((a : Fact) → IsBelow a a) → ((m n : ℕ) (a : Fact) → m ≤ n → IsWithin m a → IsWithin n a)
    → (place : ℕ) (fact : Fact) (table : List (Option Fact)) (new : Option Fact) (raised : Bool)
    (waiting waiting' : List ℕ) → place < length table
    → RowRaised IsBelow IsWithin rank fact (row table place) new raised → IsNoted raised place waiting waiting'
    → Told IsBelow IsWithin rank ((place, fact) ∷ []) table (set table place new) waiting waiting'
told-one {Fact} IsBelow IsWithin rank reflexive widens place fact table new raised waiting waiting' inside r noted =
    let table' : List (Option Fact) = set table place new in
    let here : row table' place ≡ new = get_or-set_same table place new None inside in
    let elsewhere : (n : ℕ) → n ≢ place
    → row table' n ≡ row table n = λ n ne. get_or-set_other table place n new None ne in
    let known : known_places table' + known_here (row table place) ≡ known_places table + known_here new =
    known-set table place new inside in
    let more : known_places table ≤ known_places table' = omega (arith, known, r.kept_known) in
    record {
      size = length-set table place new;
      told = All-cons (λ f. Tells IsBelow table' f.0 f.1) (place, fact) []
          (λ i. subst (λ x. IsRowBelow IsBelow (Some fact) x) (sym here) r.told)
          (All-nil (λ f. Tells IsBelow table' f.0 f.1));
      grows = λ n. elim (same_or_other n place) [
        | inl e ↦ subst (λ m. IsRowBelow IsBelow (row table m) (row table' m)) (sym e)
            (subst (λ x. IsRowBelow IsBelow (row table place) x) (sym here) r.grows)
        | inr ne ↦ subst (λ x. IsRowBelow IsBelow (row table n) x) (sym (elsewhere n ne))
            (rows-refl IsBelow reflexive (row table n))
      ];
      least = λ other size below all. λ n. elim (same_or_other n place) [
        | inl e ↦ subst (λ m. IsRowBelow IsBelow (row table' m) (row other m)) (sym e)
            (subst (λ x. IsRowBelow IsBelow x (row other place)) (sym here)
            (r.least (row other place) (below place)
            (All-head (λ f. Tells IsBelow other f.0 f.1) (place, fact) [] all (omega (arith, inside, size)))))
        | inr ne ↦ subst (λ x. IsRowBelow IsBelow x (row other n)) (sym (elsewhere n ne)) (below n)
      ];
      within = λ within all. λ n. elim (same_or_other n place) [
        | inl e ↦ subst (λ m. IfKnown (IsWithin (known_places table')) (row table' m)) (sym e)
            (subst (λ x. IfKnown (IsWithin (known_places table')) x) (sym here)
            (within-row IsBelow IsWithin rank widens fact (row table place) new raised (known_places table)
            (known_places table') r known (within place)
            (All-head (λ f. IsWithin (known_places table + 1) f.1) (place, fact) [] all)))
        | inr ne ↦ subst (λ x. IfKnown (IsWithin (known_places table')) x) (sym (elsewhere n ne))
            (if_known (IsWithin (known_places table)) (IsWithin (known_places table'))
            (λ a. widens (known_places table) (known_places table') a more) (row table n) (within n))
      ];
      higher = noted-higher IsBelow IsWithin rank fact (row table place) new raised place (heights rank table)
          (heights rank table') waiting waiting' r noted (heights-set rank table place new inside);
      longer = noted-longer raised place waiting waiting' noted;
      waits = noted-waits raised place waiting waiting' noted;
      changed = λ n. elim (same_or_other n place) [
        | inl e ↦ subst (λ m. (row table' m ≡ row table m) ⊎ Contains waiting' m) (sym e)
            (elim (noted-changed IsBelow IsWithin rank fact (row table place) new raised place waiting waiting' r noted)
            [ inl same ↦ inl (here ∙ same) | inr waits ↦ inr waits ])
        | inr ne ↦ inl (elsewhere n ne)
      ];
      kept_known = more;
    }

-- no row is raised
pub told-none : {Fact : Type 0} (IsBelow : Fact → Fact → Type 0) (IsWithin : ℕ → Fact → Type 0) (rank : Fact → ℕ)
    → ((a : Fact) → IsBelow a a) → (facts : List (ℕ × Fact)) (table : List (Option Fact)) (waiting : List ℕ)
    → All (λ f. Tells IsBelow table f.0 f.1) facts → ((m n : ℕ) (a : Fact) → m ≤ n → IsWithin m a → IsWithin n a)
    → Told IsBelow IsWithin rank facts table table waiting waiting
told-none IsBelow IsWithin rank reflexive facts table waiting all widens =
    record {
      size = refl;
      told = all;
      grows = λ n. rows-refl IsBelow reflexive (row table n);
      least = λ other size below tells. below;
      within = λ within tells. within;
      higher = omega arith;
      longer = omega arith;
      waits = λ p h. h;
      changed = λ p. inl refl;
      kept_known = omega arith;
    }

-- of a place that the table doesn't have nothing is told
pub told-outside : {Fact : Type 0} (IsBelow : Fact → Fact → Type 0) (place : ℕ) (fact : Fact)
    (table : List (Option Fact)) → length table ≤ place
    → All {X = ℕ × Fact} (λ f. Tells IsBelow table f.0 f.1) ((place, fact) ∷ [])
told-outside IsBelow place fact table past = All-cons (λ f. Tells IsBelow table f.0 f.1) (place, fact) []
    (λ inside. absurd (omega (arith, inside, past))) (All-nil _)

-- some facts are told, and then one more
pub told-more : {Fact : Type 0} (IsBelow : Fact → Fact → Type 0) (IsWithin : ℕ → Fact → Type 0) (rank : Fact → ℕ)
    → ((a b c : Fact) → IsBelow a b → IsBelow b c → IsBelow a c)
    → ((m n : ℕ) (a : Fact) → m ≤ n → IsWithin m a → IsWithin n a)
    → (x : ℕ × Fact) (facts : List (ℕ × Fact)) (old mid new : List (Option Fact)) (w w1 w2 : List ℕ)
    → Told IsBelow IsWithin rank facts old mid w w1 → Told IsBelow IsWithin rank (x ∷ []) mid new w1 w2
    → Told IsBelow IsWithin rank (x ∷ facts) old new w w2
told-more {Fact} IsBelow IsWithin rank transitive widens x facts old mid new w w1 w2 t t' =
    record {
      size = t'.size ∙ t.size;
      told = All-cons (λ f. Tells IsBelow new f.0 f.1) x facts (All-head (λ f. Tells IsBelow new f.0 f.1) x [] t'.told)
          (All-weaker (λ f. Tells IsBelow mid f.0 f.1) (λ f. Tells IsBelow new f.0 f.1)
          (λ f h. tells-grows IsBelow transitive mid new t'.size t'.grows f.0 f.1 h) facts t.told);
      grows = λ n. rows-trans IsBelow transitive (row old n) (row mid n) (row new n) (t.grows n) (t'.grows n);
      least = λ other size below all. t'.least other (size ∙ sym t.size)
          (t.least other size below (All-tail (λ f. Tells IsBelow other f.0 f.1) x facts all))
          (All-cons (λ f. Tells IsBelow other f.0 f.1) x [] (All-head (λ f. Tells IsBelow other f.0 f.1) x facts all)
          (All-nil _));
      within = λ within all. t'.within
          (t.within within (All-tail (λ f. IsWithin (known_places old + 1) f.1) x facts all))
          (All-cons (λ f. IsWithin (known_places mid + 1) f.1) x []
          (widens (known_places old + 1) (known_places mid + 1) x.1 (omega (arith, t.kept_known))
          (All-head (λ f. IsWithin (known_places old + 1) f.1) x facts all)) (All-nil _));
      higher = omega (arith, t.higher, t'.higher);
      longer = omega (arith, t.longer, t'.longer);
      waits = λ p h. t'.waits p (t.waits p h);
      changed = λ p. elim (t'.changed p) [
        | inl e ↦ elim (t.changed p) [ inl e' ↦ inl (e ∙ e') | inr h ↦ inr (t'.waits p h) ]
        | inr h ↦ inr h
      ];
      kept_known = omega (arith, t.kept_known, t'.kept_known);
    }

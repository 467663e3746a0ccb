-- Where bytes leave one language, and where another.
use Rattle.std.proofs.Common.{◌≡◌, ◌∙◌, ◌++◌, ◌∷◌, [], ℕ, List, refl, ap, sym, subst, inl, inr, append_assoc}
use Rattle.md_sigs.specs.Refusal.{Begins, CannotGoOn, IsElementOutside, IsFirstOutside}
use Rattle.md_sigs.specs.Reading.{IsStoppedBetween, StopsBy}
use Rattle.md_sigs.specs.declared.element.Stop.{Stop}

-- ---- a stop of one pair of languages is one of another

module _ (Inner Outer Inner' Outer' : List ℕ → Type 0)
    (begins : (bytes : List ℕ) → Begins Inner bytes → Begins Inner' bytes)
    (within : (bytes : List ℕ) → Outer' bytes → Outer bytes) where
  begins_within : (bytes : List ℕ) → Begins Outer' bytes → Begins Outer bytes
  begins_within bytes b = (b.0, within (bytes ++ b.0) b.1)

  cannot : (seen left : List ℕ) → CannotGoOn Outer seen left → CannotGoOn Outer' seen left
  cannot seen [] never = λ o. never (within seen o)
  cannot seen (x ∷ left) never = λ b. never (begins_within (seen ++ x ∷ []) b)

  outside_in : (seen : List ℕ) (x : ℕ) → IsElementOutside Inner seen x → IsElementOutside Inner' seen x
  outside_in seen x (inl o) = inl (o.0, λ y p e. begins (seen ++ y ∷ []) (o.1 y p e))
  outside_in seen x (inr o) = inr (o.0, begins (seen ++ 0x01 ∷ []) o.1)

  outside_out : (seen : List ℕ) (x : ℕ) → IsElementOutside Outer' seen x → IsElementOutside Outer seen x
  outside_out seen x (inl o) = inl (o.0, λ y p e. begins_within (seen ++ y ∷ []) (o.1 y p e))
  outside_out seen x (inr o) = inr (o.0, begins_within (seen ++ 0x01 ∷ []) o.1)

  first_out : (seen left : List ℕ) → IsFirstOutside Outer' seen left → IsFirstOutside Outer seen left
  first_out seen [] o = o
  first_out seen (x ∷ left) o = outside_out seen x o

  stops_by : (seen left : List ℕ) (stop : Stop) → StopsBy Inner Outer seen left stop
      → StopsBy Inner' Outer' seen left stop
  stops_by seen left (Stop.Bad n) s = (s.0, λ o. s.1 (first_out seen left o))
  stops_by seen left (Stop.Outside x) s = (s.0, s.1, outside_in seen x s.2)

  pub stopped_so : (bytes : List ℕ) (stop : Stop) → IsStoppedBetween Inner Outer bytes stop
      → IsStoppedBetween Inner' Outer' bytes stop
  stopped_so bytes stop s = record {
    seen = s.seen;
    left = s.left;
    joined = s.joined;
    begun = begins s.seen s.begun;
    ended = cannot s.seen s.left s.ended;
    by = stops_by s.seen s.left stop s.by;
  }

-- ---- bytes in front

-- Behind the same bytes in front, what is of the second languages is of the first, and nothing else.
pub record Leads (Inner Outer Inner' Outer' : List ℕ → Type 0) (bytes rest : List ℕ) : Type 0 where
  pub seen : List ℕ
  pub joined : bytes ≡ seen ++ rest
  pub there : (more : List ℕ) → Inner' more → Inner (seen ++ more)
  pub back : (more : List ℕ) → Outer (seen ++ more) → Outer' more

module _ (Inner Outer Inner' Outer' : List ℕ → Type 0) (bytes rest : List ℕ)
    (leads : Leads Inner Outer Inner' Outer' bytes rest) where
  begins_there : (s : List ℕ) → Begins Inner' s → Begins Inner (leads.seen ++ s)
  begins_there s b = (b.0, subst Inner (sym (append_assoc leads.seen s b.0)) (leads.there (s ++ b.0) b.1))

  begins_back : (s : List ℕ) → Begins Outer (leads.seen ++ s) → Begins Outer' s
  begins_back s b = (b.0, leads.back (s ++ b.0) (subst Outer (append_assoc leads.seen s b.0) b.1))

  one_there : (s : List ℕ) (x : ℕ) → Begins Inner' (s ++ x ∷ []) → Begins Inner ((leads.seen ++ s) ++ x ∷ [])
  one_there s x b = subst (Begins Inner) (sym (append_assoc leads.seen s (x ∷ []))) (begins_there (s ++ x ∷ []) b)

  one_back : (s : List ℕ) (x : ℕ) → Begins Outer ((leads.seen ++ s) ++ x ∷ []) → Begins Outer' (s ++ x ∷ [])
  one_back s x b = begins_back (s ++ x ∷ []) (subst (Begins Outer) (append_assoc leads.seen s (x ∷ [])) b)

  cannot_there : (s left : List ℕ) → CannotGoOn Outer' s left → CannotGoOn Outer (leads.seen ++ s) left
  cannot_there s [] never = λ o. never (leads.back s o)
  cannot_there s (x ∷ left) never = λ b. never (one_back s x b)

  outside_there : (s : List ℕ) (x : ℕ) → IsElementOutside Inner' s x → IsElementOutside Inner (leads.seen ++ s) x
  outside_there s x (inl o) = inl (o.0, λ y p e. one_there s y (o.1 y p e))
  outside_there s x (inr o) = inr (o.0, one_there s 0x01 o.1)

  outside_back : (s : List ℕ) (x : ℕ) → IsElementOutside Outer (leads.seen ++ s) x → IsElementOutside Outer' s x
  outside_back s x (inl o) = inl (o.0, λ y p e. one_back s y (o.1 y p e))
  outside_back s x (inr o) = inr (o.0, one_back s 0x01 o.1)

  first_back : (s left : List ℕ) → IsFirstOutside Outer (leads.seen ++ s) left → IsFirstOutside Outer' s left
  first_back s [] o = o
  first_back s (x ∷ left) o = outside_back s x o

  stops_there : (s left : List ℕ) (stop : Stop) → StopsBy Inner' Outer' s left stop
      → StopsBy Inner Outer (leads.seen ++ s) left stop
  stops_there s left (Stop.Bad n) by = (by.0, λ o. by.1 (first_back s left o))
  stops_there s left (Stop.Outside x) by = (by.0, by.1, outside_there s x by.2)

  pub stopped_behind : (stop : Stop) → IsStoppedBetween Inner' Outer' rest stop
      → IsStoppedBetween Inner Outer bytes stop
  stopped_behind stop s = record {
    seen = leads.seen ++ s.seen;
    left = s.left;
    joined =
        leads.joined ∙ ap (λ l. leads.seen ++ l) s.joined ∙ sym (append_assoc leads.seen s.seen s.left);
    begun = begins_there s.seen s.begun;
    ended = cannot_there s.seen s.left s.ended;
    by = stops_there s.seen s.left stop s.by;
  }

pub leads-refl : (Inner Outer : List ℕ → Type 0) (bytes : List ℕ) → Leads Inner Outer Inner Outer bytes bytes
leads-refl Inner Outer bytes = record { seen = []; joined = refl; there = λ more i. i; back = λ more o. o }

pub leads-trans : (A B C : List ℕ → Type 0) (bytes mid rest : List ℕ) → Leads A A B B bytes mid → Leads B B C C mid rest
    → Leads A A C C bytes rest
leads-trans A B C bytes mid rest f g = record {
  seen = f.seen ++ g.seen;
  joined =
      f.joined ∙ ap (λ l. f.seen ++ l) g.joined ∙ sym (append_assoc f.seen g.seen rest);
  there =
      λ more c. subst A (sym (append_assoc f.seen g.seen more)) (f.there (g.seen ++ more) (g.there more c));
  back = λ more a. g.back more (f.back (g.seen ++ more) (subst A (append_assoc f.seen g.seen more) a));
}

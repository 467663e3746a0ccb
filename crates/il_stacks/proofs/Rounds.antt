-- Rounds end, and what they end with are the least stacks.
use Rattle.std.proofs.Common.{◌≡◌, ◌↔◌, inl, inr, refl, sym, ap, subst, ◌∙◌, ℕ, zero, suc, ◌+◌, ◌*◌, ◌<◌}
use Rattle.std.proofs.Common.{◌≤◌, Bool, true}
use Rattle.std.proofs.Common.{false, not, List, [], ◌∷◌, ◌++◌, length, fold, replicate, Option}
use Rattle.std.proofs.Common.{Some, None}
use Rattle.std.proofs.Common.{All, Contains, slice_index_or, arith}
use Rattle.std.proofs.Math.ListN.{set}
use Rattle.std.proofs.lemmas.Bool.{and_parts, and_cases, cases_lt}
use Rattle.std.proofs.lemmas.List.{length-replicate, set_past}
use Rattle.std.proofs.lemmas.List.Elements.{All-cons, All-nil, All-head, All-tail, All-weaker, All-contains}
use Rattle.std.proofs.lemmas.List.Elements.{All-contains_itself}
use Rattle.least_flow.specs.Solution.{row, IsRowBelow, AllBelow, Tells, IsClosedAt, IsSolution}
use Rattle.least_flow.specs.Telling.{AreWithin, IfKnown, RowRaised, Told, height, heights, known_places}
use Rattle.least_flow.proofs.Rows.{heights-bound, if_known, known-bound, row-none, rows-refl, rows-trans}
use Rattle.least_flow.proofs.Rows.{tells-grows, tells-less}
use Rattle.least_flow.proofs.Raising.{IsNoted, told-none, told-one, told-outside}
use Rattle.ty_terms.specs.declared.ty.Ty.{Ty}
use Rattle.il_stacks.specs.declared.effect.Handler.{Handler}
use Rattle.il_stacks.specs.declared.effect.Step.{Step}
use Rattle.il_stacks.specs.declared.stack.Stack.{Stack}
use Rattle.il_stacks.specs.declared.stack.Stack.TheVariants.{Slots}
use Rattle.il_stacks.specs.Bounds.{IsWithin, are_sound, stack_rank, types_met}
use Rattle.il_stacks.specs.BoundLaws.{bounded, joined_within, rank_grows, rank_more, widens}
use Rattle.il_stacks.specs.Flow.{AreLeastStacks, Passes, Starts, passed}
use Rattle.il_stacks.specs.FlowLaws.{passed_more}
use Rattle.il_stacks.specs.Rounds.{first_table, is_row_below, is_table_below, most_rounds, one_further, one_round}
use Rattle.il_stacks.specs.Rounds.{pass_if}
use Rattle.il_stacks.specs.Rounds.{raised, raised_row, settled, stacks_by_rounds}
use Rattle.il_stacks.specs.Slots.{IsBelow, is_below, is_rising_stack, joined}
use Rattle.il_stacks.specs.SlotLaws.{joined_grows, joined_least, joined_told, reflexive, rising_joined, stack_same}
use Rattle.il_stacks.specs.SlotLaws.{transitive}
use Rattle.il_stacks.proofs.Joining.{joined_higher}
use Rattle.il_stacks.proofs.Passing.{passed_within, rising_within}

-- ---- one row

row_raised : (met : List Ty) (depth k n : ℕ) (fact : Stack) (old : Option Stack) → IfKnown (IsWithin met k) old
    → k ≤ depth → IsWithin met n fact → (raises : Bool)
    → raises ≡ not (is_row_below (Some fact) old)
    → RowRaised IsBelow (IsWithin met) (stack_rank met depth) fact old (Some (raised_row old fact)) raises
row_raised met depth k n fact None known near within raises e =
    record {
      told = reflexive fact;
      grows = tt;
      least = λ other h h'. h';
      same = λ never. let always : raises ≡ true = e in cc;
      higher = λ rose. omega arith;
      joined = λ m n earlier is h h'. cc;
      begun = λ n is h. h;
      kept_known = omega arith;
    }
row_raised met depth k n fact (Some old) known near within raises e =
    let grows : is_below old (joined old fact) ≡ true = joined_grows old fact in
    let told : is_below fact (joined old fact) ≡ true = joined_told old fact in
    let deep : IsWithin met depth old = widens met k depth old near known in
    record {
      told = told;
      grows = grows;
      least = above old fact;
      same = λ stayed.
          let below : is_below fact old ≡ true = unnot (is_below fact old) (sym e ∙ stayed) in
          ap (λ s. Some s)
          (stack_same (joined old fact) old (rising_joined old fact (rising_within met n fact within))
          (rising_within met k old known) (joined_least old fact old (reflexive old) below) grows);
      higher = λ rose.
          omega (
            arith,
            joined_higher met depth k n old fact deep known within
                (unnot_false (is_below fact old) (sym e ∙ rose)),
          );
      joined = λ m n' earlier is h h'.
          let same : old ≡ earlier = cc in
          joined_within met m n' old fact (subst (IsWithin met m) (sym same) h) h';
      begun = λ n is h. cc;
      kept_known = omega arith;
    }
  where
    unnot : (t : Bool) → not t ≡ false → t ≡ true
    unnot true e = refl
    unnot false e = cc

    unnot_false : (t : Bool) → not t ≡ true → t ≡ false
    unnot_false true e = cc
    unnot_false false e = refl

    above : (old fact : Stack) (other : Option Stack) → IsRowBelow IsBelow (Some old) other
        → IsRowBelow IsBelow (Some fact) other → IsRowBelow IsBelow (Some (joined old fact)) other
    above old fact None h h' = absurd h
    above old fact (Some other) h h' = joined_least old fact other h h'

-- ---- some facts are told

-- a table that tells some facts more than another, and no more than it has to
record Grown (steps : List Step) (handlers : List Handler) (facts : List (ℕ × Stack)) (old new : List (Option Stack))
    : Type 0 where
  size : length new ≡ length old
  grows : AllBelow IsBelow old new
  within : AreWithin (IsWithin (types_met steps handlers)) new
  kept_known : known_places old ≤ known_places new
  told : (to : ℕ) (fact : Stack) → Contains facts (to, fact) → Tells IsBelow new to fact
  least : (other : List (Option Stack)) → length other ≡ length old → AllBelow IsBelow old other
      → ((to : ℕ) (fact : Stack) → Contains facts (to, fact) → Tells IsBelow other to fact)
      → AllBelow IsBelow new other

grown_none : (steps : List Step) (handlers : List Handler) (table : List (Option Stack))
    → AreWithin (IsWithin (types_met steps handlers)) table → Grown steps handlers [] table table
grown_none steps handlers table within =
    record {
      size = refl;
      grows = λ n. rows-refl IsBelow reflexive (row table n);
      within = within;
      kept_known = omega arith;
      told = λ to fact has. absurd (omega (arith, has.1));
      least = λ other size below tells. below;
    }

contained_one : (f : ℕ × Stack) (to : ℕ) (fact : Stack) (k : ℕ) → k < length (f ∷ [])
    → slice_index_or (f ∷ []) k (to, fact) ≡ (to, fact) → f ≡ (to, fact)
contained_one f to fact zero inside is = is
contained_one f to fact (suc k) inside is = absurd (omega (arith, inside))

grown_more : (steps : List Step) (handlers : List Handler) (f : ℕ × Stack) (rest : List (ℕ × Stack))
    (old mid new : List (Option Stack)) → Grown steps handlers (f ∷ []) old mid → Grown steps handlers rest mid new
    → Grown steps handlers (f ∷ rest) old new
grown_more steps handlers f rest old mid new first second =
    record {
      size = second.size ∙ first.size;
      grows = λ n. rows-trans IsBelow transitive (row old n) (row mid n) (row new n) (first.grows n) (second.grows n);
      within = second.within;
      kept_known = omega (arith, first.kept_known, second.kept_known);
      told = λ to fact has. told to fact has.0 has.1 has.2;
      least = λ other size below tells.
          second.least other (size ∙ sym first.size)
          (first.least other size below
          (λ to fact has. let is = contained_one f to fact has.0 has.1 has.2 in tells to fact (0, omega arith, is)))
          (λ to fact has. tells to fact (suc has.0, omega (arith, has.1), has.2));
    }
  where
    told : (to : ℕ) (fact : Stack) (k : ℕ) → k < length (f ∷ rest)
        → slice_index_or (f ∷ rest) k (to, fact) ≡ (to, fact) → Tells IsBelow new to fact
    told to fact zero inside is =
        tells-grows IsBelow transitive mid new second.size second.grows to fact
        (first.told to fact (0, omega arith, is))
    told to fact (suc k) inside is = second.told to fact (k, omega (arith, inside), is)

from_told : (steps : List Step) (handlers : List Handler) (depth place : ℕ) (fact : Stack)
    (old new : List (Option Stack)) (waiting waiting' : List ℕ)
    → Told IsBelow (IsWithin (types_met steps handlers)) (stack_rank (types_met steps handlers) depth)
    ((place, fact) ∷ []) old new waiting waiting'
    → AreWithin (IsWithin (types_met steps handlers)) old
    → IsWithin (types_met steps handlers) (known_places old + 1) fact
    → Grown steps handlers ((place, fact) ∷ []) old new
from_told steps handlers depth place fact old new waiting waiting' t within near =
    let met : List Ty = types_met steps handlers in
    let P : ℕ × Stack → Type 0 = λ f. IsWithin met (known_places old + 1) f.1 in
    record {
      size = t.size;
      grows = t.grows;
      within = t.within within (All-cons P (place, fact) [] near (All-nil P));
      kept_known = t.kept_known;
      told = λ to more has. All-contains (λ f. Tells IsBelow new f.0 f.1) ((place, fact) ∷ []) (to, more) t.told has;
      least = λ other size below tells. t.least other size below
          (All-cons (λ f. Tells IsBelow other f.0 f.1) (place, fact) []
          (tells place fact (0, omega arith, refl)) (All-nil _));
    }

noted : Bool → ℕ → List ℕ
noted true place = [] ++ place ∷ []
noted false place = []

is_noted : (raises : Bool) (place : ℕ) → IsNoted raises place [] (noted raises place)
unfolding noted
is_noted true place = refl
is_noted false place = refl

raise_inside : (steps : List Step) (handlers : List Handler) (table : List (Option Stack)) (place : ℕ) (fact : Stack)
    → AreWithin (IsWithin (types_met steps handlers)) table
    → IsWithin (types_met steps handlers) (known_places table + 1) fact → place < length table
    → Grown steps handlers ((place, fact) ∷ []) table (raised table (place, fact))
raise_inside steps handlers table place fact within near inside =
    let met : List Ty = types_met steps handlers in
    let raises : Bool = not (is_row_below (Some fact) (row table place)) in
    from_told steps handlers (length table) place fact table (raised table (place, fact)) [] (noted raises place)
    (told-one IsBelow (IsWithin met) (stack_rank met (length table)) reflexive (widens met) place fact table
    (Some (raised_row (row table place) fact)) raises [] (noted raises place) inside
    (row_raised met (length table) (known_places table) (known_places table + 1) fact (row table place) (within place)
    (known-bound table) near raises refl)
    (is_noted raises place)) within near

raise_one : (steps : List Step) (handlers : List Handler) (table : List (Option Stack)) (place : ℕ) (fact : Stack)
    → AreWithin (IsWithin (types_met steps handlers)) table
    → IsWithin (types_met steps handlers) (known_places table + 1) fact
    → Grown steps handlers ((place, fact) ∷ []) table (raised table (place, fact))
raise_one steps handlers table place fact within near =
    let met : List Ty = types_met steps handlers in
    elim (cases_lt place (length table)) [
      | inl inside ↦ raise_inside steps handlers table place fact within near inside
      | inr past ↦
          let same : set table place (Some (raised_row (row table place) fact)) ≡ table =
          set_past table place (Some (raised_row (row table place) fact)) past in
          subst (λ t. Grown steps handlers ((place, fact) ∷ []) table t) (sym same)
          (from_told steps handlers (length table) place fact table table [] []
          (told-none IsBelow (IsWithin met) (stack_rank met (length table)) reflexive ((place, fact) ∷ []) table []
          (told-outside IsBelow place fact table past) (widens met)) within near)
    ]

raise_all : (steps : List Step) (handlers : List Handler) (facts : List (ℕ × Stack)) (table : List (Option Stack))
    → AreWithin (IsWithin (types_met steps handlers)) table
    → All (λ (f : ℕ × Stack). IsWithin (types_met steps handlers) (known_places table + 1) f.1) facts
    → Grown steps handlers facts table (fold raised table facts)
raise_all steps handlers [] table within near = grown_none steps handlers table within
raise_all steps handlers (f ∷ rest) table within near =
    let met : List Ty = types_met steps handlers in
    let P : ℕ × Stack → Type 0 = λ f. IsWithin met (known_places table + 1) f.1 in
    let mid : List (Option Stack) = raised table f in
    let Q : ℕ × Stack → Type 0 = λ f. IsWithin met (known_places mid + 1) f.1 in
    let first : Grown steps handlers (f ∷ []) table mid =
    raise_one steps handlers table f.0 f.1 within (All-head P f rest near) in
    grown_more steps handlers f rest table mid (fold raised mid rest) first
    (raise_all steps handlers rest mid first.within
    (All-weaker P Q
    (λ g h. widens met (known_places table + 1) (known_places mid + 1) g.1 (omega (arith, first.kept_known)) h)
    rest (All-tail P f rest near)))

-- ---- a round

abbrev IsClosed : (Ty → Bool) → List Step → List Handler → List (Option Stack) → Type 0
IsClosed objects steps handlers table =
    (place : ℕ) → IsClosedAt IsBelow (Passes objects steps handlers) table place

-- a table in which some steps have passed on what was known before them
record Went (objects : Ty → Bool) (steps : List Step) (handlers : List Handler) (some : List Step)
    (old new : List (Option Stack)) : Type 0 where
  size : length new ≡ length old
  grows : AllBelow IsBelow old new
  within : AreWithin (IsWithin (types_met steps handlers)) new
  below : (other : List (Option Stack)) → length other ≡ length old → AllBelow IsBelow old other
      → IsClosed objects steps handlers other → AllBelow IsBelow new other
  told : (step : Step) → Contains some step → (known : Stack) → row old step.at ≡ Some known → (to : ℕ) (fact : Stack)
      → Contains (passed objects handlers step known) (to, fact) → Tells IsBelow new to fact

-- what a table with a row that tells less passes on, a closed one tells
closed_above : (objects : Ty → Bool) (steps : List Step) (handlers : List Handler) (other : List (Option Stack))
    (step : Step) (known : Stack) (r : Option Stack) → row other step.at ≡ r → IsRowBelow IsBelow (Some known) r
    → Contains steps step → IsClosed objects steps handlers other → (to : ℕ) (fact : Stack)
    → Contains (passed objects handlers step known) (to, fact) → Tells IsBelow other to fact
closed_above objects steps handlers other step known None is h there closed to fact has = absurd h
closed_above objects steps handlers other step known (Some known') is h there closed to fact has =
    let found = passed_more objects handlers step known known' to fact h has in
    tells-less IsBelow transitive other to fact found.0 found.2
    (closed step.at known' is to found.0 (step, there, refl, found.1))

went_known : (objects : Ty → Bool) (steps : List Step) (handlers : List Handler) (step : Step) (known : Stack)
    (table : List (Option Stack)) → are_sound steps handlers ≡ true → Contains steps step
    → AreWithin (IsWithin (types_met steps handlers)) table → row table step.at ≡ Some known
    → Went objects steps handlers (step ∷ []) table (fold raised table (passed objects handlers step known))
went_known objects steps handlers step known table sound there within is =
    let met : List Ty = types_met steps handlers in
    let here : IsWithin met (known_places table) known =
    subst (IfKnown (IsWithin met (known_places table))) is (within step.at) in
    let grown : Grown steps handlers (passed objects handlers step known) table
    (fold raised table (passed objects handlers step known)) =
    raise_all steps handlers (passed objects handlers step known) table within
    (passed_within objects steps handlers step (known_places table) known sound there here) in
    record {
      size = grown.size;
      grows = grown.grows;
      within = grown.within;
      below = λ other size below closed.
          grown.least other size below
          (λ to fact has.
          closed_above objects steps handlers other step known (row other step.at) refl
          (subst (λ r. IsRowBelow IsBelow r (row other step.at)) is (below step.at)) there closed to fact has);
      told = λ step' has known' is' to fact has'.
          let same : step ≡ step' = one_step step step' has.0 has.1 has.2 in
          let is'' : row table step.at ≡ Some known' =
          subst (λ (s : Step). row table s.at ≡ Some known') (sym same) is' in
          let same' : known ≡ known' = known_same (sym is ∙ is'') in
          grown.told to fact
          (subst (λ k. Contains (passed objects handlers step k) (to, fact)) (sym same')
          (subst (λ (s : Step). Contains (passed objects handlers s known') (to, fact)) (sym same) has'));
    }
  where
    one_step : (step step' : Step) (k : ℕ) → k < length (step ∷ []) → slice_index_or (step ∷ []) k step' ≡ step'
        → step ≡ step'
    one_step step step' zero inside is = is
    one_step step step' (suc k) inside is = absurd (omega (arith, inside))

    known_same : {a b : Stack} → Some a ≡ Some b → a ≡ b
    known_same e = cc

went_one : (objects : Ty → Bool) (steps : List Step) (handlers : List Handler) (step : Step)
    (table : List (Option Stack)) → are_sound steps handlers ≡ true → Contains steps step
    → AreWithin (IsWithin (types_met steps handlers)) table
    → Went objects steps handlers (step ∷ []) table (one_further objects handlers table step)
went_one objects steps handlers step table sound there within = by (row table step.at) refl
  where
    one_step : (step step' : Step) (k : ℕ) → k < length (step ∷ []) → slice_index_or (step ∷ []) k step' ≡ step'
        → step ≡ step'
    one_step step step' zero inside is = is
    one_step step step' (suc k) inside is = absurd (omega (arith, inside))

    by : (r : Option Stack) → row table step.at ≡ r
        → Went objects steps handlers (step ∷ []) table (fold raised table (pass_if objects handlers step r))
    by None is =
        record {
          size = refl;
          grows = λ n. rows-refl IsBelow reflexive (row table n);
          within = within;
          below = λ other size below closed. below;
          told = λ step' has known is' to fact has'.
              let same : step ≡ step' = one_step step step' has.0 has.1 has.2 in
              let is'' : row table step.at ≡ Some known =
              subst (λ (s : Step). row table s.at ≡ Some known) (sym same) is' in
              cc;
        }
    by (Some known) is = went_known objects steps handlers step known table sound there within is

went_none : (objects : Ty → Bool) (steps : List Step) (handlers : List Handler) (table : List (Option Stack))
    → AreWithin (IsWithin (types_met steps handlers)) table → Went objects steps handlers [] table table
went_none objects steps handlers table within =
    record {
      size = refl;
      grows = λ n. rows-refl IsBelow reflexive (row table n);
      within = within;
      below = λ other size below closed. below;
      told = λ step has known is to fact has'. absurd (omega (arith, has.1));
    }

-- what is passed on from a row, one is told that tells no less
told_above : (objects : Ty → Bool) (handlers : List Handler) (mid new : List (Option Stack)) (step : Step)
    (known : Stack) (r : Option Stack) → row mid step.at ≡ r → IsRowBelow IsBelow (Some known) r
    → ((known : Stack) → row mid step.at ≡ Some known → (to : ℕ) (fact : Stack)
    → Contains (passed objects handlers step known) (to, fact) → Tells IsBelow new to fact)
    → (to : ℕ) (fact : Stack) → Contains (passed objects handlers step known) (to, fact) → Tells IsBelow new to fact
told_above objects handlers mid new step known None is h tells to fact has = absurd h
told_above objects handlers mid new step known (Some known') is h tells to fact has =
    let found = passed_more objects handlers step known known' to fact h has in
    tells-less IsBelow transitive new to fact found.0 found.2 (tells known' is to found.0 found.1)

went_more : (objects : Ty → Bool) (steps : List Step) (handlers : List Handler) (first : Step) (rest : List Step)
    (old mid new : List (Option Stack)) → Went objects steps handlers (first ∷ []) old mid
    → Went objects steps handlers rest mid new → Went objects steps handlers (first ∷ rest) old new
went_more objects steps handlers first rest old mid new one more =
    record {
      size = more.size ∙ one.size;
      grows = λ n. rows-trans IsBelow transitive (row old n) (row mid n) (row new n) (one.grows n) (more.grows n);
      within = more.within;
      below = λ other size below closed.
          more.below other (size ∙ sym one.size) (one.below other size below closed) closed;
      told = λ step has. told step has.0 has.1 has.2;
    }
  where
    told : (step : Step) (k : ℕ) → k < length (first ∷ rest) → slice_index_or (first ∷ rest) k step ≡ step
        → (known : Stack) → row old step.at ≡ Some known → (to : ℕ) (fact : Stack)
        → Contains (passed objects handlers step known) (to, fact) → Tells IsBelow new to fact
    told step zero inside is known known-is to fact has =
        tells-grows IsBelow transitive mid new more.size more.grows to fact
        (one.told step (0, omega arith, is) known known-is to fact has)
    told step (suc k) inside is known known-is to fact has =
        told_above objects handlers mid new step known (row mid step.at) refl
        (subst (λ r. IsRowBelow IsBelow r (row mid step.at)) known-is (one.grows step.at))
        (more.told step (k, omega (arith, inside), is)) to fact has

went_all : (objects : Ty → Bool) (steps : List Step) (handlers : List Handler) (some : List Step)
    (table : List (Option Stack)) → are_sound steps handlers ≡ true → All (Contains steps) some
    → AreWithin (IsWithin (types_met steps handlers)) table
    → Went objects steps handlers some table (fold (one_further objects handlers) table some)
went_all objects steps handlers [] table sound there within = went_none objects steps handlers table within
went_all objects steps handlers (first ∷ rest) table sound there within =
    let mid : List (Option Stack) = one_further objects handlers table first in
    let one : Went objects steps handlers (first ∷ []) table mid =
    went_one objects steps handlers first table sound (All-head (Contains steps) first rest there) within in
    went_more objects steps handlers first rest table mid (fold (one_further objects handlers) mid rest) one
    (went_all objects steps handlers rest mid sound (All-tail (Contains steps) first rest there) one.within)

went_round : (objects : Ty → Bool) (steps : List Step) (handlers : List Handler) (table : List (Option Stack))
    → are_sound steps handlers ≡ true → AreWithin (IsWithin (types_met steps handlers)) table
    → Went objects steps handlers steps table (one_round objects steps handlers table)
went_round objects steps handlers table sound within =
    went_all objects steps handlers steps table sound (All-contains_itself steps) within

-- ---- the last round

row_below_from : (r s : Option Stack) → is_row_below r s ≡ true → IsRowBelow IsBelow r s
row_below_from None s h = tt
row_below_from (Some a) None h = cc
row_below_from (Some a) (Some b) h = h

table_below_at : (table other : List (Option Stack)) → is_table_below table other ≡ true → AllBelow IsBelow table other
table_below_at [] other h place = tt
table_below_at (r ∷ table) [] h place = cc
table_below_at (r ∷ table) (s ∷ other) h zero =
    row_below_from r s (and_parts (is_row_below r s) (is_table_below table other) h).0
table_below_at (r ∷ table) (s ∷ other) h (suc place) =
    table_below_at table other (and_parts (is_row_below r s) (is_table_below table other) h).1 place

-- a round in which nothing more is told leaves a table that tells all that is passed on
closed_round : (objects : Ty → Bool) (steps : List Step) (handlers : List Handler) (old new : List (Option Stack))
    → Went objects steps handlers steps old new → AllBelow IsBelow new old → IsClosed objects steps handlers new
closed_round objects steps handlers old new went below place known is to fact passes =
    let step : Step = passes.0 in
    let at : row new step.at ≡ Some known = ap (row new) passes.2 ∙ is in
    told_above objects handlers old new step known (row old step.at) refl
    (subst (λ r. IsRowBelow IsBelow r (row old step.at)) at (below step.at))
    (went.told step passes.1) to fact passes.3

row_height-grows : (met : List Ty) (depth : ℕ) (r s : Option Stack) → IfKnown (IsWithin met depth) r
    → IsRowBelow IsBelow r s → height (stack_rank met depth) r ≤ height (stack_rank met depth) s
row_height-grows met depth None s within h = omega arith
row_height-grows met depth (Some a) None within h = absurd h
row_height-grows met depth (Some a) (Some b) within h = omega (arith, rank_grows met depth a b within h)

row_height-more : (met : List Ty) (depth n : ℕ) (r s : Option Stack) → IfKnown (IsWithin met depth) r
    → IfKnown (IsWithin met n) s → IsRowBelow IsBelow r s → is_row_below s r ≡ false
    → height (stack_rank met depth) r < height (stack_rank met depth) s
row_height-more met depth n None None within within' h lacks = cc
row_height-more met depth n None (Some b) within within' h lacks = omega arith
row_height-more met depth n (Some a) None within within' h lacks = absurd h
row_height-more met depth n (Some a) (Some b) within within' h lacks =
    omega (arith, rank_more met depth n a b within within' h lacks)

heights-grow : (met : List Ty) (depth : ℕ) (table new : List (Option Stack)) → length new ≡ length table
    → ((place : ℕ) → IfKnown (IsWithin met depth) (row table place)) → AllBelow IsBelow table new
    → heights (stack_rank met depth) table ≤ heights (stack_rank met depth) new
heights-grow met depth [] new size within h = omega arith
heights-grow met depth (r ∷ table) [] size within h = absurd (omega (arith, size))
heights-grow met depth (r ∷ table) (s ∷ new) size within h =
    omega (
      arith,
      row_height-grows met depth r s (within 0) (h 0),
      heights-grow met depth table new (omega (arith, size)) (λ place. within (suc place)) (λ place. h (suc place)),
    )

-- a round in which more is told makes the table stand higher
heights-more : (met : List Ty) (depth n : ℕ) (table new : List (Option Stack)) → length new ≡ length table
    → ((place : ℕ) → IfKnown (IsWithin met depth) (row table place))
    → ((place : ℕ) → IfKnown (IsWithin met n) (row new place)) → AllBelow IsBelow table new
    → is_table_below new table ≡ false
    → heights (stack_rank met depth) table < heights (stack_rank met depth) new
heights-more met depth n [] [] size within within' h lacks = cc
heights-more met depth n [] (s ∷ new) size within within' h lacks = absurd (omega (arith, size))
heights-more met depth n (r ∷ table) [] size within within' h lacks = absurd (omega (arith, size))
heights-more met depth n (r ∷ table) (s ∷ new) size within within' h lacks =
    elim (and_cases (is_row_below s r) (is_table_below new table) lacks) [
      | inl here ↦
          omega (
            arith,
            row_height-more met depth n r s (within 0) (within' 0) (h 0) here,
            heights-grow met depth table new (omega (arith, size)) (λ place. within (suc place))
                (λ place. h (suc place)),
          )
      | inr there ↦
          omega (
            arith,
            row_height-grows met depth r s (within 0) (h 0),
            heights-more met depth n table new (omega (arith, size)) (λ place. within (suc place))
                (λ place. within' (suc place)) (λ place. h (suc place)) there,
          )
    ]

-- ---- all rounds

-- a table on the way to the least stacks
record IsOnTheWay (objects : Ty → Bool) (steps : List Step) (handlers : List Handler) (size : ℕ)
    (table : List (Option Stack)) : Type 0 where
  long : length table ≡ size
  within : AreWithin (IsWithin (types_met steps handlers)) table
  started : (place : ℕ) (fact : Stack) → Starts place fact → Tells IsBelow table place fact
  below : (other : List (Option Stack)) → length other ≡ length table
      → IsSolution IsBelow Starts (Passes objects steps handlers) other → AllBelow IsBelow table other

-- and one that is at its end
record IsAtEnd (objects : Ty → Bool) (steps : List Step) (handlers : List Handler) (size : ℕ)
    (table : List (Option Stack)) : Type 0 where
  way : IsOnTheWay objects steps handlers size table
  closed : IsClosed objects steps handlers table

next_way : (objects : Ty
    → Bool) (steps : List Step) (handlers : List Handler) (size : ℕ) (old new : List (Option Stack))
    → IsOnTheWay objects steps handlers size old → Went objects steps handlers steps old new
    → IsOnTheWay objects steps handlers size new
next_way objects steps handlers size old new way went =
    record {
      long = went.size ∙ way.long;
      within = went.within;
      started = λ place fact starts.
          tells-grows IsBelow transitive old new went.size went.grows place fact (way.started place fact starts);
      below = λ other long solution.
          went.below other (long ∙ went.size) (way.below other (long ∙ went.size) solution) solution.closed;
    }

within_depth : (met : List Ty) (size : ℕ) (table : List (Option Stack)) → length table ≡ size
    → AreWithin (IsWithin met) table → (place : ℕ) → IfKnown (IsWithin met size) (row table place)
within_depth met size table long within place =
    if_known (IsWithin met (known_places table)) (IsWithin met size)
    (λ a. widens met (known_places table) size a (omega (arith, known-bound table, long))) (row table place)
    (within place)

-- no table stands so high that more rounds than these raise it
not_higher : (steps : List Step) (handlers : List Handler) (size : ℕ) (table : List (Option Stack))
    → length table ≡ size → AreWithin (IsWithin (types_met steps handlers)) table
    → heights (stack_rank (types_met steps handlers) size) table < most_rounds steps handlers size
not_higher steps handlers size table long within =
    let met : List Ty = types_met steps handlers in
    let most : ℕ = 1 + size * (2 + length met) in
    let low : heights (stack_rank met size) table ≤ length table * (most + 1) =
    heights-bound (stack_rank met size) most table
    (λ place. if_known (IsWithin met size) (λ a. stack_rank met size a ≤ most) (λ a h. bounded met size a h)
    (row table place) (within_depth met size table long within place)) in
    let low' : heights (stack_rank met size) table ≤ size * (most + 1) =
    subst (λ n. heights (stack_rank met size) table ≤ n * (most + 1)) long low in
    let same : size * (most + 1) ≡ size * (2 + size * (2 + length met)) =
    ap (λ n. size * n) (omega arith) in
    omega (arith, low', same)

settles : (objects : Ty → Bool) (steps : List Step) (handlers : List Handler) (size left : ℕ) (done : Bool)
    (table : List (Option Stack)) → are_sound steps handlers ≡ true → IsOnTheWay objects steps handlers size table
    → (done ≡ true → IsClosed objects steps handlers table)
    → (done ≡ false → most_rounds steps handlers size
    ≤ heights (stack_rank (types_met steps handlers) size) table + left)
    → IsAtEnd objects steps handlers size (settled objects steps handlers left done table)
settles objects steps handlers size zero true table sound way closed many =
    record { way = way; closed = closed refl }
settles objects steps handlers size zero false table sound way closed many =
    absurd (omega (arith, many refl, not_higher steps handlers size table way.long way.within))
settles objects steps handlers size (suc left) true table sound way closed many =
    record { way = way; closed = closed refl }
settles objects steps handlers size (suc left) false table sound way closed many =
    let met : List Ty = types_met steps handlers in
    let next : List (Option Stack) = one_round objects steps handlers table in
    let went : Went objects steps handlers steps table next =
    went_round objects steps handlers table sound way.within in
    let way' : IsOnTheWay objects steps handlers size next =
    next_way objects steps handlers size table next way went in
    settles objects steps handlers size left (is_table_below next table) next sound way'
    (λ same. closed_round objects steps handlers table next went (table_below_at next table same))
    (λ more.
    let higher = heights-more met size size table next went.size (within_depth met size table way.long way.within)
    (within_depth met size next way'.long way'.within) went.grows more in
    omega (arith, many refl, higher))

none_within : (steps : List Step) (handlers : List Handler) (size : ℕ)
    → AreWithin (IsWithin (types_met steps handlers)) (replicate {A = Option Stack} size None)
none_within steps handlers size place =
    subst (IfKnown (IsWithin (types_met steps handlers) (known_places (replicate {A = Option Stack} size None))))
    (sym (row-none size (replicate size None) refl place)) tt

begins : (objects : Ty → Bool) (steps : List Step) (handlers : List Handler) (size : ℕ)
    → IsOnTheWay objects steps handlers size (first_table size)
begins objects steps handlers size =
    let none : List (Option Stack) = replicate size None in
    let grown : Grown steps handlers ((0, Slots []) ∷ []) none (first_table size) =
    raise_one steps handlers none 0 (Slots []) (none_within steps handlers size) (omega arith, refl) in
    record {
      long = grown.size ∙ length-replicate size None;
      within = grown.within;
      started = λ place fact starts.
          subst (λ p. Tells IsBelow (first_table size) p fact) (sym starts.0)
          (subst (λ s. Tells IsBelow (first_table size) 0 s) (sym starts.1)
          (grown.told 0 (Slots []) (0, omega arith, refl)));
      below = λ other long solution.
          grown.least other (long ∙ grown.size)
          (λ place. subst (λ r. IsRowBelow IsBelow r (row other place))
          (sym (row-none size (replicate size None) refl place)) tt)
          (λ to fact has.
          let is : (0, Slots []) ≡ (to, fact) = contained_one (0, Slots []) to fact has.0 has.1 has.2 in
          solution.started to fact (sym (ap (λ (f : ℕ × Stack). f.0) is), sym (ap (λ (f : ℕ × Stack). f.1) is)));
    }

rises_at : (met : List Ty) (n : ℕ) (r : Option Stack) → IfKnown (IsWithin met n) r
    → IfKnown (λ stack. is_rising_stack stack ≡ true) r
rises_at met n None h = tt
rises_at met n (Some stack) h = rising_within met n stack h

-- rounds find the least stacks
pub rounds_find : (objects : Ty → Bool) (steps : List Step) (handlers : List Handler) (size : ℕ)
    → are_sound steps handlers ≡ true
    → AreLeastStacks objects steps handlers size (stacks_by_rounds objects steps handlers size)
unfolding stacks_by_rounds
rounds_find objects steps handlers size sound =
    let end : IsAtEnd objects steps handlers size
    (settled objects steps handlers (most_rounds steps handlers size) false (first_table size)) =
    settles objects steps handlers size (most_rounds steps handlers size) false (first_table size) sound
    (begins objects steps handlers size) (λ e. cc) (λ e. omega arith) in
    record {
      long = end.way.long;
      least = record {
        solution = record { started = end.way.started; closed = end.closed };
        least = end.way.below;
      };
      rising = λ place. rises_at (types_met steps handlers)
          (known_places (settled objects steps handlers (most_rounds steps handlers size) false (first_table size)))
          (row (settled objects steps handlers (most_rounds steps handlers size) false (first_table size)) place)
          (end.way.within place);
    }

-- ---- and there are no others

pub same_row : (r s : Option Stack) → IfKnown (λ stack. is_rising_stack stack ≡ true) r
    → IfKnown (λ stack. is_rising_stack stack ≡ true) s → IsRowBelow IsBelow r s → IsRowBelow IsBelow s r → r ≡ s
same_row None None h h' b b' = refl
same_row None (Some s) h h' b b' = absurd b'
same_row (Some r) None h h' b b' = absurd b
same_row (Some r) (Some s) h h' b b' = ap (λ a. Some a) (stack_same r s h h' b b')

pub same_tables : (table other : List (Option Stack)) → length table ≡ length other
    → ((place : ℕ) → row table place ≡ row other place) → table ≡ other
same_tables [] [] size h = refl
same_tables [] (s ∷ other) size h = absurd (omega (arith, size))
same_tables (r ∷ table) [] size h = absurd (omega (arith, size))
same_tables (r ∷ table) (s ∷ other) size h =
    ap (λ (a : Option Stack). a ∷ table) (h 0)
    ∙ ap (λ l. s ∷ l) (same_tables table other (omega (arith, size)) (λ place. h (suc place)))

pub one_table : (objects : Ty → Bool) (steps : List Step) (handlers : List Handler) (size : ℕ)
    (table other : List (Option Stack)) → AreLeastStacks objects steps handlers size table
    → AreLeastStacks objects steps handlers size other → table ≡ other
one_table objects steps handlers size table other a b =
    same_tables table other (a.long ∙ sym b.long)
    (λ place. same_row (row table place) (row other place) (a.rising place) (b.rising place)
    (a.least.least other (b.long ∙ sym a.long) b.least.solution place)
    (b.least.least table (a.long ∙ sym b.long) a.least.solution place))

pub by_rounds : (objects : Ty → Bool) (steps : List Step) (handlers : List Handler) (size : ℕ)
    (table : List (Option Stack)) → are_sound steps handlers ≡ true
    → AreLeastStacks objects steps handlers size table ↔ (table ≡ stacks_by_rounds objects steps handlers size)
by_rounds objects steps handlers size table sound = (
  λ least. one_table objects steps handlers size table (stacks_by_rounds objects steps handlers size) least
      (rounds_find objects steps handlers size sound),
  λ same. subst (AreLeastStacks objects steps handlers size) (sym same)
      (rounds_find objects steps handlers size sound),
)

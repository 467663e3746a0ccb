-- The offsets that rounds find are those that control comes to.
use Rattle.std.proofs.Common.{◌≡◌, inl, inr, refl, sym, ap, subst, ◌∙◌, ℕ, zero, suc, ◌<◌, Bool, true, false}
use Rattle.std.proofs.Common.{List, []}
use Rattle.std.proofs.Common.{◌∷◌, ◌++◌, length, map, filter, Contains, slice_index_or, Option, Some, None, arith, cond}
use Rattle.std.specs.List.{list_all, flat_map}
use Rattle.std.specs.Option.{option_map}
use Rattle.std.specs.Prelude.{◌==◌}
use Rattle.std.proofs.lemmas.Bool.{eq-eqb, eqb-true, or_cases, or_left, or_right}
use Rattle.std.proofs.lemmas.List.{length-map}
use Rattle.std.proofs.lemmas.List.Elements.{Contains-append_cases, Contains-append_left, Contains-append_right}
use Rattle.il_code.specs.declared.body.Body.{Body}
use Rattle.il_code.specs.declared.body.Clause.{Clause}
use Rattle.il_code.specs.declared.body.Instr.{Instr}
use Rattle.il_code.specs.Listing.{targets_in}
use Rattle.il_code.specs.Reach.{AreReached, Leads, end_of, handlers_of, leads_of, next_of, tries}
use Rattle.il_code.proofs.Coming.{reached_by}
use Rattle.least_flow.specs.Solution.{row, IsRowBelow, IsSolution}
use Rattle.ty_terms.specs.declared.ty.Ty.{Ty}
use Rattle.il_stacks.specs.declared.effect.Effect.TheVariants.{Unknown}
use Rattle.il_stacks.specs.declared.effect.Handler.{Handler}
use Rattle.il_stacks.specs.declared.effect.Step.{Step}
use Rattle.il_stacks.specs.declared.stack.Stack.{Stack}
use Rattle.il_stacks.specs.declared.stack.Stack.TheVariants.{Slots, Clash}
use Rattle.il_stacks.specs.Bounds.{are_sound, slots_of_handler, slots_of_step}
use Rattle.il_stacks.specs.BoundLaws.{all_append}
use Rattle.il_stacks.specs.Effects.{behind}
use Rattle.il_stacks.specs.Flow.{AreLeastStacks, Passes, Starts, entry, passed}
use Rattle.il_stacks.specs.Flow.{tries as tries_of}
use Rattle.il_stacks.specs.Rounds.{stacks_by_rounds}
use Rattle.il_stacks.specs.Slots.{IsBelow, is_rising_slot}
use Rattle.il_stacks.proofs.Rounds.{rounds_find}
use Rattle.il_verify.specs.Flow.{bare_handler, bare_step, comes, is_among, reached_offsets}

-- ---- nothing is known but that control comes

abbrev objects : Ty → Bool
objects ty = false

bare_steps_sound : (code : List Instr) → list_all is_rising_slot (flat_map slots_of_step (map bare_step code)) ≡ true
bare_steps_sound [] = refl
bare_steps_sound (i ∷ code) = bare_steps_sound code

bare_handlers_sound : (clauses : List Clause)
    → list_all is_rising_slot (flat_map slots_of_handler (map bare_handler clauses)) ≡ true
bare_handlers_sound [] = refl
bare_handlers_sound (clause ∷ clauses) = bare_handlers_sound clauses

bare_sound : (code : List Instr) (clauses : List Clause)
    → are_sound (map bare_step code) (map bare_handler clauses) ≡ true
bare_sound code clauses =
    all_append is_rising_slot (flat_map slots_of_step (map bare_step code))
    (flat_map slots_of_handler (map bare_handler clauses)) (bare_steps_sound code) (bare_handlers_sound clauses)

-- ---- rows

-- any two facts are as good as each other
abbrev Any : Unit {0} → Unit {0} → Type 0
Any a b = Unit {0}

row_comes : (table : List (Option Stack)) (place : ℕ) → row (map comes table) place ≡ comes (row table place)
row_comes [] place = refl
row_comes (r ∷ table) zero = refl
row_comes (r ∷ table) (suc place) = row_comes table place

row_come : (fact : Stack) (r : Option Stack) → IsRowBelow IsBelow (Some fact) r → IsRowBelow Any (Some tt) (comes r)
row_come fact None h = absurd h
row_come fact (Some stack) h = tt

come_from : (r : Option Stack) → comes r ≡ Some tt → (stack : Stack) × (r ≡ Some stack)
come_from None e = cc
come_from (Some stack) e = (stack, refl)

-- a table of which nothing but a clash is known where control comes
abbrev clash : Option (Unit {0}) → Option Stack
clash r = option_map (λ come. Clash) r

row_clash : (table : List (Option (Unit {0}))) (place : ℕ) → row (map clash table) place ≡ clash (row table place)
row_clash [] place = refl
row_clash (r ∷ table) zero = refl
row_clash (r ∷ table) (suc place) = row_clash table place

below_clash : (fact : Stack) → IsBelow fact Clash
below_clash (Slots slots) = refl
below_clash Clash = refl

row_to_clash : (fact : Stack) (r : Option (Unit {0})) → IsRowBelow Any (Some tt) r
    → IsRowBelow IsBelow (Some fact) (clash r)
row_to_clash fact None h = absurd h
row_to_clash fact (Some come) h = below_clash fact

row_from_clash : (r : Option Stack) (s : Option (Unit {0})) → IsRowBelow IsBelow r (clash s)
    → IsRowBelow Any (comes r) s
row_from_clash None s h = tt
row_from_clash (Some stack) None h = absurd h
row_from_clash (Some stack) (Some come) h = tt

clash_from : (r : Option (Unit {0})) (stack : Stack) → clash r ≡ Some stack → (come : Unit {0}) × (r ≡ Some come)
clash_from None stack e = cc
clash_from (Some come) stack e = (come, refl)

-- ---- ways

contains_map : {X Y : Type 0} (f : X → Y) (xs : List X) (x : X) (k : ℕ) → k < length xs → slice_index_or xs k x ≡ x
    → Contains (map f xs) (f x)
contains_map f [] x k inside is = absurd (omega arith)
contains_map f (y ∷ xs) x zero inside is = (0, omega arith, ap f is)
contains_map f (y ∷ xs) x (suc k) inside is =
    let found = contains_map f xs x k (omega arith) is in
    (suc found.0, omega (arith, found.1), found.2)

contained_map : {X Y : Type 0} (f : X → Y) (xs : List X) (y : Y) (k : ℕ) → k < length (map f xs)
    → slice_index_or (map f xs) k y ≡ y → (x : X) × Contains xs x × (f x ≡ y)
contained_map f [] y k inside is = absurd (omega arith)
contained_map f (x ∷ xs) y zero inside is = (x, (0, omega arith, refl), is)
contained_map f (x ∷ xs) y (suc k) inside is =
    let found = contained_map f xs y k (omega arith) is in
    (found.0, (suc found.1.0, omega (arith, found.1.1), found.1.2), found.2)

-- the handlers of the clauses that hold an offset are the same, bare or not
bare_tries : (at : ℕ) (clauses : List Clause)
    → map (λ (h : Handler). h.at) (filter (tries_of at) (map bare_handler clauses)) ≡ handlers_of clauses at
bare_tries at [] = refl
bare_tries at (clause ∷ clauses) = by (tries at clause) (bare_tries at clauses)
  where
    by : (t : Bool)
        → map (λ (h : Handler). h.at) (filter (tries_of at) (map bare_handler clauses)) ≡ handlers_of clauses at
        → map (λ (h : Handler). h.at) (cond t (bare_handler clause ∷ filter (tries_of at) (map bare_handler clauses))
        (filter (tries_of at) (map bare_handler clauses)))
        ≡ map (λ (c : Clause). c.handler_at) (cond t (clause ∷ filter (tries at) clauses) (filter (tries at) clauses))
    by true rest = ap (λ l. clause.handler_at ∷ l) rest
    by false rest = rest

leads_pass : (clauses : List Clause) (i : Instr) (stack : Stack) (to : ℕ) → Contains (leads_of clauses i) to
    → (fact : Stack) × Contains (passed objects (map bare_handler clauses) (bare_step i) stack) (to, fact)
leads_pass clauses i stack to has =
    let ways : List ℕ = next_of i ++ targets_in i.operand in
    let after : Stack = behind objects Unknown stack in
    let onward : List (ℕ × Stack) = map (λ way. (way, after)) ways in
    let hs : List Handler = filter (tries_of i.at) (map bare_handler clauses) in
    elim (Contains-append_cases ways (handlers_of clauses i.at) to has) [
      | inl found ↦
          let there : Contains onward (to, after) =
          contains_map (λ way. (way, after)) ways to found.0 found.1 found.2 in
          (after, Contains-append_left onward (map entry hs) (to, after) there)
      | inr found ↦
          let bare : Contains (map (λ (h : Handler). h.at) hs) to =
          subst (λ l. Contains l to) (sym (bare_tries i.at clauses)) found in
          let held = contained_map (λ (h : Handler). h.at) hs to bare.0 bare.1 bare.2 in
          let fact : Stack = (entry held.0).1 in
          let there : Contains (map entry hs) (held.0.at, fact) =
          contains_map entry hs held.0 held.1.0 held.1.1 held.1.2 in
          let here : Contains (map entry hs) (to, fact) =
          subst (λ t. Contains (map entry hs) (t, fact)) held.2 there in
          (fact, Contains-append_right onward (map entry hs) (to, fact) here)
    ]

pass_leads : (clauses : List Clause) (i : Instr) (stack : Stack) (to : ℕ) (fact : Stack)
    → Contains (passed objects (map bare_handler clauses) (bare_step i) stack) (to, fact)
    → Contains (leads_of clauses i) to
pass_leads clauses i stack to fact has =
    let ways : List ℕ = next_of i ++ targets_in i.operand in
    let after : Stack = behind objects Unknown stack in
    let onward : List (ℕ × Stack) = map (λ way. (way, after)) ways in
    let hs : List Handler = filter (tries_of i.at) (map bare_handler clauses) in
    elim (Contains-append_cases onward (map entry hs) (to, fact) has) [
      | inl found ↦
          let held = contained_map (λ way. (way, after)) ways (to, fact) found.0 found.1 found.2 in
          let same : held.0 ≡ to = ap (λ (f : ℕ × Stack). f.0) held.2 in
          Contains-append_left ways (handlers_of clauses i.at) to (subst (Contains ways) same held.1)
      | inr found ↦
          let held = contained_map entry hs (to, fact) found.0 found.1 found.2 in
          let same : held.0.at ≡ to = ap (λ (f : ℕ × Stack). f.0) held.2 in
          let there : Contains (map (λ (h : Handler). h.at) hs) held.0.at =
          contains_map (λ (h : Handler). h.at) hs held.0 held.1.0 held.1.1 held.1.2 in
          let bare : Contains (handlers_of clauses i.at) held.0.at =
          subst (λ l. Contains l held.0.at) (bare_tries i.at clauses) there in
          Contains-append_right ways (handlers_of clauses i.at) to
          (subst (Contains (handlers_of clauses i.at)) same bare)
    ]

leads_passes : (code : List Instr) (clauses : List Clause) (place : ℕ) (stack : Stack) (to : ℕ)
    → Leads code clauses place to
    → (fact : Stack) × Passes objects (map bare_step code) (map bare_handler clauses) place stack to fact
leads_passes code clauses place stack to leads =
    let i : Instr = leads.0 in
    let found = leads_pass clauses i stack to leads.3 in
    (found.0, (bare_step i, contains_map bare_step code i leads.1.0 leads.1.1 leads.1.2, leads.2, found.1))

passes_lead : (code : List Instr) (clauses : List Clause) (place : ℕ) (stack : Stack) (to : ℕ) (fact : Stack)
    → Passes objects (map bare_step code) (map bare_handler clauses) place stack to fact → Leads code clauses place to
passes_lead code clauses place stack to fact passes =
    let held = contained_map bare_step code passes.0 passes.1.0 passes.1.1 passes.1.2 in
    let at : held.0.at ≡ place = ap (λ (s : Step). s.at) held.2 ∙ passes.2 in
    let has : Contains (passed objects (map bare_handler clauses) (bare_step held.0) stack) (to, fact) =
    subst (λ (s : Step). Contains (passed objects (map bare_handler clauses) s stack) (to, fact)) (sym held.2)
    passes.3 in
    (held.0, held.1, at, pass_leads clauses held.0 stack to fact has)

-- ---- the least solution

abbrev Comes : ℕ → Unit {0} → Type 0
Comes place come = place ≡ 0

abbrev Leading : List Instr → List Clause → ℕ → Unit {0} → ℕ → Unit {0} → Type 0
Leading code clauses place come to come' = Leads code clauses place to

bare_solution : (code : List Instr) (clauses : List Clause) (table : List (Option Stack))
    → IsSolution IsBelow Starts (Passes objects (map bare_step code) (map bare_handler clauses)) table
    → IsSolution Any Comes (Leading code clauses) (map comes table)
bare_solution code clauses table solution =
    record {
      started = λ place come start inside.
          subst (IsRowBelow Any (Some tt)) (sym (row_comes table place))
          (row_come (Slots []) (row table place)
          (solution.started place (Slots []) (start, refl) (omega (arith, inside, length-map table comes))));
      closed = λ place come is to come' leads inside.
          let known = come_from (row table place) (sym (row_comes table place) ∙ is) in
          let found = leads_passes code clauses place known.0 to leads in
          subst (IsRowBelow Any (Some tt)) (sym (row_comes table to))
          (row_come found.0 (row table to)
          (solution.closed place known.0 known.1 to found.0 found.1 (omega (arith, inside, length-map table comes))));
    }

clash_solution : (code : List Instr) (clauses : List Clause) (table : List (Option (Unit {0})))
    → IsSolution Any Comes (Leading code clauses) table
    → IsSolution IsBelow Starts (Passes objects (map bare_step code) (map bare_handler clauses)) (map clash table)
clash_solution code clauses table solution =
    record {
      started = λ place fact starts inside.
          subst (IsRowBelow IsBelow (Some fact)) (sym (row_clash table place))
          (row_to_clash fact (row table place)
          (solution.started place tt starts.0 (omega (arith, inside, length-map table clash))));
      closed = λ place known is to fact passes inside.
          let come = clash_from (row table place) known (sym (row_clash table place) ∙ is) in
          subst (IsRowBelow IsBelow (Some fact)) (sym (row_clash table to))
          (row_to_clash fact (row table to)
          (solution.closed place come.0 come.1 to tt (passes_lead code clauses place known to fact passes)
          (omega (arith, inside, length-map table clash))));
    }

pub reached_found : (body : Body) → AreReached body.code body.clauses (reached_offsets body)
reached_found body =
    let code : List Instr = body.code in
    let clauses : List Clause = body.clauses in
    let steps : List Step = map bare_step code in
    let handlers : List Handler = map bare_handler clauses in
    let table : List (Option Stack) = stacks_by_rounds objects steps handlers (end_of code) in
    let found : AreLeastStacks objects steps handlers (end_of code) table =
    rounds_find objects steps handlers (end_of code) (bare_sound code clauses) in
    reached_by code clauses (map comes table) (length-map table comes ∙ found.long)
    (record {
      solution = bare_solution code clauses table found.least.solution;
      least = λ other size solution place.
          subst (λ r. IsRowBelow Any r (row other place)) (sym (row_comes table place))
          (row_from_clash (row table place) (row other place)
          (subst (IsRowBelow IsBelow (row table place)) (row_clash other place)
          (found.least.least (map clash other)
          (length-map other clash ∙ (size ∙ length-map table comes))
          (clash_solution code clauses other solution) place)));
    })

-- ---- offsets as a set

among_from : (offsets : List ℕ) (x : ℕ) → is_among offsets x ≡ true → Contains offsets x
among_from [] x h = cc
among_from (offset ∷ rest) x h =
    elim (or_cases (offset == x) (is_among rest x) h) [
      | inl here ↦ (0, omega arith, eqb-true offset x here)
      | inr there ↦
          let found = among_from rest x there in
          (suc found.0, omega (arith, found.1), found.2)
    ]

among_to : (offsets : List ℕ) (x k : ℕ) → k < length offsets → slice_index_or offsets k x ≡ x
    → is_among offsets x ≡ true
among_to [] x k inside is = absurd (omega arith)
among_to (offset ∷ rest) x zero inside is = or_left (offset == x) (is_among rest x) (eq-eqb offset x is)
among_to (offset ∷ rest) x (suc k) inside is =
    or_right (offset == x) (is_among rest x) (among_to rest x k (omega arith) is)

same_tests : (t t' : Bool) → (t ≡ true → t' ≡ true) → (t' ≡ true → t ≡ true) → t ≡ t'
same_tests true t' h h' = sym (h refl)
same_tests false true h h' = h' refl
same_tests false false h h' = refl

-- two lists of the offsets that control reaches have the same ones
pub alike : (body : Body) (offsets : List ℕ) → AreReached body.code body.clauses offsets → (x : ℕ)
    → is_among offsets x ≡ is_among (reached_offsets body) x
alike body offsets reached x =
    let found : AreReached body.code body.clauses (reached_offsets body) = reached_found body in
    same_tests (is_among offsets x) (is_among (reached_offsets body) x)
    (λ h.
    let there = reached.least (reached_offsets body) found.closed x (among_from offsets x h) in
    among_to (reached_offsets body) x there.0 there.1 there.2)
    (λ h.
    let there = found.least offsets reached.closed x (among_from (reached_offsets body) x h) in
    among_to offsets x there.0 there.1 there.2)

use Rattle.std.proofs.Common.{◌≡◌, ◌∙◌, ◌+◌, [], ◌∷◌, ◌++◌, ℕ, All, Contains, List, append_assoc, ap, sym, subst, arith}
use Rattle.std.proofs.Common.{rules}
use Rattle.std.proofs.lemmas.List.Elements.{All-cons, All-contains, All-nil, Contains-append_left, Contains-push}
use Rattle.least_flow.specs.Telling.{known_places}
use Rattle.least_flow.proofs.Raising.{told-none, told-more}
use Rattle.least_flow.proofs.solve.tell.Goals as goal

pub loop-place-init : goal.loop-place-init
loop-place-init g c =
    let flow = c.args.flow.now in
    let facts : List (ℕ × g.row.F-Fact.Denot) = c.args.facts.items in
    let front : facts ≡ facts ++ [] = search rules in
    record {
      size = c.requires.size;
      within = c.requires.within;
      told = (
        [],
        front,
        told-none g.F.Flow.is_below (g.F.Flow.is_within flow)
            (g.F.Flow.rank flow) g.met.F.Flow.reflexive [] c.args.table.now c.args.waiting.now.items (All-nil _)
            (g.met.F.Flow.widens flow),
      );
    }

popped : {X : Type 0} (P : X → Type 0) (all left rest done : List X) (x : X) → all ≡ left ++ done
    → left ≡ rest ++ x ∷ [] → All P all → P x
popped P all left rest done x e e' h =
    let there : Contains left x = subst (λ l. Contains l x) (sym e') (Contains-push rest x) in
    All-contains P all x h (subst (λ l. Contains l x) (sym e) (Contains-append_left left done x there))

moved : {X : Type 0} (all left rest done : List X) (x : X) → all ≡ left ++ done → left ≡ rest ++ x ∷ []
    → all ≡ rest ++ (x ∷ done)
moved all left rest done x e e' = e ∙ (ap (λ l. l ++ done) e' ∙ append_assoc rest (x ∷ []) done)

pub tell_one-requires-clause-fact : goal.tell_one-requires-clause-fact
tell_one-requires-clause-fact g c =
    let flow = c.args.flow.now in
    let told = c.loop-place.invariant.told in
    let fact : g.row.F-Fact.Denot = c.in-Some.fact in
    g.met.F.Flow.widens flow (known_places c.args.table.now + 1) (known_places c.loop-place.table + 1) fact
    (omega (arith, told.2.kept_known))
    (popped (λ f. g.F.Flow.is_within flow (known_places c.args.table.now + 1) f.1) c.args.facts.items
    c.loop-place.facts.items c.pop.new.self.items told.0 (c.in-Some.place, fact) told.1 c.in-Some.ensures.items
    c.requires.facts)

pub loop-place-preserved : goal.loop-place-preserved
loop-place-preserved g c =
    let flow = c.args.flow.now in
    let told = c.loop-place.invariant.told in
    let fact : g.row.F-Fact.Denot = c.in-Some.fact in
    let x : ℕ × g.row.F-Fact.Denot = (c.in-Some.place, fact) in
    let near : g.F.Flow.is_within flow (known_places c.loop-place.table + 1) fact =
    g.met.F.Flow.widens flow (known_places c.args.table.now + 1) (known_places c.loop-place.table + 1) fact
    (omega (arith, told.2.kept_known))
    (popped (λ f. g.F.Flow.is_within flow (known_places c.args.table.now + 1) f.1) c.args.facts.items
    c.loop-place.facts.items c.pop.new.self.items told.0 x told.1 c.in-Some.ensures.items c.requires.facts) in
    let both = told-more g.F.Flow.is_below (g.F.Flow.is_within flow) (g.F.Flow.rank flow) g.met.F.Flow.transitive
    (g.met.F.Flow.widens flow) x told.0 c.args.table.now c.loop-place.table c.tell_one.new.table
    c.args.waiting.now.items c.loop-place.waiting.items c.tell_one.new.waiting.items told.2
    c.in_ok-tell_one.ensures in
    record {
      size = c.in_ok-tell_one.ensures.size ∙ c.loop-place.invariant.size;
      within = c.in_ok-tell_one.ensures.within c.loop-place.invariant.within
          (All-cons (λ f. g.F.Flow.is_within flow (known_places c.loop-place.table + 1) f.1) x [] near (All-nil _));
      told = (
        x ∷ told.0,
        moved c.args.facts.items c.loop-place.facts.items c.pop.new.self.items told.0 x told.1
            c.in-Some.ensures.items,
        both,
      );
    }

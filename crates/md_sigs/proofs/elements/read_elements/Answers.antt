use Rattle.std.proofs.Common.{rules, ◌≡◌, ◌∷◌, ◌++◌, [], ◌<◌, ℕ, Option, None, Ok, Err, List, length, sym, subst}
use Rattle.std.proofs.Common.{◌∙◌}
use Rattle.md_sigs.specs.Elements.{element_at}
use Rattle.md_sigs.specs.Grammar.{opened}
use Rattle.md_sigs.specs.Reading.{IsNext, places_of}
use Rattle.md_sigs.specs.declared.element.Element.{Element}
use Rattle.md_sigs.specs.declared.element.Place.{Place}
use Rattle.md_sigs.specs.declared.element.Stop.{Stop}
use Rattle.md_sigs.proofs.Exact.{IsReadBy, reads_more, reads_stop, reads_all, reads_on}
use Rattle.md_sigs.proofs.Standing.{IsReadSoFar, ends_here, goes_on_behind, one_more, stops_here, stops_so_far}
use Rattle.md_sigs.proofs.Standing.{takes_some}
use Rattle.md_sigs.proofs.elements.read_elements.Goals as goal

pub loop-elements-smaller : goal.loop-elements-smaller
loop-elements-smaller c =
    let read : element_at c.args.module c.in-Some.place c.loop-elements.rest.now
    ≡ Ok (c.in-Ok.element, c.in-Ok.behind.now) =
    search rules in
    takes_some c.args.module c.in-Some.place c.loop-elements.rest.now c.in-Ok.behind.now c.in-Ok.element read

pub loop-elements-preserved : goal.loop-elements-preserved
loop-elements-preserved c =
    let m : ℕ = c.args.module in
    let places : List Place = places_of c.args.waiting.now.items in
    let bytes : List ℕ = c.args.bytes.now in
    let elements : List Element = c.loop-elements.elements.items in
    let place : Place = c.in-Some.place in
    let waiting : List Place = places_of c.next_place.new.waiting.items in
    let rest : List ℕ = c.loop-elements.rest.now in
    let behind : List ℕ = c.in-Ok.behind.now in
    let e : Element = c.in-Ok.element in
    let next : places_of c.loop-elements.waiting.items ≡ place ∷ waiting =
    subst (λ (o : Option Place). IsNext (places_of c.loop-elements.waiting.items) o waiting) c.in-Some.is
    c.in_ok-place.ensures in
    let read : element_at m place rest ≡ Ok (e, behind) = search rules in
    let pushed : c.push.new.self.items ≡ elements ++ e ∷ [] = search rules in
    let open_ : places_of c.open.new.waiting.items ≡ opened e place ++ waiting = c.in_ok-open-in-Ok.ensures in
    let so_far : IsReadSoFar m places bytes elements (place ∷ waiting) rest =
    subst (λ (w : List Place). IsReadSoFar m places bytes elements w rest) next c.loop-elements.invariant.so_far in
    let exact : IsReadBy m places bytes elements (place ∷ waiting) rest =
    subst (λ (w : List Place). IsReadBy m places bytes elements w rest) next c.loop-elements.invariant.exact in
    let shorter : length behind < length rest = takes_some m place rest behind e read in
    record {
      so_far =
          subst (λ (l : List Element). IsReadSoFar m places bytes l (places_of c.open.new.waiting.items) behind)
          (sym pushed)
          (subst (λ (w : List Place). IsReadSoFar m places bytes (elements ++ e ∷ []) w behind) (sym open_)
          (one_more m places bytes elements place waiting rest behind e so_far read));
      exact =
          subst (λ (l : List Element). IsReadBy m places bytes l (places_of c.open.new.waiting.items) behind)
          (sym pushed)
          (subst (λ (w : List Place). IsReadBy m places bytes (elements ++ e ∷ []) w behind) (sym open_)
          (reads_more m places bytes elements place waiting rest behind e exact read shorter));
    }

pub returns-in-Err : goal.returns-in-Err
returns-in-Err c =
    let m : ℕ = c.args.module in
    let places : List Place = places_of c.args.waiting.now.items in
    let bytes : List ℕ = c.args.bytes.now in
    let elements : List Element = c.loop-elements.elements.items in
    let place : Place = c.in-Some.place in
    let waiting : List Place = places_of c.next_place.new.waiting.items in
    let rest : List ℕ = c.loop-elements.rest.now in
    let stop : Stop = c.in-Err.stop in
    let next : places_of c.loop-elements.waiting.items ≡ place ∷ waiting =
    subst (λ (o : Option Place). IsNext (places_of c.loop-elements.waiting.items) o waiting) c.in-Some.is
    c.in_ok-place.ensures in
    let read : element_at m place rest ≡ Err stop = search rules in
    let so_far : IsReadSoFar m places bytes elements (place ∷ waiting) rest =
    subst (λ (w : List Place). IsReadSoFar m places bytes elements w rest) next c.loop-elements.invariant.so_far in
    let exact : IsReadBy m places bytes elements (place ∷ waiting) rest =
    subst (λ (w : List Place). IsReadBy m places bytes elements w rest) next c.loop-elements.invariant.exact in
    record {
      spelled =
          stops_so_far m places bytes elements (place ∷ waiting) rest stop so_far
          (stops_here m place waiting rest stop read);
      exact = reads_stop m places bytes elements place waiting rest stop exact read;
    }

pub returns-then-is_empty : goal.returns-then-is_empty
returns-then-is_empty c =
    let waiting : List Place = places_of c.loop-elements.waiting.items in
    let none : IsNext waiting None (places_of c.next_place.new.waiting.items) =
    subst (λ (o : Option Place). IsNext waiting o (places_of c.next_place.new.waiting.items)) c.in_default.is
    c.in_ok-place.ensures in
    record {
      spelled =
          ends_here c.args.module (places_of c.args.waiting.now.items) c.args.bytes.now c.loop-elements.elements.items
          waiting c.loop-elements.rest.now c.loop-elements.invariant.so_far none.0
          (sym c.is_empty.ensures ∙ c.if-is_empty.true);
      exact =
          reads_all c.args.module (places_of c.args.waiting.now.items) c.args.bytes.now c.loop-elements.elements.items
          waiting c.loop-elements.rest.now c.loop-elements.invariant.exact none.0
          (sym c.is_empty.ensures ∙ c.if-is_empty.true);
    }

pub returns-else-is_empty : goal.returns-else-is_empty
returns-else-is_empty c =
    let waiting : List Place = places_of c.loop-elements.waiting.items in
    let none : IsNext waiting None (places_of c.next_place.new.waiting.items) =
    subst (λ (o : Option Place). IsNext waiting o (places_of c.next_place.new.waiting.items)) c.in_default.is
    c.in_ok-place.ensures in
    record {
      spelled =
          goes_on_behind c.args.module (places_of c.args.waiting.now.items) c.args.bytes.now
          c.loop-elements.elements.items waiting c.loop-elements.rest.now c.loop-elements.invariant.so_far none.0
          (sym c.is_empty.ensures ∙ c.if-is_empty.false);
      exact =
          reads_on c.args.module (places_of c.args.waiting.now.items) c.args.bytes.now c.loop-elements.elements.items
          waiting c.loop-elements.rest.now c.loop-elements.invariant.exact none.0
          (sym c.is_empty.ensures ∙ c.if-is_empty.false);
    }

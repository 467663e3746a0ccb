-- What holds while elements are read one behind another.
use Rattle.std.proofs.Common.{◌≡◌, ◌∙◌, ◌++◌, ◌∷◌, ◌<◌, [], ℕ, List, length, Ok, Err, refl, ap, sym}
use Rattle.std.proofs.Common.{subst, inl, inr, append_assoc, append-nil, arith, true, false, true≢false, nat_eq}
use Rattle.std.proofs.Common.{eqb-true}
use Rattle.ty_terms.specs.declared.ty.Primitive.{Primitive}
use Rattle.md_sigs.specs.Elements.{element_at}
use Rattle.md_sigs.specs.Grammar.{AreSpelled, IsSpelled, opened}
use Rattle.md_sigs.specs.Refusal.{Begins, IsElementOutside}
use Rattle.md_sigs.specs.Reading.{IsStopped}
use Rattle.md_sigs.specs.declared.element.Element.{Element}
use Rattle.md_sigs.specs.declared.element.Place.{Place}
use Rattle.md_sigs.specs.declared.element.Stop.{Stop}
use Rattle.md_sigs.proofs.Bytes.{eight, is_reader-element}
use Rattle.md_sigs.proofs.Languages.{Leads, leads-refl, leads-trans, stopped_so, stopped_behind}
use Rattle.md_sigs.proofs.Readers.{done, Closed, Open, Taken, ok_is_no_err, pair_of, u8, shorter}

no_cons : {A : Type 0} {x : A} {xs : List A} → x ∷ xs ≡ [] → ⊥
no_cons h = cc

-- any places can be filled
pub fills : (m : ℕ) (places : List Place) → (bytes : List ℕ) × AreSpelled m places bytes
fills m [] = ([], ([], refl))
fills m (place ∷ places) =
    let f : (bytes : List ℕ) × AreSpelled m places bytes = fills m places in
    (0x08 ∷ f.0, (Element.Primitive Primitive.I4 ∷ f.1.0, (f.0, eight m place f.0, f.1.1)))

module _ (m : ℕ) (place : Place) (places : List Place) where
  -- what begins an element begins these places
  begins_places : (bytes : List ℕ) → Begins (Closed (element_at m place)) bytes
      → Begins (AreSpelled m (place ∷ places)) bytes
  begins_places bytes b =
      let e : Element = b.1.0 in
      let t : Taken (element_at m place) (bytes ++ b.0) [] e =
      (is_reader-element m place).taken (bytes ++ b.0) [] e b.1.1 in
      let f : (bytes : List ℕ) × AreSpelled m (opened e place ++ places) bytes = fills m (opened e place ++ places) in
      let same : bytes ++ (b.0 ++ f.0) ≡ t.seen ++ f.0 =
      sym (append_assoc bytes b.0 f.0) ∙ ap (λ l. l ++ f.0) (t.joined ∙ append-nil t.seen) in
      (b.0 ++ f.0, (e ∷ f.1.0, (f.0, ap (element_at m place) same ∙ t.again f.0, f.1.1)))

  open_place : (bytes : List ℕ) → AreSpelled m (place ∷ places) bytes → Open (element_at m place) bytes
  open_place bytes s = by s.0 s.1
    where
      by : (elements : List Element) → IsSpelled m (place ∷ places) bytes elements → Open (element_at m place) bytes
      by [] s = absurd s
      by (e ∷ elements) s = ((e, s.0), s.1)

  -- where no element stands, nothing does at these places
  pub stops_here : (bytes : List ℕ) (stop : Stop) → element_at m place bytes ≡ Err stop
      → IsStopped (AreSpelled m (place ∷ places)) bytes stop
  stops_here bytes stop h =
      stopped_so (Closed (element_at m place)) (Open (element_at m place)) (AreSpelled m (place ∷ places))
      (AreSpelled m (place ∷ places)) begins_places open_place bytes stop
      ((is_reader-element m place).stops bytes stop h)

  -- an element leads on to the places that it opens
  leads_on : (bytes rest : List ℕ) (e : Element) → element_at m place bytes ≡ Ok (e, rest)
      → Leads (AreSpelled m (place ∷ places)) (AreSpelled m (place ∷ places)) (AreSpelled m (opened e place ++ places))
      (AreSpelled m (opened e place ++ places)) bytes rest
  leads_on bytes rest e h =
      let t : Taken (element_at m place) bytes rest e = (is_reader-element m place).taken bytes rest e h in
      record {
        seen = t.seen;
        joined = t.joined;
        there = λ more s. (e ∷ s.0, (more, t.again more, s.1));
        back = λ more s. back (t.seen ++ more) more (t.again more) s.0 s.1;
      }
    where
      back : (bytes more : List ℕ) → element_at m place bytes ≡ Ok (e, more) → (elements : List Element)
          → IsSpelled m (place ∷ places) bytes elements → AreSpelled m (opened e place ++ places) more
      back bytes more again [] s = absurd s
      back bytes more again (e' ∷ elements) s =
          let same : done (e', s.0) ≡ Ok (e, more) = sym s.1 ∙ again in (
            elements,
            subst (λ (x : Element × List ℕ). IsSpelled m (opened x.0 place ++ places) x.1 elements)
                (pair_of same) s.2,
          )

-- nothing goes on behind the last place
pub stops_behind : (m x : ℕ) (rest : List ℕ) → IsStopped (AreSpelled m []) (x ∷ rest) (Stop.Bad (length (x ∷ rest)))
stops_behind m x rest = record {
  seen = [];
  left = x ∷ rest;
  joined = refl;
  begun = ([], ([], refl));
  ended = none x;
  by = (refl, not_outside);
}
  where
    none : (y : ℕ) → Begins (AreSpelled m []) (y ∷ []) → ⊥
    none y b = by b.1.0 b.1.1
      where
        by : (elements : List Element) → IsSpelled m [] (y ∷ b.0) elements → ⊥
        by [] s = no_cons s
        by (e ∷ elements) s = s

    not_outside : IsElementOutside (AreSpelled m []) [] x → ⊥
    not_outside (inl o) = none 0x0B (o.1 0x0B Primitive.U8 u8)
    not_outside (inr o) = none 0x01 o.1

-- So far these elements were read, and these places wait for what is left.
pub record IsReadSoFar (m : ℕ) (places : List Place) (bytes : List ℕ) (elements : List Element) (waiting : List Place)
    (rest : List ℕ) : Type 0 where
  pub leads : Leads (AreSpelled m places) (AreSpelled m places) (AreSpelled m waiting) (AreSpelled m waiting) bytes rest
  pub gathers : (behind : List Element) → IsSpelled m waiting rest behind
      → IsSpelled m places bytes (elements ++ behind)

pub none_read : (m : ℕ) (places : List Place) (bytes : List ℕ) → IsReadSoFar m places bytes [] places bytes
none_read m places bytes = record {
  leads = leads-refl (AreSpelled m places) (AreSpelled m places) bytes;
  gathers = λ behind s. s;
}

pub one_more : (m : ℕ) (places : List Place) (bytes : List ℕ) (elements : List Element) (place : Place)
    (waiting : List Place) (rest behind : List ℕ) (e : Element)
    → IsReadSoFar m places bytes elements (place ∷ waiting) rest → element_at m place rest ≡ Ok (e, behind)
    → IsReadSoFar m places bytes (elements ++ e ∷ []) (opened e place ++ waiting) behind
one_more m places bytes elements place waiting rest behind e so_far h = record {
  leads =
      leads-trans (AreSpelled m places) (AreSpelled m (place ∷ waiting)) (AreSpelled m (opened e place ++ waiting))
      bytes
      rest behind so_far.leads (leads_on m place waiting rest behind e h);
  gathers =
      λ more s. subst (IsSpelled m places bytes) (sym (append_assoc elements (e ∷ []) more))
      (so_far.gathers (e ∷ more) (behind, h, s));
}

pub all_read : (m : ℕ) (places : List Place) (bytes : List ℕ) (elements : List Element)
    → IsReadSoFar m places bytes elements [] [] → IsSpelled m places bytes elements
all_read m places bytes elements so_far =
    subst (IsSpelled m places bytes) (append-nil elements) (so_far.gathers [] refl)

pub stops_so_far : (m : ℕ) (places : List Place) (bytes : List ℕ) (elements : List Element) (waiting : List Place)
    (rest : List ℕ) (stop : Stop) → IsReadSoFar m places bytes elements waiting rest
    → IsStopped (AreSpelled m waiting) rest stop → IsStopped (AreSpelled m places) bytes stop
stops_so_far m places bytes elements waiting rest stop so_far s =
    stopped_behind (AreSpelled m places) (AreSpelled m places) (AreSpelled m waiting) (AreSpelled m waiting) bytes rest
    so_far.leads stop s

-- where no place waits, all is read, or what is left can't go on
pub ends_here : (m : ℕ) (places : List Place) (bytes : List ℕ) (elements : List Element) (waiting : List Place)
    (rest : List ℕ) → IsReadSoFar m places bytes elements waiting rest → waiting ≡ [] → nat_eq (length rest) 0 ≡ true
    → IsSpelled m places bytes elements
ends_here m places bytes elements waiting [] so_far none empty =
    all_read m places bytes elements
    (subst (λ (w : List Place). IsReadSoFar m places bytes elements w []) none so_far)
ends_here m places bytes elements waiting (x ∷ rest) so_far none empty =
    absurd (omega (arith, eqb-true (length (x ∷ rest)) 0 empty))

pub goes_on_behind : (m : ℕ) (places : List Place) (bytes : List ℕ) (elements : List Element) (waiting : List Place)
    (rest : List ℕ) → IsReadSoFar m places bytes elements waiting rest → waiting ≡ [] → nat_eq (length rest) 0 ≡ false
    → IsStopped (AreSpelled m places) bytes (Stop.Bad (length rest))
goes_on_behind m places bytes elements waiting [] so_far none some = absurd (true≢false some)
goes_on_behind m places bytes elements waiting (x ∷ rest) so_far none some =
    stops_so_far m places bytes elements [] (x ∷ rest) (Stop.Bad (length (x ∷ rest)))
    (subst (λ (w : List Place). IsReadSoFar m places bytes elements w (x ∷ rest)) none so_far) (stops_behind m x rest)

-- an element takes a byte at least
pub takes_some : (m : ℕ) (place : Place) (bytes rest : List ℕ) (e : Element) → element_at m place bytes ≡ Ok (e, rest)
    → length rest < length bytes
takes_some m place bytes rest e h =
    shorter (element_at m place) bytes rest e ((is_reader-element m place).taken bytes rest e h)
    (λ o. ok_is_no_err (sym o.1))

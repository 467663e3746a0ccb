-- Marks told for some things, one after another.
use Rattle.std.proofs.Common.{◌≡◌, ◌⊎◌, inl, inr, List, [], ◌∷◌, ◌++◌, Contains, length, sym, subst}
use Rattle.std.proofs.Common.{arith}
use Rattle.std.proofs.lemmas.List.Elements.{All-contains, Contains-append_left, Contains-push, Contains-push_cases}
use Rattle.dep_core.specs.declared.mark.Mark.{Mark}
use Rattle.dep_core.specs.UnderWay.{AreTold, Tells}
use Rattle.dep_core.proofs.Lists.{all_from_contains, popped_cases}

-- of some things these are left
pub record IsTelling {N X : Type 0} (mark : X → Mark N) (xs left : List X) (told told' : List (Mark N)) : Type 0 where
  pub rest : (x : X) → Contains left x → Contains xs x
  pub kept : (m : Mark N) → Contains told m → Contains told' m
  pub only : (m : Mark N) → Contains told' m → Contains told m ⊎ ((x : X) × Contains xs x × (m ≡ mark x))
  pub all : (x : X) → Contains xs x → Contains left x ⊎ Contains told' (mark x)

module _ {N X : Type 0} (mark : X → Mark N) (xs : List X) where
  pub telling_none : (told : List (Mark N)) → IsTelling mark xs xs told told
  telling_none told = record { rest = λ x h. h; kept = λ m h. h; only = λ m h. inl h; all = λ x h. inl h }

  pub telling_more : (left rest : List X) (x : X) (told mid new : List (Mark N)) → left ≡ rest ++ x ∷ []
      → new ≡ mid ++ mark x ∷ [] → IsTelling mark xs left told mid → IsTelling mark xs rest told new
  telling_more left rest x told mid new left-is new-is t =
      let in-left : (y : X) → Contains rest y → Contains left y = λ y h.
      subst (λ l. Contains l y) (sym left-is) (Contains-append_left rest (x ∷ []) y h) in
      let there : Contains left x = subst (λ l. Contains l x) (sym left-is) (Contains-push rest x) in
      let more : (m : Mark N) → Contains mid m → Contains new m = λ m h.
      subst (λ l. Contains l m) (sym new-is) (Contains-append_left mid (mark x ∷ []) m h) in
      record {
        rest = λ y h. t.rest y (in-left y h);
        kept = λ m h. more m (t.kept m h);
        only = λ m h. elim (Contains-push_cases mid (mark x) m (subst (λ l. Contains l m) new-is h)) [
          | inl earlier ↦ t.only m earlier
          | inr same ↦ inr (x, t.rest x there, sym same)
        ];
        all = λ y h. elim (t.all y h) [
          | inr told' ↦ inr (more (mark y) told')
          | inl waits ↦ elim (popped_cases left rest x y left-is waits) [
            | inl still ↦ inl still
            | inr same ↦ inr (subst (λ z. Contains new (mark z)) same
                (subst (λ l. Contains l (mark x)) (sym new-is) (Contains-push mid (mark x))))
          ]
        ];
      }

  pub telling_all : (left : List X) (told told' : List (Mark N)) → length left ≡ 0 → IsTelling mark xs left told told'
      → AreTold mark xs told told'
  telling_all left told told' none t = record {
    kept = t.kept;
    only = t.only;
    all = λ x h. elim (t.all x h) [ inl waits ↦ absurd (omega (arith, waits.1, none)) | inr done ↦ done ];
  }

  -- the marks name their rows, if each one of the things has its row
  pub tells : (Names : Mark N → Type 0) (Due : N → Type 0) (told told' : List (Mark N)) → AreTold mark xs told told'
      → ((x : X) → Contains xs x → Names (mark x))
      → ((n : N) → Due n → (x : X) × Contains xs x × ((mark x).node ≡ n)) → Tells Names Due told told'
  tells Names Due told told' t named due = record {
    kept = λ n h. (h.0, t.kept h.0 h.1, h.2);
    named = λ all. all_from_contains Names told' (λ m h. elim (t.only m h) [
      | inl earlier ↦ All-contains Names told m all earlier
      | inr new ↦ subst Names (sym new.2) (named new.0 new.1)
    ]);
    due = λ n d. let by = due n d in (mark by.0, t.all by.0 by.1, by.2);
  }

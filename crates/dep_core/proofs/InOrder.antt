-- Items that are read one after another, in the order of their places.
use Rattle.std.proofs.Common.{◌≡◌, ℕ, zero, suc, ◌+◌, ◌≤◌, List, [], ◌∷◌, ◌++◌, length, slice_get, Option, Some, None}
use Rattle.std.proofs.Common.{refl, sym, ap, ◌∙◌, subst, arith, append_assoc, length-append}
use Rattle.std.proofs.lemmas.List.{length_push}
use Rattle.std.specs.List.{range_with_len}
use Rattle.std.specs.Iterator.{SkipsThenYields, Yields, YieldsFirst}

pub range_push : (a n : ℕ) → range_with_len a n ++ (a + n) ∷ [] ≡ range_with_len a (suc n)
range_push a zero = ap (λ k. k ∷ []) (omega arith)
range_push a (suc n) =
    let same : a + suc n ≡ (a + 1) + n = omega arith in
    ap (λ k. a ∷ (range_with_len (a + 1) n ++ k ∷ [])) same ∙ ap (λ l. a ∷ l) (range_push (a + 1) n)

module _ {X : Type 0} where
  -- of all these were read, and the places of the others are left
  abbrev pub AreReadUpTo : List X → List X → List ℕ → Type 0
  AreReadUpTo all done left = (more : List X) × (all ≡ done ++ more)
      × (left ≡ range_with_len (length done) (length more))

  get_middle : (xs more : List X) (x : X) → slice_get (xs ++ x ∷ more) (length xs) ≡ Some x
  get_middle [] more x = refl
  get_middle (y ∷ xs) more x = get_middle xs more x

  -- the next place is that of the next item
  pub record ReadsNext (all done : List X) (place : ℕ) (rest : List ℕ) : Type 0 where
    pub here : X
    pub is : slice_get all place ≡ Some here
    pub goes : AreReadUpTo all (done ++ here ∷ []) rest

  pub reads_next : (all done : List X) (left : List ℕ) (place : ℕ) (rest : List ℕ) → AreReadUpTo all done left
      → left ≡ place ∷ rest → ReadsNext all done place rest
  reads_next all done left place rest read e = by read.0 read.1 (sym e ∙ read.2)
    where
      by : (more : List X) → all ≡ done ++ more → place ∷ rest ≡ range_with_len (length done) (length more)
          → ReadsNext all done place rest
      by [] whole at = cc
      by (x ∷ more) whole at =
          let first : place ≡ length done = cc in
          let others : rest ≡ range_with_len (length done + 1) (length more) = cc in
          let long : length (done ++ x ∷ []) ≡ length done + 1 = omega (arith, length_push done x) in
          record {
            here = x;
            is = subst (λ l. slice_get l place ≡ Some x) (sym whole)
                (subst (λ k. slice_get (done ++ x ∷ more) k ≡ Some x) (sym first) (get_middle done more x));
            goes = (
              more,
              whole ∙ sym (append_assoc done (x ∷ []) more),
              others ∙ ap (λ k. range_with_len k (length more)) (sym long),
            );
          }

  -- where that item is known
  pub reads_this : (all done : List X) (left : List ℕ) (place : ℕ) (rest : List ℕ) (x : X) → AreReadUpTo all done left
      → left ≡ place ∷ rest → slice_get all place ≡ Some x → AreReadUpTo all (done ++ x ∷ []) rest
  reads_this all done left place rest x read e at =
      let next = reads_next all done left place rest read e in
      let both : Some next.here ≡ Some x = sym next.is ∙ at in
      let same : next.here ≡ x = cc in
      subst (λ y. AreReadUpTo all (done ++ y ∷ []) rest) same next.goes

  pub reads_none : (all done : List X) (left : List ℕ) → done ≡ [] → left ≡ range_with_len 0 (length all)
      → AreReadUpTo all done left
  reads_none all done left e at = (
    all,
    sym (ap (λ l. l ++ all) e),
    at ∙ ap (λ l. range_with_len (length l) (length all)) (sym e),
  )

  pub reads_all : (all done : List X) (left : List ℕ) → AreReadUpTo all done left → left ≡ [] → done ≡ all
  reads_all all done left read e = by read.0 read.1 (sym e ∙ read.2)
    where
      none : (xs : List X) → xs ++ [] ≡ xs
      none [] = refl
      none (x ∷ xs) = ap (λ l. x ∷ l) (none xs)

      by : (more : List X) → all ≡ done ++ more → [] ≡ range_with_len (length done) (length more) → done ≡ all
      by [] whole at = sym (whole ∙ none done)
      by (x ∷ more) whole at = cc

-- ---- an item so many behind the first
module _ {X : Type 0} where
  yielded_before : (s xs t : List X) → Yields (YieldsFirst (λ (l : List X). l)) s xs t → s ≡ xs ++ t
  yielded_before s [] t e = e
  yielded_before s (x ∷ xs) t h = h.1 ∙ ap (λ l. x ∷ l) (yielded_before h.0 xs t h.2)

  none_behind : (s : List X) (n : ℕ) → length s ≤ n → slice_get s n ≡ None
  none_behind [] n h = refl
  none_behind (x ∷ s) zero h = absurd (omega (arith, h))
  none_behind (x ∷ s) (suc n) h = none_behind s n (omega (arith, h))

  pub skipped : (s : List X) (n : ℕ) (r : Option X) (u : List X)
      → SkipsThenYields (YieldsFirst (λ (l : List X). l)) s n r u → r ≡ slice_get s n
  skipped s n None u h =
      let before : s ≡ h.0 ++ h.1.0 = yielded_before s h.0 h.1.0 h.1.1 in
      let few : length s ≤ n = omega (arith, ap length before, length-append h.0 h.1.0, ap length h.1.2.0, h.2) in
      sym (none_behind s n few)
  skipped s n (Some x) u h =
      let before : s ≡ h.0 ++ h.1.0 = yielded_before s h.0 h.1.0 h.1.1 in
      let whole : s ≡ h.0 ++ x ∷ u = before ∙ ap (λ l. h.0 ++ l) h.1.2 in
      sym (ap (λ l. slice_get l n) whole ∙ ap (λ k. slice_get (h.0 ++ x ∷ u) k) (sym h.2) ∙ get_middle h.0 u x)

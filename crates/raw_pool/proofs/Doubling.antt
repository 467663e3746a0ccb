-- Where an item lies among the chunks, and what a change of one chunk does to the items of all.
use Rattle.std.proofs.Common.{◌≡◌, ℕ, zero, suc, ◌+◌, ◌-◌, ◌*◌, ◌^◌, ◌<◌, ◌≤◌, List, [], ◌∷◌, ◌++◌, length, get_or, set}
use Rattle.std.proofs.Common.{take, slice_get, Some, refl, sym, ap, ◌∙◌, subst, arith, inl, inr, if◌then◌else◌}
use Rattle.std.proofs.Common.{append_assoc, append-nil, length-append, length-set}
use Rattle.std.proofs.lemmas.List.{get_or_append_left, get_or-append_right, get_or-take, length-take, set-append_left}
use Rattle.std.proofs.lemmas.List.{set-append_right, length_push}
use Rattle.std.proofs.lemmas.Nat.{pow_below}
use Rattle.std.proofs.lemmas.Option.{slice_get-get_or, get_or_from_slice_get}
use Rattle.std.proofs.lemmas.Bool.Decides.{eqb_tells}
use Rattle.std.proofs.Math.Nat.{pow-suc}
use Rattle.raw_pool.specs.Chunks.{items_of, AreDoubling, with_chunk}

-- the places of the k-th chunk, where the first has so many
abbrev pub places_at : ℕ → ℕ → ℕ
places_at n zero = n
places_at n (suc k) = places_at (2 * n) k

pub places_le : (n k : ℕ) → n ≤ places_at n k
places_le n zero = omega arith
places_le n (suc k) = omega (arith, places_le (2 * n) k)

pub places_pow : (n k : ℕ) → places_at n k ≡ n * 2 ^ k
places_pow n zero = omega arith
places_pow n (suc k) = omega (arith, places_pow (2 * n) k, ap (λ m. n * m) (pow-suc 2 k))

pub one_pow : (k : ℕ) → places_at 1 k ≡ 2 ^ k
one_pow k = omega (arith, places_pow 1 k)

module _ {X : Type 0} where
  -- the chunks have room for no fewer items
  pub bounded : (n : ℕ) (cs : List (List X × ℕ)) → AreDoubling n cs → length (items_of cs) + n ≤ places_at n (length cs)
  bounded n [] d = omega arith
  bounded n (c ∷ cs) d = omega (arith, d.1, bounded (2 * n) cs d.3, length-append c.0 (items_of cs))

  pub no_further : (n : ℕ) (cs : List (List X × ℕ)) (k : ℕ) → 0 < n → AreDoubling n cs → places_at n k
      ≤ length (items_of cs) + n → k ≤ length cs
  no_further n [] zero p d h = omega arith
  no_further n [] (suc k) p d h = absurd (omega (arith, places_le (2 * n) k))
  no_further n (c ∷ cs) zero p d h = omega arith
  no_further n (c ∷ cs) (suc k) p d h =
      let on : k ≤ length cs =
      no_further (2 * n) cs k (omega arith) d.3 (omega (arith, d.1, length-append c.0 (items_of cs))) in
      omega (arith, on)

  -- a place of the pool is one of a chunk
  pub record Lies (cs : List (List X × ℕ)) (k i at : ℕ) : Type 0 where
    pub chunk : k < length cs
    pub within : (e : List X × ℕ) → i < length (get_or cs k e).0
    pub item : (e : List X × ℕ) (d : X) → get_or (items_of cs) at d ≡ get_or (get_or cs k e).0 i d
    pub changed : (e : List X × ℕ) (x : X)
        → items_of (set cs k (set (get_or cs k e).0 i x, (get_or cs k e).1)) ≡ set (items_of
        cs) at x

  in_the_first : (n : ℕ) (c : List X × ℕ) (cs : List (List X × ℕ)) → AreDoubling n (c ∷ cs) → (at : ℕ) → at < n → at
      < length (c.0 ++ items_of cs) → at < length c.0
  in_the_first n c [] d at lt h = omega (arith, length-append c.0 (items_of {X = X} []))
  in_the_first n c (x ∷ xs) d at lt h = omega (arith, d.2 (omega arith))

  the_first_full : (n : ℕ) (c : List X × ℕ) (cs : List (List X × ℕ)) → AreDoubling n (c ∷ cs) → (at : ℕ) → n ≤ at → at
      < length (c.0 ++ items_of cs) → length c.0 ≡ n
  the_first_full n c [] d at le h = absurd (omega (arith, d.1, length-append c.0 (items_of {X = X} [])))
  the_first_full n c (x ∷ xs) d at le h = d.2 (omega arith)

  pub lies : (n : ℕ) (cs : List (List X × ℕ)) (k i at : ℕ) → 0 < n → AreDoubling n cs → places_at n k + i ≡ at + n →
      i < places_at n k → at < length (items_of cs) → Lies cs k i at
  lies n [] k i at p d e lt h = absurd (omega arith)
  lies n (c ∷ cs) zero i at p d e lt h =
      let same : at ≡ i = omega arith in
      let short : at < length c.0 = in_the_first n c cs d at (omega arith) h in
      subst (λ j. Lies (c ∷ cs) zero j at) same (record {
        chunk = omega arith;
        within = λ e. short;
        item = λ e x. get_or_append_left c.0 (items_of cs) x at short;
        changed = λ e x. sym (set-append_left c.0 (items_of cs) at x short);
      })
  lies n (c ∷ cs) (suc k) i at p d e lt h =
      let le : n ≤ at = omega (arith, places_le (2 * n) k) in
      let full : length c.0 ≡ n = the_first_full n c cs d at le h in
      let rest = lies (2 * n) cs k i (at - n) (omega arith) d.3 (omega (arith, le)) lt (omega (
        arith,
        le,
        full,
        length-append c.0 (items_of cs),
      )) in record {
        chunk = omega (arith, rest.chunk);
        within = rest.within;
        item = λ e x. get_or-append_right c.0 (items_of cs) n at x full le ∙ rest.item e x;
        changed = λ e x. ap (λ l. c.0 ++ l) (rest.changed e x)
            ∙ sym (set-append_right c.0 (items_of cs) n at x full le);
      }

  -- a chunk in place of another with as many items and places
  pub refilled : (n : ℕ) (cs : List (List X × ℕ)) (k : ℕ) (c' e : List X × ℕ) → AreDoubling n cs
      → length c'.0 ≡ length (get_or
      cs k e).0 → c'.1 ≡ (get_or cs k e).1 → AreDoubling n (set cs k c')
  refilled n [] k c' e d items places = tt
  refilled n (c ∷ cs) zero c' e d items places =
      (places ∙ d.0, omega (arith, items, d.1), λ h. items ∙ d.2 h, d.3)
  refilled n (c ∷ cs) (suc k) c' e d items places =
      (d.0, d.1, λ h. d.2 (omega (arith, h, length-set cs k c')), refilled (2 * n) cs k c' e d.3 items places)

  -- one more chunk behind full ones
  pub grown : (n : ℕ) (cs : List (List X × ℕ)) → AreDoubling n cs → length (items_of cs) + n ≡ places_at n (length cs) →
      AreDoubling n (cs ++ ([], places_at n (length cs)) ∷ [])
  grown n [] d e = (refl, omega arith, λ h. absurd (omega arith), tt)
  grown n (c ∷ cs) d e =
      let full : length c.0 ≡ n = omega (arith, d.1, bounded (2 * n) cs d.3, length-append c.0 (items_of cs)) in
      (d.0, d.1, λ h. full, grown (2 * n) cs d.3 (omega (arith, full, length-append c.0 (items_of cs))))

  pub grown_items : (cs : List (List X × ℕ)) (places : ℕ) → items_of (cs ++ ([], places) ∷ []) ≡ items_of cs
  grown_items [] places = refl
  grown_items (c ∷ cs) places = ap (λ l. c.0 ++ l) (grown_items cs places)

  -- an item in the first free place
  pub record Pushes (n : ℕ) (cs : List (List X × ℕ)) (k : ℕ) (x : X) (e : List X × ℕ) : Type 0 where
    pub room : length (get_or cs k e).0 < (get_or cs k e).1
    pub doubling : AreDoubling n (set cs k ((get_or cs k e).0 ++ x ∷ [], (get_or cs k e).1))
    pub items : items_of (set cs k ((get_or cs k e).0 ++ x ∷ [], (get_or cs k e).1)) ≡ items_of cs ++ x ∷ []

  pub pushes : (n : ℕ) (cs : List (List X × ℕ)) (k i : ℕ) → AreDoubling n cs → places_at n k + i ≡ length (items_of cs)
      + n → i < places_at n k → k < length cs → (x : X) (e : List X × ℕ) → Pushes n cs k x e
  pushes n [] k i d at lt h x e = absurd (omega arith)
  pushes n (c ∷ []) zero i d at lt h x e =
      let length_of = length-append c.0 (items_of {X = X} []) in record {
        room = omega (arith, d.0, length_of);
        doubling = (d.0, omega (arith, length_push c.0 x, length_of), λ none. absurd (omega arith), tt);
        items = append-nil (c.0 ++ x ∷ []) ∙ ap (λ l. l ++ x ∷ []) (sym (append-nil c.0));
      }
  pushes n (c ∷ []) (suc k) i d at lt h x e = absurd (omega arith)
  pushes n (c ∷ c' ∷ cs) zero i d at lt h x e =
      absurd (omega (arith, d.2 (omega arith), length-append c.0 (items_of (c' ∷ cs))))
  pushes n (c ∷ c' ∷ cs) (suc k) i d at lt h x e =
      let full : length c.0 ≡ n = d.2 (omega arith) in
      let rest = pushes (2 * n) (c' ∷ cs) k i d.3 (omega (
        arith,
        full,
        length-append c.0 (items_of (c'
            ∷ cs)),
      )) lt (omega arith) x e in record {
        room = rest.room;
        doubling = (d.0, d.1, λ some. full, rest.doubling);
        items = ap (λ l. c.0 ++ l) rest.items ∙ sym (append_assoc c.0 (items_of (c' ∷ cs)) (x ∷ []));
      }

  -- chunks with the one in which the next item goes
  pub record Roomy (cs : List (List X × ℕ)) (k : ℕ) (cs' : List (List X × ℕ)) : Type 0 where
    pub doubling : AreDoubling 1 cs'
    pub items : items_of cs' ≡ items_of cs
    pub there : k < length cs'

  pub roomy : (cs : List (List X × ℕ)) (k i : ℕ) → AreDoubling 1 cs → 2 ^ k + i ≡ length (items_of cs) + 1 →
      Roomy cs k (with_chunk k cs)
  roomy cs k i d at =
      let last : List X × ℕ = ([], 2 ^ k) in
      let le : k ≤ length cs = no_further 1 cs k (omega arith) d (omega (arith, one_pow k)) in
      elim (eqb_tells k (length cs)) [
        | inl same ↦
            let is : with_chunk k cs ≡ cs ++ last ∷ [] = ap (λ b. (if b then cs ++ last ∷ [] else cs)) same.0 in
            let size : places_at 1 (length cs) ≡ 2 ^ k = one_pow (length cs) ∙ ap (λ m. 2 ^ m) (sym same.1) in
            let all : length (items_of cs) + 1 ≡ places_at 1 (length cs) = omega (arith, bounded 1 cs d, size) in
            subst (Roomy cs k) (sym is) (record {
              doubling = subst (λ p. AreDoubling 1 (cs ++ ([], p) ∷ [])) size (grown 1 cs d all);
              items = grown_items cs (2 ^ k);
              there = omega (arith, same.1, length-append cs (last ∷ []));
            })
        | inr other ↦
            let is : with_chunk k cs ≡ cs = ap (λ b. (if b then cs ++ last ∷ [] else cs)) other.0 in
            subst (Roomy cs k) (sym is) (record { doubling = d; items = refl; there = omega (arith, le, other.1) })
      ]

  -- a pool is never so long that a place is no `usize`
  pub bound : (cs : List (List X × ℕ)) → AreDoubling 1 cs → length cs ≤ 63 → length (items_of cs) + 1 < 2 ^ 64
  bound cs d most = omega (arith, bounded 1 cs d, one_pow (length cs), pow_below (length cs) 64 (omega arith))

  pub lies_at : (cs : List (List X × ℕ)) (k i at : ℕ) → AreDoubling 1 cs → (2 ^ k + i ≡ at + 1) × (i < 2 ^ k)
      → at < length
      (items_of cs) → Lies cs k i at
  lies_at cs k i at d place lt =
      lies 1 cs k i at (omega arith) d (omega (arith, one_pow k, place.0)) (omega (arith, one_pow k, place.1)) lt

  -- the item that was read of a chunk that was read
  pub item_of : (cs : List (List X × ℕ)) (items : List X) (k i at : ℕ) (c : List X × ℕ) (x : X) → items_of cs ≡ items →
      Lies cs k i at → c ≡ get_or cs k c → slice_get c.0 i ≡ Some x → at < length items → slice_get items at ≡ Some x
  item_of cs items k i at c x is there read got lt =
      slice_get-get_or items at x lt ∙ ap Some (ap (λ l. get_or l at x) (sym is) ∙ there.item c x
      ∙ ap (λ (h : List X × ℕ). get_or h.0 i x) (sym read) ∙ get_or_from_slice_get c.0 i x x got)

  -- what comes of a chunk of which an item was written
  pub record Lent (cs : List (List X × ℕ)) (k i at : ℕ) (c : List X × ℕ) (x : X) : Type 0 where
    pub doubling : AreDoubling 1 (set cs k (set c.0 i x, c.1))
    pub items : items_of (set cs k (set c.0 i x, c.1)) ≡ set (items_of cs) at x

  pub lent : (cs : List (List X × ℕ)) (k i at : ℕ) (c : List X × ℕ) (x : X) → AreDoubling 1 cs → Lies cs k i at → c
      ≡ get_or cs k c → Lent cs k i at c x
  lent cs k i at c x d there read = record {
    doubling =
        refilled 1 cs k (set c.0 i x, c.1) c d (length-set c.0 i x ∙ ap (λ (h : List X × ℕ). length h.0) read)
        (ap (λ (h : List X × ℕ). h.1) read);
    items = ap (λ (h : List X × ℕ). items_of (set cs k (set h.0 i x, h.1))) read ∙ there.changed c x;
  }

  -- the chunk in which the next item goes is there
  pub there_is : (cs cs' : List (List X × ℕ)) (k i : ℕ) → AreDoubling 1 cs → 2 ^ k + i ≡ length (items_of cs) + 1 → cs'
      ≡ with_chunk k cs → Roomy cs k cs'
  there_is cs cs' k i d at is = subst (Roomy cs k) (sym is) (roomy cs k i d at)

  -- what comes of a chunk with one more item
  pub record PushedTo (cs cs' : List (List X × ℕ)) (k : ℕ) (c : List X × ℕ) (x : X) : Type 0 where
    pub room : length c.0 < c.1
    pub doubling : AreDoubling 1 (set cs' k (c.0 ++ x ∷ [], c.1))
    pub items : items_of (set cs' k (c.0 ++ x ∷ [], c.1)) ≡ items_of cs ++ x ∷ []

  pub pushed_to : (cs cs' : List (List X × ℕ)) (k i : ℕ) (c : List X × ℕ) (x : X) → Roomy cs k cs' → (2 ^ k + i ≡ length
      (items_of cs) + 1) × (i < 2 ^ k) → c ≡ get_or cs' k c → PushedTo cs cs' k c x
  pushed_to cs cs' k i c x ready place read =
      let p = pushes 1 cs' k i ready.doubling (omega (arith, one_pow k, place.0, ap length ready.items)) (omega (
        arith,
        one_pow k,
        place.1,
      )) ready.there x c in
      let back : get_or cs' k c ≡ c = sym read in
      record {
        room = subst (λ (h : List X × ℕ). length h.0 < h.1) back p.room;
        doubling = subst (λ (h : List X × ℕ). AreDoubling 1 (set cs' k (h.0 ++ x ∷ [], h.1))) back p.doubling;
        items =
            subst (λ (h : List X × ℕ). items_of (set cs' k (h.0 ++ x ∷ [], h.1)) ≡ items_of cs ++ x ∷ []) back (p.items
            ∙ ap (λ l. l ++ x ∷ []) ready.items);
      }

  -- ---- one chunk, of whose places the first have an item
  take_of_set : (n : ℕ) (xs : List X) (i : ℕ) (x : X) → take n (set xs i x) ≡ set (take n xs) i x
  take_of_set zero xs i x = refl
  take_of_set (suc n) [] i x = refl
  take_of_set (suc n) (y ∷ ys) zero x = refl
  take_of_set (suc n) (y ∷ ys) (suc i) x = ap (λ l. y ∷ l) (take_of_set n ys i x)

  -- a chunk as contracts see it, of which so many places have an item
  abbrev pub chunk_of : ℕ → ℕ → List X → List X × ℕ
  chunk_of n places xs = (take n xs, places)

  pub lent_part : (n places i : ℕ) (xs : List X) (v : List X × ℕ) (x : X) → chunk_of n places xs ≡ v →
      chunk_of n places (set xs i x) ≡ (set v.0 i x, v.1)
  lent_part n places i xs v x is =
      let there : take n (set xs i x) ≡ set v.0 i x =
      take_of_set n xs i x ∙ ap (λ (h : List X × ℕ). set h.0 i x) is in
      λ j. (there j, (is j).1)

  pub part_at : (n places i : ℕ) (xs : List X) (v : List X × ℕ) (x : X) → chunk_of n places xs ≡ v → i < length v.0 → x
      ≡ get_or xs i x → slice_get v.0 i ≡ Some x
  part_at n places i xs v x is lt read =
      let long : length (take n xs) ≡ length v.0 = ap (λ (h : List X × ℕ). length h.0) is in
      slice_get-get_or v.0 i x lt ∙ ap Some (ap (λ (h : List X × ℕ). get_or h.0 i x) (sym is)
      ∙ get_or-take n xs i x (omega (arith, long, length-take n xs)) ∙ sym read)

-- What the node at a place gives, by itself and with others.
use Rattle.std.proofs.Common.{◌≡◌, ◌⊎◌, inl, inr, ◌↔◌, ℕ, ◌<◌, Bool, true, false, List, [], ◌∷◌, ◌++◌, All, Contains}
use Rattle.std.proofs.Common.{length}
use Rattle.std.proofs.Common.{slice_get, slice_index, slice_index_or, Option, Some, None, Ordering, Equal, refl, sym}
use Rattle.std.proofs.Common.{◌∙◌}
use Rattle.std.proofs.Common.{zero, suc, ◌+◌, ◌≤◌, subst, arith, below_more}
use Rattle.std.proofs.lemmas.List.Elements.{All-contains, All-nil, All-push, Contains-append_left, Contains-push}
use Rattle.std.proofs.lemmas.List.Elements.{Contains-push_cases}
use Rattle.std.specs.Ordering.{is_eq}
use Rattle.std.specs.BTreeMap.{BTreeMap, get}
use Rattle.dep_core.specs.declared.mark.Mark.{Mark}
use Rattle.dep_core.specs.declared.rules.Need.{Need}
use Rattle.dep_core.specs.declared.waiting.Waiter.{Waiter}
use Rattle.dep_core.specs.Kept.{row_by}
use Rattle.dep_core.specs.UnderWay.{AreParted, AreTold, HasNode, IsNamed, IsTold, IsWaiter, Joins, MeetAt, Tells}
use Rattle.dep_core.specs.UnderWay.{mark_of, waiter_of, waiters_of}
use Rattle.dep_core.proofs.Lists.{all_from_contains, contains_none}
use Rattle.dep_core.proofs.ToldMarks.{tells}
use Rattle.dep_core.proofs.Waiters.{need_of}
use Rattle.dep_core.proofs.Adding.{is_eq_true}

pub same_some : {X : Type 0} (x y : X) (o : Option X) → o ≡ Some x → o ≡ Some y → x ≡ y
same_some x y o e e' = let both : Some x ≡ Some y = sym e ∙ e' in cc

module _ {N : Type 0} where
  -- a node stays told, and one more place joins
  pub joined : (Names : Mark N → Type 0) (can : N → Bool) (Due : N → Type 0) (ns : List N) (place : ℕ)
      (told told' : List (Mark N)) (those those' : List ℕ) → place < length ns → Tells Names Due told told'
      → those' ≡ those ++ place ∷ [] → Joins Names can Due ns place told told' those those'
  joined Names can Due ns place told told' those those' within t is = record {
    kept = t.kept;
    named = t.named;
    stay = λ p h. subst (λ l. Contains l p) (sym is) (Contains-append_left those (place ∷ []) p h);
    joins = λ a at c. subst (λ l. Contains l place) (sym is) (Contains-push those place);
    only = λ p h. elim (Contains-push_cases those place p (subst (λ l. Contains l p) is h)) [
      | inl earlier ↦ inl earlier
      | inr same ↦ inr (same, t.due)
    ];
    within = λ all. subst (All (λ p. p < length ns)) (sym is) (All-push (λ p. p < length ns) those place all within);
  }

  pub not_joined : (Names : Mark N → Type 0) (can : N → Bool) (Due : N → Type 0) (ns : List N) (place : ℕ)
      (told : List (Mark N)) (those : List ℕ) (node : N) → slice_get ns place ≡ Some node → can node ≡ false
      → Joins Names can Due ns place told told those those
  not_joined Names can Due ns place told those node at cannot = record {
    kept = λ n h. h;
    named = λ all. all;
    stay = λ p h. h;
    joins = λ a at' c.
        let same : node ≡ a = same_some node a (slice_get ns place) at at' in
        let no : can a ≡ false = subst (λ k. can k ≡ false) same cannot in
        let both : true ≡ false = sym c ∙ no in
        cc;
    only = λ p h. inl h;
    within = λ all. all;
  }

  module _ (root : N → Type 0) (gives : N → N → ℕ → Type 0) (awaits meets : N → N → N → ℕ → Type 0) where
    abbrev Named : List N → Mark N → Type 0
    Named ns m = IsNamed root (row_by gives awaits meets) ns m

    -- two nodes meet
    pub met : (ns : List N) (p q : ℕ) (a b : N) (needs : List (Need N)) (told told' : List (Mark N))
        → slice_get ns p ≡ Some a → slice_get ns q ≡ Some b
        → ((n : N) (rule : ℕ) → Contains needs (need_of n rule) ↔ meets a b n rule)
        → AreTold (λ (need : Need N). mark_of need.node need.rule (Some p) (Some q)) needs told told'
        → Tells (Named ns) (MeetAt meets ns p q) told told'
    met ns p q a b needs told told' at at' are t =
        tells (λ (need : Need N). mark_of need.node need.rule (Some p) (Some q)) needs (Named ns)
        (MeetAt meets ns p q) told told' t
        (λ need h. (a, b, at, at', inr ((are need.node need.rule).0 h)))
        (λ n due.
        let a-is : due.0 ≡ a = same_some due.0 a (slice_get ns p) due.3 at in
        let b-is : due.1 ≡ b = same_some due.1 b (slice_get ns q) due.4 at' in
        let by : meets a b n due.2 = subst (λ k. meets a k n due.2) b-is
        (subst (λ k. meets k due.1 n due.2) a-is due.5) in
        (need_of n due.2, (are n due.2).1 by, refl))

    -- the node at a place gave, and waits, and others met it
    module _ (can_seek can_be_sought : N → Bool) (cmp : N → N → Ordering) (places : BTreeMap N ℕ)
        (exact : (x y : N) → cmp x y ≡ Equal → x ≡ y) (ns : List N)
        (found : (n : N) (place : ℕ) → get cmp places n ≡ Some place → slice_get ns place ≡ Some n)
        (missing : (n : N) → get cmp places n ≡ None → ¬ Contains ns n) (place : ℕ) (a : N)
        (at : slice_get ns place ≡ Some a) where
      pub gave : (needs : List (Need N)) (told told' : List (Mark N))
          → ((n : N) (rule : ℕ) → Contains needs (need_of n rule) ↔ gives a n rule)
          → AreTold (λ (need : Need N). mark_of need.node need.rule (Some place) None) needs told told'
          → Tells (Named ns) (λ n. (rule : ℕ) × gives a n rule) told told'
      gave needs told told' are t =
          tells (λ (need : Need N). mark_of need.node need.rule (Some place) None) needs (Named ns)
          (λ n. (rule : ℕ) × gives a n rule) told told' t
          (λ need h. (a, at, (are need.node need.rule).0 h))
          (λ n due. (need_of n due.0, (are n due.0).1 due.1, refl))

      pub released : (waiters : List (Waiter N)) (told told' : List (Mark N))
          → ((w : Waiter N) → Contains waiters w → IsWaiter awaits ns a w)
          → AreTold (λ (w : Waiter N). mark_of w.node w.rule (Some w.from) (Some place)) waiters told told'
          → Tells (Named ns) (λ n. (w : Waiter N) × Contains waiters w × (w.node ≡ n)) told told'
      released waiters told told' are t =
          tells (λ (w : Waiter N). mark_of w.node w.rule (Some w.from) (Some place)) waiters (Named ns)
          (λ n. (w : Waiter N) × Contains waiters w × (w.node ≡ n)) told told' t
          (λ w h. let by = are w h in (by.0, a, by.1, at, inl by.2))
          (λ n due. due)

      -- a waiter that is new has its row
      new_waiter : (IsRow : N → N → ℕ → Type 0) → ((b n : N) (rule : ℕ) → IsRow b n rule → awaits a b n rule)
          → (b : N) (w : Waiter N) → IsRow b w.node w.rule → w.from ≡ place → IsWaiter awaits ns b w
      new_waiter IsRow are b w row from = (
        a,
        subst (λ k. slice_get ns k ≡ Some a) (sym from) at,
        are b w.node w.rule
            row,
      )

      pub parted_named : (IsRow : N → N → ℕ → Type 0) → ((b n : N) (rule : ℕ) → IsRow b n rule → awaits a b n rule)
          → (told told' : List (Mark N)) (waiting waiting' : List (N × List (Waiter N)))
          → AreParted cmp places place IsRow told told' waiting waiting' → All (Named ns) told → All (Named ns) told'
      parted_named IsRow are told told' waiting waiting' t all =
          all_from_contains (Named ns) told' (λ m h. elim (t.only m h) [
            | inl earlier ↦ All-contains (Named ns) told m all earlier
            | inr by ↦ subst (Named ns) (sym by.6)
                (a, by.0, at, found by.0 by.1 by.5, inl (are by.0 by.2 by.3 by.4))
          ])

      -- all together
      pub all_told : (rows : List (N × Need N)) (needs : List (Need N))
          (told0 told1 told2 told3 told4 told5 : List (Mark N))
          (waiting waiting1 waiting2 : List (N × List (Waiter N))) (seeking seeking' sought sought' : List ℕ)
          → ((b : N) (w : Waiter N) → Contains (waiters_of cmp waiting b) w → IsWaiter awaits ns b w)
          → told0 ≡ []
          → ((n : N) (rule : ℕ) → Contains needs (need_of n rule) ↔ gives a n rule)
          → AreTold (λ (need : Need N). mark_of need.node need.rule (Some place) None) needs told0 told1
          → ((b n : N) (rule : ℕ) → Contains rows (b, need_of n rule) ↔ awaits a b n rule)
          → AreParted cmp places place (λ b n rule. Contains rows (b, need_of n rule)) told1 told2 waiting waiting1
          → AreTold (λ (w : Waiter N). mark_of w.node w.rule (Some w.from) (Some place)) (waiters_of cmp waiting1 a)
          told2 told3
          → waiters_of cmp waiting2 a ≡ []
          → ((other : N) → is_eq (cmp a other) ≡ false → waiters_of cmp waiting2 other ≡ waiters_of cmp waiting1 other)
          → Joins (Named ns) can_seek (λ n. (q : ℕ) × Contains sought q × MeetAt meets ns place q n) ns place told3
          told4
          seeking seeking'
          → Joins (Named ns) can_be_sought (λ n. (p : ℕ) × Contains seeking' p × MeetAt meets ns p place n) ns place
          told4 told5 sought sought'
          → IsTold gives awaits meets can_seek can_be_sought cmp (Named ns) ns place told5 waiting waiting2 seeking
          seeking'
          sought sought'
      all_told rows needs told0 told1 told2 told3 told4 told5 waiting waiting1 waiting2 seeking seeking' sought sought'
          waiters empty gave-are gave-t rows-are parted released-t here there j k =
          let IsRow : N → N → ℕ → Type 0 = λ b n rule. Contains rows (b, need_of n rule) in
          let are : (b n : N) (rule : ℕ) → IsRow b n rule → awaits a b n rule = λ b n rule h. (rows-are b n rule).0 h in
          let waiters1 : (b : N) (w : Waiter N) → Contains (waiters_of cmp waiting1 b) w → IsWaiter awaits ns b w =
          λ b w h. elim (parted.only_waits b w h) [
            | inl earlier ↦ waiters b w earlier
            | inr new ↦ new_waiter IsRow are b w new.0 new.1
          ] in
          let g : Tells (Named ns) (λ n. (rule : ℕ) × gives a n rule) told0 told1 =
          gave needs told0 told1 gave-are gave-t in
          let r : Tells (Named ns) (λ n. (w : Waiter N) × Contains (waiters_of cmp waiting1 a) w × (w.node ≡ n)) told2
          told3 = released (waiters_of cmp waiting1 a) told2 told3 (λ w h. waiters1 a w h) released-t in
          let last3 : (n : N) → HasNode told3 n → HasNode told5 n = λ n h. k.kept n (j.kept n h) in
          let last2 : (n : N) → HasNode told2 n → HasNode told5 n = λ n h. last3 n (r.kept n h) in
          let last1 : (n : N) → HasNode told1 n → HasNode told5 n = λ n h. last2 n (h.0, parted.kept h.0 h.1, h.2) in
          let after : (b : N) (w : Waiter N) → Contains (waiters_of cmp waiting1 b) w
          → Contains (waiters_of cmp waiting2 b) w ⊎ HasNode told5 w.node = λ b w h.
          stays waiting1 waiting2 told5 there (λ w' h'. last3 w'.node (r.due w'.node (w', h', refl))) b w
          (is_eq (cmp a b)) refl h in
          record {
            named = k.named (j.named (r.named (parted_named IsRow are told1 told2 waiting waiting1 parted
                (g.named (subst (All (Named ns)) (sym empty) (All-nil (Named ns)))))));
            gave = λ a' n rule at' by.
                let same : a' ≡ a = same_some a' a (slice_get ns place) at' at in
                last1 n (g.due n (rule, subst (λ x. gives x n rule) same by));
            waits = λ a' b n rule at' by.
                let same : a' ≡ a = same_some a' a (slice_get ns place) at' at in
                elim (parted.due b n rule ((rows-are b n rule).1 (subst (λ x. awaits x b n rule) same by))) [
                  | inl has ↦ inl (last2 n has)
                  | inr waits ↦ elim (after b (waiter_of n rule place) waits)
                      [ inl still ↦ inr still | inr has ↦ inl has ]
                ];
            kept = λ b w h. after b w (parted.waits b w h);
            only = λ b w h. elim (parted.only_waits b w (back waiting1 waiting2 here there b w (is_eq (cmp a b)) refl
                h)) [
                  | inl earlier ↦ inl earlier
                  | inr new ↦ inr (new_waiter IsRow are b w new.0 new.1, missing b new.2)
                ];
            released = λ a' w at' h.
                let same : a' ≡ a = same_some a' a (slice_get ns place) at' at in
                contains_none w (subst (λ l. Contains l w) here
                (subst (λ x. Contains (waiters_of cmp waiting2 x) w) same h));
            seeks = j.joins;
            is_sought = k.joins;
            seeking_stay = j.stay;
            sought_stay = k.stay;
            seeking_within = j.within;
            sought_within = k.within;
            met = λ p q n sp sq m. elim (k.only q sq) [
              | inr new ↦ inr (new.1 n (p, sp, subst (λ x. MeetAt meets ns p x n) (sym new.0) m))
              | inl old ↦ elim (j.only p sp) [
                | inl old' ↦ inl (old', old)
                | inr new ↦ inr (k.kept n (new.1 n (q, old, subst (λ x. MeetAt meets ns x q n) (sym new.0) m)))
              ]
            ];
          }
        where
          stays : (waiting1 waiting2 : List (N × List (Waiter N))) (told5 : List (Mark N))
              → ((other : N) → is_eq (cmp a other) ≡ false → waiters_of cmp waiting2 other ≡ waiters_of cmp waiting1
              other)
              → ((w : Waiter N) → Contains (waiters_of cmp waiting1 a) w → HasNode told5 w.node)
              → (b : N) (w : Waiter N) (t : Bool) → is_eq (cmp a b) ≡ t → Contains (waiters_of cmp waiting1 b) w
              → Contains (waiters_of cmp waiting2 b) w ⊎ HasNode told5 w.node
          stays waiting1 waiting2 told5 there has b w true e h = inr (has w
              (subst (λ x. Contains (waiters_of cmp waiting1 x) w) (sym (exact a b (is_eq_true (cmp a b) e))) h))
          stays waiting1 waiting2 told5 there has b w false e h = inl (subst (λ l. Contains l w) (sym (there b e)) h)

          back : (waiting1 waiting2 : List (N × List (Waiter N))) → waiters_of cmp waiting2 a ≡ []
              → ((other : N) → is_eq (cmp a other) ≡ false → waiters_of cmp waiting2 other ≡ waiters_of cmp waiting1
              other)
              → (b : N) (w : Waiter N) (t : Bool) → is_eq (cmp a b) ≡ t → Contains (waiters_of cmp waiting2 b) w
              → Contains (waiters_of cmp waiting1 b) w
          back waiting1 waiting2 here there b w true e h = absurd (contains_none w
              (subst (λ l. Contains l w) here
              (subst (λ x. Contains (waiters_of cmp waiting2 x) w) (sym (exact a b (is_eq_true (cmp a b) e))) h)))
          back waiting1 waiting2 here there b w false e h = subst (λ l. Contains l w) (there b e) h

-- ---- a place meets others one after another
pub record IsMeeting {N : Type 0} (Names : Mark N → Type 0) (At : ℕ → N → Type 0) (others : List ℕ) (so_far : ℕ)
    (told told' : List (Mark N)) : Type 0 where
  pub kept : (n : N) → HasNode told n → HasNode told' n
  pub named : All Names told → All Names told'
  pub due : (k : ℕ) → k < so_far → (n : N) → At (slice_index others k) n → HasNode told' n

module _ {N : Type 0} (Names : Mark N → Type 0) (At : ℕ → N → Type 0) (others : List ℕ) where
  pub meeting_none : (told : List (Mark N)) → IsMeeting Names At others 0 told told
  meeting_none told = record {
    kept = λ n h. h;
    named = λ all. all;
    due = λ k low. absurd (omega (arith, low));
  }

  pub meeting_more : (so_far : ℕ) (told mid new : List (Mark N)) → IsMeeting Names At others so_far told mid
      → Tells Names (At (slice_index others so_far)) mid new → IsMeeting Names At others (so_far + 1) told new
  meeting_more so_far told mid new m t = record {
    kept = λ n h. t.kept n (m.kept n h);
    named = λ all. t.named (m.named all);
    due = below_more (λ k. (n : N) → At (slice_index others k) n → HasNode new n) so_far
        (λ k low n at. t.kept n (m.due k low n at)) t.due;
  }

  index_at : (xs : List ℕ) (k x y : ℕ) → k < length xs → slice_index_or xs k x ≡ slice_index_or xs k y
  index_at [] k x y low = absurd (omega (arith, low))
  index_at (z ∷ xs) zero x y low = refl
  index_at (z ∷ xs) (suc k) x y low = index_at xs k x y (omega (arith, low))

  pub meeting_all : (so_far : ℕ) (told told' : List (Mark N)) → length others ≤ so_far
      → IsMeeting Names At others so_far told told'
      → Tells Names (λ n. (q : ℕ) × Contains others q × At q n) told told'
  meeting_all so_far told told' all m = record {
    kept = m.kept;
    named = m.named;
    due = λ n by.
        let k : ℕ = by.1.0 in
        let low : k < length others = by.1.1 in
        let is : by.0 ≡ slice_index others k = sym by.1.2 ∙ index_at others k by.0 0 low in
        m.due k (omega (arith, low, all)) n (subst (λ q. At q n) is by.2);
  }

-- One more mark, and marks one after another.
use Rattle.std.proofs.Common.{◌≡◌, ◌⊎◌, inl, inr, ℕ, ◌<◌, ◌≤◌, Bool, true, false, cond, List, [], ◌∷◌, ◌++◌, All}
use Rattle.std.proofs.Common.{Contains}
use Rattle.std.proofs.Common.{zero, suc, is_some, slice_index_or}
use Rattle.std.proofs.Common.{length, length-append, slice_get, Option, Some, None, Ordering, Less, Equal, Greater}
use Rattle.std.proofs.Common.{refl, sym, ap}
use Rattle.std.proofs.Common.{◌∙◌, subst, arith, append_assoc}
use Rattle.std.proofs.lemmas.List.{length_push}
use Rattle.std.proofs.lemmas.List.Elements.{All-contains, All-nil, All-push, All-weaker, Contains-append_left}
use Rattle.std.proofs.lemmas.List.Elements.{Contains-push}
use Rattle.std.proofs.lemmas.List.Elements.{Contains-push_cases}
use Rattle.std.proofs.lemmas.Cmp.{tied_itself}
use Rattle.std.specs.Cmp.{IsTotalOrder}
use Rattle.std.specs.Ordering.{is_eq}
use Rattle.std.specs.BTreeMap.{BTreeMap, get, is_at, Updates}
use Rattle.std.specs.Map.{lookup}
use Rattle.dep_core.specs.declared.mark.Mark.{Mark}
use Rattle.dep_core.specs.Kept.{row_by}
use Rattle.dep_core.specs.Marks.{nodes_of, AreMarks, NamesRow, NodesPass, DepthPasses}
use Rattle.dep_core.specs.UnderWay.{AreMarked, Grows, IsNamed, IsSound}
use Rattle.dep_core.proofs.Lists.{contains_cases, contains_here, contains_none, get_contains, get_push, get_stays}
use Rattle.dep_core.proofs.Lists.{popped_all, popped_cases}
use Rattle.dep_core.proofs.MarkedNodes.{derives, derives_push, follows, marks_push, nil_end, nodes_push}

pub is_eq_true : (o : Ordering) → is_eq o ≡ true → o ≡ Equal
is_eq_true Less e = cc
is_eq_true Equal e = refl
is_eq_true Greater e = cc

pub before_or_not : (n m : ℕ) → (n < m) ⊎ (m ≤ n)
before_or_not n m = grind arith

pub has_place : {X : Type 0} (o : Option X) → is_some o ≡ true → (x : X) × (o ≡ Some x)
has_place None e = cc
has_place (Some x) e = (x, refl)

pub no_place : {X : Type 0} (o : Option X) → is_some o ≡ false → o ≡ None
no_place None e = refl
no_place (Some x) e = cc

module _ {N : Type 0} where
  pub node_get : (marks : List (Mark N)) (place : ℕ) (d : Mark N) → place < length (nodes_of marks)
      → slice_get (nodes_of marks) place ≡ Some (slice_index_or marks place d).node
  node_get [] place d h = absurd (omega (arith, h))
  node_get (m ∷ marks) zero d h = refl
  node_get (m ∷ marks) (suc place) d h = node_get marks place d (omega (arith, h))

  pub length_nodes : (marks : List (Mark N)) → length (nodes_of marks) ≡ length marks
  length_nodes [] = refl
  length_nodes (m ∷ marks) = omega (arith, length_nodes marks)

  -- ---- lists of nodes that grow
  pub grows_refl : (ns : List N) (work : List ℕ) → Grows ns ns work work
  grows_refl ns work = record {
    longer = ([], sym (nil_end ns));
    waits = λ p h. h;
    new_waits = λ p low high. absurd (omega (arith, low, high));
    within = λ all. all;
    balance = refl;
  }

  pub grows_trans : (ns ms ks : List N) (work mid work' : List ℕ) → Grows ns ms work mid → Grows ms ks mid work'
      → Grows ns ks work work'
  grows_trans ns ms ks work mid work' g h = record {
    longer = (
      g.longer.0 ++ h.longer.0,
      h.longer.1 ∙ (ap (λ l. l ++ h.longer.0) g.longer.1 ∙ append_assoc ns g.longer.0 h.longer.0),
    );
    waits = λ p k. h.waits p (g.waits p k);
    new_waits = λ p low high. elim (before_or_not p (length ms)) [
      | inl before ↦ h.waits p (g.new_waits p low before)
      | inr behind ↦ h.new_waits p behind high
    ];
    within = λ all. h.within (g.within all);
    balance = omega (arith, g.balance, h.balance);
  }

  pub contains_grows : (ns ms : List N) (work work' : List ℕ) → Grows ns ms work work' → (n : N) → Contains ns n
      → Contains ms n
  contains_grows ns ms work work' g n h = subst (λ l. Contains l n) (sym g.longer.1)
      (Contains-append_left ns g.longer.0 n h)

  pub get_grows : (ns ms : List N) (work work' : List ℕ) → Grows ns ms work work' → (p : ℕ) (n : N)
      → slice_get ns p ≡ Some n → slice_get ms p ≡ Some n
  get_grows ns ms work work' g p n h = subst (λ l. slice_get l p ≡ Some n) (sym g.longer.1)
      (get_stays ns g.longer.0 p n h)

  pub length_grows : (ns ms : List N) (work work' : List ℕ) → Grows ns ms work work' → length ns ≤ length ms
  length_grows ns ms work work' g = omega (arith, ap length g.longer.1, length-append ns g.longer.0)

  pub grows_push : (ns : List N) (n : N) (work : List ℕ) → Grows ns (ns ++ n ∷ []) work (work ++ length ns ∷ [])
  grows_push ns n work = record {
    longer = (n ∷ [], refl);
    waits = λ p h. Contains-append_left work (length ns ∷ []) p h;
    new_waits = λ p low high.
        let same : length ns ≡ p = omega (arith, low, high, length_push ns n) in
        subst (Contains (work ++ length ns ∷ [])) same (Contains-push work (length ns));
    within = λ all. All-push (λ p. p < length (ns ++ n ∷ [])) work (length ns)
        (All-weaker (λ p. p < length ns) (λ p. p < length (ns ++ n ∷ [])) (λ p h. omega (arith, h, length_push ns n))
        work all)
        (omega (arith, length_push ns n));
    balance = omega (arith, length_push ns n, length_push work (length ns));
  }

  module _ (root : N → Type 0) (row : List N → N → ℕ → Type 0) where
    pub named_grows : (ns ms : List N) (work work' : List ℕ) → Grows ns ms work work' → (n : N) (rule : ℕ)
        (from also : Option ℕ) → NamesRow root row ns n rule from also → NamesRow root row ms n rule from also
    named_grows ns ms work work' g n rule None None named = named
    named_grows ns ms work work' g n rule None (Some also) named = named
    named_grows ns ms work work' g n rule (Some from) None named =
        (named.0, get_grows ns ms work work' g from named.0 named.1, named.2)
    named_grows ns ms work work' g n rule (Some from) (Some also) named = (
      named.0,
      named.1,
      get_grows ns ms work work' g from named.0 named.2,
      get_grows ns ms work work' g also named.1 named.3,
      named.4,
    )

    pub all_named_grows : (ns ms : List N) (work work' : List ℕ) → Grows ns ms work work' → (told : List (Mark N))
        → All (IsNamed root row ns) told → All (IsNamed root row ms) told
    all_named_grows ns ms work work' g told all = All-weaker (IsNamed root row ns) (IsNamed root row ms)
        (λ m h. named_grows ns ms work work' g m.node m.rule m.from m.also h) told all

    module _ (is_own : N → Type 0) (depth : N → ℕ) (cmp : N → N → Ordering) (most_nodes most_depth : ℕ) where
      -- ---- the limits
      pub nodes_pass : (marks : List (Mark N)) (places : BTreeMap N ℕ) (m : Mark N)
          → IsSound root row is_own depth cmp most_nodes most_depth marks places
          → IsNamed root row (nodes_of marks) m → (¬ Contains (nodes_of marks) m.node) → depth m.node ≤ most_depth
          → most_nodes ≤ length marks → NodesPass root row depth most_nodes most_depth
      nodes_pass marks places m sound named new shallow full = (
        nodes_of marks ++ m.node ∷ [],
        derives_push root row (nodes_of marks) m.node (derives root row marks sound.are)
            (follows root row (nodes_of marks) m.node m.rule m.from m.also named) new,
        All-push (λ n. depth n ≤ most_depth) (nodes_of marks) m.node sound.within shallow,
        omega (arith, full, length_nodes marks, length_push (nodes_of marks) m.node),
      )

      pub depth_passes : (marks : List (Mark N)) (places : BTreeMap N ℕ) (m : Mark N)
          → IsSound root row is_own depth cmp most_nodes most_depth marks places
          → IsNamed root row (nodes_of marks) m → (¬ Contains (nodes_of marks) m.node) → most_depth < depth m.node
          → DepthPasses root row depth most_nodes most_depth m.node
      depth_passes marks places m sound named new deep = (
        deep,
        (
          nodes_of marks,
          derives_push root row (nodes_of marks) m.node (derives root row marks sound.are)
              (follows root row (nodes_of marks) m.node m.rule m.from m.also named) new,
          sound.within,
        ),
      )

      -- ---- a mark behind the others
      found_by : (ns : List N) (places : BTreeMap N ℕ) (n m : N) (place : ℕ) (b : Bool)
          → ((x y : N) → cmp x y ≡ Equal → x ≡ y)
          → (slice_get ns place ≡ Some n → slice_get (ns ++ m ∷ []) place ≡ Some n)
          → (get cmp places n ≡ Some place → slice_get ns place ≡ Some n) → is_eq (cmp m n) ≡ b
          → cond b (Some (length ns)) (get cmp places n) ≡ Some place → slice_get (ns ++ m ∷ []) place ≡ Some n
      found_by ns places n m place true exact stays found is e =
          let same : m ≡ n = exact m n (is_eq_true (cmp m n) is) in
          let at : length ns ≡ place = cc in
          subst (λ p. slice_get (ns ++ m ∷ []) p ≡ Some n) at
          (subst (λ k. slice_get (ns ++ m ∷ []) (length ns) ≡ Some k) same (get_push ns m))
      found_by ns places n m place false exact stays found is e = stays (found e)

      missing_by : (ns : List N) (places : BTreeMap N ℕ) (n m : N) (place : ℕ) (b : Bool) → IsTotalOrder cmp
          → (get cmp places n ≡ None → ¬ Contains ns n) → is_eq (cmp m n) ≡ b
          → cond b (Some place) (get cmp places n) ≡ None → Contains (ns ++ m ∷ []) n → ⊥
      missing_by ns places n m place true total missing is e h = cc
      missing_by ns places n m place false total missing is e h = elim (Contains-push_cases ns m n h) [
        | inl before ↦ missing e before
        | inr same ↦
            let tied : cmp m n ≡ Equal = subst (λ k. cmp m k ≡ Equal) same (tied_itself total m) in
            let both : true ≡ false = sym (ap is_eq tied) ∙ is in
            cc
      ]

      pub marked_push : (marks : List (Mark N)) (places places' : BTreeMap N ℕ) (m : Mark N) (work : List ℕ)
          → IsTotalOrder cmp → ((x y : N) → cmp x y ≡ Equal → x ≡ y)
          → IsSound root row is_own depth cmp most_nodes most_depth marks places
          → IsNamed root row (nodes_of marks) m → (¬ Contains (nodes_of marks) m.node) → is_own m.node
          → depth m.node ≤ most_depth → length marks < most_nodes
          → Updates cmp places places' m.node (Some (length marks))
          → (marks' : List (Mark N)) → marks' ≡ marks ++ m ∷ [] → (work' : List ℕ) → work' ≡ work ++ length marks ∷ []
          → AreMarked root row is_own depth cmp most_nodes most_depth (m ∷ []) marks marks' places' work work'
      marked_push marks places places' m work total exact sound named new own shallow few updates marks' marks-is
          work' work-is =
          let ns : List N = nodes_of marks in
          let ns-is : nodes_of marks' ≡ ns ++ m.node ∷ [] = ap nodes_of marks-is ∙ nodes_push marks m in
          let len : length ns ≡ length marks = length_nodes marks in
          let at : (n : N) → get cmp places' n ≡ cond (is_eq (cmp m.node n)) (Some (length ns)) (get cmp places n) =
          subst (λ k. (n : N) → get cmp places' n ≡ cond (is_eq (cmp m.node n)) (Some k) (get cmp places n)) (sym len)
          updates.0 in
          let work-is' : work' ≡ work ++ length ns ∷ [] = work-is ∙ ap (λ k. work ++ k ∷ []) (sym len) in
          record {
            sound = record {
              are = subst (λ l. AreMarks root row l) (sym marks-is) (marks_push root row marks m sound.are named new);
              own = subst (All is_own) (sym ns-is) (All-push is_own ns m.node sound.own own);
              within = subst (All (λ n. depth n ≤ most_depth)) (sym ns-is)
                  (All-push (λ n. depth n ≤ most_depth) ns m.node sound.within shallow);
              few = omega (arith, ap length ns-is, length_push ns m.node, len, few);
              found = λ n place h. subst (λ l. slice_get l place ≡ Some n) (sym ns-is)
                  (found_by ns places n m.node place (is_eq (cmp m.node n)) exact (get_stays ns (m.node ∷ []) place n)
                  (sound.found n place) refl (sym (at n) ∙ h));
              missing = λ n h k. missing_by ns places n m.node (length ns) (is_eq (cmp m.node n)) total
                  (sound.missing n) refl
                  (sym (at n) ∙ h) (subst (λ l. Contains l n) ns-is k);
            };
            grows = subst (λ l. Grows ns l work work') (sym ns-is)
                (subst (Grows ns (ns ++ m.node ∷ []) work) (sym work-is') (grows_push ns m.node work));
            told = λ k h. elim (contains_cases k m [] h) [
              | inl same ↦ subst (λ (x : Mark N). Contains (nodes_of marks') x.node) same
                  (subst (λ l. Contains l m.node) (sym ns-is) (Contains-push ns m.node))
              | inr none ↦ absurd (contains_none k none)
            ];
          }

      -- no mark
      pub sound_none : (marks : List (Mark N)) (places : BTreeMap N ℕ) → marks ≡ [] → places.entries ≡ []
          → IsSound root row is_own depth cmp most_nodes most_depth marks places
      sound_none marks places e e' = record {
        are = subst (AreMarks root row) (sym e) tt;
        own = subst (λ l. All is_own (nodes_of l)) (sym e) (All-nil is_own);
        within = subst (λ l. All (λ n. depth n ≤ most_depth) (nodes_of l)) (sym e)
            (All-nil (λ n. depth n ≤ most_depth));
        few = subst (λ l. length (nodes_of l) ≤ most_nodes) (sym e) (omega arith);
        found = λ n place h.
            let none : get cmp places n ≡ None = ap (λ es. lookup (is_at (cmp n)) es) e' in
            let both : None ≡ Some place = sym none ∙ h in
            cc;
        missing = λ n h k. contains_none n (subst (λ l. Contains (nodes_of l) n) e k);
      }

      -- what is marked already
      pub marked_already : (marks : List (Mark N)) (places : BTreeMap N ℕ) (m : Mark N) (work : List ℕ)
          → IsSound root row is_own depth cmp most_nodes most_depth marks places → Contains (nodes_of marks) m.node
          → AreMarked root row is_own depth cmp most_nodes most_depth (m ∷ []) marks marks places work work
      marked_already marks places m work sound has = record {
        sound = sound;
        grows = grows_refl (nodes_of marks) work;
        told = λ k h. elim (contains_cases k m [] h) [
          | inl same ↦ subst (λ (x : Mark N). Contains (nodes_of marks) x.node) same has
          | inr none ↦ absurd (contains_none k none)
        ];
      }

-- ---- own nodes
pub named_own : {N : Type 0} (root is_own : N → Type 0) (gives : N → N → ℕ → Type 0)
    (awaits meets : N → N → N → ℕ → Type 0)
    → ((n : N) → root n → is_own n) → ((a n : N) (rule : ℕ) → is_own a → gives a n rule → is_own n)
    → ((a b n : N) (rule : ℕ) → is_own a → is_own b → awaits a b n rule → is_own n)
    → ((a b n : N) (rule : ℕ) → is_own a → is_own b → meets a b n rule → is_own n)
    → (ns : List N) → All is_own ns → (n : N) (rule : ℕ) (from also : Option ℕ)
    → NamesRow root (row_by gives awaits meets) ns n rule from also → is_own n
named_own root is_own gives awaits meets roots gave awaited met ns all n rule None None named = roots n named.0
named_own root is_own gives awaits meets roots gave awaited met ns all n rule None (Some also) named = absurd named
named_own root is_own gives awaits meets roots gave awaited met ns all n rule (Some from) None named =
    gave named.0 n rule (All-contains is_own ns named.0 all (get_contains ns from named.0 named.1)) named.2
named_own root is_own gives awaits meets roots gave awaited met ns all n rule (Some from) (Some also) named =
    let own-a : is_own named.0 = All-contains is_own ns named.0 all (get_contains ns from named.0 named.2) in
    let own-b : is_own named.1 = All-contains is_own ns named.1 all (get_contains ns also named.1 named.3) in
    elim named.4 [
      | inl by ↦ awaited named.0 named.1 n rule own-a own-b by
      | inr by ↦ met named.0 named.1 n rule own-a own-b by
    ]

-- ---- marks one after another, of which these are left
pub record IsMarking {N : Type 0} (root : N → Type 0) (row : List N → N → ℕ → Type 0) (is_own : N → Type 0)
    (depth : N → ℕ) (cmp : N → N → Ordering) (most_nodes most_depth : ℕ) (asked left marks marks' : List (Mark N))
    (places' : BTreeMap N ℕ) (work work' : List ℕ) : Type 0 where
  pub sound : IsSound root row is_own depth cmp most_nodes most_depth marks' places'
  pub named : All (IsNamed root row (nodes_of marks')) left
  pub grows : Grows (nodes_of marks) (nodes_of marks') work work'
  pub told : (m : Mark N) → Contains asked m → Contains left m ⊎ Contains (nodes_of marks') m.node

module _ {N : Type 0} (root : N → Type 0) (row : List N → N → ℕ → Type 0) (is_own : N → Type 0) (depth : N → ℕ)
    (cmp : N → N → Ordering) (most_nodes most_depth : ℕ) (told : List (Mark N)) where
  pub marking_none : (marks : List (Mark N)) (places : BTreeMap N ℕ) (work : List ℕ)
      → IsSound root row is_own depth cmp most_nodes most_depth marks places
      → All (IsNamed root row (nodes_of marks)) told
      → IsMarking root row is_own depth cmp most_nodes most_depth told told marks marks places work work
  marking_none marks places work sound named = record {
    sound = sound;
    named = named;
    grows = grows_refl (nodes_of marks) work;
    told = λ m h. inl h;
  }

  pub marking_named : (left rest : List (Mark N)) (m : Mark N) (marks mid : List (Mark N)) (places : BTreeMap N ℕ)
      (work work' : List ℕ) → left ≡ rest ++ m ∷ []
      → IsMarking root row is_own depth cmp most_nodes most_depth told left marks mid places work work'
      → IsNamed root row (nodes_of mid) m
  marking_named left rest m marks mid places work work' left-is t =
      (popped_all (IsNamed root row (nodes_of mid)) left rest m left-is t.named).1

  pub marking_more : (left rest : List (Mark N)) (m : Mark N) (marks mid new : List (Mark N))
      (places places' : BTreeMap N ℕ) (work mid_work work' : List ℕ) → left ≡ rest ++ m ∷ []
      → IsMarking root row is_own depth cmp most_nodes most_depth told left marks mid places work mid_work
      → AreMarked root row is_own depth cmp most_nodes most_depth (m ∷ []) mid new places' mid_work work'
      → IsMarking root row is_own depth cmp most_nodes most_depth told rest marks new places' work work'
  marking_more left rest m marks mid new places places' work mid_work work' left-is t one = record {
    sound = one.sound;
    named = all_named_grows root row (nodes_of mid) (nodes_of new) mid_work work' one.grows rest
        (popped_all (IsNamed root row (nodes_of mid)) left rest m left-is t.named).0;
    grows = grows_trans (nodes_of marks) (nodes_of mid) (nodes_of new) work mid_work work' t.grows one.grows;
    told = λ k h. elim (t.told k h) [
      | inr there ↦ inr (contains_grows (nodes_of mid) (nodes_of new) mid_work work' one.grows k.node there)
      | inl waits ↦ elim (popped_cases left rest m k left-is waits) [
        | inl still ↦ inl still
        | inr same ↦ inr (subst (λ (x : Mark N). Contains (nodes_of new) x.node) same (one.told m (contains_here m [])))
      ]
    ];
  }

  pub marking_all : (left marks marks' : List (Mark N)) (places : BTreeMap N ℕ) (work work' : List ℕ) → length left ≡ 0
      → IsMarking root row is_own depth cmp most_nodes most_depth told left marks marks' places work work'
      → AreMarked root row is_own depth cmp most_nodes most_depth told marks marks' places work work'
  marking_all left marks marks' places work work' none t = record {
    sound = t.sound;
    grows = t.grows;
    told = λ m h. elim (t.told m h) [ inl waits ↦ absurd (omega (arith, waits.1, none)) | inr there ↦ there ];
  }

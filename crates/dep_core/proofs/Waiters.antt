-- Rows of awaited nodes, told or left to wait one after another.
use Rattle.std.proofs.Common.{◌≡◌, ◌⊎◌, inl, inr, ℕ, Bool, true, false, List, [], ◌∷◌, ◌++◌, Contains, length}
use Rattle.std.proofs.Common.{Some, None}
use Rattle.std.proofs.Common.{Ordering, Equal, refl, sym, ap, subst, arith}
use Rattle.std.proofs.lemmas.List.Elements.{Contains-append_left, Contains-push, Contains-push_cases}
use Rattle.std.specs.Ordering.{is_eq}
use Rattle.std.specs.BTreeMap.{BTreeMap, get}
use Rattle.dep_core.specs.declared.mark.Mark.{Mark}
use Rattle.dep_core.specs.declared.rules.Need.{Need}
use Rattle.dep_core.specs.declared.waiting.Waiter.{Waiter}
use Rattle.dep_core.specs.UnderWay.{AreParted, HasNode, mark_of, waiter_of, waiters_of}
use Rattle.dep_core.proofs.Lists.{popped_cases}
use Rattle.dep_core.proofs.Adding.{is_eq_true}

module _ {N : Type 0} where
  abbrev pub need_of : N → ℕ → Need N
  need_of n rule = record { node = n; rule = rule }

  abbrev pub IsRowIn : List (N × Need N) → N → N → ℕ → Type 0
  IsRowIn rows b n rule = Contains rows (b, need_of n rule)

  abbrev pub IsThisRow : N → N → ℕ → N → N → ℕ → Type 0
  IsThisRow awaited node number b n rule = (awaited ≡ b) × (node ≡ n) × (number ≡ rule)

-- of some rows these are left
pub record IsParting {N : Type 0} (cmp : N → N → Ordering) (places : BTreeMap N ℕ) (place : ℕ)
    (rows left : List (N × Need N)) (told told' : List (Mark N)) (waiting waiting' : List (N × List (Waiter N))) :
    Type 0
  where
    pub rest : (x : N × Need N) → Contains left x → Contains rows x
    pub kept : (m : Mark N) → Contains told m → Contains told' m
    pub only : (m : Mark N) → Contains told' m → Contains told m ⊎ ((b : N) × (also : ℕ) × (n : N) × (rule : ℕ)
        × IsRowIn rows b n rule × (get cmp places b ≡ Some also) × (m ≡ mark_of n rule (Some place) (Some also)))
    pub waits : (b : N) (w : Waiter N) → Contains (waiters_of cmp waiting b) w → Contains (waiters_of cmp waiting' b) w
    pub only_waits : (b : N) (w : Waiter N) → Contains (waiters_of cmp waiting' b) w
        → Contains (waiters_of cmp waiting b) w
        ⊎ (IsRowIn rows b w.node w.rule × (w.from ≡ place) × (get cmp places b ≡ None))
    pub due : (b n : N) (rule : ℕ) → IsRowIn rows b n rule → IsRowIn left b n rule
        ⊎ (HasNode told' n ⊎ Contains (waiters_of cmp waiting' b) (waiter_of n rule place))

module _ {N : Type 0} (cmp : N → N → Ordering) (places : BTreeMap N ℕ) (place : ℕ) where
  -- a row whose awaited node is marked
  pub parted_told : (awaited node : N) (rule also : ℕ) (told told' : List (Mark N))
      (waiting : List (N × List (Waiter N))) → get cmp places awaited ≡ Some also
      → told' ≡ told ++ mark_of node rule (Some place) (Some also) ∷ []
      → AreParted cmp places place (IsThisRow awaited node rule) told told' waiting waiting
  parted_told awaited node rule also told told' waiting at is =
      let new : Mark N = mark_of node rule (Some place) (Some also) in
      let there : Contains told' new = subst (λ l. Contains l new) (sym is) (Contains-push told new) in
      record {
        kept = λ m h. subst (λ l. Contains l m) (sym is) (Contains-append_left told (new ∷ []) m h);
        only = λ m h. elim (Contains-push_cases told new m (subst (λ l. Contains l m) is h)) [
          | inl earlier ↦ inl earlier
          | inr same ↦ inr (awaited, also, node, rule, (refl, refl, refl), at, sym same)
        ];
        waits = λ b w h. h;
        only_waits = λ b w h. inl h;
        due = λ b n number row. inl (new, there, row.1);
      }

  -- a row whose awaited node isn't
  pub parted_waits : ((x y : N) → cmp x y ≡ Equal → x ≡ y) → (awaited node : N) (rule : ℕ) (told : List (Mark N))
      (waiting waiting' : List (N × List (Waiter N))) → get cmp places awaited ≡ None
      → waiters_of cmp waiting' awaited ≡ waiters_of cmp waiting awaited ++ waiter_of node rule place ∷ []
      → ((other : N) → is_eq (cmp awaited other) ≡ false → waiters_of cmp waiting' other ≡ waiters_of cmp waiting other)
      → AreParted cmp places place (IsThisRow awaited node rule) told told waiting waiting'
  parted_waits exact awaited node rule told waiting waiting' none here there =
      record {
        kept = λ m h. h;
        only = λ m h. inl h;
        waits = λ b w h. stays b w (is_eq (cmp awaited b)) refl h;
        only_waits = λ b w h. only b w (is_eq (cmp awaited b)) refl h;
        due = λ b n number row. inr (at b n number row);
      }
    where
      here_at : (b : N) → is_eq (cmp awaited b) ≡ true
          → waiters_of cmp waiting' b ≡ waiters_of cmp waiting b ++ waiter_of node rule place ∷ []
      here_at b e = subst (λ k. waiters_of cmp waiting' k ≡ waiters_of cmp waiting k ++ waiter_of node rule place ∷ [])
          (exact awaited b (is_eq_true (cmp awaited b) e)) here

      stays : (b : N) (w : Waiter N) (t : Bool) → is_eq (cmp awaited b) ≡ t → Contains (waiters_of cmp waiting b) w
          → Contains (waiters_of cmp waiting' b) w
      stays b w true e h = subst (λ l. Contains l w) (sym (here_at b e))
          (Contains-append_left (waiters_of cmp waiting b) (waiter_of node rule place ∷ []) w h)
      stays b w false e h = subst (λ l. Contains l w) (sym (there b e)) h

      only : (b : N) (w : Waiter N) (t : Bool) → is_eq (cmp awaited b) ≡ t → Contains (waiters_of cmp waiting' b) w
          → Contains (waiters_of cmp waiting b) w
          ⊎ (IsThisRow awaited node rule b w.node w.rule × (w.from ≡ place) × (get cmp places b ≡ None))
      only b w true e h = elim (Contains-push_cases (waiters_of cmp waiting b) (waiter_of node rule place) w
          (subst (λ l. Contains l w) (here_at b e) h)) [
            | inl earlier ↦ inl earlier
            | inr same ↦
                let is : awaited ≡ b = exact awaited b (is_eq_true (cmp awaited b) e) in
                inr (
                  (is, ap (λ (x : Waiter N). x.node) same, ap (λ (x : Waiter N). x.rule) same),
                  sym (ap (λ (x : Waiter N). x.from) same),
                  subst (λ k. get cmp places k ≡ None) is none,
                )
          ]
      only b w false e h = inl (subst (λ l. Contains l w) (there b e) h)

      at : (b n : N) (number : ℕ) → IsThisRow awaited node rule b n number
          → Contains (waiters_of cmp waiting' b) (waiter_of n number place)
      at b n number row =
          let first : Contains (waiters_of cmp waiting' awaited) (waiter_of node rule place) = subst
          (λ l. Contains l (waiter_of node rule place)) (sym here)
          (Contains-push (waiters_of cmp waiting awaited) (waiter_of node rule place)) in
          let second : Contains (waiters_of cmp waiting' b) (waiter_of node rule place) = subst
          (λ k. Contains (waiters_of cmp waiting' k) (waiter_of node rule place)) row.0 first in
          let third : Contains (waiters_of cmp waiting' b) (waiter_of n rule place) = subst
          (λ k. Contains (waiters_of cmp waiting' b) (waiter_of k rule place)) row.1 second in
          subst (λ k. Contains (waiters_of cmp waiting' b) (waiter_of n k place)) row.2 third

  -- ---- rows one after another
  pub parting_none : (rows : List (N × Need N)) (told : List (Mark N)) (waiting : List (N × List (Waiter N)))
      → IsParting cmp places place rows rows told told waiting waiting
  parting_none rows told waiting = record {
    rest = λ x h. h;
    kept = λ m h. h;
    only = λ m h. inl h;
    waits = λ b w h. h;
    only_waits = λ b w h. inl h;
    due = λ b n rule h. inl h;
  }

  pub parting_more : (rows left rest : List (N × Need N)) (awaited : N) (need : Need N) (told mid new : List (Mark N))
      (waiting mid_waiting new_waiting : List (N × List (Waiter N))) → left ≡ rest ++ (awaited, need) ∷ []
      → IsParting cmp places place rows left told mid waiting mid_waiting
      → AreParted cmp places place (IsThisRow awaited need.node need.rule) mid new mid_waiting new_waiting
      → IsParting cmp places place rows rest told new waiting new_waiting
  parting_more rows left rest awaited need told mid new waiting mid_waiting new_waiting left-is p t =
      let x : N × Need N = (awaited, need) in
      let in-left : (y : N × Need N) → Contains rest y → Contains left y = λ y h.
      subst (λ l. Contains l y) (sym left-is) (Contains-append_left rest (x ∷ []) y h) in
      let there : Contains rows x = p.rest x (subst (λ l. Contains l x) (sym left-is) (Contains-push rest x)) in
      let this : (b n : N) (rule : ℕ) → IsThisRow awaited need.node need.rule b n rule → IsRowIn rows b n rule =
      λ b n rule row. subst (λ k. IsRowIn rows b n k) row.2 (subst (λ k. IsRowIn rows b k need.rule) row.1
      (subst (λ k. IsRowIn rows k need.node need.rule) row.0 there)) in
      let stays : (n : N) → HasNode mid n → HasNode new n = λ n h. (h.0, t.kept h.0 h.1, h.2) in
      record {
        rest = λ y h. p.rest y (in-left y h);
        kept = λ m h. t.kept m (p.kept m h);
        only = λ m h. elim (t.only m h) [
          | inl earlier ↦ p.only m earlier
          | inr by ↦ inr (by.0, by.1, by.2, by.3, this by.0 by.2 by.3 by.4, by.5, by.6)
        ];
        waits = λ b w h. t.waits b w (p.waits b w h);
        only_waits = λ b w h. elim (t.only_waits b w h) [
          | inl earlier ↦ p.only_waits b w earlier
          | inr by ↦ inr (this b w.node w.rule by.0, by.1, by.2)
        ];
        due = λ b n rule h. elim (p.due b n rule h) [
          | inr done ↦ inr (elim done [
            | inl has ↦ inl (stays n has)
            | inr waits ↦ inr (t.waits b (waiter_of n rule place) waits)
          ])
          | inl waits ↦ elim (popped_cases left rest x (b, need_of n rule) left-is waits) [
            | inl still ↦ inl still
            | inr same ↦ inr (t.due b n rule (
              ap (λ (y : N × Need N). y.0) same,
              ap (λ (y : N × Need N). y.1.node) same,
              ap (λ (y : N × Need N). y.1.rule) same,
            ))
          ]
        ];
      }

  pub parting_all : (rows left : List (N × Need N)) (told told' : List (Mark N))
      (waiting waiting' : List (N × List (Waiter N))) → length left ≡ 0
      → IsParting cmp places place rows left told told' waiting waiting'
      → AreParted cmp places place (IsRowIn rows) told told' waiting waiting'
  parting_all rows left told told' waiting waiting' none p = record {
    kept = p.kept;
    only = p.only;
    waits = p.waits;
    only_waits = p.only_waits;
    due = λ b n rule h. elim (p.due b n rule h) [ inl waits ↦ absurd (omega (arith, waits.1, none)) | inr done ↦ done ];
  }

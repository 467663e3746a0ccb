-- Marks told for the waiters of a chain, the first one first.
use Rattle.std.proofs.Common.{◌≡◌, inl, inr, ℕ, List, [], ◌∷◌, ◌++◌, Contains, map, Option, Some, None}
use Rattle.std.proofs.Common.{sym, ap, ◌∙◌, subst}
use Rattle.std.proofs.lemmas.List.Elements.{Contains-append_left, Contains-push, Contains-push_cases}
use Rattle.link_lists.specs.declared.chain.Chain.{Chain}
use Rattle.link_lists.specs.Chains.{places, IsAmong, IsSound}
use Rattle.dep_core.specs.declared.mark.Mark.{Mark}
use Rattle.dep_core.specs.declared.waiting.Waiter.{Waiter}
use Rattle.dep_core.specs.declared.waiting.WaiterRecord.{WaiterRecord}
use Rattle.dep_core.specs.Awaited.{in_front, waiters_at, held_in, waiters_in, waiting_links, Spares}
use Rattle.dep_core.specs.UnderWay.{AreTold}
use Rattle.dep_core.proofs.Lists.{contains_behind, contains_cases, contains_here, contains_none}
use Rattle.dep_core.proofs.MarkedNodes.{nil_end}
use Rattle.dep_core.proofs.ToldMarks.{IsTelling, telling_none}
use Rattle.dep_core.proofs.Awaiting.{spares_more, spares_none}

-- of the waiters of a chain those of another are left
pub record IsTellingChain {N : Type 0} (mark : Waiter N → Mark N) (records now : List (WaiterRecord N))
    (chain left : Chain 2) (told told' : List (Mark N)) : Type 0 where
  pub sound : IsSound left (waiting_links now)
  pub telling : IsTelling mark (waiters_in records chain) (waiters_in now left) told told'
  pub within : (p : ℕ) → IsAmong p (places left (waiting_links now))
      → IsAmong p (places chain (waiting_links records))
  pub spares : Spares records now (places chain (waiting_links records))

module _ {N : Type 0} (mark : Waiter N → Mark N) where
  -- the first of those that are left is told
  front_told : (xs left rest : List (Waiter N)) (o : Option (Waiter N)) (told mid new : List (Mark N))
      → left ≡ in_front o rest → new ≡ mid ++ map mark (in_front o []) → IsTelling mark xs left told mid
      → IsTelling mark xs rest told new
  front_told xs left rest None told mid new left-is new-is t =
      subst (λ l. IsTelling mark xs l told new) left-is
      (subst (IsTelling mark xs left told) (sym (new-is ∙ nil_end mid)) t)
  front_told xs left rest (Some x) told mid new left-is new-is t =
      let in-left : (y : Waiter N) → Contains rest y → Contains left y = λ y h.
      subst (λ l. Contains l y) (sym left-is) (contains_behind y x rest h) in
      let there : Contains left x = subst (λ l. Contains l x) (sym left-is) (contains_here x rest) in
      let more : (m : Mark N) → Contains mid m → Contains new m = λ m h.
      subst (λ l. Contains l m) (sym new-is) (Contains-append_left mid (mark x ∷ []) m h) in
      record {
        rest = λ y h. t.rest y (in-left y h);
        kept = λ m h. more m (t.kept m h);
        only = λ m h. elim (Contains-push_cases mid (mark x) m (subst (λ l. Contains l m) new-is h)) [
          | inl earlier ↦ t.only m earlier
          | inr same ↦ inr (x, t.rest x there, sym same)
        ];
        all = λ y h. elim (t.all y h) [
          | inr told' ↦ inr (more (mark y) told')
          | inl waits ↦ elim (contains_cases y x rest (subst (λ l. Contains l y) left-is waits)) [
            | inr still ↦ inl still
            | inl same ↦ inr (subst (λ z. Contains new (mark z)) same
                (subst (λ l. Contains l (mark x)) (sym new-is) (Contains-push mid (mark x))))
          ]
        ];
      }

  pub chain_none : (records : List (WaiterRecord N)) (chain : Chain 2) (told : List (Mark N))
      → IsSound chain (waiting_links records) → IsTellingChain mark records records chain chain told told
  chain_none records chain told sound = record {
    sound = sound;
    telling = telling_none mark (waiters_in records chain) told;
    within = λ p h. h;
    spares = spares_none records (places chain (waiting_links records));
  }

  -- the chains that were spared, where the first is taken
  pub chain_spares : (records mid new : List (WaiterRecord N)) (chain left : Chain 2) (told told' : List (Mark N))
      → IsTellingChain mark records mid chain left told told'
      → Spares mid new (places left (waiting_links mid))
      → Spares records new (places chain (waiting_links records))
  chain_spares records mid new chain left told told' t spares =
      spares_more records mid new (places chain (waiting_links records)) (places left (waiting_links mid)) t.spares
      spares t.within

  pub chain_more : (records mid new : List (WaiterRecord N)) (chain left rest : Chain 2) (o : Option (Waiter N))
      (told mid_told new_told : List (Mark N)) → IsTellingChain mark records mid chain left told mid_told
      → IsSound rest (waiting_links new)
      → (at : ℕ) × (places left (waiting_links mid) ≡ at ∷ places rest (waiting_links new))
      → waiters_in mid left ≡ in_front o (waiters_in new rest)
      → Spares mid new (places left (waiting_links mid))
      → new_told ≡ mid_told ++ map mark (in_front o [])
      → IsTellingChain mark records new chain rest told new_told
  chain_more records mid new chain left rest o told mid_told new_told t sound order waiters spares told-is = record {
    sound = sound;
    telling = front_told (waiters_in records chain) (waiters_in mid left) (waiters_in new rest) o told mid_told
        new_told
        waiters
        told-is
        t.telling;
    within = λ p h. t.within p (subst (IsAmong p) (sym order.1) (inr h));
    spares = chain_spares records mid new chain left told mid_told t spares;
  }

  pub chain_all : (records mid new : List (WaiterRecord N)) (chain left : Chain 2) (told told' : List (Mark N))
      → IsTellingChain mark records mid chain left told told' → places left (waiting_links mid) ≡ []
      → AreTold mark (waiters_in records chain) told told'
  chain_all records mid new chain left told told' t none =
      let empty : waiters_in mid left ≡ [] = ap (waiters_at (held_in mid)) none in
      record {
        kept = t.telling.kept;
        only = t.telling.only;
        all = λ x h. elim (t.telling.all x h) [
          | inl waits ↦ absurd (contains_none x (subst (λ l. Contains l x) empty waits))
          | inr done ↦ done
        ];
      }

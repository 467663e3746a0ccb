-- What waits for nodes that aren't marked: for each awaited node a chain through the records of its waiters.
use Rattle.std.specs.Prelude.{◌≡◌, ℕ, false, List, [], ◌∷◌, map, get_or, Option, Some, None}
use Rattle.std.specs.declared.cmp.Ordering.{Ordering}
use Rattle.std.specs.Ordering.{is_eq}
use Rattle.std.specs.BTreeMap.{BTreeMap, get}
use Rattle.link_lists.specs.declared.link.Link.{Link}
use Rattle.link_lists.specs.declared.chain.Chain.{Chain}
use Rattle.link_lists.specs.Chains.{places, AreApart, IsSound}
use Rattle.dep_core.specs.declared.waiting.Waiter.{Waiter}
use Rattle.dep_core.specs.declared.waiting.WaiterRecord.{WaiterRecord}

module _ {N : Type 0} where
  abbrev pub waiting_links : List (WaiterRecord N) → List Link
  waiting_links records = map (λ r. r.waiting) records

  -- what each record has, which is none once its waiter was told
  abbrev pub held_in : List (WaiterRecord N) → List (Option (Waiter N))
  held_in records = map (λ r. r.waiter) records

  abbrev pub in_front : Option (Waiter N) → List (Waiter N) → List (Waiter N)
  in_front None ws = ws
  in_front (Some w) ws = w ∷ ws

  -- what is held at these places, one after another
  abbrev pub waiters_at : List (Option (Waiter N)) → List ℕ → List (Waiter N)
  waiters_at held [] = []
  waiters_at held (p ∷ ps) = in_front (get_or held p None) (waiters_at held ps)

  -- the waiters of a chain
  abbrev pub waiters_in : List (WaiterRecord N) → Chain 2 → List (Waiter N)
  waiters_in records chain = waiters_at (held_in records) (places chain (waiting_links records))

  -- the awaited nodes, each with what waits for it
  abbrev pub awaited : List (WaiterRecord N) → List (N × Chain 2) → List (N × List (Waiter N))
  awaited records chains = map (λ e. (e.0, waiters_in records e.1)) chains

  -- each other chain that has none of these places has the places and the waiters that it had
  abbrev pub Spares : List (WaiterRecord N) → List (WaiterRecord N) → List ℕ → Type 0
  Spares records records' ps = (other : Chain 2) → IsSound other (waiting_links records)
      → AreApart (places other (waiting_links records)) ps → IsSound other (waiting_links records')
      × (places other (waiting_links records') ≡ places other (waiting_links records))
      × (waiters_in records' other ≡ waiters_in records other)

-- a chain without places, whatever the links
abbrev pub IsEmptyChain : Chain 2 → Type 0
IsEmptyChain chain = (links : List Link) → IsSound chain links × (places chain links ≡ [])

-- the chain that is there, or one without places
abbrev pub IsChainOf : Option (Chain 2) → Chain 2 → Type 0
IsChainOf None chain = IsEmptyChain chain
IsChainOf (Some there) chain = chain ≡ there

-- Each chain is sound, and no two of them meet.
pub record AreChained {N : Type 0} (cmp : N → N → Ordering) (links : List Link) (chains : BTreeMap N (Chain 2)) :
    Type 0
  where
    pub sound : (b : N) (chain : Chain 2) → get cmp chains b ≡ Some chain → IsSound chain links
    pub apart : (b c : N) (one other : Chain 2) → is_eq (cmp b c) ≡ false → get cmp chains b ≡ Some one
        → get cmp chains c ≡ Some other → AreApart (places one links) (places other links)

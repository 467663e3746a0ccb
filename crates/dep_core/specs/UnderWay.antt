-- The analysis under way: what is marked, what waits for work, and what waits for a node.
use Rattle.std.specs.Prelude.{◌≡◌, ◌⊎◌, ℕ, ◌+◌, ◌≤◌, ◌<◌, true, Bool, List, [], ◌++◌, All, Contains, length, slice_get}
use Rattle.std.specs.Prelude.{Option, Some, None, unwrap_or}
use Rattle.std.specs.declared.cmp.Ordering.{Ordering}
use Rattle.std.specs.BTreeMap.{BTreeMap, get, is_at}
use Rattle.std.specs.Map.{lookup}
use Rattle.dep_core.specs.declared.mark.Mark.{Mark}
use Rattle.dep_core.specs.declared.waiting.Waiter.{Waiter}
use Rattle.dep_core.specs.Marks.{nodes_of, NamesRow, AreMarks}

module _ {N : Type 0} where
  abbrev pub mark_of : N → ℕ → Option ℕ → Option ℕ → Mark N
  mark_of n rule from also = record { node = n; rule = rule; from = from; also = also }

  abbrev pub waiter_of : N → ℕ → ℕ → Waiter N
  waiter_of n rule from = record { node = n; rule = rule; from = from }

  abbrev pub IsNamed : (N → Type 0) → (List N → N → ℕ → Type 0) → List N → Mark N → Type 0
  IsNamed root row before m = NamesRow root row before m.node m.rule m.from m.also

  -- one of the marks has this node
  abbrev pub HasNode : List (Mark N) → N → Type 0
  HasNode told n = (m : Mark N) × Contains told m × (m.node ≡ n)

  -- what waits for a node
  abbrev pub waiters_of : (N → N → Ordering) → List (N × List (Waiter N)) → N → List (Waiter N)
  waiters_of cmp waiting n = unwrap_or (lookup (is_at (cmp n)) waiting) []

  -- what the nodes at two places give where they meet
  abbrev pub MeetAt : (N → N → N → ℕ → Type 0) → List N → ℕ → ℕ → N → Type 0
  MeetAt meets ns p q n =
      (a : N) × (b : N) × (rule : ℕ) × (slice_get ns p ≡ Some a) × (slice_get ns q ≡ Some b) × meets a b n rule

  -- a waiter for a node has a row from the node at its place and this one
  abbrev pub IsWaiter : (N → N → N → ℕ → Type 0) → List N → N → Waiter N → Type 0
  IsWaiter awaits ns b w = (a : N) × (slice_get ns w.from ≡ Some a) × awaits a b w.node w.rule

-- The marks so far name their rows, are within the limits, and each marked node is found at its place.
pub record IsSound {N : Type 0} (root : N → Type 0) (row : List N → N → ℕ → Type 0) (is_own : N → Type 0)
    (depth : N → ℕ) (cmp : N → N → Ordering) (most_nodes most_depth : ℕ) (marks : List (Mark N))
    (places : BTreeMap N ℕ) : Type 0 where
  pub are : AreMarks root row marks
  pub own : All is_own (nodes_of marks)
  pub within : All (λ n. depth n ≤ most_depth) (nodes_of marks)
  pub few : length (nodes_of marks) ≤ most_nodes
  pub found : (n : N) (place : ℕ) → get cmp places n ≡ Some place → slice_get (nodes_of marks) place ≡ Some n
  pub missing : (n : N) → get cmp places n ≡ None → ¬ Contains (nodes_of marks) n

-- More nodes were marked: those before keep their places, and each new place waits for work.
pub record Grows {N : Type 0} (ns ns' : List N) (work work' : List ℕ) : Type 0 where
  pub longer : (more : List N) × (ns' ≡ ns ++ more)
  pub waits : (place : ℕ) → Contains work place → Contains work' place
  pub new_waits : (place : ℕ) → length ns ≤ place → place < length ns' → Contains work' place
  pub within : All (λ place. place < length ns) work → All (λ place. place < length ns') work'
  pub balance : length ns' + length work ≡ length ns + length work'

-- What was told is marked.
pub record AreMarked {N : Type 0} (root : N → Type 0) (row : List N → N → ℕ → Type 0) (is_own : N → Type 0)
    (depth : N → ℕ) (cmp : N → N → Ordering) (most_nodes most_depth : ℕ) (asked marks marks' : List (Mark N))
    (places' : BTreeMap N ℕ) (work work' : List ℕ) : Type 0 where
  pub sound : IsSound root row is_own depth cmp most_nodes most_depth marks' places'
  pub grows : Grows (nodes_of marks) (nodes_of marks') work work'
  pub told : (m : Mark N) → Contains asked m → Contains (nodes_of marks') m.node

-- For each of some things its mark is told, and no other.
pub record AreTold {N X : Type 0} (mark : X → Mark N) (xs : List X) (told told' : List (Mark N)) : Type 0 where
  pub kept : (m : Mark N) → Contains told m → Contains told' m
  pub only : (m : Mark N) → Contains told' m → Contains told m ⊎ ((x : X) × Contains xs x × (m ≡ mark x))
  pub all : (x : X) → Contains xs x → Contains told' (mark x)

-- Marks that name their rows are told, for all nodes that are due.
pub record Tells {N : Type 0} (Names : Mark N → Type 0) (Due : N → Type 0) (told told' : List (Mark N)) : Type 0 where
  pub kept : (n : N) → HasNode told n → HasNode told' n
  pub named : All Names told → All Names told'
  pub due : (n : N) → Due n → HasNode told' n

-- Each row of an awaited node is told where that is marked, and waits for it where it isn't.
pub record AreParted {N : Type 0} (cmp : N → N → Ordering) (places : BTreeMap N ℕ) (place : ℕ)
    (IsRow : N → N → ℕ → Type 0) (told told' : List (Mark N)) (waiting waiting' : List (N × List (Waiter N))) : Type 0
  where
    pub kept : (m : Mark N) → Contains told m → Contains told' m
    pub only : (m : Mark N) → Contains told' m → Contains told m ⊎ ((b : N) × (also : ℕ) × (n : N) × (rule : ℕ)
        × IsRow b n rule × (get cmp places b ≡ Some also) × (m ≡ mark_of n rule (Some place) (Some also)))
    pub waits : (b : N) (w : Waiter N) → Contains (waiters_of cmp waiting b) w → Contains (waiters_of cmp waiting' b) w
    pub only_waits : (b : N) (w : Waiter N) → Contains (waiters_of cmp waiting' b) w
        → Contains (waiters_of cmp waiting b) w ⊎ (IsRow b w.node w.rule × (w.from ≡ place) × (get cmp places b ≡ None))
    pub due : (b n : N) (rule : ℕ) → IsRow b n rule
        → HasNode told' n ⊎ Contains (waiters_of cmp waiting' b) (waiter_of n rule place)

-- A place joins those of its kind where its node can, and what it then gives with those of the other kind is told.
pub record Joins {N : Type 0} (Names : Mark N → Type 0) (can : N → Bool) (Due : N → Type 0) (ns : List N) (place : ℕ)
    (told told' : List (Mark N)) (those those' : List ℕ) : Type 0 where
  pub kept : (n : N) → HasNode told n → HasNode told' n
  pub named : All Names told → All Names told'
  pub stay : (p : ℕ) → Contains those p → Contains those' p
  pub joins : (a : N) → slice_get ns place ≡ Some a → can a ≡ true → Contains those' place
  pub only : (p : ℕ) → Contains those' p → Contains those p ⊎ ((place ≡ p) × ((n : N) → Due n → HasNode told' n))
  pub within : All (λ p. p < length ns) those → All (λ p. p < length ns) those'

-- What the node at a place gives, by itself and with others, is told or waits.
pub record IsTold {N : Type 0} (gives : N → N → ℕ → Type 0) (awaits meets : N → N → N → ℕ → Type 0)
    (can_seek can_be_sought : N → Bool) (cmp : N → N → Ordering) (Names : Mark N → Type 0) (ns : List N) (place : ℕ)
    (told : List (Mark N)) (waiting waiting' : List (N × List (Waiter N))) (seeking seeking' sought sought' : List ℕ)
    : Type 0 where
  pub named : All Names told
  pub gave : (a n : N) (rule : ℕ) → slice_get ns place ≡ Some a → gives a n rule → HasNode told n
  pub waits : (a b n : N) (rule : ℕ) → slice_get ns place ≡ Some a → awaits a b n rule
      → HasNode told n ⊎ Contains (waiters_of cmp waiting' b) (waiter_of n rule place)
  pub kept : (b : N) (w : Waiter N) → Contains (waiters_of cmp waiting b) w
      → Contains (waiters_of cmp waiting' b) w ⊎ HasNode told w.node
  pub only : (b : N) (w : Waiter N) → Contains (waiters_of cmp waiting' b) w
      → Contains (waiters_of cmp waiting b) w ⊎ (IsWaiter awaits ns b w × (¬ Contains ns b))
  pub released : (a : N) (w : Waiter N) → slice_get ns place ≡ Some a → ¬ Contains (waiters_of cmp waiting' a) w
  pub seeks : (a : N) → slice_get ns place ≡ Some a → can_seek a ≡ true → Contains seeking' place
  pub is_sought : (a : N) → slice_get ns place ≡ Some a → can_be_sought a ≡ true → Contains sought' place
  pub seeking_stay : (p : ℕ) → Contains seeking p → Contains seeking' p
  pub sought_stay : (p : ℕ) → Contains sought p → Contains sought' p
  pub seeking_within : All (λ p. p < length ns) seeking → All (λ p. p < length ns) seeking'
  pub sought_within : All (λ p. p < length ns) sought → All (λ p. p < length ns) sought'
  pub met : (p q : ℕ) (n : N) → Contains seeking' p → Contains sought' q → MeetAt meets ns p q n
      → (Contains seeking p × Contains sought q) ⊎ HasNode told n

-- The node at a place was worked on: what it gives is marked, or waits for a node that isn't.
pub record IsHandled {N : Type 0} (gives : N → N → ℕ → Type 0) (awaits : N → N → N → ℕ → Type 0)
    (can_seek can_be_sought : N → Bool) (cmp : N → N → Ordering) (ns : List N)
    (waiting : List (N × List (Waiter N))) (seeking sought : List ℕ) (place : ℕ) (a : N) : Type 0 where
  pub gave : (n : N) (rule : ℕ) → gives a n rule → Contains ns n
  pub waits : (b n : N) (rule : ℕ) → awaits a b n rule
      → Contains ns n ⊎ Contains (waiters_of cmp waiting b) (waiter_of n rule place)
  pub released : (w : Waiter N) → ¬ Contains (waiters_of cmp waiting a) w
  pub seeks : can_seek a ≡ true → Contains seeking place
  pub is_sought : can_be_sought a ≡ true → Contains sought place

-- The work is under way: each marked place waits for work or was worked on, and those that were met.
pub record IsUnderWay {N : Type 0} (root : N → Type 0) (gives : N → N → ℕ → Type 0)
    (awaits meets : N → N → N → ℕ → Type 0) (can_seek can_be_sought : N → Bool) (cmp : N → N → Ordering)
    (ns : List N) (work : List ℕ) (waiting : List (N × List (Waiter N))) (seeking sought : List ℕ) : Type 0 where
  pub works : All (λ place. place < length ns) work
  pub roots : (n : N) → root n → Contains ns n
  pub handled : (place : ℕ) (a : N) → slice_get ns place ≡ Some a
      → Contains work place ⊎ IsHandled gives awaits can_seek can_be_sought cmp ns waiting seeking sought place a
  pub rows : (b : N) (w : Waiter N) → Contains (waiters_of cmp waiting b) w → IsWaiter awaits ns b w
  pub met : (p q : ℕ) (n : N) → Contains seeking p → Contains sought q → MeetAt meets ns p q n → Contains ns n
  pub seeking_within : All (λ place. place < length ns) seeking
  pub sought_within : All (λ place. place < length ns) sought

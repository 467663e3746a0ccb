-- What a pool becomes of which an item was lent.
use Rattle.std.specs.Prelude.{ℕ, List, slice_set}
use Rattle.std.specs.Borrow.{Fml, MutBor, RattleType, follows}
use Rattle.raw_pool.specs.contracts.pool.RawPool.{the_row}

-- once the item at a place comes back, the pool has there what was left of it, and else what it had
abbrev pub LendsItem : (R : RattleType) → MutBor (List R.Denot) → ℕ → MutBor R.Denot → Fml
LendsItem R pool at item =
    follows (the_row R) R pool.ghost_name item.ghost_name (slice_set pool.now at)

-- What a chunk becomes of which an item was lent.
use Rattle.std.specs.Prelude.{ℕ, List, slice_set}
use Rattle.std.specs.Borrow.{Fml, MutBor, RattleType, follows}
use Rattle.raw_pool.specs.contracts.chunk.Chunk.{the_row}

-- once the item at a place comes back, the chunk has there what was left of it, and else what it had
abbrev pub LendsPlace : (R : RattleType) → MutBor (List R.Denot × ℕ) → ℕ → MutBor R.Denot → Fml
LendsPlace R chunk at item =
    follows (the_row R) R chunk.ghost_name item.ghost_name (λ x. (slice_set chunk.now.0 at x, chunk.now.1))

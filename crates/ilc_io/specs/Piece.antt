-- What one read gives of the bytes that are left.
use Rattle.std.specs.Prelude.{◌≡◌, ℕ, ◌<◌, ◌≤◌, List, [], ◌++◌, length, take, drop}

-- A read that gives `count` bytes of those that are `left`: they stand at the front of the buffer, in their
-- order, and behind them the buffer is as it was. No byte into a buffer that has room is the end.
pub record Reads (left old new : List ℕ) (count : ℕ) : Type 0 where
  pub bytes : new ≡ take count left ++ drop count old
  pub available : count ≤ length left
  pub ended : 0 < length old → count ≡ 0 → left ≡ []

use Rattle.std.proofs.Common.{ℕ, ◌<◌, ◌^◌, get_or}
use Rattle.md_tables.specs.declared.data.Held.{Held}
use Rattle.md_tables.proofs.data.are_addresses.Given as goal

-- those that were looked at have 32 bits
abbrev pub invariant-loop-one : goal.invariant-loop-one
invariant-loop-one l = (k : ℕ) (d : Held) → k < l.one-index → (get_or l.held k d).address < 2 ^ 32

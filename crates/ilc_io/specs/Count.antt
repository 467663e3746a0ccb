use Rattle.std.specs.Prelude.{ℕ, ◌+◌, ◌-◌, ◌^◌, ◌≤◌, min}

-- A count after one more. It stays at its last value.
abbrev pub next_count : ℕ → ℕ
next_count count = min (count + 1) (2 ^ 64 - 1)

-- A count of faults rose from `before` to `now`. A count that stands at its last value, where it
-- stays for good, counts as risen.
abbrev pub HasRisen : ℕ → ℕ → Type 0
HasRisen before now = next_count before ≤ now

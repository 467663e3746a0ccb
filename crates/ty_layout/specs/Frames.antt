-- How many bytes frames take.
use Rattle.std.specs.Prelude.{ℕ, ◌+◌, ◌*◌}
use Rattle.std.specs.Int.{next_multiple_of}

-- 192 bytes, the arguments, the locals, and as many places of the widest value as the stack may be deep, rounded up
-- to 16
abbrev pub frame_bytes : ℕ → ℕ → ℕ → ℕ → ℕ
frame_bytes args locals max_stack widest = next_multiple_of (192 + args + locals + max_stack * widest) 16

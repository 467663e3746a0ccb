-- Which instructions can be done on which stacks: ECMA-335 III.1.8 and, for the greatest depth, III.1.7.4. Each slot
-- is an int32, so what is known of a stack is its depth.
use Rattle.std.specs.Prelude.{ℕ, ◌+◌, ◌-◌, ◌==◌, nat_le, Bool, ◌&&◌}
use Rattle.il_code.specs.declared.operation.Operation.{Operation}
use Rattle.il_code.specs.declared.operation.Operation.TheVariants.{NoOperation, Constant, Duplicate, Discard, Binary}
use Rattle.il_code.specs.declared.operation.Operation.TheVariants.{Branch, BranchIfTrue, Return}

-- the greatest depth under a tiny header (II.25.4.2)
abbrev pub tiny_max_stack : ℕ
tiny_max_stack = 8

-- how many slots an operation takes from the stack
abbrev pub takes : Operation → ℕ
takes NoOperation = 0
takes (Constant n) = 0
takes Duplicate = 1
takes Discard = 1
takes (Binary operation) = 2
takes (Branch target) = 0
takes (BranchIfTrue target) = 1
takes Return = 1

-- and how many it leaves in their place
abbrev pub leaves : Operation → ℕ
leaves NoOperation = 0
leaves (Constant n) = 1
leaves Duplicate = 2
leaves Discard = 0
leaves (Binary operation) = 1
leaves (Branch target) = 0
leaves (BranchIfTrue target) = 0
leaves Return = 0

abbrev pub depth_behind : ℕ → Operation → ℕ
depth_behind depth operation = depth - takes operation + leaves operation

-- The stack is no deeper than `max` and has the operands, and that of a return has nothing but the result (III.3.57).
abbrev pub can_stand : ℕ → ℕ → Operation → Bool
can_stand max depth Return = nat_le depth max && depth == 1
can_stand max depth operation = nat_le depth max && nat_le (takes operation) depth

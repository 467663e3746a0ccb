-- The least stacks by rounds, in which each instruction passes on what is known before it, until nothing more is told.
use Rattle.std.specs.Prelude.{ℕ, zero, suc, ◌+◌, ◌*◌, ◌&&◌, Bool, true, false, List, [], ◌∷◌, length, fold, replicate}
use Rattle.std.specs.Prelude.{slice_set, Option, Some, None}
use Rattle.ty_terms.specs.declared.ty.Ty.{Ty}
use Rattle.least_flow.specs.Solution.{row}
use Rattle.il_stacks.specs.declared.effect.Handler.{Handler}
use Rattle.il_stacks.specs.declared.effect.Step.{Step}
use Rattle.il_stacks.specs.declared.stack.Stack.{Stack}
use Rattle.il_stacks.specs.declared.stack.Stack.TheVariants.{Slots}
use Rattle.il_stacks.specs.Bounds.{types_met}
use Rattle.il_stacks.specs.Flow.{passed}
use Rattle.il_stacks.specs.Slots.{joined, is_below}

abbrev pub raised_row : Option Stack → Stack → Stack
raised_row None stack = stack
raised_row (Some known) stack = joined known stack

-- the table that also tells a stack of an offset
abbrev pub raised : List (Option Stack) → ℕ × Stack → List (Option Stack)
raised table fact = slice_set table fact.0 (Some (raised_row (row table fact.0) fact.1))

abbrev pub pass_if : (Ty → Bool) → List Handler → Step → Option Stack → List (ℕ × Stack)
pass_if objects handlers step None = []
pass_if objects handlers step (Some stack) = passed objects handlers step stack

-- what is known once an instruction has passed on what is known before it
abbrev pub one_further : (Ty → Bool) → List Handler → List (Option Stack) → Step → List (Option Stack)
one_further objects handlers table step = fold raised table (pass_if objects handlers step (row table step.at))

-- and once each has, one after another
abbrev pub one_round : (Ty → Bool) → List Step → List Handler → List (Option Stack) → List (Option Stack)
one_round objects steps handlers table = fold (one_further objects handlers) table steps

abbrev pub is_row_below : Option Stack → Option Stack → Bool
is_row_below None other = true
is_row_below (Some stack) None = false
is_row_below (Some stack) (Some other) = is_below stack other

abbrev pub is_table_below : List (Option Stack) → List (Option Stack) → Bool
is_table_below [] others = true
is_table_below (stack ∷ table) [] = false
is_table_below (stack ∷ table) (other ∷ others) = is_row_below stack other && is_table_below table others

-- rounds until nothing more is told, and so many at most
abbrev pub settled : (Ty → Bool) → List Step → List Handler → ℕ → Bool → List (Option Stack) → List (Option Stack)
settled objects steps handlers zero done table = table
settled objects steps handlers (suc left) true table = table
settled objects steps handlers (suc left) false table =
    let next : List (Option Stack) = one_round objects steps handlers table in
    settled objects steps handlers left (is_table_below next table) next

-- Each round but the last raises a row: at most once for it to be known, and then as often as each of its slots can be,
-- of which there are no more than offsets, and once more for stacks of different depths.
abbrev pub most_rounds : List Step → List Handler → ℕ → ℕ
most_rounds steps handlers size = size * (2 + size * (2 + length (types_met steps handlers))) + 1

abbrev pub first_table : ℕ → List (Option Stack)
first_table size = raised (replicate size None) (0, Slots [])

-- what is known of the stack at each of so many offsets
unfoldable pub stacks_by_rounds : (Ty → Bool) → List Step → List Handler → ℕ → List (Option Stack)
stacks_by_rounds objects steps handlers size =
    settled objects steps handlers (most_rounds steps handlers size) false (first_table size)

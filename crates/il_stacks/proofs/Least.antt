-- What the work list leaves are the least stacks, with their types in order.
use Rattle.std.proofs.Common.{◌≡◌, inl, inr, refl, sym, subst, ◌∙◌, ℕ, Bool, true, List, length}
use Rattle.std.proofs.Common.{Option}
use Rattle.std.proofs.Common.{Some, None}
use Rattle.least_flow.specs.Solution.{row, AllBelow, IsLeast, IsRowBelow, IsSolution}
use Rattle.least_flow.specs.Telling.{IfKnown}
use Rattle.ty_terms.specs.declared.ty.Ty.{Ty}
use Rattle.il_stacks.specs.declared.effect.Handler.{Handler}
use Rattle.il_stacks.specs.declared.effect.Step.{Step}
use Rattle.il_stacks.specs.declared.stack.Stack.{Stack}
use Rattle.il_stacks.specs.Bounds.{are_sound}
use Rattle.il_stacks.specs.Flow.{AreLeastStacks, Passes, Starts}
use Rattle.il_stacks.specs.Rounds.{stacks_by_rounds}
use Rattle.il_stacks.specs.Slots.{IsBelow, is_rising_stack}
use Rattle.il_stacks.specs.Told.{IsRisingBelow}
use Rattle.il_stacks.specs.ToldLaws.{below_from, passed_in_order}
use Rattle.il_stacks.proofs.Rounds.{rounds_find, same_row, same_tables}

-- between the two orders

row_up : (fact : Stack) (r : Option Stack) → is_rising_stack fact ≡ true → IsRowBelow IsBelow (Some fact) r
    → IsRowBelow IsRisingBelow (Some fact) r
row_up fact None rising h = absurd h
row_up fact (Some other) rising h = inr (rising, h)

row_down : (r s : Option Stack) → IsRowBelow IsRisingBelow r s → IsRowBelow IsBelow r s
row_down None s h = tt
row_down (Some a) None h = absurd h
row_down (Some a) (Some b) h = below_from a b h

row_rises : (r s : Option Stack) → IfKnown (λ stack. is_rising_stack stack ≡ true) s → IsRowBelow IsRisingBelow r s
    → IfKnown (λ stack. is_rising_stack stack ≡ true) r
row_rises None s rising h = tt
row_rises (Some a) None rising h = absurd h
row_rises (Some a) (Some b) rising h = elim h [
  | inl same ↦ subst (λ stack. is_rising_stack stack ≡ true) (sym same) rising
  | inr less ↦ less.0
]

-- the least stacks are a solution by the other order too
rounds_solve : (objects : Ty → Bool) (steps : List Step) (handlers : List Handler) (size : ℕ)
    (table : List (Option Stack)) → are_sound steps handlers ≡ true → AreLeastStacks objects steps handlers size table
    → IsSolution IsRisingBelow Starts (Passes objects steps handlers) table
rounds_solve objects steps handlers size table sound found =
    record {
      started = λ place fact starts inside.
          row_up fact (row table place)
          (subst (λ stack. is_rising_stack stack ≡ true) (sym starts.1) refl)
          (found.least.solution.started place fact starts inside);
      closed = λ place known is to fact passes inside.
          let rising : is_rising_stack known ≡ true =
          subst (IfKnown (λ stack. is_rising_stack stack ≡ true)) is (found.rising place) in
          row_up fact (row table to)
          (passed_in_order objects steps handlers passes.0 known to fact sound passes.1 rising passes.3)
          (found.least.solution.closed place known is to fact passes inside);
    }

solution_down : (objects : Ty → Bool) (steps : List Step) (handlers : List Handler) (table : List (Option Stack))
    → IsSolution IsRisingBelow Starts (Passes objects steps handlers) table
    → IsSolution IsBelow Starts (Passes objects steps handlers) table
solution_down objects steps handlers table solution =
    record {
      started = λ place fact starts inside.
          row_down (Some fact) (row table place) (solution.started place fact starts inside);
      closed = λ place known is to fact passes inside.
          row_down (Some fact) (row table to) (solution.closed place known is to fact passes inside);
    }

pub least_found : (objects : Ty → Bool) (steps : List Step) (handlers : List Handler) (size : ℕ)
    (table : List (Option Stack)) → are_sound steps handlers ≡ true → length table ≡ size
    → IsLeast IsRisingBelow Starts (Passes objects steps handlers) table
    → AreLeastStacks objects steps handlers size table
least_found objects steps handlers size table sound long least =
    let known : List (Option Stack) = stacks_by_rounds objects steps handlers size in
    let found : AreLeastStacks objects steps handlers size known = rounds_find objects steps handlers size sound in
    let below : AllBelow IsRisingBelow table known =
    least.least known (found.long ∙ sym long) (rounds_solve objects steps handlers size known sound found) in
    let above : AllBelow IsBelow known table =
    found.least.least table (long ∙ sym found.long)
    (solution_down objects steps handlers table least.solution) in
    let same : table ≡ known =
    same_tables table known (long ∙ sym found.long)
    (λ place. same_row (row table place) (row known place)
    (row_rises (row table place) (row known place) (found.rising place) (below place)) (found.rising place)
    (row_down (row table place) (row known place) (below place)) (above place)) in
    subst (AreLeastStacks objects steps handlers size) (sym same) found

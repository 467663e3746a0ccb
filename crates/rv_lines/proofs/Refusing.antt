-- Sums, differences and products that are refused out of range, by their operation.
use Rattle.std.proofs.Common.{◌≡◌, ℕ, ℤ, List, slice_index}
use Rattle.std.specs.Option.{option_map}
use Rattle.num_core.specs.Integers.{IsOfKind}
use Rattle.num_core.specs.declared.kind.Kind.{Kind}
use Rattle.lir_core.specs.Values.{combined_in_range, word_of}
use Rattle.lir_core.specs.declared.op.CheckedOperation.{CheckedOperation}
use Rattle.lir_core.specs.declared.op.CheckedOperation.TheVariants.{Add, Subtract, Multiply}
use Rattle.rv_lines.specs.Computing.{combines_checked}
use Rattle.rv_lines.specs.Leading.{AnswersOr, AreRegisters, IsKept}
use Rattle.rv_lines.proofs.Multiplying.{multiplied_lines}
use Rattle.rv_lines.proofs.Summing.{added_lines, subtracted_lines}

pub combined_lines : (operation : CheckedOperation) (kind : Kind) (x y label : ℕ) (a b : ℤ) (registers : List ℕ)
    → AreRegisters registers → IsKept x → IsKept y → IsOfKind kind a → IsOfKind kind b
    → slice_index registers x ≡ word_of a → slice_index registers y ≡ word_of b
    → AnswersOr (combines_checked operation kind x y label) registers 7 label
    (option_map word_of (combined_in_range operation kind a b))
combined_lines Add kind x y label a b registers has kx ky f g e e' =
    added_lines kind x y label a b registers has kx ky f g e e'
combined_lines Subtract kind x y label a b registers has kx ky f g e e' =
    subtracted_lines kind x y label a b registers has kx ky f g e e'
combined_lines Multiply kind x y label a b registers has kx ky f g e e' =
    multiplied_lines kind x y label a b registers has kx ky f g e e'

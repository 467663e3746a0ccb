-- Lists of extents that are one as far as they go.
use Rattle.std.proofs.Common.{◌≡◌, ◌∙◌, sym, ℕ, ◌≤◌, List, length, take, arith}
use Rattle.std.proofs.lemmas.List.{take_all}
use Rattle.cli_layout.specs.declared.extent.Extent.{Extent}

pub whole_same : (a b : List Extent) (i : ℕ) → take i a ≡ take i b → length a ≡ length b → length a ≤ i → a ≡ b
whole_same a b i same size all =
    sym (take_all i a all) ∙ same ∙ take_all i b (omega (arith, size, all))

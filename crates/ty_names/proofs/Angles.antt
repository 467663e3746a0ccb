-- What is left to print behind a `<`.
use Rattle.std.proofs.Common.{ℕ, Bool, true, false, List}
use Rattle.ty_names.specs.Escapes.{units_text, behind_angle}

abbrev pub left_text : Bool → List ℕ → List ℕ
left_text true units = units_text units
left_text false units = behind_angle units

use Rattle.rv_lines.proofs.Dividing.{divided_lines, zero_lines}
use Rattle.rv_lines.proofs.Narrowing.{narrowed_lines}
use Rattle.rv_lines.proofs.Refusing.{combined_lines}
use Rattle.rv_lines.proofs.laws.refusing_lines.Goals as goal

pub returns : goal.returns
returns c = record {
  combined = combined_lines;
  narrowed = narrowed_lines;
  divided = divided_lines;
  divided_by_zero = zero_lines;
}

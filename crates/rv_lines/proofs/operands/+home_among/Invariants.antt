use Rattle.std.proofs.Common.{length}
use Rattle.rv_lines.proofs.operands.+home_among.Given as goal

abbrev pub decreases-home_among : goal.decreases-home_among
decreases-home_among l = length l.vars.now

use Rattle.std.proofs.Common.{length}
use Rattle.rv_gen.proofs.calling.+save_homes.Given as goal

abbrev pub decreases-save_homes : goal.decreases-save_homes
decreases-save_homes l = length l.vars.now

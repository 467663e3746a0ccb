use Rattle.std.proofs.Common.{length}
use Rattle.rv_gen.proofs.calling.+load_homes.Given as goal

abbrev pub decreases-load_homes : goal.decreases-load_homes
decreases-load_homes l = length l.vars.now

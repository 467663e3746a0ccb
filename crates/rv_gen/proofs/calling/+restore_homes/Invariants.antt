use Rattle.std.proofs.Common.{length}
use Rattle.rv_gen.proofs.calling.+restore_homes.Given as goal

abbrev pub decreases-restore_homes : goal.decreases-restore_homes
decreases-restore_homes l = length l.vars.now

use Rattle.std.proofs.Common.{length}
use Rattle.rv_gen.proofs.calling.+pass_to_routine.Given as goal

abbrev pub decreases-pass_to_routine : goal.decreases-pass_to_routine
decreases-pass_to_routine l = length l.slots.now

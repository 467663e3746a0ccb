use Rattle.std.proofs.Common.{◌+◌, ◌*◌}
use Rattle.cli_layout.proofs.objects.+parts.Given as goal

abbrev pub decreases-parts : goal.decreases-parts
decreases-parts g l = 2 * l.left

abbrev pub decreases-parts_above : goal.decreases-parts_above
decreases-parts_above g l = 2 * l.left + 1

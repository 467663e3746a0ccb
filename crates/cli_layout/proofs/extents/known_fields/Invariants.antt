use Rattle.std.proofs.Common.{◌≡◌, drop}
use Rattle.cli_layout.specs.Extents.{all_known}
use Rattle.cli_layout.proofs.Gathering.{gathered}
use Rattle.cli_layout.proofs.extents.known_fields.Given as goal

abbrev pub invariant-loop-extent : goal.invariant-loop-extent
invariant-loop-extent l =
    all_known l.extents ≡ gathered l.fields l.large (all_known (drop l.extent-index l.extents))

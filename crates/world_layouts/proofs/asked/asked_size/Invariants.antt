use Rattle.std.proofs.Common.{◌≡◌, drop, find, slice_get}
use Rattle.std.specs.Prelude.{◌==◌}
use Rattle.std.specs.Option.{option_map_or}
use Rattle.ty_names.specs.Modules.{index_of, number_of}
use Rattle.cli_layout.specs.Fields.{asked_in}
use Rattle.world_layouts.proofs.asked.asked_size.Given as goal

abbrev pub invariant-loop-layout : goal.invariant-loop-layout
invariant-loop-layout l =
    asked_in l.tables l.row
    ≡ option_map_or (λ found. number_of (slice_get found.cells 1))
    (find (λ found. index_of (slice_get found.cells 2) == l.row) (drop l.layout-index l.layout-items)) 0

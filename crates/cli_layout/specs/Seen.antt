-- What was told of value types that were asked for.
use Rattle.std.specs.Prelude.{◌≡◌, All, List}
use Rattle.ty_names.specs.Modules.{World}
use Rattle.cli_layout.specs.declared.seen.Seen.{Seen}
use Rattle.cli_layout.specs.Extents.{value_within}

abbrev pub IsTrueOf : World → Seen → Type 0
IsTrueOf world seen = seen.extent ≡ value_within seen.left world seen.id seen.args

abbrev pub AreTrueOf : World → List Seen → Type 0
AreTrueOf world seen = All (IsTrueOf world) seen

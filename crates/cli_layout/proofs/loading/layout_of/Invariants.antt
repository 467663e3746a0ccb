use Rattle.std.proofs.Common.{◌≡◌, drop}
use Rattle.cli_layout.specs.Loading.{layout_in}
use Rattle.cli_layout.proofs.loading.layout_of.Given as goal

abbrev pub invariant-loop-found : goal.invariant-loop-found
invariant-loop-found l = layout_in l.loaded l.ty ≡ layout_in (drop l.found-index l.loaded) l.ty

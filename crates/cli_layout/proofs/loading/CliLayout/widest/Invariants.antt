use Rattle.std.proofs.Common.{◌≡◌, ◌≤◌, take}
use Rattle.cli_layout.specs.Loading.{widest_in}
use Rattle.cli_layout.proofs.loading.CliLayout.widest.Given as goal

abbrev pub invariant-loop-ty : goal.invariant-loop-ty
invariant-loop-ty l = record {
  is : l.widest ≡ widest_in l.self.types (take l.ty-index l.types);
  limit : l.widest ≤ 65536;
}

use Rattle.std.proofs.Common.{◌≡◌, All, drop}
use Rattle.cli_layout.specs.Loading.{IsSmallOne, loaded_by}
use Rattle.cli_layout.specs.Types.{laid_of}
use Rattle.cli_layout.proofs.Loads.{in_front}
use Rattle.cli_layout.proofs.loading.load_types.Given as goal

abbrev pub invariant-loop-ty : goal.invariant-loop-ty
invariant-loop-ty g l = record {
  told : loaded_by (laid_of (g.D.Definitions.world l.definitions)) l.types
      ≡ in_front l.loaded (loaded_by (laid_of (g.D.Definitions.world l.definitions)) (drop l.ty-index l.types));
  small : All IsSmallOne l.loaded;
}

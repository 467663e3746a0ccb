use Rattle.lir_core.proofs.Stacked.{frames_fit}
use Rattle.lir_core.proofs.laws.laid_out_programs.Goals as goal

pub returns : goal.returns
returns c = record { frames = frames_fit }

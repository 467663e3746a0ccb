use Rattle.image_plan.proofs.Mapping.{mapped}
use Rattle.image_plan.proofs.Tiling.{tiled}
use Rattle.image_plan.proofs.laws.files_of_images.Goals as goal

pub returns : goal.returns
returns c = record { tiled = tiled; mapped = mapped }

use Rattle.image_plan.proofs.Holding.{holds}
use Rattle.image_plan.proofs.Near.{has_pieces}
use Rattle.image_plan.proofs.laws.images_in_memory.Goals as goal

pub returns : goal.returns
returns c = record { whole = holds; each = has_pieces }

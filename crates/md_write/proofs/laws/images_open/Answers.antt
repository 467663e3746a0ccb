use Rattle.md_write.proofs.Opening.{images_open}
use Rattle.md_write.proofs.laws.images_open.Goals as goal

pub returns : goal.returns
returns c = images_open

use Rattle.linked_image.proofs.Suited.{suits}
use Rattle.linked_image.proofs.laws.selected_code.Goals as goal

pub returns : goal.returns
returns c = record { suited = suits }

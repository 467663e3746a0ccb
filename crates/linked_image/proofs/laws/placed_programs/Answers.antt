use Rattle.linked_image.proofs.Begun.{is_loaded}
use Rattle.linked_image.proofs.Containing.{has_program}
use Rattle.linked_image.proofs.Placed.{is_placing}
use Rattle.linked_image.proofs.laws.placed_programs.Goals as goal

pub returns : goal.returns
returns c = record { placing = is_placing; program = has_program; loaded = is_loaded }

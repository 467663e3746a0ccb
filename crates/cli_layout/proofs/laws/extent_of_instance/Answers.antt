use Rattle.cli_layout.proofs.Instances.{of_instance}
use Rattle.cli_layout.proofs.laws.extent_of_instance.Goals as goal

pub returns : goal.returns
returns c = of_instance

use Rattle.std.proofs.Common.{◌∙◌}
use Rattle.core_lib.proofs.Fitting.{fit_by}
use Rattle.core_lib.proofs.Whole.{core_is}
use Rattle.core_lib.proofs.module.core_module.Goals as goal

pub new-requires : goal.new-requires
new-requires c = fit_by _ c.in_ok-tables.ensures

pub returns : goal.returns
returns c = c.new.ensures ∙ core_is _ _ (c.in_ok-user.ensures ∙ c.user.ensures) c.in_ok-tables.ensures

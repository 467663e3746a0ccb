use Rattle.std.proofs.Common.{rules}
use Rattle.cli_layout.proofs.PartLaws.{of_class, of_value}
use Rattle.cli_layout.proofs.objects.laid_of.Goals as goal

pub returns-then-branch-clause-told : goal.returns-then-branch-clause-told
returns-then-branch-clause-told g c =
    of_value (g.D.Definitions.world c.args.definitions.now) c.args.ty.now c.in-Named.id c.in-Named.field-1
    c.value_laid.result c.in-Named.is
    (search rules) c.value_laid.ensures.told

pub returns-else-branch-clause-told : goal.returns-else-branch-clause-told
returns-else-branch-clause-told g c =
    of_class (g.D.Definitions.world c.args.definitions.now) c.args.ty.now c.in-Named.id c.in-Named.field-1
    c.class_laid.result c.in-Named.is
    (search rules) c.class_laid.ensures.told

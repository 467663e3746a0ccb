use Rattle.std.proofs.Common.{rules}
use Rattle.ty_layout.specs.Objects.{boxed_bytes}
use Rattle.cli_layout.specs.Fields.{asked_size, placed_fields}
use Rattle.cli_layout.specs.Types.{arguments_of, value_with}
use Rattle.cli_layout.proofs.PartLaws.{is_laid, not_laid}
use Rattle.cli_layout.proofs.objects.value_laid.Goals as goal

pub returns-in_err-fields-clause-told : goal.returns-in_err-fields-clause-told
returns-in_err-fields-clause-told g c =
    not_laid boxed_bytes (value_with (asked_size (g.D.Definitions.world c.args.definitions.now) c.args.id))
    (g.D.Definitions.world c.args.definitions.now)
    (arguments_of (g.D.Definitions.world c.args.definitions.now) c.args.ty.now) c.as_slice.result.now c.args.id
    c.as_slice-2.result.now (placed_fields (g.D.Definitions.world c.args.definitions.now) c.args.id)
    c.fields_in.result (search rules)
    (search rules) c.fields_in.ensures c.in_err-fields.field-0.0 c.from_residual-in_err-fields.result (search rules)
    (search rules)

pub returns-clause-told : goal.returns-clause-told
returns-clause-told g c =
    is_laid boxed_bytes (value_with (asked_size (g.D.Definitions.world c.args.definitions.now) c.args.id))
    (g.D.Definitions.world c.args.definitions.now)
    (arguments_of (g.D.Definitions.world c.args.definitions.now) c.args.ty.now) c.as_slice.result.now c.args.id
    c.as_slice-2.result.now (placed_fields (g.D.Definitions.world c.args.definitions.now) c.args.id)
    c.fields_in.result (search rules)
    (search rules) c.fields_in.ensures c.in_ok-fields.fields c.value_with.result (search rules) (search rules)

use Rattle.std.proofs.Common.{◌-◌, rules}
use Rattle.cli_layout.proofs.PartLaws.{defined, large, large_with_fault, missing, nothing, positive, undefined}
use Rattle.cli_layout.proofs.PartLaws.{with_fault}
use Rattle.cli_layout.proofs.PartLaws.{with_part}
use Rattle.cli_layout.proofs.objects.+parts.Goals as goal

pub parts-returns-in_err-parts-in-Ok : goal.parts-returns-in_err-parts-in-Ok
parts-returns-in_err-parts-in-Ok g t c =
    with_fault c.args.left (c.args.left - 1) (g.D.Definitions.world c.args.definitions.now) c.args.id c.args.env.now
    c.as_slice.result.now c.fields_in.result c.parts_above.result (positive c.args.left c.if-left-eq0.false)
    (search rules) c.fields_in.ensures c.parts_above.ensures c.in-Ok.part c.in_err-parts-in-Ok.field-0.0
    c.from_residual-in_err-parts-in-Ok.result (search rules) (search rules) (search rules)

pub parts-returns-in-Ok : goal.parts-returns-in-Ok
parts-returns-in-Ok g t c =
    with_part c.args.left (c.args.left - 1) (g.D.Definitions.world c.args.definitions.now) c.args.id c.args.env.now
    c.as_slice.result.now c.fields_in.result c.parts_above.result (positive c.args.left c.if-left-eq0.false)
    (search rules) c.fields_in.ensures c.parts_above.ensures c.in-Ok.part c.in_ok-parts-in-Ok.parts
    c.add.new.items (search rules) (search rules) (search rules)

pub parts-returns-in_err-parts_above-in-Err-Not-TooLarge : goal.parts-returns-in_err-parts_above-in-Err-Not-TooLarge
parts-returns-in_err-parts_above-in-Err-Not-TooLarge g t c =
    large_with_fault c.args.left (c.args.left - 1) (g.D.Definitions.world c.args.definitions.now) c.args.id
    c.args.env.now
    c.as_slice.result.now c.fields_in.result c.parts_above-in-Err-Not-TooLarge.result
    (positive c.args.left c.if-left-eq0.false) (search rules) c.fields_in.ensures
    c.parts_above-in-Err-Not-TooLarge.ensures c.in_err-parts_above-in-Err-Not-TooLarge.field-0.0
    c.from_residual-in_err-parts_above-in-Err-Not-TooLarge.result (search rules) (search rules) (search rules)

pub parts-returns-in-Err-Not-TooLarge : goal.parts-returns-in-Err-Not-TooLarge
parts-returns-in-Err-Not-TooLarge g t c =
    large c.args.left (c.args.left - 1) (g.D.Definitions.world c.args.definitions.now) c.args.id c.args.env.now
    c.as_slice.result.now c.fields_in.result c.parts_above-in-Err-Not-TooLarge.result
    (positive c.args.left c.if-left-eq0.false) (search rules) c.fields_in.ensures
    c.parts_above-in-Err-Not-TooLarge.ensures c.in_ok-parts_above-in-Err-Not-TooLarge.field-0 (search rules)
    (search rules)

pub parts_above-returns-in-Nothing : goal.parts_above-returns-in-Nothing
parts_above-returns-in-Nothing g t c =
    nothing c.args.left (g.D.Definitions.world c.args.definitions.now) c.args.env.now c.args.id c.in_ok-base.field-0
    c.new.result c.in_ok-base.ensures c.in-Nothing.is c.new.ensures

pub parts_above-returns-in-Missing : goal.parts_above-returns-in-Missing
parts_above-returns-in-Missing g t c =
    missing c.args.left (g.D.Definitions.world c.args.definitions.now) c.args.env.now c.args.id c.in_ok-base.field-0
    c.in_ok-base.ensures c.in-Missing.is

pub parts_above-returns-in_default : goal.parts_above-returns-in_default
parts_above-returns-in_default g t c =
    undefined c.args.left (g.D.Definitions.world c.args.definitions.now) c.args.env.now c.args.id c.in_ok-base.field-0
    c.in-Of.base c.in_ok-above.field-0 c.new-in_default.result c.in_ok-base.ensures c.in-Of.is c.in_ok-above.ensures
    (search rules) c.new-in_default.ensures

pub parts_above-returns : goal.parts_above-returns
parts_above-returns g t c =
    defined c.args.left (g.D.Definitions.world c.args.definitions.now) c.args.env.now c.args.id c.in_ok-base.field-0
    c.in-Of.base c.in_ok-above.field-0 c.in-Some.above c.arguments.result.now c.as_slice.result.now
    c.parts.result c.in_ok-base.ensures c.in-Of.is c.in_ok-above.ensures c.in-Some.is
    c.arguments.ensures (search rules) c.parts.ensures

use Rattle.std.proofs.Common.{rules}
use Rattle.cli_layout.specs.Types.{laid_of, statics_of}
use Rattle.cli_layout.proofs.LaidTypes.{of_statics, of_type}
use Rattle.cli_layout.proofs.Loads.{all_found, all_small, are_found, are_loaded, both_loaded, statics_failed}
use Rattle.cli_layout.proofs.Loads.{types_failed}
use Rattle.cli_layout.proofs.loading.CliLayout.new.Goals as goal

pub returns-in_err-types-clause-loaded : goal.returns-in_err-types-clause-loaded
returns-in_err-types-clause-loaded g c =
    types_failed (g.D.Definitions.world c.args.definitions.now) c.as_slice.result.now c.args.types.now
    c.args.statics.now
    c.load_types.result c.as_slice.ensures c.load_types.ensures.told c.in_err-types.field-0.0 c.from_residual.result
    (search rules) (search rules)

pub returns-in_err-statics-clause-loaded : goal.returns-in_err-statics-clause-loaded
returns-in_err-statics-clause-loaded g c =
    statics_failed (g.D.Definitions.world c.args.definitions.now) c.as_slice.result.now c.args.types.now
    c.as_slice-2.result.now c.args.statics.now c.load_types.result c.load_statics.result c.as_slice.ensures
    c.as_slice-2.ensures c.load_types.ensures.told c.load_statics.ensures.told c.in_ok-types.types
    c.in_err-statics.field-0.0 c.from_residual-in_err-statics.result (search rules) (search rules) (search rules)

pub returns-clause-loaded : goal.returns-clause-loaded
returns-clause-loaded g c =
    both_loaded (g.D.Definitions.world c.args.definitions.now) c.as_slice.result.now c.args.types.now
    c.as_slice-2.result.now c.args.statics.now c.load_types.result c.load_statics.result c.as_slice.ensures
    c.as_slice-2.ensures c.load_types.ensures.told c.load_statics.ensures.told c.in_ok-types.types
    c.in_ok-statics.statics (search rules) (search rules)

pub returns-clause-types : goal.returns-clause-types
returns-clause-types g c =
    are_found (laid_of (g.D.Definitions.world c.args.definitions.now)) c.in_ok-types.types c.args.types.now
    (all_found c.type_order.ensures.order (laid_of (g.D.Definitions.world c.args.definitions.now)) c.as_slice.result.now
    c.args.types.now c.load_types.result c.in_ok-types.types c.as_slice.ensures c.load_types.ensures.told (search
    rules))

pub returns-clause-statics : goal.returns-clause-statics
returns-clause-statics g c =
    are_found (statics_of (g.D.Definitions.world c.args.definitions.now)) c.in_ok-statics.statics c.args.statics.now
    (all_found c.type_order.ensures.order (statics_of (g.D.Definitions.world c.args.definitions.now))
    c.as_slice-2.result.now
    c.args.statics.now c.load_statics.result c.in_ok-statics.statics c.as_slice-2.ensures c.load_statics.ensures.told
    (search rules))

pub returns-clause-known : goal.returns-clause-known
returns-clause-known g c =
    are_loaded (laid_of (g.D.Definitions.world c.args.definitions.now)) c.in_ok-types.types c.args.types.now
    (of_type c.fields_are_apart.ensures.object c.fields_are_apart.ensures.value_type (g.D.Definitions.world
    c.args.definitions.now))
    (all_small c.load_types.result c.in_ok-types.types c.load_types.ensures.small (search rules))
    (all_found c.type_order.ensures.order (laid_of (g.D.Definitions.world c.args.definitions.now)) c.as_slice.result.now
    c.args.types.now c.load_types.result c.in_ok-types.types c.as_slice.ensures c.load_types.ensures.told (search
    rules))

pub returns-clause-known_statics : goal.returns-clause-known_statics
returns-clause-known_statics g c =
    are_loaded (statics_of (g.D.Definitions.world c.args.definitions.now)) c.in_ok-statics.statics c.args.statics.now
    (of_statics c.fields_are_apart.ensures.object c.fields_are_apart.ensures.value_type (g.D.Definitions.world
    c.args.definitions.now))
    (all_small c.load_statics.result c.in_ok-statics.statics c.load_statics.ensures.small (search rules))
    (all_found c.type_order.ensures.order (statics_of (g.D.Definitions.world c.args.definitions.now))
    c.as_slice-2.result.now
    c.args.statics.now c.load_statics.result c.in_ok-statics.statics c.as_slice-2.ensures c.load_statics.ensures.told
    (search rules))

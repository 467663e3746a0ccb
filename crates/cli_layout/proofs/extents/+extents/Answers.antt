use Rattle.std.proofs.Common.{◌-◌, arith, rules}
use Rattle.cli_layout.proofs.ExtentLaws.{named_told, no_deeper_item, note_told, value_is}
use Rattle.cli_layout.proofs.PartLaws.{positive}
use Rattle.cli_layout.proofs.extents.+extents.Goals as goal

pub extent-returns-in_ok-args-in-Named-clause-told : goal.extent-returns-in_ok-args-in-Named-clause-told
extent-returns-in_ok-args-in-Named-clause-told g t c =
    named_told c.args.left (g.D.Definitions.world c.args.definitions.now) c.args.env.now c.args.ty.now c.in-Named.id
    c.in-Named.args
    c.as_slice-in-Named.result.now c.value.result c.in-Named.is (search rules) (search rules) c.value.ensures.told

pub extents-extent-requires : goal.extents-extent-requires
extents-extent-requires g t c κs le =
    let deep = no_deeper_item c.args.types.now c.loop-ty.ty-index c.ty-item.result c.loop-ty-test.true c.ty-item.is in
    (search (rules, arith), search rules)

pub value-returns-clause-told : goal.value-returns-clause-told
value-returns-clause-told g t c =
    value_is c.args.left (c.args.left - 1) (g.D.Definitions.world c.args.definitions.now) c.args.id c.args.env.now
    c.as_slice-3.result.now _ (positive c.args.left c.if-left-eq0.false) (search rules) (search rules)

pub value-returns-clause-seen : goal.value-returns-clause-seen
value-returns-clause-seen g t c =
    note_told (g.D.Definitions.world c.args.definitions.now) c.each_extent.new.seen c.note_seen.new.seen c.args.left
    c.args.id c.args.env.now c.in_ok-extent.extent (search rules)
    (value_is c.args.left (c.args.left - 1) (g.D.Definitions.world c.args.definitions.now) c.args.id c.args.env.now
    c.as_slice-3.result.now _ (positive c.args.left c.if-left-eq0.false) (search rules) (search rules))
    (search rules)

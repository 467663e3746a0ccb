use Rattle.ty_layout.proofs.Laying.{passes}
use Rattle.ty_layout.proofs.laid.place_fields.Goals as goal

pub returns-in-Err-behind-clause-large : goal.returns-in-Err-behind-clause-large
returns-in-Err-behind-clause-large c = λ large.
    passes c.args.start c.loop-field.at c.loop-field.field-index c.args.fields.now c.loop-field.invariant.end
    c.loop-field-test.true c.place_of-place.result c.place_of-place.ensures.place
    (c.in-Err-behind.ensures.large large)

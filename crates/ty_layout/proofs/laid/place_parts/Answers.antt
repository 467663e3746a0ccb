use Rattle.std.proofs.Common.{subst, ◌<◌, ◌∙◌, List}
use Rattle.ty_layout.specs.declared.field.Field.{Field}
use Rattle.ty_layout.specs.Fields.{end_of}
use Rattle.ty_layout.proofs.Laying.{parts_pass}
use Rattle.ty_layout.proofs.laid.place_parts.Goals as goal

pub returns-in-Err-clause-large : goal.returns-in-Err-clause-large
returns-in-Err-clause-large c = λ large.
    parts_pass c.loop-part.at c.loop-part.part-index c.args.parts.now c.part-item.result c.loop-part.invariant.end
    c.loop-part-test.true
    (subst (λ (part : List Field). 65536 < end_of c.loop-part.at part) (c.as_slice.ensures ∙ c.part-item.is)
    (c.in-Err.ensures.large large))

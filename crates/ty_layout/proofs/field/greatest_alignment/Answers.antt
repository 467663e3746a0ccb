use Rattle.ty_layout.proofs.Rounding.{positive}
use Rattle.ty_layout.proofs.field.greatest_alignment.Goals as goal

pub loop-field-init : goal.loop-field-init
loop-field-init c = positive c.args.fields.now

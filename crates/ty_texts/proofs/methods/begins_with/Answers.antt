use Rattle.ty_texts.proofs.Fronts.{other_front}
use Rattle.ty_texts.proofs.methods.begins_with.Goals as goal

pub returns : goal.returns
returns c =
    λ rest off. other_front c.args.text.now c.args.front.now rest c.starts_with.result c.starts_with.ensures.value off

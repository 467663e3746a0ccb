use Rattle.std.proofs.Common.{rules, ap, ◌∙◌, length}
use Rattle.md_sigs.specs.Grammar.{IsSpelled}
use Rattle.md_sigs.specs.Reading.{places_of}
use Rattle.md_sigs.proofs.Spelled.{counted}
use Rattle.md_sigs.proofs.signature.read_types.Goals as goal

pub returns-in-Ok-clause-counted : goal.returns-in-Ok-clause-counted
returns-in-Ok-clause-counted c =
    let spelled : IsSpelled c.args.module (places_of c.in_ok-waiting.waiting.items) c.args.bytes.now
    c.in-Ok.elements.items =
    search rules in
    ap length c.in_ok-make_types-in-Ok.ensures
    ∙ counted c.args.module (places_of c.in_ok-waiting.waiting.items) c.args.bytes.now c.in-Ok.elements.items spelled
    ∙ ap length c.in_ok-waiting.ensures

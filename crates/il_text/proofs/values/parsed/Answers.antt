use Rattle.il_text.proofs.Spelled.{not_text, parsed_is, not_parsed}
use Rattle.il_text.proofs.values.parsed.Goals as goal

pub returns-in_default : goal.returns-in_default
returns-in_default c = not_text c.args.word.now c.in_default.ensures.cases.0

pub returns-in-Ok-parse : goal.returns-in-Ok-parse
returns-in-Ok-parse c =
    parsed_is c.args.word.now c.in-Ok.text.now c.parse.result c.in-Ok-parse.number c.in-Ok.ensures.cases.0
    c.parse.ensures.value.0 c.in-Ok-parse.is

pub returns-in-Err : goal.returns-in-Err
returns-in-Err c =
    not_parsed c.args.word.now c.in-Ok.text.now c.parse.result c.in-Err.field-0 c.in-Ok.ensures.cases.0
    c.parse.ensures.value.0 c.in-Err.is

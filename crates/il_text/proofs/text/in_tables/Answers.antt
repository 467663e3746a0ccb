use Rattle.il_text.specs.Lines.{parts_of}
use Rattle.il_text.proofs.Opened.{no_body, with_body}
use Rattle.il_text.proofs.text.in_tables.Goals as goal

pub returns-in-None : goal.returns-in-None
returns-in-None c =
    no_body c.args.draft (parts_of c.args.line.now) c.behind_rows.result c.in-None.is c.behind_rows.ensures

pub returns-in-Some : goal.returns-in-Some
returns-in-Some c =
    with_body c.args.draft c.in-Some.body (parts_of c.args.line.now) c.in_body.result c.in-Some.is c.in_body.ensures

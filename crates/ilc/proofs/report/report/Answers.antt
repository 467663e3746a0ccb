use Rattle.std.proofs.Common.{◌∙◌, [], ◌∷◌, codes, ap, sym}
use Rattle.ilc.specs.Line.{line, line_of}
use Rattle.ilc.proofs.Printing.{printed_as}
use Rattle.ilc.proofs.report.report.Goals as goal

pub returns-in-NoFile-clause-printed : goal.returns-in-NoFile-clause-printed
returns-in-NoFile-clause-printed g c =
    printed_as c.write_line-in-NoFile.result _ _ _ _
    (ap (λ name. line (codes "nofile" ∷ name ∷ [])) c.bytes.ensures.bytes ∙ ap line_of (sym c.in-NoFile.is))
    c.write_line-in-NoFile.ensures.printed

pub returns-in-TooLong-clause-printed : goal.returns-in-TooLong-clause-printed
returns-in-TooLong-clause-printed g c =
    printed_as c.write_line-in-TooLong.result _ _ _ _
    (ap (λ size. line (codes "limit" ∷ codes "file" ∷ size ∷ [])) c.decimal-size.ensures
    ∙ ap line_of (sym c.in-TooLong.is))
    c.write_line-in-TooLong.ensures.printed

-- The pieces are the parts of the line.
use Rattle.std.proofs.Common.{◌++◌, codes, ap}
use Rattle.ilc.proofs.Printing.{printed_as, begun_as}
use Rattle.ilc.proofs.report.report_count.Goals as goal

pub returns-clause-printed : goal.returns-clause-printed
returns-clause-printed g c =
    printed_as c.write_pieces.result _ _ _ _
    (ap (λ d. codes "steps " ++ (d ++ codes "\n")) c.decimal-digits.ensures)
    c.write_pieces.ensures.written

pub returns-clause-broken_off : goal.returns-clause-broken_off
returns-clause-broken_off g c =
    begun_as c.write_pieces.result _ _ _ _
    (ap (λ d. codes "steps " ++ (d ++ codes "\n")) c.decimal-digits.ensures)
    c.write_pieces.ensures.broken_off

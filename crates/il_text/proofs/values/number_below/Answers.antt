use Rattle.std.proofs.Common.{sym, arith}
use Rattle.il_text.proofs.Spelled.{is_below, spells_both}
use Rattle.il_text.proofs.values.number_below.Goals as goal

pub returns-then-is_spelled-clause-value : goal.returns-then-is_spelled-clause-value
returns-then-is_spelled-clause-value c =
    sym (is_below c.args.bound (omega (arith, c.ranges.bound)) c.args.word.now c.in_ok-number.number
    (spells_both c.args.bound c.in_ok-number.number c.args.word.now c.is_spelled.result c.if-number-bound.true
    c.is_spelled.ensures c.if-is_spelled.true))

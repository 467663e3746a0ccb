use Rattle.std.proofs.Common.{◌++◌, codes, arith}
use Rattle.ilc.proofs.Printing.{on_err, breaks_off}
use Rattle.ilc.proofs.report.write_words.Goals as goal

pub returns-in_err-write_word-clause-broken_off : goal.returns-in_err-write_word-clause-broken_off
returns-in_err-write_word-clause-broken_off g c =
    on_err c.from_residual.result
    (breaks_off (λ word. codes " " ++ word.now) c.args.written.now c.loop-word.word-index _ _ _ _ (omega arith)
    c.loop-word.invariant.written c.in_err-write_word.ensures.broken_off)

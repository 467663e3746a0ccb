use Rattle.std.proofs.Common.{arith}
use Rattle.ilc.proofs.Printing.{on_err, breaks_off}
use Rattle.ilc.proofs.report.write_pieces.Goals as goal

pub returns-in_err-write_all-clause-broken_off : goal.returns-in_err-write_all-clause-broken_off
returns-in_err-write_all-clause-broken_off g c =
    on_err c.from_residual.result
    (breaks_off (λ piece. piece.now) c.args.pieces.now c.loop-piece.piece-index _ _ _ _ (omega arith)
    c.loop-piece.invariant.written c.in_err-write_all.ensures.broken_off)

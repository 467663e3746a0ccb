use Rattle.std.proofs.Common.{◌≤◌, take}
use Rattle.std.specs.List.{flat_map}
use Rattle.ilc.specs.Printed.{Adds}
use Rattle.ilc.proofs.report.write_pieces.Given as goal

abbrev pub invariant-loop-piece : goal.invariant-loop-piece
invariant-loop-piece g l = record {
  written : Adds (flat_map (λ piece. piece.now) (take l.piece-index l.pieces)) (g.S.Sink.written l.fn.sink)
      (g.S.Sink.written l.sink);
  faults_kept : g.S.Sink.faults l.fn.sink ≤ g.S.Sink.faults l.sink;
}

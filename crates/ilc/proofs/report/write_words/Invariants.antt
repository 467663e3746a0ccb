use Rattle.std.proofs.Common.{◌++◌, ◌≤◌, codes, take}
use Rattle.std.specs.List.{flat_map}
use Rattle.ilc.specs.Printed.{Adds}
use Rattle.ilc.proofs.report.write_words.Given as goal

abbrev pub invariant-loop-word : goal.invariant-loop-word
invariant-loop-word g l = record {
  written : Adds (flat_map (λ word. codes " " ++ word.now) (take l.word-index l.written)) (g.S.Sink.written l.fn.sink)
      (g.S.Sink.written l.sink);
  faults_kept : g.S.Sink.faults l.fn.sink ≤ g.S.Sink.faults l.sink;
}

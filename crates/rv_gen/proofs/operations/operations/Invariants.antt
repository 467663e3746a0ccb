use Rattle.std.proofs.Common.{◌≡◌, ◌++◌, drop}
use Rattle.rv_gen.specs.Lines.{ops_lines}
use Rattle.rv_gen.proofs.operations.operations.Given as goal

abbrev pub invariant-loop-op : goal.invariant-loop-op
invariant-loop-op l =
    l.fn.lines ++ ops_lines l.body l.body.ops ≡ l.lines ++ ops_lines l.body (drop l.op-index l.body.ops)

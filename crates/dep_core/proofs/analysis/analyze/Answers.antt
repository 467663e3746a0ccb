use Rattle.std.proofs.Common.{subst, sym}
use Rattle.dep_core.specs.Kept.{IsClosed, row_by}
use Rattle.dep_core.specs.Marks.{nodes_of}
use Rattle.dep_core.specs.UnderWay.{IsSound}
use Rattle.dep_core.proofs.Deriving.{holds}
use Rattle.dep_core.proofs.MarkedNodes.{derives, none_passed}
use Rattle.dep_core.proofs.analysis.analyze.Goals as goal

pub returns-in-Ok : goal.returns-in-Ok
returns-in-Ok g c =
    let rules = c.args.rules.now in
    let root = g.R.Rules.is_root rules in
    let row = row_by (g.R.Rules.gives rules) (g.R.Rules.awaits rules) (g.R.Rules.meets_in rules) in
    let marks = c.in-Ok.marks in
    let ns = nodes_of marks in
    let sound = subst (λ ms. IsSound root row (g.R.Rules.is_own rules) (g.R.Rules.depth_of rules) g.R.Node.Ord.cmp
    c.args.max_nodes c.args.max_depth ms c.run.new.marking.places) (sym c.in-Ok.ensures) c.in_ok-run.ensures.sound in
    let closed = subst (λ ms. IsClosed root row (nodes_of ms)) (sym c.in-Ok.ensures) c.in_ok-run.ensures.closed in
    record {
      named = sound.are;
      derivation = derives root row marks sound.are;
      closed = closed;
      kept = λ n. (λ h. (ns, derives root row marks sound.are, h), holds root row ns closed n);
      own = sound.own;
      none_passed = none_passed root row (g.R.Rules.depth_of rules) c.args.max_nodes c.args.max_depth ns closed
          sound.within
          sound.few;
      passed = tt;
    }

use Rattle.dep_core.specs.Kept.{row_by}
use Rattle.dep_core.proofs.MarkedNodes.{none_passed, nodes_passed, depth_passed}
use Rattle.dep_core.proofs.laws.limits_pass_in_every_order_or_in_none.Goals as goal

pub returns : goal.returns
returns g c =
    let rules = c.args._rules.now in
    let root = g.R.Rules.is_root rules in
    let row = row_by (g.R.Rules.gives rules) (g.R.Rules.awaits rules) (g.R.Rules.meets_in rules) in
    let depth_of = g.R.Rules.depth_of rules in
    record {
      none = λ ns nodes depth derivation closed all few. none_passed root row depth_of nodes depth ns closed all few;
      nodes = λ nodes depth passed none. nodes_passed root row depth_of nodes depth passed none;
      depth = λ nodes depth n passed none. depth_passed root row depth_of nodes depth n passed none;
    }

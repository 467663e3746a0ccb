use Rattle.dep_core.specs.Kept.{row_by}
use Rattle.dep_core.proofs.Deriving.{holds}
use Rattle.dep_core.proofs.laws.closed_derivations_hold_the_derivable.Goals as goal

pub returns : goal.returns
returns g c =
    let rules = c.args._rules.now in
    let root = g.R.Rules.is_root rules in
    let row = row_by (g.R.Rules.gives rules) (g.R.Rules.awaits rules) (g.R.Rules.meets_in rules) in
    record {
      closed = λ ns n closed derived. holds root row ns closed n derived;
      exact = λ ns n derivation closed. (λ h. (ns, derivation, h), λ derived. holds root row ns closed n derived);
      one = λ ns ms n derivation closed other other_closed h. holds root row ms other_closed n (ns, derivation, h);
    }

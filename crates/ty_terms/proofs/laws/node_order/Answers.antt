use Rattle.ty_terms.proofs.ExactLaws.{node_exact}
use Rattle.ty_terms.proofs.laws.node_order.Goals as goal

pub exact_order-requires : goal.exact_order-requires
exact_order-requires c = node_exact

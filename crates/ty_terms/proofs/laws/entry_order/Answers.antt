use Rattle.ty_terms.proofs.ExactLaws.{entry_exact}
use Rattle.ty_terms.proofs.laws.entry_order.Goals as goal

pub exact_order-requires : goal.exact_order-requires
exact_order-requires c = entry_exact

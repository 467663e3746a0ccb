use Rattle.ty_terms.specs.OrderLaws.{type_exact}
use Rattle.ty_terms.proofs.laws.type_order.Goals as goal

pub exact_order-requires : goal.exact_order-requires
exact_order-requires c = type_exact

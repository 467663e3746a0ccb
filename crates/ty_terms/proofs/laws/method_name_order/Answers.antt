use Rattle.ty_terms.proofs.ExactLaws.{method_name_exact}
use Rattle.ty_terms.proofs.laws.method_name_order.Goals as goal

pub exact_order-requires : goal.exact_order-requires
exact_order-requires c = method_name_exact

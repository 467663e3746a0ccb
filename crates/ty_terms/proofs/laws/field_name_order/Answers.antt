use Rattle.ty_terms.proofs.ExactLaws.{field_name_exact}
use Rattle.ty_terms.proofs.laws.field_name_order.Goals as goal

pub exact_order-requires : goal.exact_order-requires
exact_order-requires c = field_name_exact

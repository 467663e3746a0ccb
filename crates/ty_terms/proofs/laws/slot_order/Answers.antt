use Rattle.ty_terms.proofs.ExactLaws.{slot_exact}
use Rattle.ty_terms.proofs.laws.slot_order.Goals as goal

pub exact_order-requires : goal.exact_order-requires
exact_order-requires c = slot_exact

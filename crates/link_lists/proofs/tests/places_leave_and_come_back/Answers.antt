use Rattle.std.proofs.Common.{inl, inr, refl, sym, subst, lit<}
use Rattle.link_lists.specs.Chains.{IsAmong}
use Rattle.link_lists.proofs.tests.places_leave_and_come_back.Goals as goal

pub unlink-requires : goal.unlink-requires
unlink-requires g c =
    let told = rw c.expect-chain.ensures at c.all_five.ensures in
    (lit< tt, (told.0, subst (IsAmong 2) (sym told.1) (inr (inr (inl refl)))))

use Rattle.std.proofs.Common.{◌∙◌, sym, ap, arith}
use Rattle.std.specs.Ordering.{ordering_then}
use Rattle.std.specs.Cmp.Lexicographic.{slice_cmp}
use Rattle.ty_terms.specs.Order.{order}
use Rattle.ty_terms.specs.OrderLaws.{order_named, longer_after}
use Rattle.ty_terms.proofs.order.+order.Goals as goal

pub compare-returns-in-Equal : goal.compare-returns-in-Equal
compare-returns-in-Equal t c =
    c.compare_all.ensures
    ∙ (λ i. slice_cmp order (c.as_slice.ensures i) (c.as_slice-in-Equal.ensures i))
    ∙ ap (λ ids. ordering_then ids (slice_cmp order c.in-Named-Named.a_args c.in-Named-Named.b_args)) c.in-Equal.ensures
    ∙ sym (order_named c.in-Named-Named.a c.in-Named-Named.b c.in-Named-Named.a_args c.in-Named-Named.b_args)
    ∙ sym (λ i. order (c.in-Named-Named.is-0 i) (c.in-Named-Named.is-1 i))

pub compare_all-returns-then-a-b : goal.compare_all-returns-then-a-b
compare_all-returns-then-a-b t c =
    sym (longer_after c.loop-i.i c.args.a.now c.args.b.now (omega arith) (omega arith) (omega arith))
    ∙ c.loop-i.invariant

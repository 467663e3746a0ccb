use Rattle.std.proofs.Common.{◌≡◌, drop}
use Rattle.std.specs.Cmp.Lexicographic.{slice_cmp}
use Rattle.ty_terms.specs.Order.{order}
use Rattle.ty_terms.proofs.order.+order.Given as goal

abbrev pub invariant-compare_all-loop-i : goal.invariant-compare_all-loop-i
invariant-compare_all-loop-i l = slice_cmp order (drop l.i l.a) (drop l.i l.b) ≡ slice_cmp order l.a l.b

-- The operand's number fits 128 bits.
use Rattle.std.proofs.Common.{◌≡◌, subst, ℤ, IfSome}
use Rattle.num_core.specs.Integers.{number, kind_of_type}
use Rattle.num_core.proofs.WideNumbers.{read_number_is}
use Rattle.num_core.proofs.arithmetic.conv_ovf.Goals as goal

pub returns-clause-number : goal.returns-clause-number
returns-clause-number c =
    subst (λ (z : ℤ). IfSome c.checked.result (λ r. number (kind_of_type c.args.to) r ≡ z))
    (read_number_is c.args.from c.args.a c.number_of.result c.requires c.ranges.a c.number_of.ensures)
    c.checked.ensures.number

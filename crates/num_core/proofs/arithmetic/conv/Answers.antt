-- What is held is read again as what was wrapped.
use Rattle.std.proofs.Common.{rules, ◌≡◌, ◌∙◌, ap, to_z, of_z}
use Rattle.std.specs.Int.{w64}
use Rattle.num_core.specs.Integers.{number, held, kind_of_type, is_signed_type, width, reading, converted}
use Rattle.num_core.proofs.IntegerLaws.{number-wrapped_to_type}
use Rattle.num_core.proofs.arithmetic.conv.Goals as goal

pub returns-clause-number : goal.returns-clause-number
returns-clause-number c =
    let to = c.args.to in
    let is : to_z w64 (of_z w64 c.holding.result) ≡ held (kind_of_type to) (converted to c.args.from c.args.a) =
    search rules in
    ap (number (kind_of_type to)) is ∙ number-wrapped_to_type to
    (reading (is_signed_type to) (width c.args.from) c.args.a)

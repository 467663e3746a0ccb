-- What a held number in range reads as.
use Rattle.std.proofs.Common.{rules, ◌≡◌, ◌∙◌, ap, IsTrue, to_z, of_z}
use Rattle.std.specs.Int.{w64}
use Rattle.num_core.specs.Integers.{number, held, kind_of_type, in_range_of_type, is_signed, width}
use Rattle.num_core.proofs.IntegerLaws.{reading-inside, in_range-kind_of_type}
use Rattle.num_core.proofs.kind.Narrow.checked.Goals as goal

pub returns-then-whole-greatest-clause-number : goal.returns-then-whole-greatest-clause-number
returns-then-whole-greatest-clause-number c =
    let inside : IsTrue (in_range_of_type c.args.self c.args.whole) = search rules in
    let kind = kind_of_type c.args.self in
    let is : to_z w64 (of_z w64 c.holding.result) ≡ held kind c.args.whole = search rules in
    ap (number kind) is ∙ reading-inside (is_signed kind) (width kind) c.args.whole
    (in_range-kind_of_type c.args.self c.args.whole inside)

-- The quotient and the remainder at 128 bits are those of the numbers, and lie in the kind's range.
use Rattle.std.proofs.Common.{rules, ◌≡◌, ◌≢◌, ◌∙◌, ap, sym, ℤ, negsuc, int_div, int_rem, FitsSigned, IsTrue, to_z}
use Rattle.std.proofs.Common.{of_z}
use Rattle.std.proofs.lemmas.Int.{to_z-of_z}
use Rattle.std.specs.Int.{w64, w128}
use Rattle.num_core.specs.declared.kind.Kind.{Kind}
use Rattle.num_core.specs.Integers.{number, held, in_range, least, is_signed, width}
use Rattle.num_core.proofs.IntegerLaws.{reading_lies, reading-inside, number-zero}
use Rattle.num_core.proofs.DivisionLaws.{quotient_lies, remainder_lies}
use Rattle.num_core.proofs.WideNumbers.{number_is, read_number_is, in_range_fits}
use Rattle.num_core.proofs.arithmetic.div_rem.Goals as goal
use Rattle.num_core.proofs.arithmetic.div_rem.Goals.{else-divisor-via-then-divisor+else-dividend-least}
use Rattle.num_core.proofs.arithmetic.div_rem.Goals.{else-divisor-via-else-divisor}

-- what is held of an exact number in range is read as that number
read_back : (kind : Kind) (h r z : ℤ) → FitsSigned w64 h → h ≡ held kind (to_z w128 (of_z w128 r)) → r ≡ z
    → IsTrue (in_range kind z) → number kind (to_z w64 (of_z w64 h)) ≡ z
read_back kind h r z fits is same inside =
    ap (number kind) (to_z-of_z w64 h fits ∙ is ∙ ap (λ x. held kind (to_z w128 (of_z w128 x))) same
    ∙ ap (held kind) (to_z-of_z w128 z (in_range_fits kind z inside)))
    ∙ reading-inside (is_signed kind) (width kind) z inside

dividend_is : (c : goal.After-holding-else-divisor) → c.number_of-dividend.result ≡ number c.args.kind c.args.a
dividend_is c = number_is c.args.kind c.args.a c.number_of-dividend.result c.requires.a c.ranges.a
    c.number_of-dividend.ensures

divisor_is : (c : goal.After-holding-else-divisor) → c.number_of-divisor.result ≡ number c.args.kind c.args.b
divisor_is c = number_is c.args.kind c.args.b c.number_of-divisor.result c.requires.b c.ranges.b
    c.number_of-divisor.ensures

-- the dividend isn't the least number, or the divisor isn't -1
apart : (c : goal.After-holding-else-divisor)
    → number c.args.kind c.args.a ≡ least (is_signed c.args.kind) (width c.args.kind)
    → number c.args.kind c.args.b ≢ negsuc 0
apart c e d =
    elim c.else-divisor.branch [
      | else-divisor-via-then-divisor+else-dividend-least w ↦
          let same : w.least.result ≡ least (is_signed c.args.kind) (width c.args.kind) =
          w.least.ensures ∙ (λ i. least (w.as_type.ensures.signed i) (w.as_type.ensures.width i)) in
          w.if-dividend-least.false (ap (of_z w128) (dividend_is c ∙ e ∙ sym same))
      | else-divisor-via-else-divisor w ↦ w.if-divisor.false (ap (of_z w128) (divisor_is c ∙ d))
    ]

pub returns-else-divisor-clause-zero : goal.returns-else-divisor-clause-zero
returns-else-divisor-clause-zero c = (
  λ e. cc,
  λ e. absurd (c.if-divisor-eq0.false
      (ap (of_z w128) (divisor_is c ∙ ap (number c.args.kind) e ∙ number-zero c.args.kind))),
)

pub returns-else-divisor-clause-quotient : goal.returns-else-divisor-clause-quotient
returns-else-divisor-clause-quotient c =
    let kind = c.args.kind in
    let x = number kind c.args.a in
    let y = number kind c.args.b in
    let fits : FitsSigned w64 c.holding.result = search rules in
    let inside = quotient_lies (is_signed kind) (width kind) x y
    (reading_lies (is_signed kind) (width kind) c.args.a c.requires.a)
    (reading_lies (is_signed kind) (width kind) c.args.b c.requires.b) (apart c) in
    read_back kind c.holding.result _ (int_div x y) fits c.holding.ensures.value
    (λ i. int_div (read_number_is kind c.args.a c.number_of-dividend.result c.requires.a c.ranges.a
    c.number_of-dividend.ensures i)
    (read_number_is kind c.args.b c.number_of-divisor.result c.requires.b c.ranges.b c.number_of-divisor.ensures i))
    inside

pub returns-else-divisor-clause-remainder : goal.returns-else-divisor-clause-remainder
returns-else-divisor-clause-remainder c =
    let kind = c.args.kind in
    let x = number kind c.args.a in
    let y = number kind c.args.b in
    let fits : FitsSigned w64 c.holding-else-divisor.result = search rules in
    let inside = remainder_lies (is_signed kind) (width kind) x y
    (reading_lies (is_signed kind) (width kind) c.args.a c.requires.a) in
    read_back kind c.holding-else-divisor.result _ (int_rem x y) fits c.holding-else-divisor.ensures.value
    (λ i. int_rem (read_number_is kind c.args.a c.number_of-dividend.result c.requires.a c.ranges.a
    c.number_of-dividend.ensures i)
    (read_number_is kind c.args.b c.number_of-divisor.result c.requires.b c.ranges.b c.number_of-divisor.ensures i))
    inside

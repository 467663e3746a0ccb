use Rattle.std.proofs.Common.{◌≡◌, ◌∙◌, ◌+◌, ◌-◌, ◌++◌, ◌∷◌, [], ℕ, suc, List, Some, drop, length, ap, sym, arith}
use Rattle.std.proofs.Common.{rules}
use Rattle.il_text.specs.Values.{name_byte_in, name_from}
use Rattle.il_text.proofs.NameRead.{byte_on, byte_bad, at_quote, named}
use Rattle.il_text.proofs.values.name_from.Goals as goal

pub returns-then-rest-le1 : goal.returns-then-rest-le1
returns-then-rest-le1 c =
    let left : ℕ = c.loop-left.left - 1 in
    let one : c.loop-left.left ≡ suc left = omega (arith, c.loop-left-test.true) in
    c.if_quote.ensures
    ∙ sym (at_quote c.loop-left.left left c.loop-left.name c.loop-left.rest.now
    (name_from (length c.args.word.now + 1) c.args.word.now) one (omega (arith, c.if-rest-le1.true))
    c.loop-left.invariant)

pub returns-in-None : goal.returns-in-None
returns-in-None c =
    let left : ℕ = c.loop-left.left - 1 in
    let one : c.loop-left.left ≡ suc left = omega (arith, c.loop-left-test.true) in
    sym (byte_bad c.loop-left.left left c.loop-left.name c.loop-left.rest.now
    (name_from (length c.args.word.now + 1) c.args.word.now) one (omega (arith, c.if-rest-le1.false))
    c.in-None.ensures.value c.loop-left.invariant)

pub loop-left-preserved : goal.loop-left-preserved
loop-left-preserved c =
    let left : ℕ = c.loop-left.left - 1 in
    let one : c.loop-left.left ≡ suc left = omega (arith, c.loop-left-test.true) in
    let rest : List ℕ = c.loop-left.rest.now in
    let is : Some (c.in-Some.byte, c.in-Some.size) ≡ name_byte_in rest = search rules in
    let grown : c.push.new.out ≡ c.loop-left.name ++ c.in-Some.byte ∷ [] = search rules in
    byte_on c.loop-left.left left c.in-Some.byte c.in-Some.size c.loop-left.name rest
    (name_from (length c.args.word.now + 1) c.args.word.now) one (omega (arith, c.if-rest-le1.false)) is
    c.loop-left.invariant
    ∙ ap (λ name. named name (name_from left (drop c.in-Some.size rest))) (sym grown)
    ∙ ap (λ r. named c.push.new.out (name_from left r)) (sym c.split.ensures.back)

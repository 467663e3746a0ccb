-- A number is spelled exactly where `parse` gives one whose digits are the word.
use Rattle.std.proofs.Common.{refl, sym, arith, None, Some}
use Rattle.ilc.proofs.NumberOf.{spells, spelled_exactly, not_parsed, parsed_other, same_bytes, other_bytes}
use Rattle.ilc.proofs.grammar.number_of.Goals as goal
use Rattle.ilc.proofs.grammar.number_of.Goals.{else-number-most-via-then-number-most+else-eq}
use Rattle.ilc.proofs.grammar.number_of.Goals.{else-number-most-via-else-number-most}

pub returns-in_default-parse-clause-number : goal.returns-in_default-parse-clause-number
returns-in_default-parse-clause-number c =
    sym (not_parsed c.args.most (omega (arith, c.ranges.most)) c.args.word.now c.in-Ok.text.now c.parse.result
    c.in_default-parse.field-0 c.in-Ok.ensures.cases.0 c.parse.ensures.value.0 c.in_default-parse.is)

pub returns-in_default-parse-clause-spelled : goal.returns-in_default-parse-clause-spelled
returns-in_default-parse-clause-spelled c =
    spelled_exactly c.args.most (omega (arith, c.ranges.most)) c.args.word.now None
    (returns-in_default-parse-clause-number c)

pub returns-then-eq-clause-number : goal.returns-then-eq-clause-number
returns-then-eq-clause-number c =
    sym (spells c.args.most (omega (arith, c.ranges.most)) c.args.word.now c.in-Ok-parse.number
    c.if-number-most.true
    (same_bytes _ _ c.args.word.now _ c.eq.result refl c.decimal.ensures c.eq.ensures c.if-eq.true))

pub returns-then-eq-clause-spelled : goal.returns-then-eq-clause-spelled
returns-then-eq-clause-spelled c =
    spelled_exactly c.args.most (omega (arith, c.ranges.most)) c.args.word.now (Some c.in-Ok-parse.number)
    (returns-then-eq-clause-number c)

pub returns-else-number-most-clause-number : goal.returns-else-number-most-clause-number
returns-else-number-most-clause-number c =
    sym (parsed_other c.args.most (omega (arith, c.ranges.most)) c.args.word.now c.in-Ok.text.now c.parse.result
    c.in-Ok-parse.number c.in-Ok.ensures.cases.0 c.parse.ensures.value.0 c.in-Ok-parse.is
    (λ small same.
    elim c.else-number-most.branch [
      | else-number-most-via-then-number-most+else-eq w ↦
          other_bytes _ _ c.args.word.now _ w.eq.result refl w.decimal.ensures w.eq.ensures w.if-eq.false same
      | else-number-most-via-else-number-most w ↦ omega (arith, w.if-number-most.false)
    ]))

pub returns-else-number-most-clause-spelled : goal.returns-else-number-most-clause-spelled
returns-else-number-most-clause-spelled c =
    spelled_exactly c.args.most (omega (arith, c.ranges.most)) c.args.word.now None
    (returns-else-number-most-clause-number c)

use Rattle.std.proofs.Common.{◌≡◌, ◌∙◌, ap, sym, subst, OnOk, Some}
use Rattle.ilc.specs.Words.{with_word, with_option}
use Rattle.ilc.proofs.reading.Reading.take.Goals as goal

pub returns-in-Some-option_named-clause-taken : goal.returns-in-Some-option_named-clause-taken
returns-in-Some-option_named-clause-taken c =
    let same : with_word c.args.command c.args.self.now c.args.word.now c.args.self.now.awaits ≡ with_option
    c.args.command c.args.self.now c.args.word.now (Some c.in-Some-option_named.option) =
    ap (with_word c.args.command c.args.self.now c.args.word.now) c.in-None.is
    ∙ ap (with_option c.args.command c.args.self.now c.args.word.now)
    (sym c.option_named.ensures ∙ c.in-Some-option_named.is) in
    subst (λ o. OnOk c.take_option.result (o ≡ Some c.take_option.new.self)) (sym same)
    (c.take_option.ensures.taken c.args.command c.args.word.now)

pub returns-in-Some-option_named-clause-wrong : goal.returns-in-Some-option_named-clause-wrong
returns-in-Some-option_named-clause-wrong c refused =
    ap (with_word c.args.command c.args.self.now c.args.word.now) c.in-None.is
    ∙ (ap (with_option c.args.command c.args.self.now c.args.word.now)
    (sym c.option_named.ensures ∙ c.in-Some-option_named.is)
    ∙ c.take_option.ensures.wrong c.args.command c.args.word.now refused)

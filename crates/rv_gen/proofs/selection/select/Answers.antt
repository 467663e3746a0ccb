use Rattle.std.proofs.Common.{◌≡◌, ◌∙◌, All, IfOk, OnOk, map, subst}
use Rattle.rv_isa.specs.Instructions.{IsLegal, word_of}
use Rattle.rv_gen.specs.Lines.{lines_of}
use Rattle.rv_gen.specs.Placing.{code_in, places_in, rows_by}
use Rattle.rv_gen.proofs.selection.select.Goals as goal

pub returns-clause-words : goal.returns-clause-words
returns-clause-words c =
    let e : c.as_slice.result.now ≡ lines_of c.args.body.now = c.as_slice.ensures ∙ c.in_ok-lines.ensures in
    subst (λ lines. IfOk c.place_code.result (λ code. code.words ≡ map word_of (code_in lines))) e
    c.place_code.ensures.words

pub returns-clause-map : goal.returns-clause-map
returns-clause-map c =
    let e : c.as_slice.result.now ≡ lines_of c.args.body.now = c.as_slice.ensures ∙ c.in_ok-lines.ensures in
    subst (λ marks. IfOk c.place_code.result
    (λ code. code.map ≡ rows_by (places_in (lines_of c.args.body.now)) marks)) c.as_slice-2.ensures
    (subst (λ lines. IfOk c.place_code.result
    (λ code. code.map ≡ rows_by (places_in lines) c.as_slice-2.result.now)) e c.place_code.ensures.map)

pub returns-clause-legal : goal.returns-clause-legal
returns-clause-legal c =
    let e : c.as_slice.result.now ≡ lines_of c.args.body.now = c.as_slice.ensures ∙ c.in_ok-lines.ensures in
    subst (λ lines. OnOk c.place_code.result (All IsLegal (code_in lines))) e c.place_code.ensures.legal

use Rattle.std.proofs.Common.{◌≡◌, ◌∙◌, ◌++◌, ℕ, List, [], codes, decimal, map, ap, append_assoc, sym}
use Rattle.ilc.specs.Line.{words, field_text, refusal_line}
use Rattle.ilc.specs.Refusals.{refusal_row, listed_fields}
use Rattle.ilc.specs.declared.refusal.Refusal.{Refusal}
use Rattle.ilc.proofs.Printing.{breaks_first, breaks_second, breaks_last, adds_more, refusal_parts}
use Rattle.ilc.proofs.report.report_refusal.Goals as goal

-- the line, where its number and its name are known by equations
parts : (refusal : Refusal) (number name : List ℕ) → number ≡ decimal (refusal_row refusal.fault).number
    → name ≡ (refusal_row refusal.fault).name
    → refusal_line refusal.fault (map field_text (listed_fields refusal.fields))
    ≡ (codes "ilc: " ++ (number ++ (codes " " ++ (name ++ []))))
    ++ (words (map field_text (listed_fields refusal.fields)) ++ codes "\n")
parts refusal number name e f =
    let w : List ℕ = words (map field_text (listed_fields refusal.fields)) in
    refusal_parts (decimal (refusal_row refusal.fault).number) (refusal_row refusal.fault).name w
    ∙ (ap (λ n. (codes "ilc: " ++ (n ++ (codes " " ++ ((refusal_row refusal.fault).name ++ [])))) ++ (w ++ codes "\n"))
    (sym e)
    ∙ ap (λ m. (codes "ilc: " ++ (number ++ (codes " " ++ (m ++ [])))) ++ (w ++ codes "\n")) (sym f))

pub returns-in_err-write_pieces-clause-broken_off : goal.returns-in_err-write_pieces-clause-broken_off
returns-in_err-write_pieces-clause-broken_off g c =
    breaks_first c.from_residual.result _
    (codes "ilc: " ++ (c.decimal-number.result.now ++ (codes " " ++ (c.name-name.result.now ++ []))))
    (words (map field_text (listed_fields c.args.refusal.now.fields)) ++ codes "\n") _ _
    (parts c.args.refusal.now c.decimal-number.result.now c.name-name.result.now
    (c.decimal-number.ensures ∙ ap decimal c.row.ensures.number) c.name-name.ensures)
    c.in_err-write_pieces.ensures.broken_off

pub returns-in_err-write_fields-clause-broken_off : goal.returns-in_err-write_fields-clause-broken_off
returns-in_err-write_fields-clause-broken_off g c =
    breaks_second c.from_residual-in_err-write_fields.result _
    (codes "ilc: " ++ (c.decimal-number.result.now ++ (codes " " ++ (c.name-name.result.now ++ []))))
    (words (map field_text (listed_fields c.args.refusal.now.fields))) (codes "\n") _
    (g.S.Sink.written c.write_pieces.new.sink) _
    (parts c.args.refusal.now c.decimal-number.result.now c.name-name.result.now
    (c.decimal-number.ensures ∙ ap decimal c.row.ensures.number) c.name-name.ensures)
    c.in_ok-write_pieces.ensures.written c.in_err-write_fields.ensures.broken_off

pub returns-clause-broken_off : goal.returns-clause-broken_off
returns-clause-broken_off g c =
    let a : List ℕ = codes "ilc: " ++ (c.decimal-number.result.now ++ (codes " " ++ (c.name-name.result.now ++ []))) in
    let w : List ℕ = words (map field_text (listed_fields c.args.refusal.now.fields)) in
    breaks_last c.write_all.result _ (a ++ w) (codes "\n") (g.S.Sink.written c.args.sink.now)
    (g.S.Sink.written c.write_fields.new.sink) (g.S.Sink.written c.write_all.new.sink)
    (parts c.args.refusal.now c.decimal-number.result.now c.name-name.result.now
    (c.decimal-number.ensures ∙ ap decimal c.row.ensures.number) c.name-name.ensures
    ∙ sym (append_assoc a w (codes "\n")))
    (adds_more a w (g.S.Sink.written c.args.sink.now) (g.S.Sink.written c.write_pieces.new.sink)
    (g.S.Sink.written c.write_fields.new.sink) c.in_ok-write_pieces.ensures.written
    c.in_ok-write_fields.ensures.printed)
    c.write_all.ensures.broken_off

use Rattle.std.proofs.Common.{◌≡◌, ◌∙◌, ◌++◌, [], codes, map, ap, append_assoc, sym}
use Rattle.std.proofs.lemmas.List.{append-nil}
use Rattle.ilc.specs.Line.{words, field_text}
use Rattle.ilc.specs.Refusals.{listed_fields}
use Rattle.ilc.specs.declared.refusal.Field.{Field}
use Rattle.ilc.specs.declared.refusal.Fields.{Fields}
use Rattle.ilc.specs.declared.refusal.Fields.TheVariants.{Two, Three}
use Rattle.ilc.proofs.Printing.{breaks_first, breaks_second, breaks_last, adds_more}
use Rattle.ilc.proofs.report.write_fields.Goals as goal

of_two : (fields : Fields) (a b : Field) → fields ≡ Two a b
    → words (map field_text (listed_fields fields))
    ≡ (codes " " ++ field_text a) ++ ((codes " " ++ field_text b) ++ [])
of_two fields a b e = ap (λ f. words (map field_text (listed_fields f))) e

of_three : (fields : Fields) (a b d : Field) → fields ≡ Three a b d
    → words (map field_text (listed_fields fields))
    ≡ (codes " " ++ field_text a) ++ ((codes " " ++ field_text b) ++ ((codes " " ++ field_text d) ++ []))
of_three fields a b d e = ap (λ f. words (map field_text (listed_fields f))) e

two_parts : (fields : Fields) (a b : Field) → fields ≡ Two a b
    → words (map field_text (listed_fields fields)) ≡ (codes " " ++ field_text a) ++ (codes " " ++ field_text b)
two_parts fields a b e =
    of_two fields a b e
    ∙ ap (λ l. (codes " " ++ field_text a) ++ l) (append-nil (codes " " ++ field_text b))

three_parts : (fields : Fields) (a b d : Field) → fields ≡ Three a b d
    → words (map field_text (listed_fields fields))
    ≡ ((codes " " ++ field_text a) ++ (codes " " ++ field_text b)) ++ (codes " " ++ field_text d)
three_parts fields a b d e =
    of_three fields a b d e
    ∙ (ap (λ l. (codes " " ++ field_text a) ++ ((codes " " ++ field_text b) ++ l))
    (append-nil (codes " " ++ field_text d))
    ∙ sym (append_assoc (codes " " ++ field_text a) (codes " " ++ field_text b) (codes " " ++ field_text d)))

pub returns-in_err-write_field-in-Two-clause-broken_off : goal.returns-in_err-write_field-in-Two-clause-broken_off
returns-in_err-write_field-in-Two-clause-broken_off g c =
    breaks_first c.from_residual.result _ _ _ _ _ (of_two c.args.fields.now _ _ c.in-Two.is)
    c.in_err-write_field-in-Two.ensures.broken_off

pub returns-in_ok-write_field-in-Two-clause-broken_off : goal.returns-in_ok-write_field-in-Two-clause-broken_off
returns-in_ok-write_field-in-Two-clause-broken_off g c =
    breaks_last c.write_field-in-Two-2.result _ _ _ (g.S.Sink.written c.args.sink.now)
    (g.S.Sink.written c.write_field-in-Two.new.sink) (g.S.Sink.written c.write_field-in-Two-2.new.sink)
    (two_parts c.args.fields.now _ _ c.in-Two.is)
    c.in_ok-write_field-in-Two.ensures.printed c.write_field-in-Two-2.ensures.broken_off

pub returns-in_err-write_field-in-Three-clause-broken_off : goal.returns-in_err-write_field-in-Three-clause-broken_off
returns-in_err-write_field-in-Three-clause-broken_off g c =
    breaks_first c.from_residual-in_err-write_field-in-Three.result _ _ _ _ _
    (of_three c.args.fields.now _ _ _ c.in-Three.is) c.in_err-write_field-in-Three.ensures.broken_off

pub returns-in_err-write_field-in-Three-2-clause-broken_off :
    goal.returns-in_err-write_field-in-Three-2-clause-broken_off
returns-in_err-write_field-in-Three-2-clause-broken_off g c =
    breaks_second c.from_residual-in_err-write_field-in-Three-2.result _ _ _ _ _
    (g.S.Sink.written c.write_field-in-Three.new.sink) _ (of_three c.args.fields.now _ _ _ c.in-Three.is)
    c.in_ok-write_field-in-Three.ensures.printed c.in_err-write_field-in-Three-2.ensures.broken_off

pub returns-in_ok-write_field-in-Three-2-clause-broken_off :
    goal.returns-in_ok-write_field-in-Three-2-clause-broken_off
returns-in_ok-write_field-in-Three-2-clause-broken_off g c =
    breaks_last c.write_field-in-Three-3.result _ _ _ (g.S.Sink.written c.args.sink.now)
    (g.S.Sink.written c.write_field-in-Three-2.new.sink) (g.S.Sink.written c.write_field-in-Three-3.new.sink)
    (three_parts c.args.fields.now _ _ _ c.in-Three.is)
    (adds_more _ _ (g.S.Sink.written c.args.sink.now) (g.S.Sink.written c.write_field-in-Three.new.sink)
    (g.S.Sink.written c.write_field-in-Three-2.new.sink) c.in_ok-write_field-in-Three.ensures.printed
    c.in_ok-write_field-in-Three-2.ensures.printed)
    c.write_field-in-Three-3.ensures.broken_off

use Rattle.std.proofs.Common.{◌∙◌, ◌++◌, ℕ, List, codes, map, ap, refl, sym, append_assoc}
use Rattle.std.specs.List.{flat_map}
use Rattle.ilc.specs.Line.{words}
use Rattle.ilc.proofs.Printing.{breaks_first, breaks_second, breaks_last, prints_last, adds_more, flat_map-map}
use Rattle.ilc.proofs.report.write_line.Goals as goal

pub returns-in_err-write_all-clause-broken_off : goal.returns-in_err-write_all-clause-broken_off
returns-in_err-write_all-clause-broken_off g c =
    breaks_first c.from_residual.result _ (codes "ilc:")
    (words (map (λ word. word.now) c.args.written.now) ++ codes "\n") _ _ refl c.in_err-write_all.ensures.broken_off

pub returns-in_err-write_words-clause-broken_off : goal.returns-in_err-write_words-clause-broken_off
returns-in_err-write_words-clause-broken_off g c =
    breaks_second c.from_residual-in_err-write_words.result _ (codes "ilc:")
    (flat_map (λ word. codes " " ++ word.now) c.args.written.now) (codes "\n") _
    (g.S.Sink.written c.write_all.new.sink) _
    (ap (λ w. codes "ilc:" ++ (w ++ codes "\n"))
    (flat_map-map (λ word. codes " " ++ word) (λ word. word.now) c.args.written.now))
    c.in_ok-write_all.ensures.written c.in_err-write_words.ensures.broken_off

pub returns-clause-printed : goal.returns-clause-printed
returns-clause-printed g c =
    let w : List ℕ = flat_map (λ word. codes " " ++ word.now) c.args.written.now in
    prints_last c.write_all-2.result _ (codes "ilc:" ++ w) (codes "\n") (g.S.Sink.written c.args.sink.now)
    (g.S.Sink.written c.write_words.new.sink) (g.S.Sink.written c.write_all-2.new.sink)
    (ap (λ w. codes "ilc:" ++ (w ++ codes "\n"))
    (flat_map-map (λ word. codes " " ++ word) (λ word. word.now) c.args.written.now)
    ∙ sym (append_assoc (codes "ilc:") w (codes "\n")))
    (adds_more (codes "ilc:") w (g.S.Sink.written c.args.sink.now) (g.S.Sink.written c.write_all.new.sink)
    (g.S.Sink.written c.write_words.new.sink) c.in_ok-write_all.ensures.written c.in_ok-write_words.ensures.printed)
    c.write_all-2.ensures.written

pub returns-clause-broken_off : goal.returns-clause-broken_off
returns-clause-broken_off g c =
    let w : List ℕ = flat_map (λ word. codes " " ++ word.now) c.args.written.now in
    breaks_last c.write_all-2.result _ (codes "ilc:" ++ w) (codes "\n") (g.S.Sink.written c.args.sink.now)
    (g.S.Sink.written c.write_words.new.sink) (g.S.Sink.written c.write_all-2.new.sink)
    (ap (λ w. codes "ilc:" ++ (w ++ codes "\n"))
    (flat_map-map (λ word. codes " " ++ word) (λ word. word.now) c.args.written.now)
    ∙ sym (append_assoc (codes "ilc:") w (codes "\n")))
    (adds_more (codes "ilc:") w (g.S.Sink.written c.args.sink.now) (g.S.Sink.written c.write_all.new.sink)
    (g.S.Sink.written c.write_words.new.sink) c.in_ok-write_all.ensures.written c.in_ok-write_words.ensures.printed)
    c.write_all-2.ensures.broken_off

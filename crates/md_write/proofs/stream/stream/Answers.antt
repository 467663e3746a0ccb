use Rattle.std.proofs.Common.{◌≡◌, ◌∙◌, ap}
use Rattle.std.proofs.lemmas.Result.{IfOk-weaker}
use Rattle.md_write.specs.Heaps.{heaps_of}
use Rattle.md_write.specs.Stream.{row_counts, layout_with, layout_of, data_at, stream_with, stream_of}
use Rattle.md_write.proofs.stream.stream.Goals as goal

pub returns-in-Ok : goal.returns-in-Ok
unfolding stream_of
returns-in-Ok c =
    let tables = c.args.tables.now in
    let same : stream_with c.in-Ok.layout c.args.heaps.now c.args.data_at tables
    ≡ stream_with (layout_of tables) (heaps_of tables) (data_at tables) tables =
    ap (λ l. stream_with l c.args.heaps.now c.args.data_at tables) c.in-Ok.ensures
    ∙ (ap (λ h. stream_with (layout_with (row_counts tables) h) h c.args.data_at tables) c.requires.heaps
    ∙ ap (λ d. stream_with (layout_of tables) (heaps_of tables) d tables) c.requires.data) in
    IfOk-weaker c.stream_by.result
    (λ bytes. bytes ≡ stream_with c.in-Ok.layout c.args.heaps.now c.args.data_at tables)
    (λ bytes. bytes ≡ stream_with (layout_of tables) (heaps_of tables) (data_at tables) tables)
    (λ bytes e. e ∙ same) c.stream_by.ensures

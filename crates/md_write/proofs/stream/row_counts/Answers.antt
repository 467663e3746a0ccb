use Rattle.std.proofs.Common.{◌∙◌, ◌++◌, ◌∷◌, [], ap, sym, map, arith}
use Rattle.std.specs.List.{range_with_len}
use Rattle.std.proofs.lemmas.List.FromFn.{map-range_with_len_more}
use Rattle.md_write.specs.Stream.{row_count}
use Rattle.md_write.proofs.stream.row_counts.Goals as goal

pub loop-number-preserved : goal.loop-number-preserved
loop-number-preserved c =
    c.in-Ok.ensures.ok
    ∙ (ap (λ counts. counts ++ c.row_count.result ∷ []) c.loop-number.invariant
    ∙ (ap (λ n. map (row_count c.args.tables.now) (range_with_len 0 c.loop-number.number) ++ n ∷ []) c.row_count.ensures
    ∙ sym (map-range_with_len_more (row_count c.args.tables.now) 0 c.loop-number.number c.loop-number.number
    (omega arith))))

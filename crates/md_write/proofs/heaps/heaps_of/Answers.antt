use Rattle.std.proofs.Common.{◌∙◌, ap, fold, sym}
use Rattle.md_rows.specs.Tables.{tables as schemas}
use Rattle.md_write.specs.Heaps.{heaps_of, with_table}
use Rattle.md_write.proofs.heaps.heaps_of.Goals as goal

pub loop-schema-init : goal.loop-schema-init
unfolding heaps_of
loop-schema-init c =
    ap (λ heaps. fold (with_table c.args.tables.now) heaps schemas) (sym c.in-Ok.ensures)
    ∙ ap (λ left. fold (with_table c.args.tables.now) c.in-Ok.heaps left) (sym c.schemas-schema-items.ensures)

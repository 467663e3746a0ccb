use Rattle.std.proofs.Common.{◌≡◌, ◌∙◌, ℕ, List, [], ◌∷◌, ◌++◌, ap, refl, sym, rules}
use Rattle.std.specs.Option.{option_to_list}
use Rattle.md_rows.specs.declared.table.Table.{Table}
use Rattle.pe_image.specs.Pe.{Parts}
use Rattle.md_tables.specs.declared.data.Held.{Held}
use Rattle.md_tables.specs.Finished.{finished_table, finished_tables}
use Rattle.md_tables.proofs.Finishing.{all_in_front, finish_on}
use Rattle.md_tables.proofs.finish.finish_tables.Goals as goal

pub loop-table-preserved : goal.loop-table-preserved
loop-table-preserved c =
    let image : Parts = c.args.image.now in
    let held : List Held = c.args.held.now in
    let rest : List Table = c.pop_front.new.self.items in
    let first : c.loop-table.left.items ≡ c.in-Some.table ∷ rest =
    c.pop_front.ensures.items ∙ ap (λ o. option_to_list o ++ rest) c.in-Some.is in
    let pushed : c.push.new.self ≡ c.loop-table.done ++ c.in-Ok.table ∷ [] = search rules in
    finish_on (finished_table image held) (finished_tables image held) c.loop-table.left.items rest
    c.in-Some.table c.loop-table.done c.in-Ok.table (finished_tables image held c.args.tables) refl first
    c.in-Ok.ensures.read c.loop-table.invariant
    ∙ ap (λ done. all_in_front done (finished_tables image held rest)) (sym pushed)

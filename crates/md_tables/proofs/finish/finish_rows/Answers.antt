use Rattle.std.proofs.Common.{◌≡◌, ◌∙◌, ℕ, List, [], ◌∷◌, ◌++◌, ap, refl, sym, rules}
use Rattle.std.specs.Option.{option_to_list}
use Rattle.md_rows.specs.declared.row.Row.{Row}
use Rattle.pe_image.specs.Pe.{Parts}
use Rattle.md_tables.specs.declared.data.Held.{Held}
use Rattle.md_tables.specs.Finished.{finished_row, finished_rows}
use Rattle.md_tables.proofs.Finishing.{all_in_front, finish_on}
use Rattle.md_tables.proofs.finish.finish_rows.Goals as goal

pub loop-row-preserved : goal.loop-row-preserved
loop-row-preserved c =
    let image : Parts = c.args.image.now in
    let held : List Held = c.args.held.now in
    let number : ℕ = c.args.number in
    let rest : List Row = c.pop_front.new.self.items in
    let first : c.loop-row.left.items ≡ c.in-Some.row ∷ rest =
    c.pop_front.ensures.items ∙ ap (λ o. option_to_list o ++ rest) c.in-Some.is in
    let pushed : c.push.new.self ≡ c.loop-row.done ++ c.in-Ok.row ∷ [] = search rules in
    finish_on (finished_row image held number) (finished_rows image held number) c.loop-row.left.items rest
    c.in-Some.row c.loop-row.done c.in-Ok.row (finished_rows image held number c.args.rows) refl first
    c.in-Ok.ensures.read c.loop-row.invariant
    ∙ ap (λ done. all_in_front done (finished_rows image held number rest)) (sym pushed)

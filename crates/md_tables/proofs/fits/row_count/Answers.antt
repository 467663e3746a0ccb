use Rattle.std.proofs.Common.{◌∙◌, length, Option, ap}
use Rattle.std.specs.Option.{option_map}
use Rattle.md_rows.specs.Widths.{or_zero}
use Rattle.md_tables.specs.declared.module.Table.{Table}
use Rattle.md_tables.proofs.fits.row_count.Goals as goal

pub returns-in-Some : goal.returns-in-Some
returns-in-Some c =
    c.len.ensures
    ∙ ap (λ (o : Option Table). or_zero (option_map (λ (table : Table). length table.rows) o)) c.in-Some.ensures

pub returns-in-None : goal.returns-in-None
returns-in-None c =
    ap (λ (o : Option Table). or_zero (option_map (λ (table : Table). length table.rows) o)) c.in-None.ensures

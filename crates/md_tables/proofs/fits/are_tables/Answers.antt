use Rattle.std.proofs.Common.{◌∙◌, List, ap}
use Rattle.std.specs.List.{filter}
use Rattle.md_rows.specs.Tables.{TableSchema}
use Rattle.md_rows.specs.Fits.{held_tables}
use Rattle.md_tables.specs.Modules.{rows_in, are_tables, is_module}
use Rattle.md_tables.proofs.fits.are_tables.Goals as goal

pub returns : goal.returns
unfolding is_module held_tables
returns c =
    c.are_tables_of.ensures
    ∙ ap (λ (schemas : List TableSchema). are_tables (rows_in c.args.tables.now)
    (filter (λ schema. schema.is_held) schemas) c.args.tables.now) c.schemas.ensures

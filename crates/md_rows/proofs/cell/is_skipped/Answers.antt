use Rattle.std.proofs.Common.{◌∙◌}
use Rattle.md_rows.proofs.Named.{skipped_is}
use Rattle.md_rows.proofs.cell.is_skipped.Goals as goal

pub returns : goal.returns
returns c = c.is_skipped_among.ensures ∙ skipped_is c.args.table c.schemas.result.now c.schemas.ensures

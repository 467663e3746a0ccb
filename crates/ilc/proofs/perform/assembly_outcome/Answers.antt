use Rattle.std.proofs.Common.{sym, subst}
use Rattle.ilc.specs.Reading.{IsUnreadable}
use Rattle.ilc.proofs.NotRead.{unreadable_image, unreadable_tables}
use Rattle.ilc.proofs.perform.assembly_outcome.Goals as goal

pub returns-in-Image : goal.returns-in-Image
returns-in-Image c bytes =
    subst (λ fault. IsUnreadable bytes c.args.file.now fault c.image_outcome.result) (sym c.in-Image.is)
    (unreadable_image bytes c.args.file.now c.in-Image.fault c.image_outcome.result c.image_outcome.ensures)

pub returns-in-Tables : goal.returns-in-Tables
returns-in-Tables c bytes =
    subst (λ fault. IsUnreadable bytes c.args.file.now fault c.tables_outcome.result) (sym c.in-Tables.is)
    (unreadable_tables bytes c.args.file.now c.in-Tables.fault c.tables_outcome.result c.tables_outcome.ensures)

use Rattle.il_text.proofs.Named.{held_is}
use Rattle.il_text.proofs.row.held.Goals as goal

pub returns-then-least-table : goal.returns-then-least-table
returns-then-least-table c =
    held_is c.schemas.result.now c.args.least c.args.table _ c.if-least-table.true c.held_among.ensures
    c.schemas.ensures

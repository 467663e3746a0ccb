use Rattle.md_rows.proofs.Named.{text_is}
use Rattle.md_rows.proofs.cell.text_at.Goals as goal

pub returns : goal.returns
returns c =
    text_is c.args.heap.now c.args.at c.string_at.result c.string_at.ensures.found c.string_at.ensures.none

use Rattle.md_tables.proofs.Names.{name_is}
use Rattle.md_tables.proofs.fits.is_name.Goals as goal

pub returns-in-Name : goal.returns-in-Name
returns-in-Name c =
    name_is c.in-Name.text c.bytes.result.now c.has_no_zero.result c.args.cell.now c.bytes.ensures.utf8
    c.bytes.ensures.bytes c.has_no_zero.ensures c.in-Name.is

use Rattle.std.proofs.Common.{◌∙◌, Ok, ap, sym}
use Rattle.md_rows.specs.Cells.{bytes_of}
use Rattle.md_tables.proofs.Finishing.{ordered, refused_rows, refused_tables, module_done}
use Rattle.md_tables.proofs.Whole.{whole}
use Rattle.md_tables.proofs.read.read_tables.Goals as goal

pub returns-in-Err-clause-refused : goal.returns-in-Err-clause-refused
returns-in-Err-clause-refused c =
    refused_rows c.args.image.now (bytes_of c.streams.result) c.in-Err.fault c.of_rows.result c.streams.ensures
    c.of_rows.ensures c.in-Err.ensures.refused

pub returns-in-Err-finish_tables-clause-refused : goal.returns-in-Err-finish_tables-clause-refused
returns-in-Err-finish_tables-clause-refused c =
    refused_tables c.args.image.now (bytes_of c.streams.result) c.in-Ok.rows c.deref.result.now
    c.in-Err-finish_tables.fault c.streams.ensures c.in-Ok.ensures.read
    (ordered c.args.image.now c.as_slice.result.now c.in-Ok.rows c.in-Ok-addresses.addresses.items c.deref.result.now c.as_slice.ensures
    c.deref.ensures.value c.in-Ok-addresses.ensures.same) c.in-Err-finish_tables.ensures.refused

pub returns-in-Ok-from_slice-clause-read : goal.returns-in-Ok-from_slice-clause-read
returns-in-Ok-from_slice-clause-read c =
    module_done c.args.image.now (bytes_of c.streams.result) c.in-Ok.rows c.deref.result.now
    c.in-Ok-finish_tables.tables c.entry.result c.in-Ok-from_slice.user c.streams.ensures c.in-Ok.ensures.read
    (ordered c.args.image.now c.as_slice.result.now c.in-Ok.rows c.in-Ok-addresses.addresses.items c.deref.result.now c.as_slice.ensures
    c.deref.ensures.value c.in-Ok-addresses.ensures.same) c.in-Ok-finish_tables.ensures.read c.entry.ensures
    (c.in-Ok-from_slice.ensures ∙ c.user.ensures)
    ∙ ap Ok (sym c.new.ensures)

pub new-requires : goal.new-requires
new-requires c =
    whole c.args.image.now c.deref.result.now c.in-Ok.rows c.in-Ok-finish_tables.tables
    c.in-Ok-finish_tables.ensures.read
    c.in-Ok.ensures.fit

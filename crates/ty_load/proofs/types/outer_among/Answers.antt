use Rattle.std.proofs.Common.{◌∙◌, ap, Option}
use Rattle.md_tables.specs.declared.module.TableRow.{TableRow}
use Rattle.ty_names.specs.Modules.{cell_of, index_of}
use Rattle.ty_load.proofs.types.outer_among.Goals as goal

pub returns-in-Some : goal.returns-in-Some
returns-in-Some c = c.index_of.ensures ∙ ap (λ (r : Option TableRow). index_of (cell_of r 1)) c.in-Some.ensures

pub returns-in-None : goal.returns-in-None
returns-in-None c = ap (λ (r : Option TableRow). index_of (cell_of r 1)) c.in-None.ensures

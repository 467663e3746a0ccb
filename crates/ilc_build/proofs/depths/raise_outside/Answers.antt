use Rattle.il_code.specs.Listing.{targets_in}
use Rattle.ilc_build.specs.Depths.{next_of}
use Rattle.ilc_build.proofs.Telling.{told-both}
use Rattle.ilc_build.proofs.depths.raise_outside.Goals as goal

pub returns : goal.returns
returns c = told-both c.args.instrs.now c.args.known (next_of c.args.instr.now) (targets_in c.args.instr.now.operand)
    c.args.table.now c.raise_next-behind.new.table c.raise_targets-elsewhere.new.table c.raise_next-behind.result
    c.raise_targets-elsewhere.result c.raise_next-behind.ensures c.raise_targets-elsewhere.ensures

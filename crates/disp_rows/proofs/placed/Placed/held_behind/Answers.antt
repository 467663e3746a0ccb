use Rattle.std.proofs.Common.{◌+◌, Some, None, ◌∙◌}
use Rattle.disp_rows.proofs.Laying.{held_at}
use Rattle.disp_rows.proofs.placed.Placed.held_behind.Goals as goal

pub returns-in-Some : goal.returns-in-Some
returns-in-Some c =
    c.held_by.ensures
    ∙ held_at c.args.self.now.cells (c.args.start + c.args.column) (Some c.in-Some.cell.now) c.args.row
    c.in-Some.ensures

pub returns-in-None : goal.returns-in-None
returns-in-None c =
    held_at c.args.self.now.cells (c.args.start + c.args.column) None c.args.row c.in-None.ensures

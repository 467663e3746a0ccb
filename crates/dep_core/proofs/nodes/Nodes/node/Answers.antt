use Rattle.std.proofs.Common.{slice_get, sym, ap, ◌∙◌}
use Rattle.dep_core.specs.Marks.{nodes_of}
use Rattle.dep_core.specs.Records.{marks_of}
use Rattle.dep_core.proofs.Chained.{get_map}
use Rattle.dep_core.proofs.nodes.Nodes.node.Goals as goal

pub returns : goal.returns
returns g c =
    let records = c.self.inside.records in
    ap (λ v. slice_get (nodes_of v.marks) c.args.place) (sym c.self.view_is)
    ∙ get_map (λ m. m.node) (marks_of records) c.args.place c.get.result.now.mark
    (get_map (λ r. r.mark) records c.args.place c.get.result.now c.get.ensures)

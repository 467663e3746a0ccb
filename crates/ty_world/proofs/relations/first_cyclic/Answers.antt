use Rattle.std.proofs.Common.{◌≡◌, ◌∙◌, List, ap}
use Rattle.ty_terms.specs.declared.names.TypeId.{TypeId}
use Rattle.ty_names.specs.Modules.{World}
use Rattle.ty_load.specs.Cycles.{all_ids}
use Rattle.graph_cycles.specs.Ways.{first_cyclic}
use Rattle.ty_world.specs.Numbering.{edges_of}
use Rattle.ty_world.proofs.Graphs.{first_found, none_found}
use Rattle.ty_world.proofs.relations.first_cyclic.Goals as goal

pub returns-in-Some : goal.returns-in-Some
returns-in-Some c =
    let world : World = c.args.names.now in
    let edges : TypeId → List TypeId = edges_of c.args.relation world in
    let found : c.in_ok-place.field-0 ≡ first_cyclic c.in_ok-graph.graph.items =
    c.in_ok-place.ensures ∙ ap first_cyclic c.as_slice.ensures.value in
    let ids : c.ids.result.now ≡ all_ids world = c.ids.ensures ∙ c.in_ok-numbering.ensures.ids in
    c.id_at.ensures
    ∙ first_found world edges c.in_ok-graph.ensures.defined c.ids.result.now c.in_ok-graph.graph.items
    c.in_ok-place.field-0 c.in-Some.place ids c.in_ok-graph.ensures.led found c.in-Some.is

pub returns : goal.returns
returns c =
    let world : World = c.args.names.now in
    let edges : TypeId → List TypeId = edges_of c.args.relation world in
    let found : c.in_ok-place.field-0 ≡ first_cyclic c.in_ok-graph.graph.items =
    c.in_ok-place.ensures ∙ ap first_cyclic c.as_slice.ensures.value in
    none_found world edges c.in_ok-graph.ensures.defined c.in_ok-graph.graph.items c.in_ok-place.field-0
    c.in_ok-graph.ensures.led found c.in-None.is

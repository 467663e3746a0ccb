use Rattle.std.proofs.Common.{◌≡◌, All, map, take}
use Rattle.ty_world.specs.Numbering.{IsDefined}
use Rattle.ty_world.specs.Numbering.{edges_of, number_of}
use Rattle.ty_world.proofs.relations.graph.Given as goal

abbrev pub invariant-loop-id : goal.invariant-loop-id
invariant-loop-id l = record {
  led : l.graph.items
      ≡ map (λ id. map (number_of l.names) (edges_of l.relation l.names id)) (take l.id-index l.numbering.ids.items);
  defined : All (λ id. All (IsDefined l.names) (edges_of l.relation l.names id))
      (take l.id-index l.numbering.ids.items);
}

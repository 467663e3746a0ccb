use Rattle.std.proofs.Common.{◌≡◌, ◌∙◌, ◌<◌, ℕ, All, List, length, map, get_or, ap, sym, subst, arith}
use Rattle.std.proofs.lemmas.List.Elements.{All-get_or, All-more}
use Rattle.ty_terms.specs.declared.names.TypeId.{TypeId}
use Rattle.ty_names.specs.Modules.{World}
use Rattle.ty_load.specs.Cycles.{all_ids}
use Rattle.ty_world.specs.Numbering.{IsDefined, edges_of, number_of}
use Rattle.ty_world.proofs.Ids.{all_defined}
use Rattle.ty_world.proofs.Graphs.{graph_more}
use Rattle.ty_world.proofs.relations.graph.Goals as goal

there : (world : World) (ids : List TypeId) (i : ℕ) (d : TypeId) → ids ≡ all_ids world → i < length ids
    → IsDefined world (get_or ids i d)
there world ids i d e h =
    All-get_or (IsDefined world) ids i d h (subst (All (IsDefined world)) (sym e) (all_defined world))

pub targets-requires-clause-there : goal.targets-requires-clause-there
targets-requires-clause-there c =
    there c.args.names.now c.ids-id-items.result.now c.loop-id.id-index (record { «module» = 0; row = 0 })
    (c.ids-id-items.ensures ∙ c.requires.ids) (omega (arith, c.loop-id-test.true))

pub loop-id-preserved : goal.loop-id-preserved
loop-id-preserved c =
    let world : World = c.args.names.now in
    let ids : List TypeId = c.args.numbering.now.ids.items in
    let items : List TypeId = c.ids-id-items.result.now in
    let i : ℕ = c.loop-id.id-index in
    let same : items ≡ ids = c.ids-id-items.ensures in
    let less : i < length items = omega (arith, c.loop-id-test.true) in
    let within : i < length ids = subst (λ (xs : List TypeId). i < length xs) same less in
    let d : TypeId = record { «module» = 0; row = 0 } in
    let edges : TypeId → List TypeId = edges_of c.args.relation world in
    let here : get_or items i d ≡ get_or ids i d = ap (λ (xs : List TypeId). get_or xs i d) same in
    record {
      led =
          graph_more (λ (id : TypeId). map (number_of world) (edges id)) ids i d c.loop-id.graph.items
          c.push.new.self.items c.in_ok-targets.field-0 within c.loop-id.invariant.led c.in_ok-push.ensures.items
          (c.in_ok-targets.ensures.led ∙ ap (λ (id : TypeId). map (number_of world) (edges id)) here);
      defined =
          All-more (λ (id : TypeId). All (IsDefined world) (edges id)) ids i d within c.loop-id.invariant.defined
          (subst (λ (id : TypeId). All (IsDefined world) (edges id)) here c.in_ok-targets.ensures.defined);
    }

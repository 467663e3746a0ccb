use Rattle.std.proofs.Common.{◌≡◌, ◌∙◌, ◌+◌, ◌++◌, ℕ, List, length, map, ap, sym, arith}
use Rattle.std.proofs.lemmas.List.{length_push}
use Rattle.std.specs.List.{flat_map, range_with_len}
use Rattle.ty_terms.specs.declared.names.TypeId.{TypeId}
use Rattle.md_tables.specs.declared.module.Table.{Table}
use Rattle.ty_names.specs.Modules.{World, tables_at}
use Rattle.ty_names.specs.Definitions.{type_count}
use Rattle.ty_names.specs.References.{id_of}
use Rattle.ty_load.specs.Cycles.{ids_of}
use Rattle.ty_world.specs.Numbering.{start_of}
use Rattle.ty_world.proofs.Ids.{ids_counted, ids_more, starts_more}
use Rattle.ty_world.proofs.numbering.numbering_of.Goals as goal

joined : (world : World) (number : ℕ) (tables : List Table) (ids new : List TypeId)
    → ids ≡ flat_map (ids_of world) (range_with_len 0 number) → tables ≡ tables_at world number
    → new ≡ ids ++ map (id_of number) (range_with_len 1 (type_count tables))
    → new ≡ flat_map (ids_of world) (range_with_len 0 (number + 1))
joined world number tables ids new e t f =
    f
    ∙ (λ i. e i ++ map (id_of number) (range_with_len 1 (type_count (t i))))
    ∙ sym (ids_more world number)

pub loop-number-preserved : goal.loop-number-preserved
loop-number-preserved c =
    let world : World = c.args.names.now in
    let number : ℕ = c.loop-number.number in
    let ids : List TypeId = c.loop-number.ids.items in
    let starts : List ℕ = c.loop-number.starts.items in
    let count : length ids ≡ start_of world number = ap length c.loop-number.invariant.ids ∙ ids_counted world number in
    let start : c.len.result ≡ start_of world number = omega (arith, c.len.ensures, c.loop-number.ids.ok, count) in
    record {
      ids =
          joined world number c.tables.result.now ids c.push_ids.new.ids.items c.loop-number.invariant.ids
          c.tables.ensures c.in_ok-push_ids.ensures;
      modules = ap length c.in_ok-push.ensures.items ∙ length_push starts c.len.result
          ∙ ap (λ n. n + 1) c.loop-number.invariant.modules;
      starts =
          starts_more world number starts c.push.new.self.items c.len.result c.loop-number.invariant.modules
          c.loop-number.invariant.starts c.in_ok-push.ensures.items start;
    }

use Rattle.std.proofs.Common.{◌∙◌, ◌+◌, ◌++◌, ◌∷◌, [], ℕ, Bool, List, ap, append_assoc, arith, cond, filter, map, sym}
use Rattle.std.proofs.lemmas.List.FromFn.{filter_of_map_range_with_len_more}
use Rattle.std.specs.List.{range_with_len}
use Rattle.ty_terms.specs.declared.names.TypeId.{TypeId}
use Rattle.ty_names.specs.References.{id_of}
use Rattle.ty_load.specs.Bases.{is_value_type}
use Rattle.ty_walks.proofs.values.add_values.Goals as goal

pub loop-before-preserved : goal.loop-before-preserved
loop-before-preserved c =
    let test : TypeId → Bool = is_value_type c.args.names.now in
    let before : ℕ = c.loop-before.before in
    let id : TypeId = id_of c.args.module (before + 1) in
    let found : List TypeId = filter test (map (id_of c.args.module) (range_with_len 1 before)) in
    c.in_ok-add_value.ensures
    ∙ ap (λ (l : List TypeId). l ++ cond (test id) (id ∷ []) []) c.loop-before.invariant
    ∙ append_assoc c.args.values.now found (cond (test id) (id ∷ []) [])
    ∙ ap (λ (l : List TypeId). c.args.values.now ++ l)
    (sym (filter_of_map_range_with_len_more test (id_of c.args.module) 1 before (before + 1) (omega arith)))

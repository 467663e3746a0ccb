use Rattle.std.proofs.Common.{◌≡◌, ◌∙◌, ◌+◌, ◌++◌, ◌∷◌, [], ℕ, List, map, append_assoc, ap, sym, arith}
use Rattle.std.proofs.lemmas.List.FromFn.{map-range_with_len_more}
use Rattle.std.specs.List.{range_with_len}
use Rattle.ty_terms.specs.declared.names.TypeId.{TypeId}
use Rattle.ty_names.specs.References.{id_of}
use Rattle.ty_world.proofs.numbering.push_ids.Goals as goal

one_more : (old ids new : List TypeId) (number before : ℕ)
    → ids ≡ old ++ map (id_of number) (range_with_len 1 before) → new ≡ ids ++ id_of number (before + 1) ∷ []
    → new ≡ old ++ map (id_of number) (range_with_len 1 (before + 1))
one_more old ids new number before e f =
    let next : 1 + before ≡ before + 1 = omega arith in
    f
    ∙ ap (λ xs. xs ++ id_of number (before + 1) ∷ []) e
    ∙ append_assoc old (map (id_of number) (range_with_len 1 before)) (id_of number (before + 1) ∷ [])
    ∙ ap (λ xs. old ++ xs) (sym (map-range_with_len_more (id_of number) 1 before (before + 1) next))

pub loop-before-preserved : goal.loop-before-preserved
loop-before-preserved c =
    one_more c.args.ids.now.items c.loop-before.ids.items c.push.new.self.items c.args.module c.loop-before.before
    c.loop-before.invariant c.in_ok-push.ensures.items

-- The definitions of modules, one after another.
use Rattle.std.proofs.Common.{◌≡◌, ◌∙◌, ◌+◌, ◌∷◌, ◌++◌, [], ℕ, zero, suc, Bool, List, ap, arith, append-nil}
use Rattle.std.proofs.Common.{filter, length, length-append}
use Rattle.std.proofs.lemmas.List.Concat.{flat_map-append}
use Rattle.std.proofs.lemmas.List.Elements.{filter-append}
use Rattle.std.proofs.lemmas.List.FromFn.{length-map-range_with_len}
use Rattle.std.specs.List.{flat_map, range_with_len}
use Rattle.ty_terms.specs.declared.names.TypeId.{TypeId}
use Rattle.ty_names.specs.Modules.{World, tables_at}
use Rattle.ty_names.specs.Definitions.{type_count}
use Rattle.ty_names.specs.References.{id_of}
use Rattle.ty_load.specs.Cycles.{ids_of}

range_more : (from count at : ℕ) → from + count ≡ at
    → range_with_len from (count + 1) ≡ range_with_len from count ++ at ∷ []
range_more from zero at is = let same : from ≡ at = omega (arith, is) in ap (λ n. n ∷ []) same
range_more from (suc count) at is =
    let more : suc count + 1 ≡ suc (count + 1) = omega arith in
    ap (range_with_len from) more ∙ ap (λ l. from ∷ l) (range_more (from + 1) count at (omega (arith, is)))

-- the definitions of the first modules
abbrev pub first_ids : World → ℕ → List TypeId
first_ids world count = flat_map (ids_of world) (range_with_len 0 count)

pub one_module_more : (world : World) (count : ℕ)
    → first_ids world (count + 1) ≡ first_ids world count ++ ids_of world count
one_module_more world count =
    ap (flat_map (ids_of world)) (range_more 0 count count (omega arith))
    ∙ flat_map-append (ids_of world) (range_with_len 0 count) (count ∷ [])
    ∙ ap (λ l. first_ids world count ++ l) (append-nil (ids_of world count))

pub counted_more : (world : World) (count : ℕ)
    → length (first_ids world (count + 1)) ≡ length (first_ids world count) + type_count (tables_at world count)
counted_more world count =
    ap length (one_module_more world count)
    ∙ length-append (first_ids world count) (ids_of world count)
    ∙ ap (λ n. length (first_ids world count) + n)
    (length-map-range_with_len (id_of count) 1 (type_count (tables_at world count)))

pub filtered_more : (test : TypeId → Bool) (world : World) (count : ℕ)
    → filter test (first_ids world (count + 1))
    ≡ filter test (first_ids world count) ++ filter test (ids_of world count)
filtered_more test world count =
    ap (filter test) (one_module_more world count) ∙ filter-append test (first_ids world count) (ids_of world count)

-- A definition is among the value types of a world exactly where it is one.
use Rattle.std.proofs.Common.{◌≡◌, ◌∙◌, ◌+◌, ◌-◌, ◌<◌, ◌≤◌, ◌∷◌, ◌&&◌, ◌||◌, [], ℕ, zero, suc, Bool, true, false, cond}
use Rattle.std.proofs.Common.{List, Option, None, refl, ap, sym, arith, filter, get_or, length, nat_eq}
use Rattle.std.proofs.Common.{nat_lt}
use Rattle.std.proofs.Common.{eq-eqb, eqb-true, ltb-true, ltb-false, true≢false, take, not, codes}
use Rattle.std.proofs.Common.{option_and_then}
use Rattle.std.proofs.lemmas.List.Folds.{list_any-append, list_any_at, list_any_more}
use Rattle.std.proofs.lemmas.List.FromFn.{get_or-map-range_with_len, get_or-range_with_len, length-map-range_with_len}
use Rattle.std.proofs.lemmas.List.FromFn.{length-range_with_len}
use Rattle.std.proofs.lemmas.Option.{slice_get_past}
use Rattle.std.specs.List.{flat_map, list_any, range_with_len}
use Rattle.md_tables.specs.declared.module.TableRow.{TableRow}
use Rattle.ty_terms.specs.declared.names.TypeId.{TypeId}
use Rattle.ty_names.specs.Definitions.{type_count}
use Rattle.ty_names.specs.Modules.{World, cell_of, coded_of, row_at, rows, tables_at, tables_of}
use Rattle.ty_names.specs.References.{id_of}
use Rattle.ty_load.specs.Bases.{is_id, is_interface_id, is_value_base, is_value_type, parameters, same_id}
use Rattle.ty_load.specs.Cycles.{all_ids, ids_of}
use Rattle.ty_load.specs.Primitives.{definition_of, system_type}
use Rattle.ty_load.specs.Types.{type_at}
use Rattle.ty_walks.specs.Known.{TellIds, key_of, same_key}

-- ---- keys

or_swapped : (t b : Bool) → cond t true b ≡ (b || t)
or_swapped true true = refl
or_swapped true false = refl
or_swapped false true = refl
or_swapped false false = refl

pub tells_more : (ids : List TypeId) (at : ℕ) (none : TypeId) (old new : List (ℕ × ℕ)) → at < length ids
    → ((key : ℕ × ℕ) → list_any (same_key key) new
    ≡ cond (same_key (key_of (get_or ids at none)) key) true (list_any (same_key key) old))
    → TellIds (take at ids) old → TellIds (take (at + 1) ids) new
tells_more ids at none old new within one so_far =
    λ key. one key
    ∙ ap (cond (same_key (key_of (get_or ids at none)) key) true) (so_far key)
    ∙ or_swapped (same_key (key_of (get_or ids at none)) key)
    (list_any (λ id. same_key (key_of id) key) (take at ids))
    ∙ sym (list_any_more (λ id. same_key (key_of id) key) ids at none within)

-- ---- what isn't there is no value type

not_there : (world : World) (id : TypeId) → row_at (tables_at world id.module) 0x02 id.row ≡ None
    → is_value_type world id ≡ false
not_there world id h =
    ap (λ (row : Option TableRow). is_value_base world (option_and_then (definition_of world)
    (type_at world id.module (parameters world id) 0 (coded_of (cell_of row 3))))
    && not (is_id id (system_type world (codes "Enum"))) && not (is_interface_id world id)) h

record IsThere (world : World) (id : TypeId) : Type 0 where
  pub low : 1 ≤ id.row
  pub high : id.row ≤ type_count (tables_at world id.module)

there : (world : World) (id : TypeId) → is_value_type world id ≡ true → IsThere world id
there world id h = by id.row refl
  where
    among : (before : ℕ) (b : Bool) → nat_lt before (length (rows (tables_at world id.module) 0x02)) ≡ b
        → id.row ≡ suc before → IsThere world id
    among before true lt e =
        let within : before < length (rows (tables_at world id.module) 0x02) =
        ltb-true before (length (rows (tables_at world id.module) 0x02)) lt in
        record { low = omega (arith, e); high = omega (arith, e, within) }
    among before false lt e =
        let past : length (rows (tables_at world id.module) 0x02) ≤ before =
        ltb-false before (length (rows (tables_at world id.module) 0x02)) lt in
        absurd (true≢false (sym h ∙ not_there world id (ap (row_at (tables_at world id.module) 0x02) e
        ∙ slice_get_past (rows (tables_at world id.module) 0x02) before past)))

    by : (row : ℕ) → id.row ≡ row → IsThere world id
    by zero e = absurd (true≢false (sym h ∙ not_there world id (ap (row_at (tables_at world id.module) 0x02) e)))
    by (suc before) e = among before (nat_lt before (length (rows (tables_at world id.module) 0x02))) refl e

inside : (world : World) (id : TypeId) → IsThere world id → id.module < length world
inside world id is = by (nat_lt id.module (length world)) refl
  where
    by : (b : Bool) → nat_lt id.module (length world) ≡ b → id.module < length world
    by true h = ltb-true id.module (length world) h
    by false h =
        let none : type_count (tables_at world id.module) ≡ 0 =
        ap (λ found. type_count (tables_of found))
        (slice_get_past world id.module (ltb-false id.module (length world) h)) in
        absurd (omega (arith, none, is.low, is.high))

-- ---- what is there is among all

and_true : (a b : Bool) → a ≡ true → b ≡ true → (a && b) ≡ true
and_true true b h k = k
and_true false b h k = absurd (true≢false (sym h))

any_flat : {A B : Type 0} (test : B → Bool) (f : A → List B) (xs : List A)
    → list_any test (flat_map f xs) ≡ list_any (λ x. list_any test (f x)) xs
any_flat test f [] = refl
any_flat test f (x ∷ xs) =
    list_any-append test (f x) (flat_map f xs) ∙ ap (λ b. list_any test (f x) || b) (any_flat test f xs)

module _ (world : World) (id : TypeId) (is : IsThere world id) where
  abbrev is_this : TypeId → Bool
  is_this x = same_id x id

  in_module : list_any is_this (ids_of world id.module) ≡ true
  in_module =
      let count : ℕ = type_count (tables_at world id.module) in
      let place : id.row - 1 < length (ids_of world id.module) =
      omega (arith, length-map-range_with_len (id_of id.module) 1 count, is.low, is.high) in
      let within : id.row - 1 < count = omega (arith, is.low, is.high) in
      let step : 1 + (id.row - 1) ≡ id.row = omega (arith, is.low) in
      list_any_at is_this (ids_of world id.module) (id.row - 1) id place
      (ap is_this (get_or-map-range_with_len (id_of id.module) 1 count (id.row - 1) id.row id within step)
      ∙ and_true (nat_eq id.module id.module) (nat_eq id.row id.row) (eq-eqb id.module id.module refl)
      (eq-eqb id.row id.row refl))

  among_all : list_any is_this (all_ids world) ≡ true
  among_all =
      let modules : List ℕ = range_with_len 0 (length world) in
      let within : id.module < length world = inside world id is in
      let place : id.module < length modules = omega (arith, length-range_with_len 0 (length world), within) in
      let here : get_or modules id.module 0 ≡ id.module =
      omega (arith, get_or-range_with_len 0 (length world) id.module 0 within) in
      any_flat is_this (ids_of world) modules
      ∙ list_any_at (λ number. list_any is_this (ids_of world number)) modules id.module 0 place
      (ap (λ number. list_any is_this (ids_of world number)) here ∙ in_module)

-- ---- both

any_filter : {A : Type 0} (test keep : A → Bool) (xs : List A)
    → list_any test (filter keep xs) ≡ list_any (λ x. keep x && test x) xs
any_filter test keep [] = refl
any_filter {A = A} test keep (x ∷ xs) = by (keep x) (any_filter test keep xs)
  where
    by : (b : Bool) → list_any test (filter keep xs) ≡ list_any (λ y. keep y && test y) xs
        → list_any test (cond b (x ∷ filter keep xs) (filter keep xs))
        ≡ ((b && test x) || list_any (λ y. keep y && test y) xs)
    by true behind = ap (λ b. test x || b) behind
    by false behind = behind

any_alike : {A : Type 0} (test keep : A → Bool) (kept : Bool) (xs : List A)
    → ((x : A) → (keep x && test x) ≡ (kept && test x))
    → list_any (λ x. keep x && test x) xs ≡ (kept && list_any test xs)
any_alike test keep true [] same = refl
any_alike test keep false [] same = refl
any_alike test keep kept (x ∷ xs) same =
    (λ i. same x i || any_alike test keep kept xs same i) ∙ joined kept (test x) (list_any test xs)
  where
    joined : (k a b : Bool) → ((k && a) || (k && b)) ≡ (k && (a || b))
    joined true a b = refl
    joined false a b = refl

both : (a b : Bool) → (a && b) ≡ true → (a ≡ true) × (b ≡ true)
both true b h = (refl, h)
both false b h = absurd (true≢false (sym h))

alike : (keep : TypeId → Bool) (id x : TypeId) → (keep x && same_id x id) ≡ (keep id && same_id x id)
alike keep id x = by (same_id x id) refl
  where
    dropped : (a b : Bool) → (a && false) ≡ (b && false)
    dropped true true = refl
    dropped true false = refl
    dropped false true = refl
    dropped false false = refl

    by : (b : Bool) → same_id x id ≡ b → (keep x && b) ≡ (keep id && b)
    by true h =
        let p : (nat_eq x.module id.module ≡ true) × (nat_eq x.row id.row ≡ true) =
        both (nat_eq x.module id.module) (nat_eq x.row id.row) h in
        let e : x.module ≡ id.module = eqb-true x.module id.module p.0 in
        let g : x.row ≡ id.row = eqb-true x.row id.row p.1 in
        λ i. keep (record { «module» = e i; row = g i }) && true
    by false h = dropped (keep x) (keep id)

pub values_tell : (world : World) (id : TypeId)
    → list_any (λ value. same_id value id) (filter (is_value_type world) (all_ids world)) ≡ is_value_type world id
values_tell world id =
    any_filter (λ value. same_id value id) (is_value_type world) (all_ids world)
    ∙ any_alike (λ value. same_id value id) (is_value_type world) (is_value_type world id) (all_ids world)
    (alike (is_value_type world) id)
    ∙ by (is_value_type world id) refl
  where
    by : (b : Bool) → is_value_type world id ≡ b → (b && list_any (λ value. same_id value id) (all_ids world)) ≡ b
    by true h = among_all world id (there world id h)
    by false h = refl

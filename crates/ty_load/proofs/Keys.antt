-- Entries that tell rows by keys: one more, all from a row on, and a look-up.
use Rattle.std.proofs.Common.{◌≡◌, ◌∙◌, ◌+◌, ◌-◌, ◌<◌, ◌≤◌, ◌∷◌, ◌&&◌, [], ℕ, suc, Bool, true, false, cond, List}
use Rattle.std.proofs.Common.{Option, Some, None, Vec, Global, refl, ap, sym, arith, find, nat_eq}
use Rattle.std.proofs.Common.{eqb-true, eq-eqb, true≢false}
use Rattle.std.proofs.lemmas.Slice.Eq.{bytes_eq-Decides}
use Rattle.std.specs.List.{range_with_len}
use Rattle.std.specs.Map.{lookup}
use Rattle.std.specs.Str.{bytes_eq}
use Rattle.indexmap.specs.IndexMap.{insert_entry}
use Rattle.md_tables.specs.declared.module.Table.{Table}
use Rattle.ty_names.specs.Modules.{World, core_of, tables_at}
use Rattle.ty_names.specs.Definitions.{enclosing, type_name, type_namespace, type_count, assembly_name}
use Rattle.ty_names.specs.References.{is_named, is_type}
use Rattle.ty_load.specs.TypeKeys.{TypeKey, is_key, row_in, TellTypes, TellType, module_in, TellAssemblies, TellName}
use Rattle.ty_load.specs.TypeKeys.{TellAssembly}

-- ---- a look-up after an insertion

pub both : (a b : Bool) → a && b ≡ true → (a ≡ true) × (b ≡ true)
both true b h = (refl, h)
both false b h = absurd (true≢false (sym h))

module _ {K : Type 0} (eq : K → K → Bool) (test : K → Bool)
    (alike : (a b : K) → eq a b ≡ true → test a ≡ test b)
    (one : (a b : K) → test a ≡ true → test b ≡ true → eq a b ≡ true) where
  overwritten : (t u : Bool) (v w : ℕ) (rest : Option ℕ) → u ≡ t
      → cond t (Some v) rest ≡ cond u (Some v) (cond t (Some w) rest)
  overwritten true u v w rest h = ap (λ (b : Bool). cond b (Some v) (Some w)) (sym h)
  overwritten false u v w rest h = ap (λ (b : Bool). cond b (Some v) rest) (sym h)

  exchanged : (t u : Bool) (v w : ℕ) (rest : Option ℕ) → (t ≡ true → u ≡ true → ⊥)
      → cond t (Some w) (cond u (Some v) rest) ≡ cond u (Some v) (cond t (Some w) rest)
  exchanged true true v w rest never = absurd (never refl refl)
  exchanged true false v w rest never = refl
  exchanged false u v w rest never = refl

  pub lookup_inserted : (es : List (K × ℕ)) (k : K) (v : ℕ)
      → lookup test (insert_entry eq es k v) ≡ cond (test k) (Some v) (lookup test es)
  lookup_inserted [] k v = refl
  lookup_inserted (e ∷ es) k v = by (eq k e.0) refl (lookup_inserted es k v)
    where
      by : (b : Bool) → eq k e.0 ≡ b
          → lookup test (insert_entry eq es k v) ≡ cond (test k) (Some v) (lookup test es)
          → lookup test (cond b ((e.0, v) ∷ es) (e ∷ insert_entry eq es k v))
          ≡ cond (test k) (Some v) (cond (test e.0) (Some e.1) (lookup test es))
      by true h behind = overwritten (test e.0) (test k) v e.1 (lookup test es) (alike k e.0 h)
      by false h behind =
          ap (cond (test e.0) (Some e.1)) behind
          ∙ exchanged (test e.0) (test k) v e.1 (lookup test es)
          (λ here there. true≢false (sym (one k e.0 there here) ∙ h))

-- ---- keys of types

and_true : (a b : Bool) → a ≡ true → b ≡ true → a && b ≡ true
and_true true b h k = k
and_true false b h k = absurd (true≢false (sym h))

same_bytes : (xs ys : List ℕ) → bytes_eq xs ys ≡ true → xs ≡ ys
same_bytes xs ys = (bytes_eq-Decides xs ys).0

bytes_are : (xs ys : List ℕ) → xs ≡ ys → bytes_eq xs ys ≡ true
bytes_are xs ys = (bytes_eq-Decides xs ys).1

record IsOfKey (outer : ℕ) (namespace name : List ℕ) (key : TypeKey) : Type 0 where
  pub around : outer ≡ key.0
  pub space : namespace ≡ key.1.items
  pub named : name ≡ key.2.items

of_key : (outer : ℕ) (namespace name : List ℕ) (key : TypeKey) → is_key outer namespace name key ≡ true
    → IsOfKey outer namespace name key
of_key outer namespace name key h =
    let p : (nat_eq outer key.0 && bytes_eq namespace key.1.items ≡ true) × (bytes_eq name key.2.items ≡ true) =
    both (nat_eq outer key.0 && bytes_eq namespace key.1.items) (bytes_eq name key.2.items) h in
    let q : (nat_eq outer key.0 ≡ true) × (bytes_eq namespace key.1.items ≡ true) =
    both (nat_eq outer key.0) (bytes_eq namespace key.1.items) p.0 in
    record {
      around = eqb-true outer key.0 q.0;
      space = same_bytes namespace key.1.items q.1;
      named = same_bytes name key.2.items p.1;
    }

key_of : (outer : ℕ) (namespace name : List ℕ) (key : TypeKey) → IsOfKey outer namespace name key
    → is_key outer namespace name key ≡ true
key_of outer namespace name key k =
    and_true (nat_eq outer key.0 && bytes_eq namespace key.1.items) (bytes_eq name key.2.items)
    (and_true (nat_eq outer key.0) (bytes_eq namespace key.1.items) (eq-eqb outer key.0 k.around)
    (bytes_are namespace key.1.items k.space))
    (bytes_are name key.2.items k.named)

-- the order in which the map compares
abbrev pub same_key : TypeKey → TypeKey → Bool
same_key a b = is_key a.0 a.1.items a.2.items b

alike_keys : (outer : ℕ) (namespace name : List ℕ) (a b : TypeKey) → same_key a b ≡ true
    → is_key outer namespace name a ≡ is_key outer namespace name b
alike_keys outer namespace name a b h =
    let k : IsOfKey a.0 a.1.items a.2.items b = of_key a.0 a.1.items a.2.items b h in
    λ i. nat_eq outer (k.around i) && bytes_eq namespace (k.space i) && bytes_eq name (k.named i)

one_key : (outer : ℕ) (namespace name : List ℕ) (a b : TypeKey) → is_key outer namespace name a ≡ true
    → is_key outer namespace name b ≡ true → same_key a b ≡ true
one_key outer namespace name a b h g =
    let k : IsOfKey outer namespace name a = of_key outer namespace name a h in
    let l : IsOfKey outer namespace name b = of_key outer namespace name b g in
    key_of a.0 a.1.items a.2.items b (record {
      around = sym k.around ∙ l.around;
      space = sym k.space ∙ l.space;
      named = sym k.named ∙ l.named;
    })

pub noted : (tables : List Table) (row : ℕ) (key : TypeKey) (old new : List (TypeKey × ℕ))
    → key.0 ≡ enclosing tables row → key.1.items ≡ type_namespace tables row → key.2.items ≡ type_name tables row
    → new ≡ insert_entry same_key old key row → TellType tables row old new
noted tables row key old new around space named h =
    λ outer namespace name. ap (lookup (is_key outer namespace name)) h
    ∙ lookup_inserted same_key (is_key outer namespace name) (alike_keys outer namespace name)
    (one_key outer namespace name) old key row
    ∙ (λ i. cond (nat_eq outer (around i) && bytes_eq namespace (space i) && bytes_eq name (named i)) (Some row)
    (row_in old outer namespace name))

pub looked_up : (key : TypeKey) (outer : ℕ) (namespace name : List ℕ) (entries : List (TypeKey × ℕ)) → key.0 ≡ outer
    → key.1.items ≡ namespace → key.2.items ≡ name
    → lookup (same_key key) entries ≡ row_in entries outer namespace name
looked_up key outer namespace name entries around space named =
    λ i. lookup (is_key (around i) (space i) (named i)) entries

-- ---- the first number from one on

abbrev pub first_from : (ℕ → Bool) → ℕ → ℕ → Option ℕ
first_from test from to = find test (range_with_len from (to - from))

first_here : (test : ℕ → Bool) (from to : ℕ) → from < to
    → first_from test from to ≡ cond (test from) (Some from) (first_from test (from + 1) to)
first_here test from to h =
    let more : to - from ≡ suc (to - (from + 1)) = omega arith in
    ap (λ n. find test (range_with_len from n)) more

first_none : (test : ℕ → Bool) (from to : ℕ) → to ≤ from → first_from test from to ≡ None
first_none test from to h =
    let none : to - from ≡ 0 = omega arith in
    ap (λ n. find test (range_with_len from n)) none

-- ---- all rows from one on

-- the types behind so many rows are told
abbrev pub TellTypesBehind : List Table → ℕ → List (TypeKey × ℕ) → Type 0
TellTypesBehind tables left entries =
    (outer : ℕ) (namespace name : List ℕ) → row_in entries outer namespace name
    ≡ first_from (is_type tables outer namespace name) (left + 1) (type_count tables + 1)

pub tells_no_types : (tables : List Table) (left : ℕ) (entries : List (TypeKey × ℕ)) → left ≡ type_count tables
    → entries ≡ [] → TellTypesBehind tables left entries
tells_no_types tables left entries all none =
    λ outer namespace name. ap (lookup (is_key outer namespace name)) none
    ∙ sym (first_none (is_type tables outer namespace name) (left + 1) (type_count tables + 1) (omega arith))

pub tells_one_more : (tables : List Table) (left : ℕ) (old new : List (TypeKey × ℕ)) → 0 < left
    → left ≤ type_count tables → TellType tables left old new → TellTypesBehind tables left old
    → TellTypesBehind tables (left - 1) new
tells_one_more tables left old new some within one so_far =
    λ outer namespace name.
    let test : ℕ → Bool = is_type tables outer namespace name in
    let here : left - 1 + 1 ≡ left = omega arith in
    one outer namespace name
    ∙ ap (cond (test left) (Some left)) (so_far outer namespace name)
    ∙ sym (first_here test left (type_count tables + 1) (omega arith))
    ∙ sym (ap (λ n. first_from test n (type_count tables + 1)) here)

pub tells_all_types : (tables : List Table) (left : ℕ) (entries : List (TypeKey × ℕ)) → left ≤ 0
    → TellTypesBehind tables left entries → TellTypes tables entries
tells_all_types tables left entries none so_far =
    λ outer namespace name.
    let test : ℕ → Bool = is_type tables outer namespace name in
    let first : left + 1 ≡ 1 = omega arith in
    let size : type_count tables + 1 - 1 ≡ type_count tables = omega arith in
    so_far outer namespace name
    ∙ ap (λ n. first_from test n (type_count tables + 1)) first
    ∙ ap (λ n. find test (range_with_len 1 n)) size

-- ---- assemblies

pub named : (name : List ℕ) (number : ℕ) (key : Vec ℕ Global) (old new : List (Vec ℕ Global × ℕ)) → key.items ≡ name
    → new ≡ insert_entry (λ (a b : Vec ℕ Global). bytes_eq a.items b.items) old key number
    → TellName name number old new
named name number key old new is h =
    λ other. ap (lookup (λ (k : Vec ℕ Global). bytes_eq other k.items)) h
    ∙ lookup_inserted (λ (a b : Vec ℕ Global). bytes_eq a.items b.items) (λ (k : Vec ℕ Global). bytes_eq other k.items)
    (λ (a b : Vec ℕ Global) (e : bytes_eq a.items b.items ≡ true).
    ap (bytes_eq other) (same_bytes a.items b.items e))
    (λ (a b : Vec ℕ Global) (e : bytes_eq other a.items ≡ true) (f : bytes_eq other b.items ≡ true).
    bytes_are a.items b.items (sym (same_bytes other a.items e) ∙ same_bytes other b.items f))
    old key number
    ∙ ap (λ n. cond (bytes_eq other n) (Some number) (module_in old other)) is

pub some_assembly : (tables : List Table) (number : ℕ) (name : List ℕ) (old new : List (Vec ℕ Global × ℕ))
    → assembly_name tables ≡ Some name → TellName name number old new → TellAssembly tables number old new
some_assembly tables number name old new h told =
    λ other. told other
    ∙ ap (λ (a : Option (List ℕ)). cond (is_named other a) (Some number) (module_in old other)) (sym h)

pub no_assembly : (tables : List Table) (number : ℕ) (old new : List (Vec ℕ Global × ℕ)) → assembly_name tables ≡ None
    → new ≡ old → TellAssembly tables number old new
no_assembly tables number old new h same =
    λ other. ap (λ (e : List (Vec ℕ Global × ℕ)). module_in e other) same
    ∙ ap (λ (a : Option (List ℕ)). cond (is_named other a) (Some number) (module_in old other)) (sym h)

abbrev pub is_assembly : World → List ℕ → ℕ → Bool
is_assembly world name number = is_named name (assembly_name (tables_at world number))

abbrev pub TellAssembliesFrom : World → ℕ → List (Vec ℕ Global × ℕ) → Type 0
TellAssembliesFrom world left entries =
    (name : List ℕ) → module_in entries name ≡ first_from (is_assembly world name) left (core_of world)

pub tells_no_assemblies : (world : World) (left : ℕ) (entries : List (Vec ℕ Global × ℕ)) → core_of world ≤ left
    → entries ≡ [] → TellAssembliesFrom world left entries
tells_no_assemblies world left entries all none =
    λ name. ap (lookup (λ (k : Vec ℕ Global). bytes_eq name k.items)) none
    ∙ sym (first_none (is_assembly world name) left (core_of world) all)

pub tells_one_assembly : (world : World) (left less : ℕ) (old new : List (Vec ℕ Global × ℕ)) → less + 1 ≡ left
    → left ≤ core_of world → TellAssembly (tables_at world less) less old new → TellAssembliesFrom world left old
    → TellAssembliesFrom world less new
tells_one_assembly world left less old new here within one so_far =
    λ name.
    one name
    ∙ ap (cond (is_assembly world name less) (Some less))
    (so_far name ∙ ap (λ n. first_from (is_assembly world name) n (core_of world)) (sym here))
    ∙ sym (first_here (is_assembly world name) less (core_of world) (omega arith))

pub tells_all_assemblies : (world : World) (left : ℕ) (entries : List (Vec ℕ Global × ℕ)) → left ≤ 0
    → TellAssembliesFrom world left entries → TellAssemblies world entries
tells_all_assemblies world left entries none so_far =
    λ name.
    let first : left ≡ 0 = omega arith in
    let size : core_of world - 0 ≡ core_of world = omega arith in
    so_far name
    ∙ ap (λ n. first_from (is_assembly world name) n (core_of world)) first
    ∙ ap (λ n. find (is_assembly world name) (range_with_len 0 n)) size

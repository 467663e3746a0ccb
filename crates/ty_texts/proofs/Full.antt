-- Full names in a table: one more, those of a module, and all.
use Rattle.std.proofs.Common.{◌≡◌, ◌∙◌, ◌+◌, ◌-◌, ◌<◌, ◌≤◌, ◌++◌, ◌∷◌, ◌&&◌, [], ℕ, suc, Bool, true, false, cond}
use Rattle.std.proofs.Common.{List, Vec}
use Rattle.std.proofs.Common.{Global, Option, Some, refl, ap, sym, arith, find, map, length, nat_eq, true≢false}
use Rattle.std.proofs.lemmas.Bool.Decides.{Decides-like, same_from_decides}
use Rattle.std.proofs.lemmas.Slice.Eq.{bytes_eq-Decides}
use Rattle.std.specs.List.{range_with_len}
use Rattle.std.specs.Map.{lookup}
use Rattle.std.specs.Str.{bytes_eq}
use Rattle.indexmap.specs.IndexMap.{insert_entry}
use Rattle.ty_terms.specs.declared.names.TypeId.{TypeId}
use Rattle.ty_names.specs.Modules.{World, tables_at}
use Rattle.ty_names.specs.Definitions.{type_count}
use Rattle.ty_names.specs.References.{id_of}
use Rattle.ty_load.specs.Bases.{parameters}
use Rattle.ty_load.specs.Cycles.{ids_of}
use Rattle.ty_load.specs.Search.{full_name}
use Rattle.ty_load.specs.Valid.{or_else}
use Rattle.ty_texts.specs.FullNames.{NameEntry, TellFullNames, TellOneName, has_full_name, type_in_entries}
use Rattle.ty_texts.proofs.Repeats.{all_from, ids_from, next_module, no_module}

-- ---- a look-up after an insertion

module _ {K V : Type 0} (eq : K → K → Bool) (test : K → Bool)
    (alike : (a b : K) → eq a b ≡ true → test a ≡ test b)
    (one : (a b : K) → test a ≡ true → test b ≡ true → eq a b ≡ true) where
  overwritten : (t u : Bool) (v w : V) (rest : Option V) → u ≡ t
      → cond t (Some v) rest ≡ cond u (Some v) (cond t (Some w) rest)
  overwritten true u v w rest h = ap (λ (b : Bool). cond b (Some v) (Some w)) (sym h)
  overwritten false u v w rest h = ap (λ (b : Bool). cond b (Some v) rest) (sym h)

  exchanged : (t u : Bool) (v w : V) (rest : Option V) → (t ≡ true → u ≡ true → ⊥)
      → cond t (Some w) (cond u (Some v) rest) ≡ cond u (Some v) (cond t (Some w) rest)
  exchanged true true v w rest never = absurd (never refl refl)
  exchanged true false v w rest never = refl
  exchanged false u v w rest never = refl

  lookup_inserted : (es : List (K × V)) (k : K) (v : V)
      → lookup test (insert_entry eq es k v) ≡ cond (test k) (Some v) (lookup test es)
  lookup_inserted [] k v = refl
  lookup_inserted (e ∷ es) k v = by (eq k e.0) refl (lookup_inserted es k v)
    where
      by : (b : Bool) → eq k e.0 ≡ b
          → lookup test (insert_entry eq es k v) ≡ cond (test k) (Some v) (lookup test es)
          → lookup test (cond b ((e.0, v) ∷ es) (e ∷ insert_entry eq es k v))
          ≡ cond (test k) (Some v) (cond (test e.0) (Some e.1) (lookup test es))
      by true h behind = overwritten (test e.0) (test k) v e.1 (lookup test es) (alike k e.0 h)
      by false h behind =
          ap (cond (test e.0) (Some e.1)) behind
          ∙ exchanged (test e.0) (test k) v e.1 (lookup test es)
          (λ here there. true≢false (sym (one k e.0 there here) ∙ h))

same_bytes : (xs ys : List ℕ) → bytes_eq xs ys ≡ true → xs ≡ ys
same_bytes xs ys = (bytes_eq-Decides xs ys).0

bytes_are : (xs ys : List ℕ) → xs ≡ ys → bytes_eq xs ys ≡ true
bytes_are xs ys = (bytes_eq-Decides xs ys).1

turned : (xs ys : List ℕ) → bytes_eq xs ys ≡ bytes_eq ys xs
turned xs ys =
    same_from_decides (bytes_eq xs ys) (bytes_eq ys xs) (bytes_eq-Decides xs ys)
    (Decides-like (bytes_eq ys xs) sym sym (bytes_eq-Decides ys xs))

-- ---- one type more

pub name_noted : (world : World) (id : TypeId) (key : Vec ℕ Global) (old new : List NameEntry)
    → nat_eq (parameters world id) 0 ≡ true → key.items ≡ full_name (tables_at world id.module) id.row
    → new ≡ insert_entry (λ (a b : Vec ℕ Global). bytes_eq a.items b.items) old key id → TellOneName world id old new
name_noted world id key old new none is h =
    λ name. ap (λ (e : List NameEntry). type_in_entries e name) h
    ∙ lookup_inserted (λ (a b : Vec ℕ Global). bytes_eq a.items b.items) (λ (k : Vec ℕ Global). bytes_eq name k.items)
    (λ (a b : Vec ℕ Global) (e : bytes_eq a.items b.items ≡ true).
    ap (bytes_eq name) (same_bytes a.items b.items e))
    (λ (a b : Vec ℕ Global) (e : bytes_eq name a.items ≡ true) (f : bytes_eq name b.items ≡ true).
    bytes_are a.items b.items (sym (same_bytes name a.items e) ∙ same_bytes name b.items f))
    old key id
    ∙ ap (λ b. cond b (Some id) (type_in_entries old name))
    (ap (bytes_eq name) is ∙ turned name (full_name (tables_at world id.module) id.row)
    ∙ (λ i. sym none i && bytes_eq (full_name (tables_at world id.module) id.row) name))

pub name_passed : (world : World) (id : TypeId) (old new : List NameEntry)
    → nat_eq (parameters world id) 0 ≡ false → new ≡ old → TellOneName world id old new
name_passed world id old new some same =
    λ name. ap (λ (e : List NameEntry). type_in_entries e name) same
    ∙ (λ i. cond (sym some i && bytes_eq (full_name (tables_at world id.module) id.row) name) (Some id)
    (type_in_entries old name))

-- ---- the types of a module

first_or : (b : Bool) (x : TypeId) (rest behind : Option TypeId)
    → cond b (Some x) (or_else rest behind) ≡ or_else (cond b (Some x) rest) behind
first_or true x rest behind = refl
first_or false x rest behind = refl

module _ (world : World) (number : ℕ) (before : List NameEntry) where
  abbrev ids_above : ℕ → List TypeId
  ids_above left = map (id_of number) (range_with_len (left + 1) (type_count (tables_at world number) - left))

  -- the types behind so many are told
  pub record TellNamesBehind (left : ℕ) (entries : List NameEntry) : Type 0 where
    pub within : left ≤ type_count (tables_at world number)
    pub told : (name : List ℕ)
        → type_in_entries entries name ≡ or_else (find (has_full_name world name) (ids_above left))
        (type_in_entries before name)

  pub tells_none : (left : ℕ) (entries : List NameEntry) → left ≡ type_count (tables_at world number)
      → entries ≡ before → TellNamesBehind left entries
  tells_none left entries all same =
      let none : type_count (tables_at world number) - left ≡ 0 = omega (arith, all) in
      record {
        within = omega (arith, all);
        told =
            λ name. ap (λ (e : List NameEntry). type_in_entries e name) same
            ∙ ap (λ n. or_else (find (has_full_name world name) (map (id_of number) (range_with_len (left + 1) n)))
            (type_in_entries before name)) (sym none);
      }

  pub tells_one_more : (left less : ℕ) (old new : List NameEntry) → 0 < left → less ≡ left - 1
      → TellNamesBehind left old → TellOneName world (id_of number left) old new → TellNamesBehind less new
  tells_one_more left less old new some is behind one =
      let count : ℕ = type_count (tables_at world number) in
      let high : left ≤ count = behind.within in
      let here : less + 1 ≡ left = omega (arith, some, is) in
      let more : count - less ≡ suc (count - left) = omega (arith, some, is, high) in
      record {
        within = omega (arith, is, high);
        told =
            λ name. one name
            ∙ ap (cond (has_full_name world name (id_of number left)) (Some (id_of number left))) (behind.told name)
            ∙ first_or (has_full_name world name (id_of number left)) (id_of number left)
            (find (has_full_name world name) (ids_above left)) (type_in_entries before name)
            ∙ (λ i. or_else (find (has_full_name world name) (map (id_of number)
            (sym here i ∷ range_with_len (sym here i + 1) (count - left)))) (type_in_entries before name))
            ∙ ap (λ n. or_else (find (has_full_name world name) (map (id_of number) (range_with_len (less + 1) n)))
            (type_in_entries before name)) (sym more);
      }

  pub tells_module : (left : ℕ) (entries : List NameEntry) → left ≤ 0 → TellNamesBehind left entries
      → (name : List ℕ) → type_in_entries entries name
      ≡ or_else (find (has_full_name world name) (ids_of world number)) (type_in_entries before name)
  tells_module left entries none behind name =
      let first : left ≡ 0 = omega (arith, none) in
      let same : type_count (tables_at world number) - 0 ≡ type_count (tables_at world number) = omega arith in
      behind.told name
      ∙ ap (λ n. or_else (find (has_full_name world name) (ids_above n)) (type_in_entries before name)) first
      ∙ ap (λ n. or_else (find (has_full_name world name) (map (id_of number) (range_with_len 1 n)))
      (type_in_entries before name)) same

-- ---- all modules

found_in_two : (test : TypeId → Bool) (xs ys : List TypeId)
    → find test (xs ++ ys) ≡ or_else (find test xs) (find test ys)
found_in_two test [] ys = refl
found_in_two test (x ∷ xs) ys =
    ap (cond (test x) (Some x)) (found_in_two test xs ys)
    ∙ first_or (test x) x (find test xs) (find test ys)

abbrev pub TellFrom : World → ℕ → List NameEntry → Type 0
TellFrom world left entries =
    (name : List ℕ) → type_in_entries entries name ≡ find (has_full_name world name) (ids_from world left)

pub tells_nothing : (world : World) (left : ℕ) (entries : List NameEntry) → left ≡ length world → entries ≡ []
    → TellFrom world left entries
tells_nothing world left entries all none =
    λ name. ap (λ (e : List NameEntry). type_in_entries e name) none
    ∙ sym (ap (find (has_full_name world name)) (no_module world left (omega (arith, all))))

pub tells_one_module : (world : World) (left less : ℕ) (old new : List NameEntry) → 0 < left → less ≡ left - 1
    → left ≤ length world → TellFrom world left old
    → ((name : List ℕ) → type_in_entries new name
    ≡ or_else (find (has_full_name world name) (ids_of world less)) (type_in_entries old name))
    → TellFrom world less new
tells_one_module world left less old new some is within behind one =
    λ name.
    let here : less + 1 ≡ left = omega (arith, some, is) in
    one name
    ∙ ap (or_else (find (has_full_name world name) (ids_of world less)))
    (behind name ∙ ap (λ n. find (has_full_name world name) (ids_from world n)) (sym here))
    ∙ sym (found_in_two (has_full_name world name) (ids_of world less) (ids_from world (less + 1)))
    ∙ sym (ap (find (has_full_name world name)) (next_module world less (omega (arith, some, is, within))))

pub tells_all : (world : World) (left : ℕ) (entries : List NameEntry) → left ≤ 0 → TellFrom world left entries
    → TellFullNames world entries
tells_all world left entries none behind =
    λ name.
    let first : left ≡ 0 = omega (arith, none) in
    behind name ∙ ap (λ n. find (has_full_name world name) (ids_from world n)) first
    ∙ ap (find (has_full_name world name)) (all_from world)

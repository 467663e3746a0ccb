-- References one behind another, and tables of types one behind another.
use Rattle.std.proofs.Common.{◌≡◌, ◌∙◌, ◌++◌, ◌∷◌, ◌<◌, ◌≤◌, ◌^◌, ◌⊎◌, [], ℕ, zero, suc, true, false, List}
use Rattle.std.proofs.Common.{length, Option, Some, None, refl, ap, sym, subst, arith, slice_get, inl, inr}
use Rattle.std.proofs.Common.{if◌then◌else◌, nat_lt}
use borrow.Author.Tests.{ltb-true}
use Rattle.std.specs.List.{list_all}
use Rattle.md_tables.specs.declared.module.Table.{Table}
use Rattle.ty_terms.specs.declared.names.TypeId.{TypeId}
use Rattle.ty_names.specs.declared.cells.RowOf.{RowOf}
use Rattle.ty_load.specs.declared.types.TypeTable.{TypeTable}
use Rattle.ty_names.specs.Modules.{World, tables_at, tables_of}
use Rattle.ty_load.specs.Counting.{has_numbers}
use Rattle.ty_load.specs.Named.{AreTypeTables, IsTypeTable, are_numbered, through}
use Rattle.ty_names.specs.References.{in_scope, is_nested_scope, plain_scope, reference_scope, reference_within}
use Rattle.ty_names.specs.References.{scope_of}
use Rattle.ty_load.proofs.Keys.{both}

-- ---- references

pub through-push : (world : World) (tables : List Table) (rows : List ℕ) (row : ℕ) (outer : Option TypeId)
    → through world tables (rows ++ row ∷ []) outer ≡ through world tables rows (in_scope world tables row outer)
through-push world tables [] row outer = refl
through-push world tables (first ∷ rows) row outer =
    ap (in_scope world tables first) (through-push world tables rows row outer)

-- a reference whose scope is another one leads on from where that does
pub steps_out : (world : World) (number row left less : ℕ) (scope : RowOf) → left ≡ suc less
    → scope ≡ reference_scope (tables_at world number) row → is_nested_scope scope ≡ true
    → reference_within left world number row
    ≡ in_scope world (tables_at world number) row (reference_within less world number scope.row)
steps_out world number row left less scope more is nested =
    ap (λ n. reference_within n world number row) more
    ∙ ap (λ (s : RowOf). in_scope world (tables_at world number) row
    (scope_of (reference_within less world number) world number s)) (sym is)
    ∙ ap (λ b. in_scope world (tables_at world number) row
    (if b then reference_within less world number scope.row else plain_scope world number scope)) nested

-- any other leads on from its scope
pub steps_in : (world : World) (number row left less : ℕ) (scope : RowOf) → left ≡ suc less
    → scope ≡ reference_scope (tables_at world number) row → is_nested_scope scope ≡ false
    → reference_within left world number row
    ≡ in_scope world (tables_at world number) row (plain_scope world number scope)
steps_in world number row left less scope more is plain =
    ap (λ n. reference_within n world number row) more
    ∙ ap (λ (s : RowOf). in_scope world (tables_at world number) row
    (scope_of (reference_within less world number) world number s)) (sym is)
    ∙ ap (λ b. in_scope world (tables_at world number) row
    (if b then reference_within less world number scope.row else plain_scope world number scope)) plain

-- one more reference was noted
pub noted_more : (world : World) (number row : ℕ) (whole inner outer : Option TypeId) (rows more : List ℕ)
    → whole ≡ through world (tables_at world number) rows inner
    → inner ≡ in_scope world (tables_at world number) row outer → more ≡ rows ++ row ∷ []
    → whole ≡ through world (tables_at world number) more outer
noted_more world number row whole inner outer rows more so_far step pushed =
    so_far ∙ ap (through world (tables_at world number) rows) step
    ∙ sym (through-push world (tables_at world number) rows row outer)
    ∙ ap (λ (l : List ℕ). through world (tables_at world number) l outer) (sym pushed)

pub none_left : (world : World) (number row left : ℕ) (whole : Option TypeId) (rows : List ℕ) → left ≤ 0
    → whole ≡ through world (tables_at world number) rows (reference_within left world number row)
    → whole ≡ through world (tables_at world number) rows None
none_left world number row left whole rows none so_far =
    let zero_left : left ≡ 0 = omega arith in
    so_far ∙ ap (λ n. through world (tables_at world number) rows (reference_within n world number row)) zero_left

-- the last of those noted leads on
pub taken_off : (world : World) (number row : ℕ) (whole outer next : Option TypeId) (rows rest : List ℕ)
    → whole ≡ through world (tables_at world number) rows outer → rows ≡ rest ++ row ∷ []
    → next ≡ in_scope world (tables_at world number) row outer
    → whole ≡ through world (tables_at world number) rest next
taken_off world number row whole outer next rows rest so_far popped step =
    so_far ∙ ap (λ (l : List ℕ). through world (tables_at world number) l outer) popped
    ∙ through-push world (tables_at world number) rest row outer
    ∙ ap (through world (tables_at world number) rest) (sym step)

pub all_taken : (world : World) (number : ℕ) (whole outer : Option TypeId) (rows : List ℕ)
    → whole ≡ through world (tables_at world number) rows outer → rows ≡ [] → outer ≡ whole
all_taken world number whole outer rows so_far none =
    sym (so_far ∙ ap (λ (l : List ℕ). through world (tables_at world number) l outer) none)

-- ---- tables of types

-- what stands in a list with one item more
pushed_get : {A : Type 0} (xs : List A) (x y : A) (n : ℕ) → slice_get (xs ++ x ∷ []) n ≡ Some y
    → (slice_get xs n ≡ Some y) ⊎ ((n ≡ length xs) × (x ≡ y))
pushed_get [] x y zero h = inr (refl, cc)
pushed_get [] x y (suc n) h = absurd (cc)
pushed_get (first ∷ xs) x y zero h = inl h
pushed_get (first ∷ xs) x y (suc n) h =
    elim (pushed_get xs x y n h) [ inl g ↦ inl g | inr e ↦ inr (ap suc e.0, e.1) ]

pub one_table_more : (world : World) (types more : List TypeTable) (table : TypeTable) → AreTypeTables world types
    → IsTypeTable (tables_at world (length types)) table → more ≡ types ++ table ∷ [] → AreTypeTables world more
one_table_more world types more table so_far is pushed =
    subst (AreTypeTables world) (sym pushed) (λ number found h.
    elim (pushed_get types table found number h) as (λ _. IsTypeTable (tables_at world number) found) [
      | inl g ↦ so_far number found g
      | inr e ↦ subst (λ n. IsTypeTable (tables_at world n) found) (sym e.0)
          (subst (IsTypeTable (tables_at world (length types))) e.1 is)
    ])

none_there : {A B : Type 0} (xs : List A) (ys : List B) (n : ℕ) → length xs ≡ length ys → slice_get xs n ≡ None
    → slice_get ys n ≡ None
none_there xs [] n same none = refl
none_there [] (y ∷ ys) n same none = absurd (omega arith)
none_there (x ∷ xs) (y ∷ ys) zero same none = absurd (cc)
none_there (x ∷ xs) (y ∷ ys) (suc n) same none =
    let fewer : length xs ≡ length ys = omega (arith, same) in none_there xs ys n fewer none

-- a module that has no table of types isn't there
pub no_tables : (world : World) (types : List TypeTable) (number : ℕ) → length types ≡ length world
    → slice_get types number ≡ None → tables_at world number ≡ []
no_tables world types number same none = ap tables_of (none_there types world number same none)

-- the same of the modules that are seen
pub not_there : (world now : World) (types : List TypeTable) (number : ℕ) → length types ≡ length world
    → slice_get types number ≡ None → world ≡ now → tables_at now number ≡ []
not_there world now types number same none is =
    sym (ap (λ (w : World). tables_at w number) is) ∙ no_tables world types number same none

pub table_there : (world now : World) (types : List TypeTable) (number : ℕ) (table : TypeTable) (tables : List Table)
    → AreTypeTables world types → slice_get types number ≡ Some table → world ≡ now → tables ≡ tables_at now number
    → IsTypeTable tables table
table_there world now types number table tables told here is same =
    subst (λ (t : List Table). IsTypeTable t table) (ap (λ (w : World). tables_at w number) is ∙ sym same)
    (told number table here)

-- ---- numbers of 32 bits

all_numbered : (world : World) → list_all (λ given. has_numbers given.tables) world ≡ true → (number : ℕ)
    → has_numbers (tables_at world number) ≡ true
all_numbered [] h number = refl
all_numbered (given ∷ world) h zero =
    (both (has_numbers given.tables) (list_all (λ given. has_numbers given.tables) world) h).0
all_numbered (given ∷ world) h (suc number) =
    all_numbered world (both (has_numbers given.tables) (list_all (λ given. has_numbers given.tables) world) h).1 number

pub record IsNumbered (world : World) : Type 0 where
  pub modules : length world < 2 ^ 32
  pub rows : (number : ℕ) → has_numbers (tables_at world number) ≡ true

pub numbered : (world : World) → are_numbered world ≡ true → IsNumbered world
numbered world h =
    let p : (nat_lt (length world) (2 ^ 32) ≡ true) × (list_all (λ given. has_numbers given.tables) world ≡ true) =
    both (nat_lt (length world) (2 ^ 32)) (list_all (λ given. has_numbers given.tables) world) h in
    record { modules = ltb-true (length world) (2 ^ 32) p.0; rows = all_numbered world p.1 }

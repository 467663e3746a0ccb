-- A module whose types stand behind those around them: none is nested in itself, and texts are told by the type around
-- and the own name.
use Rattle.std.proofs.Common.{◌≡◌, ◌∙◌, ◌+◌, ◌-◌, ◌<◌, ◌≤◌, ◌++◌, ◌∷◌, ◌&&◌, ◌||◌, [], ℕ, zero, suc, Bool, true, false}
use Rattle.std.proofs.Common.{not, cond, find, map, length, List, Some, None, refl, ap, sym, subst, arith, nat_eq}
use Rattle.std.proofs.Common.{nat_lt, eq-eqb, ne_eqb}
use Rattle.std.proofs.Common.{eqb-true, true≢false}
use Rattle.std.proofs.lemmas.Bool.{eqb-false}
use borrow.Author.Tests.{ltb-true}
use Rattle.std.proofs.lemmas.List.{append_cancel_left}
use Rattle.std.proofs.lemmas.Slice.Eq.{bytes_eq-Decides}
use Rattle.std.specs.List.{list_all, list_any, range_with_len}
use Rattle.std.specs.Str.{bytes_eq}
use Rattle.md_tables.specs.declared.module.Table.{Table}
use Rattle.ty_terms.specs.declared.names.TypeId.{TypeId}
use Rattle.ty_names.specs.Modules.{World, tables_at}
use Rattle.ty_names.specs.Definitions.{enclosing, type_count}
use Rattle.ty_names.specs.References.{id_of}
use Rattle.ty_names.specs.TypeTexts.{around, definition_text, in_encloser, module_text, nested_text, own_text}
use Rattle.ty_names.specs.TypeTexts.{text_in_module, types_around}
use Rattle.ty_load.specs.Bases.{same_id}
use Rattle.ty_load.specs.Cycles.{all_ids, ids_of, is_nested_in, leads_within}
use Rattle.ty_load.specs.Valid.{has_text, has_earlier_text}
use Rattle.ty_texts.specs.Repeats.{OwnKey, are_in_order, tells_own}
use Rattle.ty_texts.proofs.Repeats.{at_end, ids_behind, next_row, none_behind, not_false, not_true}
use Rattle.ty_texts.proofs.Plusless.{is_filled, nested_filled, own_no_plus, parts_told}

-- ---- numbers in a row

all_in : (test : ℕ → Bool) (from count x : ℕ) → list_all test (range_with_len from count) ≡ true → from ≤ x
    → x < from + count → test x ≡ true
all_in test from zero x h low high = absurd (omega (arith, low, high))
all_in test from (suc count) x h low high =
    by (test from) (nat_eq from x) refl refl h (λ g k. all_in test (from + 1) count x g k (omega (arith, high)))
  where
    by : (b c : Bool) → test from ≡ b → nat_eq from x ≡ c
        → b && list_all test (range_with_len (from + 1) count) ≡ true
        → (list_all test (range_with_len (from + 1) count) ≡ true → from + 1 ≤ x → test x ≡ true) → test x ≡ true
    by true true e k g behind = subst (λ n. test n ≡ true) (eqb-true from x k) e
    by true false e k g behind = behind g (omega (arith, low, eqb-false from x k))
    by false c e k g behind = absurd (true≢false (sym g))

pub any_in : (test : ℕ → Bool) (from count : ℕ) → list_any test (range_with_len from count) ≡ true
    → (x : ℕ) × (from ≤ x) × (x < from + count) × (test x ≡ true)
any_in test from zero h = absurd (true≢false (sym h))
any_in test from (suc count) h = by (test from) refl h (any_in test (from + 1) count)
  where
    by : (b : Bool) → test from ≡ b → b || list_any test (range_with_len (from + 1) count) ≡ true
        → (list_any test (range_with_len (from + 1) count) ≡ true
        → (x : ℕ) × (from + 1 ≤ x) × (x < from + 1 + count) × (test x ≡ true))
        → (x : ℕ) × (from ≤ x) × (x < from + suc count) × (test x ≡ true)
    by true e g behind = (from, omega arith, omega arith, e)
    by false e g behind =
        let found : (x : ℕ) × (from + 1 ≤ x) × (x < from + 1 + count) × (test x ≡ true) = behind g in
        (found.0, omega (arith, found.1), omega (arith, found.2), found.3)

pub none_in : (test : ℕ → Bool) (from count : ℕ) → ((x : ℕ) → from ≤ x → x < from + count → test x ≡ false)
    → list_any test (range_with_len from count) ≡ false
none_in test from zero h = refl
none_in test from (suc count) h =
    ap (λ b. b || list_any test (range_with_len (from + 1) count)) (h from (omega arith) (omega arith))
    ∙ none_in test (from + 1) count (λ x low high. h x (omega (arith, low)) (omega (arith, high)))

pub some_in : (test : ℕ → Bool) (from count x : ℕ) → from ≤ x → x < from + count → test x ≡ true
    → list_any test (range_with_len from count) ≡ true
some_in test from zero x low high h = absurd (omega (arith, low, high))
some_in test from (suc count) x low high h =
    by (test from) (nat_eq from x) refl refl (λ k. some_in test (from + 1) count x k (omega (arith, high)) h)
  where
    by : (b c : Bool) → test from ≡ b → nat_eq from x ≡ c
        → (from + 1 ≤ x → list_any test (range_with_len (from + 1) count) ≡ true)
        → b || list_any test (range_with_len (from + 1) count) ≡ true
    by true c e k behind = refl
    by false true e k behind =
        absurd (true≢false (sym h ∙ ap test (sym (eqb-true from x k)) ∙ e))
    by false false e k behind = behind (omega (arith, low, eqb-false from x k))

-- ---- what is known of the types that were looked at

module _ (world : World) (number : ℕ) where
  abbrev pub has_parts : ℕ → List ℕ → ℕ → Bool
  has_parts outer own row =
      nat_eq outer (enclosing (tables_at world number) row) && bytes_eq own (own_text (tables_at world number) row)

  -- no two of the types below a row have one text, and none has none
  abbrev pub AreApart : ℕ → Type 0
  AreApart row =
      (x y : ℕ) → x < row → y < row
      → text_in_module (tables_at world number) x ≡ text_in_module (tables_at world number) y → x ≡ y

  pub record AreNoted (before : ℕ) (keys : List OwnKey) : Type 0 where
    pub within : before ≤ type_count (tables_at world number)
    pub told : (outer : ℕ) (own : List ℕ)
        → tells_own keys outer own ≡ list_any (has_parts outer own) (range_with_len 1 before)
    pub apart : AreApart (before + 1)
    pub rest : find (has_earlier_text world) (ids_of world number)
        ≡ find (has_earlier_text world) (ids_behind world number before)

  pub notes_none : (keys : List OwnKey) → keys ≡ [] → AreNoted 0 keys
  notes_none keys none =
      let size : ℕ = type_count (tables_at world number) in
      let same : size - 0 ≡ size = omega arith in
      record {
        within = omega arith;
        told = λ outer own. ap (λ (k : List OwnKey). tells_own k outer own) none;
        apart = λ x y low_x low_y e. omega (arith, low_x, low_y);
        rest = ap (λ n. find (has_earlier_text world) (map (id_of number) (range_with_len 1 n))) (sym same);
      }

  pub noted_all : (before : ℕ) (keys : List OwnKey) → type_count (tables_at world number) ≤ before
      → AreNoted before keys → None ≡ find (has_earlier_text world) (ids_of world number)
  noted_all before keys all noted = sym (noted.rest ∙ none_behind world number before all)

-- ---- the types around a type, in a module whose types stand behind them

abbrev IsAbove : ℕ → List ℕ → Type 0
IsAbove row seen = (x : ℕ) → x ≤ row → list_any (nat_eq x) seen ≡ false

module _ (world : World) (number : ℕ) (ordered : are_in_order world number ≡ true) where
  abbrev tables : List Table
  tables = tables_at world number

  abbrev size : ℕ
  size = type_count (tables_at world number)

  pub falls : (row : ℕ) → 1 ≤ row → row ≤ size → enclosing tables row < row
  falls row low high =
      ltb-true (enclosing tables row) row
      (all_in (λ n. nat_lt (enclosing tables n) n) 1 size row ordered low (omega (arith, high)))

  none_around : (left : ℕ) (seen : List ℕ) → around left tables seen 0 ≡ []
  none_around zero seen = refl
  none_around (suc left) seen = refl

  one_around : (left row : ℕ) (seen : List ℕ) → 1 ≤ row → list_any (nat_eq row) seen ≡ false
      → around (suc left) tables seen row ≡ row ∷ around left tables (row ∷ seen) (enclosing tables row)
  one_around left row seen low new =
      ap (λ b. cond (b || list_any (nat_eq row) seen) [] (row ∷ around left tables (row ∷ seen) (enclosing tables row)))
      (ne_eqb row 0 (λ e. omega (arith, low, e)))
      ∙ ap (λ b. cond b [] (row ∷ around left tables (row ∷ seen) (enclosing tables row))) new

  still_above : (row : ℕ) (seen : List ℕ) → enclosing tables row < row → IsAbove row seen
      → IsAbove (enclosing tables row) (row ∷ seen)
  still_above row seen less above x low =
      ap (λ b. b || list_any (nat_eq x) seen) (ne_eqb x row (λ e. omega (arith, low, less, e)))
      ∙ above x (omega (arith, low, less))

  -- neither what was seen nor how many may follow matters, where what was seen is above
  same_around : (bound row a b : ℕ) (s t : List ℕ) → row ≤ bound → row ≤ size → row ≤ a → row ≤ b → IsAbove row s
      → IsAbove row t → around a tables s row ≡ around b tables t row
  same_around zero row a b s t low high fits also above_s above_t =
      let none : row ≡ 0 = omega arith in
      ap (around a tables s) none ∙ none_around a s ∙ sym (none_around b t) ∙ sym (ap (around b tables t) none)
  same_around (suc bound) row zero b s t low high fits also above_s above_t =
      let none : row ≡ 0 = omega arith in
      ap (around zero tables s) none ∙ none_around zero s ∙ sym (none_around b t) ∙ sym (ap (around b tables t) none)
  same_around (suc bound) row (suc a) zero s t low high fits also above_s above_t =
      let none : row ≡ 0 = omega arith in
      ap (around (suc a) tables s) none ∙ none_around (suc a) s ∙ sym (ap (around zero tables t) none)
  same_around (suc bound) row (suc a) (suc b) s t low high fits also above_s above_t =
      by (nat_eq row 0) refl
      (λ less. same_around bound (enclosing tables row) a b (row ∷ s) (row ∷ t) (omega (arith, less, low))
      (omega (arith, less, high)) (omega (arith, less, fits)) (omega (arith, less, also))
      (still_above row s less above_s) (still_above row t less above_t))
    where
      by : (c : Bool) → nat_eq row 0 ≡ c
          → (enclosing tables row < row → around a tables (row ∷ s) (enclosing tables row)
          ≡ around b tables (row ∷ t) (enclosing tables row))
          → around (suc a) tables s row ≡ around (suc b) tables t row
      by true k behind =
          let none : row ≡ 0 = eqb-true row 0 k in
          ap (around (suc a) tables s) none ∙ none_around (suc a) s ∙ sym (none_around (suc b) t)
          ∙ sym (ap (around (suc b) tables t) none)
      by false k behind =
          let there : 1 ≤ row = omega (arith, eqb-false row 0 k) in
          one_around a row s there (above_s row (omega arith))
          ∙ ap (λ (l : List ℕ). row ∷ l) (behind (falls row there high))
          ∙ sym (one_around b row t there (above_t row (omega arith)))

  unrolled : (row : ℕ) → 1 ≤ row → row ≤ size
      → types_around tables row ≡ row ∷ types_around tables (enclosing tables row)
  unrolled row low high = by size refl
    where
      by : (n : ℕ) → n ≡ size → around n tables [] row ≡ row ∷ around size tables [] (enclosing tables row)
      by zero is = absurd (omega (arith, low, high, is))
      by (suc n) is =
          let less : enclosing tables row < row = falls row low high in
          one_around n row [] low refl
          ∙ ap (λ (l : List ℕ). row ∷ l)
          (same_around row (enclosing tables row) n size (row ∷ []) [] (omega (arith, less))
          (omega (arith, less, high)) (omega (arith, less, high, is)) (omega (arith, less, high))
          (still_above row [] less (λ x _. refl)) (λ x _. refl))

  -- the text of a type is that of the type around it, and its own name
  pub text_parts : (row : ℕ) → 1 ≤ row → row ≤ size
      → text_in_module tables row ≡ in_encloser (text_in_module tables (enclosing tables row)) (own_text tables row)
  text_parts row low high = ap (nested_text tables) (unrolled row low high)

  no_text : text_in_module tables 0 ≡ []
  no_text = ap (nested_text tables) (none_around size [])

  -- ---- none is nested in itself

  not_that : (b : Bool) → (b && false) || false || false ≡ false
  not_that true = refl
  not_that false = refl

  leads_down : (left row : ℕ) (id : TypeId) → 1 ≤ row → row ≤ size → row ≤ id.row
      → leads_within left (is_nested_in world) (id_of number row) id ≡ false
  leads_down zero row id low high below = refl
  leads_down (suc left) row id low high below =
      by (nat_eq (enclosing tables row) 0) refl
      (λ there less. leads_down left (enclosing tables row) id there (omega (arith, less, high))
      (omega (arith, less, below)))
    where
      by : (b : Bool) → nat_eq (enclosing tables row) 0 ≡ b
          → (1 ≤ enclosing tables row → enclosing tables row < row
          → leads_within left (is_nested_in world) (id_of number (enclosing tables row)) id ≡ false)
          → list_any (λ (other : TypeId). same_id other id || leads_within left (is_nested_in world) other id)
          (cond b [] (id_of number (enclosing tables row) ∷ [])) ≡ false
      by true k behind = refl
      by false k behind =
          let less : enclosing tables row < row = falls row low high in
          let there : 1 ≤ enclosing tables row = omega (arith, eqb-false (enclosing tables row) 0 k) in
          let other : nat_eq (enclosing tables row) id.row ≡ false =
          ne_eqb (enclosing tables row) id.row (λ e. omega (arith, less, below, e)) in
          (λ i. (nat_eq number id.module && other i) || behind there less i || false)
          ∙ not_that (nat_eq number id.module)

  all_have_text : (row : ℕ) → 1 ≤ row → row ≤ size → has_text world (id_of number row) ≡ true
  all_have_text row low high =
      ap not (leads_down (length (all_ids world)) row (id_of number row) low high (omega arith))

  -- ---- texts that were told apart

  -- two types whose texts are the same have one around and one name
  same_parts : (row x y : ℕ) → AreApart world number row → 1 ≤ x → x ≤ size → x ≤ row → 1 ≤ y → y ≤ size → y ≤ row
      → text_in_module tables x ≡ text_in_module tables y
      → (enclosing tables x ≡ enclosing tables y) × (own_text tables x ≡ own_text tables y)
  same_parts row x y apart low_x high_x below_x low_y high_y below_y same =
      let parts : (text_in_module tables (enclosing tables x) ≡ text_in_module tables (enclosing tables y))
      × (own_text tables x ≡ own_text tables y) =
      parts_told (text_in_module tables (enclosing tables x)) (text_in_module tables (enclosing tables y))
      (own_text tables x) (own_text tables y) (own_no_plus tables x) (own_no_plus tables y)
      (sym (text_parts x low_x high_x) ∙ same ∙ text_parts y low_y high_y) in (
        apart (enclosing tables x) (enclosing tables y) (omega (arith, falls x low_x high_x, below_x))
            (omega (arith, falls y low_y high_y, below_y)) parts.0,
        parts.1,
      )

  same_texts : (x y : ℕ) → 1 ≤ x → x ≤ size → 1 ≤ y → y ≤ size → enclosing tables x ≡ enclosing tables y
      → own_text tables x ≡ own_text tables y → text_in_module tables x ≡ text_in_module tables y
  same_texts x y low_x high_x low_y high_y outer own =
      text_parts x low_x high_x ∙ (λ i. in_encloser (text_in_module tables (outer i)) (own i))
      ∙ sym (text_parts y low_y high_y)

  -- ---- looking at one type after another

  both_true : (a b : Bool) → a && b ≡ true → (a ≡ true) × (b ≡ true)
  both_true true b h = (refl, h)
  both_true false b h = absurd (true≢false (sym h))

  same_bytes : (xs ys : List ℕ) → bytes_eq xs ys ≡ true → xs ≡ ys
  same_bytes xs ys = (bytes_eq-Decides xs ys).0

  bytes_are : (xs ys : List ℕ) → xs ≡ ys → bytes_eq xs ys ≡ true
  bytes_are xs ys = (bytes_eq-Decides xs ys).1

  abbrev has_text_of : ℕ → ℕ → Bool
  has_text_of row other =
      has_text world (id_of number row) && has_text world (id_of number other)
      && bytes_eq (definition_text world (id_of number row)) (definition_text world (id_of number other))

  -- whether an earlier type has the text of the next
  abbrev earlier : ℕ → Bool
  earlier before = has_earlier_text world (id_of number (before + 1))

  earlier_is : (before : ℕ) → earlier before ≡ list_any (has_text_of (before + 1)) (range_with_len 1 before)
  earlier_is before =
      let less : before + 1 - 1 ≡ before = omega arith in
      ap (λ n. list_any (has_text_of (before + 1)) (range_with_len 1 n)) less

  is_earlier : (before : ℕ) (keys : List OwnKey) → before < size → AreNoted world number before keys
      → tells_own keys (enclosing tables (before + 1)) (own_text tables (before + 1)) ≡ true → earlier before ≡ true
  is_earlier before keys h noted there =
      let row : ℕ = before + 1 in
      let found : (x : ℕ) × (1 ≤ x) × (x < 1 + before)
      × (has_parts world number (enclosing tables row) (own_text tables row) x ≡ true) =
      any_in (has_parts world number (enclosing tables row) (own_text tables row)) 1 before
      (sym (noted.told (enclosing tables row) (own_text tables row)) ∙ there) in
      let x : ℕ = found.0 in
      let parts : (nat_eq (enclosing tables row) (enclosing tables x) ≡ true)
      × (bytes_eq (own_text tables row) (own_text tables x) ≡ true) =
      both_true (nat_eq (enclosing tables row) (enclosing tables x))
      (bytes_eq (own_text tables row) (own_text tables x))
      found.3 in
      let high : row ≤ size = omega (arith, h) in
      let low : 1 ≤ row = omega arith in
      let below : x ≤ size = omega (arith, found.2, h) in
      let same : text_in_module tables row ≡ text_in_module tables x =
      same_texts row x low high found.1 below (eqb-true (enclosing tables row) (enclosing tables x) parts.0)
      (same_bytes (own_text tables row) (own_text tables x) parts.1) in
      let alike : bytes_eq (definition_text world (id_of number row)) (definition_text world (id_of number x)) ≡ true =
      bytes_are (definition_text world (id_of number row)) (definition_text world (id_of number x))
      (ap (λ (l : List ℕ). module_text world number ++ l) same) in
      earlier_is before
      ∙ some_in (has_text_of row) 1 before x found.1 found.2
      (λ i. all_have_text row low high i && all_have_text x found.1 below i && alike i)

  never : (a b c : Bool) → c ≡ false → a && b && c ≡ false
  never true true c h = h
  never true false c h = refl
  never false b c h = refl

  abbrev IsNew : ℕ → Type 0
  IsNew before =
      (x : ℕ) → 1 ≤ x → x < 1 + before → text_in_module tables (before + 1) ≡ text_in_module tables x → ⊥

  are_new : (before : ℕ) (keys : List OwnKey) → before < size → AreNoted world number before keys
      → tells_own keys (enclosing tables (before + 1)) (own_text tables (before + 1)) ≡ false → IsNew before
  are_new before keys h noted none x low below same =
      let row : ℕ = before + 1 in
      let parts : (enclosing tables row ≡ enclosing tables x) × (own_text tables row ≡ own_text tables x) =
      same_parts row row x noted.apart (omega arith) (omega (arith, h)) (omega arith) low (omega (arith, below, h))
      (omega (arith, below)) same in
      true≢false
      (sym (some_in (has_parts world number (enclosing tables row) (own_text tables row)) 1 before x low below
      (λ i. eq-eqb (enclosing tables row) (enclosing tables x) parts.0 i
      && bytes_are (own_text tables row) (own_text tables x) parts.1 i))
      ∙ sym (noted.told (enclosing tables row) (own_text tables row)) ∙ none)

  not_earlier : (before : ℕ) → IsNew before → earlier before ≡ false
  not_earlier before new =
      let row : ℕ = before + 1 in
      earlier_is before
      ∙ none_in (has_text_of row) 1 before (λ x low below.
      never (has_text world (id_of number row)) (has_text world (id_of number x))
      (bytes_eq (definition_text world (id_of number row)) (definition_text world (id_of number x)))
      (differs x low below
      (bytes_eq (definition_text world (id_of number row)) (definition_text world (id_of number x))) refl))
    where
      differs : (x : ℕ) → 1 ≤ x → x < 1 + before → (b : Bool)
          → bytes_eq (definition_text world (id_of number (before + 1))) (definition_text world (id_of number x)) ≡ b
          → b ≡ false
      differs x low below true k =
          absurd (new x low below
          (append_cancel_left (module_text world number) (text_in_module tables (before + 1)) (text_in_module tables x)
          (same_bytes (definition_text world (id_of number (before + 1))) (definition_text world (id_of number x)) k)))
      differs x low below false k = refl

  -- a text that is there isn't that of nothing
  filled : (row : ℕ) → 1 ≤ row → row ≤ size → text_in_module tables row ≡ text_in_module tables 0 → ⊥
  filled row low high same =
      true≢false
      (sym (ap is_filled (text_parts row low high)
      ∙ nested_filled tables row (text_in_module tables (enclosing tables row)))
      ∙ ap is_filled (same ∙ no_text))

  still_apart : (before : ℕ) → before < size → AreApart world number (before + 1) → IsNew before
      → AreApart world number (before + 1 + 1)
  still_apart before h apart new x y high_x high_y same =
      by (nat_eq x (before + 1)) (nat_eq y (before + 1)) refl refl
    where
      row : ℕ
      row = before + 1

      new_here : (z : ℕ) → z < before + 1 → text_in_module tables (before + 1) ≡ text_in_module tables z → ⊥
      new_here z below e = case (nat_eq z 0) refl
        where
          case : (b : Bool) → nat_eq z 0 ≡ b → ⊥
          case true k =
              filled (before + 1) (omega arith) (omega (arith, h))
              (e ∙ ap (text_in_module tables) (eqb-true z 0 k))
          case false k = new z (omega (arith, eqb-false z 0 k)) (omega (arith, below)) e

      by : (a b : Bool) → nat_eq x (before + 1) ≡ a → nat_eq y (before + 1) ≡ b → x ≡ y
      by true true k l = eqb-true x (before + 1) k ∙ sym (eqb-true y (before + 1) l)
      by true false k l =
          absurd (new_here y (omega (arith, high_y, eqb-false y (before + 1) l))
          (ap (text_in_module tables) (sym (eqb-true x (before + 1) k)) ∙ same))
      by false true k l =
          absurd (new_here x (omega (arith, high_x, eqb-false x (before + 1) k))
          (ap (text_in_module tables) (sym (eqb-true y (before + 1) l)) ∙ sym same))
      by false false k l =
          apart x y (omega (arith, high_x, eqb-false x (before + 1) k))
          (omega (arith, high_y, eqb-false y (before + 1) l)) same

  pub finds_here : (before : ℕ) (keys : List OwnKey) (fresh : Bool) → before < size → AreNoted world number before keys
      → fresh ≡ not (tells_own keys (enclosing tables (before + 1)) (own_text tables (before + 1))) → fresh ≡ false
      → Some (id_of number (before + 1)) ≡ find (has_earlier_text world) (ids_of world number)
  finds_here before keys fresh h noted is old =
      let there : tells_own keys (enclosing tables (before + 1)) (own_text tables (before + 1)) ≡ true =
      not_false (tells_own keys (enclosing tables (before + 1)) (own_text tables (before + 1))) (sym is ∙ old) in
      sym (noted.rest ∙ next_row world number before h
      ∙ ap (λ b. cond b (Some (id_of number (before + 1)))
      (find (has_earlier_text world) (ids_behind world number (before + 1))))
      (is_earlier before keys h noted there))

  pub notes_one_more : (before next : ℕ) (keys more : List OwnKey) (fresh : Bool) → before < size
      → next ≡ before + 1 → AreNoted world number before keys
      → fresh ≡ not (tells_own keys (enclosing tables (before + 1)) (own_text tables (before + 1))) → fresh ≡ true
      → ((outer : ℕ) (own : List ℕ) → tells_own more outer own
      ≡ tells_own keys outer own || has_parts world number outer own (before + 1)) → AreNoted world number next more
  notes_one_more before next keys more fresh h on noted is young told =
      let none : tells_own keys (enclosing tables (before + 1)) (own_text tables (before + 1)) ≡ false =
      not_true (tells_own keys (enclosing tables (before + 1)) (own_text tables (before + 1))) (sym is ∙ young) in
      let new : IsNew before = are_new before keys h noted none in
      record {
        within = omega (arith, on, h);
        told =
            λ outer own. told outer own
            ∙ ap (λ b. b || has_parts world number outer own (before + 1)) (noted.told outer own)
            ∙ at_end (has_parts world number outer own) before next on;
        apart =
            subst (λ n. AreApart world number (n + 1)) (sym on) (still_apart before h noted.apart new);
        rest =
            noted.rest ∙ next_row world number before h
            ∙ ap (λ b. cond b (Some (id_of number (before + 1)))
            (find (has_earlier_text world) (ids_behind world number (before + 1)))) (not_earlier before new)
            ∙ ap (λ n. find (has_earlier_text world) (ids_behind world number n)) (sym on);
      }

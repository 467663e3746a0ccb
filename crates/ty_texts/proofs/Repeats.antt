-- The first type whose text an earlier one has too, found row by row.
use Rattle.std.proofs.Common.{◌≡◌, ◌∙◌, ◌+◌, ◌-◌, ◌<◌, ◌≤◌, ◌++◌, ◌∷◌, ◌&&◌, ◌||◌, [], ℕ, zero, suc, Bool, true}
use Rattle.std.proofs.Common.{false, not}
use Rattle.std.proofs.Common.{cond, List, Vec, Global, Option, Some, None, refl, ap, sym, arith, find, map, length}
use Rattle.std.proofs.Common.{is_some, nat_eq, nat_lt, eq-eqb, true≢false}
use Rattle.std.proofs.lemmas.Bool.{lt-ltb}
use Rattle.std.proofs.lemmas.List.{length-append, length-map}
use Rattle.std.proofs.lemmas.List.Folds.{list_any-append}
use Rattle.std.proofs.lemmas.List.FromFn.{length-range_with_len}
use Rattle.std.specs.List.{list_all, list_any, flat_map, range_with_len}
use Rattle.std.specs.Str.{bytes_eq}
use Rattle.ty_terms.specs.declared.names.TypeId.{TypeId}
use Rattle.ty_names.specs.Modules.{World, tables_at}
use Rattle.ty_names.specs.Definitions.{enclosing, type_count}
use Rattle.ty_names.specs.References.{id_of}
use Rattle.ty_names.specs.TypeTexts.{definition_text}
use Rattle.ty_load.specs.Bases.{same_id}
use Rattle.ty_load.specs.Cycles.{all_ids, ids_of, is_nested_in, leads_within}
use Rattle.ty_load.specs.Valid.{has_text, has_earlier_text}
use Rattle.ty_texts.specs.Repeats.{tells}

-- ---- searches

pub found_in_front : {A : Type 0} (test : A → Bool) (xs ys : List A) (x : A) → find test xs ≡ Some x
    → find test (xs ++ ys) ≡ Some x
found_in_front test [] ys x h = absurd (cc)
found_in_front test (y ∷ xs) ys x h = by (test y) h (found_in_front test xs ys x)
  where
    by : (b : Bool) → cond b (Some y) (find test xs) ≡ Some x
        → (find test xs ≡ Some x → find test (xs ++ ys) ≡ Some x)
        → cond b (Some y) (find test (xs ++ ys)) ≡ Some x
    by true h behind = h
    by false h behind = behind h

pub found_behind : {A : Type 0} (test : A → Bool) (xs ys : List A) → find test xs ≡ None
    → find test (xs ++ ys) ≡ find test ys
found_behind test [] ys h = refl
found_behind test (y ∷ xs) ys h = by (test y) h (found_behind test xs ys)
  where
    by : (b : Bool) → cond b (Some y) (find test xs) ≡ None
        → (find test xs ≡ None → find test (xs ++ ys) ≡ find test ys)
        → cond b (Some y) (find test (xs ++ ys)) ≡ find test ys
    by true h behind = absurd (cc)
    by false h behind = behind h

pub found_here : {A : Type 0} (test : A → Bool) (xs ys : List A) (found : Option A) → found ≡ find test xs
    → is_some found ≡ true → found ≡ find test (xs ++ ys)
found_here test xs ys None h some = absurd (true≢false (sym some))
found_here test xs ys (Some x) h some = sym (found_in_front test xs ys x (sym h))

pub not_found_here : {A : Type 0} (test : A → Bool) (xs ys : List A) (found : Option A) → found ≡ find test xs
    → is_some found ≡ false → find test (xs ++ ys) ≡ find test ys
not_found_here test xs ys None h none = found_behind test xs ys (sym h)
not_found_here test xs ys (Some x) h none = absurd (true≢false none)

-- ---- over all modules

-- types from a module on
abbrev pub ids_from : World → ℕ → List TypeId
ids_from world number = flat_map (ids_of world) (range_with_len number (length world - number))

pub next_module : (world : World) (number : ℕ) → number < length world
    → ids_from world number ≡ ids_of world number ++ ids_from world (number + 1)
next_module world number h =
    let more : length world - number ≡ suc (length world - (number + 1)) = omega arith in
    ap (λ n. flat_map (ids_of world) (range_with_len number n)) more

pub no_module : (world : World) (number : ℕ) → length world ≤ number → ids_from world number ≡ []
no_module world number h =
    let none : length world - number ≡ 0 = omega arith in
    ap (λ n. flat_map (ids_of world) (range_with_len number n)) none

pub all_from : (world : World) → ids_from world 0 ≡ all_ids world
all_from world =
    let same : length world - 0 ≡ length world = omega arith in
    ap (λ n. flat_map (ids_of world) (range_with_len 0 n)) same

pub length_of_ids : (world : World) (number : ℕ) → length (ids_of world number) ≡ type_count (tables_at world number)
length_of_ids world number =
    length-map (range_with_len 1 (type_count (tables_at world number))) (id_of number)
    ∙ length-range_with_len 1 (type_count (tables_at world number))

pub more_counted : (world : World) (number count : ℕ) → number < length world
    → count + length (ids_from world number)
    ≡ count + type_count (tables_at world number) + length (ids_from world (number + 1))
more_counted world number count h =
    let split : length (ids_from world number)
    ≡ length (ids_of world number) + length (ids_from world (number + 1)) =
    ap length (next_module world number h)
    ∙ length-append (ids_of world number) (ids_from world (number + 1)) in
    omega (arith, split, length_of_ids world number)

-- ---- a type that is nested in itself

or_false : (b : Bool) → b || false ≡ b
or_false true = refl
or_false false = refl

module _ (world : World) (id : TypeId) where
  abbrev pub leads : ℕ → ℕ → Bool
  leads left row = leads_within left (is_nested_in world) (id_of id.module row) id

  -- one step more, by what is around the row
  abbrev next_leads : ℕ → ℕ → Bool
  next_leads less next =
      list_any (λ (other : TypeId). same_id other id || leads_within less (is_nested_in world) other id)
      (cond (nat_eq next 0) [] (id_of id.module next ∷ []))

  steps : (row next left less : ℕ) → left ≡ suc less → next ≡ enclosing (tables_at world id.module) row
      → leads left row ≡ next_leads less next
  steps row next left less is out = ap (λ n. leads n row) is ∙ ap (next_leads less) (sym out)

  inner : (less next : ℕ) → nat_eq next 0 ≡ false
      → next_leads less next ≡ (nat_eq id.module id.module && nat_eq next id.row) || leads less next || false
  inner less next there =
      ap (λ b. list_any (λ (other : TypeId). same_id other id || leads_within less (is_nested_in world) other id)
      (cond b [] (id_of id.module next ∷ []))) there

  pub leads_out : (row next left less : ℕ) → left ≡ suc less → next ≡ enclosing (tables_at world id.module) row
      → nat_eq next 0 ≡ true → leads left row ≡ false
  leads_out row next left less is out none =
      steps row next left less is out
      ∙ ap (λ b. list_any (λ (other : TypeId). same_id other id || leads_within less (is_nested_in world) other id)
      (cond b [] (id_of id.module next ∷ []))) none

  pub leads_back : (row next left less : ℕ) → left ≡ suc less → next ≡ enclosing (tables_at world id.module) row
      → nat_eq next 0 ≡ false → nat_eq next id.row ≡ true → leads left row ≡ true
  leads_back row next left less is out there back =
      steps row next left less is out ∙ inner less next there
      ∙ (λ i. (eq-eqb id.module id.module refl i && back i) || leads less next || false)

  pub leads_on : (row next left less : ℕ) → left ≡ suc less → next ≡ enclosing (tables_at world id.module) row
      → nat_eq next 0 ≡ false → nat_eq next id.row ≡ false → leads left row ≡ leads less next
  leads_on row next left less is out there other =
      steps row next left less is out ∙ inner less next there
      ∙ (λ i. (eq-eqb id.module id.module refl i && other i) || leads less next || false)
      ∙ or_false (leads less next)

  pub leads_nowhere : (row left : ℕ) → left ≤ 0 → leads left row ≡ false
  leads_nowhere row left none = let zero_left : left ≡ 0 = omega arith in ap (λ n. leads n row) zero_left

-- ---- a type that stands behind the one around it

abbrev are_behind : World → ℕ → ℕ → ℕ → Bool
are_behind world number from count =
    list_all (λ row. nat_lt (enclosing (tables_at world number) row) row) (range_with_len from count)

pub one_in_order : (world : World) (number before : ℕ) (whole : Bool)
    → before < type_count (tables_at world number) → enclosing (tables_at world number) (before + 1) < before + 1
    → whole ≡ are_behind world number (before + 1) (type_count (tables_at world number) - before)
    → whole ≡ are_behind world number (before + 1 + 1) (type_count (tables_at world number) - (before + 1))
one_in_order world number before whole h falls so_far =
    let size : ℕ = type_count (tables_at world number) in
    let more : size - before ≡ suc (size - (before + 1)) = omega arith in
    so_far
    ∙ ap (are_behind world number (before + 1)) more
    ∙ ap (λ b. b && are_behind world number (before + 1 + 1) (size - (before + 1)))
    (lt-ltb (enclosing (tables_at world number) (before + 1)) (before + 1) falls)

-- ---- over the types of a module

none_of : {A : Type 0} (f g : A → Bool) (b : Bool) (xs : List A)
    → list_any (λ (x : A). b && f x && g x) xs ≡ b && list_any (λ (x : A). f x && g x) xs
none_of f g true xs = refl
none_of f g false [] = refl
none_of f g false (x ∷ xs) = none_of f g false xs

pub not_false : (b : Bool) → not b ≡ false → b ≡ true
not_false true h = refl
not_false false h = absurd (true≢false h)

pub not_true : (b : Bool) → not b ≡ true → b ≡ false
not_true true h = absurd (true≢false (sym h))
not_true false h = refl

range_more : (from count : ℕ) → range_with_len from (suc count) ≡ range_with_len from count ++ (from + count) ∷ []
range_more from zero = let same : from ≡ from + 0 = omega arith in ap (λ n. n ∷ []) same
range_more from (suc count) =
    let same : from + 1 + count ≡ from + suc count = omega arith in
    ap (λ (l : List ℕ). from ∷ l)
    (range_more (from + 1) count ∙ ap (λ n. range_with_len (from + 1) count ++ n ∷ []) same)

-- a test of all in front and of the next
pub at_end : (test : ℕ → Bool) (before next : ℕ) → next ≡ before + 1
    → list_any test (range_with_len 1 before) || test (before + 1) ≡ list_any test (range_with_len 1 next)
at_end test before next on =
    let last : before + 1 ≡ 1 + before = omega arith in
    let size : suc before ≡ next = omega (arith, on) in
    ap (λ b. list_any test (range_with_len 1 before) || b)
    (ap test last ∙ sym (or_false (test (1 + before))))
    ∙ sym (list_any-append test (range_with_len 1 before) ((1 + before) ∷ []))
    ∙ ap (list_any test) (sym (range_more 1 before))
    ∙ ap (λ n. list_any test (range_with_len 1 n)) size

module _ (world : World) (number : ℕ) where
  abbrev pub is_text_of : List ℕ → ℕ → Bool
  is_text_of text row = has_text world (id_of number row) && bytes_eq text (definition_text world (id_of number row))

  -- the texts of so many types are told
  abbrev pub TellTexts : ℕ → List (Vec ℕ Global) → Type 0
  TellTexts before keys = (text : List ℕ) → tells keys text ≡ list_any (is_text_of text) (range_with_len 1 before)

  abbrev pub ids_behind : ℕ → List TypeId
  ids_behind before = map (id_of number) (range_with_len (before + 1) (type_count (tables_at world number) - before))

  pub record AreLookedAt (before : ℕ) (keys : List (Vec ℕ Global)) : Type 0 where
    pub within : before ≤ type_count (tables_at world number)
    pub told : TellTexts before keys
    pub rest : find (has_earlier_text world) (ids_of world number) ≡ find (has_earlier_text world) (ids_behind before)

  pub looks_at_none : (keys : List (Vec ℕ Global)) → keys ≡ [] → AreLookedAt 0 keys
  looks_at_none keys none =
      let same : type_count (tables_at world number) - 0 ≡ type_count (tables_at world number) = omega arith in
      record {
        within = omega arith;
        told = λ text. ap (λ (k : List (Vec ℕ Global)). tells k text) none;
        rest =
            ap (λ n. find (has_earlier_text world) (map (id_of number) (range_with_len 1 n))) (sym same);
      }

  abbrev pub test : ℕ → Bool
  test before = has_earlier_text world (id_of number (before + 1))

  is_repeated : (before : ℕ) (keys : List (Vec ℕ Global)) → TellTexts before keys
      → test before
      ≡ has_text world (id_of number (before + 1)) && tells keys (definition_text world (id_of number (before + 1)))
  is_repeated before keys told =
      let id : TypeId = id_of number (before + 1) in
      let less : before + 1 - 1 ≡ before = omega arith in
      none_of (λ row. has_text world (id_of number row))
      (λ row. bytes_eq (definition_text world id) (definition_text world (id_of number row))) (has_text world id)
      (range_with_len 1 (before + 1 - 1))
      ∙ ap (λ n. has_text world id && list_any (is_text_of (definition_text world id)) (range_with_len 1 n)) less
      ∙ ap (λ b. has_text world id && b) (sym (told (definition_text world id)))

  pub next_row : (before : ℕ) → before < type_count (tables_at world number)
      → find (has_earlier_text world) (ids_behind before)
      ≡ cond (test before) (Some (id_of number (before + 1))) (find (has_earlier_text world) (ids_behind (before + 1)))
  next_row before h =
      let count : ℕ = type_count (tables_at world number) in
      let more : count - before ≡ suc (count - (before + 1)) = omega arith in
      ap (λ n. find (has_earlier_text world) (map (id_of number) (range_with_len (before + 1) n))) more

  pub none_behind : (before : ℕ) → type_count (tables_at world number) ≤ before
      → find (has_earlier_text world) (ids_behind before) ≡ None
  none_behind before all =
      let none : type_count (tables_at world number) - before ≡ 0 = omega arith in
      ap (λ n. find (has_earlier_text world) (map (id_of number) (range_with_len (before + 1) n))) none

  pub is_found : (before : ℕ) (keys : List (Vec ℕ Global)) (fresh : Bool)
      → before < type_count (tables_at world number) → AreLookedAt before keys
      → fresh ≡ not (has_text world (id_of number (before + 1))
      && tells keys (definition_text world (id_of number (before + 1)))) → fresh ≡ false
      → Some (id_of number (before + 1)) ≡ find (has_earlier_text world) (ids_of world number)
  is_found before keys fresh h looked is old =
      let there : not (test before) ≡ false =
      ap not (is_repeated before keys looked.told) ∙ sym is ∙ old in
      let here : test before ≡ true = not_false (test before) there in
      sym (looked.rest ∙ next_row before h
      ∙ ap (λ b. cond b (Some (id_of number (before + 1)))
      (find (has_earlier_text world) (ids_behind (before + 1)))) here)

  pub looks_at_one_more : (before next : ℕ) (keys more : List (Vec ℕ Global)) (fresh : Bool)
      → before < type_count (tables_at world number) → next ≡ before + 1 → AreLookedAt before keys
      → fresh ≡ not (has_text world (id_of number (before + 1))
      && tells keys (definition_text world (id_of number (before + 1)))) → fresh ≡ true
      → ((other : List ℕ) → tells more other ≡ tells keys other || is_text_of other (before + 1))
      → AreLookedAt next more
  looks_at_one_more before next keys more fresh h on looked is new noted =
      let there : not (test before) ≡ true = ap not (is_repeated before keys looked.told) ∙ sym is ∙ new in
      let gone : test before ≡ false = not_true (test before) there in
      record {
        within = omega (arith, on, h);
        told =
            λ text. noted text
            ∙ ap (λ b. b || is_text_of text (before + 1)) (looked.told text)
            ∙ at_end (is_text_of text) before next on;
        rest =
            looked.rest ∙ next_row before h
            ∙ ap (λ b. cond b (Some (id_of number (before + 1)))
            (find (has_earlier_text world) (ids_behind (before + 1))))
            gone
            ∙ ap (λ n. find (has_earlier_text world) (ids_behind n)) (sym on);
      }

  pub looked_at_all : (before : ℕ) (keys : List (Vec ℕ Global)) → type_count (tables_at world number) ≤ before
      → AreLookedAt before keys → None ≡ find (has_earlier_text world) (ids_of world number)
  looked_at_all before keys all looked = sym (looked.rest ∙ none_behind before all)

-- Where pieces begin and end.
use Rattle.std.proofs.Common.{◌≡◌, ◌∙◌, ◌+◌, ◌<◌, ◌≤◌, ◌∷◌, [], ℕ, zero, suc, List, length, map, take, slice_get, Some}
use Rattle.std.proofs.Common.{ap, arith, refl, sym, ◌-◌, subst, drop, get_or, unwrap_or, Option}
use Rattle.std.proofs.lemmas.List.{drop_more}
use Rattle.image_plan.specs.Places.{begins, end_of, root_at, table_size, tables_at}
use Rattle.image_plan.specs.declared.pieces.Pieces.{Pieces}

-- no piece begins behind the end
pub begin_below : (at : ℕ) (sizes : List ℕ) → at ≤ end_of at sizes
begin_below at [] = omega arith
begin_below at (size ∷ sizes) = let behind : at + size ≤ end_of (at + size) sizes = begin_below (at + size) sizes in
    omega (arith, behind)

-- a piece begins where those in front of it end
pub begin_of : (at : ℕ) (sizes : List ℕ) (k : ℕ) → k < length sizes
    → slice_get (begins at sizes) k ≡ Some (end_of at (take k sizes))
begin_of at [] k h = absurd (omega (arith, h))
begin_of at (size ∷ sizes) zero h = refl
begin_of at (size ∷ sizes) (suc k) h = begin_of (at + size) sizes k (omega (arith, h))

-- of what is left of items, the first ends no later than all
pub here_within : {A : Type 0} (size : A → ℕ) (at most i : ℕ) (item : A) (items : List A) → i < length items
    → item ≡ get_or items i item → end_of at (map size (drop i items)) < most → at + size item < most
here_within size at most i item items h is below =
    let whole : drop i items ≡ item ∷ drop (i + 1) items =
    drop_more items i item h ∙ ap (λ x. x ∷ drop (i + 1) items) (sym is) in
    let behind : at + size item ≤ end_of (at + size item) (map size (drop (i + 1) items)) =
    begin_below (at + size item) (map size (drop (i + 1) items)) in
    let all : end_of (at + size item) (map size (drop (i + 1) items)) < most =
    subst (λ rest. end_of at (map size rest) < most) whole below in
    omega (arith, behind, all)

taken_map : {A : Type 0} (size : A → ℕ) (k : ℕ) (items : List A) → take k (map size items) ≡ map size (take k items)
taken_map size zero items = refl
taken_map size (suc k) [] = refl
taken_map size (suc k) (item ∷ items) = ap (λ rest. size item ∷ rest) (taken_map size k items)

mapped_length : {A : Type 0} (size : A → ℕ) (items : List A) → length (map size items) ≡ length items
mapped_length size [] = refl
mapped_length size (item ∷ items) = ap suc (mapped_length size items)

-- the root begins where the tables in front of it end
pub root_is : (pieces : Pieces) → pieces.root < length pieces.tables
    → end_of (tables_at pieces) (map table_size (take pieces.root pieces.tables)) ≡ root_at pieces
root_is pieces h =
    let sizes : List ℕ = map table_size pieces.tables in
    let inside : pieces.root < length sizes = omega (arith, h, mapped_length table_size pieces.tables) in
    let found : slice_get (begins (tables_at pieces) sizes) pieces.root
    ≡ Some (end_of (tables_at pieces) (take pieces.root sizes)) =
    begin_of (tables_at pieces) sizes pieces.root inside in
    ap (end_of (tables_at pieces)) (sym (taken_map table_size pieces.root pieces.tables))
    ∙ sym (ap (λ (o : Option ℕ). unwrap_or o 0) found)

-- what begins earlier ends no later
pub lower : (at less : ℕ) (sizes : List ℕ) → end_of (at - less) sizes ≤ end_of at sizes
lower at less sizes = earlier (at - less) at sizes (omega arith)
  where
    earlier : (a b : ℕ) (sizes : List ℕ) → a ≤ b → end_of a sizes ≤ end_of b sizes
    earlier a b [] h = h
    earlier a b (size ∷ sizes) h = earlier (a + size) (b + size) sizes (omega (arith, h))

-- Laws of sets of types: what is in them, that they stay in order, and that equal sets are one list.
use Rattle.std.proofs.Common.{◌≡◌, refl, sym, ap, subst, ◌∙◌, Bool, true, false, ◌||◌, List, [], ◌∷◌, Option}
use Rattle.std.proofs.Common.{Some, None, inl, inr}
use Rattle.std.proofs.lemmas.Bool.{and_parts, and_from, or_cases, or_left, or_right}
use Rattle.std.proofs.lemmas.Cmp.{tied_itself}
use Rattle.std.specs.List.{filter_map, cons_option}
use Rattle.std.specs.Ordering.{is_eq, is_lt, ordering_reverse}
use Rattle.std.specs.declared.cmp.Ordering.{Ordering}
use Rattle.std.specs.declared.cmp.Ordering.TheVariants.{Less, Equal, Greater}
use Rattle.ty_terms.specs.declared.ty.Ty.{Ty}
use Rattle.ty_terms.specs.Order.{order}
use Rattle.ty_terms.specs.OrderLaws.{order_total, type_exact}
use Rattle.il_stacks.specs.Types.{same_type, placed_by, with_type, union, has_type, is_subset, comes_before, are_rising}
use Rattle.il_stacks.specs.Types.{element_of, elements_of}

-- ---- tests

or_twice : (a b : Bool) → (a || b) ≡ (a || (a || b))
or_twice true b = refl
or_twice false b = refl

or_swap : (a b c : Bool) → (a || (b || c)) ≡ (b || (a || c))
or_swap true true c = refl
or_swap true false c = refl
or_swap false b c = refl

or_regroup : (a b c : Bool) → (a || (b || c)) ≡ ((b || a) || c)
or_regroup true true c = refl
or_regroup true false c = refl
or_regroup false true c = refl
or_regroup false false c = refl

-- ---- equal types

equal_of : (o : Ordering) → is_eq o ≡ true → o ≡ Equal
equal_of Less e = cc
equal_of Equal e = refl
equal_of Greater e = cc

pub same_exact : (a b : Ty) → same_type a b ≡ true → a ≡ b
same_exact a b e = type_exact a b (equal_of (order a b) e)

pub same_itself : (a : Ty) → same_type a a ≡ true
same_itself a = ap is_eq (tied_itself order_total a)

pub same_from : (a b : Ty) → a ≡ b → same_type a b ≡ true
same_from a b e = subst (λ t. same_type a t ≡ true) e (same_itself a)

-- ---- what is in a set

pub has_with : (ty : Ty) (types : List Ty) (x : Ty)
    → has_type (with_type ty types) x ≡ (same_type x ty || has_type types x)
has_with ty [] x = refl
has_with ty (first ∷ rest) x = by (order ty first) refl (has_with ty rest x)
  where
    by : (o : Ordering) → order ty first ≡ o
        → has_type (with_type ty rest) x ≡ (same_type x ty || has_type rest x)
        → has_type (placed_by o ty first rest (with_type ty rest)) x
        ≡ (same_type x ty || (same_type x first || has_type rest x))
    by Less e more = refl
    by Equal e more =
        subst (λ t. (same_type x first || has_type rest x) ≡ (same_type x t || (same_type x first || has_type rest x)))
        (sym (type_exact ty first e)) (or_twice (same_type x first) (has_type rest x))
    by Greater e more =
        ap (λ b. same_type x first || b) more ∙ or_swap (same_type x first) (same_type x ty) (has_type rest x)

pub has_union : (types set : List Ty) (x : Ty) → has_type (union types set) x ≡ (has_type types x || has_type set x)
has_union [] set x = refl
has_union (ty ∷ types) set x =
    has_union types (with_type ty set) x
    ∙ (ap (λ b. has_type types x || b) (has_with ty set x)
    ∙ or_regroup (has_type types x) (same_type x ty) (has_type set x))

-- each type of the first is in the second
abbrev pub Within : List Ty → List Ty → Type 0
Within types others = (x : Ty) → has_type types x ≡ true → has_type others x ≡ true

pub within_from : (types others : List Ty) → is_subset types others ≡ true → Within types others
within_from [] others e x h = cc
within_from (ty ∷ types) others e x h =
    let parts = and_parts (has_type others ty) (is_subset types others) e in
    elim (or_cases (same_type x ty) (has_type types x) h) [
      | inl same ↦ subst (λ t. has_type others t ≡ true) (sym (same_exact x ty same)) parts.0
      | inr rest ↦ within_from types others parts.1 x rest
    ]

pub within_to : (types others : List Ty) → Within types others → is_subset types others ≡ true
within_to [] others w = refl
within_to (ty ∷ types) others w =
    and_from (has_type others ty) (is_subset types others)
    (w ty (or_left (same_type ty ty) (has_type types ty) (same_itself ty)))
    (within_to types others (λ x h. w x (or_right (same_type x ty) (has_type types x) h)))

pub within_union_left : (types set : List Ty) → Within types (union types set)
within_union_left types set x h =
    has_union types set x ∙ or_left (has_type types x) (has_type set x) h

pub within_union_right : (types set : List Ty) → Within set (union types set)
within_union_right types set x h =
    has_union types set x ∙ or_right (has_type types x) (has_type set x) h

pub union_within : (types set others : List Ty) → Within types others → Within set others
    → Within (union types set) others
union_within types set others w w' x h =
    elim (or_cases (has_type types x) (has_type set x) (sym (has_union types set x) ∙ h)) [
      | inl here ↦ w x here
      | inr there ↦ w' x there
    ]

-- ---- order

less_from : (a b : Ty) → order a b ≡ Greater → order b a ≡ Less
less_from a b e = order_total.antisymm b a ∙ ap ordering_reverse e

before_with : (a ty : Ty) (rest : List Ty) → order a ty ≡ Less → comes_before a rest ≡ true
    → comes_before a (with_type ty rest) ≡ true
before_with a ty [] less h = ap is_lt less
before_with a ty (next ∷ rest) less h = by (order ty next)
  where
    by : (o : Ordering) → comes_before a (placed_by o ty next rest (with_type ty rest)) ≡ true
    by Less = ap is_lt less
    by Equal = h
    by Greater = h

pub rising_with : (ty : Ty) (types : List Ty) → are_rising types ≡ true → are_rising (with_type ty types) ≡ true
rising_with ty [] h = refl
rising_with ty (first ∷ rest) h =
    let parts = and_parts (comes_before first rest) (are_rising rest) h in
    by (order ty first) refl parts.0 (rising_with ty rest parts.1)
  where
    by : (o : Ordering) → order ty first ≡ o → comes_before first rest ≡ true
        → are_rising (with_type ty rest) ≡ true
        → are_rising (placed_by o ty first rest (with_type ty rest)) ≡ true
    by Less e before more = and_from (is_lt (order ty first)) (are_rising (first ∷ rest)) (ap is_lt e) h
    by Equal e before more = h
    by Greater e before more =
        and_from (comes_before first (with_type ty rest)) (are_rising (with_type ty rest))
        (before_with first ty rest (less_from ty first e) before) more

pub rising_union : (types set : List Ty) → are_rising set ≡ true → are_rising (union types set) ≡ true
rising_union [] set h = h
rising_union (ty ∷ types) set h = rising_union types (with_type ty set) (rising_with ty set h)

pub rising_elements : (types : List Ty) → are_rising (elements_of types) ≡ true
rising_elements types = rising_union (filter_map element_of types) [] refl

-- ---- equal sets

lt_of : (o : Ordering) → is_lt o ≡ true → o ≡ Less
lt_of Less e = refl
lt_of Equal e = cc
lt_of Greater e = cc

before_all : (ty : Ty) (types : List Ty) (x : Ty) → are_rising (ty ∷ types) ≡ true → has_type types x ≡ true
    → order ty x ≡ Less
before_all ty [] x h has = cc
before_all ty (next ∷ rest) x h has =
    let parts = and_parts (is_lt (order ty next)) (are_rising (next ∷ rest)) h in
    let less : order ty next ≡ Less = lt_of (order ty next) parts.0 in
    elim (or_cases (same_type x next) (has_type rest x) has) [
      | inl same ↦ subst (λ t. order ty t ≡ Less) (sym (same_exact x next same)) less
      | inr there ↦ order_total.trans ty next x less (before_all next rest x parts.1 there)
    ]

never_both : (a b : Ty) → order a b ≡ Less → order b a ≡ Less → ⊥
never_both a b e e' =
    let turned : order a b ≡ ordering_reverse (order b a) = order_total.antisymm a b in
    let greater : ordering_reverse (order b a) ≡ Greater = ap ordering_reverse e' in
    cc

first_same : (x y : Ty) (xs ys : List Ty) → are_rising (x ∷ xs) ≡ true → are_rising (y ∷ ys) ≡ true
    → Within (x ∷ xs) (y ∷ ys) → Within (y ∷ ys) (x ∷ xs) → x ≡ y
first_same x y xs ys h h' w w' =
    let there = w x (or_left (same_type x x) (has_type xs x) (same_itself x)) in
    let back = w' y (or_left (same_type y y) (has_type ys y) (same_itself y)) in
    elim (or_cases (same_type x y) (has_type ys x) there) [
      | inl same ↦ same_exact x y same
      | inr later ↦ elim (or_cases (same_type y x) (has_type xs y) back) [
        | inl same ↦ sym (same_exact y x same)
        | inr later' ↦ absurd (never_both x y (before_all x xs y h later') (before_all y ys x h' later))
      ]
    ]

-- what is behind the first of a set isn't the first
rest_within : (x y : Ty) (xs ys : List Ty) → are_rising (x ∷ xs) ≡ true → x ≡ y → Within (x ∷ xs) (y ∷ ys)
    → Within xs ys
rest_within x y xs ys h e w t has =
    elim (or_cases (same_type t y) (has_type ys t) (w t (or_right (same_type t x) (has_type xs t) has))) [
      | inl same ↦
          let less : order x t ≡ Less = before_all x xs t h has in
          let here : x ≡ t = e ∙ sym (same_exact t y same) in
          let itself : order x x ≡ Less = subst (λ u. order x u ≡ Less) (sym here) less in
          absurd (never_both x x itself itself)
      | inr there ↦ there
    ]

pub same_sets : (types others : List Ty) → are_rising types ≡ true → are_rising others ≡ true → Within types others
    → Within others types → types ≡ others
same_sets [] [] h h' w w' = refl
same_sets [] (y ∷ ys) h h' w w' =
    let there = w' y (or_left (same_type y y) (has_type ys y) (same_itself y)) in cc
same_sets (x ∷ xs) [] h h' w w' =
    let there = w x (or_left (same_type x x) (has_type xs x) (same_itself x)) in cc
same_sets (x ∷ xs) (y ∷ ys) h h' w w' =
    let e : x ≡ y = first_same x y xs ys h h' w w' in
    let tails = same_sets xs ys (and_parts (comes_before x xs) (are_rising xs) h).1
    (and_parts (comes_before y ys) (are_rising ys) h').1
    (rest_within x y xs ys h e w) (rest_within y x ys xs h' (sym e) w') in
    ap (λ t. t ∷ xs) e ∙ ap (λ l. y ∷ l) tails

-- ---- elements

has_behind : (element : Option Ty) (types : List Ty) (x : Ty) → has_type types x ≡ true
    → has_type (cons_option element types) x ≡ true
has_behind None types x h = h
has_behind (Some element) types x h = or_right (same_type x element) (has_type types x) h

listed : (types : List Ty) (ty element : Ty) → has_type types ty ≡ true → element_of ty ≡ Some element
    → has_type (filter_map element_of types) element ≡ true
listed [] ty element h e = cc
listed (first ∷ rest) ty element h e =
    elim (or_cases (same_type ty first) (has_type rest ty) h) [
      | inl same ↦
          let is : element_of first ≡ Some element =
          subst (λ t. element_of t ≡ Some element) (same_exact ty first same) e in
          subst (λ o. has_type (cons_option o (filter_map element_of rest)) element ≡ true) (sym is)
          (or_left (same_type element element) (has_type (filter_map element_of rest) element) (same_itself element))
      | inr there ↦
          has_behind (element_of first) (filter_map element_of rest) element (listed rest ty element there e)
    ]

-- an element of one of the types
abbrev pub IsElementOf : List Ty → Ty → Type 0
IsElementOf types element = (ty : Ty) × (has_type types ty ≡ true) × (element_of ty ≡ Some element)

later : (first : Ty) (rest : List Ty) (element : Ty) → IsElementOf rest element → IsElementOf (first ∷ rest) element
later first rest element found =
    (found.0, or_right (same_type found.0 first) (has_type rest found.0) found.1, found.2)

listed_from : (types : List Ty) (element : Ty) → has_type (filter_map element_of types) element ≡ true
    → IsElementOf types element
listed_from [] element h = cc
listed_from (first ∷ rest) element h = by (element_of first) refl h (listed_from rest element)
  where
    by : (o : Option Ty) → element_of first ≡ o
        → has_type (cons_option o (filter_map element_of rest)) element ≡ true
        → (has_type (filter_map element_of rest) element ≡ true → IsElementOf rest element)
        → IsElementOf (first ∷ rest) element
    by None e h more = later first rest element (more h)
    by (Some other) e h more =
        elim (or_cases (same_type element other) (has_type (filter_map element_of rest) element) h) [
          | inl same ↦ (
            first,
            or_left (same_type first first) (has_type rest first) (same_itself first),
            e ∙ ap (λ t. Some t) (sym (same_exact element other same)),
          )
          | inr there ↦ later first rest element (more there)
        ]

-- the element of a type of a set is an element of the set
pub has_elements : (types : List Ty) (ty element : Ty) → has_type types ty ≡ true → element_of ty ≡ Some element
    → has_type (elements_of types) element ≡ true
has_elements types ty element h e =
    within_union_left (filter_map element_of types) [] element (listed types ty element h e)

-- and each element of the set is that of one of its types
pub elements_from : (types : List Ty) (element : Ty) → has_type (elements_of types) element ≡ true
    → IsElementOf types element
elements_from types element h =
    elim (or_cases (has_type (filter_map element_of types) element) false
    (sym (has_union (filter_map element_of types) [] element) ∙ h)) [
      | inl there ↦ listed_from types element there
      | inr never ↦ cc
    ]

pub elements_within : (types others : List Ty) → Within types others → Within (elements_of types) (elements_of others)
elements_within types others w x h =
    let found = elements_from types x h in
    has_elements others found.0 x (w found.0 found.1) found.2

-- No name of a type has a plus in its text, and none is empty; so the text of a nested type tells its parts.
use Rattle.std.proofs.Common.{◌≡◌, ◌∙◌, ◌+◌, ◌-◌, ◌/◌, ◌%◌, ◌<◌, ◌++◌, ◌∷◌, [], ℕ, Bool, true, false}
use Rattle.std.proofs.Common.{cond, List, length, take, slice_get, refl, ap, sym, subst, arith, codes}
use Rattle.std.proofs.Common.{nat_eq, nat_lt, eqb-true, append_assoc}
use Rattle.md_tables.specs.declared.module.Table.{Table}
use Rattle.ty_names.specs.Definitions.{enclosing, type_name, type_namespace}
use Rattle.ty_names.specs.Escapes.{behind_angle, escaped, hex_digit, is_dot, is_plain, name_text}
use Rattle.ty_names.specs.Escapes.{name_units_text, qualified_text, type_name_text, type_units_text, unit_text, units}
use Rattle.ty_names.specs.Escapes.{units_text}
use Rattle.ty_names.specs.TypeTexts.{in_encloser, own_text}

-- ---- each byte of a text

abbrev pub Every : (ℕ → Type 0) → List ℕ → Type 0
Every P [] = Unit {0}
Every P (byte ∷ rest) = P byte × Every P rest

-- what is printed as it is, and what escapes are made of, passes a test
pub record IsOfNames (P : ℕ → Type 0) : Type 0 where
  pub plain : (unit : ℕ) → is_plain unit ≡ true → P unit
  pub slash : P 0x5C
  pub letter : P 0x75
  pub digit : (n : ℕ) → n < 16 → P (hex_digit n)
  pub opens : P 0x3C
  pub closes : P 0x3E

module _ (P : ℕ → Type 0) where
  pub every-append : (xs ys : List ℕ) → Every P xs → Every P ys → Every P (xs ++ ys)
  every-append [] ys h k = k
  every-append (x ∷ xs) ys h k = (h.0, every-append xs ys h.1 k)

  pub every-cond : (b : Bool) (xs ys : List ℕ) → Every P xs → Every P ys → Every P (cond b xs ys)
  every-cond true xs ys h k = h
  every-cond false xs ys h k = k

  module _ (of : IsOfNames P) where
    pub every_escaped : (n : ℕ) → Every P (escaped n)
    every_escaped n = (
      of.slash,
      (
        of.letter,
        (
          of.digit (n / 4096 % 16) (omega arith),
          (
            of.digit (n / 256 % 16) (omega arith),
            (of.digit (n / 16 % 16) (omega arith), (of.digit (n % 16) (omega arith), tt)),
          ),
        ),
      ),
    )

    every_unit : (unit : ℕ) → Every P (unit_text unit)
    every_unit unit = by (is_plain unit) refl
      where
        by : (b : Bool) → is_plain unit ≡ b → Every P (cond b (unit ∷ []) (escaped unit))
        by true h = (of.plain unit h, tt)
        by false h = every_escaped unit

    every_units : (units : List ℕ) → Every P (units_text units)
    every_units [] = tt
    every_units (unit ∷ rest) = every-append (unit_text unit) (units_text rest) (every_unit unit) (every_units rest)

    every_behind : (units : List ℕ) → Every P (behind_angle units)
    every_behind [] = tt
    every_behind (unit ∷ rest) = by (nat_eq unit 0x3E) refl (every_behind rest)
      where
        by : (b : Bool) → nat_eq unit 0x3E ≡ b → Every P (behind_angle rest)
            → Every P (cond b (unit ∷ units_text rest) (unit_text unit ++ behind_angle rest))
        by true h behind = (subst P (sym (eqb-true unit 0x3E h)) of.closes, every_units rest)
        by false h behind = every-append (unit_text unit) (behind_angle rest) (every_unit unit) behind

    every_name_units : (units : List ℕ) → Every P (name_units_text units)
    every_name_units [] = tt
    every_name_units (unit ∷ rest) = by (nat_eq unit 0x3C) refl
      where
        by : (b : Bool) → nat_eq unit 0x3C ≡ b
            → Every P (cond b (unit ∷ behind_angle rest) (units_text (unit ∷ rest)))
        by true h = (subst P (sym (eqb-true unit 0x3C h)) of.opens, every_behind rest)
        by false h = every_units (unit ∷ rest)

    pub every_name : (name : List ℕ) → Every P (name_text name)
    every_name name = every_name_units (units name)

    every_type_units : (units : List ℕ) → Every P (type_units_text units)
    every_type_units units =
        every-cond (nat_eq (length units) 0) (escaped 0)
        (cond (is_dot (slice_get units (length units - 1)))
        (name_units_text (take (length units - 1) units) ++ escaped 0x2E) (name_units_text units))
        (every_escaped 0)
        (every-cond (is_dot (slice_get units (length units - 1)))
        (name_units_text (take (length units - 1) units) ++ escaped 0x2E) (name_units_text units)
        (every-append (name_units_text (take (length units - 1) units)) (escaped 0x2E)
        (every_name_units (take (length units - 1) units)) (every_escaped 0x2E))
        (every_name_units units))

    pub every_type_name : (name : List ℕ) → Every P (type_name_text name)
    every_type_name name = every_type_units (units name)

    pub every_qualified : (namespace name : List ℕ) → Every P (qualified_text namespace name)
    every_qualified [] name = every_type_name name
    every_qualified (byte ∷ rest) name =
        every-append (name_text (byte ∷ rest) ++ codes ".") (type_name_text name)
        (every-append (name_text (byte ∷ rest)) (codes ".") (every_name (byte ∷ rest)) (of.plain 0x2E refl, tt))
        (every_type_name name)

    pub every_own : (tables : List Table) (row : ℕ) → Every P (own_text tables row)
    every_own tables row =
        every-cond (nat_eq (enclosing tables row) 0) (qualified_text (type_namespace tables row) (type_name tables row))
        (type_name_text (type_name tables row))
        (every_qualified (type_namespace tables row) (type_name tables row)) (every_type_name (type_name tables row))

-- ---- a plus

abbrev pub NoPlus : ℕ → Type 0
NoPlus byte = byte ≡ 0x2B → ⊥

-- a test that differs at two numbers tells them apart
apart : (test : ℕ → Bool) (a b : ℕ) → test a ≡ true → test b ≡ false → a ≡ b → ⊥
apart test a b h k e = let same : true ≡ false = sym h ∙ ap test e ∙ k in absurd (cc)

digit_no_plus : (n : ℕ) (b : Bool) → cond b (0x30 + n) (0x37 + n) ≡ 0x2B → ⊥
digit_no_plus n true h = omega (arith, h)
digit_no_plus n false h = omega (arith, h)

names_no_plus : IsOfNames NoPlus
names_no_plus =
    record {
      plain = λ unit h. apart is_plain unit 0x2B h refl;
      slash = λ h. omega (arith, h);
      letter = λ h. omega (arith, h);
      digit = λ n within. digit_no_plus n (nat_lt n 10);
      opens = λ h. omega (arith, h);
      closes = λ h. omega (arith, h);
    }

pub own_no_plus : (tables : List Table) (row : ℕ) → Every NoPlus (own_text tables row)
own_no_plus tables row = every_own NoPlus names_no_plus tables row

not_inside : (front behind : List ℕ) → Every NoPlus (front ++ 0x2B ∷ behind) → ⊥
not_inside [] behind h = h.0 refl
not_inside (byte ∷ front) behind h = not_inside front behind h.1

-- two texts with a plus in front of parts that have none
one_split : (a b s t : List ℕ) → Every NoPlus s → Every NoPlus t → a ++ 0x2B ∷ s ≡ b ++ 0x2B ∷ t → (a ≡ b) × (s ≡ t)
one_split [] [] s t h k e = let same : s ≡ t = cc in (refl, same)
one_split [] (y ∷ b) s t h k e =
    let same : s ≡ b ++ 0x2B ∷ t = cc in absurd (not_inside b t (subst (Every NoPlus) same h))
one_split (x ∷ a) [] s t h k e =
    let same : t ≡ a ++ 0x2B ∷ s = cc in absurd (not_inside a s (subst (Every NoPlus) same k))
one_split (x ∷ a) (y ∷ b) s t h k e =
    let first : x ≡ y = cc in
    let rest : a ++ 0x2B ∷ s ≡ b ++ 0x2B ∷ t = cc in
    let parts : (a ≡ b) × (s ≡ t) = one_split a b s t h k rest in
    ((λ i. first i ∷ parts.0 i), parts.1)

-- the text of a nested type tells that of the type around it and its own
pub parts_told : (a b s t : List ℕ) → Every NoPlus s → Every NoPlus t → in_encloser a s ≡ in_encloser b t
    → (a ≡ b) × (s ≡ t)
parts_told [] [] s t h k e = (refl, e)
parts_told [] (y ∷ b) s t h k e =
    absurd (not_inside (y ∷ b) t (subst (Every NoPlus) (e ∙ append_assoc (y ∷ b) (codes "+") t) h))
parts_told (x ∷ a) [] s t h k e =
    absurd (not_inside (x ∷ a) s (subst (Every NoPlus) (sym e ∙ append_assoc (x ∷ a) (codes "+") s) k))
parts_told (x ∷ a) (y ∷ b) s t h k e =
    one_split (x ∷ a) (y ∷ b) s t h k
    (sym (append_assoc (x ∷ a) (codes "+") s) ∙ e ∙ append_assoc (y ∷ b) (codes "+") t)

-- ---- something is there

abbrev pub is_filled : List ℕ → Bool
is_filled [] = false
is_filled (byte ∷ rest) = true

filled_behind : (xs ys : List ℕ) → is_filled ys ≡ true → is_filled (xs ++ ys) ≡ true
filled_behind [] ys h = h
filled_behind (x ∷ xs) ys h = refl

filled_front : (xs ys : List ℕ) → is_filled xs ≡ true → is_filled (xs ++ ys) ≡ true
filled_front [] ys h = absurd (cc)
filled_front (x ∷ xs) ys h = refl

filled-cond : (b : Bool) (xs ys : List ℕ) → is_filled xs ≡ true → is_filled ys ≡ true → is_filled (cond b xs ys) ≡ true
filled-cond true xs ys h k = h
filled-cond false xs ys h k = k

filled_type_units : (units : List ℕ) → is_filled (type_units_text units) ≡ true
filled_type_units [] = refl
filled_type_units (unit ∷ rest) =
    let all : List ℕ = unit ∷ rest in
    let named : is_filled (name_units_text all) ≡ true =
    filled-cond (nat_eq unit 0x3C) (unit ∷ behind_angle rest) (units_text all) refl
    (filled_front (unit_text unit) (units_text rest)
    (filled-cond (is_plain unit) (unit ∷ []) (escaped unit) refl refl)) in
    filled-cond (nat_eq (length all) 0) (escaped 0)
    (cond (is_dot (slice_get all (length all - 1))) (name_units_text (take (length all - 1) all) ++ escaped 0x2E)
    (name_units_text all))
    refl
    (filled-cond (is_dot (slice_get all (length all - 1)))
    (name_units_text (take (length all - 1) all) ++ escaped 0x2E) (name_units_text all)
    (filled_behind (name_units_text (take (length all - 1) all)) (escaped 0x2E) refl) named)

filled_qualified : (namespace name : List ℕ) → is_filled (qualified_text namespace name) ≡ true
filled_qualified [] name = filled_type_units (units name)
filled_qualified (byte ∷ rest) name =
    filled_behind (name_text (byte ∷ rest) ++ codes ".") (type_name_text name) (filled_type_units (units name))

own_filled : (tables : List Table) (row : ℕ) → is_filled (own_text tables row) ≡ true
own_filled tables row =
    filled-cond (nat_eq (enclosing tables row) 0) (qualified_text (type_namespace tables row) (type_name tables row))
    (type_name_text (type_name tables row)) (filled_qualified (type_namespace tables row) (type_name tables row))
    (filled_type_units (units (type_name tables row)))

pub nested_filled : (tables : List Table) (row : ℕ) (outer : List ℕ)
    → is_filled (in_encloser outer (own_text tables row)) ≡ true
nested_filled tables row [] = own_filled tables row
nested_filled tables row (byte ∷ rest) = refl

-- Each beginning of a signature and each element is told by its bytes, and stops where none can be.
use Rattle.std.proofs.Common.{◌≡◌, ◌∙◌, ◌∷◌, ◌+◌, [], ℕ, List, length, Ok, Err, Some, None, Option, Bool}
use Rattle.std.proofs.Common.{true, false, cond, nat_eq, refl, ap, sym, inl, inr, eqb-true, true≢false}
use Rattle.std.proofs.lemmas.Bool.{eqb-false}
use Rattle.ty_terms.specs.declared.ty.Primitive.{Primitive}
use Rattle.md_sigs.specs.Elements.{Reading, and_then, by_first_byte, number_at, index_at, head_behind, head_at}
use Rattle.md_sigs.specs.Elements.{locals_at}
use Rattle.md_sigs.specs.Elements.{args_at, method_at, generic_method_at, class_byte, instance_at, class_at, var_at}
use Rattle.md_sigs.specs.Elements.{mvar_at, modifier_at, type_id, type_behind, special, element_behind, element_at}
use Rattle.md_sigs.specs.Elements.{primitive_of, primitive_or, is_outside, outside}
use Rattle.md_sigs.specs.Refusal.{Begins}
use Rattle.md_sigs.specs.declared.element.Element.{Element}
use Rattle.md_sigs.specs.declared.element.Head.{Head}
use Rattle.md_sigs.specs.declared.element.Place.{Place}
use Rattle.md_sigs.specs.declared.element.Stop.{Stop}
use Rattle.md_sigs.proofs.Numbers.{is_reader-number, is_reader-index}
use Rattle.md_sigs.proofs.Readers.{Closed, Open, IsReader, Byte, GoesOn, Bad, Outside, byte-if, is_reader-value}
use Rattle.md_sigs.proofs.Readers.{is_reader-then, is_reader-by_first_byte, ok_is_no_err}

-- a number, or an index, and what is made of it
of_number : {A : Type 0} (f : ℕ → A) → IsReader (λ bytes. and_then (number_at bytes) (λ n rest. Ok (f n, rest)))
of_number f =
    is_reader-then number_at (λ n rest. Ok (f n, rest)) is_reader-number (λ n. is_reader-value (f n))

of_index : {A : Type 0} (f : ℕ → A) → IsReader (λ bytes. and_then (index_at bytes) (λ n rest. Ok (f n, rest)))
of_index f = is_reader-then index_at (λ n rest. Ok (f n, rest)) is_reader-index (λ n. is_reader-value (f n))

-- ---- beginnings

is_reader-generic : (instance : Bool) → IsReader (generic_method_at instance)
is_reader-generic instance =
    is_reader-then number_at (λ n rest. method_at instance n rest) is_reader-number
    (λ n. of_number (λ params. Head.Method instance n params))

eleven_begins_none : (rest : List ℕ) → Open head_at (0x0B ∷ rest) → ⊥
unfolding head_behind
eleven_begins_none rest o = ok_is_no_err (sym o.1)

one_begins_none : (rest : List ℕ) → Open head_at (0x01 ∷ rest) → ⊥
unfolding head_behind
one_begins_none rest o = ok_is_no_err (sym o.1)

head_byte : (x : ℕ) → Byte head_at x (head_behind x)
unfolding head_behind
head_byte x =
    byte-if head_at x (nat_eq x 0x06) (λ rest. Ok (Head.Field, rest)) _ (is_reader-value Head.Field)
    (byte-if head_at x (nat_eq x 0x07) locals_at _ (of_number (λ n. Head.Locals n))
    (byte-if head_at x (nat_eq x 0x0A) args_at _ (of_number (λ n. Head.Args n))
    (byte-if head_at x (nat_eq x 0x00) (method_at false 0) _ (of_number (λ n. Head.Method false 0 n))
    (byte-if head_at x (nat_eq x 0x20) (method_at true 0) _ (of_number (λ n. Head.Method true 0 n))
    (byte-if head_at x (nat_eq x 0x10) (generic_method_at false) _ (is_reader-generic false)
    (byte-if head_at x (nat_eq x 0x30) (generic_method_at true) _ (is_reader-generic true)
    (Bad (λ rest. refl) (λ o rest. eleven_begins_none rest) (λ e rest. one_begins_none rest))))))))

field_begins : Begins (Closed head_at) []
unfolding head_behind
field_begins = (0x06 ∷ [], (Head.Field, refl))

pub is_reader-head : IsReader head_at
is_reader-head = is_reader-by_first_byte head_behind head_byte field_begins

-- ---- elements

eleven_is_no_class : (rest : List ℕ) → Open (by_first_byte class_byte) (0x0B ∷ rest) → ⊥
unfolding class_byte
eleven_is_no_class rest o = ok_is_no_err (sym o.1)

one_is_no_class : (rest : List ℕ) → Open (by_first_byte class_byte) (0x01 ∷ rest) → ⊥
unfolding class_byte
one_is_no_class rest o = ok_is_no_err (sym o.1)

class_byte_kind : (x : ℕ) → Byte (by_first_byte class_byte) x (class_byte x)
unfolding class_byte
class_byte_kind x =
    byte-if (by_first_byte class_byte) x (nat_eq x 0x11) (λ rest. Ok (x, rest)) _ (is_reader-value x)
    (byte-if (by_first_byte class_byte) x (nat_eq x 0x12) (λ rest. Ok (x, rest)) _ (is_reader-value x)
    (Bad (λ rest. refl) (λ o rest. eleven_is_no_class rest) (λ e rest. one_is_no_class rest)))

class_begins : Begins (Closed (by_first_byte class_byte)) []
unfolding class_byte
class_begins = (0x11 ∷ [], (0x11, refl))

is_reader-instance : (m : ℕ) → IsReader (instance_at m)
unfolding instance_at
is_reader-instance m =
    is_reader-then (by_first_byte class_byte) _
    (is_reader-by_first_byte class_byte class_byte_kind class_begins)
    (λ y. is_reader-then index_at _ is_reader-index (λ row. of_number (λ n. Element.Instance (type_id m row) n)))

-- each primitive type may stand at each place
primitive_stands : (m : ℕ) (place : Place) (y : ℕ) (p : Primitive) (rest : List ℕ) → primitive_of y ≡ Some p
    → element_at m place (y ∷ rest) ≡ Ok (Element.Primitive p, rest)
unfolding element_behind
primitive_stands m place y p rest e = ap (λ o. primitive_or o rest (special m place y rest)) e

type_byte : (m x : ℕ) (whole : List ℕ → Reading Element)
    → ((y : ℕ) (p : Primitive) → primitive_of y ≡ Some p → Begins (Closed whole) (y ∷ []))
    → (x ≡ 0x10 → (rest : List ℕ) → Open whole (0x01 ∷ rest) → ⊥) → Byte whole x (type_behind m x)
unfolding type_behind
type_byte m x whole types no_void =
    byte-if whole x (nat_eq x 0x11) (class_at m) _ (of_index (λ row. Element.Named (type_id m row)))
    (byte-if whole x (nat_eq x 0x12) (class_at m) _ (of_index (λ row. Element.Named (type_id m row)))
    (byte-if whole x (nat_eq x 0x13) var_at _ (of_number (λ n. Element.Var n))
    (byte-if whole x (nat_eq x 0x15) (instance_at m) _ (is_reader-instance m)
    (byte-if whole x (nat_eq x 0x1D) (λ rest. Ok (Element.Vector, rest)) _ (is_reader-value Element.Vector)
    (byte-if whole x (nat_eq x 0x1E) mvar_at _ (of_number (λ n. Element.MVar n))
    (byte-if whole x (nat_eq x 0x1F) modifier_at _ (of_index (λ row. Element.Modifier))
    (byte-if whole x (nat_eq x 0x20) modifier_at _ (of_index (λ row. Element.Modifier))
    (last (is_outside x) refl))))))))
  where
    last : (b : Bool) → is_outside x ≡ b
        → Byte whole x (λ rest. cond b (Err (Stop.Outside x)) (Err (Stop.Bad (length rest + 1))))
    last true is = Outside (λ rest. refl) (inl (is, types))
    last false never = Bad (λ rest. refl) (λ o. absurd (true≢false (sym o ∙ never))) no_void

no_void_plain : (m : ℕ) (rest : List ℕ) → Open (element_at m Place.Plain) (0x01 ∷ rest) → ⊥
unfolding element_behind primitive_of special type_behind is_outside outside
no_void_plain m rest o = ok_is_no_err (sym o.1)

no_void_variable : (m : ℕ) (rest : List ℕ) → Open (element_at m Place.Variable) (0x01 ∷ rest) → ⊥
unfolding element_behind primitive_of special type_behind is_outside outside
no_void_variable m rest o = ok_is_no_err (sym o.1)

void_begins : (m : ℕ) → Begins (Closed (element_at m Place.Returned)) (0x01 ∷ [])
unfolding element_behind primitive_of special
void_begins m = ([], (Element.Primitive Primitive.Void, refl))

types_begin : (m : ℕ) (place : Place) (y : ℕ) (p : Primitive) → primitive_of y ≡ Some p
    → Begins (Closed (element_at m place)) (y ∷ [])
types_begin m place y p e = ([], (Element.Primitive p, primitive_stands m place y p [] e))

special_byte : (m : ℕ) (place : Place) (x : ℕ) → Byte (element_at m place) x (special m place x)
unfolding special
special_byte m Place.Plain x =
    type_byte m x (element_at m Place.Plain) (types_begin m Place.Plain) (λ e rest. no_void_plain m rest)
special_byte m Place.Variable x =
    byte-if (element_at m Place.Variable) x (nat_eq x 0x10) (λ rest. Ok (Element.ByRef, rest)) _
    (is_reader-value Element.ByRef)
    (type_byte m x (element_at m Place.Variable) (types_begin m Place.Variable) (λ e rest. no_void_variable m rest))
special_byte m Place.Returned x =
    byte-if (element_at m Place.Returned) x (nat_eq x 0x01) (λ rest. Ok (Element.Primitive Primitive.Void, rest)) _
    (is_reader-value (Element.Primitive Primitive.Void)) (by_ref (nat_eq x 0x10) refl)
  where
    by_ref : (b : Bool) → nat_eq x 0x10 ≡ b
        → Byte (element_at m Place.Returned) x (λ rest. cond b (Err (Stop.Outside x)) (type_behind m x rest))
    by_ref true is = Outside (λ rest. refl) (inr (eqb-true x 0x10 is, void_begins m))
    by_ref false never =
        type_byte m x (element_at m Place.Returned) (types_begin m Place.Returned)
        (λ e. absurd (eqb-false x 0x10 never e))

element_byte : (m : ℕ) (place : Place) (x : ℕ) → Byte (element_at m place) x (element_behind m place x)
unfolding element_behind
element_byte m place x = by (primitive_of x)
  where
    by : (o : Option Primitive) → Byte (element_at m place) x (λ rest. primitive_or o rest (special m place x rest))
    by (Some p) = GoesOn (is_reader-value (Element.Primitive p))
    by None = special_byte m place x

-- an int32 may stand at each place
pub eight : (m : ℕ) (place : Place) (rest : List ℕ)
    → element_at m place (0x08 ∷ rest) ≡ Ok (Element.Primitive Primitive.I4, rest)
unfolding primitive_of
eight m place rest = primitive_stands m place 0x08 Primitive.I4 rest refl

pub is_reader-element : (m : ℕ) (place : Place) → IsReader (element_at m place)
is_reader-element m place =
    is_reader-by_first_byte (element_behind m place) (element_byte m place)
    (0x08 ∷ [], (Element.Primitive Primitive.I4, eight m place []))

-- The order of types: its equation, and that it is total and tells any two types apart.
use Rattle.std.proofs.Common.{◌≡◌, refl, sym, ap, subst, ◌∙◌, ℕ, List, [], ◌∷◌, map, cond, ◌==◌, ◌<◌, ◌≤◌, length, drop}
use Rattle.std.proofs.Common.{zero, suc, arith}
use Rattle.std.specs.declared.cmp.Ordering.{Ordering}
use Rattle.std.specs.declared.cmp.Ordering.TheVariants.{Less, Equal, Greater}
use Rattle.std.specs.Ordering.{ordering_then, ordering_reverse, nat_cmp, MatchOrdering}
use Rattle.std.specs.Cmp.{IsTotalOrder}
use Rattle.std.specs.Cmp.Lexicographic.{slice_cmp}
use Rattle.std.proofs.lemmas.Cmp.{nat_list_cmp_total, ranked}
use Rattle.ty_terms.specs.declared.names.TypeId.{TypeId}
use Rattle.ty_terms.specs.declared.ty.Primitive.{Primitive}
use Rattle.ty_terms.specs.declared.ty.Primitive.TheVariants.{Void, Boolean, Char, I1, U1, I2, U2, I4, U4, I8, U8}
use Rattle.ty_terms.specs.declared.ty.Primitive.TheVariants.{String, I, U, Object}
use Rattle.ty_terms.specs.declared.ty.Ty.{Ty}
use Rattle.ty_terms.specs.declared.ty.Ty.TheVariants.{Prim, Named, Vector, ByRef, Var, MVar, Canon}
use Rattle.ty_terms.specs.declared.ty.Ty.TheOpen.{Ty-F}
use Rattle.ty_terms.specs.declared.ty.Ty.TheViews.{out-Ty, roll-Ty, the_lemmas}
use Rattle.ty_terms.specs.declared.ty.Ty.TheFolds.{fold_out-Ty, map-Ty}
use Rattle.ty_terms.specs.Order.{order, order_step, head, inside, primitive_number}
use Rattle.ty_terms.specs.Induction.{All, induction, out-Prim, out-Named, out-Vector, out-ByRef, out-Var, out-MVar}
use Rattle.ty_terms.specs.Induction.{out-Canon}

-- ---- the equation

apply_each : (f : Ty → Ty → Ordering) (xs ys : List Ty)
    → slice_cmp (λ order ty. order ty) (map f xs) ys ≡ slice_cmp f xs ys
apply_each f [] [] = refl
apply_each f [] (y ∷ ys) = refl
apply_each f (x ∷ xs) [] = refl
apply_each f (x ∷ xs) (y ∷ ys) = ap (ordering_then (f x y)) (apply_each f xs ys)

module _ {A B : Type 0} (f : A → B) where
  head-map : (x : Ty-F A) → head (map-Ty A B f x) ≡ head x
  head-map (Ty-F.Prim p) = refl
  head-map (Ty-F.Named id args) = refl
  head-map (Ty-F.Vector e) = refl
  head-map (Ty-F.ByRef e) = refl
  head-map (Ty-F.Var n) = refl
  head-map (Ty-F.MVar n) = refl
  head-map Ty-F.Canon = refl

  inside-map : (x : Ty-F A) → inside (map-Ty A B f x) ≡ map f (inside x)
  inside-map (Ty-F.Prim p) = refl
  inside-map (Ty-F.Named id args) = refl
  inside-map (Ty-F.Vector e) = refl
  inside-map (Ty-F.ByRef e) = refl
  inside-map (Ty-F.Var n) = refl
  inside-map (Ty-F.MVar n) = refl
  inside-map Ty-F.Canon = refl

abbrev own : Ty → List ℕ
own ty = head (out-Ty ty)

abbrev inner : Ty → List Ty
inner ty = inside (out-Ty ty)

pub order_is : (a b : Ty) → order a b ≡ ordering_then (slice_cmp nat_cmp (own a) (own b))
    (slice_cmp order (inner a) (inner b))
order_is a b =
    ap (λ o. o b) (fold_out-Ty (Ty → Ordering) order_step a)
    ∙ (λ i. ordering_then (slice_cmp nat_cmp (head-map order (out-Ty a) i) (own b))
    (slice_cmp (λ order ty. order ty) (inside-map order (out-Ty a) i) (inner b)))
    ∙ ap (ordering_then (slice_cmp nat_cmp (own a) (own b))) (apply_each order (inner a) (inner b))

-- an induction with one case: what holds of all inner types holds of the type
pub from_inner : (P : Ty → Type 0) → ((ty : Ty) → All P (inner ty) → P ty) → (ty : Ty) → P ty
from_inner P step = induction P (record {
  primitive = λ p. step (Prim p) (subst (λ z. All P (inside z)) (sym (out-Prim p)) tt);
  named = λ id args each. step (Named id args) (subst (λ z. All P (inside z)) (sym (out-Named id args)) each);
  vector = λ element one. step (Vector element) (subst (λ z. All P (inside z)) (sym (out-Vector element)) (one, tt));
  by_ref = λ target one. step (ByRef target) (subst (λ z. All P (inside z)) (sym (out-ByRef target)) (one, tt));
  var = λ n. step (Var n) (subst (λ z. All P (inside z)) (sym (out-Var n)) tt);
  mvar = λ n. step (MVar n) (subst (λ z. All P (inside z)) (sym (out-MVar n)) tt);
  canon = step Canon (subst (λ z. All P (inside z)) (sym out-Canon) tt);
})

-- ---- total

reverse-then : (o p : Ordering) → ordering_reverse (ordering_then o p)
    ≡ ordering_then (ordering_reverse o) (ordering_reverse p)
reverse-then Less p = refl
reverse-then Equal p = refl
reverse-then Greater p = refl

then-equal : (o : Ordering) → ordering_then o Equal ≡ o
then-equal Less = refl
then-equal Equal = refl
then-equal Greater = refl

abbrev Turns : Ty → Type 0
Turns a = (b : Ty) → order a b ≡ ordering_reverse (order b a)

lists_turn : (xs ys : List Ty) → All Turns xs → slice_cmp order xs ys ≡ ordering_reverse (slice_cmp order ys xs)
lists_turn [] [] each = refl
lists_turn [] (y ∷ ys) each = refl
lists_turn (x ∷ xs) [] each = refl
lists_turn (x ∷ xs) (y ∷ ys) each =
    (λ i. ordering_then (each.0 y i) (lists_turn xs ys each.1 i))
    ∙ sym (reverse-then (order y x) (slice_cmp order ys xs))

turns : (a : Ty) → Turns a
turns = from_inner Turns (λ a each b.
    order_is a b
    ∙ (λ i. ordering_then (nat_list_cmp_total.antisymm (own a) (own b) i) (lists_turn (inner a) (inner b) each i))
    ∙ sym (reverse-then (slice_cmp nat_cmp (own b) (own a)) (slice_cmp order (inner b) (inner a)))
    ∙ ap ordering_reverse (sym (order_is b a)))

-- ---- exact

pub then_equal : (o p : Ordering) → ordering_then o p ≡ Equal → (o ≡ Equal) × (p ≡ Equal)
then_equal Less p e = cc
then_equal Equal p e = (refl, e)
then_equal Greater p e = cc

pub nat_exact : (x y : ℕ) → nat_cmp x y ≡ Equal → x ≡ y
nat_exact x y e = subst (λ o. MatchOrdering o (x < y) (x ≡ y) (y < x)) e (ranked x y (nat_cmp x y) refl)

pub numbers_exact : (xs ys : List ℕ) → slice_cmp nat_cmp xs ys ≡ Equal → xs ≡ ys
numbers_exact [] [] e = refl
numbers_exact [] (y ∷ ys) e = cc
numbers_exact (x ∷ xs) [] e = cc
numbers_exact (x ∷ xs) (y ∷ ys) e =
    let both = then_equal (nat_cmp x y) (slice_cmp nat_cmp xs ys) e in
    let first = nat_exact x y both.0 in
    let rest = numbers_exact xs ys both.1 in
    λ i. first i ∷ rest i

abbrev Exact : Ty → Type 0
Exact a = (b : Ty) → order a b ≡ Equal → a ≡ b

lists_exact : (xs ys : List Ty) → All Exact xs → slice_cmp order xs ys ≡ Equal → xs ≡ ys
lists_exact [] [] each e = refl
lists_exact [] (y ∷ ys) each e = cc
lists_exact (x ∷ xs) [] each e = cc
lists_exact (x ∷ xs) (y ∷ ys) each e =
    let both = then_equal (order x y) (slice_cmp order xs ys) e in
    let first = each.0 y both.0 in
    let rest = lists_exact xs ys each.1 both.1 in
    λ i. first i ∷ rest i

-- a layer, from what it says itself and what stands inside
primitive_of : ℕ → Primitive
primitive_of n =
    cond (n == 0) Void (cond (n == 1) Boolean (cond (n == 2) Char
    (cond (n == 3) I1 (cond (n == 4) U1 (cond (n == 5) I2 (cond (n == 6) U2
    (cond (n == 7) I4 (cond (n == 8) U4 (cond (n == 9) I8 (cond (n == 10) U8
    (cond (n == 11) String (cond (n == 12) I (cond (n == 13) U Object)))))))))))))

primitive_back : (p : Primitive) → primitive_of (primitive_number p) ≡ p
unfolding primitive_of
primitive_back Void = refl
primitive_back Boolean = refl
primitive_back Char = refl
primitive_back I1 = refl
primitive_back U1 = refl
primitive_back I2 = refl
primitive_back U2 = refl
primitive_back I4 = refl
primitive_back U4 = refl
primitive_back I8 = refl
primitive_back U8 = refl
primitive_back String = refl
primitive_back I = refl
primitive_back U = refl
primitive_back Object = refl

first_number : List ℕ → ℕ
first_number [] = 0
first_number (n ∷ ns) = n

second_number : List ℕ → ℕ
second_number [] = 0
second_number (n ∷ ns) = first_number ns

first_type : List Ty → Ty
first_type [] = Canon
first_type (ty ∷ types) = ty

layer_at : ℕ → List ℕ → List Ty → Ty-F Ty
layer_at kind numbers types =
    cond (kind == 0) (Ty-F.Prim (primitive_of (first_number numbers)))
    (cond (kind == 1) (Ty-F.Named (record { «module» = first_number numbers; row = second_number numbers }) types)
    (cond (kind == 2) (Ty-F.Vector (first_type types))
    (cond (kind == 3) (Ty-F.ByRef (first_type types))
    (cond (kind == 4) (Ty-F.Var (first_number numbers))
    (cond (kind == 5) (Ty-F.MVar (first_number numbers)) Ty-F.Canon)))))

layer_of : List ℕ → List Ty → Ty-F Ty
layer_of [] types = Ty-F.Canon
layer_of (kind ∷ numbers) types = layer_at kind numbers types

layer_back : (x : Ty-F Ty) → layer_of (head x) (inside x) ≡ x
unfolding layer_of layer_at first_number second_number first_type
layer_back (Ty-F.Prim p) = ap (λ q. Ty-F.Prim q) (primitive_back p)
layer_back (Ty-F.Named id args) = refl
layer_back (Ty-F.Vector e) = refl
layer_back (Ty-F.ByRef e) = refl
layer_back (Ty-F.Var n) = refl
layer_back (Ty-F.MVar n) = refl
layer_back Ty-F.Canon = refl

layer_exact : (x y : Ty-F Ty) → head x ≡ head y → inside x ≡ inside y → x ≡ y
layer_exact x y h k = sym (layer_back x) ∙ (λ i. layer_of (h i) (k i)) ∙ layer_back y

roll_out : (ty : Ty) → roll-Ty (out-Ty ty) ≡ ty
roll_out ty = search the_lemmas

exact : (a : Ty) → Exact a
exact = from_inner Exact (λ a each b e.
    let both =
    then_equal (slice_cmp nat_cmp (own a) (own b)) (slice_cmp order (inner a) (inner b)) (sym (order_is a b) ∙ e) in
    let same =
    layer_exact (out-Ty a) (out-Ty b) (numbers_exact (own a) (own b) both.0)
    (lists_exact (inner a) (inner b) each both.1) in
    sym (roll_out a) ∙ ap roll-Ty same ∙ roll_out b)

-- ---- chains

then_chain : (o p q : Ordering) (o' p' q' : Ordering)
    → (o ≡ Less → p ≡ Less → q ≡ Less) → (o ≡ Equal → q ≡ p) → (p ≡ Equal → q ≡ o) → (o' ≡ Less → p' ≡ Less → q' ≡ Less)
    → ordering_then o o' ≡ Less → ordering_then p p' ≡ Less → ordering_then q q' ≡ Less
then_chain Less Less q o' p' q' chain left right rest e f = ap (λ r. ordering_then r q') (chain refl refl)
then_chain Less Equal q o' p' q' chain left right rest e f = ap (λ r. ordering_then r q') (right refl)
then_chain Less Greater q o' p' q' chain left right rest e f = cc
then_chain Equal Less q o' p' q' chain left right rest e f = ap (λ r. ordering_then r q') (left refl)
then_chain Equal Equal q o' p' q' chain left right rest e f = ap (λ r. ordering_then r q') (left refl) ∙ rest e f
then_chain Equal Greater q o' p' q' chain left right rest e f = cc
then_chain Greater p q o' p' q' chain left right rest e f = cc

abbrev Chains : Ty → Type 0
Chains a = (b c : Ty) → order a b ≡ Less → order b c ≡ Less → order a c ≡ Less

lists_chain : (xs ys zs : List Ty) → All Chains xs → slice_cmp order xs ys ≡ Less → slice_cmp order ys zs ≡ Less
    → slice_cmp order xs zs ≡ Less
lists_chain [] [] zs each e f = f
lists_chain [] (y ∷ ys) [] each e f = cc
lists_chain [] (y ∷ ys) (z ∷ zs) each e f = refl
lists_chain (x ∷ xs) [] zs each e f = cc
lists_chain (x ∷ xs) (y ∷ ys) [] each e f = f
lists_chain (x ∷ xs) (y ∷ ys) (z ∷ zs) each e f =
    then_chain (order x y) (order y z) (order x z) (slice_cmp order xs ys) (slice_cmp order ys zs)
    (slice_cmp order xs zs)
    (each.0 y z) (λ same. ap (λ t. order t z) (exact x y same)) (λ same. ap (order x) (sym (exact y z same)))
    (lists_chain xs ys zs each.1) e f

chains : (a : Ty) → Chains a
chains = from_inner Chains (λ a each b c e f.
    order_is a c
    ∙ then_chain (slice_cmp nat_cmp (own a) (own b)) (slice_cmp nat_cmp (own b) (own c))
    (slice_cmp nat_cmp (own a) (own c))
    (slice_cmp order (inner a) (inner b)) (slice_cmp order (inner b) (inner c)) (slice_cmp order (inner a) (inner c))
    (nat_list_cmp_total.trans (own a) (own b) (own c))
    (λ same. ap (λ t. slice_cmp nat_cmp t (own c)) (numbers_exact (own a) (own b) same))
    (λ same. ap (slice_cmp nat_cmp (own a)) (sym (numbers_exact (own b) (own c) same)))
    (lists_chain (inner a) (inner b) (inner c) each)
    (sym (order_is a b) ∙ e) (sym (order_is b c) ∙ f))

pub order_total : IsTotalOrder order
order_total = record {
  antisymm = turns;
  trans = chains;
  congr = λ a b c e. ap (λ t. order t c) (exact a b e);
}

-- ---- the order at types of one kind

pub order_named : (i j : TypeId) (xs ys : List Ty)
    → order (Named i xs) (Named j ys) ≡ ordering_then (ordering_then (nat_cmp i.module j.module) (nat_cmp i.row j.row))
    (slice_cmp order xs ys)
order_named i j xs ys =
    order_is (Named i xs) (Named j ys)
    ∙ (λ k. ordering_then (slice_cmp nat_cmp (head (out-Named i xs k)) (head (out-Named j ys k)))
    (slice_cmp order (inside (out-Named i xs k)) (inside (out-Named j ys k))))
    ∙ ap (λ o. ordering_then o (slice_cmp order xs ys))
    (ap (ordering_then (nat_cmp i.module j.module)) (then-equal (nat_cmp i.row j.row)))

pub order_vector : (a b : Ty) → order (Vector a) (Vector b) ≡ order a b
order_vector a b =
    order_is (Vector a) (Vector b)
    ∙ (λ k. ordering_then (slice_cmp nat_cmp (head (out-Vector a k)) (head (out-Vector b k)))
    (slice_cmp order (inside (out-Vector a k)) (inside (out-Vector b k))))
    ∙ then-equal (order a b)

pub order_by_ref : (a b : Ty) → order (ByRef a) (ByRef b) ≡ order a b
order_by_ref a b =
    order_is (ByRef a) (ByRef b)
    ∙ (λ k. ordering_then (slice_cmp nat_cmp (head (out-ByRef a k)) (head (out-ByRef b k)))
    (slice_cmp order (inside (out-ByRef a k)) (inside (out-ByRef b k))))
    ∙ then-equal (order a b)

-- at the end of one list, the longer one comes after it
pub longer_after : (i : ℕ) (xs ys : List Ty) → length xs ≤ i → i ≤ length xs → i < length ys
    → slice_cmp order (drop i xs) (drop i ys) ≡ Less
longer_after i xs [] low high h = absurd (omega arith)
longer_after zero [] (y ∷ ys) low high h = refl
longer_after zero (x ∷ xs) (y ∷ ys) low high h = absurd (omega arith)
longer_after (suc i) [] (y ∷ ys) low high h = absurd (omega arith)
longer_after (suc i) (x ∷ xs) (y ∷ ys) low high h = longer_after i xs ys (omega arith) (omega arith) (omega arith)

all_exact : (types : List Ty) → All Exact types
all_exact [] = tt
all_exact (ty ∷ types) = (exact ty, all_exact types)

pub type_exact : (a b : Ty) → order a b ≡ Equal → a ≡ b
type_exact = exact

pub types_exact : (xs ys : List Ty) → slice_cmp order xs ys ≡ Equal → xs ≡ ys
types_exact xs ys = lists_exact xs ys (all_exact xs)

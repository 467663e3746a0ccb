-- The order of types: by what a type says itself, and then by the types inside, where the first that differ decide.
use Rattle.std.specs.Prelude.{ℕ, List, [], ◌∷◌}
use Rattle.std.specs.declared.cmp.Ordering.{Ordering}
use Rattle.std.specs.Ordering.{ordering_then, nat_cmp}
use Rattle.std.specs.Cmp.Lexicographic.{slice_cmp}
use Rattle.ty_terms.specs.declared.ty.Primitive.{Primitive}
use Rattle.ty_terms.specs.declared.ty.Primitive.TheVariants.{Void, Boolean, Char, I1, U1, I2, U2, I4, U4, I8, U8}
use Rattle.ty_terms.specs.declared.ty.Primitive.TheVariants.{String, I, U, Object}
use Rattle.ty_terms.specs.declared.ty.Ty.{Ty}
use Rattle.ty_terms.specs.declared.ty.Ty.TheOpen.{Ty-F}
use Rattle.ty_terms.specs.declared.ty.Ty.TheViews.{out-Ty}
use Rattle.ty_terms.specs.declared.ty.Ty.TheFolds.{fold-Ty}

-- the place of a primitive type among them
abbrev pub primitive_number : Primitive → ℕ
primitive_number Void = 0
primitive_number Boolean = 1
primitive_number Char = 2
primitive_number I1 = 3
primitive_number U1 = 4
primitive_number I2 = 5
primitive_number U2 = 6
primitive_number I4 = 7
primitive_number U4 = 8
primitive_number I8 = 9
primitive_number U8 = 10
primitive_number String = 11
primitive_number I = 12
primitive_number U = 13
primitive_number Object = 14

-- the kind of one layer of a type
abbrev pub kind : {A : Type 0} → Ty-F A → ℕ
kind (Ty-F.Prim primitive) = 0
kind (Ty-F.Named id args) = 1
kind (Ty-F.Vector element) = 2
kind (Ty-F.ByRef target) = 3
kind (Ty-F.Var number) = 4
kind (Ty-F.MVar number) = 5
kind Ty-F.Canon = 6

-- the numbers that stand in one layer of a type
abbrev pub numbers : {A : Type 0} → Ty-F A → List ℕ
numbers (Ty-F.Prim primitive) = primitive_number primitive ∷ []
numbers (Ty-F.Named id args) = id.module ∷ id.row ∷ []
numbers (Ty-F.Var number) = number ∷ []
numbers (Ty-F.MVar number) = number ∷ []
numbers _ = []

-- what one layer of a type says itself
abbrev pub head : {A : Type 0} → Ty-F A → List ℕ
head layer = kind layer ∷ numbers layer

-- what stands inside one layer of a type
abbrev pub inside : {A : Type 0} → Ty-F A → List A
inside (Ty-F.Named id args) = args
inside (Ty-F.Vector element) = element ∷ []
inside (Ty-F.ByRef target) = target ∷ []
inside _ = []

-- one layer, with the order of each inner type against another type in its place
abbrev pub order_step : Ty-F (Ty → Ordering) → Ty → Ordering
order_step layer other =
    ordering_then (slice_cmp nat_cmp (head layer) (head (out-Ty other)))
    (slice_cmp (λ order ty. order ty) (inside layer) (inside (out-Ty other)))

abbrev pub order : Ty → Ty → Ordering
order = fold-Ty (Ty → Ordering) order_step

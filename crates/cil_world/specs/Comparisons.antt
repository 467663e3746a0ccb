-- Compare and branch: ECMA-335 III.1.5, III.3.5 to III.3.26, III.3.66. `cgt.un` of two references gives 1 exactly
-- where the first isn't null and the second is.
use Rattle.std.specs.Prelude.{ℕ, ℤ, pos, int_lt, ◌==◌, ◌&&◌, Bool, true, false, not}
use Rattle.std.specs.Prelude.{List, slice_get, Option, Some, None}
use Rattle.std.specs.Int.{w32, cast_unsigned}
use Rattle.std.specs.Cmp.Lexicographic.{slice_cmp}
use Rattle.std.specs.Ordering.{nat_cmp}
use Rattle.num_core.specs.declared.kind.Kind.{Kind}
use Rattle.num_core.specs.Integers.{number}
use Rattle.ty_terms.specs.declared.names.MethodName.{MethodName}
use Rattle.ty_load.specs.Members.{is_equal, same_type, same_types}
use Rattle.il_verify.specs.Actions.{Signed, Unsigned, Comparison, Equal, Unequal, Less, Greater, LessOrEqual}
use Rattle.il_verify.specs.Actions.{GreaterOrEqual}
use Rattle.cil_world.specs.Arithmetic.{Pair, pair_of, with_sign, same_integer, is_zero}
use Rattle.cil_world.specs.Values.{ImageObject, TextOf, TypeOf, MethodOf, NoWords, Reference, Null, Made, Lying, Value}
use Rattle.cil_world.specs.Values.{Int32, Int64, NativeInt, Object}

-- ---- one and the same object

abbrev pub same_units : List ℕ → List ℕ → Bool
same_units a b = is_equal (slice_cmp nat_cmp a b)

abbrev pub same_method : MethodName → MethodName → Bool
same_method a b =
    same_type a.owner b.owner && a.method.module == b.method.module && a.method.row == b.method.row
    && same_types a.args b.args

abbrev pub same_image_object : ImageObject → ImageObject → Bool
same_image_object (TextOf a) (TextOf b) = same_units a b
same_image_object (TypeOf a) (TypeOf b) = same_type a b
same_image_object (MethodOf a) (MethodOf b) = same_method a b
same_image_object NoWords NoWords = true
same_image_object _ _ = false

abbrev pub same_reference : Reference → Reference → Bool
same_reference Null Null = true
same_reference (Made a) (Made b) = a == b
same_reference (Lying a) (Lying b) = same_image_object a b
same_reference _ _ = false

abbrev pub is_null : Reference → Bool
is_null Null = true
is_null _ = false

-- ---- comparing

abbrev pub holds_of_numbers : Comparison → Kind → ℤ → ℤ → Bool
holds_of_numbers Equal kind a b = same_integer a b
holds_of_numbers Unequal kind a b = not (same_integer a b)
holds_of_numbers (Less sign) kind a b = int_lt (number (with_sign sign kind) a) (number (with_sign sign kind) b)
holds_of_numbers (Greater sign) kind a b = int_lt (number (with_sign sign kind) b) (number (with_sign sign kind) a)
holds_of_numbers (LessOrEqual sign) kind a b =
    not (int_lt (number (with_sign sign kind) b) (number (with_sign sign kind) a))
holds_of_numbers (GreaterOrEqual sign) kind a b =
    not (int_lt (number (with_sign sign kind) a) (number (with_sign sign kind) b))

abbrev pub holds_of_pair : Comparison → Option Pair → Option Bool
holds_of_pair comparison None = None
holds_of_pair comparison (Some pair) = Some (holds_of_numbers comparison pair.kind pair.first pair.second)

abbrev pub holds_of_references : Comparison → Reference → Reference → Option Bool
holds_of_references Equal a b = Some (same_reference a b)
holds_of_references Unequal a b = Some (not (same_reference a b))
holds_of_references (Greater Unsigned) a b = Some (not (is_null a) && is_null b)
holds_of_references (Greater Signed) a b = None
holds_of_references (Less sign) a b = None
holds_of_references (LessOrEqual sign) a b = None
holds_of_references (GreaterOrEqual sign) a b = None

-- whether a comparison holds of two values; of what isn't compared nothing is known
abbrev pub holds : Comparison → Value → Value → Option Bool
holds comparison (Object a) (Object b) = holds_of_references comparison a b
holds comparison a b = holds_of_pair comparison (pair_of a b)

-- zero or null
abbrev pub is_zero_or_null : Value → Option Bool
is_zero_or_null (Int32 n) = Some (is_zero n)
is_zero_or_null (Int64 n) = Some (is_zero n)
is_zero_or_null (NativeInt n) = Some (is_zero n)
is_zero_or_null (Object reference) = Some (is_null reference)
is_zero_or_null _ = None

abbrev pub truth : Bool → Value
truth true = Int32 (pos 1)
truth false = Int32 (pos 0)

-- the target of a number that is read without a sign, if there are so many
abbrev pub chosen : List ℕ → Value → Option (Option ℕ)
chosen targets (Int32 n) = Some (slice_get targets (cast_unsigned w32 n))
chosen targets _ = None

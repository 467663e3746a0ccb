-- Which exceptions of the runtime an operation can raise: the tables of ECMA-335 III.3 and III.4, without those that
-- no program here can meet.
use Rattle.std.specs.Prelude.{ℕ, pos, ◌&&◌, Bool, true, false, not, if◌then◌else◌, List, [], ◌∷◌, map, filter}
use Rattle.std.specs.List.{list_any}
use Rattle.std.specs.Option.{option_map_or}
use Rattle.il_code.specs.declared.body.Operand.{Operand}
use Rattle.il_code.specs.declared.body.Operand.TheVariants.{Nothing, Number as NumberOf, Token as TokenOf}
use Rattle.il_code.specs.declared.body.Operand.TheVariants.{Target as TargetOf, Targets as TargetsOf}
use Rattle.il_code.specs.declared.opcode.Op.{Op}
use Rattle.il_code.specs.declared.opcode.OperandForm.{OperandForm}
use Rattle.il_code.specs.declared.opcode.OperandForm.TheVariants.{Absent, Unsigned8, Unsigned16, Signed8, Signed32}
use Rattle.il_code.specs.declared.opcode.OperandForm.TheVariants.{Signed64, Token, Target8, Target32, Targets}
use Rattle.il_verify.specs.Actions.{Sign, Signed, Unsigned, Range, Wraps, Refuses, Combining, Add, Subtract, Multiply}
use Rattle.il_verify.specs.Actions.{Divide, Remainder, And, Or, Xor}
use Rattle.il_verify.specs.Actions.{NumberAction, Combine, Shift, Negate, Complement, Convert, ConvertChecked}
use Rattle.il_verify.specs.Actions.{FieldAction, ReadField, AddressOfField, WriteField, ReadStatic}
use Rattle.il_verify.specs.Actions.{AddressOfStatic, WriteStatic, VectorAction, NewVector, Length, ReadElementAs}
use Rattle.il_verify.specs.Actions.{WriteElementAs, ReadElement, WriteElement, AddressOfElement, CastAction, Box}
use Rattle.il_verify.specs.Actions.{Unbox, UnboxAny, CastClass, IsInstance, CallAction, Call, CallVirtual, NewObject}
use Rattle.il_verify.specs.Actions.{Return, ExceptionAction, Throw, Rethrow, EndFinally, Leave, Action, AtPlaces}
use Rattle.il_verify.specs.Actions.{OnNumbers, OnBranches, ByPointers, OnFields, OnVectors, ByCasts, ByCalls}
use Rattle.il_verify.specs.Actions.{OnExceptions, Outside, action_of, Access, Whole, Reference}
use Rattle.il_verify.specs.CallRows.{Prefix, is_readonly}
use Rattle.il_verify.specs.Kinds.{is_reference}
use Rattle.il_verify.specs.Scope.{Scope, type_token}

-- the exceptions of the namespace System that operations raise
pub data Raised : Type 0 where
  NullReference IndexOutOfRange ArrayTypeMismatch InvalidCast Overflow DivideByZero : Raised

abbrev pub raised_by_range : Range → List Raised
raised_by_range Wraps = []
raised_by_range (Refuses sign) = Overflow ∷ []

abbrev pub raised_by_division : Sign → List Raised
raised_by_division Signed = DivideByZero ∷ Overflow ∷ []
raised_by_division Unsigned = DivideByZero ∷ []

abbrev pub raised_by_combining : Combining → List Raised
raised_by_combining (Add range) = raised_by_range range
raised_by_combining (Subtract range) = raised_by_range range
raised_by_combining (Multiply range) = raised_by_range range
raised_by_combining (Divide sign) = raised_by_division sign
raised_by_combining (Remainder sign) = raised_by_division sign
raised_by_combining And = []
raised_by_combining Or = []
raised_by_combining Xor = []

abbrev pub raised_by_number : NumberAction → List Raised
raised_by_number (Combine operation) = raised_by_combining operation
raised_by_number (Shift operation) = []
raised_by_number Negate = []
raised_by_number Complement = []
raised_by_number (Convert to) = []
raised_by_number (ConvertChecked sign to) = Overflow ∷ []

abbrev pub raised_by_field : FieldAction → List Raised
raised_by_field (ReadField token) = NullReference ∷ []
raised_by_field (AddressOfField token) = NullReference ∷ []
raised_by_field (WriteField token) = NullReference ∷ []
raised_by_field (ReadStatic token) = []
raised_by_field (AddressOfStatic token) = []
raised_by_field (WriteStatic token) = []

-- whether elements are references, and whether `readonly.` stands in front, the opcode doesn't tell
abbrev pub raised_by_vector : VectorAction → List Raised
raised_by_vector (NewVector token) = Overflow ∷ []
raised_by_vector Length = NullReference ∷ []
raised_by_vector (ReadElementAs access) = NullReference ∷ IndexOutOfRange ∷ []
raised_by_vector (WriteElementAs access) = NullReference ∷ IndexOutOfRange ∷ ArrayTypeMismatch ∷ []
raised_by_vector (ReadElement token) = NullReference ∷ IndexOutOfRange ∷ []
raised_by_vector (WriteElement token) = NullReference ∷ IndexOutOfRange ∷ ArrayTypeMismatch ∷ []
raised_by_vector (AddressOfElement token) = NullReference ∷ IndexOutOfRange ∷ ArrayTypeMismatch ∷ []

-- whether the type is one of references the opcode doesn't tell
abbrev pub raised_by_cast : CastAction → List Raised
raised_by_cast (Box token) = []
raised_by_cast (Unbox token) = NullReference ∷ InvalidCast ∷ []
raised_by_cast (UnboxAny token) = NullReference ∷ InvalidCast ∷ []
raised_by_cast (CastClass token) = InvalidCast ∷ []
raised_by_cast (IsInstance token) = []

abbrev pub raised_by_call : CallAction → List Raised
raised_by_call (Call token) = []
raised_by_call (CallVirtual token) = NullReference ∷ []
raised_by_call (NewObject token) = []
raised_by_call Return = []

abbrev pub raised_by_exception : ExceptionAction → List Raised
raised_by_exception Throw = NullReference ∷ []
raised_by_exception Rethrow = []
raised_by_exception EndFinally = []
raised_by_exception (Leave target) = []

-- what an operation may raise, as far as its opcode tells, in the order in which it is tested
abbrev pub can_raise : Action → List Raised
can_raise (AtPlaces action) = []
can_raise (OnNumbers action) = raised_by_number action
can_raise (OnBranches action) = []
can_raise (ByPointers action) = NullReference ∷ []
can_raise (OnFields action) = raised_by_field action
can_raise (OnVectors action) = raised_by_vector action
can_raise (ByCasts action) = raised_by_cast action
can_raise (ByCalls action) = raised_by_call action
can_raise (OnExceptions action) = raised_by_exception action
can_raise Outside = []

-- ---- what an operation raises, where its token and its prefix are known too

abbrev pub is_reference_token : Scope → ℕ → Bool
is_reference_token scope token = option_map_or (is_reference scope.world) (type_token scope token) false

-- An element whose type doesn't fit is met among references alone, and not behind `readonly.` (III.2.3, III.4.9).
abbrev pub raised_by_element : Bool → List Raised
raised_by_element tested = if tested then NullReference ∷ IndexOutOfRange ∷ ArrayTypeMismatch ∷ []
    else NullReference ∷ IndexOutOfRange ∷ []

abbrev pub is_whole : Access → Bool
is_whole (Whole integer) = true
is_whole Reference = false

abbrev pub vector_raises : Scope → Bool → VectorAction → List Raised
vector_raises scope readonly (NewVector token) = raised_by_vector (NewVector token)
vector_raises scope readonly Length = raised_by_vector Length
vector_raises scope readonly (ReadElementAs access) = raised_by_element false
vector_raises scope readonly (WriteElementAs access) = raised_by_element (not (is_whole access))
vector_raises scope readonly (ReadElement token) = raised_by_element false
vector_raises scope readonly (WriteElement token) = raised_by_element (is_reference_token scope token)
vector_raises scope readonly (AddressOfElement token) =
    raised_by_element (is_reference_token scope token && not readonly)

-- `unbox.any` of a reference type is a cast (III.4.33)
abbrev pub cast_raises : Scope → CastAction → List Raised
cast_raises scope (Box token) = raised_by_cast (Box token)
cast_raises scope (Unbox token) = raised_by_cast (Unbox token)
cast_raises scope (UnboxAny token) =
    if is_reference_token scope token then InvalidCast ∷ [] else NullReference ∷ InvalidCast ∷ []
cast_raises scope (CastClass token) = raised_by_cast (CastClass token)
cast_raises scope (IsInstance token) = raised_by_cast (IsInstance token)

-- what an operation behind a prefix can raise, in the order in which it is tested
abbrev pub raised_at : Scope → Prefix → Action → List Raised
raised_at scope prefix (AtPlaces action) = can_raise (AtPlaces action)
raised_at scope prefix (OnNumbers action) = can_raise (OnNumbers action)
raised_at scope prefix (OnBranches action) = can_raise (OnBranches action)
raised_at scope prefix (ByPointers action) = can_raise (ByPointers action)
raised_at scope prefix (OnFields action) = can_raise (OnFields action)
raised_at scope prefix (OnVectors action) = vector_raises scope (is_readonly prefix) action
raised_at scope prefix (ByCasts action) = cast_raises scope action
raised_at scope prefix (ByCalls action) = can_raise (ByCalls action)
raised_at scope prefix (OnExceptions action) = can_raise (OnExceptions action)
raised_at scope prefix Outside = can_raise Outside

-- ---- opcodes by what they raise

abbrev pub same_raised : Raised → Raised → Bool
same_raised NullReference NullReference = true
same_raised IndexOutOfRange IndexOutOfRange = true
same_raised ArrayTypeMismatch ArrayTypeMismatch = true
same_raised InvalidCast InvalidCast = true
same_raised Overflow Overflow = true
same_raised DivideByZero DivideByZero = true
same_raised _ _ = false

-- some operand of a form
abbrev pub some_operand : OperandForm → Operand
some_operand Absent = Nothing
some_operand Unsigned8 = NumberOf (pos 0)
some_operand Unsigned16 = NumberOf (pos 0)
some_operand Signed8 = NumberOf (pos 0)
some_operand Signed32 = NumberOf (pos 0)
some_operand Signed64 = NumberOf (pos 0)
some_operand Token = TokenOf 0
some_operand Target8 = TargetOf 0
some_operand Target32 = TargetOf 0
some_operand Targets = TargetsOf []

abbrev pub is_outside : Action → Bool
is_outside Outside = true
is_outside _ = false

-- the numbers of those opcodes of a table whose action passes a test
abbrev pub numbers_with : (Action → Bool) → List (ℕ × Op × OperandForm) → List ℕ
numbers_with test rows = map (λ row. row.0) (filter (λ row. test (action_of row.1 (some_operand row.2))) rows)

abbrev pub raises : Raised → Action → Bool
raises raised action = list_any (same_raised raised) (can_raise action)

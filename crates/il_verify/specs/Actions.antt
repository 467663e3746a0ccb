-- What operations do, whichever of their forms they have (ECMA-335 III.3, III.4): one row for each opcode. All that is
-- said of operations elsewhere, of what they take, give, raise and do, goes by these rows.
use Rattle.std.specs.Prelude.{ℕ, ℤ, pos, negsuc, List}
use Rattle.num_core.specs.declared.kind.Narrow.{Narrow}
use Rattle.num_core.specs.declared.kind.Narrow.TheVariants.{I1, U1, I2, U2, I4, U4, I8, U8}
use Rattle.num_core.specs.declared.kind.ShiftOp.{ShiftOp}
use Rattle.num_core.specs.declared.kind.ShiftOp.TheVariants.{Left, Right, RightUnsigned}
use Rattle.il_code.specs.declared.body.Operand.{Operand}
use Rattle.il_code.specs.declared.body.Operand.TheVariants.{Number as NumberOf, Token as TokenOf, Target as TargetOf}
use Rattle.il_code.specs.declared.body.Operand.TheVariants.{Targets as TargetsOf}
use Rattle.il_code.specs.declared.opcode.Op.{Op}

-- ---- words

-- an argument or a local of a method, by its number; argument 0 of an instance method is the object
pub data Place : Type 0 where
  Argument Local : ℕ → Place

pub data Sign : Type 0 where
  Signed Unsigned : Sign

-- the types of whole numbers: those of a width, and native int (I.12.1.1)
pub data Integer : Type 0 where
  Sized : Narrow → Integer
  Native : Sign → Integer

-- what stands behind a pointer or in an element, as an opcode names it
pub data Access : Type 0 where
  Whole : Integer → Access
  Reference : Access

-- what becomes of a result that is out of range: it wraps, or it is refused, of numbers with a sign or without one
pub data Range : Type 0 where
  Wraps : Range
  Refuses : Sign → Range

pub data Combining : Type 0 where
  Add Subtract Multiply : Range → Combining
  Divide Remainder : Sign → Combining
  And Or Xor : Combining

pub data Comparison : Type 0 where
  Equal Unequal : Comparison
  Less Greater LessOrEqual GreaterOrEqual : Sign → Comparison

-- ---- the groups

-- constants and places; a token is that of the operand
pub data PlaceAction : Type 0 where
  Quiet Twice Drop : PlaceAction
  Read Write AddressOf : Place → PlaceAction
  Number32 Number64 : ℤ → PlaceAction
  Null : PlaceAction
  Text Handle SizeOf : (token : ℕ) → PlaceAction
  Constrained : (token : ℕ) → PlaceAction
  Readonly : PlaceAction

-- arithmetic and conversion
pub data NumberAction : Type 0 where
  Combine : Combining → NumberAction
  Shift : ShiftOp → NumberAction
  Negate Complement : NumberAction
  Convert : Integer → NumberAction
  -- refused out of range, of a number that is read with this sign
  ConvertChecked : Sign → Integer → NumberAction

-- compare and branch
pub data BranchAction : Type 0 where
  Compare : Comparison → BranchAction
  Go : (target : ℕ) → BranchAction
  -- where the operand is, or isn't, zero or null
  GoUnlessZero GoIfZero : (target : ℕ) → BranchAction
  GoComparing : Comparison → (target : ℕ) → BranchAction
  GoAmong : (targets : List ℕ) → BranchAction

-- what stands behind pointers
pub data PointerAction : Type 0 where
  ReadAs WriteAs : Access → PointerAction
  ReadObject WriteObject CopyObject ClearObject : (token : ℕ) → PointerAction

-- fields and statics
pub data FieldAction : Type 0 where
  ReadField AddressOfField WriteField : (token : ℕ) → FieldAction
  ReadStatic AddressOfStatic WriteStatic : (token : ℕ) → FieldAction

-- vectors
pub data VectorAction : Type 0 where
  NewVector : (token : ℕ) → VectorAction
  Length : VectorAction
  ReadElementAs WriteElementAs : Access → VectorAction
  ReadElement WriteElement AddressOfElement : (token : ℕ) → VectorAction

-- boxing and casts
pub data CastAction : Type 0 where
  Box Unbox UnboxAny CastClass IsInstance : (token : ℕ) → CastAction

-- calls and returns
pub data CallAction : Type 0 where
  Call CallVirtual NewObject : (token : ℕ) → CallAction
  Return : CallAction

-- exceptions
pub data ExceptionAction : Type 0 where
  Throw Rethrow EndFinally : ExceptionAction
  Leave : (target : ℕ) → ExceptionAction

pub data Action : Type 0 where
  AtPlaces : PlaceAction → Action
  OnNumbers : NumberAction → Action
  OnBranches : BranchAction → Action
  ByPointers : PointerAction → Action
  OnFields : FieldAction → Action
  OnVectors : VectorAction → Action
  ByCasts : CastAction → Action
  ByCalls : CallAction → Action
  OnExceptions : ExceptionAction → Action
  -- what no program here does; an operand that its opcode doesn't have, too
  Outside : Action

-- ---- operands

abbrev pub by_number : (ℤ → Action) → Operand → Action
by_number act (NumberOf n) = act n
by_number act _ = Outside

abbrev pub by_index : (ℕ → Action) → ℤ → Action
by_index act (pos n) = act n
by_index act (negsuc n) = Outside

abbrev pub by_token : (ℕ → Action) → Operand → Action
by_token act (TokenOf token) = act token
by_token act _ = Outside

abbrev pub by_target : (ℕ → Action) → Operand → Action
by_target act (TargetOf target) = act target
by_target act _ = Outside

abbrev pub by_targets : (List ℕ → Action) → Operand → Action
by_targets act (TargetsOf targets) = act targets
by_targets act _ = Outside

abbrev pub at_argument : (Place → PlaceAction) → Operand → Action
at_argument act = by_number (by_index (λ n. AtPlaces (act (Argument n))))

abbrev pub at_local : (Place → PlaceAction) → Operand → Action
at_local act = by_number (by_index (λ n. AtPlaces (act (Local n))))

abbrev pub constant : ℤ → Action
constant n = AtPlaces (Number32 n)

abbrev pub comparing : Comparison → Operand → Action
comparing comparison = by_target (λ target. OnBranches (GoComparing comparison target))

abbrev pub combining : Combining → Action
combining operation = OnNumbers (Combine operation)

abbrev pub sized : Narrow → Action
sized to = OnNumbers (Convert (Sized to))

abbrev pub checked : Sign → Integer → Action
checked sign to = OnNumbers (ConvertChecked sign to)

abbrev pub reads : Access → Action
reads access = ByPointers (ReadAs access)

abbrev pub writes : Access → Action
writes access = ByPointers (WriteAs access)

abbrev pub reads_element : Access → Action
reads_element access = OnVectors (ReadElementAs access)

abbrev pub writes_element : Access → Action
writes_element access = OnVectors (WriteElementAs access)

-- ---- the table

-- what an opcode does with its operand
unfoldable pub action_of : Op → Operand → Action
action_of Op.Nop _ = AtPlaces Quiet
action_of Op.Break _ = AtPlaces Quiet
action_of Op.Ldarg0 _ = AtPlaces (Read (Argument 0))
action_of Op.Ldarg1 _ = AtPlaces (Read (Argument 1))
action_of Op.Ldarg2 _ = AtPlaces (Read (Argument 2))
action_of Op.Ldarg3 _ = AtPlaces (Read (Argument 3))
action_of Op.Ldloc0 _ = AtPlaces (Read (Local 0))
action_of Op.Ldloc1 _ = AtPlaces (Read (Local 1))
action_of Op.Ldloc2 _ = AtPlaces (Read (Local 2))
action_of Op.Ldloc3 _ = AtPlaces (Read (Local 3))
action_of Op.Stloc0 _ = AtPlaces (Write (Local 0))
action_of Op.Stloc1 _ = AtPlaces (Write (Local 1))
action_of Op.Stloc2 _ = AtPlaces (Write (Local 2))
action_of Op.Stloc3 _ = AtPlaces (Write (Local 3))
action_of Op.LdargS operand = at_argument Read operand
action_of Op.LdargaS operand = at_argument AddressOf operand
action_of Op.StargS operand = at_argument Write operand
action_of Op.LdlocS operand = at_local Read operand
action_of Op.LdlocaS operand = at_local AddressOf operand
action_of Op.StlocS operand = at_local Write operand
action_of Op.Ldnull _ = AtPlaces Null
action_of Op.LdcI4M1 _ = constant (negsuc 0)
action_of Op.LdcI4_0 _ = constant (pos 0)
action_of Op.LdcI4_1 _ = constant (pos 1)
action_of Op.LdcI4_2 _ = constant (pos 2)
action_of Op.LdcI4_3 _ = constant (pos 3)
action_of Op.LdcI4_4 _ = constant (pos 4)
action_of Op.LdcI4_5 _ = constant (pos 5)
action_of Op.LdcI4_6 _ = constant (pos 6)
action_of Op.LdcI4_7 _ = constant (pos 7)
action_of Op.LdcI4_8 _ = constant (pos 8)
action_of Op.LdcI4S operand = by_number constant operand
action_of Op.LdcI4 operand = by_number constant operand
action_of Op.LdcI8 operand = by_number (λ n. AtPlaces (Number64 n)) operand
action_of Op.LdcR4 _ = Outside
action_of Op.LdcR8 _ = Outside
action_of Op.Dup _ = AtPlaces Twice
action_of Op.Pop _ = AtPlaces Drop
action_of Op.Jmp _ = Outside
action_of Op.Call operand = by_token (λ token. ByCalls (Call token)) operand
action_of Op.Calli _ = Outside
action_of Op.Ret _ = ByCalls Return
action_of Op.BrS operand = by_target (λ target. OnBranches (Go target)) operand
action_of Op.BrfalseS operand = by_target (λ target. OnBranches (GoIfZero target)) operand
action_of Op.BrtrueS operand = by_target (λ target. OnBranches (GoUnlessZero target)) operand
action_of Op.BeqS operand = comparing Equal operand
action_of Op.BgeS operand = comparing (GreaterOrEqual Signed) operand
action_of Op.BgtS operand = comparing (Greater Signed) operand
action_of Op.BleS operand = comparing (LessOrEqual Signed) operand
action_of Op.BltS operand = comparing (Less Signed) operand
action_of Op.BneUnS operand = comparing Unequal operand
action_of Op.BgeUnS operand = comparing (GreaterOrEqual Unsigned) operand
action_of Op.BgtUnS operand = comparing (Greater Unsigned) operand
action_of Op.BleUnS operand = comparing (LessOrEqual Unsigned) operand
action_of Op.BltUnS operand = comparing (Less Unsigned) operand
action_of Op.Br operand = by_target (λ target. OnBranches (Go target)) operand
action_of Op.Brfalse operand = by_target (λ target. OnBranches (GoIfZero target)) operand
action_of Op.Brtrue operand = by_target (λ target. OnBranches (GoUnlessZero target)) operand
action_of Op.Beq operand = comparing Equal operand
action_of Op.Bge operand = comparing (GreaterOrEqual Signed) operand
action_of Op.Bgt operand = comparing (Greater Signed) operand
action_of Op.Ble operand = comparing (LessOrEqual Signed) operand
action_of Op.Blt operand = comparing (Less Signed) operand
action_of Op.BneUn operand = comparing Unequal operand
action_of Op.BgeUn operand = comparing (GreaterOrEqual Unsigned) operand
action_of Op.BgtUn operand = comparing (Greater Unsigned) operand
action_of Op.BleUn operand = comparing (LessOrEqual Unsigned) operand
action_of Op.BltUn operand = comparing (Less Unsigned) operand
action_of Op.Switch operand = by_targets (λ targets. OnBranches (GoAmong targets)) operand
action_of Op.LdindI1 _ = reads (Whole (Sized I1))
action_of Op.LdindU1 _ = reads (Whole (Sized U1))
action_of Op.LdindI2 _ = reads (Whole (Sized I2))
action_of Op.LdindU2 _ = reads (Whole (Sized U2))
action_of Op.LdindI4 _ = reads (Whole (Sized I4))
action_of Op.LdindU4 _ = reads (Whole (Sized U4))
action_of Op.LdindI8 _ = reads (Whole (Sized I8))
action_of Op.LdindI _ = reads (Whole (Native Signed))
action_of Op.LdindR4 _ = Outside
action_of Op.LdindR8 _ = Outside
action_of Op.LdindRef _ = reads Reference
action_of Op.StindRef _ = writes Reference
action_of Op.StindI1 _ = writes (Whole (Sized I1))
action_of Op.StindI2 _ = writes (Whole (Sized I2))
action_of Op.StindI4 _ = writes (Whole (Sized I4))
action_of Op.StindI8 _ = writes (Whole (Sized I8))
action_of Op.StindR4 _ = Outside
action_of Op.StindR8 _ = Outside
action_of Op.Add _ = combining (Add Wraps)
action_of Op.Sub _ = combining (Subtract Wraps)
action_of Op.Mul _ = combining (Multiply Wraps)
action_of Op.Div _ = combining (Divide Signed)
action_of Op.DivUn _ = combining (Divide Unsigned)
action_of Op.Rem _ = combining (Remainder Signed)
action_of Op.RemUn _ = combining (Remainder Unsigned)
action_of Op.And _ = combining And
action_of Op.Or _ = combining Or
action_of Op.Xor _ = combining Xor
action_of Op.Shl _ = OnNumbers (Shift Left)
action_of Op.Shr _ = OnNumbers (Shift Right)
action_of Op.ShrUn _ = OnNumbers (Shift RightUnsigned)
action_of Op.Neg _ = OnNumbers Negate
action_of Op.Not _ = OnNumbers Complement
action_of Op.ConvI1 _ = sized I1
action_of Op.ConvI2 _ = sized I2
action_of Op.ConvI4 _ = sized I4
action_of Op.ConvI8 _ = sized I8
action_of Op.ConvR4 _ = Outside
action_of Op.ConvR8 _ = Outside
action_of Op.ConvU4 _ = sized U4
action_of Op.ConvU8 _ = sized U8
action_of Op.Callvirt operand = by_token (λ token. ByCalls (CallVirtual token)) operand
action_of Op.Cpobj operand = by_token (λ token. ByPointers (CopyObject token)) operand
action_of Op.Ldobj operand = by_token (λ token. ByPointers (ReadObject token)) operand
action_of Op.Ldstr operand = by_token (λ token. AtPlaces (Text token)) operand
action_of Op.Newobj operand = by_token (λ token. ByCalls (NewObject token)) operand
action_of Op.Castclass operand = by_token (λ token. ByCasts (CastClass token)) operand
action_of Op.Isinst operand = by_token (λ token. ByCasts (IsInstance token)) operand
action_of Op.ConvRUn _ = Outside
action_of Op.Unbox operand = by_token (λ token. ByCasts (Unbox token)) operand
action_of Op.Throw _ = OnExceptions Throw
action_of Op.Ldfld operand = by_token (λ token. OnFields (ReadField token)) operand
action_of Op.Ldflda operand = by_token (λ token. OnFields (AddressOfField token)) operand
action_of Op.Stfld operand = by_token (λ token. OnFields (WriteField token)) operand
action_of Op.Ldsfld operand = by_token (λ token. OnFields (ReadStatic token)) operand
action_of Op.Ldsflda operand = by_token (λ token. OnFields (AddressOfStatic token)) operand
action_of Op.Stsfld operand = by_token (λ token. OnFields (WriteStatic token)) operand
action_of Op.Stobj operand = by_token (λ token. ByPointers (WriteObject token)) operand
action_of Op.ConvOvfI1Un _ = checked Unsigned (Sized I1)
action_of Op.ConvOvfI2Un _ = checked Unsigned (Sized I2)
action_of Op.ConvOvfI4Un _ = checked Unsigned (Sized I4)
action_of Op.ConvOvfI8Un _ = checked Unsigned (Sized I8)
action_of Op.ConvOvfU1Un _ = checked Unsigned (Sized U1)
action_of Op.ConvOvfU2Un _ = checked Unsigned (Sized U2)
action_of Op.ConvOvfU4Un _ = checked Unsigned (Sized U4)
action_of Op.ConvOvfU8Un _ = checked Unsigned (Sized U8)
action_of Op.ConvOvfIUn _ = checked Unsigned (Native Signed)
action_of Op.ConvOvfUUn _ = checked Unsigned (Native Unsigned)
action_of Op.Box operand = by_token (λ token. ByCasts (Box token)) operand
action_of Op.Newarr operand = by_token (λ token. OnVectors (NewVector token)) operand
action_of Op.Ldlen _ = OnVectors Length
action_of Op.Ldelema operand = by_token (λ token. OnVectors (AddressOfElement token)) operand
action_of Op.LdelemI1 _ = reads_element (Whole (Sized I1))
action_of Op.LdelemU1 _ = reads_element (Whole (Sized U1))
action_of Op.LdelemI2 _ = reads_element (Whole (Sized I2))
action_of Op.LdelemU2 _ = reads_element (Whole (Sized U2))
action_of Op.LdelemI4 _ = reads_element (Whole (Sized I4))
action_of Op.LdelemU4 _ = reads_element (Whole (Sized U4))
action_of Op.LdelemI8 _ = reads_element (Whole (Sized I8))
action_of Op.LdelemI _ = reads_element (Whole (Native Signed))
action_of Op.LdelemR4 _ = Outside
action_of Op.LdelemR8 _ = Outside
action_of Op.LdelemRef _ = reads_element Reference
action_of Op.StelemI _ = writes_element (Whole (Native Signed))
action_of Op.StelemI1 _ = writes_element (Whole (Sized I1))
action_of Op.StelemI2 _ = writes_element (Whole (Sized I2))
action_of Op.StelemI4 _ = writes_element (Whole (Sized I4))
action_of Op.StelemI8 _ = writes_element (Whole (Sized I8))
action_of Op.StelemR4 _ = Outside
action_of Op.StelemR8 _ = Outside
action_of Op.StelemRef _ = writes_element Reference
action_of Op.Ldelem operand = by_token (λ token. OnVectors (ReadElement token)) operand
action_of Op.Stelem operand = by_token (λ token. OnVectors (WriteElement token)) operand
action_of Op.UnboxAny operand = by_token (λ token. ByCasts (UnboxAny token)) operand
action_of Op.ConvOvfI1 _ = checked Signed (Sized I1)
action_of Op.ConvOvfU1 _ = checked Signed (Sized U1)
action_of Op.ConvOvfI2 _ = checked Signed (Sized I2)
action_of Op.ConvOvfU2 _ = checked Signed (Sized U2)
action_of Op.ConvOvfI4 _ = checked Signed (Sized I4)
action_of Op.ConvOvfU4 _ = checked Signed (Sized U4)
action_of Op.ConvOvfI8 _ = checked Signed (Sized I8)
action_of Op.ConvOvfU8 _ = checked Signed (Sized U8)
action_of Op.Refanyval _ = Outside
action_of Op.Ckfinite _ = Outside
action_of Op.Mkrefany _ = Outside
action_of Op.Ldtoken operand = by_token (λ token. AtPlaces (Handle token)) operand
action_of Op.ConvU2 _ = sized U2
action_of Op.ConvU1 _ = sized U1
action_of Op.ConvI _ = OnNumbers (Convert (Native Signed))
action_of Op.ConvOvfI _ = checked Signed (Native Signed)
action_of Op.ConvOvfU _ = checked Signed (Native Unsigned)
action_of Op.AddOvf _ = combining (Add (Refuses Signed))
action_of Op.AddOvfUn _ = combining (Add (Refuses Unsigned))
action_of Op.MulOvf _ = combining (Multiply (Refuses Signed))
action_of Op.MulOvfUn _ = combining (Multiply (Refuses Unsigned))
action_of Op.SubOvf _ = combining (Subtract (Refuses Signed))
action_of Op.SubOvfUn _ = combining (Subtract (Refuses Unsigned))
action_of Op.Endfinally _ = OnExceptions EndFinally
action_of Op.Leave operand = by_target (λ target. OnExceptions (Leave target)) operand
action_of Op.LeaveS operand = by_target (λ target. OnExceptions (Leave target)) operand
action_of Op.StindI _ = writes (Whole (Native Signed))
action_of Op.ConvU _ = OnNumbers (Convert (Native Unsigned))
action_of Op.Arglist _ = Outside
action_of Op.Ceq _ = OnBranches (Compare Equal)
action_of Op.Cgt _ = OnBranches (Compare (Greater Signed))
action_of Op.CgtUn _ = OnBranches (Compare (Greater Unsigned))
action_of Op.Clt _ = OnBranches (Compare (Less Signed))
action_of Op.CltUn _ = OnBranches (Compare (Less Unsigned))
action_of Op.Ldftn _ = Outside
action_of Op.Ldvirtftn _ = Outside
action_of Op.Ldarg operand = at_argument Read operand
action_of Op.Ldarga operand = at_argument AddressOf operand
action_of Op.Starg operand = at_argument Write operand
action_of Op.Ldloc operand = at_local Read operand
action_of Op.Ldloca operand = at_local AddressOf operand
action_of Op.Stloc operand = at_local Write operand
action_of Op.Localloc _ = Outside
action_of Op.Endfilter _ = Outside
action_of Op.Unaligned _ = Outside
action_of Op.Volatile _ = AtPlaces Quiet
action_of Op.Tail _ = Outside
action_of Op.Initobj operand = by_token (λ token. ByPointers (ClearObject token)) operand
action_of Op.Constrained operand = by_token (λ token. AtPlaces (Constrained token)) operand
action_of Op.Cpblk _ = Outside
action_of Op.Initblk _ = Outside
action_of Op.No _ = Outside
action_of Op.Rethrow _ = OnExceptions Rethrow
action_of Op.Sizeof operand = by_token (λ token. AtPlaces (SizeOf token)) operand
action_of Op.Refanytype _ = Outside
action_of Op.Readonly _ = AtPlaces Readonly

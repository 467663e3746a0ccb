-- Small values and states, worked by hand.
use Rattle.std.proofs.Common.{◌≡◌, ℕ, zero, suc, arith, List, ◌++◌, [], ◌∷◌}
use Rattle.std.proofs.Common.{Some, None, Ok, Err, true, false, pos, negsuc, refl}
use Rattle.std.specs.Int.{int_wrap}
use Rattle.std.specs.List.{enumerate_from}
use Rattle.std.specs.Prelude.{codes}
use Rattle.std.specs.Str.{chars}
use Rattle.num_core.specs.declared.bounds.Bounds.{Bounds}
use Rattle.num_core.specs.Run.{Ended, Running as Goes, Streams}
use Rattle.il_code.specs.declared.body.Clause.{Clause}
use Rattle.il_code.specs.declared.body.ClauseKind.{ClauseKind}
use Rattle.il_code.specs.declared.body.ClauseKind.TheVariants.{Catch, Finally}
use Rattle.ty_terms.specs.declared.ty.Primitive.{Primitive}
use Rattle.ty_terms.specs.declared.ty.Ty.TheVariants.{Prim}
use Rattle.ty_layout.specs.Objects.{vector_bytes}
use Rattle.cil_world.specs.Did.{Reads, Writes}
use Rattle.cil_world.specs.Entering.{has_room, has_stack}
use Rattle.cil_world.specs.State.{Begun, Frame, Setting, at_offset, with_frames, with_initializing}
use Rattle.cil_world.specs.Step.{cil_step, initializer_frame, no_frames, settles, throws}
use Rattle.cil_world.specs.Unwinding.{inner_first, numbers_of}
use Rattle.num_core.specs.declared.kind.Narrow.{Narrow}
use Rattle.num_core.specs.declared.kind.ShiftOp.TheVariants.{Left}
use Rattle.il_verify.specs.Actions.{Signed, Unsigned, Sized, Wraps, Refuses, Add, Divide, Remainder, Combine}
use Rattle.il_verify.specs.Actions.{Shift, Convert, ConvertChecked, Less, Greater}
use Rattle.il_verify.specs.Raises.{Overflow, DivideByZero}
use Rattle.cil_world.specs.Arithmetic.{number_result}
use Rattle.cil_world.specs.Comparisons.{holds, chosen}
use Rattle.cil_world.specs.Values.{Value, Int32, Int64, NativeInt, Object, Compound, Made, Null, and, none, inside}
use Rattle.cil_world.specs.Values.{with_inside}

-- ---- numbers

-- 2147483647 + 1 wraps, and is refused by `add.ovf`
wraps : number_result (Combine (Add Wraps)) (Int32 (pos 2147483647) ∷ Int32 (pos 1) ∷ [])
    ≡ Some (Ok (Int32 (negsuc 2147483647)))
unfolding int_wrap
wraps = refl

refuses : number_result (Combine (Add (Refuses Signed))) (Int32 (pos 2147483647) ∷ Int32 (pos 1) ∷ [])
    ≡ Some (Err Overflow)
unfolding int_wrap
refuses = refl

-- the least int32 by -1
divides : number_result (Combine (Divide Signed)) (Int32 (negsuc 2147483647) ∷ Int32 (negsuc 0) ∷ [])
    ≡ Some (Err Overflow)
divides = refl

remains : number_result (Combine (Remainder Signed)) (Int32 (negsuc 2147483647) ∷ Int32 (negsuc 0) ∷ [])
    ≡ Some (Err Overflow)
remains = refl

by_zero : number_result (Combine (Divide Unsigned)) (Int32 (pos 7) ∷ Int32 (pos 0) ∷ []) ≡ Some (Err DivideByZero)
by_zero = refl

-- -7 by 2 is -3, and leaves -1
quotient : number_result (Combine (Divide Signed)) (Int32 (negsuc 6) ∷ Int32 (pos 2) ∷ [])
    ≡ Some (Ok (Int32 (negsuc 2)))
unfolding int_wrap
quotient = refl

remainder : number_result (Combine (Remainder Signed)) (Int32 (negsuc 6) ∷ Int32 (pos 2) ∷ [])
    ≡ Some (Ok (Int32 (negsuc 0)))
unfolding int_wrap
remainder = refl

-- an int32 that meets a native int is extended with its sign
native : number_result (Combine (Add Wraps)) (Int32 (negsuc 0) ∷ NativeInt (pos 5) ∷ []) ≡ Some (Ok (NativeInt (pos 4)))
unfolding int_wrap
native = refl

-- a shift by 33 is one by 1
shifts : number_result (Shift Left) (Int32 (pos 3) ∷ Int32 (pos 33) ∷ []) ≡ Some (Ok (Int32 (pos 6)))
unfolding int_wrap
shifts = refl

-- `conv.u8` of an int32 extends by zeros, and `conv.ovf.u8` reads it with its sign
extends : number_result (Convert (Sized Narrow.U8)) (Int32 (negsuc 0) ∷ []) ≡ Some (Ok (Int64 (pos 4294967295)))
unfolding int_wrap
extends = refl

reads_sign : number_result (ConvertChecked Signed (Sized Narrow.U8)) (Int32 (negsuc 0) ∷ []) ≡ Some (Err Overflow)
reads_sign = refl

cuts : number_result (Convert (Sized Narrow.I1)) (Int32 (pos 200) ∷ []) ≡ Some (Ok (Int32 (negsuc 55)))
unfolding int_wrap
cuts = refl

-- ---- comparisons

unsigned : holds (Less Unsigned) (Int32 (negsuc 0)) (Int32 (pos 1)) ≡ Some false
unsigned = refl

signed : holds (Less Signed) (Int32 (negsuc 0)) (Int32 (pos 1)) ≡ Some true
signed = refl

object_above_null : holds (Greater Unsigned) (Object (Made 0)) (Object Null) ≡ Some true
object_above_null = refl

null_above_null : holds (Greater Unsigned) (Object Null) (Object Null) ≡ Some false
null_above_null = refl

switched : chosen (10 ∷ 20 ∷ []) (Int32 (pos 1)) ≡ Some (Some 20)
switched = refl

not_switched : chosen (10 ∷ 20 ∷ []) (Int32 (negsuc 0)) ≡ Some None
not_switched = refl

-- ---- values within values

pair : Value → Value → Value
pair a b = Compound (and a (and b none))

inner : inside (1 ∷ 0 ∷ []) (pair (Int32 (pos 1)) (pair (Int32 (pos 2)) (Int32 (pos 3)))) ≡ Some (Int32 (pos 2))
unfolding pair
inner = refl

changed : with_inside (1 ∷ 0 ∷ []) (pair (Int32 (pos 1)) (pair (Int32 (pos 2)) (Int32 (pos 3)))) (Int32 (pos 9))
    ≡ pair (Int32 (pos 1)) (pair (Int32 (pos 9)) (Int32 (pos 3)))
unfolding pair
changed = refl

-- ---- clauses, ends and stubs

clause : ClauseKind → ℕ → ℕ → ℕ → ℕ → Clause
clause kind try_at try_end handler_at handler_end =
    record {
      kind = kind;
      try_at = try_at;
      try_end = try_end;
      handler_at = handler_at;
      handler_end = handler_end;
      class = 0;
    }

-- of clauses that nest the inner one is tested first, wherever they stand in the table; of equal ranges the first
inner_before_outer : numbers_of (inner_first (enumerate_from 0
    (clause Finally 0 20 20 25 ∷ clause Catch 2 10 10 15 ∷ clause Catch 2 10 15 20 ∷ []))) ≡ 1 ∷ 2 ∷ 0 ∷ []
unfolding clause
inner_before_outer = refl

streams : Streams
streams = record { input = 0x61 ∷ []; output = 0x62 ∷ []; error = [] }

bounds : Bounds
bounds =
    record {
      heap = 40;
      stack = 1024;
      heap_aligned = refl;
      heap_limit = omega arith;
      stack_aligned = refl;
      stack_limit = omega arith;
    }

setting : Setting
setting = record { bounds = bounds; nodes = None }

-- where no frame has a clause the program ends at once
unhandled : throws [] no_frames streams (Made 0)
    ≡ Ended 134 (record { input = 0x61 ∷ []; output = 0x62 ∷ []; error = codes "Unhandled exception" ++ (0x0A ∷ []) })
unfolding streams chars
unhandled = refl

-- a byte is written, and one is read
writes : settles [] setting no_frames 5 streams (Writes no_frames 0x63)
    ≡ Goes no_frames (record { input = 0x61 ∷ []; output = 0x62 ∷ 0x63 ∷ []; error = [] })
unfolding streams
writes = refl

reads : settles [] setting no_frames 5 streams (Reads no_frames)
    ≡ Goes no_frames (record { input = []; output = 0x62 ∷ []; error = [] })
unfolding streams
reads = refl

-- 40 bytes are room for a vector of 24 bytes, and not for one of 25
fits_in_heap : has_room setting no_frames (vector_bytes 24 1) ≡ true
unfolding bounds setting
fits_in_heap = refl

passes_heap : has_room setting no_frames (vector_bytes 25 1) ≡ false
unfolding bounds setting
passes_heap = refl

-- three stubs are as many frames as 1,024 bytes have room for, and one more
stubs : ℕ → List Frame
stubs zero = []
stubs (suc n) = initializer_frame (Prim Primitive.Object) false ∷ stubs n

fits_on_stack : has_stack [] setting (stubs 3) 256 ≡ true
unfolding bounds setting stubs
fits_on_stack = refl

passes_stack : has_stack [] setting (stubs 4) 256 ≡ false
unfolding bounds setting stubs
passes_stack = refl

-- an initializer that is new is begun by the first sentence of its stub
begun : cil_step [] setting (with_frames (stubs 1) no_frames) streams
    ≡ Goes (with_initializing (Prim Primitive.Object) Begun
    (with_frames (at_offset 1 (initializer_frame (Prim Primitive.Object) false) ∷ []) no_frames)) streams
unfolding cil_step stubs
begun = refl

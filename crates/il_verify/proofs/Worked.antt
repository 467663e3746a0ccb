-- Small bodies, worked by hand: what is known of the stack at each offset, and the least offset that fails.
use Rattle.std.proofs.Common.{◌≡◌, ℕ, Bool, true, false, List, [], ◌∷◌, map, Ok, Err, refl, ap, ◌∙◌}
use Rattle.std.specs.Prelude.{Result, pos, negsuc}
use Rattle.il_code.specs.declared.body.Body.{Body}
use Rattle.il_code.specs.declared.body.Clause.{Clause}
use Rattle.il_code.specs.declared.body.ClauseKind.TheVariants.{Finally}
use Rattle.il_code.specs.declared.body.Instr.{Instr}
use Rattle.il_code.specs.declared.body.Operand.{Operand}
use Rattle.il_code.specs.declared.body.Operand.TheVariants.{Nothing, Number, Token, Target}
use Rattle.il_code.specs.declared.opcode.Op.{Op}
use Rattle.ty_terms.specs.declared.ty.Primitive.{Primitive}
use Rattle.ty_terms.specs.declared.ty.Ty as Types
use Rattle.ty_terms.specs.declared.ty.Ty.{Ty}
use Rattle.ty_terms.specs.declared.ty.Ty.TheVariants.{Prim, Named, Vector}
use Rattle.ty_terms.specs.Induction.{fold-Named, out-Named, out-Prim, out-Vector}
use Rattle.ty_terms.specs.Order.{order, order_step}
use Rattle.ty_terms.specs.declared.ty.Ty.TheOpen.{Ty-F}
use Rattle.std.specs.declared.cmp.Ordering.TheVariants.{Less}
use Rattle.ty_names.specs.References.{id_of}
use Rattle.ty_load.specs.Tokens.{resolution}
use Rattle.num_core.specs.declared.kind.Narrow.{Narrow}
use Rattle.il_stacks.specs.Rounds.{stacks_by_rounds}
use Rattle.il_verify.specs.Actions.{Signed, Integer, Sized, Native, Whole, Reference, Equal, Compare, ReadElementAs}
use Rattle.il_verify.specs.Actions.{WriteElementAs, action_of}
use Rattle.il_verify.specs.BranchRows.{branch_row}
use Rattle.il_verify.specs.Kinds.{may_store}
use Rattle.il_verify.specs.Rows.{row_of}
use Rattle.il_verify.specs.Scope.{Scope}
use Rattle.il_stacks.specs.declared.slot.StackSlot.{StackSlot}
use Rattle.il_stacks.specs.declared.slot.StackSlot.TheVariants.{Int32, NativeInt, Refs, Pointer}
use Rattle.il_stacks.specs.declared.stack.Stack.{Stack}
use Rattle.il_stacks.specs.declared.stack.Stack.TheVariants.{Slots}
use Rattle.il_stacks.specs.Slots.{joined_slot}
use Rattle.il_verify.specs.VectorRows.{vector_row}
use Rattle.il_verify.specs.Verified.{least_stacks, verified_in}
use Rattle.il_stacks.specs.declared.typing.OffsetStack.{OffsetStack}
use Rattle.il_stacks.specs.declared.typing.Typing.{Typing}

-- ---- scopes and bodies

-- `static int F(int, sbyte)` with the locals `int`, `string`, `int[]`, `nint`, over no assemblies at all
scope : Scope
scope =
    record {
      world = [];
      name = record { owner = Named (id_of 0 2) []; method = record { «module» = 0; row = 1 }; args = [] };
      args = Prim Primitive.I4 ∷ Prim Primitive.I1 ∷ [];
      locals = Prim Primitive.I4 ∷ Prim Primitive.String ∷ Vector (Prim Primitive.I4) ∷ Prim Primitive.I ∷ [];
      result = Prim Primitive.I4;
    }

at : ℕ → ℕ → Op → Operand → Instr
at offset next op operand = record { at = offset; next = next; op = op; operand = operand }

body : List Instr → List Clause → Body
body code clauses = record { max_stack = 2; locals = 0; code = code; clauses = clauses }

finally : ℕ → ℕ → ℕ → ℕ → Clause
finally try_at try_end handler_at handler_end =
    record {
      kind = Finally;
      try_at = try_at;
      try_end = try_end;
      handler_at = handler_at;
      handler_end = handler_end;
      class = 0;
    }

-- what verifying tells of instructions, with clauses or without them
told : List Instr → List Clause → Result Typing ℕ
unfolding scope body least_stacks stacks_by_rounds row_of action_of resolution Types.out-Ty denote.Hole.Carrier.out
told code clauses = verified_in scope (body code clauses)

entry : ℕ × Stack → OffsetStack
entry pair = record { offset = pair.0; stack = pair.1 }

typed : List (ℕ × Stack) → Result Typing ℕ
unfolding entry
typed stacks = Ok (record { stacks = map entry stacks; values = [] })

none : Stack
none = Slots []

-- ---- what is verified

-- a loop: `do { a = a - 1 } while (a != 0); return a`
loop : List Instr
unfolding at
loop =
    at 0 1 Op.Ldarg0 Nothing ∷ at 1 2 Op.LdcI4_1 Nothing ∷ at 2 3 Op.Sub Nothing ∷ at 3 5 Op.StargS (Number (pos 0))
    ∷ at 5 6 Op.Ldarg0 Nothing ∷ at 6 8 Op.BrtrueS (Target 0) ∷ at 8 9 Op.Ldarg0 Nothing ∷ at 9 10 Op.Ret Nothing ∷ []

goes_round : told loop [] ≡ typed ((0, none) ∷ (1, Slots (Int32 ∷ [])) ∷ (2, Slots (Int32 ∷ Int32 ∷ []))
    ∷ (3, Slots (Int32 ∷ [])) ∷ (5, none) ∷ (6, Slots (Int32 ∷ [])) ∷ (8, none) ∷ (9, Slots (Int32 ∷ [])) ∷ [])
unfolding told loop typed none entry
goes_round = refl

-- an int32 with a native int gives a native int, and an int32 may be stored as one
native : List Instr
unfolding at
native =
    at 0 1 Op.Ldarg0 Nothing ∷ at 1 2 Op.Ldloc3 Nothing ∷ at 2 3 Op.Add Nothing ∷ at 3 4 Op.Stloc3 Nothing
    ∷ at 4 5 Op.Ldarg0 Nothing ∷ at 5 6 Op.Stloc3 Nothing ∷ at 6 7 Op.Ldarg1 Nothing ∷ at 7 8 Op.Ret Nothing ∷ []

goes_native : told native [] ≡ typed ((0, none) ∷ (1, Slots (Int32 ∷ [])) ∷ (2, Slots (Int32 ∷ NativeInt ∷ []))
    ∷ (3, Slots (NativeInt ∷ [])) ∷ (4, none) ∷ (5, Slots (Int32 ∷ [])) ∷ (6, none) ∷ (7, Slots (Int32 ∷ [])) ∷ [])
unfolding told native typed none entry
goes_native = refl

-- a finally handler begins empty, and `leave` empties the stack
handled : List Instr
unfolding at
handled =
    at 0 1 Op.Ldarg0 Nothing ∷ at 1 3 Op.LeaveS (Target 4) ∷ at 3 4 Op.Endfinally Nothing ∷ at 4 5 Op.Ldarg0 Nothing
    ∷ at 5 6 Op.Ret Nothing ∷ []

goes_by_handlers : told handled (finally 0 3 3 4 ∷ []) ≡ typed ((0, none) ∷ (1, Slots (Int32 ∷ [])) ∷ (3, none)
    ∷ (4, none) ∷ (5, Slots (Int32 ∷ [])) ∷ [])
unfolding told handled finally typed none entry
goes_by_handlers = refl

-- ---- what fails, and where

-- a third argument
no_argument : told (at 0 1 Op.Ldarg2 Nothing ∷ at 1 2 Op.Ret Nothing ∷ []) [] ≡ Err 0
unfolding told at
no_argument = refl

-- a stack that is too short
too_short : told (at 0 1 Op.LdcI4_1 Nothing ∷ at 1 2 Op.Add Nothing ∷ at 2 3 Op.Ret Nothing ∷ []) [] ≡ Err 1
unfolding told at
too_short = refl

-- stacks of different depths meet
two_depths : told (at 0 1 Op.LdcI4_0 Nothing ∷ at 1 2 Op.Dup Nothing ∷ at 2 4 Op.BrtrueS (Target 0)
    ∷ at 4 5 Op.Ret Nothing ∷ []) [] ≡ Err 0
unfolding told at
two_depths = refl

-- an int64 and an int32 meet where a result is wanted
two_kinds : told (at 0 1 Op.Ldarg0 Nothing ∷ at 1 3 Op.BrtrueS (Target 6) ∷ at 3 4 Op.LdcI4_0 Nothing
    ∷ at 4 6 Op.BrS (Target 15) ∷ at 6 15 Op.LdcI8 (Number (pos 1)) ∷ at 15 16 Op.Ret Nothing ∷ []) [] ≡ Err 15
unfolding told at
two_kinds = refl

-- deeper than the body says
too_deep : told (at 0 1 Op.Ldarg0 Nothing ∷ at 1 2 Op.Dup Nothing ∷ at 2 3 Op.Dup Nothing ∷ at 3 4 Op.Add Nothing
    ∷ at 4 5 Op.Add Nothing ∷ at 5 6 Op.Ret Nothing ∷ []) [] ≡ Err 3
unfolding told at
too_deep = refl

-- an int64 with an int32
no_sum : told (at 0 9 Op.LdcI8 (Number (negsuc 0)) ∷ at 9 10 Op.Ldarg0 Nothing ∷ at 10 11 Op.Add Nothing
    ∷ at 11 12 Op.Ret Nothing ∷ []) [] ≡ Err 10
unfolding told at
no_sum = refl

-- a number left behind by `ret`
left_behind : told (at 0 1 Op.Ldarg0 Nothing ∷ at 1 2 Op.Ldarg0 Nothing ∷ at 2 3 Op.Ret Nothing ∷ []) [] ≡ Err 2
unfolding told at
left_behind = refl

-- `leave` into a handler
into_handler : told (at 0 1 Op.Nop Nothing ∷ at 1 3 Op.LeaveS (Target 3) ∷ at 3 4 Op.Endfinally Nothing ∷ [])
    (finally 0 3 3 4 ∷ []) ≡ Err 1
unfolding told at finally
into_handler = refl

-- out of a try range without `leave`
out_of_try : told (at 0 1 Op.Nop Nothing ∷ at 1 3 Op.BrS (Target 4) ∷ at 3 4 Op.Endfinally Nothing
    ∷ at 4 5 Op.Ldarg0 Nothing ∷ at 5 6 Op.Ret Nothing ∷ []) (finally 0 3 3 4 ∷ []) ≡ Err 1
unfolding told at finally
out_of_try = refl

-- `ret` inside a try range
returns_inside : told (at 0 1 Op.Ldarg0 Nothing ∷ at 1 2 Op.Ret Nothing ∷ at 2 3 Op.Endfinally Nothing ∷ [])
    (finally 0 2 2 3 ∷ []) ≡ Err 1
unfolding told at finally
returns_inside = refl

-- `endfinally` and `rethrow` outside of their handlers
ends_nothing : told (at 0 1 Op.Endfinally Nothing ∷ []) [] ≡ Err 0
unfolding told at
ends_nothing = refl

rethrows_nothing : told (at 0 2 Op.Rethrow Nothing ∷ []) [] ≡ Err 0
unfolding told at
rethrows_nothing = refl

-- `readonly.` in front of another instruction than `ldelema`
no_address : told (at 0 2 Op.Readonly Nothing ∷ at 2 3 Op.Ldarg0 Nothing ∷ at 3 4 Op.Ret Nothing ∷ []) [] ≡ Err 0
unfolding told at
no_address = refl

-- a token that leads to nothing
no_token : told (at 0 5 Op.Newarr (Token 0x02000001) ∷ at 5 6 Op.Ret Nothing ∷ []) [] ≡ Err 0
unfolding told at
no_token = refl

-- ---- operands of single operations

vectors : StackSlot
vectors = Refs (Vector (Prim Primitive.I4) ∷ [])

-- an element is read by its width and kind, whatever its sign
reads_as : Integer → Bool
unfolding scope vectors
reads_as integer = (vector_row scope false (ReadElementAs (Whole integer))).suits (vectors ∷ Int32 ∷ [])

reads_signed : reads_as (Sized Narrow.I4) ≡ true
unfolding reads_as
reads_signed = simp (out-Vector, out-Prim)

reads_unsigned : reads_as (Sized Narrow.U4) ≡ true
unfolding reads_as
reads_unsigned = simp (out-Vector, out-Prim)

reads_no_wider : reads_as (Sized Narrow.I8) ≡ false
unfolding reads_as
reads_no_wider = simp (out-Vector, out-Prim)

reads_no_native : reads_as (Native Signed) ≡ false
unfolding reads_as
reads_no_native = simp (out-Vector, out-Prim)

-- any reference may be stored in an element that is one, and null in any place of a reference
stores_any : (vector_row scope false (WriteElementAs Reference)).suits
    (Refs (Vector (Prim Primitive.String) ∷ []) ∷ NativeInt ∷ Refs (Prim Primitive.Object ∷ []) ∷ []) ≡ true
unfolding scope
stores_any = simp (out-Vector, out-Prim)

stores_null : may_store [] (Refs []) (Prim Primitive.String) ≡ true
unfolding Types.out-Ty denote.Hole.Carrier.out
stores_null = refl

-- pointers are not compared
compares_no_pointers : (branch_row (Compare Equal)).suits
    (Pointer (Prim Primitive.I4) ∷ Pointer (Prim Primitive.I4) ∷ []) ≡ false
compares_no_pointers = refl

-- ---- where two classes meet

x : Ty
x = Named (id_of 0 3) []

y : Ty
y = Named (id_of 0 4) []

x_first : order x y ≡ Less
unfolding x y
x_first =
    let first : order x y ≡ order_step (Ty-F.Named (id_of 0 3) []) y =
    ap (λ f. f y) (fold-Named order_step (id_of 0 3) []) in
    let last : order_step (Ty-F.Named (id_of 0 3) []) y ≡ Less = simp out-Named in
    first ∙ last

-- a reference to one or the other, whichever comes first
x_or_y : joined_slot (Refs (x ∷ [])) (Refs (y ∷ [])) ≡ Refs (x ∷ y ∷ [])
x_or_y = rw x_first refl

-- Which methods have a body that programs here may run: its opcodes, tokens and signatures are among those that are
-- known, and resolve. ECMA-335 II.25.4, III.1.7.
use Rattle.std.specs.Prelude.{ℕ, ◌==◌, ◌&&◌, ◌||◌, nat_le, Bool, true, false, not, List}
use Rattle.std.specs.Prelude.{Option, Some, None, Result, Ok, Err}
use Rattle.std.specs.List.{list_all, list_any}
use Rattle.std.specs.Option.{option_map_or, option_and_then}
use Rattle.il_code.specs.declared.body.Body.{Body}
use Rattle.il_code.specs.declared.body.Clause.{Clause}
use Rattle.il_code.specs.declared.body.ClauseKind.{ClauseKind}
use Rattle.il_code.specs.declared.body.ClauseKind.TheVariants.{Catch, Filter, Finally, Fault}
use Rattle.il_code.specs.declared.body.Instr.{Instr}
use Rattle.il_code.specs.declared.fault.BodyFault.{BodyFault}
use Rattle.il_code.specs.Bodies.{body_of}
use Rattle.il_code.specs.Reach.{falls_through, tries, end_of}
use Rattle.ty_terms.specs.declared.names.MethodId.{MethodId}
use Rattle.ty_terms.specs.declared.names.MethodName.{MethodName}
use Rattle.ty_names.specs.Modules.{World, tables_at, row_at}
use Rattle.il_verify.specs.Actions.{PlaceAction, Text, Handle, SizeOf, Constrained, PointerAction, ReadObject}
use Rattle.il_verify.specs.Actions.{WriteObject, CopyObject, ClearObject, FieldAction, ReadField, AddressOfField}
use Rattle.il_verify.specs.Actions.{WriteField, ReadStatic, AddressOfStatic, WriteStatic, VectorAction, NewVector}
use Rattle.il_verify.specs.Actions.{ReadElement, WriteElement, AddressOfElement, CastAction, Box, Unbox, UnboxAny}
use Rattle.il_verify.specs.Actions.{CastClass, IsInstance, CallAction, Call, CallVirtual, NewObject, Return, Action}
use Rattle.il_verify.specs.Actions.{AtPlaces, OnNumbers, OnBranches, ByPointers, OnFields, OnVectors, ByCasts, ByCalls}
use Rattle.il_verify.specs.Actions.{OnExceptions, Outside, Length, ReadElementAs, WriteElementAs, ReadAs, WriteAs}
use Rattle.il_verify.specs.Flow.{action_at, is_among, reached_offsets}
use Rattle.il_verify.specs.Scope.{Scope, item, scope_of}

-- ---- bodies

abbrev pub if_body : Result Body BodyFault → Option Body
if_body (Ok body) = Some body
if_body (Err fault) = None

-- the bytes of a method's body, if it has CIL
abbrev pub body_bytes : World → MethodId → Option (List ℕ)
body_bytes world id = option_and_then (λ row. row.body) (row_at (tables_at world id.module) 0x06 id.row)

abbrev pub method_body : World → MethodId → Option Body
method_body world id = option_and_then (λ bytes. if_body (body_of bytes)) (body_bytes world id)

-- ---- the token of an operation, if it has one

abbrev pub token_of_place : PlaceAction → Option ℕ
token_of_place (Text token) = Some token
token_of_place (Handle token) = Some token
token_of_place (SizeOf token) = Some token
token_of_place (Constrained token) = Some token
token_of_place _ = None

abbrev pub token_of_pointer : PointerAction → Option ℕ
token_of_pointer (ReadAs access) = None
token_of_pointer (WriteAs access) = None
token_of_pointer (ReadObject token) = Some token
token_of_pointer (WriteObject token) = Some token
token_of_pointer (CopyObject token) = Some token
token_of_pointer (ClearObject token) = Some token

abbrev pub token_of_field : FieldAction → ℕ
token_of_field (ReadField token) = token
token_of_field (AddressOfField token) = token
token_of_field (WriteField token) = token
token_of_field (ReadStatic token) = token
token_of_field (AddressOfStatic token) = token
token_of_field (WriteStatic token) = token

abbrev pub token_of_vector : VectorAction → Option ℕ
token_of_vector (NewVector token) = Some token
token_of_vector Length = None
token_of_vector (ReadElementAs access) = None
token_of_vector (WriteElementAs access) = None
token_of_vector (ReadElement token) = Some token
token_of_vector (WriteElement token) = Some token
token_of_vector (AddressOfElement token) = Some token

abbrev pub token_of_cast : CastAction → ℕ
token_of_cast (Box token) = token
token_of_cast (Unbox token) = token
token_of_cast (UnboxAny token) = token
token_of_cast (CastClass token) = token
token_of_cast (IsInstance token) = token

abbrev pub token_of_call : CallAction → Option ℕ
token_of_call (Call token) = Some token
token_of_call (CallVirtual token) = Some token
token_of_call (NewObject token) = Some token
token_of_call Return = None

abbrev pub token_of : Action → Option ℕ
token_of (AtPlaces action) = token_of_place action
token_of (OnNumbers action) = None
token_of (OnBranches action) = None
token_of (ByPointers action) = token_of_pointer action
token_of (OnFields action) = Some (token_of_field action)
token_of (OnVectors action) = token_of_vector action
token_of (ByCasts action) = Some (token_of_cast action)
token_of (ByCalls action) = token_of_call action
token_of (OnExceptions action) = None
token_of Outside = None

-- ---- inside

abbrev pub is_known : Action → Bool
is_known Outside = false
is_known _ = true

abbrev pub is_there : {A : Type 0} → Option A → Bool
is_there None = false
is_there (Some found) = true

-- what the token of an operation names is there
abbrev pub resolves : Scope → Action → Bool
resolves scope action = option_map_or (λ token. is_there (item scope token)) (token_of action) true

-- control stays inside the code
abbrev pub stays_inside : Body → Instr → Bool
stays_inside body i = not (falls_through i.op && nat_le (end_of body.code) i.next)

abbrev pub is_inside_instruction : Scope → Body → Instr → Bool
is_inside_instruction scope body i =
    is_known (action_at i) && resolves scope (action_at i) && stays_inside body i

abbrev pub is_inside_kind : Scope → Clause → ClauseKind → Bool
is_inside_kind scope clause Catch = is_there (item scope clause.class)
is_inside_kind scope clause Filter = false
is_inside_kind scope clause Finally = true
is_inside_kind scope clause Fault = true

-- A clause by which control comes to its handler: no filter, and what the class of a catch names is there. Where that
-- is no type, the handler's first instruction fails.
abbrev pub is_inside_clause : Scope → List ℕ → Clause → Bool
is_inside_clause scope offsets clause =
    not (list_any (λ offset. tries offset clause) offsets) || is_inside_kind scope clause clause.kind

abbrev pub is_inside_scope : Body → Scope → Bool
is_inside_scope body scope =
    let offsets : List ℕ = reached_offsets body in
    not (end_of body.code == 0)
    && list_all (λ i. not (is_among offsets i.at) || is_inside_instruction scope body i) body.code
    && list_all (is_inside_clause scope offsets) body.clauses

-- a method is inside by its body where its signature and locals resolve, and all that control comes to is known
unfoldable pub is_inside : World → MethodName → Body → Bool
is_inside world name body = option_map_or (is_inside_scope body) (scope_of world name body) false

-- What rows give lists types in rising order.
use Rattle.std.proofs.Common.{◌≡◌, refl, ℕ, Bool, true, false, not, ◌&&◌, cond, List, [], ◌∷◌, map, Option}
use Rattle.std.proofs.Common.{Some, None}
use Rattle.std.specs.Prelude.{codes}
use Rattle.std.specs.List.{list_all, flat_map}
use Rattle.std.specs.Option.{option_map_or, option_and_then}
use Rattle.std.proofs.lemmas.Bool.{and_from}
use Rattle.num_core.specs.declared.kind.Narrow.TheVariants.{I1, U1, I2, U2, I4, U4, I8, U8}
use Rattle.ty_terms.specs.declared.ty.Ty.{Ty}
use Rattle.ty_load.specs.declared.item.Item.{Item}
use Rattle.ty_load.specs.declared.item.Item.TheVariants.{OfType, OfMethod, OfField, OfText}
use Rattle.ty_load.specs.Types.{is_void}
use Rattle.ty_names.specs.Modules.{World}
use Rattle.il_code.specs.declared.body.Body.{Body}
use Rattle.il_code.specs.declared.body.Clause.{Clause}
use Rattle.il_code.specs.declared.body.ClauseKind.{ClauseKind}
use Rattle.il_code.specs.declared.body.ClauseKind.TheVariants.{Catch, Filter, Finally, Fault}
use Rattle.il_code.specs.declared.body.Instr.{Instr}
use Rattle.il_stacks.specs.declared.effect.Effect.{Effect}
use Rattle.il_stacks.specs.declared.effect.Results.{Results}
use Rattle.il_stacks.specs.declared.effect.Results.TheVariants.{Always, ReferenceBehind}
use Rattle.il_stacks.specs.declared.slot.StackSlot.{StackSlot}
use Rattle.il_stacks.specs.declared.slot.StackSlot.TheVariants.{Conflict, Pointer, View}
use Rattle.il_stacks.specs.Bounds.{are_sound, slots_of_effect, slots_of_handler, slots_of_results, slots_of_step}
use Rattle.il_stacks.specs.BoundLaws.{all_append}
use Rattle.il_stacks.specs.Slots.{is_rising_slot}
use Rattle.il_verify.specs.Actions.{Integer, Sized, Native, Whole, Reference}
use Rattle.il_verify.specs.Actions.{PlaceAction, Quiet, Twice, Drop, Read, Write, AddressOf, Number32, Number64, Null}
use Rattle.il_verify.specs.Actions.{Text, Handle, SizeOf, Constrained, Readonly}
use Rattle.il_verify.specs.Actions.{NumberAction, Combine, Shift, Negate, Complement, Convert, ConvertChecked}
use Rattle.il_verify.specs.Actions.{BranchAction, Compare, Go, GoUnlessZero, GoIfZero, GoComparing, GoAmong}
use Rattle.il_verify.specs.Actions.{PointerAction, ReadAs, WriteAs, ReadObject, WriteObject, CopyObject, ClearObject}
use Rattle.il_verify.specs.Actions.{FieldAction, ReadField, AddressOfField, WriteField, ReadStatic, AddressOfStatic}
use Rattle.il_verify.specs.Actions.{WriteStatic, VectorAction, NewVector, Length, ReadElementAs, WriteElementAs}
use Rattle.il_verify.specs.Actions.{ReadElement, WriteElement, AddressOfElement, CastAction, Box, Unbox, UnboxAny}
use Rattle.il_verify.specs.Actions.{CastClass, IsInstance, CallAction, Call, CallVirtual, NewObject, Return}
use Rattle.il_verify.specs.Actions.{ExceptionAction, Throw, Rethrow, EndFinally, Leave, Action, AtPlaces, OnNumbers}
use Rattle.il_verify.specs.Actions.{OnBranches, ByPointers, OnFields, OnVectors, ByCasts, ByCalls, OnExceptions}
use Rattle.il_verify.specs.Actions.{Outside}
use Rattle.il_verify.specs.BranchRows.{branch_row}
use Rattle.il_verify.specs.CallRows.{Prefix, call_action_row, new_row, param_tests}
use Rattle.il_verify.specs.CallRows.{result_of, virtual_receiver, virtual_row, is_readonly}
use Rattle.il_verify.specs.CastRows.{cast_row}
use Rattle.il_verify.specs.FieldRows.{field_row}
use Rattle.il_verify.specs.Flow.{action_at, caught_by, caught_slot, effect_of, effect_of_row, handler_of}
use Rattle.il_verify.specs.Flow.{handlers_of_body, reached_offsets, row_at, step_of, steps_of, prefix_at}
use Rattle.il_verify.specs.Kinds.{Content, Number, Object, Compound, Pointing, NoContent, content_of, is_reference}
use Rattle.il_verify.specs.Kinds.{is_value, slot_of, slot_of_content, slot_of_integer}
use Rattle.il_verify.specs.NumberRows.{number_row}
use Rattle.il_verify.specs.PlaceRows.{handle, handle_of, place_row, type_of_place}
use Rattle.il_verify.specs.PointerRows.{pointer_row}
use Rattle.il_verify.specs.Row.{Row, giving, taking}
use Rattle.il_verify.specs.Rows.{exception_row, row_of}
use Rattle.il_verify.specs.Scope.{Scope, instance_field, is_constructor, item, method_token, static_field}
use Rattle.il_verify.specs.Scope.{system}
use Rattle.il_verify.specs.Scope.{text_token, type_token}
use Rattle.il_verify.specs.VectorRows.{element_address, vector_row}

-- ---- slots

abbrev AreRisingResults : Results → Type 0
AreRisingResults results = list_all is_rising_slot (slots_of_results results) ≡ true

abbrev IsSound : Row → Type 0
IsSound row = AreRisingResults row.gives

rising_integer : (integer : Integer) → is_rising_slot (slot_of_integer integer) ≡ true
rising_integer (Sized I1) = refl
rising_integer (Sized U1) = refl
rising_integer (Sized I2) = refl
rising_integer (Sized U2) = refl
rising_integer (Sized I4) = refl
rising_integer (Sized U4) = refl
rising_integer (Sized I8) = refl
rising_integer (Sized U8) = refl
rising_integer (Native sign) = refl

rising_content : (ty : Ty) (content : Content) → is_rising_slot (slot_of_content ty content) ≡ true
rising_content ty (Number integer) = rising_integer integer
rising_content ty Object = refl
rising_content ty (Compound value) = refl
rising_content ty (Pointing target) = refl
rising_content ty NoContent = refl

always : (slot : StackSlot) → is_rising_slot slot ≡ true → AreRisingResults (Always slot)
always slot h = and_from (is_rising_slot slot) true h refl

always_of : (world : World) (ty : Ty) → AreRisingResults (Always (slot_of world ty))
always_of world ty = always (slot_of world ty) (rising_content ty (content_of world ty))

-- ---- rows that go by what is there

either : {A : Type 0} (o : Option A) (row : A → Row) (otherwise : Row) → ((a : A) → IsSound (row a))
    → IsSound otherwise → IsSound (option_map_or row o otherwise)
either None row otherwise h h' = h'
either (Some a) row otherwise h h' = h a

either_results : (t : Bool) (results others : Results) → AreRisingResults results → AreRisingResults others
    → AreRisingResults (cond t results others)
either_results true results others h h' = h
either_results false results others h h' = h'

either_row : (t : Bool) (row other : Row) → IsSound row → IsSound other → IsSound (cond t row other)
either_row true row other h h' = h
either_row false row other h h' = h'

-- ---- the groups

handle_sound : (scope : Scope) (name : List ℕ) → IsSound (handle scope name)
handle_sound scope name =
    either (system scope.world name) (λ ty. giving (slot_of scope.world ty)) (giving Conflict)
    (λ ty. always_of scope.world ty) refl

place_sound : (scope : Scope) (action : PlaceAction) → IsSound (place_row scope action)
place_sound scope Quiet = refl
place_sound scope Twice = refl
place_sound scope Drop = refl
place_sound scope (Read place) = either (type_of_place scope place) _ _ (λ ty. always_of scope.world ty) refl
place_sound scope (Write place) = either (type_of_place scope place) _ _ (λ ty. refl) refl
place_sound scope (AddressOf place) = either (type_of_place scope place) _ _ (λ ty. refl) refl
place_sound scope (Number32 n) = refl
place_sound scope (Number64 n) = refl
place_sound scope Null = refl
place_sound scope (Text token) = either (text_token scope token) _ _ (λ units. refl) refl
place_sound scope (Handle token) = either (item scope token) (handle_of scope) _ by refl
  where
    by : (found : Item) → IsSound (handle_of scope found)
    by (OfType ty) = handle_sound scope (codes "RuntimeTypeHandle")
    by (OfField name) = handle_sound scope (codes "RuntimeFieldHandle")
    by (OfMethod name) = refl
    by (OfText units) = refl
place_sound scope (SizeOf token) = either (type_token scope token) _ _ (λ ty. refl) refl
place_sound scope (Constrained token) = either (type_token scope token) _ _ (λ ty. refl) refl
place_sound scope Readonly = refl

number_sound : (action : NumberAction) → IsSound (number_row action)
number_sound (Combine operation) = refl
number_sound (Shift operation) = refl
number_sound Negate = refl
number_sound Complement = refl
number_sound (Convert to) = always (slot_of_integer to) (rising_integer to)
number_sound (ConvertChecked sign to) = always (slot_of_integer to) (rising_integer to)

branch_sound : (action : BranchAction) → IsSound (branch_row action)
branch_sound (Compare comparison) = refl
branch_sound (Go target) = refl
branch_sound (GoUnlessZero target) = refl
branch_sound (GoIfZero target) = refl
branch_sound (GoComparing comparison target) = refl
branch_sound (GoAmong targets) = refl

pointer_sound : (scope : Scope) (action : PointerAction) → IsSound (pointer_row scope action)
pointer_sound scope (ReadAs (Whole integer)) = always (slot_of_integer integer) (rising_integer integer)
pointer_sound scope (ReadAs Reference) = refl
pointer_sound scope (WriteAs access) = refl
pointer_sound scope (ReadObject token) =
    either (type_token scope token) _ _
    (λ ty. either_results (is_reference scope.world ty) ReferenceBehind (Always (slot_of scope.world ty)) refl
    (always_of scope.world ty)) refl
pointer_sound scope (WriteObject token) = either (type_token scope token) _ _ (λ ty. refl) refl
pointer_sound scope (CopyObject token) = either (type_token scope token) _ _ (λ ty. refl) refl
pointer_sound scope (ClearObject token) = either (type_token scope token) _ _ (λ ty. refl) refl

field_sound : (scope : Scope) (action : FieldAction) → IsSound (field_row scope action)
field_sound scope (ReadField token) =
    either (instance_field scope token) _ _ (λ member. always_of scope.world member.ty) refl
field_sound scope (AddressOfField token) = either (instance_field scope token) _ _ (λ member. refl) refl
field_sound scope (WriteField token) = either (instance_field scope token) _ _ (λ member. refl) refl
field_sound scope (ReadStatic token) =
    either (static_field scope token) _ _ (λ member. always_of scope.world member.ty) refl
field_sound scope (AddressOfStatic token) = either (static_field scope token) _ _ (λ member. refl) refl
field_sound scope (WriteStatic token) = either (static_field scope token) _ _ (λ member. refl) refl

rising_address : (t : Bool) (ty : Ty) → is_rising_slot (cond t (View ty) (Pointer ty)) ≡ true
rising_address true ty = refl
rising_address false ty = refl

vector_sound : (scope : Scope) (readonly : Bool) (action : VectorAction) → IsSound (vector_row scope readonly action)
vector_sound scope readonly (NewVector token) = either (type_token scope token) _ _ (λ ty. refl) refl
vector_sound scope readonly Length = refl
vector_sound scope readonly (ReadElementAs (Whole integer)) =
    always (slot_of_integer integer) (rising_integer integer)
vector_sound scope readonly (ReadElementAs Reference) = refl
vector_sound scope readonly (WriteElementAs access) = refl
vector_sound scope readonly (ReadElement token) =
    either (type_token scope token) _ _ (λ ty. always_of scope.world ty) refl
vector_sound scope readonly (WriteElement token) = either (type_token scope token) _ _ (λ ty. refl) refl
vector_sound scope readonly (AddressOfElement token) =
    either (type_token scope token) _ _
    (λ ty. always (element_address scope.world readonly ty)
    (rising_address (readonly && is_reference scope.world ty) ty)) refl

cast_sound : (scope : Scope) (action : CastAction) → IsSound (cast_row scope action)
cast_sound scope (Box token) = either (type_token scope token) _ _ (λ ty. refl) refl
cast_sound scope (Unbox token) =
    either (type_token scope token) _ _ (λ ty. either_row (is_value scope.world ty) _ _ refl refl) refl
cast_sound scope (UnboxAny token) =
    either (type_token scope token) _ _ (λ ty. always_of scope.world ty) refl
cast_sound scope (CastClass token) = either (type_token scope token) _ _ (λ ty. refl) refl
cast_sound scope (IsInstance token) = either (type_token scope token) _ _ (λ ty. refl) refl

-- ---- calls, which may have no row

abbrev pub IfSound : Option Row → Type 0
IfSound None = Unit {0}
IfSound (Some row) = IsSound row

result_sound : (world : World) (ty : Ty) → AreRisingResults (result_of world ty)
result_sound world ty = either_results (is_void ty) _ (Always (slot_of world ty)) refl (always_of world ty)

called : {A : Type 0} (o : Option A) (row : A → Option Row) → ((a : A) → IfSound (row a))
    → IfSound (option_and_then row o)
called None row h = tt
called (Some a) row h = h a

either_call : (t : Bool) (row other : Option Row) → IfSound row → IfSound other → IfSound (cond t row other)
either_call true row other h h' = h
either_call false row other h h' = h'

call_sound : (scope : Scope) (prefix : Prefix) (action : CallAction) → IfSound (call_action_row scope prefix action)
call_sound scope prefix (Call token) =
    called (method_token scope token) _ (λ callee. result_sound scope.world callee.result)
call_sound scope prefix (CallVirtual token) =
    called (method_token scope token) (virtual_row scope.world prefix)
    (λ callee. either_call callee.is_static None
    (Some (taking (virtual_receiver scope.world prefix callee.name.owner ∷ param_tests scope.world callee.params)
    (result_of scope.world callee.result)))
    tt (result_sound scope.world callee.result))
call_sound scope prefix (NewObject token) =
    called (method_token scope token) (new_row scope.world)
    (λ callee. either_call
    (is_constructor scope.world callee.name && not callee.is_static && is_void callee.result)
    (Some (taking (param_tests scope.world callee.params) (Always (slot_of scope.world callee.name.owner)))) None
    (always_of scope.world callee.name.owner) tt)
call_sound scope prefix Return = either_call (is_void scope.result) _ _ refl refl

exception_sound : (action : ExceptionAction) → IsSound (exception_row action)
exception_sound Throw = refl
exception_sound Rethrow = refl
exception_sound EndFinally = refl
exception_sound (Leave target) = refl

-- ---- all rows

row_sound : (scope : Scope) (prefix : Prefix) (action : Action) → IfSound (row_of scope prefix action)
unfolding row_of
row_sound scope prefix (AtPlaces action) = place_sound scope action
row_sound scope prefix (OnNumbers action) = number_sound action
row_sound scope prefix (OnBranches action) = branch_sound action
row_sound scope prefix (ByPointers action) = pointer_sound scope action
row_sound scope prefix (OnFields action) = field_sound scope action
row_sound scope prefix (OnVectors action) = vector_sound scope (is_readonly prefix) action
row_sound scope prefix (ByCasts action) = cast_sound scope action
row_sound scope prefix (ByCalls action) = call_sound scope prefix action
row_sound scope prefix (OnExceptions action) = exception_sound action
row_sound scope prefix Outside = tt

abbrev IsSoundEffect : Effect → Type 0
IsSoundEffect effect = list_all is_rising_slot (slots_of_effect effect) ≡ true

effect_row_sound : (row : Option Row) → IfSound row → IsSoundEffect (effect_of_row row)
effect_row_sound None h = refl
effect_row_sound (Some row) h = h

effect_sound : (action : Action) (row : Option Row) → IfSound row → IsSoundEffect (effect_of action row)
effect_sound (AtPlaces action) row h = effect_row_sound row h
effect_sound (OnNumbers action) row h = effect_row_sound row h
effect_sound (OnBranches action) row h = effect_row_sound row h
effect_sound (ByPointers action) row h = effect_row_sound row h
effect_sound (OnFields action) row h = effect_row_sound row h
effect_sound (OnVectors action) row h = effect_row_sound row h
effect_sound (ByCasts action) row h = effect_row_sound row h
effect_sound (ByCalls action) row h = effect_row_sound row h
effect_sound (OnExceptions Throw) row h = effect_row_sound row h
effect_sound (OnExceptions Rethrow) row h = effect_row_sound row h
effect_sound (OnExceptions EndFinally) row h = effect_row_sound row h
effect_sound (OnExceptions (Leave target)) row h = refl
effect_sound Outside row h = effect_row_sound row h

steps_sound : (scope : Scope) (body : Body) (offsets : List ℕ) (code : List Instr)
    → list_all is_rising_slot (flat_map slots_of_step (map (step_of scope body offsets) code)) ≡ true
steps_sound scope body offsets [] = refl
steps_sound scope body offsets (i ∷ code) =
    all_append is_rising_slot (slots_of_step (step_of scope body offsets i))
    (flat_map slots_of_step (map (step_of scope body offsets) code))
    (effect_sound (action_at i) (row_at scope body offsets i)
    (row_sound scope (prefix_at scope body offsets i.at) (action_at i)))
    (steps_sound scope body offsets code)

caught_sound : (o : Option Ty) → is_rising_slot (caught_slot o) ≡ true
caught_sound None = refl
caught_sound (Some ty) = refl

entry_sound : (scope : Scope) (clause : Clause) (kind : ClauseKind)
    → list_all is_rising_slot (option_map_or (λ slot. slot ∷ []) (caught_by scope clause kind) []) ≡ true
entry_sound scope clause Catch =
    always (caught_slot (type_token scope clause.class)) (caught_sound (type_token scope clause.class))
entry_sound scope clause Filter = refl
entry_sound scope clause Finally = refl
entry_sound scope clause Fault = refl

handlers_sound : (scope : Scope) (clauses : List Clause)
    → list_all is_rising_slot (flat_map slots_of_handler (map (handler_of scope) clauses)) ≡ true
handlers_sound scope [] = refl
handlers_sound scope (clause ∷ clauses) =
    all_append is_rising_slot (slots_of_handler (handler_of scope clause))
    (flat_map slots_of_handler (map (handler_of scope) clauses)) (entry_sound scope clause clause.kind)
    (handlers_sound scope clauses)

pub all_sound : (scope : Scope) (body : Body) → are_sound (steps_of scope body) (handlers_of_body scope body) ≡ true
all_sound scope body =
    all_append is_rising_slot (flat_map slots_of_step (steps_of scope body))
    (flat_map slots_of_handler (handlers_of_body scope body))
    (steps_sound scope body (reached_offsets body) body.code) (handlers_sound scope body.clauses)

-- Calls and returns, and initializers: ECMA-335 I.12.4.1, III.2.1, III.3.19, III.3.57, III.4.2, III.4.21, II.10.5.3.
use Rattle.std.specs.Prelude.{ℕ, ◌-◌, ◌==◌, ◌&&◌, ◌||◌, Bool, true, false, not, if◌then◌else◌, List, [], ◌∷◌}
use Rattle.std.specs.Prelude.{is_some, find, length, map, zip, Option, Some, None}
use Rattle.std.specs.Option.{option_map_or, option_and_then}
use Rattle.num_core.specs.Bits.{low_bits}
use Rattle.core_lib.specs.declared.runtime.RuntimeCall.{RuntimeCall}
use Rattle.ty_terms.specs.declared.names.MethodName.{MethodName}
use Rattle.ty_terms.specs.declared.ty.Ty.{Ty}
use Rattle.ty_names.specs.Modules.{World, tables_at}
use Rattle.ty_names.specs.Definitions.{is_virtual}
use Rattle.ty_load.specs.Members.{same_type}
use Rattle.il_verify.specs.Actions.{CallAction, Call, CallVirtual, NewObject, Return}
use Rattle.il_verify.specs.CallRows.{Prefix, Unprefixed, ConstrainedTo, ReadonlyAddress}
use Rattle.il_verify.specs.Kinds.{is_value}
use Rattle.il_verify.specs.Raises.{NullReference}
use Rattle.il_verify.specs.Scope.{Scope, Callee, callee_of, method_token}
use Rattle.cil_world.specs.Contents.{box_bytes, class_bytes, object_fields, stored, zero_of}
use Rattle.cil_world.specs.Did.{Did, Raises, Moves, Triggers, Finishes, Ends, Cannot, on_some, pushes_frame}
use Rattle.ty_slots.specs.Implementations.{implementation}
use Rattle.cil_world.specs.Entering.{Entry, HeapBound, Unchecked, entry, entry_of_running, has_room, may_lay_out}
use Rattle.cil_world.specs.Entering.{next_object, with_object, triggers}
use Rattle.cil_world.specs.ObjectSteps.{type_of_object, read_at}
use Rattle.cil_world.specs.RuntimeSteps.{runtime_call, runtime_step}
use Rattle.cil_world.specs.State.{CilState, Frame, Running, Setting, Code, Initializes, Makes, Invokes, Making, Fields}
use Rattle.cil_world.specs.State.{Boxed, NewObject as ForObject, NewValue, new_frame, with_frames, change_top}
use Rattle.cil_world.specs.State.{waits_for, pushes, at_offset, returned_at}
use Rattle.cil_world.specs.Values.{Value, Reference, Null, Made, Pointer, Nowhere, At, NewValueOf, BoxedIn}

-- ---- frames

-- values as places of these types keep them
abbrev pub kept : World → List Ty → List Value → List Value
kept world types values = map (λ item. stored world item.0 item.1) (zip types values)

abbrev pub method_frame : World → MethodName → Entry → List Value → Frame
method_frame world name found args =
    new_frame (Code name) (kept world found.scope.args args) (map (zero_of world) found.scope.locals)

-- ---- entering a method

abbrev pub enters_entry : World → Setting → CilState → MethodName → List Value → Option Entry → Did
enters_entry world setting state name args None = Ends Unchecked
enters_entry world setting state name args (Some found) =
    pushes_frame world setting state (method_frame world name found args)

abbrev pub enters_or : World → Setting → CilState → MethodName → List Value → Option RuntimeCall → Did
enters_or world setting state name args (Some call) = runtime_step setting world state call args
enters_or world setting state name args None = enters_entry world setting state name args (entry world name)

-- a method is called with these values: a call of the runtime is done at once, any other method gets a frame
abbrev pub enters : World → Setting → CilState → MethodName → List Value → Did
enters world setting state name args = enters_or world setting state name args (runtime_call world name)

abbrev pub enters_unless : Bool → World → Setting → CilState → Callee → List Value → Did
enters_unless true world setting state callee args = Triggers callee.name.owner
enters_unless false world setting state callee args = enters world setting state callee.name args

-- the initializer of the method's type first, where the call triggers it
abbrev pub calls : World → Setting → CilState → Bool → Callee → List Value → Did
calls world setting state again callee args =
    enters_unless (not again && triggers world state callee) world setting state callee args

abbrev pub calls_name : World → Setting → CilState → Bool → List Value → Option Callee → Did
calls_name world setting state again args None = Ends Unchecked
calls_name world setting state again args (Some callee) = calls world setting state again callee args

-- a call of the runtime, or a method that may get a frame; this is asked before anything is charged
abbrev pub may_enter : World → MethodName → Bool
may_enter world name = is_some (runtime_call world name) || is_some (entry world name)

-- ---- calls through slots

abbrev pub is_virtual_method : World → MethodName → Bool
is_virtual_method world name = is_virtual (tables_at world name.method.module) name.method.row

-- a value type's method gets a pointer to the boxed value
abbrev pub receiver_for : World → CilState → MethodName → Reference → Value
receiver_for world state name (Made n) =
    if is_value world name.owner then Value.Address (At (BoxedIn n) [] name.owner) else Value.Object (Made n)
receiver_for world state name reference = Value.Object reference

abbrev pub dispatched : World → Setting → CilState → Bool → Reference → List Value → Option MethodName → Did
dispatched world setting state again reference args None = Ends Unchecked
dispatched world setting state again reference args (Some name) =
    calls_name world setting state again (receiver_for world state name reference ∷ args) (callee_of world name)

-- the method that the object's type gives for the slot; one that isn't virtual is called itself
abbrev pub target_on : World → CilState → MethodName → Reference → Option MethodName
target_on world state name reference =
    if is_virtual_method world name
    then option_and_then (λ ty. implementation world ty name) (type_of_object world state reference)
    else Some name

abbrev pub calls_on : World → Setting → CilState → Bool → MethodName → Reference → List Value → Did
calls_on world setting state again name Null args = Raises state NullReference
calls_on world setting state again name reference args =
    dispatched world setting state again reference args (target_on world state name reference)

-- ---- `constrained.` (III.2.1): null, the initializer, what can't be entered or laid out, the heap, the stack

abbrev pub boxed_call : Bool → World → Setting → CilState → MethodName → Ty → Value → List Value → Did
boxed_call false world setting state name ty value args = Ends HeapBound
boxed_call true world setting state name ty value args =
    enters world setting (with_object ty (Boxed value) (box_bytes world ty) state) name
    (receiver_for world state name (next_object state) ∷ args)

abbrev pub boxes_and_calls : World → Setting → CilState → MethodName → Ty → List Value → Value → Did
boxes_and_calls world setting state name ty args value =
    if may_lay_out world ty && may_enter world name
    then boxed_call (has_room setting state (box_bytes world ty)) world setting state name ty value args
    else Ends Unchecked

abbrev pub boxes_unless : Bool → World → Setting → CilState → Callee → Ty → Pointer → List Value → Did
boxes_unless true world setting state callee ty pointer args = Triggers callee.name.owner
boxes_unless false world setting state callee ty pointer args =
    on_some (read_at world state (Some pointer)) (boxes_and_calls world setting state callee.name ty args)

-- the type's own method by the pointer, and any other on a box
abbrev pub own_or_boxed : World → Setting → CilState → Bool → Ty → Pointer → List Value → Callee → Did
own_or_boxed world setting state again ty pointer args callee =
    if same_type callee.name.owner ty
    then calls world setting state again callee (Value.Address pointer ∷ args)
    else boxes_unless (not again && triggers world state callee) world setting state callee ty pointer args

abbrev pub calls_on_value : World → Setting → CilState → Bool → Ty → Pointer → List Value → Option Callee → Did
calls_on_value world setting state again ty pointer args None = Ends Unchecked
calls_on_value world setting state again ty pointer args (Some callee) =
    own_or_boxed world setting state again ty pointer args callee

abbrev pub own_target : World → MethodName → Ty → Option MethodName
own_target world name ty = if is_virtual_method world name then implementation world ty name else Some name

abbrev pub calls_behind : World → Setting → CilState → Bool → MethodName → List Value → Option Value → Did
calls_behind world setting state again name args (Some (Value.Object reference)) =
    calls_on world setting state again name reference args
calls_behind world setting state again name args _ = Cannot

-- on a value type its own method is called by the pointer, and any other on a box; on a reference the object's method
abbrev pub calls_constrained : World → Setting → CilState → Bool → MethodName → Ty → Pointer → List Value → Did
calls_constrained world setting state again name ty Nowhere args = Raises state NullReference
calls_constrained world setting state again name ty pointer args =
    if is_value world ty
    then calls_on_value world setting state again ty pointer args
    (option_and_then (callee_of world) (own_target world name ty))
    else calls_behind world setting state again name args (read_at world state (Some pointer))

abbrev pub virtual_call : World → Setting → CilState → Bool → Prefix → Callee → List Value → Did
virtual_call world setting state again (ConstrainedTo (Some ty)) callee (Value.Address pointer ∷ args) =
    calls_constrained world setting state again callee.name ty pointer args
virtual_call world setting state again Unprefixed callee (Value.Object reference ∷ args) =
    calls_on world setting state again callee.name reference args
virtual_call world setting state again ReadonlyAddress callee (Value.Object reference ∷ args) =
    calls_on world setting state again callee.name reference args
virtual_call world setting state again prefix callee args = Cannot

-- ---- `newobj`: the initializer, the heap, the stack

abbrev pub new_in_heap : Bool → World → Setting → CilState → Callee → List Value → Did
new_in_heap false world setting state callee args = Ends HeapBound
new_in_heap true world setting state callee args =
    let ty : Ty = callee.name.owner in
    let object : Reference = next_object state in
    enters world setting
    (change_top (waits_for (Some (ForObject object)))
    (with_object ty (Fields (map (zero_of world) (object_fields world ty))) (class_bytes world ty) state))
    callee.name (Value.Object object ∷ args)

-- a value is made in the frame that waits
abbrev pub new_value : World → Setting → CilState → Callee → List Value → Did
new_value world setting state callee args =
    let ty : Ty = callee.name.owner in
    enters world setting (change_top (waits_for (Some (NewValue (zero_of world ty)))) state) callee.name
    (Value.Address (At (NewValueOf (length state.frames - 1)) [] ty) ∷ args)

abbrev pub makes : World → Setting → CilState → Callee → List Value → Did
makes world setting state callee args =
    if not (may_lay_out world callee.name.owner && may_enter world callee.name) then Ends Unchecked
    else if is_value world callee.name.owner then new_value world setting state callee args
    else new_in_heap (has_room setting state (class_bytes world callee.name.owner)) world setting state callee args

abbrev pub makes_unless : Bool → World → Setting → CilState → Callee → List Value → Did
makes_unless true world setting state callee args = Triggers callee.name.owner
makes_unless false world setting state callee args = makes world setting state callee args

-- ---- returns

abbrev pub status_of : List Value → ℕ
status_of (Value.Int32 n ∷ []) = low_bits 8 n
status_of _ = 0

-- what is pushed where a call returns: the object or the value that was made, or the result
abbrev pub results : Option Making → List Value → List Value
results (Some (ForObject object)) result = Value.Object object ∷ []
results (Some (NewValue value)) result = value ∷ []
results None result = result

abbrev pub next_in : ℕ → Option Entry → ℕ
next_in offset None = offset
next_in offset (Some found) =
    option_map_or (λ i. i.next) (find (λ i. i.at == offset) found.body.code) offset

abbrev pub next_of_call : World → Frame → ℕ
next_of_call world frame = next_in frame.offset (entry_of_running world frame.runs)

abbrev pub resumed : World → List Value → Frame → Frame
resumed world result frame =
    waits_for None (at_offset (next_of_call world frame) (pushes (results frame.making result) frame))

abbrev pub returns_to : World → List Value → Running → Frame → Frame
returns_to world result (Code name) frame = resumed world result frame
returns_to world result (Initializes ty resumes) frame = at_offset returned_at frame
returns_to world result (Makes ty) frame = at_offset returned_at frame
returns_to world result (Invokes name) frame = at_offset returned_at (pushes result frame)

abbrev pub return_below : World → CilState → List Value → List Frame → Did
return_below world state result [] = Finishes (status_of result)
return_below world state result (frame ∷ below) =
    Moves (with_frames (returns_to world result frame.runs frame ∷ below) state)

abbrev pub below_top : List Frame → List Frame
below_top [] = []
below_top (top ∷ below) = below

-- the top frame is left; the entry's ends the program with the low byte of its result, or with 0
abbrev pub return_step : World → CilState → Ty → List Value → Did
return_step world state ty result =
    return_below world state (kept world (ty ∷ []) result) (below_top state.frames)

abbrev pub call_step : Setting → Scope → CilState → Bool → Prefix → CallAction → List Value → Did
call_step setting scope state again prefix (Call token) args =
    on_some (method_token scope token) (λ callee. calls scope.world setting state again callee args)
call_step setting scope state again prefix (CallVirtual token) args =
    on_some (method_token scope token) (λ callee. virtual_call scope.world setting state again prefix callee args)
call_step setting scope state again prefix (NewObject token) args =
    on_some (method_token scope token) (λ callee.
    makes_unless (not again && triggers scope.world state callee) scope.world setting state callee args)
call_step setting scope state again prefix Return args = return_step scope.world state scope.result args

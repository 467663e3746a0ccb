-- Starts, calls, constructors and returns, once what they look up is known.
use Rattle.std.proofs.Common.{◌≡◌, ◌∙◌, ℕ, ◌+◌, ap, true, false, Bool, List, [], ◌∷◌, Option, Some, None, map}
use Rattle.std.specs.Prelude.{◌&&◌, ◌||◌, not, nat_le, if◌then◌else◌, is_some}
use Rattle.std.specs.Option.{option_map_or}
use Rattle.num_core.specs.Run.{Running as Goes, Streams}
use Rattle.ty_terms.specs.declared.names.MethodName.{MethodName}
use Rattle.ty_terms.specs.declared.ty.Ty.{Ty}
use Rattle.ty_names.specs.Modules.{World}
use Rattle.ty_load.specs.Entry.{entry_of}
use Rattle.il_verify.specs.Kinds.{is_value}
use Rattle.il_verify.specs.Scope.{Callee, callee_of}
use Rattle.cil_world.specs.CallSteps.{calls, enters, enters_entry, enters_or, enters_unless, makes, makes_unless}
use Rattle.cil_world.specs.CallSteps.{method_frame, new_in_heap, new_value, next_in, results, resumed}
use Rattle.cil_world.specs.Contents.{class_bytes, object_fields, zero_of}
use Rattle.cil_world.specs.Did.{Did, Moves, Triggers, Ends, pushed, pushed_if}
use Rattle.cil_world.specs.Entering.{Entry, Unchecked, bytes_of_frames, bytes_of_running, entry, entry_of_running}
use Rattle.cil_world.specs.Entering.{has_room, has_stack, may_lay_out, next_object, stub_bytes, triggers, with_object}
use Rattle.cil_world.specs.RuntimeSteps.{runtime_call}
use Rattle.cil_world.specs.State.{CilState, Fields, Frame, NewObject, Setting, Code, at_offset, change_top, pushes}
use Rattle.cil_world.specs.State.{waits_for}
use Rattle.cil_world.specs.Step.{CilRun, begins_callee, begins_entry, begins_in, begins_name, cil_start, entry_args}
use Rattle.cil_world.specs.Step.{no_frames, pushes_stub}
use Rattle.cil_world.specs.Values.{Value, Reference}

-- ---- the bytes of frames

pub runs_by : (world : World) (name : MethodName) (found : Entry) → entry world name ≡ Some found
    → bytes_of_running world (Code name) ≡ found.bytes
runs_by world name found is = ap (λ e. option_map_or (λ f. f.bytes) e 0) is

pub uses_by : (world : World) (frame : Frame) (below : List Frame) (bytes rest : ℕ)
    → bytes_of_running world frame.runs ≡ bytes
    → bytes_of_frames world below ≡ rest
    → bytes_of_frames world (frame ∷ below) ≡ bytes + rest
uses_by world frame below bytes rest takes take =
    ap (λ n. n + bytes_of_frames world below) takes ∙ ap (λ n. bytes + n) take

pub stack_has : (world : World) (setting : Setting) (frames : List Frame) (name : MethodName) (used bytes : ℕ)
    → bytes_of_frames world frames ≡ used
    → bytes_of_running world (Code name) ≡ bytes
    → nat_le (used + bytes) setting.bounds.stack ≡ true
    → has_stack world setting frames (bytes_of_running world (Code name)) ≡ true
stack_has world setting frames name used bytes take takes room =
    ap (λ n. nat_le (n + bytes_of_running world (Code name)) setting.bounds.stack) take
    ∙ ap (λ n. nat_le (used + n) setting.bounds.stack) takes
    ∙ room

-- ---- calls

pub enters_by : (world : World) (setting : Setting) (state : CilState) (name : MethodName) (args : List Value)
    (found : Entry)
    → runtime_call world name ≡ None
    → entry world name ≡ Some found
    → has_stack world setting state.frames (bytes_of_running world (Code name)) ≡ true
    → enters world setting state name args ≡ Moves (pushed (method_frame world name found args) state)
enters_by world setting state name args found none has room =
    ap (enters_or world setting state name args) none
    ∙ ap (enters_entry world setting state name args) has
    ∙ ap (λ t. pushed_if t (method_frame world name found args) state) room

pub calls_by : (world : World) (setting : Setting) (state : CilState) (callee : Callee) (args : List Value) (did : Did)
    → triggers world state callee ≡ false
    → enters world setting state callee.name args ≡ did
    → calls world setting state false callee args ≡ did
calls_by world setting state callee args did quiet enters_so =
    ap (λ t. enters_unless (true && t) world setting state callee args) quiet ∙ enters_so

-- ---- constructors of classes

-- the state in which an object was made for the frame that waits
abbrev pub with_made : CilState → Ty → List Value → ℕ → CilState
with_made state ty fields bytes =
    change_top (waits_for (Some (NewObject (next_object state)))) (with_object ty (Fields fields) bytes state)

pub makes_by : (world : World) (setting : Setting) (state : CilState) (callee : Callee) (args : List Value)
    (found : Entry) (bytes : ℕ) (fields : List Value)
    → may_lay_out world callee.name.owner ≡ true
    → runtime_call world callee.name ≡ None
    → entry world callee.name ≡ Some found
    → is_value world callee.name.owner ≡ false
    → class_bytes world callee.name.owner ≡ bytes
    → has_room setting state bytes ≡ true
    → map (zero_of world) (object_fields world callee.name.owner) ≡ fields
    → has_stack world setting (with_made state callee.name.owner fields bytes).frames
    (bytes_of_running world (Code callee.name)) ≡ true
    → makes world setting state callee args
    ≡ Moves (pushed (method_frame world callee.name found (Value.Object (next_object state) ∷ args))
    (with_made state callee.name.owner fields bytes))
makes_by world setting state callee args found bytes fields lays none has class takes room zeros stack =
    let owner : Ty = callee.name.owner in
    let name : MethodName = callee.name in
    let begins : List Value → ℕ → Did =
    λ f b. enters world setting (with_made state owner f b) name (Value.Object (next_object state) ∷ args) in
    let lain : Did = if is_value world owner then new_value world setting state callee args
    else new_in_heap (has_room setting state (class_bytes world owner)) world setting state callee args in
    ap (λ t. if not (t && (is_some (runtime_call world name) || is_some (entry world name))) then Ends Unchecked
    else lain) lays
    ∙ ap (λ r. if not (true && (is_some r || is_some (entry world name))) then Ends Unchecked else lain) none
    ∙ ap (λ e. if not (true && (false || is_some e)) then Ends Unchecked else lain) has
    ∙ ap (λ t. if t then new_value world setting state callee args
    else new_in_heap (has_room setting state (class_bytes world owner)) world setting state callee args) class
    ∙ ap (λ b. new_in_heap (has_room setting state b) world setting state callee args) takes
    ∙ ap (λ t. new_in_heap t world setting state callee args) room
    ∙ ap (λ b. begins (map (zero_of world) (object_fields world owner)) b) takes
    ∙ ap (λ f. begins f bytes) zeros
    ∙ enters_by world setting (with_made state owner fields bytes) name (Value.Object (next_object state) ∷ args)
    found none has stack

pub makes_unless_by : (world : World) (setting : Setting) (state : CilState) (callee : Callee) (args : List Value)
    (did : Did)
    → triggers world state callee ≡ false
    → makes world setting state callee args ≡ did
    → makes_unless (not false && triggers world state callee) world setting state callee args ≡ did
makes_unless_by world setting state callee args did quiet makes_so =
    ap (λ t. makes_unless (true && t) world setting state callee args) quiet ∙ makes_so

-- ---- returns

pub resumes_by : (world : World) (result : List Value) (frame : Frame) (found : Entry) (next : ℕ)
    → entry_of_running world frame.runs ≡ Some found
    → next_in frame.offset (Some found) ≡ next
    → resumed world result frame ≡ waits_for None (at_offset next (pushes (results frame.making result) frame))
resumes_by world result frame found next has goes =
    let on : ℕ → Frame = λ n. waits_for None (at_offset n (pushes (results frame.making result) frame)) in
    ap (λ e. on (next_in frame.offset e)) has ∙ ap on goes

-- ---- starts

pub starts_by : (world : World) (setting : Setting) (input : List ℕ) (name : MethodName) (callee : Callee)
    (found : Entry)
    → entry_of world ≡ Some name
    → callee_of world name ≡ Some callee
    → entry world callee.name ≡ Some found
    → has_stack world setting [] found.bytes ≡ true
    → triggers world (pushed (method_frame world callee.name found (entry_args callee.params)) no_frames) callee
    ≡ false
    → cil_start world setting input
    ≡ Goes (pushed (method_frame world callee.name found (entry_args callee.params)) no_frames)
    (record { input = input; output = []; error = [] })
unfolding cil_start
starts_by world setting input name callee found begins called has room quiet =
    let streams : Streams = record { input = input; output = []; error = [] } in
    let state : CilState = pushed (method_frame world callee.name found (entry_args callee.params)) no_frames in
    ap (begins_name world setting streams) begins
    ∙ ap (begins_callee world setting streams) called
    ∙ ap (begins_entry world setting callee streams) has
    ∙ ap (λ t. begins_in t world setting callee found streams) room
    ∙ ap (λ t. if t then pushes_stub (has_stack world setting state.frames stub_bytes) callee.name.owner false state
    streams else Goes state streams) quiet

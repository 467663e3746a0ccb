-- Reading and writing places: ECMA-335 I.12.1.1.2, I.12.3.2.2, II.16.3.2.
use Rattle.std.specs.Prelude.{ℕ, List, slice_get, slice_set, Option, Some, None}
use Rattle.std.specs.Option.{option_map, option_and_then}
use Rattle.ty_terms.specs.declared.names.FieldName.{FieldName}
use Rattle.ty_terms.specs.declared.ty.Ty.{Ty}
use Rattle.ty_names.specs.Modules.{World}
use Rattle.cil_world.specs.Contents.{stored}
use Rattle.cil_world.specs.State.{Holding, Fields, Elements, Boxed, Made, Making, NewValue}
use Rattle.cil_world.specs.State.{CilState, frame_at, change_frame, changed_at, static_in, with_static}
use Rattle.cil_world.specs.Statics.{first_static}
use Rattle.cil_world.specs.Values.{Value, Root, ArgumentOf, LocalOf, NewValueOf, FieldOf, ElementOf, BoxedIn, StaticOf}
use Rattle.cil_world.specs.Values.{inside, with_inside}

-- ---- roots

abbrev pub field_held : ℕ → Holding → Option Value
field_held n (Fields values) = slice_get values n
field_held n _ = None

abbrev pub element_held : ℕ → Holding → Option Value
element_held n (Elements values) = slice_get values n
element_held n _ = None

abbrev pub value_held : Holding → Option Value
value_held (Boxed value) = Some value
value_held _ = None

abbrev pub in_object : (Holding → Option Value) → CilState → ℕ → Option Value
in_object part state object = option_and_then (λ made. part made.holds) (slice_get state.objects object)

abbrev pub value_made : Option Making → Option Value
value_made (Some (NewValue value)) = Some value
value_made _ = None

abbrev pub static_or : World → FieldName → Option Value → Option Value
static_or world name (Some value) = Some value
static_or world name None = first_static world name

-- a static that wasn't written holds what it begins with
abbrev pub read_root : World → CilState → Root → Option Value
read_root world state (ArgumentOf frame n) =
    option_and_then (λ found. slice_get found.args n) (frame_at state.frames frame)
read_root world state (LocalOf frame n) =
    option_and_then (λ found. slice_get found.locals n) (frame_at state.frames frame)
read_root world state (NewValueOf frame) =
    option_and_then (λ found. value_made found.making) (frame_at state.frames frame)
read_root world state (FieldOf object n) = in_object (field_held n) state object
read_root world state (ElementOf object n) = in_object (element_held n) state object
read_root world state (BoxedIn object) = in_object value_held state object
read_root world state (StaticOf name) = static_or world name (static_in state.statics name)

abbrev pub with_field_held : ℕ → Value → Holding → Holding
with_field_held n value (Fields values) = Fields (slice_set values n value)
with_field_held n value holds = holds

abbrev pub with_element_held : ℕ → Value → Holding → Holding
with_element_held n value (Elements values) = Elements (slice_set values n value)
with_element_held n value holds = holds

abbrev pub with_value_held : Value → Holding → Holding
with_value_held value (Boxed old) = Boxed value
with_value_held value holds = holds

abbrev pub change_held : (Holding → Holding) → Made → Made
change_held change made = record made { holds = change made.holds }

abbrev pub change_object : ℕ → (Holding → Holding) → CilState → CilState
change_object object change state =
    record state { objects = changed_at object (change_held change) state.objects }

abbrev pub with_value_made : Value → Option Making → Option Making
with_value_made value (Some (NewValue old)) = Some (NewValue value)
with_value_made value making = making

abbrev pub write_root : Root → Value → CilState → CilState
write_root (ArgumentOf frame n) value state =
    change_frame frame (λ found. record found { args = slice_set found.args n value }) state
write_root (LocalOf frame n) value state =
    change_frame frame (λ found. record found { locals = slice_set found.locals n value }) state
write_root (NewValueOf frame) value state =
    change_frame frame (λ found. record found { making = with_value_made value found.making }) state
write_root (FieldOf object n) value state = change_object object (with_field_held n value) state
write_root (ElementOf object n) value state = change_object object (with_element_held n value) state
write_root (BoxedIn object) value state = change_object object (with_value_held value) state
write_root (StaticOf name) value state = with_static name value state

-- ---- places

-- what stands at a place
abbrev pub read_place : World → CilState → Root → List ℕ → Option Value
read_place world state root path = option_and_then (inside path) (read_root world state root)

-- a value stored at a place of a type
abbrev pub write_place : World → Root → List ℕ → Ty → Value → CilState → Option CilState
write_place world root path ty value state =
    option_map (λ whole. write_root root (with_inside path whole (stored world ty value)) state)
    (read_root world state root)

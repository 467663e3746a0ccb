-- Constants and places, numbers, compare and branch, and what stands behind pointers: ECMA-335 III.3, III.4.
use Rattle.std.specs.Prelude.{ℕ, pos, Bool, true, false, if◌then◌else◌, List, [], ◌∷◌, slice_get, Option, Some, None}
use Rattle.ty_terms.specs.declared.ty.Ty.{Ty}
use Rattle.ty_load.specs.declared.item.Item.{Item}
use Rattle.ty_load.specs.declared.item.Item.TheVariants.{OfType, OfField}
use Rattle.ty_names.specs.Modules.{World}
use Rattle.il_verify.specs.Actions.{Place, Argument, Local, PlaceAction, Quiet, Twice, Drop, Read, Write, AddressOf}
use Rattle.il_verify.specs.Actions.{Number32, Number64, Null, Text, Handle, SizeOf, Constrained, Readonly, Access}
use Rattle.il_verify.specs.Actions.{Whole, Reference, BranchAction, Compare, Go, GoUnlessZero, GoIfZero}
use Rattle.il_verify.specs.Actions.{GoComparing, GoAmong, PointerAction, ReadAs, WriteAs, ReadObject, WriteObject}
use Rattle.il_verify.specs.Actions.{CopyObject, ClearObject, NumberAction}
use Rattle.il_verify.specs.Kinds.{is_value}
use Rattle.il_verify.specs.PlaceRows.{type_of_place}
use Rattle.il_verify.specs.Raises.{NullReference}
use Rattle.il_verify.specs.Scope.{Scope, item, type_token, text_token}
use Rattle.cil_world.specs.Arithmetic.{number_result}
use Rattle.cil_world.specs.Comparisons.{holds, is_zero_or_null, truth, chosen}
use Rattle.cil_world.specs.Contents.{cut, size_of, zero_of}
use Rattle.cil_world.specs.Did.{Did, Gives, GoesTo, Raises, Ends, Cannot, given, given_if, written_if, given_or_raised}
use Rattle.cil_world.specs.Did.{on_none, on_one, on_two, on_pointer, on_some}
use Rattle.cil_world.specs.Entering.{Unchecked, may_lay_out}
use Rattle.cil_world.specs.Places.{read_place, write_place}
use Rattle.cil_world.specs.State.{CilState, Frame}
use Rattle.cil_world.specs.Values.{Value, Root, ArgumentOf, LocalOf, Pointer, Nowhere, At, TypeOf, TextOf, Lying}
use Rattle.cil_world.specs.Values.{Null as NullReference_, and, none}

-- ---- constants and places, in the frame of a number, counted from the bottom

abbrev pub root_of : ℕ → Place → Root
root_of number (Argument n) = ArgumentOf number n
root_of number (Local n) = LocalOf number n

abbrev pub value_in : Frame → Place → Option Value
value_in frame (Argument n) = slice_get frame.args n
value_in frame (Local n) = slice_get frame.locals n

abbrev pub written_at : Scope → CilState → ℕ → Place → Value → Did
written_at scope state number place value =
    on_some (type_of_place scope place) (λ ty.
    written_if (write_place scope.world (root_of number place) [] ty value state))

abbrev pub address_at : Scope → CilState → ℕ → Place → Did
address_at scope state number place =
    on_some (type_of_place scope place) (λ ty. given state (Value.Address (At (root_of number place) [] ty)))

-- the handle of a type holds its Type, and that of a field says whose bytes it names
abbrev pub handle_of : CilState → Option Item → Did
handle_of state (Some (OfType ty)) = given state (Value.Compound (and (Value.Object (Lying (TypeOf ty))) none))
handle_of state (Some (OfField name)) = given state (Value.Compound (and (Value.BytesOf name) none))
handle_of state _ = Cannot

-- 8 bytes for a reference type, which isn't laid out
abbrev pub size_if : Bool → World → CilState → Ty → Did
size_if false world state ty = Ends Unchecked
size_if true world state ty = given state (Value.Int32 (pos (size_of world ty)))

abbrev pub size_given : World → CilState → Ty → Did
size_given world state ty =
    if is_value world ty then size_if (may_lay_out world ty) world state ty else given state (Value.Int32 (pos 8))

abbrev pub place_step : Scope → CilState → ℕ → Frame → PlaceAction → List Value → Did
place_step scope state number frame Quiet operands = on_none operands (Gives state [])
place_step scope state number frame Twice operands = on_one operands (λ value. Gives state (value ∷ value ∷ []))
place_step scope state number frame Drop operands = on_one operands (λ value. Gives state [])
place_step scope state number frame (Read place) operands = on_none operands (given_if state (value_in frame place))
place_step scope state number frame (Write place) operands = on_one operands (written_at scope state number place)
place_step scope state number frame (AddressOf place) operands =
    on_none operands (address_at scope state number place)
place_step scope state number frame (Number32 n) operands = on_none operands (given state (Value.Int32 n))
place_step scope state number frame (Number64 n) operands = on_none operands (given state (Value.Int64 n))
place_step scope state number frame Null operands = on_none operands (given state (Value.Object NullReference_))
place_step scope state number frame (Text token) operands =
    on_none operands (on_some (text_token scope token) (λ units. given state (Value.Object (Lying (TextOf units)))))
place_step scope state number frame (Handle token) operands =
    on_none operands (handle_of state (item scope token))
place_step scope state number frame (SizeOf token) operands =
    on_none operands (on_some (type_token scope token) (size_given scope.world state))
place_step scope state number frame (Constrained token) operands = on_none operands (Gives state [])
place_step scope state number frame Readonly operands = on_none operands (Gives state [])

-- ---- numbers

abbrev pub number_step : CilState → NumberAction → List Value → Did
number_step state action operands = given_or_raised state (number_result action operands)

-- ---- compare and branch; `next` is the offset of the instruction behind

abbrev pub compared : CilState → Option Bool → Did
compared state None = Cannot
compared state (Some is) = given state (truth is)

abbrev pub goes_if : CilState → ℕ → ℕ → Option Bool → Did
goes_if state target next None = Cannot
goes_if state target next (Some true) = GoesTo state target
goes_if state target next (Some false) = GoesTo state next

abbrev pub goes_to : CilState → ℕ → Option (Option ℕ) → Did
goes_to state next None = Cannot
goes_to state next (Some None) = GoesTo state next
goes_to state next (Some (Some target)) = GoesTo state target

abbrev pub branch_step : CilState → ℕ → BranchAction → List Value → Did
branch_step state next (Compare comparison) operands = on_two operands (λ a b. compared state (holds comparison a b))
branch_step state next (Go target) operands = on_none operands (GoesTo state target)
branch_step state next (GoUnlessZero target) operands =
    on_one operands (λ a. goes_if state next target (is_zero_or_null a))
branch_step state next (GoIfZero target) operands =
    on_one operands (λ a. goes_if state target next (is_zero_or_null a))
branch_step state next (GoComparing comparison target) operands =
    on_two operands (λ a b. goes_if state target next (holds comparison a b))
branch_step state next (GoAmong targets) operands = on_one operands (λ a. goes_to state next (chosen targets a))

-- ---- behind pointers; on a null pointer NullReference is raised

-- a value as an opcode reads it: a small number by the opcode's width and sign
abbrev pub as_read : Access → Value → Value
as_read (Whole integer) value = cut integer value
as_read Reference value = value

abbrev pub read_as : Access → CilState → Option Value → Did
read_as access state None = Cannot
read_as access state (Some value) = given state (as_read access value)

abbrev pub read_pointer : World → CilState → Access → Pointer → Did
read_pointer world state access Nowhere = Raises state NullReference
read_pointer world state access (At root path ty) = read_as access state (read_place world state root path)

abbrev pub read_object : World → CilState → Pointer → Did
read_object world state Nowhere = Raises state NullReference
read_object world state (At root path ty) = given_if state (read_place world state root path)

abbrev pub write_pointer : World → CilState → Pointer → Value → Did
write_pointer world state Nowhere value = Raises state NullReference
write_pointer world state (At root path ty) value = written_if (write_place world root path ty value state)

abbrev pub copied : World → CilState → Pointer → Option Value → Did
copied world state to None = Cannot
copied world state to (Some value) = write_pointer world state to value

abbrev pub copy_pointer : World → CilState → Pointer → Pointer → Did
copy_pointer world state Nowhere from = Raises state NullReference
copy_pointer world state to Nowhere = Raises state NullReference
copy_pointer world state to (At root path ty) = copied world state to (read_place world state root path)

abbrev pub clear_pointer : World → CilState → Pointer → Did
clear_pointer world state Nowhere = Raises state NullReference
clear_pointer world state (At root path ty) = written_if (write_place world root path ty (zero_of world ty) state)

abbrev pub pointer_step : World → CilState → PointerAction → List Value → Did
pointer_step world state (ReadAs access) operands =
    on_one operands (λ from. on_pointer from (read_pointer world state access))
pointer_step world state (WriteAs access) operands =
    on_two operands (λ to value. on_pointer to (λ pointer. write_pointer world state pointer value))
pointer_step world state (ReadObject token) operands =
    on_one operands (λ from. on_pointer from (read_object world state))
pointer_step world state (WriteObject token) operands =
    on_two operands (λ to value. on_pointer to (λ pointer. write_pointer world state pointer value))
pointer_step world state (CopyObject token) operands =
    on_two operands (λ to from. on_pointer to (λ target. on_pointer from (copy_pointer world state target)))
pointer_step world state (ClearObject token) operands =
    on_one operands (λ to. on_pointer to (clear_pointer world state))

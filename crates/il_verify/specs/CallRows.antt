-- Calls and returns: ECMA-335 III.2.1, III.3.19, III.3.57, III.4.2, III.4.21.
use Rattle.std.specs.Prelude.{Bool, true, false, ◌&&◌, not, if◌then◌else◌, List, [], ◌∷◌, map, Option, Some, None}
use Rattle.std.specs.Option.{option_and_then}
use Rattle.ty_terms.specs.declared.ty.Ty.{Ty}
use Rattle.ty_names.specs.Modules.{World}
use Rattle.il_stacks.specs.Types.{same_type}
use Rattle.ty_load.specs.Types.{is_void}
use Rattle.il_verify.specs.Actions.{CallAction, Call, CallVirtual, NewObject, Return}
use Rattle.il_verify.specs.FieldRows.{leads_to, are_objects_of}
use Rattle.il_verify.specs.Kinds.{fits, slot_of, may_store}
use Rattle.il_verify.specs.Row.{Row, Test, taking}
use Rattle.il_verify.specs.Scope.{Scope, Callee, method_token, is_constructor}
use Rattle.il_stacks.specs.declared.effect.Results.{Results}
use Rattle.il_stacks.specs.declared.effect.Results.TheVariants.{Nothing, Always}
use Rattle.il_stacks.specs.declared.slot.StackSlot.{StackSlot}
use Rattle.il_stacks.specs.declared.slot.StackSlot.TheVariants.{Pointer, View}

-- what stands right in front of an instruction
pub data Prefix : Type 0 where
  Unprefixed : Prefix
  -- `constrained.` of the type that its token leads to, if it does
  ConstrainedTo : Option Ty → Prefix
  ReadonlyAddress : Prefix

abbrev pub is_readonly : Prefix → Bool
is_readonly ReadonlyAddress = true
is_readonly _ = false

abbrev pub result_of : World → Ty → Results
result_of world ty = if is_void ty then Nothing else Always (slot_of world ty)

abbrev pub param_test : World → Ty → Test
param_test world ty slot = may_store world slot ty

abbrev pub param_tests : World → List Ty → List Test
param_tests world types = map (param_test world) types

-- a pointer, or a view, of exactly the type, which boxed fits the owner of the method
abbrev pub is_constrained : World → Ty → Ty → StackSlot → Bool
is_constrained world ty owner (Pointer other) = same_type other ty && fits world ty owner
is_constrained world ty owner (View other) = same_type other ty && fits world ty owner
is_constrained world ty owner _ = false

-- the object on which a method is called through its slot
abbrev pub virtual_receiver : World → Prefix → Ty → Test
virtual_receiver world (ConstrainedTo None) owner slot = false
virtual_receiver world (ConstrainedTo (Some ty)) owner slot = is_constrained world ty owner slot
virtual_receiver world Unprefixed owner slot = are_objects_of world owner slot
virtual_receiver world ReadonlyAddress owner slot = are_objects_of world owner slot

abbrev pub call_tests : World → Callee → List Test
call_tests world callee =
    if callee.is_static then param_tests world callee.params
    else leads_to world callee.name.owner ∷ param_tests world callee.params

abbrev pub call_row : World → Callee → Row
call_row world callee = taking (call_tests world callee) (result_of world callee.result)

-- a method of an object
abbrev pub virtual_row : World → Prefix → Callee → Option Row
virtual_row world prefix callee =
    if callee.is_static then None
    else Some (taking (virtual_receiver world prefix callee.name.owner ∷ param_tests world callee.params)
    (result_of world callee.result))

-- a constructor, which gives nothing itself; the object or the value is the result
abbrev pub new_row : World → Callee → Option Row
new_row world callee =
    if is_constructor world callee.name && not callee.is_static && is_void callee.result
    then Some (taking (param_tests world callee.params) (Always (slot_of world callee.name.owner)))
    else None

-- there is no row where the token names no such method: then nothing is known of how much it takes
abbrev pub call_action_row : Scope → Prefix → CallAction → Option Row
call_action_row scope prefix (Call token) =
    option_and_then (λ callee. Some (call_row scope.world callee)) (method_token scope token)
call_action_row scope prefix (CallVirtual token) =
    option_and_then (virtual_row scope.world prefix) (method_token scope token)
call_action_row scope prefix (NewObject token) = option_and_then (new_row scope.world) (method_token scope token)
call_action_row scope prefix Return =
    if is_void scope.result then Some (taking [] Nothing)
    else Some (taking (param_test scope.world scope.result ∷ []) Nothing)

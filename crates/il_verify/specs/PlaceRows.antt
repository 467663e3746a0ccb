-- Constants and places: ECMA-335 III.3.33, III.3.38 to III.3.40, III.3.43 to III.3.45, III.3.54, III.3.61, III.3.63,
-- III.4.16, III.4.17, III.4.25.
use Rattle.std.specs.Prelude.{ℕ, List, [], ◌∷◌, codes, slice_get, Option}
use Rattle.std.specs.Option.{option_map_or}
use Rattle.ty_terms.specs.declared.ty.Primitive.TheVariants.{String}
use Rattle.ty_terms.specs.declared.ty.Ty.{Ty}
use Rattle.ty_terms.specs.declared.ty.Ty.TheVariants.{Prim}
use Rattle.ty_load.specs.declared.item.Item.{Item}
use Rattle.ty_load.specs.declared.item.Item.TheVariants.{OfType, OfMethod, OfField, OfText}
use Rattle.il_verify.specs.Actions.{Place, Argument, Local, PlaceAction, Quiet, Twice, Drop, Read, Write, AddressOf}
use Rattle.il_verify.specs.Actions.{Number32, Number64, Null, Text, Handle, SizeOf, Constrained, Readonly}
use Rattle.il_verify.specs.Kinds.{slot_of, may_store}
use Rattle.il_verify.specs.Row.{Row, is_any, taking, giving, never, misnamed}
use Rattle.il_verify.specs.Scope.{Scope, item, type_token, text_token, system}
use Rattle.il_stacks.specs.declared.effect.Results.{Results}
use Rattle.il_stacks.specs.declared.effect.Results.TheVariants.{Nothing, Always}
use Rattle.il_stacks.specs.declared.slot.StackSlot.TheVariants.{Int32, Int64, Refs, Pointer, Conflict}

-- the type of an argument or a local, if it is there
abbrev pub type_of_place : Scope → Place → Option Ty
type_of_place scope (Argument n) = slice_get scope.args n
type_of_place scope (Local n) = slice_get scope.locals n

-- a row that goes by the type of a place; one that isn't there is a wrong operand
abbrev pub at_place : Scope → Place → Row → (Ty → Row) → Row
at_place scope place otherwise row = option_map_or row (type_of_place scope place) otherwise

abbrev pub by_type : Scope → ℕ → Row → (Ty → Row) → Row
by_type scope token otherwise row = option_map_or row (type_token scope token) otherwise

-- the handle of a type or of a field, which is a value (III.4.17)
abbrev pub handle : Scope → List ℕ → Row
handle scope name = option_map_or (λ ty. giving (slot_of scope.world ty)) (system scope.world name) (giving Conflict)

abbrev pub handle_of : Scope → Item → Row
handle_of scope (OfType ty) = handle scope (codes "RuntimeTypeHandle")
handle_of scope (OfField name) = handle scope (codes "RuntimeFieldHandle")
handle_of scope (OfMethod name) = misnamed 0 (Always Conflict)
handle_of scope (OfText units) = misnamed 0 (Always Conflict)

abbrev pub place_row : Scope → PlaceAction → Row
place_row scope Quiet = taking [] Nothing
place_row scope Twice = taking (is_any ∷ []) Results.Twice
place_row scope Drop = taking (is_any ∷ []) Nothing
place_row scope (Read place) =
    at_place scope place (never 0 (Always Conflict)) (λ ty. giving (slot_of scope.world ty))
place_row scope (Write place) =
    at_place scope place (never 1 Nothing) (λ ty. taking ((λ slot. may_store scope.world slot ty) ∷ []) Nothing)
place_row scope (AddressOf place) = at_place scope place (never 0 (Always Conflict)) (λ ty. giving (Pointer ty))
place_row scope (Number32 n) = giving Int32
place_row scope (Number64 n) = giving Int64
place_row scope Null = giving (Refs [])
place_row scope (Text token) =
    option_map_or (λ units. giving (Refs (Prim String ∷ []))) (text_token scope token) (misnamed 0 (Always Conflict))
place_row scope (Handle token) = option_map_or (handle_of scope) (item scope token) (misnamed 0 (Always Conflict))
place_row scope (SizeOf token) = by_type scope token (misnamed 0 (Always Conflict)) (λ ty. giving Int32)
place_row scope (Constrained token) = by_type scope token (misnamed 0 Nothing) (λ ty. taking [] Nothing)
place_row scope Readonly = taking [] Nothing

-- The method at which a program begins: II.15.4.1.2.
use Rattle.std.specs.Prelude.{ℕ, ◌/◌, ◌%◌, ◌^◌, ◌==◌, ◌&&◌, nat_le, Bool, true, false, not, if◌then◌else◌, List}
use Rattle.std.specs.Prelude.{[]}
use Rattle.std.specs.Prelude.{◌∷◌, Option, Some, None, Result, Ok}
use Rattle.ty_terms.specs.declared.names.MethodName.{MethodName}
use Rattle.ty_terms.specs.declared.ty.Primitive.TheVariants.{Void, I4, String}
use Rattle.ty_terms.specs.declared.ty.Ty.{Ty}
use Rattle.ty_terms.specs.declared.ty.Ty.TheOpen.{Ty-F}
use Rattle.ty_terms.specs.declared.ty.Ty.TheViews.{out-Ty}
use Rattle.md_sigs.specs.declared.fault.SigFault.{SigFault}
use Rattle.md_sigs.specs.declared.sig.Sig.{Sig}
use Rattle.md_sigs.specs.declared.sig.MethodSig.{MethodSig}
use Rattle.md_tables.specs.declared.module.Table.{Table}
use Rattle.ty_names.specs.Modules.{World, tables_at, row_count}
use Rattle.ty_names.specs.Definitions.{generic_count, owner_of_method, is_static, method_blob}
use Rattle.ty_names.specs.References.{id_of}
use Rattle.ty_load.specs.Primitives.{type_of}
use Rattle.md_sigs.specs.Signatures.{signature}
use Rattle.ty_load.specs.Types.{resolved_type, resolved_result}

-- int32 or void
abbrev pub is_status_layer : {A : Type 0} → Ty-F A → Bool
is_status_layer (Ty-F.Prim I4) = true
is_status_layer (Ty-F.Prim Void) = true
is_status_layer _ = false

abbrev pub is_string_layer : {A : Type 0} → Ty-F A → Bool
is_string_layer (Ty-F.Prim String) = true
is_string_layer _ = false

abbrev pub is_words_layer : Ty-F Ty → Bool
is_words_layer (Ty-F.Vector element) = is_string_layer (out-Ty element)
is_words_layer _ = false

abbrev pub passes : (Ty → Bool) → Option Ty → Bool
passes test None = false
passes test (Some ty) = test ty

-- no parameter, or one that is a vector of strings
abbrev pub takes_words : World → List Ty → Bool
takes_words world [] = true
takes_words world (param ∷ []) = passes (λ ty. is_words_layer (out-Ty ty)) (resolved_type world 0 0 0 param)
takes_words world (param ∷ (next ∷ rest)) = false

abbrev pub begins_program : World → MethodSig → Bool
begins_program world sig =
    not sig.instance && sig.generic == 0 && takes_words world sig.params
    && passes (λ ty. is_status_layer (out-Ty ty)) (resolved_result world 0 0 0 sig.result)

abbrev pub is_entry_sig : World → Result Sig SigFault → Bool
is_entry_sig world (Ok (Sig.Method sig)) = begins_program world sig
is_entry_sig world _ = false

-- a token's table is in its highest byte (III.1.9)
abbrev pub token_table : ℕ → ℕ
token_table token = token / 2 ^ 24

abbrev pub token_row : ℕ → ℕ
token_row token = token % 2 ^ 24

-- a static method without parameters of its own, in a type without them, that takes nothing or words and gives nothing
-- or a status
abbrev pub is_entry_row : World → List Table → ℕ → Option ℕ → Bool
is_entry_row world tables row None = false
is_entry_row world tables row (Some owner) =
    is_static tables row && generic_count tables 0x06 row == 0 && generic_count tables 0x02 owner == 0
    && is_entry_sig world (signature 0 (method_blob tables row))

abbrev pub entry_name : World → ℕ → ℕ → MethodName
entry_name world row owner =
    record { owner = type_of world (id_of 0 owner) []; method = record { «module» = 0; row = row }; args = [] }

abbrev pub entry_at : World → ℕ → Option ℕ → Option MethodName
entry_at world row None = None
entry_at world row (Some owner) =
    if is_entry_row world (tables_at world 0) row (Some owner) then Some (entry_name world row owner) else None

abbrev pub entry_by_token : World → ℕ → Option MethodName
entry_by_token world token =
    if token_table token == 0x06 && nat_le 1 (token_row token)
    && nat_le (token_row token) (row_count (tables_at world 0) 0x06)
    then entry_at world (token_row token) (owner_of_method (tables_at world 0) (token_row token)) else None

-- The method at which a program begins, if the first module's entry token is one.
abbrev pub entry_of : World → Option MethodName
entry_of [] = None
entry_of (main ∷ rest) = entry_by_token (main ∷ rest) main.entry

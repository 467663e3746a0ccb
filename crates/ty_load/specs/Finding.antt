-- Methods by their names and signatures, of a type and the types under which it stands.
use Rattle.std.specs.Prelude.{ℕ, zero, suc, ◌+◌, ◌*◌, ◌/◌, ◌%◌, ◌^◌, ◌==◌, Bool, false, if◌then◌else◌, List, [], ◌∷◌}
use Rattle.std.specs.Prelude.{length, map, Option, Some, None, Result, Ok, unwrap_or}
use Rattle.std.specs.List.{range_with_len}
use Rattle.std.specs.Option.{option_map}
use Rattle.std.specs.Str.{bytes_eq}
use Rattle.md_sigs.specs.Signatures.{signature}
use Rattle.md_sigs.specs.declared.sig.Sig.{Sig}
use Rattle.md_sigs.specs.declared.sig.MethodSig.{MethodSig}
use Rattle.ty_terms.specs.declared.names.MethodName.{MethodName}
use Rattle.ty_terms.specs.declared.names.TypeId.{TypeId}
use Rattle.ty_terms.specs.declared.ty.Ty.{Ty}
use Rattle.ty_terms.specs.declared.ty.Ty.TheVariants.{MVar}
use Rattle.ty_terms.specs.declared.ty.Ty.TheOpen.{Ty-F}
use Rattle.ty_terms.specs.declared.ty.Ty.TheFolds.{fold-Ty}
use Rattle.ty_terms.specs.Subst.{substituted}
use Rattle.ty_names.specs.Modules.{World, tables_at}
use Rattle.ty_names.specs.Definitions.{generic_count, methods_of, method_name, method_blob}
use Rattle.ty_load.specs.declared.fault.ResolveFault.{ResolveFault}
use Rattle.ty_load.specs.Primitives.{type_of, definition_of}
use Rattle.ty_load.specs.Types.{table_of_tag, indexed}
use Rattle.ty_load.specs.Cycles.{all_ids}
use Rattle.ty_load.specs.Members.{method_sig, same_sig, sig_with}
use Rattle.ty_load.specs.Refusals.{refused_name, token_text}
use Rattle.ty_load.specs.Tokens.{read_then, and_then, or_unresolved, method_named}
use Rattle.ty_load.specs.Walks.{own_variables, arguments, base_type}

-- ---- what is told of a signature of a method that leads to nothing

-- whether an index in a signature leads to a definition that has so many parameters
abbrev pub has_parameters : World → ℕ → Option TypeId → Bool
has_parameters world count None = false
has_parameters world count (Some id) = generic_count (tables_at world id.module) 0x02 id.row == count

abbrev pub first_some : {A : Type 0} → List (Option A) → Option A
first_some [] = None
first_some (None ∷ rest) = first_some rest
first_some (Some item ∷ rest) = Some item

abbrev pub failing_step : World → ℕ → Ty-F (Option (List ℕ)) → Option (List ℕ)
failing_step world number (Ty-F.Named id args) =
    if has_parameters world (length args) (indexed world number id.row) then first_some args
    else Some (refused_name world number (table_of_tag (id.row % 4) * 2 ^ 24 + id.row / 4))
failing_step world number (Ty-F.Vector element) = element
failing_step world number (Ty-F.ByRef target) = target
failing_step world number _ = None

-- the first index in a type that leads to nothing, by the name that is told of its token
abbrev pub failing : World → ℕ → Ty → Option (List ℕ)
failing world number = fold-Ty (Option (List ℕ)) (failing_step world number)

-- of a method's signature, the result in front of the parameters; where no index fails, the method's token
abbrev pub sig_name : World → ℕ → ℕ → Sig → List ℕ
sig_name world number row (Sig.Method sig) =
    unwrap_or (first_some (map (failing world number) (sig.result ∷ sig.params))) (token_text (0x06 * 2 ^ 24 + row))
sig_name world number row _ = token_text (0x06 * 2 ^ 24 + row)

-- the signature of a method, in its owner's variables and its own, or its fault
abbrev pub sig_by : World → TypeId → ℕ → Result MethodSig ResolveFault
sig_by world id row =
    read_then (signature id.module (method_blob (tables_at world id.module) row)) (λ sig.
    or_unresolved (sig_name world id.module row sig) (method_sig world id row))

-- ---- the walk: of each type the methods of that name in order of rows, then its base

abbrev pub method_variables : ℕ → List Ty
method_variables count = map (λ n. MVar n) (range_with_len 0 count)

-- a signature in the variables of a type's definition, for that type
abbrev pub sig_on : Ty → MethodSig → MethodSig
sig_on ty sig =
    let on : Ty → Ty = substituted (arguments ty) (method_variables sig.generic) in
    sig_with sig (on sig.result) (map on sig.params)

abbrev pub if_same : Bool → ℕ → Result (Option ℕ) ResolveFault → Result (Option ℕ) ResolveFault
if_same same row rest = if same then Ok (Some row) else rest

-- the first of a definition's methods that has this name and signature
abbrev pub row_among : World → Ty → TypeId → List ℕ → MethodSig → List ℕ → Result (Option ℕ) ResolveFault
row_among world ty id name wanted [] = Ok None
row_among world ty id name wanted (row ∷ rows) =
    if bytes_eq (method_name (tables_at world id.module) row) name
    then and_then (sig_by world id row) (λ sig.
    if_same (same_sig wanted (sig_on ty sig)) row (row_among world ty id name wanted rows))
    else row_among world ty id name wanted rows

abbrev pub or_above : {A : Type 0} → (Ty → Result (Option A) ResolveFault) → Option Ty → Result (Option A) ResolveFault
or_above next None = Ok None
or_above next (Some base) = next base

abbrev pub here_or : Ty → TypeId → MethodSig → Result (Option MethodName) ResolveFault → Option ℕ
    → Result (Option MethodName) ResolveFault
here_or ty id wanted above None = above
here_or ty id wanted above (Some row) = Ok (Some (method_named ty id.module row (method_variables wanted.generic)))

abbrev pub member_on : World → Ty → List ℕ → MethodSig → Result (Option MethodName) ResolveFault → Option TypeId
    → Result (Option MethodName) ResolveFault
member_on world ty name wanted above None = Ok None
member_on world ty name wanted above (Some id) =
    and_then (row_among world ty id name wanted (methods_of (tables_at world id.module) id.row))
    (here_or ty id wanted above)

abbrev pub member_within : ℕ → World → List ℕ → MethodSig → Ty → Result (Option MethodName) ResolveFault
member_within zero world name wanted ty = Ok None
member_within (suc left) world name wanted ty =
    member_on world ty name wanted
    (and_then (base_type world ty) (or_above (member_within left world name wanted))) (definition_of world ty)

-- what was found on a definition's own type, with the arguments of a type in place of its variables
abbrev pub with_owner : Ty → MethodName → MethodName
with_owner ty found =
    record { owner = substituted (arguments ty) [] found.owner; method = found.method; args = found.args }

abbrev pub member_from : World → Ty → List ℕ → MethodSig → Option TypeId → Result (Option MethodName) ResolveFault
member_from world owner name wanted None = Ok None
member_from world owner name wanted (Some id) =
    and_then (member_within (length (all_ids world) + 1) world name wanted (type_of world id (own_variables world id)))
    (λ found. Ok (option_map (with_owner owner) found))

-- The method of a name and a signature that a type has itself, or else the nearest of its bases; or the first fault of
-- the walk. The signature is in the variables of the type's definition, and a generic method gets its own variables.
unfoldable pub found_member : World → Ty → List ℕ → Sig → Result (Option MethodName) ResolveFault
found_member world owner name (Sig.Method wanted) = member_from world owner name wanted (definition_of world owner)
found_member world owner name _ = Ok None

-- What a token leads to: III.1.9, II.22.25 (MemberRef), II.22.29 (MethodSpec), II.24.2.4 (user strings).
use Rattle.std.specs.Prelude.{◌≡◌, ℕ, ◌+◌, ◌*◌, ◌/◌, ◌%◌, ◌^◌, ◌==◌, ◌&&◌, ◌||◌, nat_le, Bool, true, false, not}
use Rattle.std.specs.Prelude.{if◌then◌else◌, List, [], ◌∷◌, length, map, drop, slice_get, Option, Some, None, Result}
use Rattle.std.specs.Prelude.{Ok, Err}
use Rattle.std.specs.Option.{option_map, option_and_then}
use Rattle.md_heaps.specs.Heaps.{user_string}
use Rattle.md_sigs.specs.declared.fault.SigFault.{SigFault}
use Rattle.md_sigs.specs.declared.sig.Sig.{Sig}
use Rattle.md_sigs.specs.declared.sig.MethodSig.{MethodSig}
use Rattle.ty_terms.specs.declared.names.FieldName.{FieldName}
use Rattle.ty_terms.specs.declared.names.MethodName.{MethodName}
use Rattle.ty_terms.specs.declared.names.TypeId.{TypeId}
use Rattle.ty_terms.specs.declared.ty.Ty.{Ty}
use Rattle.ty_terms.specs.Subst.{substituted}
use Rattle.ty_load.specs.declared.fault.ResolveFault.{ResolveFault}
use Rattle.ty_load.specs.declared.fault.ResolveFault.TheVariants.{BadSig, SigOutside, Unresolved, Memory}
use Rattle.ty_load.specs.declared.item.Item.{Item}
use Rattle.ty_load.specs.declared.item.Item.TheVariants.{OfType, OfMethod, OfField, OfText}
use Rattle.ty_names.specs.declared.cells.RowOf.{RowOf}
use Rattle.ty_names.specs.Modules.{ModuleOf, World, tables_at, row_count, cell_at, name_of, blob_of, coded_of}
use Rattle.ty_names.specs.Definitions.{owner_of_field, owner_of_method, field_blob, method_blob}
use Rattle.ty_names.specs.References.{id_of, definition}
use Rattle.ty_load.specs.Primitives.{type_of, definition_of}
use Rattle.md_sigs.specs.Signatures.{signature, type_blob}
use Rattle.ty_load.specs.Types.{instance, no_void, resolved_type}
use Rattle.ty_load.specs.Bases.{parameters, has_definition}
use Rattle.ty_load.specs.Members.{is_usable_field, field_sig, field_of, method_sig, method_of, may_name, resolved_sig}
use Rattle.ty_load.specs.Members.{signature_types}
use Rattle.ty_load.specs.Refusals.{refused_name}

-- ---- answers

abbrev pub fault_of : SigFault → ResolveFault
fault_of (SigFault.BadSig offset) = BadSig offset
fault_of (SigFault.SigOutside element) = SigOutside element
fault_of SigFault.Memory = Memory

-- what was read, and then what it leads to
abbrev pub read_then : {A B : Type 0} → Result A SigFault → (A → Result B ResolveFault) → Result B ResolveFault
read_then (Err fault) next = Err (fault_of fault)
read_then (Ok read) next = next read

abbrev pub and_then : {A B : Type 0} → Result A ResolveFault → (A → Result B ResolveFault) → Result B ResolveFault
and_then (Err fault) next = Err fault
and_then (Ok found) next = next found

-- what there is, or that the token of this name leads to nothing
abbrev pub or_unresolved : {A : Type 0} → List ℕ → Option A → Result A ResolveFault
or_unresolved name None = Err (Unresolved name)
or_unresolved name (Some found) = Ok found

abbrev pub only_if : {A : Type 0} → Bool → A → Option A
only_if true item = Some item
only_if false item = None

-- a row of a table of a module that is there
abbrev pub has_row : World → ℕ → RowOf → Bool
has_row world number index =
    nat_le 1 index.row && nat_le index.row (row_count (tables_at world number) index.table)

-- ---- types

-- with the arguments of the owner and the method that the code stands in
abbrev pub placed : List Ty → List Ty → Option Ty → Option Ty
placed owner method found = option_map (substituted owner method) found

abbrev pub written_type : World → ℕ → List ℕ → List Ty → List Ty → Ty → Result Ty ResolveFault
written_type world number name owner method ty =
    or_unresolved name (placed owner method (resolved_type world number (length owner) (length method) ty))

-- the type of a row of TypeDef, TypeRef or TypeSpec; row 0 is none
abbrev pub type_by : World → ℕ → List ℕ → List Ty → List Ty → RowOf → Result Ty ResolveFault
type_by world number name owner method index =
    if index.table == 0x1B && nat_le 1 index.row
    then read_then (type_blob number (blob_of (cell_at (tables_at world number) 0x1B index.row 0)))
    (written_type world number name owner method)
    else or_unresolved name
    (no_void (option_and_then (instance world []) (definition world number index.table index.row)))

-- ---- fields and methods of the module's own

-- the definition that owns a row, if it has no parameters
abbrev pub plain_owner : World → ℕ → Option ℕ → Option TypeId
plain_owner world number owner =
    option_and_then (λ row. only_if (parameters world (id_of number row) == 0) (id_of number row)) owner

abbrev pub field_named : World → TypeId → ℕ → FieldName
field_named world id row = record { owner = type_of world id []; row = row }

abbrev pub own_field : World → ℕ → ℕ → TypeId → Option FieldName
own_field world number row id =
    option_and_then (λ ty. only_if (is_usable_field (tables_at world number) id.row row) (field_named world id row))
    (field_sig world id row)

-- a row of Field; its blob is read first
abbrev pub field_by : World → ℕ → List ℕ → ℕ → Result Item ResolveFault
field_by world number name row =
    read_then (signature number (field_blob (tables_at world number) row)) (λ sig.
    or_unresolved name (option_map OfField (option_and_then (own_field world number row)
    (plain_owner world number (owner_of_field (tables_at world number) row)))))

abbrev pub method_named : Ty → ℕ → ℕ → List Ty → MethodName
method_named owner number row args =
    record { owner = owner; method = record { «module» = number; row = row }; args = args }

-- a method of a definition without parameters that gets these arguments, if it takes as many
abbrev pub own_method : World → ℕ → ℕ → List Ty → TypeId → Option MethodName
own_method world number row args id =
    option_and_then (λ sig. only_if (sig.generic == length args) (method_named (type_of world id []) number row args))
    (method_sig world id row)

abbrev pub method_by : World → ℕ → List ℕ → ℕ → List Ty → Result MethodName ResolveFault
method_by world number name row args =
    read_then (signature number (method_blob (tables_at world number) row)) (λ sig.
    or_unresolved name (option_and_then (own_method world number row args)
    (plain_owner world number (owner_of_method (tables_at world number) row))))

-- ---- members of other types: a MemberRef names a member that its parent's definition has itself

-- the definition of a parent that has members, where the module may name this one
abbrev pub member_owner : World → ℕ → List ℕ → Ty → Option TypeId
member_owner world number member parent =
    option_and_then (λ id. only_if (has_definition parent && may_name world number id member) id)
    (definition_of world parent)

abbrev pub member_method : World → ℕ → List ℕ → List Ty → MethodSig → Ty → Option MethodName
member_method world number member args sig parent =
    option_and_then (λ id. option_and_then (λ wanted.
    option_map (λ row. method_named parent id.module row args) (method_of world id member wanted))
    (resolved_sig world number (parameters world id) sig))
    (member_owner world number member parent)

abbrev pub member_field : World → ℕ → List ℕ → Ty → Ty → Option FieldName
member_field world number member ty parent =
    option_and_then (λ id. option_and_then (λ wanted.
    option_and_then (λ row.
    only_if (is_usable_field (tables_at world id.module) id.row row) (record { owner = parent; row = row }))
    (field_of world id member wanted))
    (resolved_type world number (parameters world id) 0 ty))
    (member_owner world number member parent)

-- what a member reference's signature and parent lead to
abbrev pub member_with : World → ℕ → List ℕ → List ℕ → List Ty → Sig → Ty → Result Item ResolveFault
member_with world number name member args (Sig.Field ty) parent =
    or_unresolved name (option_and_then (λ found. only_if (length args == 0) (OfField found))
    (member_field world number member ty parent))
member_with world number name member args (Sig.Method sig) parent =
    or_unresolved name (option_and_then (λ found. only_if (sig.generic == length args) (OfMethod found))
    (member_method world number member args sig parent))
member_with world number name member args _ parent = Err (Unresolved name)

abbrev pub member_by : World → ℕ → List ℕ → List Ty → List Ty → ℕ → List Ty → Result Item ResolveFault
member_by world number name owner method row args =
    let tables = tables_at world number in
    let member = name_of (cell_at tables 0x0A row 1) in
    read_then (signature number (blob_of (cell_at tables 0x0A row 2))) (λ sig.
    and_then (type_by world number name owner method (coded_of (cell_at tables 0x0A row 0)))
    (member_with world number name member args sig))

-- ---- instances of generic methods: the arguments first, then the method

abbrev pub only_method : List ℕ → Item → Result Item ResolveFault
only_method name (OfMethod method) = Ok (OfMethod method)
only_method name _ = Err (Unresolved name)

abbrev pub method_at_index : World → ℕ → List ℕ → List Ty → List Ty → RowOf → List Ty → Result Item ResolveFault
method_at_index world number name owner method index args =
    if not (has_row world number index) then Err (Unresolved name)
    else if index.table == 0x06
    then and_then (method_by world number name index.row args) (λ found. Ok (OfMethod found))
    else and_then (member_by world number name owner method index.row args) (only_method name)

abbrev pub spec_with : World → ℕ → List ℕ → List Ty → List Ty → RowOf → Sig → Result Item ResolveFault
spec_with world number name owner method index (Sig.Args types) =
    and_then (or_unresolved name (option_map (map (substituted owner method))
    (signature_types world number (length owner) (length method) types)))
    (method_at_index world number name owner method index)
spec_with world number name owner method index _ = Err (Unresolved name)

abbrev pub spec_by : World → ℕ → List ℕ → List Ty → List Ty → ℕ → Result Item ResolveFault
spec_by world number name owner method row =
    let tables = tables_at world number in
    read_then (signature number (blob_of (cell_at tables 0x2B row 1)))
    (spec_with world number name owner method (coded_of (cell_at tables 0x2B row 0)))

-- ---- user strings

abbrev pub units_of : List ℕ → List ℕ
units_of [] = []
units_of (low ∷ []) = []
units_of (low ∷ (high ∷ rest)) = (low + 256 * high) ∷ units_of rest

abbrev pub user_of : Option ModuleOf → List ℕ
user_of None = []
user_of (Some found) = found.user

abbrev pub text_by : World → ℕ → List ℕ → ℕ → Result Item ResolveFault
text_by world number name at =
    or_unresolved name (option_map (λ bytes. OfText (units_of bytes))
    (user_string (drop at (user_of (slice_get world number)))))

-- ---- tokens

abbrev pub row_by : World → ℕ → List ℕ → List Ty → List Ty → RowOf → Result Item ResolveFault
row_by world number name owner method index =
    if index.table == 0x04 then field_by world number name index.row
    else if index.table == 0x06
    then and_then (method_by world number name index.row []) (λ found. Ok (OfMethod found))
    else if index.table == 0x0A then member_by world number name owner method index.row []
    else if index.table == 0x2B then spec_by world number name owner method index.row
    else if index.table == 0x01 || index.table == 0x02 || index.table == 0x1B
    then and_then (type_by world number name owner method index) (λ found. Ok (OfType found))
    else Err (Unresolved name)

-- What a token of a module leads to, in a method whose owner has these arguments and that has these itself.
unfoldable pub resolution : World → ℕ → ℕ → List Ty → List Ty → Result Item ResolveFault
resolution world number token owner method =
    let name = refused_name world number token in
    let index : RowOf = record { table = token / 2 ^ 24; row = token % 2 ^ 24 } in
    if index.table == 0x70 then text_by world number name index.row
    else if has_row world number index then row_by world number name owner method index
    else Err (Unresolved name)

-- the token leads to this item
abbrev pub Resolves : World → ℕ → ℕ → List Ty → List Ty → Item → Type 0
Resolves world number token owner method item = resolution world number token owner method ≡ Ok item

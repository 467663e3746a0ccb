-- What is told of a token that leads to nothing: the name of a type reference or of a member reference, and else the
-- token.
use Rattle.std.specs.Prelude.{ℕ, zero, suc, ◌+◌, ◌*◌, ◌/◌, ◌%◌, ◌^◌, ◌==◌, ◌&&◌, ◌||◌, ◌++◌, nat_le, nat_lt}
use Rattle.std.specs.Prelude.{if◌then◌else◌}
use Rattle.std.specs.Prelude.{List, [], ◌∷◌, codes, Result, Ok, Err}
use Rattle.std.specs.Prelude.{Bool}
use Rattle.std.specs.Fmt.{decimal}
use Rattle.std.specs.List.{list_any}
use Rattle.ty_terms.specs.declared.ty.Ty.{Ty}
use Rattle.ty_terms.specs.declared.ty.Ty.TheOpen.{Ty-F}
use Rattle.ty_terms.specs.declared.ty.Ty.TheFolds.{fold-Ty}
use Rattle.md_tables.specs.declared.module.Table.{Table}
use Rattle.md_sigs.specs.declared.fault.SigFault.{SigFault}
use Rattle.ty_names.specs.declared.cells.RowOf.{RowOf}
use Rattle.ty_names.specs.Modules.{World, tables_at, row_count, cell_at, name_of, blob_of, coded_of}
use Rattle.ty_names.specs.Escapes.{name_text, type_name_text, qualified_text}
use Rattle.ty_names.specs.TypeTexts.{in_encloser, text_in_module}
use Rattle.ty_names.specs.References.{reference_scope, reference_name, reference_namespace}
use Rattle.ty_load.specs.Primitives.{name_of_primitive}
use Rattle.md_sigs.specs.Signatures.{type_blob}
use Rattle.ty_load.specs.Types.{table_of_tag}

-- eight lower-case hexadecimal digits
abbrev pub lower_digit : ℕ → ℕ
lower_digit n = if nat_lt n 10 then 0x30 + n else 0x57 + n

abbrev pub digits_of : ℕ → ℕ → List ℕ
digits_of zero n = []
digits_of (suc left) n = digits_of left (n / 16) ++ lower_digit (n % 16) ∷ []

abbrev pub token_text : ℕ → List ℕ
token_text token = digits_of 8 token

abbrev pub is_nested_reference : List Table → ℕ → Bool
is_nested_reference tables row =
    (reference_scope tables row).table == 0x01 && nat_le 1 (reference_scope tables row).row

-- a reference and those around it, from the inside, up to one that isn't nested or is there already; among so many
abbrev pub around : ℕ → List Table → List ℕ → ℕ → List ℕ
around zero tables seen row = []
around (suc left) tables seen row =
    if list_any (λ other. row == other) seen then []
    else row ∷ (if is_nested_reference tables row
    then around left tables (row ∷ seen) (reference_scope tables row).row else [])

abbrev pub own_text : List Table → ℕ → List ℕ
own_text tables row =
    if is_nested_reference tables row then type_name_text (reference_name tables row)
    else qualified_text (reference_namespace tables row) (reference_name tables row)

abbrev pub nested_text : List Table → List ℕ → List ℕ
nested_text tables [] = []
nested_text tables (row ∷ outer) = in_encloser (nested_text tables outer) (own_text tables row)

-- `Namespace.Name`, or `Enclosing+Name`
abbrev pub reference_text : List Table → ℕ → List ℕ
reference_text tables row = nested_text tables (around (row_count tables 0x01) tables [] row)

-- the name of a definition or a reference, without its assembly; what is neither is told by its token
abbrev pub named_text : List Table → ℕ → ℕ → List ℕ
named_text tables table row =
    if table == 0x01 then reference_text tables row
    else if table == 0x02 then text_in_module tables row
    else token_text (table * 2 ^ 24 + row)

-- one layer of a type as it is written, without arguments
abbrev pub head_step : List Table → Ty-F (List ℕ) → List ℕ
head_step tables (Ty-F.Prim primitive) = codes "System." ++ name_of_primitive primitive
head_step tables (Ty-F.Named id args) = named_text tables (table_of_tag (id.row % 4)) (id.row / 4)
head_step tables (Ty-F.Vector element) = element ++ codes "[]"
head_step tables (Ty-F.ByRef target) = target ++ codes "&"
head_step tables (Ty-F.Var n) = codes "!" ++ decimal n
head_step tables (Ty-F.MVar n) = codes "!!" ++ decimal n
head_step tables Ty-F.Canon = []

abbrev pub head_text : List Table → Result Ty SigFault → List ℕ
head_text tables (Ok ty) = fold-Ty (List ℕ) (head_step tables) ty
head_text tables (Err fault) = []

abbrev pub parent_text : World → ℕ → RowOf → List ℕ
parent_text world number parent =
    let tables = tables_at world number in
    if parent.table == 0x1B then head_text tables (type_blob number (blob_of (cell_at tables 0x1B parent.row 0)))
    else named_text tables parent.table parent.row

-- a member reference names a member of a type; one whose parent is no type is told by its token
abbrev pub member_text : World → ℕ → ℕ → List ℕ
member_text world number row =
    let tables = tables_at world number in
    let parent = coded_of (cell_at tables 0x0A row 0) in
    if parent.row == 0 || parent.table == 0x1A || parent.table == 0x06 then token_text (0x0A * 2 ^ 24 + row)
    else parent_text world number parent ++ codes "::" ++ name_text (name_of (cell_at tables 0x0A row 1))

-- What a refusal of a token of a module names; a token that names no row is told as it is.
abbrev pub refused_name : World → ℕ → ℕ → List ℕ
refused_name world number token =
    let table = token / 2 ^ 24 in
    let row = token % 2 ^ 24 in
    if nat_le 1 row && nat_le row (row_count (tables_at world number) table)
    then
    (if table == 0x01 then reference_text (tables_at world number) row
    else if table == 0x0A then member_text world number row
    else token_text token)
    else token_text token

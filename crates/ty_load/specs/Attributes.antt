-- Custom attributes: II.22.10. One is known by the full name of the type that has its constructor, whichever module
-- defines it.
use Rattle.std.specs.Prelude.{ℕ, ◌==◌, ◌&&◌, Bool, false, if◌then◌else◌, List, codes, find, slice_get, Option, Some}
use Rattle.std.specs.Prelude.{None, ℤ, Result, Ok, Err}
use Rattle.std.specs.List.{list_any}
use Rattle.std.specs.Option.{option_map}
use Rattle.std.specs.Str.{bytes_eq}
use Rattle.md_tables.specs.declared.module.Table.{Table}
use Rattle.md_tables.specs.declared.module.TableRow.{TableRow}
use Rattle.ty_terms.specs.declared.names.MethodId.{MethodId}
use Rattle.md_sigs.specs.Annotation.{annotation_of}
use Rattle.ty_names.specs.declared.cells.RowOf.{RowOf}
use Rattle.ty_names.specs.Modules.{World, tables_at, rows, cell_at, coded_of, blob_of}
use Rattle.ty_names.specs.Definitions.{owner_of_method, is_row_of}
use Rattle.ty_names.specs.References.{reference_scope, reference_name, reference_namespace}
use Rattle.ty_load.specs.declared.fault.ResolveFault.{ResolveFault}
use Rattle.ty_load.specs.declared.fault.ResolveFault.TheVariants.{BadSig}
use Rattle.ty_load.specs.Search.{dotted, full_name}

-- the full name of a definition, or of a reference that isn't nested
abbrev pub referenced_name : List Table → ℕ → Option (List ℕ)
referenced_name tables row =
    if (reference_scope tables row).table == 0x01 then None
    else Some (dotted (reference_namespace tables row) (reference_name tables row))

abbrev pub type_full_name : List Table → RowOf → Option (List ℕ)
type_full_name tables index =
    if index.table == 0x02 then Some (full_name tables index.row)
    else if index.table == 0x01 then referenced_name tables index.row
    else None

-- the full name of the type that has a constructor, which is a row of MethodDef or MemberRef
abbrev pub attribute_name : List Table → RowOf → Option (List ℕ)
attribute_name tables constructor =
    if constructor.table == 0x06 then option_map (full_name tables) (owner_of_method tables constructor.row)
    else if constructor.table == 0x0A then type_full_name tables (coded_of (cell_at tables 0x0A constructor.row 0))
    else None

abbrev pub is_named_so : List ℕ → Option (List ℕ) → Bool
is_named_so name None = false
is_named_so name (Some other) = bytes_eq name other

-- whether a row of CustomAttribute gives an attribute of this name to a row of a table
abbrev pub gives_attribute : List Table → ℕ → ℕ → List ℕ → TableRow → Bool
gives_attribute tables table row name attribute =
    is_row_of (coded_of (slice_get attribute.cells 0)) table row
    && is_named_so name (attribute_name tables (coded_of (slice_get attribute.cells 1)))

abbrev pub dynamically_accessed : List ℕ
dynamically_accessed = codes "System.Diagnostics.CodeAnalysis.DynamicallyAccessedMembersAttribute"

abbrev pub requires_unreferenced : List ℕ
requires_unreferenced = codes "System.Diagnostics.CodeAnalysis.RequiresUnreferencedCodeAttribute"

-- the blob of the first annotation of a row of Field or Param, if it has one
abbrev pub annotation_blob : World → ℕ → ℕ → ℕ → Option (List ℕ)
annotation_blob world number table row =
    let tables = tables_at world number in
    option_map (λ attribute. blob_of (slice_get attribute.cells 2))
    (find (gives_attribute tables table row dynamically_accessed) (rows tables 0x0C))

-- whether a method is marked as one that needs code which may be trimmed
abbrev pub is_marked : World → MethodId → Bool
is_marked world method =
    let tables = tables_at world method.module in
    list_any (gives_attribute tables 0x06 method.row requires_unreferenced) (rows tables 0x0C)

abbrev pub is_annotated : Option ℤ → Result (Option ℤ) ResolveFault
is_annotated None = Err (BadSig 0)
is_annotated (Some value) = Ok (Some value)

abbrev pub annotated : Option (List ℕ) → Result (Option ℤ) ResolveFault
annotated None = Ok None
annotated (Some blob) = is_annotated (annotation_of blob)

-- The value of the first annotation of a row of Field or Param, if it has one; its blob has no reading from 0 on where
-- it isn't one of an annotation.
unfoldable pub annotation : World → ℕ → ℕ → ℕ → Result (Option ℤ) ResolveFault
annotation world number table row = annotated (annotation_blob world number table row)

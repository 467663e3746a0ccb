-- The tables of metadata and their columns: ECMA-335 II.22, and coded indexes: II.24.2.6.
use Rattle.std.specs.Prelude.{ℕ, ◌==◌, ◌&&◌, Bool, true, false, not, List, [], ◌∷◌, Option, Some, None}
use Rattle.std.specs.List.{list_any}
use Rattle.md_rows.specs.declared.coding.Coding.{Coding}
use Rattle.md_rows.specs.declared.coding.Coding.TheVariants.{TypeDefOrRef, HasConstant, HasCustomAttribute}
use Rattle.md_rows.specs.declared.coding.Coding.TheVariants.{HasFieldMarshal, HasDeclSecurity, MemberRefParent}
use Rattle.md_rows.specs.declared.coding.Coding.TheVariants.{HasSemantics, MethodDefOrRef, MemberForwarded}
use Rattle.md_rows.specs.declared.coding.Coding.TheVariants.{Implementation, CustomAttributeType, ResolutionScope}
use Rattle.md_rows.specs.declared.coding.Coding.TheVariants.{TypeOrMethodDef}
use Rattle.md_rows.specs.declared.schema.Column.{Column}
use Rattle.md_rows.specs.declared.schema.Column.TheVariants.{U8, U16, U32, StringIndex, GuidIndex, BlobIndex}
use Rattle.md_rows.specs.declared.schema.Column.TheVariants.{RowIndex, RunIndex, CodedIndex}
use Rattle.md_rows.specs.declared.schema.Schema.{Schema}

-- A coded index has a tag in so many of its low bits, and above it the number of a row of the table of that tag.
abbrev pub tag_bits : Coding → ℕ
tag_bits TypeDefOrRef = 2
tag_bits HasConstant = 2
tag_bits HasCustomAttribute = 5
tag_bits HasFieldMarshal = 1
tag_bits HasDeclSecurity = 2
tag_bits MemberRefParent = 3
tag_bits HasSemantics = 1
tag_bits MethodDefOrRef = 1
tag_bits MemberForwarded = 1
tag_bits Implementation = 2
tag_bits CustomAttributeType = 3
tag_bits ResolutionScope = 2
tag_bits TypeOrMethodDef = 1

-- the table of each tag; of CustomAttributeType tags 2 and 3 alone name one
abbrev pub tag_tables : Coding → List (Option ℕ)
tag_tables TypeDefOrRef = Some 0x02 ∷ Some 0x01 ∷ Some 0x1B ∷ []
tag_tables HasConstant = Some 0x04 ∷ Some 0x08 ∷ Some 0x17 ∷ []
tag_tables HasCustomAttribute =
    Some 0x06 ∷ Some 0x04 ∷ Some 0x01 ∷ Some 0x02 ∷ Some 0x08 ∷ Some 0x09 ∷ Some 0x0A ∷ Some 0x00 ∷ Some 0x0E
    ∷ Some 0x17 ∷ Some 0x14 ∷ Some 0x11 ∷ Some 0x1A ∷ Some 0x1B ∷ Some 0x20 ∷ Some 0x23 ∷ Some 0x26 ∷ Some 0x27
    ∷ Some 0x28 ∷ Some 0x2A ∷ Some 0x2C ∷ Some 0x2B ∷ []
tag_tables HasFieldMarshal = Some 0x04 ∷ Some 0x08 ∷ []
tag_tables HasDeclSecurity = Some 0x02 ∷ Some 0x06 ∷ Some 0x20 ∷ []
tag_tables MemberRefParent = Some 0x02 ∷ Some 0x01 ∷ Some 0x1A ∷ Some 0x06 ∷ Some 0x1B ∷ []
tag_tables HasSemantics = Some 0x14 ∷ Some 0x17 ∷ []
tag_tables MethodDefOrRef = Some 0x06 ∷ Some 0x0A ∷ []
tag_tables MemberForwarded = Some 0x04 ∷ Some 0x06 ∷ []
tag_tables Implementation = Some 0x26 ∷ Some 0x23 ∷ Some 0x27 ∷ []
tag_tables CustomAttributeType = None ∷ None ∷ Some 0x06 ∷ Some 0x0A ∷ []
tag_tables ResolutionScope = Some 0x00 ∷ Some 0x1A ∷ Some 0x23 ∷ Some 0x01 ∷ []
tag_tables TypeOrMethodDef = Some 0x02 ∷ Some 0x06 ∷ []

-- a table: its number, whether its rows are held or only skipped by their width, whether a row begins with an address
-- of four bytes, and the other columns
pub record TableSchema : Type 0 where
  pub number : ℕ
  pub is_held : Bool
  pub has_address : Bool
  pub columns : List Column

abbrev held : ℕ → List Column → TableSchema
held number columns = record { number = number; is_held = true; has_address = false; columns = columns }

abbrev addressed : ℕ → List Column → TableSchema
addressed number columns = record { number = number; is_held = true; has_address = true; columns = columns }

abbrev skipped : ℕ → List Column → TableSchema
skipped number columns = record { number = number; is_held = false; has_address = false; columns = columns }

-- Module, TypeRef, TypeDef, Field, MethodDef, Param, InterfaceImpl, MemberRef, Constant, CustomAttribute, FieldMarshal,
-- DeclSecurity, ClassLayout, FieldLayout, StandAloneSig, EventMap, Event, PropertyMap, Property, MethodSemantics,
-- MethodImpl, ModuleRef, TypeSpec, ImplMap, FieldRVA, Assembly, AssemblyProcessor, AssemblyOS, AssemblyRef,
-- AssemblyRefProcessor, AssemblyRefOS, File, ExportedType, ManifestResource, NestedClass, GenericParam, MethodSpec,
-- GenericParamConstraint
unfoldable pub tables : List TableSchema
tables =
    held 0x00 (U16 ∷ StringIndex ∷ GuidIndex ∷ GuidIndex ∷ GuidIndex ∷ [])
    ∷ held 0x01 (CodedIndex ResolutionScope ∷ StringIndex ∷ StringIndex ∷ [])
    ∷ held 0x02 (U32 ∷ StringIndex ∷ StringIndex ∷ CodedIndex TypeDefOrRef ∷ RunIndex 0x04 ∷ RunIndex 0x06 ∷ [])
    ∷ held 0x04 (U16 ∷ StringIndex ∷ BlobIndex ∷ [])
    ∷ addressed 0x06 (U16 ∷ U16 ∷ StringIndex ∷ BlobIndex ∷ RunIndex 0x08 ∷ [])
    ∷ held 0x08 (U16 ∷ U16 ∷ StringIndex ∷ [])
    ∷ held 0x09 (RowIndex 0x02 ∷ CodedIndex TypeDefOrRef ∷ [])
    ∷ held 0x0A (CodedIndex MemberRefParent ∷ StringIndex ∷ BlobIndex ∷ [])
    ∷ held 0x0B (U8 ∷ U8 ∷ CodedIndex HasConstant ∷ BlobIndex ∷ [])
    ∷ held 0x0C (CodedIndex HasCustomAttribute ∷ CodedIndex CustomAttributeType ∷ BlobIndex ∷ [])
    ∷ skipped 0x0D (CodedIndex HasFieldMarshal ∷ BlobIndex ∷ [])
    ∷ skipped 0x0E (U16 ∷ CodedIndex HasDeclSecurity ∷ BlobIndex ∷ [])
    ∷ held 0x0F (U16 ∷ U32 ∷ RowIndex 0x02 ∷ [])
    ∷ skipped 0x10 (U32 ∷ RowIndex 0x04 ∷ [])
    ∷ held 0x11 (BlobIndex ∷ [])
    ∷ skipped 0x12 (RowIndex 0x02 ∷ RowIndex 0x14 ∷ [])
    ∷ skipped 0x14 (U16 ∷ StringIndex ∷ CodedIndex TypeDefOrRef ∷ [])
    ∷ skipped 0x15 (RowIndex 0x02 ∷ RowIndex 0x17 ∷ [])
    ∷ skipped 0x17 (U16 ∷ StringIndex ∷ BlobIndex ∷ [])
    ∷ skipped 0x18 (U16 ∷ RowIndex 0x06 ∷ CodedIndex HasSemantics ∷ [])
    ∷ held 0x19 (RowIndex 0x02 ∷ CodedIndex MethodDefOrRef ∷ CodedIndex MethodDefOrRef ∷ [])
    ∷ skipped 0x1A (StringIndex ∷ [])
    ∷ held 0x1B (BlobIndex ∷ [])
    ∷ skipped 0x1C (U16 ∷ CodedIndex MemberForwarded ∷ StringIndex ∷ RowIndex 0x1A ∷ [])
    ∷ addressed 0x1D (RowIndex 0x04 ∷ [])
    ∷ held 0x20 (U32 ∷ U16 ∷ U16 ∷ U16 ∷ U16 ∷ U32 ∷ BlobIndex ∷ StringIndex ∷ StringIndex ∷ [])
    ∷ skipped 0x21 (U32 ∷ [])
    ∷ skipped 0x22 (U32 ∷ U32 ∷ U32 ∷ [])
    ∷ held 0x23 (U16 ∷ U16 ∷ U16 ∷ U16 ∷ U32 ∷ BlobIndex ∷ StringIndex ∷ StringIndex ∷ BlobIndex ∷ [])
    ∷ skipped 0x24 (U32 ∷ RowIndex 0x23 ∷ [])
    ∷ skipped 0x25 (U32 ∷ U32 ∷ U32 ∷ RowIndex 0x23 ∷ [])
    ∷ skipped 0x26 (U32 ∷ StringIndex ∷ BlobIndex ∷ [])
    ∷ skipped 0x27 (U32 ∷ U32 ∷ StringIndex ∷ StringIndex ∷ CodedIndex Implementation ∷ [])
    ∷ skipped 0x28 (U32 ∷ U32 ∷ StringIndex ∷ CodedIndex Implementation ∷ [])
    ∷ held 0x29 (RowIndex 0x02 ∷ RowIndex 0x02 ∷ [])
    ∷ held 0x2A (U16 ∷ U16 ∷ CodedIndex TypeOrMethodDef ∷ StringIndex ∷ [])
    ∷ held 0x2B (CodedIndex MethodDefOrRef ∷ BlobIndex ∷ [])
    ∷ held 0x2C (RowIndex 0x2A ∷ CodedIndex TypeDefOrRef ∷ [])
    ∷ []

-- what a row of the code's table says
abbrev pub schema_of : Schema → TableSchema
schema_of schema =
    record {
      number = schema.number;
      is_held = schema.is_held;
      has_address = schema.has_address;
      columns = schema.columns.now;
    }

-- whether a table is only skipped
abbrev pub is_skipped_in : List TableSchema → ℕ → Bool
is_skipped_in schemas table = list_any (λ schema. schema.number == table && not schema.is_held) schemas

unfoldable pub is_skipped : ℕ → Bool
is_skipped table = is_skipped_in tables table

-- The module that classes make: its rows (ECMA-335 II.22), and its heap of texts.
use Rattle.std.specs.Prelude.{ℕ, suc, ◌+◌, List, [], ◌∷◌, ◌++◌, length, map, codes, Option}
use Rattle.std.specs.Prelude.{Some, None, if◌then◌else◌}
use Rattle.std.specs.List.{flat_map}
use Rattle.md_rows.specs.declared.cell.Cell.{Cell}
use Rattle.md_rows.specs.declared.cell.Cell.TheVariants.{Number, Name, Blob, Index, Coded}
use Rattle.md_tables.specs.declared.module.TableRow.{TableRow}
use Rattle.md_tables.specs.declared.module.Table.{Table}
use Rattle.md_tables.specs.Modules.{ModuleParts}
use Rattle.core_lib.specs.declared.rows.ClassRow.{ClassRow}
use Rattle.core_lib.specs.declared.rows.FieldRow.{FieldRow}
use Rattle.core_lib.specs.declared.rows.MethodRow.{MethodRow}
use Rattle.core_lib.specs.declared.rows.InterfaceRow.{InterfaceRow}
use Rattle.core_lib.specs.declared.runtime.RuntimeCall.{RuntimeCall}
use Rattle.core_lib.specs.Words.{CoreType, Class, Code}
use Rattle.core_lib.specs.Words.{Runtime, Cil, CoreField, CoreMethod, CoreClass}
use Rattle.core_lib.specs.Code.{row_where, class_row, same, type_bytes, field_blob, method_blob, locals_blob, heap_of}
use Rattle.core_lib.specs.Code.{body_of}
use Rattle.core_lib.specs.Classes.{classes, instances, local_lists, texts}

abbrev pub row : List Cell → TableRow
row cells = record { cells = cells; body = None }

-- ---- Module (II.22.30): the name of the file, and an identifier that is the core's own
abbrev pub identifier : List ℕ
identifier = codes "Fodrelic's core."

abbrev pub module_rows : List TableRow
module_rows = row (Number 0 ∷ Name (codes "core.dll") ∷ Blob identifier ∷ Blob [] ∷ Blob [] ∷ []) ∷ []

-- ---- TypeDef (II.22.37): the fields and methods of each class stand behind those of the classes in front of it
abbrev pub base_cell : List CoreClass → Option (List ℕ) → Cell
base_cell all None = Coded 0x02 0
base_cell all (Some name) = Coded 0x02 (class_row all name)

abbrev pub class_cells : List CoreClass → ℕ → ℕ → CoreClass → List Cell
class_cells all fields methods class =
    Number class.attributes ∷ Name class.name ∷ Name class.namespace ∷ base_cell all class.base ∷ Index fields
    ∷ Index methods ∷ []

abbrev pub class_rows : List CoreClass → ℕ → ℕ → List CoreClass → List TableRow
class_rows all fields methods [] = []
class_rows all fields methods (class ∷ rest) =
    row (class_cells all fields methods class)
    ∷ class_rows all (fields + length class.fields) (methods + length class.methods) rest

-- ---- Field (II.22.15)
abbrev pub field_row : List CoreClass → CoreField → TableRow
field_row all field = row (Number field.attributes ∷ Name field.name ∷ Blob (field_blob all field) ∷ [])

abbrev pub field_rows : List CoreClass → List TableRow
field_rows all = flat_map (λ class. map (field_row all) class.fields) all

-- ---- MethodDef (II.22.26): a call of the runtime is marked as internal (II.23.1.11); no parameter has a row
abbrev pub implementation : Code → ℕ
implementation (Runtime call) = 0x1000
implementation code = 0

abbrev pub body : List CoreClass → Code → Option (List ℕ)
body all (Cil locals lines) = Some (body_of all texts local_lists locals lines)
body all code = None

abbrev pub method_row : List CoreClass → CoreMethod → TableRow
method_row all method =
    record {
      cells =
          Number (implementation method.code) ∷ Number method.attributes ∷ Name method.name
          ∷ Blob (method_blob all method) ∷ Index 1 ∷ [];
      body = body all method.code;
    }

abbrev pub methods_of : List CoreClass → List CoreMethod
methods_of all = flat_map (λ class. class.methods) all

abbrev pub method_rows : List CoreClass → List TableRow
method_rows all = map (method_row all) (methods_of all)

-- ---- InterfaceImpl (II.22.23): the interfaces of each class, from a row of classes on
abbrev pub interface_cell : List CoreClass → CoreType → Cell
interface_cell all (Class name) = Coded 0x02 (class_row all name)
interface_cell all kind = Coded 0x1B (row_where (same kind) instances)

abbrev pub interface_rows : List CoreClass → ℕ → List CoreClass → List TableRow
interface_rows all at [] = []
interface_rows all at (class ∷ rest) =
    map (λ kind. row (Index at ∷ interface_cell all kind ∷ [])) class.interfaces ++ interface_rows all (suc at) rest

-- ---- StandAloneSig (II.22.36) and TypeSpec (II.22.39)
abbrev pub locals_rows : List CoreClass → List TableRow
locals_rows all = map (λ locals. row (Blob (locals_blob all locals) ∷ [])) local_lists

abbrev pub instance_rows : List CoreClass → List TableRow
instance_rows all = map (λ kind. row (Blob (type_bytes all kind) ∷ [])) instances

-- ---- GenericParam (II.22.20): the variable of each generic class
abbrev pub variable_row : ℕ → TableRow
variable_row at = row (Number 0 ∷ Number 0 ∷ Coded 0x02 at ∷ Name (codes "T") ∷ [])

abbrev pub variable_rows : ℕ → List CoreClass → List TableRow
variable_rows at [] = []
variable_rows at (class ∷ rest) =
    (if class.is_generic then variable_row at ∷ [] else []) ++ variable_rows (suc at) rest

-- ---- the module: it has no entry, and of the tables those have rows that are named above

abbrev pub table : ℕ → List TableRow → Table
table number rows = record { number = number; rows = rows }

abbrev pub with_rows : (classes fields methods interfaces locals instances variables : List TableRow) → List Table
with_rows classes fields methods interfaces locals instances variables =
    table 0x00 module_rows
    ∷ table 0x01 []
    ∷ table 0x02 classes
    ∷ table 0x04 fields
    ∷ table 0x06 methods
    ∷ table 0x08 []
    ∷ table 0x09 interfaces
    ∷ table 0x0A []
    ∷ table 0x0B []
    ∷ table 0x0C []
    ∷ table 0x0F []
    ∷ table 0x11 locals
    ∷ table 0x19 []
    ∷ table 0x1B instances
    ∷ table 0x1D []
    ∷ table 0x20 []
    ∷ table 0x23 []
    ∷ table 0x29 []
    ∷ table 0x2A variables
    ∷ table 0x2B []
    ∷ table 0x2C []
    ∷ []

abbrev pub tables_of : List CoreClass → List Table
tables_of all =
    with_rows (class_rows all 1 1 all) (field_rows all) (method_rows all) (interface_rows all 1 all) (locals_rows all)
    (instance_rows all) (variable_rows 1 all)

unfoldable pub core : ModuleParts
core = record { entry = 0; user = heap_of texts; tables = tables_of classes }

-- ---- calls of the runtime, by the rows of their methods

abbrev pub call_of : Code → Option RuntimeCall
call_of (Runtime call) = Some call
call_of code = None

abbrev pub with_call : ℕ → Option RuntimeCall → List (ℕ × RuntimeCall) → List (ℕ × RuntimeCall)
with_call at None rest = rest
with_call at (Some call) rest = (at, call) ∷ rest

abbrev pub calls_from : ℕ → List CoreMethod → List (ℕ × RuntimeCall)
calls_from at [] = []
calls_from at (method ∷ rest) = with_call at (call_of method.code) (calls_from (suc at) rest)

-- the methods of the core that are calls of the runtime
unfoldable pub runtime_calls : List (ℕ × RuntimeCall)
runtime_calls = calls_from 1 (methods_of classes)

-- ---- the rows as the code holds them

abbrev pub of_class : ClassRow → TableRow
of_class class =
    row (Number class.attributes ∷ Name class.name.now ∷ Name class.namespace.now ∷ Coded 0x02 class.base
    ∷ Index class.fields ∷ Index class.methods ∷ [])

abbrev pub of_field : FieldRow → TableRow
of_field field = row (Number field.attributes ∷ Name field.name.now ∷ Blob field.signature.now ∷ [])

-- the body of a method that has one
abbrev pub if_some : List ℕ → Option (List ℕ)
if_some [] = None
if_some (byte ∷ bytes) = Some (byte ∷ bytes)

abbrev pub of_method : MethodRow → TableRow
of_method method =
    record {
      cells =
          Number method.implementation ∷ Number method.attributes ∷ Name method.name.now ∷ Blob method.signature.now
          ∷ Index 1 ∷ [];
      body = if_some method.body.now;
    }

abbrev pub of_interface : InterfaceRow → TableRow
of_interface line = row (Index line.«class» ∷ Coded line.table line.row ∷ [])

abbrev pub of_blob : List ℕ → TableRow
of_blob bytes = row (Blob bytes ∷ [])

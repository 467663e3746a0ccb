-- The module in an image: ECMA-335 II.22, and what its rows lead to: the bodies of methods (II.22.26, II.25.4) and the
-- bytes of fields (II.22.18).
use Rattle.std.specs.Prelude.{◌≡◌, ◌⊎◌, ℕ, ◌+◌, ◌-◌, ◌*◌, ◌==◌, ◌&&◌, nat_lt, min, if◌then◌else◌, List, [], ◌∷◌, find}
use Rattle.std.specs.Prelude.{take}
use Rattle.std.specs.Prelude.{Option, Some, None, Result, Ok, Err}
use Rattle.std.specs.List.{filter_map}
use Rattle.std.specs.Option.{option_map, option_and_then}
use Rattle.il_code.specs.Headers.{body_length}
use Rattle.pe_image.specs.Pe.{Parts}
use Rattle.pe_image.specs.declared.section.Section.{Section}
use Rattle.pe_image.specs.Sections.{section_of, bytes_from}
use Rattle.md_rows.specs.declared.cell.Cell.{Cell}
use Rattle.md_rows.specs.declared.cell.Cell.TheVariants.{Blob}
use Rattle.md_rows.specs.declared.fault.RowFault.{RowFault}
use Rattle.md_rows.specs.declared.fault.RowFault.TheVariants.{BadTable as BadRow, RefusedTable as RefusedRows}
use Rattle.md_rows.specs.declared.fault.RowFault.TheVariants.{Memory as NoMemory}
use Rattle.md_rows.specs.declared.row.Row.{Row}
use Rattle.md_rows.specs.declared.table.Table.{Table as RowTable}
use Rattle.md_rows.specs.Cells.{StreamBytes}
use Rattle.md_rows.specs.Reading.{reading}
use Rattle.md_tables.specs.declared.data.Held.{Held}
use Rattle.md_tables.specs.declared.fault.TableFault.{TableFault}
use Rattle.md_tables.specs.declared.fault.TableFault.TheVariants.{BadTable, RefusedTable, BadHeader, Memory}
use Rattle.md_tables.specs.declared.module.TableRow.{TableRow}
use Rattle.md_tables.specs.declared.module.Table.{Table}
use Rattle.md_tables.specs.Modules.{ModuleParts}

abbrev pub fault_of : RowFault → TableFault
fault_of (BadRow table row) = BadTable table row
fault_of (RefusedRows table) = RefusedTable table
fault_of NoMemory = Memory

-- ---- the bytes of fields

-- an address with the number of the section that holds it, if one does
abbrev pub with_section : ℕ → ℕ → Held
with_section address section = record { section = section; address = address }

abbrev pub held_of : List Section → ℕ → Option Held
held_of sections address = option_map (with_section address) (section_of sections address)

abbrev pub addresses_of : Parts → Option RowTable → List Held
addresses_of image None = []
addresses_of image (Some table) = filter_map (λ row. held_of image.sections row.address) table.rows

-- the addresses in the table of the bytes of fields that sections hold
abbrev pub addresses_in : Parts → List RowTable → List Held
addresses_in image tables = addresses_of image (find (λ table. table.number == 0x1D) tables)

-- the least of numbers that is above one
abbrev pub least_with : ℕ → Option ℕ → Option ℕ
least_with n None = Some n
least_with n (Some m) = Some (min n m)

-- the next greater address in the section of a number
abbrev pub next_address : ℕ → ℕ → List Held → Option ℕ
next_address section address [] = None
next_address section address (other ∷ rest) =
    if other.section == section && nat_lt address other.address
    then least_with other.address (next_address section address rest)
    else next_address section address rest

abbrev pub up_to : ℕ → Option ℕ → List ℕ → List ℕ
up_to address None bytes = bytes
up_to address (Some next) bytes = take (next - address) bytes

abbrev pub or_empty : Option (List ℕ) → List ℕ
or_empty None = []
or_empty (Some bytes) = bytes

-- The bytes of a field: from its address to the next greater one of the table that its section holds, or to the end of
-- the section's part of the file. Where no section holds the address there are none.
abbrev pub data_in : Parts → List Held → ℕ → Option Held → List ℕ
data_in image held address None = []
data_in image held address (Some own) =
    or_empty (option_map (up_to address (next_address own.section own.address held))
    (bytes_from image.file image.sections address))

abbrev pub data_at : Parts → List Held → ℕ → List ℕ
data_at image held address = data_in image held address (held_of image.sections address)

-- where an address stands in the order of sections, and in that of addresses of one section
abbrev pub rank_of : Held → ℕ
rank_of held = held.section * 0x1_0000_0000 + held.address

-- an address in a section, if it is one
abbrev pub own_address : ℕ → Option Held → Option ℕ
own_address section None = None
own_address section (Some other) = if other.section == section then Some other.address else None

-- ---- bodies

-- the whole body at the front of bytes
abbrev pub whole_body : List ℕ → Option (List ℕ)
whole_body bytes = option_map (λ length. take length bytes) (body_length bytes)

abbrev pub body_at : Parts → ℕ → Option (List ℕ)
body_at image address = option_and_then whole_body (bytes_from image.file image.sections address)

-- ---- rows

abbrev pub plain : List Cell → TableRow
plain cells = record { cells = cells; body = None }

abbrev pub with_body : Row → Option (List ℕ) → Result TableRow TableFault
with_body row None = Err (BadHeader row.address)
with_body row (Some body) = Ok (record { cells = row.cells; body = Some body })

-- the row of a method; one whose address is 0 has no CIL
abbrev pub method_row : Parts → Row → Result TableRow TableFault
method_row image row =
    if row.address == 0 then Ok (plain row.cells) else with_body row (body_at image row.address)

-- the row of the bytes of a field
abbrev pub field_row : Parts → List Held → Row → TableRow
field_row image addresses row = plain (Blob (data_at image addresses row.address) ∷ row.cells)

-- a row of the table of a number
abbrev pub finished_row : Parts → List Held → ℕ → Row → Result TableRow TableFault
finished_row image addresses number row =
    if number == 0x06 then method_row image row
    else if number == 0x1D then Ok (field_row image addresses row)
    else Ok (plain row.cells)

-- items in front of others, if there are others
abbrev pub in_front : {A : Type 0} → Result A TableFault → Result (List A) TableFault → Result (List A) TableFault
in_front (Err fault) rest = Err fault
in_front (Ok item) (Err fault) = Err fault
in_front (Ok item) (Ok items) = Ok (item ∷ items)

abbrev pub finished_rows : Parts → List Held → ℕ → List Row → Result (List TableRow) TableFault
finished_rows image addresses number [] = Ok []
finished_rows image addresses number (row ∷ rest) =
    in_front (finished_row image addresses number row) (finished_rows image addresses number rest)

abbrev pub table_of : ℕ → List TableRow → Table
table_of number rows = record { number = number; rows = rows }

abbrev pub tabled : ℕ → Result (List TableRow) TableFault → Result Table TableFault
tabled number (Err fault) = Err fault
tabled number (Ok rows) = Ok (table_of number rows)

abbrev pub finished_table : Parts → List Held → RowTable → Result Table TableFault
finished_table image addresses table =
    tabled table.number (finished_rows image addresses table.number table.rows)

abbrev pub finished_tables : Parts → List Held → List RowTable → Result (List Table) TableFault
finished_tables image addresses [] = Ok []
finished_tables image addresses (table ∷ rest) =
    in_front (finished_table image addresses table) (finished_tables image addresses rest)

-- ---- the module

abbrev pub streams_of : Parts → StreamBytes
streams_of image =
    record { tables = image.tables; strings = image.strings; guid = image.guid; blob = image.blob }

abbrev pub module_with : Parts → Result (List Table) TableFault → Result ModuleParts TableFault
module_with image (Err fault) = Err fault
module_with image (Ok tables) = Ok (record { entry = image.entry; user = image.user; tables = tables })

abbrev pub finished : Parts → Result (List RowTable) RowFault → Result ModuleParts TableFault
finished image (Err fault) = Err (fault_of fault)
finished image (Ok tables) = module_with image (finished_tables image (addresses_in image tables) tables)

-- The module of an image, or why it is refused: a fault of rows comes before that of a body.
unfoldable pub module_of : Parts → Result ModuleParts TableFault
module_of image = finished image (reading (streams_of image))

-- a refusal is the one that is meant, or want of memory
abbrev pub Refuses : {A : Type 0} → Result A TableFault → TableFault → Type 0
Refuses meant fault = (fault ≡ Memory) ⊎ (meant ≡ Err fault)

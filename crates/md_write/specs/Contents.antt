-- What rows lead to beside the metadata: the bodies of methods (ECMA-335 II.22.26, II.25.4) and the bytes of fields
-- (II.22.18).
use Rattle.std.specs.Prelude.{ℕ, ◌-◌, ◌%◌, ◌==◌, List, [], ◌∷◌, ◌++◌, length, replicate, Option, Some, None}
use Rattle.std.specs.Prelude.{if◌then◌else◌}
use Rattle.md_rows.specs.declared.cell.Cell.{Cell}
use Rattle.md_rows.specs.declared.cell.Cell.TheVariants.{Number, Name, Blob, Index, Coded}
use Rattle.md_tables.specs.declared.module.Table.{Table}
use Rattle.md_tables.specs.declared.module.TableRow.{TableRow}
use Rattle.md_write.specs.Heaps.{table_rows}

-- how many bytes are missing to the next multiple of a number
abbrev pub padding : ℕ → ℕ → ℕ
padding multiple length = (multiple - length % multiple) % multiple

-- bytes with zeros behind them, up to a multiple of a number
abbrev pub padded : ℕ → List ℕ → List ℕ
padded multiple bytes = bytes ++ replicate (padding multiple (length bytes)) 0

abbrev pub or_empty : Option (List ℕ) → List ℕ
or_empty None = []
or_empty (Some bytes) = bytes

-- the bytes that the first of the cells has
abbrev pub bytes_in : Cell → List ℕ
bytes_in (Number number) = []
bytes_in (Name text) = []
bytes_in (Blob bytes) = bytes
bytes_in (Index row) = []
bytes_in (Coded table row) = []

abbrev pub first_bytes : List Cell → List ℕ
first_bytes [] = []
first_bytes (cell ∷ cells) = bytes_in cell

-- What a row of a table leads to: the body of a method that has CIL, or the bytes of a field; nothing in other tables.
abbrev pub led_to : ℕ → TableRow → List ℕ
led_to number row =
    if number == 0x06 then or_empty row.body
    else if number == 0x1D then first_bytes row.cells
    else []

-- bodies begin at multiples of 4, and the bytes of fields at multiples of 8
abbrev pub alignment : ℕ → ℕ
alignment number = if number == 0x06 then 4 else 8

abbrev pub part_of : ℕ → TableRow → List ℕ
part_of number row = padded (alignment number) (led_to number row)

-- what the rows of a table lead to, one behind another
abbrev pub parts_of : ℕ → List TableRow → List ℕ
parts_of number [] = []
parts_of number (row ∷ rest) = part_of number row ++ parts_of number rest

-- the bodies of all methods, and the bytes of all fields
abbrev pub code_of : List Table → List ℕ
code_of tables = padded 8 (parts_of 0x06 (table_rows tables 0x06))

abbrev pub data_of : List Table → List ℕ
data_of tables = parts_of 0x1D (table_rows tables 0x1D)

-- the address of what stands at one; 0 stands for nothing
abbrev pub address_of : ℕ → List ℕ → ℕ
address_of at bytes = if length bytes == 0 then 0 else at

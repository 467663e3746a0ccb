-- Which interfaces the types of a module name: II.22.23.
use Rattle.std.specs.Prelude.{◌≡◌, ℕ, ◌==◌, ◌++◌, ◌∷◌, [], cond, Bool, List, Vec, map, filter, slice_get, Option}
use Rattle.std.specs.Prelude.{Some, None}
use Rattle.std.specs.Global.{Global}
use Rattle.std.specs.Map.{lookup}
use Rattle.md_tables.specs.declared.module.Table.{Table}
use Rattle.md_tables.specs.declared.module.TableRow.{TableRow}
use Rattle.ty_names.specs.declared.cells.RowOf.{RowOf}
use Rattle.ty_names.specs.Modules.{rows, index_of, coded_of}

-- whether a row of InterfaceImpl is one of a type
abbrev pub is_implemented_by : ℕ → TableRow → Bool
is_implemented_by row given = index_of (slice_get given.cells 0) == row

-- the interface that it names, by an index of TypeDefOrRef
abbrev pub named_interface : TableRow → RowOf
named_interface given = coded_of (slice_get given.cells 1)

-- the interfaces of a type, of rows of InterfaceImpl in their order
abbrev pub implemented_in : List TableRow → ℕ → List RowOf
implemented_in given row = map named_interface (filter (is_implemented_by row) given)

abbrev pub implemented : List Table → ℕ → List RowOf
implemented tables row = implemented_in (rows tables 0x09) row

-- ---- entries that tell the interfaces of each type

abbrev pub items_or_none : Option (Vec RowOf Global) → List RowOf
items_or_none None = []
items_or_none (Some found) = found.items

abbrev pub indexes_in : List (ℕ × Vec RowOf Global) → ℕ → List RowOf
indexes_in entries row = items_or_none (lookup (λ key. row == key) entries)

abbrev pub TellImplemented : List TableRow → List (ℕ × Vec RowOf Global) → Type 0
TellImplemented given entries = (row : ℕ) → indexes_in entries row ≡ implemented_in given row

abbrev pub TellInterfaces : List Table → List (ℕ × Vec RowOf Global) → Type 0
TellInterfaces tables entries = TellImplemented (rows tables 0x09) entries

-- they tell one more of a type
abbrev pub TellInterface : ℕ → RowOf → List (ℕ × Vec RowOf Global) → List (ℕ × Vec RowOf Global) → Type 0
TellInterface row index old new =
    (other : ℕ) → indexes_in new other
    ≡ cond (row == other) (indexes_in old other ++ index ∷ []) (indexes_in old other)

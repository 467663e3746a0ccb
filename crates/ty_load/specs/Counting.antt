-- How many generic parameters types have: II.22.20.
use Rattle.std.specs.Prelude.{◌≡◌, ℕ, ◌+◌, ◌<◌, ◌^◌, ◌&&◌, nat_lt, cond, Bool, List, length, slice_get, slice_index}
use Rattle.md_tables.specs.declared.module.Table.{Table}
use Rattle.md_tables.specs.declared.module.TableRow.{TableRow}
use Rattle.ty_names.specs.Modules.{coded_of, row_count}
use Rattle.ty_names.specs.Definitions.{generic_count, is_row_of, type_count}

-- whether a row of GenericParam is one of a type
abbrev pub is_of : ℕ → TableRow → Bool
is_of row parameter = is_row_of (coded_of (slice_get parameter.cells 2)) 0x02 row

-- how many there are of a type, where a row behind the others is counted
abbrev pub counted : TableRow → ℕ → ℕ → ℕ
counted parameter row known = known + cond (is_of row parameter) 1 0

-- how many each type of a module has
pub record AreCounts (tables : List Table) (counts : List ℕ) : Type 0 where
  pub count : length counts ≡ type_count tables
  pub each : (k : ℕ) → k < type_count tables → slice_index counts k ≡ generic_count tables 0x02 (k + 1)

-- the types of a module, their parameters, their fields and their methods have numbers of 32 bits
abbrev pub has_numbers : List Table → Bool
has_numbers tables =
    nat_lt (type_count tables) (2 ^ 32) && nat_lt (row_count tables 0x2A) (2 ^ 32)
    && nat_lt (row_count tables 0x04) (2 ^ 32) && nat_lt (row_count tables 0x06) (2 ^ 32)

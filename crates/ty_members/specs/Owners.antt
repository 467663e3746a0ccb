-- The type that has each row of Field or MethodDef in its run, as a list: II.22.37.
use Rattle.std.specs.Prelude.{◌≡◌, ℕ, ◌+◌, ◌<◌, ◌^◌, ◌&&◌, nat_le, nat_lt, Bool, if◌then◌else◌, List, length}
use Rattle.std.specs.Prelude.{slice_index, slice_get, Option, Some, None}
use Rattle.md_tables.specs.declared.module.Table.{Table}
use Rattle.ty_names.specs.Modules.{World, row_count, tables_at}
use Rattle.ty_names.specs.Definitions.{owner_in, type_count}
use Rattle.ty_members.specs.declared.members.MemberTable.{MemberTable}

-- the row of an owner, or 0 where there is none
abbrev pub owner_or : Option ℕ → ℕ
owner_or None = 0
owner_or (Some row) = row

-- whether a row lies in a run
abbrev pub is_within : ℕ → ℕ → ℕ → Bool
is_within begin end row = nat_le begin row && nat_lt row end

-- what is known of the owner of a row after that of a run was noted
abbrev pub noted : ℕ → ℕ → ℕ → ℕ → ℕ → ℕ
noted begin end owner row known = if is_within begin end row then owner else known

-- the owner of each row of a table
pub record AreOwners (tables : List Table) (column target : ℕ) (owners : List ℕ) : Type 0 where
  pub count : length owners ≡ row_count tables target
  pub each : (k : ℕ) → k < row_count tables target
      → slice_index owners k ≡ owner_or (owner_in tables column target (k + 1))

-- the types, fields and methods of a module have numbers of 32 bits, and so has what is behind them
pub record AreFew (tables : List Table) : Type 0 where
  pub types : type_count tables < 2 ^ 32
  pub fields : row_count tables 0x04 + 1 < 2 ^ 32
  pub methods : row_count tables 0x06 + 1 < 2 ^ 32

-- the owners of the fields and the methods of a module
pub record IsMemberTable (tables : List Table) (table : MemberTable) : Type 0 where
  pub few : AreFew tables
  pub fields : AreOwners tables 4 0x04 table.fields
  pub methods : AreOwners tables 5 0x06 table.methods

-- those of each module
pub record AreMembers (world : World) (members : List MemberTable) : Type 0 where
  pub count : length members ≡ length world
  pub told : (number : ℕ) (table : MemberTable) → slice_get members number ≡ Some table
      → IsMemberTable (tables_at world number) table

-- The module of the heap and the tables that the classes make.
use Rattle.std.proofs.Common.{◌≡◌, ℕ, List}
use Rattle.md_tables.specs.declared.module.Table.{Table}
use Rattle.md_tables.specs.Modules.{ModuleParts}
use Rattle.core_lib.specs.Classes.{classes, texts}
use Rattle.core_lib.specs.Code.{heap_of}
use Rattle.core_lib.specs.Rows.{core, tables_of}

abbrev whole : List ℕ → List Table → ModuleParts
whole user tables = record { entry = 0; user = user; tables = tables }

pub core_is : (user : List ℕ) (tables : List Table) → user ≡ heap_of texts → tables ≡ tables_of classes
    → whole user tables ≡ core
unfolding core
core_is user tables heap rows = λ i. whole (heap i) (rows i)

-- How deep the types of fields are in the modules of a world, as their signatures write them.
use Rattle.std.specs.Prelude.{ℕ, ◌+◌, max, List, [], ◌∷◌, map, slice_get, Result, Ok}
use Rattle.md_sigs.specs.Signatures.{signature}
use Rattle.md_sigs.specs.declared.fault.SigFault.{SigFault}
use Rattle.md_sigs.specs.declared.sig.Sig.{Sig}
use Rattle.md_tables.specs.declared.module.Table.{Table}
use Rattle.md_tables.specs.declared.module.TableRow.{TableRow}
use Rattle.ty_terms.specs.Depth.{depth_of, greatest}
use Rattle.ty_names.specs.Modules.{World, blob_of, rows}

abbrev pub written_depth : Result Sig SigFault → ℕ
written_depth (Ok (Sig.Field ty)) = depth_of ty
written_depth _ = 0

abbrev pub row_depth : ℕ → TableRow → ℕ
row_depth number row = written_depth (signature number (blob_of (slice_get row.cells 2)))

abbrev pub module_depth : ℕ → List Table → ℕ
module_depth number tables = greatest (map (row_depth number) (rows tables 0x04))

abbrev pub deepest_from : ℕ → World → ℕ
deepest_from number [] = 0
deepest_from number (found ∷ rest) = max (module_depth number found.tables) (deepest_from (number + 1) rest)

-- no type of a field is deeper
abbrev pub deepest_field : World → ℕ
deepest_field world = deepest_from 0 world

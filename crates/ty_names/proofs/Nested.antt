-- What a row of NestedClass adds to those behind it.
use Rattle.std.proofs.Common.{◌≡◌, ℕ, Bool, true, false, cond, refl, List, ◌∷◌, find, slice_get, Option, Some}
use Rattle.md_tables.specs.declared.module.TableRow.{TableRow}
use Rattle.ty_names.specs.Modules.{cell_of, index_of}
use Rattle.ty_names.specs.Definitions.{enclosing_in, is_nested_row}
use Rattle.ty_names.specs.Nesting.{noted}

by : (x : TableRow) (rest : Option TableRow) (b : Bool)
    → index_of (cell_of (cond b (Some x) rest) 1)
    ≡ cond b (index_of (slice_get x.cells 1)) (index_of (cell_of rest 1))
by x rest true = refl
by x rest false = refl

pub enclosing_cons : (row : ℕ) (x : TableRow) (xs : List TableRow)
    → enclosing_in (x ∷ xs) row ≡ noted x row (enclosing_in xs row)
enclosing_cons row x xs = by x (find (is_nested_row row) xs) (is_nested_row row x)

-- The row of each operation: what it takes and gives, with its token resolved and its type's and method's arguments in
-- place of variables. ECMA-335 III.3, III.4.
use Rattle.std.specs.Prelude.{[], ◌∷◌, Option, Some, None}
use Rattle.il_stacks.specs.declared.effect.Results.TheVariants.{Nothing}
use Rattle.il_verify.specs.Actions.{ExceptionAction, Throw, Rethrow, EndFinally, Leave, Action, AtPlaces, OnNumbers}
use Rattle.il_verify.specs.Actions.{OnBranches, ByPointers, OnFields, OnVectors, ByCasts, ByCalls, OnExceptions}
use Rattle.il_verify.specs.Actions.{Outside}
use Rattle.il_verify.specs.BranchRows.{branch_row}
use Rattle.il_verify.specs.CallRows.{Prefix, is_readonly, call_action_row}
use Rattle.il_verify.specs.CastRows.{cast_row}
use Rattle.il_verify.specs.FieldRows.{field_row}
use Rattle.il_verify.specs.NumberRows.{number_row}
use Rattle.il_verify.specs.PlaceRows.{place_row}
use Rattle.il_verify.specs.PointerRows.{pointer_row}
use Rattle.il_verify.specs.Row.{Row, is_object, taking}
use Rattle.il_verify.specs.Scope.{Scope}
use Rattle.il_verify.specs.VectorRows.{vector_row}

-- exceptions: `throw`, `rethrow`, `endfinally` and `leave` (III.3.35, III.3.46, III.4.24, III.4.31)
abbrev pub exception_row : ExceptionAction → Row
exception_row Throw = taking (is_object ∷ []) Nothing
exception_row Rethrow = taking [] Nothing
exception_row EndFinally = taking [] Nothing
exception_row (Leave target) = taking [] Nothing

-- the row of an operation behind a prefix, if there is one
unfoldable pub row_of : Scope → Prefix → Action → Option Row
row_of scope prefix (AtPlaces action) = Some (place_row scope action)
row_of scope prefix (OnNumbers action) = Some (number_row action)
row_of scope prefix (OnBranches action) = Some (branch_row action)
row_of scope prefix (ByPointers action) = Some (pointer_row scope action)
row_of scope prefix (OnFields action) = Some (field_row scope action)
row_of scope prefix (OnVectors action) = Some (vector_row scope (is_readonly prefix) action)
row_of scope prefix (ByCasts action) = Some (cast_row scope action)
row_of scope prefix (ByCalls action) = call_action_row scope prefix action
row_of scope prefix (OnExceptions action) = Some (exception_row action)
row_of scope prefix Outside = None

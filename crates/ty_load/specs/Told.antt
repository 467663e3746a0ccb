-- What calls that look types up answer, where a refusal names a row and not yet its text.
use Rattle.std.specs.Prelude.{◌≡◌, ℕ, ◌+◌, ◌*◌, ◌^◌, List, Result, Ok, Err}
use Rattle.ty_load.specs.declared.fault.ResolveFault.{ResolveFault}
use Rattle.ty_load.specs.declared.fault.TypeFault.{TypeFault}
use Rattle.ty_names.specs.declared.cells.RowOf.{RowOf}
use Rattle.ty_names.specs.Modules.{World}
use Rattle.ty_load.specs.Refusals.{refused_name}

-- the name that a refusal of a row tells
abbrev pub row_name : World → ℕ → RowOf → List ℕ
row_name world number index = refused_name world number (index.table * 2 ^ 24 + index.row)

-- what a call answers is this, but for want of memory
abbrev pub IsToldIn : {A : Type 0} → World → Result A TypeFault → Result A ResolveFault → Type 0
IsToldIn world (Ok found) told = told ≡ Ok found
IsToldIn world (Err (TypeFault.BadSig offset)) told = told ≡ Err (ResolveFault.BadSig offset)
IsToldIn world (Err (TypeFault.SigOutside element)) told = told ≡ Err (ResolveFault.SigOutside element)
IsToldIn world (Err (TypeFault.Unresolved number index)) told =
    told ≡ Err (ResolveFault.Unresolved (row_name world number index))
IsToldIn world (Err TypeFault.Memory) told = Unit {0}

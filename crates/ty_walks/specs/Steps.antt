-- One type of a walk: what it says of the whole walk from it on.
use Rattle.std.specs.Prelude.{◌≡◌, ℕ, Bool, Result, Ok, Err}
use Rattle.ty_terms.specs.declared.ty.Ty.{Ty}
use Rattle.ty_names.specs.Modules.{World}
use Rattle.ty_load.specs.declared.fault.ResolveFault.{ResolveFault}
use Rattle.ty_load.specs.declared.fault.TypeFault.{TypeFault}
use Rattle.ty_load.specs.Told.{IsToldIn}
use Rattle.ty_load.specs.Walks.{fits_within}
use Rattle.ty_walks.specs.declared.assigning.Step.{Step}

-- the answer of the walk, or that it goes on from the type above
abbrev pub IsStep : World → ℕ → Ty → Result Step TypeFault → Result Bool ResolveFault → Type 0
IsStep world left to (Ok (Step.Answer fits)) whole = whole ≡ Ok fits
IsStep world left to (Ok (Step.Above base)) whole = whole ≡ fits_within left world base to
IsStep world left to (Err fault) whole = IsToldIn {A = Bool} world (Err fault) whole

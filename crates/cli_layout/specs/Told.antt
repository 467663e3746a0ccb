-- What is told of definitions: what they extend, and how deep the types of their fields are.
use Rattle.std.specs.Prelude.{◌≡◌, ℕ, Option, Some, None, Result, Ok, Err}
use Rattle.ty_terms.specs.declared.ty.Ty.{Ty}
use Rattle.ty_terms.specs.Depth.{depth_of}
use Rattle.ty_load.specs.declared.fault.ResolveFault.{ResolveFault}
use Rattle.cli_layout.specs.declared.extent.Unlaid.{Unlaid}
use Rattle.cli_layout.specs.declared.fault.Fault.{Fault}
use Rattle.cli_layout.specs.declared.fault.Fault.TheVariants.{Not, Memory}
use Rattle.cli_layout.specs.declared.rows.Base.{Base}
use Rattle.cli_layout.specs.declared.rows.Base.TheVariants.{Nothing, Of, Missing}

abbrev pub told_base : Result (Option Ty) ResolveFault → Base
told_base (Err fault) = Missing
told_base (Ok None) = Nothing
told_base (Ok (Some base)) = Of base

abbrev pub depth_if : Option Ty → ℕ
depth_if None = 0
depth_if (Some ty) = depth_of ty

-- An answer is what is told, or want of memory.
abbrev pub Tells : {A : Type 0} → Result A Unlaid → Result A Fault → Type 0
Tells told (Ok answer) = told ≡ Ok answer
Tells told (Err (Not unlaid)) = told ≡ Err unlaid
Tells told (Err Memory) = Unit {0}

-- The classes of a type: itself and those above it. ECMA-335 I.8.9.9, II.10.1.3.
use Rattle.std.specs.Prelude.{ℕ, zero, suc, ◌+◌, List, [], ◌∷◌, length, Option, Some, None, Result, Ok, Err}
use Rattle.std.specs.Prelude.{reverse}
use Rattle.ty_terms.specs.declared.ty.Ty.{Ty}
use Rattle.ty_names.specs.Modules.{World}
use Rattle.ty_load.specs.declared.fault.ResolveFault.{ResolveFault}
use Rattle.ty_load.specs.Cycles.{all_ids}
use Rattle.ty_load.specs.Walks.{base_type}

abbrev pub base_if : Result (Option Ty) ResolveFault → Option Ty
base_if (Ok base) = base
base_if (Err fault) = None

abbrev pub upward_within : ℕ → World → Option Ty → List Ty
upward_within left world None = []
upward_within zero world (Some ty) = []
upward_within (suc left) world (Some ty) = ty ∷ upward_within left world (base_if (base_type world ty))

-- A type and the classes above it, the nearest first, up to a base that leads to nothing. Above a type are no more
-- classes than there are definitions.
abbrev pub upward : World → Ty → List Ty
upward world ty = upward_within (length (all_ids world) + 1) world (Some ty)

-- the same, the topmost first
abbrev pub classes_of : World → Ty → List Ty
classes_of world ty = reverse (upward world ty)

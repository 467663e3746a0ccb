use Rattle.std.proofs.Common.{◌≡◌, drop}
use Rattle.std.specs.List.{list_all}
use Rattle.ty_load.specs.Counting.{has_numbers}
use Rattle.ty_load.proofs.names.are_numbered.Given as goal

-- what is left says the same as all
abbrev pub invariant-loop-module : goal.invariant-loop-module
invariant-loop-module l =
    list_all (λ given. has_numbers given.tables) (drop l.module-index l.modules)
    ≡ list_all (λ given. has_numbers given.tables) l.modules

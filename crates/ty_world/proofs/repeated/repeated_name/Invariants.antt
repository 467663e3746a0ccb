use Rattle.std.proofs.Common.{◌≡◌, ◌-◌, find}
use Rattle.std.specs.List.{range_with_len}
use Rattle.ty_names.specs.Modules.{core_of}
use Rattle.ty_load.specs.Valid.{has_earlier_name, name_at}
use Rattle.ty_world.proofs.repeated.repeated_name.Given as goal

-- what is left says the same as all
abbrev pub invariant-loop-number : goal.invariant-loop-number
invariant-loop-number l =
    find (λ number. has_earlier_name l.names number (name_at l.names number)) (range_with_len 0 (core_of l.names))
    ≡ find (λ number. has_earlier_name l.names number (name_at l.names number))
    (range_with_len l.number (core_of l.names - l.number))

use Rattle.std.proofs.Common.{◌≡◌, drop}
use Rattle.std.specs.List.{list_all}
use Rattle.il_code.specs.Listing.{is_boundary as is_boundary_of}
use Rattle.il_code.proofs.listing.are_boundaries.Given as goal

-- those that were asked have instructions
abbrev pub invariant-loop-offset : goal.invariant-loop-offset
invariant-loop-offset l =
    list_all (is_boundary_of l.instrs) l.offsets ≡ list_all (is_boundary_of l.instrs) (drop l.offset-index l.offsets)

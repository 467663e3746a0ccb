use Rattle.std.proofs.Common.{◌≡◌, ◌≤◌, ◌+◌, ◌*◌, drop}
use Rattle.ty_load.specs.Bases.{interface_indexes}
use Rattle.ty_load.specs.Walks.{fits_within}
use Rattle.ty_walks.specs.Above.{one_fits}
use Rattle.ty_walks.proofs.assigning.+fits.Given as goal

abbrev pub decreases-fits : goal.decreases-fits
decreases-fits l = 6 * l.left

abbrev pub decreases-walk : goal.decreases-walk
decreases-walk l = 6 * l.left + 5

abbrev pub decreases-fits_beside : goal.decreases-fits_beside
decreases-fits_beside l = 6 * l.left + 4

abbrev pub decreases-interfaces_fit : goal.decreases-interfaces_fit
decreases-interfaces_fit l = 6 * l.left + 3

abbrev pub decreases-one_fits : goal.decreases-one_fits
decreases-one_fits l = 6 * l.left + 2

abbrev pub decreases-interface_fits : goal.decreases-interface_fits
decreases-interface_fits l = 6 * l.left + 1

abbrev pub decreases-vectors_fit : goal.decreases-vectors_fit
decreases-vectors_fit l = 6 * l.left + 1

-- the interfaces that are left give the answer
abbrev pub invariant-one_fits-loop-index : goal.invariant-one_fits-loop-index
invariant-one_fits-loop-index l =
    one_fits l.left l.names l.from l.to l.id (drop l.index-index (interface_indexes l.names l.id))
    ≡ one_fits l.left l.names l.from l.to l.id (interface_indexes l.names l.id)

-- the walk from here on gives the answer
abbrev pub invariant-fits-loop-left : goal.invariant-fits-loop-left
invariant-fits-loop-left l = record {
  less : l.left ≤ l.fn.left;
  told : fits_within l.left l.names l.at l.to ≡ fits_within l.fn.left l.names l.fn.from l.to;
}

abbrev pub decreases-fits-loop-left : goal.decreases-fits-loop-left
decreases-fits-loop-left l = l.left

use Rattle.std.proofs.Common.{◌≡◌}
use Rattle.ty_names.specs.Modules.{tables_at}
use Rattle.ty_load.specs.Named.{through}
use Rattle.ty_names.specs.References.{reference, reference_within}
use Rattle.ty_load.proofs.names.Names.outermost.Given as goal

-- the references that were noted lead on from where the next does
abbrev pub invariant-loop-left : goal.invariant-loop-left
invariant-loop-left l =
    reference l.self l.module l.fn.row
    ≡ through l.self (tables_at l.self l.module) l.rows.items (reference_within l.left l.self l.module l.next)

abbrev pub decreases-loop-left : goal.decreases-loop-left
decreases-loop-left l = l.left

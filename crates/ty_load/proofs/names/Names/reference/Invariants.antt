use Rattle.std.proofs.Common.{◌≡◌, vec_len}
use Rattle.ty_names.specs.Modules.{tables_at}
use Rattle.ty_load.specs.Named.{through}
use Rattle.ty_names.specs.References.{reference}
use Rattle.ty_load.proofs.names.Names.reference.Given as goal

-- what is left of the references leads on from where those behind did
abbrev pub invariant-loop-row : goal.invariant-loop-row
invariant-loop-row l =
    reference l.self l.module l.fn.row ≡ through l.self (tables_at l.self l.module) l.rows.items l.outer

abbrev pub decreases-loop-row : goal.decreases-loop-row
decreases-loop-row l = vec_len l.rows

use Rattle.std.proofs.Common.{◌≡◌, drop}
use Rattle.il_verify.specs.Rules.{fits_next}
use Rattle.il_verify.proofs.prefixes.fits_next.Given as goal

abbrev pub invariant-loop-next : goal.invariant-loop-next
invariant-loop-next l = fits_next l.code l.instr ≡ fits_next (drop l.next-index l.code) l.instr

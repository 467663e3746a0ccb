use Rattle.std.proofs.Common.{rules, ◌≢◌, subst, sym, List}
use Rattle.std.proofs.Common.{slice_set, true}
use Rattle.ilc_build.specs.Depths.{row}
use Rattle.ilc_build.specs.Raising.{Raised}
use Rattle.ilc_build.specs.declared.depths.Known.{Known}
use Rattle.ilc_build.proofs.Rising.{raised-row}
use Rattle.ilc_build.proofs.depths.raise_row.Goals as goal

pub returns-clause-raised : goal.returns-clause-raised
returns-clause-raised c =
    let table : List Known = c.args.table.now in
    let old : Known = row table c.args.index in
    let ne : c.join-joined.result ≢ old = search rules in
    subst (λ k. Raised table (slice_set table c.args.index k) true) (sym c.join-joined.ensures)
    (raised-row table c.args.index c.args.known c.requires.within c.requires.shallow c.requires.known
    (subst (λ k. k ≢ old) c.join-joined.ensures ne))

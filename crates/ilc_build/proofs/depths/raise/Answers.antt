use Rattle.std.proofs.Common.{◌≡◌, ◌∙◌, ◌∷◌, [], false, ap, subst, sym, length, arith}
use Rattle.ilc_build.specs.Depths.{IsBelow}
use Rattle.ilc_build.specs.Raising.{IsTold}
use Rattle.ilc_build.proofs.Knowing.{below-clash}
use Rattle.ilc_build.proofs.Rising.{not-raised}
use Rattle.ilc_build.proofs.Rows.{StandElsewhere, known_at-found, known_at-missing}
use Rattle.ilc_build.proofs.Telling.{told-one}
use Rattle.ilc_build.proofs.depths.raise.Goals as goal

pub returns-then-instrs-index : goal.returns-then-instrs-index
returns-then-instrs-index c =
    let size : length c.raise_row.new.table ≡ length c.args.instrs.now = c.raise_row.ensures.raised.size
    ∙ ap length c.loop-index.invariant.same ∙ c.requires.size in
    subst (λ old. IsTold c.args.instrs.now c.args.known (c.args.offset ∷ []) old c.raise_row.new.table
    c.raise_row.result) c.loop-index.invariant.same
    (told-one c.args.instrs.now c.args.known c.args.offset c.loop-index.table c.raise_row.new.table c.raise_row.result
    c.raise_row.ensures.raised
    (subst (IsBelow c.args.known) (sym (known_at-found c.args.instrs.now c.raise_row.new.table c.args.offset
    c.loop-index.index c.index-instrs-index.result size c.loop-index-test.true c.loop-index.invariant.elsewhere
    c.if-instrs-index.true)) c.raise_row.ensures.tells)
    (λ other same below known. c.raise_row.ensures.below other below
    (subst (IsBelow c.args.known) (known_at-found c.args.instrs.now other c.args.offset c.loop-index.index
    c.index-instrs-index.result same c.loop-index-test.true c.loop-index.invariant.elsewhere c.if-instrs-index.true)
    known)))

pub returns : goal.returns
returns c =
    let before : StandElsewhere c.args.instrs.now c.args.offset (length c.args.instrs.now) =
    λ k i h h'. c.loop-index.invariant.elsewhere k i (omega (arith, h, c.loop-index-test.false)) h' in
    subst (λ new. IsTold c.args.instrs.now c.args.known (c.args.offset ∷ []) c.args.table.now new false)
    (sym c.loop-index.invariant.same)
    (told-one c.args.instrs.now c.args.known c.args.offset c.args.table.now c.args.table.now false
    (not-raised c.args.table.now c.requires.shallow)
    (subst (IsBelow c.args.known) (sym (known_at-missing c.args.instrs.now c.args.table.now c.args.offset before))
    (below-clash c.args.known))
    (λ other same below known. below))

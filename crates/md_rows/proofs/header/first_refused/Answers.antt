use Rattle.std.proofs.Common.{◌≡◌, ◌∙◌, true, false, refl, sym, rules}
use Rattle.md_rows.specs.Widths.{first_refused}
use Rattle.md_rows.proofs.Counted.{refused_here, refused_later, refused_nowhere}
use Rattle.md_rows.proofs.header.first_refused.Goals as goal

pub loop-table-init : goal.loop-table-init
unfolding first_refused
loop-table-init c = refl

pub returns-then-is_bad : goal.returns-then-is_bad
returns-then-is_bad c =
    let is : c.is_bad.result ≡ true = search rules in
    sym (refused_here c.args.mask c.loop-table.table (first_refused c.args.mask) c.loop-table-test.true
    (sym c.is_bad.ensures ∙ is) c.loop-table.invariant)

pub loop-table-preserved : goal.loop-table-preserved
loop-table-preserved c =
    let is : c.is_bad.result ≡ false = search rules in
    refused_later c.args.mask c.loop-table.table (first_refused c.args.mask) c.loop-table-test.true
    (sym c.is_bad.ensures ∙ is) c.loop-table.invariant

pub returns : goal.returns
returns c =
    sym (refused_nowhere c.args.mask c.loop-table.table (first_refused c.args.mask) c.loop-table-test.false
    c.loop-table.invariant)

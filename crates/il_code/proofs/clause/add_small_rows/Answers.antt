use Rattle.std.proofs.Common.{◌≡◌, ◌+◌, ◌*◌, ◌∷◌, ◌++◌, [], rules}
use Rattle.il_code.specs.Clauses.{small_row}
use Rattle.il_code.proofs.Sections.{one_more_row}
use Rattle.il_code.proofs.clause.add_small_rows.Goals as goal

pub loop-index-preserved : goal.loop-index-preserved
loop-index-preserved c =
    let pushed : c.push.new.self ≡ c.loop-index.rows ++ c.small_row-row.result ∷ [] = search rules in
    one_more_row (λ k. small_row c.args.bytes.now (c.args.first + 12 * k)) c.args.rows.now c.loop-index.rows
    c.push.new.self c.small_row-row.result c.loop-index.index pushed c.small_row-row.ensures c.loop-index.invariant

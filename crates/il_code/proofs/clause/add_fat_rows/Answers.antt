use Rattle.std.proofs.Common.{◌≡◌, ◌+◌, ◌*◌, ◌∷◌, ◌++◌, [], rules}
use Rattle.il_code.specs.Clauses.{fat_row}
use Rattle.il_code.proofs.Sections.{one_more_row}
use Rattle.il_code.proofs.clause.add_fat_rows.Goals as goal

pub loop-index-preserved : goal.loop-index-preserved
loop-index-preserved c =
    let pushed : c.push.new.self ≡ c.loop-index.rows ++ c.fat_row-row.result ∷ [] = search rules in
    one_more_row (λ k. fat_row c.args.bytes.now (c.args.first + 24 * k)) c.args.rows.now c.loop-index.rows
    c.push.new.self c.fat_row-row.result c.loop-index.index pushed c.fat_row-row.ensures c.loop-index.invariant

use Rattle.std.proofs.Common.{ℕ, arith}
use Rattle.ty_load.proofs.Keys.{tells_one_more}
use Rattle.ty_load.proofs.types.type_rows.Goals as goal

pub loop-left-preserved : goal.loop-left-preserved
loop-left-preserved c =
    let left : ℕ = c.loop-left.left in
    record {
      within = omega arith;
      told =
          tells_one_more c.args.tables.now left c.loop-left.rows.entries c.note_type.new.rows.entries
          c.loop-left-test.true c.loop-left.invariant.within c.in_ok-note_type.ensures c.loop-left.invariant.told;
    }

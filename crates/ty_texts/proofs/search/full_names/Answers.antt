use Rattle.std.proofs.Common.{◌-◌, ℕ, refl, arith}
use Rattle.ty_texts.proofs.Full.{tells_one_module}
use Rattle.ty_texts.proofs.search.full_names.Goals as goal

pub loop-left-preserved : goal.loop-left-preserved
loop-left-preserved c =
    let left : ℕ = c.loop-left.left in
    record {
      within = omega arith;
      told =
          tells_one_module c.args.names.now left (left - 1) c.loop-left.found.entries c.note_names.new.found.entries
          (omega arith) refl c.loop-left.invariant.within c.loop-left.invariant.told c.in_ok-note_names.ensures;
    }

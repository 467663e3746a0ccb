use Rattle.std.proofs.Common.{◌-◌, ℕ, refl, arith}
use Rattle.ty_texts.proofs.Full.{tells_one_more}
use Rattle.ty_texts.proofs.search.note_names.Goals as goal

pub loop-left-preserved : goal.loop-left-preserved
loop-left-preserved c =
    let left : ℕ = c.loop-left.left in
    tells_one_more c.args.names.now c.args.module c.args.found.now.entries left (left - 1) c.loop-left.found.entries
    c.note_name.new.found.entries (omega arith) refl c.loop-left.invariant c.in_ok-note_name.ensures

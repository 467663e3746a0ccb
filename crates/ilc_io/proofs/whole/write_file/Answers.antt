use Rattle.std.proofs.Common.{◌+◌, ap, refl, inr, arith}
use Rattle.std.proofs.lemmas.Result.{err_from_is_err_and}
use Rattle.ilc_io.proofs.Pieces.{next_within, length_of_piece, some_of_piece}
use Rattle.ilc_io.proofs.Stores.{next_stored}
use Rattle.ilc_io.proofs.Progress.{reaches_more, reaches_end, reaches_break}
use Rattle.ilc_io.proofs.whole.write_file.Goals as goal

pub loop-written-preserved : goal.loop-written-preserved
loop-written-preserved g c =
    let at = c.loop-written.written in
    let so_far = c.loop-written.invariant in
    let added = c.in_ok-written.ensures in
    let end_is = ap (λ n. at + n) c.next_len.ensures in
    let asked = length_of_piece at _ 4096 c.args.bytes.now end_is so_far.within in
    let some = added.some (some_of_piece at _ 4096 _ asked c.loop-written-test.true (omega arith)) in
    record {
      within = next_within at _ c.in_ok-written.field-0 c.args.bytes.now so_far.within added.within;
      files_so_far =
          next_stored _ c.args.bytes.now at _ c.in_ok-written.field-0 _ _ _ so_far.files_so_far added.added
          added.within;
      pieces =
          reaches_more _ 4096 _ at _ c.in_ok-written.field-0 _ _ _ _ so_far.pieces added.call_noted asked
          c.loop-written-test.true some added.within refl;
      same_asked = grind arith;
      read_faults = grind arith;
      write_faults = grind arith;
    }

pub returns-in_err-written-clause-pieces_broken_off :
    goal.returns-in_err-written-clause-pieces_broken_off
returns-in_err-written-clause-pieces_broken_off g c =
    let p = err_from_is_err_and c.from_residual-in_err-written.result c.from_residual-in_err-written.ensures.1 in
    let at = c.loop-written.written in
    let end_is = ap (λ n. at + n) c.next_len.ensures in
    let asked = length_of_piece at _ 4096 c.args.bytes.now end_is c.loop-written.invariant.within in
    rw p.1
    (inr (reaches_break _ 4096 _ at _ _ _ _ c.loop-written.invariant.pieces
    c.in_err-written.ensures.may_be_noted asked c.loop-written-test.true))

pub returns-clause-pieces : goal.returns-clause-pieces
returns-clause-pieces g c = reaches_end _ _ _ _ _ _ c.loop-written.invariant.pieces

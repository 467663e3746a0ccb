use Rattle.std.proofs.Common.{◌-◌, ◌<◌, min, subst, ap, ◌∙◌, arith}
use Rattle.ilc_io.proofs.Pieces.{next_content, piece_within}
use Rattle.ilc_io.proofs.Progress.{reaches_more, reaches_end, reaches_last, reaches_break}
use Rattle.ilc_io.proofs.whole.read_content.Goals as goal
use Rattle.ilc_io.proofs.whole.read_content.Goals.{else-loop-bytes-test}
use Rattle.ilc_io.proofs.whole.read_content.Goals.{then-loop-bytes-test+in_ok-read_piece+then-branch-eq0}

pub loop-bytes-preserved : goal.loop-bytes-preserved
loop-bytes-preserved g c = record {
  room = grind arith;
  within = piece_within _ _ 65536 _ c.in_ok-read_piece.field-0 _ c.loop-bytes.invariant.within
      (c.next_len-wanted.ensures ∙ ap (λ n. min 65536 (c.args.size - n)) c.len-in-loop-bytes.ensures)
      c.in_ok-read_piece.ensures.within c.in_ok-read_piece.ensures.length;
  content_so_far = λ store told.
      next_content _ _ _ _ (c.loop-bytes.invariant.content_so_far store told)
      (c.in_ok-read_piece.ensures.content store (c.loop-bytes.invariant.same_files ∙ told))
      c.in_ok-read_piece.ensures.length;
  same_files = grind arith;
  pieces = reaches_more _ 65536 _ _ _ c.in_ok-read_piece.field-0 _ _ _ _ c.loop-bytes.invariant.pieces
      c.in_ok-read_piece.ensures.call_noted
      (c.next_len-wanted.ensures ∙ ap (λ n. min 65536 (c.args.size - n)) c.len-in-loop-bytes.ensures)
      (subst (λ n. n < c.args.size) c.len.ensures c.loop-bytes-test.true) (omega arith)
      c.in_ok-read_piece.ensures.within c.in_ok-read_piece.ensures.length;
  same_asked = grind arith;
  read_faults = grind arith;
  write_faults = grind arith;
}

pub returns-in_err-read_piece-clause-pieces : goal.returns-in_err-read_piece-clause-pieces
returns-in_err-read_piece-clause-pieces g c =
    reaches_break _ 65536 _ _ _ _ _ _ c.loop-bytes.invariant.pieces
    c.in_err-read_piece.ensures.may_be_noted
    (c.next_len-wanted.ensures ∙ ap (λ n. min 65536 (c.args.size - n)) c.len-in-loop-bytes.ensures)
    (subst (λ n. n < c.args.size) c.len.ensures c.loop-bytes-test.true)

pub returns-clause-pieces : goal.returns-clause-pieces
returns-clause-pieces g c =
    elim c.loop-bytes-test.branch [
      | else-loop-bytes-test w ↦ rw w.files-is (reaches_end _ 65536 _ _ _ _ c.loop-bytes.invariant.pieces)
      | then-loop-bytes-test+in_ok-read_piece+then-branch-eq0 w ↦
          rw w.files-is
          (reaches_last _ 65536 _ _ _ _ _ _ c.loop-bytes.invariant.pieces
          w.in_ok-read_piece.ensures.call_noted
          (w.next_len-wanted.ensures ∙ ap (λ n. min 65536 (c.args.size - n)) w.len-in-loop-bytes.ensures)
          (subst (λ n. n < c.args.size) c.len.ensures w.loop-bytes-test.true))
    ]

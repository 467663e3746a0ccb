use Rattle.std.proofs.Common.{◌+◌, ◌<◌, ◌^◌, arith}
use Rattle.image_plan.specs.Places.{code_size}
use Rattle.image_plan.proofs.Ending.{here_within}
use Rattle.image_plan.proofs.parts.add_bodies.Goals as goal

pub code_size-size-requires : goal.code_size-size-requires
code_size-size-requires c =
    let within : c.loop-piece.at + code_size c.piece-item.result < 2 ^ 32 =
    here_within code_size c.loop-piece.at (2 ^ 32) c.loop-piece.piece-index c.piece-item.result c.args.pieces.now
    c.loop-piece-test.true c.piece-item.is c.loop-piece.invariant.below in
    omega (arith, within)

pub overflow_add-at : goal.overflow_add-at
overflow_add-at c =
    let within : c.loop-piece.at + code_size c.piece-item.result < 2 ^ 32 =
    here_within code_size c.loop-piece.at (2 ^ 32) c.loop-piece.piece-index c.piece-item.result c.args.pieces.now
    c.loop-piece-test.true c.piece-item.is c.loop-piece.invariant.below in
    record { fits = omega (arith, within, c.code_size-size.ensures) }

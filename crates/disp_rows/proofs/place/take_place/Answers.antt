use Rattle.disp_rows.proofs.Taking.{taken, same_cells}
use Rattle.disp_rows.proofs.place.take_place.Goals as goal

pub returns-clause-free : goal.returns-clause-free
returns-clause-free c =
    (taken c.args.free.now c.unlink.new.self c.args.places.now c.unlink.new.pool c.args.at c.get_mut-place.result.now
    c.args.cell c.requires.free c.unlink.ensures.sound c.unlink.ensures.places (same_cells c.args.places.now
    c.unlink.new.pool c.unlink.ensures.rests) c.get_mut-place.ensures.value).stays

pub returns-clause-cells : goal.returns-clause-cells
returns-clause-cells c =
    (taken c.args.free.now c.unlink.new.self c.args.places.now c.unlink.new.pool c.args.at c.get_mut-place.result.now
    c.args.cell c.requires.free c.unlink.ensures.sound c.unlink.ensures.places (same_cells c.args.places.now
    c.unlink.new.pool c.unlink.ensures.rests) c.get_mut-place.ensures.value).cells

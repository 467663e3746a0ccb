use Rattle.il_code.proofs.Tiles.{tiled, listed_tiled, bad_opcode, listed_bad}
use Rattle.il_code.proofs.laws.tiling.Goals as goal

pub returns-clause-whole : goal.returns-clause-whole
returns-clause-whole c = λ code instrs. (tiled code instrs, listed_tiled code instrs)

pub returns-clause-cut : goal.returns-clause-cut
returns-clause-cut c = λ code offset. (bad_opcode code offset, listed_bad code offset)

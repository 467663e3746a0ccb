use Rattle.std.proofs.Common.{◌≡◌, ℕ, List, subst}
use Rattle.il_code.specs.declared.listing.CodeFault.{CodeFault}
use Rattle.il_code.specs.declared.listing.CodeFault.TheVariants.{BadOpcode}
use Rattle.il_code.specs.Listing.{NotListed}
use Rattle.il_code.proofs.Tiles.{tiled, bad_opcode}
use Rattle.il_code.proofs.listing.instructions.Goals as goal

pub returns-in-Err-clause-bad_opcode : goal.returns-in-Err-clause-bad_opcode
returns-in-Err-clause-bad_opcode c = λ offset e.
    let code : List ℕ = c.args.code.now in
    let fault : CodeFault = c.in-Err.fault in
    let is : fault ≡ BadOpcode offset = cc in
    bad_opcode code offset (subst (NotListed code) is c.in-Err.ensures.refused)

pub returns-in-None-clause-tiles : goal.returns-in-None-clause-tiles
returns-in-None-clause-tiles c = tiled c.args.code.now c.in-Ok.instrs c.in-Ok.ensures.code

-- The code's table of opcodes is that of the standard.
use Rattle.std.proofs.Common.{◌≡◌, refl}
use Rattle.il_code.specs.Opcodes.{opcodes}
use Rattle.il_code.specs.declared.opcode.TheConstants.{OPCODES}

pub same_opcodes : OPCODES ≡ opcodes
unfolding opcodes
same_opcodes = refl

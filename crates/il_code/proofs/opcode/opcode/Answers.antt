use Rattle.std.proofs.Common.{◌≡◌, ℕ, List, subst}
use Rattle.il_code.specs.declared.opcode.Op.{Op}
use Rattle.il_code.specs.declared.opcode.OperandForm.{OperandForm}
use Rattle.il_code.specs.Instructions.{opcode_row, row_in}
use Rattle.il_code.proofs.Opcodes.{same_opcodes}
use Rattle.il_code.proofs.opcode.opcode.Goals as goal

pub returns : goal.returns
unfolding opcode_row
returns c =
    subst (λ (rows : List (ℕ × Op × OperandForm)). c.row.result ≡ row_in rows c.args.code) same_opcodes c.row.ensures

-- The opcodes that leave ranges, return, rethrow, end a handler, and stand in front of others, with those: ECMA-335
-- III.2.1, III.2.3, III.3.35, III.3.46, III.3.57, III.4.2, III.4.9, III.4.24.
use Rattle.std.specs.Prelude.{Bool, true, false}
use Rattle.il_code.specs.declared.body.Operand.{Operand}
use Rattle.il_code.specs.declared.body.Operand.TheVariants.{Target, Token}
use Rattle.il_code.specs.declared.opcode.Op.{Op}
use Rattle.il_code.specs.declared.opcode.Op.TheVariants.{Callvirt, Constrained, Endfinally, Ldelema, Leave, LeaveS}
use Rattle.il_code.specs.declared.opcode.Op.TheVariants.{Readonly, Ret, Rethrow}

abbrev pub is_leave_op : Op → Bool
is_leave_op Leave = true
is_leave_op LeaveS = true
is_leave_op _ = false

abbrev pub is_return_op : Op → Bool
is_return_op Ret = true
is_return_op _ = false

abbrev pub is_rethrow_op : Op → Bool
is_rethrow_op Rethrow = true
is_rethrow_op _ = false

abbrev pub is_end_op : Op → Bool
is_end_op Endfinally = true
is_end_op _ = false

abbrev pub has_target : Operand → Bool
has_target (Target offset) = true
has_target _ = false

abbrev pub is_constrained_op : Op → Bool
is_constrained_op Constrained = true
is_constrained_op _ = false

abbrev pub is_readonly_op : Op → Bool
is_readonly_op Readonly = true
is_readonly_op _ = false

abbrev pub is_virtual_call_op : Op → Bool
is_virtual_call_op Callvirt = true
is_virtual_call_op _ = false

abbrev pub is_address_op : Op → Bool
is_address_op Ldelema = true
is_address_op _ = false

abbrev pub has_token : Operand → Bool
has_token (Token token) = true
has_token _ = false

-- Which opcodes leave, return, rethrow, end a handler, and stand in front of others.
use Rattle.std.proofs.Common.{◌≡◌, refl, ◌&&◌}
use Rattle.std.specs.Prelude.{pos, negsuc}
use Rattle.il_code.specs.declared.body.Operand.{Operand}
use Rattle.il_code.specs.declared.body.Operand.TheVariants.{Nothing, Number, Token, Target, Targets}
use Rattle.il_code.specs.declared.opcode.Op.{Op}
use Rattle.il_verify.specs.Actions.{action_of}
use Rattle.il_verify.specs.Opcodes.{has_target, has_token, is_address_op, is_constrained_op, is_end_op, is_leave_op}
use Rattle.il_verify.specs.Opcodes.{is_readonly_op, is_rethrow_op, is_return_op, is_virtual_call_op}
use Rattle.il_verify.specs.Rules.{is_address_of_element, is_constrained_prefix, is_end, is_leave, is_readonly_prefix}
use Rattle.il_verify.specs.Rules.{is_rethrow, is_return, is_virtual_call}

pub leave_is : (op : Op) (operand : Operand) → is_leave (action_of op operand) ≡ (is_leave_op op && has_target operand)
unfolding action_of
leave_is Op.Leave Nothing = refl
leave_is _ Nothing = refl
leave_is Op.Leave (Number (pos n)) = refl
leave_is _ (Number (pos n)) = refl
leave_is Op.Leave (Number (negsuc n)) = refl
leave_is _ (Number (negsuc n)) = refl
leave_is Op.Leave (Token token) = refl
leave_is _ (Token token) = refl
leave_is Op.Leave (Target target) = refl
leave_is _ (Target target) = refl
leave_is Op.Leave (Targets targets) = refl
leave_is _ (Targets targets) = refl

pub return_is : (op : Op) (operand : Operand) → is_return (action_of op operand) ≡ is_return_op op
unfolding action_of
return_is Op.Ret Nothing = refl
return_is _ Nothing = refl
return_is Op.Ret (Number (pos n)) = refl
return_is _ (Number (pos n)) = refl
return_is Op.Ret (Number (negsuc n)) = refl
return_is _ (Number (negsuc n)) = refl
return_is Op.Ret (Token token) = refl
return_is _ (Token token) = refl
return_is Op.Ret (Target target) = refl
return_is _ (Target target) = refl
return_is Op.Ret (Targets targets) = refl
return_is _ (Targets targets) = refl

pub rethrow_is : (op : Op) (operand : Operand) → is_rethrow (action_of op operand) ≡ is_rethrow_op op
unfolding action_of
rethrow_is Op.Rethrow Nothing = refl
rethrow_is _ Nothing = refl
rethrow_is Op.Rethrow (Number (pos n)) = refl
rethrow_is _ (Number (pos n)) = refl
rethrow_is Op.Rethrow (Number (negsuc n)) = refl
rethrow_is _ (Number (negsuc n)) = refl
rethrow_is Op.Rethrow (Token token) = refl
rethrow_is _ (Token token) = refl
rethrow_is Op.Rethrow (Target target) = refl
rethrow_is _ (Target target) = refl
rethrow_is Op.Rethrow (Targets targets) = refl
rethrow_is _ (Targets targets) = refl

pub end_is : (op : Op) (operand : Operand) → is_end (action_of op operand) ≡ is_end_op op
unfolding action_of
end_is Op.Endfinally Nothing = refl
end_is _ Nothing = refl
end_is Op.Endfinally (Number (pos n)) = refl
end_is _ (Number (pos n)) = refl
end_is Op.Endfinally (Number (negsuc n)) = refl
end_is _ (Number (negsuc n)) = refl
end_is Op.Endfinally (Token token) = refl
end_is _ (Token token) = refl
end_is Op.Endfinally (Target target) = refl
end_is _ (Target target) = refl
end_is Op.Endfinally (Targets targets) = refl
end_is _ (Targets targets) = refl

pub constrained_is : (op : Op) (operand : Operand)
    → is_constrained_prefix (action_of op operand) ≡ (is_constrained_op op && has_token operand)
unfolding action_of
constrained_is Op.Constrained Nothing = refl
constrained_is _ Nothing = refl
constrained_is Op.Constrained (Number (pos n)) = refl
constrained_is _ (Number (pos n)) = refl
constrained_is Op.Constrained (Number (negsuc n)) = refl
constrained_is _ (Number (negsuc n)) = refl
constrained_is Op.Constrained (Token token) = refl
constrained_is _ (Token token) = refl
constrained_is Op.Constrained (Target target) = refl
constrained_is _ (Target target) = refl
constrained_is Op.Constrained (Targets targets) = refl
constrained_is _ (Targets targets) = refl

pub readonly_is : (op : Op) (operand : Operand) → is_readonly_prefix (action_of op operand) ≡ is_readonly_op op
unfolding action_of
readonly_is Op.Readonly Nothing = refl
readonly_is _ Nothing = refl
readonly_is Op.Readonly (Number (pos n)) = refl
readonly_is _ (Number (pos n)) = refl
readonly_is Op.Readonly (Number (negsuc n)) = refl
readonly_is _ (Number (negsuc n)) = refl
readonly_is Op.Readonly (Token token) = refl
readonly_is _ (Token token) = refl
readonly_is Op.Readonly (Target target) = refl
readonly_is _ (Target target) = refl
readonly_is Op.Readonly (Targets targets) = refl
readonly_is _ (Targets targets) = refl

pub virtual_call_is : (op : Op) (operand : Operand)
    → is_virtual_call (action_of op operand) ≡ (is_virtual_call_op op && has_token operand)
unfolding action_of
virtual_call_is Op.Callvirt Nothing = refl
virtual_call_is _ Nothing = refl
virtual_call_is Op.Callvirt (Number (pos n)) = refl
virtual_call_is _ (Number (pos n)) = refl
virtual_call_is Op.Callvirt (Number (negsuc n)) = refl
virtual_call_is _ (Number (negsuc n)) = refl
virtual_call_is Op.Callvirt (Token token) = refl
virtual_call_is _ (Token token) = refl
virtual_call_is Op.Callvirt (Target target) = refl
virtual_call_is _ (Target target) = refl
virtual_call_is Op.Callvirt (Targets targets) = refl
virtual_call_is _ (Targets targets) = refl

pub address_is : (op : Op) (operand : Operand)
    → is_address_of_element (action_of op operand) ≡ (is_address_op op && has_token operand)
unfolding action_of
address_is Op.Ldelema Nothing = refl
address_is _ Nothing = refl
address_is Op.Ldelema (Number (pos n)) = refl
address_is _ (Number (pos n)) = refl
address_is Op.Ldelema (Number (negsuc n)) = refl
address_is _ (Number (negsuc n)) = refl
address_is Op.Ldelema (Token token) = refl
address_is _ (Token token) = refl
address_is Op.Ldelema (Target target) = refl
address_is _ (Target target) = refl
address_is Op.Ldelema (Targets targets) = refl
address_is _ (Targets targets) = refl

-- The instruction of a word, by its parts.
use Rattle.std.specs.Prelude.{◌/◌, Option, Some, None, ◌==◌, if◌then◌else◌}
use Rattle.rv_isa.specs.declared.ins.Ins.{Ins}
use Rattle.rv_isa.specs.Parts.{Parts, i_imm_of, s_imm_of, b_imm_of, u_imm_of, j_imm_of, shamt_of}

abbrev pub shift_left_row : Parts → Option Ins
shift_left_row f =
    if f.funct7 / 2 == 0 then Some (Ins.Slli f.rd f.rs1 (shamt_of f))
    else None

abbrev pub shift_right_row : Parts → Option Ins
shift_right_row f =
    if f.funct7 / 2 == 0 then Some (Ins.Srli f.rd f.rs1 (shamt_of f))
    else if f.funct7 / 2 == 16 then Some (Ins.Srai f.rd f.rs1 (shamt_of f))
    else None

abbrev pub word_shift_left_row : Parts → Option Ins
word_shift_left_row f =
    if f.funct7 == 0 then Some (Ins.Slliw f.rd f.rs1 f.rs2)
    else None

abbrev pub word_shift_right_row : Parts → Option Ins
word_shift_right_row f =
    if f.funct7 == 0 then Some (Ins.Srliw f.rd f.rs1 f.rs2)
    else if f.funct7 == 32 then Some (Ins.Sraiw f.rd f.rs1 f.rs2)
    else None

abbrev pub jalr_row : Parts → Option Ins
jalr_row f =
    if f.funct3 == 0 then Some (Ins.Jalr f.rd f.rs1 (i_imm_of f))
    else None

abbrev pub branch_row : Parts → Option Ins
branch_row f =
    if f.funct3 == 0 then Some (Ins.Beq f.rs1 f.rs2 (b_imm_of f))
    else if f.funct3 == 1 then Some (Ins.Bne f.rs1 f.rs2 (b_imm_of f))
    else if f.funct3 == 4 then Some (Ins.Blt f.rs1 f.rs2 (b_imm_of f))
    else if f.funct3 == 5 then Some (Ins.Bge f.rs1 f.rs2 (b_imm_of f))
    else if f.funct3 == 6 then Some (Ins.Bltu f.rs1 f.rs2 (b_imm_of f))
    else if f.funct3 == 7 then Some (Ins.Bgeu f.rs1 f.rs2 (b_imm_of f))
    else None

abbrev pub load_row : Parts → Option Ins
load_row f =
    if f.funct3 == 0 then Some (Ins.Lb f.rd f.rs1 (i_imm_of f))
    else if f.funct3 == 1 then Some (Ins.Lh f.rd f.rs1 (i_imm_of f))
    else if f.funct3 == 2 then Some (Ins.Lw f.rd f.rs1 (i_imm_of f))
    else if f.funct3 == 3 then Some (Ins.Ld f.rd f.rs1 (i_imm_of f))
    else if f.funct3 == 4 then Some (Ins.Lbu f.rd f.rs1 (i_imm_of f))
    else if f.funct3 == 5 then Some (Ins.Lhu f.rd f.rs1 (i_imm_of f))
    else if f.funct3 == 6 then Some (Ins.Lwu f.rd f.rs1 (i_imm_of f))
    else None

abbrev pub store_row : Parts → Option Ins
store_row f =
    if f.funct3 == 0 then Some (Ins.Sb f.rs1 f.rs2 (s_imm_of f))
    else if f.funct3 == 1 then Some (Ins.Sh f.rs1 f.rs2 (s_imm_of f))
    else if f.funct3 == 2 then Some (Ins.Sw f.rs1 f.rs2 (s_imm_of f))
    else if f.funct3 == 3 then Some (Ins.Sd f.rs1 f.rs2 (s_imm_of f))
    else None

abbrev pub op_imm_row : Parts → Option Ins
op_imm_row f =
    if f.funct3 == 0 then Some (Ins.Addi f.rd f.rs1 (i_imm_of f))
    else if f.funct3 == 1 then shift_left_row f
    else if f.funct3 == 2 then Some (Ins.Slti f.rd f.rs1 (i_imm_of f))
    else if f.funct3 == 3 then Some (Ins.Sltiu f.rd f.rs1 (i_imm_of f))
    else if f.funct3 == 4 then Some (Ins.Xori f.rd f.rs1 (i_imm_of f))
    else if f.funct3 == 5 then shift_right_row f
    else if f.funct3 == 6 then Some (Ins.Ori f.rd f.rs1 (i_imm_of f))
    else if f.funct3 == 7 then Some (Ins.Andi f.rd f.rs1 (i_imm_of f))
    else None

abbrev pub op_imm_32_row : Parts → Option Ins
op_imm_32_row f =
    if f.funct3 == 0 then Some (Ins.Addiw f.rd f.rs1 (i_imm_of f))
    else if f.funct3 == 1 then word_shift_left_row f
    else if f.funct3 == 5 then word_shift_right_row f
    else None

abbrev pub op_base_row : Parts → Option Ins
op_base_row f =
    if f.funct3 == 0 then Some (Ins.Add f.rd f.rs1 f.rs2)
    else if f.funct3 == 1 then Some (Ins.Sll f.rd f.rs1 f.rs2)
    else if f.funct3 == 2 then Some (Ins.Slt f.rd f.rs1 f.rs2)
    else if f.funct3 == 3 then Some (Ins.Sltu f.rd f.rs1 f.rs2)
    else if f.funct3 == 4 then Some (Ins.Xor f.rd f.rs1 f.rs2)
    else if f.funct3 == 5 then Some (Ins.Srl f.rd f.rs1 f.rs2)
    else if f.funct3 == 6 then Some (Ins.Or f.rd f.rs1 f.rs2)
    else if f.funct3 == 7 then Some (Ins.And f.rd f.rs1 f.rs2)
    else None

abbrev pub op_alternate_row : Parts → Option Ins
op_alternate_row f =
    if f.funct3 == 0 then Some (Ins.Sub f.rd f.rs1 f.rs2)
    else if f.funct3 == 5 then Some (Ins.Sra f.rd f.rs1 f.rs2)
    else None

abbrev pub op_multiply_row : Parts → Option Ins
op_multiply_row f =
    if f.funct3 == 0 then Some (Ins.Mul f.rd f.rs1 f.rs2)
    else if f.funct3 == 1 then Some (Ins.Mulh f.rd f.rs1 f.rs2)
    else if f.funct3 == 2 then Some (Ins.Mulhsu f.rd f.rs1 f.rs2)
    else if f.funct3 == 3 then Some (Ins.Mulhu f.rd f.rs1 f.rs2)
    else if f.funct3 == 4 then Some (Ins.Div f.rd f.rs1 f.rs2)
    else if f.funct3 == 5 then Some (Ins.Divu f.rd f.rs1 f.rs2)
    else if f.funct3 == 6 then Some (Ins.Rem f.rd f.rs1 f.rs2)
    else if f.funct3 == 7 then Some (Ins.Remu f.rd f.rs1 f.rs2)
    else None

abbrev pub op_32_base_row : Parts → Option Ins
op_32_base_row f =
    if f.funct3 == 0 then Some (Ins.Addw f.rd f.rs1 f.rs2)
    else if f.funct3 == 1 then Some (Ins.Sllw f.rd f.rs1 f.rs2)
    else if f.funct3 == 5 then Some (Ins.Srlw f.rd f.rs1 f.rs2)
    else None

abbrev pub op_32_alternate_row : Parts → Option Ins
op_32_alternate_row f =
    if f.funct3 == 0 then Some (Ins.Subw f.rd f.rs1 f.rs2)
    else if f.funct3 == 5 then Some (Ins.Sraw f.rd f.rs1 f.rs2)
    else None

abbrev pub op_32_multiply_row : Parts → Option Ins
op_32_multiply_row f =
    if f.funct3 == 0 then Some (Ins.Mulw f.rd f.rs1 f.rs2)
    else if f.funct3 == 4 then Some (Ins.Divw f.rd f.rs1 f.rs2)
    else if f.funct3 == 5 then Some (Ins.Divuw f.rd f.rs1 f.rs2)
    else if f.funct3 == 6 then Some (Ins.Remw f.rd f.rs1 f.rs2)
    else if f.funct3 == 7 then Some (Ins.Remuw f.rd f.rs1 f.rs2)
    else None

abbrev pub op_row : Parts → Option Ins
op_row f =
    if f.funct7 == 0 then op_base_row f
    else if f.funct7 == 32 then op_alternate_row f
    else if f.funct7 == 1 then op_multiply_row f
    else None

abbrev pub op_32_row : Parts → Option Ins
op_32_row f =
    if f.funct7 == 0 then op_32_base_row f
    else if f.funct7 == 32 then op_32_alternate_row f
    else if f.funct7 == 1 then op_32_multiply_row f
    else None

abbrev pub system_row : Parts → Option Ins
system_row f =
    if f.rd == 0 then if f.funct3 == 0 then if f.rs1 == 0 then if f.rs2 == 0 then if f.funct7 == 0 then Some Ins.Ecall
    else None else None else None else None else None

unfoldable pub instruction : Parts → Option Ins
instruction f =
    if f.opcode == 55 then Some (Ins.Lui f.rd (u_imm_of f))
    else if f.opcode == 23 then Some (Ins.Auipc f.rd (u_imm_of f))
    else if f.opcode == 111 then Some (Ins.Jal f.rd (j_imm_of f))
    else if f.opcode == 103 then jalr_row f
    else if f.opcode == 99 then branch_row f
    else if f.opcode == 3 then load_row f
    else if f.opcode == 35 then store_row f
    else if f.opcode == 19 then op_imm_row f
    else if f.opcode == 27 then op_imm_32_row f
    else if f.opcode == 51 then op_row f
    else if f.opcode == 59 then op_32_row f
    else if f.opcode == 115 then system_row f
    else None

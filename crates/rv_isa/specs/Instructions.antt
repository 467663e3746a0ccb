-- The table of instruction words: RISC-V unprivileged manual, "RV32/64G Instruction Set Listings", those of RV64I and M
-- but for `fence` and `ebreak`.
use Rattle.std.specs.Prelude.{ℕ, ◌<◌, ◌^◌, ℤ, pos}
use Rattle.rv_isa.specs.declared.ins.Ins.{Ins}
use Rattle.rv_isa.specs.Operands.{IsImmediate, IsBranchOffset, IsJumpOffset}
use Rattle.rv_isa.specs.Formats.{r_format, i_format, s_format, b_format, u_format, j_format, shift_format}

-- the format with its opcode, then funct3, then funct7 or the upper bits above a shift amount, then the operands
abbrev pub word_of : Ins → ℕ
word_of (Ins.Lui rd imm) = u_format 0x37 rd imm
word_of (Ins.Auipc rd imm) = u_format 0x17 rd imm
word_of (Ins.Jal rd imm) = j_format 0x6f rd imm
word_of (Ins.Jalr rd rs1 imm) = i_format 0x67 0 rd rs1 imm
word_of (Ins.Beq rs1 rs2 imm) = b_format 0x63 0 rs1 rs2 imm
word_of (Ins.Bne rs1 rs2 imm) = b_format 0x63 1 rs1 rs2 imm
word_of (Ins.Blt rs1 rs2 imm) = b_format 0x63 4 rs1 rs2 imm
word_of (Ins.Bge rs1 rs2 imm) = b_format 0x63 5 rs1 rs2 imm
word_of (Ins.Bltu rs1 rs2 imm) = b_format 0x63 6 rs1 rs2 imm
word_of (Ins.Bgeu rs1 rs2 imm) = b_format 0x63 7 rs1 rs2 imm
word_of (Ins.Lb rd rs1 imm) = i_format 0x03 0 rd rs1 imm
word_of (Ins.Lh rd rs1 imm) = i_format 0x03 1 rd rs1 imm
word_of (Ins.Lw rd rs1 imm) = i_format 0x03 2 rd rs1 imm
word_of (Ins.Ld rd rs1 imm) = i_format 0x03 3 rd rs1 imm
word_of (Ins.Lbu rd rs1 imm) = i_format 0x03 4 rd rs1 imm
word_of (Ins.Lhu rd rs1 imm) = i_format 0x03 5 rd rs1 imm
word_of (Ins.Lwu rd rs1 imm) = i_format 0x03 6 rd rs1 imm
word_of (Ins.Sb rs1 rs2 imm) = s_format 0x23 0 rs1 rs2 imm
word_of (Ins.Sh rs1 rs2 imm) = s_format 0x23 1 rs1 rs2 imm
word_of (Ins.Sw rs1 rs2 imm) = s_format 0x23 2 rs1 rs2 imm
word_of (Ins.Sd rs1 rs2 imm) = s_format 0x23 3 rs1 rs2 imm
word_of (Ins.Addi rd rs1 imm) = i_format 0x13 0 rd rs1 imm
word_of (Ins.Slti rd rs1 imm) = i_format 0x13 2 rd rs1 imm
word_of (Ins.Sltiu rd rs1 imm) = i_format 0x13 3 rd rs1 imm
word_of (Ins.Xori rd rs1 imm) = i_format 0x13 4 rd rs1 imm
word_of (Ins.Ori rd rs1 imm) = i_format 0x13 6 rd rs1 imm
word_of (Ins.Andi rd rs1 imm) = i_format 0x13 7 rd rs1 imm
word_of (Ins.Slli rd rs1 shamt) = shift_format 0x13 1 0 rd rs1 shamt
word_of (Ins.Srli rd rs1 shamt) = shift_format 0x13 5 0 rd rs1 shamt
word_of (Ins.Srai rd rs1 shamt) = shift_format 0x13 5 16 rd rs1 shamt
word_of (Ins.Addiw rd rs1 imm) = i_format 0x1b 0 rd rs1 imm
word_of (Ins.Slliw rd rs1 shamt) = r_format 0x1b 1 0 rd rs1 shamt
word_of (Ins.Srliw rd rs1 shamt) = r_format 0x1b 5 0 rd rs1 shamt
word_of (Ins.Sraiw rd rs1 shamt) = r_format 0x1b 5 32 rd rs1 shamt
word_of (Ins.Add rd rs1 rs2) = r_format 0x33 0 0 rd rs1 rs2
word_of (Ins.Sll rd rs1 rs2) = r_format 0x33 1 0 rd rs1 rs2
word_of (Ins.Slt rd rs1 rs2) = r_format 0x33 2 0 rd rs1 rs2
word_of (Ins.Sltu rd rs1 rs2) = r_format 0x33 3 0 rd rs1 rs2
word_of (Ins.Xor rd rs1 rs2) = r_format 0x33 4 0 rd rs1 rs2
word_of (Ins.Srl rd rs1 rs2) = r_format 0x33 5 0 rd rs1 rs2
word_of (Ins.Or rd rs1 rs2) = r_format 0x33 6 0 rd rs1 rs2
word_of (Ins.And rd rs1 rs2) = r_format 0x33 7 0 rd rs1 rs2
word_of (Ins.Sub rd rs1 rs2) = r_format 0x33 0 32 rd rs1 rs2
word_of (Ins.Sra rd rs1 rs2) = r_format 0x33 5 32 rd rs1 rs2
word_of (Ins.Mul rd rs1 rs2) = r_format 0x33 0 1 rd rs1 rs2
word_of (Ins.Mulh rd rs1 rs2) = r_format 0x33 1 1 rd rs1 rs2
word_of (Ins.Mulhsu rd rs1 rs2) = r_format 0x33 2 1 rd rs1 rs2
word_of (Ins.Mulhu rd rs1 rs2) = r_format 0x33 3 1 rd rs1 rs2
word_of (Ins.Div rd rs1 rs2) = r_format 0x33 4 1 rd rs1 rs2
word_of (Ins.Divu rd rs1 rs2) = r_format 0x33 5 1 rd rs1 rs2
word_of (Ins.Rem rd rs1 rs2) = r_format 0x33 6 1 rd rs1 rs2
word_of (Ins.Remu rd rs1 rs2) = r_format 0x33 7 1 rd rs1 rs2
word_of (Ins.Addw rd rs1 rs2) = r_format 0x3b 0 0 rd rs1 rs2
word_of (Ins.Sllw rd rs1 rs2) = r_format 0x3b 1 0 rd rs1 rs2
word_of (Ins.Srlw rd rs1 rs2) = r_format 0x3b 5 0 rd rs1 rs2
word_of (Ins.Subw rd rs1 rs2) = r_format 0x3b 0 32 rd rs1 rs2
word_of (Ins.Sraw rd rs1 rs2) = r_format 0x3b 5 32 rd rs1 rs2
word_of (Ins.Mulw rd rs1 rs2) = r_format 0x3b 0 1 rd rs1 rs2
word_of (Ins.Divw rd rs1 rs2) = r_format 0x3b 4 1 rd rs1 rs2
word_of (Ins.Divuw rd rs1 rs2) = r_format 0x3b 5 1 rd rs1 rs2
word_of (Ins.Remw rd rs1 rs2) = r_format 0x3b 6 1 rd rs1 rs2
word_of (Ins.Remuw rd rs1 rs2) = r_format 0x3b 7 1 rd rs1 rs2
word_of Ins.Ecall = i_format 0x73 0 0 0 (pos 0)

-- operands in range, by format
abbrev pub AreROperands : ℕ → ℕ → ℕ → Type 0
AreROperands rd rs1 rs2 = (rd < 32) × (rs1 < 32) × (rs2 < 32)

abbrev pub AreIOperands : ℕ → ℕ → ℤ → Type 0
AreIOperands rd rs1 imm = (rd < 32) × (rs1 < 32) × IsImmediate imm

abbrev pub AreSOperands : ℕ → ℕ → ℤ → Type 0
AreSOperands rs1 rs2 imm = (rs1 < 32) × (rs2 < 32) × IsImmediate imm

abbrev pub AreBOperands : ℕ → ℕ → ℤ → Type 0
AreBOperands rs1 rs2 imm = (rs1 < 32) × (rs2 < 32) × IsBranchOffset imm

abbrev pub AreUOperands : ℕ → ℕ → Type 0
AreUOperands rd imm = (rd < 32) × (imm < 2 ^ 20)

abbrev pub AreJOperands : ℕ → ℤ → Type 0
AreJOperands rd imm = (rd < 32) × IsJumpOffset imm

abbrev pub AreShiftOperands : ℕ → ℕ → ℕ → Type 0
AreShiftOperands rd rs1 shamt = (rd < 32) × (rs1 < 32) × (shamt < 64)

abbrev pub AreWordShiftOperands : ℕ → ℕ → ℕ → Type 0
AreWordShiftOperands rd rs1 shamt = (rd < 32) × (rs1 < 32) × (shamt < 32)

-- the operands are in range
abbrev pub IsLegal : Ins → Type 0
IsLegal (Ins.Lui rd imm) = AreUOperands rd imm
IsLegal (Ins.Auipc rd imm) = AreUOperands rd imm
IsLegal (Ins.Jal rd imm) = AreJOperands rd imm
IsLegal (Ins.Jalr rd rs1 imm) = AreIOperands rd rs1 imm
IsLegal (Ins.Beq rs1 rs2 imm) = AreBOperands rs1 rs2 imm
IsLegal (Ins.Bne rs1 rs2 imm) = AreBOperands rs1 rs2 imm
IsLegal (Ins.Blt rs1 rs2 imm) = AreBOperands rs1 rs2 imm
IsLegal (Ins.Bge rs1 rs2 imm) = AreBOperands rs1 rs2 imm
IsLegal (Ins.Bltu rs1 rs2 imm) = AreBOperands rs1 rs2 imm
IsLegal (Ins.Bgeu rs1 rs2 imm) = AreBOperands rs1 rs2 imm
IsLegal (Ins.Lb rd rs1 imm) = AreIOperands rd rs1 imm
IsLegal (Ins.Lh rd rs1 imm) = AreIOperands rd rs1 imm
IsLegal (Ins.Lw rd rs1 imm) = AreIOperands rd rs1 imm
IsLegal (Ins.Ld rd rs1 imm) = AreIOperands rd rs1 imm
IsLegal (Ins.Lbu rd rs1 imm) = AreIOperands rd rs1 imm
IsLegal (Ins.Lhu rd rs1 imm) = AreIOperands rd rs1 imm
IsLegal (Ins.Lwu rd rs1 imm) = AreIOperands rd rs1 imm
IsLegal (Ins.Sb rs1 rs2 imm) = AreSOperands rs1 rs2 imm
IsLegal (Ins.Sh rs1 rs2 imm) = AreSOperands rs1 rs2 imm
IsLegal (Ins.Sw rs1 rs2 imm) = AreSOperands rs1 rs2 imm
IsLegal (Ins.Sd rs1 rs2 imm) = AreSOperands rs1 rs2 imm
IsLegal (Ins.Addi rd rs1 imm) = AreIOperands rd rs1 imm
IsLegal (Ins.Slti rd rs1 imm) = AreIOperands rd rs1 imm
IsLegal (Ins.Sltiu rd rs1 imm) = AreIOperands rd rs1 imm
IsLegal (Ins.Xori rd rs1 imm) = AreIOperands rd rs1 imm
IsLegal (Ins.Ori rd rs1 imm) = AreIOperands rd rs1 imm
IsLegal (Ins.Andi rd rs1 imm) = AreIOperands rd rs1 imm
IsLegal (Ins.Slli rd rs1 shamt) = AreShiftOperands rd rs1 shamt
IsLegal (Ins.Srli rd rs1 shamt) = AreShiftOperands rd rs1 shamt
IsLegal (Ins.Srai rd rs1 shamt) = AreShiftOperands rd rs1 shamt
IsLegal (Ins.Addiw rd rs1 imm) = AreIOperands rd rs1 imm
IsLegal (Ins.Slliw rd rs1 shamt) = AreWordShiftOperands rd rs1 shamt
IsLegal (Ins.Srliw rd rs1 shamt) = AreWordShiftOperands rd rs1 shamt
IsLegal (Ins.Sraiw rd rs1 shamt) = AreWordShiftOperands rd rs1 shamt
IsLegal (Ins.Add rd rs1 rs2) = AreROperands rd rs1 rs2
IsLegal (Ins.Sll rd rs1 rs2) = AreROperands rd rs1 rs2
IsLegal (Ins.Slt rd rs1 rs2) = AreROperands rd rs1 rs2
IsLegal (Ins.Sltu rd rs1 rs2) = AreROperands rd rs1 rs2
IsLegal (Ins.Xor rd rs1 rs2) = AreROperands rd rs1 rs2
IsLegal (Ins.Srl rd rs1 rs2) = AreROperands rd rs1 rs2
IsLegal (Ins.Or rd rs1 rs2) = AreROperands rd rs1 rs2
IsLegal (Ins.And rd rs1 rs2) = AreROperands rd rs1 rs2
IsLegal (Ins.Sub rd rs1 rs2) = AreROperands rd rs1 rs2
IsLegal (Ins.Sra rd rs1 rs2) = AreROperands rd rs1 rs2
IsLegal (Ins.Mul rd rs1 rs2) = AreROperands rd rs1 rs2
IsLegal (Ins.Mulh rd rs1 rs2) = AreROperands rd rs1 rs2
IsLegal (Ins.Mulhsu rd rs1 rs2) = AreROperands rd rs1 rs2
IsLegal (Ins.Mulhu rd rs1 rs2) = AreROperands rd rs1 rs2
IsLegal (Ins.Div rd rs1 rs2) = AreROperands rd rs1 rs2
IsLegal (Ins.Divu rd rs1 rs2) = AreROperands rd rs1 rs2
IsLegal (Ins.Rem rd rs1 rs2) = AreROperands rd rs1 rs2
IsLegal (Ins.Remu rd rs1 rs2) = AreROperands rd rs1 rs2
IsLegal (Ins.Addw rd rs1 rs2) = AreROperands rd rs1 rs2
IsLegal (Ins.Sllw rd rs1 rs2) = AreROperands rd rs1 rs2
IsLegal (Ins.Srlw rd rs1 rs2) = AreROperands rd rs1 rs2
IsLegal (Ins.Subw rd rs1 rs2) = AreROperands rd rs1 rs2
IsLegal (Ins.Sraw rd rs1 rs2) = AreROperands rd rs1 rs2
IsLegal (Ins.Mulw rd rs1 rs2) = AreROperands rd rs1 rs2
IsLegal (Ins.Divw rd rs1 rs2) = AreROperands rd rs1 rs2
IsLegal (Ins.Divuw rd rs1 rs2) = AreROperands rd rs1 rs2
IsLegal (Ins.Remw rd rs1 rs2) = AreROperands rd rs1 rs2
IsLegal (Ins.Remuw rd rs1 rs2) = AreROperands rd rs1 rs2
IsLegal Ins.Ecall = Unit {0}

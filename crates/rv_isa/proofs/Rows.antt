-- The instruction of a legal instruction's word is that instruction, and the word of the instruction that
-- is found is the word.
use Rattle.std.proofs.Common.{◌≡◌, ℕ, ◌<◌, ◌^◌, ◌/◌, ◌==◌, Some, Option, Bool, true, false, cond, refl, ap, sym, subst}
use Rattle.std.proofs.Common.{◌∙◌, arith, lit<}
use Rattle.std.specs.Prelude.{IfSome}
use Rattle.std.proofs.lemmas.Bool.{eqb-true}
use Rattle.rv_isa.specs.declared.ins.Ins.{Ins}
use Rattle.rv_isa.specs.Instructions.{word_of, IsLegal}
use Rattle.rv_isa.specs.Parts.{Parts, parts_of, IsParts, whole}
use Rattle.rv_isa.specs.Rows.{instruction, shift_left_row, shift_right_row, word_shift_left_row, word_shift_right_row}
use Rattle.rv_isa.specs.Rows.{jalr_row, branch_row, load_row, store_row, op_imm_row, op_imm_32_row, op_base_row}
use Rattle.rv_isa.specs.Rows.{op_alternate_row, op_multiply_row, op_32_base_row, op_32_alternate_row}
use Rattle.rv_isa.specs.Rows.{op_32_multiply_row, op_row, op_32_row, system_row}
use Rattle.rv_isa.proofs.WordParts.{r_parts, i_parts, i_imm, s_parts, s_imm, b_parts, b_imm, u_parts, u_imm, j_parts}
use Rattle.rv_isa.proofs.WordParts.{j_imm, shift_parts, upper_bits, shift_amount, r_whole, i_whole, s_whole, b_whole}
use Rattle.rv_isa.proofs.WordParts.{u_whole, j_whole, shift_whole, i_imm_fits, s_imm_fits, b_imm_fits, j_imm_fits}
use Rattle.rv_isa.proofs.WordParts.{u_imm_fits, shamt_fits}

pub known : (ins : Ins) → IsLegal ins → instruction (parts_of (word_of ins)) ≡ Some ins
unfolding instruction
known (Ins.Lui rd imm) l = ap instruction (u_parts 0x37 rd imm (lit< tt) l.0 l.1)
    ∙ ap (λ i. Some (Ins.Lui rd i)) (u_imm 0x37 rd imm l.1)
known (Ins.Auipc rd imm) l = ap instruction (u_parts 0x17 rd imm (lit< tt) l.0 l.1)
    ∙ ap (λ i. Some (Ins.Auipc rd i)) (u_imm 0x17 rd imm l.1)
known (Ins.Jal rd imm) l = ap instruction (j_parts 0x6f rd imm (lit< tt) l.0 l.1)
    ∙ ap (λ i. Some (Ins.Jal rd i)) (j_imm 0x6f rd imm l.1)
known (Ins.Jalr rd rs1 imm) l = ap instruction (i_parts 0x67 0 rd rs1 imm (lit< tt) (lit< tt) l.0 l.1 l.2)
    ∙ ap (λ i. Some (Ins.Jalr rd rs1 i)) (i_imm 0x67 0 rd rs1 imm l.2)
known (Ins.Beq rs1 rs2 imm) l = ap instruction (b_parts 0x63 0 rs1 rs2 imm (lit< tt) (lit< tt) l.0 l.1 l.2)
    ∙ ap (λ i. Some (Ins.Beq rs1 rs2 i)) (b_imm 0x63 0 rs1 rs2 imm l.2)
known (Ins.Bne rs1 rs2 imm) l = ap instruction (b_parts 0x63 1 rs1 rs2 imm (lit< tt) (lit< tt) l.0 l.1 l.2)
    ∙ ap (λ i. Some (Ins.Bne rs1 rs2 i)) (b_imm 0x63 1 rs1 rs2 imm l.2)
known (Ins.Blt rs1 rs2 imm) l = ap instruction (b_parts 0x63 4 rs1 rs2 imm (lit< tt) (lit< tt) l.0 l.1 l.2)
    ∙ ap (λ i. Some (Ins.Blt rs1 rs2 i)) (b_imm 0x63 4 rs1 rs2 imm l.2)
known (Ins.Bge rs1 rs2 imm) l = ap instruction (b_parts 0x63 5 rs1 rs2 imm (lit< tt) (lit< tt) l.0 l.1 l.2)
    ∙ ap (λ i. Some (Ins.Bge rs1 rs2 i)) (b_imm 0x63 5 rs1 rs2 imm l.2)
known (Ins.Bltu rs1 rs2 imm) l = ap instruction (b_parts 0x63 6 rs1 rs2 imm (lit< tt) (lit< tt) l.0 l.1 l.2)
    ∙ ap (λ i. Some (Ins.Bltu rs1 rs2 i)) (b_imm 0x63 6 rs1 rs2 imm l.2)
known (Ins.Bgeu rs1 rs2 imm) l = ap instruction (b_parts 0x63 7 rs1 rs2 imm (lit< tt) (lit< tt) l.0 l.1 l.2)
    ∙ ap (λ i. Some (Ins.Bgeu rs1 rs2 i)) (b_imm 0x63 7 rs1 rs2 imm l.2)
known (Ins.Lb rd rs1 imm) l = ap instruction (i_parts 0x03 0 rd rs1 imm (lit< tt) (lit< tt) l.0 l.1 l.2)
    ∙ ap (λ i. Some (Ins.Lb rd rs1 i)) (i_imm 0x03 0 rd rs1 imm l.2)
known (Ins.Lh rd rs1 imm) l = ap instruction (i_parts 0x03 1 rd rs1 imm (lit< tt) (lit< tt) l.0 l.1 l.2)
    ∙ ap (λ i. Some (Ins.Lh rd rs1 i)) (i_imm 0x03 1 rd rs1 imm l.2)
known (Ins.Lw rd rs1 imm) l = ap instruction (i_parts 0x03 2 rd rs1 imm (lit< tt) (lit< tt) l.0 l.1 l.2)
    ∙ ap (λ i. Some (Ins.Lw rd rs1 i)) (i_imm 0x03 2 rd rs1 imm l.2)
known (Ins.Ld rd rs1 imm) l = ap instruction (i_parts 0x03 3 rd rs1 imm (lit< tt) (lit< tt) l.0 l.1 l.2)
    ∙ ap (λ i. Some (Ins.Ld rd rs1 i)) (i_imm 0x03 3 rd rs1 imm l.2)
known (Ins.Lbu rd rs1 imm) l = ap instruction (i_parts 0x03 4 rd rs1 imm (lit< tt) (lit< tt) l.0 l.1 l.2)
    ∙ ap (λ i. Some (Ins.Lbu rd rs1 i)) (i_imm 0x03 4 rd rs1 imm l.2)
known (Ins.Lhu rd rs1 imm) l = ap instruction (i_parts 0x03 5 rd rs1 imm (lit< tt) (lit< tt) l.0 l.1 l.2)
    ∙ ap (λ i. Some (Ins.Lhu rd rs1 i)) (i_imm 0x03 5 rd rs1 imm l.2)
known (Ins.Lwu rd rs1 imm) l = ap instruction (i_parts 0x03 6 rd rs1 imm (lit< tt) (lit< tt) l.0 l.1 l.2)
    ∙ ap (λ i. Some (Ins.Lwu rd rs1 i)) (i_imm 0x03 6 rd rs1 imm l.2)
known (Ins.Sb rs1 rs2 imm) l = ap instruction (s_parts 0x23 0 rs1 rs2 imm (lit< tt) (lit< tt) l.0 l.1 l.2)
    ∙ ap (λ i. Some (Ins.Sb rs1 rs2 i)) (s_imm 0x23 0 rs1 rs2 imm l.2)
known (Ins.Sh rs1 rs2 imm) l = ap instruction (s_parts 0x23 1 rs1 rs2 imm (lit< tt) (lit< tt) l.0 l.1 l.2)
    ∙ ap (λ i. Some (Ins.Sh rs1 rs2 i)) (s_imm 0x23 1 rs1 rs2 imm l.2)
known (Ins.Sw rs1 rs2 imm) l = ap instruction (s_parts 0x23 2 rs1 rs2 imm (lit< tt) (lit< tt) l.0 l.1 l.2)
    ∙ ap (λ i. Some (Ins.Sw rs1 rs2 i)) (s_imm 0x23 2 rs1 rs2 imm l.2)
known (Ins.Sd rs1 rs2 imm) l = ap instruction (s_parts 0x23 3 rs1 rs2 imm (lit< tt) (lit< tt) l.0 l.1 l.2)
    ∙ ap (λ i. Some (Ins.Sd rs1 rs2 i)) (s_imm 0x23 3 rs1 rs2 imm l.2)
known (Ins.Addi rd rs1 imm) l = ap instruction (i_parts 0x13 0 rd rs1 imm (lit< tt) (lit< tt) l.0 l.1 l.2)
    ∙ ap (λ i. Some (Ins.Addi rd rs1 i)) (i_imm 0x13 0 rd rs1 imm l.2)
known (Ins.Slti rd rs1 imm) l = ap instruction (i_parts 0x13 2 rd rs1 imm (lit< tt) (lit< tt) l.0 l.1 l.2)
    ∙ ap (λ i. Some (Ins.Slti rd rs1 i)) (i_imm 0x13 2 rd rs1 imm l.2)
known (Ins.Sltiu rd rs1 imm) l = ap instruction (i_parts 0x13 3 rd rs1 imm (lit< tt) (lit< tt) l.0 l.1 l.2)
    ∙ ap (λ i. Some (Ins.Sltiu rd rs1 i)) (i_imm 0x13 3 rd rs1 imm l.2)
known (Ins.Xori rd rs1 imm) l = ap instruction (i_parts 0x13 4 rd rs1 imm (lit< tt) (lit< tt) l.0 l.1 l.2)
    ∙ ap (λ i. Some (Ins.Xori rd rs1 i)) (i_imm 0x13 4 rd rs1 imm l.2)
known (Ins.Ori rd rs1 imm) l = ap instruction (i_parts 0x13 6 rd rs1 imm (lit< tt) (lit< tt) l.0 l.1 l.2)
    ∙ ap (λ i. Some (Ins.Ori rd rs1 i)) (i_imm 0x13 6 rd rs1 imm l.2)
known (Ins.Andi rd rs1 imm) l = ap instruction (i_parts 0x13 7 rd rs1 imm (lit< tt) (lit< tt) l.0 l.1 l.2)
    ∙ ap (λ i. Some (Ins.Andi rd rs1 i)) (i_imm 0x13 7 rd rs1 imm l.2)
known (Ins.Slli rd rs1 shamt) l =
    ap instruction (shift_parts 0x13 1 0 rd rs1 shamt (lit< tt) (lit< tt) (lit< tt) l.0 l.1 l.2)
    ∙ rw (upper_bits 0 shamt l.2) (ap (λ i. Some (Ins.Slli rd rs1 i)) (shift_amount 0x13 1 0 rd rs1 shamt l.2))
known (Ins.Srli rd rs1 shamt) l =
    ap instruction (shift_parts 0x13 5 0 rd rs1 shamt (lit< tt) (lit< tt) (lit< tt) l.0 l.1 l.2)
    ∙ rw (upper_bits 0 shamt l.2) (ap (λ i. Some (Ins.Srli rd rs1 i)) (shift_amount 0x13 5 0 rd rs1 shamt l.2))
known (Ins.Srai rd rs1 shamt) l =
    ap instruction (shift_parts 0x13 5 16 rd rs1 shamt (lit< tt) (lit< tt) (lit< tt) l.0 l.1 l.2)
    ∙ rw (upper_bits 16 shamt l.2) (ap (λ i. Some (Ins.Srai rd rs1 i)) (shift_amount 0x13 5 16 rd rs1 shamt l.2))
known (Ins.Addiw rd rs1 imm) l = ap instruction (i_parts 0x1b 0 rd rs1 imm (lit< tt) (lit< tt) l.0 l.1 l.2)
    ∙ ap (λ i. Some (Ins.Addiw rd rs1 i)) (i_imm 0x1b 0 rd rs1 imm l.2)
known (Ins.Slliw rd rs1 shamt) l =
    ap instruction (r_parts 0x1b 1 0 rd rs1 shamt (lit< tt) (lit< tt) (lit< tt) l.0 l.1 l.2)
known (Ins.Srliw rd rs1 shamt) l =
    ap instruction (r_parts 0x1b 5 0 rd rs1 shamt (lit< tt) (lit< tt) (lit< tt) l.0 l.1 l.2)
known (Ins.Sraiw rd rs1 shamt) l =
    ap instruction (r_parts 0x1b 5 32 rd rs1 shamt (lit< tt) (lit< tt) (lit< tt) l.0 l.1 l.2)
known (Ins.Add rd rs1 rs2) l = ap instruction (r_parts 0x33 0 0 rd rs1 rs2 (lit< tt) (lit< tt) (lit< tt) l.0 l.1 l.2)
known (Ins.Sll rd rs1 rs2) l = ap instruction (r_parts 0x33 1 0 rd rs1 rs2 (lit< tt) (lit< tt) (lit< tt) l.0 l.1 l.2)
known (Ins.Slt rd rs1 rs2) l = ap instruction (r_parts 0x33 2 0 rd rs1 rs2 (lit< tt) (lit< tt) (lit< tt) l.0 l.1 l.2)
known (Ins.Sltu rd rs1 rs2) l = ap instruction (r_parts 0x33 3 0 rd rs1 rs2 (lit< tt) (lit< tt) (lit< tt) l.0 l.1 l.2)
known (Ins.Xor rd rs1 rs2) l = ap instruction (r_parts 0x33 4 0 rd rs1 rs2 (lit< tt) (lit< tt) (lit< tt) l.0 l.1 l.2)
known (Ins.Srl rd rs1 rs2) l = ap instruction (r_parts 0x33 5 0 rd rs1 rs2 (lit< tt) (lit< tt) (lit< tt) l.0 l.1 l.2)
known (Ins.Or rd rs1 rs2) l = ap instruction (r_parts 0x33 6 0 rd rs1 rs2 (lit< tt) (lit< tt) (lit< tt) l.0 l.1 l.2)
known (Ins.And rd rs1 rs2) l = ap instruction (r_parts 0x33 7 0 rd rs1 rs2 (lit< tt) (lit< tt) (lit< tt) l.0 l.1 l.2)
known (Ins.Sub rd rs1 rs2) l = ap instruction (r_parts 0x33 0 32 rd rs1 rs2 (lit< tt) (lit< tt) (lit< tt) l.0 l.1 l.2)
known (Ins.Sra rd rs1 rs2) l = ap instruction (r_parts 0x33 5 32 rd rs1 rs2 (lit< tt) (lit< tt) (lit< tt) l.0 l.1 l.2)
known (Ins.Mul rd rs1 rs2) l = ap instruction (r_parts 0x33 0 1 rd rs1 rs2 (lit< tt) (lit< tt) (lit< tt) l.0 l.1 l.2)
known (Ins.Mulh rd rs1 rs2) l = ap instruction (r_parts 0x33 1 1 rd rs1 rs2 (lit< tt) (lit< tt) (lit< tt) l.0 l.1 l.2)
known (Ins.Mulhsu rd rs1 rs2) l = ap instruction (r_parts 0x33 2 1 rd rs1 rs2 (lit< tt) (lit< tt) (lit< tt) l.0 l.1 l.2)
known (Ins.Mulhu rd rs1 rs2) l = ap instruction (r_parts 0x33 3 1 rd rs1 rs2 (lit< tt) (lit< tt) (lit< tt) l.0 l.1 l.2)
known (Ins.Div rd rs1 rs2) l = ap instruction (r_parts 0x33 4 1 rd rs1 rs2 (lit< tt) (lit< tt) (lit< tt) l.0 l.1 l.2)
known (Ins.Divu rd rs1 rs2) l = ap instruction (r_parts 0x33 5 1 rd rs1 rs2 (lit< tt) (lit< tt) (lit< tt) l.0 l.1 l.2)
known (Ins.Rem rd rs1 rs2) l = ap instruction (r_parts 0x33 6 1 rd rs1 rs2 (lit< tt) (lit< tt) (lit< tt) l.0 l.1 l.2)
known (Ins.Remu rd rs1 rs2) l = ap instruction (r_parts 0x33 7 1 rd rs1 rs2 (lit< tt) (lit< tt) (lit< tt) l.0 l.1 l.2)
known (Ins.Addw rd rs1 rs2) l = ap instruction (r_parts 0x3b 0 0 rd rs1 rs2 (lit< tt) (lit< tt) (lit< tt) l.0 l.1 l.2)
known (Ins.Sllw rd rs1 rs2) l = ap instruction (r_parts 0x3b 1 0 rd rs1 rs2 (lit< tt) (lit< tt) (lit< tt) l.0 l.1 l.2)
known (Ins.Srlw rd rs1 rs2) l = ap instruction (r_parts 0x3b 5 0 rd rs1 rs2 (lit< tt) (lit< tt) (lit< tt) l.0 l.1 l.2)
known (Ins.Subw rd rs1 rs2) l = ap instruction (r_parts 0x3b 0 32 rd rs1 rs2 (lit< tt) (lit< tt) (lit< tt) l.0 l.1 l.2)
known (Ins.Sraw rd rs1 rs2) l = ap instruction (r_parts 0x3b 5 32 rd rs1 rs2 (lit< tt) (lit< tt) (lit< tt) l.0 l.1 l.2)
known (Ins.Mulw rd rs1 rs2) l = ap instruction (r_parts 0x3b 0 1 rd rs1 rs2 (lit< tt) (lit< tt) (lit< tt) l.0 l.1 l.2)
known (Ins.Divw rd rs1 rs2) l = ap instruction (r_parts 0x3b 4 1 rd rs1 rs2 (lit< tt) (lit< tt) (lit< tt) l.0 l.1 l.2)
known (Ins.Divuw rd rs1 rs2) l = ap instruction (r_parts 0x3b 5 1 rd rs1 rs2 (lit< tt) (lit< tt) (lit< tt) l.0 l.1 l.2)
known (Ins.Remw rd rs1 rs2) l = ap instruction (r_parts 0x3b 6 1 rd rs1 rs2 (lit< tt) (lit< tt) (lit< tt) l.0 l.1 l.2)
known (Ins.Remuw rd rs1 rs2) l = ap instruction (r_parts 0x3b 7 1 rd rs1 rs2 (lit< tt) (lit< tt) (lit< tt) l.0 l.1 l.2)
known Ins.Ecall l = refl

pub one : (a b : Ins) → IsLegal a → IsLegal b → word_of a ≡ word_of b → a ≡ b
one a b la lb e =
    let same : Some a ≡ Some b = sym (known a la) ∙ ap (λ w. instruction (parts_of w)) e ∙ known b lb in cc

-- an instruction that is found is legal, and this is its word
abbrev pub Gives : Option Ins → ℕ → Type 0
Gives found w = IfSome found (λ ins. IsLegal ins × (word_of ins ≡ w))

chosen : (a b w : ℕ) (x y : Option Ins) (v : Bool) → (a == b) ≡ v → (a ≡ b → Gives x w) → Gives y w
    → Gives (cond v x y) w
chosen a b w x y true is here others = here (eqb-true a b is)
chosen a b w x y false is here others = others

at : (a b w : ℕ) (x y : Option Ins) → (a ≡ b → Gives x w) → Gives y w → Gives (cond (a == b) x y) w
at a b w x y here others = chosen a b w x y (a == b) refl here others

shift_left_gives : (f : Parts) → IsParts f → f.opcode ≡ 0x13 → f.funct3 ≡ 1 → Gives (shift_left_row f) (whole f)
shift_left_gives f l o t =
    at (f.funct7 / 2) 0 _ _ _ (λ s. ((l.rd, l.rs1, shamt_fits f l), shift_whole f 0x13 1 0 l o t s)) tt

shift_right_gives : (f : Parts) → IsParts f → f.opcode ≡ 0x13 → f.funct3 ≡ 5 → Gives (shift_right_row f) (whole f)
shift_right_gives f l o t =
    at (f.funct7 / 2) 0 _ _ _ (λ s. ((l.rd, l.rs1, shamt_fits f l), shift_whole f 0x13 5 0 l o t s))
    (at (f.funct7 / 2) 16 _ _ _ (λ s. ((l.rd, l.rs1, shamt_fits f l), shift_whole f 0x13 5 16 l o t s)) tt)

word_shift_left_gives : (f : Parts) → IsParts f → f.opcode ≡ 0x1b → f.funct3 ≡ 1
    → Gives (word_shift_left_row f) (whole f)
word_shift_left_gives f l o t =
    at f.funct7 0 _ _ _ (λ s. ((l.rd, l.rs1, l.rs2), r_whole f 0x1b 1 0 o t s)) tt

word_shift_right_gives : (f : Parts) → IsParts f → f.opcode ≡ 0x1b → f.funct3 ≡ 5
    → Gives (word_shift_right_row f) (whole f)
word_shift_right_gives f l o t =
    at f.funct7 0 _ _ _ (λ s. ((l.rd, l.rs1, l.rs2), r_whole f 0x1b 5 0 o t s))
    (at f.funct7 32 _ _ _ (λ s. ((l.rd, l.rs1, l.rs2), r_whole f 0x1b 5 32 o t s)) tt)

jalr_gives : (f : Parts) → IsParts f → f.opcode ≡ 0x67 → Gives (jalr_row f) (whole f)
jalr_gives f l o =
    at f.funct3 0 _ _ _ (λ t. ((l.rd, l.rs1, i_imm_fits f l), i_whole f 0x67 0 l o t)) tt

branch_gives : (f : Parts) → IsParts f → f.opcode ≡ 0x63 → Gives (branch_row f) (whole f)
branch_gives f l o =
    at f.funct3 0 _ _ _ (λ t. ((l.rs1, l.rs2, b_imm_fits f l), b_whole f 0x63 0 l o t))
    (at f.funct3 1 _ _ _ (λ t. ((l.rs1, l.rs2, b_imm_fits f l), b_whole f 0x63 1 l o t))
    (at f.funct3 4 _ _ _ (λ t. ((l.rs1, l.rs2, b_imm_fits f l), b_whole f 0x63 4 l o t))
    (at f.funct3 5 _ _ _ (λ t. ((l.rs1, l.rs2, b_imm_fits f l), b_whole f 0x63 5 l o t))
    (at f.funct3 6 _ _ _ (λ t. ((l.rs1, l.rs2, b_imm_fits f l), b_whole f 0x63 6 l o t))
    (at f.funct3 7 _ _ _ (λ t. ((l.rs1, l.rs2, b_imm_fits f l), b_whole f 0x63 7 l o t)) tt)))))

load_gives : (f : Parts) → IsParts f → f.opcode ≡ 0x03 → Gives (load_row f) (whole f)
load_gives f l o =
    at f.funct3 0 _ _ _ (λ t. ((l.rd, l.rs1, i_imm_fits f l), i_whole f 0x03 0 l o t))
    (at f.funct3 1 _ _ _ (λ t. ((l.rd, l.rs1, i_imm_fits f l), i_whole f 0x03 1 l o t))
    (at f.funct3 2 _ _ _ (λ t. ((l.rd, l.rs1, i_imm_fits f l), i_whole f 0x03 2 l o t))
    (at f.funct3 3 _ _ _ (λ t. ((l.rd, l.rs1, i_imm_fits f l), i_whole f 0x03 3 l o t))
    (at f.funct3 4 _ _ _ (λ t. ((l.rd, l.rs1, i_imm_fits f l), i_whole f 0x03 4 l o t))
    (at f.funct3 5 _ _ _ (λ t. ((l.rd, l.rs1, i_imm_fits f l), i_whole f 0x03 5 l o t))
    (at f.funct3 6 _ _ _ (λ t. ((l.rd, l.rs1, i_imm_fits f l), i_whole f 0x03 6 l o t)) tt))))))

store_gives : (f : Parts) → IsParts f → f.opcode ≡ 0x23 → Gives (store_row f) (whole f)
store_gives f l o =
    at f.funct3 0 _ _ _ (λ t. ((l.rs1, l.rs2, s_imm_fits f l), s_whole f 0x23 0 l o t))
    (at f.funct3 1 _ _ _ (λ t. ((l.rs1, l.rs2, s_imm_fits f l), s_whole f 0x23 1 l o t))
    (at f.funct3 2 _ _ _ (λ t. ((l.rs1, l.rs2, s_imm_fits f l), s_whole f 0x23 2 l o t))
    (at f.funct3 3 _ _ _ (λ t. ((l.rs1, l.rs2, s_imm_fits f l), s_whole f 0x23 3 l o t)) tt)))

op_imm_gives : (f : Parts) → IsParts f → f.opcode ≡ 0x13 → Gives (op_imm_row f) (whole f)
op_imm_gives f l o =
    at f.funct3 0 _ _ _ (λ t. ((l.rd, l.rs1, i_imm_fits f l), i_whole f 0x13 0 l o t))
    (at f.funct3 1 _ _ _ (shift_left_gives f l o)
    (at f.funct3 2 _ _ _ (λ t. ((l.rd, l.rs1, i_imm_fits f l), i_whole f 0x13 2 l o t))
    (at f.funct3 3 _ _ _ (λ t. ((l.rd, l.rs1, i_imm_fits f l), i_whole f 0x13 3 l o t))
    (at f.funct3 4 _ _ _ (λ t. ((l.rd, l.rs1, i_imm_fits f l), i_whole f 0x13 4 l o t))
    (at f.funct3 5 _ _ _ (shift_right_gives f l o)
    (at f.funct3 6 _ _ _ (λ t. ((l.rd, l.rs1, i_imm_fits f l), i_whole f 0x13 6 l o t))
    (at f.funct3 7 _ _ _ (λ t. ((l.rd, l.rs1, i_imm_fits f l), i_whole f 0x13 7 l o t)) tt)))))))

op_imm_32_gives : (f : Parts) → IsParts f → f.opcode ≡ 0x1b → Gives (op_imm_32_row f) (whole f)
op_imm_32_gives f l o =
    at f.funct3 0 _ _ _ (λ t. ((l.rd, l.rs1, i_imm_fits f l), i_whole f 0x1b 0 l o t))
    (at f.funct3 1 _ _ _ (word_shift_left_gives f l o)
    (at f.funct3 5 _ _ _ (word_shift_right_gives f l o) tt))

op_base_gives : (f : Parts) → IsParts f → f.opcode ≡ 0x33 → f.funct7 ≡ 0 → Gives (op_base_row f) (whole f)
op_base_gives f l o s =
    at f.funct3 0 _ _ _ (λ t. ((l.rd, l.rs1, l.rs2), r_whole f 0x33 0 0 o t s))
    (at f.funct3 1 _ _ _ (λ t. ((l.rd, l.rs1, l.rs2), r_whole f 0x33 1 0 o t s))
    (at f.funct3 2 _ _ _ (λ t. ((l.rd, l.rs1, l.rs2), r_whole f 0x33 2 0 o t s))
    (at f.funct3 3 _ _ _ (λ t. ((l.rd, l.rs1, l.rs2), r_whole f 0x33 3 0 o t s))
    (at f.funct3 4 _ _ _ (λ t. ((l.rd, l.rs1, l.rs2), r_whole f 0x33 4 0 o t s))
    (at f.funct3 5 _ _ _ (λ t. ((l.rd, l.rs1, l.rs2), r_whole f 0x33 5 0 o t s))
    (at f.funct3 6 _ _ _ (λ t. ((l.rd, l.rs1, l.rs2), r_whole f 0x33 6 0 o t s))
    (at f.funct3 7 _ _ _ (λ t. ((l.rd, l.rs1, l.rs2), r_whole f 0x33 7 0 o t s)) tt)))))))

op_alternate_gives : (f : Parts) → IsParts f → f.opcode ≡ 0x33 → f.funct7 ≡ 32 → Gives (op_alternate_row f) (whole f)
op_alternate_gives f l o s =
    at f.funct3 0 _ _ _ (λ t. ((l.rd, l.rs1, l.rs2), r_whole f 0x33 0 32 o t s))
    (at f.funct3 5 _ _ _ (λ t. ((l.rd, l.rs1, l.rs2), r_whole f 0x33 5 32 o t s)) tt)

op_multiply_gives : (f : Parts) → IsParts f → f.opcode ≡ 0x33 → f.funct7 ≡ 1 → Gives (op_multiply_row f) (whole f)
op_multiply_gives f l o s =
    at f.funct3 0 _ _ _ (λ t. ((l.rd, l.rs1, l.rs2), r_whole f 0x33 0 1 o t s))
    (at f.funct3 1 _ _ _ (λ t. ((l.rd, l.rs1, l.rs2), r_whole f 0x33 1 1 o t s))
    (at f.funct3 2 _ _ _ (λ t. ((l.rd, l.rs1, l.rs2), r_whole f 0x33 2 1 o t s))
    (at f.funct3 3 _ _ _ (λ t. ((l.rd, l.rs1, l.rs2), r_whole f 0x33 3 1 o t s))
    (at f.funct3 4 _ _ _ (λ t. ((l.rd, l.rs1, l.rs2), r_whole f 0x33 4 1 o t s))
    (at f.funct3 5 _ _ _ (λ t. ((l.rd, l.rs1, l.rs2), r_whole f 0x33 5 1 o t s))
    (at f.funct3 6 _ _ _ (λ t. ((l.rd, l.rs1, l.rs2), r_whole f 0x33 6 1 o t s))
    (at f.funct3 7 _ _ _ (λ t. ((l.rd, l.rs1, l.rs2), r_whole f 0x33 7 1 o t s)) tt)))))))

op_32_base_gives : (f : Parts) → IsParts f → f.opcode ≡ 0x3b → f.funct7 ≡ 0 → Gives (op_32_base_row f) (whole f)
op_32_base_gives f l o s =
    at f.funct3 0 _ _ _ (λ t. ((l.rd, l.rs1, l.rs2), r_whole f 0x3b 0 0 o t s))
    (at f.funct3 1 _ _ _ (λ t. ((l.rd, l.rs1, l.rs2), r_whole f 0x3b 1 0 o t s))
    (at f.funct3 5 _ _ _ (λ t. ((l.rd, l.rs1, l.rs2), r_whole f 0x3b 5 0 o t s)) tt))

op_32_alternate_gives : (f : Parts) → IsParts f → f.opcode ≡ 0x3b → f.funct7 ≡ 32
    → Gives (op_32_alternate_row f) (whole f)
op_32_alternate_gives f l o s =
    at f.funct3 0 _ _ _ (λ t. ((l.rd, l.rs1, l.rs2), r_whole f 0x3b 0 32 o t s))
    (at f.funct3 5 _ _ _ (λ t. ((l.rd, l.rs1, l.rs2), r_whole f 0x3b 5 32 o t s)) tt)

op_32_multiply_gives : (f : Parts) → IsParts f → f.opcode ≡ 0x3b → f.funct7 ≡ 1 → Gives (op_32_multiply_row f) (whole f)
op_32_multiply_gives f l o s =
    at f.funct3 0 _ _ _ (λ t. ((l.rd, l.rs1, l.rs2), r_whole f 0x3b 0 1 o t s))
    (at f.funct3 4 _ _ _ (λ t. ((l.rd, l.rs1, l.rs2), r_whole f 0x3b 4 1 o t s))
    (at f.funct3 5 _ _ _ (λ t. ((l.rd, l.rs1, l.rs2), r_whole f 0x3b 5 1 o t s))
    (at f.funct3 6 _ _ _ (λ t. ((l.rd, l.rs1, l.rs2), r_whole f 0x3b 6 1 o t s))
    (at f.funct3 7 _ _ _ (λ t. ((l.rd, l.rs1, l.rs2), r_whole f 0x3b 7 1 o t s)) tt))))

op_gives : (f : Parts) → IsParts f → f.opcode ≡ 0x33 → Gives (op_row f) (whole f)
op_gives f l o =
    at f.funct7 0 _ _ _ (op_base_gives f l o)
    (at f.funct7 32 _ _ _ (op_alternate_gives f l o)
    (at f.funct7 1 _ _ _ (op_multiply_gives f l o) tt))

op_32_gives : (f : Parts) → IsParts f → f.opcode ≡ 0x3b → Gives (op_32_row f) (whole f)
op_32_gives f l o =
    at f.funct7 0 _ _ _ (op_32_base_gives f l o)
    (at f.funct7 32 _ _ _ (op_32_alternate_gives f l o)
    (at f.funct7 1 _ _ _ (op_32_multiply_gives f l o) tt))

system_gives : (f : Parts) → IsParts f → f.opcode ≡ 0x73 → Gives (system_row f) (whole f)
system_gives f l o =
    at f.rd 0 _ _ _ (λ a. at f.funct3 0 _ _ _ (λ b. at f.rs1 0 _ _ _
    (λ c. at f.rs2 0 _ _ _ (λ d. at f.funct7 0 _ _ _ (λ e. (tt, omega arith)) tt) tt) tt) tt) tt

gives : (f : Parts) → IsParts f → Gives (instruction f) (whole f)
unfolding instruction
gives f l =
    at f.opcode 55 _ _ _ (λ o. ((l.rd, u_imm_fits f l), u_whole f 0x37 l o))
    (at f.opcode 23 _ _ _ (λ o. ((l.rd, u_imm_fits f l), u_whole f 0x17 l o))
    (at f.opcode 111 _ _ _ (λ o. ((l.rd, j_imm_fits f l), j_whole f 0x6f l o))
    (at f.opcode 103 _ _ _ (jalr_gives f l)
    (at f.opcode 99 _ _ _ (branch_gives f l)
    (at f.opcode 3 _ _ _ (load_gives f l)
    (at f.opcode 35 _ _ _ (store_gives f l)
    (at f.opcode 19 _ _ _ (op_imm_gives f l)
    (at f.opcode 27 _ _ _ (op_imm_32_gives f l)
    (at f.opcode 51 _ _ _ (op_gives f l)
    (at f.opcode 59 _ _ _ (op_32_gives f l)
    (at f.opcode 115 _ _ _ (system_gives f l) tt)))))))))))

pub found : (w : ℕ) → w < 2 ^ 32 → Gives (instruction (parts_of w)) w
found w l =
    let fits : IsParts (parts_of w) =
    record {
      opcode = omega arith;
      rd = omega arith;
      funct3 = omega arith;
      rs1 = omega arith;
      rs2 = omega arith;
      funct7 = omega arith;
    } in
    let back : whole (parts_of w) ≡ w = omega arith in
    subst (Gives (instruction (parts_of w))) back (gives (parts_of w) fits)

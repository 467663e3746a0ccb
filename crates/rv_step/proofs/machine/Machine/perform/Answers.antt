-- Each arm does what its row of `effect` says, since what it reads and computes has the row's values.
use Rattle.std.proofs.Common.{◌≡◌, ◌∙◌, ◌*◌, ◌/◌, ◌%◌, ◌^◌, pos, ◌+ℤ◌, ◌-ℤ◌, ◌*ℤ◌, not, nat_lt, ◌==◌, ap, subst}
use Rattle.std.specs.Int.{cast_signed, int_shr, w8, w16, w32}
use Rattle.std.specs.Int.RustNames.{bit_and, bit_or, bit_xor, int_lt}
use Rattle.rv_isa.specs.declared.ins.Ins.{Ins}
use Rattle.num_core.specs.Bits.{low_bits}
use Rattle.rv_step.specs.Machine.{register, address, gives, jumps, branches, loads, stores, low_word, one_if}
use Rattle.rv_step.specs.Machine.{without_bit_0, signed_value, word_value, signed_word_value, upper_bits, quotient}
use Rattle.rv_step.specs.Machine.{remainder, unsigned_quotient, unsigned_remainder, word_quotient, word_remainder}
use Rattle.rv_step.specs.Machine.{unsigned_word_quotient, unsigned_word_remainder}
use Rattle.rv_step.specs.Steps.{Does}
use Rattle.rv_step.proofs.Effects.{same_instruction}
use Rattle.rv_step.proofs.machine.Machine.perform.Goals as goal

pub returns-in-Lui : goal.returns-in-Lui
returns-in-Lui c =
    let m = c.args.self.now in
    let i = c.in-Lui in
    same_instruction _ (Ins.Lui i.rd i.imm) _ _ _ i.is
    (subst (λ v. Does (gives m i.rd v) c.give.result m c.give.new.self) c.upper.ensures c.give.ensures)

pub returns-in-Auipc : goal.returns-in-Auipc
returns-in-Auipc c =
    let m = c.args.self.now in
    let i = c.in-Auipc in
    let e : c.add_upper.result ≡ low_bits 64 (pos m.pc +ℤ cast_signed w32 (i.imm * 2 ^ 12)) = c.add_upper.ensures
    ∙ ap (λ a. low_bits 64 (pos a +ℤ cast_signed w32 (i.imm * 2 ^ 12))) c.pc.ensures in
    same_instruction _ (Ins.Auipc i.rd i.imm) _ _ _ i.is
    (subst (λ v. Does (gives m i.rd v) c.give-in-Auipc.result m c.give-in-Auipc.new.self) e c.give-in-Auipc.ensures)

pub returns-in-Jal : goal.returns-in-Jal
returns-in-Jal c =
    let m = c.args.self.now in
    let i = c.in-Jal in
    let e : c.jump_target.result ≡ low_bits 64 (pos m.pc +ℤ i.imm) = c.jump_target.ensures
    ∙ ap (λ a. low_bits 64 (pos a +ℤ i.imm)) c.pc-in-Jal.ensures in
    same_instruction _ (Ins.Jal i.rd i.imm) _ _ _ i.is
    (subst (λ v. Does (jumps m i.rd v) c.jump.result m c.jump.new.self) e c.jump.ensures)

pub returns-in-Jalr : goal.returns-in-Jalr
returns-in-Jalr c =
    let m = c.args.self.now in
    let i = c.in-Jalr in
    let e : c.without_bit_0.result ≡ without_bit_0 (address m i.rs1 i.imm) = c.without_bit_0.ensures ∙ ap without_bit_0
    c.address.ensures in
    same_instruction _ (Ins.Jalr i.rd i.rs1 i.imm) _ _ _ i.is
    (subst (λ v. Does (jumps m i.rd v) c.jump-in-Jalr.result m c.jump-in-Jalr.new.self) e c.jump-in-Jalr.ensures)

pub returns-in-Beq : goal.returns-in-Beq
returns-in-Beq c =
    let m = c.args.self.now in
    let i = c.in-Beq in
    let e : c.is_equal.result ≡ ((register m i.rs1) == (register m i.rs2)) = c.is_equal.ensures
    ∙ ap (λ a. a == c.get-in-Beq.result) c.get.ensures ∙ ap (λ b. (register m i.rs1) == b) c.get-in-Beq.ensures in
    same_instruction _ (Ins.Beq i.rs1 i.rs2 i.imm) _ _ _ i.is
    (subst (λ v. Does (branches m v i.imm) c.branch_if.result m c.branch_if.new.self) e c.branch_if.ensures)

pub returns-in-Bne : goal.returns-in-Bne
returns-in-Bne c =
    let m = c.args.self.now in
    let i = c.in-Bne in
    let e : c.is_equal-in-Bne.result ≡ ((register m i.rs1) == (register m i.rs2)) = c.is_equal-in-Bne.ensures
    ∙ ap (λ a. a == c.get-in-Bne-2.result) c.get-in-Bne.ensures ∙ ap (λ b. (register m i.rs1) == b)
    c.get-in-Bne-2.ensures in
    same_instruction _ (Ins.Bne i.rs1 i.rs2 i.imm) _ _ _ i.is
    (subst (λ v. Does (branches m (not v) i.imm) c.branch_unless.result m c.branch_unless.new.self) e
    c.branch_unless.ensures)

pub returns-in-Blt : goal.returns-in-Blt
returns-in-Blt c =
    let m = c.args.self.now in
    let i = c.in-Blt in
    let e : c.is_less.result ≡ (int_lt (signed_value (register m i.rs1)) (signed_value (register m i.rs2))) =
    c.is_less.ensures ∙ ap (λ a. int_lt (signed_value a) (signed_value c.get-in-Blt-2.result)) c.get-in-Blt.ensures
    ∙ ap (λ b. int_lt (signed_value (register m i.rs1)) (signed_value b)) c.get-in-Blt-2.ensures in
    same_instruction _ (Ins.Blt i.rs1 i.rs2 i.imm) _ _ _ i.is
    (subst (λ v. Does (branches m v i.imm) c.branch_if-in-Blt.result m c.branch_if-in-Blt.new.self) e
    c.branch_if-in-Blt.ensures)

pub returns-in-Bge : goal.returns-in-Bge
returns-in-Bge c =
    let m = c.args.self.now in
    let i = c.in-Bge in
    let e : c.is_less-in-Bge.result ≡ (int_lt (signed_value (register m i.rs1)) (signed_value (register m i.rs2))) =
    c.is_less-in-Bge.ensures ∙ ap (λ a. int_lt (signed_value a) (signed_value c.get-in-Bge-2.result))
    c.get-in-Bge.ensures ∙ ap (λ b. int_lt (signed_value (register m i.rs1)) (signed_value b))
    c.get-in-Bge-2.ensures in
    same_instruction _ (Ins.Bge i.rs1 i.rs2 i.imm) _ _ _ i.is
    (subst (λ v. Does (branches m (not v) i.imm) c.branch_unless-in-Bge.result m c.branch_unless-in-Bge.new.self) e
    c.branch_unless-in-Bge.ensures)

pub returns-in-Bltu : goal.returns-in-Bltu
returns-in-Bltu c =
    let m = c.args.self.now in
    let i = c.in-Bltu in
    let e : c.is_less_unsigned.result ≡ (nat_lt (register m i.rs1) (register m i.rs2)) = c.is_less_unsigned.ensures
    ∙ ap (λ a. nat_lt a c.get-in-Bltu-2.result) c.get-in-Bltu.ensures ∙ ap (λ b. nat_lt (register m i.rs1) b)
    c.get-in-Bltu-2.ensures in
    same_instruction _ (Ins.Bltu i.rs1 i.rs2 i.imm) _ _ _ i.is
    (subst (λ v. Does (branches m v i.imm) c.branch_if-in-Bltu.result m c.branch_if-in-Bltu.new.self) e
    c.branch_if-in-Bltu.ensures)

pub returns-in-Bgeu : goal.returns-in-Bgeu
returns-in-Bgeu c =
    let m = c.args.self.now in
    let i = c.in-Bgeu in
    let e : c.is_less_unsigned-in-Bgeu.result ≡ (nat_lt (register m i.rs1) (register m i.rs2)) =
    c.is_less_unsigned-in-Bgeu.ensures ∙ ap (λ a. nat_lt a c.get-in-Bgeu-2.result) c.get-in-Bgeu.ensures
    ∙ ap (λ b. nat_lt (register m i.rs1) b) c.get-in-Bgeu-2.ensures in
    same_instruction _ (Ins.Bgeu i.rs1 i.rs2 i.imm) _ _ _ i.is
    (subst (λ v. Does (branches m (not v) i.imm) c.branch_unless-in-Bgeu.result m c.branch_unless-in-Bgeu.new.self) e
    c.branch_unless-in-Bgeu.ensures)

pub returns-in-Lb : goal.returns-in-Lb
returns-in-Lb c =
    let m = c.args.self.now in
    let i = c.in-Lb in
    same_instruction _ (Ins.Lb i.rd i.rs1 i.imm) _ _ _ i.is
    (subst (λ v. Does (loads m i.rd 1 v (λ n. low_bits 64 (cast_signed w8 n))) c.load_byte.result m
    c.load_byte.new.self) c.address-in-Lb.ensures c.load_byte.ensures)

pub returns-in-Lh : goal.returns-in-Lh
returns-in-Lh c =
    let m = c.args.self.now in
    let i = c.in-Lh in
    same_instruction _ (Ins.Lh i.rd i.rs1 i.imm) _ _ _ i.is
    (subst (λ v. Does (loads m i.rd 2 v (λ n. low_bits 64 (cast_signed w16 n))) c.load_half.result m
    c.load_half.new.self) c.address-in-Lh.ensures c.load_half.ensures)

pub returns-in-Lw : goal.returns-in-Lw
returns-in-Lw c =
    let m = c.args.self.now in
    let i = c.in-Lw in
    same_instruction _ (Ins.Lw i.rd i.rs1 i.imm) _ _ _ i.is
    (subst (λ v. Does (loads m i.rd 4 v (λ n. low_bits 64 (cast_signed w32 n))) c.load_word.result m
    c.load_word.new.self) c.address-in-Lw.ensures c.load_word.ensures)

pub returns-in-Ld : goal.returns-in-Ld
returns-in-Ld c =
    let m = c.args.self.now in
    let i = c.in-Ld in
    same_instruction _ (Ins.Ld i.rd i.rs1 i.imm) _ _ _ i.is
    (subst (λ v. Does (loads m i.rd 8 v (λ n. n)) c.load_double.result m c.load_double.new.self) c.address-in-Ld.ensures
    c.load_double.ensures)

pub returns-in-Lbu : goal.returns-in-Lbu
returns-in-Lbu c =
    let m = c.args.self.now in
    let i = c.in-Lbu in
    same_instruction _ (Ins.Lbu i.rd i.rs1 i.imm) _ _ _ i.is
    (subst (λ v. Does (loads m i.rd 1 v (λ n. n)) c.load_byte_unsigned.result m c.load_byte_unsigned.new.self)
    c.address-in-Lbu.ensures c.load_byte_unsigned.ensures)

pub returns-in-Lhu : goal.returns-in-Lhu
returns-in-Lhu c =
    let m = c.args.self.now in
    let i = c.in-Lhu in
    same_instruction _ (Ins.Lhu i.rd i.rs1 i.imm) _ _ _ i.is
    (subst (λ v. Does (loads m i.rd 2 v (λ n. n)) c.load_half_unsigned.result m c.load_half_unsigned.new.self)
    c.address-in-Lhu.ensures c.load_half_unsigned.ensures)

pub returns-in-Lwu : goal.returns-in-Lwu
returns-in-Lwu c =
    let m = c.args.self.now in
    let i = c.in-Lwu in
    same_instruction _ (Ins.Lwu i.rd i.rs1 i.imm) _ _ _ i.is
    (subst (λ v. Does (loads m i.rd 4 v (λ n. n)) c.load_word_unsigned.result m c.load_word_unsigned.new.self)
    c.address-in-Lwu.ensures c.load_word_unsigned.ensures)

pub returns-in-Sb : goal.returns-in-Sb
returns-in-Sb c =
    let m = c.args.self.now in
    let i = c.in-Sb in
    same_instruction _ (Ins.Sb i.rs1 i.rs2 i.imm) _ _ _ i.is
    (subst (λ v. Does (stores m 1 (address m i.rs1 i.imm) v) c.store.result m c.store.new.self) c.get-in-Sb.ensures
    (subst (λ a. Does (stores m 1 a c.get-in-Sb.result) c.store.result m c.store.new.self) c.address-in-Sb.ensures
    c.store.ensures))

pub returns-in-Sh : goal.returns-in-Sh
returns-in-Sh c =
    let m = c.args.self.now in
    let i = c.in-Sh in
    same_instruction _ (Ins.Sh i.rs1 i.rs2 i.imm) _ _ _ i.is
    (subst (λ v. Does (stores m 2 (address m i.rs1 i.imm) v) c.store-in-Sh.result m c.store-in-Sh.new.self)
    c.get-in-Sh.ensures (subst (λ a. Does (stores m 2 a c.get-in-Sh.result) c.store-in-Sh.result m
    c.store-in-Sh.new.self) c.address-in-Sh.ensures c.store-in-Sh.ensures))

pub returns-in-Sw : goal.returns-in-Sw
returns-in-Sw c =
    let m = c.args.self.now in
    let i = c.in-Sw in
    same_instruction _ (Ins.Sw i.rs1 i.rs2 i.imm) _ _ _ i.is
    (subst (λ v. Does (stores m 4 (address m i.rs1 i.imm) v) c.store-in-Sw.result m c.store-in-Sw.new.self)
    c.get-in-Sw.ensures (subst (λ a. Does (stores m 4 a c.get-in-Sw.result) c.store-in-Sw.result m
    c.store-in-Sw.new.self) c.address-in-Sw.ensures c.store-in-Sw.ensures))

pub returns-in-Sd : goal.returns-in-Sd
returns-in-Sd c =
    let m = c.args.self.now in
    let i = c.in-Sd in
    same_instruction _ (Ins.Sd i.rs1 i.rs2 i.imm) _ _ _ i.is
    (subst (λ v. Does (stores m 8 (address m i.rs1 i.imm) v) c.store-in-Sd.result m c.store-in-Sd.new.self)
    c.get-in-Sd.ensures (subst (λ a. Does (stores m 8 a c.get-in-Sd.result) c.store-in-Sd.result m
    c.store-in-Sd.new.self) c.address-in-Sd.ensures c.store-in-Sd.ensures))

pub returns-in-Addi : goal.returns-in-Addi
returns-in-Addi c =
    let m = c.args.self.now in
    let i = c.in-Addi in
    let e : c.add_immediate.result ≡ low_bits 64 (pos (register m i.rs1) +ℤ i.imm) = c.add_immediate.ensures
    ∙ ap (λ a. low_bits 64 (pos a +ℤ i.imm)) c.get-in-Addi.ensures in
    same_instruction _ (Ins.Addi i.rd i.rs1 i.imm) _ _ _ i.is
    (subst (λ v. Does (gives m i.rd v) c.give-in-Addi.result m c.give-in-Addi.new.self) e c.give-in-Addi.ensures)

pub returns-in-Slti : goal.returns-in-Slti
returns-in-Slti c =
    let m = c.args.self.now in
    let i = c.in-Slti in
    let e : c.one_if.result ≡ one_if (int_lt (signed_value (register m i.rs1)) i.imm) = c.one_if.ensures ∙ ap one_if
    (c.is_less_than_immediate.ensures ∙ ap (λ a. int_lt (signed_value a) i.imm) c.get-in-Slti.ensures) in
    same_instruction _ (Ins.Slti i.rd i.rs1 i.imm) _ _ _ i.is
    (subst (λ v. Does (gives m i.rd v) c.give-in-Slti.result m c.give-in-Slti.new.self) e c.give-in-Slti.ensures)

pub returns-in-Sltiu : goal.returns-in-Sltiu
returns-in-Sltiu c =
    let m = c.args.self.now in
    let i = c.in-Sltiu in
    let e : c.one_if-in-Sltiu.result ≡ one_if (nat_lt (register m i.rs1) (low_bits 64 i.imm)) =
    c.one_if-in-Sltiu.ensures ∙ ap one_if (c.is_less_unsigned-in-Sltiu.ensures
    ∙ ap (λ a. nat_lt a c.immediate.result) c.get-in-Sltiu.ensures ∙ ap (λ b. nat_lt (register m i.rs1) b)
    c.immediate.ensures) in
    same_instruction _ (Ins.Sltiu i.rd i.rs1 i.imm) _ _ _ i.is
    (subst (λ v. Does (gives m i.rd v) c.give-in-Sltiu.result m c.give-in-Sltiu.new.self) e c.give-in-Sltiu.ensures)

pub returns-in-Xori : goal.returns-in-Xori
returns-in-Xori c =
    let m = c.args.self.now in
    let i = c.in-Xori in
    let e : bit_xor c.get-in-Xori.result c.immediate-in-Xori.result ≡ bit_xor (register m i.rs1) (low_bits 64 i.imm) =
    ap (λ a. bit_xor a c.immediate-in-Xori.result) c.get-in-Xori.ensures ∙ ap (λ b. bit_xor (register m i.rs1) b)
    c.immediate-in-Xori.ensures in
    same_instruction _ (Ins.Xori i.rd i.rs1 i.imm) _ _ _ i.is
    (subst (λ v. Does (gives m i.rd v) c.give-in-Xori.result m c.give-in-Xori.new.self) e c.give-in-Xori.ensures)

pub returns-in-Ori : goal.returns-in-Ori
returns-in-Ori c =
    let m = c.args.self.now in
    let i = c.in-Ori in
    let e : bit_or c.get-in-Ori.result c.immediate-in-Ori.result ≡ bit_or (register m i.rs1) (low_bits 64 i.imm) =
    ap (λ a. bit_or a c.immediate-in-Ori.result) c.get-in-Ori.ensures ∙ ap (λ b. bit_or (register m i.rs1) b)
    c.immediate-in-Ori.ensures in
    same_instruction _ (Ins.Ori i.rd i.rs1 i.imm) _ _ _ i.is
    (subst (λ v. Does (gives m i.rd v) c.give-in-Ori.result m c.give-in-Ori.new.self) e c.give-in-Ori.ensures)

pub returns-in-Andi : goal.returns-in-Andi
returns-in-Andi c =
    let m = c.args.self.now in
    let i = c.in-Andi in
    let e : bit_and c.get-in-Andi.result c.immediate-in-Andi.result ≡ bit_and (register m i.rs1) (low_bits 64 i.imm) =
    ap (λ a. bit_and a c.immediate-in-Andi.result) c.get-in-Andi.ensures ∙ ap (λ b. bit_and (register m i.rs1) b)
    c.immediate-in-Andi.ensures in
    same_instruction _ (Ins.Andi i.rd i.rs1 i.imm) _ _ _ i.is
    (subst (λ v. Does (gives m i.rd v) c.give-in-Andi.result m c.give-in-Andi.new.self) e c.give-in-Andi.ensures)

pub returns-in-Slli : goal.returns-in-Slli
returns-in-Slli c =
    let m = c.args.self.now in
    let i = c.in-Slli in
    let e : c.shift_left.result ≡ low_bits 64 (pos ((register m i.rs1) * 2 ^ i.shamt)) = c.shift_left.ensures
    ∙ ap (λ a. low_bits 64 (pos (a * 2 ^ c.value.result))) c.get-in-Slli.ensures
    ∙ ap (λ b. low_bits 64 (pos ((register m i.rs1) * 2 ^ b))) c.value.ensures.value in
    same_instruction _ (Ins.Slli i.rd i.rs1 i.shamt) _ _ _ i.is
    (subst (λ v. Does (gives m i.rd v) c.give-in-Slli.result m c.give-in-Slli.new.self) e c.give-in-Slli.ensures)

pub returns-in-Srli : goal.returns-in-Srli
returns-in-Srli c =
    let m = c.args.self.now in
    let i = c.in-Srli in
    let e : c.shift_right.result ≡ (register m i.rs1) / 2 ^ i.shamt = c.shift_right.ensures
    ∙ ap (λ a. a / 2 ^ c.value-in-Srli.result) c.get-in-Srli.ensures ∙ ap (λ b. (register m i.rs1) / 2 ^ b)
    c.value-in-Srli.ensures.value in
    same_instruction _ (Ins.Srli i.rd i.rs1 i.shamt) _ _ _ i.is
    (subst (λ v. Does (gives m i.rd v) c.give-in-Srli.result m c.give-in-Srli.new.self) e c.give-in-Srli.ensures)

pub returns-in-Srai : goal.returns-in-Srai
returns-in-Srai c =
    let m = c.args.self.now in
    let i = c.in-Srai in
    let e : c.shift_right_signed.result ≡ low_bits 64 (int_shr (signed_value (register m i.rs1)) i.shamt) =
    c.shift_right_signed.ensures ∙ ap (λ a. low_bits 64 (int_shr (signed_value a) c.value-in-Srai.result))
    c.get-in-Srai.ensures ∙ ap (λ b. low_bits 64 (int_shr (signed_value (register m i.rs1)) b))
    c.value-in-Srai.ensures.value in
    same_instruction _ (Ins.Srai i.rd i.rs1 i.shamt) _ _ _ i.is
    (subst (λ v. Does (gives m i.rd v) c.give-in-Srai.result m c.give-in-Srai.new.self) e c.give-in-Srai.ensures)

pub returns-in-Addiw : goal.returns-in-Addiw
returns-in-Addiw c =
    let m = c.args.self.now in
    let i = c.in-Addiw in
    let e : c.add_immediate_word.result ≡ low_word (pos (register m i.rs1) +ℤ i.imm) = c.add_immediate_word.ensures
    ∙ ap (λ a. low_word (pos a +ℤ i.imm)) c.get-in-Addiw.ensures in
    same_instruction _ (Ins.Addiw i.rd i.rs1 i.imm) _ _ _ i.is
    (subst (λ v. Does (gives m i.rd v) c.give-in-Addiw.result m c.give-in-Addiw.new.self) e c.give-in-Addiw.ensures)

pub returns-in-Slliw : goal.returns-in-Slliw
returns-in-Slliw c =
    let m = c.args.self.now in
    let i = c.in-Slliw in
    let e : c.shift_word_left.result ≡ low_word (pos ((register m i.rs1) * 2 ^ i.shamt)) = c.shift_word_left.ensures
    ∙ ap (λ a. low_word (pos (a * 2 ^ c.value-in-Slliw.result))) c.get-in-Slliw.ensures
    ∙ ap (λ b. low_word (pos ((register m i.rs1) * 2 ^ b))) c.value-in-Slliw.ensures.value in
    same_instruction _ (Ins.Slliw i.rd i.rs1 i.shamt) _ _ _ i.is
    (subst (λ v. Does (gives m i.rd v) c.give-in-Slliw.result m c.give-in-Slliw.new.self) e c.give-in-Slliw.ensures)

pub returns-in-Srliw : goal.returns-in-Srliw
returns-in-Srliw c =
    let m = c.args.self.now in
    let i = c.in-Srliw in
    let e : c.shift_word_right.result ≡ low_word (pos (word_value (register m i.rs1) / 2 ^ i.shamt)) =
    c.shift_word_right.ensures ∙ ap (λ a. low_word (pos (word_value a / 2 ^ c.value-in-Srliw.result)))
    c.get-in-Srliw.ensures ∙ ap (λ b. low_word (pos (word_value (register m i.rs1) / 2 ^ b)))
    c.value-in-Srliw.ensures.value in
    same_instruction _ (Ins.Srliw i.rd i.rs1 i.shamt) _ _ _ i.is
    (subst (λ v. Does (gives m i.rd v) c.give-in-Srliw.result m c.give-in-Srliw.new.self) e c.give-in-Srliw.ensures)

pub returns-in-Sraiw : goal.returns-in-Sraiw
returns-in-Sraiw c =
    let m = c.args.self.now in
    let i = c.in-Sraiw in
    let e : c.shift_word_right_signed.result ≡ low_word (int_shr (signed_word_value (register m i.rs1)) i.shamt) =
    c.shift_word_right_signed.ensures ∙ ap (λ a. low_word (int_shr (signed_word_value a) c.value-in-Sraiw.result))
    c.get-in-Sraiw.ensures ∙ ap (λ b. low_word (int_shr (signed_word_value (register m i.rs1)) b))
    c.value-in-Sraiw.ensures.value in
    same_instruction _ (Ins.Sraiw i.rd i.rs1 i.shamt) _ _ _ i.is
    (subst (λ v. Does (gives m i.rd v) c.give-in-Sraiw.result m c.give-in-Sraiw.new.self) e c.give-in-Sraiw.ensures)

pub returns-in-Add : goal.returns-in-Add
returns-in-Add c =
    let m = c.args.self.now in
    let i = c.in-Add in
    let e : c.add.result ≡ low_bits 64 (pos (register m i.rs1) +ℤ pos (register m i.rs2)) = c.add.ensures
    ∙ ap (λ a. low_bits 64 (pos a +ℤ pos c.get-in-Add-2.result)) c.get-in-Add.ensures
    ∙ ap (λ b. low_bits 64 (pos (register m i.rs1) +ℤ pos b)) c.get-in-Add-2.ensures in
    same_instruction _ (Ins.Add i.rd i.rs1 i.rs2) _ _ _ i.is
    (subst (λ v. Does (gives m i.rd v) c.give-in-Add.result m c.give-in-Add.new.self) e c.give-in-Add.ensures)

pub returns-in-Sll : goal.returns-in-Sll
returns-in-Sll c =
    let m = c.args.self.now in
    let i = c.in-Sll in
    let e : c.shift_left-in-Sll.result ≡ low_bits 64 (pos ((register m i.rs1) * 2 ^ (register m i.rs2 % 64))) =
    c.shift_left-in-Sll.ensures ∙ ap (λ a. low_bits 64 (pos (a * 2 ^ c.low_6.result))) c.get-in-Sll.ensures
    ∙ ap (λ b. low_bits 64 (pos ((register m i.rs1) * 2 ^ b))) c.low_6.ensures.bits
    ∙ ap (λ d. low_bits 64 (pos ((register m i.rs1) * 2 ^ (d % 64)))) c.get-in-Sll-2.ensures in
    same_instruction _ (Ins.Sll i.rd i.rs1 i.rs2) _ _ _ i.is
    (subst (λ v. Does (gives m i.rd v) c.give-in-Sll.result m c.give-in-Sll.new.self) e c.give-in-Sll.ensures)

pub returns-in-Slt : goal.returns-in-Slt
returns-in-Slt c =
    let m = c.args.self.now in
    let i = c.in-Slt in
    let e : c.one_if-in-Slt.result ≡ one_if (int_lt (signed_value (register m i.rs1))
    (signed_value (register m i.rs2))) = c.one_if-in-Slt.ensures ∙ ap one_if (c.is_less-in-Slt.ensures
    ∙ ap (λ a. int_lt (signed_value a) (signed_value c.get-in-Slt-2.result)) c.get-in-Slt.ensures
    ∙ ap (λ b. int_lt (signed_value (register m i.rs1)) (signed_value b)) c.get-in-Slt-2.ensures) in
    same_instruction _ (Ins.Slt i.rd i.rs1 i.rs2) _ _ _ i.is
    (subst (λ v. Does (gives m i.rd v) c.give-in-Slt.result m c.give-in-Slt.new.self) e c.give-in-Slt.ensures)

pub returns-in-Sltu : goal.returns-in-Sltu
returns-in-Sltu c =
    let m = c.args.self.now in
    let i = c.in-Sltu in
    let e : c.one_if-in-Sltu.result ≡ one_if (nat_lt (register m i.rs1) (register m i.rs2)) = c.one_if-in-Sltu.ensures
    ∙ ap one_if (c.is_less_unsigned-in-Sltu.ensures ∙ ap (λ a. nat_lt a c.get-in-Sltu-2.result)
    c.get-in-Sltu.ensures ∙ ap (λ b. nat_lt (register m i.rs1) b) c.get-in-Sltu-2.ensures) in
    same_instruction _ (Ins.Sltu i.rd i.rs1 i.rs2) _ _ _ i.is
    (subst (λ v. Does (gives m i.rd v) c.give-in-Sltu.result m c.give-in-Sltu.new.self) e c.give-in-Sltu.ensures)

pub returns-in-Xor : goal.returns-in-Xor
returns-in-Xor c =
    let m = c.args.self.now in
    let i = c.in-Xor in
    let e : bit_xor c.get-in-Xor.result c.get-in-Xor-2.result ≡ bit_xor (register m i.rs1) (register m i.rs2) =
    ap (λ a. bit_xor a c.get-in-Xor-2.result) c.get-in-Xor.ensures ∙ ap (λ b. bit_xor (register m i.rs1) b)
    c.get-in-Xor-2.ensures in
    same_instruction _ (Ins.Xor i.rd i.rs1 i.rs2) _ _ _ i.is
    (subst (λ v. Does (gives m i.rd v) c.give-in-Xor.result m c.give-in-Xor.new.self) e c.give-in-Xor.ensures)

pub returns-in-Srl : goal.returns-in-Srl
returns-in-Srl c =
    let m = c.args.self.now in
    let i = c.in-Srl in
    let e : c.shift_right-in-Srl.result ≡ (register m i.rs1) / 2 ^ (register m i.rs2 % 64) =
    c.shift_right-in-Srl.ensures ∙ ap (λ a. a / 2 ^ c.low_6-in-Srl.result) c.get-in-Srl.ensures
    ∙ ap (λ b. (register m i.rs1) / 2 ^ b) c.low_6-in-Srl.ensures.bits ∙ ap (λ d. (register m i.rs1) / 2 ^ (d % 64))
    c.get-in-Srl-2.ensures in
    same_instruction _ (Ins.Srl i.rd i.rs1 i.rs2) _ _ _ i.is
    (subst (λ v. Does (gives m i.rd v) c.give-in-Srl.result m c.give-in-Srl.new.self) e c.give-in-Srl.ensures)

pub returns-in-Or : goal.returns-in-Or
returns-in-Or c =
    let m = c.args.self.now in
    let i = c.in-Or in
    let e : bit_or c.get-in-Or.result c.get-in-Or-2.result ≡ bit_or (register m i.rs1) (register m i.rs2) =
    ap (λ a. bit_or a c.get-in-Or-2.result) c.get-in-Or.ensures ∙ ap (λ b. bit_or (register m i.rs1) b)
    c.get-in-Or-2.ensures in
    same_instruction _ (Ins.Or i.rd i.rs1 i.rs2) _ _ _ i.is
    (subst (λ v. Does (gives m i.rd v) c.give-in-Or.result m c.give-in-Or.new.self) e c.give-in-Or.ensures)

pub returns-in-And : goal.returns-in-And
returns-in-And c =
    let m = c.args.self.now in
    let i = c.in-And in
    let e : bit_and c.get-in-And.result c.get-in-And-2.result ≡ bit_and (register m i.rs1) (register m i.rs2) =
    ap (λ a. bit_and a c.get-in-And-2.result) c.get-in-And.ensures ∙ ap (λ b. bit_and (register m i.rs1) b)
    c.get-in-And-2.ensures in
    same_instruction _ (Ins.And i.rd i.rs1 i.rs2) _ _ _ i.is
    (subst (λ v. Does (gives m i.rd v) c.give-in-And.result m c.give-in-And.new.self) e c.give-in-And.ensures)

pub returns-in-Sub : goal.returns-in-Sub
returns-in-Sub c =
    let m = c.args.self.now in
    let i = c.in-Sub in
    let e : c.sub.result ≡ low_bits 64 (pos (register m i.rs1) -ℤ pos (register m i.rs2)) = c.sub.ensures
    ∙ ap (λ a. low_bits 64 (pos a -ℤ pos c.get-in-Sub-2.result)) c.get-in-Sub.ensures
    ∙ ap (λ b. low_bits 64 (pos (register m i.rs1) -ℤ pos b)) c.get-in-Sub-2.ensures in
    same_instruction _ (Ins.Sub i.rd i.rs1 i.rs2) _ _ _ i.is
    (subst (λ v. Does (gives m i.rd v) c.give-in-Sub.result m c.give-in-Sub.new.self) e c.give-in-Sub.ensures)

pub returns-in-Sra : goal.returns-in-Sra
returns-in-Sra c =
    let m = c.args.self.now in
    let i = c.in-Sra in
    let e : c.shift_right_signed-in-Sra.result ≡ low_bits 64 (int_shr (signed_value (register m i.rs1))
    (register m i.rs2 % 64)) = c.shift_right_signed-in-Sra.ensures
    ∙ ap (λ a. low_bits 64 (int_shr (signed_value a) c.low_6-in-Sra.result)) c.get-in-Sra.ensures
    ∙ ap (λ b. low_bits 64 (int_shr (signed_value (register m i.rs1)) b)) c.low_6-in-Sra.ensures.bits
    ∙ ap (λ d. low_bits 64 (int_shr (signed_value (register m i.rs1)) (d % 64))) c.get-in-Sra-2.ensures in
    same_instruction _ (Ins.Sra i.rd i.rs1 i.rs2) _ _ _ i.is
    (subst (λ v. Does (gives m i.rd v) c.give-in-Sra.result m c.give-in-Sra.new.self) e c.give-in-Sra.ensures)

pub returns-in-Mul : goal.returns-in-Mul
returns-in-Mul c =
    let m = c.args.self.now in
    let i = c.in-Mul in
    let e : c.mul.result ≡ low_bits 64 (pos (register m i.rs1) *ℤ pos (register m i.rs2)) = c.mul.ensures
    ∙ ap (λ a. low_bits 64 (pos a *ℤ pos c.get-in-Mul-2.result)) c.get-in-Mul.ensures
    ∙ ap (λ b. low_bits 64 (pos (register m i.rs1) *ℤ pos b)) c.get-in-Mul-2.ensures in
    same_instruction _ (Ins.Mul i.rd i.rs1 i.rs2) _ _ _ i.is
    (subst (λ v. Does (gives m i.rd v) c.give-in-Mul.result m c.give-in-Mul.new.self) e c.give-in-Mul.ensures)

pub returns-in-Mulh : goal.returns-in-Mulh
returns-in-Mulh c =
    let m = c.args.self.now in
    let i = c.in-Mulh in
    let e : c.mul_upper.result ≡ upper_bits (signed_value (register m i.rs1) *ℤ signed_value (register m i.rs2)) =
    c.mul_upper.ensures ∙ ap (λ a. upper_bits (signed_value a *ℤ signed_value c.get-in-Mulh-2.result))
    c.get-in-Mulh.ensures ∙ ap (λ b. upper_bits (signed_value (register m i.rs1) *ℤ signed_value b))
    c.get-in-Mulh-2.ensures in
    same_instruction _ (Ins.Mulh i.rd i.rs1 i.rs2) _ _ _ i.is
    (subst (λ v. Does (gives m i.rd v) c.give-in-Mulh.result m c.give-in-Mulh.new.self) e c.give-in-Mulh.ensures)

pub returns-in-Mulhsu : goal.returns-in-Mulhsu
returns-in-Mulhsu c =
    let m = c.args.self.now in
    let i = c.in-Mulhsu in
    let e : c.mul_upper_mixed.result ≡ upper_bits (signed_value (register m i.rs1) *ℤ pos (register m i.rs2)) =
    c.mul_upper_mixed.ensures ∙ ap (λ a. upper_bits (signed_value a *ℤ pos c.get-in-Mulhsu-2.result))
    c.get-in-Mulhsu.ensures ∙ ap (λ b. upper_bits (signed_value (register m i.rs1) *ℤ pos b))
    c.get-in-Mulhsu-2.ensures in
    same_instruction _ (Ins.Mulhsu i.rd i.rs1 i.rs2) _ _ _ i.is
    (subst (λ v. Does (gives m i.rd v) c.give-in-Mulhsu.result m c.give-in-Mulhsu.new.self) e c.give-in-Mulhsu.ensures)

pub returns-in-Mulhu : goal.returns-in-Mulhu
returns-in-Mulhu c =
    let m = c.args.self.now in
    let i = c.in-Mulhu in
    let e : c.mul_upper_unsigned.result ≡ upper_bits (pos (register m i.rs1) *ℤ pos (register m i.rs2)) =
    c.mul_upper_unsigned.ensures ∙ ap (λ a. upper_bits (pos a *ℤ pos c.get-in-Mulhu-2.result))
    c.get-in-Mulhu.ensures ∙ ap (λ b. upper_bits (pos (register m i.rs1) *ℤ pos b)) c.get-in-Mulhu-2.ensures in
    same_instruction _ (Ins.Mulhu i.rd i.rs1 i.rs2) _ _ _ i.is
    (subst (λ v. Does (gives m i.rd v) c.give-in-Mulhu.result m c.give-in-Mulhu.new.self) e c.give-in-Mulhu.ensures)

pub returns-in-Div : goal.returns-in-Div
returns-in-Div c =
    let m = c.args.self.now in
    let i = c.in-Div in
    let e : c.div.result ≡ quotient (register m i.rs1) (register m i.rs2) = c.div.ensures
    ∙ ap (λ a. quotient a c.get-in-Div-2.result) c.get-in-Div.ensures ∙ ap (λ b. quotient (register m i.rs1) b)
    c.get-in-Div-2.ensures in
    same_instruction _ (Ins.Div i.rd i.rs1 i.rs2) _ _ _ i.is
    (subst (λ v. Does (gives m i.rd v) c.give-in-Div.result m c.give-in-Div.new.self) e c.give-in-Div.ensures)

pub returns-in-Divu : goal.returns-in-Divu
returns-in-Divu c =
    let m = c.args.self.now in
    let i = c.in-Divu in
    let e : c.div_unsigned.result ≡ unsigned_quotient (register m i.rs1) (register m i.rs2) = c.div_unsigned.ensures
    ∙ ap (λ a. unsigned_quotient a c.get-in-Divu-2.result) c.get-in-Divu.ensures
    ∙ ap (λ b. unsigned_quotient (register m i.rs1) b) c.get-in-Divu-2.ensures in
    same_instruction _ (Ins.Divu i.rd i.rs1 i.rs2) _ _ _ i.is
    (subst (λ v. Does (gives m i.rd v) c.give-in-Divu.result m c.give-in-Divu.new.self) e c.give-in-Divu.ensures)

pub returns-in-Rem : goal.returns-in-Rem
returns-in-Rem c =
    let m = c.args.self.now in
    let i = c.in-Rem in
    let e : c.rem.result ≡ remainder (register m i.rs1) (register m i.rs2) = c.rem.ensures
    ∙ ap (λ a. remainder a c.get-in-Rem-2.result) c.get-in-Rem.ensures ∙ ap (λ b. remainder (register m i.rs1) b)
    c.get-in-Rem-2.ensures in
    same_instruction _ (Ins.Rem i.rd i.rs1 i.rs2) _ _ _ i.is
    (subst (λ v. Does (gives m i.rd v) c.give-in-Rem.result m c.give-in-Rem.new.self) e c.give-in-Rem.ensures)

pub returns-in-Remu : goal.returns-in-Remu
returns-in-Remu c =
    let m = c.args.self.now in
    let i = c.in-Remu in
    let e : c.rem_unsigned.result ≡ unsigned_remainder (register m i.rs1) (register m i.rs2) = c.rem_unsigned.ensures
    ∙ ap (λ a. unsigned_remainder a c.get-in-Remu-2.result) c.get-in-Remu.ensures
    ∙ ap (λ b. unsigned_remainder (register m i.rs1) b) c.get-in-Remu-2.ensures in
    same_instruction _ (Ins.Remu i.rd i.rs1 i.rs2) _ _ _ i.is
    (subst (λ v. Does (gives m i.rd v) c.give-in-Remu.result m c.give-in-Remu.new.self) e c.give-in-Remu.ensures)

pub returns-in-Addw : goal.returns-in-Addw
returns-in-Addw c =
    let m = c.args.self.now in
    let i = c.in-Addw in
    let e : c.add_word.result ≡ low_word (pos (register m i.rs1) +ℤ pos (register m i.rs2)) = c.add_word.ensures
    ∙ ap (λ a. low_word (pos a +ℤ pos c.get-in-Addw-2.result)) c.get-in-Addw.ensures
    ∙ ap (λ b. low_word (pos (register m i.rs1) +ℤ pos b)) c.get-in-Addw-2.ensures in
    same_instruction _ (Ins.Addw i.rd i.rs1 i.rs2) _ _ _ i.is
    (subst (λ v. Does (gives m i.rd v) c.give-in-Addw.result m c.give-in-Addw.new.self) e c.give-in-Addw.ensures)

pub returns-in-Sllw : goal.returns-in-Sllw
returns-in-Sllw c =
    let m = c.args.self.now in
    let i = c.in-Sllw in
    let e : c.shift_word_left-in-Sllw.result ≡ low_word (pos ((register m i.rs1) * 2 ^ (register m i.rs2 % 32))) =
    c.shift_word_left-in-Sllw.ensures ∙ ap (λ a. low_word (pos (a * 2 ^ c.low_5.result))) c.get-in-Sllw.ensures
    ∙ ap (λ b. low_word (pos ((register m i.rs1) * 2 ^ b))) c.low_5.ensures.bits
    ∙ ap (λ d. low_word (pos ((register m i.rs1) * 2 ^ (d % 32)))) c.get-in-Sllw-2.ensures in
    same_instruction _ (Ins.Sllw i.rd i.rs1 i.rs2) _ _ _ i.is
    (subst (λ v. Does (gives m i.rd v) c.give-in-Sllw.result m c.give-in-Sllw.new.self) e c.give-in-Sllw.ensures)

pub returns-in-Srlw : goal.returns-in-Srlw
returns-in-Srlw c =
    let m = c.args.self.now in
    let i = c.in-Srlw in
    let e : c.shift_word_right-in-Srlw.result ≡ low_word
    (pos (word_value (register m i.rs1) / 2 ^ (register m i.rs2 % 32))) = c.shift_word_right-in-Srlw.ensures
    ∙ ap (λ a. low_word (pos (word_value a / 2 ^ c.low_5-in-Srlw.result))) c.get-in-Srlw.ensures
    ∙ ap (λ b. low_word (pos (word_value (register m i.rs1) / 2 ^ b))) c.low_5-in-Srlw.ensures.bits
    ∙ ap (λ d. low_word (pos (word_value (register m i.rs1) / 2 ^ (d % 32)))) c.get-in-Srlw-2.ensures in
    same_instruction _ (Ins.Srlw i.rd i.rs1 i.rs2) _ _ _ i.is
    (subst (λ v. Does (gives m i.rd v) c.give-in-Srlw.result m c.give-in-Srlw.new.self) e c.give-in-Srlw.ensures)

pub returns-in-Subw : goal.returns-in-Subw
returns-in-Subw c =
    let m = c.args.self.now in
    let i = c.in-Subw in
    let e : c.sub_word.result ≡ low_word (pos (register m i.rs1) -ℤ pos (register m i.rs2)) = c.sub_word.ensures
    ∙ ap (λ a. low_word (pos a -ℤ pos c.get-in-Subw-2.result)) c.get-in-Subw.ensures
    ∙ ap (λ b. low_word (pos (register m i.rs1) -ℤ pos b)) c.get-in-Subw-2.ensures in
    same_instruction _ (Ins.Subw i.rd i.rs1 i.rs2) _ _ _ i.is
    (subst (λ v. Does (gives m i.rd v) c.give-in-Subw.result m c.give-in-Subw.new.self) e c.give-in-Subw.ensures)

pub returns-in-Sraw : goal.returns-in-Sraw
returns-in-Sraw c =
    let m = c.args.self.now in
    let i = c.in-Sraw in
    let e : c.shift_word_right_signed-in-Sraw.result ≡ low_word (int_shr (signed_word_value (register m i.rs1))
    (register m i.rs2 % 32)) = c.shift_word_right_signed-in-Sraw.ensures
    ∙ ap (λ a. low_word (int_shr (signed_word_value a) c.low_5-in-Sraw.result)) c.get-in-Sraw.ensures
    ∙ ap (λ b. low_word (int_shr (signed_word_value (register m i.rs1)) b)) c.low_5-in-Sraw.ensures.bits
    ∙ ap (λ d. low_word (int_shr (signed_word_value (register m i.rs1)) (d % 32))) c.get-in-Sraw-2.ensures in
    same_instruction _ (Ins.Sraw i.rd i.rs1 i.rs2) _ _ _ i.is
    (subst (λ v. Does (gives m i.rd v) c.give-in-Sraw.result m c.give-in-Sraw.new.self) e c.give-in-Sraw.ensures)

pub returns-in-Mulw : goal.returns-in-Mulw
returns-in-Mulw c =
    let m = c.args.self.now in
    let i = c.in-Mulw in
    let e : c.mul_word.result ≡ low_word (pos (register m i.rs1) *ℤ pos (register m i.rs2)) = c.mul_word.ensures
    ∙ ap (λ a. low_word (pos a *ℤ pos c.get-in-Mulw-2.result)) c.get-in-Mulw.ensures
    ∙ ap (λ b. low_word (pos (register m i.rs1) *ℤ pos b)) c.get-in-Mulw-2.ensures in
    same_instruction _ (Ins.Mulw i.rd i.rs1 i.rs2) _ _ _ i.is
    (subst (λ v. Does (gives m i.rd v) c.give-in-Mulw.result m c.give-in-Mulw.new.self) e c.give-in-Mulw.ensures)

pub returns-in-Divw : goal.returns-in-Divw
returns-in-Divw c =
    let m = c.args.self.now in
    let i = c.in-Divw in
    let e : c.div_word.result ≡ word_quotient (register m i.rs1) (register m i.rs2) = c.div_word.ensures
    ∙ ap (λ a. word_quotient a c.get-in-Divw-2.result) c.get-in-Divw.ensures
    ∙ ap (λ b. word_quotient (register m i.rs1) b) c.get-in-Divw-2.ensures in
    same_instruction _ (Ins.Divw i.rd i.rs1 i.rs2) _ _ _ i.is
    (subst (λ v. Does (gives m i.rd v) c.give-in-Divw.result m c.give-in-Divw.new.self) e c.give-in-Divw.ensures)

pub returns-in-Divuw : goal.returns-in-Divuw
returns-in-Divuw c =
    let m = c.args.self.now in
    let i = c.in-Divuw in
    let e : c.div_word_unsigned.result ≡ unsigned_word_quotient (register m i.rs1) (register m i.rs2) =
    c.div_word_unsigned.ensures ∙ ap (λ a. unsigned_word_quotient a c.get-in-Divuw-2.result) c.get-in-Divuw.ensures
    ∙ ap (λ b. unsigned_word_quotient (register m i.rs1) b) c.get-in-Divuw-2.ensures in
    same_instruction _ (Ins.Divuw i.rd i.rs1 i.rs2) _ _ _ i.is
    (subst (λ v. Does (gives m i.rd v) c.give-in-Divuw.result m c.give-in-Divuw.new.self) e c.give-in-Divuw.ensures)

pub returns-in-Remw : goal.returns-in-Remw
returns-in-Remw c =
    let m = c.args.self.now in
    let i = c.in-Remw in
    let e : c.rem_word.result ≡ word_remainder (register m i.rs1) (register m i.rs2) = c.rem_word.ensures
    ∙ ap (λ a. word_remainder a c.get-in-Remw-2.result) c.get-in-Remw.ensures
    ∙ ap (λ b. word_remainder (register m i.rs1) b) c.get-in-Remw-2.ensures in
    same_instruction _ (Ins.Remw i.rd i.rs1 i.rs2) _ _ _ i.is
    (subst (λ v. Does (gives m i.rd v) c.give-in-Remw.result m c.give-in-Remw.new.self) e c.give-in-Remw.ensures)

pub returns-in-Remuw : goal.returns-in-Remuw
returns-in-Remuw c =
    let m = c.args.self.now in
    let i = c.in-Remuw in
    let e : c.rem_word_unsigned.result ≡ unsigned_word_remainder (register m i.rs1) (register m i.rs2) =
    c.rem_word_unsigned.ensures ∙ ap (λ a. unsigned_word_remainder a c.get-in-Remuw-2.result) c.get-in-Remuw.ensures
    ∙ ap (λ b. unsigned_word_remainder (register m i.rs1) b) c.get-in-Remuw-2.ensures in
    same_instruction _ (Ins.Remuw i.rd i.rs1 i.rs2) _ _ _ i.is
    (subst (λ v. Does (gives m i.rd v) c.give-in-Remuw.result m c.give-in-Remuw.new.self) e c.give-in-Remuw.ensures)

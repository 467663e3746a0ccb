-- Code with the addresses of its fixes is legal where the code itself is.
use Rattle.std.proofs.Common.{◌≡◌, ◌⊎◌, inl, inr, ℕ, zero, suc, ◌+◌, ◌-◌, ◌<◌, ◌≤◌, ◌*◌, ◌%◌, pos, negsuc}
use Rattle.std.proofs.Common.{List, [], ◌∷◌, All, arith, sym, subst}
use Rattle.std.proofs.lemmas.Bool.Decides.{nat_tests}
use Rattle.std.proofs.lemmas.Int.{ints}
use Rattle.num_core.specs.Bits.{signed}
use Rattle.num_core.specs.declared.fix.Fix.{Fix}
use Rattle.rv_isa.specs.declared.ins.Ins.{Ins}
use Rattle.rv_isa.specs.Instructions.{IsLegal}
use Rattle.rv_isa.specs.Operands.{IsImmediate}
use Rattle.rv_code.specs.Code.{AllLegal}
use Rattle.lir_core.specs.Program.{WordProgram}
use Rattle.lir_core.specs.declared.body.LirBody.{LirBody}
use Rattle.rt_code.specs.Code.{lower}
use Rattle.rv_gen.specs.Placing.{code_of, fixes_of}
use Rattle.rv_words.specs.Linked.{bits_between, linked, target_of, with_both, with_fixes, with_lower, with_upper}

one_by_one : (code : List Ins) → All IsLegal code → AllLegal code
one_by_one [] all = tt
one_by_one (ins ∷ code) all =
    let first : IsLegal ins = all 0 ins (omega arith) in
    (first, one_by_one code (λ k d h. all (suc k) d (omega (arith, h))))

-- as in rt_code/proofs/Lines, where they are private
signed_cases : (r : ℕ) → r < 4096 → ((r < 2048) × (signed 12 r ≡ pos r))
    ⊎ ((2048 ≤ r) × (signed 12 r ≡ negsuc (4095 - r)))
signed_cases r h = grind (arith, nat_tests)

lower_legal : (bits : ℕ) → IsImmediate (lower bits)
lower_legal bits =
    elim (signed_cases (bits % 4096) (omega arith)) [
      | inl q ↦ subst IsImmediate (sym q.1) (omega (arith, ints), omega (arith, ints))
      | inr q ↦ subst IsImmediate (sym q.1) (omega (arith, ints), omega (arith, ints))
    ]

-- a line for each instruction: an `auipc` with another upper part, and all others as they are
upper_legal : (bits : ℕ) (ins : Ins) → IsLegal ins → IsLegal (with_upper bits ins)
upper_legal bits (Ins.Auipc rd imm) legal = (legal.0, omega arith)
upper_legal bits ins legal = legal

lower_part_legal : (bits : ℕ) (ins : Ins) → IsLegal ins → IsLegal (with_lower bits ins)
lower_part_legal bits (Ins.Addi rd rs1 imm) legal = (legal.0, legal.1, lower_legal bits)
lower_part_legal bits (Ins.Jalr rd rs1 imm) legal = (legal.0, legal.1, lower_legal bits)
lower_part_legal bits ins legal = legal

both_legal : (bits at : ℕ) (code : List Ins) → AllLegal code → AllLegal (with_both bits at code)
both_legal bits zero [] legal = tt
both_legal bits (suc at) [] legal = tt
both_legal bits zero (first ∷ []) legal = legal
both_legal bits zero (first ∷ second ∷ code) legal =
    (upper_legal bits first legal.0, (lower_part_legal bits second legal.1.0, legal.1.1))
both_legal bits (suc at) (ins ∷ code) legal = (legal.0, both_legal bits at code legal.1)

fixes_legal : (program : WordProgram) (begin : ℕ) (fixes : List Fix) (code : List Ins) → AllLegal code
    → AllLegal (with_fixes program begin fixes code)
fixes_legal program begin [] code legal = legal
fixes_legal program begin (fix ∷ fixes) code legal =
    let bits : ℕ = bits_between (begin + 4 * fix.at) (target_of program fix) in
    fixes_legal program begin fixes (with_both bits fix.at code) (both_legal bits fix.at code legal)

pub linked_legal : (program : WordProgram) (begin : ℕ) (body : LirBody) → All IsLegal (code_of body)
    → AllLegal (linked program begin body)
unfolding linked
linked_legal program begin body all =
    fixes_legal program begin (fixes_of body) (code_of body) (one_by_one (code_of body) all)

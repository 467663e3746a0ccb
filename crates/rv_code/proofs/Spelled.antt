-- The registers of a machine one by one, so that what an instruction does with them computes.
use Rattle.std.proofs.Common.{◌≡◌, ◌∙◌, ℕ, zero, suc, ◌+◌, List, [], ◌∷◌, length, arith, refl, ap, sym, subst}
use Rattle.std.proofs.Common.{slice_index}
use Rattle.rv_step.specs.Machine.{MachineState, register}
use Rattle.rv_code.specs.Registers.{HasRegisters, listed, registers_of}

-- a list is that of its items, by their places in a longer one
listed_one_by_one : (word : ℕ → ℕ) (first : ℕ) (items : List ℕ)
    → ((i : ℕ) → slice_index items i ≡ word (first + i)) → items ≡ listed word first (length items)
listed_one_by_one word first [] same = refl
listed_one_by_one word first (item ∷ items) same =
    let here : first + 0 ≡ first = omega arith in
    let head : item ≡ word first = same 0 ∙ ap word here in
    let tail : items ≡ listed word (suc first) (length items) =
    listed_one_by_one word (suc first) items
    (λ i. let next : first + suc i ≡ suc first + i = omega arith in same (suc i) ∙ ap word next) in
    ap (λ x. x ∷ items) head ∙ ap (λ xs. word first ∷ xs) tail

-- the registers of a machine that has them
pub spelled : (m : MachineState) → HasRegisters m → m.registers ≡ registers_of (register m)
spelled m has =
    let all : m.registers ≡ listed (register m) 0 32 =
    listed_one_by_one (register m) 0 m.registers (λ i. let e : i ≡ 0 + i = omega arith in ap (register m) e)
    ∙ ap (listed (register m) 0) has.count in
    all ∙ ap (λ x. x ∷ listed (register m) 1 31) has.x0

-- a machine by its parts
pub by_parts : (m : MachineState) (pc : ℕ) (registers : List ℕ) → m.pc ≡ pc → m.registers ≡ registers
    → m ≡ record { pc = pc; registers = registers; segments = m.segments }
by_parts m pc registers e e' = ap (λ p. record { pc = p; registers = m.registers; segments = m.segments }) e
    ∙ ap (λ rs. record { pc = pc; registers = rs; segments = m.segments }) e'

-- The code of one instruction after another.
use Rattle.std.proofs.Common.{◌≡◌, ◌∙◌, ℕ, zero, suc, ◌+◌, ◌*◌, ◌<◌, ◌≤◌, All, take, subst, List, [], ◌∷◌, ◌++◌, length}
use Rattle.std.proofs.Common.{drop, slice_index_or, length-append, append_assoc, Option, Some, None, refl, ap, sym}
use Rattle.std.proofs.Common.{arith}
use Rattle.il_code.specs.declared.body.Instr.{Instr}
use Rattle.il_code.specs.declared.operation.Operation.{Operation}
use Rattle.il_code.specs.declared.operation.Operation.TheVariants.{NoOperation, Constant, Duplicate, Discard, Binary}
use Rattle.il_code.specs.declared.operation.Operation.TheVariants.{Branch, BranchIfTrue, Return}
use Rattle.il_code.specs.Operations.{operation_of}
use Rattle.rv_isa.specs.declared.ins.Ins.{Ins}
use Rattle.ilc_build.specs.Code.{code_from, operation_code, operation_size, row_code, row_size, IsInt32Instr}
use Rattle.std.proofs.Math.Seq.{take-suc}
use Rattle.std.proofs.lemmas.List.Elements.{All-push}
use Rattle.ilc_build.specs.Depths.{operation_at, row}
use Rattle.ilc_build.specs.declared.depths.Known.{Known}
use Rattle.ilc_build.specs.declared.depths.Known.TheVariants.{Nothing, Depth, Clash}

size_of_operation : (places : ℕ → ℕ) (place d : ℕ) (operation : Operation)
    → length (operation_code places place d operation) ≡ operation_size operation
size_of_operation places place d NoOperation = refl
size_of_operation places place d (Constant n) = refl
size_of_operation places place d Duplicate = refl
size_of_operation places place d Discard = refl
size_of_operation places place d (Binary does) = refl
size_of_operation places place d (Branch target) = refl
size_of_operation places place d (BranchIfTrue target) = refl
size_of_operation places place d Return = refl

pub size_of_row : (places : ℕ → ℕ) (place : ℕ) (k : Known) (o : Option Operation)
    → length (row_code places place k o) ≡ row_size k o
size_of_row places place Nothing o = refl
size_of_row places place (Depth d) None = refl
size_of_row places place (Depth d) (Some operation) = size_of_operation places place d operation
size_of_row places place Clash o = refl

-- the code of those that are left begins with that of the first of them
pub first_left : (places : ℕ → ℕ) (place : ℕ) (instrs : List Instr) (table : List Known) (n : ℕ) (i : Instr)
    → length table ≡ length instrs → n < length instrs
    → code_from places place (drop n instrs) (drop n table) ≡ row_code places place (row table n)
    (operation_of (slice_index_or instrs n i).op (slice_index_or instrs n i).operand)
    ++ code_from places (place + row_size (row table n)
    (operation_of (slice_index_or instrs n i).op (slice_index_or instrs n i).operand)) (drop (suc n) instrs)
    (drop (suc n) table)
first_left places place [] table n i size inside = absurd (omega (arith, inside))
first_left places place (x ∷ instrs) [] n i size inside =
    absurd (let e : 0 ≡ suc (length instrs) = size in omega (arith, e))
first_left places place (x ∷ instrs) (k ∷ table) zero i size inside = refl
first_left places place (x ∷ instrs) (k ∷ table) (suc n) i size inside =
    let sizes : suc (length table) ≡ suc (length instrs) = size in
    first_left places place instrs table n i (omega (arith, sizes)) (omega (arith, inside))

-- what is emitted for it comes behind what was, and the rest behind that
emitted_one : (places : ℕ → ℕ) (all code new : List Ins) (instrs : List Instr) (table : List Known) (n : ℕ) (i : Instr)
    → length table ≡ length instrs → n < length instrs
    → all ≡ code ++ code_from places (length code) (drop n instrs) (drop n table)
    → new ≡ code ++ row_code places (length code) (row table n) (operation_at (slice_index_or instrs n i))
    → all ≡ new ++ code_from places (length new) (drop (n + 1) instrs) (drop (n + 1) table)
emitted_one places all code new instrs table n i size inside so_far grown =
    let k : Known = row table n in
    let o : Option Operation = operation_at (slice_index_or instrs n i) in
    let rest : ℕ → List Ins = λ place. code_from places place (drop (suc n) instrs) (drop (suc n) table) in
    let next : suc n ≡ n + 1 = omega arith in
    let longer : length code + row_size k o ≡ length new =
    ap (λ s. length code + s) (sym (size_of_row places (length code) k o))
    ∙ sym (length-append code (row_code places (length code) k o)) ∙ ap length (sym grown) in
    so_far
    ∙ ap (λ c. code ++ c) (first_left places (length code) instrs table n i size inside)
    ∙ sym (append_assoc code (row_code places (length code) k o) (rest (length code + row_size k o)))
    ∙ ap (λ c. c ++ rest (length code + row_size k o)) (sym grown)
    ∙ ap (λ place. new ++ rest place) longer
    ∙ ap (λ m. new ++ code_from places (length new) (drop m instrs) (drop m table)) next

pub emitted : (places : ℕ → ℕ) (all code new : List Ins) (instrs : List Instr) (table : List Known) (n : ℕ)
    → length table ≡ length instrs → n < length instrs
    → all ≡ code ++ code_from places (length code) (drop n instrs) (drop n table)
    → ((i : Instr) → new ≡ code ++ row_code places (length code) (row table n)
    (operation_at (slice_index_or instrs n i)))
    → all ≡ new ++ code_from places (length new) (drop (n + 1) instrs) (drop (n + 1) table)
emitted places all code new [] table n size inside so_far grown = absurd (omega (arith, inside))
emitted places all code new (x ∷ instrs) table n size inside so_far grown =
    emitted_one places all code new (x ∷ instrs) table n x size inside so_far (grown x)

size_at_most : (operation : Operation) → operation_size operation ≤ 5
size_at_most NoOperation = omega arith
size_at_most (Constant n) = omega arith
size_at_most Duplicate = omega arith
size_at_most Discard = omega arith
size_at_most (Binary does) = omega arith
size_at_most (Branch target) = omega arith
size_at_most (BranchIfTrue target) = omega arith
size_at_most Return = omega arith

row_at_most : (k : Known) (o : Option Operation) → row_size k o ≤ 5
row_at_most Nothing o = omega arith
row_at_most (Depth d) None = omega arith
row_at_most (Depth d) (Some operation) = size_at_most operation
row_at_most Clash o = omega arith

pub few_more : (places : ℕ → ℕ) (code new : List Ins) (k : Known) (instrs : List Instr) (n : ℕ) → n < length instrs
    → ((i : Instr) → new ≡ code ++ row_code places (length code) k (operation_at (slice_index_or instrs n i)))
    → length code ≤ 5 * n → length new ≤ 5 * (n + 1)
few_more places code new k [] n inside grown few = absurd (omega (arith, inside))
few_more places code new k (x ∷ instrs) n inside grown few =
    let o : Option Operation = operation_at (slice_index_or (x ∷ instrs) n x) in
    let size : length new ≡ length code + row_size k o = ap length (grown x)
    ∙ length-append code (row_code places (length code) k o)
    ∙ ap (λ s. length code + s) (size_of_row places (length code) k o) in
    omega (arith, size, few, row_at_most k o)

pub all_more : (instrs : List Instr) (n : ℕ) → n < length instrs
    → ((i : Instr) → IsInt32Instr (slice_index_or instrs n i)) → All IsInt32Instr (take n instrs)
    → All IsInt32Instr (take (n + 1) instrs)
all_more [] n inside here before = absurd (omega (arith, inside))
all_more (x ∷ instrs) n inside here before =
    let next : n + 1 ≡ suc n = omega arith in
    subst (All IsInt32Instr) (sym (ap (λ m. take m (x ∷ instrs)) next ∙ take-suc (x ∷ instrs) n x inside))
    (All-push IsInt32Instr (take n (x ∷ instrs)) (slice_index_or (x ∷ instrs) n x) before (here x))

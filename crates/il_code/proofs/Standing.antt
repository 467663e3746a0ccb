-- An instruction that is read at an offset stands there, and ends behind it within the code.
use Rattle.std.proofs.Common.{◌≡◌, ℕ, ◌+◌, ◌-◌, ◌*◌, ◌<◌, ◌≤◌, Bool, true, false, cond, nat_eq, nat_lt, List, [], ◌∷◌}
use Rattle.std.proofs.Common.{length, drop, Option, Some, None, refl, ap, sym, subst, arith, length-drop}
use Rattle.std.proofs.lemmas.Bool.Decides.{nat_tests}
use Rattle.std.specs.Option.{option_map}
use Rattle.byteorder.specs.Endian.{little_number}
use Rattle.il_code.specs.declared.body.Instr.{Instr}
use Rattle.il_code.specs.declared.body.Operand.{Operand}
use Rattle.il_code.specs.declared.body.Operand.TheVariants.{Targets}
use Rattle.il_code.specs.declared.opcode.Op.{Op}
use Rattle.il_code.specs.declared.opcode.OperandForm.{OperandForm}
use Rattle.il_code.specs.declared.opcode.OperandForm.TheVariants.{Targets as TargetsForm}
use Rattle.il_code.specs.Instructions.{instruction_at, numbered, prefixed, opcode_number, with_opcode, opcode_row}
use Rattle.il_code.specs.Instructions.{operand_of, of_size, fixed_size, fixed_operand, targets_of, with_targets}

pub record StandsIn (size at : ℕ) (i : Instr) : Type 0 where
  pub here : i.at ≡ at
  pub later : at < i.next
  pub within : i.next ≤ size

-- an operand is within the bytes that it is read from
sized_within : (size : ℕ) (bytes : List ℕ) (operand : Operand) (found : Operand × ℕ)
    → of_size size bytes operand ≡ Some found → found.1 ≤ length bytes
sized_within size bytes operand found e = by (nat_lt (length bytes) size) refl e
  where
    by : (b : Bool) → nat_lt (length bytes) size ≡ b
        → cond {A = Option (Operand × ℕ)} b None (Some (operand, size)) ≡ Some found → found.1 ≤ length bytes
    by true t e = cc
    by false t e =
        let same : (operand, size) ≡ found = cc in
        let enough : size ≤ length bytes = grind (arith, nat_tests) in
        subst (λ (f : Operand × ℕ). f.1 ≤ length bytes) same enough

counted_within : (count at : ℕ) (bytes : List ℕ) (found : Operand × ℕ) → with_targets count at bytes ≡ Some found
    → found.1 ≤ length bytes
counted_within count at bytes found e =
    sized_within (4 + 4 * count) bytes (Targets (targets_of (at + (4 + 4 * count)) count (drop 4 bytes))) found e

targets_within : (at : ℕ) (bytes : List ℕ) (found : Operand × ℕ) → operand_of TargetsForm at bytes ≡ Some found
    → found.1 ≤ length bytes
targets_within at bytes found e = by (nat_lt (length bytes) 4) e
  where
    by : (b : Bool) → cond {A = Option (Operand × ℕ)} b None (with_targets (little_number 4 bytes) at bytes) ≡ Some
        found
        → found.1 ≤ length bytes
    by true e = cc
    by false e = counted_within (little_number 4 bytes) at bytes found e

operand_within : (form : OperandForm) (at : ℕ) (bytes : List ℕ) (found : Operand × ℕ)
    → operand_of form at bytes ≡ Some found → found.1 ≤ length bytes
operand_within TargetsForm at bytes found e = targets_within at bytes found e
operand_within form at bytes found e = sized_within (fixed_size form) bytes (fixed_operand form at bytes) found e

stands_with : (size at behind : ℕ) (row : Op × OperandForm) (o : Option (Operand × ℕ)) (i : Instr) → at < behind
    → ((operand : Operand × ℕ) → o ≡ Some operand → behind + operand.1 ≤ size)
    → option_map (λ operand. record { at = at; next = behind + operand.1; op = row.0; operand = operand.0 }) o ≡ Some i
    → StandsIn size at i
stands_with size at behind row None i h inside e = cc
stands_with size at behind row (Some operand) i h inside e =
    let same : record { at = at; next = behind + operand.1; op = row.0; operand = operand.0 } ≡ i = cc in
    let next : behind + operand.1 ≡ i.next = ap (λ i. i.next) same in
    record {
      here = ap (λ i. i.at) (sym same);
      later = omega (arith, h, next);
      within = omega (arith, next, inside operand refl);
    }

stands_row : (size at behind : ℕ) (row : Option (Op × OperandForm)) (bytes : List ℕ) (i : Instr) → at < behind
    → behind + length bytes ≤ size → with_opcode at behind row bytes ≡ Some i → StandsIn size at i
stands_row size at behind None bytes i h inside e = cc
stands_row size at behind (Some row) bytes i h inside e =
    stands_with size at behind row (operand_of row.1 behind bytes) i h
    (λ operand is. omega (arith, inside, operand_within row.1 behind bytes operand is)) e

-- an opcode has one byte or two
some_bytes : (bytes : List ℕ) (number : ℕ × ℕ) → opcode_number bytes ≡ Some number
    → (0 < number.1) × (number.1 ≤ length bytes)
some_bytes [] number e = cc
some_bytes (first ∷ rest) number e = by (nat_eq first 0xFE) rest e
  where
    behind : (rest : List ℕ) → prefixed rest ≡ Some number → (0 < number.1) × (number.1 ≤ length (first ∷ rest))
    behind [] e = cc
    behind (second ∷ rest) e =
        let same : (0xFE00 + second, 2) ≡ number = cc in
        subst (λ (n : ℕ × ℕ). (0 < n.1) × (n.1 ≤ length (first ∷ second ∷ rest))) same (omega arith, omega arith)

    by : (b : Bool) (rest : List ℕ) → cond b (prefixed rest) (Some (first, 1)) ≡ Some number
        → (0 < number.1) × (number.1 ≤ length (first ∷ rest))
    by true rest e = behind rest e
    by false rest e =
        let same : (first, 1) ≡ number = cc in
        subst (λ (n : ℕ × ℕ). (0 < n.1) × (n.1 ≤ length (first ∷ rest))) same (omega arith, omega arith)

stands_numbered : (size at : ℕ) (bytes : List ℕ) (o : Option (ℕ × ℕ)) (i : Instr) → length bytes ≡ size - at
    → opcode_number bytes ≡ o → numbered at bytes o ≡ Some i → StandsIn size at i
stands_numbered size at bytes None i left is e = cc
stands_numbered size at bytes (Some number) i left is e =
    let some : (0 < number.1) × (number.1 ≤ length bytes) = some_bytes bytes number is in
    let rest : length (drop number.1 bytes) ≡ length bytes - number.1 = length-drop number.1 bytes in
    stands_row size at (at + number.1) (opcode_row number.0) (drop number.1 bytes) i (omega (arith, some.0))
    (omega (arith, some.0, some.1, left, rest)) e

pub stands_in : (code : List ℕ) (at : ℕ) (i : Instr) → instruction_at code at ≡ Some i → StandsIn (length code) at i
stands_in code at i e =
    stands_numbered (length code) at (drop at code) (opcode_number (drop at code)) i (length-drop at code) refl e

-- An instruction is read back from its line.
use Rattle.std.proofs.Common.{◌≡◌, ◌∙◌, ℕ, suc, ◌+◌, ◌*◌, ◌%◌, ◌^◌, ◌<◌, ◌≤◌, Bool, true, false, cond, not}
use Rattle.std.proofs.Common.{nat_eq, nat_lt, nat_le, ◌&&◌, List, [], ◌∷◌, ◌++◌, length, take, drop, codes, Option}
use Rattle.std.proofs.Common.{Some, None}
use Rattle.std.proofs.Common.{is_none, option_map, option_and_then, Ok, refl, ap, sym, subst, arith}
use Rattle.std.proofs.Common.{length-drop, eq-eqb}
use Rattle.std.proofs.lemmas.Bool.{and_from, and_parts, eqb-true, leb-true, lt-ltb, le-ltb, le-leb, ltb-false}
use Rattle.std.proofs.lemmas.List.{drop-take, length-take-le}
use Rattle.byteorder.specs.Endian.{little_number}
use Rattle.byteorder.specs.Numbers.{little_from-take}
use Rattle.hex.specs.Hex.{IsBytes}
use Rattle.il_code.specs.declared.body.Instr.{Instr}
use Rattle.il_code.specs.declared.body.Operand.{Operand}
use Rattle.il_code.specs.declared.body.Operand.TheVariants.{Targets as TargetsOperand}
use Rattle.il_code.specs.declared.opcode.Op.{Op}
use Rattle.il_code.specs.declared.opcode.OperandForm.{OperandForm}
use Rattle.il_code.specs.declared.opcode.OperandForm.TheVariants.{Targets}
use Rattle.il_code.specs.Instructions.{instruction_at, numbered, prefixed, opcode_number, with_opcode, opcode_row}
use Rattle.il_code.specs.Instructions.{operand_of as operand_at, of_size, fixed_size, fixed_operand, with_targets}
use Rattle.il_code.specs.Instructions.{targets_of}
use Rattle.il_text.specs.Instructions.{instruction_words, unnamed_words, named_words, operand_words, has_size}
use Rattle.il_text.specs.Lines.{LineParts}
use Rattle.il_text.specs.Mnemonics.{row_numbered}
use Rattle.il_text.specs.Words.{bytes_word}
use Rattle.il_text.specs.Values.{bytes_in}
use Rattle.il_text.specs.Reading.{◌>>=◌, read, ends, is_word, ends_at, has_name, unnamed, row_named, opcode_bytes}
use Rattle.il_text.specs.Reading.{named_bytes, instruction_bytes, operand_of}
use Rattle.il_text.proofs.Growing.{named, without_row}
use Rattle.il_text.proofs.ReadBackLines.{AreWords, Says, bound, read_at, first_is, inner_word}
use Rattle.il_text.proofs.ReadBackNames.{NamedRow, IsName, name_of_row, named_row, number_of_row, form_of_row}
use Rattle.il_text.proofs.ReadBackOperands.{one_word, operand_back, operand_are_words, drop_bytes}
use Rattle.il_text.proofs.ReadBackValues.{bytes_back}
use Rattle.il_text.proofs.ReadBackWords.{bytes_are_word}

-- ---- what is known of the bytes of an instruction

-- Bytes that are one instruction: an opcode, and an operand of its form.
pub record IsInstruction (bytes : List ℕ) : Type 0 where
  pub number : ℕ
  pub size : ℕ
  pub op : Op
  pub form : OperandForm
  pub opcode : opcode_number bytes ≡ Some (number, size)
  pub row : opcode_row number ≡ Some (op, form)
  pub sized : has_size form (drop size bytes) ≡ true

-- how the opcode stands in the bytes
record Opens (bytes : List ℕ) (number size : ℕ) : Type 0 where
  some : 0 < size
  inside : size ≤ length bytes
  same : opcode_bytes number ++ drop size bytes ≡ bytes
  long : length (opcode_bytes number) ≡ size
  front : (n : ℕ) → opcode_number (take (size + n) bytes) ≡ Some (number, size)

opens_one : (first : ℕ) (rest : List ℕ) → first < 256 → nat_eq first 0xFE ≡ false → Opens (first ∷ rest) first 1
opens_one first rest small other =
    let short : opcode_bytes first ≡ first ∷ [] =
    ap (λ b. cond b (first ∷ []) (0xFE ∷ first % 0x100 ∷ [])) (lt-ltb first 0x100 small) in
    record {
      some = omega arith;
      inside = omega arith;
      same = ap (λ opcode. opcode ++ rest) short;
      long = ap length short;
      front = λ n.
          let more : 1 + n ≡ suc n = omega arith in
          ap (λ m. opcode_number (take m (first ∷ rest))) more
          ∙ ap (λ b. cond b (prefixed (take n rest)) (Some (first, 1))) other;
    }

opens_two : (first second : ℕ) (rest : List ℕ) → first ≡ 0xFE → second < 256
    → Opens (first ∷ second ∷ rest) (0xFE00 + second) 2
opens_two first second rest is small =
    let long : opcode_bytes (0xFE00 + second) ≡ first ∷ second ∷ [] =
    ap (λ b. cond b ((0xFE00 + second) ∷ []) (0xFE ∷ (0xFE00 + second) % 0x100 ∷ []))
    (le-ltb (0xFE00 + second) 0x100 (omega arith))
    ∙ ap (λ n. 0xFE ∷ n ∷ []) (omega arith) ∙ ap (λ n. n ∷ second ∷ []) (sym is) in
    record {
      some = omega arith;
      inside = omega arith;
      same = ap (λ opcode. opcode ++ rest) long;
      long = ap length long;
      front = λ n.
          let more : 2 + n ≡ suc (suc n) = omega arith in
          ap (λ m. opcode_number (take m (first ∷ second ∷ rest))) more
          ∙ ap (λ b. cond b (Some (0xFE00 + second, 2)) (Some (first, 1))) (eq-eqb first 0xFE is);
    }

opens_pair : (bytes : List ℕ) (found expected : ℕ × ℕ) → found ≡ expected → Opens bytes found.0 found.1
    → Opens bytes expected.0 expected.1
opens_pair bytes found expected e o = subst (λ (n : ℕ × ℕ). Opens bytes n.0 n.1) e o

opens : (bytes : List ℕ) (number size : ℕ) → IsBytes bytes → opcode_number bytes ≡ Some (number, size)
    → Opens bytes number size
opens [] number size fit e = cc
opens (first ∷ rest) number size fit e = by (nat_eq first 0xFE) refl rest fit e
  where
    behind : (rest : List ℕ) → IsBytes (first ∷ rest) → first ≡ 0xFE → prefixed rest ≡ Some (number, size)
        → Opens (first ∷ rest) number size
    behind [] fit is e = cc
    behind (second ∷ rest) fit is e =
        let same : (0xFE00 + second, 2) ≡ (number, size) = cc in
        opens_pair (first ∷ second ∷ rest) (0xFE00 + second, 2) (number, size) same
        (opens_two first second rest is (fit 1))

    by : (b : Bool) → nat_eq first 0xFE ≡ b → (rest : List ℕ) → IsBytes (first ∷ rest)
        → cond b (prefixed rest) (Some (first, 1)) ≡ Some (number, size) → Opens (first ∷ rest) number size
    by true t rest fit e = behind rest fit (eqb-true first 0xFE t) e
    by false t rest fit e =
        let same : (first, 1) ≡ (number, size) = cc in
        opens_pair (first ∷ rest) (first, 1) (number, size) same (opens_one first rest (fit 0) t)

-- ---- an operand takes all of its bytes

-- the operand that was read at the front of bytes, and how many of them it took
record Takes (form : OperandForm) (at : ℕ) (bytes : List ℕ) (size : ℕ) : Type 0 where
  operand : Operand
  read : operand_at form at bytes ≡ Some (operand, size)

takes_size : (size : ℕ) (bytes : List ℕ) (operand : Operand) → size ≤ length bytes
    → of_size size bytes operand ≡ Some (operand, size)
takes_size size bytes operand long =
    ap (λ b. cond b None (Some (operand, size))) (le-ltb (length bytes) size long)

takes_all : (form : OperandForm) (at : ℕ) (bytes : List ℕ) → has_size form bytes ≡ true
    → Takes form at bytes (length bytes)
takes_all Targets at bytes sized =
    let count : ℕ = little_number 4 bytes in
    let parts = and_parts (nat_le 4 (length bytes)) (nat_eq (length bytes) (4 + 4 * count)) sized in
    let low : 4 ≤ length bytes = leb-true 4 (length bytes) parts.0 in
    let size : length bytes ≡ 4 + 4 * count = eqb-true (length bytes) (4 + 4 * count) parts.1 in
    let operand : Operand = TargetsOperand (targets_of (at + (4 + 4 * count)) count (drop 4 bytes)) in
    record {
      operand = operand;
      read =
          ap (λ b. cond b None (with_targets count at bytes)) (le-ltb (length bytes) 4 low)
          ∙ takes_size (4 + 4 * count) bytes operand (omega (arith, size))
          ∙ ap (λ n. Some (operand, n)) (sym size);
    }
takes_all form at bytes sized =
    let size : length bytes ≡ fixed_size form = eqb-true (length bytes) (fixed_size form) sized in
    record {
      operand = fixed_operand form at bytes;
      read =
          takes_size (fixed_size form) bytes (fixed_operand form at bytes) (omega (arith, size))
          ∙ ap (λ n. Some (fixed_operand form at bytes, n)) (sym size);
    }

-- what was taken has the size of its form
record Sized (form : OperandForm) (bytes : List ℕ) (size : ℕ) : Type 0 where
  inside : size ≤ length bytes
  sized : has_size form (take size bytes) ≡ true

sized_found : (size : ℕ) (bytes : List ℕ) (operand : Operand) (found : Operand × ℕ)
    → of_size size bytes operand ≡ Some found → (found.1 ≡ size) × (size ≤ length bytes)
sized_found size bytes operand found e = by (nat_lt (length bytes) size) refl e
  where
    by : (b : Bool) → nat_lt (length bytes) size ≡ b
        → cond {A = Option (Operand × ℕ)} b None (Some (operand, size)) ≡ Some found
        → (found.1 ≡ size) × (size ≤ length bytes)
    by true t e = cc
    by false t e =
        let same : (operand, size) ≡ found = cc in
        (ap (λ (f : Operand × ℕ). f.1) (sym same), ltb-false (length bytes) size t)

counted_found : (at : ℕ) (bytes : List ℕ) (found : Operand × ℕ) → operand_at Targets at bytes ≡ Some found
    → (found.1 ≡ 4 + 4 * little_number 4 bytes) × (found.1 ≤ length bytes)
counted_found at bytes found e = by (nat_lt (length bytes) 4) e
  where
    by : (b : Bool)
        → cond {A = Option (Operand × ℕ)} b None (with_targets (little_number 4 bytes) at bytes) ≡ Some found
        → (found.1 ≡ 4 + 4 * little_number 4 bytes) × (found.1 ≤ length bytes)
    by true e = cc
    by false e =
        let count : ℕ = little_number 4 bytes in
        let operand : Operand = TargetsOperand (targets_of (at + (4 + 4 * count)) count (drop 4 bytes)) in
        let is = sized_found (4 + 4 * count) bytes operand found e in
        (is.0, omega (arith, is.0, is.1))

sized_at : (form : OperandForm) (at : ℕ) (bytes : List ℕ) (found : Operand × ℕ)
    → operand_at form at bytes ≡ Some found → Sized form bytes found.1
sized_at Targets at bytes found e =
    let is = counted_found at bytes found e in
    let long : length (take found.1 bytes) ≡ found.1 = length-take-le found.1 bytes is.1 in
    let count : little_number 4 (take found.1 bytes) ≡ little_number 4 bytes =
    little_from-take 0 4 found.1 bytes (omega (arith, is.0)) in
    record {
      inside = is.1;
      sized =
          and_from (nat_le 4 (length (take found.1 bytes)))
          (nat_eq (length (take found.1 bytes)) (4 + 4 * little_number 4 (take found.1 bytes)))
          (le-leb 4 (length (take found.1 bytes)) (omega (arith, long, is.0)))
          (eq-eqb (length (take found.1 bytes)) (4 + 4 * little_number 4 (take found.1 bytes))
          (omega (arith, long, count, is.0)));
    }
sized_at form at bytes found e =
    let is = sized_found (fixed_size form) bytes (fixed_operand form at bytes) found e in
    let inside : found.1 ≤ length bytes = omega (arith, is.0, is.1) in
    record {
      inside = inside;
      sized = eq-eqb (length (take found.1 bytes)) (fixed_size form) (length-take-le found.1 bytes inside ∙ is.0);
    }

-- ---- the bytes of an instruction that stands in code

-- the bytes at the front of others that an instruction is, which stand at an offset
pub record StandsFirst (at : ℕ) (bytes : List ℕ) (i : Instr) : Type 0 where
  pub here : i.at ≡ at
  pub size : ℕ
  pub next : i.next ≡ at + size
  pub some : 0 < size
  pub inside : size ≤ length bytes
  pub is : IsInstruction (take size bytes)

stands_with : (at size : ℕ) (bytes : List ℕ) (number : ℕ) (row : Op × OperandForm) (o : Option (Operand × ℕ))
    (i : Instr)
    → Opens bytes number size → opcode_row number ≡ Some row → operand_at row.1 (at + size) (drop size bytes) ≡ o
    → option_map (λ operand. record { at = at; next = at + size + operand.1; op = row.0; operand = operand.0 }) o
    ≡ Some i → StandsFirst at bytes i
stands_with at size bytes number row None i opens is there e = cc
stands_with at size bytes number row (Some found) i opens is there e =
    let same : record { at = at; next = at + size + found.1; op = row.0; operand = found.0 } ≡ i = cc in
    let fits : Sized row.1 (drop size bytes) found.1 = sized_at row.1 (at + size) (drop size bytes) found there in
    let next : at + size + found.1 ≡ i.next = ap (λ (i : Instr). i.next) same in
    let rest : drop size (take (size + found.1) bytes) ≡ take found.1 (drop size bytes) =
    drop-take size found.1 bytes in
    record {
      here = ap (λ (i : Instr). i.at) (sym same);
      size = size + found.1;
      next = omega (arith, next);
      some = omega (arith, opens.some);
      inside = omega (arith, opens.inside, fits.inside, length-drop size bytes);
      is = record {
        number = number;
        size = size;
        op = row.0;
        form = row.1;
        opcode = opens.front found.1;
        row = is;
        sized = ap (has_size row.1) rest ∙ fits.sized;
      };
    }

stands_row : (at size : ℕ) (bytes : List ℕ) (number : ℕ) (row : Option (Op × OperandForm)) (i : Instr)
    → Opens bytes number size → opcode_row number ≡ row → with_opcode at (at + size) row (drop size bytes) ≡ Some i
    → StandsFirst at bytes i
stands_row at size bytes number None i opens is e = cc
stands_row at size bytes number (Some row) i opens is e =
    stands_with at size bytes number row (operand_at row.1 (at + size) (drop size bytes)) i opens is refl e

stands_numbered : (at : ℕ) (bytes : List ℕ) (o : Option (ℕ × ℕ)) (i : Instr) → IsBytes bytes → opcode_number bytes ≡ o
    → numbered at bytes o ≡ Some i → StandsFirst at bytes i
stands_numbered at bytes None i fit is e = cc
stands_numbered at bytes (Some number) i fit is e =
    stands_row at number.1 bytes number.0 (opcode_row number.0) i (opens bytes number.0 number.1 fit is) refl e

pub stands_first : (code : List ℕ) (at : ℕ) (i : Instr) → IsBytes code → instruction_at code at ≡ Some i
    → StandsFirst at (drop at code) i
stands_first code at i fit e =
    stands_numbered at (drop at code) (opcode_number (drop at code)) i (drop_bytes at code fit) refl e

-- ---- the words of an instruction

-- Words of which the bytes of an instruction at an offset are read, and no other line of a body.
pub record ReadsAs (at : ℕ) (bytes : List ℕ) (words : List (List ℕ)) : Type 0 where
  pub are : AreWords words
  pub some : 0 < length words
  pub reads : (line : LineParts) → Says line words → instruction_bytes line at ≡ Ok bytes
  pub no_end : (line : LineParts) → Says line words → is_word (codes ".end") line 0 ≡ false
  pub no_code : (line : LineParts) → Says line words → is_word (codes ".code") line 0 ≡ false

-- an instruction without a name stands alone
unnamed_whole : (bytes : List ℕ) (i : IsInstruction bytes) → IsBytes bytes → row_numbered i.number ≡ None
    → unnamed bytes ≡ Some bytes
unnamed_whole bytes i fit none =
    let o : Opens bytes i.number i.size = opens bytes i.number i.size fit i.opcode in
    let t : Takes i.form (0 + i.size) (drop i.size bytes) (length (drop i.size bytes)) =
    takes_all i.form (0 + i.size) (drop i.size bytes) i.sized in
    let whole : 0 + i.size + length (drop i.size bytes) ≡ length bytes =
    omega (arith, o.inside, length-drop i.size bytes) in
    let instr : Operand × ℕ → Instr =
    λ (operand : Operand × ℕ). record { at = 0; next = 0 + i.size + operand.1; op = i.op; operand = operand.0 } in
    let there : instruction_at bytes 0 ≡ Some (instr (t.operand, length (drop i.size bytes))) =
    ap (numbered 0 bytes) i.opcode ∙ ap (λ row. with_opcode 0 (0 + i.size) row (drop i.size bytes)) i.row
    ∙ ap (option_map instr) t.read in
    let ends : ends_at (length bytes) (instruction_at bytes 0) ≡ true =
    ap (ends_at (length bytes)) there
    ∙ eq-eqb (0 + i.size + length (drop i.size bytes)) (length bytes) whole in
    let nameless : has_name (opcode_number bytes) ≡ false =
    ap has_name i.opcode ∙ ap (λ row. not (is_none row)) none in
    ap (λ b. cond (b && not (has_name (opcode_number bytes))) (Some bytes) None) ends
    ∙ ap (λ b. cond (not b) (Some bytes) None) nameless

unnamed_reads : (at : ℕ) (bytes : List ℕ) (i : IsInstruction bytes) → IsBytes bytes → row_numbered i.number ≡ None
    → ReadsAs at bytes (unnamed_words bytes)
unnamed_reads at bytes i fit none = record {
  are = (inner_word (codes ".op") (omega arith) refl, (bytes_are_word bytes fit, tt));
  some = omega arith;
  reads = λ line s.
      ap (λ b. cond b
      (read (λ word. option_and_then unnamed (bytes_in word)) line 1 >>= (λ bytes. ends line 2 >>= (λ done. Ok bytes)))
      (read row_named line 0 >>= (λ row. named_bytes line at row)))
      (first_is (codes ".op") (codes ".op") (bytes_word bytes ∷ []) line s)
      ∙ one_word line (codes ".op") (bytes_word bytes) bytes (λ word. option_and_then unnamed (bytes_in word)) s
      (ap (option_and_then unnamed) (bytes_back bytes fit) ∙ unnamed_whole bytes i fit none);
  no_end = λ line s. first_is (codes ".end") (codes ".op") (bytes_word bytes ∷ []) line s;
  no_code = λ line s. first_is (codes ".code") (codes ".op") (bytes_word bytes ∷ []) line s;
}

named_reads : (at : ℕ) (bytes : List ℕ) (i : IsInstruction bytes) (row : NamedRow) → IsBytes bytes
    → at + length bytes < 2 ^ 62 → row_numbered i.number ≡ Some row → ReadsAs at bytes (named_words at bytes i.size row)
named_reads at bytes i row fit close found =
    let o : Opens bytes i.number i.size = opens bytes i.number i.size fit i.opcode in
    let name : IsName row.1 = name_of_row i.number row found in
    let rest : List ℕ = drop i.size bytes in
    let words : List (List ℕ) = operand_words row.2 (at + length bytes) rest in
    let number : row.0 ≡ i.number = number_of_row i.number row found in
    let form : row.2 ≡ i.form = form_of_row i.number row i.op i.form found i.row in
    let sized : has_size row.2 rest ≡ true = ap (λ form. has_size form rest) form ∙ i.sized in
    let behind : ℕ = at + length (opcode_bytes row.0) in
    let long : length (opcode_bytes row.0) ≡ i.size = ap (λ n. length (opcode_bytes n)) number ∙ o.long in
    let next : at + length bytes ≡ behind + length rest = omega (arith, long, o.inside, length-drop i.size bytes) in
    let all : opcode_bytes row.0 ++ rest ≡ bytes = ap (λ n. opcode_bytes n ++ rest) number ∙ o.same in
    record {
      are = (name.word, operand_are_words row.2 (at + length bytes) rest (drop_bytes i.size bytes fit) close);
      some = omega arith;
      reads = λ line s.
          ap (λ b. cond b
          (read (λ word. option_and_then unnamed (bytes_in word)) line 1
          >>= (λ bytes. ends line 2 >>= (λ done. Ok bytes)))
          (read row_named line 0 >>= (λ row. named_bytes line at row)))
          (first_is (codes ".op") row.1 words line s ∙ name.other (codes "op"))
          ∙ bound (read row_named line 0) row (λ row. named_bytes line at row) (Ok bytes)
          (read_at row_named line (row.1 ∷ words) 0 row.1 row s refl (named_row i.number row found))
          (bound (operand_of row.2 line behind) rest (λ operand. Ok (opcode_bytes row.0 ++ operand)) (Ok bytes)
          (operand_back row.2 line behind row.1 rest sized (drop_bytes i.size bytes fit) (omega (arith, close, next))
          (subst (λ next. Says line (row.1 ∷ operand_words row.2 next rest)) next s))
          (ap Ok all));
      no_end = λ line s. first_is (codes ".end") row.1 words line s ∙ name.other (codes "end");
      no_code = λ line s. first_is (codes ".code") row.1 words line s ∙ name.other (codes "code");
    }

reads_by : (o : Option NamedRow) (at : ℕ) (bytes : List ℕ) (i : IsInstruction bytes) → IsBytes bytes
    → at + length bytes < 2 ^ 62 → row_numbered i.number ≡ o → ReadsAs at bytes (instruction_words at bytes)
reads_by None at bytes i fit close none =
    subst (ReadsAs at bytes) (without_row at bytes i.number i.size i.opcode none) (unnamed_reads at bytes i fit none)
reads_by (Some row) at bytes i fit close found =
    let form : row.2 ≡ i.form = form_of_row i.number row i.op i.form found i.row in
    let sized : has_size row.2 (drop i.size bytes) ≡ true =
    ap (λ form. has_size form (drop i.size bytes)) form ∙ i.sized in
    let words : named_words at bytes i.size row ≡ instruction_words at bytes =
    ap (λ b. cond b (named_words at bytes i.size row) (unnamed_words bytes)) (sym sized)
    ∙ named at bytes i.number i.size row i.opcode found in
    subst (ReadsAs at bytes) words (named_reads at bytes i row fit close found)

pub instruction_reads : (at : ℕ) (bytes : List ℕ) → IsInstruction bytes → IsBytes bytes → at + length bytes < 2 ^ 62
    → ReadsAs at bytes (instruction_words at bytes)
instruction_reads at bytes i fit close = reads_by (row_numbered i.number) at bytes i fit close refl

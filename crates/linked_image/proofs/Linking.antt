-- The words of a piece with the addresses of its fixes are those of the linked code of its body.
use Rattle.std.proofs.Common.{◌≡◌, ◌∙◌, ◌⊎◌, inl, inr, ℕ, zero, suc, ◌+◌, ◌-◌, ◌*◌, ◌%◌, ◌^◌, ◌<◌, ◌≤◌, ℤ, pos, negsuc}
use Rattle.std.proofs.Common.{List, [], ◌∷◌, ◌++◌, All, map, take, drop, Some, slice_get, arith, refl, ap, sym}
use Rattle.std.proofs.lemmas.Bool.Decides.{nat_tests}
use Rattle.byteorder.specs.Endian.{little_bytes}
use Rattle.num_core.specs.Bits.{signed, twos_complement}
use Rattle.num_core.specs.declared.fix.Fix.{Fix}
use Rattle.rv_isa.specs.declared.ins.Ins.{Ins}
use Rattle.rv_isa.specs.Instructions.{IsLegal, word_of}
use Rattle.rv_code.specs.Code.{text_of}
use Rattle.lir_core.specs.Program.{WordProgram}
use Rattle.lir_core.specs.declared.body.LirBody.{LirBody}
use Rattle.rt_code.specs.Code.{lower, upper}
use Rattle.rv_gen.specs.Lines.{lines_of}
use Rattle.rv_gen.specs.Placing.{code_of, fixes_of}
use Rattle.image_plan.specs.Written.{bytes_of, with_addresses}
use Rattle.image_plan.specs.Written.{with_both as words_with_both, with_lower as word_with_lower}
use Rattle.image_plan.specs.Written.{with_upper as word_with_upper}
use Rattle.image_plan.specs.declared.pieces.CodePiece.{CodePiece}
use Rattle.rv_words.specs.Linked.{bits_between, linked, target_of, with_both, with_fixes, with_lower, with_upper}
use Rattle.rv_words.proofs.LinkedCode.{linked_by_lines}
use Rattle.linked_image.specs.Selected.{IsSelected}
use Rattle.linked_image.proofs.Pairs.{IsPair, PairAt, PairsAt}
use Rattle.linked_image.proofs.Pairs.IsPair.{Adds, Jumps}
use Rattle.linked_image.proofs.Suited.{pairs_of}

-- ---- pairs whose registers are registers

pub data IsSmallPair : Ins → Ins → Type 0 where
  AddsSmall : (rd imm rd' rs : ℕ) (low : ℤ) → rd < 32 → rd' < 32 → rs < 32
      → IsSmallPair (Ins.Auipc rd imm) (Ins.Addi rd' rs low)
  JumpsSmall : (rd imm rd' rs : ℕ) (low : ℤ) → rd < 32 → rd' < 32 → rs < 32
      → IsSmallPair (Ins.Auipc rd imm) (Ins.Jalr rd' rs low)

small_pair : (first second : Ins) → IsPair first second → IsLegal first → IsLegal second → IsSmallPair first second
small_pair first second (Adds rd imm rd' rs low) l l' = AddsSmall rd imm rd' rs low l.0 l'.0 l'.1
small_pair first second (Jumps rd imm rd' rs low) l l' = JumpsSmall rd imm rd' rs low l.0 l'.0 l'.1

legal_behind : (ins : Ins) (code : List Ins) → All IsLegal (ins ∷ code) → All IsLegal code
legal_behind ins code all = λ k d h. all (suc k) d (omega (arith, h))

small_at : (at : ℕ) (code : List Ins) → PairAt IsPair at code → All IsLegal code → PairAt IsSmallPair at code
small_at zero [] p legal = absurd p
small_at zero (first ∷ []) p legal = absurd p
small_at zero (first ∷ second ∷ code) p legal =
    small_pair first second p (legal 0 first (omega arith)) (legal 1 first (omega arith))
small_at (suc at) [] p legal = absurd p
small_at (suc at) (ins ∷ code) p legal = small_at at code p (legal_behind ins code legal)

small_pairs : (code : List Ins) (fixes : List Fix) → PairsAt IsPair code fixes → All IsLegal code
    → PairsAt IsSmallPair code fixes
small_pairs code [] p legal = tt
small_pairs code (fix ∷ fixes) p legal = (small_at fix.at code p.0 legal, small_pairs code fixes p.1 legal)

-- ---- an address in one pair leaves each pair one

changed : (bits : ℕ) (first second : Ins) → IsSmallPair first second
    → IsSmallPair (with_upper bits first) (with_lower bits second)
changed bits first second (AddsSmall rd imm rd' rs low h h' h'') =
    AddsSmall rd (upper bits) rd' rs (lower bits) h h' h''
changed bits first second (JumpsSmall rd imm rd' rs low h h' h'') =
    JumpsSmall rd (upper bits) rd' rs (lower bits) h h' h''

-- the second of a pair that would be the first of another, and the first that would be the second
first_stays : (bits : ℕ) (first second : Ins) → IsSmallPair first second → IsSmallPair first (with_upper bits second)
first_stays bits first second (AddsSmall rd imm rd' rs low h h' h'') = AddsSmall rd imm rd' rs low h h' h''
first_stays bits first second (JumpsSmall rd imm rd' rs low h h' h'') = JumpsSmall rd imm rd' rs low h h' h''

second_stays : (bits : ℕ) (first second : Ins) → IsSmallPair first second → IsSmallPair (with_lower bits first) second
second_stays bits first second (AddsSmall rd imm rd' rs low h h' h'') = AddsSmall rd imm rd' rs low h h' h''
second_stays bits first second (JumpsSmall rd imm rd' rs low h h' h'') = JumpsSmall rd imm rd' rs low h h' h''

kept_at : (bits at place : ℕ) (code : List Ins) → PairAt IsSmallPair place code
    → PairAt IsSmallPair place (with_both bits at code)
kept_at bits zero zero [] p = absurd p
kept_at bits zero (suc place) [] p = absurd p
kept_at bits (suc at) zero [] p = absurd p
kept_at bits (suc at) (suc place) [] p = absurd p
kept_at bits zero zero (first ∷ []) p = absurd p
kept_at bits zero (suc zero) (first ∷ []) p = absurd p
kept_at bits zero (suc (suc place)) (first ∷ []) p = absurd p
kept_at bits zero zero (first ∷ second ∷ code) p = changed bits first second p
kept_at bits zero (suc zero) (first ∷ second ∷ []) p = absurd p
kept_at bits zero (suc zero) (first ∷ second ∷ third ∷ code) p = second_stays bits second third p
kept_at bits zero (suc (suc place)) (first ∷ second ∷ code) p = p
kept_at bits (suc at) zero (first ∷ []) p = absurd p
kept_at bits (suc zero) zero (first ∷ second ∷ []) p = p
kept_at bits (suc zero) zero (first ∷ second ∷ third ∷ code) p = first_stays bits first second p
kept_at bits (suc (suc at)) zero (first ∷ second ∷ code) p = p
kept_at bits (suc at) (suc place) (first ∷ code) p = kept_at bits at place code p

kept_pairs : (bits at : ℕ) (code : List Ins) (fixes : List Fix) → PairsAt IsSmallPair code fixes
    → PairsAt IsSmallPair (with_both bits at code) fixes
kept_pairs bits at code [] p = tt
kept_pairs bits at code (fix ∷ fixes) p = (kept_at bits at fix.at code p.0, kept_pairs bits at code fixes p.1)

-- ---- words

signed_12 : (r : ℕ) → r < 4096 → ((r < 2048) × (signed 12 r ≡ pos r))
    ⊎ ((2048 ≤ r) × (signed 12 r ≡ negsuc (4095 - r)))
signed_12 r h = grind (arith, nat_tests)

-- twelve bits stand for a number that stands for them
bits_back : (r : ℕ) → r < 4096 → twos_complement 12 (signed 12 r) ≡ r
bits_back r h = elim (signed_12 r h) [
  | inl low ↦ ap (twos_complement 12) low.1
  | inr high ↦ let back : 4096 - suc (4095 - r) ≡ r = omega (arith, h) in ap (twos_complement 12) high.1 ∙ back
]

lower_bits : (bits : ℕ) → twos_complement 12 (lower bits) ≡ bits % 4096
lower_bits bits = bits_back (bits % 4096) (omega arith)

upper_word : (bits rd imm : ℕ) → rd < 32
    → word_with_upper bits (word_of (Ins.Auipc rd imm)) ≡ word_of (Ins.Auipc rd (upper bits))
upper_word bits rd imm h =
    let sum : (23 + 128 * (rd + 32 * imm)) % 4096 + 4096 * upper bits ≡ 23 + 128 * (rd + 32 * upper bits) =
    omega (arith, h) in
    omega (arith, sum)

-- a word of the I format by its fields
i_word : (opcode rd rs low : ℕ) → opcode < 128 → rd < 32 → rs < 32 → (bits : ℕ)
    → (opcode + 128 * (rd + 32 * (0 + 8 * (rs + 32 * (low + 4096 * 0))))) % 2 ^ 20 + 2 ^ 20 * (bits % 2 ^ 12)
    ≡ opcode + 128 * (rd + 32 * (0 + 8 * (rs + 32 * (bits % 4096 + 4096 * 0))))
i_word opcode rd rs low h h' h'' bits = omega (arith, h, h', h'')

adds_word : (bits rd rs : ℕ) (low : ℤ) → rd < 32 → rs < 32
    → word_with_lower bits (word_of (Ins.Addi rd rs low)) ≡ word_of (Ins.Addi rd rs (lower bits))
adds_word bits rd rs low h h' =
    i_word 19 rd rs (twos_complement 12 low) (omega arith) h h' bits
    ∙ ap (λ n. 19 + 128 * (rd + 32 * (0 + 8 * (rs + 32 * (n + 4096 * 0))))) (sym (lower_bits bits))

jumps_word : (bits rd rs : ℕ) (low : ℤ) → rd < 32 → rs < 32
    → word_with_lower bits (word_of (Ins.Jalr rd rs low)) ≡ word_of (Ins.Jalr rd rs (lower bits))
jumps_word bits rd rs low h h' =
    i_word 103 rd rs (twos_complement 12 low) (omega arith) h h' bits
    ∙ ap (λ n. 103 + 128 * (rd + 32 * (0 + 8 * (rs + 32 * (n + 4096 * 0))))) (sym (lower_bits bits))

both_words : (bits : ℕ) (first second : Ins) (rest : List ℕ) → IsSmallPair first second
    → words_with_both bits (word_of first ∷ word_of second ∷ rest)
    ≡ word_of (with_upper bits first) ∷ word_of (with_lower bits second) ∷ rest
both_words bits first second rest (AddsSmall rd imm rd' rs low h h' h'') =
    ap (λ w. w ∷ word_with_lower bits (word_of (Ins.Addi rd' rs low)) ∷ rest) (upper_word bits rd imm h)
    ∙ ap (λ w. word_of (Ins.Auipc rd (upper bits)) ∷ w ∷ rest) (adds_word bits rd' rs low h' h'')
both_words bits first second rest (JumpsSmall rd imm rd' rs low h h' h'') =
    ap (λ w. w ∷ word_with_lower bits (word_of (Ins.Jalr rd' rs low)) ∷ rest) (upper_word bits rd imm h)
    ∙ ap (λ w. word_of (Ins.Auipc rd (upper bits)) ∷ w ∷ rest) (jumps_word bits rd' rs low h' h'')

one_fix : (bits at : ℕ) (code : List Ins) → PairAt IsSmallPair at code
    → take at (map word_of code) ++ words_with_both bits (drop at (map word_of code))
    ≡ map word_of (with_both bits at code)
one_fix bits zero [] p = absurd p
one_fix bits zero (first ∷ []) p = absurd p
one_fix bits zero (first ∷ second ∷ code) p = both_words bits first second (map word_of code) p
one_fix bits (suc at) [] p = absurd p
one_fix bits (suc at) (ins ∷ code) p = ap (λ ws. word_of ins ∷ ws) (one_fix bits at code p)

all_fixes : (program : WordProgram) (begin : ℕ) (fixes : List Fix) (code : List Ins) → PairsAt IsSmallPair code fixes
    → with_addresses program.address_of begin fixes (map word_of code)
    ≡ map word_of (with_fixes program begin fixes code)
all_fixes program begin [] code p = refl
all_fixes program begin (fix ∷ fixes) code p =
    let bits : ℕ = bits_between (begin + 4 * fix.at) (target_of program fix) in
    ap (with_addresses program.address_of begin fixes) (one_fix bits fix.at code p.0)
    ∙ all_fixes program begin fixes (with_both bits fix.at code) (kept_pairs bits fix.at code fixes p.1)

pub linked_words : (program : WordProgram) (begin : ℕ) (body : LirBody) → All IsLegal (code_of body)
    → with_addresses program.address_of begin (fixes_of body) (map word_of (code_of body))
    ≡ map word_of (linked program begin body)
unfolding linked
linked_words program begin body legal =
    all_fixes program begin (fixes_of body) (code_of body)
    (small_pairs (code_of body) (fixes_of body) (pairs_of body) legal)

-- ---- bytes

pub text_bytes : (code : List Ins) → bytes_of (map word_of code) ≡ text_of code
text_bytes [] = refl
text_bytes (ins ∷ code) = ap (λ bytes. little_bytes 4 (word_of ins) ++ bytes) (text_bytes code)

-- of the piece of a body
pub linked_bytes : (program : WordProgram) (begin : ℕ) (body : LirBody) (piece : CodePiece)
    → IsSelected body piece.code
    → bytes_of (with_addresses program.address_of begin piece.code.fixes piece.code.words)
    ≡ text_of (linked program begin body)
linked_bytes program begin body piece is =
    ap (λ (fixes : List Fix). bytes_of (with_addresses program.address_of begin fixes piece.code.words)) is.fixes
    ∙ ap (λ (words : List ℕ). bytes_of (with_addresses program.address_of begin (fixes_of body) words)) is.words
    ∙ ap bytes_of (linked_words program begin body is.legal) ∙ text_bytes (linked program begin body)

-- ---- the first instruction says how many bytes a frame takes

pub says_frame : (program : WordProgram) (begin : ℕ) (body : LirBody)
    → slice_get (linked program begin body) 0 ≡ Some (Ins.Lui 0 body.frame)
unfolding lines_of
says_frame program begin body = ap (λ (code : List Ins). slice_get code 0) (linked_by_lines program begin body)

-- The parts of a word are the fields that it was put together from, and put together again give the word.
use Rattle.std.proofs.Common.{◌≡◌, ℕ, ◌+◌, ◌*◌, ◌/◌, ◌%◌, ◌^◌, ◌<◌, ℤ, pos, negsuc, arith, ◌∙◌, ap}
use Rattle.std.proofs.lemmas.Int.{ints}
use Rattle.std.proofs.lemmas.Bool.Decides.{nat_tests}
use Rattle.num_core.specs.Bits.{twos_complement, signed}
use Rattle.rv_isa.specs.Operands.{IsImmediate, IsBranchOffset, IsJumpOffset}
use Rattle.rv_isa.specs.Formats.{r_format, i_format, s_format, b_format, u_format, j_format, shift_format}
use Rattle.rv_isa.specs.Parts.{Parts, parts_of, i_imm_of, s_imm_of, b_imm_of, u_imm_of, j_imm_of, shamt_of, IsParts}
use Rattle.rv_isa.specs.Parts.{whole}

abbrev pub parts : ℕ → ℕ → ℕ → ℕ → ℕ → ℕ → Parts
parts opcode rd funct3 rs1 rs2 funct7 =
    record { opcode = opcode; rd = rd; funct3 = funct3; rs1 = rs1; rs2 = rs2; funct7 = funct7 }

parts_equal : (a b c d e f a' b' c' d' e' f' : ℕ) → a ≡ a' → b ≡ b' → c ≡ c' → d ≡ d' → e ≡ e' → f ≡ f'
    → parts a b c d e f ≡ parts a' b' c' d' e' f'
parts_equal a b c d e f a' b' c' d' e' f' p q r s t u = cc

-- signed numbers of 12, 13 and 21 bits, there and back

pub bits_12 : (imm : ℤ) → IsImmediate imm → twos_complement 12 imm < 4096
bits_12 (pos a) l = omega (arith, ints, l.0, l.1)
bits_12 (negsuc a) l = omega (arith, ints, l.0, l.1)

signed_12 : (imm : ℤ) → IsImmediate imm → signed 12 (twos_complement 12 imm) ≡ imm
signed_12 (pos a) l = let small : a < 2048 = omega (arith, ints, l.1) in grind (arith, nat_tests)
signed_12 (negsuc a) l = let small : a < 2048 = omega (arith, ints, l.0) in grind (arith, nat_tests)

again_12 : (bits : ℕ) → bits < 4096 → twos_complement 12 (signed 12 bits) ≡ bits
again_12 bits l = grind (arith, nat_tests)

fits_12 : (bits : ℕ) → bits < 4096 → IsImmediate (signed 12 bits)
fits_12 bits l = (grind (arith, nat_tests, ints), grind (arith, nat_tests, ints))

pub bits_13 : (imm : ℤ) → IsBranchOffset imm → twos_complement 13 imm < 8192
bits_13 (pos a) l = omega (arith, ints, l.0, l.1)
bits_13 (negsuc a) l = omega (arith, ints, l.0, l.1)

even_13 : (imm : ℤ) → IsBranchOffset imm → twos_complement 13 imm % 2 ≡ 0
even_13 (pos a) l = omega (arith, ints, l.1, l.2)
even_13 (negsuc a) l = omega (arith, ints, l.0, l.2)

signed_13 : (imm : ℤ) → IsBranchOffset imm → signed 13 (twos_complement 13 imm) ≡ imm
signed_13 (pos a) l = let small : a < 4096 = omega (arith, ints, l.1) in grind (arith, nat_tests)
signed_13 (negsuc a) l = let small : a < 4096 = omega (arith, ints, l.0) in grind (arith, nat_tests)

again_13 : (bits : ℕ) → bits < 8192 → twos_complement 13 (signed 13 bits) ≡ bits
again_13 bits l = grind (arith, nat_tests)

fits_13 : (bits : ℕ) → bits < 8192 → bits % 2 ≡ 0 → IsBranchOffset (signed 13 bits)
fits_13 bits l even = (grind (arith, nat_tests, ints), grind (arith, nat_tests, ints), grind (arith, nat_tests, ints))

pub bits_21 : (imm : ℤ) → IsJumpOffset imm → twos_complement 21 imm < 2097152
bits_21 (pos a) l = omega (arith, ints, l.0, l.1)
bits_21 (negsuc a) l = omega (arith, ints, l.0, l.1)

even_21 : (imm : ℤ) → IsJumpOffset imm → twos_complement 21 imm % 2 ≡ 0
even_21 (pos a) l = omega (arith, ints, l.1, l.2)
even_21 (negsuc a) l = omega (arith, ints, l.0, l.2)

signed_21 : (imm : ℤ) → IsJumpOffset imm → signed 21 (twos_complement 21 imm) ≡ imm
signed_21 (pos a) l = let small : a < 1048576 = omega (arith, ints, l.1) in grind (arith, nat_tests)
signed_21 (negsuc a) l = let small : a < 1048576 = omega (arith, ints, l.0) in grind (arith, nat_tests)

again_21 : (bits : ℕ) → bits < 2097152 → twos_complement 21 (signed 21 bits) ≡ bits
again_21 bits l = grind (arith, nat_tests)

fits_21 : (bits : ℕ) → bits < 2097152 → bits % 2 ≡ 0 → IsJumpOffset (signed 21 bits)
fits_21 bits l even = (grind (arith, nat_tests, ints), grind (arith, nat_tests, ints), grind (arith, nat_tests, ints))

-- The R format.

pub r_parts : (opcode funct3 funct7 rd rs1 rs2 : ℕ) → opcode < 128 → funct3 < 8 → funct7 < 128 → rd < 32 → rs1 < 32
    → rs2 < 32 → parts_of (r_format opcode funct3 funct7 rd rs1 rs2) ≡ parts opcode rd funct3 rs1 rs2 funct7
r_parts opcode funct3 funct7 rd rs1 rs2 o t s d a b =
    parts_equal _ _ _ _ _ _ _ _ _ _ _ _ (omega arith) (omega arith) (omega arith) (omega arith) (omega arith)
    (omega arith)

pub r_whole : (f : Parts) (opcode funct3 funct7 : ℕ) → f.opcode ≡ opcode → f.funct3 ≡ funct3 → f.funct7 ≡ funct7
    → r_format opcode funct3 funct7 f.rd f.rs1 f.rs2 ≡ whole f
r_whole f opcode funct3 funct7 o t s = omega arith

-- The I format.

pub i_parts : (opcode funct3 rd rs1 : ℕ) (imm : ℤ) → opcode < 128 → funct3 < 8 → rd < 32 → rs1 < 32 → IsImmediate imm
    → parts_of (i_format opcode funct3 rd rs1 imm)
    ≡ parts opcode rd funct3 rs1 (twos_complement 12 imm % 32) (twos_complement 12 imm / 32)
i_parts opcode funct3 rd rs1 imm o t d a i =
    let l = bits_12 imm i in
    let split : i_format opcode funct3 rd rs1 imm ≡ r_format opcode funct3 (twos_complement 12 imm / 32) rd rs1
    (twos_complement 12 imm % 32) = omega arith in
    ap parts_of split ∙ r_parts opcode funct3 (twos_complement 12 imm / 32) rd rs1 (twos_complement 12 imm % 32) o t
    (omega arith) d a (omega arith)

pub i_imm : (opcode funct3 rd rs1 : ℕ) (imm : ℤ) → IsImmediate imm
    → i_imm_of (parts opcode rd funct3 rs1 (twos_complement 12 imm % 32) (twos_complement 12 imm / 32)) ≡ imm
i_imm opcode funct3 rd rs1 imm i =
    let joined : twos_complement 12 imm % 32 + 32 * (twos_complement 12 imm / 32) ≡ twos_complement 12 imm =
    omega arith in
    ap (signed 12) joined ∙ signed_12 imm i

pub i_whole : (f : Parts) (opcode funct3 : ℕ) → IsParts f → f.opcode ≡ opcode → f.funct3 ≡ funct3
    → i_format opcode funct3 f.rd f.rs1 (i_imm_of f) ≡ whole f
i_whole f opcode funct3 l o t =
    let imm : twos_complement 12 (i_imm_of f) ≡ f.rs2 + 32 * f.funct7 = again_12 _ (omega arith) in omega arith

pub i_imm_fits : (f : Parts) → IsParts f → IsImmediate (i_imm_of f)
i_imm_fits f l = fits_12 (f.rs2 + 32 * f.funct7) (omega arith)

-- The S format.

pub s_parts : (opcode funct3 rs1 rs2 : ℕ) (imm : ℤ) → opcode < 128 → funct3 < 8 → rs1 < 32 → rs2 < 32 → IsImmediate imm
    → parts_of (s_format opcode funct3 rs1 rs2 imm)
    ≡ parts opcode (twos_complement 12 imm % 32) funct3 rs1 rs2 (twos_complement 12 imm / 32)
s_parts opcode funct3 rs1 rs2 imm o t a b i =
    let l = bits_12 imm i in
    let split : s_format opcode funct3 rs1 rs2 imm
    ≡ r_format opcode funct3 (twos_complement 12 imm / 32) (twos_complement 12 imm % 32) rs1 rs2 = omega arith in
    ap parts_of split ∙ r_parts opcode funct3 (twos_complement 12 imm / 32) (twos_complement 12 imm % 32) rs1 rs2 o t
    (omega arith) (omega arith) a b

pub s_imm : (opcode funct3 rs1 rs2 : ℕ) (imm : ℤ) → IsImmediate imm
    → s_imm_of (parts opcode (twos_complement 12 imm % 32) funct3 rs1 rs2 (twos_complement 12 imm / 32)) ≡ imm
s_imm opcode funct3 rs1 rs2 imm i =
    let joined : twos_complement 12 imm % 32 + 32 * (twos_complement 12 imm / 32) ≡ twos_complement 12 imm =
    omega arith in
    ap (signed 12) joined ∙ signed_12 imm i

pub s_whole : (f : Parts) (opcode funct3 : ℕ) → IsParts f → f.opcode ≡ opcode → f.funct3 ≡ funct3
    → s_format opcode funct3 f.rs1 f.rs2 (s_imm_of f) ≡ whole f
s_whole f opcode funct3 l o t =
    let imm : twos_complement 12 (s_imm_of f) ≡ f.rd + 32 * f.funct7 = again_12 _ (omega arith) in omega arith

pub s_imm_fits : (f : Parts) → IsParts f → IsImmediate (s_imm_of f)
s_imm_fits f l = fits_12 (f.rd + 32 * f.funct7) (omega arith)

-- The B format, whose bits n stand for the offset.

abbrev pub b_low : ℕ → ℕ
b_low n = n / 2048 % 2 + 2 * (n / 2 % 16)

abbrev pub b_high : ℕ → ℕ
b_high n = n / 32 % 64 + 64 * (n / 4096)

pub b_parts : (opcode funct3 rs1 rs2 : ℕ) (imm : ℤ) → opcode < 128 → funct3 < 8 → rs1 < 32 → rs2 < 32
    → IsBranchOffset imm → parts_of (b_format opcode funct3 rs1 rs2 imm)
    ≡ parts opcode (b_low (twos_complement 13 imm)) funct3 rs1 rs2 (b_high (twos_complement 13 imm))
b_parts opcode funct3 rs1 rs2 imm o t a b i =
    let l = bits_13 imm i in
    let split : b_format opcode funct3 rs1 rs2 imm
    ≡ r_format opcode funct3 (b_high (twos_complement 13 imm)) (b_low (twos_complement 13 imm)) rs1 rs2 =
    omega arith in
    ap parts_of split ∙ r_parts opcode funct3 (b_high (twos_complement 13 imm)) (b_low (twos_complement 13 imm)) rs1 rs2
    o t (omega arith) (omega arith) a b

b_joined : (n : ℕ) → n < 8192 → n % 2 ≡ 0 → 2 * (b_low n / 2) + 32 * (b_high n % 64) + 2048 * (b_low
    n % 2) + 4096 * (b_high n / 64) ≡ n
b_joined n l even = omega arith

pub b_imm : (opcode funct3 rs1 rs2 : ℕ) (imm : ℤ) → IsBranchOffset imm
    → b_imm_of (parts opcode (b_low (twos_complement 13 imm)) funct3 rs1 rs2 (b_high (twos_complement 13 imm))) ≡ imm
b_imm opcode funct3 rs1 rs2 imm i =
    ap (signed 13) (b_joined (twos_complement 13 imm) (bits_13 imm i) (even_13 imm i)) ∙ signed_13 imm i

abbrev b_bits_of : Parts → ℕ
b_bits_of f = 2 * (f.rd / 2) + 32 * (f.funct7 % 64) + 2048 * (f.rd % 2) + 4096 * (f.funct7 / 64)

pub b_whole : (f : Parts) (opcode funct3 : ℕ) → IsParts f → f.opcode ≡ opcode → f.funct3 ≡ funct3
    → b_format opcode funct3 f.rs1 f.rs2 (b_imm_of f) ≡ whole f
b_whole f opcode funct3 l o t =
    let imm : twos_complement 13 (b_imm_of f) ≡ b_bits_of f = again_13 _ (omega arith) in omega arith

pub b_imm_fits : (f : Parts) → IsParts f → IsBranchOffset (b_imm_of f)
b_imm_fits f l = fits_13 (b_bits_of f) (omega arith) (omega arith)

-- The U format.

pub u_parts : (opcode rd imm : ℕ) → opcode < 128 → rd < 32 → imm < 2 ^ 20
    → parts_of (u_format opcode rd imm) ≡ parts opcode rd (imm % 8) (imm / 8 % 32) (imm / 256 % 32) (imm / 8192)
u_parts opcode rd imm o d i =
    let split : u_format opcode rd imm ≡ r_format opcode (imm % 8) (imm / 8192) rd (imm / 8 % 32) (imm / 256 % 32) =
    omega arith in
    ap parts_of split ∙ r_parts opcode (imm % 8) (imm / 8192) rd (imm / 8 % 32) (imm / 256 % 32) o (omega arith)
    (omega arith) d (omega arith) (omega arith)

pub u_imm : (opcode rd imm : ℕ) → imm < 2 ^ 20 → u_imm_of (parts opcode rd (imm % 8) (imm / 8 % 32) (imm / 256 % 32)
    (imm / 8192)) ≡ imm
u_imm opcode rd imm i = omega arith

pub u_whole : (f : Parts) (opcode : ℕ) → IsParts f → f.opcode ≡ opcode → u_format opcode f.rd (u_imm_of f) ≡ whole f
u_whole f opcode l o = omega arith

pub u_imm_fits : (f : Parts) → IsParts f → u_imm_of f < 2 ^ 20
u_imm_fits f l = omega arith

-- The J format, whose bits n stand for the offset.

abbrev pub j_made : ℕ → ℕ → ℕ → Parts
j_made opcode rd n =
    parts opcode rd (n / 4096 % 8) (n / 32768 % 32) (n / 2048 % 2 + 2 * (n / 2 % 16)) (n / 32 % 64 + 64 * (n / 1048576))

abbrev j_bits_of : Parts → ℕ
j_bits_of f =
    2 * (f.rs2 / 2) + 32 * (f.funct7 % 64) + 2048 * (f.rs2 % 2) + 4096 * f.funct3 + 32768 * f.rs1
    + 1048576 * (f.funct7 / 64)

pub j_parts : (opcode rd : ℕ) (imm : ℤ) → opcode < 128 → rd < 32 → IsJumpOffset imm
    → parts_of (j_format opcode rd imm) ≡ j_made opcode rd (twos_complement 21 imm)
j_parts opcode rd imm o d i =
    let n = twos_complement 21 imm in
    let l : n < 2097152 = bits_21 imm i in
    let split : j_format opcode rd imm ≡ r_format opcode (n / 4096 % 8) (n / 32 % 64 + 64 * (n / 1048576)) rd
    (n / 32768 % 32) (n / 2048 % 2 + 2 * (n / 2 % 16)) = omega arith in
    ap parts_of split ∙ r_parts opcode (n / 4096 % 8) (n / 32 % 64 + 64 * (n / 1048576)) rd (n / 32768 % 32)
    (n / 2048 % 2 + 2 * (n / 2 % 16)) o (omega arith) (omega arith) d (omega arith) (omega arith)

j_joined : (n : ℕ) → n < 2097152 → n % 2 ≡ 0 → j_bits_of (j_made 0 0 n) ≡ n
j_joined n l even = omega arith

pub j_imm : (opcode rd : ℕ) (imm : ℤ) → IsJumpOffset imm → j_imm_of (j_made opcode rd (twos_complement 21 imm)) ≡ imm
j_imm opcode rd imm i =
    ap (signed 21) (j_joined (twos_complement 21 imm) (bits_21 imm i) (even_21 imm i)) ∙ signed_21 imm i

pub j_whole : (f : Parts) (opcode : ℕ) → IsParts f → f.opcode ≡ opcode → j_format opcode f.rd (j_imm_of f) ≡ whole f
j_whole f opcode l o =
    let imm : twos_complement 21 (j_imm_of f) ≡ j_bits_of f = again_21 _ (omega arith) in omega arith

pub j_imm_fits : (f : Parts) → IsParts f → IsJumpOffset (j_imm_of f)
j_imm_fits f l = fits_21 (j_bits_of f) (omega arith) (omega arith)

-- The shifts of 64 bits.

pub shift_parts : (opcode funct3 upper rd rs1 shamt : ℕ) → opcode < 128 → funct3 < 8 → upper < 64 → rd < 32 → rs1 < 32
    → shamt < 64 → parts_of (shift_format opcode funct3 upper rd rs1 shamt)
    ≡ parts opcode rd funct3 rs1 (shamt % 32) (shamt / 32 + 2 * upper)
shift_parts opcode funct3 upper rd rs1 shamt o t u d a s =
    let split : shift_format opcode funct3 upper rd rs1 shamt
    ≡ r_format opcode funct3 (shamt / 32 + 2 * upper) rd rs1 (shamt % 32) = omega arith in
    ap parts_of split ∙ r_parts opcode funct3 (shamt / 32 + 2 * upper) rd rs1 (shamt % 32) o t (omega arith) d a
    (omega arith)

pub upper_bits : (upper shamt : ℕ) → shamt < 64 → (shamt / 32 + 2 * upper) / 2 ≡ upper
upper_bits upper shamt s = omega arith

pub shift_amount : (opcode funct3 upper rd rs1 shamt : ℕ) → shamt < 64
    → shamt_of (parts opcode rd funct3 rs1 (shamt % 32) (shamt / 32 + 2 * upper)) ≡ shamt
shift_amount opcode funct3 upper rd rs1 shamt s = omega arith

pub shift_whole : (f : Parts) (opcode funct3 upper : ℕ) → IsParts f → f.opcode ≡ opcode → f.funct3 ≡ funct3
    → f.funct7 / 2 ≡ upper → shift_format opcode funct3 upper f.rd f.rs1 (shamt_of f) ≡ whole f
shift_whole f opcode funct3 upper l o t u = omega arith

pub shamt_fits : (f : Parts) → IsParts f → shamt_of f < 64
shamt_fits f l = omega arith

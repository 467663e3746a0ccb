-- The bytes of a number give the number, and a number its bytes.
use Rattle.std.proofs.Common.{◌≡◌, ◌∙◌, ℕ, zero, suc, ◌+◌, ◌*◌, ◌/◌, ◌%◌, ◌^◌, ◌<◌, List, [], ◌∷◌, length, map}
use Rattle.std.proofs.Common.{arith, refl, ap, sym, slice_index}
use Rattle.std.proofs.Math.Nat.{div-div-eq-div-mul, pow-succ'}
use Rattle.std.specs.Int.{byte_at, bytes_low_first}
use Rattle.byteorder.specs.Endian.{little_from}
use Rattle.byteorder.specs.Numbers.{little_from-cons}
use Rattle.lir_core.specs.Memory.{Byte, FlatMemory, cells_from}

next_byte : (j x : ℕ) → byte_at (suc j) x ≡ byte_at j (x / 256)
next_byte zero x = omega arith
next_byte (suc j) x =
    ap (λ y. y % 256)
    (ap (λ p. x / p) (pow-succ' 256 (suc j)) ∙ sym (div-div-eq-div-mul x 256 (256 ^ suc j)))

bytes_shift : (j n x : ℕ) → bytes_low_first (suc j) n x ≡ bytes_low_first j n (x / 256)
bytes_shift j zero x = refl
bytes_shift j (suc n) x =
    ap (λ b. b ∷ bytes_low_first (suc (suc j)) n x) (next_byte j x)
    ∙ ap (λ bs. byte_at j (x / 256) ∷ bs) (bytes_shift (suc j) n x)

pub number_back : (bytes : List ℕ) → ((k : ℕ) → k < length bytes → slice_index bytes k < 256)
    → bytes_low_first 0 (length bytes) (little_from 0 (length bytes) bytes) ≡ bytes
number_back [] small = refl
number_back (b ∷ bytes) small =
    let n : ℕ = length bytes in
    let y : ℕ = little_from 0 n bytes in
    let x : ℕ = little_from 0 (suc n) (b ∷ bytes) in
    let x_is : x ≡ b + 256 * y = ap (λ r. b + 256 * r) (little_from-cons 0 n b bytes) in
    let byte : b < 256 = small 0 (omega arith) in
    let first : byte_at 0 x ≡ b = omega (arith, x_is, byte) in
    let rest : x / 256 ≡ y = omega (arith, x_is, byte) in
    ap (λ c. c ∷ bytes_low_first 1 n x) first
    ∙ ap (λ bs. b ∷ bs)
    (bytes_shift 0 n x ∙ ap (bytes_low_first 0 n) rest ∙ number_back bytes (λ k h. small (suc k) (omega (arith, h))))

-- cells that are bytes
pub cells_are : (memory : FlatMemory) (p : ℕ) (bytes : List ℕ)
    → ((j : ℕ) → j < length bytes → memory (p + j) ≡ Byte (slice_index bytes j))
    → cells_from memory p (length bytes) ≡ map Byte bytes
cells_are memory p [] told = refl
cells_are memory p (b ∷ bytes) told =
    let here : p + 0 ≡ p = omega arith in
    let first : memory p ≡ Byte b = ap memory (sym here) ∙ told 0 (omega arith) in
    ap (λ c. c ∷ cells_from memory (suc p) (length bytes)) first
    ∙ ap (λ cs. Byte b ∷ cs)
    (cells_are memory (suc p) bytes
    (λ j less. let e : suc p + j ≡ p + suc j = omega arith in ap memory e ∙ told (suc j) (omega (arith, less))))

pub length_cells : (memory : FlatMemory) (p n : ℕ) → length (cells_from memory p n) ≡ n
length_cells memory p zero = refl
length_cells memory p (suc n) = ap suc (length_cells memory (suc p) n)

-- Numbers of an operand: what bytes are as numbers gives these bytes again.
use Rattle.std.proofs.Common.{◌≡◌, ◌∙◌, ℕ, zero, suc, ◌+◌, ◌-◌, ◌*◌, ◌/◌, ◌%◌, ◌^◌, ◌<◌, ◌≤◌, Bool, true, false, cond}
use Rattle.std.proofs.Common.{nat_lt, ◌&&◌, List, [], ◌∷◌, length, slice_index, Some, None, ℤ, pos, negsuc}
use Rattle.std.proofs.Common.{◌+ℤ◌, ◌-ℤ◌, refl, ap, sym, arith}
use Rattle.std.proofs.Common.{mod-eq_of_lt}
use Rattle.std.proofs.Math.Nat.{div-div-eq-div-mul, pow-succ'}
use Rattle.std.proofs.lemmas.Bool.{ltb-true, ltb-false, le-leb}
use Rattle.std.proofs.lemmas.Int.{ints}
use Rattle.std.specs.Int.{byte_at, bytes_low_first, cast_signed, w8}
use Rattle.byteorder.specs.Endian.{little_bytes, little_from, little_number, twos_complement}
use Rattle.byteorder.specs.Numbers.{little_from-cons}
use Rattle.hex.specs.Hex.{IsBytes}
use Rattle.num_core.specs.Bits.{low_bits}
use Rattle.il_text.specs.Reading.{near, signed_bytes}
use Rattle.il_text.proofs.ReadBackValues.{IsWhole}

-- ---- bytes, the lowest first

byte_next : (i n : ℕ) → byte_at (suc i) n ≡ byte_at i (n / 256)
byte_next zero n = refl
byte_next (suc i) n =
    ap (λ m. m % 256) (ap (λ p. n / p) (pow-succ' 256 (suc i)) ∙ sym (div-div-eq-div-mul n 256 (256 ^ suc i)))

low_next : (i count n : ℕ) → bytes_low_first (suc i) count n ≡ bytes_low_first i count (n / 256)
low_next i zero n = refl
low_next i (suc count) n =
    ap (λ byte. byte ∷ bytes_low_first (suc (suc i)) count n) (byte_next i n)
    ∙ ap (λ rest. byte_at i (n / 256) ∷ rest) (low_next (suc i) count n)

pub low_back : (count : ℕ) (bytes : List ℕ) → length bytes ≡ count → IsBytes bytes
    → little_bytes count (little_number count bytes) ≡ bytes
low_back zero [] size fit = refl
low_back zero (byte ∷ bytes) size fit = absurd (omega arith)
low_back (suc count) [] size fit = absurd (omega arith)
low_back (suc count) (byte ∷ bytes) size fit =
    let rest : ℕ = little_from 0 count bytes in
    let small : byte < 256 = fit 0 in
    let low : (byte + 256 * rest) % 256 ≡ byte = omega arith in
    let high : (byte + 256 * rest) / 256 ≡ rest = omega arith in
    ap (λ r. bytes_low_first 0 (suc count) (byte + 256 * r)) (little_from-cons 0 count byte bytes)
    ∙ ap (λ b. b ∷ bytes_low_first 1 count (byte + 256 * rest)) low
    ∙ ap (λ bs. byte ∷ bs)
    (low_next 0 count (byte + 256 * rest) ∙ ap (bytes_low_first 0 count) high
    ∙ low_back count bytes (omega arith) (λ k. fit (suc k)))

pub one_low : (bytes : List ℕ) → slice_index bytes 0 ≡ little_number 1 bytes
one_low bytes = omega arith

-- ---- signs

-- the number of two's complement, of which `half` is the least that is negative
abbrev pub signed_of : ℕ → ℕ → ℤ
signed_of half n = cond (nat_lt n half) (pos n) (negsuc (2 * half - 1 - n))

minus : (n m : ℕ) → n < m → pos n -ℤ pos m ≡ negsuc (m - 1 - n)
minus n m less = omega (arith, ints)

signed_by : (b : Bool) (half n : ℕ) → nat_lt n half ≡ b → n < 2 * half
    → cond b (pos n) (pos n -ℤ pos (2 * half)) ≡ cond b (pos n) (negsuc (2 * half - 1 - n))
signed_by true half n e less = refl
signed_by false half n e less = minus n (2 * half) less

pub signed_8 : (n : ℕ) → cast_signed w8 n ≡ signed_of 128 n
signed_8 n = by (nat_lt n 128)
  where
    by : (b : Bool) → cond b (pos n) (negsuc (256 - suc n)) ≡ cond b (pos n) (negsuc (255 - n))
    by true = refl
    by false = ap negsuc (omega arith)

pub signed_32 : (n : ℕ) → n < 2 ^ 32 → twos_complement 4 n ≡ signed_of (2 ^ 31) n
signed_32 n less = signed_by (nat_lt n (2 ^ 31)) (2 ^ 31) n refl less

pub signed_64 : (n : ℕ) → n < 2 ^ 64 → twos_complement 8 n ≡ signed_of (2 ^ 63) n
signed_64 n less = signed_by (nat_lt n (2 ^ 63)) (2 ^ 63) n refl less

low_by : (b : Bool) (bits half n : ℕ) → nat_lt n half ≡ b → 2 * half ≡ 2 ^ bits → n < 2 ^ bits
    → low_bits bits (cond b (pos n) (negsuc (2 * half - 1 - n))) ≡ n
low_by true bits half n e size less = mod-eq_of_lt less
low_by false bits half n e size less =
    let rest : 2 * half - 1 - n < 2 ^ bits = omega arith in
    ap (λ r. 2 ^ bits - 1 - r) (mod-eq_of_lt rest) ∙ omega arith

pub low_signed : (bits half n : ℕ) → 2 * half ≡ 2 ^ bits → n < 2 ^ bits → low_bits bits (signed_of half n) ≡ n
low_signed bits half n size less = low_by (nat_lt n half) bits half n refl size less

place_by : (b : Bool) (bits half n : ℕ) → nat_lt n half ≡ b → half ≤ 2 ^ (bits - 1) → n < 2 * half
    → IsWhole bits (cond b (pos n) (negsuc (2 * half - 1 - n)))
place_by true bits half n e size less = let low : n < half = ltb-true n half e in omega arith
place_by false bits half n e size less = let high : half ≤ n = ltb-false n half e in omega arith

pub place_signed : (bits half n : ℕ) → half ≤ 2 ^ (bits - 1) → n < 2 * half → IsWhole bits (signed_of half n)
place_signed bits half n size less = place_by (nat_lt n half) bits half n refl size less

-- ---- distances

less_place : (b : Bool) (next m : ℕ) → nat_lt next (suc m) ≡ b → next < 2 ^ 63 → m < 2 ^ 63
    → IsWhole 64 (cond b (negsuc (suc m - suc next)) (pos (next - suc m)))
less_place true next m e low high = omega arith
less_place false next m e low high = omega arith

-- what a sum of an offset and a distance is, is a number that has a place in 64 bits
sum_by : (b : Bool) (half next n : ℕ) → nat_lt n half ≡ b → next < 2 ^ 62 → half ≤ 2 ^ 31 → n < 2 * half
    → IsWhole 64 (pos next +ℤ cond b (pos n) (negsuc (2 * half - 1 - n)))
sum_by true half next n e near few less = omega arith
sum_by false half next n e near few less =
    less_place (nat_lt next (suc (2 * half - 1 - n))) next (2 * half - 1 - n) refl (omega arith) (omega arith)

pub place_sum : (half next n : ℕ) → next < 2 ^ 62 → half ≤ 2 ^ 31 → n < 2 * half
    → IsWhole 64 (pos next +ℤ signed_of half n)
place_sum half next n near few less = sum_by (nat_lt n half) half next n refl near few less

pub back_by : (next : ℕ) (distance : ℤ) → (pos next +ℤ distance) -ℤ pos next ≡ distance
back_by next distance = omega (arith, ints)

near_1_by : (b : Bool) (n : ℕ) → nat_lt n 128 ≡ b → n < 256
    → near 1 (cond b (pos n) (negsuc (2 * 128 - 1 - n)))
    ≡ Some (signed_bytes 1 (cond b (pos n) (negsuc (2 * 128 - 1 - n))))
near_1_by true n e less =
    let low : n < 128 = ltb-true n 128 e in
    ap (λ b. cond b (Some (signed_bytes 1 (pos n))) None) (le-leb n 127 (omega arith))
near_1_by false n e less =
    let high : 128 ≤ n = ltb-false n 128 e in
    let z : ℤ = negsuc (255 - n) in
    ap (λ b. cond (b && true) (Some (signed_bytes 1 z)) None) (le-leb (255 - n) 127 (omega arith))

pub near_1 : (n : ℕ) → n < 256 → near 1 (signed_of 128 n) ≡ Some (signed_bytes 1 (signed_of 128 n))
near_1 n less = near_1_by (nat_lt n 128) n refl less

near_4_by : (b : Bool) (n : ℕ) → nat_lt n (2 ^ 31) ≡ b → n < 2 ^ 32
    → near 4 (cond b (pos n) (negsuc (2 * 2 ^ 31 - 1 - n)))
    ≡ Some (signed_bytes 4 (cond b (pos n) (negsuc (2 * 2 ^ 31 - 1 - n))))
near_4_by true n e less =
    let low : n < 2 ^ 31 = ltb-true n (2 ^ 31) e in
    ap (λ b. cond b (Some (signed_bytes 4 (pos n))) None) (le-leb n (2 ^ 31 - 1) (omega arith))
near_4_by false n e less =
    let high : 2 ^ 31 ≤ n = ltb-false n (2 ^ 31) e in
    let z : ℤ = negsuc (2 ^ 32 - 1 - n) in
    ap (λ b. cond (b && true) (Some (signed_bytes 4 z)) None) (le-leb (2 ^ 32 - 1 - n) (2 ^ 31 - 1) (omega arith))

pub near_4 : (n : ℕ) → n < 2 ^ 32 → near 4 (signed_of (2 ^ 31) n) ≡ Some (signed_bytes 4 (signed_of (2 ^ 31) n))
near_4 n less = near_4_by (nat_lt n (2 ^ 31)) n refl less

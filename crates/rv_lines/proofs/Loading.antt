-- What the instructions that read numbers of each type from memory give, and what those that write them write.
use Rattle.std.proofs.Common.{◌≡◌, ◌∙◌, ℕ, ◌%◌, ◌^◌, ◌<◌, ℤ, pos, refl, ap, sym, arith}
use Rattle.std.specs.Int.{cast_signed, int_wrap, w8, w16, w32, w64}
use Rattle.num_core.specs.Bits.{low_bits}
use Rattle.num_core.specs.Run.{Running, Streams}
use Rattle.num_core.specs.declared.kind.Narrow.{Narrow}
use Rattle.num_core.specs.declared.kind.Narrow.TheVariants as narrow
use Rattle.num_core.proofs.WrapLaws.{int_wrap-pos, int_wrap-twice}
use Rattle.rv_step.specs.Machine.{MachineState, address, effect, register, stores as stores_bytes}
use Rattle.rv_step.specs.Memory.{MayRead, Number}
use Rattle.rv_step.specs.Segments.{AreSegments}
use Rattle.rv_step.proofs.AddressLaws.{loads_number}
use Rattle.rv_code.specs.Code.{given}
use Rattle.lir_core.specs.Pieces.{bytes_of_type}
use Rattle.lir_core.specs.Values.{widened, word_of}
use Rattle.rv_lines.specs.Operands.{loads, stores}
use Rattle.rv_lines.proofs.Converting.{held_64, left_16, left_8, narrow_held, small_held}
use Rattle.rv_lines.proofs.Values.{low_of_wrapped}
use Rattle.rv_lines.proofs.Words.{low_small}

-- the bits of a number with a sign
read_8 : (n : ℕ) → n < 256 ^ 1 → low_bits 64 (cast_signed w8 n) ≡ word_of (widened narrow.I1 n)
read_8 n h =
    let same : n ≡ n % 2 ^ 8 = omega (arith, h) in
    ap (low_bits 64) (ap (cast_signed w8) same ∙ sym (int_wrap-pos w8 n)) ∙ narrow_held w8 (pos n) (left_8 (pos n))

read_16 : (n : ℕ) → n < 256 ^ 2 → low_bits 64 (cast_signed w16 n) ≡ word_of (widened narrow.I2 n)
read_16 n h =
    let same : n ≡ n % 2 ^ 16 = omega (arith, h) in
    ap (low_bits 64) (ap (cast_signed w16) same ∙ sym (int_wrap-pos w16 n)) ∙ narrow_held w16 (pos n) (left_16 (pos n))

read_32 : (n : ℕ) → n < 256 ^ 4 → low_bits 64 (cast_signed w32 n) ≡ word_of (widened narrow.I4 n)
read_32 n h =
    let same : n ≡ n % 2 ^ 32 = omega (arith, h) in
    ap (low_bits 64)
    (ap (cast_signed w32) same ∙ sym (int_wrap-pos w32 n) ∙ sym (int_wrap-twice w32 (pos n)))

-- and those of one without
read_unsigned_8 : (n : ℕ) → n < 256 ^ 1 → n ≡ word_of (widened narrow.U1 n)
read_unsigned_8 n h =
    let same : n ≡ n % 2 ^ 8 = omega (arith, h) in
    same ∙ sym (small_held (n % 2 ^ 8) (omega arith))

read_unsigned_16 : (n : ℕ) → n < 256 ^ 2 → n ≡ word_of (widened narrow.U2 n)
read_unsigned_16 n h =
    let same : n ≡ n % 2 ^ 16 = omega (arith, h) in
    same ∙ sym (small_held (n % 2 ^ 16) (omega arith))

read_unsigned_32 : (n : ℕ) → n < 256 ^ 4 → low_bits 64 (cast_signed w32 n) ≡ word_of (widened narrow.U4 n)
read_unsigned_32 n h =
    let same : n ≡ n % 2 ^ 32 = omega (arith, h) in
    let same' : n % 2 ^ 32 ≡ n % 2 ^ 32 % 2 ^ 32 = omega arith in
    ap (low_bits 64)
    (ap (cast_signed w32) (same ∙ same') ∙ sym (int_wrap-pos w32 (n % 2 ^ 32)))

read_64 : (n : ℕ) → n < 256 ^ 8 → n ≡ word_of (widened narrow.I8 n)
read_64 n h =
    sym (low_of_wrapped (int_wrap w64 (pos n)) ∙ low_of_wrapped (pos n) ∙ low_small n (omega (arith, h)))

read_unsigned_64 : (n : ℕ) → n < 256 ^ 8 → n ≡ word_of (widened narrow.U8 n)
read_unsigned_64 n h = sym (held_64 n (omega (arith, h)))

pub loaded_number : (type : Narrow) (m : MachineState) (streams : Streams) (rd base : ℕ) (offset : ℤ) (n : ℕ)
    → AreSegments m.segments → n < 256 ^ bytes_of_type type
    → MayRead m (address m base offset) (bytes_of_type type)
    → Number m (address m base offset) (bytes_of_type type) n
    → effect (loads type rd base offset) m streams ≡ Running (given rd (word_of (widened type n)) m) streams
loaded_number narrow.I1 m s rd base offset n segments h may there =
    loads_number m rd 1 (address m base offset) n (λ i. low_bits 64 (cast_signed w8 i)) s segments h may there
    ∙ ap (λ v. Running (given rd v m) s) (read_8 n h)
loaded_number narrow.U1 m s rd base offset n segments h may there =
    loads_number m rd 1 (address m base offset) n (λ i. i) s segments h may there
    ∙ ap (λ v. Running (given rd v m) s) (read_unsigned_8 n h)
loaded_number narrow.I2 m s rd base offset n segments h may there =
    loads_number m rd 2 (address m base offset) n (λ i. low_bits 64 (cast_signed w16 i)) s segments h may there
    ∙ ap (λ v. Running (given rd v m) s) (read_16 n h)
loaded_number narrow.U2 m s rd base offset n segments h may there =
    loads_number m rd 2 (address m base offset) n (λ i. i) s segments h may there
    ∙ ap (λ v. Running (given rd v m) s) (read_unsigned_16 n h)
loaded_number narrow.I4 m s rd base offset n segments h may there =
    loads_number m rd 4 (address m base offset) n (λ i. low_bits 64 (cast_signed w32 i)) s segments h may there
    ∙ ap (λ v. Running (given rd v m) s) (read_32 n h)
loaded_number narrow.U4 m s rd base offset n segments h may there =
    loads_number m rd 4 (address m base offset) n (λ i. low_bits 64 (cast_signed w32 i)) s segments h may there
    ∙ ap (λ v. Running (given rd v m) s) (read_unsigned_32 n h)
loaded_number narrow.I8 m s rd base offset n segments h may there =
    loads_number m rd 8 (address m base offset) n (λ i. i) s segments h may there
    ∙ ap (λ v. Running (given rd v m) s) (read_64 n h)
loaded_number narrow.U8 m s rd base offset n segments h may there =
    loads_number m rd 8 (address m base offset) n (λ i. i) s segments h may there
    ∙ ap (λ v. Running (given rd v m) s) (read_unsigned_64 n h)

pub stored_number : (type : Narrow) (m : MachineState) (streams : Streams) (rs base : ℕ) (offset : ℤ)
    → effect (stores type rs base offset) m streams
    ≡ stores_bytes m (bytes_of_type type) (address m base offset) (register m rs) streams
stored_number narrow.I1 m s rs base offset = refl
stored_number narrow.U1 m s rs base offset = refl
stored_number narrow.I2 m s rs base offset = refl
stored_number narrow.U2 m s rs base offset = refl
stored_number narrow.I4 m s rs base offset = refl
stored_number narrow.U4 m s rs base offset = refl
stored_number narrow.I8 m s rs base offset = refl
stored_number narrow.U8 m s rs base offset = refl

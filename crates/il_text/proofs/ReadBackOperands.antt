-- The operand of an instruction is read back from its words.
use Rattle.std.proofs.Common.{◌≡◌, ◌∙◌, ℕ, zero, suc, ◌+◌, ◌-◌, ◌*◌, ◌^◌, ◌<◌, ◌≤◌, true, nat_eq}
use Rattle.std.proofs.Common.{nat_le, List, [], ◌∷◌, ◌++◌, length, take, drop, slice_get, slice_index, decimal}
use Rattle.std.proofs.Common.{Option, Some, option_map, option_and_then, Ok, ℤ, pos, ◌+ℤ◌, ◌-ℤ◌, refl, ap}
use Rattle.std.proofs.Common.{sym, subst, arith, take-append-drop, length-drop}
use Rattle.std.proofs.lemmas.Bool.{and_parts, eqb-true, leb-true}
use Rattle.std.proofs.lemmas.List.{length-take-le, nil_from_length}
use Rattle.std.specs.Fmt.{signed_decimal}
use Rattle.byteorder.specs.Endian.{little_bytes, little_number, twos_complement}
use Rattle.byteorder.specs.Numbers.{little_from-lt, little_from-take}
use Rattle.hex.specs.Hex.{IsBytes}
use Rattle.num_core.specs.Bits.{low_bits}
use Rattle.il_code.specs.declared.opcode.OperandForm.{OperandForm}
use Rattle.il_code.specs.declared.opcode.OperandForm.TheVariants.{Absent, Unsigned8, Unsigned16, Signed8, Signed32}
use Rattle.il_code.specs.declared.opcode.OperandForm.TheVariants.{Signed64, Token, Target8, Target32, Targets}
use Rattle.il_text.specs.Words.{token_word}
use Rattle.il_text.specs.Instructions.{operand_words, target_word, target_words, short_number, long_number, has_size}
use Rattle.il_text.specs.Lines.{LineParts, word_at}
use Rattle.il_text.specs.Values.{number_below, whole_in, token_in}
use Rattle.il_text.specs.Reading.{◌>>=◌, or_bad, read, ends, near, signed_bytes, distance_to, operand_bytes, operand_of}
use Rattle.il_text.specs.Reading.{distances_from}
use Rattle.il_text.proofs.ReadBackLines.{AreWords, Says, bound, read_at, ended_at}
use Rattle.il_text.proofs.ReadBackValues.{number_back, whole_back, token_back, IsWhole}
use Rattle.il_text.proofs.ReadBackWords.{decimal_word, signed_word, token_is_word}
use Rattle.il_text.proofs.ReadBackNumbers.{low_back, one_low, signed_of, signed_8, signed_32, signed_64, low_signed}
use Rattle.il_text.proofs.ReadBackNumbers.{place_signed, place_sum, back_by, near_1, near_4}

-- ---- bytes of bytes

pub take_bytes : (n : ℕ) (bytes : List ℕ) → IsBytes bytes → IsBytes (take n bytes)
take_bytes zero bytes fit k = omega arith
take_bytes (suc n) [] fit k = omega arith
take_bytes (suc n) (byte ∷ bytes) fit zero = fit 0
take_bytes (suc n) (byte ∷ bytes) fit (suc k) = take_bytes n bytes (λ k. fit (suc k)) k

pub drop_bytes : (n : ℕ) (bytes : List ℕ) → IsBytes bytes → IsBytes (drop n bytes)
drop_bytes zero bytes fit = fit
drop_bytes (suc n) [] fit = λ k. omega arith
drop_bytes (suc n) (byte ∷ bytes) fit = drop_bytes n bytes (λ k. fit (suc k))

-- the first bytes that a number was read of
low_front : (count : ℕ) (bytes : List ℕ) → count ≤ length bytes → IsBytes bytes
    → little_bytes count (little_number count bytes) ≡ take count bytes
low_front count bytes long fit =
    ap (little_bytes count) (sym (little_from-take 0 count count bytes (omega arith)))
    ∙ low_back count (take count bytes) (length-take-le count bytes long) (take_bytes count bytes fit)

-- ---- operands that are one word

pub one_word : (line : LineParts) (name word bytes : List ℕ) (value : List ℕ → Option (List ℕ))
    → Says line (name ∷ word ∷ []) → value word ≡ Some bytes
    → (read value line 1 >>= (λ bytes. ends line 2 >>= (λ done. Ok bytes))) ≡ Ok bytes
one_word line name word bytes value s is =
    bound (read value line 1) bytes (λ bytes. ends line 2 >>= (λ done. Ok bytes)) (Ok bytes)
    (read_at value line (name ∷ word ∷ []) 1 word bytes s refl is)
    (ap (λ r. r >>= (λ done. Ok bytes)) (ended_at line (name ∷ word ∷ []) 2 s refl))

unsigned_back : (size n bound : ℕ) (bytes : List ℕ) → n ≡ little_number size bytes → n < bound → n < 2 ^ 64
    → length bytes ≡ size → IsBytes bytes
    → option_map (little_bytes size) (number_below bound (decimal n)) ≡ Some bytes
unsigned_back size n bound bytes is less small long fit =
    ap (option_map (little_bytes size)) (number_back bound n less small)
    ∙ ap Some (ap (little_bytes size) is ∙ low_back size bytes long fit)

-- a signed number of so many bytes
signed_back : (size half n : ℕ) (bytes : List ℕ) (number : ℤ) → number ≡ signed_of half n
    → n ≡ little_number size bytes → half ≡ 2 ^ (8 * size - 1) → 2 * half ≡ 2 ^ (8 * size) → half < 2 ^ 64
    → n < 2 * half → length bytes ≡ size → IsBytes bytes
    → option_map (signed_bytes size) (whole_in (8 * size) (signed_decimal number)) ≡ Some bytes
signed_back size half n bytes number signed is top whole few less long fit =
    let low : low_bits (8 * size) (signed_of half n) ≡ n = low_signed (8 * size) half n whole (omega arith) in
    ap (λ z. option_map (signed_bytes size) (whole_in (8 * size) (signed_decimal z))) signed
    ∙ ap (option_map (signed_bytes size))
    (whole_back (8 * size) (signed_of half n) (place_signed (8 * size) half n (omega arith) less) (omega arith))
    ∙ ap (λ m. Some (little_bytes size m)) (low ∙ is) ∙ ap Some (low_back size bytes long fit)

token_of_back : (bytes : List ℕ) → length bytes ≡ 4 → IsBytes bytes
    → option_map (little_bytes 4) (token_in (token_word (little_number 4 bytes))) ≡ Some bytes
token_of_back bytes long fit =
    ap (option_map (little_bytes 4)) (token_back (little_number 4 bytes) (little_from-lt 0 4 bytes fit))
    ∙ ap Some (low_back 4 bytes long fit)

-- ---- branches

-- a distance of so many bytes, from the offset that it leads to
distance_back : (size half n next : ℕ) (bytes : List ℕ) (distance : ℤ) → distance ≡ signed_of half n
    → n ≡ little_number size bytes → 2 * half ≡ 2 ^ (8 * size) → half ≤ 2 ^ 31 → n < 2 * half → next < 2 ^ 62
    → near size (signed_of half n) ≡ Some (signed_bytes size (signed_of half n))
    → distance_to size next (target_word next distance) ≡ Some (little_bytes size (little_number size bytes))
distance_back size half n next bytes distance signed is whole few less close place =
    let low : low_bits (8 * size) (signed_of half n) ≡ n = low_signed (8 * size) half n whole (omega arith) in
    ap (λ z. distance_to size next (target_word next z)) signed
    ∙ ap (option_and_then (λ offset. near size (offset -ℤ pos next)))
    (whole_back 64 (pos next +ℤ signed_of half n) (place_sum half next n close few less) (omega arith))
    ∙ ap (λ z. near size z) (back_by next (signed_of half n)) ∙ place
    ∙ ap (λ m. Some (little_bytes size m)) (low ∙ is)

distance_1 : (next : ℕ) (bytes : List ℕ) → next < 2 ^ 62 → IsBytes bytes
    → distance_to 1 next (target_word next (short_number bytes)) ≡ Some (little_bytes 1 (little_number 1 bytes))
distance_1 next bytes close fit =
    distance_back 1 128 (slice_index bytes 0) next bytes (short_number bytes) (signed_8 (slice_index bytes 0))
    (one_low bytes) refl (omega arith) (fit 0) close (near_1 (slice_index bytes 0) (fit 0))

distance_4 : (next : ℕ) (bytes : List ℕ) → next < 2 ^ 62 → IsBytes bytes
    → distance_to 4 next (target_word next (long_number bytes)) ≡ Some (little_bytes 4 (little_number 4 bytes))
distance_4 next bytes close fit =
    let less : little_number 4 bytes < 2 ^ 32 = little_from-lt 0 4 bytes fit in
    distance_back 4 (2 ^ 31) (little_number 4 bytes) next bytes (long_number bytes)
    (signed_32 (little_number 4 bytes) less) refl refl (omega arith) less close (near_4 (little_number 4 bytes) less)

length-targets : (next count : ℕ) (bytes : List ℕ) → length (target_words next count bytes) ≡ count
length-targets next zero bytes = refl
length-targets next (suc count) bytes = ap suc (length-targets next count (drop 4 bytes))

targets_back : (count : ℕ) (line : LineParts) (next index : ℕ) (bytes : List ℕ) → length bytes ≡ 4 * count
    → IsBytes bytes → next < 2 ^ 62
    → ((j : ℕ) → word_at line (index + j) ≡ slice_get (target_words next count bytes) j)
    → distances_from line next count index ≡ Ok bytes
targets_back zero line next index bytes size fit close there =
    ap Ok (sym (nil_from_length bytes (omega (arith, size))))
targets_back (suc count) line next index bytes size fit close there =
    let here : index ≡ index + 0 = omega arith in
    let long : 4 ≤ length bytes = omega (arith, size) in
    bound (read (distance_to 4 next) line index) (take 4 bytes)
    (λ first. distances_from line next count (index + 1) >>= (λ rest. Ok (first ++ rest))) (Ok bytes)
    (ap (λ o. or_bad line index (option_and_then (distance_to 4 next) o)) (ap (word_at line) here ∙ there 0)
    ∙ ap (or_bad line index) (distance_4 next bytes close fit ∙ ap Some (low_front 4 bytes long fit)))
    (bound (distances_from line next count (index + 1)) (drop 4 bytes) (λ rest. Ok (take 4 bytes ++ rest)) (Ok bytes)
    (targets_back count line next (index + 1) (drop 4 bytes) (omega (arith, size, length-drop 4 bytes))
    (drop_bytes 4 bytes fit) close
    (λ j. let on : index + 1 + j ≡ index + suc j = omega arith in ap (word_at line) on ∙ there (suc j)))
    (ap Ok (take-append-drop 4 bytes)))

-- the words of targets, counted from the first of them
target_there : (line : LineParts) (name count_word : List ℕ) (next other count : ℕ) (bytes : List ℕ)
    → Says line (name ∷ count_word ∷ target_words next count bytes) → next ≡ other → (j : ℕ)
    → word_at line (2 + j) ≡ slice_get (target_words other count bytes) j
target_there line name count_word next other count bytes s same j =
    let place : 2 + j ≡ suc (suc j) = omega arith in
    ap (word_at line) place ∙ s.word (suc (suc j))
    ∙ ap (λ next. slice_get (target_words next count bytes) j) same

switch_back : (line : LineParts) (at : ℕ) (name bytes : List ℕ) → 4 ≤ length bytes
    → length bytes ≡ 4 + 4 * little_number 4 bytes → IsBytes bytes → at + length bytes < 2 ^ 62
    → Says line (name ∷ operand_words Targets (at + length bytes) bytes) → operand_of Targets line at ≡ Ok bytes
switch_back line at name bytes long size fit close s =
    let count : ℕ = little_number 4 bytes in
    let words : List (List ℕ) = name ∷ operand_words Targets (at + length bytes) bytes in
    let less : little_number 4 bytes < 2 ^ 32 = little_from-lt 0 4 bytes fit in
    let next : at + length bytes ≡ at + (4 + 4 * count) = ap (λ n. at + n) size in
    bound (read (number_below (2 ^ 32)) line 1) count
    (λ count. distances_from line (at + (4 + 4 * count)) count 2
    >>= (λ rest. ends line (2 + count) >>= (λ done. Ok (little_bytes 4 count ++ rest))))
    (Ok bytes)
    (read_at (number_below (2 ^ 32)) line words 1 (decimal count) count s refl
    (number_back (2 ^ 32) count less (omega (arith, less))))
    (bound (distances_from line (at + (4 + 4 * count)) count 2) (drop 4 bytes)
    (λ rest. ends line (2 + count) >>= (λ done. Ok (little_bytes 4 count ++ rest))) (Ok bytes)
    (targets_back count line (at + (4 + 4 * count)) 2 (drop 4 bytes) (omega (arith, size, length-drop 4 bytes))
    (drop_bytes 4 bytes fit) (omega (arith, close, next))
    (target_there line name (decimal count) (at + length bytes) (at + (4 + 4 * count)) count (drop 4 bytes) s next))
    (bound (ends line (2 + count)) tt (λ done. Ok (little_bytes 4 count ++ drop 4 bytes)) (Ok bytes)
    (ended_at line words (2 + count) s (omega (arith, length-targets (at + length bytes) count (drop 4 bytes))))
    (ap Ok (ap (λ front. front ++ drop 4 bytes) (low_front 4 bytes long fit) ∙ take-append-drop 4 bytes))))

-- ---- all forms

pub operand_back : (form : OperandForm) (line : LineParts) (at : ℕ) (name bytes : List ℕ)
    → has_size form bytes ≡ true → IsBytes bytes → at + length bytes < 2 ^ 62
    → Says line (name ∷ operand_words form (at + length bytes) bytes) → operand_of form line at ≡ Ok bytes
operand_back Absent line at name bytes sized fit close s =
    ap (λ r. r >>= (λ done. Ok [])) (ended_at line (name ∷ []) 1 s refl)
    ∙ ap Ok (sym (nil_from_length bytes (eqb-true (length bytes) 0 sized)))
operand_back Unsigned8 line at name bytes sized fit close s =
    one_word line name (decimal (slice_index bytes 0)) bytes (operand_bytes Unsigned8 at) s
    (unsigned_back 1 (slice_index bytes 0) 0x100 bytes (one_low bytes) (fit 0) (omega (arith, fit 0))
    (eqb-true (length bytes) 1 sized) fit)
operand_back Unsigned16 line at name bytes sized fit close s =
    let less : little_number 2 bytes < 0x1_0000 = little_from-lt 0 2 bytes fit in
    one_word line name (decimal (little_number 2 bytes)) bytes (operand_bytes Unsigned16 at) s
    (unsigned_back 2 (little_number 2 bytes) 0x1_0000 bytes refl less (omega (arith, less))
    (eqb-true (length bytes) 2 sized) fit)
operand_back Signed8 line at name bytes sized fit close s =
    one_word line name (signed_decimal (short_number bytes)) bytes (operand_bytes Signed8 at) s
    (signed_back 1 128 (slice_index bytes 0) bytes (short_number bytes) (signed_8 (slice_index bytes 0)) (one_low bytes)
    refl refl (omega arith) (fit 0) (eqb-true (length bytes) 1 sized) fit)
operand_back Signed32 line at name bytes sized fit close s =
    let less : little_number 4 bytes < 2 ^ 32 = little_from-lt 0 4 bytes fit in
    one_word line name (signed_decimal (long_number bytes)) bytes (operand_bytes Signed32 at) s
    (signed_back 4 (2 ^ 31) (little_number 4 bytes) bytes (long_number bytes) (signed_32 (little_number 4 bytes) less)
    refl refl refl (omega arith) less (eqb-true (length bytes) 4 sized) fit)
operand_back Signed64 line at name bytes sized fit close s =
    let less : little_number 8 bytes < 2 ^ 64 = little_from-lt 0 8 bytes fit in
    let number : ℤ = twos_complement 8 (little_number 8 bytes) in
    one_word line name (signed_decimal number) bytes (operand_bytes Signed64 at) s
    (signed_back 8 (2 ^ 63) (little_number 8 bytes) bytes number (signed_64 (little_number 8 bytes) less)
    refl refl refl (omega arith) less (eqb-true (length bytes) 8 sized) fit)
operand_back Token line at name bytes sized fit close s =
    one_word line name (token_word (little_number 4 bytes)) bytes (operand_bytes Token at) s
    (token_of_back bytes (eqb-true (length bytes) 4 sized) fit)
operand_back Target8 line at name bytes sized fit close s =
    let one : length bytes ≡ 1 = eqb-true (length bytes) 1 sized in
    one_word line name (target_word (at + length bytes) (short_number bytes)) bytes (operand_bytes Target8 at) s
    (ap (λ n. distance_to 1 (at + 1) (target_word (at + n) (short_number bytes))) one
    ∙ distance_1 (at + 1) bytes (omega (arith, close, one)) fit ∙ ap Some (low_back 1 bytes one fit))
operand_back Target32 line at name bytes sized fit close s =
    let four : length bytes ≡ 4 = eqb-true (length bytes) 4 sized in
    one_word line name (target_word (at + length bytes) (long_number bytes)) bytes (operand_bytes Target32 at) s
    (ap (λ n. distance_to 4 (at + 4) (target_word (at + n) (long_number bytes))) four
    ∙ distance_4 (at + 4) bytes (omega (arith, close, four)) fit ∙ ap Some (low_back 4 bytes four fit))
operand_back Targets line at name bytes sized fit close s =
    let parts = and_parts (nat_le 4 (length bytes)) (nat_eq (length bytes) (4 + 4 * little_number 4 bytes)) sized in
    switch_back line at name bytes (leb-true 4 (length bytes) parts.0)
    (eqb-true (length bytes) (4 + 4 * little_number 4 bytes) parts.1) fit close s

-- ---- and the words of an operand are words

short_place : (bytes : List ℕ) → IsBytes bytes → IsWhole 64 (short_number bytes)
short_place bytes fit =
    subst (IsWhole 64) (sym (signed_8 (slice_index bytes 0)))
    (place_signed 64 128 (slice_index bytes 0) (omega arith) (fit 0))

long_place : (bytes : List ℕ) → IsBytes bytes → IsWhole 64 (long_number bytes)
long_place bytes fit =
    let less : little_number 4 bytes < 2 ^ 32 = little_from-lt 0 4 bytes fit in
    subst (IsWhole 64) (sym (signed_32 (little_number 4 bytes) less))
    (place_signed 64 (2 ^ 31) (little_number 4 bytes) (omega arith) less)

wide_place : (bytes : List ℕ) → IsBytes bytes → IsWhole 64 (twos_complement 8 (little_number 8 bytes))
wide_place bytes fit =
    let less : little_number 8 bytes < 2 ^ 64 = little_from-lt 0 8 bytes fit in
    subst (IsWhole 64) (sym (signed_64 (little_number 8 bytes) less))
    (place_signed 64 (2 ^ 63) (little_number 8 bytes) (omega arith) less)

short_sum : (next : ℕ) (bytes : List ℕ) → next < 2 ^ 62 → IsBytes bytes → IsWhole 64 (pos next +ℤ short_number bytes)
short_sum next bytes close fit =
    subst (λ z. IsWhole 64 (pos next +ℤ z)) (sym (signed_8 (slice_index bytes 0)))
    (place_sum 128 next (slice_index bytes 0) close (omega arith) (fit 0))

long_sum : (next : ℕ) (bytes : List ℕ) → next < 2 ^ 62 → IsBytes bytes → IsWhole 64 (pos next +ℤ long_number bytes)
long_sum next bytes close fit =
    let less : little_number 4 bytes < 2 ^ 32 = little_from-lt 0 4 bytes fit in
    subst (λ z. IsWhole 64 (pos next +ℤ z)) (sym (signed_32 (little_number 4 bytes) less))
    (place_sum (2 ^ 31) next (little_number 4 bytes) close (omega arith) less)

targets_are_words : (next count : ℕ) (bytes : List ℕ) → next < 2 ^ 62 → IsBytes bytes
    → AreWords (target_words next count bytes)
targets_are_words next zero bytes close fit = tt
targets_are_words next (suc count) bytes close fit = (
  signed_word (pos next +ℤ long_number bytes) (long_sum next bytes close fit),
  targets_are_words next count (drop 4 bytes) close (drop_bytes 4 bytes fit),
)

pub operand_are_words : (form : OperandForm) (next : ℕ) (bytes : List ℕ) → IsBytes bytes → next < 2 ^ 62
    → AreWords (operand_words form next bytes)
operand_are_words Absent next bytes fit close = tt
operand_are_words Unsigned8 next bytes fit close = (decimal_word (slice_index bytes 0) (omega (arith, fit 0)), tt)
operand_are_words Unsigned16 next bytes fit close =
    let less : little_number 2 bytes < 0x1_0000 = little_from-lt 0 2 bytes fit in
    (decimal_word (little_number 2 bytes) (omega (arith, less)), tt)
operand_are_words Signed8 next bytes fit close = (signed_word (short_number bytes) (short_place bytes fit), tt)
operand_are_words Signed32 next bytes fit close = (signed_word (long_number bytes) (long_place bytes fit), tt)
operand_are_words Signed64 next bytes fit close =
    (signed_word (twos_complement 8 (little_number 8 bytes)) (wide_place bytes fit), tt)
operand_are_words Token next bytes fit close = (token_is_word (little_number 4 bytes), tt)
operand_are_words Target8 next bytes fit close =
    (signed_word (pos next +ℤ short_number bytes) (short_sum next bytes close fit), tt)
operand_are_words Target32 next bytes fit close =
    (signed_word (pos next +ℤ long_number bytes) (long_sum next bytes close fit), tt)
operand_are_words Targets next bytes fit close =
    let less : little_number 4 bytes < 2 ^ 32 = little_from-lt 0 4 bytes fit in (
      decimal_word (little_number 4 bytes) (omega (arith, less)),
      targets_are_words next (little_number 4 bytes) (drop 4 bytes) close (drop_bytes 4 bytes fit),
    )

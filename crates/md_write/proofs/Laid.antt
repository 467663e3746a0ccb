-- The header of the stream of tables, read back.
use Rattle.std.proofs.Common.{◌≡◌, ◌∙◌, ℕ, zero, suc, ◌+◌, ◌*◌, ◌/◌, ◌%◌, ◌^◌, ◌<◌, ◌≤◌, ◌==◌, ◌&&◌, Bool, true}
use Rattle.std.proofs.Common.{false, cond, not, List, [], ◌∷◌, ◌++◌, length, map, ap, refl, sym, arith, lit<}
use Rattle.std.proofs.Common.{length-append, Some, None, le-leb}
use Rattle.std.specs.Prelude.{slice_get}
use Rattle.std.specs.List.{range_with_len}
use Rattle.std.proofs.lemmas.Bool.{true≢false, eqb-true}
use Rattle.std.proofs.Math.Nat.{pow-suc, div-div-eq-div-mul, zero-div}
use Rattle.byteorder.specs.Endian.{little_bytes}
use Rattle.byteorder.specs.Numbers.{little_number-reads_back}
use Rattle.md_rows.specs.declared.layout.Layout.{Layout}
use Rattle.md_rows.specs.Widths.{number_at, fits, valid, has_table, tables_below, row_count, row_counts, rows_place}
use Rattle.md_rows.specs.Widths.{heap_bit, or_zero, layout_in, layout_of}
use Rattle.md_write.specs.Stream.{mask_of, count_bytes, counts_bytes, bit_if, heap_sizes, sorted_mask, tables_header}
use Rattle.md_write.proofs.Standing.{Stands, stands-is, stands-first, stands-second, stands-number}

-- the number of rows of a table; one that isn't there has none
abbrev pub count_at : List ℕ → ℕ → ℕ
count_at counts table = or_zero (slice_get counts table)

-- ---- the mask

bit_by : (b : Bool) (m : ℕ) → (cond b 0 1 + 2 * m) / 2 ≡ m
bit_by true m = omega arith
bit_by false m = omega arith

low_by : (b : Bool) (m : ℕ) → ((cond b 0 1 + 2 * m) / 2 ^ 0 % 2 == 1) ≡ not b
low_by true m = let e : (0 + 2 * m) / 1 % 2 ≡ 0 = omega arith in ap (λ n. n == 1) e
low_by false m = let e : (1 + 2 * m) / 1 % 2 ≡ 1 = omega arith in ap (λ n. n == 1) e

-- a table is there exactly where it has rows
pub has_rows : (counts : List ℕ) (table : ℕ) → has_table (mask_of counts) table ≡ not (count_at counts table == 0)
has_rows [] table = ap (λ n. n % 2 == 1) (zero-div (2 ^ table))
has_rows (count ∷ rest) zero = low_by (count == 0) (mask_of rest)
has_rows (count ∷ rest) (suc table) =
    let mask : ℕ = mask_of (count ∷ rest) in
    let twice : 2 ^ suc table ≡ 2 * 2 ^ table = omega (arith, pow-suc 2 table) in
    let halved : mask / 2 ^ suc table ≡ mask_of rest / 2 ^ table =
    ap (λ n. mask / n) twice ∙ (sym (div-div-eq-div-mul mask 2 (2 ^ table))
    ∙ ap (λ n. n / 2 ^ table) (bit_by (count == 0) (mask_of rest))) in
    ap (λ n. n % 2 == 1) halved ∙ has_rows rest table

pub mask_low : (counts : List ℕ) → mask_of counts < 2 ^ length counts
mask_low [] = lit< tt
mask_low (count ∷ rest) = by (count == 0) (mask_low rest)
  where
    by : (b : Bool) → mask_of rest < 2 ^ length rest → cond b 0 1 + 2 * mask_of rest < 2 ^ suc (length rest)
    by true low = omega (arith, pow-suc 2 (length rest), low)
    by false low = omega (arith, pow-suc 2 (length rest), low)

bit_is : (b : Bool) → 0 + cond (not b) 1 0 ≡ cond b 0 1 + 0
bit_is true = refl
bit_is false = refl

abbrev one_if : Bool → ℕ
one_if b = cond b 1 0

-- how many tables there are below the next number
below_on : (count : ℕ) (rest : List ℕ) (table : ℕ)
    → tables_below (mask_of (count ∷ rest)) (suc table) ≡ cond (count == 0) 0 1 + tables_below (mask_of rest) table
unfolding tables_below
below_on count rest zero = ap (λ b. 0 + one_if b) (has_rows (count ∷ rest) 0) ∙ bit_is (count == 0)
below_on count rest (suc table) =
    let mask : ℕ = mask_of (count ∷ rest) in
    let same : has_table mask (suc table) ≡ has_table (mask_of rest) table =
    has_rows (count ∷ rest) (suc table) ∙ sym (has_rows rest table) in
    let bits : one_if (has_table mask (suc table)) ≡ one_if (has_table (mask_of rest) table) = ap one_if same in
    let below : tables_below mask (suc table) ≡ cond (count == 0) 0 1 + tables_below (mask_of rest) table =
    below_on count rest table in
    omega (arith, bits, below)

none_below : (mask : ℕ) → tables_below mask 0 ≡ 0
unfolding tables_below
none_below mask = refl

-- ---- the numbers of rows

count_size : (count : ℕ) → length (count_bytes count) ≡ 4 * cond (count == 0) 0 1
count_size count = by (count == 0)
  where
    by : (b : Bool) → length (cond b [] (little_bytes 4 count)) ≡ 4 * cond b 0 1
    by true = refl
    by false = refl

pub counts_size : (counts : List ℕ) → length (counts_bytes counts) ≡ 4 * tables_below (mask_of counts) (length counts)
counts_size [] = let none : tables_below 0 0 ≡ 0 = none_below 0 in omega (arith, none)
counts_size (count ∷ rest) =
    let whole : length (counts_bytes (count ∷ rest)) ≡ length (count_bytes count) + length (counts_bytes rest) =
    length-append (count_bytes count) (counts_bytes rest) in
    omega (arith, whole, count_size count, counts_size rest, below_on count rest (length rest))

-- the number of rows of a table that has some
counts_stand : (counts : List ℕ) (table : ℕ) (bytes : List ℕ) (at : ℕ) → (count_at counts table == 0) ≡ false
    → Stands bytes (counts_bytes counts) at
    → Stands bytes (little_bytes 4 (count_at counts table)) (at + 4 * tables_below (mask_of counts) table)
counts_stand [] table bytes at some h = absurd (true≢false some)
counts_stand (count ∷ rest) zero bytes at some h =
    let place : at ≡ at + 4 * tables_below (mask_of (count ∷ rest)) 0 =
    omega (arith, none_below (mask_of (count ∷ rest))) in
    stands-is bytes (count_bytes count) (little_bytes 4 count) at (at + 4 * tables_below (mask_of (count ∷ rest)) 0)
    (ap (λ b. cond b [] (little_bytes 4 count)) some) place
    (stands-first bytes (count_bytes count) (counts_bytes rest) at h)
counts_stand (count ∷ rest) (suc table) bytes at some h =
    let next : ℕ = at + length (count_bytes count) in
    let part : List ℕ = little_bytes 4 (count_at rest table) in
    let place : next + 4 * tables_below (mask_of rest) table
    ≡ at + 4 * tables_below (mask_of (count ∷ rest)) (suc table) =
    omega (arith, count_size count, below_on count rest table) in
    stands-is bytes part part (next + 4 * tables_below (mask_of rest) table)
    (at + 4 * tables_below (mask_of (count ∷ rest)) (suc table)) refl place
    (counts_stand rest table bytes next some
    (stands-second bytes (count_bytes count) (counts_bytes rest) at h))

-- ---- the stream that begins with a header

abbrev front_of : Layout → List ℕ
front_of layout =
    little_bytes 4 0
    ++ ((2 ∷ 0 ∷ heap_sizes layout ∷ 1 ∷ []) ++ (little_bytes 8 (mask_of layout.rows) ++ little_bytes 8 sorted_mask))

pub header_size : (layout : Layout) → length (tables_header layout) ≡ 24 + length (counts_bytes layout.rows)
header_size layout = length-append (front_of layout) (counts_bytes layout.rows)

abbrev bit_in : Bool → Bool → Bool → ℕ → Bool
bit_in a b c bit = (bit_if a 1 + bit_if b 2 + bit_if c 4) / bit % 2 == 1

bits_read : (a b c : Bool) → (bit_in a b c 1 ≡ a) × (bit_in a b c 2 ≡ b) × (bit_in a b c 4 ≡ c)
bits_read true true true = (refl, refl, refl)
bits_read true true false = (refl, refl, refl)
bits_read true false true = (refl, refl, refl)
bits_read true false false = (refl, refl, refl)
bits_read false true true = (refl, refl, refl)
bits_read false true false = (refl, refl, refl)
bits_read false false true = (refl, refl, refl)
bits_read false false false = (refl, refl, refl)

pub map_same : (f g : ℕ → ℕ) (a n : ℕ) → ((t : ℕ) → t < a + n → f t ≡ g t)
    → map f (range_with_len a n) ≡ map g (range_with_len a n)
map_same f g a zero same = refl
map_same f g a (suc n) same =
    ap (λ x. x ∷ map f (range_with_len (a + 1) n)) (same a (omega arith))
    ∙ ap (λ xs. g a ∷ xs) (map_same f g (a + 1) n (λ t less. same t (omega (arith, less))))

pub count_in_map : (g : ℕ → ℕ) (a n t : ℕ) → t < n → count_at (map g (range_with_len a n)) t ≡ g (a + t)
count_in_map g a zero t less = absurd (omega (arith, less))
count_in_map g a (suc n) zero less = let here : a ≡ a + 0 = omega arith in ap g here
count_in_map g a (suc n) (suc t) less =
    let there : a + 1 + t ≡ a + suc t = omega arith in
    count_in_map g (a + 1) n t (omega (arith, less)) ∙ ap g there

pub count_past_map : (g : ℕ → ℕ) (a n t : ℕ) → n ≤ t → count_at (map g (range_with_len a n)) t ≡ 0
count_past_map g a zero t past = refl
count_past_map g a (suc n) zero past = absurd (omega (arith, past))
count_past_map g a (suc n) (suc t) past = count_past_map g (a + 1) n t (omega (arith, past))

-- a header of 64 numbers of rows, behind which the rows begin
pub record IsHeader (layout : Layout) : Type 0 where
  pub rows : map (count_at layout.rows) (range_with_len 0 64) ≡ layout.rows
  pub size : length layout.rows ≡ 64
  pub few : (table : ℕ) → table < 64 → count_at layout.rows table < 2 ^ 32
  pub place : layout.place ≡ 24 + length (counts_bytes layout.rows)

-- a header with more behind it
abbrev pub headed : Layout → List ℕ → List ℕ
headed layout rest = tables_header layout ++ rest

counts_there : (layout : Layout) (rest : List ℕ) → Stands (headed layout rest) (counts_bytes layout.rows) 24
counts_there layout rest = record { front = front_of layout; behind = rest; parts = refl; starts = refl }

-- the number of rows of a table by the mask
abbrev told_by : ℕ → List ℕ → ℕ → ℕ
told_by mask stream table =
    cond (has_table mask table) (number_at stream 4 (24 + 4 * tables_below mask table)) 0

module _ (layout : Layout) (rest : List ℕ) (header : IsHeader layout) where
  pub valid_read : valid (headed layout rest) ≡ mask_of layout.rows
  valid_read =
      let low : mask_of layout.rows < 2 ^ length layout.rows = mask_low layout.rows in
      let power : 2 ^ length layout.rows ≡ 2 ^ 64 = ap (λ n. 2 ^ n) header.size in
      little_number-reads_back 8 (mask_of layout.rows) [] (omega (arith, low, power))

  count_read : (table : ℕ) → table < 64 → row_count (headed layout rest) table ≡ count_at layout.rows table
  count_read table less =
      ap (λ m. told_by m (headed layout rest) table) valid_read ∙ by (count_at layout.rows table == 0) refl
    where
      by : (b : Bool) → (count_at layout.rows table == 0) ≡ b
          → told_by (mask_of layout.rows) (headed layout rest) table ≡ count_at layout.rows table
      by true e =
          let place : ℕ = 24 + 4 * tables_below (mask_of layout.rows) table in
          ap (λ b. cond b (number_at (headed layout rest) 4 place) 0) (has_rows layout.rows table ∙ ap not e)
          ∙ sym (eqb-true (count_at layout.rows table) 0 e)
      by false e =
          let place : ℕ = 24 + 4 * tables_below (mask_of layout.rows) table in
          ap (λ b. cond b (number_at (headed layout rest) 4 place) 0) (has_rows layout.rows table ∙ ap not e)
          ∙ stands-number (headed layout rest) 4 (count_at layout.rows table) place
          (omega (arith, header.few table less))
          (counts_stand layout.rows table (headed layout rest) 24 e (counts_there layout rest))

  counts_read : row_counts (headed layout rest) ≡ layout.rows
  unfolding row_counts
  counts_read =
      map_same (row_count (headed layout rest)) (count_at layout.rows) 0 64
      (λ t less. count_read t (omega (arith, less))) ∙ header.rows

  place_read : rows_place (headed layout rest) ≡ layout.place
  place_read =
      let below : 4 * tables_below (mask_of layout.rows) (length layout.rows)
      ≡ 4 * tables_below (mask_of layout.rows) 64 =
      ap (λ n. 4 * tables_below (mask_of layout.rows) n) header.size in
      let same : 24 + 4 * tables_below (mask_of layout.rows) 64 ≡ layout.place =
      omega (arith, below, counts_size layout.rows, header.place) in
      ap (λ m. 24 + 4 * tables_below m 64) valid_read ∙ same

  bits : (heap_bit (headed layout rest) 1 ≡ layout.wide_strings)
      × (heap_bit (headed layout rest) 2 ≡ layout.wide_guids)
      × (heap_bit (headed layout rest) 4 ≡ layout.wide_blobs)
  bits = bits_read layout.wide_strings layout.wide_guids layout.wide_blobs

  layout_same : layout_in (headed layout rest) ≡ layout
  layout_same = λ j. record {
    rows = counts_read j;
    place = place_read j;
    wide_strings = bits.0 j;
    wide_guids = bits.1 j;
    wide_blobs = bits.2 j;
  }

  -- the layout that is read is the one that was written
  pub layout_read : layout_of (headed layout rest) ≡ Some layout
  layout_read =
      let stream : List ℕ = headed layout rest in
      let long : length stream ≡ layout.place + length rest =
      omega (arith, length-append (tables_header layout) rest, header_size layout, header.place) in
      let head : fits stream 0 24 ≡ true = le-leb 24 (length stream) (omega (arith, long, header.place)) in
      let room : fits stream 0 (rows_place stream) ≡ true =
      le-leb (0 + rows_place stream) (length stream) (omega (arith, long, place_read)) in
      ap (λ b. cond (b && fits stream 0 (rows_place stream)) (Some (layout_in stream)) None) head
      ∙ (ap (λ b. cond b (Some (layout_in stream)) None) room ∙ ap Some layout_same)

-- The value of a custom attribute whose one argument is an int32: ECMA-335 II.23.3.
use Rattle.std.specs.Prelude.{◌≡◌, ◌==◌, ◌&&◌, ℕ, ℤ, Bool, List, length, drop, slice_index, if◌then◌else◌}
use Rattle.std.specs.Prelude.{Option, Some, None}
use Rattle.std.specs.Int.{w32, cast_signed}
use Rattle.byteorder.specs.Endian.{little_number}

-- The prolog 01 00, the value in four bytes, the lowest first, and 00 00, as no named arguments follow.
pub record IsAnnotation (blob : List ℕ) (value : ℤ) : Type 0 where
  pub size : length blob ≡ 8
  pub prolog_low : slice_index blob 0 ≡ 0x01
  pub prolog_high : slice_index blob 1 ≡ 0x00
  pub argument : value ≡ cast_signed w32 (little_number 4 (drop 2 blob))
  pub named_low : slice_index blob 6 ≡ 0x00
  pub named_high : slice_index blob 7 ≡ 0x00

-- the same as a test, and the value that the bytes have
abbrev pub is_annotation : List ℕ → Bool
is_annotation blob =
    length blob == 8 && slice_index blob 0 == 0x01 && slice_index blob 1 == 0x00 && slice_index blob 6 == 0x00
    && slice_index blob 7 == 0x00

abbrev pub annotation_of : List ℕ → Option ℤ
annotation_of blob = if is_annotation blob then Some (cast_signed w32 (little_number 4 (drop 2 blob))) else None

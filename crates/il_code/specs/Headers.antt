-- The header, the code and the sections of a method body: ECMA-335 II.25.4.
use Rattle.std.specs.Prelude.{ℕ, zero, suc, ◌+◌, ◌*◌, ◌/◌, ◌%◌, ◌==◌, Bool, false, ◌&&◌, nat_le, nat_lt, max}
use Rattle.std.specs.Prelude.{if◌then◌else◌, List, length, take, drop, slice_index, Option, Some, None}
use Rattle.std.specs.Prelude.{option_and_then}
use Rattle.byteorder.specs.Endian.{little_number}
use Rattle.il_code.specs.declared.header.Header.{Header}

-- the number in n bytes at a place, the lowest first
abbrev pub number_at : List ℕ → ℕ → ℕ → ℕ
number_at bytes n at = little_number n (drop at bytes)

-- ---- headers

-- the low bits are 10, and the size of the code stands in the upper six (II.25.4.2)
abbrev pub is_tiny : List ℕ → Bool
is_tiny bytes = slice_index bytes 0 % 4 == 2

-- the low bits are 11, and the upper four of the second byte tell the size of the header in words of four bytes
-- (II.25.4.3)
abbrev pub is_fat : List ℕ → Bool
is_fat bytes = slice_index bytes 0 % 4 == 3 && (nat_le 12 (length bytes) && slice_index bytes 1 / 16 == 3)

abbrev pub tiny_header : List ℕ → Header
tiny_header bytes =
    record {
      max_stack = 8;
      locals = 0;
      code_at = 1;
      code_size = slice_index bytes 0 / 4;
      has_sections = false;
    }

abbrev pub fat_header : List ℕ → Header
fat_header bytes =
    record {
      max_stack = number_at bytes 2 2;
      locals = number_at bytes 4 8;
      code_at = 12;
      code_size = number_at bytes 4 4;
      has_sections = slice_index bytes 0 / 8 % 2 == 1;
    }

-- the header at the front of the bytes, if one stands there whole
abbrev pub header_of : List ℕ → Option Header
header_of bytes =
    if is_tiny bytes then Some (tiny_header bytes) else if is_fat bytes then Some (fat_header bytes) else None

-- where the code ends
abbrev pub code_end : Header → ℕ
code_end header = header.code_at + header.code_size

-- the code behind the header
abbrev pub code_of : List ℕ → Header → List ℕ
code_of bytes header = take header.code_size (drop header.code_at bytes)

-- ---- sections

-- the next multiple of 4
abbrev pub aligned : ℕ → ℕ
aligned at = (at + 3) / 4 * 4

-- the size of the section at a place stands in three bytes behind the kind, and not in one (II.25.4.5)
abbrev pub is_fat_section : List ℕ → ℕ → Bool
is_fat_section bytes at = slice_index bytes at / 0x40 % 2 == 1

-- another section follows the one at a place
abbrev pub has_more : List ℕ → ℕ → Bool
has_more bytes at = nat_le 0x80 (slice_index bytes at)

-- the size that the section at a place tells, which counts its header of four bytes
abbrev pub section_size : List ℕ → ℕ → ℕ
section_size bytes at = if is_fat_section bytes at then number_at bytes 3 (at + 1) else slice_index bytes (at + 1)

-- where the section at a place ends: behind its header at least
abbrev pub section_end : List ℕ → ℕ → ℕ
section_end bytes at = at + max (section_size bytes at) 4

-- Where the last section ends, of at most so many from a place on, if they fit into the bytes. Each begins at a
-- multiple of 4.
abbrev pub sections_end : ℕ → List ℕ → ℕ → Option ℕ
sections_end zero bytes at = None
sections_end (suc most) bytes at =
    if nat_lt (length bytes) (section_end bytes at) then None
    else if has_more bytes at then sections_end most bytes (aligned (section_end bytes at))
    else Some (section_end bytes at)

-- ---- bodies

-- where the body under a header ends, if its code and its sections fit into the bytes
abbrev pub body_end : List ℕ → Header → Option ℕ
body_end bytes header =
    if nat_lt (length bytes) (code_end header) then None
    else if header.has_sections then sections_end (length bytes) bytes (aligned (code_end header))
    else Some (code_end header)

-- how many of the bytes the body at their front has, if it fits into them
abbrev pub body_length : List ℕ → Option ℕ
body_length bytes = option_and_then (body_end bytes) (header_of bytes)

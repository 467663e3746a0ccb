-- The headers of a file that was written, read back.
use Rattle.std.proofs.Common.{◌≡◌, ◌∙◌, ℕ, ◌+◌, ◌-◌, ◌^◌, ◌<◌, ◌≤◌, ◌==◌, true, false, List, [], ◌∷◌}
use Rattle.std.proofs.Common.{◌++◌, length, replicate, ap, refl, arith, append_assoc}
use Rattle.std.proofs.Common.{length-append, Some, None, nat_le}
use Rattle.std.proofs.lemmas.Bool.{le-leb, lt-ltb, ltb-true}
use Rattle.byteorder.specs.Numbers.{little_number-reads_back}
use Rattle.pe_image.specs.Conditions.{first_fault, number_at}
use Rattle.pe_image.specs.Pe.{header_conditions, sections, somewhere}
use Rattle.pe_image.specs.declared.section.Section.{Section as FileSection}
use Rattle.md_write.specs.declared.section.Section.{Section}
use Rattle.md_write.specs.Contents.{padding, padded}
use Rattle.md_write.specs.Written.{headers, cli_header, metadata_at, section_bytes, file_of, up_to}
use Rattle.md_write.specs.Written.{file_alignment, section_at, is_addressable}
use Rattle.std.proofs.Common.{ne_eqb}
use Rattle.md_write.proofs.Joined.{length-padded}

-- how many bytes the section has, and how many in the file
abbrev pub size_of : Section → ℕ
size_of section = length (section_bytes section)

abbrev pub raw_size : Section → ℕ
raw_size section = up_to file_alignment (size_of section)

pub length-headers : (entry size : ℕ) → length (headers entry size) ≡ 512
unfolding headers
length-headers entry size = refl

pub length-file : (section : Section) → length (file_of section) ≡ 512 + raw_size section
unfolding file_of
length-file section =
    length-append (headers section.entry (size_of section)) (padded file_alignment (section_bytes section))
    ∙ (ap (λ n. n + length (padded file_alignment (section_bytes section)))
    (length-headers section.entry (size_of section))
    ∙ ap (λ n. 512 + n) (length-padded file_alignment (section_bytes section)))

-- the file of a section whose addresses have 32 bits
pub small_file : (section : Section) (file : List ℕ) → is_addressable (size_of section) ≡ true → file ≡ file_of section
    → section_at + length file < 2 ^ 32
small_file section file few same =
    let low : section_at + (file_alignment + raw_size section) < 2 ^ 32 =
    ltb-true (section_at + (file_alignment + raw_size section)) (2 ^ 32) few in
    omega (arith, low, length-file section, ap length same)

-- the section that the headers tell of
abbrev pub section_told : Section → FileSection
section_told section = record { address = 0x2000; size = raw_size section; pointer = 0x200 }

pub sections_read : (section : Section) → raw_size section < 2 ^ 32
    → sections (file_of section) ≡ section_told section ∷ []
unfolding file_of headers
sections_read section few =
    let told : ℕ → List FileSection = λ size. record { address = 0x2000; size = size; pointer = 0x200 } ∷ [] in
    let read : number_at (file_of section) 4 392 ≡ raw_size section =
    little_number-reads_back 4 (raw_size section) [] few in
    ap told read

pub headers_hold : (section : Section) → first_fault (header_conditions (file_of section)) ≡ None
unfolding file_of headers
headers_hold section =
    let long : (k : ℕ) → k ≤ 512 → nat_le k (length (file_of section)) ≡ true =
    λ k h. le-leb k (length (file_of section)) (omega (arith, h, length-file section)) in
    rw (
      long 64 (omega arith),
      long 132 (omega arith),
      long 152 (omega arith),
      long 154 (omega arith),
      long 248 (omega arith),
      long 376 (omega arith),
    ) refl

-- ---- where an address lies

-- the place of an address in the one section
pub place_told : (size rva : ℕ) → 0x2000 ≤ rva → rva < 0x2000 + size
    → somewhere (record { address = 0x2000; size = size; pointer = 0x200 } ∷ []) rva
    ≡ Some (0x200 + (rva - 0x2000), size - (rva - 0x2000))
place_told size rva above below =
    let some : (rva == 0) ≡ false = ne_eqb rva 0 (λ e. absurd (not-zero e)) in
    rw (some, le-leb 0x2000 rva above, lt-ltb rva (0x2000 + size) below) refl
  where
    not-zero : rva ≡ 0 → ⊥
    not-zero e = omega (arith, e, above)

-- ---- the CLI header

abbrev pub metadata_start : Section → ℕ
metadata_start section = 0x200 + (72 + length section.code + length section.«data»)

-- the parts of the section, and the zeros behind them
pub file_parts : (section : Section)
    → file_of section
    ≡ (headers section.entry (size_of section)
    ++ (cli_header (metadata_at section) (length section.metadata) section.entry
    ++ (section.code ++ section.«data»)))
    ++ (section.metadata ++ replicate (padding file_alignment (size_of section)) 0)
unfolding file_of section_bytes
file_parts section = simp append_assoc

pub length-section : (section : Section)
    → size_of section ≡ 72 + length section.code + length section.«data» + length section.metadata
unfolding section_bytes
length-section section =
    omega (
      arith,
      length-append (cli_header (metadata_at section) (length section.metadata) section.entry)
          (section.code ++ (section.«data» ++ section.metadata)),
      length-append section.code (section.«data» ++ section.metadata),
      length-append section.«data» section.metadata,
    )

pub cli_size : (section : Section) → length section.metadata < 2 ^ 32
    → number_at (file_of section) 4 524 ≡ length section.metadata
unfolding file_of headers section_bytes
cli_size section few = little_number-reads_back 4 (length section.metadata) [] few

pub cli_address : (section : Section) → metadata_at section < 2 ^ 32
    → number_at (file_of section) 4 520 ≡ metadata_at section
unfolding file_of headers section_bytes
cli_address section few = little_number-reads_back 4 (metadata_at section) [] few

pub cli_entry : (section : Section) → section.entry < 2 ^ 32 → number_at (file_of section) 4 532 ≡ section.entry
unfolding file_of headers section_bytes
cli_entry section few = little_number-reads_back 4 section.entry [] few

pub cli_flags : (section : Section) → number_at (file_of section) 4 528 ≡ 1
unfolding file_of headers section_bytes
cli_flags section = refl

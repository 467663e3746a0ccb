-- A PE file that holds metadata: ECMA-335 II.24.2.1, II.25.2 and II.25.3.3.
use Rattle.std.specs.Prelude.{ℕ, ◌+◌, ◌*◌, ◌%◌, ◌==◌, ◌||◌, ◌&&◌, Bool, false, nat_eq, nat_le, if◌then◌else◌, List, []}
use Rattle.std.specs.Prelude.{◌∷◌, ◌++◌, length, take, drop, codes, Option, Some, None}
use Rattle.std.specs.List.{starts_with}
use Rattle.pe_image.specs.Conditions.{Condition, number_at, fits}
use Rattle.pe_image.specs.Sections.{sections_at, headers_fit, parts_fit, place_of}
use Rattle.pe_image.specs.Streams.{metadata_conditions, stream}
use Rattle.pe_image.specs.declared.fault.PeFault.TheVariants.{NotPe, NoCliHeader, Cut}
use Rattle.pe_image.specs.declared.section.Section.{Section}

-- ---- the headers (II.25.2)

-- the place of the signature "PE" and two zero bytes; the COFF header stands behind it, and then the optional header
abbrev pub pe_place : List ℕ → ℕ
pe_place file = number_at file 4 0x3C

abbrev pub optional_place : List ℕ → ℕ
optional_place file = pe_place file + 24

-- whether the optional header is that of a file with addresses of 32 bits, or of 64
abbrev pub magic : List ℕ → ℕ
magic file = number_at file 2 (optional_place file)

abbrev pub is_pe32 : List ℕ → Bool
is_pe32 file = magic file == 0x10B

abbrev pub is_pe32_plus : List ℕ → Bool
is_pe32_plus file = magic file == 0x20B

-- the place of the number of directories, which stand behind it, 8 bytes each
abbrev pub directory_count_place : List ℕ → ℕ
directory_count_place file = optional_place file + (if is_pe32 file then 92 else 108)

abbrev pub directory_count : List ℕ → ℕ
directory_count file = number_at file 4 (directory_count_place file)

abbrev pub directories_size : List ℕ → ℕ
directories_size file = (if is_pe32 file then 96 else 112) + 8 * directory_count file

abbrev pub header_conditions : List ℕ → List Condition
header_conditions file =
    (nat_le 64 (length file) && starts_with nat_eq file (0x4D ∷ 0x5A ∷ []), NotPe)
    ∷ (fits file (pe_place file) 4, Cut (pe_place file))
    ∷ (number_at file 4 (pe_place file) == 0x4550, NotPe)
    ∷ (fits file (pe_place file + 4) 20, Cut (pe_place file + 4))
    ∷ (fits file (optional_place file) 2, Cut (optional_place file))
    ∷ (is_pe32 file || is_pe32_plus file, NotPe)
    ∷ (fits file (optional_place file) (if is_pe32 file then 96 else 112), Cut (optional_place file))
    ∷ (fits file (optional_place file) (directories_size file), Cut (optional_place file))
    ∷ []

-- ---- the sections

-- the COFF header has the number of sections at 2, and the size of the optional header at 16
abbrev pub section_count : List ℕ → ℕ
section_count file = number_at file 2 (pe_place file + 6)

abbrev pub sections_place : List ℕ → ℕ
sections_place file = optional_place file + number_at file 2 (pe_place file + 20)

abbrev pub sections : List ℕ → List Section
sections file = sections_at file (section_count file) (sections_place file)

-- ---- the CLI header (II.25.3.3)

-- the place in the file of an address that isn't 0, and how many bytes its section has from there on
abbrev pub somewhere : List Section → ℕ → Option (ℕ × ℕ)
somewhere sections rva = if rva == 0 then None else place_of sections rva

abbrev pub or_nowhere : Option (ℕ × ℕ) → ℕ × ℕ
or_nowhere None = (0, 0)
or_nowhere (Some place) = place

-- directory 14 names the CLI header
abbrev pub cli_rva : List ℕ → ℕ
cli_rva file = number_at file 4 (directory_count_place file + 116)

abbrev pub cli_place : List ℕ → ℕ
cli_place file = (or_nowhere (somewhere (sections file) (cli_rva file))).0

-- the CLI header has the address of the metadata at 8 and its size at 12
abbrev pub metadata_place : List ℕ → ℕ
metadata_place file = (or_nowhere (somewhere (sections file) (number_at file 4 (cli_place file + 8)))).0

abbrev pub metadata_size : List ℕ → ℕ
metadata_size file = number_at file 4 (cli_place file + 12)

-- the metadata lies in its section
abbrev pub metadata_at : ℕ → Option (ℕ × ℕ) → List Condition
metadata_at size None = (false, NoCliHeader) ∷ []
metadata_at size (Some place) = (nat_le size place.1, Cut place.0) ∷ []

-- The CLI header lies in its section; of its flags, which stand at 16, bit 1 says that all code is CIL.
abbrev pub cli_at : List ℕ → Option (ℕ × ℕ) → List Condition
cli_at file None = (false, NoCliHeader) ∷ []
cli_at file (Some place) =
    (nat_le 72 place.1, Cut place.0) ∷ (number_at file 4 (place.0 + 16) % 2 == 1, NoCliHeader)
    ∷ metadata_at (number_at file 4 (place.0 + 12)) (somewhere (sections file) (number_at file 4 (place.0 + 8)))

abbrev pub cli_conditions : List ℕ → List Condition
cli_conditions file =
    (nat_le 15 (directory_count file), NoCliHeader) ∷ cli_at file (somewhere (sections file) (cli_rva file))

-- ---- the whole file

-- the bytes of the metadata
abbrev pub metadata : List ℕ → List ℕ
metadata file = take (metadata_size file) (drop (metadata_place file) file)

-- the conditions on a file, in their order
unfoldable pub conditions : List ℕ → List Condition
conditions file =
    header_conditions file
    ++ (headers_fit file (section_count file) (sections_place file)
    ++ (parts_fit file (sections file)
    ++ (cli_conditions file ++ metadata_conditions (metadata_place file) (metadata file))))

-- What a file holds: the streams of its metadata, its entry token and its sections.
pub record Parts : Type 0 where
  pub tables : List ℕ
  pub strings : List ℕ
  pub user : List ℕ
  pub guid : List ℕ
  pub blob : List ℕ
  pub entry : ℕ
  pub file : List ℕ
  pub sections : List Section

unfoldable pub parts_of : List ℕ → Parts
parts_of file =
    record {
      tables = stream (codes "#~") (metadata file);
      strings = stream (codes "#Strings") (metadata file);
      user = stream (codes "#US") (metadata file);
      guid = stream (codes "#GUID") (metadata file);
      blob = stream (codes "#Blob") (metadata file);
      entry = number_at file 4 (cli_place file + 20);
      file = file;
      sections = sections file;
    }

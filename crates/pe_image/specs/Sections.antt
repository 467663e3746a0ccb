-- Sections of a file, and where an address of the image lies in it: ECMA-335 II.25.3.
use Rattle.std.specs.Prelude.{ℕ, zero, suc, ◌+◌, ◌-◌, ◌*◌, ◌<◌, ◌≤◌, ◌&&◌, Bool, length, nat_le, nat_lt, if◌then◌else◌}
use Rattle.std.specs.Prelude.{List, [], ◌∷◌, map, find, take, drop, All, Option, Some, None}
use Rattle.std.specs.Option.{option_map}
use Rattle.pe_image.specs.Conditions.{Condition, number_at, fits}
use Rattle.pe_image.specs.declared.fault.PeFault.TheVariants.{Cut}
use Rattle.pe_image.specs.declared.section.Section.{Section}

-- the header of a section: VirtualAddress at 12, SizeOfRawData at 16 and PointerToRawData at 20
abbrev pub section_at : List ℕ → ℕ → Section
section_at file at =
    record {
      address = number_at file 4 (at + 12);
      size = number_at file 4 (at + 16);
      pointer = number_at file 4
          (at + 20);
    }

-- so many headers of 40 bytes each, from a place on
abbrev pub sections_at : List ℕ → ℕ → ℕ → List Section
sections_at file zero at = []
sections_at file (suc count) at = section_at file at ∷ sections_at file count (at + 40)

-- the headers are there
abbrev pub IsWhole : List ℕ → ℕ → ℕ → Type 0
IsWhole file count at = 0 < count → at + 40 * count ≤ length file

-- each header is there, as conditions
abbrev pub headers_fit : List ℕ → ℕ → ℕ → List Condition
headers_fit file zero at = []
headers_fit file (suc count) at = (fits file at 40, Cut at) ∷ headers_fit file count (at + 40)

-- and so are the bytes of each section
abbrev pub parts_fit : List ℕ → List Section → List Condition
parts_fit file sections = map (λ s. (fits file s.pointer s.size, Cut s.pointer)) sections

-- the bytes of each section are there
abbrev pub ArePartsWhole : List ℕ → List Section → Type 0
ArePartsWhole file sections = All (λ s. s.pointer + s.size ≤ length file) sections

-- the section has bytes for the address
abbrev pub holds : ℕ → Section → Bool
holds rva s = nat_le s.address rva && nat_lt rva (s.address + s.size)

-- The place in the file of the byte of an address, and how many bytes its section has from there on; none where no
-- section holds the address. The first that holds it counts.
abbrev pub place_in : ℕ → Section → ℕ × ℕ
place_in rva s = (s.pointer + (rva - s.address), s.size - (rva - s.address))

abbrev pub place_of : List Section → ℕ → Option (ℕ × ℕ)
place_of sections rva = option_map (place_in rva) (find (holds rva) sections)

-- the bytes from an address to the end of its section's part of the file
abbrev pub bytes_from : List ℕ → List Section → ℕ → Option (List ℕ)
bytes_from file sections rva = option_map (λ place. take place.1 (drop place.0 file)) (place_of sections rva)

-- The number of the section that holds an address, counted from 0; none where no section does. The first that holds it
-- counts.
abbrev pub section_of : List Section → ℕ → Option ℕ
section_of [] rva = None
section_of (s ∷ rest) rva = if holds rva s then Some 0 else option_map (λ number. number + 1) (section_of rest rva)

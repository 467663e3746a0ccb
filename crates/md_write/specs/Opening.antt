-- What an image that was written holds when it is opened.
use Rattle.std.specs.Prelude.{◌≡◌, ◌+◌, ◌<◌, ◌^◌, ℕ, List, [], ◌∷◌, length, None}
use Rattle.pe_image.specs.Conditions.{first_fault}
use Rattle.pe_image.specs.Pe.{Parts, conditions, parts_of}
use Rattle.pe_image.specs.declared.section.Section.{Section as FileSection}
use Rattle.md_tables.specs.declared.module.Table.{Table}
use Rattle.md_write.specs.Heaps.{heaps_of}
use Rattle.md_write.specs.Stream.{strings_bytes, guids_bytes, blobs_bytes, stream_of}
use Rattle.md_write.specs.Written.{section_at, section_bytes, section_of, up_to, file_alignment, image_of}

-- the section, as its header tells of it: all behind the headers
abbrev pub section_told : ℕ → FileSection
section_told size = record { address = section_at; size = up_to file_alignment size; pointer = file_alignment }

-- the streams, the entry token and the section
abbrev pub parts_with : ℕ → List ℕ → List Table → Parts
parts_with entry user tables =
    record {
      tables = stream_of tables;
      strings = strings_bytes (heaps_of tables);
      user = user;
      guid = guids_bytes (heaps_of tables);
      blob = blobs_bytes (heaps_of tables);
      entry = entry;
      file = image_of entry user tables;
      sections = section_told (length (section_bytes (section_of entry user tables))) ∷ [];
    }

-- each condition on a file holds, and these are its parts
pub record Opens (file : List ℕ) (written : Parts) : Type 0 where
  pub holds : first_fault (conditions file) ≡ None
  pub parts : parts_of file ≡ written

-- An image whose addresses have 32 bits opens, and has the streams that were written, the entry token and the section.
abbrev pub ImagesOpen : Type 0
ImagesOpen =
    (entry : ℕ) (user : List ℕ) (tables : List Table) → entry < 2 ^ 32
    → section_at + length (image_of entry user tables) < 2 ^ 32
    → Opens (image_of entry user tables) (parts_with entry user tables)

-- Where bodies and the bytes of fields stand in an image.
use Rattle.std.proofs.Common.{◌≡◌, ◌∙◌, ℕ, ◌+◌, ◌-◌, ◌<◌, ◌≤◌, true, cond, List, [], ◌∷◌, ◌++◌, length, take}
use Rattle.std.proofs.Common.{drop, replicate, ap, refl, sym, Some, None, option_map, append_assoc}
use Rattle.std.proofs.Common.{length-append, arith, nat_le, nat_lt}
use Rattle.std.proofs.lemmas.Bool.{and_from, le-leb, lt-ltb}
use Rattle.std.proofs.lemmas.List.{take_rest}
use Rattle.pe_image.specs.Sections.{holds, place_in, bytes_from, section_of as section_with}
use Rattle.pe_image.specs.declared.section.Section.{Section as FileSection}
use Rattle.md_write.specs.declared.section.Section.{Section}
use Rattle.md_write.specs.Contents.{padding}
use Rattle.md_write.specs.Written.{headers, cli_header, metadata_at, file_alignment, file_of}
use Rattle.md_write.specs.Opening.{section_told}
use Rattle.md_write.proofs.Opened.{size_of, raw_size, length-headers, length-file, file_parts}
use Rattle.md_write.proofs.Standing.{Stands}

-- ---- parts of the section

-- the headers and the CLI header
abbrev front : Section → List ℕ
front section =
    headers section.entry (size_of section)
    ++ cli_header (metadata_at section) (length section.metadata) section.entry

length-front : (section : Section) → length (front section) ≡ 584
length-front section =
    length-append (headers section.entry (size_of section))
    (cli_header (metadata_at section) (length section.metadata) section.entry)
    ∙ ap (λ n. n + 72) (length-headers section.entry (size_of section))

apart : (a b c d e : List ℕ) → (a ++ (b ++ (c ++ d))) ++ e ≡ (a ++ b) ++ (c ++ (d ++ e))
apart a b c d e = simp append_assoc

-- what stands behind the data
abbrev behind : Section → List ℕ
behind section = section.metadata ++ replicate (padding file_alignment (size_of section)) 0

parts_are : (section : Section)
    → file_of section ≡ front section ++ (section.code ++ (section.«data» ++ behind section))
parts_are section =
    file_parts section
    ∙ apart (headers section.entry (size_of section))
    (cli_header (metadata_at section) (length section.metadata) section.entry) section.code section.«data»
    (behind section)

pub code_stands : (section : Section) → Stands (file_of section) section.code 584
code_stands section =
    record {
      front = front section;
      behind = section.«data» ++ behind section;
      parts = parts_are section;
      starts = length-front section;
    }

pub data_stands : (section : Section) → Stands (file_of section) section.«data» (584 + length section.code)
data_stands section =
    record {
      front = front section ++ section.code;
      behind = behind section;
      parts = parts_are section ∙ sym (append_assoc (front section) section.code (section.«data» ++ behind section));
      starts = length-append (front section) section.code
          ∙ ap (λ n. n + length section.code) (length-front section);
    }

-- ---- the bytes at an address

-- A file of one section, whose parts in the file and in memory begin at these places.
pub record IsImage (file : List ℕ) (sections : List FileSection) : Type 0 where
  pub size : ℕ
  pub one : sections ≡ record { address = 0x2000; size = size; pointer = 0x200 } ∷ []
  pub whole : length file ≡ 0x200 + size

pub is_image : (section : Section) → IsImage (file_of section) (section_told (size_of section) ∷ [])
is_image section = record { size = raw_size section; one = refl; whole = length-file section }

-- the section holds an address
held_by : (size at : ℕ) → 0x2000 ≤ at → at < 0x2000 + size
    → holds at (record { address = 0x2000; size = size; pointer = 0x200 }) ≡ true
held_by size at above below =
    and_from (nat_le 0x2000 at) (nat_lt at (0x2000 + size)) (le-leb 0x2000 at above) (lt-ltb at (0x2000 + size) below)

pub section_there : (file : List ℕ) (sections : List FileSection) (place at : ℕ) → IsImage file sections
    → at ≡ place + 0x1E00 → 0x200 ≤ place → place < length file → section_with sections at ≡ Some 0
section_there file sections place at image here above below =
    let in_it = held_by image.size at (omega (arith, here, above)) (omega (arith, here, below, image.whole)) in
    ap (λ s. section_with s at) image.one
    ∙ ap (λ b. cond b (Some 0) (option_map (λ n. n + 1) (section_with [] at))) in_it

pub bytes_there : (file : List ℕ) (sections : List FileSection) (place at : ℕ) → IsImage file sections
    → at ≡ place + 0x1E00 → 0x200 ≤ place → place < length file → bytes_from file sections at ≡ Some (drop place file)
bytes_there file sections place at image here above below =
    let one : FileSection = record { address = 0x2000; size = image.size; pointer = 0x200 } in
    let in_it = held_by image.size at (omega (arith, here, above)) (omega (arith, here, below, image.whole)) in
    let starts : 0x200 + (at - 0x2000) ≡ place = omega (arith, here, above) in
    let left : image.size - (at - 0x2000) ≡ length file - place = omega (arith, here, above, below, image.whole) in
    ap (λ s. bytes_from file s at) image.one
    ∙ (ap (λ b. option_map (λ (place : ℕ × ℕ). take place.1 (drop place.0 file))
    (option_map (place_in at) (cond b (Some one) None))) in_it
    ∙ (ap (λ n. Some (take (image.size - (at - 0x2000)) (drop n file))) starts
    ∙ (ap (λ n. Some (take n (drop place file))) left ∙ ap Some (take_rest file place))))

-- no section holds address 0
pub nowhere : (file : List ℕ) (sections : List FileSection) → IsImage file sections → section_with sections 0 ≡ None
nowhere file sections image = ap (λ s. section_with s 0) image.one

-- An image that was written opens.
use Rattle.std.proofs.Common.{◌≡◌, ◌∙◌, ℕ, ◌+◌, ◌-◌, ◌^◌, ◌<◌, ◌≤◌, List, [], ◌∷◌, ◌++◌, length, take, drop, replicate}
use Rattle.std.proofs.Common.{nat_le, true, Some, None, ap, refl, sym, arith, length-append, le-leb}
use Rattle.std.specs.Prelude.{codes}
use Rattle.pe_image.specs.Conditions.{first_fault, number_at}
use Rattle.pe_image.specs.Sections.{headers_fit, parts_fit}
use Rattle.pe_image.specs.Pe.{header_conditions, sections, section_count, sections_place, somewhere, cli_rva, cli_place}
use Rattle.pe_image.specs.Pe.{cli_conditions, metadata_place, metadata_size, metadata, directory_count}
use Rattle.pe_image.specs.Pe.{or_nowhere, conditions, parts_of}
use Rattle.pe_image.specs.Streams.{metadata_conditions, stream}
use Rattle.md_write.specs.declared.metadata.Streams.{Streams}
use Rattle.md_write.specs.declared.section.Section.{Section}
use Rattle.md_write.specs.Contents.{padding}
use Rattle.md_write.specs.Heaps.{heaps_of}
use Rattle.md_write.specs.Written.{headers, cli_header, metadata_at, metadata_of, file_of, file_alignment, section_of}
use Rattle.md_write.specs.Written.{streams_with, image_of, blobs_place}
use Rattle.md_write.specs.Opening.{section_told, ImagesOpen}
use Rattle.md_write.proofs.Joined.{none_in, part_behind}
use Rattle.md_write.proofs.Opened.{size_of, raw_size, length-headers, length-file, sections_read, headers_hold}
use Rattle.md_write.proofs.Opened.{place_told, file_parts, length-section, cli_size, cli_address, cli_entry, cli_flags}
use Rattle.md_write.proofs.Streamed.{length-metadata, metadata_holds, named, tables_read, strings_read, user_read}
use Rattle.md_write.proofs.Streamed.{guids_read, blobs_read}

one_section : (section : Section) → section_count (file_of section) ≡ 1
unfolding file_of headers
one_section section = refl

at_sections : (section : Section) → sections_place (file_of section) ≡ 376
unfolding file_of headers
at_sections section = refl

sixteen : (section : Section) → directory_count (file_of section) ≡ 16
unfolding file_of headers
sixteen section = refl

at_cli : (section : Section) → cli_rva (file_of section) ≡ 0x2000
unfolding file_of headers
at_cli section = refl

-- what is known of a section whose file has few bytes
record Few (section : Section) : Type 0 where
  pub raw : raw_size section < 2 ^ 32
  pub metadata_fits : length section.metadata < 2 ^ 32
  pub address_fits : metadata_at section < 2 ^ 32
  pub some : 0 < length section.metadata
  pub within : 72 + (length section.code + (length section.«data» + length section.metadata)) ≤ raw_size section

few_of : (section : Section) → 0x2000 + length (file_of section) < 2 ^ 32 → 0 < length section.metadata
    → Few section
few_of section fits some =
    let whole = length-file section in
    let parts = length-section section in
    let raw : 0x2200 + raw_size section < 2 ^ 32 = omega (arith, whole, fits) in
    let within : 72 + (length section.code + (length section.«data» + length section.metadata)) ≤ raw_size section =
    omega (arith, parts) in
    record {
      raw = omega (arith, raw);
      metadata_fits = omega (arith, raw, within);
      address_fits = omega (arith, raw, within);
      some = some;
      within = within;
    }

headers_there : (section : Section)
    → first_fault (headers_fit (file_of section) (section_count (file_of section)) (sections_place (file_of section)))
    ≡ None
headers_there section =
    let file : List ℕ = file_of section in
    let long : nat_le 416 (length file) ≡ true = le-leb 416 (length file) (omega (arith, length-file section)) in
    ap (λ n. first_fault (headers_fit file n (sections_place file))) (one_section section)
    ∙ (ap (λ at. first_fault (headers_fit file 1 at)) (at_sections section) ∙ rw long refl)

parts_there : (section : Section) → Few section
    → first_fault (parts_fit (file_of section) (sections (file_of section))) ≡ None
parts_there section few =
    let file : List ℕ = file_of section in
    let long : nat_le (0x200 + raw_size section) (length file) ≡ true =
    le-leb (0x200 + raw_size section) (length file) (omega (arith, length-file section)) in
    ap (λ s. first_fault (parts_fit file s)) (sections_read section few.raw) ∙ rw long refl

-- where the CLI header and the metadata lie
cli_there : (section : Section) → Few section
    → somewhere (sections (file_of section)) (cli_rva (file_of section)) ≡ Some (0x200, raw_size section - 0)
cli_there section few =
    let file : List ℕ = file_of section in
    ap (λ s. somewhere s (cli_rva file)) (sections_read section few.raw)
    ∙ (ap (somewhere (section_told (size_of section) ∷ [])) (at_cli section)
    ∙ place_told (raw_size section) 0x2000 (omega arith) (omega (arith, few.within)))

metadata_there : (section : Section) → Few section
    → somewhere (sections (file_of section)) (number_at (file_of section) 4 520)
    ≡ Some (0x200 + (metadata_at section - 0x2000), raw_size section - (metadata_at section - 0x2000))
metadata_there section few =
    let file : List ℕ = file_of section in
    ap (λ s. somewhere s (number_at file 4 520)) (sections_read section few.raw)
    ∙ (ap (somewhere (section_told (size_of section) ∷ [])) (cli_address section few.address_fits)
    ∙ place_told (raw_size section) (metadata_at section) (omega arith) (omega (arith, few.within, few.some)))

cli_holds : (section : Section) → Few section → first_fault (cli_conditions (file_of section)) ≡ None
cli_holds section few = rw (
  sixteen section,
  cli_there section few,
  cli_flags section,
  metadata_there section few,
  cli_size section few.metadata_fits,
  le-leb 72 (raw_size section - 0) (omega (arith, few.within)),
  le-leb (length section.metadata) (raw_size section - (metadata_at section - 0x2000)) (omega (arith, few.within)),
) refl

-- the headers and the section's parts in front of the metadata
abbrev front : Section → List ℕ
front section =
    headers section.entry (size_of section)
    ++ (cli_header (metadata_at section) (length section.metadata) section.entry ++ (section.code ++ section.«data»))

length-front : (section : Section)
    → length (front section) ≡ 512 + (72 + (length section.code + length section.«data»))
length-front section =
    length-append (headers section.entry (size_of section))
    (cli_header (metadata_at section) (length section.metadata) section.entry ++ (section.code ++ section.«data»))
    ∙ (ap (λ n. n + length (cli_header (metadata_at section) (length section.metadata) section.entry
    ++ (section.code ++ section.«data»))) (length-headers section.entry (size_of section))
    ∙ ap (λ n. 512 + n)
    (length-append (cli_header (metadata_at section) (length section.metadata) section.entry)
    (section.code ++ section.«data»)
    ∙ ap (λ n. 72 + n) (length-append section.code section.«data»)))

at_200 : (section : Section) → Few section → cli_place (file_of section) ≡ 0x200
at_200 section few = ap (λ p. (or_nowhere p).0) (cli_there section few)

size_is : (section : Section) → Few section → metadata_size (file_of section) ≡ length section.metadata
size_is section few =
    ap (λ at. number_at (file_of section) 4 (at + 12)) (at_200 section few) ∙ cli_size section few.metadata_fits

place_is : (section : Section) → Few section → metadata_place (file_of section) ≡ length (front section)
place_is section few =
    ap (λ at. (or_nowhere (somewhere (sections (file_of section)) (number_at (file_of section) 4 (at + 8)))).0)
    (at_200 section few)
    ∙ (ap (λ p. (or_nowhere p).0) (metadata_there section few)
    ∙ (let same : 0x200 + (metadata_at section - 0x2000) ≡ 512 + (72 + (length section.code + length section.«data»)) =
    omega arith in
    same ∙ sym (length-front section)))

-- the metadata is that of the section
metadata_is : (section : Section) → Few section → metadata (file_of section) ≡ section.metadata
metadata_is section few =
    ap (λ file. take (metadata_size (file_of section)) (drop (metadata_place (file_of section)) file))
    (file_parts section)
    ∙ part_behind (front section) section.metadata (replicate (padding file_alignment (size_of section)) 0)
    (metadata_place (file_of section)) (metadata_size (file_of section)) (place_is section few)
    (size_is section few)

all_hold : (section : Section) (streams : Streams) → Few section → section.metadata ≡ metadata_of streams
    → blobs_place streams + length streams.blobs < 2 ^ 32 → first_fault (conditions (file_of section)) ≡ None
unfolding conditions
all_hold section streams few is fits =
    let file : List ℕ = file_of section in
    none_in (header_conditions file)
    (headers_fit file (section_count file) (sections_place file)
    ++ (parts_fit file (sections file)
    ++ (cli_conditions file ++ metadata_conditions (metadata_place file) (metadata file)))) (headers_hold section)
    (none_in (headers_fit file (section_count file) (sections_place file))
    (parts_fit file (sections file)
    ++ (cli_conditions file ++ metadata_conditions (metadata_place file) (metadata file))) (headers_there section)
    (none_in (parts_fit file (sections file))
    (cli_conditions file ++ metadata_conditions (metadata_place file) (metadata file)) (parts_there section few)
    (none_in (cli_conditions file) (metadata_conditions (metadata_place file) (metadata file)) (cli_holds section few)
    (ap (λ root. first_fault (metadata_conditions (metadata_place file) root)) (metadata_is section few ∙ is)
    ∙ metadata_holds streams (metadata_place file) fits))))

stream_is : (section : Section) (streams : Streams) (name part : List ℕ) → Few section
    → section.metadata ≡ metadata_of streams → stream name (metadata_of streams) ≡ part
    → stream name (metadata (file_of section)) ≡ part
stream_is section streams name part few is h = ap (stream name) (metadata_is section few ∙ is) ∙ h

pub images_open : ImagesOpen
unfolding image_of parts_of
images_open entry user tables entry_fits fits =
    let section : Section = section_of entry user tables in
    let streams : Streams = streams_with (heaps_of tables) user tables in
    let few : Few section = few_of section fits (omega (arith, length-metadata streams)) in
    let small : blobs_place streams + length streams.blobs < 2 ^ 32 =
    omega (arith, length-metadata streams, few.metadata_fits) in
    let tables_are = stream_is section streams (codes "#~") streams.tables few refl
    (named streams (codes "#~") small ∙ tables_read streams) in
    let strings_are = stream_is section streams (codes "#Strings") streams.strings few refl
    (named streams (codes "#Strings") small ∙ strings_read streams) in
    let user_is = stream_is section streams (codes "#US") user few refl
    (named streams (codes "#US") small ∙ user_read streams) in
    let guids_are = stream_is section streams (codes "#GUID") streams.guids few refl
    (named streams (codes "#GUID") small ∙ guids_read streams) in
    let blobs_are = stream_is section streams (codes "#Blob") streams.blobs few refl
    (named streams (codes "#Blob") small ∙ blobs_read streams) in
    let entry_is : number_at (file_of section) 4 (cli_place (file_of section) + 20) ≡ entry =
    ap (λ at. number_at (file_of section) 4 (at + 20)) (at_200 section few) ∙ cli_entry section entry_fits in
    record {
      holds = all_hold section streams few refl small;
      parts = λ j. record {
        tables = tables_are j;
        strings = strings_are j;
        user = user_is j;
        guid = guids_are j;
        blob = blobs_are j;
        entry = entry_is j;
        file = file_of section;
        sections = sections_read section few.raw j;
      };
    }

-- An image that was written is read as a module that agrees with the one that was written.
use Rattle.std.proofs.Common.{◌≡◌, ◌∙◌, ℕ, ◌+◌, ◌^◌, ◌<◌, List, length, true, None, Ok, ap, refl}
use Rattle.std.proofs.Common.{arith}
use Rattle.pe_image.specs.Pe.{Parts}
use Rattle.md_rows.specs.Tables.{tables as schemas}
use Rattle.md_rows.specs.Cells.{StreamBytes}
use Rattle.md_rows.specs.Reading.{reading}
use Rattle.md_tables.specs.declared.module.Table.{Table}
use Rattle.md_tables.specs.Modules.{is_module}
use Rattle.md_tables.specs.Finished.{streams_of, finished, module_of}
use Rattle.md_write.specs.declared.metadata.Streams.{Streams}
use Rattle.md_write.specs.declared.section.Section.{Section}
use Rattle.md_write.specs.Heaps.{heaps_of, are_short}
use Rattle.md_write.specs.Written.{section_at, section_of, streams_with, file_of, image_of, section_bytes}
use Rattle.md_write.specs.Written.{first_too_many}
use Rattle.md_write.specs.Opening.{parts_with, Opens}
use Rattle.md_write.specs.Agreeing.{ReadsBack}
use Rattle.md_write.proofs.Opened.{length-file, length-section}
use Rattle.md_write.proofs.Streamed.{length-metadata}
use Rattle.md_write.proofs.Opening.{images_open}
use Rattle.md_write.proofs.Numbers.{IsSmall}
use Rattle.md_write.proofs.Present.{matches_of}
use Rattle.md_write.proofs.StreamRead.{counts_are, streams_read}
use Rattle.md_write.proofs.RowTables.{read_tables}
use Rattle.md_write.proofs.Heaped.{SpellingsRead}
use Rattle.md_write.proofs.Held.{tables_held}
use Rattle.md_write.proofs.Celled.{HasHeaps, heaps_read}
use Rattle.md_write.proofs.Numbered.{numbers_read}
use Rattle.md_write.proofs.Placed.{IsImage, is_image}
use Rattle.md_write.proofs.FinishedRead.{Finished, finished_read}

-- heaps and addresses are small where the image is
small_of : (entry : ℕ) (user : List ℕ) (tables : List Table)
    → section_at + length (image_of entry user tables) < 2 ^ 32 → IsSmall tables
unfolding image_of
small_of entry user tables fits =
    let section : Section = section_of entry user tables in
    let streams : Streams = streams_with (heaps_of tables) user tables in
    let file_fits : section_at + length (file_of section) < 2 ^ 32 = fits in
    let whole = length-file section in
    let parts = length-section section in
    let metadata = length-metadata streams in
    let few : section_at + (0x200 + length (section_bytes section)) < 2 ^ 32 = omega (arith, whole, file_fits) in
    record {
      strings = omega (arith, few, parts, metadata);
      guids = omega (arith, few, parts, metadata);
      blobs = omega (arith, few, parts, metadata);
      addresses = omega (arith, few, parts, metadata);
    }

image_is : (entry : ℕ) (user : List ℕ) (tables : List Table)
    → IsImage (parts_with entry user tables).file (parts_with entry user tables).sections
unfolding image_of
image_is entry user tables = is_image (section_of entry user tables)

-- the rows of the streams
rows_are : (entry : ℕ) (user : List ℕ) (tables : List Table) → is_module tables ≡ true → first_too_many tables ≡ None
    → are_short tables ≡ true → IsSmall tables → SpellingsRead
    → reading (streams_of (parts_with entry user tables)) ≡ Ok (read_tables tables schemas)
rows_are entry user tables fit few short small spellings =
    let bytes : StreamBytes = streams_of (parts_with entry user tables) in
    let has : HasHeaps bytes (heaps_of tables) = record { strings = refl; guid = refl; blob = refl } in
    streams_read tables bytes fit few small refl
    ∙ numbers_read bytes tables (heaps_read tables bytes fit spellings has) (λ number. counts_are tables number fit)
    schemas tables (matches_of tables fit) short (tables_held tables)

pub reads_back : (entry : ℕ) (user : List ℕ) (tables : List Table) → entry < 2 ^ 32
    → section_at + length (image_of entry user tables) < 2 ^ 32 → is_module tables ≡ true
    → first_too_many tables ≡ None → are_short tables ≡ true → SpellingsRead
    → ReadsBack (image_of entry user tables) (record { entry = entry; user = user; tables = tables })
unfolding module_of
reads_back entry user tables token fits fit few short spellings =
    let image : Parts = parts_with entry user tables in
    let opens : Opens (image_of entry user tables) image = images_open entry user tables token fits in
    let small : IsSmall tables = small_of entry user tables fits in
    let rows = rows_are entry user tables fit few short small spellings in
    let done : Finished entry user tables = finished_read entry user tables fit (image_is entry user tables) in
    record {
      opens = opens.holds;
      read = done.read;
      is_read = ap module_of opens.parts ∙ (ap (finished image) rows ∙ done.is);
      agrees = done.agrees;
    }

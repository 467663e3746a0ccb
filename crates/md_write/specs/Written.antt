-- The file of a module: ECMA-335 II.24.2.1, II.24.2.2 and II.25.
use Rattle.std.specs.Prelude.{ℕ, ◌+◌, ◌^◌, ◌==◌, Bool, nat_le, nat_lt, List, [], ◌∷◌, ◌++◌, length, replicate, codes}
use Rattle.std.specs.Prelude.{find, Option, if◌then◌else◌}
use Rattle.std.specs.Option.{option_map}
use Rattle.byteorder.specs.Endian.{little_bytes}
use Rattle.md_tables.specs.declared.module.Table.{Table}
use Rattle.md_write.specs.declared.heaps.Heaps.{Heaps}
use Rattle.md_write.specs.declared.metadata.Streams.{Streams}
use Rattle.md_write.specs.declared.section.Section.{Section}
use Rattle.md_write.specs.Heaps.{heaps_of}
use Rattle.md_write.specs.Contents.{padding, padded, code_of, data_of}
use Rattle.md_write.specs.Stream.{strings_bytes, guids_bytes, blobs_bytes, stream_of}

-- fields of two and four bytes, one behind another
abbrev pub halves : List ℕ → List ℕ
halves [] = []
halves (number ∷ rest) = little_bytes 2 number ++ halves rest

abbrev pub words : List ℕ → List ℕ
words [] = []
words (number ∷ rest) = little_bytes 4 number ++ words rest

-- ---- the metadata

-- the signature, the version 1.1, and the version of the runtime that compilers of today name, in 12 bytes
abbrev pub version : List ℕ
version = codes "v4.0.30319" ++ (0 ∷ 0 ∷ [])

abbrev pub root_header : List ℕ
root_header =
    words (0x424A5342 ∷ []) ++ (halves (1 ∷ 1 ∷ []) ++ (words (0 ∷ 12 ∷ []) ++ (version ++ halves (0 ∷ 5 ∷ []))))

-- the header of a stream: its place, its size, and its name with zeros behind it, up to a multiple of 4
abbrev pub stream_header : ℕ → ℕ → List ℕ → List ℕ
stream_header place size name = words (place ∷ size ∷ []) ++ padded 4 (name ++ 0 ∷ [])

-- the size of the root with the headers of its five streams
abbrev pub root_size : ℕ
root_size = 108

-- the places of the streams: each begins where the one in front of it ends, at a multiple of 4
abbrev pub strings_place : Streams → ℕ
strings_place streams = root_size + length streams.tables

abbrev pub user_place : Streams → ℕ
user_place streams = strings_place streams + length streams.strings

abbrev pub guids_place : Streams → ℕ
guids_place streams = user_place streams + length (padded 4 streams.user)

abbrev pub blobs_place : Streams → ℕ
blobs_place streams = guids_place streams + length streams.guids

abbrev pub stream_headers : Streams → List ℕ
stream_headers streams =
    stream_header root_size (length streams.tables) (codes "#~")
    ++ (stream_header (strings_place streams) (length streams.strings) (codes "#Strings")
    ++ (stream_header (user_place streams) (length streams.user) (codes "#US")
    ++ (stream_header (guids_place streams) (length streams.guids) (codes "#GUID")
    ++ stream_header (blobs_place streams) (length streams.blobs) (codes "#Blob"))))

abbrev pub stream_bytes : Streams → List ℕ
stream_bytes streams =
    streams.tables ++ (streams.strings ++ (padded 4 streams.user ++ (streams.guids ++ streams.blobs)))

unfoldable pub metadata_of : Streams → List ℕ
metadata_of streams = root_header ++ (stream_headers streams ++ stream_bytes streams)

-- ---- the section: the CLI header, bodies, the bytes of fields, and the metadata

-- the address of the section
abbrev pub section_at : ℕ
section_at = 0x2000

-- Its size, the version 2.5 of the runtime, the metadata, the flag that all code is CIL, and the entry token. The other
-- directories are empty.
abbrev pub cli_header : ℕ → ℕ → ℕ → List ℕ
cli_header metadata_at size entry =
    words (72 ∷ []) ++ (halves (2 ∷ 5 ∷ []) ++ (words (metadata_at ∷ size ∷ 1 ∷ entry ∷ []) ++ replicate 48 0))

abbrev pub metadata_at : Section → ℕ
metadata_at section = section_at + 72 + length section.code + length section.«data»

unfoldable pub section_bytes : Section → List ℕ
section_bytes section =
    cli_header (metadata_at section) (length section.metadata) section.entry
    ++ (section.code ++ (section.«data» ++ section.metadata))

-- ---- the headers (II.25.2)

-- the program for MS-DOS that the standard puts in front, with the place of the signature behind it, 0x80, in its
-- header
abbrev pub dos_header : List ℕ
dos_header =
    0x4D ∷ 0x5A ∷ 0x90 ∷ 0 ∷ 3 ∷ 0 ∷ 0 ∷ 0 ∷ 4 ∷ 0 ∷ 0 ∷ 0 ∷ 0xFF ∷ 0xFF ∷ 0 ∷ 0
    ∷ 0xB8 ∷ 0 ∷ 0 ∷ 0 ∷ 0 ∷ 0 ∷ 0 ∷ 0 ∷ 0x40 ∷ 0 ∷ 0 ∷ 0 ∷ 0 ∷ 0 ∷ 0 ∷ 0
    ∷ 0 ∷ 0 ∷ 0 ∷ 0 ∷ 0 ∷ 0 ∷ 0 ∷ 0 ∷ 0 ∷ 0 ∷ 0 ∷ 0 ∷ 0 ∷ 0 ∷ 0 ∷ 0
    ∷ 0 ∷ 0 ∷ 0 ∷ 0 ∷ 0 ∷ 0 ∷ 0 ∷ 0 ∷ 0 ∷ 0 ∷ 0 ∷ 0 ∷ 0x80 ∷ 0 ∷ 0 ∷ 0
    ∷ 0x0E ∷ 0x1F ∷ 0xBA ∷ 0x0E ∷ 0 ∷ 0xB4 ∷ 0x09 ∷ 0xCD ∷ 0x21 ∷ 0xB8 ∷ 0x01 ∷ 0x4C ∷ 0xCD ∷ 0x21 ∷ []

abbrev pub dos_message : List ℕ
dos_message = codes "This program cannot be run in DOS mode." ++ (0x0D ∷ 0x0D ∷ 0x0A ∷ 0x24 ∷ replicate 7 0)

-- PE and two zeros, the machine i386, one section, no time, no symbols, the size of the optional header, and the flags:
-- executable, and a library where there is no entry token
abbrev pub coff_header : ℕ → List ℕ
coff_header entry =
    words (0x4550 ∷ []) ++ (halves (0x14C ∷ 1 ∷ []) ++ (words (0 ∷ 0 ∷ 0 ∷ [])
    ++ halves (224 ∷ (if entry == 0 then 0x2002 else 0x0002) ∷ [])))

-- sizes in the file and in memory are multiples of these
abbrev pub file_alignment : ℕ
file_alignment = 0x200

abbrev pub section_alignment : ℕ
section_alignment = 0x2000

abbrev pub up_to : ℕ → ℕ → ℕ
up_to multiple size = size + padding multiple size

-- the addresses of a file whose section has so many bytes have 32 bits
abbrev pub is_addressable : ℕ → Bool
is_addressable size = nat_lt (section_at + (file_alignment + up_to file_alignment size)) (2 ^ 32)

-- Of a section of so many bytes: PE32, linked by 6.0, the size of the code and of data, no entry point in machine code,
-- and the address of the code. A loader of today needs no import table and no stub.
abbrev pub standard_fields : ℕ → List ℕ
standard_fields size =
    halves (0x10B ∷ 6 ∷ [])
    ++ words (up_to file_alignment size ∷ 0 ∷ 0 ∷ 0 ∷ section_at ∷ 0 ∷ [])

-- The base, the alignments, the version 5.0 of the system and of the subsystem, the sizes of the image and of the
-- headers, no checksum, the subsystem of programs for a console, no flags, the sizes of stack and heap, and the number
-- of directories.
abbrev pub system_fields : ℕ → List ℕ
system_fields size =
    words (0x400000 ∷ section_alignment ∷ file_alignment ∷ [])
    ++ (halves (5 ∷ 0 ∷ 0 ∷ 0 ∷ 5 ∷ 0 ∷ [])
    ++ (words (0 ∷ (section_at + up_to section_alignment size) ∷ file_alignment ∷ 0 ∷ [])
    ++ (halves (3 ∷ 0 ∷ [])
    ++ words (0x100000 ∷ 0x1000 ∷ 0x100000 ∷ 0x1000 ∷ 0 ∷ 16 ∷ []))))

-- sixteen directories, of which directory 14 alone names something: the CLI header at the front of the section
abbrev pub directories : List ℕ
directories = replicate 112 0 ++ (words (section_at ∷ 72 ∷ []) ++ replicate 8 0)

-- The name, the sizes in memory and in the file with the address and the place, no relocations and line numbers, and
-- the flags: code, which may be read and executed.
abbrev pub section_header : ℕ → List ℕ
section_header size =
    codes ".text" ++ (replicate 3 0
    ++ words (size ∷ section_at ∷ up_to file_alignment size ∷ file_alignment ∷ 0 ∷ 0 ∷ 0 ∷ 0x60000020 ∷ []))

-- the headers in front of a section of so many bytes, up to the place of the section
unfoldable pub headers : ℕ → ℕ → List ℕ
headers entry size =
    dos_header ++ (dos_message ++ (coff_header entry ++ (standard_fields size
    ++ (system_fields size ++ (directories ++ (section_header size ++ replicate 96 0))))))

-- ---- the file

unfoldable pub file_of : Section → List ℕ
file_of section =
    headers section.entry (length (section_bytes section)) ++ padded file_alignment (section_bytes section)

abbrev pub streams_with : Heaps → List ℕ → List Table → Streams
streams_with heaps user tables =
    record {
      tables = stream_of tables;
      strings = strings_bytes heaps;
      user = user;
      guids = guids_bytes heaps;
      blobs = blobs_bytes heaps;
    }

abbrev pub section_of : ℕ → List ℕ → List Table → Section
section_of entry user tables =
    record {
      entry = entry;
      code = code_of tables;
      «data» = data_of tables;
      metadata = metadata_of (streams_with (heaps_of tables) user tables);
    }

-- the file of a module: its entry token, its heap of user strings, and its tables
unfoldable pub image_of : ℕ → List ℕ → List Table → List ℕ
image_of entry user tables = file_of (section_of entry user tables)

-- ---- tables with too many rows

abbrev pub has_too_many : Table → Bool
has_too_many table = nat_le (2 ^ 24) (length table.rows)

-- the number of the first table that has 2 ^ 24 rows or more
abbrev pub first_too_many : List Table → Option ℕ
first_too_many tables = option_map (λ table. table.number) (find has_too_many tables)

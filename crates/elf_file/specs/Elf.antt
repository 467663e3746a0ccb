-- Executable files of ELF64: System V gABI, chapter "Object Files", sections "ELF Header" and "Program Header".
use Rattle.std.specs.Prelude.{◌≡◌, ℕ, zero, suc, ◌+◌, ◌-◌, ◌*◌, ◌/◌, ◌%◌, ◌^◌, Bool, true, false, ◌&&◌, not, ◌==◌}
use Rattle.std.specs.Prelude.{nat_eq, nat_le, nat_lt, if◌then◌else◌, List, [], ◌∷◌, ◌++◌, length, take, drop, replicate}
use Rattle.std.specs.Prelude.{min, max, Result, Ok, Err}
use Rattle.std.specs.List.{list_any, starts_with}
use Rattle.byteorder.specs.Endian.{little_number, little_bytes}
use Rattle.rv_step.specs.Machine.{MachineState}
use Rattle.rv_step.specs.declared.segment.Segment.{Segment}
use Rattle.elf_file.specs.declared.fault.ElfFault.{ElfFault}
use Rattle.elf_file.specs.declared.fault.ElfFault.TheVariants.{BadElf, Memory}
use Rattle.elf_file.specs.declared.header.ProgramHeader.{ProgramHeader}
use Rattle.elf_file.specs.declared.layout.ElfLayout.{ElfLayout}

-- goes on with the value, if there is one
abbrev pub and_then : {A B E : Type 0} → (A → Result B E) → Result A E → Result B E
and_then f (Ok x) = f x
and_then f (Err e) = Err e

-- the number in the n bytes at an offset, the lowest first
abbrev pub number_at : List ℕ → ℕ → ℕ → ℕ
number_at file n offset = little_number n (drop offset file)

-- the front of e_ident: 0x7F and "ELF", 64 bits (ELFCLASS64), the lowest byte first (ELFDATA2LSB), version 1
abbrev pub identification : List ℕ
identification = 0x7F ∷ 0x45 ∷ 0x4C ∷ 0x46 ∷ 2 ∷ 1 ∷ 1 ∷ []

-- The header is whole, and says that this is an executable (e_type is ET_EXEC) for RISC-V (e_machine is EM_RISCV)
-- of version 1, with headers of this format's sizes and no more than 16 program headers.
abbrev pub has_elf_header : List ℕ → Bool
has_elf_header file =
    nat_le 64 (length file) && starts_with nat_eq file identification
    && number_at file 2 16 == 2 && number_at file 2 18 == 243 && number_at file 4 20 == 1
    && number_at file 2 52 == 64 && number_at file 2 54 == 56 && nat_le (number_at file 2 56) 16

-- the fields of the program header at a place
abbrev pub program_header : List ℕ → ℕ → ProgramHeader
program_header file place =
    record {
      kind = number_at file 4 place;
      flags = number_at file 4 (place + 4);
      offset = number_at file 8 (place + 8);
      address = number_at file 8 (place + 16);
      file_size = number_at file 8 (place + 32);
      memory_size = number_at file 8 (place + 40);
    }

-- the memory that a header asks for: its part of the file, and then zeros
abbrev pub segment_of : List ℕ → ProgramHeader → Segment
segment_of file h =
    record {
      at = h.address;
      bytes = take h.file_size (drop h.offset file) ++ replicate (h.memory_size - h.file_size) 0;
      read = h.flags / 4 % 2 == 1;
      write = h.flags / 2 % 2 == 1;
      execute = h.flags % 2 == 1;
    }

-- one of `size` addresses from an address on is that of a byte of the segment
abbrev pub overlaps : ℕ → ℕ → Segment → Bool
overlaps address size s = nat_lt (max address s.at) (min (address + size) (s.at + length s.bytes))

-- The header's part of the file is there, its size in memory is no less and at most 512 MiB, its addresses
-- don't wrap, and no segment before it has one of them.
abbrev pub can_load : List ℕ → List Segment → ProgramHeader → Bool
can_load file earlier h =
    nat_le (h.offset + h.file_size) (length file) && nat_le h.file_size h.memory_size
    && nat_le h.memory_size 536870912 && nat_le (h.address + h.memory_size) (2 ^ 64)
    && not (list_any (overlaps h.address h.memory_size) earlier)

-- The segments with that of the program header at a place behind them, or the place where the header is cut or
-- can't be loaded. A header that is not of type PT_LOAD, which is 1, adds none.
abbrev pub with_header : List ℕ → ℕ → List Segment → Result (List Segment) ℕ
with_header file place earlier =
    let h = program_header file place in
    if nat_lt (length file) (place + 56) then Err place
    else if not (h.kind == 1) then Ok earlier
    else if can_load file earlier h then Ok (earlier ++ segment_of file h ∷ [])
    else Err place

-- The segments with those of `count` program headers from a place on behind them, or the first place at which
-- there is a fault.
abbrev pub with_headers : List ℕ → ℕ → ℕ → List Segment → Result (List Segment) ℕ
with_headers file zero place earlier = Ok earlier
with_headers file (suc count) place earlier =
    and_then (with_headers file count (place + 56)) (with_header file place earlier)

-- the machine at the entry, with all registers 0
abbrev pub machine_at : ℕ → List Segment → MachineState
machine_at entry segments = record { pc = entry; registers = replicate 32 0; segments = segments }

-- The machine that a file loads, or the place of the header at which it doesn't: e_entry is at 24, e_phoff at 32
-- and e_phnum at 56. No other field is looked at: sections, p_paddr and p_align change nothing of what is loaded,
-- since parts are copied to their addresses and not mapped by pages.
abbrev pub loaded : List ℕ → Result MachineState ℕ
loaded file =
    if has_elf_header file
    then and_then (λ segments. Ok (machine_at (number_at file 8 24) segments))
    (with_headers file (number_at file 2 56) (number_at file 8 32) [])
    else Err 0

-- A call's result is what reading gives, unless memory ran out.
abbrev pub Gives : {X : Type 0} → Result X ElfFault → Result X ℕ → Type 0
Gives (Ok x) reading = reading ≡ Ok x
Gives (Err (BadElf place)) reading = reading ≡ Err place
Gives (Err Memory) reading = Unit {0}

-- ---- the file of a program

-- the address of the first byte of the file
abbrev pub base : ℕ
base = 0x10000

-- the ELF header and two program headers
abbrev pub headers_size : ℕ
headers_size = 176

abbrev pub up_to_page : ℕ → ℕ
up_to_page n = (n + 4095) / 4096 * 4096

-- fields of 2, 4 and 8 bytes
abbrev pub half : ℕ → List ℕ
half n = little_bytes 2 n

abbrev pub word : ℕ → List ℕ
word n = little_bytes 4 n

abbrev pub xword : ℕ → List ℕ
xword n = little_bytes 8 n

-- e_ident, e_type, e_machine, e_version, e_entry, e_phoff, e_shoff, e_flags, e_ehsize, e_phentsize, e_phnum,
-- e_shentsize, e_shnum, e_shstrndx
unfoldable pub elf_header : ℕ → List ℕ
elf_header entry =
    identification ++ replicate 9 0 ++ half 2 ++ half 243 ++ word 1 ++ xword entry ++ xword 64 ++ xword 0 ++ word 0
    ++ half 64 ++ half 56 ++ half 2 ++ half 0 ++ half 0 ++ half 0

-- p_type, p_flags, p_offset, p_vaddr, p_paddr, p_filesz, p_memsz, p_align
unfoldable pub load_header : ℕ → ℕ → ℕ → ℕ → List ℕ
load_header flags offset file_size memory_size =
    word 1 ++ word flags ++ xword offset ++ xword (base + offset) ++ xword (base + offset)
    ++ xword file_size ++ xword memory_size ++ xword 4096

-- the size of the first segment: the headers and the text
abbrev pub text_size : ElfLayout → ℕ
text_size layout = headers_size + length layout.text

-- Flags are 4 for read, 2 for write and 1 for execute: the first segment may be read and executed, the second
-- read and written.
abbrev pub headers_of : ElfLayout → List ℕ
headers_of layout =
    elf_header layout.entry
    ++ load_header 5 0 (text_size layout) (text_size layout)
    ++ load_header 6 (up_to_page (text_size layout)) (length layout.rest) (length layout.rest + layout.zeros)

-- the whole file: the headers and the text, zeros up to the next page, and the rest
abbrev pub file_of : ElfLayout → List ℕ
file_of layout =
    headers_of layout ++ layout.text ++ replicate (up_to_page (text_size layout) - text_size layout) 0 ++ layout.rest

abbrev pub text_segment : ElfLayout → Segment
text_segment layout = record {
  at = base;
  bytes = headers_of layout ++ layout.text;
  read = true;
  write = false;
  execute = true;
}

abbrev pub rest_segment : ElfLayout → Segment
rest_segment layout =
    record {
      at = base + up_to_page (text_size layout);
      bytes = layout.rest ++ replicate layout.zeros 0;
      read = true;
      write = true;
      execute = false;
    }

-- the machine that the file loads
abbrev pub machine_of : ElfLayout → MachineState
machine_of layout = machine_at layout.entry (text_segment layout ∷ rest_segment layout ∷ [])

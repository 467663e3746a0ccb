-- The executable file of a body's code: System V gABI, "Program Header".
use Rattle.std.specs.Prelude.{◌≡◌, ℕ, ◌+◌, List, [], Ok}
use Rattle.rv_isa.specs.declared.ins.Ins.{Ins}
use Rattle.elf_file.specs.Elf.{base, file_of, headers_size, loaded, machine_of}
use Rattle.elf_file.specs.declared.layout.ElfLayout.{ElfLayout}
use Rattle.ilc_build.specs.Code.{text_of}

-- how many bytes of heap and of stack a program has, where no option gives others
unfoldable pub heap_size : ℕ
heap_size = 8388608

unfoldable pub stack_size : ℕ
stack_size = 1048576

-- What the file of a text is made of: the text, which is entered at its first byte; nothing behind it; and zeros for
-- the heap and the stack.
abbrev pub layout_of : List ℕ → ElfLayout
layout_of text = record { text = text; rest = []; zeros = heap_size + stack_size; entry = base + headers_size }

-- The file is that of the code, byte for byte, and loads as two segments: the headers and the words of the code, which
-- may be read and executed; and from the next multiple of 4,096 on the zeros, which may be read and written.
pub record IsFileOf (code : List Ins) (elf : List ℕ) : Type 0 where
  pub bytes : elf ≡ file_of (layout_of (text_of code))
  pub segments : loaded elf ≡ Ok (machine_of (layout_of (text_of code)))

-- What the routines of the runtime do that every program needs.
use Rattle.std.specs.Prelude.{ℕ, ◌+◌, ◌-◌, ◌^◌, ◌%◌, ◌&&◌, nat_le, nat_lt, if◌then◌else◌, List, [], ◌∷◌, ◌++◌, codes}
use Rattle.std.specs.Prelude.{Option, Some, None}
use Rattle.num_core.specs.Run.{Streams}
use Rattle.lir_core.specs.Memory.{Byte, FlatMemory}
use Rattle.lir_core.specs.Program.{EndsProgram, GoesOn, Outcome}

abbrev pub heap_text : List ℕ
heap_text = codes "heap bound reached" ++ 10 ∷ []

-- memory with so many bytes of 0 from a place on, whatever stood there
abbrev pub cleared : ℕ → ℕ → FlatMemory → FlatMemory
cleared place bytes memory =
    λ other. if nat_le place other && nat_lt other (place + bytes) then Byte 0 else memory other

-- gives the address of so many bytes of 0 at the end of what is used of a heap that begins at an address, or ends the
-- program where its bound would be passed
abbrev pub allocates : ℕ → ℕ → List ℕ → FlatMemory → ℕ → Streams → Option Outcome
allocates begin bound (bytes ∷ []) memory used streams =
    Some (if nat_lt bound (used + bytes) then EndsProgram 134 (record streams { error = streams.error ++ heap_text })
    else GoesOn (record {
      memory = cleared (begin + used) bytes memory;
      heap_used = used + bytes;
      streams = streams;
      result = Some (begin + used);
    }))
allocates begin bound _ memory used streams = None

-- writes the low byte of a word to the output
abbrev pub writes_byte : List ℕ → FlatMemory → ℕ → Streams → Option Outcome
writes_byte (byte ∷ []) memory used streams =
    Some (GoesOn (record {
      memory = memory;
      heap_used = used;
      streams = record streams { output = streams.output ++ (byte % 256) ∷ [] };
      result = None;
    }))
writes_byte _ memory used streams = None

-- the first byte of what is left to read, or the word of -1
abbrev pub first_of : List ℕ → ℕ
first_of [] = 2 ^ 64 - 1
first_of (byte ∷ input) = byte

abbrev pub behind_first : List ℕ → List ℕ
behind_first [] = []
behind_first (byte ∷ input) = input

-- takes a byte of the input
abbrev pub reads_byte : List ℕ → FlatMemory → ℕ → Streams → Option Outcome
reads_byte [] memory used streams =
    Some (GoesOn (record {
      memory = memory;
      heap_used = used;
      streams = record streams { input = behind_first streams.input };
      result = Some (first_of streams.input);
    }))
reads_byte _ memory used streams = None

-- ends the program with the low byte of a word
abbrev pub ends_program : List ℕ → FlatMemory → ℕ → Streams → Option Outcome
ends_program (status ∷ []) memory used streams = Some (EndsProgram (status % 256) streams)
ends_program _ memory used streams = None

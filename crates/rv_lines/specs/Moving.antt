-- The instructions that move words and bytes between slots and memory.
use Rattle.std.specs.Prelude.{ℕ, ◌+◌, ◌*◌, ◌/◌, ◌%◌, ◌==◌, nat_lt, if◌then◌else◌, pos, negsuc}
use Rattle.std.specs.Prelude.{List, [], ◌∷◌, ◌++◌, Option, Some, None}
use Rattle.num_core.specs.declared.kind.Narrow.{Narrow}
use Rattle.num_core.specs.declared.kind.Narrow.TheVariants.{I1, I2, I4, I8}
use Rattle.rv_isa.specs.declared.ins.Ins.TheVariants.{Add, Addi, Bne, Ld, Sd}
use Rattle.lir_core.specs.Frame.{fixed_bytes}
use Rattle.lir_core.specs.Pieces.{bytes_of_type}
use Rattle.lir_core.specs.declared.op.Place.{Place}
use Rattle.lir_core.specs.declared.op.Place.TheVariants.{Slot, Flat}
use Rattle.rv_lines.specs.Frame.{home, slot_place}
use Rattle.rv_lines.specs.Operands.{gets_address, gets_slot, loads, loads_behind, loads_constant, reads_slot}
use Rattle.rv_lines.specs.Operands.{register_or, stores, stores_behind}
use Rattle.rv_lines.specs.declared.line.Line.{Line}
use Rattle.rv_lines.specs.declared.line.Line.TheVariants.{Single}

-- from a slot to another, each with its home
abbrev pub moves : Option ℕ → Option ℕ → ℕ → ℕ → List Line
moves (Some register) from_home to from = gets_slot from_home register from
moves None from_home to from =
    reads_slot from_home 5 from ++ stores_behind I8 (register_or from_home 5) 2 (slot_place to)

-- ---- numbers at a place

-- the home of the word that so many bytes from one on are, counted from slot 0, if they are one that has a home
abbrev pub home_of_bytes : List ℕ → ℕ → ℕ → Option ℕ
home_of_bytes vars from bytes =
    if bytes == 8 then (if from % 8 == 0 then home vars (from / 8) else None) else None

-- where bytes of the frame lie
abbrev pub bytes_place : ℕ → ℕ → ℕ
bytes_place slot offset = fixed_bytes + (8 * slot + offset)

abbrev pub loads_frame : Option ℕ → Narrow → ℕ → ℕ → List Line
loads_frame (Some register) narrow rd offset = Single (Addi rd register (pos 0)) ∷ []
loads_frame None narrow rd offset = loads_behind narrow rd 2 offset

abbrev pub stores_frame : Option ℕ → Narrow → ℕ → ℕ → List Line
stores_frame (Some register) narrow rs offset = Single (Addi register rs (pos 0)) ∷ []
stores_frame None narrow rs offset = stores_behind narrow rs 2 offset

-- a number at a place to a register, and from one
abbrev pub loads_place : List ℕ → Narrow → ℕ → Place → List Line
loads_place vars narrow rd (Slot slot offset) =
    loads_frame (home_of_bytes vars (8 * slot + offset) (bytes_of_type narrow)) narrow rd (bytes_place slot offset)
loads_place vars narrow rd (Flat base offset) =
    reads_slot (home vars base) 5 base ++ loads_behind narrow rd (register_or (home vars base) 5) offset

abbrev pub stores_place : List ℕ → Narrow → ℕ → Place → List Line
stores_place vars narrow rs (Slot slot offset) =
    stores_frame (home_of_bytes vars (8 * slot + offset) (bytes_of_type narrow)) narrow rs (bytes_place slot offset)
stores_place vars narrow rs (Flat base offset) =
    reads_slot (home vars base) 5 base ++ stores_behind narrow rs (register_or (home vars base) 5) offset

-- ---- many bytes

-- a register gets the address of a place
abbrev pub gets_place : List ℕ → ℕ → Place → List Line
gets_place vars rd (Slot slot offset) = gets_address rd 2 (bytes_place slot offset)
gets_place vars rd (Flat base offset) =
    reads_slot (home vars base) rd base ++ gets_address rd (register_or (home vars base) rd) offset

-- a number so many bytes behind the addresses in x5 and x6 goes from the first place to the second
abbrev pub passes : Narrow → ℕ → List Line
passes narrow offset = Single (loads narrow 7 5 (pos offset)) ∷ Single (stores narrow 7 6 (pos offset)) ∷ []

-- x28 gets the address behind so many words from that in a register on
abbrev pub finds_end : ℕ → ℕ → List Line
finds_end begin words = loads_constant 28 (8 * words) ++ Single (Add 28 28 begin) ∷ []

-- so many words do, one after another, and both addresses move behind them, up to x28
abbrev pub passes_word : List Line
passes_word =
    Single (Ld 7 5 (pos 0)) ∷ Single (Sd 6 7 (pos 0)) ∷ Single (Addi 5 5 (pos 8)) ∷ Single (Addi 6 6 (pos 8))
    ∷ Single (Bne 5 28 (negsuc 15)) ∷ []

abbrev pub passes_words : ℕ → List Line
passes_words words =
    if words == 0 then [] else (finds_end 5 words ++ passes_word)

-- fewer than eight bytes do
abbrev pub passes_rest : ℕ → List Line
passes_rest rest =
    (if nat_lt rest 4 then [] else passes I4 0)
    ++ ((if rest % 4 / 2 == 0 then [] else passes I2 (rest / 4 * 4))
    ++ (if rest % 2 == 0 then [] else passes I1 (rest / 2 * 2)))

abbrev pub passes_bytes : ℕ → List Line
passes_bytes bytes = passes_words (bytes / 8) ++ passes_rest (bytes % 8)

-- from a place to another, of which one may be a home where they are eight bytes
abbrev pub copies : List ℕ → Place → Place → ℕ → List Line
copies vars to from bytes =
    if bytes == 8 then loads_place vars I8 7 from ++ stores_place vars I8 7 to
    else (gets_place vars 5 from ++ (gets_place vars 6 to ++ passes_bytes bytes))

-- so many words of 0 from the address in x6 on, which moves behind them
abbrev pub clears_word : List Line
clears_word = Single (Sd 6 0 (pos 0)) ∷ Single (Addi 6 6 (pos 8)) ∷ Single (Bne 6 28 (negsuc 7)) ∷ []

abbrev pub clears_words : ℕ → List Line
clears_words words =
    if words == 0 then [] else (finds_end 6 words ++ clears_word)

abbrev pub clears_number : Narrow → ℕ → List Line
clears_number narrow offset = Single (stores narrow 0 6 (pos offset)) ∷ []

abbrev pub clears_rest : ℕ → List Line
clears_rest rest =
    (if nat_lt rest 4 then [] else clears_number I4 0)
    ++ ((if rest % 4 / 2 == 0 then [] else clears_number I2 (rest / 4 * 4))
    ++ (if rest % 2 == 0 then [] else clears_number I1 (rest / 2 * 2)))

abbrev pub clears : List ℕ → Place → ℕ → List Line
clears vars to bytes =
    if bytes == 8 then stores_place vars I8 0 to
    else (gets_place vars 6 to ++ (clears_words (bytes / 8) ++ clears_rest (bytes % 8)))

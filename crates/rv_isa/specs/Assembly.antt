-- What an assembler has taken down, and the program that it stands for.
use Rattle.std.specs.Prelude.{ℕ, ◌+◌, ◌*◌, ◌<◌, ℤ, pos, negsuc, ◌-ℤ◌, Bool, true, nat_lt, List, [], ◌∷◌, ◌++◌, length}
use Rattle.std.specs.Prelude.{Option, Some, None, IfSome, unwrap_or, slice_index_or, slice_set, IsSome, All}
use Rattle.std.specs.Prelude.{if◌then◌else◌}
use Rattle.std.specs.List.{flat_map}
use Rattle.byteorder.specs.Endian.{little_bytes}
use Rattle.rv_isa.specs.declared.assembler.Emitted.{Emitted}
use Rattle.rv_isa.specs.declared.ins.Ins.{Ins}
use Rattle.rv_isa.specs.declared.ins.Ins.TheVariants.{Jal, Beq, Bne, Blt, Bge, Bltu, Bgeu}
use Rattle.rv_isa.specs.Instructions.{word_of}

-- the instructions in order, and the place of each label once it is bound: the number of instructions before it
pub record Assembly : Type 0 where
  pub emitted : List Emitted
  pub places : List (Option ℕ)

-- a jump or a branch, whose distance a label can give
abbrev pub IsJumpOrBranch : Ins → Type 0
IsJumpOrBranch (Jal rd imm) = Unit {0}
IsJumpOrBranch (Beq rs1 rs2 imm) = Unit {0}
IsJumpOrBranch (Bne rs1 rs2 imm) = Unit {0}
IsJumpOrBranch (Blt rs1 rs2 imm) = Unit {0}
IsJumpOrBranch (Bge rs1 rs2 imm) = Unit {0}
IsJumpOrBranch (Bltu rs1 rs2 imm) = Unit {0}
IsJumpOrBranch (Bgeu rs1 rs2 imm) = Unit {0}
IsJumpOrBranch other = ⊥

-- the jump or branch with this distance
abbrev pub with_distance : Ins → ℤ → Ins
with_distance (Jal rd imm) distance = Jal rd distance
with_distance (Beq rs1 rs2 imm) distance = Beq rs1 rs2 distance
with_distance (Bne rs1 rs2 imm) distance = Bne rs1 rs2 distance
with_distance (Blt rs1 rs2 imm) distance = Blt rs1 rs2 distance
with_distance (Bge rs1 rs2 imm) distance = Bge rs1 rs2 distance
with_distance (Bltu rs1 rs2 imm) distance = Bltu rs1 rs2 distance
with_distance (Bgeu rs1 rs2 imm) distance = Bgeu rs1 rs2 distance
with_distance other distance = other

-- whether a branch can go so far, and whether a jump can
abbrev pub is_in_branch_reach : ℤ → Bool
is_in_branch_reach (pos n) = nat_lt n 4095
is_in_branch_reach (negsuc n) = nat_lt n 4096

abbrev pub is_in_jump_reach : ℤ → Bool
is_in_jump_reach (pos n) = nat_lt n 1048575
is_in_jump_reach (negsuc n) = nat_lt n 1048576

-- whether the jump or branch can go so far
abbrev pub is_in_reach : Ins → ℤ → Bool
is_in_reach (Jal rd imm) distance = is_in_jump_reach distance
is_in_reach (Beq rs1 rs2 imm) distance = is_in_branch_reach distance
is_in_reach (Bne rs1 rs2 imm) distance = is_in_branch_reach distance
is_in_reach (Blt rs1 rs2 imm) distance = is_in_branch_reach distance
is_in_reach (Bge rs1 rs2 imm) distance = is_in_branch_reach distance
is_in_reach (Bltu rs1 rs2 imm) distance = is_in_branch_reach distance
is_in_reach (Bgeu rs1 rs2 imm) distance = is_in_branch_reach distance
is_in_reach other distance = true

-- how many bytes lie from the instruction at one place to the label
abbrev pub distance : List (Option ℕ) → ℕ → ℕ → ℤ
distance places at label = pos (4 * unwrap_or (slice_index_or places label None) 0) -ℤ pos (4 * at)

-- the instruction at a place, with its distance filled in
abbrev pub filled : List (Option ℕ) → ℕ → Ins → Option ℕ → Ins
filled places at ins None = ins
filled places at ins (Some label) = with_distance ins (distance places at label)

-- the label that is out of reach of the instruction at a place
abbrev pub missed : List (Option ℕ) → ℕ → Ins → Option ℕ → Option ℕ
missed places at ins None = None
missed places at ins (Some label) = if is_in_reach ins (distance places at label) then None else Some label

-- the instructions from a place on, with their distances
abbrev pub filled_from : List (Option ℕ) → ℕ → List Emitted → List Ins
filled_from places at [] = []
filled_from places at (e ∷ es) = filled places at e.ins e.label ∷ filled_from places (at + 1) es

abbrev pub program : Assembly → List Ins
program assembly = filled_from assembly.places 0 assembly.emitted

abbrev pub first : Option ℕ → Option ℕ → Option ℕ
first (Some label) others = Some label
first None others = others

-- the first label from a place on that is out of reach
abbrev pub missed_from : List (Option ℕ) → ℕ → List Emitted → Option ℕ
missed_from places at [] = None
missed_from places at (e ∷ es) = first (missed places at e.ins e.label) (missed_from places (at + 1) es)

abbrev pub out_of_reach : Assembly → Option ℕ
out_of_reach assembly = missed_from assembly.places 0 assembly.emitted

-- the bytes of instructions, each word with its lowest byte first
abbrev pub bytes_of : List Ins → List ℕ
bytes_of program = flat_map (λ ins. little_bytes 4 (word_of ins)) program

-- each label that an instruction names was given
abbrev pub AreGiven : List Emitted → List (Option ℕ) → Type 0
AreGiven emitted places = All (λ e. IfSome e.label (λ label. label < length places)) emitted

-- each label is bound
abbrev pub AreBound : List (Option ℕ) → Type 0
AreBound places = All (λ place. IsSome place) places

-- the assembly with an instruction at its end, which goes to this label if there is one
abbrev pub appended : Assembly → Ins → Option ℕ → Assembly
appended assembly ins label =
    record assembly { emitted = assembly.emitted ++ record { ins = ins; label = label } ∷ [] }

-- the assembly with a further label
abbrev pub labelled : Assembly → Assembly
labelled assembly = record assembly { places = assembly.places ++ None ∷ [] }

-- the assembly with a label bound to where the next instruction comes
abbrev pub bound : Assembly → ℕ → Assembly
bound assembly label =
    record assembly { places = slice_set assembly.places label (Some (length assembly.emitted)) }

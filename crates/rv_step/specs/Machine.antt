-- The RV64IM machine: RISC-V unprivileged manual, chapters "RV32I", "RV64I" and "M".
use Rattle.std.specs.Prelude.{ℕ, zero, suc, ◌+◌, ◌-◌, ◌*◌, ◌/◌, ◌%◌, ◌^◌, ℤ, pos, negsuc, ◌+ℤ◌, ◌-ℤ◌, ◌*ℤ◌, int_lt}
use Rattle.std.specs.Prelude.{int_div, int_rem, bit_and, bit_or, bit_xor, not, Bool, ◌&&◌, ◌==◌, nat_le, nat_lt, min}
use Rattle.std.specs.Prelude.{if◌then◌else◌, List, [], ◌∷◌, ◌++◌, length, take, drop, slice_index, slice_set, Option}
use Rattle.std.specs.Prelude.{Some, None}
use Rattle.std.specs.Int.{cast_signed, int_shr, w8, w16, w32, w64}
use Rattle.std.specs.Option.{option_map}
use Rattle.byteorder.specs.Endian.{little_number, little_bytes}
use Rattle.num_core.specs.Bits.{low_bits}
use Rattle.num_core.specs.Run.{Run, Running, Ended, Stopped, Streams, after}
use Rattle.rv_isa.specs.declared.ins.Ins.{Ins}
use Rattle.rv_isa.specs.Parts.{parts_of}
use Rattle.rv_isa.specs.Rows.{instruction}
use Rattle.rv_step.specs.declared.calls.Request.{Request}
use Rattle.rv_step.specs.declared.calls.Request.TheVariants.{Exit, ReadInput, WriteOutput, WriteError, Unknown}
use Rattle.rv_step.specs.declared.segment.Segment.{Segment}
use Rattle.rv_step.specs.declared.trap.Trap.{Trap}
use Rattle.rv_step.specs.declared.trap.Cause.{Cause}
use Rattle.rv_step.specs.declared.trap.Cause.TheVariants.{Fetch, Load, Store, Illegal, Call}

-- the state of a machine: the address of the next instruction, x0 to x31, and the memory
pub record MachineState : Type 0 where
  pub pc : ℕ
  pub registers : List ℕ
  pub segments : List Segment

-- ---- memory

-- count addresses from address on lie in the segment
abbrev pub covers : ℕ → ℕ → Segment → Bool
covers address count s = nat_le s.at address && nat_le (address + count) (s.at + length s.bytes)

-- the bytes at count addresses, if they lie in one segment that allows it
abbrev pub bytes_at : (Segment → Bool) → ℕ → ℕ → List Segment → Option (List ℕ)
bytes_at allows address count [] = None
bytes_at allows address count (s ∷ segments) =
    if allows s && covers address count s then Some (take count (drop (address - s.at) s.bytes))
    else bytes_at allows address count segments

-- these bytes in place of those from a place on
abbrev pub overwritten : ℕ → List ℕ → List ℕ → List ℕ
overwritten place new old = take place old ++ new ++ drop (place + length new) old

-- the segments with these bytes written from address on, if the addresses lie in one segment that allows it
abbrev pub with_bytes_at : (Segment → Bool) → ℕ → List ℕ → List Segment → Option (List Segment)
with_bytes_at allows address bytes [] = None
with_bytes_at allows address bytes (s ∷ segments) =
    if allows s && covers address (length bytes) s
    then Some ((record s { bytes = overwritten (address - s.at) bytes s.bytes }) ∷ segments)
    else option_map (λ others. s ∷ others) (with_bytes_at allows address bytes segments)

-- ---- numbers

-- what the forms that end in W leave: the lowest 32 bits with their sign extended to 64
abbrev pub low_word : ℤ → ℕ
low_word z = low_bits 64 (cast_signed w32 (low_bits 32 z))

-- both 64 bits read as a signed number, and the lowest 32
abbrev pub signed_value : ℕ → ℤ
signed_value n = cast_signed w64 n

abbrev pub word_value : ℕ → ℕ
word_value n = n % 2 ^ 32

abbrev pub signed_word_value : ℕ → ℤ
signed_word_value n = cast_signed w32 (word_value n)

abbrev pub all_ones : ℕ
all_ones = 2 ^ 64 - 1

abbrev pub one_if : Bool → ℕ
one_if b = if b then 1 else 0

-- the upper 64 of the 128 bits of a product
abbrev pub upper_bits : ℤ → ℕ
upper_bits z = low_bits 128 z / 2 ^ 64

-- A division by 0 gives all ones, and the dividend as remainder. The one quotient that overflows, of the least
-- number by -1, is the dividend again by its lowest bits, with remainder 0.
abbrev pub quotient : ℕ → ℕ → ℕ
quotient n d = if d == 0 then all_ones else low_bits 64 (int_div (signed_value n) (signed_value d))

abbrev pub remainder : ℕ → ℕ → ℕ
remainder n d = if d == 0 then n else low_bits 64 (int_rem (signed_value n) (signed_value d))

abbrev pub unsigned_quotient : ℕ → ℕ → ℕ
unsigned_quotient n d = if d == 0 then all_ones else n / d

abbrev pub unsigned_remainder : ℕ → ℕ → ℕ
unsigned_remainder n d = if d == 0 then n else n % d

abbrev pub word_quotient : ℕ → ℕ → ℕ
word_quotient n d =
    if word_value d == 0 then all_ones else low_word (int_div (signed_word_value n) (signed_word_value d))

abbrev pub word_remainder : ℕ → ℕ → ℕ
word_remainder n d =
    if word_value d == 0 then low_word (pos n) else low_word (int_rem (signed_word_value n) (signed_word_value d))

abbrev pub unsigned_word_quotient : ℕ → ℕ → ℕ
unsigned_word_quotient n d = if word_value d == 0 then all_ones else low_word (pos (word_value n / word_value d))

abbrev pub unsigned_word_remainder : ℕ → ℕ → ℕ
unsigned_word_remainder n d =
    if word_value d == 0 then low_word (pos n) else low_word (pos (word_value n % word_value d))

-- ---- registers

abbrev pub register : MachineState → ℕ → ℕ
register m r = slice_index m.registers r

-- x0 stays 0
abbrev pub with_register : List ℕ → ℕ → ℕ → List ℕ
with_register registers zero value = registers
with_register registers (suc r) value = slice_set registers (suc r) value

-- goes on to the instruction behind
abbrev pub next_pc : MachineState → ℕ
next_pc m = (m.pc + 4) % 2 ^ 64

-- an instruction that only gives a register its value
abbrev pub gives : MachineState → ℕ → ℕ → Streams → Run MachineState Trap
gives m rd value streams =
    Running (record { pc = next_pc m; registers = with_register m.registers rd value; segments = m.segments }) streams

-- ---- steps

abbrev pub traps : MachineState → Cause → Streams → Run MachineState Trap
traps m cause streams = Stopped (record { pc = m.pc; cause = cause }) streams

-- where a load or store goes
abbrev pub address : MachineState → ℕ → ℤ → ℕ
address m rs1 imm = low_bits 64 (pos (register m rs1) +ℤ imm)

abbrev pub without_bit_0 : ℕ → ℕ
without_bit_0 n = n - n % 2

-- goes on elsewhere, and gives a register the address of the next instruction
abbrev pub jumps : MachineState → ℕ → ℕ → Streams → Run MachineState Trap
jumps m rd target streams =
    Running (record {
      pc = target;
      registers = with_register m.registers rd (next_pc m);
      segments = m.segments;
    }) streams

-- goes on at a distance if the branch is taken
abbrev pub branches : MachineState → Bool → ℤ → Streams → Run MachineState Trap
branches m taken imm streams =
    Running (record m { pc = if taken then low_bits 64 (pos m.pc +ℤ imm) else next_pc m }) streams

-- gives a register what stands for the number in so many bytes, the lowest first
abbrev pub gives_loaded : MachineState → ℕ → Option ℕ → Streams → Run MachineState Trap
gives_loaded m rd None streams = traps m Load streams
gives_loaded m rd (Some value) streams = gives m rd value streams

abbrev pub loads : MachineState → ℕ → ℕ → ℕ → (ℕ → ℕ) → Streams → Run MachineState Trap
loads m rd count at value =
    gives_loaded m rd
    (option_map (λ bytes. value (little_number count bytes)) (bytes_at (λ s. s.read) at count m.segments))

-- writes the lowest bytes of a number, the lowest first
abbrev pub goes_on_with : MachineState → Option (List Segment) → Streams → Run MachineState Trap
goes_on_with m None streams = traps m Store streams
goes_on_with m (Some segments) streams =
    Running (record { pc = next_pc m; registers = m.registers; segments = segments }) streams

abbrev pub stores : MachineState → ℕ → ℕ → ℕ → Streams → Run MachineState Trap
stores m count at value = goes_on_with m (with_bytes_at (λ s. s.write) at (little_bytes count value) m.segments)

-- ---- calls of the environment, by Linux's numbers in a7 (x17): 63 reads, 64 writes, 93 ends

-- a buffer with what there is to read in its first places
abbrev pub filled : List ℕ → List ℕ → List ℕ
filled input buffer = take (length buffer) input ++ drop (length input) buffer

-- goes on with so many bytes read, and gives a0 (x10) their number
abbrev pub goes_on_read : MachineState → Option (List Segment) → ℕ → Streams → Run MachineState Trap
goes_on_read m None count streams = traps m Store streams
goes_on_read m (Some segments) count streams =
    Running (record { pc = next_pc m; registers = with_register m.registers 10 count; segments = segments })
    (record streams { input = drop count streams.input })

abbrev pub reads_into : MachineState → Option (List ℕ) → Streams → Run MachineState Trap
reads_into m None streams = traps m Store streams
reads_into m (Some buffer) streams =
    goes_on_read m (with_bytes_at (λ s. s.write) (register m 11) (filled streams.input buffer) m.segments)
    (min (length buffer) (length streams.input)) streams

-- reads into the a2 (x12) bytes from a1 (x11) on what there is, and no more than they hold
abbrev pub reads : MachineState → Streams → Run MachineState Trap
reads m streams =
    if register m 12 == 0 then gives m 10 0 streams
    else reads_into m (bytes_at (λ s. s.write) (register m 11) (register m 12) m.segments) streams

abbrev pub to_output : List ℕ → Streams → Streams
to_output bytes streams = record streams { output = streams.output ++ bytes }

abbrev pub to_error : List ℕ → Streams → Streams
to_error bytes streams = record streams { error = streams.error ++ bytes }

abbrev pub writes_from : MachineState → (List ℕ → Streams → Streams) → Option (List ℕ) → Streams → Run MachineState Trap
writes_from m to None streams = traps m Load streams
writes_from m to (Some bytes) streams = gives m 10 (register m 12) (to bytes streams)

-- writes the a2 bytes from a1 on, and gives a0 their number
abbrev pub writes : MachineState → (List ℕ → Streams → Streams) → Streams → Run MachineState Trap
writes m to streams =
    if register m 12 == 0 then gives m 10 0 streams
    else writes_from m to (bytes_at (λ s. s.read) (register m 11) (register m 12) m.segments) streams

-- by the number in a7, and by a0, which says what is read (0, the input) or written to (1, the output; 2, the
-- error text)
abbrev pub request : ℕ → ℕ → Request
request number a0 =
    if number == 93 then Exit
    else if number == 63 && a0 == 0 then ReadInput
    else if number == 64 && a0 == 1 then WriteOutput
    else if number == 64 && a0 == 2 then WriteError
    else Unknown

-- the call that ends does so with the low byte of a0
abbrev pub answers : Request → MachineState → Streams → Run MachineState Trap
answers Exit m streams = Ended (register m 10 % 256) streams
answers ReadInput m streams = reads m streams
answers WriteOutput m streams = writes m to_output streams
answers WriteError m streams = writes m to_error streams
answers Unknown m streams = traps m Call streams

abbrev pub environment_call : MachineState → Streams → Run MachineState Trap
environment_call m = answers (request (register m 17) (register m 10)) m

-- what each instruction does
abbrev pub effect : Ins → MachineState → Streams → Run MachineState Trap
effect (Ins.Lui rd imm) m = gives m rd (low_word (pos (imm * 2 ^ 12)))
effect (Ins.Auipc rd imm) m = gives m rd (low_bits 64 (pos m.pc +ℤ cast_signed w32 (imm * 2 ^ 12)))
effect (Ins.Jal rd imm) m = jumps m rd (low_bits 64 (pos m.pc +ℤ imm))
effect (Ins.Jalr rd rs1 imm) m = jumps m rd (without_bit_0 (address m rs1 imm))
effect (Ins.Beq rs1 rs2 imm) m = branches m (register m rs1 == register m rs2) imm
effect (Ins.Bne rs1 rs2 imm) m = branches m (not (register m rs1 == register m rs2)) imm
effect (Ins.Blt rs1 rs2 imm) m = branches m (int_lt (signed_value (register m rs1)) (signed_value (register m rs2))) imm
effect (Ins.Bge rs1 rs2 imm) m = branches m
    (not (int_lt (signed_value (register m rs1)) (signed_value (register m rs2)))) imm
effect (Ins.Bltu rs1 rs2 imm) m = branches m (nat_lt (register m rs1) (register m rs2)) imm
effect (Ins.Bgeu rs1 rs2 imm) m = branches m (not (nat_lt (register m rs1) (register m rs2))) imm
effect (Ins.Lb rd rs1 imm) m = loads m rd 1 (address m rs1 imm) (λ n. low_bits 64 (cast_signed w8 n))
effect (Ins.Lh rd rs1 imm) m = loads m rd 2 (address m rs1 imm) (λ n. low_bits 64 (cast_signed w16 n))
effect (Ins.Lw rd rs1 imm) m = loads m rd 4 (address m rs1 imm) (λ n. low_bits 64 (cast_signed w32 n))
effect (Ins.Ld rd rs1 imm) m = loads m rd 8 (address m rs1 imm) (λ n. n)
effect (Ins.Lbu rd rs1 imm) m = loads m rd 1 (address m rs1 imm) (λ n. n)
effect (Ins.Lhu rd rs1 imm) m = loads m rd 2 (address m rs1 imm) (λ n. n)
effect (Ins.Lwu rd rs1 imm) m = loads m rd 4 (address m rs1 imm) (λ n. n)
effect (Ins.Sb rs1 rs2 imm) m = stores m 1 (address m rs1 imm) (register m rs2)
effect (Ins.Sh rs1 rs2 imm) m = stores m 2 (address m rs1 imm) (register m rs2)
effect (Ins.Sw rs1 rs2 imm) m = stores m 4 (address m rs1 imm) (register m rs2)
effect (Ins.Sd rs1 rs2 imm) m = stores m 8 (address m rs1 imm) (register m rs2)
effect (Ins.Addi rd rs1 imm) m = gives m rd (low_bits 64 (pos (register m rs1) +ℤ imm))
effect (Ins.Slti rd rs1 imm) m = gives m rd (one_if (int_lt (signed_value (register m rs1)) imm))
effect (Ins.Sltiu rd rs1 imm) m = gives m rd (one_if (nat_lt (register m rs1) (low_bits 64 imm)))
effect (Ins.Xori rd rs1 imm) m = gives m rd (bit_xor (register m rs1) (low_bits 64 imm))
effect (Ins.Ori rd rs1 imm) m = gives m rd (bit_or (register m rs1) (low_bits 64 imm))
effect (Ins.Andi rd rs1 imm) m = gives m rd (bit_and (register m rs1) (low_bits 64 imm))
effect (Ins.Slli rd rs1 shamt) m = gives m rd (low_bits 64 (pos (register m rs1 * 2 ^ shamt)))
effect (Ins.Srli rd rs1 shamt) m = gives m rd (register m rs1 / 2 ^ shamt)
effect (Ins.Srai rd rs1 shamt) m = gives m rd (low_bits 64 (int_shr (signed_value (register m rs1)) shamt))
effect (Ins.Addiw rd rs1 imm) m = gives m rd (low_word (pos (register m rs1) +ℤ imm))
effect (Ins.Slliw rd rs1 shamt) m = gives m rd (low_word (pos (register m rs1 * 2 ^ shamt)))
effect (Ins.Srliw rd rs1 shamt) m = gives m rd (low_word (pos (word_value (register m rs1) / 2 ^ shamt)))
effect (Ins.Sraiw rd rs1 shamt) m = gives m rd (low_word (int_shr (signed_word_value (register m rs1)) shamt))
effect (Ins.Add rd rs1 rs2) m = gives m rd (low_bits 64 (pos (register m rs1) +ℤ pos (register m rs2)))
effect (Ins.Sll rd rs1 rs2) m = gives m rd (low_bits 64 (pos (register m rs1 * 2 ^ (register m rs2 % 64))))
effect (Ins.Slt rd rs1 rs2) m = gives m rd
    (one_if (int_lt (signed_value (register m rs1)) (signed_value (register m rs2))))
effect (Ins.Sltu rd rs1 rs2) m = gives m rd (one_if (nat_lt (register m rs1) (register m rs2)))
effect (Ins.Xor rd rs1 rs2) m = gives m rd (bit_xor (register m rs1) (register m rs2))
effect (Ins.Srl rd rs1 rs2) m = gives m rd (register m rs1 / 2 ^ (register m rs2 % 64))
effect (Ins.Or rd rs1 rs2) m = gives m rd (bit_or (register m rs1) (register m rs2))
effect (Ins.And rd rs1 rs2) m = gives m rd (bit_and (register m rs1) (register m rs2))
effect (Ins.Sub rd rs1 rs2) m = gives m rd (low_bits 64 (pos (register m rs1) -ℤ pos (register m rs2)))
effect (Ins.Sra rd rs1 rs2) m = gives m rd (low_bits 64 (int_shr (signed_value (register m rs1)) (register m rs2 % 64)))
effect (Ins.Mul rd rs1 rs2) m = gives m rd (low_bits 64 (pos (register m rs1) *ℤ pos (register m rs2)))
effect (Ins.Mulh rd rs1 rs2) m = gives m rd
    (upper_bits (signed_value (register m rs1) *ℤ signed_value (register m rs2)))
effect (Ins.Mulhsu rd rs1 rs2) m = gives m rd (upper_bits (signed_value (register m rs1) *ℤ pos (register m rs2)))
effect (Ins.Mulhu rd rs1 rs2) m = gives m rd (upper_bits (pos (register m rs1) *ℤ pos (register m rs2)))
effect (Ins.Div rd rs1 rs2) m = gives m rd (quotient (register m rs1) (register m rs2))
effect (Ins.Divu rd rs1 rs2) m = gives m rd (unsigned_quotient (register m rs1) (register m rs2))
effect (Ins.Rem rd rs1 rs2) m = gives m rd (remainder (register m rs1) (register m rs2))
effect (Ins.Remu rd rs1 rs2) m = gives m rd (unsigned_remainder (register m rs1) (register m rs2))
effect (Ins.Addw rd rs1 rs2) m = gives m rd (low_word (pos (register m rs1) +ℤ pos (register m rs2)))
effect (Ins.Sllw rd rs1 rs2) m = gives m rd (low_word (pos (register m rs1 * 2 ^ (register m rs2 % 32))))
effect (Ins.Srlw rd rs1 rs2) m = gives m rd (low_word (pos (word_value (register m rs1) / 2 ^ (register m rs2 % 32))))
effect (Ins.Subw rd rs1 rs2) m = gives m rd (low_word (pos (register m rs1) -ℤ pos (register m rs2)))
effect (Ins.Sraw rd rs1 rs2) m = gives m rd
    (low_word (int_shr (signed_word_value (register m rs1)) (register m rs2 % 32)))
effect (Ins.Mulw rd rs1 rs2) m = gives m rd (low_word (pos (register m rs1) *ℤ pos (register m rs2)))
effect (Ins.Divw rd rs1 rs2) m = gives m rd (word_quotient (register m rs1) (register m rs2))
effect (Ins.Divuw rd rs1 rs2) m = gives m rd (unsigned_word_quotient (register m rs1) (register m rs2))
effect (Ins.Remw rd rs1 rs2) m = gives m rd (word_remainder (register m rs1) (register m rs2))
effect (Ins.Remuw rd rs1 rs2) m = gives m rd (unsigned_word_remainder (register m rs1) (register m rs2))
effect Ins.Ecall m = environment_call m

-- the word at the pc, which is a multiple of 4, in an executable segment
abbrev pub fetched : MachineState → Option ℕ
fetched m =
    if m.pc % 4 == 0 then option_map (little_number 4) (bytes_at (λ s. s.execute) m.pc 4 m.segments)
    else None

abbrev pub on_instruction : Option Ins → MachineState → Streams → Run MachineState Trap
on_instruction None m streams = traps m Illegal streams
on_instruction (Some ins) m streams = effect ins m streams

abbrev pub on_word : Option ℕ → MachineState → Streams → Run MachineState Trap
on_word None m streams = traps m Fetch streams
on_word (Some word) m streams = on_instruction (instruction (parts_of word)) m streams

-- one step of the machine
abbrev pub machine_step : MachineState → Streams → Run MachineState Trap
machine_step m streams = on_word (fetched m) m streams

-- where the machine stands after n steps, with nothing written at the start
abbrev pub machine_run : MachineState → List ℕ → ℕ → Run MachineState Trap
machine_run m input n = after machine_step n (Running m (record { input = input; output = []; error = [] }))

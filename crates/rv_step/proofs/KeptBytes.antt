-- A step leaves bytes in memory where there were bytes, and what it has read is bytes too.
use Rattle.std.proofs.Common.{◌≡◌, ◌∙◌, ◌⊎◌, inl, inr, refl, sym, ap, subst, ℕ, zero, suc, ◌+◌, ◌-◌, ◌/◌, ◌^◌, ◌<◌, ◌≤◌}
use Rattle.std.proofs.Common.{Bool, true, false, cond, ◌==◌, min, List, [], ◌∷◌, ◌++◌, length, take, drop, slice_index}
use Rattle.std.proofs.Common.{Option, Some, None, arith}
use Rattle.std.proofs.lemmas.Bool.{cases_Bool, true≢false}
use native.Mathlib.Nat.{mod-lt}
use Rattle.std.specs.Int.{bytes_low_first, byte_at, cast_signed, w8, w16, w32}
use Rattle.std.specs.Option.{option_map}
use Rattle.byteorder.specs.Endian.{little_number, little_bytes}
use Rattle.byteorder.specs.Numbers.{length-bytes_low_first}
use Rattle.num_core.specs.Bits.{low_bits}
use Rattle.num_core.specs.Run.{Run, Running, Ended, Stopped, Streams}
use Rattle.rv_isa.specs.declared.ins.Ins.{Ins}
use Rattle.rv_isa.specs.Parts.{parts_of}
use Rattle.rv_isa.specs.Rows.{instruction}
use Rattle.rv_step.specs.Bytes.{AreBytes, HoldsBytes}
use Rattle.rv_step.specs.Machine.{MachineState, register, with_register, next_pc, address, gives, loads, stores}
use Rattle.rv_step.specs.Machine.{gives_loaded, goes_on_with, bytes_at, with_bytes_at, filled, goes_on_read, reads_into}
use Rattle.rv_step.specs.Machine.{writes_from, writes, to_output, to_error, request, answers, effect, fetched, on_word}
use Rattle.rv_step.specs.Machine.{on_instruction, machine_step}
use Rattle.rv_step.specs.Memory.{Bytes, MayWrite, Writes, byte_in, is_allowed}
use Rattle.rv_step.specs.Segments.{AreSegments}
use Rattle.rv_step.specs.declared.segment.Segment.{Segment}
use Rattle.rv_step.specs.declared.trap.Trap.{Trap}
use Rattle.rv_step.specs.declared.calls.Request.{Request}
use Rattle.rv_step.proofs.Addresses.{kept_at, parted, read_bytes, readable, unreadable, writable, writes_by, written_at}

-- ---- lists of bytes, by recursion

abbrev pub Small : List ℕ → Type 0
Small [] = Unit {0}
Small (byte ∷ bytes) = (byte < 256) × Small bytes

small_of_all : (bytes : List ℕ) → AreBytes bytes → Small bytes
small_of_all [] all = tt
small_of_all (byte ∷ bytes) all =
    (all 0 byte (omega arith), small_of_all bytes (λ k d h. all (suc k) d (omega (arith, h))))

all_of_small : (bytes : List ℕ) → Small bytes → AreBytes bytes
all_of_small [] small k d h = absurd (omega (arith, h))
all_of_small (byte ∷ bytes) small zero d h = small.0
all_of_small (byte ∷ bytes) small (suc k) d h = all_of_small bytes small.1 k d (omega (arith, h))

small_at : (bytes : List ℕ) (k : ℕ) → Small bytes → k < length bytes → slice_index bytes k < 256
small_at [] k small h = absurd (omega (arith, h))
small_at (byte ∷ bytes) zero small h = small.0
small_at (byte ∷ bytes) (suc k) small h = small_at bytes k small.1 (omega (arith, h))

small_take : (count : ℕ) (bytes : List ℕ) → Small bytes → Small (take count bytes)
small_take zero bytes small = tt
small_take (suc count) [] small = tt
small_take (suc count) (byte ∷ bytes) small = (small.0, small_take count bytes small.1)

small_drop : (count : ℕ) (bytes : List ℕ) → Small bytes → Small (drop count bytes)
small_drop zero bytes small = small
small_drop (suc count) [] small = tt
small_drop (suc count) (byte ∷ bytes) small = small_drop count bytes small.1

small_both : (xs ys : List ℕ) → Small xs → Small ys → Small (xs ++ ys)
small_both [] ys small small' = small'
small_both (x ∷ xs) ys small small' = (small.0, small_both xs ys small.1 small')

byte_small : (i value : ℕ) → byte_at i value < 256
byte_small zero value = mod-lt value (omega arith)
byte_small (suc i) value = mod-lt (value / 256 ^ suc i) (omega arith)

small_number : (i count value : ℕ) → Small (bytes_low_first i count value)
small_number i zero value = tt
small_number i (suc count) value = (byte_small i value, small_number (suc i) count value)

-- ---- memory

small_by : (m : MachineState) (place : ℕ) (bytes : List ℕ) → HoldsBytes m → Bytes m place bytes → Small bytes
small_by m place [] holds there = tt
small_by m place (byte ∷ bytes) holds there =
    (holds place byte there.0, small_by m (place + 1) bytes holds there.1)

-- what is read of memory
small_read : (m : MachineState) (place count : ℕ) (bytes : List ℕ) → AreSegments m.segments → HoldsBytes m
    → bytes_at (λ s. s.write) place count m.segments ≡ Some bytes → Small bytes
small_read m place count bytes segments holds e =
    elim (cases_Bool (is_allowed (λ s. s.write) m.segments place count)) as (λ _. Small bytes) [
      | inl may ↦
          let found = readable (λ s. s.write) place count m.segments may in
          let same : found.0 ≡ bytes = some_one found.0 bytes (sym found.1 ∙ e) in
          subst Small same
          (small_by m place found.0 holds
          (read_bytes (λ s. s.write) m place count found.0 segments found.1 found.2))
      | inr not ↦
          let none : bytes_at (λ s. s.write) place count m.segments ≡ None =
          unreadable (λ s. s.write) place count m.segments (λ may. true≢false (sym may ∙ not)) in
          absurd (some_none bytes (sym e ∙ none))
    ]
  where
    some_one : (xs ys : List ℕ) → Some xs ≡ Some ys → xs ≡ ys
    some_one xs ys e = cc

    some_none : (xs : List ℕ) → Some xs ≡ None → ⊥
    some_none xs e = cc

where_it_lies : (place count x : ℕ)
    → ((x < place) ⊎ (place + count ≤ x)) ⊎ ((place ≤ x) × (x < place + count))
where_it_lies place count x = grind arith

some_one : (a b : ℕ) → Some a ≡ Some b → a ≡ b
some_one a b e = cc

-- and what is written to it
holds_written : (m new : MachineState) (place : ℕ) (bytes : List ℕ)
    → with_bytes_at (λ s. s.write) place bytes m.segments ≡ Some new.segments → Small bytes → AreSegments m.segments
    → HoldsBytes m → HoldsBytes new
holds_written m new place bytes e small segments holds x byte is =
    elim (where_it_lies place (length bytes) x) [
      | inl apart ↦ holds x byte (sym (kept_at (λ s. s.write) place x bytes m.segments new.segments e apart) ∙ is)
      | inr inside ↦
          let there : byte_in new.segments x ≡ Some (slice_index bytes (x - place)) =
          written_at (λ s. s.write) place x bytes m.segments new.segments (parted m.segments segments.disjoint) e
          inside.0
          inside.1 in
          let same : slice_index bytes (x - place) ≡ byte =
          some_one (slice_index bytes (x - place)) byte (sym there ∙ is) in
          subst (λ n. n < 256) same (small_at bytes (x - place) small (omega (arith, inside.0, inside.1)))
    ]

-- ---- steps

pub record KeepsBytes (old new : MachineState) (before behind : Streams) : Type 0 where
  pub memory : AreSegments old.segments → HoldsBytes old → Small before.input → HoldsBytes new
  pub input : Small before.input → Small behind.input

-- so does a step that goes on
abbrev pub Keeps : MachineState → Streams → Run MachineState Trap → Type 0
Keeps m before (Running new behind) = KeepsBytes m new before behind
Keeps m before (Ended status streams) = Unit {0}
Keeps m before (Stopped trap streams) = Unit {0}

-- where the segments are the same, and what is left to read
same_segments : (m new : MachineState) (before behind : Streams) → new.segments ≡ m.segments
    → behind.input ≡ before.input
    → KeepsBytes m new before behind
same_segments m new before behind e e' =
    record {
      memory = λ segments holds small x byte is. holds x byte (ap (λ ss. byte_in ss x) (sym e) ∙ is);
      input = λ small. subst Small (sym e') small;
    }

same : (m new : MachineState) (streams : Streams) → new.segments ≡ m.segments → KeepsBytes m new streams streams
same m new streams e = same_segments m new streams streams e refl

loaded : (m : MachineState) (rd : ℕ) (o : Option ℕ) (streams : Streams) → Keeps m streams (gives_loaded m rd o streams)
loaded m rd None streams = tt
loaded m rd (Some value) streams = same m _ streams refl

loads_keep : (m : MachineState) (rd count at : ℕ) (value : ℕ → ℕ) (streams : Streams)
    → Keeps m streams (loads m rd count at value streams)
loads_keep m rd count at value streams =
    loaded m rd
    (option_map (λ bytes. value (little_number count bytes)) (bytes_at (λ s. s.read) at count m.segments)) streams

stored : (m : MachineState) (place : ℕ) (bytes : List ℕ) (o : Option (List Segment)) (streams : Streams) → Small bytes
    → with_bytes_at (λ s. s.write) place bytes m.segments ≡ o → Keeps m streams (goes_on_with m o streams)
stored m place bytes None streams small e = tt
stored m place bytes (Some segments) streams small e =
    let new : MachineState = record { pc = next_pc m; registers = m.registers; segments = segments } in
    record {
      memory = λ apart holds input. holds_written m new place bytes e small apart holds;
      input = λ input. input;
    }

stores_keep : (m : MachineState) (count place value : ℕ) (streams : Streams)
    → Keeps m streams (stores m count place value streams)
stores_keep m count place value streams =
    stored m place (little_bytes count value)
    (with_bytes_at (λ s. s.write) place (little_bytes count value) m.segments) streams (small_number 0 count value) refl

-- ---- calls of the environment

read_in : (m : MachineState) (buffer : List ℕ) (o : Option (List Segment)) (count : ℕ) (streams : Streams)
    → bytes_at (λ s. s.write) (register m 11) (register m 12) m.segments ≡ Some buffer
    → with_bytes_at (λ s. s.write) (register m 11) (filled streams.input buffer) m.segments ≡ o
    → Keeps m streams (goes_on_read m o count streams)
read_in m buffer None count streams there e = tt
read_in m buffer (Some segments) count streams there e =
    let new : MachineState =
    record { pc = next_pc m; registers = with_register m.registers 10 count; segments = segments } in
    record {
      memory = λ apart holds input. holds_written m new (register m 11) (filled streams.input buffer) e
          (small_both (take (length buffer) streams.input) (drop (length streams.input) buffer)
          (small_take (length buffer) streams.input input)
          (small_drop (length streams.input) buffer
          (small_read m (register m 11) (register m 12) buffer apart holds there))) apart holds;
      input = λ input. small_drop count streams.input input;
    }

reads_into_keeps : (m : MachineState) (o : Option (List ℕ)) (streams : Streams)
    → bytes_at (λ s. s.write) (register m 11) (register m 12) m.segments ≡ o → Keeps m streams (reads_into m o streams)
reads_into_keeps m None streams there = tt
reads_into_keeps m (Some buffer) streams there =
    read_in m buffer (with_bytes_at (λ s. s.write) (register m 11) (filled streams.input buffer) m.segments)
    (min (length buffer) (length streams.input)) streams there refl

-- a writer of bytes leaves the input as it is
abbrev pub KeepsInput : (List ℕ → Streams → Streams) → Type 0
KeepsInput to = (bytes : List ℕ) (streams : Streams) → (to bytes streams).input ≡ streams.input

writes_from_keeps : (m : MachineState) (to : List ℕ → Streams → Streams) (o : Option (List ℕ)) (streams : Streams)
    → KeepsInput to → Keeps m streams (writes_from m to o streams)
writes_from_keeps m to None streams keeps = tt
writes_from_keeps m to (Some bytes) streams keeps =
    same_segments m _ streams (to bytes streams) refl (keeps bytes streams)

either : (m : MachineState) (streams : Streams) (b : Bool) (x y : Run MachineState Trap) → Keeps m streams x
    → Keeps m streams y → Keeps m streams (cond b x y)
either m streams true x y h k = h
either m streams false x y h k = k

writes_keep : (m : MachineState) (to : List ℕ → Streams → Streams) (streams : Streams) → KeepsInput to
    → Keeps m streams (writes m to streams)
writes_keep m to streams keeps =
    let there : Option (List ℕ) = bytes_at (λ s. s.read) (register m 11) (register m 12) m.segments in
    either m streams (register m 12 == 0) (gives m 10 0 streams) (writes_from m to there streams)
    (same m _ streams refl)
    (writes_from_keeps m to there streams keeps)

answers_keep : (r : Request) (m : MachineState) (streams : Streams) → Keeps m streams (answers r m streams)
answers_keep Request.Exit m streams = tt
answers_keep Request.ReadInput m streams =
    let there : Option (List ℕ) = bytes_at (λ s. s.write) (register m 11) (register m 12) m.segments in
    either m streams (register m 12 == 0) (gives m 10 0 streams) (reads_into m there streams) (same m _ streams refl)
    (reads_into_keeps m there streams refl)
answers_keep Request.WriteOutput m streams = writes_keep m to_output streams (λ bytes old. refl)
answers_keep Request.WriteError m streams = writes_keep m to_error streams (λ bytes old. refl)
answers_keep Request.Unknown m streams = tt

-- ---- instructions

effect_keeps : (ins : Ins) (m : MachineState) (streams : Streams) → Keeps m streams (effect ins m streams)
effect_keeps (Ins.Lui rd imm) m streams = same m _ streams refl
effect_keeps (Ins.Auipc rd imm) m streams = same m _ streams refl
effect_keeps (Ins.Jal rd imm) m streams = same m _ streams refl
effect_keeps (Ins.Jalr rd rs1 imm) m streams = same m _ streams refl
effect_keeps (Ins.Beq rs1 rs2 imm) m streams = same m _ streams refl
effect_keeps (Ins.Bne rs1 rs2 imm) m streams = same m _ streams refl
effect_keeps (Ins.Blt rs1 rs2 imm) m streams = same m _ streams refl
effect_keeps (Ins.Bge rs1 rs2 imm) m streams = same m _ streams refl
effect_keeps (Ins.Bltu rs1 rs2 imm) m streams = same m _ streams refl
effect_keeps (Ins.Bgeu rs1 rs2 imm) m streams = same m _ streams refl
effect_keeps (Ins.Lb rd rs1 imm) m streams =
    loads_keep m rd 1 (address m rs1 imm) (λ n. low_bits 64 (cast_signed w8 n)) streams
effect_keeps (Ins.Lh rd rs1 imm) m streams =
    loads_keep m rd 2 (address m rs1 imm) (λ n. low_bits 64 (cast_signed w16 n)) streams
effect_keeps (Ins.Lw rd rs1 imm) m streams =
    loads_keep m rd 4 (address m rs1 imm) (λ n. low_bits 64 (cast_signed w32 n)) streams
effect_keeps (Ins.Ld rd rs1 imm) m streams = loads_keep m rd 8 (address m rs1 imm) (λ n. n) streams
effect_keeps (Ins.Lbu rd rs1 imm) m streams = loads_keep m rd 1 (address m rs1 imm) (λ n. n) streams
effect_keeps (Ins.Lhu rd rs1 imm) m streams = loads_keep m rd 2 (address m rs1 imm) (λ n. n) streams
effect_keeps (Ins.Lwu rd rs1 imm) m streams = loads_keep m rd 4 (address m rs1 imm) (λ n. n) streams
effect_keeps (Ins.Sb rs1 rs2 imm) m streams = stores_keep m 1 (address m rs1 imm) (register m rs2) streams
effect_keeps (Ins.Sh rs1 rs2 imm) m streams = stores_keep m 2 (address m rs1 imm) (register m rs2) streams
effect_keeps (Ins.Sw rs1 rs2 imm) m streams = stores_keep m 4 (address m rs1 imm) (register m rs2) streams
effect_keeps (Ins.Sd rs1 rs2 imm) m streams = stores_keep m 8 (address m rs1 imm) (register m rs2) streams
effect_keeps (Ins.Addi rd rs1 imm) m streams = same m _ streams refl
effect_keeps (Ins.Slti rd rs1 imm) m streams = same m _ streams refl
effect_keeps (Ins.Sltiu rd rs1 imm) m streams = same m _ streams refl
effect_keeps (Ins.Xori rd rs1 imm) m streams = same m _ streams refl
effect_keeps (Ins.Ori rd rs1 imm) m streams = same m _ streams refl
effect_keeps (Ins.Andi rd rs1 imm) m streams = same m _ streams refl
effect_keeps (Ins.Slli rd rs1 shamt) m streams = same m _ streams refl
effect_keeps (Ins.Srli rd rs1 shamt) m streams = same m _ streams refl
effect_keeps (Ins.Srai rd rs1 shamt) m streams = same m _ streams refl
effect_keeps (Ins.Addiw rd rs1 imm) m streams = same m _ streams refl
effect_keeps (Ins.Slliw rd rs1 shamt) m streams = same m _ streams refl
effect_keeps (Ins.Srliw rd rs1 shamt) m streams = same m _ streams refl
effect_keeps (Ins.Sraiw rd rs1 shamt) m streams = same m _ streams refl
effect_keeps (Ins.Add rd rs1 rs2) m streams = same m _ streams refl
effect_keeps (Ins.Sll rd rs1 rs2) m streams = same m _ streams refl
effect_keeps (Ins.Slt rd rs1 rs2) m streams = same m _ streams refl
effect_keeps (Ins.Sltu rd rs1 rs2) m streams = same m _ streams refl
effect_keeps (Ins.Xor rd rs1 rs2) m streams = same m _ streams refl
effect_keeps (Ins.Srl rd rs1 rs2) m streams = same m _ streams refl
effect_keeps (Ins.Or rd rs1 rs2) m streams = same m _ streams refl
effect_keeps (Ins.And rd rs1 rs2) m streams = same m _ streams refl
effect_keeps (Ins.Sub rd rs1 rs2) m streams = same m _ streams refl
effect_keeps (Ins.Sra rd rs1 rs2) m streams = same m _ streams refl
effect_keeps (Ins.Mul rd rs1 rs2) m streams = same m _ streams refl
effect_keeps (Ins.Mulh rd rs1 rs2) m streams = same m _ streams refl
effect_keeps (Ins.Mulhsu rd rs1 rs2) m streams = same m _ streams refl
effect_keeps (Ins.Mulhu rd rs1 rs2) m streams = same m _ streams refl
effect_keeps (Ins.Div rd rs1 rs2) m streams = same m _ streams refl
effect_keeps (Ins.Divu rd rs1 rs2) m streams = same m _ streams refl
effect_keeps (Ins.Rem rd rs1 rs2) m streams = same m _ streams refl
effect_keeps (Ins.Remu rd rs1 rs2) m streams = same m _ streams refl
effect_keeps (Ins.Addw rd rs1 rs2) m streams = same m _ streams refl
effect_keeps (Ins.Sllw rd rs1 rs2) m streams = same m _ streams refl
effect_keeps (Ins.Srlw rd rs1 rs2) m streams = same m _ streams refl
effect_keeps (Ins.Subw rd rs1 rs2) m streams = same m _ streams refl
effect_keeps (Ins.Sraw rd rs1 rs2) m streams = same m _ streams refl
effect_keeps (Ins.Mulw rd rs1 rs2) m streams = same m _ streams refl
effect_keeps (Ins.Divw rd rs1 rs2) m streams = same m _ streams refl
effect_keeps (Ins.Divuw rd rs1 rs2) m streams = same m _ streams refl
effect_keeps (Ins.Remw rd rs1 rs2) m streams = same m _ streams refl
effect_keeps (Ins.Remuw rd rs1 rs2) m streams = same m _ streams refl
effect_keeps Ins.Ecall m streams = answers_keep (request (register m 17) (register m 10)) m streams

instruction_keeps : (o : Option Ins) (m : MachineState) (streams : Streams)
    → Keeps m streams (on_instruction o m streams)
instruction_keeps None m streams = tt
instruction_keeps (Some ins) m streams = effect_keeps ins m streams

word_keeps : (o : Option ℕ) (m : MachineState) (streams : Streams) → Keeps m streams (on_word o m streams)
word_keeps None m streams = tt
word_keeps (Some word) m streams = instruction_keeps (instruction (parts_of word)) m streams

pub kept_bytes : (m new : MachineState) (streams streams' : Streams) → AreSegments m.segments → HoldsBytes m
    → AreBytes streams.input → machine_step m streams ≡ Running new streams'
    → HoldsBytes new × AreBytes streams'.input
kept_bytes m new streams streams' segments holds input e =
    let small : Small streams.input = small_of_all streams.input input in
    let kept : KeepsBytes m new streams streams' = subst (Keeps m streams) e (word_keeps (fetched m) m streams) in
    (kept.memory segments holds small, all_of_small streams'.input (kept.input small))

-- a store, whatever the streams are
pub stored_always : (m : MachineState) (count place value : ℕ) → AreSegments m.segments → MayWrite m place count
    → (new : MachineState) × ((streams : Streams) → stores m count place value streams ≡ Running new streams)
    × (new.pc ≡ next_pc m) × (new.registers ≡ m.registers) × Writes place (little_bytes count value) m new
stored_always m count place value segments may =
    let bytes : List ℕ = little_bytes count value in
    let size : length bytes ≡ count = length-bytes_low_first 0 count value in
    let there = writable (λ s. s.write) place bytes m.segments
    (subst (λ n. is_allowed (λ s. s.write) m.segments place n ≡ true) (sym size) may) in
    let new : MachineState = record { pc = next_pc m; registers = m.registers; segments = there.0 } in (
      new,
      λ streams. ap (λ o. goes_on_with m o streams) there.1,
      refl,
      refl,
      writes_by (λ s. s.write) place bytes m new segments there.1,
    )

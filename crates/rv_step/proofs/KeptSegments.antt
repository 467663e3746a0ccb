-- A step moves no segment, and changes nothing of what may be done with it.
use Rattle.std.proofs.Common.{◌≡◌, refl, sym, ap, subst, ℕ, Bool, true, false, cond, ◌==◌, min, List, length, Option}
use Rattle.std.proofs.Common.{Some, None}
use Rattle.std.specs.Int.{cast_signed, w8, w16, w32}
use Rattle.std.specs.Option.{option_map}
use Rattle.byteorder.specs.Endian.{little_number, little_bytes}
use Rattle.num_core.specs.Bits.{low_bits}
use Rattle.num_core.specs.Run.{Run, Running, Ended, Stopped, Streams}
use Rattle.rv_isa.specs.declared.ins.Ins.{Ins}
use Rattle.rv_isa.specs.Parts.{parts_of}
use Rattle.rv_isa.specs.Rows.{instruction}
use Rattle.rv_step.specs.Machine.{MachineState, register, with_register, next_pc, address, gives, loads, stores}
use Rattle.rv_step.specs.Machine.{gives_loaded, goes_on_with, bytes_at, with_bytes_at, filled, goes_on_read, reads_into}
use Rattle.rv_step.specs.Machine.{writes_from, writes, to_output, to_error, request, answers, effect, fetched, on_word}
use Rattle.rv_step.specs.Machine.{on_instruction, machine_step}
use Rattle.rv_step.specs.Memory.{is_allowed, AllowsTheSame}
use Rattle.rv_step.specs.Segments.{AreSegments}
use Rattle.rv_step.specs.declared.segment.Segment.{Segment}
use Rattle.rv_step.specs.declared.trap.Trap.{Trap}
use Rattle.rv_step.specs.declared.calls.Request.{Request}
use Rattle.rv_step.proofs.Addresses.{allows_the_same, segments_kept}

pub record KeepsSegments (old new : MachineState) : Type 0 where
  pub apart : AreSegments old.segments → AreSegments new.segments
  pub allows : (address count : ℕ) → AllowsTheSame old new address count

-- so does a step that goes on
abbrev pub Keeps : MachineState → Run MachineState Trap → Type 0
Keeps m (Running new streams) = KeepsSegments m new
Keeps m (Ended status streams) = Unit {0}
Keeps m (Stopped trap streams) = Unit {0}

-- where the segments are the same
same : (m new : MachineState) → new.segments ≡ m.segments → KeepsSegments m new
same m new e =
    record {
      apart = λ h. subst AreSegments (sym e) h;
      allows = λ address count. record {
        read = ap (λ l. is_allowed (λ s. s.read) l address count) e;
        write = ap (λ l. is_allowed (λ s. s.write) l address count) e;
        execute = ap (λ l. is_allowed (λ s. s.execute) l address count) e;
      };
    }

loaded : (m : MachineState) (rd : ℕ) (o : Option ℕ) (streams : Streams) → Keeps m (gives_loaded m rd o streams)
loaded m rd None streams = tt
loaded m rd (Some value) streams = same m _ refl

loads_keep : (m : MachineState) (rd count at : ℕ) (value : ℕ → ℕ) (streams : Streams)
    → Keeps m (loads m rd count at value streams)
loads_keep m rd count at value streams =
    loaded m rd
    (option_map (λ bytes. value (little_number count bytes)) (bytes_at (λ s. s.read) at count m.segments)) streams

stored : (m : MachineState) (address : ℕ) (bytes : List ℕ) (o : Option (List Segment)) (streams : Streams)
    → with_bytes_at (λ s. s.write) address bytes m.segments ≡ o → Keeps m (goes_on_with m o streams)
stored m address bytes None streams e = tt
stored m address bytes (Some segments) streams e =
    let new : MachineState = record { pc = next_pc m; registers = m.registers; segments = segments } in
    record {
      apart = segments_kept (λ s. s.write) address bytes m.segments segments e;
      allows = allows_the_same (λ s. s.write) address bytes m new e;
    }

stores_keep : (m : MachineState) (count address value : ℕ) (streams : Streams)
    → Keeps m (stores m count address value streams)
stores_keep m count address value streams =
    stored m address (little_bytes count value)
    (with_bytes_at (λ s. s.write) address (little_bytes count value) m.segments) streams refl

-- ---- calls of the environment

read_in : (m : MachineState) (bytes : List ℕ) (o : Option (List Segment)) (count : ℕ) (streams : Streams)
    → with_bytes_at (λ s. s.write) (register m 11) bytes m.segments ≡ o → Keeps m (goes_on_read m o count streams)
read_in m bytes None count streams e = tt
read_in m bytes (Some segments) count streams e =
    let new : MachineState =
    record { pc = next_pc m; registers = with_register m.registers 10 count; segments = segments } in
    record {
      apart = segments_kept (λ s. s.write) (register m 11) bytes m.segments segments e;
      allows = allows_the_same (λ s. s.write) (register m 11) bytes m new e;
    }

reads_into_keeps : (m : MachineState) (o : Option (List ℕ)) (streams : Streams) → Keeps m (reads_into m o streams)
reads_into_keeps m None streams = tt
reads_into_keeps m (Some buffer) streams =
    read_in m (filled streams.input buffer)
    (with_bytes_at (λ s. s.write) (register m 11) (filled streams.input buffer) m.segments)
    (min (length buffer) (length streams.input)) streams refl

writes_from_keeps : (m : MachineState) (to : List ℕ → Streams → Streams) (o : Option (List ℕ)) (streams : Streams)
    → Keeps m (writes_from m to o streams)
writes_from_keeps m to None streams = tt
writes_from_keeps m to (Some bytes) streams = same m _ refl

either : (m : MachineState) (b : Bool) (x y : Run MachineState Trap) → Keeps m x → Keeps m y → Keeps m (cond b x y)
either m true x y h k = h
either m false x y h k = k

writes_keep : (m : MachineState) (to : List ℕ → Streams → Streams) (streams : Streams) → Keeps m (writes m to streams)
writes_keep m to streams =
    let there : Option (List ℕ) = bytes_at (λ s. s.read) (register m 11) (register m 12) m.segments in
    either m (register m 12 == 0) (gives m 10 0 streams) (writes_from m to there streams) (same m _ refl)
    (writes_from_keeps m to there streams)

answers_keep : (r : Request) (m : MachineState) (streams : Streams) → Keeps m (answers r m streams)
answers_keep Request.Exit m streams = tt
answers_keep Request.ReadInput m streams =
    let there : Option (List ℕ) = bytes_at (λ s. s.write) (register m 11) (register m 12) m.segments in
    either m (register m 12 == 0) (gives m 10 0 streams) (reads_into m there streams) (same m _ refl)
    (reads_into_keeps m there streams)
answers_keep Request.WriteOutput m streams = writes_keep m to_output streams
answers_keep Request.WriteError m streams = writes_keep m to_error streams
answers_keep Request.Unknown m streams = tt

-- ---- instructions

effect_keeps : (ins : Ins) (m : MachineState) (streams : Streams) → Keeps m (effect ins m streams)
effect_keeps (Ins.Lui rd imm) m streams = same m _ refl
effect_keeps (Ins.Auipc rd imm) m streams = same m _ refl
effect_keeps (Ins.Jal rd imm) m streams = same m _ refl
effect_keeps (Ins.Jalr rd rs1 imm) m streams = same m _ refl
effect_keeps (Ins.Beq rs1 rs2 imm) m streams = same m _ refl
effect_keeps (Ins.Bne rs1 rs2 imm) m streams = same m _ refl
effect_keeps (Ins.Blt rs1 rs2 imm) m streams = same m _ refl
effect_keeps (Ins.Bge rs1 rs2 imm) m streams = same m _ refl
effect_keeps (Ins.Bltu rs1 rs2 imm) m streams = same m _ refl
effect_keeps (Ins.Bgeu rs1 rs2 imm) m streams = same m _ refl
effect_keeps (Ins.Lb rd rs1 imm) m streams =
    loads_keep m rd 1 (address m rs1 imm) (λ n. low_bits 64 (cast_signed w8 n)) streams
effect_keeps (Ins.Lh rd rs1 imm) m streams =
    loads_keep m rd 2 (address m rs1 imm) (λ n. low_bits 64 (cast_signed w16 n)) streams
effect_keeps (Ins.Lw rd rs1 imm) m streams =
    loads_keep m rd 4 (address m rs1 imm) (λ n. low_bits 64 (cast_signed w32 n)) streams
effect_keeps (Ins.Ld rd rs1 imm) m streams = loads_keep m rd 8 (address m rs1 imm) (λ n. n) streams
effect_keeps (Ins.Lbu rd rs1 imm) m streams = loads_keep m rd 1 (address m rs1 imm) (λ n. n) streams
effect_keeps (Ins.Lhu rd rs1 imm) m streams = loads_keep m rd 2 (address m rs1 imm) (λ n. n) streams
effect_keeps (Ins.Lwu rd rs1 imm) m streams = loads_keep m rd 4 (address m rs1 imm) (λ n. n) streams
effect_keeps (Ins.Sb rs1 rs2 imm) m streams = stores_keep m 1 (address m rs1 imm) (register m rs2) streams
effect_keeps (Ins.Sh rs1 rs2 imm) m streams = stores_keep m 2 (address m rs1 imm) (register m rs2) streams
effect_keeps (Ins.Sw rs1 rs2 imm) m streams = stores_keep m 4 (address m rs1 imm) (register m rs2) streams
effect_keeps (Ins.Sd rs1 rs2 imm) m streams = stores_keep m 8 (address m rs1 imm) (register m rs2) streams
effect_keeps (Ins.Addi rd rs1 imm) m streams = same m _ refl
effect_keeps (Ins.Slti rd rs1 imm) m streams = same m _ refl
effect_keeps (Ins.Sltiu rd rs1 imm) m streams = same m _ refl
effect_keeps (Ins.Xori rd rs1 imm) m streams = same m _ refl
effect_keeps (Ins.Ori rd rs1 imm) m streams = same m _ refl
effect_keeps (Ins.Andi rd rs1 imm) m streams = same m _ refl
effect_keeps (Ins.Slli rd rs1 shamt) m streams = same m _ refl
effect_keeps (Ins.Srli rd rs1 shamt) m streams = same m _ refl
effect_keeps (Ins.Srai rd rs1 shamt) m streams = same m _ refl
effect_keeps (Ins.Addiw rd rs1 imm) m streams = same m _ refl
effect_keeps (Ins.Slliw rd rs1 shamt) m streams = same m _ refl
effect_keeps (Ins.Srliw rd rs1 shamt) m streams = same m _ refl
effect_keeps (Ins.Sraiw rd rs1 shamt) m streams = same m _ refl
effect_keeps (Ins.Add rd rs1 rs2) m streams = same m _ refl
effect_keeps (Ins.Sll rd rs1 rs2) m streams = same m _ refl
effect_keeps (Ins.Slt rd rs1 rs2) m streams = same m _ refl
effect_keeps (Ins.Sltu rd rs1 rs2) m streams = same m _ refl
effect_keeps (Ins.Xor rd rs1 rs2) m streams = same m _ refl
effect_keeps (Ins.Srl rd rs1 rs2) m streams = same m _ refl
effect_keeps (Ins.Or rd rs1 rs2) m streams = same m _ refl
effect_keeps (Ins.And rd rs1 rs2) m streams = same m _ refl
effect_keeps (Ins.Sub rd rs1 rs2) m streams = same m _ refl
effect_keeps (Ins.Sra rd rs1 rs2) m streams = same m _ refl
effect_keeps (Ins.Mul rd rs1 rs2) m streams = same m _ refl
effect_keeps (Ins.Mulh rd rs1 rs2) m streams = same m _ refl
effect_keeps (Ins.Mulhsu rd rs1 rs2) m streams = same m _ refl
effect_keeps (Ins.Mulhu rd rs1 rs2) m streams = same m _ refl
effect_keeps (Ins.Div rd rs1 rs2) m streams = same m _ refl
effect_keeps (Ins.Divu rd rs1 rs2) m streams = same m _ refl
effect_keeps (Ins.Rem rd rs1 rs2) m streams = same m _ refl
effect_keeps (Ins.Remu rd rs1 rs2) m streams = same m _ refl
effect_keeps (Ins.Addw rd rs1 rs2) m streams = same m _ refl
effect_keeps (Ins.Sllw rd rs1 rs2) m streams = same m _ refl
effect_keeps (Ins.Srlw rd rs1 rs2) m streams = same m _ refl
effect_keeps (Ins.Subw rd rs1 rs2) m streams = same m _ refl
effect_keeps (Ins.Sraw rd rs1 rs2) m streams = same m _ refl
effect_keeps (Ins.Mulw rd rs1 rs2) m streams = same m _ refl
effect_keeps (Ins.Divw rd rs1 rs2) m streams = same m _ refl
effect_keeps (Ins.Divuw rd rs1 rs2) m streams = same m _ refl
effect_keeps (Ins.Remw rd rs1 rs2) m streams = same m _ refl
effect_keeps (Ins.Remuw rd rs1 rs2) m streams = same m _ refl
effect_keeps Ins.Ecall m streams = answers_keep (request (register m 17) (register m 10)) m streams

instruction_keeps : (o : Option Ins) (m : MachineState) (streams : Streams) → Keeps m (on_instruction o m streams)
instruction_keeps None m streams = tt
instruction_keeps (Some ins) m streams = effect_keeps ins m streams

word_keeps : (o : Option ℕ) (m : MachineState) (streams : Streams) → Keeps m (on_word o m streams)
word_keeps None m streams = tt
word_keeps (Some word) m streams = instruction_keeps (instruction (parts_of word)) m streams

pub step_keeps : (m new : MachineState) (streams streams' : Streams) → machine_step m streams ≡ Running new streams'
    → KeepsSegments m new
step_keeps m new streams streams' e = subst (λ r. Keeps m r) e (word_keeps (fetched m) m streams)

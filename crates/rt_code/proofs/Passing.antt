-- The routines that pass a word: the end of the program, a byte written and a byte read.
use Rattle.std.proofs.Common.{◌≡◌, ◌∙◌, inl, inr, ℕ, zero, suc, ◌+◌, ◌-◌, ◌*◌, ◌%◌, ◌^◌, ◌<◌, ◌≤◌, pos, negsuc}
use Rattle.std.proofs.Common.{◌+ℤ◌, List, [], ◌∷◌, ◌++◌, length, take, drop, min, All, arith, refl, ap, sym, subst}
use Rattle.std.proofs.Common.{Some, slice_get, slice_set}
use Rattle.byteorder.specs.Endian.{little_bytes, little_number}
use Rattle.num_core.specs.Bits.{low_bits}
use Rattle.num_core.specs.Run.{Running, Ended, Streams, after}
use Rattle.rv_isa.specs.declared.ins.Ins.{Ins}
use Rattle.rv_isa.specs.declared.ins.Ins.TheVariants.{Addi, Beq, Ecall, Jalr, Lbu, Sb}
use Rattle.rv_step.specs.Machine.{MachineState, machine_step, register, stores, to_output, without_bit_0}
use Rattle.rv_step.specs.Memory.{AreApart, Bytes, MayRead, MayWrite, Writes}
use Rattle.rv_step.specs.declared.segment.Segment.{Segment}
use Rattle.rv_step.proofs.AddressLaws.{loads_by, reads_by, stored, written_by}
use Rattle.rv_step.proofs.Addresses.{allowed_within}
use Rattle.rv_code.specs.Code.{AllLegal, BlockAt, Calculated, CodeAt, Done, Gives, given}
use Rattle.rv_code.specs.Registers.{HasRegisters, registers_of}
use Rattle.rv_code.proofs.Going.{calculated, code_in_same_memory, code_kept, next_place, same_bytes, steps_at}
use Rattle.rv_code.proofs.Spelled.{by_parts}
use Rattle.rv_isa.specs.Operands.{IsImmediate}
use Rattle.std.proofs.lemmas.Int.{ints}
use Rattle.rt_code.specs.Code.{code_of}
use Rattle.rt_code.specs.declared.routines.Routine.TheVariants.{ReadByte, WriteByte}
use Rattle.rt_code.specs.Conventions.{HasScratch, KeepsMemory, scratch_at, scratch_bytes}
use Rattle.rt_code.specs.Effects.{EndsWithin, Returns}
use Rattle.rt_code.proofs.Machines.{machine, sum_of, then_step, then_steps, writes_between}

-- the end with the low byte of x10
pub ends_with_word : (address : ℕ) (code : List Ins) (k pc : ℕ) (word : ℕ → ℕ) (segments : List Segment)
    (streams : Streams)
    → CodeAt address code (machine pc word segments) → pc ≡ address + 4 * k
    → BlockAt code k (Addi 17 0 (pos 93) ∷ Ecall ∷ []) → AllLegal (Addi 17 0 (pos 93) ∷ Ecall ∷ [])
    → EndsWithin 2 (machine pc word segments) streams (word 10 % 256) streams
ends_with_word address code k pc word segments streams there at block legal =
    let m : MachineState = machine pc word segments in
    let m1 : MachineState = given 17 93 m in
    let c : Calculated address code k 1 m m1 =
    calculated address code k (Addi 17 0 (pos 93) ∷ []) m m1 there at (block.0, tt) (legal.0, tt)
    (Gives _ _ m m1 17 93 (λ s. refl) (Done m1)) in
    let ended : machine_step m1 streams ≡ Ended (word 10 % 256) streams =
    steps_at address code (k + 1) Ecall m1 streams c.code_at c.pc block.1.0 tt in
    record {
      count = 2;
      some = omega arith;
      few = omega arith;
      ends = then_step 1 (Running m streams) m1 streams (Ended (word 10 % 256) streams) (c.runs streams) ended;
    }

-- each of some words is one, also with another word in one's place
pub all_set : (P : ℕ → Type 0) (xs : List ℕ) (i v : ℕ) → All P xs → P v → All P (slice_set xs i v)
all_set P [] i v all p k d h = absurd (let none : k < 0 = h in omega (arith, none))
all_set P (x ∷ xs) zero v all p zero d h = p
all_set P (x ∷ xs) zero v all p (suc k) d h = all (suc k) d h
all_set P (x ∷ xs) (suc i) v all p zero d h = all 0 d (omega arith)
all_set P (x ∷ xs) (suc i) v all p (suc k) d h =
    all_set P xs i v (λ k' d' h'. all (suc k') d' (omega (arith, h'))) p k d (omega (arith, h))

abbrev pub IsWord : ℕ → Type 0
IsWord n = n < 2 ^ 64

-- operands of instructions with an immediate
pub set_legal : (rd rs1 imm : ℕ) → rd < 32 → rs1 < 32 → imm < 2048 → (rd < 32) × (rs1 < 32) × IsImmediate (pos imm)
set_legal rd rs1 imm h h' small = (h, h', (omega (arith, ints), omega (arith, ints, small)))

min_one : (n : ℕ) → min 1 (suc n) ≡ 1
min_one n = omega arith

one_at_most : (xs : List ℕ) → length (take 1 xs) ≤ scratch_bytes
one_at_most [] = omega arith
one_at_most (x ∷ xs) = omega arith

-- a jump to the address in x1, which is even
jumps_back : (n : ℕ) → n < 2 ^ 64 → n % 2 ≡ 0 → without_bit_0 (low_bits 64 (pos n +ℤ pos 0)) ≡ n
jumps_back n h even = omega (arith, h, even)

smaller : (place count count' other n : ℕ) → count ≤ count' → AreApart place count' other n
    → AreApart place count other n
smaller place count count' other n h (inl low) = inl (omega (arith, h, low))
smaller place count count' other n h (inr high) = inr high

-- memory in which a part of the scratch bytes was written
keeps_scratch : (m m' new new' : MachineState) (bytes : List ℕ) → length bytes ≤ scratch_bytes
    → All (λ byte. byte < 256) bytes → m'.segments ≡ m.segments → new'.segments ≡ new.segments
    → Writes (register m 2 + scratch_at) bytes m' new → KeepsMemory m new'
keeps_scratch m m' new new' bytes few small e e' writes = record {
  bytes = bytes;
  few = few;
  small = small;
  writes = writes_between (register m 2 + scratch_at) bytes m' m new new' (sym e) e' writes;
}

-- one byte, and none
one_byte : (byte : ℕ) → byte < 256 → All (λ b. b < 256) (byte ∷ [])
one_byte byte small zero d h = small
one_byte byte small (suc k) d h = absurd (omega (arith, h))

no_byte : All (λ b. b < 256) []
no_byte k d h = absurd (omega (arith, h))

-- a byte written to the output
pub writes_a_byte : (address pc : ℕ) (word : ℕ → ℕ) (segments : List Segment) (streams : Streams)
    → CodeAt address (code_of WriteByte) (machine pc word segments) → HasRegisters (machine pc word segments)
    → pc ≡ address → HasScratch (word 2) address 7 (machine pc word segments) → word 1 % 2 ≡ 0
    → (new : MachineState) × Returns 7 (machine pc word segments) streams new
    (record streams { output = streams.output ++ (word 10 % 256) ∷ [] })
writes_a_byte address pc word segments streams there has at scratch even =
    let code : List Ins = code_of WriteByte in
    let m : MachineState = machine pc word segments in
    let begin : pc ≡ address + 4 * 0 = omega (arith, at) in
    let room : word 2 + scratch_at + scratch_bytes ≤ 2 ^ 64 = scratch.fits in
    let a : ℕ = low_bits 64 (pos (word 2) +ℤ pos scratch_at) in
    let is_a : a ≡ word 2 + scratch_at = sum_of (word 2) scratch_at (omega (arith, room)) in
    let may_write : MayWrite m (word 2 + scratch_at) 1 =
    allowed_within (λ s. s.write) (word 2 + scratch_at) scratch_bytes (word 2 + scratch_at) 1 segments
    (omega arith) (omega arith) scratch.write in
    let store = stored m 1 (word 2 + scratch_at) (word 10) streams there.segments may_write in
    let step : machine_step m streams ≡ Running store.0 streams =
    steps_at address code 0 (Sb 2 10 (pos scratch_at)) m streams there begin refl
    (set_legal 2 10 96 (omega arith) (omega arith) (omega arith))
    ∙ ap (λ p. stores m 1 p (word 10) streams) is_a ∙ store.1 in
    let m1 : MachineState = machine (address + 4 * 1) word store.0.segments in
    let same : store.0 ≡ m1 = by_parts store.0 (address + 4 * 1) (registers_of word)
    (store.2 ∙ next_place address code 0 (Sb 2 10 (pos scratch_at)) m there begin refl) store.3 in
    let writes : Writes (word 2 + scratch_at) (little_bytes 1 (word 10)) m m1 =
    subst (Writes (word 2 + scratch_at) (little_bytes 1 (word 10)) m) same store.4 in
    let apart : AreApart (word 2 + scratch_at) 1 address (4 * 7) =
    smaller (word 2 + scratch_at) 1 scratch_bytes address (4 * 7) (omega arith) scratch.apart in
    let there1 : CodeAt address code m1 =
    code_kept address code (word 2 + scratch_at) (little_bytes 1 (word 10)) m m1 there writes apart in
    let m2 : MachineState = given 11 a m1 in
    let m3 : MachineState = given 10 1 m2 in
    let m4 : MachineState = given 12 1 m3 in
    let m5 : MachineState = given 17 64 m4 in
    let c : Calculated address code 1 4 m1 m5 =
    calculated address code 1
    (Addi 11 2 (pos scratch_at) ∷ Addi 10 0 (pos 1) ∷ Addi 12 0 (pos 1) ∷ Addi 17 0 (pos 64) ∷ []) m1 m5 there1 refl
    (refl, (refl, (refl, (refl, tt)))) (
      (set_legal 11 2 96 (omega arith) (omega arith) (omega arith)),
      (
        (set_legal 10 0 1 (omega arith) (omega arith) (omega arith)),
        (
          (set_legal 12 0 1 (omega arith) (omega arith) (omega arith)),
          ((set_legal 17 0 64 (omega arith) (omega arith) (omega arith)), tt),
        ),
      ),
    )
    (Gives _ _ m1 m5 11 a (λ s. refl) (Gives _ _ m2 m5 10 1 (λ s. refl) (Gives _ _ m3 m5 12 1 (λ s. refl)
    (Gives _ _ m4 m5 17 64 (λ s. refl) (Done m5))))) in
    let byte : ℕ = word 10 % 256 in
    let is_byte : little_bytes 1 (word 10) ≡ byte ∷ [] = refl in
    let may_read : MayRead m5 a 1 =
    subst (λ p. MayRead m5 p 1) (sym is_a)
    ((writes.allows (word 2 + scratch_at) 1).read
    ∙ allowed_within (λ s. s.read) (word 2 + scratch_at) scratch_bytes (word 2 + scratch_at) 1 segments
    (omega arith) (omega arith) scratch.read) in
    let stands : Bytes m5 a (byte ∷ []) =
    subst (λ p. Bytes m5 p (byte ∷ [])) (sym is_a)
    (same_bytes m1 m5 (word 2 + scratch_at) (byte ∷ []) refl
    (subst (Bytes m1 (word 2 + scratch_at)) is_byte writes.written)) in
    let after_write : Streams = record streams { output = streams.output ++ byte ∷ [] } in
    let m6 : MachineState = given 10 1 m5 in
    let wrote : machine_step m5 streams ≡ Running m6 after_write =
    steps_at address code 5 Ecall m5 streams c.code_at c.pc refl tt
    ∙ written_by m5 to_output (byte ∷ []) streams c.code_at.segments (λ zero. cc) refl may_read stands in
    let pc6 : m6.pc ≡ address + 4 * 6 = next_place address code 5 Ecall m5 c.code_at c.pc refl in
    let there6 : CodeAt address code m6 = code_in_same_memory address code m5 m6 c.code_at refl in
    let fits1 : word 1 < 2 ^ 64 = has.words 1 0 (omega arith) in
    let new : MachineState = record { pc = word 1; registers = m6.registers; segments = m6.segments } in
    let jumped : machine_step m6 after_write ≡ Running new after_write =
    steps_at address code 6 (Jalr 0 1 (pos 0)) m6 after_write there6 pc6 refl
    ((set_legal 0 1 0 (omega arith) (omega arith) (omega arith)))
    ∙ ap (λ p. Running (record { pc = p; registers = m6.registers; segments = m6.segments }) after_write)
    (jumps_back (word 1) fits1 even) in
    let fits_a : a < 2 ^ 64 = omega (arith, is_a, room) in
    let first : after machine_step 1 (Running m streams) ≡ Running m1 streams =
    step ∙ ap (λ n. Running n streams) same in
    let fifth : after machine_step 5 (Running m streams) ≡ Running m5 streams =
    then_steps 1 4 (Running m streams) m1 streams (Running m5 streams) first (c.runs streams) in
    let sixth : after machine_step 6 (Running m streams) ≡ Running m6 after_write =
    then_step 5 (Running m streams) m5 streams (Running m6 after_write) fifth wrote in (
      new,
      record {
        within = record {
          count = 7;
          some = omega arith;
          few = omega arith;
          leads = then_step 6 (Running m streams) m6 after_write (Running new after_write) sixth jumped;
          registers = record {
            count = refl;
            x0 = refl;
            words = all_set IsWord m5.registers 10 1
                (all_set IsWord m4.registers 17 64 (all_set IsWord m3.registers 12 1 (all_set IsWord m2.registers 10 1
                (all_set IsWord (registers_of word) 11 a has.words fits_a) (omega arith)) (omega arith)) (omega arith))
                (omega arith);
          };
        };
        pc = refl;
        kept = refl;
        memory = keeps_scratch m m m1 new (little_bytes 1 (word 10)) (omega arith)
            (one_byte (word 10 % 256) (omega arith)) refl refl writes;
      },
    )

-- ---- reading

-- the registers for the call that reads
abbrev pub to_read : (ℕ → ℕ) → ℕ → List ℕ
to_read word a = slice_set (slice_set (slice_set (slice_set (registers_of word) 11 a) 10 0) 12 1) 17 63

-- the machine behind that call
abbrev pub behind_read : ℕ → (ℕ → ℕ) → ℕ → ℕ → List Segment → MachineState
behind_read address word a count segments =
    record { pc = address + 4 * 5; registers = slice_set (to_read word a) 10 count; segments = segments }

-- what the machine has taken there
record Took (address pc : ℕ) (word : ℕ → ℕ) (a : ℕ) (segments : List Segment) (input output error : List ℕ)
    : Type 0 where
  next : List Segment
  runs : after machine_step 5 (Running (machine pc word segments)
      (record { input = input; output = output; error = error }))
      ≡ Running (behind_read address word a (min 1 (length input)) next)
      (record { input = drop 1 input; output = output; error = error })
  code_at : CodeAt address (code_of ReadByte) (behind_read address word a (min 1 (length input)) next)
  writes : Writes (word 2 + scratch_at) (take 1 input) (machine pc word segments)
      (behind_read address word a (min 1 (length input)) next)

takes : (address pc : ℕ) (word : ℕ → ℕ) (segments : List Segment) (input output error : List ℕ)
    → CodeAt address (code_of ReadByte) (machine pc word segments) → pc ≡ address
    → HasScratch (word 2) address 10 (machine pc word segments)
    → Took address pc word (low_bits 64 (pos (word 2) +ℤ pos scratch_at)) segments input output error
takes address pc word segments input output error there at scratch =
    let code : List Ins = code_of ReadByte in
    let streams : Streams = record { input = input; output = output; error = error } in
    let left : Streams = record { input = drop 1 input; output = output; error = error } in
    let m : MachineState = machine pc word segments in
    let begin : pc ≡ address + 4 * 0 = omega (arith, at) in
    let room : word 2 + scratch_at + scratch_bytes ≤ 2 ^ 64 = scratch.fits in
    let a : ℕ = low_bits 64 (pos (word 2) +ℤ pos scratch_at) in
    let is_a : a ≡ word 2 + scratch_at = sum_of (word 2) scratch_at (omega (arith, room)) in
    let m1 : MachineState = given 11 a m in
    let m2 : MachineState = given 10 0 m1 in
    let m3 : MachineState = given 12 1 m2 in
    let m4 : MachineState = given 17 63 m3 in
    let c : Calculated address code 0 4 m m4 =
    calculated address code 0
    (Addi 11 2 (pos scratch_at) ∷ Addi 10 0 (pos 0) ∷ Addi 12 0 (pos 1) ∷ Addi 17 0 (pos 63) ∷ []) m m4 there begin
    (refl, (refl, (refl, (refl, tt)))) (
      (set_legal 11 2 96 (omega arith) (omega arith) (omega arith)),
      (
        (set_legal 10 0 0 (omega arith) (omega arith) (omega arith)),
        (
          (set_legal 12 0 1 (omega arith) (omega arith) (omega arith)),
          ((set_legal 17 0 63 (omega arith) (omega arith) (omega arith)), tt),
        ),
      ),
    )
    (Gives _ _ m m4 11 a (λ s. refl) (Gives _ _ m1 m4 10 0 (λ s. refl) (Gives _ _ m2 m4 12 1 (λ s. refl)
    (Gives _ _ m3 m4 17 63 (λ s. refl) (Done m4))))) in
    let may : MayWrite m4 a 1 =
    subst (λ p. MayWrite m4 p 1) (sym is_a)
    (allowed_within (λ s. s.write) (word 2 + scratch_at) scratch_bytes (word 2 + scratch_at) 1 segments
    (omega arith) (omega arith) scratch.write) in
    let read = reads_by m4 streams c.code_at.segments (λ zero. cc) may in
    let m5 : MachineState = behind_read address word a (min 1 (length input)) read.0.segments in
    let same : read.0 ≡ m5 =
    by_parts read.0 (address + 4 * 5) (slice_set (to_read word a) 10 (min 1 (length input)))
    (read.2 ∙ next_place address code 4 Ecall m4 c.code_at c.pc refl) read.3 in
    let step : machine_step m4 streams ≡ Running m5 left =
    steps_at address code 4 Ecall m4 streams c.code_at c.pc refl tt ∙ read.1 ∙ ap (λ n. Running n left) same in
    let writes : Writes (word 2 + scratch_at) (take 1 input) m m5 =
    writes_between (word 2 + scratch_at) (take 1 input) m4 m read.0 m5 refl refl
    (subst (λ p. Writes p (take 1 input) m4 read.0) is_a read.4) in
    let apart : AreApart (word 2 + scratch_at) (length (take 1 input)) address (4 * 10) =
    smaller (word 2 + scratch_at) (length (take 1 input)) scratch_bytes address (4 * 10) (one_at_most input)
    scratch.apart in
    record {
      next = read.0.segments;
      runs = then_step 4 (Running m streams) m4 streams (Running m5 left) (c.runs streams) step;
      code_at = code_kept address code (word 2 + scratch_at) (take 1 input) m m5 there writes apart;
      writes = writes;
    }

-- behind the call, with a word in x10, back to the caller
returns_from : (address pc : ℕ) (word : ℕ → ℕ) (a : ℕ) (segments : List Segment) (streams streams' : Streams)
    (count k value : ℕ) (bytes : List ℕ) (next : List Segment)
    → HasRegisters (machine pc word segments) → a < 2 ^ 64 → value < 2 ^ 64 → word 1 % 2 ≡ 0
    → length bytes ≤ scratch_bytes → All (λ byte. byte < 256) bytes → count < 8
    → Writes (word 2 + scratch_at) bytes (machine pc word segments)
    (record { pc = address + 4 * k; registers = slice_set (to_read word a) 10 value; segments = next })
    → CodeAt address (code_of ReadByte)
    (record { pc = address + 4 * k; registers = slice_set (to_read word a) 10 value; segments = next })
    → slice_get (code_of ReadByte) k ≡ Some (Jalr 0 1 (pos 0))
    → after machine_step count (Running (machine pc word segments) streams)
    ≡ Running (record { pc = address + 4 * k; registers = slice_set (to_read word a) 10 value; segments = next })
    streams'
    → (new : MachineState) × Returns 8 (machine pc word segments) streams new streams' × (register new 10 ≡ value)
returns_from address pc word a segments streams streams' count k value bytes next has fits_a fits_value even few small
    less writes there here runs =
    let m : MachineState = machine pc word segments in
    let m7 : MachineState = record
    { pc = address + 4 * k; registers = slice_set (to_read word a) 10 value; segments = next } in
    let new : MachineState = record { pc = word 1; registers = m7.registers; segments = next } in
    let fits1 : word 1 < 2 ^ 64 = has.words 1 0 (omega arith) in
    let jumped : machine_step m7 streams' ≡ Running new streams' =
    steps_at address (code_of ReadByte) k (Jalr 0 1 (pos 0)) m7 streams' there refl here
    ((set_legal 0 1 0 (omega arith) (omega arith) (omega arith)))
    ∙ ap (λ p. Running (record { pc = p; registers = m7.registers; segments = next }) streams')
    (jumps_back (word 1) fits1 even) in
    let set : All IsWord (to_read word a) =
    all_set IsWord (slice_set (slice_set (slice_set (registers_of word) 11 a) 10 0) 12 1) 17 63
    (all_set IsWord (slice_set (slice_set (registers_of word) 11 a) 10 0) 12 1
    (all_set IsWord (slice_set (registers_of word) 11 a) 10 0
    (all_set IsWord (registers_of word) 11 a has.words fits_a) (omega arith)) (omega arith)) (omega arith) in (
      new,
      record {
        within = record {
          count = count + 1;
          some = omega arith;
          few = omega (arith, less);
          leads = then_step count (Running m streams) m7 streams' (Running new streams') runs jumped;
          registers = record {
            count = refl;
            x0 = refl;
            words = all_set IsWord (to_read word a) 10 value set fits_value;
          };
        };
        pc = refl;
        kept = refl;
        memory = keeps_scratch m m m7 new bytes few small refl refl writes;
      },
      refl,
    )

-- a byte that is there
pub reads_a_byte : (address pc : ℕ) (word : ℕ → ℕ) (segments : List Segment) (byte : ℕ) (rest output error : List ℕ)
    → CodeAt address (code_of ReadByte) (machine pc word segments) → HasRegisters (machine pc word segments)
    → pc ≡ address → HasScratch (word 2) address 10 (machine pc word segments) → word 1 % 2 ≡ 0 → byte < 256
    → (new : MachineState) × Returns 8 (machine pc word segments)
    (record { input = byte ∷ rest; output = output; error = error }) new
    (record { input = rest; output = output; error = error }) × (register new 10 ≡ byte)
reads_a_byte address pc word segments byte rest output error there has at scratch even small =
    let code : List Ins = code_of ReadByte in
    let streams : Streams = record { input = byte ∷ rest; output = output; error = error } in
    let left : Streams = record { input = rest; output = output; error = error } in
    let m : MachineState = machine pc word segments in
    let room : word 2 + scratch_at + scratch_bytes ≤ 2 ^ 64 = scratch.fits in
    let a : ℕ = low_bits 64 (pos (word 2) +ℤ pos scratch_at) in
    let is_a : a ≡ word 2 + scratch_at = sum_of (word 2) scratch_at (omega (arith, room)) in
    let fits_a : a < 2 ^ 64 = omega (arith, is_a, room) in
    let t : Took address pc word a segments (byte ∷ rest) output error =
    takes address pc word segments (byte ∷ rest) output error there at scratch in
    let one : min 1 (length (byte ∷ rest)) ≡ 1 = min_one (length rest) in
    let m5 : MachineState = behind_read address word a 1 t.next in
    let runs5 : after machine_step 5 (Running m streams) ≡ Running m5 left =
    t.runs ∙ ap (λ n. Running (behind_read address word a n t.next) left) one in
    let there5 : CodeAt address code m5 = code_in_same_memory address code _ m5 t.code_at refl in
    let writes5 : Writes (word 2 + scratch_at) (byte ∷ []) m m5 =
    writes_between (word 2 + scratch_at) (byte ∷ []) m m _ m5 refl refl t.writes in
    let m6 : MachineState = record { pc = address + 4 * 6; registers = m5.registers; segments = t.next } in
    let went : machine_step m5 left ≡ Running m6 left =
    steps_at address code 5 (Beq 10 0 (pos 12)) m5 left there5 refl refl
    (omega arith, omega arith, (omega (arith, ints), omega (arith, ints), refl))
    ∙ ap (λ p. Running (record { pc = p; registers = m5.registers; segments = t.next }) left)
    (next_place address code 5 (Beq 10 0 (pos 12)) m5 there5 refl refl) in
    let there6 : CodeAt address code m6 = code_in_same_memory address code m5 m6 there5 refl in
    let may : MayRead m6 a 1 =
    subst (λ p. MayRead m6 p 1) (sym is_a)
    ((writes5.allows (word 2 + scratch_at) 1).read
    ∙ allowed_within (λ s. s.read) (word 2 + scratch_at) scratch_bytes (word 2 + scratch_at) 1 segments
    (omega arith) (omega arith) scratch.read) in
    let stands : Bytes m6 a (byte ∷ []) =
    subst (λ p. Bytes m6 p (byte ∷ [])) (sym is_a)
    (same_bytes m5 m6 (word 2 + scratch_at) (byte ∷ []) refl writes5.written) in
    let is_byte : little_number 1 (byte ∷ []) ≡ byte = omega arith in
    let m7 : MachineState = record
    { pc = address + 4 * 7; registers = slice_set (to_read word a) 10 byte; segments = t.next } in
    let loaded : machine_step m6 left ≡ Running m7 left =
    steps_at address code 6 (Lbu 10 2 (pos scratch_at)) m6 left there6 refl refl
    ((set_legal 10 2 96 (omega arith) (omega arith) (omega arith)))
    ∙ loads_by m6 10 1 a (byte ∷ []) (λ n. n) left there6.segments refl may stands
    ∙ ap (λ v. Running (given 10 v m6) left) is_byte
    ∙ ap (λ p. Running (record { pc = p; registers = m7.registers; segments = t.next }) left)
    (next_place address code 6 (Lbu 10 2 (pos scratch_at)) m6 there6 refl refl) in
    let sixth : after machine_step 6 (Running m streams) ≡ Running m6 left =
    then_step 5 (Running m streams) m5 left (Running m6 left) runs5 went in
    let seventh : after machine_step 7 (Running m streams) ≡ Running m7 left =
    then_step 6 (Running m streams) m6 left (Running m7 left) sixth loaded in
    returns_from address pc word a segments streams left 7 7 byte (byte ∷ []) t.next has fits_a (omega (arith, small))
    even (omega arith) (one_byte byte small) (omega arith)
    (writes_between (word 2 + scratch_at) (byte ∷ []) m m m5 m7 refl refl writes5)
    (code_in_same_memory address code m6 m7 there6 refl) refl seventh

-- no byte
pub reads_no_byte : (address pc : ℕ) (word : ℕ → ℕ) (segments : List Segment) (output error : List ℕ)
    → CodeAt address (code_of ReadByte) (machine pc word segments) → HasRegisters (machine pc word segments)
    → pc ≡ address → HasScratch (word 2) address 10 (machine pc word segments) → word 1 % 2 ≡ 0
    → (new : MachineState) × Returns 8 (machine pc word segments)
    (record { input = []; output = output; error = error }) new
    (record { input = []; output = output; error = error }) × (register new 10 ≡ 2 ^ 64 - 1)
reads_no_byte address pc word segments output error there has at scratch even =
    let code : List Ins = code_of ReadByte in
    let streams : Streams = record { input = []; output = output; error = error } in
    let m : MachineState = machine pc word segments in
    let room : word 2 + scratch_at + scratch_bytes ≤ 2 ^ 64 = scratch.fits in
    let a : ℕ = low_bits 64 (pos (word 2) +ℤ pos scratch_at) in
    let is_a : a ≡ word 2 + scratch_at = sum_of (word 2) scratch_at (omega (arith, room)) in
    let fits_a : a < 2 ^ 64 = omega (arith, is_a, room) in
    let t : Took address pc word a segments [] output error =
    takes address pc word segments [] output error there at scratch in
    let m5 : MachineState = behind_read address word a 0 t.next in
    let fits : address + 4 * 10 < 2 ^ 64 = there.fits in
    let m6 : MachineState = record { pc = address + 4 * 8; registers = m5.registers; segments = t.next } in
    let target : low_bits 64 (pos (address + 4 * 5) +ℤ pos 12) ≡ address + 4 * 8 =
    sum_of (address + 4 * 5) 12 (omega (arith, fits)) ∙ omega arith in
    let went : machine_step m5 streams ≡ Running m6 streams =
    steps_at address code 5 (Beq 10 0 (pos 12)) m5 streams t.code_at refl refl
    (omega arith, omega arith, (omega (arith, ints), omega (arith, ints), refl))
    ∙ ap (λ p. Running (record { pc = p; registers = m5.registers; segments = t.next }) streams) target in
    let there6 : CodeAt address code m6 = code_in_same_memory address code m5 m6 t.code_at refl in
    let m7 : MachineState = record
    { pc = address + 4 * 9; registers = slice_set (to_read word a) 10 (2 ^ 64 - 1); segments = t.next } in
    let set : machine_step m6 streams ≡ Running m7 streams =
    steps_at address code 8 (Addi 10 0 (negsuc 0)) m6 streams there6 refl refl
    (omega arith, omega arith, (omega (arith, ints), omega (arith, ints)))
    ∙ ap (λ p. Running (record { pc = p; registers = m7.registers; segments = t.next }) streams)
    (next_place address code 8 (Addi 10 0 (negsuc 0)) m6 there6 refl refl) in
    let sixth : after machine_step 6 (Running m streams) ≡ Running m6 streams =
    then_step 5 (Running m streams) m5 streams (Running m6 streams) t.runs went in
    let seventh : after machine_step 7 (Running m streams) ≡ Running m7 streams =
    then_step 6 (Running m streams) m6 streams (Running m7 streams) sixth set in
    returns_from address pc word a segments streams streams 7 9 (2 ^ 64 - 1) [] t.next has fits_a (omega arith)
    even (omega arith) no_byte (omega arith) (writes_between (word 2 + scratch_at) [] m m m5 m7 refl refl t.writes)
    (code_in_same_memory address code m6 m7 there6 refl) refl seventh

-- The routine that enters a program.
use Rattle.std.proofs.Common.{◌≡◌, ◌∙◌, inr, ℕ, suc, ◌+◌, ◌-◌, ◌*◌, ◌/◌, ◌%◌, ◌^◌, ◌<◌, ◌≤◌, ℤ, pos, negsuc, ◌+ℤ◌}
use Rattle.std.proofs.Common.{◌-ℤ◌, replicate}
use Rattle.std.proofs.Common.{List, [], ◌∷◌, length, All, nat_lt, take, if◌then◌else◌, true, false, arith, refl}
use Rattle.std.proofs.Common.{ap, sym, subst, slice_set}
use Rattle.std.proofs.lemmas.Bool.{le-ltb, lt-ltb}
use Rattle.std.proofs.lemmas.Int.{ints}
use Rattle.std.proofs.lemmas.List.{length-replicate}
use Rattle.std.specs.Int.{cast_signed, w32}
use Rattle.byteorder.specs.Endian.{little_bytes}
use Rattle.num_core.specs.Bits.{low_bits}
use Rattle.num_core.specs.Run.{Running, Ended, Streams, after}
use Rattle.rv_isa.specs.declared.ins.Ins.{Ins}
use Rattle.rv_isa.specs.declared.ins.Ins.TheVariants.{Add, Auipc, Bltu, Jalr, Ld, Lui, Lwu, Sd, Srli, Sub}
use Rattle.rv_isa.specs.Instructions.{word_of}
use Rattle.rv_step.specs.Machine.{MachineState, address, effect, loads, machine_step, next_pc, register, stores}
use Rattle.rv_step.specs.Machine.{without_bit_0}
use Rattle.rv_step.specs.Memory.{Bytes, MayRead, Number, Writes}
use Rattle.rv_step.specs.Segments.{AreSegments}
use Rattle.rv_step.specs.declared.segment.Segment.{Segment}
use Rattle.rv_step.proofs.AddressLaws.{loads_number, stored}
use Rattle.rv_step.proofs.Addresses.{allowed_within}
use Rattle.rv_code.specs.Code.{AllLegal, Calculated, CodeAt, Done, Gives, given}
use Rattle.rv_code.specs.Registers.{registers_of}
use Rattle.rv_code.proofs.Going.{block_at, calculated, code_in_same_memory, code_kept, next_place, same_bytes}
use Rattle.rv_code.proofs.Going.{steps_at}
use Rattle.rv_code.proofs.Spelled.{by_parts}
use Rattle.lir_core.specs.Calls.{stack_text}
use Rattle.rt_code.specs.Code.{code_of, line}
use Rattle.rt_code.specs.Conventions.{HasScratch, first_argument}
use Rattle.rt_code.specs.Effects.{Begins, EndsWithin, Enters, Front, HasRoom, LeadsWithin, Root, argument_place}
use Rattle.rt_code.specs.Effects.{frames_begin, frames_end, heap_begin, with_error}
use Rattle.rt_code.specs.declared.routines.Routine.TheVariants.{Start}
use Rattle.rt_code.proofs.Lines.{IsLine, ends_line}
use Rattle.rt_code.proofs.Machines.{holding, machine, sum_of, then_step, then_steps, writes_between}
use Rattle.rt_code.proofs.Passing.{IsWord, all_set, set_legal}

-- a word of 8 bytes that stands in memory, loaded
loads_there : (m m' : MachineState) (rd rs1 : ℕ) (imm : ℤ) (place value : ℕ) → m'.segments ≡ m.segments
    → AreSegments m.segments → value < 2 ^ 64 → address m' rs1 imm ≡ place → MayRead m place 8
    → Number m place 8 value → (s : Streams) → effect (Ld rd rs1 imm) m' s ≡ Running (given rd value m') s
loads_there m m' rd rs1 imm place value same segments fits at may there s =
    ap (λ a. loads m' rd 8 a (λ n. n) s) at
    ∙ loads_number m' rd 8 place value (λ n. n) s (subst AreSegments (sym same) segments) fits
    (subst (λ ss. MayRead (record m' { segments = ss }) place 8) (sym same) may)
    (same_bytes m m' place (little_bytes 8 value) same there)

difference_of : (a b : ℕ) → suc b ≤ a → a < 2 ^ 64 → low_bits 64 (pos a +ℤ negsuc b) ≡ a - suc b
difference_of a b h fits =
    let e : pos a +ℤ negsuc b ≡ pos (a - suc b) = omega (arith, ints, h) in
    ap (low_bits 64) e ∙ (let n : (a - suc b) % 2 ^ 64 ≡ a - suc b = omega (arith, fits) in n)

subtracted : (a b : ℕ) → b ≤ a → a < 2 ^ 64 → low_bits 64 (pos a -ℤ pos b) ≡ a - b
subtracted a b h fits =
    let e : pos a -ℤ pos b ≡ pos (a - b) = omega (arith, ints, h) in
    ap (low_bits 64) e ∙ (let n : (a - b) % 2 ^ 64 ≡ a - b = omega (arith, fits) in n)

-- the frame's size in the first word of a body
frame_in_word : (frame : ℕ) → frame < 2 ^ 20 → word_of (Lui 0 frame) / 2 ^ 12 ≡ frame
frame_in_word frame h = omega (arith, h)

word_fits : (frame : ℕ) → frame < 2 ^ 20 → word_of (Lui 0 frame) < 2 ^ 32
word_fits frame h = omega (arith, h)

-- the address of an instruction, as it gives it
pc_value : (a pc : ℕ) → pc ≡ a + 4 * 0 → a < 2 ^ 64 → low_bits 64 (pos pc +ℤ cast_signed w32 (0 * 2 ^ 12)) ≡ a
pc_value a pc at h = let e : pc ≡ a = omega (arith, at) in
    ap (λ p. low_bits 64 (pos p +ℤ pos 0)) e ∙ (let n : a + 0 ≡ a = omega arith in sum_of a 0 (omega (arith, h)) ∙ n)

-- a jump to an address that is a multiple of 4
jumps_to : (n : ℕ) → n < 2 ^ 64 → n % 4 ≡ 0 → without_bit_0 (low_bits 64 (pos n +ℤ pos 0)) ≡ n
jumps_to n h even = omega (arith, h, even)

-- the registers behind the first eleven instructions
abbrev pub begun : ℕ → (ℕ → ℕ) → Front → Root → ℕ → List ℕ
begun address word front root frame =
    slice_set (slice_set (slice_set (slice_set (slice_set (slice_set (slice_set (slice_set (slice_set (slice_set
    (slice_set (registers_of word) 5 address) 3 front.root) 6 root.distance) 27 (heap_begin front root)) 6 front.heap)
    26 (frames_begin front root)) 6 front.stack) 2 (frames_end front root)) 28 root.body)
    7 (word_of (Lui 0 frame))) 7 frame

-- all of them are words
begun_words : (address : ℕ) (word : ℕ → ℕ) (front : Front) (root : Root) (frame : ℕ) → All IsWord (registers_of word)
    → address < 2 ^ 64 → frames_end front root < 2 ^ 64 → root.body < 2 ^ 64 → frame < 2 ^ 20
    → All IsWord (begun address word front root frame)
begun_words address word front root frame has fits end body small =
    let sum : front.root + root.distance + front.heap + front.stack < 2 ^ 64 = end in
    let r1 : List ℕ = slice_set (registers_of word) 5 address in
    let r2 : List ℕ = slice_set r1 3 front.root in
    let r3 : List ℕ = slice_set r2 6 root.distance in
    let r4 : List ℕ = slice_set r3 27 (heap_begin front root) in
    let r5 : List ℕ = slice_set r4 6 front.heap in
    let r6 : List ℕ = slice_set r5 26 (frames_begin front root) in
    let r7 : List ℕ = slice_set r6 6 front.stack in
    let r8 : List ℕ = slice_set r7 2 (frames_end front root) in
    let r9 : List ℕ = slice_set r8 28 root.body in
    let r10 : List ℕ = slice_set r9 7 (word_of (Lui 0 frame)) in
    let word_small : word_of (Lui 0 frame) < 2 ^ 32 = word_fits frame small in
    let set1 : All IsWord r1 = all_set IsWord (registers_of word) 5 address has fits in
    let set2 : All IsWord r2 = all_set IsWord r1 3 front.root set1 (omega (arith, sum)) in
    let set3 : All IsWord r3 = all_set IsWord r2 6 root.distance set2 (omega (arith, sum)) in
    let set4 : All IsWord r4 = all_set IsWord r3 27 (heap_begin front root) set3 (omega (arith, sum)) in
    let set5 : All IsWord r5 = all_set IsWord r4 6 front.heap set4 (omega (arith, sum)) in
    let set6 : All IsWord r6 = all_set IsWord r5 26 (frames_begin front root) set5 (omega (arith, sum)) in
    let set7 : All IsWord r7 = all_set IsWord r6 6 front.stack set6 (omega (arith, sum)) in
    let set8 : All IsWord r8 = all_set IsWord r7 2 (frames_end front root) set7 end in
    let set9 : All IsWord r9 = all_set IsWord r8 28 root.body set8 body in
    let set10 : All IsWord r10 = all_set IsWord r9 7 (word_of (Lui 0 frame)) set9 (omega (arith, word_small)) in
    all_set IsWord r10 7 frame set10 (omega (arith, small))

-- the machine there
record Begun (address pc : ℕ) (word : ℕ → ℕ) (segments : List Segment) (front : Front) (root : Root) (frame : ℕ)
    : Type 0 where
  runs : (streams : Streams) → after machine_step 11 (Running (machine pc word segments) streams)
      ≡ Running (record {
        pc = address + 4 * 11;
        registers = begun address word front root frame;
        segments = segments;
      }) streams
  code_at : CodeAt address (code_of Start)
      (record { pc = address + 4 * 11; registers = begun address word front root frame; segments = segments })

begins : (address pc : ℕ) (word : ℕ → ℕ) (segments : List Segment) (front : Front) (root : Root) (frame : ℕ)
    → Begins address (code_of Start) front root frame (machine pc word segments)
    → Begun address pc word segments front root frame
begins a pc word segments front root frame b =
    let code : List Ins = code_of Start in
    let m : MachineState = machine pc word segments in
    let begin : pc ≡ a + 4 * 0 = let at : pc ≡ a = b.comes.pc in omega (arith, at) in
    let fits : a + 4 * 41 < 2 ^ 64 = b.comes.code_at.fits in
    let apart : AreSegments segments = b.comes.code_at.segments in
    let room : front.root + 24 ≤ 2 ^ 64 = b.root_at.fits in
    let far : 24 ≤ a = b.front_at.behind in
    let sum : front.root + root.distance + front.heap + front.stack < 2 ^ 64 = b.frames_fit in
    let body_fits : root.body < 2 ^ 64 = b.words.0 in
    let m1 : MachineState = given 5 a m in
    let m2 : MachineState = given 3 front.root m1 in
    let m3 : MachineState = given 6 root.distance m2 in
    let m4 : MachineState = given 27 (heap_begin front root) m3 in
    let m5 : MachineState = given 6 front.heap m4 in
    let m6 : MachineState = given 26 (frames_begin front root) m5 in
    let m7 : MachineState = given 6 front.stack m6 in
    let m8 : MachineState = given 2 (frames_end front root) m7 in
    let m9 : MachineState = given 28 root.body m8 in
    let m10 : MachineState = given 7 (word_of (Lui 0 frame)) m9 in
    let m11 : MachineState = given 7 frame m10 in
    let ahead : (k : ℕ) → 8 ≤ k → k ≤ 24 → MayRead m (a - k) 8 =
    λ k low high. allowed_within (λ s. s.read) (a - 24) 24 (a - k) 8 segments (omega (arith, far, low, high))
    (omega (arith, far, low, high)) b.front_at.read in
    let here : (i : ℕ) → i ≤ 16 → MayRead m (front.root + i) 8 =
    λ i h. allowed_within (λ s. s.read) front.root 24 (front.root + i) 8 segments (omega arith) (omega (arith, h))
    b.root_at.read in
    let zeroth : front.root + 0 ≡ front.root = omega arith in
    let e1 : (s : Streams) → effect (Auipc 5 0) m s ≡ Running m1 s =
    λ s. ap (λ v. Running (given 5 v m) s) (pc_value a pc begin (omega (arith, fits))) in
    let e2 : (s : Streams) → effect (Ld 3 5 (negsuc 23)) m1 s ≡ Running m2 s =
    loads_there m m1 3 5 (negsuc 23) (a - 24) front.root refl apart (omega (arith, sum))
    (difference_of a 23 far (omega (arith, fits))) (ahead 24 (omega arith) (omega arith)) b.front_at.root in
    let e3 : (s : Streams) → effect (Ld 6 3 (pos 16)) m2 s ≡ Running m3 s =
    loads_there m m2 6 3 (pos 16) (front.root + 16) root.distance refl apart (omega (arith, sum))
    (sum_of front.root 16 (omega (arith, room))) (here 16 (omega arith)) b.root_at.distance in
    let e4 : (s : Streams) → effect (Add 27 3 6) m3 s ≡ Running m4 s =
    λ s. ap (λ v. Running (given 27 v m3) s) (sum_of front.root root.distance (omega (arith, sum))) in
    let e5 : (s : Streams) → effect (Ld 6 5 (negsuc 15)) m4 s ≡ Running m5 s =
    loads_there m m4 6 5 (negsuc 15) (a - 16) front.heap refl apart (omega (arith, sum))
    (difference_of a 15 (omega (arith, far)) (omega (arith, fits))) (ahead 16 (omega arith) (omega arith))
    b.front_at.heap in
    let e6 : (s : Streams) → effect (Add 26 27 6) m5 s ≡ Running m6 s =
    λ s. ap (λ v. Running (given 26 v m5) s) (sum_of (heap_begin front root) front.heap (omega (arith, sum))) in
    let e7 : (s : Streams) → effect (Ld 6 5 (negsuc 7)) m6 s ≡ Running m7 s =
    loads_there m m6 6 5 (negsuc 7) (a - 8) front.stack refl apart (omega (arith, sum))
    (difference_of a 7 (omega (arith, far)) (omega (arith, fits))) (ahead 8 (omega arith) (omega arith))
    b.front_at.stack in
    let e8 : (s : Streams) → effect (Add 2 26 6) m7 s ≡ Running m8 s =
    λ s. ap (λ v. Running (given 2 v m7) s) (sum_of (frames_begin front root) front.stack (omega (arith, sum))) in
    let e9 : (s : Streams) → effect (Ld 28 3 (pos 0)) m8 s ≡ Running m9 s =
    loads_there m m8 28 3 (pos 0) front.root root.body refl apart body_fits
    (sum_of front.root 0 (omega (arith, room)) ∙ zeroth)
    (subst (λ p. MayRead m p 8) zeroth (here 0 (omega arith))) b.root_at.body in
    let body_at : address m9 28 (pos 0) ≡ root.body =
    let e : root.body + 0 ≡ root.body = omega arith in sum_of root.body 0 (omega (arith, body_fits)) ∙ e in
    let e10 : (s : Streams) → effect (Lwu 7 28 (pos 0)) m9 s ≡ Running m10 s =
    λ s. ap (λ p. loads m9 7 4 p (λ n. n) s) body_at
    ∙ loads_number m9 7 4 root.body (word_of (Lui 0 frame)) (λ n. n) s apart (word_fits frame b.frame_fits)
    b.may_read_body (same_bytes m m9 root.body (little_bytes 4 (word_of (Lui 0 frame))) refl b.says_frame) in
    let e11 : (s : Streams) → effect (Srli 7 7 12) m10 s ≡ Running m11 s =
    λ s. ap (λ v. Running (given 7 v m10) s) (frame_in_word frame b.frame_fits) in
    let block : List Ins = Auipc 5 0 ∷ Ld 3 5 (negsuc 23) ∷ Ld 6 3 (pos 16) ∷ Add 27 3 6 ∷ Ld 6 5 (negsuc 15)
    ∷ Add 26 27 6 ∷ Ld 6 5 (negsuc 7) ∷ Add 2 26 6 ∷ Ld 28 3 (pos 0) ∷ Lwu 7 28 (pos 0) ∷ Srli 7 7 12 ∷ [] in
    let legal : AllLegal block = (
      (omega arith, omega arith),
      (
        (omega arith, omega arith, (omega (arith, ints), omega (arith, ints))),
        (
          set_legal 6 3 16 (omega arith) (omega arith) (omega arith),
          (
            (omega arith, omega arith, omega arith),
            (
              (omega arith, omega arith, (omega (arith, ints), omega (arith, ints))),
              (
                (omega arith, omega arith, omega arith),
                (
                  (omega arith, omega arith, (omega (arith, ints), omega (arith, ints))),
                  (
                    (omega arith, omega arith, omega arith),
                    (
                      set_legal 28 3 0 (omega arith) (omega arith) (omega arith),
                      (
                        set_legal 7 28 0 (omega arith) (omega arith) (omega arith),
                        ((omega arith, omega arith, omega arith), tt),
                      ),
                    ),
                  ),
                ),
              ),
            ),
          ),
        ),
      ),
    ) in
    let c : Calculated a code 0 11 m m11 =
    calculated a code 0 block m m11 b.comes.code_at begin
    (refl, (refl, (refl, (refl, (refl, (refl, (refl, (refl, (refl, (refl, (refl, tt))))))))))) legal
    (Gives _ _ m m11 5 a e1 (Gives _ _ m1 m11 3 front.root e2 (Gives _ _ m2 m11 6 root.distance e3
    (Gives _ _ m3 m11 27 (heap_begin front root) e4 (Gives _ _ m4 m11 6 front.heap e5
    (Gives _ _ m5 m11 26 (frames_begin front root) e6 (Gives _ _ m6 m11 6 front.stack e7
    (Gives _ _ m7 m11 2 (frames_end front root) e8 (Gives _ _ m8 m11 28 root.body e9
    (Gives _ _ m9 m11 7 (word_of (Lui 0 frame)) e10 (Gives _ _ m10 m11 7 frame e11 (Done m11)))))))))))) in
    let there : MachineState =
    record { pc = a + 4 * 11; registers = begun a word front root frame; segments = segments } in
    let same : m11 ≡ there = ap (λ p. record { pc = p; registers = m11.registers; segments = segments }) c.pc in
    record {
      runs = λ s. c.runs s ∙ ap (λ n. Running n s) same;
      code_at = code_in_same_memory a code m11 there c.code_at refl;
    }

-- where the first argument goes
placed_at : (end frame : ℕ) → end < 2 ^ 64 → 192 ≤ frame → frame ≤ end
    → low_bits 64 (pos (end - frame) +ℤ pos 192) ≡ end - frame + 192
placed_at end frame fits least low = sum_of (end - frame) 192 (omega (arith, fits, least, low))

-- The heap is clear where it was, since the frames lie behind it.
still_clear : (begin heap stack frame : ℕ) (bytes : List ℕ) (m new : MachineState) → frame ≤ stack
    → Writes (begin + heap + stack - frame + 192) bytes m new → Bytes m begin (replicate heap 0)
    → Bytes new begin (replicate (begin + heap - begin) 0)
still_clear begin heap stack frame bytes m new low writes zeros =
    let before : List ℕ = replicate heap 0 in
    let size : length before ≡ heap = length-replicate heap 0 in
    let behind : begin + length before ≤ begin + heap + stack - frame + 192 = omega (arith, size, low) in
    let all : heap ≡ begin + heap - begin = omega arith in
    subst (λ n. Bytes new begin (replicate n 0)) all (writes.kept begin before (inr behind) zeros)

-- the registers where the first body is entered
abbrev pub entered : ℕ → (ℕ → ℕ) → Front → Root → ℕ → List ℕ
entered address word front root frame =
    slice_set (slice_set (slice_set (begun address word front root frame) 5 (frames_end front root - frame))
    29 root.argument) 1 (address + 64)

-- the machine where the argument is to be written, behind the test and two more instructions
record Ready (address pc : ℕ) (word : ℕ → ℕ) (segments : List Segment) (front : Front) (root : Root) (frame : ℕ)
    : Type 0 where
  runs : (streams : Streams) → after machine_step 14 (Running (machine pc word segments) streams)
      ≡ Running (record {
        pc = address + 4 * 14;
        registers = slice_set (slice_set (begun address word front root frame) 5 (frames_end front root - frame))
            29 root.argument;
        segments = segments;
      }) streams
  code_at : CodeAt address (code_of Start) (record {
    pc = address + 4 * 14;
    registers = slice_set (slice_set (begun address word front root frame) 5 (frames_end front root - frame))
        29 root.argument;
    segments = segments;
  })

makes_ready : (address pc : ℕ) (word : ℕ → ℕ) (segments : List Segment) (front : Front) (root : Root) (frame : ℕ)
    → Begins address (code_of Start) front root frame (machine pc word segments) → frame ≤ front.stack
    → Ready address pc word segments front root frame
makes_ready a pc word segments front root frame b h =
    let code : List Ins = code_of Start in
    let m : MachineState = machine pc word segments in
    let g : Begun a pc word segments front root frame = begins a pc word segments front root frame b in
    let registers : List ℕ = begun a word front root frame in
    let m11 : MachineState = record { pc = a + 4 * 11; registers = registers; segments = segments } in
    let m12 : MachineState = record { pc = a + 4 * 12; registers = registers; segments = segments } in
    let room : front.root + 24 ≤ 2 ^ 64 = b.root_at.fits in
    let end : frames_end front root < 2 ^ 64 = b.frames_fit in
    let not_taken : nat_lt front.stack frame ≡ false = le-ltb front.stack frame h in
    let next : next_pc m11 ≡ a + 4 * 12 = next_place a code 11 (Bltu 6 7 (pos 28)) m11 g.code_at refl refl in
    let went : (s : Streams) → machine_step m11 s ≡ Running m12 s =
    λ s. steps_at a code 11 (Bltu 6 7 (pos 28)) m11 s g.code_at refl refl
    (omega arith, omega arith, (omega (arith, ints), omega (arith, ints), refl))
    ∙ ap (λ t. Running (record {
      pc = if t then low_bits 64 (pos (a + 4 * 11) +ℤ pos 28) else next_pc m11;
      registers = registers;
      segments = segments;
    }) s) not_taken
    ∙ ap (λ p. Running (record { pc = p; registers = registers; segments = segments }) s) next in
    let there12 : CodeAt a code m12 = code_in_same_memory a code m11 m12 g.code_at refl in
    let m13 : MachineState = given 5 (frames_end front root - frame) m12 in
    let m14 : MachineState = given 29 root.argument m13 in
    let e1 : (s : Streams) → effect (Sub 5 2 7) m12 s ≡ Running m13 s =
    λ s. ap (λ v. Running (given 5 v m12) s) (subtracted (frames_end front root) frame (omega (arith, h)) end) in
    let may : MayRead m (front.root + 8) 8 =
    allowed_within (λ s. s.read) front.root 24 (front.root + 8) 8 segments (omega arith) (omega arith) b.root_at.read
    in
    let e2 : (s : Streams) → effect (Ld 29 3 (pos 8)) m13 s ≡ Running m14 s =
    loads_there m m13 29 3 (pos 8) (front.root + 8) root.argument refl b.comes.code_at.segments b.words.1
    (sum_of front.root 8 (omega (arith, room))) may b.root_at.argument in
    let c : Calculated a code 12 2 m12 m14 =
    calculated a code 12 (Sub 5 2 7 ∷ Ld 29 3 (pos 8) ∷ []) m12 m14 there12 refl (refl, (refl, tt))
    ((omega arith, omega arith, omega arith), (set_legal 29 3 8 (omega arith) (omega arith) (omega arith), tt))
    (Gives _ _ m12 m14 5 (frames_end front root - frame) e1 (Gives _ _ m13 m14 29 root.argument e2 (Done m14))) in
    let there : MachineState =
    record { pc = a + 4 * 14; registers = m14.registers; segments = segments } in
    let same : m14 ≡ there = ap (λ p. record { pc = p; registers = m14.registers; segments = segments }) c.pc in
    record {
      runs = λ s. then_steps 12 2 (Running m s) m12 s (Running there s)
          (then_step 11 (Running m s) m11 s (Running m12 s) (g.runs s) (went s))
          (c.runs s ∙ ap (λ n. Running n s) same);
      code_at = code_in_same_memory a code m14 there c.code_at refl;
    }

-- the body is entered where its frame fits
pub enters_the_body : (a pc : ℕ) (word : ℕ → ℕ) (segments : List Segment) (streams : Streams) (front : Front)
    (root : Root) (frame : ℕ) → Begins a (code_of Start) front root frame (machine pc word segments)
    → HasRoom a 41 front root frame (machine pc word segments)
    → (new : MachineState) × LeadsWithin 16 (machine pc word segments) streams new streams
    × Enters a front root frame (machine pc word segments) new
enters_the_body a pc word segments streams front root frame b r =
    let code : List Ins = code_of Start in
    let m : MachineState = machine pc word segments in
    let h : frame ≤ front.stack = r.fits in
    let g : Ready a pc word segments front root frame = makes_ready a pc word segments front root frame b h in
    let least : 192 ≤ frame = b.least in
    let end : frames_end front root < 2 ^ 64 = b.frames_fit in
    let fits : a + 4 * 41 < 2 ^ 64 = b.comes.code_at.fits in
    let body_fits : root.body < 2 ^ 64 = b.words.0 in
    let r12 : List ℕ = slice_set (begun a word front root frame) 5 (frames_end front root - frame) in
    let r13 : List ℕ = slice_set r12 29 root.argument in
    let m14 : MachineState = record { pc = a + 4 * 14; registers = r13; segments = segments } in
    let place : ℕ = argument_place front root frame in
    let is_place : address m14 5 (pos first_argument) ≡ place =
    placed_at (frames_end front root) frame end least (omega (arith, h)) in
    let store = stored m14 8 place root.argument streams g.code_at.segments r.write in
    let m15 : MachineState = record { pc = a + 4 * 15; registers = r13; segments = store.0.segments } in
    let same : store.0 ≡ m15 = by_parts store.0 (a + 4 * 15) r13
    (store.2 ∙ next_place a code 14 (Sd 5 29 (pos first_argument)) m14 g.code_at refl refl) store.3 in
    let writes : Writes place (little_bytes 8 root.argument) m14 m15 =
    subst (Writes place (little_bytes 8 root.argument) m14) same store.4 in
    let step : machine_step m14 streams ≡ Running m15 streams =
    steps_at a code 14 (Sd 5 29 (pos first_argument)) m14 streams g.code_at refl refl
    (set_legal 5 29 192 (omega arith) (omega arith) (omega arith))
    ∙ ap (λ p. stores m14 8 p root.argument streams) is_place ∙ store.1 ∙ ap (λ n. Running n streams) same in
    let there15 : CodeAt a code m15 =
    code_kept a code place (little_bytes 8 root.argument) m14 m15 g.code_at writes r.apart in
    let new : MachineState =
    record { pc = root.body; registers = entered a word front root frame; segments = store.0.segments } in
    let link : next_pc m15 ≡ a + 64 =
    let e : a + 4 * 16 ≡ a + 64 = omega arith in
    next_place a code 15 (Jalr 1 28 (pos 0)) m15 there15 refl refl ∙ e in
    let jumped : machine_step m15 streams ≡ Running new streams =
    steps_at a code 15 (Jalr 1 28 (pos 0)) m15 streams there15 refl refl
    (set_legal 1 28 0 (omega arith) (omega arith) (omega arith))
    ∙ ap (λ p. Running (record { pc = p; registers = slice_set r13 1 (next_pc m15); segments = m15.segments }) streams)
    (jumps_to root.body body_fits b.aligned)
    ∙ ap (λ v. Running (record { pc = root.body; registers = slice_set r13 1 v; segments = m15.segments }) streams)
    link in
    let fifteenth : after machine_step 15 (Running m streams) ≡ Running m15 streams =
    then_step 14 (Running m streams) m14 streams (Running m15 streams) (g.runs streams) step in
    let written : Writes place (little_bytes 8 root.argument) m new =
    writes_between place (little_bytes 8 root.argument) m14 m m15 new refl refl writes in
    let set11 : All IsWord (begun a word front root frame) =
    begun_words a word front root frame b.comes.registers.words (omega (arith, fits)) end body_fits b.frame_fits in
    let set12 : All IsWord r12 =
    all_set IsWord (begun a word front root frame) 5 (frames_end front root - frame) set11 (omega (arith, end)) in
    let set13 : All IsWord r13 = all_set IsWord r12 29 root.argument set12 b.words.1 in
    let order : heap_begin front root ≤ frames_begin front root = omega arith in (
      new,
      record {
        count = 16;
        some = omega arith;
        few = omega arith;
        leads = then_step 15 (Running m streams) m15 streams (Running new streams) fifteenth jumped;
        registers = record {
          count = refl;
          x0 = refl;
          words = all_set IsWord r13 1 (a + 64) set13 (omega (arith, fits));
        };
      },
      record {
        pc = refl;
        back = refl;
        stack = refl;
        root_place = refl;
        lowest = refl;
        heap = refl;
        argument = written;
        clear = λ zeros. record {
          order = order;
          zeros = still_clear (heap_begin front root) front.heap front.stack frame (little_bytes 8 root.argument) m new
              h written zeros;
        };
      },
    )

-- the line of the stack's bound
pub stack_is_line : IsLine stack_text stack_text 20
stack_is_line = record {
  made = (refl, (refl, (refl, (refl, (refl, tt)))));
  rest = [];
  spelled = refl;
  size = refl;
  some = omega arith;
  few = omega arith;
}

pub refuses_the_body : (a pc : ℕ) (word : ℕ → ℕ) (segments : List Segment) (streams : Streams) (front : Front)
    (root : Root) (frame : ℕ) → Begins a (code_of Start) front root frame (machine pc word segments)
    → front.stack < frame → HasScratch (frames_end front root) a 41 (machine pc word segments)
    → EndsWithin 35 (machine pc word segments) streams 134 (with_error stack_text streams)
refuses_the_body a pc word segments streams front root frame b h scratch =
    let code : List Ins = code_of Start in
    let m : MachineState = machine pc word segments in
    let g : Begun a pc word segments front root frame = begins a pc word segments front root frame b in
    let registers : List ℕ = begun a word front root frame in
    let m11 : MachineState = record { pc = a + 4 * 11; registers = registers; segments = segments } in
    let fits : a + 4 * 41 < 2 ^ 64 = b.comes.code_at.fits in
    let taken : nat_lt front.stack frame ≡ true = lt-ltb front.stack frame h in
    let target : low_bits 64 (pos (a + 4 * 11) +ℤ pos 28) ≡ a + 4 * 18 =
    let e : a + 4 * 11 + 28 ≡ a + 4 * 18 = omega arith in sum_of (a + 4 * 11) 28 (omega (arith, fits)) ∙ e in
    let word' : ℕ → ℕ = register m11 in
    let m18 : MachineState = holding (a + 4 * 18) word' a segments in
    let went : machine_step m11 streams ≡ Running m18 streams =
    steps_at a code 11 (Bltu 6 7 (pos 28)) m11 streams g.code_at refl refl
    (omega arith, omega arith, (omega (arith, ints), omega (arith, ints), refl))
    ∙ ap (λ t. Running (record {
      pc = if t then low_bits 64 (pos (a + 4 * 11) +ℤ pos 28) else next_pc m11;
      registers = registers;
      segments = segments;
    }) streams) taken
    ∙ ap (λ p. Running (record { pc = p; registers = registers; segments = segments }) streams) target in
    let there18 : CodeAt a code m18 = code_in_same_memory a code m11 m18 g.code_at refl in
    let scratch18 : HasScratch (frames_end front root) a 41 m18 = record {
      fits = scratch.fits;
      read = scratch.read;
      write = scratch.write;
      apart = scratch.apart;
    } in
    let e : EndsWithin 23 m18 streams 134 (with_error stack_text streams) =
    ends_line a code 18 stack_text stack_text 20 word' a segments streams stack_is_line
    there18 scratch18 (block_at (take 18 code) (line stack_text 20) [] code 18 refl refl) in
    let twelfth : after machine_step 12 (Running m streams) ≡ Running m18 streams =
    then_step 11 (Running m streams) m11 streams (Running m18 streams) (g.runs streams) went in
    let few : e.count ≤ 23 = e.few in
    record {
      count = 12 + e.count;
      some = omega arith;
      few = omega (arith, few);
      ends = then_steps 12 e.count (Running m streams) m18 streams (Ended 134 (with_error stack_text streams)) twelfth
          e.ends;
    }

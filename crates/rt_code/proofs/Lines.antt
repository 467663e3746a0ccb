-- A line of error text, and the end.
use Rattle.std.proofs.Common.{◌≡◌, ◌∙◌, ◌⊎◌, inl, inr, ℕ, ◌+◌, ◌*◌, ◌%◌, ◌^◌, ◌<◌, ◌≤◌, ℤ, pos, negsuc, ◌+ℤ◌, ◌-◌}
use Rattle.std.proofs.Common.{List, [], ◌∷◌, ◌++◌, length, arith, refl, ap, sym, subst, length-append, append_assoc}
use Rattle.std.proofs.Common.{append-nil, Some, slice_get}
use Rattle.byteorder.specs.Endian.{little_bytes}
use Rattle.std.proofs.lemmas.Bool.Decides.{nat_tests}
use Rattle.std.proofs.lemmas.Int.{ints}
use Rattle.num_core.specs.Bits.{low_bits, signed}
use Rattle.rv_isa.specs.Operands.{IsImmediate}
use Rattle.num_core.specs.Run.{Running, Ended, Streams, after}
use Rattle.rv_isa.specs.declared.ins.Ins.{Ins}
use Rattle.rv_isa.specs.declared.ins.Ins.TheVariants.{Addi, Addiw, Ecall, Lui, Sw}
use Rattle.rv_step.specs.Machine.{MachineState, low_word, machine_step, stores, to_error}
use Rattle.rv_step.specs.Memory.{AllowsTheSame, AreApart, Bytes, MayRead, MayWrite, Writes}
use Rattle.rv_step.specs.declared.segment.Segment.{Segment}
use Rattle.rv_step.proofs.AddressLaws.{stored, written_by}
use Rattle.rv_step.proofs.Addresses.{allowed_within, joined, split}
use Rattle.rv_code.specs.Code.{AllLegal, BlockAt, Calculated, CodeAt, Done, Gives, given}
use Rattle.rv_code.specs.Registers.{listed}
use Rattle.rv_code.proofs.Going.{calculated, code_in_same_memory, code_kept, next_place, same_bytes, steps_at}
use Rattle.rv_code.proofs.Going.{block_parts, legal_both, legal_parts}
use Rattle.rv_code.proofs.Spelled.{by_parts}
use Rattle.rt_code.specs.Code.{line, lower, puts_all, tells, upper, words_of}
use Rattle.rt_code.specs.Conventions.{HasScratch, scratch_at, scratch_bytes}
use Rattle.rt_code.specs.Effects.{EndsWithin, with_error}
use Rattle.rt_code.proofs.Machines.{holding, sum_of, then_step, then_steps, writes_between}

-- the machine behind three instructions that put four bytes into memory
pub record Put (address : ℕ) (code : List Ins) (k at value : ℕ) (word : ℕ → ℕ) (x5 : ℕ) (segments : List Segment)
    (streams : Streams) : Type 0 where
  next : List Segment
  runs : after machine_step 3 (Running (holding (address + 4 * k) word x5 segments) streams)
      ≡ Running (holding (address + 4 * (k + 3)) word value next) streams
  code_at : CodeAt address code (holding (address + 4 * (k + 3)) word value next)
  writes : Writes (word 2 + at) (little_bytes 4 value) (holding (address + 4 * k) word x5 segments)
      (holding (address + 4 * (k + 3)) word value next)

pub put : (address : ℕ) (code : List Ins) (k u : ℕ) (l : ℤ) (at value : ℕ) (word : ℕ → ℕ) (x5 : ℕ)
    (segments : List Segment) (streams : Streams)
    → CodeAt address code (holding (address + 4 * k) word x5 segments)
    → BlockAt code k (Lui 5 u ∷ Addiw 5 5 l ∷ Sw 2 5 (pos at) ∷ [])
    → AllLegal (Lui 5 u ∷ Addiw 5 5 l ∷ Sw 2 5 (pos at) ∷ [])
    → low_word (pos (low_word (pos (u * 2 ^ 12))) +ℤ l) ≡ value → word 2 + at < 2 ^ 64
    → MayWrite (holding (address + 4 * k) word x5 segments) (word 2 + at) 4
    → AreApart (word 2 + at) 4 address (4 * length code)
    → Put address code k at value word x5 segments streams
put address code k u l at value word x5 segments streams there block legal is fits may apart =
    let m : MachineState = holding (address + 4 * k) word x5 segments in
    let m1 : MachineState = given 5 (low_word (pos (u * 2 ^ 12))) m in
    let m2 : MachineState = given 5 (low_word (pos (low_word (pos (u * 2 ^ 12))) +ℤ l)) m1 in
    let c : Calculated address code k 2 m m2 =
    calculated address code k (Lui 5 u ∷ Addiw 5 5 l ∷ []) m m2 there refl (block.0, (block.1.0, tt))
    (legal.0, (legal.1.0, tt))
    (Gives (Lui 5 u) (Addiw 5 5 l ∷ []) m m2 5 (low_word (pos (u * 2 ^ 12))) (λ s. refl)
    (Gives (Addiw 5 5 l) [] m1 m2 5 (low_word (pos (low_word (pos (u * 2 ^ 12))) +ℤ l)) (λ s. refl) (Done m2))) in
    let second : (k + 1) + 1 ≡ k + 2 = omega arith in
    let third : (k + 2) + 1 ≡ k + 3 = omega arith in
    let here : slice_get code (k + 2) ≡ Some (Sw 2 5 (pos at)) = ap (slice_get code) (sym second) ∙ block.1.1.0 in
    let store = stored m2 4 (word 2 + at) (low_word (pos (low_word (pos (u * 2 ^ 12))) +ℤ l)) streams
    c.code_at.segments may in
    let new : MachineState = store.0 in
    let step : machine_step m2 streams ≡ Running new streams =
    steps_at address code (k + 2) (Sw 2 5 (pos at)) m2 streams c.code_at c.pc here legal.1.1.0
    ∙ ap (λ a. stores m2 4 a (low_word (pos (low_word (pos (u * 2 ^ 12))) +ℤ l)) streams) (sum_of (word 2) at fits)
    ∙ store.1 in
    let pc : new.pc ≡ address + 4 * (k + 3) = store.2
    ∙ next_place address code (k + 2) (Sw 2 5 (pos at)) m2 c.code_at c.pc here ∙ ap (λ n. address + 4 * n) third in
    let after_it : MachineState = holding (address + 4 * (k + 3)) word value new.segments in
    let same : new ≡ after_it =
    by_parts new (address + 4 * (k + 3))
    (0 ∷ word 1 ∷ word 2 ∷ word 3 ∷ word 4 ∷ value ∷ listed word 6 26) pc
    (store.3 ∙ ap (λ v. 0 ∷ word 1 ∷ word 2 ∷ word 3 ∷ word 4 ∷ v ∷ listed word 6 26) is) in
    let writes : Writes (word 2 + at) (little_bytes 4 value) m2 new =
    subst (λ v. Writes (word 2 + at) (little_bytes 4 v) m2 new) is store.4 in
    record {
      next = new.segments;
      runs = then_step 2 (Running m streams) m2 streams (Running after_it streams) (c.runs streams)
          (step ∙ ap (λ n. Running n streams) same);
      code_at = subst (CodeAt address code) same
          (code_kept address code (word 2 + at) (little_bytes 4 value) m2 new c.code_at writes apart);
      writes = writes_between (word 2 + at) (little_bytes 4 value) m2 m new after_it refl refl writes;
    }

-- what a word is put together to from its two parts
abbrev pub put_together : ℕ → ℕ
put_together w = low_word (pos (low_word (pos (upper w * 2 ^ 12))) +ℤ lower w)

-- the parts of each word stand in an instruction, and make it
abbrev pub ArePutTogether : List ℕ → Type 0
ArePutTogether [] = Unit {0}
ArePutTogether (w ∷ ws) = (little_bytes 4 (put_together w) ≡ little_bytes 4 w) × ArePutTogether ws

abbrev pub bytes_of : List ℕ → List ℕ
bytes_of [] = []
bytes_of (w ∷ ws) = little_bytes 4 w ++ bytes_of ws

-- the machine behind the instructions that put words into the scratch bytes
pub record Shows (address : ℕ) (code : List Ins) (k : ℕ) (text : List ℕ) (count : ℕ) (word : ℕ → ℕ)
    (m : MachineState) (streams : Streams) : Type 0 where
  steps : ℕ
  so_many : steps ≡ 3 * count
  behind : ℕ
  place : behind ≡ k + 3 * count
  next : List Segment
  x5 : ℕ
  runs : after machine_step steps (Running m streams)
      ≡ Running (holding (address + 4 * behind) word x5 next) streams
  code_at : CodeAt address code (holding (address + 4 * behind) word x5 next)
  scratch : HasScratch (word 2) address (length code) (holding (address + 4 * behind) word x5 next)
  bytes : Bytes (holding (address + 4 * behind) word x5 next) (word 2 + scratch_at) text

-- the scratch bytes of a machine whose memory allows the same
pub scratch_stays : (frame address count : ℕ) (m new : MachineState)
    → ((other count' : ℕ) → AllowsTheSame m new other count') → HasScratch frame address count m
    → HasScratch frame address count new
scratch_stays frame address count m new same has =
    record {
      fits = has.fits;
      read = (same (frame + scratch_at) scratch_bytes).read ∙ has.read;
      write = (same (frame + scratch_at) scratch_bytes).write ∙ has.write;
      apart = has.apart;
    }

-- a part of the scratch bytes lies apart from the code too
pub part_apart : (from count address size : ℕ) (frame : ℕ) → from + count ≤ scratch_bytes
    → AreApart (frame + scratch_at) scratch_bytes address size
    → AreApart (frame + (scratch_at + from)) count address size
part_apart from count address size frame h (inl low) = inl (omega (arith, h, low))
part_apart from count address size frame h (inr high) = inr (omega (arith, h, high))

pub shows : (address : ℕ) (code : List Ins) (ws : List ℕ) (k : ℕ) (done : List ℕ)
    (word : ℕ → ℕ) (x5 : ℕ) (segments : List Segment) (streams : Streams)
    → CodeAt address code (holding (address + 4 * k) word x5 segments)
    → HasScratch (word 2) address (length code) (holding (address + 4 * k) word x5 segments)
    → Bytes (holding (address + 4 * k) word x5 segments) (word 2 + scratch_at) done
    → BlockAt code k (puts_all (length done) ws) → AllLegal (puts_all (length done) ws) → ArePutTogether ws
    → length done + 4 * length ws ≤ scratch_bytes
    → Shows address code k (done ++ bytes_of ws) (length ws) word (holding (address + 4 * k) word x5 segments) streams
shows address code [] k done word x5 segments streams there scratch bytes block legal made fits =
    record {
      steps = 0;
      so_many = omega arith;
      behind = k;
      place = omega arith;
      next = segments;
      x5 = x5;
      runs = refl;
      code_at = there;
      scratch = scratch;
      bytes = subst (Bytes (holding (address + 4 * k) word x5 segments) (word 2 + scratch_at))
          (sym (append-nil done)) bytes;
    }
shows address code (w ∷ ws) k done word x5 segments streams there scratch bytes block legal made fits =
    let m : MachineState = holding (address + 4 * k) word x5 segments in
    let from : ℕ = length done in
    let room : word 2 + scratch_at + scratch_bytes ≤ 2 ^ 64 = scratch.fits in
    let small : from + 4 ≤ scratch_bytes = omega (arith, fits) in
    let may : MayWrite m (word 2 + (scratch_at + from)) 4 =
    allowed_within (λ s. s.write) (word 2 + scratch_at) scratch_bytes (word 2 + (scratch_at + from)) 4 segments
    (omega arith) (omega (arith, small)) scratch.write in
    let p : Put address code k (scratch_at + from) (put_together w) word x5 segments streams =
    put address code k (upper w) (lower w) (scratch_at + from) (put_together w) word x5 segments streams there
    (block.0, (block.1.0, (block.1.1.0, tt))) (legal.0, (legal.1.0, (legal.1.1.0, tt))) refl
    (omega (arith, room, small)) may
    (part_apart from 4 address (4 * length code) (word 2) small scratch.apart) in
    let m' : MachineState = holding (address + 4 * (k + 3)) word (put_together w) p.next in
    let done' : List ℕ = done ++ little_bytes 4 w in
    let longer : length done' ≡ from + 4 = length-append done (little_bytes 4 w) in
    let side : (word 2 + scratch_at) + from ≡ word 2 + (scratch_at + from) = omega arith in
    let before : Bytes m' (word 2 + scratch_at) done =
    p.writes.kept (word 2 + scratch_at) done (inr (omega arith)) bytes in
    let written : Bytes m' (word 2 + (scratch_at + from)) (little_bytes 4 w) =
    subst (Bytes m' (word 2 + (scratch_at + from))) made.0 p.writes.written in
    let both : Bytes m' (word 2 + scratch_at) done' =
    joined m' (word 2 + scratch_at) done (little_bytes 4 w) before
    (subst (λ a. Bytes m' a (little_bytes 4 w)) (sym side) written) in
    let third : ((k + 1) + 1) + 1 ≡ k + 3 = omega arith in
    let rest : Shows address code (k + 3) (done' ++ bytes_of ws) (length ws) word m' streams =
    shows address code ws (k + 3) done' word (put_together w) p.next streams p.code_at
    (scratch_stays (word 2) address (length code) m m' p.writes.allows scratch) both
    (subst (λ n. BlockAt code (k + 3) (puts_all n ws)) (sym longer)
    (subst (λ n. BlockAt code n (puts_all (from + 4) ws)) third block.1.1.1))
    (subst (λ n. AllLegal (puts_all n ws)) (sym longer) legal.1.1.1) made.1 (omega (arith, longer, fits)) in
    record {
      steps = 3 + rest.steps;
      so_many = omega (arith, rest.so_many);
      behind = rest.behind;
      place = omega (arith, rest.place);
      next = rest.next;
      x5 = rest.x5;
      runs = then_steps 3 rest.steps (Running m streams) m' streams
          (Running (holding (address + 4 * rest.behind) word rest.x5 rest.next) streams) p.runs rest.runs;
      code_at = rest.code_at;
      scratch = rest.scratch;
      bytes = subst (Bytes (holding (address + 4 * rest.behind) word rest.x5 rest.next) (word 2 + scratch_at))
          (append_assoc done (little_bytes 4 w) (bytes_of ws)) rest.bytes;
    }

-- the instructions of a line are legal
signed_cases : (r : ℕ) → r < 4096 → ((r < 2048) × (signed 12 r ≡ pos r))
    ⊎ ((2048 ≤ r) × (signed 12 r ≡ negsuc (4095 - r)))
signed_cases r h = grind (arith, nat_tests)

lower_is_immediate : (w : ℕ) → IsImmediate (lower w)
lower_is_immediate w =
    elim (signed_cases (w % 4096) (omega arith)) [
      | inl q ↦ subst IsImmediate (sym q.1) (omega (arith, ints), omega (arith, ints))
      | inr q ↦ subst IsImmediate (sym q.1) (omega (arith, ints), omega (arith, ints))
    ]

small_is_immediate : (n : ℕ) → n < 2048 → IsImmediate (pos n)
small_is_immediate n h = (omega (arith, ints), omega (arith, ints, h))

puts_legal : (from : ℕ) (ws : List ℕ) → from + 4 * length ws ≤ scratch_bytes → AllLegal (puts_all from ws)
puts_legal from [] h = tt
puts_legal from (w ∷ ws) h = (
  (omega arith, omega arith),
  (
    (omega arith, omega arith, lower_is_immediate w),
    (
      (omega arith, omega arith, small_is_immediate (scratch_at + from) (omega (arith, h))),
      puts_legal (from + 4) ws (omega (arith, h)),
    ),
  ),
)

tells_legal : (count : ℕ) → count ≤ 20 → AllLegal (tells (pos count))
tells_legal count h = (
  (omega arith, omega arith, small_is_immediate 96 (omega arith)),
  (
    (omega arith, omega arith, small_is_immediate 2 (omega arith)),
    (
      (omega arith, omega arith, small_is_immediate count (omega (arith, h))),
      (
        (omega arith, omega arith, small_is_immediate 64 (omega arith)),
        (
          tt,
          (
            (omega arith, omega arith, small_is_immediate 134 (omega arith)),
            ((omega arith, omega arith, small_is_immediate 93 (omega arith)), (tt, tt)),
          ),
        ),
      ),
    ),
  ),
)

pub line_legal : (text : List ℕ) (count : ℕ) → count ≤ 20 → AllLegal (line text count)
line_legal text count h =
    legal_both (puts_all 0 (words_of text)) (tells (pos count)) (puts_legal 0 (words_of text) (omega arith))
    (tells_legal count h)

-- How a text of 20 bytes is put together, and which of them are shown.
pub record IsLine (text shown : List ℕ) (count : ℕ) : Type 0 where
  pub made : ArePutTogether (words_of text)
  pub rest : List ℕ
  pub spelled : bytes_of (words_of text) ≡ shown ++ rest
  pub size : length shown ≡ count
  pub some : 0 < count
  pub few : count ≤ 20

pub ends_line : (address : ℕ) (code : List Ins) (k : ℕ) (text shown : List ℕ) (count : ℕ) (word : ℕ → ℕ) (x5 : ℕ)
    (segments : List Segment) (streams : Streams) → IsLine text shown count
    → CodeAt address code (holding (address + 4 * k) word x5 segments)
    → HasScratch (word 2) address (length code) (holding (address + 4 * k) word x5 segments)
    → BlockAt code k (line text count)
    → EndsWithin 23 (holding (address + 4 * k) word x5 segments) streams 134 (with_error shown streams)
ends_line address code k text shown count word x5 segments streams is there scratch block =
    let m : MachineState = holding (address + 4 * k) word x5 segments in
    let blocks = block_parts code k (puts_all 0 (words_of text)) (tells (pos count)) block in
    let legals = legal_parts (puts_all 0 (words_of text)) (tells (pos count)) (line_legal text count is.few) in
    let s : Shows address code k (bytes_of (words_of text)) 5 word m streams =
    shows address code (words_of text) k [] word x5 segments streams there scratch tt blocks.0 legals.0 is.made
    (omega arith) in
    let b : ℕ = s.behind in
    let m5 : MachineState = holding (address + 4 * b) word s.x5 s.next in
    let tail : BlockAt code b (tells (pos count)) =
    let e : k + 15 ≡ b = omega (arith, s.place) in subst (λ n. BlockAt code n (tells (pos count))) e blocks.1 in
    let a : ℕ = low_bits 64 (pos (word 2) +ℤ pos scratch_at) in
    let n : ℕ = low_bits 64 (pos 0 +ℤ pos count) in
    let few : count ≤ 20 = is.few in
    let some : 0 < count = is.some in
    let room : word 2 + scratch_at + scratch_bytes ≤ 2 ^ 64 = scratch.fits in
    let is_a : a ≡ word 2 + scratch_at = sum_of (word 2) scratch_at (omega (arith, room)) in
    let is_n : n ≡ count = omega (arith, few) in
    let m6 : MachineState = given 11 a m5 in
    let m7 : MachineState = given 10 2 m6 in
    let m8 : MachineState = given 12 n m7 in
    let m9 : MachineState = given 17 64 m8 in
    let sets : List Ins = Addi 11 2 (pos scratch_at) ∷ Addi 10 0 (pos 2) ∷ Addi 12 0 (pos count) ∷ Addi 17 0 (pos 64)
    ∷ [] in
    let c : Calculated address code b 4 m5 m9 =
    calculated address code b sets m5 m9 s.code_at refl
    (tail.0, (tail.1.0, (tail.1.1.0, (tail.1.1.1.0, tt))))
    (legals.1.0, (legals.1.1.0, (legals.1.1.1.0, (legals.1.1.1.1.0, tt))))
    (Gives _ _ m5 m9 11 a (λ s. refl) (Gives _ _ m6 m9 10 2 (λ s. refl) (Gives _ _ m7 m9 12 n (λ s. refl)
    (Gives _ _ m8 m9 17 64 (λ s. refl) (Done m9))))) in
    let p4 : (((b + 1) + 1) + 1) + 1 ≡ b + 4 = omega arith in
    let call : slice_get code (b + 4) ≡ Some Ecall = ap (slice_get code) (sym p4) ∙ tail.1.1.1.1.0 in
    let shown_there : Bytes m5 (word 2 + scratch_at) shown =
    (split m5 (word 2 + scratch_at) shown is.rest
    (subst (Bytes m5 (word 2 + scratch_at)) is.spelled s.bytes)).0 in
    let may : MayRead m9 a n =
    subst (λ p. MayRead m9 p n) (sym is_a) (subst (MayRead m9 (word 2 + scratch_at)) (sym is_n)
    (allowed_within (λ s. s.read) (word 2 + scratch_at) scratch_bytes (word 2 + scratch_at) count s.next
    (omega arith) (omega (arith, few)) s.scratch.read)) in
    let wrote : machine_step m9 streams ≡ Running (given 10 n m9) (with_error shown streams) =
    steps_at address code (b + 4) Ecall m9 streams c.code_at c.pc call tt
    ∙ written_by m9 to_error shown streams c.code_at.segments
    (λ zero. let e : n ≡ 0 = zero in omega (arith, e, is_n, some))
    (is.size ∙ sym is_n) may
    (subst (λ p. Bytes m9 p shown) (sym is_a) (same_bytes m5 m9 (word 2 + scratch_at) shown refl shown_there)) in
    let m10 : MachineState = given 10 n m9 in
    let m11 : MachineState = given 10 134 m10 in
    let m12 : MachineState = given 17 93 m11 in
    let p5 : (b + 4) + 1 ≡ ((((b + 1) + 1) + 1) + 1) + 1 = omega arith in
    let at10 : CodeAt address code m10 = code_in_same_memory address code m9 m10 c.code_at refl in
    let pc10 : m10.pc ≡ address + 4 * (((((b + 1) + 1) + 1) + 1) + 1) =
    next_place address code (b + 4) Ecall m9 c.code_at c.pc call ∙ ap (λ j. address + 4 * j) p5 in
    let behind : BlockAt code (((((b + 1) + 1) + 1) + 1) + 1) (Addi 10 0 (pos 134) ∷ Addi 17 0 (pos 93) ∷ Ecall ∷ []) =
    tail.1.1.1.1.1 in
    let b' : ℕ = ((((b + 1) + 1) + 1) + 1) + 1 in
    let c' : Calculated address code b' 2 m10 m12 =
    calculated address code b' (Addi 10 0 (pos 134) ∷ Addi 17 0 (pos 93) ∷ []) m10 m12 at10 pc10
    (behind.0, (behind.1.0, tt)) (legals.1.1.1.1.1.1.0, (legals.1.1.1.1.1.1.1.0, tt))
    (Gives _ _ m10 m12 10 134 (λ s. refl) (Gives _ _ m11 m12 17 93 (λ s. refl) (Done m12))) in
    let p7 : (b' + 1) + 1 ≡ b' + 2 = omega arith in
    let last : slice_get code (b' + 2) ≡ Some Ecall = ap (slice_get code) (sym p7) ∙ behind.1.1.0 in
    let ended : machine_step m12 (with_error shown streams) ≡ Ended 134 (with_error shown streams) =
    steps_at address code (b' + 2) Ecall m12 (with_error shown streams) c'.code_at c'.pc last tt in
    let first : after machine_step (s.steps + 4) (Running m streams) ≡ Running m9 streams =
    then_steps s.steps 4 (Running m streams) m5 streams (Running m9 streams) s.runs (c.runs streams) in
    let second : after machine_step ((s.steps + 4) + 1) (Running m streams) ≡ Running m10 (with_error shown streams) =
    then_step (s.steps + 4) (Running m streams) m9 streams (Running m10 (with_error shown streams)) first wrote in
    let fourth : after machine_step (((s.steps + 4) + 1) + 2) (Running m streams)
    ≡ Running m12 (with_error shown streams) =
    then_steps ((s.steps + 4) + 1) 2 (Running m streams) m10 (with_error shown streams)
    (Running m12 (with_error shown streams)) second (c'.runs (with_error shown streams)) in
    record {
      count = (((s.steps + 4) + 1) + 2) + 1;
      some = omega arith;
      few = omega (arith, s.so_many);
      ends = then_step (((s.steps + 4) + 1) + 2) (Running m streams) m12 (with_error shown streams)
          (Ended 134 (with_error shown streams)) fourth ended;
    }

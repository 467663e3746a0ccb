-- How a machine goes through code.
use Rattle.std.proofs.Common.{◌≡◌, ◌∙◌, ◌⊎◌, inl, inr, ℕ, zero, suc, ◌+◌, ◌*◌, ◌%◌, ◌^◌, ◌<◌, ◌≤◌, List, [], ◌∷◌}
use Rattle.std.proofs.Common.{length, arith, refl, ap, sym, subst, ◌++◌, Some, slice_get, length-append, append_assoc}
use Rattle.std.proofs.lemmas.List.{length_push}
use Rattle.byteorder.specs.Endian.{little_bytes}
use Rattle.num_core.specs.Run.{Run, Running, Streams, after, one_more}
use Rattle.num_core.proofs.Runs.{after-add}
use Rattle.rv_isa.specs.declared.ins.Ins.{Ins}
use Rattle.rv_isa.specs.Instructions.{IsLegal, word_of}
use Rattle.rv_isa.proofs.Rows.{known}
use Rattle.rv_isa.proofs.WordFits.{word_fits}
use Rattle.rv_step.specs.Machine.{MachineState, effect, fetched, machine_step, next_pc, on_instruction, on_word}
use Rattle.rv_step.specs.Memory.{AreApart, Bytes, MayExecute, Number, Writes, byte_in, is_allowed}
use Rattle.rv_step.specs.Segments.{AreSegments}
use Rattle.rv_step.specs.declared.trap.Trap.{Trap}
use Rattle.rv_step.proofs.AddressLaws.{fetched_by}
use Rattle.rv_step.proofs.Addresses.{allowed_within, split}
use Rattle.rv_code.specs.Code.{AllLegal, BlockAt, Calculated, Calculates, CodeAt, Done, Gives, given, text_of}

four_more : (k : ℕ) → 4 * suc k ≡ suc (suc (suc (suc (4 * k))))
four_more k = omega arith

pub length-text_of : (code : List Ins) → length (text_of code) ≡ 4 * length code
length-text_of [] = refl
length-text_of (x ∷ code) = ap (λ n. suc (suc (suc (suc n)))) (length-text_of code) ∙ sym (four_more (length code))

pub within : (code : List Ins) (k : ℕ) (ins : Ins) → slice_get code k ≡ Some ins → k < length code
within [] k ins e = cc
within (x ∷ code) zero ins e = omega arith
within (x ∷ code) (suc k) ins e = let h : k < length code = within code k ins e in omega arith

-- the word at a place of the text
word_there : (m : MachineState) (address : ℕ) (code : List Ins) (k : ℕ) (ins : Ins) → slice_get code k ≡ Some ins
    → Bytes m address (text_of code) → Number m (address + 4 * k) 4 (word_of ins)
word_there m address [] k ins e there = cc
word_there m address (x ∷ code) zero ins e there =
    let same : x ≡ ins = cc in
    let here : address ≡ address + 4 * 0 = omega arith in
    let both = split m address (little_bytes 4 (word_of x)) (text_of code) there in
    subst (λ a. Number m a 4 (word_of ins)) here (subst (λ i. Number m address 4 (word_of i)) same both.0)
word_there m address (x ∷ code) (suc k) ins e there =
    let next : (address + 4) + 4 * k ≡ address + 4 * suc k = omega arith in
    let both = split m address (little_bytes 4 (word_of x)) (text_of code) there in
    subst (λ a. Number m a 4 (word_of ins)) next (word_there m (address + 4) code k ins e both.1)

-- the step that a machine does at an instruction of code
pub steps_at : (address : ℕ) (code : List Ins) (k : ℕ) (ins : Ins) (m : MachineState) (streams : Streams)
    → CodeAt address code m → m.pc ≡ address + 4 * k → slice_get code k ≡ Some ins → IsLegal ins
    → machine_step m streams ≡ effect ins m streams
steps_at address code k ins m streams at pc e legal =
    let there : k < length code = within code k ins e in
    let even : m.pc % 4 ≡ 0 = let aligned : address % 4 ≡ 0 = at.aligned in omega (arith, aligned, pc) in
    let may : MayExecute m (address + 4 * k) 4 =
    allowed_within (λ s. s.execute) address (4 * length code) (address + 4 * k) 4 m.segments (omega arith)
    (omega (arith, there)) at.executable in
    let word : Number m (address + 4 * k) 4 (word_of ins) = word_there m address code k ins e at.bytes in
    let fetch : fetched m ≡ Some (word_of ins) =
    fetched_by m (word_of ins) at.segments (word_fits ins legal) even
    (subst (λ a. MayExecute m a 4) (sym pc) may) (subst (λ a. Number m a 4 (word_of ins)) (sym pc) word) in
    ap (λ o. on_word o m streams) fetch ∙ ap (λ o. on_instruction o m streams) (known ins legal)

-- the place behind it
pub next_place : (address : ℕ) (code : List Ins) (k : ℕ) (ins : Ins) (m : MachineState) → CodeAt address code m
    → m.pc ≡ address + 4 * k → slice_get code k ≡ Some ins → next_pc m ≡ address + 4 * (k + 1)
next_place address code k ins m at pc e =
    let there : k < length code = within code k ins e in
    let fits : address + 4 * length code < 2 ^ 64 = at.fits in
    omega (arith, there, fits, pc)

-- what stands in memory stands in the same memory of another machine
pub same_bytes : (m new : MachineState) (address : ℕ) (bytes : List ℕ) → new.segments ≡ m.segments
    → Bytes m address bytes → Bytes new address bytes
same_bytes m new address [] same there = tt
same_bytes m new address (byte ∷ bytes) same there =
    (ap (λ ss. byte_in ss address) same ∙ there.0, same_bytes m new (address + 1) bytes same there.1)

-- code stays where memory stays
pub code_in_same_memory : (address : ℕ) (code : List Ins) (m new : MachineState) → CodeAt address code m
    → new.segments ≡ m.segments → CodeAt address code new
code_in_same_memory address code m new at same =
    record {
      segments = subst AreSegments (sym same) at.segments;
      aligned = at.aligned;
      fits = at.fits;
      bytes = same_bytes m new address (text_of code) same at.bytes;
      executable = ap (λ ss. is_allowed (λ s. s.execute) ss address (4 * length code)) same ∙ at.executable;
    }

-- and where what is written lies elsewhere
pub code_kept : (address : ℕ) (code : List Ins) (place : ℕ) (bytes : List ℕ) (m new : MachineState)
    → CodeAt address code m → Writes place bytes m new → AreApart place (length bytes) address (4 * length code)
    → CodeAt address code new
code_kept address code place bytes m new at writes apart =
    let size : length (text_of code) ≡ 4 * length code = length-text_of code in
    record {
      segments = writes.segments;
      aligned = at.aligned;
      fits = at.fits;
      bytes = writes.kept address (text_of code)
          (subst (λ n. AreApart place (length bytes) address n) (sym size) apart) at.bytes;
      executable = (writes.allows address (4 * length code)).execute ∙ at.executable;
    }

-- the first of some steps, and then the others
pub one_first : {State Cause : Type 0} (step : State → Streams → Run State Cause) (n : ℕ) (run : Run State Cause)
    → after step (suc n) run ≡ after step n (one_more step run)
one_first step n run =
    let e : suc n ≡ n + 1 = omega arith in
    ap (λ k. after step k run) e ∙ after-add step n 1 run

-- instructions that only give registers their values
pub calculated : (address : ℕ) (code : List Ins) (k : ℕ) (block : List Ins) (m new : MachineState)
    → CodeAt address code m → m.pc ≡ address + 4 * k → BlockAt code k block → AllLegal block
    → Calculates block m new → Calculated address code k (length block) m new
calculated address code k [] m new at pc block legal (Done _) =
    let here : k + 0 ≡ k = omega arith in
    record { runs = λ streams. refl; code_at = at; pc = pc ∙ ap (λ n. address + 4 * n) (sym here); memory = refl }
calculated address code k (ins ∷ others) m new at pc block legal (Gives _ _ _ _ rd value is rest) =
    let next : MachineState = given rd value m in
    let step : (streams : Streams) → machine_step m streams ≡ Running next streams =
    λ streams. steps_at address code k ins m streams at pc block.0 legal.0 ∙ is streams in
    let behind : Calculated address code (k + 1) (length others) next new =
    calculated address code (k + 1) others next new (code_in_same_memory address code m next at refl)
    (next_place address code k ins m at pc block.0) block.1 legal.1 rest in
    let sum : (k + 1) + length others ≡ k + suc (length others) = omega arith in
    record {
      runs = λ streams. one_first machine_step (length others) (Running m streams)
          ∙ ap (after machine_step (length others)) (step streams) ∙ behind.runs streams;
      code_at = behind.code_at;
      pc = behind.pc ∙ ap (λ n. address + 4 * n) sum;
      memory = behind.memory;
    }

-- ---- blocks

get_behind : {X : Type 0} (before rest : List X) (x : X) → slice_get (before ++ x ∷ rest) (length before) ≡ Some x
get_behind [] rest x = refl
get_behind (y ∷ before) rest x = get_behind before rest x

-- a part of code, from the place where it stands
pub block_at : (before block behind code : List Ins) (k : ℕ) → code ≡ before ++ (block ++ behind) → k ≡ length before
    → BlockAt code k block
block_at before [] behind code k split place = tt
block_at before (ins ∷ block) behind code k split place = (
  ap (λ c. slice_get c k) split ∙ ap (slice_get (before ++ ins ∷ (block ++ behind))) place
      ∙ get_behind before (block ++ behind) ins,
  block_at (before ++ ins ∷ []) block behind code (k + 1)
      (split ∙ sym (append_assoc before (ins ∷ []) (block ++ behind)))
      (omega (arith, place, length_push before ins)),
)

-- the parts of a block
pub block_parts : (code : List Ins) (k : ℕ) (first second : List Ins) → BlockAt code k (first ++ second)
    → BlockAt code k first × BlockAt code (k + length first) second
block_parts code k [] second there = let e : k ≡ k + 0 = omega arith in
    (tt, subst (λ n. BlockAt code n second) e there)
block_parts code k (ins ∷ first) second there =
    let both = block_parts code (k + 1) first second there.1 in
    let e : (k + 1) + length first ≡ k + suc (length first) = omega arith in
    ((there.0, both.0), subst (λ n. BlockAt code n second) e both.1)

pub legal_parts : (first second : List Ins) → AllLegal (first ++ second) → AllLegal first × AllLegal second
legal_parts [] second legal = (tt, legal)
legal_parts (ins ∷ first) second legal =
    let both = legal_parts first second legal.1 in
    ((legal.0, both.0), both.1)

pub legal_both : (first second : List Ins) → AllLegal first → AllLegal second → AllLegal (first ++ second)
legal_both [] second legal legal' = legal'
legal_both (ins ∷ first) second legal legal' = (legal.0, legal_both first second legal.1 legal')

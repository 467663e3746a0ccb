-- How a machine comes to the instructions of a program's text.
use Rattle.std.proofs.Common.{◌≡◌, ◌∙◌, ℕ, zero, suc, ◌+◌, ◌-◌, ◌*◌, ◌%◌, ◌^◌, ◌<◌, List, [], ◌∷◌, ◌++◌, length, take}
use Rattle.std.proofs.Common.{drop, arith, refl, ap, sym, Some, None, slice_get, true, nat_eq, nat_le, ◌&&◌, cond}
use Rattle.std.proofs.Common.{length-append, append_assoc, eq-eqb}
use Rattle.std.proofs.Math.Seq.{drop-append-add}
use Rattle.std.proofs.lemmas.Bool.{le-leb}
use Rattle.std.proofs.lemmas.List.{length_push}
use Rattle.std.specs.Option.{option_map}
use Rattle.byteorder.specs.Endian.{little_bytes, little_number}
use Rattle.byteorder.specs.Numbers.{little_number-reads_back}
use Rattle.num_core.specs.Run.{Streams}
use Rattle.rv_isa.specs.declared.ins.Ins.{Ins}
use Rattle.rv_isa.specs.Instructions.{word_of, IsLegal}
use Rattle.rv_isa.proofs.Rows.{known}
use Rattle.rv_isa.proofs.WordFits.{word_fits}
use Rattle.rv_step.specs.declared.segment.Segment.{Segment}
use Rattle.rv_step.specs.Machine.{MachineState, bytes_at, covers, fetched, on_word, on_instruction, machine_step}
use Rattle.rv_step.specs.Machine.{effect, next_pc}
use Rattle.ilc_build.specs.Code.{text_of}

four_more : (k : ℕ) → 4 * suc k ≡ suc (suc (suc (suc (4 * k))))
four_more k = omega arith

pub length-text_of : (code : List Ins) → length (text_of code) ≡ 4 * length code
length-text_of [] = refl
length-text_of (x ∷ code) = ap (λ n. suc (suc (suc (suc n)))) (length-text_of code) ∙ sym (four_more (length code))

-- the word at a place of the text
pub word_at : (code : List Ins) (k : ℕ) (ins : Ins) → slice_get code k ≡ Some ins
    → take 4 (drop (4 * k) (text_of code)) ≡ little_bytes 4 (word_of ins)
word_at [] k ins e = cc
word_at (x ∷ code) zero ins e =
    let same : x ≡ ins = cc in
    ap (λ i. little_bytes 4 (word_of i)) same
word_at (x ∷ code) (suc k) ins e = ap (λ n. take 4 (drop n (text_of (x ∷ code)))) (four_more k) ∙ word_at code k ins e

pub within : (code : List Ins) (k : ℕ) (ins : Ins) → slice_get code k ≡ Some ins → k < length code
within [] k ins e = cc
within (x ∷ code) zero ins e = omega arith
within (x ∷ code) (suc k) ins e = let h : k < length code = within code k ins e in omega arith

-- The machine has two segments. The first, the text, may be executed and has `front` and then the words of the
-- code, and the machine stands at the k-th of them.
pub record StandsAt (front : List ℕ) (code : List Ins) (text slots : Segment) (k : ℕ) (m : MachineState) : Type 0 where
  pub memory : m.segments ≡ text ∷ slots ∷ []
  pub executable : text.execute ≡ true
  pub whole_words : (text.at + length front) % 4 ≡ 0
  pub bytes : text.bytes ≡ front ++ text_of code
  pub pc : m.pc ≡ text.at + length front + 4 * k
  pub room : text.at + length front + 4 * length code < 2 ^ 64

-- the word that is fetched there
pub fetches : (front : List ℕ) (code : List Ins) (text slots : Segment) (k : ℕ) (m : MachineState) (ins : Ins)
    → StandsAt front code text slots k m → slice_get code k ≡ Some ins → word_of ins < 2 ^ 32
    → fetched m ≡ Some (word_of ins)
fetches front code text slots k m ins at e fits =
    let there : k < length code = within code k ins e in
    let size : length text.bytes ≡ length front + 4 * length code = ap length at.bytes
    ∙ (length-append front (text_of code) ∙ ap (λ n. length front + n) (length-text_of code)) in
    let aligned : nat_eq (m.pc % 4) 0 ≡ true = eq-eqb (m.pc % 4) 0 (omega arith) in
    let begins : nat_le text.at m.pc ≡ true = le-leb _ _ (omega arith) in
    let ends : nat_le (m.pc + 4) (text.at + length text.bytes) ≡ true = le-leb _ _ (omega arith) in
    let inside : covers m.pc 4 text ≡ true = ap (λ b. b && nat_le (m.pc + 4) (text.at + length text.bytes)) begins
    ∙ ends in
    let allowed : text.execute && covers m.pc 4 text ≡ true = ap (λ b. b && covers m.pc 4 text) at.executable
    ∙ inside in
    let offset : m.pc - text.at ≡ length front + 4 * k = omega arith in
    let bytes : take 4 (drop (m.pc - text.at) text.bytes) ≡ little_bytes 4 (word_of ins) =
    ap (λ n. take 4 (drop n text.bytes)) offset
    ∙ ap (λ bs. take 4 (drop (length front + 4 * k) bs)) at.bytes
    ∙ ap (take 4) (drop-append-add front (text_of code) (4 * k))
    ∙ word_at code k ins e in
    ap (λ b. cond b (option_map (little_number 4) (bytes_at (λ s. s.execute) m.pc 4 m.segments)) None) aligned
    ∙ ap (λ ss. option_map (little_number 4) (bytes_at (λ s. s.execute) m.pc 4 ss)) at.memory
    ∙ ap (λ b. option_map (little_number 4)
    (cond b (Some (take 4 (drop (m.pc - text.at) text.bytes))) (bytes_at (λ s. s.execute) m.pc 4 (slots ∷ []))))
    allowed
    ∙ ap (λ bs. Some (little_number 4 bs)) bytes
    ∙ ap Some (little_number-reads_back 4 (word_of ins) [] fits)

-- the step that the machine does there
pub steps_at : (front : List ℕ) (code : List Ins) (text slots : Segment) (k : ℕ) (m : MachineState) (streams : Streams)
    (ins : Ins) → StandsAt front code text slots k m → slice_get code k ≡ Some ins → IsLegal ins
    → machine_step m streams ≡ effect ins m streams
steps_at front code text slots k m streams ins at e legal =
    ap (λ o. on_word o m streams) (fetches front code text slots k m ins at e (word_fits ins legal))
    ∙ ap (λ o. on_instruction o m streams) (known ins legal)

-- The instruction behind. The second segment may have changed.
pub stands_next : (front : List ℕ) (code : List Ins) (text slots slots' : Segment) (k : ℕ) (m m' : MachineState)
    → StandsAt front code text slots k m → k < length code → m'.pc ≡ next_pc m → m'.segments ≡ text ∷ slots' ∷ []
    → StandsAt front code text slots' (suc k) m'
stands_next front code text slots slots' k m m' at h pc segments =
    record {
      memory = segments;
      executable = at.executable;
      whole_words = at.whole_words;
      bytes = at.bytes;
      pc = let here : m.pc ≡ text.at + length front + 4 * k = at.pc in
          let room : text.at + length front + 4 * length code < 2 ^ 64 = at.room in
          omega arith;
      room = at.room;
    }

-- ---- the instructions of a block, one behind another from a place on

abbrev pub BlockAt : List Ins → ℕ → List Ins → Type 0
BlockAt code k [] = Unit {0}
BlockAt code k (ins ∷ block) = (slice_get code k ≡ Some ins) × BlockAt code (suc k) block

pub get_behind : {X : Type 0} (before rest : List X) (x : X) → slice_get (before ++ x ∷ rest) (length before) ≡ Some x
get_behind [] rest x = refl
get_behind (y ∷ before) rest x = get_behind before rest x

pub block_at : (before block behind code : List Ins) (k : ℕ) → code ≡ before ++ (block ++ behind) → k ≡ length before
    → BlockAt code k block
block_at before [] behind code k split place = tt
block_at before (ins ∷ block) behind code k split place = (
  ap (λ c. slice_get c k) split ∙ ap (slice_get (before ++ ins ∷ (block ++ behind))) place
      ∙ get_behind before (block ++ behind) ins,
  block_at (before ++ ins ∷ []) block behind code (suc k)
      (split ∙ sym (append_assoc before (ins ∷ []) (block ++ behind)))
      (omega (arith, place, length_push before ins)),
)

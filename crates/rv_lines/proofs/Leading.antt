-- How lines lead from registers to others.
use Rattle.std.proofs.Common.{◌≡◌, ◌∙◌, ◌≢◌, ℕ, zero, suc, ◌^◌, ◌<◌, Bool, true, false, not, cond, List, []}
use Rattle.std.proofs.Common.{◌∷◌, length, Option, Some, None, arith, refl, ap, slice_index}
use Rattle.std.proofs.Common.{get_or-set_other, get_or-set_same}
use Rattle.std.proofs.Math.ListN.{length-set}
use Rattle.num_core.specs.Run.{Running, Streams}
use Rattle.rv_isa.specs.declared.ins.Ins.{Ins}
use Rattle.rv_step.specs.Machine.{MachineState, effect, with_register}
use Rattle.rv_code.specs.Code.{given}
use Rattle.rt_code.proofs.Passing.{all_set}
use Rattle.rv_lines.specs.Holds.{holds}
use Rattle.rv_lines.specs.Leading.{AnswersOr, AreRegisters, Behind, GivesWord, Gives, IsKept, KeepsAll}
use Rattle.rv_lines.specs.Leading.{Leads, LeadsTo, Over, Passes, Takes, ToLabel}
use Rattle.rv_lines.specs.declared.line.Condition.{Condition}
use Rattle.rv_lines.specs.declared.line.Line.{Line}
use Rattle.rv_lines.specs.declared.line.Line.TheVariants.{Single, Branch}

abbrev pub IsWord : ℕ → Type 0
IsWord n = n < 2 ^ 64

-- ---- registers of which one has got a word

pub got : (registers : List ℕ) (r value : ℕ) → AreRegisters registers → 0 < r → r < 32
    → slice_index (with_register registers r value) r ≡ value
got registers zero value has h h' = absurd (omega arith)
got registers (suc r) value has h h' =
    let count : length registers ≡ 32 = has.count in
    get_or-set_same registers (suc r) value 0 (omega (arith, count, h'))

pub kept : (registers : List ℕ) (r q value : ℕ) → q ≢ r
    → slice_index (with_register registers r value) q ≡ slice_index registers q
kept registers zero q value ne = refl
kept registers (suc r) q value ne = get_or-set_other registers (suc r) q value 0 ne

pub has_word : (registers : List ℕ) (r value : ℕ) → value < 2 ^ 64 → AreRegisters registers
    → AreRegisters (with_register registers r value)
has_word registers zero value fits has = has
has_word registers (suc r) value fits has =
    let ne : 0 ≢ suc r = omega arith in
    record {
      count = length-set registers (suc r) value ∙ has.count;
      x0 = get_or-set_other registers (suc r) 0 value 0 ne ∙ has.x0;
      words = all_set IsWord registers (suc r) value has.words fits;
    }

-- an instruction whose word is a function of the registers
pub by_registers : (ins : Ins) (rd : ℕ) (word : List ℕ → ℕ)
    → ((m : MachineState) (streams : Streams) → effect ins m streams ≡ Running (given rd (word m.registers) m) streams)
    → (registers : List ℕ) (value : ℕ) → word registers ≡ value → GivesWord ins registers rd value
by_registers ins rd word does registers value is =
    λ m streams same. does m streams ∙ ap (λ v. Running (given rd v m) streams) (ap word same ∙ is)

pub by_one : (ins : Ins) (rd x : ℕ) (word : ℕ → ℕ)
    → ((m : MachineState) (streams : Streams)
    → effect ins m streams ≡ Running (given rd (word (slice_index m.registers x)) m) streams)
    → (registers : List ℕ) (p value : ℕ) → slice_index registers x ≡ p → word p ≡ value
    → GivesWord ins registers rd value
by_one ins rd x word does registers p value e is =
    by_registers ins rd (λ rs. word (slice_index rs x)) does registers value (ap word e ∙ is)

pub by_two : (ins : Ins) (rd x y : ℕ) (word : ℕ → ℕ → ℕ)
    → ((m : MachineState) (streams : Streams)
    → effect ins m streams ≡ Running (given rd (word (slice_index m.registers x) (slice_index m.registers y)) m)
    streams)
    → (registers : List ℕ) (p q value : ℕ) → slice_index registers x ≡ p → slice_index registers y ≡ q → word p q
    ≡ value
    → GivesWord ins registers rd value
by_two ins rd x y word does registers p q value e f is =
    by_registers ins rd (λ rs. word (slice_index rs x) (slice_index rs y)) does registers value
    (ap (λ n. word n (slice_index registers y)) e ∙ ap (word p) f ∙ is)

-- ---- lines that give one register a word

pub leads_once : (ins : Ins) (registers : List ℕ) (r value : ℕ) → AreRegisters registers → 0 < r → r < 32
    → GivesWord ins registers r value → value < 2 ^ 64 → LeadsTo (Single ins ∷ []) registers r value
leads_once ins registers r value has h h' gives fits =
    let new : List ℕ = with_register registers r value in
    record {
      new = new;
      leads = Gives ins [] registers r value (Behind new) gives fits (Over new);
      registers_then = has_word registers r value fits has;
      result = got registers r value has h h';
      others = λ q ne. kept registers r q value ne;
    }

pub leads_twice : (first second : Ins) (registers : List ℕ) (r between value : ℕ) → AreRegisters registers → 0 < r
    → r < 32 → GivesWord first registers r between → between < 2 ^ 64
    → GivesWord second (with_register registers r between) r value → value < 2 ^ 64
    → LeadsTo (Single first ∷ Single second ∷ []) registers r value
leads_twice first second registers r between value has h h' gives fits gives' fits' =
    let middle : List ℕ = with_register registers r between in
    let there : LeadsTo (Single second ∷ []) middle r value =
    leads_once second middle r value (has_word registers r between fits has) h h' gives' fits' in
    record {
      new = there.new;
      leads = Gives first (Single second ∷ []) registers r between (Behind there.new) gives fits there.leads;
      registers_then = there.registers_then;
      result = there.result;
      others = λ q ne. there.others q ne ∙ kept registers r q between ne;
    }

-- ---- lines that may be refused

-- what is before the lines' first register is kept from an origin
pub record AnswersFrom (lines : List Line) (origin registers : List ℕ) (rd value : ℕ) : Type 0 where
  pub new : List ℕ
  pub leads : Leads lines registers (Behind new)
  pub registers_then : AreRegisters new
  pub result : slice_index new rd ≡ value
  pub others : (r : ℕ) → r ≢ rd → IsKept r → slice_index new r ≡ slice_index origin r

pub record RefusesFrom (lines : List Line) (origin registers : List ℕ) (label : ℕ) : Type 0 where
  pub new : List ℕ
  pub leads : Leads lines registers (ToLabel label new)
  pub registers_then : AreRegisters new
  pub others : KeepsAll origin new

abbrev pub EndsOr : List Line → List ℕ → List ℕ → ℕ → ℕ → Option ℕ → Type 0
EndsOr lines origin registers rd label None = RefusesFrom lines origin registers label
EndsOr lines origin registers rd label (Some value) = AnswersFrom lines origin registers rd value

pub answers_or : (lines : List Line) (registers : List ℕ) (rd label : ℕ) (o : Option ℕ)
    → EndsOr lines registers registers rd label o → AnswersOr lines registers rd label o
answers_or lines registers rd label None e = record {
  new = e.new;
  leads = e.leads;
  registers_then = e.registers_then;
  others = e.others;
}
answers_or lines registers rd label (Some value) e = record {
  new = e.new;
  leads = e.leads;
  registers_then = e.registers_then;
  result = e.result;
  others = e.others;
}

-- one instruction in front
pub gives_first : (ins : Ins) (lines : List Line) (origin registers : List ℕ) (r word rd label : ℕ) (o : Option ℕ)
    → GivesWord ins registers r word → word < 2 ^ 64
    → EndsOr lines origin (with_register registers r word) rd label o
    → EndsOr (Single ins ∷ lines) origin registers rd label o
gives_first ins lines origin registers r word rd label None gives fits e = record {
  new = e.new;
  leads = Gives ins lines registers r word (ToLabel label e.new) gives fits e.leads;
  registers_then = e.registers_then;
  others = e.others;
}
gives_first ins lines origin registers r word rd label (Some value) gives fits e = record {
  new = e.new;
  leads = Gives ins lines registers r word (Behind e.new) gives fits e.leads;
  registers_then = e.registers_then;
  result = e.result;
  others = e.others;
}

-- a branch in front that is passed
pub passes_first : (condition : Condition) (x y to : ℕ) (lines : List Line) (origin registers : List ℕ) (rd label : ℕ)
    (o : Option ℕ) → holds condition (slice_index registers x) (slice_index registers y) ≡ false
    → EndsOr lines origin registers rd label o → EndsOr (Branch condition x y to ∷ lines) origin registers rd label o
passes_first condition x y to lines origin registers rd label None false_is e = record {
  new = e.new;
  leads = Passes condition x y to lines registers (ToLabel label e.new) false_is e.leads;
  registers_then = e.registers_then;
  others = e.others;
}
passes_first condition x y to lines origin registers rd label (Some value) false_is e = record {
  new = e.new;
  leads = Passes condition x y to lines registers (Behind e.new) false_is e.leads;
  registers_then = e.registers_then;
  result = e.result;
  others = e.others;
}

-- the end
pub ends_over : (origin registers : List ℕ) (rd label value : ℕ) → AreRegisters registers
    → slice_index registers rd ≡ value
    → ((r : ℕ) → r ≢ rd → IsKept r → slice_index registers r ≡ slice_index origin r)
    → EndsOr [] origin registers rd label (Some value)
ends_over origin registers rd label value has is others =
    record { new = registers; leads = Over registers; registers_then = has; result = is; others = others }

-- a branch that is taken unless a test holds
pub branches_unless : (condition : Condition) (x y label : ℕ) (lines : List Line) (origin registers : List ℕ)
    (rd value : ℕ)
    (t : Bool) → holds condition (slice_index registers x) (slice_index registers y) ≡ not t → AreRegisters registers
    → KeepsAll origin registers → (t ≡ true → EndsOr lines origin registers rd label (Some value))
    → EndsOr (Branch condition x y label ∷ lines) origin registers rd label (cond t (Some value) None)
branches_unless condition x y label lines origin registers rd value true false_is has others rest =
    passes_first condition x y label lines origin registers rd label (Some value) false_is (rest refl)
branches_unless condition x y label lines origin registers rd value false true_is has others rest =
    record {
      new = registers;
      leads = Takes condition x y label lines registers true_is;
      registers_then = has;
      others = others;
    }

-- where the branch is the last line, and the word is in x7 by then
pub ends_unless : (condition : Condition) (x y label : ℕ) (origin registers : List ℕ) (value : ℕ) (t : Bool)
    → holds condition (slice_index registers x) (slice_index registers y) ≡ not t → AreRegisters registers
    → KeepsAll origin registers → (t ≡ true → slice_index registers 7 ≡ value)
    → EndsOr (Branch condition x y label ∷ []) origin registers 7 label (cond t (Some value) None)
ends_unless condition x y label origin registers value t test has others is =
    branches_unless condition x y label [] origin registers 7 value t test has others
    (λ true_is. ends_over origin registers 7 label value has (is true_is) (λ r ne k. others r k))

-- ---- what is kept by registers that such lines may use

pub keeps_all : (registers : List ℕ) → KeepsAll registers registers
keeps_all registers = λ r k. refl

pub keeps_7 : (origin registers : List ℕ) (value : ℕ) → KeepsAll origin registers
    → KeepsAll origin (with_register registers 7 value)
keeps_7 origin registers value others = λ r k. kept registers 7 r value k.not_result ∙ others r k

pub keeps_28 : (origin registers : List ℕ) (value : ℕ) → KeepsAll origin registers
    → KeepsAll origin (with_register registers 28 value)
keeps_28 origin registers value others = λ r k. kept registers 28 r value k.not_first ∙ others r k

pub keeps_29 : (origin registers : List ℕ) (value : ℕ) → KeepsAll origin registers
    → KeepsAll origin (with_register registers 29 value)
keeps_29 origin registers value others = λ r k. kept registers 29 r value k.not_second ∙ others r k

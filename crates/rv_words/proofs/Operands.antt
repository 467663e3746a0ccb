-- The operands of an operation in registers: each in its home, or in another register, to which it is read.
use Rattle.std.proofs.Common.{◌≡◌, ◌∙◌, ◌⊎◌, inl, inr, ℕ, ◌+◌, ◌-◌, ◌*◌, ◌^◌, ◌<◌, ◌≤◌, List, [], ◌++◌, length}
use Rattle.std.proofs.Common.{Option, Some, None}
use Rattle.std.proofs.Common.{arith, refl, ap, sym, subst}
use Rattle.rv_isa.specs.declared.ins.Ins.{Ins}
use Rattle.rv_step.specs.Machine.{MachineState, register}
use Rattle.rv_step.specs.Memory.{MayRead, is_allowed}
use Rattle.rv_code.specs.Code.{AllLegal, BlockAt, CodeAt}
use Rattle.rv_code.specs.Registers.{HasRegisters}
use Rattle.lir_core.specs.Program.{WordProgram}
use Rattle.lir_core.specs.declared.body.LirBody.{LirBody}
use Rattle.rv_lines.specs.Frame.{home, slot_place}
use Rattle.rv_lines.specs.Operands.{reads_slot, register_or}
use Rattle.rv_lines.specs.declared.line.Line.{Line}
use Rattle.rv_gen.specs.Lines.{with_one, with_two}
use Rattle.rv_words.specs.Linked.{linked}
use Rattle.rv_words.specs.Words.{word_at}
use Rattle.rv_words.proofs.ConstantCode.{got_word, load_code, load_short, load_singles, singles}
use Rattle.rv_words.proofs.Going.{Goes, goes_nowhere, goes_on}
use Rattle.rv_words.proofs.Got.{Got, IsFree, got_keeps}
use Rattle.rv_words.proofs.Homes.{home_bound}
use Rattle.rv_words.proofs.Kept.{word_same}
use Rattle.rv_words.proofs.Lines.{AtLines, at_behind, at_equal, first_code, first_part, size_singles}
use Rattle.rv_words.proofs.LinkedCode.{longest_of, size_append, size_of}
use Rattle.rv_words.proofs.Moved.{KeepsOwn, keeps_through}
use Rattle.rv_words.proofs.Places.{far_of}
use Rattle.rv_words.proofs.Reading.{SlotStands, StandsIn}

abbrev pub reads_code : Option ℕ → ℕ → ℕ → List Ins
reads_code (Some r) other slot = []
reads_code None other slot = load_code other 2 (slot_place slot)

reads_singles : (o : Option ℕ) (other slot : ℕ) → reads_slot o other slot ≡ singles (reads_code o other slot)
reads_singles (Some r) other slot = refl
reads_singles None other slot = load_singles other 2 (slot_place slot)

reads_short : (o : Option ℕ) (other slot : ℕ) → slot_place slot < 65536 → length (reads_code o other slot) ≤ 4
reads_short (Some r) other slot h = omega arith
reads_short None other slot h = load_short other 2 (slot_place slot) (omega (arith, h))

-- A register has the word, and nothing else that counts has changed.
pub record Operand (address : ℕ) (code : List Ins) (place most other r n : ℕ) (m : MachineState) : Type 0 where
  pub new : MachineState
  pub count : ℕ
  pub few : count ≤ most
  pub goes : Goes address code place count m new
  pub has : register new r ≡ n
  pub keeps : KeepsOwn m new
  pub others : (q : ℕ) → (q ≡ other → ⊥) → (q ≡ 28 → ⊥) → register new q ≡ register m q
  pub registers : HasRegisters new
  pub memory : new.segments ≡ m.segments

pub keeps_itself : (m : MachineState) → KeepsOwn m m
keeps_itself m = record { frame = refl; homes = λ k h. refl; lowest = refl; heap = refl }

operand_by : (address : ℕ) (code : List Ins) (k other slot n : ℕ) (m : MachineState) (o : Option ℕ)
    → CodeAt address code m → m.pc ≡ address + 4 * k → BlockAt code k (reads_code o other slot)
    → AllLegal (reads_code o other slot) → StandsIn o m slot n → n < 2 ^ 64
    → register m 2 + slot_place slot + 8 ≤ 2 ^ 64 → slot_place slot < 65536 → IsFree other → 0 < other → other < 32
    → HasRegisters m
    → Operand address code (k + length (reads_code o other slot)) 4 other (register_or o other) n m
operand_by address code k other slot n m (Some r) at pc there legal stands small fits near free h h' has =
    let here : k ≡ k + 0 = omega arith in
    record {
      new = m;
      count = 0;
      few = omega arith;
      goes = subst (λ p. Goes address code p 0 m m) here (goes_nowhere address code k m at pc);
      has = stands;
      keeps = keeps_itself m;
      others = λ q ne ne'. refl;
      registers = has;
      memory = refl;
    }
operand_by address code k other slot n m None at pc there legal stands small fits near free h h' has =
    let size : ℕ = length (load_code other 2 (slot_place slot)) in
    let g : Got address code (k + size) size other n m =
    got_word address code k other 2 (slot_place slot) (register m 2) n m at pc there legal h h' (λ e. omega
    (arith, e)) refl
    fits stands.0 stands.1 small has in
    let short : size ≤ 4 = load_short other 2 (slot_place slot) (omega (arith, near)) in
    let few : g.count ≤ size = g.few in
    record {
      new = g.new;
      count = g.count;
      few = omega (arith, few, short);
      goes = g.goes;
      has = g.has;
      keeps = got_keeps address code (k + size) size other n m free g;
      others = g.others;
      registers = g.registers;
      memory = g.memory;
    }

-- what another slot holds stands where it did
stands_still : (m new : MachineState) (vars : List ℕ) (slot n : ℕ) (o : Option ℕ) → home vars slot ≡ o → KeepsOwn m new
    → new.segments ≡ m.segments → StandsIn o m slot n → StandsIn o new slot n
stands_still m new vars slot n (Some r) e keeps memory is =
    let bound = home_bound vars slot r e in
    let low : 18 ≤ r = bound.0 in
    let high : r < 26 = bound.2 in
    let there : 18 + (r - 18) ≡ r = omega (arith, low) in
    ap (register new) (sym there) ∙ keeps.homes (r - 18) (omega (arith, low, high)) ∙ ap (register m) there ∙ is
stands_still m new vars slot n None e keeps memory is =
    let a : ℕ = register m 2 + slot_place slot in
    let same : a ≡ register new 2 + slot_place slot = ap (λ x. x + slot_place slot) (sym keeps.frame) in
    subst (λ x. MayRead new x 8 × (word_at new x ≡ n)) same
    (ap (λ ss. is_allowed (λ s. s.read) ss a 8) memory ∙ is.0, word_same m new a memory ∙ is.1)

pub slot_still : (m new : MachineState) (vars : List ℕ) (slot n : ℕ) → KeepsOwn m new → new.segments ≡ m.segments
    → SlotStands m vars slot n → SlotStands new vars slot n
slot_still m new vars slot n keeps memory s = record {
  stands = stands_still m new vars slot n (home vars slot) refl keeps memory s.stands;
  small = s.small;
  fits = subst (λ x. x + slot_place slot + 8 ≤ 2 ^ 64) (sym keeps.frame) s.fits;
  near = s.near;
}

-- ---- in the lines of an operation

-- The machine has gone through the first of some lines, and is at the rest of them.
pub record Past (program : WordProgram) (begin : ℕ) (body : LirBody) (far_at k most : ℕ) (lines rest : List Line)
    (m : MachineState) : Type 0 where
  pub far : ℕ
  pub place : ℕ
  pub new : MachineState
  pub count : ℕ
  pub few : count ≤ most
  pub goes : Goes begin (linked program begin body) place count m new
  pub at : AtLines program begin body far place rest new
  pub size : k + size_of (far_of body) far_at lines ≡ place + size_of (far_of body) far rest

-- one operand
pub record PastOne (program : WordProgram) (begin : ℕ) (body : LirBody) (far_at k other x n : ℕ)
    (lines rest : List Line) (m : MachineState) : Type 0 where
  pub past : Past program begin body far_at k 4 lines rest m
  pub has : register past.new x ≡ n
  pub keeps : KeepsOwn m past.new
  pub others : (q : ℕ) → (q ≡ other → ⊥) → (q ≡ 28 → ⊥) → register past.new q ≡ register m q
  pub memory : past.new.segments ≡ m.segments

pub past_operand : (program : WordProgram) (begin : ℕ) (body : LirBody) (far_at k other slot n : ℕ) (rest : List Line)
    (m : MachineState)
    → AtLines program begin body far_at k (reads_slot (home body.vars slot) other slot ++ rest) m
    → SlotStands m body.vars slot n → IsFree other → 0 < other → other < 32
    → PastOne program begin body far_at k other (register_or (home body.vars slot) other) n
    (reads_slot (home body.vars slot) other slot ++ rest) rest m
past_operand program begin body far_at k other slot n rest m at s free h h' =
    let o : Option ℕ = home body.vars slot in
    let xs : List Line = reads_slot o other slot in
    let code : List Ins = reads_code o other slot in
    let same : xs ≡ singles code = reads_singles o other slot in
    let first = first_code program begin body far_at k code m
    (at_equal program begin body far_at k xs (singles code) m same
    (first_part program begin body far_at k xs rest m at)) in
    let p : Operand begin (linked program begin body) (k + length code) 4 other (register_or o other) n m =
    operand_by begin (linked program begin body) k other slot n m o at.code_at at.pc first.0 first.1 s.stands s.small
    s.fits
    s.near free h h' at.registers in
    let far' : ℕ = far_at + longest_of xs in
    let sizes : size_of (far_of body) far_at (xs ++ rest)
    ≡ size_of (far_of body) far_at xs + size_of (far_of body) far' rest =
    size_append (far_of body) far_at xs rest in
    let own : size_of (far_of body) far_at xs ≡ length code =
    ap (size_of (far_of body) far_at) same ∙ size_singles (far_of body) far_at code in
    let place : ℕ = k + size_of (far_of body) far_at xs in
    let goes : Goes begin (linked program begin body) place p.count m p.new =
    subst (λ n. Goes begin (linked program begin body) (k + n) p.count m p.new) (sym own) p.goes in
    record {
      past = record {
        far = far';
        place = place;
        new = p.new;
        count = p.count;
        few = p.few;
        goes = goes;
        at = at_behind program begin body far_at k p.count xs rest m p.new at goes p.registers;
        size = omega (arith, sizes);
      };
      has = p.has;
      keeps = p.keeps;
      others = p.others;
      memory = p.memory;
    }

pub free_28 : IsFree 28
free_28 = (λ e. omega (arith, e), λ k h e. omega (arith, h, e))

pub free_5 : IsFree 5
free_5 = (λ e. omega (arith, e), λ k h e. omega (arith, e))

pub free_6 : IsFree 6
free_6 = (λ e. omega (arith, e), λ k h e. omega (arith, e))

pub past_one : (program : WordProgram) (begin : ℕ) (body : LirBody) (far_at k slot n : ℕ) (next : ℕ → List Line)
    (m : MachineState) → AtLines program begin body far_at k (with_one body.vars slot next) m
    → SlotStands m body.vars slot n
    → PastOne program begin body far_at k 5 (register_or (home body.vars slot) 5) n (with_one body.vars slot next)
    (next (register_or (home body.vars slot) 5)) m
past_one program begin body far_at k slot n next m at s =
    past_operand program begin body far_at k 5 slot n (next (register_or (home body.vars slot) 5)) m at s free_5
    (omega arith) (omega arith)

-- two operands
pub record PastTwo (program : WordProgram) (begin : ℕ) (body : LirBody) (far_at k x y a b : ℕ)
    (lines rest : List Line) (m : MachineState) : Type 0 where
  pub past : Past program begin body far_at k 8 lines rest m
  pub left : register past.new x ≡ a
  pub right : register past.new y ≡ b
  pub keeps : KeepsOwn m past.new
  pub memory : past.new.segments ≡ m.segments

-- the first one is still there: it is in x5, or in a home
first_apart : (vars : List ℕ) (slot q : ℕ) (o : Option ℕ) → home vars slot ≡ o → (25 < q) ⊎ (q ≡ 6)
    → register_or o 5 ≡ q → ⊥
first_apart vars slot q (Some r) e (inl high) same =
    let bound = home_bound vars slot r e in
    let less : r < 26 = bound.2 in
    omega (arith, high, same, less)
first_apart vars slot q (Some r) e (inr six) same =
    let bound = home_bound vars slot r e in
    let low : 18 ≤ r = bound.0 in
    omega (arith, six, same, low)
first_apart vars slot q None e (inl high) same = omega (arith, high, same)
first_apart vars slot q None e (inr six) same = omega (arith, six, same)

pub past_two : (program : WordProgram) (begin : ℕ) (body : LirBody) (far_at k left right a b : ℕ)
    (next : ℕ → ℕ → List Line) (m : MachineState)
    → AtLines program begin body far_at k (with_two body.vars left right next) m
    → SlotStands m body.vars left a → SlotStands m body.vars right b
    → PastTwo program begin body far_at k (register_or (home body.vars left) 5) (register_or
    (home body.vars right) 6) a b
    (with_two body.vars left right next)
    (next (register_or (home body.vars left) 5) (register_or (home body.vars right) 6)) m
past_two program begin body far_at k left right a b next m at s s' =
    let x : ℕ = register_or (home body.vars left) 5 in
    let y : ℕ = register_or (home body.vars right) 6 in
    let rest : List Line = reads_slot (home body.vars right) 6 right ++ next x y in
    let one = past_operand program begin body far_at k 5 left a rest m at s free_5 (omega arith) (omega arith) in
    let p = one.past in
    let two = past_operand program begin body p.far p.place 6 right b (next x y) p.new p.at
    (slot_still m p.new body.vars right b one.keeps one.memory s') free_6 (omega arith) (omega arith) in
    let q = two.past in
    let few : p.count ≤ 4 = p.few in
    let few' : q.count ≤ 4 = q.few in
    record {
      past = record {
        far = q.far;
        place = q.place;
        new = q.new;
        count = p.count + q.count;
        few = omega (arith, few, few');
        goes = goes_on begin (linked program begin body) p.place q.place p.count q.count m p.new q.new p.goes q.goes;
        at = q.at;
        size = p.size ∙ q.size;
      };
      left = two.others x (first_apart body.vars left 6 (home body.vars left) refl (inr refl))
          (first_apart body.vars left 28 (home body.vars left) refl (inl (omega arith))) ∙ one.has;
      right = two.has;
      keeps = keeps_through m p.new q.new one.keeps two.keeps;
      memory = two.memory ∙ one.memory;
    }

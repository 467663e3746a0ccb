-- How homes get the words that a frame saved.
use Rattle.std.proofs.Common.{◌≡◌, ◌∙◌, ◌⊎◌, inl, inr, ℕ, zero, suc, ◌+◌, ◌*◌, ◌^◌, ◌<◌, ◌≤◌, pos, List, [], ◌∷◌, ◌++◌}
use Rattle.std.proofs.Common.{length, drop, Some, arith, refl, ap, sym, subst}
use Rattle.rv_isa.specs.declared.ins.Ins.{Ins}
use Rattle.rv_step.specs.Machine.{MachineState, register}
use Rattle.rv_step.specs.Memory.{MayRead, is_allowed}
use Rattle.rv_code.specs.Code.{AllLegal, BlockAt, CodeAt}
use Rattle.rv_code.specs.Registers.{HasRegisters, listed}
use Rattle.rv_lines.specs.Frame.{first_home, homes_at}
use Rattle.rv_gen.specs.Calling.{restores_homes}
use Rattle.rv_lines.specs.declared.line.Line.TheVariants.{Single}
use Rattle.rv_words.specs.Words.{word_at}
use Rattle.rv_words.proofs.ConstantCode.{got_load, singles}
use Rattle.rv_words.proofs.Going.{Goes, goes_nowhere, goes_on}
use Rattle.rv_words.proofs.Got.{Got}
use Rattle.rv_words.proofs.Kept.{listed_same, word_same}

abbrev pub restore_code : ℕ → List ℕ → List Ins
restore_code k [] = []
restore_code k (var ∷ vars) = Ins.Ld (first_home + k) 2 (pos (homes_at + 8 * k)) ∷ restore_code (k + 1) vars

pub restore_singles : (k : ℕ) (vars : List ℕ) → restores_homes k vars ≡ singles (restore_code k vars)
restore_singles k [] = refl
restore_singles k (var ∷ vars) =
    ap (λ xs. Single (Ins.Ld (first_home + k) 2 (pos (homes_at + 8 * k))) ∷ xs) (restore_singles (k + 1) vars)

pub restore_length : (k : ℕ) (vars : List ℕ) → length (restore_code k vars) ≡ length vars
restore_length k [] = refl
restore_length k (var ∷ vars) = ap suc (restore_length (k + 1) vars)

-- where a frame saves a home
abbrev pub saved_at : MachineState → ℕ → ℕ
saved_at m j = register m 2 + (homes_at + 8 * j)

-- So many homes from one on have the words that were saved, and of the other registers none has changed but x28.
pub record Restored (address : ℕ) (code : List Ins) (place count k : ℕ) (m : MachineState) : Type 0 where
  pub new : MachineState
  pub goes : Goes address code place count m new
  pub homes : (j : ℕ) → k ≤ j → j < k + count → register new (18 + j) ≡ word_at m (saved_at m j)
  pub others : (q : ℕ) → (q < 18 + k) ⊎ (18 + (k + count) ≤ q) → (q ≡ 28 → ⊥) → register new q ≡ register m q
  pub registers : HasRegisters new
  pub memory : new.segments ≡ m.segments

-- the words that were saved may be read
abbrev pub AreSaved : MachineState → Type 0
AreSaved m = (j : ℕ) → j < 8 → MayRead m (saved_at m j) 8 × (word_at m (saved_at m j) < 2 ^ 64)

either_home : (k j : ℕ) → k ≤ j → (j ≡ k) ⊎ (k + 1 ≤ j)
either_home k j h = grind arith

pub restored : (address : ℕ) (code : List Ins) (at k : ℕ) (vars : List ℕ) (m : MachineState) → CodeAt address code m
    → m.pc ≡ address + 4 * at → BlockAt code at (restore_code k vars) → AllLegal (restore_code k vars)
    → k + length vars ≤ 8 → register m 2 + 128 ≤ 2 ^ 64 → AreSaved m → HasRegisters m
    → Restored address code (at + length vars) (length vars) k m
restored address code at k [] m code_at pc there legal few fits saved has =
    let here : at ≡ at + 0 = omega arith in
    record {
      new = m;
      goes = subst (λ p. Goes address code p 0 m m) here (goes_nowhere address code at m code_at pc);
      homes = λ j h h'. absurd (omega (arith, h, h'));
      others = λ q apart other. refl;
      registers = has;
      memory = refl;
    }
restored address code at k (var ∷ vars) m code_at pc there legal few fits saved has =
    let n : ℕ = word_at m (saved_at m k) in
    let mine = saved k (omega (arith, few)) in
    let g : Got address code (at + 1) 1 (18 + k) n m =
    got_load address code at (18 + k) 2 (8 + 8 * k) (saved_at m k) n m code_at pc there.0 legal.0 (omega arith)
    (omega (arith, few)) refl (omega (arith, fits, few)) mine.0 refl mine.1 has in
    let frame : register g.new 2 ≡ register m 2 = g.others 2 (λ e. omega (arith, e)) (λ e. omega (arith, e)) in
    let place_is : (j : ℕ) → saved_at g.new j ≡ saved_at m j = λ j. ap (λ x. x + (8 + 8 * j)) frame in
    let word_is : (j : ℕ) → word_at g.new (saved_at g.new j) ≡ word_at m (saved_at m j) =
    λ j. ap (word_at g.new) (place_is j) ∙ word_same m g.new (saved_at m j) g.memory in
    let saved' : AreSaved g.new =
    λ j less. (
      subst (λ a. MayRead g.new a 8) (sym (place_is j))
          (ap (λ ss. is_allowed (λ s. s.read) ss (saved_at m j) 8) g.memory ∙ (saved j less).0),
      subst (λ w. w < 2 ^ 64) (sym (word_is j)) (saved j less).1,
    ) in
    let r : Restored address code (at + 1 + length vars) (length vars) (k + 1) g.new =
    restored address code (at + 1) (k + 1) vars g.new g.goes.code_at g.goes.pc there.1 legal.1 (omega (arith, few))
    (subst (λ x. x + 128 ≤ 2 ^ 64) (sym frame) fits) saved' g.registers in
    let place : at + 1 + length vars ≡ at + suc (length vars) = omega arith in
    let counts : g.count + length vars ≡ suc (length vars) =
    let few' : g.count ≤ 1 = g.few in let some : 0 < g.count = g.some in omega (arith, few', some) in
    record {
      new = r.new;
      goes = subst (λ p. Goes address code p (suc (length vars)) m r.new) place
          (subst (λ c. Goes address code (at + 1 + length vars) c m r.new) counts
          (goes_on address code (at + 1) (at + 1 + length vars) g.count (length vars) m g.new r.new g.goes r.goes));
      homes = λ j low high. elim (either_home k j low) as
          (λ _. register r.new (18 + j) ≡ word_at m (saved_at m j)) [
            | inl same ↦ subst (λ i. register r.new (18 + i) ≡ word_at m (saved_at m i)) (sym same)
                (r.others (18 + k) (inl (omega arith)) (λ e. omega (arith, e, few)) ∙ g.has)
            | inr more ↦ r.homes j more (omega (arith, high)) ∙ word_is j
          ];
      others = λ q apart other.
          r.others q (further q apart) other ∙ g.others q (not_this q apart) other;
      registers = r.registers;
      memory = r.memory ∙ g.memory;
    }
  where
    further : (q : ℕ) → (q < 18 + k) ⊎ (18 + (k + suc (length vars)) ≤ q)
        → (q < 18 + (k + 1)) ⊎ (18 + (k + 1 + length vars) ≤ q)
    further q (inl low) = inl (omega (arith, low))
    further q (inr high) = inr (omega (arith, high))

    not_this : (q : ℕ) → (q < 18 + k) ⊎ (18 + (k + suc (length vars)) ≤ q) → q ≡ 18 + k → ⊥
    not_this q (inl low) e = omega (arith, low, e)
    not_this q (inr high) e = omega (arith, high, e)

-- ---- words in order, of which the first are others

pub listed_parts : (w u v : ℕ → ℕ) (first from count n : ℕ) → n ≤ count
    → ((j : ℕ) → j < n → w (first + j) ≡ u (from + j))
    → ((j : ℕ) → n ≤ j → j < count → w (first + j) ≡ v (first + j))
    → listed w first count ≡ listed u from n ++ drop n (listed v first count)
listed_parts w u v first from zero zero h one two = refl
listed_parts w u v first from zero (suc n) h one two = absurd (omega (arith, h))
listed_parts w u v first from (suc count) zero h one two =
    listed_same v w first (suc count) (λ j less. two j (omega arith) less)
listed_parts w u v first from (suc count) (suc n) h one two =
    let here : first + 0 ≡ first = omega arith in
    let there : from + 0 ≡ from = omega arith in
    let head : w first ≡ u from = ap w (sym here) ∙ one 0 (omega arith) ∙ ap u there in
    let tail : listed w (suc first) count ≡ listed u (suc from) n ++ drop n (listed v (suc first) count) =
    listed_parts w u v (suc first) (suc from) count n (omega (arith, h))
    (λ j less. let e : first + suc j ≡ suc first + j = omega arith in
    let e' : from + suc j ≡ suc from + j = omega arith in
    ap w (sym e) ∙ one (suc j) (omega (arith, less)) ∙ ap u e')
    (λ j low less. let e : first + suc j ≡ suc first + j = omega arith in
    ap w (sym e) ∙ two (suc j) (omega (arith, low)) (omega (arith, less)) ∙ ap v e) in
    ap (λ x. x ∷ listed w (suc first) count) head ∙ ap (λ xs. u from ∷ xs) tail

-- How a machine goes along lines that compute, of which some are branches: what they do to registers, wherever they are
-- placed, they do where they stand.
use Rattle.std.proofs.Common.{◌≡◌, ◌∙◌, ℕ, zero, suc, ◌+◌, ◌*◌, ◌<◌, ◌≤◌, Bool, true, false, cond, List, [], ◌∷◌}
use Rattle.std.proofs.Common.{length, Option, Some, None, arith, refl, ap, sym, subst, slice_get, slice_index}
use Rattle.std.specs.Prelude.{unwrap_or}
use Rattle.rv_isa.specs.declared.ins.Ins.{Ins}
use Rattle.rv_step.specs.Machine.{MachineState, register, with_register}
use Rattle.rv_code.specs.Code.{given}
use Rattle.rv_code.specs.Registers.{HasRegisters}
use Rattle.rv_code.proofs.Going.{block_parts, legal_parts}
use Rattle.lir_core.specs.Program.{WordProgram}
use Rattle.lir_core.specs.declared.body.LirBody.{LirBody}
use Rattle.rv_lines.specs.Holds.{holds}
use Rattle.rv_lines.specs.Leading.{Behind, Leads, ToLabel}
use Rattle.rv_lines.specs.Leading.Leads.{Gives, Over, Passes, Takes}
use Rattle.rv_lines.specs.declared.line.Condition.{Condition}
use Rattle.rv_lines.specs.declared.line.Line.{Line}
use Rattle.rv_lines.specs.declared.line.Line.TheVariants.{Addressed, Branch, Jump, Label, Single}
use Rattle.rv_gen.specs.Lines.{lines_of}
use Rattle.rv_gen.specs.Placing.{are_close, branch_code, branch_limit, code_of, place_in, places_from, places_in, size}
use Rattle.rv_words.specs.Linked.{linked}
use Rattle.rv_words.specs.Placing.{reach}
use Rattle.rv_words.proofs.Branches.{Lands, Turns, has_all, lands_by_branch, passes_branch}
use Rattle.rv_words.proofs.Going.{Goes, goes_given, goes_nowhere, goes_on}
use Rattle.rv_words.proofs.Lines.{AtLines, at_behind, first_part}
use Rattle.rv_words.proofs.LinkedCode.{size_of}
use Rattle.rv_words.proofs.Places.{code_size, far_of}
use Rattle.rv_words.proofs.Registers.{given_has}

-- The machine has gone to a place in so many steps, with these registers and the memory as before.
pub record GoesWith (address : ℕ) (code : List Ins) (place count : ℕ) (m : MachineState) (registers : List ℕ)
    : Type 0 where
  pub new : MachineState
  pub goes : Goes address code place count m new
  pub are : new.registers ≡ registers
  pub has : HasRegisters new
  pub memory : new.segments ≡ m.segments

-- one step first, to another machine
abbrev with_first : (address : ℕ) (code : List Ins) (k place place' count : ℕ) (m between : MachineState)
    (registers : List ℕ)
    → Goes address code k 1 m between → between.segments ≡ m.segments → place ≡ place'
    → GoesWith address code place count between registers → GoesWith address code place' (suc count) m registers
with_first address code k place place' count m between registers goes memory same g =
    let sum : 1 + count ≡ suc count = omega arith in
    record {
      new = g.new;
      goes = subst (λ n. Goes address code place' n m g.new) sum
          (subst (λ p. Goes address code p (1 + count) m g.new) same
          (goes_on address code k place 1 count m between g.new goes g.goes));
      are = g.are;
      has = g.has;
      memory = g.memory ∙ memory;
    }

-- ---- a branch

-- it isn't taken: one step to the line behind it
passed : (program : WordProgram) (begin : ℕ) (body : LirBody) (far_at k : ℕ) (condition : Condition) (x y label : ℕ)
    (m : MachineState) → AtLines program begin body far_at k (Branch condition x y label ∷ []) m
    → begin + 4 * length (linked program begin body) < reach
    → begin + 4 * place_in (places_in (lines_of body)) label < reach
    → holds condition (register m x) (register m y) ≡ false
    → Turns begin (linked program begin body)
    (k + cond (are_close branch_limit far_at (place_in (far_of body) label)) 1 3) m
passed program begin body far_at k condition x y label m at near near' is =
    let close : Bool = are_close branch_limit far_at (place_in (far_of body) label) in
    let to : ℕ = place_in (places_in (lines_of body)) label in
    let own : List Ins = branch_code close condition x y k to in
    passes_branch begin (linked program begin body) k to condition x y close m at.code_at at.pc
    (block_parts (linked program begin body) k own [] at.block).0 (legal_parts own [] at.legal).0 near near' is

-- ---- on behind the last line

-- all labels of the body lie within reach
abbrev pub AreInReach : ℕ → LirBody → Type 0
AreInReach begin body = (label : ℕ) → begin + 4 * place_in (places_in (lines_of body)) label < reach

pub along : (program : WordProgram) (begin : ℕ) (body : LirBody) (far_at k : ℕ) (lines : List Line)
    (registers new : List ℕ) (m : MachineState) → Leads lines registers (Behind new)
    → AtLines program begin body far_at k lines m → m.registers ≡ registers
    → begin + 4 * length (linked program begin body) < reach → AreInReach begin body
    → GoesWith begin (linked program begin body) (k + size_of (far_of body) far_at lines) (length lines) m new
along program begin body far_at k _ _ _ m (Over registers) at are near labels =
    let here : k ≡ k + 0 = omega arith in
    record {
      new = m;
      goes = subst (λ p. Goes begin (linked program begin body) p 0 m m) here
          (goes_nowhere begin (linked program begin body) k m at.code_at at.pc);
      are = are;
      has = at.registers;
      memory = refl;
    }
along program begin body far_at k _ _ new m (Gives ins lines registers rd value _ gives small rest) at are near labels =
    let code : List Ins = linked program begin body in
    let own = first_part program begin body far_at k (Single ins ∷ []) lines m at in
    let m1 : MachineState = given rd value m in
    let step : Goes begin code (k + 1) 1 m m1 =
    goes_given begin code k ins rd value m at.code_at at.pc own.block.0 own.legal.0 (λ streams. gives m streams are) in
    let has : HasRegisters m1 = given_has rd value m small at.registers in
    let next : AtLines program begin body (far_at + 1) (k + (1 + 0)) lines m1 =
    at_behind program begin body far_at k 1 (Single ins ∷ []) lines m m1 at step has in
    let g = along program begin body (far_at + 1) (k + 1) lines (with_register registers rd value) new m1 rest next
    (ap (λ rs. with_register rs rd value) are) near labels in
    let place : (k + 1) + size_of (far_of body) (far_at + 1) lines ≡ k + (1 + size_of (far_of body)
    (far_at + 1) lines) =
    omega arith in
    with_first begin code (k + 1) ((k + 1) + size_of (far_of body) (far_at + 1) lines)
    (k + (1 + size_of (far_of body) (far_at + 1) lines)) (length lines) m m1 new step refl place g
along program begin body far_at k _ _ new m (Passes condition x y label lines registers _ is rest) at are near labels =
    let code : List Ins = linked program begin body in
    let one : List Line = Branch condition x y label ∷ [] in
    let n : ℕ = cond (are_close branch_limit far_at (place_in (far_of body) label)) 1 3 in
    let own = first_part program begin body far_at k one lines m at in
    let here : holds condition (register m x) (register m y) ≡ false =
    ap (λ rs. holds condition (slice_index rs x) (slice_index rs y)) are ∙ is in
    let l : Turns begin code (k + n) m =
    passed program begin body far_at k condition x y label m own near (labels label) here in
    let m1 : MachineState = record m { pc = l.pc } in
    let has : HasRegisters m1 = has_all m l.pc at.registers in
    let size : n ≡ n + 0 = omega arith in
    let next : AtLines program begin body (far_at + (3 + 0)) (k + (n + 0)) lines m1 =
    at_behind program begin body far_at k 1 one lines m m1 at
    (subst (λ j. Goes begin code (k + j) 1 m m1) size l.goes) has in
    let next' : AtLines program begin body (far_at + 3) (k + n) lines m1 =
    subst (λ j. AtLines program begin body (far_at + 3) (k + j) lines m1) (sym size) next in
    let g = along program begin body (far_at + 3) (k + n) lines registers new m1 rest next' are near labels in
    let place : (k + n) + size_of (far_of body) (far_at + 3) lines ≡ k + (n + size_of (far_of body)
    (far_at + 3) lines) =
    omega arith in
    with_first begin code (k + n) ((k + n) + size_of (far_of body) (far_at + 3) lines)
    (k + (n + size_of (far_of body) (far_at + 3) lines)) (length lines) m m1 new l.goes refl place g

-- ---- to the label of a branch

-- The machine has gone to a branch that is taken, and from there to its label.
pub record GoesToLabel (address : ℕ) (code : List Ins) (to most : ℕ) (m : MachineState) (registers : List ℕ)
    : Type 0 where
  pub place : ℕ
  pub count : ℕ
  pub few : count + 1 ≤ most
  pub with_registers : GoesWith address code place count m registers
  pub lands : Lands address code to 3 with_registers.new

to_label_first : (address : ℕ) (code : List Ins) (k to most : ℕ) (m between : MachineState) (registers : List ℕ)
    → Goes address code k 1 m between → between.segments ≡ m.segments
    → GoesToLabel address code to most between registers → GoesToLabel address code to (suc most) m registers
to_label_first address code k to most m between registers goes memory g =
    let few : g.count + 1 ≤ most = g.few in
    record {
      place = g.place;
      count = suc g.count;
      few = omega (arith, few);
      with_registers = with_first address code k g.place g.place g.count m between registers goes memory refl
          g.with_registers;
      lands = g.lands;
    }

pub to_label : (program : WordProgram) (begin : ℕ) (body : LirBody) (far_at k label to : ℕ) (lines : List Line)
    (registers new : List ℕ) (m : MachineState) → Leads lines registers (ToLabel label new)
    → AtLines program begin body far_at k lines m → m.registers ≡ registers
    → begin + 4 * length (linked program begin body) < reach → AreInReach begin body
    → place_in (places_in (lines_of body)) label ≡ to
    → GoesToLabel begin (linked program begin body) to (length lines) m new
to_label program begin body far_at k label to _ _ new m (Gives ins lines registers rd value _ gives small rest) at are
    near
    labels is_to =
    let code : List Ins = linked program begin body in
    let own = first_part program begin body far_at k (Single ins ∷ []) lines m at in
    let m1 : MachineState = given rd value m in
    let step : Goes begin code (k + 1) 1 m m1 =
    goes_given begin code k ins rd value m at.code_at at.pc own.block.0 own.legal.0 (λ streams. gives m streams are) in
    let has : HasRegisters m1 = given_has rd value m small at.registers in
    let next : AtLines program begin body (far_at + 1) (k + (1 + 0)) lines m1 =
    at_behind program begin body far_at k 1 (Single ins ∷ []) lines m m1 at step has in
    to_label_first begin code (k + 1) to (length lines) m m1 new step refl
    (to_label program begin body (far_at + 1) (k + 1) label to lines (with_register registers rd value) new m1 rest next
    (ap (λ rs. with_register rs rd value) are) near labels is_to)
to_label program begin body far_at k label to _ _ new m (Passes condition x y other lines registers _ is rest) at are
    near
    labels is_to =
    let code : List Ins = linked program begin body in
    let one : List Line = Branch condition x y other ∷ [] in
    let n : ℕ = cond (are_close branch_limit far_at (place_in (far_of body) other)) 1 3 in
    let own = first_part program begin body far_at k one lines m at in
    let here : holds condition (register m x) (register m y) ≡ false =
    ap (λ rs. holds condition (slice_index rs x) (slice_index rs y)) are ∙ is in
    let l : Turns begin code (k + n) m =
    passed program begin body far_at k condition x y other m own near (labels other) here in
    let m1 : MachineState = record m { pc = l.pc } in
    let has : HasRegisters m1 = has_all m l.pc at.registers in
    let size : n ≡ n + 0 = omega arith in
    let next : AtLines program begin body (far_at + (3 + 0)) (k + (n + 0)) lines m1 =
    at_behind program begin body far_at k 1 one lines m m1 at
    (subst (λ j. Goes begin code (k + j) 1 m m1) size l.goes) has in
    let next' : AtLines program begin body (far_at + 3) (k + n) lines m1 =
    subst (λ j. AtLines program begin body (far_at + 3) (k + j) lines m1) (sym size) next in
    to_label_first begin code (k + n) to (length lines) m m1 new l.goes refl
    (to_label program begin body (far_at + 3) (k + n) label to lines registers new m1 rest next' are near labels is_to)
to_label program begin body far_at k _ to _ _ _ m (Takes condition x y label lines registers is) at are near labels
    is_to =
    let code : List Ins = linked program begin body in
    let one : List Line = Branch condition x y label ∷ [] in
    let close : Bool = are_close branch_limit far_at (place_in (far_of body) label) in
    let own = first_part program begin body far_at k one lines m at in
    let here : holds condition (register m x) (register m y) ≡ true =
    ap (λ rs. holds condition (slice_index rs x) (slice_index rs y)) are ∙ is in
    let target : ℕ = place_in (places_in (lines_of body)) label in
    let ins : List Ins = branch_code close condition x y k target in
    let l : Lands begin code target 3 m =
    lands_by_branch begin code k target condition x y true close m at.code_at at.pc
    (block_parts code k ins [] own.block).0 (legal_parts ins [] own.legal).0 at.code_at.aligned near (labels label)
    at.registers here in
    record {
      place = k;
      count = 0;
      few = omega arith;
      with_registers = record {
        new = m;
        goes = goes_nowhere begin code k m at.code_at at.pc;
        are = are;
        has = at.registers;
        memory = refl;
      };
      lands = subst (λ p. Lands begin code p 3 m) is_to l;
    }

-- ---- labels

places_below : (far : List ℕ) (far_at at : ℕ) (lines : List Line) (label p : ℕ)
    → slice_get (places_from far far_at at lines) label ≡ Some p → p ≤ at + size_of far far_at lines
places_below far far_at at [] label p e = cc
places_below far far_at at (Label ∷ lines) zero p e =
    let same : at ≡ p = cc in
    omega (arith, same)
places_below far far_at at (Label ∷ lines) (suc label) p e =
    let rest : p ≤ (at + 0) + size_of far (far_at + 0) lines = places_below far (far_at + 0) (at + 0) lines label p e in
    omega (arith, rest)
places_below far far_at at (Single ins ∷ lines) label p e =
    let rest : p ≤ (at + 1) + size_of far (far_at + 1) lines = places_below far (far_at + 1) (at + 1) lines label p e in
    omega (arith, rest)
places_below far far_at at (Addressed upper lower kind item ∷ lines) label p e =
    let rest : p ≤ (at + 2) + size_of far (far_at + 2) lines = places_below far (far_at + 2) (at + 2) lines label p e in
    omega (arith, rest)
places_below far far_at at (Branch condition left right target ∷ lines) label p e =
    let n : ℕ = size far far_at (Branch condition left right target) in
    let rest : p ≤ (at + n) + size_of far (far_at + 3) lines = places_below far (far_at + 3) (at + n) lines label p e in
    omega (arith, rest)
places_below far far_at at (Jump target ∷ lines) label p e =
    let n : ℕ = size far far_at (Jump target) in
    let rest : p ≤ (at + n) + size_of far (far_at + 2) lines = places_below far (far_at + 2) (at + n) lines label p e in
    omega (arith, rest)

place_within : (body : LirBody) (label : ℕ) → place_in (places_in (lines_of body)) label ≤ length (code_of body)
place_within body label = by (slice_get (places_in (lines_of body)) label) refl
  where
    whole : length (code_of body) ≡ size_of (far_of body) 0 (lines_of body)
    whole = code_size (far_of body) (places_in (lines_of body)) 0 0 (lines_of body)

    by : (o : Option ℕ) → slice_get (places_in (lines_of body)) label ≡ o → unwrap_or o 0 ≤ length (code_of body)
    by None e = omega arith
    by (Some p) e =
        let h : p ≤ 0 + size_of (far_of body) 0 (lines_of body) =
        places_below (far_of body) 0 0 (lines_of body) label p e in
        omega (arith, h, whole)

pub all_in_reach : (begin : ℕ) (body : LirBody) → begin + 4 * length (code_of body) < reach → AreInReach begin body
all_in_reach begin body near label =
    let h : place_in (places_in (lines_of body)) label ≤ length (code_of body) = place_within body label in
    omega (arith, near, h)

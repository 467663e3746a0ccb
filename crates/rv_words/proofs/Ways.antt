-- A machine on its way through the lines of an operation.
use Rattle.std.proofs.Common.{◌≡◌, ◌∙◌, ℕ, ◌+◌, ◌≤◌, List, ◌++◌, length, arith, refl, ap, sym, subst}
use Rattle.rv_isa.specs.declared.ins.Ins.{Ins}
use Rattle.rv_step.specs.Machine.{MachineState}
use Rattle.rv_code.specs.Code.{AllLegal, BlockAt}
use Rattle.rv_code.specs.Registers.{HasRegisters}
use Rattle.lir_core.specs.Program.{WordProgram}
use Rattle.lir_core.specs.declared.body.LirBody.{LirBody}
use Rattle.rv_lines.specs.declared.line.Line.{Line}
use Rattle.rv_words.specs.Linked.{linked}
use Rattle.rv_words.proofs.ConstantCode.{singles}
use Rattle.rv_words.proofs.Going.{Goes, goes_nowhere, goes_on}
use Rattle.rv_words.proofs.Lines.{AtLines, at_behind, at_equal, first_code, first_part, size_singles}
use Rattle.rv_words.proofs.LinkedCode.{longest_of, size_append, size_of}
use Rattle.rv_words.proofs.Operands.{Past}
use Rattle.rv_words.proofs.Places.{far_of}

-- The machine has gone through the first of some lines, and is at the rest of them.
pub record Way (program : WordProgram) (begin : ℕ) (body : LirBody) (far_at k most : ℕ) (lines rest : List Line)
    (m w : MachineState) : Type 0 where
  pub far : ℕ
  pub place : ℕ
  pub count : ℕ
  pub few : count ≤ most
  pub goes : Goes begin (linked program begin body) place count m w
  pub at : AtLines program begin body far place rest w
  pub size : k + size_of (far_of body) far_at lines ≡ place + size_of (far_of body) far rest

abbrev pub way_first : (program : WordProgram) (begin : ℕ) (body : LirBody) (far_at k : ℕ) (lines : List Line)
    (m : MachineState) → AtLines program begin body far_at k lines m
    → Way program begin body far_at k 0 lines lines m m
way_first program begin body far_at k lines m at = record {
  far = far_at;
  place = k;
  count = 0;
  few = omega arith;
  goes = goes_nowhere begin (linked program begin body) k m at.code_at at.pc;
  at = at;
  size = refl;
}

-- it goes on through some more
pub way_on : (program : WordProgram) (begin : ℕ) (body : LirBody) (far_at k most more count : ℕ)
    (lines xs rest : List Line) (m w new : MachineState)
    → (way : Way program begin body far_at k most lines (xs ++ rest) m w)
    → Goes begin (linked program begin body) (way.place + size_of (far_of body) way.far xs) count w new
    → HasRegisters new → count ≤ more → Way program begin body far_at k (most + more) lines rest m new
way_on program begin body far_at k most more count lines xs rest m w new way goes has enough =
    let few : way.count ≤ most = way.few in
    let sizes : size_of (far_of body) way.far (xs ++ rest)
    ≡ size_of (far_of body) way.far xs + size_of (far_of body) (way.far + longest_of xs) rest =
    size_append (far_of body) way.far xs rest in
    record {
      far = way.far + longest_of xs;
      place = way.place + size_of (far_of body) way.far xs;
      count = way.count + count;
      few = omega (arith, few, enough);
      goes = goes_on begin (linked program begin body) way.place (way.place + size_of (far_of body) way.far xs)
          way.count
          count m w new way.goes goes;
      at = at_behind program begin body way.far way.place count xs rest w new way.at goes has;
      size = omega (arith, way.size, sizes);
    }

-- through nothing
pub way_same : (program : WordProgram) (begin : ℕ) (body : LirBody) (far_at k most : ℕ) (lines xs rest : List Line)
    (m w : MachineState) → xs ≡ rest → Way program begin body far_at k most lines xs m w
    → Way program begin body far_at k most lines rest m w
way_same program begin body far_at k most lines xs rest m w e way =
    subst (λ ls. Way program begin body far_at k most lines ls m w) e way

pub way_more : (program : WordProgram) (begin : ℕ) (body : LirBody) (far_at k most more : ℕ) (lines rest : List Line)
    (m w : MachineState) → most ≤ more → Way program begin body far_at k most lines rest m w
    → Way program begin body far_at k more lines rest m w
way_more program begin body far_at k most more lines rest m w h way =
    let few : way.count ≤ most = way.few in
    record {
      far = way.far;
      place = way.place;
      count = way.count;
      few = omega (arith, few, h);
      goes = way.goes;
      at = way.at;
      size = way.size;
    }

-- the lines of an operand
pub way_past : (program : WordProgram) (begin : ℕ) (body : LirBody) (far_at k most more : ℕ)
    (lines xs rest : List Line) (m w : MachineState)
    → (way : Way program begin body far_at k most lines xs m w)
    → (p : Past program begin body way.far way.place more xs rest w)
    → Way program begin body far_at k (most + more) lines rest m p.new
way_past program begin body far_at k most more lines xs rest m w way p =
    let few : way.count ≤ most = way.few in
    let few' : p.count ≤ more = p.few in
    record {
      far = p.far;
      place = p.place;
      count = way.count + p.count;
      few = omega (arith, few, few');
      goes = goes_on begin (linked program begin body) way.place p.place way.count p.count m w p.new way.goes p.goes;
      at = p.at;
      size = way.size ∙ p.size;
    }

-- ---- lines that are an instruction each

pub way_code : (program : WordProgram) (begin : ℕ) (body : LirBody) (far_at k most : ℕ) (lines xs rest : List Line)
    (code : List Ins) (m w : MachineState) → (way : Way program begin body far_at k most lines (xs ++ rest) m w)
    → xs ≡ singles code → BlockAt (linked program begin body) way.place code × AllLegal code
way_code program begin body far_at k most lines xs rest code m w way same =
    first_code program begin body way.far way.place code w
    (at_equal program begin body way.far way.place xs (singles code) w same
    (first_part program begin body way.far way.place xs rest w way.at))

pub way_by : (program : WordProgram) (begin : ℕ) (body : LirBody) (far_at k most more count : ℕ)
    (lines xs rest : List Line) (code : List Ins) (m w new : MachineState)
    → (way : Way program begin body far_at k most lines (xs ++ rest) m w) → xs ≡ singles code
    → Goes begin (linked program begin body) (way.place + length code) count w new
    → HasRegisters new → count ≤ more → Way program begin body far_at k (most + more) lines rest m new
way_by program begin body far_at k most more count lines xs rest code m w new way same goes has enough =
    let size : size_of (far_of body) way.far xs ≡ length code =
    ap (size_of (far_of body) way.far) same ∙ size_singles (far_of body) way.far code in
    way_on program begin body far_at k most more count lines xs rest m w new way
    (subst (λ n. Goes begin (linked program begin body) (way.place + n) count w new) (sym size) goes) has enough

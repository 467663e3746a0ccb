-- A machine at some of the lines of an operation, and how it goes through those that are an instruction each.
use Rattle.std.proofs.Common.{◌≡◌, ℕ, ◌+◌, ◌*◌, List, [], ◌∷◌, ◌++◌, length, arith, refl, ap, subst}
use Rattle.rv_isa.specs.declared.ins.Ins.{Ins}
use Rattle.rv_step.specs.Machine.{MachineState}
use Rattle.rv_code.specs.Code.{AllLegal, BlockAt, CodeAt}
use Rattle.rv_code.specs.Registers.{HasRegisters}
use Rattle.rv_code.proofs.Going.{block_parts, legal_parts}
use Rattle.lir_core.specs.Program.{WordProgram}
use Rattle.lir_core.specs.Slots.{Here}
use Rattle.lir_core.specs.declared.body.LirBody.{LirBody}
use Rattle.lir_core.specs.declared.op.LirOp.{LirOp}
use Rattle.rv_lines.specs.declared.line.Line.{Line}
use Rattle.rv_gen.specs.Lines.{lines_of, op_lines}
use Rattle.rv_gen.specs.Placing.{places_in}
use Rattle.rv_words.specs.Linked.{linked}
use Rattle.rv_words.specs.Placing.{Placing}
use Rattle.rv_words.proofs.ConstantCode.{singles}
use Rattle.rv_words.proofs.Going.{Goes}
use Rattle.rv_words.proofs.LinkedCode.{linked_append, linked_from, longest_of, size_of, size_of_linked}
use Rattle.rv_words.proofs.Places.{far_of}
use Rattle.rv_words.proofs.Sites.{Site}

abbrev pub code_there : WordProgram → ℕ → LirBody → ℕ → ℕ → List Line → List Ins
code_there program begin body far_at k lines =
    linked_from program begin (far_of body) (places_in (lines_of body)) far_at k lines

-- The code of the lines stands from the pc on.
pub record AtLines (program : WordProgram) (begin : ℕ) (body : LirBody) (far_at k : ℕ) (lines : List Line)
    (m : MachineState) : Type 0 where
  pub code_at : CodeAt begin (linked program begin body) m
  pub pc : m.pc ≡ begin + 4 * k
  pub block : BlockAt (linked program begin body) k (code_there program begin body far_at k lines)
  pub legal : AllLegal (code_there program begin body far_at k lines)
  pub registers : HasRegisters m

pub at_site : (placing : Placing) (here : Here) (operation : LirOp) (begin : ℕ) (m : MachineState)
    → (s : Site placing here operation begin m) → HasRegisters m
    → AtLines placing.program begin here.body s.far_at s.k (op_lines here.body operation) m
at_site placing here operation begin m s has =
    record { code_at = s.code_at; pc = s.pc; block = s.block; legal = s.legal; registers = has }

pub at_equal : (program : WordProgram) (begin : ℕ) (body : LirBody) (far_at k : ℕ) (lines lines' : List Line)
    (m : MachineState) → lines ≡ lines' → AtLines program begin body far_at k lines m
    → AtLines program begin body far_at k lines' m
at_equal program begin body far_at k lines lines' m e at =
    subst (λ ls. AtLines program begin body far_at k ls m) e at

-- ---- the first of them, and those behind

whole : (program : WordProgram) (begin : ℕ) (body : LirBody) (far_at k : ℕ) (xs rest : List Line)
    → code_there program begin body far_at k (xs ++ rest)
    ≡ code_there program begin body far_at k xs
    ++ code_there program begin body (far_at + longest_of xs) (k + size_of (far_of body) far_at xs) rest
whole program begin body far_at k xs rest =
    linked_append program begin (far_of body) (places_in (lines_of body)) far_at k xs rest

-- the code of lines is as long as their sizes say
pub length_there : (program : WordProgram) (begin : ℕ) (body : LirBody) (far_at k : ℕ) (xs : List Line)
    → length (code_there program begin body far_at k xs) ≡ size_of (far_of body) far_at xs
length_there program begin body far_at k xs =
    size_of_linked program begin (far_of body) (places_in (lines_of body)) far_at k xs

pub first_part : (program : WordProgram) (begin : ℕ) (body : LirBody) (far_at k : ℕ) (xs rest : List Line)
    (m : MachineState) → AtLines program begin body far_at k (xs ++ rest) m → AtLines program begin body far_at k xs m
first_part program begin body far_at k xs rest m at =
    let own : List Ins = code_there program begin body far_at k xs in
    let behind : List Ins =
    code_there program begin body (far_at + longest_of xs) (k + size_of (far_of body) far_at xs) rest in
    let e = whole program begin body far_at k xs rest in
    record {
      code_at = at.code_at;
      pc = at.pc;
      block = (block_parts (linked program begin body) k own behind
          (subst (BlockAt (linked program begin body) k) e at.block)).0;
      legal = (legal_parts own behind (subst AllLegal e at.legal)).0;
      registers = at.registers;
    }

-- a machine that has come to where they end is at the other lines
pub at_later : (program : WordProgram) (begin : ℕ) (body : LirBody) (far_at k : ℕ) (xs rest : List Line)
    (m new : MachineState) → AtLines program begin body far_at k (xs ++ rest) m
    → CodeAt begin (linked program begin body) new
    → new.pc ≡ begin + 4 * (k + size_of (far_of body) far_at xs) → HasRegisters new
    → AtLines program begin body (far_at + longest_of xs) (k + size_of (far_of body) far_at xs) rest new
at_later program begin body far_at k xs rest m new at code_at pc has =
    let own : List Ins = code_there program begin body far_at k xs in
    let place : ℕ = k + size_of (far_of body) far_at xs in
    let behind : List Ins = code_there program begin body (far_at + longest_of xs) place rest in
    let e = whole program begin body far_at k xs rest in
    let sum : k + length own ≡ place = ap (λ n. k + n) (length_there program begin body far_at k xs) in
    record {
      code_at = code_at;
      pc = pc;
      block = subst (λ n. BlockAt (linked program begin body) n behind) sum
          (block_parts (linked program begin body) k own behind
          (subst (BlockAt (linked program begin body) k) e at.block)).1;
      legal = (legal_parts own behind (subst AllLegal e at.legal)).1;
      registers = has;
    }

-- behind them the machine is at the other lines
pub at_behind : (program : WordProgram) (begin : ℕ) (body : LirBody) (far_at k count : ℕ) (xs rest : List Line)
    (m new : MachineState) → AtLines program begin body far_at k (xs ++ rest) m
    → Goes begin (linked program begin body) (k + size_of (far_of body) far_at xs) count m new → HasRegisters new
    → AtLines program begin body (far_at + longest_of xs) (k + size_of (far_of body) far_at xs) rest new
at_behind program begin body far_at k count xs rest m new at goes has =
    at_later program begin body far_at k xs rest m new at goes.code_at goes.pc has

-- ---- lines that are an instruction each

pub code_of_singles : (program : WordProgram) (begin : ℕ) (body : LirBody) (far_at k : ℕ) (code : List Ins)
    → code_there program begin body far_at k (singles code) ≡ code
code_of_singles program begin body far_at k [] = refl
code_of_singles program begin body far_at k (ins ∷ code) =
    ap (λ xs. ins ∷ xs) (code_of_singles program begin body (far_at + 1) (k + 1) code)

pub size_singles : (far : List ℕ) (far_at : ℕ) (code : List Ins) → size_of far far_at (singles code) ≡ length code
size_singles far far_at [] = refl
size_singles far far_at (ins ∷ code) =
    let rest : size_of far (far_at + 1) (singles code) ≡ length code = size_singles far (far_at + 1) code in
    omega (arith, rest)

pub first_code : (program : WordProgram) (begin : ℕ) (body : LirBody) (far_at k : ℕ) (code : List Ins)
    (m : MachineState) → AtLines program begin body far_at k (singles code) m
    → BlockAt (linked program begin body) k code × AllLegal code
first_code program begin body far_at k code m at =
    let e = code_of_singles program begin body far_at k code in
    (subst (BlockAt (linked program begin body) k) e at.block, subst AllLegal e at.legal)

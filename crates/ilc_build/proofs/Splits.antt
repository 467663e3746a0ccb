-- A body's instructions, parted at one of them.
use Rattle.std.proofs.Common.{◌≡◌, ◌∙◌, ℕ, suc, ◌+◌, ◌*◌, ◌<◌, ◌≤◌, Bool, true, false, not, ◌&&◌, cond, nat_eq, eq-eqb}
use Rattle.std.proofs.Common.{ne_eqb, List, [], ◌∷◌, ◌++◌, length, length-append, append_assoc, Option, Some, None}
use Rattle.std.proofs.Common.{refl, ap, sym, arith}
use Rattle.il_code.specs.declared.body.Instr.{Instr}
use Rattle.rv_isa.specs.declared.ins.Ins.{Ins}
use Rattle.il_code.specs.declared.operation.Operation.{Operation}
use Rattle.il_code.specs.declared.operation.Operation.TheVariants.{NoOperation, Constant, Duplicate, Discard, Binary}
use Rattle.il_code.specs.declared.operation.Operation.TheVariants.{Branch, BranchIfTrue, Return}
use Rattle.ilc_build.specs.Code.{code_from, operation_size, place_of, row_code, row_size}
use Rattle.ilc_build.specs.Depths.{first_against, is_reached, known_at, operation_at, row}
use Rattle.ilc_build.specs.declared.depths.Known.{Known}
use Rattle.ilc_build.specs.declared.depths.Known.TheVariants.{Nothing, Depth, Clash}
use Rattle.ilc_build.proofs.Emitted.{size_of_row}

-- instructions that stand before an offset
abbrev pub AreBefore : ℕ → List Instr → Type 0
AreBefore at [] = Unit {0}
AreBefore at (i ∷ instrs) = (i.at < at) × AreBefore at instrs

-- The code before the instruction, its own, and that behind.
pub record Parts (places : ℕ → ℕ) (place : ℕ) (done rest : List Instr) (i : Instr) (table : List Known) : Type 0 where
  pub before : List Ins
  pub behind : List Ins
  pub code : code_from places place (done ++ i ∷ rest) table ≡ before
      ++ (row_code places (place + length before) (row table (length done)) (operation_at i) ++ behind)
  pub here : AreBefore i.at done → place_of (done ++ i ∷ rest) table i.at ≡ length before

pub parts : (places : ℕ → ℕ) (place : ℕ) (done rest : List Instr) (i : Instr) (table : List Known)
    → length table ≡ length (done ++ i ∷ rest) → Parts places place done rest i table
parts places place [] rest i [] size = absurd (let e : 0 ≡ suc (length rest) = size in omega (arith, e))
parts places place [] rest i (k ∷ table) size =
    record {
      before = [];
      behind = code_from places (place + row_size k (operation_at i)) rest table;
      code = let same : place ≡ place + 0 = omega arith in
          ap (λ p. row_code places p k (operation_at i)
          ++ code_from places (place + row_size k (operation_at i)) rest table) same;
      here = λ earlier. ap (λ b. cond b 0 (row_size k (operation_at i) + place_of rest table i.at))
          (eq-eqb i.at i.at refl);
    }
parts places place (x ∷ done) rest i [] size =
    absurd (let e : 0 ≡ suc (length (done ++ i ∷ rest)) = size in omega (arith, e))
parts places place (x ∷ done) rest i (k ∷ table) size =
    let sizes : suc (length table) ≡ suc (length (done ++ i ∷ rest)) = size in
    let s : ℕ = row_size k (operation_at x) in
    let more : Parts places (place + s) done rest i table =
    parts places (place + s) done rest i table (omega (arith, sizes)) in
    let first : List Ins = row_code places place k (operation_at x) in
    let long : length first ≡ s = size_of_row places place k (operation_at x) in
    let all : length (first ++ more.before) ≡ s + length more.before = length-append first more.before
    ∙ ap (λ n. n + length more.before) long in
    let there : place + s + length more.before ≡ place + length (first ++ more.before) = omega (arith, all) in
    record {
      before = first ++ more.before;
      behind = more.behind;
      code =
          ap (λ c. first ++ c) more.code
          ∙ sym (append_assoc first more.before
          (row_code places (place + s + length more.before) (row table (length done)) (operation_at i)
          ++ more.behind))
          ∙ ap (λ p. (first ++ more.before) ++ (row_code places p (row table (length done)) (operation_at i)
          ++ more.behind)) there;
      here = λ earlier.
          ap (λ b. cond b 0 (s + place_of (done ++ i ∷ rest) table i.at)) (ne_eqb x.at i.at (omega (arith, earlier.0)))
          ∙ ap (λ n. s + n) (more.here earlier.1) ∙ sym all;
    }

-- a test that holds of each instruction that is reached holds of this one
pub holds-here : (test : Known → Instr → Bool) (done rest : List Instr) (i : Instr) (table : List Known)
    → length table ≡ length (done ++ i ∷ rest) → first_against test (done ++ i ∷ rest) table ≡ None
    → is_reached (row table (length done)) ≡ true → test (row table (length done)) i ≡ true
holds-here test [] rest i [] size none reached = absurd (let e : 0 ≡ suc (length rest) = size in omega (arith, e))
holds-here test [] rest i (k ∷ table) size none reached = by (is_reached k) (test k i) none reached
  where
    by : (b t : Bool) → cond (b && not t) (Some i.at) (first_against test rest table) ≡ None → b ≡ true → t ≡ true
    by true true e h = refl
    by true false e h = cc
    by false t e h = cc
holds-here test (x ∷ done) rest i [] size none reached =
    absurd (let e : 0 ≡ suc (length (done ++ i ∷ rest)) = size in omega (arith, e))
holds-here test (x ∷ done) rest i (k ∷ table) size none reached =
    let sizes : suc (length table) ≡ suc (length (done ++ i ∷ rest)) = size in
    holds-here test done rest i table (omega (arith, sizes)) (skipped (is_reached k && not (test k x)) none) reached
  where
    skipped : (b : Bool) → cond b (Some x.at) (first_against test (done ++ i ∷ rest) table) ≡ None
        → first_against test (done ++ i ∷ rest) table ≡ None
    skipped true e = cc
    skipped false e = e

-- what the table tells of it
pub known_here : (done rest : List Instr) (i : Instr) (table : List Known) → length table ≡ length (done ++ i ∷ rest)
    → AreBefore i.at done → known_at (done ++ i ∷ rest) table i.at ≡ row table (length done)
known_here [] rest i [] size earlier = absurd (let e : 0 ≡ suc (length rest) = size in omega (arith, e))
known_here [] rest i (k ∷ table) size earlier = ap (λ b. cond b k (known_at rest table i.at)) (eq-eqb i.at i.at refl)
known_here (x ∷ done) rest i [] size earlier =
    absurd (let e : 0 ≡ suc (length (done ++ i ∷ rest)) = size in omega (arith, e))
known_here (x ∷ done) rest i (k ∷ table) size earlier =
    let sizes : suc (length table) ≡ suc (length (done ++ i ∷ rest)) = size in
    ap (λ b. cond b k (known_at (done ++ i ∷ rest) table i.at)) (ne_eqb x.at i.at (omega (arith, earlier.0)))
    ∙ known_here done rest i table (omega (arith, sizes)) earlier.1

-- ---- how long the code is

few_of_operation : (operation : Operation) → operation_size operation ≤ 5
few_of_operation NoOperation = omega arith
few_of_operation (Constant n) = omega arith
few_of_operation Duplicate = omega arith
few_of_operation Discard = omega arith
few_of_operation (Binary operation) = omega arith
few_of_operation (Branch target) = omega arith
few_of_operation (BranchIfTrue target) = omega arith
few_of_operation Return = omega arith

few_of_row : (k : Known) (o : Option Operation) → row_size k o ≤ 5
few_of_row Nothing o = omega arith
few_of_row (Depth d) None = omega arith
few_of_row (Depth d) (Some operation) = few_of_operation operation
few_of_row Clash o = omega arith

-- five instructions for each of CIL at most
pub few_of_code : (places : ℕ → ℕ) (place : ℕ) (instrs : List Instr) (table : List Known)
    → length (code_from places place instrs table) ≤ 5 * length instrs
few_of_code places place [] table = omega arith
few_of_code places place (i ∷ instrs) [] = omega arith
few_of_code places place (i ∷ instrs) (k ∷ table) =
    let s : ℕ = row_size k (operation_at i) in
    let first : List Ins = row_code places place k (operation_at i) in
    let rest : List Ins = code_from places (place + s) instrs table in
    let all : length (first ++ rest) ≡ length first + length rest = length-append first rest in
    let long : length first ≡ s = size_of_row places place k (operation_at i) in
    omega (arith, all, long, few_of_row k (operation_at i), few_of_code places (place + s) instrs table)

-- each place lies in the code or behind it
pub place_within : (places : ℕ → ℕ) (place : ℕ) (instrs : List Instr) (table : List Known) (offset : ℕ)
    → place_of instrs table offset ≤ length (code_from places place instrs table)
place_within places place [] table offset = omega arith
place_within places place (i ∷ instrs) [] offset = omega arith
place_within places place (i ∷ instrs) (k ∷ table) offset =
    let s : ℕ = row_size k (operation_at i) in
    let first : List Ins = row_code places place k (operation_at i) in
    let rest : List Ins = code_from places (place + s) instrs table in
    let all : length (first ++ rest) ≡ length first + length rest = length-append first rest in
    let long : length first ≡ s = size_of_row places place k (operation_at i) in
    let more : place_of instrs table offset ≤ length rest = place_within places (place + s) instrs table offset in
    by (nat_eq i.at offset) s (place_of instrs table offset) (length (first ++ rest)) (omega (arith, all, long, more))
  where
    by : (b : Bool) (s p n : ℕ) → s + p ≤ n → cond b 0 (s + p) ≤ n
    by true s p n h = omega arith
    by false s p n h = h

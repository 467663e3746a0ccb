-- Which instructions control comes to: ECMA-335 III.1.7.2 and I.12.4.2.
use Rattle.std.specs.Prelude.{◌≡◌, ◌⊎◌, ℕ, ◌<◌, ◌≤◌, Bool, true, false, ◌&&◌, nat_le, nat_lt, if◌then◌else◌}
use Rattle.std.specs.Prelude.{List, [], ◌∷◌, ◌++◌, map, filter, Contains}
use Rattle.il_code.specs.Listing.{targets_in}
use Rattle.il_code.specs.declared.body.Clause.{Clause}
use Rattle.il_code.specs.declared.body.Instr.{Instr}
use Rattle.il_code.specs.declared.fault.BodyFault.{BodyFault}
use Rattle.il_code.specs.declared.fault.BodyFault.TheVariants.{BadHeader, BadOpcode, BadTarget, BadClause, Memory}
use Rattle.il_code.specs.declared.opcode.Op.{Op}
use Rattle.il_code.specs.declared.opcode.Op.TheVariants.{BrS, Br, LeaveS, Leave, Ret, Throw, Rethrow, Endfinally}

-- the opcode goes on to the instruction behind: all but these do (III.3, III.4)
abbrev pub falls_through : Op → Bool
falls_through BrS = false
falls_through Br = false
falls_through LeaveS = false
falls_through Leave = false
falls_through Ret = false
falls_through Throw = false
falls_through Rethrow = false
falls_through Endfinally = false
falls_through _ = true

-- the offset of the instruction behind, where control goes on to it
abbrev pub next_of : Instr → List ℕ
next_of i = if falls_through i.op then i.next ∷ [] else []

-- the try range of the clause holds the offset
abbrev pub tries : ℕ → Clause → Bool
tries offset clause = nat_le clause.try_at offset && nat_lt offset clause.try_end

-- the handlers of the clauses whose try range holds the offset
abbrev pub handlers_of : List Clause → ℕ → List ℕ
handlers_of clauses offset = map (λ clause. clause.handler_at) (filter (tries offset) clauses)

-- the offsets to which control goes from an instruction
abbrev pub leads_of : List Clause → Instr → List ℕ
leads_of clauses i = (next_of i ++ targets_in i.operand) ++ handlers_of clauses i.at

-- from the instruction at an offset control goes to another offset
abbrev pub Leads : List Instr → List Clause → ℕ → ℕ → Type 0
Leads instrs clauses offset to = (i : Instr) × Contains instrs i × (i.at ≡ offset) × Contains (leads_of clauses i) to

-- the offset behind the last instruction
abbrev pub end_of : List Instr → ℕ
end_of [] = 0
end_of (i ∷ []) = i.next
end_of (i ∷ j ∷ rest) = end_of (j ∷ rest)

-- A set of offsets that holds the begin of the code, and of each member the offsets inside the code to which control
-- goes from it.
pub record IsClosed (instrs : List Instr) (clauses : List Clause) (offsets : List ℕ) : Type 0 where
  pub begin : 0 < end_of instrs → Contains offsets 0
  pub leads : (offset to : ℕ) → Contains offsets offset → Leads instrs clauses offset to → to < end_of instrs
      → Contains offsets to

-- the least such set
pub record AreReached (instrs : List Instr) (clauses : List Clause) (offsets : List ℕ) : Type 0 where
  pub closed : IsClosed instrs clauses offsets
  pub least : (other : List ℕ) → IsClosed instrs clauses other → (offset : ℕ) → Contains offsets offset
      → Contains other offset

-- ---- what falls past the end

-- control goes on from the instruction past the end of the code
abbrev pub FallsPastEnd : List Instr → Instr → Type 0
FallsPastEnd instrs i = (falls_through i.op ≡ true) × (end_of instrs ≤ i.next)

-- an instruction at the offset is reached, and control goes on from it past the end
abbrev pub IsPastEnd : List Instr → List Clause → ℕ → Type 0
IsPastEnd instrs clauses offset =
    (offsets : List ℕ) × AreReached instrs clauses offsets × Contains offsets offset
    × (i : Instr) × Contains instrs i × (i.at ≡ offset) × FallsPastEnd instrs i

-- control runs past the end of the code at the offset, which is 0 where there is no code
abbrev pub RunsPastEnd : List Instr → List Clause → ℕ → Type 0
RunsPastEnd instrs clauses offset = ((instrs ≡ []) × (offset ≡ 0)) ⊎ IsPastEnd instrs clauses offset

-- why there are no offsets that control reaches
abbrev pub NotReached : List Instr → List Clause → BodyFault → Type 0
NotReached instrs clauses (BadHeader offset) = ⊥
NotReached instrs clauses (BadOpcode offset) = ⊥
NotReached instrs clauses (BadTarget offset) = RunsPastEnd instrs clauses offset
NotReached instrs clauses (BadClause index) = ⊥
NotReached instrs clauses Memory = Unit {0}

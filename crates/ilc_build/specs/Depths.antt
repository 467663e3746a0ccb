-- What is known of the stack before each instruction, where control may come to it by several ways: ECMA-335 III.1.8.
use Rattle.std.specs.Prelude.{◌≡◌, ℕ, ◌<◌, Bool, true, false, not, ◌&&◌, nat_le, ◌==◌, is_some, if◌then◌else◌, List, []}
use Rattle.std.specs.Prelude.{◌∷◌, ◌++◌, length, Option, Some, None, All, slice_index_or, slice_get}
use Rattle.std.specs.List.{list_all}
use Rattle.il_code.specs.Listing.{targets_in, is_boundary}
use Rattle.il_code.specs.Operations.{operation_of}
use Rattle.il_code.specs.declared.body.Instr.{Instr}
use Rattle.il_code.specs.declared.opcode.Op.{Op}
use Rattle.il_code.specs.declared.opcode.Op.TheVariants.{BrS, Br, LeaveS, Leave, Ret, Throw, Rethrow, Endfinally}
use Rattle.il_code.specs.declared.operation.Operation.{Operation}
use Rattle.il_code.specs.declared.operation.Operation.TheVariants.{Branch, BranchIfTrue, Return}
use Rattle.ilc_build.specs.Typing.{takes, depth_behind, can_stand}
use Rattle.ilc_build.specs.declared.depths.Known.{Known}
use Rattle.ilc_build.specs.declared.depths.Known.TheVariants.{Nothing, Depth, Clash}

-- what an instruction does
abbrev pub operation_at : Instr → Option Operation
operation_at i = operation_of i.op i.operand

-- what is known where two ways come together (III.1.8.1.3)
abbrev pub join : Known → Known → Known
join Nothing k = k
join (Depth d) Nothing = Depth d
join (Depth d) (Depth other) = if d == other then Depth d else Clash
join (Depth d) Clash = Clash
join Clash k = Clash

-- k tells no more than k'
abbrev pub IsBelow : Known → Known → Type 0
IsBelow k k' = join k k' ≡ k'

-- What is known behind an operation. Behind a stack that is too short, or whose depth isn't known, or an instruction
-- without operation, it is `Clash`.
abbrev pub passed_on : Known → Option Operation → Known
passed_on Nothing o = Nothing
passed_on (Depth d) None = Clash
passed_on (Depth d) (Some operation) = if nat_le (takes operation) d then Depth (depth_behind d operation) else Clash
passed_on Clash o = Clash

-- the opcode goes on to the instruction behind: all but these do (III.3, III.4)
abbrev pub falls_through : Op → Bool
falls_through BrS = false
falls_through Br = false
falls_through LeaveS = false
falls_through Leave = false
falls_through Ret = false
falls_through Throw = false
falls_through Rethrow = false
falls_through Endfinally = false
falls_through _ = true

-- the offsets to which control goes from an operation; `next` is that of the instruction behind it
abbrev pub operation_leads : Operation → ℕ → List ℕ
operation_leads (Branch target) next = target ∷ []
operation_leads (BranchIfTrue target) next = next ∷ target ∷ []
operation_leads Return next = []
operation_leads o next = next ∷ []

-- and from an instruction; one without operation goes on as its opcode says, and to its targets
abbrev pub next_of : Instr → List ℕ
next_of i = if falls_through i.op then i.next ∷ [] else []

abbrev pub leads_by : Option Operation → Instr → List ℕ
leads_by None i = next_of i ++ targets_in i.operand
leads_by (Some operation) i = operation_leads operation i.next

abbrev pub leads_to : Instr → List ℕ
leads_to i = leads_by (operation_at i) i

-- what a table with a row for each instruction tells of the one at an offset; where none stands nothing is asked
abbrev pub known_at : List Instr → List Known → ℕ → Known
known_at [] table offset = Clash
known_at (i ∷ instrs) [] offset = Clash
known_at (i ∷ instrs) (k ∷ table) offset = if i.at == offset then k else known_at instrs table offset

-- what a table tells of the instruction of a number
abbrev pub row : List Known → ℕ → Known
row table n = slice_index_or table n Nothing

-- To each offset that an instruction leads to, the table tells what is passed on from it.
abbrev pub IsClosedAt : List Instr → List Known → ℕ → Type 0
IsClosedAt instrs table n =
    (i : Instr) → slice_get instrs n ≡ Some i
    → All (λ offset. IsBelow (passed_on (row table n) (operation_at i)) (known_at instrs table offset)) (leads_to i)

-- A table that holds the empty stack at the first offset, and of each instruction what those that lead to it pass on.
pub record IsSolution (instrs : List Instr) (table : List Known) : Type 0 where
  pub size : length table ≡ length instrs
  pub first : IsBelow (Depth 0) (known_at instrs table 0)
  pub closed : (n : ℕ) → n < length instrs → IsClosedAt instrs table n

-- a table tells in no row more than another
abbrev pub AllBelow : List Known → List Known → Type 0
AllBelow table other = (n : ℕ) → IsBelow (row table n) (row other n)

-- the solution that tells no more than any other
pub record IsLeast (instrs : List Instr) (table : List Known) : Type 0 where
  pub solution : IsSolution instrs table
  pub least : (other : List Known) → IsSolution instrs other → AllBelow table other

-- ---- what fails

-- control comes to an instruction before which this is known
abbrev pub is_reached : Known → Bool
is_reached Nothing = false
is_reached _ = true

-- The offset of the first instruction that is reached and fails a test of it and of what is known before it.
abbrev pub first_against : (Known → Instr → Bool) → List Instr → List Known → Option ℕ
first_against test [] table = None
first_against test (i ∷ instrs) [] = None
first_against test (i ∷ instrs) (k ∷ table) =
    if is_reached k && not (test k i) then Some i.at else first_against test instrs table

-- the instruction leads to instructions alone
abbrev pub stays_inside : List Instr → Known → Instr → Bool
stays_inside instrs k i = list_all (is_boundary instrs) (leads_to i)

-- it has an operation
abbrev pub has_operation : Known → Instr → Bool
has_operation k i = is_some (operation_at i)

-- its stack has a known depth, with which it can be done
abbrev pub can_be_done : ℕ → Known → Option Operation → Bool
can_be_done max (Depth d) (Some operation) = can_stand max d operation
can_be_done max k o = false

abbrev pub is_verified_at : ℕ → Known → Instr → Bool
is_verified_at max k i = can_be_done max k (operation_at i)

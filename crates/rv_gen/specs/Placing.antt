-- Where the lines of a body lie, and what becomes of them. Places are counted in instructions from the body's begin.
--
-- A branch and a jump have a short form and a longer one, which reaches all of a body. Each takes the short one where
-- its label lies close even if all lines take their longest forms; so a form depends on no other.
use Rattle.std.specs.Prelude.{ℕ, ◌+◌, ◌*◌, ◌&&◌, Bool, nat_lt, if◌then◌else◌, ℤ, pos, ◌-ℤ◌, List, [], ◌∷◌, ◌++◌}
use Rattle.std.specs.Prelude.{map, slice_get, unwrap_or}
use Rattle.num_core.specs.Bits.{low_bits}
use Rattle.num_core.specs.declared.fix.Fix.{Fix}
use Rattle.rv_isa.specs.Instructions.{word_of}
use Rattle.rv_isa.specs.declared.ins.Ins.{Ins}
use Rattle.rv_isa.specs.declared.ins.Ins.TheVariants.{Auipc, Beq, Bge, Bgeu, Blt, Bltu, Bne, Jal, Jalr}
use Rattle.lir_core.specs.declared.body.LirBody.{LirBody}
use Rattle.rt_code.specs.Code.{lower, upper}
use Rattle.rv_gen.specs.Lines.{lines_of}
use Rattle.rv_lines.specs.declared.line.Condition.{Condition}
use Rattle.rv_lines.specs.declared.line.Condition.TheVariants.{Equal, NotEqual, Less, NotLess, LessUnsigned}
use Rattle.rv_lines.specs.declared.line.Condition.TheVariants.{NotLessUnsigned}
use Rattle.rv_lines.specs.declared.line.Line.{Line}
use Rattle.rv_lines.specs.declared.line.Line.TheVariants.{Label, Single, Addressed, Branch, Jump}

-- how many instructions a line is in its longest form
abbrev pub longest : Line → ℕ
longest Label = 0
longest (Single ins) = 1
longest (Addressed upper lower kind item) = 2
longest (Branch condition left right label) = 3
longest (Jump label) = 2

-- the place of a line, if it is a label
abbrev pub label_at : Line → ℕ → List ℕ
label_at Label at = at ∷ []
label_at (Single ins) at = []
label_at (Addressed upper lower kind item) at = []
label_at (Branch condition left right label) at = []
label_at (Jump label) at = []

-- the places of the labels, in order, where each line takes its longest form and the first one stands at a place
abbrev pub far_places : ℕ → List Line → List ℕ
far_places at [] = []
far_places at (line ∷ lines) = label_at line at ++ far_places (at + longest line) lines

abbrev pub place_in : List ℕ → ℕ → ℕ
place_in places label = unwrap_or (slice_get places label) 0

-- two places lie fewer instructions apart than so many
abbrev pub are_close : ℕ → ℕ → ℕ → Bool
are_close limit from to = nat_lt from (to + limit) && nat_lt to (from + limit)

-- what the short form of a branch and of a jump can reach
abbrev pub branch_limit : ℕ
branch_limit = 1000

abbrev pub jump_limit : ℕ
jump_limit = 250000

-- how many instructions a line is, by the places in the longest form of the labels and its own
abbrev pub size : List ℕ → ℕ → Line → ℕ
size far at Label = 0
size far at (Single ins) = 1
size far at (Addressed upper lower kind item) = 2
size far at (Branch condition left right label) = if are_close branch_limit at (place_in far label) then 1 else 3
size far at (Jump label) = if are_close jump_limit at (place_in far label) then 1 else 2

-- the places of the labels, in order, from a line on that stands at two places, one in the longest form
abbrev pub places_from : List ℕ → ℕ → ℕ → List Line → List ℕ
places_from far far_at at [] = []
places_from far far_at at (line ∷ lines) =
    label_at line at ++ places_from far (far_at + longest line) (at + size far far_at line) lines

-- how many bytes lie from one place to another
abbrev pub distance : ℕ → ℕ → ℤ
distance from to = pos (4 * to) -ℤ pos (4 * from)

abbrev pub branch : Condition → ℕ → ℕ → ℤ → Ins
branch Equal x y distance = Beq x y distance
branch NotEqual x y distance = Bne x y distance
branch Less x y distance = Blt x y distance
branch NotLess x y distance = Bge x y distance
branch LessUnsigned x y distance = Bltu x y distance
branch NotLessUnsigned x y distance = Bgeu x y distance

-- the condition that holds where another doesn't
abbrev pub opposite : Condition → Condition
opposite Equal = NotEqual
opposite NotEqual = Equal
opposite Less = NotLess
opposite NotLess = Less
opposite LessUnsigned = NotLessUnsigned
opposite NotLessUnsigned = LessUnsigned

-- a jump as far as may be, by way of x5
abbrev pub jumps_far : ℕ → ℕ → List Ins
jumps_far from to =
    let bits = low_bits 32 (distance from to) in Auipc 5 (upper bits) ∷ Jalr 0 5 (lower bits) ∷ []

-- what a branch and a jump become at a place; the longer branch is the opposite one over a jump
abbrev pub branch_code : Bool → Condition → ℕ → ℕ → ℕ → ℕ → List Ins
branch_code close condition x y from to =
    if close then branch condition x y (distance from to) ∷ []
    else branch (opposite condition) x y (pos 12) ∷ jumps_far (from + 1) to

abbrev pub jump_code : Bool → ℕ → ℕ → List Ins
jump_code close from to = if close then Jal 0 (distance from to) ∷ [] else jumps_far from to

-- what a line becomes
abbrev pub line_code : List ℕ → List ℕ → ℕ → ℕ → Line → List Ins
line_code far places far_at at Label = []
line_code far places far_at at (Single ins) = ins ∷ []
line_code far places far_at at (Addressed upper lower kind item) = upper ∷ lower ∷ []
line_code far places far_at at (Branch condition left right label) =
    branch_code (are_close branch_limit far_at (place_in far label)) condition left right at (place_in places label)
line_code far places far_at at (Jump label) =
    jump_code (are_close jump_limit far_at (place_in far label)) at (place_in places label)

abbrev pub code_from : List ℕ → List ℕ → ℕ → ℕ → List Line → List Ins
code_from far places far_at at [] = []
code_from far places far_at at (line ∷ lines) =
    line_code far places far_at at line
    ++ code_from far places (far_at + longest line) (at + size far far_at line) lines

-- what takes an address
abbrev pub fix_at : ℕ → Line → List Fix
fix_at at Label = []
fix_at at (Single ins) = []
fix_at at (Addressed upper lower kind item) = record { at = at; kind = kind; item = item } ∷ []
fix_at at (Branch condition left right label) = []
fix_at at (Jump label) = []

abbrev pub fixes_from : List ℕ → ℕ → ℕ → List Line → List Fix
fixes_from far far_at at [] = []
fixes_from far far_at at (line ∷ lines) =
    fix_at at line ++ fixes_from far (far_at + longest line) (at + size far far_at line) lines

-- ---- of all lines

abbrev pub places_in : List Line → List ℕ
places_in lines = places_from (far_places 0 lines) 0 0 lines

abbrev pub code_in : List Line → List Ins
code_in lines = code_from (far_places 0 lines) (places_in lines) 0 0 lines

abbrev pub fixes_in : List Line → List Fix
fixes_in lines = fixes_from (far_places 0 lines) 0 0 lines

-- the places of marks, each with its offset
unfoldable pub rows_by : List ℕ → List (ℕ × ℕ) → List (ℕ × ℕ)
rows_by places marks = map (λ mark. (place_in places mark.0, mark.1)) marks

-- ---- of a whole body

-- the instructions of a body, those of its operations at their places
abbrev pub code_of : LirBody → List Ins
code_of body = code_in (lines_of body)

abbrev pub words_of : LirBody → List ℕ
words_of body = map word_of (code_of body)

-- where it takes addresses
abbrev pub fixes_of : LirBody → List Fix
fixes_of body = fixes_in (lines_of body)

-- the places at which the code of CIL instructions begins, each with its offset
abbrev pub map_of : LirBody → List (ℕ × ℕ)
map_of body = rows_by (places_in (lines_of body)) body.marks

-- The status of each outcome, and the line that it prints.
use Rattle.std.specs.Prelude.{ℕ, false, List, [], ◌∷◌, ◌++◌, map, codes, decimal}
use Rattle.std.specs.Fmt.{digits}
use Rattle.std.specs.List.{flat_map}
use Rattle.rv_step.specs.declared.trap.Cause.{Cause as TrapCause}
use Rattle.rv_step.specs.declared.trap.Cause.TheVariants.{Fetch, Load, Store, Illegal, Call}
use Rattle.ilc.specs.Refusals.{refusal_row, listed_fields}
use Rattle.ilc.specs.declared.outcome.Outcome.{Outcome}
use Rattle.ilc.specs.declared.outcome.Outcome.TheVariants.{Usage, NoFile, TooLong, Refused, ReadFault, WriteFault}
use Rattle.ilc.specs.declared.outcome.Outcome.TheVariants.{Ended, Written, Memory}
use Rattle.ilc.specs.declared.refusal.Fault.{Fault}
use Rattle.ilc.specs.declared.refusal.Field.{Field}
use Rattle.ilc.specs.declared.refusal.Field.TheVariants.{Text, Number, Address, Cause}

-- what the process ends with
abbrev pub status_of : Outcome → ℕ
status_of Written = 0
status_of (Ended status) = status
status_of (Usage index) = 64
status_of (NoFile name) = 66
status_of (TooLong size) = 71
status_of (Refused refusal) = (refusal_row refusal.fault).status
status_of WriteFault = 73
status_of ReadFault = 74
status_of Memory = 75

abbrev pub cause_name : TrapCause → List ℕ
cause_name Fetch = codes "fetch"
cause_name Load = codes "load"
cause_name Store = codes "store"
cause_name Illegal = codes "illegal"
cause_name Call = codes "call"

-- a number in hexadecimal
abbrev pub hexadecimal : ℕ → List ℕ
hexadecimal n = digits 16 false n

-- a field of a refusal, as it is printed
abbrev pub field_text : Field → List ℕ
field_text (Text text) = text
field_text (Number number) = decimal number
field_text (Address number) = hexadecimal number
field_text (Cause cause) = cause_name cause

-- words, each behind a space
abbrev pub words : List (List ℕ) → List ℕ
words written = flat_map (λ word. codes " " ++ word) written

-- a line of the program: its name, words and the end of the line
abbrev pub line : List (List ℕ) → List ℕ
line written = codes "ilc:" ++ (words written ++ codes "\n")

-- the line of a refusal for a fault, with these fields
abbrev pub refusal_line : Fault → List (List ℕ) → List ℕ
refusal_line fault fields = line (decimal (refusal_row fault).number ∷ (refusal_row fault).name ∷ fields)

-- The line of an outcome. A program that has ended, and a file that was written, have none.
abbrev pub line_of : Outcome → List ℕ
line_of Written = []
line_of (Ended status) = []
line_of (Usage index) = line (codes "usage" ∷ decimal index ∷ [])
line_of (NoFile name) = line (codes "nofile" ∷ name ∷ [])
line_of (TooLong size) = line (codes "limit" ∷ codes "file" ∷ decimal size ∷ [])
line_of ReadFault = line (codes "read" ∷ codes "fault" ∷ [])
line_of WriteFault = line (codes "write" ∷ codes "fault" ∷ [])
line_of Memory = line (codes "memory" ∷ [])
line_of (Refused refusal) = refusal_line refusal.fault (map field_text (listed_fields refusal.fields))

-- what `--count` prints of a number of machine steps
abbrev pub count_line : ℕ → List ℕ
count_line steps = codes "steps " ++ (decimal steps ++ codes "\n")

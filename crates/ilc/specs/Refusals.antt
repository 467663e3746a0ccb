-- The refusals of input, as a table.
use Rattle.std.specs.Prelude.{ℕ, Bool, true, false, ◌&&◌, IsTrue, List, [], ◌∷◌, codes}
use Rattle.ilc.specs.declared.refusal.Fault.{Fault}
use Rattle.ilc.specs.declared.refusal.Fault.TheVariants.{NotPe, NoCliHeader, Cut, BadTable, RefusedTable}
use Rattle.ilc.specs.declared.refusal.Fault.TheVariants.{BadHeader, BadOpcode, BadTarget, Unverified, Spent}
use Rattle.ilc.specs.declared.refusal.Fault.TheVariants.{OpcodeOutside, Trap, BadElf, BadText}
use Rattle.ilc.specs.declared.refusal.Field.{Field}
use Rattle.ilc.specs.declared.refusal.Field.TheVariants.{Text, Number, Address, Cause}
use Rattle.ilc.specs.declared.refusal.Fields.{Fields}
use Rattle.ilc.specs.declared.refusal.Fields.TheVariants.{None, One, Two, Three}
use Rattle.ilc.specs.declared.refusal.Refusal.{Refusal}

-- What a field tells: a file's name, the text of a method or of a node, a number, an address, or the cause of a trap.
pub data Form : Type 0 where
  OfFile : Form
  OfItem : Form
  OfNumber : Form
  OfAddress : Form
  OfCause : Form

-- the number and the name of a fault, the status that it ends with, and what the fields of its refusals tell
pub record FaultRow : Type 0 where
  pub number : ℕ
  pub name : List ℕ
  pub status : ℕ
  pub forms : List Form

abbrev pub row : ℕ → List ℕ → ℕ → List Form → FaultRow
row number name status forms = record { number = number; name = name; status = status; forms = forms }

abbrev pub refusal_row : Fault → FaultRow
refusal_row NotPe = row 1 (codes "NotPe") 65 (OfFile ∷ [])
refusal_row NoCliHeader = row 2 (codes "NoCliHeader") 65 (OfFile ∷ [])
refusal_row Cut = row 3 (codes "Cut") 65 (OfFile ∷ OfNumber ∷ [])
refusal_row BadTable = row 4 (codes "BadTable") 65 (OfFile ∷ OfNumber ∷ OfNumber ∷ [])
refusal_row RefusedTable = row 5 (codes "RefusedTable") 65 (OfFile ∷ OfNumber ∷ [])
refusal_row BadHeader = row 9 (codes "BadHeader") 65 (OfFile ∷ OfNumber ∷ [])
refusal_row BadOpcode = row 10 (codes "BadOpcode") 65 (OfItem ∷ OfNumber ∷ [])
refusal_row BadTarget = row 11 (codes "BadTarget") 65 (OfItem ∷ OfNumber ∷ [])
refusal_row Unverified = row 20 (codes "Unverified") 70 (OfItem ∷ OfNumber ∷ [])
refusal_row Spent = row 21 (codes "Spent") 124 (OfNumber ∷ [])
refusal_row OpcodeOutside = row 24 (codes "OpcodeOutside") 69 (OfItem ∷ OfNumber ∷ [])
refusal_row Trap = row 29 (codes "Trap") 132 (OfAddress ∷ OfCause ∷ [])
refusal_row BadElf = row 30 (codes "BadElf") 65 (OfFile ∷ OfNumber ∷ [])
refusal_row BadText = row 31 (codes "BadText") 65 (OfFile ∷ OfNumber ∷ OfNumber ∷ [])

-- the fields in a list
abbrev pub listed_fields : Fields → List Field
listed_fields None = []
listed_fields (One first) = first ∷ []
listed_fields (Two first second) = first ∷ second ∷ []
listed_fields (Three first second third) = first ∷ second ∷ third ∷ []

-- a field can tell this
abbrev pub has_form : Form → Field → Bool
has_form OfFile (Text text) = true
has_form OfItem (Text text) = true
has_form OfNumber (Number number) = true
has_form OfAddress (Address number) = true
has_form OfCause (Cause cause) = true
has_form _ _ = false

abbrev pub have_forms : List Form → List Field → Bool
have_forms [] [] = true
have_forms (form ∷ forms) (field ∷ fields) = has_form form field && have_forms forms fields
have_forms _ _ = false

-- the fields of a refusal are those that the row of its fault names
abbrev pub IsFormed : Refusal → Type 0
IsFormed refusal = IsTrue (have_forms (refusal_row refusal.fault).forms (listed_fields refusal.fields))

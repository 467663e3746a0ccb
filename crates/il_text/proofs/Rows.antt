-- The rows of the table of names, as the code has them and as they are read.
use Rattle.std.proofs.Common.{◌≡◌, ℕ, Bool, true, false, List, [], ◌∷◌, map, Option, Some, refl, cond, nat_eq}
use Rattle.std.proofs.Common.{◌∙◌, ◌++◌, ap, append_assoc}
use Rattle.std.specs.List.{find}
use Rattle.std.specs.Option.{option_map, option_or}
use Rattle.il_code.specs.declared.opcode.OperandForm.{OperandForm}
use Rattle.il_text.specs.declared.mnemonic.Mnemonic.{Mnemonic}
use Rattle.il_text.specs.Mnemonics.{row_of, row_numbered_in, mnemonics}
use Rattle.il_text.specs.Mnemonics.{loads, branches, arithmetic, objects, elements, prefixed}

by_test : (t : Bool) (row : Mnemonic) (found : Option Mnemonic) (rest : Option (ℕ × List ℕ × OperandForm))
    → option_map row_of found ≡ rest
    → option_map row_of (cond t (Some row) found) ≡ cond t (Some (row_of row)) rest
by_test true row found rest h = refl
by_test false row found rest h = h

-- the first row of a number
pub found_row : (rows : List Mnemonic) (number : ℕ)
    → option_map row_of (find (λ row. nat_eq row.0 number) rows) ≡ row_numbered_in (map row_of rows) number
found_row [] number = refl
found_row (row ∷ rows) number =
    by_test (nat_eq row.0 number) row (find (λ row. nat_eq row.0 number) rows)
    (row_numbered_in (map row_of rows) number) (found_row rows number)

none_first : (t : Bool) (row : ℕ × List ℕ × OperandForm) (found rest : Option (ℕ × List ℕ × OperandForm))
    → option_or (cond t (Some row) found) rest ≡ cond t (Some row) (option_or found rest)
none_first true row found rest = refl
none_first false row found rest = refl

-- the row of a number in one list, or else in another
found_in_either : (xs ys : List (ℕ × List ℕ × OperandForm)) (number : ℕ)
    → option_or (row_numbered_in xs number) (row_numbered_in ys number) ≡ row_numbered_in (xs ++ ys) number
found_in_either [] ys number = refl
found_in_either (row ∷ xs) ys number =
    none_first (nat_eq row.0 number) row (row_numbered_in xs number) (row_numbered_in ys number)
    ∙ ap (cond (nat_eq row.0 number) (Some row)) (found_in_either xs ys number)

-- the row in the first table
pub found_first : (rows named : List (ℕ × List ℕ × OperandForm)) (number : ℕ)
    (found : Option (ℕ × List ℕ × OperandForm)) → found ≡ row_numbered_in rows number → rows ≡ named
    → found ≡ row_numbered_in named number
found_first rows named number found e same = e ∙ ap (λ rows. row_numbered_in rows number) same

-- the row in the tables so far, or in the next
pub found_in_both : (xs rows named : List (ℕ × List ℕ × OperandForm)) (number : ℕ)
    (found all : Option (ℕ × List ℕ × OperandForm)) → found ≡ row_numbered_in xs number
    → all ≡ option_or found (row_numbered_in rows number) → rows ≡ named → all ≡ row_numbered_in (xs ++ named) number
found_in_both xs rows named number found all first e same =
    e ∙ ap (λ found. option_or found (row_numbered_in rows number)) first
    ∙ ap (λ rows. option_or (row_numbered_in xs number) (row_numbered_in rows number)) same
    ∙ found_in_either xs named number

-- the tables one behind another
pub all_rows : ((((loads ++ branches) ++ arithmetic) ++ objects) ++ elements) ++ prefixed ≡ mnemonics
unfolding mnemonics
all_rows = simp append_assoc

-- The table of names: each name stands for one opcode, is a word, and has the form of operand that its opcode has.
use Rattle.std.proofs.Common.{◌≡◌, ◌∙◌, ℕ, zero, suc, Bool, true, false, cond, not, nat_eq, ◌&&◌, List, [], ◌∷◌}
use Rattle.std.proofs.Common.{find, Option, Some, None, refl, ap, sym, bytes_eq, eqb-true, arith}
use Rattle.std.proofs.lemmas.Bool.{and_parts, not-true}
use Rattle.std.specs.List.{list_all}
use Rattle.il_code.specs.Instructions.{opcode_row}
use Rattle.il_code.specs.Opcodes.{opcodes}
use Rattle.il_code.specs.declared.opcode.Op.{Op}
use Rattle.il_code.specs.declared.opcode.OperandForm.{OperandForm}
use Rattle.il_code.specs.declared.opcode.OperandForm.TheVariants.{Absent, Unsigned8, Unsigned16, Signed8, Signed32}
use Rattle.il_code.specs.declared.opcode.OperandForm.TheVariants.{Signed64, Token, Target8, Target32, Targets}
use Rattle.il_text.specs.Mnemonics.{mnemonics, row_numbered, row_numbered_in}
use Rattle.il_text.specs.Mnemonics.{loads, branches, arithmetic, objects, elements, prefixed}
use Rattle.il_text.specs.Reading.{row_named}
use Rattle.il_text.proofs.ReadBackLines.{IsWord, is_inner, inner_word}
use Rattle.il_text.proofs.ReadBackValues.{bytes_same}

abbrev pub NamedRow : Type 0
NamedRow = ℕ × List ℕ × OperandForm

-- ---- what is found

-- what was found passes the test that was looked for, and any that all pass
found_passes : {X : Type 0} (test all : X → Bool) (xs : List X) (x : X) → find test xs ≡ Some x
    → list_all all xs ≡ true → (test x ≡ true) × (all x ≡ true)
found_passes test all [] x e h = cc
found_passes test all (y ∷ xs) x e h =
    let parts = and_parts (all y) (list_all all xs) h in
    by (test y) refl (λ behind. found_passes test all xs x behind parts.1) e
  where
    by : (b : Bool) → test y ≡ b → (find test xs ≡ Some x → (test x ≡ true) × (all x ≡ true))
        → cond b (Some y) (find test xs) ≡ Some x → (test x ≡ true) × (all x ≡ true)
    by true t more e =
        let same : y ≡ x = cc in
        (ap test (sym same) ∙ t, ap all (sym same) ∙ (and_parts (all y) (list_all all xs) h).0)
    by false t more e = more e

-- ---- names are apart

abbrev apart_from : NamedRow → List NamedRow → Bool
apart_from row rows = list_all (λ (other : NamedRow). not (bytes_eq row.1 other.1)) rows

abbrev are_apart : List NamedRow → Bool
are_apart [] = true
are_apart (row ∷ rows) = apart_from row rows && are_apart rows

named_in : (rows : List NamedRow) (number : ℕ) (row : NamedRow) → row_numbered_in rows number ≡ Some row
    → are_apart rows ≡ true → find (λ (other : NamedRow). bytes_eq other.1 row.1) rows ≡ Some row
named_in [] number row e apart = cc
named_in (first ∷ rows) number row e apart =
    let parts = and_parts (apart_from first rows) (are_apart rows) apart in
    by (nat_eq first.0 number) refl parts.0 (λ behind. named_in rows number row behind parts.1) e
  where
    by : (b : Bool) → nat_eq first.0 number ≡ b → apart_from first rows ≡ true
        → (row_numbered_in rows number ≡ Some row
        → find (λ (other : NamedRow). bytes_eq other.1 row.1) rows ≡ Some row)
        → cond b (Some first) (row_numbered_in rows number) ≡ Some row
        → cond (bytes_eq first.1 row.1) (Some first) (find (λ (other : NamedRow). bytes_eq other.1 row.1) rows)
        ≡ Some row
    by true t apart more e =
        let same : first ≡ row = cc in
        ap (λ (r : NamedRow). cond (bytes_eq first.1 r.1) (Some first)
        (find (λ (other : NamedRow). bytes_eq other.1 row.1) rows)) (sym same)
        ∙ ap (λ b. cond b (Some first) (find (λ (other : NamedRow). bytes_eq other.1 row.1) rows)) (bytes_same first.1)
        ∙ e
    by false t apart more e =
        let other = found_passes (λ (r : NamedRow). nat_eq r.0 number)
        (λ (other : NamedRow). not (bytes_eq first.1 other.1)) rows row e apart in
        ap (λ b. cond b (Some first) (find (λ (other : NamedRow). bytes_eq other.1 row.1) rows))
        (not-true (bytes_eq first.1 row.1) other.1)
        ∙ more e

mnemonics_apart : are_apart mnemonics ≡ true
unfolding mnemonics loads branches arithmetic objects elements prefixed
mnemonics_apart = refl

-- the row of an opcode is that of its name
pub named_row : (number : ℕ) (row : NamedRow) → row_numbered number ≡ Some row → row_named row.1 ≡ Some row
unfolding row_numbered
named_row number row e = named_in mnemonics number row e mnemonics_apart

-- ---- names are words

-- a name has a byte at least, and doesn't begin with a dot (46)
abbrev begins_well : List ℕ → Bool
begins_well [] = false
begins_well (first ∷ name) = not (nat_eq first 46)

abbrev is_name : List ℕ → Bool
is_name name = begins_well name && list_all is_inner name

mnemonics_are_names : list_all (λ (row : NamedRow). is_name row.1) mnemonics ≡ true
unfolding mnemonics loads branches arithmetic objects elements prefixed
mnemonics_are_names = refl

-- What is known of a name: it is a word, and none that begins with a dot.
pub record IsName (name : List ℕ) : Type 0 where
  pub word : IsWord name
  pub other : (rest : List ℕ) → bytes_eq name (46 ∷ rest) ≡ false

name_from : (name : List ℕ) → is_name name ≡ true → IsName name
name_from [] e = cc
name_from (first ∷ name) e =
    let parts = and_parts (not (nat_eq first 46)) (list_all is_inner (first ∷ name)) e in
    record {
      word = inner_word (first ∷ name) (omega arith) parts.1;
      other = λ rest. ap (λ b. b && bytes_eq name rest) (not-true (nat_eq first 46) parts.0);
    }

pub name_of_row : (number : ℕ) (row : NamedRow) → row_numbered number ≡ Some row → IsName row.1
unfolding row_numbered
name_of_row number row e =
    name_from row.1
    (found_passes (λ (row : NamedRow). nat_eq row.0 number) (λ (row : NamedRow). is_name row.1) mnemonics row e
    mnemonics_are_names).1

-- the row of a number has that number
pub number_of_row : (number : ℕ) (row : NamedRow) → row_numbered number ≡ Some row → row.0 ≡ number
unfolding row_numbered
number_of_row number row e =
    eqb-true row.0 number
    (found_passes (λ (row : NamedRow). nat_eq row.0 number) (λ (row : NamedRow). is_name row.1) mnemonics row e
    mnemonics_are_names).0

-- ---- forms

-- a number for each form
abbrev form_number : OperandForm → ℕ
form_number Absent = 0
form_number Unsigned8 = 1
form_number Unsigned16 = 2
form_number Signed8 = 3
form_number Signed32 = 4
form_number Signed64 = 5
form_number Token = 6
form_number Target8 = 7
form_number Target32 = 8
form_number Targets = 9

abbrev form_at : ℕ → OperandForm
form_at zero = Absent
form_at (suc zero) = Unsigned8
form_at (suc (suc zero)) = Unsigned16
form_at (suc (suc (suc zero))) = Signed8
form_at (suc (suc (suc (suc zero)))) = Signed32
form_at (suc (suc (suc (suc (suc zero))))) = Signed64
form_at (suc (suc (suc (suc (suc (suc zero)))))) = Token
form_at (suc (suc (suc (suc (suc (suc (suc zero))))))) = Target8
form_at (suc (suc (suc (suc (suc (suc (suc (suc zero)))))))) = Target32
form_at (suc (suc (suc (suc (suc (suc (suc (suc (suc n))))))))) = Targets

form_back : (form : OperandForm) → form_at (form_number form) ≡ form
form_back Absent = refl
form_back Unsigned8 = refl
form_back Unsigned16 = refl
form_back Signed8 = refl
form_back Signed32 = refl
form_back Signed64 = refl
form_back Token = refl
form_back Target8 = refl
form_back Target32 = refl
form_back Targets = refl

abbrev has_form : OperandForm → Option (Op × OperandForm) → Bool
has_form form None = false
has_form form (Some row) = nat_eq (form_number form) (form_number row.1)

mnemonics_have_forms : list_all (λ (row : NamedRow). has_form row.2 (opcode_row row.0)) mnemonics ≡ true
unfolding mnemonics loads branches arithmetic objects elements prefixed opcode_row opcodes
mnemonics_have_forms = refl

form_from : (form : OperandForm) (o : Option (Op × OperandForm)) (op : Op) (other : OperandForm)
    → has_form form o ≡ true
    → o ≡ Some (op, other) → form ≡ other
form_from form None op other e is = cc
form_from form (Some row) op other e is =
    let same : row ≡ (op, other) = cc in
    sym (form_back form) ∙ ap form_at (eqb-true (form_number form) (form_number row.1) e) ∙ form_back row.1
    ∙ ap (λ (r : Op × OperandForm). r.1) same

-- the form of a name's operand is that of its opcode
pub form_of_row : (number : ℕ) (row : NamedRow) (op : Op) (form : OperandForm) → row_numbered number ≡ Some row
    → opcode_row number ≡ Some (op, form) → row.2 ≡ form
unfolding row_numbered
form_of_row number row op form e is =
    let found = found_passes (λ (row : NamedRow). nat_eq row.0 number)
    (λ (row : NamedRow). has_form row.2 (opcode_row row.0)) mnemonics row e mnemonics_have_forms in
    form_from row.2 (opcode_row row.0) op form found.1
    (ap opcode_row (eqb-true row.0 number found.0) ∙ is)

-- The rows of names, and tables that are held, as the code finds them and as they are read.
use Rattle.std.proofs.Common.{◌≡◌, ◌∙◌, ℕ, Bool, true, false, List, [], ◌∷◌, ◌++◌, map, Option, Some, None, refl, ap}
use Rattle.std.proofs.Common.{cond, nat_eq, ◌&&◌, bytes_eq, ◌≤◌, sym}
use Rattle.std.specs.List.{find}
use Rattle.std.specs.Option.{option_map, option_or}
use Rattle.il_code.specs.declared.opcode.OperandForm.{OperandForm}
use Rattle.md_rows.specs.declared.schema.Schema.{Schema}
use Rattle.std.proofs.lemmas.Bool.{le-leb}
use Rattle.md_rows.specs.Tables.{TableSchema, schema_of, tables}
use Rattle.il_text.specs.Reading.{row_named_in, held_from}

none_first : (t : Bool) (row : ℕ × List ℕ × OperandForm) (found rest : Option (ℕ × List ℕ × OperandForm))
    → option_or (cond t (Some row) found) rest ≡ cond t (Some row) (option_or found rest)
none_first true row found rest = refl
none_first false row found rest = refl

-- the row of a name in one list, or else in another
named_in_either : (xs ys : List (ℕ × List ℕ × OperandForm)) (word : List ℕ)
    → option_or (row_named_in xs word) (row_named_in ys word) ≡ row_named_in (xs ++ ys) word
named_in_either [] ys word = refl
named_in_either (row ∷ xs) ys word =
    none_first (bytes_eq row.1 word) row (row_named_in xs word) (row_named_in ys word)
    ∙ ap (cond (bytes_eq row.1 word) (Some row)) (named_in_either xs ys word)

-- the row in the first table
pub named_first : (rows named : List (ℕ × List ℕ × OperandForm)) (word : List ℕ)
    (found : Option (ℕ × List ℕ × OperandForm)) → found ≡ row_named_in rows word → rows ≡ named
    → found ≡ row_named_in named word
named_first rows named word found e same = e ∙ ap (λ rows. row_named_in rows word) same

-- the row in the tables so far, or in the next
pub named_in_both : (xs rows named : List (ℕ × List ℕ × OperandForm)) (word : List ℕ)
    (found all : Option (ℕ × List ℕ × OperandForm)) → found ≡ row_named_in xs word
    → all ≡ option_or found (row_named_in rows word) → rows ≡ named → all ≡ row_named_in (xs ++ named) word
named_in_both xs rows named word found all first e same =
    e ∙ ap (λ found. option_or found (row_named_in rows word)) first
    ∙ ap (λ rows. option_or (row_named_in xs word) (row_named_in rows word)) same
    ∙ named_in_either xs named word

by_test : (t : Bool) (schema : Schema) (found : Option Schema) (rest : Option TableSchema)
    → option_map schema_of found ≡ rest
    → option_map schema_of (cond t (Some schema) found) ≡ cond t (Some (schema_of schema)) rest
by_test true schema found rest h = refl
by_test false schema found rest h = h

-- the first table of a number that is held
pub found_table : (schemas : List Schema) (table : ℕ)
    → option_map schema_of (find (λ (schema : Schema). nat_eq schema.number table && schema.is_held) schemas)
    ≡ find (λ (schema : TableSchema). nat_eq schema.number table && schema.is_held) (map schema_of schemas)
found_table [] table = refl
found_table (schema ∷ schemas) table =
    by_test (nat_eq schema.number table && schema.is_held) schema
    (find (λ (schema : Schema). nat_eq schema.number table && schema.is_held) schemas)
    (find (λ (schema : TableSchema). nat_eq schema.number table && schema.is_held) (map schema_of schemas))
    (found_table schemas table)

pub held_is : (schemas : List Schema) (least table : ℕ) (found : Option Schema) → least ≤ table
    → found ≡ find (λ (schema : Schema). nat_eq schema.number table && schema.is_held) schemas
    → map schema_of schemas ≡ tables → option_map schema_of found ≡ held_from least table
held_is schemas least table found behind is same =
    ap (option_map schema_of) is
    ∙ found_table schemas table
    ∙ ap (find (λ (schema : TableSchema). nat_eq schema.number table && schema.is_held)) same
    ∙ sym (ap (λ b. cond b (find (λ (schema : TableSchema). nat_eq schema.number table && schema.is_held) tables) None)
    (le-leb least table behind))

-- Texts of the heap of strings, and tables that are only skipped.
use Rattle.std.proofs.Common.{◌≡◌, ◌∙◌, ℕ, Bool, true, false, cond, ◌&&◌, ◌||◌, not, ◌==◌, List, [], ◌∷◌, map, drop}
use Rattle.std.proofs.Common.{Option, Some, None, ap, refl, sym}
use Rattle.std.specs.Str.{IsUtf8, is_utf8}
use Rattle.std.specs.List.{list_any}
use Rattle.std.specs.Borrow.{Bor}
use Rattle.std.specs.Option.{option_and_then, option_map}
use Rattle.std.specs.Prelude.{IfSome, IfNone}
use Rattle.std.proofs.lemmas.Str.{is_utf8-from_IsUtf8, IsUtf8-from_is_utf8}
use Rattle.md_heaps.specs.Heaps.{in_front_of_zero, IsTextInFront}
use Rattle.md_rows.specs.Tables.{tables, schema_of, is_skipped_in, is_skipped}
use Rattle.md_rows.specs.Cells.{if_text, text_at}
use Rattle.md_rows.specs.declared.schema.Schema.{Schema}

-- a text that was found
pub found : (heap : List ℕ) (at : ℕ) (text : List ℕ) → IsTextInFront (drop at heap) text
    → Some text ≡ text_at heap at
found heap at text is =
    sym (ap (option_and_then if_text) is.ends
    ∙ ap (λ b. cond b (Some text) None) (is_utf8-from_IsUtf8 text is.utf8))

if_text_by : (text : List ℕ) (b : Bool) → is_utf8 text ≡ b → (IsUtf8 text → ⊥) → None ≡ cond b (Some text) None
if_text_by text true e never = absurd (never (IsUtf8-from_is_utf8 text e))
if_text_by text false e never = refl

none_by : (bytes : List ℕ) (o : Option (List ℕ)) → in_front_of_zero bytes ≡ o
    → ((text : List ℕ) → IsTextInFront bytes text → ⊥) → None ≡ option_and_then if_text o
none_by bytes None e never = refl
none_by bytes (Some text) e never =
    if_text_by text (is_utf8 text) refl (λ utf8. never text (record { ends = e; utf8 = utf8 }))

-- no text
pub not_found : (heap : List ℕ) (at : ℕ) → ((text : List ℕ) → IsTextInFront (drop at heap) text → ⊥)
    → None ≡ text_at heap at
not_found heap at never = none_by (drop at heap) (in_front_of_zero (drop at heap)) refl never

-- what the search for a text tells
pub text_is : (heap : List ℕ) (at : ℕ) (o : Option (Bor (List ℕ)))
    → IfSome o (λ text. IsTextInFront (drop at heap) text.now)
    → IfNone o ((text : List ℕ) → IsTextInFront (drop at heap) text → ⊥)
    → option_map (λ text. text.now) o ≡ text_at heap at
text_is heap at None some none = not_found heap at none
text_is heap at (Some text) some none = found heap at text.now some

-- a table that is only skipped
any_of_map : (table : ℕ) (schemas : List Schema)
    → list_any (λ schema. schema.number == table && not schema.is_held) schemas ≡ is_skipped_in (map schema_of schemas)
    table
any_of_map table [] = refl
any_of_map table (schema ∷ rest) =
    ap (λ b. (schema.number == table && not schema.is_held) || b) (any_of_map table rest)

pub skipped_is : (table : ℕ) (schemas : List Schema) → map schema_of schemas ≡ tables
    → list_any (λ schema. schema.number == table && not schema.is_held) schemas ≡ is_skipped table
unfolding is_skipped
skipped_is table schemas same = any_of_map table schemas ∙ ap (λ s. is_skipped_in s table) same

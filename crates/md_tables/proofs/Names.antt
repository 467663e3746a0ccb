-- Names, and rows behind one another.
use Rattle.std.proofs.Common.{◌≡◌, ◌∙◌, ℕ, Bool, ◌&&◌, ◌==◌, not, List, ap, sym}
use Rattle.std.specs.Prelude.{IsUtf8}
use Rattle.std.specs.List.{list_all}
use Rattle.std.proofs.lemmas.Str.{is_utf8-from_IsUtf8}
use Rattle.md_rows.specs.declared.cell.Cell.{Cell}
use Rattle.md_rows.specs.declared.cell.Cell.TheVariants.{Name}
use Rattle.md_rows.specs.Fits.{is_name}

-- a text without a zero byte is a name
pub name_is : (text bytes : List ℕ) (found : Bool) (cell : Cell) → IsUtf8 text → bytes ≡ text
    → found ≡ list_all (λ byte. not (byte == 0)) bytes → cell ≡ Name text → found ≡ is_name cell
name_is text bytes found cell utf8 same is of =
    is
    ∙ ap (list_all (λ byte. not (byte == 0))) same
    ∙ sym (ap (λ b. b && list_all (λ byte. not (byte == 0)) text) (is_utf8-from_IsUtf8 text utf8))
    ∙ ap is_name (sym of)

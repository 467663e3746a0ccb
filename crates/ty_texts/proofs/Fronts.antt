-- A text that doesn't begin with another isn't that with more behind.
use Rattle.std.proofs.Common.{◌≡◌, ◌∙◌, ◌++◌, ℕ, Bool, true, false, List, length, take, refl, ap, sym, true≢false}
use Rattle.std.proofs.lemmas.List.{take_at}
use Rattle.std.proofs.lemmas.Slice.Eq.{bytes_eq-Decides}
use Rattle.std.specs.Str.{bytes_eq}

pub other_front : (text front rest : List ℕ) (begins : Bool) → begins ≡ bytes_eq front (take (length front) text)
    → begins ≡ false → bytes_eq (front ++ rest) text ≡ false
other_front text front rest begins is off = by (bytes_eq (front ++ rest) text) refl
  where
    by : (b : Bool) → bytes_eq (front ++ rest) text ≡ b → b ≡ false
    by true h =
        let whole : front ++ rest ≡ text = (bytes_eq-Decides (front ++ rest) text).0 h in
        let part : front ≡ take (length front) text =
        sym (take_at front rest (length front) refl) ∙ ap (take (length front)) whole in
        absurd (true≢false (sym ((bytes_eq-Decides front (take (length front) text)).1 part) ∙ sym is ∙ off))
    by false h = refl

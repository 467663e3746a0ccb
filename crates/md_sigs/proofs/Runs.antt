-- Runs of places, and types made from the last element to the first.
use Rattle.std.proofs.Common.{◌≡◌, ◌∙◌, ◌++◌, ◌∷◌, ◌-◌, ◌<◌, ◌≤◌, [], ℕ, suc, List, length, take, drop, replicate}
use Rattle.std.proofs.Common.{refl, ap, sym, arith, append_assoc}
use Rattle.std.proofs.lemmas.List.{length_push}
use Rattle.ty_terms.specs.declared.ty.Ty.{Ty}
use Rattle.md_sigs.specs.Grammar.{all_in_front, in_front}
use Rattle.md_sigs.specs.Reading.{places_of}
use Rattle.md_sigs.specs.declared.element.Element.{Element}
use Rattle.md_sigs.specs.declared.waiting.Run.{Run}

pub next_of_many : (run : Run) (runs : List Run) → 1 < run.count
    → places_of (run ∷ runs) ≡ run.place ∷ (replicate (run.count - 1) run.place ++ places_of runs)
next_of_many run runs h =
    let more : run.count ≡ suc (run.count - 1) = omega arith in
    ap (λ n. replicate n run.place ++ places_of runs) more

pub next_of_one : (run : Run) (runs : List Run) → run.count ≡ 1 → places_of (run ∷ runs) ≡ run.place ∷ places_of runs
next_of_one run runs h = ap (λ n. replicate n run.place ++ places_of runs) h

pub next_of_none : (run : Run) (runs : List Run) → run.count ≡ 0 → places_of (run ∷ runs) ≡ places_of runs
next_of_none run runs h = ap (λ n. replicate n run.place ++ places_of runs) h

-- the last element is in front of the types, and those before it in front of what it makes
pub from_the_last : (elements : List Element) (e : Element) (types : List Ty)
    → all_in_front (elements ++ e ∷ []) types ≡ all_in_front elements (in_front e types)
from_the_last [] e types = refl
from_the_last (x ∷ elements) e types = ap (in_front x) (from_the_last elements e types)

-- what is taken and what is still to be taken
pub record IsTaking (count : ℕ) (whole front types : List Ty) : Type 0 where
  pub taken : front ++ take (count - length front) types ≡ take count whole
  pub left : drop (count - length front) types ≡ drop count whole
  pub few : length front ≤ count

pub takes_one : (count : ℕ) (whole front types : List Ty) (ty : Ty) → length front < count
    → IsTaking count whole front (ty ∷ types) → IsTaking count whole (front ++ ty ∷ []) types
takes_one count whole front types ty more t = record {
  taken =
      append_assoc front (ty ∷ []) (take (count - length (front ++ ty ∷ [])) types)
      ∙ ap (λ n. front ++ take n (ty ∷ types)) (sym step) ∙ t.taken;
  left = ap (λ n. drop n (ty ∷ types)) (sym step) ∙ t.left;
  few = omega (arith, length_push front ty);
}
  where
    step : count - length front ≡ suc (count - length (front ++ ty ∷ []))
    step = omega (arith, length_push front ty)

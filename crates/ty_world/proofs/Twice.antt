-- An earlier place that passes a test that a place passes: the first one that passes it is another.
use Rattle.std.proofs.Common.{◌≡◌, inl, inr, ◌∙◌, ℕ, zero, suc, ◌+◌, ◌-◌, ◌<◌, ◌≤◌, ◌||◌, Bool, true, false}
use Rattle.std.proofs.Common.{cond, not, List, Option, Some, find, refl, sym, ap, arith, eq-eqb, ne_eqb}
use Rattle.std.proofs.lemmas.Bool.{cases_eq}
use Rattle.std.specs.List.{list_any, range_with_len}
use Rattle.std.proofs.lemmas.Slice.Eq.{bytes_eq-Decides}
use Rattle.ty_names.specs.Modules.{World, core_of}
use Rattle.ty_names.specs.References.{handed_in, is_named}
use Rattle.ty_load.specs.Valid.{has_earlier_name, name_at}
use Rattle.ty_world.specs.Repeated.{is_other}

module _ (p : ℕ → Bool) (place : ℕ) (passes : p place ≡ true) where
  pub other_first : (count from : ℕ) → from ≤ place → place < from + count
      → is_other place (find p (range_with_len from count)) ≡ list_any p (range_with_len from (place - from))
  other_first zero from low high = absurd (omega arith)
  other_first (suc count) from low high = elim (cases_eq from place) [
    | inl e ↦
        let none : place - from ≡ 0 = omega arith in
        here e (p from) (ap p e ∙ passes) ∙ sym (ap (λ n. list_any p (range_with_len from n)) none)
    | inr ne ↦
        let more : place - from ≡ suc (place - (from + 1)) = omega arith in
        let low' : from + 1 ≤ place = omega arith in
        behind ne (p from) (other_first count (from + 1) low' (omega arith))
        ∙ sym (ap (λ n. list_any p (range_with_len from n)) more)
  ]
    where
      here : from ≡ place → (b : Bool) → b ≡ true
          → is_other place (cond b (Some from) (find p (range_with_len (from + 1) count))) ≡ false
      here e true is = ap not (eq-eqb from place e)
      here e false is = absurd (cc)

      behind : (from ≡ place → ⊥) → (b : Bool)
          → is_other place (find p (range_with_len (from + 1) count))
          ≡ list_any p (range_with_len (from + 1) (place - (from + 1)))
          → is_other place (cond b (Some from) (find p (range_with_len (from + 1) count)))
          ≡ (b || list_any p (range_with_len (from + 1) (place - (from + 1))))
      behind ne true so_far = ap not (ne_eqb from place ne)
      behind ne false so_far = so_far

-- ---- names of assemblies

pub earlier : (world : World) (number : ℕ) (name : List ℕ) (found : Option ℕ) → number < core_of world
    → name_at world number ≡ Some name → found ≡ handed_in world name
    → is_other number found ≡ has_earlier_name world number (name_at world number)
earlier world number name found h e f =
    let test : ℕ → Bool = λ other. is_named name (name_at world other) in
    let passes : test number ≡ true = ap (is_named name) e ∙ (bytes_eq-Decides name name).1 refl in
    let all : number - 0 ≡ number = omega arith in
    ap (is_other number) f
    ∙ other_first test number passes (core_of world) 0 (omega arith) (omega arith)
    ∙ ap (λ n. list_any test (range_with_len 0 n)) all
    ∙ sym (ap (has_earlier_name world number) e)

pub first_behind : (p : ℕ → Bool) (place end : ℕ) → place < end → p place ≡ false
    → find p (range_with_len place (end - place)) ≡ find p (range_with_len (place + 1) (end - (place + 1)))
first_behind p place end h fails =
    let more : end - place ≡ suc (end - (place + 1)) = omega arith in
    ap (λ n. find p (range_with_len place n)) more
    ∙ ap (λ b. cond b (Some place) (find p (range_with_len (place + 1) (end - (place + 1))))) fails

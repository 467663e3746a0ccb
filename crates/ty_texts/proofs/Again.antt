-- Other rows with one text, looked for one after another.
use Rattle.std.proofs.Common.{◌≡◌, ◌∙◌, ◌+◌, ◌-◌, ◌<◌, ◌≤◌, ◌||◌, ℕ, suc, Bool, true, false, ap, sym, arith}
use Rattle.std.specs.List.{list_any, range_with_len}

module _ (test : ℕ → Bool) (begin count : ℕ) (whole : Bool) where
  -- the rows from one on decide
  abbrev pub Decide : ℕ → Type 0
  Decide at = whole ≡ list_any test (range_with_len (begin + at) (count - at))

  pub decide_all : whole ≡ list_any test (range_with_len begin count) → Decide 0
  decide_all h =
      let same : count ≡ count - 0 = omega arith in
      let first : begin ≡ begin + 0 = omega arith in
      h ∙ (λ i. list_any test (range_with_len (first i) (same i)))

  one : (at : ℕ) → at < count → Decide at
      → whole ≡ test (begin + at) || list_any test (range_with_len (begin + (at + 1)) (count - (at + 1)))
  one at h so_far =
      let more : count - at ≡ suc (count - (at + 1)) = omega arith in
      let next : begin + at + 1 ≡ begin + (at + 1) = omega arith in
      so_far ∙ ap (λ n. list_any test (range_with_len (begin + at) n)) more
      ∙ ap (λ n. test (begin + at) || list_any test (range_with_len n (count - (at + 1)))) next

  pub decide_on : (at : ℕ) → at < count → test (begin + at) ≡ false → Decide at → Decide (at + 1)
  decide_on at h off so_far =
      one at h so_far ∙ ap (λ b. b || list_any test (range_with_len (begin + (at + 1)) (count - (at + 1)))) off

  pub decide_here : (at : ℕ) → at < count → test (begin + at) ≡ true → Decide at → true ≡ whole
  decide_here at h on so_far =
      sym (one at h so_far ∙ ap (λ b. b || list_any test (range_with_len (begin + (at + 1)) (count - (at + 1)))) on)

  pub decide_none : (at : ℕ) → count ≤ at → Decide at → false ≡ whole
  decide_none at all so_far =
      let none : count - at ≡ 0 = omega arith in
      sym (so_far ∙ ap (λ n. list_any test (range_with_len (begin + at) n)) none)

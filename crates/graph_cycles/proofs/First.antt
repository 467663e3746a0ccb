-- The first place that passes a test, where one doesn't.
use Rattle.std.proofs.Common.{◌≡◌, ◌∙◌, ℕ, suc, ◌+◌, ◌-◌, ◌<◌, Bool, false, cond, Some, find, ap, arith}
use Rattle.std.specs.List.{range_with_len}

pub first_behind : (p : ℕ → Bool) (place end : ℕ) → place < end → p place ≡ false
    → find p (range_with_len place (end - place)) ≡ find p (range_with_len (place + 1) (end - (place + 1)))
first_behind p place end h fails =
    let more : end - place ≡ suc (end - (place + 1)) = omega arith in
    ap (λ n. find p (range_with_len place n)) more
    ∙ ap (λ b. cond b (Some place) (find p (range_with_len (place + 1) (end - (place + 1))))) fails

-- What a call answers, if it does, said in other words.
use Rattle.std.proofs.Common.{◌≡◌, ◌∙◌, Result, Ok, Err}
use Rattle.std.specs.Result.{IfOk}

pub same_answer : {A E : Type 0} (r : Result A E) (x y : A) → x ≡ y → IfOk r (λ found. found ≡ x)
    → IfOk r (λ found. found ≡ y)
same_answer (Ok found) x y e h = h ∙ e
same_answer (Err fault) x y e h = h

-- What was added part behind part.
use Rattle.std.proofs.Common.{◌≡◌, List, ◌++◌, append_assoc}

module _ {A : Type 0} (old a b : List A) where
  pub joined2 : (old ++ a) ++ b ≡ old ++ (a ++ b)
  joined2 = append_assoc old a b

  pub joined3 : (c : List A) → ((old ++ a) ++ b) ++ c ≡ old ++ (a ++ (b ++ c))
  joined3 c = simp append_assoc

  pub joined4 : (c d : List A) → (((old ++ a) ++ b) ++ c) ++ d ≡ old ++ (a ++ (b ++ (c ++ d)))
  joined4 c d = simp append_assoc

  pub joined5 : (c d e : List A) → ((((old ++ a) ++ b) ++ c) ++ d) ++ e ≡ old ++ (a ++ (b ++ (c ++ (d ++ e))))
  joined5 c d e = simp append_assoc

  pub joined8 : (c d e f g h : List A)
      → (((((((old ++ a) ++ b) ++ c) ++ d) ++ e) ++ f) ++ g) ++ h
      ≡ old ++ (a ++ (b ++ (c ++ (d ++ (e ++ (f ++ (g ++ h)))))))
  joined8 c d e f g h = simp append_assoc

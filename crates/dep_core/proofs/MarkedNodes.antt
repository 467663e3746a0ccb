-- Marks as a derivation, and what a closed derivation says of the limits.
use Rattle.std.proofs.Common.{◌≡◌, ℕ, ◌≤◌, inl, inr, List, [], ◌∷◌, ◌++◌, All, Contains, length}
use Rattle.std.proofs.Common.{Option, Some, None, refl, sym, ap, subst, arith}
use Rattle.std.proofs.Common.{append_assoc}
use Rattle.std.proofs.lemmas.List.Elements.{All-contains, Contains-push}
use Rattle.dep_core.specs.declared.mark.Mark.{Mark}
use Rattle.dep_core.specs.Kept.{Follows, IsDerivationFrom, IsDerivation, IsClosed}
use Rattle.dep_core.specs.Marks.{nodes_of, NamesRow, AreMarksFrom, AreMarks, NodesPass, DepthPasses, NonePassed}
use Rattle.dep_core.proofs.Lists.{get_contains}
use Rattle.dep_core.proofs.Deriving.{holds, no_longer}

pub nil_end : {X : Type 0} (xs : List X) → xs ++ [] ≡ xs
nil_end [] = refl
nil_end (x ∷ xs) = ap (λ l. x ∷ l) (nil_end xs)

module _ {N : Type 0} where
  pub nodes_push : (marks : List (Mark N)) (m : Mark N) → nodes_of (marks ++ m ∷ []) ≡ nodes_of marks ++ m.node ∷ []
  nodes_push [] m = refl
  nodes_push (b ∷ marks) m = ap (λ (l : List N). b.node ∷ l) (nodes_push marks m)

  module _ (root : N → Type 0) (row : List N → N → ℕ → Type 0) where
    pub follows : (before : List N) (n : N) (rule : ℕ) (from also : Option ℕ)
        → NamesRow root row before n rule from also → Follows root row before n
    follows before n rule None None named = inl named.0
    follows before n rule None (Some also) named = absurd named
    follows before n rule (Some from) None named =
        inr (named.0 ∷ [], rule, (get_contains before from named.0 named.1, tt), named.2)
    follows before n rule (Some from) (Some also) named = inr (
      named.0 ∷ named.1 ∷ [],
      rule,
      (get_contains before from named.0 named.2, (get_contains before also named.1 named.3, tt)),
      named.4,
    )

    derives_from : (before : List N) (marks : List (Mark N)) → AreMarksFrom root row before marks
        → IsDerivationFrom root row before (nodes_of marks)
    derives_from before [] are = tt
    derives_from before (m ∷ marks) are =
        (follows before m.node m.rule m.from m.also are.0, are.1, derives_from (before ++ m.node ∷ []) marks are.2)

    pub derives : (marks : List (Mark N)) → AreMarks root row marks → IsDerivation root row (nodes_of marks)
    derives marks are = derives_from [] marks are

    derives_push_from : (before ns : List N) (n : N) → IsDerivationFrom root row before ns
        → Follows root row (before ++ ns) n → (¬ Contains (before ++ ns) n)
        → IsDerivationFrom root row before (ns ++ n ∷ [])
    derives_push_from before [] n d f new = (
      subst (λ l. Follows root row l n) (nil_end before) f,
      λ h. new
          (subst (λ l. Contains l n) (sym (nil_end before)) h),
      tt,
    )
    derives_push_from before (m ∷ ms) n d f new = (
      d.0,
      d.1,
      derives_push_from (before ++ m ∷ []) ms n d.2
          (subst (λ l. Follows root row l n) (sym (append_assoc before (m ∷ []) ms)) f)
          (λ h. new (subst (λ l. Contains l n) (append_assoc before (m ∷ []) ms) h)),
    )

    -- one more node behind a derivation
    pub derives_push : (ns : List N) (n : N) → IsDerivation root row ns → Follows root row ns n → (¬ Contains ns n)
        → IsDerivation root row (ns ++ n ∷ [])
    derives_push ns n d f new = derives_push_from [] ns n d f new

    marks_push_from : (before : List N) (marks : List (Mark N)) (m : Mark N) → AreMarksFrom root row before marks
        → NamesRow root row (before ++ nodes_of marks) m.node m.rule m.from m.also
        → (¬ Contains (before ++ nodes_of marks) m.node) → AreMarksFrom root row before (marks ++ m ∷ [])
    marks_push_from before [] m are named new = (
      subst (λ l. NamesRow root row l m.node m.rule m.from m.also) (nil_end before) named,
      λ h. new (subst (λ l. Contains l m.node) (sym (nil_end before)) h),
      tt,
    )
    marks_push_from before (b ∷ marks) m are named new = (
      are.0,
      are.1,
      marks_push_from (before ++ b.node ∷ []) marks m are.2
          (subst (λ l. NamesRow root row l m.node m.rule m.from m.also)
          (sym (append_assoc before (b.node ∷ []) (nodes_of marks))) named)
          (λ h. new (subst (λ l. Contains l m.node) (append_assoc before (b.node ∷ []) (nodes_of marks)) h)),
    )

    -- one more mark behind the marks
    pub marks_push : (marks : List (Mark N)) (m : Mark N) → AreMarks root row marks
        → NamesRow root row (nodes_of marks) m.node m.rule m.from m.also → (¬ Contains (nodes_of marks) m.node)
        → AreMarks root row (marks ++ m ∷ [])
    marks_push marks m are named new = marks_push_from [] marks m are named new

    module _ (depth : N → ℕ) (most_nodes most_depth : ℕ) where
      pub none_passed : (ns : List N) → IsClosed root row ns → All (λ n. depth n ≤ most_depth) ns
          → length ns ≤ most_nodes → NonePassed root row depth most_nodes most_depth
      none_passed ns closed all few = (
        λ n derived. All-contains (λ n. depth n ≤ most_depth) ns n all (holds root row ns closed n derived),
        λ ds derivation. omega (arith, no_longer root row ns ds closed derivation, few),
      )

      pub nodes_passed : NodesPass root row depth most_nodes most_depth
          → NonePassed root row depth most_nodes most_depth → ⊥
      nodes_passed passed none = absurd (omega (arith, none.1 passed.0 passed.1, passed.3))

      pub depth_passed : (n : N) → DepthPasses root row depth most_nodes most_depth n
          → NonePassed root row depth most_nodes most_depth → ⊥
      depth_passed n passed none =
          let ns : List N = passed.1.0 in
          absurd (omega (arith, none.0 n (ns ++ n ∷ [], passed.1.1, Contains-push ns n), passed.0))

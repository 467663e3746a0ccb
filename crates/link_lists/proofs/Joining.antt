-- Joined places: in parts, under other links, and as what one meets by following them.
use Rattle.std.proofs.Common.{◌≡◌, ℕ, zero, suc, ◌<◌, ◌≤◌, ◌⊎◌, inl, inr, true, List, [], ◌∷◌, ◌++◌, length, Option}
use Rattle.std.proofs.Common.{Some, None, refl, sym, ap, ◌∙◌, subst, arith}
use Rattle.link_lists.specs.declared.link.Link.{Link}
use Rattle.link_lists.specs.Links.{between, link_at}
use Rattle.link_lists.specs.Chains.{followed, IsAmong, AreDistinct, first_or, last_or, AreJoined}

pub among_left : (p : ℕ) (xs ys : List ℕ) → IsAmong p xs → IsAmong p (xs ++ ys)
among_left p [] ys h = absurd h
among_left p (x ∷ xs) ys h = elim h [ inl e ↦ inl e | inr rest ↦ inr (among_left p xs ys rest) ]

pub among_right : (p : ℕ) (xs ys : List ℕ) → IsAmong p ys → IsAmong p (xs ++ ys)
among_right p [] ys h = h
among_right p (x ∷ xs) ys h = inr (among_right p xs ys h)

pub among_cases : (p : ℕ) (xs ys : List ℕ) → IsAmong p (xs ++ ys) → IsAmong p xs ⊎ IsAmong p ys
among_cases p [] ys h = inr h
among_cases p (x ∷ xs) ys h = elim h [
  | inl e ↦ inl (inl e)
  | inr rest ↦ elim (among_cases p xs ys rest) [ inl here ↦ inl (inr here) | inr there ↦ inr there ]
]

-- the places before one and behind it
pub split : (p : ℕ) (ps : List ℕ) → IsAmong p ps → (us : List ℕ) × (vs : List ℕ) × (ps ≡ us ++ p ∷ vs)
split p [] h = absurd h
split p (q ∷ qs) h = elim h [
  | inl e ↦ ([], qs, ap (λ x. x ∷ qs) (sym e))
  | inr rest ↦ let on = split p qs rest in (q ∷ on.0, on.1, ap (λ l. q ∷ l) on.2)
]

pub distinct_left : (xs ys : List ℕ) → AreDistinct (xs ++ ys) → AreDistinct xs
distinct_left [] ys d = tt
distinct_left (x ∷ xs) ys d = (λ h. d.0 (among_left x xs ys h), distinct_left xs ys d.1)

pub distinct_right : (xs ys : List ℕ) → AreDistinct (xs ++ ys) → AreDistinct ys
distinct_right [] ys d = d
distinct_right (x ∷ xs) ys d = distinct_right xs ys d.1

-- no place is both in the one part and in the other
pub distinct_apart : (xs ys : List ℕ) (p : ℕ) → AreDistinct (xs ++ ys) → IsAmong p xs → ¬ IsAmong p ys
distinct_apart [] ys p d h = absurd h
distinct_apart (x ∷ xs) ys p d h = elim h [
  | inl e ↦ λ there. d.0 (among_right x xs ys (subst (λ q. IsAmong q ys) e there))
  | inr rest ↦ distinct_apart xs ys p d.1 rest
]

pub distinct_join : (xs ys : List ℕ) → AreDistinct xs → AreDistinct ys → ((p : ℕ) → IsAmong p xs → ¬ IsAmong p ys) →
    AreDistinct (xs ++ ys)
distinct_join [] ys d e apart = e
distinct_join (x ∷ xs) ys d e apart = (
  λ h. elim (among_cases x xs ys h) [ inl here ↦ d.0 here | inr there ↦ apart x (inl refl) there ],
  distinct_join xs ys d.1 e (λ p h. apart p (inr h)),
)

pub distinct_without : (us vs : List ℕ) (p : ℕ) → AreDistinct (us ++ p ∷ vs) → AreDistinct (us ++ vs)
distinct_without us vs p d =
    distinct_join us vs (distinct_left us (p ∷ vs) d) (distinct_right us (p ∷ vs) d).1
    (λ q h there. distinct_apart us (p ∷ vs) q d h (inr there))

pub first_or-append : (xs ys : List ℕ) (after : Option ℕ) → first_or (xs ++ ys) after ≡ first_or xs (first_or ys after)
first_or-append [] ys after = refl
first_or-append (x ∷ xs) ys after = refl

pub last_or-append : (before : Option ℕ) (xs ys : List ℕ) → last_or before (xs ++ ys) ≡ last_or (last_or before xs) ys
last_or-append before [] ys = refl
last_or-append before (x ∷ xs) ys = last_or-append (Some x) xs ys

pub joined_left : (links : List Link) (before : Option ℕ) (xs ys : List ℕ) (after : Option ℕ)
    → AreJoined links before (xs ++ ys) after → AreJoined links before xs (first_or ys after)
joined_left links before [] ys after h = tt
joined_left links before (x ∷ xs) ys after h =
    (h.0, h.1 ∙ ap (between before) (first_or-append xs ys after), joined_left links (Some x) xs ys after h.2)

pub joined_right : (links : List Link) (before : Option ℕ) (xs ys : List ℕ) (after : Option ℕ)
    → AreJoined links before (xs ++ ys) after → AreJoined links (last_or before xs) ys after
joined_right links before [] ys after h = h
joined_right links before (x ∷ xs) ys after h = joined_right links (Some x) xs ys after h.2

pub joined_both : (links : List Link) (before : Option ℕ) (xs ys : List ℕ) (after : Option ℕ)
    → AreJoined links before xs (first_or ys after) → AreJoined links (last_or before xs) ys after →
    AreJoined links before (xs ++ ys) after
joined_both links before [] ys after h k = k
joined_both links before (x ∷ xs) ys after h k =
    (h.0, h.1 ∙ ap (between before) (sym (first_or-append xs ys after)), joined_both links (Some x) xs ys after h.2 k)

-- where none of their links changed
pub joined_same : (links links' : List Link) (before : Option ℕ) (ps : List ℕ) (after : Option ℕ) →
    AreJoined links before ps after
    → length links' ≡ length links → ((p : ℕ) → IsAmong p ps → link_at links' p ≡ link_at links p) →
    AreJoined links' before ps after
joined_same links links' before [] after h long same = tt
joined_same links links' before (p ∷ ps) after h long same = (
  omega (arith, h.0),
  same p (inl refl) ∙ h.1,
  joined_same links links' (Some p) ps after h.2 long (λ q there. same q (inr there)),
)

pub joined_held : (links : List Link) (before : Option ℕ) (ps : List ℕ) (after : Option ℕ) (p : ℕ)
    → AreJoined links before ps after → IsAmong p ps → (link_at links p).held ≡ true
joined_held links before [] after p h among = absurd among
joined_held links before (q ∷ qs) after p h among = elim among [
  | inl e ↦ ap (λ n. (link_at links n).held) e ∙ ap (λ (l : Link). l.held) h.1
  | inr rest ↦ joined_held links (Some q) qs after p h.2 rest
]

pub joined_within : (links : List Link) (before : Option ℕ) (ps : List ℕ) (after : Option ℕ) (p : ℕ)
    → AreJoined links before ps after → IsAmong p ps → p < length links
joined_within links before [] after p h among = absurd among
joined_within links before (q ∷ qs) after p h among = elim among [
  | inl e ↦ subst (λ n. n < length links) (sym e) h.0
  | inr rest ↦ joined_within links (Some q) qs after p h.2 rest
]

pub last_among : (before : Option ℕ) (ps : List ℕ) (z : ℕ) → last_or before ps ≡ Some z → (before ≡ Some z)
    ⊎ IsAmong z ps
last_among before [] z e = inl e
last_among before (p ∷ ps) z e = elim (last_among (Some p) ps z e) [
  | inl same ↦ let eq : z ≡ p = cc in inr (inl eq)
  | inr rest ↦ inr (inr rest)
]

-- the last of them names another place behind it
pub joined_before : (links links' : List Link) (before : Option ℕ) (ps : List ℕ) (x y : Option ℕ) →
    AreJoined links before ps x → AreDistinct ps
    → length links' ≡ length links
    → ((p : ℕ) → IsAmong p ps → ¬ (last_or None ps ≡ Some p) → link_at links' p ≡ link_at links p)
    → ((z : ℕ) → last_or None ps ≡ Some z → link_at links' z ≡ record (link_at links z) { after = y })
    → AreJoined links' before ps y
joined_before links links' before [] x y h d long same last = tt
joined_before links links' before (p ∷ []) x y h d long same last =
    (omega (arith, h.0), last p refl ∙ ap (λ (l : Link). record l { after = y }) h.1, tt)
joined_before links links' before (p ∷ q ∷ ps) x y h d long same last =
    let other : ¬ (last_or None (p ∷ q ∷ ps) ≡ Some p) = λ e. elim (last_among None (q ∷ ps) p e) [
      | inl none ↦ let never : ⊥ = cc in never
      | inr there ↦ d.0 there
    ] in (
      omega (arith, h.0),
      same p (inl refl) other ∙ h.1,
      joined_before links links' (Some p) (q ∷ ps) x y h.2 d.1 long (λ r there. same r (inr there)) last,
    )

-- the first of them names another place before it
pub joined_behind : (links links' : List Link) (before before' : Option ℕ) (ps : List ℕ) (after : Option ℕ) →
    AreJoined links before ps after → AreDistinct ps
    → length links' ≡ length links
    → ((p : ℕ) → IsAmong p ps → ¬ (first_or ps None ≡ Some p) → link_at links' p ≡ link_at links p)
    → ((z : ℕ) → first_or ps None ≡ Some z → link_at links' z ≡ record (link_at links z) { before = before' })
    → AreJoined links' before' ps after
joined_behind links links' before before' [] after h d long same first = tt
joined_behind links links' before before' (p ∷ ps) after h d long same first = (
  omega (arith, h.0),
  first p refl ∙ ap (λ (l : Link). record l { before = before' }) h.1,
  joined_same links links' (Some p) ps after h.2 long
      (λ q there. same q (inr there) (λ e. let eq : p ≡ q = cc in d.0 (subst (λ n. IsAmong n ps) (sym eq) there))),
)

pub followed_is : (links : List Link) (before : Option ℕ) (ps : List ℕ) (n : ℕ) → AreJoined links before ps None →
    length ps ≤ n
    → followed links n (first_or ps None) ≡ ps
followed_is links before [] zero h le = refl
followed_is links before [] (suc n) h le = refl
followed_is links before (p ∷ ps) zero h le = absurd (omega arith)
followed_is links before (p ∷ ps) (suc n) h le =
    ap (λ l. p ∷ l) (ap (λ (l : Link). followed links n l.after) h.1
    ∙ followed_is links (Some p) ps n h.2 (omega arith))

pub followed_short : (links : List Link) (n : ℕ) (at : Option ℕ) → length (followed links n at) ≤ n
followed_short links zero at = omega arith
followed_short links (suc n) None = omega arith
followed_short links (suc n) (Some p) = omega (arith, followed_short links n (link_at links p).after)

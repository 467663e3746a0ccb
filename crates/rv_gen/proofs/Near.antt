-- Each label is in step with a line: at the places of lines it lies no farther than where all take their longest forms.
use Rattle.std.proofs.Common.{◌≡◌, ◌∙◌, ℕ, zero, suc, ◌+◌, ◌*◌, ◌<◌, ◌≤◌, inl, inr, true, false, cond}
use Rattle.std.proofs.Common.{List, [], ◌∷◌, ◌++◌, refl, ap, sym, subst, arith, drop, length}
use Rattle.std.proofs.Common.{get_or}
use Rattle.std.proofs.lemmas.List.{drop_more}
use Rattle.rv_isa.specs.declared.ins.Ins.{Ins}
use Rattle.rv_gen.specs.Near.{IsAhead, IsBehind, IsInStep}
use Rattle.rv_gen.specs.Placing.{are_close, branch_limit, far_places, jump_limit, label_at, longest, place_in}
use Rattle.rv_gen.specs.Placing.{code_from, line_code, places_from, size}
use Rattle.rv_lines.specs.declared.line.Line.{Line}
use Rattle.rv_lines.specs.declared.line.Line.TheVariants.{Label, Single, Addressed, Branch, Jump}

-- two lists of one length, whose items are related place by place
abbrev pub Pairs : (ℕ → ℕ → Type 0) → List ℕ → List ℕ → Type 0
Pairs R [] [] = Unit {0}
Pairs R [] (y ∷ ys) = ⊥
Pairs R (x ∷ xs) [] = ⊥
Pairs R (x ∷ xs) (y ∷ ys) = R x y × Pairs R xs ys

mapped : (R S : ℕ → ℕ → Type 0) → ((x y : ℕ) → R x y → S x y) → (xs ys : List ℕ) → Pairs R xs ys → Pairs S xs ys
mapped R S f [] [] p = tt
mapped R S f [] (y ∷ ys) p = absurd p
mapped R S f (x ∷ xs) [] p = absurd p
mapped R S f (x ∷ xs) (y ∷ ys) p = (f x y p.0, mapped R S f xs ys p.1)

joined : (R : ℕ → ℕ → Type 0) (xs ys us vs : List ℕ) → Pairs R xs ys → Pairs R us vs → Pairs R (xs ++ us) (ys ++ vs)
joined R [] [] us vs p q = q
joined R [] (y ∷ ys) us vs p q = absurd p
joined R (x ∷ xs) [] us vs p q = absurd p
joined R (x ∷ xs) (y ∷ ys) us vs p q = (p.0, joined R xs ys us vs p.1 q)

looked_up : (R : ℕ → ℕ → Type 0) → R 0 0 → (xs ys : List ℕ) → Pairs R xs ys → (n : ℕ)
    → R (place_in xs n) (place_in ys n)
looked_up R r [] [] p n = r
looked_up R r [] (y ∷ ys) p n = absurd p
looked_up R r (x ∷ xs) [] p n = absurd p
looked_up R r (x ∷ xs) (y ∷ ys) p zero = p.0
looked_up R r (x ∷ xs) (y ∷ ys) p (suc n) = looked_up R r xs ys p.1 n

-- no line is longer than in its longest form
pub no_longer : (far : List ℕ) (at : ℕ) (line : Line) → size far at line ≤ longest line
no_longer far at Label = omega arith
no_longer far at (Single ins) = omega arith
no_longer far at (Addressed upper lower kind item) = omega arith
no_longer far at (Branch condition left right label) =
    elim (are_close branch_limit at (place_in far label)) as (λ b. cond b 1 3 ≤ 3)
    [ true ↦ omega arith | false ↦ omega arith ]
no_longer far at (Jump label) =
    elim (are_close jump_limit at (place_in far label)) as (λ b. cond b 1 2 ≤ 2)
    [ true ↦ omega arith | false ↦ omega arith ]

at_most_three : (far : List ℕ) (at : ℕ) (line : Line) → size far at line ≤ 3
at_most_three far at Label = omega arith
at_most_three far at (Single ins) = omega arith
at_most_three far at (Addressed upper lower kind item) = omega arith
at_most_three far at (Branch condition left right label) =
    elim (are_close branch_limit at (place_in far label)) as (λ b. cond b 1 3 ≤ 3)
    [ true ↦ omega arith | false ↦ omega arith ]
at_most_three far at (Jump label) =
    elim (are_close jump_limit at (place_in far label)) as (λ b. cond b 1 2 ≤ 3)
    [ true ↦ omega arith | false ↦ omega arith ]

label_below : (line : Line) (far_at at b : ℕ) → at ≤ b → Pairs (λ x y. y ≤ b) (label_at line far_at) (label_at line at)
label_below Label far_at at b h = (h, tt)
label_below (Single ins) far_at at b h = tt
label_below (Addressed upper lower kind item) far_at at b h = tt
label_below (Branch condition left right label) far_at at b h = tt
label_below (Jump label) far_at at b h = tt

-- a label behind a line is behind what stands in front of that, and one in front of it stays so for the next
ahead_of_line : (far_at at l s : ℕ) → s ≤ l → (x y : ℕ) → IsAhead (far_at + l) (at + s) x y → IsAhead far_at at x y
ahead_of_line far_at at l s h x y p = record {
  far_last = omega (arith, p.far_last);
  last = omega (arith, p.last);
  no_farther = omega (arith, h, p.no_farther, p.last, p.far_last);
}

behind_line : (far_at at l s : ℕ) → s ≤ l → (x y : ℕ) → IsBehind far_at at x y → IsBehind (far_at + l) (at + s) x y
behind_line far_at at l s h x y p = record {
  far_first = omega (arith, p.far_first);
  first = omega (arith, p.first);
  no_farther = omega (arith, h, p.no_farther);
}

label_here : (line : Line) (far_at at : ℕ) → Pairs (IsAhead far_at at) (label_at line far_at) (label_at line at)
label_here Label far_at at = (record { far_last = omega arith; last = omega arith; no_farther = omega arith }, tt)
label_here (Single ins) far_at at = tt
label_here (Addressed upper lower kind item) far_at at = tt
label_here (Branch condition left right label) far_at at = tt
label_here (Jump label) far_at at = tt

label_gone : (line : Line) (far_at at : ℕ) → Pairs (IsBehind far_at at) (label_at line far_at) (label_at line at)
label_gone Label far_at at = (record { far_first = omega arith; first = omega arith; no_farther = omega arith }, tt)
label_gone (Single ins) far_at at = tt
label_gone (Addressed upper lower kind item) far_at at = tt
label_gone (Branch condition left right label) far_at at = tt
label_gone (Jump label) far_at at = tt

-- the labels from a line on
ahead : (far : List ℕ) (far_at at : ℕ) (lines : List Line)
    → Pairs (IsAhead far_at at) (far_places far_at lines) (places_from far far_at at lines)
ahead far far_at at [] = tt
ahead far far_at at (line ∷ lines) =
    joined (IsAhead far_at at) (label_at line far_at) (label_at line at)
    (far_places (far_at + longest line) lines)
    (places_from far (far_at + longest line) (at + size far far_at line) lines)
    (label_here line far_at at)
    (mapped (IsAhead (far_at + longest line) (at + size far far_at line)) (IsAhead far_at at)
    (ahead_of_line far_at at (longest line) (size far far_at line) (no_longer far far_at line))
    (far_places (far_at + longest line) lines)
    (places_from far (far_at + longest line) (at + size far far_at line) lines)
    (ahead far (far_at + longest line) (at + size far far_at line) lines))

-- The places of all labels where lines from one on are left: those in front of it, and those from it on.
pub record Stands (far places : List ℕ) (far_at at : ℕ) (lines : List Line) : Type 0 where
  pub far_done : List ℕ
  pub done : List ℕ
  pub all_far : far ≡ far_done ++ far_places far_at lines
  pub all : places ≡ done ++ places_from far far_at at lines
  pub behind : Pairs (IsBehind far_at at) far_done done
  pub no_farther : at ≤ far_at

pub begins : (far places : List ℕ) (lines : List Line) → far ≡ far_places 0 lines → places ≡ places_from far 0 0 lines
    → Stands far places 0 0 lines
begins far places lines e e' = record {
  far_done = [];
  done = [];
  all_far = e;
  all = e';
  behind = tt;
  no_farther = omega arith;
}

append_one : {X : Type 0} (xs ys zs : List X) → (xs ++ ys) ++ zs ≡ xs ++ (ys ++ zs)
append_one [] ys zs = refl
append_one (x ∷ xs) ys zs = ap (λ rest. x ∷ rest) (append_one xs ys zs)

pub goes_on : (far places : List ℕ) (far_at at : ℕ) (line : Line) (lines : List Line)
    → Stands far places far_at at (line ∷ lines)
    → Stands far places (far_at + longest line) (at + size far far_at line) lines
goes_on far places far_at at line lines s =
    let l : ℕ = longest line in
    let n : ℕ = size far far_at line in
    let h : n ≤ l = no_longer far far_at line in record {
      far_done = s.far_done ++ label_at line far_at;
      done = s.done ++ label_at line at;
      all_far = s.all_far ∙ sym (append_one s.far_done (label_at line far_at) (far_places (far_at + l) lines));
      all = s.all ∙ sym (append_one s.done (label_at line at) (places_from far (far_at + l) (at + n) lines));
      behind = mapped (IsBehind far_at at) (IsBehind (far_at + l) (at + n)) (behind_line far_at at l n h)
          (s.far_done ++ label_at line far_at) (s.done ++ label_at line at)
          (joined (IsBehind far_at at) s.far_done s.done (label_at line far_at) (label_at line at) s.behind
          (label_gone line far_at at));
      no_farther = omega (arith, h, s.no_farther);
    }

-- all labels are in step with the line
pub in_step : (far places : List ℕ) (far_at at : ℕ) (lines : List Line) → Stands far places far_at at lines
    → (label : ℕ) → IsInStep far_at at (place_in far label) (place_in places label)
in_step far places far_at at lines s label =
    let first : Pairs (IsInStep far_at at) s.far_done s.done =
    mapped (IsBehind far_at at) (IsInStep far_at at) (λ x y p. inl p) s.far_done s.done s.behind in
    let rest : Pairs (IsInStep far_at at) (far_places far_at lines) (places_from far far_at at lines) =
    mapped (IsAhead far_at at) (IsInStep far_at at) (λ x y p. inr p)
    (far_places far_at lines) (places_from far far_at at lines) (ahead far far_at at lines) in
    let whole = joined (IsInStep far_at at) s.far_done s.done (far_places far_at lines)
    (places_from far far_at at lines) first rest in
    let none : IsInStep far_at at 0 0 =
    inl (record { far_first = omega arith; first = omega arith; no_farther = omega (arith, s.no_farther) }) in
    let all : Pairs (IsInStep far_at at) far places =
    subst (λ xs. Pairs (IsInStep far_at at) xs places) (sym s.all_far)
    (subst (λ ys. Pairs (IsInStep far_at at) (s.far_done ++ far_places far_at lines) ys) (sym s.all) whole) in
    looked_up (IsInStep far_at at) none far places all label

-- the places of all labels are at most so far
at_most : (far : List ℕ) (far_at at b : ℕ) (lines : List Line) → at + 3 * length lines ≤ b
    → Pairs (λ x y. y ≤ b) (far_places far_at lines) (places_from far far_at at lines)
at_most far far_at at b [] h = tt
at_most far far_at at b (line ∷ lines) h =
    let l : ℕ = longest line in
    let n : ℕ = size far far_at line in
    let few : n ≤ 3 = at_most_three far far_at line in
    joined (λ x y. y ≤ b) (label_at line far_at) (label_at line at) (far_places (far_at + l) lines)
    (places_from far (far_at + l) (at + n) lines) (label_below line far_at at b (omega (arith, h)))
    (at_most far (far_at + l) (at + n) b lines (omega (arith, h, few)))

pub low : (far places : List ℕ) (lines : List Line) → far ≡ far_places 0 lines → places ≡ places_from far 0 0 lines
    → length lines ≤ 134217728 → (label : ℕ) → place_in places label < 536870912
low far places lines e e' few label =
    let all = at_most far 0 0 402653184 lines (omega (arith, few)) in
    let same : Pairs (λ x y. y ≤ 402653184) far places =
    subst (λ xs. Pairs (λ x y. y ≤ 402653184) xs places) (sym e)
    (subst (λ ys. Pairs (λ x y. y ≤ 402653184) (far_places 0 lines) ys) (sym e') all) in
    let here : place_in places label ≤ 402653184 =
    looked_up (λ x y. y ≤ 402653184) (omega arith) far places same label in
    omega (arith, here)

-- and so what is close in the longest form is close
pub close : (limit far_at at far place : ℕ) → IsInStep far_at at far place → far_at < far + limit → far < far_at + limit
    → (at < place + limit) × (place < at + limit)
close limit far_at at far place (inl p) h h' =
    (omega (arith, h, h', p.no_farther, p.first, p.far_first), omega (arith, h, h', p.no_farther, p.first, p.far_first))
close limit far_at at far place (inr p) h h' =
    (omega (arith, h, h', p.no_farther, p.last, p.far_last), omega (arith, h, h', p.no_farther, p.last, p.far_last))

-- ---- lines that are dropped one by one

dropped : (i : ℕ) (line : Line) (lines : List Line) → i < length lines → line ≡ get_or lines i line
    → drop i lines ≡ line ∷ drop (i + 1) lines
dropped i line lines h is = drop_more lines i line h ∙ ap (λ x. x ∷ drop (i + 1) lines) (sym is)

pub stands_on : (far places : List ℕ) (far_at at i l n : ℕ) (line : Line) (lines : List Line)
    → i < length lines → line ≡ get_or lines i line → l ≡ longest line → n ≡ size far far_at line
    → Stands far places far_at at (drop i lines) → Stands far places (far_at + l) (at + n) (drop (i + 1) lines)
stands_on far places far_at at i l n line lines h is e e' s =
    let here : Stands far places far_at at (line ∷ drop (i + 1) lines) =
    subst (Stands far places far_at at) (dropped i line lines h is) s in
    let next : Stands far places (far_at + longest line) (at + size far far_at line) (drop (i + 1) lines) =
    goes_on far places far_at at line (drop (i + 1) lines) here in
    subst (λ m. Stands far places (far_at + m) (at + n) (drop (i + 1) lines)) (sym e)
    (subst (λ m. Stands far places (far_at + longest line) (at + m) (drop (i + 1) lines)) (sym e') next)

pub code_on : (far places : List ℕ) (far_at at i l n : ℕ) (line : Line) (lines : List Line)
    (whole code code' : List Ins)
    → i < length lines → line ≡ get_or lines i line → l ≡ longest line → n ≡ size far far_at line
    → code' ≡ code ++ line_code far places far_at at line
    → whole ≡ code ++ code_from far places far_at at (drop i lines)
    → whole ≡ code' ++ code_from far places (far_at + l) (at + n) (drop (i + 1) lines)
code_on far places far_at at i l n line lines whole code code' h is e e' next w =
    let rest : List Ins = code_from far places (far_at + longest line) (at + size far far_at line)
    (drop (i + 1) lines) in
    w ∙ ap (λ xs. code ++ code_from far places far_at at xs) (dropped i line lines h is)
    ∙ sym (append_one code (line_code far places far_at at line) rest) ∙ ap (λ xs. xs ++ rest) (sym next)
    ∙ ap (λ m. code' ++ code_from far places (far_at + m) (at + size far far_at line) (drop (i + 1) lines)) (sym e)
    ∙ ap (λ m. code' ++ code_from far places (far_at + l) (at + m) (drop (i + 1) lines)) (sym e')

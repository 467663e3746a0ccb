-- Texts one behind another: with a plus between types and those around them, and with commas between types.
use Rattle.std.proofs.Common.{◌≡◌, ◌∙◌, ◌++◌, ◌∷◌, [], ℕ, zero, suc, true, false, cond, List, length, map}
use Rattle.std.proofs.Common.{ap, sym, append_assoc, arith, codes, drop, get_or, nat_eq, eq-eqb, ne_eqb, ◌<◌, ◌+◌}
use Rattle.std.proofs.lemmas.List.{append-nil, drop_more, length-append}
use Rattle.std.specs.List.{flat_map}
use Rattle.ty_names.specs.TypeTexts.{in_encloser}
use Rattle.ty_load.specs.Texts.{listed_texts}

-- ---- a type in the one around it

pub in_front : (front nested own plus more : List ℕ)
    → plus ≡ cond (nat_eq (length (front ++ nested)) (length front)) (front ++ nested) ((front ++ nested) ++ codes "+")
    → more ≡ plus ++ own → more ≡ front ++ in_encloser nested own
in_front front [] own plus more h pushed =
    let same : nat_eq (length (front ++ [])) (length front) ≡ true =
    eq-eqb (length (front ++ [])) (length front) (ap length (append-nil front)) in
    pushed
    ∙ ap (λ (l : List ℕ). l ++ own)
    (h ∙ ap (λ b. cond b (front ++ []) ((front ++ []) ++ codes "+")) same ∙ append-nil front)
in_front front (byte ∷ rest) own plus more h pushed =
    let longer : nat_eq (length (front ++ byte ∷ rest)) (length front) ≡ false =
    ne_eqb (length (front ++ byte ∷ rest)) (length front)
    (λ e. omega (arith, length-append front (byte ∷ rest), e)) in
    pushed
    ∙ ap (λ (l : List ℕ). l ++ own)
    (h ∙ ap (λ b. cond b (front ++ byte ∷ rest) ((front ++ byte ∷ rest) ++ codes "+")) longer)
    ∙ ap (λ (l : List ℕ). l ++ own) (append_assoc front (byte ∷ rest) (codes "+"))
    ∙ append_assoc front (byte ∷ rest ++ codes "+") own

-- ---- commas

abbrev pub behind_commas : List (List ℕ) → List ℕ
behind_commas = flat_map (λ text. codes "," ++ text)

pub listed_first : (text : List ℕ) (texts : List (List ℕ)) → listed_texts (text ∷ texts) ≡ text ++ behind_commas texts
listed_first text [] = sym (append-nil text)
listed_first text (next ∷ rest) =
    ap (λ (l : List ℕ). (text ++ codes ",") ++ l) (listed_first next rest)
    ∙ append_assoc text (codes ",") (next ++ behind_commas rest)

-- what is still to be written behind so many texts
abbrev pub still_listed : ℕ → List (List ℕ) → List ℕ
still_listed zero texts = listed_texts texts
still_listed (suc n) texts = behind_commas texts

-- one text more
pub one_listed : {A : Type 0} (f : A → List ℕ) (types : List A) (i : ℕ) (x : A) (whole front mid new : List ℕ)
    → i < length types → x ≡ get_or types i x → whole ≡ front ++ still_listed i (map f (drop i types))
    → mid ≡ cond (nat_eq i 0) front (front ++ codes ",") → new ≡ mid ++ f x
    → whole ≡ new ++ still_listed (i + 1) (map f (drop (i + 1) types))
one_listed f types zero x whole front mid new h is so_far comma pushed =
    let rest : List (List ℕ) = map f (drop 1 types) in
    so_far
    ∙ ap (λ l. front ++ listed_texts (map f l)) (drop_more types 0 x h)
    ∙ ap (λ y. front ++ listed_texts (f y ∷ rest)) (sym is)
    ∙ ap (λ (l : List ℕ). front ++ l) (listed_first (f x) rest)
    ∙ sym (append_assoc front (f x) (behind_commas rest))
    ∙ ap (λ (l : List ℕ). l ++ behind_commas rest) (ap (λ (l : List ℕ). l ++ f x) (sym comma) ∙ sym pushed)
one_listed f types (suc n) x whole front mid new h is so_far comma pushed =
    let next : suc n + 1 ≡ suc (suc n) = omega arith in
    let rest : List (List ℕ) = map f (drop (suc n + 1) types) in
    let some : nat_eq (suc n) 0 ≡ false = ne_eqb (suc n) 0 (λ e. omega (arith, e)) in
    let with : mid ≡ front ++ codes "," = comma ∙ ap (λ b. cond b front (front ++ codes ",")) some in
    so_far
    ∙ ap (λ l. front ++ behind_commas (map f l)) (drop_more types (suc n) x h)
    ∙ ap (λ y. front ++ behind_commas (f y ∷ rest)) (sym is)
    ∙ sym (append_assoc front (codes "," ++ f x) (behind_commas rest))
    ∙ ap (λ (l : List ℕ). l ++ behind_commas rest)
    (sym (append_assoc front (codes ",") (f x)) ∙ ap (λ (l : List ℕ). l ++ f x) (sym with) ∙ sym pushed)
    ∙ ap (λ m. new ++ still_listed m rest) (sym next)

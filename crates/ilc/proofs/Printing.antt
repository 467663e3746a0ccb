-- What two writes in a row add.
use Rattle.std.proofs.Common.{◌≡◌, ◌∙◌, ℕ, ◌+◌, ◌<◌, List, [], ◌∷◌, ◌++◌, length, take, drop, Option, Some, None}
use Rattle.std.proofs.Common.{Result, Ok, Err, refl, ap, sym, append_assoc, OnErr, OnOk, IfOk, subst, suc, map, get_or}
use Rattle.std.proofs.Common.{drop-cons, codes}
use Rattle.std.proofs.lemmas.Grind.{flat_map-append}
use Rattle.std.proofs.lemmas.List.{take-append-drop, append-nil}
use Rattle.std.proofs.Math.Seq.{take-add}
use Rattle.std.specs.List.{flat_map}
use Rattle.std.specs.Option.{option_map}
use Rattle.ilc.specs.Printed.{Adds, AddsFront}

-- what holds holds of an error
pub on_err : {T E P : Type 0} (r : Result T E) → P → OnErr r P
on_err (Ok x) p = tt
on_err (Err e) p = p

added_twice : (held : Option (List ℕ)) (a b : List ℕ)
    → option_map (λ bytes. bytes ++ b) (option_map (λ bytes. bytes ++ a) held) ≡ option_map
    (λ bytes. bytes ++ (a ++ b)) held
added_twice None a b = refl
added_twice (Some bytes) a b = ap Some (append_assoc bytes a b)

pub adds_more : (a b : List ℕ) (old mid new : Option (List ℕ)) → Adds a old mid → Adds b mid new → Adds (a ++ b) old new
adds_more a b old mid new p q = q ∙ (ap (option_map (λ bytes. bytes ++ b)) p ∙ added_twice old a b)

pub adds_then_front : (a b : List ℕ) (old mid new : Option (List ℕ)) → Adds a old mid → AddsFront b mid new
    → AddsFront (a ++ b) old new
adds_then_front a b old mid new p f =
    record {
      front = a ++ f.front;
      rest = f.rest;
      whole = ap (λ bytes. a ++ bytes) f.whole ∙ sym (append_assoc a f.front f.rest);
      added = adds_more a f.front old mid new p f.added;
    }

pub front_of_more : (a b : List ℕ) (old new : Option (List ℕ)) → AddsFront a old new → AddsFront (a ++ b) old new
front_of_more a b old new f =
    record {
      front = f.front;
      rest = f.rest ++ b;
      whole = ap (λ bytes. bytes ++ b) f.whole ∙ append_assoc f.front f.rest b;
      added = f.added;
    }

-- a refused write leaves the first bytes
pub front_taken : (n : ℕ) (bytes : List ℕ) (old mid new : Option (List ℕ)) → Adds (take n bytes) old mid → new ≡ mid
    → AddsFront bytes old new
front_taken n bytes old mid new p same =
    record { front = take n bytes; rest = drop n bytes; whole = sym (take-append-drop n bytes); added = same ∙ p }

pub adds_next : (n k : ℕ) (bytes : List ℕ) (old mid new : Option (List ℕ)) → Adds (take n bytes) old mid
    → Adds (take k (drop n bytes)) mid new → Adds (take (n + k) bytes) old new
adds_next n k bytes old mid new p q = subst (λ front. Adds front old new) (sym (take-add n k bytes))
    (adds_more (take n bytes) (take k (drop n bytes)) old mid new p q)

-- the same bytes in other words
pub printed_as : {T E : Type 0} (r : Result T E) (pieces line : List ℕ) (old new : Option (List ℕ)) → pieces ≡ line
    → OnOk r (Adds pieces old new) → OnOk r (Adds line old new)
printed_as r pieces line old new e h = subst (λ bytes. OnOk r (Adds bytes old new)) e h

-- the pieces up to one, the piece, and those behind it
pub pieces-split : {X : Type 0} (f : X → List ℕ) (xs : List X) (i : ℕ) (d : X) → i < length xs
    → flat_map f xs ≡ flat_map f (take i xs) ++ (f (get_or xs i d) ++ flat_map f (drop (suc i) xs))
pieces-split f xs i d h =
    ap (flat_map f) (sym (take-append-drop i xs))
    ∙ (flat_map-append f (take i xs) (drop i xs)
    ∙ ap (λ ys. flat_map f (take i xs) ++ flat_map f ys) (drop-cons xs i d h))

pub breaks_off : {X : Type 0} (f : X → List ℕ) (xs : List X) (i : ℕ) (d : X) (old mid new : Option (List ℕ))
    → i < length xs → Adds (flat_map f (take i xs)) old mid → AddsFront (f (get_or xs i d)) mid new
    → AddsFront (flat_map f xs) old new
breaks_off f xs i d old mid new h p q =
    subst (λ bytes. AddsFront bytes old new) (sym (pieces-split f xs i d h))
    (adds_then_front (flat_map f (take i xs)) _ old mid new p
    (front_of_more (f (get_or xs i d)) (flat_map f (drop (suc i) xs)) mid new q))

-- what holds of an answer holds of the value in it
pub if_ok_at : {T E : Type 0} (r : Result T E) (x : T) (P : T → Type 0) → r ≡ Ok x → IfOk r P → P x
if_ok_at r x P e h = subst (λ s. IfOk s P) e h

-- a line with two parts that are known by equations
pub four_parts : (head a a' b b' : List ℕ) → a ≡ a' → b ≡ b'
    → flat_map (λ part. part) (head ∷ a ∷ codes " " ∷ b ∷ codes "\n" ∷ []) ≡ flat_map (λ part. part)
    (head ∷ a' ∷ codes " " ∷ b' ∷ codes "\n" ∷ [])
four_parts head a a' b b' e f =
    ap (λ x. flat_map (λ part. part) (head ∷ x ∷ codes " " ∷ b ∷ codes "\n" ∷ [])) e
    ∙ ap (λ x. flat_map (λ part. part) (head ∷ a' ∷ codes " " ∷ x ∷ codes "\n" ∷ [])) f

pub begun_as : {T E : Type 0} (r : Result T E) (pieces line : List ℕ) (old new : Option (List ℕ)) → pieces ≡ line
    → OnErr r (AddsFront pieces old new) → OnErr r (AddsFront line old new)
begun_as r pieces line old new e h = subst (λ bytes. OnErr r (AddsFront bytes old new)) e h

-- ---- a line in parts

pub on_ok : {T E : Type 0} {P Q : Type 0} (r : Result T E) → (P → Q) → OnOk r P → OnOk r Q
on_ok (Ok x) f p = f p
on_ok (Err e) f p = tt

pub in_err : {T E : Type 0} {P Q : Type 0} (r : Result T E) → (P → Q) → OnErr r P → OnErr r Q
in_err (Ok x) f p = tt
in_err (Err e) f p = f p

-- the first part broke off
pub breaks_first : {T E : Type 0} (r : Result T E) (line a rest : List ℕ) (old new : Option (List ℕ))
    → line ≡ a ++ rest → AddsFront a old new → OnErr r (AddsFront line old new)
breaks_first r line a rest old new e f =
    on_err r (subst (λ l. AddsFront l old new) (sym e) (front_of_more a rest old new f))

-- the second part broke off
pub breaks_second : {T E : Type 0} (r : Result T E) (line a b rest : List ℕ) (old mid new : Option (List ℕ))
    → line ≡ a ++ (b ++ rest) → Adds a old mid → AddsFront b mid new → OnErr r (AddsFront line old new)
breaks_second r line a b rest old mid new e p f =
    on_err r (subst (λ l. AddsFront l old new) (sym e)
    (adds_then_front a (b ++ rest) old mid new p (front_of_more b rest mid new f)))

-- the last of two parts broke off, if it did
pub breaks_last : {T E : Type 0} (r : Result T E) (line a b : List ℕ) (old mid new : Option (List ℕ))
    → line ≡ a ++ b → Adds a old mid → OnErr r (AddsFront b mid new) → OnErr r (AddsFront line old new)
breaks_last r line a b old mid new e p h =
    in_err r (λ f. subst (λ l. AddsFront l old new) (sym e) (adds_then_front a b old mid new p f)) h

pub prints_last : {T E : Type 0} (r : Result T E) (line a b : List ℕ) (old mid new : Option (List ℕ))
    → line ≡ a ++ b → Adds a old mid → OnOk r (Adds b mid new) → OnOk r (Adds line old new)
prints_last r line a b old mid new e p h =
    on_ok r (λ q. subst (λ l. Adds l old new) (sym e) (adds_more a b old mid new p q)) h

-- the words of a line
pub flat_map-map : {X Y : Type 0} (f : Y → List ℕ) (g : X → Y) (xs : List X)
    → flat_map f (map g xs) ≡ flat_map (λ x. f (g x)) xs
flat_map-map f g [] = refl
flat_map-map f g (x ∷ xs) = ap (λ l. f (g x) ++ l) (flat_map-map f g xs)

-- the parts of the line of a refusal: its number and name, its fields, and the end
pub refusal_parts : (n name w : List ℕ)
    → codes "ilc:" ++ (((codes " " ++ n) ++ ((codes " " ++ name) ++ w)) ++ codes "\n")
    ≡ (codes "ilc: " ++ (n ++ (codes " " ++ (name ++ [])))) ++ (w ++ codes "\n")
refusal_parts n name w =
    ap (λ l. codes "ilc: " ++ l)
    (append_assoc n (codes " " ++ (name ++ w)) (codes "\n")
    ∙ (ap (λ l. n ++ (codes " " ++ l)) (append_assoc name w (codes "\n"))
    ∙ (sym (append_assoc n (codes " " ++ name) (w ++ codes "\n"))
    ∙ ap (λ m. (n ++ (codes " " ++ m)) ++ (w ++ codes "\n")) (sym (append-nil name)))))

-- The bytes of a name are read one behind another.
use Rattle.std.proofs.Common.{◌≡◌, ◌∙◌, ℕ, suc, ◌<◌, ◌≤◌, Bool, true, false, cond, List, [], ◌∷◌, ◌++◌}
use Rattle.std.proofs.Common.{length, drop, Option, Some, None, refl, ap, sym, append_assoc, bytes_eq, option_map}
use Rattle.std.proofs.lemmas.Bool.{le-leb, lt-leb}
use Rattle.std.proofs.lemmas.List.{append-nil}
use Rattle.il_text.specs.Values.{name_byte_in, name_on, name_from}

-- bytes in front of those of a name
abbrev pub named : List ℕ → Option (List ℕ) → Option (List ℕ)
named done found = option_map (λ (bytes : List ℕ). done ++ bytes) found

pub nothing_named : (found : Option (List ℕ)) → found ≡ named [] found
nothing_named None = refl
nothing_named (Some bytes) = refl

more_named : (done : List ℕ) (byte : ℕ) (found : Option (List ℕ))
    → named done (option_map (λ bytes. byte ∷ bytes) found) ≡ named (done ++ byte ∷ []) found
more_named done byte None = refl
more_named done byte (Some bytes) = ap Some (sym (append_assoc done (byte ∷ []) bytes))

-- what is left is longer than a quote
longer : (most : ℕ) (word : List ℕ) → 1 < length word
    → name_from (suc most) word ≡ name_on (name_from most) word (name_byte_in word)
longer most word more =
    ap (λ t. cond t (cond (bytes_eq word (34 ∷ [])) (Some []) None) (name_on (name_from most) word (name_byte_in word)))
    (lt-leb (length word) 1 more)

pub byte_on : (left most byte size : ℕ) (done rest : List ℕ) (all : Option (List ℕ)) → left ≡ suc most
    → 1 < length rest → Some (byte, size) ≡ name_byte_in rest → all ≡ named done (name_from left rest)
    → all ≡ named (done ++ byte ∷ []) (name_from most (drop size rest))
byte_on left most byte size done rest all one more is so_far =
    so_far
    ∙ ap (λ n. named done (name_from n rest)) one
    ∙ ap (named done) (longer most rest more)
    ∙ ap (λ o. named done (name_on (name_from most) rest o)) (sym is)
    ∙ more_named done byte (name_from most (drop size rest))

pub byte_bad : (left most : ℕ) (done rest : List ℕ) (all : Option (List ℕ)) → left ≡ suc most
    → 1 < length rest → None ≡ name_byte_in rest → all ≡ named done (name_from left rest) → all ≡ None
byte_bad left most done rest all one more is so_far =
    so_far
    ∙ ap (λ n. named done (name_from n rest)) one
    ∙ ap (named done) (longer most rest more)
    ∙ ap (λ o. named done (name_on (name_from most) rest o)) (sym is)

quote_by : (t : Bool) (done : List ℕ) → named done (cond t (Some []) None) ≡ cond t (Some done) None
quote_by true done = ap Some (append-nil done)
quote_by false done = refl

pub at_quote : (left most : ℕ) (done rest : List ℕ) (all : Option (List ℕ)) → left ≡ suc most
    → length rest ≤ 1 → all ≡ named done (name_from left rest)
    → all ≡ cond (bytes_eq rest (34 ∷ [])) (Some done) None
at_quote left most done rest all one few so_far =
    so_far
    ∙ ap (λ n. named done (name_from n rest)) one
    ∙ ap (λ t. named done (cond t (cond (bytes_eq rest (34 ∷ [])) (Some []) None)
    (name_on (name_from most) rest (name_byte_in rest)))) (le-leb (length rest) 1 few)
    ∙ quote_by (bytes_eq rest (34 ∷ [])) done

pub none_left : (left : ℕ) (done rest : List ℕ) (all : Option (List ℕ)) → left ≡ 0
    → all ≡ named done (name_from left rest) → all ≡ None
none_left left done rest all none so_far = so_far ∙ ap (λ n. named done (name_from n rest)) none

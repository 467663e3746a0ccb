-- Words one by one, each of a legal instruction.
use Rattle.std.proofs.Common.{◌≡◌, ◌∙◌, ℕ, ◌+◌, ◌<◌, List, [], ◌∷◌, ◌++◌, All, refl, ap, sym, subst, take, length}
use Rattle.std.proofs.Common.{map, get_or}
use Rattle.std.proofs.lemmas.List.{take_more}
use Rattle.std.proofs.lemmas.List.Elements.{All-push}
use Rattle.rv_isa.specs.declared.ins.Ins.{Ins}
use Rattle.rv_isa.specs.Instructions.{word_of}

taken : (code : List Ins) (i : ℕ) (ins : Ins) → i < length code → ins ≡ get_or code i ins
    → take i code ++ ins ∷ [] ≡ take (i + 1) code
taken code i ins h is = ap (λ x. take i code ++ x ∷ []) is ∙ sym (take_more code i ins h)

map_push : (xs : List Ins) (ins : Ins) → map word_of (xs ++ ins ∷ []) ≡ map word_of xs ++ word_of ins ∷ []
map_push [] ins = refl
map_push (x ∷ xs) ins = ap (λ rest. word_of x ∷ rest) (map_push xs ins)

pub words_on : (code : List Ins) (i : ℕ) (ins : Ins) (word : ℕ) (words words' : List ℕ)
    → i < length code → ins ≡ get_or code i ins → word ≡ word_of ins → words ≡ map word_of (take i code)
    → words' ≡ words ++ word ∷ [] → words' ≡ map word_of (take (i + 1) code)
words_on code i ins word words words' h is w before next =
    next ∙ ap (λ xs. xs ++ word ∷ []) before ∙ ap (λ n. map word_of (take i code) ++ n ∷ []) w
    ∙ sym (map_push (take i code) ins) ∙ ap (map word_of) (taken code i ins h is)

pub all_on : (P : Ins → Type 0) (code : List Ins) (i : ℕ) (ins : Ins) → i < length code → ins ≡ get_or code i ins
    → All P (take i code) → P ins → All P (take (i + 1) code)
all_on P code i ins h is before here =
    subst (All P) (taken code i ins h is) (All-push P (take i code) ins before here)

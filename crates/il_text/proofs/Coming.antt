-- The text of instructions that are read one behind another.
use Rattle.std.proofs.Common.{◌≡◌, ◌∙◌, ℕ, zero, suc, List, [], ◌++◌, length, map, Option, Some, None}
use Rattle.std.proofs.Common.{Result, Ok, Err, refl, ap, sym, cond, eq-eqb, ne_eqb, append_assoc, ◌≢◌}
use Rattle.std.proofs.lemmas.List.{append-nil}
use Rattle.il_code.specs.Instructions.{instruction_at}
use Rattle.il_code.specs.Listing.{listed_from, listed_at, in_front}
use Rattle.il_code.specs.declared.body.Instr.{Instr}
use Rattle.il_text.specs.Words.{line_text, text_of}
use Rattle.il_text.specs.Listing.{instruction_line, instructions_text}

-- a text in front of another, if there is another
abbrev pub text_in_front : List ℕ → Option (List ℕ) → Option (List ℕ)
text_in_front done None = None
text_in_front done (Some text) = Some (done ++ text)

one_in_front : (code : List ℕ) (done : List ℕ) (i : Instr) (rest : Result (List Instr) ℕ)
    → text_in_front done (instructions_text code (in_front i rest))
    ≡ text_in_front (done ++ line_text (instruction_line code i)) (instructions_text code rest)
one_in_front code done i (Ok instrs) =
    ap Some
    (sym (append_assoc done (line_text (instruction_line code i)) (text_of (map (instruction_line code) instrs))))
one_in_front code done i (Err offset) = refl

-- what is left, behind an offset that isn't the end
next_one : (code : List ℕ) (left at : ℕ) (done : List ℕ) (o : Option Instr) (whole : Option (List ℕ))
    → at ≢ length code → o ≡ instruction_at code at
    → whole ≡ text_in_front done (instructions_text code (listed_from (suc left) code at))
    → whole ≡ text_in_front done (instructions_text code (listed_at (listed_from left code) at o))
next_one code left at done o whole inside stands h =
    let rest : Result (List Instr) ℕ = listed_at (listed_from left code) at (instruction_at code at) in
    h
    ∙ ap (λ b. text_in_front done (instructions_text code (cond b (Ok []) rest))) (ne_eqb at (length code) inside)
    ∙ ap (λ o. text_in_front done (instructions_text code (listed_at (listed_from left code) at o))) (sym stands)

-- an instruction more
pub goes_on : (code : List ℕ) (left at : ℕ) (done : List ℕ) (o : Option Instr) (i : Instr) (whole : Option (List ℕ))
    → at ≢ length code → o ≡ instruction_at code at → o ≡ Some i
    → whole ≡ text_in_front done (instructions_text code (listed_from (suc left) code at))
    → whole ≡ text_in_front (done ++ line_text (instruction_line code i))
    (instructions_text code (listed_from left code i.next))
goes_on code left at done o i whole inside stands found h =
    next_one code left at done o whole inside stands h
    ∙ ap (λ o. text_in_front done (instructions_text code (listed_at (listed_from left code) at o))) found
    ∙ one_in_front code done i (listed_from left code i.next)

-- none stands there
pub none_stands : (code : List ℕ) (left at : ℕ) (done : List ℕ) (o : Option Instr) (whole : Option (List ℕ))
    → at ≢ length code → o ≡ instruction_at code at → o ≡ None
    → whole ≡ text_in_front done (instructions_text code (listed_from (suc left) code at)) → whole ≡ None
none_stands code left at done o whole inside stands found h =
    next_one code left at done o whole inside stands h
    ∙ ap (λ o. text_in_front done (instructions_text code (listed_at (listed_from left code) at o))) found

ends : (code : List ℕ) (left at : ℕ) → at ≡ length code → listed_from left code at ≡ Ok []
ends code zero at end = ap (λ b. cond b (Ok []) (Err at)) (eq-eqb at (length code) end)
ends code (suc left) at end =
    ap (λ b. cond b (Ok []) (listed_at (listed_from left code) at (instruction_at code at)))
    (eq-eqb at (length code) end)

-- the end of the code
pub at_end : (code : List ℕ) (left at : ℕ) (done : List ℕ) (whole : Option (List ℕ)) → at ≡ length code
    → whole ≡ text_in_front done (instructions_text code (listed_from left code at)) → whole ≡ Some done
at_end code left at done whole end h =
    h ∙ ap (λ rest. text_in_front done (instructions_text code rest)) (ends code left at end)
    ∙ ap Some (append-nil done)

-- nothing is left to look at
pub none_left : (code : List ℕ) (left at : ℕ) (done : List ℕ) (whole : Option (List ℕ)) → left ≡ 0 → at ≢ length code
    → whole ≡ text_in_front done (instructions_text code (listed_from left code at)) → whole ≡ None
none_left code left at done whole none inside h =
    h ∙ ap (λ left. text_in_front done (instructions_text code (listed_from left code at))) none
    ∙ ap (λ b. text_in_front done (instructions_text code (cond {A = Result (List Instr) ℕ} b (Ok []) (Err at))))
    (ne_eqb at (length code) inside)

-- Lines end at bytes 10.
use Rattle.std.proofs.Common.{◌≡◌, ◌∙◌, ℕ, suc, ◌+◌, ◌<◌, Bool, true, false, cond, not, nat_eq, nat_lt, List, [], ◌∷◌}
use Rattle.std.proofs.Common.{◌++◌, length, take, drop, Option, Some, None, Result, Ok, Err, refl, ap, sym, arith}
use Rattle.std.proofs.Common.{append_assoc, inl, inr, lt-ltb, ◌≤◌}
use Rattle.std.specs.List.{position, position_or_len}
use Rattle.std.proofs.lemmas.Bool.{ltb-true, ltb-false, le-ltb}
use Rattle.std.proofs.lemmas.List.{append-nil}
use Rattle.il_text.specs.declared.draft.Draft.{Draft}
use Rattle.il_text.specs.declared.fault.IlTextFault.{IlTextFault}
use Rattle.il_text.specs.Reading.{LinesRead, read_last, read_from, with_line, line_of, ◌>>=◌, Refuses, if_whole}

abbrev is_end : ℕ → Bool
is_end byte = nat_eq byte 10

-- what is read from a line on, of which the front was read, by where it ends
abbrev pub by_end : Draft → ℕ → List ℕ → List ℕ → Option ℕ → Result LinesRead IlTextFault
by_end draft number front text None = read_last draft number (front ++ text)
by_end draft number front text (Some n) =
    with_line draft (line_of number (front ++ take n text))
    >>= (λ next. read_from next (number + 1) [] (drop (n + 1) text))

-- one byte more in front
one_more : (found : Bool) (draft : Draft) (number byte n : ℕ) (front text : List ℕ)
    → by_end draft number (front ++ byte ∷ []) text (cond found (Some n) None)
    ≡ by_end draft number front (byte ∷ text) (cond found (Some (1 + n)) None)
one_more false draft number byte n front text = ap (read_last draft number) (append_assoc front (byte ∷ []) text)
one_more true draft number byte n front text =
    let up : 1 + n ≡ suc n = omega arith in
    let over : 1 + n + 1 ≡ suc (n + 1) = omega arith in
    ap (λ l. with_line draft (line_of number l) >>= (λ next. read_from next (number + 1) [] (drop (n + 1) text)))
    (append_assoc front (byte ∷ []) (take n text))
    ∙ sym (ap (λ k. with_line draft (line_of number (front ++ take k (byte ∷ text)))
    >>= (λ next. read_from next (number + 1) [] (drop (n + 1) text))) up)
    ∙ sym (ap (λ k. with_line draft (line_of number (front ++ take (1 + n) (byte ∷ text)))
    >>= (λ next. read_from next (number + 1) [] (drop k (byte ∷ text)))) over)

less_by : (t : Bool) (n m : ℕ) → nat_lt n m ≡ t → t ≡ nat_lt (1 + n) (suc m)
less_by true n m is = let less : n < m = ltb-true n m is in sym (lt-ltb (1 + n) (suc m) (omega arith))
less_by false n m is = let more : m ≤ n = ltb-false n m is in sym (le-ltb (1 + n) (suc m) (omega arith))

less_more : (n m : ℕ) → nat_lt n m ≡ nat_lt (1 + n) (suc m)
less_more n m = less_by (nat_lt n m) n m refl

-- the place of the first byte 10, by whether the first byte is one
abbrev place_by : Bool → ℕ → ℕ → Option ℕ
place_by first n size = cond (nat_lt (cond (not first) (1 + n) 0) (suc size)) (Some (cond (not first) (1 + n) 0)) None

ends_by : (first : Bool) (draft : Draft) (number byte : ℕ) (front text : List ℕ) → nat_eq byte 10 ≡ first
    → read_from draft number (front ++ byte ∷ []) text
    ≡ by_end draft number (front ++ byte ∷ []) text (position is_end text)
    → cond first (with_line draft (line_of number front) >>= (λ next. read_from next (number + 1) [] text))
    (read_from draft number (front ++ byte ∷ []) text)
    ≡ by_end draft number front (byte ∷ text) (place_by first (position_or_len is_end text) (length text))
ends_by true draft number byte front text is more =
    ap (λ l. with_line draft (line_of number l) >>= (λ next. read_from next (number + 1) [] text))
    (sym (append-nil front))
    ∙ ap (λ b. by_end draft number front (byte ∷ text) (cond b (Some 0) None))
    (sym (lt-ltb 0 (suc (length text)) (omega arith)))
ends_by false draft number byte front text is more =
    more
    ∙ one_more (nat_lt (position_or_len is_end text) (length text)) draft number byte (position_or_len is_end text)
    front text
    ∙ ap (λ b. by_end draft number front (byte ∷ text) (cond b (Some (1 + position_or_len is_end text)) None))
    (less_more (position_or_len is_end text) (length text))

-- a text is read by where its first line ends
pub ends : (text front : List ℕ) (draft : Draft) (number : ℕ)
    → read_from draft number front text ≡ by_end draft number front text (position is_end text)
ends [] front draft number =
    ap (read_last draft number) (sym (append-nil front))
ends (byte ∷ text) front draft number =
    ends_by (nat_eq byte 10) draft number byte front text refl (ends text (front ++ byte ∷ []) draft number)

-- one line more
pub line_on : (draft next : Draft) (number n : ℕ) (text : List ℕ) (all : Result LinesRead IlTextFault)
    → Some n ≡ position is_end text → with_line draft (line_of number (take n text)) ≡ Ok next
    → all ≡ read_from draft number [] text → all ≡ read_from next (number + 1) [] (drop (n + 1) text)
line_on draft next number n text all place is so_far =
    so_far
    ∙ ends text [] draft number
    ∙ ap (by_end draft number [] text) (sym place)
    ∙ ap (λ r. r >>= (λ next. read_from next (number + 1) [] (drop (n + 1) text))) is

-- a line that can't go on
pub line_bad : (draft : Draft) (number n : ℕ) (text : List ℕ) (fault : IlTextFault) (all : Result LinesRead IlTextFault)
    → Some n ≡ position is_end text → Refuses (with_line draft (line_of number (take n text))) fault
    → all ≡ read_from draft number [] text → Refuses (all >>= if_whole) fault
line_bad draft number n text fault all place (inl none) so_far = inl none
line_bad draft number n text fault all place (inr bad) so_far =
    let same : all ≡ Err fault = so_far
    ∙ ends text [] draft number
    ∙ ap (by_end draft number [] text) (sym place)
    ∙ ap (λ r. r >>= (λ next. read_from next (number + 1) [] (drop (n + 1) text))) bad in
    inr (ap (λ r. r >>= if_whole) same)

-- no line is left
pub no_line : (draft : Draft) (number : ℕ) (text : List ℕ) (all : Result LinesRead IlTextFault)
    → None ≡ position is_end text → all ≡ read_from draft number [] text → all ≡ read_last draft number text
no_line draft number text all place so_far =
    so_far ∙ ends text [] draft number ∙ ap (by_end draft number [] text) (sym place)

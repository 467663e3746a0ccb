-- A line that is written is read as its words, and a text of lines line by line.
use Rattle.std.proofs.Common.{◌≡◌, ◌∙◌, ℕ, zero, suc, ◌+◌, ◌-◌, ◌<◌, Bool, true, false, cond, not, nat_eq, nat_lt}
use Rattle.std.proofs.Common.{◌&&◌, List, [], ◌∷◌, ◌++◌, length, take, drop, slice_get, Option, Some, option_map}
use Rattle.std.proofs.Common.{Result, Ok, refl, ap, sym, arith, append_assoc, length-append, lt-ltb, ne_eqb, ltb-true}
use Rattle.std.proofs.Common.{bytes_eq, option_and_then}
use Rattle.std.proofs.lemmas.Bool.{and_parts, not-true, le-ltb}
use Rattle.std.proofs.lemmas.List.{append-nil, drop_at, take_at}
use Rattle.std.proofs.lemmas.List.Concat.{flat_map-append}
use Rattle.std.specs.List.{list_all, flat_map}
use Rattle.hex.specs.Hex.{IsBytes}
use Rattle.il_text.specs.declared.draft.Draft.{Draft}
use Rattle.il_text.specs.declared.fault.IlTextFault.{IlTextFault}
use Rattle.il_text.specs.declared.line.Span.{Span}
use Rattle.il_text.specs.Words.{spaced, line_text, text_of, bytes_word}
use Rattle.il_text.specs.Listing.{bytes_line}
use Rattle.il_text.specs.Lines.{LineParts, span, begun, comment, begins_with_slash, words_from, words_of, word_at}
use Rattle.il_text.specs.Values.{bytes_in}
use Rattle.il_text.specs.Reading.{◌>>=◌, bad, or_bad, read, ends, are_these, is_word, keyword, bytes_behind}
use Rattle.il_text.specs.Reading.{with_line, with_words, line_of, read_from, LinesRead}
use Rattle.il_text.proofs.ReadBackValues.{bytes_back}

-- ---- what stands inside of words

-- a byte that parts no words and begins no comment and no quotes, nor ends a line
abbrev pub is_inner : ℕ → Bool
is_inner byte = nat_lt 34 byte && not (nat_eq byte 47)

-- a byte that doesn't end a line
abbrev pub is_in_line : ℕ → Bool
is_in_line byte = not (nat_eq byte 10)

-- a byte that ends no quotes
abbrev pub is_quoted : ℕ → Bool
is_quoted byte = not (nat_eq byte 34)

goes_past : (space slash more quote : Bool) (x y : List Span) (next : Bool → List Span) → space ≡ false → slash ≡ false
    → quote ≡ false → cond space x (cond (slash && more) y (next quote)) ≡ next false
goes_past space slash more quote x y next e f g =
    ap (λ space. cond space x (cond (slash && more) y (next quote))) e
    ∙ ap (λ slash. cond (slash && more) y (next quote)) f ∙ ap next g

inner_step : (byte : ℕ) (rest : List ℕ) (begin at : ℕ) → is_inner byte ≡ true
    → words_from false begin at (byte ∷ rest) ≡ words_from false begin (at + 1) rest
inner_step byte rest begin at inner =
    let marks = and_parts (nat_lt 34 byte) (not (nat_eq byte 47)) inner in
    let high : 34 < byte = ltb-true 34 byte marks.0 in
    goes_past (nat_eq byte 32) (nat_eq byte 47) (begins_with_slash rest) (nat_eq byte 34)
    (begun begin at ++ words_from false (at + 1) (at + 1) rest) (begun begin at ++ comment at (byte ∷ rest))
    (λ quoted. words_from quoted begin (at + 1) rest)
    (ne_eqb byte 32 (λ same. omega (arith, high, same))) (not-true (nat_eq byte 47) marks.1)
    (ne_eqb byte 34 (λ same. omega (arith, high, same)))

inner_passes : (word : List ℕ) → list_all is_inner word ≡ true → (begin at : ℕ) (rest : List ℕ)
    → words_from false begin at (word ++ rest) ≡ words_from false begin (at + length word) rest
inner_passes [] all begin at rest = ap (λ n. words_from false begin n rest) (omega arith)
inner_passes (byte ∷ word) all begin at rest =
    let parts = and_parts (is_inner byte) (list_all is_inner word) all in
    inner_step byte (word ++ rest) begin at parts.0 ∙ inner_passes word parts.1 begin (at + 1) rest
    ∙ ap (λ n. words_from false begin n rest) (omega arith)

quoted_passes : (text : List ℕ) → list_all is_quoted text ≡ true → (begin at : ℕ) (rest : List ℕ)
    → words_from true begin at (text ++ rest) ≡ words_from true begin (at + length text) rest
quoted_passes [] all begin at rest = ap (λ n. words_from true begin n rest) (omega arith)
quoted_passes (byte ∷ text) all begin at rest =
    let parts = and_parts (is_quoted byte) (list_all is_quoted text) all in
    ap (λ quoted. words_from quoted begin (at + 1) (text ++ rest)) parts.0
    ∙ quoted_passes text parts.1 begin (at + 1) rest ∙ ap (λ n. words_from true begin n rest) (omega arith)

-- ---- words

-- Bytes that stand on a line as one word.
pub record IsWord (word : List ℕ) : Type 0 where
  pub passes : (begin at : ℕ) (rest : List ℕ)
      → words_from false begin at (word ++ rest) ≡ words_from false begin (at + length word) rest
  pub some : 0 < length word
  pub inside : list_all is_in_line word ≡ true

weaker : (strong weak : ℕ → Bool) → ((byte : ℕ) → strong byte ≡ true → weak byte ≡ true) → (bytes : List ℕ)
    → list_all strong bytes ≡ true → list_all weak bytes ≡ true
weaker strong weak by [] all = refl
weaker strong weak by (byte ∷ bytes) all =
    let parts = and_parts (strong byte) (list_all strong bytes) all in
    ap (λ b. b && list_all weak bytes) (by byte parts.0) ∙ weaker strong weak by bytes parts.1

inner_in_line : (byte : ℕ) → is_inner byte ≡ true → is_in_line byte ≡ true
inner_in_line byte inner =
    let high : 34 < byte = ltb-true 34 byte (and_parts (nat_lt 34 byte) (not (nat_eq byte 47)) inner).0 in
    ap not (ne_eqb byte 10 (λ same. omega (arith, high, same)))

pub inner_word : (word : List ℕ) → 0 < length word → list_all is_inner word ≡ true → IsWord word
inner_word word some all =
    record { passes = inner_passes word all; some = some; inside = weaker is_inner is_in_line inner_in_line word all }

quotes_pass : (text : List ℕ) → list_all is_quoted text ≡ true → (begin at : ℕ) (rest : List ℕ)
    → words_from false begin at ((34 ∷ text ++ 34 ∷ []) ++ rest)
    ≡ words_from false begin (at + length (34 ∷ text ++ 34 ∷ [])) rest
quotes_pass text all begin at rest =
    ap (words_from true begin (at + 1)) (append_assoc text (34 ∷ []) rest)
    ∙ quoted_passes text all begin (at + 1) (34 ∷ rest)
    ∙ ap (λ n. words_from false begin n rest) (omega (arith, length-append text (34 ∷ [])))

in_line_quotes : (text : List ℕ) → list_all is_in_line text ≡ true → list_all is_in_line (text ++ 34 ∷ []) ≡ true
in_line_quotes [] all = refl
in_line_quotes (byte ∷ text) all =
    let parts = and_parts (is_in_line byte) (list_all is_in_line text) all in
    ap (λ b. b && list_all is_in_line (text ++ 34 ∷ [])) parts.0 ∙ in_line_quotes text parts.1

pub quoted_word : (text : List ℕ) → list_all is_quoted text ≡ true → list_all is_in_line text ≡ true
    → IsWord (34 ∷ text ++ 34 ∷ [])
quoted_word text all inside =
    record { passes = quotes_pass text all; some = omega arith; inside = in_line_quotes text inside }

abbrev pub AreWords : List (List ℕ) → Type 0
AreWords [] = Unit {0}
AreWords (word ∷ words) = IsWord word × AreWords words

-- ---- the words of a line

-- where words stand that are parted by one space each, the first of them at a place
abbrev pub spans_at : ℕ → List (List ℕ) → List Span
spans_at at [] = []
spans_at at (word ∷ words) = span at (at + length word) ∷ spans_at (at + length word + 1) words

-- a line, without the byte 10 behind it
abbrev pub line_bytes : List (List ℕ) → List ℕ
line_bytes [] = []
line_bytes (word ∷ words) = word ++ flat_map spaced words

begun_one : (at size : ℕ) → 0 < size → begun at (at + size) ≡ span at (at + size) ∷ []
begun_one at size some = ap (λ b. cond b (span at (at + size) ∷ []) []) (lt-ltb at (at + size) (omega arith))

spans_behind : (words : List (List ℕ)) → AreWords words → (begin at : ℕ)
    → words_from false begin at (flat_map spaced words) ≡ begun begin at ++ spans_at (at + 1) words
spans_behind [] are begin at = sym (append-nil (begun begin at))
spans_behind (word ∷ words) are begin at =
    ap (λ spans. begun begin at ++ spans)
    (are.0.passes (at + 1) (at + 1) (flat_map spaced words)
    ∙ spans_behind words are.1 (at + 1) (at + 1 + length word)
    ∙ ap (λ first. first ++ spans_at (at + 1 + length word + 1) words) (begun_one (at + 1) (length word) are.0.some))

words_of_line : (words : List (List ℕ)) → AreWords words → words_of (line_bytes words) ≡ spans_at 0 words
words_of_line [] are = refl
words_of_line (word ∷ words) are =
    are.0.passes 0 0 (flat_map spaced words) ∙ spans_behind words are.1 0 (0 + length word)
    ∙ ap (λ first. first ++ spans_at (0 + length word + 1) words) (begun_one 0 (length word) are.0.some)

abbrev word_in : List ℕ → Span → List ℕ
word_in bytes place = take (place.to - place.from) (drop place.from bytes)

apart : (front word rest : List ℕ) → front ++ (word ++ 32 ∷ rest) ≡ (front ++ (word ++ 32 ∷ [])) ++ rest
apart front word rest =
    sym (append_assoc front (word ++ 32 ∷ []) rest ∙ ap (λ t. front ++ t) (append_assoc word (32 ∷ []) rest))

words_at : (words : List (List ℕ)) (front : List ℕ) (at index : ℕ) → length front ≡ at
    → option_map (word_in (front ++ line_bytes words)) (slice_get (spans_at at words) index) ≡ slice_get words index
words_at [] front at index size = refl
words_at (word ∷ words) front at zero size =
    ap (λ bytes. Some (take (at + length word - at) bytes)) (drop_at front (word ++ flat_map spaced words) at size)
    ∙ ap (λ n. Some (take n (word ++ flat_map spaced words))) (omega arith)
    ∙ ap Some (take_at word (flat_map spaced words) (length word) refl)
words_at (word ∷ []) front at (suc index) size = refl
words_at (word ∷ next ∷ words) front at (suc index) size =
    ap (λ bytes. option_map (word_in bytes) (slice_get (spans_at (at + length word + 1) (next ∷ words)) index))
    (apart front word (line_bytes (next ∷ words)))
    ∙ words_at (next ∷ words) (front ++ (word ++ 32 ∷ [])) (at + length word + 1) index
    (omega (arith, size, length-append front (word ++ 32 ∷ []), length-append word (32 ∷ [])))

length-spans : (at : ℕ) (words : List (List ℕ)) → length (spans_at at words) ≡ length words
length-spans at [] = refl
length-spans at (word ∷ words) = ap suc (length-spans (at + length word + 1) words)

-- What a line says: these words, one after another.
pub record Says (line : LineParts) (words : List (List ℕ)) : Type 0 where
  pub word : (index : ℕ) → word_at line index ≡ slice_get words index
  pub count : length line.words ≡ length words

pub says : (number : ℕ) (words : List (List ℕ)) → AreWords words → Says (line_of number (line_bytes words)) words
says number words are =
    let spans : words_of (line_bytes words) ≡ spans_at 0 words = words_of_line words are in
    record {
      word = λ index. ap (λ found. option_map (word_in (line_bytes words)) (slice_get found index)) spans
          ∙ words_at words [] 0 index refl;
      count = ap length spans ∙ length-spans 0 words;
    }

-- ---- the lines of a text

read_line : (line : List ℕ) → list_all is_in_line line ≡ true → (draft : Draft) (number : ℕ) (front rest : List ℕ)
    → read_from draft number front (line ++ 10 ∷ rest)
    ≡ (with_line draft (line_of number (front ++ line)) >>= (λ next. read_from next (number + 1) [] rest))
read_line [] all draft number front rest =
    ap (λ line. with_line draft (line_of number line) >>= (λ next. read_from next (number + 1) [] rest))
    (sym (append-nil front))
read_line (byte ∷ line) all draft number front rest =
    let parts = and_parts (is_in_line byte) (list_all is_in_line line) all in
    let goes : Draft → Result LinesRead IlTextFault = λ next. read_from next (number + 1) [] (line ++ 10 ∷ rest) in
    ap (λ b. cond b (with_line draft (line_of number front) >>= goes)
    (read_from draft number (front ++ byte ∷ []) (line ++ 10 ∷ rest))) (not-true (nat_eq byte 10) parts.0)
    ∙ read_line line parts.1 draft number (front ++ byte ∷ []) rest
    ∙ ap (λ line. with_line draft (line_of number line) >>= (λ next. read_from next (number + 1) [] rest))
    (append_assoc front (byte ∷ []) line)

-- Lines that are read, the first of them under a number, lead from what was read before to what was read with them.
pub record Leads (draft : Draft) (number : ℕ) (lines : List (List (List ℕ))) (next : Draft) : Type 0 where
  pub reads : (rest : List ℕ)
      → read_from draft number [] (text_of lines ++ rest) ≡ read_from next (number + length lines) [] rest

in_line_words : (words : List (List ℕ)) → AreWords words → list_all is_in_line (flat_map spaced words) ≡ true
in_line_words [] are = refl
in_line_words (word ∷ words) are = in_line_both word (flat_map spaced words) are.0.inside (in_line_words words are.1)
  where
    in_line_both : (xs ys : List ℕ) → list_all is_in_line xs ≡ true → list_all is_in_line ys ≡ true
        → list_all is_in_line (xs ++ ys) ≡ true
    in_line_both [] ys e f = f
    in_line_both (x ∷ xs) ys e f =
        let parts = and_parts (is_in_line x) (list_all is_in_line xs) e in
        ap (λ b. b && list_all is_in_line (xs ++ ys)) parts.0 ∙ in_line_both xs ys parts.1 f

in_line : (words : List (List ℕ)) → AreWords words → list_all is_in_line (line_bytes words) ≡ true
in_line [] are = refl
in_line (word ∷ words) are = in_line_words (word ∷ words) are

ended : (words : List (List ℕ)) → line_text words ≡ line_bytes words ++ 10 ∷ []
ended [] = refl
ended (word ∷ words) = sym (append_assoc word (flat_map spaced words) (10 ∷ []))

one_text : (words : List (List ℕ)) (rest : List ℕ) → text_of (words ∷ []) ++ rest ≡ line_bytes words ++ 10 ∷ rest
one_text words rest =
    ap (λ text. text ++ rest) (append-nil (line_text words) ∙ ended words)
    ∙ append_assoc (line_bytes words) (10 ∷ []) rest

pub one_line : (draft next : Draft) (number : ℕ) (words : List (List ℕ)) → AreWords words
    → with_line draft (line_of number (line_bytes words)) ≡ Ok next → Leads draft number (words ∷ []) next
one_line draft next number words are step = record {
  reads = λ rest.
      ap (read_from draft number []) (one_text words rest)
      ∙ read_line (line_bytes words) (in_line words are) draft number [] rest
      ∙ ap (λ found. found >>= (λ next. read_from next (number + 1) [] rest)) step;
}

pub no_line : (draft : Draft) (number : ℕ) → Leads draft number [] draft
no_line draft number = record { reads = λ rest. ap (λ n. read_from draft n [] rest) (omega arith) }

pub both_lines : (draft mid next : Draft) (number : ℕ) (xs ys : List (List (List ℕ))) → Leads draft number xs mid
    → Leads mid (number + length xs) ys next → Leads draft number (xs ++ ys) next
both_lines draft mid next number xs ys first second = record {
  reads = λ rest.
      ap (λ text. read_from draft number [] (text ++ rest)) (flat_map-append line_text xs ys)
      ∙ ap (read_from draft number []) (append_assoc (text_of xs) (text_of ys) rest)
      ∙ first.reads (text_of ys ++ rest) ∙ second.reads rest
      ∙ ap (λ n. read_from next n [] rest) (omega (arith, length-append xs ys));
}

-- ---- the words that a line is to have

pub bound : {A B : Type 0} (r : Result A IlTextFault) (value : A) (next : A → Result B IlTextFault)
    (end : Result B IlTextFault) → r ≡ Ok value → next value ≡ end → (r >>= next) ≡ end
bound r value next end e f = ap (λ r. r >>= next) e ∙ f

pub worded : (draft : Draft) (line : LineParts) (words : List (List ℕ)) → Says line words → 0 < length words
    → with_line draft line ≡ with_words draft line
worded draft line words s some =
    let count : length line.words ≡ length words = s.count in
    ap (λ b. cond b (Ok draft) (with_words draft line))
    (ne_eqb (length line.words) 0 (λ none. omega (arith, none, some, count)))

pub first_is : (bytes word : List ℕ) (words : List (List ℕ)) (line : LineParts) → Says line (word ∷ words)
    → is_word bytes line 0 ≡ bytes_eq word bytes
first_is bytes word words line s = ap (are_these bytes) (s.word 0)

pub keyed : (bytes word : List ℕ) (words : List (List ℕ)) (line : LineParts) → Says line (word ∷ words)
    → bytes_eq word bytes ≡ true → keyword bytes line ≡ Ok tt
keyed bytes word words line s same =
    ap (λ b. cond {A = Result (Unit {0}) IlTextFault} b (Ok tt) (bad line 0))
    (first_is bytes word words line s ∙ same)

pub read_at : {A : Type 0} (value : List ℕ → Option A) (line : LineParts) (words : List (List ℕ)) (index : ℕ)
    (word : List ℕ) (found : A) → Says line words → slice_get words index ≡ Some word → value word ≡ Some found
    → read value line index ≡ Ok found
read_at value line words index word found s there is =
    ap (λ o. or_bad line index (option_and_then value o)) (s.word index ∙ there) ∙ ap (or_bad line index) is

pub ended_at : (line : LineParts) (words : List (List ℕ)) (index : ℕ) → Says line words → length words ≡ index
    → ends line index ≡ Ok tt
ended_at line words index s size =
    ap (λ b. cond {A = Result (Unit {0}) IlTextFault} b (bad line index) (Ok tt))
    (le-ltb index (length line.words) (omega (arith, size, s.count)))

pub bytes_line_read : (word bytes : List ℕ) (line : LineParts) → IsBytes bytes → Says line (bytes_line word bytes)
    → bytes_eq word word ≡ true → bytes_behind word line ≡ Ok bytes
bytes_line_read word bytes line fit s same =
    let words : List (List ℕ) = bytes_line word bytes in
    bound (keyword word line) tt (λ named. read bytes_in line 1 >>= (λ bytes. ends line 2 >>= (λ done. Ok bytes)))
    (Ok bytes) (keyed word word (bytes_word bytes ∷ []) line s same)
    (bound (read bytes_in line 1) bytes (λ bytes. ends line 2 >>= (λ done. Ok bytes)) (Ok bytes)
    (read_at bytes_in line words 1 (bytes_word bytes) bytes s refl (bytes_back bytes fit))
    (ap (λ r. r >>= (λ done. Ok bytes)) (ended_at line words 2 s refl)))

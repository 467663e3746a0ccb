-- The lines of a text and their words.
use Rattle.std.specs.Prelude.{ℕ, ◌+◌, ◌-◌, Bool, true, false, not, ◌&&◌, ◌==◌, nat_lt, if◌then◌else◌, List, [], ◌∷◌}
use Rattle.std.specs.Prelude.{◌++◌, length, take, drop, slice_get, Option, Some, None}
use Rattle.std.specs.List.{list_all}
use Rattle.std.specs.Option.{option_map}
use Rattle.il_text.specs.declared.line.Span.{Span}
use Rattle.il_text.specs.declared.line.Line.{Line}

-- a word stands from one place of its line to another
abbrev pub span : ℕ → ℕ → Span
span from to = record { from = from; to = to }

-- what was read of a word, if anything was
abbrev pub begun : ℕ → ℕ → List Span
begun from at = if nat_lt from at then span from at ∷ [] else []

-- what begins with two slashes is dropped if it is ASCII; otherwise it is a word, which can stand nowhere
abbrev pub comment : ℕ → List ℕ → List Span
comment at bytes = if list_all (λ byte. nat_lt byte 128) bytes then [] else span at (at + length bytes) ∷ []

abbrev pub begins_with_slash : List ℕ → Bool
begins_with_slash [] = false
begins_with_slash (byte ∷ bytes) = byte == 47

-- The words of the rest of a line, which stands from a place on. What was read of a word begins at `from`. Spaces (32)
-- part words, and two slashes (47) begin a comment, but between quotes (34) they are bytes like others.
abbrev pub words_from : Bool → ℕ → ℕ → List ℕ → List Span
words_from quoted from at [] = begun from at
words_from true from at (byte ∷ rest) = words_from (not (byte == 34)) from (at + 1) rest
words_from false from at (byte ∷ rest) =
    if byte == 32 then begun from at ++ words_from false (at + 1) (at + 1) rest
    else if byte == 47 && begins_with_slash rest then begun from at ++ comment at (byte ∷ rest)
    else words_from (byte == 34) from (at + 1) rest

-- the words of a line
abbrev pub words_of : List ℕ → List Span
words_of bytes = words_from false 0 0 bytes

-- A line: its number, counted from 1, its bytes without the byte 10 behind them, and its words
pub record LineParts : Type 0 where
  pub number : ℕ
  pub bytes : List ℕ
  pub words : List Span

-- the word of a number, counted from 0
abbrev pub word_at : LineParts → ℕ → Option (List ℕ)
word_at line index =
    option_map (λ (span : Span). take (span.to - span.from) (drop span.from line.bytes)) (slice_get line.words index)

abbrev pub begin_or : ℕ → Option Span → ℕ
begin_or end None = end
begin_or end (Some span) = span.from

-- the column of a word, counted from 1, or the one past the line's last byte where the word is missing
abbrev pub column_of : LineParts → ℕ → ℕ
column_of line index = begin_or (length line.bytes) (slice_get line.words index) + 1

-- what a line of the code says
abbrev pub parts_of : Line → LineParts
parts_of line = record { number = line.number; bytes = line.bytes.now; words = line.words.now }

-- How the values of a module are spelled as words, and words as lines.
use Rattle.std.specs.Prelude.{ℕ, Bool, ◌==◌, ◌&&◌, not, nat_le, if◌then◌else◌, List, [], ◌∷◌, ◌++◌, codes, decimal}
use Rattle.std.specs.List.{flat_map}
use Rattle.byteorder.specs.Endian.{big_bytes}
use Rattle.hex.specs.Hex.{encode_upper}

-- bytes: `x` and two digits for each
abbrev pub bytes_word : List ℕ → List ℕ
bytes_word bytes = codes "x" ++ encode_upper bytes

-- a byte that stands for itself in a name: a printable one, but for the quote (34) and the backslash (92)
abbrev pub is_plain : ℕ → Bool
is_plain byte = (nat_le 0x20 byte && nat_le byte 0x7E) && (not (byte == 34) && not (byte == 92))

-- a byte of a name: any other than these is a backslash and its two digits
abbrev pub name_byte : ℕ → List ℕ
name_byte byte = if is_plain byte then byte ∷ [] else 92 ∷ encode_upper (byte ∷ [])

-- a name, in double quotes
abbrev pub name_word : List ℕ → List ℕ
name_word text = 34 ∷ flat_map name_byte text ++ 34 ∷ []

-- a token: `#` and eight digits
abbrev pub token_word : ℕ → List ℕ
token_word token = codes "#" ++ encode_upper (big_bytes 4 token)

-- the number of a table: two digits
abbrev pub table_word : ℕ → List ℕ
table_word table = encode_upper (table ∷ [])

-- a row of a table: the table, a colon and the row
abbrev pub row_word : ℕ → ℕ → List ℕ
row_word table row = table_word table ++ (codes ":" ++ decimal row)

-- a word behind another on its line
abbrev pub spaced : List ℕ → List ℕ
spaced word = 32 ∷ word

-- the end of a line, with the words that are left of it
abbrev pub line_rest : List (List ℕ) → List ℕ
line_rest words = flat_map spaced words ++ 10 ∷ []

-- a line of words with single spaces between them
abbrev pub line_text : List (List ℕ) → List ℕ
line_text [] = line_rest []
line_text (word ∷ words) = word ++ line_rest words

-- lines, one behind another
abbrev pub text_of : List (List (List ℕ)) → List ℕ
text_of lines = flat_map line_text lines

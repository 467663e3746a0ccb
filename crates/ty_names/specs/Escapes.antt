-- Names as they are printed: by the units of UTF-16, and those that have a meaning in texts as `\uXXXX`.
use Rattle.std.specs.Prelude.{ℕ, ◌+◌, ◌-◌, ◌/◌, ◌%◌, ◌==◌, ◌&&◌, ◌++◌, nat_lt, Bool, false, not, if◌then◌else◌, List}
use Rattle.std.specs.Prelude.{[], ◌∷◌, codes}
use Rattle.std.specs.Prelude.{length, take, slice_get, Option, Some, None}
use Rattle.std.specs.List.{list_any, flat_map}
use Rattle.std.specs.Char.Escape.{encode_utf16}
use Rattle.std.specs.Str.{chars}

abbrev pub units : List ℕ → List ℕ
units name = flat_map encode_utf16 (chars name)

-- an upper-case hexadecimal digit
abbrev pub hex_digit : ℕ → ℕ
hex_digit n = if nat_lt n 10 then 0x30 + n else 0x37 + n

-- `\u` and four hexadecimal digits
abbrev pub escaped : ℕ → List ℕ
escaped n =
    0x5C ∷ 0x75 ∷ hex_digit (n / 4096 % 16) ∷ hex_digit (n / 256 % 16) ∷ hex_digit (n / 16 % 16)
    ∷ hex_digit (n % 16) ∷ []

-- " # & ( ) + , : < > [ \ ]
abbrev pub has_meaning : ℕ → Bool
has_meaning unit =
    list_any (λ other. unit == other)
    (0x22 ∷ 0x23 ∷ 0x26 ∷ 0x28 ∷ 0x29 ∷ 0x2B ∷ 0x2C ∷ 0x3A ∷ 0x3C ∷ 0x3E ∷ 0x5B ∷ 0x5C ∷ 0x5D ∷ [])

-- what is printed and has no meaning stays as it is
abbrev pub is_plain : ℕ → Bool
is_plain unit = nat_lt 0x20 unit && nat_lt unit 0x7F && not (has_meaning unit)

abbrev pub unit_text : ℕ → List ℕ
unit_text unit = if is_plain unit then unit ∷ [] else escaped unit

abbrev pub units_text : List ℕ → List ℕ
units_text = flat_map unit_text

-- behind a `<` at the begin of a name: the first `>` stays as it is
abbrev pub behind_angle : List ℕ → List ℕ
behind_angle [] = []
behind_angle (unit ∷ rest) = if unit == 0x3E then unit ∷ units_text rest else unit_text unit ++ behind_angle rest

abbrev pub name_units_text : List ℕ → List ℕ
name_units_text [] = []
name_units_text (unit ∷ rest) = if unit == 0x3C then unit ∷ behind_angle rest else units_text (unit ∷ rest)

-- the text of a name; a `<` at its begin and the first `>` behind that stay as they are
abbrev pub name_text : List ℕ → List ℕ
name_text name = name_units_text (units name)

abbrev pub is_dot : Option ℕ → Bool
is_dot None = false
is_dot (Some unit) = unit == 0x2E

-- the units of a type's name; a dot at its end is escaped
abbrev pub type_units_text : List ℕ → List ℕ
type_units_text units =
    if length units == 0 then escaped 0
    else if is_dot (slice_get units (length units - 1))
    then name_units_text (take (length units - 1) units) ++ escaped 0x2E
    else name_units_text units

-- The text of the name of a type: an empty one is `\u0000`, and a dot at its end `\u002E`, so that it shows where a
-- namespace ends.
abbrev pub type_name_text : List ℕ → List ℕ
type_name_text name = type_units_text (units name)

-- a namespace, if there is one, and the name of a type in it
abbrev pub qualified_text : List ℕ → List ℕ → List ℕ
qualified_text [] name = type_name_text name
qualified_text (byte ∷ rest) name = name_text (byte ∷ rest) ++ codes "." ++ type_name_text name

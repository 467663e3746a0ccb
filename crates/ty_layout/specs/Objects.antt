-- How many bytes objects, value types, vectors and strings take, and where their fields lie.
use Rattle.std.specs.Prelude.{ℕ, ◌+◌, ◌*◌, max, List, [], ◌∷◌, ◌++◌}
use Rattle.std.specs.Int.{next_multiple_of}
use Rattle.ty_layout.specs.declared.field.Field.{Field}
use Rattle.ty_layout.specs.declared.laid.Laid.{Laid}
use Rattle.ty_layout.specs.Fields.{places, end_of, alignment_of}

-- the places of the fields of classes, the topmost base first; each class's part is rounded up to 8
abbrev pub parts_places : ℕ → List (List Field) → List ℕ
parts_places at [] = []
parts_places at (part ∷ rest) = places at part ++ parts_places (next_multiple_of (end_of at part) 8) rest

-- the place behind the last part
abbrev pub parts_end : ℕ → List (List Field) → ℕ
parts_end at [] = at
parts_end at (part ∷ rest) = parts_end (next_multiple_of (end_of at part) 8) rest

-- an object: a type word of 8 bytes, then the parts of its classes
abbrev pub object : List (List Field) → Laid
object parts = record { places = parts_places 8 parts; size = parts_end 8 parts }

-- A value type: its fields from 0, and at least one byte and as many as are asked for, rounded up to its alignment.
abbrev pub value_type : ℕ → List Field → Laid
value_type least fields =
    record {
      places = places 0 fields;
      size = next_multiple_of (max (max (end_of 0 fields) least) 1) (alignment_of fields);
    }

-- a boxed value: a type word and the value
abbrev pub boxed_bytes : ℕ → ℕ
boxed_bytes value = next_multiple_of (8 + value) 8

-- a vector: a type word, a length of 8 bytes and the elements
abbrev pub vector_bytes : ℕ → ℕ → ℕ
vector_bytes length element = next_multiple_of (16 + length * element) 8

-- a string: a type word, a length of 4 bytes and units of 2 bytes
abbrev pub string_bytes : ℕ → ℕ
string_bytes length = next_multiple_of (12 + 2 * length) 8

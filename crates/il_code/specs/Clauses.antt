-- The exception handling clauses of a method body: ECMA-335 II.25.4.5, II.25.4.6 and I.12.4.2.
use Rattle.std.specs.Prelude.{ℕ, zero, suc, ◌+◌, ◌*◌, ◌/◌, ◌%◌, ◌==◌, Bool, ◌&&◌, ◌||◌, not, nat_le}
use Rattle.std.specs.Prelude.{nat_lt, if◌then◌else◌, List, [], ◌∷◌, ◌++◌, length, map, take, drop, slice_index}
use Rattle.std.specs.Prelude.{Option, Some, None}
use Rattle.std.specs.List.{list_all, list_any, range_with_len, slice_range}
use Rattle.std.specs.Option.{option_map}
use Rattle.il_code.specs.Headers.{number_at, is_fat_section, has_more, section_size, section_end, aligned, code_end}
use Rattle.il_code.specs.Listing.{is_boundary}
use Rattle.il_code.specs.declared.body.Clause.{Clause}
use Rattle.il_code.specs.declared.body.ClauseKind.{ClauseKind}
use Rattle.il_code.specs.declared.body.ClauseKind.TheVariants.{Catch, Filter, Finally, Fault}
use Rattle.il_code.specs.declared.body.Instr.{Instr}
use Rattle.il_code.specs.declared.header.Header.{Header}
use Rattle.il_code.specs.declared.clause.Row.{Row}
use Rattle.il_code.specs.declared.clause.Span.{Span}

-- ---- rows

-- a clause of 12 bytes
abbrev pub small_row : List ℕ → ℕ → Row
small_row bytes at =
    record {
      flags = number_at bytes 2 at;
      try_at = number_at bytes 2 (at + 2);
      try_size = slice_index bytes (at + 4);
      handler_at = number_at bytes 2 (at + 5);
      handler_size = slice_index bytes (at + 7);
      class = number_at bytes 4 (at + 8);
    }

-- a clause of 24 bytes
abbrev pub fat_row : List ℕ → ℕ → Row
fat_row bytes at =
    record {
      flags = number_at bytes 4 at;
      try_at = number_at bytes 4 (at + 4);
      try_size = number_at bytes 4 (at + 8);
      handler_at = number_at bytes 4 (at + 12);
      handler_size = number_at bytes 4 (at + 16);
      class = number_at bytes 4 (at + 20);
    }

-- A whole table of clauses stands at a place: a section of kind 1, with a header and whole clauses. Behind the size of
-- a small one are two zero bytes.
abbrev pub is_table : List ℕ → ℕ → Bool
is_table bytes at =
    nat_le (section_end bytes at) (length bytes)
    && (slice_index bytes at % 0x40 == 1
    && (if is_fat_section bytes at then section_size bytes at % 24 == 4
    else section_size bytes at % 12 == 4 && number_at bytes 2 (at + 2) == 0))

-- the clauses of the table at a place
abbrev pub rows_at : List ℕ → ℕ → List Row
rows_at bytes at =
    if is_fat_section bytes at
    then map (λ k. fat_row bytes (at + 4 + 24 * k)) (range_with_len 0 (section_size bytes at / 24))
    else map (λ k. small_row bytes (at + 4 + 12 * k)) (range_with_len 0 (section_size bytes at / 12))

-- the bytes from a place up to another are zero
abbrev pub is_filler : List ℕ → ℕ → ℕ → Bool
is_filler bytes from to = list_all (λ byte. byte == 0) (slice_range bytes from to)

-- a table stands behind what ends at a place: at the next multiple of 4, with zeros up to there
abbrev pub has_table : List ℕ → ℕ → Bool
has_table bytes end = is_filler bytes end (aligned end) && is_table bytes (aligned end)

-- the clauses of the sections behind what ends at a place, of at most so many, if each of them is a table
abbrev pub rows_from : ℕ → List ℕ → ℕ → Option (List Row)
rows_from zero bytes end = None
rows_from (suc most) bytes end =
    if has_table bytes end
    then if has_more bytes (aligned end)
    then option_map (λ rest. rows_at bytes (aligned end) ++ rest)
    (rows_from most bytes (section_end bytes (aligned end)))
    else Some (rows_at bytes (aligned end))
    else None

-- the clauses of a body, if each of its sections is a table
abbrev pub rows_of : List ℕ → Header → Option (List Row)
rows_of bytes header =
    if header.has_sections then rows_from (length bytes) bytes (code_end header) else Some []

-- ---- ranges

-- the offsets of the try range and of the handler
abbrev pub try_of : Row → Span
try_of row = record { from = row.try_at; to = row.try_at + row.try_size }

abbrev pub handler_of : Row → Span
handler_of row = record { from = row.handler_at; to = row.handler_at + row.handler_size }

-- one or more whole instructions: it begins with one, and ends where one begins or the code ends
abbrev pub is_whole : List Instr → ℕ → Span → Bool
is_whole instrs end span =
    (nat_lt span.from span.to && nat_le span.to end)
    && (is_boundary instrs span.from && (span.to == end || is_boundary instrs span.to))

-- the two share an offset
abbrev pub overlap : Span → Span → Bool
overlap a b = (nat_lt a.from a.to && nat_lt b.from b.to) && (nat_lt a.from b.to && nat_lt b.from a.to)

abbrev pub are_equal : Span → Span → Bool
are_equal a b = a.from == b.from && a.to == b.to

-- the first lies within the second and is smaller
abbrev pub is_smaller : Span → Span → Bool
is_smaller a b = (nat_le b.from a.from && nat_le a.to b.to) && not (are_equal a b)

-- the two overlap, and neither lies within the other and is smaller
abbrev pub clash : Span → Span → Bool
clash a b = overlap a b && not (is_smaller a b || is_smaller b a)

-- a range of the one clause may not stand beside one of the other; two try ranges may be equal
abbrev pub conflict : Row → Row → Bool
conflict row other =
    ((clash (try_of row) (try_of other) && not (are_equal (try_of row) (try_of other)))
    || clash (try_of row) (handler_of other))
    || (clash (handler_of row) (try_of other) || clash (handler_of row) (handler_of other))

-- ---- bad clauses

-- the flags of a catch, a filter, a finally and a fault handler (II.25.4.6)
abbrev pub has_kind : Row → Bool
has_kind row = (row.flags == 0 || row.flags == 1) || (row.flags == 2 || row.flags == 4)

abbrev pub kind_of : Row → ClauseKind
kind_of row =
    if row.flags == 0 then Catch else if row.flags == 1 then Filter else if row.flags == 2 then Finally else Fault

-- a clause is well-formed by itself: a kind, and two ranges of whole instructions that don't overlap
abbrev pub is_sound : List Instr → ℕ → Row → Bool
is_sound instrs end row =
    (has_kind row && is_whole instrs end (try_of row))
    && (is_whole instrs end (handler_of row) && not (overlap (try_of row) (handler_of row)))

-- the clause of this number isn't well-formed, or has a conflict with one in front of it or behind it
abbrev pub is_bad : List Instr → ℕ → List Row → ℕ → Row → Bool
is_bad instrs end rows number row =
    not (is_sound instrs end row)
    || (list_any (conflict row) (take number rows) || list_any (conflict row) (drop (number + 1) rows))

-- the number of the first bad clause among those from a number on
abbrev pub bad_from : List Instr → ℕ → List Row → ℕ → List Row → Option ℕ
bad_from instrs end rows number [] = None
bad_from instrs end rows number (row ∷ rest) =
    if is_bad instrs end rows number row then Some number else bad_from instrs end rows (number + 1) rest

-- the number of the first bad clause of code that ends at an offset
abbrev pub first_bad_clause : List Instr → ℕ → List Row → Option ℕ
first_bad_clause instrs end rows = bad_from instrs end rows 0 rows

-- a clause that isn't bad, with the ends of its ranges
abbrev pub clause_of : Row → Clause
clause_of row =
    record {
      kind = kind_of row;
      try_at = row.try_at;
      try_end = row.try_at + row.try_size;
      handler_at = row.handler_at;
      handler_end = row.handler_at + row.handler_size;
      class = row.class;
    }

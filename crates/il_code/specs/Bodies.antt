-- What the bytes of a method body say, or their first fault: ECMA-335 II.25.4.
use Rattle.std.specs.Prelude.{◌≡◌, ℕ, ◌==◌, if◌then◌else◌, List, length, map, Option, Some, None}
use Rattle.std.specs.Prelude.{Result, Ok, Err, option_and_then}
use Rattle.il_code.specs.Clauses.{clause_of, first_bad_clause, rows_of}
use Rattle.il_code.specs.Headers.{body_end, code_of, header_of}
use Rattle.il_code.specs.Listing.{first_bad_target, listed}
use Rattle.il_code.specs.declared.body.Body.{Body}
use Rattle.il_code.specs.declared.body.Instr.{Instr}
use Rattle.il_code.specs.declared.clause.Row.{Row}
use Rattle.il_code.specs.declared.fault.BodyFault.{BodyFault}
use Rattle.il_code.specs.declared.fault.BodyFault.TheVariants.{BadHeader, BadOpcode, BadTarget, BadClause, Memory}
use Rattle.il_code.specs.declared.header.Header.{Header}

-- 12: the first bad clause of code whose targets are instructions
abbrev pub body_by_clauses : Header → List Instr → List Row → Option ℕ → Result Body BodyFault
body_by_clauses header instrs rows (Some number) = Err (BadClause number)
body_by_clauses header instrs rows None =
    Ok (record {
      max_stack = header.max_stack;
      locals = header.locals;
      code = instrs;
      clauses = map clause_of rows;
    })

-- 11: the first instruction that leads to where none stands
abbrev pub body_by_targets : Header → List Instr → List Row → Option ℕ → Result Body BodyFault
body_by_targets header instrs rows (Some offset) = Err (BadTarget offset)
body_by_targets header instrs rows None =
    body_by_clauses header instrs rows (first_bad_clause instrs header.code_size rows)

-- 10: the first offset of the code where no instruction stands whole
abbrev pub body_by_code : Header → List Row → Result (List Instr) ℕ → Result Body BodyFault
body_by_code header rows (Err offset) = Err (BadOpcode offset)
body_by_code header rows (Ok instrs) = body_by_targets header instrs rows (first_bad_target instrs)

-- 9: a section is wrong
abbrev pub body_by_rows : List ℕ → Header → Option (List Row) → Result Body BodyFault
body_by_rows bytes header None = Err (BadHeader (length bytes))
body_by_rows bytes header (Some rows) = body_by_code header rows (listed (code_of bytes header))

-- 9: the header is wrong, or bytes are missing or left over
abbrev pub body_by_header : List ℕ → Option Header → Result Body BodyFault
body_by_header bytes None = Err (BadHeader (length bytes))
body_by_header bytes (Some header) = body_by_rows bytes header (rows_of bytes header)

abbrev pub if_end : ℕ → Header → Option ℕ → Option Header
if_end end header None = None
if_end end header (Some place) = if place == end then Some header else None

-- the header of a body that ends where the bytes do
abbrev pub whole_header : List ℕ → Option Header
whole_header bytes = option_and_then (λ header. if_end (length bytes) header (body_end bytes header)) (header_of bytes)

-- The body that exactly these bytes are, or their first fault in the order 9, 10, 11, 12. A body is a header, its code
-- and sections that are tables of clauses. The code is instructions to its end, each of whose targets is one of them,
-- and no clause is bad.
abbrev pub body_of : List ℕ → Result Body BodyFault
body_of bytes = body_by_header bytes (whole_header bytes)

-- a fault is that of the reading; want of memory may come at any time
abbrev pub Refuses : Result Body BodyFault → BodyFault → Type 0
Refuses reading Memory = Unit {0}
Refuses reading fault = reading ≡ Err fault

-- a fault of the clauses tells the first bad one
abbrev pub IsFirstBad : Option ℕ → BodyFault → Type 0
IsFirstBad first (BadClause number) = first ≡ Some number
IsFirstBad first Memory = Unit {0}
IsFirstBad first _ = ⊥

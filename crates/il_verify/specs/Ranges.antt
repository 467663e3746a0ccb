-- The ranges of clauses, and the ways between them: ECMA-335 I.12.4.2.8, III.1.7.3, III.3.35, III.3.46.
use Rattle.std.specs.Prelude.{ℕ, ◌-◌, ◌==◌, ◌&&◌, ◌||◌, nat_le, nat_lt, Bool, true, false, not, if◌then◌else◌, List}
use Rattle.std.specs.Prelude.{[], ◌∷◌, filter, Option, Some, None}
use Rattle.std.specs.List.{list_any, list_all, flat_map}
use Rattle.std.specs.Option.{option_map_or}
use Rattle.il_code.specs.declared.body.Clause.{Clause}
use Rattle.il_code.specs.declared.body.ClauseKind.{ClauseKind}
use Rattle.il_code.specs.declared.body.ClauseKind.TheVariants.{Catch, Filter, Finally, Fault}
use Rattle.il_verify.specs.declared.ranges.Range.{Range}
use Rattle.il_verify.specs.declared.ranges.Role.{Role}
use Rattle.il_verify.specs.declared.ranges.Role.TheVariants.{Try, Handler}

-- what a clause guards, and its handler
abbrev pub try_range : Clause → Range
try_range clause = record { begin = clause.try_at; end = clause.try_end; role = Try }

abbrev pub handler_range : Clause → Range
handler_range clause = record { begin = clause.handler_at; end = clause.handler_end; role = Handler clause.kind }

-- each clause has two ranges
abbrev pub ranges_of_clause : Clause → List Range
ranges_of_clause clause = try_range clause ∷ handler_range clause ∷ []

abbrev pub ranges_of : List Clause → List Range
ranges_of clauses = flat_map ranges_of_clause clauses

abbrev pub holds : ℕ → Range → Bool
holds offset range = nat_le range.begin offset && nat_lt offset range.end

abbrev pub is_try_role : Role → Bool
is_try_role Try = true
is_try_role (Handler kind) = false

abbrev pub is_try : Range → Bool
is_try range = is_try_role range.role

abbrev pub is_handler : Range → Bool
is_handler range = not (is_try range)

abbrev pub is_finally_kind : ClauseKind → Bool
is_finally_kind Catch = false
is_finally_kind Filter = false
is_finally_kind Finally = true
is_finally_kind Fault = true

abbrev pub is_catch_kind : ClauseKind → Bool
is_catch_kind Catch = true
is_catch_kind Filter = false
is_catch_kind Finally = false
is_catch_kind Fault = false

abbrev pub has_kind : (ClauseKind → Bool) → Role → Bool
has_kind test Try = false
has_kind test (Handler kind) = test kind

-- the handler of a finally or a fault, and that of a catch
abbrev pub is_finally : Range → Bool
is_finally range = has_kind is_finally_kind range.role

abbrev pub is_catch : Range → Bool
is_catch range = has_kind is_catch_kind range.role

abbrev pub ranges_with : List Clause → ℕ → List Range
ranges_with clauses offset = filter (holds offset) (ranges_of clauses)

-- ---- the innermost range: ranges nest, so it is the smallest

abbrev pub smaller : Range → Range → Range
smaller a b = if nat_lt (b.end - b.begin) (a.end - a.begin) then b else a

abbrev pub or_smaller : Range → Option Range → Option Range
or_smaller range None = Some range
or_smaller range (Some other) = Some (smaller range other)

abbrev pub smallest : List Range → Option Range
smallest [] = None
smallest (range ∷ rest) = or_smaller range (smallest rest)

abbrev pub innermost : List Clause → ℕ → Option Range
innermost clauses offset = smallest (ranges_with clauses offset)

-- ---- ways

-- Otherwise than by `leave` control stays in each range that it is in, and comes into a try range at its begin alone.
abbrev pub goes_well : ℕ → ℕ → Range → Bool
goes_well from to range =
    if holds from range then holds to range
    else not (holds to range) || (is_try range && range.begin == to)

abbrev pub may_go : List Clause → ℕ → ℕ → Bool
may_go clauses from to = list_all (goes_well from to) (ranges_of clauses)

-- By `leave` control goes out of no finally or fault handler, into no handler, and into a try range at its begin
-- alone.
abbrev pub leaves_well : ℕ → ℕ → Range → Bool
leaves_well from to range =
    if holds from range then holds to range || not (is_finally range)
    else not (holds to range) || (is_try range && range.begin == to)

abbrev pub may_leave : List Clause → ℕ → ℕ → Bool
may_leave clauses from to = list_all (leaves_well from to) (ranges_of clauses)

-- an offset begins a range
abbrev pub begins_range : List Clause → ℕ → Bool
begins_range clauses offset = list_any (λ range. range.begin == offset) (ranges_of clauses)

abbrev pub is_in_handler : List Clause → ℕ → Bool
is_in_handler clauses offset = list_any is_handler (ranges_with clauses offset)

abbrev pub is_in_catch : List Clause → ℕ → Bool
is_in_catch clauses offset = list_any is_catch (ranges_with clauses offset)

abbrev pub is_in_range : List Clause → ℕ → Bool
is_in_range clauses offset = list_any (holds offset) (ranges_of clauses)

-- the innermost range is the handler of a finally or a fault
abbrev pub ends_finally : List Clause → ℕ → Bool
ends_finally clauses offset = option_map_or is_finally (innermost clauses offset) false

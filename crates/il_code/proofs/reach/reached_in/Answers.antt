use Rattle.std.proofs.Common.{◌≡◌, ◌∙◌, ℕ, ◌-◌, List, length, slice_get, find, Option, Some, None, ap, subst, sym}
use Rattle.std.specs.List.Sorted.{IsStrictlyIncreasing}
use Rattle.std.specs.Option.{option_map}
use Rattle.il_code.specs.Marks.{is_past, known_from}
use Rattle.il_code.specs.Reach.{AreReached, end_of}
use Rattle.il_code.specs.declared.body.Clause.{Clause}
use Rattle.il_code.specs.declared.body.Instr.{Instr}
use Rattle.il_code.proofs.Coming.{known-rising, last_end, none_found, not_empty, reached_by, runs_on, runs_past}
use Rattle.il_code.proofs.reach.reached_in.Goals as goal

pub returns-in-Some-past_end-clause-refused : goal.returns-in-Some-past_end-clause-refused
returns-in-Some-past_end-clause-refused c =
    let instrs : List Instr = c.args.instrs.now in
    let clauses : List Clause = c.args.clauses.now in
    let table : List (Option (Unit {0})) = c.in-Ok.table.items in
    let last : Some c.in-Some.last.now ≡ slice_get instrs (length instrs - 1) = c.in-Some.ensures.value in
    let end : ℕ = c.in-Some.last.now.next in
    let end-is : end ≡ end_of instrs = last_end instrs c.in-Some.last.now (sym last) in
    let size : length table ≡ end_of instrs = c.in-Ok.ensures.size ∙ end-is in
    let told : Some c.in-Some-past_end.offset ≡ option_map (λ i. i.at) (find (is_past table end) instrs) =
    sym c.in-Some-past_end.is
    ∙ (c.past_end.ensures
    ∙ ap (λ (t : List (Option (Unit {0}))). option_map (λ i. i.at) (find (is_past t end) instrs))
    c.as_slice.ensures.value) in
    runs_past instrs clauses table end c.in-Some-past_end.offset size c.in-Ok.ensures.least end-is told

pub known_offsets-requires : goal.known_offsets-requires
known_offsets-requires c = ap length c.as_slice-2.ensures.value ∙ c.in-Ok.ensures.size

pub returns-in-Ok-known_offsets-clause-reached : goal.returns-in-Ok-known_offsets-clause-reached
returns-in-Ok-known_offsets-clause-reached c =
    let instrs : List Instr = c.args.instrs.now in
    let clauses : List Clause = c.args.clauses.now in
    let table : List (Option (Unit {0})) = c.in-Ok.table.items in
    let last : Some c.in-Some.last.now ≡ slice_get instrs (length instrs - 1) = c.in-Some.ensures.value in
    let end-is : c.in-Some.last.now.next ≡ end_of instrs = last_end instrs c.in-Some.last.now (sym last) in
    let size : length table ≡ end_of instrs = c.in-Ok.ensures.size ∙ end-is in
    let known : c.in-Ok-known_offsets.offsets ≡ known_from 0 table =
    c.in-Ok-known_offsets.ensures ∙ ap (known_from 0) c.as_slice-2.ensures.value in
    subst (AreReached instrs clauses) (sym known) (reached_by instrs clauses table size c.in-Ok.ensures.least)

pub returns-in-Ok-known_offsets-clause-rising : goal.returns-in-Ok-known_offsets-clause-rising
returns-in-Ok-known_offsets-clause-rising c =
    subst IsStrictlyIncreasing (sym c.in-Ok-known_offsets.ensures) (known-rising 0 c.as_slice-2.result.now)

pub returns-in-Ok-known_offsets-clause-inside : goal.returns-in-Ok-known_offsets-clause-inside
returns-in-Ok-known_offsets-clause-inside c =
    let instrs : List Instr = c.args.instrs.now in
    let clauses : List Clause = c.args.clauses.now in
    let table : List (Option (Unit {0})) = c.in-Ok.table.items in
    let last : Some c.in-Some.last.now ≡ slice_get instrs (length instrs - 1) = c.in-Some.ensures.value in
    let end : ℕ = c.in-Some.last.now.next in
    let end-is : end ≡ end_of instrs = last_end instrs c.in-Some.last.now (sym last) in
    let size : length table ≡ end_of instrs = c.in-Ok.ensures.size ∙ end-is in
    let told : None ≡ option_map (λ i. i.at) (find (is_past table end) instrs) =
    sym c.in_default-past_end.is
    ∙ (c.past_end.ensures
    ∙ ap (λ (t : List (Option (Unit {0}))). option_map (λ i. i.at) (find (is_past t end) instrs))
    c.as_slice.ensures.value) in
    runs_on instrs clauses table end size c.in-Ok.ensures.least end-is
    (none_found (find (is_past table end) instrs) told) (not_empty instrs c.in-Some.last.now (sym last))

-- Rounds find the least stacks of a method, and verifying tells exactly what fails in them.
use Rattle.std.proofs.Common.{◌≡◌, ◌↔◌, refl, ap, subst, ◌∙◌, ℕ, zero, suc, ◌<◌, Bool, true}
use Rattle.std.proofs.Common.{false, List, []}
use Rattle.std.proofs.Common.{◌∷◌, length, find, Contains, slice_index_or, Option, Some, None, Ok, Err, arith}
use Rattle.std.proofs.Common.{cond}
use Rattle.std.specs.Option.{option_map, option_map_or}
use Rattle.ty_terms.specs.declared.names.MethodName.{MethodName}
use Rattle.il_code.specs.declared.body.Body.{Body}
use Rattle.il_code.specs.declared.body.Instr.{Instr}
use Rattle.il_code.specs.Reach.{end_of}
use Rattle.least_flow.specs.Solution.{row}
use Rattle.ty_names.specs.Modules.{World}
use Rattle.il_stacks.specs.declared.stack.Stack.{Stack}
use Rattle.il_stacks.specs.declared.typing.Typing.{Typing}
use Rattle.il_stacks.specs.Typings.{typing_of}
use Rattle.il_stacks.proofs.Rounds.{by_rounds as rounds_found}
use Rattle.il_verify.specs.Flow.{AreLeastStacks, handlers_of_body, reached_offsets, steps_of}
use Rattle.il_verify.specs.Kinds.{is_reference}
use Rattle.il_verify.specs.Scope.{Scope, scope_of}
use Rattle.il_verify.specs.Verified.{HasTyping, IsVerified, NoneFails, fails_at, first_failing, least_stacks, typed_or}
use Rattle.il_verify.specs.Verified.{verification, verified_in}
use Rattle.il_verify.proofs.SoundRows.{all_sound}

pub by_rounds : (scope : Scope) (body : Body) (table : List (Option Stack))
    → AreLeastStacks scope body table ↔ (table ≡ least_stacks scope body)
unfolding least_stacks
by_rounds scope body table =
    rounds_found (is_reference scope.world) (steps_of scope body) (handlers_of_body scope body) (end_of body.code) table
    (all_sound scope body)

found_by_rounds : (scope : Scope) (body : Body) → AreLeastStacks scope body (least_stacks scope body)
found_by_rounds scope body = (by_rounds scope body (least_stacks scope body)).1 refl

one_typing : (scope : Scope) (body : Body) (table : List (Option Stack)) → AreLeastStacks scope body table
    → table ≡ least_stacks scope body
one_typing scope body table least = (by_rounds scope body table).0 least

-- ---- what fails

find_none : (test : Instr → Bool) (code : List Instr) → ((i : Instr) → Contains code i → test i ≡ false)
    → find test code ≡ None
find_none test [] h = refl
find_none test (i ∷ code) h =
    let first : test i ≡ false = h i (0, omega arith, refl) in
    ap (λ t. cond t (Some i) (find test code)) first
    ∙ find_none test code (λ j has. h j (suc has.0, omega (arith, has.1), has.2))

none_passes : (test : Instr → Bool) (code : List Instr) (i : Instr) (k : ℕ) → find test code ≡ None → k < length code
    → slice_index_or code k i ≡ i → test i ≡ false
none_passes test [] i k none inside is = absurd (omega arith)
none_passes test (first ∷ code) i zero none inside is =
    subst (λ (j : Instr). test j ≡ false) is (first_fails (test first) none)
  where
    first_fails : (t : Bool) → cond t (Some first) (find test code) ≡ None → t ≡ false
    first_fails true e = cc
    first_fails false e = refl
none_passes test (first ∷ code) i (suc k) none inside is =
    none_passes test code i k (rest_none (test first) none) (omega arith) is
  where
    rest_none : (t : Bool) → cond t (Some first) (find test code) ≡ None → find test code ≡ None
    rest_none true e = cc
    rest_none false e = e

failing_at : (scope : Scope) (body : Body) (table : List (Option Stack)) → NoneFails scope body table → (i : Instr)
    → Contains body.code i → fails_at scope body (reached_offsets body) i (row table i.at) ≡ false
failing_at scope body table none i has = by (row table i.at) refl
  where
    by : (r : Option Stack) → row table i.at ≡ r → fails_at scope body (reached_offsets body) i r ≡ false
    by None e = refl
    by (Some stack) e = none i stack has e

no_offset : {A : Type 0} (f : Instr → A) (o : Option Instr) → option_map f o ≡ None → o ≡ None
no_offset f None e = refl
no_offset f (Some i) e = cc

none_fails : (scope : Scope) (body : Body) (table : List (Option Stack))
    → first_failing scope body (reached_offsets body) table ≡ None → NoneFails scope body table
none_fails scope body table none i stack has e =
    let test : Instr → Bool = λ i. fails_at scope body (reached_offsets body) i (row table i.at) in
    let here : fails_at scope body (reached_offsets body) i (row table i.at) ≡ false =
    none_passes test body.code i has.0 (no_offset (λ (i : Instr). i.at) (find test body.code) none) has.1 has.2 in
    subst (λ r. fails_at scope body (reached_offsets body) i r ≡ false) e here

-- ---- which methods are verified

typed : (scope : Scope) (body : Body) → NoneFails scope body (least_stacks scope body)
    → (typing : Typing) × (verified_in scope body ≡ Ok typing)
typed scope body none =
    let table : List (Option Stack) = least_stacks scope body in
    let test : Instr → Bool = λ i. fails_at scope body (reached_offsets body) i (row table i.at) in
    let nothing : find test body.code ≡ None =
    find_none test body.code (failing_at scope body table none) in (
      typing_of table (steps_of scope body),
      ap (λ (o : Option Instr). typed_or (typing_of table (steps_of scope body)) (option_map (λ (i : Instr). i.at) o))
          nothing,
    )

pub typing_when : (world : World) (name : MethodName) (body : Body) → IsVerified world name body
    → HasTyping world name body
unfolding verification
typing_when world name body v =
    let same : v.table ≡ least_stacks v.scope body = one_typing v.scope body v.table v.least in
    let found = typed v.scope body (subst (NoneFails v.scope body) same v.none) in (
      found.0,
      ap (λ (o : Option Scope). option_map_or (λ scope. verified_in scope body) o (Err 0)) v.stands ∙ found.1,
    )

never_failing : (first : Typing) (o : Option ℕ) (typing : Typing) → typed_or first o ≡ Ok typing → o ≡ None
never_failing first None typing e = refl
never_failing first (Some offset) typing e = cc

pub verified_when : (world : World) (name : MethodName) (body : Body) → HasTyping world name body
    → IsVerified world name body
unfolding verification
verified_when world name body typed = by (scope_of world name body) refl typed.1
  where
    by : (o : Option Scope) → scope_of world name body ≡ o
        → option_map_or (λ scope. verified_in scope body) o (Err 0) ≡ Ok typed.0 → IsVerified world name body
    by None is e = cc
    by (Some scope) is e =
        record {
          scope = scope;
          stands = is;
          table = least_stacks scope body;
          least = found_by_rounds scope body;
          none = none_fails scope body (least_stacks scope body)
              (never_failing (typing_of (least_stacks scope body) (steps_of scope body))
              (first_failing scope body (reached_offsets body) (least_stacks scope body)) typed.0 e);
        }

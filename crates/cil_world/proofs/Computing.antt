-- What definitions give once the look-ups in them are known: each lemma has the look-ups as premises, so that no term
-- over a whole world has to be worked out at once. Types are compared, read and replaced by folds, which don't compute
-- here: of named types without arguments, and of primitive types, their values are told first.
use Rattle.std.proofs.Common.{◌≡◌, ◌∙◌, ℕ, zero, suc, ◌+◌, ◌*◌, ◌-◌, arith, ap, refl, true, false, Bool, List, [], ◌∷◌}
use Rattle.std.proofs.Common.{◌++◌, Option, Some, None, Ok, Err, map, length}
use Rattle.std.specs.Prelude.{◌==◌, ◌&&◌, ◌||◌, not, nat_le, nat_lt, if◌then◌else◌, find, fold, slice_set, drop, Result}
use Rattle.std.specs.List.{list_all}
use Rattle.std.specs.Option.{option_map, option_map_or, option_and_then}
use Rattle.std.specs.declared.cmp.Ordering.{Ordering}
use Rattle.std.specs.declared.cmp.Ordering.TheVariants.{Equal}
use Rattle.std.proofs.lemmas.Cmp.{tied_itself}
use Rattle.num_core.specs.Run.{Run, Running as Goes, Streams, after, one_more}
use Rattle.il_code.specs.declared.body.Body.{Body}
use Rattle.il_code.specs.declared.body.Instr.{Instr}
use Rattle.il_code.specs.Reach.{end_of}
use Rattle.least_flow.specs.Solution.{row}
use Rattle.ty_terms.specs.declared.names.MethodName.{MethodName}
use Rattle.ty_terms.specs.declared.names.TypeId.{TypeId}
use Rattle.ty_terms.specs.declared.ty.Primitive.{Primitive}
use Rattle.ty_terms.specs.declared.ty.Ty.{Ty}
use Rattle.ty_terms.specs.declared.ty.Ty.TheVariants.{Named, Prim, rolls-Prim, rolls-Named}
use Rattle.ty_terms.specs.declared.ty.Ty.TheOpen.{Ty-F}
use Rattle.ty_terms.specs.declared.ty.Ty.TheViews.{out-Ty}
use Rattle.ty_terms.specs.Depth.{depth_of, depth_step}
use Rattle.ty_terms.specs.Induction.{All, fold-Named, fold-Prim}
use Rattle.ty_terms.specs.Order.{order, order_step}
use Rattle.ty_terms.specs.OrderLaws.{order_total}
use Rattle.ty_terms.specs.Subst.{has_variables_below, substituted, subst_step, within_step}
use Rattle.ty_names.specs.Modules.{World}
use Rattle.ty_load.specs.declared.fault.ResolveFault.{ResolveFault}
use Rattle.ty_load.specs.declared.item.Item.{Item}
use Rattle.ty_load.specs.Cycles.{all_ids}
use Rattle.ty_load.specs.Members.{is_equal, same_type}
use Rattle.ty_load.specs.Tokens.{and_then, resolution}
use Rattle.ty_load.specs.Types.{bounded, named_with, resolve_step, resolved, resolved_result}
use Rattle.ty_load.specs.Walks.{any_of, arguments, base_type, fits_within, fitting, if_some, interface_types}
use Rattle.ty_load.specs.Walks.{is_object_layer, is_object_like_layer, or_then, vector_fits}
use Rattle.il_stacks.specs.declared.effect.Handler.{Handler}
use Rattle.il_stacks.specs.declared.effect.Step.{Step}
use Rattle.il_stacks.specs.declared.slot.StackSlot.{StackSlot}
use Rattle.il_stacks.specs.declared.slot.StackSlot.TheVariants.{Refs, Value as ValueOf, Pointer, Conflict}
use Rattle.il_stacks.specs.declared.stack.Stack.{Stack}
use Rattle.il_stacks.specs.declared.stack.Stack.TheVariants.{Slots}
use Rattle.il_stacks.specs.declared.typing.OffsetStack.{OffsetStack}
use Rattle.il_stacks.specs.declared.typing.Typing.{Typing}
use Rattle.il_stacks.specs.Rounds.{first_table, is_table_below, most_rounds, one_further, one_round, pass_if, raised}
use Rattle.il_stacks.specs.Rounds.{settled, stacks_by_rounds}
use Rattle.il_stacks.specs.Bounds.{types_met}
use Rattle.il_stacks.specs.Slots.{if_same, joined_slot}
use Rattle.il_stacks.specs.Types.{placed_by, same_type as same_types_of_slots}
use Rattle.il_stacks.specs.SetLaws.{same_itself}
use Rattle.il_stacks.specs.Typings.{stacks_in, typing_of, values_in}
use Rattle.il_verify.specs.Actions.{Action}
use Rattle.il_verify.specs.CallRows.{Prefix}
use Rattle.il_verify.specs.Flow.{action_at, effect_of, handlers_of_body, is_among, prefix_at, reached_offsets, row_at}
use Rattle.il_verify.specs.Flow.{step_of, step_with, steps_of}
use Rattle.il_verify.specs.Inside.{is_inside, is_inside_clause, is_inside_instruction, is_known, is_there, method_body}
use Rattle.il_verify.specs.Inside.{resolves, stays_inside, token_of}
use Rattle.il_verify.specs.Kinds.{is_reference}
use Rattle.il_verify.specs.Row.{Row}
use Rattle.il_verify.specs.Rows.{row_of}
use Rattle.il_verify.specs.Rules.{Rule, MeetsAtOneDepth, HasNoConflict, IsWithinMaxStack, NamesItsKind, HasItsOperands}
use Rattle.il_verify.specs.Rules.{GoesItsWays, BeginsOutsideHandlers, LeavesWell, EndsItsHandler, RethrowsWhatWasCaught}
use Rattle.il_verify.specs.Rules.{ReturnsOutsideClauses, ReturnsItsResultAlone, PrefixesItsInstruction, rules}
use Rattle.il_verify.specs.Rules.{begins_outside, ends_its_handler, fails, goes_its_ways, has_no_conflict, is_return}
use Rattle.il_verify.specs.Rules.{is_at_one_depth, is_within_depth, leaves_its_ranges, on_slots, prefixes_well}
use Rattle.il_verify.specs.Rules.{rethrows_in_catch, returns_outside, suits_row}
use Rattle.il_verify.specs.Scope.{Scope, if_found, scope_of}
use Rattle.il_verify.specs.Verified.{fails_at, first_failing, least_stacks, typed_or, verification, verified_in}
use Rattle.cil_world.specs.Did.{Did}
use Rattle.cil_world.specs.Entering.{Entry, entry, entry_bytes, entry_in, entry_with, lays_out_frame}
use Rattle.cil_world.specs.State.{CilState, Frame, Setting, change_top, with_stack}
use Rattle.cil_world.specs.Step.{CilRun, does, performs, performs_in, settles, taken, with_prefix, with_row}
use Rattle.cli_layout.specs.Extents.{most_bytes}

-- ---- types

pub order_itself : (a : Ty) → order a a ≡ Equal
order_itself a = tied_itself order_total a

pub same_type_itself : (a : Ty) → same_type a a ≡ true
same_type_itself a = ap is_equal (order_itself a)

-- the order of two named types without arguments, which computes where they are written down
pub order_named : (a b : TypeId) → order (Named a []) (Named b []) ≡ order_step (Ty-F.Named a []) (Named b [])
order_named a b = ap (λ f. f (Named b [])) (fold-Named order_step a [])

-- and that of other types with these
pub order_named_prim : (a : TypeId) (p : Primitive)
    → order (Named a []) (Prim p) ≡ order_step (Ty-F.Named a []) (Prim p)
order_named_prim a p = ap (λ f. f (Prim p)) (fold-Named order_step a [])

pub order_prim_named : (p : Primitive) (a : TypeId)
    → order (Prim p) (Named a []) ≡ order_step (Ty-F.Prim p) (Named a [])
order_prim_named p a = ap (λ f. f (Named a [])) (fold-Prim order_step p)

pub order_prim : (p q : Primitive) → order (Prim p) (Prim q) ≡ order_step (Ty-F.Prim p) (Prim q)
order_prim p q = ap (λ f. f (Prim q)) (fold-Prim order_step p)

-- types without variables stay as they are
pub named_stays : (owner method : List Ty) (id : TypeId) → substituted owner method (Named id []) ≡ Named id []
named_stays owner method id = fold-Named (subst_step owner method) id [] ∙ rolls-Named id []

pub prim_stays : (owner method : List Ty) (p : Primitive) → substituted owner method (Prim p) ≡ Prim p
prim_stays owner method p = fold-Prim (subst_step owner method) p ∙ rolls-Prim p

pub named_closed : (owner method : ℕ) (id : TypeId) → has_variables_below owner method (Named id []) ≡ true
named_closed owner method id = fold-Named (within_step owner method) id []

pub prim_closed : (owner method : ℕ) (p : Primitive) → has_variables_below owner method (Prim p) ≡ true
prim_closed owner method p = fold-Prim (within_step owner method) p

pub depth_named : (id : TypeId) → depth_of (Named id []) ≡ depth_step (Ty-F.Named id [])
depth_named id = fold-Named depth_step id []

pub depth_prim : (p : Primitive) → depth_of (Prim p) ≡ depth_step (Ty-F.Prim p)
depth_prim p = fold-Prim depth_step p

-- types as signatures write them
pub prim_resolved : (world : World) (number owner method : ℕ) (p : Primitive)
    → resolved_result world number owner method (Prim p) ≡ Some (Prim p)
prim_resolved world number owner method p =
    ap (bounded owner method) (fold-Prim (resolve_step world number) p)
    ∙ ap (λ b. if b then Some (Prim p) else None) (prim_closed owner method p)

pub named_resolved : (world : World) (number owner method : ℕ) (written id : TypeId)
    → named_with world number written.row (Some []) ≡ Some (Named id [])
    → resolved_result world number owner method (Named written []) ≡ Some (Named id [])
named_resolved world number owner method written id found =
    ap (bounded owner method) (fold-Named (resolve_step world number) written [] ∙ found)
    ∙ ap (λ b. if b then Some (Named id []) else None) (named_closed owner method id)

-- ---- fitting

pub fits_itself : (left : ℕ) (world : World) (a : Ty) → fits_within (suc left) world a a ≡ Ok true
fits_itself left world a =
    ap (λ t. if t || (is_object_layer (out-Ty a) && is_object_like_layer (out-Ty a)) then Ok true
    else or_then (vector_fits world (fits_within left world) (out-Ty a) (out-Ty a))
    (or_then (any_of (λ interface. fits_within left world interface a) (interface_types world a))
    (and_then (base_type world a) (if_some (λ base. fits_within left world base a))))) (same_type_itself a)

or_true : (t : Bool) → (t || true) ≡ true
or_true true = refl
or_true false = refl

-- all that may be a reference or be boxed fits Object
pub fits_object : (left : ℕ) (world : World) (from to : Ty)
    → (is_object_layer (out-Ty to) && is_object_like_layer (out-Ty from)) ≡ true
    → fits_within (suc left) world from to ≡ Ok true
fits_object left world from to likes =
    ap (λ t. if same_type from to || t then Ok true
    else or_then (vector_fits world (fits_within left world) (out-Ty from) (out-Ty to))
    (or_then (any_of (λ interface. fits_within left world interface to) (interface_types world from))
    (and_then (base_type world from) (if_some (λ base. fits_within left world base to))))) likes
    ∙ ap (λ t. if t then Ok true
    else or_then (vector_fits world (fits_within left world) (out-Ty from) (out-Ty to))
    (or_then (any_of (λ interface. fits_within left world interface to) (interface_types world from))
    (and_then (base_type world from) (if_some (λ base. fits_within left world base to))))) (or_true (same_type from to))

-- a type fits what its base fits, where it is neither this type nor has interfaces
pub fits_by_base : (left : ℕ) (world : World) (from to base : Ty) (answer : Result Bool ResolveFault)
    → same_type from to ≡ false
    → (is_object_layer (out-Ty to) && is_object_like_layer (out-Ty from)) ≡ false
    → vector_fits world (fits_within left world) (out-Ty from) (out-Ty to) ≡ Ok false
    → interface_types world from ≡ []
    → base_type world from ≡ Ok (Some base)
    → fits_within left world base to ≡ answer
    → fits_within (suc left) world from to ≡ answer
fits_by_base left world from to base answer other plain vectors interfaces based fits =
    ap (λ t. if t || (is_object_layer (out-Ty to) && is_object_like_layer (out-Ty from)) then Ok true
    else or_then (vector_fits world (fits_within left world) (out-Ty from) (out-Ty to))
    (or_then (any_of (λ interface. fits_within left world interface to) (interface_types world from))
    (and_then (base_type world from) (if_some (λ base. fits_within left world base to))))) other
    ∙ ap (λ t. if t then Ok true
    else or_then (vector_fits world (fits_within left world) (out-Ty from) (out-Ty to))
    (or_then (any_of (λ interface. fits_within left world interface to) (interface_types world from))
    (and_then (base_type world from) (if_some (λ base. fits_within left world base to))))) plain
    ∙ ap (λ v. or_then v
    (or_then (any_of (λ interface. fits_within left world interface to) (interface_types world from))
    (and_then (base_type world from) (if_some (λ base. fits_within left world base to))))) vectors
    ∙ ap (λ is. or_then (any_of (λ interface. fits_within left world interface to) is)
    (and_then (base_type world from) (if_some (λ base. fits_within left world base to)))) interfaces
    ∙ ap (λ b. and_then b (if_some (λ base. fits_within left world base to))) based
    ∙ fits

-- how deep a type is says how far a walk from it may go
pub fitting_by : (world : World) (from to : Ty) (depth : ℕ) (answer : Result Bool ResolveFault)
    → depth_of from ≡ depth
    → fits_within (depth + length (all_ids world) + 1) world from to ≡ answer
    → fitting world from to ≡ answer
unfolding fitting
fitting_by world from to depth answer deep fits =
    ap (λ d. fits_within (d + length (all_ids world) + 1) world from to) deep ∙ fits

-- ---- tables of stacks

add_one : (n : ℕ) → n + 1 ≡ suc n
add_one n = omega arith

stays : (objects : Ty → Bool) (steps : List Step) (handlers : List Handler) (table : List (Option Stack))
    → one_round objects steps handlers table ≡ table
    → (left : ℕ) (done : Bool) → settled objects steps handlers left done table ≡ table
stays objects steps handlers table fixed zero done = refl
stays objects steps handlers table fixed (suc left) true = refl
stays objects steps handlers table fixed (suc left) false =
    ap (λ t. settled objects steps handlers left (is_table_below t table) t) fixed
    ∙ stays objects steps handlers table fixed left (is_table_below table table)

-- a table that one round makes, and to which another adds nothing
pub by_a_round : (objects : Ty → Bool) (steps : List Step) (handlers : List Handler) (size : ℕ)
    (table : List (Option Stack))
    → one_round objects steps handlers (first_table size) ≡ table
    → one_round objects steps handlers table ≡ table
    → stacks_by_rounds objects steps handlers size ≡ table
unfolding stacks_by_rounds
by_a_round objects steps handlers size table first again =
    let rounds : ℕ = size * (2 + size * (2 + length (types_met steps handlers))) in
    ap (λ n. settled objects steps handlers n false (first_table size)) (add_one rounds)
    ∙ ap (λ t. settled objects steps handlers rounds (is_table_below t (first_table size)) t) first
    ∙ stays objects steps handlers table again rounds (is_table_below table (first_table size))

-- one instruction passes on what is known before it, and then those behind it do
pub passes_on : (objects : Ty → Bool) (step : Step) (steps : List Step) (handlers : List Handler)
    (table next last : List (Option Stack))
    → one_further objects handlers table step ≡ next
    → one_round objects steps handlers next ≡ last
    → one_round objects (step ∷ steps) handlers table ≡ last
passes_on objects step steps handlers table next last one rest =
    ap (λ t. one_round objects steps handlers t) one ∙ rest

-- each instruction passes on what is known already
pub all_stay : (objects : Ty → Bool) (steps : List Step) (handlers : List Handler) (table : List (Option Stack))
    → All (λ step. one_further objects handlers table step ≡ table) steps
    → one_round objects steps handlers table ≡ table
all_stay objects [] handlers table each = refl
all_stay objects (step ∷ steps) handlers table each =
    ap (λ t. one_round objects steps handlers t) each.0 ∙ all_stay objects steps handlers table each.1

-- of one set with itself nothing more is known
pub refs_meet : (a : Ty) → joined_slot (Refs (a ∷ [])) (Refs (a ∷ [])) ≡ Refs (a ∷ [])
refs_meet a = ap (λ o. Refs (placed_by o a a [] (a ∷ []))) (order_itself a)

pub values_meet : (a : Ty) → joined_slot (ValueOf a) (ValueOf a) ≡ ValueOf a
values_meet a = ap (λ t. if t then ValueOf a else Conflict) (same_itself a)

pub pointers_meet : (a : Ty) → joined_slot (Pointer a) (Pointer a) ≡ Pointer a
pointers_meet a = ap (λ t. if t then Pointer a else Conflict) (same_itself a)

-- ---- what verifying tells

-- the steps of a body whose reached offsets are known
pub steps_by : (scope : Scope) (body : Body) (offsets : List ℕ) (steps : List Step) → reached_offsets body ≡ offsets
    → map (step_of scope body offsets) body.code ≡ steps → steps_of scope body ≡ steps
steps_by scope body offsets steps reached each = ap (λ o. map (step_of scope body o) body.code) reached ∙ each

-- an instruction whose row is known
pub step_by : (scope : Scope) (body : Body) (offsets : List ℕ) (i : Instr) (found : Option Row)
    → row_at scope body offsets i ≡ found
    → step_of scope body offsets i ≡ step_with i (effect_of (action_at i) found)
step_by scope body offsets i found is = ap (λ r. step_with i (effect_of (action_at i) r)) is

pub row_by : (scope : Scope) (body : Body) (offsets : List ℕ) (i : Instr) (prefix : Prefix) (found : Option Row)
    → prefix_at scope body offsets i.at ≡ prefix
    → row_of scope prefix (action_at i) ≡ found
    → row_at scope body offsets i ≡ found
row_by scope body offsets i prefix found before is = ap (λ p. row_of scope p (action_at i)) before ∙ is

pub least_by : (scope : Scope) (body : Body) (steps : List Step) (handlers : List Handler) (table : List (Option Stack))
    → steps_of scope body ≡ steps
    → handlers_of_body scope body ≡ handlers
    → stacks_by_rounds (is_reference scope.world) steps handlers (end_of body.code) ≡ table
    → least_stacks scope body ≡ table
unfolding least_stacks
least_by scope body steps handlers table are handle rounds =
    ap (λ s. stacks_by_rounds (is_reference scope.world) s (handlers_of_body scope body) (end_of body.code)) are
    ∙ ap (λ h. stacks_by_rounds (is_reference scope.world) steps h (end_of body.code)) handle
    ∙ rounds

-- the rules, where the row's names, operands and count are known
abbrev pub keeps_by : Bool → Bool → ℕ → Body → Instr → Stack → Rule → Bool
keeps_by names suits takes body i stack MeetsAtOneDepth = is_at_one_depth stack
keeps_by names suits takes body i stack HasNoConflict = has_no_conflict stack
keeps_by names suits takes body i stack IsWithinMaxStack = is_within_depth body.max_stack stack
keeps_by names suits takes body i stack NamesItsKind = names
keeps_by names suits takes body i stack HasItsOperands = suits
keeps_by names suits takes body i stack GoesItsWays = goes_its_ways body.clauses i
keeps_by names suits takes body i stack BeginsOutsideHandlers = begins_outside body.clauses i
keeps_by names suits takes body i stack LeavesWell = leaves_its_ranges body.clauses i
keeps_by names suits takes body i stack EndsItsHandler = ends_its_handler body.clauses i
keeps_by names suits takes body i stack RethrowsWhatWasCaught = rethrows_in_catch body.clauses i
keeps_by names suits takes body i stack ReturnsOutsideClauses = returns_outside body.clauses i
keeps_by names suits takes body i stack ReturnsItsResultAlone =
    not (is_return (action_at i)) || on_slots true (λ slots. not (nat_lt takes (length slots))) stack
keeps_by names suits takes body i stack PrefixesItsInstruction = prefixes_well body.code body.clauses i

-- the same where the row isn't known yet
abbrev pub keeps_in : Option Row → Body → Instr → Stack → Rule → Bool
keeps_in found body i stack MeetsAtOneDepth = is_at_one_depth stack
keeps_in found body i stack HasNoConflict = has_no_conflict stack
keeps_in found body i stack IsWithinMaxStack = is_within_depth body.max_stack stack
keeps_in found body i stack NamesItsKind = option_map_or (λ row. row.names) found false
keeps_in found body i stack HasItsOperands =
    on_slots true (λ slots. option_map_or (suits_row slots) found true) stack
keeps_in found body i stack GoesItsWays = goes_its_ways body.clauses i
keeps_in found body i stack BeginsOutsideHandlers = begins_outside body.clauses i
keeps_in found body i stack LeavesWell = leaves_its_ranges body.clauses i
keeps_in found body i stack EndsItsHandler = ends_its_handler body.clauses i
keeps_in found body i stack RethrowsWhatWasCaught = rethrows_in_catch body.clauses i
keeps_in found body i stack ReturnsOutsideClauses = returns_outside body.clauses i
keeps_in found body i stack ReturnsItsResultAlone =
    not (is_return (action_at i))
    || on_slots true (λ slots. option_map_or (λ row. not (nat_lt row.takes (length slots))) found true) stack
keeps_in found body i stack PrefixesItsInstruction = prefixes_well body.code body.clauses i

-- an instruction doesn't fail whose row is known, and suits the stack
pub passes : (scope : Scope) (body : Body) (offsets : List ℕ) (i : Instr) (slots : List StackSlot) (found : Row)
    → row_at scope body offsets i ≡ Some found
    → found.names ≡ true
    → suits_row slots found ≡ true
    → list_all (keeps_by true true found.takes body i (Slots slots)) rules ≡ true
    → fails scope body offsets i (Slots slots) ≡ false
passes scope body offsets i slots found is names suits keeps =
    ap (λ r. not (list_all (keeps_in r body i (Slots slots)) rules)) is
    ∙ ap (λ n. not (list_all (keeps_by n (suits_row slots found) found.takes body i (Slots slots)) rules)) names
    ∙ ap (λ s. not (list_all (keeps_by true s found.takes body i (Slots slots)) rules)) suits
    ∙ ap not keeps

-- each of a list passes a test
abbrev pub EachPasses : {A : Type 0} → (A → Bool) → List A → Type 0
EachPasses test items = All (λ item. test item ≡ true) items

pub all_pass : {A : Type 0} (test : A → Bool) (items : List A) → EachPasses test items → list_all test items ≡ true
all_pass test [] each = refl
all_pass test (item ∷ rest) each = ap (λ t. t && list_all test rest) each.0 ∙ all_pass test rest each.1

-- none of a list passes a test
abbrev pub NonePass : {A : Type 0} → (A → Bool) → List A → Type 0
NonePass test items = All (λ item. test item ≡ false) items

pub none_found : {A : Type 0} (test : A → Bool) (items : List A) → NonePass test items → find test items ≡ None
none_found test [] none = refl
none_found test (item ∷ rest) none =
    ap (λ b. if b then Some item else find test rest) none.0 ∙ none_found test rest none.1

pub none_fails : (scope : Scope) (body : Body) (offsets : List ℕ) (table : List (Option Stack))
    → reached_offsets body ≡ offsets
    → NonePass (λ i. fails_at scope body offsets i (row table i.at)) body.code
    → first_failing scope body (reached_offsets body) table ≡ None
none_fails scope body offsets table reached none =
    ap (λ o. first_failing scope body o table) reached
    ∙ ap (option_map (λ i. i.at))
    (none_found (λ i. fails_at scope body offsets i (row table i.at)) body.code none)

pub typed_by : (table : List (Option Stack)) (steps : List Step) (stacks : List OffsetStack) (values : List Ty)
    → stacks_in table steps ≡ stacks
    → values_in stacks ≡ values
    → typing_of table steps ≡ record { stacks = stacks; values = values }
typed_by table steps stacks values known are =
    ap (λ s. let typing : Typing = record { stacks = s; values = values_in s } in typing) known
    ∙ ap (λ v. let typing : Typing = record { stacks = stacks; values = v } in typing) are

pub verified_by : (world : World) (name : MethodName) (body : Body) (scope : Scope) (table : List (Option Stack))
    (steps : List Step) (typing : Typing)
    → scope_of world name body ≡ Some scope
    → least_stacks scope body ≡ table
    → steps_of scope body ≡ steps
    → typing_of table steps ≡ typing
    → first_failing scope body (reached_offsets body) table ≡ None
    → verification world name body ≡ Ok typing
unfolding verification
verified_by world name body scope table steps typing stands least are typed none =
    ap (λ s. option_map_or (λ found. verified_in found body) s (Err 0)) stands
    ∙ ap (λ t. typed_or (typing_of t (steps_of scope body)) (first_failing scope body (reached_offsets body) t)) least
    ∙ ap (λ s. typed_or (typing_of table s) (first_failing scope body (reached_offsets body) table)) are
    ∙ ap (λ t. typed_or t (first_failing scope body (reached_offsets body) table)) typed
    ∙ ap (typed_or typing) none

-- ---- what is inside

and_true : (a b : Bool) → a ≡ true → b ≡ true → (a && b) ≡ true
and_true a b first second = ap (λ t. t && b) first ∙ second

-- an instruction with a token that leads to something
pub inside_token : (scope : Scope) (body : Body) (i : Instr) (token : ℕ) (found : Item)
    → is_known (action_at i) ≡ true
    → token_of (action_at i) ≡ Some token
    → arguments scope.name.owner ≡ []
    → resolution scope.world scope.name.method.module token [] scope.name.args ≡ Ok found
    → stays_inside body i ≡ true
    → is_inside_instruction scope body i ≡ true
inside_token scope body i token found known has none leads stays_in =
    ap (λ k. k && resolves scope (action_at i) && stays_inside body i) known
    ∙ ap (λ t. true && option_map_or (λ n. is_there (if_found (resolution scope.world scope.name.method.module n
    (arguments scope.name.owner) scope.name.args))) t true && stays_inside body i) has
    ∙ ap (λ a. true && is_there (if_found (resolution scope.world scope.name.method.module token a scope.name.args))
    && stays_inside body i) none
    ∙ ap (λ r. true && is_there (if_found r) && stays_inside body i) leads
    ∙ ap (λ s. true && true && s) stays_in

pub reached_inside : (offsets : List ℕ) (scope : Scope) (body : Body) (i : Instr)
    → is_inside_instruction scope body i ≡ true
    → (not (is_among offsets i.at) || is_inside_instruction scope body i) ≡ true
reached_inside offsets scope body i is =
    ap (λ t. not (is_among offsets i.at) || t) is ∙ or_true (not (is_among offsets i.at))

pub inside_by : (world : World) (name : MethodName) (body : Body) (scope : Scope) (offsets : List ℕ)
    → scope_of world name body ≡ Some scope
    → reached_offsets body ≡ offsets
    → not (end_of body.code == 0) ≡ true
    → EachPasses (λ i. not (is_among offsets i.at) || is_inside_instruction scope body i) body.code
    → EachPasses (is_inside_clause scope offsets) body.clauses
    → is_inside world name body ≡ true
unfolding is_inside
inside_by world name body scope offsets stands reached some each clauses =
    ap (λ s. option_map_or (λ found. not (end_of body.code == 0)
    && list_all (λ i. not (is_among (reached_offsets body) i.at) || is_inside_instruction found body i) body.code
    && list_all (is_inside_clause found (reached_offsets body)) body.clauses) s false) stands
    ∙ ap (λ o. not (end_of body.code == 0)
    && list_all (λ i. not (is_among o i.at) || is_inside_instruction scope body i) body.code
    && list_all (is_inside_clause scope o) body.clauses) reached
    ∙ ap (λ t. t && list_all (λ i. not (is_among offsets i.at) || is_inside_instruction scope body i) body.code
    && list_all (is_inside_clause scope offsets) body.clauses) some
    ∙ ap (λ t. true && t && list_all (is_inside_clause scope offsets) body.clauses)
    (all_pass (λ i. not (is_among offsets i.at) || is_inside_instruction scope body i) body.code each)
    ∙ ap (λ t. true && true && t) (all_pass (is_inside_clause scope offsets) body.clauses clauses)

-- ---- entries

pub entered_by : (world : World) (name : MethodName) (body : Body) (scope : Scope) (typing : Typing) (bytes : ℕ)
    → method_body world name.method ≡ Some body
    → scope_of world name body ≡ Some scope
    → is_inside world name body ≡ true
    → verification world name body ≡ Ok typing
    → lays_out_frame world scope typing ≡ true
    → entry_bytes world scope body typing ≡ bytes
    → nat_le bytes most_bytes ≡ true
    → entry world name ≡ Some (record { body = body; scope = scope; bytes = bytes })
unfolding entry
entered_by world name body scope typing bytes has stands inside verified lays takes small =
    let given : ℕ → Entry = λ n. record { body = body; scope = scope; bytes = n } in
    ap (option_and_then (λ b. entry_in world name b (scope_of world name b))) has
    ∙ ap (entry_in world name body) stands
    ∙ ap (λ t. if t then entry_with world body scope (verification world name body) else None) inside
    ∙ ap (entry_with world body scope) verified
    ∙ ap (λ t. if t && nat_le (entry_bytes world scope body typing) most_bytes
    then Some (given (entry_bytes world scope body typing)) else None) lays
    ∙ ap (λ n. if true && nat_le n most_bytes then Some (given n) else None) takes
    ∙ ap (λ t. if true && t then Some (given bytes) else None) small

-- ---- steps

-- what the instruction does at which the top frame stands, where all that it looks up is known
pub does_step : (world : World) (setting : Setting) (streams : Streams) (state : CilState) (frame : Frame) (again :
    Bool)
    (found : Entry) (i : Instr) (prefix : Prefix) (is : Row) (did : Did) (result : CilRun)
    → find (λ other. other.at == frame.offset) found.body.code ≡ Some i
    → prefix_at found.scope found.body (reached_offsets found.body) i.at ≡ prefix
    → row_of found.scope prefix (action_at i) ≡ Some is
    → does setting found.scope (change_top (with_stack (drop is.takes frame.stack)) state) (length state.frames - 1)
    frame again prefix i.next (action_at i) (taken is.takes frame.stack) ≡ did
    → settles world setting state i.next streams did ≡ result
    → performs_in world setting state frame again streams (Some found) ≡ result
does_step world setting streams state frame again found i prefix is did result stands before has does_it settled_so =
    ap (performs world setting state frame again streams found) stands
    ∙ ap (λ p. settles world setting state i.next streams (with_prefix setting found state frame again i p)) before
    ∙ ap (λ r. settles world setting state i.next streams (with_row setting found state frame again prefix i r)) has
    ∙ ap (settles world setting state i.next streams) does_it
    ∙ settled_so

pub then_step : (world : World) (setting : Setting) (streams : Streams) (state : CilState) (frame : Frame)
    (name : MethodName) (found : Entry) (i : Instr) (prefix : Prefix) (is : Row) (did : Did) (result : CilRun)
    → entry world name ≡ Some found
    → find (λ other. other.at == frame.offset) found.body.code ≡ Some i
    → prefix_at found.scope found.body (reached_offsets found.body) i.at ≡ prefix
    → row_of found.scope prefix (action_at i) ≡ Some is
    → does setting found.scope (change_top (with_stack (drop is.takes frame.stack)) state) (length state.frames - 1)
    frame false prefix i.next (action_at i) (taken is.takes frame.stack) ≡ did
    → settles world setting state i.next streams did ≡ result
    → performs_in world setting state frame false streams (entry world name) ≡ result
then_step world setting streams state frame name found i prefix is did result enters stands before has does_it so =
    ap (performs_in world setting state frame false streams) enters
    ∙ does_step world setting streams state frame false found i prefix is did result stands before has does_it so

-- one more step of a run
pub goes_on : {State Cause : Type 0} (step : State → Streams → Run State Cause) (n : ℕ) (begin next : Run State Cause)
    (state : State) (streams : Streams)
    → after step n begin ≡ Goes state streams
    → step state streams ≡ next
    → after step (suc n) begin ≡ next
goes_on step n begin next state streams before goes = ap (one_more step) before ∙ goes

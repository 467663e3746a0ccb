-- What types and value types take, one step at a time.
use Rattle.std.proofs.Common.{◌≡◌, ◌∙◌, ℕ, zero, suc, ◌≤◌, ◌<◌, true, List, [], ◌∷◌, ◌++◌, map, length, get_or, Result}
use Rattle.std.proofs.Common.{sym, ap, subst, arith}
use Rattle.std.proofs.lemmas.List.Elements.{All-push}
use Rattle.std.specs.Prelude.{IfOk, if◌then◌else◌}
use Rattle.num_core.specs.declared.memory.Memory.{Memory}
use Rattle.ty_terms.specs.declared.names.TypeId.{TypeId}
use Rattle.ty_terms.specs.declared.ty.Ty.{Ty}
use Rattle.ty_terms.specs.declared.ty.Ty.TheVariants.{Named}
use Rattle.ty_terms.specs.Depth.{depth_of, depth_of_all}
use Rattle.ty_terms.specs.Induction.{fold-Named}
use Rattle.ty_names.specs.Modules.{World}
use Rattle.ty_load.specs.Bases.{is_value_type}
use Rattle.cli_layout.specs.declared.extent.Extent.{Extent}
use Rattle.cli_layout.specs.declared.extent.Extent.TheVariants.{Known}
use Rattle.cli_layout.specs.Extents.{all_known, extent_in, extent_step, reference, rows_extents, value_extent}
use Rattle.cli_layout.specs.Extents.{extent_with, most_within, value_within}
use Rattle.cli_layout.specs.Seen.{AreTrueOf, IsTrueOf}
use Rattle.cli_layout.specs.declared.seen.Seen.{Seen}
use Rattle.cli_layout.specs.declared.rows.FieldRow.{FieldRow}
use Rattle.cli_layout.specs.Fields.{asked_size, placed_fields}

extent_named : (left : ℕ) (world : World) (env : List Extent) (id : TypeId) (args : List Ty)
    → is_value_type world id ≡ true
    → extent_in left world env (Named id args) ≡ value_within left world id (map (extent_in left world env) args)
extent_named left world env id args is =
    fold-Named (extent_step (value_within left world) world env) id args
    ∙ ap (λ b. if b then value_within left world id (map (extent_in left world env) args) else Known reference) is

-- what is told of a value type is told of the type
pub named_told : (left : ℕ) (world : World) (env : List Extent) (ty : Ty) (id : TypeId) (types : List Ty)
    (args : List Extent) (result : Result Extent Memory) → ty ≡ Named id types → is_value_type world id ≡ true
    → args ≡ map (extent_in left world env) types
    → IfOk result (λ extent. extent ≡ value_within left world id args)
    → IfOk result (λ extent. extent ≡ extent_in left world env ty)
named_told left world env ty id types args result is value same told =
    subst (λ e. IfOk result (λ extent. extent ≡ e))
    (ap (value_within left world id) same ∙ sym (extent_named left world env id types value)
    ∙ ap (extent_in left world env) (sym is)) told

-- a value type takes what its fields make it take, over one definition less
pub value_is : (left k : ℕ) (world : World) (id : TypeId) (env extents : List Extent) (extent : Extent) → left ≡ suc k
    → extents ≡ rows_extents (extent_in k world env) id (placed_fields world id)
    → extent ≡ value_extent (asked_size world id) (all_known extents) → extent ≡ value_within left world id env
value_is left k world id env extents extent is same told =
    told ∙ ap (λ l. value_extent (asked_size world id) (all_known l)) same
    ∙ ap (λ n. value_within n world id env) (sym is)

-- so many definitions as there are
pub all_told : (k : ℕ) (world : World) (env : List Extent) (types : List Ty) (result : Result (List Extent) Memory)
    → k ≡ most_within world → IfOk result (λ extents. extents ≡ map (extent_in k world env) types)
    → IfOk result (λ extents. extents ≡ map (extent_with world env) types)
all_told k world env types result is told =
    subst (λ n. IfOk result (λ extents. extents ≡ map (extent_in n world env) types)) is told

pub rows_told : (k : ℕ) (world : World) (env : List Extent) (id : TypeId) (fields : List FieldRow)
    (result : Result (List Extent) Memory) → k ≡ most_within world
    → IfOk result (λ extents. extents ≡ rows_extents (extent_in k world env) id fields)
    → IfOk result (λ extents. extents ≡ rows_extents (extent_with world env) id fields)
rows_told k world env id fields result is told =
    subst (λ n. IfOk result (λ extents. extents ≡ rows_extents (extent_in n world env) id fields)) is told

-- what is noted is true, too
pub note_told : (world : World) (seen more : List Seen) (left : ℕ) (id : TypeId) (env : List Extent) (extent : Extent)
    → AreTrueOf world seen → extent ≡ value_within left world id env
    → more ≡ seen ++ (record { left = left; id = id; args = env; extent = extent } ∷ []) → AreTrueOf world more
note_told world seen more left id env extent all is added =
    subst (AreTrueOf world) (sym added)
    (All-push (IsTrueOf world) seen (record { left = left; id = id; args = env; extent = extent }) all is)

-- a type of a list is no deeper than the deepest
pub no_deeper : (types : List Ty) (i : ℕ) (d : Ty) → i < length types → depth_of (get_or types i d) ≤ depth_of_all types
no_deeper [] i d h = omega arith
no_deeper (ty ∷ rest) zero d h = omega arith
no_deeper (ty ∷ rest) (suc i) d h =
    let below : depth_of (get_or rest i d) ≤ depth_of_all rest = no_deeper rest i d (omega arith) in omega arith

pub no_deeper_item : (types : List Ty) (i : ℕ) (ty : Ty) → i < length types → ty ≡ get_or types i ty
    → depth_of ty ≤ depth_of_all types
no_deeper_item types i ty h is = subst (λ t. depth_of t ≤ depth_of_all types) (sym is) (no_deeper types i ty h)

-- No type of a field is deeper than its signature writes it, and no signature than the deepest.
use Rattle.std.proofs.Common.{◌≡◌, ◌∙◌, ◌+◌, ◌≤◌, ℕ, zero, suc, Bool, true, false, List, [], ◌∷◌, Option, Some, None}
use Rattle.std.proofs.Common.{Result, Ok, Err, refl, sym, subst, arith, map}
use Rattle.std.proofs.lemmas.List.Elements.{All-map}
use Rattle.std.specs.Prelude.{All as Each, IfOk, if◌then◌else◌, slice_get, slice_index_or}
use Rattle.std.specs.Option.{option_map, option_and_then}
use Rattle.num_core.specs.declared.memory.Memory.{Memory}
use Rattle.md_sigs.specs.Signatures.{signature}
use Rattle.md_sigs.specs.declared.fault.SigFault.{SigFault}
use Rattle.md_sigs.specs.declared.sig.Sig.{Sig}
use Rattle.md_tables.specs.declared.module.Table.{Table}
use Rattle.md_tables.specs.declared.module.TableRow.{TableRow}
use Rattle.ty_terms.specs.declared.names.TypeId.{TypeId}
use Rattle.ty_terms.specs.declared.ty.Primitive.{Primitive}
use Rattle.ty_terms.specs.declared.ty.Ty.{Ty}
use Rattle.ty_terms.specs.declared.ty.Ty.TheVariants.{Prim, Named, Vector, ByRef, Var, MVar}
use Rattle.ty_terms.specs.Depth.{depth_of, depth_of_all, depth_step, greatest}
use Rattle.ty_terms.specs.Subst.{has_variables_below}
use Rattle.ty_terms.specs.Induction.{All, induction, fold-Prim, fold-Named, fold-Vector, fold-ByRef, fold-Var}
use Rattle.ty_terms.specs.Induction.{fold-MVar, fold-Canon}
use Rattle.ty_names.specs.Modules.{ModuleOf, World, blob_of, cell_of, rows, tables_at, tables_of}
use Rattle.ty_names.specs.Definitions.{field_blob}
use Rattle.ty_load.specs.Bases.{parameters}
use Rattle.ty_load.specs.Members.{field_sig, field_sig_if}
use Rattle.ty_load.specs.Primitives.{primitive_of, primitive_or, type_of}
use Rattle.ty_load.specs.Types.{all_types, and_all, bounded, indexed, instance, is_void, no_void, resolve_step}
use Rattle.ty_load.specs.Types.{resolved}
use Rattle.cli_layout.specs.declared.rows.FieldRow.{FieldRow}
use Rattle.cli_layout.specs.Fields.{field_row}
use Rattle.cli_layout.specs.Told.{depth_if}
use Rattle.world_layouts.specs.Depths.{deepest_field, deepest_from, module_depth, row_depth, written_depth}
use Rattle.world_layouts.specs.Rows.{has_place, placed_among}
use Rattle.std.specs.Prelude.{filter}

-- ---- depths of types

depth-Named : (id : TypeId) (args : List Ty) → depth_of (Named id args) ≡ 1 + depth_of_all args
depth-Named id args = fold-Named depth_step id args

depth-Prim : (p : Primitive) → depth_of (Prim p) ≡ 1
depth-Prim p = fold-Prim depth_step p

-- ---- what is there, and what isn't

void_if : (void : Bool) (t ty : Ty) → (if void then None else Some t) ≡ Some ty → Some t ≡ Some ty
void_if true t ty e = absurd (let h : None ≡ Some ty = e in cc)
void_if false t ty e = e

no_void_is : (o : Option Ty) (ty : Ty) → no_void o ≡ Some ty → o ≡ Some ty
no_void_is None ty e = absurd (let h : None ≡ Some ty = e in cc)
no_void_is (Some t) ty e = void_if (is_void t) t ty e

module _ (world : World) (number : ℕ) where
  abbrev told : Ty → Option Ty
  told = resolved world number

  abbrev Shallow : Ty → Type 0
  Shallow ty = (found : Ty) → told ty ≡ Some found → depth_of found ≤ depth_of ty

  cons : (a : Ty) (args : List Ty) (first : Option Ty) (rest : Option (List Ty)) (types : List Ty)
      → no_void (told a) ≡ first → all_types (map told args) ≡ rest → and_all first rest ≡ Some types → Shallow a
      → ((ts : List Ty) → all_types (map told args) ≡ Some ts → depth_of_all ts ≤ depth_of_all args)
      → depth_of_all types ≤ depth_of_all (a ∷ args)
  cons a args None rest types is rs e s r = absurd (let h : None ≡ Some types = e in cc)
  cons a args (Some t) None types is rs e s r = absurd (let h : None ≡ Some types = e in cc)
  cons a args (Some t) (Some ts) types is rs e s r =
      let h : Some (t ∷ ts) ≡ Some types = e in
      let all : List Ty = t ∷ ts in
      let same : all ≡ types = cc in
      let x : depth_of t ≤ depth_of a = s t (no_void_is (told a) t is) in
      let y : depth_of_all ts ≤ depth_of_all args = r ts rs in
      subst (λ l. depth_of_all l ≤ depth_of_all (a ∷ args)) same (omega (arith, x, y))

  all_shallow : (args : List Ty) → All Shallow args → (types : List Ty) → all_types (map told args) ≡ Some types
      → depth_of_all types ≤ depth_of_all args
  all_shallow [] all types e =
      let h : Some [] ≡ Some types = e in
      let none : List Ty = [] in
      let same : none ≡ types = cc in
      subst (λ l. depth_of_all l ≤ 0) same (omega arith)
  all_shallow (a ∷ args) all types e =
      cons a args (no_void (told a)) (all_types (map told args)) types refl refl e all.0
      (λ ts is. all_shallow args all.1 ts is)

  of_type : (id : TypeId) (types : List Ty) (p : Option Primitive)
      → depth_of (primitive_or p (Named id types)) ≤ 1 + depth_of_all types
  of_type id types None = let d = depth-Named id types in omega (arith, d)
  of_type id types (Some p) = let d = depth-Prim p in omega (arith, d)

  instance_if : (b : Bool) (ty found : Ty) → (if b then Some ty else None) ≡ Some found → Some ty ≡ Some found
  instance_if true ty found e = e
  instance_if false ty found e = absurd (let h : None ≡ Some found = e in cc)

  by_parts : (id : TypeId) (args : List Ty) (found : Ty) (o : Option (List Ty)) (i : Option TypeId)
      → all_types (map told args) ≡ o
      → option_and_then (λ types. option_and_then (instance world types) i) o ≡ Some found → All Shallow args
      → depth_of found ≤ depth_of (Named id args)
  by_parts id args found None i is e all = absurd (let h : None ≡ Some found = e in cc)
  by_parts id args found (Some types) None is e all = absurd (let h : None ≡ Some found = e in cc)
  by_parts id args found (Some types) (Some other) is e all =
      let ty : Ty = type_of world other types in
      let h : Some ty ≡ Some found = instance_if _ ty found e in
      let same : ty ≡ found = cc in
      let a : depth_of ty ≤ 1 + depth_of_all types = of_type other types (primitive_of world other) in
      let b : depth_of_all types ≤ depth_of_all args = all_shallow args all types is in
      let d = depth-Named id args in
      subst (λ t. depth_of t ≤ depth_of (Named id args)) same (omega (arith, a, b, d))

  of_named : (id : TypeId) (args : List Ty) → All Shallow args → Shallow (Named id args)
  of_named id args all found e =
      by_parts id args found (all_types (map told args)) (indexed world number id.row) refl
      (sym (fold-Named (resolve_step world number) id args) ∙ e) all

  by_inner : (wrap : Ty → Ty) (element found : Ty) (o : Option Ty) → ((t : Ty) → depth_of (wrap t) ≡ 1 + depth_of t)
      → no_void (told element) ≡ o → option_map wrap o ≡ Some found → Shallow element
      → depth_of found ≤ depth_of (wrap element)
  by_inner wrap element found None deep is e s = absurd (let h : None ≡ Some found = e in cc)
  by_inner wrap element found (Some t) deep is e s =
      let h : Some (wrap t) ≡ Some found = e in
      let same : wrap t ≡ found = cc in
      let x : depth_of t ≤ depth_of element = s t (no_void_is (told element) t is) in
      let y = deep t in
      let z = deep element in
      subst (λ f. depth_of f ≤ depth_of (wrap element)) same (omega (arith, x, y, z))

  itself : (ty found : Ty) → told ty ≡ Some ty → told ty ≡ Some found → depth_of found ≤ depth_of ty
  itself ty found is e =
      let h : Some ty ≡ Some found = sym is ∙ e in
      let same : ty ≡ found = cc in
      subst (λ f. depth_of f ≤ depth_of ty) same (omega arith)

  shallow : (ty : Ty) → Shallow ty
  shallow =
      induction Shallow (record {
        primitive = λ p found. itself (Prim p) found (fold-Prim (resolve_step world number) p);
        named = of_named;
        vector = λ element s found e.
            by_inner (λ t. Vector t) element found (no_void (told element)) (fold-Vector depth_step) refl
            (sym (fold-Vector (resolve_step world number) element) ∙ e) s;
        by_ref = λ target s found e.
            by_inner (λ t. ByRef t) target found (no_void (told target)) (fold-ByRef depth_step) refl
            (sym (fold-ByRef (resolve_step world number) target) ∙ e) s;
        var = λ n found. itself (Var n) found (fold-Var (resolve_step world number) n);
        mvar = λ n found. itself (MVar n) found (fold-MVar (resolve_step world number) n);
        canon = λ found e.
            absurd (let h : None ≡ Some found = sym (fold-Canon (resolve_step world number)) ∙ e in cc);
      })

-- ---- fields

kept_if : (void : Bool) (t : Ty) (most : ℕ) → depth_of t ≤ most → depth_if (if void then None else Some t) ≤ most
kept_if true t most h = omega arith
kept_if false t most h = h

kept : (below : Bool) (t : Ty) (most : ℕ) → depth_of t ≤ most
    → depth_if (no_void (if below then Some t else None)) ≤ most
kept true t most h = kept_if (is_void t) t most h
kept false t most h = omega arith

typed : (world : World) (number owner method : ℕ) (ty : Ty) (o : Option Ty) → resolved world number ty ≡ o
    → depth_if (no_void (bounded owner method o)) ≤ depth_of ty
typed world number owner method ty None is = omega arith
typed world number owner method ty (Some t) is =
    kept (has_variables_below owner method t) t (depth_of ty) (shallow world number ty t is)

module _ (world : World) (id : TypeId) where
  by_sig : (sig : Result Sig SigFault) → depth_if (field_sig_if world id sig) ≤ written_depth sig
  by_sig (Ok (Sig.Field ty)) =
      typed world id.module (parameters world id) 0 ty (resolved world id.module ty) refl
  by_sig (Ok (Sig.Method m)) = omega arith
  by_sig (Ok (Sig.Locals l)) = omega arith
  by_sig (Ok (Sig.Args l)) = omega arith
  by_sig (Err fault) = omega arith

nothing_written : (number : ℕ) → written_depth (signature number []) ≡ 0
unfolding signature
nothing_written number = refl

in_greatest : (f : TableRow → ℕ) (items : List TableRow) (k : ℕ) (item : TableRow) → slice_get items k ≡ Some item
    → f item ≤ greatest (map f items)
in_greatest f [] k item is = absurd (let h : None ≡ Some item = is in cc)
in_greatest f (first ∷ rest) zero item is =
    let h : Some first ≡ Some item = is in
    let same : first ≡ item = cc in
    subst (λ i. f i ≤ greatest (map f (first ∷ rest))) same (omega arith)
in_greatest f (first ∷ rest) (suc k) item is = let h = in_greatest f rest k item is in omega (arith, h)

by_row : (number : ℕ) (tables : List Table) (o : Option TableRow) (k : ℕ) → slice_get (rows tables 0x04) k ≡ o
    → written_depth (signature number (blob_of (cell_of o 2))) ≤ module_depth number tables
by_row number tables None k is = let h = nothing_written number in omega (arith, h)
by_row number tables (Some row) k is = in_greatest (row_depth number) (rows tables 0x04) k row is

in_module : (number : ℕ) (tables : List Table) (row : ℕ)
    → written_depth (signature number (field_blob tables row)) ≤ module_depth number tables
in_module number tables zero = let h = nothing_written number in omega (arith, h)
in_module number tables (suc k) = by_row number tables (slice_get (rows tables 0x04) k) k refl

in_world : (from i : ℕ) (world : World) (found : ModuleOf) → slice_get world i ≡ Some found
    → module_depth (from + i) found.tables ≤ deepest_from from world
in_world from i [] found is = absurd (let h : None ≡ Some found = is in cc)
in_world from zero (first ∷ rest) found is =
    let h : Some first ≡ Some found = is in
    let same : first ≡ found = cc in
    let none : from ≡ from + 0 = omega arith in
    subst (λ n. module_depth n found.tables ≤ deepest_from from (first ∷ rest)) none
    (subst (λ m. module_depth from m.tables ≤ deepest_from from (first ∷ rest)) same (omega arith))
in_world from (suc i) (first ∷ rest) found is =
    let next : from + 1 + i ≡ from + suc i = omega arith in
    let h = in_world (from + 1) i rest found is in
    subst (λ n. module_depth n found.tables ≤ deepest_from from (first ∷ rest)) next (omega (arith, h))

by_module : (world : World) (number row : ℕ) (o : Option ModuleOf) → slice_get world number ≡ o
    → written_depth (signature number (field_blob (tables_of o) row)) ≤ deepest_field world
by_module world number row None is = let h = in_module number [] row in omega (arith, h)
by_module world number row (Some found) is =
    let h = in_module number found.tables row in
    let g : module_depth number found.tables ≤ deepest_field world =
    subst (λ n. module_depth n found.tables ≤ deepest_field world) (omega arith) (in_world 0 number world found is)
    in
    omega (arith, h, g)

field_shallow : (world : World) (id : TypeId) (row : ℕ) → depth_if (field_sig world id row) ≤ deepest_field world
field_shallow world id row =
    let h = by_sig world id (signature id.module (field_blob (tables_at world id.module) row)) in
    let g = by_module world id.module row (slice_get world id.module) refl in
    omega (arith, h, g)

abbrev IsShallow : World → FieldRow → Type 0
IsShallow world field = depth_if field.ty ≤ deepest_field world

pub depth_told : (world : World) (id : TypeId) (static : Bool) (among : List ℕ) (result : Result (List FieldRow) Memory)
    → IfOk result (λ found. found ≡ placed_among world id static among)
    → IfOk result (Each (λ field. depth_if field.ty ≤ deepest_field world))
depth_told world id static among (Err memory) told = tt
depth_told world id static among (Ok found) told =
    subst (Each (IsShallow world)) (sym told)
    (All-map (IsShallow world) (field_row world id) (filter (has_place world id static) among)
    (λ k d h. field_shallow world id (slice_index_or (filter (has_place world id static) among) k d)))

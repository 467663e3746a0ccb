-- Types that are loaded one after another, and what is found of each.
use Rattle.std.proofs.Common.{◌≡◌, ◌∙◌, All, Bool, true, false, List, [], ◌∷◌, ◌++◌, Option, Some, None, Result}
use Rattle.std.proofs.Common.{Ok, Err, refl, sym, ap, ap₂, subst, append_assoc, find}
use Rattle.std.proofs.lemmas.List.Elements.{All-nil, All-cons, All-head, All-tail, All-weaker}
use Rattle.std.specs.Prelude.{IfOk, cond, unwrap_or}
use Rattle.std.specs.Option.{option_map}
use Rattle.std.specs.Ordering.{eq_by_cmp, is_eq}
use Rattle.std.specs.declared.cmp.Ordering.{Ordering}
use Rattle.std.specs.declared.cmp.Ordering.TheVariants.{Less, Equal, Greater}
use Rattle.ty_terms.specs.declared.ty.Ty.{Ty}
use Rattle.ty_terms.specs.Order.{order}
use Rattle.ty_layout.specs.Fields.{AreLaid}
use Rattle.cli_layout.specs.declared.extent.Unlaid.{Unlaid}
use Rattle.cli_layout.specs.declared.fault.LayoutFault.{LayoutFault}
use Rattle.cli_layout.specs.declared.fault.LayoutFault.TheVariants.{ObjectLimit, NoBase, NoField, Memory}
use Rattle.cli_layout.specs.declared.loading.CliLayout.{CliLayout}
use Rattle.ty_names.specs.Modules.{World}
use Rattle.ty_terms.specs.Exact.{IsExactOrder}
use Rattle.cli_layout.specs.declared.rows.Loaded.{Loaded}
use Rattle.cli_layout.specs.declared.rows.TypeLayout.{TypeLayout}
use Rattle.cli_layout.specs.Loading.{AreFound, Gives, loaded, with_statics, IsLoaded, IsSmall, IsSmallOne, layout_in}
use Rattle.cli_layout.specs.Loading.{layout_or, loaded_by, why, with_next}
use Rattle.cli_layout.specs.Types.{bare, laid_of, statics_of}

-- those that are loaded, in front of what comes of the others
abbrev pub in_front : List Loaded → Result (List Loaded) LayoutFault → Result (List Loaded) LayoutFault
in_front done (Ok rest) = Ok (done ++ rest)
in_front done (Err fault) = Err fault

pub one_more : (done : List Loaded) (ty : Ty) (layout : TypeLayout) (rest : Result (List Loaded) LayoutFault)
    → in_front done (with_next ty (Ok layout) rest)
    ≡ in_front (done ++ (record { ty = ty; layout = layout } ∷ [])) rest
one_more done ty layout (Ok rest) =
    ap (λ l. Ok l) (sym (append_assoc done (record { ty = ty; layout = layout } ∷ []) rest))
one_more done ty layout (Err fault) = refl

-- ---- what is found of each

abbrev pub Finds : (Ty → Result TypeLayout Unlaid) → List Loaded → Ty → Type 0
Finds lay loaded ty = (layout : TypeLayout) × (layout_in loaded ty ≡ Some layout) × (lay ty ≡ Ok layout)

abbrev entry : Ty → TypeLayout → Loaded
entry ty layout = record { ty = ty; layout = layout }

-- what is found behind one more in front, by how that compares with the type
abbrev found_by : Ty → TypeLayout → List Loaded → Ty → Ordering → Option TypeLayout
found_by ty layout rest other compared =
    option_map (λ found. found.layout)
    (cond (is_eq compared) (Some (entry ty layout)) (find (λ found. eq_by_cmp order found.ty other) rest))

module _ (exact : (a b : Ty) → order a b ≡ Equal → a ≡ b) (same : (a : Ty) → order a a ≡ Equal)
    (lay : Ty → Result TypeLayout Unlaid) where
  itself : (ty : Ty) (layout : TypeLayout) (rest : List Loaded) → lay ty ≡ Ok layout
      → Finds lay (entry ty layout ∷ rest) ty
  itself ty layout rest laid = (layout, ap (found_by ty layout rest ty) (same ty), laid)

  behind : (ty : Ty) (layout : TypeLayout) (rest : List Loaded) (other : Ty) (compared : Ordering)
      → order ty other ≡ compared → lay ty ≡ Ok layout → Finds lay rest other
      → Finds lay (entry ty layout ∷ rest) other
  behind ty layout rest other Equal is laid finds =
      (layout, ap (found_by ty layout rest other) is, subst (λ t. lay t ≡ Ok layout) (exact ty other is) laid)
  behind ty layout rest other Less is laid finds =
      (finds.0, ap (found_by ty layout rest other) is ∙ finds.1, finds.2)
  behind ty layout rest other Greater is laid finds =
      (finds.0, ap (found_by ty layout rest other) is ∙ finds.1, finds.2)

  next : (ty : Ty) (rest : List Ty) (told : Result TypeLayout Unlaid) (others : Result (List Loaded) LayoutFault)
      (loaded : List Loaded) → lay ty ≡ told → loaded_by lay rest ≡ others → with_next ty told others ≡ Ok loaded
      → ((l : List Loaded) → loaded_by lay rest ≡ Ok l → All (Finds lay l) rest) → All (Finds lay loaded) (ty ∷ rest)
  next ty rest (Err unlaid) others loaded is os e again = absurd (let h : Err (why ty unlaid) ≡ Ok loaded = e in cc)
  next ty rest (Ok layout) (Err fault) loaded is os e again = absurd (let h : Err fault ≡ Ok loaded = e in cc)
  next ty rest (Ok layout) (Ok others) loaded is os e again =
      let h : Ok (entry ty layout ∷ others) ≡ Ok loaded = e in
      let all : List Loaded = entry ty layout ∷ others in
      let l : all ≡ loaded = cc in
      subst (λ l. All (Finds lay l) (ty ∷ rest)) l
      (All-cons (Finds lay all) ty rest (itself ty layout others is)
      (All-weaker (Finds lay others) (Finds lay all)
      (λ other finds. behind ty layout others other (order ty other) refl is finds) rest (again others os)))

  pub finds_all : (types : List Ty) (loaded : List Loaded) → loaded_by lay types ≡ Ok loaded
      → All (Finds lay loaded) types
  finds_all [] loaded is = All-nil (Finds lay loaded)
  finds_all (ty ∷ rest) loaded is =
      next ty rest (lay ty) (loaded_by lay rest) loaded refl refl is (λ l e. finds_all rest l e)

pub are_found : (lay : Ty → Result TypeLayout Unlaid) (loaded : List Loaded) (types : List Ty)
    → All (Finds lay loaded) types → AreFound lay loaded types
are_found lay loaded types finds =
    All-weaker (Finds lay loaded) (λ ty. lay ty ≡ Ok (layout_or loaded ty))
    (λ ty f. f.2 ∙ ap (λ l. Ok l) (sym (ap (λ found. unwrap_or found (bare 0)) f.1))) types finds

-- what is found is one of those that are loaded
small_if : (one : Loaded) (rest : List Loaded) (ty : Ty) (layout : TypeLayout) (same : Bool)
    → option_map (λ found. found.layout) (cond same (Some one) (find (λ found. eq_by_cmp order found.ty ty) rest))
    ≡ Some layout → IsSmallOne one → (layout_in rest ty ≡ Some layout → IsSmall layout) → IsSmall layout
small_if one rest ty layout true is small next =
    subst IsSmall (let h : Some one.layout ≡ Some layout = is in cc) small
small_if one rest ty layout false is small next = next is

small_found : (loaded : List Loaded) (ty : Ty) (layout : TypeLayout) → All IsSmallOne loaded
    → layout_in loaded ty ≡ Some layout → IsSmall layout
small_found [] ty layout small is = absurd (let h : None ≡ Some layout = is in cc)
small_found (one ∷ rest) ty layout small is =
    small_if one rest ty layout (eq_by_cmp order one.ty ty) is (All-head IsSmallOne one rest small)
    (λ e. small_found rest ty layout (All-tail IsSmallOne one rest small) e)

pub are_loaded : (lay : Ty → Result TypeLayout Unlaid) (loaded : List Loaded) (types : List Ty)
    → ((ty : Ty) (layout : TypeLayout) → lay ty ≡ Ok layout → AreLaid layout.fields layout.laid)
    → All IsSmallOne loaded → All (Finds lay loaded) types → All (IsLoaded loaded) types
are_loaded lay loaded types laid small finds =
    All-weaker (Finds lay loaded) (IsLoaded loaded)
    (λ ty f. record {
      layout = f.0;
      found = f.1;
      laid = laid ty f.0 f.2;
      small = small_found loaded ty f.0 small f.1;
    }) types finds

-- ---- what is told by both lists

pub all_found : IsExactOrder order → (lay : Ty → Result TypeLayout Unlaid) (slice types : List Ty)
    (answer : Result (List Loaded) LayoutFault) (loaded : List Loaded) → slice ≡ types
    → Gives (loaded_by lay slice) answer → answer ≡ Ok loaded → All (Finds lay loaded) types
all_found law lay slice types answer loaded same told is =
    subst (All (Finds lay loaded)) same
    (finds_all (λ a b e. (law.exact a b).0 e) (λ a. (law.exact a a).1 refl) lay slice loaded
    (subst (λ e. Gives (loaded_by lay slice) e) is told))

pub all_small : (answer : Result (List Loaded) LayoutFault) (loaded : List Loaded)
    → IfOk answer (All IsSmallOne) → answer ≡ Ok loaded → All IsSmallOne loaded
all_small answer loaded small is = subst (λ e. IfOk e (All IsSmallOne)) is small

module _ (world : World) (slice types slice' statics : List Ty) (types_answer statics_answer : Result (List Loaded)
    LayoutFault)
    (same : slice ≡ types) (same' : slice' ≡ statics)
    (types_told : Gives (loaded_by (laid_of world) slice) types_answer)
    (statics_told : Gives (loaded_by (statics_of world) slice') statics_answer) where
  moved : Gives (loaded_by (laid_of world) types) types_answer
  moved = subst (λ l. Gives (loaded_by (laid_of world) l) types_answer) same types_told

  moved' : Gives (loaded_by (statics_of world) statics) statics_answer
  moved' = subst (λ l. Gives (loaded_by (statics_of world) l) statics_answer) same' statics_told

  pub both_loaded : (ts ss : List Loaded) → types_answer ≡ Ok ts → statics_answer ≡ Ok ss
      → loaded world types statics ≡ Ok (record { types = ts; statics = ss })
  unfolding loaded
  both_loaded ts ss t s =
      ap₂ with_statics (subst (λ e. Gives (loaded_by (laid_of world) types) e) t moved)
      (subst (λ e. Gives (loaded_by (statics_of world) statics) e) s moved')

  statics_fail : (ts : List Loaded) (fault : LayoutFault) → types_answer ≡ Ok ts
      → Gives (loaded_by (statics_of world) statics) (Err fault) → Gives (loaded world types statics) (Err fault)
  unfolding loaded
  statics_fail ts (ObjectLimit ty) t told =
      ap₂ with_statics (subst (λ e. Gives (loaded_by (laid_of world) types) e) t moved) told
  statics_fail ts (NoBase id) t told =
      ap₂ with_statics (subst (λ e. Gives (loaded_by (laid_of world) types) e) t moved) told
  statics_fail ts (NoField id row) t told =
      ap₂ with_statics (subst (λ e. Gives (loaded_by (laid_of world) types) e) t moved) told
  statics_fail ts Memory t told = tt

  pub statics_failed : (ts : List Loaded) (fault : LayoutFault) (result : Result CliLayout LayoutFault)
      → types_answer ≡ Ok ts → statics_answer ≡ Err fault → result ≡ Err fault
      → Gives (loaded world types statics) result
  statics_failed ts fault result t s r =
      subst (λ e. Gives (loaded world types statics) e) (sym r)
      (statics_fail ts fault t (subst (λ e. Gives (loaded_by (statics_of world) statics) e) s moved'))

module _ (world : World) (slice types statics : List Ty) (types_answer : Result (List Loaded) LayoutFault)
    (same : slice ≡ types) (types_told : Gives (loaded_by (laid_of world) slice) types_answer) where
  types_fail : (fault : LayoutFault) → Gives (loaded_by (laid_of world) types) (Err fault)
      → Gives (loaded world types statics) (Err fault)
  unfolding loaded
  types_fail (ObjectLimit ty) told = ap (λ e. with_statics e (loaded_by (statics_of world) statics)) told
  types_fail (NoBase id) told = ap (λ e. with_statics e (loaded_by (statics_of world) statics)) told
  types_fail (NoField id row) told = ap (λ e. with_statics e (loaded_by (statics_of world) statics)) told
  types_fail Memory told = tt

  pub types_failed : (fault : LayoutFault) (result : Result CliLayout LayoutFault) → types_answer ≡ Err fault
      → result ≡ Err fault → Gives (loaded world types statics) result
  types_failed fault result t r =
      subst (λ e. Gives (loaded world types statics) e) (sym r)
      (types_fail fault
      (subst (λ l. Gives (loaded_by (laid_of world) l) (Err fault)) same
      (subst (λ e. Gives (loaded_by (laid_of world) slice) e) t types_told)))

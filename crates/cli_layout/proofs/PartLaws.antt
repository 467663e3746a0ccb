-- The parts of an object, class by class.
use Rattle.std.proofs.Common.{◌≡◌, ◌≢◌, ◌∙◌, ℕ, suc, ◌-◌, Bool, true, false, arith, rules, List, [], ◌∷◌, ◌++◌}
use Rattle.std.proofs.Common.{Option, Some, None, Result, Ok, Err, map, refl}
use Rattle.std.proofs.Common.{sym, ap, ap₂, subst}
use Rattle.std.specs.Prelude.{if◌then◌else◌}
use Rattle.std.specs.Option.{option_map_or}
use Rattle.ty_terms.specs.declared.names.TypeId.{TypeId}
use Rattle.ty_terms.specs.declared.ty.Ty.{Ty}
use Rattle.ty_terms.specs.declared.ty.Ty.TheVariants.{Named}
use Rattle.ty_terms.specs.declared.ty.Ty.TheOpen.{Ty-F}
use Rattle.ty_terms.specs.declared.ty.Ty.TheViews.{out-Ty, the_lemmas}
use Rattle.ty_layout.specs.declared.field.Field.{Field}
use Rattle.ty_names.specs.Modules.{World}
use Rattle.ty_load.specs.declared.fault.ResolveFault.{ResolveFault}
use Rattle.ty_load.specs.Bases.{is_value_type}
use Rattle.ty_load.specs.Primitives.{definition_of}
use Rattle.ty_load.specs.Walks.{arguments, base_by}
use Rattle.cli_layout.specs.declared.extent.Extent.{Extent}
use Rattle.cli_layout.specs.declared.extent.Unlaid.{Unlaid}
use Rattle.cli_layout.specs.declared.extent.Unlaid.TheVariants.{TooLarge, NoBase, NoField}
use Rattle.cli_layout.specs.declared.fault.Fault.{Fault}
use Rattle.cli_layout.specs.declared.fault.Fault.TheVariants.{Not, Memory}
use Rattle.cli_layout.specs.declared.rows.FieldRow.{FieldRow}
use Rattle.cli_layout.specs.declared.rows.Base.{Base}
use Rattle.cli_layout.specs.declared.rows.Base.TheVariants.{Nothing, Of, Missing}
use Rattle.cli_layout.specs.declared.rows.TypeLayout.{TypeLayout}
use Rattle.cli_layout.specs.Extents.{both, extent_with}
use Rattle.cli_layout.specs.Fields.{placed_fields}
use Rattle.cli_layout.specs.Told.{Tells, told_base}
use Rattle.cli_layout.specs.Types.{class_laid, fields_in, laid_if, laid_layer, laid_of, value_laid}
use Rattle.cli_layout.specs.Types.{parts_above, parts_over, parts_within, under, within}

abbrev Parts : Type 0
Parts = List (List Field)

-- ---- a class and those above it

pub positive : (n : ℕ) → n ≢ 0 → n ≡ suc (n - 1)
positive n is = omega arith

-- what is told of a class's own fields, and of the classes above it
module _ (left k : ℕ) (world : World) (id : TypeId) (env : List Extent) (rows : List FieldRow)
    (found : Result (List Field) Fault) (above : Result Parts Fault) (is : left ≡ suc k)
    (same : rows ≡ placed_fields world id) (told : Tells (fields_in world env id rows) found)
    (above_told : Tells (parts_over k world env id) above) where
  abbrev own : Result (List Field) Unlaid
  own = fields_in world env id rows

  abbrev over : Result Parts Unlaid
  over = parts_over k world env id

  whole : (result : Result Parts Fault) → Tells (both under own over) result
      → Tells (parts_within left world id env) result
  whole result t =
      subst (λ n. Tells (parts_within n world id env) result) (sym is)
      (subst (λ l. Tells (both under (fields_in world env id l) over) result) same t)

  own_is : (answer : Result (List Field) Fault) → found ≡ answer → Tells own answer
  own_is answer e = subst (λ r. Tells own r) e told

  over_is : (answer : Result Parts Fault) → above ≡ answer → Tells over answer
  over_is answer e = subst (λ r. Tells over r) e above_told

  pub with_part : (part : List Field) (parts result : Parts) → found ≡ Ok part → above ≡ Ok parts
      → result ≡ parts ++ (part ∷ []) → parts_within left world id env ≡ Ok result
  with_part part parts result o a r =
      subst (λ l. parts_within left world id env ≡ Ok l) (sym r)
      (whole (Ok (parts ++ (part ∷ []))) (ap₂ (both under) (own_is (Ok part) o) (over_is (Ok parts) a)))

  failed : (part : List Field) (fault : Fault) → found ≡ Ok part → above ≡ Err fault
      → Tells (parts_within left world id env) (Err fault)
  failed part (Not unlaid) o a =
      whole (Err (Not unlaid)) (ap₂ (both under) (own_is (Ok part) o) (over_is (Err (Not unlaid)) a))
  failed part Memory o a = tt

  pub with_fault : (part : List Field) (fault : Fault) (result : Result Parts Fault) → found ≡ Ok part
      → above ≡ Err fault → result ≡ Err fault → Tells (parts_within left world id env) result
  with_fault part fault result o a r =
      subst (λ e. Tells (parts_within left world id env) e) (sym r) (failed part fault o a)

  large_failed : (fault : Fault) → found ≡ Err (Not TooLarge) → above ≡ Err fault
      → Tells (parts_within left world id env) (Err fault)
  large_failed (Not unlaid) o a =
      whole (Err (Not unlaid)) (ap₂ (both under) (own_is (Err (Not TooLarge)) o) (over_is (Err (Not unlaid)) a))
  large_failed Memory o a = tt

  pub large_with_fault : (fault : Fault) (result : Result Parts Fault) → found ≡ Err (Not TooLarge)
      → above ≡ Err fault → result ≡ Err fault → Tells (parts_within left world id env) result
  large_with_fault fault result o a r =
      subst (λ e. Tells (parts_within left world id env) e) (sym r) (large_failed fault o a)

  pub large : (parts : Parts) → found ≡ Err (Not TooLarge) → above ≡ Ok parts
      → parts_within left world id env ≡ Err TooLarge
  large parts o a =
      whole (Err (Not TooLarge)) (ap₂ (both under) (own_is (Err (Not TooLarge)) o) (over_is (Ok parts) a))

-- what is told of a class's own fields alone
module _ (left k : ℕ) (world : World) (id : TypeId) (env : List Extent) (rows : List FieldRow)
    (found : Result (List Field) Fault) (is : left ≡ suc k) (same : rows ≡ placed_fields world id)
    (told : Tells (fields_in world env id rows) found) where
  alone : (unlaid : Unlaid) → both under (Err unlaid) (parts_over k world env id) ≡ Err unlaid
      → found ≡ Err (Not unlaid) → parts_within left world id env ≡ Err unlaid
  alone unlaid stays o =
      ap (λ n. parts_within n world id env) is
      ∙ ap (λ l. both under (fields_in world env id l) (parts_over k world env id)) (sym same)
      ∙ ap (λ r. both under r (parts_over k world env id))
      (subst (λ r. Tells (fields_in world env id rows) r) o told)
      ∙ stays

  pub no_base : (other : TypeId) → found ≡ Err (Not (NoBase other))
      → parts_within left world id env ≡ Err (NoBase other)
  no_base other = alone (NoBase other) refl

  pub no_field : (other : TypeId) (row : ℕ) → found ≡ Err (Not (NoField other row))
      → parts_within left world id env ≡ Err (NoField other row)
  no_field other row = alone (NoField other row) refl

-- ---- what is above a definition

module _ (left : ℕ) (world : World) (env : List Extent) (id : TypeId) where
  missing_by : (base : Result (Option Ty) ResolveFault) → told_base base ≡ Missing
      → parts_above (parts_within left world) world env id base ≡ Err (NoBase id)
  missing_by (Err fault) is = refl
  missing_by (Ok None) is = absurd (let h : Nothing ≡ Missing = is in cc)
  missing_by (Ok (Some base)) is = absurd (let h : Of base ≡ Missing = is in cc)

  pub missing : (base : Base) → base ≡ told_base (base_by world id) → base ≡ Missing
      → parts_over left world env id ≡ Err (NoBase id)
  missing base told is = missing_by (base_by world id) (sym told ∙ is)

  nothing_by : (base : Result (Option Ty) ResolveFault) → told_base base ≡ Nothing
      → parts_above (parts_within left world) world env id base ≡ Ok []
  nothing_by (Err fault) is = absurd (let h : Missing ≡ Nothing = is in cc)
  nothing_by (Ok None) is = refl
  nothing_by (Ok (Some base)) is = absurd (let h : Of base ≡ Nothing = is in cc)

  pub nothing : (base : Base) (result : Parts) → base ≡ told_base (base_by world id) → base ≡ Nothing → result ≡ []
      → parts_over left world env id ≡ Ok result
  nothing base result told is empty =
      nothing_by (base_by world id) (sym told ∙ is) ∙ ap (λ l. Ok l) (sym empty)

  of_by : (base : Result (Option Ty) ResolveFault) (ty : Ty) → told_base base ≡ Of ty
      → parts_above (parts_within left world) world env id base
      ≡ option_map_or (λ above. parts_within left world above (map (extent_with world env) (arguments ty)))
      (definition_of world ty) (Ok [])
  of_by (Err fault) ty is = absurd (let h : Missing ≡ Of ty = is in cc)
  of_by (Ok None) ty is = absurd (let h : Nothing ≡ Of ty = is in cc)
  of_by (Ok (Some base)) ty is =
      ap (λ t. option_map_or (λ above. parts_within left world above (map (extent_with world env) (arguments t)))
      (definition_of world t) (Ok [])) (let h : Of base ≡ Of ty = is in let e : base ≡ ty = cc in e)

  pub undefined : (base : Base) (ty : Ty) (found : Option TypeId) (result : Parts)
      → base ≡ told_base (base_by world id) → base ≡ Of ty → found ≡ definition_of world ty → found ≡ None
      → result ≡ [] → parts_over left world env id ≡ Ok result
  undefined base ty found result told is same none empty =
      of_by (base_by world id) ty (sym told ∙ is)
      ∙ ap (λ d. option_map_or (λ above. parts_within left world above (map (extent_with world env) (arguments ty))) d
      (Ok [])) (sym same ∙ none)
      ∙ ap (λ l. Ok l) (sym empty)

  pub defined : (base : Base) (ty : Ty) (found : Option TypeId) (above : TypeId) (types : List Ty)
      (args : List Extent) (result : Result Parts Fault) → base ≡ told_base (base_by world id) → base ≡ Of ty
      → found ≡ definition_of world ty → found ≡ Some above → types ≡ arguments ty
      → args ≡ map (extent_with world env) types → Tells (parts_within left world above args) result
      → Tells (parts_over left world env id) result
  defined base ty found above types args result told is same some written given answer =
      subst (λ r. Tells r result)
      (ap (parts_within left world above)
      (given ∙ ap (map (extent_with world env)) written)
      ∙ ap (λ d. option_map_or (λ a. parts_within left world a (map (extent_with world env) (arguments ty))) d (Ok []))
      (sym some ∙ same)
      ∙ sym (of_by (base_by world id) ty (sym told ∙ is))) answer

-- ---- a type by its parts

laid_err : {A : Type 0} (in_object : ℕ → ℕ) (lay : A → TypeLayout) (parts : Result A Unlaid) (fault : Fault)
    → Tells parts (Err fault) → Tells (laid_if in_object lay parts) (Err fault)
laid_err in_object lay parts (Not unlaid) told = ap (laid_if in_object lay) told
laid_err in_object lay parts Memory told = tt

-- fields that aren't laid, and those that are
module _ (in_object : ℕ → ℕ) (lay : List Field → TypeLayout) (world : World) (env args : List Extent) (id : TypeId)
    (rows fields : List FieldRow) (found : Result (List Field) Fault) (same : args ≡ env) (same_rows : rows ≡ fields)
    (told : Tells (fields_in world args id rows) found) where
  abbrev laid : Result TypeLayout Unlaid
  laid = laid_if in_object lay (fields_in world env id fields)

  moved : Tells (fields_in world env id fields) found
  moved = subst (λ l. Tells (fields_in world env id l) found) same_rows
      (subst (λ e. Tells (fields_in world e id rows) found) same told)

  pub not_laid : (fault : Fault) (result : Result TypeLayout Fault) → found ≡ Err fault → result ≡ Err fault
      → Tells laid result
  not_laid fault result o r =
      subst (λ e. Tells laid e) (sym r)
      (laid_err in_object lay (fields_in world env id fields) fault
      (subst (λ e. Tells (fields_in world env id fields) e) o moved))

  pub is_laid : (part : List Field) (result : Result TypeLayout Fault) → found ≡ Ok part
      → Tells (within in_object (lay part)) result → Tells laid result
  is_laid part result o t =
      subst (λ e. Tells e result)
      (sym (ap (laid_if in_object lay) (subst (λ e. Tells (fields_in world env id fields) e) o moved))) t

-- ---- what is told of a type by its layer

module _ (world : World) (ty : Ty) (id : TypeId) (args : List Ty) (result : Result TypeLayout Fault)
    (is : ty ≡ Named id args) where
  named_out : out-Ty ty ≡ Ty-F.Named id args
  named_out = search (rules, the_lemmas)

  by_kind : (b : Bool) → is_value_type world id ≡ b
      → Tells (if b then value_laid world ty id else class_laid world ty id) result → Tells (laid_of world ty) result
  unfolding laid_of
  by_kind b value told =
      subst (λ e. Tells e result)
      (sym (ap (laid_layer world ty) named_out
      ∙ ap (λ k. if k then value_laid world ty id else class_laid world ty id) value)) told

  pub of_value : is_value_type world id ≡ true → Tells (value_laid world ty id) result
      → Tells (laid_of world ty) result
  of_value value told = by_kind true value told

  pub of_class : is_value_type world id ≡ false → Tells (class_laid world ty id) result
      → Tells (laid_of world ty) result
  of_class value told = by_kind false value told

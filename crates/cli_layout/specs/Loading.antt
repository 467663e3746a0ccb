-- The layouts of types that are loaded.
use Rattle.std.specs.Prelude.{◌≡◌, ℕ, All, ◌<◌, ◌≤◌, ◌^◌, length, max, List, [], ◌∷◌, find, fold, Option, Some}
use Rattle.std.specs.Prelude.{Result, Ok, Err, unwrap_or}
use Rattle.std.specs.Prelude.{slice_index_or}
use Rattle.std.specs.Int.{next_multiple_of}
use Rattle.std.specs.Option.{option_map}
use Rattle.std.specs.Ordering.{eq_by_cmp}
use Rattle.ty_terms.specs.declared.ty.Ty.{Ty}
use Rattle.ty_terms.specs.Order.{order}
use Rattle.ty_layout.specs.declared.field.Field.{Field}
use Rattle.ty_layout.specs.Fields.{AreLaid}
use Rattle.ty_names.specs.Modules.{World}
use Rattle.cli_layout.specs.declared.extent.Unlaid.{Unlaid}
use Rattle.cli_layout.specs.declared.extent.Unlaid.TheVariants.{TooLarge, NoBase, NoField}
use Rattle.cli_layout.specs.declared.fault.Fault.{Fault}
use Rattle.cli_layout.specs.declared.fault.LayoutFault.{LayoutFault}
use Rattle.cli_layout.specs.declared.fault.LayoutFault.TheVariants as faults
use Rattle.cli_layout.specs.declared.loading.CliLayout.{CliLayout}
use Rattle.cli_layout.specs.declared.rows.Loaded.{Loaded}
use Rattle.cli_layout.specs.declared.rows.TypeLayout.{TypeLayout}
use Rattle.cli_layout.specs.Extents.{reference}
use Rattle.cli_layout.specs.Types.{bare, laid_of, statics_of}

-- ---- what is loaded, or the first fault

abbrev pub why : Ty → Unlaid → LayoutFault
why ty TooLarge = faults.ObjectLimit ty
why ty (NoBase id) = faults.NoBase id
why ty (NoField id row) = faults.NoField id row

abbrev pub with_next : Ty → Result TypeLayout Unlaid → Result (List Loaded) LayoutFault
    → Result (List Loaded) LayoutFault
with_next ty (Err unlaid) rest = Err (why ty unlaid)
with_next ty (Ok layout) (Err fault) = Err fault
with_next ty (Ok layout) (Ok rest) = Ok (record { ty = ty; layout = layout } ∷ rest)

abbrev pub loaded_by : (Ty → Result TypeLayout Unlaid) → List Ty → Result (List Loaded) LayoutFault
loaded_by lay [] = Ok []
loaded_by lay (ty ∷ rest) = with_next ty (lay ty) (loaded_by lay rest)

abbrev pub with_statics : Result (List Loaded) LayoutFault → Result (List Loaded) LayoutFault
    → Result CliLayout LayoutFault
with_statics (Err fault) statics = Err fault
with_statics (Ok types) (Err fault) = Err fault
with_statics (Ok types) (Ok statics) = Ok (record { types = types; statics = statics })

-- The layouts of some types and of the statics of others. The first of them that isn't laid out is the fault.
unfoldable pub loaded : World → List Ty → List Ty → Result CliLayout LayoutFault
loaded world types statics =
    with_statics (loaded_by (laid_of world) types) (loaded_by (statics_of world) statics)

-- An answer is what is loaded, or the fault, or want of memory.
abbrev pub Gives : {A : Type 0} → Result A LayoutFault → Result A LayoutFault → Type 0
Gives told (Ok answer) = told ≡ Ok answer
Gives told (Err faults.Memory) = Unit {0}
Gives told (Err fault) = told ≡ Err fault

-- why a type isn't loaded, or want of memory
abbrev pub Says : Ty → Fault → LayoutFault → Type 0
Says ty (Fault.Not unlaid) faults.Memory = Unit {0}
Says ty (Fault.Not unlaid) fault = fault ≡ why ty unlaid
Says ty Fault.Memory fault = fault ≡ faults.Memory

-- ---- what is told of a type that is loaded

abbrev pub layout_in : List Loaded → Ty → Option TypeLayout
layout_in types ty = option_map (λ found. found.layout) (find (λ found. eq_by_cmp order found.ty ty) types)

abbrev pub layout_or : List Loaded → Ty → TypeLayout
layout_or types ty = unwrap_or (layout_in types ty) (bare 0)

-- as large as an object may be, and with few enough fields for numbers of 32 bits
pub record IsSmall (layout : TypeLayout) : Type 0 where
  pub size : layout.laid.size ≤ 65536
  pub count : length layout.fields < 2 ^ 32

abbrev pub IsSmallOne : Loaded → Type 0
IsSmallOne loaded = IsSmall loaded.layout

-- A type is loaded: its layout is small, and its fields lie apart, aligned and within it.
pub record IsLoaded (types : List Loaded) (ty : Ty) : Type 0 where
  pub layout : TypeLayout
  pub found : layout_in types ty ≡ Some layout
  pub laid : AreLaid layout.fields layout.laid
  pub small : IsSmall layout

abbrev pub field_or : List Loaded → Ty → ℕ → Field
field_or types ty n = slice_index_or (layout_or types ty).fields n reference

abbrev pub place_or : List Loaded → Ty → ℕ → ℕ
place_or types ty n = slice_index_or (layout_or types ty).laid.places n 0

-- the layouts found are those that the types have
abbrev pub AreFound : (Ty → Result TypeLayout Unlaid) → List Loaded → List Ty → Type 0
AreFound lay loaded types = All (λ ty. lay ty ≡ Ok (layout_or loaded ty)) types

-- the greatest of 8 and the sizes of these types, each rounded up to 8
abbrev pub widest_in : List Loaded → List Ty → ℕ
widest_in loaded types = fold (λ most ty. max most (next_multiple_of (layout_or loaded ty).laid.size 8)) 8 types

-- Small modules, worked by hand: what the definitions say of them.
use Rattle.std.proofs.Common.{◌≡◌, ℕ, List, [], ◌∷◌, Some, None, Ok, Err, refl, true, map}
use Rattle.std.specs.Prelude.{codes}
use Rattle.std.specs.Str.{chars}
use Rattle.md_rows.specs.declared.cell.Cell.{Cell}
use Rattle.md_rows.specs.declared.cell.Cell.TheVariants.{Number, Name, Blob, Index, Coded}
use Rattle.md_tables.specs.declared.module.Table.{Table}
use Rattle.md_tables.specs.declared.module.TableRow.{TableRow}
use Rattle.ty_terms.specs.declared.ty.Ty as Types
use Rattle.ty_load.specs.declared.fault.LoadFault.TheVariants.{Cyclic, Twice, NoEntry}
use Rattle.ty_names.specs.Modules.{ModuleOf, World}
use Rattle.ty_names.specs.Escapes.{name_text, type_name_text}
use Rattle.ty_names.specs.TypeTexts.{definition_text}
use Rattle.ty_names.specs.References.{id_of, reference}
use Rattle.ty_load.specs.Cycles.{first_on_cycle, inherits}
use Rattle.ty_load.specs.Bases.{is_value_type}
use Rattle.ty_load.specs.Valid.{world_fault}
use Rattle.ty_load.specs.Search.{type_by_name}
use Rattle.ty_load.specs.Tokens.{resolution}
use Rattle.ty_load.specs.declared.fault.ResolveFault.TheVariants.{Unresolved}
use Rattle.ty_load.specs.declared.item.Item.TheVariants.{OfType}
use Rattle.ty_terms.specs.declared.ty.Ty.TheVariants.{Named}

-- ---- names

angle_stays : name_text (codes "<Main>b<0>") ≡ codes "<Main>b\\u003C0\\u003E"
unfolding chars
angle_stays = refl

letters_stay : name_text (codes "List`1") ≡ codes "List`1"
unfolding chars
letters_stay = refl

-- U+00E9, and U+10000 as two units
others_do_not : name_text (0xC3 ∷ 0xA9 ∷ 0xF0 ∷ 0x90 ∷ 0x80 ∷ 0x80 ∷ []) ≡ codes "\\u00E9\\uD800\\uDC00"
unfolding chars
others_do_not = refl

last_dot : type_name_text (codes "A.") ≡ codes "A\\u002E"
unfolding chars
last_dot = refl

no_name : type_name_text [] ≡ codes "\\u0000"
unfolding chars
no_name = refl

-- ---- modules

row : List Cell → TableRow
row cells = record { cells = cells; body = None }

table : ℕ → List (List Cell) → Table
table number cells = record { number = number; rows = map row cells }

«module» : List Table → ModuleOf
«module» tables = record { entry = 0x06000001; user = []; tables = tables }

-- The core: System.Object, ValueType, Enum, Int32 and an interface, the second to the sixth of its types.
core : ModuleOf
unfolding row table «module»
core = «module» (
    table 0x02 (
    (Number 0 ∷ Name (codes "<Module>") ∷ Name [] ∷ Coded 0x02 0 ∷ Index 1 ∷ Index 1 ∷ [])
    ∷ (Number 1 ∷ Name (codes "Object") ∷ Name (codes "System") ∷ Coded 0x02 0 ∷ Index 1 ∷ Index 1 ∷ [])
    ∷ (Number 1 ∷ Name (codes "ValueType") ∷ Name (codes "System") ∷ Coded 0x02 2 ∷ Index 1 ∷ Index 1 ∷ [])
    ∷ (Number 1 ∷ Name (codes "Enum") ∷ Name (codes "System") ∷ Coded 0x02 3 ∷ Index 1 ∷ Index 1 ∷ [])
    ∷ (Number 1 ∷ Name (codes "Int32") ∷ Name (codes "System") ∷ Coded 0x02 3 ∷ Index 1 ∷ Index 1 ∷ [])
    ∷ (Number 0xA1 ∷ Name (codes "IDisposable") ∷ Name (codes "System") ∷ Coded 0x02 0 ∷ Index 1 ∷ Index 1 ∷ [])
    ∷ []) ∷ [])

-- A module `m`: <Module>, N.A, a type B nested in it, an enum E and a class C that extends itself.
main : ModuleOf
unfolding row table «module»
main = «module» (
    table 0x01 (
    (Coded 0x23 1 ∷ Name (codes "Object") ∷ Name (codes "System") ∷ [])
    ∷ (Coded 0x23 1 ∷ Name (codes "Enum") ∷ Name (codes "System") ∷ [])
    ∷ (Coded 0x23 2 ∷ Name (codes "A") ∷ Name (codes "N") ∷ [])
    ∷ (Coded 0x01 3 ∷ Name (codes "B") ∷ Name [] ∷ [])
    ∷ (Coded 0x01 5 ∷ Name (codes "B") ∷ Name [] ∷ [])
    ∷ []) ∷
    table 0x02 (
    (Number 0 ∷ Name (codes "<Module>") ∷ Name [] ∷ Coded 0x02 0 ∷ Index 1 ∷ Index 1 ∷ [])
    ∷ (Number 1 ∷ Name (codes "A") ∷ Name (codes "N") ∷ Coded 0x01 1 ∷ Index 1 ∷ Index 1 ∷ [])
    ∷ (Number 2 ∷ Name (codes "B") ∷ Name [] ∷ Coded 0x01 1 ∷ Index 1 ∷ Index 1 ∷ [])
    ∷ (Number 1 ∷ Name (codes "E") ∷ Name [] ∷ Coded 0x01 2 ∷ Index 1 ∷ Index 1 ∷ [])
    ∷ (Number 1 ∷ Name (codes "C") ∷ Name [] ∷ Coded 0x02 5 ∷ Index 1 ∷ Index 1 ∷ [])
    ∷ []) ∷
    table 0x20 (
    (Number 0 ∷ Number 0 ∷ Number 0 ∷ Number 0 ∷ Number 0 ∷ Number 0 ∷ Blob [] ∷ Name (codes "m") ∷ Name [] ∷ [])
    ∷ []) ∷
    table 0x23 (
    (Number 0 ∷ Number 0 ∷ Number 0 ∷ Number 0 ∷ Number 0 ∷ Blob [] ∷ Name (codes "System.Runtime") ∷ Name [] ∷ Blob []
    ∷ [])
    ∷ (Number 0 ∷ Number 0 ∷ Number 0 ∷ Number 0 ∷ Number 0 ∷ Blob [] ∷ Name (codes "m") ∷ Name [] ∷ Blob [] ∷ [])
    ∷ []) ∷
    table 0x29 ((Index 3 ∷ Index 2 ∷ []) ∷ []) ∷ [])

world : World
world = main ∷ core ∷ []

nested_type : definition_text world (id_of 0 3) ≡ codes "[m]N.A+B"
unfolding world main core row table «module» chars
nested_type = refl

core_type : definition_text world (id_of 1 5) ≡ codes "System.Int32"
unfolding world main core row table «module» chars
core_type = refl

reference_to_core : reference world 0 2 ≡ Some (id_of 1 4)
unfolding world main core row table «module» chars
reference_to_core = refl

nested_reference : reference world 0 4 ≡ Some (id_of 0 3)
unfolding world main core row table «module» chars
nested_reference = refl

circular_reference : reference world 0 5 ≡ None
unfolding world main core row table «module» chars
circular_reference = refl

enum_is_a_value_type : is_value_type world (id_of 0 4) ≡ true
unfolding world main core row table «module» chars Types.out-Ty denote.Hole.Carrier.out
enum_is_a_value_type = refl

extends_itself : first_on_cycle world (inherits world) ≡ Some (id_of 0 5)
unfolding world main core row table «module» chars Types.out-Ty denote.Hole.Carrier.out
extends_itself = refl

cycle_is_told : world_fault world ≡ Some (Cyclic (codes "[m]C"))
unfolding world_fault world main core row table «module» chars Types.out-Ty denote.Hole.Carrier.out
cycle_is_told = refl

name_twice_comes_first : world_fault (main ∷ main ∷ core ∷ []) ≡ Some (Twice (codes "m"))
unfolding world_fault main core row table «module» chars Types.out-Ty denote.Hole.Carrier.out
name_twice_comes_first = refl

-- the core alone has no entry
no_entry : world_fault (core ∷ []) ≡ Some NoEntry
unfolding world_fault core row table «module» chars Types.out-Ty denote.Hole.Carrier.out
no_entry = refl

-- ---- tokens

type_token : resolution world 0 0x01000002 [] [] ≡ Ok (OfType (Named (id_of 1 4) []))
unfolding resolution world main core row table «module» chars Types.out-Ty denote.Hole.Carrier.out
type_token = refl

circular_token : resolution world 0 0x01000005 [] [] ≡ Err (Unresolved (codes "B"))
unfolding resolution world main core row table «module» chars Types.out-Ty denote.Hole.Carrier.out
circular_token = refl

no_row : resolution world 0 0x0200000A [] [] ≡ Err (Unresolved (codes "0200000a"))
unfolding resolution world main core row table «module» chars Types.out-Ty denote.Hole.Carrier.out
no_row = refl

type_name_of_program : type_by_name world (codes "N.A+B, m") ≡ Some (id_of 0 3)
unfolding type_by_name world main core row table «module» chars Types.out-Ty denote.Hole.Carrier.out
type_name_of_program = refl

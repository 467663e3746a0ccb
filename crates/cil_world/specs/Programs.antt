-- Small programs as worlds of two modules, each its own and a core of Object alone: ECMA-335 II.22, II.25.4. This core
-- has no methods, and what runs over it asks for none.
use Rattle.std.specs.Prelude.{ℕ, List, [], ◌∷◌, codes, Option, Some, None}
use Rattle.std.proofs.Common.{leb-true, refl}
use Rattle.num_core.specs.declared.bounds.Bounds.{Bounds}
use Rattle.num_core.specs.Run.{Streams}
use Rattle.md_rows.specs.declared.cell.Cell.{Cell}
use Rattle.md_rows.specs.declared.cell.Cell.TheVariants.{Number, Name, Blob, Index, Coded}
use Rattle.md_tables.specs.Modules.{ModuleParts}
use Rattle.md_tables.specs.declared.module.Table.{Table}
use Rattle.md_tables.specs.declared.module.TableRow.{TableRow}
use Rattle.ty_names.specs.Modules.{World}

-- ---- rows

abbrev pub row : List Cell → TableRow
row cells = record { cells = cells; body = None }

abbrev pub table : ℕ → List TableRow → Table
table number rows = record { number = number; rows = rows }

-- TypeDef: flags, namespace and name, what is extended, and the first field and method
abbrev pub class : ℕ → List ℕ → List ℕ → Cell → ℕ → ℕ → TableRow
class flags namespace name extends fields methods =
    row (Number flags ∷ Name name ∷ Name namespace ∷ extends ∷ Index fields ∷ Index methods ∷ [])

-- MethodDef: flags, name, signature and body
abbrev pub method : ℕ → List ℕ → List ℕ → Option (List ℕ) → TableRow
method flags name sig body =
    record { cells = Number 0 ∷ Number flags ∷ Name name ∷ Blob sig ∷ Index 1 ∷ []; body = body }

-- `static int Main()` with this body
abbrev pub main : List ℕ → TableRow
main body = method 0x91 (codes "Main") (0x00 ∷ 0x00 ∷ 0x08 ∷ []) (Some body)

-- ---- modules

-- a core of Object alone, behind the class that stands for members outside of types
abbrev pub core : ModuleParts
core =
    record {
      entry = 0;
      user = [];
      tables =
          table 0x02 (class 0 [] (codes "<Module>") (Coded 0x02 0) 1 1
          ∷ class 0x0010_0001 (codes "System") (codes "Object") (Coded 0x02 0) 1 1 ∷ []) ∷ [];
    }

-- A program of one class, P, which extends Object; its first method is the entry.
abbrev pub program : List TableRow → World
program methods =
    record {
      entry = 0x0600_0001;
      user = [];
      tables =
          table 0x01 (row (Coded 0x23 1 ∷ Name (codes "Object") ∷ Name (codes "System") ∷ []) ∷ [])
          ∷ table 0x02 (class 0 [] (codes "<Module>") (Coded 0x02 0) 1 1
          ∷ class 0x0010_0000 [] (codes "P") (Coded 0x01 1) 1 1 ∷ [])
          ∷ table 0x06 methods
          ∷ table 0x23 (row (Number 4 ∷ Number 0 ∷ Number 0 ∷ Number 0 ∷ Number 0 ∷ Blob []
          ∷ Name (codes "System.Runtime") ∷ Name [] ∷ Blob [] ∷ []) ∷ [])
          ∷ [];
    }
    ∷ core ∷ []

-- 1,024 bytes of heap and of stack
unfoldable pub small_bounds : Bounds
small_bounds =
    record {
      heap = 1024;
      stack = 1024;
      heap_aligned = refl;
      heap_limit = leb-true 1024 268435456 refl;
      stack_aligned = refl;
      stack_limit = leb-true 1024 67108864 refl;
    }

-- nothing read, nothing written but this error text
abbrev pub told : List ℕ → Streams
told text = record { input = []; output = []; error = text }

-- ---- programs

-- `static int Main() { return 42; }`
unfoldable pub constant : World
constant =
    program (main (0x0E ∷ 0x1F ∷ 0x2A ∷ 0x2A ∷ []) ∷ [])

-- `static int F(int x) { return x + 1; }  static int Main() { return F(F(5)); }`
unfoldable pub two_calls : World
two_calls =
    program
    (main (0x32 ∷ 0x1B ∷ 0x28 ∷ 2 ∷ 0 ∷ 0 ∷ 6 ∷ 0x28 ∷ 2 ∷ 0 ∷ 0 ∷ 6 ∷ 0x2A ∷ [])
    ∷ method 0x91 (codes "F") (0x00 ∷ 0x01 ∷ 0x08 ∷ 0x08 ∷ []) (Some (0x12 ∷ 0x02 ∷ 0x17 ∷ 0x58 ∷ 0x2A ∷ [])) ∷ [])

-- `static int F() { return F(); }  static int Main() { return F(); }`
unfoldable pub endless : World
endless =
    program
    (main (0x1A ∷ 0x28 ∷ 2 ∷ 0 ∷ 0 ∷ 6 ∷ 0x2A ∷ [])
    ∷ method 0x91 (codes "F") (0x00 ∷ 0x00 ∷ 0x08 ∷ []) (Some (0x1A ∷ 0x28 ∷ 2 ∷ 0 ∷ 0 ∷ 6 ∷ 0x2A ∷ [])) ∷ [])

-- Small programs with objects, as worlds of two modules, each its own and a core of the few types that it names:
-- ECMA-335 II.22, II.25.4.
use Rattle.std.specs.Prelude.{ℕ, List, [], ◌∷◌, codes, Some, None}
use Rattle.std.proofs.Common.{leb-true, refl}
use Rattle.num_core.specs.declared.bounds.Bounds.{Bounds}
use Rattle.md_rows.specs.declared.cell.Cell.TheVariants.{Number, Name, Blob, Coded}
use Rattle.md_tables.specs.Modules.{ModuleParts}
use Rattle.md_tables.specs.declared.module.TableRow.{TableRow}
use Rattle.ty_names.specs.Modules.{World}
use Rattle.cil_world.specs.Programs.{class, main, method, row, table}

-- ---- rows

-- TypeRef: a type of the core in the namespace System
abbrev pub named : List ℕ → TableRow
named name = row (Coded 0x23 1 ∷ Name name ∷ Name (codes "System") ∷ [])

-- TypeDef: the class behind which members outside of types stand
abbrev pub outermost : TableRow
outermost = class 0 [] (codes "<Module>") (Coded 0x02 0) 1 1

-- Field: flags, name and the signature
abbrev pub field : ℕ → List ℕ → List ℕ → TableRow
field flags name sig = row (Number flags ∷ Name name ∷ Blob sig ∷ [])

-- StandAloneSig: the types of locals
abbrev pub locals : List ℕ → TableRow
locals sig = row (Blob sig ∷ [])

-- a constructor without parameters, which does nothing
abbrev pub constructor : TableRow
constructor = method 0x1886 (codes ".ctor") (0x20 ∷ 0x00 ∷ 0x01 ∷ []) (Some (0x06 ∷ 0x2A ∷ []))

-- ---- modules

-- types behind the outermost one, and fields
abbrev pub core_with : List TableRow → List TableRow → ModuleParts
core_with types fields =
    record { entry = 0; user = []; tables = table 0x02 (outermost ∷ types) ∷ table 0x04 fields ∷ [] }

-- System.Object, the second type of each core
abbrev pub object : TableRow
object = class 0x0010_0001 (codes "System") (codes "Object") (Coded 0x02 0) 1 1

-- A program of a core, the types of it that the program's module names, and the module's own types behind the outermost
-- one, fields, methods and signatures of locals. The first method is the entry.
abbrev pub program_over : ModuleParts → List TableRow → List TableRow → List TableRow → List TableRow → List TableRow
    → World
program_over core references types fields methods sigs =
    record {
      entry = 0x0600_0001;
      user = [];
      tables =
          table 0x01 references
          ∷ table 0x02 (outermost ∷ types)
          ∷ table 0x04 fields
          ∷ table 0x06 methods
          ∷ table 0x11 sigs
          ∷ table 0x23 (row (Number 4 ∷ Number 0 ∷ Number 0 ∷ Number 0 ∷ Number 0 ∷ Blob []
          ∷ Name (codes "System.Runtime") ∷ Name [] ∷ Blob [] ∷ []) ∷ [])
          ∷ [];
    }
    ∷ core ∷ []

-- ---- programs

-- `abstract class B { public abstract int V(); }  class C : B { public override int V() { return 7; } }
-- static int Main() { B b = new C(); return b.V(); }`
unfoldable pub virtual_call : World
virtual_call =
    program_over (core_with (object ∷ []) [])
    (named (codes "Object") ∷ [])
    (class 0x0010_0000 [] (codes "P") (Coded 0x01 1) 1 1
    ∷ class 0x0010_0081 [] (codes "B") (Coded 0x01 1) 1 2
    ∷ class 0x0010_0001 [] (codes "C") (Coded 0x02 3) 1 3 ∷ [])
    []
    (main (0x2E ∷ 0x73 ∷ 3 ∷ 0 ∷ 0 ∷ 6 ∷ 0x6F ∷ 2 ∷ 0 ∷ 0 ∷ 6 ∷ 0x2A ∷ [])
    ∷ method 0x05C6 (codes "V") (0x20 ∷ 0x00 ∷ 0x08 ∷ []) None
    ∷ constructor
    ∷ method 0x00C6 (codes "V") (0x20 ∷ 0x00 ∷ 0x08 ∷ []) (Some (0x0A ∷ 0x1D ∷ 0x2A ∷ [])) ∷ [])
    []

-- `struct S { public int x; }
-- static int Main() { S s; s.x = 9; object o = s; s.x = 1; return ((S)o).x; }`
unfoldable pub boxed_value : World
boxed_value =
    program_over
    (core_with (object ∷ class 0x0010_0081 (codes "System") (codes "ValueType") (Coded 0x02 2) 1 1 ∷ []) [])
    (named (codes "Object") ∷ named (codes "ValueType") ∷ [])
    (class 0x0010_0000 [] (codes "P") (Coded 0x01 1) 1 1
    ∷ class 0x0010_0109 [] (codes "S") (Coded 0x01 2) 1 2 ∷ [])
    (field 0x0006 (codes "x") (0x06 ∷ 0x08 ∷ []) ∷ [])
    (main (0x13 ∷ 0x30 ∷ 8 ∷ 0 ∷ 34 ∷ 0 ∷ 0 ∷ 0 ∷ 1 ∷ 0 ∷ 0 ∷ 0x11
    ∷ 0x12 ∷ 0 ∷ 0x1F ∷ 9 ∷ 0x7D ∷ 1 ∷ 0 ∷ 0 ∷ 4
    ∷ 0x06 ∷ 0x8C ∷ 3 ∷ 0 ∷ 0 ∷ 2
    ∷ 0x12 ∷ 0 ∷ 0x17 ∷ 0x7D ∷ 1 ∷ 0 ∷ 0 ∷ 4
    ∷ 0xA5 ∷ 3 ∷ 0 ∷ 0 ∷ 2 ∷ 0x7B ∷ 1 ∷ 0 ∷ 0 ∷ 4 ∷ 0x2A ∷ []) ∷ [])
    (locals (0x07 ∷ 0x01 ∷ 0x11 ∷ 0x0C ∷ []) ∷ [])

-- `class E { }
-- static int Main() { try { try { throw new E(); } finally { } } catch (E) { } return 3; }`
unfoldable pub caught_behind : World
caught_behind =
    program_over (core_with (object ∷ []) [])
    (named (codes "Object") ∷ [])
    (class 0x0010_0000 [] (codes "P") (Coded 0x01 1) 1 1
    ∷ class 0x0010_0001 [] (codes "E") (Coded 0x01 1) 1 2 ∷ [])
    []
    (main (0x0B ∷ 0x30 ∷ 8 ∷ 0 ∷ 12 ∷ 0 ∷ 0 ∷ 0 ∷ 0 ∷ 0 ∷ 0 ∷ 0
    ∷ 0x73 ∷ 2 ∷ 0 ∷ 0 ∷ 6 ∷ 0x7A ∷ 0xDC ∷ 0x26 ∷ 0xDE ∷ 0 ∷ 0x19 ∷ 0x2A
    -- a finally clause of 0 to 6, with its handler to 7, and a catch clause of 0 to 7, with its handler to 10
    ∷ 0x01 ∷ 28 ∷ 0 ∷ 0
    ∷ 2 ∷ 0 ∷ 0 ∷ 0 ∷ 6 ∷ 6 ∷ 0 ∷ 1 ∷ 0 ∷ 0 ∷ 0 ∷ 0
    ∷ 0 ∷ 0 ∷ 0 ∷ 0 ∷ 7 ∷ 7 ∷ 0 ∷ 3 ∷ 3 ∷ 0 ∷ 0 ∷ 2 ∷ [])
    ∷ constructor ∷ [])
    []

-- `class E : Exception { }  class A { static A() { throw new E(); }  public static void F() { } }
-- static int Main() { object a, b;
-- try { A.F(); } catch (object e) { a = e; }
-- try { A.F(); } catch (object e) { b = e; }
-- return a == b ? 1 : 0; }`
unfoldable pub failing_initializer : World
failing_initializer =
    program_over
    (core_with
    (object
    ∷ class 0x0010_0001 (codes "System") (codes "Exception") (Coded 0x02 2) 1 1
    ∷ class 0x0010_0001 (codes "System") (codes "TypeInitializationException") (Coded 0x02 3) 3 1 ∷ [])
    (field 0x0001 (codes "_message") (0x06 ∷ 0x0E ∷ [])
    ∷ field 0x0001 (codes "_inner") (0x06 ∷ 0x12 ∷ 0x0C ∷ []) ∷ []))
    (named (codes "Object") ∷ named (codes "Exception") ∷ [])
    (class 0x0010_0000 [] (codes "P") (Coded 0x01 1) 1 1
    ∷ class 0x0000_0000 [] (codes "A") (Coded 0x01 1) 1 2
    ∷ class 0x0010_0001 [] (codes "E") (Coded 0x01 2) 1 4 ∷ [])
    []
    (main (0x1B ∷ 0x30 ∷ 8 ∷ 0 ∷ 25 ∷ 0 ∷ 0 ∷ 0 ∷ 1 ∷ 0 ∷ 0 ∷ 0x11
    ∷ 0x28 ∷ 3 ∷ 0 ∷ 0 ∷ 6 ∷ 0xDE ∷ 3 ∷ 0x0A ∷ 0xDE ∷ 0
    ∷ 0x28 ∷ 3 ∷ 0 ∷ 0 ∷ 6 ∷ 0xDE ∷ 3 ∷ 0x0B ∷ 0xDE ∷ 0
    ∷ 0x06 ∷ 0x07 ∷ 0xFE ∷ 0x01 ∷ 0x2A
    ∷ 0 ∷ 0 ∷ 0
    -- a catch clause of 0 to 7, with its handler to 10, and one of 10 to 17, with its handler to 20
    ∷ 0x01 ∷ 28 ∷ 0 ∷ 0
    ∷ 0 ∷ 0 ∷ 0 ∷ 0 ∷ 7 ∷ 7 ∷ 0 ∷ 3 ∷ 1 ∷ 0 ∷ 0 ∷ 1
    ∷ 0 ∷ 0 ∷ 10 ∷ 0 ∷ 7 ∷ 17 ∷ 0 ∷ 3 ∷ 1 ∷ 0 ∷ 0 ∷ 1 ∷ [])
    ∷ method 0x1891 (codes ".cctor") (0x00 ∷ 0x00 ∷ 0x01 ∷ []) (Some (0x1A ∷ 0x73 ∷ 4 ∷ 0 ∷ 0 ∷ 6 ∷ 0x7A ∷ []))
    ∷ method 0x0096 (codes "F") (0x00 ∷ 0x00 ∷ 0x01 ∷ []) (Some (0x06 ∷ 0x2A ∷ []))
    ∷ constructor ∷ [])
    (locals (0x07 ∷ 0x02 ∷ 0x1C ∷ 0x1C ∷ []) ∷ [])

-- 1,024 bytes of heap and 2,048 of stack
unfoldable pub wide_bounds : Bounds
wide_bounds =
    record {
      heap = 1024;
      stack = 2048;
      heap_aligned = refl;
      heap_limit = leb-true 1024 268435456 refl;
      stack_aligned = refl;
      stack_limit = leb-true 2048 67108864 refl;
    }
